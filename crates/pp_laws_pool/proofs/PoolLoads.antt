-- A chunk that is loaded is that of the next byte of the client that is written to: it is one, however often it is loaded.
use Rattle.std.proofs.Common.{◌≡◌, ◌⊎◌, refl, ℕ, ◌+◌, ◌-◌, ◌/◌, ◌≤◌, nat_lt, Bool, true, false, not, ◌==◌, ◌&&◌, ◌||◌, bytes_eq, List, [], ◌∷◌, ◌++◌, filter, find, cond, length, is_some, Option, Some, None, inl, inr, sym, subst, ap, ap₂, ◌∙◌, le_trans, arith}
use Rattle.std.specs.List.{list_any}
use Rattle.std.proofs.lemmas.Slice.Eq.{bytes_eq-Decides}
use Rattle.pp_conf.specs.Conf.{Settings}
use Rattle.pp_law.specs.Asking.{is_writing}
use Rattle.pp_law.specs.Chunks.{chunk_len, is_chunk, is_in_memory, note_use, put_chunk}
use Rattle.pp_law.specs.Lists.{Bytes, is_some_with}
use Rattle.pp_law.specs.Offers.{is_at_body}
use Rattle.pp_law.specs.Permits.{is_kept_there, may_load, may_load_at}
use Rattle.pp_law.specs.Stages.{reply_of}
use Rattle.pp_law.specs.State.{State, Chunk, Client, Entry, Instance, Handling, Owed, Free, ReadOf, WriteTo, Reply}
use Rattle.pp_law.specs.Store.{chunk_in_file, is_at_rest, load, load_from}
use Rattle.pp_law.specs.Table.{instance, is_instance, is_row_of, kept_row, Next, next_from, next_in, next_of, pin_of_client, row, source_of}
use Rattle.pp_laws.specs.Runs.{IsIn}
use Rattle.pp_laws.proofs.Lists.{in_filter, in_find, one_of}
use Rattle.pp_laws.proofs.Sound.{Since, Sound, client_number, facts_of as sound_facts}
use Rattle.pp_laws.proofs.Tests.{first_holds, number_same, same_bytes, same_number, second_holds}
use Rattle.pp_laws_bounds.proofs.Counts.{count-push, length-filter}
use Rattle.pp_laws_pool.proofs.ChunkLists.{put_apart, put_length, put_one}
use Rattle.pp_laws_pool.proofs.PoolFacts.{As, Pool, calm}
use Rattle.pp_laws_pool.proofs.PoolGot.{came_near}
use Rattle.pp_laws_pool.proofs.PoolTurns.{Inv, Loaded, Quiet, Where, as_phase, fewer, in_owed}
use Rattle.pp_laws_pool.proofs.View.{Holds, holds, facts_of}

-- ---- what a permission tells

-- who is written to, and where it goes on
record Tells (s : State) (key : Bytes) (i : ℕ) : Type 0 where
  client : Client
  there : IsIn client s.clients
  writes : is_writing s.owed client.number ≡ true
  next : Next
  goes_on : next_of s client ≡ Some next
  stands : next.source.is_retired ≡ false
  key_of : next.source.key ≡ key
  chunk : next.at / chunk_len ≡ i

any_in : {A : Type 0} (p : A → Bool) (xs : List A) → list_any p xs ≡ true → (x : A) × IsIn x xs × (p x ≡ true)
any_in p [] is = absurd (cc is)
any_in {A} p (y ∷ ys) is = by (p y) refl is (λ rest. any_in p ys rest)
  where
    by : (t : Bool) → p y ≡ t → (t || list_any p ys) ≡ true → (list_any p ys ≡ true → (x : A) × IsIn x ys × (p x ≡ true)) → (x : A) × IsIn x (y ∷ ys) × (p x ≡ true)
    by true hit rest more = (y, inl refl, hit)
    by false miss rest more = let r = more rest in (r.0, inr r.1, r.2)

not_so : (t : Bool) → not t ≡ true → t ≡ false
not_so true is = absurd (cc is)
not_so false is = refl

tells : (s : State) (key tag : Bytes) (n i : ℕ) → list_any (may_load s key tag n i) s.clients ≡ true → Tells s key i
tells s key tag n i is = by (next_of s c) refl (second_holds (is_at_body c) (is_some_with (λ x. may_load_at s x key tag n i) (next_of s c)) (split (is_writing s.owed c.number) (is_at_body c) (is_some_with (λ x. may_load_at s x key tag n i) (next_of s c)) w.2).1)
  where
    w : (x : Client) × IsIn x s.clients × (may_load s key tag n i x ≡ true)
    w = any_in (may_load s key tag n i) s.clients is

    c : Client
    c = w.0

    split : (a b d : Bool) → (a && b && d) ≡ true → (a ≡ true) × ((b && d) ≡ true)
    split true true true e = (refl, refl)
    split true true false e = absurd (cc e)
    split true false d e = absurd (cc e)
    split false b d e = absurd (cc e)

    parts : (a b d e f g h : Bool) → (not a && b && d && e && f && g && h) ≡ true → (a ≡ false) × (b ≡ true) × (f ≡ true)
    parts false true true true true g h e = (refl, refl, refl)
    parts true b d x f g h e = absurd (cc e)
    parts false false d x f g h e = absurd (cc e)
    parts false true false x f g h e = absurd (cc e)
    parts false true true false f g h e = absurd (cc e)
    parts false true true true false g h e = absurd (cc e)

    by : (o : Option Next) → next_of s c ≡ o → is_some_with (λ x. may_load_at s x key tag n i) o ≡ true → Tells s key i
    by None none at = absurd (cc at)
    by (Some x) some at =
        let p = parts x.source.is_retired (bytes_eq x.source.key key) (bytes_eq x.source.version.tag tag) (x.source.version.length == n) (x.at / chunk_len == i) (is_some_with (is_kept_there s x) (kept_row s x.source.key)) (not (is_in_memory s x.source.id x.at)) at in
        record {
          client = c;
          there = w.1;
          writes = (split (is_writing s.owed c.number) (is_at_body c) (is_some_with (λ x. may_load_at s x key tag n i) (next_of s c)) w.2).0;
          next = x;
          goes_on = some;
          stands = p.0;
          key_of = same_bytes x.source.key key p.1;
          chunk = same_number (x.at / chunk_len) i p.2;
        }

-- what is followed is there
next_there : (s : State) (c : Client) (x : Next) → next_of s c ≡ Some x → IsIn x.source s.instances
next_there s c x is = by_closing c.is_closing is
  where
    from_by : (y : Instance) (r : Reply) (t : Bool) → (elim t as (λ z. Option Next) [ true ↦ Some (record { source = y; at = r.at; to = r.to }) | false ↦ None ]) ≡ Some x → y ≡ x.source
    from_by y r true e = ap (λ (o : Option Next). elim o [ None ↦ y | Some z ↦ z.source ]) e
    from_by y r false e = absurd (cc e)

    by_instance : (r : Reply) (o : Option Instance) → source_of s r ≡ o → (elim o as (λ z. Option Next) [ None ↦ None | Some y ↦ next_from y r ]) ≡ Some x → IsIn x.source s.instances
    by_instance r None none e = absurd (cc e)
    by_instance r (Some y) some e = subst (λ (z : Instance). IsIn z s.instances) (from_by y r (nat_lt r.at r.to) e) (there r.source some)
      where
        there : (o : Option ℕ) → (elim o as (λ z. Option Instance) [ None ↦ None | Some id ↦ instance s id ]) ≡ Some y → IsIn y s.instances
        there None at = absurd (cc at)
        there (Some id) at = (in_find (is_instance id) y s.instances at).0

    by_reply : (o : Option Reply) → (elim o as (λ z. Option Next) [ None ↦ None | Some r ↦ next_in s r ]) ≡ Some x → IsIn x.source s.instances
    by_reply None e = absurd (cc e)
    by_reply (Some r) e = by_instance r (source_of s r) refl e

    by_closing : (t : Bool) → (elim t as (λ z. Option Next) [ true ↦ None | false ↦ elim (reply_of c) as (λ z. Option Next) [ None ↦ None | Some r ↦ next_in s r ] ]) ≡ Some x → IsIn x.source s.instances
    by_closing true e = absurd (cc e)
    by_closing false e = by_reply (reply_of c) e

-- and is the row of its key
same_row : {b : Since} (s : State) (key : Bytes) (i : ℕ) (x : Instance) → Sound b s → (t : Tells s key i) → row s key ≡ Some x → t.next.source.id ≡ x.id
same_row s key i x known t found =
    let w = in_find (is_row_of key) x s.instances found in
    (sound_facts known).rows.own_keys key t.next.source x (next_there s t.client t.next t.goes_on) w.0 (is_row (t.stands) (t.key_of)) w.1
  where
    is_row : t.next.source.is_retired ≡ false → t.next.source.key ≡ key → is_row_of key t.next.source ≡ true
    is_row stands key_of = ap₂ (λ t u. not t && u) stands ((bytes_eq-Decides t.next.source.key key).1 key_of)

-- the pin of that client
its_pin : {b : Since} (s : State) (key : Bytes) (i : ℕ) (x : Instance) → Sound b s → (t : Tells s key i) → row s key ≡ Some x → pin_of_client s t.client ≡ Some (x.id, i)
its_pin s key i x known t found =
    ap (λ (o : Option Next). elim o as (λ z. Option (ℕ × ℕ)) [ None ↦ None | Some n ↦ Some (n.source.id, n.at / chunk_len) ]) t.goes_on
    ∙ ap₂ (λ m n. Some (m, n)) (same_row s key i x known t found) t.chunk

-- ---- what is loaded

-- none but that place comes, so all others are as few
others_still : (c : Settings) (id i : ℕ) (bytes : Bytes) (chunks : List Chunk) → length (filter (λ x. not (is_chunk id i x)) chunks) ≤ calm c → length (filter (λ x. not (is_chunk id i x)) (put_chunk id i bytes chunks)) ≤ calm c
others_still c id i bytes chunks le =
    let new : Chunk = record { instance = id; index = i; bytes = bytes } in
    let e : length (filter (λ x. not (is_chunk id i x)) (put_chunk id i bytes chunks)) ≡ length (filter (λ x. not (is_chunk id i x)) (filter (λ x. not (is_chunk id i x)) chunks)) + length (cond (not (is_chunk id i new)) (new ∷ []) []) = count-push (λ x. not (is_chunk id i x)) (filter (λ x. not (is_chunk id i x)) chunks) new in
    let out : length (cond (not (is_chunk id i new)) (new ∷ []) []) ≡ 0 = ap (λ t. length (cond (not t) (new ∷ []) [])) (its_place id i) in
    let less : length (filter (λ x. not (is_chunk id i x)) (filter (λ x. not (is_chunk id i x)) chunks)) ≤ length (filter (λ x. not (is_chunk id i x)) chunks) = length-filter (λ x. not (is_chunk id i x)) (filter (λ x. not (is_chunk id i x)) chunks) in
    omega arith
  where
    its_place : (m n : ℕ) → ((m == m) && (n == n)) ≡ true
    its_place m n = ap₂ (λ t u. t && u) (number_same m) (number_same n)

-- where all others leave room
loads : {b : Since} (c : Settings) (most client i : ℕ) (key : Bytes) (x : Instance) (e : Entry) (s : State) → 512 ≤ c.critical → is_at_rest s ≡ true → Sound b s → (t : Tells s key i) → t.client.number ≡ client → row s key ≡ Some x
    → length (filter (λ y. not (is_chunk x.id i y)) s.chunks) ≤ calm c → Holds (Pool (Where c Handling (WriteTo client) most)) s → Loaded (load_from x e i s)
unfolding load_from note_use
loads c most client i key x e s marked idle known t number found le h = record {
  settings = c;
  client = client;
  held = came_near (Where c Handling (WriteTo client) most) (calm c + 1) (put_chunk x.id i (chunk_in_file s e i) s.chunks) s few (put_apart x.id i (chunk_in_file s e i) s.chunks (facts_of h).apart) h;
  marked = marked;
  place = (x.id, i);
  others = others_still c x.id i (chunk_in_file s e i) s.chunks le;
  theirs = theirs;
  idle = idle;
}
  where
    few : length (put_chunk x.id i (chunk_in_file s e i) s.chunks) ≤ calm c + 1
    few = let put = put_length x.id i (chunk_in_file s e i) s.chunks in omega (arith, le)

    theirs : (y : Client) → IsIn y s.clients → y.number ≡ client → pin_of_client s y ≡ Some (x.id, i)
    theirs y there is = let same : t.client ≡ y = one_of client_number s.clients t.client y (sound_facts known).callers.rise t.there there (number ∙ sym is) in subst (λ (z : Client). pin_of_client s z ≡ Some (x.id, i)) same (its_pin s key i x known t found)

writes_to : (o : Owed) (n : ℕ) → is_writing o n ≡ true → o ≡ WriteTo n
writes_to Free n is = absurd (cc is)
writes_to (ReadOf m) n is = absurd (cc is)
writes_to (WriteTo m) n is = ap (λ x. WriteTo x) (same_number m n is)

two_hold : (a b : Bool) → (a && b) ≡ true → (a ≡ true) × (b ≡ true)
two_hold true b is = (refl, is)
two_hold false b is = absurd (cc is)

pub loaded_inv : {b : Since} (key tag : Bytes) (n i : ℕ) (s : State) → (is_at_rest s && list_any (may_load s key tag n i) s.clients) ≡ true → Sound b s → Inv s → Inv (load key i s)
unfolding load
loaded_inv key tag n i s is known inv = by (row s key) refl
  where
    idle : is_at_rest s ≡ true
    idle = (two_hold (is_at_rest s) (list_any (may_load s key tag n i) s.clients) is).0

    t : Tells s key i
    t = tells s key tag n i (two_hold (is_at_rest s) (list_any (may_load s key tag n i) s.clients) is).1

    owed : s.owed ≡ WriteTo t.client.number
    owed = writes_to s.owed t.client.number t.writes

    quiet : (q : Quiet s) (x : Instance) (e : Entry) → row s key ≡ Some x → Loaded (load_from x e i s)
    quiet q x e found = of q.owes
      where
        of : (q.owed ≡ Free) ⊎ ((q.phase ≡ Handling) × (q.most ≤ calm q.settings)) → Loaded (load_from x e i s)
        of (inl free) = let both : WriteTo t.client.number ≡ Free = sym owed ∙ in_owed q ∙ free in absurd (cc both)
        of (inr w) =
            let few : length s.chunks ≤ q.most = (facts_of q.held).few in
            let less : length (filter (λ y. not (is_chunk x.id i y)) s.chunks) ≤ length s.chunks = length-filter (λ y. not (is_chunk x.id i y)) s.chunks in
            loads q.settings q.most t.client.number i key x e s q.marked idle known t refl found (le_trans less (le_trans few w.1)) (as_phase q.settings q.phase Handling q.owed (WriteTo t.client.number) q.most s w.0 (sym (in_owed q) ∙ owed) q.held)

    again : (l : Loaded s) (x : Instance) (e : Entry) → row s key ≡ Some x → Loaded (load_from x e i s)
    again l x e found =
        let number : t.client.number ≡ l.client = same (sym owed ∙ (facts_of l.held).owes) in
        let place : l.place ≡ (x.id, i) = same_pin (sym (l.theirs t.client t.there number) ∙ its_pin s key i x known t found) in
        loads l.settings (calm l.settings + 1) l.client i key x e s l.marked idle known t number found (subst (λ (p : ℕ × ℕ). length (filter (λ y. not (is_chunk p.0 p.1 y)) s.chunks) ≤ calm l.settings) place l.others) l.held
      where
        same : {m k : ℕ} → WriteTo m ≡ WriteTo k → m ≡ k
        same e = cc e

        same_pin : {p r : ℕ × ℕ} → Some p ≡ Some r → p ≡ r
        same_pin e = cc e

    loading : (x : Instance) (e : Entry) → row s key ≡ Some x → Inv s → Inv (load_from x e i s)
    loading x e found (inl q) = inr (quiet q x e found)
    loading x e found (inr l) = inr (again l x e found)

    entry : (x : Instance) → row s key ≡ Some x → (o : Option Entry) → Inv (elim o as (λ c. State) [ None ↦ s | Some e ↦ load_from x e i s ])
    entry x found None = inv
    entry x found (Some e) = loading x e found inv

    by : (o : Option Instance) → row s key ≡ o → Inv (elim o as (λ c. State) [ None ↦ s | Some x ↦ elim (kept_row s key) as (λ c. State) [ None ↦ s | Some e ↦ load_from x e i s ] ])
    by None none = inv
    by (Some x) found = entry x found (kept_row s key)
