-- The next byte of a client is one of the body, of which what is kept ends with a chunk or with the body; and its request has a key.
use Rattle.std.proofs.Common.{◌≡◌, ◌≤◌, ◌<◌, ◌⊎◌, refl, sym, subst, ap, ◌∙◌, inl, inr, ℕ, ◌%◌, Bool, true, false, not, ◌==◌, ◌&&◌, ◌||◌, cond, nat_lt, find, filter, List, [], ◌∷◌, Option, Some, None, arith}
use Rattle.std.specs.List.{list_any}
use Rattle.pp_asks_law.proofs.Narrow.{Narrows, WasClient, WasRow, facts_of}
use Rattle.pp_cache_law.specs.Joins.{EndsWhole}
use Rattle.pp_law.specs.Lists.{Bytes}
use Rattle.pp_law.specs.Requests.{key_in}
use Rattle.pp_law.specs.Stages.{reply_of}
use Rattle.pp_law.specs.State.{State, Client, Entry, Instance, Reply, Stage, Term, Undecided, Waiting, Passing, Answering}
use Rattle.pp_law.specs.Store.{is_closed}
use Rattle.pp_law.specs.Table.{Next, extent_of, instance, is_entry_of, is_instance, is_kept_row_of, kept_row, next_from, next_in, next_of}
use Rattle.pp_laws.proofs.Lists.{in_find, the_one}
use Rattle.pp_laws.proofs.Sound.{facts_of as sound_facts, instance_id, source_in}
use Rattle.pp_laws.proofs.Tests.{below, number_same, same_bytes, same_number}
use Rattle.pp_laws.specs.Runs.{IsIn}
use Rattle.pp_laws_decided.proofs.Laws.{turns_are_decided}
use Rattle.pp_laws_turn.proofs.Lifts.{sound_on}
use Rattle.pp_laws_versions.proofs.Laws.{found_have_one}
use Rattle.pp_obeys.specs.Obeys.{Obeys}
use Rattle.pp_shelf_law.proofs.Finding.{into_filter, named_in, one_named}
use Rattle.pp_shelf_law.specs.Shelf.{ShowEntries, ShowsShelf, is_shut}
use Rattle.pp_store.specs.Kept.{IsExtent, Kept, KeptMap}
use Rattle.pp_target.specs.Key.{Key}
use Rattle.pp_target.specs.Name.{name_of}
use Rattle.pp_valid.specs.declared.version.Version.{Version}
use Rattle.pp_world.specs.Log.{Log}

-- ---- the next byte of a client, by its reply

pub record IsNextBy (s : State) (c : Client) (n : Next) : Type 0 where
  pub reply : Reply
  pub stage : c.stage ≡ Answering reply
  pub source : ℕ
  pub is : reply.source ≡ Some source
  pub known : instance s source ≡ Some n.source
  pub to : n.to ≡ reply.to
  pub some : n.at < n.to

pub next_by : (s : State) (c : Client) (n : Next) → next_of s c ≡ Some n → IsNextBy s c n
next_by s c n is = by_closing c.is_closing is
  where
    from_it : (r : Reply) (id : ℕ) (x : Instance) (t : Bool) → c.stage ≡ Answering r → r.source ≡ Some id → instance s id ≡ Some x → nat_lt r.at r.to ≡ t
        → (elim t as (λ y. Option Next) [ true ↦ Some (record { source = x; at = r.at; to = r.to }) | false ↦ None ]) ≡ Some n → IsNextBy s c n
    from_it r id x true stage source found lt at =
        let e : (record { source = x; at = r.at; to = r.to }) ≡ n = cc at in
        subst (λ (m : Next). IsNextBy s c m) e (record { reply = r; stage = stage; source = id; is = source; known = found; to = refl; some = below r.at r.to lt })
    from_it r id x false stage source found lt at = absurd (cc at)

    by_row : (r : Reply) (id : ℕ) (o : Option Instance) → c.stage ≡ Answering r → r.source ≡ Some id → instance s id ≡ o → (elim o as (λ y. Option Next) [ None ↦ None | Some x ↦ next_from x r ]) ≡ Some n → IsNextBy s c n
    by_row r id None stage source found at = absurd (cc at)
    by_row r id (Some x) stage source found at = from_it r id x (nat_lt r.at r.to) stage source found refl at

    by_source : (r : Reply) (o : Option ℕ) → c.stage ≡ Answering r → r.source ≡ o → (elim (elim o as (λ y. Option Instance) [ None ↦ None | Some id ↦ instance s id ]) as (λ y. Option Next) [ None ↦ None | Some x ↦ next_from x r ]) ≡ Some n → IsNextBy s c n
    by_source r None stage source at = absurd (cc at)
    by_source r (Some id) stage source at = by_row r id (instance s id) stage source refl at

    by_stage : (stage : Stage) → c.stage ≡ stage
        → (elim (elim stage as (λ y. Option Reply) [ Undecided ↦ None | Waiting ↦ None | Passing ↦ None | Answering r ↦ Some r ]) as (λ z. Option Next) [ None ↦ None | Some r ↦ next_in s r ]) ≡ Some n → IsNextBy s c n
    by_stage Undecided stage at = absurd (cc at)
    by_stage Waiting stage at = absurd (cc at)
    by_stage Passing stage at = absurd (cc at)
    by_stage (Answering r) stage at = by_source r r.source stage refl at

    by_closing : (t : Bool) → (elim t as (λ y. Option Next) [ true ↦ None | false ↦ elim (reply_of c) as (λ z. Option Next) [ None ↦ None | Some r ↦ next_in s r ] ]) ≡ Some n → IsNextBy s c n
    by_closing true at = absurd (cc at)
    by_closing false at = by_stage c.stage refl at

-- ---- what is kept of a row

apart : (m n : ℕ) → (m == n) ≡ false → m ≡ n → ⊥
apart m n off same = let both : true ≡ false = sym (ap (λ (k : ℕ). k == n) same ∙ number_same n) ∙ off in cc

whole_below : (n extent : ℕ) → IsExtent n extent → (extent ≡ n → ⊥) → extent % 4096 ≡ 0
whole_below n extent whole isnt = omega (arith, whole, isnt)

-- of the chunks that are kept each has 4,096 bytes, or ends the body
pub ends_whole : (n extent : ℕ) → IsExtent n extent → EndsWhole extent n
ends_whole n extent whole = by (extent == n) refl
  where
    by : (b : Bool) → (extent == n) ≡ b → EndsWhole extent n
    by true same = inr (same_number extent n same)
    by false off = inl (whole_below n extent whole (apart extent n off))

first : (a b : Bool) → (a && b) ≡ true → a ≡ true
first true b is = refl
first false b is = absurd (cc is)

second : (a b : Bool) → (a && b) ≡ true → b ≡ true
second true b is = is
second false b is = absurd (cc is)

isnt : (b : Bool) → not b ≡ true → b ≡ false
isnt true is = absurd (cc is)
isnt false is = refl

neither : (a b : Bool) → (a || b) ≡ false → (a ≡ false) × (b ≡ false)
neither true b none = absurd (cc none)
neither false b none = (refl, none)

-- an entry whose name is not closed is kept, with chunks that are whole
shown_whole : (rows : List Kept) (es : List Entry) (e : Entry) → ShowEntries rows es → IsIn e es → IsExtent e.version.length e.extent
shown_whole [] [] e shows i = absurd i
shown_whole [] (d ∷ es) e shows i = absurd shows
shown_whole (k ∷ rows) [] e shows i = absurd i
shown_whole (k ∷ rows) (d ∷ es) e shows (inl is) = subst (λ (x : Entry). IsExtent x.version.length x.extent) (sym is) shows.0.whole
shown_whole (k ∷ rows) (d ∷ es) e shows (inr i) = shown_whole rows es e shows.1 i

none_closed : (s : State) (es : List Entry) (e : Entry) → list_any (λ x. is_closed s x.name) es ≡ false → IsIn e es → is_closed s e.name ≡ false
none_closed s [] e none i = absurd i
none_closed s (d ∷ es) e none (inl is) = ap (λ (x : Entry). is_closed s x.name) is ∙ (neither (is_closed s d.name) (list_any (λ x. is_closed s x.name) es) none).0
none_closed s (d ∷ es) e none (inr i) = none_closed s es e (neither (is_closed s d.name) (list_any (λ x. is_closed s x.name) es) none).1 i

pub entry_whole : (shelf : KeptMap) (s : State) (e : Entry) → ShowsShelf shelf s → list_any (λ x. is_closed s x.name) s.entries ≡ false → IsIn e s.entries → IsExtent e.version.length e.extent
entry_whole shelf s e shows names i =
    shown_whole shelf.rows (filter (λ x. not (is_shut s.closed_names x)) s.entries) e shows.rows
    (into_filter (λ x. not (is_shut s.closed_names x)) e s.entries i (ap (λ (b : Bool). not b) (none_closed s s.entries e names i)))

-- ---- the one that is there is found

pub only_found : {A : Type 0} (p : A → Bool) (x : A) (xs : List A) → ((y : A) → IsIn y xs → p y ≡ true → y ≡ x) → p x ≡ true → IsIn x xs → find p xs ≡ Some x
only_found p x [] one is i = absurd i
only_found {A} p x (y ∷ ys) one is i = by (p y) refl i (only_found p x ys (λ z k its. one z (inr k) its) is)
  where
    by : (b : Bool) → p y ≡ b → (x ≡ y) ⊎ IsIn x ys → (IsIn x ys → find p ys ≡ Some x) → cond b (Some y) (find p ys) ≡ Some x
    by true hit k rest = ap (λ (z : A). Some z) (one y (inl refl) hit)
    by false off (inl same) rest = absurd (let both : true ≡ false = sym (ap p (sym same) ∙ is) ∙ off in cc both)
    by false off (inr k) rest = rest k

-- of a key there is one entry
one_kept : (shelf : KeptMap) (s : State) (key : Bytes) (e d : Entry) → ShowsShelf shelf s → IsIn e s.entries → is_kept_row_of key e ≡ true → IsIn d s.entries → is_kept_row_of key d ≡ true → d ≡ e
one_kept shelf s key e d shows i of j its = one_named (name_of key) d e s.entries (shows.once (name_of key)) j (name d j its) i (name e i of)
  where
    name : (x : Entry) → IsIn x s.entries → is_kept_row_of key x ≡ true → x.name ≡ name_of key
    name x k is = named_in x s.entries shows.named k ∙ ap name_of (same_bytes x.key key (second (not x.is_stale) (is_entry_of key x) is))

-- ---- where exchanges end, from the state that the log goes on as from

module _ (terms : List Term) (log : Log) (o s : State) (obeys : Obeys terms o log) (narrow : Narrows o s) where
  row_found : (y : Instance) → IsIn y o.instances → instance o y.id ≡ Some y
  row_found y i = only_found (is_instance y.id) y o.instances (λ z k is. the_one instance_id o.instances z y (sound_facts (sound_on terms o log obeys)).rows.differ k i (same_number z.id y.id is)) (number_same y.id) i

  -- a row that stands is of the version of the entry that stands for it
  module _ (shelf : KeptMap) (shows : ShowsShelf shelf o) (x : Instance) (e : Entry) (i : IsIn x s.instances) (stands : x.is_retired ≡ false) (at : kept_row s x.key ≡ Some e) where
    found_entry : IsIn e s.entries × (is_kept_row_of x.key e ≡ true)
    found_entry = in_find (is_kept_row_of x.key) e s.entries at

    pub entry_there : IsIn e o.entries
    entry_there = (facts_of narrow).entries e found_entry.0 (isnt e.is_stale (first (not e.is_stale) (is_entry_of x.key e) found_entry.1))

    pub same_version : e.version ≡ x.version
    same_version =
        let row : WasRow o.instances x = (facts_of narrow).rows x i in
        let kept : kept_row o row.was.key ≡ Some e = ap (λ (key : Bytes). kept_row o key) (sym row.key) ∙ only_found (is_kept_row_of x.key) e o.entries (λ d k its. one_kept shelf o x.key e d shows entry_there found_entry.1 k its) found_entry.1 entry_there in
        found_have_one terms o log obeys row.was.id row.was e (row_found row.was row.there) (row.stood stands) kept ∙ sym row.version

  module _ (c : Client) (n : Next) (i : IsIn c s.clients) (next : IsNextBy s c n) where
    was : WasClient o.clients c
    was = (facts_of narrow).clients c i

    stage : was.was.stage ≡ Answering next.reply
    stage = sym was.is.stage ∙ next.stage

    there : IsIn n.source s.instances × (n.source.id ≡ next.source)
    there = let w = in_find (is_instance next.source) n.source s.instances next.known in (w.0, same_number n.source.id next.source w.1)

    row : WasRow o.instances n.source
    row = (facts_of narrow).rows n.source there.0

    row_is : instance o next.source ≡ Some row.was
    row_is = ap (λ (id : ℕ). instance o id) (sym there.1 ∙ row.id) ∙ row_found row.was row.there

    pub body_within : n.to ≤ n.source.version.length
    body_within =
        subst (λ (m : ℕ). m ≤ n.source.version.length) (sym next.to)
        (subst (λ (v : Version). next.reply.to ≤ v.length) (sym row.version)
        ((turns_are_decided terms o log obeys).within was.was next.reply row.was was.there stage (ap (λ (id : Option ℕ). elim id as (λ y. Option Instance) [ None ↦ None | Some m ↦ instance o m ]) next.is ∙ row_is)))

    -- what is kept of it ends with a chunk, or with the body
    pub kept_whole : (shelf : KeptMap) → ShowsShelf shelf o → list_any (λ x. is_closed o x.name) o.entries ≡ false → EndsWhole (extent_of s n.source) n.source.version.length
    kept_whole shelf shows names = by n.source.is_retired refl
      where
        entry : (b : Option Entry) → n.source.is_retired ≡ false → kept_row s n.source.key ≡ b → EndsWhole (elim b as (λ x. ℕ) [ None ↦ 0 | Some e ↦ e.extent ]) n.source.version.length
        entry None stands at = inl refl
        entry (Some e) stands at =
            subst (λ (v : Version). EndsWhole e.extent v.length) (same_version shelf shows n.source e there.0 stands at)
            (ends_whole e.version.length e.extent (entry_whole shelf o e shows names (entry_there shelf shows n.source e there.0 stands at)))

        by : (b : Bool) → n.source.is_retired ≡ b → EndsWhole (elim b as (λ x. ℕ) [ true ↦ 0 | false ↦ elim (kept_row s n.source.key) as (λ x. ℕ) [ None ↦ 0 | Some e ↦ e.extent ] ]) n.source.version.length
        by true retired = inl refl
        by false stands = entry (kept_row s n.source.key) stands refl

-- ---- the request of whoever follows a row has a key

pub follows_key : (terms : List Term) (log : Log) (o : State) → Obeys terms o log → (c : Client) (id : ℕ) → IsIn c o.clients → source_in c.stage ≡ Some id → (key : Key) × (key_in c.front ≡ Some key)
follows_key terms log o obeys c id i source = let w = (sound_facts (sound_on terms o log obeys)).callers.follows c id i source in (w.key, w.asks)
