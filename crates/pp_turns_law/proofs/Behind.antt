-- Behind those who begun, one more begins as if all did at once.
use Rattle.std.proofs.Common.{◌≡◌, refl, sym, subst, ap, ap₂, ◌∙◌, ℕ, ◌%◌, ◌/◌, Bool, true, false, not, ◌==◌, ◌&&◌, ◌||◌, nat_lt, cond, find, filter, map, length, List, [], ◌∷◌, Option, Some, None, arith}
use Rattle.std.proofs.lemmas.Bool.Decides.{nat_tests}
use Rattle.std.specs.List.{list_any}
use Rattle.pp_cache_law.proofs.Finds.{find_kept, find_passes}
use Rattle.pp_cache_law.proofs.Numbers.{is_same, true_false}
use Rattle.pp_cache_law.proofs.PairLemmas.{AreOnly, filter_both}
use Rattle.pp_law.specs.Chunks.{chunk_len, is_chunk}
use Rattle.pp_law.specs.Closing.{forsake, left_alone}
use Rattle.pp_law.specs.Connections.{is_client, is_for, on_client}
use Rattle.pp_law.specs.Lists.{Bytes, change, is_some_with, is_this, without}
use Rattle.pp_law.specs.Replies.{begins, begun_at_end, begun_by, begun_decided, begun_instance, begun_passed, begun_reply}
use Rattle.pp_law.specs.Requests.{Front, Parsed, NoHeadYet, NoHead, IsRequest}
use Rattle.pp_law.specs.Stages.{is_begun, is_headed, is_passing}
use Rattle.pp_law.specs.State.{State, Chunk, Client, Exchange, Instance, Reply, Stage, Undecided, Waiting, Passing, Answering}
use Rattle.pp_law.specs.Table.{extent_of, follows, instance, is_chunk_of_any, is_held, is_instance, swept}
use Rattle.pp_world.specs.declared.note.Decision.TheVariants.{Pass}
use Rattle.pp_turns_law.proofs.AtOnce.{begun_if, begun_is, begun_of, begun_one, number_is, outrun_by, outrun_if}
use Rattle.pp_turns_law.proofs.Each.{any_found, any_less, any_more, any_parts, any_there}

and_no : (b : Bool) → (b && false) ≡ false
and_no true = refl
and_no false = refl

first_of : (a b : Bool) → (a && b) ≡ true → a ≡ true
first_of true b e = refl
first_of false b e = absurd (cc e)

-- those whom nobody of these follows
abbrev left_by : List Client → Instance → Bool
left_by cs x = x.is_retired && not (list_any (follows x.id) cs)

abbrev pick : Bool → Client → Client → Client
pick b x y = elim b [ true ↦ x | false ↦ y ]

abbrev pick_of : Bool → Exchange → Exchange → Exchange
pick_of b x y = elim b [ true ↦ x | false ↦ y ]

module _ (p : Client → Bool) (s : State) (n : ℕ) (c : Client) (there : find (is_client n) s.clients ≡ Some c) (only : AreOnly (is_client n) c s.clients) (late : p c ≡ false) where
  abbrev clients_then : List Client
  clients_then = map (begun_if p s) s.clients

  abbrev left : Instance → Bool
  left x = left_by clients_then x

  -- what it follows is still there
  followed : (id : ℕ) → follows id c ≡ true → list_any (follows id) clients_then ≡ true
  followed id is = any_found (is_client n) (follows id) (begun_if p s) s.clients c there (ap (λ (b : Bool). follows id (pick b (begun_at_end s c) c)) late ∙ is)

  not_left : (x : Instance) (id : ℕ) → follows id c ≡ true → (x.id == id) ≡ true → left x ≡ false
  not_left x id is same =
      ap (λ (k : ℕ). x.is_retired && not (list_any (follows k) clients_then)) (is_same x.id id same) ∙ ap (λ (b : Bool). x.is_retired && not b) (followed id is) ∙ and_no x.is_retired

  pub instance_same : (id : ℕ) → follows id c ≡ true → instance (begun_of p s) id ≡ instance s id
  unfolding begun_of forsake swept
  instance_same id is = find_kept (is_instance id) (λ x. not (left x)) s.instances (λ x same. ap not (not_left x id is same))

  none_out : (k id : ℕ) (xs : List Instance) → follows id c ≡ true → (k == id) ≡ true → list_any (is_instance k) (filter left xs) ≡ false
  none_out k id [] is same = refl
  none_out k id (x ∷ xs) is same = by (left x) refl (none_out k id xs is same)
    where
      at : (b : Bool) → (x.id == k) ≡ b → left x ≡ true → list_any (is_instance k) (filter left xs) ≡ false → (b || list_any (is_instance k) (filter left xs)) ≡ false
      at true own out rest = absurd (true_false (sym out ∙ not_left x id is (ap (λ (j : ℕ). j == id) (is_same x.id k own) ∙ same)))
      at false own out rest = rest

      by : (b : Bool) → left x ≡ b → list_any (is_instance k) (filter left xs) ≡ false → list_any (is_instance k) (cond b (x ∷ filter left xs) (filter left xs)) ≡ false
      by true out rest = at (x.id == k) refl out rest
      by false out rest = rest

  chunk_same : (id i : ℕ) → follows id c ≡ true → find (is_chunk id i) (begun_of p s).chunks ≡ find (is_chunk id i) s.chunks
  unfolding begun_of forsake swept
  chunk_same id i is =
      find_kept (is_chunk id i) (λ k. not (is_chunk_of_any (filter left s.instances) k)) s.chunks
      (λ k same. ap not (none_out k.instance id s.instances is (first_of (k.instance == id) (k.index == i) same)))

  held_same : (x : Instance) (at : ℕ) → follows x.id c ≡ true → is_held (begun_of p s) x at ≡ is_held s x at
  unfolding begun_of forsake swept
  held_same x at is =
      ap (λ (o : Option Chunk). nat_lt at (extent_of s x) || nat_lt (at % chunk_len) (length (elim o as (λ t. Bytes) [ None ↦ [] | Some k ↦ k.bytes ]))) (chunk_same x.id (at / chunk_len) is)

  -- so it begins as it would before
  abbrev at_source : State → Parsed → Reply → Option Instance → Client
  at_source u r reply o = elim o [
    | None ↦ c
    | Some x ↦ pick ((reply.at == reply.to) || is_held u x reply.at) (record c { stage = Answering (begun_reply u r c reply x) }) c
  ]

  abbrev by_source : State → Parsed → Reply → Option ℕ → Client
  by_source u r reply o = at_source u r reply (elim o as (λ t. Option Instance) [ None ↦ None | Some id ↦ instance u id ])

  abbrev by_stage : State → Parsed → Stage → Client
  by_stage u r stage = elim stage [ Undecided ↦ c | Waiting ↦ c | Passing ↦ begun_passed u r Pass c | Answering reply ↦ pick reply.has_begun c (begun_decided u r reply c) ]

  reads_instance : (r : Parsed) (reply : Reply) → c.is_closing ≡ false → c.stage ≡ Answering reply → begun_instance (begun_of p s) r reply c ≡ begun_instance s r reply c
  unfolding begun_of forsake swept
  reads_instance r reply going is = by reply.source refl
    where
      following : (id : ℕ) → reply.source ≡ Some id → follows id c ≡ true
      following id own =
          ap (λ (b : Bool). not b && is_some_with (λ (x : Reply). is_this id x.source) (elim c.stage as (λ u. Option Reply) [ Undecided ↦ None | Waiting ↦ None | Passing ↦ None | Answering x ↦ Some x ])) going
          ∙ ap (λ (t : Stage). is_some_with (λ (x : Reply). is_this id x.source) (elim t as (λ u. Option Reply) [ Undecided ↦ None | Waiting ↦ None | Passing ↦ None | Answering x ↦ Some x ])) is
          ∙ ap (λ (o : Option ℕ). is_this id o) own ∙ itself id
        where
          itself : (k : ℕ) → (k == k) ≡ true
          itself k = grind (arith, nat_tests)

      found : (id : ℕ) → follows id c ≡ true → (w : Option Instance) → instance s id ≡ w → at_source (begun_of p s) r reply w ≡ at_source s r reply w
      found id on None w = refl
      found id on (Some x) w =
          ap (λ (b : Bool). pick ((reply.at == reply.to) || b) (record c { stage = Answering (begun_reply s r c reply x) }) c)
          (held_same x reply.at (ap (λ (k : ℕ). follows k c) (is_same x.id id (find_passes (is_instance id) s.instances x w)) ∙ on))

      by : (o : Option ℕ) → reply.source ≡ o → by_source (begun_of p s) r reply o ≡ by_source s r reply o
      by None own = refl
      by (Some id) own = ap (λ (w : Option Instance). at_source (begun_of p s) r reply w) (instance_same id (following id own)) ∙ found id (following id own) (instance s id) refl

  pub reads_same : begun_at_end (begun_of p s) c ≡ begun_at_end s c
  unfolding begun_of forsake swept
  reads_same = by c.is_closing refl
    where
      decided : (r : Parsed) (reply : Reply) (b : Bool) → c.is_closing ≡ false → c.stage ≡ Answering reply
          → pick b (begun_passed (begun_of p s) r reply.decision c) (begun_instance (begun_of p s) r reply c) ≡ pick b (begun_passed s r reply.decision c) (begun_instance s r reply c)
      decided r reply true going is = refl
      decided r reply false going is = reads_instance r reply going is

      answers : (r : Parsed) (reply : Reply) (b : Bool) → c.is_closing ≡ false → c.stage ≡ Answering reply → pick b c (begun_decided (begun_of p s) r reply c) ≡ pick b c (begun_decided s r reply c)
      answers r reply true going is = refl
      answers r reply false going is = decided r reply (is_passing reply.decision) going is

      stages : (r : Parsed) (stage : Stage) → c.is_closing ≡ false → c.stage ≡ stage → by_stage (begun_of p s) r stage ≡ by_stage s r stage
      stages r Undecided going is = refl
      stages r Waiting going is = refl
      stages r Passing going is = refl
      stages r (Answering reply) going is = answers r reply reply.has_begun going is

      fronts : (f : Front) → c.is_closing ≡ false
          → (elim f as (λ t. Client) [ NoHeadYet ↦ c | NoHead status ↦ c | IsRequest r ↦ begun_by (begun_of p s) r c ]) ≡ (elim f as (λ t. Client) [ NoHeadYet ↦ c | NoHead status ↦ c | IsRequest r ↦ begun_by s r c ])
      fronts NoHeadYet going = refl
      fronts (NoHead status) going = refl
      fronts (IsRequest r) going = stages r c.stage going refl

      by : (b : Bool) → c.is_closing ≡ b
          → pick b c (elim c.front as (λ t. Client) [ NoHeadYet ↦ c | NoHead status ↦ c | IsRequest r ↦ begun_by (begun_of p s) r c ]) ≡ pick b c (elim c.front as (λ t. Client) [ NoHeadYet ↦ c | NoHead status ↦ c | IsRequest r ↦ begun_by s r c ])
      by true going = refl
      by false going = fronts c.front going

  begins_same : begins (begun_of p s) c ≡ begins s c
  begins_same = ap (λ (d : Client). not (is_begun c) && is_begun d) reads_same

  -- ---- the parts of the state behind it

  abbrev and_it : Client → Bool
  and_it d = p d || is_client n d

  clients_at : (cs : List Client) → AreOnly (is_client n) c cs → change (is_client n) (begun_at_end (begun_of p s)) (map (begun_if p s) cs) ≡ map (begun_if and_it s) cs
  clients_at [] one = refl
  clients_at (d ∷ cs) one = ap₂ (λ (x : Client) (xs : List Client). x ∷ xs) (by (p d) (is_client n d) refl refl) (clients_at cs one.1)
    where
      changed : Client → Client
      changed x = pick (is_client n x) (begun_at_end (begun_of p s) x) x

      by : (a b : Bool) → p d ≡ a → is_client n d ≡ b → pick (is_client n (begun_if p s d)) (begun_at_end (begun_of p s) (begun_if p s d)) (begun_if p s d) ≡ begun_if and_it s d
      by true true is own = absurd (true_false (sym is ∙ ap p (one.0 own) ∙ late))
      by true false is off =
          ap (λ (b : Bool). let x : Client = pick b (begun_at_end s d) d in pick (is_client n x) (begun_at_end (begun_of p s) x) x) is
          ∙ ap (λ (b : Bool). pick b (begun_at_end (begun_of p s) (begun_at_end s d)) (begun_at_end s d)) (ap (λ (k : ℕ). k == n) (number_is s d) ∙ off)
          ∙ sym (ap (λ (b : Bool). pick (b || is_client n d) (begun_at_end s d) d) is)
      by false true is own =
          ap (λ (b : Bool). let x : Client = pick b (begun_at_end s d) d in pick (is_client n x) (begun_at_end (begun_of p s) x) x) is
          ∙ ap (λ (b : Bool). pick b (begun_at_end (begun_of p s) d) d) own
          ∙ subst (λ (x : Client). begun_at_end (begun_of p s) x ≡ begun_at_end s x) (sym (one.0 own)) reads_same
          ∙ sym (ap₂ (λ (a b : Bool). pick (a || b) (begun_at_end s d) d) is own)
      by false false is off =
          ap (λ (b : Bool). let x : Client = pick b (begun_at_end s d) d in pick (is_client n x) (begun_at_end (begun_of p s) x) x) is
          ∙ ap (λ (b : Bool). pick b (begun_at_end (begun_of p s) d) d) off
          ∙ sym (ap₂ (λ (a b : Bool). pick (a || b) (begun_at_end s d) d) is off)

  outrun_parts : (e : Exchange) → outrun_if and_it s e ≡ (outrun_if p s e || outrun_by (begun_of p s) c e)
  outrun_parts e =
      ap (λ (b : Bool). not (is_headed e) && b) (
      any_more (is_for e) p (begins s) (is_client n) c s.clients only
      ∙ ap₂ (λ (a b : Bool). list_any (λ x. is_for e x && (p x && begins s x)) s.clients || (a && (is_for e c && b))) (any_there (is_client n) s.clients c there) (sym begins_same)
      )
      ∙ by (not (is_headed e)) (list_any (λ x. is_for e x && (p x && begins s x)) s.clients) (is_for e c && begins (begun_of p s) c)
    where
      by : (h a b : Bool) → (h && (a || b)) ≡ ((h && a) || (h && b))
      by true a b = refl
      by false a b = refl

  -- one that is nobody's is left by none
  nobodys : (e : Exchange) → outrun_by (begun_of p s) c (left_alone e) ≡ false
  nobodys e = and_no (not (is_headed e))

  exchanges_at : (es : List Exchange) → change (outrun_by (begun_of p s) c) left_alone (change (outrun_if p s) left_alone es) ≡ change (outrun_if and_it s) left_alone es
  exchanges_at [] = refl
  exchanges_at (e ∷ es) = ap₂ (λ (x : Exchange) (xs : List Exchange). x ∷ xs) (by (outrun_if p s e) refl) (exchanges_at es)
    where
      changed : Bool → Exchange
      changed b = let x : Exchange = pick_of b (left_alone e) e in pick_of (outrun_by (begun_of p s) c x) (left_alone x) x

      by : (a : Bool) → outrun_if p s e ≡ a
          → (let x : Exchange = pick_of (outrun_if p s e) (left_alone e) e in pick_of (outrun_by (begun_of p s) c x) (left_alone x) x) ≡ pick_of (outrun_if and_it s e) (left_alone e) e
      by true is =
          ap (λ (b : Bool). let x : Exchange = pick_of b (left_alone e) e in pick_of (outrun_by (begun_of p s) c x) (left_alone x) x) is
          ∙ ap (λ (b : Bool). pick_of b (left_alone (left_alone e)) (left_alone e)) (nobodys e)
          ∙ sym (ap (λ (b : Bool). pick_of b (left_alone e) e) (outrun_parts e ∙ ap (λ (b : Bool). b || outrun_by (begun_of p s) c e) is))
      by false is =
          ap (λ (b : Bool). let x : Exchange = pick_of b (left_alone e) e in pick_of (outrun_by (begun_of p s) c x) (left_alone x) x) is
          ∙ sym (ap (λ (b : Bool). pick_of b (left_alone e) e) (outrun_parts e ∙ ap (λ (b : Bool). b || outrun_by (begun_of p s) c e) is))

  -- who follows nothing in the end
  abbrev clients_now : List Client
  clients_now = map (begun_if and_it s) s.clients

  follows_less : (id : ℕ) (d : Client) → follows id (begun_if and_it s d) ≡ true → follows id (begun_if p s d) ≡ true
  follows_less id d = by (p d) (is_client n d)
    where
      by : (a b : Bool) → follows id (pick (a || b) (begun_at_end s d) d) ≡ true → follows id (pick a (begun_at_end s d) d) ≡ true
      by true b on = on
      by false true on = (begun_is s d).less id on
      by false false on = on

  left_still : (x : Instance) → left x ≡ true → left_by clients_now x ≡ true
  left_still x = by x.is_retired (list_any (follows x.id) clients_then) (list_any (follows x.id) clients_now) (any_less (follows x.id) (begun_if and_it s) (begun_if p s) s.clients (follows_less x.id))
    where
      by : (r a b : Bool) → (b ≡ true → a ≡ true) → (r && not a) ≡ true → (r && not b) ≡ true
      by true false false to is = refl
      by true false true to is = absurd (true_false (sym (to refl)))
      by true true b to is = absurd (cc is)
      by false a b to is = absurd (cc is)

  instances_at : without (left_by clients_now) (without left s.instances) ≡ without (left_by clients_now) s.instances
  instances_at = filter_both (λ x. not (left_by clients_now x)) (λ x. not (left x)) (λ x. not (left_by clients_now x)) s.instances (λ x. by (left x) (left_by clients_now x) (left_still x))
    where
      by : (a b : Bool) → (a ≡ true → b ≡ true) → (not a && not b) ≡ not b
      by true true to = refl
      by true false to = absurd (true_false (sym (to refl)))
      by false b to = refl

  chunks_at : without (is_chunk_of_any (filter (left_by clients_now) (without left s.instances))) (without (is_chunk_of_any (filter left s.instances)) s.chunks) ≡ without (is_chunk_of_any (filter (left_by clients_now) s.instances)) s.chunks
  chunks_at =
      filter_both (λ k. not (is_chunk_of_any (filter (left_by clients_now) (without left s.instances)) k)) (λ k. not (is_chunk_of_any (filter left s.instances) k)) (λ k. not (is_chunk_of_any (filter (left_by clients_now) s.instances) k)) s.chunks
      (λ k. by (is_chunk_of_any (filter left s.instances) k) (is_chunk_of_any (filter (left_by clients_now) (without left s.instances)) k) ∙ ap not (sym (any_parts (is_instance k.instance) left (left_by clients_now) s.instances left_still)))
    where
      by : (a b : Bool) → (not a && not b) ≡ not (a || b)
      by true b = refl
      by false b = refl

  -- ---- in all

  abbrev twice : List Client → List Exchange → State
  twice cs es = record s {
    clients = cs;
    exchanges = es;
    instances = without (left_by cs) (without left s.instances);
    chunks = without (is_chunk_of_any (filter (left_by cs) (without left s.instances))) (without (is_chunk_of_any (filter left s.instances)) s.chunks);
  }

  as_twice : begun_one n c (begun_of p s) ≡ twice (change (is_client n) (begun_at_end (begun_of p s)) (map (begun_if p s) s.clients)) (change (outrun_by (begun_of p s) c) left_alone (change (outrun_if p s) left_alone s.exchanges))
  unfolding begun_one begun_of forsake swept on_client
  as_twice = refl

  as_once : begun_of and_it s ≡ record s {
    clients = clients_now;
    exchanges = change (outrun_if and_it s) left_alone s.exchanges;
    instances = without (left_by clients_now) s.instances;
    chunks = without (is_chunk_of_any (filter (left_by clients_now) s.instances)) s.chunks;
  }
  unfolding begun_of forsake swept
  as_once = refl

  pub one_behind : begun_one n c (begun_of p s) ≡ begun_of and_it s
  one_behind =
      as_twice
      ∙ ap₂ (λ (cs : List Client) (es : List Exchange). twice cs es) (clients_at s.clients only) (exchanges_at s.exchanges)
      ∙ ap₂ (λ (xs : List Instance) (ks : List Chunk). let u : State = record s { clients = clients_now; exchanges = change (outrun_if and_it s) left_alone s.exchanges; instances = xs; chunks = ks } in u) instances_at chunks_at
      ∙ sym as_once
