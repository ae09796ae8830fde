-- The row of its key that comes in beside a head: of the program it notes nothing, and of the law there is one row more, or none. Neither it nor the
-- head that is taken begins eviction.
use Rattle.std.proofs.Common.{◌≡◌, ◌≤◌, ◌+◌, inl, inr, refl, sym, subst, ap, ◌∙◌, ℕ, Bool, true, false, not, cond, find, nat_le, nat_lt, List, [], ◌∷◌, ◌++◌, Option, Some, None, arith}
use Rattle.std.proofs.lemmas.Slice.Eq.{bytes_eq-Decides}
use Rattle.std.specs.Prelude.{count_by}
use Rattle.pp_answers.specs.FinalHeads.{roomed, roomed_for, version_in}
use Rattle.pp_answers.specs.Rows.{with_room_for}
use Rattle.pp_cache.specs.Memory.{Memory, with_row}
use Rattle.pp_cache_law.proofs.PairLemmas.{count_first, count_joined}
use Rattle.pp_due.specs.Entering.{HasRowFor, MayCome, with_room_if_over}
use Rattle.pp_due.specs.OnDisk.{IsBrought, kept_alone, with_kept}
use Rattle.pp_flow.specs.declared.entry.Aim.{Aim as EntryAim}
use Rattle.pp_flow.specs.declared.entry.Aim.TheVariants.{Own as OfItself, Hole, Pass as AsPassed}
use Rattle.pp_flow.specs.declared.errand.Errand.{Errand}
use Rattle.pp_fresh.specs.declared.aging.Times.{Times}
use Rattle.pp_head.specs.Response.{Response}
use Rattle.pp_law.specs.Lists.{Bytes, without}
use Rattle.pp_law.specs.OwnHeads.{key_of}
use Rattle.pp_law.specs.Responses.{bring_row, is_readable}
use Rattle.pp_law.specs.State.{State, Entry as KeptEntry, Exchange, Instance as Known}
use Rattle.pp_law.specs.Table.{add_row, enter, forget, forget_row, idle_row as law_idle, is_instance, is_row_of, row, row_on_disk, rows, with_room as law_with_room}
use Rattle.pp_objects.specs.Instances.{Instance, is_row}
use Rattle.pp_objects.specs.declared.id.ObjectId.{ObjectId}
use Rattle.pp_state.specs.Astray.{gone_astray}
use Rattle.pp_state.specs.Ends.{parts}
use Rattle.pp_state.specs.Known.{row_for}
use Rattle.pp_state.specs.Pins.{forgotten_row, idle_row, with_room}
use Rattle.pp_state.specs.declared.state.State.{State as Turn}
use Rattle.pp_store.specs.Kept.{Kept, KeptMap}
use Rattle.pp_valid.specs.declared.version.Version.{Version}
use Rattle.pp_text.specs.Fields.{Field}

-- ---- of the program: a row that comes in notes nothing

pub record IsAlike (p q : Turn) : Type 0 where
  pub noted : q.cache.outdated ≡ p.cache.outdated
  pub evicting : q.is_evicting ≡ p.is_evicting

alike_self : (p : Turn) → IsAlike p p
alike_self p = record { noted = refl; evicting = refl }

alike_as : (p q r : Turn) → r ≡ q → IsAlike p q → IsAlike p r
alike_as p q r is one = subst (λ (z : Turn). IsAlike p z) (sym is) one

kept_noted : (id : ObjectId) (key : Bytes) (row : Kept) (m : Memory) → (with_kept id key row m).outdated ≡ m.outdated
unfolding with_row
kept_noted id key row m = refl

brought_noted : (key : Bytes) (o : Option Kept) (m k : Memory) → IsBrought key o m k → k.outdated ≡ m.outdated
brought_noted key None m k is = ap (λ (z : Memory). z.outdated) is
brought_noted key (Some row) m k is = ap (λ (z : Memory). z.outdated) is.entered ∙ kept_noted is.id key row m

room_alike : (p : Turn) → IsAlike p (with_room p)
room_alike p = by (nat_le 1024 (count_by is_row p.cache.instances)) (idle_row p)
  where
    by : (b : Bool) (o : Option Instance) → IsAlike p (elim b as (λ q. Turn) [ true ↦ forgotten_row o p | false ↦ p ])
    by true None = alike_self p
    by true (Some i) = record { noted = refl; evicting = refl }
    by false o = alike_self p

over_alike : (p : Turn) → IsAlike p (with_room_if_over p)
over_alike p = by (nat_lt 1024 (count_by is_row p.cache.instances))
  where
    by : (b : Bool) → IsAlike p (elim b as (λ q. Turn) [ true ↦ with_room p | false ↦ p ])
    by true = room_alike p
    by false = alike_self p

comes_alike : (shelf : KeptMap) (key : Bytes) (p q : Turn) → MayCome shelf key p q → IsAlike p q
comes_alike shelf key p q (inl it) = record { noted = brought_noted key (kept_alone key shelf p.cache) p.cache q.cache it.cache; evicting = ap (λ (z : Turn). z.is_evicting) it.rest }
comes_alike shelf key p q (inr it) = alike_as p (gone_astray p) q it (record { noted = refl; evicting = refl })

pub beside_alike : (shelf : KeptMap) (o : Option Bytes) (p q : Turn) → HasRowFor shelf o p q → IsAlike p q
beside_alike shelf None p q it = alike_as p p q it (alike_self p)
beside_alike shelf (Some key) p q it =
    let one : IsAlike p it.entered = comes_alike shelf key p it.entered it.comes in
    let two : IsAlike it.entered (with_room_if_over it.entered) = over_alike it.entered in
    alike_as p (with_room_if_over it.entered) q it.room (record { noted = two.noted ∙ one.noted; evicting = two.evicting ∙ one.evicting })

-- ---- of the program: a head that is taken begins no eviction

for_row : (o : Option (ObjectId × Version)) (p : Turn) → (with_room_for o p).is_evicting ≡ p.is_evicting
for_row None p = (room_alike p).evicting
for_row (Some row) p = refl

for_version : (o : Option Version) (n : ℕ) (p : Turn) → (roomed o n p).is_evicting ≡ p.is_evicting
for_version None n p = refl
for_version (Some v) n p = for_row (row_for n (parts p)) p

pub roomed_evicting : (head : Response) (a : EntryAim) (errand : Errand) (n : ℕ) (p : Turn) → (roomed_for a errand head n p).is_evicting ≡ p.is_evicting
roomed_evicting head OfItself errand n p = for_version (version_in errand head) n p
roomed_evicting head (Hole v from to) errand n p = for_version (version_in errand head) n p
roomed_evicting head AsPassed errand n p = refl

-- ---- of the law: one row more, or none; and where none stands of its key, none came in

without_fewer : (q : Known → Bool) (test : Known → Bool) (xs : List Known) → count_by q (without test xs) ≤ count_by q xs
without_fewer q test [] = omega arith
without_fewer q test (x ∷ xs) = by (not (test x)) (without_fewer q test xs)
  where
    by : (b : Bool) → count_by q (without test xs) ≤ count_by q xs → count_by q (cond b (x ∷ without test xs) (without test xs)) ≤ count_by q (x ∷ xs)
    by true rest = omega (arith, rest, count_first q x (without test xs), count_first q x xs)
    by false rest = omega (arith, rest, count_first q x xs)

room_fewer : (s : State) → rows (law_with_room s) ≤ rows s
unfolding law_with_room forget_row forget
room_fewer s = by (nat_lt (rows s) 1024) (law_idle s)
  where
    by : (b : Bool) (o : Option Known) → rows (elim b as (λ t. State) [ true ↦ s | false ↦ elim o as (λ t. State) [ None ↦ s | Some x ↦ forget_row x s ] ]) ≤ rows s
    by true o = omega arith
    by false None = omega arith
    by false (Some x) = without_fewer (λ (y : Known). not y.is_retired) (is_instance x.id) s.instances

added_more : (key : Bytes) (v : Version) (fields : List Field) (times : Times) (b : Bool) (s : State) → rows (add_row key v fields times b s) ≡ rows s + 1
unfolding add_row
added_more key v fields times b s = count_joined (λ (y : Known). not y.is_retired) s.instances (new ∷ []) ∙ ap (λ (n : ℕ). rows s + n) (count_first (λ (y : Known). not y.is_retired) new [])
  where
    new : Known
    new = record { id = s.next_instance; key = key; version = v; fields = fields; times = times; is_retired = false; is_new = b }

pub record IsEntered (key : Bytes) (s t : State) : Type 0 where
  pub few : rows t ≤ rows s + 1
  pub none : row t key ≡ None → t ≡ s

entered_none : (key : Bytes) (s : State) → IsEntered key s s
entered_none key s = record { few = omega arith; none = λ is. refl }

last_found : (p : Known → Bool) (xs : List Known) (x : Known) → p x ≡ true → find p (xs ++ x ∷ []) ≡ None → ⊥
last_found p [] x is none = absurd (let both : Some x ≡ None = sym (ap (λ (b : Bool). cond b (Some x) None) is) ∙ none in cc both)
last_found p (y ∷ xs) x is none = by (p y) none (λ rest. last_found p xs x is rest)
  where
    by : (b : Bool) → cond b (Some y) (find p (xs ++ x ∷ [])) ≡ None → (find p (xs ++ x ∷ []) ≡ None → ⊥) → ⊥
    by true found rest = cc found
    by false found rest = rest found

there_then : (key : Bytes) (v : Version) (fields : List Field) (times : Times) (b : Bool) (s : State) → row (add_row key v fields times b s) key ≡ None → ⊥
unfolding add_row
there_then key v fields times b s none = last_found (is_row_of key) s.instances _ ((bytes_eq-Decides key key).1 refl) none

enters : (key : Bytes) (s : State) → IsEntered key s (enter key true s)
unfolding enter
enters key s = by (row s key) (row_on_disk s key)
  where
    by : (o : Option Known) (u : Option KeptEntry) → IsEntered key s (elim o as (λ t. State) [ Some x ↦ s | None ↦ elim u as (λ t. State) [ None ↦ s | Some e ↦ add_row key e.version e.fields e.times true (law_with_room s) ] ])
    by (Some x) u = entered_none key s
    by None None = entered_none key s
    by None (Some e) = record {
      few = omega (arith, added_more key e.version e.fields e.times true (law_with_room s), room_fewer s);
      none = λ is. absurd (there_then key e.version e.fields e.times true (law_with_room s) is);
    }

pub brings : (e : Exchange) (head : Response) (s : State) → IsEntered (key_of e) s (bring_row e head s)
unfolding bring_row
brings e head s = by (is_readable e head)
  where
    by : (b : Bool) → IsEntered (key_of e) s (elim b as (λ t. State) [ true ↦ enter (key_of e) true s | false ↦ s ])
    by true = enters (key_of e) s
    by false = entered_none (key_of e) s
