-- The runs of one instance, one behind the other.
use Rattle.std.proofs.Common.{◌≡◌, refl, sym, subst, ap, ap₂, ◌∙◌, ◌≤◌, ℕ, zero, suc, ◌+◌, ◌-◌, ◌*◌, ◌==◌, Bool, true, false, not, ◌&&◌, cond, IfOk, List, [], ◌∷◌, ◌++◌, Option, Some, None, Result, Ok, Err, arith}
use Rattle.std.specs.Prelude.{bytes_eq, min, nat_le, nat_lt}
use Rattle.std.specs.List.{list_any}
use Rattle.pp_cache_law.proofs.Numbers.{is_same, number_of_there}
use Rattle.pp_keeping.specs.Keeping.{KeepsRun, Keeping as Kept, RepeatsOn, RepeatsTo, ends_astray, goes_on, with_outcome}
use Rattle.pp_keeping.specs.Runs.{drafted_to, entry_of, full, sealed_to}
use Rattle.pp_law.specs.Lists.{Bytes}
use Rattle.pp_law.specs.State.{State, Instance as Known}
use Rattle.pp_law.specs.Table.{is_instance, is_row_of}
use Rattle.pp_laws.proofs.Lists.{in_find}
use Rattle.pp_laws.proofs.Tests.{first_holds, same_number, second_holds}
use Rattle.pp_objects.specs.Instances.{Instance, in_slot, is_life, is_same_id, is_there}
use Rattle.pp_objects.specs.declared.id.ObjectId.{ObjectId}
use Rattle.pp_obeys.proofs.Adding.{adds_as}
use Rattle.pp_obeys.proofs.Moving.{moves_map}
use Rattle.pp_obeys.proofs.Silent.{both_hold}
use Rattle.pp_seats.specs.Courses.{is_same_version}
use Rattle.pp_shelf_law.proofs.Shelves.{bytes_by, same_bytes}
use Rattle.pp_state.specs.Astray.{gone_astray}
use Rattle.pp_state.specs.Bringing.{instance_of}
use Rattle.pp_state.specs.declared.state.State.{State as Turn}
use Rattle.pp_store.specs.Answers.{Answers, refusal_of}
use Rattle.pp_store.specs.Changes.{extended, extended_after, extended_to, kept_after, lost, with_row}
use Rattle.pp_store.specs.Kept.{Kept as KeptRow, KeptMap, is_closed, kept_of}
use Rattle.pp_store.specs.declared.faults.KeepFault.{KeepFault}
use Rattle.pp_store.specs.declared.faults.KeepFault.TheVariants.{Closed, Full, TooLong, NoDraft, DiskFault as NotNamed, OutOfMemory}
use Rattle.pp_target.specs.Name.{name_of}
use Rattle.pp_world.specs.declared.disk.DiskFault.{DiskFault}
use Rattle.pp_keeps_law.proofs.AllTaken.{same_then}
use Rattle.pp_keeps_law.proofs.Due.{among_before, fewer_without, next_before}
use Rattle.pp_keeps_law.proofs.Entries.{any_in, in_last, true_not}
use Rattle.pp_keeps_law.proofs.Found.{IsKnown, known_of}
use Rattle.pp_keeps_law.proofs.Held.{same_true}
use Rattle.pp_keeps_law.proofs.Joining.{HasBoth, LeadsWith, joined, nothing_left, nothing_more}
use Rattle.pp_keeps_law.proofs.OneRun.{HasDrafted, HasSealed, HasStayed, OneRun, drafted, one_run, sealed, stayed}
use Rattle.pp_keeps_law.proofs.Planned.{unrefused}
use Rattle.pp_keeps_law.proofs.Shelved.{others_drafted, others_sealed, own_closed, own_drafted, own_gone, own_lost_draft, own_sealed}
use Rattle.pp_keeps_law.proofs.Steps.{runs_lead_on}
use Rattle.pp_keeps_law.specs.All.{AreAmong, HasNextRun, IsSameBody}
use Rattle.pp_keeps_law.specs.Keeps.{AddsTo, HasKept, LeadsOn}
use Rattle.pp_keeps_law.specs.Plans.{GoesWith, as_one, at_once, of_many}
use Rattle.pp_keeps_law.specs.Stands.{StandsToKeep}

-- ---- how far so many runs go

unfoldable pub room_for : ℕ → ℕ → ℕ
room_for zero run = 0
room_for (suc n) run = 4096 * run + room_for n run

-- so many steps are enough: a draft is one
pub record IsWithin (steps : ℕ) (p : Turn) (shelf : KeptMap) (i : Instance) : Type 0 where
  pub kept : (k : KeptRow) → kept_of i.key shelf ≡ Some k → is_same_version i.version k.entry.version ≡ true → i.version.length - k.extent ≤ room_for steps p.run
  pub new : (n : ℕ) → steps ≡ suc n → kept_of i.key shelf ≡ None → is_closed (name_of i.key) shelf ≡ false → i.version.length ≤ 67108864 → i.version.length ≤ room_for n p.run

abbrev pub IsOver : ObjectId → Turn → KeptMap → Type 0
IsOver id p shelf = (i : Instance) → instance_of id p.cache.instances ≡ Some i → HasNextRun p shelf id i → ⊥

-- amid the runs of an instance: it is the last of these, and the others are noted still
pub record IsAmid (start : Turn) (id : ObjectId) (left : List ObjectId) (p : Turn) (shelf : KeptMap) : Type 0 where
  pub same : IsSameBody start p
  pub none : p.cache.outdated ≡ []
  pub names : p.cache.grown ≡ left
  pub among : AreAmong (left ++ id ∷ []) p shelf

abbrev pub Goes : ObjectId → ℕ → Bool → Turn → KeptMap → Type 0
Goes id n true p shelf = (i : Instance) → instance_of id p.cache.instances ≡ Some i → IsWithin n p shelf i
Goes id n false p shelf = IsOver id p shelf

pub record Going (start : Turn) (id : ObjectId) (left : List ObjectId) (n : ℕ) (goes : Bool) (p : Turn) (shelf : KeptMap) : Type 0 where
  pub amid : IsAmid start id left p shelf
  pub goes_so : Goes id n goes p shelf

pub record Ended (start : Turn) (id : ObjectId) (left : List ObjectId) (p : Turn) (shelf : KeptMap) : Type 0 where
  pub amid : IsAmid start id left p shelf
  pub over : IsOver id p shelf

-- ---- ids

pub id_is : (a b : ObjectId) → is_same_id a b ≡ true → a ≡ b
id_is a b same = ap₂ (λ (slot life : ℕ). let id : ObjectId = record { slot = slot; life = life } in id) (same_number a.slot b.slot (first_holds (a.slot == b.slot) (a.life == b.life) same)) (same_number a.life b.life (second_holds (a.slot == b.slot) (a.life == b.life) same))

-- ---- two rows of one key are one

module _ (number : ℕ → ℕ) (p : Turn) (shelf : KeptMap) (s : State) (stands : StandsToKeep number p shelf s) where
  life_of : (id : ObjectId) (i : Instance) → in_slot id.slot p.cache.instances ≡ Some i → is_there id p.cache.instances ≡ true → i.life ≡ id.life
  life_of id i here there = is_same i.life id.life (sym (ap (λ (o : Option Instance). is_life id.life o) here) ∙ there)

  here_of : (id : ObjectId) (i : Instance) → instance_of id p.cache.instances ≡ Some i → is_there id p.cache.instances ≡ true → in_slot id.slot p.cache.instances ≡ Some i
  here_of id i found there = sym (ap (λ (b : Bool). cond b (in_slot id.slot p.cache.instances) None) there) ∙ found

  same_row : (a b : ObjectId) (i j : Instance) → instance_of a p.cache.instances ≡ Some i → instance_of b p.cache.instances ≡ Some j → i.is_retired ≡ false → j.is_retired ≡ false → i.key ≡ j.key → is_same_id a b ≡ true
  same_row a b i j found_a found_b row_a row_b keys =
      let one : IsKnown number p s a i = known_of number p shelf s a i stands found_a in
      let two : IsKnown number p s b j = known_of number p shelf s b j stands found_b in
      let of : (k : Known) → k.is_retired ≡ false → k.key ≡ j.key → is_row_of j.key k ≡ true = (λ k row key. both_hold (not k.is_retired) (bytes_eq k.key j.key) (ap not row) (bytes_by k.key j.key key)) in
      let same : one.known ≡ two.known = stands.alone j.key one.known two.known one.in_law two.in_law (of one.known (sym one.shows.retired ∙ row_a) (sym one.shows.key ∙ keys)) (of two.known (sym two.shows.retired ∙ row_b) (sym two.shows.key)) in
      let number_a : one.known.id ≡ number a.life = same_number one.known.id (number a.life) (in_find (is_instance (number a.life)) one.known s.instances one.by_number).1 in
      let number_b : two.known.id ≡ number b.life = same_number two.known.id (number b.life) (in_find (is_instance (number b.life)) two.known s.instances two.by_number).1 in
      let numbers : number b.life ≡ number a.life = sym number_b ∙ sym (ap (λ (k : Known). k.id) same) ∙ number_a in
      let slots : a.slot ≡ b.slot = stands.cache.table.apart a.slot b.slot (number a.life) (number_of_there number a p.cache.instances one.there) (number_of_there number b p.cache.instances two.there ∙ ap (λ (n : ℕ). Some n) numbers) in
      let here_a : in_slot a.slot p.cache.instances ≡ Some i = here_of a i found_a one.there in
      let here_b : in_slot b.slot p.cache.instances ≡ Some j = here_of b j found_b two.there in
      let both : Some i ≡ Some j = sym here_a ∙ ap (λ (n : ℕ). in_slot n p.cache.instances) slots ∙ here_b in
      let instances : i ≡ j = cc both in
      let lives : a.life ≡ b.life = sym (life_of a i here_a one.there) ∙ ap (λ (k : Instance). k.life) instances ∙ life_of b j here_b two.there in
      both_hold (a.slot == b.slot) (a.life == b.life) (same_true a.slot b.slot slots) (same_true a.life b.life lives)

  -- so what is kept of another is as it was
  step_among : (q : Turn) (new : KeptMap) (id : ObjectId) (row : Instance) (left : List ObjectId) → instance_of id p.cache.instances ≡ Some row → row.is_retired ≡ false → IsSameBody p q
      → ((k : Bytes) (kept : KeptRow) → bytes_eq row.key k ≡ false → kept_of k new ≡ Some kept → kept_of k shelf ≡ Some kept) → AreAmong (left ++ id ∷ []) p shelf → AreAmong (left ++ id ∷ []) q new
  step_among q new id row left found unretired same fewer among other i found_i next = by (is_same_id other id) refl
    where
      found_in : instance_of other p.cache.instances ≡ Some i
      found_in = ap (λ (is : List Instance). instance_of other is) (sym same.instances) ∙ found_i

      its : is_same_id id id ≡ true
      its = both_hold (id.slot == id.slot) (id.life == id.life) (same_true id.slot id.slot refl) (same_true id.life id.life refl)

      by_key : (b : Bool) → bytes_eq row.key i.key ≡ b → is_same_id other id ≡ false → list_any (is_same_id other) (left ++ id ∷ []) ≡ true
      by_key true keys apart = true_not (sym (same_row other id i row found_in found next.next.row unretired (sym (same_bytes row.key i.key keys))) ∙ apart)
      by_key false keys apart = among other i found_in (next_before p q shelf new other i same next (fewer i.key next.kept keys next.next.there))

      by : (b : Bool) → is_same_id other id ≡ b → list_any (is_same_id other) (left ++ id ∷ []) ≡ true
      by true is = subst (λ (o : ObjectId). list_any (is_same_id o) (left ++ id ∷ []) ≡ true) (sym (id_is other id is)) (any_in (is_same_id id) id (left ++ id ∷ []) (in_last id left) its)
      by false is = by_key (bytes_eq row.key i.key) refl is

-- ---- one step

going_as : (start : Turn) (id : ObjectId) (left : List ObjectId) (n : ℕ) (g goes : Bool) (p q : Turn) (shelf new : KeptMap) → p ≡ q → shelf ≡ new → goes ≡ g → Going start id left n g q new → Going start id left n goes p shelf
going_as start id left n g goes p q shelf new state kept ends so =
    subst (λ (b : Bool). Going start id left n b p shelf) (sym ends) (subst (λ (k : KeptMap). Going start id left n g p k) (sym kept) (subst (λ (t : Turn). Going start id left n g t new) (sym state) so))

full_len : (run held len : ℕ) → full run held ≡ Some len → len ≡ run
full_len run held len is = by (nat_lt 0 run && nat_le run held) is
  where
    by : (b : Bool) → cond b (Some run) None ≡ Some len → len ≡ run
    by true eq = let same : run ≡ len = cc eq in sym same
    by false eq = absurd (cc eq)

some_both : {A : Type 0} (o : Option A) (x y : A) → o ≡ Some x → o ≡ Some y → x ≡ y
some_both o x y a b = let both : Some x ≡ Some y = sym a ∙ b in cc both

never_both : {A : Type 0} (o : Option A) (x : A) → o ≡ None → o ≡ Some x → ⊥
never_both o x a b = let both : None ≡ Some x = sym a ∙ b in cc both

module _ (start : Turn) (number : ℕ → ℕ) (x y : Kept) (s : State) (id : ObjectId) (left : List ObjectId) (n : ℕ) (again : Bool) (stands : StandsToKeep number x.state x.outside.shelf s) (f : Going start id left (suc n) true x.state x.outside.shelf) where
  abbrev p : Turn
  p = x.state

  abbrev shelf : KeptMap
  shelf = x.outside.shelf

  by_stayed : HasStayed x y id again → Going start id left n again y.state y.outside.shelf
  by_stayed h = going_as start id left n false again y.state p y.outside.shelf shelf h.state h.shelf h.ends (record { amid = f.amid; goes_so = h.none })

  module _ (row : Instance) (found : instance_of id p.cache.instances ≡ Some row) (unretired : row.is_retired ≡ false) where
    amid_so : (q : Turn) (new : KeptMap) → IsSameBody p q → q.cache.outdated ≡ p.cache.outdated → q.cache.grown ≡ p.cache.grown
        → ((k : Bytes) (kept : KeptRow) → bytes_eq row.key k ≡ false → kept_of k new ≡ Some kept → kept_of k shelf ≡ Some kept) → IsAmid start id left q new
    amid_so q new same outdated grown fewer = record {
      same = same_then start p q f.amid.same same;
      none = outdated ∙ f.amid.none;
      names = grown ∙ f.amid.names;
      among = step_among number p shelf s stands q new id row left found unretired same fewer f.amid.among;
    }

    its_row : (q : Turn) → IsSameBody p q → (i : Instance) → instance_of id q.cache.instances ≡ Some i → row ≡ i
    its_row q same i there = some_both (instance_of id p.cache.instances) row i found (ap (λ (is : List Instance). instance_of id is) (sym same.instances) ∙ there)

  -- ---- a draft

  by_drafted : HasDrafted x y id again → Going start id left n again y.state y.outside.shelf
  by_drafted d = by d.result d.state d.shelf d.ends d.answers
    where
      fewer : (r : Result (Unit {0}) KeepFault) (k : Bytes) (kept : KeptRow) → bytes_eq d.row.key k ≡ false → kept_of k (kept_after r (entry_of d.row) d.whole shelf) ≡ Some kept → kept_of k shelf ≡ Some kept
      fewer r k kept other is = sym (others_drafted r (entry_of d.row) d.whole shelf k other) ∙ is

      unclosed : (o : Option KeepFault) → refusal_of (entry_of d.row) shelf ≡ o → Answers {A = Unit {0}} o (Ok tt) → is_closed (name_of d.row.key) shelf ≡ false
      unclosed None is late = (unrefused (entry_of d.row) shelf is).unclosed
      unclosed (Some fault) is same = absurd (cc same)

      short_left : Answers {A = Unit {0}} (refusal_of (entry_of d.row) shelf) (Ok tt) → GoesWith p id (entry_of d.row) d.whole → d.row.version.length - d.whole ≤ room_for n p.run
      short_left answers (at_once one nought) =
          let far = (f.goes_so d.row d.found).new n refl d.new.none (unclosed (refusal_of (entry_of d.row) shelf) refl answers) d.new.body in omega (arith, far, nought)
      short_left answers (of_many many is_full long nought) =
          let far = (f.goes_so d.row d.found).new n refl d.new.none (unclosed (refusal_of (entry_of d.row) shelf) refl answers) d.new.body in omega (arith, far, nought)
      short_left answers (as_one many is_full short ready all) = omega (arith, all)

      entered : Answers {A = Unit {0}} (refusal_of (entry_of d.row) shelf) (Ok tt) → (q : Turn) → IsSameBody p q → q.cache.outdated ≡ p.cache.outdated → q.cache.grown ≡ p.cache.grown → Going start id left n true q (with_row (entry_of d.row) d.whole shelf)
      entered answers q same outdated grown = record {
        amid = amid_so d.row d.found d.new.row q (with_row (entry_of d.row) d.whole shelf) same outdated grown (fewer (Ok tt));
        goes_so = λ i there. subst (λ (j : Instance). IsWithin n q (with_row (entry_of d.row) d.whole shelf) j) (its_row d.row d.found d.new.row q same i there) (record {
          kept = λ k is version.
              let own : record { entry = entry_of d.row; extent = d.whole } ≡ k = some_both (kept_of d.row.key (with_row (entry_of d.row) d.whole shelf)) _ k (own_drafted (entry_of d.row) d.whole shelf d.new.none) is in
              subst (λ (e : ℕ). d.row.version.length - e ≤ room_for n q.run) (ap (λ (r : KeptRow). r.extent) own) (subst (λ (r : ℕ). d.row.version.length - d.whole ≤ room_for n r) (sym same.run) (short_left answers d.new.with));
          new = λ m is none open_name short. absurd (never_both (kept_of d.row.key (with_row (entry_of d.row) d.whole shelf)) _ none (own_drafted (entry_of d.row) d.whole shelf d.new.none));
        });
      }

      refused : (fault : KeepFault) (q : Turn) → IsSameBody p q → q.cache.outdated ≡ p.cache.outdated → q.cache.grown ≡ p.cache.grown → Going start id left n false q (kept_after {A = Unit {0}} (Err fault) (entry_of d.row) d.whole shelf)
      refused fault q same outdated grown = record {
        amid = amid_so d.row d.found d.new.row q (kept_after {A = Unit {0}} (Err fault) (entry_of d.row) d.whole shelf) same outdated grown (fewer (Err fault));
        goes_so = λ i there next.
            never_both (kept_of i.key (kept_after {A = Unit {0}} (Err fault) (entry_of d.row) d.whole shelf)) next.kept
            (ap (λ (j : Instance). kept_of j.key (kept_after {A = Unit {0}} (Err fault) (entry_of d.row) d.whole shelf)) (sym (its_row d.row d.found d.new.row q same i there)) ∙ own_lost_draft fault (entry_of d.row) d.whole shelf ∙ d.new.none) next.next.there;
      }

      still : IsSameBody p p
      still = record { run = refl; instances = refl; lives = refl; chunks = refl }

      by : (r : Result (Unit {0}) KeepFault) → y.state ≡ with_outcome id (drafted_to (Some r) d.whole) p → y.outside.shelf ≡ kept_after r (entry_of d.row) d.whole shelf → again ≡ goes_on (drafted_to (Some r) d.whole) → Answers (refusal_of (entry_of d.row) shelf) r
          → Going start id left n again y.state y.outside.shelf
      by (Ok done) state kept ends answers =
          going_as start id left n true again y.state (with_outcome id (drafted_to (Some (Ok tt)) d.whole) p) y.outside.shelf (with_row (entry_of d.row) d.whole shelf) state kept ends
          (entered answers (with_outcome id (drafted_to (Some (Ok tt)) d.whole) p) (record { run = refl; instances = refl; lives = refl; chunks = refl }) refl refl)
      by (Err Closed) state kept ends answers = going_as start id left n false again y.state p y.outside.shelf (kept_after {A = Unit {0}} (Err Closed) (entry_of d.row) d.whole shelf) state kept ends (refused Closed p still refl refl)
      by (Err Full) state kept ends answers = going_as start id left n false again y.state p y.outside.shelf (kept_after {A = Unit {0}} (Err Full) (entry_of d.row) d.whole shelf) state kept ends (refused Full p still refl refl)
      by (Err TooLong) state kept ends answers = going_as start id left n false again y.state p y.outside.shelf (kept_after {A = Unit {0}} (Err TooLong) (entry_of d.row) d.whole shelf) state kept ends (refused TooLong p still refl refl)
      by (Err NoDraft) state kept ends answers =
          going_as start id left n false again y.state (with_outcome id (drafted_to (Some (Err NoDraft)) d.whole) p) y.outside.shelf (kept_after {A = Unit {0}} (Err NoDraft) (entry_of d.row) d.whole shelf) state kept ends
          (refused NoDraft (with_outcome id (drafted_to (Some (Err NoDraft)) d.whole) p) (record { run = refl; instances = refl; lives = refl; chunks = refl }) refl refl)
      by (Err NotNamed) state kept ends answers = going_as start id left n false again y.state p y.outside.shelf (kept_after {A = Unit {0}} (Err NotNamed) (entry_of d.row) d.whole shelf) state kept ends (refused NotNamed p still refl refl)
      by (Err OutOfMemory) state kept ends answers = going_as start id left n false again y.state p y.outside.shelf (kept_after {A = Unit {0}} (Err OutOfMemory) (entry_of d.row) d.whole shelf) state kept ends (refused OutOfMemory p still refl refl)

  -- ---- a run

  by_sealed : HasSealed x y id again → Going start id left n again y.state y.outside.shelf
  unfolding room_for
  by_sealed d = by d.result d.state d.shelf d.ends d.extent
    where
      closer : (far : ℕ) → far ≡ d.kept.extent + d.len → d.row.version.length - far ≤ room_for n p.run
      closer far is =
          let before : d.row.version.length - d.kept.extent ≤ 4096 * p.run + room_for n p.run = (f.goes_so d.row d.found).kept d.kept d.next.there d.next.same in
          let len : d.len ≡ min (4096 * p.run) (d.row.version.length - d.kept.extent) = full_len (min (4096 * p.run) (d.row.version.length - d.kept.extent)) _ d.len d.next.full in
          nearer d.row.version.length d.kept.extent d.len (4096 * p.run) (room_for n p.run) far before len is
        where
          nearer : (l ext len run more far : ℕ) → l - ext ≤ run + more → len ≡ min run (l - ext) → far ≡ ext + len → l - far ≤ more
          nearer l ext len run more far before size is = omega (arith, before, size, is)

      further : (far : ℕ) → far ≡ d.kept.extent + d.len → (q : Turn) → IsSameBody p q → q.cache.outdated ≡ p.cache.outdated → q.cache.grown ≡ p.cache.grown → Going start id left n true q (extended d.row.key far shelf)
      further far is q same outdated grown = record {
        amid = amid_so d.row d.found d.next.row q (extended d.row.key far shelf) same outdated grown (λ k kept other there. others_sealed (Ok far) d.row.key shelf k kept other there);
        goes_so = λ i there. subst (λ (j : Instance). IsWithin n q (extended d.row.key far shelf) j) (its_row d.row d.found d.next.row q same i there) (record {
          kept = λ k its version.
              let own : extended_to far d.kept ≡ k = some_both (kept_of d.row.key (extended d.row.key far shelf)) (extended_to far d.kept) k (own_sealed far d.row.key shelf d.kept d.next.there) its in
              subst (λ (e : ℕ). d.row.version.length - e ≤ room_for n q.run) (ap (λ (r : KeptRow). r.extent) own) (subst (λ (r : ℕ). d.row.version.length - far ≤ room_for n r) (sym same.run) (closer far is));
          new = λ m steps none open_name short. absurd (never_both (kept_of d.row.key (extended d.row.key far shelf)) (extended_to far d.kept) none (own_sealed far d.row.key shelf d.kept d.next.there));
        });
      }

      gone : (q : Turn) → IsSameBody p q → q.cache.outdated ≡ p.cache.outdated → q.cache.grown ≡ p.cache.grown → Going start id left n true q (lost d.row.key shelf)
      gone q same outdated grown = record {
        amid = amid_so d.row d.found d.next.row q (lost d.row.key shelf) same outdated grown (λ k kept other there. fewer_without d.row.key k shelf kept there);
        goes_so = λ i there. subst (λ (j : Instance). IsWithin n q (lost d.row.key shelf) j) (its_row d.row d.found d.next.row q same i there) (record {
          kept = λ k its version. absurd (never_both (kept_of d.row.key (lost d.row.key shelf)) k (own_gone d.row.key shelf) its);
          new = λ m steps none open_name short. true_not (sym (own_closed d.row.key shelf) ∙ open_name);
        });
      }

      by : (r : Result ℕ DiskFault) → y.state ≡ with_outcome id (sealed_to (Some r)) p → y.outside.shelf ≡ extended_after r d.row.key shelf → again ≡ goes_on (sealed_to (Some r)) → IfOk r (λ far. far ≡ d.kept.extent + d.len) → Going start id left n again y.state y.outside.shelf
      by (Ok far) state kept ends is =
          going_as start id left n true again y.state (with_outcome id (sealed_to (Some (Ok far))) p) y.outside.shelf (extended d.row.key far shelf) state kept ends
          (further far is (with_outcome id (sealed_to (Some (Ok far))) p) (record { run = refl; instances = refl; lives = refl; chunks = refl }) refl refl)
      by (Err fault) state kept ends is =
          going_as start id left n true again y.state (with_outcome id (sealed_to (Some (Err fault))) p) y.outside.shelf (lost d.row.key shelf) state kept ends
          (gone (with_outcome id (sealed_to (Some (Err fault))) p) (record { run = refl; instances = refl; lives = refl; chunks = refl }) refl refl)

  pub goes_then : OneRun x y id again → Going start id left n again y.state y.outside.shelf
  goes_then (stayed h) = by_stayed h
  goes_then (drafted d) = by_drafted d
  goes_then (sealed d) = by_sealed d

-- ---- all of them

no_steps : (id : ObjectId) (p : Turn) (shelf : KeptMap) → ((i : Instance) → instance_of id p.cache.instances ≡ Some i → IsWithin 0 p shelf i) → IsOver id p shelf
unfolding room_for
no_steps id p shelf within i found next =
    let none : i.version.length - next.kept.extent ≤ 0 = (within i found).kept next.kept next.next.there next.next.same in
    let len : next.len ≡ min (4096 * p.run) (i.version.length - next.kept.extent) = full_len (min (4096 * p.run) (i.version.length - next.kept.extent)) _ next.len next.next.full in
    some_full (min (4096 * p.run) (i.version.length - next.kept.extent)) _ next.len next.next.full (nothing (4096 * p.run) (i.version.length - next.kept.extent) none)
  where
    nothing : (a b : ℕ) → b ≤ 0 → min a b ≡ 0
    nothing a b less = omega (arith, less)

    some_full : (run held len : ℕ) → full run held ≡ Some len → run ≡ 0 → ⊥
    some_full run held len is nought = let none : full 0 held ≡ Some len = ap (λ (m : ℕ). full m held) (sym nought) ∙ is in cc none

pub ends_with : (start : Turn) (id : ObjectId) (left : List ObjectId) (goes : Bool) (x : Kept) → Going start id left 0 goes x.state x.outside.shelf → Ended start id left x.state x.outside.shelf
ends_with start id left true x f = record { amid = f.amid; over = no_steps id x.state x.outside.shelf f.goes_so }
ends_with start id left false x f = record { amid = f.amid; over = f.goes_so }

-- also where this life is said to have gone astray
same_astray : (p : Turn) → IsSameBody p (gone_astray p)
same_astray p = record { run = refl; instances = refl; lives = refl; chunks = refl }

pub among_astray : (ids : List ObjectId) (p : Turn) (shelf : KeptMap) → AreAmong ids p shelf → AreAmong ids (gone_astray p) shelf
among_astray ids p shelf among = among_before ids p (gone_astray p) shelf shelf (same_astray p) (λ key k is. is) among

ended_astray : (start : Turn) (id : ObjectId) (left : List ObjectId) (p : Turn) (shelf : KeptMap) → Ended start id left p shelf → Ended start id left (gone_astray p) shelf
ended_astray start id left p shelf e = record {
  amid = record { same = same_then start p (gone_astray p) e.amid.same (same_astray p); none = e.amid.none; names = e.amid.names; among = among_astray (left ++ id ∷ []) p shelf e.amid.among };
  over = λ i found next. e.over i found (next_before p (gone_astray p) shelf shelf id i (same_astray p) next next.next.there);
}

-- one that leads on, where no name is outdated
step_adds : (start : Turn) (id : ObjectId) (left : List ObjectId) (room n : ℕ) (again : Bool) (x y : Kept) → 286720 ≤ room → KeepsRun id room x y again
    → AddsTo x y (LeadsWith (Going start id left (suc n) true x.state x.outside.shelf) (Going start id left n again y.state y.outside.shelf) x y)
step_adds start id left room n again x y long step =
    adds_as x.outside.faults y.outside.faults (λ hs. x.state.cache.outdated ≡ [] → LeadsOn x y hs) (LeadsWith (Going start id left (suc n) true x.state x.outside.shelf) (Going start id left n again y.state y.outside.shelf) x y)
    (λ hs leads number s stands f.
    moves_map (HasKept number y.state y.outside.shelf s) (HasBoth number y s (Going start id left n again y.state y.outside.shelf))
    (λ t kept. record { kept = kept; knows = goes_then start number x y s id left n again stands f (one_run number s x y id room again long f.amid.none stands step) }) hs s (leads f.amid.none number s stands))
    (runs_lead_on x y id room again step)

pub all_runs : (start : Turn) (id : ObjectId) (left : List ObjectId) (room n : ℕ) (goes : Bool) (x y : Kept) → 286720 ≤ room → RepeatsOn (KeepsRun id room) n goes x y
    → AddsTo x y (LeadsWith (Going start id left n goes x.state x.outside.shelf) (Ended start id left y.state y.outside.shelf) x y)
unfolding RepeatsTo
all_runs start id left room zero goes x y long is =
    subst (λ (z : Kept). AddsTo x z (LeadsWith (Going start id left 0 goes x.state x.outside.shelf) (Ended start id left z.state z.outside.shelf) x z)) (sym is) (at_bound goes)
  where
    at_bound : (goes : Bool) → AddsTo x (ends_astray goes x) (LeadsWith (Going start id left 0 goes x.state x.outside.shelf) (Ended start id left (ends_astray goes x).state (ends_astray goes x).outside.shelf) x (ends_astray goes x))
    at_bound goes =
        nothing_left (Going start id left 0 goes x.state x.outside.shelf) (λ p. Ended start id left p x.outside.shelf) goes x (λ p e. ended_astray start id left p x.outside.shelf e) (λ number s stands f. ends_with start id left goes x f)
all_runs start id left room (suc n) false x y long is =
    subst (λ (z : Kept). AddsTo x z (LeadsWith (Going start id left (suc n) false x.state x.outside.shelf) (Ended start id left z.state z.outside.shelf) x z)) (sym is)
    (nothing_more (Going start id left (suc n) false x.state x.outside.shelf) (Ended start id left x.state x.outside.shelf) x (λ number s stands f. record { amid = f.amid; over = f.goes_so }))
all_runs start id left room (suc n) true x y long (next, again, step, more) =
    joined (Going start id left (suc n) true x.state x.outside.shelf) (Going start id left n again next.state next.outside.shelf) (Ended start id left y.state y.outside.shelf) x next y
    (step_adds start id left room n again x next long step) (all_runs start id left room n again next y long more)
