-- The cache is bounded still, as a row leaves it, an attempt is lost, an exchange is over and followers ask.
use Rattle.std.proofs.Common.{◌≡◌, ◌≤◌, refl, sym, subst, ap, ◌∙◌, ℕ, Bool, true, false, not, ◌==◌, ◌&&◌, ◌/◌, ◌%◌, cond, filter, length, List, [], ◌∷◌, Option, Some, None, le_trans, arith}
use Rattle.std.proofs.lemmas.Bool.Decides.{nat_tests}
use Rattle.std.specs.Prelude.{nat_lt, option_map}
use Rattle.pp_cache.specs.Bounds.{IsBounded}
use Rattle.pp_cache.specs.Memory.{Memory, is_in_memory, retired_at}
use Rattle.pp_cache.specs.Offsets.{has_offset}
use Rattle.pp_cache_law.proofs.Moves.{changed_if, in_slot-changed, in_slot-elsewhere, in_slot-gone}
use Rattle.pp_cache_law.proofs.Numbers.{is_same}
use Rattle.pp_flow.specs.Changes.{entry_of}
use Rattle.pp_flow.specs.Errands.{attempts_in}
use Rattle.pp_flow.specs.declared.entry.Entry.{Entry}
use Rattle.pp_flow.specs.declared.entry.Exchange.{Exchange}
use Rattle.pp_holes.specs.Places.{Chunk, bytes_at, first_bytes, is_at, is_of_other, without_owner}
use Rattle.pp_laws_bounds.proofs.Counts.{length-filter}
use Rattle.pp_objects.specs.Changes.{changed_in, given_back_by, retired, retired_from, without_slot}
use Rattle.pp_objects.specs.Instances.{Instance, cells_of, in_slot, is_in_slot, is_there, row_of, table_at, total_at, total_of}
use Rattle.pp_objects.specs.declared.id.ObjectId.{ObjectId}
use Rattle.pp_rounds_law.proofs.Quiet.{carries_filled}
use Rattle.pp_seats.specs.Courses.{lost_one}
use Rattle.pp_seats.specs.declared.seat.Course.{Course}
use Rattle.pp_state.specs.Ends.{Parts, charged_at, cleared_of, dropped_row, ended, given_up_row, is_unfilled_at, lost_attempt, may_ask_again, on_seat, seat_for, with_course}
use Rattle.pp_state.specs.Keys.{key_of}
use Rattle.pp_states_law.proofs.Told.{there_before}
use Rattle.pp_take.specs.Unplaced.{asked_again_where}
use Rattle.pp_rounds_law.specs.Bounds.{AsksLeaveBounded, EndsLeaveBounded, LossesLeaveBounded, RefusalsLeaveBounded, RowsLeaveBounded}

-- ---- a row that somebody follows is retired, and has what it had

retired_total : (slot k : ℕ) (is : List Instance) → total_at slot (changed_in k retired is) ≡ total_at slot is
retired_total slot k is = ap (λ (o : Option Instance). total_of o) (in_slot-changed slot k retired is (λ i. refl)) ∙ by (in_slot slot is)
  where
    one : (i : Instance) (b : Bool) → (cond b (retired i) i).version.length ≡ i.version.length
    one i true = refl
    one i false = refl

    by : (o : Option Instance) → total_of (option_map (changed_if k retired) o) ≡ total_of o
    by None = refl
    by (Some i) = one i (is_in_slot k i)

retired_cells : (slot k : ℕ) (is : List Instance) (at : ℕ) → has_offset (table_at slot (changed_in k retired is)) at ≡ has_offset (table_at slot is) at
retired_cells slot k is at = ap (λ (o : Option Instance). has_offset (record { owner = slot; total = total_of o; cells = cells_of o }) at) (in_slot-changed slot k retired is (λ i. refl)) ∙ by (in_slot slot is)
  where
    one : (i : Instance) (b : Bool) → has_offset (record { owner = slot; total = (cond b (retired i) i).version.length; cells = (cond b (retired i) i).cells }) at ≡ has_offset (record { owner = slot; total = i.version.length; cells = i.cells }) at
    one i true = refl
    one i false = refl

    by : (o : Option Instance) → has_offset (record { owner = slot; total = total_of (option_map (changed_if k retired) o); cells = cells_of (option_map (changed_if k retired) o) }) at ≡ has_offset (record { owner = slot; total = total_of o; cells = cells_of o }) at
    by None = refl
    by (Some i) = one i (is_in_slot k i)

-- ---- one that nobody follows is out, with its chunks

gone_in : (k index : ℕ) (cs : List Chunk) → filter (is_at (k, index)) (without_owner k cs) ≡ []
gone_in k index [] = refl
gone_in k index (c ∷ cs) = by (c.owner == k) refl (gone_in k index cs)
  where
    by : (b : Bool) → (c.owner == k) ≡ b → filter (is_at (k, index)) (without_owner k cs) ≡ [] → filter (is_at (k, index)) (cond (not b) (c ∷ without_owner k cs) (without_owner k cs)) ≡ []
    by true is rest = rest
    by false isnt rest = ap (λ (b : Bool). cond (b && (c.index == index)) (c ∷ filter (is_at (k, index)) (without_owner k cs)) (filter (is_at (k, index)) (without_owner k cs))) isnt ∙ rest

still_in : (slot k index : ℕ) (cs : List Chunk) → (slot == k) ≡ false → filter (is_at (slot, index)) (without_owner k cs) ≡ filter (is_at (slot, index)) cs
still_in slot k index [] apart = refl
still_in slot k index (c ∷ cs) apart = by (c.owner == k) refl (still_in slot k index cs apart)
  where
    others : (c.owner == k) ≡ true → (c.owner == slot) ≡ false
    others is = subst (λ (n : ℕ). (n == slot) ≡ false) (sym (is_same c.owner k is)) (turned slot k apart)
      where
        turned : (a b : ℕ) → (a == b) ≡ false → (b == a) ≡ false
        turned a b isnt = grind (arith, nat_tests)

    by : (b : Bool) → (c.owner == k) ≡ b → filter (is_at (slot, index)) (without_owner k cs) ≡ filter (is_at (slot, index)) cs
        → filter (is_at (slot, index)) (cond (not b) (c ∷ without_owner k cs) (without_owner k cs)) ≡ filter (is_at (slot, index)) (c ∷ cs)
    by true is rest = rest ∙ sym (ap (λ (b : Bool). cond (b && (c.index == index)) (c ∷ filter (is_at (slot, index)) cs) (filter (is_at (slot, index)) cs)) (others is))
    by false isnt rest = ap (λ (ds : List Chunk). cond ((c.owner == slot) && (c.index == index)) (c ∷ ds) ds) rest

none_below : (n : ℕ) → nat_lt n 0 ≡ false
none_below n = grind (arith, nat_tests)

gone_bytes : (k at : ℕ) (cs : List Chunk) → is_in_memory k at (without_owner k cs) ≡ false
gone_bytes k at cs = ap (λ (ds : List Chunk). nat_lt (at % 4096) (length (first_bytes ds))) (gone_in k (at / 4096) cs) ∙ none_below (at % 4096)

still_bytes : (slot k at : ℕ) (cs : List Chunk) → (slot == k) ≡ false → is_in_memory slot at (without_owner k cs) ≡ is_in_memory slot at cs
still_bytes slot k at cs apart = ap (λ (ds : List Chunk). nat_lt (at % 4096) (length (first_bytes ds))) (still_in slot k (at / 4096) cs apart)

nothing_there : (slot k : ℕ) (o : Option Instance) (at : ℕ) → o ≡ None → has_offset (record { owner = slot; total = total_of o; cells = cells_of o }) at ≡ false
nothing_there slot k o at none = ap (λ (u : Option Instance). has_offset (record { owner = slot; total = total_of u; cells = cells_of u }) at) none ∙ ap (λ (b : Bool). b && has_cells) (none_below at)
  where
    has_cells : Bool
    has_cells = nat_lt (at % 4096) 0

-- ---- in both

module _ (m : Memory) (names : List (List ℕ)) (b : IsBounded m) where
  abbrev with_both : List Instance → List Chunk → Memory
  with_both is cs = record m { instances = is; chunks = cs; outdated = names }

  same : IsBounded (with_both m.instances m.chunks)
  same = record { slots = b.slots; fronts = b.fronts; ends = b.ends; cells = b.cells; few = b.few }

  followed : (i : Instance) → ((id : ObjectId) → is_there id (changed_in i.slot retired m.instances) ≡ true → is_there id m.instances ≡ true) → IsBounded (with_both (changed_in i.slot retired m.instances) m.chunks)
  followed i there = record {
    slots = λ id is. b.slots id (there id is);
    fronts = b.fronts;
    ends = λ slot at less. b.ends slot at (subst (λ (n : ℕ). n ≤ at) (retired_total slot i.slot m.instances) less);
    cells = λ slot at. retired_cells slot i.slot m.instances at ∙ b.cells slot at;
    few = b.few;
  }

  out : (k : ℕ) → ((id : ObjectId) → is_there id (without_slot k m.instances) ≡ true → is_there id m.instances ≡ true) → IsBounded (with_both (without_slot k m.instances) (without_owner k m.chunks))
  out k there = record {
    slots = λ id is. b.slots id (there id is);
    fronts = λ slot index. fronts_by slot index (slot == k) refl;
    ends = λ slot at less. ends_by slot at less (slot == k) refl;
    cells = λ slot at. cells_by slot at (slot == k) refl;
    few = le_trans (length-filter (is_of_other k) m.chunks) b.few;
  }
    where
      nothing : (n : ℕ) (cs : List Chunk) → cs ≡ [] → length (first_bytes cs) ≤ 4096
      nothing n cs none = subst (λ (ds : List Chunk). length (first_bytes ds) ≤ 4096) (sym none) (omega arith)

      fronts_by : (slot index : ℕ) (c : Bool) → (slot == k) ≡ c → length (bytes_at (slot, index) (without_owner k m.chunks)) ≤ 4096
      fronts_by slot index true is =
          nothing index (filter (is_at (slot, index)) (without_owner k m.chunks)) (subst (λ (n : ℕ). filter (is_at (n, index)) (without_owner k m.chunks) ≡ []) (sym (is_same slot k is)) (gone_in k index m.chunks))
      fronts_by slot index false apart = subst (λ (ds : List Chunk). length (first_bytes ds) ≤ 4096) (sym (still_in slot k index m.chunks apart)) (b.fronts slot index)

      gone_by : (slot at : ℕ) → (slot == k) ≡ true → is_in_memory slot at (without_owner k m.chunks) ≡ false
      gone_by slot at is = subst (λ (n : ℕ). is_in_memory n at (without_owner k m.chunks) ≡ false) (sym (is_same slot k is)) (gone_bytes k at m.chunks)

      ends_by : (slot at : ℕ) → total_at slot (without_slot k m.instances) ≤ at → (c : Bool) → (slot == k) ≡ c → is_in_memory slot at (without_owner k m.chunks) ≡ false
      ends_by slot at less true is = gone_by slot at is
      ends_by slot at less false apart =
          still_bytes slot k at m.chunks apart ∙ b.ends slot at (subst (λ (o : Option Instance). total_of o ≤ at) (in_slot-elsewhere slot k m.instances apart) less)

      cells_by : (slot at : ℕ) (c : Bool) → (slot == k) ≡ c → has_offset (table_at slot (without_slot k m.instances)) at ≡ is_in_memory slot at (without_owner k m.chunks)
      cells_by slot at true is =
          nothing_there slot k (in_slot slot (without_slot k m.instances)) at (subst (λ (n : ℕ). in_slot n (without_slot k m.instances) ≡ None) (sym (is_same slot k is)) (in_slot-gone k m.instances))
          ∙ sym (gone_by slot at is)
      cells_by slot at false apart =
          ap (λ (o : Option Instance). has_offset (record { owner = slot; total = total_of o; cells = cells_of o }) at) (in_slot-elsewhere slot k m.instances apart)
          ∙ b.cells slot at ∙ sym (still_bytes slot k at m.chunks apart)

  found : (o : Option Instance) → IsBounded (with_both (retired_from o m.instances) (given_back_by o m.chunks))
  found None = same
  found (Some i) = by (i.followers == 0) (λ id is. there_before id (Some i) m.instances is)
    where
      by : (c : Bool) → ((id : ObjectId) → is_there id (cond c (without_slot i.slot m.instances) (changed_in i.slot retired m.instances)) ≡ true → is_there id m.instances ≡ true)
          → IsBounded (with_both (cond c (without_slot i.slot m.instances) (changed_in i.slot retired m.instances)) (cond c (without_owner i.slot m.chunks) m.chunks))
      by true there = out i.slot there
      by false there = followed i there

pub retired_bounded : RowsLeaveBounded
unfolding retired_at
retired_bounded key m b = found m (retired_at key m).outdated b (row_of key m.instances)

-- ---- an attempt is lost

cleared_bounded : (o : Option (List ℕ)) (p : Parts) → IsBounded p.cache → IsBounded (cleared_of o p).cache
cleared_bounded None p b = b
cleared_bounded (Some key) p b = retired_bounded key p.cache b

row_bounded : (i : ℕ) (e : Exchange) (p : Parts) → IsBounded p.cache → IsBounded (given_up_row i e p).cache
unfolding given_up_row
row_bounded i e p b = by (is_unfilled_at i e p)
  where
    by : (c : Bool) → IsBounded (cond c (dropped_row i e p) p).cache
    by true = cleared_bounded (key_of e.number p.flow) p b
    by false = b

charged_bounded : (o : Option ℕ) (cost : Course → Course) (e : Exchange) (p : Parts) → IsBounded p.cache → IsBounded (charged_at o cost e p).cache
unfolding charged_at
charged_bounded None cost e p b = b
charged_bounded (Some i) cost e p b = row_bounded i e (on_seat i (with_course cost) p) b

pub lost_bounded : LossesLeaveBounded
lost_bounded e p b = by (entry_of e.number p.flow)
  where
    by : (o : Option Entry) → IsBounded (elim o as (λ t. Parts) [ None ↦ p | Some x ↦ charged_at (seat_for e p.seats) (lost_one (attempts_in x.errand.is_asked_once)) e p ]).cache
    by None = b
    by (Some x) = charged_bounded (seat_for e p.seats) (lost_one (attempts_in x.errand.is_asked_once)) e p b

-- ---- it is over, and followers ask

pub ended_bounded : EndsLeaveBounded
ended_bounded n p b = b

pub filled_bounded : AsksLeaveBounded
filled_bounded is_stopped name awake p b = subst (λ (m : Memory). IsBounded m) (sym (carries_filled is_stopped name awake p).memory) b

pub refused_bounded : RefusalsLeaveBounded
refused_bounded is_stopped name awake e p b = by (may_ask_again e.number (lost_attempt e p))
  where
    by : (c : Bool) → IsBounded (asked_again_where c is_stopped name awake e.number (lost_attempt e p)).cache
    by true = lost_bounded e p b
    by false = filled_bounded is_stopped name awake (ended e.number (lost_attempt e p)) (lost_bounded e p b)
