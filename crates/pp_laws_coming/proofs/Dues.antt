-- A decision that is no page is one that is decided, by what the exchange of the request brought.
use Rattle.std.proofs.Common.{◌≡◌, refl, ℕ, Bool, true, false, ◌==◌, ◌&&◌, ◌||◌, is_some, Option, Some, None, ap, ◌∙◌}
use Rattle.pp_world.specs.declared.note.Cause.{Cause}
use Rattle.pp_world.specs.declared.note.Decision.{Decision}
use Rattle.pp_world.specs.declared.note.Decision.TheVariants.{Refuse}
use Rattle.pp_law.specs.Decisions.{decide}
use Rattle.pp_law.specs.Due.{Due, Decide, CutOff, due_by_stage, due_cut, due_decision, due_of, due_reply, give_up, has_lost_row, is_told, next_due}
use Rattle.pp_law.specs.Permits.{has_room_for, is_due_decision, is_same_decision, may_take, may_want_memory, permits_taken}
use Rattle.pp_law.specs.Phases.{come_to_decide, decides}
use Rattle.pp_law.specs.Sharing.{due_first, due_undecided, is_patient, may_share, shared_ask}
use Rattle.pp_law.specs.Stages.{is_page}
use Rattle.pp_law.specs.State.{State, AskTooLong, Client, Course, OutOfTries, Reply, RowRefused, Shared, Stage, Trying, Undecided, Waiting, Passing, Answering}
use Rattle.pp_laws.specs.Runs.{IsIn}
use Rattle.pp_laws.proofs.Dues.{next_in}
use Rattle.pp_laws.proofs.Tests.{first_holds, same_number}
use Rattle.pp_laws_turn.proofs.Happenings.{gate}

-- ---- what is due to a client

paged : (status : ℕ) (d : Decision) → is_page d ≡ false → Some (Refuse status) ≡ Some d → ⊥
paged status d page is = let one : Refuse status ≡ d = cc is in let both : true ≡ false = ap is_page one ∙ page in cc both

give_by : (course : Course) (o : Option Decision) (d : Decision) → is_page d ≡ false → give_up course o ≡ Some d → o ≡ Some d
give_by (Trying n) o d page is = is
give_by OutOfTries o d page is = absurd (paged 502 d page is)
give_by AskTooLong o d page is = absurd (paged 431 d page is)
give_by RowRefused o d page is = absurd (paged 500 d page is)

from_undecided : (s : State) (c : Client) (d : Decision) → due_undecided s c ≡ Some d → decide s c ≡ Some d
from_undecided s c d is = by c.waits_on is
  where
    first : (x : Decision) (t : Bool) → (elim t as (λ y. Option Decision) [ true ↦ None | false ↦ Some x ]) ≡ Some d → Some x ≡ Some d
    first x true at = absurd (cc at)
    first x false at = at

    patient : (t : Bool) → (elim t as (λ y. Option Decision) [ true ↦ None | false ↦ decide s c ]) ≡ Some d → decide s c ≡ Some d
    patient true at = absurd (cc at)
    patient false at = at

    alone : (o : Option Decision) → (elim o as (λ y. Option Decision) [ None ↦ None | Some x ↦ due_first s c x ]) ≡ Some d → o ≡ Some d
    alone None at = absurd (cc at)
    alone (Some x) at = first x (s.settings.shares_fetches && may_share x && is_some (shared_ask s c)) at

    by : (o : Option Shared) → (elim o as (λ y. Option Decision) [
      | Some w ↦ elim (is_patient s w) as (λ y. Option Decision) [ true ↦ None | false ↦ decide s c ]
      | None ↦ elim (decide s c) as (λ y. Option Decision) [ None ↦ None | Some x ↦ due_first s c x ]
    ]) ≡ Some d → decide s c ≡ Some d
    by (Some w) at = patient (is_patient s w) at
    by None at = alone (decide s c) at

pub from_due : (s : State) (c : Client) (d : Decision) → is_page d ≡ false → due_decision s c ≡ Some d → decide s c ≡ Some d
from_due s c d page is = going (c.is_closing || s.is_stopped) is
  where
    told : (t : Bool) → (elim t as (λ y. Option Decision) [ true ↦ decide s c | false ↦ None ]) ≡ Some d → decide s c ≡ Some d
    told true at = at
    told false at = absurd (cc at)

    replied : (r : Reply) (t : Bool) → (elim t as (λ y. Option Decision) [
      | true ↦ None
      | false ↦ give_up c.course (elim (has_lost_row s r) as (λ y. Option Decision) [ true ↦ decide s c | false ↦ None ])
    ]) ≡ Some d → decide s c ≡ Some d
    replied r true at = absurd (cc at)
    replied r false at = told (has_lost_row s r) (give_by c.course _ d page at)

    never : None ≡ Some d → decide s c ≡ Some d
    never at = absurd (cc at)

    by : (stage : Stage) → (elim stage as (λ y. Option Decision) [
      | Undecided ↦ due_undecided s c
      | Waiting ↦ give_up c.course (elim (is_told c.brought) as (λ y. Option Decision) [ true ↦ decide s c | false ↦ None ])
      | Passing ↦ give_up c.course None
      | Answering r ↦ due_reply s c r
    ]) ≡ Some d → decide s c ≡ Some d
    by Undecided at = from_undecided s c d at
    by Waiting at = told (is_told c.brought) (give_by c.course _ d page at)
    by Passing at = never (give_by c.course None d page at)
    by (Answering r) at = replied r r.has_begun at

    going : (t : Bool) → (elim t as (λ y. Option Decision) [ true ↦ None | false ↦ due_by_stage s c ]) ≡ Some d → decide s c ≡ Some d
    going true at = absurd (cc at)
    going false at = by c.stage at

-- ---- what comes next

decided_so : (s : State) (c : Client) (n i : ℕ) (d : Decision) → due_of s c ≡ Some (Decide n i d) → (c.number ≡ n) × (due_decision s c ≡ Some d)
decided_so s c n i d is = by (due_cut s c) (due_decision s c) is
  where
    parts : (m j : ℕ) (x : Decision) → Some (Decide m j x) ≡ Some (Decide n i d) → (m ≡ n) × (x ≡ d)
    parts m j x e = let same_due : Decide m j x ≡ Decide n i d = cc e in (cc same_due, cc same_due)

    by : (o : Option Cause) (p : Option Decision)
        → (elim o as (λ x. Option Due) [ Some cause ↦ Some (CutOff c.number cause) | None ↦ elim p as (λ x. Option Due) [ Some x ↦ Some (Decide c.number c.index x) | None ↦ None ] ]) ≡ Some (Decide n i d) → (c.number ≡ n) × (p ≡ Some d)
    by (Some cause) p at = absurd (cc at)
    by None None at = absurd (cc at)
    by None (Some x) at = let w = parts c.number c.index x at in (w.0, ap (λ (y : Decision). Some y) w.1)

-- a decision of that client that is this one, or stands for it
pub record IsDue (s : State) (n : ℕ) (d : Decision) : Type 0 where
  pub own : Client
  pub there : IsIn own s.clients
  pub number : own.number ≡ n
  pub due : Decision
  pub is : due_decision s own ≡ Some due
  pub alike : (is_same_decision due d || (is_same_decision d (Refuse 500) && may_want_memory s n)) ≡ true

both_hold : (a b c : Bool) → (a && b && c) ≡ true → (a ≡ true) × (c ≡ true)
both_hold true true c is = (refl, is)
both_hold true false c is = absurd (cc is)
both_hold false b c is = absurd (cc is)

due_so : (s : State) (n i : ℕ) (d : Decision) → is_due_decision s (next_due s) n i d ≡ true → IsDue s n d
due_so s n i d is = by (next_due s) refl is
  where
    by : (o : Option Due) → next_due s ≡ o → is_due_decision s o n i d ≡ true → IsDue s n d
    by None none at = absurd (cc at)
    by (Some (CutOff m cause)) some at = absurd (cc at)
    by (Some (Decide m j x)) some at =
        let w = next_in s (Decide m j x) some in
        let v = decided_so s w.0 m j x w.2 in
        let hit = both_hold (m == n) (j == i) (is_same_decision x d || (is_same_decision d (Refuse 500) && may_want_memory s n)) at in
        record { own = w.0; there = w.1; number = v.0 ∙ same_number m n hit.0; due = x; is = v.1; alike = hit.1 }

pub taken_due : (s : State) (n i : ℕ) (d : Decision) → permits_taken s n i d ≡ true → IsDue (come_to_decide s) n d
taken_due s n i d may =
    let t : State = come_to_decide s in
    let on = gate (decides t) (may_take t n i d) may in
    due_so t n i d (first_holds (is_due_decision t (next_due t) n i d) (has_room_for t n d) on.1)
