-- What is due of a seat, as a turn reads it, is what is due of its client.
use Rattle.std.proofs.Common.{◌≡◌, refl, ap, ap₂, ◌∙◌, ℕ, Bool, true, false, not, ◌&&◌, ◌||◌, is_some, List, [], ◌∷◌, Option, Some, None, option_map}
use Rattle.pp_world.specs.declared.note.Cause.{Cause}
use Rattle.pp_world.specs.declared.note.Decision.{Decision}
use Rattle.pp_world.specs.declared.note.Decision.TheVariants.{Refuse}
use Rattle.pp_law.specs.Decisions.{decide}
use Rattle.pp_law.specs.Due.{Due, due_of, is_superseded}
use Rattle.pp_law.specs.Lists.{Bytes, first_some}
use Rattle.pp_law.specs.Offers.{has_to_say}
use Rattle.pp_law.specs.Sharing.{due_undecided, shared_ask}
use Rattle.pp_law.specs.State.{State, Client}
use Rattle.pp_seats.specs.declared.due.Due.{Due as SeatDue}
use Rattle.pp_seats.specs.declared.seat.Course.{Course as SeatCourse}
use Rattle.pp_seats.specs.declared.seat.Seat.{Seat}
use Rattle.pp_seats.specs.declared.seat.Shared.{Shared as SeatShared}
use Rattle.pp_seats.specs.declared.seat.Stage.{Stage as SeatStage}
use Rattle.pp_seats.specs.declared.seat.Stage.TheVariants.{Undecided as IsUndecided, Waiting as IsWaiting, Passing as IsPassing, Answering as IsAnswering}
use Rattle.pp_seats.specs.Courses.{has_begun, is_trying_in}
use Rattle.pp_seats.specs.Dues.{again_in, by_stage_in, decision_in, due_in, give_up_in, is_idle_in, is_read_in, is_refused_in, is_short_in, lost_in, may_share as may_share_in, undecided_in}
use Rattle.pp_seats.specs.Follows.{answer_in}
use Rattle.pp_seats.specs.Seats.{is_told_in, is_undecided_in}
use Rattle.pp_seats_law.specs.Dues.{AreDue, DueAsReadIsTheLaws, FirstDueIsTheLaws, asked_read, cut_of, cut_read, decision_read, due_as, has_lost_its_row, has_source_standing, if_so, undecided_read, waits_on_still}
use Rattle.pp_seats_law.specs.Seats.{ShowsOpen}
use Rattle.pp_seats_law.proofs.Dues.{cause_by, dues, lost, sharing}

-- ---- cuts

cause_read : (b short trying dry superseded stopped idle : Bool)
    → cause_by (b && stopped) (b && short && (b && (short || not trying) && dry)) (b && not trying && (b && (short || not trying) && dry)) (b && (b && superseded)) idle
    ≡ cause_by (b && stopped) (b && short && dry) (b && not trying && dry) (b && superseded) idle
cause_read true true true dry superseded stopped idle = refl
cause_read true true false dry superseded stopped idle = refl
cause_read true false true dry superseded stopped idle = refl
cause_read true false false dry superseded stopped idle = refl
cause_read false short trying dry superseded stopped idle = refl

same_cut : (s : State) (seat : Seat) (c : Client) → cut_read s seat c ≡ cut_of s seat c
same_cut s seat c = cause_read (has_begun seat) (is_short_in seat.brought) (is_trying_in seat.course) (not (has_to_say s c)) (is_superseded s c) s.is_stopped (is_idle_in s.is_ticked s.clock seat)

-- ---- what it asks may be another's

shared_so : (shares may asked : Bool) (d : Decision)
    → (elim (shares && may && (true && (shares && may && asked))) as (λ c. Option Decision) [ true ↦ None | false ↦ Some d ]) ≡ (elim (shares && may && asked) as (λ c. Option Decision) [ true ↦ None | false ↦ Some d ])
shared_so true true asked d = refl
shared_so true false asked d = refl
shared_so false may asked d = refl

waiting_so : (w : SeatShared) (patient shares asked other : Bool) (decided : Option Decision) → undecided_in (Some w) patient shares asked (if_so (not patient) decided) ≡ undecided_in (Some w) patient shares other decided
waiting_so w true shares asked other decided = refl
waiting_so w false shares asked other decided = refl

none_so : (shares asked : Bool) (decided : Option Decision) → undecided_in None false shares (true && asked_read shares decided asked) decided ≡ undecided_in None false shares asked decided
none_so shares asked None = refl
none_so shares asked (Some d) = shared_so shares (may_share_in d) asked d

same_undecided : (s : State) (waits : Option SeatShared) (shares asked : Bool) (decided : Option Decision)
    → undecided_in waits (waits_on_still s waits) shares (not (is_some waits) && asked_read shares (if_so (not (waits_on_still s waits)) decided) asked) (if_so (not (waits_on_still s waits)) decided)
    ≡ undecided_in waits (waits_on_still s waits) shares asked decided
same_undecided s None shares asked decided = none_so shares asked decided
same_undecided s (Some w) shares asked decided = waiting_so w (waits_on_still s (Some w)) shares (false && asked_read shares (if_so (not (waits_on_still s (Some w))) decided) asked) asked decided

-- ---- decisions

told_so : (course : SeatCourse) (told : Bool) (decided : Option Decision)
    → give_up_in course (elim told as (λ c. Option Decision) [ true ↦ if_so told decided | false ↦ None ]) ≡ give_up_in course (elim told as (λ c. Option Decision) [ true ↦ decided | false ↦ None ])
told_so course true decided = refl
told_so course false decided = refl

again_so : (begun : Bool) (course : SeatCourse) (lost_row : Bool) (decided : Option Decision) → again_in begun course lost_row (if_so (not begun && lost_row) decided) ≡ again_in begun course lost_row decided
again_so true course lost_row decided = refl
again_so false course true decided = refl
again_so false course false decided = refl

by_stage_so : (stage : SeatStage) (course : SeatCourse) (told lost_row : Bool) (undecided decided : Option Decision)
    → by_stage_in stage course told lost_row (if_so (is_undecided_in stage) undecided) (if_so (is_read_in stage told lost_row) decided) ≡ by_stage_in stage course told lost_row undecided decided
by_stage_so IsUndecided course told lost_row undecided decided = refl
by_stage_so IsWaiting course told lost_row undecided decided = told_so course told decided
by_stage_so IsPassing course told lost_row undecided decided = refl
by_stage_so (IsAnswering a) course told lost_row undecided decided = again_so a.has_begun course lost_row decided

same_decision : (number : ℕ → ℕ) (s : State) (name : Bytes) (seat : Seat) (c : Client) → ShowsOpen number name [] seat c → decision_read s seat c ≡ decision_in seat (has_lost_its_row s c) (due_undecided s c) (decide s c)
same_decision number s name seat c shows =
    ap (λ (o : Option Decision). elim (is_refused_in seat.brought) as (λ x. Option Decision) [ true ↦ Some (Refuse 500) | false ↦ o ])
    (by_stage_so seat.stage seat.course (is_told_in seat.brought) (lost_in (answer_in seat.stage) (has_source_standing s c)) (undecided_read s seat c) (decide s c))
    ∙ ap₂ (λ (b : Bool) (o : Option Decision). decision_in seat b o (decide s c)) (lost s number name [] seat c shows)
    (same_undecided s seat.waits_on s.settings.shares_fetches (is_some (shared_ask s c)) (decide s c) ∙ sharing s number name [] seat c shows)

-- ---- both

due_so : (closing stopped : Bool) (cut : Option Cause) (decision : Option Decision)
    → due_in closing stopped (elim closing as (λ c. Option Cause) [ true ↦ None | false ↦ cut ]) (if_so (not closing && not stopped && not (is_some (elim closing as (λ c. Option Cause) [ true ↦ None | false ↦ cut ]))) decision)
    ≡ due_in closing stopped cut decision
due_so true stopped cut decision = refl
due_so false stopped (Some cause) decision = refl
due_so false true None decision = refl
due_so false false None decision = refl

-- of one that is not closing
open_so : (closing other stopped : Bool) (cut then : Option Cause) (decision next : Option Decision) → closing ≡ other → (other ≡ false → cut ≡ then) → (other ≡ false → decision ≡ next) → due_in closing stopped cut decision ≡ due_in closing stopped then next
open_so true true stopped cut then decision next same cuts decisions = refl
open_so false false stopped cut then decision next same cuts decisions = ap₂ (λ (x : Option Cause) (y : Option Decision). due_in false stopped x y) (cuts refl) (decisions refl)
open_so true false stopped cut then decision next same cuts decisions = absurd (cc same)
open_so false true stopped cut then decision next same cuts decisions = absurd (cc same)

pub dues_as_read : DueAsReadIsTheLaws
dues_as_read number s name seat c shows =
    ap (λ (o : Option SeatDue). option_map (due_as seat.client.id seat.index) o)
    (due_so seat.is_closing s.is_stopped (cut_read s seat c) (decision_read s seat c)
    ∙ open_so seat.is_closing c.is_closing s.is_stopped (cut_read s seat c) (cut_of s seat c) (decision_read s seat c) (decision_in seat (has_lost_its_row s c) (due_undecided s c) (decide s c)) shows.closing
    (λ going. same_cut s seat c) (λ going. same_decision number s name seat c (shows.going going)))
    ∙ dues number s name seat c shows

-- ---- which comes first

first_same : (s : State) (due : Seat → Option SeatDue) (seats : List Seat) (cs : List Client) → AreDue s due seats cs → first_some (λ (seat : Seat). option_map (due_as seat.client.id seat.index) (due seat)) seats ≡ first_some (due_of s) cs
first_same s due [] [] same = refl
first_same s due [] (c ∷ cs) same = absurd same
first_same s due (seat ∷ seats) [] same = absurd same
first_same s due (seat ∷ seats) (c ∷ cs) same = ap₂ (λ (o r : Option Due). elim o as (λ x. Option Due) [ Some y ↦ Some y | None ↦ r ]) same.0 (first_same s due seats cs same.1)

pub first_dues : FirstDueIsTheLaws
first_dues s due seats same = first_same s due seats s.clients same
