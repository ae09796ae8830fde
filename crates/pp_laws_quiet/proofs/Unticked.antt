-- What is none of the disk, and no tick, leaves the clock.
use Rattle.std.proofs.Common.{◌≡◌, refl, sym, ap, ◌∙◌, ◌+◌, ℕ, zero, suc, Bool, true, false, not, ◌||◌, length, [], ◌∷◌, ◌++◌, Option, Some, None}
use Rattle.pp_law.specs.After.{after, changed, dialled, dropped, event, forgotten_by, leave_memory, new_conn, noted, opened, out, owing, paid, refused_dial, refused_row, take_decision, undialled}
use Rattle.pp_law.specs.Deciding.{decided}
use Rattle.pp_law.specs.Connections.{Pause, AllPlaced, WaitsDial, WaitsDrop, client, conn, end_exchange, lose_attempt, may_ask_again, placing, put_on}
use Rattle.pp_law.specs.Followers.{fill}
use Rattle.pp_law.specs.Leaving.{Leaving, ForAnother, ForMemory, BeforeDecision, leaving_as}
use Rattle.pp_law.specs.Lists.{Bytes}
use Rattle.pp_law.specs.Phases.{come_to, come_to_decide, deciding, ending, next}
use Rattle.pp_law.specs.Replies.{regained}
use Rattle.pp_law.specs.State.{State, Client, Conn, Entry, Exchange, Instance, Owed, Connecting, Evicting, ReadOf, WriteTo}
use Rattle.pp_law.specs.Store.{load, load_from}
use Rattle.pp_law.specs.Table.{forget, kept_row, row}
use Rattle.pp_law.specs.Turn.{rest_with, touch}
use Rattle.pp_laws.proofs.Tests.{first_holds, second_holds}
use Rattle.pp_laws.specs.Runs.{after_all, state_after}
use Rattle.pp_laws_crash.specs.Changes.{changes_disk}
use Rattle.pp_laws_pool.proofs.Along.{after_all-append}
use Rattle.pp_laws_quiet.specs.Steady.{AreSteady, SteadyOnesLeaveTheClock, ticks}
use Rattle.pp_obeys.proofs.Frames.{Frame, Stays, frame, frame_of, stays}
use Rattle.pp_obeys.proofs.StaysAsks.{decided-stays, fill-stays}
use Rattle.pp_obeys.proofs.StaysResponses.{got-stays}
use Rattle.pp_obeys.proofs.StaysTable.{close_client-stays, end_exchange-stays, forget-stays, lose_attempt-stays, note_use-stays, put_on-stays}
use Rattle.pp_obeys.proofs.StaysTurns.{ask-stays, come_to-frame, come_to_decide-frame, deciding-frame, end_replies-stays, ending-frame, evicted-stays, gone-stays, hang_up-stays, hear-stays, next-frame, placing-frame, reached-stays, refused_row-stays, said-stays, shut-stays, touch-stays}
use Rattle.pp_obeys.specs.Obeys.{phases_on}
use Rattle.pp_world.specs.Log.{Log}
use Rattle.pp_world.specs.declared.happening.Happening.{Happening}
use Rattle.pp_world.specs.declared.happening.Happening.TheVariants.{Woke, Waits, Clock, Opened, CanRead, CanWrite, Heard, HungUp, Said, Shut, Dialled, Undialled, Reached, Ended, Broke, Asked, Got, Dropped, NoneYet, Began, Did, Unread, Noted, Rooted, Listed, Listens, Configured, Printed, Stopped}
use Rattle.pp_world.specs.declared.note.Decision.{Decision}
use Rattle.pp_world.specs.declared.note.Remark.TheVariants.{Taken, Cut, Kept, Gone, Forgotten, Evicted, Loaded}

-- ---- the clock, in what stays

record Clocked : Type 0 where
  clock : ℕ
  ticked : Bool
  lost : Bool

abbrev of_frame : Frame → Clocked
of_frame f = record { clock = f.clock; ticked = f.has_ticked; lost = f.has_lost_draft }

abbrev of : State → Clocked
of s = record { clock = s.clock; ticked = s.has_ticked; lost = s.has_lost_draft }

by_stays : (s t : State) → Stays false (frame false s) t → of t ≡ of s
by_stays s t h = ap of_frame (frame_of h)

-- ---- events, reads and writes

handled : (s : State) → of (event s) ≡ of s
unfolding event regained
handled s = refl

opened_at : (n : ℕ) (s : State) → of (opened n s) ≡ of s
unfolding opened
opened_at n s = refl

owed_at : (owed : Owed) (n : ℕ) (s : State) → of (owing owed n s) ≡ of s
unfolding owing
owed_at owed n s = by_stays s (touch n s) (touch-stays n s (stays refl))

paid_at : (s : State) → of (paid s) ≡ of s
unfolding paid regained
paid_at s = refl

rested_at : (w : _) (s : State) → of (rest_with w s) ≡ of s
unfolding rest_with
rested_at w s = refl

ended_at : (s : State) → of (ending s) ≡ of s
ended_at s = ap of_frame (ending-frame false s)

come_at : (phase : _) (s : State) → of (come_to phase s) ≡ of s
come_at phase s = ap of_frame (come_to-frame false phase s)

decides_at : (s : State) → of (deciding s) ≡ of s
decides_at s = ap of_frame (deciding-frame false s)

placed_at : (s : State) → of (placing s).state ≡ of s
placed_at s = ap of_frame (placing-frame false s)

-- ---- places

dialled_by : (n : ℕ) (host : Bytes) (port : ℕ) (s : State) (pause : Pause) → of (elim pause as (λ c. State) [
  | AllPlaced ↦ s
  | WaitsDrop k e ↦ s
  | WaitsDial e ↦ put_on e.number n (record s { conns = s.conns ++ new_conn n host port s.clock ∷ []; top = n })
]) ≡ of s
dialled_by n host port s AllPlaced = refl
dialled_by n host port s (WaitsDrop k e) = refl
dialled_by n host port s (WaitsDial e) =
    let new : State = record s { conns = s.conns ++ new_conn n host port s.clock ∷ []; top = n } in
    by_stays new (put_on e.number n new) (put_on-stays e.number n new (stays refl))

dialled_at : (n : ℕ) (host : Bytes) (port : ℕ) (s : State) → of (dialled n host port (placing s)) ≡ of s
unfolding dialled
dialled_at n host port s = dialled_by n host port (placing s).state (placing s).pause ∙ placed_at s

refused_at : (e : Exchange) (s : State) → of (refused_dial e s) ≡ of s
unfolding refused_dial
refused_at e s = by (may_ask_again s e.number)
  where
    by : (b : Bool) → of (elim b as (λ c. State) [ true ↦ s | false ↦ fill (end_exchange e.number s) ]) ≡ of s
    by true = refl
    by false = by_stays s (fill (end_exchange e.number s)) (fill-stays (end_exchange e.number s) (end_exchange-stays e.number s (stays refl)))

undialled_by : (s : State) (pause : Pause) → of (elim pause as (λ c. State) [
  | AllPlaced ↦ s
  | WaitsDrop k e ↦ s
  | WaitsDial e ↦ refused_dial e (lose_attempt e (record s { failures = s.failures + 1 }))
]) ≡ of s
undialled_by s AllPlaced = refl
undialled_by s (WaitsDrop k e) = refl
undialled_by s (WaitsDial e) =
    let new : State = record s { failures = s.failures + 1 } in
    refused_at e (lose_attempt e new) ∙ by_stays new (lose_attempt e new) (lose_attempt-stays e new (stays refl))

undialled_at : (s : State) → of (undialled (placing s)) ≡ of s
unfolding undialled
undialled_at s = undialled_by (placing s).state (placing s).pause ∙ placed_at s

dropped_at : (n : ℕ) (s : State) → of (dropped n s) ≡ of s
unfolding dropped out
dropped_at n s = by (conn s n)
  where
    at : (b : Bool) → of (elim b as (λ c. State) [ true ↦ out n s | false ↦ out n (placing s).state ]) ≡ of s
    at true = refl
    at false = placed_at s

    by : (o : Option Conn) → of (elim o as (λ c. State) [ None ↦ s | Some k ↦ elim k.is_closing as (λ c. State) [ true ↦ out n s | false ↦ out n (placing s).state ] ]) ≡ of s
    by None = refl
    by (Some k) = at k.is_closing

-- ---- notes

taken_at : (n : ℕ) (d : Decision) (s : State) → of (take_decision n d s) ≡ of s
unfolding take_decision regained
taken_at n d s = by (client s n)
  where
    by : (o : Option Client) → of (elim o as (λ c. State) [ None ↦ s | Some c ↦ regained (record (decided c d s) { forgotten = []; made_room_for = None }) ]) ≡ of s
    by None = refl
    by (Some c) = by_stays s (decided c d s) (decided-stays c d s (stays refl))

left_at : (how : Leaving) (s : State) → of (leave_memory how s) ≡ of s
unfolding leave_memory
left_at ForAnother s = come_at Evicting s
left_at (ForMemory x) s = by_stays (come_to Evicting s) (refused_row x (come_to Evicting s)) (refused_row-stays x (come_to Evicting s) (stays refl)) ∙ come_at Evicting s
left_at (BeforeDecision x) s = by_stays (come_to_decide s) (forget x.id (come_to_decide s)) (forget-stays x.id (come_to_decide s) (stays refl)) ∙ ap of_frame (come_to_decide-frame false s)

forgotten_at : (key : Bytes) (s : State) → of (forgotten_by key s) ≡ of s
unfolding forgotten_by
forgotten_at key s = by (leaving_as s key)
  where
    by : (o : Option Leaving) → of (elim o as (λ c. State) [ None ↦ s | Some how ↦ leave_memory how s ]) ≡ of s
    by None = refl
    by (Some how) = left_at how s

loaded_from : (x : Instance) (e : Entry) (i : ℕ) (s : State) → of (load_from x e i s) ≡ of s
unfolding load_from
loaded_from x e i s = by_stays s (load_from x e i s) (note_use-stays _ (stays refl))

loaded_at : (key : Bytes) (i : ℕ) (s : State) → of (load key i s) ≡ of s
unfolding load
loaded_at key i s = by (row s key)
  where
    at : (x : Instance) (o : Option Entry) → of (elim o as (λ c. State) [ None ↦ s | Some e ↦ load_from x e i s ]) ≡ of s
    at x None = refl
    at x (Some e) = loaded_from x e i s

    by : (o : Option Instance) → of (elim o as (λ c. State) [ None ↦ s | Some x ↦ elim (kept_row s key) as (λ c. State) [ None ↦ s | Some e ↦ load_from x e i s ] ]) ≡ of s
    by None = refl
    by (Some x) = at x (kept_row s key)

-- ---- each of them

steady : (s : State) (h : Happening) → (changes_disk h || ticks h) ≡ false → of (after s h) ≡ of s
unfolding changed noted
steady s (Woke image) is = absurd (cc is)
steady s (Began op) is = absurd (cc is)
steady s (Did op ok) is = absurd (cc is)
steady s (Unread name) is = absurd (cc is)
steady s (Rooted folder) is = absurd (cc is)
steady s (Listed ok) is = absurd (cc is)
steady s (Listens port ok) is = absurd (cc is)
steady s (Configured file text) is = absurd (cc is)
steady s (Noted (Kept key tag n extent)) is = absurd (cc is)
steady s (Noted (Gone key)) is = absurd (cc is)
steady s (Clock seconds) is = absurd (cc is)
steady s (Noted (Taken c i d)) is = taken_at c d (deciding s) ∙ decides_at s
steady s (Noted (Cut c cause)) is = by_stays (deciding s) _ (close_client-stays c true (deciding s) (stays refl)) ∙ decides_at s
steady s (Noted (Forgotten key)) is = forgotten_at key s
steady s (Noted (Evicted key tag n i)) is = by_stays (come_to Evicting s) _ (evicted-stays (come_to Evicting s) (stays refl)) ∙ come_at Evicting s
steady s (Noted (Loaded key tag n i)) is = loaded_at key i s
steady s (Waits w) is = rested_at w (ending s) ∙ ended_at s
steady s (Opened n) is = handled (opened n s) ∙ opened_at n s
steady s (CanRead n) is = handled (owing (ReadOf n) n s) ∙ owed_at (ReadOf n) n s
steady s (CanWrite n) is = handled (owing (WriteTo n) n s) ∙ owed_at (WriteTo n) n s
steady s (Heard c bytes) is = paid_at _ ∙ by_stays s _ (hear-stays c bytes s (stays refl))
steady s (HungUp c) is = paid_at _ ∙ by_stays s _ (hang_up-stays c s (stays refl))
steady s (Said c offered bytes) is = paid_at _ ∙ by_stays s _ (said-stays c (length bytes) s (stays refl))
steady s (Shut c) is = by_stays (come_to Connecting s) _ (shut-stays c (come_to Connecting s) (stays refl)) ∙ come_at Connecting s
steady s (Dialled n host port) is = dialled_at n host port (come_to Connecting s) ∙ come_at Connecting s
steady s (Undialled host port) is = undialled_at (come_to Connecting s) ∙ come_at Connecting s
steady s (Reached k) is = handled _ ∙ by_stays s _ (reached-stays k s (stays refl))
steady s (Ended k) is = paid_at _ ∙ by_stays s _ (gone-stays true k s (stays refl))
steady s (Broke k) is = paid_at _ ∙ by_stays (event s) _ (gone-stays false k (event s) (stays refl)) ∙ handled s
steady s (Asked k bytes) is = paid_at _ ∙ by_stays s _ (ask-stays k (length bytes) s (stays refl))
steady s (Got k bytes) is = paid_at _ ∙ by_stays s _ (end_replies-stays _ (got-stays (length bytes) k bytes s (stays refl)))
steady s (Dropped k) is = dropped_at k (come_to Connecting s) ∙ come_at Connecting s
steady s (NoneYet n) is = paid_at s
steady s (Printed text) is = refl
steady s Stopped is = handled _

-- ---- one behind the other, and some phases on

isnt : (b : Bool) → not b ≡ true → b ≡ false
isnt true is = absurd (cc is)
isnt false is = refl

all_steady : (hs : Log) (s : State) → AreSteady hs → of (after_all s hs) ≡ of s
all_steady [] s are = refl
all_steady (h ∷ hs) s are =
    all_steady hs (after s h) (second_holds (not (changes_disk h || ticks h)) _ are) ∙ steady s h (isnt (changes_disk h || ticks h) (first_holds (not (changes_disk h || ticks h)) _ are))

on_steady : (n : ℕ) (s : State) → of (phases_on n s) ≡ of s
on_steady zero s = refl
on_steady (suc n) s = on_steady n (next s) ∙ ap of_frame (next-frame false s)

pub unticked : SteadyOnesLeaveTheClock
unticked terms before hs s t one two are =
    let r : State = state_after terms before in
    let first : of s ≡ of r = ap of (sym one.goes.there) ∙ on_steady one.goes.phases r in
    let behind : of (state_after terms (before ++ hs)) ≡ of r = ap of (after_all-append _ before hs) ∙ all_steady hs r are in
    let then : of t ≡ of s = ap of (sym two.goes.there) ∙ on_steady two.goes.phases (state_after terms (before ++ hs)) ∙ behind ∙ sym first in
    record { clock = ap (λ (c : Clocked). c.clock) then; ticked = ap (λ (c : Clocked). c.ticked) then; lost = ap (λ (c : Clocked). c.lost) then }
