-- The law: what a turn leaves, where what waits for a body is somebody's.
use Rattle.std.proofs.Common.{◌≡◌, refl, ℕ, true, false, List, is_some, Option, Some, None}
use Rattle.pp_world.specs.Log.{Log}
use Rattle.pp_law.specs.Asking.{has_room}
use Rattle.pp_law.specs.Connections.{is_for}
use Rattle.pp_law.specs.Phases.{come_to}
use Rattle.pp_law.specs.Replies.{begin_replies}
use Rattle.pp_law.specs.Served.{waits_for_body}
use Rattle.pp_law.specs.State.{State, Term, Client, DecidingAgain, Exchange}
use Rattle.pp_laws.specs.Runs.{IsIn}
use Rattle.pp_laws_served.specs.Served.{IsLeft, MayEnd}
use Rattle.pp_laws_left.proofs.Laws.{ends_are_left}
use Rattle.pp_laws_left.proofs.OwnedEnds.{ends_are_owned}
use Rattle.pp_laws_left.proofs.Passes.{ends_are_to_pass}
use Rattle.pp_laws_left.proofs.ReadySteps.{ends_are_filled}
use Rattle.pp_laws_left.proofs.Senders.{senders_are_there}
use Rattle.pp_laws_left.proofs.SpokenLaws.{ends_are_spoken}

pub left_is_left : (terms : List Term) (s : State) (log : Log) → MayEnd terms s log → ((e : Exchange) → IsIn e (begin_replies (come_to DecidingAgain s)).exchanges → is_some e.place ≡ true → waits_for_body (begin_replies (come_to DecidingAgain s)) e ≡ true → is_some e.asker ≡ true)
    → IsLeft (come_to DecidingAgain s)
left_is_left terms s log ends owned_as =
    let spoken = ends_are_spoken terms s log ends in
    let owned = ends_are_owned terms s log ends in
    record {
      filled = ends_are_filled terms s log ends;
      asked = owned.asked;
      amid = owned.amid;
      replies = spoken.replies;
      unsaid = spoken.unsaid;
      heads = (ends_are_left terms s log ends.obeys).heads;
      passes = ends_are_to_pass terms s log ends;
      bodies = λ e i placed waits. sent e i waits e.asker refl (owned_as e i placed waits);
    }
  where
    sent : (e : Exchange) → IsIn e (begin_replies (come_to DecidingAgain s)).exchanges → waits_for_body (begin_replies (come_to DecidingAgain s)) e ≡ true → (o : Option ℕ) → e.asker ≡ o → is_some o ≡ true
        → (c : Client) × IsIn c (begin_replies (come_to DecidingAgain s)).clients × (is_for e c ≡ true) × (c.has_hung_up ≡ false) × (has_room c ≡ true)
    sent e i waits None nobody some = absurd (cc some)
    sent e i waits (Some n) asks some = let w = senders_are_there terms s log ends e n i asks waits in (w.sender, w.there, w.its, w.stays, w.room)
