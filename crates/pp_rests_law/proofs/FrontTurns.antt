-- What is no head is read with 400 or 431: so it is along a log, happening by happening, and some phases on.
use Rattle.std.proofs.Common.{◌≡◌, refl, ℕ, ◌+◌, true, false, [], ◌∷◌, length, subst}
use Rattle.pp_world.specs.Log.{Log}
use Rattle.pp_world.specs.declared.happening.Happening.{Happening}
use Rattle.pp_world.specs.declared.happening.Happening.TheVariants.{Woke, Waits, Clock, Opened, CanRead, CanWrite, Heard, HungUp, Said, Shut, Dialled, Undialled, Reached, Ended, Broke, Asked, Got, Dropped, NoneYet, Began, Did, Unread, Noted, Rooted, Listed, Listens, Configured, Printed, Stopped}
use Rattle.pp_law.specs.After.{after, changed}
use Rattle.pp_law.specs.Lists.{Bytes}
use Rattle.pp_law.specs.Phases.{come_to}
use Rattle.pp_law.specs.Requests.{Front, NoHeadYet, NoHead as NoFront, front_in, front_of}
use Rattle.pp_head.specs.Read.{Read, Whole, TooLong, Bad, More}
use Rattle.pp_head.specs.Request.{Request, request_at}
use Rattle.pp_reply.specs.Texts.{has_page}
use Rattle.pp_law.specs.State.{State, IsListed, IsListening, IsRooted, Connecting, ReadOf, WriteTo, start}
use Rattle.pp_laws.specs.Runs.{after_all}
use Rattle.pp_laws_replies.proofs.Quiet.{quiet_same}
use Rattle.pp_laws_replies.proofs.QuietHeads.{got-quiet}
use Rattle.pp_laws_replies.proofs.QuietRows.{configured-quiet, opened_to-quiet}
use Rattle.pp_laws_replies.proofs.QuietTurns.{come_to-quiet, rest_with-quiet, tick-quiet}
use Rattle.pp_laws_room.proofs.Coming.{by_coming}
use Rattle.pp_laws_turn.proofs.Lifts.{obeying}
use Rattle.pp_obeys.specs.Obeys.{Obeys}
use Rattle.pp_rests_law.specs.Heads.{HeadsHavePages}
use Rattle.pp_rests_law.proofs.Fronts.{AreAll, all_are, all_of, end_replies_fronts, quiet_fronts}
use Rattle.pp_rests_law.proofs.FrontSteps.{ask_fronts, begun_op_fronts, dialled_fronts, dropped_fronts, ended_op_fronts, ending_fronts, event_fronts, gone_fronts, hang_up_fronts, noted_fronts, hear_fronts, opened_fronts, owing_fronts, paid_fronts, reached_fronts, said_steps, shut_fronts, undialled_fronts, unread_fronts, woken_fronts}

-- ---- what is no head is read with 400 or 431

abbrev IsPaged : Front → Type 0
IsPaged front = (status : ℕ) → front ≡ NoFront status → has_page status ≡ true

read_page : (r : Read Request) (status : ℕ) → front_in r ≡ NoFront status → has_page status ≡ true
read_page (Whole head) status is = absurd (cc is)
read_page TooLong status is = let one : 431 + 0 ≡ status = cc is in subst (λ (n : ℕ). has_page n ≡ true) one refl
read_page Bad status is = let one : 400 + 0 ≡ status = cc is in subst (λ (n : ℕ). has_page n ≡ true) one refl
read_page More status is = absurd (cc is)

heard_page : (bytes : Bytes) → IsPaged (front_of bytes)
unfolding front_of
heard_page bytes status is = read_page (request_at bytes) status is

none_yet : IsPaged NoHeadYet
none_yet status is = absurd (cc is)

-- ---- happening by happening

come_to_fronts : {s : State} → AreAll IsPaged s → AreAll IsPaged (come_to Connecting s)
come_to_fronts {s} h = quiet_fronts IsPaged s _ (come_to-quiet Connecting s (quiet_same s)) h

changed_by : (s : State) (h : Happening) → AreAll IsPaged s → AreAll IsPaged (changed s h)
unfolding changed
changed_by s (Woke image) h = woken_fronts IsPaged image s
changed_by s (Waits w) h = quiet_fronts IsPaged _ _ (rest_with-quiet w _ (quiet_same _)) (ending_fronts IsPaged s h)
changed_by s (Clock seconds) h = event_fronts IsPaged _ (quiet_fronts IsPaged s _ (tick-quiet seconds s (quiet_same s)) h)
changed_by s (Opened n) h = event_fronts IsPaged _ (opened_fronts IsPaged none_yet n s h)
changed_by s (CanRead n) h = event_fronts IsPaged _ (owing_fronts IsPaged (ReadOf n) n s h)
changed_by s (CanWrite n) h = event_fronts IsPaged _ (owing_fronts IsPaged (WriteTo n) n s h)
changed_by s (Heard c bytes) h = paid_fronts IsPaged _ (hear_fronts IsPaged heard_page c bytes s h)
changed_by s (HungUp c) h = paid_fronts IsPaged _ (hang_up_fronts IsPaged heard_page c s h)
changed_by s (Said c offered bytes) h = paid_fronts IsPaged _ (said_steps IsPaged heard_page c (length bytes) s h)
changed_by s (Shut c) h = shut_fronts IsPaged c _ (come_to_fronts h)
changed_by s (Dialled n host port) h = dialled_fronts IsPaged n host port _ (come_to_fronts h)
changed_by s (Undialled host port) h = undialled_fronts IsPaged _ (come_to_fronts h)
changed_by s (Reached k) h = event_fronts IsPaged _ (reached_fronts IsPaged k s h)
changed_by s (Ended k) h = paid_fronts IsPaged _ (gone_fronts IsPaged heard_page true k s h)
changed_by s (Broke k) h = paid_fronts IsPaged _ (gone_fronts IsPaged heard_page false k _ (event_fronts IsPaged s h))
changed_by s (Asked k bytes) h = paid_fronts IsPaged _ (ask_fronts IsPaged k (length bytes) s h)
changed_by s (Got k bytes) h = paid_fronts IsPaged _ (end_replies_fronts IsPaged heard_page _ (quiet_fronts IsPaged s _ (got-quiet (length bytes) k bytes s (quiet_same s)) h))
changed_by s (Dropped k) h = dropped_fronts IsPaged k _ (come_to_fronts h)
changed_by s (NoneYet n) h = paid_fronts IsPaged s h
changed_by s (Began op) h = begun_op_fronts IsPaged op s h
changed_by s (Did op ok) h = ended_op_fronts IsPaged op ok s h
changed_by s (Unread name) h = unread_fronts IsPaged name s h
changed_by s (Noted remark) h = noted_fronts IsPaged remark s h
changed_by s (Rooted folder) h = quiet_fronts IsPaged s _ (opened_to-quiet IsRooted true s (quiet_same s)) h
changed_by s (Listed ok) h = quiet_fronts IsPaged s _ (opened_to-quiet IsListed ok s (quiet_same s)) h
changed_by s (Listens port ok) h = quiet_fronts IsPaged s _ (opened_to-quiet IsListening ok s (quiet_same s)) h
changed_by s (Configured file text) h = quiet_fronts IsPaged s _ (configured-quiet text s (quiet_same s)) h
changed_by s (Printed text) h = h
changed_by s Stopped h = event_fronts IsPaged _ (all_are (all_of h))

-- ---- along a log, and some phases on

all_after : (s : State) (log : Log) → AreAll IsPaged s → AreAll IsPaged (after_all s log)
all_after s [] h = h
all_after s (e ∷ log) h = all_after (after s e) log (changed_by s e h)

pub heads_paged : HeadsHavePages
heads_paged terms s log obeys c status i is = all_of (all_on obeys) c i status is
  where
    all_on : Obeys terms s log → AreAll IsPaged s
    all_on goes = obeying (AreAll IsPaged) (by_coming (AreAll IsPaged) (λ p t h. quiet_fronts IsPaged t _ (come_to-quiet p t (quiet_same t)) h)) terms s log goes (all_after (start terms) log (all_are (λ d j. absurd j)))
