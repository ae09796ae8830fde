-- It is so along whatever happens as exchanges get their places, and through the phases before.
use Rattle.std.proofs.Common.{refl, subst, ℕ, ◌+◌, Bool, true, false, not, ◌==◌, ◌||◌, List, [], ◌∷◌, ◌++◌, Result, Ok, Err}
use Rattle.pp_asks_law.proofs.Narrow.{Narrows, clients_changed, drop_unseen-narrow, each_exchange-narrow, each_of, end_exchange-narrow, facts_of, give_up_asks-narrow, lose_attempt-narrow, narrows, on_exchange-narrow, placing-narrow, put_on-narrow, swept-narrow, when}
use Rattle.pp_law.specs.After.{after, changed, dialled, dropped, new_conn, out, refused_dial, shut, undialled}
use Rattle.pp_law.specs.Closing.{close_client, exchanges_of, forsake, leave, leave_one, left_alone}
use Rattle.pp_law.specs.Connections.{AllPlaced, Pause, WaitsDial, WaitsDrop, client, conn, each_client, is_client, is_trying, lose_attempt, may_ask_again, on_client, placing, put_on}
use Rattle.pp_law.specs.Deciding.{add_exchange, begin_exchange}
use Rattle.pp_law.specs.Decisions.{fits}
use Rattle.pp_law.specs.Followers.{fill, fill_for, fill_next, fill_span, fill_with, filling_exchange, give_up_asks, need_of}
use Rattle.pp_law.specs.Lists.{Bytes}
use Rattle.pp_law.specs.Opening.{is_at}
use Rattle.pp_law.specs.Phases.{behind, come, come_to, in_phase, is_done, next, phases}
use Rattle.pp_law.specs.Requests.{Front, Parsed, NoHeadYet, NoHead, IsRequest}
use Rattle.pp_law.specs.State.{State, AskTooLong, Client, Exchange, Phase, Before, IsWoken, IsConfigured, IsRooted, IsListed, IsListening, IsStuck, Awaiting, Handling, Evicting, Keeping, Deciding, Following, Connecting, DecidingAgain}
use Rattle.pp_law.specs.Table.{Next, next_of}
use Rattle.pp_law.specs.Unseen.{drop_unseen}
use Rattle.pp_laws.proofs.Lists.{in_filter}
use Rattle.pp_obeys.specs.Moves.{Leads}
use Rattle.pp_target.specs.Key.{Key}
use Rattle.pp_target.specs.declared.target.TargetFault.{TargetFault}
use Rattle.pp_world.specs.Log.{Log}
use Rattle.pp_world.specs.declared.happening.Happening.{Happening}
use Rattle.pp_world.specs.declared.happening.Happening.TheVariants.{Dialled, Dropped, Shut, Undialled}

-- ---- what followers ask for

leave-narrow : {o : State} (test : Exchange → Bool) (s : State) → Narrows o s → Narrows o (leave test s)
unfolding leave forsake
leave-narrow test s h = narrows (facts_of h)

begin_exchange-narrow : {o : State} (e : Exchange) (s : State) → Narrows o s → Narrows o (begin_exchange e s)
unfolding begin_exchange add_exchange
begin_exchange-narrow e s h = narrows (facts_of (leave-narrow _ s h))

fill_with-narrow : {o : State} (e : Exchange) (c : Client) (s : State) → Narrows o s → Narrows o (fill_with e c s)
unfolding fill_with on_client
fill_with-narrow {o} e c s h =
    when (fits e.text) (begin_exchange-narrow e s h)
    (clients_changed o s (is_client c.number) (λ x. record x { course = AskTooLong }) (λ x. record { number = refl; front = refl; stage = refl; going = λ is. is; given = λ is. refl }) h)

fill_span-narrow : {o : State} (c : Client) (n : Next) (span : ℕ × ℕ) (s : State) → Narrows o s → Narrows o (fill_span c n span s)
unfolding fill_span
fill_span-narrow {o} c n span s h = by c.front
  where
    by_key : (r : Parsed) (k : Result Key TargetFault) → Narrows o (elim k as (λ x. State) [ Ok key ↦ fill_with (filling_exchange s c r.head key n span) c s | Err fault ↦ s ])
    by_key r (Ok key) = fill_with-narrow (filling_exchange s c r.head key n span) c s h
    by_key r (Err fault) = h

    by : (front : Front) → Narrows o (elim front as (λ x. State) [
      | NoHeadYet ↦ s
      | NoHead status ↦ s
      | IsRequest r ↦ elim r.key as (λ x. State) [ Ok key ↦ fill_with (filling_exchange s c r.head key n span) c s | Err fault ↦ s ]
    ])
    by NoHeadYet = h
    by (NoHead status) = h
    by (IsRequest r) = by_key r r.key

fill_next-narrow : {o : State} (c : Client) (n : Next) (s : State) → Narrows o s → Narrows o (fill_next c n s)
unfolding fill_next
fill_next-narrow c n s h = each_of (need_of s n) h (λ span. fill_span-narrow c n span s h)

fill_for-narrow : {o : State} (c : Client) (s : State) → Narrows o s → Narrows o (fill_for c s)
unfolding fill_for
fill_for-narrow c s h = when (is_trying c.course) (each_of (next_of s c) h (λ n. fill_next-narrow c n s h)) h

each_client-narrow : {o : State} (f : Client → State → State) → ((c : Client) (s : State) → Narrows o s → Narrows o (f c s)) → (ns : List ℕ) (s : State) → Narrows o s → Narrows o (each_client f ns s)
unfolding each_client
each_client-narrow f each [] s h = h
each_client-narrow f each (n ∷ ns) s h = each_client-narrow f each ns _ (each_of (client s n) h (λ c. each c s h))

fill-narrow : {o : State} (s : State) → Narrows o s → Narrows o (fill s)
unfolding fill
fill-narrow s h = when s.is_stopped h (each_client-narrow fill_for fill_for-narrow _ s h)

-- ---- phases

in_phase-narrow : {o : State} (phase : Phase) (s : State) → Narrows o s → Narrows o (in_phase phase s)
in_phase-narrow phase s h = narrows (facts_of h)

-- behind what nobody sees, and what followers ask for in vain
pub useless-narrow : {o : State} (s : State) → Narrows o s → Narrows o (give_up_asks (drop_unseen (in_phase Connecting s)))
useless-narrow s h = give_up_asks-narrow _ (drop_unseen-narrow _ (in_phase-narrow Connecting s h))

pub followed-narrow : {o : State} (s : State) → Narrows o s → Narrows o (fill (give_up_asks (drop_unseen (in_phase Connecting s))))
followed-narrow s h = fill-narrow _ (useless-narrow s h)

behind-narrow : {o : State} (phase : Phase) (s : State) → Narrows o s → Narrows o (behind phase s)
behind-narrow Before s h = h
behind-narrow IsWoken s h = h
behind-narrow IsConfigured s h = h
behind-narrow IsRooted s h = h
behind-narrow IsListed s h = h
behind-narrow IsListening s h = h
behind-narrow IsStuck s h = h
behind-narrow Awaiting s h = h
behind-narrow Handling s h = in_phase-narrow Evicting s h
behind-narrow Evicting s h = give_up_asks-narrow _ (in_phase-narrow Keeping s h)
behind-narrow Keeping s h = in_phase-narrow Deciding s h
behind-narrow Deciding s h = in_phase-narrow Following s h
behind-narrow Following s h = followed-narrow s h
behind-narrow Connecting s h = placing-narrow _ (in_phase-narrow DecidingAgain s h)
behind-narrow DecidingAgain s h = h

pub next-narrow : {o : State} (s : State) → Narrows o s → Narrows o (next s)
unfolding next
next-narrow s h = behind-narrow s.phase s h

come-narrow : {o : State} (stops : State → Bool) (ps : List Phase) (s : State) → Narrows o s → Narrows o (come stops ps s)
unfolding come
come-narrow stops [] s h = h
come-narrow stops (p ∷ ps) s h = come-narrow stops ps _ (when (is_at p s) (when (stops s) h (when (is_done s) (next-narrow s h) h)) h)

come_to-narrow : {o : State} (phase : Phase) (s : State) → Narrows o s → Narrows o (come_to phase s)
unfolding come_to
come_to-narrow phase s h = come-narrow (is_at phase) phases s h

-- ---- closings and dials

leave_one-narrow : {o : State} (e : Exchange) (s : State) → Narrows o s → Narrows o (leave_one e s)
unfolding leave_one
leave_one-narrow e s h = when (e.asked == 0) (end_exchange-narrow e.number s h) (on_exchange-narrow e.number left_alone s h)

close_client-narrow : {o : State} (n : ℕ) (is_cut : Bool) (s : State) → Narrows o s → Narrows o (close_client n is_cut s)
unfolding close_client on_client
close_client-narrow {o} n is_cut s h =
    swept-narrow _ (each_exchange-narrow leave_one leave_one-narrow (exchanges_of n s) _
    (clients_changed o s (is_client n) (λ c. record c { is_closing = true; is_cut = c.is_cut || is_cut }) (λ c. record { number = refl; front = refl; stage = refl; going = λ is. absurd (cc is); given = λ is. is }) h))

shut-narrow : {o : State} (n : ℕ) (s : State) → Narrows o s → Narrows o (shut n s)
unfolding shut
shut-narrow n s h = let t = facts_of (close_client-narrow n false s h) in narrows (record { clients = λ c i. t.clients c (in_filter (λ x. not (is_client n x)) c (close_client n false s).clients i).0; rows = t.rows; entries = t.entries })

dialled-narrow : {o : State} (n : ℕ) (host : Bytes) (port : ℕ) (s : State) → Narrows o s → Narrows o (dialled n host port (placing s))
unfolding dialled
dialled-narrow {o} n host port s h = by (placing s).pause
  where
    by : (pause : Pause) → Narrows o (elim pause as (λ x. State) [
      | AllPlaced ↦ (placing s).state
      | WaitsDrop k e ↦ (placing s).state
      | WaitsDial e ↦ put_on e.number n (record (placing s).state { conns = (placing s).state.conns ++ new_conn n host port (placing s).state.clock ∷ []; top = n })
    ])
    by AllPlaced = placing-narrow s h
    by (WaitsDrop k e) = placing-narrow s h
    by (WaitsDial e) = put_on-narrow e.number n _ (narrows (facts_of (placing-narrow s h)))

refused_dial-narrow : {o : State} (e : Exchange) (s : State) → Narrows o s → Narrows o (refused_dial e s)
unfolding refused_dial
refused_dial-narrow e s h = when (may_ask_again s e.number) h (fill-narrow _ (end_exchange-narrow e.number s h))

pub failed-narrow : {o : State} (e : Exchange) (s : State) → Narrows o s → Narrows o (lose_attempt e (record s { failures = s.failures + 1 }))
failed-narrow e s h = lose_attempt-narrow e _ (narrows (facts_of h))

undialled-narrow : {o : State} (s : State) → Narrows o s → Narrows o (undialled (placing s))
unfolding undialled
undialled-narrow {o} s h = by (placing s).pause
  where
    by : (pause : Pause) → Narrows o (elim pause as (λ x. State) [
      | AllPlaced ↦ (placing s).state
      | WaitsDrop k e ↦ (placing s).state
      | WaitsDial e ↦ refused_dial e (lose_attempt e (record (placing s).state { failures = (placing s).state.failures + 1 }))
    ])
    by AllPlaced = placing-narrow s h
    by (WaitsDrop k e) = placing-narrow s h
    by (WaitsDial e) = refused_dial-narrow e _ (failed-narrow e _ (placing-narrow s h))

dropped-narrow : {o : State} (n : ℕ) (s : State) → Narrows o s → Narrows o (dropped n s)
unfolding dropped out
dropped-narrow n s h = each_of (conn s n) h (λ k. when k.is_closing (narrows (facts_of h)) (narrows (facts_of (placing-narrow s h))))

-- ---- whatever happens as places are given

pub data IsOfPlaces : Happening → Type 0 where
  dials : (n : ℕ) (host : Bytes) (port : ℕ) → IsOfPlaces (Dialled n host port)
  refuses : (host : Bytes) (port : ℕ) → IsOfPlaces (Undialled host port)
  drops : (n : ℕ) → IsOfPlaces (Dropped n)
  shuts : (n : ℕ) → IsOfPlaces (Shut n)

pub after-narrow : {o : State} (s : State) (h : Happening) → IsOfPlaces h → Narrows o s → Narrows o (after s h)
unfolding changed
after-narrow s h (dials n host port) it = dialled-narrow n host port _ (come_to-narrow Connecting s it)
after-narrow s h (refuses host port) it = undialled-narrow _ (come_to-narrow Connecting s it)
after-narrow s h (drops n) it = dropped-narrow n _ (come_to-narrow Connecting s it)
after-narrow s h (shuts n) it = shut-narrow n _ (come_to-narrow Connecting s it)

-- ---- one behind the other

abbrev pub AreOfPlaces : Log → Type 0
AreOfPlaces [] = Unit {0}
AreOfPlaces (h ∷ hs) = IsOfPlaces h × AreOfPlaces hs

pub of_both : (a b : Log) → AreOfPlaces a → AreOfPlaces b → AreOfPlaces (a ++ b)
of_both [] b one two = two
of_both (h ∷ hs) b one two = (one.0, of_both hs b one.1 two)

pub leads-narrow : {o : State} (hs : Log) (s t : State) → AreOfPlaces hs → Leads hs s t → Narrows o s → Narrows o t
leads-narrow {o} [] s t are leads it = subst (λ (u : State). Narrows o u) leads it
leads-narrow (h ∷ hs) s t are leads it = leads-narrow hs (after s h) t are.1 leads.holds (after-narrow s h are.0 it)
