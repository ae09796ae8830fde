-- With what is left everybody is served where a turn may end, by each of these wants.
use Rattle.std.proofs.Common.{◌≡◌, refl, ℕ, Bool, true, false, not, ◌||◌, is_some, List, Option, Some, None, ap, ◌∙◌}
use Rattle.pp_world.specs.Log.{Log}
use Rattle.pp_law.specs.Asking.{has_room}
use Rattle.pp_law.specs.Connections.{is_client, is_for, place_for}
use Rattle.pp_law.specs.Lists.{is_some_with}
use Rattle.pp_law.specs.Opening.{is_at}
use Rattle.pp_law.specs.Permits.{may_wait}
use Rattle.pp_law.specs.Phases.{come_to, ending, may_end}
use Rattle.pp_law.specs.Requests.{has_request}
use Rattle.pp_law.specs.Served.{is_nowhere, is_served, waits_for_body, wants_read}
use Rattle.pp_law.specs.Stages.{is_undecided}
use Rattle.pp_law.specs.State.{State, Client, DecidingAgain, Exchange, IsListening, Term}
use Rattle.pp_laws.specs.Runs.{IsIn}
use Rattle.pp_laws.proofs.Lists.{in_find}
use Rattle.pp_laws.proofs.Sound.{facts_of as sound_facts}
use Rattle.pp_laws.proofs.Steps.{come_to-sound, ending-sound}
use Rattle.pp_laws.proofs.Tests.{same_number}
use Rattle.pp_obeys.specs.Obeys.{Obeys}
use Rattle.pp_obeys.proofs.Obeying.{obeys_good}
use Rattle.pp_obeys.proofs.Silent.{both_hold}
use Rattle.pp_laws_turn.proofs.Happenings.{come_to-turn, ending-turn}
use Rattle.pp_laws_turn.proofs.Laws.{has_asker, has_source}
use Rattle.pp_laws_turn.proofs.Lifts.{turn_on}
use Rattle.pp_laws_turn.proofs.View.{facts_of as turn_facts}
use Rattle.pp_laws_ends.specs.Ends.{AreToPass, IsClientServed, IsExchangeServed, wants_of}
use Rattle.pp_laws_ends.proofs.Ahead.{or_second}
use Rattle.pp_laws_ends.proofs.Passing.{passed_served}
use Rattle.pp_laws_ends.proofs.Served.{placed_served, speakers_served, unplaced_served}
use Rattle.pp_laws_ends.proofs.Standing.{all_stand}
use Rattle.pp_laws_ends.proofs.Undecided.{Ends, ends_at, undecided_served}
use Rattle.pp_laws_ends.proofs.Waiting.{followers_served, owners_served}
use Rattle.pp_laws_served.specs.Served.{AsGoodOnesServe, DecidedAreProvidedFor, IsLeft, IsProvidedFor, MayEnd, TurnsEnd, follows, owns, says}
use Rattle.pp_laws_served.proofs.Asks.{who_may_ask}
use Rattle.pp_laws_served.proofs.Fates.{provided_for}
use Rattle.pp_laws_served.proofs.Like.{AllServed, all_served, as_good_serves}

asked_by : (terms : List Term) (s : State) (log : Log) → Obeys terms s log → (e : Exchange) (n : ℕ) → IsIn e (ending s).exchanges → e.asker ≡ Some n → (c : Client) × IsIn c (ending s).clients × (c.number ≡ n)
asked_by terms s log obeys e n i is =
    let rise = (sound_facts (ending-sound s (obeys_good obeys).sound)).callers.rise in
    let a = has_asker (ending s) rise (turn_facts (ending-turn s (turn_on terms s log obeys))) e n i is in
    let there = in_find (is_client n) a.asker (ending s).clients a.there in
    (a.asker, there.0, same_number a.asker.number n there.1)

pub as_good_ones : AsGoodOnesServe
as_good_ones terms s log obeys w g is = as_good_serves (ending s) (all_stand terms s log obeys) (asked_by terms s log obeys) (all_served (ending s) is) w g

-- ---- who was decided for

pub decided_ones : DecidedAreProvidedFor
unfolding ending
decided_ones terms s log ends left c i has decided =
    let at : Ends (come_to DecidingAgain s) = ends_at terms s log ends.obeys ends.early ends.may ends.runs in
    provided_for (come_to DecidingAgain s) at (sound_facts (come_to-sound DecidingAgain s (obeys_good ends.obeys).sound))
    (λ d j. has_source (come_to DecidingAgain s) (turn_facts (come_to-turn DecidingAgain s (turn_on terms s log ends.obeys))) d j (at.going d j)) left c i has decided

-- ---- everybody

to_pass : (s : State) → IsLeft (come_to DecidingAgain s) → AreToPass (ending s)
unfolding ending
to_pass s left = left.passes

to_send : (s : State) → IsLeft (come_to DecidingAgain s) → (e : Exchange) → IsIn e (ending s).exchanges → is_some e.place ≡ true → waits_for_body (ending s) e ≡ true
    → (c : Client) × IsIn c (ending s).clients × (is_for e c ≡ true) × (c.has_hung_up ≡ false) × (has_room c ≡ true)
unfolding ending
to_send s left e i placed waits = left.bodies e i placed waits

module _ (terms : List Term) (s : State) (log : Log) (ends : MayEnd terms s log) (left : IsLeft (come_to DecidingAgain s)) where
  client_is : (c : Client) → IsIn c (ending s).clients → IsClientServed (ending s) c
  client_is c i = asks (has_request c.front) refl
    where
      decided : IsProvidedFor (ending s) c → IsClientServed (ending s) c
      decided (says is) = speakers_served terms s log ends.obeys c i is
      decided (follows n is on) = followers_served terms s log ends.obeys c n i is on
      decided (owns none e j its) = owners_served terms s log ends.obeys c e i j none its

      staged : has_request c.front ≡ true → (t : Bool) → is_undecided c.stage ≡ t → IsClientServed (ending s) c
      staged has true on = undecided_served terms s log ends.obeys ends.early ends.may ends.runs c i on has
      staged has false off = decided (decided_ones terms s log ends left c i has off)

      asks : (t : Bool) → has_request c.front ≡ t → IsClientServed (ending s) c
      asks false none = who_may_ask terms s log ends c i none
      asks true has = staged has (is_undecided c.stage) refl

  exchange_is : (e : Exchange) → IsIn e (ending s).exchanges → IsExchangeServed (ending s) e
  exchange_is e i = by e.place refl
    where
      waits : (k : ℕ) → e.place ≡ Some k → (t : Bool) → waits_for_body (ending s) e ≡ t → IsExchangeServed (ending s) e
      waits k some true on =
          let c = to_send s left e i (ap is_some some) on in
          placed_served terms s log ends.obeys e c.0 i c.1 (ap is_some some) c.2 c.3 c.4
      waits k some false off =
          ap (λ o. elim o as (λ x. Bool) [ None ↦ is_nowhere (place_for (ending s) e) | Some m ↦ not (waits_for_body (ending s) e) || is_some_with (wants_read (wants_of (ending s))) e.asker ]) some
          ∙ ap (λ b. not b || is_some_with (wants_read (wants_of (ending s))) e.asker) off

      by : (o : Option ℕ) → e.place ≡ o → IsExchangeServed (ending s) e
      by None none = unplaced_served terms s log ends.obeys ends.early ends.may e i none
      by (Some k) some = waits k some (waits_for_body (ending s) e) refl

  everybody : AllServed (ending s)
  everybody = record { clients = client_is; conns = λ k i. passed_served terms s log ends.obeys ends.early ends.may ends.runs (to_pass s left) k i; exchanges = exchange_is }

may : (s : State) → may_end s ≡ true → s.is_stopped ≡ false → may_wait s ≡ true
may s is runs = or_second (is_at IsListening s) _ (both_hold (not s.is_stopped) (may_end s) (ap not runs) is)

pub turns_end : TurnsEnd
turns_end terms s log ends left w g =
    ap (λ b. elim b as (λ x. Bool) [ true ↦ is_served (ending s) w | false ↦ false ]) (may s ends.may ends.runs)
    ∙ as_good_serves (ending s) (all_stand terms s log ends.obeys) (asked_by terms s log ends.obeys) (everybody terms s log ends left) w g
