-- Behind the wait an event comes that was waited for.
use Rattle.std.proofs.Common.{◌≡◌, refl, sym, subst, ap, ◌∙◌, ℕ, List, [], ◌∷◌, ◌++◌, append_assoc, Some}
use Rattle.std.specs.Prelude.{IsTrue}
use Rattle.pp_desk.specs.declared.desk.Desk.{Desk}
use Rattle.pp_law.specs.State.{State}
use Rattle.pp_links.proofs.Opening.{next_linked}
use Rattle.pp_links.specs.Links.{AreOpen, IsLinked, Link}
use Rattle.pp_links.specs.Waits.{newcomer_of}
use Rattle.pp_obeys.specs.Obeys.{Life}
use Rattle.pp_proxy.specs.Awaiting.{Awaits, Rests, Standing}
use Rattle.pp_world.proofs.LogLemmas.{side_of-push}
use Rattle.pp_world.specs.Connections.{is_origin}
use Rattle.pp_world.specs.Log.{Log}
use Rattle.pp_world.specs.Wire.{IsOnDialled, event_happening, top_after}
use Rattle.pp_world.specs.declared.event.Event.{Event}
use Rattle.pp_world.specs.declared.event.Event.TheVariants.{Accepted, Broken, Reached, Readable, Stop, Tick, Writable}
use Rattle.pp_world.specs.declared.event.Wants.{Wants}
use Rattle.pp_world.specs.declared.happening.Happening.TheVariants.{Waits}
use Rattle.pp_turn_law.specs.Awaited.{Comes, EventsAreAwaited, HasComeBehind, StandsBeside}
use Rattle.pp_turn_law.specs.Waited.{HasWaitedOn, StandsAtWait}
use Rattle.pp_turn_law.proofs.Kept.{some_log}
use Rattle.pp_turn_law.proofs.Waited.{turns_wait}

-- a wait opens nothing and closes nothing
pub dialled_then : (log : Log) (w : Wants) (event : Event) → IsOnDialled event log → IsOnDialled event (log ++ Waits w ∷ [])
dialled_then log w Stop on = on
dialled_then log w (Tick seconds) on = on
dialled_then log w (Accepted c) on = on
dialled_then log w (Readable id) on = on
dialled_then log w (Writable id) on = on
dialled_then log w (Reached k) on = subst (λ o. IsTrue (is_origin o)) (sym (side_of-push k log (Waits w))) on
dialled_then log w (Broken k) on = subst (λ o. IsTrue (is_origin o)) (sym (side_of-push k log (Waits w))) on

pub still_open : (log : Log) (w : Wants) (links : List Link) → AreOpen links log → AreOpen links (log ++ Waits w ∷ [])
still_open log w links all k d within = side_of-push _ log (Waits w) ∙ all k d within

module _ (life : Life) (budget : ℕ) (log : Log) (x : Standing) (w : Wants) (clients : ℕ) (e f : Desk) (event : Event) (all : Log) (faults : ℕ) (s : State) (st : StandsAtWait life budget log x s) (awaits : Awaits x.read w clients x.turning.moving.desk e) (rests : Rests w clients e f) (beside : StandsBeside x f) (comes : Comes w event x all) where
  waited : HasWaitedOn life budget log x w clients f st.number s
  waited = turns_wait life budget log x w clients e f s st awaits rests

  before : (k : Log) × (x.turning.log ≡ Some k) × (all ≡ k ++ (Waits w ∷ event_happening event ∷ []))
  before = comes.told.was all refl

  all_is : all ≡ (log ++ Waits w ∷ []) ++ event_happening event ∷ []
  all_is = before.2 ∙ ap (λ (k : Log). k ++ (Waits w ∷ event_happening event ∷ [])) (some_log before.0 log (sym before.1 ∙ st.told)) ∙ sym (append_assoc log (Waits w ∷ []) (event_happening event ∷ []))

  pub come_behind : HasComeBehind life budget log st.number w event x f all faults s
  come_behind = record {
    stands = record {
      obeys = waited.comes.obeys;
      stands = waited.awaits.stands;
      ready = waited.awaits.ready;
      good = waited.good;
      gets = waited.gets;
      still = waited.rests.still;
      given = waited.given;
      closed = waited.rests.closed;
      waiting = waited.carried.waiting;
      placed = waited.carried.placed;
      looks = waited.carried.set.room;
      buffer = beside.buffer;
      holds = beside.holds;
      linked = wait_linked;
    };
    came = record {
      wanted = comes.wanted;
      dialled = dialled_then log w event (comes.dialled.at log st.told);
      numbered = comes.numbered;
      told = ap (λ (l : Log). Some l) all_is;
      linked = next_linked x.turning.moving.top (top_after x.turning.moving.top event) x.turning.moving.links w event (newcomer_of event) refl beside.linked comes.told comes.numbered refl;
    };
  }
    where
      wait_linked : IsLinked (Some (log ++ Waits w ∷ [])) x.turning.moving.top x.turning.moving.links
      wait_linked = record {
        given = beside.linked.given;
        apart = beside.linked.apart;
        opened = record { at = λ l is. subst (λ (k : Log). AreOpen x.turning.moving.links k) (some_log (log ++ Waits w ∷ []) l is) (still_open log w x.turning.moving.links (beside.linked.opened.at log st.told)) };
      }

pub awaited : EventsAreAwaited
awaited life budget log x w clients e f event all faults s st awaits rests beside comes = come_behind life budget log x w clients e f event all faults s st awaits rests beside comes
