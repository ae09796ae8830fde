-- A response is whole: its exchange is over, and the connection rests, or is closed behind it.
use Rattle.std.proofs.Common.{◌≡◌, ◌≤◌, refl, sym, subst, ap, ◌∙◌, ℕ, true, find, List, []}
use Rattle.std.specs.Prelude.{count_by}
use Rattle.pp_cache_law.specs.Pairs.{AreBoth}
use Rattle.pp_flow.specs.declared.entry.Exchange.{Exchange as Asking}
use Rattle.pp_flow_law.specs.Frames.{emptied, still}
use Rattle.pp_law.specs.Connections.{end_exchange, exchange, is_conn, is_exchange, on_client_of, on_conn}
use Rattle.pp_law.specs.Passing.{pour}
use Rattle.pp_law.specs.Responses.{rested, skip_body, skipping}
use Rattle.pp_law.specs.State.{State, Aim, Own, Through, Filling, Conn, Exchange}
use Rattle.pp_pass.specs.Pipe.{finished}
use Rattle.pp_peers.specs.Peers.{with_peer}
use Rattle.pp_peers.specs.declared.peers.Peer.{Peer}
use Rattle.pp_peers_law.specs.Peers.{has_alone}
use Rattle.pp_pipe.specs.Front.{fate_of}
use Rattle.pp_pipe.specs.Line.{answered}
use Rattle.pp_pipe.specs.Reading.{behind_it}
use Rattle.pp_states_law.proofs.Asked.{any_alone, itself, line_as}
use Rattle.pp_states_law.proofs.Rested.{closes_behind, rests as connection_rests}
use Rattle.pp_states_law.specs.Asks.{IsAskedAs}
use Rattle.pp_states_law.specs.Decisions.{AreApart}
use Rattle.pp_states_law.specs.Endings.{IsFirst}
use Rattle.pp_state.specs.Bodies.{without_exchange}
use Rattle.pp_state.specs.Ends.{Parts}
use Rattle.pp_states_law.proofs.Told.{conn_next, over_next, told_next, told_over}
use Rattle.pp_states_law.specs.Steps.{ShowsSteps, whole}
use Rattle.pp_bodies_law.proofs.Bytes.{finishes}
use Rattle.pp_bodies_law.specs.Ends.{ClosesAreTheLaws, RestsAreTheLaws, finished_by_law, finished_in}

-- ---- connections and exchanges stay as they are

abbrev skipped_by : Exchange → State → Aim → State
skipped_by d s aim = elim aim as (λ t. State) [ Through ↦ on_client_of d skipping (pour d finished s) | Own ↦ pour d finished s | Filling v from to ↦ pour d finished s ]

rest : (d : Exchange) (s : State) → ((finished_by_law d s).conns ≡ s.conns) × ((finished_by_law d s).exchanges ≡ s.exchanges)
unfolding skip_body pour on_client_of
rest d s = by d.aim
  where
    by : (aim : Aim) → ((skipped_by d s aim).conns ≡ s.conns) × ((skipped_by d s aim).exchanges ≡ s.exchanges)
    by Through = (refl, refl)
    by Own = (refl, refl)
    by (Filling v from to) = (refl, refl)

apart_still : (d : Exchange) (s : State) → AreApart s → AreApart (finished_by_law d s)
apart_still d s apart n = subst (λ (ks : List Conn). count_by (is_conn n) ks ≤ 1) (sym (rest d s).0) (apart n)

first_still : (p : Parts) (s : State) (peers : List Peer) (e : Asking) (peer : Peer) (k : Conn) (d : Exchange) (others : List ℕ) → IsFirst (whole p peers) s peer k d others → IsFirst (whole (finished_in e p) peers) (finished_by_law d s) peer k d others
first_still p s peers e peer k d others is = record {
  linked = is.linked;
  there = ap (λ (ks : List Conn). find (is_conn k.number) ks) (rest d s).0 ∙ is.there;
  goes_on = is.goes_on;
  line = is.line;
  known = ap (λ (es : List Exchange). find (is_exchange d.number) es) (rest d s).1 ∙ is.known;
  whole = is.whole;
}

alone_still : (d : Exchange) (s : State) (line : List ℕ) → has_alone (finished_by_law d s) line ≡ has_alone s line
alone_still d s line = any_alone s (finished_by_law d s) line (line_as s (finished_by_law d s) each line)
  where
    each : (n : ℕ) → AreBoth IsAskedAs (exchange s n) (exchange (finished_by_law d s) n)
    each n = subst (λ (es : List Exchange). AreBoth IsAskedAs (exchange s n) (find (is_exchange n) es)) (sym (rest d s).1) (itself (exchange s n))

-- ---- its exchange is over

pub rests : RestsAreTheLaws
rests number name l peers p s shows e d peer k others head is apart first none stays =
    subst (λ (n : ℕ). ShowsSteps number name l resting (record (finished_in e p) { flow = without_exchange n p.flow }) u) (sym is.number)
    (record {
      shows =
          connection_rests number name [] l (whole (finished_in e p) peers) t done.shows peer k d others head (apart_still d s apart) (first_still p s peers e peer k d others first)
          (λ may. alone_still d s others ∙ none may) stays;
      order = done.order;
      told =
          told_next number p.cache t.next_instance u.next_instance (without_exchange d.number p.flow) (conn_next k.number (rested head) (end_exchange d.number t) ∙ over_next d.number t)
          (told_over number p.cache t.next_instance d.number p.flow done.told);
      refused = done.refused;
    })
  where
    t : State
    t = finished_by_law d s

    u : State
    u = on_conn k.number (rested head) (end_exchange d.number t)

    resting : List Peer
    resting = with_peer k.number (record peer { pipe = record (answered (fate_of head) peer.pipe) { reading = behind_it (fate_of head) }; has_brought = true }) peers

    done : ShowsSteps number name l peers (finished_in e p) t
    done = finishes number name l peers p s shows e d is

pub closes : ClosesAreTheLaws
closes number name l peers p s shows e d peer k others head pipe is apart first =
    subst (λ (n : ℕ). ShowsSteps number name (still k.number others l) closing (record (finished_in e p) { flow = without_exchange n p.flow }) u) (sym is.number)
    (record {
      shows = closes_behind number name [] l (whole (finished_in e p) peers) t done.shows peer k d others head pipe (apart_still d s apart) (first_still p s peers e peer k d others first);
      order = done.order;
      told =
          told_next number p.cache t.next_instance u.next_instance (without_exchange d.number p.flow)
          (conn_next k.number emptied (on_conn k.number (rested head) (end_exchange d.number t)) ∙ conn_next k.number (rested head) (end_exchange d.number t) ∙ over_next d.number t)
          (told_over number p.cache t.next_instance d.number p.flow done.told);
      refused = done.refused;
    })
  where
    t : State
    t = finished_by_law d s

    u : State
    u = on_conn k.number emptied (on_conn k.number (rested head) (end_exchange d.number t))

    closing : List Peer
    closing = with_peer k.number (record peer { pipe = pipe; has_brought = true; is_closing = true }) peers

    done : ShowsSteps number name l peers (finished_in e p) t
    done = finishes number name l peers p s shows e d is
