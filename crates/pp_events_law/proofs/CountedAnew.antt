-- Attempts count anew behind an event, and the turn stands at the law's state.
use Rattle.std.proofs.Common.{◌≡◌, refl, sym, subst, ap, ap₂, ◌∙◌, ℕ, List}
use Rattle.pp_turns_law.proofs.Regained.{regains}
use Rattle.pp_desk.specs.Closings.{peer_numbers}
use Rattle.pp_desk.specs.declared.desk.Desk.{Desk}
use Rattle.pp_flow_law.specs.Tables.{none_leaves}
use Rattle.pp_law.specs.Replies.{regained}
use Rattle.pp_law.specs.State.{State, Handling, Free}
use Rattle.pp_peers.specs.declared.peers.Peer.{Peer}
use Rattle.pp_proxy.specs.Leaving.{Regains}
use Rattle.pp_proxy.specs.Moving.{Moving, with_desk}
use Rattle.pp_seats.specs.declared.seat.Seat.{Seat}
use Rattle.pp_state.specs.Ends.{Parts, all_regained, parts}
use Rattle.pp_turns_law.specs.Turns.{ShowsTurn}
use Rattle.pp_events_law.proofs.Alike.{AreAlike, awake_alike}
use Rattle.pp_events_law.proofs.Anew.{all_anew, anew_may}
use Rattle.pp_events_law.proofs.Standing.{open_as}
use Rattle.pp_events_law.specs.Anew.{AttemptsCountAnew}
use Rattle.pp_events_law.specs.Stands.{StandsAtEvent}

module _ (number : ℕ → ℕ) (x : Moving) (anew : Desk) (u : State) (stands : StandsAtEvent number Handling Free x u) (shown : ShowsTurn number none_leaves anew.peers anew.state (regained u)) (is : Regains x.desk anew) where
  parts_are : parts anew.state ≡ record (parts x.desk.state) { seats = all_regained x.desk.state.cache x.desk.state.awake.items x.desk.state.seats.items }
  parts_are = ap₂ (λ (p : Parts) (ss : List Seat). record p { seats = ss }) (ap (λ (d : Desk). parts d.state) is.rest) is.is

  alike : AreAlike (parts x.desk.state) (parts anew.state)
  alike = subst (λ (p : Parts). AreAlike (parts x.desk.state) p) (sym parts_are) (all_anew x.desk.state.cache x.desk.state.awake.items (parts x.desk.state))

  stands_anew : StandsAtEvent number Handling Free (with_desk anew x) (regained u)
  unfolding regained
  stands_anew = record {
    law = record { at = stands.law.at; owes = stands.law.owes; none = stands.law.none };
    desk = record { turn = shown; may = anew_may u stands.desk.may };
    ticked = ap (λ (d : Desk). d.state.has_ticked) is.rest ∙ stands.ticked;
    awake = awake_alike x.desk.state anew.state alike (ap (λ (d : Desk). d.state.awake.items) is.rest) (ap (λ (d : Desk). d.state.is_ticked) is.rest) stands.awake;
    opened = open_as x (with_desk anew x) u.top u.top is.numbers (ap (λ (d : Desk). peer_numbers d.peers) is.rest) refl refl refl stands.opened;
  }

pub count_anew : AttemptsCountAnew
count_anew number x anew s handled is =
    subst (λ (t : State). StandsAtEvent number Handling Free (with_desk anew x) t) (sym handled.anew)
    (stands_anew number x anew handled.handled handled.stands
    (subst (λ (ps : List Peer). ShowsTurn number none_leaves ps anew.state (regained handled.handled)) (sym (ap (λ (d : Desk). d.peers) is.rest))
    (regains number none_leaves x.desk.peers x.desk.state anew.state handled.handled handled.stands.desk.turn handled.stands.awake handled.follows (record { seats = is.is; rest = ap (λ (d : Desk). d.state) is.rest }))) is)
