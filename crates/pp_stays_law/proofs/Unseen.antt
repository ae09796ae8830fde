-- What nobody sees, asks that are given up, and followers: what the program has then, and what the law has.
use Rattle.std.proofs.Common.{◌≡◌, sym, subst, ℕ, List, None}
use Rattle.pp_cache.specs.Memory.{Memory}
use Rattle.pp_turns_law.proofs.AllSeen.{all_drop}
use Rattle.pp_turns_law.specs.Sides.{MayClose, ShowsSides}
use Rattle.pp_turns_law.specs.Unread.{Tells}
use Rattle.pp_turns_law.proofs.GivenUp.{waiting_in_order}
use Rattle.pp_deciding_law.proofs.Framed.{steps_in}
use Rattle.pp_desk.specs.Closings.{Sides, sides, with_parts}
use Rattle.pp_desk.specs.Origins.{without_unseen}
use Rattle.pp_desk.specs.declared.desk.Desk.{Desk}
use Rattle.pp_flow.specs.Changes.{numbers as flow_numbers}
use Rattle.pp_flow.specs.Entries.{with_place}
use Rattle.pp_flow.specs.declared.entry.Entry.{Entry}
use Rattle.pp_flow_law.specs.Tables.{none_leaves}
use Rattle.pp_law.specs.Phases.{in_phase}
use Rattle.pp_law.specs.State.{State, Phase, Connecting}
use Rattle.pp_law.specs.Unseen.{drop_unseen}
use Rattle.pp_proxy.specs.Moving.{Moving}
use Rattle.pp_proxy.specs.Rounds.{Becomes, Fills, GivesUp}
use Rattle.pp_rounds_law.proofs.Follows.{AllFollow, followers}
use Rattle.pp_rounds_law.specs.Stands.{StandsAmid}
use Rattle.pp_seats.specs.declared.seat.Seat.{Seat}
use Rattle.pp_state.specs.Ends.{AreInOrder, parts}
use Rattle.pp_store.specs.Kept.{KeptMap}
use Rattle.pp_take.specs.GivingUp.{all_given_up}
use Rattle.pp_stays_law.proofs.Rested.{filled_fine, given_up_fine, unseen_fine}
use Rattle.pp_stays_law.proofs.Walk.{Holds, Suits}
use Rattle.pp_stays_law.specs.Turns.{AreCounted}

may_close_in : (phase : Phase) (s : State) → MayClose s → MayClose (in_phase phase s)
may_close_in phase s may = record { apart = may.apart; orderly = may.orderly; go = record { going = may.go.going; coming = may.go.coming } }

module _ (number : ℕ → ℕ) (shelf : KeptMap) (x : Moving) (seen given asked : Desk) (s : State) (amid : StandsAmid number shelf x s) (may : MayClose s) (counted : AreCounted x.desk.state s) (drops : Becomes without_unseen x.desk seen) (gives : GivesUp seen given) (fills : Fills given asked) where
  abbrev name : List ℕ
  name = x.desk.state.name.items

  abbrev u : State
  u = in_phase Connecting s

  abbrev pub left : Sides
  left = without_unseen (sides x.desk)

  shows : ShowsSides number name (sides x.desk) u
  shows = record { steps = steps_in Connecting s.made_room_for number name none_leaves x.desk.peers (parts x.desk.state) s amid.turn.steps; may = may_close_in Connecting s may }

  follow : AllFollow x.desk.state.cache x.desk.state.seats.items
  follow i seat here going = (amid.ready i seat here going).follows

  tells : Tells (sides x.desk) u
  tells = record {
    following = followers number name x.desk.state.cache u shows.steps.shows.table.table x.desk.state.seats.items u.clients shows.steps.shows.clients follow;
    counted = λ n k there. counted n k there;
  }

  pub unseen : ShowsSides number name left (drop_unseen u)
  unseen = (all_drop number name (sides x.desk) u shows tells).0

  pub told : Tells left (drop_unseen u)
  told = (all_drop number name (sides x.desk) u shows tells).1

  order : AreInOrder (flow_numbers left.parts.flow.waiting)
  order = waiting_in_order number name none_leaves left.peers left.parts (drop_unseen u) unseen.steps

  given_is : sides given ≡ with_parts (all_given_up (flow_numbers left.parts.flow.waiting)) left
  given_is =
      subst (λ (y : Sides). sides given ≡ with_parts (all_given_up (flow_numbers y.parts.flow.waiting)) y) drops.is
      (gives.is (subst (λ (y : Sides). AreInOrder (flow_numbers y.parts.flow.waiting)) (sym drops.is) order))

  -- ---- what holds

  module _ (S : Seat → Type 0) (W Q : Entry → Type 0) (C : Memory → Type 0) (suits : Suits S W Q C) where
    -- behind what nobody sees
    pub behind_unseen : Holds S W Q C left.parts → Holds S W Q C (parts asked.state)
    behind_unseen h =
        let one : Holds S W Q C (all_given_up (flow_numbers left.parts.flow.waiting) left.parts) = given_up_fine S W Q C suits (flow_numbers left.parts.flow.waiting) left.parts h in
        let two : Holds S W Q C (parts given.state) = subst (λ (y : Sides). Holds S W Q C y.parts) (sym given_is) one in
        subst (λ (y : Sides). Holds S W Q C y.parts) (sym fills.is) (filled_fine S W Q C suits given.state.is_stopped given.state.name.items given.state.awake.items (parts given.state) two)

    -- and before it, where one that loses its place waits as before
    pub silent_fine : ((e : Entry) → Q e → W (with_place None e)) → Holds S W Q C (parts x.desk.state) → Holds S W Q C (parts asked.state)
    silent_fine again h = behind_unseen (unseen_fine S W Q C suits again (sides x.desk) h)
