-- Which asks of followers are of no use any more is what the law gives up (ours).
use Rattle.std.specs.Prelude.{◌≡◌, ℕ, false, [], find, Some}
use Rattle.pp_turns_law.specs.Decides.{IsAtPlace}
use Rattle.pp_turns_law.specs.Turns.{IsFollowing}
use Rattle.pp_flow.specs.Changes.{entry_of, numbers}
use Rattle.pp_flow.specs.Entries.{is_number}
use Rattle.pp_flow.specs.declared.entry.Entry.{Entry}
use Rattle.pp_law.specs.Connections.{exchange}
use Rattle.pp_law.specs.Followers.{give_up_asks, is_useless_ask}
use Rattle.pp_law.specs.Lists.{Bytes}
use Rattle.pp_law.specs.State.{State, Client, Exchange}
use Rattle.pp_law.specs.Store.{note_gone}
use Rattle.pp_seats.specs.declared.seat.Seat.{Seat}
use Rattle.pp_states_law.specs.Decisions.{AreApart}
use Rattle.pp_state.specs.Asking.{is_useless}
use Rattle.pp_state.specs.Ends.{AreInOrder, Parts}
use Rattle.pp_states_law.specs.Steps.{OfSteps, ShowsSteps}
use Rattle.pp_take.specs.GivingUp.{all_given_up}

-- what each that is not closing follows is there
abbrev pub AllFollow : Parts → State → Type 0
AllFollow p s = (i : ℕ) (seat : Seat) (c : Client) → IsAtPlace i p s seat c → c.is_closing ≡ false → IsFollowing p.cache seat

-- of one without a place
abbrev pub UselessIsTheLaws : Type 0
UselessIsTheLaws = OfSteps (λ number name l peers p s. (n : ℕ) (x : Entry) (e : Exchange) → AllFollow p s → find (is_number n) p.flow.waiting ≡ Some x → exchange s n ≡ Some e → is_useless p.cache p.seats (entry_of n p.flow) ≡ is_useless_ask s e)

-- all without a place stand in the order of their beginnings
abbrev pub WaitingAreInOrder : Type 0
WaitingAreInOrder = OfSteps (λ number name l peers p s. AreInOrder (numbers p.flow.waiting))

-- of all without a place, in the order of their beginnings, where none has to leave a line any more, and no two connections have one number
abbrev pub GivenUpAsTheLaws : Type 0
GivenUpAsTheLaws = OfSteps (λ number name l peers p s. AllFollow p s → AreApart s → ((j : ℕ) → l j ≡ []) → ShowsSteps number name l peers (all_given_up (numbers p.flow.waiting) p) (give_up_asks s))

-- of the law: before the note that an entry is gone they are those behind it
abbrev pub GivenUpBesideGone : Type 0
GivenUpBesideGone = (key : Bytes) (s : State) → give_up_asks (note_gone key s) ≡ note_gone key (give_up_asks s)
