-- What a turn reads of a seat is what the law reads of its client (RFC 2616, section 8.1; the order is ours).
use Rattle.std.specs.Prelude.{◌≡◌, ℕ, false, not, List, [], option_map}
use Rattle.pp_client.specs.Replies.{at_hand}
use Rattle.pp_flow_law.specs.Tables.{Leaving}
use Rattle.pp_law.specs.Decisions.{decide as decide_by_law}
use Rattle.pp_law.specs.Due.{due_of as due_by_law, is_superseded}
use Rattle.pp_law.specs.Lists.{Bytes}
use Rattle.pp_law.specs.Offers.{has_to_say, offer}
use Rattle.pp_law.specs.State.{State, Client}
use Rattle.pp_peers.specs.declared.peers.Peer.{Peer}
use Rattle.pp_seats.specs.declared.seat.Seat.{Seat}
use Rattle.pp_seats.specs.Dues.{is_refused_in}
use Rattle.pp_seats_law.specs.Dues.{due_as, has_source_standing, waits_on_still}
use Rattle.pp_seats_law.specs.Seats.{ShowsSeat}
use Rattle.pp_decide.specs.Decide.{decide}
use Rattle.pp_due.specs.Due.{due_of, has_source_standing as stands_in_turn, is_dry, is_superseded as superseded_in_turn}
use Rattle.pp_decide.specs.Sharing.{may_wait_on}
use Rattle.pp_state.specs.declared.state.State.{State as Turn}
use Rattle.pp_turns_law.specs.Turns.{IsDecidable, IsFollowing, OfTurns, ShowsTurn}

-- the instance that it follows still stands as the row of its key
abbrev pub StandingIsTheLaws : Type 0
StandingIsTheLaws = OfTurns (λ p s seat c. stands_in_turn p seat ≡ has_source_standing s c)

-- it waits for another's answer, and may wait on
abbrev pub PatienceIsTheLaws : Type 0
PatienceIsTheLaws = OfTurns (λ p s seat c. may_wait_on seat.waits_on p.now p.flow ≡ waits_on_still s seat.waits_on)

-- what is there to be said to it, in memory or in its own buffers
abbrev pub OffersAreTheLaws : Type 0
OffersAreTheLaws = OfTurns (λ p s seat c. at_hand seat.client.reply p.cache.chunks ≡ offer s c)

-- another version stands, and of this one nothing more comes
abbrev pub SupersededIsTheLaws : Type 0
SupersededIsTheLaws = OfTurns (λ p s seat c. superseded_in_turn p seat ≡ is_superseded s c)

-- nothing that came is left to say to it
abbrev pub DryIsTheLaws : Type 0
DryIsTheLaws = OfTurns (λ p s seat c. is_dry p seat ≡ not (has_to_say s c))

-- what is decided of its request
abbrev pub DecidesAsTheLaw : Type 0
DecidesAsTheLaw = (number : ℕ → ℕ) (l : Leaving) (peers : List Peer) (p : Turn) (s : State) (name : Bytes) (seat : Seat) (c : Client) → ShowsTurn number l peers p s → ShowsSeat number name [] seat c → c.is_closing ≡ false → IsDecidable number p s seat c → decide p seat ≡ decide_by_law s c

-- what is due of it: of the client with that number, and of the request of that index
abbrev pub DuesAreTheLaws : Type 0
DuesAreTheLaws = (number : ℕ → ℕ) (l : Leaving) (peers : List Peer) (p : Turn) (s : State) (name : Bytes) (seat : Seat) (c : Client) → ShowsTurn number l peers p s → ShowsSeat number name [] seat c → (c.is_closing ≡ false → IsFollowing p.cache seat)
    → (c.is_closing ≡ false → is_refused_in seat.brought ≡ false → IsDecidable number p s seat c) → option_map (due_as seat.client.id seat.index) (due_of p seat) ≡ due_by_law s c
