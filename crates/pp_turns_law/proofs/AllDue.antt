-- What is due of a seat is what is due of its client.
use Rattle.std.proofs.Common.{◌≡◌, refl, sym, ap, ap₂, ◌∙◌, ℕ, Bool, true, false, is_some, [], Option, Some, option_map, List}
use Rattle.pp_flow_law.specs.Tables.{Leaving}
use Rattle.pp_law.specs.Decisions.{decide as decide_by_law}
use Rattle.pp_law.specs.Lists.{Bytes}
use Rattle.pp_law.specs.Sharing.{due_undecided as undecided_by_law}
use Rattle.pp_law.specs.State.{State, Client}
use Rattle.pp_peers.specs.declared.peers.Peer.{Peer}
use Rattle.pp_seats.specs.declared.due.Due.{Due as SeatDue}
use Rattle.pp_seats.specs.declared.seat.Seat.{Seat}
use Rattle.pp_seats.specs.Dues.{by_stage_in, cause_in, decision_in, due_in, is_idle_in, is_refused_in, lost_in, undecided_in}
use Rattle.pp_seats.specs.Follows.{answer_in}
use Rattle.pp_seats.specs.Seats.{is_told_in}
use Rattle.pp_seats_law.proofs.Dues.{dues, lost, sharing}
use Rattle.pp_seats_law.specs.Dues.{cut_of as cut_by_law, due_as, has_lost_its_row, waits_on_still}
use Rattle.pp_seats_law.specs.Seats.{ShowsOpen, ShowsSeat}
use Rattle.pp_decide.specs.Decide.{decide}
use Rattle.pp_due.specs.Due.{cut_of, decision_of, due_of, has_source_standing, is_dry, is_superseded}
use Rattle.pp_decide.specs.Sharing.{due_undecided, shared_ask}
use Rattle.pp_state.specs.declared.state.State.{State as Turn}
use Rattle.pp_world.specs.declared.note.Cause.{Cause}
use Rattle.pp_world.specs.declared.note.Decision.{Decision}
use Rattle.pp_world.specs.declared.note.Decision.TheVariants.{Refuse}
use Rattle.pp_turns_law.proofs.Decided.{decided}
use Rattle.pp_turns_law.proofs.Drying.{dry}
use Rattle.pp_turns_law.proofs.Follows.{superseded}
use Rattle.pp_turns_law.proofs.Shares.{shared_same}
use Rattle.pp_turns_law.proofs.Standing.{standing}
use Rattle.pp_turns_law.proofs.WaitingFor.{waiting}
use Rattle.pp_turns_law.specs.Dues.{DuesAreTheLaws}
use Rattle.pp_turns_law.specs.Turns.{IsDecidable, IsFollowing, ShowsTurn}

-- ---- cuts

pub cut_same : (number : ℕ → ℕ) (l : Leaving) (peers : List Peer) (p : Turn) (s : State) (name : Bytes) (seat : Seat) (c : Client) → ShowsTurn number l peers p s → ShowsSeat number name [] seat c → c.is_closing ≡ false → IsFollowing p.cache seat → cut_of p seat ≡ cut_by_law s seat c
cut_same number l peers p s name seat c shows seen going there =
    ap (λ (stopped : Bool). cause_in stopped (is_idle_in p.is_ticked p.now seat) seat (is_dry p seat) (is_superseded p seat)) shows.stopped
    ∙ ap₂ (λ (ticked : Bool) (now : ℕ). cause_in s.is_stopped (is_idle_in ticked now seat) seat (is_dry p seat) (is_superseded p seat)) shows.ticked shows.clock
    ∙ ap₂ (λ (d b : Bool). cause_in s.is_stopped (is_idle_in s.is_ticked s.clock seat) seat d b) (dry number l peers p s name seat c shows seen going there) (superseded number l peers p s name seat c shows seen going there)

-- ---- decisions

undecided_same : (number : ℕ → ℕ) (l : Leaving) (peers : List Peer) (p : Turn) (s : State) (name : Bytes) (seat : Seat) (c : Client) → ShowsTurn number l peers p s → ShowsSeat number name [] seat c → c.is_closing ≡ false → IsFollowing p.cache seat → IsDecidable number p s seat c
    → due_undecided p seat ≡ undecided_by_law s c
undecided_same number l peers p s name seat c shows seen going there may =
    let live : ShowsOpen number name [] seat c = seen.going going in
    ap₂ (λ (patient shares : Bool). undecided_in seat.waits_on patient shares (is_some (shared_ask seat p.flow)) (decide p seat)) (waiting number l peers p s name seat c shows seen going there) shows.shares
    ∙ ap₂ (λ (asked : Option ℕ) (d : Option Decision). undecided_in seat.waits_on (waits_on_still s seat.waits_on) s.settings.shares_fetches (is_some asked) d)
    (shared_same number l peers p s name seat c shows live.front may.key) (decided number l peers p s name seat c shows seen going may)
    ∙ sharing s number name [] seat c live

pub refused_any : (seat : Seat) (a b : Bool) (u v d e : Option Decision) → is_refused_in seat.brought ≡ true → decision_in seat a u d ≡ decision_in seat b v e
refused_any seat a b u v d e is =
    ap (λ (t : Bool). elim t as (λ c. Option Decision) [ true ↦ Some (Refuse 500) | false ↦ by_stage_in seat.stage seat.course (is_told_in seat.brought) a u d ]) is
    ∙ sym (ap (λ (t : Bool). elim t as (λ c. Option Decision) [ true ↦ Some (Refuse 500) | false ↦ by_stage_in seat.stage seat.course (is_told_in seat.brought) b v e ]) is)

pub decision_same : (number : ℕ → ℕ) (l : Leaving) (peers : List Peer) (p : Turn) (s : State) (name : Bytes) (seat : Seat) (c : Client) (b : Bool) → is_refused_in seat.brought ≡ b → ShowsTurn number l peers p s → ShowsSeat number name [] seat c → c.is_closing ≡ false → IsFollowing p.cache seat
    → (is_refused_in seat.brought ≡ false → IsDecidable number p s seat c) → decision_of p seat ≡ decision_in seat (has_lost_its_row s c) (undecided_by_law s c) (decide_by_law s c)
decision_same number l peers p s name seat c true is shows seen going there may =
    refused_any seat (lost_in (answer_in seat.stage) (has_source_standing p seat)) (has_lost_its_row s c) (due_undecided p seat) (undecided_by_law s c) (decide p seat) (decide_by_law s c) is
decision_same number l peers p s name seat c false is shows seen going there may =
    ap (λ (stands : Bool). decision_in seat (lost_in (answer_in seat.stage) stands) (due_undecided p seat) (decide p seat)) (standing number l peers p s name seat c shows seen going there)
    ∙ ap (λ (gone : Bool). decision_in seat gone (due_undecided p seat) (decide p seat)) (lost s number name [] seat c (seen.going going))
    ∙ ap₂ (λ (u d : Option Decision). decision_in seat (has_lost_its_row s c) u d) (undecided_same number l peers p s name seat c shows seen going there (may is)) (decided number l peers p s name seat c shows seen going (may is))

-- ---- both

closing_any : (closing a b : Bool) (x y : Option Cause) (d e : Option Decision) → closing ≡ true → due_in closing a x d ≡ due_in closing b y e
closing_any true a b x y d e is = refl
closing_any false a b x y d e is = absurd (cc is)

due_same : (number : ℕ → ℕ) (l : Leaving) (peers : List Peer) (p : Turn) (s : State) (name : Bytes) (seat : Seat) (c : Client) (closing : Bool) → c.is_closing ≡ closing → ShowsTurn number l peers p s → ShowsSeat number name [] seat c → (c.is_closing ≡ false → IsFollowing p.cache seat)
    → (c.is_closing ≡ false → is_refused_in seat.brought ≡ false → IsDecidable number p s seat c)
    → due_of p seat ≡ due_in seat.is_closing s.is_stopped (cut_by_law s seat c) (decision_in seat (has_lost_its_row s c) (undecided_by_law s c) (decide_by_law s c))
due_same number l peers p s name seat c true is shows seen there may =
    closing_any seat.is_closing p.is_stopped s.is_stopped (cut_of p seat) (cut_by_law s seat c) (decision_of p seat) (decision_in seat (has_lost_its_row s c) (undecided_by_law s c) (decide_by_law s c)) (seen.closing ∙ is)
due_same number l peers p s name seat c false is shows seen there may =
    ap (λ (stopped : Bool). due_in seat.is_closing stopped (cut_of p seat) (decision_of p seat)) shows.stopped
    ∙ ap₂ (λ (x : Option Cause) (d : Option Decision). due_in seat.is_closing s.is_stopped x d) (cut_same number l peers p s name seat c shows seen is (there is))
    (decision_same number l peers p s name seat c (is_refused_in seat.brought) refl shows seen is (there is) (may is))

pub all_dues : DuesAreTheLaws
all_dues number l peers p s name seat c shows seen there may =
    ap (λ (o : Option SeatDue). option_map (due_as seat.client.id seat.index) o) (due_same number l peers p s name seat c c.is_closing refl shows seen there may) ∙ dues number s name seat c seen
