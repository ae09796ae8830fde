-- The same where a client is closed, where replies end, and where connections to origins are closed.
use Rattle.std.proofs.Common.{◌≡◌, refl, ap, ℕ, Bool, true, false, ◌==◌, ◌&&◌, not, cond, find, List, [], ◌∷◌, Option, Some, None, option_map}
use Rattle.std.specs.List.{fold}
use Rattle.std.specs.Prelude.{slice_get}
use Rattle.pp_desk.specs.Closings.{Sides, closed_client, closed_conn, closed_line, closing_at, dropped_with, left_at, left_by_errand, left_own, peer_numbers, with_parts, withdrawn}
use Rattle.pp_desk.specs.Origins.{given_up, is_idle_in, patience_ended, unanswered, unseen_dropped, without_idle, without_idle_on, without_unseen, without_unseen_on}
use Rattle.pp_desk.specs.Replies.{EndsBy, EndsReplies, EndsSaid, EndsSaidOf, EndsWhere, account_renewed, at_next, closes_in, is_finished_in, without_finished, without_finished_at}
use Rattle.pp_flow.specs.Changes.{entry_of}
use Rattle.pp_flow.specs.declared.entry.Exchange.{Exchange}
use Rattle.pp_flow.specs.declared.errand.Errand.{Errand}
use Rattle.pp_peers.specs.Peers.{is_number}
use Rattle.pp_peers.specs.declared.peers.Peer.{Peer}
use Rattle.pp_seats.specs.Seats.{at_next_request}
use Rattle.pp_seats.specs.declared.seat.Seat.{Seat}
use Rattle.pp_state.specs.Asking.{owed_answer}
use Rattle.pp_state.specs.Ends.{Parts, ended, exchange_of, forsaken, left_source, on_seat}
use Rattle.pp_state.specs.Hearing.{is_said_in, with_end}
use Rattle.pp_state.specs.Lines.{lost_line}
use Rattle.pp_state.specs.Unseen.{unseen_on}
use Rattle.pp_grown_law.proofs.Passing.{Goes, ended_goes, failed_goes, forsaken_goes, goes_as, goes_none, goes_same, goes_then, line_goes, source_goes}

-- ---- one client is changed

pub seat_goes : (i : ℕ) (f : Seat → Seat) (p : Parts) → Goes p (on_seat i f p)
seat_goes i f p = goes_same p (on_seat i f p) refl refl

-- ---- a client is closed

ask_goes : (i : ℕ) (o : Option Exchange) (x : Sides) → Goes x.parts (left_own i o x).parts
ask_goes i None x = goes_none x.parts
ask_goes i (Some e) x = by (option_map (λ entry. entry.errand) (entry_of e.number x.parts.flow))
  where
    on : (b : Bool) (k : ℕ) → Goes x.parts (cond b (withdrawn e.number k x) (with_parts (forsaken i) x)).parts
    on true k = ended_goes e.number x.parts
    on false k = forsaken_goes i x.parts

    at : (errand : Errand) (o : Option ℕ) → Goes x.parts (left_at i e.number errand o x).parts
    at errand None = ended_goes e.number x.parts
    at errand (Some k) = on (errand.asked == 0) k

    by : (o : Option Errand) → Goes x.parts (left_by_errand i e o x).parts
    by None = goes_none x.parts
    by (Some errand) = at errand e.place

pub client_goes : (i : ℕ) (x : Sides) → Goes x.parts (closed_client i x).parts
client_goes i x =
    let p : Parts = left_source i x.parts in
    let q : Parts = closing_at i x.parts in
    goes_then x.parts q (closed_client i x).parts (goes_then x.parts p q (source_goes i x.parts) (seat_goes i (λ seat. record seat { is_closing = true }) p))
    (ask_goes i (exchange_of i q) (with_parts (closing_at i) x))

-- ---- replies end

pub goes_sides : (x y z : Sides) → z ≡ y → Goes x.parts y.parts → Goes x.parts z.parts
goes_sides x y z is all = goes_as x.parts y.parts z.parts (ap (λ (w : Sides). w.parts) is) all

ends_by : (i : ℕ) (b : Bool) (x z : Sides) → EndsBy b i x z → Goes x.parts z.parts
ends_by i true x z is = goes_sides x (closed_client i x) z is (client_goes i x)
ends_by i false x z is =
    let a : Parts = left_source i x.parts in
    let b : Parts = forsaken i a in
    let c : Parts = at_next i x.parts in
    goes_then x.parts c z.parts (goes_then x.parts b c (goes_then x.parts a b (source_goes i x.parts) (forsaken_goes i a)) (seat_goes i at_next_request b))
    (goes_same c z.parts (ap (λ (w : Sides). w.parts.cache) is.1) (ap (λ (w : Sides). w.parts.flow) is.1))

ends_where : (i : ℕ) (b : Bool) (x z : Sides) → EndsWhere b i x z → Goes x.parts z.parts
ends_where i true x z is =
    let y : Sides = with_parts (on_seat i account_renewed) x in
    goes_then x.parts y.parts z.parts (seat_goes i account_renewed x.parts) (ends_by i (closes_in (slice_get x.parts.seats i)) y z is)
ends_where i false x z is = goes_sides x x z is (goes_none x.parts)

ends_of : (i : ℕ) (x z : Sides) → EndsSaidOf i x z → Goes x.parts z.parts
ends_of i x z is =
    let y : Sides = with_parts (on_seat i with_end) x in
    goes_then x.parts y.parts z.parts (seat_goes i with_end x.parts) (ends_where i (is_said_in (slice_get x.parts.seats i)) y z is)

said : (is : List ℕ) (x z : Sides) → EndsSaid is x z → Goes x.parts z.parts
said [] x z ends = goes_sides x x z ends (goes_none x.parts)
said (i ∷ is) x z ends = goes_then x.parts ends.0.parts z.parts (ends_of i x ends.0 ends.1) (said is ends.0 z ends.2)

finished_one : (i : ℕ) (x : Sides) → Goes x.parts (without_finished_at x i).parts
finished_one i x = by (is_finished_in (slice_get x.parts.seats i))
  where
    by : (b : Bool) → Goes x.parts (cond b (closed_client i x) x).parts
    by true = client_goes i x
    by false = goes_none x.parts

finished : (is : List ℕ) (x : Sides) → Goes x.parts (without_finished is x).parts
finished [] x = goes_none x.parts
finished (i ∷ is) x = goes_then x.parts (without_finished_at x i).parts (without_finished (i ∷ is) x).parts (finished_one i x) (finished is (without_finished_at x i))

pub replies_go : (is : List ℕ) (x z : Sides) → EndsReplies is x z → Goes x.parts z.parts
replies_go is x z ends = goes_then x.parts ends.0.parts z.parts (said is x ends.0 ends.1) (goes_sides ends.0 (without_finished is ends.0) z ends.2 (finished is ends.0))

-- ---- a connection is closed, and one that is idle

pub conn_goes : (k : ℕ) (counts : Bool) (x : Sides) → Goes x.parts (closed_conn k counts x).parts
conn_goes k counts x = by (find (is_number k) x.peers)
  where
    at : (b : Bool) (peer : Peer) → Goes x.parts (cond b x.parts (lost_line 1024 k (counts && not peer.has_brought) x.parts))
    at true peer = goes_none x.parts
    at false peer = line_goes 1024 k (counts && not peer.has_brought) x.parts

    by : (o : Option Peer) → Goes x.parts (closed_line k counts o x.parts)
    by None = goes_none x.parts
    by (Some peer) = at peer.is_closing peer

unanswered_goes : (o : Option Exchange) (p : Parts) → Goes p (unanswered o p)
unanswered_goes None p = goes_none p
unanswered_goes (Some e) p = failed_goes e p

idle_on : (now k : ℕ) (x : Sides) → Goes x.parts (without_idle_on now x k).parts
idle_on now k x = by (is_idle_in now x.parts.flow (find (is_number k) x.peers))
  where
    by : (b : Bool) → Goes x.parts (cond b (given_up k x) x).parts
    by true = goes_then x.parts (patience_ended k x.parts) (given_up k x).parts (unanswered_goes (owed_answer k x.parts.flow) x.parts) (conn_goes k true (with_parts (patience_ended k) x))
    by false = goes_none x.parts

all_idle_on : (now : ℕ) (ks : List ℕ) (x : Sides) → Goes x.parts (fold (without_idle_on now) x ks).parts
all_idle_on now [] x = goes_none x.parts
all_idle_on now (k ∷ ks) x = goes_then x.parts (without_idle_on now x k).parts (fold (without_idle_on now) x (k ∷ ks)).parts (idle_on now k x) (all_idle_on now ks (without_idle_on now x k))

pub idle_goes : (now : ℕ) (x : Sides) → Goes x.parts (without_idle now x).parts
idle_goes now x = all_idle_on now (peer_numbers x.peers) x

-- ---- what nobody will see

unseen_goes : (k : ℕ) (o : Option ℕ) (x : Sides) → Goes x.parts (unseen_dropped k o x).parts
unseen_goes k None x = goes_none x.parts
unseen_goes k (Some n) x = goes_then x.parts (ended n x.parts) (dropped_with n k x).parts (ended_goes n x.parts) (conn_goes k false (with_parts (ended n) x))

all_unseen_on : (ks : List ℕ) (x : Sides) → Goes x.parts (fold without_unseen_on x ks).parts
all_unseen_on [] x = goes_none x.parts
all_unseen_on (k ∷ ks) x =
    goes_then x.parts (without_unseen_on x k).parts (fold without_unseen_on x (k ∷ ks)).parts (unseen_goes k (unseen_on k x.parts.seats x.parts.flow) x) (all_unseen_on ks (without_unseen_on x k))

pub all_unseen_go : (x : Sides) → Goes x.parts (without_unseen x).parts
all_unseen_go x = all_unseen_on (peer_numbers x.peers) x
