-- Where a client is closed and where replies end no row is cleared; where connections to origins are closed, some may be.
use Rattle.std.proofs.Common.{◌≡◌, refl, sym, subst, ap, ℕ, Bool, true, false, ◌==◌, ◌&&◌, not, cond, find, List, [], ◌∷◌, Option, Some, None, option_map}
use Rattle.std.specs.List.{fold}
use Rattle.std.specs.Prelude.{slice_get}
use Rattle.pp_desk.specs.Closings.{Sides, closed_client, closed_conn, closed_line, closing_at, left_at, left_by_errand, left_own, peer_numbers, with_parts, withdrawn}
use Rattle.pp_desk.specs.Origins.{given_up, is_idle_in, patience_ended, unanswered, without_idle, without_idle_on}
use Rattle.pp_desk.specs.Replies.{EndsBy, EndsReplies, EndsSaid, EndsSaidOf, EndsWhere, account_renewed, at_next, closes_in, is_finished_in, without_finished, without_finished_at}
use Rattle.pp_flow.specs.Changes.{entry_of}
use Rattle.pp_flow.specs.declared.entry.Exchange.{Exchange}
use Rattle.pp_flow.specs.declared.errand.Errand.{Errand}
use Rattle.pp_peers.specs.Peers.{is_number}
use Rattle.pp_peers.specs.declared.peers.Peer.{Peer}
use Rattle.pp_joints_law.proofs.ClearedParts.{ClearsIn, Stays, clears_stay, clears_then, fails, forsakes, itself, leaves_source, loses_line, stays_as, stays_beside, stays_ended, stays_then}
use Rattle.pp_joints_law.proofs.Asks.{Can}
use Rattle.pp_seats.specs.Seats.{at_next_request}
use Rattle.pp_seats.specs.declared.seat.Seat.{Seat}
use Rattle.pp_state.specs.Asking.{owed_answer}
use Rattle.pp_state.specs.Ends.{Parts, exchange_of, forsaken, left_source, on_seat}
use Rattle.pp_state.specs.Hearing.{is_said_in, with_end}
use Rattle.pp_state.specs.Lines.{lost_line}

-- ---- one client is changed

pub at_one : (i : ℕ) (f : Seat → Seat) (p : Parts) → Stays p (on_seat i f p)
at_one i f p = stays_beside p (on_seat i f p) refl refl (λ can. can)

-- ---- a client is closed

leaves_ask : (i : ℕ) (o : Option Exchange) (x : Sides) → Stays x.parts (left_own i o x).parts
leaves_ask i None x = itself x.parts
leaves_ask i (Some e) x = by (option_map (λ entry. entry.errand) (entry_of e.number x.parts.flow))
  where
    on : (b : Bool) (k : ℕ) → Stays x.parts (cond b (withdrawn e.number k x) (with_parts (forsaken i) x)).parts
    on true k = stays_ended e.number x.parts
    on false k = forsakes i x.parts

    at : (errand : Errand) (o : Option ℕ) → Stays x.parts (left_at i e.number errand o x).parts
    at errand None = stays_ended e.number x.parts
    at errand (Some k) = on (errand.asked == 0) k

    by : (o : Option Errand) → Stays x.parts (left_by_errand i e o x).parts
    by None = itself x.parts
    by (Some errand) = at errand e.place

pub stays_closed : (i : ℕ) (x : Sides) → Stays x.parts (closed_client i x).parts
stays_closed i x =
    let p : Parts = left_source i x.parts in
    let q : Parts = closing_at i x.parts in
    stays_then x.parts q (closed_client i x).parts (stays_then x.parts p q (leaves_source i x.parts) (at_one i (λ seat. record seat { is_closing = true }) p))
    (leaves_ask i (exchange_of i q) (with_parts (closing_at i) x))

-- ---- replies end

as_parts : (x y z : Sides) → z ≡ y → Stays x.parts y.parts → Stays x.parts z.parts
as_parts x y z is all = stays_as x.parts y.parts z.parts (ap (λ (w : Sides). w.parts) is) all

ends_by : (i : ℕ) (b : Bool) (x z : Sides) → EndsBy b i x z → Stays x.parts z.parts
ends_by i true x z is = as_parts x (closed_client i x) z is (stays_closed i x)
ends_by i false x z is =
    let a : Parts = left_source i x.parts in
    let b : Parts = forsaken i a in
    let c : Parts = at_next i x.parts in
    stays_then x.parts c z.parts (stays_then x.parts b c (stays_then x.parts a b (leaves_source i x.parts) (forsakes i a)) (at_one i at_next_request b))
    (stays_beside c z.parts (ap (λ (w : Sides). w.parts.cache.instances) is.1) (ap (λ (w : Sides). w.parts.cache.outdated) is.1) (λ can. subst Can (sym (ap (λ (w : Sides). w.parts.flow) is.1)) can))

ends_where : (i : ℕ) (b : Bool) (x z : Sides) → EndsWhere b i x z → Stays x.parts z.parts
ends_where i true x z is =
    let y : Sides = with_parts (on_seat i account_renewed) x in
    stays_then x.parts y.parts z.parts (at_one i account_renewed x.parts) (ends_by i (closes_in (slice_get x.parts.seats i)) y z is)
ends_where i false x z is = as_parts x x z is (itself x.parts)

ends_of : (i : ℕ) (x z : Sides) → EndsSaidOf i x z → Stays x.parts z.parts
ends_of i x z is =
    let y : Sides = with_parts (on_seat i with_end) x in
    stays_then x.parts y.parts z.parts (at_one i with_end x.parts) (ends_where i (is_said_in (slice_get x.parts.seats i)) y z is)

said : (is : List ℕ) (x z : Sides) → EndsSaid is x z → Stays x.parts z.parts
said [] x z ends = as_parts x x z ends (itself x.parts)
said (i ∷ is) x z ends = stays_then x.parts ends.0.parts z.parts (ends_of i x ends.0 ends.1) (said is ends.0 z ends.2)

finished_one : (i : ℕ) (x : Sides) → Stays x.parts (without_finished_at x i).parts
finished_one i x = by (is_finished_in (slice_get x.parts.seats i))
  where
    by : (b : Bool) → Stays x.parts (cond b (closed_client i x) x).parts
    by true = stays_closed i x
    by false = itself x.parts

finished : (is : List ℕ) (x : Sides) → Stays x.parts (without_finished is x).parts
finished [] x = itself x.parts
finished (i ∷ is) x = stays_then x.parts (without_finished_at x i).parts (without_finished (i ∷ is) x).parts (finished_one i x) (finished is (without_finished_at x i))

pub replies_stay : (is : List ℕ) (x z : Sides) → EndsReplies is x z → Stays x.parts z.parts
replies_stay is x z ends = stays_then x.parts ends.0.parts z.parts (said is x ends.0 ends.1) (as_parts ends.0 (without_finished is ends.0) z ends.2 (finished is ends.0))

-- ---- a connection is closed, and one that is idle

pub clears_closed : (k : ℕ) (counts : Bool) (x : Sides) → ClearsIn x.parts (closed_conn k counts x).parts
clears_closed k counts x = by (find (is_number k) x.peers)
  where
    at : (b : Bool) (peer : Peer) → ClearsIn x.parts (cond b x.parts (lost_line 1024 k (counts && not peer.has_brought) x.parts))
    at true peer = clears_stay x.parts x.parts (itself x.parts)
    at false peer = loses_line 1024 k (counts && not peer.has_brought) x.parts

    by : (o : Option Peer) → ClearsIn x.parts (closed_line k counts o x.parts)
    by None = clears_stay x.parts x.parts (itself x.parts)
    by (Some peer) = at peer.is_closing peer

unanswers : (o : Option Exchange) (p : Parts) → ClearsIn p (unanswered o p)
unanswers None p = clears_stay p p (itself p)
unanswers (Some e) p = fails e p

idle_on : (now k : ℕ) (x : Sides) → ClearsIn x.parts (without_idle_on now x k).parts
idle_on now k x = by (is_idle_in now x.parts.flow (find (is_number k) x.peers))
  where
    by : (b : Bool) → ClearsIn x.parts (cond b (given_up k x) x).parts
    by true = clears_then x.parts (patience_ended k x.parts) (given_up k x).parts (unanswers (owed_answer k x.parts.flow) x.parts) (clears_closed k true (with_parts (patience_ended k) x))
    by false = clears_stay x.parts x.parts (itself x.parts)

all_idle_on : (now : ℕ) (ks : List ℕ) (x : Sides) → ClearsIn x.parts (fold (without_idle_on now) x ks).parts
all_idle_on now [] x = clears_stay x.parts x.parts (itself x.parts)
all_idle_on now (k ∷ ks) x = clears_then x.parts (without_idle_on now x k).parts (fold (without_idle_on now) x (k ∷ ks)).parts (idle_on now k x) (all_idle_on now ks (without_idle_on now x k))

pub clears_idle : (now : ℕ) (x : Sides) → ClearsIn x.parts (without_idle now x).parts
clears_idle now x = all_idle_on now (peer_numbers x.peers) x
