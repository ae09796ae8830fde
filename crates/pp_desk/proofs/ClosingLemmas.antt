-- What closings leave: of those that go on none is closing, and numbers stay, or stand in their order.
use Rattle.std.proofs.Common.{◌≡◌, ◌≤◌, ◌+◌, Bool, true, false, cond, List, [], ◌∷◌, ◌||◌, not, filter, find, length, refl, sym, ◌∙◌, ap, ◌&&◌, if◌then◌else◌, ℕ, Option, Some, None, slice_set, arith}
use Rattle.std.proofs.lemmas.Option.{slice_get_past}
use Rattle.pp_objects.specs.declared.id.ObjectId.{ObjectId}
use Rattle.pp_peers.specs.Peers.{goes_on, is_number, with_peer, with_pipe}
use Rattle.pp_peers.specs.declared.peers.Peer.{Peer}
use Rattle.pp_pipe.specs.Line.{Line}
use Rattle.pp_pipe.specs.declared.asks.Ask.{Ask}
use Rattle.pp_desk.specs.Closings.{KeepsDesk, closed_line, closing, has_closing, peer_numbers, unasked, unasked_in, unasked_of}
use Rattle.pp_desk.specs.Shutting.{is_any_over, seats_left, stays}
use Rattle.pp_desk.specs.declared.desk.Desk.{Desk}
use Rattle.pp_seats.specs.declared.seat.Seat.{Seat}
use Rattle.pp_state.specs.Ends.{AreInOrder, AreSeated, Parts, changed_at, left_source, numbers_of, source_at, unfollowed, without_source}
use Rattle.pp_state.specs.Lines.{lost_line}
use Rattle.pp_state.specs.declared.state.State.{State}
use Rattle.pp_state.proofs.NumbersLemmas.{Above, above_none, in_order, lower}
use Rattle.pp_state.proofs.SeatsLemmas.{changed_numbers as seats_changed_numbers}

pub none_closing : (is_end : Bool) (ps : List Peer) → has_closing (filter (goes_on is_end) ps) ≡ false
none_closing is_end [] = refl
none_closing is_end (p ∷ ps) = by is_end p.is_closing refl (none_closing is_end ps)
  where
    left : Bool → List Peer
    left over = cond (not over) (p ∷ filter (goes_on is_end) ps) (filter (goes_on is_end) ps)

    by : (e v : Bool) → p.is_closing ≡ v → has_closing (filter (goes_on is_end) ps) ≡ false → has_closing (left (e || p.is_closing)) ≡ false
    by true v at below = below
    by false true at below = ap (λ b. has_closing (left b)) at ∙ below
    by false false at below = ap (λ b. has_closing (left b)) at ∙ ap (λ b. b || has_closing (filter (goes_on is_end) ps)) at ∙ below

-- where its cause had not come yet, its line is lost
pub line_lost : (k : ℕ) (counts : Bool) (o : Option Peer) (peer : Peer) (p : Parts) → o ≡ Some peer → peer.is_closing ≡ false → closed_line k counts o p ≡ lost_line 1024 k (counts && not peer.has_brought) p
line_lost k counts o peer p found goes =
    ap (λ (x : Option Peer). closed_line k counts x p) found ∙ ap (λ (b : Bool). if b then p else lost_line 1024 k (counts && not peer.has_brought) p) goes

-- ---- numbers stay

-- a peer that is changed keeps its number
pub changed_numbers : (k : ℕ) (old new : Peer) (peers : List Peer) → find (is_number k) peers ≡ Some old → new.number ≡ old.number → peer_numbers (with_peer k new peers) ≡ peer_numbers peers
changed_numbers k old new [] found same = refl
changed_numbers k old new (peer ∷ peers) found same = by (is_number k peer) found (λ rest. changed_numbers k old new peers rest same)
  where
    by : (b : Bool) → cond b (Some peer) (find (is_number k) peers) ≡ Some old → (find (is_number k) peers ≡ Some old → peer_numbers (with_peer k new peers) ≡ peer_numbers peers)
        → peer_numbers (cond b (new ∷ peers) (peer ∷ with_peer k new peers)) ≡ peer_numbers (peer ∷ peers)
    by true here go = let is : peer ≡ old = cc in ap (λ n. n ∷ peer_numbers peers) (same ∙ sym (ap (λ (p : Peer). p.number) is))
    by false rest go = ap (λ ns. peer.number ∷ ns) (go rest)

pub piped_numbers : (k : ℕ) (line : Line) (peers : List Peer) → peer_numbers (with_pipe k line peers) ≡ peer_numbers peers
piped_numbers k line [] = refl
piped_numbers k line (peer ∷ peers) = by (is_number k peer) (piped_numbers k line peers)
  where
    by : (b : Bool) → peer_numbers (with_pipe k line peers) ≡ peer_numbers peers → peer_numbers (cond b (record peer { pipe = line } ∷ peers) (peer ∷ with_pipe k line peers)) ≡ peer_numbers (peer ∷ peers)
    by true same = refl
    by false same = ap (λ ns. peer.number ∷ ns) same

pub unasked_numbers : (k place : ℕ) (peers : List Peer) → peer_numbers (unasked_of k place (find (is_number k) peers) peers) ≡ peer_numbers peers
unasked_numbers k place peers = by (find (is_number k) peers)
  where
    by : (o : Option Peer) → peer_numbers (unasked_of k place o peers) ≡ peer_numbers peers
    by None = refl
    by (Some peer) = piped_numbers k (unasked place peer.pipe) peers

pub closed_numbers : (k : ℕ) (peers : List Peer) → peer_numbers (closing k (find (is_number k) peers) peers) ≡ peer_numbers peers
closed_numbers k peers = by (find (is_number k) peers) refl
  where
    now : (b : Bool) (peer : Peer) → find (is_number k) peers ≡ Some peer → peer_numbers (cond b peers (with_peer k (record peer { is_closing = true }) peers)) ≡ peer_numbers peers
    now true peer at = refl
    now false peer at = changed_numbers k peer (record peer { is_closing = true }) peers at refl

    by : (o : Option Peer) → find (is_number k) peers ≡ o → peer_numbers (closing k o peers) ≡ peer_numbers peers
    by None at = refl
    by (Some peer) at = now peer.is_closing peer at

-- ---- an ask that is taken out

pub none_unasked : (place : ℕ) (line : Line) → length line.asks ≤ place → unasked place line ≡ line
none_unasked place line past = ap (λ (o : Option Ask). unasked_in (begun_in o) place line) (slice_get_past line.asks place past)
  where
    begun_in : Option Ask → Option Bool
    begun_in o = elim o [ Some ask ↦ Some ask.is_begun | None ↦ None ]

-- ---- clients

unfollowing_number : (seat : Seat) → (without_source seat).client.id ≡ seat.client.id
unfollowing_number seat = refl

-- a client that follows nothing any more keeps its number
pub left_numbers : (i : ℕ) (p : Parts) → numbers_of (left_source i p).seats ≡ numbers_of p.seats
left_numbers i p = by (source_at i p)
  where
    by : (o : Option ObjectId) → numbers_of (elim o as (λ y. Parts) [ None ↦ p | Some id ↦ record p { seats = changed_at i without_source p.seats; cache = unfollowed id p.cache } ]).seats ≡ numbers_of p.seats
    by None = refl
    by (Some id) = seats_changed_numbers i without_source p.seats unfollowing_number

pub none_changed : (i : ℕ) (f : Seat → Seat) (seats : List Seat) → length seats ≤ i → changed_at i f seats ≡ seats
none_changed i f seats past = ap (λ (x : Option Seat). elim x [ None ↦ seats | Some s ↦ slice_set seats i (f s) ]) (slice_get_past seats i past)

-- ---- clients that stay

above_kept : (test : Seat → Bool) (low : ℕ) (seats : List Seat) → Above low (numbers_of seats) → Above low (numbers_of (filter test seats))
above_kept test low [] up = tt
above_kept test low (seat ∷ seats) up = by (test seat) (above_kept test (seat.client.id + 1) seats up.1)
  where
    by : (b : Bool) → Above (seat.client.id + 1) (numbers_of (filter test seats)) → Above low (numbers_of (cond b (seat ∷ filter test seats) (filter test seats)))
    by true rest = (up.0, rest)
    by false rest = lower low (seat.client.id + 1) (numbers_of (filter test seats)) (omega (arith, up.0)) rest

-- those of some clients stand in the order in which those of all did
pub order_kept : (test : Seat → Bool) (seats : List Seat) → AreInOrder (numbers_of seats) → AreInOrder (numbers_of (filter test seats))
order_kept test seats order = in_order 0 (numbers_of (filter test seats)) (above_kept test 0 seats (above_none (numbers_of seats) order))

pub left_in_order : (s : State) → AreSeated s → AreInOrder (numbers_of (seats_left s))
left_in_order s seated = by (is_any_over s)
  where
    by : (b : Bool) → AreInOrder (numbers_of (cond b (filter (stays s.is_stopped) s.seats.items) s.seats.items))
    by true = order_kept (stays s.is_stopped) s.seats.items seated
    by false = seated

-- ---- all else stays, one step behind the other

pub kept_then : (old mid new : Desk) → KeepsDesk old mid → KeepsDesk mid new → KeepsDesk old new
kept_then old mid new one two =
    ap (λ (d : Desk). record d { state = record d.state { seats = old.state.seats; flow = old.state.flow; cache = old.state.cache; refused = old.state.refused; is_astray = old.state.is_astray }; peers = old.peers }) two ∙ one
