-- The wait may come, and leads on.
use Rattle.std.proofs.Common.{◌≡◌, refl, sym, subst, ap, ap₂, ◌∙◌, ℕ, zero, suc, Bool, true, false, not, ◌||◌, ◌==◌, cond, filter, take, nat_lt, length, List, [], ◌∷◌, ◌++◌, Option, Some, None}
use Rattle.std.specs.List.{fold}
use Rattle.std.specs.Prelude.{slice_get}
use Rattle.pp_cache_law.proofs.Numbers.{some_is}
use Rattle.pp_desk.specs.Closings.{peer_numbers}
use Rattle.pp_desk.specs.declared.desk.Desk.{Desk}
use Rattle.pp_due.specs.Waits.{all_read, is_read, read_before, with_read, with_read_of, with_written_by}
use Rattle.pp_law.specs.After.{changed}
use Rattle.pp_law.specs.Lists.{has_number}
use Rattle.pp_law.specs.Permits.{permits}
use Rattle.pp_law.specs.Phases.{ending}
use Rattle.pp_law.specs.State.{State}
use Rattle.pp_law.specs.Turn.{rest_with}
use Rattle.pp_obeys.proofs.Calls.{moves_to}
use Rattle.pp_obeys.proofs.Happenings.{goes_by}
use Rattle.pp_obeys.specs.Moves.{Goes, Leads}
use Rattle.pp_peers.specs.declared.peers.Peer.{Peer}
use Rattle.pp_proxy.specs.Awaiting.{Awaits, Rests, loud_of}
use Rattle.pp_seats.specs.declared.seat.Seat.{Seat}
use Rattle.pp_state.specs.Ends.{AreInOrder, AreSeated, Parts, numbers_of, parts}
use Rattle.pp_state.specs.Numbers.{with_number, with_read_by}
use Rattle.pp_state.specs.declared.state.State.{State as Turn}
use Rattle.pp_waits_law.proofs.Left.{wants_leave}
use Rattle.pp_waits_law.proofs.Like.{none_some}
use Rattle.pp_waits_law.proofs.Rested.{rests_as_law}
use Rattle.pp_waits_law.specs.Rests.{HasRested, StandBehind, StandsLoud}
use Rattle.pp_waits_law.specs.Waits.{ClientsStandFirst, HasWaited, IsApart, MayWait, WaitsLead}
use Rattle.pp_wants.specs.Awaited.{all_got, is_read as is_got, with_got}
use Rattle.pp_world.specs.declared.event.Wants.{Wants}
use Rattle.pp_world.specs.declared.happening.Happening.TheVariants.{Waits}

-- ---- origins come behind

take_front : (xs ys : List ℕ) → take (length xs) (xs ++ ys) ≡ xs
take_front [] ys = none_taken ys
  where
    none_taken : (zs : List ℕ) → take 0 zs ≡ []
    none_taken [] = refl
    none_taken (z ∷ zs) = refl
take_front (x ∷ xs) ys = ap (λ (ns : List ℕ). x ∷ ns) (take_front xs ys)

record Adds (ms ns : List ℕ) : Type 0 where
  more : List ℕ
  is : ns ≡ ms ++ more

nothing : (ms : List ℕ) → ms ≡ ms ++ []
nothing [] = refl
nothing (m ∷ ms) = ap (λ (ns : List ℕ). m ∷ ns) (nothing ms)

pub grouped : (xs ys zs : List ℕ) → (xs ++ ys) ++ zs ≡ xs ++ (ys ++ zs)
grouped [] ys zs = refl
grouped (x ∷ xs) ys zs = ap (λ (ns : List ℕ). x ∷ ns) (grouped xs ys zs)

none_added : (ms : List ℕ) → Adds ms ms
none_added ms = record { more = []; is = nothing ms }

one_added : (b : Bool) (n : ℕ) (ms : List ℕ) → Adds ms (with_written_by b n ms)
one_added false n ms = none_added ms
one_added true n ms = by (nat_lt (length ms) 320)
  where
    by : (c : Bool) → Adds ms (cond c (ms ++ n ∷ []) ms)
    by true = record { more = n ∷ []; is = refl }
    by false = none_added ms

all_added : (awake : List ℕ) (p : Parts) (peers : List Peer) (ms : List ℕ) → Adds ms (all_got awake p peers ms)
all_added awake p [] ms = none_added ms
all_added awake p (peer ∷ peers) ms =
    let one : Adds ms (with_got awake p ms peer) = one_added (is_got awake p peer) peer.number ms in
    let rest : Adds (with_got awake p ms peer) (all_got awake p peers (with_got awake p ms peer)) = all_added awake p peers (with_got awake p ms peer) in
    record { more = one.more ++ rest.more; is = rest.is ∙ ap (λ (ns : List ℕ). ns ++ rest.more) one.is ∙ grouped ms one.more rest.more }

-- ---- and clients first

put_out : (n m : ℕ) (ms : List ℕ) → (m == n) ≡ false → has_number n ms ≡ false → has_number n (with_number m ms) ≡ false
put_out n m [] isnt out = ap (λ (b : Bool). b || false) isnt
put_out n m (k ∷ ms) isnt out = by (nat_lt m k) (k == m) (put_out n m ms isnt)
  where
    rest : (b : Bool) → (b || has_number n ms) ≡ false → (has_number n ms ≡ false → has_number n (with_number m ms) ≡ false) → (b || has_number n (with_number m ms)) ≡ false
    rest true none later = absurd (cc none)
    rest false none later = later none

    by : (b c : Bool) → (has_number n ms ≡ false → has_number n (with_number m ms) ≡ false) → has_number n (cond b (m ∷ k ∷ ms) (cond c (k ∷ ms) (k ∷ with_number m ms))) ≡ false
    by true c later = ap (λ (b : Bool). b || has_number n (k ∷ ms)) isnt ∙ out
    by false true later = out
    by false false later = rest (k == n) out later

left_out : (n : ℕ) (f : ℕ → Bool) (ms : List ℕ) → has_number n ms ≡ false → has_number n (filter f ms) ≡ false
left_out n f [] out = out
left_out n f (m ∷ ms) out = by (f m) (m == n) refl out (λ rest. left_out n f ms rest)
  where
    by : (b c : Bool) → (m == n) ≡ c → (c || has_number n ms) ≡ false → (has_number n ms ≡ false → has_number n (filter f ms) ≡ false) → has_number n (cond b (m ∷ filter f ms) (filter f ms)) ≡ false
    by b true is none rest = absurd (cc none)
    by true false is none rest = ap (λ (b : Bool). b || has_number n (filter f ms)) is ∙ rest none
    by false false is none rest = rest none

read_out : (n : ℕ) (b : Bool) (m : ℕ) (ms : List ℕ) → (m == n) ≡ false → has_number n ms ≡ false → has_number n (with_read_by b m ms) ≡ false
read_out n false m ms isnt out = left_out n (λ k. not (k == m)) ms out
read_out n true m ms isnt out = by (nat_lt (length ms) 320)
  where
    by : (c : Bool) → has_number n (cond c (with_number m ms) ms) ≡ false
    by true = put_out n m ms isnt out
    by false = out

pub seat_out : (n : ℕ) (seats : List Seat) (i : ℕ) (seat : Seat) → has_number n (numbers_of seats) ≡ false → slice_get seats i ≡ Some seat → (seat.client.id == n) ≡ false
seat_out n [] i seat out at = absurd (none_some at)
seat_out n (first ∷ seats) zero seat out at = by (first.client.id == n) refl out
  where
    by : (b : Bool) → (first.client.id == n) ≡ b → (b || has_number n (numbers_of seats)) ≡ false → (seat.client.id == n) ≡ false
    by true is none = absurd (cc none)
    by false is none = ap (λ (x : Seat). x.client.id == n) (sym (some_is first seat at)) ∙ is
seat_out n (first ∷ seats) (suc i) seat out at = by (first.client.id == n) out (λ none. seat_out n seats i seat none at)
  where
    by : (b : Bool) → (b || has_number n (numbers_of seats)) ≡ false → (has_number n (numbers_of seats) ≡ false → (seat.client.id == n) ≡ false) → (seat.client.id == n) ≡ false
    by true none rest = absurd (cc none)
    by false none rest = rest none

all_out : (n : ℕ) (seats : List Seat) (is : List ℕ) (ms : List ℕ) → has_number n (numbers_of seats) ≡ false → has_number n ms ≡ false → has_number n (fold (with_read seats) ms is) ≡ false
all_out n seats [] ms away out = out
all_out n seats (i ∷ is) ms away out = all_out n seats is (with_read seats ms i) away (by (slice_get seats i) refl)
  where
    by : (o : Option Seat) → slice_get seats i ≡ o → has_number n (with_read_of o ms) ≡ false
    by None none = out
    by (Some seat) here = read_out n (is_read seat) seat.client.id ms (seat_out n seats i seat away here) out

before_out : (n : ℕ) (b : Bool) (ms : List ℕ) → has_number n ms ≡ false → has_number n (cond b [] ms) ≡ false
before_out n true ms out = refl
before_out n false ms out = out

pub all_read_out : (n : ℕ) (before : List ℕ) (q : Turn) → has_number n (numbers_of q.seats.items) ≡ false → has_number n before ≡ false → has_number n (all_read q before) ≡ false
all_read_out n before q away out = all_out n q.seats.items q.awake.items (read_before q before) away (before_out n (length q.awake.items == length q.seats.items) before out)

-- of those that are read, the clients
pub clients_taken : (before : List ℕ) (w : Wants) (clients : ℕ) (d e : Desk) → AreSeated d.state → AreInOrder before → Awaits before w clients d e → take clients w.read.items ≡ all_read d.state before
clients_taken before w clients d e seated order awaits =
    ap₂ (λ (n : ℕ) (ns : List ℕ). take n ns) (awaits.first order) (awaits.read seated order ∙ added.is) ∙ take_front (all_read d.state before) added.more
  where
    added : Adds (all_read d.state before) (all_got (loud_of d) (parts d.state) d.peers (all_read d.state before))
    added = all_added (loud_of d) (parts d.state) d.peers (all_read d.state before)

pub stand_first : ClientsStandFirst
stand_first before w clients d e seated order apart awaits i peer here =
    ap (λ (ns : List ℕ). has_number peer.number ns) (clients_taken before w clients d e seated order awaits) ∙ all_read_out peer.number before d.state its.clients its.read
  where
    its : IsApart before d peer
    its = apart i peer here

-- ---- the wait

goes_waiting : (s : State) (w : Wants) → s.made_room_for ≡ None → permits s (Waits w) ≡ true → Goes s (Waits w) (rest_with w (ending s))
unfolding changed
goes_waiting s w none may = goes_by none may refl

module _ (number : ℕ → ℕ) (before : List ℕ) (w : Wants) (clients : ℕ) (d e f : Desk) (s : State) (may : MayWait number before w d s) (awaits : Awaits before w clients d e) (rests : Rests w clients e f) where
  permitted : permits s (Waits w) ≡ true
  unfolding permits
  permitted = may.permitted

  leads : Leads (Waits w ∷ []) s (rest_with w (ending s))
  leads = moves_to refl (goes_waiting s w may.none permitted) refl

  same_peers : e.peers ≡ d.peers
  same_peers = ap (λ (x : Desk). x.peers) awaits.rest

  behind : StandBehind e.peers w clients
  behind = subst (λ (ps : List Peer). StandBehind ps w clients) (sym same_peers) (stand_first before w clients d e may.stands.turn.steps.order may.order may.apart awaits)

  loud : StandsLoud number e (ending s)
  loud = wants_leave number before w clients d e (ending s) may.stands awaits

  its : HasRested number e f (ending s) (rest_with w (ending s))
  its = rests_as_law number w clients e f (ending s) loud behind rests

  waited : HasWaited number w d f s
  waited = record {
    leads = leads;
    rested = record {
      turn = its.turn;
      ready = its.ready;
      awake = its.awake;
      closed = its.closed;
      still = its.still;
      ticked = its.ticked ∙ ap (λ (x : Desk). x.state.has_ticked) awaits.rest;
      clients = its.clients ∙ ap (λ (xs : List Seat). numbers_of xs) awaits.seats;
      origins = its.origins ∙ ap (λ (ps : List Peer). peer_numbers ps) same_peers;
      at = its.at;
      owes = its.owes;
      none = its.none;
      has_ticked = its.has_ticked;
      top = its.top;
    };
  }

pub waits_lead : WaitsLead
waits_lead number before w clients d e f s may awaits rests = waited number before w clients d e f s may awaits rests
