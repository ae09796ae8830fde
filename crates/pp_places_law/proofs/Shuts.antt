-- All that are closing leave the log's connections: clients, and then connections to origins.
use Rattle.std.proofs.Common.{◌≡◌, ◌<◌, ◌≤◌, ◌+◌, refl, sym, subst, ap, ap₂, ◌∙◌, ℕ, zero, suc, Bool, true, false, not, ◌==◌, ◌&&◌, ◌||◌, cond, filter, find, length, map, List, [], ◌∷◌, ◌++◌, Some, None, Option, arith}
use Rattle.std.proofs.lemmas.Bool.Decides.{nat_tests}
use Rattle.std.proofs.lemmas.List.{append_assoc}
use Rattle.std.specs.List.{cons_option, filter_map, fold, list_any}
use Rattle.std.specs.Prelude.{slice_get, ⊤}
use Rattle.pp_cache_law.proofs.Finds.{find_kept, find_out}
use Rattle.pp_cache_law.proofs.Numbers.{some_is}
use Rattle.pp_turns_law.proofs.Gone.{closing_if, quit_clients, quit_exchanges, quitting}
use Rattle.pp_turns_law.proofs.AllDropped.{closing_drop, stays as stays_there}
use Rattle.pp_turns_law.proofs.Own.{law_none}
use Rattle.pp_turns_law.proofs.Quit.{closing_client}
use Rattle.pp_turns_law.proofs.Shutting.{shuts}
use Rattle.pp_turns_law.specs.Log.{AreDropped, AreLinked, IsConnecting, MayCome}
use Rattle.pp_turns_law.specs.Sides.{ShowsSides}
use Rattle.pp_turns_law.proofs.Sitting.{is_at}
use Rattle.pp_desk.specs.Closings.{Sides}
use Rattle.pp_desk.specs.Shutting.{closed_as, closings, is_any_over, over_client, over_clients, over_peers, seats_left, stays}
use Rattle.pp_flow_law.proofs.Entries.{none_some, other_way, same_number}
use Rattle.pp_flow_law.specs.Tables.{AreGiven}
use Rattle.pp_law.specs.After.{after, changed, dropped, out, shut}
use Rattle.pp_law.specs.Closing.{close_client, is_of}
use Rattle.pp_law.specs.Connections.{client, conn, is_client, on_client, placing}
use Rattle.pp_law.specs.Lists.{Bytes, has_number, without}
use Rattle.pp_law.specs.Permits.{IsPermitted}
use Rattle.pp_law.specs.State.{State, Client, Conn, Exchange}
use Rattle.pp_law.specs.Table.{swept}
use Rattle.pp_links.specs.Links.{Link, is_link, is_other, without as without_link}
use Rattle.pp_obeys.proofs.Frames.{Frame, frame, frame_of, stays as frame_stays}
use Rattle.pp_obeys.proofs.Moving.{leads_then}
use Rattle.pp_obeys.proofs.StaysTable.{close_client-stays}
use Rattle.pp_obeys.proofs.StaysTurns.{placing-frame}
use Rattle.pp_obeys.specs.Failures.{wakes}
use Rattle.pp_obeys.specs.Moves.{Leads}
use Rattle.pp_peers.specs.Peers.{goes_on}
use Rattle.pp_peers.specs.declared.peers.Peer.{Peer}
use Rattle.pp_peers_law.proofs.Finds.{no_or}
use Rattle.pp_peers_law.specs.Asked.{AreDistinct}
use Rattle.pp_peers_law.specs.Peers.{ShowConns}
use Rattle.pp_seats.specs.Heads.{is_there_in}
use Rattle.pp_seats.specs.Seats.{is_silent, is_undecided_in}
use Rattle.pp_seats.specs.declared.seat.Seat.{Seat}
use Rattle.pp_seats_law.proofs.AllSeats.{places}
use Rattle.pp_seats_law.specs.Clients.{AreShown, IsAt, IsFound, IsNowhere}
use Rattle.pp_state.specs.Ends.{AreInOrder, numbers_of, parts}
use Rattle.pp_state.specs.declared.state.State.{State as Turn}
use Rattle.pp_turns_law.specs.Firsts.{AreAwake}
use Rattle.pp_world.specs.Log.{Log}
use Rattle.pp_world.specs.Wire.{by_side}
use Rattle.pp_world.specs.declared.event.Side.{Side}
use Rattle.pp_world.specs.declared.event.Side.TheVariants.{Client as OfClient, Origin}
use Rattle.pp_world.specs.declared.happening.Happening.TheVariants.{Dropped, Shut}
use Rattle.pp_places_law.specs.Closings.{AreOpen, ClosingsAreTheLaws, MayShut, StaysOn, sides_of}

-- ---- one is shut

abbrev shut_of : ℕ → State → State
shut_of n u = record u { clients = without (is_client n) u.clients }

goes : (s : State) (n : ℕ) → IsConnecting s → find (is_of n) s.exchanges ≡ None → after s (Shut n) ≡ shut_of n (quitting n false s)
unfolding changed shut
goes s n is none = ap (λ (t : State). shut_of n (close_client n false t)) (stays_there s is) ∙ ap (λ (t : State). shut_of n t) (law_none n false s none)

-- what connections and clients do not show stays
client_frame : (n : ℕ) (s : State) → IsConnecting s → frame false (after s (Shut n)) ≡ frame false s
unfolding changed shut
client_frame n s is = ap (λ (t : State). frame false (close_client n false t)) (stays_there s is) ∙ frame_of {all = false} (close_client-stays n false s (frame_stays refl))

out_frame : (n : ℕ) (s : State) → frame false (out n s) ≡ frame false s
unfolding out
out_frame n s = refl

conn_frame : (n : ℕ) (s : State) → IsConnecting s → frame false (after s (Dropped n)) ≡ frame false s
unfolding changed dropped
conn_frame n s is = ap (λ (t : State). frame false (dropped n t)) (stays_there s is) ∙ by (conn s n)
  where
    at : (b : Bool) → frame false (elim b as (λ t. State) [ true ↦ out n s | false ↦ out n (placing s).state ]) ≡ frame false s
    at true = out_frame n s
    at false = out_frame n (placing s).state ∙ placing-frame false s

    by : (o : Option Conn) → frame false (elim o as (λ t. State) [ None ↦ s | Some k ↦ elim k.is_closing as (λ t. State) [ true ↦ out n s | false ↦ out n (placing s).state ] ]) ≡ frame false s
    by None = refl
    by (Some k) = at k.is_closing

side_frame : (n : ℕ) (side : Side) (s : State) → IsConnecting s → frame false (after s (by_side (Some side) (Shut n) (Dropped n))) ≡ frame false s
side_frame n OfClient s is = client_frame n s is
side_frame n Origin s is = conn_frame n s is

connecting_still : (s t : State) → IsConnecting s → frame false t ≡ frame false s → IsConnecting t
connecting_still s t is same = record { at = ap (λ (f : Frame). f.phase) same ∙ is.at; none = ap (λ (f : Frame). f.made_room_for) same ∙ is.none }

closings_frame : (ids : List ℕ) (links : List Link) (s : State) → IsConnecting s → frame false (fold after s (closings ids links)) ≡ frame false s
closings_frame [] links s is = refl
closings_frame (id ∷ ids) links s is = by (find (is_link id) links) (λ t at. closings_frame ids (without_link id links) t at)
  where
    by : (o : Option Link) → ((t : State) → IsConnecting t → frame false (fold after t (closings ids (without_link id links))) ≡ frame false t) → frame false (fold after s (closed_as o ++ closings ids (without_link id links))) ≡ frame false s
    by None rest = rest s is
    by (Some link) rest =
        let same : frame false (after s (by_side (Some link.1) (Shut link.0) (Dropped link.0))) ≡ frame false s = side_frame link.0 link.1 s is in
        rest (after s (by_side (Some link.1) (Shut link.0) (Dropped link.0))) (connecting_still s (after s (by_side (Some link.1) (Shut link.0) (Dropped link.0))) is same) ∙ same

stays_on : (s t : State) → IsConnecting s → frame false t ≡ frame false s → StaysOn s t
stays_on s t is same = record {
  connecting = connecting_still s t is same;
  settings = ap (λ (f : Frame). f.settings) same;
  clock = ap (λ (f : Frame). f.clock) same;
  ticked = ap (λ (f : Frame). f.is_ticked) same;
  stopped = ap (λ (f : Frame). f.is_stopped) same;
  top = ap (λ (f : Frame). f.top) same;
}

still_connecting : (s : State) (n : ℕ) → IsConnecting s → IsConnecting (shut_of n (quitting n false s))
unfolding swept on_client
still_connecting s n is = record { at = is.at; none = is.none }

find_other : (n m : ℕ) (cs : List Client) → (m == n) ≡ false → find (is_client m) (map (closing_if n false) cs) ≡ find (is_client m) cs
find_other n m [] off = refl
find_other n m (c ∷ cs) off = by (is_client n c) refl (find_other n m cs off)
  where
    by : (b : Bool) → is_client n c ≡ b → find (is_client m) (map (closing_if n false) cs) ≡ find (is_client m) cs
        → find (is_client m) ((elim b as (λ t. Client) [ true ↦ closing_client false c | false ↦ c ]) ∷ map (closing_if n false) cs) ≡ find (is_client m) (c ∷ cs)
    by true is rest =
        ap (λ (b : Bool). cond b (Some (closing_client false c)) (find (is_client m) (map (closing_if n false) cs))) (isnt is)
        ∙ rest
        ∙ sym (ap (λ (b : Bool). cond b (Some c) (find (is_client m) cs)) (isnt is))
      where
        isnt : is_client n c ≡ true → is_client m c ≡ false
        isnt same = ap (λ (i : ℕ). i == m) (same_number c.number n same) ∙ other_way m n off
    by false is rest = ap (λ (o : Option Client). cond (is_client m c) (Some c) o) rest

left_found : (n m : ℕ) (cs : List Client) (c : Client) → find (is_client m) (without (is_client n) (map (closing_if n false) cs)) ≡ Some c → find (is_client m) cs ≡ Some c
left_found n m cs c found = by (m == n) refl
  where
    not_so : (b : Bool) → not b ≡ true → b ≡ false
    not_so true is = absurd (let bad : false ≡ true = is in cc bad)
    not_so false is = refl

    by : (b : Bool) → (m == n) ≡ b → find (is_client m) cs ≡ Some c
    by true is =
        absurd
        (none_some c
        (sym (find_out (is_client m) (λ d. not (is_client n d)) (map (closing_if n false) cs) (λ d out. ap (λ (i : ℕ). d.number == i) (same_number m n is) ∙ not_so (is_client n d) out)) ∙ found))
    by false off =
        sym (find_other n m cs off)
        ∙ sym (find_kept (is_client m) (λ d. not (is_client n d)) (map (closing_if n false) cs) (λ d is. ap not (ap (λ (i : ℕ). i == n) (same_number d.number m is) ∙ off)))
        ∙ found

still_alone : (s : State) (n : ℕ) → MayShut s → MayShut (shut_of n (quitting n false s))
still_alone s n may = record {
  connecting = still_connecting s n may.connecting;
  alone = λ m c there closing.
      ap (λ (es : List Exchange). find (is_of m) es) (quit_exchanges n false s)
      ∙ may.alone m c (left_found n m s.clients c (sym (ap (λ (cs : List Client). find (is_client m) (without (is_client n) cs)) (quit_clients n false s)) ∙ there)) closing;
}

-- ---- all that are over

abbrev closers : List Seat → List ℕ
closers seats = map (λ (seat : Seat). seat.client.id) (filter (λ seat. seat.is_closing) seats)

abbrev isnt_it : ℕ → Seat → Bool
isnt_it n seat = not (seat.client.id == n)

-- each is there, and is closing
record IsOver (n : ℕ) (seats : List Seat) : Type 0 where
  place : ℕ
  seat : Seat
  here : slice_get seats place ≡ Some seat
  closing : seat.is_closing ≡ true
  number : seat.client.id ≡ n

abbrev AreOver : List ℕ → List Seat → Type 0
AreOver [] seats = ⊤
AreOver (n ∷ ns) seats = IsOver n seats × AreOver ns seats

record IsGot (seats : List Seat) (seat : Seat) : Type 0 where
  place : ℕ
  here : slice_get seats place ≡ Some seat

got_kept : (q : Seat → Bool) (seats : List Seat) (i : ℕ) (seat : Seat) → slice_get seats i ≡ Some seat → q seat ≡ true → IsGot (filter q seats) seat
got_kept q [] i seat here holds = absurd (none_some seat here)
got_kept q (first ∷ seats) zero seat here holds =
    let so : q first ≡ true = ap q (some_is first seat here) ∙ holds in
    subst (λ (b : Bool). IsGot (cond b (first ∷ filter q seats) (filter q seats)) seat) (sym so) (record { place = 0; here = here })
got_kept q (first ∷ seats) (suc i) seat here holds = by (q first) (got_kept q seats i seat here holds)
  where
    by : (b : Bool) → IsGot (filter q seats) seat → IsGot (cond b (first ∷ filter q seats) (filter q seats)) seat
    by true got = record { place = suc got.place; here = got.here }
    by false got = got

still_over : (n : ℕ) (ns : List ℕ) (seats : List Seat) → has_number n ns ≡ false → AreOver ns seats → AreOver ns (filter (isnt_it n) seats)
still_over n [] seats none all = tt
still_over n (m ∷ ns) seats none all =
    let these : ((m == n) ≡ false) × (has_number n ns ≡ false) = no_or (m == n) (has_number n ns) none in
    let got : IsGot (filter (isnt_it n) seats) all.0.seat = got_kept (isnt_it n) seats all.0.place all.0.seat all.0.here (ap (λ (i : ℕ). not (i == n)) all.0.number ∙ ap not these.0) in
    (record { place = got.place; seat = all.0.seat; here = got.here; closing = all.0.closing; number = all.0.number }, still_over n ns seats these.1 all.1)

abbrev shut_in : List ℕ → Log
shut_in ns = map (λ n. Shut n) ns

abbrev without_clients : List ℕ → List Seat → List Seat
without_clients ns seats = fold (λ left n. filter (isnt_it n) left) seats ns

abbrev sides_with : Sides → List Seat → Sides
sides_with x seats = record x { parts = record x.parts { seats = seats } }

record AllShut (number : ℕ → ℕ) (name : Bytes) (ns : List ℕ) (x : Sides) (s : State) : Type 0 where
  state : State
  leads : Leads (shut_in ns) s state
  shows : ShowsSides number name (sides_with x (without_clients ns x.parts.seats)) state
  may : MayShut state
  same : frame false state ≡ frame false s

each_shut : (number : ℕ → ℕ) (name : Bytes) (ns : List ℕ) (x : Sides) (s : State) → ShowsSides number name x s → MayShut s → AreDistinct ns → AreOver ns x.parts.seats → AllShut number name ns x s
each_shut number name [] x s shows may once over = record { state = s; leads = refl; shows = shows; may = may; same = refl }
each_shut number name (n ∷ ns) x s shows may once over =
    let same : after s (Shut n) ≡ shut_of n (quitting n false s) = goes s n may.connecting none_asks in
    let rest : AllShut number name ns (sides_with x (filter (isnt_it n) x.parts.seats)) (after s (Shut n)) =
    each_shut number name ns (sides_with x (filter (isnt_it n) x.parts.seats)) (after s (Shut n)) one.1 (subst (λ (t : State). MayShut t) (sym same) (still_alone s n may)) once.1 (still_over n ns x.parts.seats once.0 over.1) in
    record {
      state = rest.state;
      leads = record { awake = refl; may = λ failed. one.0; holds = rest.leads };
      shows = rest.shows;
      may = rest.may;
      same = rest.same ∙ client_frame n s may.connecting;
    }
  where
    its : IsOver n x.parts.seats
    its = over.0

    its_client : (c : Client) → client s n ≡ Some c → c.is_closing ≡ true → find (is_of n) s.exchanges ≡ None
    its_client c there closing = may.alone n c there closing

    none_asks : find (is_of n) s.exchanges ≡ None
    none_asks =
        let at : IsAt its.seat.client.id its.place x.parts.seats = is_at its.place x.parts.seats its.seat shows.steps.order its.here in
        let found : IsFound number name [] its.seat its.seat.client.id s.clients = places number name [] x.parts.seats s.clients its.seat.client.id its.place its.seat shows.steps.shows.clients at its.here in
        its_client found.client (ap (λ (i : ℕ). client s i) (sym its.number) ∙ found.there) (sym found.shows.closing ∙ its.closing)

    one : IsPermitted s (Shut n) × ShowsSides number name (sides_with x (filter (isnt_it n) x.parts.seats)) (after s (Shut n))
    one =
        subst (λ (i : ℕ). IsPermitted s (Shut i) × ShowsSides number name (sides_with x (filter (isnt_it i) x.parts.seats)) (after s (Shut i))) its.number
        (shuts number name x s shows its.place its.seat may.connecting (record { here = its.here; closing = its.closing; alone = ap (λ (i : ℕ). find (is_of i) s.exchanges) its.number ∙ none_asks }))

-- ---- those that are looked at are all

get_behind : (pre seats : List Seat) (seat : Seat) → slice_get (pre ++ seat ∷ seats) (length pre) ≡ Some seat
get_behind [] seats seat = refl
get_behind (first ∷ pre) seats seat = get_behind pre seats seat

long : (pre : List Seat) (seat : Seat) → length (pre ++ seat ∷ []) ≡ length pre + 1
long [] seat = refl
long (first ∷ pre) seat = omega (arith, long pre seat)

abbrev ones : List Seat → List ℕ → List ℕ
ones all is = filter_map (λ i. over_client false (slice_get all i)) is

given_from : (low next : ℕ) (ns : List ℕ) → AreGiven low next ns → low ≤ next
given_from low next [] given = given
given_from low next (n ∷ ns) given = omega (arith, given.0, given_from (n + 1) next ns given.1)

not_in : (low next n : ℕ) (ns : List ℕ) → n < low → AreGiven low next ns → has_number n ns ≡ false
not_in low next n [] less given = refl
not_in low next n (m ∷ ns) less given = ap₂ (λ (a b : Bool). a || b) (isnt m n (omega (arith, less, given.0))) (not_in (m + 1) next n ns (omega (arith, less, given.0)) given.1)
  where
    isnt : (a b : ℕ) → b < a → (a == b) ≡ false
    isnt a b is = grind (arith, nat_tests)

-- whoever is not looked at goes on
abbrev OthersGoOn : List Seat → List ℕ → Type 0
OthersGoOn all is = (i : ℕ) (seat : Seat) → slice_get all i ≡ Some seat → has_number i is ≡ false → seat.is_closing ≡ false

-- the places from this one on
ones_more : (pre : List Seat) (seat : Seat) (seats : List Seat) (is : List ℕ) (next : ℕ) → next ≡ length pre + length (seat ∷ seats)
    → ((ms : List ℕ) → AreGiven (length (pre ++ seat ∷ [])) next ms → ((i : ℕ) (other : Seat) → length (pre ++ seat ∷ []) ≤ i → slice_get ((pre ++ seat ∷ []) ++ seats) i ≡ Some other → has_number i ms ≡ false → other.is_closing ≡ false) → ones ((pre ++ seat ∷ []) ++ seats) ms ≡ closers seats)
    → AreGiven (length pre) next is → ((i : ℕ) (other : Seat) → length pre ≤ i → slice_get (pre ++ seat ∷ seats) i ≡ Some other → has_number i is ≡ false → other.is_closing ≡ false) → ones (pre ++ seat ∷ seats) is ≡ closers (seat ∷ seats)
ones_more pre seat seats is next long_as again given others = by is given others
  where
    further : (ms : List ℕ) → AreGiven (length pre + 1) next ms → ((i : ℕ) (other : Seat) → length pre + 1 ≤ i → slice_get (pre ++ seat ∷ seats) i ≡ Some other → has_number i ms ≡ false → other.is_closing ≡ false) → ones (pre ++ seat ∷ seats) ms ≡ closers seats
    further ms later rest =
        subst (λ (all : List Seat). ones all ms ≡ closers seats) (append_assoc pre (seat ∷ []) seats)
        (again ms (subst (λ (low : ℕ). AreGiven low next ms) (sym (long pre seat)) later)
        (λ i other less here none. rest i other (omega (arith, less, long pre seat)) (subst (λ (all : List Seat). slice_get all i ≡ Some other) (append_assoc pre (seat ∷ []) seats) here) none))

    skips : seat.is_closing ≡ false → closers seats ≡ closers (seat ∷ seats)
    skips goes_on_still = sym (ap (λ (b : Bool). map (λ (other : Seat). other.client.id) (cond b (seat ∷ filter (λ other. other.is_closing) seats) (filter (λ other. other.is_closing) seats))) goes_on_still)

    here_on : (ms : List ℕ) → AreGiven (length pre + 1) next ms → ((i : ℕ) (other : Seat) → length pre ≤ i → slice_get (pre ++ seat ∷ seats) i ≡ Some other → has_number i (length pre ∷ ms) ≡ false → other.is_closing ≡ false)
        → ones (pre ++ seat ∷ seats) (length pre ∷ ms) ≡ closers (seat ∷ seats)
    here_on ms later rest =
        ap (λ (o : Option Seat). cons_option (over_client false o) (ones (pre ++ seat ∷ seats) ms)) (get_behind pre seats seat)
        ∙ ap (λ (ns : List ℕ). cons_option (cond seat.is_closing (Some seat.client.id) None) ns)
        (further ms later (λ i other less here none. rest i other (omega (arith, less)) here (ap₂ (λ (a b : Bool). a || b) (off (length pre) i (omega (arith, less))) none)))
        ∙ counted seat.is_closing
      where
        off : (a b : ℕ) → a < b → (a == b) ≡ false
        off a b less = grind (arith, nat_tests)

        counted : (b : Bool) → cons_option (cond b (Some seat.client.id) None) (closers seats) ≡ map (λ (other : Seat). other.client.id) (cond b (seat ∷ filter (λ other. other.is_closing) seats) (filter (λ other. other.is_closing) seats))
        counted true = refl
        counted false = refl

    passed : (ms : List ℕ) → AreGiven (length pre + 1) next ms → ((i : ℕ) (other : Seat) → length pre ≤ i → slice_get (pre ++ seat ∷ seats) i ≡ Some other → has_number i ms ≡ false → other.is_closing ≡ false) → ones (pre ++ seat ∷ seats) ms ≡ closers (seat ∷ seats)
    passed ms later rest =
        further ms later (λ i other less here none. rest i other (omega (arith, less)) here none)
        ∙ skips (rest (length pre) seat (omega arith) (get_behind pre seats seat) (not_in (length pre + 1) next (length pre) ms (omega arith) later))

    at : (i : ℕ) (ms : List ℕ) → length pre ≤ i → AreGiven (i + 1) next ms → ((j : ℕ) (other : Seat) → length pre ≤ j → slice_get (pre ++ seat ∷ seats) j ≡ Some other → has_number j (i ∷ ms) ≡ false → other.is_closing ≡ false) → (b : Bool) → (length pre == i) ≡ b
        → ones (pre ++ seat ∷ seats) (i ∷ ms) ≡ closers (seat ∷ seats)
    at i ms less later rest true same =
        let eq : length pre ≡ i = same_number (length pre) i same in
        subst (λ (j : ℕ). AreGiven (j + 1) next ms → ((k : ℕ) (other : Seat) → length pre ≤ k → slice_get (pre ++ seat ∷ seats) k ≡ Some other → has_number k (j ∷ ms) ≡ false → other.is_closing ≡ false) → ones (pre ++ seat ∷ seats) (j ∷ ms) ≡ closers (seat ∷ seats)) eq
        (here_on ms) later rest
    at i ms less later rest false same = passed (i ∷ ms) (above (length pre) i less same, later) rest
      where
        above : (a b : ℕ) → a ≤ b → (a == b) ≡ false → a + 1 ≤ b
        above a b one two = grind (arith, nat_tests)

    by : (ms : List ℕ) → AreGiven (length pre) next ms → ((i : ℕ) (other : Seat) → length pre ≤ i → slice_get (pre ++ seat ∷ seats) i ≡ Some other → has_number i ms ≡ false → other.is_closing ≡ false) → ones (pre ++ seat ∷ seats) ms ≡ closers (seat ∷ seats)
    by [] none rest = passed [] (omega (arith, long_as)) rest
    by (i ∷ ms) all rest = at i ms all.0 all.1 rest (length pre == i) refl

ones_are : (pre seats : List Seat) (is : List ℕ) (next : ℕ) → next ≡ length pre + length seats → AreGiven (length pre) next is → ((i : ℕ) (seat : Seat) → length pre ≤ i → slice_get (pre ++ seats) i ≡ Some seat → has_number i is ≡ false → seat.is_closing ≡ false)
    → ones (pre ++ seats) is ≡ closers seats
ones_are pre [] [] next long_as given others = refl
ones_are pre [] (i ∷ is) next long_as given others = absurd (omega (arith, long_as, given.0, given_from (i + 1) next is given.1))
ones_are pre (seat ∷ seats) is next long_as given others =
    ones_more pre seat seats is next long_as (λ ms later rest. ones_are (pre ++ seat ∷ []) seats ms next (omega (arith, long_as, long pre seat)) later rest) given others

-- one that is closing is not silent
awake_so : (seat : Seat) (b : Bool) → seat.is_closing ≡ b → is_silent seat ≡ true → b ≡ false
awake_so seat false is silent = refl
awake_so seat true is silent = absurd (never (is_undecided_in seat.stage) (is_there_in seat.front) seat.has_hung_up seat.is_closing is silent)
  where
    never : (a b c d : Bool) → d ≡ true → (a && not b && not c && not d) ≡ true → ⊥
    never true true c d is both = cc both
    never false true c d is both = cc both
    never true false true d is both = cc both
    never false false c d is both = cc both
    never true false false true is both = cc both
    never true false false false is both = cc is

over_are : (p : Turn) → AreAwake p → p.is_stopped ≡ false → over_clients p ≡ closers p.seats.items
over_are p awake going =
    ap (λ (b : Bool). filter_map (λ i. over_client b (slice_get p.seats.items i)) p.awake.items) going
    ∙ ones_are [] p.seats.items p.awake.items (length p.seats.items) (omega arith) awake.order
    (λ i seat less here none. awake_so seat seat.is_closing refl (awake.others i seat here none).silent)

-- ---- each once, and at its place

nowhere_in : (n : ℕ) (seats : List Seat) → IsNowhere n seats → has_number n (closers seats) ≡ false
nowhere_in n [] none = refl
nowhere_in n (seat ∷ seats) none = by seat.is_closing (nowhere_in n seats none.1)
  where
    by : (b : Bool) → has_number n (closers seats) ≡ false → has_number n (map (λ (other : Seat). other.client.id) (cond b (seat ∷ filter (λ other. other.is_closing) seats) (filter (λ other. other.is_closing) seats))) ≡ false
    by true rest = ap₂ (λ (a b : Bool). a || b) none.0 rest
    by false rest = rest

others_order : (seat : Seat) (seats : List Seat) → AreInOrder (numbers_of (seat ∷ seats)) → AreInOrder (numbers_of seats)
others_order seat seats order = λ i j less within. order (suc i) (suc j) (omega (arith, less)) (omega (arith, within))

once_each : (seats : List Seat) → AreInOrder (numbers_of seats) → AreDistinct (closers seats)
once_each [] order = tt
once_each (seat ∷ seats) order = by seat.is_closing (once_each seats (others_order seat seats order))
  where
    by : (b : Bool) → AreDistinct (closers seats) → AreDistinct (map (λ (other : Seat). other.client.id) (cond b (seat ∷ filter (λ other. other.is_closing) seats) (filter (λ other. other.is_closing) seats)))
    by true rest = (nowhere_in seat.client.id seats (is_at 0 (seat ∷ seats) seat order refl).1, rest)
    by false rest = rest

over_behind : (ns : List ℕ) (seat : Seat) (seats : List Seat) → AreOver ns seats → AreOver ns (seat ∷ seats)
over_behind [] seat seats all = tt
over_behind (n ∷ ns) seat seats all = (record { place = suc all.0.place; seat = all.0.seat; here = all.0.here; closing = all.0.closing; number = all.0.number }, over_behind ns seat seats all.1)

all_over : (seats : List Seat) → AreOver (closers seats) seats
all_over [] = tt
all_over (seat ∷ seats) = by seat.is_closing refl (over_behind (closers seats) seat seats (all_over seats))
  where
    by : (b : Bool) → seat.is_closing ≡ b → AreOver (closers seats) (seat ∷ seats) → AreOver (map (λ (other : Seat). other.client.id) (cond b (seat ∷ filter (λ other. other.is_closing) seats) (filter (λ other. other.is_closing) seats))) (seat ∷ seats)
    by true is rest = (record { place = 0; seat = seat; here = refl; closing = is; number = refl }, rest)
    by false is rest = rest

-- ---- who is left

passes : (seat : Seat) (seats : List Seat) (ns : List ℕ) → has_number seat.client.id ns ≡ false → without_clients ns (seat ∷ seats) ≡ seat ∷ without_clients ns seats
passes seat seats [] none = refl
passes seat seats (n ∷ ns) none =
    let these : ((n == seat.client.id) ≡ false) × (has_number seat.client.id ns ≡ false) = no_or (n == seat.client.id) (has_number seat.client.id ns) none in
    ap (λ (b : Bool). without_clients ns (cond (not b) (seat ∷ filter (isnt_it n) seats) (filter (isnt_it n) seats))) (other_way n seat.client.id these.0) ∙ passes seat (filter (isnt_it n) seats) ns these.1

none_out : (n : ℕ) (seats : List Seat) → IsNowhere n seats → filter (isnt_it n) seats ≡ seats
none_out n [] none = refl
none_out n (seat ∷ seats) none = ap₂ (λ (b : Bool) (rest : List Seat). cond (not b) (seat ∷ rest) rest) none.0 (none_out n seats none.1)

all_left : (seats : List Seat) → AreInOrder (numbers_of seats) → without_clients (closers seats) seats ≡ filter (stays false) seats
all_left [] order = refl
all_left (seat ∷ seats) order = by seat.is_closing (all_left seats (others_order seat seats order))
  where
    nowhere : IsNowhere seat.client.id seats
    nowhere = (is_at 0 (seat ∷ seats) seat order refl).1

    itself : (n : ℕ) → (n == n) ≡ true
    itself n = grind (arith, nat_tests)

    by : (b : Bool) → without_clients (closers seats) seats ≡ filter (stays false) seats
        → without_clients (map (λ (other : Seat). other.client.id) (cond b (seat ∷ filter (λ other. other.is_closing) seats) (filter (λ other. other.is_closing) seats))) (seat ∷ seats) ≡ cond (not b) (seat ∷ filter (stays false) seats) (filter (stays false) seats)
    by true rest =
        ap (λ (b : Bool). without_clients (closers seats) (cond (not b) (seat ∷ filter (isnt_it seat.client.id) seats) (filter (isnt_it seat.client.id) seats))) (itself seat.client.id)
        ∙ ap (λ (left : List Seat). without_clients (closers seats) left) (none_out seat.client.id seats nowhere)
        ∙ rest
    by false rest = passes seat seats (closers seats) (nowhere_in seat.client.id seats nowhere) ∙ ap (λ (left : List Seat). seat ∷ left) rest

-- where none of those that are looked at is over, nobody is, and all stay
none_over : (b : Bool) (seats : List Seat) (is : List ℕ) → list_any (λ i. elim (slice_get seats i) as (λ t. Bool) [ None ↦ false | Some seat ↦ b || seat.is_closing ]) is ≡ false → filter_map (λ i. over_client b (slice_get seats i)) is ≡ []
none_over b seats [] none = refl
none_over b seats (i ∷ is) none = by (slice_get seats i) none (λ later. none_over b seats is later)
  where
    one : (seat : Seat) (c : Bool) → (c || list_any (λ j. elim (slice_get seats j) as (λ t. Bool) [ None ↦ false | Some other ↦ b || other.is_closing ]) is) ≡ false
        → (list_any (λ j. elim (slice_get seats j) as (λ t. Bool) [ None ↦ false | Some other ↦ b || other.is_closing ]) is ≡ false → filter_map (λ j. over_client b (slice_get seats j)) is ≡ [])
        → cons_option (cond c (Some seat.client.id) None) (filter_map (λ j. over_client b (slice_get seats j)) is) ≡ []
    one seat true both rest = absurd (let bad : true ≡ false = both in cc bad)
    one seat false both rest = rest both

    by : (o : Option Seat) → ((elim o as (λ t. Bool) [ None ↦ false | Some seat ↦ b || seat.is_closing ]) || list_any (λ j. elim (slice_get seats j) as (λ t. Bool) [ None ↦ false | Some other ↦ b || other.is_closing ]) is) ≡ false
        → (list_any (λ j. elim (slice_get seats j) as (λ t. Bool) [ None ↦ false | Some other ↦ b || other.is_closing ]) is ≡ false → filter_map (λ j. over_client b (slice_get seats j)) is ≡ [])
        → cons_option (over_client b o) (filter_map (λ j. over_client b (slice_get seats j)) is) ≡ []
    by None both rest = rest both
    by (Some seat) both rest = one seat (b || seat.is_closing) both rest

none_goes : (seats : List Seat) → closers seats ≡ [] → filter (stays false) seats ≡ seats
none_goes [] none = refl
none_goes (seat ∷ seats) none = by seat.is_closing none (λ later. none_goes seats later)
  where
    by : (b : Bool) → map (λ (other : Seat). other.client.id) (cond b (seat ∷ filter (λ other. other.is_closing) seats) (filter (λ other. other.is_closing) seats)) ≡ [] → (closers seats ≡ [] → filter (stays false) seats ≡ seats)
        → cond (not b) (seat ∷ filter (stays false) seats) (filter (stays false) seats) ≡ seat ∷ seats
    by true none rest = absurd (cc none)
    by false none rest = ap (λ (left : List Seat). seat ∷ left) (rest none)

left_are : (p : Turn) → AreAwake p → p.is_stopped ≡ false → seats_left p ≡ filter (stays false) p.seats.items
left_are p awake going = by (is_any_over p) refl
  where
    by : (b : Bool) → is_any_over p ≡ b → cond b (filter (stays p.is_stopped) p.seats.items) p.seats.items ≡ filter (stays false) p.seats.items
    by true is = ap (λ (stop : Bool). filter (stays stop) p.seats.items) going
    by false is = sym (none_goes p.seats.items (sym (over_are p awake going) ∙ none_over p.is_stopped p.seats.items p.awake.items is))

-- ---- in the log

still_open : (n : ℕ) (links : List Link) (ns : List ℕ) → has_number n ns ≡ false → AreOpen ns links → AreOpen ns (without_link n links)
still_open n links [] none all = tt
still_open n links (m ∷ ns) none all =
    let these : ((m == n) ≡ false) × (has_number n ns ≡ false) = no_or (m == n) (has_number n ns) none in
    (find_kept (is_link m) (is_other n) links (λ link is. ap not (ap (λ (i : ℕ). i == n) (same_number link.0 m is) ∙ these.0)) ∙ all.0, still_open n links ns these.1 all.1)

-- one is a client's or an origin's
still_linked : (n : ℕ) (links : List Link) (ms : List ℕ) → find (is_link n) links ≡ Some (n, OfClient) → AreLinked ms links → AreLinked ms (without_link n links)
still_linked n links [] there all = tt
still_linked n links (m ∷ ms) there all = (find_kept (is_link m) (is_other n) links (λ link is. ap not (ap (λ (i : ℕ). i == n) (same_number link.0 m is) ∙ off (m == n) refl)) ∙ all.0, still_linked n links ms there all.1)
  where
    off : (b : Bool) → (m == n) ≡ b → (m == n) ≡ false
    off false is = is
    off true is = absurd (let bad : Origin ≡ OfClient = ap (λ (l : Link). l.1) (some_is (m, Origin) (n, OfClient) (sym all.0 ∙ ap (λ (i : ℕ). find (is_link i) links) (same_number m n is) ∙ there)) in cc bad)

record IsLogged (ns ms : List ℕ) (links : List Link) : Type 0 where
  left : List Link
  log : closings (ns ++ ms) links ≡ shut_in ns ++ closings ms left
  linked : AreLinked ms left

logged : (ns ms : List ℕ) (links : List Link) → AreDistinct ns → AreOpen ns links → AreLinked ms links → IsLogged ns ms links
logged [] ms links once open_ones linked = record { left = links; log = refl; linked = linked }
logged (n ∷ ns) ms links once open_ones linked =
    let rest : IsLogged ns ms (without_link n links) = logged ns ms (without_link n links) once.1 (still_open n links ns once.0 open_ones.1) (still_linked n links ms open_ones.0 linked) in
    record {
      left = rest.left;
      log = ap (λ (o : Option Link). closed_as o ++ closings (ns ++ ms) (without_link n links)) open_ones.0 ∙ ap (λ (hs : Log). Shut n ∷ hs) rest.log;
      linked = rest.linked;
    }

abbrev AllAwake : Log → Type 0
AllAwake [] = ⊤
AllAwake (h ∷ hs) = (wakes h ≡ false) × AllAwake hs

all_awake : (ids : List ℕ) (links : List Link) → AllAwake (closings ids links)
all_awake [] links = tt
all_awake (n ∷ ids) links = by (find (is_link n) links) (all_awake ids (without_link n links))
  where
    side : (link : ℕ) (o : Side) → wakes (by_side (Some o) (Shut link) (Dropped link)) ≡ false
    side link OfClient = refl
    side link Origin = refl

    by : (o : Option Link) → AllAwake (closings ids (without_link n links)) → AllAwake (closed_as o ++ closings ids (without_link n links))
    by None rest = rest
    by (Some link) rest = (side link.0 link.1, rest)

come_leads : (hs : Log) (s : State) → MayCome hs s → AllAwake hs → Leads hs s (fold after s hs)
come_leads [] s come awake = refl
come_leads (h ∷ hs) s come awake = record { awake = awake.0; may = λ failed. come.0; holds = come_leads hs (after s h) come.1 awake.1 }

-- ---- nobody is left

abbrev AllStay : List Seat → Type 0
AllStay [] = ⊤
AllStay (seat ∷ rest) = (seat.is_closing ≡ false) × AllStay rest

no_client : (number : ℕ → ℕ) (name : Bytes) (seats : List Seat) (cs : List Client) → AreShown number name [] (filter (stays false) seats) cs → list_any (λ c. c.is_closing) cs ≡ false
no_client number name seats cs shows = of (filter (stays false) seats) cs shows (kept seats)
  where
    kept : (all : List Seat) → AllStay (filter (stays false) all)
    kept [] = tt
    kept (seat ∷ all) = by seat.is_closing refl (kept all)
      where
        by : (b : Bool) → seat.is_closing ≡ b → AllStay (filter (stays false) all) → AllStay (cond (not b) (seat ∷ filter (stays false) all) (filter (stays false) all))
        by true is rest = rest
        by false is rest = (is, rest)

    of : (left : List Seat) (ds : List Client) → AreShown number name [] left ds → AllStay left → list_any (λ c. c.is_closing) ds ≡ false
    of [] [] shown stay = refl
    of [] (d ∷ ds) shown stay = absurd shown
    of (seat ∷ left) [] shown stay = absurd shown
    of (seat ∷ left) (d ∷ ds) shown stay = ap₂ (λ (a b : Bool). a || b) (sym shown.0.closing ∙ stay.0) (of left ds shown.1 stay.1)

abbrev AllGoOn : List Peer → Type 0
AllGoOn [] = ⊤
AllGoOn (peer ∷ rest) = (peer.is_closing ≡ false) × AllGoOn rest

no_conn : (s : State) (peers : List Peer) (ks : List Conn) → ShowConns s (filter (goes_on false) peers) ks → list_any (λ k. k.is_closing) ks ≡ false
no_conn s peers ks shows = of (filter (goes_on false) peers) ks shows (kept peers)
  where
    kept : (all : List Peer) → AllGoOn (filter (goes_on false) all)
    kept [] = tt
    kept (peer ∷ all) = by peer.is_closing refl (kept all)
      where
        by : (b : Bool) → peer.is_closing ≡ b → AllGoOn (filter (goes_on false) all) → AllGoOn (cond (not b) (peer ∷ filter (goes_on false) all) (filter (goes_on false) all))
        by true is rest = rest
        by false is rest = (is, rest)

    of : (left : List Peer) (ds : List Conn) → ShowConns s left ds → AllGoOn left → list_any (λ k. k.is_closing) ds ≡ false
    of [] [] shown go = refl
    of [] (d ∷ ds) shown go = absurd shown
    of (peer ∷ left) [] shown go = absurd shown
    of (peer ∷ left) (d ∷ ds) shown go = ap₂ (λ (a b : Bool). a || b) (sym shown.0.is_closing ∙ go.0) (of left ds shown.1 go.1)

pub closes : ClosingsAreTheLaws
closes number p peers s links shows awake going may open_ones linked =
    let same : over_clients p ≡ closers p.seats.items = over_are p awake going in
    let once : AreDistinct (closers p.seats.items) = once_each p.seats.items shows.steps.order in
    let gone : AllShut number p.name.items (closers p.seats.items) (sides_of p peers) s = each_shut number p.name.items (closers p.seats.items) (sides_of p peers) s shows may once (all_over p.seats.items) in
    let log : IsLogged (closers p.seats.items) (over_peers false peers) links = logged (closers p.seats.items) (over_peers false peers) links once (subst (λ (ns : List ℕ). AreOpen ns links) same open_ones) linked in
    let still : ShowsSides number p.name.items (sides_with (sides_of p peers) (filter (stays false) p.seats.items)) gone.state =
    subst (λ (seats : List Seat). ShowsSides number p.name.items (sides_with (sides_of p peers) seats) gone.state) (all_left p.seats.items shows.steps.order) gone.shows in
    let dropped : AreDropped number p.name.items log.left (sides_with (sides_of p peers) (filter (stays false) p.seats.items)) gone.state =
    closing_drop number p.name.items (sides_with (sides_of p peers) (filter (stays false) p.seats.items)) gone.state still log.left gone.may.connecting log.linked in
    let behind : State = fold after gone.state (closings (over_peers false peers) log.left) in
    record {
      state = behind;
      leads =
          subst (λ (hs : Log). Leads hs s behind) (sym (ap₂ (λ (ns : List ℕ) (b : Bool). closings (ns ++ over_peers b peers) links) same going ∙ log.log))
          (leads_then (λ v. v ≡ behind) (shut_in (closers p.seats.items)) (closings (over_peers false peers) log.left) s gone.state gone.leads
          (come_leads (closings (over_peers false peers) log.left) gone.state dropped.permitted (all_awake (over_peers false peers) log.left)));
      shows =
          subst (λ (b : Bool). ShowsSides number p.name.items (record { parts = record (parts p) { seats = seats_left p }; peers = filter (goes_on b) peers }) behind) (sym going)
          (subst (λ (seats : List Seat). ShowsSides number p.name.items (record { parts = record (parts p) { seats = seats }; peers = filter (goes_on false) peers }) behind) (sym (left_are p awake going)) dropped.behind);
      closed =
          ap₂ (λ (a b : Bool). a || b) (no_client number p.name.items p.seats.items behind.clients dropped.behind.steps.shows.clients)
          (no_conn behind peers behind.conns dropped.behind.steps.shows.conns);
      stays = stays_on s behind may.connecting (closings_frame (over_peers false peers) log.left gone.state gone.may.connecting ∙ gone.same);
    }
