-- What the log gets of all closings, and who is left in the program.
use Rattle.std.proofs.Common.{◌≡◌, ◌<◌, refl, sym, ap, ap₂, ◌∙◌, ℕ, zero, suc, Bool, true, false, not, ◌||◌, ◌==◌, cond, filter, find, length, map, List, [], ◌∷◌, ◌++◌, Option, Some, None, arith}
use Rattle.std.proofs.lemmas.Bool.Decides.{nat_tests}
use Rattle.std.specs.List.{cons_option, filter_map, list_any}
use Rattle.std.specs.Prelude.{slice_get}
use Rattle.pp_cache_law.proofs.Finds.{find_kept}
use Rattle.pp_cache_law.proofs.Numbers.{some_is}
use Rattle.pp_turns_law.specs.Log.{AreLinked}
use Rattle.pp_desk.specs.Closings.{peer_numbers}
use Rattle.pp_desk.specs.Shutting.{closed_as, closings, is_any_over, over_at, over_client, over_clients, over_peers, seats_left, stays}
use Rattle.pp_law.specs.Lists.{Bytes}
use Rattle.pp_law.specs.State.{State, Client, Conn}
use Rattle.pp_laws.proofs.Sound.{client_number, conn_number}
use Rattle.pp_laws.proofs.Tests.{same_number}
use Rattle.pp_laws.specs.Numbers.{AllAbove, AreRising}
use Rattle.pp_links.specs.Links.{Link, is_link, is_other, without as without_link}
use Rattle.pp_peers.specs.Peers.{goes_on}
use Rattle.pp_peers.specs.declared.peers.Peer.{Peer}
use Rattle.pp_peers_law.specs.Peers.{ShowConns}
use Rattle.pp_places_law.specs.Closings.{AreOpen}
use Rattle.pp_seats.specs.declared.seat.Seat.{Seat}
use Rattle.pp_seats_law.specs.Clients.{AreShown}
use Rattle.pp_state.specs.Ends.{is_over_at, numbers_of}
use Rattle.pp_state.specs.Numbers.{places}
use Rattle.pp_state.specs.declared.state.State.{State as Turn}
use Rattle.pp_world.specs.Log.{Log}
use Rattle.pp_world.specs.declared.event.Side.TheVariants.{Client as OfClient, Origin}
use Rattle.pp_world.specs.declared.happening.Happening.TheVariants.{Dropped, Shut}
use Rattle.pp_rounds_law.proofs.Numbered.{none_mapped}
use Rattle.pp_rounds_law.proofs.ShutAll.{dropped_in, shut_in}

-- ---- each is open as long as none before it was it

above_isnt : (m n : ℕ) → n < m → (m == n) ≡ false
above_isnt m n less = grind (arith, nat_tests)

found_still : (n m : ℕ) (links : List Link) → (m == n) ≡ false → find (is_link m) (without_link n links) ≡ find (is_link m) links
found_still n m links off = find_kept (is_link m) (is_other n) links (λ link is. ap not (ap (λ (i : ℕ). i == n) (same_number link.0 m is) ∙ off))

open_still : (n : ℕ) (ms : List ℕ) (links : List Link) → AllAbove n ms → AreOpen ms links → AreOpen ms (without_link n links)
open_still n [] links above all = tt
open_still n (m ∷ ms) links above all = (found_still n m links (above_isnt m n above.0) ∙ all.0, open_still n ms links above.1 all.1)

linked_above : (n : ℕ) (ms : List ℕ) (links : List Link) → AllAbove n ms → AreLinked ms links → AreLinked ms (without_link n links)
linked_above n [] links above all = tt
linked_above n (m ∷ ms) links above all = (found_still n m links (above_isnt m n above.0) ∙ all.0, linked_above n ms links above.1 all.1)

-- one is a client's or an origin's
linked_still : (n : ℕ) (ms : List ℕ) (links : List Link) → find (is_link n) links ≡ Some (n, OfClient) → AreLinked ms links → AreLinked ms (without_link n links)
linked_still n [] links there all = tt
linked_still n (m ∷ ms) links there all = (found_still n m links (off (m == n) refl) ∙ all.0, linked_still n ms links there all.1)
  where
    off : (b : Bool) → (m == n) ≡ b → (m == n) ≡ false
    off false is = is
    off true is = absurd (let bad : Origin ≡ OfClient = ap (λ (l : Link). l.1) (some_is (m, Origin) (n, OfClient) (sym all.0 ∙ ap (λ (i : ℕ). find (is_link i) links) (same_number m n is) ∙ there)) in cc bad)

origins_logged : (ks : List ℕ) (links : List Link) → AreRising ks → AreLinked ks links → closings ks links ≡ dropped_in ks
origins_logged [] links rise all = refl
origins_logged (k ∷ ks) links rise all =
    ap (λ (o : Option Link). closed_as o ++ closings ks (without_link k links)) all.0
    ∙ ap (λ (hs : Log). Dropped k ∷ hs) (origins_logged ks (without_link k links) rise.1 (linked_above k ks links rise.0 all.1))

pub all_logged : (ns ks : List ℕ) (links : List Link) → AreRising ns → AreRising ks → AreOpen ns links → AreLinked ks links → closings (ns ++ ks) links ≡ shut_in ns ++ dropped_in ks
all_logged [] ks links rise others all linked = origins_logged ks links others linked
all_logged (n ∷ ns) ks links rise others all linked =
    ap (λ (o : Option Link). closed_as o ++ closings (ns ++ ks) (without_link n links)) all.0
    ∙ ap (λ (hs : Log). Shut n ∷ hs) (all_logged ns ks (without_link n links) rise.1 others (open_still n ns links rise.0 all.1) (linked_still n ks links all.0 linked))

-- ---- all that are looked at are all

-- the numbers of so many from the front
abbrev so_far : ℕ → List Seat → List ℕ
so_far zero seats = []
so_far (suc n) [] = []
so_far (suc n) (seat ∷ seats) = seat.client.id ∷ so_far n seats

abbrev its_number : Option Seat → List ℕ
its_number None = []
its_number (Some seat) = seat.client.id ∷ []

so_far_all : (seats : List Seat) → so_far (length seats) seats ≡ numbers_of seats
so_far_all [] = refl
so_far_all (seat ∷ seats) = ap (λ (ns : List ℕ). seat.client.id ∷ ns) (so_far_all seats)

so_far_more : (n : ℕ) (seats : List Seat) → so_far (suc n) seats ≡ so_far n seats ++ its_number (slice_get seats n)
so_far_more zero [] = refl
so_far_more zero (seat ∷ seats) = refl
so_far_more (suc n) [] = refl
so_far_more (suc n) (seat ∷ seats) = ap (λ (ns : List ℕ). seat.client.id ∷ ns) (so_far_more n seats)

joined : (f : ℕ → Option ℕ) (is js : List ℕ) → filter_map f (is ++ js) ≡ filter_map f is ++ filter_map f js
joined f [] js = refl
joined f (i ∷ is) js = by (f i) (joined f is js)
  where
    by : (o : Option ℕ) → filter_map f (is ++ js) ≡ filter_map f is ++ filter_map f js → cons_option o (filter_map f (is ++ js)) ≡ cons_option o (filter_map f is) ++ filter_map f js
    by None rest = rest
    by (Some m) rest = ap (λ (ms : List ℕ). m ∷ ms) rest

at_places : (seats : List Seat) (n : ℕ) → filter_map (λ i. over_client true (slice_get seats i)) (places n) ≡ so_far n seats
at_places seats zero = refl
at_places seats (suc n) =
    joined (λ i. over_client true (slice_get seats i)) (places n) (n ∷ [])
    ∙ ap₂ (λ (ms ns : List ℕ). ms ++ ns) (at_places seats n) (one (slice_get seats n))
    ∙ sym (so_far_more n seats)
  where
    one : (o : Option Seat) → cons_option (over_client true o) [] ≡ its_number o
    one None = refl
    one (Some seat) = refl

pub clients_over : (p : Turn) → p.is_stopped ≡ true → p.awake.items ≡ places (length p.seats.items) → over_clients p ≡ numbers_of p.seats.items
clients_over p stopped awake =
    ap₂ (λ (b : Bool) (is : List ℕ). filter_map (λ i. over_client b (slice_get p.seats.items i)) is) stopped awake
    ∙ at_places p.seats.items (length p.seats.items)
    ∙ so_far_all p.seats.items

pub origins_over : (peers : List Peer) → over_peers true peers ≡ peer_numbers peers
origins_over [] = refl
origins_over (peer ∷ peers) = ap (λ (ns : List ℕ). peer.number ∷ ns) (origins_over peers)

-- ---- nobody is left

none_stay : (seats : List Seat) → filter (stays true) seats ≡ []
none_stay [] = refl
none_stay (seat ∷ seats) = none_stay seats

pub no_peer : (peers : List Peer) → filter (goes_on true) peers ≡ []
no_peer [] = refl
no_peer (peer ∷ peers) = no_peer peers

none_any : (g : ℕ → Bool) (h : ℕ → Option ℕ) → ((i : ℕ) → g i ≡ false → h i ≡ None) → (is : List ℕ) → list_any g is ≡ false → filter_map h is ≡ []
none_any g h none [] off = refl
none_any g h none (i ∷ is) off = by (g i) refl off (λ later. none_any g h none is later)
  where
    by : (b : Bool) → g i ≡ b → (b || list_any g is) ≡ false → (list_any g is ≡ false → filter_map h is ≡ []) → filter_map h (i ∷ is) ≡ []
    by true is_so both rest = absurd (cc both)
    by false is_so both rest = ap (λ (o : Option ℕ). cons_option o (filter_map h is)) (none i is_so) ∙ rest both

nobody_over : (p : Turn) (i : ℕ) → is_over_at i p ≡ false → over_at p i ≡ None
nobody_over p i = by (slice_get p.seats.items i)
  where
    at : (seat : Seat) (b : Bool) → b ≡ false → cond b (Some seat.client.id) None ≡ None
    at seat false is = refl
    at seat true is = absurd (cc is)

    by : (o : Option Seat) → (elim o as (λ t. Bool) [ None ↦ false | Some seat ↦ p.is_stopped || seat.is_closing ]) ≡ false → over_client p.is_stopped o ≡ None
    by None is = refl
    by (Some seat) is = at seat (p.is_stopped || seat.is_closing) is

pub no_seat : (p : Turn) → p.is_stopped ≡ true → p.awake.items ≡ places (length p.seats.items) → seats_left p ≡ []
no_seat p stopped awake = by (is_any_over p) refl
  where
    by : (b : Bool) → is_any_over p ≡ b → cond b (filter (stays p.is_stopped) p.seats.items) p.seats.items ≡ []
    by true is = ap (λ (end : Bool). filter (stays end) p.seats.items) stopped ∙ none_stay p.seats.items
    by false is = none_mapped (λ (seat : Seat). seat.client.id) p.seats.items (sym (clients_over p stopped awake) ∙ none_any (λ i. is_over_at i p) (over_at p) (nobody_over p) p.awake.items is)

-- ---- who is there is there in the law

pub clients_numbered : (number : ℕ → ℕ) (name : Bytes) (seats : List Seat) (cs : List Client) → AreShown number name [] seats cs → map client_number cs ≡ numbers_of seats
clients_numbered number name [] [] shows = refl
clients_numbered number name [] (c ∷ cs) shows = absurd shows
clients_numbered number name (seat ∷ seats) [] shows = absurd shows
clients_numbered number name (seat ∷ seats) (c ∷ cs) shows = ap₂ (λ (n : ℕ) (ns : List ℕ). n ∷ ns) (sym shows.0.number) (clients_numbered number name seats cs shows.1)

pub origins_numbered : (s : State) (peers : List Peer) (ks : List Conn) → ShowConns s peers ks → map conn_number ks ≡ peer_numbers peers
origins_numbered s [] [] shows = refl
origins_numbered s [] (k ∷ ks) shows = absurd shows
origins_numbered s (p ∷ ps) [] shows = absurd shows
origins_numbered s (p ∷ ps) (k ∷ ks) shows = ap₂ (λ (n : ℕ) (ns : List ℕ). n ∷ ns) (sym shows.0.number) (origins_numbered s ps ks shows.1)
