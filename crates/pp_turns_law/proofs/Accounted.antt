-- What the operator's log is told of a client is no part of what shows the law's.
use Rattle.std.proofs.Common.{◌≡◌, refl, sym, subst, ap, ℕ, zero, suc, List, [], ◌∷◌, Some, None, Option}
use Rattle.std.specs.Prelude.{slice_get, slice_set}
use Rattle.pp_cache_law.proofs.Numbers.{some_is}
use Rattle.pp_flow_law.proofs.Entries.{none_some}
use Rattle.pp_flow_law.specs.Tables.{Leaving}
use Rattle.pp_law.specs.Lists.{Bytes}
use Rattle.pp_law.specs.State.{State, Client}
use Rattle.pp_peers.specs.declared.peers.Peer.{Peer}
use Rattle.pp_seats.specs.declared.account.Account.{Account}
use Rattle.pp_seats.specs.declared.seat.Seat.{Seat}
use Rattle.pp_seats_law.specs.Clients.{AreShown}
use Rattle.pp_seats_law.specs.Seats.{ShowsOpen, ShowsSeat}
use Rattle.pp_state.specs.Accounts.{accounts_at}
use Rattle.pp_state.specs.Ends.{AreInOrder, Parts}
use Rattle.pp_states_law.proofs.Places.{numbers_set}
use Rattle.pp_states_law.specs.Steps.{ShowsSteps}

open_still : (number : ℕ → ℕ) (name : Bytes) (owed : List Bytes) (seat : Seat) (c : Client) (account : Account) → ShowsOpen number name owed seat c → ShowsOpen number name owed (record seat { account = account }) c
open_still number name owed seat c account shows = record {
  hung_up = shows.hung_up;
  mark = shows.mark;
  heard = shows.heard;
  body = shows.body;
  over = shows.over;
  front = shows.front;
  body_left = shows.body_left;
  index = shows.index;
  stage = shows.stage;
  waits_on = shows.waits_on;
  fate = shows.fate;
  asked = shows.asked;
  piped = shows.piped;
  given_up = shows.given_up;
  interim = shows.interim;
  before_body = shows.before_body;
  closes = shows.closes;
}

seat_still : (number : ℕ → ℕ) (name : Bytes) (owed : List Bytes) (seat : Seat) (c : Client) (account : Account) → ShowsSeat number name owed seat c → ShowsSeat number name owed (record seat { account = account }) c
seat_still number name owed seat c account shows = record { number = shows.number; closing = shows.closing; going = λ goes. open_still number name owed seat c account (shows.going goes) }

all_still : (number : ℕ → ℕ) (name : Bytes) (owed : List Bytes) (i : ℕ) (seats : List Seat) (cs : List Client) (seat : Seat) (account : Account) → slice_get seats i ≡ Some seat → AreShown number name owed seats cs
    → AreShown number name owed (slice_set seats i (record seat { account = account })) cs
all_still number name owed i [] cs seat account here shown = absurd (none_some seat here)
all_still number name owed i (first ∷ seats) [] seat account here shown = absurd shown
all_still number name owed zero (first ∷ seats) (c ∷ cs) seat account here shown =
    (subst (λ (x : Seat). ShowsSeat number name owed (record x { account = account }) c) (some_is first seat here) (seat_still number name owed first c account shown.0), shown.1)
all_still number name owed (suc i) (first ∷ seats) (c ∷ cs) seat account here shown = (shown.0, all_still number name owed i seats cs seat account here shown.1)

abbrev pub accounted_as : ℕ → Seat → Account → Parts → Parts
accounted_as i seat account p = record p { seats = slice_set p.seats i (record seat { account = account }) }

pub accounts_show : (number : ℕ → ℕ) (name : Bytes) (l : Leaving) (peers : List Peer) (p : Parts) (s : State) → ShowsSteps number name l peers p s → (i : ℕ) (seat : Seat) (account : Account) → slice_get p.seats i ≡ Some seat
    → ShowsSteps number name l peers (accounted_as i seat account p) s
accounts_show number name l peers p s steps i seat account here = record {
  shows = record {
    clients = all_still number name [] i p.seats s.clients seat account here steps.shows.clients;
    exchanges = steps.shows.exchanges;
    table = steps.shows.table;
    conns = steps.shows.conns;
  };
  order = subst (λ (ns : List ℕ). AreInOrder ns) (sym (numbers_set i p.seats seat (record seat { account = account }) here refl)) steps.order;
  told = steps.told;
  refused = steps.refused;
}

-- of the client at a place
pub accounted_is : (i : ℕ) (f : Account → Account) (p : Parts) (seat : Seat) → slice_get p.seats i ≡ Some seat → record p { seats = accounts_at i f p.seats } ≡ accounted_as i seat (f seat.account) p
accounted_is i f p seat here = ap (λ (o : Option Seat). record p { seats = elim o as (λ t. List Seat) [ None ↦ p.seats | Some x ↦ slice_set p.seats i (record x { account = f x.account }) ] }) here
