-- The connections to origins, their lines of exchanges, and where an exchange is asked (RFC 2616, sections 8.1 and 8.1.2.2).
use Rattle.std.specs.Prelude.{ℕ, ◌+◌, Bool, true, false, ◌==◌, ◌&&◌, ◌||◌, not, nat_le, List, [], ◌∷◌, ◌++◌, length, map, filter, find, count_by, Option, Some, None, option_and_then}
use Rattle.std.specs.List.{list_any}
use Rattle.pp_peers.specs.Placing.{place}
use Rattle.pp_peers.specs.Peers.{Loaded}
use Rattle.pp_peers.specs.declared.peers.Load.{Load}
use Rattle.pp_peers.specs.declared.placing.Limits.{Limits}
use Rattle.pp_peers.specs.declared.placing.Placed.{Placed}
use Rattle.pp_peers.specs.declared.placing.Placed.TheVariants.{On, Dial, CloseThenDial, Wait}
use Rattle.pp_law.specs.Lists.{change, without, is_some_with, is_this}
use Rattle.pp_law.specs.Requests.{goes_alone, is_asked_once}
use Rattle.pp_law.specs.Stages.{is_begun, is_headed, on_passed, filled_of}
use Rattle.pp_law.specs.State.{State, Client, Conn, Exchange, Course, Trying, OutOfTries, RowRefused}
use Rattle.pp_law.specs.Table.{clear, is_same_version, row}
use Rattle.pp_target.specs.Key.{text_of}

-- ---- by number

abbrev pub is_conn : ℕ → Conn → Bool
is_conn n k = k.number == n

abbrev pub is_exchange : ℕ → Exchange → Bool
is_exchange n e = e.number == n

abbrev pub is_client : ℕ → Client → Bool
is_client n c = c.number == n

abbrev pub conn : State → ℕ → Option Conn
conn s n = find (is_conn n) s.conns

abbrev pub exchange : State → ℕ → Option Exchange
exchange s n = find (is_exchange n) s.exchanges

abbrev pub client : State → ℕ → Option Client
client s n = find (is_client n) s.clients

unfoldable pub on_conn : ℕ → (Conn → Conn) → State → State
on_conn n f s = record s { conns = change (is_conn n) f s.conns }

unfoldable pub on_exchange : ℕ → (Exchange → Exchange) → State → State
on_exchange n f s = record s { exchanges = change (is_exchange n) f s.exchanges }

unfoldable pub on_client : ℕ → (Client → Client) → State → State
on_client n f s = record s { clients = change (is_client n) f s.clients }

-- the client of an exchange: its request did not leave it
abbrev pub is_for : Exchange → Client → Bool
is_for e c = is_this c.number e.asker

unfoldable pub on_client_of : Exchange → (Client → Client) → State → State
on_client_of e f s = record s { clients = change (is_for e) f s.clients }

-- ---- of these numbers one behind the other, each as it is when its turn comes

unfoldable pub each_client : (Client → State → State) → List ℕ → State → State
each_client f [] s = s
each_client f (n ∷ ns) s = each_client f ns (elim (client s n) [ None ↦ s | Some c ↦ f c s ])

unfoldable pub each_conn : (Conn → State → State) → List ℕ → State → State
each_conn f [] s = s
each_conn f (n ∷ ns) s = each_conn f ns (elim (conn s n) [ None ↦ s | Some k ↦ f k s ])

unfoldable pub each_exchange : (Exchange → State → State) → List ℕ → State → State
each_exchange f [] s = s
each_exchange f (n ∷ ns) s = each_exchange f ns (elim (exchange s n) [ None ↦ s | Some e ↦ f e s ])

-- ---- whose response comes next

abbrev pub front_of_line : State → Conn → Option Exchange
front_of_line s k = elim k.line [ [] ↦ None | n ∷ line ↦ exchange s n ]

-- its text was asked whole, and its response may come
abbrev pub is_outstanding : Exchange → Bool
is_outstanding e = e.asked == length e.text

-- ---- attempts (section 8.1.4)

-- ours: an ask that may be repeated is tried three times
abbrev pub attempts_of : Exchange → ℕ
attempts_of e = elim (is_asked_once e.head) [ true ↦ 1 | false ↦ 3 ]

abbrev pub lost_one : ℕ → Course → Course
lost_one most (Trying n) = elim (nat_le most (n + 1)) [ true ↦ OutOfTries | false ↦ Trying (n + 1) ]
lost_one most course = course

-- they end. Where memory was refused for the row, it stays refused, here and where they count anew
abbrev pub out_of_tries : Course → Course
out_of_tries RowRefused = RowRefused
out_of_tries course = OutOfTries

abbrev pub anew : Course → Course
anew RowRefused = RowRefused
anew course = Trying 0

abbrev pub is_trying : Course → Bool
is_trying (Trying n) = true
is_trying course = false

abbrev pub is_out : Course → Bool
is_out OutOfTries = true
is_out course = false

-- a row whose hole nobody fills is cleared; where the reply has not begun, its request is decided again without it, once, and its
-- attempts count anew
abbrev pub without_row : Client → Client
without_row c = elim (is_begun c || c.has_given_up) [ true ↦ c | false ↦ record c { course = anew c.course; has_given_up = true } ]

-- a row that may not be shared is cleared: the same; where a row was cleared for the request before, an attempt is lost
abbrev pub without_shared_row : ℕ → Client → Client
without_shared_row most c = elim (c.has_given_up && not (is_begun c)) [ true ↦ record c { course = lost_one most c.course } | false ↦ without_row c ]

abbrev pub is_unfilled : State → Exchange → Bool
is_unfilled s e =
    is_some_with (λ v. is_some_with (λ x. is_same_version v x.version) (row s (text_of e.key))) (filled_of e)
    && list_any (λ c. is_for e c && is_out c.course) s.clients

unfoldable pub give_up_row : Exchange → State → State
give_up_row e s = elim (is_unfilled s e) [
  | false ↦ s
  | true ↦ on_exchange e.number (λ x. record x { asker = None }) (on_client_of e without_row (clear (text_of e.key) s))
]

-- what an exchange costs its request
unfoldable pub charge : (Course → Course) → Exchange → State → State
charge cost e s = give_up_row e (on_client_of e (λ c. record c { course = cost c.course }) s)

unfoldable pub lose_attempt : Exchange → State → State
lose_attempt e s = charge (lost_one (attempts_of e)) e s

-- its attempts end at once
unfoldable pub fail : Exchange → State → State
fail e s = charge out_of_tries e s

-- its request waits for it, and may ask once more
abbrev pub may_ask_again : State → ℕ → Bool
may_ask_again s n = is_some_with (λ e. list_any (λ c. is_for e c && is_trying c.course) s.clients) (exchange s n)

-- ---- an exchange is over

abbrev pub without_ask : ℕ → Conn → Conn
without_ask n k = record k { line = filter (λ m. not (m == n)) k.line }

unfoldable pub end_exchange : ℕ → State → State
end_exchange n s = record s { exchanges = without (is_exchange n) s.exchanges; conns = map (without_ask n) s.conns }

abbrev pub unplaced : Exchange → Exchange
unplaced e = record e { place = None; asked = 0 }

-- its connection is gone: behind its head it is over, and before that it is asked again for the request that waits for it
unfoldable pub leave_place : Exchange → State → State
leave_place e s = elim (is_headed e) [
  | true ↦ end_exchange e.number (on_client_of e (on_passed (λ p. record p { is_short = true })) s)
  | false ↦ elim (may_ask_again s e.number) [ true ↦ on_exchange e.number unplaced s | false ↦ end_exchange e.number s ]
]

-- counts: its attempt is lost
unfoldable pub lose_place : Bool → Exchange → State → State
lose_place counts e s = elim counts [ true ↦ leave_place e (lose_attempt e s) | false ↦ leave_place e s ]

-- a connection's cause to be closed has come. "Client software SHOULD reopen the transport connection and retransmit the
-- aborted sequence of requests"; ours: an attempt is lost where the connection never brought a whole response
unfoldable pub close_conn : Bool → Conn → State → State
close_conn counts k s =
    each_exchange (lose_place (counts && not k.has_brought)) k.line (on_conn k.number (λ j. record j { is_closing = true; line = []; answer = None; unread = [] }) s)

-- ---- places

abbrev pub open_conns : State → List Conn
open_conns s = without (λ k. k.is_closing) s.conns

abbrev pub load_of : State → Conn → Load
load_of s k = record {
  asks = length k.line;
  outstanding = count_by (λ n. is_some_with is_outstanding (exchange s n)) k.line;
  may_pipeline = k.may_pipeline && not (list_any (λ n. is_some_with (λ e. goes_alone e.head) (exchange s n)) k.line);
}

-- a connection as far as places depend on it
abbrev pub with_load : State → Conn → Loaded
with_load s k = record { number = k.number; host = k.host; port = k.port; load = load_of s k }

abbrev pub limits : State → Limits
limits s = record { host_connections = s.settings.host_connections; pipelines_asks = s.settings.pipelines_asks }

-- where it would be asked now
abbrev pub place_for : State → Exchange → Placed
place_for s e = place (limits s) e.key.host e.key.port (goes_alone e.head) (map (with_load s) (open_conns s))

-- it is the last of that line
unfoldable pub put_on : ℕ → ℕ → State → State
put_on n k s = on_conn k (λ j. record j { line = j.line ++ n ∷ [] }) (on_exchange n (λ e. record e { place = Some k; asked = 0 }) s)

-- what placing waits for: nothing; the dial for an exchange; or that a connection is dropped before it
pub data Pause : Type 0 where
  AllPlaced : Pause
  WaitsDial : Exchange → Pause
  WaitsDrop : ℕ → Exchange → Pause

pub record Placement : Type 0 where
  pub state : State
  pub pause : Pause

abbrev pub if_unplaced : Exchange → Option Exchange
if_unplaced e = elim e.place [ Some k ↦ None | None ↦ Some e ]

-- each exchange without a place, in the order of their beginnings, up to the first that needs a new connection
abbrev pub place_each : List ℕ → State → Placement
place_each [] s = record { state = s; pause = AllPlaced }
place_each (n ∷ ns) s = elim (option_and_then if_unplaced (exchange s n)) [
  | None ↦ place_each ns s
  | Some e ↦ elim (place_for s e) [
    | On k ↦ place_each ns (put_on n k s)
    | Wait ↦ place_each ns s
    | Dial ↦ record { state = s; pause = WaitsDial e }
    | CloseThenDial k ↦ record { state = s; pause = WaitsDrop k e }
  ]
]

abbrev pub placing : State → Placement
placing s = place_each (map (λ e. e.number) s.exchanges) s
