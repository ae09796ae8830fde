-- The pieces that a step of the law is made of keep what is kept of clients, exchanges and rows: for who stands amid one.
use Rattle.std.proofs.Common.{◌≡◌, ℕ, Bool, true}
use Rattle.pp_world.specs.declared.note.Decision.{Decision}
use Rattle.pp_law.specs.Closing.{close_client, forsake, is_of, leave}
use Rattle.pp_law.specs.Connections.{close_conn, end_exchange, fail, lose_attempt, placing, put_on}
use Rattle.pp_law.specs.Deciding.{begin_exchange, decided, enter_row}
use Rattle.pp_law.specs.Followers.{fill, give_up_asks}
use Rattle.pp_law.specs.Lists.{Bytes}
use Rattle.pp_law.specs.Replies.{begin_replies, end_replies, regained}
use Rattle.pp_law.specs.Responses.{bad_response, ended, finish}
use Rattle.pp_law.specs.State.{State, Answer, Client, Conn, Exchange}
use Rattle.pp_law.specs.Table.{clear, enter, swept}
use Rattle.pp_law.specs.Turn.{tick}
use Rattle.pp_law.specs.Unseen.{drop_unseen}
use Rattle.pp_laws.specs.Runs.{IsIn}
use Rattle.pp_laws_turn.proofs.View.{Holds, IsNew, Takes, facts_of, holds, is_late}
use Rattle.pp_laws_turn.proofs.Clients.{IsThere, begin_exchange-keeps, begin_replies-keeps, close_client-keeps, decided-named, end_replies-keeps, enter_row-named, fill-keeps, forsake-keeps, give_up_asks-keeps, leave-keeps, regained-keeps}
use Rattle.pp_laws_turn.proofs.Closings.{close_conn-keeps}
use Rattle.pp_laws_turn.proofs.Exchanges.{end_exchange-keeps, fail-keeps, lose_attempt-keeps}
use Rattle.pp_laws_turn.proofs.Kept.{IsShort, Turn, named_short, turn_begins, turn_follows, turn_lined, turn_places, turn_walk}
use Rattle.pp_laws_turn.proofs.Pieces.{bad_response-keeps, ended-keeps, finish-keeps}
use Rattle.pp_laws_turn.proofs.Rows.{clear-keeps, enter-named, swept-keeps}
use Rattle.pp_laws_turn.proofs.Steps.{drop_unseen-keeps, placing-keeps, tick-keeps}

-- ---- replies and closings

pub replies_end : (s : State) → Holds Turn s → Holds Turn (end_replies s)
replies_end s h = end_replies-keeps turn_walk s h

pub replies_begin : (s : State) → Holds Turn s → Holds Turn (begin_replies s)
replies_begin s h = begin_replies-keeps turn_walk s h

pub client_closes : (n : ℕ) (is_cut : Bool) (s : State) → Holds Turn s → Holds Turn (close_client n is_cut s)
client_closes n is_cut s h = close_client-keeps turn_walk n is_cut s h

pub conn_closes : (counts : Bool) (k : Conn) (s : State) → Holds Turn s → Holds Turn (close_conn counts k s)
conn_closes counts k s h = close_conn-keeps turn_walk counts k s h

pub unseen_drop : (s : State) → Holds Turn s → Holds Turn (drop_unseen s)
unseen_drop s h = drop_unseen-keeps turn_walk s h

pub attempts_count : (s : State) → Holds Turn s → Holds Turn (regained s)
attempts_count s h = regained-keeps turn_walk s h

pub clock_ticks : (now : ℕ) (s : State) → Holds Turn s → Holds Turn (tick now s)
clock_ticks now s h = tick-keeps turn_walk now s h

-- ---- exchanges

pub exchange_ends : (n : ℕ) (s : State) → Holds Turn s → Holds Turn (end_exchange n s)
exchange_ends n s h = end_exchange-keeps turn_walk n s h

pub exchange_begins : (e : Exchange) (s : State) → IsNew e s.clients s.next_exchange → Holds Turn s → Holds Turn (begin_exchange e s)
exchange_begins e s is_new h = begin_exchange-keeps turn_begins e s is_new h

pub attempt_is_lost : (e : Exchange) (s : State) → Holds Turn s → Holds Turn (lose_attempt e s)
attempt_is_lost e s h = lose_attempt-keeps turn_walk e s h

pub attempts_end : (e : Exchange) (s : State) → Holds Turn s → Holds Turn (fail e s)
attempts_end e s h = fail-keeps turn_walk e s h

pub asks_are_left : (n : ℕ) (s : State) → Holds Turn s → Holds Turn (leave (is_of n) s)
asks_are_left n s h = leave-keeps turn_walk (is_of n) s h

pub asks_are_forsaken : (test : Exchange → Bool) (s : State) → Holds Turn s → Holds Turn (forsake test s)
asks_are_forsaken test s h = forsake-keeps turn_walk test s h

pub asks_are_given_up : (s : State) → Holds Turn s → Holds Turn (give_up_asks s)
asks_are_given_up s h = give_up_asks-keeps turn_walk s h

pub followers_ask : (s : State) → Holds Turn s → Holds Turn (fill s)
followers_ask s h = fill-keeps turn_walk turn_begins s h

pub places_are_given : (s : State) → Holds Turn s → Holds Turn (placing s).state
places_are_given s h = placing-keeps turn_places turn_lined s h

pub place_is_given : (n k : ℕ) (s : State) → Takes n k s.conns s.exchanges s.next_exchange → Holds Turn s → Holds Turn (put_on n k s)
place_is_given n k s takes h = holds (turn_places n k s takes (facts_of h))

-- ---- responses

pub response_ends : (k : Conn) (e : Exchange) (a : Answer) (s : State) → Holds Turn s → Holds Turn (finish k e a s)
response_ends k e a s h = finish-keeps turn_walk k e a s h

pub response_is_bad : (k : Conn) (s : State) → Holds Turn s → Holds Turn (bad_response k s)
response_is_bad k s h = bad_response-keeps turn_walk k s h

pub conn_ends : (is_clean : Bool) (k : Conn) (s : State) → Holds Turn s → Holds Turn (ended is_clean k s)
conn_ends is_clean k s h = ended-keeps turn_walk is_clean k s h

-- ---- decisions and rows

-- where it is taken for a client that goes on, in a phase in which decisions are
pub is_decided : (c : Client) (d : Decision) (s : State) → IsThere c s.clients → is_late s.phase ≡ true → Holds Turn s → Holds Turn (decided c d s)
is_decided c d s there late h = decided-named turn_walk turn_begins turn_follows c d s (named_short c ((facts_of h).bodied c there.there)) ((facts_of h).bodied c there.there) there late h

pub row_enters_for : (c : Client) (d : Decision) (s : State) → IsIn c s.clients → Holds Turn s → Holds Turn (enter_row c d s)
row_enters_for c d s i h = enter_row-named turn_walk.rows c d s (named_short c ((facts_of h).bodied c i)) h

pub row_enters : (key : Bytes) (is_new : Bool) (s : State) → IsShort key → Holds Turn s → Holds Turn (enter key is_new s)
row_enters key is_new s short h = enter-named turn_walk.rows key is_new s short h

pub row_is_cleared : (key : Bytes) (s : State) → Holds Turn s → Holds Turn (clear key s)
row_is_cleared key s h = clear-keeps turn_walk.rows key s h

pub rows_are_swept : (s : State) → Holds Turn s → Holds Turn (swept s)
rows_are_swept s h = swept-keeps turn_walk.rows s h
