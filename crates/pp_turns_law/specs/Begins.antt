-- Replies begin at the end of a turn as the law has them begin (RFC 2616, sections 6, 8.1.4, 13.2.3 and 14; RFC 7233, section 4).
use Rattle.std.specs.Prelude.{◌≡◌, ◌≤◌, ℕ, Bool, true, false, ◌&&◌, not, count_by, is_some, length, slice_get, List, [], Some, None}
use Rattle.std.specs.List.{list_any}
use Rattle.pp_cache.specs.Bounds.{IsBounded}
use Rattle.pp_cache.specs.Memory.{Memory}
use Rattle.pp_turns_law.specs.Turns.{IsFollowing, ShowsTurn}
use Rattle.pp_flow_law.specs.Tables.{Leaving}
use Rattle.pp_law.specs.Closing.{is_of}
use Rattle.pp_law.specs.Lists.{Bytes}
use Rattle.pp_law.specs.Replies.{begin_replies, begun_at_end, instance_head}
use Rattle.pp_law.specs.Requests.{Parsed, IsRequest}
use Rattle.pp_law.specs.Stages.{is_headed, is_passing, passed_of}
use Rattle.pp_law.specs.State.{State, Client, Instance as Known}
use Rattle.pp_law.specs.Table.{instance}
use Rattle.pp_law.specs.Deciding.{span_of}
use Rattle.pp_objects.specs.declared.id.ObjectId.{ObjectId}
use Rattle.pp_peers.specs.declared.peers.Peer.{Peer}
use Rattle.pp_plan.specs.Spans.{resolved}
use Rattle.pp_seats.specs.Dues.{is_refused_in}
use Rattle.pp_seats.specs.declared.seat.Answer.{Answer}
use Rattle.pp_seats.specs.declared.seat.Seat.{Seat}
use Rattle.pp_seats.specs.declared.seat.Stage.TheVariants.{Answering as IsAnswering}
use Rattle.pp_seats_law.specs.Dues.{AreApart}
use Rattle.pp_seats_law.specs.Seats.{ShowsSeat}
use Rattle.pp_steps.specs.Begins.{BeginsReplies, BeginsReply, can_show, is_part, keeps_lines, shows_of}
use Rattle.pp_state.specs.declared.state.State.{State as Turn}
use Rattle.pp_turns_law.specs.Firsts.{AreAwake}
use Rattle.pp_world.specs.declared.note.Decision.{Decision}
use Rattle.pp_world.specs.declared.note.Decision.TheVariants.{Hit, Part, Head, NotModified, Unsatisfiable}

-- ---- a reply that was decided, and has not begun

-- it is made from an instance
abbrev pub is_kept_by : Decision → Bool
is_kept_by (Hit from to) = true
is_kept_by (Part from to) = true
is_kept_by Head = true
is_kept_by NotModified = true
is_kept_by Unsatisfiable = true
is_kept_by d = false

-- of the instance that it shows, what was decided may be shown: a part lies within the body, the lines that are kept have room in a
-- head, and so has the head
pub record MayShow (s : State) (a : Answer) (c : Client) (r : Parsed) (x : Known) : Type 0 where
  pub span : can_show (shows_of a.decision (a.from, a.to) (is_part (resolved r.head.fields x.version))) x.version.length ≡ true
  pub lines : keeps_lines x.fields ≡ true
  pub room : length (instance_head s r c x a.decision) ≤ 20480

-- one that is passed follows nothing; any other is made from an instance, from the first offset of its decision to the last; what its
-- exchange brought was not refused memory, and is told apart from that instance by its number
pub record IsDecidedAs (number : ℕ → ℕ) (s : State) (seat : Seat) (c : Client) (a : Answer) : Type 0 where
  pub passes : is_passing a.decision ≡ true → a.source ≡ None
  pub kept : is_passing a.decision ≡ false → is_kept_by a.decision ≡ true
  pub from : a.from ≡ (span_of a.decision).0
  pub to : a.to ≡ (span_of a.decision).1
  pub order : a.from ≤ a.to
  pub given : is_refused_in seat.brought ≡ false
  pub apart : AreApart number a.source seat.brought
  pub shows : (r : Parsed) (x : Known) (id : ObjectId) → is_passing a.decision ≡ false → c.front ≡ IsRequest r → a.source ≡ Some id → instance s (number id.life) ≡ Some x → MayShow s a c r x

-- ---- a client whose reply may begin

-- what it follows is there; what was written for it has room in its buffer; it asks one exchange at most, which had its head where its
-- response is passed; and what was decided of it stands: nothing is due of it any more
pub record MayBegin (number : ℕ → ℕ) (m : Memory) (s : State) (seat : Seat) (c : Client) : Type 0 where
  pub follows : IsFollowing m seat
  pub room : length seat.client.reply.text ≤ 20480
  pub once : count_by (is_of c.number) s.exchanges ≤ 1
  pub headed : is_some (passed_of c) ≡ true → list_any (λ e. is_of c.number e && not (is_headed e)) s.exchanges ≡ false
  pub decided : (a : Answer) → seat.stage ≡ IsAnswering a → a.has_begun ≡ false → IsDecidedAs number s seat c a

-- the client at a place, which may begin its reply where it goes on
pub record IsReadyAt (number : ℕ → ℕ) (i : ℕ) (p : Turn) (s : State) (seat : Seat) (c : Client) : Type 0 where
  pub here : slice_get p.seats.items i ≡ Some seat
  pub shows : ShowsSeat number p.name.items [] seat c
  pub may : c.is_closing ≡ false → MayBegin number p.cache s seat c

-- ---- one seat

-- behind it stands the seat of the client whose reply has begun, where it may
pub record HasBegunAt (number : ℕ → ℕ) (i : ℕ) (name : Bytes) (q : Turn) (s : State) (c : Client) : Type 0 where
  pub seat : Seat
  pub here : slice_get q.seats.items i ≡ Some seat
  pub shows : ShowsSeat number name [] seat (begun_at_end s c)

abbrev pub SeatsBeginAsTheLaws : Type 0
SeatsBeginAsTheLaws = (number : ℕ → ℕ) (l : Leaving) (peers : List Peer) (i : ℕ) (p q : Turn) (s : State) (seat : Seat) (c : Client) → ShowsTurn number l peers p s → IsReadyAt number i p s seat c → BeginsReply i p q
    → HasBegunAt number i p.name.items q s c

-- ---- all of them

-- each client that goes on may begin its reply
abbrev pub AllMayBegin : (ℕ → ℕ) → Turn → State → Type 0
AllMayBegin number p s = (i : ℕ) (seat : Seat) (c : Client) → slice_get p.seats.items i ≡ Some seat → slice_get s.clients i ≡ Some c → c.is_closing ≡ false → MayBegin number p.cache s seat c

-- the cache behind it is bounded, as each is
abbrev pub BeginsAreTheLaws : Type 0
BeginsAreTheLaws = (number : ℕ → ℕ) (l : Leaving) (peers : List Peer) (p q : Turn) (s : State) → ShowsTurn number l peers p s → AreAwake p → AllMayBegin number p s → BeginsReplies p.awake.items p q → IsBounded q.cache
    → ShowsTurn number l peers q (begin_replies s)
