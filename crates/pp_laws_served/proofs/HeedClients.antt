-- What is decided for clients, said to them and begun leaves them at their requests.
use Rattle.std.proofs.Common.{refl, ℕ, ◌+◌, ◌-◌, Bool, true, false, ◌&&◌, not, nat_le, [], drop, length, Option, Some, None, zero-le}
use Rattle.pp_ask.specs.declared.kind.AskKind.{AskKind}
use Rattle.pp_head.specs.Request.{Request}
use Rattle.pp_pass.specs.Pipe.{without_first}
use Rattle.pp_reply.specs.Keeping.{is_end_known}
use Rattle.pp_target.specs.Key.{Key, text_of}
use Rattle.pp_text.specs.Bytes.{is_empty}
use Rattle.pp_world.specs.declared.note.Decision.{Decision}
use Rattle.pp_world.specs.declared.note.Decision.TheVariants.{Refuse, Hit, Part, Head, NotModified, Unsatisfiable, Relay, Validate, Fetch, Pass}
use Rattle.pp_law.specs.Closing.{is_of}
use Rattle.pp_law.specs.Deciding.{answering_with, ask_as, ask_for, ask_origin, asking_with, decided, decided_by, follow, follow_row, follow_with, new_exchange, refuse, refused_with, relay, reply_by}
use Rattle.pp_law.specs.Decisions.{kind_of}
use Rattle.pp_law.specs.Replies.{begin_replies, begun_at_end, begun_by, begun_decided, begun_instance, begun_passed, begun_reply, is_outrun, may_begin, passed_reply, said_by, said_of, said_of_body}
use Rattle.pp_law.specs.Requests.{Front, Parsed, NoHeadYet, NoHead, IsRequest, keeps_open, key_in}
use Rattle.pp_law.specs.Stages.{is_passing, on_passed, passed_of, reply_of}
use Rattle.pp_law.specs.State.{State, Client, Instance, Passed, Reply, Stage, Undecided, Waiting, Passing, Answering}
use Rattle.pp_law.specs.Table.{row, row_for, source_of}
use Rattle.pp_laws_served.proofs.Cases.{by_front, by_result, each_of}
use Rattle.pp_laws_served.proofs.Heed.{Heeds, Still, as_it_was, clients_mapped, facts_of, heeds, still_on, still_same}
use Rattle.pp_laws_served.proofs.HeedAsks.{begin_exchange-heeds, forsake-heeds, leave-heeds, on_client-heeds, on_passed-heeds}
use Rattle.pp_laws_served.proofs.HeedHeads.{fewer}
use Rattle.pp_laws_served.proofs.HeedRows.{swept-heeds}
use Rattle.pp_laws_served.proofs.HeedTurns.{enter_row-heeds}

-- ---- what is decided

refused_with-still : (status : ℕ) (c : Client) → Still (refused_with status c) c
refused_with-still status c = record { number = refl; front = refl; hung = refl; closing = λ is. is; heard = fewer c.body_left c.heard; left = λ le. zero-le }

asking_with-still : (d : Decision) (c : Client) → Still (asking_with d c) c
asking_with-still d c = as_it_was _ c refl refl refl (λ is. is) refl refl

answering_with-still : (r : Reply) (c : Client) → Still (answering_with r c) c
answering_with-still r c = as_it_was _ c refl refl refl (λ is. is) refl refl

refuse-heeds : {o : State} (c : Client) (status : ℕ) (s : State) → Heeds o s → Heeds o (refuse c status s)
unfolding refuse
refuse-heeds c status s h = swept-heeds _ (leave-heeds (is_of c.number) _ (on_client-heeds c.number (refused_with status) s (refused_with-still status) h))

ask_for-heeds : {o : State} (c : Client) (d : Decision) (head : Request) (key : Key) (kind : AskKind) (s : State) → Heeds o s → Heeds o (ask_for c d head key kind s)
unfolding ask_for
ask_for-heeds c d head key kind s h = swept-heeds _ (begin_exchange-heeds (new_exchange s c head key d kind) _ (leave-heeds (is_of c.number) _ (on_client-heeds c.number (asking_with d) s (asking_with-still d) h)))

ask_origin-heeds : {o : State} (c : Client) (d : Decision) (s : State) → Heeds o s → Heeds o (ask_origin c d s)
unfolding ask_origin ask_as
ask_origin-heeds c d s h =
    by_front c.front h (λ status. h) (λ r. by_result r.key (λ key. each_of (kind_of r.head (row_for s r.head (text_of key)) d) h (λ kind. ask_for-heeds c d r.head key kind s h)) (λ fault. h))

follow-heeds : {o : State} (c : Client) (d : Decision) (s : State) → Heeds o s → Heeds o (follow c d s)
unfolding follow follow_row follow_with
follow-heeds c d s h =
    each_of (key_in c.front) h
    (λ key. each_of (row s (text_of key)) h
    (λ x. swept-heeds _ (leave-heeds _ _ (on_client-heeds c.number (answering_with (reply_by d (Some x.id))) s (answering_with-still (reply_by d (Some x.id))) h))))

relay-heeds : {o : State} (c : Client) (s : State) → Heeds o s → Heeds o (relay c s)
unfolding relay
relay-heeds c s h = swept-heeds _ (on_client-heeds c.number (answering_with (reply_by Relay None)) s (answering_with-still (reply_by Relay None)) h)

decided_by-heeds : {o : State} (c : Client) (d : Decision) (s : State) → Heeds o s → Heeds o (decided_by c d s)
unfolding decided_by
decided_by-heeds c (Refuse status) s h = refuse-heeds c status s h
decided_by-heeds c Pass s h = ask_origin-heeds c Pass s h
decided_by-heeds c Fetch s h = ask_origin-heeds c Fetch s h
decided_by-heeds c Validate s h = ask_origin-heeds c Validate s h
decided_by-heeds c Relay s h = relay-heeds c s h
decided_by-heeds c (Hit from to) s h = follow-heeds c (Hit from to) s h
decided_by-heeds c (Part from to) s h = follow-heeds c (Part from to) s h
decided_by-heeds c Head s h = follow-heeds c Head s h
decided_by-heeds c NotModified s h = follow-heeds c NotModified s h
decided_by-heeds c Unsatisfiable s h = follow-heeds c Unsatisfiable s h

pub decided-heeds : {o : State} (c : Client) (d : Decision) (s : State) → Heeds o s → Heeds o (decided c d s)
unfolding decided
decided-heeds c d s h = decided_by-heeds c d _ (enter_row-heeds c d s h)

-- ---- what is said

body_still : (n : ℕ) (r : Reply) (c : Client) (passing : Bool) → Still (elim passing as (λ x. Client) [
  | true ↦ on_passed (λ p. record p { pipe = without_first n p.pipe }) (record c { stage = Answering r })
  | false ↦ record c { stage = Answering (record r { at = r.at + n }) }
]) c
body_still n r c true =
    let d : Client = record c { stage = Answering r } in
    still_on _ d c (on_passed-heeds (λ p. record p { pipe = without_first n p.pipe }) d) (as_it_was d c refl refl refl (λ is. is) refl refl)
body_still n r c false = as_it_was _ c refl refl refl (λ is. is) refl refl

of_still : (n : ℕ) (r : Reply) (c : Client) (of_head : Bool) → Still (elim of_head as (λ x. Client) [
  | true ↦ record c { stage = Answering (record r { head_left = drop n r.head_left }) }
  | false ↦ said_of_body (n - length r.head_left) (record r { head_left = [] }) c
]) c
of_still n r c true = as_it_was _ c refl refl refl (λ is. is) refl refl
of_still n r c false = body_still (n - length r.head_left) (record r { head_left = [] }) c (is_passing r.decision)

reply_still : (n : ℕ) (c : Client) (reply : Option Reply) → Still (elim reply as (λ x. Client) [ None ↦ c | Some r ↦ said_of n r c ]) c
reply_still n c None = still_same c
reply_still n c (Some r) = of_still n r c (nat_le n (length r.head_left))

said_still : (n : ℕ) (c : Client) (empty : Bool)
    → Still (elim empty as (λ x. Client) [ false ↦ record c { interim_left = drop n c.interim_left } | true ↦ elim (reply_of c) as (λ x. Client) [ None ↦ c | Some r ↦ said_of n r c ] ]) c
said_still n c false = as_it_was _ c refl refl refl (λ is. is) refl refl
said_still n c true = reply_still n c (reply_of c)

pub said_by-still : (n : ℕ) (c : Client) → Still (said_by n c) c
said_by-still n c = said_still n c (is_empty c.interim_left)

-- ---- a reply begins

passed_still : (s : State) (r : Parsed) (d : Decision) (c : Client) (passed : Option Passed)
    → Still (elim passed as (λ x. Client) [
      | None ↦ c
      | Some p ↦ record c { stage = Answering (passed_reply s r p d); closes = not (keeps_open r && is_end_known p.rule r.head.minor) }
    ]) c
passed_still s r d c None = still_same c
passed_still s r d c (Some p) = as_it_was _ c refl refl refl (λ is. is) refl refl

from_still : (s : State) (r : Parsed) (reply : Reply) (c : Client) (x : Instance) (may : Bool)
    → Still (elim may as (λ y. Client) [ true ↦ record c { stage = Answering (begun_reply s r c reply x) } | false ↦ c ]) c
from_still s r reply c x false = still_same c
from_still s r reply c x true = as_it_was _ c refl refl refl (λ is. is) refl refl

source_still : (s : State) (r : Parsed) (reply : Reply) (c : Client) (source : Option Instance)
    → Still (elim source as (λ y. Client) [
      | None ↦ c
      | Some x ↦ elim (may_begin s reply x) as (λ y. Client) [ true ↦ record c { stage = Answering (begun_reply s r c reply x) } | false ↦ c ]
    ]) c
source_still s r reply c None = still_same c
source_still s r reply c (Some x) = from_still s r reply c x (may_begin s reply x)

decided_still : (s : State) (r : Parsed) (reply : Reply) (c : Client) (passing : Bool)
    → Still (elim passing as (λ y. Client) [ true ↦ begun_passed s r reply.decision c | false ↦ begun_instance s r reply c ]) c
decided_still s r reply c true = passed_still s r reply.decision c (passed_of c)
decided_still s r reply c false = source_still s r reply c (source_of s reply)

answer_still : (s : State) (r : Parsed) (reply : Reply) (c : Client) (begun : Bool)
    → Still (elim begun as (λ y. Client) [ true ↦ c | false ↦ begun_decided s r reply c ]) c
answer_still s r reply c true = still_same c
answer_still s r reply c false = decided_still s r reply c (is_passing reply.decision)

stage_still : (s : State) (r : Parsed) (c : Client) (stage : Stage)
    → Still (elim stage as (λ y. Client) [
      | Undecided ↦ c
      | Waiting ↦ c
      | Passing ↦ begun_passed s r Pass c
      | Answering reply ↦ elim reply.has_begun as (λ y. Client) [ true ↦ c | false ↦ begun_decided s r reply c ]
    ]) c
stage_still s r c Undecided = still_same c
stage_still s r c Waiting = still_same c
stage_still s r c Passing = passed_still s r Pass c (passed_of c)
stage_still s r c (Answering reply) = answer_still s r reply c reply.has_begun

front_still : (s : State) (c : Client) (front : Front) → Still (elim front as (λ y. Client) [ NoHeadYet ↦ c | NoHead status ↦ c | IsRequest r ↦ begun_by s r c ]) c
front_still s c NoHeadYet = still_same c
front_still s c (NoHead status) = still_same c
front_still s c (IsRequest r) = stage_still s r c c.stage

closing_still : (s : State) (c : Client) (closing : Bool)
    → Still (elim closing as (λ y. Client) [ true ↦ c | false ↦ elim c.front as (λ y. Client) [ NoHeadYet ↦ c | NoHead status ↦ c | IsRequest r ↦ begun_by s r c ] ]) c
closing_still s c true = still_same c
closing_still s c false = front_still s c c.front

begun_at_end-still : (s : State) (c : Client) → Still (begun_at_end s c) c
begun_at_end-still s c = closing_still s c c.is_closing

pub begin_replies-heeds : {o : State} (s : State) → Heeds o s → Heeds o (begin_replies s)
unfolding begin_replies
begin_replies-heeds {o} s h = swept-heeds _ (forsake-heeds (is_outrun s) _ (heeds (clients_mapped o s (begun_at_end s) (begun_at_end-still s) (facts_of h))))
