-- What is done to a client leaves it at its request, and it follows nothing else.
use Rattle.std.proofs.Common.{◌≡◌, refl, ℕ, ◌+◌, ◌-◌, Bool, true, false, not, ◌&&◌, nat_le, [], ◌++◌, drop, length, Option, Some, None, sym, ap, ◌∙◌}
use Rattle.pp_pass.specs.Pipe.{without_first}
use Rattle.pp_reply.specs.Keeping.{is_end_known}
use Rattle.pp_text.specs.Bytes.{is_empty}
use Rattle.pp_world.specs.declared.note.Decision.TheVariants.{Pass}
use Rattle.pp_world.specs.declared.note.Decision.{Decision}
use Rattle.pp_law.specs.Deciding.{refused_with, asking_with, reply_by, answering_with}
use Rattle.pp_law.specs.Hearing.{what_counts, fronted, heard_by}
use Rattle.pp_law.specs.Lists.{Bytes}
use Rattle.pp_law.specs.Connections.{anew}
use Rattle.pp_law.specs.Replies.{passed_reply, begun_passed, may_begin, begun_reply, begun_instance, begun_decided, begun_by, begun_at_end, said_of_body, said_of, said_by, is_regained, regained_by}
use Rattle.pp_law.specs.Requests.{Front, Parsed, NoHeadYet, NoHead, IsRequest, keeps_open}
use Rattle.pp_law.specs.Stages.{is_passing, on_passed, passed_of, reply_of}
use Rattle.pp_law.specs.State.{State, Client, Passed, Passes, Stage, Undecided, Waiting, Passing, Answering, Reply, Instance}
use Rattle.pp_law.specs.Table.{source_of}
use Rattle.pp_world.specs.declared.note.Decision.TheVariants.{Relay}
use Rattle.pp_laws.proofs.Callers.{asking_with-same as asking_with-source, begun_at_end-same as begun_at_end-source, heard_by-same as heard_by-source, on_passed-same as on_passed-source, refused_with-same as refused_with-source, regained_by-same as regained_by-source, relayed-same as relayed-source, said_by-same as said_by-source}
use Rattle.pp_laws.proofs.KeptClients.{SameClient as SameSource}
use Rattle.pp_laws_turn.proofs.Bodies.{still_bodied, with_front_bodied}
use Rattle.pp_laws_turn.proofs.View.{SameClient, joined_in}

-- it is closing where it was, and at the request at which it was; no more of its body is left, and its exchange joined no other row
record Stays (d c : Client) : Type 0 where
  closing : d.is_closing ≡ c.is_closing
  front : d.front ≡ c.front
  left : c.body_left ≡ 0 → d.body_left ≡ 0
  joins : (id : ℕ) → joined_in d.brought ≡ Some id → joined_in c.brought ≡ Some id

stays : (c : Client) → Stays c c
stays c = record { closing = refl; front = refl; left = λ is. is; joins = λ id is. is }

both_of : (d c : Client) → SameSource d c → Stays d c → SameClient d c
both_of d c s t = record { number = s.number; closing = t.closing; source = λ id is. (s.source id is).source; request = λ r is. t.front ∙ is; body = still_bodied d c t.front t.left; joins = t.joins }

-- ---- what is heard

with_front_by : (c : Client) (front : Front) (r : Parsed) → front ≡ IsRequest r → (elim front as (λ x. Client) [ NoHeadYet ↦ fronted c | NoHead status ↦ c | IsRequest q ↦ c ]).front ≡ c.front
with_front_by c NoHeadYet r is = absurd (cc is)
with_front_by c (NoHead status) r is = absurd (cc is)
with_front_by c (IsRequest q) r is = refl

with_front_closing : (c : Client) (front : Front) → (elim front as (λ x. Client) [ NoHeadYet ↦ fronted c | NoHead status ↦ c | IsRequest q ↦ c ]).is_closing ≡ c.is_closing
with_front_closing c NoHeadYet = refl
with_front_closing c (NoHead status) = refl
with_front_closing c (IsRequest q) = refl

with_front_brought : (c : Client) (front : Front) → (elim front as (λ x. Client) [ NoHeadYet ↦ fronted c | NoHead status ↦ c | IsRequest q ↦ c ]).brought ≡ c.brought
with_front_brought c NoHeadYet = refl
with_front_brought c (NoHead status) = refl
with_front_brought c (IsRequest q) = refl

pub heard_by-same : (bytes : Bytes) (c : Client) → SameClient (heard_by bytes c) c
heard_by-same bytes c = record {
  number = (heard_by-source bytes c).number;
  closing = with_front_closing was c.front;
  source = λ id is. ((heard_by-source bytes c).source id is).source;
  request = λ r is. with_front_by was c.front r is ∙ is;
  body = λ b. with_front_bodied was c.front b;
  joins = λ id is. sym (ap joined_in (with_front_brought was c.front)) ∙ is;
}
  where
    was : Client
    was = record c { heard = c.heard ++ what_counts c.front (drop c.skip bytes); skip = c.skip - length bytes }

-- ---- what is decided

pub asking_with-same : (d : Decision) (c : Client) → SameClient (asking_with d c) c
asking_with-same d c = both_of _ c (asking_with-source d c) (record { closing = refl; front = refl; left = λ is. is; joins = λ id is. absurd (cc is) })

pub refused_with-same : (status : ℕ) (c : Client) → SameClient (refused_with status c) c
refused_with-same status c = both_of _ c (refused_with-source status c) (record { closing = refl; front = refl; left = λ is. refl; joins = λ id is. absurd (cc is) })

pub relayed-same : (c : Client) → SameClient (answering_with (reply_by Relay None) c) c
relayed-same c = both_of _ c (relayed-source c) (record { closing = refl; front = refl; left = λ is. is; joins = λ id is. is })

-- ---- what is said

passed_stays : (f : Passed → Passed) (c : Client) (passed : Option Passed) → Stays (elim passed as (λ x. Client) [ None ↦ c | Some p ↦ record c { brought = Passes (f p) } ]) c
passed_stays f c None = stays c
passed_stays f c (Some p) = record { closing = refl; front = refl; left = λ is. is; joins = λ id is. absurd (cc is) }

pub on_passed-same : (f : Passed → Passed) (c : Client) → SameClient (on_passed f c) c
on_passed-same f c = both_of _ c (on_passed-source f c) (passed_stays f c (passed_of c))

body_stays : (n : ℕ) (r : Reply) (c : Client) (passing : Bool) → Stays (elim passing as (λ x. Client) [
  | true ↦ on_passed (λ p. record p { pipe = without_first n p.pipe }) (record c { stage = Answering r })
  | false ↦ record c { stage = Answering (record r { at = r.at + n }) }
]) c
body_stays n r c true =
    let d : Client = record c { stage = Answering r } in
    let s = passed_stays (λ p. record p { pipe = without_first n p.pipe }) d (passed_of d) in
    record { closing = s.closing; front = s.front; left = s.left; joins = s.joins }
body_stays n r c false = record { closing = refl; front = refl; left = λ is. is; joins = λ id is. is }

of_stays : (n : ℕ) (r : Reply) (c : Client) (of_head : Bool) → Stays (elim of_head as (λ x. Client) [
  | true ↦ record c { stage = Answering (record r { head_left = drop n r.head_left }) }
  | false ↦ said_of_body (n - length r.head_left) (record r { head_left = [] }) c
]) c
of_stays n r c true = record { closing = refl; front = refl; left = λ is. is; joins = λ id is. is }
of_stays n r c false = body_stays (n - length r.head_left) (record r { head_left = [] }) c (is_passing r.decision)

reply_stays : (n : ℕ) (c : Client) (reply : Option Reply) → Stays (elim reply as (λ x. Client) [ None ↦ c | Some r ↦ said_of n r c ]) c
reply_stays n c None = stays c
reply_stays n c (Some r) = of_stays n r c (nat_le n (length r.head_left))

said_stays : (n : ℕ) (c : Client) (empty : Bool)
    → Stays (elim empty as (λ x. Client) [ false ↦ record c { interim_left = drop n c.interim_left } | true ↦ elim (reply_of c) as (λ x. Client) [ None ↦ c | Some r ↦ said_of n r c ] ]) c
said_stays n c false = record { closing = refl; front = refl; left = λ is. is; joins = λ id is. is }
said_stays n c true = reply_stays n c (reply_of c)

pub said_by-same : (n : ℕ) (c : Client) → SameClient (said_by n c) c
said_by-same n c = both_of _ c (said_by-source n c) (said_stays n c (is_empty c.interim_left))

-- ---- a reply begins

begun_passed-stays : (s : State) (r : Parsed) (d : Decision) (c : Client) (passed : Option Passed)
    → Stays (elim passed as (λ x. Client) [
      | None ↦ c
      | Some p ↦ record c { stage = Answering (passed_reply s r p d); closes = not (keeps_open r && is_end_known p.rule r.head.minor) }
    ]) c
begun_passed-stays s r d c None = stays c
begun_passed-stays s r d c (Some p) = record { closing = refl; front = refl; left = λ is. is; joins = λ id is. is }

from_stays : (s : State) (r : Parsed) (reply : Reply) (c : Client) (x : Instance) (may : Bool)
    → Stays (elim may as (λ y. Client) [ true ↦ record c { stage = Answering (begun_reply s r c reply x) } | false ↦ c ]) c
from_stays s r reply c x false = stays c
from_stays s r reply c x true = record { closing = refl; front = refl; left = λ is. is; joins = λ id is. is }

source_stays : (s : State) (r : Parsed) (reply : Reply) (c : Client) (source : Option Instance)
    → Stays (elim source as (λ y. Client) [
      | None ↦ c
      | Some x ↦ elim (may_begin s reply x) as (λ y. Client) [ true ↦ record c { stage = Answering (begun_reply s r c reply x) } | false ↦ c ]
    ]) c
source_stays s r reply c None = stays c
source_stays s r reply c (Some x) = from_stays s r reply c x (may_begin s reply x)

decided_stays : (s : State) (r : Parsed) (reply : Reply) (c : Client) (passing : Bool)
    → Stays (elim passing as (λ y. Client) [ true ↦ begun_passed s r reply.decision c | false ↦ begun_instance s r reply c ]) c
decided_stays s r reply c true = begun_passed-stays s r reply.decision c (passed_of c)
decided_stays s r reply c false = source_stays s r reply c (source_of s reply)

answer_stays : (s : State) (r : Parsed) (reply : Reply) (c : Client) (begun : Bool)
    → Stays (elim begun as (λ y. Client) [ true ↦ c | false ↦ begun_decided s r reply c ]) c
answer_stays s r reply c true = stays c
answer_stays s r reply c false = decided_stays s r reply c (is_passing reply.decision)

stage_stays : (s : State) (r : Parsed) (c : Client) (stage : Stage)
    → Stays (elim stage as (λ y. Client) [
      | Undecided ↦ c
      | Waiting ↦ c
      | Passing ↦ begun_passed s r Pass c
      | Answering reply ↦ elim reply.has_begun as (λ y. Client) [ true ↦ c | false ↦ begun_decided s r reply c ]
    ]) c
stage_stays s r c Undecided = stays c
stage_stays s r c Waiting = stays c
stage_stays s r c Passing = begun_passed-stays s r Pass c (passed_of c)
stage_stays s r c (Answering reply) = answer_stays s r reply c reply.has_begun

front_stays : (s : State) (c : Client) (front : Front) → Stays (elim front as (λ y. Client) [ NoHeadYet ↦ c | NoHead status ↦ c | IsRequest r ↦ begun_by s r c ]) c
front_stays s c NoHeadYet = stays c
front_stays s c (NoHead status) = stays c
front_stays s c (IsRequest r) = stage_stays s r c c.stage

closing_stays : (s : State) (c : Client) (closing : Bool)
    → Stays (elim closing as (λ y. Client) [ true ↦ c | false ↦ elim c.front as (λ y. Client) [ NoHeadYet ↦ c | NoHead status ↦ c | IsRequest r ↦ begun_by s r c ] ]) c
closing_stays s c true = stays c
closing_stays s c false = front_stays s c c.front

pub begun_at_end-same : (s : State) (c : Client) → SameClient (begun_at_end s c) c
begun_at_end-same s c = both_of _ c (begun_at_end-source s c) (closing_stays s c c.is_closing)

held_stays : (c : Client) (held : Bool) → Stays (elim held as (λ y. Client) [ true ↦ record c { course = anew c.course } | false ↦ c ]) c
held_stays c true = record { closing = refl; front = refl; left = λ is. is; joins = λ id is. is }
held_stays c false = stays c

pub regained_by-same : (s : State) (c : Client) → SameClient (regained_by s c) c
regained_by-same s c = both_of _ c (regained_by-source s c) (held_stays c (is_regained s c))
