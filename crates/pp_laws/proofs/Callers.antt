-- What is done to a client keeps the instance that it is answered from, or it is answered from none.
use Rattle.std.proofs.Common.{◌≡◌, refl, ℕ, ◌+◌, ◌-◌, Bool, true, false, not, ◌==◌, ◌&&◌, nat_le, [], ◌++◌, drop, length, Option, Some, None, sym, ap, ◌∙◌}
use Rattle.pp_pass.specs.Pipe.{without_first}
use Rattle.pp_reply.specs.Keeping.{is_end_known}
use Rattle.pp_text.specs.Bytes.{is_empty}
use Rattle.pp_world.specs.declared.note.Decision.TheVariants.{Refuse, Hit, Part, Head, NotModified, Unsatisfiable, Relay, Validate, Fetch, Pass}
use Rattle.pp_world.specs.declared.note.Decision.{Decision}
use Rattle.pp_law.specs.Deciding.{refused_with, asking_with, stage_for, reply_by, answering_with}
use Rattle.pp_law.specs.Hearing.{what_counts, fronted, with_front, heard_by}
use Rattle.pp_law.specs.Lists.{Bytes}
use Rattle.pp_law.specs.Connections.{anew}
use Rattle.pp_law.specs.Replies.{passed_reply, begun_passed, may_begin, begun_reply, begun_instance, begun_decided, begun_by, begun_at_end, said_of_body, said_of, said_by, next_request, is_regained, regained_by}
use Rattle.pp_law.specs.Requests.{Front, Parsed, NoHeadYet, NoHead, IsRequest, key_in, keeps_open}
use Rattle.pp_law.specs.Stages.{is_passing, on_passed, passed_of, reply_of}
use Rattle.pp_law.specs.State.{State, Client, Passed, Passes, Stage, Undecided, Waiting, Passing, Answering, Reply, Instance}
use Rattle.pp_law.specs.Table.{source_of}
use Rattle.pp_laws.proofs.KeptClients.{SameClient, client_same}
use Rattle.pp_laws.proofs.Sound.{passes_in, source_in}

-- ---- changes that keep the request and the reply

pub same_parts : (d c : Client) → d.number ≡ c.number → d.stage ≡ c.stage → d.front ≡ c.front → SameClient d c
same_parts d c number stage front = record {
  number = number;
  source = λ id is. record { source = sym (ap source_in stage) ∙ is; passes = ap passes_in stage; asks = λ key has. ap key_in front ∙ has };
}

-- it is answered from no instance
pub no_source : (d c : Client) → d.number ≡ c.number → source_in d.stage ≡ None → SameClient d c
no_source d c number none = record { number = number; source = λ id is. let both : None ≡ Some id = sym none ∙ is in absurd (cc both) }

with_front_by : (c : Client) (front : Front) → key_in front ≡ key_in c.front → SameClient (elim front as (λ x. Client) [ NoHeadYet ↦ fronted c | NoHead status ↦ c | IsRequest r ↦ c ]) c
with_front_by c NoHeadYet is = record { number = refl; source = λ id has. record { source = has; passes = refl; asks = λ key asks. let both : None ≡ Some key = is ∙ asks in absurd (cc both) } }
with_front_by c (NoHead status) is = client_same c
with_front_by c (IsRequest r) is = client_same c

with_front-same : (c : Client) → SameClient (with_front c) c
with_front-same c = with_front_by c c.front refl

-- one change behind another
same_on : (e d c : Client) → SameClient e d → SameClient d c → SameClient e c
same_on e d c one two = record {
  number = one.number ∙ two.number;
  source = λ id is. let f = one.source id is in let g = two.source id f.source in record { source = g.source; passes = f.passes ∙ g.passes; asks = λ key has. f.asks key (g.asks key has) };
}

pub heard_by-same : (bytes : Bytes) (c : Client) → SameClient (heard_by bytes c) c
heard_by-same bytes c = same_on (heard_by bytes c) was c (with_front-same was) (same_parts was c refl refl refl)
  where
    was : Client
    was = record c { heard = c.heard ++ what_counts c.front (drop c.skip bytes); skip = c.skip - length bytes }

pub next_request-same : (c : Client) → SameClient (next_request c) c
next_request-same c = no_source (next_request c) c refl refl

stage_for-none : (d : Decision) → source_in (stage_for d) ≡ None
stage_for-none (Refuse status) = refl
stage_for-none (Hit from to) = refl
stage_for-none (Part from to) = refl
stage_for-none Head = refl
stage_for-none NotModified = refl
stage_for-none Unsatisfiable = refl
stage_for-none Relay = refl
stage_for-none Validate = refl
stage_for-none Fetch = refl
stage_for-none Pass = refl

pub asking_with-same : (d : Decision) (c : Client) → SameClient (asking_with d c) c
asking_with-same d c = no_source (asking_with d c) c refl (stage_for-none d)

pub refused_with-same : (status : ℕ) (c : Client) → SameClient (refused_with status c) c
refused_with-same status c = no_source (refused_with status c) c refl refl

pub relayed-same : (c : Client) → SameClient (answering_with (reply_by Relay None) c) c
relayed-same c = no_source (answering_with (reply_by Relay None) c) c refl refl

-- ---- what is said

on_passed-by : (f : Passed → Passed) (c : Client) (passed : Option Passed) → SameClient (elim passed as (λ x. Client) [ None ↦ c | Some p ↦ record c { brought = Passes (f p) } ]) c
on_passed-by f c None = client_same c
on_passed-by f c (Some p) = same_parts _ c refl refl refl

pub on_passed-same : (f : Passed → Passed) (c : Client) → SameClient (on_passed f c) c
on_passed-same f c = on_passed-by f c (passed_of c)

-- the reply goes on
goes_on : (c : Client) (r q : Reply) (d : Client) → reply_of c ≡ Some r → d.number ≡ c.number → d.stage ≡ Answering q → q.source ≡ r.source → q.decision ≡ r.decision → d.front ≡ c.front → SameClient d c
goes_on c r q d has number stage source decision front = record {
  number = number;
  source = λ id is. record {
    source = ap source_in was ∙ sym source ∙ sym (ap source_in stage) ∙ is;
    passes = ap passes_in stage ∙ ap is_passing decision ∙ sym (ap passes_in was);
    asks = λ key asks. ap key_in front ∙ asks;
  };
}
  where
    of : (st : Stage) → (elim st as (λ x. Option Reply) [ Undecided ↦ None | Waiting ↦ None | Passing ↦ None | Answering p ↦ Some p ]) ≡ Some r → st ≡ Answering r
    of Undecided is = absurd (cc is)
    of Waiting is = absurd (cc is)
    of Passing is = absurd (cc is)
    of (Answering p) is = let e : p ≡ r = cc in ap (λ (x : Reply). Answering x) e

    was : c.stage ≡ Answering r
    was = of c.stage has

said_of_body-by : (n : ℕ) (r q : Reply) (c : Client) (passing : Bool) → reply_of c ≡ Some r → q.source ≡ r.source → q.decision ≡ r.decision
    → SameClient (elim passing as (λ x. Client) [
      | true ↦ on_passed (λ p. record p { pipe = without_first n p.pipe }) (record c { stage = Answering q })
      | false ↦ record c { stage = Answering (record q { at = q.at + n }) }
    ]) c
said_of_body-by n r q c true has source decision =
    let d : Client = record c { stage = Answering q } in
    same_on _ d c (on_passed-same (λ p. record p { pipe = without_first n p.pipe }) d) (goes_on c r q d has refl refl source decision refl)
said_of_body-by n r q c false has source decision = goes_on c r (record q { at = q.at + n }) _ has refl refl source decision refl

said_of-by : (n : ℕ) (r : Reply) (c : Client) (of_head : Bool) → reply_of c ≡ Some r
    → SameClient (elim of_head as (λ x. Client) [
      | true ↦ record c { stage = Answering (record r { head_left = drop n r.head_left }) }
      | false ↦ said_of_body (n - length r.head_left) (record r { head_left = [] }) c
    ]) c
said_of-by n r c true has = goes_on c r (record r { head_left = drop n r.head_left }) _ has refl refl refl refl refl
said_of-by n r c false has = said_of_body-by (n - length r.head_left) r (record r { head_left = [] }) c (is_passing r.decision) has refl refl

said_reply : (n : ℕ) (c : Client) (reply : Option Reply) → reply_of c ≡ reply → SameClient (elim reply as (λ x. Client) [ None ↦ c | Some r ↦ said_of n r c ]) c
said_reply n c None has = client_same c
said_reply n c (Some r) has = said_of-by n r c (nat_le n (length r.head_left)) has

said_interim : (n : ℕ) (c : Client) (empty : Bool)
    → SameClient (elim empty as (λ x. Client) [ false ↦ record c { interim_left = drop n c.interim_left } | true ↦ elim (reply_of c) as (λ x. Client) [ None ↦ c | Some r ↦ said_of n r c ] ]) c
said_interim n c false = same_parts _ c refl refl refl
said_interim n c true = said_reply n c (reply_of c) refl

pub said_by-same : (n : ℕ) (c : Client) → SameClient (said_by n c) c
said_by-same n c = said_interim n c (is_empty c.interim_left)

-- ---- a reply begins

begun_passed-by : (s : State) (r : Parsed) (d : Decision) (c : Client) (passed : Option Passed)
    → SameClient (elim passed as (λ x. Client) [
      | None ↦ c
      | Some p ↦ record c { stage = Answering (passed_reply s r p d); closes = not (keeps_open r && is_end_known p.rule r.head.minor) }
    ]) c
begun_passed-by s r d c None = client_same c
begun_passed-by s r d c (Some p) = no_source _ c refl refl

begun_passed-same : (s : State) (r : Parsed) (d : Decision) (c : Client) → SameClient (begun_passed s r d c) c
begun_passed-same s r d c = begun_passed-by s r d c (passed_of c)

kept_source-by : (source : Option ℕ) (over : Bool) (id : ℕ) → (elim over as (λ x. Option ℕ) [ true ↦ None | false ↦ source ]) ≡ Some id → source ≡ Some id
kept_source-by source true id is = absurd (cc is)
kept_source-by source false id is = is

begun_from : (s : State) (r : Parsed) (reply : Reply) (c : Client) (x : Instance) (may : Bool) → c.stage ≡ Answering reply
    → SameClient (elim may as (λ y. Client) [ true ↦ record c { stage = Answering (begun_reply s r c reply x) } | false ↦ c ]) c
begun_from s r reply c x false has = client_same c
begun_from s r reply c x true has = record {
  number = refl;
  source = λ id is. record { source = ap source_in has ∙ kept_source-by reply.source (reply.at == reply.to) id is; passes = sym (ap passes_in has); asks = λ key asks. asks };
}

begun_source : (s : State) (r : Parsed) (reply : Reply) (c : Client) (source : Option Instance) → c.stage ≡ Answering reply
    → SameClient (elim source as (λ y. Client) [
      | None ↦ c
      | Some x ↦ elim (may_begin s reply x) as (λ y. Client) [ true ↦ record c { stage = Answering (begun_reply s r c reply x) } | false ↦ c ]
    ]) c
begun_source s r reply c None has = client_same c
begun_source s r reply c (Some x) has = begun_from s r reply c x (may_begin s reply x) has

begun_decided-by : (s : State) (r : Parsed) (reply : Reply) (c : Client) (passing : Bool) → c.stage ≡ Answering reply
    → SameClient (elim passing as (λ y. Client) [ true ↦ begun_passed s r reply.decision c | false ↦ begun_instance s r reply c ]) c
begun_decided-by s r reply c true has = begun_passed-same s r reply.decision c
begun_decided-by s r reply c false has = begun_source s r reply c (source_of s reply) has

begun_reply-by : (s : State) (r : Parsed) (reply : Reply) (c : Client) (begun : Bool) → c.stage ≡ Answering reply
    → SameClient (elim begun as (λ y. Client) [ true ↦ c | false ↦ begun_decided s r reply c ]) c
begun_reply-by s r reply c true has = client_same c
begun_reply-by s r reply c false has = begun_decided-by s r reply c (is_passing reply.decision) has

begun_stage : (s : State) (r : Parsed) (c : Client) (stage : Stage) → c.stage ≡ stage
    → SameClient (elim stage as (λ y. Client) [
      | Undecided ↦ c
      | Waiting ↦ c
      | Passing ↦ begun_passed s r Pass c
      | Answering reply ↦ elim reply.has_begun as (λ y. Client) [ true ↦ c | false ↦ begun_decided s r reply c ]
    ]) c
begun_stage s r c Undecided has = client_same c
begun_stage s r c Waiting has = client_same c
begun_stage s r c Passing has = begun_passed-same s r Pass c
begun_stage s r c (Answering reply) has = begun_reply-by s r reply c reply.has_begun has

begun_front : (s : State) (c : Client) (front : Front) → SameClient (elim front as (λ y. Client) [ NoHeadYet ↦ c | NoHead status ↦ c | IsRequest r ↦ begun_by s r c ]) c
begun_front s c NoHeadYet = client_same c
begun_front s c (NoHead status) = client_same c
begun_front s c (IsRequest r) = begun_stage s r c c.stage refl

begun_closing : (s : State) (c : Client) (closing : Bool)
    → SameClient (elim closing as (λ y. Client) [ true ↦ c | false ↦ elim c.front as (λ y. Client) [ NoHeadYet ↦ c | NoHead status ↦ c | IsRequest r ↦ begun_by s r c ] ]) c
begun_closing s c true = client_same c
begun_closing s c false = begun_front s c c.front

pub begun_at_end-same : (s : State) (c : Client) → SameClient (begun_at_end s c) c
begun_at_end-same s c = begun_closing s c c.is_closing

regained-by : (c : Client) (held : Bool) → SameClient (elim held as (λ y. Client) [ true ↦ record c { course = anew c.course } | false ↦ c ]) c
regained-by c true = same_parts _ c refl refl refl
regained-by c false = client_same c

pub regained_by-same : (s : State) (c : Client) → SameClient (regained_by s c) c
regained_by-same s c = regained-by c (is_regained s c)
