-- A reply that is passed is one response, from its head to the end of its body, or the front of one (RFC 2616, sections 3.6.1, 4.4, 6, 8.1.2.2 and 13.5).
use Rattle.std.specs.Prelude.{◌≡◌, ◌⊎◌, ℕ, Bool, true, false, List, [], ◌∷◌, ◌++◌, length, Some, None, Ok}
use Rattle.std.specs.List.{concat}
use Rattle.pp_framing.specs.Body.{Done}
use Rattle.pp_framing.specs.Framing.{rule_of}
use Rattle.pp_framing.specs.Rules.{body_of, ending_in}
use Rattle.pp_framing.specs.declared.body.BodyRule.{BodyRule}
use Rattle.pp_framing.specs.declared.body.Ending.TheVariants.{Whole as EndsWhole}
use Rattle.pp_head.specs.Read.{Whole}
use Rattle.pp_head.specs.Response.{Response, response_at}
use Rattle.pp_pass.specs.Pipe.{spelled_end}
use Rattle.pp_pipe.specs.Front.{is_interim}
use Rattle.pp_reply.specs.Texts.{passed_head}
use Rattle.pp_world.specs.Log.{Log}
use Rattle.pp_world.specs.Streams.{got, said}
use Rattle.pp_world.specs.declared.happening.Happening.{Happening}
use Rattle.pp_world.specs.declared.happening.Happening.TheVariants.{Heard, HungUp, Said, Ended, Broke, Got}
use Rattle.pp_law.specs.After.{after, event, paid}
use Rattle.pp_law.specs.Asking.{is_writing}
use Rattle.pp_law.specs.Connections.{client, conn, is_for, on_client}
use Rattle.pp_law.specs.Hearing.{heard_by}
use Rattle.pp_law.specs.Lawful.{Lawful}
use Rattle.pp_law.specs.Lists.{Bytes}
use Rattle.pp_law.specs.Replies.{end_replies, is_said, said_by, use_said}
use Rattle.pp_law.specs.Responses.{asks_head, ended, got as read_on}
use Rattle.pp_law.specs.Stages.{passed_of}
use Rattle.pp_law.specs.State.{State, Term, Client, Conn, Exchange, Passed}
use Rattle.pp_laws.specs.Runs.{IsIn, state_after}
use Rattle.pp_laws_passed.specs.Passed.{IsShown, all_spelled, is_in_passed, last_of, to_say}
use Rattle.pp_laws_sent.specs.Stands.{WasAskedOn}

-- ---- the response

-- the exchange stands in the line of that connection, for the request of that index of the client of that number
pub record IsItsOwn (s : State) (number of_client index : ℕ) (e : Exchange) : Type 0 where
  pub there : IsIn e s.exchanges
  pub conn : Conn
  pub conn_there : IsIn conn s.conns
  pub numbered : conn.number ≡ number
  pub line : IsIn e.number conn.line
  pub asker : Client
  pub asker_there : IsIn asker s.clients
  pub asks : is_for e asker ≡ true
  pub client_is : asker.number ≡ of_client
  pub request_is : asker.index ≡ index

-- at a moment of the log
pub record WasItsOwn (terms : List Term) (log : Log) (number of_client index : ℕ) (e : Exchange) : Type 0 where
  pub front : Log
  pub behind : Log
  pub parts : front ++ behind ≡ log
  pub then : IsItsOwn (state_after terms front) number of_client index e

-- the body is whole: it has its end in itself, or with the end of the connection, on which no more had come then (section 4.4)
pub data IsWhole (log : Log) (number : ℕ) (stream : Bytes) (rule : BodyRule) (raw : Bytes) : Type 0 where
  by_itself : (body_of rule raw).outcome ≡ Done [] → IsWhole log number stream rule raw
  by_the_end : (front behind : Log) → log ≡ front ++ Ended number ∷ behind → got number front ≡ stream → ending_in rule (body_of rule raw).outcome ≡ EndsWhole → IsWhole log number stream rule raw

-- on a connection came a final response with this head, to the exchange of that request, and behind it a body with these data, by the
-- rule that the head gives for what was asked; and where it is said to be whole, that is all of it
pub record HasArrived (terms : List Term) (log : Log) (of_client index : ℕ) (head : Response) (rule : BodyRule) (content : Bytes) (is_whole : Bool) : Type 0 where
  pub number : ℕ
  pub before : Bytes
  pub text : Bytes
  pub raw : Bytes
  pub later : Bytes
  pub stream : got number log ≡ ((before ++ text) ++ raw) ++ later
  pub read : response_at (text ++ (raw ++ later)) ≡ Whole head
  pub cut : length text ≡ head.length
  pub final : is_interim head.status ≡ false
  pub ask : Exchange
  pub asked : WasAskedOn terms log number ask
  pub ruled : rule_of (asks_head ask) head.status head.fields ≡ Ok rule
  pub own : Exchange
  pub its_own : WasItsOwn terms log number of_client index own
  pub one : own.number ≡ ask.number
  pub data_are : content ≡ (body_of rule raw).payload
  pub ends : is_whole ≡ true → IsWhole log number ((before ++ text) ++ raw) rule raw

-- ---- the reply

-- what was said, and behind it what is left to say and stands in the pipe: something from before; the head of that response; its data, in
-- order, without a gap, none of them twice; and behind them the end of the body, once all of it came. Nothing else
pub record IsOneSoFar (terms : List Term) (log : Log) (told : Bytes) (c : Client) (p : Passed) : Type 0 where
  pub content : Bytes
  pub arrived : HasArrived terms log c.number c.index p.head p.rule content p.pipe.is_finished
  pub pieces : List Bytes
  pub all : concat pieces ≡ content
  pub full : (piece : Bytes) → IsIn piece pieces → piece ≡ [] → ⊥
  pub shown : IsShown told (to_say c) p (all_spelled p.pipe.is_coded pieces ++ last_of p.pipe)

-- all that was said: something from before, and then head and body of that response, whole
pub record IsOneWhole (terms : List Term) (log : Log) (told : Bytes) (c : Client) (p : Passed) : Type 0 where
  pub content : Bytes
  pub arrived : HasArrived terms log c.number c.index p.head p.rule content true
  pub pieces : List Bytes
  pub all : concat pieces ≡ content
  pub full : (piece : Bytes) → IsIn piece pieces → piece ≡ [] → ⊥
  pub earlier : Bytes
  pub head : Bytes
  pub minor : ℕ
  pub is_head : Bool
  pub name : Bytes
  pub keeps : Bool
  pub spelled : head ≡ passed_head p.head p.rule minor is_head name keeps
  pub stream : told ≡ earlier ++ (head ++ (all_spelled p.pipe.is_coded pieces ++ spelled_end p.pipe.is_coded))

-- ---- when a reply is over

-- a happening up to where it is seen which replies are said whole: these are over then (`end_replies`)
abbrev pub seen : State → Happening → State
seen s (Heard c bytes) = on_client c (heard_by bytes) s
seen s (HungUp c) = elim (is_writing s.owed c) [ true ↦ after s (HungUp c) | false ↦ on_client c (λ x. record x { has_hung_up = true }) s ]
seen s (Said c offered bytes) = elim (client s c) [ None ↦ after s (Said c offered bytes) | Some x ↦ on_client c (said_by (length bytes)) (use_said (length bytes) x s) ]
seen s (Ended k) = elim (conn s k) [ None ↦ after s (Ended k) | Some j ↦ ended true j s ]
seen s (Broke k) = elim (conn (event s) k) [ None ↦ after s (Broke k) | Some j ↦ ended false j (event s) ]
seen s (Got k bytes) = read_on (length bytes) k bytes s
seen s happening = after s happening

-- ---- the law

-- in each state of a lawful log, and where it is seen which replies are over: a client that is in the midst of a reply that is passed was
-- told the one response to the exchange of that very request, as far as it came
abbrev pub PassedIsOneSoFar : Type 0
PassedIsOneSoFar = (terms : List Term) (log : Log) → Lawful terms log → (c : Client) (p : Passed) → IsIn c (state_after terms log).clients → is_in_passed c.stage ≡ true → passed_of c ≡ Some p → IsOneSoFar terms log (said c.number log) c p

-- and where it is over, it is all of that response
abbrev pub PassedIsOneWhole : Type 0
PassedIsOneWhole = (terms : List Term) (log : Log) (happening : Happening) → Lawful terms (log ++ happening ∷ []) → (c : Client) (p : Passed) → IsIn c (seen (state_after terms log) happening).clients → is_in_passed c.stage ≡ true → passed_of c ≡ Some p
    → is_said c ≡ true → IsOneWhole terms (log ++ happening ∷ []) (said c.number (log ++ happening ∷ [])) c p

-- behind that state only what is over ends: it is the state behind the happening, or that comes of it as its replies end
abbrev pub SeenIsJustBefore : Type 0
SeenIsJustBefore = (s : State) (happening : Happening) → (after s happening ≡ seen s happening) ⊎ (after s happening ≡ paid (end_replies (seen s happening)))
