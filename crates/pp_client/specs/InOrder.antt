-- Requests are read in the order in which they were sent, however the bytes are cut (RFC 2616, section 8.1.2.2:
-- "A server MUST send its responses to those requests in the same order that the requests were received").
use Rattle.std.specs.Prelude.{ℕ, ◌≡◌, List, [], drop}
use Rattle.pp_framing.specs.Framing.{request_rule_of}
use Rattle.pp_head.specs.Read.{Read, Whole, TooLong, Bad, More}
use Rattle.pp_head.specs.Request.{Request, request_at}
use Rattle.pp_client.specs.declared.body.Body.{Body}
use Rattle.pp_client.specs.declared.body.Body.TheVariants.{Unread, Dropped, Over}
use Rattle.pp_client.specs.Bodies.{body_by}
use Rattle.pp_client.specs.Requests.{Heard, answered, current_of, front_of, heard_in}

-- this was sent behind all requests that were answered, and nothing of it was taken
abbrev pub sent_behind : Body → List ℕ → Heard
sent_behind body sent = heard_in sent (record { head = []; rest = []; body = body })

-- a body that nobody reads
abbrev pub unread_body : Body → Body
unread_body (Unread n) = Dropped n
unread_body (Dropped n) = Dropped n
unread_body Over = Over

-- behind a request its body is sent, and then the next; behind none nothing counts
abbrev pub sent_next : Read Request → List ℕ → Heard
sent_next (Whole request) sent = sent_behind (unread_body (body_by (request_rule_of request.fields))) (drop request.length sent)
sent_next TooLong sent = record { head = []; rest = []; body = Over }
sent_next Bad sent = record { head = []; rest = []; body = Over }
sent_next More sent = record { head = []; rest = []; body = Over }

-- so many bytes of a body are sent first: then the current request is the first that is read, and once it is
-- answered the client stands as one that sent what follows its head
pub record IsReadInOrder (n : ℕ) (sent : List ℕ) : Type 0 where
  pub first : current_of (sent_behind (Dropped n) sent) ≡ front_of (drop n sent)
  pub next : answered (sent_behind (Dropped n) sent) ≡ sent_next (request_at (drop n sent)) (drop n sent)
