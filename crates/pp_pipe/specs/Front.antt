-- What stands at the front of what a connection brings (RFC 2616, sections 6 and 10.1).
use Rattle.std.specs.Prelude.{ℕ, zero, suc, Bool, true, false, ◌==◌, ◌&&◌, not, nat_le, nat_lt, List, length, drop, Result, Ok, Err, codes}
use Rattle.pp_text.specs.Fields.{has_item}
use Rattle.pp_head.specs.Read.{Whole, TooLong, Bad, More}
use Rattle.pp_head.specs.Response.{Response, response_at}
use Rattle.pp_framing.specs.Framing.{rule_of}
use Rattle.pp_framing.specs.declared.body.BodyRule.{BodyRule}
use Rattle.pp_framing.specs.declared.framing.ResponseFault.{ResponseFault}
use Rattle.pp_pipe.specs.Ends.{is_end_in_doubt}
use Rattle.pp_pipe.specs.declared.fate.Fate.{Fate}
use Rattle.pp_pipe.specs.declared.fate.Fate.TheVariants.{Closes, Stays, Pipelines}

-- "A client MUST be prepared to accept one or more 1xx status responses prior to a regular response"
abbrev pub is_interim : ℕ → Bool
is_interim status = nat_le 100 status && (nat_lt status 200 && not (status == 101))

pub data Front : Type 0 where
  Final : Response → BodyRule → List ℕ → Front  -- the head of a response, the rule of its body, and what follows
  Unfinished : List ℕ → Front  -- the bytes of a head that is not whole
  NoResponse : Front  -- nothing that is read here, whatever follows

abbrev pub by_rule : Response → List ℕ → Result BodyRule ResponseFault → Front
by_rule response rest (Ok rule) = Final response rule rest
by_rule response rest (Err fault) = NoResponse

-- ours: behind 101 no other protocol is read
abbrev pub final_of : Bool → Response → List ℕ → Front
final_of head_request response rest = elim (response.status == 101) [
  | true ↦ NoResponse
  | false ↦ by_rule response rest (rule_of head_request response.status response.fields)
]

-- 1xx responses are read over: fewer than so many
abbrev pub front_within : ℕ → Bool → List ℕ → Front
front_within zero head_request text = Unfinished text
front_within (suc most) head_request text = elim (response_at text) [
  | Whole response ↦ elim (is_interim response.status) [
    | true ↦ front_within most head_request (drop response.length text)
    | false ↦ final_of head_request response (drop response.length text)
  ]
  | TooLong ↦ NoResponse
  | Bad ↦ NoResponse
  | More ↦ Unfinished text
]

-- each of them has a byte at least
unfoldable pub front_of : Bool → List ℕ → Front
front_of head_request text = front_within (suc (length text)) head_request text

-- "HTTP/1.1 defines the "close" connection option for the sender to signal that the connection will be closed
-- after completion of the response" (section 14.10); HTTP/1.0 closes without "keep-alive" (section 19.6.2);
-- ours: only behind HTTP/1.1 is a connection pipelined
abbrev pub fate_told : Response → Fate
fate_told response = elim (has_item (codes "connection") (codes "close") response.fields) [
  | true ↦ Closes
  | false ↦ elim (response.minor == 0) [
    | true ↦ elim (has_item (codes "connection") (codes "keep-alive") response.fields) [ true ↦ Stays | false ↦ Closes ]
    | false ↦ Pipelines
  ]
]

-- ours: where another reader may see its end elsewhere, what follows answers nobody
abbrev pub fate_of : Response → Fate
fate_of response = elim (is_end_in_doubt response) [ true ↦ Closes | false ↦ fate_told response ]

abbrev pub goes_on : Fate → Bool
goes_on Closes = false
goes_on Stays = true
goes_on Pipelines = true

-- whether the connection goes on behind the response
abbrev pub stays_open : Response → Bool
stays_open response = goes_on (fate_of response)
