-- A response that is passed to a client, spelled anew (RFC 2616, sections 3.6.1 and 13.5).
use Rattle.std.specs.Prelude.{ℕ, Bool, true, false, not}
use Rattle.pp_framing.specs.declared.body.BodyRule.{BodyRule}
use Rattle.pp_framing.specs.declared.body.BodyRule.TheVariants.{Empty, Length}
use Rattle.pp_head.specs.Response.{Response}
use Rattle.pp_pass.specs.Pipe.{Pipe, started, with_data}
use Rattle.pp_reply.specs.Keeping.{is_old}
use Rattle.pp_text.specs.Bytes.{is_empty}
use Rattle.pp_law.specs.Connections.{on_client_of}
use Rattle.pp_law.specs.Lists.{Bytes}
use Rattle.pp_law.specs.Stages.{on_passed}
use Rattle.pp_law.specs.State.{State, Exchange, Passed}

-- a body whose length is not told goes on in chunks, but not to HTTP/1.0 (section 3.6.1)
abbrev pub is_coded : BodyRule → ℕ → Bool
is_coded Empty minor = false
is_coded (Length n) minor = false
is_coded rule minor = not (is_old minor)

abbrev pub passed_by : Exchange → Response → BodyRule → Passed
passed_by e head rule = record { head = head; rule = rule; pipe = started (is_coded rule e.head.minor); is_short = false }

-- ours: the data of one read are one chunk; an empty one would be the last
abbrev pub poured : Bytes → Pipe → Pipe
poured bytes pipe = elim (is_empty bytes) [ true ↦ pipe | false ↦ with_data bytes pipe ]

-- into the pipe of the request that the response is passed to
unfoldable pub pour : Exchange → (Pipe → Pipe) → State → State
pour e f s = on_client_of e (on_passed (λ p. record p { pipe = f p.pipe })) s
