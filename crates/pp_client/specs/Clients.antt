-- One client: what it sent, and what is left to be said to it.
use Rattle.std.specs.Prelude.{◌≡◌, ℕ, true, false}
use Rattle.pp_client.specs.Requests.{Heard, silent, current_of, is_answerable, answered}
use Rattle.pp_client.specs.Replies.{Reply, no_reply, ended, is_said, said}
use Rattle.pp_client.specs.declared.reply.Stage.TheVariants.{Due}

-- its number, the second from which it counts as idle, what was heard, and the reply to its current request
pub record Client : Type 0 where
  pub id : ℕ
  pub mark : ℕ
  pub heard : Heard
  pub reply : Reply

abbrev pub new_client : ℕ → ℕ → Client
new_client id now = record { id = id; mark = now; heard = silent; reply = no_reply }

-- a request, or what is none, waits for its reply
pub record IsAnswerable (c : Client) : Type 0 where
  pub current : is_answerable (current_of c.heard) ≡ true
  pub due : c.reply.stage ≡ Due

-- where all of the reply was said, the request is answered
abbrev pub with_reply : Client → Reply → Client
with_reply c r = elim (is_said r) [
  | true ↦ record c { heard = answered c.heard; reply = ended r }
  | false ↦ record c { reply = r }
]

-- so many bytes of what stands next were said
abbrev pub said_by : ℕ → Client → Client
said_by n c = with_reply c (said n c.reply)
