-- Whether a client waits for its reply, as a test.
use Rattle.std.proofs.Common.{◌≡◌, refl, sym, ap, ◌∙◌, Bool, true, false, ◌&&◌, not}
use Rattle.std.specs.Prelude.{IsTrue}
use Rattle.pp_client.specs.Clients.{Client, IsAnswerable}
use Rattle.pp_client.specs.Replies.{has_begun}
use Rattle.pp_client.specs.Requests.{current_of, is_answerable}
use Rattle.pp_client.specs.declared.reply.Stage.{Stage}
use Rattle.pp_client.specs.declared.reply.Stage.TheVariants.{Due, Begun}
use Rattle.pp_state.specs.Passing.{may_answer}

pub may_answer_is : (c : Client) (b : Bool) → (IsTrue b → IsAnswerable c) → (IsAnswerable c → IsTrue b) → b ≡ may_answer c
may_answer_is c true is only = sym (ap (λ (b : Bool). b && not (has_begun c.reply.stage)) (is refl).current ∙ ap (λ (s : Stage). not (has_begun s)) (is refl).due)
may_answer_is c false is only = by (is_answerable (current_of c.heard)) c.reply.stage refl refl
  where
    by : (b : Bool) (s : Stage) → is_answerable (current_of c.heard) ≡ b → c.reply.stage ≡ s → false ≡ (b && not (has_begun s))
    by false s current due = refl
    by true (Begun reply) current due = refl
    by true Due current due = only (record { current = current; due = due })
