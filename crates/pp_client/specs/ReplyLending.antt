-- What is written through the head buffer or the pass pipe while it is lent.
use Rattle.std.specs.Prelude.{ℕ}
use Rattle.std.specs.Borrow.{Lends, MutBor, Fml}
use Rattle.arrayvec.specs.ArrayVec.{ArrayVec}
use Rattle.pp_pass.specs.Pipe.{Pipe}
use Rattle.pp_pass.specs.contracts.pass.Pass as pass
use Rattle.pp_client.specs.contracts.reply.Reply as reply
use Rattle.pp_client.specs.Lending.{text_row}
use Rattle.pp_client.specs.Replies.{Reply}

abbrev pub LendsText : MutBor Reply → MutBor (ArrayVec ℕ) → Fml
LendsText r lent = Lends reply.the_row text_row r lent (λ text. record r.now { text = text.items })

abbrev pub LendsPass : MutBor Reply → MutBor Pipe → Fml
LendsPass r lent = Lends reply.the_row pass.the_row r lent (λ pipe. record r.now { pipe = pipe })
