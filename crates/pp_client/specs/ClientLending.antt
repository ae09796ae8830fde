-- What is written through a client's head buffer or pass pipe while it is lent.
use Rattle.std.specs.Prelude.{ℕ}
use Rattle.std.specs.Borrow.{Lends, MutBor, Fml}
use Rattle.arrayvec.specs.ArrayVec.{ArrayVec}
use Rattle.pp_pass.specs.Pipe.{Pipe}
use Rattle.pp_pass.specs.contracts.pass.Pass as pass
use Rattle.pp_client.specs.contracts.client.Client as client
use Rattle.pp_client.specs.Clients.{Client}
use Rattle.pp_client.specs.Lending.{text_row}

abbrev pub LendsText : MutBor Client → MutBor (ArrayVec ℕ) → Fml
LendsText c lent = Lends client.the_row text_row c lent (λ text. record c.now { reply = record c.now.reply { text = text.items } })

abbrev pub LendsPass : MutBor Client → MutBor Pipe → Fml
LendsPass c lent = Lends client.the_row pass.the_row c lent (λ pipe. record c.now { reply = record c.now.reply { pipe = pipe } })
