use Rattle.pp_desk.proofs.ReplyLemmas.{looked}
use Rattle.pp_state.specs.Hearing.{lacks_key_at}
use Rattle.pp_desk.proofs.desk.Desk.look.Goals as goal

pub returns-clause-is : goal.returns-clause-is
returns-clause-is c =
    let s = c.look.new.self in
    (c.look.ensures.is, looked c.args.self.now s (lacks_key_at c.args.i s.seats.items) c.look.ensures.astray c.look.ensures.rest)
