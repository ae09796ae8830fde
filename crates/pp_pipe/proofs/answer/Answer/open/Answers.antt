use Rattle.pp_pipe.proofs.Opening.{told_opened, told_refused, told_waiting}
use Rattle.pp_pipe.proofs.answer.Answer.open.Goals as goal

pub returns-in-More-clause-told : goal.returns-in-More-clause-told
returns-in-More-clause-told c =
    told_waiting c.args.head_request c.self.inside.heading c.self.inside.stage c.args.self.now c.args.bytes.now c.read.new.self c.self.view_is c.requires c.in-More.ensures

pub returns-in-NoResponse-clause-told : goal.returns-in-NoResponse-clause-told
returns-in-NoResponse-clause-told c =
    told_refused c.args.head_request c.self.inside.heading c.self.inside.stage c.args.self.now c.args.bytes.now c.self.view_is c.requires c.in-NoResponse.ensures

pub returns-in-Response-clause-told : goal.returns-in-Response-clause-told
returns-in-Response-clause-told c =
    told_opened c.args.head_request c.self.inside.heading c.self.inside.stage c.args.self.now c.args.bytes.now c.in-Response.used c.in-Response.rule c.in-Response.fate c.read.new.self c.new.result
    c.self.view_is c.requires c.in-Response.ensures c.new.ensures.place
