use Rattle.pp_desk.specs.declared.desk.Desk.{Desk}
use Rattle.pp_origins.proofs.GotLemmas.{keeps_state, still_seated}
use Rattle.pp_origins.specs.Gots.{both}
use Rattle.pp_origins.proofs.responses.take_bytes.Goals as goal

pub returns-clause-is : goal.returns-clause-is
returns-clause-is g c = λ seated room.
    let old : Desk = c.args.desk.now in
    let mid : Desk = c.bytes_came.new.desk in
    let got = c.bytes_came.ensures in
    let over = c.end_replies.ensures in
    (both mid, got.is seated room, record { is = over.is (still_seated old.state mid.state got.numbers seated); rest = keeps_state mid c.end_replies.new.self over.rest })
