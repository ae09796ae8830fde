use Rattle.pp_origins.proofs.GotLemmas.{data_then, still_seated}
use Rattle.pp_origins.specs.Responses.{bad_response}
use Rattle.pp_origins.proofs.got.refused_came.Goals as goal

pub returns-clause-is : goal.returns-clause-is
returns-clause-is c = λ seated.
    let old = c.args.desk.now in
    let mid = c.data_came.new.desk in
    let came = c.data_came.ensures in
    let over = c.bad_response.ensures in
    data_then (bad_response c.args.k) c.args.k old mid c.bad_response.new.desk (came.is seated) came.rest (over.is (still_seated old.state mid.state came.numbers seated)) over.rest
