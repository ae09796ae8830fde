use Rattle.pp_origins.proofs.GotLemmas.{data_then, still_seated}
use Rattle.pp_origins.specs.Responses.{response_whole}
use Rattle.pp_origins.proofs.got.response_came.Goals as goal

pub returns-clause-is : goal.returns-clause-is
returns-clause-is c = λ seated.
    let old = c.args.desk.now in
    let mid = c.data_came.new.desk in
    let came = c.data_came.ensures in
    let over = c.end_response.ensures in
    data_then (response_whole c.args.k) c.args.k old mid c.end_response.new.desk (came.is seated) came.rest (over.is (still_seated old.state mid.state came.numbers seated)) over.rest
