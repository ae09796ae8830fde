use Rattle.std.proofs.Common.{subst, ap, Bool, List, Option, Some, None}
use Rattle.pp_desk.specs.declared.desk.Desk.{Desk}
use Rattle.pp_origins.proofs.GotLemmas.{makes, still_seated}
use Rattle.pp_origins.specs.Gots.{IsTaken, both, head_on}
use Rattle.pp_origins.specs.Responses.{bad_response}
use Rattle.pp_peers.specs.declared.peers.Peer.{Peer}
use Rattle.pp_state.specs.declared.state.State.{State}
use Rattle.pp_origins.proofs.got.answer.Goals as goal

pub returns-in-None-clause-is : goal.returns-in-None-clause-is
returns-in-None-clause-is c = λ seated.
    let old : Desk = c.args.desk.now in
    let k = c.args.k in
    let mid : State = c.take_answer.new.state in
    let call = c.take_answer.ensures in
    let bad = c.bad_response.ensures in
    record {
      stays = None;
      between = mid;
      taken = subst (λ (o : Option Bool). IsTaken (head_on k old.peers) c.args.number o old.state mid) c.in-None.is (call.is seated);
      goes_on = makes (bad_response k) (record old { state = mid }) c.bad_response.new.desk (bad.is (still_seated old.state mid call.numbers seated)) bad.rest;
    }

pub returns-in-Some-clause-is : goal.returns-in-Some-clause-is
returns-in-Some-clause-is c = λ seated.
    let old : Desk = c.args.desk.now in
    let k = c.args.k in
    let mid : State = c.take_answer.new.state in
    let call = c.take_answer.ensures in
    record {
      stays = Some c.in-Some.stays;
      between = mid;
      taken = subst (λ (o : Option Bool). IsTaken (head_on k old.peers) c.args.number o old.state mid) c.in-Some.is (call.is seated);
      goes_on = ap (λ (peers : List Peer). record (both old) { state = mid; peers = peers }) c.note_stays.ensures;
    }
