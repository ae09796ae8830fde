use Rattle.std.proofs.Common.{◌≡◌, ◌∙◌, ◌≤◌, ◌&&◌, ap, sym, subst, nat_lt, length, slice_get, IfOk, IfSome, List, ℕ, Option, Some, rules}
use Rattle.std.proofs.lemmas.Option.{slice_get_read}
use Rattle.pp_links.specs.Links.{has_link}
use Rattle.pp_desk.specs.Closings.{sides}
use Rattle.pp_desk.specs.Calls.{Took, write_log}
use Rattle.pp_talk.specs.Talking.{IsWrittenAt, offered}
use Rattle.pp_desk.specs.declared.desk.Desk.{Desk}
use Rattle.pp_desk.proofs.CallLemmas.{if_none, write_told}
use Rattle.pp_seats.specs.declared.seat.Seat.{Seat}
use Rattle.pp_world.specs.Log.{AppendsAll, Log}
use Rattle.pp_talk.proofs.hearing.write_to.Goals as goal

pub returns-clause-is : goal.returns-clause-is
returns-clause-is g c = λ seated.
    let old : Desk = c.args.desk.now in
    let seat : Seat = c.in-Some.seat.now in
    let before : Option Log = g.W.Logged.log c.args.world.now in
    let after : Option Log = g.W.Logged.log c.write-took.new.world in
    let at : slice_get old.state.seats.items c.args.i ≡ Some seat = search (rules, slice_get_read, c.in-Some.ensures.lookup, c.deref.ensures.value) in
    let bytes : List ℕ = c.offer-bytes.result.now in
    let is : bytes ≡ offered seat.client.reply old.state.cache = c.offer-bytes.ensures.is in
    let id : c.id.result ≡ seat.client.id = c.id.ensures in
    let took : Took = c.write-took.result in
    let call = c.write-took.ensures in
    let told : AppendsAll before after (write_log c.id.result bytes took) = write_told c.id.result bytes took (if_none took (λ same. ap g.W.Logged.log same) call.none) call.told in
    subst (λ (o : Option Seat). IsWrittenAt o c.args.i c.args.links.now (sides old) (sides c.note_said.new.desk) before after) (sym at)
    (record {
      took = took;
      told = subst (λ (n : ℕ). AppendsAll before after (write_log n (offered seat.client.reply old.state.cache) took)) id (subst (λ (bs : List ℕ). AppendsAll before after (write_log c.id.result bs took)) is told);
      called = call.answered ∙ ap (λ (n : ℕ). has_link n c.args.links.now && nat_lt 0 (length bytes)) id ∙ ap (λ (bs : List ℕ). has_link seat.client.id c.args.links.now && nat_lt 0 (length bs)) is;
      within = subst (λ (bs : List ℕ). IfSome took (λ r. IfOk r (λ n. n ≤ length bs))) is call.within;
      is = c.note_said.ensures.is seated;
    })
