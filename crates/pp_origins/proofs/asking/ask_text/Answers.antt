use Rattle.std.proofs.Common.{◌≡◌, ◌∙◌, ◌≤◌, ◌&&◌, ap, sym, subst, nat_lt, length, take, find, IfOk, IfSome, List, ℕ, Option, Some, option_map}
use Rattle.pp_links.specs.Links.{has_link}
use Rattle.pp_links.specs.Quiet.{GrowsQuietly}
use Rattle.pp_peers.specs.Peers.{is_number}
use Rattle.pp_peers.specs.declared.peers.Peer.{Peer}
use Rattle.pp_origins.specs.Asked.{TextIsAsked}
use Rattle.pp_desk.specs.Closings.{sides}
use Rattle.pp_desk.specs.Calls.{Took, write_log}
use Rattle.pp_desk.specs.declared.desk.Desk.{Desk}
use Rattle.pp_desk.proofs.CallLemmas.{if_none, write_told}
use Rattle.pp_world.specs.Log.{AppendsAll, Log}
use Rattle.pp_origins.proofs.asking.ask_text.Goals as goal

pub returns-clause-quiet : goal.returns-clause-quiet
returns-clause-quiet g c = subst (λ (l : Option Log). GrowsQuietly (g.W.Logged.log c.args.world.now) l) (sym c.note_text.ensures.told) c.write-took.ensures.quiet

pub returns-clause-is : goal.returns-clause-is
returns-clause-is g c = λ seated.
    let old : Desk = c.args.desk.now in
    let k = c.args.k in
    let peer : Peer = c.in-Some.peer.now in
    let before : Option Log = g.W.Logged.log c.args.world.now in
    let after : Option Log = g.W.Logged.log c.note_text.new.world in
    let found : find (is_number k) old.peers ≡ Some peer = sym c.get.ensures ∙ ap (option_map (λ p. p.now)) c.in-Some.is in
    let bytes : List ℕ = c.front_of-text.result.now in
    let is : bytes ≡ take c.args.left peer.pipe.out = c.front_of-text.ensures ∙ ap (take c.args.left) c.out.ensures.line in
    let took : Took = c.write-took.result in
    let call = c.write-took.ensures in
    let told : AppendsAll before (g.W.Logged.log c.write-took.new.world) (write_log k bytes took) = write_told k bytes took (if_none took (λ same. ap g.W.Logged.log same) call.none) call.told in
    subst (λ (o : Option Peer). TextIsAsked o k c.args.number c.args.left old.state.now old.state.awake.items c.args.links.now (sides old) (sides c.note_text.new.desk) before after) (sym found)
    (record {
      took = took;
      told = subst (λ (l : Option Log). AppendsAll before l (write_log k (take c.args.left peer.pipe.out) took)) (sym c.note_text.ensures.told)
          (subst (λ (bs : List ℕ). AppendsAll before (g.W.Logged.log c.write-took.new.world) (write_log k bs took)) is told);
      called = call.answered ∙ ap (λ (bs : List ℕ). has_link k c.args.links.now && nat_lt 0 (length bs)) is;
      within = subst (λ (bs : List ℕ). IfSome took (λ r. IfOk r (λ n. n ≤ length bs))) is call.within;
      is = c.note_text.ensures.is seated;
    })
