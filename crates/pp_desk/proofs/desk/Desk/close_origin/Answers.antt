use Rattle.std.proofs.Common.{◌≡◌, ◌∙◌, find, sym, subst, ap, Bool, Some}
use Rattle.std.specs.Prelude.{option_map}
use Rattle.pp_peers.specs.Peers.{is_number}
use Rattle.pp_desk.proofs.ClosingLemmas.{line_lost}
use Rattle.pp_desk.proofs.desk.Desk.close_origin.Goals as goal
use Rattle.pp_desk.proofs.desk.Desk.close_origin.Goals.{in-Some-get_mut, in_default}
use Rattle.pp_desk.specs.declared.desk.Desk.{Desk}
use Rattle.pp_state.specs.Ends.{AreSeated, parts}
use Rattle.pp_steps.specs.Lines.{lost_line}
use Rattle.pp_state.specs.declared.state.State.{State}

pub returns-clause-is : goal.returns-clause-is
returns-clause-is c =
    let found : find (is_number c.args.k) c.args.self.now.peers ≡ Some c.in-Some.peer.now = sym c.get.ensures ∙ ap (option_map (λ p. p.now)) c.in-Some.is in
    let same : c.match-get_mut.self.state ≡ c.args.self.now.state = elim c.match-get_mut.branch [ in-Some-get_mut w ↦ ap (λ (d : Desk). d.state) w.self-is | in_default w ↦ ap (λ (d : Desk). d.state) w.self-is ] in
    λ seated.
    c.lose_line.ensures.is (subst (λ (s : State). AreSeated s) (sym same) seated)
    ∙ ap (λ (s : State). lost_line 1024 c.args.k c.is_counted.result (parts s)) same
    ∙ ap (λ (b : Bool). lost_line 1024 c.args.k b (parts c.args.self.now.state)) c.is_counted.ensures
    ∙ sym (line_lost c.args.k c.args.counts (find (is_number c.args.k) c.args.self.now.peers) c.in-Some.peer.now (parts c.args.self.now.state) found c.if-not-peer.true)
