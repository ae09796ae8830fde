-- Replies that are over end in a turn, and all else that it shows stays.
use Rattle.std.proofs.Common.{◌≡◌, sym, subst, ap, ◌∙◌}
use Rattle.pp_desk.specs.Closings.{sides}
use Rattle.pp_desk.specs.declared.desk.Desk.{Desk}
use Rattle.pp_flow_law.specs.Tables.{none_leaves}
use Rattle.pp_law.specs.Lists.{Bytes}
use Rattle.pp_law.specs.Replies.{end_replies}
use Rattle.pp_law.specs.State.{State}
use Rattle.pp_state.specs.Ends.{parts}
use Rattle.pp_states_law.specs.Steps.{ShowsSteps}
use Rattle.pp_endings_law.proofs.Ended.{all_end}
use Rattle.pp_endings_law.specs.Replies.{DesksEndAsTheLaws, HasEnded}

pub desks_end : DesksEndAsTheLaws
desks_end number d e s shows loud may all is keeps bounded =
    let ended : HasEnded number d.state.name.items (sides e) s (end_replies s) =
    all_end number d.state.name.items (sides d) s (record { steps = shows.turn.steps; may = shows.may }) d.state.awake.items (sides e) (record { order = loud.order; others = loud.others }) may all is in
    let name : e.state.name.items ≡ d.state.name.items = ap (λ (x : Desk). x.state.name.items) keeps in record {
      turn = record {
        steps = subst (λ (text : Bytes). ShowsSteps number text none_leaves e.peers (parts e.state) (end_replies s)) (sym name) ended.shows.steps;
        name = name ∙ shows.turn.name ∙ ap (λ (t : State). t.settings.name) (sym ended.rest);
        shares = ap (λ (x : Desk). x.state.shares_fetches) keeps ∙ shows.turn.shares ∙ ap (λ (t : State). t.settings.shares_fetches) (sym ended.rest);
        clock = ap (λ (x : Desk). x.state.now) keeps ∙ shows.turn.clock ∙ ap (λ (t : State). t.clock) (sym ended.rest);
        ticked = ap (λ (x : Desk). x.state.is_ticked) keeps ∙ shows.turn.ticked ∙ ap (λ (t : State). t.is_ticked) (sym ended.rest);
        stopped = ap (λ (x : Desk). x.state.is_stopped) keeps ∙ shows.turn.stopped ∙ ap (λ (t : State). t.is_stopped) (sym ended.rest);
        bounded = bounded;
      };
      may = ended.shows.may;
    }
