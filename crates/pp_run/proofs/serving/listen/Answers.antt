use Rattle.std.proofs.Common.{◌≡◌, true, false, subst, sym}
use Rattle.pp_world.proofs.CallLemmas.{rises_earlier}
use Rattle.pp_run.proofs.Breaking.{served_shuts}
use Rattle.pp_run.proofs.Folders.{holds_listened, listens_and_goes, may_not, served_listens}
use Rattle.pp_run.specs.Exits.{ListensAs, served_as}
use Rattle.pp_run.specs.Lives.{outside}
use Rattle.pp_run.specs.declared.ending.Exit.{Exit}
use Rattle.pp_run.proofs.serving.listen.Goals as goal

pub serve-requires-clause-holds : goal.serve-requires-clause-holds
serve-requires-clause-holds g c = holds_listened c.args.door.now.port c.args.shelf.now c.in-Ok.ensures.told c.requires.holds

pub returns-in-Ok : goal.returns-in-Ok
returns-in-Ok g c =
    let astray = c.serve.new.proxy.desk.state.is_astray in
    let exit : c.served.result ≡ served_as astray = c.served.ensures in
    let old = g.W.Logged.log c.args.world.now in
    let new = g.W.Logged.log c.serve.new.world in
    let before = g.W.Logged.faults c.args.world.now in
    let now = g.W.Logged.faults c.serve.new.world in
    let goes = listens_and_goes c.args.door.now.port c.args.most_turns c.in-Ok.ensures.told c.serve.ensures.goes in
    record {
      told = subst (λ (e : Exit). ListensAs c.args.door.now.port c.args.most_turns e old new before now) (sym exit) (served_listens astray c.args.door.now.port c.args.most_turns before now old new goes);
      turns = λ served. record {
        listening = _;
        listens = record { told = c.in-Ok.ensures.told; by = record { top = c.in-Ok.ensures.top; count = c.in-Ok.ensures.faults } };
        turns = c.serve.ensures.turns;
        exit_is = exit;
      };
      shuts = served_shuts astray c.args.door.now.port c.served.result (outside old (g.W.Logged.top c.args.world.now) before) (outside new (g.W.Logged.top c.serve.new.world) now) exit;
    }

pub returns-in-Err : goal.returns-in-Err
returns-in-Err g c =
    let printed = rw c.no_listener_line.ensures at (rw c.as_slice.ensures.value at (c.print.ensures.told)) in
    record {
      turns = λ served. let bad : false ≡ true = served in absurd (cc);
      told = (may_not c.args.door.now.port c.in-Err.ensures.told printed, rises_earlier _ _ _ _ printed c.in-Err.ensures.cause c.print.ensures.faults);
      shuts = (outside _ (g.W.Logged.top c.listen.new.self) _, record { told = c.in-Err.ensures.told; rises = c.in-Err.ensures.cause }, record { told = printed; count = c.print.ensures.faults });
    }
