use Rattle.std.proofs.Common.{arith, sym, subst, ◌∙◌, [], get_or, take, List}
use Rattle.std.specs.Prelude.{is_ok}
use Rattle.pp_world.specs.Disk.{Bytes}
use Rattle.pp_gate.proofs.SealLemmas.{err_not_ok}
use Rattle.pp_recover.specs.Looks.{Extends}
use Rattle.pp_recover.proofs.CountLemmas.{counts_then}
use Rattle.pp_recover.proofs.NameLemmas.{distinct, distinct_front, distinct_at}
use Rattle.pp_recover.proofs.EachLemmas.{SoFarAll, stands_now, one_more, some_names, all_names, take_more}
use Rattle.pp_recover.proofs.opening.tend_all.Goals as goal

pub tend-requires-clause-stands : goal.tend-requires-clause-stands
tend-requires-clause-stands g c =
    stands_now _ _ (get_or c.args.names.now c.loop-name.name-index []) (take c.loop-name.name-index c.args.names.now) c.loop-name.store
    (distinct_front c.args.names.now c.loop-name.name-index c.loop-name-test.true (distinct c.args.names.now c.requires.rising)) c.requires.fresh c.loop-name.invariant.tended

pub returns-in_err-tend-clause-tends : goal.returns-in_err-tend-clause-tends
returns-in_err-tend-clause-tends g c =
    some_names _ _ _ c.args.names.now c.loop-name.name-index c.loop-name.store c.tend.new.store (is_ok c.from_residual.result) (err_not_ok c.from_residual.result c.from_residual.ensures.0)
    c.loop-name-test.true (distinct_front c.args.names.now c.loop-name.name-index c.loop-name-test.true (distinct c.args.names.now c.requires.rising)) c.loop-name.invariant.tended c.in_err-tend.ensures.tends

pub returns-in_err-tend-clause-counted : goal.returns-in_err-tend-clause-counted
returns-in_err-tend-clause-counted g c = counts_then _ _ _ _ _ _ c.loop-name.invariant.counted c.in_err-tend.ensures.counted

pub loop-name-preserved : goal.loop-name-preserved
loop-name-preserved g c = record {
  tended = subst (λ (ns : List Bytes). Extends (g.D.Logged.log c.args.disk.now) (g.D.Logged.log c.tend.new.disk) (SoFarAll ns c.tend.new.store))
      (sym (take_more c.args.names.now c.loop-name.name-index c.loop-name-test.true))
      (one_more _ _ _ (take c.loop-name.name-index c.args.names.now) (get_or c.args.names.now c.loop-name.name-index []) c.loop-name.store c.tend.new.store
      (distinct_front c.args.names.now c.loop-name.name-index c.loop-name-test.true (distinct c.args.names.now c.requires.rising)) c.loop-name.invariant.tended c.in_ok-tend.ensures.tends);
  free = λ j from lt. c.in_ok-tend.ensures.others (get_or c.args.names.now j [])
      (distinct_at c.args.names.now c.loop-name.name-index j (omega (arith, from)) lt (distinct c.args.names.now c.requires.rising))
      (c.loop-name.invariant.free j (omega (arith, from)) lt);
  faults = omega (arith, c.in_ok-tend.ensures.faults, c.loop-name.invariant.faults);
  counted = counts_then _ _ _ _ _ _ c.loop-name.invariant.counted c.in_ok-tend.ensures.counted;
  top = c.in_ok-tend.ensures.top ∙ c.loop-name.invariant.top;
}

pub returns-clause-tends : goal.returns-clause-tends
returns-clause-tends g c = all_names _ _ c.args.names.now c.loop-name.name-index c.loop-name.store c.loop-name-test.false c.loop-name.invariant.tended
