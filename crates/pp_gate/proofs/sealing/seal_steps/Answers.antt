use Rattle.std.proofs.Common.{arith, ap, ℕ, ◌+◌, ◌*◌}
use Rattle.pp_gate.proofs.SealLemmas.{body_reached, gates_reached, offset_fits, body_runs, gates_failed, gates_done}
use Rattle.pp_gate.proofs.sealing.seal_steps.Goals as goal

pub overflow_add-body_at : goal.overflow_add-body_at
overflow_add-body_at g c = omega (arith, c.body_at.ensures, offset_fits g.claim'.sent g.claim'.block c.args.n c.args.first c.args.count c.args.bytes.now c.requires.1.0 c.requires.1.1.1)

pub write-requires : goal.write-requires
write-requires g c = record {
  reaches = body_reached _ g.claim'.sent c.args.name.now g.claim'.block c.args.n c.args.first c.args.count c.args.bytes.now c.requires.1.1.0 c.requires.1.1.1 _ (ap (λ (k : ℕ). k + 4096 * c.args.first) c.body_at.ensures);
}

pub write-requires-2 : goal.write-requires-2
write-requires-2 g c = record {
  reaches = gates_reached _ _ g.claim'.sent c.args.name.now g.claim'.block c.args.n c.args.first c.args.count c.args.bytes.now c.requires.1.1.0 c.requires.1.1.1
      (body_runs _ _ _ c.args.name.now c.args.n c.args.first _ c.args.bytes.now (ap (λ (k : ℕ). k + 4096 * c.args.first) c.body_at.ensures) c.in_ok-write.ensures.told c.in_ok-sync.ensures.told);
}

pub returns-in_err-write-2-clause-ops : goal.returns-in_err-write-2-clause-ops
returns-in_err-write-2-clause-ops g c =
    gates_failed _ _ _ c.args.name.now c.args.n c.args.first c.args.count c.args.bytes.now _ c.from_residual-in_err-write-2.result c.open_gates.ensures c.from_residual-in_err-write-2.ensures.0
    (body_runs _ _ _ c.args.name.now c.args.n c.args.first _ c.args.bytes.now (ap (λ (k : ℕ). k + 4096 * c.args.first) c.body_at.ensures) c.in_ok-write.ensures.told c.in_ok-sync.ensures.told)
    c.in_err-write-2.ensures.told

pub returns-clause-ops : goal.returns-clause-ops
returns-clause-ops g c =
    gates_done _ _ _ _ c.args.name.now c.args.n c.args.first c.args.count c.args.bytes.now _ c.sync-2.result c.open_gates.ensures
    (body_runs _ _ _ c.args.name.now c.args.n c.args.first _ c.args.bytes.now (ap (λ (k : ℕ). k + 4096 * c.args.first) c.body_at.ensures) c.in_ok-write.ensures.told c.in_ok-sync.ensures.told)
    c.in_ok-write-2.ensures.told
    c.sync-2.ensures.told
