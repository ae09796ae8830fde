-- What a call of the disk adds to the log.
use Rattle.std.proofs.Common.{◌≡◌, ◌≤◌, ◌<◌, refl, sym, subst, ap, ◌∙◌, inl, inr, ℕ, ◌+◌, Bool, true, false, not, List, [], ◌∷◌, Option, Some, None, Ok, Err, arith}
use Rattle.std.specs.Prelude.{count_by}
use Rattle.pp_gate.specs.Gate.{draft_ops, publish_ops}
use Rattle.pp_gate.specs.Runs.{Ran}
use Rattle.pp_obeys.proofs.Adding.{adds_as}
use Rattle.pp_obeys.specs.Failures.{fails}
use Rattle.pp_obeys.specs.Moves.{Adds}
use Rattle.pp_store.proofs.Lists.{count-cons, one}
use Rattle.pp_store.specs.Answers.{file_with}
use Rattle.pp_store.specs.declared.faults.KeepFault.TheVariants.{Closed, Full, TooLong, NoDraft, DiskFault, OutOfMemory}
use Rattle.pp_target.specs.Name.{name_of}
use Rattle.pp_world.specs.Disk.{Bytes}
use Rattle.pp_world.specs.Log.{Log, Rises}
use Rattle.pp_world.specs.declared.happening.Happening.TheVariants.{Began, Did}
use Rattle.pp_world.specs.declared.op.DiskOp.{DiskOp}
use Rattle.pp_world.specs.declared.op.DiskOp.TheVariants.{Draft, SyncDraft, Publish}
use Rattle.pp_shelf_law.specs.Calls.{KeepsAdd, RunsAdd}

begun_counts : (op : DiskOp) (hs : Log) → count_by fails (Began op ∷ hs) ≡ 0 + count_by fails hs
begun_counts op hs = count-cons fails (Began op) hs

done_counts : (op : DiskOp) (hs : Log) → count_by fails (Did op true ∷ hs) ≡ 0 + count_by fails hs
done_counts op hs = count-cons fails (Did op true) hs

failed_counts : (op : DiskOp) → count_by fails (Did op false ∷ []) ≡ 1 + 0
failed_counts op = count-cons fails (Did op false) []

done_both : (op : DiskOp) (hs : Log) (n : ℕ) → count_by fails hs ≡ n → count_by fails (Began op ∷ Did op true ∷ hs) ≡ n
done_both op hs n is = omega (arith, begun_counts op (Did op true ∷ hs), done_counts op hs, is)

failed_both : (op : DiskOp) → count_by fails (Began op ∷ Did op false ∷ []) ≡ 1
failed_both op = omega (arith, begun_counts op (Did op false ∷ []), failed_counts op)

pub ran_fails : (ops : List DiskOp) (ok : Bool) (hs : Log) → Ran ops ok hs → count_by fails hs ≡ one (not ok)
ran_fails [] ok hs are = ap (λ (k : Log). count_by fails k) are.1 ∙ sym (ap (λ (b : Bool). one (not b)) are.0)
ran_fails (op ∷ ops) ok hs (inl failed) = ap (λ (k : Log). count_by fails k) failed.1 ∙ failed_both op ∙ sym (ap (λ (b : Bool). one (not b)) failed.0)
ran_fails (op ∷ ops) ok hs (inr r) = ap (λ (k : Log). count_by fails k) r.1 ∙ done_both op r.0 (one (not ok)) (ran_fails ops ok r.0 r.2)

rises_told : (new : Option Log) (l : Log) (a b : ℕ) → new ≡ Some l → Rises new a b → a < b
rises_told new l a b is (inl rose) = rose
rises_told new l a b is (inr none) = absurd (let both : None ≡ Some l = sym none.0 ∙ is in cc)

enough : (new : Option Log) (l : Log) (ok : Bool) (a b : ℕ) → new ≡ Some l → a ≤ b → (ok ≡ false → Rises new a b) → a + one (not ok) ≤ b
enough new l true a b is less rises = omega (arith, less)
enough new l false a b is less rises = omega (arith, rises_told new l a b is (rises refl))

pub runs_add : RunsAdd
runs_add old new ops ok before now runs less rises = record {
  was = λ l is.
      let was = runs.was l is in
      (was.0, was.1, was.2, was.3, was.4, subst (λ (n : ℕ). before + n ≤ now) (sym (ran_fails ops ok was.1 was.4)) (enough new l ok before now is less rises));
}

ran_none : (hs : Log) → Ran [] true hs → hs ≡ []
ran_none hs are = are.1

rises_never : (new : Option Log) (a b : ℕ) → true ≡ false → Rises new a b
rises_never new a b is = absurd (cc is)

pub keeps_add : KeepsAdd
keeps_add old new entry kept (Ok done) before now runs less cause = runs_add old new (publish_ops (name_of entry.key) (file_with entry kept)) true before now runs less (rises_never new before now)
keeps_add old new entry kept (Err Closed) before now runs less cause = adds_as before now (Ran [] true) (λ hs. hs ≡ []) ran_none (runs_add old new [] true before now runs less (rises_never new before now))
keeps_add old new entry kept (Err Full) before now runs less cause = adds_as before now (Ran [] true) (λ hs. hs ≡ []) ran_none (runs_add old new [] true before now runs less (rises_never new before now))
keeps_add old new entry kept (Err TooLong) before now runs less cause = adds_as before now (Ran [] true) (λ hs. hs ≡ []) ran_none (runs_add old new [] true before now runs less (rises_never new before now))
keeps_add old new entry kept (Err NoDraft) before now runs less cause = runs_add old new (draft_ops (file_with entry kept)) false before now runs less (λ is. cause)
keeps_add old new entry kept (Err DiskFault) before now runs less cause = record {
  was = λ l is. let was = runs.was l is in (was.0, unnamed, was.1, was.2, refl, less_than (rises_told new l before now is cause));
}
  where
    file : Bytes
    file = file_with entry kept

    unnamed : Log
    unnamed = Began (Draft (file_with entry kept)) ∷ Did (Draft (file_with entry kept)) true ∷ Began SyncDraft ∷ Did SyncDraft true ∷ Began (Publish (name_of entry.key)) ∷ Did (Publish (name_of entry.key)) false ∷ []

    less_than : before < now → before + 1 ≤ now
    less_than lt = omega (arith, lt)
keeps_add old new entry kept (Err OutOfMemory) before now runs less cause = adds_as before now (Ran [] true) (λ hs. hs ≡ []) ran_none (runs_add old new [] true before now runs less (rises_never new before now))
