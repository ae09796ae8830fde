-- Runs of operations, one behind another.
use Rattle.std.proofs.Common.{inl, inr, Bool, true, false, List, [], ◌∷◌, ◌++◌, Option, ◌∙◌, ap, append_assoc}
use Rattle.pp_world.specs.declared.op.DiskOp.{DiskOp}
use Rattle.pp_world.specs.Log.{Log}
use Rattle.pp_gate.specs.Runs.{Ran, RunsOps}

pub ran_then : (a b : List DiskOp) (ok : Bool) (one two : Log) → Ran a true one → Ran b ok two → Ran (a ++ b) ok (one ++ two)
ran_then [] b ok one two first second = rw first.1 second
ran_then (op ∷ a) b ok one two (inl failed) second = absurd (cc)
ran_then (op ∷ a) b ok one two (inr ran) second =
    inr (ran.0 ++ two, ap (λ (l : Log). l ++ two) ran.1, ran_then a b ok ran.0 two ran.2 second)

-- what failed in a front failed
pub ran_cut : (a b : List DiskOp) (hs : Log) → Ran a false hs → Ran (a ++ b) false hs
ran_cut [] b hs ran = absurd (cc)
ran_cut (op ∷ a) b hs (inl failed) = inl failed
ran_cut (op ∷ a) b hs (inr ran) = inr (ran.0, ran.1, ran_cut a b ran.0 ran.2)

pub runs_then : (old mid new : Option Log) (a b : List DiskOp) (ok : Bool) → RunsOps old mid a true → RunsOps mid new b ok → RunsOps old new (a ++ b) ok
runs_then old mid new a b ok first second = record {
  was = λ l is.
      let later = second.was l is in
      let earlier = first.was later.0 later.2 in (
        earlier.0,
        earlier.1 ++ later.1,
        earlier.2,
        later.3 ∙ ap (λ (m : Log). m ++ later.1) earlier.3 ∙ append_assoc earlier.0 earlier.1 later.1,
        ran_then a b ok earlier.1 later.1 earlier.4 later.4,
      );
}

pub runs_cut : (old new : Option Log) (a b : List DiskOp) → RunsOps old new a false → RunsOps old new (a ++ b) false
runs_cut old new a b runs = record {
  was = λ l is. let w = runs.was l is in (w.0, w.1, w.2, w.3, ran_cut a b w.1 w.4);
}
