-- What holds of each step of a loop holds behind the loop.
use Rattle.std.proofs.Common.{sym, subst, ℕ, zero, suc, Bool, true, false}
use Rattle.pp_keeping.specs.Keeping.{Keeping as Kept, RepeatsTo}

module _ (I : Kept → Type 0) (End : Bool → Kept → Kept) (Step : Kept → Kept → Bool → Type 0) (ends : (goes : Bool) (x : Kept) → I x → I (End goes x)) (steps : (x y : Kept) (goes : Bool) → Step x y goes → I x → I y) where
  pub all_so : (n : ℕ) (goes : Bool) (x y : Kept) → RepeatsTo End Step n goes x y → I x → I y
  unfolding RepeatsTo
  all_so zero goes x y is so = subst I (sym is) (ends goes x so)
  all_so (suc n) false x y is so = subst I (sym is) so
  all_so (suc n) true x y (next, again, step, more) so = all_so n again next y more (steps x next again step so)
