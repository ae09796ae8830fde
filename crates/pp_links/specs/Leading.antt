-- A step with calls of the world: where it leads, and what the log gets of it.
use Rattle.std.specs.Prelude.{ℕ, ◌+◌, ◌≤◌, Option, count_by}
use Rattle.pp_links.specs.Failures.{fails}
use Rattle.pp_world.specs.Log.{AppendsAll, Log, Told}

-- one leads to the other, the log gets what belongs to that, and of the failures in it, where it is told, the outside counted each
pub record LeadsOn {What : Type 0} (Step : What → Log → What → Type 0) (x y : What) (old new : Option Log) (before now : ℕ) : Type 0 where
  pub added : Log
  pub is : Step x added y
  pub told : AppendsAll old new (λ l. added)
  pub counted : Told new (λ l. before + count_by fails added ≤ now)
