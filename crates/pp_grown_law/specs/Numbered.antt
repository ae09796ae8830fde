-- Each exchange has a number of its own (ours).
use Rattle.std.specs.Prelude.{◌≡◌, ◌≤◌, ℕ, ◌++◌, count_by}
use Rattle.pp_flow.specs.Changes.{Exchanges, numbers}
use Rattle.pp_flow.specs.Entries.{is_number}
use Rattle.pp_flow_law.specs.Tables.{Leaving, ShowsFlow}
use Rattle.pp_law.specs.State.{State}
use Rattle.pp_state.specs.Ends.{AreInOrder}

-- those without a place stand in the order of their beginnings, no two have one number, and none has one that was not given
pub record AreNumbered (f : Exchanges) : Type 0 where
  pub order : AreInOrder (numbers f.waiting)
  pub once : (n : ℕ) → count_by (is_number n) (f.waiting ++ f.placed) ≤ 1
  pub given : (n : ℕ) → f.begun ≤ n → count_by (is_number n) (f.waiting ++ f.placed) ≡ 0

-- as they show the law's
abbrev pub ShownOnesAreNumbered : Type 0
ShownOnesAreNumbered = (number : ℕ → ℕ) (l : Leaving) (f : Exchanges) (s : State) → AreInOrder (numbers f.waiting) → ShowsFlow number l f s → AreNumbered f
