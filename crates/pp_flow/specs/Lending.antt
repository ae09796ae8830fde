-- What is left when the errand of an exchange that was lent is given back.
use Rattle.std.specs.Borrow.{Fml, LendsIf, MutBor}
use Rattle.std.specs.Prelude.{ℕ, Option}
use Rattle.pp_flow.specs.Changes.{Exchanges, with_errand}
use Rattle.pp_flow.specs.contracts.errand.Errand.{the_row as errand_row}
use Rattle.pp_flow.specs.contracts.flow.Flow.{the_row as flow_row}
use Rattle.pp_flow.specs.declared.errand.Errand.{Errand}

abbrev pub LendsErrand : MutBor Exchanges → ℕ → Option (MutBor Errand) → Fml
LendsErrand f number result = LendsIf flow_row errand_row f result (λ errand. with_errand number errand f.now) f.now
