-- What is read of an exchange is what the law says of it.
use Rattle.std.proofs.Common.{◌≡◌, refl, ap, ap₂, ℕ, Bool, true, false, not, ◌==◌, ◌||◌, length, Option, Some, None}
use Rattle.pp_law.specs.Lists.{Bytes}
use Rattle.pp_law.specs.Stages.{bound_in, is_pending}
use Rattle.pp_law.specs.State.{Body, Pending, Joining, Relaying, Dropping}
use Rattle.pp_flow.specs.declared.errand.Body.{Body as ErrandBody}
use Rattle.pp_flow.specs.declared.errand.Body.TheVariants.{Pending as IsPending, Joining as IsJoining, Relaying as IsRelaying, Dropping as IsDropping}
use Rattle.pp_flow.specs.Errands.{attempts_in}
use Rattle.pp_seats_law.specs.Exchanges.{Binding, ExchangesAreTheLaws, ShowsBody, ShowsBound}

body_headed : (number : ℕ → ℕ) (body : ErrandBody) (headed : Bool) (bound : Option Binding) (other : Body) → ShowsBody number body headed bound other → headed ≡ not (is_pending other)
body_headed number IsPending false None Pending shows = refl
body_headed number (IsJoining far) true (Some x) (Joining b) shows = refl
body_headed number IsRelaying true None Relaying shows = refl
body_headed number (IsDropping n) true None Dropping shows = refl
body_headed number body headed bound other shows = absurd shows

body_bound : (number : ℕ → ℕ) (body : ErrandBody) (headed : Bool) (bound : Option Binding) (other : Body) → ShowsBody number body headed bound other → ShowsBound number bound (bound_in other)
body_bound number IsPending false None Pending shows = tt
body_bound number (IsJoining far) true (Some x) (Joining b) shows = (far, shows)
body_bound number IsRelaying true None Relaying shows = tt
body_bound number (IsDropping n) true None Dropping shows = tt
body_bound number body headed bound other shows = absurd shows

pub exchanges : ExchangesAreTheLaws
exchanges number x e shows = record {
  headed = body_headed number x.errand.body x.exchange.headed x.exchange.bound e.body shows.body;
  bound = body_bound number x.errand.body x.exchange.headed x.exchange.bound e.body shows.body;
  outstanding = ap₂ (λ (m : ℕ) (t : Bytes). m == length t) shows.asked shows.text;
  alone = ap₂ (λ (a b : Bool). a || b) shows.is_asked_once shows.binds;
  attempts = ap attempts_in shows.is_asked_once;
}
