-- A state that is chosen by cases is lined rightly where each case is.
use Rattle.std.proofs.Common.{◌≡◌, refl, ℕ, Bool, true, false, Option, Some, None, Result, Ok, Err}
use Rattle.pp_framing.specs.Body.{Outcome, Done, Going, Bad}
use Rattle.pp_valid.specs.declared.version.Version.{Version}
use Rattle.pp_law.specs.Lists.{Bytes}
use Rattle.pp_law.specs.Requests.{Front, Parsed, NoHeadYet, NoHead as NoFront, IsRequest}
use Rattle.pp_law.specs.State.{State, Aim, Through, Own, Filling}
use Rattle.pp_laws_lines.proofs.Lined.{Lined}
use Rattle.pp_laws_lines.proofs.Stands.{Since}

pub when : {b : Since} (t : Bool) {x y : State} → Lined b x → Lined b y → Lined b (elim t as (λ c. State) [ true ↦ x | false ↦ y ])
when true hx hy = hx
when false hx hy = hy

-- where the test's answer is of use
pub when_so : {b : Since} (t : Bool) {x y : State} → (t ≡ true → Lined b x) → (t ≡ false → Lined b y) → Lined b (elim t as (λ c. State) [ true ↦ x | false ↦ y ])
when_so true hx hy = hx refl
when_so false hx hy = hy refl

pub each_of : {b : Since} {A : Type 0} (o : Option A) {x : State} {y : A → State} → Lined b x → ((a : A) → Lined b (y a)) → Lined b (elim o as (λ c. State) [ None ↦ x | Some a ↦ y a ])
each_of None hx hy = hx
each_of (Some a) hx hy = hy a

-- where it is of use which one is there
pub each_so : {b : Since} {A : Type 0} (o : Option A) {x : State} {y : A → State} → (o ≡ None → Lined b x) → ((a : A) → o ≡ Some a → Lined b (y a)) → Lined b (elim o as (λ c. State) [ None ↦ x | Some a ↦ y a ])
each_so None hx hy = hx refl
each_so (Some a) hx hy = hy a refl

pub by_aim_of : {b : Since} (a : Aim) {x y : State} {z : Version → ℕ → ℕ → State} → Lined b x → Lined b y → ((v : Version) (from to : ℕ) → Lined b (z v from to))
    → Lined b (elim a as (λ c. State) [ Through ↦ x | Own ↦ y | Filling v from to ↦ z v from to ])
by_aim_of Through hx hy hz = hx
by_aim_of Own hx hy hz = hy
by_aim_of (Filling v from to) hx hy hz = hz v from to

pub by_outcome : {b : Since} (o : Outcome) {x : Bytes → State} {y z : State} → ((rest : Bytes) → Lined b (x rest)) → Lined b y → Lined b z
    → Lined b (elim o as (λ c. State) [ Done rest ↦ x rest | Going ↦ y | Bad ↦ z ])
by_outcome (Done rest) hx hy hz = hx rest
by_outcome Going hx hy hz = hy
by_outcome Bad hx hy hz = hz

pub by_front : {b : Since} (f : Front) {x : State} {y : ℕ → State} {z : Parsed → State} → Lined b x → ((n : ℕ) → Lined b (y n)) → ((r : Parsed) → Lined b (z r))
    → Lined b (elim f as (λ c. State) [ NoHeadYet ↦ x | NoFront n ↦ y n | IsRequest r ↦ z r ])
by_front NoHeadYet hx hy hz = hx
by_front (NoFront n) hx hy hz = hy n
by_front (IsRequest r) hx hy hz = hz r

pub by_result : {b : Since} {A E : Type 0} (r : Result A E) {x : A → State} {y : E → State} → ((a : A) → Lined b (x a)) → ((e : E) → Lined b (y e))
    → Lined b (elim r as (λ c. State) [ Ok a ↦ x a | Err e ↦ y e ])
by_result (Ok a) hx hy = hx a
by_result (Err e) hx hy = hy e
