-- A state that is chosen by cases keeps what each case keeps.
use Rattle.std.proofs.Common.{◌≡◌, refl, ℕ, Bool, true, false, List, [], ◌∷◌, Option, Some, None, Result, Ok, Err}
use Rattle.pp_framing.specs.Body.{Outcome, Done, Going, Bad}
use Rattle.pp_valid.specs.declared.version.Version.{Version}
use Rattle.pp_world.specs.declared.op.DiskOp.{DiskOp}
use Rattle.pp_law.specs.Connections.{Pause, AllPlaced, WaitsDial, WaitsDrop}
use Rattle.pp_law.specs.Lists.{Bytes}
use Rattle.pp_law.specs.Requests.{Front, Parsed, NoHeadYet, NoHead as NoFront, IsRequest}
use Rattle.pp_law.specs.State.{State, Aim, Through, Own, Filling, Exchange, Entry, Todo, Do, Enter, Acknowledge}
use Rattle.pp_laws_turn.proofs.View.{View, Holds}

pub when : {P : View → Type 0} (t : Bool) {x y : State} → Holds P x → Holds P y → Holds P (elim t as (λ c. State) [ true ↦ x | false ↦ y ])
when true hx hy = hx
when false hx hy = hy

-- where the test's answer is of use
pub when_so : {P : View → Type 0} (t : Bool) {x y : State} → (t ≡ true → Holds P x) → (t ≡ false → Holds P y) → Holds P (elim t as (λ c. State) [ true ↦ x | false ↦ y ])
when_so true hx hy = hx refl
when_so false hx hy = hy refl

pub each_of : {A : Type 0} {P : View → Type 0} (o : Option A) {x : State} {y : A → State} → Holds P x → ((a : A) → Holds P (y a)) → Holds P (elim o as (λ c. State) [ None ↦ x | Some a ↦ y a ])
each_of None hx hy = hx
each_of (Some a) hx hy = hy a

-- where it is of use which one is there
pub each_so : {A : Type 0} {P : View → Type 0} (o : Option A) {x : State} {y : A → State} → (o ≡ None → Holds P x) → ((a : A) → o ≡ Some a → Holds P (y a)) → Holds P (elim o as (λ c. State) [ None ↦ x | Some a ↦ y a ])
each_so None hx hy = hx refl
each_so (Some a) hx hy = hy a refl

pub by_aim_of : {P : View → Type 0} (a : Aim) {x y : State} {z : Version → ℕ → ℕ → State} → Holds P x → Holds P y → ((v : Version) (from to : ℕ) → Holds P (z v from to))
    → Holds P (elim a as (λ c. State) [ Through ↦ x | Own ↦ y | Filling v from to ↦ z v from to ])
by_aim_of Through hx hy hz = hx
by_aim_of Own hx hy hz = hy
by_aim_of (Filling v from to) hx hy hz = hz v from to

pub by_pause : {P : View → Type 0} (p : Pause) {x : State} {y : ℕ → Exchange → State} {z : Exchange → State} → Holds P x → ((k : ℕ) (e : Exchange) → Holds P (y k e)) → ((e : Exchange) → Holds P (z e))
    → Holds P (elim p as (λ c. State) [ AllPlaced ↦ x | WaitsDrop k e ↦ y k e | WaitsDial e ↦ z e ])
by_pause AllPlaced hx hy hz = hx
by_pause (WaitsDrop k e) hx hy hz = hy k e
by_pause (WaitsDial e) hx hy hz = hz e

pub by_outcome : {P : View → Type 0} (o : Outcome) {x : Bytes → State} {y z : State} → ((rest : Bytes) → Holds P (x rest)) → Holds P y → Holds P z
    → Holds P (elim o as (λ c. State) [ Done rest ↦ x rest | Going ↦ y | Bad ↦ z ])
by_outcome (Done rest) hx hy hz = hx rest
by_outcome Going hx hy hz = hy
by_outcome Bad hx hy hz = hz

pub by_front : {P : View → Type 0} (f : Front) {x : State} {y : ℕ → State} {z : Parsed → State} → Holds P x → ((n : ℕ) → Holds P (y n)) → ((r : Parsed) → Holds P (z r))
    → Holds P (elim f as (λ c. State) [ NoHeadYet ↦ x | NoFront n ↦ y n | IsRequest r ↦ z r ])
by_front NoHeadYet hx hy hz = hx
by_front (NoFront n) hx hy hz = hy n
by_front (IsRequest r) hx hy hz = hz r

pub by_result : {A E : Type 0} {P : View → Type 0} (r : Result A E) {x : A → State} {y : E → State} → ((a : A) → Holds P (x a)) → ((e : E) → Holds P (y e))
    → Holds P (elim r as (λ c. State) [ Ok a ↦ x a | Err e ↦ y e ])
by_result (Ok a) hx hy = hx a
by_result (Err e) hx hy = hy e

pub by_list : {A : Type 0} {P : View → Type 0} (xs : List A) {x : State} {y : A → List A → State} → Holds P x → ((a : A) (as_ : List A) → Holds P (y a as_))
    → Holds P (elim xs as (λ c. State) [ [] ↦ x | a ∷ as_ ↦ y a as_ ])
by_list [] hx hy = hx
by_list (a ∷ as_) hx hy = hy a as_

pub by_todo : {P : View → Type 0} (t : Todo) {x : DiskOp → State} {y : Entry → State} {z : Bytes → Bytes → ℕ → ℕ → State} → ((op : DiskOp) → Holds P (x op)) → ((e : Entry) → Holds P (y e))
    → ((key tag : Bytes) (n extent : ℕ) → Holds P (z key tag n extent))
    → Holds P (elim t as (λ c. State) [ Do op ↦ x op | Enter e ↦ y e | Acknowledge key tag n extent ↦ z key tag n extent ])
by_todo (Do op) hx hy hz = hx op
by_todo (Enter e) hx hy hz = hy e
by_todo (Acknowledge key tag n extent) hx hy hz = hz key tag n extent
