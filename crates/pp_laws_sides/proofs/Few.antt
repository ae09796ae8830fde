-- The count of rows and the numbers of requests are at most so many; a state that is chosen by cases keeps what each case keeps.
use Rattle.std.proofs.Common.{◌≡◌, refl, ℕ, ◌≤◌, Bool, true, false, List, map, length, Option, Some, None, Result, Ok, Err, sym, subst, ap, ◌∙◌, le_trans}
use Rattle.pp_framing.specs.Body.{Outcome, Done, Going, Bad}
use Rattle.pp_valid.specs.declared.version.Version.{Version}
use Rattle.pp_law.specs.Lists.{Bytes}
use Rattle.pp_law.specs.Requests.{Front, Parsed, NoHeadYet, NoHead as NoFront, IsRequest}
use Rattle.pp_law.specs.State.{State, Client, Aim, Through, Own, Filling}
use Rattle.pp_laws.proofs.Lists.{in_map}
use Rattle.pp_laws.specs.Runs.{IsIn}
use Rattle.pp_laws_bounds.proofs.Counts.{length-map}

-- no row has a greater number, and no client is at a later request
pub record Facts (m l : ℕ) (clients : List Client) (next_instance : ℕ) : Type 0 where
  pub rows : next_instance ≤ m
  pub asked : (c : Client) → IsIn c clients → c.index ≤ l
  pub many : length clients ≤ 256

pub data Few (m l : ℕ) (s : State) : Type 0 where
  few : Facts m l s.clients s.next_instance → Few m l s

pub facts_of : {m l : ℕ} {s : State} → Few m l s → Facts m l s.clients s.next_instance
facts_of (few facts) = facts

pub raise : {m l : ℕ} (n k : ℕ) (s : State) → m ≤ n → l ≤ k → Few m l s → Few n k s
raise n k s rows asked h = few (record { rows = le_trans (facts_of h).rows rows; asked = λ c i. le_trans ((facts_of h).asked c i) asked; many = (facts_of h).many })

-- clients are changed, each at its request
pub changed_few : {m l n : ℕ} (f : Client → Client) (cs : List Client) → ((c : Client) → (f c).index ≡ c.index) → Facts m l cs n → Facts m l (map f cs) n
changed_few {m} {l} f cs index h = record {
  rows = h.rows;
  asked = λ c i. let w = in_map f c cs i in subst (λ k. k ≤ l) (sym (ap (λ (d : Client). d.index) w.is ∙ index w.was)) (h.asked w.was w.there);
  many = subst (λ k. k ≤ 256) (sym (length-map f cs)) h.many;
}

-- ---- by cases

pub when : {m l : ℕ} (t : Bool) {x y : State} → Few m l x → Few m l y → Few m l (elim t as (λ c. State) [ true ↦ x | false ↦ y ])
when true hx hy = hx
when false hx hy = hy

pub when_so : {m l : ℕ} (t : Bool) {x y : State} → (t ≡ true → Few m l x) → (t ≡ false → Few m l y) → Few m l (elim t as (λ c. State) [ true ↦ x | false ↦ y ])
when_so true hx hy = hx refl
when_so false hx hy = hy refl

pub each_of : {A : Type 0} {m l : ℕ} (x : Option A) {u : State} {v : A → State} → Few m l u → ((a : A) → Few m l (v a)) → Few m l (elim x as (λ c. State) [ None ↦ u | Some a ↦ v a ])
each_of None hx hy = hx
each_of (Some a) hx hy = hy a

pub by_aim_of : {m l : ℕ} (a : Aim) {x y : State} {z : Version → ℕ → ℕ → State} → Few m l x → Few m l y → ((v : Version) (from to : ℕ) → Few m l (z v from to))
    → Few m l (elim a as (λ c. State) [ Through ↦ x | Own ↦ y | Filling v from to ↦ z v from to ])
by_aim_of Through hx hy hz = hx
by_aim_of Own hx hy hz = hy
by_aim_of (Filling v from to) hx hy hz = hz v from to

pub by_outcome : {m l : ℕ} (w : Outcome) {x : Bytes → State} {y z : State} → ((rest : Bytes) → Few m l (x rest)) → Few m l y → Few m l z
    → Few m l (elim w as (λ c. State) [ Done rest ↦ x rest | Going ↦ y | Bad ↦ z ])
by_outcome (Done rest) hx hy hz = hx rest
by_outcome Going hx hy hz = hy
by_outcome Bad hx hy hz = hz

pub by_front : {m l : ℕ} (f : Front) {x : State} {y : ℕ → State} {z : Parsed → State} → Few m l x → ((n : ℕ) → Few m l (y n)) → ((r : Parsed) → Few m l (z r))
    → Few m l (elim f as (λ c. State) [ NoHeadYet ↦ x | NoFront n ↦ y n | IsRequest r ↦ z r ])
by_front NoHeadYet hx hy hz = hx
by_front (NoFront n) hx hy hz = hy n
by_front (IsRequest r) hx hy hz = hz r

pub by_result : {A E : Type 0} {m l : ℕ} (r : Result A E) {x : A → State} {y : E → State} → ((a : A) → Few m l (x a)) → ((e : E) → Few m l (y e))
    → Few m l (elim r as (λ c. State) [ Ok a ↦ x a | Err e ↦ y e ])
by_result (Ok a) hx hy = hx a
by_result (Err e) hx hy = hy e
