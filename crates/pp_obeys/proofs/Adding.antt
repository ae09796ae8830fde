-- Calls that add several happenings, with the failures that are counted, keep what stands.
use Rattle.std.proofs.Common.{◌≡◌, ◌≤◌, refl, sym, subst, ap, ◌∙◌, ℕ, ◌+◌, Bool, true, false, not, cond, [], ◌∷◌, ◌++◌, append_assoc, Option, Some, le_trans, arith}
use Rattle.std.proofs.lemmas.Grind.{common_steps}
use Rattle.std.proofs.lemmas.List.{append-nil}
use Rattle.std.specs.Prelude.{count_by}
use Rattle.pp_law.specs.State.{State}
use Rattle.pp_laws.proofs.Tests.{first_holds, second_holds}
use Rattle.pp_obeys.specs.Calls.{AddedOnesKeep, AdditionsJoin, CalmOnesAdd, Passes}
use Rattle.pp_obeys.specs.Failures.{Rose, counted, fails}
use Rattle.pp_obeys.specs.Moves.{Adds, AreCalm, Both, Is, MovesAll}
use Rattle.pp_obeys.specs.Obeys.{Keeps, Life, Stands}
use Rattle.pp_obeys.proofs.Calls.{keeps_more}
use Rattle.pp_world.specs.Log.{Appends, Log, Told}
use Rattle.pp_world.specs.declared.happening.Happening.{Happening}

-- ---- failures in them

abbrev one : Bool → ℕ
one b = cond b 1 0

count_so : (h : Happening) (hs : Log) (b : Bool) → fails h ≡ b → count_by fails (h ∷ hs) ≡ one b + count_by fails hs
count_so h hs true is = grind (arith, common_steps, is)
count_so h hs false is = grind (arith, common_steps, is)

count_first : (h : Happening) (hs : Log) → count_by fails (h ∷ hs) ≡ one (fails h) + count_by fails hs
count_first h hs = count_so h hs (fails h) refl

count_both : (hs ks : Log) → count_by fails (hs ++ ks) ≡ count_by fails hs + count_by fails ks
count_both [] ks = omega arith
count_both (h ∷ hs) ks = omega (arith, count_first h (hs ++ ks), count_first h hs, count_both hs ks)

calm_one : (b : Bool) → not b ≡ true → one b ≡ 0
calm_one true is = absurd (let both : false ≡ true = is in cc)
calm_one false is = refl

calm_count : (hs : Log) → AreCalm hs → count_by fails hs ≡ 0
calm_count [] calm = refl
calm_count (h ∷ hs) calm = omega (arith, count_first h hs, calm_one (fails h) (first_holds (not (fails h)) _ calm), calm_count hs (second_holds (not (fails h)) _ calm))

-- ---- what stands

-- more may have failed
faults_rise : (life : Life) (a b : ℕ) (P : State → Type 0) (log : Log) → a ≤ b → Stands life a P log → Stands life b P log
faults_rise life a b P log less stands = record {
  at = λ budget enough.
      let from = stands.at budget (le_trans less enough) in
      record { state = from.state; obeys = from.obeys; allows = record { failed = le_trans from.allows.failed less; allowed = from.allows.allowed }; holds = from.holds };
}

stands_as : (life : Life) (n : ℕ) (P Q : State → Type 0) (log : Log) → ((s : State) → P s → Q s) → Stands life n P log → Stands life n Q log
stands_as life n P Q log words stands = record { at = λ budget enough. let from = stands.at budget enough in record { state = from.state; obeys = from.obeys; allows = from.allows; holds = words from.state from.holds } }

same_log : (a b : Log) → Some a ≡ Some b → b ≡ a
same_log a b is = cc

one_appended : (log : Log) (h : Happening) → Appends (Some log) (Some (log ++ h ∷ [])) (λ l. h)
one_appended log h = record { was = λ l is. (log, refl, same_log (log ++ h ∷ []) l is) }

rose_one : (b : Bool) (n : ℕ) → Rose b n (counted b n)
rose_one false n = omega arith
rose_one true n = omega arith

counted_more : (b : Bool) (n more : ℕ) → counted b n + more ≤ n + (one b + more)
counted_more false n more = omega arith
counted_more true n more = omega arith

all_stand : (life : Life) (n : ℕ) (Q : State → Type 0) (hs log : Log) → Stands life n (MovesAll Q hs) log → Stands life (n + count_by fails hs) Q (log ++ hs)
all_stand life n Q [] log stands = faults_rise life n (n + count_by fails []) Q (log ++ []) (omega arith) (subst (λ (k : Log). Stands life n Q k) (sym (append-nil log)) stands)
all_stand life n Q (h ∷ hs) log stands =
    let step : Keeps (Some log) (Some (log ++ h ∷ [])) n (counted (fails h) n) (MovesAll Q (h ∷ hs)) (MovesAll Q hs) = keeps_more (λ l. h) (one_appended log h) (λ l. rose_one (fails h) n) (λ l s holds. holds) in
    let here : Told (Some log) (Stands life n (MovesAll Q (h ∷ hs))) = record { at = λ l is. subst (λ (k : Log). Stands life n (MovesAll Q (h ∷ hs)) k) (sym (same_log log l is)) stands } in
    let there : Stands life (counted (fails h) n) (MovesAll Q hs) (log ++ h ∷ []) = (step.keeps life here).at (log ++ h ∷ []) refl in
    subst (λ (k : Log). Stands life (n + count_by fails (h ∷ hs)) Q k) (append_assoc log (h ∷ []) hs)
    (faults_rise life (counted (fails h) n + count_by fails hs) (n + count_by fails (h ∷ hs)) Q ((log ++ h ∷ []) ++ hs)
    (subst (λ (k : ℕ). counted (fails h) n + count_by fails hs ≤ n + k) (sym (count_first h hs)) (counted_more (fails h) n (count_by fails hs)))
    (all_stand life (counted (fails h) n) Q hs (log ++ h ∷ []) there))

-- a call that adds such happenings, each of which may come
pub keeps_added : {old new : Option Log} (a b : ℕ) (P Q : State → Type 0) (R : Log → Type 0) → Adds old new a b R → ((hs : Log) (s : State) → R hs → P s → MovesAll Q hs s) → Keeps old new a b P Q
keeps_added a b P Q R call step = record {
  keeps = λ life known. record {
    at = λ l is.
        let was = call.was l is in
        let stood : Stands life a P was.0 = known.at was.0 was.2 in
        subst (λ (k : Log). Stands life b Q k) (sym was.3)
        (faults_rise life (a + count_by fails was.1) b Q (was.0 ++ was.1) was.5
        (all_stand life a Q was.1 was.0 (stands_as life a P (MovesAll Q was.1) was.0 (λ s holds. step was.1 s was.4 holds) stood)));
  };
}

pub adds_then : {old mid new : Option Log} (a b c : ℕ) (R S : Log → Type 0) → Adds old mid a b R → Adds mid new b c S → Adds old new a c (Both R S)
adds_then a b c R S one two = record {
  was = λ l is.
      let later = two.was l is in
      let earlier = one.was later.0 later.2 in (
        earlier.0,
        earlier.1 ++ later.1,
        earlier.2,
        later.3 ∙ ap (λ (k : Log). k ++ later.1) earlier.3 ∙ append_assoc earlier.0 earlier.1 later.1,
        record { one = earlier.1; two = later.1; is = refl; first = earlier.4; then = later.4 },
        omega (arith, earlier.5, later.5, count_both earlier.1 later.1),
      );
}

-- what came is known in other words
pub adds_as : {old new : Option Log} (a b : ℕ) (R S : Log → Type 0) → ((hs : Log) → R hs → S hs) → Adds old new a b R → Adds old new a b S
adds_as a b R S words call = record { was = λ l is. let was = call.was l is in (was.0, was.1, was.2, was.3, words was.1 was.4, was.5) }

-- ---- with none

pub calm_add : CalmOnesAdd
calm_add old new before now hs call less calm = record {
  was = λ l is. let was = call.was l is in (was.0, hs, was.1, was.2, refl, omega (arith, less, calm_count hs calm));
}

-- ---- those alone

pub added_keep : AddedOnesKeep
added_keep old new before now hs p q call step =
    keeps_added before now (Passes p) (Passes q) (Is hs) call (λ k s is holds. subst (λ (j : Log). MovesAll (Passes q) j s) (sym is) (step s holds))

pub additions_join : AdditionsJoin
additions_join old mid new before between now one two first then = record {
  was = λ l is.
      let was = (adds_then before between now (Is one) (Is two) first then).was l is in
      (was.0, was.1, was.2, was.3, was.4.is ∙ ap (λ (k : Log). k ++ was.4.two) was.4.first ∙ ap (λ (k : Log). one ++ k) was.4.then, was.5);
}
