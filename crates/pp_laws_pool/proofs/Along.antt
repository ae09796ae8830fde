-- What the first state meets, and each permitted happening keeps, is met behind each front of a lawful log.
use Rattle.std.proofs.Common.{◌≡◌, refl, List, [], ◌∷◌, ◌++◌, ap, sym, subst, ◌∙◌}
use Rattle.std.proofs.lemmas.List.{append_assoc, append-nil}
use Rattle.pp_world.specs.Log.{Log}
use Rattle.pp_world.specs.declared.happening.Happening.{Happening}
use Rattle.pp_law.specs.After.{after}
use Rattle.pp_law.specs.Lawful.{LawfulFrom, Lawful}
use Rattle.pp_law.specs.Permits.{IsPermitted}
use Rattle.pp_law.specs.State.{State, Term, start}
use Rattle.pp_law.proofs.Prefixes.{front_from}
use Rattle.pp_laws.specs.Runs.{after_all, state_after}

pub after_all-append : (s : State) (front rest : Log) → after_all s (front ++ rest) ≡ after_all (after_all s front) rest
after_all-append s [] rest = refl
after_all-append s (h ∷ front) rest = after_all-append (after s h) front rest

pub back_from : (s : State) (front rest : Log) → LawfulFrom s (front ++ rest) → LawfulFrom (after_all s front) rest
back_from s [] rest lawful = lawful
back_from s (h ∷ front) rest lawful = back_from (after s h) front rest lawful.1

-- one happening behind a front of a lawful log
pub record Next (terms : List Term) (front : Log) (h : Happening) : Type 0 where
  pub lawful : Lawful terms (front ++ h ∷ [])
  pub permitted : IsPermitted (state_after terms front) h

abbrev pub Steps : (State → Type 0) → Type 0
Steps P = (terms : List Term) (front : Log) (h : Happening) → Next terms front h → P (state_after terms front) → P (after (state_after terms front) h)

joined : (front : Log) (h : Happening) (log : Log) → (front ++ h ∷ []) ++ log ≡ front ++ h ∷ log
joined front h log = append_assoc front (h ∷ []) log

along_from : (P : State → Type 0) → Steps P → (terms : List Term) (front log : Log) → Lawful terms (front ++ log) → P (state_after terms front) → P (state_after terms (front ++ log))
along_from P step terms front [] lawful now = subst (λ (l : Log). P (state_after terms l)) (sym (append-nil front)) now
along_from P step terms front (h ∷ log) lawful now =
    let whole : Lawful terms ((front ++ h ∷ []) ++ log) = subst (λ (l : Log). Lawful terms l) (sym (joined front h log)) lawful in
    let next : Next terms front h = record { lawful = front_from (start terms) (front ++ h ∷ []) log whole; permitted = (back_from (start terms) front (h ∷ log) lawful).0 } in
    let then : P (state_after terms (front ++ h ∷ [])) = subst P (sym (after_all-append (start terms) front (h ∷ []))) (step terms front h next now) in
    subst (λ (l : Log). P (state_after terms l)) (joined front h log) (along_from P step terms (front ++ h ∷ []) log whole then)

pub along : (P : State → Type 0) → ((terms : List Term) → P (start terms)) → Steps P → (terms : List Term) (front rest : Log) → Lawful terms (front ++ rest) → P (state_after terms front)
along P first step terms front rest lawful = along_from P step terms [] front (front_from (start terms) front rest lawful) (first terms)

-- what a lawful log ends with is permitted
pub last_of : (terms : List Term) (front : Log) (h : Happening) → Lawful terms (front ++ h ∷ []) → IsPermitted (state_after terms front) h
last_of terms front h lawful = (back_from (start terms) front (h ∷ []) lawful).0
