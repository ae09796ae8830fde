-- A log has no first fault exactly where it is lawful.
use Rattle.std.proofs.Common.{◌≡◌, refl, ℕ, ◌+◌, [], ◌∷◌, Bool, true, false, Option, Some, None}
use Rattle.pp_world.specs.Log.{Log}
use Rattle.pp_world.specs.declared.happening.Happening.{Happening}
use Rattle.pp_law.specs.After.{after}
use Rattle.pp_law.specs.Lawful.{LawfulFrom, Fault, rule_of, fault_from, NoFaultIsLawful, LawfulHasNoFault}
use Rattle.pp_law.specs.Permits.{is_permitted}
use Rattle.pp_law.specs.State.{State, start}

-- one step of the search
abbrev step_of : ℕ → State → Happening → Log → Bool → Option Fault
step_of n s h log permitted = elim permitted [ true ↦ fault_from (n + 1) (after s h) log | false ↦ Some (record { at = n; rule = rule_of s h }) ]

lawful_by : (n : ℕ) (s : State) (h : Happening) (log : Log) (permitted : Bool) → is_permitted s h ≡ permitted
    → (fault_from (n + 1) (after s h) log ≡ None → LawfulFrom (after s h) log)
    → step_of n s h log permitted ≡ None → (is_permitted s h ≡ true) × LawfulFrom (after s h) log
lawful_by n s h log true is rest none = (is, rest none)
lawful_by n s h log false is rest none = absurd (cc none)

lawful_from : (n : ℕ) (s : State) (log : Log) → fault_from n s log ≡ None → LawfulFrom s log
lawful_from n s [] none = tt
lawful_from n s (h ∷ log) none = lawful_by n s h log (is_permitted s h) refl (lawful_from (n + 1) (after s h) log) none

pub no_fault_lawful : NoFaultIsLawful
no_fault_lawful terms log none = lawful_from 0 (start terms) log none

no_fault_by : (n : ℕ) (s : State) (h : Happening) (log : Log) (permitted : Bool) → permitted ≡ true → fault_from (n + 1) (after s h) log ≡ None → step_of n s h log permitted ≡ None
no_fault_by n s h log true is none = none
no_fault_by n s h log false is none = absurd (cc is)

no_fault_from : (n : ℕ) (s : State) (log : Log) → LawfulFrom s log → fault_from n s log ≡ None
no_fault_from n s [] lawful = refl
no_fault_from n s (h ∷ log) lawful = no_fault_by n s h log (is_permitted s h) lawful.0 (no_fault_from (n + 1) (after s h) log lawful.1)

pub lawful_no_fault : LawfulHasNoFault
lawful_no_fault terms log lawful = no_fault_from 0 (start terms) log lawful
