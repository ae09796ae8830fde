-- A lawful log, and the first happening that makes a log unlawful.
use Rattle.std.specs.Prelude.{◌≡◌, ℕ, ◌+◌, true, false, List, [], ◌∷◌, ◌++◌, Option, Some, None, not, find, zip}
use Rattle.pp_world.specs.declared.event.Wants.{Wants}
use Rattle.pp_world.specs.declared.happening.Happening.{Happening}
use Rattle.pp_world.specs.declared.happening.Happening.TheVariants.{Woke, Waits, Heard, HungUp, Said, Shut, Dialled, Undialled, Ended, Broke, Asked, Got, Dropped, NoneYet, Began, Did, Unread, Noted, Rooted, Listed, Listens, Configured, Printed}
use Rattle.pp_world.specs.declared.note.Remark.{Remark}
use Rattle.pp_world.specs.declared.note.Remark.TheVariants.{Taken, Cut, Kept, Gone, Forgotten, Evicted, Loaded}
use Rattle.pp_world.specs.Log.{Log}
use Rattle.pp_law.specs.After.{after}
use Rattle.pp_law.specs.Opening.{may_fail}
use Rattle.pp_law.specs.Permits.{is_permitted, IsPermitted, may_wait}
use Rattle.pp_law.specs.Phases.{ending}
use Rattle.pp_law.specs.Served.{duties}
use Rattle.pp_law.specs.State.{State, Term, start}

-- each happening is permitted in the state before it
abbrev pub LawfulFrom : State → Log → Type 0
LawfulFrom s [] = Unit {0}
LawfulFrom s (h ∷ log) = IsPermitted s h × LawfulFrom (after s h) log

abbrev pub Lawful : List Term → Log → Type 0
Lawful terms log = LawfulFrom (start terms) log

-- ---- what a happening that is not permitted breaks

pub data Rule : Type 0 where
  ImageNotLeft OpeningOutOfOrder EventOutOfTurn ReadNotAskedFor FailureMadeUp : Rule
  WrongReply WrongAsk WrongDecision WrongCut NotToBeClosed NotToBeDialled : Rule
  NotToBeEvicted NotToBeForgotten NotToBeLoaded NotSealed NotGone WrongDiskOperation : Rule
  StepUnfinished AcceptsWrongly ClientForgotten ConnectionForgotten ExchangeForgotten WantsTooMuch : Rule

-- which rule each duty of a wait is, in their order
abbrev pub waiting_rules : List Rule
waiting_rules = AcceptsWrongly ∷ ClientForgotten ∷ ConnectionForgotten ∷ ExchangeForgotten ∷ WantsTooMuch ∷ []

-- the first that it does not meet
abbrev pub served_rule : State → Wants → Rule
served_rule s w = elim (find (λ rule. not rule.0) (zip (duties s w) waiting_rules)) [ None ↦ WantsTooMuch | Some rule ↦ rule.1 ]

abbrev pub wait_rule : State → Wants → Rule
wait_rule s w = elim (may_wait s) [ false ↦ StepUnfinished | true ↦ served_rule (ending s) w ]

abbrev pub note_rule : Remark → Rule
note_rule (Taken c i d) = WrongDecision
note_rule (Cut c cause) = WrongCut
note_rule (Kept key tag n extent) = NotSealed
note_rule (Gone key) = NotGone
note_rule (Forgotten key) = NotToBeForgotten
note_rule (Evicted key tag n i) = NotToBeEvicted
note_rule (Loaded key tag n i) = NotToBeLoaded

abbrev pub failure_rule : State → Rule → Rule
failure_rule s other = elim (may_fail s false) [ false ↦ FailureMadeUp | true ↦ other ]

unfoldable pub rule_of : State → Happening → Rule
rule_of s (Woke image) = ImageNotLeft
rule_of s (Waits w) = wait_rule s w
rule_of s (Heard c bytes) = ReadNotAskedFor
rule_of s (HungUp c) = ReadNotAskedFor
rule_of s (Said c offered bytes) = WrongReply
rule_of s (Shut c) = NotToBeClosed
rule_of s (Dialled n host port) = NotToBeDialled
rule_of s (Undialled host port) = failure_rule s NotToBeDialled
rule_of s (Ended k) = ReadNotAskedFor
rule_of s (Broke k) = ReadNotAskedFor
rule_of s (Asked k bytes) = WrongAsk
rule_of s (Got k bytes) = ReadNotAskedFor
rule_of s (Dropped k) = NotToBeClosed
rule_of s (NoneYet n) = ReadNotAskedFor
rule_of s (Began op) = WrongDiskOperation
rule_of s (Did op true) = WrongDiskOperation
rule_of s (Did op false) = failure_rule s WrongDiskOperation
rule_of s (Unread name) = failure_rule s NotToBeLoaded
rule_of s (Noted remark) = note_rule remark
rule_of s (Rooted folder) = OpeningOutOfOrder
rule_of s (Listed ok) = OpeningOutOfOrder
rule_of s (Listens port ok) = OpeningOutOfOrder
rule_of s (Configured file text) = OpeningOutOfOrder
rule_of s (Printed text) = OpeningOutOfOrder
rule_of s event = EventOutOfTurn

-- the place of the happening in the log, from 0, and the rule that it breaks
pub record Fault : Type 0 where
  pub at : ℕ
  pub rule : Rule

abbrev pub fault_from : ℕ → State → Log → Option Fault
fault_from n s [] = None
fault_from n s (h ∷ log) = elim (is_permitted s h) [
  | true ↦ fault_from (n + 1) (after s h) log
  | false ↦ Some (record { at = n; rule = rule_of s h })
]

abbrev pub first_fault : List Term → Log → Option Fault
first_fault terms log = fault_from 0 (start terms) log

-- ---- laws of these definitions

abbrev pub EachPrefixIsLawful : Type 0
EachPrefixIsLawful = (terms : List Term) (front rest : Log) → Lawful terms (front ++ rest) → Lawful terms front

abbrev pub NoFaultIsLawful : Type 0
NoFaultIsLawful = (terms : List Term) (log : Log) → first_fault terms log ≡ None → Lawful terms log

abbrev pub LawfulHasNoFault : Type 0
LawfulHasNoFault = (terms : List Term) (log : Log) → Lawful terms log → first_fault terms log ≡ None
