-- Where nothing is left to do, what the law plans for a row may begin.
use Rattle.std.proofs.Common.{◌≡◌, refl, sym, subst, ap, ◌∙◌, inl, inr, Bool, true, false, List, [], ◌∷◌, Option, Some, None, option_and_then}
use Rattle.pp_gate.specs.Runs.{Ran}
use Rattle.pp_law.specs.After.{after}
use Rattle.pp_law.specs.Lists.{Bytes, first_some}
use Rattle.pp_law.specs.State.{State, Agenda, Instance, Todo, Do, Keeping}
use Rattle.pp_law.specs.Store.{agenda_in_turn, begin_in_turn, begin_op, going_on, is_idle_disk, is_same_op, plan_of}
use Rattle.pp_laws.specs.Runs.{IsIn}
use Rattle.pp_laws_crash.proofs.Begins.{Begun, IsFirst, begins as begun_anew, begun_is, goes_on as begun_goes}
use Rattle.pp_obeys.proofs.Silent.{both_hold}
use Rattle.pp_obeys.proofs.TurnHappenings.{goes_began}
use Rattle.pp_obeys.specs.Moves.{Goes}
use Rattle.pp_text.specs.Bytes.{is_empty}
use Rattle.pp_world.specs.Log.{Log}
use Rattle.pp_world.specs.declared.happening.Happening.TheVariants.{Began, Did}
use Rattle.pp_world.specs.declared.op.DiskOp.{DiskOp}
use Rattle.pp_shelf_law.specs.Runs.{IsWorking, MovesAll}
use Rattle.pp_shelf_law.proofs.Runs.{begins_with, begun_to, idle_is, op_same, plan_is}

first_by : {A B : Type 0} (f : A → Option B) (ys : List A) (o : Option B) → ((c : B) × (first_some f ys ≡ Some c)) → (c : B) × ((elim o as (λ d. Option B) [ Some z ↦ Some z | None ↦ first_some f ys ]) ≡ Some c)
first_by f ys (Some z) rest = (z, refl)
first_by f ys None rest = rest

first_any : {A B : Type 0} (f : A → Option B) (xs : List A) (x : A) (b : B) → IsIn x xs → f x ≡ Some b → (c : B) × (first_some f xs ≡ Some c)
first_any f [] x b i is = absurd i
first_any {A} {B} f (y ∷ ys) x b (inl same) is = (b, ap (λ (o : Option B). elim o as (λ c. Option B) [ Some z ↦ Some z | None ↦ first_some f ys ]) (ap f (sym same) ∙ is))
first_any f (y ∷ ys) x b (inr i) is = first_by f ys (f y) (first_any f ys x b i is)

first_going : (op : DiskOp) (a : Agenda) (todo : List Todo) → a.todo ≡ Do op ∷ todo → going_on op a ≡ Some a
first_going op a todo is =
    ap (λ (b : Bool). elim b as (λ c. Option Agenda) [ true ↦ Some a | false ↦ None ])
    (ap (λ (ts : List Todo). Rattle.pp_law.specs.Store.is_first_todo op ts) is ∙ op_same op)

empty_todo : (todo : List Todo) (op : DiskOp) (rest : List Todo) → todo ≡ [] → todo ≡ Do op ∷ rest → ⊥
empty_todo todo op rest none some = let both : [] ≡ Do op ∷ rest = sym none ∙ some in cc both

-- it is the plan of this row, where no other plan begins so
pub planned : (s : State) (op : DiskOp) (x : Instance) (a : Agenda) (todo : List Todo) → s.agenda.todo ≡ [] → IsIn x s.instances → plan_of s op x ≡ Some a → a.todo ≡ Do op ∷ todo
    → ((y : Instance) (b : Agenda) → IsIn y s.instances → plan_of s op y ≡ Some b → IsFirst op b → b ≡ a) → agenda_in_turn op s ≡ Some a
planned s op x a todo done there plan first only = by (begun_is s op some.0 whole)
  where
    some : (c : Agenda) × (first_some (λ y. option_and_then (going_on op) (plan_of s op y)) s.instances ≡ Some c)
    some = first_any (λ y. option_and_then (going_on op) (plan_of s op y)) s.instances x a there (ap (option_and_then (going_on op)) plan ∙ first_going op a todo first)

    whole : agenda_in_turn op s ≡ Some some.0
    whole =
        ap (λ (b : Bool). elim b as (λ c. Option Agenda) [ false ↦ going_on op s.agenda | true ↦ first_some (λ y. option_and_then (going_on op) (plan_of s op y)) s.instances ]) (ap (λ (ts : List Todo). is_empty ts) done)
        ∙ some.1

    by : Begun s op some.0 → agenda_in_turn op s ≡ Some a
    by (begun_goes is goes) = absurd (empty_todo s.agenda.todo op goes.rest done (ap (λ (b : Agenda). b.todo) (sym is) ∙ goes.todo))
    by (begun_anew none y i plan_y is_first) = whole ∙ ap (λ (b : Agenda). Some b) (only y some.0 i plan_y is_first)

-- ---- and the rest follows

ran_first : (op : DiskOp) (ops : List DiskOp) (ok : Bool) (hs : Log) → Ran (op ∷ ops) ok hs → (rest : Log) × (hs ≡ Began op ∷ rest)
ran_first op ops ok hs (inl failed) = (Did op false ∷ [], failed.1)
ran_first op ops ok hs (inr r) = (Did op true ∷ r.0, r.1)

began_leads : (s : State) (name : Bytes) (op : DiskOp) (todo : List Todo) → IsWorking name (Do op ∷ todo) s → after s (Began op) ≡ begun_to (record { name = name; todo = todo }) op s
unfolding begin_in_turn begin_op
began_leads s name op todo w =
    let goes : Goes s (Began op) (begin_in_turn op s) = goes_began s op w.none w.at (both_hold (is_idle_disk s) _ (idle_is s w.idle) (ap (λ (o : Option Agenda). Rattle.std.specs.Prelude.is_some o) (plan_is s name op todo w.agenda))) in
    goes.leads ∙ ap (λ (o : Option Agenda). begin_op op o s) (plan_is s name op todo w.agenda)

-- with that agenda
abbrev pub given : Agenda → State → State
given a s = record s { agenda = a }

pub starts : (Q : State → Type 0) (s : State) (name : Bytes) (op : DiskOp) (ops : List DiskOp) (ok : Bool) (todo : List Todo) (hs : Log) → s.has_made_room ≡ None → s.phase ≡ Keeping → s.under_way ≡ None
    → agenda_in_turn op s ≡ Some (record { name = name; todo = Do op ∷ todo }) → Ran (op ∷ ops) ok hs → MovesAll Q hs (given (record { name = name; todo = Do op ∷ todo }) s) → MovesAll Q hs s
starts Q s name op ops ok todo hs none at idle plan are moves =
    let first = ran_first op ops ok hs are in
    let there : MovesAll Q (Began op ∷ first.0) (given (record { name = name; todo = Do op ∷ todo }) s) = subst (λ (k : Log). MovesAll Q k (given (record { name = name; todo = Do op ∷ todo }) s)) first.1 moves in
    let works : IsWorking name (Do op ∷ todo) (given (record { name = name; todo = Do op ∷ todo }) s) = record { none = none; at = at; idle = idle; agenda = refl } in
    subst (λ (k : Log). MovesAll Q k s) (sym first.1)
    (begins_with (MovesAll Q first.0) s name op todo none at idle plan (subst (MovesAll Q first.0) (began_leads (given (record { name = name; todo = Do op ∷ todo }) s) name op todo works) there.holds))
