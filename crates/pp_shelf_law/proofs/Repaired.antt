-- A repair in the opening, operation by operation.
use Rattle.std.proofs.Common.{◌≡◌, refl, sym, subst, ap, ◌∙◌, ℕ, Bool, true, false, is_some, List, [], ◌∷◌, ◌++◌, append_assoc, Option, Some, None}
use Rattle.std.specs.List.{list_any}
use Rattle.pp_law.specs.After.{ended_op}
use Rattle.pp_law.specs.Lists.{Bytes}
use Rattle.pp_law.specs.Opening.{is_opening, is_same_phase, lose_in_opening}
use Rattle.pp_law.specs.Repairs.{agenda_in_opening, begin_in_opening, closes_strays, has_strays_under, may_repair}
use Rattle.pp_law.specs.State.{State, Agenda, no_agenda, Todo, Do, Phase, IsWoken, IsConfigured, IsRooted, IsListed, IsListening, IsStuck}
use Rattle.pp_law.specs.Store.{begin_op, close_name, end_op, enter_next, fail_op, going_on, is_idle_disk, is_of_draft, lose_entry}
use Rattle.pp_obeys.proofs.Calls.{moves_to}
use Rattle.pp_obeys.proofs.Happenings.{goes_did, goes_repairing}
use Rattle.pp_obeys.proofs.Silent.{both_hold}
use Rattle.pp_obeys.specs.Moves.{Goes, Leads, Moves, MovesAll}
use Rattle.pp_world.specs.Log.{Log}
use Rattle.pp_world.specs.declared.happening.Happening.TheVariants.{Began, Did}
use Rattle.pp_world.specs.declared.op.DiskOp.{DiskOp}
use Rattle.pp_world.specs.declared.op.DiskOp.TheVariants.{Sync, Write}
use Rattle.pp_shelf_law.specs.Repairs.{IsIdle, RepairsLead, SyncsLead}
use Rattle.pp_shelf_law.specs.Runs.{ran}
use Rattle.pp_shelf_law.proofs.Runs.{begun_to, close_any, ends, fail_phase, going_is, idle_is, op_same, plain_fails}

opens_with : (Q : State → Type 0) (s : State) (name : Bytes) (op : DiskOp) (todo : List Todo) → IsIdle s → agenda_in_opening op s ≡ Some (record { name = name; todo = Do op ∷ todo }) → Q (begun_to (record { name = name; todo = todo }) op s) → Moves Q (Began op) s
unfolding begin_in_opening begin_op
opens_with Q s name op todo i plan holds =
    let goes : Goes s (Began op) (begin_in_opening op s) = goes_repairing s op i.none i.at (both_hold (is_idle_disk s) _ (idle_is s i.idle) (ap (λ (o : Option Agenda). is_some o) plan)) in
    moves_to refl goes (subst Q (sym (ap (λ (o : Option Agenda). begin_op op o s) plan)) holds)

opens : (s : State) → s.phase ≡ IsListed → is_opening s ≡ true
opens s at = ap (λ (q : Phase). list_any (λ p. is_same_phase p q) (IsWoken ∷ IsConfigured ∷ IsRooted ∷ IsListed ∷ IsListening ∷ IsStuck ∷ [])) at

lost_with : (Q : State → Type 0) (s : State) (op : DiskOp) (a : Agenda) → IsIdle s → is_of_draft op ≡ false → Q (lose_entry a.name (close_name a.name (ran (Began op ∷ Did op false ∷ []) no_agenda s))) → Moves Q (Did op false) (begun_to a op s)
unfolding ended_op end_op lose_in_opening
lost_with Q s op a i plain holds =
    let goes : Goes (begun_to a op s) (Did op false) (ended_op op false (begun_to a op s)) = goes_did (begun_to a op s) op false i.none (op_same op) in
    let ended : State = record s { disk = (s.disk ++ Began op ∷ []) ++ Did op false ∷ []; under_way = None; agenda = a } in
    let lost : lose_in_opening a.name (fail_op op ended) ≡ lose_entry a.name (fail_op op ended) =
    ap (λ (b : Bool). elim b as (λ c. State) [ true ↦ lose_entry a.name (fail_op op ended) | false ↦ fail_op op ended ]) (opens (fail_op op ended) (fail_phase op ended ∙ i.at)) in
    let closed : fail_op op ended ≡ close_name a.name (ran (Began op ∷ Did op false ∷ []) no_agenda s) =
    ap (λ (d : Log). fail_op op (record s { disk = d; under_way = None; agenda = a })) (append_assoc s.disk (Began op ∷ []) (Did op false ∷ []))
    ∙ plain_fails op (ran (Began op ∷ Did op false ∷ []) a s) plain ∙ close_any a.name (Began op ∷ Did op false ∷ []) a s in
    moves_to refl goes (subst Q (sym (lost ∙ ap (λ (t : State). lose_entry a.name t) closed)) holds)

-- done, and failed
abbrev passed : DiskOp → Log
passed op = Began op ∷ Did op true ∷ []

abbrev refused : DiskOp → Log
refused op = Began op ∷ Did op false ∷ []

abbrev lost : Bytes → DiskOp → State → State
lost name op s = lose_entry name (close_name name (ran (refused op) no_agenda s))

both_ways : (s : State) (name : Bytes) (op : DiskOp) (todo : List Todo) → IsIdle s → is_of_draft op ≡ false → agenda_in_opening op s ≡ Some (record { name = name; todo = Do op ∷ todo })
    → enter_next (ran (passed op) (record { name = name; todo = todo }) s) ≡ ran (passed op) (record { name = name; todo = todo }) s
    → Leads (passed op) s (ran (passed op) (record { name = name; todo = todo }) s) × Leads (refused op) s (lost name op s)
both_ways s name op todo i plain plan stays = (
  opens_with (MovesAll (λ u. u ≡ ran (passed op) (record { name = name; todo = todo }) s) (Did op true ∷ [])) s name op todo i plan
      (ends (λ u. u ≡ ran (passed op) (record { name = name; todo = todo }) s) s op (record { name = name; todo = todo }) i.none stays),
  opens_with (MovesAll (λ u. u ≡ lost name op s) (Did op false ∷ [])) s name op todo i plan
      (lost_with (λ u. u ≡ lost name op s) s op (record { name = name; todo = todo }) i plain refl),
)

repair_plan : (s : State) (name : Bytes) (at : ℕ) (bytes : Bytes) → may_repair s name ≡ true → list_any (closes_strays s name at bytes) s.entries ≡ true
    → agenda_in_opening (Write name at bytes) s ≡ Some (record { name = name; todo = Do (Write name at bytes) ∷ Do (Sync name) ∷ [] })
repair_plan s name at bytes may strays =
    ap (λ (b : Bool). elim b as (λ c. Option Agenda) [ true ↦ Some (record { name = name; todo = Do (Write name at bytes) ∷ Do (Sync name) ∷ [] }) | false ↦ None ])
    (both_hold (may_repair s name) (list_any (closes_strays s name at bytes) s.entries) may strays)

pub repairs_lead : RepairsLead
unfolding enter_next
repairs_lead s name at bytes i may strays = both_ways s name (Write name at bytes) (Do (Sync name) ∷ []) i refl (repair_plan s name at bytes may strays) refl

sync_plan : (s : State) (name : Bytes) → s.agenda ≡ record { name = name; todo = Do (Sync name) ∷ [] } → has_strays_under s name ≡ false → agenda_in_opening (Sync name) s ≡ Some (record { name = name; todo = Do (Sync name) ∷ [] })
sync_plan s name agenda clean =
    ap (λ (a : Agenda). elim (has_strays_under s a.name) as (λ c. Option Agenda) [ true ↦ None | false ↦ going_on (Sync name) a ]) agenda
    ∙ ap (λ (b : Bool). elim b as (λ c. Option Agenda) [ true ↦ None | false ↦ going_on (Sync name) (record { name = name; todo = Do (Sync name) ∷ [] }) ]) clean
    ∙ going_is (Sync name) name []

pub syncs_lead : SyncsLead
unfolding enter_next
syncs_lead s name i agenda clean = both_ways s name (Sync name) [] i refl (sync_plan s name agenda clean) refl
