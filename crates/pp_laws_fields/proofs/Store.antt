-- What is done to the store, and in the opening, keeps what is asked of rows.
use Rattle.std.proofs.Common.{◌≡◌, refl, ℕ, ◌/◌, Bool, true, false, not, ◌==◌, ◌&&◌, List, [], ◌∷◌, ◌++◌, map, find, Option, Some, None, option_and_then, inl, inr, sym, subst}
use Rattle.std.specs.List.{list_any}
use Rattle.pp_conf.specs.Conf.{Settings}
use Rattle.pp_conf.specs.Words.{reading_of}
use Rattle.pp_gate.specs.Gate.{publish_ops}
use Rattle.pp_gate.specs.Seal.{seal_ops}
use Rattle.pp_target.specs.Name.{name_of}
use Rattle.pp_text.specs.Bytes.{is_empty}
use Rattle.pp_world.specs.declared.op.DiskOp.{DiskOp}
use Rattle.pp_world.specs.declared.op.DiskOp.TheVariants.{Draft, SyncDraft, Publish, Write, Sync, Remove}
use Rattle.pp_law.specs.Chunks.{chunk_len}
use Rattle.pp_law.specs.Lists.{Bytes, first_some}
use Rattle.pp_law.specs.Opening.{settings_in, with_settings, is_opening, stuck, opened_to, configured, lose_in_opening}
use Rattle.pp_law.specs.Repairs.{agenda_in_opening, begin_in_opening, closes_strays, has_strays_under, may_repair, repair_of, sync_of}
use Rattle.pp_law.specs.State.{State, Agenda, Entry, Instance, Phase, Todo, Do, Enter, Acknowledge}
use Rattle.pp_law.specs.Store.{agenda_in_turn, begin_in_turn, begin_op, close_name, draft_of, drafted_with, drafting, end_of_run, end_op, enter_next, extended, fail_op, file_of, going_on, is_closed, is_first_todo, is_full_run, is_named, is_of_draft, left_todo, load, load_from, lose_draft, lose_entry, may_draft, may_seal, new_entry, note_gone, note_kept, noting, plan_of, remove_entry, run_bytes, run_from, seal_of, seal_with, sealing}
use Rattle.pp_law.specs.Table.{is_entry_of, is_kept_row_of, kept_row, row}
use Rattle.pp_laws.specs.Runs.{IsIn}
use Rattle.pp_laws_fields.proofs.Cases.{each_of, when}
use Rattle.pp_laws_fields.proofs.Rows.{note_use-keeps}
use Rattle.pp_laws_fields.proofs.View.{FactsOf, Holds, Like, OfEntry, OfRow, dropped_in, entries_changed, entries_filtered, entry_pushed, facts_of, holds}

-- ---- what is begun on the disk

-- what follows makes entries of which it holds
abbrev pub Plans : Like → Option Agenda → Type 0
Plans R plan = (a : Agenda) → plan ≡ Some a → (e : Entry) → IsIn (Enter e) a.todo → OfEntry R e

module _ (R : Like) where
  going_plans : (op : DiskOp) (a : Agenda) → ((e : Entry) → IsIn (Enter e) a.todo → OfEntry R e) → Plans R (going_on op a)
  going_plans op a has = by (is_first_todo op a.todo)
    where
      by : (t : Bool) → Plans R (elim t as (λ c. Option Agenda) [ true ↦ Some a | false ↦ None ])
      by true b is = let e : a ≡ b = cc is in subst (λ (x : Agenda). (y : Entry) → IsIn (Enter y) x.todo → OfEntry R y) e has
      by false b is = absurd (cc is)

  no_enter : (e : Entry) (ops : List DiskOp) (rest : List Todo) → IsIn (Enter e) (map Do ops ++ rest) → IsIn (Enter e) rest
  no_enter e [] rest i = i
  no_enter e (op ∷ ops) rest (inl eq) = absurd (cc eq)
  no_enter e (op ∷ ops) rest (inr i) = no_enter e ops rest i

  none_noted : (e : Entry) (x : Instance) (extent : ℕ) → IsIn (Enter e) (noting x extent) → ⊥
  none_noted e x extent = by (extent == 0)
    where
      by : (t : Bool) → IsIn (Enter e) (elim t as (λ c. List Todo) [ true ↦ [] | false ↦ Acknowledge x.key x.version.tag x.version.length extent ∷ [] ]) → ⊥
      by true i = i
      by false (inl eq) = cc eq
      by false (inr i) = i

  drafting_has : (s : State) (x : Instance) → OfRow R x → (e : Entry) → IsIn (Enter e) (drafting s x) → OfEntry R e
  drafting_has s x has e i = by (no_enter e (publish_ops (name_of x.key) (file_of s x)) (Enter (new_entry x (drafted_with s x)) ∷ noting x (drafted_with s x)) i)
    where
      by : IsIn (Enter e) (Enter (new_entry x (drafted_with s x)) ∷ noting x (drafted_with s x)) → OfEntry R e
      by (inl eq) = let same_one : e ≡ new_entry x (drafted_with s x) = cc eq in subst (λ (y : Entry). OfEntry R y) (sym same_one) has
      by (inr j) = absurd (none_noted e x (drafted_with s x) j)

  draft_plans : (s : State) (x : Instance) → OfRow R x → Plans R (draft_of s x)
  draft_plans s x has = by (may_draft s x)
    where
      by : (t : Bool) → Plans R (elim t as (λ c. Option Agenda) [ true ↦ Some (record { name = name_of x.key; todo = drafting s x }) | false ↦ None ])
      by true a is = let e : (record { name = name_of x.key; todo = drafting s x }) ≡ a = cc is in subst (λ (y : Agenda). (z : Entry) → IsIn (Enter z) y.todo → OfEntry R z) e (drafting_has s x has)
      by false a is = absurd (cc is)

  sealing_none : (s : State) (x : Instance) (k : Entry) (count : ℕ) (e : Entry) → IsIn (Enter e) (sealing s x k count) → ⊥
  sealing_none s x k count e i = by (no_enter e (seal_ops k.name x.version.length (k.extent / chunk_len) count (run_bytes count x.id s.chunks (k.extent / chunk_len))) (Acknowledge x.key x.version.tag x.version.length (end_of_run x k count) ∷ []) i)
    where
      by : IsIn (Enter e) (Acknowledge x.key x.version.tag x.version.length (end_of_run x k count) ∷ []) → ⊥
      by (inl eq) = cc eq
      by (inr j) = j

  seal_plans : (s : State) (x : Instance) → Plans R (seal_of s x)
  seal_plans s x = by (kept_row s x.key)
    where
      at : (k : Entry) (t : Bool) → Plans R (elim t as (λ c. Option Agenda) [ true ↦ Some (record { name = k.name; todo = sealing s x k (run_from s x k) }) | false ↦ None ])
      at k true = λ a is e i. let same_one : (record { name = k.name; todo = sealing s x k (run_from s x k) }) ≡ a = cc is in absurd (sealing_none s x k (run_from s x k) e (subst (λ (y : Agenda). IsIn (Enter e) y.todo) (sym same_one) i))
      at k false = λ a is. absurd (cc is)

      by : (o : Option Entry) → Plans R (elim o as (λ c. Option Agenda) [ None ↦ None | Some k ↦ seal_with s x k ])
      by None = λ a is. absurd (cc is)
      by (Some k) = at k (may_seal s x k && is_full_run s x k (run_from s x k))

  row_plans : (op : DiskOp) (s : State) (x : Instance) → OfRow R x → Plans R (plan_of s op x)
  row_plans (Draft bytes) s x has = draft_plans s x has
  row_plans SyncDraft s x has = λ a is. absurd (cc is)
  row_plans (Publish name) s x has = λ a is. absurd (cc is)
  row_plans (Write name at bytes) s x has = seal_plans s x
  row_plans (Sync name) s x has = λ a is. absurd (cc is)
  row_plans (Remove name) s x has = λ a is. absurd (cc is)

  then_plans : (op : DiskOp) (o : Option Agenda) → Plans R o → Plans R (option_and_then (going_on op) o)
  then_plans op None has = λ a is. absurd (cc is)
  then_plans op (Some b) has = going_plans op b (has b refl)

  first_plans : (f : Instance → Option Agenda) (xs : List Instance) → ((x : Instance) → IsIn x xs → Plans R (f x)) → Plans R (first_some f xs)
  first_plans f [] has = λ a is. absurd (cc is)
  first_plans f (x ∷ xs) has = by (f x) (has x (inl refl)) (first_plans f xs (λ y i. has y (inr i)))
    where
      by : (o : Option Agenda) → Plans R o → Plans R (first_some f xs) → Plans R (elim o as (λ c. Option Agenda) [ Some y ↦ Some y | None ↦ first_some f xs ])
      by None one rest = rest
      by (Some a) one rest = one

  turn_plans : (op : DiskOp) (s : State) → FactsOf R s → Plans R (agenda_in_turn op s)
  turn_plans op s h = by (is_empty s.agenda.todo)
    where
      by : (t : Bool) → Plans R (elim t as (λ c. Option Agenda) [ false ↦ going_on op s.agenda | true ↦ first_some (λ x. option_and_then (going_on op) (plan_of s op x)) s.instances ])
      by true = first_plans (λ x. option_and_then (going_on op) (plan_of s op x)) s.instances (λ x i. then_plans op (plan_of s op x) (row_plans op s x (h.rows x i)))
      by false = going_plans op s.agenda h.next

  repair_plans : (s : State) (name : Bytes) (at : ℕ) (bytes : Bytes) → Plans R (repair_of s name at bytes)
  repair_plans s name at bytes = by (may_repair s name && list_any (closes_strays s name at bytes) s.entries)
    where
      none : (e : Entry) → IsIn (Enter e) (Do (Write name at bytes) ∷ Do (Sync name) ∷ []) → ⊥
      none e (inl eq) = cc eq
      none e (inr (inl eq)) = cc eq
      none e (inr (inr i)) = i

      by : (t : Bool) → Plans R (elim t as (λ c. Option Agenda) [ true ↦ Some (record { name = name; todo = Do (Write name at bytes) ∷ Do (Sync name) ∷ [] }) | false ↦ None ])
      by true = λ a is e i. let same_one : (record { name = name; todo = Do (Write name at bytes) ∷ Do (Sync name) ∷ [] }) ≡ a = cc is in absurd (none e (subst (λ (y : Agenda). IsIn (Enter e) y.todo) (sym same_one) i))
      by false = λ a is. absurd (cc is)

  synced_plans : (op : DiskOp) (s : State) → FactsOf R s → Plans R (sync_of s op)
  synced_plans op s h = by (has_strays_under s s.agenda.name)
    where
      by : (t : Bool) → Plans R (elim t as (λ c. Option Agenda) [ true ↦ None | false ↦ going_on op s.agenda ])
      by true = λ a is. absurd (cc is)
      by false = going_plans op s.agenda h.next

  opening_plans : (op : DiskOp) (s : State) → FactsOf R s → Plans R (agenda_in_opening op s)
  opening_plans (Write name at bytes) s h = repair_plans s name at bytes
  opening_plans (Draft bytes) s h = synced_plans (Draft bytes) s h
  opening_plans SyncDraft s h = synced_plans SyncDraft s h
  opening_plans (Publish name) s h = synced_plans (Publish name) s h
  opening_plans (Sync name) s h = synced_plans (Sync name) s h
  opening_plans (Remove name) s h = synced_plans (Remove name) s h

-- ---- the store

remove_entry-keeps : {R : Like} (e : Entry) (s : State) → Holds R s → Holds R (remove_entry e s)
unfolding remove_entry
remove_entry-keeps e s h = holds (record { own = (facts_of h).own; rows = (facts_of h).rows; kept = entries_filtered _ (λ x. not (is_entry_of e.key x)) s.entries (facts_of h).kept; next = λ x i. absurd (by x (is_closed s e.name) i) })
  where
    by : (x : Entry) (t : Bool) → IsIn (Enter x) (elim t as (λ c. List Todo) [ true ↦ [] | false ↦ Do (Remove e.name) ∷ [] ]) → ⊥
    by x true i = i
    by x false (inl eq) = cc eq
    by x false (inr i) = i

pub note_gone-keeps : {R : Like} (key : Bytes) (s : State) → Holds R s → Holds R (note_gone key s)
unfolding note_gone
note_gone-keeps key s h = each_of (find (is_entry_of key) s.entries) h (λ e. remove_entry-keeps e s h)

begin_op-keeps : {R : Like} (op : DiskOp) (plan : Option Agenda) (s : State) → Plans R plan → Holds R s → Holds R (begin_op op plan s)
unfolding begin_op
begin_op-keeps op None s plans h = h
begin_op-keeps op (Some a) s plans h = holds (record { own = (facts_of h).own; rows = (facts_of h).rows; kept = (facts_of h).kept; next = λ e i. plans a refl e (dropped_in (Enter e) a.todo i) })

pub begin_in_turn-keeps : {R : Like} (op : DiskOp) (s : State) → Holds R s → Holds R (begin_in_turn op s)
unfolding begin_in_turn
begin_in_turn-keeps op s h = begin_op-keeps op (agenda_in_turn op s) s (turn_plans _ op s (facts_of h)) h

pub begin_in_opening-keeps : {R : Like} (op : DiskOp) (s : State) → Holds R s → Holds R (begin_in_opening op s)
unfolding begin_in_opening
begin_in_opening-keeps op s h = begin_op-keeps op (agenda_in_opening op s) s (opening_plans _ op s (facts_of h)) h

enter_next-keeps : {R : Like} (s : State) → Holds R s → Holds R (enter_next s)
unfolding enter_next
enter_next-keeps {R} s h = by s.agenda.todo refl
  where
    entered : (e : Entry) (todo : List Todo) → s.agenda.todo ≡ Enter e ∷ todo → Holds R (left_todo todo (record s { entries = s.entries ++ e ∷ [] }))
    entered e todo is = holds (record {
      own = (facts_of h).own;
      rows = (facts_of h).rows;
      kept = entry_pushed _ e s.entries ((facts_of h).next e (subst (λ (ts : List Todo). IsIn (Enter e) ts) (sym is) (inl refl))) (facts_of h).kept;
      next = λ x i. (facts_of h).next x (subst (λ (ts : List Todo). IsIn (Enter x) ts) (sym is) (inr i));
    })

    by : (todo : List Todo) → s.agenda.todo ≡ todo → Holds R (elim todo as (λ c. State) [
      | [] ↦ s
      | next ∷ rest ↦ elim next as (λ c. State) [ Do op ↦ s | Acknowledge key tag n extent ↦ s | Enter e ↦ left_todo rest (record s { entries = s.entries ++ e ∷ [] }) ]
    ])
    by [] is = h
    by (Do op ∷ rest) is = h
    by (Acknowledge key tag n extent ∷ rest) is = h
    by (Enter e ∷ rest) is = entered e rest is

pub close_name-keeps : {R : Like} (name : Bytes) (s : State) → Holds R s → Holds R (close_name name s)
unfolding close_name
close_name-keeps name s h = holds (record { own = (facts_of h).own; rows = (facts_of h).rows; kept = (facts_of h).kept; next = λ e i. absurd i })

lose_draft-keeps : {R : Like} (s : State) → Holds R s → Holds R (lose_draft s)
unfolding lose_draft
lose_draft-keeps s h = holds (record { own = (facts_of h).own; rows = (facts_of h).rows; kept = (facts_of h).kept; next = λ e i. absurd i })

fail_op-keeps : {R : Like} (op : DiskOp) (s : State) → Holds R s → Holds R (fail_op op s)
unfolding fail_op
fail_op-keeps op s h = when (is_of_draft op) (lose_draft-keeps s h) (close_name-keeps s.agenda.name s h)

pub end_op-keeps : {R : Like} (op : DiskOp) (ok : Bool) (s : State) → Holds R s → Holds R (end_op op ok s)
unfolding end_op
end_op-keeps op true s h = enter_next-keeps _ (holds (facts_of h))
end_op-keeps op false s h = fail_op-keeps op _ (holds (facts_of h))

lose_entry-keeps : {R : Like} (name : Bytes) (s : State) → Holds R s → Holds R (lose_entry name s)
unfolding lose_entry
lose_entry-keeps name s h = holds (record { own = (facts_of h).own; rows = (facts_of h).rows; kept = entries_filtered _ (λ x. not (is_named name x)) s.entries (facts_of h).kept; next = (facts_of h).next })

pub note_kept-keeps : {R : Like} (key : Bytes) (extent : ℕ) (s : State) → Holds R s → Holds R (note_kept key extent s)
unfolding note_kept
note_kept-keeps key extent s h =
    holds (record { own = (facts_of h).own; rows = (facts_of h).rows; kept = entries_changed _ (is_kept_row_of key) (extended extent) s.entries (λ e has. has) (facts_of h).kept; next = λ e i. (facts_of h).next e (dropped_in (Enter e) s.agenda.todo i) })

load_from-keeps : {R : Like} (x : Instance) (e : Entry) (i : ℕ) (s : State) → Holds R s → Holds R (load_from x e i s)
unfolding load_from
load_from-keeps x e i s h = note_use-keeps _ (holds (facts_of h))

pub load-keeps : {R : Like} (key : Bytes) (i : ℕ) (s : State) → Holds R s → Holds R (load key i s)
unfolding load
load-keeps key i s h = each_of (row s key) h (λ x. each_of (kept_row s key) h (λ e. load_from-keeps x e i s h))

-- ---- the opening

with_settings-keeps : {R : Like} (settings : Option Settings) (s : State) → Holds R s → Holds R (with_settings settings s)
unfolding with_settings
with_settings-keeps None s h = holds (facts_of h)
with_settings-keeps (Some settings) s h = holds (facts_of h)

stuck-keeps : {R : Like} (s : State) → Holds R s → Holds R (stuck s)
unfolding stuck
stuck-keeps s h = holds (facts_of h)

pub opened_to-keeps : {R : Like} (phase : Phase) (ok : Bool) (s : State) → Holds R s → Holds R (opened_to phase ok s)
unfolding opened_to
opened_to-keeps phase true s h = holds (facts_of h)
opened_to-keeps phase false s h = stuck-keeps s h

pub configured-keeps : {R : Like} (text : Option Bytes) (s : State) → Holds R s → Holds R (configured text s)
unfolding configured
configured-keeps None s h = stuck-keeps s h
configured-keeps (Some text) s h = with_settings-keeps (settings_in (reading_of s.term.words (Some text))) s h

pub lose_in_opening-keeps : {R : Like} (name : Bytes) (s : State) → Holds R s → Holds R (lose_in_opening name s)
unfolding lose_in_opening
lose_in_opening-keeps name s h = when (is_opening s) (lose_entry-keeps name s h) h
