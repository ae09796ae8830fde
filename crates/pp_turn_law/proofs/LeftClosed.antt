-- Which names are closed behind a happening that changes the disk.
use Rattle.std.proofs.Common.{◌≡◌, ◌⊎◌, inl, inr, refl, sym, ap, ◌∙◌, ℕ, Bool, true, false, List, [], ◌∷◌, ◌++◌, find, Option, Some, None}
use Rattle.pp_conf.specs.Conf.{Settings}
use Rattle.pp_conf.specs.Words.{reading_of}
use Rattle.pp_law.specs.After.{begun_op, ended_op, noted, paid, unread}
use Rattle.pp_law.specs.Lists.{Bytes, has_text}
use Rattle.pp_law.specs.Opening.{configured, is_opening, opened_to, lose_in_opening, settings_in, stuck, with_settings}
use Rattle.pp_law.specs.Phases.{come_to}
use Rattle.pp_law.specs.Replies.{regained}
use Rattle.pp_law.specs.Repairs.{agenda_in_opening, begin_in_opening}
use Rattle.pp_law.specs.State.{State, Agenda, Entry, Keeping, Phase, Todo, Acknowledge, Do, Enter}
use Rattle.pp_law.specs.Store.{agenda_in_turn, begin_in_turn, begin_op, close_name, end_op, enter_next, fail_op, is_of_draft, left_todo, lose_draft, lose_entry, note_gone, note_kept, remove_entry}
use Rattle.pp_law.specs.Table.{is_entry_of}
use Rattle.pp_laws_crash.proofs.Inv.{was_open}
use Rattle.pp_obeys.proofs.Frames.{Frame}
use Rattle.pp_obeys.proofs.StaysTurns.{come_to-frame}
use Rattle.pp_world.specs.declared.happening.Happening.TheVariants.{Did}
use Rattle.pp_world.specs.declared.note.Remark.TheVariants.{Kept, Gone}
use Rattle.pp_world.specs.declared.op.DiskOp.{DiskOp}

come_closed : (phase : Phase) (s : State) → (come_to phase s).closed_names ≡ s.closed_names
come_closed phase s = ap (λ (o : Frame). o.closed_names) (come_to-frame false phase s)

-- ---- an operation begins, and is done

begin_closed : (op : DiskOp) (o : Option Agenda) (s : State) → (begin_op op o s).closed_names ≡ s.closed_names
unfolding begin_op
begin_closed op None s = refl
begin_closed op (Some a) s = refl

pub begun_closed : (op : DiskOp) (s : State) → (begun_op op s).closed_names ≡ s.closed_names
unfolding begun_op begin_in_opening begin_in_turn
begun_closed op s = by (is_opening s)
  where
    by : (opens : Bool) → (elim opens as (λ c. State) [ true ↦ begin_in_opening op s | false ↦ begin_in_turn op (come_to Keeping s) ]).closed_names ≡ s.closed_names
    by true = begin_closed op (agenda_in_opening op s) s
    by false = begin_closed op (agenda_in_turn op (come_to Keeping s)) (come_to Keeping s) ∙ come_closed Keeping s

enter_closed : (s : State) → (enter_next s).closed_names ≡ s.closed_names
unfolding enter_next
enter_closed s = by s.agenda.todo
  where
    one : (next : Todo) (todo : List Todo) → (elim next as (λ c. State) [ Do op ↦ s | Acknowledge key tag n extent ↦ s | Enter e ↦ left_todo todo (record s { entries = s.entries ++ e ∷ [] }) ]).closed_names ≡ s.closed_names
    one (Do op) todo = refl
    one (Acknowledge key tag n extent) todo = refl
    one (Enter e) todo = refl

    by : (todo : List Todo) → (elim todo as (λ c. State) [
      | [] ↦ s
      | next ∷ rest ↦ elim next as (λ c. State) [ Do op ↦ s | Acknowledge key tag n extent ↦ s | Enter e ↦ left_todo rest (record s { entries = s.entries ++ e ∷ [] }) ]
    ]).closed_names ≡ s.closed_names
    by [] = refl
    by (next ∷ rest) = one next rest

pub done_closed : (op : DiskOp) (s : State) → (ended_op op true s).closed_names ≡ s.closed_names
unfolding ended_op end_op
done_closed op s = enter_closed _

-- ---- it failed, or a read did

lost_closed : (name : Bytes) (s : State) → (lose_in_opening name s).closed_names ≡ s.closed_names
unfolding lose_in_opening lose_entry
lost_closed name s = by (is_opening s)
  where
    by : (opens : Bool) → (elim opens as (λ c. State) [ true ↦ lose_entry name s | false ↦ s ]).closed_names ≡ s.closed_names
    by true = refl
    by false = refl

-- a name is open behind it: it was before, and the operation was on the draft or on another
pub record WasOpen (op : DiskOp) (s : State) (name : Bytes) : Type 0 where
  pub was : has_text name s.closed_names ≡ false
  pub how : (is_of_draft op ≡ true) ⊎ (name ≡ s.agenda.name → ⊥)

pub failed_open : (op : DiskOp) (s : State) (name : Bytes) → has_text name (ended_op op false s).closed_names ≡ false → WasOpen op s name
unfolding ended_op end_op fail_op lose_draft close_name
failed_open op s name open_is = by (is_of_draft op) refl (ap (has_text name) (sym (lost_closed s.agenda.name _)) ∙ open_is)
  where
    t : State
    t = record s { under_way = None; disk = s.disk ++ Did op false ∷ [] }

    by : (drafts : Bool) → is_of_draft op ≡ drafts → has_text name (elim drafts as (λ c. State) [ true ↦ lose_draft t | false ↦ close_name t.agenda.name t ]).closed_names ≡ false → WasOpen op s name
    by true is still = record { was = still; how = inl is }
    by false is still = let was = was_open s.agenda.name name s.closed_names still in record { was = was.1; how = inr was.0 }

paid_closed : (s : State) → (paid s).closed_names ≡ s.closed_names
unfolding paid regained
paid_closed s = refl

pub unread_open : (n : Bytes) (s : State) (name : Bytes) → has_text name (unread n s).closed_names ≡ false → (name ≡ n → ⊥) × (has_text name s.closed_names ≡ false)
unfolding unread close_name
unread_open n s name open_is = was_open n name s.closed_names (ap (has_text name) (sym (paid_closed _ ∙ lost_closed n _)) ∙ open_is)

-- ---- notes of entries

pub kept_closed : (key tag : Bytes) (n extent : ℕ) (s : State) → (noted (Kept key tag n extent) s).closed_names ≡ s.closed_names
unfolding noted note_kept
kept_closed key tag n extent s = refl

taken_away : (key : Bytes) (s : State) → (note_gone key s).closed_names ≡ s.closed_names
unfolding note_gone remove_entry
taken_away key s = by (find (is_entry_of key) s.entries)
  where
    by : (o : Option Entry) → (elim o as (λ c. State) [ None ↦ s | Some e ↦ remove_entry e s ]).closed_names ≡ s.closed_names
    by None = refl
    by (Some e) = refl

pub gone_closed : (key : Bytes) (s : State) → (noted (Gone key) s).closed_names ≡ s.closed_names
unfolding noted
gone_closed key s = taken_away key (come_to Keeping s) ∙ come_closed Keeping s

-- ---- the opening

pub opened_closed : (phase : Phase) (ok : Bool) (s : State) → (opened_to phase ok s).closed_names ≡ s.closed_names
unfolding opened_to stuck
opened_closed phase true s = refl
opened_closed phase false s = refl

set_closed : (o : Option Settings) (s : State) → (with_settings o s).closed_names ≡ s.closed_names
unfolding with_settings
set_closed None s = refl
set_closed (Some c) s = refl

pub configured_closed : (text : Option Bytes) (s : State) → (configured text s).closed_names ≡ s.closed_names
unfolding configured stuck
configured_closed None s = refl
configured_closed (Some text) s = set_closed (settings_in (reading_of s.term.words (Some text))) s
