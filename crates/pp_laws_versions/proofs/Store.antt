-- What is done to the store, and in the opening, keeps it: a row is drafted under a name that no entry has.
use Rattle.std.proofs.Common.{◌≡◌, refl, ap₂, ℕ, ◌-◌, ◌*◌, ◌≤◌, bytes_eq, drop, length, Bool, true, false, not, ◌==◌, ◌&&◌, List, [], ◌∷◌, ◌++◌, find, Option, Some, None, inl, inr, subst}
use Rattle.std.specs.Prelude.{min}
use Rattle.pp_conf.specs.Conf.{Settings}
use Rattle.pp_conf.specs.Words.{reading_of}
use Rattle.pp_text.specs.Bytes.{is_empty}
use Rattle.pp_world.specs.declared.op.DiskOp.{DiskOp}
use Rattle.pp_world.specs.declared.op.DiskOp.TheVariants.{Remove}
use Rattle.pp_law.specs.Lists.{Bytes}
use Rattle.pp_law.specs.Opening.{settings_in, with_settings, is_opening, stuck, opened_to, configured, lose_in_opening}
use Rattle.pp_law.specs.Repairs.{agenda_in_opening, begin_in_opening}
use Rattle.pp_law.specs.State.{State, Agenda, Entry, Instance, Phase, Todo, Do, Enter, Acknowledge}
use Rattle.pp_law.specs.Store.{agenda_in_turn, begin_in_turn, begin_op, close_name, end_op, enter_next, fail_op, is_closed, is_named, is_of_draft, left_todo, load, load_from, chunk_in_file, is_acknowledged_as, lose_draft, lose_entry, note_gone, note_kept, remove_entry}
use Rattle.pp_law.specs.Table.{is_entry_of, is_row_of, kept_row, row}
use Rattle.pp_laws.proofs.Joins.{put_chunk-given}
use Rattle.pp_laws.proofs.Lists.{in_find, the_one}
use Rattle.pp_laws.proofs.Sound.{instance_id}
use Rattle.pp_laws.proofs.Tests.{first_holds, same_bytes, same_number, second_holds}
use Rattle.pp_laws.specs.Runs.{IsIn}
use Rattle.pp_laws_versions.proofs.Cases.{each_of, each_so, when}
use Rattle.pp_laws_versions.proofs.Chunks.{fewer_same, whole_put}
use Rattle.pp_laws_versions.proofs.Rows.{note_use-keeps}
use Rattle.pp_laws_versions.proofs.Grown.{Left, dropped_in, entry_pushed, further, last_dropped, less, nothing_left}
use Rattle.pp_laws_versions.proofs.View.{Holds, Like, facts_of, fewer, holds, less_filtered, same_rows, with_chunks}
use Rattle.pp_laws_versions.proofs.Plans.{EndsWhole, IsAlone, Plans, opening_plans, turn_plans}

-- ---- the store

no_claim : false ≡ true → ⊥
no_claim is = cc is

remove_entry-keeps : (e : Entry) (s : State) → Holds false s → Holds false (remove_entry e s)
unfolding remove_entry
remove_entry-keeps e s h = holds (less s.instances _ s.agenda.todo _ s.chunks s.next_instance (left (is_closed s e.name)) (λ on. absurd (no_claim on))
    (fewer s.instances _ s.entries _ s.agenda.todo s.chunks _ s.next_instance (same_rows s.instances) (less_filtered (λ x. not (is_entry_of e.key x)) s.entries) (facts_of h).differ (fewer_same s.chunks) (λ c i. i) (facts_of h)))
  where
    left : (t : Bool) → Left s.agenda.todo (elim t as (λ c. List Todo) [ true ↦ [] | false ↦ Do (Remove e.name) ∷ [] ])
    left true = nothing_left s.agenda.todo
    left false = record { enters = λ x i. absurd (none_enters x i); notes = λ key tag n extent i. absurd (none_notes key tag n extent i); last = tt }
      where
        none_enters : (x : Entry) → IsIn (Enter x) (Do (Remove e.name) ∷ []) → ⊥
        none_enters x (inl eq) = cc eq
        none_enters x (inr i) = i

        none_notes : (key tag : Bytes) (n extent : ℕ) → IsIn (Acknowledge key tag n extent) (Do (Remove e.name) ∷ []) → ⊥
        none_notes key tag n extent (inl eq) = cc eq
        none_notes key tag n extent (inr i) = i

pub note_gone-keeps : (key : Bytes) (s : State) → Holds false s → Holds false (note_gone key s)
unfolding note_gone
note_gone-keeps key s h = each_of (find (is_entry_of key) s.entries) h (λ e. remove_entry-keeps e s h)

begin_op-keeps : (op : DiskOp) (plan : Option Agenda) (s : State) → Plans s plan → Holds false s → Holds false (begin_op op plan s)
unfolding begin_op
begin_op-keeps op None s plans h = h
begin_op-keeps op (Some a) s plans h = holds (record {
  each = (facts_of h).each;
  next = λ e i. (plans a refl).next e (dropped_in (Enter e) a.todo i);
  pending = λ e d i j is. (plans a refl).pending e d (dropped_in (Enter e) a.todo i) (dropped_in (Enter d) a.todo j) is;
  still = λ on. absurd (no_claim on);
  once = (facts_of h).once;
  free = λ e d i. (plans a refl).free e d (dropped_in (Enter e) a.todo i);
  last = last_dropped a.todo (plans a refl).last;
  whole = (facts_of h).whole;
  enters = λ e i. (plans a refl).enters e (dropped_in (Enter e) a.todo i);
  notes = λ key tag n extent i. (plans a refl).notes key tag n extent (dropped_in (Acknowledge key tag n extent) a.todo i);
  differ = (facts_of h).differ;
  given = (facts_of h).given;
  chunks_given = (facts_of h).chunks_given;
})

pub begin_in_turn-keeps : (op : DiskOp) (s : State) → IsAlone s → (is_empty s.agenda.todo ≡ true → EndsWhole s) → Holds false s → Holds false (begin_in_turn op s)
unfolding begin_in_turn
begin_in_turn-keeps op s alone ends h = begin_op-keeps op (agenda_in_turn op s) s (turn_plans s (facts_of h) alone ends op) h

pub begin_in_opening-keeps : (op : DiskOp) (s : State) → IsAlone s → Holds false s → Holds false (begin_in_opening op s)
unfolding begin_in_opening
begin_in_opening-keeps op s alone h = begin_op-keeps op (agenda_in_opening op s) s (opening_plans s (facts_of h) alone op) h

enter_next-keeps : {R : Like} (s : State) → Holds R s → Holds R (enter_next s)
unfolding enter_next
enter_next-keeps {R} s h = by s.agenda.todo refl
  where
    entered : (e : Entry) (todo : List Todo) → s.agenda.todo ≡ Enter e ∷ todo → Holds R (left_todo todo (record s { entries = s.entries ++ e ∷ [] }))
    entered e todo is = holds (entry_pushed e s.instances s.entries s.agenda.todo todo s.chunks s.next_instance is (facts_of h))

    by : (todo : List Todo) → s.agenda.todo ≡ todo → Holds R (elim todo as (λ c. State) [
      | [] ↦ s
      | next ∷ rest ↦ elim next as (λ c. State) [ Do op ↦ s | Acknowledge key tag n extent ↦ s | Enter e ↦ left_todo rest (record s { entries = s.entries ++ e ∷ [] }) ]
    ])
    by [] is = h
    by (Do op ∷ rest) is = h
    by (Acknowledge key tag n extent ∷ rest) is = h
    by (Enter e ∷ rest) is = entered e rest is

pub close_name-keeps : {R : Like} (name : Bytes) (s : State) → Holds R s → Holds R (close_name name s)
unfolding close_name
close_name-keeps name s h = holds (less s.instances s.entries s.agenda.todo _ s.chunks s.next_instance (nothing_left s.agenda.todo) (λ on. refl) (facts_of h))

lose_draft-keeps : {R : Like} (s : State) → Holds R s → Holds R (lose_draft s)
unfolding lose_draft
lose_draft-keeps s h = holds (less s.instances s.entries s.agenda.todo _ s.chunks s.next_instance (nothing_left s.agenda.todo) (λ on. refl) (facts_of h))

fail_op-keeps : {R : Like} (op : DiskOp) (s : State) → Holds R s → Holds R (fail_op op s)
unfolding fail_op
fail_op-keeps op s h = when (is_of_draft op) (lose_draft-keeps s h) (close_name-keeps s.agenda.name s h)

pub end_op-keeps : {R : Like} (op : DiskOp) (ok : Bool) (s : State) → Holds R s → Holds R (end_op op ok s)
unfolding end_op
end_op-keeps op true s h = enter_next-keeps _ (holds (facts_of h))
end_op-keeps op false s h = fail_op-keeps op _ (holds (facts_of h))

lose_entry-keeps : {R : Like} (name : Bytes) (s : State) → Holds R s → Holds R (lose_entry name s)
unfolding lose_entry
lose_entry-keeps name s h = holds (fewer s.instances _ s.entries _ s.agenda.todo s.chunks _ s.next_instance (same_rows s.instances) (less_filtered (λ x. not (is_named name x)) s.entries) (facts_of h).differ (fewer_same s.chunks) (λ c i. i) (facts_of h))

-- what is noted is the first that is left to do
noted_first : (key tag : Bytes) (n extent : ℕ) (todo : List Todo) → is_acknowledged_as key tag n extent todo ≡ true → (t : Bytes) × (m : ℕ) × (todo ≡ Acknowledge key t m extent ∷ drop 1 todo)
noted_first key tag n extent [] is = absurd (cc is)
noted_first key tag n extent (Do op ∷ todo) is = absurd (cc is)
noted_first key tag n extent (Enter e ∷ todo) is = absurd (cc is)
noted_first key tag n extent (Acknowledge k t m end ∷ todo) is =
    let far : end ≡ extent = same_number end extent (second_holds (bytes_eq k key && bytes_eq t tag && (m == n)) _ is) in
    let its : k ≡ key = same_bytes k key (first_holds (bytes_eq k key) _ (first_holds (bytes_eq k key && bytes_eq t tag) _ (first_holds (bytes_eq k key && bytes_eq t tag && (m == n)) _ is))) in
    (t, m, ap₂ (λ (a : Bytes) (b : ℕ). Acknowledge a t m b ∷ todo) its far)

pub note_kept-keeps : (key tag : Bytes) (n extent : ℕ) (s : State) → is_acknowledged_as key tag n extent s.agenda.todo ≡ true → Holds false s → Holds false (note_kept key extent s)
unfolding note_kept
note_kept-keeps key tag n extent s is h = (let w = noted_first key tag n extent s.agenda.todo is in holds (further key w.0 w.1 extent s.instances s.entries s.agenda.todo _ s.chunks s.next_instance w.2 (facts_of h)))

-- what is read back is as long as its chunk
abbrev pub LoadsWhole : Bytes → ℕ → State → Type 0
LoadsWhole key i s = (x : Instance) (e : Entry) → row s key ≡ Some x → kept_row s key ≡ Some e → min 4096 (x.version.length - i * 4096) ≤ length (chunk_in_file s e i)

load_from-keeps : (x : Instance) (e : Entry) (i : ℕ) (s : State) → IsIn x s.instances → min 4096 (x.version.length - i * 4096) ≤ length (chunk_in_file s e i) → Holds false s → Holds false (load_from x e i s)
unfolding load_from
load_from-keeps x e i s there long h = note_use-keeps _ (holds (with_chunks s.instances s.entries s.agenda.todo s.chunks _ s.next_instance
    (λ y stands extent was. whole_put y.version.length y.id extent x.id i (chunk_in_file s e i) s.chunks (λ same. subst (λ (z : Instance). min 4096 (z.version.length - i * 4096) ≤ length (chunk_in_file s e i)) (the_one instance_id s.instances x y (facts_of h).differ there stands.0 same) long) was)
    (put_chunk-given s.next_instance x.id i (chunk_in_file s e i) s.chunks ((facts_of h).given x there) (facts_of h).chunks_given) (facts_of h)))

pub load-keeps : (key : Bytes) (i : ℕ) (s : State) → LoadsWhole key i s → Holds false s → Holds false (load key i s)
unfolding load
load-keeps key i s long h = each_so (row s key) (λ none. h) (λ x found. each_so (kept_row s key) (λ none. h) (λ e kept. load_from-keeps x e i s (in_find (is_row_of key) x s.instances found).0 (long x e found kept) h))

-- ---- the opening

with_settings-keeps : {R : Like} (settings : Option Settings) (s : State) → Holds R s → Holds R (with_settings settings s)
unfolding with_settings
with_settings-keeps None s h = holds (facts_of h)
with_settings-keeps (Some settings) s h = holds (facts_of h)

stuck-keeps : {R : Like} (s : State) → Holds R s → Holds R (stuck s)
unfolding stuck
stuck-keeps s h = holds (facts_of h)

pub opened_to-keeps : {R : Like} (phase : Phase) (ok : Bool) (s : State) → Holds R s → Holds R (opened_to phase ok s)
unfolding opened_to
opened_to-keeps phase true s h = holds (facts_of h)
opened_to-keeps phase false s h = stuck-keeps s h

pub configured-keeps : {R : Like} (text : Option Bytes) (s : State) → Holds R s → Holds R (configured text s)
unfolding configured
configured-keeps None s h = stuck-keeps s h
configured-keeps (Some text) s h = with_settings-keeps (settings_in (reading_of s.term.words (Some text))) s h

pub lose_in_opening-keeps : {R : Like} (name : Bytes) (s : State) → Holds R s → Holds R (lose_in_opening name s)
unfolding lose_in_opening
lose_in_opening-keeps name s h = when (is_opening s) (lose_entry-keeps name s h) h
