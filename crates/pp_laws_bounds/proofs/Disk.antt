-- The disk and the opening keep the bounds.
use Rattle.std.proofs.Common.{◌≡◌, refl, ℕ, zero-le, Bool, true, false, List, [], find, Option, Some, None, sym, subst, ◌∙◌}
use Rattle.pp_conf.specs.Conf.{Settings}
use Rattle.pp_conf.specs.Words.{reading_of}
use Rattle.pp_world.specs.Files.{Files}
use Rattle.pp_world.specs.declared.op.DiskOp.{DiskOp}
use Rattle.pp_law.specs.Lists.{Bytes}
use Rattle.pp_law.specs.Opening.{settings_in, with_settings, names_file, begun, woken, is_opening, stuck, opened_to, configured, lose_in_opening, are_texts}
use Rattle.pp_law.specs.Repairs.{agenda_in_opening, begin_in_opening}
use Rattle.pp_law.specs.State.{State, Agenda, Entry, Instance, Phase, IsWoken}
use Rattle.pp_law.specs.Store.{remove_entry, note_gone, agenda_in_turn, begin_op, begin_in_turn, enter_next, close_name, is_of_draft, lose_draft, fail_op, end_op, lose_entry, note_kept, load_from, load}
use Rattle.pp_law.specs.Table.{is_entry_of, row, kept_row}
use Rattle.pp_laws_bounds.proofs.Cases.{by_list, by_todo, each_of, when}
use Rattle.pp_laws_bounds.proofs.Kept.{Facts, FactsOf, Kept, Lines, facts_of, is_early, kept}
use Rattle.pp_laws_bounds.proofs.Rows.{note_use-kept}

-- ---- the store

remove_entry-kept : {but : List ℕ} (e : Entry) (s : State) → Kept but s → Kept but (remove_entry e s)
unfolding remove_entry
remove_entry-kept e s h = kept (facts_of h)

pub note_gone-kept : {but : List ℕ} (key : Bytes) (s : State) → Kept but s → Kept but (note_gone key s)
unfolding note_gone
note_gone-kept key s h = each_of (find (is_entry_of key) s.entries) h (λ e. remove_entry-kept e s h)

begin_op-kept : {but : List ℕ} (op : DiskOp) (plan : Option Agenda) (s : State) → Kept but s → Kept but (begin_op op plan s)
unfolding begin_op
begin_op-kept op None s h = h
begin_op-kept op (Some a) s h = kept (facts_of h)

pub begin_in_turn-kept : {but : List ℕ} (op : DiskOp) (s : State) → Kept but s → Kept but (begin_in_turn op s)
unfolding begin_in_turn
begin_in_turn-kept op s h = begin_op-kept op (agenda_in_turn op s) s h

pub begin_in_opening-kept : {but : List ℕ} (op : DiskOp) (s : State) → Kept but s → Kept but (begin_in_opening op s)
unfolding begin_in_opening
begin_in_opening-kept op s h = begin_op-kept op (agenda_in_opening op s) s h

enter_next-kept : {but : List ℕ} (s : State) → Kept but s → Kept but (enter_next s)
unfolding enter_next
enter_next-kept s h = by_list s.agenda.todo h (λ todo agenda. by_todo todo (λ op. h) (λ e. kept (facts_of h)) (λ key tag n extent. h))

pub close_name-kept : {but : List ℕ} (name : Bytes) (s : State) → Kept but s → Kept but (close_name name s)
unfolding close_name
close_name-kept name s h = kept (facts_of h)

lose_draft-kept : {but : List ℕ} (s : State) → Kept but s → Kept but (lose_draft s)
unfolding lose_draft
lose_draft-kept s h = kept (facts_of h)

fail_op-kept : {but : List ℕ} (op : DiskOp) (s : State) → Kept but s → Kept but (fail_op op s)
unfolding fail_op
fail_op-kept op s h = when (is_of_draft op) (lose_draft-kept s h) (close_name-kept s.agenda.name s h)

pub end_op-kept : {but : List ℕ} (op : DiskOp) (ok : Bool) (s : State) → Kept but s → Kept but (end_op op ok s)
unfolding end_op
end_op-kept op true s h = enter_next-kept _ (kept (facts_of h))
end_op-kept op false s h = fail_op-kept op _ (kept (facts_of h))

lose_entry-kept : {but : List ℕ} (name : Bytes) (s : State) → Kept but s → Kept but (lose_entry name s)
unfolding lose_entry
lose_entry-kept name s h = kept (facts_of h)

pub note_kept-kept : {but : List ℕ} (key : Bytes) (extent : ℕ) (s : State) → Kept but s → Kept but (note_kept key extent s)
unfolding note_kept
note_kept-kept key extent s h = kept (facts_of h)

load_from-kept : {but : List ℕ} (x : Instance) (e : Entry) (i : ℕ) (s : State) → Kept but s → Kept but (load_from x e i s)
unfolding load_from
load_from-kept x e i s h = note_use-kept _ (kept (facts_of h))

pub load-kept : {but : List ℕ} (key : Bytes) (i : ℕ) (s : State) → Kept but s → Kept but (load key i s)
unfolding load
load-kept key i s h = each_of (row s key) h (λ x. each_of (kept_row s key) h (λ e. load_from-kept x e i s h))

-- ---- the opening

-- where nobody is connected, whatever the settings are
nothing : (but : List ℕ) (settings : Settings) (phase : Phase) (top : ℕ) → Facts but settings phase false top [] [] []
nothing but settings phase top = record {
  few_clients = zero-le;
  lines = record { rise = tt; few = zero-le; spared = λ host port. zero-le; short = λ k i. absurd i; closed = λ k i. absurd i };
  given = λ k i. absurd i;
  asked_well = λ e i. absurd i;
  lined = λ going e n i. absurd i;
  none_yet = λ at. (refl, refl);
}

-- nobody is connected, and nobody said Stop
abbrev pub IsEarly : State → Type 0
IsEarly s = (s.conns ≡ []) × (s.is_stopped ≡ false)

-- then any settings and any phase will do
reset : (but : List ℕ) (settings : Settings) (phase : Phase) (s : State) → IsEarly s → FactsOf but s → FactsOf but (record s { settings = settings; phase = phase })
reset but settings phase s none h = record {
  few_clients = h.few_clients;
  lines = subst (λ ks. Lines settings ks) (sym none.0) (record { rise = tt; few = zero-le; spared = λ host port. zero-le; short = λ k i. absurd i; closed = λ k i. absurd i });
  given = h.given;
  asked_well = h.asked_well;
  lined = h.lined;
  none_yet = λ at. none;
}

with_settings-kept : {but : List ℕ} (settings : Option Settings) (s : State) → IsEarly s → Kept but s → Kept but (with_settings settings s)
unfolding with_settings
with_settings-kept {but} None s none h = kept (reset but s.settings _ s none (facts_of h))
with_settings-kept {but} (Some settings) s none h = kept (reset but settings _ s none (facts_of h))

begun-kept : {but : List ℕ} (s : State) → IsEarly s → Kept but s → Kept but (begun s)
unfolding begun
begun-kept {but} s none h = by (are_texts s.term)
  where
    by : (t : Bool) → Kept but (elim t as (λ c. State) [
      | false ↦ with_settings None s
      | true ↦ elim (names_file s.term) as (λ c. State) [ true ↦ record s { phase = IsWoken } | false ↦ with_settings (settings_in (reading_of s.term.words None)) s ]
    ])
    by false = with_settings-kept None s none h
    by true = when (names_file s.term) (kept (reset but s.settings IsWoken s none (facts_of h))) (with_settings-kept (settings_in (reading_of s.term.words None)) s none h)

pub woken-kept : (image : Files) (s : State) → Kept [] (woken image s)
unfolding woken
woken-kept image s = begun-kept _ (refl, refl) (kept (nothing [] _ _ _))

-- a phase that is not of the opening
pub rephased : {but : List ℕ} (phase : Phase) (s : State) → is_early phase ≡ false → Kept but s → Kept but (record s { phase = phase })
rephased phase s apart h = kept (record {
  few_clients = (facts_of h).few_clients;
  lines = (facts_of h).lines;
  given = (facts_of h).given;
  asked_well = (facts_of h).asked_well;
  lined = (facts_of h).lined;
  none_yet = λ at. let both : true ≡ false = sym at ∙ apart in absurd (cc both);
})

stuck-kept : {but : List ℕ} (s : State) → IsEarly s → Kept but s → Kept but (stuck s)
unfolding stuck
stuck-kept {but} s none h = kept (reset but s.settings _ s none (facts_of h))

pub opened_to-kept : {but : List ℕ} (phase : Phase) (ok : Bool) (s : State) → IsEarly s → Kept but s → Kept but (opened_to phase ok s)
unfolding opened_to
opened_to-kept {but} phase true s none h = kept (reset but s.settings phase s none (facts_of h))
opened_to-kept phase false s none h = stuck-kept s none h

pub configured-kept : {but : List ℕ} (text : Option Bytes) (s : State) → IsEarly s → Kept but s → Kept but (configured text s)
unfolding configured
configured-kept None s none h = stuck-kept s none h
configured-kept (Some text) s none h = with_settings-kept (settings_in (reading_of s.term.words (Some text))) s none h

pub lose_in_opening-kept : {but : List ℕ} (name : Bytes) (s : State) → Kept but s → Kept but (lose_in_opening name s)
unfolding lose_in_opening
lose_in_opening-kept name s h = when (is_opening s) (lose_entry-kept name s h) h
