-- The disk and the opening keep the bounds.
use Rattle.std.proofs.Common.{◌≡◌, refl, ℕ, zero-le, Bool, true, false, List, find, Option, Some, None, sym, ◌∙◌}
use Rattle.pp_conf.specs.Conf.{Settings}
use Rattle.pp_conf.specs.Words.{reading_of}
use Rattle.pp_world.specs.Files.{Files}
use Rattle.pp_world.specs.declared.op.DiskOp.{DiskOp}
use Rattle.pp_law.specs.Lists.{Bytes}
use Rattle.pp_law.specs.Opening.{settings_in, with_settings, names_file, begun, woken, is_opening, stuck, opened_to, configured, lose_in_opening, are_texts, terms_behind, is_same_phase}
use Rattle.pp_law.specs.Repairs.{agenda_in_opening, begin_in_opening}
use Rattle.pp_law.specs.State.{State, Term, Agenda, Entry, Instance, Phase, IsWoken, IsConfigured, IsStuck, Awaiting, start}
use Rattle.pp_law.specs.Store.{remove_entry, note_gone, agenda_in_turn, begin_op, begin_in_turn, enter_next, close_name, is_of_draft, lose_draft, fail_op, end_op, lose_entry, note_kept, load_from, load}
use Rattle.pp_law.specs.Table.{is_entry_of, row, kept_row}
use Rattle.pp_laws_bounds.proofs.SmallCases.{by_list, by_todo, each_of, when}
use Rattle.pp_laws_bounds.proofs.Small.{As, Small, facts_of, small}
use Rattle.pp_laws_bounds.proofs.SmallPieces.{plain}
use Rattle.pp_laws_bounds.proofs.SmallRows.{note_use-small}

-- ---- the store

remove_entry-small : {m : As} (e : Entry) (s : State) → Small m s → Small m (remove_entry e s)
unfolding remove_entry
remove_entry-small e s h = small (facts_of h)

pub note_gone-small : {m : As} (key : Bytes) (s : State) → Small m s → Small m (note_gone key s)
unfolding note_gone
note_gone-small key s h = each_of (find (is_entry_of key) s.entries) h (λ e. remove_entry-small e s h)

begin_op-small : {m : As} (op : DiskOp) (plan : Option Agenda) (s : State) → Small m s → Small m (begin_op op plan s)
unfolding begin_op
begin_op-small op None s h = h
begin_op-small op (Some todo) s h = small (facts_of h)

pub begin_in_turn-small : {m : As} (op : DiskOp) (s : State) → Small m s → Small m (begin_in_turn op s)
unfolding begin_in_turn
begin_in_turn-small op s h = begin_op-small op (agenda_in_turn op s) s h

pub begin_in_opening-small : {m : As} (op : DiskOp) (s : State) → Small m s → Small m (begin_in_opening op s)
unfolding begin_in_opening
begin_in_opening-small op s h = begin_op-small op (agenda_in_opening op s) s h

enter_next-small : {m : As} (s : State) → Small m s → Small m (enter_next s)
unfolding enter_next
enter_next-small s h = by_list s.agenda.todo h (λ todo agenda. by_todo todo (λ op. h) (λ e. small (facts_of h)) (λ key tag n extent. h))

pub close_name-small : {m : As} (name : Bytes) (s : State) → Small m s → Small m (close_name name s)
unfolding close_name
close_name-small name s h = small (facts_of h)

lose_draft-small : {m : As} (s : State) → Small m s → Small m (lose_draft s)
unfolding lose_draft
lose_draft-small s h = small (facts_of h)

fail_op-small : {m : As} (op : DiskOp) (s : State) → Small m s → Small m (fail_op op s)
unfolding fail_op
fail_op-small op s h = when (is_of_draft op) (lose_draft-small s h) (close_name-small s.agenda.name s h)

pub end_op-small : {m : As} (op : DiskOp) (ok : Bool) (s : State) → Small m s → Small m (end_op op ok s)
unfolding end_op
end_op-small op true s h = enter_next-small _ (small (facts_of h))
end_op-small op false s h = fail_op-small op _ (small (facts_of h))

lose_entry-small : {m : As} (name : Bytes) (s : State) → Small m s → Small m (lose_entry name s)
unfolding lose_entry
lose_entry-small name s h = small (facts_of h)

pub note_kept-small : {m : As} (key : Bytes) (extent : ℕ) (s : State) → Small m s → Small m (note_kept key extent s)
unfolding note_kept
note_kept-small key extent s h = small (facts_of h)

load_from-small : {m : As} (x : Instance) (e : Entry) (i : ℕ) (s : State) → Small m s → Small m (load_from x e i s)
unfolding load_from
load_from-small x e i s h = note_use-small _ (small (facts_of h))

pub load-small : {m : As} (key : Bytes) (i : ℕ) (s : State) → Small m s → Small m (load key i s)
unfolding load
load-small key i s h = each_of (row s key) h (λ x. each_of (kept_row s key) h (λ e. load_from-small x e i s h))

-- ---- the opening

-- ours: at a new phase that does not await an event
pub rephased : {m : As} (phase : Phase) (s : State) → is_same_phase Awaiting phase ≡ false → Small m s → Small m (record s { phase = phase })
rephased phase s apart h = small (record {
  said = (facts_of h).said;
  rests = (facts_of h).rests;
  awaits = λ at. let both : true ≡ false = sym at ∙ apart in absurd (cc both);
  few_clients = (facts_of h).few_clients;
  few_bound = (facts_of h).few_bound;
  expected = (facts_of h).expected;
  few_rows = (facts_of h).few_rows;
  differ = (facts_of h).differ;
  given = (facts_of h).given;
})

with_settings-small : {m : As} (settings : Option Settings) (s : State) → Small m s → Small m (with_settings settings s)
unfolding with_settings
with_settings-small None s h = rephased IsStuck s refl h
with_settings-small (Some settings) s h = small (facts_of (rephased IsConfigured s refl h))

begun-small : {m : As} (s : State) → Small m s → Small m (begun s)
unfolding begun
begun-small {m} s h = by (are_texts s.term)
  where
    by : (t : Bool) → Small m (elim t as (λ c. State) [
      | false ↦ with_settings None s
      | true ↦ elim (names_file s.term) as (λ c. State) [ true ↦ record s { phase = IsWoken } | false ↦ with_settings (settings_in (reading_of s.term.words None)) s ]
    ])
    by false = with_settings-small None s h
    by true = when (names_file s.term) (rephased IsWoken s refl h) (with_settings-small (settings_in (reading_of s.term.words None)) s h)

pub start-small : (terms : List Term) → Small (plain false) (start terms)
start-small terms = small (record {
  said = refl;
  rests = λ is. absurd (cc is);
  awaits = λ is. absurd (cc is);
  few_clients = zero-le;
  few_bound = zero-le;
  expected = λ n is. absurd (cc is);
  few_rows = zero-le;
  differ = tt;
  given = λ x i. absurd i;
})

pub woken-small : (image : Files) (s : State) → Small (plain false) (woken image s)
unfolding woken
woken-small image s = begun-small _ (small (facts_of (start-small (terms_behind s.terms))))

stuck-small : {m : As} (s : State) → Small m s → Small m (stuck s)
unfolding stuck
stuck-small s h = small (facts_of (rephased IsStuck s refl h))

pub opened_to-small : {m : As} (phase : Phase) (ok : Bool) (s : State) → is_same_phase Awaiting phase ≡ false → Small m s → Small m (opened_to phase ok s)
unfolding opened_to
opened_to-small phase true s apart h = rephased phase s apart h
opened_to-small phase false s apart h = stuck-small s h

pub configured-small : {m : As} (text : Option Bytes) (s : State) → Small m s → Small m (configured text s)
unfolding configured
configured-small None s h = stuck-small s h
configured-small (Some text) s h = with_settings-small (settings_in (reading_of s.term.words (Some text))) s h

pub lose_in_opening-small : {m : As} (name : Bytes) (s : State) → Small m s → Small m (lose_in_opening name s)
unfolding lose_in_opening
lose_in_opening-small name s h = when (is_opening s) (lose_entry-small name s h) h
