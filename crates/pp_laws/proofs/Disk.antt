-- The disk and the opening keep what is sound.
use Rattle.std.proofs.Common.{◌≡◌, ℕ, ◌*◌, Bool, true, false, find, Option, Some, None, subst}
use Rattle.pp_conf.specs.Conf.{Settings}
use Rattle.pp_conf.specs.Words.{reading_of}
use Rattle.pp_world.specs.Files.{Files}
use Rattle.pp_world.specs.declared.op.DiskOp.{DiskOp}
use Rattle.pp_law.specs.Chunks.{chunk_len}
use Rattle.pp_law.specs.Lists.{Bytes}
use Rattle.pp_law.specs.Opening.{settings_in, with_settings, names_file, begun, woken, is_opening, stuck, opened_to, configured, lose_in_opening, are_texts}
use Rattle.pp_law.specs.Repairs.{agenda_in_opening, begin_in_opening}
use Rattle.pp_law.specs.State.{State, Agenda, Entry, Instance, Phase}
use Rattle.pp_law.specs.Store.{remove_entry, note_gone, agenda_in_turn, begin_op, begin_in_turn, enter_next, close_name, is_of_draft, lose_draft, fail_op, end_op, lose_entry, note_kept, chunk_in_file, load_from, load}
use Rattle.pp_law.specs.Table.{is_entry_of, is_row_of, row, kept_row}
use Rattle.pp_laws.specs.Origin.{AllSent, EntryWasSent, ChunkWasSent}
use Rattle.pp_laws.specs.Runs.{IsIn}
use Rattle.pp_laws.proofs.Cases.{by_list, by_todo, each_of, each_so, when}
use Rattle.pp_laws.proofs.Lists.{in_find, the_one}
use Rattle.pp_laws.proofs.Rows.{chunk_put, note_use-sound}
use Rattle.pp_laws.proofs.Sound.{Since, Sound, facts_of, instance_id, sound}

-- ---- the store

pub remove_entry-sound : {b : Since} (e : Entry) (s : State) → Sound b s → Sound b (remove_entry e s)
unfolding remove_entry
remove_entry-sound e s h = sound (facts_of h)

pub note_gone-sound : {b : Since} (key : Bytes) (s : State) → Sound b s → Sound b (note_gone key s)
unfolding note_gone
note_gone-sound key s h = each_of (find (is_entry_of key) s.entries) h (λ e. remove_entry-sound e s h)

begin_op-sound : {b : Since} (op : DiskOp) (plan : Option Agenda) (s : State) → Sound b s → Sound b (begin_op op plan s)
unfolding begin_op
begin_op-sound op None s h = h
begin_op-sound op (Some a) s h = sound (facts_of h)

pub begin_in_turn-sound : {b : Since} (op : DiskOp) (s : State) → Sound b s → Sound b (begin_in_turn op s)
unfolding begin_in_turn
begin_in_turn-sound op s h = begin_op-sound op (agenda_in_turn op s) s h

pub begin_in_opening-sound : {b : Since} (op : DiskOp) (s : State) → Sound b s → Sound b (begin_in_opening op s)
unfolding begin_in_opening
begin_in_opening-sound op s h = begin_op-sound op (agenda_in_opening op s) s h

pub enter_next-sound : {b : Since} (s : State) → Sound b s → Sound b (enter_next s)
unfolding enter_next
enter_next-sound s h = by_list s.agenda.todo h (λ todo agenda. by_todo todo (λ op. h) (λ e. sound (facts_of h)) (λ key tag n extent. h))

pub close_name-sound : {b : Since} (name : Bytes) (s : State) → Sound b s → Sound b (close_name name s)
unfolding close_name
close_name-sound name s h = sound (facts_of h)

lose_draft-sound : {b : Since} (s : State) → Sound b s → Sound b (lose_draft s)
unfolding lose_draft
lose_draft-sound s h = sound (facts_of h)

fail_op-sound : {b : Since} (op : DiskOp) (s : State) → Sound b s → Sound b (fail_op op s)
unfolding fail_op
fail_op-sound op s h = when (is_of_draft op) (lose_draft-sound s h) (close_name-sound s.agenda.name s h)

pub end_op-sound : {b : Since} (op : DiskOp) (ok : Bool) (s : State) → Sound b s → Sound b (end_op op ok s)
unfolding end_op
end_op-sound op true s h = enter_next-sound _ (sound (facts_of h))
end_op-sound op false s h = fail_op-sound op _ (sound (facts_of h))

pub lose_entry-sound : {b : Since} (name : Bytes) (s : State) → Sound b s → Sound b (lose_entry name s)
unfolding lose_entry
lose_entry-sound name s h = sound (facts_of h)

pub note_kept-sound : {b : Since} (key : Bytes) (extent : ℕ) (s : State) → Sound b s → Sound b (note_kept key extent s)
unfolding note_kept
note_kept-sound key extent s h = sound (facts_of h)

pub load_from-sound : {b : Since} (x : Instance) (e : Entry) (i : ℕ) (s : State) → IsIn x s.instances → (b.counts_loads ≡ true → EntryWasSent s x i (Some e)) → Sound b s → Sound b (load_from x e i s)
unfolding load_from
load_from-sound {b} x e i s there loads h = note_use-sound _ (sound (chunk_put b s x.id i (chunk_in_file s e i) ((facts_of h).rows.given x there) sent (facts_of h)))
  where
    sent : b.counts_loads ≡ true → (y : Instance) → IsIn y s.instances → x.id ≡ y.id → AllSent s.sent y.key y.version (i * chunk_len) (chunk_in_file s e i)
    sent counts y y_there is = subst (λ (z : Instance). AllSent s.sent z.key z.version (i * chunk_len) (chunk_in_file s e i)) (the_one instance_id s.instances x y (facts_of h).rows.differ there y_there is) (loads counts)

-- what is read back was sent
pub load-sound : {b : Since} (key : Bytes) (i : ℕ) (s : State) → (b.counts_loads ≡ true → ChunkWasSent s key i (row s key)) → Sound b s → Sound b (load key i s)
unfolding load
load-sound {b} key i s loads h =
    each_so (row s key) (λ none. h) (λ x found. each_so (kept_row s key) (λ none. h) (λ e kept. load_from-sound x e i s (in_find (is_row_of key) x s.instances found).0 (λ counts. of x e found kept (loads counts)) h))
  where
    of : (x : Instance) (e : Entry) → row s key ≡ Some x → kept_row s key ≡ Some e → ChunkWasSent s key i (row s key) → EntryWasSent s x i (Some e)
    of x e found kept was = subst (λ o. EntryWasSent s x i o) kept (subst (λ o. ChunkWasSent s key i o) found was)

-- ---- the opening

pub with_settings-sound : {b : Since} (settings : Option Settings) (s : State) → Sound b s → Sound b (with_settings settings s)
unfolding with_settings
with_settings-sound None s h = sound (facts_of h)
with_settings-sound (Some settings) s h = sound (facts_of h)

pub begun-sound : {b : Since} (s : State) → Sound b s → Sound b (begun s)
unfolding begun
begun-sound s h = when (are_texts s.term)
    (when (names_file s.term) (sound (facts_of h)) (with_settings-sound (settings_in (reading_of s.term.words None)) s h))
    (with_settings-sound None s h)

pub woken-sound : {b : Since} (image : Files) (s : State) → Sound b s → Sound b (woken image s)
unfolding woken
woken-sound image s h = begun-sound _ (sound (record {
  grew = (facts_of h).grew;
  lines = record { rise = tt; given = λ k i. absurd i; asked = λ k n i l. absurd i };
  asks = record {
    rise = tt;
    given = λ e i. absurd i;
    bounds = λ e to i is. absurd i;
    noted = λ e to i is. absurd i;
    unplaced = λ e i is. absurd i;
    unheaded = λ e i is. absurd i;
  };
  rows = record { differ = tt; given = λ x i. absurd i; own_keys = λ key x y i. absurd i; chunks_given = λ c i. absurd i };
  placed = λ k e i j l. absurd i;
  brings = λ k e to i j l is but. absurd i;
  keyed = λ e to x i is j id. absurd i;
  callers = record { rise = tt; given = λ c i. absurd i; follows = λ c id i is. absurd i };
  held = λ counts x i. absurd i;
}))

pub stuck-sound : {b : Since} (s : State) → Sound b s → Sound b (stuck s)
unfolding stuck
stuck-sound s h = sound (facts_of h)

pub opened_to-sound : {b : Since} (phase : Phase) (ok : Bool) (s : State) → Sound b s → Sound b (opened_to phase ok s)
unfolding opened_to
opened_to-sound phase true s h = sound (facts_of h)
opened_to-sound phase false s h = stuck-sound s h

pub configured-sound : {b : Since} (text : Option Bytes) (s : State) → Sound b s → Sound b (configured text s)
unfolding configured
configured-sound None s h = stuck-sound s h
configured-sound (Some text) s h = with_settings-sound (settings_in (reading_of s.term.words (Some text))) s h

pub lose_in_opening-sound : {b : Since} (name : Bytes) (s : State) → Sound b s → Sound b (lose_in_opening name s)
unfolding lose_in_opening
lose_in_opening-sound name s h = when (is_opening s) (lose_entry-sound name s h) h
