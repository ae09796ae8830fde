-- An entry that stands no more is noted as gone, and taken away.
use Rattle.std.proofs.Common.{◌≡◌, refl, sym, subst, ap, ◌∙◌, Bool, true, false, not, cond, ◌&&◌, ◌||◌, find, is_ok, List, [], ◌∷◌, ◌++◌, map, Option, Some, None, Result, Ok, Err}
use Rattle.std.specs.Prelude.{bytes_eq}
use Rattle.pp_cache_law.specs.Outdated.{AreNamed}
use Rattle.pp_gate.specs.Runs.{Ran}
use Rattle.pp_law.specs.Lists.{Bytes, has_text, without}
use Rattle.pp_law.specs.State.{State, Entry, Todo, Do}
use Rattle.pp_law.specs.Store.{close_name, enter_next, is_closed, is_gone, is_idle_disk, is_named, may_note_gone, note_gone, remove_entry}
use Rattle.pp_law.specs.Table.{is_entry_of}
use Rattle.pp_obeys.proofs.Calls.{moves_to}
use Rattle.pp_obeys.proofs.Silent.{both_hold}
use Rattle.pp_obeys.proofs.TurnHappenings.{goes_gone}
use Rattle.pp_obeys.specs.Moves.{Goes, Moves, MovesAll}
use Rattle.pp_store.proofs.Lists.{found_passes}
use Rattle.pp_store.specs.Changes.{lost, withdrawn_after, without as without_key}
use Rattle.pp_store.specs.Kept.{KeptMap}
use Rattle.pp_target.specs.Name.{name_of}
use Rattle.pp_text.specs.Bytes.{is_empty}
use Rattle.pp_world.specs.Log.{Log}
use Rattle.pp_world.specs.declared.disk.DiskFault.{DiskFault}
use Rattle.pp_world.specs.declared.happening.Happening.TheVariants.{Noted}
use Rattle.pp_world.specs.declared.note.Remark.TheVariants.{Gone}
use Rattle.pp_world.specs.declared.op.DiskOp.TheVariants.{Remove}
use Rattle.pp_shelf_law.specs.Runs.{IsWorking}
use Rattle.pp_shelf_law.specs.Shelf.{AreKept, IsResting, ShowEntries, is_shut}
use Rattle.pp_shelf_law.specs.Takings.{LeadsTo, LossesAreTheLaws, WithdrawalsAreTheLaws, taken_away}
use Rattle.pp_shelf_law.proofs.Lists.{Agree, Covers, agree_filter, any_found, without_covered, without_swap, without_twice}
use Rattle.pp_shelf_law.proofs.Runs.{all_done, all_failed, idle_is}
use Rattle.pp_shelf_law.proofs.Shelves.{key_agrees, lost_name, named_filter, once_filter, same_bytes, taken_out}

-- ---- the entry of a key

named_found : (key : Bytes) (es : List Entry) (e : Entry) → AreNamed es → find (is_entry_of key) es ≡ Some e → e.name ≡ name_of e.key
named_found key [] e named found = absurd (cc found)
named_found key (d ∷ es) e named found = by (is_entry_of key d) found (named_found key es e named.1)
  where
    by : (b : Bool) → cond b (Some d) (find (is_entry_of key) es) ≡ Some e → (find (is_entry_of key) es ≡ Some e → e.name ≡ name_of e.key) → e.name ≡ name_of e.key
    by true eq rest = let same : d ≡ e = cc eq in subst (λ (x : Entry). x.name ≡ name_of x.key) same named.0
    by false eq rest = rest eq

pub key_found : (key : Bytes) (es : List Entry) (e : Entry) → find (is_entry_of key) es ≡ Some e → e.key ≡ key
key_found key es e found = same_bytes e.key key (found_passes (is_entry_of key) es e found)

pub name_found : (key : Bytes) (es : List Entry) (e : Entry) → AreNamed es → find (is_entry_of key) es ≡ Some e → e.name ≡ name_of key
name_found key es e named found = named_found key es e named found ∙ ap name_of (key_found key es e found)

-- ---- it is noted

empty_is : (todo : List Todo) → todo ≡ [] → is_empty todo ≡ true
empty_is todo is = ap (λ (ts : List Todo). is_empty ts) is

gone_is : (key : Bytes) (s : State) (e : Entry) → find (is_entry_of key) s.entries ≡ Some e → note_gone key s ≡ remove_entry e s
unfolding note_gone
gone_is key s e found = ap (λ (o : Option Entry). elim o as (λ c. State) [ None ↦ s | Some d ↦ remove_entry d s ]) found

pub gone_moves : (Q : State → Type 0) (shelf : KeptMap) (s : State) (key : Bytes) (e : Entry) → IsResting shelf s → find (is_entry_of key) s.entries ≡ Some e → is_gone s e ≡ true → Q (remove_entry e s) → Moves Q (Noted (Gone key)) s
gone_moves Q shelf s key e rests found gone holds =
    let may : may_note_gone s key ≡ true = both_hold (is_idle_disk s && is_empty s.agenda.todo) _ (both_hold (is_idle_disk s) (is_empty s.agenda.todo) (idle_is s rests.idle) (empty_is s.agenda.todo rests.done)) (any_found (is_gone s) (is_entry_of key) s.entries e found gone) in
    let goes : Goes s (Noted (Gone key)) (note_gone key s) = goes_gone s key rests.none rests.at may in
    moves_to refl goes (subst Q (sym (gone_is key s e found)) holds)

-- ---- and its file is removed

or_third : (a b c : Bool) → c ≡ true → (a || b || c) ≡ true
or_third true b c is = refl
or_third false true c is = refl
or_third false false c is = is

module _ (shelf : KeptMap) (s : State) (key : Bytes) (e : Entry) (rests : IsResting shelf s) (there : find (is_entry_of key) s.entries ≡ Some e) where
  its_key : e.key ≡ key
  its_key = key_found key s.entries e there

  its_name : e.name ≡ name_of key
  its_name = name_found key s.entries e rests.shows.named there

  abbrev fewer : List Entry
  fewer = without (is_entry_of e.key) s.entries

  agrees : Agree (is_entry_of e.key) (is_named (name_of e.key)) s.entries
  agrees = key_agrees e.key (is_entry_of e.key) s.entries e (λ d is. is) rests.shows.named (rests.shows.once (name_of e.key)) (ap (λ (k : Bytes). find (is_entry_of k) s.entries) its_key ∙ there)

  out_kept : AreKept (without_key key shelf) fewer s.closed_names
  out_kept = subst (λ (k : Bytes). AreKept (without_key k shelf) fewer s.closed_names) its_key (taken_out e.key shelf s.entries s.closed_names rests.shows)

  lost_kept : is_closed s e.name ≡ false → AreKept (lost key shelf) fewer (e.name ∷ without (bytes_eq e.name) s.closed_names)
  lost_kept unclosed =
      let named : e.name ≡ name_of e.key = its_name ∙ ap name_of (sym its_key) in
      subst (λ (n : Bytes). AreKept (lost key shelf) fewer (n ∷ without (bytes_eq n) s.closed_names)) (sym named)
      (subst (λ (k : Bytes). AreKept (lost k shelf) fewer (name_of e.key ∷ without (bytes_eq (name_of e.key)) s.closed_names)) its_key
      (lost_name e.key shelf s.entries fewer s.closed_names rests.shows (ap (λ (n : Bytes). has_text n s.closed_names) (sym named) ∙ unclosed) agrees
      (named_filter (λ d. not (is_entry_of e.key d)) s.entries rests.shows.named) (once_filter (λ d. not (is_entry_of e.key d)) s.entries rests.shows.once)
      (without_swap (is_entry_of e.key) (is_shut s.closed_names) fewer
      ∙ ap (λ (ds : List Entry). without (is_shut s.closed_names) ds) (without_twice (is_entry_of e.key) s.entries)
      ∙ sym (without_swap (is_entry_of e.key) (is_shut s.closed_names) s.entries))
      (agree_filter (is_entry_of e.key) (is_named (name_of e.key)) (λ d. not (is_entry_of e.key d)) s.entries agrees)))

  works : is_closed s e.name ≡ false → IsWorking e.name (map Do (Remove e.name ∷ []) ++ []) (remove_entry e s)
  unfolding remove_entry
  works unclosed = record {
    none = rests.none;
    at = rests.at;
    idle = rests.idle;
    agenda = ap (λ (b : Bool). record { name = e.name; todo = elim b as (λ c. List Todo) [ true ↦ [] | false ↦ Do (Remove e.name) ∷ [] ] }) unclosed;
  }

  ops_are : (ok : Bool) (hs : Log) → Ran (Remove (name_of key) ∷ []) ok hs → Ran (Remove e.name ∷ []) ok hs
  ops_are ok hs are = subst (λ (n : Bytes). Ran (Remove n ∷ []) ok hs) (sym its_name) are

  pub all_leads : (result : Result (Unit {0}) DiskFault) (hs : Log) → is_gone s e ≡ true → is_closed s e.name ≡ false → Ran (Remove (name_of key) ∷ []) (is_ok result) hs
      → LeadsTo (Noted (Gone key) ∷ hs) s (taken_away (is_ok result) hs e s) (withdrawn_after result key shelf)
  unfolding enter_next remove_entry close_name
  all_leads (Ok done) hs gone unclosed are = record {
    leads = gone_moves (MovesAll (λ u. u ≡ taken_away true hs e s) hs) shelf s key e rests there gone
        (all_done (λ u. u ≡ taken_away true hs e s) (remove_entry e s) e.name (Remove e.name) [] [] hs (works unclosed) (ops_are true hs are) refl);
    rests = record { none = rests.none; at = rests.at; idle = refl; done = refl; shows = out_kept };
  }
  all_leads (Err fault) hs gone unclosed are = record {
    leads = gone_moves (MovesAll (λ u. u ≡ taken_away false hs e s) hs) shelf s key e rests there gone
        (all_failed (λ u. u ≡ taken_away false hs e s) (remove_entry e s) e.name (Remove e.name ∷ []) [] hs (works unclosed) (refl, tt) (ops_are false hs are) refl);
    rests = record { none = rests.none; at = rests.at; idle = refl; done = refl; shows = lost_kept unclosed };
  }

  -- where its name is closed, the shelf has it no more
  covers : is_closed s e.name ≡ true → (es : List Entry) → AreNamed es → Covers (is_shut s.closed_names) (is_entry_of e.key) es
  covers closed [] named = tt
  covers closed (d ∷ es) named = (
    (λ is. ap (λ (n : Bytes). has_text n s.closed_names) (named.0 ∙ ap name_of (same_bytes d.key e.key is ∙ its_key) ∙ sym its_name) ∙ closed),
    covers closed es named.1,
  )

  pub loss_leads : is_closed s e.name ≡ true → LeadsTo (Noted (Gone key) ∷ []) s (remove_entry e s) shelf
  unfolding remove_entry
  loss_leads closed = record {
    leads = gone_moves (λ u. u ≡ remove_entry e s) shelf s key e rests there (or_third e.is_stale (has_text e.key s.displaced) (is_closed s e.name) closed) refl;
    rests = record {
      none = rests.none;
      at = rests.at;
      idle = rests.idle;
      done = ap (λ (b : Bool). elim b as (λ c. List Todo) [ true ↦ [] | false ↦ Do (Remove e.name) ∷ [] ]) closed;
      shows = record {
        rows = subst (λ (ds : List Entry). ShowEntries shelf.rows ds) (sym (without_covered (is_shut s.closed_names) (is_entry_of e.key) s.entries (covers closed s.entries rests.shows.named))) rests.shows.rows;
        closed_same = rests.shows.closed_same;
        count = rests.shows.count;
        named = named_filter (λ d. not (is_entry_of e.key d)) s.entries rests.shows.named;
        once = once_filter (λ d. not (is_entry_of e.key d)) s.entries rests.shows.once;
      };
    };
  }

pub withdrawals : WithdrawalsAreTheLaws
withdrawals shelf s key e result hs rests goes are = all_leads shelf s key e rests goes.there result hs goes.gone goes.unclosed are

pub losses : LossesAreTheLaws
losses shelf s key e rests there closed = loss_leads shelf s key e rests there closed
