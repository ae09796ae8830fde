-- The entry of a row is drafted, and named.
use Rattle.std.proofs.Common.{◌≡◌, refl, sym, subst, ap, ap₂, ◌∙◌, inl, inr, ℕ, ◌-◌, ◌≤◌, ◌==◌, Bool, true, false, not, ◌&&◌, ◌||◌, cond, List, [], ◌∷◌, ◌++◌, length, map, take, replicate, Option, Some, None, Result, Ok, Err, arith}
use Rattle.std.proofs.Math.Seq.{take-append_seam}
use Rattle.std.proofs.lemmas.List.{append-nil}
use Rattle.std.specs.List.{list_any}
use Rattle.std.specs.Prelude.{bytes_eq, count_by, nat_le, nat_lt}
use Rattle.pp_cache_law.specs.Outdated.{AreNamed}
use Rattle.pp_entry.specs.Entries.{Row, is_sized, row_at}
use Rattle.pp_entry.specs.Texts.{body_at, chunks_of, fits, padded}
use Rattle.pp_gate.specs.Files.{whole_file}
use Rattle.pp_gate.specs.Gate.{draft_ops, publish_ops}
use Rattle.pp_gate.specs.Runs.{Ran}
use Rattle.pp_law.specs.Lists.{Bytes, change, has_text, without}
use Rattle.pp_law.specs.State.{State, Agenda, no_agenda, Entry, Instance, Todo, Do, Enter, Acknowledge}
use Rattle.pp_law.specs.Store.{agenda_in_turn, block_of, close_name, draft_of, drafted_with, drafting, enter_next, extended, file_of, has_first_run, has_free_name, is_closed, is_named, is_read_back, is_worth_a_draft, lose_draft, may_draft, new_entry, note_kept, noting, plan_of, run_bytes, run_len}
use Rattle.pp_law.specs.Table.{is_entry_of, is_kept_row_of}
use Rattle.pp_laws.proofs.Tests.{first_holds, second_holds}
use Rattle.pp_laws.specs.Runs.{IsIn}
use Rattle.pp_laws_crash.proofs.Begins.{IsFirst, MayDraft, block_full, draft_is, reads_back}
use Rattle.pp_obeys.proofs.Calls.{moves_to}
use Rattle.pp_obeys.proofs.Silent.{both_hold}
use Rattle.pp_obeys.proofs.TurnHappenings.{goes_kept}
use Rattle.pp_obeys.specs.Moves.{Goes, Leads, MovesAll}
use Rattle.pp_obeys.proofs.Moving.{moves_append}
use Rattle.pp_store.proofs.Lists.{any_none, count-push, one}
use Rattle.pp_store.specs.Answers.{file_with}
use Rattle.pp_store.specs.Changes.{entry_with, kept_after, with_closed, with_row}
use Rattle.pp_store.specs.Kept.{IsExtent, Kept, KeptMap}
use Rattle.pp_store.specs.declared.faults.KeepFault.{KeepFault}
use Rattle.pp_store.specs.declared.faults.KeepFault.TheVariants.{Closed, Full, TooLong, NoDraft, DiskFault, OutOfMemory}
use Rattle.pp_target.specs.Name.{name_of}
use Rattle.pp_world.specs.Log.{Log}
use Rattle.pp_world.specs.declared.happening.Happening.TheVariants.{Began, Did, Noted}
use Rattle.pp_world.specs.declared.note.Remark.TheVariants.{Kept as KeptNote}
use Rattle.pp_world.specs.declared.op.DiskOp.{DiskOp}
use Rattle.pp_world.specs.declared.op.DiskOp.TheVariants.{Draft, SyncDraft, Publish}
use Rattle.pp_shelf_law.specs.Drafts.{DraftsAreTheLaws, IsToDraft, RanKeep, draft_notes, drafted, with_draft, with_draft_noted}
use Rattle.pp_shelf_law.specs.Kept.{HasOneRow}
use Rattle.pp_shelf_law.specs.Runs.{IsWorking, ran}
use Rattle.pp_shelf_law.specs.Shelf.{AreKept, IsResting, ShowEntries, ShowsEntry, is_shut}
use Rattle.pp_shelf_law.specs.Takings.{LeadsTo}
use Rattle.pp_shelf_law.proofs.Lists.{Agree, agree_filter, agree_without, true_false}
use Rattle.pp_shelf_law.proofs.Runs.{all_done, all_failed, draft_failed, ran_twice}
use Rattle.pp_shelf_law.proofs.Sealed.{acknowledged_so}
use Rattle.pp_shelf_law.proofs.Shelves.{both_push, bytes_by, bytes_same, closed_count, closed_shown, same_bytes, shut_more}
use Rattle.pp_shelf_law.proofs.Starting.{given, planned, starts}

-- ---- a name that is free

-- nobody has it
free_agree : (name : Bytes) (es : List Entry) → list_any (is_named name) es ≡ false → Agree (is_named name) (λ e. false) es
free_agree name [] free = tt
free_agree name (e ∷ es) free = by (is_named name e) refl free (free_agree name es)
  where
    by : (b : Bool) → is_named name e ≡ b → (b || list_any (is_named name) es) ≡ false → (list_any (is_named name) es ≡ false → Agree (is_named name) (λ d. false) es) → Agree (is_named name) (λ d. false) (e ∷ es)
    by true is none rest = true_false none
    by false is none rest = (is, rest none)

without_nobody : {A : Type 0} (xs : List A) → without (λ x. false) xs ≡ xs
without_nobody [] = refl
without_nobody (x ∷ xs) = ap (λ (ys : List _). x ∷ ys) (without_nobody xs)

-- so nobody has its key, and what is noted changes the new one alone, which has it already
none_kept : (key : Bytes) (w : ℕ) (es : List Entry) → AreNamed es → list_any (is_named (name_of key)) es ≡ false → change (is_kept_row_of key) (extended w) es ≡ es
none_kept key w [] named free = refl
none_kept key w (e ∷ es) named free = by (is_kept_row_of key e) (is_named (name_of key) e) refl refl free (none_kept key w es named.1)
  where
    second : (a b : Bool) → (a && b) ≡ true → b ≡ true
    second true b is = is
    second false b is = true_false (sym is)

    by : (a b : Bool) → is_kept_row_of key e ≡ a → is_named (name_of key) e ≡ b → (b || list_any (is_named (name_of key)) es) ≡ false → (list_any (is_named (name_of key)) es ≡ false → change (is_kept_row_of key) (extended w) es ≡ es)
        → (elim a as (λ c. Entry) [ true ↦ extended w e | false ↦ e ]) ∷ change (is_kept_row_of key) (extended w) es ≡ e ∷ es
    by a true ia ib none rest = true_false none
    by true false ia ib none rest = true_false (sym (bytes_by e.name (name_of key) (named.0 ∙ ap name_of (same_bytes e.key key (second (not e.is_stale) (is_entry_of key e) ia)))) ∙ ib)
    by false false ia ib none rest = ap (λ (ds : List Entry). e ∷ ds) (rest none)

change_append : {A : Type 0} (p : A → Bool) (f : A → A) (xs ys : List A) → change p f (xs ++ ys) ≡ change p f xs ++ change p f ys
change_append p f [] ys = refl
change_append {A} p f (x ∷ xs) ys = ap (λ (zs : List A). (elim (p x) as (λ c. A) [ true ↦ f x | false ↦ x ]) ∷ zs) (change_append p f xs ys)

same_either : {A : Type 0} (b : Bool) (x : A) → (elim b as (λ c. A) [ true ↦ x | false ↦ x ]) ≡ x
same_either true x = refl
same_either false x = refl

pub noted_same : (key : Bytes) (w : ℕ) (es : List Entry) (e : Entry) → extended w e ≡ e → AreNamed es → list_any (is_named (name_of key)) es ≡ false → change (is_kept_row_of key) (extended w) (es ++ e ∷ []) ≡ es ++ e ∷ []
noted_same key w es e same named free =
    change_append (is_kept_row_of key) (extended w) es (e ∷ [])
    ∙ ap₂ (λ (ds : List Entry) (d : Entry). ds ++ d ∷ []) (none_kept key w es named free)
    (ap (λ (x : Entry). elim (is_kept_row_of key e) as (λ c. Entry) [ true ↦ x | false ↦ e ]) same ∙ same_either (is_kept_row_of key e) e)

without_push : {A : Type 0} (p : A → Bool) (xs : List A) (x : A) → p x ≡ false → without p (xs ++ x ∷ []) ≡ without p xs ++ x ∷ []
without_push p [] x is = ap (λ (b : Bool). cond (not b) (x ∷ []) []) is
without_push p (y ∷ ys) x is = by (p y) (without_push p ys x is)
  where
    by : (b : Bool) → without p (ys ++ x ∷ []) ≡ without p ys ++ x ∷ [] → cond (not b) (y ∷ without p (ys ++ x ∷ [])) (without p (ys ++ x ∷ [])) ≡ (cond (not b) (y ∷ without p ys) (without p ys)) ++ x ∷ []
    by true rest = rest
    by false rest = ap (λ (zs : List _). y ∷ zs) rest

named_push : (es : List Entry) (e : Entry) → AreNamed es → e.name ≡ name_of e.key → AreNamed (es ++ e ∷ [])
named_push [] e named own = (own, tt)
named_push (d ∷ es) e named own = (named.0, named_push es e named.1 own)

-- a new entry under it
pub new_kept : (shelf : KeptMap) (es : List Entry) (names : List Bytes) (k : Kept) (e : Entry) → AreKept shelf es names → ShowsEntry k e → e.name ≡ name_of e.key → list_any (is_named e.name) es ≡ false → has_text e.name names ≡ false
    → AreKept (with_row k.entry k.extent shelf) (es ++ e ∷ []) names
new_kept shelf es names k e kept shows own free unclosed = record {
  rows = subst (λ (ds : List Entry). ShowEntries (shelf.rows ++ k ∷ []) ds) (sym (without_push (is_shut names) es e unclosed)) (both_push k e shelf.rows (without (is_shut names) es) shows kept.rows);
  closed_same = kept.closed_same;
  count = kept.count;
  named = named_push es e kept.named own;
  once = λ name. by name (is_named name e) refl;
}
  where
    by : (name : Bytes) (b : Bool) → is_named name e ≡ b → count_by (is_named name) (es ++ e ∷ []) ≤ 1
    by name true is =
        let none : count_by (is_named name) es ≡ 0 = any_none (is_named name) es (ap (λ (n : Bytes). list_any (is_named n) es) (sym (same_bytes e.name name is)) ∙ free) in
        omega (arith, none, count-push (is_named name) es e, ap one is)
    by name false is = omega (arith, kept.once name, count-push (is_named name) es e, ap one is)

-- or it is closed
pub closed_free : (shelf : KeptMap) (es : List Entry) (names : List Bytes) (name : Bytes) → AreKept shelf es names → list_any (is_named name) es ≡ false → has_text name names ≡ false → AreKept (with_closed name shelf) es (name ∷ without (bytes_eq name) names)
closed_free shelf es names name kept free unclosed = record {
  rows = subst (λ (ds : List Entry). ShowEntries shelf.rows ds)
      (sym (shut_more name names es ∙ agree_without (is_named name) (λ e. false) (without (is_shut names) es) (agree_filter (is_named name) (λ e. false) (λ e. not (is_shut names e)) es (free_agree name es free)) ∙ without_nobody (without (is_shut names) es)))
      kept.rows;
  closed_same = closed_shown shelf names name kept.closed_same;
  count = closed_count name names shelf.closed kept.count unclosed;
  named = kept.named;
  once = kept.once;
}

-- ---- one plan alone begins so

unretired_with : (l r z f g h : Bool) → (elim (l && r && z && f && g) as (λ o. Bool) [ true ↦ h | false ↦ false ]) ≡ true → r ≡ true
unretired_with l true z f g h is = refl
unretired_with true false z f g h is = true_false (sym is)
unretired_with false false z f g h is = true_false (sym is)

may_by : (s : State) (y : Instance) (b : Agenda) (may : Bool) → (elim may as (λ o. Option Agenda) [ true ↦ Some (record { name = name_of y.key; todo = drafting s y }) | false ↦ None ]) ≡ Some b → may ≡ true
may_by s y b true is = refl
may_by s y b false is = absurd (cc is)

unretired : (s : State) (y : Instance) (b : Agenda) → draft_of s y ≡ Some b → not y.is_retired ≡ true
unretired s y b is =
    unretired_with (not s.has_lost_draft) (not y.is_retired) (is_sized y.version.length) (fits y.fields (block_of y)) (has_first_run s y) (has_free_name s (name_of y.key) && is_read_back y && is_worth_a_draft s y) (may_by s y b (may_draft s y) is)

drafted_bytes : DiskOp → Bytes
drafted_bytes (Draft bytes) = bytes
drafted_bytes op = []

first_bytes : List Todo → Bytes
first_bytes (Do op ∷ todo) = drafted_bytes op
first_bytes todo = []

bytes_of_first : (one two : Bytes) (todo rest : List Todo) → Do (Draft one) ∷ todo ≡ Do (Draft two) ∷ rest → one ≡ two
unfolding first_bytes drafted_bytes
bytes_of_first one two todo rest is = ap first_bytes is

block_first : (block : Bytes) (n : ℕ) (kept : Bytes) → length block ≡ 8192 → take 8192 (whole_file block n kept) ≡ block
unfolding whole_file
block_first block n kept full = subst (λ (k : ℕ). take k (block ++ (replicate (chunks_of (length kept)) 1 ++ (replicate (body_at n - 8192 - chunks_of (length kept)) 0 ++ kept))) ≡ block) full (take-append_seam block (replicate (chunks_of (length kept)) 1 ++ (replicate (body_at n - 8192 - chunks_of (length kept)) 0 ++ kept)))

-- ---- the draft of a row

none_or_all : (n : ℕ) (b : Bool) → IsExtent n (elim b as (λ c. ℕ) [ true ↦ n | false ↦ 0 ])
none_or_all n true = omega arith
none_or_all n false = omega arith

module _ (shelf : KeptMap) (s : State) (x : Instance) (kept : Bytes) (rests : IsResting shelf s) (alone : HasOneRow s) (to : IsToDraft s x kept) where
  abbrev extent : ℕ
  extent = drafted_with s x

  abbrev name : Bytes
  name = name_of x.key

  abbrev file : Bytes
  file = file_of s x

  abbrev new : Entry
  new = new_entry x extent

  abbrev notes : List Todo
  notes = noting x extent

  abbrev agenda : Agenda
  agenda = record { name = name; todo = map Do (publish_ops name file) ++ (Enter new ∷ notes) }

  plan : draft_of s x ≡ Some agenda
  plan = ap (λ (b : Bool). elim b as (λ c. Option Agenda) [ true ↦ Some agenda | false ↦ None ]) to.may

  may : MayDraft s x
  may = (draft_is s x agenda plan).0

  off_by : (b : Bool) → not b ≡ true → b ≡ false
  off_by true is = true_false (sym is)
  off_by false is = refl

  free_both : (not (list_any (is_named name) s.entries) && not (is_closed s name)) ≡ true
  free_both = first_holds (not (list_any (is_named name) s.entries) && not (is_closed s name)) _ may.free

  free : list_any (is_named name) s.entries ≡ false
  free = off_by (list_any (is_named name) s.entries) (first_holds (not (list_any (is_named name) s.entries)) (not (is_closed s name)) free_both)

  unclosed : has_text name s.closed_names ≡ false
  unclosed = off_by (is_closed s name) (second_holds (not (list_any (is_named name) s.entries)) (not (is_closed s name)) free_both)

  -- the program drafts what the law plans
  file_same : file_with (entry_with x.key x.version x.fields x.times) kept ≡ file
  file_same = ap (λ (bytes : Bytes). whole_file (padded (block_of x)) x.version.length bytes) to.kept_is

  only : (y : Instance) (b : Agenda) → IsIn y s.instances → plan_of s (Draft file) y ≡ Some b → IsFirst (Draft file) b → b ≡ agenda
  only y b y_there plan_y begins_so =
      let its = draft_is s y b plan_y in
      let files : file_of s y ≡ file = bytes_of_first _ _ _ _ (ap (λ (a : Agenda). a.todo) its.1 ∙ begins_so.todo) in
      let blocks : padded (block_of y) ≡ padded (block_of x) =
      sym (block_first (padded (block_of y)) y.version.length (run_bytes (chunks_of (drafted_with s y)) y.id s.chunks 0) (block_full y its.0.fits_block))
      ∙ ap (λ (bytes : Bytes). take 8192 bytes) files
      ∙ block_first (padded (block_of x)) x.version.length (run_bytes (chunks_of extent) x.id s.chunks 0) (block_full x may.fits_block) in
      let y_back = reads_back y its.0.read_back in
      let x_back = reads_back x may.read_back in
      let both_rows : Some y_back.row ≡ Some x_back.row = sym y_back.reads ∙ ap row_at blocks ∙ x_back.reads in
      let row_same : y_back.row ≡ x_back.row = cc both_rows in
      let y_key : y.key ≡ x.key = sym y_back.key ∙ ap (λ (r : Row). r.key) row_same ∙ x_back.key in
      let one_row : y ≡ x = alone x.key y x y_there to.there
      (both_hold (not y.is_retired) (bytes_eq y.key x.key) (unretired s y b plan_y) (bytes_by y.key x.key y_key))
      (both_hold (not x.is_retired) (bytes_eq x.key x.key) (unretired s x agenda plan) (bytes_same x.key)) in
      let both : Some b ≡ Some agenda = sym plan_y ∙ ap (λ (z : Instance). draft_of s z) one_row ∙ plan in
      cc both

  in_turn : agenda_in_turn (Draft file) s ≡ Some agenda
  in_turn = planned s (Draft file) x agenda (Do SyncDraft ∷ Do (Publish name) ∷ Enter new ∷ notes) rests.done to.there plan refl only

  works : IsWorking name (map Do (publish_ops name file) ++ (Enter new ∷ notes)) (given agenda s)
  works = record { none = rests.none; at = rests.at; idle = rests.idle; agenda = refl }

  begin_draft : (Q : State → Type 0) (ops : List DiskOp) (ok : Bool) (hs : Log) → Ran (Draft file ∷ ops) ok hs → MovesAll Q hs (given agenda s) → MovesAll Q hs s
  begin_draft Q ops ok hs are moves = starts Q s name (Draft file) ops ok (Do SyncDraft ∷ Do (Publish name) ∷ Enter new ∷ notes) hs rests.none rests.at rests.idle in_turn are moves

  -- ---- it was published

  abbrev entered : Log → Bool → State
  entered hs b = record s {
    disk = s.disk ++ hs;
    under_way = None;
    agenda = record { name = name; todo = elim b as (λ c. List Todo) [ true ↦ [] | false ↦ Acknowledge x.key x.version.tag x.version.length extent ∷ [] ] };
    entries = s.entries ++ new ∷ [];
  }

  abbrev last : Log → Bool → State
  last hs b = elim b as (λ c. State) [ true ↦ with_draft x extent hs s | false ↦ note_kept x.key extent (with_draft x extent hs s) ]

  finishes : (hs : Log) (b : Bool) → MovesAll (λ u. u ≡ last hs b) (elim b as (λ c. Log) [ true ↦ [] | false ↦ Noted (KeptNote x.key x.version.tag x.version.length extent) ∷ [] ]) (entered hs b)
  unfolding note_kept
  finishes hs true = refl
  finishes hs false =
      let goes : Goes (entered hs false) (Noted (KeptNote x.key x.version.tag x.version.length extent)) (note_kept x.key extent (entered hs false)) =
      goes_kept (entered hs false) x.key x.version.tag x.version.length extent rests.none refl (acknowledged_so x.key x.version.tag x.version.length extent extent [] refl) in
      moves_to refl goes refl

  published : (hs : Log) → Ran (publish_ops name file) true hs → Leads (hs ++ draft_notes x.key x.version extent (Ok tt)) s (with_draft_noted x extent hs s)
  unfolding enter_next
  published hs are =
      moves_append (λ u. u ≡ last hs (extent == 0)) hs (draft_notes x.key x.version extent (Ok tt)) s
      (begin_draft (MovesAll (λ u. u ≡ last hs (extent == 0)) (draft_notes x.key x.version extent (Ok tt))) (SyncDraft ∷ Publish name ∷ []) true hs are
      (all_done (MovesAll (λ u. u ≡ last hs (extent == 0)) (draft_notes x.key x.version extent (Ok tt))) (given agenda s) name (Draft file) (SyncDraft ∷ Publish name ∷ []) (Enter new ∷ notes) hs works are
      (finishes hs (extent == 0))))

  new_shows : ShowsEntry (record { entry = entry_with x.key x.version x.fields x.times; extent = extent }) new
  new_shows = record { name = refl; key = refl; version = refl; fields = to.fields; times = refl; extent = refl; whole = none_or_all x.version.length (nat_lt 1 (run_len s) && nat_le (chunks_of x.version.length) (run_len s)) }

  shown : AreKept (with_row (entry_with x.key x.version x.fields x.times) extent shelf) (s.entries ++ new ∷ []) s.closed_names
  shown = new_kept shelf s.entries s.closed_names (record { entry = entry_with x.key x.version x.fields x.times; extent = extent }) new rests.shows new_shows refl free unclosed

  last_rests : (hs : Log) (b : Bool) → IsResting (with_row (entry_with x.key x.version x.fields x.times) extent shelf) (last hs b)
  unfolding note_kept
  last_rests hs true = record { none = rests.none; at = rests.at; idle = refl; done = refl; shows = shown }
  last_rests hs false = record {
    none = rests.none;
    at = rests.at;
    idle = refl;
    done = refl;
    shows = subst (λ (es : List Entry). AreKept (with_row (entry_with x.key x.version x.fields x.times) extent shelf) es s.closed_names) (sym (noted_same x.key extent s.entries new refl rests.shows.named free)) shown;
  }

  -- ---- it was not

  lost_leads : (hs : Log) → Ran (draft_ops file) false hs → LeadsTo (hs ++ []) s (lose_draft (ran hs no_agenda s)) shelf
  unfolding lose_draft
  lost_leads hs are = record {
    leads = subst (λ (k : Log). Leads k s (lose_draft (ran hs no_agenda s))) (sym (append-nil hs))
        (begin_draft (λ u. u ≡ lose_draft (ran hs no_agenda s)) (SyncDraft ∷ []) false hs are
        (draft_failed (λ u. u ≡ lose_draft (ran hs no_agenda s)) (given agenda s) name (draft_ops file) (Do (Publish name) ∷ Enter new ∷ notes) hs works (refl, (refl, tt)) are refl));
    rests = record { none = rests.none; at = rests.at; idle = refl; done = refl; shows = rests.shows };
  }

  -- what was done before it was to be named, and that it was not named
  abbrev before_name : Log
  before_name = Began (Draft file) ∷ Did (Draft file) true ∷ Began SyncDraft ∷ Did SyncDraft true ∷ []

  abbrev not_named : Log
  not_named = Began (Publish name) ∷ Did (Publish name) false ∷ []

  abbrev left : Agenda
  left = record { name = name; todo = Do (Publish name) ∷ Enter new ∷ notes }

  before_ran : Ran (Draft file ∷ SyncDraft ∷ []) true before_name
  before_ran = inr (Began SyncDraft ∷ Did SyncDraft true ∷ [], refl, inr ([], refl, (refl, refl)))

  not_named_ran : Ran (Publish name ∷ []) false not_named
  not_named_ran = inl (refl, refl)

  all_ran : Ran (Draft file ∷ SyncDraft ∷ Publish name ∷ []) false (before_name ++ not_named)
  all_ran = inr (Began SyncDraft ∷ Did SyncDraft true ∷ not_named, refl, inr (not_named, refl, not_named_ran))

  unnamed_moves : (Q : State → Type 0) → Q (close_name name (ran (before_name ++ not_named) no_agenda s)) → MovesAll Q (before_name ++ not_named) s
  unfolding enter_next
  unnamed_moves Q holds =
      begin_draft Q (SyncDraft ∷ Publish name ∷ []) false (before_name ++ not_named) all_ran
      (moves_append Q before_name not_named (given agenda s)
      (all_done (MovesAll Q not_named) (given agenda s) name (Draft file) (SyncDraft ∷ []) (Do (Publish name) ∷ Enter new ∷ notes) before_name works before_ran
      (all_failed Q (ran before_name left (given agenda s)) name (Publish name ∷ []) (Enter new ∷ notes) not_named (record { none = rests.none; at = rests.at; idle = refl; agenda = refl }) (refl, tt) not_named_ran
      (subst (λ (t : State). Q (close_name name t)) (sym (ran_twice before_name not_named no_agenda left (given agenda s))) holds))))

  unnamed_rests : (hs : Log) → IsResting (with_closed name shelf) (close_name name (ran hs no_agenda s))
  unfolding close_name
  unnamed_rests hs = record { none = rests.none; at = rests.at; idle = refl; done = refl; shows = closed_free shelf s.entries s.closed_names name rests.shows free unclosed }

  unnamed_leads : (hs : Log) → hs ≡ before_name ++ not_named → LeadsTo (hs ++ []) s (close_name name (ran hs no_agenda s)) (with_closed name shelf)
  unnamed_leads hs is = record {
    leads = subst (λ (k : Log). Leads k s (close_name name (ran hs no_agenda s))) (sym (append-nil hs ∙ is))
        (unnamed_moves (λ u. u ≡ close_name name (ran hs no_agenda s)) (ap (λ (k : Log). close_name name (ran k no_agenda s)) (sym is)));
    rests = unnamed_rests hs;
  }

  nothing_leads : (hs : Log) → hs ≡ [] → LeadsTo (hs ++ []) s s shelf
  nothing_leads hs is = record { leads = subst (λ (k : Log). Leads (k ++ []) s s) (sym is) refl; rests = rests }

  pub draft_leads : (result : Result (Unit {0}) KeepFault) (hs : Log) → RanKeep name file result hs
      → LeadsTo (hs ++ draft_notes x.key x.version extent result) s (drafted x extent result hs s) (kept_after result (entry_with x.key x.version x.fields x.times) extent shelf)
  draft_leads (Ok done) hs are = record { leads = published hs are; rests = last_rests hs (extent == 0) }
  draft_leads (Err Closed) hs are = nothing_leads hs are
  draft_leads (Err Full) hs are = nothing_leads hs are
  draft_leads (Err TooLong) hs are = nothing_leads hs are
  draft_leads (Err NoDraft) hs are = lost_leads hs are
  draft_leads (Err DiskFault) hs are = unnamed_leads hs are
  draft_leads (Err OutOfMemory) hs are = nothing_leads hs are

pub drafts : DraftsAreTheLaws
drafts shelf s x kept result hs rests alone to are =
    draft_leads shelf s x kept rests alone to result hs (subst (λ (bytes : Bytes). RanKeep (name_of x.key) bytes result hs) (file_same shelf s x kept rests alone to) are)
