-- How a turn stands behind a draft.
use Rattle.std.proofs.Common.{◌≡◌, refl, sym, subst, ap, ◌∙◌, ◌≤◌, inl, inr, ◌⊎◌, ℕ, ◌==◌, Bool, true, false, not, ◌&&◌, ◌||◌, cond, find, List, [], ◌∷◌, ◌++◌, length, length-append, codes, Some, None, Result, Ok, Err, le_trans, arith}
use Rattle.std.specs.Prelude.{All, bytes_eq, is_some}
use Rattle.std.specs.List.{list_any}
use Rattle.std.proofs.lemmas.List.Elements.{All-append, All-cons, All-nil}
use Rattle.pp_cache.specs.Memory.{Memory}
use Rattle.pp_cache.specs.OnDisk.{kept_to}
use Rattle.pp_cache_law.proofs.Keeping.{drafts_of}
use Rattle.pp_cache_law.specs.Notes.{IsRowThere}
use Rattle.pp_cache_law.specs.Outdated.{AreNoted}
use Rattle.pp_cache_law.specs.Tables.{ShowsCache}
use Rattle.pp_entry.specs.Entries.{Row}
use Rattle.pp_entry.specs.Spelling.{text_of}
use Rattle.pp_entry.specs.Texts.{body_at, head_text, number_line, own_line, own_lines}
use Rattle.pp_keeping.specs.Keeping.{with_outcome}
use Rattle.pp_keeping.specs.Runs.{drafted_to}
use Rattle.pp_law.specs.Lists.{Bytes, has_text, without}
use Rattle.pp_law.specs.State.{State, Entry, Instance as Known, no_agenda, Enter}
use Rattle.pp_law.specs.Store.{close_name, enter_next, has_free_name, is_closed, is_named, lose_draft, new_entry, note_kept}
use Rattle.pp_law.specs.Table.{is_entry_of, is_kept_row_of, kept_row}
use Rattle.pp_laws.proofs.Lists.{in_push}
use Rattle.pp_laws.specs.Runs.{IsIn}
use Rattle.pp_laws_crash.proofs.Begins.{IsFree, free_is}
use Rattle.pp_objects.specs.declared.id.ObjectId.{ObjectId}
use Rattle.pp_shelf_law.proofs.Drafted.{noted_same}
use Rattle.pp_shelf_law.proofs.Finding.{named_in}
use Rattle.pp_shelf_law.proofs.Shelves.{bytes_swap, closed_more, same_bytes}
use Rattle.pp_shelf_law.specs.Drafts.{drafted, with_draft}
use Rattle.pp_shelf_law.specs.Runs.{ran}
use Rattle.pp_shelf_law.specs.Shelf.{IsResting}
use Rattle.pp_state.specs.declared.state.State.{State as Turn}
use Rattle.pp_store.specs.Answers.{IsLate}
use Rattle.pp_store.specs.Changes.{entry_with, kept_after, with_closed, with_row}
use Rattle.pp_store.specs.Kept.{KeptMap}
use Rattle.pp_store.specs.declared.faults.KeepFault.{KeepFault}
use Rattle.pp_store.specs.declared.faults.KeepFault.TheVariants.{Closed, Full, TooLong, NoDraft, DiskFault, OutOfMemory}
use Rattle.pp_target.specs.Name.{name_of}
use Rattle.pp_text.specs.Lines.{crlf, lines_of}
use Rattle.pp_world.specs.Log.{Log}
use Rattle.pp_keeps_law.proofs.Entries.{no_one, none_in, noted_all, noted_at, true_not}
use Rattle.pp_keeps_law.proofs.Found.{none_displaced}
use Rattle.pp_keeps_law.proofs.Standing.{kept_bounded, moved_cache, stands_on}
use Rattle.pp_keeps_law.specs.Keeps.{HasKept}
use Rattle.pp_keeps_law.specs.Stands.{IsShort, StandsToKeep}

-- ---- a key that fits

within_left : (k : ℕ) (xs ys : Bytes) → k ≤ length xs → k ≤ length (xs ++ ys)
within_left k xs ys le = omega (arith, le, length-append xs ys)

within_right : (k : ℕ) (xs ys : Bytes) → k ≤ length ys → k ≤ length (xs ++ ys)
within_right k xs ys le = omega (arith, le, length-append xs ys)

abbrev a_line : Row → Bytes
a_line e = own_line (codes "X-Polipo-Location") e.key

abbrev two_lines : Row → Bytes
two_lines e = a_line e ++ number_line (codes "X-Polipo-Date") e.times.response

abbrev three_lines : Row → Bytes
three_lines e = two_lines e ++ number_line (codes "X-Polipo-Age") e.times.initial

abbrev four_lines : Row → Bytes
four_lines e = three_lines e ++ number_line (codes "X-Polipo-Length") e.version.length

key_in_line : (e : Row) → length e.key ≤ length (a_line e)
key_in_line e = within_right (length e.key) (codes "X-Polipo-Location") (codes ": " ++ (e.key ++ crlf)) (within_right (length e.key) (codes ": ") (e.key ++ crlf) (within_left (length e.key) e.key crlf (omega arith)))

key_within : (e : Row) → length e.key ≤ length (text_of e)
unfolding head_text own_lines
key_within e =
    within_left (length e.key) (codes "HTTP/1.1 200 OK\r\n" ++ lines_of e.fields ++ own_lines e.key e.version.length e.times) crlf
    (within_right (length e.key) (codes "HTTP/1.1 200 OK\r\n" ++ lines_of e.fields) (own_lines e.key e.version.length e.times)
    (within_left (length e.key) (four_lines e) (number_line (codes "X-Polipo-Body-Offset") (body_at e.version.length))
    (within_left (length e.key) (three_lines e) (number_line (codes "X-Polipo-Length") e.version.length)
    (within_left (length e.key) (two_lines e) (number_line (codes "X-Polipo-Age") e.times.initial)
    (within_left (length e.key) (a_line e) (number_line (codes "X-Polipo-Date") e.times.response) (key_in_line e))))))

pub key_short : (e : Row) → length (text_of e) ≤ 8192 → length e.key ≤ 8192
key_short e long = le_trans (key_within e) long

-- ---- none has a name

find_none : {A : Type 0} (p : A → Bool) (xs : List A) → ((x : A) → IsIn x xs → p x ≡ false) → find p xs ≡ None
find_none p [] each = refl
find_none p (x ∷ xs) each = ap (λ (b : Bool). cond b (Some x) (find p xs)) (each x (inl refl)) ∙ find_none p xs (λ y i. each y (inr i))

module _ (number : ℕ → ℕ) (p : Turn) (shelf : KeptMap) (s : State) (id : ObjectId) (x : Known) (w : ℕ) (stands : StandsToKeep number p shelf s) (none : p.cache.outdated ≡ []) (row : IsRowThere number p.cache s id x) (name_free : has_free_name s (name_of x.key) ≡ true) (short : IsShort (record { entry = entry_with x.key x.version x.fields x.times; extent = w })) where
  abbrev name : Bytes
  name = name_of x.key

  abbrev new : Entry
  new = new_entry x w

  abbrev ex : Row
  ex = entry_with x.key x.version x.fields x.times

  free : IsFree s name
  free = free_is s name name_free

  unnamed_at : (e : Entry) → IsIn e s.entries → bytes_eq e.name name ≡ false
  unnamed_at e i = by (bytes_eq e.name name) refl
    where
      by : (b : Bool) → bytes_eq e.name name ≡ b → b ≡ false
      by true is = absurd (free.none e i (same_bytes e.name name is))
      by false is = refl

  no_kept_row : kept_row s x.key ≡ None
  no_kept_row = find_none (is_kept_row_of x.key) s.entries (λ e i. by e i (is_entry_of x.key e) refl)
    where
      and_no : (b : Bool) → (b && false) ≡ false
      and_no true = refl
      and_no false = refl

      by : (e : Entry) → IsIn e s.entries → (b : Bool) → is_entry_of x.key e ≡ b → (not e.is_stale && b) ≡ false
      by e i true is = absurd (free.none e i (named_in e s.entries stands.rests.shows.named i ∙ ap name_of (same_bytes e.key x.key is)))
      by e i false is = and_no (not e.is_stale)

  -- ---- it is an entry

  abbrev now : Memory
  now = record p.cache { extents = kept_to id w p.cache.extents }

  abbrev kept_so : Turn
  kept_so = record p { cache = now }

  abbrev noted_by : Log → Bool → State
  noted_by ops b = elim b [ true ↦ with_draft x w ops s | false ↦ note_kept x.key w (with_draft x w ops s) ]

  entries_same : (ops : Log) (b : Bool) → (noted_by ops b).entries ≡ s.entries ++ new ∷ []
  unfolding note_kept
  entries_same ops true = refl
  entries_same ops false = noted_same x.key w s.entries new refl stands.rests.shows.named (no_one (is_named name) s.entries unnamed_at)

  abbrev to_enter : State
  to_enter = record s { agenda = record { name = name; todo = Enter new ∷ [] } }

  entered_cache : ShowsCache number now (enter_next to_enter)
  entered_cache =
      drafts_of number p.cache to_enter (moved_cache number p.cache s to_enter stands.cache refl refl) id x new []
      (record { there = row.there; known = row.known; row = row.row; slot = row.slot }) refl refl refl no_kept_row

  cache_by : (ops : Log) (b : Bool) → ShowsCache number now (noted_by ops b)
  unfolding enter_next note_kept
  cache_by ops true = moved_cache number now (enter_next to_enter) (noted_by ops true) entered_cache refl refl
  cache_by ops false = moved_cache number now (enter_next to_enter) (noted_by ops false) entered_cache refl (entries_same ops false)

  new_noted : AreNoted p.cache.outdated s.displaced (s.entries ++ new ∷ [])
  new_noted = noted_all p.cache.outdated s.displaced (s.entries ++ new ∷ []) (λ e i. by e (in_push e s.entries new i))
    where
      by : (e : Entry) → IsIn e s.entries ⊎ (e ≡ new) → (e.is_stale || has_text e.key s.displaced) ≡ list_any (bytes_eq e.name) p.cache.outdated
      by e (inl i) = noted_at p.cache.outdated s.displaced s.entries stands.noted e i
      by e (inr is) =
          subst (λ (d : Entry). (d.is_stale || has_text d.key s.displaced) ≡ list_any (bytes_eq d.name) p.cache.outdated) (sym is)
          (none_displaced number p shelf s stands none x.key ∙ sym (ap (λ (ns : List Bytes). list_any (bytes_eq name) ns) none))

  new_open : list_any (λ e. is_closed s e.name) (s.entries ++ new ∷ []) ≡ false
  new_open = no_one (λ e. is_closed s e.name) (s.entries ++ new ∷ []) (λ e i. by e (in_push e s.entries new i))
    where
      by : (e : Entry) → IsIn e s.entries ⊎ (e ≡ new) → is_closed s e.name ≡ false
      by e (inl i) = none_in (λ d. is_closed s d.name) s.entries stands.names e i
      by e (inr is) = ap (λ (d : Entry). is_closed s d.name) is ∙ free.open_name

  none_out : (key : Bytes) → has_text key s.displaced ≡ true → (es : List Entry) → is_some (find (is_entry_of key) es) ≡ true
  none_out key some es = true_not (sym some ∙ none_displaced number p shelf s stands none key)

  all_short : All IsShort (with_row ex w shelf).rows
  all_short = All-append IsShort shelf.rows _ stands.short (All-cons IsShort (record { entry = ex; extent = w }) [] short (All-nil IsShort))

  entered_so : (ops : Log) (b : Bool) → IsResting (with_row ex w shelf) (noted_by ops b) → HasKept number kept_so (with_row ex w shelf) s (noted_by ops b)
  unfolding note_kept
  entered_so ops true rests =
      stands_on number p kept_so shelf (with_row ex w shelf) s (noted_by ops true) stands refl rests (cache_by ops true) (kept_bounded p.cache id w stands.bounded) new_noted new_open
      (λ key some. none_out key some (s.entries ++ new ∷ [])) all_short stands.lost refl refl
  entered_so ops false rests =
      stands_on number p kept_so shelf (with_row ex w shelf) s (noted_by ops false) stands refl rests (cache_by ops false) (kept_bounded p.cache id w stands.bounded)
      (subst (λ (es : List Entry). AreNoted p.cache.outdated s.displaced es) (sym (entries_same ops false)) new_noted)
      (ap (λ (es : List Entry). list_any (λ e. is_closed s e.name) es) (entries_same ops false) ∙ new_open)
      (λ key some. none_out key some (noted_by ops false).entries) all_short stands.lost refl refl

  -- ---- it is none

  lost_so : (ops : Log) → IsResting shelf (lose_draft (ran ops no_agenda s)) → HasKept number (record p { has_lost_draft = true }) shelf s (lose_draft (ran ops no_agenda s))
  unfolding lose_draft
  lost_so ops rests =
      stands_on number p (record p { has_lost_draft = true }) shelf shelf s (lose_draft (ran ops no_agenda s)) stands refl rests
      (moved_cache number p.cache s (lose_draft (ran ops no_agenda s)) stands.cache refl refl) stands.bounded stands.noted stands.names stands.displaced stands.short refl refl refl

  still_open : (e : Entry) → IsIn e s.entries → has_text e.name (name ∷ without (bytes_eq name) s.closed_names) ≡ false
  still_open e i = closed_more name e.name s.closed_names ∙ ap (λ (b : Bool). b || has_text e.name s.closed_names) (bytes_swap name e.name ∙ unnamed_at e i) ∙ none_in (λ d. is_closed s d.name) s.entries stands.names e i

  unnamed_so : (ops : Log) → IsResting (with_closed name shelf) (close_name name (ran ops no_agenda s)) → HasKept number p (with_closed name shelf) s (close_name name (ran ops no_agenda s))
  unfolding close_name
  unnamed_so ops rests =
      stands_on number p p shelf (with_closed name shelf) s (close_name name (ran ops no_agenda s)) stands refl rests
      (moved_cache number p.cache s (close_name name (ran ops no_agenda s)) stands.cache refl refl) stands.bounded stands.noted
      (no_one (λ e. has_text e.name (name ∷ without (bytes_eq name) s.closed_names)) s.entries still_open) stands.displaced stands.short stands.lost refl refl

  pub drafted_so : (r : Result (Unit {0}) KeepFault) → IsLate r → (ops : Log) → IsResting (kept_after r ex w shelf) (drafted x w r ops s) → HasKept number (with_outcome id (drafted_to (Some r) w) p) (kept_after r ex w shelf) s (drafted x w r ops s)
  drafted_so (Ok done) late ops rests = entered_so ops (w == 0) rests
  drafted_so (Err Closed) late ops rests = absurd late
  drafted_so (Err Full) late ops rests = absurd late
  drafted_so (Err TooLong) late ops rests = absurd late
  drafted_so (Err NoDraft) late ops rests = lost_so ops rests
  drafted_so (Err DiskFault) late ops rests = unnamed_so ops rests
  drafted_so (Err OutOfMemory) late ops rests = record { stands = stands; rest = refl }
