-- How a turn stands behind a run that is sealed.
use Rattle.std.proofs.Common.{◌≡◌, refl, sym, subst, ap, ◌∙◌, ℕ, Bool, true, false, ◌||◌, not, cond, find, List, [], ◌∷◌, map, Some, Result, Ok, Err}
use Rattle.std.specs.Prelude.{All, bytes_eq, is_some}
use Rattle.std.specs.List.{list_any}
use Rattle.std.proofs.lemmas.List.Elements.{All-cons, All-filter, All-head, All-nil, All-tail}
use Rattle.pp_cache.specs.Memory.{Memory}
use Rattle.pp_cache.specs.OnDisk.{kept_to}
use Rattle.pp_cache_law.proofs.Keeping.{keepings_of, losses_of}
use Rattle.pp_cache_law.specs.Notes.{IsRowThere}
use Rattle.pp_cache_law.specs.Outdated.{AreNoted}
use Rattle.pp_cache_law.specs.Tables.{ShowsCache}
use Rattle.pp_keeping.specs.Keeping.{with_outcome}
use Rattle.pp_keeping.specs.Runs.{sealed_to}
use Rattle.pp_law.specs.Lists.{Bytes, change, has_text, without}
use Rattle.pp_law.specs.State.{State, Entry, Instance as Known}
use Rattle.pp_law.specs.Store.{close_name, extended, is_closed, note_kept, remove_entry}
use Rattle.pp_law.specs.Table.{is_entry_of, is_kept_row_of, kept_row}
use Rattle.pp_laws.proofs.Lists.{Changed, in_change, in_filter, other, same}
use Rattle.pp_objects.specs.declared.id.ObjectId.{ObjectId}
use Rattle.pp_shelf_law.specs.Seals.{sealed}
use Rattle.pp_shelf_law.specs.Shelf.{IsResting}
use Rattle.pp_state.specs.declared.state.State.{State as Turn}
use Rattle.pp_store.specs.Changes.{extended_after, extended_to, is_other}
use Rattle.pp_store.specs.Kept.{Kept as KeptRow, KeptMap, is_of}
use Rattle.pp_world.specs.Log.{Log}
use Rattle.pp_world.specs.declared.disk.DiskFault.{DiskFault}
use Rattle.pp_keeps_law.proofs.Entries.{no_one, none_in, none_left, noted_all, noted_at, true_not}
use Rattle.pp_keeps_law.proofs.Found.{none_displaced, not_stale, rows_are_entries}
use Rattle.pp_keeps_law.proofs.Standing.{kept_bounded, moved_cache, stands_on}
use Rattle.pp_keeps_law.proofs.Taking.{left_displaced, left_unclosed, removed_is}
use Rattle.pp_keeps_law.specs.Keeps.{HasKept}
use Rattle.pp_keeps_law.specs.Stands.{IsShort, StandsToKeep}

longer_short : (key : Bytes) (extent : ℕ) (rows : List KeptRow) → All IsShort rows → All IsShort (map (λ row. cond (is_of key row) (extended_to extent row) row) rows)
longer_short key extent [] all = All-nil IsShort
longer_short key extent (row ∷ rows) all =
    All-cons IsShort (cond (is_of key row) (extended_to extent row) row) (map (λ r. cond (is_of key r) (extended_to extent r) r) rows)
    (by (is_of key row) (All-head IsShort row rows all)) (longer_short key extent rows (All-tail IsShort row rows all))
  where
    by : (b : Bool) → IsShort row → IsShort (cond b (extended_to extent row) row)
    by true so = record { key = so.key; body = so.body }
    by false so = so

module _ (number : ℕ → ℕ) (p : Turn) (shelf : KeptMap) (s : State) (id : ObjectId) (x : Known) (e : Entry) (stands : StandsToKeep number p shelf s) (none : p.cache.outdated ≡ []) (row : IsRowThere number p.cache s id x) (kept : kept_row s x.key ≡ Some e) where
  found : find (is_entry_of x.key) s.entries ≡ Some e
  found = sym (rows_are_entries number p shelf s stands none x.key) ∙ kept

  none_out : (key : Bytes) → has_text key s.displaced ≡ true → (es : List Entry) → is_some (find (is_entry_of key) es) ≡ true
  none_out key some es = true_not (sym some ∙ none_displaced number p shelf s stands none key)

  -- ---- it is kept further

  abbrev now : ℕ → Memory
  now extent = record p.cache { extents = kept_to id extent p.cache.extents }

  abbrev longer : ℕ → List Entry
  longer extent = change (is_kept_row_of x.key) (extended extent) s.entries

  longer_noted : (extent : ℕ) → AreNoted p.cache.outdated s.displaced (longer extent)
  longer_noted extent = noted_all p.cache.outdated s.displaced (longer extent) (λ d i. by d (in_change (is_kept_row_of x.key) (extended extent) d s.entries i))
    where
      by : (d : Entry) → Changed (is_kept_row_of x.key) (extended extent) s.entries d → (d.is_stale || has_text d.key s.displaced) ≡ list_any (bytes_eq d.name) p.cache.outdated
      by d (same i isnt) = noted_at p.cache.outdated s.displaced s.entries stands.noted d i
      by d (other c i is like) =
          subst (λ (z : Entry). (z.is_stale || has_text z.key s.displaced) ≡ list_any (bytes_eq z.name) p.cache.outdated) (sym like)
          (noted_at p.cache.outdated s.displaced s.entries stands.noted c i)

  longer_open : (extent : ℕ) → list_any (λ d. is_closed s d.name) (longer extent) ≡ false
  longer_open extent = no_one (λ d. is_closed s d.name) (longer extent) (λ d i. by d (in_change (is_kept_row_of x.key) (extended extent) d s.entries i))
    where
      by : (d : Entry) → Changed (is_kept_row_of x.key) (extended extent) s.entries d → is_closed s d.name ≡ false
      by d (same i isnt) = none_in (λ z. is_closed s z.name) s.entries stands.names d i
      by d (other c i is like) = ap (λ (z : Entry). is_closed s z.name) like ∙ none_in (λ z. is_closed s z.name) s.entries stands.names c i

  longer_cache : (extent : ℕ) → ShowsCache number (now extent) (note_kept x.key extent s)
  longer_cache extent = keepings_of number p.cache s stands.cache id x e extent row kept

  further_so : (extent : ℕ) (ops : Log) → IsResting (extended_after {E = DiskFault} (Ok extent) x.key shelf) (sealed x e (Ok extent) ops s)
      → HasKept number (record p { cache = now extent }) (extended_after {E = DiskFault} (Ok extent) x.key shelf) s (sealed x e (Ok extent) ops s)
  unfolding note_kept
  further_so extent ops rests =
      stands_on number p (record p { cache = now extent }) shelf (extended_after {E = DiskFault} (Ok extent) x.key shelf) s (sealed x e (Ok extent) ops s) stands refl rests
      (moved_cache number (now extent) (note_kept x.key extent s) (sealed x e (Ok extent) ops s) (longer_cache extent) refl refl) (kept_bounded p.cache id extent stands.bounded)
      (longer_noted extent) (longer_open extent) (λ key some. none_out key some (longer extent)) (longer_short x.key extent shelf.rows stands.short) stands.lost refl refl

  -- ---- or it is gone

  abbrev left : List Entry
  left = without (is_entry_of e.key) s.entries

  left_noted : AreNoted p.cache.outdated (without (bytes_eq e.key) s.displaced) left
  left_noted = noted_all p.cache.outdated (without (bytes_eq e.key) s.displaced) left (λ d i.
      ap (λ (b : Bool). b || has_text d.key (without (bytes_eq e.key) s.displaced)) (not_stale number p shelf s stands none d (in_filter (λ z. not (is_entry_of e.key z)) d s.entries i).0)
      ∙ none_left e.key d.key s.displaced (none_displaced number p shelf s stands none d.key)
      ∙ sym (ap (λ (ns : List Bytes). list_any (bytes_eq d.name) ns) none))

  gone_cache : ShowsCache number (now 0) (remove_entry e s)
  gone_cache = subst (λ (t : State). ShowsCache number (now 0) t) (removed_is x.key s e found) (losses_of number p.cache s stands.cache id x row)

  gone_so : (fault : DiskFault) (ops : Log) → IsResting (extended_after {E = DiskFault} (Err fault) x.key shelf) (sealed x e (Err fault) ops s)
      → HasKept number (record p { cache = now 0 }) (extended_after {E = DiskFault} (Err fault) x.key shelf) s (sealed x e (Err fault) ops s)
  unfolding remove_entry close_name
  gone_so fault ops rests =
      stands_on number p (record p { cache = now 0 }) shelf (extended_after {E = DiskFault} (Err fault) x.key shelf) s (sealed x e (Err fault) ops s) stands refl rests
      (moved_cache number (now 0) (remove_entry e s) (sealed x e (Err fault) ops s) gone_cache refl refl) (kept_bounded p.cache id 0 stands.bounded)
      left_noted (no_one (λ d. has_text d.name (e.name ∷ without (bytes_eq e.name) s.closed_names)) left (λ d i. left_unclosed number p shelf s x.key e stands found d i))
      (left_displaced number p shelf s x.key e stands found) (All-filter (is_other x.key) IsShort shelf.rows stands.short) stands.lost refl refl

  pub sealed_so : (r : Result ℕ DiskFault) (ops : Log) → IsResting (extended_after r x.key shelf) (sealed x e r ops s) → HasKept number (with_outcome id (sealed_to (Some r)) p) (extended_after r x.key shelf) s (sealed x e r ops s)
  sealed_so (Ok extent) ops rests = further_so extent ops rests
  sealed_so (Err fault) ops rests = gone_so fault ops rests
