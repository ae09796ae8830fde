-- Where no run is full behind what is kept, and no name is outdated, nothing is left to do for the disk.
use Rattle.std.proofs.Common.{◌≡◌, refl, sym, subst, ap, ap₂, ◌∙◌, inl, inr, ◌≤◌, ℕ, ◌-◌, Bool, true, false, not, ◌&&◌, ◌||◌, cond, find, List, [], ◌∷◌, Option, Some, None}
use Rattle.std.specs.Prelude.{bytes_eq, nat_lt}
use Rattle.std.specs.List.{list_any}
use Rattle.pp_cache_law.proofs.Alike.{instances_of}
use Rattle.pp_cache_law.proofs.Numbers.{some_is}
use Rattle.pp_cache_law.specs.Pairs.{AreAll}
use Rattle.pp_cache_law.specs.Reads.{IsFound}
use Rattle.pp_cache_law.specs.Tables.{ShowsInstance}
use Rattle.pp_keeping.specs.Runs.{full_run}
use Rattle.pp_law.specs.Lists.{Bytes, has_text, is_some_with}
use Rattle.pp_law.specs.State.{State, Entry, Instance as Known, Todo}
use Rattle.pp_law.specs.Store.{end_of_run, has_to_seal, is_closed, is_done_on_disk, is_due_to_seal, is_full_run, is_gone, is_idle_disk, may_seal, run_from}
use Rattle.pp_law.specs.Table.{is_entry_of, is_instance, is_same_version, kept_row}
use Rattle.pp_laws.proofs.Lists.{in_find}
use Rattle.pp_laws.proofs.Tests.{below, number_same, same_version}
use Rattle.pp_laws.specs.Runs.{IsIn}
use Rattle.pp_objects.specs.Instances.{Instance, id_of, in_slot, is_life, is_there}
use Rattle.pp_objects.specs.declared.id.ObjectId.{ObjectId}
use Rattle.pp_obeys.proofs.Silent.{both_hold}
use Rattle.pp_shelf_law.proofs.Finding.{kept_ones, others}
use Rattle.pp_shelf_law.proofs.Runs.{idle_is}
use Rattle.pp_shelf_law.proofs.Shelves.{bytes_by}
use Rattle.pp_shelf_law.specs.Kept.{IsOf}
use Rattle.pp_state.specs.Bringing.{instance_of}
use Rattle.pp_state.specs.declared.state.State.{State as Turn}
use Rattle.pp_store.specs.Kept.{IsExtent, Kept as KeptRow, KeptMap, is_of, kept_of}
use Rattle.pp_text.specs.Bytes.{is_empty}
use Rattle.pp_valid.specs.declared.version.Version.{Version}
use Rattle.pp_keeps_law.proofs.Entries.{all_found, no_one, none_in, true_not}
use Rattle.pp_keeps_law.proofs.Found.{rows_are_entries, unnoted}
use Rattle.pp_keeps_law.proofs.FullRuns.{full_runs}
use Rattle.pp_keeps_law.specs.All.{AreAmong, HasNextRun}
use Rattle.pp_keeps_law.specs.Runs.{IsKeptInPart}
use Rattle.pp_keeps_law.specs.Stands.{IsShort, StandsToKeep}

record IsShownBy (number : ℕ → ℕ) (p : Turn) (s : State) (x : Known) : Type 0 where
  seen : Instance
  shows : ShowsInstance number p.cache s seen x

shown_by : (number : ℕ → ℕ) (p : Turn) (s : State) (is : List Instance) (xs : List Known) → AreAll (ShowsInstance number p.cache s) is xs → (x : Known) → IsIn x xs → IsShownBy number p s x
shown_by number p s [] [] all x i = absurd i
shown_by number p s [] (z ∷ xs) all x i = absurd all
shown_by number p s (j ∷ is) [] all x i = absurd all
shown_by number p s (j ∷ is) (z ∷ xs) all x (inl same) = record { seen = j; shows = subst (λ (k : Known). ShowsInstance number p.cache s j k) (sym same) all.0 }
shown_by number p s (j ∷ is) (z ∷ xs) all x (inr i) = shown_by number p s is xs all.1 x i

module _ (number : ℕ → ℕ) (p : Turn) (shelf : KeptMap) (s : State) (stands : StandsToKeep number p shelf s) (none : p.cache.outdated ≡ []) (among : AreAmong [] p shelf) where
  -- ---- no run is due

  record IsDue (x : Known) (e : Entry) : Type 0 where
    kept : kept_row s x.key ≡ Some e
    row : x.is_retired ≡ false
    version : is_same_version x.version e.version ≡ true
    inside : nat_lt e.extent x.version.length ≡ true
    full : is_full_run s x e (run_from s x e) ≡ true

  due_parts : (x : Known) (e : Entry) → kept_row s x.key ≡ Some e → (may_seal s x e && is_full_run s x e (run_from s x e)) ≡ true → IsDue x e
  due_parts x e kept is = by (x.is_retired) refl (is_same_version x.version e.version) refl (is_closed s e.name) (nat_lt e.extent x.version.length) refl (is_full_run s x e (run_from s x e)) refl is
    where
      by : (r : Bool) → x.is_retired ≡ r → (v : Bool) → is_same_version x.version e.version ≡ v → (c : Bool) → (l : Bool) → nat_lt e.extent x.version.length ≡ l → (f : Bool) → is_full_run s x e (run_from s x e) ≡ f → ((not r && v && not c && l) && f) ≡ true → IsDue x e
      by true ir v iv c l il f fi eq = true_not (sym eq)
      by false ir false iv c l il f fi eq = true_not (sym eq)
      by false ir true iv true l il f fi eq = true_not (sym eq)
      by false ir true iv false false il f fi eq = true_not (sym eq)
      by false ir true iv false true il false fi eq = true_not (sym eq)
      by false ir true iv false true il true fi eq = record { kept = kept; row = ir; version = iv; inside = il; full = fi }

  module _ (x : Known) (there : IsIn x s.instances) (e : Entry) (due : IsDue x e) where
    shown : IsShownBy number p s x
    shown = shown_by number p s p.cache.instances s.instances stands.cache.table.instances x there

    abbrev i : Instance
    i = shown.seen

    abbrev id : ObjectId
    id = id_of i

    is_there_so : is_there id p.cache.instances ≡ true
    is_there_so = ap (λ (o : Option Instance). is_life i.life o) shown.shows.there ∙ number_same i.life

    found : instance_of id p.cache.instances ≡ Some i
    found = ap (λ (b : Bool). cond b (in_slot i.slot p.cache.instances) None) is_there_so ∙ shown.shows.there

    -- the law's of its number has the same run
    one : IsFound number p.cache s id
    one = instances_of number p.cache s stands.cache.table id is_there_so

    seen_is : one.seen ≡ i
    seen_is = some_is one.seen i (sym one.here ∙ shown.shows.there)

    same_key : one.known.key ≡ x.key
    same_key = sym one.shows.key ∙ ap (λ (j : Instance). j.key) seen_is ∙ shown.shows.key

    same_one : one.known ≡ x
    same_one = stands.alone x.key one.known x (in_find (is_instance (number id.life)) one.known s.instances one.there).0 there
        (both_hold (not one.known.is_retired) (bytes_eq one.known.key x.key) (ap not (sym one.shows.retired ∙ ap (λ (j : Instance). j.is_retired) seen_is ∙ shown.shows.retired ∙ due.row)) (bytes_by one.known.key x.key same_key))
        (both_hold (not x.is_retired) (bytes_eq x.key x.key) (ap not due.row) (bytes_by x.key x.key refl))

    e_found : find (is_entry_of x.key) s.entries ≡ Some e
    e_found = sym (rows_are_entries number p shelf s stands none x.key) ∙ due.kept

    e_in : IsIn e s.entries
    e_in = (in_find (is_entry_of x.key) e s.entries e_found).0

    -- what is kept of it is this entry
    next_of : (o : Option KeptRow) → kept_of x.key shelf ≡ o → HasNextRun p shelf id i
    next_of None is = true_not (sym (others shelf s x.key e stands.rests.shows is e_found) ∙ none_in (λ d. is_closed s d.name) s.entries stands.names e e_in)
    next_of (Some k) is =
        let its : IsOf x.key k s = kept_ones shelf s x.key k stands.rests.shows is in
        let same : its.entry ≡ e = some_is its.entry e (sym its.there ∙ e_found) in
        let version : x.version ≡ e.version = same_version x.version e.version due.version in
        let kept_version : k.entry.version ≡ x.version = its.shows.version ∙ ap (λ (d : Entry). d.version) same ∙ sym version in
        let extent : k.extent ≡ e.extent = its.shows.extent ∙ ap (λ (d : Entry). d.extent) same in
        let whole : IsExtent x.version.length e.extent = subst (λ (v : Version). IsExtent v.length e.extent) (sym version) (subst (λ (d : Entry). IsExtent d.version.length d.extent) same its.shows.whole) in
        let part : IsKeptInPart number p.cache s id x e = record { there = is_there_so; known = one.there ∙ ap (λ (k : Known). Some k) same_one; whole = whole; inside = below e.extent x.version.length due.inside } in
        let full : full_run p id x.version.length e.extent ≡ Some (end_of_run x e (run_from s x e) - e.extent) =
        full_runs number p s id x e stands.cache.table stands.bounded stands.run part ∙ ap (λ (b : Bool). elim b as (λ c. Option ℕ) [ true ↦ Some (end_of_run x e (run_from s x e) - e.extent) | false ↦ None ]) due.full in
        let short : IsShort k = all_found IsShort (is_of x.key) shelf.rows k stands.short is in
        record {
          kept = k;
          len = end_of_run x e (run_from s x e) - e.extent;
          next = record {
            row = shown.shows.retired ∙ due.row;
            there = ap (λ (key : Bytes). kept_of key shelf) shown.shows.key ∙ is;
            same = ap₂ (λ (v w : Version). is_same_version v w) shown.shows.version (kept_version ∙ version) ∙ due.version;
            full = ap₂ (λ (v : Version) (from : ℕ). full_run p id v.length from) shown.shows.version extent ∙ full;
          };
          body = subst (λ (v : Version). v.length ≤ 67108864) (kept_version ∙ sym shown.shows.version) short.body;
        }

    not_due : ⊥
    not_due = let some : false ≡ true = among id i found (next_of (kept_of x.key shelf) refl) in cc some

  none_due : (x : Known) → IsIn x s.instances → is_due_to_seal s x ≡ false
  none_due x there = by (kept_row s x.key) refl
    where
      off : (e : Entry) → kept_row s x.key ≡ Some e → (b : Bool) → (may_seal s x e && is_full_run s x e (run_from s x e)) ≡ b → b ≡ false
      off e kept true is = absurd (not_due x there e (due_parts x e kept is))
      off e kept false is = refl

      by : (o : Option Entry) → kept_row s x.key ≡ o → is_some_with (λ e. may_seal s x e && is_full_run s x e (run_from s x e)) o ≡ false
      by None kept = refl
      by (Some e) kept = off e kept (may_seal s x e && is_full_run s x e (run_from s x e)) refl

  -- ---- and no entry is to go

  gone_none : (e : Entry) → IsIn e s.entries → is_gone s e ≡ false
  gone_none e i = or_last e.is_stale (has_text e.key s.displaced) (is_closed s e.name) (unnoted number p shelf s stands none e i) (none_in (λ d. is_closed s d.name) s.entries stands.names e i)
    where
      or_last : (a b c : Bool) → (a || b) ≡ false → c ≡ false → (a || b || c) ≡ false
      or_last true b c is off = true_not is
      or_last false true c is off = true_not is
      or_last false false c is off = off

  pub done_so : is_done_on_disk s ≡ true
  done_so =
      ap (λ (todo : List Todo). is_empty todo && is_idle_disk s && not (list_any (is_gone s) s.entries) && not (has_to_seal s)) stands.rests.done
      ∙ ap (λ (b : Bool). true && b && not (list_any (is_gone s) s.entries) && not (has_to_seal s)) (idle_is s stands.rests.idle)
      ∙ ap (λ (b : Bool). true && true && not b && not (has_to_seal s)) (no_one (is_gone s) s.entries gone_none)
      ∙ ap (λ (b : Bool). true && true && true && not b) (no_one (is_due_to_seal s) s.instances none_due)
