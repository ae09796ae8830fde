-- The entry under an outdated name is taken away.
use Rattle.std.proofs.Common.{◌≡◌, refl, sym, subst, ap, ◌∙◌, ◌≤◌, ℕ, Bool, true, false, not, ◌&&◌, ◌||◌, find, is_ok, List, [], ◌∷◌, ◌++◌, length, Option, Some, None, Result, Ok, Err}
use Rattle.std.specs.Prelude.{OnErr, bytes_eq, if◌then◌else◌, is_some, option_map}
use Rattle.std.specs.List.{list_any}
use Rattle.std.proofs.lemmas.List.Elements.{All-filter}
use Rattle.pp_cache.specs.Bounds.{IsBounded}
use Rattle.pp_cache.specs.Memory.{Memory}
use Rattle.pp_cache_law.proofs.Noted.{takings_of}
use Rattle.pp_cache_law.specs.Outdated.{AreNoted}
use Rattle.pp_cache_law.specs.Tables.{ShowsCache}
use Rattle.pp_gate.specs.Runs.{Ran}
use Rattle.pp_keeping.specs.Keeping.{Keeping as Kept, all_but_last, with_memory, without_name}
use Rattle.pp_keeping.specs.Kept.{Notes, Outside, TakesAway, Withdraws, unkept, unkept_of, with_room}
use Rattle.pp_law.specs.Lists.{Bytes, has_text, without}
use Rattle.pp_law.specs.State.{State, Entry}
use Rattle.pp_law.specs.Store.{close_name, is_closed, is_gone, note_gone, remove_entry}
use Rattle.pp_law.specs.Table.{is_entry_of, is_namesake}
use Rattle.pp_laws.proofs.Lists.{in_filter, in_find}
use Rattle.pp_laws.specs.Runs.{IsIn}
use Rattle.pp_obeys.proofs.Adding.{adds_as, adds_then}
use Rattle.pp_obeys.proofs.Moving.{leads_to}
use Rattle.pp_obeys.specs.Moves.{Both, Is, MovesAll}
use Rattle.pp_shelf_law.proofs.Calls.{runs_add}
use Rattle.pp_shelf_law.proofs.Finding.{found_is, kept_ones, named_in, one_named, others}
use Rattle.pp_shelf_law.proofs.Shelves.{bytes_by, bytes_same, closed_more, same_bytes}
use Rattle.pp_shelf_law.proofs.Takings.{key_found, name_found, withdrawals}
use Rattle.pp_shelf_law.specs.Kept.{IsOf}
use Rattle.pp_shelf_law.specs.Shelf.{IsResting}
use Rattle.pp_shelf_law.specs.Takings.{IsToGo, LeadsTo, taken_away}
use Rattle.pp_state.specs.declared.state.State.{State as Turn}
use Rattle.pp_store.proofs.Lists.{found_passes}
use Rattle.pp_store.specs.Changes.{is_other, withdrawn_after}
use Rattle.pp_store.specs.Kept.{Kept as KeptRow, KeptMap, is_of, is_under, kept_of, kept_under}
use Rattle.pp_target.specs.Name.{name_of}
use Rattle.pp_world.specs.Log.{Log, Rises}
use Rattle.pp_world.specs.declared.disk.DiskFault.{DiskFault}
use Rattle.pp_world.specs.declared.happening.Happening.TheVariants.{Noted}
use Rattle.pp_world.specs.declared.note.Remark.TheVariants.{Gone}
use Rattle.pp_world.specs.declared.op.DiskOp.TheVariants.{Remove}
use Rattle.pp_keeps_law.proofs.Added.{adds_these, note_adds, still_adds}
use Rattle.pp_keeps_law.proofs.Entries.{all_found, any_but, any_in, found_some, in_last, left_key, no_one, none_in, noted_all, noted_at, off_of, other_found, true_not}
use Rattle.pp_keeps_law.proofs.Held.{up_to_true}
use Rattle.pp_keeps_law.proofs.Standing.{gone_cache, moved_cache, noted_bounded, noted_cache, stands_on, unkept_bounded, unkept_outdated}
use Rattle.pp_keeps_law.specs.Keeps.{AddsTo, HasKept, LeadsOn, TakingsLeadOn}
use Rattle.pp_keeps_law.specs.Stands.{IsShort, StandsToKeep}

-- ---- an entry that is out

and_no : (b : Bool) → (b && false) ≡ false
and_no true = refl
and_no false = refl

gone_first : (a b c : Bool) → (a || b) ≡ true → (a || b || c) ≡ true
gone_first true b c is = refl
gone_first false true c is = refl
gone_first false false c is = true_not (sym is)

pub removed_is : (key : Bytes) (s : State) (e : Entry) → find (is_entry_of key) s.entries ≡ Some e → note_gone key s ≡ remove_entry e s
unfolding note_gone
removed_is key s e found = ap (λ (o : Option Entry). elim o as (λ c. State) [ None ↦ s | Some d ↦ remove_entry d s ]) found

-- those that are left, when the entry of a key is out
module _ (number : ℕ → ℕ) (p : Turn) (shelf : KeptMap) (s : State) (key : Bytes) (e : Entry) (stands : StandsToKeep number p shelf s) (there : find (is_entry_of key) s.entries ≡ Some e) where
  abbrev left : List Entry
  left = without (is_entry_of e.key) s.entries

  e_in : IsIn e s.entries
  e_in = (in_find (is_entry_of key) e s.entries there).0

  pub e_key : e.key ≡ key
  e_key = key_found key s.entries e there

  pub e_name : e.name ≡ name_of key
  e_name = name_found key s.entries e stands.rests.shows.named there

  pub no_namesake : list_any (is_namesake key) s.entries ≡ false
  no_namesake = no_one (is_namesake key) s.entries (λ d i. by d i (bytes_eq d.name (name_of key)) refl)
    where
      by : (d : Entry) → IsIn d s.entries → (b : Bool) → bytes_eq d.name (name_of key) ≡ b → (not (is_entry_of key d) && b) ≡ false
      by d i true is =
          let same : e ≡ d = one_named (name_of key) e d s.entries (stands.rests.shows.once (name_of key)) e_in e_name i (same_bytes d.name (name_of key) is) in
          ap (λ (x : Entry). not (is_entry_of key x) && true) (sym same) ∙ ap (λ (b : Bool). not b && true) (bytes_by e.key key e_key)
      by d i false is = and_no (not (is_entry_of key d))

  -- none of them has its name
  pub other_name : (d : Entry) → IsIn d left → bytes_eq e.name d.name ≡ false
  other_name d i = by (bytes_eq e.name d.name) refl
    where
      parts : IsIn d s.entries × (not (is_entry_of e.key d) ≡ true)
      parts = in_filter (λ x. not (is_entry_of e.key x)) d s.entries i

      by : (b : Bool) → bytes_eq e.name d.name ≡ b → b ≡ false
      by true is =
          let same : e ≡ d = one_named e.name e d s.entries (stands.rests.shows.once e.name) e_in refl parts.0 (sym (same_bytes e.name d.name is)) in
          true_not (sym (bytes_same e.key) ∙ ap (λ (x : Entry). is_entry_of e.key x) same ∙ off_of (is_entry_of e.key d) parts.1)
      by false is = refl

  pub left_open : (d : Entry) → IsIn d left → is_closed s d.name ≡ false
  left_open d i = none_in (λ x. is_closed s x.name) s.entries stands.names d (in_filter (λ x. not (is_entry_of e.key x)) d s.entries i).0

  -- also where its name is closed
  pub left_unclosed : (d : Entry) → IsIn d left → has_text d.name (e.name ∷ without (bytes_eq e.name) s.closed_names) ≡ false
  left_unclosed d i = closed_more e.name d.name s.closed_names ∙ ap (λ (b : Bool). b || has_text d.name s.closed_names) (other_name d i) ∙ left_open d i

  pub left_displaced : (k : Bytes) → has_text k (without (bytes_eq e.key) s.displaced) ≡ true → is_some (find (is_entry_of k) left) ≡ true
  left_displaced k some =
      let other = left_key e.key k s.displaced some in
      ap (λ (o : Option Entry). is_some o) (other_found e.key k s.entries other.other) ∙ stands.displaced k other.there

-- ---- the last of the outdated names

module _ (number : ℕ → ℕ) (p : Turn) (shelf : KeptMap) (s : State) (key name : Bytes) (stands : StandsToKeep number p shelf s) (last : p.cache.outdated ≡ all_but_last p.cache.outdated ++ name ∷ []) where
  abbrev m : Memory
  m = without_name p.cache

  abbrev q : Turn
  q = with_memory (unkept key m) p

  named : (e : Entry) → e.name ≡ name → list_any (bytes_eq e.name) p.cache.outdated ≡ true
  named e its = any_in (bytes_eq e.name) name p.cache.outdated (subst (λ (ns : List Bytes). IsIn name ns) (sym last) (in_last name (all_but_last p.cache.outdated))) (bytes_by e.name name its)

  is_gone_so : (e : Entry) → IsIn e s.entries → e.name ≡ name → is_gone s e ≡ true
  is_gone_so e i its = gone_first e.is_stale (has_text e.key s.displaced) (is_closed s e.name) (noted_at p.cache.outdated s.displaced s.entries stands.noted e i ∙ named e its)

  module _ (e : Entry) (there : find (is_entry_of key) s.entries ≡ Some e) (its : name ≡ name_of key) where
    cache_left : ShowsCache number (unkept key m) (remove_entry e s)
    cache_left =
        subst (λ (t : State). ShowsCache number (unkept key m) t) (removed_is key s e there)
        (gone_cache number m s key (noted_cache number p.cache s (all_but_last p.cache.outdated) p.cache.grown stands.cache) (noted_bounded p.cache (all_but_last p.cache.outdated) p.cache.grown stands.bounded))

    noted_left : AreNoted (all_but_last p.cache.outdated) (remove_entry e s).displaced (remove_entry e s).entries
    noted_left =
        subst (λ (t : State). AreNoted (all_but_last p.cache.outdated) t.displaced t.entries) (removed_is key s e there)
        (takings_of p.cache s key (all_but_last p.cache.outdated) (last ∙ ap (λ (n : Bytes). all_but_last p.cache.outdated ++ n ∷ []) its) stands.noted (no_namesake number p shelf s key e stands there))

    noted_now : AreNoted q.cache.outdated (remove_entry e s).displaced (remove_entry e s).entries
    noted_now = subst (λ (ns : List Bytes). AreNoted ns (remove_entry e s).displaced (remove_entry e s).entries) (sym (unkept_outdated key m)) noted_left

    bounded_now : IsBounded q.cache
    bounded_now = unkept_bounded key m (noted_bounded p.cache (all_but_last p.cache.outdated) p.cache.grown stands.bounded)

    behind : (r : Result (Unit {0}) DiskFault) (ops : Log) → IsResting (withdrawn_after r key shelf) (taken_away (is_ok r) ops e s) → HasKept number q (withdrawn_after r key shelf) s (taken_away (is_ok r) ops e s)
    unfolding remove_entry close_name
    behind (Ok done) ops rests =
        stands_on number p q shelf (withdrawn_after {A = Unit {0}} {E = DiskFault} (Ok done) key shelf) s (taken_away true ops e s) stands refl rests
        (moved_cache number (unkept key m) (remove_entry e s) (taken_away true ops e s) cache_left refl refl) bounded_now noted_now
        (no_one (λ d. is_closed s d.name) (left number p shelf s key e stands there) (λ d i. left_open number p shelf s key e stands there d i))
        (left_displaced number p shelf s key e stands there) (All-filter (is_other key) IsShort shelf.rows stands.short) stands.lost refl refl
    behind (Err fault) ops rests =
        stands_on number p q shelf (withdrawn_after {A = Unit {0}} {E = DiskFault} (Err fault) key shelf) s (taken_away false ops e s) stands refl rests
        (moved_cache number (unkept key m) (remove_entry e s) (taken_away false ops e s) cache_left refl refl) bounded_now noted_now
        (no_one (λ d. has_text d.name (e.name ∷ without (bytes_eq e.name) s.closed_names)) (left number p shelf s key e stands there) (λ d i. left_unclosed number p shelf s key e stands there d i))
        (left_displaced number p shelf s key e stands there) (All-filter (is_other key) IsShort shelf.rows stands.short) stands.lost refl refl

  -- it is kept under that name
  pub away_leads : (kept : KeptRow) → kept_under name shelf ≡ Some kept → key ≡ kept.entry.key → (r : Result (Unit {0}) DiskFault) (ops : Log) → Ran (Remove (name_of key) ∷ []) (is_ok r) ops
      → MovesAll (HasKept number q (withdrawn_after r key shelf) s) (Noted (Gone key) ∷ ops) s
  away_leads kept found its_key r ops ran =
      let its : name ≡ name_of key = sym (same_bytes (name_of kept.entry.key) name (found_passes (is_under name) shelf.rows kept found)) ∙ ap name_of (sym its_key) in
      let k : (k : KeptRow) × (kept_of key shelf ≡ Some k) = found_some (is_of key) kept shelf.rows (in_find (is_under name) kept shelf.rows found).0 (bytes_by kept.entry.key key (sym its_key)) in
      let one : IsOf key k.0 s = kept_ones shelf s key k.0 stands.rests.shows k.1 in
      let e : Entry = one.entry in
      let there : IsIn e s.entries = (in_find (is_entry_of key) e s.entries one.there).0 in
      let named_so : e.name ≡ name = name_found key s.entries e stands.rests.shows.named one.there ∙ sym its in
      let goes : IsToGo s key e = record { there = one.there; gone = is_gone_so e there named_so; unclosed = one.unclosed } in
      let leads : LeadsTo (Noted (Gone key) ∷ ops) s (taken_away (is_ok r) ops e s) (withdrawn_after r key shelf) = withdrawals shelf s key e r ops stands.rests goes ran in
      leads_to (HasKept number q (withdrawn_after r key shelf) s) (Noted (Gone key) ∷ ops) s (taken_away (is_ok r) ops e s) leads.leads (behind e one.there its r ops leads.rests)

-- ---- nothing is kept under it

forgotten : (number : ℕ → ℕ) (p : Turn) (shelf : KeptMap) (s : State) (name : Bytes) → StandsToKeep number p shelf s → p.cache.outdated ≡ all_but_last p.cache.outdated ++ name ∷ [] → kept_under name shelf ≡ None
    → HasKept number (with_memory (without_name p.cache) p) shelf s s
forgotten number p shelf s name stands last none =
    stands_on number p (with_memory (without_name p.cache) p) shelf shelf s s stands refl stands.rests
    (noted_cache number p.cache s (all_but_last p.cache.outdated) p.cache.grown stands.cache) (noted_bounded p.cache (all_but_last p.cache.outdated) p.cache.grown stands.bounded)
    (noted_all (all_but_last p.cache.outdated) s.displaced s.entries fewer) stands.names stands.displaced stands.short stands.lost refl refl
  where
    not_under : (e : Entry) → IsIn e s.entries → (b : Bool) → bytes_eq e.name name ≡ b → b ≡ false
    not_under e i false is = refl
    not_under e i true is =
        let its : e.name ≡ name_of e.key = named_in e s.entries stands.rests.shows.named i in
        let under : (k : KeptRow) → kept_of e.key shelf ≡ Some k → ⊥ = (λ k found.
        let there : IsIn k shelf.rows × (is_of e.key k ≡ true) = in_find (is_of e.key) k shelf.rows found in
        let name_is : name_of k.entry.key ≡ name = ap name_of (same_bytes k.entry.key e.key there.1) ∙ sym its ∙ same_bytes e.name name is in
        let some : (j : KeptRow) × (kept_under name shelf ≡ Some j) = found_some (is_under name) k shelf.rows there.0 (bytes_by (name_of k.entry.key) name name_is) in
        let both : None ≡ Some some.0 = sym none ∙ some.1 in
        cc both) in
        true_not (sym (others shelf s e.key e stands.rests.shows (nothing_kept (kept_of e.key shelf) under) (found_is e.key e s.entries stands.rests.shows.named stands.rests.shows.once i refl)) ∙ none_in (λ d. is_closed s d.name) s.entries stands.names e i)
      where
        nothing_kept : (o : Option KeptRow) → ((k : KeptRow) → o ≡ Some k → ⊥) → o ≡ None
        nothing_kept None never = refl
        nothing_kept (Some k) never = absurd (never k refl)

    fewer : (e : Entry) → IsIn e s.entries → (e.is_stale || has_text e.key s.displaced) ≡ list_any (bytes_eq e.name) (all_but_last p.cache.outdated)
    fewer e i =
        noted_at p.cache.outdated s.displaced s.entries stands.noted e i
        ∙ ap (λ (ns : List Bytes). list_any (bytes_eq e.name) ns) last
        ∙ any_but (bytes_eq e.name) (all_but_last p.cache.outdated) name (not_under e i (bytes_eq e.name name) refl)

-- ---- all of it

room_is : (key : Bytes) → length key ≤ 8192 → with_room key ≡ key
room_is key short = ap (λ (b : Bool). if b then key else []) (up_to_true (length key) 8192 short)

pub if_shown : (number : ℕ → ℕ) (q t : Turn) (new other : KeptMap) (s : State) (hs : Log) → q ≡ t → new ≡ other → MovesAll (HasKept number t other s) hs s → MovesAll (HasKept number q new s) hs s
if_shown number q t new other s hs state shelf_is moves = subst (λ (u : Turn). MovesAll (HasKept number u new s) hs s) (sym state) (subst (λ (k : KeptMap). MovesAll (HasKept number t k s) hs s) (sym shelf_is) moves)

module _ (x y : Kept) (name : Bytes) (last : x.state.cache.outdated ≡ all_but_last x.state.cache.outdated ++ name ∷ []) where
  module _ (kept : KeptRow) (found : kept_under name x.outside.shelf ≡ Some kept) (state : y.state ≡ with_memory (unkept (with_room kept.entry.key) (without_name x.state.cache)) x.state) where
    abbrev key : Bytes
    key = with_room kept.entry.key

    its_key : (number : ℕ → ℕ) (s : State) → StandsToKeep number x.state x.outside.shelf s → key ≡ kept.entry.key
    its_key number s stands = room_is kept.entry.key (all_found IsShort (is_under name) x.outside.shelf.rows kept stands.short found).key

    answered : (noted : Outside) (answer : Option (Result (Unit {0}) DiskFault)) → Notes (Noted (Gone key) ∷ []) x.outside noted → Withdraws key answer noted y.outside → AddsTo x y (LeadsOn x y)
    answered noted None notes w =
        adds_as x.outside.faults y.outside.faults (Both (Is (Noted (Gone key) ∷ [])) (Is [])) (LeadsOn x y) (λ hs are number s stands. absurd (is_there number s stands))
        (adds_then x.outside.faults noted.faults y.outside.faults (Is (Noted (Gone key) ∷ [])) (Is []) (note_adds (Noted (Gone key) ∷ []) x.outside noted refl notes) (still_adds noted y.outside w.still))
      where
        is_there : (number : ℕ → ℕ) (s : State) → StandsToKeep number x.state x.outside.shelf s → ⊥
        is_there number s stands =
            let k : (k : KeptRow) × (kept_of key x.outside.shelf ≡ Some k) = found_some (is_of key) kept x.outside.shelf.rows (in_find (is_under name) kept x.outside.shelf.rows found).0 (bytes_by kept.entry.key key (sym (its_key number s stands))) in
            let both : false ≡ true = w.answered ∙ ap (λ (shelf : KeptMap). is_some (kept_of key shelf)) notes.shelf ∙ ap (λ (o : Option KeptRow). is_some o) k.1 in
            cc both
    answered noted (Some r) notes w =
        adds_as x.outside.faults y.outside.faults (Both (Is (Noted (Gone key) ∷ [])) (Ran (Remove (name_of key) ∷ []) (is_ok r))) (LeadsOn x y) leads
        (adds_then x.outside.faults noted.faults y.outside.faults (Is (Noted (Gone key) ∷ [])) (Ran (Remove (name_of key) ∷ []) (is_ok r)) (note_adds (Noted (Gone key) ∷ []) x.outside noted refl notes)
        (runs_add noted.log y.outside.log (Remove (name_of key) ∷ []) (is_ok r) noted.faults y.outside.faults w.ops w.count (cause r w.cause)))
      where
        cause : (r : Result (Unit {0}) DiskFault) → OnErr r (Rises y.outside.log noted.faults y.outside.faults) → is_ok r ≡ false → Rises y.outside.log noted.faults y.outside.faults
        cause (Ok done) rises is = absurd (cc is)
        cause (Err fault) rises is = rises

        leads : (hs : Log) → Both (Is (Noted (Gone key) ∷ [])) (Ran (Remove (name_of key) ∷ []) (is_ok r)) hs → LeadsOn x y hs
        leads hs are number s stands =
            let whole : hs ≡ Noted (Gone key) ∷ are.two = are.is ∙ ap (λ (k : Log). k ++ are.two) are.first in
            subst (λ (k : Log). MovesAll (HasKept number y.state y.outside.shelf s) k s) (sym whole)
            (if_shown number y.state (with_memory (unkept key (without_name x.state.cache)) x.state) y.outside.shelf (withdrawn_after r key x.outside.shelf) s (Noted (Gone key) ∷ are.two)
            state (w.map ∙ ap (λ (shelf : KeptMap). withdrawn_after r key shelf) notes.shelf)
            (away_leads number x.state x.outside.shelf s key name stands last kept found (its_key number s stands) r are.two are.then))

abbrev key_in : Option KeptRow → Option Bytes
key_in o = option_map (λ kept. with_room kept.entry.key) o

pub takings_lead_on : TakingsLeadOn
takings_lead_on x y tn = by (kept_under tn.name x.outside.shelf) refl tn.takes tn.state
  where
    by : (o : Option KeptRow) → kept_under tn.name x.outside.shelf ≡ o → TakesAway (key_in o) x.outside y.outside → y.state ≡ with_memory (unkept_of (key_in o) (without_name x.state.cache)) x.state → AddsTo x y (LeadsOn x y)
    by None none still state =
        adds_these x.outside.faults y.outside.faults [] (LeadsOn x y)
        (λ number s stands. if_shown number y.state (with_memory (without_name x.state.cache) x.state) y.outside.shelf x.outside.shelf s [] state still.shelf (forgotten number x.state x.outside.shelf s tn.name stands tn.last none))
        (still_adds x.outside y.outside still)
    by (Some kept) found takes state = answered x y tn.name tn.last kept found state takes.noted takes.answer takes.notes takes.withdraws
