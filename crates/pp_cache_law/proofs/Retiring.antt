-- The row of a key is not known any more, as the law has it.
use Rattle.std.proofs.Common.{◌≡◌, ◌≤◌, refl, sym, subst, ap, ◌∙◌, ℕ, Bool, true, false, not, ◌==◌, ◌&&◌, cond, find, List, Option, Some, None, option_map, arith}
use Rattle.std.specs.Prelude.{bytes_eq, count_by, slice_get}
use Rattle.std.proofs.lemmas.Slice.Eq.{bytes_eq-Decides}
use Rattle.pp_cache.specs.Memory.{Memory, retired_at}
use Rattle.pp_cache.specs.OnDisk.{bytes_of, outdated_by}
use Rattle.pp_holes.specs.Places.{without_owner}
use Rattle.pp_law.specs.Lists.{Bytes, change}
use Rattle.pp_law.specs.State.{State, Entry, Instance as Known}
use Rattle.pp_law.specs.Table.{clear, displaced_by, instance, is_entry_of, is_instance, is_kept_row_of, is_row_of as is_known_row, row, swept}
use Rattle.pp_objects.specs.Changes.{changed_in, given_back_by, retired, retired_from, without_slot}
use Rattle.pp_objects.specs.Instances.{Instance, id_of, in_slot, is_in_slot, is_life, is_row_of, row_of}
use Rattle.pp_target.specs.Name.{name_of}
use Rattle.pp_cache_law.specs.Pairs.{AreBoth}
use Rattle.pp_cache_law.specs.Reads.{IsFound}
use Rattle.pp_cache_law.specs.Retires.{RetiringsAreTheLaws}
use Rattle.pp_cache_law.specs.Tables.{AreFollowed, ShowsChunk, ShowsInstance, ShowsTable, number_in}
use Rattle.pp_cache_law.proofs.Renewing.{changed_there}
use Rattle.pp_cache_law.proofs.Finds.{find_mapped, find_passes, none_changed, one_only}
use Rattle.pp_cache_law.proofs.Followed.{followed-without}
use Rattle.pp_cache_law.proofs.Moves.{changed_alone, changed_if, chunk_stays, in_slot-changed, in_slot-other, kept_by, number_in-changed, without-changed}
use Rattle.pp_cache_law.proofs.Numbers.{is_same, number_of_shown, same_test, some_is, true_false}
use Rattle.pp_cache_law.proofs.PairLemmas.{also, also_none, count_mapped, mapped_only}
use Rattle.pp_cache_law.proofs.Alike.{instances_of, rows_alike, rows_of}
use Rattle.pp_cache_law.proofs.Sweeping.{sweeps_none, sweeps_one}

-- ---- the entry of a key is stale

abbrev pub stale : Entry → Entry
stale e = record e { is_stale = true }

abbrev unless_of : Bytes → Entry → Entry
unless_of key e = elim (is_entry_of key e) [ true ↦ stale e | false ↦ e ]

and_false : (b : Bool) → (b && false) ≡ false
and_false true = refl
and_false false = refl

apart_keys : (k key other : Bytes) → bytes_eq k key ≡ false → bytes_eq other key ≡ true → bytes_eq other k ≡ false
apart_keys k key other isnt is = by (bytes_eq other k) refl
  where
    by : (b : Bool) → bytes_eq other k ≡ b → b ≡ false
    by true e = absurd (true_false (sym (ap (λ (t : Bytes). bytes_eq t key) (sym ((bytes_eq-Decides other k).0 e)) ∙ is) ∙ isnt))
    by false e = refl

still_kept : (k key : Bytes) (e : Entry) → bytes_eq k key ≡ false → is_kept_row_of k (unless_of key e) ≡ is_kept_row_of k e
still_kept k key e apart = by (bytes_eq e.key key) refl
  where
    by : (b : Bool) → bytes_eq e.key key ≡ b → is_kept_row_of k (elim b as (λ c. Entry) [ true ↦ stale e | false ↦ e ]) ≡ is_kept_row_of k e
    by true is = sym (ap (λ (b : Bool). not e.is_stale && b) (apart_keys k key e.key apart is) ∙ and_false (not e.is_stale))
    by false isnt = refl

abbrev bytes_in : Option Entry → ℕ
bytes_in o = elim o [ None ↦ 0 | Some e ↦ e.extent ]

same_bytes : (key : Bytes) (o : Option Entry) → bytes_in (option_map (unless_of key) o) ≡ bytes_in o
same_bytes key None = refl
same_bytes key (Some e) = by (bytes_eq e.key key)
  where
    by : (b : Bool) → (elim b as (λ c. Entry) [ true ↦ stale e | false ↦ e ]).extent ≡ e.extent
    by true = refl
    by false = refl

abbrev extent_in : Bool → Bytes → List Entry → ℕ
extent_in b k es = elim b [ true ↦ 0 | false ↦ bytes_in (find (is_kept_row_of k) es) ]

-- of another key, and of what is retired
stale_extent : (b : Bool) (k key : Bytes) (es : List Entry) → (not b && bytes_eq k key) ≡ false → extent_in b k (change (is_entry_of key) stale es) ≡ extent_in b k es
stale_extent true k key es apart = refl
stale_extent false k key es apart =
    ap (λ (o : Option Entry). bytes_in o) (find_mapped (is_kept_row_of k) (unless_of key) es (λ e. still_kept k key e apart)) ∙ same_bytes key (find (is_kept_row_of k) es)

-- ---- an instance

abbrev pub as_retired : Known → Known
as_retired x = record x { is_retired = true }

abbrev retired_if : Bytes → Known → Known
retired_if key x = elim (is_known_row key x) [ true ↦ as_retired x | false ↦ x ]

none_kept : (b : Bool) (n : ℕ) → cond (b && false) n 0 ≡ 0
none_kept true n = refl
none_kept false n = refl

retired_shows : (number : ℕ → ℕ) (m : Memory) (s : State) (slot : ℕ) (key : Bytes) (i : Instance) (x : Known) (b : Bool) → is_in_slot slot i ≡ b → is_known_row key x ≡ b → ShowsInstance number m s i x
    → ShowsInstance number (record m { instances = changed_in slot retired m.instances })
    (record s { instances = change (is_known_row key) as_retired s.instances; entries = change (is_entry_of key) stale s.entries; displaced = displaced_by key s })
    (cond b (retired i) i) (elim b as (λ c. Known) [ true ↦ as_retired x | false ↦ x ])
retired_shows number m s slot key i x true test law one =
    let there = changed_there slot retired m.instances i true (λ j. refl) test one.there in
    record {
      there = there;
      id = one.id;
      key = one.key;
      version = one.version;
      fields = one.fields;
      times = one.times;
      retired = refl;
      followers = one.followers;
      extent = ap (λ (u : Option Instance). kept_by m i u) there ∙ none_kept (i.life == i.life) (bytes_of (id_of i) (slice_get m.extents i.slot));
      given = one.given;
      made = one.made;
    }
retired_shows number m s slot key i x false test law one =
    let there = changed_there slot retired m.instances i false (λ j. refl) test one.there in
    record {
      there = there;
      id = one.id;
      key = one.key;
      version = one.version;
      fields = one.fields;
      times = one.times;
      retired = one.retired;
      followers = one.followers;
      extent = ap (λ (u : Option Instance). kept_by m i u) there ∙ sym (ap (λ (u : Option Instance). kept_by m i u) one.there) ∙ one.extent ∙ sym (stale_extent x.is_retired x.key key s.entries law);
      given = one.given;
      made = one.made;
    }

-- ---- that the entry is outdated is noted

abbrev noted : Bytes → Memory → Memory
noted key m = record m { outdated = outdated_by (name_of key) m.outdated }

noted_shows : (number : ℕ → ℕ) (m : Memory) (s : State) (key : Bytes) → ShowsTable number m s → ShowsTable number (noted key m) s
noted_shows number m s key shows = record {
  instances = also (ShowsInstance number m s) (ShowsInstance number (noted key m) s) m.instances s.instances same shows.instances;
  chunks = also (ShowsChunk number m) (ShowsChunk number (noted key m)) m.chunks s.chunks (λ c d one. record { owner = one.owner; index = one.index; bytes = one.bytes; some = one.some }) shows.chunks;
  alone = shows.alone;
  apart = shows.apart;
  rows = shows.rows;
  once = shows.once;
  unkept = shows.unkept;
}
  where
    same : (i : Instance) (x : Known) → ShowsInstance number m s i x → ShowsInstance number (noted key m) s i x
    same i x one = record {
      there = one.there;
      id = one.id;
      key = one.key;
      version = one.version;
      fields = one.fields;
      times = one.times;
      retired = one.retired;
      followers = one.followers;
      extent = one.extent;
      given = one.given;
      made = one.made;
    }

-- ---- there is none

not_found : (number : ℕ → ℕ) (m : Memory) (s : State) (key : Bytes) → row s key ≡ None → ShowsTable number m s
    → ShowsTable number m (record s { instances = change (is_known_row key) as_retired s.instances; entries = change (is_entry_of key) stale s.entries; displaced = displaced_by key s })
not_found number m s key none shows =
    subst (λ (xs : List Known). ShowsTable number m (record s { instances = xs; entries = change (is_entry_of key) stale s.entries; displaced = displaced_by key s })) (sym (none_changed (is_known_row key) as_retired s.instances none))
    (record {
      instances =
          also_none (ShowsInstance number m s) (ShowsInstance number m (record s { entries = change (is_entry_of key) stale s.entries; displaced = displaced_by key s })) (is_known_row key) m.instances s.instances same none shows.instances;
      chunks = shows.chunks;
      alone = shows.alone;
      apart = shows.apart;
      rows = shows.rows;
      once = shows.once;
      unkept = shows.unkept;
    })
  where
    same : (i : Instance) (x : Known) → is_known_row key x ≡ false → ShowsInstance number m s i x → ShowsInstance number m (record s { entries = change (is_entry_of key) stale s.entries; displaced = displaced_by key s }) i x
    same i x law one = record {
      there = one.there;
      id = one.id;
      key = one.key;
      version = one.version;
      fields = one.fields;
      times = one.times;
      retired = one.retired;
      followers = one.followers;
      extent = one.extent ∙ sym (stale_extent x.is_retired x.key key s.entries law);
      given = one.given;
      made = one.made;
    }

-- ---- there is one

bools_same : (a b : Bool) → (a ≡ true → b ≡ true) → (b ≡ true → a ≡ true) → a ≡ b
bools_same true true to back = refl
bools_same false false to back = refl
bools_same true false to back = absurd (true_false (sym (to refl)))
bools_same false true to back = absurd (true_false (sym (back refl)))

retired_alike : (number : ℕ → ℕ) (m : Memory) (s : State) (key : Bytes) (i : Instance) → row_of key m.instances ≡ Some i → in_slot i.slot m.instances ≡ Some i → ShowsTable number m s
    → ShowsTable number (record m { instances = changed_in i.slot retired m.instances })
    (record s { instances = change (is_known_row key) as_retired s.instances; entries = change (is_entry_of key) stale s.entries; displaced = displaced_by key s })
retired_alike number m s key i is here shows = record {
  instances =
      mapped_only (ShowsInstance number m s)
      (ShowsInstance number (record m { instances = changed_in i.slot retired m.instances })
      (record s { instances = change (is_known_row key) as_retired s.instances; entries = change (is_entry_of key) stale s.entries; displaced = displaced_by key s }))
      (is_row_of key) i (λ j. cond (is_in_slot i.slot j) (retired j) j) (retired_if key) m.instances s.instances each
      (one_only (is_row_of key) m.instances i (shows.rows key) is) shows.instances;
  chunks =
      also (ShowsChunk number m) (ShowsChunk number (record m { instances = changed_in i.slot retired m.instances })) m.chunks s.chunks
      (λ c d one. chunk_stays number m (changed_in i.slot retired m.instances) m.chunks c d (same c.owner) one) shows.chunks;
  alone = λ k. changed_alone k i.slot retired m.instances (λ j. refl) (shows.alone k);
  apart = λ a b k first second. shows.apart a b k (sym (same a) ∙ first) (sym (same b) ∙ second);
  rows = λ other. fewer other;
  once = shows.once;
  unkept = shows.unkept;
}
  where
    same : (a : ℕ) → number_in number a (changed_in i.slot retired m.instances) ≡ number_in number a m.instances
    same a = number_in-changed number a i.slot retired m.instances (λ j. refl) (λ j. refl)

    alike : (j : Instance) → (is_row_of key j ≡ true → j ≡ i) → in_slot j.slot m.instances ≡ Some j → is_in_slot i.slot j ≡ is_row_of key j
    alike j only there =
        bools_same (is_in_slot i.slot j) (is_row_of key j)
        (λ at. ap (λ (k : Instance). is_row_of key k) (some_is j i (sym there ∙ ap (λ (k : ℕ). in_slot k m.instances) (is_same j.slot i.slot at) ∙ here)) ∙ find_passes (is_row_of key) m.instances i is)
        (λ row. same_test j.slot i.slot (ap (λ (k : Instance). k.slot) (only row)))

    each : (j : Instance) (x : Known) → (is_row_of key j ≡ true → j ≡ i) → ShowsInstance number m s j x
        → ShowsInstance number (record m { instances = changed_in i.slot retired m.instances })
        (record s { instances = change (is_known_row key) as_retired s.instances; entries = change (is_entry_of key) stale s.entries; displaced = displaced_by key s })
        (cond (is_in_slot i.slot j) (retired j) j) (elim (is_known_row key x) as (λ c. Known) [ true ↦ as_retired x | false ↦ x ])
    each j x only one =
        let law : is_in_slot i.slot j ≡ is_known_row key x = alike j only one.there ∙ rows_alike number m s key j x one in
        subst (λ (b : Bool). ShowsInstance number (record m { instances = changed_in i.slot retired m.instances })
        (record s { instances = change (is_known_row key) as_retired s.instances; entries = change (is_entry_of key) stale s.entries; displaced = displaced_by key s })
        (cond (is_in_slot i.slot j) (retired j) j) (elim b as (λ c. Known) [ true ↦ as_retired x | false ↦ x ]))
        law
        (retired_shows number m s i.slot key j x (is_in_slot i.slot j) refl (sym law) one)

    fewer : (other : Bytes) → count_by (is_row_of other) (changed_in i.slot retired m.instances) ≤ 1
    fewer other = omega (arith, count_mapped (is_row_of other) (changed_if i.slot retired) m.instances less, shows.rows other)
      where
        less : (j : Instance) → is_row_of other (changed_if i.slot retired j) ≡ true → is_row_of other j ≡ true
        less j = by (is_in_slot i.slot j)
          where
            by : (b : Bool) → is_row_of other (cond b (retired j) j) ≡ true → is_row_of other j ≡ true
            by true e = absurd cc
            by false e = e

-- ---- whether it is out

retired_here : (is : List Instance) (i : Instance) → in_slot i.slot is ≡ Some i → in_slot i.slot (changed_in i.slot retired is) ≡ Some (retired i)
retired_here is i here =
    in_slot-changed i.slot i.slot retired is (λ j. refl) ∙ ap (λ (u : Option Instance). option_map (changed_if i.slot retired) u) here
    ∙ ap (λ (b : Bool). Some (cond b (retired i) i)) (same_test i.slot i.slot refl)

retired_followed : (is : List Instance) (i : Instance) → in_slot i.slot is ≡ Some i → (i.followers == 0) ≡ false → AreFollowed is → AreFollowed (changed_in i.slot retired is)
retired_followed is i here some needed a j at gone = by (a == i.slot) refl
  where
    by : (b : Bool) → (a == i.slot) ≡ b → (j.followers == 0) ≡ false
    by true is_it =
        ap (λ (k : Instance). k.followers == 0) (some_is j (retired i) (sym at ∙ ap (λ (k : ℕ). in_slot k (changed_in i.slot retired is)) (is_same a i.slot is_it) ∙ retired_here is i here)) ∙ some
    by false isnt = needed a j (sym (in_slot-other a i.slot retired is (λ k. refl) isnt) ∙ at) gone

followed_by : (is : List Instance) (u : Option Instance) → ((i : Instance) → u ≡ Some i → in_slot i.slot is ≡ Some i) → AreFollowed is → AreFollowed (retired_from u is)
followed_by is None here needed = needed
followed_by is (Some i) here needed = by (i.followers == 0) refl
  where
    by : (b : Bool) → (i.followers == 0) ≡ b → AreFollowed (cond b (without_slot i.slot is) (changed_in i.slot retired is))
    by true e = followed-without i.slot is needed
    by false e = retired_followed is i (here i refl) e needed

some_known : (key : Bytes) (n : ℕ) (x : Known) (xs : List Known) → find (is_instance n) xs ≡ Some x → find (is_instance n) (change (is_known_row key) as_retired xs) ≡ Some (retired_if key x)
some_known key n x xs there = find_mapped (is_instance n) (retired_if key) xs same ∙ ap (λ (u : Option Known). option_map (retired_if key) u) there
  where
    by : (b : Bool) (y : Known) → is_instance n (elim b as (λ c. Known) [ true ↦ as_retired y | false ↦ y ]) ≡ is_instance n y
    by true y = refl
    by false y = refl

    same : (y : Known) → is_instance n (retired_if key y) ≡ is_instance n y
    same y = by (is_known_row key y) y

retires_at : (number : ℕ → ℕ) (m : Memory) (s : State) (key : Bytes) (i : Instance) (x y : Known) (b : Bool) → row_of key m.instances ≡ Some i → ShowsInstance number m s i x → instance s x.id ≡ Some y → AreFollowed m.instances → ShowsTable number m s
    → (i.followers == 0) ≡ b
    → ShowsTable number (record m { instances = cond b (without_slot i.slot m.instances) (changed_in i.slot retired m.instances); chunks = cond b (without_owner i.slot m.chunks) m.chunks })
    (swept (record s { instances = change (is_known_row key) as_retired s.instances; entries = change (is_entry_of key) stale s.entries; displaced = displaced_by key s }))
retires_at number m s key i x y true is one there needed shows none =
    subst (λ (js : List Instance). ShowsTable number (record m { instances = js; chunks = without_owner i.slot m.chunks })
    (swept (record s { instances = change (is_known_row key) as_retired s.instances; entries = change (is_entry_of key) stale s.entries; displaced = displaced_by key s })))
    (without-changed i.slot retired m.instances (λ j. refl))
    (sweeps_one number (record m { instances = changed_in i.slot retired m.instances })
    (record s { instances = change (is_known_row key) as_retired s.instances; entries = change (is_entry_of key) stale s.entries; displaced = displaced_by key s }) i.slot x.id (retired i)
    (retired_if key y)
    (retired_alike number m s key i is one.there shows)
    (number_in-changed number i.slot i.slot retired m.instances (λ j. refl) (λ j. refl) ∙ number_of_shown number m s i x one)
    (record {
      here = retired_here m.instances i one.there;
      there = some_known key x.id y s.instances there;
      retired = refl;
      none = none;
      others = λ a j apart at gone. needed a j (sym (in_slot-other a i.slot retired m.instances (λ k. refl) apart) ∙ at) gone;
    }))
retires_at number m s key i x y false is one there needed shows some =
    sweeps_none number (record m { instances = changed_in i.slot retired m.instances })
    (record s { instances = change (is_known_row key) as_retired s.instances; entries = change (is_entry_of key) stale s.entries; displaced = displaced_by key s })
    (retired_alike number m s key i is one.there shows) (retired_followed m.instances i one.there some needed)

instance_known : (number : ℕ → ℕ) (m : Memory) (s : State) (i : Instance) (x : Known) → ShowsTable number m s → ShowsInstance number m s i x → IsFound number m s (id_of i)
instance_known number m s i x shows one = instances_of number m s shows (id_of i) (ap (λ (u : Option Instance). is_life i.life u) one.there ∙ same_test i.life i.life refl)

pub clears_at : (number : ℕ → ℕ) (m : Memory) (s : State) (key : Bytes) → ShowsTable number m s → AreFollowed m.instances → ShowsTable number (retired_at key m) (clear key s)
unfolding retired_at clear
clears_at number m s key shows needed = by (row_of key m.instances) (row s key) refl refl (rows_of number (noted key m) s (noted_shows number m s key shows) key)
  where
    by : (u : Option Instance) (v : Option Known) → row_of key m.instances ≡ u → row s key ≡ v → AreBoth (ShowsInstance number (noted key m) s) u v
        → ShowsTable number (record m { instances = retired_from u m.instances; chunks = given_back_by u m.chunks; outdated = outdated_by (name_of key) m.outdated })
        (swept (record s { instances = change (is_known_row key) as_retired s.instances; entries = change (is_entry_of key) stale s.entries; displaced = displaced_by key s }))
    by None None e f both =
        sweeps_none number (noted key m) (record s { instances = change (is_known_row key) as_retired s.instances; entries = change (is_entry_of key) stale s.entries; displaced = displaced_by key s })
        (not_found number (noted key m) s key f (noted_shows number m s key shows)) needed
    by None (Some x) e f both = absurd both
    by (Some i) None e f both = absurd both
    by (Some i) (Some x) e f both =
        let known : IsFound number (noted key m) s (id_of i) = instance_known number (noted key m) s i x (noted_shows number m s key shows) both in
        retires_at number (noted key m) s key i x known.known (i.followers == 0) e both (ap (λ (n : ℕ). instance s n) (sym both.id) ∙ known.there) needed (noted_shows number m s key shows) refl

-- the row of a key stands in its slot
pub row_here : (number : ℕ → ℕ) (m : Memory) (s : State) (key : Bytes) (i : Instance) → ShowsTable number m s → row_of key m.instances ≡ Some i → in_slot i.slot m.instances ≡ Some i
row_here number m s key i shows is = by (row_of key m.instances) (row s key) is (rows_of number m s shows key)
  where
    none_some : None ≡ Some i → ⊥
    none_some e = absurd cc

    by : (u : Option Instance) (v : Option Known) → u ≡ Some i → AreBoth (ShowsInstance number m s) u v → in_slot i.slot m.instances ≡ Some i
    by None v e both = absurd (none_some e)
    by (Some j) None e both = absurd both
    by (Some j) (Some x) e both = subst (λ (k : Instance). in_slot k.slot m.instances ≡ Some k) (some_is j i e) both.there

pub cleared_followed : (number : ℕ → ℕ) (m : Memory) (s : State) (key : Bytes) → ShowsTable number m s → AreFollowed m.instances → AreFollowed (retired_from (row_of key m.instances) m.instances)
cleared_followed number m s key shows needed = followed_by m.instances (row_of key m.instances) (λ i is. row_here number m s key i shows is) needed

pub retirings_of : RetiringsAreTheLaws
unfolding retired_at clear swept
retirings_of number m s shows key = record {
  table = clears_at number m s key shows.table shows.followed;
  followed = cleared_followed number m s key shows.table shows.followed;
  ahead = shows.ahead;
}
