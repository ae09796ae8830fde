-- What is noted of the disk is noted as the law has it.
use Rattle.std.proofs.Common.{◌≡◌, ◌<◌, ◌≤◌, inl, inr, refl, sym, subst, ap, ◌∙◌, ℕ, Bool, true, false, not, ◌==◌, ◌&&◌, cond, find, List, [], ◌∷◌, ◌++◌, length, Option, Some, None, option_map, arith}
use Rattle.std.specs.Prelude.{bytes_eq, count_by, slice_get}
use Rattle.std.proofs.lemmas.Slice.Eq.{bytes_eq-Decides}
use Rattle.pp_cache.specs.Memory.{Memory, is_row_in}
use Rattle.pp_cache.specs.OnDisk.{bytes_of, kept_to}
use Rattle.pp_cache.specs.declared.extents.Extent.{Extent}
use Rattle.pp_law.specs.Lists.{Bytes, change, without as law_without}
use Rattle.pp_law.specs.State.{State, Entry, Instance as Known, Chunk as Front, Todo, Do, Enter, Acknowledge}
use Rattle.pp_law.specs.Store.{enter_next, extended, left_todo, note_gone, note_kept, remove_entry}
use Rattle.pp_law.specs.Table.{follows, is_entry_of, is_kept_row_of, is_row_of as is_known_row, kept_row, row}
use Rattle.pp_objects.specs.Instances.{Instance, id_of, in_slot, is_in_slot, is_life, is_row_of}
use Rattle.pp_objects.specs.declared.id.ObjectId.{ObjectId}
use Rattle.pp_cache_law.specs.Notes.{DraftsAreTheLaws, IsRowThere, KeepingsAreTheLaws, LossesAreTheLaws, RemovalsAreTheLaws}
use Rattle.pp_cache_law.specs.Pairs.{AreAll}
use Rattle.pp_cache_law.specs.Reads.{IsFound}
use Rattle.pp_cache_law.specs.Tables.{ShowsCache, ShowsChunk, ShowsInstance, ShowsTable}
use Rattle.pp_cache_law.proofs.Alike.{instances_of}
use Rattle.pp_cache_law.proofs.Extents.{its_kept, later_kept, others_kept}
use Rattle.pp_cache_law.proofs.Finds.{find_joined, find_kept, find_mapped, find_out, find_passes, first_of_two, only_found}
use Rattle.pp_cache_law.proofs.Framing.{frames_of, the_same}
use Rattle.pp_cache_law.proofs.Numbers.{is_same, same_test, some_is, true_false}
use Rattle.pp_cache_law.proofs.PairLemmas.{also, also_none, also_only}

-- ---- how far a row is kept

abbrev kept_bytes : Option Entry → ℕ
kept_bytes o = elim o as (λ b. ℕ) [ None ↦ 0 | Some e ↦ e.extent ]

-- so much of this key is kept, and of the others what was
record IsKeptTo (key : Bytes) (n : ℕ) (s t : State) : Type 0 where
  pub instances : t.instances ≡ s.instances
  pub made : t.next_instance ≡ s.next_instance
  pub chunks : t.chunks ≡ s.chunks
  pub followers : (k : ℕ) → count_by (follows k) t.clients ≡ count_by (follows k) s.clients
  pub own : kept_bytes (kept_row t key) ≡ n
  pub others : (k : Bytes) → bytes_eq k key ≡ false → kept_bytes (kept_row t k) ≡ kept_bytes (kept_row s k)

abbrev extent_by : State → Bool → Bytes → ℕ
extent_by s b key = elim b as (λ c. ℕ) [ true ↦ 0 | false ↦ kept_bytes (kept_row s key) ]

abbrev after_m : Memory → Instance → ℕ → Memory
after_m m i n = record m { extents = kept_to (id_of i) n m.extents }

-- how far one is kept that stands in its slot
kept_there : (m : Memory) (es : List Extent) (i : Instance) → in_slot i.slot m.instances ≡ Some i
    → cond (is_life i.life (in_slot i.slot m.instances) && is_row_in (in_slot i.slot m.instances)) (bytes_of (id_of i) (slice_get es i.slot)) 0 ≡ cond (not i.is_retired) (bytes_of (id_of i) (slice_get es i.slot)) 0
kept_there m es i there =
    ap (λ (u : Option Instance). cond (is_life i.life u && is_row_in u) (bytes_of (id_of i) (slice_get es i.slot)) 0) there
    ∙ ap (λ (b : Bool). cond (b && not i.is_retired) (bytes_of (id_of i) (slice_get es i.slot)) 0) (same_test i.life i.life refl)

its_extent : (number : ℕ → ℕ) (m : Memory) (s t : State) (i : Instance) (x y : Known) (n : ℕ) → ShowsInstance number m s i x → x.is_retired ≡ false → i.slot < length m.extents → kept_bytes (kept_row t x.key) ≡ n → ShowsInstance number m s i y
    → cond (is_life i.life (in_slot i.slot m.instances) && is_row_in (in_slot i.slot m.instances)) (bytes_of (id_of i) (slice_get (kept_to (id_of i) n m.extents) i.slot)) 0 ≡ extent_by t y.is_retired y.key
its_extent number m s t i x y n shown row within own one =
    kept_there m (kept_to (id_of i) n m.extents) i one.there
    ∙ ap (λ (b : Bool). cond (not b) (bytes_of (id_of i) (slice_get (kept_to (id_of i) n m.extents) i.slot)) 0) (shown.retired ∙ row)
    ∙ its_kept (id_of i) n m.extents within ∙ sym own
    ∙ ap (λ (k : Bytes). extent_by t false k) (sym shown.key ∙ one.key)
    ∙ ap (λ (b : Bool). extent_by t b y.key) (sym (shown.retired ∙ row) ∙ one.retired)

others_extent : (number : ℕ → ℕ) (m : Memory) (s t : State) (i j : Instance) (key : Bytes) (y : Known) (n : ℕ) → IsKeptTo key n s t → (j.slot == i.slot) ≡ false → (is_row_of key j ≡ true → j ≡ i) → ShowsInstance number m s j y
    → cond (is_life j.life (in_slot j.slot m.instances) && is_row_in (in_slot j.slot m.instances)) (bytes_of (id_of j) (slice_get (kept_to (id_of i) n m.extents) j.slot)) 0 ≡ extent_by t y.is_retired y.key
others_extent number m s t i j key y n keeps apart only one =
    ap (λ (k : ℕ). cond (is_life j.life (in_slot j.slot m.instances) && is_row_in (in_slot j.slot m.instances)) k 0) (others_kept (id_of i) (id_of j) n m.extents apart)
    ∙ one.extent ∙ by y.is_retired one.retired
  where
    other_key : j.is_retired ≡ false → (b : Bool) → bytes_eq y.key key ≡ b → b ≡ false
    other_key row true e =
        let is : is_row_of key j ≡ true = ap (λ (b : Bool). not b && bytes_eq j.key key) row ∙ ap (λ (k : Bytes). bytes_eq k key) one.key ∙ e in
        absurd (true_false (sym (same_test j.slot i.slot (ap (λ (k : Instance). k.slot) (only is))) ∙ apart))
    other_key row false e = refl

    by : (b : Bool) → j.is_retired ≡ b → extent_by s b y.key ≡ extent_by t b y.key
    by true e = refl
    by false e = sym (keeps.others y.key (other_key e (bytes_eq y.key key) refl))

keeps_at : (number : ℕ → ℕ) (m : Memory) (s t : State) (i : Instance) (x : Known) (n : ℕ) → ShowsTable number m s → ShowsInstance number m s i x → x.is_retired ≡ false → i.slot < length m.extents → IsKeptTo x.key n s t
    → ShowsTable number (after_m m i n) t
keeps_at number m s t i x n shows shown row within keeps = record {
  instances =
      subst (λ (ys : List Known). AreAll (ShowsInstance number (after_m m i n) t) m.instances ys) (sym keeps.instances)
      (also_only (ShowsInstance number m s) (ShowsInstance number (after_m m i n) t) (is_row_of x.key) i m.instances s.instances each
      (only_found (is_row_of x.key) (is_in_slot i.slot) m.instances i shown.there is_row (shows.rows x.key)) shows.instances);
  chunks =
      subst (λ (ds : List Front). AreAll (ShowsChunk number (after_m m i n)) m.chunks ds) (sym keeps.chunks)
      (also (ShowsChunk number m) (ShowsChunk number (after_m m i n)) m.chunks s.chunks (λ c d one. record { owner = one.owner; index = one.index; bytes = one.bytes; some = one.some }) shows.chunks);
  alone = shows.alone;
  apart = shows.apart;
  rows = shows.rows;
  once = shows.once;
  unkept = λ other more. later_kept (id_of i) other n m.extents within (less shown.given more) (shows.unkept other more);
}
  where
    less : {a b c : ℕ} → a < b → b ≤ c → a < c
    less e f = omega (arith, e, f)

    same : (xs ys : Bytes) → xs ≡ ys → bytes_eq xs ys ≡ true
    same xs ys e = (bytes_eq-Decides xs ys).1 e

    is_row : is_row_of x.key i ≡ true
    is_row = ap (λ (b : Bool). not b && bytes_eq i.key x.key) (shown.retired ∙ row) ∙ same i.key x.key shown.key

    each : (j : Instance) (y : Known) → (is_row_of x.key j ≡ true → j ≡ i) → ShowsInstance number m s j y → ShowsInstance number (after_m m i n) t j y
    each j y only one = record {
      there = one.there;
      id = one.id;
      key = one.key;
      version = one.version;
      fields = one.fields;
      times = one.times;
      retired = one.retired;
      followers = one.followers ∙ sym (keeps.followers y.id);
      extent = by (j.slot == i.slot) refl;
      given = one.given;
      made = subst (λ (k : ℕ). y.id < k) (sym keeps.made) one.made;
    }
      where
        by : (b : Bool) → (j.slot == i.slot) ≡ b
            → cond (is_life j.life (in_slot j.slot m.instances) && is_row_in (in_slot j.slot m.instances)) (bytes_of (id_of j) (slice_get (kept_to (id_of i) n m.extents) j.slot)) 0 ≡ extent_by t y.is_retired y.key
        by true e =
            let is : j ≡ i = some_is j i (sym one.there ∙ ap (λ (k : ℕ). in_slot k m.instances) (is_same j.slot i.slot e) ∙ shown.there) in
            ap (λ (k : Instance). cond (is_life k.life (in_slot k.slot m.instances) && is_row_in (in_slot k.slot m.instances)) (bytes_of (id_of k) (slice_get (kept_to (id_of i) n m.extents) k.slot)) 0) is
            ∙ its_extent number m s t i x y n shown row within keeps.own (subst (λ (k : Instance). ShowsInstance number m s k y) is one)
        by false e = others_extent number m s t i j x.key y n keeps e only one

-- of the row of an id
keeps_to : (number : ℕ → ℕ) (m : Memory) (s t : State) (id : ObjectId) (x : Known) (n : ℕ) → ShowsCache number m s → IsRowThere number m s id x → IsKeptTo x.key n s t → ShowsCache number (record m { extents = kept_to id n m.extents }) t
keeps_to number m s t id x n shows row keeps = record {
  table =
      subst (λ (other : ObjectId). ShowsTable number (record m { extents = kept_to other n m.extents }) t) one.same
      (keeps_at number m s t one.seen x n shows.table shown row.row (subst (λ (other : ObjectId). other.slot < length m.extents) (sym one.same) row.slot) keeps);
  followed = shows.followed;
  ahead = λ k more. keeps.followers k ∙ shows.ahead k (subst (λ (j : ℕ). j ≤ k) keeps.made more);
}
  where
    one : IsFound number m s id
    one = instances_of number m s shows.table id row.there

    shown : ShowsInstance number m s one.seen x
    shown = subst (λ (y : Known). ShowsInstance number m s one.seen y) (some_is one.known x (sym one.there ∙ row.known)) one.shows

-- ---- keys

apart_keys : (k key other : Bytes) → bytes_eq k key ≡ false → bytes_eq other k ≡ true → bytes_eq other key ≡ false
apart_keys k key other isnt is = ap (λ (t : Bytes). bytes_eq t key) ((bytes_eq-Decides other k).0 is) ∙ isnt

second_of : (a b : Bool) → (a && b) ≡ true → b ≡ true
second_of true b e = e
second_of false b e = absurd cc

and_false : (b : Bool) → (b && false) ≡ false
and_false true = refl
and_false false = refl

none_some : (e : Entry) → None ≡ Some e → ⊥
none_some e f = absurd cc

-- ---- it is kept so far

abbrev extended_if : Bytes → ℕ → Entry → Entry
extended_if key n e = elim (is_kept_row_of key e) as (λ c. Entry) [ true ↦ extended n e | false ↦ e ]

same_row : (k key : Bytes) (n : ℕ) (e : Entry) → is_kept_row_of k (extended_if key n e) ≡ is_kept_row_of k e
same_row k key n e = by (is_kept_row_of key e)
  where
    by : (b : Bool) → is_kept_row_of k (elim b as (λ c. Entry) [ true ↦ extended n e | false ↦ e ]) ≡ is_kept_row_of k e
    by true = refl
    by false = refl

extended_found : (k key : Bytes) (n : ℕ) (es : List Entry) → find (is_kept_row_of k) (change (is_kept_row_of key) (extended n) es) ≡ option_map (extended_if key n) (find (is_kept_row_of k) es)
extended_found k key n es = find_mapped (is_kept_row_of k) (extended_if key n) es (λ e. same_row k key n e)

extended_own : (key : Bytes) (n : ℕ) (es : List Entry) (e : Entry) → find (is_kept_row_of key) es ≡ Some e → kept_bytes (find (is_kept_row_of key) (change (is_kept_row_of key) (extended n) es)) ≡ n
extended_own key n es e kept =
    ap (λ (o : Option Entry). kept_bytes o) (extended_found key key n es ∙ ap (λ (o : Option Entry). option_map (extended_if key n) o) kept)
    ∙ ap (λ (b : Bool). (elim b as (λ c. Entry) [ true ↦ extended n e | false ↦ e ]).extent) (find_passes (is_kept_row_of key) es e kept)

extended_other : (k key : Bytes) (n : ℕ) (es : List Entry) → bytes_eq k key ≡ false → kept_bytes (find (is_kept_row_of k) (change (is_kept_row_of key) (extended n) es)) ≡ kept_bytes (find (is_kept_row_of k) es)
extended_other k key n es apart = ap (λ (o : Option Entry). kept_bytes o) (extended_found k key n es) ∙ by (find (is_kept_row_of k) es) refl
  where
    by : (o : Option Entry) → find (is_kept_row_of k) es ≡ o → kept_bytes (option_map (extended_if key n) o) ≡ kept_bytes o
    by None f = refl
    by (Some e) f =
        ap (λ (b : Bool). (elim (not e.is_stale && b) as (λ c. Entry) [ true ↦ extended n e | false ↦ e ]).extent)
        (apart_keys k key e.key apart (second_of (not e.is_stale) (bytes_eq e.key k) (find_passes (is_kept_row_of k) es e f)))
        ∙ ap (λ (b : Bool). (elim b as (λ c. Entry) [ true ↦ extended n e | false ↦ e ]).extent) (and_false (not e.is_stale))

pub keepings_of : KeepingsAreTheLaws
unfolding note_kept
keepings_of number m s shows id x e extent row kept = keeps_to number m s (note_kept x.key extent s) id x extent shows row (record {
  instances = refl;
  made = refl;
  chunks = refl;
  followers = λ k. refl;
  own = extended_own x.key extent s.entries e kept;
  others = λ k apart. extended_other k x.key extent s.entries apart;
})

-- ---- an entry is there

one_there : (key : Bytes) (e : Entry) → e.key ≡ key → e.is_stale ≡ false → find (is_kept_row_of key) (e ∷ []) ≡ Some e
one_there key e is stands =
    ap (λ (b : Bool). cond (not b && bytes_eq e.key key) (Some e) None) stands ∙ ap (λ (b : Bool). cond b (Some e) None) ((bytes_eq-Decides e.key key).1 is)

not_there : (k key : Bytes) (e : Entry) → e.key ≡ key → bytes_eq k key ≡ false → find (is_kept_row_of k) (e ∷ []) ≡ None
not_there k key e is apart = ap (λ (b : Bool). cond (not e.is_stale && b) (Some e) None) (isnt (bytes_eq e.key k) refl) ∙ ap (λ (b : Bool). cond b (Some e) None) (and_false (not e.is_stale))
  where
    isnt : (b : Bool) → bytes_eq e.key k ≡ b → b ≡ false
    isnt true f = absurd (true_false (sym ((bytes_eq-Decides e.key key).1 is) ∙ apart_keys k key e.key apart f))
    isnt false f = refl

or_none : (o : Option Entry) → first_of_two o None ≡ o
or_none None = refl
or_none (Some e) = refl

pub drafts_of : DraftsAreTheLaws
unfolding enter_next
drafts_of number m s shows id x e todo row due is stands none =
    subst (λ (todo : List Todo). ShowsCache number (record m { extents = kept_to id e.extent m.extents }) (elim todo as (λ c. State) [
      | [] ↦ s
      | next ∷ todo ↦ elim next as (λ c. State) [
        | Do op ↦ s
        | Acknowledge key tag n extent ↦ s
        | Enter e ↦ left_todo todo (record s { entries = s.entries ++ e ∷ [] })
      ]
    ])) (sym due)
    (keeps_to number m s (left_todo todo (record s { entries = s.entries ++ e ∷ [] })) id x e.extent shows row (record {
      instances = refl;
      made = refl;
      chunks = refl;
      followers = λ k. refl;
      own =
          ap (λ (o : Option Entry). kept_bytes o)
          (find_joined (is_kept_row_of x.key) s.entries (e ∷ []) ∙ ap (λ (o : Option Entry). first_of_two o (find (is_kept_row_of x.key) (e ∷ []))) none ∙ one_there x.key e is stands);
      others = λ k apart.
          ap (λ (o : Option Entry). kept_bytes o)
          (find_joined (is_kept_row_of k) s.entries (e ∷ []) ∙ ap (λ (o : Option Entry). first_of_two (find (is_kept_row_of k) s.entries) o) (not_there k x.key e is apart) ∙ or_none (find (is_kept_row_of k) s.entries));
    }))

-- ---- an entry is gone

gone_own : (key : Bytes) (es : List Entry) → find (is_kept_row_of key) (law_without (is_entry_of key) es) ≡ None
gone_own key es = find_out (is_kept_row_of key) (λ e. not (is_entry_of key e)) es (λ e out. ap (λ (b : Bool). not e.is_stale && b) (isnt (is_entry_of key e) out) ∙ and_false (not e.is_stale))
  where
    isnt : (b : Bool) → not b ≡ true → b ≡ false
    isnt true f = absurd cc
    isnt false f = refl

gone_other : (k key : Bytes) (es : List Entry) → bytes_eq k key ≡ false → find (is_kept_row_of k) (law_without (is_entry_of key) es) ≡ find (is_kept_row_of k) es
gone_other k key es apart =
    find_kept (is_kept_row_of k) (λ e. not (is_entry_of key e)) es (λ e is. ap (λ (b : Bool). not b) (apart_keys k key e.key apart (second_of (not e.is_stale) (bytes_eq e.key k) is)))

none_kept : (key : Bytes) (es : List Entry) → find (is_entry_of key) es ≡ None → find (is_kept_row_of key) es ≡ None
none_kept key [] none = refl
none_kept key (e ∷ es) none = by (bytes_eq e.key key) (λ f. none_kept key es f) none
  where
    by : (b : Bool) → (find (is_entry_of key) es ≡ None → find (is_kept_row_of key) es ≡ None) → cond b (Some e) (find (is_entry_of key) es) ≡ None → cond (not e.is_stale && b) (Some e) (find (is_kept_row_of key) es) ≡ None
    by true rest f = absurd (none_some e (sym f))
    by false rest f = ap (λ (b : Bool). cond b (Some e) (find (is_kept_row_of key) es)) (and_false (not e.is_stale)) ∙ rest f

gone_to : (s : State) (key : Bytes) → IsKeptTo key 0 s (note_gone key s)
unfolding note_gone remove_entry
gone_to s key = by (find (is_entry_of key) s.entries) refl
  where
    by : (o : Option Entry) → find (is_entry_of key) s.entries ≡ o → IsKeptTo key 0 s (elim o as (λ c. State) [ None ↦ s | Some e ↦ remove_entry e s ])
    by None f = record {
      instances = refl;
      made = refl;
      chunks = refl;
      followers = λ k. refl;
      own = ap (λ (o : Option Entry). kept_bytes o) (none_kept key s.entries f);
      others = λ k apart. refl;
    }
    by (Some e) f =
        let is : e.key ≡ key = (bytes_eq-Decides e.key key).0 (find_passes (is_entry_of key) s.entries e f) in
        record {
          instances = refl;
          made = refl;
          chunks = refl;
          followers = λ k. refl;
          own = ap (λ (o : Option Entry). kept_bytes o) (ap (λ (k : Bytes). find (is_kept_row_of key) (law_without (is_entry_of k) s.entries)) is ∙ gone_own key s.entries);
          others = λ k apart. ap (λ (o : Option Entry). kept_bytes o) (ap (λ (j : Bytes). find (is_kept_row_of k) (law_without (is_entry_of j) s.entries)) is ∙ gone_other k key s.entries apart);
        }

pub losses_of : LossesAreTheLaws
losses_of number m s shows id x row = keeps_to number m s (note_gone x.key s) id x 0 shows row (gone_to s x.key)

-- of which no row is in memory
gone_unseen : (number : ℕ → ℕ) (m : Memory) (s : State) (key : Bytes) → ShowsCache number m s → row s key ≡ None → ShowsCache number m (note_gone key s)
gone_unseen number m s key shows none = record {
  table = record {
    instances =
        subst (λ (ys : List Known). AreAll (ShowsInstance number m (note_gone key s)) m.instances ys) (sym gone.instances)
        (also_none (ShowsInstance number m s) (ShowsInstance number m (note_gone key s)) (is_known_row key) m.instances s.instances each none shows.table.instances);
    chunks = subst (λ (ds : List Front). AreAll (ShowsChunk number m) m.chunks ds) (sym gone.chunks) shows.table.chunks;
    alone = shows.table.alone;
    apart = shows.table.apart;
    rows = shows.table.rows;
    once = shows.table.once;
    unkept = shows.table.unkept;
  };
  followed = shows.followed;
  ahead = λ k more. gone.followers k ∙ shows.ahead k (subst (λ (j : ℕ). j ≤ k) gone.made more);
}
  where
    gone : IsKeptTo key 0 s (note_gone key s)
    gone = gone_to s key

    each : (i : Instance) (y : Known) → is_known_row key y ≡ false → ShowsInstance number m s i y → ShowsInstance number m (note_gone key s) i y
    each i y isnt one = record {
      there = one.there;
      id = one.id;
      key = one.key;
      version = one.version;
      fields = one.fields;
      times = one.times;
      retired = one.retired;
      followers = one.followers ∙ sym (gone.followers y.id);
      extent = one.extent ∙ sym (by y.is_retired isnt);
      given = one.given;
      made = subst (λ (k : ℕ). y.id < k) (sym gone.made) one.made;
    }
      where
        by : (b : Bool) → (not b && bytes_eq y.key key) ≡ false → extent_by (note_gone key s) b y.key ≡ extent_by s b y.key
        by true e = refl
        by false e = gone.others y.key e

gone_stale : (number : ℕ → ℕ) (m : Memory) (s : State) (key : Bytes) → ShowsCache number m s → kept_row s key ≡ None → ShowsCache number m (note_gone key s)
gone_stale number m s key shows none = frames_of number m s shows m (note_gone key s) (record { instances = refl; lives = refl; chunks = refl; extents = refl }) (record {
  instances = gone.instances;
  made = subst (λ (n : ℕ). s.next_instance ≤ n) (sym gone.made) (the_same s.next_instance);
  chunks = gone.chunks;
  followers = gone.followers;
  kept = λ y. by y.is_retired y.key;
})
  where
    gone : IsKeptTo key 0 s (note_gone key s)
    gone = gone_to s key

    same : (k : Bytes) (b : Bool) → bytes_eq k key ≡ b → kept_bytes (kept_row (note_gone key s) k) ≡ kept_bytes (kept_row s k)
    same k true e =
        let is : k ≡ key = (bytes_eq-Decides k key).0 e in
        ap (λ (j : Bytes). kept_bytes (kept_row (note_gone key s) j)) is ∙ gone.own ∙ sym (ap (λ (j : Bytes). kept_bytes (kept_row s j)) is ∙ ap (λ (o : Option Entry). kept_bytes o) none)
    same k false e = gone.others k e

    by : (b : Bool) (k : Bytes) → extent_by (note_gone key s) b k ≡ extent_by s b k
    by true k = refl
    by false k = same k (bytes_eq k key) refl

pub removals_of : RemovalsAreTheLaws
removals_of number m s shows key (inl none) = gone_stale number m s key shows none
removals_of number m s shows key (inr none) = gone_unseen number m s key shows none
