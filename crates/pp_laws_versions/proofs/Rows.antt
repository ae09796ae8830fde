-- What is done to rows and chunks keeps it.
use Rattle.std.proofs.Common.{◌≡◌, refl, sym, subst, ap, ◌∙◌, ℕ, ◌<◌, ◌≤◌, ◌⊎◌, inl, inr, ap₂, cond, arith, Bool, true, false, not, ◌&&◌, ◌==◌, nat_lt, List, [], ◌∷◌, Option, Some, None, filter, find}
use Rattle.std.specs.List.{list_any}
use Rattle.pp_fresh.specs.declared.aging.Times.{Times}
use Rattle.pp_law.specs.Chunks.{drop_chunk, note_use, put_chunk, use_chunk, is_chunk}
use Rattle.pp_law.specs.Lists.{Bytes, has_text}
use Rattle.pp_law.specs.State.{State, Chunk, Enter, Entry, Instance, Todo}
use Rattle.pp_law.specs.Table.{add_row, clear, enter, extent_of, forget, forget_row, idle_row, is_entry_of, is_instance, is_kept_row_of, is_left_over, is_row_of, kept_row, make_row, mark_row, on_instance, row, row_on_disk, rows, swept, with_room}
use Rattle.pp_laws.proofs.Joins.{put_chunk-given}
use Rattle.pp_laws.proofs.Lists.{differ_change, differ_filter, differ_moved, in_change, in_filter, in_find, same, other, Changed}
use Rattle.pp_laws.proofs.Sound.{instance_id}
use Rattle.pp_laws.proofs.Tests.{same_bytes, same_number}
use Rattle.pp_laws.specs.Runs.{IsIn}
use Rattle.pp_shelf_law.proofs.Shelves.{bytes_by}
use Rattle.pp_text.specs.Fields.{Field}
use Rattle.pp_valid.specs.declared.version.Version.{Version}
use Rattle.pp_laws_versions.proofs.Cases.{each_of, each_so, when}
use Rattle.pp_laws_versions.proofs.Chunks.{Fewer, fewer_filtered, fewer_same, fewer_used, whole_fewer}
use Rattle.pp_laws_versions.proofs.Grown.{row_pushed}
use Rattle.pp_laws_versions.proofs.View.{Closed, FactsOf, Holds, Like, facts_of, few_changed, few_filtered, few_moved, fewer, holds, less_changed, same_entries, with_chunks}

first : (a b : Bool) → (a && b) ≡ true → a ≡ true
first true b is = refl
first false b is = absurd (cc is)

second : (a b : Bool) → (a && b) ≡ true → b ≡ true
second true b is = is
second false b is = absurd (cc is)

isnt : (b : Bool) → not b ≡ true → b ≡ false
isnt true is = absurd (cc is)
isnt false is = refl

-- an entry that may come into memory is there, is not stale, and is of the key
pub kept_there : (s : State) (key : Bytes) (e : Entry) → row_on_disk s key ≡ Some e → IsIn e s.entries × (e.is_stale ≡ false) × (e.key ≡ key)
kept_there s key e is = by (has_text key s.displaced) is
  where
    by : (t : Bool) → (elim t as (λ c. Option Entry) [ true ↦ None | false ↦ kept_row s key ]) ≡ Some e → IsIn e s.entries × (e.is_stale ≡ false) × (e.key ≡ key)
    by true found = absurd (cc found)
    by false found =
        let w = in_find (is_kept_row_of key) e s.entries found in
        (w.0, isnt e.is_stale (first (not e.is_stale) (is_entry_of key e) w.1), same_bytes e.key key (second (not e.is_stale) (is_entry_of key e) w.1))

-- ---- instances

pub on_instance-keeps : {R : Like} (id : ℕ) (f : Instance → Instance) (s : State) → ((x : Instance) → (f x).id ≡ x.id) → ((x : Instance) → (f x).key ≡ x.key) → ((x : Instance) → (f x).version ≡ x.version) → ((x : Instance) → (f x).is_retired ≡ false → x.is_retired ≡ false) → Holds R s → Holds R (on_instance id f s)
unfolding on_instance
on_instance-keeps id f s number key version stood h = holds (fewer s.instances _ s.entries _ s.agenda.todo s.chunks _ s.next_instance (few_changed (is_instance id) f s.instances number key version stood) (same_entries s.entries) (differ_change instance_id (is_instance id) f number s.instances (facts_of h).differ) (fewer_same s.chunks) (λ c i. i) (facts_of h))

pub forget-keeps : {R : Like} (id : ℕ) (s : State) → Holds R s → Holds R (forget id s)
unfolding forget
forget-keeps id s h = holds (fewer s.instances _ s.entries _ s.agenda.todo s.chunks _ s.next_instance (few_filtered (λ x. not (is_instance id x)) s.instances) (same_entries s.entries) (differ_filter instance_id (λ x. not (is_instance id x)) s.instances (facts_of h).differ) (fewer_filtered (λ k j. not (k == id)) s.chunks) (λ c i. (in_filter (λ d. not (d.instance == id)) c s.chunks i).0) (facts_of h))

pub swept-keeps : {R : Like} (s : State) → Holds R s → Holds R (swept s)
unfolding swept
swept-keeps s h = holds (fewer s.instances _ s.entries _ s.agenda.todo s.chunks _ s.next_instance (few_filtered (λ x. not (is_left_over s x)) s.instances) (same_entries s.entries) (differ_filter instance_id (λ x. not (is_left_over s x)) s.instances (facts_of h).differ)
    (fewer_filtered (λ k j. not (list_any (is_instance k) (filter (is_left_over s) s.instances))) s.chunks) (λ c i. (in_filter (λ d. not (list_any (is_instance d.instance) (filter (is_left_over s) s.instances))) c s.chunks i).0) (facts_of h))

pub clear-keeps : {R : Like} (key : Bytes) (s : State) → Holds R s → Holds R (clear key s)
unfolding clear
clear-keeps key s h =
    swept-keeps _ (holds (fewer s.instances _ s.entries _ s.agenda.todo s.chunks _ s.next_instance
    (few_changed (is_row_of key) (λ x. record x { is_retired = true }) s.instances (λ x. refl) (λ x. refl) (λ x. refl) (λ x is. absurd (cc is)))
    (less_changed (is_entry_of key) (λ e. record e { is_stale = true }) s.entries (λ e. refl) (λ e. refl) (λ e. refl) (λ e. refl) (λ e is. absurd (cc is)))
    (differ_change instance_id (is_row_of key) (λ x. record x { is_retired = true }) (λ x. refl) s.instances (facts_of h).differ) (fewer_same s.chunks) (λ c i. i) (facts_of h)))

pub mark_row-keeps : {R : Like} (id : ℕ) (s : State) → Holds R s → Holds R (mark_row id s)
unfolding mark_row
mark_row-keeps id s h = holds (fewer s.instances _ s.entries _ s.agenda.todo s.chunks _ s.next_instance (few_moved (is_instance id) s.instances) (same_entries s.entries) (differ_moved instance_id (is_instance id) s.instances (facts_of h).differ) (fewer_same s.chunks) (λ c i. i) (facts_of h))

forget_row-keeps : {R : Like} (x : Instance) (s : State) → Holds R s → Holds R (forget_row x s)
unfolding forget_row
forget_row-keeps x s h = holds (facts_of (forget-keeps x.id s h))

with_room-keeps : {R : Like} (s : State) → Holds R s → Holds R (with_room s)
unfolding with_room
with_room-keeps s h = when (nat_lt (rows s) 1024) h (each_of (idle_row s) h (λ x. forget_row-keeps x s h))

-- what is on the disk stays as it is
room_leaves : (s : State) → ((with_room s).entries ≡ s.entries) × ((with_room s).agenda.todo ≡ s.agenda.todo)
unfolding with_room forget_row forget
room_leaves s = by (nat_lt (rows s) 1024)
  where
    of : (o : Option Instance) → ((elim o as (λ c. State) [ None ↦ s | Some x ↦ forget_row x s ]).entries ≡ s.entries) × ((elim o as (λ c. State) [ None ↦ s | Some x ↦ forget_row x s ]).agenda.todo ≡ s.agenda.todo)
    of None = (refl, refl)
    of (Some x) = (refl, refl)

    by : (t : Bool) → ((elim t as (λ c. State) [ true ↦ s | false ↦ elim (idle_row s) as (λ c. State) [ None ↦ s | Some x ↦ forget_row x s ] ]).entries ≡ s.entries) × ((elim t as (λ c. State) [ true ↦ s | false ↦ elim (idle_row s) as (λ c. State) [ None ↦ s | Some x ↦ forget_row x s ] ]).agenda.todo ≡ s.agenda.todo)
    by true = (refl, refl)
    by false = of (idle_row s)

add_row-keeps : {R : Like} (key : Bytes) (version : Version) (fields : List Field) (times : Times) (is_new : Bool) (s : State) → ((e : Entry) → IsIn e s.entries → e.is_stale ≡ false → key ≡ e.key → version ≡ e.version) → ((e : Entry) → IsIn (Enter e) s.agenda.todo → key ≡ e.key → version ≡ e.version)
    → Holds R s → Holds R (add_row key version fields times is_new s)
unfolding add_row
add_row-keeps key version fields times is_new s entries waits h = holds (row_pushed new s.instances s.entries s.agenda.todo s.chunks s.next_instance refl entries waits (facts_of h))
  where
    new : Instance
    new = record { id = s.next_instance; key = key; version = version; fields = fields; times = times; is_retired = false; is_new = is_new }

-- no entry of a key that is cleared stands
cleared : (key : Bytes) (s : State) (e : Entry) → IsIn e (clear key s).entries → e.is_stale ≡ false → key ≡ e.key → ⊥
unfolding clear swept
cleared key s e i fresh is = by (in_change (is_entry_of key) (λ d. record d { is_stale = true }) e s.entries i)
  where
    by : Changed (is_entry_of key) (λ d. record d { is_stale = true }) s.entries e → ⊥
    by (same j off) = let both : true ≡ false = sym (bytes_by e.key key (sym is)) ∙ off in cc both
    by (other d j hit eq) = let both : true ≡ false = sym (ap (λ (z : Entry). z.is_stale) eq) ∙ fresh in cc both

-- a response makes a row where nothing is on its way to the disk
pub make_row-keeps : {R : Like} (k0 : Closed R) (key : Bytes) (version : Version) (fields : List Field) (times : Times) (s : State) → Holds R s → Holds R (make_row key version fields times s)
unfolding make_row
make_row-keeps {R} k0 key version fields times s h =
    add_row-keeps key version fields times true _
    (λ e i fresh is. absurd (cleared key s e (subst (λ (es : List Entry). IsIn e es) (room_leaves (clear key s)).0 i) fresh is))
    (λ e i is. absurd (subst (λ (ts : List Todo). IsIn (Enter e) ts) ((facts_of ready).still k0) i)) ready
  where
    ready : Holds R (with_room (clear key s))
    ready = with_room-keeps _ (clear-keeps key s h)

pub enter-keeps : {R : Like} (key : Bytes) (is_new : Bool) (s : State) → Holds R s → Holds R (enter key is_new s)
unfolding enter
enter-keeps {R} key is_new s h = each_of (row s key) (each_so (row_on_disk s key) (λ none. h) (λ e found. entered e found)) (λ x. h)
  where
    entered : (e : Entry) → row_on_disk s key ≡ Some e → Holds R (add_row key e.version e.fields e.times is_new (with_room s))
    entered e found =
        let w = kept_there s key e found in
        add_row-keeps key e.version e.fields e.times is_new _
        (λ d i fresh is. sym (((facts_of h).each e w.0 w.1).kept d (subst (λ (es : List Entry). IsIn d es) (room_leaves s).0 i) fresh (sym is ∙ sym w.2)))
        (λ d i is. ((facts_of h).next d (subst (λ (todo : List Todo). IsIn (Enter d) todo) (room_leaves s).1 i)).kept e w.0 w.1 (w.2 ∙ is)) (with_room-keeps s h)

-- ---- how far entries reach

never_found : (p : Entry → Bool) (e : Entry) (es : List Entry) → IsIn e es → find p es ≡ None → p e ≡ false
never_found p e [] i none = absurd i
never_found p e (d ∷ es) i none = by (p d) refl none i (λ j rest. never_found p e es j rest)
  where
    by : (b : Bool) → p d ≡ b → cond b (Some d) (find p es) ≡ None → (e ≡ d) ⊎ IsIn e es → (IsIn e es → find p es ≡ None → p e ≡ false) → p e ≡ false
    by true is found j rest = absurd (cc found)
    by false is found (inl eq) rest = ap p eq ∙ is
    by false is found (inr j) rest = rest j found

-- the entry that is kept for a row is one of its key, which stands
pub kept_so : (s : State) (key : Bytes) (e : Entry) → kept_row s key ≡ Some e → IsIn e s.entries × (e.is_stale ≡ false) × (e.key ≡ key)
kept_so s key e found =
    let w = in_find (is_kept_row_of key) e s.entries found in
    (w.0, isnt e.is_stale (first (not e.is_stale) (is_entry_of key e) w.1), same_bytes e.key key (second (not e.is_stale) (is_entry_of key e) w.1))

-- each entry of a row that stands reaches as far as the row is kept
pub as_far : {R : Like} (s : State) (x : Instance) (e : Entry) → FactsOf R s → x.is_retired ≡ false → IsIn e s.entries → e.is_stale ≡ false → e.key ≡ x.key → e.extent ≤ extent_of s x
as_far {R} s x e h stands i fresh is = subst (λ (b : Bool). e.extent ≤ (elim b as (λ c. ℕ) [ true ↦ 0 | false ↦ elim (kept_row s x.key) as (λ c. ℕ) [ None ↦ 0 | Some d ↦ d.extent ] ])) (sym stands) (by (kept_row s x.key) refl)
  where
    by : (o : Option Entry) → kept_row s x.key ≡ o → e.extent ≤ (elim o as (λ c. ℕ) [ None ↦ 0 | Some d ↦ d.extent ])
    by (Some d) found = (let w = kept_so s x.key d found in omega (arith, h.once e d i w.0 fresh w.1 (is ∙ sym w.2)))
    by None none = absurd (let both : true ≡ false = sym (ap₂ (λ (a b : Bool). not a && b) fresh (bytes_by e.key x.key is)) ∙ never_found (is_kept_row_of x.key) e s.entries i none in cc both)

-- ---- chunks

chunks_fewer : {R : Like} (s : State) (cs : List Chunk) → Fewer s.chunks cs → ((c : Chunk) → IsIn c cs → c.instance < s.next_instance) → FactsOf R s → FactsOf R (record s { chunks = cs })
chunks_fewer s cs chunks given h = with_chunks s.instances s.entries s.agenda.todo s.chunks cs s.next_instance (λ x stands extent was. whole_fewer x.version.length x.id extent s.chunks cs chunks was) given h

pub use_chunk-keeps : {R : Like} (id i : ℕ) (s : State) → Holds R s → Holds R (use_chunk id i s)
unfolding use_chunk
use_chunk-keeps {R} id i s h = each_so (find (is_chunk id i) s.chunks) (λ none. h) (λ c found. used c found)
  where
    used : (c : Chunk) → find (is_chunk id i) s.chunks ≡ Some c → Holds R (record s { chunks = put_chunk id i c.bytes s.chunks })
    used c found = holds (chunks_fewer s (put_chunk id i c.bytes s.chunks) (fewer_used id i c s.chunks found) (put_chunk-given s.next_instance id i c.bytes s.chunks its (facts_of h).chunks_given) (facts_of h))
      where
        at : IsIn c s.chunks × (is_chunk id i c ≡ true)
        at = in_find (is_chunk id i) c s.chunks found

        its : id < s.next_instance
        its = subst (λ (n : ℕ). n < s.next_instance) (same_number c.instance id (first (c.instance == id) (c.index == i) at.1)) ((facts_of h).chunks_given c at.0)

pub drop_chunk-keeps : {R : Like} (id i : ℕ) (s : State) → Holds R s → Holds R (drop_chunk id i s)
unfolding drop_chunk
drop_chunk-keeps id i s h = holds (chunks_fewer s _ (fewer_filtered (λ k j. not ((k == id) && (j == i))) s.chunks) (λ c j. (facts_of h).chunks_given c (in_filter (λ d. not (is_chunk id i d)) c s.chunks j).0) (facts_of h))

pub note_use-keeps : {R : Like} (s : State) → Holds R s → Holds R (note_use s)
unfolding note_use
note_use-keeps s h = holds (facts_of h)
