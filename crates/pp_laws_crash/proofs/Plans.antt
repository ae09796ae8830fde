-- What may be begun on a name: at each step a crash leaves only what was sent.
use Rattle.std.proofs.Common.{◌≡◌, ⊎_elim, refl, ℕ, ◌+◌, ◌*◌, ◌<◌, Bool, true, false, ◌&&◌, ◌||◌, not, List, [], ◌∷◌, ◌++◌, length, take, replicate, Some, None, inl, inr, sym, subst, ap, ◌∙◌, arith}
use Rattle.std.specs.Prelude.{min, max}
use Rattle.pp_entry.specs.Entries.{Row, row_at}
use Rattle.pp_entry.specs.Texts.{body_at, chunks_of}
use Rattle.pp_gate.specs.Files.{body, whole_file}
use Rattle.pp_gate.specs.Runs.{During}
use Rattle.pp_gate.specs.Seal.{IsFront, IsHonest, IsKept, IsRun, KeepsIn, seal_ops}
use Rattle.pp_gate.proofs.Ops.{AllLeft, IsOldOr, published, published_slot, removed}
use Rattle.pp_gate.proofs.SealLemmas.{seal_done, seal_during}
use Rattle.pp_gate.proofs.Views.{done_view}
use Rattle.pp_gate.proofs.WholeLemmas.{whole_holds, whole_honest, whole_kept}
use Rattle.pp_world.specs.Disk.{View, Stored, settled, began, done}
use Rattle.pp_world.specs.declared.op.DiskOp.{DiskOp}
use Rattle.pp_world.specs.declared.op.DiskOp.TheVariants.{Draft, SyncDraft, Publish, Write, Sync, Remove}
use Rattle.pp_law.specs.Lists.{Bytes}
use Rattle.pp_law.specs.State.{Sent, Entry, Todo, Do, Enter, Acknowledge}
use Rattle.pp_law.specs.Store.{is_of_draft, extended}
use Rattle.pp_law.specs.Table.{is_entry_of, is_kept_row_of}
use Rattle.pp_laws.specs.Runs.{IsIn}
use Rattle.pp_laws.proofs.Lists.{Changed, in_change, in_push, other, same}
use Rattle.pp_laws.proofs.Tests.{second_holds}
use Rattle.pp_laws_crash.proofs.Backing.{Backed, BackedAt, claimed, honest_backed}
use Rattle.pp_laws_crash.proofs.Going.{Ahead, Along, IfRecovers, Rests, entries_after, ops_of}
use Rattle.pp_laws_crash.proofs.Lying.{Held, len_of}
use Rattle.pp_laws_crash.proofs.Views.{during_map, left_map, name_same, same_name}

-- ---- one file stands under a name

pub one_slot : (a b : Bytes) → Some (settled a) ∷ [] ≡ Some (settled b) ∷ [] → a ≡ b
unfolding settled
one_slot a b is = let same : settled a ≡ settled b = cc is in ap (λ (f : Stored). f.bytes) same

-- so what stands there of two entries is the same
pub record AreOne (e d : Entry) : Type 0 where
  pub key : d.key ≡ e.key
  pub version : d.version ≡ e.version

pub are_one : {sent : List Sent} {recovers : Bool} {v : View} → (e d : Entry) → Held sent recovers e v → Held sent recovers d v → AreOne e d
are_one e d h k =
    let bytes : k.bytes ≡ h.bytes = one_slot k.bytes h.bytes (sym k.slot ∙ h.slot) in
    let block : k.lies.block ≡ h.lies.block = sym k.lies.head ∙ ap (take 8192) bytes ∙ h.lies.head in
    let some : Some k.lies.row ≡ Some h.lies.row = sym k.lies.reads ∙ ap row_at block ∙ h.lies.reads in
    let row : k.lies.row ≡ h.lies.row = cc some in
    record { key = sym k.lies.key ∙ ap (λ (r : Row). r.key) row ∙ h.lies.key; version = sym k.lies.version ∙ ap (λ (r : Row). r.version) row ∙ h.lies.version }

-- an entry whose gates are open so far, and no others
pub kept_held : {sent : List Sent} {recovers : Bool} {v : View} → (d : Entry) (block : Bytes) (row : Row) (gates : ℕ) → row_at block ≡ Some row → row.key ≡ d.key → row.version ≡ d.version → (d.is_stale ≡ false → d.extent ≡ min (len_of d) (4096 * gates))
    → KeepsIn (claimed sent) block (len_of d) gates v → Held sent recovers d v
kept_held d block row gates reads key version extent k = record {
  gates = gates;
  bytes = k.bytes;
  slot = k.slot;
  lies = record {
    block = block;
    row = row;
    reads = reads;
    key = key;
    version = version;
    head = k.kept.head;
    is_open = k.kept.is_open;
    shut_next = λ lt. k.kept.is_closed gates (omega arith) lt;
    within = k.kept.within;
    long = k.kept.long;
    short = k.kept.short;
    holds = k.holds;
    extent = extent;
  };
  shut = λ r i le lt. k.kept.is_closed i le lt;
}

pub held_kept : {sent : List Sent} {v : View} → (e : Entry) → (h : Held sent false e v) → IsKept h.lies.block (len_of e) h.gates h.bytes
held_kept e h = record { head = h.lies.head; is_open = h.lies.is_open; is_closed = λ i le lt. h.shut refl i le lt; within = h.lies.within; long = h.lies.long; short = h.lies.short }

-- ---- operations none of which is of a draft

abbrev pub AllPlain : List DiskOp → Type 0
AllPlain [] = Unit {0}
AllPlain (op ∷ ops) = (is_of_draft op ≡ false) × AllPlain ops

pub along_plain : (sent : List Sent) (entries : List Entry) (name : Bytes) (P : View → Type 0) (v : View) (ops : List DiskOp) → AllPlain ops → Along name v ops P (IfRecovers sent false entries name)
along_plain sent entries name P v [] plain = λ r. absurd (cc r)
along_plain sent entries name P v (op ∷ ops) plain = (
  (λ r. absurd (cc r)),
  (λ is. let both : true ≡ false = sym is ∙ plain.0 in absurd (cc both)),
  along_plain sent entries name P (done name op (began name op v)) ops plain.1,
)

-- ---- a run is sealed

module _ {sent : List Sent} {entries : List Entry} {name : Bytes} {v : View} (rests : Rests sent false entries name v) (e : Entry) (there : IsIn e entries) (named : e.name ≡ name) (first count end : ℕ) (bytes : Bytes)
    (gates_is : (rests.held e there named).gates ≡ first) (run : IsRun (claimed sent) (rests.held e there named).lies.block (len_of e) first count bytes) (end_is : end ≡ min (len_of e) (4096 * (first + count))) where
  abbrev held : Held sent false e v
  held = rests.held e there named

  abbrev least : ℕ
  least = min (len_of e) (4096 * first)

  kept : IsKept held.lies.block (len_of e) first held.bytes
  kept = subst (λ g. IsKept held.lies.block (len_of e) g held.bytes) gates_is (held_kept e held)

  holds : (o : ℕ) → o < min (len_of e) (4096 * first) → claimed sent held.lies.block o (body (len_of e) held.bytes o) ≡ true
  holds = subst (λ g. (o : ℕ) → o < min (len_of e) (4096 * g) → claimed sent held.lies.block o (body (len_of e) held.bytes o) ≡ true) gates_is held.lies.holds

  row_length : held.lies.row.version.length ≡ len_of e
  row_length = ap (λ w. w.length) held.lies.version

  sealed : KeepsIn (claimed sent) held.lies.block (len_of e) (first + count) (done_view name v (seal_ops name (len_of e) first count bytes))
  sealed = seal_done (claimed sent) held.lies.block (len_of e) first count bytes held.bytes kept holds run name v held.slot rests.sound

  -- at each moment of it a crash leaves an entry that reaches as far
  pub seal_each : During name v (seal_ops name (len_of e) first count bytes) (AllLeft (IsHonest (claimed sent) held.lies.block (len_of e) least))
  seal_each = seal_during (claimed sent) held.lies.block (len_of e) first count bytes held.bytes kept holds run name v held.slot rests.sound

  -- an entry under the name, once it was extended
  sealed_as : (d x : Entry) → AreOne e x → d.key ≡ x.key → d.version ≡ x.version → (d.is_stale ≡ false → d.extent ≡ end) → Held sent false d (done_view name v (seal_ops name (len_of e) first count bytes))
  sealed_as d x one key version extent =
      let same_version : d.version ≡ e.version = version ∙ one.version in
      let size : len_of e ≡ len_of d = ap (λ w. w.length) (sym same_version) in
      kept_held d held.lies.block held.lies.row (first + count) held.lies.reads (held.lies.key ∙ sym one.key ∙ sym key) (held.lies.version ∙ sym same_version)
      (λ f. extent f ∙ end_is ∙ ap (λ n. min n (4096 * (first + count))) size)
      (subst (λ n. KeepsIn (claimed sent) held.lies.block n (first + count) (done_view name v (seal_ops name (len_of e) first count bytes))) size sealed)

  pub seal_ahead : (key tag : Bytes) (n : ℕ) → is_kept_row_of key e ≡ true
      → Ahead sent false entries name (Do (Write name (body_at (len_of e) + 4096 * first) bytes) ∷ Do (Sync name) ∷ Do (Write name (8192 + first) (replicate count 1)) ∷ Do (Sync name) ∷ Acknowledge key tag n end ∷ []) v
  seal_ahead key tag n is_row = record {
    during = during_map name v (seal_ops name (len_of e) first count bytes) (AllLeft (IsHonest (claimed sent) held.lies.block (len_of e) least)) (Backed sent name)
        (λ w all. left_map (IsHonest (claimed sent) held.lies.block (len_of e) least) (BackedAt sent name) w (λ file h. honest_backed sent held.lies.block (len_of e) least name held.lies.row file held.lies.reads row_length h) all)
        seal_each;
    along = along_plain sent entries name (Rests sent false entries name) v (seal_ops name (len_of e) first count bytes) (refl, (refl, (refl, (refl, tt))));
    last = record { sound = sealed.sound; held = λ d i is. by d (in_change (is_kept_row_of key) (extended end) d entries i) is };
  }
    where
      e_key : e.key ≡ key
      e_key = same_name e.key key (second_holds (not e.is_stale) _ is_row)

      stale_one : (d : Entry) → AreOne e d → is_kept_row_of key d ≡ false → d.is_stale ≡ true
      stale_one d one isnt = by_stale d.is_stale (ap (λ k. Rattle.std.specs.Prelude.bytes_eq k key) (one.key ∙ e_key) ∙ name_same key) isnt
        where
          by_stale : (b : Bool) → is_entry_of key d ≡ true → (not b && is_entry_of key d) ≡ false → b ≡ true
          by_stale true of isnt = refl
          by_stale false of isnt = let both : true ≡ false = sym of ∙ isnt in absurd (cc both)

      by : (d : Entry) → Changed (is_kept_row_of key) (extended end) entries d → d.name ≡ name → Held sent false d (done_view name v (seal_ops name (len_of e) first count bytes))
      by d (same i isnt) is =
          let one : AreOne e d = are_one e d held (rests.held d i is) in
          sealed_as d d one refl refl (λ f. let both : true ≡ false = sym (stale_one d one isnt) ∙ f in absurd (cc both))
      by d (other x i is_x eq) is =
          let one : AreOne e x = are_one e x held (rests.held x i (ap (λ (y : Entry). y.name) (sym eq) ∙ is)) in
          sealed_as d x one (ap (λ (y : Entry). y.key) eq) (ap (λ (y : Entry). y.version) eq) (λ f. ap (λ (y : Entry). y.extent) eq)

-- ---- an entry is drafted

or_false : (b : Bool) → (b || false) ≡ b
or_false true = refl
or_false false = refl

none_named : {sent : List Sent} {recovers : Bool} {entries : List Entry} {name : Bytes} {w : View} → (v : View) → ((d : Entry) → IsIn d entries → d.name ≡ name → ⊥) → w.failed ≡ v.failed → v.failed ≡ false → Rests sent recovers entries name w
none_named v none failed sound = record { sound = failed ∙ sound; held = λ d i is. absurd (none d i is) }

module _ (sent : List Sent) (entries : List Entry) (name : Bytes) (v : View) (sound : v.failed ≡ false) (old : Backed sent name v) (none : (d : Entry) → IsIn d entries → d.name ≡ name → ⊥)
    (e : Entry) (block kept : Bytes) (row : Row) (reads : row_at block ≡ Some row) (key : row.key ≡ e.key) (version : row.version ≡ e.version) (full : length block ≡ 8192)
    (front : IsFront (claimed sent) block (len_of e) kept) (extent : e.extent ≡ length kept) where
  length_is : row.version.length ≡ len_of e
  length_is = ap (λ w. w.length) version

  new_backed : BackedAt sent name (Some (whole_file block (len_of e) kept))
  new_backed = honest_backed sent block (len_of e) (length kept) name row (Some (whole_file block (len_of e) kept)) reads length_is (whole_honest block (len_of e) kept full front.whole (claimed sent) front)

  old_or_new : (w : View) → IsOldOr (Some (whole_file block (len_of e) kept)) v w → Backed sent name w
  old_or_new w is f left = ⊎_elim (λ was. old f was) (λ now. subst (BackedAt sent name) (sym now) new_backed) (is f left)

  pub drafted_held : (w : View) → w.slot ≡ Some (settled (whole_file block (len_of e) kept)) ∷ [] → w.failed ≡ false → Held sent false e w
  drafted_held w slot ok = kept_held e block row (chunks_of (length kept)) reads key version (λ f. extent ∙ sym front.whole) (record {
    bytes = whole_file block (len_of e) kept;
    slot = slot;
    sound = ok;
    kept = whole_kept block (len_of e) kept full front.whole;
    holds = whole_holds block (len_of e) kept full front.whole (claimed sent) front;
  })

  -- what is noted behind it is how far it reaches already
  after_is : (todo : List Todo) → ((d : Entry) → IsIn d (entries_after todo (entries ++ e ∷ [])) → d.name ≡ name → (d ≡ e)) → ops_of todo ≡ []
      → Ahead sent false entries name (Do (Draft (whole_file block (len_of e) kept)) ∷ Do SyncDraft ∷ Do (Publish name) ∷ Enter e ∷ todo) v
  after_is todo each no_more = record {
    during = subst (λ ops. During name v (Draft (whole_file block (len_of e) kept) ∷ SyncDraft ∷ Publish name ∷ ops) (Backed sent name)) (sym no_more)
        (during_map name v (Draft (whole_file block (len_of e) kept) ∷ SyncDraft ∷ Publish name ∷ []) (IsOldOr (Some (whole_file block (len_of e) kept)) v) (Backed sent name) old_or_new (published name (whole_file block (len_of e) kept) v));
    along = subst (λ ops. Along name v (Draft (whole_file block (len_of e) kept) ∷ SyncDraft ∷ Publish name ∷ ops) (Rests sent false entries name) (IfRecovers sent false entries name)) (sym no_more) (
      (λ r. absurd (cc r)),
      (λ is. none_named v none (or_false v.failed) sound),
      (
        (λ r. absurd (cc r)),
        (λ is. none_named v none (or_false v.failed) sound),
        ((λ r. absurd (cc r)), (λ is. absurd (cc is)), (λ r. absurd (cc r))),
      ),
    );
    last = subst (λ ops. Rests sent false (entries_after todo (entries ++ e ∷ [])) name (done_view name v (Draft (whole_file block (len_of e) kept) ∷ SyncDraft ∷ Publish name ∷ ops))) (sym no_more)
        (record { sound = sound; held = λ d i is. subst (λ x. Held sent false x (done_view name v (Draft (whole_file block (len_of e) kept) ∷ SyncDraft ∷ Publish name ∷ []))) (sym (each d i is)) (drafted_held (done_view name v (Draft (whole_file block (len_of e) kept) ∷ SyncDraft ∷ Publish name ∷ [])) (published_slot name (whole_file block (len_of e) kept) v) sound) });
  }

  pushed_one : (d : Entry) → IsIn d (entries ++ e ∷ []) → d.name ≡ name → d ≡ e
  pushed_one d i is = elim (in_push d entries e i) [ inl there ↦ absurd (none d there is) | inr eq ↦ eq ]

  pub draft_ahead : Ahead sent false entries name (Do (Draft (whole_file block (len_of e) kept)) ∷ Do SyncDraft ∷ Do (Publish name) ∷ Enter e ∷ []) v
  draft_ahead = after_is [] pushed_one refl

  pub draft_noted_ahead : (k tag : Bytes) (n : ℕ) → Ahead sent false entries name (Do (Draft (whole_file block (len_of e) kept)) ∷ Do SyncDraft ∷ Do (Publish name) ∷ Enter e ∷ Acknowledge k tag n e.extent ∷ []) v
  draft_noted_ahead k tag n = after_is (Acknowledge k tag n e.extent ∷ []) (λ d i is. by d (in_change (is_kept_row_of k) (extended e.extent) d (entries ++ e ∷ []) i) is) refl
    where
      by : (d : Entry) → Changed (is_kept_row_of k) (extended e.extent) (entries ++ e ∷ []) d → d.name ≡ name → d ≡ e
      by d (same i isnt) is = pushed_one d i is
      by d (other x i is_x eq) is = let x_is : x ≡ e = pushed_one x i (ap (λ (y : Entry). y.name) (sym eq) ∙ is) in eq ∙ ap (extended e.extent) x_is

-- ---- an entry is taken away

pub remove_ahead : {sent : List Sent} {entries fewer : List Entry} {name : Bytes} {v : View} → Rests sent false entries name v → Backed sent name v → ((d : Entry) → IsIn d fewer → d.name ≡ name → ⊥)
    → Ahead sent false fewer name (Do (Remove name) ∷ []) v
remove_ahead {sent} {entries} {fewer} {name} {v} rests old none = record {
  during = during_map name v (Remove name ∷ []) (IsOldOr None v) (Backed sent name) (λ w is f left. ⊎_elim (λ was. old f was) (λ now. subst (BackedAt sent name) (sym now) tt) (is f left)) (removed name v);
  along = along_plain sent fewer name (Rests sent false fewer name) v (Remove name ∷ []) (refl, tt);
  last = record { sound = rests.sound; held = λ d i is. absurd (none d i is) };
}
