-- A file that is the entry of a key and reaches far enough; and what a crash leaves of such files.
use Rattle.std.proofs.Common.{◌≡◌, refl, ℕ, ◌+◌, ◌*◌, ◌≤◌, Bool, true, false, ◌&&◌, List, length, take, nat_le, bytes_eq, Option, Some, None, inl, sym, subst, ap, ◌∙◌, arith}
use Rattle.std.specs.Prelude.{min, option_and_then}
use Rattle.std.proofs.lemmas.Bool.Decides.{nat_tests}
use Rattle.pp_entry.specs.Entries.{Row, row_at}
use Rattle.pp_entry.specs.Gates.{has_extent}
use Rattle.pp_entry.specs.Texts.{body_at}
use Rattle.pp_gate.specs.Files.{extent_in, open_gates}
use Rattle.pp_gate.specs.Seal.{IsHonest}
use Rattle.pp_gate.proofs.GateLemmas.{opens_at_most}
use Rattle.pp_gate.proofs.Images.{settled_leaves}
use Rattle.pp_gate.proofs.Ops.{AllLeft, one_leaves}
use Rattle.pp_objects.specs.Kept.{kept_of}
use Rattle.pp_target.specs.Name.{name_of}
use Rattle.pp_world.specs.Disk.{View, Stored, IsLeft, LeavesOne, settled}
use Rattle.pp_law.specs.Entries.{entry_in, entry_with, kept_in}
use Rattle.pp_law.specs.Lists.{Bytes}
use Rattle.pp_law.specs.State.{Sent, Entry}
use Rattle.pp_laws_crash.proofs.Backing.{IsEntryIn, claimed, entry_told}
use Rattle.pp_laws_crash.proofs.Lying.{Held, Lies, Loose, len_of, lies_honest, lies_same, loose_but}
use Rattle.pp_laws_crash.proofs.Views.{name_same}
use Rattle.pp_laws_found.specs.Found.{Acknowledged, IsEntryOf}

-- no file is none
abbrev pub FoundAt : Bytes → Acknowledged → Option Bytes → Type 0
FoundAt key a None = ⊥
FoundAt key a (Some file) = IsEntryOf key a file

-- each file that a crash may leave under its name
abbrev pub Found : Bytes → Acknowledged → View → Type 0
Found key a v = AllLeft (FoundAt key a) v

-- ---- the entry that a file is

both : (a b : Bool) → a ≡ true → b ≡ true → (a && b) ≡ true
both true b one two = two
both false b one two = absurd (cc one)

le_is : (a b : ℕ) → a ≤ b → nat_le a b ≡ true
le_is a b le = grind (arith, nat_tests)

abbrev read_as : Bytes → Bytes → Row → Entry
read_as name file row = record { name = name; key = row.key; version = row.version; fields = kept_of row.fields row.times; times = row.times; extent = kept_in row.version.length file; is_stale = false }

is_entry : (name file : Bytes) (row : Row) → row_at (take 8192 file) ≡ Some row → (bytes_eq (name_of row.key) name && has_extent row.version.length (kept_in row.version.length file) (length file)) ≡ true
    → entry_in name file ≡ Some (read_as name file row)
is_entry name file row reads fits =
    ap (λ (r : Option Row). option_and_then (entry_with name file) r) reads
    ∙ ap (λ (b : Bool). elim b as (λ c. Option Entry) [ true ↦ Some (read_as name file row) | false ↦ None ]) fits

kept_is : (n : ℕ) (file : Bytes) → kept_in n file ≡ extent_in n file
unfolding extent_in open_gates
kept_is n file = refl

extent_is : (n : ℕ) (file : Bytes) → extent_in n file ≡ min n (4096 * open_gates n file)
unfolding extent_in
extent_is n file = refl

module _ (P : Bytes → ℕ → ℕ → Bool) (block : Bytes) (n least : ℕ) (row : Row) (key : Bytes) (a : Acknowledged) (reads : row_at block ≡ Some row) (key_is : row.key ≡ key) (version : row.version ≡ a.version) (len : row.version.length ≡ n) (far : a.extent ≤ least) where
  reads_so : (bytes : Bytes) → take 8192 bytes ≡ block → body_at n + extent_in n bytes ≤ length bytes → length bytes ≤ body_at n + n → least ≤ extent_in n bytes → IsEntryOf key a bytes
  reads_so bytes head long short reach = record {
    entry = read_as (name_of key) bytes row;
    is = is_entry (name_of key) bytes row (ap row_at head ∙ reads) (both _ _ (ap (λ (k : Bytes). bytes_eq (name_of k) (name_of key)) key_is ∙ name_same (name_of key)) (both _ _ long_is short_is));
    of_key = key_is;
    of_version = version;
    reaches = omega (arith, far, reach, extent);
  }
    where
      extent : kept_in row.version.length bytes ≡ extent_in n bytes
      extent = kept_is row.version.length bytes ∙ ap (λ (k : ℕ). extent_in k bytes) len

      long_is : nat_le (body_at row.version.length + kept_in row.version.length bytes) (length bytes) ≡ true
      long_is = le_is _ _ (subst (λ k. body_at k + kept_in row.version.length bytes ≤ length bytes) (sym len) (subst (λ x. body_at n + x ≤ length bytes) (sym extent) long))

      short_is : nat_le (length bytes) (body_at row.version.length + row.version.length) ≡ true
      short_is = le_is _ _ (subst (λ k. length bytes ≤ body_at k + k) (sym len) short)

  -- an honest file that reaches so far
  pub honest_found : (file : Option Bytes) → IsHonest P block n least file → FoundAt key a file
  honest_found file h = subst (FoundAt key a) (sym h.is) (reads_so h.bytes h.entry.head h.entry.long h.entry.short h.extent)

-- ---- the file of an entry of the store

-- it is of that key and version, and its gates reach so far
pub record Agrees (e : Entry) (gates : ℕ) (key : Bytes) (a : Acknowledged) : Type 0 where
  pub key_is : e.key ≡ key
  pub version_is : e.version ≡ a.version
  pub far : a.extent ≤ min (len_of e) (4096 * gates)

pub lies_found : {sent : List Sent} {e : Entry} {gates : ℕ} {bytes : Bytes} → (key : Bytes) (a : Acknowledged) → Lies sent e gates bytes → Agrees e gates key a → FoundAt key a (Some bytes)
lies_found {sent} {e} {gates} {bytes} key a l g =
    honest_found (claimed sent) l.block (len_of e) (min (len_of e) (4096 * gates)) l.row key a l.reads (l.key ∙ g.key_is) (l.version ∙ g.version_is) (ap (λ w. w.length) l.version) g.far (Some bytes) (lies_honest l)

pub lies_agrees : {sent : List Sent} {e : Entry} {gates : ℕ} {bytes : Bytes} → (key : Bytes) (a : Acknowledged) → Lies sent e gates bytes → IsEntryOf key a bytes → Agrees e gates key a
lies_agrees {sent} {e} {gates} {bytes} key a l f = record {
  key_is = key_as ∙ f.of_key;
  version_is = version_as ∙ f.of_version;
  far = omega (arith, f.reaches, extent, extent_is (len_of e) bytes, opens_at_most (len_of e) gates bytes l.within l.shut_next);
}
  where
    told : IsEntryIn (name_of key) bytes f.entry
    told = entry_told (name_of key) bytes f.entry f.is

    rows : told.row ≡ l.row
    rows = let same : Some told.row ≡ Some l.row = sym told.reads ∙ ap row_at l.head ∙ l.reads in cc same

    key_as : e.key ≡ f.entry.key
    key_as = sym l.key ∙ ap (λ (r : Row). r.key) (sym rows) ∙ sym told.key

    version_as : e.version ≡ f.entry.version
    version_as = sym l.version ∙ ap (λ (r : Row). r.version) (sym rows) ∙ sym told.version

    extent : f.entry.extent ≡ extent_in (len_of e) bytes
    extent = told.extent ∙ ap (λ v. extent_in v.length bytes) (sym version_as)

pub loose_found : {sent : List Sent} {e : Entry} {v : View} → (key : Bytes) (a : Acknowledged) → (h : Loose sent e v) → Agrees e h.gates key a → Found key a v
loose_found {sent} {e} {v} key a h g = one_leaves h.file (FoundAt key a) v.slot h.slot (λ c left. lies_found key a (lies_same c h.lies (loose_but h c left)) g)

-- a crash may leave it as it is
itself : (f : Stored) → f.synced ≡ length f.bytes → f.end ≡ length f.bytes → IsLeft f f.bytes
itself f synced end = record { no_shorter = omega (arith, synced); no_longer = omega (arith, end); same = λ o lt tight. refl }

pub loose_itself : {sent : List Sent} {e : Entry} {v : View} → (h : Loose sent e v) → LeavesOne v.slot (Some h.file.bytes)
loose_itself h = subst (λ (slot : List (Option Stored)). LeavesOne slot (Some h.file.bytes)) (sym h.slot) (inl (itself h.file h.synced_is h.end_is))

pub loose_agrees : {sent : List Sent} {e : Entry} {v : View} → (key : Bytes) (a : Acknowledged) → (h : Loose sent e v) → Found key a v → Agrees e h.gates key a
loose_agrees {sent} {e} {v} key a h all = lies_agrees key a h.lies (all (Some h.file.bytes) (loose_itself h))

settled_bytes : (b : Bytes) → (settled b).bytes ≡ b
unfolding settled
settled_bytes b = refl

settled_synced : (b : Bytes) → (settled b).synced ≡ length b
unfolding settled
settled_synced b = refl

settled_end : (b : Bytes) → (settled b).end ≡ length b
unfolding settled
settled_end b = refl

pub settled_itself : (b : Bytes) → IsLeft (settled b) b
settled_itself b = subst (IsLeft (settled b)) (settled_bytes b) (itself (settled b) (settled_synced b ∙ ap (λ (c : Bytes). length c) (sym (settled_bytes b))) (settled_end b ∙ ap (λ (c : Bytes). length c) (sym (settled_bytes b))))

pub held_agrees : {sent : List Sent} {recovers : Bool} {e : Entry} {v : View} → (key : Bytes) (a : Acknowledged) → (h : Held sent recovers e v) → Found key a v → Agrees e h.gates key a
held_agrees key a h all = lies_agrees key a h.lies (all (Some h.bytes) (subst (λ (slot : List (Option Stored)). LeavesOne slot (Some h.bytes)) (sym h.slot) (inl (settled_itself h.bytes))))

pub held_found : {sent : List Sent} {recovers : Bool} {e : Entry} {v : View} → (key : Bytes) (a : Acknowledged) → (h : Held sent recovers e v) → Agrees e h.gates key a → Found key a v
held_found {sent} {recovers} {e} {v} key a h g = one_leaves (settled h.bytes) (FoundAt key a) v.slot h.slot (λ c left. subst (λ b. FoundAt key a (Some b)) (sym (settled_leaves h.bytes c left)) (lies_found key a h.lies g))
