-- Whether a byte was sent, as a test; and files whose entry holds only what was sent.
use Rattle.std.proofs.Common.{◌≡◌, refl, ℕ, zero, suc, ◌+◌, ◌-◌, ◌<◌, ◌≤◌, Bool, true, false, ◌==◌, ◌&&◌, ◌||◌, List, [], ◌∷◌, ◌++◌, length, take, get_or, slice_get, nat_le, bytes_eq, Option, Some, None, inl, inr, sym, subst, ap, ◌∙◌, arith}
use Rattle.std.proofs.lemmas.Bool.Decides.{nat_tests}
use Rattle.std.proofs.lemmas.Option.{option_and_then_some}
use Rattle.std.proofs.lemmas.Slice.Eq.{bytes_eq-Decides}
use Rattle.pp_entry.specs.Entries.{Row, row_at}
use Rattle.pp_entry.specs.Gates.{has_extent}
use Rattle.pp_entry.specs.Texts.{body_at}
use Rattle.pp_gate.specs.Files.{open_gates, extent_in, body}
use Rattle.pp_gate.specs.Seal.{IsHonest}
use Rattle.pp_gate.proofs.Ops.{AllLeft}
use Rattle.pp_objects.specs.Kept.{kept_of}
use Rattle.pp_target.specs.Name.{name_of}
use Rattle.pp_valid.specs.declared.version.Version.{Version}
use Rattle.pp_world.specs.Disk.{View}
use Rattle.pp_law.specs.Entries.{kept_in, entry_with, entry_in}
use Rattle.pp_law.specs.Lists.{Bytes}
use Rattle.pp_law.specs.State.{Sent, Entry}
use Rattle.pp_law.specs.Table.{is_same_version}
use Rattle.pp_laws.specs.Origin.{Holds, IsSentIn, AllSent}
use Rattle.pp_laws.proofs.Tests.{first_holds, second_holds, same_bytes, same_version, same_number}

-- ---- a byte that was sent

abbrev pub is_byte : ℕ → Option ℕ → Bool
is_byte b None = false
is_byte b (Some c) = c == b

abbrev pub is_in_part : Sent → Bytes → Version → ℕ → ℕ → Bool
is_in_part part key v at byte = bytes_eq part.key key && (is_same_version part.version v && (nat_le part.at at && is_byte byte (slice_get part.bytes (at - part.at))))

abbrev pub is_sent : List Sent → Bytes → Version → ℕ → ℕ → Bool
is_sent [] key v at byte = false
is_sent (part ∷ sent) key v at byte = is_in_part part key v at byte || is_sent sent key v at byte

byte_is : (b : ℕ) (o : Option ℕ) → is_byte b o ≡ true → o ≡ Some b
byte_is b None is = absurd (cc is)
byte_is b (Some c) is = ap (λ (x : ℕ). Some x) (same_number c b is)

is_le : (a b : ℕ) → nat_le a b ≡ true → a ≤ b
is_le a b is = grind (arith, nat_tests)

le_is : (a b : ℕ) → a ≤ b → nat_le a b ≡ true
le_is a b le = grind (arith, nat_tests)

eq_is : (b : ℕ) → (b == b) ≡ true
eq_is b = grind (arith, nat_tests)

both : (a b : Bool) → a ≡ true → b ≡ true → (a && b) ≡ true
both true b one two = two
both false b one two = absurd (cc one)

either : (a b : Bool) → b ≡ true → (a || b) ≡ true
either true b is = refl
either false b is = is

or_first : (a b : Bool) → a ≡ true → (a || b) ≡ true
or_first true b is = refl
or_first false b is = absurd (cc is)

version_is : (v : Version) → is_same_version v v ≡ true
version_is v = both (bytes_eq v.tag v.tag) (v.length == v.length) ((bytes_eq-Decides v.tag v.tag).1 refl) (eq_is v.length)

part_so : (part : Sent) (key : Bytes) (v : Version) (at byte : ℕ) → is_in_part part key v at byte ≡ true → Holds part key v at byte
part_so part key v at byte is =
    let one : bytes_eq part.key key ≡ true = first_holds (bytes_eq part.key key) _ is in
    let rest = second_holds (bytes_eq part.key key) _ is in
    let two : is_same_version part.version v ≡ true = first_holds (is_same_version part.version v) _ rest in
    let last = second_holds (is_same_version part.version v) _ rest in (
      same_bytes part.key key one,
      same_version part.version v two,
      is_le part.at at (first_holds (nat_le part.at at) _ last),
      byte_is byte (slice_get part.bytes (at - part.at)) (second_holds (nat_le part.at at) _ last),
    )

so_part : (part : Sent) (key : Bytes) (v : Version) (at byte : ℕ) → Holds part key v at byte → is_in_part part key v at byte ≡ true
so_part part key v at byte h =
    both (bytes_eq part.key key) _ ((bytes_eq-Decides part.key key).1 h.0)
    (both (is_same_version part.version v) _ (subst (λ w. is_same_version part.version w ≡ true) h.1 (version_is part.version))
    (both (nat_le part.at at) _ (le_is part.at at h.2) (ap (is_byte byte) h.3 ∙ eq_is byte)))

pub was_sent : (sent : List Sent) (key : Bytes) (v : Version) (at byte : ℕ) → is_sent sent key v at byte ≡ true → IsSentIn sent key v at byte
was_sent [] key v at byte is = absurd (cc is)
was_sent (part ∷ sent) key v at byte is = by (is_in_part part key v at byte) refl (was_sent sent key v at byte) is
  where
    by : (b : Bool) → is_in_part part key v at byte ≡ b → (is_sent sent key v at byte ≡ true → IsSentIn sent key v at byte) → (b || is_sent sent key v at byte) ≡ true → IsSentIn (part ∷ sent) key v at byte
    by true here rest all = inl (part_so part key v at byte here)
    by false here rest all = inr (rest all)

pub sent_is : (sent : List Sent) (key : Bytes) (v : Version) (at byte : ℕ) → IsSentIn sent key v at byte → is_sent sent key v at byte ≡ true
sent_is [] key v at byte i = absurd i
sent_is (part ∷ sent) key v at byte (inl h) = or_first (is_in_part part key v at byte) _ (so_part part key v at byte h)
sent_is (part ∷ sent) key v at byte (inr i) = either (is_in_part part key v at byte) _ (sent_is sent key v at byte i)

pub more_is : (newer sent : List Sent) (key : Bytes) (v : Version) (at byte : ℕ) → is_sent sent key v at byte ≡ true → is_sent (newer ++ sent) key v at byte ≡ true
more_is [] sent key v at byte is = is
more_is (part ∷ newer) sent key v at byte is = either (is_in_part part key v at byte) _ (more_is newer sent key v at byte is)

-- each of these bytes
pub all_at : (sent : List Sent) (key : Bytes) (v : Version) (at : ℕ) (bytes : Bytes) → AllSent sent key v at bytes → (o : ℕ) → o < length bytes → is_sent sent key v (at + o) (get_or bytes o 0) ≡ true
all_at sent key v at [] all o lt = absurd (omega (arith, lt))
all_at sent key v at (b ∷ bytes) all zero lt = sent_is sent key v (at + 0) b (subst (λ k. IsSentIn sent key v k b) (nothing at) all.0)
  where
    nothing : (k : ℕ) → k ≡ k + 0
    nothing k = omega arith
all_at sent key v at (b ∷ bytes) all (suc o) lt = subst (λ k. is_sent sent key v k (get_or bytes o 0) ≡ true) (one_more at o) (all_at sent key v (at + 1) bytes all.1 o (omega (arith, lt)))
  where
    one_more : (k i : ℕ) → k + 1 + i ≡ k + suc i
    one_more k i = omega arith

pub all_of : (sent : List Sent) (key : Bytes) (v : Version) (at : ℕ) (bytes : Bytes) → ((o : ℕ) → o < length bytes → is_sent sent key v (at + o) (get_or bytes o 0) ≡ true) → AllSent sent key v at bytes
all_of sent key v at [] each = tt
all_of sent key v at (b ∷ bytes) each = (
  subst (λ k. IsSentIn sent key v k b) (nothing at) (was_sent sent key v (at + 0) b (each 0 (omega arith))),
  all_of sent key v (at + 1) bytes (λ o lt. subst (λ k. is_sent sent key v k (get_or bytes o 0) ≡ true) (one_more at o) (each (suc o) (omega (arith, lt)))),
)
  where
    nothing : (k : ℕ) → k + 0 ≡ k
    nothing k = omega arith

    one_more : (k i : ℕ) → k + suc i ≡ k + 1 + i
    one_more k i = omega arith

-- ---- of a head block: what the row that it is read as has

abbrev pub claims : List Sent → ℕ → ℕ → Option Row → Bool
claims sent o byte None = false
claims sent o byte (Some row) = is_sent sent row.key row.version o byte

abbrev pub claimed : List Sent → Bytes → ℕ → ℕ → Bool
claimed sent block o byte = claims sent o byte (row_at block)

claims_more : (newer sent : List Sent) (o byte : ℕ) (row : Option Row) → claims sent o byte row ≡ true → claims (newer ++ sent) o byte row ≡ true
claims_more newer sent o byte None is = is
claims_more newer sent o byte (Some row) is = more_is newer sent row.key row.version o byte is

pub claimed_more : (newer sent : List Sent) (block : Bytes) (o byte : ℕ) → claimed sent block o byte ≡ true → claimed (newer ++ sent) block o byte ≡ true
claimed_more newer sent block o byte is = claims_more newer sent o byte (row_at block) is

-- ---- a file

-- the entry that it is, if it is one, holds only what was sent
abbrev pub BackedAt : List Sent → Bytes → Option Bytes → Type 0
BackedAt sent name None = Unit {0}
BackedAt sent name (Some file) = (e : Entry) → entry_in name file ≡ Some e → (o : ℕ) → o < e.extent → is_sent sent e.key e.version o (get_or file (body_at e.version.length + o) 0) ≡ true

-- and so is each that a crash may leave under the name
abbrev pub Backed : List Sent → Bytes → View → Type 0
Backed sent name v = AllLeft (BackedAt sent name) v

pub backed_at_more : (newer sent : List Sent) (name : Bytes) (file : Option Bytes) → BackedAt sent name file → BackedAt (newer ++ sent) name file
backed_at_more newer sent name None b = tt
backed_at_more newer sent name (Some file) b = λ e is o lt. more_is newer sent e.key e.version o _ (b e is o lt)

-- what the entry of a file tells of it
pub record IsEntryIn (name file : Bytes) (e : Entry) : Type 0 where
  pub row : Row
  pub reads : row_at (take 8192 file) ≡ Some row
  pub name_is : e.name ≡ name
  pub own : name_of row.key ≡ name
  pub key : e.key ≡ row.key
  pub version : e.version ≡ row.version
  pub extent : e.extent ≡ extent_in e.version.length file
  pub fresh : e.is_stale ≡ false
  pub long : body_at e.version.length + e.extent ≤ length file
  pub short : length file ≤ body_at e.version.length + e.version.length

abbrev entry_of_row : Bytes → Bytes → Row → Entry
entry_of_row name file row = record { name = name; key = row.key; version = row.version; fields = kept_of row.fields row.times; times = row.times; extent = kept_in row.version.length file; is_stale = false }

kept_is : (n : ℕ) (file : Bytes) → kept_in n file ≡ extent_in n file
unfolding extent_in open_gates
kept_is n file = refl

told_of : (name file : Bytes) (row : Row) → row_at (take 8192 file) ≡ Some row → bytes_eq (name_of row.key) name ≡ true → has_extent row.version.length (kept_in row.version.length file) (length file) ≡ true → IsEntryIn name file (entry_of_row name file row)
told_of name file row reads own room = record {
  row = row;
  reads = reads;
  name_is = refl;
  own = (bytes_eq-Decides (name_of row.key) name).0 own;
  key = refl;
  version = refl;
  extent = kept_is row.version.length file;
  fresh = refl;
  long = is_le _ _ (first_holds (nat_le (body_at row.version.length + kept_in row.version.length file) (length file)) _ room);
  short = is_le _ _ (second_holds (nat_le (body_at row.version.length + kept_in row.version.length file) (length file)) _ room);
}

told_by : (name file : Bytes) (row : Row) (e : Entry) (own room : Bool) → row_at (take 8192 file) ≡ Some row → bytes_eq (name_of row.key) name ≡ own → has_extent row.version.length (kept_in row.version.length file) (length file) ≡ room
    → (elim (own && room) as (λ c. Option Entry) [ true ↦ Some (entry_of_row name file row) | false ↦ None ]) ≡ Some e → IsEntryIn name file e
told_by name file row e true true reads own_is room_is is = let same : entry_of_row name file row ≡ e = cc is in subst (IsEntryIn name file) same (told_of name file row reads own_is room_is)
told_by name file row e true false reads own_is room_is is = absurd (cc is)
told_by name file row e false room reads own_is room_is is = absurd (cc is)

pub entry_told : (name file : Bytes) (e : Entry) → entry_in name file ≡ Some e → IsEntryIn name file e
entry_told name file e is = option_and_then_some (entry_with name file) (row_at (take 8192 file)) e is
    (λ row there found. told_by name file row e (bytes_eq (name_of row.key) name) (has_extent row.version.length (kept_in row.version.length file) (length file)) there refl refl found)

-- of an honest file
claims_of : (sent : List Sent) (o byte : ℕ) (found : Option Row) (row : Row) → found ≡ Some row → claims sent o byte found ≡ true → is_sent sent row.key row.version o byte ≡ true
claims_of sent o byte found row is claim = subst (λ r. claims sent o byte r ≡ true) is claim

pub body_is : (n : ℕ) (file : Bytes) (o : ℕ) → body n file o ≡ get_or file (body_at n + o) 0
unfolding body
body_is n file o = refl

pub honest_backed : (sent : List Sent) (block : Bytes) (n least : ℕ) (name : Bytes) (row : Row) (file : Option Bytes) → row_at block ≡ Some row → row.version.length ≡ n → IsHonest (claimed sent) block n least file → BackedAt sent name file
honest_backed sent block n least name row None reads len h = tt
honest_backed sent block n least name row (Some file) reads len h = by h.bytes h.is h.entry.head h.holds
  where
    by : (b : Bytes) → Some file ≡ Some b → take 8192 b ≡ block → ((o : ℕ) → o < extent_in n b → claimed sent block o (body n b o) ≡ true) → BackedAt sent name (Some file)
    by b is head holds e found o lt =
        let same : file ≡ b = cc is in
        let told = entry_told name file e found in
        let reads_file : row_at (take 8192 file) ≡ Some row = ap (λ (f : Bytes). row_at (take 8192 f)) same ∙ ap row_at head ∙ reads in
        let rows : told.row ≡ row = let both_ways : Some told.row ≡ Some row = sym told.reads ∙ reads_file in cc both_ways in
        let key : e.key ≡ row.key = told.key ∙ ap (λ (r : Row). r.key) rows in
        let version : e.version ≡ row.version = told.version ∙ ap (λ (r : Row). r.version) rows in
        let size : e.version.length ≡ n = ap (λ (v : Version). v.length) version ∙ len in
        let below : o < extent_in n b = subst (λ k. o < extent_in k b) size (subst (λ f. o < extent_in e.version.length f) same (subst (λ k. o < k) told.extent lt)) in
        let claim : is_sent sent row.key row.version o (body n b o) ≡ true = claims_of sent o (body n b o) (row_at block) row reads (holds o below) in
        let byte : body n b o ≡ get_or file (body_at e.version.length + o) 0 = body_is n b o ∙ ap (λ (f : Bytes). get_or f (body_at n + o) 0) (sym same) ∙ ap (λ (k : ℕ). get_or file (body_at k + o) 0) (sym size) in
        subst (λ x. is_sent sent e.key e.version o x ≡ true) byte (subst (λ v. is_sent sent e.key v o (body n b o) ≡ true) (sym version) (subst (λ k. is_sent sent k row.version o (body n b o) ≡ true) (sym key) claim))
