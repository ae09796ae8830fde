-- From a head block and the gates to the entry that a file is.
use Rattle.std.proofs.Common.{◌≡◌, ℕ, ◌+◌, ◌≤◌, Bool, true, ◌&&◌, [], length, take, Option, Some, None, refl, ◌∙◌, ap, subst, arith}
use Rattle.std.specs.Prelude.{nat_le, bytes_eq, if◌then◌else◌, option_map}
use Rattle.std.specs.Option.{option_and_then}
use Rattle.std.proofs.lemmas.Bool.Decides.{nat_tests}
use Rattle.std.proofs.lemmas.Option.{option_and_then_some}
use Rattle.std.proofs.lemmas.Slice.Eq.{bytes_eq-Decides}
use Rattle.pp_world.specs.Disk.{Bytes}
use Rattle.pp_entry.specs.Entries.{Row, row_at}
use Rattle.pp_entry.specs.Gates.{has_extent}
use Rattle.pp_entry.specs.Texts.{body_at}
use Rattle.pp_gate.specs.Files.{extent_in}
use Rattle.pp_gate.proofs.PlaceLemmas.{gates_below}
use Rattle.pp_target.specs.Name.{name_of}
use Rattle.pp_store.specs.Kept.{Kept}
use Rattle.pp_recover.specs.Image.{named_for, head_in, extent_if, kept_with, entry_in, entry_of, bytes_of}
use Rattle.pp_recover.specs.Closing.{gates_in, closing, closing_if, closing_of}
use Rattle.pp_recover.proofs.RowLemmas.{both_true, if_some, map_some}

-- what a head tells
pub record IsHead (name file : Bytes) (row : Row) : Type 0 where
  pub row_is : row_at (take 8192 file) ≡ Some row
  pub own : name_of row.key ≡ name

pub head_told : (name file : Bytes) (row : Row) → head_in name file ≡ Some row → IsHead name file row
unfolding head_in
head_told name file row is = option_and_then_some (named_for name) (row_at (take 8192 file)) row is (λ other there named.
    let parts = if_some (bytes_eq (name_of other.key) name) (Some other) row named in
    let same : other ≡ row = cc in
    subst (IsHead name file) same (record { row_is = there; own = (bytes_eq-Decides (name_of other.key) name).0 parts.0 }))

pub head_is : (name file block : Bytes) → block ≡ take 8192 file → option_and_then (named_for name) (row_at block) ≡ head_in name file
unfolding head_in
head_is name file block same = ap (λ (b : Bytes). option_and_then (named_for name) (row_at b)) same

pub no_head : (name file : Bytes) → row_at (take 8192 file) ≡ None → head_in name file ≡ None
unfolding head_in
no_head name file is = ap (option_and_then (named_for name)) is

-- what is kept is there
pub record IsRoom (n : ℕ) (file : Bytes) (extent : ℕ) : Type 0 where
  pub extent_is : extent_in n file ≡ extent
  pub long : body_at n + extent_in n file ≤ length file
  pub short : length file ≤ body_at n + n

pub room_told : (n : ℕ) (file : Bytes) (extent : ℕ) → extent_if n file ≡ Some extent → IsRoom n file extent
unfolding extent_if
room_told n file extent is =
    let parts = if_some (has_extent n (extent_in n file) (length file)) (Some (extent_in n file)) extent is in
    let sizes = both_true (nat_le (body_at n + extent_in n file) (length file)) (nat_le (length file) (body_at n + n)) parts.0 in
    record { extent_is = (cc); long = le_of (body_at n + extent_in n file) (length file) sizes.0; short = le_of (length file) (body_at n + n) sizes.1 }
  where
    le_of : (a b : ℕ) → nat_le a b ≡ true → a ≤ b
    le_of a b le = grind (arith, nat_tests)

pub extent_same : (n : ℕ) (file : Bytes) → extent_if n file ≡ (if has_extent n (extent_in n file) (length file) then Some (extent_in n file) else None)
unfolding extent_if
extent_same n file = refl

le_is : (a b : ℕ) → a ≤ b → nat_le a b ≡ true
le_is a b le = grind (arith, nat_tests)

both_are : (a b : Bool) → a ≡ true → b ≡ true → (a && b) ≡ true
both_are a b one two = ap (λ (c : Bool). c && b) one ∙ two

pub fits : (n extent len : ℕ) → body_at n + extent ≤ len → len ≤ body_at n + n → has_extent n extent len ≡ true
fits n extent len long short = both_are (nat_le (body_at n + extent) len) (nat_le len (body_at n + n)) (le_is (body_at n + extent) len long) (le_is len (body_at n + n) short)

-- both
pub entry_some : (name file : Bytes) (row : Row) (extent : ℕ) → head_in name file ≡ Some row → extent_if row.version.length file ≡ Some extent → entry_in name file ≡ Some (record { entry = row; extent = extent })
unfolding entry_in
entry_some name file row extent head kept =
    ap (option_and_then (kept_with file)) head ∙ ap (option_map (λ (e : ℕ). record { entry = row; extent = e })) kept

pub no_entry : (name file : Bytes) → head_in name file ≡ None → entry_in name file ≡ None
unfolding entry_in
no_entry name file is = ap (option_and_then (kept_with file)) is

pub no_room : (name file : Bytes) (row : Row) → head_in name file ≡ Some row → extent_if row.version.length file ≡ None → entry_in name file ≡ None
unfolding entry_in
no_room name file row head is =
    ap (option_and_then (kept_with file)) head ∙ ap (option_map (λ (e : ℕ). record { entry = row; extent = e })) is

pub record IsEntryOf (name file : Bytes) (kept : Kept) : Type 0 where
  pub head : head_in name file ≡ Some kept.entry
  pub room : extent_if kept.entry.version.length file ≡ Some kept.extent

pub entry_told : (name file : Bytes) (kept : Kept) → entry_in name file ≡ Some kept → IsEntryOf name file kept
unfolding entry_in
entry_told name file kept is = option_and_then_some (kept_with file) (head_in name file) kept is (λ row head room.
    let parts = map_some (λ (e : ℕ). record { entry = row; extent = e }) (extent_if row.version.length file) kept room in
    subst (IsEntryOf name file) parts.2 (record { head = head; room = parts.1 }))

-- the same of a name under which there may be no file
no_bytes : (n extent : ℕ) → extent_if n [] ≡ Some extent → ⊥
no_bytes n extent is = omega (arith, (room_told n [] extent is).long, gates_below n)

pub entry_there : (name : Bytes) (file : Option Bytes) (row : Row) (extent : ℕ) → head_in name (bytes_of file) ≡ Some row → extent_if row.version.length (bytes_of file) ≡ Some extent → entry_of name file ≡ Some (record { entry = row; extent = extent })
entry_there name None row extent head kept = absurd (no_bytes row.version.length extent kept)
entry_there name (Some file) row extent head kept = entry_some name file row extent head kept

pub no_entry_there : (name : Bytes) (file : Option Bytes) → head_in name (bytes_of file) ≡ None → entry_of name file ≡ None
no_entry_there name None head = refl
no_entry_there name (Some file) head = no_entry name file head

pub no_room_there : (name : Bytes) (file : Option Bytes) (row : Row) → head_in name (bytes_of file) ≡ Some row → extent_if row.version.length (bytes_of file) ≡ None → entry_of name file ≡ None
no_room_there name None row head kept = refl
no_room_there name (Some file) row head kept = no_room name file row head kept

pub closing_is : (name : Bytes) (file : Option Bytes) (kept : Kept) → entry_of name file ≡ Some kept → closing_of name file ≡ closing name (gates_in kept.entry.version.length (bytes_of file))
closing_is name None kept is = absurd (cc)
closing_is name (Some file) kept is = ap (closing_if name file) is

pub closes_none : (name : Bytes) (file : Option Bytes) → entry_of name file ≡ None → closing_of name file ≡ []
closes_none name None is = refl
closes_none name (Some file) is = ap (closing_if name file) is
