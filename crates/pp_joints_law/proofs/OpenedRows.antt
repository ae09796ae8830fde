-- Each row of the store that recovery makes is short: no other is read.
use Rattle.std.proofs.Common.{◌≡◌, ◌≤◌, sym, subst, ap, ◌∙◌, ℕ, Bool, true, false, List, [], ◌∷◌, ◌++◌, codes, length, replicate, take, refl, ◌-◌, Option, Some, None, le_trans, length-append, arith}
use Rattle.std.proofs.lemmas.List.Elements.{All-nil, All-cons}
use Rattle.std.specs.List.{cons_option, filter_map}
use Rattle.std.specs.Prelude.{All, bytes_eq, if◌then◌else◌, option_map}
use Rattle.std.specs.Option.{option_and_then}
use Rattle.pp_entry.specs.Entries.{Row, row_at}
use Rattle.pp_entry.specs.Texts.{body_at, head_text, number_line, own_line, own_lines, padded}
use Rattle.pp_fresh.specs.declared.aging.Times.{Times}
use Rattle.pp_joints_law.specs.Opened.{OpenedRowsAreShort}
use Rattle.pp_keeps_law.specs.Stands.{IsShort}
use Rattle.pp_law.specs.Lists.{Bytes}
use Rattle.pp_recover.proofs.RowLemmas.{IsSpelt, spelt}
use Rattle.pp_recover.specs.Image.{entry_in, entry_of, extent_if, head_in, kept_with, named_for}
use Rattle.pp_recover.specs.Opening.{entry_unless, failed_on}
use Rattle.pp_store.specs.Kept.{Kept}
use Rattle.pp_target.specs.Name.{name_of}
use Rattle.pp_text.specs.Fields.{Field}
use Rattle.pp_text.specs.Lines.{crlf, lines_of}
use Rattle.pp_world.specs.Disk.{names_in}
use Rattle.pp_world.specs.Files.{file_of}

-- ---- the key stands in the text

first_part : (a b : List ℕ) → length a ≤ length (a ++ b)
first_part a b = omega (arith, length-append a b)

second_part : (a b : List ℕ) → length b ≤ length (a ++ b)
second_part a b = omega (arith, length-append a b)

in_line : (name value : List ℕ) → length value ≤ length (own_line name value)
in_line name value = le_trans (first_part value crlf) (le_trans (second_part (codes ": ") (value ++ crlf)) (second_part name (codes ": " ++ (value ++ crlf))))

in_lines : (key : List ℕ) (n : ℕ) (times : Times) → length key ≤ length (own_lines key n times)
unfolding own_lines
in_lines key n times =
    let line = own_line (codes "X-Polipo-Location") key in
    let date = number_line (codes "X-Polipo-Date") times.response in
    let age = number_line (codes "X-Polipo-Age") times.initial in
    let long = number_line (codes "X-Polipo-Length") n in
    let at = number_line (codes "X-Polipo-Body-Offset") (body_at n) in
    le_trans (in_line (codes "X-Polipo-Location") key)
    (le_trans (first_part line date) (le_trans (first_part (line ++ date) age) (le_trans (first_part (line ++ date ++ age) long) (first_part (line ++ date ++ age ++ long) at))))

in_text : (key : List ℕ) (n : ℕ) (fields : List Field) (times : Times) → length key ≤ length (head_text key n fields times)
unfolding head_text
in_text key n fields times =
    let front = codes "HTTP/1.1 200 OK\r\n" ++ lines_of fields in
    le_trans (in_lines key n times) (le_trans (second_part front (own_lines key n times)) (first_part (front ++ own_lines key n times) crlf))

-- ---- a row that is read

row_of_block : (block : List ℕ) (row : Row) (extent : ℕ) → row_at block ≡ Some row → let kept : Kept = record { entry = row; extent = extent } in IsShort kept
row_of_block block row extent is =
    let its : IsSpelt block row = spelt block row is in
    let text : List ℕ = head_text row.key row.version.length row.fields row.times in
    let whole : length (padded text) ≡ 8192 = ap (λ (b : List ℕ). length b) (sym its.block_is) ∙ its.long in
    record { key = omega (arith, in_text row.key row.version.length row.fields row.times, first_part text (replicate {A = ℕ} (8192 - length text) 0), whole); body = its.sized }

-- ---- an entry of a folder

entry_short : (name file : Bytes) (kept : Kept) → entry_in name file ≡ Some kept → IsShort kept
unfolding entry_in head_in
entry_short name file kept is = by (row_at (take 8192 file)) refl is
  where
    with_extent : (row : Row) → row_at (take 8192 file) ≡ Some row → (o : Option ℕ) → option_map (λ (extent : ℕ). let k : Kept = record { entry = row; extent = extent } in k) o ≡ Some kept → IsShort kept
    with_extent row found (Some extent) is =
        let k : Kept = record { entry = row; extent = extent } in
        let e : k ≡ kept = cc is in
        subst IsShort e (row_of_block (take 8192 file) row extent found)
    with_extent row found None is = absurd (cc is)

    named : (row : Row) → row_at (take 8192 file) ≡ Some row → (own : Bool) → option_and_then (kept_with file) (if own then Some row else None) ≡ Some kept → IsShort kept
    named row found true is = with_extent row found (extent_if row.version.length file) is
    named row found false is = absurd (cc is)

    by : (o : Option Row) → row_at (take 8192 file) ≡ o → option_and_then (kept_with file) (option_and_then (named_for name) o) ≡ Some kept → IsShort kept
    by None found is = absurd (cc is)
    by (Some row) found is = named row found (bytes_eq (name_of row.key) name) is

unless_short : (failed : Bool) (name : Bytes) (file : Option Bytes) (kept : Kept) → entry_unless failed (entry_of name file) ≡ Some kept → IsShort kept
unless_short true name file kept is = absurd (cc is)
unless_short false name None kept is = absurd (cc is)
unless_short false name (Some file) kept is = entry_short name file kept is

all_short : (f : Bytes → Option Kept) → ((name : Bytes) (kept : Kept) → f name ≡ Some kept → IsShort kept) → (names : List Bytes) → All IsShort (filter_map f names)
all_short f each [] = All-nil IsShort
all_short f each (name ∷ names) = by (f name) refl (all_short f each names)
  where
    by : (o : Option Kept) → f name ≡ o → All IsShort (filter_map f names) → All IsShort (cons_option o (filter_map f names))
    by None is more = more
    by (Some kept) is more = All-cons IsShort kept (filter_map f names) (each name kept is) more

pub rows_short : OpenedRowsAreShort
rows_short files log = all_short (λ name. entry_unless (failed_on log name) (entry_of name (file_of name files))) (λ name kept is. unless_short (failed_on log name) name (file_of name files) kept is) (names_in files)
