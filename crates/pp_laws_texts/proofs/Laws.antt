-- The law: the lines of a row have room in a head.
use Rattle.std.proofs.Common.{◌≡◌, refl, ℕ, ◌≤◌, ◌^◌, nat_le, Bool, true, false, ◌&&◌, List, ◌++◌, bytes_eq, codes, length, Option, Some, None, option_and_then, option_map, if◌then◌else◌, sym, subst, not, le_refl, le_trans, length-append, arith}
use Rattle.std.proofs.lemmas.Bool.Decides.{nat_tests}
use Rattle.pp_entry.specs.Entries.{Own, Row, is_spelled, kept_in, own_in, row_at, row_from, row_if_spelled, row_of, row_with}
use Rattle.pp_entry.specs.Fields.{are_allowed}
use Rattle.pp_entry.specs.Texts.{fits, head_text, own_lines, padded}
use Rattle.pp_fresh.specs.declared.aging.Times.{Times}
use Rattle.pp_head.specs.Read.{Read, Whole, TooLong, Bad, More}
use Rattle.pp_head.specs.Response.{Response, response_at}
use Rattle.pp_objects.specs.Kept.{is_passing, kept_of, lasting_of}
use Rattle.pp_shelf_law.proofs.KeptFields.{read_kept}
use Rattle.pp_text.specs.Fields.{Field}
use Rattle.pp_text.specs.Lines.{crlf, lines_of}
use Rattle.pp_valid.specs.Kept.{has_room_for}
use Rattle.pp_valid.specs.TagStates.{tag_of}
use Rattle.pp_valid.specs.Versions.{can_keep, can_share, is_telling, strong_part, total_of, version_of, version_with}
use Rattle.pp_valid.specs.declared.version.Version.{Version}
use Rattle.pp_law.specs.Lists.{Bytes}
use Rattle.pp_laws.proofs.Tests.{first_holds, second_holds}
use Rattle.pp_laws_fields.proofs.Laws.{obeys-keeps}
use Rattle.pp_laws_fields.proofs.View.{Closed, facts_of}
use Rattle.pp_laws_texts.specs.Texts.{TurnsHaveLines}
use Rattle.pp_laws_texts.proofs.Sizes.{fewer, kept_lasts, kept_size, refreshed_lasts, refreshed_size, size}

-- those that last, and all
record IsShort (v : Version) (fields : List Field) (times : Times) : Type 0 where
  lasts : size (lasting_of fields) ≤ 16384
  all : size fields ≤ 18432

-- ---- of a response that has a version

room_by : (fields : List Field) (only : Bool) (tag : List ℕ) (n : ℕ) (v : Version) (t : Bool) → (is_telling tag && (can_keep fields n && can_share fields only)) ≡ t
    → (if t then Some (record { tag = tag; length = n }) else None) ≡ Some v → has_room_for fields ≡ true
room_by fields only tag n v true can is = second_holds (nat_le n (2 ^ 30)) (has_room_for fields) (first_holds (can_keep fields n) (can_share fields only) (second_holds (is_telling tag) (can_keep fields n && can_share fields only) can))
room_by fields only tag n v false can is = absurd (cc is)

made_room : (fields : List Field) (status : ℕ) (only : Bool) (v : Version) → version_of fields status only ≡ Some v → has_room_for fields ≡ true
made_room fields status only v is = by_tag (strong_part (tag_of fields)) is
  where
    by_total : (tag : List ℕ) (o : Option ℕ) → option_and_then (version_with fields only tag) o ≡ Some v → has_room_for fields ≡ true
    by_total tag None at = absurd (cc at)
    by_total tag (Some n) at = room_by fields only tag n v (is_telling tag && (can_keep fields n && can_share fields only)) refl at

    by_tag : (o : Option (List ℕ)) → option_and_then (λ tag. option_and_then (version_with fields only tag) (total_of fields status)) o ≡ Some v → has_room_for fields ≡ true
    by_tag None at = absurd (cc at)
    by_tag (Some tag) at = by_total tag (total_of fields status) at

-- ---- of an entry

within : (n m : ℕ) → nat_le n m ≡ true → n ≤ m
within n m is = grind (arith, nat_tests)

text_holds : (key : List ℕ) (n : ℕ) (fields : List Field) (times : Times) → size fields ≤ length (head_text key n fields times)
unfolding head_text
text_holds key n fields times =
    let a = length-append (codes "HTTP/1.1 200 OK\r\n") (lines_of fields) in
    let b = length-append (codes "HTTP/1.1 200 OK\r\n" ++ lines_of fields) (own_lines key n times) in
    let c = length-append (codes "HTTP/1.1 200 OK\r\n" ++ lines_of fields ++ own_lines key n times) crlf in
    omega arith

spelled_size : (block : List ℕ) (own : Own) (kept : List Field) → is_spelled block own kept ≡ true → size kept ≤ 8192
spelled_size block own kept is =
    let text : List ℕ = head_text own.key own.length kept own.times in
    let fit : fits kept text ≡ true = first_holds (fits kept text) (bytes_eq (padded text) block) is in
    le_trans (text_holds own.key own.length kept own.times) (within (length text) 8192 (second_holds (nat_le (length kept) 95) (nat_le (length text) 8192) fit))

read_size : (block : Bytes) (row : Row) → row_at block ≡ Some row → size row.fields ≤ 8192
unfolding row_at
read_size block row is = by_read (response_at block) is
  where
    of_row : (own : Own) (kept : List Field) (t : Bool) → size kept ≤ 8192 → (if t then option_map (row_with own kept) (strong_part (tag_of kept)) else None) ≡ Some row → size row.fields ≤ 8192
    of_row own kept true le at = by (strong_part (tag_of kept)) at
      where
        by : (o : Option (List ℕ)) → option_map (row_with own kept) o ≡ Some row → size row.fields ≤ 8192
        by None found = absurd (cc found)
        by (Some tag) found = let e : row_with own kept tag ≡ row = cc found in subst (λ (r : Row). size r.fields ≤ 8192) e le
    of_row own kept false le at = absurd (cc at)

    by_spelled : (own : Own) (kept : List Field) (t : Bool) → is_spelled block own kept ≡ t → (if t then row_of own kept else None) ≡ Some row → size row.fields ≤ 8192
    by_spelled own kept true spelled at = of_row own kept (are_allowed kept own.times.response) (spelled_size block own kept spelled) at
    by_spelled own kept false spelled at = absurd (cc at)

    by_own : (fields : List Field) (o : Option Own) → option_and_then (λ own. row_if_spelled block own (kept_in own fields)) o ≡ Some row → size row.fields ≤ 8192
    by_own fields None at = absurd (cc at)
    by_own fields (Some own) at = by_spelled own (kept_in own fields) (is_spelled block own (kept_in own fields)) refl at

    by_read : (read : Read Response) → row_from block read ≡ Some row → size row.fields ≤ 8192
    by_read (Whole head) at = by_own head.fields (own_in head.fields) at
    by_read TooLong at = absurd (cc at)
    by_read Bad at = absurd (cc at)
    by_read More at = absurd (cc at)

more : (n k m : ℕ) → n ≤ k → k ≤ 8192 → 8192 ≤ m → n ≤ m
more n k m one two three = omega arith

read_short : (block : Bytes) (row : Row) → row_at block ≡ Some row → IsShort row.version (kept_of row.fields row.times) row.times
read_short block row is =
    subst (λ (fs : List Field). IsShort row.version fs row.times) (sym (read_kept block row is)) (record {
      lasts = more (size (lasting_of row.fields)) (size row.fields) 16384 (fewer (λ f. not (is_passing f)) row.fields) (read_size block row is) (omega arith);
      all = more (size row.fields) (size row.fields) 18432 (le_refl (size row.fields)) (read_size block row is) (omega arith);
    })

-- ---- all

closed_short : Closed IsShort
closed_short = record {
  made = λ fields status only v times is. record { lasts = kept_lasts fields times (made_room fields status only v is); all = kept_size fields times (made_room fields status only v is) };
  renewed = λ v kept fields before times room has. record { lasts = refreshed_lasts kept fields times has.lasts; all = refreshed_size kept fields times room has.lasts };
  read = λ block row is. read_short block row is;
}

pub turns_have_lines : TurnsHaveLines
turns_have_lines terms s log obeys =
    let f = facts_of (obeys-keeps closed_short terms s log obeys) in
    record { rows = λ x i. (f.rows x i).all; entries = λ e i. (f.kept e i).all }
