-- Blocks that are the spelling of an entry.
use Rattle.std.proofs.Common.{◌≡◌, ◌≤◌, ◌+◌, ◌-◌, ℕ, Bool, true, false, List, ◌++◌, length, map, refl, sym, ◌∙◌, ap, subst, take, replicate, codes, append_assoc, arith, length-append, Option, None}
use Rattle.std.specs.Prelude.{◌&&◌, nat_le, bytes_eq, All, if◌then◌else◌, Result, Ok, Err, is_err}
use Rattle.pp_entry.specs.declared.lines.TooLong.{TooLong}
use Rattle.pp_entry.specs.Puts.{IsHeadPut}
use Rattle.std.proofs.lemmas.Bool.Decides.{nat_tests}
use Rattle.std.proofs.lemmas.List.{length-map}
use Rattle.std.proofs.lemmas.Slice.Eq.{bytes_eq-Decides}
use Rattle.pp_text.specs.Fields.{Field, field_in, IsFieldWithin}
use Rattle.pp_text.specs.Lines.{crlf, lines_of}
use Rattle.pp_text.specs.declared.fields.FieldSpan.{FieldSpan}
use Rattle.pp_fresh.specs.declared.aging.Times.{Times}
use Rattle.pp_head.specs.Read.{Read}
use Rattle.pp_head.specs.Response.{Response, response_at}
use Rattle.pp_entry.specs.Entries.{Row, Own, IsPlaced, is_spelled, kept_in, row_of, row_if_spelled, row_from, row_at}
use Rattle.pp_entry.specs.Fields.{lowered}
use Rattle.pp_entry.specs.Places.{spans_of}
use Rattle.pp_entry.specs.Texts.{head_text, own_lines, fits, padded}
use Rattle.pp_entry.proofs.LineLemmas.{lines-lowered}
use Rattle.pp_entry.proofs.PlaceLemmas.{fields_there, spans_within}

-- names in lower case have the same text
pub text-lowered : (key : List ℕ) (n : ℕ) (fs : List Field) (times : Times) → head_text key n (map lowered fs) times ≡ head_text key n fs times
unfolding head_text
text-lowered key n fs times = ap (λ (lines : List ℕ). codes "HTTP/1.1 200 OK\r\n" ++ lines ++ own_lines key n times ++ crlf) (lines-lowered fs)

-- the test as the code makes it, on the fields as they were read
pub spelled-as : (block : List ℕ) (own : Own) (fields : List Field)
    → is_spelled block own (kept_in own fields)
    ≡ (fits (take own.count fields) (head_text own.key own.length (take own.count fields) own.times) && bytes_eq (padded (head_text own.key own.length (take own.count fields) own.times)) block)
spelled-as block own fields =
    let kept = take own.count fields in
    let text = head_text own.key own.length kept own.times in
    ap (λ (t : List ℕ). fits (kept_in own fields) t && bytes_eq (padded t) block) (text-lowered own.key own.length kept own.times)
    ∙ ap (λ (n : ℕ). (nat_le n 95 && nat_le (length text) 8192) && bytes_eq (padded text) block) (length-map kept lowered)

both : (a b : Bool) → (a && b) ≡ true → (a ≡ true) × (b ≡ true)
both true b is = (refl, is)
both false b is = (is, (let no : ⊥ = cc in absurd no))

-- where a block is a spelling, so many fields were read, and this is what it begins with
pub record IsSpelling (block : List ℕ) (own : Own) (fields : List Field) : Type 0 where
  pub few : length (take own.count fields) ≤ 95
  pub short : length (head_text own.key own.length (take own.count fields) own.times) ≤ 8192
  pub block_is : block ≡ padded (head_text own.key own.length (take own.count fields) own.times)

pub spelled : (block : List ℕ) (own : Own) (fields : List Field) → is_spelled block own (kept_in own fields) ≡ true → IsSpelling block own fields
spelled block own fields is =
    let kept = take own.count fields in
    let text = head_text own.key own.length kept own.times in
    let parts = both (fits kept text) (bytes_eq (padded text) block) (sym (spelled-as block own fields) ∙ is) in
    let limits = both (nat_le (length kept) 95) (nat_le (length text) 8192) parts.0 in
    record {
      few = grind (arith, nat_tests);
      short = grind (arith, nat_tests);
      block_is = sym ((bytes_eq-Decides (padded text) block).0 parts.1);
    }

-- the status line, the lines of the kept fields, and what stands behind them
pub in_parts : (key : List ℕ) (n : ℕ) (fs : List Field) (times : Times)
    → padded (head_text key n fs times)
    ≡ codes "HTTP/1.1 200 OK\r\n" ++ (lines_of fs ++ (own_lines key n times ++ (crlf ++ replicate (8192 - length (head_text key n fs times)) 0)))
unfolding head_text
in_parts key n fs times = simp append_assoc

pub lines_short : (key : List ℕ) (n : ℕ) (fs : List Field) (times : Times) → 17 + length (lines_of fs) ≤ length (head_text key n fs times)
unfolding head_text
lines_short key n fs times =
    omega (arith, length-append (codes "HTTP/1.1 200 OK\r\n") (lines_of fs), length-append (codes "HTTP/1.1 200 OK\r\n" ++ lines_of fs) (own_lines key n times), length-append (codes "HTTP/1.1 200 OK\r\n" ++ lines_of fs ++ own_lines key n times) crlf)

-- the row of a block that is a spelling, whose fields stand at these spans
pub placed : (block : List ℕ) (own : Own) (fields : List Field) (spans : List FieldSpan) (row : Option Row) → row ≡ row_if_spelled block own (kept_in own fields)
    → length block ≡ 8192 → is_spelled block own (kept_in own fields) ≡ true → take own.count spans ≡ spans_of (take own.count fields) → IsPlaced row block spans own
placed block own fields spans row row_is full is spans_are =
    let kept = take own.count fields in
    let pre = codes "HTTP/1.1 200 OK\r\n" in
    let s = spelled block own fields is in
    let post = own_lines own.key own.length own.times ++ (crlf ++ replicate (8192 - length (head_text own.key own.length kept own.times)) 0) in
    let parts : block ≡ pre ++ (lines_of kept ++ post) = s.block_is ∙ in_parts own.key own.length kept own.times in
    let short : 17 + length (lines_of kept) ≤ length block = omega (arith, lines_short own.key own.length kept own.times, s.short, full) in
    let there : map (field_in block) (take own.count spans) ≡ kept_in own fields =
    ap (map (field_in block)) spans_are
    ∙ ap (λ (b : List ℕ). map (field_in b) (spans_of kept)) parts
    ∙ fields_there kept pre post in
    let P : List FieldSpan → Type 0 = All (IsFieldWithin (length block)) in
    record {
      within = subst P (sym spans_are) (spans_within kept 17 (length block) short);
      placed =
          row_is
          ∙ ap (λ (b : Bool). if b then row_of own (kept_in own fields) else None) is
          ∙ ap (row_of own) (sym there);
    }

-- what the code finds by writing it
pub unspelled_if : {A : Type 0} (block : List ℕ) (own : Own) (fields : List Field) (new : List ℕ) (r : Result A TooLong) → is_err r ≡ true
    → IsHeadPut (take own.count fields) (head_text own.key own.length (take own.count fields) own.times) new r → false ≡ is_spelled block own (kept_in own fields)
unspelled_if block own fields new (Ok done) failed put = let never : ⊥ = cc in absurd never
unspelled_if block own fields new (Err fault) failed put =
    let text = head_text own.key own.length (take own.count fields) own.times in
    sym (spelled-as block own fields ∙ ap (λ (b : Bool). b && bytes_eq (padded text) block) put)

pub spelled_if : {A : Type 0} (block : List ℕ) (own : Own) (fields : List Field) (new : List ℕ) (r : Result A TooLong) → is_err r ≡ false
    → IsHeadPut (take own.count fields) (head_text own.key own.length (take own.count fields) own.times) new r → bytes_eq (padded new) block ≡ is_spelled block own (kept_in own fields)
spelled_if block own fields new (Ok done) done_so put =
    let text = head_text own.key own.length (take own.count fields) own.times in
    ap (λ (t : List ℕ). bytes_eq (padded t) block) put.0 ∙ sym (spelled-as block own fields ∙ ap (λ (b : Bool). b && bytes_eq (padded text) block) put.1)
spelled_if block own fields new (Err fault) done_so put = let never : ⊥ = cc in absurd never

-- what a block says follows from the head at its front
pub row_at-is : (block : List ℕ) (state : Read Response) → state ≡ response_at block → row_at block ≡ row_from block state
unfolding row_at
row_at-is block state is = ap (row_from block) (sym is)
