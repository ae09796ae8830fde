-- How long a head is that is made from a row.
use Rattle.std.proofs.Common.{◌≡◌, ℕ, ◌+◌, ◌-◌, ◌<◌, ◌≤◌, ◌^◌, min, Bool, true, false, List, [], ◌++◌, filter, length, Option, Some, None, codes, decimal, le_trans, length-append, zero-le, arith, lit<}
use Rattle.std.proofs.Math.Nat.{min-le_right}
use Rattle.std.proofs.lemmas.Fmt.{length-decimal-le}
use Rattle.pp_fresh.specs.Age.{age_of, within_64_bits}
use Rattle.pp_plan.specs.Spans.{resolved}
use Rattle.pp_reply.specs.Kept.{age_line, byte_range_resp, content_range_line, head_with, is_described, not_modified_head, part_head, unsatisfiable_page, unsatisfiable_title, unsatisfied_range, whole_head}
use Rattle.pp_reply.specs.Texts.{connection_line, crlf, length_line, line, via_line}
use Rattle.pp_text.specs.Fields.{Field}
use Rattle.pp_text.specs.Lines.{lines_of}
use Rattle.pp_world.specs.declared.note.Decision.{Decision}
use Rattle.pp_world.specs.declared.note.Decision.TheVariants.{Refuse, Hit, Part, Head, NotModified, Unsatisfiable, Relay, Validate, Fetch, Pass}
use Rattle.pp_law.specs.Deciding.{span_of}
use Rattle.pp_law.specs.Lists.{Bytes}
use Rattle.pp_law.specs.Replies.{age_shown, body_head, has_plain_age, instance_head, is_part}
use Rattle.pp_law.specs.Requests.{Parsed, keeps_open}
use Rattle.pp_law.specs.State.{State, Client, Instance}
use Rattle.pp_laws_fields.proofs.Laws.{turns_keep_fields}
use Rattle.pp_laws_texts.specs.Texts.{HeadsHaveRoom}
use Rattle.pp_laws_texts.proofs.Laws.{turns_have_lines}
use Rattle.pp_laws_texts.proofs.Sizes.{fewer, size}

-- ---- lines

number_len : (n : ℕ) → n < 2 ^ 64 → length (decimal n) ≤ 20
number_len n fits = length-decimal-le 20 n (lit< tt) (omega (arith, fits)) fits

line_len : (name value : List ℕ) → length (line name value) ≡ length name + 4 + length value
line_len name value =
    let a = length-append name (codes ": ") in
    let b = length-append (name ++ codes ": ") value in
    let c = length-append (name ++ codes ": " ++ value) crlf in
    omega arith

length_len : (n : ℕ) → n < 2 ^ 64 → length (length_line n) ≤ 38
length_len n fits = let a = line_len (codes "content-length") (decimal n) in let b = number_len n fits in omega arith

connection_len : (keep : Bool) → length (connection_line keep) ≤ 24
connection_len true = let a = line_len (codes "connection") (codes "keep-alive") in omega arith
connection_len false = let a = line_len (codes "connection") (codes "close") in omega arith

via_len : (name : List ℕ) → length name ≤ 64 → length (via_line name) ≤ 75
via_len name le =
    let a = length-append (codes "via: 1.1 ") name in
    let b = length-append (codes "via: 1.1 " ++ name) crlf in
    omega arith

-- an age of 64 bits
abbrev pub IsAge : Option ℕ → Type 0
IsAge None = Unit {0}
IsAge (Some n) = n < 2 ^ 64

age_len : (age : Option ℕ) → IsAge age → length (age_line age) ≤ 27
age_len None is = zero-le
age_len (Some n) is = let a = line_len (codes "age") (decimal n) in let b = number_len n is in omega arith

range_len : (range : List ℕ) → length (content_range_line range) ≡ 23 + length range
range_len range = let a = line_len (codes "content-range") (codes "bytes " ++ range) in let b = length-append (codes "bytes ") range in omega arith

span_len : (from to n : ℕ) → from < 2 ^ 64 → to < 2 ^ 64 → n < 2 ^ 64 → length (byte_range_resp from to n) ≤ 62
span_len from to n one two three =
    let a = length-append (decimal from) (codes "-") in
    let b = length-append (decimal from ++ codes "-") (decimal (to - 1)) in
    let c = length-append (decimal from ++ codes "-" ++ decimal (to - 1)) (codes "/") in
    let d = length-append (decimal from ++ codes "-" ++ decimal (to - 1) ++ codes "/") (decimal n) in
    let e = number_len from one in
    let f = number_len (to - 1) (omega arith) in
    let g = number_len n three in
    omega arith

-- ---- heads

head_len : (title : List ℕ) (fields : List Field) (age : Option ℕ) (name framing : List ℕ) (keep : Bool) → length title ≤ 40 → size fields ≤ 18432 → IsAge age → length name ≤ 64 → length framing ≤ 123
    → length (head_with title fields age name framing keep) ≤ 20480
head_len title fields age name framing keep short lines is named framed =
    let a = length-append (codes "HTTP/1.1 ") title in
    let b = length-append (codes "HTTP/1.1 " ++ title) crlf in
    let c = length-append (codes "HTTP/1.1 " ++ title ++ crlf) (lines_of fields) in
    let d = length-append (codes "HTTP/1.1 " ++ title ++ crlf ++ lines_of fields) (age_line age) in
    let e = length-append (codes "HTTP/1.1 " ++ title ++ crlf ++ lines_of fields ++ age_line age) (via_line name) in
    let f = length-append (codes "HTTP/1.1 " ++ title ++ crlf ++ lines_of fields ++ age_line age ++ via_line name) framing in
    let g = length-append (codes "HTTP/1.1 " ++ title ++ crlf ++ lines_of fields ++ age_line age ++ via_line name ++ framing) (connection_line keep) in
    let h = length-append (codes "HTTP/1.1 " ++ title ++ crlf ++ lines_of fields ++ age_line age ++ via_line name ++ framing ++ connection_line keep) crlf in
    let i = age_len age is in
    let j = via_len name named in
    let k = connection_len keep in
    omega arith

pub whole_len : (n : ℕ) (fields : List Field) (age : Option ℕ) (name : List ℕ) (keep : Bool) → n < 2 ^ 64 → size fields ≤ 18432 → IsAge age → length name ≤ 64 → length (whole_head n fields age name keep) ≤ 20480
whole_len n fields age name keep fits lines is named = head_len (codes "200 OK") fields age name (length_line n) keep (omega arith) lines is named (le_trans (length_len n fits) (omega arith))

pub part_len : (from to n : ℕ) (fields : List Field) (age : Option ℕ) (name : List ℕ) (keep : Bool) → from < 2 ^ 64 → to < 2 ^ 64 → n < 2 ^ 64 → size fields ≤ 18432 → IsAge age → length name ≤ 64
    → length (part_head from to n fields age name keep) ≤ 20480
part_len from to n fields age name keep one two fits lines is named = head_len (codes "206 Partial Content") fields age name (content_range_line (byte_range_resp from to n) ++ length_line (to - from)) keep (omega arith) lines is named framed
  where
    framed : length (content_range_line (byte_range_resp from to n) ++ length_line (to - from)) ≤ 123
    framed =
        let a = length-append (content_range_line (byte_range_resp from to n)) (length_line (to - from)) in
        let b = range_len (byte_range_resp from to n) in
        let c = span_len from to n one two fits in
        let d = length_len (to - from) (omega arith) in
        omega arith

pub unchanged_len : (fields : List Field) (age : Option ℕ) (name : List ℕ) (keep : Bool) → size fields ≤ 18432 → IsAge age → length name ≤ 64 → length (not_modified_head fields age name keep) ≤ 20480
unchanged_len fields age name keep lines is named = head_len (codes "304 Not Modified") (filter is_described fields) age name [] keep (omega arith) (le_trans (fewer is_described fields) lines) is named zero-le

pub page_len : (n : ℕ) (keep : Bool) → n < 2 ^ 64 → length (unsatisfiable_page n keep) ≤ 20480
page_len n keep fits =
    let a = length-append (codes "HTTP/1.1 ") unsatisfiable_title in
    let b = length-append (codes "HTTP/1.1 " ++ unsatisfiable_title) crlf in
    let c = length-append (codes "HTTP/1.1 " ++ unsatisfiable_title ++ crlf) (content_range_line (unsatisfied_range n)) in
    let d = length-append (codes "HTTP/1.1 " ++ unsatisfiable_title ++ crlf ++ content_range_line (unsatisfied_range n)) (line (codes "content-type") (codes "text/plain")) in
    let e = length-append (codes "HTTP/1.1 " ++ unsatisfiable_title ++ crlf ++ content_range_line (unsatisfied_range n) ++ line (codes "content-type") (codes "text/plain")) (length_line (length unsatisfiable_title + 1)) in
    let f = length-append (codes "HTTP/1.1 " ++ unsatisfiable_title ++ crlf ++ content_range_line (unsatisfied_range n) ++ line (codes "content-type") (codes "text/plain") ++ length_line (length unsatisfiable_title + 1)) (connection_line keep) in
    let g = length-append (codes "HTTP/1.1 " ++ unsatisfiable_title ++ crlf ++ content_range_line (unsatisfied_range n) ++ line (codes "content-type") (codes "text/plain") ++ length_line (length unsatisfiable_title + 1) ++ connection_line keep) crlf in
    let h = length-append (codes "HTTP/1.1 " ++ unsatisfiable_title ++ crlf ++ content_range_line (unsatisfied_range n) ++ line (codes "content-type") (codes "text/plain") ++ length_line (length unsatisfiable_title + 1) ++ connection_line keep ++ crlf) unsatisfiable_title in
    let i = length-append (codes "HTTP/1.1 " ++ unsatisfiable_title ++ crlf ++ content_range_line (unsatisfied_range n) ++ line (codes "content-type") (codes "text/plain") ++ length_line (length unsatisfiable_title + 1) ++ connection_line keep ++ crlf ++ unsatisfiable_title) (codes "\n") in
    let j = range_len (unsatisfied_range n) in
    let k = length-append (codes "*/") (decimal n) in
    let l = number_len n fits in
    let m = line_len (codes "content-type") (codes "text/plain") in
    let o = length_len (length unsatisfiable_title + 1) (omega arith) in
    let p = connection_len keep in
    omega arith

-- ---- of an instance

age_fits : (s : State) (c : Client) (x : Instance) → IsAge (age_shown s c x)
age_fits s c x = by (has_plain_age x.id c.brought)
  where
    within : (n : ℕ) → within_64_bits n < 2 ^ 64
    within n = let le : min n (2 ^ 64 - 1) ≤ 2 ^ 64 - 1 = min-le_right n (2 ^ 64 - 1) in omega arith

    by : (t : Bool) → IsAge (elim t as (λ z. Option ℕ) [ true ↦ None | false ↦ Some (age_of x.times s.clock) ])
    by true = tt
    by false = within (x.times.initial + (s.clock - x.times.response))

module _ (s : State) (r : Parsed) (c : Client) (x : Instance) (short : x.version.length ≤ 2 ^ 30) (lines : size x.fields ≤ 18432) (named : length s.settings.name ≤ 64) where
  fits : x.version.length < 2 ^ 64
  fits = omega (arith, short)

  body_len : (from to : ℕ) → from ≤ to → to ≤ x.version.length → length (body_head s r c x (from, to)) ≤ 20480
  body_len from to order ends = by (is_part (resolved r.head.fields x.version))
    where
      by : (t : Bool) → length (elim t as (λ z. Bytes) [
        | true ↦ part_head from to x.version.length x.fields (age_shown s c x) s.settings.name (keeps_open r)
        | false ↦ whole_head x.version.length x.fields (age_shown s c x) s.settings.name (keeps_open r)
      ]) ≤ 20480
      by true = part_len from to x.version.length x.fields (age_shown s c x) s.settings.name (keeps_open r) (omega (arith, short, order, ends)) (omega (arith, short, ends)) fits lines (age_fits s c x) named
      by false = whole_len x.version.length x.fields (age_shown s c x) s.settings.name (keeps_open r) fits lines (age_fits s c x) named

  shown_len : (d : Decision) → (span_of d).0 ≤ (span_of d).1 → (span_of d).1 ≤ x.version.length → length (instance_head s r c x d) ≤ 20480
  shown_len (Hit from to) order ends = body_len from to order ends
  shown_len (Part from to) order ends = body_len from to order ends
  shown_len Head order ends = whole_len x.version.length x.fields (age_shown s c x) s.settings.name (keeps_open r) fits lines (age_fits s c x) named
  shown_len NotModified order ends = unchanged_len x.fields (age_shown s c x) s.settings.name (keeps_open r) lines (age_fits s c x) named
  shown_len Unsatisfiable order ends = page_len x.version.length (keeps_open r) fits
  shown_len (Refuse status) order ends = zero-le
  shown_len Relay order ends = zero-le
  shown_len Validate order ends = zero-le
  shown_len Fetch order ends = zero-le
  shown_len Pass order ends = zero-le

pub heads_have_room : HeadsHaveRoom
heads_have_room terms s log obeys named c r x d i order ends = shown_len s r c x ((turns_keep_fields terms s log obeys).rows x i).short ((turns_have_lines terms s log obeys).rows x i) named d order ends
