-- The span of a request in a version (RFC 7233, sections 2.1 and 4.4): a part is not empty, and within the body.
use Rattle.std.proofs.Common.{◌≡◌, refl, ℕ, ◌+◌, ◌-◌, ◌<◌, ◌≤◌, nat_le, nat_lt, min, Bool, true, false, ◌==◌, List, Option, Some, None, option_and_then, if◌then◌else◌, codes, sym, subst, le_refl, zero-le, arith}
use Rattle.std.proofs.lemmas.Bool.Decides.{nat_tests}
use Rattle.pp_head.specs.Request.{Request}
use Rattle.pp_plan.specs.Spans.{resolve_known, resolved}
use Rattle.pp_ranges.specs.Ranges.{IsInOrder, IsPartOf, range_of, range_of_ends, range_of_item, range_of_set, range_of_specifier, resolve, span_of as range_span, spec_of, suffix_of}
use Rattle.pp_ranges.specs.declared.range.Range.{Range}
use Rattle.pp_ranges.specs.declared.range.Range.TheVariants.{Span, From, Last}
use Rattle.pp_ranges.specs.declared.range.Resolved.{Resolved}
use Rattle.pp_ranges.specs.declared.range.Resolved.TheVariants.{Whole as OfAll, Part as OfPart, Unsatisfiable as OfNone}
use Rattle.pp_text.specs.Bytes.{is_empty, is_same}
use Rattle.pp_text.specs.Fields.{Field, values_of}
use Rattle.pp_text.specs.Numbers.{number_of}
use Rattle.pp_text.specs.Lists.{items_of}
use Rattle.pp_text.specs.Parts.{cut_at, sole}
use Rattle.pp_valid.specs.Conditions.{if_range_holds}
use Rattle.pp_valid.specs.declared.version.Version.{Version}
use Rattle.pp_world.specs.declared.note.Decision.{Decision}
use Rattle.pp_world.specs.declared.note.Decision.TheVariants.{Refuse, Hit, Part, Head, NotModified, Unsatisfiable, Relay, Validate, Fetch, Pass}
use Rattle.pp_law.specs.Deciding.{span_of}
use Rattle.pp_laws.proofs.Tests.{below}
use Rattle.pp_laws_replies.proofs.ByRowLemmas.{Shows, SpanOf}

-- ---- a range that counts is in order

abbrev Ordered : Option Range → Type 0
Ordered None = Unit {0}
Ordered (Some range) = IsInOrder range

ordered_then : {A : Type 0} (f : A → Option Range) (o : Option A) → ((a : A) → Ordered (f a)) → Ordered (option_and_then f o)
ordered_then f None each = tt
ordered_then f (Some a) each = each a

ordered_if : (t : Bool) (x y : Option Range) → Ordered x → Ordered y → Ordered (if t then x else y)
ordered_if true x y hx hy = hx
ordered_if false x y hx hy = hy

span_ordered : (first last : ℕ) (t : Bool) → nat_le first last ≡ t → Ordered (if t then Some (Span first last) else None)
span_ordered first last true is = grind (arith, nat_tests)
span_ordered first last false is = tt

spec_ordered : (first : ℕ) (last : List ℕ) → Ordered (spec_of first last)
spec_ordered first last = ordered_if (is_empty last) (Some (From first)) _ tt (ordered_then (range_span first) (number_of last) (λ n. span_ordered first n (nat_le first n) refl))

suffix_ordered : (last : List ℕ) → Ordered (suffix_of last)
suffix_ordered last = ordered_then (λ n. Some (Last n)) (number_of last) (λ n. tt)

ends_ordered : (ends : List ℕ × List ℕ) → Ordered (range_of_ends ends)
ends_ordered ends = ordered_if (is_empty ends.0) (suffix_of ends.1) _ (suffix_ordered ends.1) (ordered_then (λ first. spec_of first ends.1) (number_of ends.0) (λ first. spec_ordered first ends.1))

item_ordered : (item : List ℕ) → Ordered (range_of_item item)
item_ordered item = ordered_then range_of_ends (cut_at 45 item) ends_ordered

set_ordered : (set : List ℕ) → Ordered (range_of_set set)
set_ordered set = ordered_then range_of_item (sole (items_of set)) item_ordered

specifier_ordered : (parts : List ℕ × List ℕ) → Ordered (range_of_specifier parts)
specifier_ordered parts = ordered_if (is_same (codes "bytes") parts.0) (range_of_set parts.1) None (set_ordered parts.1) tt

range_ordered : (fields : List Field) → Ordered (range_of fields)
range_ordered fields = ordered_then range_of_specifier (option_and_then (cut_at 61) (sole (values_of (codes "range") fields))) specifier_ordered

-- ---- so is what it stands for

in_part : (first to n : ℕ) (t : Bool) → nat_lt first n ≡ t → (first < n → (first < to) × (to ≤ n)) → IsPartOf n (if t then OfPart first to else OfNone)
in_part first to n true is has = has (below first n is)
in_part first to n false is has = tt

spanned : (first last n : ℕ) → first ≤ last → first < n → (first < min (last + 1) n) × (min (last + 1) n ≤ n)
spanned first last n le lt = (omega arith, omega arith)

not_none : (m : ℕ) → (m == 0) ≡ false → 0 < m
not_none m isnt = grind (arith, nat_tests)

suffix : (len n : ℕ) → 0 < len → 0 < n → (n - min len n < n) × (n ≤ n)
suffix len n some more = (omega arith, le_refl n)

last_part : (len n : ℕ) (t u : Bool) → (len == 0) ≡ t → (n == 0) ≡ u → IsPartOf n (if t then OfNone else (if u then OfAll else OfPart (n - min len n) n))
last_part len n true u is none = tt
last_part len n false true is none = tt
last_part len n false false is none = suffix len n (not_none len is) (not_none n none)

range_part : (range : Range) (n : ℕ) → IsInOrder range → IsPartOf n (resolve range n)
range_part (Span first last) n order = in_part first (min (last + 1) n) n (nat_lt first n) refl (λ lt. spanned first last n order lt)
range_part (From first) n order = in_part first n n (nat_lt first n) refl (λ lt. (lt, le_refl n))
range_part (Last len) n order = last_part len n (len == 0) (n == 0) refl refl

known_part : (o : Option Range) (n : ℕ) → Ordered o → IsPartOf n (resolve_known o n)
known_part None n order = tt
known_part (Some range) n order = range_part range n order

part_if : (t : Bool) (n : ℕ) (res : Resolved) → IsPartOf n res → IsPartOf n (if t then res else OfAll)
part_if true n res is = is
part_if false n res is = tt

pub part_of : (fields : List Field) (v : Version) → IsPartOf v.length (resolved fields v)
part_of fields v = part_if (if_range_holds fields v.tag) v.length (resolve_known (range_of fields) v.length) (known_part (range_of fields) v.length (range_ordered fields))

-- ---- and what a reply shows

shown_end : (res : Resolved) (n from to : ℕ) → IsPartOf n res → Shows res n from to → to ≤ n
shown_end OfAll n from to is shows = subst (λ m. m ≤ n) (sym shows.1) (le_refl n)
shown_end (OfPart first end) n from to is shows = subst (λ m. m ≤ n) (sym shows.1) is.1
shown_end OfNone n from to is shows = absurd shows

shown_order : (res : Resolved) (n from to : ℕ) → IsPartOf n res → Shows res n from to → from ≤ to
shown_order OfAll n from to is shows = subst (λ m. m ≤ to) (sym shows.0) zero-le
shown_order (OfPart first end) n from to is shows = let one : from ≡ first = shows.0 in let two : to ≡ end = shows.1 in let lt : first < end = is.0 in omega arith
shown_order OfNone n from to is shows = absurd shows

-- it ends with the body at the latest
pub span_end : (head : Request) (v : Version) (d : Decision) → SpanOf head v d → (span_of d).1 ≤ v.length
span_end head v (Refuse status) span = zero-le
span_end head v (Hit from to) span = shown_end (resolved head.fields v) v.length from to (part_of head.fields v) span
span_end head v (Part from to) span = shown_end (resolved head.fields v) v.length from to (part_of head.fields v) span
span_end head v Head span = zero-le
span_end head v NotModified span = zero-le
span_end head v Unsatisfiable span = zero-le
span_end head v Relay span = zero-le
span_end head v Validate span = zero-le
span_end head v Fetch span = zero-le
span_end head v Pass span = zero-le

pub span_order : (head : Request) (v : Version) (d : Decision) → SpanOf head v d → (span_of d).0 ≤ (span_of d).1
span_order head v (Refuse status) span = zero-le
span_order head v (Hit from to) span = shown_order (resolved head.fields v) v.length from to (part_of head.fields v) span
span_order head v (Part from to) span = shown_order (resolved head.fields v) v.length from to (part_of head.fields v) span
span_order head v Head span = zero-le
span_order head v NotModified span = zero-le
span_order head v Unsatisfiable span = zero-le
span_order head v Relay span = zero-le
span_order head v Validate span = zero-le
span_order head v Fetch span = zero-le
span_order head v Pass span = zero-le
