-- What is to come of a response lies within its version, and its body brings no more.
use Rattle.std.proofs.Common.{◌≡◌, refl, ℕ, ◌+◌, ◌-◌, ◌<◌, ◌≤◌, nat_lt, Bool, true, false, ◌==◌, List, length, take, Option, Some, None, Result, Ok, Err, sym, subst, ap, ◌∙◌, le_refl, length-take, arith}
use Rattle.std.proofs.Math.Nat.{min-le_left}
use Rattle.pp_framing.specs.Framing.{has_no_body, rule_of}
use Rattle.pp_framing.specs.Rules.{body_of}
use Rattle.pp_framing.specs.declared.body.BodyRule.{BodyRule}
use Rattle.pp_framing.specs.declared.body.BodyRule.TheVariants.{Empty, Length}
use Rattle.pp_framing.specs.declared.framing.ResponseFault.{ResponseFault}
use Rattle.pp_head.specs.Response.{Response}
use Rattle.pp_plan.specs.Requests.{is_head}
use Rattle.pp_text.specs.Fields.{Field}
use Rattle.pp_valid.specs.ContentRanges.{content_range_of}
use Rattle.pp_valid.specs.Versions.{body_length}
use Rattle.pp_valid.specs.declared.content_range.ContentRange.{ContentRange}
use Rattle.pp_valid.specs.declared.content_range.ContentRange.TheVariants.{Span}
use Rattle.pp_valid.specs.declared.version.Version.{Version}
use Rattle.pp_law.specs.Lists.{Bytes}
use Rattle.pp_law.specs.OwnHeads.{asks_only_identity, end_in, first_in, first_offset, range_in, version_in}
use Rattle.pp_law.specs.Responses.{asks_head}
use Rattle.pp_law.specs.Stages.{is_through}
use Rattle.pp_law.specs.State.{Aim, Through, Own, Filling, Exchange}
use Rattle.pp_laws.proofs.Tests.{same_number}
use Rattle.pp_laws_spans.specs.Spans.{BodiesFillSpans, SpansAreWithin}
use Rattle.pp_laws_spans.proofs.Lengths.{Told, range_ranged, Ranged, part, rule_told, version_told, whole}

-- ---- the span

-- of all of it
whole_range : (head : Response) → (head.status == 200) ≡ true → range_in head ≡ None
whole_range head is = ap (λ (t : Bool). elim t as (λ c. Option ContentRange) [ true ↦ content_range_of head.fields | false ↦ None ]) (ap (λ n. n == 206) (same_number head.status 200 is))

part_range : (head : Response) (first last n : ℕ) → (head.status == 206) ≡ true → content_range_of head.fields ≡ Some (Span first last n) → range_in head ≡ Some (Span first last n)
part_range head first last n is range = ap (λ (t : Bool). elim t as (λ c. Option ContentRange) [ true ↦ content_range_of head.fields | false ↦ None ]) is ∙ range

in_order : (fields : List Field) (first last n : ℕ) → content_range_of fields ≡ Some (Span first last n) → (first ≤ last) × (last < n)
in_order fields first last n range = subst (λ (o : Option ContentRange). Ranged o) range (range_ranged fields)

-- where it begins and ends, and how many bytes it has
record SpanIn (head : Response) (n : ℕ) : Type 0 where
  first : ℕ
  end : ℕ
  len : ℕ
  begins : first_offset head ≡ first
  ends : end_in (range_in head) n ≡ end
  all : first + len ≡ end
  within : end ≤ n
  valid : nat_lt head.status 100 ≡ false
  bodied : has_no_body false head.status ≡ false
  told : body_length head.fields ≡ Some len

span_told : (head : Response) (n : ℕ) → Told head.status head.fields n → SpanIn head n
span_told head n (whole is told) = record {
  first = 0;
  end = n;
  len = n;
  begins = ap first_in (whole_range head is);
  ends = ap (λ (o : Option ContentRange). end_in o n) (whole_range head is);
  all = omega arith;
  within = le_refl n;
  valid = ap (λ k. nat_lt k 100) (same_number head.status 200 is);
  bodied = ap (has_no_body false) (same_number head.status 200 is);
  told = told;
}
span_told head n (part is first last range told) =
    let order = in_order head.fields first last n range in
    record {
      first = first;
      end = last + 1;
      len = last - first + 1;
      begins = ap first_in (part_range head first last n is range);
      ends = ap (λ (o : Option ContentRange). end_in o n) (part_range head first last n is range);
      all = spanned first last order.0;
      within = behind last n order.1;
      valid = ap (λ k. nat_lt k 100) (same_number head.status 206 is);
      bodied = ap (has_no_body false) (same_number head.status 206 is);
      told = told;
    }
  where
    spanned : (a b : ℕ) → a ≤ b → a + (b - a + 1) ≡ b + 1
    spanned a b le = omega arith

    behind : (a b : ℕ) → a < b → a + 1 ≤ b
    behind a b lt = omega arith

span_in : (e : Exchange) (head : Response) (v : Version) → version_in e head ≡ Some v → SpanIn head v.length
span_in e head v is = span_told head v.length (version_told head.fields head.status (asks_only_identity e) v is)

pub spans_within : SpansAreWithin
spans_within e head v is = let s = span_in e head v is in record {
  order = ordered (first_offset head) (end_in (range_in head) v.length) s.first s.end s.len s.begins s.ends s.all;
  ends = subst (λ n. n ≤ v.length) (sym s.ends) s.within;
}
  where
    ordered : (a b first end len : ℕ) → a ≡ first → b ≡ end → first + len ≡ end → a ≤ b
    ordered a b first end len one two all = omega arith

-- ---- its body

asks_none : (e : Exchange) → is_through e ≡ false → asks_head e ≡ false
asks_none e is = by e.aim is
  where
    by : (aim : Aim) → (elim aim as (λ c. Bool) [ Through ↦ true | Own ↦ false | Filling v from to ↦ false ]) ≡ false → (elim aim as (λ c. Bool) [ Through ↦ is_head e.head.method | Own ↦ false | Filling v from to ↦ false ]) ≡ false
    by Through at = absurd (cc at)
    by Own at = refl
    by (Filling v from to) at = refl

rule_in : Result BodyRule ResponseFault → BodyRule
rule_in (Ok rule) = rule
rule_in (Err fault) = Empty

pub bodies_fill : BodiesFillSpans
unfolding rule_in
bodies_fill e head v rule raw own is found =
    let s = span_in e head v is in
    let known : rule_of (asks_head e) head.status head.fields ≡ Ok (Length s.len) = ap (λ b. rule_of b head.status head.fields) (asks_none e own) ∙ rule_told head.status head.fields s.len s.valid s.bodied s.told in
    let one : rule ≡ Length s.len = ap rule_in (sym found ∙ known) in
    subst (λ (r : BodyRule). first_offset head + length (body_of r raw).payload ≤ end_in (range_in head) v.length) (sym one)
    (filled (first_offset head) (end_in (range_in head) v.length) s.first s.end s.len (length (take s.len raw)) s.begins s.ends s.all (taken s.len raw))
  where
    taken : (n : ℕ) (xs : Bytes) → length (take n xs) ≤ n
    taken n xs = subst (λ m. m ≤ n) (sym (length-take n xs)) (min-le_left n (length xs))

    filled : (a b first end len m : ℕ) → a ≡ first → b ≡ end → first + len ≡ end → m ≤ len → a + m ≤ b
    filled a b first end len m one two all le = omega arith
