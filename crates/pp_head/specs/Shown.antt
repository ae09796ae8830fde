-- The answers of the code as those of the definitions, and the spans that they are made of.
use Rattle.std.specs.Prelude.{◌≤◌, ℕ, List, length, map, take, All, ⊤}
use Rattle.httparse.specs.Spans.{span_bytes, IsWithin}
use Rattle.httparse.specs.declared.spans.HeaderSpan.{HeaderSpan}
use Rattle.httparse.specs.declared.spans.RequestSpans.{RequestSpans}
use Rattle.httparse.specs.declared.spans.ResponseSpans.{ResponseSpans}
use Rattle.pp_text.specs.Fields.{field_in, IsFieldWithin}
use Rattle.pp_text.specs.declared.fields.FieldSpan.{FieldSpan}
use Rattle.pp_head.specs.Read.{Read, Whole, TooLong, Bad, More}
use Rattle.pp_head.specs.Request.{Request}
use Rattle.pp_head.specs.Response.{Response}
use Rattle.pp_head.specs.declared.state.HeadState.{HeadState}
use Rattle.pp_head.specs.declared.state.HeadState.TheVariants.{Whole as IsWhole, TooLong as IsTooLong, Bad as IsBad, More as IsMore}
use Rattle.pp_head.specs.declared.request.RequestHead.{RequestHead}
use Rattle.pp_head.specs.declared.response.ResponseHead.{ResponseHead}

abbrev pub state_of : {A B : Type 0} → (A → B) → HeadState A → Read B
state_of f (IsWhole head) = Whole (f head)
state_of f IsTooLong = TooLong
state_of f IsBad = Bad
state_of f IsMore = More

-- a fact about the head, where there is one
abbrev pub IfWhole : {A : Type 0} → HeadState A → (A → Type 0) → Type 0
IfWhole (IsWhole head) P = P head
IfWhole IsTooLong P = ⊤
IfWhole IsBad P = ⊤
IfWhole IsMore P = ⊤

abbrev pub shown_request : RequestHead → Request
shown_request head = record { method = head.method.now; target = head.target.now; minor = head.minor; fields = head.fields; length = head.length }

abbrev pub shown_response : ResponseHead → Response
shown_response head = record { minor = head.minor; status = head.status; reason = head.reason.now; fields = head.fields; length = head.length }

-- where a field is, in the spans of `pp_text`
abbrev pub field_span : HeaderSpan → FieldSpan
field_span header = record { name_from = header.name.start; name_to = header.name.end; value_from = header.value.start; value_to = header.value.end }

-- the first so many fields lie in the bytes
pub record AreFieldsWithin (bytes : List ℕ) (fields : List FieldSpan) (count : ℕ) : Type 0 where
  pub few : count ≤ length fields
  pub within : All (IsFieldWithin (length bytes)) (take count fields)

-- what the spans cover
pub record AreRequestSpans (bytes : List ℕ) (fields : List FieldSpan) (spans : RequestSpans) : Type 0 where
  pub method : IsWithin (length bytes) spans.method
  pub target : IsWithin (length bytes) spans.path
  pub section : AreFieldsWithin bytes fields spans.headers

abbrev pub spanned_request : List ℕ → List FieldSpan → RequestSpans → Request
spanned_request bytes fields spans = record {
  method = span_bytes bytes spans.method;
  target = span_bytes bytes spans.path;
  minor = spans.version;
  fields = map (field_in bytes) (take spans.headers fields);
  length = spans.len;
}

pub record AreResponseSpans (bytes : List ℕ) (fields : List FieldSpan) (spans : ResponseSpans) : Type 0 where
  pub reason : IsWithin (length bytes) spans.reason
  pub section : AreFieldsWithin bytes fields spans.headers

abbrev pub spanned_response : List ℕ → List FieldSpan → ResponseSpans → Response
spanned_response bytes fields spans = record {
  minor = spans.version;
  status = spans.code;
  reason = span_bytes bytes spans.reason;
  fields = map (field_in bytes) (take spans.headers fields);
  length = spans.len;
}
