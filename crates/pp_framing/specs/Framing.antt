-- From a head to the rule that delimits the body behind it (RFC 2616, section 4.4).
use Rattle.std.specs.Prelude.{ℕ, Bool, true, false, ◌==◌, ◌&&◌, ◌||◌, not, nat_lt, is_some, List, [], ◌∷◌, fold, slice_get, Option, Some, None, Result, Ok, Err, codes}
use Rattle.std.specs.List.{list_all, filter_map}
use Rattle.pp_text.specs.Bytes.{is_empty, is_same}
use Rattle.pp_text.specs.Fields.{Field, has_field, values_of, list_items}
use Rattle.pp_text.specs.Numbers.{number_of}
use Rattle.pp_framing.specs.declared.body.BodyRule.{BodyRule}
use Rattle.pp_framing.specs.declared.body.BodyRule.TheVariants.{Empty, Length, Chunked, ToEnd}
use Rattle.pp_framing.specs.declared.framing.Coding.{Coding}
use Rattle.pp_framing.specs.declared.framing.Coding.TheVariants.{Identity, InChunks, Other}
use Rattle.pp_framing.specs.declared.framing.FramingFault.{FramingFault}
use Rattle.pp_framing.specs.declared.framing.FramingFault.TheVariants.{TwoLengths, BadLength, OtherCoding}
use Rattle.pp_framing.specs.declared.framing.ResponseFault.{ResponseFault}
use Rattle.pp_framing.specs.declared.framing.ResponseFault.TheVariants.{NoStatus, Framing}

abbrev pub is_identity : Coding → Bool
is_identity Identity = true
is_identity InChunks = false
is_identity Other = false

abbrev pub is_other : Coding → Bool
is_other Identity = false
is_other InChunks = false
is_other Other = true

-- identity is "the use of no transformation whatsoever"; the chunked coding "MUST NOT be applied more than
-- once to a message-body" (section 3.6); ours: no other coding is known
abbrev pub with_coding : Coding → List ℕ → Coding
with_coding coding item = elim (is_same item (codes "identity")) [
  | true ↦ coding
  | false ↦ elim (is_same item (codes "chunked") && is_identity coding) [ true ↦ InChunks | false ↦ Other ]
]

abbrev pub coding_of : List Field → Coding
coding_of fields = fold with_coding Identity (list_items (codes "transfer-encoding") fields)

abbrev pub all_equal : List ℕ → Bool
all_equal [] = true
all_equal (n ∷ ns) = list_all (λ m. m == n) ns

-- a length was read that is not this one
abbrev pub is_other_length : Option ℕ → ℕ → Bool
is_other_length None n = false
is_other_length (Some m) n = not (m == n)

-- Content-Length = 1*DIGIT; ours: equal repeated lengths count as one, and lengths that differ are the
-- fault that is named before one that is no number
abbrev pub length_of : List (List ℕ) → Result (Option ℕ) FramingFault
length_of values = let lengths = filter_map number_of values in elim (all_equal lengths) [
  | false ↦ Err TwoLengths
  | true ↦ elim (list_all (λ value. is_some (number_of value)) values) [ true ↦ Ok (slice_get lengths 0) | false ↦ Err BadLength ]
]

abbrev pub by_length : Result (Option ℕ) FramingFault → (Option ℕ → BodyRule) → Result BodyRule FramingFault
by_length (Ok length) rule = Ok (rule length)
by_length (Err fault) rule = Err fault

-- "Any response message which MUST NOT include a message-body (such as the 1xx, 204, and 304 responses and
-- any response to a HEAD request)"
abbrev pub has_no_body : Bool → ℕ → Bool
has_no_body head_request status = head_request || nat_lt status 200 || (status == 204) || (status == 304)

-- the chunked coding counts before the length, and without either the connection's end ends the body
abbrev pub response_body : Coding → Option ℕ → BodyRule
response_body InChunks length = Chunked
response_body Identity (Some n) = Length n
response_body Identity None = ToEnd
response_body Other (Some n) = Length n
response_body Other None = ToEnd

abbrev pub framing_of : Bool → ℕ → List Field → Result BodyRule FramingFault
framing_of head_request status fields = elim (is_other (coding_of fields)) [
  | true ↦ Err OtherCoding
  | false ↦ by_length (length_of (values_of (codes "content-length") fields)) (λ length. elim (has_no_body head_request status) [
    | true ↦ Empty
    | false ↦ response_body (coding_of fields) length
  ])
]

abbrev pub framed : Result BodyRule FramingFault → Result BodyRule ResponseFault
framed (Ok rule) = Ok rule
framed (Err fault) = Err (Framing fault)

-- "All valid status codes are within the range of 100 to 599, inclusive" (RFC 9110, section 15); ours: one
-- above is read as any other that is not known
abbrev pub rule_of : Bool → ℕ → List Field → Result BodyRule ResponseFault
rule_of head_request status fields = elim (nat_lt status 100) [ true ↦ Err NoStatus | false ↦ framed (framing_of head_request status fields) ]

-- "The presence of a message-body in a request is signaled by the inclusion of a Content-Length or
-- Transfer-Encoding header field" (section 4.3); ours: a Transfer-Encoding without items is there, and not identity
abbrev pub is_coded : List Field → Bool
is_coded fields =
    not (is_identity (coding_of fields))
    || (has_field (codes "transfer-encoding") fields && is_empty (list_items (codes "transfer-encoding") fields))

-- ours: a request's body is in no coding
abbrev pub request_body : Option ℕ → BodyRule
request_body None = Empty
request_body (Some n) = Length n

abbrev pub request_rule_of : List Field → Result BodyRule FramingFault
request_rule_of fields = elim (is_coded fields) [
  | true ↦ Err OtherCoding
  | false ↦ by_length (length_of (values_of (codes "content-length") fields)) request_body
]
