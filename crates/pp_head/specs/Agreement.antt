-- The answers in the words of the grammar alone, the first that applies.
use Rattle.std.specs.Prelude.{◌≡◌, ◌+◌, ◌<◌, ◌≤◌, ℕ, List, length, sum_by, All}
use Rattle.httparse.specs.Grammar.{is_uri_byte, is_value_byte, AllPass, IsToken, RequestHead as Head, print_request, ReadsRequest, HasNoRequest, NeverHasRequest, MayBecomeRequest, EndsInTarget, ResponseHead as Answer, print_response, ReadsResponse, HasNoResponse, NeverHasResponse, MayBecomeResponse}
use Rattle.pp_text.specs.Bytes.{trim}
use Rattle.pp_head.specs.Limits.{IsWithinLimits, IsLimitReached, max_bytes, max_fields}
use Rattle.pp_head.specs.Read.{Read, Whole, TooLong, Bad, More}
use Rattle.pp_head.specs.Request.{Request, request_of, request_at}
use Rattle.pp_head.specs.Response.{Response, response_of, response_at}

-- this head stands at the front, within the limits
pub record BeginsWithRequest (bytes : List ℕ) (head : Head) : Type 0 where
  pub rest : List ℕ
  pub reads : ReadsRequest bytes head rest
  pub limits : IsWithinLimits (print_request head) (length head.fields)

-- bytes that end inside a target are More, whether or not it is UTF-8 so far
abbrev pub IsRequestRead : List ℕ → Read Request → Type 0
IsRequestRead bytes (Whole request) = (head : Head) × BeginsWithRequest bytes head × (request ≡ request_of head)
IsRequestRead bytes TooLong = ((head : Head) → ¬ (BeginsWithRequest bytes head)) × IsLimitReached bytes
IsRequestRead bytes Bad = ¬ (IsLimitReached bytes) × NeverHasRequest bytes × ¬ (EndsInTarget bytes)
IsRequestRead bytes More = ¬ (IsLimitReached bytes) × HasNoRequest bytes × MayBecomeRequest bytes

-- what is computed is that answer, and there is no other
pub record IsRequestExact (bytes : List ℕ) : Type 0 where
  pub holds : IsRequestRead bytes (request_at bytes)
  pub only : (answer : Read Request) → IsRequestRead bytes answer → answer ≡ request_at bytes

-- the same of a response, in which no part waits for its end
pub record BeginsWithResponse (bytes : List ℕ) (head : Answer) : Type 0 where
  pub rest : List ℕ
  pub reads : ReadsResponse bytes head rest
  pub limits : IsWithinLimits (print_response head) (length head.fields)

abbrev pub IsResponseRead : List ℕ → Read Response → Type 0
IsResponseRead bytes (Whole response) = (head : Answer) × BeginsWithResponse bytes head × (response ≡ response_of head)
IsResponseRead bytes TooLong = ((head : Answer) → ¬ (BeginsWithResponse bytes head)) × IsLimitReached bytes
IsResponseRead bytes Bad = ¬ (IsLimitReached bytes) × NeverHasResponse bytes
IsResponseRead bytes More = ¬ (IsLimitReached bytes) × HasNoResponse bytes × MayBecomeResponse bytes

pub record IsResponseExact (bytes : List ℕ) : Type 0 where
  pub holds : IsResponseRead bytes (response_at bytes)
  pub only : (answer : Read Response) → IsResponseRead bytes answer → answer ≡ response_at bytes

-- ---- what follows for a whole head

-- a name is a token; a value has no control byte but the tab, and no blanks at its ends
pub record IsFieldText (field : List ℕ × List ℕ) : Type 0 where
  pub name : IsToken field.0
  pub value : AllPass is_value_byte field.1
  pub trimmed : trim field.1 ≡ field.1

-- a colon and a line end stand beside each name and value
abbrev pub field_len : List ℕ × List ℕ → ℕ
field_len field = length field.0 + length field.1 + 2

-- within the bytes and the limits, its parts together no longer than it
pub record IsRequestWithin (bytes : List ℕ) (request : Request) : Type 0 where
  pub some : 0 < request.length
  pub within : request.length ≤ length bytes
  pub short : request.length ≤ max_bytes
  pub few : length request.fields ≤ max_fields
  pub method : IsToken request.method
  pub target : (0 < length request.target) × AllPass is_uri_byte request.target
  pub minor : request.minor ≤ 1
  pub fields : All IsFieldText request.fields
  pub texts : length request.method + length request.target + sum_by field_len request.fields ≤ request.length

-- the same of a response
pub record IsResponseWithin (bytes : List ℕ) (response : Response) : Type 0 where
  pub some : 0 < response.length
  pub within : response.length ≤ length bytes
  pub short : response.length ≤ max_bytes
  pub few : length response.fields ≤ max_fields
  pub minor : response.minor ≤ 1
  pub status : response.status < 1000
  pub reason : AllPass is_value_byte response.reason
  pub fields : All IsFieldText response.fields
  pub texts : length response.reason + sum_by field_len response.fields ≤ response.length
