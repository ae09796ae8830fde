-- The text of an ask (RFC 2616, section 5).
use Rattle.std.specs.Prelude.{ℕ, Bool, true, false, ◌&&◌, ◌||◌, not, List, [], ◌++◌, filter, flat_map, Option, Some, None, codes, decimal}
use Rattle.std.specs.Option.{option_and_then}
use Rattle.pp_text.specs.Bytes.{lower}
use Rattle.pp_text.specs.Fields.{Field, is_named, first_value}
use Rattle.pp_text.specs.Forwarding.{is_hop_by_hop}
use Rattle.pp_text.specs.Numbers.{number_of}
use Rattle.pp_head.specs.Request.{Request}
use Rattle.pp_target.specs.Key.{Key, port_text}
use Rattle.pp_ask.specs.declared.kind.AskKind.{AskKind}
use Rattle.pp_ask.specs.declared.kind.AskKind.TheVariants.{Whole, Range, Hole, Check, Pass}

abbrev pub crlf : List ℕ
crlf = codes "\r\n"

-- message-header = field-name ":" [ field-value ]; ours: with one space
abbrev pub line : List ℕ → List ℕ → List ℕ
line name value = name ++ codes ": " ++ value ++ crlf

-- ours: names in lower case
abbrev pub field_line : Field → List ℕ
field_line field = line (lower field.0) field.1

-- Request-Line = Method SP Request-URI SP HTTP-Version CRLF; "The most common form of Request-URI is that used to
-- identify a resource on an origin server .. the absolute path of the URI MUST be transmitted" (section 5.1.2)
abbrev pub request_line : List ℕ → List ℕ → List ℕ
request_line method path = method ++ codes " " ++ path ++ codes " HTTP/1.1\r\n"

-- Host = "Host" ":" host [ ":" port ] (section 14.23)
abbrev pub host_line : List ℕ → ℕ → List ℕ
host_line host port = codes "host: " ++ host ++ port_text port ++ crlf

abbrev pub front : List ℕ → Key → List ℕ
front method key = request_line method key.path ++ host_line key.host key.port

-- Via = "Via" ":" 1#( received-protocol received-by [ comment ] ) (section 14.45); ours: always under 1.1
abbrev pub via_line : List ℕ → List ℕ
via_line name = codes "via: 1.1 " ++ name ++ crlf

abbrev pub is_passed : AskKind → Bool
is_passed Whole = false
is_passed (Range first last) = false
is_passed (Hole first last tag) = false
is_passed (Check tag) = false
is_passed Pass = true

-- a body is asked for whoever wants it, and so by GET, unless the request of a client is passed
abbrev pub method_of : AskKind → List ℕ → List ℕ
method_of kind method = elim (is_passed kind) [ true ↦ method | false ↦ codes "GET" ]

-- the ask has its own Host and length; its interim answer is given by the proxy (section 8.2.3)
abbrev pub is_written_anew : Field → Bool
is_written_anew field = is_named (codes "host") field || is_named (codes "expect") field || is_named (codes "content-length") field

-- what the client asks of its own copy and its own range (RFC 7232, section 3; RFC 7233, section 3)
abbrev pub is_conditional : Field → Bool
is_conditional field =
    (is_named (codes "range") field || is_named (codes "if-range") field)
    || is_named (codes "if-none-match") field || is_named (codes "if-modified-since") field

abbrev pub is_of_hole : AskKind → Bool
is_of_hole Whole = false
is_of_hole (Range first last) = false
is_of_hole (Hole first last tag) = true
is_of_hole (Check tag) = false
is_of_hole Pass = false

-- "If no Accept-Encoding header field is in the request, any content coding is considered acceptable by the user agent"
-- (RFC 9110, section 12.5.3); ours: what is known has its coding, and an origin that codes as it sends would give none of its bytes
abbrev pub is_left_out : AskKind → Field → Bool
is_left_out kind field =
    (not (is_passed kind) && is_conditional field) || (is_of_hole kind && is_named (codes "accept-encoding") field)

-- the fields of the client that go on in an ask of this kind
abbrev pub goes_on : AskKind → List Field → Field → Bool
goes_on kind fields field = not (is_hop_by_hop fields field) && not (is_written_anew field || is_left_out kind field)

abbrev pub asked_lines : AskKind → List Field → List ℕ
asked_lines kind fields = flat_map field_line (filter (goes_on kind fields) fields)

-- byte-range-spec = first-byte-pos "-" [last-byte-pos] (RFC 7233, section 2.1)
abbrev pub last_text : Option ℕ → List ℕ
last_text None = []
last_text (Some last) = decimal last

-- Range = byte-ranges-specifier (RFC 7233, section 3.1)
abbrev pub range_line : ℕ → Option ℕ → List ℕ
range_line first last = codes "range: bytes=" ++ decimal first ++ codes "-" ++ last_text last ++ crlf

-- the length of the client's body, as a number
abbrev pub received_length : List Field → Option ℕ
received_length fields = option_and_then number_of (first_value (codes "content-length") fields)

-- Content-Length = "Content-Length" ":" 1*DIGIT (section 14.13)
abbrev pub length_line : Option ℕ → List ℕ
length_line None = []
length_line (Some n) = codes "content-length: " ++ decimal n ++ crlf

-- the lines that an ask has by its kind: If-Range names the version whose hole is asked for, If-None-Match the
-- one that is checked
abbrev pub kind_lines : AskKind → List Field → List ℕ
kind_lines Whole fields = []
kind_lines (Range first last) fields = range_line first last
kind_lines (Hole first last tag) fields = range_line first (Some last) ++ line (codes "if-range") tag.now
kind_lines (Check tag) fields = line (codes "if-none-match") tag.now
kind_lines Pass fields = length_line (received_length fields)

abbrev pub ask_text : AskKind → Request → Key → List ℕ → List ℕ
ask_text kind request key name =
    front (method_of kind request.method) key
    ++ asked_lines kind request.fields ++ kind_lines kind request.fields ++ via_line name ++ crlf
