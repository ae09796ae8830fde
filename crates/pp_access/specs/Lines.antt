-- A line of the operator's log: the common log format, and behind it two fields of ours.
--
-- "remotehost rfc931 authuser [date] "request" status bytes" (W3C, "Logging Control In W3C httpd")
use Rattle.std.specs.Prelude.{ℕ, ◌/◌, ◌%◌, ◌^◌, Bool, true, false, ◌==◌, ◌&&◌, ◌||◌, nat_le, List, [], ◌∷◌, ◌++◌, take, drop, flat_map, slice_index, cond, codes, decimal}
use Rattle.httpdate.specs.Date.{date_text}
use Rattle.pp_world.specs.declared.access.Source.{Source}
use Rattle.pp_world.specs.declared.access.Source.TheVariants.{Hit, Part, Checked, Fetched, Passed, Refused}
use Rattle.pp_access.specs.declared.line.Line.{Line}

-- an address of IPv4 in dotted decimal
unfoldable pub address_text : ℕ → List ℕ
address_text address =
    decimal (address / 2 ^ 24) ++ codes "." ++ decimal (address / 2 ^ 16 % 256) ++ codes "." ++ decimal (address / 2 ^ 8 % 256) ++ codes "." ++ decimal (address % 256)

-- "[day/month/year:hour:minute:second zone]" of `Sun, 06 Nov 1994 08:49:37 GMT`
unfoldable pub time_of : List ℕ → List ℕ
time_of date = take 2 (drop 5 date) ++ codes "/" ++ take 3 (drop 8 date) ++ codes "/" ++ take 4 (drop 12 date) ++ codes ":" ++ take 8 (drop 17 date) ++ codes " +0000"

abbrev pub hex_digit : ℕ → ℕ
hex_digit n = slice_index (codes "0123456789abcdef") n

abbrev pub is_plain : ℕ → Bool
is_plain b = nat_le 32 b && nat_le b 126

-- "non-printable and other special characters in %r .. are escaped using \xhh sequences .. exceptions from this rule are " and \,
-- which are escaped by prepending a backslash" (Apache HTTP Server, mod_log_config)
abbrev pub escaped : ℕ → List ℕ
escaped b =
    cond ((b == 34) || (b == 92)) (92 ∷ b ∷ []) (cond (is_plain b) (b ∷ []) (92 ∷ 120 ∷ hex_digit (b / 16) ∷ hex_digit (b % 16) ∷ []))

-- where there is none, a hyphen
unfoldable pub request_text : List ℕ → List ℕ
request_text [] = codes "-"
request_text (b ∷ request) = flat_map escaped (b ∷ request)

abbrev pub word_of : Source → List ℕ
word_of Hit = codes "hit"
word_of Part = codes "part"
word_of Checked = codes "checked"
word_of Fetched = codes "fetched"
word_of Passed = codes "passed"
word_of Refused = codes "refused"

-- ours: of a reply that ended early
abbrev pub cut_text : Bool → List ℕ
cut_text true = codes ":cut "
cut_text false = codes " "

-- the client, and when
unfoldable pub front_of : Line → List ℕ
front_of l = address_text l.address ++ codes " - - [" ++ time_of (date_text l.date) ++ codes "] \""

-- its status, and what was said of its body
unfoldable pub counts_of : Line → List ℕ
counts_of l = codes "\" " ++ decimal l.status ++ codes " " ++ decimal l.body_len ++ codes " "

-- what it was made of, and its milliseconds
unfoldable pub making_of : Line → List ℕ
making_of l = word_of l.source ++ cut_text l.is_cut ++ decimal l.millis ++ codes "\n"

abbrev pub line_text : Line → List ℕ
line_text l = front_of l ++ request_text l.request.now ++ counts_of l ++ making_of l
