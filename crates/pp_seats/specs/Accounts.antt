-- What the operator's log is to say of a reply. Ours: it is beside the replies, and none rests on it.
use Rattle.std.specs.Prelude.{◌≡◌, ◌⊎◌, ⊤, ℕ, ◌+◌, ◌-◌, ◌^◌, ◌==◌, List, [], ◌∷◌, ◌++◌, min, nat_eq, cond, codes}
use Rattle.std.specs.List.{starts_with}
use Rattle.pp_world.specs.declared.access.Source.{Source}
use Rattle.pp_world.specs.declared.access.Source.TheVariants.{Hit as AllHeld, Part as SomeHeld, Checked, Fetched, Passed as PassedOn, Refused as OwnPage}
use Rattle.pp_world.specs.declared.note.Decision.{Decision}
use Rattle.pp_world.specs.declared.note.Decision.TheVariants.{Refuse, Hit, Part, Head, NotModified, Unsatisfiable, Relay, Validate, Fetch, Pass}
use Rattle.pp_head.specs.Request.{Request}
use Rattle.pp_client.specs.Requests.{Front, Nothing, Begun as More, Asked, Refused}
use Rattle.pp_seats.specs.declared.account.Account.{Account}
use Rattle.pp_seats.specs.declared.account.Account.TheVariants.{Unkept, Due, Begun}
use Rattle.pp_seats.specs.declared.account.Told.{Told}

-- what is missing of a row is asked for; of one that its own exchange brought, it is on its way
abbrev pub with_rest : Source → Source
with_rest AllHeld = SomeHeld
with_rest SomeHeld = SomeHeld
with_rest Checked = SomeHeld
with_rest Fetched = Fetched
with_rest PassedOn = SomeHeld
with_rest OwnPage = SomeHeld

-- what a reply is made of, behind this decision: where its origin is asked anew, what was brought before does not count
abbrev pub source_after : Decision → Source → Source
source_after (Refuse status) due = OwnPage
source_after (Hit from to) due = due
source_after (Part from to) due = with_rest due
source_after Head due = due
source_after NotModified due = due
source_after Unsatisfiable due = due
source_after Relay due = PassedOn
source_after Validate due = AllHeld
source_after Fetch due = AllHeld
source_after Pass due = PassedOn

abbrev pub decided : Decision → Account → Account
decided d Unkept = Unkept
decided d (Due due) = Due (source_after d due)
decided d (Begun told) = Begun told

-- its own exchange brought this
abbrev pub brought : Source → Account → Account
brought source Unkept = Unkept
brought source (Due due) = Due source
brought source (Begun told) = Begun told

-- of so many bytes that are said, those behind the head are the body's
abbrev pub said_of : ℕ → Told → Told
said_of n told = record told { head_left = told.head_left - n; body_len = min (told.body_len + (n - told.head_left)) (2 ^ 64 - 1) }

abbrev pub said : ℕ → Account → Account
said n Unkept = Unkept
said n (Due due) = Due due
said n (Begun told) = Begun (said_of n told)

-- the next request stands
abbrev pub anew : Account → Account
anew Unkept = Unkept
anew (Due due) = Due AllHeld
anew (Begun told) = Due AllHeld

-- its reply begins
abbrev pub begun : List ℕ → ℕ → ℕ → Account → Account
begun line status head Unkept = Unkept
begun line status head (Due due) = Begun (record { line = line; status = status; source = due; head_left = head; body_len = 0 })
begun line status head (Begun told) = Begun told

-- the first line of its request
abbrev pub line_in : Account → List ℕ
line_in Unkept = []
line_in (Due due) = []
line_in (Begun told) = told.line

-- where a reply begins, the line is this, or memory was refused for it
abbrev pub HasLine : Account → List ℕ → List ℕ → Type 0
HasLine Unkept line wanted = ⊤
HasLine (Due due) line wanted = (line ≡ []) ⊎ (line ≡ wanted)
HasLine (Begun told) line wanted = ⊤

-- Request-Line = Method SP Request-URI SP HTTP-Version (RFC 2616, section 5.1)
abbrev pub version_text : ℕ → List ℕ
version_text minor = cond (minor == 0) (codes " HTTP/1.0") (codes " HTTP/1.1")

abbrev pub request_line : Request → List ℕ
request_line r = r.method ++ codes " " ++ r.target ++ version_text r.minor

-- what is no request has no such line
abbrev pub line_of : Front → List ℕ
line_of Nothing = []
line_of More = []
line_of (Asked request fault) = request_line request
line_of (Refused status) = []

-- bytes through the empty line that ends the head at the front of a text; all of them where it has none
unfoldable pub head_len_in : List ℕ → ℕ
head_len_in [] = 0
head_len_in (b ∷ bs) = cond (starts_with nat_eq (b ∷ bs) (13 ∷ 10 ∷ 13 ∷ 10 ∷ [])) 4 (1 + head_len_in bs)
