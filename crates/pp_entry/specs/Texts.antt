-- The text of an entry: a response head (RFC 2616, section 6), with fields of this proxy's own behind those that are kept.
use Rattle.std.specs.Prelude.{ℕ, ◌+◌, ◌-◌, ◌*◌, ◌/◌, Bool, ◌&&◌, nat_le, List, ◌++◌, length, replicate, codes, decimal}
use Rattle.pp_text.specs.Fields.{Field}
use Rattle.pp_text.specs.Lines.{crlf, lines_of}
use Rattle.pp_fresh.specs.declared.aging.Times.{Times}

-- the chunks of 4,096 bytes that a body of this length has
abbrev pub chunks_of : ℕ → ℕ
chunks_of n = (n + 4095) / 4096

-- where the body stands: behind the head block and the gates, one byte a chunk, rounded up to a multiple of 4,096
unfoldable pub body_at : ℕ → ℕ
body_at n = 8192 + (chunks_of n + 4095) / 4096 * 4096

-- a line of this proxy's own
abbrev pub own_line : List ℕ → List ℕ → List ℕ
own_line name value = name ++ (codes ": " ++ (value ++ crlf))

abbrev pub number_line : List ℕ → ℕ → List ℕ
number_line name n = own_line name (decimal n)

-- what the kept fields do not say: the key, when the response came, how old it was then, and the length of the body
unfoldable pub own_lines : List ℕ → ℕ → Times → List ℕ
own_lines key n times =
    own_line (codes "X-Polipo-Location") key
    ++ number_line (codes "X-Polipo-Date") times.response
    ++ number_line (codes "X-Polipo-Age") times.initial
    ++ number_line (codes "X-Polipo-Length") n
    ++ number_line (codes "X-Polipo-Body-Offset") (body_at n)

-- Response = Status-Line *( header CRLF ) CRLF
unfoldable pub head_text : List ℕ → ℕ → List Field → Times → List ℕ
head_text key n fields times = codes "HTTP/1.1 200 OK\r\n" ++ lines_of fields ++ own_lines key n times ++ crlf

-- ours: at most 95 kept fields, so that a head has at most 100, and at most 8,192 bytes
abbrev pub fits : List Field → List ℕ → Bool
fits kept text = nat_le (length kept) 95 && nat_le (length text) 8192

-- zeros behind a text, up to the end of a head block
abbrev pub padded : List ℕ → List ℕ
padded text = text ++ replicate (8192 - length text) 0
