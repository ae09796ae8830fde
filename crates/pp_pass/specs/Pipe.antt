-- A bounded pipe, and the chunked coding of what goes into it (RFC 2616, section 3.6.1).
use Rattle.std.specs.Prelude.{ℕ, ◌-◌, Bool, true, false, List, [], ◌∷◌, ◌++◌, length, drop, codes}
use Rattle.std.specs.Fmt.{digits}

pub record Pipe : Type 0 where
  pub bytes : List ℕ  -- what is to be taken next stands first
  pub is_coded : Bool  -- data goes in as chunks
  pub is_finished : Bool  -- nothing more goes in

-- ours: how many bytes the pipe holds
abbrev pub pipe_len : ℕ
pipe_len = 65536

-- ours: what a chunk and the last chunk have beside the data: at most four digits, four line ends of CRLF,
-- and "0"
abbrev pub coding_len : ℕ
coding_len = 13

abbrev pub crlf : List ℕ
crlf = 13 ∷ 10 ∷ []

-- chunk = chunk-size CRLF chunk-data CRLF, the size being 1*HEX
abbrev pub chunk : List ℕ → List ℕ
chunk content = digits 16 false (length content) ++ crlf ++ content ++ crlf

-- last-chunk and an empty trailer
abbrev pub last_chunk : List ℕ
last_chunk = codes "0" ++ crlf ++ crlf

abbrev pub spelled : Bool → List ℕ → List ℕ
spelled true content = chunk content
spelled false content = content

abbrev pub spelled_end : Bool → List ℕ
spelled_end true = last_chunk
spelled_end false = []

-- a body begins
abbrev pub started : Bool → Pipe
started is_coded = record { bytes = []; is_coded = is_coded; is_finished = false }

-- how many bytes of data may go in
abbrev pub room_of : Pipe → ℕ
room_of pipe = elim pipe.is_coded [ true ↦ pipe_len - length pipe.bytes - coding_len | false ↦ pipe_len - length pipe.bytes ]

-- these data go in, as one chunk where chunks are spelled
abbrev pub with_data : List ℕ → Pipe → Pipe
with_data content pipe = record pipe { bytes = pipe.bytes ++ spelled pipe.is_coded content }

abbrev pub finished : Pipe → Pipe
finished pipe = record pipe { bytes = pipe.bytes ++ spelled_end pipe.is_coded; is_finished = true }

-- the first of them are taken out
abbrev pub without_first : ℕ → Pipe → Pipe
without_first n pipe = record pipe { bytes = drop n pipe.bytes }
