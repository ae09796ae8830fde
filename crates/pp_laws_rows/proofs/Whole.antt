-- When a body that is passed is whole: by the bytes that came, or by the end of the connection behind them; and what is not: a front of it.
use Rattle.std.proofs.Common.{◌≡◌, refl, ℕ, true, false, List, [], ◌∷◌, ◌++◌, codes}
use Rattle.pp_framing.specs.declared.body.BodyRule.TheVariants.{Length, Chunked, ToEnd}
use Rattle.pp_law.specs.Lists.{Bytes}
use Rattle.pp_laws_sent.specs.Whole.{IsWhole, by_itself, by_the_end}
use Rattle.pp_world.specs.Log.{Log}
use Rattle.pp_world.specs.Streams.{got}
use Rattle.pp_world.specs.declared.happening.Happening.TheVariants.{CanRead, Got, Ended}

-- section 4.4, 3: as many bytes as its length
ten_of_ten : IsWhole [] 2 [] (Length 10) (codes "ABCDEFGHIJ")
ten_of_ten = by_itself refl

-- section 3.6.1: chunks up to the last one, and its trailer
all_chunks : IsWhole [] 2 [] Chunked (codes "2\r\nAB\r\n3\r\nCDE\r\n0\r\n\r\n")
all_chunks = by_itself refl

abbrev head : Bytes
head = codes "HTTP/1.0 200 OK\r\n\r\n"

-- a response whose body the end of its connection ends
abbrev closed : Log
closed = CanRead 2 ∷ Got 2 (head ++ codes "AB") ∷ CanRead 2 ∷ Ended 2 ∷ []

-- section 4.4, 5: "By the server closing the connection"
ended_is_whole : IsWhole closed 2 (head ++ codes "AB") ToEnd (codes "AB")
unfolding got
ended_is_whole = by_the_end (CanRead 2 ∷ Got 2 (head ++ codes "AB") ∷ CanRead 2 ∷ []) [] refl refl refl

-- ---- nothing else is

-- of a body with a length a front, though the connection ended behind it
half_is_not : (log : Log) (stream : Bytes) → IsWhole log 2 stream (Length 10) (codes "ABCDE") → ⊥
half_is_not log stream (by_itself is) = cc is
half_is_not log stream (by_the_end front behind at came is) = cc is

-- nor chunks without the last
open_is_not : (log : Log) (stream : Bytes) → IsWhole log 2 stream Chunked (codes "2\r\nAB\r\n") → ⊥
open_is_not log stream (by_itself is) = cc is
open_is_not log stream (by_the_end front behind at came is) = cc is

-- nor a body that the end of its connection ends, before that end
going_is_not : (stream : Bytes) → IsWhole (CanRead 2 ∷ []) 2 stream ToEnd (codes "AB") → ⊥
going_is_not stream (by_itself is) = cc is
going_is_not stream (by_the_end [] behind at came is) = cc at
going_is_not stream (by_the_end (h ∷ []) behind at came is) = cc at
going_is_not stream (by_the_end (h ∷ (i ∷ front)) behind at came is) = cc at
