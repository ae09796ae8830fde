-- Worked bodies on their way through the pipe (RFC 2616, section 3.6.1).
use Rattle.std.proofs.Common.{refl, ℕ, Bool, true, false, List, [], ◌∷◌, length, take, codes, replicate}
use Rattle.std.specs.Fmt.{digits}
use Rattle.pp_text.proofs.Table.{Rows}
use Rattle.pp_pass.specs.Pipe.{Pipe, finished, room_of, started, with_data, without_first}

-- data of which each piece is put in by itself
abbrev put : List (List ℕ) → Pipe → Pipe
put [] pipe = pipe
put (piece ∷ pieces) pipe = put pieces (with_data piece pipe)

abbrev two : List (List ℕ)
two = codes "hello" ∷ codes "0123456789abcdef" ∷ []

each_put_is_a_chunk_and_what_is_taken_is_the_front : Rows (λ (pipe : Pipe). pipe.bytes) (
    (started true, [])
    ∷ (put two (started true), codes "5\r\nhello\r\n10\r\n0123456789abcdef\r\n")
    ∷ (finished (put two (started true)), codes "5\r\nhello\r\n10\r\n0123456789abcdef\r\n0\r\n\r\n")
    ∷ (without_first 8 (finished (put two (started true))), codes "\r\n10\r\n0123456789abcdef\r\n0\r\n\r\n")
    ∷ (put two (started false), codes "hello0123456789abcdef")
    ∷ (finished (put two (started false)), codes "hello0123456789abcdef")
    ∷ [])
unfolding digits
each_put_is_a_chunk_and_what_is_taken_is_the_front = refl

a_body_is_finished_until_the_next_begins : Rows (λ (pipe : Pipe). pipe.is_finished) (
    (put two (started false), false)
    ∷ (finished (started false), true)
    ∷ (without_first 5 (finished (put two (started false))), true)
    ∷ (started true, false)
    ∷ [])
a_body_is_finished_until_the_next_begins = refl

-- a chunk has two line ends and its size beside the data, and there is room for the largest size and for the last chunk
room_is_left_for_a_chunk_and_the_last_one : Rows room_of (
    (started false, 65536)
    ∷ (started true, 65523)
    ∷ (put (codes "hello" ∷ []) (started false), 65531)
    ∷ (put (codes "hello" ∷ []) (started true), 65513)
    ∷ [])
unfolding digits
room_is_left_for_a_chunk_and_the_last_one = refl

-- as many data as there is room for, in one chunk, and the last chunk
abbrev filled : Bool → Pipe
filled is_coded = with_data (replicate (room_of (started is_coded)) 120) (started is_coded)

what_fills_the_room_leaves_place_for_the_last_chunk : Rows (λ (pipe : Pipe). length pipe.bytes) (
    (finished (filled true), 65536)
    ∷ (finished (filled false), 65536)
    ∷ [])
unfolding digits
what_fills_the_room_leaves_place_for_the_last_chunk = refl

nothing_has_room_behind_it : Rows room_of (
    (filled true, 0)
    ∷ (filled false, 0)
    ∷ [])
unfolding digits
nothing_has_room_behind_it = refl

its_size_has_four_digits : Rows (take 9) (
    ((filled true).bytes, codes "fff3\r\nxxx")
    ∷ [])
unfolding digits
its_size_has_four_digits = refl
