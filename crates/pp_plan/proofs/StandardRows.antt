-- Worked exchanges of the standards, by a row that is fresh and held whole (RFC 7232, sections 3 and 6; RFC 7233, sections 2 to
-- 4), and what is asked for.
use Rattle.std.proofs.Common.{refl, ℕ, true, false, List, [], ◌∷◌, Some, None, codes}
use Rattle.pp_text.proofs.Table.{Rows}
use Rattle.pp_text.specs.Fields.{Field}
use Rattle.pp_valid.proofs.OnLiterals.{pp_valid_on_literals}
use Rattle.pp_world.specs.declared.note.Decision.TheVariants.{Hit, NotModified, Unsatisfiable, Pass}
use Rattle.pp_plan.specs.Need.{is_near, need}
use Rattle.pp_plan.specs.declared.table.Begun.TheVariants.{Nothing}
use Rattle.pp_plan.proofs.Worked.{Known, get, image, spans}

-- RFC 7233, sections 2.1, 3.2, 4.1, 4.2 and 4.4
a_range_shows_the_bytes_of_the_standard : Rows (λ (t : List Field × Known). get t.0 Nothing t.1) (
    (((codes "Range", codes "bytes=0-499") ∷ [], image (codes "\"xyzzy\"") 10000), Hit 0 500)
    ∷ (((codes "Range", codes "bytes=500-999") ∷ [], image (codes "\"xyzzy\"") 10000), Hit 500 1000)
    ∷ (((codes "Range", codes "bytes=-500") ∷ [], image (codes "\"xyzzy\"") 10000), Hit 9500 10000)
    ∷ (((codes "Range", codes "bytes=9500-") ∷ [], image (codes "\"xyzzy\"") 10000), Hit 9500 10000)
    ∷ (((codes "Range", codes "bytes=0-0,-1") ∷ [], image (codes "\"xyzzy\"") 10000), Hit 0 10000)
    ∷ (((codes "Range", codes "bytes=500-600,601-999") ∷ [], image (codes "\"xyzzy\"") 10000), Hit 0 10000)
    ∷ (((codes "Range", codes "bytes=500-700,601-999") ∷ [], image (codes "\"xyzzy\"") 10000), Hit 0 10000)
    ∷ (((codes "Range", codes "bytes=-20000") ∷ [], image (codes "\"xyzzy\"") 10000), Hit 0 10000)
    ∷ (((codes "Range", codes "bytes=500-") ∷ [], image (codes "\"xyzzy\"") 1234), Hit 500 1234)
    ∷ (((codes "Range", codes "bytes=-500") ∷ [], image (codes "\"xyzzy\"") 1234), Hit 734 1234)
    ∷ (((codes "Range", codes "bytes=21010-47021") ∷ [], image (codes "\"xyzzy\"") 47022), Hit 21010 47022)
    ∷ (((codes "Range", codes "bytes=21010-50000") ∷ [], image (codes "\"xyzzy\"") 47022), Hit 21010 47022)
    ∷ (((codes "Range", codes "bytes=47022-") ∷ [], image (codes "\"xyzzy\"") 47022), Unsatisfiable)
    ∷ (((codes "Range", codes "bytes=21010-") ∷ (codes "If-Range", codes "\"xyzzy\"") ∷ [], image (codes "\"xyzzy\"") 47022), Hit 21010 47022)
    ∷ (((codes "Range", codes "bytes=21010-") ∷ (codes "If-Range", codes "\"r2d2xxxx\"") ∷ [], image (codes "\"xyzzy\"") 47022), Hit 0 47022)
    ∷ (((codes "Range", codes "bytes=21010-") ∷ (codes "If-Range", codes "W/\"xyzzy\"") ∷ [], image (codes "\"xyzzy\"") 47022), Hit 0 47022)
    ∷ (((codes "If-Range", codes "\"r2d2xxxx\"") ∷ [], image (codes "\"xyzzy\"") 47022), Hit 0 47022)
    ∷ [])
unfolding pp_valid_on_literals
a_range_shows_the_bytes_of_the_standard = refl

-- RFC 7232, sections 2.3.2, 3.2, 3.3 and 6
conditions_are_judged_as_the_standard_says : Rows (λ (t : List Field × Known). get t.0 Nothing t.1) (
    (((codes "If-None-Match", codes "\"xyzzy\"") ∷ [], image (codes "\"xyzzy\"") 47022), NotModified)
    ∷ (((codes "If-None-Match", codes "W/\"xyzzy\"") ∷ [], image (codes "\"xyzzy\"") 47022), NotModified)
    ∷ (((codes "If-None-Match", codes "\"xyzzy\", \"r2d2xxxx\", \"c3piozzzz\"") ∷ [], image (codes "\"xyzzy\"") 47022), NotModified)
    ∷ (((codes "If-None-Match", codes "W/\"xyzzy\", W/\"r2d2xxxx\", W/\"c3piozzzz\"") ∷ [], image (codes "\"c3piozzzz\"") 47022), NotModified)
    ∷ (((codes "If-None-Match", codes "W/\"xyzzy\", W/\"r2d2xxxx\", W/\"c3piozzzz\"") ∷ [], image (codes "\"c3po\"") 47022), Hit 0 47022)
    ∷ (((codes "If-None-Match", codes "*") ∷ [], image (codes "\"xyzzy\"") 47022), NotModified)
    ∷ (((codes "If-None-Match", codes "\"1\"") ∷ [], image (codes "\"1\"") 47022), NotModified)
    ∷ (((codes "If-None-Match", codes "W/\"1\"") ∷ [], image (codes "\"1\"") 47022), NotModified)
    ∷ (((codes "If-None-Match", codes "W/\"2\"") ∷ [], image (codes "\"1\"") 47022), Hit 0 47022)
    ∷ (((codes "If-Range", codes "\"1\"") ∷ (codes "Range", codes "bytes=0-0") ∷ [], image (codes "\"1\"") 47022), Hit 0 1)
    ∷ (((codes "If-Range", codes "W/\"1\"") ∷ (codes "Range", codes "bytes=0-0") ∷ [], image (codes "\"1\"") 47022), Hit 0 47022)
    ∷ (((codes "If-None-Match", codes "\"a\"") ∷ (codes "If-Modified-Since", codes "Wed, 15 Nov 1995 04:58:08 GMT") ∷ [], image (codes "\"xyzzy\"") 47022), Hit 0 47022)
    ∷ (((codes "If-None-Match", codes "\"xyzzy\"") ∷ (codes "If-Modified-Since", codes "Sat, 29 Oct 1994 19:43:31 GMT") ∷ [], image (codes "\"xyzzy\"") 47022), NotModified)
    ∷ (((codes "If-Modified-Since", codes "Sat, 29 Oct 1994 19:43:31 GMT") ∷ [], image (codes "\"xyzzy\"") 47022), Hit 0 47022)
    ∷ (((codes "If-Modified-Since", codes "Wed, 15 Nov 1995 04:58:08 GMT") ∷ [], image (codes "\"xyzzy\"") 47022), NotModified)
    ∷ (((codes "If-Modified-Since", codes "Wed, 15 Nov 1995 04:58:07 GMT") ∷ [], image (codes "\"xyzzy\"") 47022), Hit 0 47022)
    ∷ (((codes "If-None-Match", codes "\"xyzzy\"") ∷ (codes "Range", codes "bytes=0-499") ∷ (codes "If-Range", codes "\"xyzzy\"") ∷ [], image (codes "\"xyzzy\"") 47022), NotModified)
    ∷ (((codes "If-None-Match", codes "\"a\"") ∷ (codes "Range", codes "bytes=0-499") ∷ (codes "If-Range", codes "\"xyzzy\"") ∷ [], image (codes "\"xyzzy\"") 47022), Hit 0 500)
    ∷ (((codes "If-Match", codes "\"xyzzy\"") ∷ (codes "If-None-Match", codes "\"xyzzy\"") ∷ [], image (codes "\"xyzzy\"") 47022), Pass)
    ∷ [])
unfolding pp_valid_on_literals
conditions_are_judged_as_the_standard_says = refl

a_reply_shows_a_span_and_a_fetch_begins_at_a_chunk : Rows (λ (t : List Field × ℕ). spans t.0 t.1) (
    (([], 10), ((0, 10), None))
    ∷ (((codes "Range", codes "bytes=0-4095") ∷ [], 12288), ((0, 4096), Some (0, Some 4095)))
    ∷ (((codes "Range", codes "bytes=8192-12287") ∷ [], 12288), ((8192, 12288), Some (8192, Some 12287)))
    ∷ (((codes "Range", codes "bytes=5000-5999") ∷ [], 9000), ((5000, 6000), Some (4096, Some 5999)))
    ∷ (((codes "Range", codes "bytes=5000-5999") ∷ [], 4500), ((0, 0), Some (4096, Some 5999)))
    ∷ (((codes "Range", codes "bytes=8192-") ∷ [], 9000), ((8192, 9000), Some (8192, None)))
    ∷ (((codes "Range", codes "bytes=4095-4095") ∷ (codes "If-Range", codes "\"x\"") ∷ [], 9000), ((4095, 4096), None))
    ∷ (((codes "Range", codes "bytes=4095-4095") ∷ (codes "If-Range", codes "\"y\"") ∷ [], 9000), ((0, 9000), None))
    ∷ (((codes "Range", codes "bytes=0-0,-1") ∷ [], 9000), ((0, 9000), None))
    ∷ (((codes "Range", codes "bytes=-5") ∷ [], 9000), ((8995, 9000), None))
    ∷ (((codes "Range", codes "bytes=-5") ∷ [], 0), ((0, 0), None))
    ∷ (((codes "Range", codes "bytes=0-") ∷ [], 0), ((0, 0), Some (0, None)))
    ∷ (([], 0), ((0, 0), None))
    ∷ (((codes "Range", codes "bytes=18446744073709551615-") ∷ [], 10), ((0, 0), Some (18446744073709547520, None)))
    ∷ [])
unfolding pp_valid_on_literals
a_reply_shows_a_span_and_a_fetch_begins_at_a_chunk = refl

a_hole_is_asked_for_where_the_next_byte_is_not_held : Rows (λ (t : ℕ × (ℕ × (ℕ × ℕ))). need t.0 t.1.0 t.1.1) (
    ((4096, (12288, (4096, 8192))), Some (4096, 8192))
    ∷ ((7, (10, (7, 10))), Some (7, 10))
    ∷ ((5000, (5100, (4196, 8192))), Some (4196, 5100))
    ∷ ((6, (10, (7, 10))), None)
    ∷ ((9, (10, (10, 10))), None)
    ∷ ((30, (40, (20, 40))), Some (20, 40))
    ∷ ((30, (40, (30, 40))), Some (30, 40))
    ∷ [])
unfolding pp_valid_on_literals
a_hole_is_asked_for_where_the_next_byte_is_not_held = refl

an_exchange_is_waited_for_where_it_is_at_most_256_chunks_behind : Rows (λ (t : ℕ × ℕ). is_near t.0 t.1) (
    ((0, 0), true)
    ∷ ((0, 1048576), true)
    ∷ ((0, 1048577), false)
    ∷ ((4096, 1052672), true)
    ∷ ((4096, 1052673), false)
    ∷ ((9, 3), true)
    ∷ ((0, 18446744073709551615), false)
    ∷ [])
unfolding pp_valid_on_literals
an_exchange_is_waited_for_where_it_is_at_most_256_chunks_behind = refl
