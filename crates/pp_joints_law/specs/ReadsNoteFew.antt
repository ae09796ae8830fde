-- How many names all heads of one read of an origin may note (RFC 2616, sections 8.1.2.2 and 13.10; the numbers are ours): fewer than there is
-- room for, beside those that are noted as it begins and one for each row.
--
-- A response names no more places than its head has fields of either name, and these are noted where the request was unsafe alone. Such a request
-- goes alone, so that no other head comes in that read (`by_itself` of IsSoundTurn in `pp_laws_turn`). All others note their own row, of which a
-- line has 8 at most (HasShortLines of `pp_laws_bounds`). Where a read begins at most 768 names are noted (`most_names` of `pp_given_law`), and
-- there are 1,024 rows at most. That each head of a read takes one of the line as it stood is of ReadsNoteAll.
use Rattle.std.specs.Prelude.{◌≡◌, ◌≤◌, ◌<◌, ◌+◌, ◌*◌, ℕ, true, false, length}
use Rattle.pp_head.specs.Read.{Whole}
use Rattle.pp_head.specs.Request.{Request}
use Rattle.pp_head.specs.Response.{Response, response_at}
use Rattle.pp_law.specs.Lists.{Bytes}
use Rattle.pp_law.specs.Requests.{goes_alone, is_safe}
use Rattle.pp_law.specs.ThroughHeads.{places_named}

-- a head has 100 fields at most
abbrev pub PlacesAreFew : Type 0
PlacesAreFew = (text : Bytes) (head : Response) → response_at text ≡ Whole head → length (places_named head) ≤ 200

abbrev pub UnsafeOnesGoAlone : Type 0
UnsafeOnesGoAlone = (head : Request) → is_safe head ≡ false → goes_alone head ≡ true

-- those noted before, a name for each row, what 8 heads note of their own rows, and the places that one of them names
abbrev pub ThereIsRoomForAll : Type 0
ThereIsRoomForAll = (names rows heads places : ℕ) → names ≤ 768 → rows ≤ 1024 → heads ≤ 8 → places ≤ 200 → names + rows + (3 * heads + places) < 2048
