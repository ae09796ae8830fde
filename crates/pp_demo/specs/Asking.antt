-- What the clients ask for.
use Rattle.std.specs.Prelude.{ℕ, zero, suc, cond, ◌==◌, ◌+◌, ◌%◌, List, [], ◌∷◌, ◌++◌, slice_index, codes, decimal}
use Rattle.pp_memworld.specs.declared.script.Cue.{Cue}
use Rattle.pp_memworld.specs.declared.script.Cue.TheVariants.{Connect, Say}
use Rattle.pp_demo.specs.declared.asking.Range.{Range}
use Rattle.pp_demo.specs.declared.asking.Range.TheVariants.{Whole, From, Between}
use Rattle.pp_demo.specs.declared.asking.Request.{Request}
use Rattle.pp_demo.specs.Generator.{next_state, state_behind, value_in}

-- of a page of this length, by the values behind this state: the whole, what begins at an offset, or a span
abbrev pub range_behind : ℕ → ℕ → ℕ → Range
range_behind len form state =
    let one = next_state state in
    let from = value_in one % len in
    cond (form == 0) Whole (cond (form == 1) (From from) (Between from (from + value_in (next_state one) % 10000)))

-- the first value says the page, the second the form
abbrev pub request_of : List ℕ → ℕ → Request
request_of last_offsets state =
    let one = next_state state in
    let two = next_state one in
    let page = value_in one % 50 in
    record {
      page = page;
      range = range_behind (slice_index last_offsets page + 1) (value_in two % 3) two;
    }

-- a form takes as many values more: none for a whole page, one for what begins at an offset, and two for a span
abbrev pub behind_client : ℕ → ℕ
behind_client state =
    let two = next_state (next_state state) in
    state_behind (value_in two % 3) two

unfoldable pub behind_clients : ℕ → ℕ → ℕ
behind_clients zero state = state
behind_clients (suc n) state = behind_client (behind_clients n state)

-- ---- as a client says it

abbrev pub range_line : Range → List ℕ
range_line Whole = []
range_line (From a) = codes "Range: bytes=" ++ decimal a ++ codes "-\r\n"
range_line (Between a b) = codes "Range: bytes=" ++ decimal a ++ codes "-" ++ decimal b ++ codes "\r\n"

abbrev pub request_text : Request → List ℕ
request_text r = codes "GET http://demo/" ++ decimal r.page ++ codes " HTTP/1.1\r\nHost: demo\r\n" ++ range_line r.range ++ codes "\r\n"

-- a client connects, and says its request
unfoldable pub cues_of_client : List ℕ → ℕ → List Cue
cues_of_client last_offsets state = Connect ∷ Say 0 (request_text (request_of last_offsets state)) ∷ []

-- so many clients
unfoldable pub cues_of_clients : ℕ → List ℕ → ℕ → List Cue
cues_of_clients zero last_offsets state = []
cues_of_clients (suc n) last_offsets state = cues_of_clients n last_offsets state ++ cues_of_client last_offsets (behind_clients n state)
