-- A response is whole, or is none (RFC 2616, sections 4.4, 8.1 and 10.1; ours): rows are cleared as attempts are lost, which is noted in the program
-- where it is so in the law, and nothing has to leave memory for it.
--
-- Where the premises come from: what both show before and behind is that of `Wholes` and `Bads` of `pp_reads_law`.
use Rattle.std.specs.Prelude.{◌<◌, ◌+◌, ℕ, count_by, length}
use Rattle.pp_cache_law.specs.Tables.{ShowsTable}
use Rattle.pp_desk.specs.Closings.{Sides}
use Rattle.pp_joints_law.specs.HeadsNote.{IsTied}
use Rattle.pp_law.specs.Responses.{bad_head, bad_response as law_bad_response, finish}
use Rattle.pp_law.specs.State.{State, Answer, Conn, Exchange}
use Rattle.pp_objects.specs.Instances.{is_row}
use Rattle.pp_origins.specs.Gots.{Both, Makes}
use Rattle.pp_origins.specs.Responses.{bad_response, response_whole}

-- where both show the same rows before and behind, and each of these may be noted
abbrev pub OfEnds : (ℕ → Sides → Sides) → (Conn → Exchange → Answer → State → State) → Type 0
OfEnds made law = (number other : ℕ → ℕ) (n : ℕ) (k : Conn) (e : Exchange) (a : Answer) (x y : Both) (s : State) → ShowsTable number x.state.cache s → ShowsTable other y.state.cache (law k e a s) → Makes (made n) x y
    → length x.state.cache.outdated + count_by is_row x.state.cache.instances < 2048 → IsTied x.state s → IsTied y.state (law k e a s)

-- a response is whole
abbrev pub WholesTie : Type 0
WholesTie = OfEnds response_whole finish

-- or is none, amid its body
abbrev pub BadBodiesTie : Type 0
BadBodiesTie = OfEnds bad_response (λ k e a s. law_bad_response k s)

-- and where its head was due
abbrev pub BadHeadsTie : Type 0
BadHeadsTie = OfEnds bad_response (λ k e a s. bad_head k s)
