-- A response is whole, or is none: rows are cleared as attempts are lost, in the program as in the law.
use Rattle.std.proofs.Common.{◌≤◌, ◌<◌, ◌+◌, sym, ap, ◌∙◌, ℕ, length, arith}
use Rattle.std.specs.Prelude.{count_by}
use Rattle.pp_desk.specs.Closings.{Sides}
use Rattle.pp_law.specs.State.{State, Answer, Conn, Exchange}
use Rattle.pp_objects.specs.Instances.{is_row}
use Rattle.pp_origins.specs.Gots.{Both, Makes, sides_of}
use Rattle.pp_origins.specs.Responses.{bad_response, response_whole}
use Rattle.pp_state.specs.Ends.{parts}
use Rattle.pp_state.specs.declared.state.State.{State as Turn}
use Rattle.pp_joints_law.proofs.ClearedLaw.{Cleared, Clears, clears_none, facts_of}
use Rattle.pp_joints_law.proofs.ClearedParts.{ClearsIn, clears_as}
use Rattle.pp_joints_law.proofs.ClearedSteps.{finish-clears}
use Rattle.pp_joints_law.proofs.ClearedWire.{clears_whole}
use Rattle.pp_joints_law.proofs.NotedBehind.{noted_behind, rows_show, tidy_shown}
use Rattle.pp_joints_law.proofs.NotedRefused.{bad_head_clears, bad_response_clears, bads_clear}
use Rattle.pp_joints_law.specs.EndsTie.{BadBodiesTie, BadHeadsTie, OfEnds, WholesTie}

less : (a b c d : ℕ) → a + b ≤ c + d → c + d < 2048 → a < 2048
less a b c d one two = omega (arith, one, two)

ties_by : (made : ℕ → Sides → Sides) (law : Conn → Exchange → Answer → State → State) → ((n : ℕ) (x : Sides) → ClearsIn x.parts (made n x).parts) → ((k : Conn) (e : Exchange) (a : Answer) (s : State) → Clears s (law k e a s)) → OfEnds made law
ties_by made law turns laws number other n k e a x y s shows behind makes room tied = record {
  noted = noted_behind (parts x.state) (parts y.state) s (law k e a s) (rows_show number x.state.cache s shows) (rows_show other y.state.cache (law k e a s) behind) (tidy_shown number x.state.cache s shows) (laws k e a s) turn few tied.named tied.noted;
  named = facts.named tied.named;
  leaves = record { forgotten = ap (λ (p : Turn). p.forgotten) makes.rest ∙ tied.leaves.forgotten ∙ sym facts.forgotten_is };
}
  where
    facts : Cleared s (law k e a s).entries (law k e a s).displaced (law k e a s).instances (law k e a s).forgotten (law k e a s).is_evicting
    facts = facts_of (laws k e a s)

    turn : ClearsIn (parts x.state) (parts y.state)
    turn = clears_as (parts x.state) (made n (sides_of x)).parts (parts y.state) (ap (λ (w : Sides). w.parts) makes.is) (turns n (sides_of x))

    few : length y.state.cache.outdated < 2048
    few = less (length y.state.cache.outdated) (count_by is_row y.state.cache.instances) (length x.state.cache.outdated) (count_by is_row x.state.cache.instances) turn.few room

pub wholes_tie : WholesTie
wholes_tie = ties_by _ _ (λ n x. clears_whole n x) (λ k e a s. finish-clears k e a s (clears_none s))

pub bad_bodies_tie : BadBodiesTie
bad_bodies_tie = ties_by _ _ (λ n x. bads_clear n x) (λ k e a s. bad_response_clears k s (clears_none s))

pub bad_heads_tie : BadHeadsTie
bad_heads_tie = ties_by _ _ (λ n x. bads_clear n x) (λ k e a s. bad_head_clears k s (clears_none s))

-- ---- no more is noted, with one for each row

few_by : (made : Sides → Sides) → ((x : Sides) → ClearsIn x.parts (made x).parts) → (x y : Both) → Makes made x y → length y.state.cache.outdated + count_by is_row y.state.cache.instances ≤ length x.state.cache.outdated + count_by is_row x.state.cache.instances
few_by made turns x y makes = (clears_as (parts x.state) (made (sides_of x)).parts (parts y.state) (ap (λ (w : Sides). w.parts) makes.is) (turns (sides_of x))).few

pub wholes_few : (n : ℕ) (x y : Both) → Makes (response_whole n) x y → length y.state.cache.outdated + count_by is_row y.state.cache.instances ≤ length x.state.cache.outdated + count_by is_row x.state.cache.instances
wholes_few n x y makes = few_by (response_whole n) (λ z. clears_whole n z) x y makes

pub bads_few : (n : ℕ) (x y : Both) → Makes (bad_response n) x y → length y.state.cache.outdated + count_by is_row y.state.cache.instances ≤ length x.state.cache.outdated + count_by is_row x.state.cache.instances
bads_few n x y makes = few_by (bad_response n) (λ z. bads_clear n z) x y makes
