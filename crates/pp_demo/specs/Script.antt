-- The script of a life, and how it crashes.
use Rattle.std.specs.Prelude.{ℕ, zero, suc, ◌+◌, ◌*◌, ◌%◌, List, ◌∷◌, length, position, reverse, unwrap_or}
use Rattle.pp_memworld.specs.declared.script.Cue.{Cue}
use Rattle.pp_memworld.specs.declared.script.Cue.TheVariants.{Tick}
use Rattle.pp_memworld.specs.declared.script.Page.{Page}
use Rattle.pp_world.specs.Log.{Log}
use Rattle.pp_demo.specs.Generator.{next_state, state_behind, value_in}
use Rattle.pp_demo.specs.Pages.{last_offsets, pages_up_to}
use Rattle.pp_demo.specs.Asking.{behind_clients, cues_of_clients}
use Rattle.pp_demo.specs.Summary.{is_woke}

abbrev pub site_of : ℕ → List Page
site_of seed = pages_up_to 50 (last_offsets 50 seed)

-- where a life begins to draw: each before it drew for 40 clients, and two values for its crash
unfoldable pub begin_of : ℕ → ℕ → ℕ
begin_of zero state = state
begin_of (suc life) state = next_state (next_state (behind_clients 40 (begin_of life state)))

-- the pages come first
abbrev pub begins : ℕ → ℕ → ℕ
begins seed life = begin_of life (state_behind 50 seed)

-- the clock is set, and then 40 clients come
abbrev pub cues_of : ℕ → ℕ → List Cue
cues_of seed life = Tick (784111777 + 100 * life) ∷ cues_of_clients 40 (last_offsets 50 seed) (begins seed life)

-- how many happenings before the end, and by which choice
abbrev pub crash_in : ℕ → ℕ × ℕ
crash_in state =
    let one = next_state state in
    (value_in one % 64, value_in (next_state one))

abbrev pub crash_of : ℕ → ℕ → ℕ × ℕ
crash_of seed life = crash_in (behind_clients 40 (begins seed life))

-- how many happenings stand behind the last Woke
abbrev pub past_woke : Log → ℕ
past_woke log = unwrap_or (position is_woke (reverse log)) (length log)
