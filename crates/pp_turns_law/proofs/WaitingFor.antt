-- Whether a request that waits for another's answer may wait on.
use Rattle.std.proofs.Common.{◌≡◌, refl, ap, ◌∙◌, ℕ, Bool, Option, Some, None}
use Rattle.pp_turns_law.proofs.Shared.{awaited}
use Rattle.pp_law.specs.Sharing.{is_awaited}
use Rattle.pp_law.specs.State.{State}
use Rattle.pp_seats.specs.declared.seat.Shared.{Shared}
use Rattle.pp_seats_law.specs.Dues.{waits_on_still}
use Rattle.pp_decide.specs.Patience.{is_patient}
use Rattle.pp_decide.specs.Sharing.{is_awaited as awaited_in_turn, may_wait_on}
use Rattle.pp_state.specs.Ends.{parts}
use Rattle.pp_state.specs.declared.state.State.{State as Turn}
use Rattle.pp_turns_law.specs.Dues.{PatienceIsTheLaws}

waits_by : (p : Turn) (s : State) (waits : Option Shared) → p.now ≡ s.clock → ((n : ℕ) → awaited_in_turn n p.flow ≡ is_awaited s n) → may_wait_on waits p.now p.flow ≡ waits_on_still s waits
waits_by p s None clock same = refl
waits_by p s (Some w) clock same = ap (λ (b : Bool). is_patient b p.now w.since) (same w.exchange) ∙ ap (λ (now : ℕ). is_patient (is_awaited s w.exchange) now w.since) clock

pub waiting : PatienceIsTheLaws
waiting number l peers p s name seat c shows seen going there = waits_by p s seat.waits_on shows.clock (awaited number p.name.items l peers (parts p) s shows.steps)
