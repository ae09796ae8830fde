-- What may be another's, read where it counts alone, is what is due first.
use Rattle.std.proofs.Common.{◌≡◌, refl, ℕ, Bool, true, false, not, ◌&&◌, is_none, is_some, Option, Some, None}
use Rattle.pp_flow.specs.Changes.{Exchanges}
use Rattle.pp_world.specs.declared.note.Decision.{Decision}
use Rattle.pp_seats.specs.declared.seat.Seat.{Seat}
use Rattle.pp_seats.specs.declared.seat.Shared.{Shared}
use Rattle.pp_seats.specs.Dues.{may_share, undecided_in}
use Rattle.pp_decide.specs.Sharing.{is_asked, may_wait_on, shared_ask}

abbrev pub if_so : Bool → Option Decision → Option Decision
if_so b decided = elim b [ true ↦ decided | false ↦ None ]

waiting_so : (w : Shared) (patient shares asked other : Bool) (decided : Option Decision) → undecided_in (Some w) patient shares asked (if_so (not patient) decided) ≡ undecided_in (Some w) patient shares other decided
waiting_so w true shares asked other decided = refl
waiting_so w false shares asked other decided = refl

shared_so : (shares may asked : Bool) (d : Decision)
    → (elim (shares && may && (true && (shares && may && asked))) as (λ c. Option Decision) [ true ↦ None | false ↦ Some d ]) ≡ (elim (shares && may && asked) as (λ c. Option Decision) [ true ↦ None | false ↦ Some d ])
shared_so true true asked d = refl
shared_so true false asked d = refl
shared_so false may asked d = refl

none_so : (shares : Bool) (seat : Seat) (flow : Exchanges) (decided : Option Decision)
    → undecided_in None false shares (true && is_asked shares decided seat flow) decided ≡ undecided_in None false shares (is_some (shared_ask seat flow)) decided
none_so shares seat flow None = refl
none_so shares seat flow (Some d) = shared_so shares (may_share d) (is_some (shared_ask seat flow)) d

read_so : (waits : Option Shared) (now : ℕ) (shares : Bool) (seat : Seat) (flow : Exchanges) (decided : Option Decision)
    → undecided_in waits (may_wait_on waits now flow) shares (is_none waits && is_asked shares (if_so (not (may_wait_on waits now flow)) decided) seat flow) (if_so (not (may_wait_on waits now flow)) decided)
    ≡ undecided_in waits (may_wait_on waits now flow) shares (is_some (shared_ask seat flow)) decided
read_so None now shares seat flow decided = none_so shares seat flow decided
read_so (Some w) now shares seat flow decided = waiting_so w (may_wait_on (Some w) now flow) shares (false && is_asked shares (if_so (not (may_wait_on (Some w) now flow)) decided) seat flow) (is_some (shared_ask seat flow)) decided

pub undecided_read : (waits : Option Shared) (now : ℕ) (shares : Bool) (seat : Seat) (flow : Exchanges) (decided : Option Decision) (patient asked : Bool) (read : Option Decision)
    → patient ≡ may_wait_on waits now flow → read ≡ if_so (not patient) decided → asked ≡ (is_none waits && is_asked shares read seat flow)
    → undecided_in waits patient shares asked read ≡ undecided_in waits (may_wait_on waits now flow) shares (is_some (shared_ask seat flow)) decided
undecided_read waits now shares seat flow decided patient asked read waiting reading asking = rw (asking, reading, waiting) (read_so waits now shares seat flow decided)
