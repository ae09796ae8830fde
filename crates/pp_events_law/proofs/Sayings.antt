-- A client is written to, whatever of its reply was taken: the turn stands behind it.
use Rattle.std.proofs.Common.{◌≡◌, ◌≤◌, refl, ℕ, Bool, true, false, is_some, length, Some, None, Ok, Err}
use Rattle.std.specs.Prelude.{IfOk, IfSome}
use Rattle.pp_cache.specs.Bounds.{IsBounded}
use Rattle.pp_client.specs.Replies.{is_said, said}
use Rattle.pp_desk.specs.Calls.{Took, write_log}
use Rattle.pp_desk.specs.Closings.{Sides, sides, with_parts}
use Rattle.pp_events_law.proofs.SaidAll.{all_said}
use Rattle.pp_events_law.proofs.Told.{called, fails, part_said, wrote}
use Rattle.pp_events_law.specs.Ready.{HasLedReady}
use Rattle.pp_events_law.specs.Says.{MaySay, SayingsLead}
use Rattle.pp_events_law.specs.Stands.{AreReadyAt, StandsAtEvent}
use Rattle.pp_law.specs.Lists.{Bytes}
use Rattle.pp_law.specs.State.{State, Handling, WriteTo}
use Rattle.pp_laws_turn.specs.SoundTurn.{IsSoundTurn}
use Rattle.pp_proxy.specs.Handling.{SaysAt}
use Rattle.pp_proxy.specs.Moving.{Turning}
use Rattle.pp_seats.specs.declared.seat.Seat.{Seat}
use Rattle.pp_talk.specs.Talking.{IsWritten, offered, said_as, told_at}
use Rattle.pp_world.specs.Log.{AppendsAll}

module _ (number : ℕ → ℕ) (id i : ℕ) (x y : Turning) (seat : Seat) (s : State) (stands : StandsAtEvent number Handling (WriteTo id) x.moving s) (ready : AreReadyAt number x.moving s) (sound : IsSoundTurn s) (may : MaySay id i x seat) (bounded : IsBounded y.moving.desk.state.cache) (says : SaysAt i x y) where
  abbrev os : Bytes
  os = offered seat.client.reply x.moving.desk.state.cache

  abbrev next : Sides
  next = says.says.says.0

  taken : (n : ℕ) → n ≤ length os → AppendsAll x.log y.log (write_log seat.client.id os (Some (Ok n))) → next ≡ with_parts (told_at i n) (sides x.moving.desk) → HasLedReady number x y s
  taken n few told is = by (is_said (said n seat.client.reply)) refl
    where
      by : (b : Bool) → is_said (said n seat.client.reply) ≡ b → HasLedReady number x y s
      by false more = part_said number id i x y seat s stands ready sound may bounded says n few more told is
      by true all = all_said number id i x y seat s stands ready sound may bounded says n few all told is

  by_took : (took : Took) → is_some took ≡ true → AppendsAll x.log y.log (write_log seat.client.id os took) → IfSome took (λ r. IfOk r (λ n. n ≤ length os)) → next ≡ said_as took i (sides x.moving.desk) → HasLedReady number x y s
  by_took None none told within is = absurd (cc none)
  by_took (Some (Ok n)) some told within is = taken n within told is
  by_took (Some (Err fault)) some told within is = fails number id i x y seat s stands ready sound may bounded says fault told is

  abbrev its : IsWritten i seat x.moving.links (sides x.moving.desk) next x.log y.log
  its = wrote number id i x y seat s stands ready sound may bounded says

  written : HasLedReady number x y s
  written = by_took its.took (called number id i x y seat s stands ready sound may bounded says) its.told its.within its.is

pub sayings_lead : SayingsLead
sayings_lead number id i x y seat s stands ready sound may bounded says = written number id i x y seat s stands ready sound may bounded says
