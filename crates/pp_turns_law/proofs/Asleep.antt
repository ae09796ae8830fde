-- Nothing is due of a client that is asleep.
use Rattle.std.proofs.Common.{◌≡◌, refl, sym, ap, ap₂, ◌∙◌, ℕ, Bool, true, false, not, ◌&&◌, ◌||◌, find, nat_le, ◌-◌, [], ◌∷◌, Option, Some, None, option_map}
use Rattle.pp_law.specs.Connections.{is_trying}
use Rattle.pp_law.specs.Due.{Due, Decide, due_of, is_idle, is_short, patience}
use Rattle.pp_law.specs.Lists.{Bytes, is_some_with}
use Rattle.pp_law.specs.Requests.{NoHeadYet}
use Rattle.pp_law.specs.Sharing.{is_patient}
use Rattle.pp_law.specs.Stages.{is_begun, is_undecided}
use Rattle.pp_law.specs.State.{State, Client, Reply, Shared, Stage, Undecided, Waiting, Passing, Answering}
use Rattle.pp_law.specs.Table.{Next, next_of}
use Rattle.pp_seats.specs.Heads.{is_there_in}
use Rattle.pp_seats.specs.Seats.{is_silent, is_undecided_in}
use Rattle.pp_seats.specs.declared.seat.Seat.{Seat}
use Rattle.pp_seats_law.proofs.Stages.{undecided}
use Rattle.pp_seats_law.specs.Seats.{ShowsOpen, ShowsSeat}
use Rattle.pp_world.specs.declared.note.Cause.{Cause}
use Rattle.pp_world.specs.declared.note.Cause.TheVariants.{Superseded, Origin, Short, Idle, Stop}
use Rattle.pp_world.specs.declared.note.Decision.{Decision}
use Rattle.pp_turns_law.proofs.Brought.{behind_by, cut_by, due_by, due_read, first_by, says_by, stage_by}
use Rattle.pp_turns_law.proofs.Reading.{decide_none, front_none}

-- ---- of the law's client

cut_if : State → Client → Option Next → Bool → Bool → Bool → Bool → Option Cause
cut_if s c next closing stopped begun idle =
    let dry = begun && not (says_by s c next) in
    elim closing [
      | true ↦ None
      | false ↦ option_map (λ (cause : Bool × Cause). cause.1) (find (λ (cause : Bool × Cause). cause.0) (
          (stopped && begun, Stop) ∷ (dry && is_short c, Short) ∷ (dry && not (is_trying c.course), Origin) ∷ (begun && behind_by s next, Superseded) ∷ (idle, Idle) ∷ []
          ))
    ]

none_cut : (s : State) (c : Client) (next : Option Next) (closing stopped : Bool) → cut_if s c next closing stopped false false ≡ None
unfolding cut_if
none_cut s c next true stopped = refl
none_cut s c next false true = refl
none_cut s c next false false = refl

not_begun : (c : Client) → c.stage ≡ Undecided → is_begun c ≡ false
not_begun c is = ap (λ (t : Stage). is_some_with (λ (r : Reply). r.has_begun) (elim t as (λ b. Option Reply) [ Undecided ↦ None | Waiting ↦ None | Passing ↦ None | Answering r ↦ Some r ])) is

not_idle : (s : State) (c : Client) → s.is_ticked ≡ false → is_idle s c ≡ false
not_idle s c ticked = ap (λ (b : Bool). b && nat_le (patience c) (s.clock - c.mark)) ticked

cut_none : (s : State) (c : Client) → c.stage ≡ Undecided → s.is_ticked ≡ false → cut_by s c (next_of s c) ≡ None
unfolding cut_if
cut_none s c is ticked = ap₂ (λ (begun idle : Bool). cut_if s c (next_of s c) c.is_closing s.is_stopped begun idle) (not_begun c is) (not_idle s c ticked) ∙ none_cut s c (next_of s c) c.is_closing s.is_stopped

patient_none : (b : Bool) → (elim b as (λ x. Option Decision) [ true ↦ None | false ↦ None ]) ≡ None
patient_none true = refl
patient_none false = refl

first_none : (s : State) (c : Client) (waits : Option Shared) → first_by s c waits None ≡ None
first_none s c None = refl
first_none s c (Some w) = patient_none (is_patient s w)

stage_none : (s : State) (c : Client) → c.stage ≡ Undecided → c.front ≡ NoHeadYet → stage_by s c c.stage ≡ None
stage_none s c is front =
    ap (λ (t : Stage). stage_by s c t) is ∙ ap (λ (d : Option Decision). first_by s c c.waits_on d) (decide_none s c front) ∙ first_none s c c.waits_on

due_with : State → Client → Bool → Option Due
due_with s c b = elim (elim b as (λ x. Option Decision) [ true ↦ None | false ↦ None ]) [ Some d ↦ Some (Decide c.number c.index d) | None ↦ None ]

with_none : (s : State) (c : Client) (b : Bool) → due_with s c b ≡ None
unfolding due_with
with_none s c true = refl
with_none s c false = refl

due_none : (s : State) (c : Client) → due_by s c None None ≡ None
unfolding due_with
due_none s c = with_none s c (c.is_closing || s.is_stopped)

-- ---- of the seat

pub silent_first : (a b c d : Bool) → (a && b && c && d) ≡ true → a ≡ true
silent_first true b c d is = refl
silent_first false b c d is = absurd (cc is)

silent_second : (a b c d : Bool) → (a && b && c && d) ≡ true → b ≡ true
silent_second true true c d is = refl
silent_second true false c d is = absurd (cc is)
silent_second false b c d is = absurd (cc is)

silent_fourth : (a b c d : Bool) → (a && b && c && d) ≡ true → d ≡ true
silent_fourth true true true d is = is
silent_fourth true true false d is = absurd (cc is)
silent_fourth true false c d is = absurd (cc is)
silent_fourth false b c d is = absurd (cc is)

not_so : (b : Bool) → not b ≡ true → b ≡ false
not_so false is = refl
not_so true is = absurd (cc is)

undecided_is : (t : Stage) → is_undecided t ≡ true → t ≡ Undecided
undecided_is Undecided is = refl
undecided_is Waiting is = absurd (cc is)
undecided_is Passing is = absurd (cc is)
undecided_is (Answering r) is = absurd (cc is)

pub asleep_due : (s : State) (number : ℕ → ℕ) (name : Bytes) (seat : Seat) (c : Client) → ShowsSeat number name [] seat c → is_silent seat ≡ true → s.is_ticked ≡ false → due_of s c ≡ None
asleep_due s number name seat c seen silent ticked =
    due_read s c ∙ ap₂ (λ (cut : Option Cause) (d : Option Decision). due_by s c cut d) (cut_none s c stage ticked) (stage_none s c stage front) ∙ due_none s c
  where
    closing : seat.is_closing ≡ false
    closing = not_so seat.is_closing (silent_fourth (is_undecided_in seat.stage) (not (is_there_in seat.front)) (not seat.has_hung_up) (not seat.is_closing) silent)

    live : ShowsOpen number name [] seat c
    live = seen.going (sym seen.closing ∙ closing)

    stage : c.stage ≡ Undecided
    stage = undecided_is c.stage (sym (undecided number name [] seat c live) ∙ silent_first (is_undecided_in seat.stage) (not (is_there_in seat.front)) (not seat.has_hung_up) (not seat.is_closing) silent)

    front : c.front ≡ NoHeadYet
    front = front_none seat.front c.front (not_so (is_there_in seat.front) (silent_second (is_undecided_in seat.stage) (not (is_there_in seat.front)) (not seat.has_hung_up) (not seat.is_closing) silent)) live.front
