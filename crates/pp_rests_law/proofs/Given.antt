-- Where memory was refused for no seat's row, it was for no client's that goes on.
use Rattle.std.proofs.Common.{◌≡◌, ◌⊎◌, inl, inr, refl, sym, subst, ap, ◌∙◌, ℕ, suc, false, List, [], ◌∷◌, Some}
use Rattle.std.specs.Prelude.{slice_get}
use Rattle.pp_law.specs.Lists.{Bytes}
use Rattle.pp_law.specs.State.{Client}
use Rattle.pp_laws.specs.Runs.{IsIn}
use Rattle.pp_seats.specs.Dues.{is_refused_in}
use Rattle.pp_seats.specs.declared.seat.Brought.{Brought}
use Rattle.pp_seats.specs.declared.seat.Brought.TheVariants.{Awaited, Joins, Passes, Refused, TooWide, Useless}
use Rattle.pp_seats.specs.declared.seat.Course.{Course}
use Rattle.pp_seats.specs.declared.seat.Course.TheVariants.{AskTooLong, OutOfTries, Trying}
use Rattle.pp_seats.specs.declared.seat.Seat.{Seat}
use Rattle.pp_seats_law.specs.Clients.{AreShown}
use Rattle.pp_seats_law.specs.Fates.{is_refused}
use Rattle.pp_seats_law.specs.Replies.{ShowsFate, course_of}
use Rattle.pp_seats_law.specs.Seats.{ShowsSeat}

not_refused : (course : Course) → is_refused (course_of course) ≡ false
not_refused (Trying n) = refl
not_refused OutOfTries = refl
not_refused AskTooLong = refl

fate_given : (number : ℕ → ℕ) (name : Bytes) (seat : Seat) (course : Course) (brought : Brought) (c : Client) → ShowsFate number name [] seat.client.reply course brought c → is_refused_in brought ≡ false → is_refused c.course ≡ false
fate_given number name seat course Awaited c fate given = ap is_refused (sym fate.0) ∙ not_refused course
fate_given number name seat course Useless c fate given = ap is_refused (sym fate.0) ∙ not_refused course
fate_given number name seat course (Joins id plain) c fate given = ap is_refused (sym fate.0) ∙ not_refused course
fate_given number name seat course (Passes x) c fate given = ap is_refused (sym fate.0) ∙ not_refused course
fate_given number name seat course TooWide c fate given = ap is_refused (sym fate.0) ∙ not_refused course
fate_given number name seat course Refused c fate given = absurd (cc given)

seat_given : (number : ℕ → ℕ) (name : Bytes) (seat : Seat) (c : Client) → ShowsSeat number name [] seat c → is_refused_in seat.brought ≡ false → c.is_closing ≡ false → is_refused c.course ≡ false
seat_given number name seat c shows given going = fate_given number name seat seat.course seat.brought c (shows.going going).fate given

pub given_shown : (number : ℕ → ℕ) (name : Bytes) (seats : List Seat) (cs : List Client) → AreShown number name [] seats cs → ((i : ℕ) (seat : Seat) → slice_get seats i ≡ Some seat → is_refused_in seat.brought ≡ false)
    → (c : Client) → IsIn c cs → c.is_closing ≡ false → is_refused c.course ≡ false
given_shown number name [] [] shown given c there going = absurd there
given_shown number name [] (d ∷ cs) shown given c there going = absurd shown
given_shown number name (seat ∷ seats) [] shown given c there going = absurd there
given_shown number name (seat ∷ seats) (d ∷ cs) shown given c (inl same) going =
    subst (λ (x : Client). is_refused x.course ≡ false) (sym same) (seat_given number name seat d shown.0 (given 0 seat refl) (ap (λ (x : Client). x.is_closing) (sym same) ∙ going))
given_shown number name (seat ∷ seats) (d ∷ cs) shown given c (inr later) going = given_shown number name seats cs shown.1 (λ i x at. given (suc i) x at) c later going
