-- What is passed to a client ends early.
use Rattle.std.proofs.Common.{◌≡◌, refl, sym, subst, ap, ◌∙◌, ℕ, Bool, true, false, List, Some, None, Option}
use Rattle.pp_client.specs.Replies.{Reply as Said}
use Rattle.pp_client.specs.declared.reply.Stage.{Stage as SaidStage}
use Rattle.pp_law.specs.Lists.{Bytes}
use Rattle.pp_law.specs.Stages.{on_passed, passed_of}
use Rattle.pp_law.specs.State.{Brought, Awaited, Client, Joins, Passed, Passes, TooWide, Useless}
use Rattle.pp_law.specs.Table.{follows}
use Rattle.pp_seats.specs.Seats.{brought_to}
use Rattle.pp_seats.specs.declared.seat.Brought.{Brought as SeatBrought}
use Rattle.pp_seats.specs.declared.seat.Brought.TheVariants.{Awaited as NoneYet, Useless as NoneOfUse, Joins as JoinsRow, Passes as PassesOn, TooWide as IsTooWide, Refused}
use Rattle.pp_seats.specs.declared.seat.Course.{Course as SeatCourse}
use Rattle.pp_seats.specs.declared.seat.Passed.{Passed as SeatPassed}
use Rattle.pp_seats.specs.declared.seat.PassedEnd.{PassedEnd}
use Rattle.pp_seats.specs.declared.seat.PassedEnd.TheVariants.{Whole, Short}
use Rattle.pp_seats.specs.declared.seat.Seat.{Seat}
use Rattle.pp_seats_law.specs.Replies.{IsBroughtFor, IsPipedFor, IsRefusedRow, ShowsFate, ShowsPassed, IsHeadKept, passed_text}
use Rattle.pp_seats_law.specs.Seats.{ShowsOpen, ShowsSeat}
use Rattle.pp_states_law.specs.Clients.{FollowsOn}
use Rattle.pp_states_law.specs.Losses.{IsComing}
use Rattle.pp_law.specs.Requests.{Front, NoHeadYet, NoHead, IsRequest}
use Rattle.pp_client.specs.declared.reply.Stage.TheVariants.{Due, Begun}
use Rattle.pp_client.specs.declared.reply.Begin.TheVariants.{Page, Instance, Passed as IsPassed}
use Rattle.std.specs.Prelude.{⊤}

abbrev pub cut_off : Passed → Passed
cut_off p = record p { is_short = true }

text_same : (name : Bytes) (front : Front) (p : Passed) → passed_text name front (cut_off p) ≡ passed_text name front p
text_same name NoHeadYet p = refl
text_same name (NoHead status) p = refl
text_same name (IsRequest r) p = refl

head_same : (name : Bytes) (stage : SaidStage) (said : Said) (front : Front) (x : SeatPassed) (p : Passed) → IsHeadKept name stage said front x p → IsHeadKept name stage said front (record x { end = Short }) (cut_off p)
head_same name Due said front x p kept = (kept.0 ∙ sym (text_same name front p), kept.1)
head_same name (Begun reply) said front x p kept = tt

passed_short : (name : Bytes) (said : Said) (front : Front) (x : SeatPassed) (p : Passed) → p.pipe.is_finished ≡ false → ShowsPassed name said front x p → ShowsPassed name said front (record x { end = Short }) (cut_off p)
passed_short name said front x p coming shows = record {
  rule = shows.rule;
  pipe = shows.pipe;
  end = sym (ap (λ (b : Bool). elim b as (λ t. PassedEnd) [ true ↦ Whole | false ↦ Short ]) coming);
  head = head_same name said.stage said front x p shows.head;
}

asked_same : (front : Front) (x y : SeatPassed) → IsBroughtFor front (PassesOn x) → IsBroughtFor front (PassesOn y)
asked_same NoHeadYet x y asked = absurd asked
asked_same (NoHead status) x y asked = tt
asked_same (IsRequest r) x y asked = tt

piped_same : (stage : SaidStage) (x y : SeatPassed) → IsPipedFor stage (PassesOn x) → IsPipedFor stage (PassesOn y)
piped_same Due x y piped = tt
piped_same (Begun Page) x y piped = tt
piped_same (Begun (Instance id next to)) x y piped = tt
piped_same (Begun IsPassed) x y piped = tt

-- ---- a seat

abbrev seat_by : Seat → SeatBrought → Seat
seat_by seat b = record seat { brought = b }

abbrev by_brought : Client → Brought → Client
by_brought c b = record c { brought = b }

no_row : (owed : List Bytes) (c : Client) (p : Passed) → IsRefusedRow owed (by_brought c (Passes p)) → ⊥
no_row owed c p shows = absurd (let both : Passes p ≡ Joins shows.joins.0 shows.joins.1 = shows.joins.2 in cc both)

open_cut : (number : ℕ → ℕ) (name : Bytes) (owed : List Bytes) (seat : Seat) (c : Client) (b : SeatBrought) (p : Passed) → p.pipe.is_finished ≡ false → ShowsOpen number name owed (seat_by seat b) (by_brought c (Passes p))
    → ShowsOpen number name owed (seat_by seat (brought_to Short b)) (by_brought c (Passes (cut_off p)))
open_cut number name owed seat c NoneYet p coming shows = absurd shows.fate.1
open_cut number name owed seat c NoneOfUse p coming shows = absurd shows.fate.1
open_cut number name owed seat c (JoinsRow id plain) p coming shows = absurd shows.fate.1
open_cut number name owed seat c IsTooWide p coming shows = absurd shows.fate.1
open_cut number name owed seat c Refused p coming shows = absurd (no_row owed c p shows.fate)
open_cut number name owed seat c (PassesOn x) p coming shows = record {
  hung_up = shows.hung_up;
  mark = shows.mark;
  heard = shows.heard;
  body = shows.body;
  over = shows.over;
  front = shows.front;
  body_left = shows.body_left;
  index = shows.index;
  stage = shows.stage;
  waits_on = shows.waits_on;
  fate = (shows.fate.0, passed_short name seat.client.reply c.front x p coming shows.fate.1);
  asked = asked_same c.front x (record x { end = Short }) shows.asked;
  piped = piped_same seat.client.reply.stage x (record x { end = Short }) shows.piped;
  given_up = shows.given_up;
  interim = shows.interim;
  before_body = shows.before_body;
  closes = shows.closes;
}

-- what is not passed stays
abbrev IsPassing : Brought → Type 0
IsPassing (Passes p) = ⊤
IsPassing b = ⊥

stays : (number : ℕ → ℕ) (name : Bytes) (owed : List Bytes) (said : Said) (course : SeatCourse) (sb : SeatBrought) (c : Client) (b : Brought) → (IsPassing b → ⊥) → ShowsFate number name owed said course sb (by_brought c b) → sb ≡ brought_to Short sb
stays number name owed said course NoneYet c b isnt fate = refl
stays number name owed said course NoneOfUse c b isnt fate = refl
stays number name owed said course (JoinsRow id plain) c b isnt fate = refl
stays number name owed said course IsTooWide c b isnt fate = refl
stays number name owed said course Refused c b isnt fate = refl
stays number name owed said course (PassesOn x) c Awaited isnt fate = absurd fate.1
stays number name owed said course (PassesOn x) c Useless isnt fate = absurd fate.1
stays number name owed said course (PassesOn x) c (Joins id plain) isnt fate = absurd fate.1
stays number name owed said course (PassesOn x) c (Passes p) isnt fate = absurd (isnt tt)
stays number name owed said course (PassesOn x) c TooWide isnt fate = absurd fate.1

seat_stays : (number : ℕ → ℕ) (name : Bytes) (owed : List Bytes) (seat : Seat) (c : Client) (b : Brought) → (IsPassing b → ⊥) → ShowsSeat number name owed seat (by_brought c b) → ShowsSeat number name owed (seat_by seat (brought_to Short seat.brought)) (by_brought c b)
seat_stays number name owed seat c b isnt shows = record {
  number = shows.number;
  closing = shows.closing;
  going = λ goes. subst (λ (sb : SeatBrought). ShowsOpen number name owed (seat_by seat sb) (by_brought c b)) (stays number name owed seat.client.reply seat.course seat.brought c b isnt (shows.going goes).fate) (shows.going goes);
}

cut : (number : ℕ → ℕ) (name : Bytes) (owed : List Bytes) (seat : Seat) (c : Client) (b : Brought) → ShowsSeat number name owed seat (by_brought c b) → IsComing (by_brought c b)
    → ShowsSeat number name owed (seat_by seat (brought_to Short seat.brought)) (on_passed cut_off (by_brought c b))
cut number name owed seat c Awaited shows coming = seat_stays number name owed seat c Awaited (λ is. is) shows
cut number name owed seat c Useless shows coming = seat_stays number name owed seat c Useless (λ is. is) shows
cut number name owed seat c (Joins id plain) shows coming = seat_stays number name owed seat c (Joins id plain) (λ is. is) shows
cut number name owed seat c TooWide shows coming = seat_stays number name owed seat c TooWide (λ is. is) shows
cut number name owed seat c (Passes p) shows coming = record {
  number = shows.number;
  closing = shows.closing;
  going = λ goes. open_cut number name owed seat c seat.brought p coming (shows.going goes);
}

pub shorts : (number : ℕ → ℕ) (name : Bytes) (owed : List Bytes) (seat : Seat) (c : Client) → ShowsSeat number name owed seat c → IsComing c → ShowsSeat number name owed (record seat { brought = brought_to Short seat.brought }) (on_passed cut_off c)
shorts number name owed seat c shows coming = cut number name owed seat c c.brought shows coming

pub shorts_follow : FollowsOn (on_passed cut_off)
shorts_follow id c = by (passed_of c)
  where
    by : (o : Option Passed) → follows id (elim o as (λ t. Client) [ None ↦ c | Some p ↦ record c { brought = Passes (cut_off p) } ]) ≡ follows id c
    by None = refl
    by (Some p) = refl
