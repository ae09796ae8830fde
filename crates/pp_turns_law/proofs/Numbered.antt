-- What was given its life before keeps its number where another life is given.
use Rattle.std.proofs.Common.{◌≡◌, ◌<◌, refl, ap, ◌∙◌, ℕ, suc, Bool, true, false, List, [], ◌∷◌, Option, Some, None}
use Rattle.std.specs.Prelude.{slice_get}
use Rattle.pp_client.specs.Replies.{Reply as Said}
use Rattle.pp_flow.specs.declared.entry.Entry.{Entry}
use Rattle.pp_flow.specs.declared.errand.Body.{Body as ErrandBody}
use Rattle.pp_flow.specs.declared.errand.Body.TheVariants.{Pending as IsPending, Joining as IsJoining, Relaying as IsRelaying, Dropping as IsDropping}
use Rattle.pp_law.specs.Lists.{Bytes}
use Rattle.pp_law.specs.Requests.{Front}
use Rattle.pp_law.specs.State.{Body, Pending, Joining, Relaying, Dropping, Brought, Awaited, Useless, Joins, Passes, TooWide, Client, Exchange, Reply, Stage, Undecided, Waiting, Passing, Answering}
use Rattle.pp_objects.specs.declared.id.ObjectId.{ObjectId}
use Rattle.pp_seats.specs.Follows.{answer_in}
use Rattle.pp_seats.specs.declared.seat.Answer.{Answer}
use Rattle.pp_seats.specs.declared.seat.Brought.{Brought as SeatBrought}
use Rattle.pp_seats.specs.declared.seat.Brought.TheVariants.{Awaited as NoneYet, Useless as NoneOfUse, Joins as JoinsRow, Passes as PassesOn, TooWide as IsTooWide, Refused}
use Rattle.pp_seats.specs.declared.seat.Course.{Course as SeatCourse}
use Rattle.pp_seats.specs.declared.seat.Seat.{Seat}
use Rattle.pp_seats.specs.declared.seat.Stage.{Stage as SeatStage}
use Rattle.pp_seats.specs.declared.seat.Stage.TheVariants.{Undecided as IsUndecided, Waiting as IsWaiting, Passing as IsPassing, Answering as IsAnswering}
use Rattle.pp_seats_law.specs.Clients.{AreShown}
use Rattle.pp_seats_law.specs.Exchanges.{Binding, ShowsBody, ShowsExchange}
use Rattle.pp_seats_law.specs.Replies.{ShowsAnswer, ShowsBrought, ShowsFate, ShowsStage, source_number}
use Rattle.pp_seats_law.specs.Seats.{ShowsOpen, ShowsSeat}

-- each life that was given has its number
abbrev pub AreSame : ℕ → (ℕ → ℕ) → (ℕ → ℕ) → Type 0
AreSame lives number other = (life : ℕ) → life < lives → other life ≡ number life

-- what a seat names was given its life
pub record IsGiven (lives : ℕ) (seat : Seat) : Type 0 where
  pub source : (a : Answer) (id : ObjectId) → answer_in seat.stage ≡ Some a → a.source ≡ Some id → id.life < lives
  pub joined : (id : ObjectId) (plain : Bool) → seat.brought ≡ JoinsRow id plain → id.life < lives

abbrev pub AreGivenLives : ℕ → List Seat → Type 0
AreGivenLives lives seats = (i : ℕ) (seat : Seat) → slice_get seats i ≡ Some seat → seat.is_closing ≡ false → IsGiven lives seat

-- ---- seats

source_as : (lives : ℕ) (number other : ℕ → ℕ) (o : Option ObjectId) → AreSame lives number other → ((id : ObjectId) → o ≡ Some id → id.life < lives) → source_number other o ≡ source_number number o
source_as lives number other None same given = refl
source_as lives number other (Some id) same given = ap (λ (n : ℕ). Some n) (same id.life (given id refl))

answer_as : (lives : ℕ) (number other : ℕ → ℕ) (said : Said) (a : Answer) (r : Reply) → AreSame lives number other → ((id : ObjectId) → a.source ≡ Some id → id.life < lives) → ShowsAnswer number said a r → ShowsAnswer other said a r
answer_as lives number other said a r same given shows = record {
  decision = shows.decision;
  source = source_as lives number other a.source same given ∙ shows.source;
  begun = shows.begun;
  says = shows.says;
}

stage_as : (lives : ℕ) (number other : ℕ → ℕ) (said : Said) (stage : SeatStage) (known : Stage) → AreSame lives number other → ((a : Answer) (id : ObjectId) → answer_in stage ≡ Some a → a.source ≡ Some id → id.life < lives)
    → ShowsStage number said stage known → ShowsStage other said stage known
stage_as lives number other said IsUndecided Undecided same given shows = shows
stage_as lives number other said IsWaiting Waiting same given shows = shows
stage_as lives number other said IsPassing Passing same given shows = shows
stage_as lives number other said (IsAnswering a) (Answering r) same given shows = answer_as lives number other said a r same (λ id own. given a id refl own) shows
stage_as lives number other said stage known same given shows = absurd shows

brought_as : (lives : ℕ) (number other : ℕ → ℕ) (name : Bytes) (said : Said) (front : Front) (brought : SeatBrought) (known : Brought) → AreSame lives number other → ((id : ObjectId) (plain : Bool) → brought ≡ JoinsRow id plain → id.life < lives)
    → ShowsBrought number name said front brought known → ShowsBrought other name said front brought known
brought_as lives number other name said front NoneYet Awaited same given shows = tt
brought_as lives number other name said front NoneOfUse Useless same given shows = tt
brought_as lives number other name said front (JoinsRow id plain) (Joins n told) same given shows = (same id.life (given id plain refl) ∙ shows.0, shows.1)
brought_as lives number other name said front (PassesOn x) (Passes p) same given shows = shows
brought_as lives number other name said front IsTooWide TooWide same given shows = tt
brought_as lives number other name said front brought known same given shows = absurd shows

fate_as : (lives : ℕ) (number other : ℕ → ℕ) (name : Bytes) (owed : List Bytes) (said : Said) (course : SeatCourse) (brought : SeatBrought) (c : Client) → AreSame lives number other
    → ((id : ObjectId) (plain : Bool) → brought ≡ JoinsRow id plain → id.life < lives) → ShowsFate number name owed said course brought c → ShowsFate other name owed said course brought c
fate_as lives number other name owed said course Refused c same given shows = shows
fate_as lives number other name owed said course NoneYet c same given shows = (shows.0, brought_as lives number other name said c.front NoneYet c.brought same given shows.1)
fate_as lives number other name owed said course NoneOfUse c same given shows = (shows.0, brought_as lives number other name said c.front NoneOfUse c.brought same given shows.1)
fate_as lives number other name owed said course (JoinsRow id plain) c same given shows = (shows.0, brought_as lives number other name said c.front (JoinsRow id plain) c.brought same given shows.1)
fate_as lives number other name owed said course (PassesOn x) c same given shows = (shows.0, brought_as lives number other name said c.front (PassesOn x) c.brought same given shows.1)
fate_as lives number other name owed said course IsTooWide c same given shows = (shows.0, brought_as lives number other name said c.front IsTooWide c.brought same given shows.1)

open_as : (lives : ℕ) (number other : ℕ → ℕ) (name : Bytes) (owed : List Bytes) (seat : Seat) (c : Client) → AreSame lives number other → IsGiven lives seat → ShowsOpen number name owed seat c → ShowsOpen other name owed seat c
open_as lives number other name owed seat c same given shows = record {
  hung_up = shows.hung_up;
  mark = shows.mark;
  heard = shows.heard;
  body = shows.body;
  over = shows.over;
  front = shows.front;
  body_left = shows.body_left;
  index = shows.index;
  stage = stage_as lives number other seat.client.reply seat.stage c.stage same given.source shows.stage;
  waits_on = shows.waits_on;
  fate = fate_as lives number other name owed seat.client.reply seat.course seat.brought c same given.joined shows.fate;
  asked = shows.asked;
  piped = shows.piped;
  given_up = shows.given_up;
  interim = shows.interim;
  before_body = shows.before_body;
  closes = shows.closes;
}

seat_as : (lives : ℕ) (number other : ℕ → ℕ) (name : Bytes) (owed : List Bytes) (seat : Seat) (c : Client) → AreSame lives number other → (seat.is_closing ≡ false → IsGiven lives seat) → ShowsSeat number name owed seat c
    → ShowsSeat other name owed seat c
seat_as lives number other name owed seat c same given shows = record {
  number = shows.number;
  closing = shows.closing;
  going = λ going. open_as lives number other name owed seat c same (given (shows.closing ∙ going)) (shows.going going);
}

pub seats_as : (lives : ℕ) (number other : ℕ → ℕ) (name : Bytes) (owed : List Bytes) (seats : List Seat) (cs : List Client) → AreSame lives number other → AreGivenLives lives seats → AreShown number name owed seats cs
    → AreShown other name owed seats cs
seats_as lives number other name owed [] [] same given shown = tt
seats_as lives number other name owed [] (c ∷ cs) same given shown = absurd shown
seats_as lives number other name owed (seat ∷ seats) [] same given shown = absurd shown
seats_as lives number other name owed (seat ∷ seats) (c ∷ cs) same given shown =
    (seat_as lives number other name owed seat c same (given 0 seat refl) shown.0, seats_as lives number other name owed seats cs same (λ i one at. given (suc i) one at) shown.1)

-- ---- exchanges

body_as : (lives : ℕ) (number other : ℕ → ℕ) (body : ErrandBody) (headed : Bool) (bound : Option Binding) (known : Body) → AreSame lives number other → ((b : Binding) → bound ≡ Some b → b.0.life < lives)
    → ShowsBody number body headed bound known → ShowsBody other body headed bound known
body_as lives number other IsPending false None Pending same given shows = tt
body_as lives number other (IsJoining far) true (Some x) (Joining b) same given shows = record {
  joined = same x.0.life (given x refl) ∙ shows.joined;
  next = shows.next;
  to = shows.to;
  is_all = shows.is_all;
  wanted = shows.wanted;
}
body_as lives number other IsRelaying true None Relaying same given shows = tt
body_as lives number other (IsDropping n) true None Dropping same given shows = tt
body_as lives number other body headed bound known same given shows = absurd shows

pub exchange_as : (lives : ℕ) (number other : ℕ → ℕ) (x : Entry) (e : Exchange) → AreSame lives number other → ((b : Binding) → x.exchange.bound ≡ Some b → b.0.life < lives) → ShowsExchange number x e → ShowsExchange other x e
exchange_as lives number other x e same given shows = record {
  number = shows.number;
  asker = shows.asker;
  aim = shows.aim;
  place = shows.place;
  text_key = shows.text_key;
  parts = shows.parts;
  named = shows.named;
  is_ranged = shows.is_ranged;
  is_moved = shows.is_moved;
  is_asked_once = shows.is_asked_once;
  asks_head = shows.asks_head;
  is_safe = shows.is_safe;
  binds = shows.binds;
  identity = shows.identity;
  guess = shows.guess;
  text = shows.text;
  asked = shows.asked;
  body_left = shows.body_left;
  requested = shows.requested;
  body = body_as lives number other x.errand.body x.exchange.headed x.exchange.bound e.body same given shows.body;
}
