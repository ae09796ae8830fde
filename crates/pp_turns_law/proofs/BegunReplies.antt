-- A reply begins: the seat shows the client whose reply begins so.
use Rattle.std.proofs.Common.{◌≡◌, ◌≤◌, refl, subst, ap, ◌∙◌, ℕ, ◌+◌, ◌-◌, ◌^◌, min, Bool, false, length, length-drop, List, arith}
use Rattle.pp_client.specs.Replies.{Reply as Said, continue_text, with_begun}
use Rattle.pp_client.specs.declared.interim.Interim.{Interim}
use Rattle.pp_client.specs.declared.interim.Interim.TheVariants.{Unasked, Left}
use Rattle.pp_client.specs.declared.reply.Begin.{Begin}
use Rattle.pp_client.specs.declared.reply.Stage.{Stage as SaidStage}
use Rattle.pp_client.specs.declared.reply.Stage.TheVariants.{Due, Begun}
use Rattle.pp_law.specs.Lists.{Bytes}
use Rattle.pp_law.specs.Stages.{is_begun, reply_of}
use Rattle.pp_law.specs.State.{Client, Reply, Stage, Undecided, Waiting, Passing, Answering}
use Rattle.pp_seats.specs.declared.account.Account.{Account}
use Rattle.pp_seats.specs.declared.seat.Answer.{Answer}
use Rattle.pp_seats.specs.declared.seat.Brought.{Brought as SeatBrought}
use Rattle.pp_seats.specs.declared.seat.Brought.TheVariants.{Awaited as NoneYet, Useless as NoneOfUse, Joins as JoinsRow, Passes as PassesOn, TooWide as IsTooWide, Refused}
use Rattle.pp_seats.specs.declared.seat.Course.{Course as SeatCourse}
use Rattle.pp_seats.specs.declared.seat.Seat.{Seat}
use Rattle.pp_seats.specs.declared.seat.Stage.{Stage as SeatStage}
use Rattle.pp_seats.specs.declared.seat.Stage.TheVariants.{Undecided as IsUndecided, Waiting as IsWaiting, Passing as IsPassing, Answering as IsAnswering}
use Rattle.pp_seats.specs.Dues.{is_refused_in}
use Rattle.pp_seats_law.proofs.Begins.{reply_due}
use Rattle.pp_seats_law.proofs.Nexts.{reply_in}
use Rattle.pp_seats_law.proofs.SaidOn.{brought_kept}
use Rattle.pp_seats_law.specs.Replies.{IsPipedFor, ShowsAnswer, ShowsFate, ShowsInterim, ShowsSaid, ShowsStage}
use Rattle.pp_seats_law.specs.Seats.{ShowsOpen, head_left}

-- ---- before it begins

none_left : (number : ℕ → ℕ) (said : Said) (stage : SeatStage) (other : Stage) → ShowsStage number said stage other → said.stage ≡ Due → head_left (reply_in other) ≡ 0
none_left number said IsUndecided Undecided shows due = refl
none_left number said IsWaiting Waiting shows due = refl
none_left number said IsPassing Passing shows due = refl
none_left number said (IsAnswering a) (Answering r) shows due = by (subst (λ (s : SaidStage). ShowsSaid s said.text a r) due shows.says)
  where
    by : ShowsSaid Due said.text a r → length r.head_left ≡ 0
    by says = ap (λ (b : Bytes). length b) says.left
none_left number said stage other shows due = absurd shows

-- nothing is to be said but the interim answer
before_now : (number : ℕ → ℕ) (name : Bytes) (owed : List Bytes) (seat : Seat) (c : Client) → ShowsOpen number name owed seat c → is_begun c ≡ false → seat.before_body ≡ length c.interim_left
before_now number name owed seat c shows isnt =
    let before : seat.before_body ≡ length c.interim_left + head_left (reply_of c) = shows.before_body in
    let none : head_left (reply_of c) ≡ 0 = none_left number seat.client.reply seat.stage c.stage shows.stage (reply_due number seat.client.reply seat.stage c.stage shows.stage isnt) in
    omega (arith, before, none)

interim_few : (i : Interim) (left : Bytes) → ShowsInterim i left → length left ≤ 25
interim_few Unasked left shows = let none : length left ≡ 0 = ap (λ (b : Bytes). length b) shows in omega (arith, none)
interim_few (Left n) left shows = let same : length left ≡ 25 - (25 - n) = ap (λ (b : Bytes). length b) shows.1 ∙ length-drop (25 - n) continue_text in omega (arith, same)

-- ---- once it has begun

abbrev pub begun_with : Begin → Bytes → Said → Said
begun_with b text said = with_begun b (record said { text = text })

module _ (number : ℕ → ℕ) (name : Bytes) (owed : List Bytes) (b : Begin) (text : Bytes) (said : Said) (c : Client) (stage : Stage) (closes : Bool) where
  fate_begun : (course : SeatCourse) (brought : SeatBrought) → ShowsFate number name owed said course brought c → is_refused_in brought ≡ false
      → ShowsFate number name owed (begun_with b text said) course brought (record c { stage = stage; closes = closes })
  fate_begun course Refused shows isnt = absurd (cc isnt)
  fate_begun course NoneYet shows isnt = (shows.0, brought_kept number name said (begun_with b text said) c.front NoneYet c.brought refl (λ x p kept. tt) shows.1)
  fate_begun course NoneOfUse shows isnt = (shows.0, brought_kept number name said (begun_with b text said) c.front NoneOfUse c.brought refl (λ x p kept. tt) shows.1)
  fate_begun course (JoinsRow id plain) shows isnt = (shows.0, brought_kept number name said (begun_with b text said) c.front (JoinsRow id plain) c.brought refl (λ x p kept. tt) shows.1)
  fate_begun course (PassesOn x) shows isnt = (shows.0, brought_kept number name said (begun_with b text said) c.front (PassesOn x) c.brought refl (λ x p kept. tt) shows.1)
  fate_begun course IsTooWide shows isnt = (shows.0, brought_kept number name said (begun_with b text said) c.front IsTooWide c.brought refl (λ x p kept. tt) shows.1)

-- the seat and the client, of whose reply this is the head
abbrev pub begun_seat : Begin → Bytes → Answer → Bool → Account → Seat → Seat
begun_seat b text a closes account seat = record seat {
  client = record seat.client { reply = begun_with b text seat.client.reply };
  before_body = min (seat.before_body + length text) (2 ^ 64 - 1);
  stage = IsAnswering a;
  closes = closes;
  account = account;
}

pub begun_shows : (number : ℕ → ℕ) (name : Bytes) (owed : List Bytes) (seat : Seat) (c : Client) (b : Begin) (text : Bytes) (a : Answer) (r : Reply) (closes also : Bool) (account : Account) → ShowsOpen number name owed seat c → is_begun c ≡ false
    → is_refused_in seat.brought ≡ false → ShowsAnswer number (begun_with b text seat.client.reply) a r → r.head_left ≡ text → length text ≤ 20480 → IsPipedFor (Begun b) seat.brought → closes ≡ also
    → ShowsOpen number name owed (begun_seat b text a closes account seat) (record c { stage = Answering r; closes = also })
begun_shows number name owed seat c b text a r closes also account shows isnt given answers left short piped same =
    let before : seat.before_body ≡ length c.interim_left = before_now number name owed seat c shows isnt in
    let few : length c.interim_left ≤ 25 = interim_few seat.client.reply.interim c.interim_left shows.interim in
    let all : length r.head_left ≡ length text = ap (λ (x : Bytes). length x) left in record {
      hung_up = shows.hung_up;
      mark = shows.mark;
      heard = shows.heard;
      body = shows.body;
      over = shows.over;
      front = shows.front;
      body_left = shows.body_left;
      index = shows.index;
      stage = answers;
      waits_on = shows.waits_on;
      fate = fate_begun number name owed b text seat.client.reply c (Answering r) also seat.course seat.brought shows.fate given;
      asked = shows.asked;
      piped = piped;
      given_up = shows.given_up;
      interim = shows.interim;
      before_body = omega (arith, before, few, all, short);
      closes = same;
    }
