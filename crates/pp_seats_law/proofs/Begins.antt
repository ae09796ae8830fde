-- A seat begins as its client does.
use Rattle.std.proofs.Common.{◌≡◌, refl, sym, ap, ◌∙◌, ℕ, true, false, [], ◌++◌}
use Rattle.pp_client.specs.Replies.{Reply as Said}
use Rattle.pp_client.specs.Requests.{Front as Heading, Nothing, Begun as More, Asked as IsAsked, Refused, current_of, is_answerable}
use Rattle.pp_client.specs.declared.reply.Begin.TheVariants.{Page, Instance as OfInstance, Passed as IsPassed}
use Rattle.pp_client.specs.declared.reply.Stage.{Stage as SaidStage}
use Rattle.pp_client.specs.declared.reply.Stage.TheVariants.{Due, Begun}
use Rattle.pp_head.proofs.OnLiterals.{pp_head_on_literals}
use Rattle.pp_law.specs.Lists.{Bytes, is_some_with}
use Rattle.pp_law.specs.Requests.{Front, IsRequest, NoHead, NoHeadYet, front_of, has_request}
use Rattle.pp_law.specs.State.{Reply, Stage, Undecided, Waiting, Passing, Answering}
use Rattle.pp_seats.specs.declared.seat.Answer.{Answer}
use Rattle.pp_seats.specs.declared.seat.Stage.{Stage as SeatStage}
use Rattle.pp_seats.specs.declared.seat.Stage.TheVariants.{Undecided as IsUndecided, Waiting as IsWaiting, Passing as IsPassing, Answering as IsAnswering}
use Rattle.pp_seats_law.specs.Begins.{NewSeatsShow, RepliesMayBegin}
use Rattle.pp_seats_law.specs.Fronts.{StandsStill}
use Rattle.pp_seats_law.specs.Replies.{ShowsSaid, ShowsStage}
use Rattle.pp_seats_law.proofs.Fronts.{front_from, same_front}
use Rattle.pp_seats_law.proofs.Nexts.{reply_in}

nothing_heard : front_of [] ≡ NoHeadYet
unfolding front_of pp_head_on_literals
nothing_heard = refl

pub new_seats : NewSeatsShow
new_seats number name n now = record {
  number = refl;
  closing = refl;
  going = λ going. record {
    hung_up = refl;
    mark = refl;
    heard = record { is_front = nothing_heard; head = tt; behind = refl; kept = tt; idle = tt };
    body = (refl, refl);
    over = refl;
    front = tt;
    body_left = refl;
    index = refl;
    stage = (refl, refl);
    waits_on = refl;
    fate = (refl, tt);
    asked = tt;
    piped = tt;
    given_up = refl;
    interim = refl;
    before_body = refl;
    closes = refl;
  };
}

-- ---- a reply may begin

there_same : (heading : Heading) → is_answerable heading ≡ has_request (front_from heading)
there_same Nothing = refl
there_same More = refl
there_same (IsAsked head fault) = refl
there_same (Refused status) = refl

not_begun : (a : Answer) (r : Reply) → a.has_begun ≡ true → a.has_begun ≡ r.has_begun → r.has_begun ≡ false → ⊥
not_begun a r is same isnt = let e : true ≡ false = sym is ∙ same ∙ isnt in absurd (cc e)

due_by : (stage : SaidStage) (text : Bytes) (a : Answer) (r : Reply) → ShowsSaid stage text a r → a.has_begun ≡ r.has_begun → r.has_begun ≡ false → stage ≡ Due
due_by Due text a r says same isnt = refl
due_by (Begun Page) text a r says same isnt = absurd (not_begun a r says.0.begun same isnt)
due_by (Begun IsPassed) text a r says same isnt = absurd (not_begun a r says.0.begun same isnt)
due_by (Begun (OfInstance id next to)) text a r says same isnt = absurd (not_begun a r says.0.begun same isnt)

pub reply_due : (number : ℕ → ℕ) (said : Said) (stage : SeatStage) (other : Stage) → ShowsStage number said stage other → is_some_with (λ r. r.has_begun) (reply_in other) ≡ false → said.stage ≡ Due
reply_due number said IsUndecided Undecided shows isnt = shows.0
reply_due number said IsWaiting Waiting shows isnt = shows
reply_due number said IsPassing Passing shows isnt = shows
reply_due number said (IsAnswering a) (Answering r) shows isnt = due_by said.stage said.text a r shows.says shows.begun isnt
reply_due number said stage other shows isnt = absurd shows

still_there : (front now : Front) → StandsStill front now → has_request front ≡ true → has_request now ≡ true
still_there NoHeadYet now still there = absurd (cc there)
still_there (NoHead status) now still there = ap has_request still.1
still_there (IsRequest r) now still there = ap has_request still

pub may_begin : RepliesMayBegin
may_begin number name owed seat c shows there isnt = record {
  current = there_same (current_of seat.client.heard) ∙ ap has_request (sym (same_front (seat.client.heard.head ++ seat.client.heard.rest)))
      ∙ still_there c.front (front_of (seat.client.heard.head ++ seat.client.heard.rest)) shows.heard.is_front there;
  due = reply_due number seat.client.reply seat.stage c.stage shows.stage isnt;
}
