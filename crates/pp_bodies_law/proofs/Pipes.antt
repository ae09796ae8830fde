-- What goes into the pipe of a client goes into that of the law's.
use Rattle.std.proofs.Common.{◌≡◌, ◌≤◌, ◌+◌, ◌-◌, refl, sym, subst, ap, ap₂, ◌∙◌, ℕ, Bool, true, false, ◌||◌, nat_lt, [], ◌∷◌, length, drop, Option, Some, None, arith}
use Rattle.std.proofs.lemmas.Bool.Decides.{nat_tests}
use Rattle.pp_client.specs.declared.reply.Begin.TheVariants.{Page, Instance, Passed as FromPipe}
use Rattle.pp_client.specs.declared.reply.Stage.{Stage as SaidStage}
use Rattle.pp_client.specs.declared.reply.Stage.TheVariants.{Due, Begun}
use Rattle.pp_client.specs.Replies.{Reply as Said}
use Rattle.pp_law.specs.Lists.{Bytes, is_some_with}
use Rattle.pp_law.specs.Requests.{Front, NoHeadYet, NoHead, IsRequest}
use Rattle.pp_law.specs.Stages.{on_passed, passed_of}
use Rattle.pp_law.specs.State.{Client, Brought, Awaited, Useless, Joins, Passes, TooWide, Passed, Stage, Undecided, Waiting, Passing, Answering}
use Rattle.pp_pass.specs.Pipe.{Pipe, finished, room_of, with_data}
use Rattle.pp_client.specs.Requests.{body_dropped}
use Rattle.pp_law.specs.Passing.{poured as law_poured}
use Rattle.pp_law.specs.Responses.{skipping}
use Rattle.pp_law.specs.Table.{follows}
use Rattle.pp_seats_law.proofs.Decided.{dropped_as}
use Rattle.pp_seats_law.proofs.Hears.{IsHeardAs}
use Rattle.pp_seats.specs.declared.seat.PassedEnd.TheVariants.{Whole}
use Rattle.pp_cache_law.proofs.Numbers.{some_is}
use Rattle.pp_cache_law.specs.Pairs.{AreBoth}
use Rattle.pp_seats.specs.declared.seat.Course.{Course as SeatCourse}
use Rattle.pp_bodies_law.specs.Bytes.{FitsIn}
use Rattle.pp_states_law.specs.Losses.{IsComing}
use Rattle.pp_seats.specs.Seats.{brought_to, passed_in, without_body}
use Rattle.pp_seats.specs.declared.seat.Brought.{Brought as SeatBrought}
use Rattle.pp_seats.specs.declared.seat.Brought.TheVariants.{Awaited as NoneYet, Useless as NoneOfUse, Joins as JoinsRow, Passes as PassesOn, TooWide as IsTooWide, Refused}
use Rattle.pp_seats.specs.declared.seat.Passed.{Passed as SeatPassed}
use Rattle.pp_seats.specs.declared.seat.Seat.{Seat}
use Rattle.pp_seats.specs.declared.seat.Stage.{Stage as SeatStage}
use Rattle.pp_seats.specs.declared.seat.Stage.TheVariants.{Undecided as IsUndecided, Waiting as IsWaiting, Passing as IsPassing, Answering as IsAnswering}
use Rattle.pp_seats_law.specs.Replies.{IsBroughtFor, IsHeadKept, IsPipedFor, ShowsBrought, ShowsFate, ShowsPassed, ShowsStage, end_of, passed_text}
use Rattle.pp_seats_law.specs.Seats.{ShowsOpen, ShowsSeat}
use Rattle.pp_state.specs.Bodies.{ended, on_passed as on_passed_seat, on_pipe, passed_whole, poured as poured_in, poured_into}

-- ---- a response that is passed, with another pipe, and another end

-- the pipe and the end of both
with_pipe : Pipe → Passed → Passed
with_pipe pipe p = record p { pipe = pipe }

same_text : (name : Bytes) (front : Front) (p : Passed) (pipe : Pipe) → passed_text name front (record p { pipe = pipe }) ≡ passed_text name front p
same_text name NoHeadYet p pipe = refl
same_text name (NoHead status) p pipe = refl
same_text name (IsRequest r) p pipe = refl

head_kept : (name : Bytes) (stage : SaidStage) (said : Said) (front : Front) (x y : SeatPassed) (p : Passed) (pipe : Pipe) → y.head_len ≡ x.head_len → IsHeadKept name stage said front x p → IsHeadKept name stage (record said { pipe = pipe }) front y (record p { pipe = pipe })
head_kept name Due said front x y p pipe same kept = (kept.0 ∙ sym (same_text name front p pipe), same ∙ kept.1)
head_kept name (Begun reply) said front x y p pipe same kept = tt

passed_again : (front : Front) (x y : SeatPassed) → IsBroughtFor front (PassesOn x) → IsBroughtFor front (PassesOn y)
passed_again NoHeadYet x y is = absurd is
passed_again (NoHead status) x y is = tt
passed_again (IsRequest r) x y is = tt

piped_again : (stage : SaidStage) (x : SeatPassed) → IsPipedFor stage (PassesOn x)
piped_again Due x = tt
piped_again (Begun Page) x = tt
piped_again (Begun (Instance id next to)) x = tt
piped_again (Begun FromPipe) x = tt

stage_kept : (number : ℕ → ℕ) (said : Said) (pipe : Pipe) (stage : SeatStage) (other : Stage) → ShowsStage number said stage other → ShowsStage number (record said { pipe = pipe }) stage other
stage_kept number said pipe IsUndecided Undecided shows = shows
stage_kept number said pipe IsWaiting Waiting shows = shows
stage_kept number said pipe IsPassing Passing shows = shows
stage_kept number said pipe (IsAnswering a) (Answering r) shows = record { decision = shows.decision; source = shows.source; begun = shows.begun; says = shows.says }
stage_kept number said pipe stage other shows = absurd shows

open_piped : (number : ℕ → ℕ) (name : Bytes) (seat : Seat) (c : Client) (x y : SeatPassed) (p : Passed) (pipe : Pipe) → seat.brought ≡ PassesOn x → c.brought ≡ Passes p → ShowsOpen number name [] seat c
    → y.rule ≡ x.rule → y.head_len ≡ x.head_len → y.end ≡ end_of (record p { pipe = pipe })
    → ShowsOpen number name [] (record (on_pipe (λ q. pipe) seat) { brought = PassesOn y }) (record c { brought = Passes (record p { pipe = pipe }) })
open_piped number name seat c x y p pipe seats laws shows rule len end =
    let fate : ShowsFate number name [] seat.client.reply seat.course (PassesOn x) c = subst (λ (b : SeatBrought). ShowsFate number name [] seat.client.reply seat.course b c) seats shows.fate in
    let passed : ShowsPassed name seat.client.reply c.front x p = subst (λ (b : Brought). ShowsBrought number name seat.client.reply c.front (PassesOn x) b) laws fate.1 in
    let asked : IsBroughtFor c.front (PassesOn x) = subst (λ (b : SeatBrought). IsBroughtFor c.front b) seats shows.asked in record {
      hung_up = shows.hung_up;
      mark = shows.mark;
      heard = shows.heard;
      body = shows.body;
      over = shows.over;
      front = shows.front;
      body_left = shows.body_left;
      index = shows.index;
      stage = stage_kept number seat.client.reply pipe seat.stage c.stage shows.stage;
      waits_on = shows.waits_on;
      fate = (fate.0, record { rule = rule ∙ passed.rule; pipe = refl; end = end; head = head_kept name seat.client.reply.stage seat.client.reply c.front x y p pipe len passed.head });
      asked = passed_again c.front x y asked;
      piped = piped_again seat.client.reply.stage y;
      given_up = shows.given_up;
      interim = shows.interim;
      before_body = shows.before_body;
      closes = shows.closes;
    }

-- ---- a response is passed to both, or to neither

law_passed : Brought → Option Passed
law_passed b = elim b [ Awaited ↦ None | Useless ↦ None | Joins id plain ↦ None | Passes p ↦ Some p | TooWide ↦ None ]

none_both : (R : SeatPassed → Passed → Type 0) (b : Brought) → ((p : Passed) → b ≡ Passes p → ⊥) → AreBoth R None (law_passed b)
unfolding law_passed
none_both R Awaited isnt = tt
none_both R Useless isnt = tt
none_both R (Joins id plain) isnt = tt
none_both R (Passes p) isnt = absurd (isnt p refl)
none_both R TooWide isnt = tt

some_both : (number : ℕ → ℕ) (name : Bytes) (said : Said) (front : Front) (x : SeatPassed) (b : Brought) → ShowsBrought number name said front (PassesOn x) b → AreBoth (ShowsPassed name said front) (Some x) (law_passed b)
unfolding law_passed
some_both number name said front x Awaited shows = absurd shows
some_both number name said front x Useless shows = absurd shows
some_both number name said front x (Joins id plain) shows = absurd shows
some_both number name said front x (Passes p) shows = shows
some_both number name said front x TooWide shows = absurd shows

joins_isnt : (id : ℕ) (plain : Bool) (p : Passed) → Joins id plain ≡ Passes p → ⊥
joins_isnt id plain p is = absurd cc

both : (number : ℕ → ℕ) (name : Bytes) (said : Said) (course : SeatCourse) (brought : SeatBrought) (c : Client) → ShowsFate number name [] said course brought c → AreBoth (ShowsPassed name said c.front) (passed_in brought) (law_passed c.brought)
both number name said course NoneYet c fate = none_both (ShowsPassed name said c.front) c.brought (λ p is. subst (ShowsBrought number name said c.front NoneYet) is fate.1)
both number name said course NoneOfUse c fate = none_both (ShowsPassed name said c.front) c.brought (λ p is. subst (ShowsBrought number name said c.front NoneOfUse) is fate.1)
both number name said course (JoinsRow id plain) c fate = none_both (ShowsPassed name said c.front) c.brought (λ p is. subst (ShowsBrought number name said c.front (JoinsRow id plain)) is fate.1)
both number name said course (PassesOn x) c fate = some_both number name said c.front x c.brought fate.1
both number name said course IsTooWide c fate = none_both (ShowsPassed name said c.front) c.brought (λ p is. subst (ShowsBrought number name said c.front IsTooWide) is fate.1)
both number name said course Refused c fate = none_both (ShowsPassed name said c.front) c.brought (λ p is. joins_isnt fate.joins.0 fate.joins.1 p (sym fate.joins.2 ∙ is))

brought_is : (b : SeatBrought) (x : SeatPassed) → passed_in b ≡ Some x → b ≡ PassesOn x
brought_is NoneYet x is = absurd cc
brought_is NoneOfUse x is = absurd cc
brought_is (JoinsRow id plain) x is = absurd cc
brought_is (PassesOn y) x is = ap PassesOn (some_is y x is)
brought_is IsTooWide x is = absurd cc
brought_is Refused x is = absurd cc

law_brought_is : (b : Brought) (p : Passed) → law_passed b ≡ Some p → b ≡ Passes p
unfolding law_passed
law_brought_is Awaited p is = absurd cc
law_brought_is Useless p is = absurd cc
law_brought_is (Joins id plain) p is = absurd cc
law_brought_is (Passes q) p is = ap Passes (some_is q p is)
law_brought_is TooWide p is = absurd cc

-- what becomes of a client, and of the law's, where a response is passed to them
on_both : (number : ℕ → ℕ) (name : Bytes) (seat : Seat) (c : Client) (f : Seat → Seat) (g : Passed → Passed) → ShowsOpen number name [] seat c
    → ((x : SeatPassed) (p : Passed) → seat.brought ≡ PassesOn x → c.brought ≡ Passes p → ShowsOpen number name [] (f seat) (record c { brought = Passes (g p) }))
    → ShowsOpen number name [] (on_passed_seat f seat) (on_passed g c)
unfolding law_passed
on_both number name seat c f g shows changes = by (passed_in seat.brought) (law_passed c.brought) refl refl (both number name seat.client.reply seat.course seat.brought c shows.fate)
  where
    by : (x : Option SeatPassed) (p : Option Passed) → passed_in seat.brought ≡ x → law_passed c.brought ≡ p → AreBoth (ShowsPassed name seat.client.reply c.front) x p
        → ShowsOpen number name [] (elim x as (λ o. Seat) [ None ↦ seat | Some y ↦ f seat ]) (elim p as (λ o. Client) [ None ↦ c | Some q ↦ record c { brought = Passes (g q) } ])
    by None None seats laws pair = shows
    by None (Some p) seats laws pair = absurd pair
    by (Some x) None seats laws pair = absurd pair
    by (Some x) (Some p) seats laws pair = changes x p (brought_is seat.brought x seats) (law_brought_is c.brought p laws)

-- ---- of a seat, be its client closing or not

pub passed_id : (f : Seat → Seat) (seat : Seat) → (f seat).client.id ≡ seat.client.id → (on_passed_seat f seat).client.id ≡ seat.client.id
passed_id f seat keeps = by (passed_in seat.brought)
  where
    by : (o : Option SeatPassed) → (elim o as (λ x. Seat) [ None ↦ seat | Some x ↦ f seat ]).client.id ≡ seat.client.id
    by None = refl
    by (Some x) = keeps

passed_closing : (f : Seat → Seat) (seat : Seat) → (f seat).is_closing ≡ seat.is_closing → (on_passed_seat f seat).is_closing ≡ seat.is_closing
passed_closing f seat keeps = by (passed_in seat.brought)
  where
    by : (o : Option SeatPassed) → (elim o as (λ x. Seat) [ None ↦ seat | Some x ↦ f seat ]).is_closing ≡ seat.is_closing
    by None = refl
    by (Some x) = keeps

pub law_passed_number : (g : Passed → Passed) (c : Client) → (on_passed g c).number ≡ c.number
law_passed_number g c = by (passed_of c)
  where
    by : (o : Option Passed) → (elim o as (λ x. Client) [ None ↦ c | Some p ↦ record c { brought = Passes (g p) } ]).number ≡ c.number
    by None = refl
    by (Some p) = refl

law_passed_closing : (g : Passed → Passed) (c : Client) → (on_passed g c).is_closing ≡ c.is_closing
law_passed_closing g c = by (passed_of c)
  where
    by : (o : Option Passed) → (elim o as (λ x. Client) [ None ↦ c | Some p ↦ record c { brought = Passes (g p) } ]).is_closing ≡ c.is_closing
    by None = refl
    by (Some p) = refl

pub law_passed_follows : (g : Passed → Passed) (k : ℕ) (c : Client) → follows k (on_passed g c) ≡ follows k c
law_passed_follows g k c = by (passed_of c)
  where
    by : (o : Option Passed) → follows k (elim o as (λ x. Client) [ None ↦ c | Some p ↦ record c { brought = Passes (g p) } ]) ≡ follows k c
    by None = refl
    by (Some p) = refl

on_both_seats : (number : ℕ → ℕ) (name : Bytes) (seat : Seat) (c : Client) (f : Seat → Seat) (g : Passed → Passed) → ShowsSeat number name [] seat c → (f seat).client.id ≡ seat.client.id → (f seat).is_closing ≡ seat.is_closing
    → ((x : SeatPassed) (p : Passed) → seat.brought ≡ PassesOn x → c.brought ≡ Passes p → ShowsOpen number name [] seat c → ShowsOpen number name [] (f seat) (record c { brought = Passes (g p) }))
    → ShowsSeat number name [] (on_passed_seat f seat) (on_passed g c)
on_both_seats number name seat c f g shows same closing changes = record {
  number = passed_id f seat same ∙ shows.number ∙ sym (law_passed_number g c);
  closing = passed_closing f seat closing ∙ shows.closing ∙ sym (law_passed_closing g c);
  going = λ goes_on. let shown : ShowsOpen number name [] seat c = shows.going (sym (law_passed_closing g c) ∙ goes_on) in on_both number name seat c f g shown (λ x p seats laws. changes x p seats laws shown);
}

-- ---- data go into it

same_pour : (bytes : Bytes) (pipe : Pipe) → pipe.is_finished ≡ false → length bytes ≤ room_of pipe → poured_in bytes pipe ≡ law_poured bytes pipe
same_pour [] pipe goes_on fits = refl
same_pour (b ∷ bytes) pipe goes_on fits =
    let short : nat_lt (room_of pipe) (length (b ∷ bytes)) ≡ false = grind (arith, nat_tests, fits) in
    ap₂ (λ (x y : Bool). elim (false || x || y) as (λ z. Pipe) [ true ↦ pipe | false ↦ with_data (b ∷ bytes) pipe ]) goes_on short

same_end : (bytes : Bytes) (p : Passed) → end_of (record p { pipe = law_poured bytes p.pipe }) ≡ end_of p
same_end [] p = refl
same_end (b ∷ bytes) p = refl

passed_shows : (number : ℕ → ℕ) (name : Bytes) (seat : Seat) (c : Client) (x : SeatPassed) (p : Passed) → seat.brought ≡ PassesOn x → c.brought ≡ Passes p → ShowsOpen number name [] seat c → ShowsPassed name seat.client.reply c.front x p
passed_shows number name seat c x p seats laws shows =
    let fate : ShowsFate number name [] seat.client.reply seat.course (PassesOn x) c = subst (λ (b : SeatBrought). ShowsFate number name [] seat.client.reply seat.course b c) seats shows.fate in
    subst (λ (b : Brought). ShowsBrought number name seat.client.reply c.front (PassesOn x) b) laws fate.1

pub pours : (number : ℕ → ℕ) (name : Bytes) (bytes : Bytes) (seat : Seat) (c : Client) → FitsIn bytes (passed_of c) → ShowsSeat number name [] seat c
    → ShowsSeat number name [] (poured_into bytes seat) (on_passed (λ p. record p { pipe = law_poured bytes p.pipe }) c)
pours number name bytes seat c fits shows = on_both_seats number name seat c (on_pipe (poured_in bytes)) (λ p. record p { pipe = law_poured bytes p.pipe }) shows refl refl (λ x p seats laws shown.
    let passed : ShowsPassed name seat.client.reply c.front x p = passed_shows number name seat c x p seats laws shown in
    let room : FitsIn bytes (Some p) = subst (λ (b : Brought). FitsIn bytes (elim b as (λ o. Option Passed) [ Awaited ↦ None | Useless ↦ None | Joins id plain ↦ None | Passes q ↦ Some q | TooWide ↦ None ])) laws fits in
    let pipe : law_poured bytes p.pipe ≡ poured_in bytes seat.client.reply.pipe = sym (same_pour bytes p.pipe room.0 room.1) ∙ ap (poured_in bytes) (sym passed.pipe) in
    subst (λ (q : Pipe). ShowsOpen number name [] (on_pipe (λ r. q) seat) (record c { brought = Passes (record p { pipe = law_poured bytes p.pipe }) })) pipe
    (subst (λ (b : SeatBrought). ShowsOpen number name [] (record (on_pipe (λ r. law_poured bytes p.pipe) seat) { brought = b }) (record c { brought = Passes (record p { pipe = law_poured bytes p.pipe }) })) (sym seats)
    (open_piped number name seat c x x p (law_poured bytes p.pipe) seats laws shown refl refl (passed.end ∙ sym (same_end bytes p)))))

-- ---- the body that is passed is whole

same_finish : (pipe : Pipe) → pipe.is_finished ≡ false → ended pipe ≡ finished pipe
same_finish pipe goes_on = ap (λ (b : Bool). elim b as (λ z. Pipe) [ true ↦ pipe | false ↦ finished pipe ]) goes_on

pub ends : (number : ℕ → ℕ) (name : Bytes) (seat : Seat) (c : Client) → IsComing c → ShowsSeat number name [] seat c
    → ShowsSeat number name [] (on_passed_seat passed_whole seat) (on_passed (λ p. record p { pipe = finished p.pipe }) c)
ends number name seat c goes shows = on_both_seats number name seat c passed_whole (λ p. record p { pipe = finished p.pipe }) shows refl refl (λ x p seats laws shown.
    let passed : ShowsPassed name seat.client.reply c.front x p = passed_shows number name seat c x p seats laws shown in
    let goes_on : p.pipe.is_finished ≡ false = subst (λ (b : Brought). is_some_with (λ q. q.pipe.is_finished) (elim b as (λ o. Option Passed) [ Awaited ↦ None | Useless ↦ None | Joins id plain ↦ None | Passes q ↦ Some q | TooWide ↦ None ]) ≡ false) laws goes in
    let pipe : finished p.pipe ≡ ended seat.client.reply.pipe = sym (same_finish p.pipe goes_on) ∙ ap ended (sym passed.pipe) in
    subst (λ (q : Pipe). ShowsOpen number name [] (record (on_pipe (λ r. q) seat) { brought = brought_to Whole seat.brought }) (record c { brought = Passes (record p { pipe = finished p.pipe }) })) pipe
    (subst (λ (b : SeatBrought). ShowsOpen number name [] (record (on_pipe (λ r. finished p.pipe) seat) { brought = b }) (record c { brought = Passes (record p { pipe = finished p.pipe }) })) (ap (brought_to Whole) (sym seats))
    (open_piped number name seat c x (record x { end = Whole }) p (finished p.pipe) seats laws shown refl refl refl)))

-- ---- the rest of its own body is dropped

fate_kept : (number : ℕ → ℕ) (name : Bytes) (said : Said) (course : SeatCourse) (brought : SeatBrought) (c : Client) → ShowsFate number name [] said course brought c → ShowsFate number name [] said course brought (skipping c)
fate_kept number name said course NoneYet c fate = fate
fate_kept number name said course NoneOfUse c fate = fate
fate_kept number name said course (JoinsRow id plain) c fate = fate
fate_kept number name said course (PassesOn x) c fate = fate
fate_kept number name said course IsTooWide c fate = fate
fate_kept number name said course Refused c fate = record { waits = fate.waits; joins = fate.joins; refused = fate.refused }

pub skips : (number : ℕ → ℕ) (name : Bytes) (seat : Seat) (c : Client) → ShowsSeat number name [] seat c → ShowsSeat number name [] (without_body seat) (skipping c)
skips number name seat c shows = record {
  number = shows.number;
  closing = shows.closing;
  going = λ goes_on. dropped (shows.going goes_on);
}
  where
    dropped : ShowsOpen number name [] seat c → ShowsOpen number name [] (without_body seat) (skipping c)
    dropped shown =
        let heard : IsHeardAs (body_dropped seat.client.heard) c.front (drop c.body_left c.heard) 0 (c.skip + (c.body_left - length c.heard))
        = dropped_as seat.client.heard c.front c.heard c.body_left c.skip (record { heard = shown.heard; body = shown.body; over = shown.over }) in record {
          hung_up = shown.hung_up;
          mark = shown.mark;
          heard = heard.heard;
          body = heard.body;
          over = heard.over;
          front = shown.front;
          body_left = refl;
          index = shown.index;
          stage = shown.stage;
          waits_on = shown.waits_on;
          fate = fate_kept number name seat.client.reply seat.course seat.brought c shown.fate;
          asked = shown.asked;
          piped = shown.piped;
          given_up = shown.given_up;
          interim = shown.interim;
          before_body = shown.before_body;
          closes = shown.closes;
        }
