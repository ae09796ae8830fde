-- Where nothing was said, and a reply is over now that was not before, it is one that is passed, of which the end came.
use Rattle.std.proofs.Common.{◌≡◌, ◌≤◌, refl, sym, subst, ap, ap₂, ◌∙◌, ℕ, Bool, true, false, ◌==◌, ◌&&◌, not, nat_le, ◌+◌, ◌-◌, ◌^◌, length, length-drop, map, [], Option, Some, None, arith}
use Rattle.std.specs.Prelude.{slice_get}
use Rattle.pp_client.specs.Replies.{continue_text, has_begun as is_said_to, interim_left, is_body_said, is_said, is_stage_said}
use Rattle.pp_client.specs.declared.interim.Interim.{Interim}
use Rattle.pp_client.specs.declared.interim.Interim.TheVariants.{Unasked, Left}
use Rattle.pp_client.specs.declared.reply.Begin.{Begin}
use Rattle.pp_client.specs.declared.reply.Begin.TheVariants.{Page, Instance, Passed as IsPassed}
use Rattle.pp_client.specs.declared.reply.Stage.{Stage as SaidStage}
use Rattle.pp_client.specs.declared.reply.Stage.TheVariants.{Due, Begun}
use Rattle.pp_turns_law.proofs.Sitting.{is_at, shown_at}
use Rattle.pp_turns_law.specs.Decides.{IsAtPlace}
use Rattle.pp_endings_law.specs.Replies.{AllMayEnd, MayGoOn}
use Rattle.pp_law.specs.Connections.{is_client}
use Rattle.pp_law.specs.Lists.{Bytes}
use Rattle.pp_law.specs.Stages.{is_begun, is_passing}
use Rattle.pp_law.specs.State.{State, Client, Reply, Stage, Undecided, Waiting, Passing, Answering, Brought, Awaited, Useless, Joins, Passes, TooWide}
use Rattle.pp_laws.proofs.Lists.{in_find, one_of}
use Rattle.pp_laws.proofs.Sound.{client_number}
use Rattle.pp_laws.specs.Numbers.{AreRising}
use Rattle.pp_laws_replies.proofs.Quiet.{FactsOf, FromClient, Quiet}
use Rattle.pp_objects.specs.declared.id.ObjectId.{ObjectId}
use Rattle.pp_pass.specs.Pipe.{Pipe}
use Rattle.pp_seats.specs.Courses.{has_begun_in}
use Rattle.pp_seats.specs.Follows.{answer_in}
use Rattle.pp_seats.specs.Seats.{passed_in}
use Rattle.pp_seats.specs.declared.seat.Answer.{Answer}
use Rattle.pp_seats.specs.declared.seat.Brought.{Brought as SeatBrought}
use Rattle.pp_seats.specs.declared.seat.Brought.TheVariants.{Awaited as NoneYet, Useless as NoneOfUse, Joins as JoinsRow, Passes as PassesOn, TooWide as IsTooWide, Refused}
use Rattle.pp_seats.specs.declared.seat.PassedEnd.{PassedEnd}
use Rattle.pp_seats.specs.declared.seat.PassedEnd.TheVariants.{Coming, Whole, Short}
use Rattle.pp_seats.specs.declared.seat.Seat.{Seat}
use Rattle.pp_seats.specs.declared.seat.Stage.{Stage as SeatStage}
use Rattle.pp_seats.specs.declared.seat.Stage.TheVariants.{Undecided as IsUndecided, Waiting as IsWaiting, Passing as IsPassing, Answering as IsAnswering}
use Rattle.pp_seats_law.proofs.AllSeats.{places}
use Rattle.pp_seats_law.specs.Clients.{AreShown, IsFound}
use Rattle.pp_seats_law.specs.Replies.{IsPipedFor, ShowsAnswer, ShowsBegin, ShowsBrought, ShowsFate, ShowsInterim, ShowsSaid, ShowsStage, source_number}
use Rattle.pp_seats_law.specs.Seats.{ShowsOpen, ShowsSeat}
use Rattle.pp_state.specs.Ends.{AreInOrder, Parts, numbers_of}
use Rattle.pp_state.specs.Hearing.{is_passed_whole, is_under_way, is_whole, may_end}
use Rattle.pp_text.specs.Bytes.{is_empty}
use Rattle.pp_reads_law.specs.Goes.{AllGoOn, GoesOnTo}
use Rattle.pp_reads_law.specs.Stays.{AreStill, WasStill}

-- ---- of a reply that began

record IsBegunBy (number : ℕ → ℕ) (seat : Seat) (c : Client) (b : Begin) : Type 0 where
  answer : Answer
  reply : Reply
  stage : seat.stage ≡ IsAnswering answer
  law : c.stage ≡ Answering reply
  shows : ShowsAnswer number seat.client.reply answer reply
  begin : ShowsBegin b seat.client.reply.text answer reply

begun_by : (number : ℕ → ℕ) (name : Bytes) (seat : Seat) (c : Client) (b : Begin) → ShowsOpen number name [] seat c → seat.client.reply.stage ≡ Begun b → IsBegunBy number seat c b
begun_by number name seat c b shows is = by seat.stage c.stage refl refl shows.stage
  where
    not_due : seat.client.reply.stage ≡ Due → IsBegunBy number seat c b
    not_due due = absurd (let both : Due ≡ Begun b = sym due ∙ is in cc both)

    by : (t : SeatStage) (u : Stage) → seat.stage ≡ t → c.stage ≡ u → ShowsStage number seat.client.reply t u → IsBegunBy number seat c b
    by (IsAnswering a) (Answering r) one two stage = record { answer = a; reply = r; stage = one; law = two; shows = stage; begin = subst (λ (t : SaidStage). ShowsSaid t seat.client.reply.text a r) is stage.says }
    by IsUndecided Undecided one two stage = not_due stage.0
    by IsWaiting Waiting one two stage = not_due stage
    by IsPassing Passing one two stage = not_due stage
    by IsUndecided Waiting one two stage = absurd stage
    by IsUndecided Passing one two stage = absurd stage
    by IsUndecided (Answering r) one two stage = absurd stage
    by IsWaiting Undecided one two stage = absurd stage
    by IsWaiting Passing one two stage = absurd stage
    by IsWaiting (Answering r) one two stage = absurd stage
    by IsPassing Undecided one two stage = absurd stage
    by IsPassing Waiting one two stage = absurd stage
    by IsPassing (Answering r) one two stage = absurd stage
    by (IsAnswering a) Undecided one two stage = absurd stage
    by (IsAnswering a) Waiting one two stage = absurd stage
    by (IsAnswering a) Passing one two stage = absurd stage

-- the same reply was begun before
record WasBegun (number : ℕ → ℕ) (old : Seat) (r : Reply) : Type 0 where
  begin : Begin
  answer : Answer
  stage : old.client.reply.stage ≡ Begun begin
  source : source_number number answer.source ≡ r.source
  shows : ShowsBegin begin old.client.reply.text answer r

was_begun : (number : ℕ → ℕ) (name : Bytes) (old : Seat) (c : Client) (r : Reply) → ShowsOpen number name [] old c → c.stage ≡ Answering r → r.has_begun ≡ true → WasBegun number old r
was_begun number name old c r shows is begun = by old.stage (subst (λ (u : Stage). ShowsStage number old.client.reply old.stage u) is shows.stage)
  where
    said : (a : Answer) (t : SaidStage) → old.client.reply.stage ≡ t → source_number number a.source ≡ r.source → a.has_begun ≡ r.has_begun → ShowsSaid t old.client.reply.text a r → WasBegun number old r
    said a Due one source same due = absurd (let both : true ≡ false = sym begun ∙ sym same ∙ due.due in cc both)
    said a (Begun b) one source same says = record { begin = b; answer = a; stage = one; source = source; shows = says }

    by : (t : SeatStage) → ShowsStage number old.client.reply t (Answering r) → WasBegun number old r
    by (IsAnswering a) stage = said a old.client.reply.stage refl stage.source stage.begun stage.says
    by IsUndecided stage = absurd stage
    by IsWaiting stage = absurd stage
    by IsPassing stage = absurd stage

-- ---- the interim answer is as far

interim_long : (i : Interim) (left : Bytes) → ShowsInterim i left → interim_left i ≡ length left
interim_long Unasked left shows = ap (λ (bytes : Bytes). length bytes) (sym shows)
interim_long (Left n) left shows = let same : length left ≡ 25 - (25 - n) = ap (λ (bytes : Bytes). length bytes) shows.1 ∙ length-drop (25 - n) continue_text in omega (arith, same, shows.0)

-- ---- it is over now, and was not before

three : (a b c : Bool) → (a && (b && c)) ≡ true → (a ≡ true) × (b ≡ true) × (c ≡ true)
three true true true is = (refl, refl, refl)
three true true false is = absurd (cc is)
three true false c is = absurd (cc is)
three false b c is = absurd (cc is)

not_both : {A : Type 0} (b : Bool) → b ≡ true → b ≡ false → A
not_both b one two = absurd (let both : true ≡ false = sym one ∙ two in cc both)

some_none : {A B : Type 0} (x : A) → Some x ≡ None → B
some_none x is = absurd (cc is)

module _ (number0 number : ℕ → ℕ) (name : Bytes) (seat old : Seat) (c was : Client) (now : ShowsOpen number name [] seat c) (before : ShowsOpen number0 name [] old was) (quiet : Quiet c was) (unsaid : is_said old.client.reply ≡ false) where
  module _ (b : Begin) (is : seat.client.reply.stage ≡ Begun b) (all : is_stage_said (Begun b) seat.client.reply ≡ true) where
    it : IsBegunBy number seat c b
    it = begun_by number name seat c b now is

    abbrev r : Reply
    r = it.reply

    parted : ((interim_left seat.client.reply.interim == 0) ≡ true) × (is_empty seat.client.reply.text ≡ true) × (is_body_said b seat.client.reply.pipe ≡ true)
    parted = three (interim_left seat.client.reply.interim == 0) (is_empty seat.client.reply.text) (is_body_said b seat.client.reply.pipe) all

    begun_text : (d : Begin) (text : Bytes) (a : Answer) → ShowsBegin d text a r → (a.has_begun ≡ true) × (r.head_left ≡ text)
    begun_text Page text a shows = (shows.0.begun, shows.0.left)
    begun_text (Instance id next to) text a shows = (shows.0.begun, shows.0.left)
    begun_text IsPassed text a shows = (shows.0.begun, shows.0.left)

    answer_begun : it.answer.has_begun ≡ true
    answer_begun = (begun_text b seat.client.reply.text it.answer it.begin).0

    first : WasBegun number0 old r
    first = was_begun number0 name old was r before (sym quiet.stage ∙ it.law) (sym it.shows.begun ∙ answer_begun)

    same_interim : (interim_left old.client.reply.interim == 0) ≡ true
    same_interim =
        ap (λ (n : ℕ). n == 0) (interim_long old.client.reply.interim was.interim_left before.interim ∙ ap (λ (bytes : Bytes). length bytes) (sym quiet.interim) ∙ sym (interim_long seat.client.reply.interim c.interim_left now.interim)) ∙ parted.0

    same_text : is_empty old.client.reply.text ≡ true
    same_text = ap (λ (bytes : Bytes). is_empty bytes) (sym (begun_text first.begin old.client.reply.text first.answer first.shows).1 ∙ (begun_text b seat.client.reply.text it.answer it.begin).1) ∙ parted.1

    -- it was over before, where its body was
    over_before : {A : Type 0} → is_body_said first.begin old.client.reply.pipe ≡ true → A
    over_before body =
        not_both (is_said old.client.reply) (ap (λ (t : SaidStage). is_stage_said t old.client.reply) first.stage ∙ ap₂ (λ (x y : Bool). x && y) same_interim (ap₂ (λ (x y : Bool). x && y) same_text body)) unsaid

    its_source : source_number number it.answer.source ≡ r.source
    its_source = it.shows.source

    -- a page, or an instance
    no_page : {A : Type 0} (d : Begin) → b ≡ Page → ShowsBegin Page seat.client.reply.text it.answer r → ShowsBegin d old.client.reply.text first.answer r → (is_body_said d old.client.reply.pipe ≡ true → A) → A
    no_page Page page shows before_it then = then refl
    no_page (Instance id next to) page shows before_it then =
        some_none (number0 id.life) (ap (λ (o : Option ObjectId). source_number number0 o) (sym before_it.1) ∙ first.source ∙ sym its_source ∙ ap (λ (o : Option ObjectId). source_number number o) shows.1)
    no_page IsPassed page shows before_it then = not_both (is_passing r.decision) before_it.2 shows.2

    no_instance : {A : Type 0} (d : Begin) (id : ObjectId) (next to : ℕ) → ShowsBegin (Instance id next to) seat.client.reply.text it.answer r → nat_le to next ≡ true → ShowsBegin d old.client.reply.text first.answer r → (is_body_said d old.client.reply.pipe ≡ true → A) → A
    no_instance Page id next to shows said before_it then =
        some_none (number id.life) (ap (λ (o : Option ObjectId). source_number number o) (sym shows.1) ∙ its_source ∙ sym first.source ∙ ap (λ (o : Option ObjectId). source_number number0 o) before_it.1)
    no_instance (Instance id0 next0 to0) id next to shows said before_it then = then (ap₂ (λ (m n : ℕ). nat_le m n) (sym before_it.0.end ∙ shows.0.end) (sym before_it.0.next ∙ shows.0.next) ∙ said)
    no_instance IsPassed id next to shows said before_it then = not_both (is_passing r.decision) before_it.2 shows.3

    -- one that is passed is whole
    whole : (brought : SeatBrought) → brought ≡ seat.brought → IsPipedFor (Begun IsPassed) brought → ShowsFate number name [] seat.client.reply seat.course brought c → seat.client.reply.pipe.is_finished ≡ true → is_passed_whole (passed_in brought) ≡ true
    whole (PassesOn x) is piped fate finished = by c.brought fate.1
      where
        by : (u : Brought) → ShowsBrought number name seat.client.reply c.front (PassesOn x) u → is_whole x.end ≡ true
        by (Passes p) shows =
            ap (λ (e : PassedEnd). is_whole e) (shows.end ∙ ap (λ (t : Bool). elim t as (λ o. PassedEnd) [ true ↦ Whole | false ↦ elim p.is_short as (λ o. PassedEnd) [ true ↦ Short | false ↦ Coming ] ]) (ap (λ (pipe : Pipe). pipe.is_finished) (sym shows.pipe) ∙ finished))
        by Awaited shows = absurd shows
        by Useless shows = absurd shows
        by (Joins id plain) shows = absurd shows
        by TooWide shows = absurd shows
    whole NoneYet is piped fate finished = absurd piped
    whole NoneOfUse is piped fate finished = absurd piped
    whole (JoinsRow id plain) is piped fate finished = absurd piped
    whole IsTooWide is piped fate finished = absurd piped
    whole Refused is piped fate finished = absurd piped

    under_way : seat.is_closing ≡ false → is_under_way seat ≡ true
    under_way going = ap₂ (λ (x y : Bool). not x && y) going (ap (λ (t : SeatStage). has_begun_in (answer_in t)) it.stage ∙ answer_begun)

    first_of : (x y : Bool) → (x && y) ≡ true → x ≡ true
    first_of true y is = refl
    first_of false y is = absurd (cc is)

    passed_now : b ≡ IsPassed → seat.is_closing ≡ false → seat.client.reply.pipe.is_finished ≡ true → may_end seat ≡ true
    passed_now of going finished =
        ap₂ (λ (x y : Bool). x && y)
        (ap₂ (λ (x y : Bool). x && y) (under_way going) (whole seat.brought refl (subst (λ (t : SaidStage). IsPipedFor t seat.brought) (is ∙ ap (λ (d : Begin). Begun d) of) now.piped) now.fate finished)) (ap (λ (t : SaidStage). is_said_to t) is)

    by_begin : (d : Begin) → b ≡ d → seat.is_closing ≡ false → may_end seat ≡ true
    by_begin Page of going = no_page first.begin of (subst (λ (d : Begin). ShowsBegin d seat.client.reply.text it.answer r) of it.begin) first.shows (λ body. over_before body)
    by_begin (Instance id next to) of going =
        no_instance first.begin id next to (subst (λ (d : Begin). ShowsBegin d seat.client.reply.text it.answer r) of it.begin) (ap (λ (d : Begin). is_body_said d seat.client.reply.pipe) (sym of) ∙ parted.2) first.shows (λ body. over_before body)
    by_begin IsPassed of going = passed_now of going (first_of seat.client.reply.pipe.is_finished (is_empty seat.client.reply.pipe.bytes) (ap (λ (d : Begin). is_body_said d seat.client.reply.pipe) (sym of) ∙ parted.2))

    law_begun : is_begun was ≡ true
    law_begun = ap (λ (t : Stage). is_begun (record was { stage = t })) (sym quiet.stage ∙ it.law) ∙ sym it.shows.begun ∙ answer_begun

  -- ---- so it may end, and the next request may follow

  record IsOverNow : Type 0 where
    may : may_end seat ≡ true
    begun : is_begun was ≡ true

  over_now : seat.is_closing ≡ false → is_said seat.client.reply ≡ true → IsOverNow
  over_now going all = by seat.client.reply.stage refl all
    where
      by : (t : SaidStage) → seat.client.reply.stage ≡ t → is_stage_said t seat.client.reply ≡ true → IsOverNow
      by Due is over = absurd (cc over)
      by (Begun b) is over = record { may = by_begin b is over b refl going; begun = law_begun b is over }

-- ---- of all clients

module _ (number0 number : ℕ → ℕ) (name : Bytes) (p q : Parts) (s v : State) (before : AreShown number0 name [] p.seats s.clients) (now : AreShown number name [] q.seats v.clients) (order0 : AreInOrder (numbers_of p.seats)) (order : AreInOrder (numbers_of q.seats)) (rise : AreRising (map client_number s.clients))
    (quiet : FactsOf s v) (still : AreStill p.seats q.seats) (unsaid : (i : ℕ) (seat : Seat) → slice_get p.seats i ≡ Some seat → seat.is_closing ≡ false → is_said seat.client.reply ≡ false) (next : AllGoOn s) where
  module _ (i : ℕ) (seat : Seat) (c : Client) (place : IsAtPlace i q v seat c) (going : c.is_closing ≡ false) where
    shows : ShowsSeat number name [] seat c
    shows = shown_at number name [] q.seats v.clients seat.client.id i seat c now (is_at i q.seats seat order place.here) place.here place.there

    seat_going : seat.is_closing ≡ false
    seat_going = shows.closing ∙ going

    was : WasStill p.seats i seat
    was = still.was i seat place.here

    own : IsFound number0 name [] was.old was.old.client.id s.clients
    own = places number0 name [] p.seats s.clients was.old.client.id i was.old before (is_at i p.seats was.old order0 was.here) was.here

    old_going : was.old.is_closing ≡ false
    old_going = sym was.is.closing ∙ seat_going

    from : FromClient s.clients c
    from = quiet.clients_from c (in_find (is_client seat.client.id) c v.clients place.there).0

    same : from.was ≡ own.client
    same = one_of client_number s.clients from.was own.client rise from.there (in_find (is_client was.old.client.id) own.client s.clients own.there).0 (sym from.is.number ∙ sym shows.number ∙ was.is.id ∙ own.shows.number)

    quiet_now : Quiet c own.client
    quiet_now = subst (λ (d : Client). Quiet c d) same from.is

    law_going : own.client.is_closing ≡ false
    law_going = sym own.shows.closing ∙ old_going

    over_here : is_said seat.client.reply ≡ true → IsOverNow number0 number name seat was.old c own.client (shows.going going) (own.shows.going law_going) quiet_now (unsaid i was.old was.here old_going)
    over_here all = over_now number0 number name seat was.old c own.client (shows.going going) (own.shows.going law_going) quiet_now (unsaid i was.old was.here old_going) seat_going all

    goes_on : is_said seat.client.reply ≡ true → MayGoOn seat c
    goes_on all stays =
        let on : GoesOnTo own.client = next own.client (in_find (is_client was.old.client.id) own.client s.clients own.there).0 law_going (over_here all).begun (sym quiet_now.closes ∙ stays) in
        record {
          request = on.request;
          front = quiet_now.front ∙ on.front;
          known = on.known;
          counted = subst (λ (n : ℕ). n + 1 ≤ 2 ^ 64 - 1) (sym ((shows.going going).index ∙ quiet_now.index)) on.counted;
        }

  pub all_may_end : AllMayEnd (record { parts = q; peers = [] }) v
  all_may_end i seat c place going all = record { passed = (over_here i seat c place going all).may; next = goes_on i seat c place going all }
