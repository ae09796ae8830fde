-- A response that is passed begins to be said.
use Rattle.std.proofs.Common.{◌≡◌, refl, sym, subst, ap, ap₂, ◌∙◌, ℕ, ◌+◌, ◌-◌, ◌^◌, min, Bool, true, false, ◌&&◌, not, [], length, List, Option, Some, None}
use Rattle.std.specs.Prelude.{is_some, slice_set}
use Rattle.pp_client.specs.Replies.{Reply as Said}
use Rattle.pp_client.specs.declared.reply.Begin.TheVariants.{Passed as FromPipe}
use Rattle.pp_client.specs.declared.reply.Stage.{Stage as SaidStage}
use Rattle.pp_client.specs.declared.reply.Stage.TheVariants.{Due}
use Rattle.pp_flow_law.specs.Tables.{Leaving}
use Rattle.pp_law.specs.Lists.{Bytes}
use Rattle.pp_law.specs.Replies.{begins, begun_at_end, begun_by, begun_passed, passed_reply}
use Rattle.pp_law.specs.Requests.{Front, Parsed, NoHeadYet, NoHead, IsRequest, keeps_open}
use Rattle.pp_law.specs.Stages.{is_begun, is_passing, passed_of}
use Rattle.pp_law.specs.State.{State, Client, Passed, Answering}
use Rattle.pp_law.specs.Table.{follows}
use Rattle.pp_peers.specs.declared.peers.Peer.{Peer}
use Rattle.pp_plan.specs.Requests.{is_head}
use Rattle.pp_reply.specs.Keeping.{is_end_known}
use Rattle.pp_reply.specs.Texts.{passed_head}
use Rattle.pp_seats.specs.Accounts.{begun, line_in}
use Rattle.pp_seats.specs.Heads.{asked_in}
use Rattle.pp_seats.specs.Seats.{passed_in}
use Rattle.pp_seats.specs.declared.account.Account.{Account}
use Rattle.pp_seats.specs.declared.front.Asked.{Asked}
use Rattle.pp_seats.specs.declared.front.Front.{Front as SeatFront}
use Rattle.pp_seats.specs.declared.front.Front.TheVariants.{NoHeadYet as NoneYet, NoHead as NoneThere, Request as IsThere}
use Rattle.pp_seats.specs.declared.seat.Answer.{Answer}
use Rattle.pp_seats.specs.declared.seat.Passed.{Passed as SeatPassed}
use Rattle.pp_seats.specs.declared.seat.Seat.{Seat}
use Rattle.pp_seats_law.proofs.Stages.{passed}
use Rattle.pp_seats_law.specs.Fronts.{ShowsAsked, ShowsFront}
use Rattle.pp_seats_law.specs.Replies.{IsHeadKept, ShowsPassed, passed_text}
use Rattle.pp_seats_law.specs.Seats.{ShowsOpen, ShowsSeat}
use Rattle.pp_seats_law.specs.Words.{ShowsMaybePassed}
use Rattle.pp_steps.specs.Begins.{BeginsPassed, HasBegun, HasBegunPassed, IsPassBegun, pass_begun}
use Rattle.pp_state.specs.Passing.{may_answer}
use Rattle.pp_state.specs.Places.{IsChangedIn}
use Rattle.pp_state.specs.declared.state.State.{State as Turn}
use Rattle.pp_world.specs.declared.note.Decision.{Decision}
use Rattle.pp_turns_law.proofs.BegunReplies.{begun_seat, begun_shows}
use Rattle.pp_turns_law.specs.Begins.{IsReadyAt}
use Rattle.pp_turns_law.proofs.Turned.{AmidTurn, Turned, and_no, answers, asked_is, due_now, no_request, none_unanswered, passed_given, piped_passed, quiet, seat_shows, stays_at}

module _ (number : ℕ → ℕ) (l : Leaving) (peers : List Peer) (i : ℕ) (p q : Turn) (s : State) (seat : Seat) (c : Client) (shows : AmidTurn number l peers p s) (ready : IsReadyAt number i p s seat c) (going : c.is_closing ≡ false) where
  abbrev name : Bytes
  name = p.name.items

  abbrev said : Said
  said = seat.client.reply

  live : ShowsOpen number name [] seat c
  live = ready.shows.going going

  due : is_begun c ≡ false → said.stage ≡ Due
  due isnt = due_now number name seat c live isnt

  passes_with : (d : Decision) (x : SeatPassed) (y : Passed) (a : Asked) (r : Parsed) (changed : Seat) → is_passing d ≡ true → is_begun c ≡ false → passed_in seat.brought ≡ Some x → passed_of c ≡ Some y → ShowsPassed name said c.front x y → ShowsAsked a r → c.front ≡ IsRequest r
      → begun_at_end s c ≡ begun_passed s r d c → ((k : ℕ) → follows k c ≡ false) → HasBegun (pass_begun d x a seat) seat changed → q.seats.items ≡ slice_set p.seats.items i changed → record q { seats = p.seats } ≡ p → Turned number i p q s seat c
  passes_with d x y a r changed is isnt has brings shown asks front law none begun_so items rest = record {
    new = new;
    seats = items ∙ ap (λ (z : Seat). slice_set p.seats.items i z) (begun_so.seat ∙ as_new);
    shows = subst (λ (e : Client). ShowsSeat number name [] new e) (sym law_is) (seat_shows number name seat new c behind ready.shows refl refl refl refl
        (begun_shows number name [] seat c FromPipe said.text a_then (passed_reply s r y d) (not (a.keeps_open && is_end_known x.rule a.minor)) (not (keeps_open r && is_end_known y.rule r.head.minor)) account live isnt (passed_given seat.brought x has)
        (record { decision = refl; source = refl; begun = refl; says = (record { begun = refl; left = text_is; next = refl; end = refl }, refl, is) })
        text_is (ready.may going).room (piped_passed seat.brought x has) closes_same));
    own = None;
    on = λ k. ap (λ (e : Client). follows k e) law_is ∙ and_no (not c.is_closing) ∙ sym (none k);
    outruns = false;
    outrun = none_unanswered s c s.exchanges ((ready.may going).headed (ap (λ (o : Option Passed). is_some o) brings));
    rest = rest;
  }
    where
      a_then : Answer
      a_then = record { decision = d; source = None; from = 0; to = 0; has_begun = true }

      account : Account
      account = begun (line_in changed.account) x.status (min (seat.before_body + x.head_len) (2 ^ 64 - 1)) seat.account

      new : Seat
      new = begun_seat FromPipe said.text a_then (not (a.keeps_open && is_end_known x.rule a.minor)) account seat

      behind : Client
      behind = record c { stage = Answering (passed_reply s r y d); closes = not (keeps_open r && is_end_known y.rule r.head.minor) }

      kept : (said.text ≡ passed_text name c.front y) × (x.head_len ≡ length said.text)
      kept = subst (λ (t : SaidStage). IsHeadKept name t said c.front x y) (due isnt) shown.head

      as_new : pass_begun d x a seat (line_in changed.account) ≡ new
      as_new = ap (λ (n : ℕ). let t : Seat = record new { before_body = min (seat.before_body + n) (2 ^ 64 - 1) } in t) kept.1

      law_is : begun_at_end s c ≡ behind
      law_is = law ∙ ap (λ (o : Option Passed). elim o as (λ t. Client) [ None ↦ c | Some z ↦ record c { stage = Answering (passed_reply s r z d); closes = not (keeps_open r && is_end_known z.rule r.head.minor) } ]) brings

      text_is : (passed_reply s r y d).head_left ≡ said.text
      text_is = ap (λ (b : Bytes). passed_head y.head y.rule r.head.minor (is_head r.head.method) b (keeps_open r)) (sym shows.name) ∙ sym (kept.0 ∙ ap (λ (f : Front). passed_text name f y) front)

      closes_same : not (a.keeps_open && is_end_known x.rule a.minor) ≡ not (keeps_open r && is_end_known y.rule r.head.minor)
      closes_same = ap₂ (λ (k e : Bool). not (k && e)) asks.keeps_open (ap₂ (λ rule minor. is_end_known rule minor) shown.rule asks.minor)

  pub passes : (d : Decision) → is_passing d ≡ true → is_begun c ≡ false → ((r : Parsed) → c.front ≡ IsRequest r → begun_by s r c ≡ begun_passed s r d c) → ((k : ℕ) → follows k c ≡ false) → BeginsPassed i d p q → Turned number i p q s seat c
  passes d is isnt law none begins =
      by (passed_in seat.brought) (passed_of c) seat.front c.front (may_answer seat.client) refl refl (passed number name [] seat c live) refl refl live.front refl at.1
    where
      at : (changed : Seat) × IsPassBegun d seat changed × (q.seats.items ≡ slice_set p.seats.items i changed)
      at = subst (λ (o : Option Seat). IsChangedIn (IsPassBegun d) o i p.seats.items q.seats.items) ready.here begins.seat

      as_it_is : (y : Option Passed) → passed_of c ≡ y → y ≡ None → (r : Parsed) → c.front ≡ IsRequest r → begun_by s r c ≡ c
      as_it_is y brings nothing r front =
          law r front ∙ ap (λ (o : Option Passed). elim o as (λ t. Client) [ None ↦ c | Some z ↦ record c { stage = Answering (passed_reply s r z d); closes = not (keeps_open r && is_end_known z.rule r.head.minor) } ]) (brings ∙ nothing)

      by : (x : Option SeatPassed) (y : Option Passed) (fs : SeatFront) (f : Front) (may : Bool) → passed_in seat.brought ≡ x → passed_of c ≡ y → ShowsMaybePassed name said c.front x y → seat.front ≡ fs → c.front ≡ f → ShowsFront fs f
          → may_answer seat.client ≡ may → HasBegunPassed d x (asked_in fs) may seat at.0 → Turned number i p q s seat c
      by None None fs f may has brings shown its front seen can same = stays_at number i p q s seat c ready at.0 same at.2 begins.rest (quiet s c going (as_it_is None brings refl))
      by None (Some y) fs f may has brings shown its front seen can same = absurd shown
      by (Some x) None fs f may has brings shown its front seen can same = absurd shown
      by (Some x) (Some y) NoneYet NoHeadYet may has brings shown its front seen can same = stays_at number i p q s seat c ready at.0 same at.2 begins.rest (no_request s c NoHeadYet going front refl)
      by (Some x) (Some y) (NoneThere status) (NoHead other) may has brings shown its front seen can same = stays_at number i p q s seat c ready at.0 same at.2 begins.rest (no_request s c (NoHead other) going front refl)
      by (Some x) (Some y) (IsThere a) (IsRequest r) true has brings shown its front seen can same =
          passes_with d x y a r at.0 is isnt has brings shown seen front (asked_is s c r going front ∙ law r front) none same at.2 begins.rest
      by (Some x) (Some y) (IsThere a) (IsRequest r) false has brings shown its front seen can same = let no : true ≡ false = sym (answers number name seat c live r front isnt) ∙ can in absurd (cc no)
      by (Some x) (Some y) fs f may has brings shown its front seen can same = absurd seen
