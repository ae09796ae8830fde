-- A reply from an instance begins, where it may.
use Rattle.std.proofs.Common.{◌≡◌, ◌≤◌, refl, sym, subst, ap, ap₂, ◌∙◌, ℕ, Bool, true, false, ◌==◌, ◌&&◌, ◌||◌, not, nat_lt, [], ◌++◌, length, List, Option, Some, None, arith}
use Rattle.std.proofs.lemmas.Bool.Decides.{nat_tests}
use Rattle.std.specs.Prelude.{is_some, option_and_then, slice_get, slice_set}
use Rattle.pp_cache.specs.Memory.{Memory}
use Rattle.pp_cache_law.proofs.Alike.{held_of, instances_of}
use Rattle.pp_cache_law.proofs.Numbers.{is_same}
use Rattle.pp_cache_law.specs.Reads.{IsFound}
use Rattle.pp_client.specs.Replies.{Reply as Said, has_begun as has_begun_at}
use Rattle.pp_client.specs.Requests.{Front as Heading, current_of}
use Rattle.pp_client.specs.declared.reply.Begin.{Begin}
use Rattle.pp_client.specs.declared.reply.Begin.TheVariants.{Page, Instance as OfInstance}
use Rattle.pp_client.specs.declared.reply.Stage.{Stage as SaidStage}
use Rattle.pp_client.specs.declared.reply.Stage.TheVariants.{Due, Begun}
use Rattle.pp_turns_law.proofs.Quitting.{follows_one, left_memory}
use Rattle.pp_flow_law.specs.Tables.{Leaving}
use Rattle.pp_law.specs.Lists.{Bytes, is_some_with, is_this}
use Rattle.pp_law.specs.Replies.{begins, begun_at_end, begun_by, begun_instance, begun_passed, begun_reply, instance_head, is_part as is_part_by, may_begin as may_begin_by}
use Rattle.pp_law.specs.Requests.{Front, Parsed, NoHeadYet, NoHead, IsRequest, front_of}
use Rattle.pp_law.specs.Stages.{is_begun, is_passing, reply_of}
use Rattle.pp_law.specs.State.{State, Client, Instance as Known, Reply, Stage, Answering}
use Rattle.pp_law.specs.Table.{follows, instance, is_held as is_held_by, source_of}
use Rattle.pp_objects.specs.Instances.{Instance, in_slot, is_there}
use Rattle.pp_objects.specs.declared.id.ObjectId.{ObjectId}
use Rattle.pp_peers.specs.declared.peers.Peer.{Peer}
use Rattle.pp_plan.specs.Spans.{resolved}
use Rattle.pp_reply.specs.declared.kept.KeptReply.{KeptReply}
use Rattle.pp_seats.specs.Accounts.{line_in}
use Rattle.pp_seats.specs.Heads.{asked_in}
use Rattle.pp_seats.specs.Follows.{answer_in}
use Rattle.pp_seats.specs.declared.front.Asked.{Asked}
use Rattle.pp_seats.specs.declared.front.Front.{Front as SeatFront}
use Rattle.pp_seats.specs.declared.front.Front.TheVariants.{NoHeadYet as NoneYet, NoHead as NoneThere, Request as IsThere}
use Rattle.pp_seats.specs.declared.seat.Answer.{Answer}
use Rattle.pp_seats.specs.declared.seat.Seat.{Seat}
use Rattle.pp_seats.specs.declared.seat.Stage.{Stage as SeatStage}
use Rattle.pp_seats.specs.declared.seat.Stage.TheVariants.{Answering as IsAnswering}
use Rattle.pp_seats_law.proofs.Fronts.{same_front}
use Rattle.pp_seats_law.proofs.Nexts.{reply_in}
use Rattle.pp_seats_law.specs.Dues.{AreApart}
use Rattle.pp_seats_law.specs.Fronts.{ShowsAsked, ShowsFront, StandsStill}
use Rattle.pp_seats_law.specs.Replies.{IsPipedFor, ShowsAnswer, ShowsSaid, source_number}
use Rattle.pp_seats_law.specs.Seats.{ShowsOpen, ShowsSeat}
use Rattle.pp_steps.specs.Begins.{BeginsAt, BeginsFrom, BeginsKept, BeginsRow, HasBegun, HasBegunShown, IsKeptBegun, Kept, after_shown, allowed, begin_of, can_show, has_plain_age, is_part, keeps_lines, kept_begun, kept_in, kept_of, may_be_shown, may_begin, shown_of, shown_to, shows_of, source_left, text_of, with_left, with_source_left, without_outrun}
use Rattle.pp_state.specs.Bringing.{is_held}
use Rattle.pp_state.specs.Places.{IsChangedIn}
use Rattle.pp_state.specs.declared.state.State.{State as Turn}
use Rattle.pp_world.specs.declared.note.Decision.{Decision}
use Rattle.pp_turns_law.proofs.BegunReplies.{begun_shows, begun_with}
use Rattle.pp_turns_law.proofs.Heads.{head_same, part_same, plain_is}
use Rattle.pp_turns_law.specs.Begins.{IsDecidedAs, IsReadyAt, MayShow}
use Rattle.pp_turns_law.proofs.Turned.{AmidTurn, FollowsOn, IsHeading, Turned, and_no, asked_is, due_now, heading_is, law_by, left_is, no_request, not_begun, piped_instance, piped_page, quiet, same_turn, seat_shows, stays_at}

module _ (number : ℕ → ℕ) (l : Leaving) (peers : List Peer) (i : ℕ) (p q : Turn) (s : State) (seat : Seat) (c : Client) (shows : AmidTurn number l peers p s) (ready : IsReadyAt number i p s seat c) (going : c.is_closing ≡ false) (a : Answer) (reply : Reply) (stage : seat.stage ≡ IsAnswering a) (stage_law : c.stage ≡ Answering reply)
    (seen : ShowsAnswer number seat.client.reply a reply) (unbegun : a.has_begun ≡ false) where
  abbrev name : Bytes
  name = p.name.items

  abbrev said : Said
  said = seat.client.reply

  live : ShowsOpen number name [] seat c
  live = ready.shows.going going

  due : is_begun c ≡ false → said.stage ≡ Due
  due isnt = due_now number name seat c live isnt

  isnt : is_begun c ≡ false
  isnt = not_begun number said a reply c stage_law seen unbegun

  decided : IsDecidedAs number s seat c a
  decided = (ready.may going).decided a stage unbegun

  span : (reply.at ≡ a.from) × (reply.to ≡ a.to)
  span = by (subst (λ (t : SaidStage). ShowsSaid t said.text a reply) (due isnt) seen.says)
    where
      by : ShowsSaid Due said.text a reply → (reply.at ≡ a.from) × (reply.to ≡ a.to)
      by says = (says.from, says.to)

  module _ (other : is_passing a.decision ≡ false) where
    law_instance : (r : Parsed) → begun_by s r c ≡ begun_instance s r reply c
    law_instance r = law_by number said a reply s c r stage_law seen unbegun ∙ ap (λ (b : Bool). elim b as (λ t. Client) [ true ↦ begun_passed s r reply.decision c | false ↦ begun_instance s r reply c ]) (ap is_passing (sym seen.decision) ∙ other)

    abbrev by_source : Parsed → Option Known → Client
    by_source r o = elim o [ None ↦ c | Some x ↦ elim (may_begin_by s reply x) [ true ↦ record c { stage = Answering (begun_reply s r c reply x) } | false ↦ c ] ]

    abbrev source_by : Option ℕ → Option Known
    source_by o = elim o [ None ↦ None | Some n ↦ instance s n ]

    sourced : (o : Option ObjectId) → a.source ≡ o → source_of s reply ≡ source_by (source_number number o)
    sourced o own = ap (λ (n : Option ℕ). source_by n) (sym seen.source ∙ ap (λ (x : Option ObjectId). source_number number x) own)

    follows_nothing : a.source ≡ None → begun_at_end s c ≡ c
    follows_nothing own = quiet s c going (λ r front. law_instance r ∙ ap (λ (o : Option Known). by_source r o) (sourced None own))

    module _ (id : ObjectId) (own : a.source ≡ Some id) where
      one : IsFound number p.cache s id
      one = instances_of number p.cache s shows.steps.shows.table.table id ((ready.may going).follows a id (ap (λ (t : SeatStage). answer_in t) stage) own)

      there : is_there id p.cache.instances ≡ true
      there = (ready.may going).follows a id (ap (λ (t : SeatStage). answer_in t) stage) own

      source_is : source_of s reply ≡ Some one.known
      source_is = sourced (Some id) own ∙ one.there

      law_row : (r : Parsed) → begun_by s r c ≡ (elim (may_begin_by s reply one.known) as (λ t. Client) [ true ↦ record c { stage = Answering (begun_reply s r c reply one.known) } | false ↦ c ])
      law_row r = law_instance r ∙ ap (λ (o : Option Known). by_source r o) source_is

      may_same : may_begin id a p.cache ≡ may_begin_by s reply one.known
      may_same =
          by (a.from == a.to) refl ∙ ap₂ (λ (m n : ℕ). (m == n) || is_held_by s one.known m) (sym span.0) (sym span.1)
        where
          above : (m n : ℕ) → m ≤ n → (m == n) ≡ false → nat_lt m n ≡ true
          above m n order apart = grind (arith, nat_tests, order, apart)

          by : (b : Bool) → (a.from == a.to) ≡ b → (b || (nat_lt a.from a.to && is_held id a.from p.cache)) ≡ (b || is_held_by s one.known a.from)
          by true same = refl
          by false apart =
              ap (λ (x : Bool). x && is_held id a.from p.cache) (above a.from a.to decided.order apart) ∙ held_of number p.cache s shows.steps.shows.table.table id one.known there one.there a.from

      abbrev its : Kept
      its = record { version = one.seen.version; fields = one.seen.fields; times = one.seen.times; name = p.name.items; now = p.now }

      kept_is : kept_of id p.name.items p.now p.cache ≡ Some its
      kept_is =
          ap (λ (b : Bool). elim b as (λ t. Option Kept) [ true ↦ kept_in p.name.items p.now (in_slot id.slot p.cache.instances) | false ↦ None ]) there
          ∙ ap (λ (o : Option Instance). kept_in p.name.items p.now o) one.here

      -- there is a request, and its reply begins
      module _ (r : Parsed) (front : c.front ≡ IsRequest r) (may : may_begin_by s reply one.known ≡ true) where
        may_show : MayShow s a c r one.known
        may_show = decided.shows r one.known id other front own one.there

        abbrev part : Bool
        part = is_part (resolved r.head.fields one.known.version)

        abbrev kind : KeptReply
        kind = shows_of a.decision (a.from, a.to) (is_part (resolved r.head.fields one.seen.version))

        shown_is : shown_of seat a one.seen.version one.seen.fields ≡ Some kind
        shown_is =
            ap (λ (h : Heading). allowed (has_begun_at said.stage) one.seen.version one.seen.fields (shown_to h a one.seen.version)) heading.is
            ∙ ap (λ (b : Bool). elim b as (λ t. Option KeptReply) [ true ↦ Some kind | false ↦ None ]) (
            ap₂ (λ (t : SaidStage) (b : Bool). not (has_begun_at t) && b && keeps_lines one.seen.fields) (due isnt) (
            ap (λ v. can_show (shows_of a.decision (a.from, a.to) (is_part (resolved r.head.fields v))) v.length) one.shows.version ∙ may_show.span
            ) ∙ ap (λ fields. keeps_lines fields) one.shows.fields ∙ may_show.lines
            )
          where
            heading : IsHeading (current_of seat.client.heard) r
            heading =
                heading_is (current_of seat.client.heard) r
                (sym (same_front (seat.client.heard.head ++ seat.client.heard.rest)) ∙ still)
              where
                still : front_of (seat.client.heard.head ++ seat.client.heard.rest) ≡ IsRequest r
                still = by c.front front live.heard.is_front
                  where
                    by : (f : Front) → f ≡ IsRequest r → StandsStill f (front_of (seat.client.heard.head ++ seat.client.heard.rest)) → front_of (seat.client.heard.head ++ seat.client.heard.rest) ≡ IsRequest r
                    by NoHeadYet e stands = absurd (cc e)
                    by (NoHead status) e stands = absurd (cc e)
                    by (IsRequest other_one) e stands = stands ∙ e

        abbrev begun_then : Client
        begun_then = record c { stage = Answering (begun_reply s r c reply one.known) }

        law_is : begun_at_end s c ≡ begun_then
        law_is = asked_is s c r going front ∙ law_row r ∙ ap (λ (b : Bool). elim b as (λ t. Client) [ true ↦ begun_then | false ↦ c ]) may

        text_same : (asked : Asked) → ShowsAsked asked r → text_of kind id its asked seat ≡ instance_head s r c one.known a.decision
        text_same asked asks =
            head_same s r c one.known a.decision (a.from, a.to) (is_part (resolved r.head.fields one.seen.version)) asked.keeps_open (has_plain_age id seat.brought) one.seen.version.length one.seen.fields one.seen.times p.now p.name.items
            (decided.kept other) decided.from decided.to
            (part_same (resolved r.head.fields one.seen.version) ∙ ap (λ v. is_part_by (resolved r.head.fields v)) one.shows.version) (ap (λ v. v.length) one.shows.version) one.shows.fields one.shows.times shows.clock shows.name asks.keeps_open
            (plain_is number name [] said seat.course seat.brought c id one.known.id live.fate decided.given (subst (λ (o : Option ObjectId). AreApart number o seat.brought) own decided.apart)
            (ap (λ (x : ObjectId). number x.life) (sym one.same) ∙ one.shows.id))

        abbrev answer_as : Bool → Answer
        answer_as b = elim b [ true ↦ record a { source = None; has_begun = true } | false ↦ record a { has_begun = true } ]

        abbrev begin_as : Bool → Begin
        begin_as b = elim b [ true ↦ Page | false ↦ OfInstance id a.from a.to ]

        abbrev reply_as : Bool → Reply
        reply_as b = record reply { has_begun = true; source = elim b [ true ↦ None | false ↦ reply.source ]; head_left = instance_head s r c one.known reply.decision }

        begun_answer : (text : Bytes) → text ≡ instance_head s r c one.known a.decision → ShowsAnswer number (begun_with (begin_of id a) text said) (source_left a) (begun_reply s r c reply one.known)
        begun_answer text same =
            subst (λ (x : Bool). ShowsAnswer number (begun_with (begin_of id a) text said) (source_left a) (reply_as x)) (sym (ap₂ (λ (m n : ℕ). m == n) span.0 span.1)) (at (a.from == a.to) refl)
          where
            head_is : instance_head s r c one.known reply.decision ≡ text
            head_is = ap (λ (d : Decision). instance_head s r c one.known d) (sym seen.decision) ∙ sym same

            passing : is_passing reply.decision ≡ false
            passing = ap is_passing (sym seen.decision) ∙ other

            at : (b : Bool) → (a.from == a.to) ≡ b → ShowsAnswer number (begun_with (begin_as b) text said) (answer_as b) (reply_as b)
            at true whole = record {
              decision = seen.decision;
              source = refl;
              begun = refl;
              says = (record { begun = refl; left = head_is; next = span.0 ∙ is_same a.from a.to whole ∙ sym span.1; end = refl }, refl, passing);
            }
            at false some = record {
              decision = seen.decision;
              source = seen.source;
              begun = refl;
              says = (record { begun = refl; left = head_is; next = span.0; end = span.1 }, own, refl, passing, decided.order);
            }

        ends : FollowsOn number p.cache c begun_then (elim (a.from == a.to) as (λ t. Option ObjectId) [ true ↦ Some id | false ↦ None ])
        ends = by (a.from == a.to) refl
          where
            still : (k : ℕ) → follows k c ≡ (not c.is_closing && is_this k reply.source)
            still k = ap (λ (t : Stage). not c.is_closing && is_some_with (λ (x : Reply). is_this k x.source) (reply_in t)) stage_law

            by : (b : Bool) → (a.from == a.to) ≡ b → FollowsOn number p.cache c begun_then (elim b as (λ t. Option ObjectId) [ true ↦ Some id | false ↦ None ])
            by true whole = (
              there,
              (λ k. ap (λ (b : Bool). not b && is_some_with (λ (x : Reply). is_this k x.source) (reply_of c)) going ∙ follows_one number k id said seat.stage c.stage live.stage (ap (λ (t : SeatStage). option_and_then (λ (x : Answer). x.source) (answer_in t)) stage ∙ own)),
              (λ k. ap (λ (b : Bool). not c.is_closing && is_this k (elim b as (λ t. Option ℕ) [ true ↦ None | false ↦ reply.source ])) (ap₂ (λ (m n : ℕ). m == n) span.0 span.1 ∙ whole) ∙ and_no (not c.is_closing)),
            )
            by false some = λ k. ap (λ (b : Bool). not c.is_closing && is_this k (elim b as (λ t. Option ℕ) [ true ↦ None | false ↦ reply.source ])) (ap₂ (λ (m n : ℕ). m == n) span.0 span.1 ∙ some) ∙ sym (still k)

        memory_is : with_source_left id a p.cache ≡ left_memory (elim (a.from == a.to) as (λ t. Option ObjectId) [ true ↦ Some id | false ↦ None ]) p.cache
        memory_is = by (a.from == a.to)
          where
            by : (b : Bool) → (elim b as (λ t. Memory) [ true ↦ with_left id p.cache | false ↦ p.cache ]) ≡ left_memory (elim b as (λ t. Option ObjectId) [ true ↦ Some id | false ↦ None ]) p.cache
            by true = left_is id p.cache
            by false = refl

        kept_with : (asked : Asked) (changed : Seat) → ShowsAsked asked r → HasBegun (kept_begun id a kind (text_of kind id its asked seat) seat) seat changed → q.seats.items ≡ slice_set p.seats.items i changed
            → record q { seats = p.seats } ≡ after_shown true id a seat.client.id p → Turned number i p q s seat c
        kept_with asked changed asks begun_so items rest = record {
          new = new;
          seats = items ∙ ap (λ (z : Seat). slice_set p.seats.items i z) begun_so.seat;
          shows = subst (λ (e : Client). ShowsSeat number name [] new e) (sym law_is) (seat_shows number name seat new c begun_then ready.shows refl refl refl refl
              (begun_shows number name [] seat c (begin_of id a) text (source_left a) (begun_reply s r c reply one.known) seat.closes c.closes new.account live isnt decided.given
              (begun_answer text text_is) (ap (λ (d : Decision). instance_head s r c one.known d) (sym seen.decision) ∙ sym text_is)
              (subst (λ (b : Bytes). length b ≤ 20480) (sym text_is) may_show.room) (piped (a.from == a.to)) live.closes));
          own = elim (a.from == a.to) [ true ↦ Some id | false ↦ None ];
          on = subst (λ (e : Client). FollowsOn number p.cache c e (elim (a.from == a.to) as (λ t. Option ObjectId) [ true ↦ Some id | false ↦ None ])) (sym law_is) ends;
          outruns = true;
          outrun = ap₂ (λ (x : Bool) (e : Client). not x && is_begun e) isnt law_is;
          rest = rest ∙ ap (λ (m : Memory). let t : Turn = record p { cache = m; flow = without_outrun seat.client.id p.flow } in t) memory_is;
        }
          where
            text : Bytes
            text = text_of kind id its asked seat

            text_is : text ≡ instance_head s r c one.known a.decision
            text_is = text_same asked asks

            new : Seat
            new = kept_begun id a kind text seat (line_in changed.account)

            piped : (b : Bool) → IsPipedFor (Begun (elim b as (λ t. Begin) [ true ↦ Page | false ↦ OfInstance id a.from a.to ])) seat.brought
            piped true = piped_page seat.brought
            piped false = piped_instance id a.from a.to seat.brought

      -- the row is there
      row_begins : may_begin_by s reply one.known ≡ true → BeginsAt (IsKeptBegun id a its) i (after_shown (may_be_shown a one.seen.version one.seen.fields seat) id a seat.client.id p) p q → Turned number i p q s seat c
      row_begins may begins = by seat.front c.front refl refl live.front
        where
          at : (changed : Seat) × IsKeptBegun id a its seat changed × (q.seats.items ≡ slice_set p.seats.items i changed)
          at = subst (λ (o : Option Seat). IsChangedIn (IsKeptBegun id a its) o i p.seats.items q.seats.items) ready.here begins.seat

          with_front : (fs : SeatFront) → seat.front ≡ fs → HasBegunShown id a its (asked_in fs) (shown_of seat a one.seen.version one.seen.fields) seat at.0
          with_front fs is = subst (λ (x : SeatFront). HasBegunShown id a its (asked_in x) (shown_of seat a one.seen.version one.seen.fields) seat at.0) is at.1

          rest_with : (fs : SeatFront) → seat.front ≡ fs → record q { seats = p.seats } ≡ after_shown (is_some (asked_in fs) && is_some (shown_of seat a one.seen.version one.seen.fields)) id a seat.client.id p
          rest_with fs is = begins.rest ∙ ap (λ (x : SeatFront). after_shown (is_some (asked_in x) && is_some (shown_of seat a one.seen.version one.seen.fields)) id a seat.client.id p) is

          by : (fs : SeatFront) (f : Front) → seat.front ≡ fs → c.front ≡ f → ShowsFront fs f → Turned number i p q s seat c
          by NoneYet NoHeadYet is so front = stays_at number i p q s seat c ready at.0 (with_front NoneYet is) at.2 (rest_with NoneYet is) (no_request s c NoHeadYet going so refl)
          by (NoneThere status) (NoHead other_one) is so front = stays_at number i p q s seat c ready at.0 (with_front (NoneThere status) is) at.2 (rest_with (NoneThere status) is) (no_request s c (NoHead other_one) going so refl)
          by (IsThere asked) (IsRequest r) is so front =
              kept_with r so may asked at.0 front
              (subst (λ (o : Option KeptReply). HasBegunShown id a its (Some asked) o seat at.0) (shown_is r so may) (with_front (IsThere asked) is))
              at.2
              (rest_with (IsThere asked) is ∙ ap (λ (o : Option KeptReply). after_shown (true && is_some o) id a seat.client.id p) (shown_is r so may))
          by fs f is so front = absurd front

      row_of : (b : Bool) → may_begin id a p.cache ≡ b → BeginsKept i id a b p q → Turned number i p q s seat c
      row_of false cannot same = same_turn number i p q s seat c ready same (quiet s c going (λ r front. law_row r ∙ ap (λ (b : Bool). elim b as (λ t. Client) [ true ↦ record c { stage = Answering (begun_reply s r c reply one.known) } | false ↦ c ]) (sym may_same ∙ cannot)))
      row_of true can begins =
          row_begins (sym may_same ∙ can)
          (subst (λ (o : Option Seat). BeginsRow i id a (Some its) o p q) ready.here (subst (λ (k : Option Kept). BeginsRow i id a k (slice_get p.seats.items i) p q) kept_is begins))

    pub from_source : (o : Option ObjectId) → a.source ≡ o → BeginsFrom i a o p q → Turned number i p q s seat c
    from_source None own same = same_turn number i p q s seat c ready same (follows_nothing own)
    from_source (Some id) own begins = row_of id own (may_begin id a p.cache) refl begins
