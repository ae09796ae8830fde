-- One client asks for what it lacks.
use Rattle.std.proofs.Common.{◌≡◌, refl, sym, subst, ap, ◌∙◌, ℕ, Bool, true, false, List, [], Some, None, Option, Ok, Err}
use Rattle.std.specs.Prelude.{slice_get}
use Rattle.pp_turns_law.proofs.Needed.{needs}
use Rattle.pp_turns_law.specs.Nexts.{IsNext}
use Rattle.pp_cache_law.proofs.Alike.{instances_of}
use Rattle.pp_cache_law.proofs.Finds.{find_passes}
use Rattle.pp_cache_law.proofs.Numbers.{is_same, some_is}
use Rattle.pp_cache_law.specs.Reads.{IsFound}
use Rattle.pp_turns_law.proofs.Sitting.{is_at, shown_at}
use Rattle.pp_flow.specs.declared.entry.Aim.TheVariants.{Hole}
use Rattle.pp_flow.specs.declared.errand.Errand.{Errand}
use Rattle.pp_flow_law.specs.Tables.{Leaving}
use Rattle.pp_law.specs.Connections.{is_client, is_trying, on_client}
use Rattle.pp_law.specs.Deciding.{begin_exchange}
use Rattle.pp_law.specs.Decisions.{fits}
use Rattle.pp_law.specs.Followers.{fill_for, fill_next, fill_span, fill_with, filling_exchange, need_of as need_by}
use Rattle.pp_law.specs.Lists.{Bytes}
use Rattle.pp_law.specs.Requests.{Front, IsRequest, NoHead, NoHeadYet}
use Rattle.pp_law.specs.State.{State, AskTooLong, Client, Course, Instance as Known, OutOfTries, RowRefused, Trying}
use Rattle.pp_law.specs.Stages.{reply_of}
use Rattle.pp_law.specs.Table.{Next, next_in, next_of}
use Rattle.pp_objects.specs.Instances.{Instance, in_slot, is_there}
use Rattle.pp_peers.specs.declared.peers.Peer.{Peer}
use Rattle.pp_seats.specs.Courses.{is_trying_in}
use Rattle.pp_seats.specs.Follows.{next_by, next_of as next_in_turn, answer_in}
use Rattle.pp_seats.specs.Heads.{asked_in, owned_in}
use Rattle.pp_seats.specs.declared.seat.Course.{Course as SeatCourse}
use Rattle.pp_seats.specs.declared.seat.Course.TheVariants.{Trying as IsTrying, OutOfTries as IsOut, AskTooLong as IsTooLong}
use Rattle.pp_seats.specs.declared.seat.Next.{Next as SeatNext}
use Rattle.pp_seats.specs.declared.seat.Seat.{Seat}
use Rattle.pp_seats_law.proofs.Nexts.{nexts}
use Rattle.pp_seats_law.specs.Fates.{is_refused}
use Rattle.pp_seats_law.specs.Replies.{course_of}
use Rattle.pp_seats_law.specs.Seats.{ShowsOpen, ShowsSeat}
use Rattle.pp_seats_law.specs.Words.{ShowsNext}
use Rattle.pp_states_law.specs.Decisions.{AsksOnce}
use Rattle.pp_take.specs.Deciding.{Ask, ask_by, errand_by, may_ask}
use Rattle.pp_decide.specs.Decide.{text_by}
use Rattle.pp_state.specs.Ends.{Parts, on_seat}
use Rattle.pp_take.specs.Filling.{asked_of_row, filled_for, hole_ask_at, hole_asked, need_asked, next_asked, seat_asked, span_asked}
use Rattle.pp_states_law.proofs.Charged.{course_shown}
use Rattle.pp_valid.specs.declared.version.Version.{Version}
use Rattle.pp_turns_law.proofs.BegunAsks.{IsDone, asks_nothing, begun_done, begun_is, long_done, none_done}
use Rattle.pp_turns_law.proofs.FollowingOn.{has_source, is_next}
use Rattle.pp_turns_law.proofs.KeptAsks.{too_long}
use Rattle.pp_turns_law.proofs.Lacked.{HasKey, asks_hole, exchange_for, exchange_shows, has_key, kind_for, same_text}
use Rattle.pp_turns_law.specs.Fills.{MayFill, MayFollow, MayWant, OneFillsAsTheLaws, ShowsParts}

-- ---- it lacks a span

abbrev span_by : Bytes → ℕ → ℕ × ℕ → Parts → Bool → Option Instance → Parts
span_by name i span p b o = elim b as (λ t. Parts) [ true ↦ asked_of_row name i span o p | false ↦ p ]

span_is : (number : ℕ → ℕ) (name : Bytes) (i : ℕ) (x : SeatNext) (span : ℕ × ℕ) (p : Parts) (s : State) (n : Next) → IsNext number p.cache s x n → IsFound number p.cache s x.source → may_ask p.flow ≡ true
    → span_asked name i x span p ≡ hole_asked i n.source.version span (hole_ask_at name i n.source.version span p) p
unfolding span_asked
span_is number name i x span p s n next found room =
    ap (λ (b : Bool). span_by name i span p b (elim (is_there x.source p.cache.instances) as (λ t. Option Instance) [ true ↦ in_slot x.source.slot p.cache.instances | false ↦ None ])) room
    ∙ ap (λ (b : Bool). asked_of_row name i span (elim b as (λ t. Option Instance) [ true ↦ in_slot x.source.slot p.cache.instances | false ↦ None ]) p) next.there
    ∙ ap (λ (o : Option Instance). asked_of_row name i span o p) found.here
    ∙ ap (λ (v : Version). hole_asked i v span (hole_ask_at name i v span p) p) (found.shows.version ∙ ap (λ (y : Known). y.version) (some_is found.known n.source (sym found.there ∙ next.known)))

law_span_is : (c : Client) (n : Next) (span : ℕ × ℕ) (s : State) (seat : Seat) (has : HasKey seat c) → fill_span c n span s ≡ fill_with (exchange_for s seat c has n span) c s
unfolding fill_span
law_span_is c n span s seat has =
    ap (λ (f : Front). elim f as (λ t. State) [
      | NoHeadYet ↦ s
      | NoHead status ↦ s
      | IsRequest r ↦ elim r.key as (λ t. State) [ Ok key ↦ fill_with (filling_exchange s c r.head key n span) c s | Err fault ↦ s ]
    ]) has.front
    ∙ ap (λ o. elim o as (λ t. State) [ Ok key ↦ fill_with (filling_exchange s c has.request.head key n span) c s | Err fault ↦ s ]) has.named

trying_given : (course : Course) → is_trying course ≡ true → is_refused course ≡ false
trying_given (Trying n) is = refl
trying_given OutOfTries is = refl
trying_given AskTooLong is = refl
trying_given RowRefused is = absurd (cc is)

-- one that is closing follows nothing
pub closed_in_turn : (seat : Seat) → seat.is_closing ≡ true → next_in_turn seat ≡ None
closed_in_turn seat closing = ap (λ (b : Bool). elim b as (λ t. Option SeatNext) [ true ↦ None | false ↦ next_by (answer_in seat.stage) seat.client.reply ]) closing

pub closed_in_law : (s : State) (c : Client) → c.is_closing ≡ true → next_of s c ≡ None
closed_in_law s c closing = ap (λ (b : Bool). elim b as (λ t. Option Next) [ true ↦ None | false ↦ elim (reply_of c) as (λ t. Option Next) [ None ↦ None | Some r ↦ next_in s r ] ]) closing

module _ (number : ℕ → ℕ) (name : Bytes) (l : Leaving) (peers : List Peer) (p : Parts) (s : State) (shows : ShowsParts number name l peers p s) (i : ℕ) (seat : Seat) (c : Client) (may : MayFill i p s seat c) where
  here : slice_get p.seats i ≡ Some seat
  here = may.place.here

  same_number : c.number ≡ seat.client.id
  same_number = is_same c.number seat.client.id (find_passes (is_client seat.client.id) s.clients c may.place.there)

  seen : ShowsSeat number name [] seat c
  seen = shown_at number name [] p.seats s.clients seat.client.id i seat c shows.steps.shows.clients (is_at i p.seats seat shows.steps.order here) here may.place.there

  abbrev Done : Parts → State → Type 0
  Done q t = IsDone number name l peers p s q t

  -- the exchange that it asks for begins, where its text fits
  by_text : (has : HasKey seat c) (n : Next) (span : ℕ × ℕ) (b : Bool) → is_refused c.course ≡ false
      → Done
      (hole_asked i n.source.version span (elim b as (λ t. Option Ask) [
        | true ↦ Some (errand_by has.a has.key has.request.head (kind_for n.source.version span), text_by name has.request.head has.key (kind_for n.source.version span))
        | false ↦ None
      ]) p)
      (elim b as (λ t. State) [ true ↦ begin_exchange (exchange_for s seat c has n span) s | false ↦ on_client c.number too_long s ])
  unfolding hole_asked
  by_text has n span true given =
      let version : Version = n.source.version in
      let errand : Errand = errand_by has.a has.key has.request.head (kind_for version span) in
      let text : Bytes = text_by name has.request.head has.key (kind_for version span) in
      let owned : owned_in (asked_in seat.front) ≡ Some has.key = ap (λ o. owned_in o) has.asked ∙ has.keyed in
      subst (λ (q : Parts). Done q (begin_exchange (exchange_for s seat c has n span) s))
      (sym (begun_is number l p s shows.steps.shows.exchanges i (Hole version span.0 span.1) errand text seat has.key here owned may.room))
      (begun_done number name l peers p s shows seat.client.id has.key.text.items (Hole version span.0 span.1) errand text (exchange_for s seat c has n span) (ap (λ (m : ℕ). Some m) same_number)
      (subst (λ (m : ℕ). AsksOnce m s) same_number may.asks)
      (exchange_shows number p.flow.begun name s seat c has n span shows.steps.shows.exchanges.begun (sym same_number) shows.named))
  by_text has n span false given = subst (λ (m : ℕ). Done (on_seat i asks_nothing p) (on_client m too_long s)) (sym same_number) (long_done number name l peers p s shows i seat c may.place given)

  lacks_span : (x : SeatNext) (n : Next) (span : ℕ × ℕ) → IsNext number p.cache s x n → MayWant seat c → c.is_closing ≡ false → Done (span_asked name i x span p) (fill_span c n span s)
  unfolding fill_with
  lacks_span x n span next want going =
      let live : ShowsOpen number name [] seat c = seen.going going in
      let has : HasKey seat c = has_key number name seat c live want.keyed in
      let found : IsFound number p.cache s x.source = instances_of number p.cache s shows.steps.shows.table.table x.source next.there in
      let version : Version = n.source.version in
      let text : Bytes = text_by name has.request.head has.key (kind_for version span) in
      let program : span_asked name i x span p ≡ hole_asked i version span (ask_by name has.a has.key has.request.head (kind_for version span)) p =
      span_is number name i x span p s n next found may.room ∙ ap (λ (o : Option Ask). hole_asked i version span o p) (asks_hole name i version span p seat c has here) in
      let law : fill_span c n span s ≡ (elim (fits text) as (λ t. State) [ true ↦ begin_exchange (exchange_for s seat c has n span) s | false ↦ on_client c.number too_long s ]) =
      law_span_is c n span s seat has
      ∙ ap (λ (t : Bytes). elim (fits t) as (λ t. State) [ true ↦ begin_exchange (exchange_for s seat c has n span) s | false ↦ on_client c.number too_long s ]) (sym (same_text name s seat c has n span shows.named)) in
      subst (λ (t : State). Done (span_asked name i x span p) t) (sym law)
      (subst (λ (q : Parts). Done q (elim (fits text) as (λ t. State) [ true ↦ begin_exchange (exchange_for s seat c has n span) s | false ↦ on_client c.number too_long s ])) (sym program)
      (by_text has n span (fits text) want.given))

  -- ---- it lacks one, or none

  lacks_by : (x : SeatNext) (n : Next) (o : Option (ℕ × ℕ)) → IsNext number p.cache s x n → MayWant seat c → c.is_closing ≡ false → Done (need_asked name i x o p) (elim o as (λ t. State) [ None ↦ s | Some span ↦ fill_span c n span s ])
  lacks_by x n None next want going = none_done number name l peers p s shows
  lacks_by x n (Some span) next want going = lacks_span x n span next want going

  lacks : (x : SeatNext) (n : Next) → next_of s c ≡ Some n → IsNext number p.cache s x n → MayFollow p.cache s seat c → MayWant seat c → c.is_closing ≡ false → Done (next_asked name i (Some x) p) (fill_next c n s)
  unfolding fill_next
  lacks x n its next follow want going =
      subst (λ (o : Option (ℕ × ℕ)). Done (need_asked name i x o p) (fill_next c n s)) (sym (needs number name l peers p s shows.steps x n next shows.bounded (follow.within n its)))
      (lacks_by x n (need_by s n) next want going)

  -- ---- it follows something, or nothing

  abbrev asked_if : Bool → Option SeatNext → Parts
  asked_if b o = elim b as (λ t. Parts) [ true ↦ next_asked name i o p | false ↦ p ]

  abbrev filled_if : Bool → Option Next → State
  filled_if b o = elim b as (λ t. State) [ false ↦ s | true ↦ elim o as (λ t. State) [ None ↦ s | Some n ↦ fill_next c n s ] ]

  follows_none : (a b : Bool) → Done (asked_if a None) (filled_if b None)
  follows_none true true = none_done number name l peers p s shows
  follows_none true false = none_done number name l peers p s shows
  follows_none false true = none_done number name l peers p s shows
  follows_none false false = none_done number name l peers p s shows

  trying_same : (course : SeatCourse) (other : Course) → course_of course ≡ other → is_trying_in course ≡ is_trying other
  trying_same (IsTrying n) other same = ap is_trying same
  trying_same IsOut other same = ap is_trying same
  trying_same IsTooLong other same = ap is_trying same

  follows_one : (x : SeatNext) (n : Next) (b : Bool) → next_of s c ≡ Some n → IsNext number p.cache s x n → MayFollow p.cache s seat c → MayWant seat c → c.is_closing ≡ false → Done (asked_if b (Some x)) (filled_if b (Some n))
  follows_one x n true its next follow want going = lacks x n its next follow want going
  follows_one x n false its next follow want going = none_done number name l peers p s shows

  program_is : filled_for name i p ≡ asked_if (is_trying_in seat.course) (next_in_turn seat)
  unfolding filled_for
  program_is = ap (λ (o : Option Seat). seat_asked name i o p) here

  law_is : fill_for c s ≡ filled_if (is_trying c.course) (next_of s c)
  unfolding fill_for
  law_is = refl

  going_done : (x : Option SeatNext) (n : Option Next) → next_in_turn seat ≡ x → next_of s c ≡ n → ShowsNext number x n → MayFollow p.cache s seat c → c.is_closing ≡ false → Done (asked_if (is_trying_in seat.course) x) (filled_if (is_trying c.course) n)
  going_done None None here' there' same follow going = follows_none (is_trying_in seat.course) (is_trying c.course)
  going_done (Some x) None here' there' same follow going = absurd same
  going_done None (Some n) here' there' same follow going = absurd same
  going_done (Some x) (Some n) here' there' same follow going =
      let want : MayWant seat c = follow.wants x here' in
      subst (λ (b : Bool). Done (asked_if b (Some x)) (filled_if (is_trying c.course) (Some n)))
      (sym (trying_same seat.course c.course (course_shown number name seat c seen (record { going = going; given = want.given }))))
      (follows_one x n (is_trying c.course) there' (is_next number p.cache s name seat c x n seen going follow.there here' there' same) follow want going)

  by_closing : (b : Bool) → c.is_closing ≡ b → Done (asked_if (is_trying_in seat.course) (next_in_turn seat)) (filled_if (is_trying c.course) (next_of s c))
  by_closing true closing =
      subst (λ (o : Option SeatNext). Done (asked_if (is_trying_in seat.course) o) (filled_if (is_trying c.course) (next_of s c))) (sym (closed_in_turn seat (seen.closing ∙ closing)))
      (subst (λ (o : Option Next). Done (asked_if (is_trying_in seat.course) None) (filled_if (is_trying c.course) o)) (sym (closed_in_law s c closing)) (follows_none (is_trying_in seat.course) (is_trying c.course)))
  by_closing false going =
      let follow : MayFollow p.cache s seat c = may.follows going in
      going_done (next_in_turn seat) (next_of s c) refl refl (nexts number s name [] seat c seen (λ on. has_source number p.cache s name seat c shows.steps.shows.table.table seen going follow.there)) follow going

  pub is_done : Done (filled_for name i p) (fill_for c s)
  is_done = subst (λ (t : State). Done (filled_for name i p) t) (sym law_is) (subst (λ (q : Parts). Done q (filled_if (is_trying c.course) (next_of s c))) (sym program_is) (by_closing c.is_closing refl))

pub fills_one : OneFillsAsTheLaws
fills_one number name l peers p s i seat c shows may = (is_done number name l peers p s shows i seat c may).shows
