-- Replies that were said whole are over, and clients of whom nothing is left are closed, as the law says.
use Rattle.std.proofs.Common.{◌≡◌, refl, sym, subst, ap, ap₂, ◌∙◌, ℕ, Bool, true, false, not, ◌&&◌, ◌||◌, cond, nat_lt, length, map, List, [], ◌∷◌, Some, None, Option}
use Rattle.std.specs.List.{fold}
use Rattle.std.specs.Prelude.{slice_get, slice_set}
use Rattle.pp_cache.specs.Memory.{Memory}
use Rattle.pp_cache_law.proofs.Numbers.{true_false}
use Rattle.pp_client.specs.Clients.{said_by as side_said}
use Rattle.pp_client.specs.Replies.{has_begun as is_said_to, is_said}
use Rattle.pp_client.specs.Requests.{body_in}
use Rattle.pp_turns_law.proofs.Quit.{same_client}
use Rattle.pp_turns_law.proofs.Changed.{get_set}
use Rattle.pp_turns_law.proofs.Sitting.{is_at, on_seat_is, seat_again, shown_at}
use Rattle.pp_turns_law.specs.Decides.{IsAtPlace}
use Rattle.pp_desk.specs.Closings.{Sides, closed_client, with_parts}
use Rattle.pp_desk.specs.Replies.{EndsBy, EndsSaid, EndsSaidOf, EndsWhere, account_renewed, closes_in, is_finished_in, without_finished_at}
use Rattle.pp_flow_law.proofs.Entries.{none_some}
use Rattle.pp_flow_law.specs.Tables.{AreGiven}
use Rattle.pp_law.specs.Closing.{close_client, forsake, is_of}
use Rattle.pp_law.specs.Connections.{each_client, on_client}
use Rattle.pp_law.specs.Lists.{Bytes, is_some_with}
use Rattle.pp_law.specs.Replies.{close_finished, end_replies, end_reply, end_said, has_no_more, is_finished, is_said as is_over, next_request}
use Rattle.pp_law.specs.Requests.{has_request}
use Rattle.pp_law.specs.Stages.{is_undecided}
use Rattle.pp_law.specs.State.{State, Client, Reply, Stage, Undecided, Waiting, Passing, Answering}
use Rattle.pp_law.specs.Table.{swept}
use Rattle.pp_seats.specs.Accounts.{anew}
use Rattle.pp_seats.specs.Follows.{answer_in}
use Rattle.pp_seats.specs.Heads.{is_there_in}
use Rattle.pp_seats.specs.Courses.{has_begun}
use Rattle.pp_seats.specs.Seats.{IsRead, at_next_request, is_silent, is_undecided_in, passed_in}
use Rattle.pp_seats.specs.declared.account.Account.{Account}
use Rattle.pp_seats.specs.declared.account.Account.TheVariants.{Unkept, Due, Begun}
use Rattle.pp_seats.specs.declared.seat.Seat.{Seat}
use Rattle.pp_seats.specs.declared.seat.Stage.{Stage as SeatStage}
use Rattle.pp_seats_law.proofs.Answered.{next_requests}
use Rattle.pp_seats_law.proofs.Dues.{finished}
use Rattle.pp_seats_law.proofs.SaidWhole.{ends_same}
use Rattle.pp_seats_law.proofs.Stages.{undecided}
use Rattle.pp_seats_law.specs.Reads.{answered_on}
use Rattle.pp_seats_law.specs.Seats.{ShowsOpen, ShowsSeat}
use Rattle.pp_state.specs.Ends.{Parts, numbers_of, on_seat}
use Rattle.pp_state.specs.Hearing.{is_passed_whole, is_said as is_said_whole, is_said_in, with_end}
use Rattle.pp_text.specs.Bytes.{is_empty}
use Rattle.pp_turns_law.specs.Turns.{IsFollowing}
use Rattle.pp_endings_law.proofs.Closes.{closes, closes_beside, set_itself}
use Rattle.pp_endings_law.proofs.Law.{next_state, rest_then}
use Rattle.pp_endings_law.proofs.Left.{with_seats}
use Rattle.pp_endings_law.proofs.Next.{IsReadAs, goes_next}
use Rattle.pp_endings_law.proofs.Nothing.{over_end, over_same, unsaid_end}
use Rattle.pp_endings_law.proofs.Walk.{AllStep, IsGood, IsStepped, IsWalked, as_many, same_numbers, walks}
use Rattle.pp_endings_law.specs.Replies.{HasEnded, HasNext, IsOver, MayGoOn, RepliesEndAsTheLaws}

-- ---- in the law

law_none : (c : Client) (s : State) → (is_over c && not c.is_closing) ≡ false → end_said c s ≡ s
unfolding end_said
law_none c s isnt = ap (λ (b : Bool). elim b as (λ t. State) [ true ↦ end_reply c s | false ↦ s ]) isnt

law_closes : (c : Client) (s : State) → (is_over c && not c.is_closing) ≡ true → c.closes ≡ true → end_said c s ≡ close_client c.number false s
unfolding end_said end_reply
law_closes c s is last =
    ap (λ (b : Bool). elim b as (λ t. State) [ true ↦ end_reply c s | false ↦ s ]) is
    ∙ ap (λ (b : Bool). elim b as (λ t. State) [ true ↦ close_client c.number false s | false ↦ swept (forsake (is_of c.number) (on_client c.number next_request s)) ]) last

sweep_first : (n : ℕ) (s : State) → swept (forsake (is_of n) (on_client n next_request s)) ≡ next_state n s
unfolding forsake swept on_client
sweep_first n s = refl

law_next : (c : Client) (s : State) → (is_over c && not c.is_closing) ≡ true → c.closes ≡ false → end_said c s ≡ next_state c.number s
unfolding end_said end_reply
law_next c s is stays =
    ap (λ (b : Bool). elim b as (λ t. State) [ true ↦ end_reply c s | false ↦ s ]) is
    ∙ ap (λ (b : Bool). elim b as (λ t. State) [ true ↦ close_client c.number false s | false ↦ swept (forsake (is_of c.number) (on_client c.number next_request s)) ]) stays
    ∙ sweep_first c.number s

law_stays : (c : Client) (s : State) → is_finished c ≡ false → close_finished c s ≡ s
unfolding close_finished
law_stays c s isnt = ap (λ (b : Bool). elim b as (λ t. State) [ true ↦ close_client c.number false s | false ↦ s ]) isnt

law_finished : (c : Client) (s : State) → is_finished c ≡ true → close_finished c s ≡ close_client c.number false s
unfolding close_finished
law_finished c s is = ap (λ (b : Bool). elim b as (λ t. State) [ true ↦ close_client c.number false s | false ↦ s ]) is

-- ---- who is silent

four : (a b c d : Bool) → (a && b && c && d) ≡ true → (a ≡ true) × (b ≡ true) × (c ≡ true) × (d ≡ true)
four true true true true is = (refl, refl, refl, refl)
four true true true false is = absurd (cc is)
four true true false d is = absurd (cc is)
four true false c d is = absurd (cc is)
four false b c d is = absurd (cc is)

not_so : (b : Bool) → not b ≡ true → b ≡ false
not_so false is = refl
not_so true is = absurd (cc is)

undecided_is : (t : Stage) → is_undecided t ≡ true → t ≡ Undecided
undecided_is Undecided is = refl
undecided_is Waiting is = absurd (cc is)
undecided_is Passing is = absurd (cc is)
undecided_is (Answering r) is = absurd (cc is)

and_false : (b : Bool) → (b && false) ≡ false
and_false true = refl
and_false false = refl

abbrev reply_in : Stage → Option Reply
reply_in t = elim t as (λ b. Option Reply) [ Undecided ↦ None | Waiting ↦ None | Passing ↦ None | Answering r ↦ Some r ]

not_over : (c : Client) → c.stage ≡ Undecided → (is_over c && not c.is_closing) ≡ false
not_over c is =
    ap (λ (t : Stage). (is_empty c.interim_left && is_some_with (λ r. r.has_begun && is_empty r.head_left && has_no_more c r) (reply_in t)) && not c.is_closing) is
    ∙ ap (λ (b : Bool). b && not c.is_closing) (and_false (is_empty c.interim_left))

module _ (number : ℕ → ℕ) (name : Bytes) where
  said_silent : (s : State) (seat : Seat) (c : Client) → ShowsSeat number name [] seat c → is_silent seat ≡ true → end_said c s ≡ s
  said_silent s seat c shows silent =
      let parts : (is_undecided_in seat.stage ≡ true) × (not (is_there_in seat.front) ≡ true) × (not seat.has_hung_up ≡ true) × (not seat.is_closing ≡ true)
      = four (is_undecided_in seat.stage) (not (is_there_in seat.front)) (not seat.has_hung_up) (not seat.is_closing) silent in
      let live : ShowsOpen number name [] seat c = shows.going (sym shows.closing ∙ not_so seat.is_closing parts.3) in
      law_none c s (not_over c (undecided_is c.stage (sym (undecided number name [] seat c live) ∙ parts.0)))

  finished_silent : (s : State) (seat : Seat) (c : Client) → ShowsSeat number name [] seat c → is_silent seat ≡ true → close_finished c s ≡ s
  finished_silent s seat c shows silent =
      let parts : (is_undecided_in seat.stage ≡ true) × (not (is_there_in seat.front) ≡ true) × (not seat.has_hung_up ≡ true) × (not seat.is_closing ≡ true)
      = four (is_undecided_in seat.stage) (not (is_there_in seat.front)) (not seat.has_hung_up) (not seat.is_closing) silent in
      law_stays c s
      (sym (finished number name [] seat c shows)
      ∙ ap (λ (b : Bool). b && not seat.is_closing && (not (is_there_in seat.front) || nat_lt (length (body_in seat.client.heard)) seat.body_left)) (not_so seat.has_hung_up parts.2))

  shown : (i : ℕ) (x : Sides) (s : State) (seat : Seat) (c : Client) → IsGood number name x s → IsAtPlace i x.parts s seat c → ShowsSeat number name [] seat c
  shown i x s seat c good place = shown_at number name [] x.parts.seats s.clients seat.client.id i seat c good.shows.steps.shows.clients (is_at i x.parts.seats seat good.shows.steps.order place.here) place.here place.there

  stays : (i : ℕ) (x : Sides) (s : State) → IsGood number name x s → IsStepped number name i x x s s
  stays i x s good = record { good = good; numbers = refl; others = λ j apart. refl; rest = refl }

  -- ---- a client of whom nothing is left

  finished_step : (i : ℕ) (x z : Sides) (s : State) (seat : Seat) (c : Client) → IsGood number name x s → IsAtPlace i x.parts s seat c → z ≡ without_finished_at x i → IsStepped number name i x z s (close_finished c s)
  finished_step i x z s seat c good place is =
      subst (λ (w : Sides). IsStepped number name i x w s (close_finished c s)) (sym (is ∙ ap (λ (o : Option Seat). finished_if (is_finished_in o)) place.here ∙ ap finished_if (finished number name [] seat c (shown i x s seat c good place))))
      (by (is_finished c) refl)
    where
      finished_if : Bool → Sides
      finished_if b = cond b (closed_client i x) x

      by : (b : Bool) → is_finished c ≡ b → IsStepped number name i x (finished_if b) s (close_finished c s)
      by true over = subst (λ (t : State). IsStepped number name i x (closed_client i x) s t) (sym (law_finished c s over)) (closes number name i false x s seat c good place (open_by c.is_closing refl over))
        where
          open_by : (b : Bool) → c.is_closing ≡ b → is_finished c ≡ true → c.is_closing ≡ false
          open_by false going over = going
          open_by true closing over =
              absurd
              (true_false
              (sym over
              ∙ ap (λ (b : Bool). c.has_hung_up && not b && (not (has_request c.front) || nat_lt (length c.heard) c.body_left)) closing
              ∙ ap (λ (b : Bool). b && (not (has_request c.front) || nat_lt (length c.heard) c.body_left)) (and_false c.has_hung_up)))
      by false more = subst (λ (t : State). IsStepped number name i x x s t) (sym (law_stays c s more)) (stays i x s good)

  -- ---- a reply that is over

  abbrev ended : Seat → Seat
  ended seat = account_renewed (answered_on seat)

  accounts_same : (a : Account) → anew (anew a) ≡ anew a
  accounts_same Unkept = refl
  accounts_same (Due due) = refl
  accounts_same (Begun told) = refl

  renewed_same : (seat : Seat) → at_next_request (ended seat) ≡ at_next_request (answered_on seat)
  renewed_same seat = ap (λ (a : Account). let x : Seat = record (at_next_request (answered_on seat)) { account = a } in x) (accounts_same seat.account)

  undecided_follows : (y : Seat) (stage : SeatStage) → y.stage ≡ stage → answer_in stage ≡ None → (m : Memory) → IsFollowing m y
  undecided_follows y stage is none m a id answer own = absurd (none_some a (sym none ∙ ap answer_in (sym is) ∙ answer))

  module _ (i : ℕ) (x : Sides) (s : State) (seat : Seat) (c : Client) (good : IsGood number name x s) (place : IsAtPlace i x.parts s seat c) (going : c.is_closing ≡ false) (next : MayGoOn seat c) where
    live : ShowsOpen number name [] seat c
    live = (shown i x s seat c good place).going going

    its_number : c.number ≡ seat.client.id
    its_number = same_client seat.client.id s c place.there

    reads : (has : HasNext seat c) (y : Seat) → IsRead (at_next_request (ended seat)) y → IsReadAs number name i x s seat c good place going (ended seat) (record { number = refl; source = refl }) y
    reads has y read =
        let as_law : IsRead (at_next_request (answered_on seat)) y = subst (λ (a : Seat). IsRead a y) (renewed_same seat) read in record {
          numbered = ap (λ (a : Seat). a.client.id) read.1;
          shown = record {
            number = ap (λ (a : Seat). a.client.id) read.1 ∙ sym its_number;
            closing = ap (λ (a : Seat). a.is_closing) read.1 ∙ (shown i x s seat c good place).closing;
            going = λ opens. next_requests number name [] seat y c has.request live has.front has.known has.counted as_law;
          };
          unsaid = ap (λ (a : Seat). is_said a.client.reply) read.1;
          rests = undecided_follows y (at_next_request (ended seat)).stage (ap (λ (a : Seat). a.stage) read.1) refl;
        }

    -- behind it the client is closed, or goes on
    pub ends_by : (b : Bool) (z : Sides) → c.closes ≡ b → EndsBy b i (with_seats (slice_set x.parts.seats i (ended seat)) x) z → (is_over c && not c.is_closing) ≡ true → IsStepped number name i x z s (end_said c s)
    ends_by true z last is over =
        subst (λ (t : State). IsStepped number name i x z s t) (sym (law_closes c s over last))
        (subst (λ (w : Sides). IsStepped number name i x w s (close_client c.number false s)) (sym is) (closes_beside number name i false x s seat c good place going (ended seat) (record { number = refl; source = refl })))
    ends_by false z on is over =
        subst (λ (t : State). IsStepped number name i x z s t) (sym (law_next c s over on ∙ ap (λ (m : ℕ). next_state m s) its_number))
        (goes_next number name i x s seat c good place going (ended seat) (record { number = refl; source = refl }) z is (reads (next on)))

  said_step : (i : ℕ) (x z : Sides) (s : State) (seat : Seat) (c : Client) → IsGood number name x s → IsAtPlace i x.parts s seat c → EndsSaidOf i x z → IsStepped number name i x z s (end_said c s)
  said_step i x z s seat c good place is =
      by (is_said_whole seat) refl (subst (λ (w : Sides). EndsWhere (is_said_whole seat) i w z) on_it (subst (λ (o : Option Seat). EndsWhere (is_said_in o) i (with_parts (on_seat i with_end) x) z) place.here is))
    where
      seen : ShowsSeat number name [] seat c
      seen = shown i x s seat c good place

      same : is_said_whole seat ≡ (is_over c && not c.is_closing)
      same = over_same number name seat c seen (λ going over. (good.ends i seat c place going over).passed)

      on_it : with_parts (on_seat i with_end) x ≡ with_seats (slice_set x.parts.seats i (with_end seat)) x
      on_it = ap (λ (p : Parts). let w : Sides = record x { parts = p } in w) (on_seat_is i with_end x.parts seat place.here)

      both : (a b : Bool) → (a && not b) ≡ true → (a ≡ true) × (b ≡ false)
      both true false over = (refl, refl)
      both true true over = absurd (cc over)
      both false b over = absurd (cc over)

      -- it is over
      over_at : is_said_whole seat ≡ true → (w : Sides) → w ≡ with_seats (slice_set x.parts.seats i (with_end seat)) x → EndsWhere true i w z → IsStepped number name i x z s (end_said c s)
      over_at said w is_w ends =
          let over : (is_over c && not c.is_closing) ≡ true = sym same ∙ said in
          let parts : (is_over c ≡ true) × (c.is_closing ≡ false) = both (is_over c) c.is_closing over in
          let all : is_said seat.client.reply ≡ true = ends_same number name [] seat c (seen.going parts.1) ∙ parts.0 in
          let its : IsOver seat c = good.ends i seat c place parts.1 all in
          let told : w ≡ with_seats (slice_set x.parts.seats i (answered_on seat)) x = is_w ∙ ap (λ (a : Seat). with_seats (slice_set x.parts.seats i a) x) (over_end seat its.passed all) in
          let last : closes_in (slice_get w.parts.seats i) ≡ c.closes =
          ap (λ (v : Sides). closes_in (slice_get v.parts.seats i)) told ∙ ap closes_in (get_set i x.parts.seats seat (answered_on seat) place.here) ∙ (seen.going parts.1).closes in
          let anew_at : with_parts (on_seat i account_renewed) w ≡ with_seats (slice_set x.parts.seats i (ended seat)) x =
          ap (λ (v : Sides). with_parts (on_seat i account_renewed) v) told ∙ ap (λ (p : Parts). let v : Sides = record x { parts = p } in v) (seat_again i account_renewed x.parts seat (answered_on seat) place.here) in
          ends_by i x s seat c good place parts.1 its.next c.closes z refl (subst (λ (v : Sides). EndsBy c.closes i v z) anew_at (subst (λ (b : Bool). EndsBy b i (with_parts (on_seat i account_renewed) w) z) last ends)) over

      -- it is not
      nothing : is_said_whole seat ≡ false → with_end seat ≡ seat
      nothing unsaid = at c.is_closing refl
        where
          said_at : c.is_closing ≡ false → (b : Bool) → is_said seat.client.reply ≡ b → with_end seat ≡ seat
          said_at going true all =
              absurd
              (true_false
              (sym (same ∙ ap₂ (λ (a b : Bool). a && not b) (sym (ends_same number name [] seat c (seen.going going)) ∙ all) going) ∙ unsaid))
          said_at going false none = unsaid_end seat none

          at : (b : Bool) → c.is_closing ≡ b → with_end seat ≡ seat
          at true closing =
              ap (λ (b : Bool). end_as (may_by b)) (seen.closing ∙ closing)
            where
              may_by : Bool → Bool
              may_by b = (not b && has_begun seat) && is_passed_whole (passed_in seat.brought) && is_said_to seat.client.reply.stage

              end_as : Bool → Seat
              end_as b = elim b [ true ↦ record seat { client = side_said 0 seat.client } | false ↦ seat ]
          at false going = said_at going (is_said seat.client.reply) refl

      by : (b : Bool) → is_said_whole seat ≡ b → EndsWhere b i (with_seats (slice_set x.parts.seats i (with_end seat)) x) z → IsStepped number name i x z s (end_said c s)
      by true said ends = over_at said (with_seats (slice_set x.parts.seats i (with_end seat)) x) refl ends
      by false unsaid ends =
          subst (λ (t : State). IsStepped number name i x z s t) (sym (law_none c s (sym same ∙ unsaid)))
          (subst (λ (w : Sides). IsStepped number name i x w s s)
          (sym (ends ∙ ap (λ (a : Seat). with_seats (slice_set x.parts.seats i a) x) (nothing unsaid) ∙ set_itself i x seat place.here))
          (stays i x s good))

-- ---- one behind the other

said_all : (is : List ℕ) (x y : Sides) → EndsSaid is x y → AllStep EndsSaidOf is x y
said_all [] x y ends = ends
said_all (i ∷ is) x y ends = (ends.0, ends.1, said_all is ends.0 y ends.2)

finished_all : (is : List ℕ) (x : Sides) → AllStep (λ i v w. w ≡ without_finished_at v i) is x (fold without_finished_at x is)
finished_all [] x = refl
finished_all (i ∷ is) x = (without_finished_at x i, refl, finished_all is (without_finished_at x i))

law_ends : (s : State) (ns : List ℕ) → ns ≡ map (λ (c : Client). c.number) s.clients → end_replies s ≡ each_client close_finished ns (each_client end_said ns s)
unfolding end_replies
law_ends s ns same = ap (λ (ms : List ℕ). each_client close_finished ms (each_client end_said ms s)) (sym same)

pub all_end : RepliesEndAsTheLaws
all_end number name x s shows awake y looked may all is =
    let numbers : List ℕ = numbers_of x.parts.seats in
    let z : Sides = is.0 in
    let first : IsWalked number name awake x z s (each_client end_said numbers s) =
    walks number name EndsSaidOf end_said (said_step number name) (said_silent number name) numbers awake x z s refl (record { shows = shows; may = may; ends = all }) looked.order looked.others (said_all awake x z is.1) in
    let second : IsWalked number name awake z (fold without_finished_at z awake) (each_client end_said numbers s) (each_client close_finished numbers (each_client end_said numbers s)) =
    walks number name (λ i v w. w ≡ without_finished_at v i) close_finished (finished_step number name) (finished_silent number name) numbers awake z (fold without_finished_at z awake) (each_client end_said numbers s) (sym first.numbers) first.good
    (subst (λ (m : ℕ). AreGiven 0 m awake) (sym (as_many x.parts.seats) ∙ ap (λ (ns : List ℕ). length ns) (sym first.numbers) ∙ as_many z.parts.seats) looked.order)
    (λ j seat here none. looked.others j seat (sym (first.others j none) ∙ here) none)
    (finished_all awake z) in
    subst (λ (w : Sides). HasEnded number name w s (end_replies s)) (sym is.2)
    (subst (λ (t : State). HasEnded number name (fold without_finished_at z awake) s t)
    (sym (law_ends s numbers (sym (same_numbers number name x.parts.seats s.clients shows.steps.shows.clients))))
    (record {
      shows = second.good.shows;
      may = second.good.may;
      rest = rest_then s (each_client end_said numbers s) (each_client close_finished numbers (each_client end_said numbers s)) first.rest second.rest;
    }))
