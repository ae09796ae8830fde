-- The last bytes of a reply are said to one client: behind them it is closed, or its next request stands, as in the law.
--
-- The program ends the reply where its last bytes are told, and the law behind them. So both start here from the client as it was before them:
-- of what they change the next request reads nothing, and of one that is closing nothing is shown.
use Rattle.std.proofs.Common.{◌≡◌, ◌≤◌, refl, sym, subst, ap, ap₂, ◌∙◌, ℕ, ◌-◌, Bool, true, false, not, ◌&&◌, find, List, [], Some}
use Rattle.std.specs.Prelude.{count_by, slice_get, slice_set}
use Rattle.pp_cache_law.proofs.Numbers.{some_is}
use Rattle.pp_client.specs.Clients.{Client as ClientSide}
use Rattle.pp_client.specs.Replies.{ended as ended_reply, has_begun as is_said_to, is_said, left_next, said}
use Rattle.pp_client.specs.Requests.{answered}
use Rattle.pp_clients_obey.proofs.Walks.{end_one, found_in}
use Rattle.pp_turns_law.proofs.Leaving.{leaves_client}
use Rattle.pp_turns_law.proofs.Own.{its_number as exchange_number}
use Rattle.pp_turns_law.proofs.Quit.{quit, quit_number, same_client}
use Rattle.pp_turns_law.specs.Clients.{MayBeClosed}
use Rattle.pp_turns_law.specs.Sides.{ShowsSides}
use Rattle.pp_turns_law.proofs.Changed.{get_set, set_set}
use Rattle.pp_turns_law.proofs.Sitting.{is_at, on_seat_is, seat_again, shown_at}
use Rattle.pp_turns_law.specs.Decides.{IsAtPlace}
use Rattle.pp_desk.specs.Closings.{Sides, closed_client, with_parts}
use Rattle.pp_desk.specs.Replies.{EndsBy, EndsSaidOf, EndsWhere, account_renewed, closes_in}
use Rattle.pp_endings_law.proofs.Closes.{follows_there, set_itself}
use Rattle.pp_endings_law.proofs.Kept.{KeepsNumber, IsOne, ends_still, leaves_still, other_here}
use Rattle.pp_endings_law.proofs.Law.{Steps, close_steps, next_state}
use Rattle.pp_endings_law.proofs.Left.{IsBeside, IsShut, is_shut, shows_beside, shut_beside, with_seats}
use Rattle.pp_endings_law.proofs.Next.{IsReadAs, goes_next}
use Rattle.pp_endings_law.proofs.Nothing.{unsaid_end}
use Rattle.pp_endings_law.proofs.Walk.{IsGood, IsStepped}
use Rattle.pp_endings_law.specs.Replies.{HasNext, MayGoOn}
use Rattle.pp_events_law.proofs.Heard.{client_may}
use Rattle.pp_events_law.proofs.Kept.{next_said, said_follows, said_through}
use Rattle.pp_events_law.proofs.LastSaid.{closed_behind, closed_steps, ends_as, next_same, renewed_same, said_number, sweep_first, was_begun}
use Rattle.pp_flow_law.proofs.Entries.{none_some}
use Rattle.pp_flow_law.specs.Tables.{none_leaves}
use Rattle.pp_law.specs.Closing.{close_client, forsake, is_of}
use Rattle.pp_law.specs.Connections.{is_client, on_client}
use Rattle.pp_law.specs.Lists.{Bytes, change}
use Rattle.pp_law.specs.Replies.{end_said, is_said as is_over, next_request, said_by}
use Rattle.pp_law.specs.State.{State, Client}
use Rattle.pp_law.specs.Table.{swept}
use Rattle.pp_seats.specs.Accounts.{said as said_account}
use Rattle.pp_seats.specs.Follows.{answer_in}
use Rattle.pp_seats.specs.Seats.{IsRead, at_next_request, told_by}
use Rattle.pp_seats.specs.declared.seat.Seat.{Seat}
use Rattle.pp_seats_law.proofs.SaidOn.{IsToldBy, open_told, told_with}
use Rattle.pp_seats_law.proofs.SaidWhole.{endings, ends_same}
use Rattle.pp_seats_law.specs.Clients.{IsAt}
use Rattle.pp_seats_law.specs.Saying.{IsNext}
use Rattle.pp_seats_law.specs.Seats.{ShowsOpen, ShowsSeat}
use Rattle.pp_state.specs.Ends.{AreInOrder, Parts, numbers_of, on_seat, source_of}
use Rattle.pp_state.specs.Hearing.{is_said_in, is_under_way, with_end}
use Rattle.pp_states_law.proofs.Changed.{changes}
use Rattle.pp_states_law.proofs.Places.{numbers_set}
use Rattle.pp_states_law.specs.Steps.{ShowsSteps, whole}
use Rattle.pp_turns_law.specs.Turns.{IsFollowing}

-- behind the step of that client; what is left of it in the law is not over
pub record IsLast (number : ℕ → ℕ) (name : Bytes) (i k : ℕ) (x z : Sides) (s : State) (n : ℕ) (c : Client) (t : State) : Type 0 where
  pub stepped : IsStepped number name i x z s t
  pub ends : end_said (said_by k c) (on_client n (said_by k) s) ≡ t
  pub changed : Client → Client
  pub keeps : KeepsNumber changed
  pub clients : t.clients ≡ change (is_client n) changed s.clients
  pub silent : (is_over (changed c) && not (changed c).is_closing) ≡ false

module _ (number : ℕ → ℕ) (name : Bytes) (i k : ℕ) (x : Sides) (s : State) (seat : Seat) (c : Client) (good : IsGood number name x s) (place : IsAtPlace i x.parts s seat c) (going : c.is_closing ≡ false) (few : k ≤ left_next seat.client.reply)
    (all : is_said (said k seat.client.reply) ≡ true) (next : MayGoOn seat c) where
  abbrev n : ℕ
  n = seat.client.id

  abbrev m : State
  m = on_client n (said_by k) s

  abbrev told : Seat
  told = told_by k seat

  abbrev r : Seat
  r = account_renewed told

  at : IsAt n i x.parts.seats
  at = is_at i x.parts.seats seat good.shows.steps.order place.here

  shows : ShowsSeat number name [] seat c
  shows = shown_at number name [] x.parts.seats s.clients n i seat c good.shows.steps.shows.clients at place.here place.there

  its_number : c.number ≡ n
  its_number = same_client n s c place.there

  said_same : (said_by k c).number ≡ n
  said_same = said_number k c ∙ its_number

  is_told : IsToldBy number k name [] seat c (said_account k seat.account) (said k seat.client.reply)
  is_told = open_told number k name [] seat c (said_account k seat.account) (shows.going going) few

  told_client : told.client ≡ record seat.client { heard = answered seat.client.heard; reply = ended_reply (said k seat.client.reply) }
  told_client = ap (λ (b : Bool). elim b as (λ t. ClientSide) [ true ↦ record seat.client { heard = answered seat.client.heard; reply = ended_reply (said k seat.client.reply) } | false ↦ record seat.client { reply = said k seat.client.reply } ]) all

  told_number : told.client.id ≡ n
  told_number = ap (λ (a : ClientSide). a.id) told_client

  unsaid : is_said told.client.reply ≡ false
  unsaid = ap (λ (a : ClientSide). is_said a.reply) told_client

  -- in the law it is over with them
  over : (is_over (said_by k c) && not (said_by k c).is_closing) ≡ true
  over = ap₂ (λ (a b : Bool). a && not b) (sym (ends_same number name [] (told_with (said k seat.client.reply) (seat.before_body - k) (said_account k seat.account) seat) (said_by k c) is_told.shows) ∙ all) (is_told.closing ∙ going)

  closes_same : (said_by k c).closes ≡ c.closes
  closes_same = sym is_told.shows.closes ∙ (shows.going going).closes

  law_ends : (b : Bool) → c.closes ≡ b → end_said (said_by k c) m ≡ elim b as (λ t. State) [ true ↦ close_client n false m | false ↦ next_state n s ]
  law_ends true last = end_one (said_by k c) m over ∙ ends_as (said_by k c) m true (closes_same ∙ last) ∙ ap (λ (j : ℕ). close_client j false m) said_same
  law_ends false on =
      end_one (said_by k c) m over ∙ ends_as (said_by k c) m false (closes_same ∙ on) ∙ ap (λ (j : ℕ). swept (forsake (is_of j) (on_client j next_request m))) said_same ∙ sweep_first n m ∙ next_same k n s

  -- ---- in the program too, where they are told

  abbrev y : Sides
  y = with_seats (slice_set x.parts.seats i told) x

  here_told : slice_get y.parts.seats i ≡ Some told
  here_told = get_set i x.parts.seats seat told place.here

  under_way : is_under_way told ≡ true
  under_way = ap₂ (λ (a b : Bool). not a && b) (shows.closing ∙ going) (was_begun number name k seat c (shows.going going) few all)

  said_here : is_said_in (slice_get y.parts.seats i) ≡ true
  said_here =
      ap is_said_in here_told
      ∙ ap₂ (λ (a : Bool) (o : Seat). a && not (is_said_to o.client.reply.stage)) under_way (unsaid_end told unsaid)
      ∙ ap (λ (a : ClientSide). not (is_said_to a.reply.stage)) told_client

  on_told : with_parts (on_seat i with_end) y ≡ y
  on_told =
      ap (λ (p : Parts). let w : Sides = record y { parts = p } in w) (on_seat_is i with_end y.parts told here_told)
      ∙ ap (λ (a : Seat). with_seats (slice_set y.parts.seats i a) y) (unsaid_end told unsaid)
      ∙ set_itself i y told here_told

  on_renewed : with_parts (on_seat i account_renewed) y ≡ with_seats (slice_set x.parts.seats i r) x
  on_renewed = ap (λ (p : Parts). let w : Sides = record x { parts = p } in w) (seat_again i account_renewed x.parts seat told place.here)

  ends_so : (z : Sides) → EndsSaidOf i y z → EndsBy c.closes i (with_seats (slice_set x.parts.seats i r) x) z
  ends_so z ends =
      let now : EndsWhere true i y z = subst (λ (w : Sides). EndsWhere true i w z) on_told (subst (λ (b : Bool). EndsWhere b i (with_parts (on_seat i with_end) y) z) said_here ends) in
      subst (λ (w : Sides). EndsBy c.closes i w z) on_renewed
      (subst (λ (b : Bool). EndsBy b i (with_parts (on_seat i account_renewed) y) z) (ap closes_in here_told ∙ (shows.going going).closes) now)

  beside : IsBeside seat r
  beside = record { number = told_number; source = refl }

  -- ---- the next request stands

  reads : HasNext seat c → (a : Seat) → IsRead (at_next_request r) a → IsReadAs number name i x s seat c good place going r beside a
  reads has a read =
      let it : IsNext number name [] a (said_by k c) =
      endings number k name [] seat a c has.request shows going few all has.front has.known has.counted (subst (λ (o : Seat). IsRead o a) (renewed_same told) read) in record {
        numbered = ap (λ (o : Seat). o.client.id) read.1 ∙ told_number;
        shown = record {
          number = ap (λ (o : Seat). o.client.id) read.1 ∙ told_number ∙ sym its_number;
          closing = ap (λ (o : Seat). o.is_closing) read.1 ∙ shows.closing;
          going = λ opens. subst (λ (d : Client). ShowsOpen number name [] a d) (next_said k c) it.next;
        };
        unsaid = ap (λ (o : Seat). is_said o.client.reply) read.1 ∙ unsaid;
        rests = λ memory answer id its own. absurd (none_some answer (sym (ap (λ (o : Seat). answer_in o.stage) read.1) ∙ its));
      }

  goes_on : (z : Sides) → c.closes ≡ false → EndsBy false i (with_seats (slice_set x.parts.seats i r) x) z → IsLast number name i k x z s n c (next_state n s)
  unfolding forsake swept on_client
  goes_on z on ends = record {
    stepped = goes_next number name i x s seat c good place going r beside z ends (reads (next on));
    ends = law_ends false on;
    changed = next_request;
    keeps = λ b. refl;
    clients = refl;
    silent = refl;
  }

  -- ---- or it is closed: it is shown once more, with its reply said

  abbrev whole_said : Seat
  whole_said = told_with (said k seat.client.reply) (seat.before_body - k) (said_account k seat.account) seat

  abbrev x1 : Sides
  x1 = with_seats (slice_set x.parts.seats i whole_said) x

  abbrev t1 : State
  t1 = close_client n false m

  here_said : slice_get x1.parts.seats i ≡ Some whole_said
  here_said = get_set i x.parts.seats seat whole_said place.here

  said_shown : (other : Seat) (d : Client) → slice_get x.parts.seats i ≡ Some other → ShowsSeat number name [] other d → ShowsSeat number name [] whole_said (said_by k d)
  said_shown other d here seen =
      let its : ShowsSeat number name [] seat d = subst (λ (o : Seat). ShowsSeat number name [] o d) (some_is other seat (sym here ∙ place.here)) seen in
      let on : d.is_closing ≡ false = sym its.closing ∙ shows.closing ∙ going in
      let tells : IsToldBy number k name [] seat d (said_account k seat.account) (said k seat.client.reply) = open_told number k name [] seat d (said_account k seat.account) (its.going on) few in
      record { number = its.number ∙ sym tells.number; closing = its.closing ∙ sym tells.closing; going = λ still. tells.shows }

  said_steps : ShowsSteps number name none_leaves x1.peers x1.parts m
  unfolding on_client
  said_steps = record {
    shows = changes number name [] none_leaves (whole x.parts x.peers) s good.shows.steps.shows n i whole_said (said_by k) at (λ id d. said_follows k id d) (λ other d here there seen. said_shown other d here seen);
    order = subst (λ (ns : List ℕ). AreInOrder ns) (sym (numbers_set i x.parts.seats seat whole_said place.here refl)) good.shows.steps.order;
    told = good.shows.steps.told;
    refused = good.shows.steps.refused;
  }

  said_sides : ShowsSides number name x1 m
  said_sides = record { steps = said_steps; may = client_may n (said_by k) (said_through k) s good.shows.may }

  may_closed : MayBeClosed i x1 m whole_said (said_by k c)
  unfolding on_client
  may_closed = record {
    place = record { here = here_said; there = found_in (said_by k) (said_number k) n s.clients c place.there };
    going = is_told.closing ∙ going;
    there = follows_there i x1 whole_said here_said (good.may.follow i seat c place going);
    once = good.may.once (said_by k c).number;
    rests = λ e its none. good.may.rests e.number e (exchange_number number none_leaves x.parts.flow s good.shows.steps.shows.exchanges (said_by k c).number e its) none;
  }

  closed_sides : ShowsSides number name (closed_client i x1) t1
  closed_sides = subst (λ (j : ℕ). ShowsSides number name (closed_client i x1) (close_client j false m)) said_same (leaves_client number name x1 m said_sides i false whole_said (said_by k c) may_closed)

  once_said : count_by (is_of n) m.exchanges ≤ 1
  unfolding on_client
  once_said = good.may.once n

  steps : Steps n (closed_behind k) s t1
  steps = closed_steps k n s t1 (close_steps number none_leaves x1.parts.flow n false m said_steps.shows.exchanges once_said)

  abbrev shut : Seat
  shut = quit (source_of seat) r

  abbrev z1 : Sides
  z1 = with_seats (slice_set x1.parts.seats i shut) (closed_client i x1)

  its_shut : IsShut i x1 whole_said (closed_client i x1)
  its_shut = is_shut i x1 whole_said here_said

  beside_said : IsBeside whole_said r
  beside_said = record { number = told_number; source = refl }

  shut_number : shut.client.id ≡ n
  shut_number = quit_number (source_of seat) r ∙ told_number

  now : ShowsSides number name z1 t1
  now = shows_beside number name i x1 (closed_client i x1) t1 whole_said r here_said beside_said its_shut closed_sides

  one : IsOne i seat shut x z1
  one = record { here = place.here; seats = set_set i x.parts.seats whole_said shut; number = shut_number; cache = its_shut.cache }

  behind_keeps : KeepsNumber (closed_behind k)
  behind_keeps b = said_number k b

  fresh : (d : Client) → find (is_client n) t1.clients ≡ Some d → d.is_closing ≡ false → (IsFollowing z1.parts.cache shut) × (is_said shut.client.reply ≡ false)
  fresh d there opens =
      let same : closed_behind k c ≡ d = some_is (closed_behind k c) d (sym (ap (λ (cs : List Client). find (is_client n) cs) steps.clients ∙ found_in (closed_behind k) behind_keeps n s.clients c place.there) ∙ there) in
      absurd (let both : true ≡ false = ap (λ (b : Client). b.is_closing) same ∙ opens in cc both)

  closed_is : closed_client i (with_seats (slice_set x.parts.seats i r) x) ≡ z1
  closed_is = sym (ap (λ (seats : List Seat). closed_client i (with_seats seats x)) (set_set i x.parts.seats whole_said r)) ∙ shut_beside i x1 whole_said r here_said beside_said

  closed_stepped : IsStepped number name i x z1 s t1
  closed_stepped = record {
    good = record {
      shows = now;
      may = leaves_still number name i seat shut x z1 s t1 (closed_behind k) behind_keeps good.shows now one steps fresh good.may;
      ends = ends_still number name i seat shut x z1 s t1 (closed_behind k) behind_keeps good.shows now one steps fresh good.ends;
    };
    numbers = ap (λ (seats : List Seat). numbers_of seats) (set_set i x.parts.seats whole_said shut) ∙ numbers_set i x.parts.seats seat shut place.here shut_number;
    others = other_here number name i seat shut x z1 s t1 (closed_behind k) behind_keeps good.shows now one steps;
    rest = steps.rest;
  }

  and_false : (b : Bool) → (b && false) ≡ false
  and_false true = refl
  and_false false = refl

  is_closed : (z : Sides) → c.closes ≡ true → z ≡ closed_client i (with_seats (slice_set x.parts.seats i r) x) → IsLast number name i k x z s n c t1
  is_closed z last is = record {
    stepped = subst (λ (w : Sides). IsStepped number name i x w s t1) (sym (is ∙ closed_is)) closed_stepped;
    ends = law_ends true last;
    changed = closed_behind k;
    keeps = behind_keeps;
    clients = steps.clients;
    silent = and_false (is_over (closed_behind k c));
  }

  -- ---- either

  pub record HasLast (z : Sides) : Type 0 where
    pub then : State
    pub last : IsLast number name i k x z s n c then

  pub last_bytes : (z : Sides) → EndsSaidOf i y z → HasLast z
  last_bytes z ends = by c.closes refl (ends_so z ends)
    where
      by : (b : Bool) → c.closes ≡ b → EndsBy b i (with_seats (slice_set x.parts.seats i r) x) z → HasLast z
      by true last is = record { then = t1; last = is_closed z last is }
      by false on is = record { then = next_state n s; last = goes_on z on is }
