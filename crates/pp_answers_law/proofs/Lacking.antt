-- Whether the client of an exchange still lacks its next byte, as the law has it.
use Rattle.std.proofs.Common.{◌≡◌, refl, sym, ap, ap₂, ◌∙◌, ℕ, Bool, true, false, not, ◌==◌, ◌&&◌, nat_lt, List, [], ◌++◌, Some, None, Option, arith}
use Rattle.std.proofs.lemmas.Bool.Decides.{nat_tests}
use Rattle.std.proofs.lemmas.Slice.Eq.{bytes_eq-Decides}
use Rattle.std.specs.List.{list_any}
use Rattle.std.specs.Prelude.{option_and_then, option_map, slice_get}
use Rattle.pp_cache_law.proofs.Alike.{instances_of, rows_of}
use Rattle.pp_cache_law.proofs.Numbers.{some_is, true_false}
use Rattle.pp_cache_law.specs.Pairs.{AreBoth}
use Rattle.pp_cache_law.specs.Reads.{IsFound}
use Rattle.pp_cache_law.specs.Tables.{ShowsInstance, ShowsTable}
use Rattle.pp_client.specs.Replies.{Reply as Said}
use Rattle.pp_client.specs.Requests.{Front as Heading, Nothing, Begun as More, Asked as IsAsked, Refused, current_of}
use Rattle.pp_flow.specs.Changes.{entry_of}
use Rattle.pp_flow.specs.declared.entry.Entry.{Entry}
use Rattle.pp_flow_law.proofs.Entries.{none_some}
use Rattle.pp_flow_law.proofs.Told.{found_alone}
use Rattle.pp_flow_law.specs.Tables.{Leaving}
use Rattle.pp_law.specs.Connections.{is_for}
use Rattle.pp_law.specs.Lists.{Bytes, is_some_with, is_this}
use Rattle.pp_law.specs.OwnHeads.{key_of as law_key, lacks_by as law_lacks_by, lacks_next as law_lacks_next}
use Rattle.pp_law.specs.Requests.{Front, IsRequest, NoHead, NoHeadYet, Parsed, front_of, parsed_in, parsed_of}
use Rattle.pp_law.specs.Stages.{is_begun}
use Rattle.pp_law.specs.State.{State, Client, Exchange, Instance as Known}
use Rattle.pp_law.specs.Table.{Next, instance, is_provided as law_provided, next_of as law_next_of, row, shown_span}
use Rattle.pp_cache.specs.Memory.{Memory}
use Rattle.pp_objects.specs.Instances.{Instance, id_of, in_slot, is_in_slot, is_life, is_row_of, is_same_id, row_of}
use Rattle.pp_objects.specs.declared.id.ObjectId.{ObjectId}
use Rattle.pp_peers.specs.declared.peers.Peer.{Peer}
use Rattle.pp_seats.specs.Follows.{answer_in, at_of, next_at, next_by, next_of}
use Rattle.pp_seats.specs.declared.seat.Answer.{Answer}
use Rattle.pp_seats.specs.declared.seat.Next.{Next as SeatNext}
use Rattle.pp_seats.specs.declared.seat.Seat.{Seat}
use Rattle.pp_seats_law.proofs.AllSeats.{places}
use Rattle.pp_seats_law.proofs.Fronts.{front_from, same_front}
use Rattle.pp_seats_law.proofs.Nexts.{nexts}
use Rattle.pp_seats_law.proofs.Stages.{begun}
use Rattle.pp_seats_law.specs.Clients.{IsAt, IsFound as IsFoundClient}
use Rattle.pp_seats_law.specs.Exchanges.{ShowsExchange}
use Rattle.pp_seats_law.specs.Seats.{ShowsOpen, ShowsSeat}
use Rattle.pp_seats_law.specs.Words.{ShowsNext}
use Rattle.pp_state.specs.Bringing.{is_provided}
use Rattle.pp_state.specs.Ends.{Parts, asker_of, numbers_of, seat_for}
use Rattle.pp_state.specs.Keys.{key_of}
use Rattle.pp_state.specs.Known.{row_for, row_in}
use Rattle.pp_states_law.proofs.Places.{HasPlace, HasSeat, at_place, has_none, has_place, has_seat, one_asks}
use Rattle.pp_states_law.specs.Charges.{GoesOn, IsFor}
use Rattle.pp_states_law.specs.Steps.{ShowsSteps}
use Rattle.pp_target.specs.Key.{text_of}
use Rattle.pp_turns_law.proofs.Comes.{provided_of}
use Rattle.pp_turns_law.proofs.Follows.{going_seat}
use Rattle.pp_turns_law.proofs.FollowingOn.{has_source, is_next}
use Rattle.pp_turns_law.proofs.StandingRow.{row_known, row_stands}
use Rattle.pp_turns_law.specs.Nexts.{IsNext}
use Rattle.pp_turns_law.specs.Turns.{IsFollowing}
use Rattle.pp_valid.specs.declared.version.Version.{Version}
use Rattle.pp_answers.specs.FinalHeads.{first_of, first_shown, is_lacked, lacks_by, lacks_next, lacks_of, lacks_row}
use Rattle.pp_answers_law.specs.Answers.{Asks}
use Rattle.pp_answers_law.proofs.Disproved.{still_now}

-- an instance that is there, of this key
pub record IsKeyedAt (id : ObjectId) (text : Bytes) (m : Memory) : Type 0 where
  pub now : Instance
  pub here : in_slot id.slot m.instances ≡ Some now
  pub life : (now.life == id.life) ≡ true
  pub key : now.key ≡ text

-- what it is answered from
abbrev pub FollowsKey : Bytes → Memory → Seat → Type 0
FollowsKey key m seat = (a : Answer) (id : ObjectId) → answer_in seat.stage ≡ Some a → a.source ≡ Some id → IsKeyedAt id key m

is_following : (key : Bytes) (m : Memory) (seat : Seat) → FollowsKey key m seat → IsFollowing m seat
is_following key m seat follow a id answer source =
    let one : IsKeyedAt id key m = follow a id answer source in
    ap (λ (o : Option Instance). is_life id.life o) one.here ∙ one.life

-- ---- the next byte stands before the end

record IsNextOf (a : Answer) (n : SeatNext) : Type 0 where
  source : a.source ≡ Some n.source
  some : nat_lt n.at n.to ≡ true

span_some : (a : Answer) (id : ObjectId) (at to : ℕ) (b : Bool) (n : SeatNext) → a.source ≡ Some id → nat_lt at to ≡ b → (elim b as (λ c. Option SeatNext) [ true ↦ Some (record { source = id; at = at; to = to }) | false ↦ None ]) ≡ Some n → IsNextOf a n
span_some a id at to true n own less is =
    let whole : SeatNext = record { source = id; at = at; to = to } in
    let same : whole ≡ n = some_is whole n is in
    record { source = own ∙ ap (λ (x : SeatNext). Some x.source) same; some = ap (λ (x : SeatNext). nat_lt x.at x.to) (sym same) ∙ less }
span_some a id at to false n own less is = absurd (none_some n is)

at_some : (a : Answer) (id : ObjectId) (to : ℕ) (o : Option ℕ) (n : SeatNext) → a.source ≡ Some id → next_at id to o ≡ Some n → IsNextOf a n
at_some a id to None n own is = absurd (none_some n is)
at_some a id to (Some at) n own is = span_some a id at to (nat_lt at to) n own refl is

source_some : (a : Answer) (said : Said) (o : Option ObjectId) (n : SeatNext) → a.source ≡ o → (elim o as (λ c. Option SeatNext) [ None ↦ None | Some id ↦ next_at id a.to (at_of a said) ]) ≡ Some n → IsNextOf a n
source_some a said None n own is = absurd (none_some n is)
source_some a said (Some id) n own is = at_some a id a.to (at_of a said) n own is

record HasAnswer (o : Option Answer) (n : SeatNext) : Type 0 where
  answer : Answer
  its : o ≡ Some answer
  next : IsNextOf answer n

by_some : (o : Option Answer) (said : Said) (n : SeatNext) → next_by o said ≡ Some n → HasAnswer o n
by_some None said n is = absurd (none_some n is)
by_some (Some a) said n is = record { answer = a; its = refl; next = source_some a said a.source n refl is }

-- ---- what is shown of a row

shown_in : (heading : Heading) (r : Parsed) (row : ObjectId × Version) → front_from heading ≡ IsRequest r → first_shown heading row ≡ first_of row.0 (shown_span r.head row.1)
shown_in Nothing r row is = absurd (let both : NoHeadYet ≡ IsRequest r = is in cc both)
shown_in More r row is = absurd (let both : NoHeadYet ≡ IsRequest r = is in cc both)
shown_in (IsAsked head fault) r row is =
    let both : IsRequest (parsed_of head) ≡ IsRequest r = is in
    let same : parsed_of head ≡ r = cc both in
    ap (λ (q : Parsed). first_of row.0 (shown_span q.head row.1)) same
shown_in (Refused status) r row is = absurd (let both : NoHead status ≡ IsRequest r = is in cc both)

module _ (number : ℕ → ℕ) (name : Bytes) (l : Leaving) (peers : List Peer) (q : Parts) (u : State) (shows : ShowsSteps number name l peers q u) (n : ℕ) (y : Entry) (e now : Exchange) (here : entry_of n q.flow ≡ Some y) (shown : ShowsExchange number y now) (asker : now.asker ≡ e.asker) (key : now.key ≡ e.key) where
  abbrev table : ShowsTable number q.cache u
  table = shows.shows.table.table

  key_is : key_of n q.flow ≡ Some (law_key e)
  key_is = ap (λ (o : Option Entry). option_map (λ x. x.key.items) o) here ∙ ap (λ (t : Bytes). Some t) (shown.text_key ∙ ap text_of key)

  row_is : row_for n q ≡ option_map (λ (i : Instance). (id_of i, i.version)) (row_of (law_key e) q.cache.instances)
  row_is = ap (λ (o : Option (List ℕ)). option_and_then (λ key. row_in key q.cache) o) key_is

  -- ---- of a row

  provided_at : (i : Instance) (r : Known) (at to : ℕ) → row u (law_key e) ≡ Some r → ShowsInstance number q.cache u i r → is_provided (record { source = id_of i; at = at; to = to }) q.cache q.flow ≡ law_provided u (record { source = r; at = at; to = to })
  provided_at i r at to there one =
      provided_of number name l peers q u shows (record { source = id_of i; at = at; to = to }) (record { source = r; at = at; to = to })
      (record {
        there = ap (λ (o : Option Instance). is_life i.life o) one.there ∙ same_test i.life;
        known = ap (λ (m : ℕ). instance u m) one.id ∙ row_known number q.cache u (law_key e) i r table one there;
        at = refl;
        to = refl;
      })
    where
      same_test : (m : ℕ) → (m == m) ≡ true
      same_test m = grind (arith, nat_tests)

  -- what it follows is that row, or stands no more
  is_row : (x : SeatNext) (k : Next) (i : Instance) (r : Known) → IsNext number q.cache u x k → k.source.key ≡ law_key e → row_of (law_key e) q.cache.instances ≡ Some i → row u (law_key e) ≡ Some r → ShowsInstance number q.cache u i r → is_same_id x.source (id_of i) ≡ not k.source.is_retired
  is_row x k i r next of at there one = by k.source.is_retired refl
    where
      found : IsFound number q.cache u x.source
      found = instances_of number q.cache u table x.source next.there

      known : found.known ≡ k.source
      known = some_is found.known k.source (sym found.there ∙ next.known)

      retired : found.seen.is_retired ≡ k.source.is_retired
      retired = found.shows.retired ∙ ap (λ (z : Known). z.is_retired) known

      own_key : found.seen.key ≡ law_key e
      own_key = found.shows.key ∙ ap (λ (z : Known). z.key) known ∙ of

      same_ids : (a b : ObjectId) → a ≡ b → is_same_id a b ≡ true
      same_ids a b is = ap (λ (z : ObjectId). is_same_id a z) (sym is) ∙ itself a
        where
          itself : (z : ObjectId) → is_same_id z z ≡ true
          itself z = grind (arith, nat_tests)

      its_slot : (a b : ObjectId) → is_same_id a b ≡ true → a.slot ≡ b.slot
      its_slot a b is = grind (arith, nat_tests)

      by : (b : Bool) → k.source.is_retired ≡ b → is_same_id x.source (id_of i) ≡ not k.source.is_retired
      by false is =
          let its : is_row_of (law_key e) found.seen ≡ true = ap₂ (λ (a b : Bool). not a && b) (retired ∙ is) ((bytes_eq-Decides found.seen.key (law_key e)).1 own_key) in
          let first : row_of (law_key e) q.cache.instances ≡ Some found.seen = found_alone (is_row_of (law_key e)) (is_in_slot x.source.slot) q.cache.instances found.seen found.here its (table.rows (law_key e)) in
          same_ids x.source (id_of i) (sym found.same ∙ ap id_of (some_is found.seen i (sym first ∙ at))) ∙ sym (ap not is)
      by true is = off (is_same_id x.source (id_of i)) refl ∙ sym (ap not is)
        where
          off : (b : Bool) → is_same_id x.source (id_of i) ≡ b → is_same_id x.source (id_of i) ≡ false
          off false same = same
          off true same =
              let slot : x.source.slot ≡ i.slot = its_slot x.source (id_of i) same in
              let seen : found.seen ≡ i = some_is found.seen i (sym found.here ∙ ap (λ (m : ℕ). in_slot m q.cache.instances) slot ∙ one.there) in
              absurd (true_false (sym is ∙ sym retired ∙ ap (λ (z : Instance). z.is_retired) seen ∙ one.retired ∙ row_stands u (law_key e) r there))

  -- ---- one client

  module _ (seat : Seat) (c : Client) (seen : ShowsSeat number name [] seat c) (on : GoesOn c) (asks : Asks e c) (follow : FollowsKey (law_key e) q.cache seat) where
    live : ShowsOpen number name [] seat c
    live = seen.going on.going

    answer_of : (x : SeatNext) → next_of seat ≡ Some x → HasAnswer (answer_in seat.stage) x
    answer_of x its = by_some (answer_in seat.stage) seat.client.reply x (sym (going_seat seat (seen.closing ∙ on.going)) ∙ its)

    source_key : (x : SeatNext) (k : Next) → next_of seat ≡ Some x → IsNext number q.cache u x k → k.source.key ≡ law_key e
    source_key x k its next =
        let own : HasAnswer (answer_in seat.stage) x = answer_of x its in
        let at : IsKeyedAt x.source (law_key e) q.cache = follow own.answer x.source own.its own.next.source in
        let found : IsFound number q.cache u x.source = instances_of number q.cache u table x.source next.there in
        ap (λ (z : Known). z.key) (sym (some_is found.known k.source (sym found.there ∙ next.known))) ∙ sym found.shows.key ∙ ap (λ (z : Instance). z.key) (some_is found.seen at.now (sym found.here ∙ at.here)) ∙ at.key

    abbrev law_by : Next → Known → Bool → Bool
    law_by k r b =
        let span : ℕ × ℕ = elim b as (λ t. ℕ × ℕ) [ true ↦ (k.at, k.to) | false ↦ elim (parsed_in c.front) as (λ t. ℕ × ℕ) [ None ↦ (0, 0) | Some p ↦ shown_span p.head r.version ] ] in
        not (b && k.source.is_retired) && nat_lt span.0 span.1 && not (law_provided u (record { source = r; at = span.0; to = span.1 }))

    -- in the midst of its reply
    amid : (x : SeatNext) (k : Next) (i : Instance) (r : Known) → next_of seat ≡ Some x → IsNext number q.cache u x k → k.source.key ≡ law_key e → row_of (law_key e) q.cache.instances ≡ Some i → row u (law_key e) ≡ Some r → ShowsInstance number q.cache u i r
        → lacks_of true x (id_of i, i.version) seat q ≡ law_by k r true
    amid x k i r its next of at there one =
        ap (λ (b : Bool). b && not (is_provided x q.cache q.flow)) (is_row x k i r next of at there one) ∙ by k.source.is_retired refl
      where
        less : nat_lt k.at k.to ≡ true
        less = sym (ap₂ (λ (a b : ℕ). nat_lt a b) next.at next.to) ∙ (answer_of x its).next.some

        same_source : is_same_id x.source (id_of i) ≡ true → x.source ≡ id_of i
        same_source is = ids x.source (id_of i) is
          where
            ids : (a b : ObjectId) → is_same_id a b ≡ true → a ≡ b
            ids a b same =
                let slots : a.slot ≡ b.slot = grind (arith, nat_tests) in
                let lives : a.life ≡ b.life = grind (arith, nat_tests) in
                ap₂ (λ (s l : ℕ). let z : ObjectId = record { slot = s; life = l } in z) slots lives

        by : (b : Bool) → k.source.is_retired ≡ b → (not b && not (is_provided x q.cache q.flow)) ≡ (not b && nat_lt k.at k.to && not (law_provided u (record { source = r; at = k.at; to = k.to })))
        by true is = refl
        by false is =
            let source : x.source ≡ id_of i = same_source (is_row x k i r next of at there one ∙ ap not is) in
            let whole : x ≡ record { source = id_of i; at = k.at; to = k.to } =
            ap (λ (s : ObjectId). let z : SeatNext = record { source = s; at = x.at; to = x.to } in z) source ∙ ap₂ (λ (a b : ℕ). let z : SeatNext = record { source = id_of i; at = a; to = b } in z) next.at next.to in
            ap (λ (z : SeatNext). not (is_provided z q.cache q.flow)) whole ∙ ap not (provided_at i r k.at k.to there one)
            ∙ sym (ap (λ (b : Bool). b && not (law_provided u (record { source = r; at = k.at; to = k.to }))) less)

    -- before it
    ahead : (x : SeatNext) (k : Next) (i : Instance) (r : Known) → row u (law_key e) ≡ Some r → ShowsInstance number q.cache u i r → lacks_of false x (id_of i, i.version) seat q ≡ law_by k r false
    ahead x k i r there one =
        ap (λ (o : Option SeatNext). is_lacked o q) (shown_in (current_of seat.client.heard) asks.request (id_of i, i.version) (sym (same_front (seat.client.heard.head ++ seat.client.heard.rest)) ∙ still_now c.front (front_of (seat.client.heard.head ++ seat.client.heard.rest)) asks.request asks.front live.heard.is_front))
        ∙ ap (λ (v : Version). is_lacked (first_of (id_of i) (shown_span asks.request.head v)) q) one.version
        ∙ by (nat_lt span.0 span.1)
        ∙ sym (ap (λ (f : Front). let s : ℕ × ℕ = elim (parsed_in f) as (λ t. ℕ × ℕ) [ None ↦ (0, 0) | Some p ↦ shown_span p.head r.version ] in nat_lt s.0 s.1 && not (law_provided u (record { source = r; at = s.0; to = s.1 }))) asks.front)
      where
        span : ℕ × ℕ
        span = shown_span asks.request.head r.version

        by : (b : Bool) → is_lacked (elim b as (λ t. Option SeatNext) [ true ↦ Some (record { source = id_of i; at = span.0; to = span.1 }) | false ↦ None ]) q ≡ (b && not (law_provided u (record { source = r; at = span.0; to = span.1 })))
        by true = ap not (provided_at i r span.0 span.1 there one)
        by false = refl

    rows : (x : SeatNext) (k : Next) (o : Option Instance) (p : Option Known) → next_of seat ≡ Some x → IsNext number q.cache u x k → k.source.key ≡ law_key e → row_of (law_key e) q.cache.instances ≡ o → row u (law_key e) ≡ p → AreBoth (ShowsInstance number q.cache u) o p
        → lacks_row (Some x) (option_map (λ (i : Instance). (id_of i, i.version)) o) seat q ≡ is_some_with (law_lacks_by u c k) p
    rows x k None None its next of at there both = refl
    rows x k None (Some r) its next of at there both = absurd both
    rows x k (Some i) None its next of at there both = absurd both
    rows x k (Some i) (Some r) its next of at there both = ap (λ (b : Bool). lacks_of b x (id_of i, i.version) seat q) (begun number name [] seat c live) ∙ by (is_begun c)
      where
        by : (b : Bool) → lacks_of b x (id_of i, i.version) seat q ≡ law_by k r b
        by true = amid x k i r its next of at there both
        by false = ahead x k i r there both

    follows : (o : Option SeatNext) (p : Option Next) → next_of seat ≡ o → law_next_of u c ≡ p → ShowsNext number o p → lacks_row o (row_for n q) seat q ≡ is_some_with (λ k. is_some_with (law_lacks_by u c k) (row u k.source.key)) p
    follows None None its law same = refl
    follows None (Some k) its law same = absurd same
    follows (Some x) None its law same = absurd same
    follows (Some x) (Some k) its law same =
        let next : IsNext number q.cache u x k = is_next number q.cache u name seat c x k seen on.going (is_following (law_key e) q.cache seat follow) its law same in
        let own_key : k.source.key ≡ law_key e = source_key x k its next in
        ap (λ (o : Option (ObjectId × Version)). lacks_row (Some x) o seat q) row_is
        ∙ rows x k (row_of (law_key e) q.cache.instances) (row u (law_key e)) its next own_key refl refl (rows_of number q.cache u table (law_key e))
        ∙ ap (λ (text : Bytes). is_some_with (law_lacks_by u c k) (row u text)) (sym own_key)

    one_lacks : lacks_by (Some seat) n q ≡ law_lacks_next u c
    one_lacks = follows (next_of seat) (law_next_of u c) refl refl (nexts number u name [] seat c seen (λ going. has_source number q.cache u name seat c table seen on.going (is_following (law_key e) q.cache seat follow)))

  -- ---- whose exchange it is

  pub lacks : IsFor u e GoesOn → IsFor u e (Asks e) → ((i : ℕ) (seat : Seat) → seat_for y.exchange q.seats ≡ Some i → slice_get q.seats i ≡ Some seat → FollowsKey (law_key e) q.cache seat)
      → lacks_next n q ≡ list_any (λ c. is_for e c && law_lacks_next u c) u.clients
  lacks on asks follow = ap (λ (o : Option Seat). lacks_by o n q) asker_is ∙ by (seat_for y.exchange q.seats) refl
    where
      asker_is : asker_of n q ≡ option_and_then (slice_get q.seats) (seat_for y.exchange q.seats)
      asker_is = ap (λ (o : Option Entry). option_and_then (λ x. option_and_then (slice_get q.seats) (seat_for x.exchange q.seats)) o) here

      its : y.exchange.asker ≡ e.asker
      its = shown.asker ∙ asker

      any_of : Option ℕ → Bool
      any_of asked = list_any (λ c. is_this c.number asked && law_lacks_next u c) u.clients

      by : (o : Option ℕ) → seat_for y.exchange q.seats ≡ o → lacks_by (option_and_then (slice_get q.seats) (seat_for y.exchange q.seats)) n q ≡ any_of e.asker
      by None none =
          ap (λ (o : Option ℕ). lacks_by (option_and_then (slice_get q.seats) o) n q) none
          ∙ sym (sym (ap any_of its) ∙ (has_none number name [] y.exchange.asker q.seats u.clients shows.shows.clients none).asks (λ c. law_lacks_next u c))
      by (Some i) at =
          let one : HasPlace y.exchange.asker (numbers_of q.seats) i = has_place y.exchange.asker (numbers_of q.seats) i at in
          let place : IsAt one.client i q.seats = at_place one.client i q.seats shows.order one.place in
          let seat : HasSeat i q.seats = has_seat one.client i q.seats place in
          let found : IsFoundClient number name [] seat.seat one.client u.clients = places number name [] q.seats u.clients one.client i seat.seat shows.shows.clients place seat.there in
          let is_its : e.asker ≡ Some one.client = sym its ∙ one.asks in
          ap (λ (o : Option ℕ). lacks_by (option_and_then (slice_get q.seats) o) n q) at
          ∙ ap (λ (o : Option Seat). lacks_by o n q) seat.there
          ∙ one_lacks seat.seat found.client found.shows (on one.client found.client is_its found.there) (asks one.client found.client is_its found.there) (follow i seat.seat at seat.there)
          ∙ sym (one_asks number name [] one.client i (λ c. law_lacks_next u c) q.seats u.clients found.client shows.shows.clients place found.there)
          ∙ sym (ap any_of is_its)
