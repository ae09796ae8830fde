-- The head of a response to the ask of a follower, whole, as the law has it: with what it costs where it is no use for that follower.
use Rattle.std.proofs.Common.{◌≡◌, inl, inr, refl, sym, subst, ap, ap₂, ◌∙◌, ℕ, Bool, true, false, not, ◌==◌, ◌&&◌, find, is_some, List, [], Some, None, Option, arith}
use Rattle.std.proofs.lemmas.Bool.Decides.{nat_tests}
use Rattle.std.specs.List.{list_any}
use Rattle.std.specs.Prelude.{option_map, slice_get}
use Rattle.pp_cache.specs.Memory.{Memory}
use Rattle.pp_cache_law.proofs.Alike.{instances_of}
use Rattle.pp_cache_law.proofs.Finds.{find_passes}
use Rattle.pp_cache_law.proofs.Numbers.{true_false}
use Rattle.pp_cache_law.specs.Reads.{IsFound}
use Rattle.pp_flow.specs.Changes.{Exchanges, changed}
use Rattle.pp_flow.specs.Entries.{bound_to, is_number}
use Rattle.pp_flow.specs.declared.entry.Aim.{Aim as SeatAim}
use Rattle.pp_flow.specs.declared.entry.Aim.TheVariants.{Own as OfItself, Hole, Pass}
use Rattle.pp_flow.specs.declared.entry.Entry.{Entry}
use Rattle.pp_flow.specs.declared.entry.Exchange.{Exchange as SeatExchange}
use Rattle.pp_flow_law.proofs.Entries.{find_changed, same_number}
use Rattle.pp_flow_law.proofs.Standing.{none_waits}
use Rattle.pp_flow_law.specs.Tables.{Leaving}
use Rattle.pp_framing.specs.declared.body.BodyRule.{BodyRule}
use Rattle.pp_head.specs.Response.{Response}
use Rattle.pp_law.specs.Connections.{exchange, is_client, is_for, lose_attempt}
use Rattle.pp_law.specs.Lists.{Bytes, is_some_with, is_this}
use Rattle.pp_law.specs.OwnHeads.{count_elsewhere, filling_head, is_bound as law_is_bound, key_of as law_key, lacks_next as law_lacks_next, own_head, part_head}
use Rattle.pp_law.specs.Responses.{by_aim}
use Rattle.pp_law.specs.Stages.{filled_of, reply_of}
use Rattle.pp_law.specs.State.{State, Aim, Client, Exchange, Filling, Own, Reply, Through}
use Rattle.pp_law.specs.Table.{follows}
use Rattle.pp_law.specs.ThroughHeads.{through_head}
use Rattle.pp_objects.specs.Instances.{is_there}
use Rattle.pp_objects.specs.declared.id.ObjectId.{ObjectId}
use Rattle.pp_peers.specs.declared.peers.Peer.{Peer}
use Rattle.pp_seats.specs.Follows.{answer_in}
use Rattle.pp_seats.specs.declared.seat.Seat.{Seat}
use Rattle.pp_seats_law.proofs.AllSeats.{places}
use Rattle.pp_seats_law.proofs.Stages.{replies}
use Rattle.pp_seats_law.specs.Clients.{IsAt, IsFound as IsFoundClient}
use Rattle.pp_seats_law.specs.Exchanges.{ShowsExchange}
use Rattle.pp_seats_law.specs.Fates.{aim_of}
use Rattle.pp_state.specs.Ends.{Parts, bound_by, lost_attempt, numbers_of, parts, seat_for, told}
use Rattle.pp_state.specs.declared.state.State.{State as Turn}
use Rattle.pp_states_law.proofs.Charged.{losses, number_is, same_entry}
use Rattle.pp_states_law.proofs.Places.{HasPlace, at_place, has_place}
use Rattle.pp_states_law.specs.Charges.{GoesOn, IsFor}
use Rattle.pp_states_law.specs.Steps.{ShowsSteps}
use Rattle.pp_turns_law.proofs.Sitting.{is_at}
use Rattle.pp_valid.specs.declared.version.Version.{Version}
use Rattle.pp_answers.specs.FinalHeads.{FillsHead, TakesAim, TakesHead, TakesPart, counted, lacks_next, noted_body, version_in}
use Rattle.pp_answers.specs.Rows.{is_bound}
use Rattle.pp_answers_law.specs.Answers.{Asks}
use Rattle.pp_answers_law.specs.Owns.{IsAtHead, IsShown}
use Rattle.pp_answers_law.specs.Takes.{MayFill}
use Rattle.pp_answers_law.proofs.Counted.{counted_noted}
use Rattle.pp_answers_law.proofs.Dropped.{there_too}
use Rattle.pp_answers_law.proofs.Filled.{part_heads}
use Rattle.pp_answers_law.proofs.JoinsRow.{GoesToRow, IsFollowed, MayGoToRow, goes, shown_apart}
use Rattle.pp_answers_law.proofs.Lacking.{FollowsKey, IsKeyedAt, lacks}
use Rattle.pp_answers_law.proofs.StillAsked.{AsksStill, MayAskStill, WasTold, part_still}
use Rattle.pp_answers_law.proofs.Useless.{key_is}
use Rattle.pp_answers_law.proofs.Followers.{AnsweredFrom, HasEntry, WasSeat, answered_from, bound_noted, bounds_same, has_entry, law_alike, lost_alike, some_follow, told_cache, told_flow, told_refused, told_was}
use Rattle.pp_answers_law.proofs.Carried.{later_is}
use Rattle.pp_answers_law.proofs.QuietAnswers.{Any, q_counted}

-- ---- its aim

its_hole : (e : Exchange) (a : SeatAim) → aim_of a ≡ e.aim → is_some (filled_of e) ≡ true → (v : Version) × (from : ℕ) × (to : ℕ) × (a ≡ Hole v from to)
its_hole e OfItself is some = absurd (true_false (sym some ∙ ap (λ (z : Aim). is_some (elim z as (λ t. Option Version) [ Through ↦ None | Own ↦ None | Filling v from to ↦ Some v ])) (sym is)))
its_hole e (Hole v from to) is some = (v, from, to, refl)
its_hole e Pass is some = absurd (true_false (sym some ∙ ap (λ (z : Aim). is_some (elim z as (λ t. Option Version) [ Through ↦ None | Own ↦ None | Filling v from to ↦ Some v ])) (sym is)))

same_aim : (a b : SeatAim) → aim_of a ≡ aim_of b → a ≡ b
same_aim OfItself OfItself is = refl
same_aim OfItself (Hole v from to) is = absurd (let both : Own ≡ Filling v from to = is in cc both)
same_aim OfItself Pass is = absurd (let both : Own ≡ Through = is in cc both)
same_aim (Hole v from to) OfItself is = absurd (let both : Filling v from to ≡ Own = is in cc both)
same_aim (Hole v from to) (Hole w f t) is = let both : Filling v from to ≡ Filling w f t = is in cc both
same_aim (Hole v from to) Pass is = absurd (let both : Filling v from to ≡ Through = is in cc both)
same_aim Pass OfItself is = absurd (let both : Through ≡ Own = is in cc both)
same_aim Pass (Hole v from to) is = absurd (let both : Through ≡ Filling v from to = is in cc both)
same_aim Pass Pass is = refl

-- ---- all of it

module _ (number : ℕ → ℕ) (name : Bytes) (l : Leaving) (peers : List Peer) (t : Turn) (s : State) (n : ℕ) (x : Entry) (e : Exchange) (head : Response) (rule : BodyRule) (between : Parts) (at : IsAtHead number name l peers t s n x e) (may : MayFill t s e) (taken : TakesPart x.exchange x.errand head rule (version_in x.errand head) t between)
    (empty : (counted x.exchange between).refused ≡ []) where
  abbrev own : SeatExchange
  own = x.exchange

  abbrev u : State
  u = part_head e head rule s

  abbrev q : Parts
  q = noted_body n between

  shown : ShowsExchange number x e
  shown = same_entry number name l peers (parts t) s at.shows n x e (there_too number name l peers (parts t) s at.shows n x e at.answered)

  e_number : e.number ≡ n
  e_number = number_is n s e at.answered.there

  own_number : own.number ≡ n
  own_number = shown.number ∙ e_number

  abbrev law_if : Bool → Bool → State
  law_if a b = elim (a && b) as (λ v. State) [ true ↦ lose_attempt e u | false ↦ u ]

  abbrev law_lacks : Bool
  law_lacks = list_any (λ c. is_for e c && law_lacks_next u c) u.clients

  filling_is : filling_head e head rule s ≡ law_if (is_some_with law_is_bound (exchange u e.number)) law_lacks
  unfolding filling_head count_elsewhere
  filling_is = refl

  abbrev counted_if : Parts → Bool → Bool → Parts
  counted_if p a b = elim (a && b) as (λ v. Parts) [ true ↦ lost_attempt own p | false ↦ p ]

  none_waiting : find (is_number own.number) t.flow.waiting ≡ None
  none_waiting = ap (λ (m : ℕ). find (is_number m) t.flow.waiting) own_number ∙ none_waits number l t.flow s at.shows.shows.exchanges n x at.answered.placed

  going : MayGoToRow own (parts t) between
  going =
      goes t x head rule between (shown_apart number t.cache s at.shows.shows.table.table) none_waiting at.shows.refused (its_hole e own.aim shown.aim may.aim) (law_key e) (key_is number name l peers (parts t) s at.shows n x e at.answered) (version_in x.errand head) taken

  -- what comes belongs to no row
  unbound : is_bound own.number between.flow ≡ false → IsShown number t.cache.lives s.next_instance name l peers (noted_body n (counted own between)) (filling_head e head rule s)
  unbound free = record {
    number = one.number;
    keeps = later_is number one.number t.cache.lives q.cache.lives (counted own between).cache.lives s.next_instance (q_counted Any own between).lives one.keeps;
    shows =
        subst (λ (p : Parts). ShowsSteps one.number name l peers (noted_body n p) (filling_head e head rule s)) (sym same)
        (subst (λ (v : State). ShowsSteps one.number name l peers q v) (sym (filling_is ∙ ap (λ (b : Bool). law_if b law_lacks) off)) one.shows);
  }
    where
      same : counted own between ≡ between
      same = ap (λ (b : Bool). counted_if between b (lacks_next own.number between)) free

      one : IsShown number t.cache.lives s.next_instance name l peers q u
      one = part_heads number name l peers t s n x e head rule between at (sym (ap (λ (p : Parts). p.refused) same) ∙ empty) taken

      off : is_some_with law_is_bound (exchange u e.number) ≡ false
      off =
          ap (λ (m : ℕ). is_some_with law_is_bound (exchange u m)) e_number ∙ sym (bounds_same one.number name l peers q u one.shows n) ∙ bound_noted n between
          ∙ ap (λ (m : ℕ). is_bound m between.flow) (sym own_number) ∙ free

  -- it belongs to one
  module _ (g : GoesToRow own (parts t) between) where
    abbrev entry : Entry
    entry = bound_to (Some g.span) x

    between_flow : between.flow ≡ record t.flow { placed = changed own.number (bound_to (Some g.span)) t.flow.placed }
    between_flow =
        ap (λ (p : Parts). p.flow) g.is ∙ told_flow (seat_for own (bound_by own.number (Some g.span) g.old).seats) (told g.brought) (bound_by own.number (Some g.span) g.old)
        ∙ ap (λ (f : Exchanges). record f { placed = changed own.number (bound_to (Some g.span)) f.placed }) g.flow

    here : find (is_number own.number) between.flow.placed ≡ Some entry
    here =
        ap (λ (f : Exchanges). find (is_number own.number) f.placed) between_flow ∙ find_changed own.number (bound_to (Some g.span)) (λ y. (refl, refl)) t.flow.placed
        ∙ ap (λ (m : ℕ). option_map (bound_to (Some g.span)) (find (is_number m) t.flow.placed)) own_number ∙ ap (λ (o : Option Entry). option_map (bound_to (Some g.span)) o) at.answered.placed

    none : find (is_number own.number) between.flow.waiting ≡ None
    none = ap (λ (f : Exchanges). find (is_number own.number) f.waiting) between_flow ∙ none_waiting

    one : IsShown number t.cache.lives s.next_instance name l peers q u
    one =
        part_heads number name l peers t s n x e head rule between at
        (ap (λ (p : Parts). p.refused) g.is ∙ told_refused (seat_for own (bound_by own.number (Some g.span) g.old).seats) (told g.brought) (bound_by own.number (Some g.span) g.old) ∙ g.refused) taken

    counts : noted_body n (counted own between) ≡ counted own q
    counts = subst (λ (m : ℕ). noted_body m (counted own between) ≡ counted own (noted_body m between)) own_number (counted_noted own between entry g.span here none refl)

    cache_is : q.cache ≡ g.old.cache
    cache_is = ap (λ (p : Parts). p.cache) g.is ∙ told_cache (seat_for own (bound_by own.number (Some g.span) g.old).seats) (told g.brought) (bound_by own.number (Some g.span) g.old)

    -- what its client is answered from is there, of its key
    was_seat : (i : ℕ) (seat : Seat) → slice_get q.seats i ≡ Some seat → WasSeat i t.seats.items seat
    was_seat i seat there =
        let first : WasSeat i g.old.seats seat = told_was (seat_for own (bound_by own.number (Some g.span) g.old).seats) g.brought (bound_by own.number (Some g.span) g.old) i seat (sym (ap (λ (p : Parts). slice_get p.seats i) g.is) ∙ there) in
        record { was = first.was; here = ap (λ (ss : List Seat). slice_get ss i) (sym g.seats) ∙ first.here; answer = first.answer; id = first.id }

    module _ (i m : ℕ) (seat : Seat) (asks : e.asker ≡ Some m) (was : WasSeat i t.seats.items seat) (numbered : seat.client.id ≡ m) where
      place : IsAt was.was.client.id i t.seats.items
      place = is_at i t.seats.items was.was at.shows.order was.here

      found : IsFoundClient number name [] was.was was.was.client.id s.clients
      found = places number name [] t.seats.items s.clients was.was.client.id i was.was at.shows.shows.clients place was.here

      client_there : find (is_client m) s.clients ≡ Some found.client
      client_there = ap (λ (k : ℕ). find (is_client k) s.clients) (sym numbered ∙ was.id) ∙ found.there

      goes_on : GoesOn found.client
      goes_on = (at.stands m found.client asks client_there).on

      follows_key : FollowsKey (law_key e) q.cache seat
      follows_key a id answer source =
          let there : is_there id t.cache.instances ≡ true = may.follows i was.was was.here (found.shows.closing ∙ goes_on.going) a id (sym was.answer ∙ answer) source in
          let its : IsFound number t.cache s id = instances_of number t.cache s at.shows.shows.table.table id there in
          let from : AnsweredFrom number found.client id =
          answered_from number was.was.client.reply found.client a id (answer_in was.was.stage) (reply_of found.client) (replies number name [] was.was found.client (found.shows.going goes_on.going)) refl (sym was.answer ∙ answer) source in
          let life : its.seen.life ≡ id.life = ap (λ (z : ObjectId). z.life) its.same in
          let number_of : number id.life ≡ its.known.id = ap number (sym life) ∙ its.shows.id in
          let followed : follows its.known.id found.client ≡ true =
          ap (λ (b : Bool). not b && is_some_with (λ r. is_this its.known.id r.source) (reply_of found.client)) goes_on.going ∙ ap (λ (o : Option Reply). is_some_with (λ r. is_this its.known.id r.source) o) from.is
          ∙ ap (λ (o : Option ℕ). is_this its.known.id o) from.source ∙ same_test (number id.life) its.known.id number_of in
          let on : IsFollowed id t.cache =
          record { instance = its.seen; here = its.here; life = same_test its.seen.life id.life life; some = ap (λ (k : ℕ). k == 0) its.shows.followers ∙ some_follow (follows its.known.id) (is_client m) s.clients found.client client_there followed } in
          let last : IsKeyedAt id its.seen.key g.old.cache = g.there id on in
          subst (λ (k : Memory). IsKeyedAt id (law_key e) k) (sym cache_is)
          (record { now = last.now; here = last.here; life = last.life; key = last.key ∙ its.shows.key ∙ may.key m found.client asks client_there from.reply (number id.life) its.known from.is from.source its.there })
        where
          same_test : (k j : ℕ) → k ≡ j → (k == j) ≡ true
          same_test k j is = grind (arith, nat_tests)

    -- its exchange is as it was
    module _ (st : AsksStill s u e) where
      abbrev now : Exchange
      now = record e { body = st.body }

      there : exchange u n ≡ Some now
      there = ap (λ (m : ℕ). exchange u m) (sym e_number) ∙ st.there

      its : HasEntry one.number q n now
      its = has_entry one.number name l peers q u one.shows n now there

      on : IsFor u e GoesOn
      on m c asks found =
          let w : WasTold s m c = st.told m c found in
          let was : GoesOn w.was = (at.stands m w.was asks w.there).on in
          subst (λ (d : Client). GoesOn d) (sym w.is) (record { going = was.going; given = was.given })

      asked : IsFor u e (Asks e)
      asked m c asks found =
          let w : WasTold s m c = st.told m c found in
          let was : Asks e w.was = at.asks m w.was asks w.there in
          subst (λ (d : Client). Asks e d) (sym w.is) (record { request = was.request; front = was.front; head = was.head })

      followed : (i : ℕ) (seat : Seat) → seat_for its.entry.exchange q.seats ≡ Some i → slice_get q.seats i ≡ Some seat → FollowsKey (law_key e) q.cache seat
      followed i seat place seated =
          let own_place : HasPlace its.entry.exchange.asker (numbers_of q.seats) i = has_place its.entry.exchange.asker (numbers_of q.seats) i place in
          let stands : IsAt own_place.client i q.seats = at_place own_place.client i q.seats one.shows.order own_place.place in
          let found : IsFoundClient one.number name [] seat own_place.client u.clients = places one.number name [] q.seats u.clients own_place.client i seat one.shows.shows.clients stands seated in
          follows_key i own_place.client seat (sym its.shown.asker ∙ own_place.asks) (was_seat i seat seated) (found.shows.number ∙ same_number found.client.number own_place.client (find_passes (is_client own_place.client) u.clients found.client found.there))

      lacks_same : lacks_next own.number q ≡ law_lacks
      lacks_same = ap (λ (m : ℕ). lacks_next m q) own_number ∙ lacks one.number name l peers q u one.shows n its.entry e now its.here its.shown refl refl on asked followed

      bound_same : is_bound own.number q.flow ≡ is_some_with law_is_bound (exchange u e.number)
      bound_same = ap (λ (m : ℕ). is_bound m q.flow) own_number ∙ bounds_same one.number name l peers q u one.shows n ∙ ap (λ (m : ℕ). is_some_with law_is_bound (exchange u m)) (sym e_number)

      lost : ShowsSteps one.number name l peers (lost_attempt own q) (lose_attempt e u)
      lost =
          subst (λ (v : State). ShowsSteps one.number name l peers (lost_attempt own q) v) (law_alike e st.body u)
          (subst (λ (p : Parts). ShowsSteps one.number name l peers p (lose_attempt now u))
          (lost_alike its.entry.exchange own q (its.shown.number ∙ sym shown.number) (its.shown.asker ∙ sym shown.asker) (same_aim its.entry.exchange.aim own.aim (its.shown.aim ∙ sym shown.aim)))
          (losses one.number name l peers q u one.shows n its.entry now (record { here = its.here; there = there }) on))

      both : (a b : Bool) → ShowsSteps one.number name l peers (counted_if q a b) (law_if a b)
      both true true = lost
      both true false = one.shows
      both false b = one.shows

      pub counted_still : IsShown number t.cache.lives s.next_instance name l peers (noted_body n (counted own between)) (filling_head e head rule s)
      counted_still = record {
        number = one.number;
        keeps = later_is number one.number t.cache.lives q.cache.lives (counted own between).cache.lives s.next_instance (q_counted Any own between).lives one.keeps;
        shows =
            subst (λ (p : Parts). ShowsSteps one.number name l peers p (filling_head e head rule s)) (sym (counts ∙ ap₂ (λ (a b : Bool). counted_if q a b) bound_same lacks_same))
            (subst (λ (v : State). ShowsSteps one.number name l peers (counted_if q (is_some_with law_is_bound (exchange u e.number)) law_lacks) v) (sym filling_is) (both (is_some_with law_is_bound (exchange u e.number)) law_lacks));
      }

    law_free : is_some_with law_is_bound (exchange u e.number) ≡ false → IsShown number t.cache.lives s.next_instance name l peers (noted_body n (counted own between)) (filling_head e head rule s)
    law_free off = record {
      number = one.number;
      keeps = later_is number one.number t.cache.lives q.cache.lives (counted own between).cache.lives s.next_instance (q_counted Any own between).lives one.keeps;
      shows =
          subst (λ (p : Parts). ShowsSteps one.number name l peers p (filling_head e head rule s))
          (sym (counts ∙ ap (λ (b : Bool). counted_if q b (lacks_next own.number q)) (ap (λ (m : ℕ). is_bound m q.flow) own_number ∙ bounds_same one.number name l peers q u one.shows n ∙ ap (λ (m : ℕ). is_some_with law_is_bound (exchange u m)) (sym e_number) ∙ off)))
          (subst (λ (v : State). ShowsSteps one.number name l peers q v) (sym (filling_is ∙ ap (λ (b : Bool). law_if b law_lacks) off)) one.shows);
    }

    by_law : MayAskStill s u e → IsShown number t.cache.lives s.next_instance name l peers (noted_body n (counted own between)) (filling_head e head rule s)
    by_law (inl st) = counted_still st
    by_law (inr off) = law_free off

    pub bound : IsShown number t.cache.lives s.next_instance name l peers (noted_body n (counted own between)) (filling_head e head rule s)
    bound = by_law (part_still e head rule s (ap (λ (m : ℕ). exchange s m) e_number ∙ at.answered.there))

  by_row : MayGoToRow own (parts t) between → IsShown number t.cache.lives s.next_instance name l peers (noted_body n (counted own between)) (filling_head e head rule s)
  by_row (inl g) = bound g
  by_row (inr free) = unbound free

  pub fills : IsShown number t.cache.lives s.next_instance name l peers (noted_body n (counted own between)) (filling_head e head rule s)
  fills = by_row going

-- ---- with what becomes of the body

by_filling : (e : Exchange) (head : Response) (rule : BodyRule) (s : State) → is_some (filled_of e) ≡ true → by_aim e head rule s ≡ filling_head e head rule s
unfolding by_aim
by_filling e head rule s some = by e.aim refl
  where
    aimed : Aim → State
    aimed aim = elim aim as (λ v. State) [ Through ↦ through_head e head rule s | Own ↦ own_head e head rule s | Filling v from to ↦ filling_head e head rule s ]

    filled_by : (a : Aim) → e.aim ≡ a → is_some (elim a as (λ t. Option Version) [ Through ↦ None | Own ↦ None | Filling v from to ↦ Some v ]) ≡ true
    filled_by a is = ap (λ (z : Aim). is_some (elim z as (λ t. Option Version) [ Through ↦ None | Own ↦ None | Filling v from to ↦ Some v ])) (sym is) ∙ some

    by : (a : Aim) → e.aim ≡ a → aimed e.aim ≡ filling_head e head rule s
    by Through is = absurd (true_false (sym (filled_by Through is)))
    by Own is = absurd (true_false (sym (filled_by Own is)))
    by (Filling v from to) is = ap aimed is

pub fills_taken : (number : ℕ → ℕ) (name : Bytes) (l : Leaving) (peers : List Peer) (t : Turn) (s : State) (n : ℕ) (x : Entry) (e : Exchange) (head : Response) (rule : BodyRule) (new : Parts) → IsAtHead number name l peers t s n x e → new.refused ≡ [] → MayFill t s e
    → TakesHead n x.exchange x.errand head rule t new → IsShown number t.cache.lives s.next_instance name l peers new (by_aim e head rule s)
fills_taken number name l peers t s n x e head rule new at given may taken =
    subst (λ (v : State). IsShown number t.cache.lives s.next_instance name l peers new v) (sym (by_filling e head rule s may.aim))
    (subst (λ (p : Parts). IsShown number t.cache.lives s.next_instance name l peers p (filling_head e head rule s)) (sym (taken.noted ∙ ap (λ (p : Parts). noted_body n p) it.elsewhere))
    (fills number name l peers t s n x e head rule it.between at may it.taken (ap (λ (p : Parts). p.refused) (sym it.elsewhere) ∙ sym (ap (λ (p : Parts). p.refused) taken.noted) ∙ given)))
  where
    shown : ShowsExchange number x e
    shown = same_entry number name l peers (parts t) s at.shows n x e (there_too number name l peers (parts t) s at.shows n x e at.answered)

    hole : (v : Version) × (from : ℕ) × (to : ℕ) × (x.exchange.aim ≡ Hole v from to)
    hole = its_hole e x.exchange.aim shown.aim may.aim

    it : FillsHead x.exchange x.errand head rule t taken.between
    it = subst (λ (a : SeatAim). TakesAim a x.exchange x.errand head rule t taken.between) hole.3 taken.taken
