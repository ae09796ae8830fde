-- A client that can be written to, once it is woken: it has something to say, and goes on.
use Rattle.std.proofs.Common.{◌≡◌, ◌≤◌, ◌<◌, ◌⊎◌, inl, inr, refl, sym, subst, ap, ap₂, ◌∙◌, ℕ, ◌+◌, ◌*◌, ◌^◌, Bool, true, false, ◌&&◌, ◌||◌, not, is_some, take, List, [], ◌∷◌, ◌++◌, length, length-append, Option, Some, None, option_and_then, arith}
use Rattle.std.specs.List.{list_any}
use Rattle.std.specs.Prelude.{vec_capacity}
use Rattle.pp_cache.specs.Memory.{Memory}
use Rattle.pp_cache_law.proofs.Numbers.{some_is}
use Rattle.pp_client.specs.Replies.{Reply as Said, at_hand, next_byte}
use Rattle.pp_clients_obey.specs.Ending.{GoesOn, keeps_open_in}
use Rattle.pp_desk.specs.Closings.{Sides, sides}
use Rattle.pp_desk.specs.Marks.{marked_seat, touched}
use Rattle.pp_desk.specs.declared.desk.Desk.{Desk}
use Rattle.pp_due.specs.Due.{has_nothing_at_hand, is_dry, is_next_there}
use Rattle.pp_due.specs.OnDisk.{if_on_disk, next_on_disk}
use Rattle.pp_events_law.proofs.Alike.{AreAlike, WasAlike}
use Rattle.pp_events_law.proofs.Anew.{anew_if}
use Rattle.pp_events_law.proofs.ReadWhole.{settled_as}
use Rattle.pp_events_law.proofs.Woken.{client_writes, woken_alike}
use Rattle.pp_events_law.specs.Hears.{AreSettled}
use Rattle.pp_events_law.specs.Woken.{IsOwed}
use Rattle.pp_flow_law.specs.Tables.{none_leaves}
use Rattle.pp_law.specs.Connections.{is_client, is_conn}
use Rattle.pp_law.specs.Lists.{Bytes}
use Rattle.pp_law.specs.Offers.{has_to_say, is_at_body}
use Rattle.pp_law.specs.Requests.{Front, Parsed, IsRequest, keeps_open}
use Rattle.pp_law.specs.Served.{has_to_ask, may_write}
use Rattle.pp_law.specs.Stages.{reply_of}
use Rattle.pp_law.specs.State.{State, Client, Conn, Term, WriteTo}
use Rattle.pp_law.specs.Table.{Next as LawNext, is_instance, next_of as next_of_law}
use Rattle.pp_law.specs.Turn.{rest_with}
use Rattle.pp_laws.proofs.Lists.{in_find, one_of}
use Rattle.pp_laws.proofs.Sound.{client_number}
use Rattle.pp_laws.proofs.Tests.{same_number}
use Rattle.pp_laws.specs.Runs.{IsIn}
use Rattle.pp_laws_decided.proofs.Laws.{turns_are_decided}
use Rattle.pp_laws_fields.proofs.Laws.{turns_keep_fields}
use Rattle.pp_laws_sides.proofs.Counted.{requests_counted}
use Rattle.pp_laws_sides.proofs.Linked.{numbers_rise}
use Rattle.pp_obeys.proofs.Happenings.{goes_can_write, obeys_by}
use Rattle.pp_obeys.specs.Obeys.{Obeys}
use Rattle.pp_objects.specs.Instances.{is_there}
use Rattle.pp_objects.specs.declared.id.ObjectId.{ObjectId}
use Rattle.pp_proxy.specs.Handling.{Wakes}
use Rattle.pp_proxy.specs.Moving.{Turning, with_desk}
use Rattle.pp_seats.specs.Courses.{has_begun}
use Rattle.pp_seats.specs.Follows.{answer_in, next_by, next_of}
use Rattle.pp_seats.specs.Heads.{asked_in}
use Rattle.pp_seats.specs.Seats.{is_at_body as seat_at_body}
use Rattle.pp_seats.specs.declared.front.Front.{Front as SeatFront}
use Rattle.pp_seats.specs.declared.front.Front.TheVariants.{NoHeadYet as NoneYet, NoHead as NoneThere, Request}
use Rattle.pp_seats.specs.declared.seat.Next.{Next}
use Rattle.pp_seats.specs.declared.seat.Seat.{Seat}
use Rattle.pp_seats.specs.declared.seat.Stage.{Stage}
use Rattle.pp_seats_law.proofs.Nexts.{nexts}
use Rattle.pp_seats_law.proofs.Stages.{begun}
use Rattle.pp_seats_law.specs.Fronts.{ShowsFront}
use Rattle.pp_seats_law.specs.Seats.{ShowsOpen, ShowsSeat}
use Rattle.pp_seats_law.specs.Words.{ShowsNext}
use Rattle.pp_state.specs.Ends.{numbers_of, on_seat_where, parts, place_of}
use Rattle.pp_states_law.proofs.Places.{HasSeat, at_place, has_seat}
use Rattle.pp_talk.specs.Talking.{offered, offered_in}
use Rattle.pp_text.specs.Bytes.{is_empty}
use Rattle.pp_turns_law.proofs.Dry.{at_body}
use Rattle.pp_turns_law.proofs.Drying.{dry}
use Rattle.pp_turns_law.proofs.First.{IsShownAt, seat_shown}
use Rattle.pp_turns_law.proofs.Follows.{has_source, is_next}
use Rattle.pp_turns_law.specs.Nexts.{IsNext}
use Rattle.pp_turns_law.specs.Turns.{IsFollowing}
use Rattle.pp_world.specs.Log.{Log}
use Rattle.pp_world.specs.declared.event.Wants.{Wants}
use Rattle.pp_world.specs.declared.happening.Happening.TheVariants.{CanWrite}
use Rattle.pp_comes_law.specs.Answered.{IsKeptOpen}
use Rattle.pp_comes_law.specs.Awaited.{IsAwaited}
use Rattle.pp_comes_law.specs.ClientWrites.{CanBeWritten, at_write}
use Rattle.pp_comes_law.proofs.KeptOpen.{kept_open}
use Rattle.pp_comes_law.proofs.SilentOnes.{may_look}
use Rattle.pp_comes_law.proofs.ToSay.{kept_of, kept_same, same_clients, to_say}
use Rattle.pp_comes_law.proofs.Wanted.{all_of, at_in, client_goes, client_number_is, either, first_true, found_in, in_mapped, is_that, its, no_conn, number_is, seat_goes, shown}
use Rattle.pp_comes_law.proofs.SettledOnes.{settled_so}

-- ---- of what is at hand

and_true : (a : Bool) → (a && true) ≡ a
and_true true = refl
and_true false = refl

some_taken : (xs : Bytes) → is_empty xs ≡ false → 0 < length (take 65536 xs)
some_taken [] some = absurd (cc some)
some_taken (b ∷ xs) some = omega (arith)

is_so : (b : Bool) → not b ≡ false → b ≡ true
is_so true is = refl
is_so false is = absurd (cc is)

neither : (a b : Bool) → (a || b) ≡ false → (a ≡ false) × (b ≡ false)
neither false b none = (refl, none)
neither true b none = absurd (cc none)

some_offered : (r : Said) (m : Memory) → has_nothing_at_hand r m ≡ false → 0 < length (offered r m)
some_offered r m none = by (next_byte r) (neither (not (is_next_there (next_byte r) m.instances)) (is_empty (at_hand r m.chunks)) none)
  where
    by : (o : Option (ObjectId × ℕ)) → (not (is_next_there o m.instances) ≡ false) × (is_empty (at_hand r m.chunks) ≡ false) → 0 < length (offered_in o r m)
    by None both = some_taken (at_hand r m.chunks) both.1
    by (Some next) both = there (is_there next.0 m.instances) (is_so (is_there next.0 m.instances) both.0)
      where
        there : (b : Bool) → b ≡ true → 0 < length (elim b as (λ t. Bytes) [ true ↦ take 65536 (at_hand r m.chunks) | false ↦ [] ])
        there true is = some_taken (at_hand r m.chunks) both.1
        there false is = absurd (cc is)

-- ---- of its request

keeps_front : (front : SeatFront) (f : Front) (q : Parsed) → ShowsFront front f → f ≡ IsRequest q → keeps_open q ≡ true → keeps_open_in (asked_in front) ≡ true
keeps_front front f q shows is keeps = by front (subst (λ (g : Front). ShowsFront front g) is shows)
  where
    by : (seen : SeatFront) → ShowsFront seen (IsRequest q) → keeps_open_in (asked_in seen) ≡ true
    by NoneYet so = absurd so
    by (NoneThere status) so = absurd so
    by (Request a) so = so.keeps_open ∙ keeps

-- ---- memory stays as it is

touched_cache : (now n : ℕ) (x : Sides) → (touched now n x).parts.cache ≡ x.parts.cache
touched_cache now n x = by (place_of n (numbers_of x.parts.seats))
  where
    by : (o : Option ℕ) → (on_seat_where o (marked_seat now) x.parts).cache ≡ x.parts.cache
    by None = refl
    by (Some i) = refl

-- what is in memory stays, whoever is woken
pub woken_cache : (id : ℕ) (old woken : Desk) → Wakes id old woken → woken.state.cache ≡ old.state.cache
woken_cache id old woken wakes = ap (λ (z : Sides). z.parts.cache) wakes.touches.is ∙ touched_cache wakes.anew.state.now id (sides wakes.anew) ∙ ap (λ (d : Desk). d.state.cache) wakes.regains.rest

-- ---- it is written to

module _ (id i : ℕ) (seat : Seat) (terms : List Term) (log : Log) (number : ℕ → ℕ) (w : Wants) (x : Turning) (u : State) (it : IsAwaited terms log number w x u) (can : CanBeWritten id i seat log w x) (woken : Desk) (wakes : Wakes id x.moving.desk woken) where
  abbrev s : State
  s = rest_with w u

  abbrev v : State
  v = at_write id s

  abbrev was : HasSeat i x.moving.desk.state.seats.items
  was = its terms log number w x u it id i can.place

  same_was : was.seat ≡ seat
  same_was = some_is was.seat seat (sym was.there ∙ can.here)

  abbrev before : IsShownAt number x.moving.desk.state.name.items x.moving.desk.state.seats.items s.clients i
  before = shown terms log number w x u it id i can.place

  pub owed : IsOwed number (WriteTo id) (CanWrite id) (with_desk woken x.moving) s v
  owed = client_writes number id x.moving woken s it.stands it.ready wakes i can.place

  pub alike : AreAlike (parts x.moving.desk.state) (parts woken.state)
  alike = woken_alike number id x.moving woken s it.stands it.ready wakes (WriteTo id)

  pub obeys : Obeys terms v (log ++ CanWrite id ∷ [])
  obeys = obeys_by (CanWrite id) it.obeys (goes_can_write s id it.stands.law.none it.stands.law.at) (λ fails. absurd (cc fails))

  pub place : place_of id (numbers_of woken.state.seats.items) ≡ Some i
  place = ap (λ (ns : List ℕ). place_of id ns) alike.numbers ∙ can.place

  pub now : HasSeat i woken.state.seats.items
  now = has_seat id i woken.state.seats.items (at_place id i woken.state.seats.items owed.stands.desk.turn.steps.order place)

  abbrev kept : WasAlike x.moving.desk.state.seats.items i now.seat
  kept = alike.was i now.seat now.there

  same_kept : kept.old ≡ seat
  same_kept = some_is kept.old seat (sym kept.here ∙ can.here)

  pub going : now.seat.is_closing ≡ false
  going = kept.is.closing ∙ ap (λ (z : Seat). z.is_closing) (same_kept ∙ sym same_was) ∙ seat_goes terms log number w x u it id i can.place

  -- ---- the client that it shows

  seen : IsShownAt number woken.state.name.items woken.state.seats.items v.clients i
  seen = seat_shown number woken.state.name.items woken.state.seats.items v.clients i now.seat owed.stands.desk.turn.steps.shows.clients now.there

  abbrev c : Client
  c = seen.client

  shows : ShowsSeat number woken.state.name.items [] now.seat c
  shows = subst (λ (z : Seat). ShowsSeat number woken.state.name.items [] z c) (some_is seen.seat now.seat (sym seen.here ∙ now.there)) seen.shows

  client_going : c.is_closing ≡ false
  client_going = sym shows.closing ∙ going

  shows_open : ShowsOpen number woken.state.name.items [] now.seat c
  shows_open = shows.going client_going

  client_in : IsIn c v.clients
  client_in = at_in i v.clients c seen.there

  number_now : c.number ≡ id
  number_now = sym shows.number ∙ kept.is.id ∙ ap (λ (z : Seat). z.client.id) (same_kept ∙ sym same_was) ∙ number_is terms log number w x u it id i can.place

  kept_number : (d : Client) → (kept_of id s d).number ≡ d.number
  kept_number d = kept_same id s (λ (e : Client). e.number) (λ b e. anew b e) (λ e. refl) d
    where
      anew : (b : Bool) (e : Client) → (anew_if b e).number ≡ e.number
      anew true e = refl
      anew false e = refl

  is_kept : kept_of id s before.client ≡ c
  is_kept =
      one_of client_number v.clients (kept_of id s before.client) c (numbers_rise terms v (log ++ CanWrite id ∷ []) obeys).clients_rise
      (subst (λ (cs : List Client). IsIn (kept_of id s before.client) cs) (sym (same_clients id s)) (in_mapped (kept_of id s) before.client s.clients (at_in i s.clients before.client before.there)))
      client_in (kept_number before.client ∙ client_number_is terms log number w x u it id i can.place ∙ sym number_now)

  pub follows : IsFollowing woken.state.cache now.seat
  follows = (owed.ready i now.seat now.there going).follows

  -- ---- it has something to say

  may : may_write u id ≡ true
  may = all_of (may_write u) w.write.items id (first_true _ _ it.good.no_more).1 can.came.wanted

  says : has_to_say v c ≡ true
  says = by (either (list_any (λ d. is_client id d && has_to_say u d) u.clients) (list_any (λ k. is_conn id k && k.is_reached && has_to_ask u k) u.conns) may)
    where
      by : (list_any (λ d. is_client id d && has_to_say u d) u.clients ≡ true) ⊎ (list_any (λ k. is_conn id k && k.is_reached && has_to_ask u k) u.conns ≡ true) → has_to_say v c ≡ true
      by (inl any) =
          let one = found_in (λ (d : Client). is_client id d && has_to_say u d) u.clients any in
          let both = first_true (is_client id one.it) (has_to_say u one.it) one.is in
          ap (λ (d : Client). has_to_say v d) (sym (ap (kept_of id s) (is_that terms log number w x u it id i can.place one.it one.there (same_number one.it.number id both.0)) ∙ is_kept)) ∙ to_say w u id one.it ∙ both.1
      by (inr any) =
          let one = found_in (λ (k : Conn). is_conn id k && k.is_reached && has_to_ask u k) u.conns any in
          let both = first_true (is_conn id one.it && one.it.is_reached) (has_to_ask u one.it) one.is in
          let its_own = first_true (is_conn id one.it) one.it.is_reached both.0 in
          absurd (no_conn terms log number w x u it id i can.place one.it one.there (same_number one.it.number id its_own.0))

  says_on : is_dry woken.state now.seat ≡ false
  says_on = dry number none_leaves woken.peers woken.state v woken.state.name.items now.seat c owed.stands.desk.turn shows client_going follows ∙ ap not says

  pub some : next_on_disk woken.state now.seat ≡ None → 0 < length (offered now.seat.client.reply woken.state.cache)
  some held =
      some_offered now.seat.client.reply woken.state.cache
      (sym (and_true (has_nothing_at_hand now.seat.client.reply woken.state.cache)) ∙ ap (λ (o : Option Next). has_nothing_at_hand now.seat.client.reply woken.state.cache && not (is_some o)) (sym held) ∙ says_on)

  -- ---- its next byte is one of the body

  pub within : (n : Next) → next_of now.seat ≡ Some n → (n.at < n.to) × (n.to ≤ 1073741824)
  within n is = by (next_of_law v c) refl
    where
      same : ShowsNext number (next_of now.seat) (next_of_law v c)
      same = nexts number v woken.state.name.items [] now.seat c shows (λ on. has_source number none_leaves woken.peers woken.state v woken.state.name.items now.seat c owed.stands.desk.turn shows client_going follows)

      by : (o : Option LawNext) → next_of_law v c ≡ o → (n.at < n.to) × (n.to ≤ 1073741824)
      by None law = absurd (subst (λ (o : Option LawNext). ShowsNext number (Some n) o) law (subst (λ (o : Option Next). ShowsNext number o (next_of_law v c)) is same))
      by (Some k) law =
          let next : IsNext number woken.state.cache v n k =
          is_next number none_leaves woken.peers woken.state v woken.state.name.items now.seat c n k owed.stands.desk.turn shows client_going follows is law
          (subst (λ (o : Option LawNext). ShowsNext number (Some n) o) law (subst (λ (o : Option Next). ShowsNext number o (next_of_law v c)) is same)) in
          let its_span : (k.at < k.to) × (k.to ≤ k.source.version.length) = (turns_are_decided terms v (log ++ CanWrite id ∷ []) obeys).next c k client_in law in
          let short : k.source.version.length ≤ 2 ^ 30 = ((turns_keep_fields terms v (log ++ CanWrite id ∷ []) obeys).rows k.source (in_find (is_instance (number n.source.life)) k.source v.instances next.known).0).short in
          (omega (arith, its_span.0, next.at, next.to), omega (arith, its_span.1, short, next.to))

  -- ---- it can go on

  pub goes : has_begun now.seat ≡ true → now.seat.closes ≡ false → GoesOn now.seat
  goes on stays = record {
    stays = stays;
    keeps = keeps_front now.seat.front c.front asked.request shows_open.front asked.front asked.keeps;
    counted = let le : c.index ≤ 256 * length (log ++ CanWrite id ∷ []) = requests_counted terms v (log ++ CanWrite id ∷ []) obeys c client_in in let long : length (log ++ CanWrite id ∷ []) ≡ length log + 1 = length-append log (CanWrite id ∷ []) in omega (arith, can.short, shows_open.index);
  }
    where
      asked : IsKeptOpen c
      asked = kept_open terms v (log ++ CanWrite id ∷ []) obeys c client_in (sym (begun number woken.state.name.items [] now.seat c shows_open) ∙ on) (sym shows_open.closes ∙ stays)

  -- ---- what is as it was

  pub same_cache : woken.state.cache ≡ x.moving.desk.state.cache
  same_cache = woken_cache id x.moving.desk woken wakes

  pub looks : length woken.state.awake.items < vec_capacity woken.state.awake
  looks = subst (λ a. length a.items < vec_capacity a) (sym (ap (λ (d : Desk). d.state.awake) wakes.touches.rest ∙ ap (λ (d : Desk). d.state.awake) wakes.regains.rest)) (may_look terms log number w x u it)

  pub still : woken.state.is_ticked ≡ false
  still = ap (λ (d : Desk). d.state.is_ticked) wakes.touches.rest ∙ ap (λ (d : Desk). d.state.is_ticked) wakes.regains.rest ∙ it.still

  pub settled : AreSettled woken.state.seats.items
  settled j other here = let one : WasAlike x.moving.desk.state.seats.items j other = alike.was j other here in settled_as one.old other one.is (settled_so terms log number w x u it j one.old one.here)

  -- ---- its next byte is where it was

  before_shows : ShowsOpen number x.moving.desk.state.name.items [] seat before.client
  before_shows = subst (λ (z : Seat). ShowsOpen number x.moving.desk.state.name.items [] z before.client) (some_is before.seat seat (sym before.here ∙ can.here)) (before.shows.going (client_goes terms log number w x u it id i can.place))

  body_same : is_at_body c ≡ is_at_body before.client
  body_same = ap (λ (d : Client). is_at_body d) (sym is_kept) ∙ kept_same id s (λ (d : Client). is_at_body d) (λ b d. anew b d) (λ d. refl) before.client
    where
      anew : (b : Bool) (d : Client) → is_at_body (anew_if b d) ≡ is_at_body d
      anew true d = refl
      anew false d = refl

  at_body_now : seat_at_body now.seat ≡ seat_at_body seat
  at_body_now =
      at_body c.interim_left (reply_of c) (has_begun now.seat) now.seat.before_body (begun number woken.state.name.items [] now.seat c shows_open) shows_open.before_body ∙ body_same
      ∙ sym (at_body before.client.interim_left (reply_of before.client) (has_begun seat) seat.before_body (begun number x.moving.desk.state.name.items [] seat before.client before_shows) before_shows.before_body)

  next_now : next_of now.seat ≡ next_of seat
  next_now =
      ap (λ (b : Bool). elim b as (λ t. Option Next) [ true ↦ None | false ↦ next_by (answer_in now.seat.stage) now.seat.client.reply ]) (kept.is.closing ∙ ap (λ (z : Seat). z.is_closing) same_kept)
      ∙ ap₂ (λ (t : Stage) (r : Said). elim seat.is_closing as (λ t. Option Next) [ true ↦ None | false ↦ next_by (answer_in t) r ]) (kept.is.stage ∙ ap (λ (z : Seat). z.stage) same_kept) (kept.is.reply ∙ ap (λ (z : Seat). z.client.reply) same_kept)

  pub same_next : next_on_disk woken.state now.seat ≡ next_on_disk x.moving.desk.state seat
  same_next =
      ap (λ (b : Bool). elim b as (λ t. Option Next) [ true ↦ option_and_then (if_on_disk woken.state.cache) (next_of now.seat) | false ↦ None ]) at_body_now
      ∙ ap₂ (λ (m : Memory) (o : Option Next). elim (seat_at_body seat) as (λ t. Option Next) [ true ↦ option_and_then (if_on_disk m) o | false ↦ None ]) same_cache next_now
