-- As an attempt is lost, a row whose hole nobody fills is cleared in the turn and in the law alike: which entries stand no more is noted still.
use Rattle.std.proofs.Common.{◌≡◌, ◌<◌, refl, sym, subst, ap, ◌∙◌, ℕ, Bool, true, false, ◌==◌, ◌&&◌, cond, find, length, List, [], ◌∷◌, Some, None, Option, arith}
use Rattle.std.proofs.lemmas.Bool.Decides.{nat_tests}
use Rattle.std.specs.List.{list_any}
use Rattle.std.specs.Prelude.{option_map, slice_set}
use Rattle.pp_cache.specs.Memory.{retired_at}
use Rattle.pp_cache_law.proofs.Noted.{clearings_of}
use Rattle.pp_cache_law.proofs.Numbers.{some_is}
use Rattle.pp_cache_law.specs.Outdated.{AreNamed, AreNoted}
use Rattle.pp_flow.specs.Changes.{entry_of}
use Rattle.pp_flow.specs.Errands.{attempts_in}
use Rattle.pp_flow.specs.declared.entry.Entry.{Entry}
use Rattle.pp_flow_law.proofs.Entries.{none_some}
use Rattle.pp_flow_law.specs.Tables.{Leaving}
use Rattle.pp_law.specs.Closing.{left_alone}
use Rattle.pp_law.specs.Connections.{attempts_of, charge, give_up_row, is_client, is_exchange, is_for, is_out, is_unfilled, lose_attempt, lost_one, on_client_of, on_exchange, without_row}
use Rattle.pp_law.specs.Lists.{Bytes, change, is_some_with}
use Rattle.pp_law.specs.State.{State, Client, Course, Exchange}
use Rattle.pp_law.specs.Table.{clear, is_same_version, row}
use Rattle.pp_peers.specs.declared.peers.Peer.{Peer}
use Rattle.pp_seats.specs.Courses.{lost_one as lost_one_in}
use Rattle.pp_seats.specs.declared.seat.Course.{Course as SeatCourse}
use Rattle.pp_seats.specs.declared.seat.Seat.{Seat}
use Rattle.pp_seats_law.proofs.Entries.{exchanges}
use Rattle.pp_seats_law.proofs.Fates.{attempts}
use Rattle.pp_seats_law.specs.Exchanges.{ShowsExchange}
use Rattle.pp_seats_law.specs.Fates.{filled_in}
use Rattle.pp_state.specs.Ends.{Parts, charged, charged_at, cleared_of, dropped_row, given_up_row, lost_attempt, numbers_of, on_seat, place_of, seat_for, with_course}
use Rattle.pp_state.specs.Keys.{key_of}
use Rattle.pp_states_law.proofs.Changed.{asker_is}
use Rattle.pp_states_law.proofs.Charged.{Costs, asker_rest, lost_given, number_is, on_asker, same_entry, unfilled_same}
use Rattle.pp_states_law.proofs.Places.{HasNone, HasPlace, HasSeat, at_place, has_none, has_place, has_seat, numbers_set}
use Rattle.pp_states_law.specs.Charges.{GoesOn, IsFor, IsThere}
use Rattle.pp_states_law.specs.Steps.{ShowsSteps}
use Rattle.pp_target.specs.Key.{text_of}

abbrev pub Noted : Parts → State → Type 0
Noted p s = AreNoted p.cache.outdated s.displaced s.entries

-- ---- a row whose hole nobody fills

module _ (number : ℕ → ℕ) (name : Bytes) (l : Leaving) (peers : List Peer) (p : Parts) (s : State) (shows : ShowsSteps number name l peers p s) (n i c : ℕ) (x : Entry) (e : Exchange) (there : IsThere n p s x e) (asks : e.asker ≡ Some c) (place : place_of c (numbers_of p.seats) ≡ Some i)
    (goes : IsFor s e GoesOn) (named : AreNamed s.entries) (few : length p.cache.outdated < 2048) (noted : Noted p s) where
  shown : ShowsExchange number x e
  shown = same_entry number name l peers p s shows n x e there

  key : key_of x.exchange.number p.flow ≡ Some (text_of e.key)
  key =
      ap (λ (m : ℕ). key_of m p.flow) (shown.number ∙ number_is n s e there.there)
      ∙ ap (λ (o : Option Entry). option_map (λ y. y.key.items) o) there.here
      ∙ ap (λ (text : List ℕ). Some text) shown.text_key

  -- the law's, behind it
  abbrev cleared : State
  cleared = on_exchange e.number left_alone (on_client_of e without_row (clear (text_of e.key) s))

  same_entries : AreNoted (retired_at (text_of e.key) p.cache).outdated (clear (text_of e.key) s).displaced (clear (text_of e.key) s).entries → AreNoted (retired_at (text_of e.key) p.cache).outdated cleared.displaced cleared.entries
  unfolding on_exchange on_client_of
  same_entries all = all

  dropped : Noted (dropped_row i x.exchange p) cleared
  dropped =
      subst (λ (o : Option (List ℕ)). AreNoted (cleared_of o p).cache.outdated cleared.displaced cleared.entries) (sym key)
      (same_entries (clearings_of p.cache s (text_of e.key) noted named few).0)

  pub given_up_noted : Noted (given_up_row i x.exchange p) (give_up_row e s)
  unfolding given_up_row give_up_row
  given_up_noted =
      subst (λ (b : Bool). Noted (cond b (dropped_row i x.exchange p) p) (elim (is_unfilled s e) as (λ t. State) [ false ↦ s | true ↦ cleared ]))
      (sym (unfilled_same number name l peers p s shows n i c x e there asks place goes)) (by (is_unfilled s e))
    where
      by : (b : Bool) → Noted (cond b (dropped_row i x.exchange p) p) (elim b as (λ t. State) [ false ↦ s | true ↦ cleared ])
      by true = dropped
      by false = noted

-- ---- what it costs

and_false : (b : Bool) → b && false ≡ false
and_false true = refl
and_false false = refl

none_filled : (s : State) (e : Exchange) → list_any (λ c. is_for e c && is_out c.course) s.clients ≡ false → is_unfilled s e ≡ false
none_filled s e none =
    ap (λ (b : Bool). is_some_with (λ v. is_some_with (λ y. is_same_version v y.version) (row s (text_of e.key))) (filled_in e.aim) && b) none
    ∙ and_false (is_some_with (λ v. is_some_with (λ y. is_same_version v y.version) (row s (text_of e.key))) (filled_in e.aim))

abbrev law_given_up_if : Exchange → State → Bool → State
law_given_up_if e s b = elim b as (λ t. State) [ false ↦ s | true ↦ on_exchange e.number left_alone (on_client_of e without_row (clear (text_of e.key) s)) ]

nobody_pays : (cost : Course → Course) (s : State) (e : Exchange) → HasNone e.asker s.clients → charge cost e s ≡ s
unfolding charge give_up_row on_client_of
nobody_pays cost s e none =
    ap (λ (cs : List Client). give_up_row e (record s { clients = cs })) (none.changes (λ c. record c { course = cost c.course }))
    ∙ ap (λ (b : Bool). law_given_up_if e s b) (none_filled s e (none.asks (λ c. is_out c.course)))

-- the client is found as it was changed
record WasFound (n : ℕ) (g : Client → Client) (cs : List Client) (d : Client) : Type 0 where
  before : Client
  there : find (is_client n) cs ≡ Some before
  is : d ≡ g before

was_found : (n : ℕ) (g : Client → Client) → ((c : Client) → (g c).number ≡ c.number) → (cs : List Client) (d : Client) → find (is_client n) (change (asker_is (Some n)) g cs) ≡ Some d → WasFound n g cs d
was_found n g keeps [] d found = absurd (none_some d found)
was_found n g keeps (c ∷ cs) d found = by (n == c.number) refl found (was_found n g keeps cs d)
  where
    back : (m k : ℕ) (b : Bool) → (m == k) ≡ b → (k == m) ≡ b
    back m k true is = grind (arith, nat_tests)
    back m k false is = grind (arith, nat_tests)

    by : (b : Bool) → (n == c.number) ≡ b
        → cond (is_client n (elim b as (λ t. Client) [ true ↦ g c | false ↦ c ])) (Some (elim b as (λ t. Client) [ true ↦ g c | false ↦ c ])) (find (is_client n) (change (asker_is (Some n)) g cs)) ≡ Some d
        → (find (is_client n) (change (asker_is (Some n)) g cs) ≡ Some d → WasFound n g cs d) → WasFound n g (c ∷ cs) d
    by true is f rest = record {
      before = c;
      there = ap (λ (t : Bool). cond t (Some c) (find (is_client n) cs)) (back n c.number true is);
      is = sym (some_is (g c) d (sym (ap (λ (t : Bool). cond t (Some (g c)) (find (is_client n) (change (asker_is (Some n)) g cs))) (ap (λ (m : ℕ). m == n) (keeps c) ∙ back n c.number true is)) ∙ f));
    }
    by false is f rest =
        let one : WasFound n g cs d = rest (sym (ap (λ (t : Bool). cond t (Some c) (find (is_client n) (change (asker_is (Some n)) g cs))) (back n c.number false is)) ∙ f) in
        record { before = one.before; there = ap (λ (t : Bool). cond t (Some c) (find (is_client n) cs)) (back n c.number false is) ∙ one.there; is = one.is }

abbrev at_seat : ℕ → (Seat → Seat) → List Seat → Option Seat → List Seat
at_seat i f seats o = elim o as (λ x. List Seat) [ None ↦ seats | Some seat ↦ slice_set seats i (f seat) ]

module _ (number : ℕ → ℕ) (name : Bytes) (l : Leaving) (peers : List Peer) (p : Parts) (s : State) (shows : ShowsSteps number name l peers p s) (n : ℕ) (x : Entry) (e : Exchange) (there : IsThere n p s x e) (goes : IsFor s e GoesOn) (named : AreNamed s.entries) (few : length p.cache.outdated < 2048)
    (noted : Noted p s) where
  itself : ShowsExchange number x e
  itself = same_entry number name l peers p s shows n x e there

  module _ (cost_in : SeatCourse → SeatCourse) (cost : Course → Course) (costs : Costs number name s e cost_in cost) where
    abbrev paid : Client → Client
    paid d = record d { course = cost d.course }

    numbers_kept : (i : ℕ) → HasSeat i p.seats → numbers_of (on_seat i (with_course cost_in) p).seats ≡ numbers_of p.seats
    numbers_kept i one = ap (λ (o : Option Seat). numbers_of (at_seat i (with_course cost_in) p.seats o)) one.there ∙ numbers_set i p.seats one.seat (with_course cost_in one.seat) one.there refl

    still_at : (m : ℕ) (d : Client) → e.asker ≡ Some m → WasFound m paid s.clients d → GoesOn d
    still_at m d asks was =
        let on : GoesOn was.before = goes m was.before asks was.there in
        subst (λ (y : Client). GoesOn y) (sym was.is) (record { going = on.going; given = costs.given was.before.course on.given })

    still : IsFor (on_client_of e paid s) e GoesOn
    still m d asks found =
        still_at m d asks
        (was_found m paid (λ y. refl) s.clients d
        (ap (λ (asker : Option ℕ). find (is_client m) (change (asker_is asker) paid s.clients)) (sym asks) ∙ ap (λ (cs : List Client). find (is_client m) cs) (sym (asker_rest e paid s).1) ∙ found))

    paid_noted : (i : ℕ) → Noted (on_seat i (with_course cost_in) p) (on_client_of e paid s) × AreNamed (on_client_of e paid s).entries
    unfolding on_client_of
    paid_noted i = (noted, named)

    at_place_noted : (i c : ℕ) → e.asker ≡ Some c → place_of c (numbers_of p.seats) ≡ Some i → Noted (given_up_row i x.exchange (on_seat i (with_course cost_in) p)) (charge cost e s)
    unfolding charge
    at_place_noted i c asks place =
        let one : HasSeat i p.seats = has_seat c i p.seats (at_place c i p.seats shows.order place) in
        given_up_noted number name l peers (on_seat i (with_course cost_in) p) (on_client_of e paid s)
        (on_asker number name l peers p s shows e c i (with_course cost_in) paid asks place (record { follows = λ id d. refl; id = λ seat. refl; shows = λ seat d at found shown. costs.along c seat d asks found shown })) n i c x e
        (record { here = there.here; there = ap (λ (es : List Exchange). find (is_exchange n) es) (asker_rest e paid s).0 ∙ there.there }) asks
        (ap (λ (ns : List ℕ). place_of c ns) (numbers_kept i one) ∙ place) still (paid_noted i).1 few (paid_noted i).0

    charge_noted : Noted (charged cost_in x.exchange p) (charge cost e s)
    unfolding charged_at
    charge_noted = by (seat_for x.exchange p.seats) refl
      where
        by : (o : Option ℕ) → seat_for x.exchange p.seats ≡ o → Noted (charged_at o cost_in x.exchange p) (charge cost e s)
        by None none =
            subst (λ (t : State). Noted p t)
            (sym (nobody_pays cost s e (subst (λ (asker : Option ℕ). HasNone asker s.clients) itself.asker (has_none number name [] x.exchange.asker p.seats s.clients shows.shows.clients none)))) noted
        by (Some i) at =
            let one : HasPlace x.exchange.asker (numbers_of p.seats) i = has_place x.exchange.asker (numbers_of p.seats) i at in
            at_place_noted i one.client (sym itself.asker ∙ one.asks) one.place

  here : entry_of x.exchange.number p.flow ≡ Some x
  here = ap (λ (m : ℕ). entry_of m p.flow) (itself.number ∙ number_is n s e there.there) ∙ there.here

  pub lost_noted : Noted (lost_attempt x.exchange p) (lose_attempt e s)
  unfolding lose_attempt
  lost_noted =
      subst (λ (o : Option Entry). Noted (elim o as (λ t. Parts) [ None ↦ p | Some y ↦ charged (lost_one_in (attempts_in y.errand.is_asked_once)) x.exchange p ]) (charge (lost_one (attempts_of e)) e s)) (sym here)
      (subst (λ (most : ℕ). Noted (charged (lost_one_in most) x.exchange p) (charge (lost_one (attempts_of e)) e s)) (sym (exchanges number x e itself).attempts)
      (charge_noted (lost_one_in (attempts_of e)) (lost_one (attempts_of e))
      (record { along = λ m seat c asks found one. attempts (attempts_of e) number name [] seat c one; given = lost_given (attempts_of e) })))
