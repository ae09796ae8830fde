-- What an exchange costs its request.
use Rattle.std.proofs.Common.{◌≡◌, ◌⊎◌, inl, inr, refl, sym, subst, ap, ap₂, ◌∙◌, ℕ, Bool, true, false, ◌==◌, ◌&&◌, ◌||◌, cond, find, List, [], ◌∷◌, Some, None, Option, ◌+◌, nat_le, arith}
use Rattle.std.specs.List.{list_any}
use Rattle.std.specs.Prelude.{option_map, slice_get, slice_set}
use Rattle.pp_cache_law.proofs.Alike.{versions_of}
use Rattle.pp_cache_law.proofs.Numbers.{some_is}
use Rattle.pp_cache_law.specs.Pairs.{AreBoth}
use Rattle.pp_flow.specs.declared.entry.Aim.{Aim as SeatAim}
use Rattle.pp_flow.specs.declared.entry.Entry.{Entry}
use Rattle.pp_flow.specs.declared.entry.Exchange.{Exchange as SeatExchange}
use Rattle.pp_flow_law.proofs.Entries.{same_number, none_some}
use Rattle.pp_flow_law.specs.Tables.{Leaving}
use Rattle.pp_law.specs.Closing.{left_alone}
use Rattle.pp_law.specs.Connections.{exchange, give_up_row, is_client, is_for, is_out, is_unfilled, on_client_of, on_exchange, without_row, attempts_of, charge, fail, is_exchange, lose_attempt, lost_one, out_of_tries, anew}
use Rattle.pp_law.specs.Lists.{Bytes, is_some_with, is_this, change}
use Rattle.pp_law.specs.Stages.{is_begun}
use Rattle.pp_law.specs.State.{State, Aim, Client, Course, Exchange, Instance as Known, RowRefused, Trying, OutOfTries, AskTooLong}
use Rattle.pp_law.specs.Table.{clear, follows, is_same_version, row}
use Rattle.pp_peers.specs.declared.peers.Peer.{Peer}
use Rattle.pp_peers_law.proofs.Finds.{found_number}
use Rattle.pp_seats.specs.Courses.{has_begun, is_unfilled as is_unfilled_of, without_row as seat_without_row, lost_one as lost_one_in}
use Rattle.pp_seats.specs.declared.seat.Brought.{Brought as SeatBrought}
use Rattle.pp_seats.specs.declared.seat.Brought.TheVariants.{Awaited as NoneYet, Useless as NoneOfUse, Joins as JoinsRow, Passes as PassesOn, TooWide as IsTooWide, Refused}
use Rattle.pp_seats.specs.declared.seat.Course.{Course as SeatCourse}
use Rattle.pp_seats.specs.declared.seat.Course.TheVariants.{Trying as IsTrying, OutOfTries as IsOut}
use Rattle.pp_seats.specs.declared.seat.Seat.{Seat}
use Rattle.pp_seats_law.proofs.AllSeats.{places}
use Rattle.pp_seats_law.proofs.Fates.{rows_leave, unfilled, attempts, ends as attempts_end}
use Rattle.pp_seats_law.specs.Clients.{IsAt, IsFound}
use Rattle.pp_seats_law.specs.Exchanges.{ShowsExchange}
use Rattle.pp_seats_law.specs.Fates.{aim_of, filled_in, is_refused}
use Rattle.pp_seats_law.specs.Replies.{IsOwed, ShowsFate, course_of}
use Rattle.pp_seats_law.specs.Seats.{ShowsSeat}
use Rattle.pp_states_law.proofs.Changed.{askers, asker_is}
use Rattle.pp_states_law.proofs.Cleared.{clears}
use Rattle.pp_states_law.proofs.Ended.{leaves}
use Rattle.pp_states_law.specs.Clients.{FollowsOn}
use Rattle.pp_states_law.specs.Charges.{GoesOn, IsFor, IsThere, RowsAreTheLaws, FailuresAreTheLaws, LossesAreTheLaws}
use Rattle.pp_state.specs.Ends.{AreInOrder, Parts, cleared_key, cleared_of, dropped_row, given_up_row, left, is_unfilled_at, is_unfilled_by, numbers_of, on_seat, place_of, version_at, charged, charged_at, seat_for, with_course}
use Rattle.pp_state.specs.Keys.{key_of}
use Rattle.pp_states_law.specs.Steps.{ShowsSteps, whole}
use Rattle.pp_states_law.proofs.Places.{HasPlace, HasSeat, at_place, has_place, has_seat, numbers_set, one_asks, HasNone, has_none}
use Rattle.pp_states_law.proofs.Told.{asker_next, clear_next, exchange_next, told_cleared, told_left, told_next}
use Rattle.pp_target.specs.Key.{text_of}
use Rattle.pp_valid.specs.declared.version.Version.{Version}
use Rattle.std.proofs.lemmas.Bool.Decides.{nat_tests}
use Rattle.pp_flow.specs.Changes.{entry_of}
use Rattle.pp_flow.specs.Errands.{attempts_in}
use Rattle.pp_seats_law.proofs.Entries.{exchanges}

-- ---- the client of an exchange is changed

pub record GoesAlong (number : ℕ → ℕ) (name : Bytes) (n i : ℕ) (p : Parts) (s : State) (f : Seat → Seat) (g : Client → Client) : Type 0 where
  pub follows : FollowsOn g
  pub id : (seat : Seat) → (f seat).client.id ≡ seat.client.id
  pub shows : (seat : Seat) (c : Client) → slice_get p.seats i ≡ Some seat → find (is_client n) s.clients ≡ Some c → ShowsSeat number name [] seat c → ShowsSeat number name [] (f seat) (g c)

abbrev at_seat : ℕ → (Seat → Seat) → List Seat → Option Seat → List Seat
at_seat i f seats o = elim o as (λ x. List Seat) [ None ↦ seats | Some seat ↦ slice_set seats i (f seat) ]

pub on_asker : (number : ℕ → ℕ) (name : Bytes) (l : Leaving) (peers : List Peer) (p : Parts) (s : State) → ShowsSteps number name l peers p s → (e : Exchange) (n i : ℕ) (f : Seat → Seat) (g : Client → Client) → e.asker ≡ Some n
    → place_of n (numbers_of p.seats) ≡ Some i → GoesAlong number name n i p s f g → ShowsSteps number name l peers (on_seat i f p) (on_client_of e g s)
on_asker number name l peers p s shows e n i f g asks place goes =
    subst (λ (o : Option Seat). ShowsSteps number name l peers (record p { seats = at_seat i f p.seats o }) (on_client_of e g s)) (sym one.there)
    (record {
      shows = askers number name [] l (whole p peers) s shows.shows e n i (f one.seat) g asks at goes.follows (λ seat c there found shown. again seat c there (goes.shows seat c there found shown));
      order = subst (λ (ns : List ℕ). AreInOrder ns) (sym (numbers_set i p.seats one.seat (f one.seat) one.there (goes.id one.seat))) shows.order;
      told = told_next number p.cache s.next_instance (on_client_of e g s).next_instance p.flow (asker_next e g s) shows.told;
      refused = shows.refused;
    })
  where
    at : IsAt n i p.seats
    at = at_place n i p.seats shows.order place

    one : HasSeat i p.seats
    one = has_seat n i p.seats at

    again : (seat : Seat) (c : Client) → slice_get p.seats i ≡ Some seat → ShowsSeat number name [] (f seat) (g c) → ShowsSeat number name [] (f one.seat) (g c)
    again seat c there shown = subst (λ (x : Seat). ShowsSeat number name [] (f x) (g c)) (some_is seat one.seat (sym there ∙ one.there)) shown

-- ---- its course

pub course_shown : (number : ℕ → ℕ) (name : Bytes) (seat : Seat) (c : Client) → ShowsSeat number name [] seat c → GoesOn c → course_of seat.course ≡ c.course
course_shown number name seat c shows on = by seat.brought (shows.going on.going).fate
  where
    not_so : (c.course ≡ RowRefused) ⊎ IsOwed [] c.front → ⊥
    not_so (inl is) = absurd (let both : true ≡ false = sym (ap is_refused is) ∙ on.given in cc both)
    not_so (inr it) = absurd (let both : false ≡ true = it.is_owed in cc both)

    by : (brought : SeatBrought) → ShowsFate number name [] seat.client.reply seat.course brought c → course_of seat.course ≡ c.course
    by NoneYet fate = fate.0
    by NoneOfUse fate = fate.0
    by (JoinsRow id plain) fate = fate.0
    by (PassesOn x) fate = fate.0
    by IsTooWide fate = fate.0
    by Refused fate = absurd (not_so fate.refused)

-- ---- a hole that nobody fills

pub same_entry : (number : ℕ → ℕ) (name : Bytes) (l : Leaving) (peers : List Peer) (p : Parts) (s : State) → ShowsSteps number name l peers p s → (n : ℕ) (x : Entry) (e : Exchange) → IsThere n p s x e → ShowsExchange number x e
same_entry number name l peers p s shows n x e there =
    subst (λ (o : Option Exchange). AreBoth (ShowsExchange number) (Some x) o) there.there
    (subst (λ (o : Option Entry). AreBoth (ShowsExchange number) o (exchange s n)) there.here (shows.shows.exchanges.each n))

pub number_is : (n : ℕ) (s : State) (e : Exchange) → exchange s n ≡ Some e → e.number ≡ n
number_is n s e there = same_number e.number n (found_number n s.exchanges e there)

none_filled : (o : Option Version) (b : Bool) → is_some_with (λ v. false) o && b ≡ false
none_filled None b = refl
none_filled (Some v) b = refl

abbrev law_unfilled : Option Known → Aim → Bool → Bool
law_unfilled o aim b = is_some_with (λ v. is_some_with (λ y. is_same_version v y.version) o) (filled_in aim) && b

by_row : (aim : SeatAim) (course : SeatCourse) (b : Bool) (o : Option Known) (e : SeatExchange) (seat : Seat) → e.aim ≡ aim → seat.course ≡ course → is_out (course_of course) ≡ b
    → is_unfilled_by e (Some seat) (option_map (λ y. y.version) o) ≡ law_unfilled o (aim_of aim) b
by_row aim course b None e seat is has out = sym (none_filled (filled_in (aim_of aim)) b)
by_row aim course b (Some y) e seat is has out =
    ap₂ (λ (a : SeatAim) (k : SeatCourse). is_unfilled_of a k y.version) is has ∙ unfilled aim course y.version
    ∙ ap (λ (t : Bool). is_some_with (λ v. is_same_version v y.version) (filled_in (aim_of aim)) && t) out

abbrev unfilled_in : Parts → SeatExchange → Option Seat → Option (List ℕ) → Bool
unfilled_in p e o key = is_unfilled_by e o (version_at key p.cache)

pub unfilled_same : (number : ℕ → ℕ) (name : Bytes) (l : Leaving) (peers : List Peer) (p : Parts) (s : State) → ShowsSteps number name l peers p s → (n i c : ℕ) (x : Entry) (e : Exchange) → IsThere n p s x e → e.asker ≡ Some c
    → place_of c (numbers_of p.seats) ≡ Some i → IsFor s e GoesOn → is_unfilled_at i x.exchange p ≡ is_unfilled s e
unfilled_same number name l peers p s shows n i c x e there asks place goes =
    ap₂ (λ (o : Option Seat) (key : Option (List ℕ)). unfilled_in p x.exchange o key) one.there key
    ∙ ap (λ (o : Option Version). is_unfilled_by x.exchange (Some one.seat) o) version
    ∙ by_row x.exchange.aim one.seat.course (is_out found.client.course) (row s (text_of e.key)) x.exchange one.seat refl refl
    (ap is_out (course_shown number name one.seat found.client found.shows (goes c found.client asks found.there)))
    ∙ ap (λ (aim : Aim). law_unfilled (row s (text_of e.key)) aim (is_out found.client.course)) shown.aim
    ∙ ap (λ (b : Bool). law_unfilled (row s (text_of e.key)) e.aim b) out
  where
    at : IsAt c i p.seats
    at = at_place c i p.seats shows.order place

    one : HasSeat i p.seats
    one = has_seat c i p.seats at

    found : IsFound number name [] one.seat c s.clients
    found = places number name [] p.seats s.clients c i one.seat shows.shows.clients at one.there

    shown : ShowsExchange number x e
    shown = same_entry number name l peers p s shows n x e there

    key : key_of x.exchange.number p.flow ≡ Some (text_of e.key)
    key =
        ap (λ (m : ℕ). key_of m p.flow) (shown.number ∙ number_is n s e there.there)
        ∙ ap (λ (o : Option Entry). option_map (λ y. y.key.items) o) there.here
        ∙ ap (λ (text : List ℕ). Some text) shown.text_key

    version : version_at (Some (text_of e.key)) p.cache ≡ option_map (λ y. y.version) (row s (text_of e.key))
    version = versions_of number p.cache s shows.shows.table.table (text_of e.key)

    out : is_out found.client.course ≡ list_any (λ d. is_for e d && is_out d.course) s.clients
    out =
        sym (one_asks number name [] c i (λ d. is_out d.course) p.seats s.clients found.client shows.shows.clients at found.there)
        ∙ ap (λ (asker : Option ℕ). list_any (λ d. is_this d.number asker && is_out d.course) s.clients) (sym asks)

-- ---- the row is cleared

-- memory was refused for no row
abbrev given_all : Parts → Parts
given_all p = record p { refused = [] }

all_given : (number : ℕ → ℕ) (name : Bytes) (l : Leaving) (peers : List Peer) (p : Parts) (s : State) → ShowsSteps number name l peers p s → ShowsSteps number name l peers (given_all p) s
all_given number name l peers p s shows = record { shows = shows.shows; order = shows.order; told = shows.told; refused = refl }

-- what holds where it was refused for none holds of these
as_given : (number : ℕ → ℕ) (name : Bytes) (l : Leaving) (peers : List Peer) (p : Parts) (s t : State) (f : Parts → Parts) → ShowsSteps number name l peers p s → ShowsSteps number name l peers (f (given_all p)) t → ShowsSteps number name l peers (f p) t
as_given number name l peers p s t f shows it = subst (λ (keys : List (List ℕ)). ShowsSteps number name l peers (f (record p { refused = keys })) t) (sym shows.refused) it

pub clears_row : (number : ℕ → ℕ) (name : Bytes) (l : Leaving) (peers : List Peer) (p : Parts) (s : State) → ShowsSteps number name l peers p s → (key : Bytes) → ShowsSteps number name l peers (cleared_key key (given_all p)) (clear key s)
clears_row number name l peers p s shows key = record {
  shows = clears number name [] l (whole p peers) s shows.shows key;
  order = shows.order;
  told = told_cleared number key p.cache s.next_instance (clear key s).next_instance p.flow (clear_next key s) shows.told;
  refused = refl;
}

-- ---- its request is decided without it

without_row_follows : FollowsOn without_row
without_row_follows id c = by (is_begun c || c.has_given_up)
  where
    by : (b : Bool) → follows id (elim b as (λ t. Client) [ true ↦ c | false ↦ record c { course = anew c.course; has_given_up = true } ]) ≡ follows id c
    by true = refl
    by false = refl

without_row_id : (seat : Seat) → (seat_without_row seat).client.id ≡ seat.client.id
without_row_id seat = by (has_begun seat || seat.has_given_up)
  where
    by : (b : Bool) → (elim b as (λ t. Seat) [ true ↦ seat | false ↦ record seat { course = IsTrying 0; has_given_up = true } ]).client.id ≡ seat.client.id
    by true = refl
    by false = refl

-- ---- its request leaves it

leaves_exchange : (number : ℕ → ℕ) (name : Bytes) (l : Leaving) (peers : List Peer) (p : Parts) (s : State) → ShowsSteps number name l peers p s → (n : ℕ) → ShowsSteps number name l peers (left n p) (on_exchange n left_alone s)
leaves_exchange number name l peers p s shows n = record {
  shows = leaves number name [] l (whole p peers) s shows.shows n;
  order = shows.order;
  told = told_next number p.cache s.next_instance (on_exchange n left_alone s).next_instance (left n p).flow (exchange_next n left_alone s) (told_left number p.cache s.next_instance n p.flow shows.told);
  refused = shows.refused;
}

drops_row : (number : ℕ → ℕ) (name : Bytes) (l : Leaving) (peers : List Peer) (p : Parts) (s : State) → ShowsSteps number name l peers p s → (n i c : ℕ) (x : Entry) (e : Exchange) → IsThere n p s x e → e.asker ≡ Some c
    → place_of c (numbers_of p.seats) ≡ Some i → IsFor s e GoesOn
    → ShowsSteps number name l peers (dropped_row i x.exchange (given_all p)) (on_exchange e.number left_alone (on_client_of e without_row (clear (text_of e.key) s)))
drops_row number name l peers p s shows n i c x e there asks place goes =
    subst (λ (m : ℕ). ShowsSteps number name l peers (left m (on_seat i seat_without_row (cleared_of (key_of x.exchange.number p.flow) (given_all p)))) (on_exchange e.number left_alone (on_client_of e without_row (clear (text_of e.key) s)))) (sym shown.number)
    (subst (λ (o : Option (List ℕ)). ShowsSteps number name l peers (left e.number (on_seat i seat_without_row (cleared_of o (given_all p)))) (on_exchange e.number left_alone (on_client_of e without_row (clear (text_of e.key) s)))) (sym key)
    (leaves_exchange number name l peers (on_seat i seat_without_row (cleared_key (text_of e.key) (given_all p))) (on_client_of e without_row (clear (text_of e.key) s)) changed e.number))
  where
    shown : ShowsExchange number x e
    shown = same_entry number name l peers p s shows n x e there

    key : key_of x.exchange.number p.flow ≡ Some (text_of e.key)
    key =
        ap (λ (m : ℕ). key_of m p.flow) (shown.number ∙ number_is n s e there.there)
        ∙ ap (λ (o : Option Entry). option_map (λ y. y.key.items) o) there.here
        ∙ ap (λ (text : List ℕ). Some text) shown.text_key

    along : (seat : Seat) (d : Client) → find (is_client c) (clear (text_of e.key) s).clients ≡ Some d → ShowsSeat number name [] seat d → ShowsSeat number name [] (seat_without_row seat) (without_row d)
    along seat d found one = rows_leave number name [] seat d one

    changed : ShowsSteps number name l peers (on_seat i seat_without_row (cleared_key (text_of e.key) (given_all p))) (on_client_of e without_row (clear (text_of e.key) s))
    changed =
        on_asker number name l peers (cleared_key (text_of e.key) (given_all p)) (clear (text_of e.key) s) (clears_row number name l peers p s shows (text_of e.key)) e c i seat_without_row without_row asks place
        (record { follows = without_row_follows; id = without_row_id; shows = λ seat d at found one. along seat d found one })

abbrev given_up_if : ℕ → SeatExchange → Parts → Bool → Parts
given_up_if i e p b = cond b (dropped_row i e p) p

abbrev law_given_up_if : Exchange → State → Bool → State
law_given_up_if e s b = elim b as (λ t. State) [ false ↦ s | true ↦ on_exchange e.number left_alone (on_client_of e without_row (clear (text_of e.key) s)) ]

given_up : (number : ℕ → ℕ) (name : Bytes) (l : Leaving) (peers : List Peer) (p : Parts) (s : State) → ShowsSteps number name l peers p s → (n i c : ℕ) (x : Entry) (e : Exchange) → IsThere n p s x e → e.asker ≡ Some c
    → place_of c (numbers_of p.seats) ≡ Some i → IsFor s e GoesOn → ShowsSteps number name l peers (given_up_row i x.exchange p) (give_up_row e s)
unfolding given_up_row give_up_row
given_up number name l peers p s shows n i c x e there asks place goes =
    subst (λ (b : Bool). ShowsSteps number name l peers (given_up_if i x.exchange p b) (law_given_up_if e s (is_unfilled s e))) (sym same) (by (is_unfilled s e))
  where
    same : is_unfilled_at i x.exchange p ≡ is_unfilled s e
    same = unfilled_same number name l peers p s shows n i c x e there asks place goes

    by : (b : Bool) → ShowsSteps number name l peers (given_up_if i x.exchange p b) (law_given_up_if e s b)
    by true =
        as_given number name l peers p s (on_exchange e.number left_alone (on_client_of e without_row (clear (text_of e.key) s))) (λ (q : Parts). dropped_row i x.exchange q) shows (drops_row number name l peers p s shows n i c x e there asks place goes)
    by false = shows

pub rows : RowsAreTheLaws
rows number name l peers p s shows n i x e there at goes =
    let one : HasPlace x.exchange.asker (numbers_of p.seats) i = has_place x.exchange.asker (numbers_of p.seats) i at in
    given_up number name l peers p s shows n i one.client x e there (sym (same_entry number name l peers p s shows n x e there).asker ∙ one.asks) one.place goes

-- ---- what it costs

and_false : (b : Bool) → b && false ≡ false
and_false true = refl
and_false false = refl

none_filled_by : (s : State) (e : Exchange) → list_any (λ c. is_for e c && is_out c.course) s.clients ≡ false → is_unfilled s e ≡ false
none_filled_by s e none =
    ap (λ (b : Bool). law_unfilled (row s (text_of e.key)) e.aim b) none ∙ and_false (is_some_with (λ v. is_some_with (λ y. is_same_version v y.version) (row s (text_of e.key))) (filled_in e.aim))

nobody_pays : (cost : Course → Course) (s : State) (e : Exchange) → HasNone e.asker s.clients → charge cost e s ≡ s
unfolding charge give_up_row on_client_of
nobody_pays cost s e none =
    ap (λ (cs : List Client). give_up_row e (record s { clients = cs })) (none.changes (λ c. record c { course = cost c.course }))
    ∙ ap (λ (b : Bool). law_given_up_if e s b) (none_filled_by s e (none.asks (λ c. is_out c.course)))

pub asker_rest : (e : Exchange) (g : Client → Client) (s : State) → ((on_client_of e g s).exchanges ≡ s.exchanges) × ((on_client_of e g s).clients ≡ change (is_for e) g s.clients)
unfolding on_client_of
asker_rest e g s = (refl, refl)

numbers_kept : (i : ℕ) (f : Seat → Seat) (p : Parts) → ((seat : Seat) → (f seat).client.id ≡ seat.client.id) → HasSeat i p.seats → numbers_of (on_seat i f p).seats ≡ numbers_of p.seats
numbers_kept i f p id one = ap (λ (o : Option Seat). numbers_of (at_seat i f p.seats o)) one.there ∙ numbers_set i p.seats one.seat (f one.seat) one.there (id one.seat)

-- the client is found as it was changed
pub record WasFound (n : ℕ) (g : Client → Client) (cs : List Client) (d : Client) : Type 0 where
  pub before : Client
  pub there : find (is_client n) cs ≡ Some before
  pub is : d ≡ g before

was_found : (n : ℕ) (g : Client → Client) → ((c : Client) → (g c).number ≡ c.number) → (cs : List Client) (d : Client) → find (is_client n) (change (asker_is (Some n)) g cs) ≡ Some d → WasFound n g cs d
was_found n g keeps [] d found = absurd (none_some d found)
was_found n g keeps (c ∷ cs) d found = by (n == c.number) refl found (was_found n g keeps cs d)
  where
    back : (m k : ℕ) (b : Bool) → (m == k) ≡ b → (k == m) ≡ b
    back m k true is = grind (arith, nat_tests)
    back m k false is = grind (arith, nat_tests)

    by : (b : Bool) → (n == c.number) ≡ b
        → cond (is_client n (elim b as (λ t. Client) [ true ↦ g c | false ↦ c ])) (Some (elim b as (λ t. Client) [ true ↦ g c | false ↦ c ])) (find (is_client n) (change (asker_is (Some n)) g cs)) ≡ Some d
        → (find (is_client n) (change (asker_is (Some n)) g cs) ≡ Some d → WasFound n g cs d) → WasFound n g (c ∷ cs) d
    by true is f rest = record {
      before = c;
      there = ap (λ (t : Bool). cond t (Some c) (find (is_client n) cs)) (back n c.number true is);
      is = sym (some_is (g c) d (sym (ap (λ (t : Bool). cond t (Some (g c)) (find (is_client n) (change (asker_is (Some n)) g cs))) (ap (λ (m : ℕ). m == n) (keeps c) ∙ back n c.number true is)) ∙ f));
    }
    by false is f rest =
        let one : WasFound n g cs d = rest (sym (ap (λ (t : Bool). cond t (Some c) (find (is_client n) (change (asker_is (Some n)) g cs))) (back n c.number false is)) ∙ f) in
        record { before = one.before; there = ap (λ (t : Bool). cond t (Some c) (find (is_client n) cs)) (back n c.number false is) ∙ one.there; is = one.is }

pub record Costs (number : ℕ → ℕ) (name : Bytes) (s : State) (e : Exchange) (cost_in : SeatCourse → SeatCourse) (cost : Course → Course) : Type 0 where
  pub along : (n : ℕ) (seat : Seat) (c : Client) → e.asker ≡ Some n → find (is_client n) s.clients ≡ Some c → ShowsSeat number name [] seat c → ShowsSeat number name [] (with_course cost_in seat) (record c { course = cost c.course })
  pub given : (course : Course) → is_refused course ≡ false → is_refused (cost course) ≡ false

charged_there : (number : ℕ → ℕ) (name : Bytes) (l : Leaving) (peers : List Peer) (p : Parts) (s : State) → ShowsSteps number name l peers p s → (n i c : ℕ) (x : Entry) (e : Exchange) (cost_in : SeatCourse → SeatCourse) (cost : Course → Course)
    → IsThere n p s x e → e.asker ≡ Some c → place_of c (numbers_of p.seats) ≡ Some i → IsFor s e GoesOn → Costs number name s e cost_in cost
    → ShowsSteps number name l peers (given_up_row i x.exchange (on_seat i (with_course cost_in) p)) (charge cost e s)
unfolding charge
charged_there number name l peers p s shows n i c x e cost_in cost there asks place goes costs =
    given_up number name l peers (on_seat i (with_course cost_in) p) (on_client_of e paid s) changed n i c x e
    (record { here = there.here; there = ap (λ (es : List Exchange). find (is_exchange n) es) (asker_rest e paid s).0 ∙ there.there }) asks
    (ap (λ (ns : List ℕ). place_of c ns) (numbers_kept i (with_course cost_in) p (λ seat. refl) one) ∙ place) still
  where
    paid : Client → Client
    paid d = record d { course = cost d.course }

    one : HasSeat i p.seats
    one = has_seat c i p.seats (at_place c i p.seats shows.order place)

    changed : ShowsSteps number name l peers (on_seat i (with_course cost_in) p) (on_client_of e paid s)
    changed = on_asker number name l peers p s shows e c i (with_course cost_in) paid asks place (record { follows = λ id d. refl; id = λ seat. refl; shows = λ seat d at found shown. costs.along c seat d asks found shown })

    still_at : (m : ℕ) (d : Client) → e.asker ≡ Some m → WasFound m paid s.clients d → GoesOn d
    still_at m d asks_m was =
        let on : GoesOn was.before = goes m was.before asks_m was.there in
        subst (λ (y : Client). GoesOn y) (sym was.is) (record { going = on.going; given = costs.given was.before.course on.given })

    still : IsFor (on_client_of e paid s) e GoesOn
    still m d asks_m found =
        still_at m d asks_m
        (was_found m paid (λ y. refl) s.clients d
        (ap (λ (asker : Option ℕ). find (is_client m) (change (asker_is asker) paid s.clients)) (sym asks_m) ∙ ap (λ (cs : List Client). find (is_client m) cs) (sym (asker_rest e paid s).1) ∙ found))

pub charge_shows : (number : ℕ → ℕ) (name : Bytes) (l : Leaving) (peers : List Peer) (p : Parts) (s : State) → ShowsSteps number name l peers p s → (n : ℕ) (x : Entry) (e : Exchange) (cost_in : SeatCourse → SeatCourse) (cost : Course → Course)
    → IsThere n p s x e → IsFor s e GoesOn → Costs number name s e cost_in cost → ShowsSteps number name l peers (charged cost_in x.exchange p) (charge cost e s)
unfolding charged_at
charge_shows number name l peers p s shows n x e cost_in cost there goes costs = by (seat_for x.exchange p.seats) refl
  where
    shown : ShowsExchange number x e
    shown = same_entry number name l peers p s shows n x e there

    by : (o : Option ℕ) → seat_for x.exchange p.seats ≡ o → ShowsSteps number name l peers (charged_at o cost_in x.exchange p) (charge cost e s)
    by None none =
        subst (λ (t : State). ShowsSteps number name l peers p t)
        (sym (nobody_pays cost s e (subst (λ (asker : Option ℕ). HasNone asker s.clients) shown.asker (has_none number name [] x.exchange.asker p.seats s.clients shows.shows.clients none)))) shows
    by (Some i) at =
        let one : HasPlace x.exchange.asker (numbers_of p.seats) i = has_place x.exchange.asker (numbers_of p.seats) i at in
        charged_there number name l peers p s shows n i one.client x e cost_in cost there (sym shown.asker ∙ one.asks) one.place goes costs

-- an attempt is lost
pub lost_given : (most : ℕ) (course : Course) → is_refused course ≡ false → is_refused (lost_one most course) ≡ false
lost_given most (Trying m) given = by (nat_le most (m + 1))
  where
    by : (b : Bool) → is_refused (elim b as (λ t. Course) [ true ↦ OutOfTries | false ↦ Trying (m + 1) ]) ≡ false
    by true = refl
    by false = refl
lost_given most OutOfTries given = refl
lost_given most AskTooLong given = refl
lost_given most RowRefused given = given

pub losses : LossesAreTheLaws
unfolding lose_attempt
losses number name l peers p s shows n x e there goes =
    subst (λ (o : Option Entry). ShowsSteps number name l peers (elim o as (λ t. Parts) [ None ↦ p | Some y ↦ charged (lost_one_in (attempts_in y.errand.is_asked_once)) x.exchange p ]) (charge (lost_one (attempts_of e)) e s)) (sym here)
    (subst (λ (most : ℕ). ShowsSteps number name l peers (charged (lost_one_in most) x.exchange p) (charge (lost_one (attempts_of e)) e s)) (sym (exchanges number x e shown).attempts)
    (charge_shows number name l peers p s shows n x e (lost_one_in (attempts_of e)) (lost_one (attempts_of e)) there goes
    (record { along = λ m seat c asks found one. attempts (attempts_of e) number name [] seat c one; given = lost_given (attempts_of e) })))
  where
    shown : ShowsExchange number x e
    shown = same_entry number name l peers p s shows n x e there

    here : entry_of x.exchange.number p.flow ≡ Some x
    here = ap (λ (m : ℕ). entry_of m p.flow) (shown.number ∙ number_is n s e there.there) ∙ there.here

-- they end at once
ended_given : (course : Course) → is_refused course ≡ false → is_refused (out_of_tries course) ≡ false
ended_given (Trying m) given = refl
ended_given OutOfTries given = refl
ended_given AskTooLong given = refl
ended_given RowRefused given = given

pub failures : FailuresAreTheLaws
unfolding fail
failures number name l peers p s shows n x e there goes =
    charge_shows number name l peers p s shows n x e (λ course. IsOut) out_of_tries there goes
    (record { along = λ m seat c asks found one. attempts_end number name [] seat c one; given = ended_given })
