-- What holds of each client, of each exchange and of what is in memory holds behind a decision and behind a cut.
use Rattle.std.proofs.Common.{◌≡◌, refl, sym, subst, ap, ℕ, Bool, true, false, ◌==◌, cond, List, [], ◌∷◌, Option, Some, None}
use Rattle.std.specs.Prelude.{option_map, slice_get}
use Rattle.pp_cache.specs.Memory.{Memory}
use Rattle.pp_cache_law.proofs.Numbers.{some_is}
use Rattle.pp_client.specs.Requests.{Front, Nothing, Begun, Asked as IsAsked, Refused, current_of}
use Rattle.pp_decide.specs.Decide.{fits, kind_of, text_by}
use Rattle.pp_desk.specs.Closings.{Sides, closed_client, closing_at, left_at, left_by_errand, left_own, with_parts, withdrawn}
use Rattle.pp_flow.specs.Changes.{entry_of}
use Rattle.pp_flow.specs.declared.entry.Entry.{Entry}
use Rattle.pp_flow.specs.declared.entry.Exchange.{Exchange}
use Rattle.pp_flow.specs.declared.errand.Body.TheVariants.{Pending}
use Rattle.pp_flow.specs.declared.errand.Errand.{Errand}
use Rattle.pp_flow.specs.declared.errand.Kind.{Kind}
use Rattle.pp_head.specs.Request.{Request}
use Rattle.pp_objects.specs.Instances.{Instance, id_of, row_of}
use Rattle.pp_objects.specs.declared.id.ObjectId.{ObjectId}
use Rattle.pp_seats.specs.Accounts.{decided}
use Rattle.pp_seats.specs.Decided.{answering, asking, with_interim}
use Rattle.pp_seats.specs.declared.front.Asked.{Asked}
use Rattle.pp_seats.specs.declared.key.Key.{Key}
use Rattle.pp_seats.specs.declared.seat.Seat.{Seat}
use Rattle.pp_state.specs.Ends.{Parts, all_regained, exchange_of, forsaken, left_at_decision, left_source, on_seat, parts, regained}
use Rattle.pp_state.specs.Passing.{may_answer}
use Rattle.pp_state.specs.Pins.{is_for_memory, without_instance}
use Rattle.pp_state.specs.Places.{IsChangedIn}
use Rattle.pp_state.specs.declared.state.State.{State as Turn}
use Rattle.pp_steps.specs.Evicting.{given_way, row_in_way, without_row}
use Rattle.pp_take.specs.Deciding.{Ask, Does, GetsPage, IsPaged, IsPagedIf, Takes, accounted, aim_for, answered_at, ask_at, ask_for, ask_for_kind, asked_by, asked_with, by_asked, by_front, by_key, by_seat, errand_by, exchange_begun, followed_at, followed_by, followed_more, following, is_pass, is_served_by, left_all, left_if_useless, left_useless, marked_at, marked_for, may_follow, of_request, origin_asked, relayed, row_at, row_followed, with_marked}
use Rattle.pp_world.specs.declared.note.Decision.{Decision}
use Rattle.pp_world.specs.declared.note.Decision.TheVariants.{Refuse, Hit, Part, Head, NotModified, Unsatisfiable, Relay, Validate, Fetch, Pass}
use Rattle.pp_stays_law.proofs.Onward.{answering_on, asking_on, interim_on, paged_on, regained_on}
use Rattle.pp_stays_law.proofs.Walk.{AllAt, Holds, Suits, changed_all, decision_fine, ended_fine, exchange_fine, forsaken_fine, on_seat_fine, set_all, source_fine, with_memory}

-- ---- of what is asked nothing came yet

module _ (name : List ℕ) (d : Decision) (m : Memory) (seat : Seat) (ask : Ask) where
  by_text : (a : Asked) (key : Key) (head : Request) (kind : Kind) (b : Bool)
      → option_map (λ (x : Ask). (of_request a seat.body_left head x.0, x.1)) (elim b as (λ t. Option Ask) [ true ↦ Some (errand_by a key head kind, text_by name head key kind) | false ↦ None ]) ≡ Some ask → ask.0.body ≡ Pending
  by_text a key head kind false is = absurd (cc is)
  by_text a key head kind true is = ap (λ (x : Ask). x.0.body) (sym (some_is (of_request a seat.body_left head (errand_by a key head kind), text_by name head key kind) ask is))

  by_kind : (a : Asked) (key : Key) (head : Request) (o : Option Kind) → ask_for_kind name seat a key head o ≡ Some ask → ask.0.body ≡ Pending
  by_kind a key head None is = absurd (cc is)
  by_kind a key head (Some kind) is = by_text a key head kind (fits (text_by name head key kind)) is

  by_head : (a : Asked) (key : Key) (front : Front) → by_front (ask_for name d m seat a key) front ≡ Some ask → ask.0.body ≡ Pending
  by_head a key Nothing is = absurd (cc is)
  by_head a key Begun is = absurd (cc is)
  by_head a key (Refused status) is = absurd (cc is)
  by_head a key (IsAsked head fault) is = by_kind a key head (kind_of head (option_map (λ i. i.version) (row_of key.text.items m.instances)) d) is

  by_owned : (a : Asked) (o : Option Key) → by_key (ask_for name d m seat a) (current_of seat.client.heard) o ≡ Some ask → ask.0.body ≡ Pending
  by_owned a None is = absurd (cc is)
  by_owned a (Some key) is = by_head a key (current_of seat.client.heard) is

  pending_of : (o : Option Asked) → by_asked (ask_for name d m seat) (current_of seat.client.heard) o ≡ Some ask → ask.0.body ≡ Pending
  pending_of None is = absurd (cc is)
  pending_of (Some a) is = by_owned a a.key is

pending_ask : (name : List ℕ) (i : ℕ) (d : Decision) (p : Parts) (ask : Ask) → ask_at name i d p ≡ Some ask → ask.0.body ≡ Pending
pending_ask name i d p ask = by (slice_get p.seats i)
  where
    at : (seat : Seat) (o : Option Asked) → by_asked (ask_for name d p.cache seat) (current_of seat.client.heard) o ≡ Some ask → ask.0.body ≡ Pending
    at seat o is = pending_of name d p.cache seat ask o is

    by : (o : Option Seat) → by_seat (ask_for name d p.cache) o ≡ Some ask → ask.0.body ≡ Pending
    by None is = absurd (cc is)
    by (Some seat) is = at seat _ is

-- ---- what is in memory

followed_same : (id : ObjectId) (m : Memory) → (followed_more id m).outdated ≡ m.outdated
followed_same id m = by (may_follow id m) _ refl
  where
    by : (b : Bool) (k : Memory) → k.outdated ≡ m.outdated → (elim b as (λ t. Memory) [ true ↦ k | false ↦ m ]).outdated ≡ m.outdated
    by true k same = same
    by false k same = refl

marked_same : (o : Option Instance) (m : Memory) → (with_marked o m).outdated ≡ m.outdated
marked_same None m = refl
marked_same (Some x) m = refl

-- ---- a decision

module _ (S : Seat → Type 0) (W Q : Entry → Type 0) (C : Memory → Type 0) (suits : Suits S W Q C) (name : List ℕ) (i : ℕ) where
  abbrev Good : Parts → Type 0
  Good p = Holds S W Q C p

  interim_fine : (p : Parts) → Good p → Good (on_seat i with_interim p)
  interim_fine p h = on_seat_fine S W Q C suits i with_interim p interim_on h

  quit_fine : (p : Parts) → Good p → Good (left_source i (on_seat i with_interim p))
  quit_fine p h = source_fine S W Q C suits i (on_seat i with_interim p) (interim_fine p h)

  asked_fine : (d : Decision) (p : Parts) → Good p → Good (origin_asked name i d p)
  unfolding asked_with
  asked_fine d p h = by (ask_at name i d p) refl
    where
      by : (o : Option Ask) → ask_at name i d p ≡ o → Good (asked_by i d o p)
      by None is = h
      by (Some ask) is =
          on_seat_fine S W Q C suits i (asking (is_pass d)) (exchange_begun i (aim_for (is_pass d)) ask.0 ask.1 (left_source i (on_seat i with_interim p))) (asking_on (is_pass d))
          (exchange_fine S W Q C suits i (aim_for (is_pass d)) ask.0 ask.1 (left_source i (on_seat i with_interim p)) (pending_ask name i d p ask is) (quit_fine p h))

  answered_fine : (d : Decision) (source : Option ObjectId) (span : ℕ × ℕ) (p : Parts) → Good p → Good (answered_at i d source span p)
  unfolding answered_at
  answered_fine d source span p h = on_seat_fine S W Q C suits i (answering d source span) (left_source i p) (answering_on d source span) (source_fine S W Q C suits i p h)

  all_fine : (p : Parts) → Good p → Good (left_all i p)
  unfolding left_all
  all_fine p h = decision_fine S W Q C suits i (left_source i (on_seat i with_interim p)) (quit_fine p h)

  useless_fine : (p : Parts) → Good p → Good (left_useless i p)
  unfolding left_useless
  useless_fine p h = by (exchange_of i p)
    where
      served : (b : Bool) → Good (elim b as (λ t. Parts) [ true ↦ p | false ↦ left_at_decision i p ])
      served true = h
      served false = decision_fine S W Q C suits i p h

      by : (o : Option Exchange) → Good (left_if_useless i o p)
      by None = h
      by (Some e) = served (is_served_by i e.number p)

  follow_fine : (d : Decision) (span : ℕ × ℕ) (id : ObjectId) (p : Parts) → Good p → Good (followed_by i d span id p)
  unfolding followed_by
  follow_fine d span id p h =
      let one : Parts = on_seat i with_interim p in
      let two : Parts = following id one in
      useless_fine (answered_at i d (Some id) span two) (answered_fine d (Some id) span two (with_memory S W Q C suits one (followed_more id one.cache) (followed_same id one.cache) (interim_fine p h)))

  row_fine : (d : Decision) (span : ℕ × ℕ) (p : Parts) → Good p → Good (followed_at i d span p)
  row_fine d span p h = by (row_at i p)
    where
      by : (o : Option Instance) → Good (row_followed i d span o p)
      by None = h
      by (Some x) = follow_fine d span (id_of x) p h

  -- a page
  page_fine : (status : ℕ) (p q : Parts) → Good p → GetsPage status i p q → Good q
  page_fine status p q h page = subst (λ (r : Parts). Good r) whole (record { seats = by (slice_get p.seats i) refl page.seat; waiting = h.waiting; placed = h.placed; memory = h.memory })
    where
      whole : (let r : Parts = record p { seats = q.seats } in r) ≡ q
      whole = sym (ap (λ (r : Parts). record r { seats = q.seats }) page.rest)

      on : (b : Bool) (seat new : Seat) → IsPagedIf b status seat new → S seat → S new
      on true seat new is its = subst S (sym is) (suits.seat seat _ (paged_on status new.account seat) its)
      on false seat new is its = subst S (sym is) its

      by : (o : Option Seat) → slice_get p.seats i ≡ o → IsChangedIn (IsPaged status) o i p.seats q.seats → AllAt S q.seats
      by None here same = subst (λ (seats : List Seat). AllAt S seats) (sym same) h.seats
      by (Some seat) here new =
          subst (λ (seats : List Seat). AllAt S seats) (sym new.2) (set_all S i p.seats seat new.0 here (on (may_answer seat.client) seat new.0 new.1 (h.seats i seat here)) h.seats)

  is_so : (p q : Parts) → q ≡ p → Good p → Good q
  is_so p q same h = subst (λ (r : Parts). Good r) (sym same) h

  does_fine : (d : Decision) (p q : Parts) → Good p → Does name i d p q → Good q
  does_fine (Refuse status) p q h it = page_fine status (left_all i p) q (all_fine p h) it
  does_fine Pass p q h it = is_so (origin_asked name i Pass p) q it (asked_fine Pass p h)
  does_fine Fetch p q h it = is_so (origin_asked name i Fetch p) q it (asked_fine Fetch p h)
  does_fine Validate p q h it = is_so (origin_asked name i Validate p) q it (asked_fine Validate p h)
  does_fine Relay p q h it = is_so (relayed i p) q it (answered_fine Relay None (0, 0) (on_seat i with_interim p) (interim_fine p h))
  does_fine (Hit from to) p q h it = is_so (followed_at i (Hit from to) (from, to) p) q it (row_fine (Hit from to) (from, to) p h)
  does_fine (Part from to) p q h it = is_so (followed_at i (Part from to) (from, to) p) q it (row_fine (Part from to) (from, to) p h)
  does_fine Head p q h it = is_so (followed_at i Head (0, 0) p) q it (row_fine Head (0, 0) p h)
  does_fine NotModified p q h it = is_so (followed_at i NotModified (0, 0) p) q it (row_fine NotModified (0, 0) p h)
  does_fine Unsatisfiable p q h it = is_so (followed_at i Unsatisfiable (0, 0) p) q it (row_fine Unsatisfiable (0, 0) p h)

  marked_fine : (d : Decision) (p : Parts) → Good p → Good (marked_for i d p)
  marked_fine d p h = by (is_for_memory d)
    where
      by : (b : Bool) → Good (elim b as (λ t. Parts) [ true ↦ p | false ↦ marked_at i p ])
      by true = h
      by false = with_memory S W Q C suits p (with_marked (row_at i p) p.cache) (marked_same (row_at i p) p.cache) h

  accounted_fine : (d : Decision) (p : Parts) → Good p → Good (accounted i d p)
  accounted_fine d p h = on_seat_fine S W Q C suits i (λ (seat : Seat). record seat { account = decided d seat.account }) p (λ seat. record { front = refl; given = λ is. is; short = λ is. is }) h

  pub takes_fine : (d : Decision) (p q : Parts) → Good p → Takes name i d p q → Good q
  takes_fine d p q h it = does_fine d (accounted i d (marked_for i d p)) q (accounted_fine d (marked_for i d p) (marked_fine d p h)) it

  pub way_fine : (d : Decision) (t : Turn) → Good (parts t) → Good (parts (given_way d i t))
  way_fine d t h = by (row_in_way d i t)
    where
      by : (o : Option Instance) → Good (parts (without_row o t))
      by None = h
      by (Some x) = with_memory S W Q C suits (parts t) (without_instance x t.cache) refl h

  -- attempts count anew
  pub anew_all : (m : Memory) (places : List ℕ) (seats : List Seat) → AllAt S seats → AllAt S (all_regained m places seats)
  anew_all m [] seats all = all
  anew_all m (k ∷ places) seats all = anew_all m places _ (changed_all S k (regained m) seats (λ seat its. suits.seat seat (regained m seat) (regained_on m seat) its) all)

  -- ---- a cut

  own_fine : (o : Option Exchange) (x : Sides) → Good x.parts → Good (left_own i o x).parts
  own_fine None x h = h
  own_fine (Some e) x h = by (option_map (λ (y : Entry). y.errand) (entry_of e.number x.parts.flow))
    where
      asked : (b : Bool) (k : ℕ) → Good (cond b (withdrawn e.number k x) (with_parts (forsaken i) x)).parts
      asked true k = ended_fine S W Q C suits e.number x.parts h
      asked false k = forsaken_fine S W Q C suits i x.parts h

      at : (errand : Errand) (o : Option ℕ) → Good (left_at i e.number errand o x).parts
      at errand None = ended_fine S W Q C suits e.number x.parts h
      at errand (Some k) = asked (errand.asked == 0) k

      by : (o : Option Errand) → Good (left_by_errand i e o x).parts
      by None = h
      by (Some errand) = at errand e.place

  pub cut_fine : (x : Sides) → Good x.parts → Good (closed_client i x).parts
  cut_fine x h =
      own_fine (exchange_of i (closing_at i x.parts)) (with_parts (closing_at i) x)
      (on_seat_fine S W Q C suits i (λ (seat : Seat). record seat { is_closing = true }) (left_source i x.parts) (λ seat. record { front = refl; given = λ is. is; short = λ is. is }) (source_fine S W Q C suits i x.parts h))
