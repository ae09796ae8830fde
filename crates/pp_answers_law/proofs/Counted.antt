-- What a head costs elsewhere is the same before and behind it is noted what becomes of the body. Of the program alone.
use Rattle.std.proofs.Common.{◌≡◌, refl, sym, ap, ap₂, ◌∙◌, ℕ, Bool, true, false, not, ◌&&◌, ◌||◌, cond, find, is_some, List, [], ◌∷◌, ◌++◌, Some, None, Option}
use Rattle.std.specs.List.{list_any}
use Rattle.std.specs.Prelude.{if◌then◌else◌, option_and_then, option_map, slice_get}
use Rattle.pp_cache.specs.Memory.{Memory}
use Rattle.pp_client.specs.Requests.{current_of}
use Rattle.pp_flow.specs.Changes.{Exchanges, changed, entry_of, first_of as first_entry}
use Rattle.pp_flow.specs.Entries.{Span, asking, is_number, nobodys}
use Rattle.pp_flow.specs.Errands.{attempts_in}
use Rattle.pp_flow.specs.declared.entry.Entry.{Entry}
use Rattle.pp_flow.specs.declared.entry.Exchange.{Exchange as SeatExchange}
use Rattle.pp_flow.specs.declared.errand.Body.{Body as ErrandBody}
use Rattle.pp_flow.specs.declared.errand.Body.TheVariants.{Joining as IsJoining}
use Rattle.pp_flow.specs.declared.errand.Errand.{Errand}
use Rattle.pp_flow_law.proofs.Entries.{any_is, changed_twice, find_changed}
use Rattle.pp_flow_law.proofs.Standing.{entry_placed}
use Rattle.pp_objects.specs.Instances.{Instance, is_same_id}
use Rattle.pp_objects.specs.declared.id.ObjectId.{ObjectId}
use Rattle.pp_seats.specs.Courses.{has_begun, lost_one, without_row}
use Rattle.pp_seats.specs.Follows.{next_of}
use Rattle.pp_seats.specs.declared.seat.Next.{Next}
use Rattle.pp_seats.specs.declared.seat.Seat.{Seat}
use Rattle.pp_answers.specs.FinalHeads.{counted, first_shown, is_lacked, lacks_by, lacks_next, lacks_of, lacks_row, noted_body}
use Rattle.pp_answers.specs.Rows.{is_bound}
use Rattle.pp_state.specs.Bodies.{body_by, body_of, is_passed, with_body_for}
use Rattle.pp_state.specs.Bringing.{asks_for_in, brings, brings_by, instance_of, is_held, is_provided}
use Rattle.pp_state.specs.Ends.{Parts, asker_of, charged_at, cleared_of, dropped_row, given_up_row, is_unfilled_at, is_unfilled_by, left, lost_attempt, on_seat, seat_for, version_at, with_course}
use Rattle.pp_state.specs.Keys.{key_of}
use Rattle.pp_state.specs.Known.{row_for, row_in}
use Rattle.pp_valid.specs.declared.version.Version.{Version}

-- another errand of the exchange with this number, which has a place
abbrev asked_as : ℕ → Errand → Exchanges → Exchanges
asked_as n er f = record f { placed = changed n (asking er) f.placed }

abbrev over : Exchanges → Parts → Parts
over f p = record p { flow = f }

-- what it brings is the same
brings_same : (id : ObjectId) (at : ℕ) (m : Memory) (er : Errand) (x : Entry) → brings id at m (asking er x) ≡ brings id at m x
brings_same id at m er x = by x.exchange.bound (instance_of id m.instances)
  where
    asks_in : Entry → Option Instance → Bool
    asks_in z i = not z.exchange.headed && asks_for_in z i at

    none : (i : Option Instance) → asks_in (asking er x) i ≡ asks_in x i
    none None = refl
    none (Some i) = refl

    by : (o : Option Span) (i : Option Instance) → brings_by id at m (asking er x) o ≡ brings_by id at m x o
    by (Some b) i = refl
    by None i = none (instance_of id m.instances)

any_placed : (q : Entry → Bool) (n : ℕ) (er : Errand) → ((x : Entry) → q (asking er x) ≡ q x) → (ys : List Entry) → list_any q (changed n (asking er) ys) ≡ list_any q ys
any_placed q n er same [] = refl
any_placed q n er same (y ∷ ys) = by (is_number n y) (any_placed q n er same ys)
  where
    by : (b : Bool) → list_any q (changed n (asking er) ys) ≡ list_any q ys → list_any q (cond b (asking er y ∷ ys) (y ∷ changed n (asking er) ys)) ≡ list_any q (y ∷ ys)
    by true rest = ap (λ (b : Bool). b || list_any q ys) (same y)
    by false rest = ap (λ (b : Bool). q y || b) rest

any_asked : (q : Entry → Bool) (n : ℕ) (er : Errand) → ((x : Entry) → q (asking er x) ≡ q x) → (xs ys : List Entry) → list_any q (xs ++ changed n (asking er) ys) ≡ list_any q (xs ++ ys)
any_asked q n er same [] ys = any_placed q n er same ys
any_asked q n er same (x ∷ xs) ys = ap (λ (b : Bool). q x || b) (any_asked q n er same xs ys)

provided_same : (n : ℕ) (er : Errand) (next : Next) (m : Memory) (f : Exchanges) → is_provided next m (asked_as n er f) ≡ is_provided next m f
provided_same n er next m f = ap (λ (b : Bool). is_held next.source next.at m || b) (any_asked (brings next.source next.at m) n er (λ x. brings_same next.source next.at m er x) f.waiting f.placed)

module _ (n : ℕ) (p : Parts) (y : Entry) (span : Span) (here : find (is_number n) p.flow.placed ≡ Some y) (none : find (is_number n) p.flow.waiting ≡ None) (bound : y.exchange.bound ≡ Some span) where
  abbrev er : Errand
  er = record y.errand { body = IsJoining span.1 }

  abbrev noted : Parts
  noted = over (asked_as n er p.flow) p

  entry : entry_of n p.flow ≡ Some y
  entry = entry_placed n p.flow y none here

  entry_noted : entry_of n (asked_as n er p.flow) ≡ Some (asking er y)
  entry_noted = ap (λ (o : Option Entry). first_entry o (find (is_number n) (changed n (asking er) p.flow.placed))) none ∙ find_changed n (asking er) (λ x. (refl, refl)) p.flow.placed ∙ ap (λ (o : Option Entry). option_map (asking er) o) here

  -- what is noted of it is where it goes on in its row
  pub noted_is : noted_body n p ≡ noted
  noted_is =
      ap (λ (o : Option Entry). over (with_body_for o n p.seats p.flow) p) entry
      ∙ ap (λ (b : ErrandBody). over (if list_any (is_number n) p.flow.waiting then record p.flow { waiting = changed n (asking (record y.errand { body = b })) p.flow.waiting } else record p.flow { placed = changed n (asking (record y.errand { body = b })) p.flow.placed }) p) goes
      ∙ ap (λ (b : Bool). over (if b then record p.flow { waiting = changed n (asking er) p.flow.waiting } else record p.flow { placed = changed n (asking er) p.flow.placed }) p) (any_is (is_number n) p.flow.waiting None none)
    where
      goes : body_of y.exchange p.seats ≡ IsJoining span.1
      goes = ap (λ (o : Option Span). body_by o (is_passed y.exchange p.seats)) bound

  -- ---- who lacks something

  bound_before : is_bound n p.flow ≡ true
  bound_before = ap (λ (o : Option Entry). is_some (option_and_then (λ x. x.exchange.bound) o)) entry ∙ ap (λ (o : Option Span). is_some o) bound

  bound_noted : is_bound n noted.flow ≡ true
  bound_noted = ap (λ (o : Option Entry). is_some (option_and_then (λ x. x.exchange.bound) o)) entry_noted ∙ ap (λ (o : Option Span). is_some o) bound

  key_same : key_of n noted.flow ≡ key_of n p.flow
  key_same = ap (λ (o : Option Entry). option_map (λ e. e.key.items) o) entry_noted ∙ sym (ap (λ (o : Option Entry). option_map (λ e. e.key.items) o) entry)

  asker_same : asker_of n noted ≡ asker_of n p
  asker_same =
      ap (λ (o : Option Entry). option_and_then (λ x. option_and_then (slice_get p.seats) (seat_for x.exchange p.seats)) o) entry_noted
      ∙ sym (ap (λ (o : Option Entry). option_and_then (λ x. option_and_then (slice_get p.seats) (seat_for x.exchange p.seats)) o) entry)

  row_same : row_for n noted ≡ row_for n p
  row_same = ap (λ (o : Option (List ℕ)). option_and_then (λ key. row_in key p.cache) o) key_same

  lacked_same : (o : Option Next) → is_lacked o noted ≡ is_lacked o p
  lacked_same None = refl
  lacked_same (Some next) = ap not (provided_same n er next p.cache p.flow)

  of_same : (b : Bool) (next : Next) (row : ObjectId × Version) (seat : Seat) → lacks_of b next row seat noted ≡ lacks_of b next row seat p
  of_same true next row seat = ap (λ (b : Bool). is_same_id next.source row.0 && b) (lacked_same (Some next))
  of_same false next row seat = lacked_same (first_shown (current_of seat.client.heard) row)

  rows_same : (o : Option Next) (row : Option (ObjectId × Version)) (seat : Seat) → lacks_row o row seat noted ≡ lacks_row o row seat p
  rows_same None row seat = refl
  rows_same (Some next) None seat = refl
  rows_same (Some next) (Some row) seat = of_same (has_begun seat) next row seat

  lacks_same : lacks_next n noted ≡ lacks_next n p
  lacks_same = ap (λ (o : Option Seat). lacks_by o n noted) asker_same ∙ by (asker_of n p)
    where
      by : (o : Option Seat) → lacks_by o n noted ≡ lacks_by o n p
      by None = refl
      by (Some seat) = rows_same (next_of seat) (row_for n noted) seat ∙ ap (λ (r : Option (ObjectId × Version)). lacks_row (next_of seat) r seat p) row_same

-- ---- what it costs

module _ (x : SeatExchange) (p : Parts) (y : Entry) (span : Span) (here : find (is_number x.number) p.flow.placed ≡ Some y) (none : find (is_number x.number) p.flow.waiting ≡ None) (bound : y.exchange.bound ≡ Some span) where
  abbrev n : ℕ
  n = x.number

  abbrev errand : Errand
  errand = record y.errand { body = IsJoining span.1 }

  abbrev most : ℕ
  most = attempts_in y.errand.is_asked_once

  abbrev behind : Parts
  behind = over (asked_as n errand p.flow) p

  swapped : (es : List Entry) → changed n nobodys (changed n (asking errand) es) ≡ changed n (asking errand) (changed n nobodys es)
  swapped es = changed_twice n (asking errand) nobodys (λ z. (refl, refl)) es ∙ sym (changed_twice n nobodys (asking errand) (λ z. (refl, refl)) es)

  kept_flow : (o : Option (List ℕ)) (q : Parts) → (cleared_of o q).flow ≡ q.flow
  kept_flow None q = refl
  kept_flow (Some key) q = refl

  over_cleared : (o : Option (List ℕ)) (q : Parts) (f : Exchanges) → cleared_of o (over f q) ≡ over f (cleared_of o q)
  over_cleared None q f = refl
  over_cleared (Some key) q f = refl

  abbrev paid : ℕ → Parts
  paid i = on_seat i (with_course (lost_one most)) p

  abbrev dropped : ℕ → Parts
  dropped i = dropped_row i x (paid i)

  -- its request left it
  dropped_flow : (i : ℕ) → (dropped i).flow ≡ record p.flow { waiting = changed n nobodys p.flow.waiting; placed = changed n nobodys p.flow.placed }
  dropped_flow i = ap (λ (f : Exchanges). record f { waiting = changed n nobodys f.waiting; placed = changed n nobodys f.placed }) (kept_flow (key_of n p.flow) (paid i))

  dropped_noted : (i : ℕ) → noted_body n (dropped i) ≡ dropped_row i x (on_seat i (with_course (lost_one most)) behind)
  dropped_noted i =
      noted_is n (dropped i) (nobodys y) span
      (ap (λ (f : Exchanges). find (is_number n) f.placed) (dropped_flow i) ∙ find_changed n nobodys (λ z. (refl, refl)) p.flow.placed ∙ ap (λ (o : Option Entry). option_map nobodys o) here)
      (ap (λ (f : Exchanges). find (is_number n) f.waiting) (dropped_flow i) ∙ find_changed n nobodys (λ z. (refl, refl)) p.flow.waiting ∙ ap (λ (o : Option Entry). option_map nobodys o) none) bound
      ∙ ap (λ (f : Exchanges). over (asked_as n errand f) (dropped i)) (dropped_flow i)
      ∙ ap (λ (es : List Entry). over (record p.flow { waiting = changed n nobodys p.flow.waiting; placed = es }) (dropped i)) (sym (swapped p.flow.placed))
      ∙ sym
      (ap (λ (o : Option (List ℕ)). left n (on_seat i without_row (cleared_of o (on_seat i (with_course (lost_one most)) behind)))) (key_same n p y span here none bound)
      ∙ ap (λ (q : Parts). left n (on_seat i without_row q)) (over_cleared (key_of n p.flow) (paid i) (asked_as n errand p.flow)))

  abbrev given_up_if : ℕ → Parts → Bool → Parts
  given_up_if i q b = cond b (dropped_row i x q) q

  given_noted : (i : ℕ) → noted_body n (given_up_row i x (paid i)) ≡ given_up_row i x (on_seat i (with_course (lost_one most)) behind)
  unfolding given_up_row
  given_noted i =
      by (is_unfilled_at i x (paid i))
      ∙ ap (λ (b : Bool). given_up_if i (on_seat i (with_course (lost_one most)) behind) b) (sym same)
    where
      same : is_unfilled_at i x (on_seat i (with_course (lost_one most)) behind) ≡ is_unfilled_at i x (paid i)
      same = ap (λ (o : Option (List ℕ)). is_unfilled_by x (slice_get (paid i).seats i) (version_at o p.cache)) (key_same n p y span here none bound)

      by : (b : Bool) → noted_body n (given_up_if i (paid i) b) ≡ given_up_if i (on_seat i (with_course (lost_one most)) behind) b
      by true = dropped_noted i
      by false = noted_is n (paid i) y span here none bound

  charged_noted : (o : Option ℕ) → noted_body n (charged_at o (lost_one most) x p) ≡ charged_at o (lost_one most) x behind
  unfolding charged_at
  charged_noted None = noted_is n p y span here none bound
  charged_noted (Some i) = given_noted i

  abbrev lost_by : Option Entry → Parts → Parts
  lost_by o q = elim o as (λ t. Parts) [ None ↦ q | Some z ↦ charged_at (seat_for x q.seats) (lost_one (attempts_in z.errand.is_asked_once)) x q ]

  lost_noted : noted_body n (lost_attempt x p) ≡ lost_attempt x behind
  lost_noted =
      ap (λ (o : Option Entry). noted_body n (lost_by o p)) (entry n p y span here none bound) ∙ charged_noted (seat_for x p.seats) ∙ sym (ap (λ (o : Option Entry). lost_by o behind) (entry_noted n p y span here none bound))

  abbrev counted_if : Parts → Bool → Bool → Parts
  counted_if q a b = elim (a && b) as (λ t. Parts) [ true ↦ lost_attempt x q | false ↦ q ]

  pub counted_noted : noted_body n (counted x p) ≡ counted x (noted_body n p)
  counted_noted =
      ap (λ (b : Bool). noted_body n (counted_if p b (lacks_next n p))) (bound_before n p y span here none bound)
      ∙ by (lacks_next n p)
      ∙ sym (ap (λ (q : Parts). counted x q) (noted_is n p y span here none bound) ∙ ap₂ (λ (a b : Bool). counted_if behind a b) (bound_noted n p y span here none bound) (lacks_same n p y span here none bound))
    where
      by : (b : Bool) → noted_body n (counted_if p true b) ≡ counted_if behind true b
      by true = lost_noted
      by false = noted_is n p y span here none bound
