-- What the ask of a follower joins is told behind its head: a row that is made for it, and cleared at once where it is no use for its follower, is
-- what its exchange is bound to.
use Rattle.std.proofs.Common.{◌≡◌, refl, sym, subst, ap, ◌∙◌, ℕ, Bool, true, false, ◌==◌, ◌&&◌, cond, nat_le, find, List, [], ◌∷◌, Option, Some, None, option_map}
use Rattle.std.specs.List.{list_any}
use Rattle.std.specs.Prelude.{count_by}
use Rattle.pp_answers.specs.FinalHeads.{FillsHead, TakesPart, counted, lacks_next, noted_body, part_without_version, version_in}
use Rattle.pp_answers.specs.Rows.{IsNew, Settles, accounted, in_memory, is_bound, made_row, not_refused, span_for, times_for, with_room_for}
use Rattle.pp_answers_law.proofs.Joining.{joined_then}
use Rattle.pp_answers_law.proofs.QuietAnswers.{q_counted, q_part}
use Rattle.pp_answers_law.proofs.QuietCosts.{q_is}
use Rattle.pp_answers_law.proofs.QuietHeads.{joined_made, joined_settles}
use Rattle.pp_answers_law.specs.Joined.{JoinedOr}
use Rattle.pp_cache.specs.Memory.{with_outdated, with_row}
use Rattle.pp_flow.specs.Changes.{Exchanges, changed, entry_of}
use Rattle.pp_flow.specs.Entries.{Span, asking, bound_to, is_number, nobodys}
use Rattle.pp_flow.specs.Errands.{attempts_in}
use Rattle.pp_flow.specs.declared.entry.Entry.{Entry}
use Rattle.pp_flow.specs.declared.entry.Exchange.{Exchange}
use Rattle.pp_flow.specs.declared.errand.Errand.{Errand}
use Rattle.pp_flow_law.proofs.Entries.{find_changed}
use Rattle.pp_flow_law.proofs.Standing.{entry_placed, none_waits}
use Rattle.pp_flow_law.specs.Tables.{none_leaves}
use Rattle.pp_framing.specs.declared.body.BodyRule.{BodyRule}
use Rattle.pp_head.specs.Response.{Response}
use Rattle.pp_law.specs.Lists.{Bytes}
use Rattle.pp_law.specs.State.{State as Law}
use Rattle.pp_objects.specs.Instances.{Instance, is_row, is_there}
use Rattle.pp_objects.specs.declared.id.ObjectId.{ObjectId}
use Rattle.pp_peers.specs.declared.peers.Peer.{Peer}
use Rattle.pp_seats.specs.Courses.{lost_one}
use Rattle.pp_seats.specs.declared.seat.Brought.TheVariants.{Joins}
use Rattle.pp_seats.specs.declared.seat.Course.{Course}
use Rattle.pp_seats.specs.declared.seat.Seat.{Seat}
use Rattle.pp_state.specs.Bodies.{body_of, with_body, with_body_for}
use Rattle.pp_state.specs.Ends.{Parts, bound_by, charged_at, cleared_of, cleared_row, dropped_row, given_up_row, is_unfilled_at, lost_attempt, on_seat, on_seat_where, parts, seat_for, told, with_course}
use Rattle.pp_state.specs.Keys.{key_of}
use Rattle.pp_state.specs.Known.{row_for}
use Rattle.pp_state.specs.Pins.{forgotten_row, idle_row}
use Rattle.pp_state.specs.declared.state.State.{State}
use Rattle.pp_states_law.proofs.Told.{told_of}
use Rattle.pp_states_law.specs.Steps.{ShowsSteps}
use Rattle.pp_states_law.specs.Told.{IsTold, IsToldBy}
use Rattle.pp_valid.specs.declared.version.Version.{Version}
use Rattle.pp_world.specs.declared.access.Source.TheVariants.{Fetched}

-- ---- what the exchange of this number is bound to, which has a place

abbrev pub bounds : ℕ → List Entry → Option (Option Span)
bounds n es = option_map (λ x. x.exchange.bound) (find (is_number n) es)

bounds_first : (n : ℕ) (x y : Entry) (xs ys : List Entry) → y.exchange.number ≡ x.exchange.number → y.exchange.bound ≡ x.exchange.bound → bounds n ys ≡ bounds n xs → bounds n (y ∷ ys) ≡ bounds n (x ∷ xs)
bounds_first n x y xs ys number bound rest = by (is_number n y) (is_number n x) (ap (λ (m : ℕ). m == n) number)
  where
    by : (b c : Bool) → b ≡ c → option_map (λ z. z.exchange.bound) (cond b (Some y) (find (is_number n) ys)) ≡ option_map (λ z. z.exchange.bound) (cond c (Some x) (find (is_number n) xs))
    by true true is = ap (λ (o : Option Span). Some o) bound
    by true false is = absurd (cc is)
    by false true is = absurd (cc is)
    by false false is = rest

bounds_changed : (n m : ℕ) (g : Entry → Entry) → ((x : Entry) → ((g x).exchange.number ≡ x.exchange.number) × ((g x).exchange.bound ≡ x.exchange.bound)) → (es : List Entry) → bounds n (changed m g es) ≡ bounds n es
bounds_changed n m g keeps [] = refl
bounds_changed n m g keeps (x ∷ xs) = by (is_number m x) (bounds_changed n m g keeps xs)
  where
    by : (b : Bool) → bounds n (changed m g xs) ≡ bounds n xs → bounds n (cond b (g x ∷ xs) (x ∷ changed m g xs)) ≡ bounds n (x ∷ xs)
    by true rest = bounds_first n x (g x) xs xs (keeps x).0 (keeps x).1 refl
    by false rest = bounds_first n x x xs (changed m g xs) refl refl rest

-- ---- it stays so where its body is noted, and where its attempt is lost

bounds_noted : (n m : ℕ) (seats : List Seat) (f : Exchanges) → bounds n (with_body m seats f).placed ≡ bounds n f.placed
bounds_noted n m seats f = by (entry_of m f)
  where
    at : (errand : Errand) (b : Bool) → let g : Exchanges = cond b (record f { waiting = changed m (asking errand) f.waiting }) (record f { placed = changed m (asking errand) f.placed }) in bounds n g.placed ≡ bounds n f.placed
    at errand true = refl
    at errand false = bounds_changed n m (asking errand) (λ x. (refl, refl)) f.placed

    by : (o : Option Entry) → bounds n (with_body_for o m seats f).placed ≡ bounds n f.placed
    by None = refl
    by (Some x) = at (record x.errand { body = body_of x.exchange seats }) (list_any (is_number m) f.waiting)

cleared_flow : (o : Option (List ℕ)) (p : Parts) → (cleared_of o p).flow ≡ p.flow
cleared_flow None p = refl
cleared_flow (Some key) p = refl

bounds_given_up : (n i : ℕ) (e : Exchange) (p : Parts) → bounds n (given_up_row i e p).flow.placed ≡ bounds n p.flow.placed
unfolding given_up_row
bounds_given_up n i e p = by (is_unfilled_at i e p)
  where
    by : (b : Bool) → bounds n (cond b (dropped_row i e p) p).flow.placed ≡ bounds n p.flow.placed
    by true = bounds_changed n e.number nobodys (λ x. (refl, refl)) (cleared_row e.number p).flow.placed ∙ ap (λ (f : Exchanges). bounds n f.placed) (cleared_flow (key_of e.number p.flow) p)
    by false = refl

bounds_charged : (n : ℕ) (o : Option ℕ) (cost : Course → Course) (e : Exchange) (p : Parts) → bounds n (charged_at o cost e p).flow.placed ≡ bounds n p.flow.placed
unfolding charged_at
bounds_charged n None cost e p = refl
bounds_charged n (Some i) cost e p = bounds_given_up n i e (on_seat i (with_course cost) p)

bounds_lost : (n : ℕ) (e : Exchange) (p : Parts) → bounds n (lost_attempt e p).flow.placed ≡ bounds n p.flow.placed
bounds_lost n e p = by (entry_of e.number p.flow)
  where
    by : (o : Option Entry) → let q : Parts = elim o as (λ t. Parts) [ None ↦ p | Some x ↦ charged_at (seat_for e p.seats) (lost_one (attempts_in x.errand.is_asked_once)) e p ] in bounds n q.flow.placed ≡ bounds n p.flow.placed
    by None = refl
    by (Some x) = bounds_charged n (seat_for e p.seats) (lost_one (attempts_in x.errand.is_asked_once)) e p

bounds_counted : (n : ℕ) (e : Exchange) (p : Parts) → bounds n (counted e p).flow.placed ≡ bounds n p.flow.placed
bounds_counted n e p = by (is_bound e.number p.flow && lacks_next e.number p)
  where
    by : (b : Bool) → let q : Parts = elim b as (λ t. Parts) [ true ↦ lost_attempt e p | false ↦ p ] in bounds n q.flow.placed ≡ bounds n p.flow.placed
    by true = bounds_lost n e p
    by false = refl

-- ---- a row that is made for it

told_flow : (o : Option ℕ) (f : Seat → Seat) (p : Parts) → (on_seat_where o f p).flow ≡ p.flow
told_flow None f p = refl
told_flow (Some i) f p = refl

made_bounds : (e : Exchange) (errand : Errand) (head : Response) (v : Version) (clock : ℕ) (key : List ℕ) (id : ObjectId) (p : Parts) (x : Entry) → find (is_number e.number) p.flow.placed ≡ Some x → bounds e.number (made_row e errand head v clock key id p).flow.placed ≡ Some (Some (span_for errand head v id))
made_bounds e errand head v clock key id p x here =
    let r : Parts = not_refused key (in_memory (λ m. with_outdated key (with_row id key v head.fields (times_for errand head clock) m)) p) in
    let a : Parts = accounted e Fetched (bound_by e.number (Some (span_for errand head v id)) r) in
    ap (λ (f : Exchanges). bounds e.number f.placed) (told_flow (seat_for e a.seats) (told (Joins id _)) a)
    ∙ ap (λ (o : Option Entry). option_map (λ z. z.exchange.bound) o)
    (find_changed e.number (bound_to (Some (span_for errand head v id))) (λ y. (refl, refl)) p.flow.placed ∙ ap (λ (o : Option Entry). option_map (bound_to (Some (span_for errand head v id))) o) here)

-- ---- behind its head

roomed : (o : Option (ObjectId × Version)) (s : State) → ((with_room_for o s).seats.items ≡ s.seats.items) × ((with_room_for o s).flow ≡ s.flow)
roomed (Some row) s = (refl, refl)
roomed None s = by (nat_le 1024 (count_by is_row s.cache.instances)) (idle_row s)
  where
    by : (b : Bool) (o : Option Instance) → let t : State = elim b as (λ t. State) [ true ↦ forgotten_row o s | false ↦ s ] in (t.seats.items ≡ s.seats.items) × (t.flow ≡ s.flow)
    by true None = (refl, refl)
    by true (Some i) = (refl, refl)
    by false o = (refl, refl)

module _ (G : ObjectId → Type 0) (n : ℕ) (e : Exchange) (errand : Errand) (head : Response) (rule : BodyRule) (s q : State) (x : Entry) (here : find (is_number e.number) s.flow.placed ≡ Some x) (there : (id : ObjectId) → is_there id s.cache.instances ≡ true → G id) (bound : (span : Span) → bounds e.number q.flow.placed ≡ Some (Some span) → G span.0) where
  part_joined : (o : Option Version) (between : Parts) → bounds e.number q.flow.placed ≡ bounds e.number between.flow.placed → TakesPart e errand head rule o s between → JoinedOr G s.seats.items between.seats
  part_joined None between same it = (q_is G (parts s) (part_without_version (head.status == 304) e errand head rule s) between it (q_part G e errand head rule s there (head.status == 304))).joined
  part_joined (Some v) between same it = by (row_for e.number (parts s)) it
    where
      new : (p : Parts) → find (is_number e.number) p.flow.placed ≡ Some x → (key : List ℕ) (id : ObjectId) → IsNew (Some id) p.cache → between ≡ made_row e errand head v s.now key id p → G id
      new p placed key id is becomes = bound (span_for errand head v id) (same ∙ ap (λ (r : Parts). bounds e.number r.flow.placed) becomes ∙ made_bounds e errand head v s.now key id p x placed)

      by : (o : Option (ObjectId × Version)) → Settles e errand head v s.now o (parts (with_room_for o s)) between → JoinedOr G s.seats.items between.seats
      by None settles =
          let t : State = with_room_for None s in
          subst (λ (ss : List Seat). JoinedOr G ss between.seats) (roomed None s).0
          (joined_made G e errand head v s.now (key_of e.number t.flow) (parts t) between (new (parts t) (ap (λ (f : Exchanges). find (is_number e.number) f.placed) (roomed None s).1 ∙ here)) settles)
      by (Some row) settles = joined_settles G e errand head v s.now (Some row) (parts s) between there (new (parts s) here) settles

  pub filling_joined : {new : Parts} → FillsHead e errand head rule s new → parts q ≡ noted_body n new → JoinedOr G s.seats.items q.seats.items
  filling_joined {new} it noted =
      subst (λ (ss : List Seat). JoinedOr G s.seats.items ss) (ap (λ (p : Parts). p.seats) (sym noted))
      (joined_then G s.seats.items it.between.seats new.seats (part_joined (version_in errand head) it.between same it.taken) (q_is G it.between (counted e it.between) new it.elsewhere (q_counted G e it.between)).joined)
    where
      same : bounds e.number q.flow.placed ≡ bounds e.number it.between.flow.placed
      same =
          ap (λ (p : Parts). bounds e.number p.flow.placed) noted ∙ bounds_noted e.number n new.seats new.flow ∙ ap (λ (p : Parts). bounds e.number p.flow.placed) it.elsewhere ∙ bounds_counted e.number e it.between

-- and what it is bound to is told
pub bound_told : (number : ℕ → ℕ) (name : Bytes) (peers : List Peer) (q : State) (t : Law) (n : ℕ) → ShowsSteps number name none_leaves peers (parts q) t → (span : Span) → bounds n q.flow.placed ≡ Some (Some span) → IsTold number q.cache t.next_instance span.0
bound_told number name peers q t n shows span is = by (find (is_number n) q.flow.placed) refl is
  where
    some_same : (a : Option Span) → Some a ≡ Some (Some span) → a ≡ Some span
    some_same a same = cc same

    by : (o : Option Entry) → find (is_number n) q.flow.placed ≡ o → option_map (λ z. z.exchange.bound) o ≡ Some (Some span) → IsTold number q.cache t.next_instance span.0
    by None there none = absurd (cc none)
    by (Some z) there bound =
        subst (λ (o : Option Span). IsToldBy number q.cache t.next_instance o) (some_same z.exchange.bound bound)
        (told_of number q.cache t.next_instance n q.flow z shows.told (entry_placed n q.flow z (none_waits number none_leaves q.flow t shows.shows.exchanges n z there) there))
