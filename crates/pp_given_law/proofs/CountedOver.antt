-- Of what is dropped as much is counted as came, behind what leaves memory, what is kept, and events that add nothing to the log.
use Rattle.std.proofs.Common.{◌≡◌, inl, inr, refl, sym, subst, ap, ◌∙◌, ℕ, Bool, true, false, cond, find, map, List, [], ◌∷◌, Option, Some, None, ◌==◌}
use Rattle.pp_cache_law.proofs.Numbers.{some_is}
use Rattle.pp_turns_law.specs.Unread.{IsCountedOn}
use Rattle.pp_turns_law.proofs.GivenUp.{waiting_in_order}
use Rattle.pp_desk.specs.Closings.{Sides}
use Rattle.pp_desk.specs.Marks.{marked_seat}
use Rattle.pp_desk.specs.declared.desk.Desk.{Desk}
use Rattle.pp_events_law.specs.Silent.{IsSilentlyHandled, stopped}
use Rattle.pp_flow.specs.Changes.{Exchanges, numbers as flow_numbers}
use Rattle.pp_flow.specs.declared.errand.Body.{Body}
use Rattle.pp_flow.specs.declared.errand.Body.TheVariants.{Pending, Joining, Relaying, Dropping}
use Rattle.pp_flow_law.specs.Tables.{ShowsFlow, none_leaves}
use Rattle.pp_law.specs.After.{event, opened, reached}
use Rattle.pp_law.specs.Connections.{conn, is_conn, on_client, on_conn}
use Rattle.pp_law.specs.Lists.{has_number}
use Rattle.pp_law.specs.Replies.{regained}
use Rattle.pp_law.specs.State.{State, Answer, Conn}
use Rattle.pp_law.specs.Turn.{marked_conn, touch}
use Rattle.pp_law.specs.Unseen.{came_of}
use Rattle.pp_proxy.specs.Accepting.{IsAccepted}
use Rattle.pp_proxy.specs.Handling.{Reaches}
use Rattle.pp_proxy.specs.Moving.{Turning}
use Rattle.pp_seats.specs.declared.seat.Seat.{Seat}
use Rattle.pp_state.specs.Ends.{AreInOrder, Parts, numbers_of, on_seat_where, parts, place_of}
use Rattle.pp_state.specs.declared.state.State.{State as Turn}
use Rattle.pp_stays_law.proofs.Counted.{IsAsBefore, all_as_before, counted_behind}
use Rattle.pp_stays_law.proofs.Fits.{AnyEntry, AnyMemory, AnySeat, any_entries, bodies_suit}
use Rattle.pp_stays_law.proofs.Rested.{given_up_fine}
use Rattle.pp_stays_law.proofs.Walk.{AllOf, Holds}
use Rattle.pp_turns_law.specs.Unseen.{IsCounted}
use Rattle.pp_world.specs.declared.happening.Happening.{Happening}
use Rattle.pp_given_law.specs.Counts.{CountedAsAccepted, CountedAsKept, CountedAsLeft, CountedAsReached, CountedAsStopped}

-- ---- with the same exchanges, and the same connections

same_counted : (f g : Exchanges) (s t : State) → g ≡ f → t.conns ≡ s.conns → ((n : ℕ) (k : Conn) → conn s n ≡ Some k → IsCountedOn f k) → (n : ℕ) (k : Conn) → conn t n ≡ Some k → IsCountedOn g k
same_counted f g s t flows conns counted n k there = subst (λ (h : Exchanges). IsCountedOn h k) (sym flows) (counted n k (ap (λ (ks : List Conn). find (is_conn n) ks) (sym conns) ∙ there))

-- ---- what leaves memory

pub as_left : CountedAsLeft
unfolding regained
as_left number x y log handled t done leaves left counted =
    counted_behind number number x.desk.state.flow y.desk.state.flow handled t shows left.stands.turn.steps.shows.exchanges bodies came counted
  where
    shows : ShowsFlow number none_leaves x.desk.state.flow handled
    shows = done.turn.steps.shows.exchanges

    flows : leaves.left.state.flow ≡ x.desk.state.flow
    flows = ap (λ (p : Turn). p.flow) leaves.leaves.is.rest ∙ ap (λ (d : Desk). d.state.flow) leaves.regains.rest

    order : AreInOrder (flow_numbers leaves.left.state.flow.waiting)
    order = subst (λ (f : Exchanges). AreInOrder (flow_numbers f.waiting)) (sym flows) (waiting_in_order number x.desk.state.name.items none_leaves x.desk.peers (parts x.desk.state) handled done.turn.steps)

    before : Holds AnySeat AnyEntry (IsAsBefore x.desk.state.flow) AnyMemory (parts leaves.left.state)
    before = record {
      seats = λ i seat at. tt;
      waiting = any_entries leaves.left.state.flow.waiting;
      placed = subst (λ (f : Exchanges). AllOf (IsAsBefore x.desk.state.flow) f.placed) (sym flows) (all_as_before number x.desk.state.flow handled shows);
      memory = tt;
    }

    bodies : AllOf (IsAsBefore x.desk.state.flow) y.desk.state.flow.placed
    bodies =
        subst (λ (w : Sides). AllOf (IsAsBefore x.desk.state.flow) w.parts.flow.placed) (sym (leaves.gives.is order))
        (given_up_fine AnySeat AnyEntry (IsAsBefore x.desk.state.flow) AnyMemory (bodies_suit x.desk.state.flow) (flow_numbers leaves.left.state.flow.waiting) (parts leaves.left.state) before).placed

    conns : t.conns ≡ handled.conns
    conns = ap (λ (u : State). u.conns) left.law

    came : (n : ℕ) (k j : Conn) → conn handled n ≡ Some k → conn t n ≡ Some j → came_of j ≡ came_of k
    came n k j there behind = ap (λ (i : Conn). came_of i) (some_is j k (sym behind ∙ ap (λ (ks : List Conn). find (is_conn n) ks) conns ∙ there))

-- ---- what is kept

pub as_kept : CountedAsKept
as_kept number x y s t keeps done counted = same_counted x.moving.desk.state.flow y.moving.desk.state.flow s t (ap (λ (d : Desk). d.state.flow) keeps.rest) (ap (λ (u : State). u.conns) done.kept.rest) counted

-- ---- events

pub handled_conns : (number : ℕ → ℕ) (h : Happening) (y : Turning) (s t : State) (it : IsSilentlyHandled number h y s (event t)) → it.handled.handled.conns ≡ t.conns
unfolding event regained
handled_conns number h y s t it = sym (ap (λ (u : State). u.conns) it.handled.anew)

pub as_stopped : CountedAsStopped
as_stopped number x y s is it counted =
    same_counted x.moving.desk.state.flow y.moving.desk.state.flow s it.handled.handled (ap (λ (d : Desk). d.state.flow) is.0.rest) (handled_conns number _ y s (stopped s) it) counted

opened_conns : (c : ℕ) (s : State) → (opened c s).conns ≡ s.conns
unfolding opened
opened_conns c s = refl

accepted_flow : (c : ℕ) (old new : Desk) → IsAccepted c old new → new.state.flow ≡ old.state.flow
accepted_flow c old new (inl is) = ap (λ (d : Desk). d.state.flow) is.rest
accepted_flow c old new (inr is) = ap (λ (d : Desk). d.state.flow) is.rest

pub as_accepted : CountedAsAccepted
as_accepted c number x y s is it counted =
    same_counted x.moving.desk.state.flow y.moving.desk.state.flow s it.handled.handled (accepted_flow c x.moving.desk y.moving.desk is.0) (handled_conns number _ y s (opened c s) it ∙ opened_conns c s) counted

-- ---- where a connection is marked, and is reached

pub record IsAlike (k j : Conn) : Type 0 where
  pub number : j.number ≡ k.number
  pub line : j.line ≡ k.line
  pub answer : j.answer ≡ k.answer

record WasAlike (ks : List Conn) (n : ℕ) (j : Conn) : Type 0 where
  old : Conn
  there : find (is_conn n) ks ≡ Some old
  alike : IsAlike old j

was_alike : (f : Conn → Conn) → ((k : Conn) → IsAlike k (f k)) → (n : ℕ) (ks : List Conn) (j : Conn) → find (is_conn n) (map f ks) ≡ Some j → WasAlike ks n j
was_alike f each n [] j is = absurd (cc is)
was_alike f each n (k ∷ ks) j is = by (is_conn n k) refl (ap (λ (b : Bool). cond b (Some (f k)) (find (is_conn n) (map f ks))) (sym same) ∙ is) (was_alike f each n ks j)
  where
    same : is_conn n (f k) ≡ is_conn n k
    same = ap (λ (m : ℕ). m == n) (each k).number

    by : (b : Bool) → is_conn n k ≡ b → cond b (Some (f k)) (find (is_conn n) (map f ks)) ≡ Some j → (find (is_conn n) (map f ks) ≡ Some j → WasAlike ks n j) → WasAlike (k ∷ ks) n j
    by true at is rest = record { old = k; there = ap (λ (c : Bool). cond c (Some k) (find (is_conn n) ks)) at; alike = subst (λ (i : Conn). IsAlike k i) (some_is (f k) j is) (each k) }
    by false at is rest = let was : WasAlike ks n j = rest is in record { old = was.old; there = ap (λ (c : Bool). cond c (Some k) (find (is_conn n) ks)) at ∙ was.there; alike = was.alike }

pub where_alike : (test : Conn → Bool) (f : Conn → Conn) → ((k : Conn) → IsAlike k (f k)) → (k : Conn) → IsAlike k (elim (test k) as (λ b. Conn) [ true ↦ f k | false ↦ k ])
where_alike test f each k = by (test k)
  where
    by : (b : Bool) → IsAlike k (elim b as (λ c. Conn) [ true ↦ f k | false ↦ k ])
    by true = each k
    by false = record { number = refl; line = refl; answer = refl }

counted_as : (body : Body) (k j : Conn) → came_of j ≡ came_of k → IsCounted body k → IsCounted body j
counted_as Pending k j same counted = tt
counted_as (Joining wanted) k j same counted = tt
counted_as Relaying k j same counted = tt
counted_as (Dropping count) k j same counted = counted ∙ sym same

alike_counted : (f : Exchanges) (k j : Conn) → IsAlike k j → IsCountedOn f k → IsCountedOn f j
alike_counted f k j alike counted m e has is =
    counted_as e.errand.body k j (ap (λ (o : Option Answer). came_of (record k { answer = o })) alike.answer) (counted m e (ap (λ (line : List ℕ). has_number m line) (sym alike.line) ∙ has) is)

pub mapped_counted : (f : Exchanges) (to : Conn → Conn) (ks : List Conn) → ((k : Conn) → IsAlike k (to k)) → ((n : ℕ) (k : Conn) → find (is_conn n) ks ≡ Some k → IsCountedOn f k) → (n : ℕ) (k : Conn) → find (is_conn n) (map to ks) ≡ Some k → IsCountedOn f k
mapped_counted f to ks each counted n j there = let was : WasAlike ks n j = was_alike to each n ks j there in alike_counted f was.old j was.alike (counted n was.old was.there)

reached_counted : (f : Exchanges) (k : ℕ) (s : State) → ((n : ℕ) (j : Conn) → conn s n ≡ Some j → IsCountedOn f j) → (n : ℕ) (j : Conn) → conn (reached k s) n ≡ Some j → IsCountedOn f j
unfolding reached touch on_conn on_client
reached_counted f k s counted =
    let one : Conn → Conn = λ (j : Conn). record j { is_reached = true } in
    mapped_counted f _ _ (where_alike (is_conn k) (marked_conn s.clock) (λ j. record { number = refl; line = refl; answer = refl }))
    (mapped_counted f _ s.conns (where_alike (is_conn k) one (λ j. record { number = refl; line = refl; answer = refl })) counted)

pub marked_flow : (o : Option ℕ) (f : Seat → Seat) (p : Parts) → (on_seat_where o f p).flow ≡ p.flow
marked_flow None f p = refl
marked_flow (Some i) f p = refl

reached_flow : (k : ℕ) (old new : Desk) → Reaches k old new → new.state.flow ≡ old.state.flow
reached_flow k old new is =
    ap (λ (w : Sides). w.parts.flow) is.reaches.is
    ∙ ap (λ (w : Sides). w.parts.flow) is.touches.is
    ∙ marked_flow (place_of k (numbers_of old.state.seats.items)) (marked_seat old.state.now) (parts old.state)

pub as_reached : CountedAsReached
as_reached k number x y s is it counted =
    same_counted x.moving.desk.state.flow y.moving.desk.state.flow (reached k s) it.handled.handled (reached_flow k x.moving.desk y.moving.desk is.0) (handled_conns number _ y s (reached k s) it) (reached_counted x.moving.desk.state.flow k s counted)
