-- What exchanges of clients joined: where clients change one by one or all at once, each had joined it before, or it is one of these.
use Rattle.std.proofs.Common.{◌≡◌, ◌⊎◌, inl, inr, refl, sym, ap, ◌∙◌, ℕ, zero, suc, Bool, true, false, ◌==◌, ◌&&◌, ◌||◌, not, cond, map, List, [], ◌∷◌, Option, Some, None}
use Rattle.std.specs.Prelude.{slice_get, slice_set}
use Rattle.pp_cache.specs.Notes.{has_noted}
use Rattle.pp_cache_law.proofs.Numbers.{is_same, some_is}
use Rattle.pp_flow.specs.declared.entry.Exchange.{Exchange}
use Rattle.pp_flow_law.proofs.Entries.{none_some}
use Rattle.pp_objects.specs.declared.id.ObjectId.{ObjectId}
use Rattle.pp_seats.specs.Courses.{has_begun, lost_one, without_row, without_shared_row}
use Rattle.pp_seats.specs.Seats.{has_key}
use Rattle.pp_seats.specs.declared.seat.Brought.{Brought}
use Rattle.pp_seats.specs.declared.seat.Brought.TheVariants.{Awaited, Joins, Passes, Refused, TooWide, Useless}
use Rattle.pp_seats.specs.declared.seat.Course.TheVariants.{Trying}
use Rattle.pp_seats.specs.declared.seat.Seat.{Seat}
use Rattle.pp_state.specs.Bodies.{on_asker, on_place}
use Rattle.pp_state.specs.Ends.{Parts, all_decided_anew, changed_at, decided_anew, on_seat_where, seat_for, told, useless_if_refused}
use Rattle.pp_turns_law.proofs.Changed.{get_set}
use Rattle.pp_turns_law.proofs.Regained.{get_other}
use Rattle.pp_answers_law.specs.Joined.{JoinedOr, WasJoined}

module _ (G : ObjectId → Type 0) where
  pub joined_none : (seats : List Seat) → JoinedOr G seats seats
  joined_none seats i seat id plain at is = inl (record { old = seat; here = at; plain = plain; joined = is })

  pub joined_then : (a b c : List Seat) → JoinedOr G a b → JoinedOr G b c → JoinedOr G a c
  joined_then a b c one two i seat id plain at is = by (two i seat id plain at is)
    where
      by : WasJoined b i id ⊎ G id → WasJoined a i id ⊎ G id
      by (inl was) = one i was.old id was.plain was.here was.joined
      by (inr it) = inr it

  -- ---- one client

  -- it joined it before, or it is one of these
  abbrev pub Joining : (Seat → Seat) → Type 0
  Joining f = (seat : Seat) (id : ObjectId) (plain : Bool) → (f seat).brought ≡ Joins id plain → (seat.brought ≡ Joins id plain) ⊎ G id

  at_place : (seats : List Seat) (i : ℕ) (seat : Seat) (id : ObjectId) (plain : Bool) → slice_get seats i ≡ Some seat → (seat.brought ≡ Joins id plain) ⊎ G id → WasJoined seats i id ⊎ G id
  at_place seats i seat id plain here (inl is) = inl (record { old = seat; here = here; plain = plain; joined = is })
  at_place seats i seat id plain here (inr it) = inr it

  joined_set : (i : ℕ) (f : Seat → Seat) → Joining f → (seats : List Seat) (seat : Seat) → slice_get seats i ≡ Some seat → JoinedOr G seats (slice_set seats i (f seat))
  joined_set i f joins seats seat here j new id plain at is = by (i == j) refl
    where
      by : (b : Bool) → (i == j) ≡ b → WasJoined seats j id ⊎ G id
      by false off = inl (record { old = new; here = sym (get_other i j seats (f seat) off) ∙ at; plain = plain; joined = is })
      by true same =
          let one : f seat ≡ new = some_is (f seat) new (sym (get_set i seats seat (f seat) here) ∙ ap (λ (k : ℕ). slice_get (slice_set seats i (f seat)) k) (is_same i j same) ∙ at) in
          at_place seats j seat id plain (ap (λ (k : ℕ). slice_get seats k) (sym (is_same i j same)) ∙ here) (joins seat id plain (ap (λ (s : Seat). s.brought) one ∙ is))

  pub joined_at : (i : ℕ) (f : Seat → Seat) (seats : List Seat) → Joining f → JoinedOr G seats (changed_at i f seats)
  joined_at i f seats joins = by (slice_get seats i) refl
    where
      by : (o : Option Seat) → slice_get seats i ≡ o → JoinedOr G seats (elim o as (λ t. List Seat) [ None ↦ seats | Some seat ↦ slice_set seats i (f seat) ])
      by None here = joined_none seats
      by (Some seat) here = joined_set i f joins seats seat here

  pub joined_where : (o : Option ℕ) (f : Seat → Seat) (p : Parts) → Joining f → JoinedOr G p.seats (on_seat_where o f p).seats
  joined_where None f p joins = joined_none p.seats
  joined_where (Some i) f p joins = joined_at i f p.seats joins

  pub joined_place : (o : Option ℕ) (f : Seat → Seat) (seats : List Seat) → Joining f → JoinedOr G seats (on_place o f seats)
  joined_place None f seats joins = joined_none seats
  joined_place (Some i) f seats joins = joined_at i f seats joins

  pub joined_asker : (e : Exchange) (f : Seat → Seat) (seats : List Seat) → Joining f → JoinedOr G seats (on_asker e f seats)
  joined_asker e f seats joins = joined_place (seat_for e seats) f seats joins

  -- ---- all of them

  joined_map : (f : Seat → Seat) (seats : List Seat) → Joining f → JoinedOr G seats (map f seats)
  joined_map f [] joins i new id plain at is = absurd (none_some new at)
  joined_map f (seat ∷ seats) joins zero new id plain at is = at_place (seat ∷ seats) 0 seat id plain refl (joins seat id plain (ap (λ (s : Seat). s.brought) (some_is (f seat) new at) ∙ is))
  joined_map f (seat ∷ seats) joins (suc i) new id plain at is = by (joined_map f seats joins i new id plain at is)
    where
      by : WasJoined seats i id ⊎ G id → WasJoined (seat ∷ seats) (suc i) id ⊎ G id
      by (inl was) = inl (record { old = was.old; here = was.here; plain = was.plain; joined = was.joined })
      by (inr it) = inr it

  anew_joins : (b : Brought) (id : ObjectId) (plain : Bool) → useless_if_refused b ≡ Joins id plain → b ≡ Joins id plain
  anew_joins Awaited id plain is = is
  anew_joins Useless id plain is = is
  anew_joins (Joins x y) id plain is = is
  anew_joins (Passes x) id plain is = is
  anew_joins TooWide id plain is = is
  anew_joins Refused id plain is = absurd (cc is)

  anew_joining : (key : List ℕ) → Joining (decided_anew key)
  anew_joining key seat id plain is = by (has_key key seat) is
    where
      by : (b : Bool) → (cond b (record seat { brought = useless_if_refused seat.brought }) seat).brought ≡ Joins id plain → (seat.brought ≡ Joins id plain) ⊎ G id
      by true it = inl (anew_joins seat.brought id plain it)
      by false it = inl it

  pub joined_anew : (key : List ℕ) (refused : List (List ℕ)) (seats : List Seat) → JoinedOr G seats (all_decided_anew key refused seats)
  joined_anew key refused seats = by (has_noted key refused)
    where
      by : (b : Bool) → JoinedOr G seats (cond b (map (decided_anew key) seats) seats)
      by true = joined_map (decided_anew key) seats (anew_joining key)
      by false = joined_none seats

  -- ---- what it may become

  pub row_joining : Joining without_row
  row_joining seat id plain is = by (has_begun seat || seat.has_given_up) is
    where
      by : (b : Bool) → (elim b as (λ t. Seat) [ true ↦ seat | false ↦ record seat { course = Trying 0; has_given_up = true } ]).brought ≡ Joins id plain → (seat.brought ≡ Joins id plain) ⊎ G id
      by true it = inl it
      by false it = inl it

  pub shared_joining : (most : ℕ) → Joining (without_shared_row most)
  shared_joining most seat id plain is = by (seat.has_given_up && not (has_begun seat)) is
    where
      by : (b : Bool) → (elim b as (λ t. Seat) [ true ↦ record seat { course = lost_one most seat.course } | false ↦ without_row seat ]).brought ≡ Joins id plain → (seat.brought ≡ Joins id plain) ⊎ G id
      by true it = inl it
      by false it = row_joining seat id plain it

  -- what its request is told
  pub told_joining : (b : Brought) → ((id : ObjectId) (plain : Bool) → b ≡ Joins id plain → G id) → Joining (told b)
  told_joining b named seat id plain is = by (has_begun seat) is
    where
      by : (t : Bool) → (cond t seat (record seat { brought = b })).brought ≡ Joins id plain → (seat.brought ≡ Joins id plain) ⊎ G id
      by true it = inl it
      by false it = inr (named id plain it)
