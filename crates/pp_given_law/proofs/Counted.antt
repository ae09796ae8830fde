-- Of what is dropped as much is counted as came, over a wait: what it notes of bodies is how far they are wanted.
use Rattle.std.proofs.Common.{◌≡◌, refl, sym, subst, ap, ◌∙◌, ℕ, Bool, true, false, cond, find, fold, map, List, [], ◌∷◌, ◌++◌, Option, Some, None}
use Rattle.std.specs.List.{list_any}
use Rattle.pp_cache_law.proofs.Numbers.{some_is}
use Rattle.pp_turns_law.specs.Unread.{IsCountedOn}
use Rattle.pp_desk.specs.declared.desk.Desk.{Desk}
use Rattle.pp_flow.specs.Changes.{Exchanges, changed, entry_of, first_of, numbers, with_errand}
use Rattle.pp_flow.specs.Entries.{asking, is_number}
use Rattle.pp_flow.specs.declared.entry.Entry.{Entry}
use Rattle.pp_flow.specs.declared.errand.Body.{Body}
use Rattle.pp_flow.specs.declared.errand.Body.TheVariants.{Pending, Joining, Relaying, Dropping}
use Rattle.pp_flow.specs.declared.errand.Errand.{Errand}
use Rattle.pp_law.specs.Connections.{is_conn}
use Rattle.pp_law.specs.State.{State, Conn}
use Rattle.pp_law.specs.Turn.{rest_with, rested_conn}
use Rattle.pp_seats.specs.declared.seat.Seat.{Seat}
use Rattle.pp_state.specs.Unseen.{body_noted, bound_of, rested, rested_to, wanted_of}
use Rattle.pp_turns_law.specs.Unseen.{IsCounted}
use Rattle.pp_wants.specs.Rests.{all_waiting}
use Rattle.pp_world.specs.declared.event.Wants.{Wants}
use Rattle.pp_given_law.specs.Laws.{CountedOverWaits}

-- ---- what an exchange asks is noted

none_changed : (m n : ℕ) (errand : Errand) (xs : List Entry) → find (is_number m) (changed n (asking errand) xs) ≡ None → find (is_number m) xs ≡ None
none_changed m n errand [] none = refl
none_changed m n errand (x ∷ xs) none = by (is_number n x) none (λ later. none_changed m n errand xs later)
  where
    at : (b : Bool) → cond b (Some x) (find (is_number m) (changed n (asking errand) xs)) ≡ None → (find (is_number m) (changed n (asking errand) xs) ≡ None → find (is_number m) xs ≡ None) → cond b (Some x) (find (is_number m) xs) ≡ None
    at true is rest = absurd (cc is)
    at false is rest = rest is

    first : (b : Bool) → cond b (Some (asking errand x)) (find (is_number m) xs) ≡ None → cond b (Some x) (find (is_number m) xs) ≡ None
    first true is = absurd (cc is)
    first false is = is

    by : (b : Bool) → find (is_number m) (cond b (asking errand x ∷ xs) (x ∷ changed n (asking errand) xs)) ≡ None → (find (is_number m) (changed n (asking errand) xs) ≡ None → find (is_number m) xs ≡ None) → find (is_number m) (x ∷ xs) ≡ None
    by true is rest = first (is_number m x) is
    by false is rest = at (is_number m x) is rest

module _ (k : Conn) (m n : ℕ) (errand : Errand) (counted : IsCounted errand.body k) where
  -- so is each that is counted there
  abbrev Counts : Option Entry → Type 0
  Counts o = (e : Entry) → o ≡ Some e → IsCounted e.errand.body k

  some_changed : (xs : List Entry) → Counts (find (is_number m) xs) → Counts (find (is_number m) (changed n (asking errand) xs))
  some_changed [] was e is = absurd (cc is)
  some_changed (x ∷ xs) was e is = by (is_number n x) is (λ later. some_changed xs later e)
    where
      first : (b : Bool) → Counts (cond b (Some x) (find (is_number m) xs)) → cond b (Some (asking errand x)) (find (is_number m) xs) ≡ Some e → IsCounted e.errand.body k
      first true was is = subst (λ (y : Entry). IsCounted y.errand.body k) (some_is (asking errand x) e is) counted
      first false was is = was e is

      at : (b : Bool) → Counts (cond b (Some x) (find (is_number m) xs)) → cond b (Some x) (find (is_number m) (changed n (asking errand) xs)) ≡ Some e → (Counts (find (is_number m) xs) → find (is_number m) (changed n (asking errand) xs) ≡ Some e → IsCounted e.errand.body k) → IsCounted e.errand.body k
      at true was is rest = was e is
      at false was is rest = rest was is

      by : (b : Bool) → find (is_number m) (cond b (asking errand x ∷ xs) (x ∷ changed n (asking errand) xs)) ≡ Some e → (Counts (find (is_number m) xs) → find (is_number m) (changed n (asking errand) xs) ≡ Some e → IsCounted e.errand.body k) → IsCounted e.errand.body k
      by true is rest = first (is_number m x) was is
      by false is rest = at (is_number m x) was is rest

  noted : (f : Exchanges) → Counts (entry_of m f) → Counts (entry_of m (with_errand n errand f))
  noted f was e is = by (list_any (is_number n) f.waiting) is
    where
      waits : (o p : Option Entry) → find (is_number m) (changed n (asking errand) f.waiting) ≡ o → find (is_number m) f.waiting ≡ p → first_of o (find (is_number m) f.placed) ≡ Some e → IsCounted e.errand.body k
      waits (Some y) (Some x) here there is = some_changed f.waiting (λ d at. was d (ap (λ (q : Option Entry). first_of q (find (is_number m) f.placed)) there ∙ sym there ∙ at)) e (here ∙ is)
      waits (Some y) None here there is = some_changed f.waiting (λ d at. absurd (no (sym there ∙ at))) e (here ∙ is)
        where
          no : {d : Entry} → None ≡ Some d → ⊥
          no same = absurd (cc same)
      waits None p here there is = was e (ap (λ (q : Option Entry). first_of q (find (is_number m) f.placed)) (none_changed m n errand f.waiting here) ∙ is)

      stands : (p : Option Entry) → find (is_number m) f.waiting ≡ p → first_of p (find (is_number m) (changed n (asking errand) f.placed)) ≡ Some e → IsCounted e.errand.body k
      stands (Some x) there is = was e (ap (λ (q : Option Entry). first_of q (find (is_number m) f.placed)) there ∙ is)
      stands None there is = some_changed f.placed (λ d at. was d (ap (λ (q : Option Entry). first_of q (find (is_number m) f.placed)) there ∙ at)) e is

      by : (b : Bool) → entry_of m (cond b (record f { waiting = changed n (asking errand) f.waiting }) (record f { placed = changed n (asking errand) f.placed })) ≡ Some e → IsCounted e.errand.body k
      by true is = waits (find (is_number m) (changed n (asking errand) f.waiting)) (find (is_number m) f.waiting) refl refl is
      by false is = stands (find (is_number m) f.waiting) refl is

-- ---- over all

one_rests : (k : Conn) (awake : List ℕ) (seats : List Seat) (f : Exchanges) (n : ℕ) → IsCountedOn f k → IsCountedOn (rested awake seats f n) k
one_rests k awake seats f n was = by (wanted_of awake seats (bound_of (entry_of n f)))
  where
    on : (at : ℕ) (e : Option Entry) → IsCountedOn (body_noted e n (Joining at) f) k
    on at None = was
    on at (Some x) = λ m e has is. noted k m n (record x.errand { body = Joining at }) tt f (λ d there. was m d has there) e is

    by : (o : Option ℕ) → IsCountedOn (rested_to o n f) k
    by None = was
    by (Some at) = on at (entry_of n f)

each_rests : (k : Conn) (awake : List ℕ) (seats : List Seat) (f : Exchanges) (ns : List ℕ) → IsCountedOn f k → IsCountedOn (fold (rested awake seats) f ns) k
each_rests k awake seats f [] was = was
each_rests k awake seats f (n ∷ ns) was = each_rests k awake seats (rested awake seats f n) ns (one_rests k awake seats f n was)

-- ---- and each connection is where it was

record WasConn (f : Conn → Conn) (ks : List Conn) (n : ℕ) (j : Conn) : Type 0 where
  old : Conn
  there : find (is_conn n) ks ≡ Some old
  same : f old ≡ j

was_conn : (s : State) (w : Wants) (n : ℕ) (ks : List Conn) (j : Conn) → find (is_conn n) (map (rested_conn s w) ks) ≡ Some j → WasConn (rested_conn s w) ks n j
was_conn s w n [] j is = absurd (cc is)
was_conn s w n (k ∷ ks) j is = by (is_conn n k) refl is (λ later. was_conn s w n ks j later)
  where
    by : (b : Bool) → is_conn n k ≡ b → cond b (Some (rested_conn s w k)) (find (is_conn n) (map (rested_conn s w) ks)) ≡ Some j → (find (is_conn n) (map (rested_conn s w) ks) ≡ Some j → WasConn (rested_conn s w) ks n j) → WasConn (rested_conn s w) (k ∷ ks) n j
    by true at is rest = record { old = k; there = ap (λ (b : Bool). cond b (Some k) (find (is_conn n) ks)) at; same = some_is (rested_conn s w k) j is }
    by false at is rest = let was : WasConn (rested_conn s w) ks n j = rest is in record { old = was.old; there = ap (λ (b : Bool). cond b (Some k) (find (is_conn n) ks)) at ∙ was.there; same = was.same }

counted_there : (s : State) (w : Wants) (k : Conn) (body : Body) → IsCounted body k → IsCounted body (rested_conn s w k)
counted_there s w k Pending counted = tt
counted_there s w k (Joining wanted) counted = tt
counted_there s w k Relaying counted = tt
counted_there s w k (Dropping count) counted = counted

pub counted_waits : CountedOverWaits
unfolding rest_with
counted_waits before w clients old awaiting rested s awaits rests counted n j there = subst (λ (k : Conn). IsCountedOn rested.state.flow k) was.same (λ m e has is. counted_there s w was.old e.errand.body (behind m e has is))
  where
    was : WasConn (rested_conn s w) s.conns n j
    was = was_conn s w n s.conns j there

    before_it : IsCountedOn awaiting.state.flow was.old
    before_it = subst (λ (f : Exchanges). IsCountedOn f was.old) (sym (ap (λ (d : Desk). d.state.flow) awaits.rest)) (counted n was.old was.there)

    behind : IsCountedOn rested.state.flow was.old
    behind =
        subst (λ (f : Exchanges). IsCountedOn f was.old) (sym rests.flow)
        (each_rests was.old awaiting.state.awake.items (all_waiting awaiting.state) awaiting.state.flow (numbers (awaiting.state.flow.waiting ++ awaiting.state.flow.placed)) before_it)
