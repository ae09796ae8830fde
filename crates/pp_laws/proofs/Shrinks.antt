-- No exchange comes into a line where one is over, or its connection is closed.
use Rattle.std.proofs.Common.{◌≡◌, refl, ℕ, Bool, true, false, not, ◌==◌, ◌&&◌, List, [], ◌∷◌, Option, Some, None, subst, ap, ◌∙◌}
use Rattle.pp_target.specs.Key.{text_of}
use Rattle.pp_law.specs.Connections.{exchange, is_conn, is_exchange, on_conn, on_exchange, on_client_of, attempts_of, lost_one, without_row, is_unfilled, give_up_row, charge, lose_attempt, fail, without_ask, end_exchange, unplaced, may_ask_again, leave_place, lose_place, each_exchange, close_conn, out_of_tries}
use Rattle.pp_law.specs.Stages.{on_passed, is_headed}
use Rattle.pp_law.specs.State.{State, Course, Client, Conn, Exchange}
use Rattle.pp_law.specs.Table.{clear}
use Rattle.pp_laws.specs.Runs.{IsIn}
use Rattle.pp_laws.proofs.Lists.{Changed, From, in_change, in_filter, in_map, other, same}
use Rattle.pp_laws.proofs.Sound.{conn_number, exchange_number}
use Rattle.pp_laws.proofs.Untouched.{Untouched, clear-untouched}

-- ---- no line has it

abbrev pub NoLine : ℕ → State → Type 0
NoLine n s = (k : Conn) → IsIn k s.conns → IsIn n k.line → ⊥

-- nothing is in a line that was not there before
pub record Shrinks (s t : State) : Type 0 where
  pub exchanges : (e : Exchange) → IsIn e t.exchanges → (d : Exchange) × IsIn d s.exchanges × (e.number ≡ d.number)
  pub conns : (k : Conn) → IsIn k t.conns → (j : Conn) × IsIn j s.conns × (k.number ≡ j.number) × ((n : ℕ) → IsIn n k.line → IsIn n j.line)

pub shrinks_same : (s : State) → Shrinks s s
shrinks_same s = record { exchanges = λ e i. (e, i, refl); conns = λ k i. (k, i, refl, λ n l. l) }

pub shrinks_on : (s t u : State) → Shrinks s t → Shrinks t u → Shrinks s u
shrinks_on s t u one two = record {
  exchanges = λ e i. let f = two.exchanges e i in let g = one.exchanges f.0 f.1 in (g.0, g.1, f.2 ∙ g.2);
  conns = λ k i. let f = two.conns k i in let g = one.conns f.0 f.1 in (g.0, g.1, f.2 ∙ g.2, λ n l. g.3 n (f.3 n l));
}

pub shrinks_when : (s : State) (t : Bool) {x y : State} → Shrinks s x → Shrinks s y → Shrinks s (elim t as (λ c. State) [ true ↦ x | false ↦ y ])
shrinks_when s true hx hy = hx
shrinks_when s false hx hy = hy

pub shrinks_each : {A : Type 0} (s : State) (o : Option A) {x : State} {y : A → State} → Shrinks s x → ((a : A) → Shrinks s (y a)) → Shrinks s (elim o as (λ c. State) [ None ↦ x | Some a ↦ y a ])
shrinks_each s None hx hy = hx
shrinks_each s (Some a) hx hy = hy a

pub on_client_of-shrinks : (e : Exchange) (f : Client → Client) (s : State) → Shrinks s (on_client_of e f s)
unfolding on_client_of
on_client_of-shrinks e f s = record { exchanges = λ d i. (d, i, refl); conns = λ k i. (k, i, refl, λ n l. l) }

pub end_exchange-shrinks : (n : ℕ) (s : State) → Shrinks s (end_exchange n s)
unfolding end_exchange
end_exchange-shrinks n s = record { exchanges = λ e i. (e, (in_filter (λ d. not (is_exchange n d)) e s.exchanges i).0, refl); conns = λ k i. from k (in_map (without_ask n) k s.conns i) }
  where
    from : (k : Conn) → From (without_ask n) s.conns k → (j : Conn) × IsIn j s.conns × (k.number ≡ j.number) × ((m : ℕ) → IsIn m k.line → IsIn m j.line)
    from k r = (r.was, r.there, ap conn_number r.is, λ m l. (in_filter (λ x. not (x == n)) m r.was.line (subst (λ (j : Conn). IsIn m j.line) r.is l)).0)

pub on_exchange-shrinks : (n : ℕ) (f : Exchange → Exchange) (s : State) → ((e : Exchange) → (f e).number ≡ e.number) → Shrinks s (on_exchange n f s)
unfolding on_exchange
on_exchange-shrinks n f s kept = record { exchanges = λ e i. from e (in_change (is_exchange n) f e s.exchanges i); conns = λ k i. (k, i, refl, λ m l. l) }
  where
    from : (e : Exchange) → Changed (is_exchange n) f s.exchanges e → (d : Exchange) × IsIn d s.exchanges × (e.number ≡ d.number)
    from e (same i isnt) = (e, i, refl)
    from e (other d i is eq) = (d, i, ap exchange_number eq ∙ kept d)

untouched_shrinks : (s t : State) → Untouched s t → Shrinks s t
untouched_shrinks s t u = record { exchanges = λ e i. (e, subst (λ es. IsIn e es) u.exchanges i, refl); conns = λ k i. (k, subst (λ ks. IsIn k ks) u.conns i, refl, λ n l. l) }

give_up_row-shrinks : (e : Exchange) (s : State) → Shrinks s (give_up_row e s)
unfolding give_up_row
give_up_row-shrinks e s =
    shrinks_when s (is_unfilled s e)
    (shrinks_on s _ _ (untouched_shrinks s _ (clear-untouched (text_of e.key) s))
    (shrinks_on (clear (text_of e.key) s) _ _ (on_client_of-shrinks e without_row (clear (text_of e.key) s)) (on_exchange-shrinks e.number (λ x. record x { asker = None }) _ (λ d. refl))))
    (shrinks_same s)

charge-shrinks : (cost : Course → Course) (e : Exchange) (s : State) → Shrinks s (charge cost e s)
unfolding charge
charge-shrinks cost e s = shrinks_on s _ _ (on_client_of-shrinks e (λ c. record c { course = cost c.course }) s) (give_up_row-shrinks e _)

pub lose_attempt-shrinks : (e : Exchange) (s : State) → Shrinks s (lose_attempt e s)
unfolding lose_attempt
lose_attempt-shrinks e s = charge-shrinks (lost_one (attempts_of e)) e s

pub fail-shrinks : (e : Exchange) (s : State) → Shrinks s (fail e s)
unfolding fail
fail-shrinks e s = charge-shrinks out_of_tries e s

pub no_line_shrunk : (n : ℕ) (s t : State) → Shrinks s t → NoLine n s → NoLine n t
no_line_shrunk n s t shrinks no_line k i l = let f = shrinks.conns k i in no_line f.0 f.1 (f.3 n l)

pub leave_place-shrinks : (e : Exchange) (s : State) → Shrinks s (leave_place e s)
unfolding leave_place
leave_place-shrinks e s =
    shrinks_when s (is_headed e)
    (shrinks_on s _ _ (on_client_of-shrinks e (on_passed (λ p. record p { is_short = true })) s) (end_exchange-shrinks e.number _))
    (shrinks_when s (may_ask_again s e.number) (on_exchange-shrinks e.number unplaced s (λ d. refl)) (end_exchange-shrinks e.number s))

pub lose_place-shrinks : (counts : Bool) (e : Exchange) (s : State) → Shrinks s (lose_place counts e s)
unfolding lose_place
lose_place-shrinks counts e s = shrinks_when s counts (shrinks_on s _ _ (lose_attempt-shrinks e s) (leave_place-shrinks e _)) (leave_place-shrinks e s)

pub lose_places-shrinks : (counts : Bool) (line : List ℕ) (s : State) → Shrinks s (each_exchange (lose_place counts) line s)
unfolding each_exchange
lose_places-shrinks counts [] s = shrinks_same s
lose_places-shrinks counts (n ∷ line) s = shrinks_on s _ _ (shrinks_each s (exchange s n) (shrinks_same s) (λ e. lose_place-shrinks counts e s)) (lose_places-shrinks counts line _)

-- a connection that is closed has no line
abbrev pub off : Conn → Conn
off k = record k { is_closing = true; line = []; answer = None; unread = [] }

off-shrinks : (n : ℕ) (s : State) → Shrinks s (on_conn n off s)
unfolding on_conn
off-shrinks n s = record { exchanges = λ e i. (e, i, refl); conns = λ k i. from k (in_change (is_conn n) off k s.conns i) }
  where
    from : (k : Conn) → Changed (is_conn n) off s.conns k → (j : Conn) × IsIn j s.conns × (k.number ≡ j.number) × ((m : ℕ) → IsIn m k.line → IsIn m j.line)
    from k (same i isnt) = (k, i, refl, λ m l. l)
    from k (other j i is eq) = (j, i, ap conn_number eq, λ m l. absurd (subst (λ (x : Conn). IsIn m x.line) eq l))

pub close_conn-shrinks : (counts : Bool) (k : Conn) (s : State) → Shrinks s (close_conn counts k s)
unfolding close_conn
close_conn-shrinks counts k s = shrinks_on s _ _ (off-shrinks k.number s) (lose_places-shrinks (counts && not k.has_brought) k.line _)
