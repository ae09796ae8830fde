-- A connection that is closed, and its exchanges that are asked again, keep the bounds.
use Rattle.std.proofs.Common.{◌≡◌, ◌⊎◌, refl, ℕ, zero-le, Bool, true, false, not, ◌==◌, ◌&&◌, List, [], ◌∷◌, map, find, cond, Some, None, inl, inr, sym, subst, ap, ◌∙◌}
use Rattle.pp_law.specs.Connections.{exchange, is_conn, is_exchange, on_conn, on_exchange, unplaced, end_exchange, may_ask_again, leave_place, lose_place, lose_attempt, each_exchange, close_conn}
use Rattle.pp_law.specs.Stages.{on_passed, is_headed}
use Rattle.pp_law.specs.State.{State, Conn, Exchange}
use Rattle.pp_laws.specs.Runs.{IsIn}
use Rattle.pp_laws.proofs.Lists.{Changed, changed_at, in_change, in_find, one_of, other, same}
use Rattle.pp_laws.proofs.Shrinks.{Shrinks}
use Rattle.pp_laws.proofs.Sound.{conn_number}
use Rattle.pp_laws.proofs.Tests.{number_same, same_number}
use Rattle.pp_laws_bounds.proofs.Cases.{when}
use Rattle.pp_laws_bounds.proofs.Changes.{Smaller, conns_with, none_left, smaller_at}
use Rattle.pp_laws_bounds.proofs.Counts.{in_map_of}
use Rattle.pp_laws_bounds.proofs.Exchanges.{end_exchange-kept, ended_nowhere, lose_attempt-kept, on_client_of-kept, on_exchange-kept}
use Rattle.pp_laws_bounds.proofs.Kept.{AreLined, Kept, Stands, facts_of, kept}

-- no exchange of that number has a place
abbrev IsNowhere : ℕ → State → Type 0
IsNowhere n s = (e : Exchange) (m : ℕ) → IsIn e s.exchanges → e.number ≡ n → e.place ≡ Some m → ⊥

unplaced_nowhere : (n : ℕ) (s : State) → IsNowhere n (on_exchange n unplaced s)
unfolding on_exchange
unplaced_nowhere n s e m i is some = by (in_change (is_exchange n) unplaced e s.exchanges i)
  where
    by : Changed (is_exchange n) unplaced s.exchanges e → ⊥
    by (same j isnt) = let both : true ≡ false = sym (ap (λ x. x == n) is ∙ number_same n) ∙ isnt in cc both
    by (other d j hit eq) = let both : None ≡ Some m = sym (ap (λ (x : Exchange). x.place) eq) ∙ some in cc both

unplaced-kept : {but : List ℕ} (n : ℕ) (s : State) → Kept but s → Kept but (on_exchange n unplaced s)
unplaced-kept n s h = on_exchange-kept n unplaced s (λ e. record { number = refl; place = λ m is. absurd (cc is); fits = λ le. zero-le }) h

nowhere_when : (n : ℕ) (t : Bool) (x y : State) → IsNowhere n x → IsNowhere n y → IsNowhere n (elim t as (λ c. State) [ true ↦ x | false ↦ y ])
nowhere_when n true x y hx hy = hx
nowhere_when n false x y hx hy = hy

ended : (n : ℕ) (s : State) → IsNowhere n (end_exchange n s)
ended n s e m i is some = ended_nowhere n s e i is

leave_place-nowhere : (e : Exchange) (s : State) → IsNowhere e.number (leave_place e s)
unfolding leave_place
leave_place-nowhere e s = nowhere_when e.number (is_headed e) _ _ (ended e.number _) (nowhere_when e.number (may_ask_again s e.number) _ _ (unplaced_nowhere e.number s) (ended e.number s))

leave_place-kept : {but : List ℕ} (e : Exchange) (s : State) → Kept but s → Kept but (leave_place e s)
unfolding leave_place
leave_place-kept e s h =
    when (is_headed e)
    (end_exchange-kept e.number _ (on_client_of-kept e (on_passed (λ p. record p { is_short = true })) s h))
    (when (may_ask_again s e.number) (unplaced-kept e.number s h) (end_exchange-kept e.number s h))

lose_place-nowhere : (counts : Bool) (e : Exchange) (s : State) → IsNowhere e.number (lose_place counts e s)
unfolding lose_place
lose_place-nowhere counts e s = nowhere_when e.number counts _ _ (leave_place-nowhere e (lose_attempt e s)) (leave_place-nowhere e s)

lose_place-kept : {but : List ℕ} (counts : Bool) (e : Exchange) (s : State) → Kept but s → Kept but (lose_place counts e s)
unfolding lose_place
lose_place-kept counts e s h = when counts (leave_place-kept e _ (lose_attempt-kept e s h)) (leave_place-kept e s h)

-- none is there that is not found
none_found : (n : ℕ) (es : List Exchange) (e : Exchange) → find (is_exchange n) es ≡ None → IsIn e es → e.number ≡ n → ⊥
none_found n [] e none i is = i
none_found n (d ∷ es) e none i is = by (is_exchange n d) refl none i (λ found j. none_found n es e found j is)
  where
    by : (t : Bool) → is_exchange n d ≡ t → cond t (Some d) (find (is_exchange n) es) ≡ None → (e ≡ d) ⊎ IsIn e es → (find (is_exchange n) es ≡ None → IsIn e es → ⊥) → ⊥
    by true hit found at rest = cc found
    by false isnt found (inl eq) rest = let both : true ≡ false = sym (number_same n) ∙ ap (λ x. x == n) (sym is ∙ ap (λ (x : Exchange). x.number) eq) ∙ isnt in cc both
    by false isnt found (inr j) rest = rest found j

lost_first : {but : List ℕ} (counts : Bool) (n : ℕ) (s : State) → (found : _) → exchange s n ≡ found → Kept (n ∷ but) s → Kept but (elim found as (λ c. State) [ None ↦ s | Some e ↦ lose_place counts e s ])
lost_first {but} counts n s None none h = kept (none_left n but s (λ e m i is some. none_found n s.exchanges e none i is) (facts_of h))
lost_first {but} counts n s (Some e) found h =
    kept (none_left n but (lose_place counts e s) (subst (λ m. IsNowhere m (lose_place counts e s)) (same_number e.number n (in_find (is_exchange n) e s.exchanges found).1) (lose_place-nowhere counts e s)) (facts_of (lose_place-kept counts e s h)))

lose_places-kept : (counts : Bool) (line : List ℕ) (s : State) → Kept line s → Kept [] (each_exchange (lose_place counts) line s)
unfolding each_exchange
lose_places-kept counts [] s h = h
lose_places-kept counts (n ∷ line) s h = lose_places-kept counts line _ (lost_first counts n s (exchange s n) refl h)

-- ---- a connection is closed

abbrev off : Conn → Conn
off k = record k { is_closing = true; line = []; answer = None; unread = [] }

off_smaller : Smaller off
off_smaller = record { number = λ k. refl; goes = λ host port k. refl; line = λ k. zero-le; closed = λ k was closing. refl }

-- what the connection of that number carries stands in this line
abbrev pub Covers : Conn → State → Type 0
Covers k s = (j : Conn) (n : ℕ) → IsIn j s.conns → j.number ≡ k.number → IsIn n j.line → IsIn n k.line

pub covers : {but : List ℕ} (k : Conn) (s : State) → IsIn k s.conns → Kept but s → Covers k s
covers k s there h j n i number l = subst (λ (x : Conn). IsIn n x.line) (one_of conn_number s.conns j k (facts_of h).lines.rise i there number) l

pub covers_shrunk : (k : Conn) (s t : State) → Shrinks s t → Covers k s → Covers k t
covers_shrunk k s t shrinks all j n i number l = let f = shrinks.conns j i in all f.0 n f.1 (sym f.2 ∙ number) (f.3 n l)

off-kept : (k : Conn) (s : State) → Covers k s → Kept [] s → Kept k.line (on_conn k.number off s)
unfolding on_conn
off-kept k s all h = kept (conns_with [] k.line s (changed_at (is_conn k.number) off) (smaller_at (is_conn k.number) off off_smaller) lined (facts_of h))
  where
    at : (j : Conn) (t : Bool) → is_conn k.number j ≡ t → (e : Exchange) (n : ℕ) → IsIn j s.conns → j.number ≡ n → IsIn e.number j.line → Stands e n (map (changed_at (is_conn k.number) off) s.conns) ⊎ IsIn e.number k.line
    at j true hit e n i number l = inr (all j e.number i (same_number j.number k.number hit) l)
    at j false isnt e n i number l = inl (j, subst (λ (x : Conn). IsIn x (map (changed_at (is_conn k.number) off) s.conns)) (ap (λ t. elim t as (λ c. Conn) [ true ↦ off j | false ↦ j ]) isnt) (in_map_of (changed_at (is_conn k.number) off) j s.conns i), number, l)

    by : (e : Exchange) (n : ℕ) → Stands e n s.conns ⊎ IsIn e.number [] → Stands e n (map (changed_at (is_conn k.number) off) s.conns) ⊎ IsIn e.number k.line
    by e n (inl w) = at w.0 (is_conn k.number w.0) refl e n w.1 w.2 w.3
    by e n (inr l) = absurd l

    lined : s.is_stopped ≡ false → AreLined k.line s.exchanges (map (changed_at (is_conn k.number) off) s.conns)
    lined going e n i is = by e n ((facts_of h).lined going e n i is)

pub close_conn-kept : (counts : Bool) (k : Conn) (s : State) → Covers k s → Kept [] s → Kept [] (close_conn counts k s)
unfolding close_conn
close_conn-kept counts k s all h = lose_places-kept (counts && not k.has_brought) k.line _ (off-kept k s all h)
