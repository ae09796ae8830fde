-- A connection that is closed once more stays as it is.
use Rattle.std.proofs.Common.{◌≡◌, refl, sym, subst, ap, ap₂, ◌∙◌, ℕ, Bool, true, false, not, ◌==◌, ◌&&◌, cond, filter, find, map, List, [], ◌∷◌, Some, None, Option}
use Rattle.std.specs.Prelude.{⊤}
use Rattle.pp_cache_law.proofs.Finds.{find_passes}
use Rattle.pp_cache_law.proofs.Numbers.{some_is}
use Rattle.pp_flow_law.proofs.Entries.{none_some, same_number}
use Rattle.pp_flow_law.specs.Frames.{emptied}
use Rattle.pp_law.specs.Closing.{left_alone}
use Rattle.pp_law.specs.Connections.{attempts_of, charge, close_conn, conn, each_exchange, end_exchange, exchange, give_up_row, is_conn, is_unfilled, leave_place, lose_attempt, lose_place, lost_one, may_ask_again, on_client_of, on_conn, on_exchange, unplaced, without_ask, without_row}
use Rattle.pp_law.specs.Lists.{change}
use Rattle.pp_law.specs.Responses.{close_this}
use Rattle.pp_law.specs.Stages.{is_headed, on_passed}
use Rattle.pp_law.specs.State.{State, Conn, Exchange, Client}
use Rattle.pp_law.specs.Table.{clear, swept}
use Rattle.pp_target.specs.Key.{text_of}

-- ---- connections of that number are emptied, and stay so

abbrev pub AreEmptied : ℕ → List Conn → Type 0
AreEmptied n [] = ⊤
AreEmptied n (k ∷ ks) = (is_conn n k ≡ true → emptied k ≡ k) × AreEmptied n ks

set_emptied : (n : ℕ) (ks : List Conn) → AreEmptied n (change (is_conn n) emptied ks)
set_emptied n [] = tt
set_emptied n (k ∷ ks) = (by (is_conn n k) refl, set_emptied n ks)
  where
    by : (b : Bool) → is_conn n k ≡ b → is_conn n (elim b as (λ t. Conn) [ true ↦ emptied k | false ↦ k ]) ≡ true → emptied (elim b as (λ t. Conn) [ true ↦ emptied k | false ↦ k ]) ≡ (elim b as (λ t. Conn) [ true ↦ emptied k | false ↦ k ])
    by true is its = refl
    by false off its = absurd (let bad : false ≡ true = sym off ∙ its in cc bad)

emptied_again : (n : ℕ) (ks : List Conn) → AreEmptied n ks → change (is_conn n) emptied ks ≡ ks
emptied_again n [] all = refl
emptied_again n (k ∷ ks) all = ap₂ (λ (j : Conn) (js : List Conn). j ∷ js) (by (is_conn n k) refl) (emptied_again n ks all.1)
  where
    by : (b : Bool) → is_conn n k ≡ b → (elim b as (λ t. Conn) [ true ↦ emptied k | false ↦ k ]) ≡ k
    by true is = all.0 is
    by false off = refl

asks_out : (m : ℕ) (k : Conn) → emptied k ≡ k → emptied (without_ask m k) ≡ without_ask m k
asks_out m k is =
    let line : k.line ≡ [] = ap (λ (j : Conn). j.line) (sym is) in
    ap (λ (j : Conn). let i : Conn = record j { line = [] } in i) is ∙ ap (λ (ns : List ℕ). let i : Conn = record k { line = ns } in i) (sym (ap (λ (ns : List ℕ). filter (λ i. not (i == m)) ns) line))

out_emptied : (n m : ℕ) (ks : List Conn) → AreEmptied n ks → AreEmptied n (map (without_ask m) ks)
out_emptied n m [] all = tt
out_emptied n m (k ∷ ks) all = (λ is. asks_out m k (all.0 is), out_emptied n m ks all.1)

-- ---- whatever exchanges lose their place

abbrev Stays : State → State → Type 0
Stays s t = (n : ℕ) → AreEmptied n s.conns → AreEmptied n t.conns

as_before : (s t : State) → t.conns ≡ s.conns → Stays s t
as_before s t same n all = subst (λ (ks : List Conn). AreEmptied n ks) (sym same) all

client_conns : (e : Exchange) (f : Client → Client) (s : State) → (on_client_of e f s).conns ≡ s.conns
unfolding on_client_of
client_conns e f s = refl

exchange_conns : (m : ℕ) (f : Exchange → Exchange) (s : State) → (on_exchange m f s).conns ≡ s.conns
unfolding on_exchange
exchange_conns m f s = refl

given_up_conns : (e : Exchange) (s : State) → (give_up_row e s).conns ≡ s.conns
unfolding give_up_row on_exchange on_client_of clear swept
given_up_conns e s = by (is_unfilled s e)
  where
    by : (b : Bool) → (elim b as (λ t. State) [ false ↦ s | true ↦ on_exchange e.number left_alone (on_client_of e without_row (clear (text_of e.key) s)) ]).conns ≡ s.conns
    by false = refl
    by true = refl

attempt_conns : (e : Exchange) (s : State) → (lose_attempt e s).conns ≡ s.conns
unfolding lose_attempt charge
attempt_conns e s = given_up_conns e (on_client_of e (λ c. record c { course = lost_one (attempts_of e) c.course }) s) ∙ client_conns e (λ c. record c { course = lost_one (attempts_of e) c.course }) s

ended_conns : (m : ℕ) (s : State) → (end_exchange m s).conns ≡ map (without_ask m) s.conns
unfolding end_exchange
ended_conns m s = refl

ended_stays : (m : ℕ) (s : State) → Stays s (end_exchange m s)
ended_stays m s n all = subst (λ (ks : List Conn). AreEmptied n ks) (sym (ended_conns m s)) (out_emptied n m s.conns all)

left_stays : (e : Exchange) (s : State) → Stays s (leave_place e s)
unfolding leave_place
left_stays e s = by (is_headed e)
  where
    at : (b : Bool) → Stays s (elim b as (λ t. State) [ true ↦ on_exchange e.number unplaced s | false ↦ end_exchange e.number s ])
    at true = as_before s (on_exchange e.number unplaced s) (exchange_conns e.number unplaced s)
    at false = ended_stays e.number s

    by : (b : Bool) → Stays s (elim b as (λ t. State) [
      | true ↦ end_exchange e.number (on_client_of e (on_passed (λ p. record p { is_short = true })) s)
      | false ↦ elim (may_ask_again s e.number) as (λ t. State) [ true ↦ on_exchange e.number unplaced s | false ↦ end_exchange e.number s ]
    ])
    by true n all =
        let t : State = on_client_of e (on_passed (λ p. record p { is_short = true })) s in
        ended_stays e.number t n (as_before s t (client_conns e (on_passed (λ p. record p { is_short = true })) s) n all)
    by false n all = at (may_ask_again s e.number) n all

lost_stays : (counts : Bool) (e : Exchange) (s : State) → Stays s (lose_place counts e s)
unfolding lose_place
lost_stays true e s n all = left_stays e (lose_attempt e s) n (as_before s (lose_attempt e s) (attempt_conns e s) n all)
lost_stays false e s n all = left_stays e s n all

all_stay : (counts : Bool) (ns : List ℕ) (s : State) → Stays s (each_exchange (lose_place counts) ns s)
unfolding each_exchange
all_stay counts [] s n all = all
all_stay counts (m ∷ ns) s n all = all_stay counts ns (elim (exchange s m) as (λ u. State) [ None ↦ s | Some e ↦ lose_place counts e s ]) n (by (exchange s m))
  where
    by : (o : Option Exchange) → AreEmptied n (elim o as (λ u. State) [ None ↦ s | Some e ↦ lose_place counts e s ]).conns
    by None = all
    by (Some e) = lost_stays counts e s n all

emptied_conns : (n : ℕ) (s : State) → (on_conn n emptied s).conns ≡ change (is_conn n) emptied s.conns
unfolding on_conn
emptied_conns n s = refl

closed_emptied : (counts : Bool) (k : Conn) (s : State) → AreEmptied k.number (close_conn counts k s).conns
unfolding close_conn
closed_emptied counts k s =
    all_stay (counts && not k.has_brought) k.line (on_conn k.number emptied s) k.number (subst (λ (ks : List Conn). AreEmptied k.number ks) (sym (emptied_conns k.number s)) (set_emptied k.number s.conns))

-- ---- so it is closed twice as once

found_emptied : (n : ℕ) (ks : List Conn) (k : Conn) → AreEmptied n ks → find (is_conn n) ks ≡ Some k → emptied k ≡ k
found_emptied n [] k all there = absurd (none_some k there)
found_emptied n (j ∷ ks) k all there = by (is_conn n j) refl there (λ rest. found_emptied n ks k all.1 rest)
  where
    by : (b : Bool) → is_conn n j ≡ b → cond b (Some j) (find (is_conn n) ks) ≡ Some k → (find (is_conn n) ks ≡ Some k → emptied k ≡ k) → emptied k ≡ k
    by true is here rest = subst (λ (i : Conn). emptied i ≡ i) (some_is j k here) (all.0 is)
    by false off here rest = rest here

conn_set : (n : ℕ) (s : State) → on_conn n emptied s ≡ record s { conns = change (is_conn n) emptied s.conns }
unfolding on_conn
conn_set n s = refl

none_lost : (counts : Bool) (s : State) → each_exchange (lose_place counts) [] s ≡ s
unfolding each_exchange
none_lost counts s = refl

pub close_again : (n : ℕ) (t : State) → AreEmptied n t.conns → close_this n t ≡ t
unfolding close_this close_conn
close_again n t all = by (conn t n) refl
  where
    by : (o : Option Conn) → conn t n ≡ o → (elim o as (λ u. State) [ None ↦ t | Some k ↦ each_exchange (lose_place (true && not k.has_brought)) k.line (on_conn k.number emptied t) ]) ≡ t
    by None none = refl
    by (Some k) there =
        let line : k.line ≡ [] = ap (λ (j : Conn). j.line) (sym (found_emptied n t.conns k all there)) in
        ap (λ (ns : List ℕ). each_exchange (lose_place (true && not k.has_brought)) ns (on_conn k.number emptied t)) line
        ∙ none_lost (true && not k.has_brought) (on_conn k.number emptied t)
        ∙ conn_set k.number t
        ∙ ap (λ (ks : List Conn). let u : State = record t { conns = ks } in u)
        (ap (λ (m : ℕ). change (is_conn m) emptied t.conns) (same_number k.number n (find_passes (is_conn n) t.conns k there)) ∙ emptied_again n t.conns all)

this_is : (n : ℕ) (s : State) (k : Conn) → conn s n ≡ Some k → close_this n s ≡ close_conn true k s
unfolding close_this
this_is n s k there = ap (λ (o : Option Conn). elim o as (λ u. State) [ None ↦ s | Some j ↦ close_conn true j s ]) there

pub closed_this : (n : ℕ) (s : State) (k : Conn) → conn s n ≡ Some k → (close_this n s ≡ close_conn true k s) × AreEmptied n (close_conn true k s).conns
closed_this n s k there =
    (this_is n s k there, subst (λ (m : ℕ). AreEmptied m (close_conn true k s).conns) (same_number k.number n (find_passes (is_conn n) s.conns k there)) (closed_emptied true k s))
