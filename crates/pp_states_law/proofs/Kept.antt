-- What an exchange that loses its place leaves as it was.
use Rattle.std.proofs.Common.{◌≡◌, ◌≤◌, refl, sym, subst, ap, ◌∙◌, ℕ, Bool, true, false, not, ◌==◌, find, filter, List, [], Some, None, Option}
use Rattle.std.specs.Prelude.{option_map}
use Rattle.pp_cache_law.proofs.Finds.{find_kept, find_mapped, find_out}
use Rattle.pp_cache_law.proofs.Numbers.{some_is}
use Rattle.pp_cache_law.proofs.PairLemmas.{count_mapped_same}
use Rattle.pp_flow_law.proofs.Ended.{not_so}
use Rattle.pp_flow_law.proofs.Entries.{none_some, off, other_way, same_number}
use Rattle.pp_flow_law.proofs.Exchanges.{find_change, find_change_else, isnt_exchange}
use Rattle.pp_flow_law.specs.Tables.{line_at, line_in}
use Rattle.pp_law.specs.Closing.{left_alone}
use Rattle.pp_law.specs.Connections.{charge, end_exchange, exchange, give_up_row, is_client, is_conn, is_exchange, is_for, is_unfilled, leave_place, lose_attempt, lose_place, lost_one, attempts_of, may_ask_again, on_client_of, on_exchange, unplaced, without_ask, without_row}
use Rattle.pp_law.specs.Lists.{Bytes, change, is_some_with, without}
use Rattle.pp_law.specs.Stages.{is_headed, on_passed, passed_of}
use Rattle.pp_law.specs.State.{State, Client, Conn, Course, Exchange, Passed, Passes}
use Rattle.pp_law.specs.Table.{clear, swept}
use Rattle.pp_seats_law.specs.Fates.{is_refused}
use Rattle.pp_states_law.specs.Decisions.{AreApart}
use Rattle.pp_states_law.proofs.Charged.{lost_given}
use Rattle.pp_states_law.proofs.Paid.{KeepsAll, if_for, paid_keeps, without_row_keeps}
use Rattle.pp_states_law.proofs.Shorts.{cut_off}
use Rattle.pp_states_law.specs.Charges.{GoesOn}
use Rattle.pp_states_law.specs.Lines.{AllGo}
use Rattle.pp_states_law.specs.Losses.{IsComing}
use Rattle.pp_target.specs.Key.{text_of}

-- each client and each exchange is one that was there
pub record WasClient (s : State) (m : ℕ) (c : Client) : Type 0 where
  pub before : Client
  pub there : find (is_client m) s.clients ≡ Some before
  pub goes : GoesOn before → GoesOn c
  pub comes : IsComing before → IsComing c

pub record WasExchange (s : State) (m : ℕ) (d : Exchange) : Type 0 where
  pub before : Exchange
  pub there : exchange s m ≡ Some before
  pub asker : (n : ℕ) → d.asker ≡ Some n → before.asker ≡ Some n

pub record Kept (k : ℕ) (s t : State) : Type 0 where
  pub apart : AreApart s → AreApart t
  pub empty : line_at s k ≡ [] → line_at t k ≡ []
  pub client : (m : ℕ) (c : Client) → find (is_client m) t.clients ≡ Some c → WasClient s m c
  pub exchange : (m : ℕ) (d : Exchange) → exchange t m ≡ Some d → WasExchange s m d

pub and_then : (k : ℕ) (s t u : State) → Kept k s t → Kept k t u → Kept k s u
and_then k s t u one two = record {
  apart = λ is. two.apart (one.apart is);
  empty = λ none. two.empty (one.empty none);
  client = λ m c found. join_client m c (two.client m c found);
  exchange = λ m d found. join_exchange m d (two.exchange m d found);
}
  where
    join_client : (m : ℕ) (c : Client) → WasClient t m c → WasClient s m c
    join_client m c b =
        let a : WasClient s m b.before = one.client m b.before b.there in
        record { before = a.before; there = a.there; goes = λ on. b.goes (a.goes on); comes = λ on. b.comes (a.comes on) }

    join_exchange : (m : ℕ) (d : Exchange) → WasExchange t m d → WasExchange s m d
    join_exchange m d b =
        let a : WasExchange s m b.before = one.exchange m b.before b.there in
        record { before = a.before; there = a.there; asker = λ n is. a.asker n (b.asker n is) }

pub all_go : (k : ℕ) (s t : State) → Kept k s t → AllGo s → AllGo t
all_go k s t kept all = record {
  going = λ n d there m c asks found. goes m c (kept.client m c found) (kept.exchange n d there) asks;
  coming = λ n d there m c asks found. comes m c (kept.client m c found) (kept.exchange n d there) asks;
}
  where
    goes : (m : ℕ) (c : Client) → WasClient s m c → {n : ℕ} {d : Exchange} → WasExchange s n d → d.asker ≡ Some m → GoesOn c
    goes m c b {n} {d} e asks = b.goes (all.going n e.before e.there m b.before (e.asker m asks) b.there)

    comes : (m : ℕ) (c : Client) → WasClient s m c → {n : ℕ} {d : Exchange} → WasExchange s n d → d.asker ≡ Some m → IsComing c
    comes m c b {n} {d} e asks = b.comes (all.coming n e.before e.there m b.before (e.asker m asks) b.there)

-- ---- each change

same_client : (s : State) (m : ℕ) (c : Client) → find (is_client m) s.clients ≡ Some c → WasClient s m c
same_client s m c found = record { before = c; there = found; goes = λ on. on; comes = λ on. on }

same_exchange : (s : State) (m : ℕ) (d : Exchange) → exchange s m ≡ Some d → WasExchange s m d
same_exchange s m d found = record { before = d; there = found; asker = λ n is. is }

-- a client is changed
pub record GoesThrough (f : Client → Client) : Type 0 where
  pub number : (c : Client) → (f c).number ≡ c.number
  pub goes : (c : Client) → GoesOn c → GoesOn (f c)
  pub comes : (c : Client) → IsComing c → IsComing (f c)

through : (f : Client → Client) → KeepsAll f → GoesThrough f
through f keeps = record {
  number = keeps.number;
  goes = λ c on. record { going = keeps.closing c ∙ on.going; given = keeps.given c on.given };
  comes = λ c on. ap (λ (o : Option Passed). is_some_with (λ p. p.pipe.is_finished) o) (keeps.passed c) ∙ on;
}

cut_through : GoesThrough (on_passed cut_off)
cut_through = record { number = λ c. number_by c (passed_of c); goes = λ c on. goes_by c (passed_of c) on; comes = λ c on. comes_by c (passed_of c) refl on }
  where
    number_by : (c : Client) (o : Option Passed) → (elim o as (λ t. Client) [ None ↦ c | Some p ↦ record c { brought = Passes (cut_off p) } ]).number ≡ c.number
    number_by c None = refl
    number_by c (Some p) = refl

    goes_by : (c : Client) (o : Option Passed) → GoesOn c → GoesOn (elim o as (λ t. Client) [ None ↦ c | Some p ↦ record c { brought = Passes (cut_off p) } ])
    goes_by c None on = on
    goes_by c (Some p) on = record { going = on.going; given = on.given }

    comes_by : (c : Client) (o : Option Passed) → passed_of c ≡ o → IsComing c → IsComing (elim o as (λ t. Client) [ None ↦ c | Some p ↦ record c { brought = Passes (cut_off p) } ])
    comes_by c None is on = on
    comes_by c (Some p) is on = sym (ap (λ (o : Option Passed). is_some_with (λ q. q.pipe.is_finished) o) is) ∙ on

if_through : (e : Exchange) (f : Client → Client) → GoesThrough f → GoesThrough (if_for e f)
if_through e f goes = record { number = λ c. number_by c (is_for e c); goes = λ c on. goes_by c (is_for e c) on; comes = λ c on. comes_by c (is_for e c) on }
  where
    number_by : (c : Client) (b : Bool) → (elim b as (λ t. Client) [ true ↦ f c | false ↦ c ]).number ≡ c.number
    number_by c true = goes.number c
    number_by c false = refl

    goes_by : (c : Client) (b : Bool) → GoesOn c → GoesOn (elim b as (λ t. Client) [ true ↦ f c | false ↦ c ])
    goes_by c true on = goes.goes c on
    goes_by c false on = on

    comes_by : (c : Client) (b : Bool) → IsComing c → IsComing (elim b as (λ t. Client) [ true ↦ f c | false ↦ c ])
    comes_by c true on = goes.comes c on
    comes_by c false on = on

was_client : (m : ℕ) (h : Client → Client) → GoesThrough h → (s : State) (c : Client) (o : Option Client) → find (is_client m) s.clients ≡ o → option_map h o ≡ Some c → WasClient s m c
was_client m h goes s c None is found = absurd (none_some c found)
was_client m h goes s c (Some b) is found =
    let same : h b ≡ c = some_is (h b) c found in
    record { before = b; there = is; goes = λ on. subst (λ (d : Client). GoesOn d) same (goes.goes b on); comes = λ on. subst (λ (d : Client). IsComing d) same (goes.comes b on) }

client_kept : (k : ℕ) (e : Exchange) (f : Client → Client) → GoesThrough f → (s : State) → Kept k s (on_client_of e f s)
unfolding on_client_of
client_kept k e f goes s = record {
  apart = λ is. is;
  empty = λ none. none;
  client = λ m c found. was_client m (if_for e f) (if_through e f goes) s c (find (is_client m) s.clients) refl (sym (find_mapped (is_client m) (if_for e f) s.clients (λ d. ap (λ (i : ℕ). i == m) ((if_through e f goes).number d))) ∙ found);
  exchange = λ m d found. same_exchange s m d found;
}

clear_kept : (k : ℕ) (key : Bytes) (s : State) → Kept k s (clear key s)
unfolding clear swept
clear_kept k key s = record { apart = λ is. is; empty = λ none. none; client = λ m c found. same_client s m c found; exchange = λ m d found. same_exchange s m d found }

-- an exchange is changed, and asked by nobody else
pub record AsksNobodyElse (to : Exchange → Exchange) : Type 0 where
  pub number : (e : Exchange) → (to e).number ≡ e.number
  pub asker : (e : Exchange) (n : ℕ) → (to e).asker ≡ Some n → e.asker ≡ Some n

changed_kept : (k n : ℕ) (to : Exchange → Exchange) → AsksNobodyElse to → (s : State) → Kept k s (on_exchange n to s)
unfolding on_exchange
changed_kept k n to asks s = record {
  apart = λ is. is;
  empty = λ none. none;
  client = λ m c found. same_client s m c found;
  exchange = λ m d found. by (m == n) m d refl found;
}
  where
    was : (m : ℕ) (d : Exchange) (o : Option Exchange) → exchange s m ≡ o → option_map to o ≡ Some d → WasExchange s m d
    was m d None is found = absurd (none_some d found)
    was m d (Some e) is found = let same : to e ≡ d = some_is (to e) d found in record { before = e; there = is; asker = λ i a. asks.asker e i (ap (λ (x : Exchange). x.asker) same ∙ a) }

    by : (b : Bool) (m : ℕ) (d : Exchange) → (m == n) ≡ b → find (is_exchange m) (change (is_exchange n) to s.exchanges) ≡ Some d → WasExchange s m d
    by true m d is found =
        was m d (exchange s m) refl
        (sym (find_change m to asks.number s.exchanges) ∙ ap (λ (i : ℕ). find (is_exchange m) (change (is_exchange i) to s.exchanges)) (same_number m n is) ∙ found)
    by false m d is found = same_exchange s m d (sym (find_change_else n m to asks.number is s.exchanges) ∙ found)

line_out : (n : ℕ) (o : Option Conn) → line_in o ≡ [] → line_in (option_map (without_ask n) o) ≡ []
line_out n None none = refl
line_out n (Some j) none = ap (λ (ns : List ℕ). filter (λ m. not (m == n)) ns) none

ended_kept : (k n : ℕ) (s : State) → Kept k s (end_exchange n s)
unfolding end_exchange
ended_kept k n s = record {
  apart = λ is m. subst (λ (i : ℕ). i ≤ 1) (sym (count_mapped_same (is_conn m) (without_ask n) s.conns (λ j. refl))) (is m);
  empty = λ none. ap (λ (o : Option Conn). line_in o) (find_mapped (is_conn k) (without_ask n) s.conns (λ j. refl)) ∙ line_out n (find (is_conn k) s.conns) none;
  client = λ m c found. same_client s m c found;
  exchange = λ m d found. by (m == n) m d refl found;
}
  where
    by : (b : Bool) (m : ℕ) (d : Exchange) → (m == n) ≡ b → find (is_exchange m) (without (is_exchange n) s.exchanges) ≡ Some d → WasExchange s m d
    by true m d is found =
        absurd (none_some d (sym (find_out (is_exchange m) (isnt_exchange n) s.exchanges (λ e out. subst (λ (i : ℕ). is_exchange i e ≡ false) (sym (same_number m n is)) (not_so (is_exchange n e) out))) ∙ found))
    by false m d is found = same_exchange s m d (sym (find_kept (is_exchange m) (isnt_exchange n) s.exchanges (λ e so. ap not (off e.number n m so (other_way m n is)))) ∙ found)

-- ---- all of it

left_asks : AsksNobodyElse left_alone
left_asks = record { number = λ e. refl; asker = λ e n is. absurd (none_some n is) }

unplaced_asks : AsksNobodyElse unplaced
unplaced_asks = record { number = λ e. refl; asker = λ e n is. is }

abbrev given_up_if : Exchange → State → Bool → State
given_up_if e s b = elim b as (λ t. State) [ false ↦ s | true ↦ on_exchange e.number left_alone (on_client_of e without_row (clear (text_of e.key) s)) ]

itself : (k : ℕ) (s : State) → Kept k s s
itself k s = record { apart = λ is. is; empty = λ none. none; client = λ m c found. same_client s m c found; exchange = λ m d found. same_exchange s m d found }

given_up_kept : (k : ℕ) (e : Exchange) (s : State) → Kept k s (give_up_row e s)
unfolding give_up_row
given_up_kept k e s = by (is_unfilled s e)
  where
    by : (b : Bool) → Kept k s (given_up_if e s b)
    by false = itself k s
    by true =
        and_then k s (on_client_of e without_row (clear (text_of e.key) s)) (on_exchange e.number left_alone (on_client_of e without_row (clear (text_of e.key) s)))
        (and_then k s (clear (text_of e.key) s) (on_client_of e without_row (clear (text_of e.key) s)) (clear_kept k (text_of e.key) s) (client_kept k e without_row (through without_row without_row_keeps) (clear (text_of e.key) s)))
        (changed_kept k e.number left_alone left_asks (on_client_of e without_row (clear (text_of e.key) s)))

abbrev paid : (Course → Course) → Client → Client
paid cost c = record c { course = cost c.course }

charge_kept : (k : ℕ) (cost : Course → Course) → ((course : Course) → is_refused course ≡ false → is_refused (cost course) ≡ false) → (e : Exchange) (s : State) → Kept k s (charge cost e s)
unfolding charge
charge_kept k cost given e s =
    and_then k s (on_client_of e (paid cost) s) (give_up_row e (on_client_of e (paid cost) s)) (client_kept k e (paid cost) (through (paid cost) (paid_keeps cost given)) s) (given_up_kept k e (on_client_of e (paid cost) s))

attempt_kept : (k : ℕ) (e : Exchange) (s : State) → Kept k s (lose_attempt e s)
unfolding lose_attempt
attempt_kept k e s = charge_kept k (lost_one (attempts_of e)) (lost_given (attempts_of e)) e s

abbrev elsewhere_if : Exchange → State → Bool → State
elsewhere_if e s b = elim b as (λ t. State) [ true ↦ on_exchange e.number unplaced s | false ↦ end_exchange e.number s ]

place_kept : (k : ℕ) (e : Exchange) (s : State) → Kept k s (leave_place e s)
unfolding leave_place
place_kept k e s = by (is_headed e)
  where
    at : (b : Bool) → Kept k s (elsewhere_if e s b)
    at true = changed_kept k e.number unplaced unplaced_asks s
    at false = ended_kept k e.number s

    by : (b : Bool) → Kept k s (elim b as (λ t. State) [ true ↦ end_exchange e.number (on_client_of e (on_passed cut_off) s) | false ↦ elsewhere_if e s (may_ask_again s e.number) ])
    by true =
        and_then k s (on_client_of e (on_passed cut_off) s) (end_exchange e.number (on_client_of e (on_passed cut_off) s)) (client_kept k e (on_passed cut_off) cut_through s) (ended_kept k e.number (on_client_of e (on_passed cut_off) s))
    by false = at (may_ask_again s e.number)

pub lost_kept : (k : ℕ) (counts : Bool) (e : Exchange) (s : State) → Kept k s (lose_place counts e s)
unfolding lose_place
lost_kept k counts e s = by counts
  where
    by : (b : Bool) → Kept k s (elim b as (λ t. State) [ true ↦ leave_place e (lose_attempt e s) | false ↦ leave_place e s ])
    by true = and_then k s (lose_attempt e s) (leave_place e (lose_attempt e s)) (attempt_kept k e s) (place_kept k e (lose_attempt e s))
    by false = place_kept k e s
