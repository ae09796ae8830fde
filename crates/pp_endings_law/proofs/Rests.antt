-- What the closing of a connection leaves as it was in the law, and what an exchange does whose attempts end.
use Rattle.std.proofs.Common.{◌≡◌, refl, sym, subst, ap, ◌∙◌, ℕ, Bool, true, false, not, ◌==◌, ◌&&◌, find, List, [], ◌∷◌, Some, None, Option}
use Rattle.std.specs.Prelude.{option_map}
use Rattle.pp_cache_law.proofs.Finds.{find_mapped}
use Rattle.pp_cache_law.proofs.Numbers.{some_is}
use Rattle.pp_turns_law.specs.Sides.{AreOrderly, MayClose}
use Rattle.pp_flow_law.proofs.Entries.{none_some, same_number}
use Rattle.pp_flow_law.proofs.Exchanges.{find_change, find_change_else}
use Rattle.pp_flow_law.specs.Frames.{emptied}
use Rattle.pp_law.specs.Closing.{left_alone}
use Rattle.pp_law.specs.Connections.{attempts_of, charge, close_conn, each_exchange, end_exchange, exchange, fail, give_up_row, is_client, is_exchange, is_for, is_unfilled, leave_place, lose_attempt, lose_place, lost_one, may_ask_again, on_client_of, on_conn, on_exchange, out_of_tries, unplaced, without_row}
use Rattle.pp_law.specs.Lists.{Bytes, change, is_some_with}
use Rattle.pp_law.specs.Stages.{is_headed, on_passed}
use Rattle.pp_law.specs.State.{State, Client, Conn, Course, Trying, OutOfTries, AskTooLong, RowRefused, Exchange, Passed}
use Rattle.pp_law.specs.Table.{clear, swept}
use Rattle.pp_seats_law.specs.Fates.{is_refused}
use Rattle.pp_states_law.proofs.Kept.{GoesThrough, Kept, WasClient, WasExchange, all_go, and_then}
use Rattle.pp_states_law.proofs.Paid.{KeepsAll, paid_keeps, without_row_keeps}
use Rattle.pp_states_law.specs.Charges.{GoesOn}
use Rattle.pp_states_law.specs.Losses.{IsComing}
use Rattle.pp_target.specs.Key.{text_of}

-- ---- what is no part of clients, exchanges, connections and the table

abbrev pub but_tables : State → State → State
but_tables s t = record s { clients = t.clients; conns = t.conns; exchanges = t.exchanges; instances = t.instances; chunks = t.chunks; entries = t.entries; displaced = t.displaced }

abbrev pub IsBut : State → State → Type 0
IsBut s t = t ≡ but_tables s t

pub but_then : (s t u : State) → IsBut s t → IsBut t u → IsBut s u
but_then s t u one two = two ∙ ap (λ (v : State). but_tables v u) one

client_of : (e : Exchange) (f : Client → Client) (s : State) → IsBut s (on_client_of e f s)
unfolding on_client_of
client_of e f s = refl

exchange_of : (n : ℕ) (f : Exchange → Exchange) (s : State) → IsBut s (on_exchange n f s)
unfolding on_exchange
exchange_of n f s = refl

conn_of : (n : ℕ) (f : Conn → Conn) (s : State) → IsBut s (on_conn n f s)
unfolding on_conn
conn_of n f s = refl

ended : (n : ℕ) (s : State) → IsBut s (end_exchange n s)
unfolding end_exchange
ended n s = refl

cleared : (key : Bytes) (s : State) → IsBut s (clear key s)
unfolding clear swept
cleared key s = refl

given_up : (e : Exchange) (s : State) → IsBut s (give_up_row e s)
unfolding give_up_row
given_up e s = by (is_unfilled s e)
  where
    by : (b : Bool) → IsBut s (elim b as (λ t. State) [ false ↦ s | true ↦ on_exchange e.number left_alone (on_client_of e without_row (clear (text_of e.key) s)) ])
    by false = refl
    by true =
        but_then s (on_client_of e without_row (clear (text_of e.key) s)) (on_exchange e.number left_alone (on_client_of e without_row (clear (text_of e.key) s)))
        (but_then s (clear (text_of e.key) s) (on_client_of e without_row (clear (text_of e.key) s)) (cleared (text_of e.key) s) (client_of e without_row (clear (text_of e.key) s)))
        (exchange_of e.number left_alone (on_client_of e without_row (clear (text_of e.key) s)))

charged : (cost : Course → Course) (e : Exchange) (s : State) → IsBut s (charge cost e s)
unfolding charge
charged cost e s = let t : State = on_client_of e (λ c. record c { course = cost c.course }) s in but_then s t (give_up_row e t) (client_of e (λ c. record c { course = cost c.course }) s) (given_up e t)

attempted : (e : Exchange) (s : State) → IsBut s (lose_attempt e s)
unfolding lose_attempt
attempted e s = charged (lost_one (attempts_of e)) e s

pub failed : (e : Exchange) (s : State) → IsBut s (fail e s)
unfolding fail
failed e s = charged out_of_tries e s

abbrev cut_off : Passed → Passed
cut_off p = record p { is_short = true }

left : (e : Exchange) (s : State) → IsBut s (leave_place e s)
unfolding leave_place
left e s = by (is_headed e)
  where
    at : (b : Bool) → IsBut s (elim b as (λ t. State) [ true ↦ on_exchange e.number unplaced s | false ↦ end_exchange e.number s ])
    at true = exchange_of e.number unplaced s
    at false = ended e.number s

    by : (b : Bool) → IsBut s (elim b as (λ t. State) [
      | true ↦ end_exchange e.number (on_client_of e (on_passed cut_off) s)
      | false ↦ elim (may_ask_again s e.number) as (λ t. State) [ true ↦ on_exchange e.number unplaced s | false ↦ end_exchange e.number s ]
    ])
    by true = but_then s (on_client_of e (on_passed cut_off) s) (end_exchange e.number (on_client_of e (on_passed cut_off) s)) (client_of e (on_passed cut_off) s) (ended e.number (on_client_of e (on_passed cut_off) s))
    by false = at (may_ask_again s e.number)

lost : (counts : Bool) (e : Exchange) (s : State) → IsBut s (lose_place counts e s)
unfolding lose_place
lost true e s = but_then s (lose_attempt e s) (leave_place e (lose_attempt e s)) (attempted e s) (left e (lose_attempt e s))
lost false e s = left e s

all_lost : (counts : Bool) (ns : List ℕ) (s : State) → IsBut s (each_exchange (lose_place counts) ns s)
unfolding each_exchange
all_lost counts [] s = refl
all_lost counts (n ∷ ns) s =
    let t : State = elim (exchange s n) as (λ u. State) [ None ↦ s | Some e ↦ lose_place counts e s ] in
    but_then s t (each_exchange (lose_place counts) ns t) (by (exchange s n)) (all_lost counts ns t)
  where
    by : (o : Option Exchange) → IsBut s (elim o as (λ u. State) [ None ↦ s | Some e ↦ lose_place counts e s ])
    by None = refl
    by (Some e) = lost counts e s

pub closed : (counts : Bool) (k : Conn) (s : State) → IsBut s (close_conn counts k s)
unfolding close_conn
closed counts k s =
    let t : State = on_conn k.number emptied s in
    but_then s t (each_exchange (lose_place (counts && not k.has_brought)) k.line t) (conn_of k.number emptied s) (all_lost (counts && not k.has_brought) k.line t)

-- ---- where its attempts end, connections stay, and who goes on does

same_client : (s : State) (m : ℕ) (c : Client) → find (is_client m) s.clients ≡ Some c → WasClient s m c
same_client s m c found = record { before = c; there = found; goes = λ on. on; comes = λ on. on }

same_exchange : (s : State) (m : ℕ) (d : Exchange) → exchange s m ≡ Some d → WasExchange s m d
same_exchange s m d found = record { before = d; there = found; asker = λ n is. is }

through : (f : Client → Client) → KeepsAll f → GoesThrough f
through f keeps = record {
  number = keeps.number;
  goes = λ c on. record { going = keeps.closing c ∙ on.going; given = keeps.given c on.given };
  comes = λ c on. ap (λ (o : Option Passed). is_some_with (λ p. p.pipe.is_finished) o) (keeps.passed c) ∙ on;
}

abbrev if_for : Exchange → (Client → Client) → Client → Client
if_for e f c = elim (is_for e c) as (λ t. Client) [ true ↦ f c | false ↦ c ]

if_through : (e : Exchange) (f : Client → Client) → GoesThrough f → GoesThrough (if_for e f)
if_through e f goes = record { number = λ c. number_by c (is_for e c); goes = λ c on. goes_by c (is_for e c) on; comes = λ c on. comes_by c (is_for e c) on }
  where
    number_by : (c : Client) (b : Bool) → (elim b as (λ t. Client) [ true ↦ f c | false ↦ c ]).number ≡ c.number
    number_by c true = goes.number c
    number_by c false = refl

    goes_by : (c : Client) (b : Bool) → GoesOn c → GoesOn (elim b as (λ t. Client) [ true ↦ f c | false ↦ c ])
    goes_by c true on = goes.goes c on
    goes_by c false on = on

    comes_by : (c : Client) (b : Bool) → IsComing c → IsComing (elim b as (λ t. Client) [ true ↦ f c | false ↦ c ])
    comes_by c true on = goes.comes c on
    comes_by c false on = on

was_client : (m : ℕ) (h : Client → Client) → GoesThrough h → (s : State) (c : Client) (o : Option Client) → find (is_client m) s.clients ≡ o → option_map h o ≡ Some c → WasClient s m c
was_client m h goes s c None is found = absurd (none_some c found)
was_client m h goes s c (Some b) is found =
    let same : h b ≡ c = some_is (h b) c found in
    record { before = b; there = is; goes = λ on. subst (λ (d : Client). GoesOn d) same (goes.goes b on); comes = λ on. subst (λ (d : Client). IsComing d) same (goes.comes b on) }

client_kept : (e : Exchange) (f : Client → Client) → GoesThrough f → (s : State) → Kept 0 s (on_client_of e f s)
unfolding on_client_of
client_kept e f goes s = record {
  apart = λ is. is;
  empty = λ none. none;
  client = λ m c found. was_client m (if_for e f) (if_through e f goes) s c (find (is_client m) s.clients) refl (sym (find_mapped (is_client m) (if_for e f) s.clients (λ d. ap (λ (i : ℕ). i == m) ((if_through e f goes).number d))) ∙ found);
  exchange = λ m d found. same_exchange s m d found;
}

clear_kept : (key : Bytes) (s : State) → Kept 0 s (clear key s)
unfolding clear swept
clear_kept key s = record { apart = λ is. is; empty = λ none. none; client = λ m c found. same_client s m c found; exchange = λ m d found. same_exchange s m d found }

left_kept : (n : ℕ) (s : State) → Kept 0 s (on_exchange n left_alone s)
unfolding on_exchange
left_kept n s = record {
  apart = λ is. is;
  empty = λ none. none;
  client = λ m c found. same_client s m c found;
  exchange = λ m d found. by (m == n) m d refl found;
}
  where
    was : (m : ℕ) (d : Exchange) (o : Option Exchange) → exchange s m ≡ o → option_map left_alone o ≡ Some d → WasExchange s m d
    was m d None is found = absurd (none_some d found)
    was m d (Some e) is found = record { before = e; there = is; asker = λ i asks. absurd (none_some i (ap (λ (x : Exchange). x.asker) (some_is (left_alone e) d found) ∙ asks)) }

    by : (b : Bool) (m : ℕ) (d : Exchange) → (m == n) ≡ b → find (is_exchange m) (change (is_exchange n) left_alone s.exchanges) ≡ Some d → WasExchange s m d
    by true m d is found =
        was m d (exchange s m) refl (sym (find_change m left_alone (λ e. refl) s.exchanges) ∙ ap (λ (i : ℕ). find (is_exchange m) (change (is_exchange i) left_alone s.exchanges)) (same_number m n is) ∙ found)
    by false m d is found = same_exchange s m d (sym (find_change_else n m left_alone (λ e. refl) is s.exchanges) ∙ found)

itself : (s : State) → Kept 0 s s
itself s = record { apart = λ is. is; empty = λ none. none; client = λ m c found. same_client s m c found; exchange = λ m d found. same_exchange s m d found }

given_up_kept : (e : Exchange) (s : State) → Kept 0 s (give_up_row e s)
unfolding give_up_row
given_up_kept e s = by (is_unfilled s e)
  where
    by : (b : Bool) → Kept 0 s (elim b as (λ t. State) [ false ↦ s | true ↦ on_exchange e.number left_alone (on_client_of e without_row (clear (text_of e.key) s)) ])
    by false = itself s
    by true =
        and_then 0 s (on_client_of e without_row (clear (text_of e.key) s)) (on_exchange e.number left_alone (on_client_of e without_row (clear (text_of e.key) s)))
        (and_then 0 s (clear (text_of e.key) s) (on_client_of e without_row (clear (text_of e.key) s)) (clear_kept (text_of e.key) s) (client_kept e without_row (through without_row without_row_keeps) (clear (text_of e.key) s)))
        (left_kept e.number (on_client_of e without_row (clear (text_of e.key) s)))

out_given : (course : Course) → is_refused course ≡ false → is_refused (out_of_tries course) ≡ false
out_given (Trying n) given = refl
out_given OutOfTries given = refl
out_given AskTooLong given = refl
out_given RowRefused given = given

abbrev out : Client → Client
out c = record c { course = out_of_tries c.course }

failed_kept : (e : Exchange) (s : State) → Kept 0 s (fail e s)
unfolding fail charge
failed_kept e s = and_then 0 s (on_client_of e out s) (give_up_row e (on_client_of e out s)) (client_kept e out (through out (paid_keeps out_of_tries out_given)) s) (given_up_kept e (on_client_of e out s))

client_conns : (e : Exchange) (f : Client → Client) (s : State) → (on_client_of e f s).conns ≡ s.conns
unfolding on_client_of
client_conns e f s = refl

given_up_conns : (e : Exchange) (s : State) → (give_up_row e s).conns ≡ s.conns
unfolding give_up_row on_exchange on_client_of clear swept
given_up_conns e s = by (is_unfilled s e)
  where
    by : (b : Bool) → (elim b as (λ t. State) [ false ↦ s | true ↦ on_exchange e.number left_alone (on_client_of e without_row (clear (text_of e.key) s)) ]).conns ≡ s.conns
    by false = refl
    by true = refl

pub failed_conns : (e : Exchange) (s : State) → (fail e s).conns ≡ s.conns
unfolding fail charge
failed_conns e s = given_up_conns e (on_client_of e out s) ∙ client_conns e out s

pub failed_may : (e : Exchange) (s : State) → MayClose s → MayClose (fail e s)
failed_may e s may = record {
  apart = (failed_kept e s).apart may.apart;
  orderly = subst (λ (ks : List Conn). AreOrderly ks) (sym (failed_conns e s)) may.orderly;
  go = all_go 0 s (fail e s) (failed_kept e s) may.go;
}
