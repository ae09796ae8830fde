-- What an exchange costs its request leaves all else as it was.
use Rattle.std.proofs.Common.{◌≡◌, refl, sym, subst, ap, ◌∙◌, ℕ, Bool, true, false, ◌==◌, ◌||◌, find, Some, None, Option}
use Rattle.std.specs.Prelude.{option_map}
use Rattle.pp_cache_law.proofs.Finds.{find_mapped}
use Rattle.pp_cache_law.proofs.Numbers.{some_is}
use Rattle.pp_flow_law.proofs.Entries.{none_some}
use Rattle.pp_law.specs.Closing.{left_alone}
use Rattle.pp_law.specs.Connections.{charge, exchange, give_up_row, is_client, is_for, is_unfilled, on_client_of, on_exchange, without_row, anew}
use Rattle.pp_law.specs.Lists.{Bytes}
use Rattle.pp_law.specs.Stages.{is_begun, passed_of}
use Rattle.pp_law.specs.State.{State, Client, Course, Exchange, Trying, OutOfTries, AskTooLong, RowRefused}
use Rattle.pp_law.specs.Table.{clear, swept}
use Rattle.pp_peers_law.proofs.Finds.{find_there}
use Rattle.pp_seats_law.specs.Fates.{is_refused}
use Rattle.pp_target.specs.Key.{text_of}

-- ---- the client as it was before

pub record Before (s : State) (m : ℕ) (c : Client) : Type 0 where
  pub before : Client
  pub there : find (is_client m) s.clients ≡ Some before
  pub closing : c.is_closing ≡ before.is_closing
  pub passed : passed_of c ≡ passed_of before
  pub given : is_refused before.course ≡ false → is_refused c.course ≡ false

-- the connections stay, and each client is one that was there
pub record Follows (s t : State) : Type 0 where
  pub conns : t.conns ≡ s.conns
  pub client : (m : ℕ) (c : Client) → find (is_client m) t.clients ≡ Some c → Before s m c

-- the exchange with that number is there, in its place, and nobody's where it was
pub record Stays (s t : State) (n : ℕ) (e : Exchange) : Type 0 where
  pub follows : Follows s t
  pub known : Exchange
  pub there : exchange t n ≡ Some known
  pub place : known.place ≡ e.place
  pub asker : (m : ℕ) → known.asker ≡ Some m → e.asker ≡ Some m

then : (s t u : State) → Follows s t → Follows t u → Follows s u
then s t u one two = record { conns = two.conns ∙ one.conns; client = λ m c found. join m c (two.client m c found) }
  where
    join : (m : ℕ) (c : Client) → Before t m c → Before s m c
    join m c b =
        let a : Before s m b.before = one.client m b.before b.there in
        record { before = a.before; there = a.there; closing = b.closing ∙ a.closing; passed = b.passed ∙ a.passed; given = λ ok. b.given (a.given ok) }

-- ---- one client is changed

pub record KeepsAll (f : Client → Client) : Type 0 where
  pub number : (c : Client) → (f c).number ≡ c.number
  pub closing : (c : Client) → (f c).is_closing ≡ c.is_closing
  pub passed : (c : Client) → passed_of (f c) ≡ passed_of c
  pub given : (c : Client) → is_refused c.course ≡ false → is_refused (f c).course ≡ false

abbrev pub if_for : Exchange → (Client → Client) → Client → Client
if_for e f c = elim (is_for e c) as (λ t. Client) [ true ↦ f c | false ↦ c ]

if_kept : (e : Exchange) (f : Client → Client) → KeepsAll f → KeepsAll (if_for e f)
if_kept e f keeps = record {
  number = λ c. number_by c (is_for e c);
  closing = λ c. closing_by c (is_for e c);
  passed = λ c. passed_by c (is_for e c);
  given = λ c ok. given_by c (is_for e c) ok;
}
  where
    number_by : (c : Client) (b : Bool) → (elim b as (λ t. Client) [ true ↦ f c | false ↦ c ]).number ≡ c.number
    number_by c true = keeps.number c
    number_by c false = refl

    closing_by : (c : Client) (b : Bool) → (elim b as (λ t. Client) [ true ↦ f c | false ↦ c ]).is_closing ≡ c.is_closing
    closing_by c true = keeps.closing c
    closing_by c false = refl

    passed_by : (c : Client) (b : Bool) → passed_of (elim b as (λ t. Client) [ true ↦ f c | false ↦ c ]) ≡ passed_of c
    passed_by c true = keeps.passed c
    passed_by c false = refl

    given_by : (c : Client) (b : Bool) → is_refused c.course ≡ false → is_refused (elim b as (λ t. Client) [ true ↦ f c | false ↦ c ]).course ≡ false
    given_by c true ok = keeps.given c ok
    given_by c false ok = ok

was_there : (m : ℕ) (h : Client → Client) → KeepsAll h → (s : State) (c : Client) (o : Option Client) → find (is_client m) s.clients ≡ o → option_map h o ≡ Some c → Before s m c
was_there m h keeps s c None is found = absurd (none_some c found)
was_there m h keeps s c (Some b) is found =
    let same : h b ≡ c = some_is (h b) c found in
    record {
      before = b;
      there = is;
      closing = subst (λ (d : Client). d.is_closing ≡ b.is_closing) same (keeps.closing b);
      passed = subst (λ (d : Client). passed_of d ≡ passed_of b) same (keeps.passed b);
      given = λ ok. subst (λ (d : Client). is_refused d.course ≡ false) same (keeps.given b ok);
    }

client_follows : (e : Exchange) (f : Client → Client) → KeepsAll f → (s : State) → Follows s (on_client_of e f s)
unfolding on_client_of
client_follows e f keeps s = record {
  conns = refl;
  client = λ m c found. was_there m (if_for e f) (if_kept e f keeps) s c (find (is_client m) s.clients) refl (sym (find_mapped (is_client m) (if_for e f) s.clients (λ d. ap (λ (i : ℕ). i == m) ((if_kept e f keeps).number d))) ∙ found);
}

itself : (s : State) (m : ℕ) (c : Client) → find (is_client m) s.clients ≡ Some c → Before s m c
itself s m c found = record { before = c; there = found; closing = refl; passed = refl; given = λ ok. ok }

clear_follows : (key : Bytes) (s : State) → Follows s (clear key s)
unfolding clear swept
clear_follows key s = record { conns = refl; client = λ m c found. itself s m c found }

exchange_follows : (n : ℕ) (to : Exchange → Exchange) (s : State) → Follows s (on_exchange n to s)
unfolding on_exchange
exchange_follows n to s = record { conns = refl; client = λ m c found. itself s m c found }

pub anew_given : (course : Course) → is_refused course ≡ false → is_refused (anew course) ≡ false
anew_given (Trying n) given = refl
anew_given OutOfTries given = refl
anew_given AskTooLong given = refl
anew_given RowRefused given = given

pub without_row_keeps : KeepsAll without_row
without_row_keeps = record {
  number = λ c. number_by c (is_begun c || c.has_given_up);
  closing = λ c. closing_by c (is_begun c || c.has_given_up);
  passed = λ c. passed_by c (is_begun c || c.has_given_up);
  given = λ c ok. given_by c (is_begun c || c.has_given_up) ok;
}
  where
    number_by : (c : Client) (b : Bool) → (elim b as (λ t. Client) [ true ↦ c | false ↦ record c { course = anew c.course; has_given_up = true } ]).number ≡ c.number
    number_by c true = refl
    number_by c false = refl

    closing_by : (c : Client) (b : Bool) → (elim b as (λ t. Client) [ true ↦ c | false ↦ record c { course = anew c.course; has_given_up = true } ]).is_closing ≡ c.is_closing
    closing_by c true = refl
    closing_by c false = refl

    passed_by : (c : Client) (b : Bool) → passed_of (elim b as (λ t. Client) [ true ↦ c | false ↦ record c { course = anew c.course; has_given_up = true } ]) ≡ passed_of c
    passed_by c true = refl
    passed_by c false = refl

    given_by : (c : Client) (b : Bool) → is_refused c.course ≡ false → is_refused (elim b as (λ t. Client) [ true ↦ c | false ↦ record c { course = anew c.course; has_given_up = true } ]).course ≡ false
    given_by c true ok = ok
    given_by c false ok = anew_given c.course ok

-- ---- what it costs

same_exchanges : (e : Exchange) (f : Client → Client) (s : State) (n : ℕ) → exchange (on_client_of e f s) n ≡ exchange s n
unfolding on_client_of
same_exchanges e f s n = refl

cleared_exchanges : (key : Bytes) (s : State) (n : ℕ) → exchange (clear key s) n ≡ exchange s n
unfolding clear swept
cleared_exchanges key s n = refl

left_exchange : (s : State) (n : ℕ) (e : Exchange) → exchange s n ≡ Some e → exchange (on_exchange n left_alone s) n ≡ Some (left_alone e)
unfolding on_exchange
left_exchange s n e there = find_there n left_alone (λ x. refl) s.exchanges e there

abbrev given_up_if : Exchange → State → Bool → State
given_up_if e s b = elim b as (λ t. State) [ false ↦ s | true ↦ on_exchange e.number left_alone (on_client_of e without_row (clear (text_of e.key) s)) ]

pub charge_stays : (cost : Course → Course) (s : State) (e : Exchange) (n : ℕ) → ((course : Course) → is_refused course ≡ false → is_refused (cost course) ≡ false) → exchange s n ≡ Some e → e.number ≡ n → Stays s (charge cost e s) n e
unfolding charge give_up_row
charge_stays cost s e n given there number = by (is_unfilled (on_client_of e (λ c. record c { course = cost c.course }) s) e)
  where
    pays : Follows s (on_client_of e (λ c. record c { course = cost c.course }) s)
    pays = client_follows e (λ c. record c { course = cost c.course }) (record { number = λ c. refl; closing = λ c. refl; passed = λ c. refl; given = λ c ok. given c.course ok }) s

    still : exchange (on_client_of e (λ c. record c { course = cost c.course }) s) n ≡ Some e
    still = same_exchanges e (λ c. record c { course = cost c.course }) s n ∙ there

    none_is : (m : ℕ) → None ≡ Some m → e.asker ≡ Some m
    none_is m is = absurd (none_some m is)

    by : (b : Bool) → Stays s (given_up_if e (on_client_of e (λ c. record c { course = cost c.course }) s) b) n e
    by false = record { follows = pays; known = e; there = still; place = refl; asker = λ m is. is }
    by true = record {
      follows =
          then s (on_client_of e (λ c. record c { course = cost c.course }) s) (on_exchange e.number left_alone (on_client_of e without_row (clear (text_of e.key) (on_client_of e (λ c. record c { course = cost c.course }) s)))) pays
          (then (on_client_of e (λ c. record c { course = cost c.course }) s) (clear (text_of e.key) (on_client_of e (λ c. record c { course = cost c.course }) s)) (on_exchange e.number left_alone (on_client_of e without_row (clear (text_of e.key) (on_client_of e (λ c. record c { course = cost c.course }) s))))
          (clear_follows (text_of e.key) (on_client_of e (λ c. record c { course = cost c.course }) s))
          (then (clear (text_of e.key) (on_client_of e (λ c. record c { course = cost c.course }) s)) (on_client_of e without_row (clear (text_of e.key) (on_client_of e (λ c. record c { course = cost c.course }) s)))
          (on_exchange e.number left_alone (on_client_of e without_row (clear (text_of e.key) (on_client_of e (λ c. record c { course = cost c.course }) s))))
          (client_follows e without_row without_row_keeps (clear (text_of e.key) (on_client_of e (λ c. record c { course = cost c.course }) s)))
          (exchange_follows e.number left_alone (on_client_of e without_row (clear (text_of e.key) (on_client_of e (λ c. record c { course = cost c.course }) s))))));
      known = left_alone e;
      there =
          subst (λ (m : ℕ). exchange (on_exchange m left_alone (on_client_of e without_row (clear (text_of e.key) (on_client_of e (λ c. record c { course = cost c.course }) s)))) n ≡ Some (left_alone e)) (sym number)
          (left_exchange (on_client_of e without_row (clear (text_of e.key) (on_client_of e (λ c. record c { course = cost c.course }) s))) n e
          (same_exchanges e without_row (clear (text_of e.key) (on_client_of e (λ c. record c { course = cost c.course }) s)) n ∙ cleared_exchanges (text_of e.key) (on_client_of e (λ c. record c { course = cost c.course }) s) n ∙ still));
      place = refl;
      asker = none_is;
    }

pub paid_keeps : (cost : Course → Course) → ((course : Course) → is_refused course ≡ false → is_refused (cost course) ≡ false) → KeepsAll (λ c. record c { course = cost c.course })
paid_keeps cost given = record { number = λ c. refl; closing = λ c. refl; passed = λ c. refl; given = λ c ok. given c.course ok }
