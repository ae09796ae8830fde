-- The request of an exchange stands as before where it loses an attempt, or its row.
use Rattle.std.proofs.Common.{◌≡◌, refl, sym, subst, ap, ◌∙◌, ℕ, Bool, true, false, not, ◌==◌, ◌&&◌, ◌||◌, find, List, Some, None, Option}
use Rattle.std.specs.Prelude.{option_map}
use Rattle.pp_cache_law.proofs.Finds.{find_mapped}
use Rattle.pp_cache_law.proofs.Numbers.{some_is}
use Rattle.pp_flow_law.proofs.Entries.{none_some}
use Rattle.pp_law.specs.Closing.{left_alone}
use Rattle.pp_law.specs.Connections.{attempts_of, charge, give_up_row, is_client, is_for, is_unfilled, lose_attempt, lost_one, on_client_of, on_exchange, without_row, without_shared_row, anew}
use Rattle.pp_law.specs.Lists.{Bytes}
use Rattle.pp_law.specs.Stages.{is_begun}
use Rattle.pp_law.specs.State.{State, Client, Course, Exchange}
use Rattle.pp_law.specs.Table.{clear, swept}
use Rattle.pp_seats_law.specs.Fates.{is_refused}
use Rattle.pp_states_law.proofs.Charged.{asker_rest, lost_given}
use Rattle.pp_states_law.proofs.Paid.{anew_given}
use Rattle.pp_states_law.specs.Charges.{IsFor}
use Rattle.pp_target.specs.Key.{text_of}
use Rattle.pp_answers_law.specs.Answers.{Stands}

-- what a change makes of a client that stands stands
pub record KeepsStanding (g : Client → Client) : Type 0 where
  pub number : (c : Client) → (g c).number ≡ c.number
  pub stands : (c : Client) → Stands c → Stands (g c)

abbrev if_for : Exchange → (Client → Client) → Client → Client
if_for e g c = elim (is_for e c) as (λ t. Client) [ true ↦ g c | false ↦ c ]

for_number : (e : Exchange) (g : Client → Client) → KeepsStanding g → (c : Client) → (if_for e g c).number ≡ c.number
for_number e g keeps c = by (is_for e c)
  where
    by : (b : Bool) → (elim b as (λ t. Client) [ true ↦ g c | false ↦ c ]).number ≡ c.number
    by true = keeps.number c
    by false = refl

for_stands : (e : Exchange) (g : Client → Client) → KeepsStanding g → (c : Client) → Stands c → Stands (if_for e g c)
for_stands e g keeps c stands = by (is_for e c)
  where
    by : (b : Bool) → Stands (elim b as (λ t. Client) [ true ↦ g c | false ↦ c ])
    by true = keeps.stands c stands
    by false = stands

pub stands_changed : (e : Exchange) (g : Client → Client) (s : State) → KeepsStanding g → IsFor s e Stands → IsFor (on_client_of e g s) e Stands
stands_changed e g s keeps stands m d asks found = by (find (is_client m) s.clients) refl mapped
  where
    mapped : option_map (if_for e g) (find (is_client m) s.clients) ≡ Some d
    mapped =
        sym (find_mapped (is_client m) (if_for e g) s.clients (λ c. ap (λ (i : ℕ). i == m) (for_number e g keeps c)))
        ∙ ap (λ (cs : List Client). find (is_client m) cs) (sym (asker_rest e g s).1) ∙ found

    by : (o : Option Client) → find (is_client m) s.clients ≡ o → option_map (if_for e g) o ≡ Some d → Stands d
    by None is none = absurd (none_some d none)
    by (Some c) is same = subst (λ (x : Client). Stands x) (some_is (if_for e g c) d same) (for_stands e g keeps c (stands m c asks is))

pub stands_cleared : (e : Exchange) (key : Bytes) (s : State) → IsFor s e Stands → IsFor (clear key s) e Stands
unfolding clear swept
stands_cleared e key s stands = stands

stands_left : (e : Exchange) (n : ℕ) (to : Exchange → Exchange) (s : State) → IsFor s e Stands → IsFor (on_exchange n to s) e Stands
unfolding on_exchange
stands_left e n to s stands = stands

-- ---- each change

with_course : (c : Client) (course : Course) (b : Bool) → is_refused course ≡ false → Stands c → Stands (record c { course = course; has_given_up = b })
with_course c course b given stands = record { on = record { going = stands.on.going; given = given }; request = stands.request; untold = stands.untold }

paid_stands : (cost : Course → Course) → ((course : Course) → is_refused course ≡ false → is_refused (cost course) ≡ false) → KeepsStanding (λ c. record c { course = cost c.course })
paid_stands cost given = record { number = λ c. refl; stands = λ c stands. with_course c (cost c.course) c.has_given_up (given c.course stands.on.given) stands }

abbrev without_if : Client → Bool → Client
without_if c b = elim b as (λ u. Client) [ true ↦ c | false ↦ record c { course = anew c.course; has_given_up = true } ]

rowless : (c : Client) → ((without_row c).number ≡ c.number) × (Stands c → Stands (without_row c))
rowless c = by (is_begun c || c.has_given_up)
  where
    by : (b : Bool) → ((without_if c b).number ≡ c.number) × (Stands c → Stands (without_if c b))
    by true = (refl, λ stands. stands)
    by false = (refl, λ stands. with_course c (anew c.course) true (anew_given c.course stands.on.given) stands)

pub rowless_stands : KeepsStanding without_row
rowless_stands = record { number = λ c. (rowless c).0; stands = λ c stands. (rowless c).1 stands }

abbrev shared_if : ℕ → Client → Bool → Client
shared_if most c b = elim b as (λ u. Client) [ true ↦ record c { course = lost_one most c.course } | false ↦ without_row c ]

unshared : (most : ℕ) (c : Client) → ((without_shared_row most c).number ≡ c.number) × (Stands c → Stands (without_shared_row most c))
unshared most c = by (c.has_given_up && not (is_begun c))
  where
    by : (b : Bool) → ((shared_if most c b).number ≡ c.number) × (Stands c → Stands (shared_if most c b))
    by true = (refl, λ stands. with_course c (lost_one most c.course) c.has_given_up (lost_given most c.course stands.on.given) stands)
    by false = rowless c

pub unshared_stands : (most : ℕ) → KeepsStanding (without_shared_row most)
unshared_stands most = record { number = λ c. (unshared most c).0; stands = λ c stands. (unshared most c).1 stands }

-- ---- an attempt is lost

abbrev given_up_if : Exchange → State → Bool → State
given_up_if e s b = elim b as (λ t. State) [ false ↦ s | true ↦ on_exchange e.number left_alone (on_client_of e without_row (clear (text_of e.key) s)) ]

stands_given_up : (e : Exchange) (s : State) → IsFor s e Stands → IsFor (give_up_row e s) e Stands
unfolding give_up_row
stands_given_up e s stands = by (is_unfilled s e)
  where
    by : (b : Bool) → IsFor (given_up_if e s b) e Stands
    by true =
        stands_left e e.number left_alone (on_client_of e without_row (clear (text_of e.key) s))
        (stands_changed e without_row (clear (text_of e.key) s) rowless_stands (stands_cleared e (text_of e.key) s stands))
    by false = stands

stands_charged : (cost : Course → Course) → ((course : Course) → is_refused course ≡ false → is_refused (cost course) ≡ false) → (e : Exchange) (s : State) → IsFor s e Stands → IsFor (charge cost e s) e Stands
unfolding charge
stands_charged cost given e s stands = stands_given_up e (on_client_of e (λ c. record c { course = cost c.course }) s) (stands_changed e (λ c. record c { course = cost c.course }) s (paid_stands cost given) stands)

pub stands_lost : (e : Exchange) (s : State) → IsFor s e Stands → IsFor (lose_attempt e s) e Stands
unfolding lose_attempt
stands_lost e s stands = stands_charged (lost_one (attempts_of e)) (lost_given (attempts_of e)) e s stands
