-- What the request of an exchange is told where the final head of its response comes, and what becomes of the body.
use Rattle.std.specs.Prelude.{◌≡◌, ℕ, true, find, Some, None, ⊤}
use Rattle.pp_flow.specs.Entries.{is_number}
use Rattle.pp_flow.specs.declared.entry.Entry.{Entry}
use Rattle.pp_flow.specs.declared.entry.Exchange.{Exchange as SeatExchange}
use Rattle.pp_law.specs.Connections.{exchange}
use Rattle.pp_law.specs.OwnHeads.{drop_answer, not_shared as law_not_shared, tell, useless}
use Rattle.pp_law.specs.Requests.{Parsed, IsRequest, has_request}
use Rattle.pp_law.specs.Stages.{passed_of}
use Rattle.pp_law.specs.State.{State, Brought, Client, Exchange, Joins, TooWide, Useless}
use Rattle.pp_seats.specs.declared.seat.Brought.{Brought as SeatBrought}
use Rattle.pp_seats.specs.declared.seat.Brought.TheVariants.{Useless as NoneOfUse, Joins as JoinsRow, TooWide as IsTooWide}
use Rattle.pp_answers.specs.Answers.{not_shared}
use Rattle.pp_state.specs.Ends.{Parts, made_useless, told_to, unusable}
use Rattle.pp_answers.specs.FinalHeads.{noted_body}
use Rattle.pp_states_law.specs.Charges.{GoesOn, IsFor}
use Rattle.pp_states_law.specs.Steps.{OfSteps, ShowsSteps}

-- it has a place, and the law has it
pub record IsAnswered (n : ℕ) (p : Parts) (s : State) (x : Entry) (e : Exchange) : Type 0 where
  pub placed : find (is_number n) p.flow.placed ≡ Some x
  pub there : exchange s n ≡ Some e

-- its request stands, memory was refused for no row that it waits for, and nothing is passed to it yet
pub record Stands (c : Client) : Type 0 where
  pub on : GoesOn c
  pub request : has_request c.front ≡ true
  pub untold : passed_of c ≡ None

-- it is the request for which the exchange was begun
pub record Asks (e : Exchange) (c : Client) : Type 0 where
  pub request : Parsed
  pub front : c.front ≡ IsRequest request
  pub head : request.head ≡ e.head

-- ---- what its request is told, where it has no reply yet

abbrev pub TellsAs : (ℕ → ℕ) → SeatBrought → Brought → Type 0
TellsAs number NoneOfUse Useless = ⊤
TellsAs number (JoinsRow id plain) (Joins n other) = (number id.life ≡ n) × (plain ≡ other)
TellsAs number IsTooWide TooWide = ⊤
TellsAs number brought other = ⊥

abbrev pub TellsAreTheLaws : Type 0
TellsAreTheLaws = OfSteps (λ number name l peers p s. (x : SeatExchange) (e : Exchange) (brought : SeatBrought) (told : Brought) → x.asker ≡ e.asker → IsFor s e Stands → TellsAs number brought told
    → ShowsSteps number name l peers (told_to x brought p) (tell e told s))

-- ---- what comes is dropped, and its request is decided again

abbrev pub DropsAreTheLaws : Type 0
DropsAreTheLaws = OfSteps (λ number name l peers p s. (n : ℕ) (x : Entry) (e : Exchange) → IsAnswered n p s x e → IsFor s e Stands → ShowsSteps number name l peers (noted_body n (unusable x.exchange p)) (drop_answer e s))

-- and an attempt is lost
abbrev pub UselessAreTheLaws : Type 0
UselessAreTheLaws = OfSteps (λ number name l peers p s. (n : ℕ) (x : Entry) (e : Exchange) → IsAnswered n p s x e → IsFor s e Stands → ShowsSteps number name l peers (noted_body n (made_useless x.exchange p)) (useless e s))

-- what forbids sharing is never shared
abbrev pub NotSharedAreTheLaws : Type 0
NotSharedAreTheLaws = OfSteps (λ number name l peers p s. (n : ℕ) (x : Entry) (e : Exchange) → IsAnswered n p s x e → IsFor s e Stands → ShowsSteps number name l peers (noted_body n (not_shared x.exchange x.errand p)) (law_not_shared e s))
