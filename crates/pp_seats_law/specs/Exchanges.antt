-- How an exchange of the program stands for one of the law (RFC 2616, sections 8.1.4 and 9.1; RFC 7233, section 3).
use Rattle.std.specs.Prelude.{◌≡◌, ℕ, Bool, true, false, ◌==◌, ◌||◌, length, Option, Some, None, ⊤}
use Rattle.pp_flow.specs.Errands.{attempts_in, named_by}
use Rattle.pp_flow.specs.declared.entry.Entry.{Entry}
use Rattle.pp_flow.specs.declared.errand.Body.{Body as ErrandBody}
use Rattle.pp_flow.specs.declared.errand.Body.TheVariants.{Pending as IsPending, Joining as IsJoining, Relaying as IsRelaying, Dropping as IsDropping}
use Rattle.pp_flow.specs.declared.errand.Kind.{Kind}
use Rattle.pp_flow.specs.declared.errand.Kind.TheVariants.{Whole, Range, Hole, Check, Pass}
use Rattle.pp_fresh.specs.Guessing.{allows_guess}
use Rattle.pp_objects.specs.declared.id.ObjectId.{ObjectId}
use Rattle.pp_pipe.specs.Authentication.{binds_connection}
use Rattle.pp_target.specs.Key.{key_in, text_of}
use Rattle.pp_law.specs.Connections.{attempts_of, is_outstanding}
use Rattle.pp_law.specs.Requests.{goes_alone, is_asked_once, is_safe}
use Rattle.pp_law.specs.Responses.{asks_head}
use Rattle.pp_law.specs.OwnHeads.{asks_only_identity}
use Rattle.pp_law.specs.Stages.{bound_of, is_headed}
use Rattle.pp_law.specs.State.{Body, Pending, Joining, Relaying, Dropping, Bound, Exchange}
use Rattle.pp_seats_law.specs.Fates.{aim_of}

-- ---- what becomes of the body of its response

abbrev pub Binding : Type 0
Binding = ObjectId × ℕ × ℕ × Bool

-- the instance, the half-open span that is still to come, whether all of it is waited for, and how far it was wanted
pub record IsBoundAs (number : ℕ → ℕ) (x : Binding) (far : ℕ) (b : Bound) : Type 0 where
  pub joined : number x.0.life ≡ b.instance
  pub next : x.1 ≡ b.next
  pub to : x.2 ≡ b.to
  pub is_all : x.3 ≡ b.is_all
  pub wanted : far ≡ b.wanted

-- how much was dropped of a body the law tells by what came on its connection
abbrev pub ShowsBody : (ℕ → ℕ) → ErrandBody → Bool → Option Binding → Body → Type 0
ShowsBody number IsPending false None Pending = ⊤
ShowsBody number (IsJoining far) true (Some x) (Joining b) = IsBoundAs number x far b
ShowsBody number IsRelaying true None Relaying = ⊤
ShowsBody number (IsDropping n) true None Dropping = ⊤
ShowsBody number body headed bound other = ⊥

-- ---- what it asks

abbrev pub is_ranged_in : Kind → Bool
is_ranged_in Whole = false
is_ranged_in (Range first last) = true
is_ranged_in (Hole first last tag) = true
is_ranged_in (Check tag) = false
is_ranged_in Pass = false

-- by the law's numbers of lives, and the text of its key
pub record ShowsExchange (numbers : ℕ → ℕ) (x : Entry) (e : Exchange) : Type 0 where
  pub number : x.exchange.number ≡ e.number
  pub asker : x.exchange.asker ≡ e.asker
  pub aim : aim_of x.exchange.aim ≡ e.aim
  pub place : x.exchange.place ≡ e.place
  pub text_key : x.key.items ≡ text_of e.key
  pub parts : key_in x.key.items x.errand.place ≡ e.key
  pub named : named_by x.errand.kind ≡ e.named
  pub is_ranged : is_ranged_in x.errand.kind ≡ e.is_ranged
  pub is_moved : x.errand.is_moved ≡ e.is_moved
  pub is_asked_once : x.errand.is_asked_once ≡ is_asked_once e.head
  pub asks_head : x.errand.asks_head ≡ asks_head e
  pub is_safe : x.errand.is_safe ≡ is_safe e.head
  pub binds : x.errand.binds_connection ≡ binds_connection e.head.fields
  pub identity : x.errand.accepts_only_identity ≡ asks_only_identity e
  pub guess : x.errand.allows_guess ≡ allows_guess (text_of e.key) e.head.fields
  pub text : x.text.items ≡ e.text
  pub asked : x.errand.asked ≡ e.asked
  pub body_left : x.errand.body_left ≡ e.body_left
  pub requested : x.errand.requested ≡ e.requested
  pub body : ShowsBody numbers x.errand.body x.exchange.headed x.exchange.bound e.body

-- ---- what is read of it

abbrev pub ShowsBound : (ℕ → ℕ) → Option Binding → Option Bound → Type 0
ShowsBound number None None = ⊤
ShowsBound number (Some x) (Some b) = (far : ℕ) × IsBoundAs number x far b
ShowsBound number x b = ⊥

pub record IsTheLaws (number : ℕ → ℕ) (x : Entry) (e : Exchange) : Type 0 where
  pub headed : x.exchange.headed ≡ is_headed e
  pub bound : ShowsBound number x.exchange.bound (bound_of e)
  pub outstanding : (x.errand.asked == length x.text.items) ≡ is_outstanding e
  pub alone : (x.errand.is_asked_once || x.errand.binds_connection) ≡ goes_alone e.head
  pub attempts : attempts_in x.errand.is_asked_once ≡ attempts_of e

abbrev pub ExchangesAreTheLaws : Type 0
ExchangesAreTheLaws = (number : ℕ → ℕ) (x : Entry) (e : Exchange) → ShowsExchange number x e → IsTheLaws number x e
