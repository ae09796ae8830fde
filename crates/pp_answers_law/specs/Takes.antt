-- The final head of a response, whole: whether it answers an ask of its kind, and what it leaves, to a Fetch or Validate, where it is passed, and to the
-- ask of a follower.
use Rattle.std.specs.Prelude.{◌≡◌, ℕ, true, false, is_some, slice_get, List, [], Option, Some, None, Ok, Err}
use Rattle.pp_cache.specs.Named.{site_of}
use Rattle.pp_flow.specs.Changes.{entry_of}
use Rattle.pp_flow.specs.declared.entry.Entry.{Entry}
use Rattle.pp_flow_law.specs.Tables.{Leaving}
use Rattle.pp_framing.specs.Framing.{rule_of}
use Rattle.pp_framing.specs.declared.body.BodyRule.{BodyRule}
use Rattle.pp_head.specs.Response.{Response}
use Rattle.pp_law.specs.Lists.{Bytes}
use Rattle.pp_law.specs.OwnHeads.{is_wrong_head, key_of}
use Rattle.pp_law.specs.Requests.{key_in}
use Rattle.pp_law.specs.Responses.{asks_head, by_aim}
use Rattle.pp_law.specs.Stages.{filled_of, reply_of}
use Rattle.pp_law.specs.State.{State, Through, Own, Client, Exchange, Instance, Reply}
use Rattle.pp_law.specs.Table.{instance}
use Rattle.pp_law.specs.ThroughHeads.{invalidates, places_named}
use Rattle.pp_peers.specs.declared.peers.Peer.{Peer}
use Rattle.pp_seats.specs.declared.seat.Seat.{Seat}
use Rattle.pp_seats_law.specs.Exchanges.{ShowsExchange}
use Rattle.pp_state.specs.Ends.{Parts, parts}
use Rattle.pp_answers.specs.FinalHeads.{AnswersAsk, answer_to, rule_for}
use Rattle.pp_state.specs.declared.state.State.{State as Turn}
use Rattle.pp_states_law.specs.Charges.{IsFor}
use Rattle.pp_turns_law.specs.Turns.{IsFollowing}
use Rattle.pp_answers_law.specs.Disproving.{GoesWithClient}
use Rattle.pp_answers_law.specs.Owns.{IsAtHead, IsShown}

-- how the body is delimited of one that answers it
abbrev pub law_rule : Exchange → Response → Option BodyRule
law_rule e head = elim (is_wrong_head e head) [ true ↦ None | false ↦ elim (rule_of (asks_head e) head.status head.fields) [ Ok rule ↦ Some rule | Err fault ↦ None ] ]

abbrev pub RulesAreTheLaws : Type 0
RulesAreTheLaws = (number : ℕ → ℕ) (x : Entry) (e : Exchange) (head : Response) → ShowsExchange number x e → rule_for x.exchange x.errand head ≡ law_rule e head

-- where it does not answer, all stays
abbrev pub IsTaken : (ℕ → ℕ) → Bytes → Leaving → List Peer → Turn → State → Exchange → Response → Parts → Option BodyRule → Type 0
IsTaken number name l peers t s e head new None = new ≡ parts t
IsTaken number name l peers t s e head new (Some rule) = IsShown number t.cache.lives s.next_instance name l peers new (by_aim e head rule s)

-- of each head that comes, and what is left behind it
abbrev pub OfAnswers : (Turn → State → Exchange → Response → Parts → Type 0) → Type 0
OfAnswers P = (number : ℕ → ℕ) (name : Bytes) (l : Leaving) (peers : List Peer) (t : Turn) (s : State) (n : ℕ) (x : Entry) (e : Exchange) (head : Response) (new : Parts) → IsAtHead number name l peers t s n x e → new.refused ≡ []
    → P t s e head new → AnswersAsk n head (answer_to head (entry_of n t.flow)) t new → IsTaken number name l peers t s e head new (law_rule e head)

-- to a Fetch or Validate, where memory was refused for no row
abbrev pub OwnAnswersAreTheLaws : Type 0
OwnAnswersAreTheLaws = OfAnswers (λ t s e head new. e.aim ≡ Own)

-- ---- where it is passed

-- its client's request names its key
abbrev pub NamesKey : Exchange → Client → Type 0
NamesKey e c = key_in c.front ≡ Some e.key

-- an ask that goes alone has its client
pub record MayPass (s : State) (e : Exchange) (head : Response) : Type 0 where
  pub client : GoesWithClient s e
  pub key : IsFor s e (NamesKey e)

-- this life did not go astray: memory was not refused to read a place that it names
pub record Passes (s : State) (e : Exchange) (head : Response) (new : Parts) : Type 0 where
  pub aim : e.aim ≡ Through
  pub may : MayPass s e head
  pub straight : new.is_astray ≡ false

abbrev pub PassedAnswersAreTheLaws : Type 0
PassedAnswersAreTheLaws = OfAnswers (λ t s e head new. Passes s e head new)

-- ---- to the ask of a follower

-- what its client is answered from is of its key
abbrev pub IsFromKey : State → Exchange → Client → Type 0
IsFromKey s e c = (r : Reply) (id : ℕ) (x : Instance) → reply_of c ≡ Some r → r.source ≡ Some id → instance s id ≡ Some x → x.key ≡ key_of e

-- and what each is answered from is there
pub record MayFill (t : Turn) (s : State) (e : Exchange) : Type 0 where
  pub aim : is_some (filled_of e) ≡ true
  pub follows : (i : ℕ) (seat : Seat) → slice_get t.seats.items i ≡ Some seat → seat.is_closing ≡ false → IsFollowing t.cache seat
  pub key : IsFor s e (IsFromKey s e)

-- with what it costs where it is no use for that follower
abbrev pub PartAnswersAreTheLaws : Type 0
PartAnswersAreTheLaws = OfAnswers (λ t s e head new. MayFill t s e)
