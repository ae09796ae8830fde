-- What happens to clients without a word of what they are told: their replies stand as they stood.
use Rattle.std.proofs.Common.{◌≡◌, refl, Bool, true, false, List, map, is_some, Option, Some, None, option_map, sym, subst, ap, ◌∙◌}
use Rattle.pp_pass.specs.Pipe.{Pipe}
use Rattle.pp_law.specs.Lists.{change, is_some_with}
use Rattle.pp_law.specs.Phases.{is_free}
use Rattle.pp_law.specs.Stages.{is_begun, passed_of}
use Rattle.pp_law.specs.State.{State, Phase, Before, IsWoken, IsConfigured, IsRooted, IsListed, IsListening, Awaiting, Owed, Brought, Awaited, Useless, Joins, Passes, TooWide, Client, Passed, Reply, Stage, Undecided, Waiting, Passing, Answering}
use Rattle.pp_laws.specs.Runs.{IsIn}
use Rattle.pp_laws.proofs.Lists.{From, changed_at, in_map, map_kept}
use Rattle.pp_laws.proofs.Sound.{client_number}

-- ---- a client

abbrev pub passed_in : Brought → Option Passed
passed_in b = elim b as (λ x. Option Passed) [ Awaited ↦ None | Useless ↦ None | Joins id plain ↦ None | Passes p ↦ Some p | TooWide ↦ None ]

abbrev pub pipe_of : Option Passed → Option Pipe
pipe_of o = option_map (λ p. p.pipe) o

abbrev pub begun_in : Stage → Bool
begun_in stage = is_some_with (λ r. r.has_begun) (elim stage as (λ y. Option Reply) [ Undecided ↦ None | Waiting ↦ None | Passing ↦ None | Answering r ↦ Some r ])

-- its reply, and what is left to say of its interim answer, are the same, and it is closing where it was. Where nothing comes what is
-- passed to it is the same, and where something does, one that is in the midst of its reply is passed something where it was
pub record Kept (exact : Bool) (d c : Client) : Type 0 where
  pub number : d.number ≡ c.number
  pub stage : d.stage ≡ c.stage
  pub interim : d.interim_left ≡ c.interim_left
  pub closing : c.is_closing ≡ true → d.is_closing ≡ true
  pub pipe : exact ≡ true → pipe_of (passed_of d) ≡ pipe_of (passed_of c)
  pub passed : is_begun c ≡ true → is_some (passed_of d) ≡ is_some (passed_of c)

pub as_it_was : {exact : Bool} (d c : Client) → d.number ≡ c.number → d.stage ≡ c.stage → d.interim_left ≡ c.interim_left → (c.is_closing ≡ true → d.is_closing ≡ true) → d.brought ≡ c.brought → Kept exact d c
as_it_was d c number stage interim closing brought = record {
  number = number;
  stage = stage;
  interim = interim;
  closing = closing;
  pipe = λ is. ap (λ b. pipe_of (passed_in b)) brought;
  passed = λ is. ap (λ b. is_some (passed_in b)) brought;
}

pub kept_same : {exact : Bool} (c : Client) → Kept exact c c
kept_same c = as_it_was c c refl refl refl (λ is. is) refl

pub kept_on : {exact : Bool} (e d c : Client) → Kept exact e d → Kept exact d c → Kept exact e c
kept_on e d c one two = record {
  number = one.number ∙ two.number;
  stage = one.stage ∙ two.stage;
  interim = one.interim ∙ two.interim;
  closing = λ is. one.closing (two.closing is);
  pipe = λ is. one.pipe is ∙ two.pipe is;
  passed = λ begun. one.passed (ap begun_in two.stage ∙ begun) ∙ two.passed begun;
}

pub record FromClient (exact : Bool) (clients : List Client) (d : Client) : Type 0 where
  pub was : Client
  pub there : IsIn was clients
  pub is : Kept exact d was

-- ---- a state

-- an event is awaited, or handled
pub data AtEvent (phase : Phase) (owed : Owed) : Type 0 where
  awaits : phase ≡ Awaiting → AtEvent phase owed
  owes : is_free owed ≡ false → AtEvent phase owed

-- an opening is not over
abbrev pub is_early : Phase → Bool
is_early Before = true
is_early IsWoken = true
is_early IsConfigured = true
is_early IsRooted = true
is_early IsListed = true
is_early IsListening = true
is_early phase = false

pub record Facts (exact : Bool) (o : State) (clients : List Client) (phase : Phase) (owed : Owed) : Type 0 where
  pub numbers : map client_number clients ≡ map client_number o.clients
  pub clients_from : (d : Client) → IsIn d clients → FromClient exact o.clients d
  pub event : AtEvent phase owed → AtEvent o.phase o.owed
  pub early : is_early phase ≡ true → is_early o.phase ≡ true

abbrev pub FactsOf : Bool → State → State → Type 0
FactsOf exact o s = Facts exact o s.clients s.phase s.owed

-- from the first state on no reply was decided, begun or over
pub data Keeps (exact : Bool) (o s : State) : Type 0 where
  keeps : FactsOf exact o s → Keeps exact o s

pub facts_of : {exact : Bool} {o s : State} → Keeps exact o s → FactsOf exact o s
facts_of (keeps facts) = facts

pub keeps_same : {exact : Bool} (s : State) → Keeps exact s s
keeps_same s = keeps (record { numbers = refl; clients_from = λ d i. record { was = d; there = i; is = kept_same d }; event = λ at. at; early = λ is. is })

-- in another phase
pub rephased : {exact : Bool} {o : State} {clients : List Client} {phase : Phase} {owed : Owed} (p : Phase) → (p ≡ Awaiting → ⊥) → is_early p ≡ false → Facts exact o clients phase owed → Facts exact o clients p owed
rephased {exact} {o} {clients} {phase} {owed} p isnt late h = record { numbers = h.numbers; clients_from = h.clients_from; event = by; early = λ is. let both : false ≡ true = sym late ∙ is in absurd (cc both) }
  where
    by : AtEvent p owed → AtEvent o.phase o.owed
    by (awaits is) = absurd (isnt is)
    by (owes is) = h.event (owes is)

-- ---- what becomes of clients

from_on : {exact : Bool} (o : List Client) (d c : Client) → Kept exact d c → FromClient exact o c → FromClient exact o d
from_on o d c one two = record { was = two.was; there = two.there; is = kept_on d c two.was one two.is }

pub clients_mapped : {exact : Bool} (o s : State) (f : Client → Client) → ((c : Client) → Kept exact (f c) c) → FactsOf exact o s → FactsOf exact o (record s { clients = map f s.clients })
clients_mapped {exact} o s f kept h = record { numbers = map_kept client_number f (λ c. (kept c).number) s.clients ∙ h.numbers; clients_from = λ d i. by d (in_map f d s.clients i); event = h.event; early = h.early }
  where
    by : (d : Client) → From f s.clients d → FromClient exact o.clients d
    by d r = from_on o.clients d r.was (subst (λ (x : Client). Kept exact x r.was) (sym r.is) (kept r.was)) (h.clients_from r.was r.there)

kept_at : {exact : Bool} (p : Client → Bool) (f : Client → Client) → ((c : Client) → p c ≡ true → Kept exact (f c) c) → (c : Client) (t : Bool) → p c ≡ t → Kept exact (elim t as (λ x. Client) [ true ↦ f c | false ↦ c ]) c
kept_at p f kept c true is = kept c is
kept_at p f kept c false is = kept_same c

pub clients_changed : {exact : Bool} (o s : State) (p : Client → Bool) (f : Client → Client) → ((c : Client) → p c ≡ true → Kept exact (f c) c) → FactsOf exact o s → FactsOf exact o (record s { clients = change p f s.clients })
clients_changed o s p f kept h = clients_mapped o s (changed_at p f) (λ c. kept_at p f kept c (p c) refl) h
