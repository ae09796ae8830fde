-- What holds of each client, where one of them is changed, or all are, or a life goes astray.
use Rattle.std.proofs.Common.{◌≡◌, ◌≤◌, sym, subst, ◌∙◌, ℕ, Bool, true, false, length, List, Option, Some, None, Ok}
use Rattle.pp_cache.specs.Memory.{Memory}
use Rattle.pp_flow.specs.Changes.{Exchanges}
use Rattle.pp_flow.specs.declared.entry.Exchange.{Exchange}
use Rattle.pp_framing.specs.Framing.{rule_of}
use Rattle.pp_framing.specs.declared.body.BodyRule.{BodyRule}
use Rattle.pp_head.specs.Response.{Response}
use Rattle.pp_origins.specs.Gots.{IsFedTo, head_on}
use Rattle.pp_peers.specs.declared.peers.Peer.{Peer}
use Rattle.pp_pipe.specs.declared.step.Step.{Step}
use Rattle.pp_pipe.specs.declared.step.Step.TheVariants.{Head}
use Rattle.pp_seats.specs.Dues.{is_refused_in}
use Rattle.pp_seats.specs.declared.seat.Seat.{Seat}
use Rattle.pp_state.specs.Bodies.{on_asker, on_place}
use Rattle.pp_state.specs.Ends.{Parts, on_seat, on_seat_where, seat_for}
use Rattle.pp_state.specs.Passing.{passed_to}
use Rattle.pp_stays_law.proofs.Onward.{IsOnward}
use Rattle.pp_stays_law.proofs.Walk.{AllAt, changed_all}

-- ---- what a change of a client leaves

-- where memory is refused for nobody, and what it is to be said first has room
pub record Suits (S : Seat → Type 0) (Fits : List ℕ → Response → BodyRule → Type 0) : Type 0 where
  pub carry : (a b : Seat) → (is_refused_in a.brought ≡ false → is_refused_in b.brought ≡ false) → (length a.client.reply.text ≤ 20480 → length b.client.reply.text ≤ 20480) → S a → S b
  -- a response that fits is passed to it
  pub passes : (name : List ℕ) (head : Response) (rule : BodyRule) (seat : Seat) → Fits name head rule → S seat → S (passed_to name head rule seat)

pub onward : {S : Seat → Type 0} {Fits : List ℕ → Response → BodyRule → Type 0} (suits : Suits S Fits) (a b : Seat) → IsOnward a b → S a → S b
onward suits a b on its = suits.carry a b on.given on.short its

-- whatever it was asked by, a head fits
abbrev pub HeadFits : (List ℕ → Response → BodyRule → Type 0) → List ℕ → Response → Type 0
HeadFits Fits name head = (asks_head : Bool) (rule : BodyRule) → rule_of asks_head head.status head.fields ≡ Ok rule → Fits name head rule

-- and each that is read does, with this name
abbrev pub ReadsFit : (List ℕ → Response → BodyRule → Type 0) → List ℕ → Type 0
ReadsFit Fits name = (k : ℕ) (peer : Peer) (bytes : List ℕ) (told : ℕ × Step) (old new : List Peer) (head : Response) → IsFedTo k peer bytes told old new → told.1 ≡ Head → head_on k new ≡ Some head → HeadFits Fits name head

-- ---- of all, as long as the life does not go astray

pub record Stay (S : Seat → Type 0) (p q : Parts) : Type 0 where
  pub astray : q.is_astray ≡ false → p.is_astray ≡ false
  pub all : q.is_astray ≡ false → AllAt S p.seats → AllAt S q.seats

pub stay_same : {S : Seat → Type 0} (p : Parts) → Stay S p p
stay_same p = record { astray = λ on. on; all = λ on h. h }

pub stay_then : {S : Seat → Type 0} (p q r : Parts) → Stay S p q → Stay S q r → Stay S p r
stay_then p q r one two = record { astray = λ on. one.astray (two.astray on); all = λ on h. two.all on (one.all (two.astray on) h) }

pub becomes : {S : Seat → Type 0} (p r q : Parts) → q ≡ r → Stay S p r → Stay S p q
becomes {S} p r q is all = subst (λ (o : Parts). Stay S p o) (sym is) all

pub same : {S : Seat → Type 0} (p q : Parts) → q ≡ p → Stay S p q
same p q is = becomes p p q is (stay_same p)

pub beside : {S : Seat → Type 0} (p q : Parts) → q.seats ≡ p.seats → q.is_astray ≡ p.is_astray → Stay S p q
beside {S} p q seats astray = record { astray = λ on. sym astray ∙ on; all = λ on h. subst (λ (ss : List Seat). AllAt S ss) (sym seats) h }

-- from where other exchanges and rows stand
pub from_other : {S : Seat → Type 0} (p q : Parts) (f : Exchanges) (m : Memory) → Stay S (record p { flow = f; cache = m }) q → Stay S p q
from_other p q f m all = record { astray = all.astray; all = all.all }

pub seated : {S : Seat → Type 0} (p q : Parts) → q.is_astray ≡ p.is_astray → (AllAt S p.seats → AllAt S q.seats) → Stay S p q
seated p q astray all = record { astray = λ on. sym astray ∙ on; all = λ on h. all h }

-- this life goes astray with it
pub strays : {S : Seat → Type 0} (p q : Parts) → q.is_astray ≡ true → Stay S p q
strays p q astray = record { astray = λ on. absurd (both on); all = λ on h. absurd (both on) }
  where
    both : q.is_astray ≡ false → ⊥
    both on = let same : true ≡ false = sym astray ∙ on in cc same

-- ---- one is changed

abbrev pub Keeps : (Seat → Type 0) → (Seat → Seat) → Type 0
Keeps S f = (seat : Seat) → S seat → S (f seat)

pub place_all : (S : Seat → Type 0) (o : Option ℕ) (f : Seat → Seat) (seats : List Seat) → Keeps S f → AllAt S seats → AllAt S (on_place o f seats)
place_all S None f seats keeps all = all
place_all S (Some i) f seats keeps all = changed_all S i f seats keeps all

pub asker_all : (S : Seat → Type 0) (e : Exchange) (f : Seat → Seat) (seats : List Seat) → Keeps S f → AllAt S seats → AllAt S (on_asker e f seats)
asker_all S e f seats keeps all = place_all S (seat_for e seats) f seats keeps all

pub one : (S : Seat → Type 0) (i : ℕ) (f : Seat → Seat) (p : Parts) → Keeps S f → Stay S p (on_seat i f p)
one S i f p keeps = record { astray = λ on. on; all = λ on h. changed_all S i f p.seats keeps h }

pub where_stays : (S : Seat → Type 0) (o : Option ℕ) (f : Seat → Seat) (p : Parts) → Keeps S f → Stay S p (on_seat_where o f p)
where_stays S None f p keeps = stay_same p
where_stays S (Some i) f p keeps = one S i f p keeps
