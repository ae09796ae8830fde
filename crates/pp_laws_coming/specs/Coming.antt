-- What an exchange and its client tell of each other, in each state that a lawful log may go on as from, also amid a turn (RFC 2616,
-- sections 6 and 8.1.4). What is not marked is ours.
use Rattle.std.specs.Prelude.{◌≡◌, ℕ, ◌≤◌, ◌||◌, nat_lt, Bool, true, false, List, Some, None}
use Rattle.std.specs.List.{list_any}
use Rattle.pp_valid.specs.declared.version.Version.{Version}
use Rattle.pp_world.specs.Log.{Log}
use Rattle.pp_law.specs.Closing.{is_over}
use Rattle.pp_law.specs.Connections.{client}
use Rattle.pp_law.specs.Lists.{is_some_with}
use Rattle.pp_law.specs.Requests.{key_in}
use Rattle.pp_law.specs.Stages.{bound_of, filled_of, is_headed, is_passing, passed_of, reply_of}
use Rattle.pp_law.specs.State.{State, Term, Awaited, Bound, Client, Exchange, Instance, Reply, Stage, Undecided, Waiting, Passing, Answering, Phase, Keeping, Deciding, Following, Connecting, DecidingAgain}
use Rattle.pp_laws.specs.Runs.{IsIn}
use Rattle.pp_obeys.specs.Obeys.{Obeys}

-- ---- a client

-- its request waits for its exchange: it is decided again behind the head of the response, or that is its reply
abbrev pub is_waiting : Stage → Bool
is_waiting Undecided = false
is_waiting Waiting = true
is_waiting Passing = true
is_waiting (Answering r) = false

-- its request may have an exchange: it waits for that, or its reply has begun, is passed, or shows bytes of a row
abbrev pub may_have_ask : Stage → Bool
may_have_ask Undecided = false
may_have_ask Waiting = true
may_have_ask Passing = true
may_have_ask (Answering r) = r.has_begun || is_passing r.decision || nat_lt 0 r.to

-- and was brought nothing
pub record Waits (c : Client) : Type 0 where
  pub stage : is_waiting c.stage ≡ true
  pub brought : c.brought ≡ Awaited

-- of what is passed to it, more is to come
abbrev pub IsComing : Client → Type 0
IsComing c = is_some_with (λ p. p.pipe.is_finished) (passed_of c) ≡ false

-- its reply is by that row, which stands: it was neither replaced nor cleared
pub record IsBy (x : Instance) (c : Client) : Type 0 where
  pub stands : x.is_retired ≡ false
  pub reply : Reply
  pub is : reply_of c ≡ Some reply
  pub source : reply.source ≡ Some x.id

-- ---- an exchange

-- what comes for it goes there
pub record IsBoundTo (x : Instance) (e : Exchange) : Type 0 where
  pub to : Bound
  pub is : bound_of e ≡ Some to
  pub instance : to.instance ≡ x.id

-- of an exchange and its client
pub record IsTold (s : State) (e : Exchange) (c : Client) : Type 0 where
  -- before the head of its response nothing is passed to it
  pub untold : is_headed e ≡ false → passed_of c ≡ None
  -- and as long as the exchange is there, more of what is passed is to come
  pub coming : IsComing c
  -- where that is for what the request asks itself, and fills no hole, it waits before the head, and was brought nothing
  pub waits : filled_of e ≡ None → is_headed e ≡ false → Waits c
  -- and where a row that stands answers it, what comes is for that row
  pub bound : filled_of e ≡ None → (x : Instance) → IsIn x s.instances → IsBy x c → IsBoundTo x e
  -- its request may have it, and has one that fills a hole only where it is answered
  pub stands : may_have_ask c.stage ≡ true
  pub fills : (v : Version) → filled_of e ≡ Some v → is_waiting c.stage ≡ false
  -- no more of the body of its request is to be asked than is to be sent (section 4.3)
  pub left : e.body_left ≤ c.body_left
  -- it asks for what the request names
  pub key : key_in c.front ≡ Some e.key

-- ---- the phases in which none is nobody's and nowhere

-- behind Evicting, where asks are given up that wait elsewhere for nothing, up to the end of the turn
abbrev pub is_behind_evicting : Phase → Bool
is_behind_evicting Keeping = true
is_behind_evicting Deciding = true
is_behind_evicting Following = true
is_behind_evicting Connecting = true
is_behind_evicting DecidingAgain = true
is_behind_evicting phase = false

-- ---- all

pub record IsToldOn (s : State) : Type 0 where
  pub told : (e : Exchange) (n : ℕ) (c : Client) → IsIn e s.exchanges → e.asker ≡ Some n → client s n ≡ Some c → IsTold s e c
  -- whoever is answered by a row that stands is passed nothing
  pub bare : (c : Client) (x : Instance) → IsIn c s.clients → IsIn x s.instances → IsBy x c → passed_of c ≡ None
  -- and so is whoever may have no exchange
  pub unasked : (c : Client) → IsIn c s.clients → may_have_ask c.stage ≡ false → passed_of c ≡ None
  -- a head comes to an exchange that has a place
  pub headed : (e : Exchange) → IsIn e s.exchanges → is_headed e ≡ true → e.place ≡ None → ⊥
  -- one that is nobody's and has no place is one of a follower
  pub placeless : (e : Exchange) → IsIn e s.exchanges → e.place ≡ None → e.asker ≡ None → (v : Version) × (filled_of e ≡ Some v)
  -- and late in a turn there is none
  pub going : is_behind_evicting s.phase ≡ true → list_any is_over s.exchanges ≡ false

abbrev pub AsksAreTold : Type 0
AsksAreTold = (terms : List Term) (s : State) (log : Log) → Obeys terms s log → IsToldOn s
