-- What goes alone, as it is passed, and is not answered yet, has its client: it was dropped with its connection otherwise, as its turn ended
-- (RFC 2616, sections 8.1.2.2 and 8.1.4; ours).
use Rattle.std.specs.Prelude.{◌≡◌, Bool, true, false, ◌&&◌, ◌⊎◌, List}
use Rattle.pp_answers_law.specs.Disproving.{GoesWithClient}
use Rattle.pp_law.specs.Phases.{is_free}
use Rattle.pp_law.specs.Requests.{goes_alone}
use Rattle.pp_law.specs.Stages.{is_headed, is_pending, is_through}
use Rattle.pp_law.specs.State.{State, Awaiting, Exchange, Term}
use Rattle.pp_laws.specs.Runs.{IsIn}
use Rattle.pp_obeys.specs.Obeys.{Obeys}
use Rattle.pp_world.specs.Log.{Log}

abbrev pub is_lone : Exchange → Bool
is_lone e = goes_alone e.head && (is_through e && is_pending e.body)

-- each of a state
abbrev pub LoneGoWithClients : State → Type 0
LoneGoWithClients s = (e : Exchange) → IsIn e s.exchanges → is_through e ≡ true → is_headed e ≡ false → GoesWithClient s e

-- where an event is awaited, and as long as a read or a write is owed
abbrev pub AwaitedLoneGoWithClients : Type 0
AwaitedLoneGoWithClients = (terms : List Term) (s : State) (log : Log) → Obeys terms s log → (s.phase ≡ Awaiting) ⊎ (is_free s.owed ≡ false) → LoneGoWithClients s
