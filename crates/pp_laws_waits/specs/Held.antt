-- What is held is not asked for. All of it is ours.
use Rattle.std.specs.Prelude.{◌≡◌, ℕ, Bool, true, false, List, [], ◌∷◌, ◌++◌, Some}
use Rattle.pp_world.specs.Log.{Log}
use Rattle.pp_world.specs.declared.happening.Happening.TheVariants.{Noted}
use Rattle.pp_world.specs.declared.note.Decision.{Decision}
use Rattle.pp_world.specs.declared.note.Decision.TheVariants.{Refuse, Hit, Part, Head, NotModified, Unsatisfiable, Relay, Validate, Fetch, Pass}
use Rattle.pp_world.specs.declared.note.Remark.TheVariants.{Taken}
use Rattle.pp_law.specs.Followers.{fill_for}
use Rattle.pp_law.specs.Lawful.{Lawful}
use Rattle.pp_law.specs.Phases.{deciding}
use Rattle.pp_law.specs.State.{State, Term, Client, Exchange}
use Rattle.pp_law.specs.Table.{Next, is_next_held, next_of}
use Rattle.pp_laws.specs.Runs.{state_after, IsIn}

-- a request is answered by what is known: by the row of its key, or by a page
abbrev pub asks_nothing : Decision → Bool
asks_nothing (Refuse status) = true
asks_nothing (Hit from to) = true
asks_nothing (Part from to) = true
asks_nothing Head = true
asks_nothing NotModified = true
asks_nothing Unsatisfiable = true
asks_nothing Relay = true
asks_nothing Validate = false
asks_nothing Fetch = false
asks_nothing Pass = false

-- an exchange of that number was there
abbrev pub WasThere : Exchange → State → Type 0
WasThere e s = (d : Exchange) × IsIn d s.exchanges × (e.number ≡ d.number)

-- where a decision is taken for a request that held bytes may answer, no exchange begins
abbrev pub HitAsksNothing : Type 0
HitAsksNothing = (terms : List Term) (log : Log) (c i : ℕ) (d : Decision) → Lawful terms (log ++ Noted (Taken c i d) ∷ []) → asks_nothing d ≡ true
    → (e : Exchange) → IsIn e (state_after terms (log ++ Noted (Taken c i d) ∷ [])).exchanges → WasThere e (deciding (state_after terms log))

-- where the next byte of a follower is held, nothing begins for it
abbrev pub HeldAsksNothing : Type 0
HeldAsksNothing = (s : State) (c : Client) (n : Next) → next_of s c ≡ Some n → is_next_held s n ≡ true → fill_for c s ≡ s
