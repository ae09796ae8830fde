-- Which row a reply is read from: one of the key that the request names, that is fresh, or that was checked for that very request
-- (RFC 2616, sections 13.1.1, 13.2 and 13.3).
use Rattle.std.specs.Prelude.{◌≡◌, ◌⊎◌, ℕ, Bool, true, false, List, [], ◌∷◌, ◌++◌, Some, Ok}
use Rattle.pp_fresh.specs.Ready.{is_ready, may_store}
use Rattle.pp_head.specs.Request.{Request}
use Rattle.pp_plan.specs.Row.{Row}
use Rattle.pp_target.specs.Key.{Key, text_of}
use Rattle.pp_text.specs.Fields.{Field}
use Rattle.pp_world.specs.Log.{Log}
use Rattle.pp_world.specs.declared.happening.Happening.TheVariants.{Noted}
use Rattle.pp_world.specs.declared.note.Decision.{Decision}
use Rattle.pp_world.specs.declared.note.Decision.TheVariants.{Refuse, Hit, Part, Head, NotModified, Unsatisfiable, Relay, Validate, Fetch, Pass}
use Rattle.pp_world.specs.declared.note.Remark.TheVariants.{Taken}
use Rattle.pp_law.specs.Lawful.{Lawful}
use Rattle.pp_law.specs.Lists.{Bytes}
use Rattle.pp_law.specs.Phases.{come_to_decide}
use Rattle.pp_law.specs.Requests.{Parsed, IsRequest, key_in}
use Rattle.pp_law.specs.State.{State, Term, Client, Instance, Entry, Joins, Answering, Reply}
use Rattle.pp_law.specs.Table.{of_instance, of_entry, source_of}
use Rattle.pp_laws.specs.Runs.{IsIn, state_after}

-- ---- a decision to answer by the row

-- the reply is read from the row of the key
abbrev pub is_by_row : Decision → Bool
is_by_row (Refuse status) = false
is_by_row (Hit from to) = true
is_by_row (Part from to) = true
is_by_row Head = true
is_by_row NotModified = true
is_by_row Unsatisfiable = true
is_by_row Relay = false
is_by_row Validate = false
is_by_row Fetch = false
is_by_row Pass = false

-- what the cache has of that very key: an instance in memory, or an entry on the disk, that was neither replaced nor cleared
abbrev pub IsKnownOf : State → Request → Bytes → Row → Type 0
IsKnownOf s head key row =
    ((x : Instance) × IsIn x s.instances × (x.is_retired ≡ false) × (x.key ≡ key) × (row ≡ of_instance s head x))
    ⊎ ((e : Entry) × IsIn e s.entries × (e.is_stale ≡ false) × (e.key ≡ key) × (row ≡ of_entry head e))

-- the response to the exchange of this very request made the row, or told that it is as it was; and it is one that may be shared
pub record WasChecked (s : State) (c : Client) (key : Bytes) (fields : List Field) : Type 0 where
  pub source : Instance
  pub stands : IsIn source s.instances
  pub is_of : source.key ≡ key
  pub plain : Bool
  pub brought : c.brought ≡ Joins source.id plain
  pub may_share : may_store fields ≡ true

-- the request is answered by the row of its key, which is fresh by the clock of then, or was checked for it
pub record IsUsable (s : State) (c : Client) : Type 0 where
  pub request : Parsed
  pub asks : c.front ≡ IsRequest request
  pub key : Key
  pub names : request.key ≡ Ok key
  pub known : Row
  pub is_known : IsKnownOf s request.head (text_of key) known
  pub holds : (is_ready request.head.fields known.fields known.times s.clock ≡ true) ⊎ WasChecked s c (text_of key) known.fields

-- request i of client n
pub record Asker (s : State) (n i : ℕ) : Type 0 where
  pub client : Client
  pub there : IsIn client s.clients
  pub number : client.number ≡ n
  pub index : client.index ≡ i
  pub usable : IsUsable s client

-- in the state in which it is decided
abbrev pub RowsAreFreshOrChecked : Type 0
RowsAreFreshOrChecked = (terms : List Term) (log : Log) (n i : ℕ) (d : Decision) → Lawful terms (log ++ Noted (Taken n i d) ∷ [])
    → is_by_row d ≡ true → Asker (come_to_decide (state_after terms log)) n i

-- ---- a reply that is read from an instance

-- at any time it is one of the key that the client's request names
abbrev pub SourcesAreOfTheKey : Type 0
SourcesAreOfTheKey = (terms : List Term) (log : Log) → Lawful terms log → (c : Client) (r : Reply) (x : Instance) → IsIn c (state_after terms log).clients
    → c.stage ≡ Answering r → source_of (state_after terms log) r ≡ Some x → (key : Key) × (key_in c.front ≡ Some key) × (x.key ≡ text_of key)
