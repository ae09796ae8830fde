-- One fetch for many (ours): a request waits once for what another has asked for already.
use Rattle.std.specs.Prelude.{ℕ, Bool, true, false, ◌==◌, ◌&&◌, ◌-◌, not, nat_lt, find, bytes_eq, is_some, Option, Some, None, option_map}
use Rattle.std.specs.List.{list_any}
use Rattle.pp_target.specs.Key.{text_of}
use Rattle.pp_world.specs.declared.note.Decision.{Decision}
use Rattle.pp_world.specs.declared.note.Decision.TheVariants.{Validate, Fetch}
use Rattle.pp_law.specs.Lists.{Bytes}
use Rattle.pp_law.specs.Requests.{has_request, key_in}
use Rattle.pp_law.specs.Stages.{is_headed, is_own, is_undecided}
use Rattle.pp_law.specs.State.{State, Shared, Client, Exchange}
use Rattle.pp_law.specs.Decisions.{decide}

-- it asks for what the cache may use for others
abbrev pub may_share : Decision → Bool
may_share Fetch = true
may_share Validate = true
may_share d = false

-- an ask for the whole of the key, or a check of it, whose answer has not come
abbrev pub is_shared : Bytes → Exchange → Bool
is_shared key e = elim (is_own e) [ true ↦ not (is_headed e) && not e.is_ranged && bytes_eq (text_of e.key) key | false ↦ false ]

abbrev pub shared_ask : State → Client → Option ℕ
shared_ask s c = elim (key_in c.front) [ None ↦ None | Some key ↦ option_map (λ e. e.number) (find (is_shared (text_of key)) s.exchanges) ]

-- the exchange that it waited for is there, and its answer has not come
abbrev pub is_awaited : State → ℕ → Bool
is_awaited s n = list_any (λ e. (e.number == n) && not (is_headed e)) s.exchanges

-- ours: for five seconds
abbrev pub is_patient : State → Shared → Bool
is_patient s w = is_awaited s w.exchange && nat_lt (s.clock - w.since) 5

-- what was decided first: a request waits once for what is asked already
abbrev pub due_first : State → Client → Decision → Option Decision
due_first s c d = elim (s.settings.shares_fetches && may_share d && is_some (shared_ask s c)) [ true ↦ None | false ↦ Some d ]

abbrev pub due_undecided : State → Client → Option Decision
due_undecided s c = elim c.waits_on [
  | Some w ↦ elim (is_patient s w) [ true ↦ None | false ↦ decide s c ]
  | None ↦ elim (decide s c) [ None ↦ None | Some d ↦ due_first s c d ]
]

-- it waits on; or what it names is asked already
abbrev pub has_shared_ask : State → Client → Bool
has_shared_ask s c = elim c.waits_on [ Some w ↦ is_patient s w | None ↦ is_some (shared_ask s c) ]

-- where nothing is due, it waits for the answer to another client's ask
abbrev pub is_sharing : State → Client → Bool
is_sharing s c = elim (is_undecided c.stage) [ true ↦ has_request c.front && has_shared_ask s c | false ↦ false ]
