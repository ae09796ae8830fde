-- Where the current request of a client is, and the response to an exchange.
use Rattle.std.specs.Prelude.{Bool, true, false, not, Option, Some, None}
use Rattle.pp_valid.specs.declared.version.Version.{Version}
use Rattle.pp_world.specs.declared.note.Decision.{Decision}
use Rattle.pp_world.specs.declared.note.Decision.TheVariants.{Refuse, Hit, Part, Relay, Pass}
use Rattle.pp_law.specs.Lists.{is_some_with}
use Rattle.pp_law.specs.State.{Client, Undecided, Waiting, Passing, Answering, Reply, Awaited, Useless, Joins, Passes, TooWide, Passed, Exchange, Bound, Body, Pending, Joining, Through, Own, Filling, Stage}

abbrev pub reply_of : Client → Option Reply
reply_of c = elim c.stage [ Undecided ↦ None | Waiting ↦ None | Passing ↦ None | Answering r ↦ Some r ]

-- the client is in the midst of a reply
abbrev pub is_begun : Client → Bool
is_begun c = is_some_with (λ r. r.has_begun) (reply_of c)

abbrev pub is_passing : Decision → Bool
is_passing Pass = true
is_passing Relay = true
is_passing d = false

abbrev pub is_page : Decision → Bool
is_page (Refuse status) = true
is_page d = false

abbrev pub is_followed_by : Decision → Bool
is_followed_by (Hit from to) = true
is_followed_by (Part from to) = true
is_followed_by d = false

-- the response that its exchange passes to it
abbrev pub passed_of : Client → Option Passed
passed_of c = elim c.brought [ Awaited ↦ None | Useless ↦ None | Joins id plain ↦ None | Passes p ↦ Some p | TooWide ↦ None ]

abbrev pub on_passed : (Passed → Passed) → Client → Client
on_passed f c = elim (passed_of c) [ None ↦ c | Some p ↦ record c { brought = Passes (f p) } ]

abbrev pub is_undecided : Stage → Bool
is_undecided Undecided = true
is_undecided stage = false

-- ---- of an exchange

abbrev pub is_through : Exchange → Bool
is_through e = elim e.aim [ Through ↦ true | Own ↦ false | Filling v from to ↦ false ]

abbrev pub is_own : Exchange → Bool
is_own e = elim e.aim [ Through ↦ false | Own ↦ true | Filling v from to ↦ false ]

abbrev pub is_pending : Body → Bool
is_pending Pending = true
is_pending body = false

-- the version that it fills a hole of
abbrev pub filled_of : Exchange → Option Version
filled_of e = elim e.aim [ Through ↦ None | Own ↦ None | Filling v from to ↦ Some v ]

-- the head of its final response came
abbrev pub is_headed : Exchange → Bool
is_headed e = not (is_pending e.body)

abbrev pub bound_in : Body → Option Bound
bound_in (Joining b) = Some b
bound_in body = None

abbrev pub bound_of : Exchange → Option Bound
bound_of e = bound_in e.body
