-- What changes the exchanges of the program changes those of the law alike.
use Rattle.std.specs.Prelude.{◌≡◌, ◌≤◌, ℕ, ◌+◌, ◌-◌, ◌==◌, true, false, not, [], ◌∷◌, ◌++◌, filter, Option, Some, None, count_by}
use Rattle.std.specs.List.{find, list_any}
use Rattle.pp_flow.specs.Changes.{Exchanges, changed, entry_of, first_of, placed_on, unplaced as without_place, with_errand, without}
use Rattle.pp_flow.specs.Entries.{asking, begun_with, bound_to, is_asked_by, is_number, moved_by, nobodys}
use Rattle.pp_flow.specs.declared.entry.Aim.{Aim}
use Rattle.pp_flow.specs.declared.entry.Entry.{Entry}
use Rattle.pp_flow.specs.declared.errand.Body.{Body as ErrandBody}
use Rattle.pp_flow.specs.declared.errand.Body.TheVariants.{Joining as IsJoining, Dropping as IsDropping}
use Rattle.pp_flow.specs.declared.errand.Errand.{Errand}
use Rattle.pp_law.specs.Asking.{asked_text}
use Rattle.pp_law.specs.Closing.{is_of, is_over, leave, left_alone}
use Rattle.pp_law.specs.Connections.{conn, end_exchange, exchange, on_exchange, put_on, unplaced}
use Rattle.pp_law.specs.Deciding.{add_exchange, begin_exchange}
use Rattle.pp_law.specs.Lists.{Bytes, has_number}
use Rattle.pp_law.specs.OwnHeads.{moved_on, use_body}
use Rattle.pp_law.specs.Stages.{bound_of}
use Rattle.pp_law.specs.State.{State, Body, Conn, Exchange, Joining}
use Rattle.pp_seats_law.specs.Exchanges.{Binding, ShowsBody, ShowsExchange}
use Rattle.pp_flow_law.specs.Tables.{Leaving, OfFlows, ShowsFlow, line_at, none_leaves}

-- none are there, and none were begun
abbrev pub BeginningsAreTheLaws : Type 0
BeginningsAreTheLaws = (number : ℕ → ℕ) (s : State) → s.exchanges ≡ [] → s.conns ≡ [] → s.next_exchange ≡ 0 → ShowsFlow number none_leaves (record { waiting = []; placed = []; begun = 0 }) s

-- one begins
abbrev pub begun_by : ℕ → Bytes → Aim → Errand → Bytes → Exchanges → Exchanges
begun_by client key aim errand text f = record f { waiting = f.waiting ++ begun_with f.begun client key aim errand text ∷ []; begun = f.begun + 1 }

abbrev pub BeginsAreTheLaws : Type 0
BeginsAreTheLaws = OfFlows (λ number l f s. (client : ℕ) (key : Bytes) (aim : Aim) (errand : Errand) (text : Bytes)
    (e : Exchange) → ShowsExchange number (begun_with f.begun client key aim errand text) e → ShowsFlow number l (begun_by client key aim errand text f) (add_exchange e s))

-- it gets a place, as the last of that line, where it is asked from the front of its text on
abbrev pub PutsAreTheLaws : Type 0
PutsAreTheLaws = OfFlows (λ number l f s. (n : ℕ) (x : Entry) (k : Conn) → find (is_number n) f.waiting ≡ Some x → conn s k.number ≡ Some k
    → ShowsFlow number l (with_errand n (record x.errand { asked = 0 }) (placed_on k.number n f)) (put_on n k.number s))

-- it stands in no line of the law: its connection is closing
abbrev pub HasLeft : ℕ → State → Type 0
HasLeft n s = (k : ℕ) → has_number n (line_at s k) ≡ false

abbrev pub but : ℕ → Leaving → Leaving
but n l k = filter (λ m. not (m == n)) (l k)

-- its place is taken away, and nothing of it was asked
abbrev pub UnplacesAreTheLaws : Type 0
UnplacesAreTheLaws = OfFlows (λ number l f s. (n : ℕ) (x : Entry) → find (is_number n) f.placed ≡ Some x → HasLeft n s
    → ShowsFlow number (but n l) (with_errand n (record x.errand { asked = 0 }) (without_place n f)) (on_exchange n unplaced s))

-- it is over
abbrev pub EndsAreTheLaws : Type 0
EndsAreTheLaws = OfFlows (λ number l f s. (n : ℕ) → ShowsFlow number (but n l) (record f { waiting = without n f.waiting; placed = without n f.placed }) (end_exchange n s))

-- its request leaves it
abbrev pub LeavesAreTheLaws : Type 0
LeavesAreTheLaws = OfFlows (λ number l f s. (n : ℕ) → ShowsFlow number l (record f { waiting = changed n nobodys f.waiting; placed = changed n nobodys f.placed }) (on_exchange n left_alone s))

-- its final head came, and what becomes of its body is known
abbrev pub HeadsAreTheLaws : Type 0
HeadsAreTheLaws = OfFlows (λ number l f s. (n : ℕ) (x : Entry) (e : Exchange) (to : Option Binding) (body : ErrandBody) (other : Body) → find (is_number n) f.placed ≡ Some x → exchange s n ≡ Some e → ShowsBody number body true to other
    → ShowsFlow number l (with_errand n (record x.errand { body = body }) (record f { placed = changed n (bound_to to) f.placed })) (use_body e other s))

-- bytes of its span came
abbrev pub BytesAreTheLaws : Type 0
BytesAreTheLaws = OfFlows (λ number l f s. (n m : ℕ) (x : Entry) → find (is_number n) f.placed ≡ Some x → ShowsFlow number l (record f { placed = changed n (moved_by m) f.placed }) (on_exchange n (moved_on m) s))

-- what it asks, and how much of it was asked, is now this
abbrev pub KeepsItsPlace : (Exchange → Exchange) → Type 0
KeepsItsPlace to = (e : Exchange) → ((to e).number ≡ e.number) × ((to e).place ≡ e.place)

abbrev pub ErrandsAreTheLaws : Type 0
ErrandsAreTheLaws = OfFlows (λ number l f s. (n : ℕ) (x : Entry) (errand : Errand) (to : Exchange → Exchange) → entry_of n f ≡ Some x → KeepsItsPlace to → ((e : Exchange) → ShowsExchange number x e → ShowsExchange number (asking errand x) (to e))
    → ShowsFlow number l (with_errand n errand f) (on_exchange n to s))

-- bytes of its text were asked, or of the body of its request
abbrev pub TextsAreTheLaws : Type 0
TextsAreTheLaws = OfFlows (λ number l f s. (n m : ℕ) (x : Entry) → entry_of n f ≡ Some x
    → ShowsFlow number l (with_errand n (record x.errand { asked = x.errand.asked + m; requested = s.clock }) f) (on_exchange n (asked_text m s.clock) s))

abbrev pub BodiesAreTheLaws : Type 0
BodiesAreTheLaws = OfFlows (λ number l f s. (n m : ℕ) (x : Entry) → entry_of n f ≡ Some x
    → ShowsFlow number l (with_errand n (record x.errand { body_left = x.errand.body_left - m }) f) (on_exchange n (λ e. record e { body_left = e.body_left - m }) s))

-- where the furthest follower of what it is bound to stands is how far that is wanted
abbrev pub wanting : ℕ → Exchange → Exchange
wanting at e = elim (bound_of e) [ None ↦ e | Some b ↦ record e { body = Joining (record b { wanted = at }) } ]

abbrev pub WantsAreTheLaws : Type 0
WantsAreTheLaws = OfFlows (λ number l f s. (n at : ℕ) (x : Entry) (b : Binding) → entry_of n f ≡ Some x → x.exchange.bound ≡ Some b
    → ShowsFlow number l (with_errand n (record x.errand { body = IsJoining at }) f) (on_exchange n (wanting at) s))

-- how much of its body was dropped, the law tells by what came
abbrev pub DropsAreNone : Type 0
DropsAreNone = OfFlows (λ number l f s. (n m k : ℕ) (x : Entry) → entry_of n f ≡ Some x → x.errand.body ≡ IsDropping m → ShowsFlow number l (with_errand n (record x.errand { body = IsDropping k }) f) s)

-- at a decision a request leaves the exchange that it asked: without a place that is over, and with one it is nobody's
abbrev pub left_by : ℕ → Exchanges → Exchanges
left_by c f = elim (first_of (find (is_asked_by c) f.waiting) (find (is_asked_by c) f.placed)) [
  | None ↦ f
  | Some x ↦ elim x.exchange.place [
    | None ↦ record f { waiting = without x.exchange.number f.waiting; placed = without x.exchange.number f.placed }
    | Some k ↦ record f { waiting = changed x.exchange.number nobodys f.waiting; placed = changed x.exchange.number nobodys f.placed }
  ]
]

-- where a request has one at most, and none is over before
abbrev pub DecisionsLeaveAsTheLaws : Type 0
DecisionsLeaveAsTheLaws = OfFlows (λ number l f s. (c : ℕ) → count_by (is_of c) s.exchanges ≤ 1 → list_any is_over s.exchanges ≡ false → ShowsFlow number l (left_by c f) (leave (is_of c) s))

-- and then it asks the one that begins
abbrev pub AsksBeginAsTheLaws : Type 0
AsksBeginAsTheLaws = OfFlows (λ number l f s. (c : ℕ) (key : Bytes) (aim : Aim) (errand : Errand) (text : Bytes)
    (e : Exchange) → count_by (is_of c) s.exchanges ≤ 1 → list_any is_over s.exchanges ≡ false
    → ShowsExchange number (begun_with f.begun c key aim errand text) e → ShowsFlow number l (begun_by c key aim errand text (left_by c f)) (begin_exchange e s))
