-- Of what is dropped as much is counted as came, behind all of the read of an origin that brings bytes: what its last step leaves, and replies that
-- are over, change no count and no connection but one that has no line any more.
use Rattle.std.proofs.Common.{◌≡◌, ◌⊎◌, inl, inr, refl, sym, subst, ap, ◌∙◌, ℕ, zero, suc, true, false, length, List, [], ◌∷◌, ◌++◌, Some}
use Rattle.pp_desk.specs.Closings.{Sides}
use Rattle.pp_desk.specs.declared.desk.Desk.{Desk}
use Rattle.pp_events_law.specs.Stands.{HasLedBehind, StandsAtEvent}
use Rattle.pp_flow.specs.Changes.{Exchanges, entry_of}
use Rattle.pp_flow_law.specs.Tables.{ShowsFlow, none_leaves}
use Rattle.pp_law.specs.After.{event, owing}
use Rattle.pp_law.specs.Connections.{close_conn, conn, end_exchange, fail, front_of_line, lose_attempt, on_client, on_conn}
use Rattle.pp_law.specs.Lists.{Bytes}
use Rattle.pp_law.specs.Replies.{end_replies, regained}
use Rattle.pp_law.specs.Responses.{bad_head, bad_response as law_bad, got, with_unread}
use Rattle.pp_law.specs.State.{State, Awaiting, Conn, Free, ReadOf, Term}
use Rattle.pp_law.specs.Turn.{touch}
use Rattle.pp_law.specs.Unseen.{came_of}
use Rattle.pp_laws_sides.specs.Counts.{IsShortLog}
use Rattle.pp_obeys.proofs.Happenings.{goes_can_read, obeys_by}
use Rattle.pp_obeys.specs.Obeys.{Obeys}
use Rattle.pp_origins.specs.Gots.{Both, both, sides_of}
use Rattle.pp_proxy.specs.Moving.{Turning, at_desk}
use Rattle.pp_reads_law.specs.Bads.{piped}
use Rattle.pp_reads_law.specs.Brings.{IsBehindHead, IsBehindPiece, IsMoment}
use Rattle.pp_reads_law.specs.Heads.{HeadsComeAsTheLaws}
use Rattle.pp_reads_law.specs.Readable.{IsReadAwake, IsReadThrough}
use Rattle.pp_reads_law.specs.Stops.{ComesTooEarly, FailsAtHead, IsShut, StaysUnread, Stops}
use Rattle.pp_state.specs.Ends.{parts}
use Rattle.pp_state.specs.declared.state.State.{State as Turn}
use Rattle.pp_stays_law.proofs.Came.{AllConns}
use Rattle.pp_stays_law.proofs.Counted.{IsAsBefore, all_as_before}
use Rattle.pp_stays_law.proofs.Fits.{bodies_suit}
use Rattle.pp_stays_law.specs.Turns.{AreCounted}
use Rattle.pp_store.specs.Kept.{KeptMap}
use Rattle.pp_turns_law.specs.Sides.{ShowsSides}
use Rattle.pp_turns_law.specs.Unread.{IsCountedOn}
use Rattle.pp_world.specs.Log.{Log}
use Rattle.pp_world.specs.declared.happening.Happening.TheVariants.{CanRead}
use Rattle.pp_given_law.proofs.CameFew.{few_bytes}
use Rattle.pp_given_law.proofs.CountedMoments.{at_moments}
use Rattle.pp_given_law.proofs.CountedReads.{ends_all, owes, replies_on, same_flow, wakes_on}
use Rattle.pp_given_law.proofs.CountedTicks.{G, HasOld, P, closes, each, fails, loses, old_counted_by, on_one, over, starts_old, when}
use Rattle.pp_given_law.proofs.CountedWalk.{is_none}
use Rattle.pp_given_law.proofs.CountedWrites.{as_owed}
use Rattle.pp_given_law.specs.Came.{ReadsCanBeCounted}
use Rattle.pp_given_law.specs.Reads.{CountedAsRead}

-- ---- the law: what the last step leaves

module _ (m c : ℕ) where
  bad_old : (k : Conn) (s : State) → P m c s → P m c (law_bad k s)
  unfolding law_bad
  bad_old k s h =
      each m c (front_of_line s k) (close_conn false k s) (λ e. close_conn false k (end_exchange e.number (fail e s))) (closes m c false k s h)
      (λ e. closes m c false k (end_exchange e.number (fail e s)) (over m c e.number (fail e s) (fails m c e s h)))

  bad_head_old : (k : Conn) (s : State) → P m c s → P m c (bad_head k s)
  unfolding bad_head
  bad_head_old k s h =
      when m c k.has_brought _ (law_bad k s)
      (each m c (front_of_line s k) (close_conn false k s) (λ e. close_conn false k (lose_attempt e s)) (closes m c false k s h) (λ e. closes m c false k (lose_attempt e s) (loses m c e s h)))
      (bad_old k s h)

  unread_old : (n : ℕ) (text : Bytes) (s : State) → P m c s → P m c (on_conn n (with_unread text) s)
  unread_old n text s h = on_one m c n (with_unread text) s (λ k its. its) h

  is_old : (s t : State) → t ≡ s → P m c s → P m c t
  is_old s t same h = subst (λ (u : State). P m c u) (sym same) h

  fails_old : (s : State) (n : ℕ) (k : Conn) (t : State) → FailsAtHead s n k t → P m c s → P m c t
  fails_old s n k t it h = is_old (bad_head it.before it.then) t it.law (bad_head_old it.before it.then (by it.stands))
    where
      by : ((it.before ≡ k) × (it.then ≡ s)) ⊎ ((it.before ≡ with_unread [] k) × (it.then ≡ on_conn n (with_unread []) s)) → P m c it.then
      by (inl same) = is_old s it.then same.1 h
      by (inr same) = is_old (on_conn n (with_unread []) s) it.then same.1 (unread_old n [] s h)

  stops_old : (name : Bytes) (shelf : KeptMap) (n : ℕ) (x y : Both) (s t : State) (bytes : Bytes) → Stops name shelf n x s bytes y t → P m c s → P m c t
  stops_old name shelf n x y s t bytes it h = by it.way
    where
      unread : (t ≡ s) ⊎ ((text : Bytes) × (t ≡ on_conn n (with_unread text) s)) → P m c t
      unread (inl same) = is_old s t same h
      unread (inr other) = is_old (on_conn n (with_unread other.0) s) t other.1 (unread_old n other.0 s h)

      shut : FailsAtHead s n it.conn t ⊎ ComesTooEarly s it.conn t → P m c t
      shut (inl fails_it) = fails_old s n it.conn t fails_it h
      shut (inr early) = is_old (close_conn true it.conn s) t early.law (closes m c true it.conn s h)

      by : StaysUnread x s n y t ⊎ IsShut x s n it.conn y t → P m c t
      by (inl stays) = unread stays.law
      by (inr closed) = shut closed.law

  -- behind it replies that are over end, and nothing is owed any more
  handled_old : (t handled : State) → handled ≡ record (end_replies t) { owed = Free } → P m c t → P m c handled
  handled_old t handled law h = subst (λ (u : State). AllConns (HasOld m c) u.conns) (sym law) (ends_all m c t h)

-- ---- the program

module _ (f : Exchanges) where
  stops_on : (name : Bytes) (shelf : KeptMap) (n : ℕ) (x y : Both) (s t : State) (bytes : Bytes) → Stops name shelf n x s bytes y t → G f (parts x.state) → G f (parts y.state)
  stops_on name shelf n x y s t bytes it h = by it.way
    where
      by : StaysUnread x s n y t ⊎ IsShut x s n it.conn y t → G f (parts y.state)
      by (inl stays) = same_flow f (parts x.state) (parts y.state) (ap (λ (z : Turn). z.flow) stays.same) h
      by (inr closed) = subst (λ (z : Sides). G f z.parts) (sym closed.makes.is) (is_none (IsAsBefore f) (bodies_suit f) n (piped n closed.line (sides_of x)) h)

-- ---- where the read begins, and its moments

-- one of them is shown
record IsShownAt (name : Bytes) (x : Both) (s : State) : Type 0 where
  number : ℕ → ℕ
  shows : ShowsSides number name (sides_of x) s

shown_behind : (name : Bytes) (shelf : KeptMap) (n : ℕ) (w x : Both) (u s : State) (more bytes : Bytes) → IsBehindHead name shelf n w u more x s bytes ⊎ IsBehindPiece name shelf n w u more x s bytes → IsShownAt name x s
shown_behind name shelf n w x u s more bytes (inl it) = record { number = it.anew; shows = it.shows }
shown_behind name shelf n w x u s more bytes (inr it) = record { number = it.number; shows = subst (λ (t : State). ShowsSides it.number name (sides_of x) t) (sym it.state) it.over.shows }

owed_so : (k : ℕ) (s : State) → (event (owing (ReadOf k) k s)).owed ≡ ReadOf k
unfolding event owing regained touch on_conn on_client
owed_so k s = refl

module _ (comes : HeadsComeAsTheLaws) (counts : ReadsCanBeCounted) (terms : List Term) (log : Log) (number other : ℕ → ℕ) (k : ℕ) (x y : Turning) (s : State) (bytes : Bytes) (obeys : Obeys terms s log) (short : IsShortLog log) (stands : StandsAtEvent number Awaiting Free x.moving s) (it : HasLedBehind other (CanRead k) x y s)
    (read : IsReadAwake k x y s bytes it.handled.handled) (counted : AreCounted x.moving.desk.state s) where
  abbrev v : State
  v = event (owing (ReadOf k) k s)

  abbrev woken : Desk
  woken = read.woken

  abbrev r : IsReadThrough k (at_desk read.woken x) y v bytes it.handled.handled
  r = read.through

  abbrev handled : State
  handled = it.handled.handled

  abbrev name : Bytes
  name = woken.state.name.items

  abbrev shelf : KeptMap
  shelf = x.shelf

  obeys_now : Obeys terms v (log ++ CanRead k ∷ [])
  obeys_now = obeys_by (CanRead k) obeys (goes_can_read s k stands.law.none stands.law.at) (λ off. absurd (cc off))

  begins_flow : r.begins.state.flow ≡ woken.state.flow
  begins_flow = ap (λ (z : Sides). z.parts.flow) r.same.is

  counted_begins : AreCounted r.begins.state v
  counted_begins n j there m e has at = as_owed (ReadOf k) k x.moving.desk woken s read.wakes counted n j there m e has (sym (ap (λ (f : Exchanges). entry_of m f) begins_flow) ∙ at)

  counted_at : (pieces : ℕ) (z : Both) (t : State) (left : Bytes) → IsMoment pieces name shelf k r.begins v bytes z t left → AreCounted z.state t
  counted_at = at_moments comes terms (log ++ CanRead k ∷ []) name shelf k r.begins v bytes obeys_now (owed_so k s) (counts terms s log obeys short k bytes (few_bytes _ bytes r.brought.fits)) counted_begins

  shows_then : ShowsFlow other none_leaves y.moving.desk.state.flow handled
  shows_then = it.handled.stands.desk.turn.steps.shows.exchanges

  -- from where this is shown, as long as bodies stay and what came stays
  ends_from : (from : ℕ → ℕ) (f : Exchanges) (t : State) → ShowsFlow from none_leaves f t → ((n : ℕ) (j : Conn) → conn t n ≡ Some j → AllConns (HasOld n (came_of j)) handled.conns) → G f (parts r.next.state)
      → ((n : ℕ) (j : Conn) → conn t n ≡ Some j → IsCountedOn f j) → AreCounted y.moving.desk.state handled
  ends_from from f t shows old bodies its = old_counted_by from other f y.moving.desk.state.flow t handled shows shows_then (replies_on f r.next.state.awake.items (sides_of r.next) (sides_of (both y.moving.desk)) r.behind.is bodies) old its

  -- ---- it ends at a moment

  at_once : r.next ≡ r.begins → got (length bytes) k bytes v ≡ v → AreCounted y.moving.desk.state handled
  at_once same law = ends_from number f s shows old bodies counted
    where
      f : Exchanges
      f = x.moving.desk.state.flow

      shows : ShowsFlow number none_leaves f s
      shows = stands.desk.turn.steps.shows.exchanges

      bodies : G f (parts r.next.state)
      bodies = same_flow f (parts woken.state) (parts r.next.state) (ap (λ (z : Both). z.state.flow) same ∙ begins_flow) (wakes_on f k x.moving.desk woken read.wakes (all_as_before number f s shows))

      old : (n : ℕ) (j : Conn) → conn s n ≡ Some j → AllConns (HasOld n (came_of j)) handled.conns
      old n j there = handled_old n (came_of j) _ handled r.law (is_old n (came_of j) v _ law (owes n (came_of j) (ReadOf k) k s (starts_old s n j (stands.desk.may.apart n) there)))

  module _ (z : Both) (t : State) (from : ℕ → ℕ) (shows : ShowsSides from name (sides_of z) t) (its : AreCounted z.state t) where
    abbrev f : Exchanges
    f = z.state.flow

    flows : ShowsFlow from none_leaves f t
    flows = shows.steps.shows.exchanges

    ends_at : r.next ≡ z → got (length bytes) k bytes v ≡ t → AreCounted y.moving.desk.state handled
    ends_at same law =
        ends_from from f t flows (λ n j there. handled_old n (came_of j) _ handled r.law (is_old n (came_of j) t _ law (starts_old t n j (shows.may.apart n) there)))
        (same_flow f (parts z.state) (parts r.next.state) (ap (λ (w : Both). w.state.flow) same) (all_as_before from f t flows)) its

    ends_behind : (left : Bytes) → Stops name shelf k z t left r.next (got (length bytes) k bytes v) → AreCounted y.moving.desk.state handled
    ends_behind left stops =
        ends_from from f t flows (λ n j there. handled_old n (came_of j) _ handled r.law (stops_old n (came_of j) name shelf k z r.next t _ left stops (starts_old t n j (shows.may.apart n) there)))
        (stops_on f name shelf k z r.next t _ left stops (all_as_before from f t flows)) its

  -- ---- however it ends

  ends : (pieces : ℕ) (z : Both) (t : State) (left : Bytes) → IsMoment pieces name shelf k r.begins v bytes z t left → ((r.next ≡ z) × (got (length bytes) k bytes v ≡ t)) ⊎ Stops name shelf k z t left r.next (got (length bytes) k bytes v) → AreCounted y.moving.desk.state handled
  unfolding IsMoment
  ends zero z t left is (inl same) = at_once (same.0 ∙ is.0) (same.1 ∙ is.1)
  ends (suc pieces) z t left is (inl same) =
      let one : IsShownAt name z t = shown_behind name shelf k is.0 z is.1 t is.2 left is.4 in
      ends_at z t one.number one.shows (counted_at (suc pieces) z t left is) same.0 same.1
  ends pieces z t left is (inr stops) = ends_behind z t stops.number stops.shows (counted_at pieces z t left is) left stops

  pub read_counted : AreCounted y.moving.desk.state handled
  read_counted = ends r.ends.holds.0 r.ends.x r.ends.s r.ends.bytes r.ends.holds.1 r.ends.last

pub as_read : HeadsComeAsTheLaws → ReadsCanBeCounted → CountedAsRead
as_read comes counts terms log number other k x y s bytes obeys short stands it read counted = read_counted comes counts terms log number other k x y s bytes obeys short stands it read counted
