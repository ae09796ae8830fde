-- Of what is dropped as much is counted as came, where a read of an origin brings nothing of a response: a connection that is gone has no line any
-- more, and on the others all is as it was.
use Rattle.std.proofs.Common.{◌≡◌, ◌≤◌, refl, sym, subst, ap, ◌∙◌, inr, ℕ, Bool, true, false, ◌==◌, ◌&&◌, not, cond, find, length, take, List, [], ◌∷◌, ◌++◌, Option, Some, None, Ok, Err}
use Rattle.std.specs.Prelude.{vec_capacity}
use Rattle.pp_cache_law.proofs.Numbers.{is_same, some_is}
use Rattle.pp_desk.specs.Calls.{Found, read_log}
use Rattle.pp_desk.specs.Closings.{Sides}
use Rattle.pp_desk.specs.declared.desk.Desk.{Desk}
use Rattle.pp_events_law.specs.Stands.{come}
use Rattle.pp_flow.specs.Changes.{Exchanges}
use Rattle.pp_flow_law.specs.Frames.{emptied}
use Rattle.pp_flow_law.specs.Tables.{ShowsFlow, none_leaves}
use Rattle.pp_head.specs.Response.{Response}
use Rattle.pp_law.specs.After.{after, changed, gone}
use Rattle.pp_law.specs.Connections.{close_conn, conn, end_exchange, front_of_line, is_conn, lose_place, on_client_of, on_conn}
use Rattle.pp_law.specs.Lists.{change}
use Rattle.pp_law.specs.Responses.{close_this, ended, finish, finish_first, is_whole_at_end, may_go_on, rested, skip_body}
use Rattle.pp_law.specs.Passing.{pour}
use Rattle.pp_law.specs.State.{State, Aim, Through, Own, Filling, Answer, Conn, Exchange, ReadOf}
use Rattle.pp_law.specs.Unseen.{came_of}
use Rattle.pp_obeys.specs.Moves.{Leads}
use Rattle.pp_origins.specs.Gots.{Both, EndsBehind, IsReceived, Receives, both, sides_of}
use Rattle.pp_origins.specs.Responses.{origin_gone}
use Rattle.pp_pass.specs.Pipe.{Pipe, finished}
use Rattle.pp_proxy.specs.Handling.{ReadsBy, ReceivesOn}
use Rattle.pp_proxy.specs.Moving.{Turning, at_desk}
use Rattle.pp_state.specs.Ends.{numbers_of, parts, place_of}
use Rattle.pp_stays_law.proofs.Came.{AllConns}
use Rattle.pp_stays_law.proofs.Counted.{IsAsBefore, all_as_before}
use Rattle.pp_stays_law.proofs.Walk.{AllOf}
use Rattle.pp_store.specs.Kept.{KeptMap}
use Rattle.pp_world.specs.Connections.{side_of}
use Rattle.pp_world.specs.Log.{AppendsAll, Log}
use Rattle.pp_world.specs.Wire.{by_side}
use Rattle.pp_world.specs.declared.event.Event.TheVariants.{Readable}
use Rattle.pp_world.specs.declared.event.Got.TheVariants.{Bytes, End, NotYet}
use Rattle.pp_world.specs.declared.event.Side.{Side}
use Rattle.pp_world.specs.declared.event.Side.TheVariants.{Client as OfClient, Origin as OfOrigin}
use Rattle.pp_world.specs.declared.happening.Happening.{Happening}
use Rattle.pp_world.specs.declared.happening.Happening.TheVariants.{Broke, CanRead, Ended, Got, Heard, NoneYet}
use Rattle.pp_given_law.proofs.CountedBreaks.{breaks_old, gone_on}
use Rattle.pp_given_law.proofs.CountedReads.{ends_all, owes, pays, replies_on, same_flow, then_conns, wakes_on}
use Rattle.pp_given_law.proofs.CountedTicks.{G, HasOld, P, all_exchanges, closes, each, loses_place, old_counted_by, over, starts_old, when}
use Rattle.pp_given_law.specs.Ends.{AreOfEnd, CountedAsEnded, is_of_end}

-- ---- the law

no : {A : Type 0} → true ≡ false → A
no both = absurd (cc both)

module _ (n c : ℕ) where
  -- of another connection
  apart : (k : Conn) (m : ℕ) → (m == n) ≡ false → is_conn m k ≡ true → (k.number == n) ≡ true → ⊥
  apart k m isnt on is = no (sym (ap (λ (i : ℕ). i == n) (sym (is_same k.number m on)) ∙ is) ∙ isnt)

  on_other : (m : ℕ) (f : Conn → Conn) (ks : List Conn) → ((k : Conn) → (f k).number ≡ k.number) → (m == n) ≡ false → AllConns (HasOld n c) ks → AllConns (HasOld n c) (change (is_conn m) f ks)
  on_other m f [] same isnt all = tt
  on_other m f (k ∷ ks) same isnt all = (by (is_conn m k) refl, on_other m f ks same isnt all.1)
    where
      by : (b : Bool) → is_conn m k ≡ b → HasOld n c (elim b as (λ d. Conn) [ true ↦ f k | false ↦ k ])
      by true on = λ is. absurd (apart k m isnt on (ap (λ (i : ℕ). i == n) (sym (same k)) ∙ is))
      by false off = all.0

  rests : (m : ℕ) (head : Response) (s : State) → (m == n) ≡ false → P n c s → P n c (on_conn m (rested head) s)
  unfolding on_conn
  rests m head s isnt h = on_other m (rested head) s.conns (λ k. refl) isnt h

  pours : (e : Exchange) (f : Pipe → Pipe) (s : State) → P n c s → P n c (pour e f s)
  unfolding pour on_client_of
  pours e f s h = h

  skips : (e : Exchange) (s : State) → P n c s → P n c (skip_body e s)
  unfolding skip_body on_client_of
  skips e s h = by e.aim
    where
      by : (aim : Aim) → P n c (skip_body (record e { aim = aim }) s)
      by Through = h
      by Own = h
      by (Filling v from to) = h

  pub closes_this : (m : ℕ) (s : State) → P n c s → P n c (close_this m s)
  unfolding close_this
  closes_this m s h = each n c (conn s m) s (λ k. close_conn true k s) h (λ k. closes n c true k s h)

  pub finishes : (k : Conn) (e : Exchange) (a : Answer) (s : State) → (k.number == n) ≡ false → P n c s → P n c (finish k e a s)
  unfolding finish
  finishes k e a s isnt h = when n c (may_go_on e a.head) done (close_this k.number done) still (closes_this k.number done still)
    where
      done : State
      done = on_conn k.number (rested a.head) (end_exchange e.number (skip_body e (pour e finished s)))

      still : P n c done
      still = rests k.number a.head (end_exchange e.number (skip_body e (pour e finished s))) isnt (over n c e.number (skip_body e (pour e finished s)) (skips e (pour e finished s) (pours e finished s h)))

  finishes_first : (k : Conn) (a : Answer) (s : State) → (k.number == n) ≡ false → P n c s → P n c (finish_first k a s)
  unfolding finish_first
  finishes_first k a s isnt h = each n c (front_of_line s k) s (λ e. finish k e a s) h (λ e. finishes k e a s isnt h)

  -- of this one itself: its line is empty then
  none_there : (ks : List Conn) → find (is_conn n) ks ≡ None → AllConns (HasOld n c) ks
  none_there [] none = tt
  none_there (k ∷ ks) none = by (is_conn n k) refl none (none_there ks)
    where
      by : (b : Bool) → is_conn n k ≡ b → cond b (Some k) (find (is_conn n) ks) ≡ None → (find (is_conn n) ks ≡ None → AllConns (HasOld n c) ks) → AllConns (HasOld n c) (k ∷ ks)
      by true is found rest = absurd (cc found)
      by false isnt found rest = ((λ is. absurd (no (sym is ∙ isnt))), rest found)

  all_emptied : (ks : List Conn) → AllConns (HasOld n c) (change (is_conn n) emptied ks)
  all_emptied [] = tt
  all_emptied (k ∷ ks) = (by (is_conn n k) refl, all_emptied ks)
    where
      by : (b : Bool) → is_conn n k ≡ b → HasOld n c (elim b as (λ d. Conn) [ true ↦ emptied k | false ↦ k ])
      by true is = λ its. inr refl
      by false isnt = λ its. absurd (no (sym its ∙ isnt))

  emptied_one : (m : ℕ) (s : State) → m ≡ n → P n c (on_conn m emptied s)
  unfolding on_conn
  emptied_one m s is = subst (λ (i : ℕ). AllConns (HasOld n c) (change (is_conn i) emptied s.conns)) (sym is) (all_emptied s.conns)

  shuts : (k : Conn) (s : State) → k.number ≡ n → P n c (close_conn true k s)
  unfolding close_conn
  shuts k s is = all_exchanges n c (lose_place (true && not k.has_brought)) (loses_place n c (true && not k.has_brought)) k.line _ (emptied_one k.number s is)

  passes : (ks : List Conn) (k : Conn) → find (is_conn n) ks ≡ Some k → k.number ≡ n
  passes [] k found = absurd (cc found)
  passes (j ∷ ks) k found = by (is_conn n j) refl found (passes ks k)
    where
      by : (b : Bool) → is_conn n j ≡ b → cond b (Some j) (find (is_conn n) ks) ≡ Some k → (find (is_conn n) ks ≡ Some k → k.number ≡ n) → k.number ≡ n
      by true is there rest = ap (λ (i : Conn). i.number) (sym (some_is j k there)) ∙ is_same j.number n is
      by false isnt there rest = rest there

  shuts_this : (s : State) → P n c (close_this n s)
  unfolding close_this
  shuts_this s = by (conn s n) refl
    where
      by : (o : Option Conn) → conn s n ≡ o → P n c (elim o as (λ t. State) [ None ↦ s | Some k ↦ close_conn true k s ])
      by None none = none_there s.conns none
      by (Some k) there = shuts k s (passes s.conns k there)

  -- it ended, or broke
  whole_one : (k : Conn) (a : Answer) (s : State) → P n c s → P n c (close_this k.number (finish_first k a s))
  whole_one k a s h = by (k.number == n) refl
    where
      by : (b : Bool) → (k.number == n) ≡ b → P n c (close_this k.number (finish_first k a s))
      by true is = subst (λ (i : ℕ). P n c (close_this i (finish_first k a s))) (sym (is_same k.number n is)) (shuts_this (finish_first k a s))
      by false isnt = closes_this k.number (finish_first k a s) (finishes_first k a s isnt h)

  ends_one : (k : Conn) (s : State) → P n c s → P n c (ended true k s)
  unfolding ended
  ends_one k s h =
      each n c k.answer (close_conn true k s) _ (closes n c true k s h)
      (λ a. when n c (true && is_whole_at_end a) (close_this k.number (finish_first k a s)) (close_conn true k s) (whole_one k a s h) (closes n c true k s h))

  goes : (m : ℕ) (s : State) → P n c s → P n c (gone true m s)
  unfolding gone
  goes m s h = each n c (conn s m) s _ h (λ k. ends_all n c (ended true k s) (ends_one k s h))

  one_ended : (s : State) (h : Happening) → is_of_end h ≡ true → P n c s → P n c (after s h)
  unfolding changed
  one_ended s (Ended m) is its = pays n c (gone true m s) (goes m s its)
  one_ended s (Broke m) is its = breaks_old n c m s its
  one_ended s (NoneYet m) is its = pays n c s its
  one_ended s other is its = absurd (cc is)

  all_ended : (hs : Log) (s t : State) → AreOfEnd hs → Leads hs s t → P n c s → P n c t
  all_ended [] s t only leads its = subst (λ (u : State). P n c u) leads its
  all_ended (g ∷ hs) s t only leads its = all_ended hs (after s g) t only.1 leads.holds (one_ended s g only.0 its)

  ended_old : (id : ℕ) (hs : Log) (s t : State) → AreOfEnd hs → Leads (CanRead id ∷ hs) s t → P n c s → P n c t
  unfolding changed
  ended_old id hs s t only leads its = all_ended hs (after s (CanRead id)) t only leads.holds (owes n c (ReadOf id) id s its)

-- ---- what was added is told

drop_front : (xs ys zs : Log) → xs ++ ys ≡ xs ++ zs → ys ≡ zs
drop_front [] ys zs is = is
drop_front (x ∷ xs) ys zs is = drop_front xs ys zs (tails is)
  where
    tails : x ∷ (xs ++ ys) ≡ x ∷ (xs ++ zs) → xs ++ ys ≡ xs ++ zs
    tails same = cc same

some_same : (a b : Log) → Some a ≡ Some b → a ≡ b
some_same a b is = cc is

record WasAdded (f : Log → Log) (hs : Log) : Type 0 where
  before : Log
  is : hs ≡ f before

was_added : (old new : Option Log) (now hs : Log) (f : Log → Log) → new ≡ Some now → AppendsAll old new (λ l. hs) → AppendsAll old new f → WasAdded f hs
was_added old new now hs f told one two =
    let a : (before : Log) × (old ≡ Some before) × (now ≡ before ++ hs) = one.was now told in
    let b : (before : Log) × (old ≡ Some before) × (now ≡ before ++ f before) = two.was now told in
    let same : b.0 ≡ a.0 = some_same b.0 a.0 (sym b.1 ∙ a.1) in
    record { before = a.0; is = drop_front a.0 hs (f a.0) (sym a.2 ∙ subst (λ (l : Log). now ≡ l ++ f l) same b.2) }

no_bytes : (id : ℕ) (o : Option Side) (bytes : List ℕ) → is_of_end (by_side o (Heard id bytes) (Got id bytes)) ≡ true → ⊥
no_bytes id None bytes is = absurd (cc is)
no_bytes id (Some OfClient) bytes is = absurd (cc is)
no_bytes id (Some OfOrigin) bytes is = absurd (cc is)

-- ---- the program

module _ (f : Exchanges) where
  goes_on : (is_clean : Bool) (k : ℕ) (x y : Both) → EndsBehind (origin_gone is_clean k) x y → G f (parts x.state) → G f (parts y.state)
  goes_on is_clean k x y it h = replies_on f x.state.awake.items (origin_gone is_clean k (sides_of x)) (sides_of y) it.is (gone_on f is_clean k (sides_of x) h)

  same_on : (x y : Both) → y ≡ x → G f (parts x.state) → G f (parts y.state)
  same_on x y same h = same_flow f (parts x.state) (parts y.state) (ap (λ (b : Both). b.state.flow) same) h

  received_on : (found : Found) (shelf : KeptMap) (k : ℕ) (front : List ℕ) (l : Log) (x y : Both) → AreOfEnd (read_log k found front l) → IsReceived found shelf k front x y → G f (parts x.state) → G f (parts y.state)
  received_on None shelf k front l x y only it h = same_on x y it h
  received_on (Some (Ok (Bytes n))) shelf k front l x y only it h = absurd (no_bytes k (side_of k l) (take n front) only.0)
  received_on (Some (Ok End)) shelf k front l x y only it h = goes_on true k x y it h
  received_on (Some (Ok NotYet)) shelf k front l x y only it h = same_on x y it h
  received_on (Some (Err fault)) shelf k front l x y only it h = goes_on false k x y it h

-- ---- both

pub as_ended : CountedAsEnded
as_ended number other k x y s log stands nobody long told is it only counted = old_counted_by number other x.moving.desk.state.flow y.moving.desk.state.flow s it.handled.handled shows it.handled.stands.desk.turn.steps.shows.exchanges bodies old counted
  where
    woken : Desk
    woken = is.woken

    next : Turning
    next = at_desk woken (come (Readable k) x)

    shows : ShowsFlow number none_leaves x.moving.desk.state.flow s
    shows = stands.desk.turn.steps.shows.exchanges

    nobody_then : place_of k (numbers_of woken.state.seats.items) ≡ None
    nobody_then = ap (λ (ns : List ℕ). place_of k ns) (is.wakes.touches.numbers ∙ is.wakes.regains.numbers) ∙ nobody

    reads : ReceivesOn k next y
    reads = subst (λ (o : Option ℕ). ReadsBy o k next y) nobody_then is.reads

    has_room : length woken.buffer.items ≤ vec_capacity woken.«data»
    has_room = subst (λ (d : Desk). length d.buffer.items ≤ vec_capacity d.«data») (sym is.wakes.touches.rest) (subst (λ (d : Desk). length d.buffer.items ≤ vec_capacity d.«data») (sym is.wakes.regains.rest) long)

    receives : Receives (length woken.buffer.items) x.shelf k next.moving.links (both woken) (both y.moving.desk) x.log y.log
    receives = reads.receives has_room

    was : WasAdded (read_log k receives.found receives.front) it.log
    was = was_added x.log y.log log it.log (read_log k receives.found receives.front) told it.told receives.told

    bodies : AllOf (IsAsBefore x.moving.desk.state.flow) y.moving.desk.state.flow.placed
    bodies =
        received_on x.moving.desk.state.flow receives.found x.shelf k receives.front was.before receives.begins (both y.moving.desk) (subst (λ (hs : Log). AreOfEnd hs) was.is only) receives.is
        (same_flow x.moving.desk.state.flow (parts woken.state) (parts receives.begins.state) (ap (λ (z : Sides). z.parts.flow) receives.same.is)
        (wakes_on x.moving.desk.state.flow k x.moving.desk woken is.wakes (all_as_before number x.moving.desk.state.flow s shows)))

    old : (m : ℕ) (j : Conn) → conn s m ≡ Some j → AllConns (HasOld m (came_of j)) it.handled.handled.conns
    old m j here =
        subst (λ (ks : List Conn). AllConns (HasOld m (came_of j)) ks) (sym (then_conns it.then it.handled.handled it.handled.anew))
        (ended_old m (came_of j) k it.log s it.then only it.leads (starts_old s m j (stands.desk.may.apart m) here))
