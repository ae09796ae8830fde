-- An origin can be read, as it was waited for.
use Rattle.std.proofs.Common.{◌≡◌, refl, sym, subst, ap, ◌∙◌, ℕ, suc, Bool, true, false, ◌&&◌, not, List, [], ◌∷◌, ◌++◌, Option, Some, None, inl, inr}
use Rattle.std.specs.List.{list_all}
use Rattle.std.specs.Prelude.{slice_get}
use Rattle.pp_cache.specs.Memory.{Memory}
use Rattle.pp_comes_law.proofs.CanWrite.{woken_cache}
use Rattle.pp_comes_law.proofs.NamesThere.{woken_names}
use Rattle.pp_comes_law.proofs.OriginRoom.{has_room}
use Rattle.pp_comes_law.proofs.OriginThere.{answers_first, goes_on, keys_given}
use Rattle.pp_comes_law.proofs.OriginWanted.{IsWanted, first_of_three, is_on, may_be, wanted_one}
use Rattle.pp_comes_law.proofs.OriginWrites.{linked_on}
use Rattle.pp_comes_law.specs.Awaited.{HasComeTo, IsAwaited}
use Rattle.pp_comes_law.specs.Moments.{StandsToRead}
use Rattle.pp_comes_law.specs.Origins.{IsOfOrigin, OriginReadsCome}
use Rattle.pp_comes_law.proofs.ReadMoments.{bytes_rest}
use Rattle.pp_comes_law.proofs.RoomReads.{rises}
use Rattle.pp_comes_law.proofs.SettledOnes.{settled_so}
use Rattle.pp_desk.specs.Closings.{Sides, sides}
use Rattle.pp_desk.specs.Marks.{marked_seat, touched}
use Rattle.pp_desk.specs.declared.desk.Desk.{Desk}
use Rattle.pp_grown_law.proofs.Numbers.{Rise}
use Rattle.pp_law.specs.After.{event, owing}
use Rattle.pp_law.specs.Asking.{has_room as takes_more}
use Rattle.pp_law.specs.Connections.{front_of_line, is_client, is_conn, on_client, on_conn}
use Rattle.pp_law.specs.Lists.{is_some_with}
use Rattle.pp_law.specs.Served.{is_stopped, may_read, may_write, wants_read}
use Rattle.pp_law.specs.Replies.{regained}
use Rattle.pp_law.specs.State.{State, Conn, Term, Awaiting, Handling, ReadOf}
use Rattle.pp_law.specs.Turn.{rest_with, rested_conn, touch}
use Rattle.pp_laws.proofs.Tests.{first_holds, same_number, second_holds}
use Rattle.pp_laws.specs.Runs.{IsIn}
use Rattle.pp_laws_turn.proofs.Laws.{sound_turns}
use Rattle.pp_links.specs.Links.{IsLinked}
use Rattle.pp_obeys.proofs.Happenings.{goes_can_read, obeys_by}
use Rattle.pp_obeys.specs.Obeys.{Obeys}
use Rattle.pp_proxy.specs.Moving.{Turning, at_desk}
use Rattle.pp_proxy.specs.Handling.{Wakes}
use Rattle.pp_reads_law.specs.Goes.{AllGoOn}
use Rattle.pp_reads_law.specs.Readable.{HasLedToldBehind, MayBeRead, OriginReadsLead}
use Rattle.pp_state.specs.Ends.{numbers_of, on_seat_where, place_of}
use Rattle.pp_store.specs.Kept.{KeptMap}
use Rattle.pp_world.specs.Log.{Log}
use Rattle.pp_world.specs.declared.event.Event.TheVariants.{Readable}
use Rattle.pp_world.specs.declared.happening.Happening.TheVariants.{CanRead}
use Rattle.pp_world.specs.declared.event.Wants.{Wants}

stands : {A : Type 0} (x : A) (xs : List A) → IsIn x xs → (i : ℕ) × (slice_get xs i ≡ Some x)
stands x [] i = absurd i
stands x (y ∷ ys) (inl is) = (0, ap (λ z. Some z) (sym is))
stands x (y ∷ ys) (inr rest) = let one = stands x ys rest in (suc one.0, one.1)

off_of : (b : Bool) → not b ≡ true → b ≡ false
off_of true is = absurd (cc is)
off_of false is = refl

module _ (terms : List Term) (log : Log) (number : ℕ → ℕ) (w : Wants) (x : Turning) (u : State) (it : IsAwaited terms log number w x u) (k : ℕ) (off : IsOfOrigin k x) (came : HasComeTo log w (Readable k) x) where
  abbrev s : State
  s = rest_with w u

  pub wanted : IsWanted w u k (λ j. is_conn k j && j.is_reached)
  wanted =
      wanted_one terms log number w x u it k (λ c. is_client k c && not c.has_hung_up && takes_more c) (λ j. is_conn k j && j.is_reached) off (λ c. first_of_three (is_client k c) (not c.has_hung_up) (takes_more c)) (λ j. first_holds (is_conn k j) j.is_reached)
      (may_be (may_read u) k w.read.items (first_holds (list_all (may_read u) w.read.items) (list_all (may_write u) w.write.items) it.good.no_more) came.wanted)

  abbrev its : Conn
  its = rested_conn u w wanted.was

  -- it was wanted, so that it does not stop
  goes : is_some_with (is_stopped u) (front_of_line u wanted.was) ≡ false
  goes =
      let at = stands wanted.was u.conns wanted.before in
      let reads : wants_read w wanted.was.number ≡ true = ap (wants_read w) (same_number wanted.was.number k (first_holds (is_conn k wanted.was) wanted.was.is_reached wanted.holds)) ∙ is_on (wants_read w k) came.wanted in
      off_of (is_some_with (is_stopped u) (front_of_line u wanted.was)) (second_holds wanted.was.is_reached (not (is_some_with (is_stopped u) (front_of_line u wanted.was))) (sym (it.gets at.0 wanted.was at.1) ∙ reads))

  pub may_be_read : AllGoOn s → MayBeRead k x s its
  may_be_read next = record {
    there = wanted.there;
    going = goes_on terms log number w x u it its wanted.here;
    answers = λ a is. answers_first terms log number w x u it its a wanted.here is;
    room = has_room w u k wanted.was wanted.there goes;
    long = it.buffer;
    holds = it.holds;
    linked = subst (λ (o : Option Log). IsLinked o x.moving.top x.moving.links) (sym came.told) (linked_on log (CanRead k) x.moving.top x.moving.links (λ id side. refl) it.linked);
    settled = settled_so terms log number w x u it;
    next = next;
  }

-- where the read is owed
owed_obeys : (terms : List Term) (log : Log) (k : ℕ) (s : State) → Obeys terms s log → s.made_room_for ≡ None → s.phase ≡ Awaiting → Obeys terms (event (owing (ReadOf k) k s)) (log ++ CanRead k ∷ [])
owed_obeys terms log k s obeys none at = obeys_by (CanRead k) obeys (goes_can_read s k none at) (λ fails. absurd (cc fails))

owed_phase : (k : ℕ) (s : State) → (event (owing (ReadOf k) k s)).phase ≡ Handling
unfolding event owing regained
owed_phase k s = refl

owed_so : (k : ℕ) (s : State) → (event (owing (ReadOf k) k s)).owed ≡ ReadOf k
unfolding event owing regained
owed_so k s = refl

owed_going : (k : ℕ) (s : State) → (event (owing (ReadOf k) k s)).is_stopped ≡ s.is_stopped
unfolding event owing regained touch on_conn on_client
owed_going k s = refl

-- nothing was forgotten since the wait
owed_none : (k : ℕ) (w : Wants) (u : State) → (event (owing (ReadOf k) k (rest_with w u))).forgotten ≡ []
unfolding event owing regained touch on_conn on_client rest_with
owed_none k w u = refl

-- nothing of the disk changes by it
owed_disk : (shelf : KeptMap) (k : ℕ) (s : State) → StandsToRead shelf s → StandsToRead shelf (event (owing (ReadOf k) k s))
unfolding event owing regained touch on_conn on_client
owed_disk shelf k s stands = record { done = stands.done; shows = stands.shows; names = stands.names }

owed_set : (k : ℕ) (s : State) → (event (owing (ReadOf k) k s)).settings.critical ≡ s.settings.critical
unfolding event owing regained touch on_conn on_client
owed_set k s = refl

-- nor does who is woken begin or end an exchange
touched_flow : (now n : ℕ) (x : Sides) → (touched now n x).parts.flow ≡ x.parts.flow
touched_flow now n x = by (place_of n (numbers_of x.parts.seats))
  where
    by : (o : Option ℕ) → (on_seat_where o (marked_seat now) x.parts).flow ≡ x.parts.flow
    by None = refl
    by (Some i) = refl

woken_flow : (id : ℕ) (old woken : Desk) → Wakes id old woken → woken.state.flow ≡ old.state.flow
woken_flow id old woken wakes = ap (λ (z : Sides). z.parts.flow) wakes.touches.is ∙ touched_flow wakes.anew.state.now id (sides wakes.anew) ∙ ap (λ (d : Desk). d.state.flow) wakes.regains.rest

pub origin_reads_come : OriginReadsLead → OriginReadsCome
origin_reads_come leads k terms log number w x y u off it came may handles bounded straight =
    let s : State = rest_with w u in
    let led : HasLedToldBehind k x y s =
    leads terms log number k x y s _ it.obeys it.stands it.ready (may_be_read terms log number w x u it k off came may.next)
    (λ woken wakes.
    bytes_rest terms (log ++ CanRead k ∷ []) k (at_desk woken x) y (event (owing (ReadOf k) k s)) (owed_obeys terms log k s it.obeys it.stands.law.none it.stands.law.at) (owed_phase k s) (owed_so k s)
    (owed_going k s ∙ ((sound_turns terms s log it.obeys).awaits it.stands.law.at).going) (owed_none k w u) (owed_disk x.shelf k s may.disk)
    (λ bytes brought. ap (λ (m : Memory). m.size) (woken_cache k x.moving.desk woken wakes) ∙ may.size bytes brought.told ∙ sym (owed_set k s))
    (subst Rise (sym (woken_flow k x.moving.desk woken wakes)) (rises number x.moving.desk.state.name.items _ x.moving.desk.peers x.moving.desk.state s it.stands.desk.turn.steps)) (woken_names terms log number w x u k woken it wakes) (may.brings woken wakes)) bounded straight handles in
    record { number = led.number; led = led.led; ready = led.ready (keys_given terms log number w x y u (Readable k) it handles straight); through = led.through }
