-- A client that can be read, as it was waited for.
use Rattle.std.proofs.Common.{◌≡◌, ◌<◌, ◌⊎◌, inl, inr, sym, ap, ◌∙◌, ℕ, Bool, true, false, ◌&&◌, not, List, [], ◌∷◌, ◌++◌, nat_lt, Option, Some, arith}
use Rattle.std.proofs.lemmas.Bool.Decides.{nat_tests}
use Rattle.std.specs.List.{list_any}
use Rattle.std.specs.Prelude.{slice_get}
use Rattle.pp_client.specs.Requests.{room_of}
use Rattle.pp_comes_law.specs.Awaited.{HasComeTo, IsAwaited}
use Rattle.pp_comes_law.specs.Clients.{ClientReadsCome}
use Rattle.pp_events_law.proofs.ReadWhole.{reads_whole}
use Rattle.pp_events_law.specs.Hears.{MayHear}
use Rattle.pp_events_law.specs.Ready.{KeysAreGiven}
use Rattle.pp_events_law.specs.Stands.{come}
use Rattle.pp_flow_law.specs.Tables.{none_leaves}
use Rattle.pp_law.specs.Connections.{is_client, is_conn}
use Rattle.pp_law.specs.After.{event, owing}
use Rattle.pp_law.specs.Asking.{has_room}
use Rattle.pp_law.specs.Served.{may_read}
use Rattle.pp_law.specs.State.{State, Client, Conn, ReadOf, Term}
use Rattle.pp_law.specs.Turn.{rest_with}
use Rattle.pp_laws.proofs.Tests.{same_number}
use Rattle.pp_laws_turn.proofs.Laws.{sound_turns}
use Rattle.pp_laws_turn.specs.SoundTurn.{IsSoundTurn}
use Rattle.pp_obeys.proofs.Happenings.{goes_can_read, obeys_by}
use Rattle.pp_proxy.specs.Moving.{Turning}
use Rattle.pp_reads_law.proofs.KeysGiven.{events_give}
use Rattle.pp_seats.specs.declared.seat.Seat.{Seat}
use Rattle.pp_state.specs.Ends.{numbers_of, place_of}
use Rattle.pp_turns_law.proofs.First.{seat_shown}
use Rattle.pp_turns_law.proofs.Wanted.{reads}
use Rattle.pp_turns_law.specs.Wants.{ShowsEnd, is_read, numbers_with}
use Rattle.pp_waits_law.proofs.Rested.{first_none, none_at}
use Rattle.pp_waits_law.proofs.Says.{its_test}
use Rattle.pp_world.specs.Log.{Log}
use Rattle.pp_world.specs.Wire.{has_number}
use Rattle.pp_world.specs.declared.event.Event.TheVariants.{Readable}
use Rattle.pp_world.specs.declared.event.Wants.{Wants}
use Rattle.pp_world.specs.declared.happening.Happening.TheVariants.{CanRead}
use Rattle.pp_comes_law.proofs.SilentOnes.{may_look}
use Rattle.pp_comes_law.proofs.Wanted.{all_of, both_true, client_number_is, either, first_true, found_in, is_that, its, no_conn, number_is, seat_goes, shown}
use Rattle.pp_comes_law.proofs.SettledOnes.{settled_so}

module _ (id i : ℕ) (terms : List Term) (log : Log) (number : ℕ → ℕ) (w : Wants) (x y : Turning) (u : State) (place : place_of id (numbers_of x.moving.desk.state.seats.items) ≡ Some i) (it : IsAwaited terms log number w x u) (came : HasComeTo log w (Readable id) x) where
  abbrev s : State
  s = rest_with w u

  -- ---- it may send more, and there is room for that

  may : may_read u id ≡ true
  may = all_of (may_read u) w.read.items id (first_true _ _ it.good.no_more).0 came.wanted

  abbrev hears : Client → Bool
  hears c = not c.has_hung_up && has_room c

  sends : hears (shown terms log number w x u it id i place).client ≡ true
  sends = by (either (list_any (λ c. is_client id c && not c.has_hung_up && has_room c) u.clients) (list_any (λ k. is_conn id k && k.is_reached) u.conns) may)
    where
      by : (list_any (λ c. is_client id c && not c.has_hung_up && has_room c) u.clients ≡ true) ⊎ (list_any (λ k. is_conn id k && k.is_reached) u.conns ≡ true) → hears (shown terms log number w x u it id i place).client ≡ true
      by (inl any) =
          let one = found_in (λ (c : Client). is_client id c && not c.has_hung_up && has_room c) u.clients any in
          let both = first_true (is_client id one.it && not one.it.has_hung_up) (has_room one.it) one.is in
          let its_own = first_true (is_client id one.it) (not one.it.has_hung_up) both.0 in
          ap hears (sym (is_that terms log number w x u it id i place one.it one.there (same_number one.it.number id its_own.0))) ∙ both_true (not one.it.has_hung_up) (has_room one.it) its_own.1 both.1
      by (inr any) =
          let one = found_in (λ (k : Conn). is_conn id k && k.is_reached) u.conns any in
          let both = first_true (is_conn id one.it) one.it.is_reached one.is in
          absurd (no_conn terms log number w x u it id i place one.it one.there (same_number one.it.number id both.0))

  ends : ShowsEnd number none_leaves x.moving.desk.peers x.moving.desk.state s
  ends = record {
    turn = it.stands.desk.turn;
    going = λ j c at. none_at (λ (d : Client). d.is_closing) s.clients j c (first_none (list_any (λ (d : Client). d.is_closing) s.clients) (list_any (λ (k : Conn). k.is_closing) s.conns) it.closed).0 at;
    follows = λ j seat here. (it.ready j seat here (goes j seat here)).follows;
  }
    where
      goes : (j : ℕ) (seat : Seat) → slice_get x.moving.desk.state.seats.items j ≡ Some seat → seat.is_closing ≡ false
      goes j seat here = let sh = seat_shown number x.moving.desk.state.name.items x.moving.desk.state.seats.items s.clients j seat it.stands.desk.turn.steps.shows.clients here in
          let same : sh.seat ≡ seat = let both : (let o : Option Seat = Some sh.seat in o ≡ Some seat) = sym sh.here ∙ here in cc both in
          ap (λ (z : Seat). z.is_closing) (sym same) ∙ sh.shows.closing
          ∙ none_at (λ (d : Client). d.is_closing) s.clients j sh.client (first_none (list_any (λ (d : Client). d.is_closing) s.clients) (list_any (λ (k : Conn). k.is_closing) s.conns) it.closed).0 sh.there

  is_read_so : is_read (its terms log number w x u it id i place).seat ≡ true
  is_read_so =
      sym (its_test is_read x.moving.desk.state.seats.items i (its terms log number w x u it id i place).seat it.stands.desk.turn.steps.order (its terms log number w x u it id i place).there)
      ∙ ap (λ (n : ℕ). has_number n (numbers_with is_read x.moving.desk.state.seats.items)) (number_is terms log number w x u it id i place ∙ sym (client_number_is terms log number w x u it id i place))
      ∙ reads number none_leaves x.moving.desk.peers x.moving.desk.state s ends i (shown terms log number w x u it id i place).client (shown terms log number w x u it id i place).there
      ∙ sends

  room : 0 < room_of (its terms log number w x u it id i place).seat.client.heard
  room = less (room_of (its terms log number w x u it id i place).seat.client.heard) (first_true _ _ is_read_so).1
    where
      less : (n : ℕ) → nat_lt 0 n ≡ true → 0 < n
      less n is = grind (arith, nat_tests, is)

  pub may_hear : MayHear id i x (its terms log number w x u it id i place).seat
  may_hear = record {
    place = place;
    here = (its terms log number w x u it id i place).there;
    going = seat_goes terms log number w x u it id i place;
    room = room;
    long = omega (arith, it.buffer);
    looks = may_look terms log number w x u it;
    still = it.still;
    linked = came.linked;
    settled = settled_so terms log number w x u it;
  }

  sound : IsSoundTurn (event (owing (ReadOf id) id s))
  sound = sound_turns terms (event (owing (ReadOf id) id s)) (log ++ CanRead id ∷ []) (obeys_by (CanRead id) it.obeys (goes_can_read s id it.stands.law.none it.stands.law.at) (λ off. absurd (cc off)))

pub client_reads_come : ClientReadsCome
client_reads_come id i terms log number w x y u place it came handles bounded straight =
    let led = reads_whole number id i x y (its terms log number w x u it id i place).seat (rest_with w u) it.stands it.ready (sound id i terms log number w x y u place it came) (may_hear id i terms log number w x y u place it came) bounded handles in
    let given : KeysAreGiven x.moving.desk.state.seats.items y.moving.desk.state.seats.items = (events_give (Readable id) (come (Readable id) x) y (omega (arith, it.buffer, it.holds)) handles).given straight in
    record { led = led.led; ready = led.ready given }
