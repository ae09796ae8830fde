-- A write where nothing is at hand: nothing is said, nothing ends, and the event is handled.
use Rattle.std.proofs.Common.{◌≡◌, ◌≤◌, ◌<◌, refl, sym, subst, ap, ◌∙◌, ℕ, Bool, true, false, ◌&&◌, find, is_some, nat_lt, List, [], Option, Some, None, length}
use Rattle.std.specs.Prelude.{count_by, slice_get, vec_capacity}
use Rattle.pp_cache.specs.Bounds.{IsBounded}
use Rattle.pp_turns_law.proofs.Sitting.{is_at, shown_at}
use Rattle.pp_turns_law.specs.Decides.{IsAtPlace}
use Rattle.pp_desk.specs.Calls.{Took, write_log}
use Rattle.pp_desk.specs.Replies.{EndsReplies}
use Rattle.pp_endings_law.proofs.Walk.{IsGood}
use Rattle.pp_events_law.proofs.Ends.{has_with}
use Rattle.pp_events_law.proofs.HandledBehind.{behind_handled}
use Rattle.pp_events_law.proofs.Left.{AreLeft, replies_left}
use Rattle.pp_events_law.proofs.Newcomer.{rising}
use Rattle.pp_events_law.proofs.ReadyBehind.{ready_behind}
use Rattle.pp_events_law.proofs.Rests.{all_rest, none_ends}
use Rattle.pp_events_law.specs.Hears.{AreSettled}
use Rattle.pp_events_law.specs.Ready.{StaysReady}
use Rattle.pp_law.specs.Closing.{is_of}
use Rattle.pp_law.specs.Connections.{is_exchange}
use Rattle.pp_law.specs.Lists.{Bytes, has_number}
use Rattle.pp_law.specs.Replies.{end_replies, regained}
use Rattle.pp_laws.proofs.Lists.{in_find}
use Rattle.pp_seats_law.specs.Seats.{ShowsSeat}
use Rattle.pp_turns_law.proofs.Looked.{awake_loud, roused as roused_loud}
use Rattle.pp_turns_law.specs.Marks.{AreLoud}
use Rattle.std.proofs.lemmas.Option.{slice_get_within}
use Rattle.pp_desk.specs.Closings.{KeepsDesk, Sides, sides}
use Rattle.pp_desk.specs.declared.desk.Desk.{Desk}
use Rattle.pp_events_law.specs.Stands.{AreReadyAt, IsHandled, StandsAtEvent}
use Rattle.pp_law.specs.After.{paid}
use Rattle.pp_law.specs.State.{State, Client, Exchange, Owed, Handling, Free}
use Rattle.pp_laws_turn.specs.SoundTurn.{IsSoundTurn}
use Rattle.pp_links.specs.Links.{has_link}
use Rattle.pp_proxy.specs.Handling.{Rouses}
use Rattle.pp_proxy.specs.Moving.{Turning}
use Rattle.pp_seats.specs.declared.seat.Seat.{Seat}
use Rattle.pp_state.specs.Ends.{numbers_of, parts}
use Rattle.pp_state.specs.Numbers.{with_number}
use Rattle.pp_state.specs.declared.state.State.{State as Turn}
use Rattle.pp_talk.specs.Talking.{Says, IsWritten, IsWrittenAt, offered, said_as}
use Rattle.pp_world.specs.Log.{AppendsAll, Log}
use Rattle.pp_store.specs.Kept.{KeptMap}

-- a desk before anybody was roused, and a turn with it
abbrev pub mid_desk : Turning → Desk → Desk
mid_desk x read = record read { state = record read.state { awake = x.moving.desk.state.awake } }

abbrev pub mid : Turning → Desk → KeptMap → Option Log → ℕ → Turning
mid x read shelf between count = record { shelf = shelf; moving = record { desk = mid_desk x read; links = x.moving.links; top = x.moving.top }; log = between; faults = count }

module _ (number : ℕ → ℕ) (i : ℕ) (x y : Turning) (read : Desk) (shelf : KeptMap) (between : Option Log) (count : ℕ) (seat : Seat) (s u : State) (stands : StandsAtEvent number Handling Free (mid x read shelf between count).moving u) (ready : AreReadyAt number (mid x read shelf between count).moving u)
    (here : slice_get read.state.seats.items i ≡ Some seat) (still : read.state.is_ticked ≡ false) (settled : AreSettled read.state.seats.items) (rouses : Rouses i (mid_desk x read) read) (looks : length x.moving.desk.state.awake.items < vec_capacity x.moving.desk.state.awake) (sound : IsSoundTurn s) (exchanges : u.exchanges ≡ s.exchanges)
    (none : offered seat.client.reply read.state.cache ≡ []) (anew : regained u ≡ u) (says : Says i read.state.awake.items x.moving.links (sides read) (sides y.moving.desk) between y.log) (rest : KeepsDesk read (record y.moving.desk { room = read.room }))
    (numbers : numbers_of y.moving.desk.state.seats.items ≡ numbers_of read.state.seats.items) (links : y.moving.links ≡ x.moving.links) (top : y.moving.top ≡ x.moving.top) (bounded : IsBounded y.moving.desk.state.cache) where
  abbrev q : Turn
  q = read.state

  wrote : IsWritten i seat x.moving.links (sides read) says.0 between y.log
  wrote = subst (λ (o : Option Seat). IsWrittenAt o i x.moving.links (sides read) says.0 between y.log) here says.1

  none_of : (b : Bool) → (b && false) ≡ false
  none_of true = refl
  none_of false = refl

  not_some : (o : Took) → is_some o ≡ false → o ≡ None
  not_some None is = refl
  not_some (Some taken) is = absurd (cc is)

  took_none : wrote.took ≡ None
  took_none =
      not_some wrote.took
      (wrote.called ∙ ap (λ (bytes : Bytes). has_link seat.client.id x.moving.links && nat_lt 0 (length bytes)) none ∙ none_of (has_link seat.client.id x.moving.links))

  next_is : says.0 ≡ sides read
  next_is = wrote.is ∙ ap (λ (o : Took). said_as o i (sides read)) took_none

  pub told_none : AppendsAll between y.log (λ l. [])
  told_none = subst (λ (o : Took). AppendsAll between y.log (write_log seat.client.id (offered seat.client.reply q.cache) o)) took_none wrote.told

  -- ---- and nothing ends

  abbrev name : Bytes
  name = (mid_desk x read).state.name.items

  closing_at : (j : ℕ) (other : Seat) (d : Client) → IsAtPlace j (parts q) u other d → other.is_closing ≡ d.is_closing
  closing_at j other d place =
      let shown : ShowsSeat number name [] other d =
      shown_at number name [] q.seats.items u.clients other.client.id j other d stands.desk.turn.steps.shows.clients (is_at j q.seats.items other stands.desk.turn.steps.order place.here) place.here place.there in
      shown.closing

  good : IsGood number name (sides read) u
  good = record {
    shows = record { steps = stands.desk.turn.steps; may = stands.desk.may };
    may = record {
      follow = λ j other d place on. (ready j other place.here (closing_at j other d place ∙ on)).follows;
      once = λ k. subst (λ (es : List Exchange). count_by (is_of k) es ≤ 1) (sym exchanges) (sound.once k);
      rests = λ k e there none. sound.rests e (in_find (is_exchange k) e s.exchanges (sym (ap (λ (es : List Exchange). find (is_exchange k) es) exchanges) ∙ there)).0 none;
    };
    ends = λ j other d place on over. absurd (let both : true ≡ false = sym over ∙ (settled j other place.here).said (closing_at j other d place ∙ on) in cc both);
  }

  awake_is : read.state.awake.items ≡ with_number i x.moving.desk.state.awake.items
  awake_is = rouses.awake (rising x.moving.desk.state.awake.items 0 (length (mid_desk x read).state.seats.items) stands.awake.order) looks

  its_awake : has_number i read.state.awake.items ≡ true
  its_awake = ap (λ (ns : List ℕ). has_number i ns) awake_is ∙ has_with i x.moving.desk.state.awake.items

  is_loud : AreLoud read.state
  is_loud = roused_loud (mid_desk x read).state read.state i (awake_loud (mid_desk x read).state stands.awake) (slice_get_within q.seats.items i seat here) awake_is refl

  ended : IsHandled number y.moving (paid (end_replies u))
  ended =
      behind_handled number i (mid x read shelf between count) y Free u stands still read rouses is_loud its_awake (sides read) u good refl refl (λ j off. refl) refl
      (subst (λ (z : Sides). EndsReplies read.state.awake.items z (sides y.moving.desk)) next_is says.2) numbers rest links top bounded

  none_more : end_replies u ≡ u
  none_more = none_ends u (λ k d there. all_rest number name q.seats.items u.clients stands.desk.turn.steps.shows.clients settled k d there)

  paid_same : paid u ≡ u
  unfolding paid
  paid_same = ap (λ (o : Owed). regained (record u { owed = o })) (sym stands.law.owes) ∙ anew

  pub handled_so : IsHandled number y.moving u
  handled_so = subst (λ (v : State). IsHandled number y.moving v) (ap paid none_more ∙ paid_same) ended

  -- whoever goes on is as before
  left : AreLeft (parts q) (parts y.moving.desk.state)
  left = replies_left read.state.awake.items (sides read) (sides y.moving.desk) (subst (λ (z : Sides). EndsReplies read.state.awake.items z (sides y.moving.desk)) next_is says.2)

  pub ready_so : StaysReady number (mid x read shelf between count) y u
  ready_so = ready_behind number (mid x read shelf between count) y u u refl left handled_so.follows ready
