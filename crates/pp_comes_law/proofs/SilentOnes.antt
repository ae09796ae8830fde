-- Stop, a tick, an origin that was reached, and a client that comes, each as it was waited for.
use Rattle.std.proofs.Common.{◌≡◌, ◌≤◌, ◌<◌, ◌⊎◌, inl, inr, refl, sym, ap, ◌∙◌, ℕ, ◌+◌, Bool, true, false, List, [], ◌∷◌, append-nil, length, nat_lt, Option, Some, None, arith}
use Rattle.std.proofs.lemmas.List.{length-map}
use Rattle.std.specs.Prelude.{IsTrue, vec_capacity}
use Rattle.pp_cache.specs.Bounds.{IsBounded}
use Rattle.pp_comes_law.specs.Awaited.{HasComeTo, IsAwaited, IsHandledBehind}
use Rattle.pp_comes_law.specs.Silent.{ClientsCome, ReachedOnesCome, StopsCome, TicksCome}
use Rattle.pp_desk.specs.declared.desk.Desk.{Desk}
use Rattle.pp_events_law.proofs.Accepts.{accepts as accepts_lead}
use Rattle.pp_events_law.proofs.Reaches.{reaches}
use Rattle.pp_events_law.proofs.Stops.{stops}
use Rattle.pp_events_law.proofs.Ticks.{ticks}
use Rattle.pp_events_law.specs.Silent.{HasRoom, IsSilentlyHandled, stopped}
use Rattle.pp_events_law.specs.Stands.{AreReadyAt, come}
use Rattle.pp_flow_law.specs.Tables.{AreGiven}
use Rattle.pp_law.specs.After.{event, opened, reached}
use Rattle.pp_law.specs.Served.{accepts}
use Rattle.pp_law.specs.State.{State, Term}
use Rattle.pp_law.specs.Turn.{rest_with, rested_client, tick}
use Rattle.pp_laws_sides.proofs.Linked.{origins_there}
use Rattle.pp_laws_turn.proofs.Laws.{sound_turns}
use Rattle.pp_proxy.specs.Accepting.{IsSeated, IsTurnedAway, newcomer}
use Rattle.pp_proxy.specs.Handling.{Handles, IsSilent}
use Rattle.pp_proxy.specs.Moving.{Turning}
use Rattle.pp_turns_law.proofs.Wanted.{same_length}
use Rattle.pp_world.specs.Connections.{is_origin, side_of}
use Rattle.pp_world.specs.Log.{AppendsAll, Log}
use Rattle.pp_world.specs.Wire.{event_happening}
use Rattle.pp_world.specs.declared.event.Side.{Side}
use Rattle.pp_world.specs.declared.event.Side.TheVariants.{Client as OfClient, Origin}
use Rattle.pp_world.specs.declared.event.Event.{Event}
use Rattle.pp_world.specs.declared.event.Event.TheVariants.{Accepted, Reached as NowReached, Stop, Tick}
use Rattle.pp_world.specs.declared.event.Wants.{Wants}

-- ---- of lists

given_few : (low next : ℕ) (ns : List ℕ) → AreGiven low next ns → low + length ns ≤ next
given_few low next [] given = omega (arith, given)
given_few low next (n ∷ ns) given = let rest : (n + 1) + length ns ≤ next = given_few (n + 1) next ns given.1 in omega (arith, rest, given.0)

-- ---- nothing is added

silent_told : (x y : Turning) → y.log ≡ x.log → AppendsAll x.log y.log (λ l. [])
silent_told x y told = record { was = λ l is. (l, sym told ∙ is, sym (append-nil l)) }

silently : (number : ℕ → ℕ) (event : Event) (x y : Turning) (s t : State) → IsSilent (come event x) y → IsSilentlyHandled number (event_happening event) y s t × AreReadyAt number y.moving t → IsHandledBehind number event x y s
silently number event x y s t silent led = record { led = record { log = []; then = t; told = silent_told x y silent.told; leads = led.0.leads; handled = led.0.handled }; ready = led.1 }

-- ---- there is room to look at all

module _ (terms : List Term) (log : Log) (number : ℕ → ℕ) (w : Wants) (x : Turning) (u : State) (it : IsAwaited terms log number w x u) where
  clients_long : length x.moving.desk.state.seats.items ≡ length (rest_with w u).clients
  clients_long = same_length number x.moving.desk.state.name.items x.moving.desk.state.seats.items (rest_with w u).clients it.stands.desk.turn.steps.shows.clients

  pub has_room : HasRoom x.moving.desk.state
  has_room = let few : length (rest_with w u).clients ≤ 256 = (sound_turns terms (rest_with w u) log it.obeys).bounded.clients in omega (arith, clients_long, few, it.looks)

  awake_few : length x.moving.desk.state.awake.items ≤ length x.moving.desk.state.seats.items
  awake_few =
      let few : 0 + length x.moving.desk.state.awake.items ≤ length x.moving.desk.state.seats.items = given_few 0 (length x.moving.desk.state.seats.items) x.moving.desk.state.awake.items it.stands.awake.order in
      omega (arith, few)

  -- each that is looked at is one of them, and there is room for one more
  pub may_look : length x.moving.desk.state.awake.items < vec_capacity x.moving.desk.state.awake
  may_look = let few : length (rest_with w u).clients ≤ 256 = (sound_turns terms (rest_with w u) log it.obeys).bounded.clients in omega (arith, clients_long, few, it.looks, awake_few)

-- ---- Stop, and a tick

-- as `pp_events_law` has each: the log has nothing behind it, and each client that goes on can be decided
abbrev Silently : Event → ((w : Wants) → State → State) → Type 0
Silently event then = (terms : List Term) (log : Log) (number : ℕ → ℕ) (w : Wants) (x y : Turning) (u : State) → IsAwaited terms log number w x u → HasComeTo log w event x → Handles event (come event x) y → IsBounded y.moving.desk.state.cache → y.moving.desk.state.is_astray ≡ false
    → IsSilentlyHandled number (event_happening event) y (rest_with w u) (then w u) × AreReadyAt number y.moving (then w u)

pub stops_silently : Silently Stop (λ w u. event (stopped (rest_with w u)))
stops_silently terms log number w x y u it came handles bounded straight = stops number x y (rest_with w u) it.stands it.ready (has_room terms log number w x u it) handles

pub stops_come : StopsCome
stops_come terms log number w x y u it came handles bounded straight = silently number Stop x y (rest_with w u) _ handles.1 (stops_silently terms log number w x y u it came handles bounded straight)

pub ticks_silently : (seconds : ℕ) → Silently (Tick seconds) (λ w u. event (tick seconds (rest_with w u)))
ticks_silently seconds terms log number w x y u it came handles bounded straight = ticks terms log number seconds x y (rest_with w u) it.obeys it.stands it.ready (has_room terms log number w x u it) bounded handles

pub ticks_come : TicksCome
ticks_come seconds terms log number w x y u it came handles bounded straight = silently number (Tick seconds) x y (rest_with w u) _ handles.1 (ticks_silently seconds terms log number w x y u it came handles bounded straight)

-- ---- an origin

is_dialled_there : (o : Option Side) → IsTrue (is_origin o) → o ≡ Some Origin
is_dialled_there None is = absurd (cc is)
is_dialled_there (Some OfClient) is = absurd (cc is)
is_dialled_there (Some Origin) is = refl

pub reached_silently : (k : ℕ) → Silently (NowReached k) (λ w u. event (reached k (rest_with w u)))
reached_silently k terms log number w x y u it came handles bounded straight =
    reaches number k x y (rest_with w u) it.stands it.ready (origins_there terms (rest_with w u) log it.obeys k (is_dialled_there (side_of k log) came.dialled)) handles

pub reached_come : ReachedOnesCome
reached_come k terms log number w x y u it came handles bounded straight = silently number (NowReached k) x y (rest_with w u) _ handles.1 (reached_silently k terms log number w x y u it came handles bounded straight)

-- ---- a client

accepts_rested : (w : Wants) (u : State) → accepts (rest_with w u) ≡ accepts u
unfolding rest_with
accepts_rested w u = ap (λ (n : ℕ). nat_lt n 256) (length-map u.clients (rested_client u))

is_so : (b : Bool) → IsTrue b → b ≡ true
is_so true is = refl
is_so false is = absurd (cc is)

-- there was memory for it
pub is_seated : (c : ℕ) (x y : Turning) → Handles (Accepted c) (come (Accepted c) x) y → y.moving.desk.state.is_astray ≡ false → IsSeated (newcomer c x.moving.desk) x.moving.desk y.moving.desk
is_seated c x y handles straight = by handles.0
  where
    by : IsSeated (newcomer c x.moving.desk) x.moving.desk y.moving.desk ⊎ IsTurnedAway c x.moving.desk y.moving.desk → IsSeated (newcomer c x.moving.desk) x.moving.desk y.moving.desk
    by (inl seated) = seated
    by (inr away) = absurd (let both : true ≡ false = sym (ap (λ (d : Desk). d.state.is_astray) away.rest) ∙ straight in cc both)

pub clients_silently : (c : ℕ) → Silently (Accepted c) (λ w u. event (opened c (rest_with w u)))
clients_silently c terms log number w x y u it came handles bounded straight =
    accepts_lead number c x y (rest_with w u) it.stands it.ready (record {
      wanted = accepts_rested w u ∙ sym it.good.accept ∙ is_so w.accept came.wanted;
      number = came.numbered;
      room = may_look terms log number w x u it;
      still = it.still;
    }) (is_seated c x y handles straight) handles.1

pub clients_come : ClientsCome
clients_come c terms log number w x y u it came handles bounded straight = silently number (Accepted c) x y (rest_with w u) _ handles.1 (clients_silently c terms log number w x y u it came handles bounded straight)
