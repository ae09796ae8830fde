-- The connection of an origin breaks, as it may at any wait.
use Rattle.std.proofs.Common.{◌≡◌, refl, sym, ◌∙◌, ℕ, false, List, [], append-nil, Option, Some, None}
use Rattle.std.specs.Prelude.{IsTrue}
use Rattle.pp_cache.specs.Bounds.{IsBounded}
use Rattle.pp_comes_law.proofs.OriginThere.{answers_first, goes_on, is_there, keys_given}
use Rattle.pp_comes_law.proofs.SettledOnes.{settled_so}
use Rattle.pp_comes_law.specs.Awaited.{HasComeTo, IsAwaited}
use Rattle.pp_comes_law.specs.Origins.{BrokenOnesCome}
use Rattle.pp_events_law.proofs.Breaks.{breaks}
use Rattle.pp_events_law.specs.Breaks.{MayBreak}
use Rattle.pp_events_law.specs.Ready.{StaysReady}
use Rattle.pp_events_law.specs.Silent.{IsSilentlyHandled}
use Rattle.pp_events_law.specs.Stands.{AreReadyAt, come}
use Rattle.pp_law.specs.After.{event, gone, paid}
use Rattle.pp_law.specs.Connections.{conn, is_conn}
use Rattle.pp_law.specs.State.{State, Conn, Term}
use Rattle.pp_law.specs.Turn.{rest_with}
use Rattle.pp_laws.proofs.Lists.{in_find}
use Rattle.pp_laws_sides.proofs.Linked.{origins_there}
use Rattle.pp_proxy.specs.Handling.{Handles}
use Rattle.pp_proxy.specs.Moving.{Turning}
use Rattle.pp_world.specs.Connections.{is_origin, side_of}
use Rattle.pp_world.specs.Log.{AppendsAll, Log}
use Rattle.pp_world.specs.declared.event.Event.TheVariants.{Broken}
use Rattle.pp_world.specs.declared.event.Side.{Side}
use Rattle.pp_world.specs.declared.event.Wants.{Wants}
use Rattle.pp_world.specs.declared.happening.Happening.TheVariants.{Broke}
use Rattle.pp_world.specs.declared.event.Side.TheVariants.{Client as OfClient, Origin}

is_dialled_there : (o : Option Side) → IsTrue (is_origin o) → o ≡ Some Origin
is_dialled_there None is = absurd (cc is)
is_dialled_there (Some OfClient) is = absurd (cc is)
is_dialled_there (Some Origin) is = refl

silent_told : (x y : Turning) → y.log ≡ x.log → AppendsAll x.log y.log (λ l. [])
silent_told x y told = record { was = λ l is. (l, sym told ∙ is, sym (append-nil l)) }

-- as `pp_events_law` has it, and each client that goes on can be decided
pub broken_silently : (k : ℕ) (terms : List Term) (log : Log) (number : ℕ → ℕ) (w : Wants) (x y : Turning) (u : State) → IsAwaited terms log number w x u → HasComeTo log w (Broken k) x → Handles (Broken k) (come (Broken k) x) y → IsBounded y.moving.desk.state.cache → y.moving.desk.state.is_astray ≡ false
    → IsSilentlyHandled number (Broke k) y (rest_with w u) (paid (gone false k (event (rest_with w u)))) × AreReadyAt number y.moving (paid (gone false k (event (rest_with w u))))
broken_silently k terms log number w x y u it came handles bounded straight = (led.0, led.1 (keys_given terms log number w x y u (Broken k) it handles straight))
  where
    s : State
    s = rest_with w u

    there : (j : Conn) × (conn s k ≡ Some j)
    there = is_there (conn s k) (origins_there terms s log it.obeys k (is_dialled_there (side_of k log) came.dialled))

    may : MayBreak k x s there.0
    may = let i = (in_find (is_conn k) there.0 s.conns there.1).0 in record { there = there.1; going = goes_on terms log number w x u it there.0 i; answers = λ a is. answers_first terms log number w x u it there.0 a i is; settled = settled_so terms log number w x u it }

    led : IsSilentlyHandled number (Broke k) y s (paid (gone false k (event s))) × StaysReady number x y (paid (gone false k (event s)))
    led = breaks terms log number k x y s there.0 it.obeys it.stands it.ready may bounded handles

pub broken_come : BrokenOnesCome
broken_come k terms log number w x y u it came handles bounded straight =
    let led = broken_silently k terms log number w x y u it came handles bounded straight in
    record { led = record { log = []; then = paid (gone false k (event (rest_with w u))); told = silent_told x y handles.1.told; leads = led.0.leads; handled = led.0.handled }; ready = led.1 }
