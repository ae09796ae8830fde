-- What the shelf promises of the disk holds on over calls of the connections.
use Rattle.std.proofs.Common.{◌≡◌, ℕ, Bool, true, false, ◌&&◌, [], ◌∷◌, ◌++◌, Option, refl, sym, subst}
use Rattle.std.specs.List.{list_all}
use Rattle.pp_world.specs.declared.event.Event.{Event}
use Rattle.pp_world.specs.declared.event.Event.TheVariants.{Stop, Tick, Accepted, Readable, Writable, Reached, Broken}
use Rattle.pp_world.specs.declared.event.Wants.{Wants}
use Rattle.pp_world.specs.declared.happening.Happening.{Happening}
use Rattle.pp_world.specs.declared.happening.Happening.TheVariants.{Woke, Began, Did, Shut, Unread}
use Rattle.pp_world.specs.Log.{Log, AppendsAll, Told}
use Rattle.pp_world.specs.Wire.{wait_happenings}
use Rattle.pp_links.specs.Quiet.{GrowsQuietly, is_quiet}
use Rattle.pp_store.specs.Held.{Holds}
use Rattle.pp_store.specs.Kept.{KeptMap}
use Rattle.pp_store.specs.Lasting.{AreApart, IsApart}
use Rattle.pp_store.proofs.Backing.{outlast-others}
use Rattle.pp_desk.specs.Anything.{anything}

first_true : (a b : Bool) → (a && b) ≡ true → a ≡ true
first_true true b is = refl
first_true false b is = is

second_true : (a b : Bool) → (a && b) ≡ true → b ≡ true
second_true true b is = is
second_true false b is = absurd (let bad : false ≡ true = is in cc)

apart : (h : Happening) → is_quiet h ≡ true → IsApart h
apart (Woke image) is = absurd (let bad : false ≡ true = is in cc)
apart (Began op) is = absurd (let bad : false ≡ true = is in cc)
apart (Did op ok) is = absurd (let bad : false ≡ true = is in cc)
apart (Unread name) is = absurd (let bad : false ≡ true = is in cc)
apart h is = tt

all_apart : (hs : Log) → list_all is_quiet hs ≡ true → AreApart hs
all_apart [] all = tt
all_apart (h ∷ hs) all = (apart h (first_true (is_quiet h) (list_all is_quiet hs) all), all_apart hs (second_true (is_quiet h) (list_all is_quiet hs) all))

pub holds_quietly : {old new : Option Log} (store : KeptMap) → GrowsQuietly old new → Told old (Holds anything store) → Told new (Holds anything store)
holds_quietly store grows known = record {
  at = λ l is.
      let w = grows.was l is in
      subst (Holds anything store) (sym w.2.1) ((outlast-others w.2.0 (all_apart w.2.0 w.2.2) anything store w.0).0 (known.at w.0 w.1));
}

wait_apart : (wants : Wants) (event : Event) → AreApart (wait_happenings wants event)
wait_apart wants Stop = (tt, (tt, tt))
wait_apart wants (Tick seconds) = (tt, (tt, tt))
wait_apart wants (Accepted c) = (tt, (tt, tt))
wait_apart wants (Readable id) = (tt, (tt, tt))
wait_apart wants (Writable id) = (tt, (tt, tt))
wait_apart wants (Reached k) = (tt, (tt, tt))
wait_apart wants (Broken k) = (tt, (tt, tt))

-- and over a wait
pub holds_over_wait : {old new : Option Log} (wants : Wants) (event : Event) (store : KeptMap) → AppendsAll old new (λ l. wait_happenings wants event) → Told old (Holds anything store) → Told new (Holds anything store)
holds_over_wait wants event store call known = record {
  at = λ l is.
      let w = call.was l is in
      subst (Holds anything store) (sym w.2) ((outlast-others _ (wait_apart wants event) anything store w.0).0 (known.at w.0 w.1));
}

-- and where the client that was accepted is turned away
pub holds_turned_away : {old new : Option Log} (wants : Wants) (c : ℕ) (store : KeptMap) → AppendsAll old new (λ l. wait_happenings wants (Accepted c) ++ Shut c ∷ []) → Told old (Holds anything store) → Told new (Holds anything store)
holds_turned_away wants c store call known = record {
  at = λ l is.
      let w = call.was l is in
      subst (Holds anything store) (sym w.2) ((outlast-others _ (tt, (tt, (tt, tt))) anything store w.0).0 (known.at w.0 w.1));
}
