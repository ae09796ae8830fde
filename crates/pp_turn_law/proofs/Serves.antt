-- From the first decision of a turn, or from an event that is handled, to where the turn may wait again.
use Rattle.std.proofs.Common.{◌≡◌, ◌≤◌, sym, ◌∙◌, ℕ, ◌+◌, false, length, List, ◌++◌, arith}
use Rattle.std.specs.Prelude.{count_by}
use Rattle.pp_given_law.proofs.NamesFew.{few_have_room}
use Rattle.pp_given_law.proofs.NamesFirst.{few_at_first}
use Rattle.pp_given_law.specs.MayNote.{NamesAreFew, most_names}
use Rattle.pp_grown_law.proofs.Noted.{nothing_is_noted}
use Rattle.pp_joints_law.specs.Keeping.{HasBeenKept, kept_in}
use Rattle.pp_law.specs.State.{State, Term}
use Rattle.pp_obeys.specs.Failures.{fails}
use Rattle.pp_obeys.specs.Obeys.{Obeys}
use Rattle.pp_proxy.specs.Events.{Keeps}
use Rattle.pp_proxy.specs.Moving.{Turning}
use Rattle.pp_rounds_law.proofs.Astray.{well_before}
use Rattle.pp_rounds_law.proofs.Settled.{settles_stay}
use Rattle.pp_state.specs.Ends.{parts}
use Rattle.pp_state.specs.declared.state.State.{State as Turn}
use Rattle.pp_stays_law.specs.Names.{is_unnoted}
use Rattle.pp_store.specs.Kept.{KeptMap}
use Rattle.pp_world.specs.Log.{Log}
use Rattle.pp_turn_law.specs.Kept.{HasGoneToDecide}
use Rattle.pp_turn_law.specs.Served.{DecidingOnesServe, HandledOnesServe, ServesOn, StandsToServe}
use Rattle.pp_turn_law.specs.Supplied.{StandsGiven, StandsServing}
use Rattle.pp_turn_law.proofs.Kept.{go_to_decide}
use Rattle.pp_turn_law.proofs.ServedOn.{served_on}
use Rattle.pp_turn_law.proofs.Supplied.{ends_named_so, rounds_named_so}

gives_it : (shelf : KeptMap) (p : Turn) (t : State) → StandsServing shelf p t → StandsGiven p t
gives_it shelf p t holds = record { given = holds.supplied.stays.given; texts = holds.supplied.stays.texts; counted = holds.supplied.stays.counted; name = holds.supplied.name }

below_most : (a b most : ℕ) → a + b ≤ most → a ≤ most
below_most a b most le = omega (arith, le)

few_of : (shelf : KeptMap) (p : Turn) (t : State) → StandsServing shelf p t → length p.cache.outdated ≤ most_names
few_of shelf p t holds = below_most (length p.cache.outdated) (count_by (is_unnoted p.cache.outdated) holds.names.names) most_names holds.names.few

pub deciding_serve : DecidingOnesServe
deciding_serve life budget log after number x y s st supplied does told few brief =
    served_on (StandsServing x.shelf) (gives_it x.shelf) (few_of x.shelf) (length after) life budget log after number x y s (rounds_named_so (life.terms budget) (length after) brief x.shelf) (ends_named_so (life.terms budget) (length after) brief x.shelf) st supplied does told few (omega arith)

pub fewer : (a b c d e : ℕ) → a + b ≤ c → c ≤ d + e → a ≤ d + e
fewer a b c d e counted few = omega (arith, counted, few)

-- ---- behind the disk no name is noted, so that few are

pub serving_there : (terms : List Term) (log : Log) (number : ℕ → ℕ) (x y : Turning) (s : State) → Obeys terms s log → HasBeenKept number y s → s.is_stopped ≡ false → Keeps x y → y.moving.desk.state.is_astray ≡ false → StandsGiven y.moving.desk.state s → StandsServing y.shelf y.moving.desk.state s
serving_there terms log number x y s obeys kept going keeps straight holds = record {
  supplied = record {
    stays = record {
      given = holds.given;
      texts = holds.texts;
      counted = holds.counted;
      disk = record { shows = kept.carried.disk.shows; noted = kept.carried.disk.noted; names = kept.carried.disk.names; room = few_have_room most_names (parts y.moving.desk.state) (omega arith) few };
    };
    name = holds.name;
  };
  names = few;
}
  where
    few : NamesAreFew most_names (parts y.moving.desk.state)
    few =
        few_at_first terms log number y.moving.desk.peers y.moving.desk.state s obeys kept.at going kept.turn kept.ready
        (nothing_is_noted (length x.moving.desk.file.items) (kept_in x) (kept_in y) keeps.is straight).outdated

pub straight_before : (k y : Turning) → ServesOn k y → k.moving.desk.state.is_astray ≡ false
straight_before k y does = well_before k.moving.desk.state.is_astray y.moving.desk.state.is_astray (settles_stay k.shelf k.moving y.moving does.settles.added does.settles.is) does.straight

pub handled_serve : HandledOnesServe
handled_serve life budget log after number x k y s st keeps does going told few brief =
    let before = does.settles.told.was after told in
    let counted : k.faults + count_by fails does.settles.added ≤ y.faults = does.settles.counted.at after told in
    let gone : HasGoneToDecide life budget log x k s = go_to_decide life budget log before.0 number x k s st keeps before.1 (fewer k.faults (count_by fails does.settles.added) y.faults budget life.base counted few) in
    let serves : StandsToServe life budget (log ++ gone.goes.added) gone.number k gone.then = record { obeys = gone.goes.comes.obeys; allows = gone.goes.allows; told = gone.goes.told; kept = gone.kept; going = sym gone.kept.turn.stopped ∙ gone.stopped ∙ going } in
    let supplied : StandsServing k.shelf k.moving.desk.state gone.then = serving_there (life.terms budget) (log ++ gone.goes.added) gone.number keeps.left k gone.then gone.goes.comes.obeys gone.kept serves.going keeps.keeps (straight_before k y does) gone.supplied in
    record { kept = k; gone = gone; served = deciding_serve life budget (log ++ gone.goes.added) after gone.number k y gone.then serves supplied does told few brief }
