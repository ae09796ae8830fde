-- One life worked out: a client asks in two pieces, an origin is dialled and answers, the client is shut.
use Rattle.std.proofs.Common.{◌≡◌, [], ◌∷◌, ◌++◌, true, false, Some, refl}
use Rattle.pp_world.specs.declared.happening.Happening.TheVariants.{Woke, Waits, Clock, Opened, CanRead, Heard, Dialled, Asked, Got, Said, Shut}
use Rattle.pp_world.specs.declared.event.Side.TheVariants.{Client}
use Rattle.pp_world.specs.declared.event.Wants.{Wants}
use Rattle.pp_world.specs.Log.{Log}
use Rattle.pp_world.specs.Connections.{side_of, is_open, is_dialled, top_of}
use Rattle.pp_world.specs.Life.{life_of, turn_of, turns_of, now_of}
use Rattle.pp_world.specs.Streams.{heard, said, asked, got}

module _ (wants : Wants) where
  abbrev before : Log
  before = Woke [] ∷ Waits wants ∷ Clock 900 ∷ Waits wants ∷ Opened 1 ∷ []

  abbrev life : Log
  life = Woke [] ∷ Waits wants ∷ Opened 2 ∷ Waits wants ∷ CanRead 2 ∷ Heard 2 (71 ∷ 69 ∷ []) ∷ Waits wants ∷ Clock 500 ∷ Waits wants ∷ Clock 400 ∷ []

  abbrev turn : Log
  turn = Waits wants ∷ CanRead 2 ∷ Heard 2 (84 ∷ []) ∷ Dialled 3 (104 ∷ []) 80 ∷ Asked 3 (71 ∷ 69 ∷ 84 ∷ []) ∷ Got 3 (79 ∷ 75 ∷ []) ∷ Said 2 2 (79 ∷ []) ∷ Shut 2 ∷ []

  abbrev whole : Log
  whole = before ++ (life ++ turn)

  streams : (heard 2 whole ≡ 71 ∷ 69 ∷ 84 ∷ []) × (said 2 whole ≡ 79 ∷ []) × (asked 3 whole ≡ 71 ∷ 69 ∷ 84 ∷ []) × (got 3 whole ≡ 79 ∷ 75 ∷ []) × (heard 3 whole ≡ [])
  unfolding heard said asked got
  streams = (refl, refl, refl, refl, refl)

  connections : (side_of 2 (before ++ life) ≡ Some Client) × (is_open 2 whole ≡ false) × (is_open 1 whole ≡ false) × (is_dialled 3 whole ≡ true) × (is_dialled 2 (before ++ life) ≡ false) × (top_of whole ≡ 3)
  unfolding side_of top_of
  connections = (refl, refl, refl, refl, refl, refl)

  life_and_turn : (life_of whole ≡ life ++ turn) × (turn_of whole ≡ turn) × (turns_of whole ≡ 5) × (now_of whole ≡ 500) × (now_of before ≡ 900)
  unfolding life_of turn_of turns_of now_of
  life_and_turn = (refl, refl, refl, refl, refl)
