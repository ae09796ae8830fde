-- What a turn shows amid decisions, and where none is due (RFC 2616, section 8.1; the order is ours).
use Rattle.std.specs.Prelude.{◌≡◌, ℕ, true, ◌||◌, List, None}
use Rattle.pp_cache_law.specs.Kept.{AreAsKept}
use Rattle.pp_flow_law.specs.Tables.{none_leaves}
use Rattle.pp_law.specs.Due.{first_due}
use Rattle.pp_law.specs.Opening.{is_at}
use Rattle.pp_law.specs.State.{State, Deciding, DecidingAgain}
use Rattle.pp_laws_turn.specs.SoundTurn.{IsSoundTurn}
use Rattle.pp_peers.specs.declared.peers.Peer.{Peer}
use Rattle.pp_state.specs.declared.state.State.{State as Turn}
use Rattle.pp_store.specs.Kept.{KeptMap}
use Rattle.pp_turns_law.specs.Firsts.{AreAwake, FirstDueInMemory}
use Rattle.pp_turns_law.specs.Rows.{AllAreKept, AreReady}
use Rattle.pp_turns_law.specs.Turns.{ShowsTurn}

-- decisions and cuts are next, before the places of exchanges or behind them, and no row left memory for one: so the phase before, the
-- places and each decision leave it
pub record IsDeciding (s : State) : Type 0 where
  pub at : (is_at Deciding s || is_at DecidingAgain s) ≡ true
  pub none : s.made_room_for ≡ None

-- the turn shows it, with what is kept on the disk, in the fields that are kept; each client that goes on can be decided; and who is not
-- looked at is asleep. All of it is carried from step to step, in a life that does not go astray: `disk` is what ShowsShelf and AreNoted give
-- where no entry has a closed name, and `kept` is so from the opening on (Supplied of `pp_turn_law` has all of it)
pub record StandsToDecide (number : ℕ → ℕ) (peers : List Peer) (shelf : KeptMap) (p : Turn) (s : State) : Type 0 where
  pub deciding : IsDeciding s
  pub turn : ShowsTurn number none_leaves peers p s
  pub disk : AllAreKept shelf p.cache s
  pub ready : AreReady number p.cache s.next_instance p.seats.items
  pub kept : AreAsKept shelf
  pub awake : AreAwake p

-- by some numbers
pub record StandsBehind (peers : List Peer) (shelf : KeptMap) (p : Turn) (s : State) : Type 0 where
  pub number : ℕ → ℕ
  pub stands : StandsToDecide number peers shelf p s

-- ---- nothing is found

-- nothing is due by the law, and it stands as before
pub record NoneIsNext (peers : List Peer) (shelf : KeptMap) (q : Turn) (s : State) : Type 0 where
  pub behind : StandsBehind peers shelf q s
  pub none : first_due s ≡ None

-- where memory is refused for no row
abbrev pub NoneIsTheLaws : Type 0
NoneIsTheLaws = (number : ℕ → ℕ) (peers : List Peer) (shelf : KeptMap) (p q : Turn) (s : State) → StandsToDecide number peers shelf p s → IsSoundTurn s → FirstDueInMemory shelf p.awake.items p q None → NoneIsNext peers shelf q s
