-- How what a turn places, with the connections that are open, stands for the state of the law (RFC 2616, sections 8.1 and 8.1.2.2).
use Rattle.std.specs.Prelude.{◌≡◌, ◌≤◌, ◌+◌, ℕ, false, List, [], ◌∷◌, length, Some, ⊤}
use Rattle.std.specs.List.{All}
use Rattle.pp_cache.specs.Bounds.{IsBounded}
use Rattle.pp_turns_law.specs.Log.{AreLinked, IsConnecting}
use Rattle.pp_desk.specs.Closings.{Sides, peer_numbers}
use Rattle.pp_flow.specs.declared.entry.Entry.{Entry}
use Rattle.pp_flow_law.specs.Tables.{none_leaves}
use Rattle.pp_law.specs.Connections.{conn, limits}
use Rattle.pp_law.specs.Phases.{has_closings}
use Rattle.pp_law.specs.State.{State, Conn}
use Rattle.pp_places.specs.Around.{Around}
use Rattle.pp_state.specs.declared.state.State.{State as Turn}
use Rattle.pp_states_law.specs.Decisions.{AreApart}
use Rattle.pp_states_law.specs.Steps.{ShowsSteps}
use Rattle.pp_target.specs.Key.{IsPlaceIn}

-- ---- what can be asked

-- its host stands in the text of its key, and its text has room in a pipe with seven others
pub record IsAskable (x : Entry) : Type 0 where
  -- as in each key (`Key` of `pp_seats`), by which it begins (Deciding.`errand_by` of `pp_take`)
  pub place : IsPlaceIn x.key.items x.errand.place
  -- as each text of an entry (`Entry` of `pp_flow`)
  pub short : length x.text.items ≤ 16384

abbrev pub AreAskable : List Entry → Type 0
AreAskable [] = ⊤
AreAskable (x ∷ xs) = IsAskable x × AreAskable xs

-- ---- how it stands for the law

-- the turn shows the law's state with these clients, exchanges and connections (Turns.`ShowsTurn` of `pp_turns_law`)
pub record ShowsTurnWith (number : ℕ → ℕ) (p : Turn) (x : Sides) (s : State) : Type 0 where
  pub steps : ShowsSteps number p.name.items none_leaves x.peers x.parts s
  pub name : p.name.items ≡ s.settings.name
  pub shares : p.shares_fetches ≡ s.settings.shares_fetches
  pub clock : p.now ≡ s.clock
  pub ticked : p.is_ticked ≡ s.is_ticked
  pub stopped : p.is_stopped ≡ s.is_stopped
  pub bounded : IsBounded x.parts.cache

-- the turn shows the law's state, and places by its settings; each exchange can be asked. The connections to origins are open, and at most
-- 256 others are; none has a number above the greatest that was given, of which the law knows
pub record ShowsAround (number : ℕ → ℕ) (p : Turn) (x : Around) (s : State) : Type 0 where
  -- as each step of the turn leaves it
  pub turn : ShowsTurnWith number p x.sides s
  -- from the opening on (Opening.`IsSet` of `pp_desk`)
  pub limits : p.limits ≡ limits s
  pub waiting : AreAskable x.sides.parts.flow.waiting
  pub placed : AreAskable x.sides.parts.flow.placed
  -- each connection that is there is open, and no other: from one opening, dial and closing to the next
  pub linked : AreLinked (peer_numbers x.sides.peers) x.links
  -- Links.`IsLinked` of `pp_links`
  pub given : All (λ link. link.0 ≤ x.top) x.links
  -- there are at most 256 clients (SoundTurn.`IsSoundTurn` of `pp_laws_turn`, `bounded`)
  pub few : length x.links ≤ 256 + length x.sides.peers
  -- from one number that is given to the next (Wire.`IsNewNumber` of `pp_world`)
  pub top : s.top ≤ x.top

-- connections are closed, and nobody is left to be; all is not to be. No two connections have one number, nor one that was not given
pub record MayPlace (s : State) : Type 0 where
  -- the phase that is come to, behind the last decision
  pub connecting : IsConnecting s
  -- before Stop
  pub going : s.is_stopped ≡ false
  -- behind all closings (Closings.`ClosingsAreTheLaws`)
  pub closed : has_closings s ≡ false
  -- SoundTurn.`IsSoundTurn` of `pp_laws_turn`, `apart` and `numbers`
  pub apart : AreApart s
  pub given : (n : ℕ) (k : Conn) → conn s n ≡ Some k → n ≤ s.top
