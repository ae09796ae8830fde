-- What holds of a turn from one wait to the next, but for its decisions and rounds (ours): in these forms.
--
-- Each is of the program alone. Where the premises come from: room for the data of all that one read may bring is there from the opening on
-- (`HasBuffers` of pp_desk), and asks without a place stand in the order of their beginnings where the turn shows the law's state.
use Rattle.std.specs.Prelude.{◌≡◌, ◌≤◌, ℕ, Bool, false, length, List, Some, Ok}
use Rattle.pp_desk.specs.declared.desk.Desk.{Desk}
use Rattle.pp_flow.specs.Changes.{numbers as flow_numbers}
use Rattle.pp_framing.specs.Framing.{rule_of}
use Rattle.pp_framing.specs.declared.body.BodyRule.{BodyRule}
use Rattle.pp_head.specs.Response.{Response}
use Rattle.pp_origins.specs.Gots.{IsFedTo, head_on}
use Rattle.pp_peers.specs.declared.peers.Peer.{Peer}
use Rattle.pp_pipe.specs.declared.step.Step.{Step}
use Rattle.pp_pipe.specs.declared.step.Step.TheVariants.{Head}
use Rattle.pp_proxy.specs.Awaiting.{Awaits, Rests}
use Rattle.pp_proxy.specs.Events.{Keeps}
use Rattle.pp_proxy.specs.Handling.{Handles}
use Rattle.pp_proxy.specs.Leaving.{Leaves}
use Rattle.pp_proxy.specs.Moving.{Moving, Turning}
use Rattle.pp_reads_law.specs.Keys.{HasRoomForData}
use Rattle.pp_reply.specs.Texts.{passed_head}
use Rattle.pp_state.specs.Ends.{AreInOrder}
use Rattle.pp_state.specs.declared.state.State.{State as Turn}
use Rattle.pp_world.specs.declared.event.Event.{Event}
use Rattle.pp_world.specs.declared.event.Wants.{Wants}
use Rattle.pp_world.specs.Log.{Log}

abbrev pub StaysOverWaits : (Turn → Type 0) → Type 0
StaysOverWaits I = (before : List ℕ) (wants : Wants) (clients : ℕ) (old awaiting rested : Desk) → Awaits before wants clients old awaiting → Rests wants clients awaiting rested → I old.state → I rested.state

-- what leaves memory, and what is kept on the disk
pub record StaysBehindEvents (I : Turn → Type 0) : Type 0 where
  pub leaves : (x y : Moving) (log : Log) → AreInOrder (flow_numbers x.desk.state.flow.waiting) → Leaves x log y → I x.desk.state → I y.desk.state
  pub keeps : (x y : Turning) → Keeps x y → I x.moving.desk.state → I y.moving.desk.state

-- where the life did not go astray by it
abbrev pub StaysInEvents : (Turn → Type 0) → Type 0
StaysInEvents I = (event : Event) (x y : Turning) → HasRoomForData x → Handles event x y → y.moving.desk.state.is_astray ≡ false → I x.moving.desk.state → I y.moving.desk.state

-- ---- heads that are read

-- written anew under this name a head has room, with its body delimited so, whoever asked
abbrev pub HasRoomAs : List ℕ → Response → BodyRule → Type 0
HasRoomAs name head rule = (minor : ℕ) (is_head keep : Bool) → length (passed_head head rule minor is_head name keep) ≤ 20480

-- each that a connection reads has, with its body delimited as it says
abbrev pub HeadsHaveRoom : List ℕ → Type 0
HeadsHaveRoom name = (k : ℕ) (peer : Peer) (bytes : List ℕ) (told : ℕ × Step) (old new : List Peer) (head : Response) → IsFedTo k peer bytes told old new → told.1 ≡ Head → head_on k new ≡ Some head
    → (asks_head : Bool) (rule : BodyRule) → rule_of asks_head head.status head.fields ≡ Ok rule → HasRoomAs name head rule
