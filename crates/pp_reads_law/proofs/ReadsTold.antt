-- What exchanges of clients joined is told behind each piece of a read, and behind the step by which it ends.
use Rattle.std.proofs.Common.{◌≡◌, ◌⊎◌, ◌≤◌, inl, inr, refl, sym, subst, ap, ◌∙◌, ℕ, find, List, [], Option, Some, None, arith}
use Rattle.pp_desk.specs.Closings.{Sides}
use Rattle.pp_framing.specs.Body.{Outcome, Done, Going, Bad as NoBody}
use Rattle.pp_framing.specs.Rules.{body_of}
use Rattle.pp_framing.specs.declared.body.BodyRule.{BodyRule}
use Rattle.pp_head.specs.Response.{Response}
use Rattle.pp_law.specs.Lists.{Bytes}
use Rattle.pp_law.specs.Responses.{Piece, answer_with, body_piece, end_if_empty, finish, head_came, head_piece}
use Rattle.pp_law.specs.State.{State, Answer, Conn, Exchange}
use Rattle.pp_laws_replies.proofs.Quiet.{facts_of, quiet_same}
use Rattle.pp_laws_replies.proofs.QuietHeads.{next_piece-quiet}
use Rattle.pp_origins.specs.Gots.{Both, IsStepOn, Makes, Remains, TakesStep, going_on, remaining, sides_of}
use Rattle.pp_origins.specs.Responses.{response_whole}
use Rattle.pp_peers.specs.Peers.{is_number}
use Rattle.pp_peers.specs.declared.peers.Peer.{Peer}
use Rattle.pp_pipe.specs.declared.step.Step.{Step}
use Rattle.pp_pipe.specs.declared.step.Step.TheVariants.{End, Bad, Idle}
use Rattle.pp_state.specs.Ends.{parts}
use Rattle.pp_state.specs.declared.state.State.{State as Turn}
use Rattle.pp_states_law.proofs.Told.{conn_next}
use Rattle.pp_store.specs.Kept.{KeptMap}
use Rattle.pp_turns_law.specs.Sides.{MayClose, ShowsSides}
use Rattle.pp_reads_law.proofs.EndsThere.{ends_there}
use Rattle.pp_reads_law.proofs.HeadsTold.{refused_told}
use Rattle.pp_reads_law.proofs.NextEnded.{finish_next}
use Rattle.pp_reads_law.proofs.PieceEnds.{IsOver, is_over}
use Rattle.pp_reads_law.proofs.QuietSteps.{steps_tell}
use Rattle.pp_reads_law.specs.Bads.{piped}
use Rattle.pp_reads_law.specs.Data.{MayGo}
use Rattle.pp_reads_law.specs.Empties.{MayEnd}
use Rattle.pp_reads_law.specs.Heads.{HeadIsDue, HeadIsTaken, begun_by}
use Rattle.pp_reads_law.specs.Interims.{IsClearedTo}
use Rattle.pp_reads_law.specs.Pieces.{IsAmidBody, IsWithinBody, PieceIsOver, data_in}
use Rattle.pp_reads_law.specs.Stops.{IsShut, StaysUnread}
use Rattle.pp_reads_law.specs.Told.{IsNoHead, IsToldAt, StaysTold}

-- ---- where the turn stays

pub still_told : (number : ℕ → ℕ) (p q : Turn) (s t : State) → q ≡ p → s.next_instance ≤ t.next_instance → StaysTold number (parts p) s number (parts q) t
still_told number p q s t same grows i told =
    subst (λ (r : Turn). IsToldAt i number (parts r) t) (sym same)
    (λ seat id plain at is. let one = told seat id plain at is in record { given = one.given; made = omega (arith, one.made, grows); apart = one.apart })

as_many : (a b : ℕ) → b ≡ a → a ≤ b
as_many a b same = omega (arith, same)

-- interim heads are dropped before it
pub cleared_told : (number : ℕ → ℕ) (p q : Turn) (s t : State) (n : ℕ) (k before : Conn) → q ≡ p → IsClearedTo s n k before t → StaysTold number (parts p) s number (parts q) t
cleared_told number p q s t n k before same (inl is) = still_told number p q s t same (as_many s.next_instance t.next_instance (ap (λ (u : State). u.next_instance) is.1))
cleared_told number p q s t n k before same (inr is) =
    still_told number p q s t same (as_many s.next_instance t.next_instance (ap (λ (u : State). u.next_instance) is.1 ∙ conn_next n _ s))

-- ---- a piece of a body

piece_grows : (k : Conn) (a : Answer) (bytes : Bytes) (s : State) → k.answer ≡ Some a → s.next_instance ≤ (body_piece k a bytes s).state.next_instance
piece_grows k a bytes s has =
    subst (λ (o : Option Answer). let p : Piece = elim o as (λ p. Piece) [ Some c ↦ body_piece k c bytes s | None ↦ head_piece k bytes s ] in s.next_instance ≤ p.state.next_instance) has
    (facts_of (next_piece-quiet k bytes s (quiet_same s))).next

pub piece_told : (number : ℕ → ℕ) (name : Bytes) (shelf : KeptMap) (x z next : Both) (s : State) (n : ℕ) (k : Conn) (a : Answer) (peer : Peer) (e : Exchange) (bytes : Bytes) (here : Remains) (behind : Option Remains) → ShowsSides number name (sides_of x) s → IsWithinBody x s n k a peer e → MayGo x.state s e (data_in a bytes)
    → IsAmidBody x z n peer a bytes here → IsStepOn (going_on (find (is_number n) z.peers)) shelf n here z next behind → PieceIsOver number name next s k a bytes behind → StaysTold number (parts x.state) s number (parts next.state) (body_piece k a bytes s).state
piece_told number name shelf x z next s n k a peer e bytes here behind shows it may amid on piece = by (is_over number name x s n k a peer e bytes shows it shelf z next here behind may amid piece.leaves on)
  where
    t : State
    t = (body_piece k a bytes s).state

    stepped : (step : Step) (came : Bytes) (peers : List Peer) → IsNoHead step → TakesStep step shelf n came (record x { peers = peers }) next → StaysTold number (parts x.state) s number (parts next.state) t
    stepped step came peers none takes = steps_tell number step shelf n came (record x { peers = peers }) next s t none takes shows.steps.shows.table.table piece.shows.steps.shows.table.table (piece_grows k a bytes s it.on.answer)

    by : IsOver x next s n k a e bytes → StaysTold number (parts x.state) s number (parts next.state) t
    by (inl goes) = stepped Idle goes.came next.peers tt (goes.has.delivers, refl)
    by (inr (inl ends)) = stepped End ends.came ends.peers tt (record { between = ends.between; delivers = ends.has.delivers; makes = ends.makes })
    by (inr (inr bad)) = stepped Bad bad.came bad.peers tt (record { between = bad.between; delivers = bad.has.delivers; makes = bad.makes })

-- ---- a head that is taken

empty_next : (k : Conn) (e : Exchange) (a : Answer) (s : State) → (end_if_empty k e a s).next_instance ≡ s.next_instance
unfolding end_if_empty
empty_next k e a s = by (body_of a.rule []).outcome
  where
    by : (o : Outcome) → (elim o as (λ u. State) [ Done rest ↦ finish k e a s | Going ↦ s | NoBody ↦ s ]).next_instance ≡ s.next_instance
    by (Done rest) = finish_next k e a s
    by Going = refl
    by NoBody = refl

module _ (before : ℕ → ℕ) (x y : Both) (s : State) (n : ℕ) (k : Conn) (e : Exchange) (head : Response) (rule : BodyRule) (it : HeadIsTaken before x y s n k e head rule) where
  grows : (begun_by k e head rule s).next_instance ≤ (head_came k head s).next_instance
  grows = as_many (begun_by k e head rule s).next_instance (head_came k head s).next_instance (ap (λ (u : State). u.next_instance) it.law ∙ empty_next k e (answer_with e head rule) (begun_by k e head rule s))

  -- its body goes on
  pub taken_told : StaysTold before (parts x.state) s it.number (parts y.state) (head_came k head s)
  taken_told i told = still_told it.number y.state y.state (begun_by k e head rule s) (head_came k head s) refl grows i (it.told i told)

  -- or is empty
  pub empty_told : (shelf : KeptMap) (peer : Peer) (closes : MayClose s) (due : HeadIsDue x s n k e peer) (may : MayEnd s k e head rule) (next : Both) (over rest : Bytes) (behind : Option Remains) → (body_of rule []).outcome ≡ Done over → IsStepOn (going_on (find (is_number n) y.peers)) shelf n (remaining rest []) y next behind
      → ShowsSides it.number s.settings.name (sides_of next) (head_came k head s) → StaysTold before (parts x.state) s it.number (parts next.state) (head_came k head s)
  empty_told shelf peer closes due may next over rest behind empty on shown i told = by (ends_there before shelf x y s n k e peer head rule closes due it may next over rest behind empty on).1
    where
      by : (fed : List Peer) × Makes (response_whole n) (record y { peers = fed }) next → IsToldAt i it.number (parts next.state) (head_came k head s)
      by (fed, makes) =
          steps_tell it.number End shelf n [] (record y { peers = fed }) next (begun_by k e head rule s) (head_came k head s) tt (record { between = y.state; delivers = refl; makes = makes }) it.shows.shows.table.table shown.steps.shows.table.table grows i (it.told i told)

-- ---- the step by which it ends

pub stop_told : (number : ℕ → ℕ) (name : Bytes) (x y : Both) (s t : State) (n : ℕ) (k : Conn) → ShowsSides number name (sides_of x) s → ShowsSides number name (sides_of y) t → s.next_instance ≤ t.next_instance → StaysUnread x s n y t ⊎ IsShut x s n k y t → StaysTold number (parts x.state) s number (parts y.state) t
stop_told number name x y s t n k shows shown grows (inl stays) = still_told number x.state y.state s t stays.same grows
stop_told number name x y s t n k shows shown grows (inr shut) =
    refused_told number x.state (parts y.state) s t n (piped n shut.line (sides_of x)).peers shows.steps.shows.table.table shown.steps.shows.table.table (ap (λ (z : Sides). z.parts) shut.makes.is) grows
