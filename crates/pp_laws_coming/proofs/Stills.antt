-- The phase stays while clients, connections, exchanges and rows change.
use Rattle.std.proofs.Common.{◌≡◌, refl, ℕ, Bool, true, false, ◌==◌, ◌||◌, List, [], ◌∷◌, Option, Some, None, ap}
use Rattle.pp_law.specs.After.{gone, said}
use Rattle.pp_law.specs.Asking.{ask, asking, hang_up, hear, is_reading, is_writing}
use Rattle.pp_law.specs.Closing.{close_client, exchanges_of, leave_one, left_alone}
use Rattle.pp_law.specs.Connections.{client, conn, each_exchange, end_exchange, exchange, lose_attempt, on_client, on_exchange, placing}
use Rattle.pp_law.specs.Deciding.{decided}
use Rattle.pp_law.specs.Followers.{fill}
use Rattle.pp_law.specs.Lists.{Bytes}
use Rattle.pp_law.specs.Phases.{is_free}
use Rattle.pp_law.specs.Replies.{end_replies, said_by}
use Rattle.pp_law.specs.Responses.{got}
use Rattle.pp_law.specs.State.{State, Client, Exchange, Owed, Free, Phase, ReadOf, WriteTo}
use Rattle.pp_obeys.proofs.Frames.{Frame, frame, frame_of, stays}
use Rattle.pp_obeys.proofs.StaysAsks.{decided-stays, fill-stays}
use Rattle.pp_obeys.proofs.StaysResponses.{got-stays}
use Rattle.pp_obeys.proofs.StaysTurns.{placing-frame}
use Rattle.pp_obeys.proofs.StaysTable.{close_client-stays, end_exchange-stays, lose_attempt-stays}
use Rattle.pp_world.specs.declared.note.Decision.{Decision}
use Rattle.pp_laws_turn.proofs.Cases.{each_of}
use Rattle.pp_laws_turn.proofs.Clients.{HasPlace, ask-keeps, end_replies-keeps, hang_up-keeps, hear-keeps, use_said-keeps}
use Rattle.pp_laws_turn.proofs.Exchanges.{on_client-keeps}
use Rattle.pp_laws_turn.proofs.Kept.{Turn}
use Rattle.pp_laws_turn.proofs.Pieces.{ended-keeps}
use Rattle.pp_laws_turn.proofs.Same.{said_by-same}
use Rattle.pp_laws_turn.proofs.View.{Holds, View, Walk, facts_of, holds, is_late}

abbrev phase_in : Frame → Phase
phase_in o = o.phase

abbrev pub IsAtPhase : Phase → View → Type 0
IsAtPhase p v = v.phase ≡ p

left_still : (p : Phase) (ns : List ℕ) (s : State) → s.phase ≡ p → (each_exchange leave_one ns s).phase ≡ p
unfolding each_exchange leave_one end_exchange on_exchange
left_still p [] s h = h
left_still p (n ∷ ns) s h = left_still p ns _ (by (exchange s n))
  where
    one : (e : Exchange) (t : Bool) → (elim t as (λ c. State) [ true ↦ end_exchange e.number s | false ↦ on_exchange e.number left_alone s ]).phase ≡ p
    one e true = h
    one e false = h

    by : (d : Option Exchange) → (elim d as (λ c. State) [ None ↦ s | Some e ↦ leave_one e s ]).phase ≡ p
    by None = h
    by (Some e) = one e (e.asked == 0)

phase_walk : (p : Phase) → Walk (IsAtPhase p)
unfolding on_client
phase_walk p = record {
  clients = λ f same_one v h. h;
  asks = λ f v same_one h. h;
  left = λ test v h. h;
  over = λ test v h. h;
  conns = λ f lesser v h. h;
  rows = λ xs next v from h. h;
  leaves = λ n f moves v h. h;
  closes = λ n f number closing body brought s h. left_still p (exchanges_of n s) (on_client n f s) h;
  tells = λ test b v there h. h;
}

-- ---- reads and writes

pub hear-phase : (c : ℕ) (bytes : Bytes) (s : State) → (hear c bytes s).phase ≡ s.phase
hear-phase c bytes s = facts_of (hear-keeps (phase_walk s.phase) c bytes s (holds refl))

pub hang_up-phase : (c : ℕ) (s : State) → (hang_up c s).phase ≡ s.phase
hang_up-phase c s = facts_of (hang_up-keeps (phase_walk s.phase) c s (holds refl))

said-by : (c n : ℕ) (s : State) → Holds (IsAtPhase s.phase) (said c n s)
unfolding said
said-by c n s = each_of (client s c) (holds refl) (λ x. end_replies-keeps (phase_walk s.phase) _ (on_client-keeps (phase_walk s.phase) c (said_by n) _ (said_by-same n) (use_said-keeps n x s (holds refl))))

pub said-phase : (c n : ℕ) (s : State) → (said c n s).phase ≡ s.phase
said-phase c n s = facts_of (said-by c n s)

gone-by : (is_clean : Bool) (n : ℕ) (s : State) → Holds (IsAtPhase s.phase) (gone is_clean n s)
unfolding gone
gone-by is_clean n s = each_of (conn s n) (holds refl) (λ k. end_replies-keeps (phase_walk s.phase) _ (ended-keeps (phase_walk s.phase) is_clean k s (holds refl)))

pub gone-phase : (is_clean : Bool) (n : ℕ) (s : State) → (gone is_clean n s).phase ≡ s.phase
gone-phase is_clean n s = facts_of (gone-by is_clean n s)

pub ask-phase : (k n : ℕ) (s : State) → ((e : Exchange) → asking s k ≡ Some e → HasPlace e.number s.exchanges) → (ask k n s).phase ≡ s.phase
ask-phase k n s placed = facts_of (ask-keeps (phase_walk s.phase) k n s placed (holds refl))

pub got-phase : (most n : ℕ) (bytes : Bytes) (s : State) → (end_replies (got most n bytes s)).phase ≡ s.phase
got-phase most n bytes s =
    let came : (got most n bytes s).phase ≡ s.phase = ap phase_in (frame_of (got-stays {o = frame false s} most n bytes s (stays refl))) in
    facts_of (end_replies-keeps (phase_walk s.phase) (got most n bytes s) (holds came))

-- ---- decisions, closings and asks

pub decided-phase : (c : Client) (d : Decision) (s : State) → (decided c d s).phase ≡ s.phase
decided-phase c d s = ap phase_in (frame_of (decided-stays {all = false} {o = frame false s} c d s (stays refl)))

pub close_client-phase : (n : ℕ) (is_cut : Bool) (s : State) → (close_client n is_cut s).phase ≡ s.phase
close_client-phase n is_cut s = ap phase_in (frame_of (close_client-stays {all = false} {o = frame false s} n is_cut s (stays refl)))

pub lose_attempt-phase : (e : Exchange) (s : State) → (lose_attempt e s).phase ≡ s.phase
lose_attempt-phase e s = ap phase_in (frame_of (lose_attempt-stays {all = false} {o = frame false s} e s (stays refl)))

pub filled-phase : (n : ℕ) (s : State) → (fill (end_exchange n s)).phase ≡ s.phase
filled-phase n s = ap phase_in (frame_of (fill-stays {all = false} {o = frame false s} _ (end_exchange-stays n s (stays refl))))

pub placing_phase : (s : State) → (placing s).state.phase ≡ s.phase
placing_phase s = ap phase_in (placing-frame false s)

-- ---- what is owed is owed early

pub owed_early : (s : State) (n : ℕ) → Holds Turn s → (is_reading s.owed n || is_writing s.owed n) ≡ true → is_late s.phase ≡ false
owed_early s n turn is = ap is_late ((facts_of turn).owes (by s.owed is))
  where
    by : (o : Owed) → (is_reading o n || is_writing o n) ≡ true → is_free o ≡ false
    by Free at = absurd (cc at)
    by (ReadOf m) at = refl
    by (WriteTo m) at = refl
