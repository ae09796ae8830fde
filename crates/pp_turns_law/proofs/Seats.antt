-- A reply begins where it may: the seat shows what the law makes of its client.
use Rattle.std.proofs.Common.{◌≡◌, refl, sym, subst, ap, ◌∙◌, ℕ, Bool, true, false, ◌&&◌, not, [], List, Option}
use Rattle.std.specs.Prelude.{option_and_then, slice_get}
use Rattle.pp_client.specs.Replies.{Reply as Said}
use Rattle.pp_turns_law.proofs.Changed.{get_set}
use Rattle.pp_turns_law.proofs.Sitting.{follows_none}
use Rattle.pp_flow_law.specs.Tables.{Leaving}
use Rattle.pp_law.specs.Lists.{Bytes, is_some_with, is_this}
use Rattle.pp_law.specs.Replies.{begins, begun_decided, begun_instance, begun_passed}
use Rattle.pp_law.specs.Stages.{is_passing}
use Rattle.pp_law.specs.State.{State, Client, Reply, Stage, Undecided, Waiting, Passing, Answering}
use Rattle.pp_peers.specs.declared.peers.Peer.{Peer}
use Rattle.pp_seats.specs.Follows.{answer_in}
use Rattle.pp_seats.specs.declared.seat.Answer.{Answer}
use Rattle.pp_seats.specs.declared.seat.Seat.{Seat}
use Rattle.pp_seats.specs.declared.seat.Stage.{Stage as SeatStage}
use Rattle.pp_seats.specs.declared.seat.Stage.TheVariants.{Undecided as IsUndecided, Waiting as IsWaiting, Passing as IsPassing, Answering as IsAnswering}
use Rattle.pp_seats_law.proofs.Nexts.{reply_in}
use Rattle.pp_seats_law.specs.Replies.{ShowsAnswer, ShowsStage}
use Rattle.pp_seats_law.specs.Seats.{ShowsOpen}
use Rattle.pp_steps.specs.Begins.{BeginsAnswer, BeginsBy, BeginsDecided, BeginsOf, BeginsPassed, BeginsReply}
use Rattle.pp_state.specs.declared.state.State.{State as Turn}
use Rattle.pp_world.specs.declared.note.Decision.{Decision}
use Rattle.pp_world.specs.declared.note.Decision.TheVariants.{Refuse, Hit, Part, Head, NotModified, Unsatisfiable, Relay, Validate, Fetch, Pass}
use Rattle.pp_turns_law.specs.Begins.{IsReadyAt, SeatsBeginAsTheLaws}
use Rattle.pp_turns_law.proofs.Turned.{AmidTurn, Turned, and_no, by_stage, closed_is, law_by, not_begun, quiet, same_turn}
use Rattle.pp_turns_law.proofs.KeptReplies.{from_source}
use Rattle.pp_turns_law.proofs.Passed.{passes}

module _ (number : ℕ → ℕ) (l : Leaving) (peers : List Peer) (i : ℕ) (p q : Turn) (s : State) (seat : Seat) (c : Client) (shows : AmidTurn number l peers p s) (ready : IsReadyAt number i p s seat c) (going : c.is_closing ≡ false) where
  abbrev name : Bytes
  name = p.name.items

  abbrev said : Said
  said = seat.client.reply

  live : ShowsOpen number name [] seat c
  live = ready.shows.going going

  -- ---- by what was decided

  passes_answer : (a : Answer) (reply : Reply) → seat.stage ≡ IsAnswering a → c.stage ≡ Answering reply → ShowsAnswer number said a reply → a.has_begun ≡ false → (d : Decision) → a.decision ≡ d → is_passing d ≡ true → BeginsPassed i d p q → Turned number i p q s seat c
  passes_answer a reply stage stage_law seen unbegun d its is begins =
      passes number l peers i p q s seat c shows ready going d is (not_begun number said a reply c stage_law seen unbegun)
      (λ r front. law_by number said a reply s c r stage_law seen unbegun
      ∙ ap (λ (b : Bool). elim b as (λ t. Client) [ true ↦ begun_passed s r reply.decision c | false ↦ begun_instance s r reply c ]) (ap is_passing (sym seen.decision ∙ its) ∙ is)
      ∙ ap (λ (e : Decision). begun_passed s r e c) (sym seen.decision ∙ its))
      (λ k. ap (λ (b : Bool). not c.is_closing && b) (follows_none number k said seat.stage c.stage live.stage (ap (λ (t : SeatStage). option_and_then (λ (x : Answer). x.source) (answer_in t)) stage ∙ ((ready.may going).decided a stage unbegun).passes (ap is_passing its ∙ is))) ∙ and_no (not c.is_closing))
      begins

  by_decision : (a : Answer) (reply : Reply) → seat.stage ≡ IsAnswering a → c.stage ≡ Answering reply → ShowsAnswer number said a reply → a.has_begun ≡ false → (d : Decision) → a.decision ≡ d → BeginsDecided i a d p q → Turned number i p q s seat c
  by_decision a reply stage stage_law seen unbegun Pass its begins = passes_answer a reply stage stage_law seen unbegun Pass its refl begins
  by_decision a reply stage stage_law seen unbegun Relay its begins = passes_answer a reply stage stage_law seen unbegun Relay its refl begins
  by_decision a reply stage stage_law seen unbegun (Refuse status) its begins = from_source number l peers i p q s seat c shows ready going a reply stage stage_law seen unbegun (ap is_passing its) a.source refl begins
  by_decision a reply stage stage_law seen unbegun (Hit from to) its begins = from_source number l peers i p q s seat c shows ready going a reply stage stage_law seen unbegun (ap is_passing its) a.source refl begins
  by_decision a reply stage stage_law seen unbegun (Part from to) its begins = from_source number l peers i p q s seat c shows ready going a reply stage stage_law seen unbegun (ap is_passing its) a.source refl begins
  by_decision a reply stage stage_law seen unbegun Head its begins = from_source number l peers i p q s seat c shows ready going a reply stage stage_law seen unbegun (ap is_passing its) a.source refl begins
  by_decision a reply stage stage_law seen unbegun NotModified its begins = from_source number l peers i p q s seat c shows ready going a reply stage stage_law seen unbegun (ap is_passing its) a.source refl begins
  by_decision a reply stage stage_law seen unbegun Unsatisfiable its begins = from_source number l peers i p q s seat c shows ready going a reply stage stage_law seen unbegun (ap is_passing its) a.source refl begins
  by_decision a reply stage stage_law seen unbegun Validate its begins = from_source number l peers i p q s seat c shows ready going a reply stage stage_law seen unbegun (ap is_passing its) a.source refl begins
  by_decision a reply stage stage_law seen unbegun Fetch its begins = from_source number l peers i p q s seat c shows ready going a reply stage stage_law seen unbegun (ap is_passing its) a.source refl begins

  -- ---- by its stage

  answering : (a : Answer) (reply : Reply) (b : Bool) → seat.stage ≡ IsAnswering a → c.stage ≡ Answering reply → ShowsAnswer number said a reply → a.has_begun ≡ b → BeginsAnswer i a b p q → Turned number i p q s seat c
  answering a reply true stage law seen has same =
      same_turn number i p q s seat c ready same (quiet s c going (λ r front. ap (λ (t : Stage). by_stage s r c t) law ∙ ap (λ (b : Bool). elim b as (λ t. Client) [ true ↦ c | false ↦ begun_decided s r reply c ]) (sym seen.begun ∙ has)))
  answering a reply false stage law seen has begins = by_decision a reply stage law seen has a.decision refl begins

  staged : (t : SeatStage) (u : Stage) → seat.stage ≡ t → c.stage ≡ u → ShowsStage number said t u → BeginsBy i false t p q → Turned number i p q s seat c
  staged IsUndecided Undecided is so seen same = same_turn number i p q s seat c ready same (quiet s c going (λ r front. ap (λ (t : Stage). by_stage s r c t) so))
  staged IsWaiting Waiting is so seen same = same_turn number i p q s seat c ready same (quiet s c going (λ r front. ap (λ (t : Stage). by_stage s r c t) so))
  staged IsPassing Passing is so seen begins =
      passes number l peers i p q s seat c shows ready going Pass refl (ap (λ (t : Stage). is_some_with (λ (r : Reply). r.has_begun) (reply_in t)) so) (λ r front. ap (λ (t : Stage). by_stage s r c t) so)
      (λ k. ap (λ (t : Stage). not c.is_closing && is_some_with (λ (x : Reply). is_this k x.source) (reply_in t)) so ∙ and_no (not c.is_closing)) begins
  staged (IsAnswering a) (Answering reply) is so seen begins = answering a reply a.has_begun is so seen refl begins
  staged t u is so seen begins = absurd seen

pub turns : (number : ℕ → ℕ) (l : Leaving) (peers : List Peer) (i : ℕ) (p q : Turn) (s : State) (seat : Seat) (c : Client) → AmidTurn number l peers p s → IsReadyAt number i p s seat c → BeginsReply i p q → Turned number i p q s seat c
turns number l peers i p q s seat c shows ready begins = by seat.is_closing refl (subst (λ (o : Option Seat). BeginsOf i o p q) ready.here begins)
  where
    by : (b : Bool) → seat.is_closing ≡ b → BeginsBy i b seat.stage p q → Turned number i p q s seat c
    by true closing same = same_turn number i p q s seat c ready same (closed_is s c (sym ready.shows.closing ∙ closing))
    by false stays begins =
        let going : c.is_closing ≡ false = sym ready.shows.closing ∙ stays in
        staged number l peers i p q s seat c shows ready going seat.stage c.stage refl refl (ready.shows.going going).stage begins

pub begins_at : SeatsBeginAsTheLaws
begins_at number l peers i p q s seat c shows ready begins =
    let one : Turned number i p q s seat c = turns number l peers i p q s seat c (record { steps = shows.steps; name = shows.name; clock = shows.clock }) ready begins in
    record { seat = one.new; here = ap (λ (seats : List Seat). slice_get seats i) one.seats ∙ get_set i p.seats.items seat one.new ready.here; shows = one.shows }
