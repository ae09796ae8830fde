-- A turn goes round, and ends.
use Rattle.std.proofs.Common.{◌≡◌, ◌≤◌, refl, sym, subst, ap, ◌∙◌, ℕ, ◌+◌, true, false, List, ◌++◌, length}
use Rattle.std.specs.List.{All}
use Rattle.std.specs.Prelude.{vec_capacity}
use Rattle.pp_cache.specs.Bounds.{IsBounded}
use Rattle.pp_turns_law.specs.Log.{AreLinked}
use Rattle.pp_conf.specs.Conf.{Settings}
use Rattle.pp_deciding_law.specs.Stands.{StandsToDecide}
use Rattle.pp_desk.specs.Closings.{peer_numbers}
use Rattle.pp_desk.specs.declared.desk.Desk.{Desk}
use Rattle.pp_law.specs.Phases.{ending}
use Rattle.pp_law.specs.State.{State, Term}
use Rattle.pp_links.specs.Links.{Link}
use Rattle.pp_obeys.proofs.Frames.{Frame}
use Rattle.pp_obeys.proofs.StaysTurns.{ending-frame}
use Rattle.pp_peers.specs.declared.peers.Peer.{Peer}
use Rattle.pp_peers.specs.declared.placing.Limits.{Limits}
use Rattle.pp_places_law.specs.Closings.{AreOpen}
use Rattle.pp_proxy.specs.Moving.{Moving}
use Rattle.pp_proxy.specs.Rounds.{Serves}
use Rattle.pp_rounds_law.specs.Rounds.{EndsRound, HasGoneRound}
use Rattle.pp_rounds_law.specs.Stands.{StandsAmid}
use Rattle.pp_rounds_law.specs.Supplies.{RoundSupplies}
use Rattle.pp_rounds_law.specs.Decisions.{Passes}
use Rattle.pp_rounds_law.proofs.Begun.{Begun, CanBeAsked, all_begun}
use Rattle.pp_rounds_law.proofs.Ended.{ends}
use Rattle.pp_rounds_law.specs.Ends.{HasEnded}
use Rattle.pp_state.specs.Ends.{numbers_of}
use Rattle.pp_state.specs.declared.state.State.{State as Turn}
use Rattle.pp_store.specs.Kept.{KeptMap}
use Rattle.pp_world.specs.Log.{Log}
use Rattle.pp_rounds_law.proofs.Astray.{loops_stay}
use Rattle.pp_rounds_law.proofs.Loops.{loops_lead}
use Rattle.pp_rounds_law.specs.Astray.{IsAstray}
use Rattle.pp_rounds_law.specs.Loops.{MayGoRound}
use Rattle.pp_rounds_law.specs.Serves.{EndSupplies, HasServedWith, ServesLead, StaysSet}
use Rattle.pp_rounds_law.specs.Coming.{IsBrief}

module _ (terms : List Term) (most : ℕ) (before : Log) (shelf : KeptMap) (I : Turn → State → Type 0) (x y : Moving) (log : Log) (s : State) (supplies : EndSupplies terms most shelf I) (may : MayGoRound terms before shelf I x log s) (brief : IsBrief most (before ++ log)) (serves : Serves shelf x log y) (bounded : IsBounded y.desk.state.cache)
    (round : EndsRound terms before shelf I serves.between log false s) where
  abbrev gone : HasGoneRound terms before shelf I serves.between log false s
  gone = round.gone

  abbrev mid : Moving
  mid = serves.between

  amid : StandsAmid gone.stands.number shelf mid gone.then
  amid = gone.stands.amid

  to_decide : StandsToDecide gone.stands.number mid.desk.peers shelf mid.desk.state gone.then
  to_decide = record { deciding = gone.stands.deciding; turn = amid.turn; disk = gone.stands.disk; ready = amid.ready; kept = amid.kept; awake = amid.awake }

  ended : HasEnded gone.stands.number shelf y.desk gone.then
  ended =
      ends terms gone.stands.number (before ++ log) shelf mid.desk y.desk gone.then gone.comes.obeys
      (record { stands = to_decide; at = gone.phase; done = gone.none; closed = round.closed refl; begins = supplies.begins (before ++ log) gone.stands.number mid.desk gone.then gone.comes.obeys brief to_decide gone.holds })
      serves.begins bounded

  begun : Begun mid.desk.state.awake.items mid.desk.state y.desk.state
  begun = all_begun mid.desk.state.awake.items mid.desk.state y.desk.state serves.begins.is

  same_peers : y.desk.peers ≡ mid.desk.peers
  same_peers = ap (λ (d : Desk). d.peers) serves.begins.rest

  same_set : (ending gone.then).settings ≡ gone.then.settings
  same_set = ap (λ (f : Frame). f.settings) (ending-frame false gone.then)

  asked : CanBeAsked y.desk.state.flow
  asked = begun.asked (amid.waiting, amid.placed)

  set : StaysSet y (ending gone.then)
  set = record {
    limits = ap (λ (t : Turn). t.limits) begun.rest ∙ amid.limits ∙ ap (λ (c : Settings). let l : Limits = record { host_connections = c.host_connections; pipelines_asks = c.pipelines_asks } in l) (sym same_set);
    waiting = asked.0;
    placed = asked.1;
    linked = subst (λ (ps : List Peer). AreLinked (peer_numbers ps) y.links) (sym same_peers) (subst (λ (ls : List Link). AreLinked (peer_numbers mid.desk.peers) ls) (sym serves.links) amid.linked);
    seated = subst (λ (ns : List ℕ). AreOpen ns y.links) (sym serves.begins.numbers) (subst (λ (ls : List Link). AreOpen (numbers_of mid.desk.state.seats.items) ls) (sym serves.links) amid.seated);
    given = subst (λ (n : ℕ). All (λ link. link.0 ≤ n) y.links) (sym serves.top) (subst (λ (ls : List Link). All (λ link. link.0 ≤ mid.top) ls) (sym serves.links) amid.given);
    few = subst (λ (ps : List Peer). length y.links ≤ 256 + length ps) (sym same_peers) (subst (λ (ls : List Link). length ls ≤ 256 + length mid.desk.peers) (sym serves.links) amid.few);
    top = subst (λ (n : ℕ). (ending gone.then).top ≤ n) (sym serves.top) (subst (λ (n : ℕ). n ≤ mid.top) (sym ended.top) amid.top);
    room = subst (λ (n : ℕ). 256 ≤ n) (sym (ap (λ (t : Turn). vec_capacity t.awake) begun.rest)) amid.room;
    away = ap (λ (d : Desk). d.turned_away) serves.begins.rest ∙ amid.away;
    going = ap (λ (f : Frame). f.is_stopped) (ending-frame false gone.then) ∙ amid.going;
  }

  served : HasServedWith terms before shelf I y log s
  served = record {
    served = record { then = gone.then; comes = gone.comes; number = gone.stands.number; ended = ended; set = set };
    last = mid.desk;
    stands = to_decide;
    at = gone.phase;
    holds = gone.holds;
    begins = serves.begins;
  }

-- ---- whether this life went astray is as it was before replies begin

begun_as_before : (shelf : KeptMap) (x y : Moving) (log : Log) (serves : Serves shelf x log y) → y.desk.state.is_astray ≡ serves.between.desk.state.is_astray
begun_as_before shelf x y log serves =
    ap (λ (t : Turn). t.is_astray) (all_begun serves.between.desk.state.awake.items serves.between.desk.state y.desk.state serves.begins.is).rest

pub serves_stay : (shelf : KeptMap) (x y : Moving) (log : Log) → Serves shelf x log y → IsAstray x → IsAstray y
serves_stay shelf x y log serves is = begun_as_before shelf x y log serves ∙ loops_stay 65536 shelf true x serves.between log serves.rounds is

-- whatever holds from one step to the next
pub serves_lead : (terms : List Term) (most : ℕ) (before : Log) (shelf : KeptMap) (I : Turn → State → Type 0) (x y : Moving) (log : Log) (s : State) → RoundSupplies terms most shelf I → EndSupplies terms most shelf I → MayGoRound terms before shelf I x log s → IsBrief most (before ++ log) → Serves shelf x log y → IsBounded y.desk.state.cache
    → y.desk.state.is_astray ≡ false → HasServedWith terms before shelf I y log s
serves_lead terms most before shelf I x y log s supplies ends_too may brief served_so bounded well =
    served terms most before shelf I x y log s ends_too may brief served_so bounded
    (loops_lead terms most before shelf I 65536 x served_so.between log s supplies may brief served_so.rounds (sym (begun_as_before shelf x y log served_so) ∙ well))

pub serves : ServesLead
serves terms most before shelf test x y log s supplies ends_too may brief served_so bounded well = serves_lead terms most before shelf (Passes test) x y log s supplies ends_too may brief served_so bounded well
