-- Where no byte is left and a head is awaited, a step of the pipe changes nothing.
use Rattle.std.proofs.Common.{◌≡◌, sym, subst, ap, ap₂, ◌∙◌, Bool, cond, find, List, [], Option, Some, None}
use Rattle.pp_cache_law.proofs.Numbers.{some_is}
use Rattle.pp_turns_law.proofs.Peers.{HasPeer, linked}
use Rattle.pp_origins.specs.Gots.{Both, IsStep, IsStepOn, TakesStep, going_on, left_behind, remaining}
use Rattle.pp_peers.specs.Peers.{is_number, with_pipe}
use Rattle.pp_peers.specs.declared.peers.Peer.{Peer}
use Rattle.pp_peers_law.proofs.Heads.{before}
use Rattle.pp_peers_law.specs.Peers.{ShowsConn}
use Rattle.pp_pipe.specs.Asks.{awaited}
use Rattle.pp_pipe.specs.Feeding.{IsFed, IsTold}
use Rattle.pp_pipe.specs.Line.{stepped}
use Rattle.pp_pipe.specs.Reading.{Reading, Before}
use Rattle.pp_pipe.specs.declared.step.Step.{Step}
use Rattle.pp_pipe.specs.declared.step.Step.TheVariants.{Idle}
use Rattle.pp_state.specs.declared.state.State.{State as Turn}
use Rattle.pp_reads_law.proofs.Amid.{pipe_itself}
use Rattle.pp_reads_law.specs.Awaits.{EmptyStepsAreNone}

pub empty_steps : EmptyStepsAreNone
empty_steps number name shelf x next s n k peer behind shows is there none on = by (subst (λ (o : Option Peer). IsStepOn o shelf n (remaining [] []) x next behind) goes on)
  where
    own : ShowsConn s peer k
    own =
        let one : HasPeer s n x.peers k = linked s n x.peers s.conns k is.there shows.steps.shows.conns in
        subst (λ (p : Peer). ShowsConn s p k) (some_is one.peer peer (sym one.there ∙ there)) one.shows

    goes : going_on (find (is_number n) x.peers) ≡ Some peer
    goes = ap (λ (o : Option Peer). going_on o) there ∙ ap (λ (c : Bool). cond c None (Some peer)) (own.is_closing ∙ is.goes_on)

    reads : peer.pipe.reading ≡ Before k.unread
    reads = before peer.pipe.reading k.unread k.answer (own.pipe is.goes_on).reading none

    by : IsStep shelf n peer (remaining [] []) x next behind → (behind ≡ None) × (next ≡ x)
    by one =
        let told : IsTold Idle 0 (Before k.unread) one.told.0 one.told.1 one.feeds.left = subst (λ (r : Reading). IsFed (awaited peer.pipe.asks) r [] one.told.0 one.told.1 one.feeds.left) reads one.feeds.fed in
        let idle : (next.state ≡ x.state) × (next.peers ≡ one.fed) = subst (λ (t : Step). TakesStep t shelf n [] (record x { peers = one.fed }) next) told.tells one.takes in
        let peers : next.peers ≡ x.peers =
        idle.1 ∙ one.feeds.leaves ∙ ap₂ (λ (t : Step) (r : Reading). with_pipe n (stepped t r peer.pipe) x.peers) told.tells (told.leaves ∙ sym reads) ∙ pipe_itself n peer x.peers there in
        (one.leaves ∙ ap (λ (t : Step). left_behind one.told.0 t (remaining [] [])) told.tells, ap₂ (λ (q : Turn) (ps : List Peer). let y : Both = record { state = q; peers = ps } in y) idle.0 peers)
