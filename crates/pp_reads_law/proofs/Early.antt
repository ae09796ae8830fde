-- What comes before any of a line was asked whole is refused as by the law.
use Rattle.std.proofs.Common.{◌≡◌, sym, subst, ap, ap₂, ◌∙◌, Bool, true, false, cond, find, List, [], ◌∷◌, ◌++◌, Option, Some, None}
use Rattle.pp_reads_law.specs.Bads.{piped}
use Rattle.pp_cache_law.proofs.Numbers.{some_is}
use Rattle.pp_turns_law.proofs.Peers.{HasPeer, linked}
use Rattle.pp_turns_law.specs.Sides.{ShowsSides}
use Rattle.pp_desk.specs.Closings.{Sides}
use Rattle.pp_law.specs.Connections.{close_conn}
use Rattle.pp_law.specs.Responses.{Piece, head_piece_of}
use Rattle.pp_origins.specs.Gots.{DataCameThen, IsStep, IsStepOn, TakesStep, going_on, left_behind, remaining, sides_of}
use Rattle.pp_origins.specs.Responses.{bad_response}
use Rattle.pp_peers.specs.Peers.{is_number, with_pipe}
use Rattle.pp_peers.specs.declared.peers.Peer.{Peer}
use Rattle.pp_peers_law.proofs.Heads.{early}
use Rattle.pp_peers_law.specs.Comes.{IsRefused}
use Rattle.pp_peers_law.specs.Peers.{ShowsConn}
use Rattle.pp_pipe.specs.Line.{stepped}
use Rattle.pp_pipe.specs.declared.step.Step.{Step}
use Rattle.pp_pipe.specs.declared.step.Step.TheVariants.{Bad}
use Rattle.pp_state.specs.Ends.{KeepsRest, parts}
use Rattle.pp_state.specs.declared.state.State.{State as Turn}
use Rattle.pp_reads_law.proofs.BadOnes.{early_ones}
use Rattle.pp_reads_law.specs.Awaits.{ComesEarly, EarlyStepsAsTheLaws}

pub early_steps : EarlyStepsAsTheLaws
early_steps number name shelf x next s n k peer b bytes behind shows is there none early_is on = by (subst (λ (o : Option Peer). IsStepOn o shelf n (remaining (b ∷ bytes) []) x next behind) goes on)
  where
    own : ShowsConn s peer k
    own =
        let one : HasPeer s n x.peers k = linked s n x.peers s.conns k is.there shows.steps.shows.conns in
        subst (λ (p : Peer). ShowsConn s p k) (some_is one.peer peer (sym one.there ∙ there)) one.shows

    goes : going_on (find (is_number n) x.peers) ≡ Some peer
    goes = ap (λ (o : Option Peer). going_on o) there ∙ ap (λ (c : Bool). cond c None (Some peer)) (own.is_closing ∙ is.goes_on)

    by : IsStep shelf n peer (remaining (b ∷ bytes) []) x next behind → ComesEarly number name x next s n k (b ∷ bytes) behind
    by one =
        let refused : IsRefused (b ∷ bytes) one.told.0 one.told.1 one.feeds.left = early s peer k b bytes one.told.0 one.told.1 one.feeds.left own is.goes_on none early_is one.feeds.fed in
        let bad : DataCameThen (bad_response n) n [] (record x { peers = one.fed }) next = subst (λ (t : Step). TakesStep t shelf n [] (record x { peers = one.fed }) next) refused.tells one.takes in
        let is_bad : sides_of next ≡ bad_response n (piped n (stepped Bad one.feeds.left peer.pipe) (sides_of x)) =
        bad.makes.is ∙ ap₂ (λ (q : Turn) (ps : List Peer). bad_response n (let y : Sides = record { parts = parts q; peers = ps } in y)) bad.delivers (one.feeds.leaves ∙ ap (λ (t : Step). with_pipe n (stepped t one.feeds.left peer.pipe) x.peers) refused.tells) in
        record {
          leaves = one.leaves ∙ ap (λ (t : Step). left_behind one.told.0 t (remaining (b ∷ bytes) [])) refused.tells;
          line = stepped Bad one.feeds.left peer.pipe;
          makes = record { is = is_bad; rest = subst (λ (q : Turn). KeepsRest q next.state) bad.delivers bad.makes.rest };
          shows =
              subst (λ (y : Sides). ShowsSides number name y (close_conn true k s)) (sym is_bad)
              (early_ones number name (sides_of x) s shows n k (stepped Bad one.feeds.left peer.pipe) is early_is);
          law = ap (λ (c : Bool). elim c as (λ p. Piece) [ true ↦ record { state = close_conn true k s; rest = [] } | false ↦ head_piece_of k (k.unread ++ b ∷ bytes) s ]) early_is;
        }
