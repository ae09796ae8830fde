-- Amid a body a step with no byte left changes nothing of what is shown.
use Rattle.std.proofs.Common.{◌≡◌, ◌≤◌, refl, sym, subst, ap, ap₂, ◌∙◌, ℕ, Bool, true, false, cond, find, List, [], ◌∷◌, ◌++◌, Option, Some, None, arith}
use Rattle.pp_cache_law.proofs.Finds.{find_passes}
use Rattle.pp_cache_law.proofs.Numbers.{some_is}
use Rattle.pp_turns_law.proofs.Peers.{HasPeer, linked}
use Rattle.pp_turns_law.specs.Sides.{ShowsSides}
use Rattle.pp_flow_law.proofs.Entries.{same_number}
use Rattle.pp_flow_law.specs.Tables.{none_leaves}
use Rattle.pp_framing.specs.Body.{Body as Delimited, Done, Going, Bad as NoBody}
use Rattle.pp_framing.specs.Rules.{body_of}
use Rattle.pp_law.specs.Connections.{conn, is_conn, on_conn}
use Rattle.pp_law.specs.Lists.{Bytes, change}
use Rattle.pp_law.specs.State.{State, Answer, Conn}
use Rattle.pp_origins.specs.Gots.{Both, IsStep, IsStepOn, Remains, TakesStep, going_on, left_behind, remaining, sides_of}
use Rattle.pp_peers.specs.Peers.{is_number, with_peer, with_pipe}
use Rattle.pp_peers.specs.declared.peers.Peer.{Peer}
use Rattle.pp_peers_law.proofs.Bodies.{begins as reads_begin, bodies}
use Rattle.pp_peers_law.specs.Comes.{IsBodyRead}
use Rattle.pp_peers_law.specs.Peers.{ShowsConn, ShowsReading}
use Rattle.pp_pipe.specs.Asks.{awaited}
use Rattle.pp_pipe.specs.Line.{Line, stepped}
use Rattle.pp_pipe.specs.Reading.{Reading, Before, Within, Closed, Broken}
use Rattle.pp_pipe.specs.declared.step.Step.{Step}
use Rattle.pp_pipe.specs.declared.step.Step.TheVariants.{Head, Body as BodyStep, End, Bad, Idle}
use Rattle.pp_state.specs.Ends.{parts}
use Rattle.pp_state.specs.declared.state.State.{State as Turn}
use Rattle.pp_states_law.proofs.Alone.{piped as pipe_is}
use Rattle.pp_states_law.proofs.ReadOn.{readings}
use Rattle.pp_states_law.specs.States.{ShowsState}
use Rattle.pp_states_law.specs.Steps.{whole}
use Rattle.pp_store.specs.Kept.{KeptMap}
use Rattle.pp_reads_law.specs.Bads.{IsOpen}
use Rattle.pp_reads_law.specs.Pauses.{PausesChangeNothing, StandsStill}

-- ---- a connection that is put where it stood

abbrev same_conn : Conn → Conn
same_conn j = record j { unread = j.unread; answer = j.answer }

none_changed : (p : Conn → Bool) (ks : List Conn) → change p same_conn ks ≡ ks
none_changed p [] = refl
none_changed p (k ∷ ks) = ap₂ (λ (j : Conn) (js : List Conn). j ∷ js) (by (p k)) (none_changed p ks)
  where
    by : (b : Bool) → (elim b as (λ t. Conn) [ true ↦ same_conn k | false ↦ k ]) ≡ k
    by true = refl
    by false = refl

same_state : (n : ℕ) (s : State) → on_conn n same_conn s ≡ s
unfolding on_conn
same_state n s = ap (λ (ks : List Conn). record s { conns = ks }) (none_changed (is_conn n) s.conns)

all_of : (bytes : Bytes) → bytes ++ [] ≡ bytes
all_of [] = refl
all_of (b ∷ bytes) = ap (λ (bs : Bytes). b ∷ bs) (all_of bytes)

none_unread : (reading : Reading) (unread : Bytes) (a : Answer) → ShowsReading reading unread (Some a) → unread ≡ []
none_unread (Before text) unread a shows = absurd shows
none_unread (Within response place) unread a shows = shows.0
none_unread Closed unread a shows = absurd shows
none_unread Broken unread a shows = absurd shows

module _ (number : ℕ → ℕ) (name : Bytes) (shelf : KeptMap) (x next : Both) (s : State) (n : ℕ) (k : Conn) (a : Answer) (peer : Peer) (behind : Option Remains) (shows : ShowsSides number name (sides_of x) s) (is : IsOpen s n k) (there : find (is_number n) x.peers ≡ Some peer) (has : k.answer ≡ Some a) (going : (body_of a.rule a.raw).outcome ≡ Going) where
  kn : k.number ≡ n
  kn = same_number k.number n (find_passes (is_conn n) s.conns k is.there)

  own : ShowsConn s peer k
  own =
      let one : HasPeer s n x.peers k = linked s n x.peers s.conns k is.there shows.steps.shows.conns in
      subst (λ (p : Peer). ShowsConn s p k) (some_is one.peer peer (sym one.there ∙ there)) one.shows

  goes : going_on (find (is_number n) x.peers) ≡ Some peer
  goes = ap (λ (o : Option Peer). going_on o) there ∙ ap (λ (c : Bool). cond c None (Some peer)) (own.is_closing ∙ is.goes_on)

  abbrev pipe : Line
  pipe = peer.pipe

  at_answer : ShowsReading pipe.reading k.unread (Some a)
  at_answer = subst (λ (o : Option Answer). ShowsReading pipe.reading k.unread o) has (own.pipe is.goes_on).reading

  unread : k.unread ≡ []
  unread = none_unread pipe.reading k.unread a at_answer

  stays : (left : Reading) → ShowsReading left [] (Some (record a { raw = a.raw ++ [] })) → ShowsReading left k.unread k.answer
  stays left reads =
      subst (λ (bs : Bytes). ShowsReading left bs k.answer) (sym unread)
      (subst (λ (o : Option Answer). ShowsReading left [] o) (ap (λ (bs : Bytes). Some (record a { raw = bs })) (all_of a.raw) ∙ sym has) reads)

  set_state : (left : Reading) → ShowsReading left k.unread k.answer → ShowsState number name [] none_leaves (whole (parts x.state) (with_pipe n (record pipe { reading = left }) x.peers)) s
  set_state left reads =
      subst (λ (t : State). ShowsState number name [] none_leaves (whole (parts x.state) (with_pipe n (record pipe { reading = left }) x.peers)) t) (same_state n s)
      (subst (λ (ps : List Peer). ShowsState number name [] none_leaves (whole (parts x.state) ps) (on_conn n same_conn s)) (sym (pipe_is n (record pipe { reading = left }) x.peers peer there))
      (subst (λ (m : ℕ). ShowsState number name [] none_leaves (whole (parts x.state) (with_peer m (record peer { pipe = record pipe { reading = left } }) x.peers)) (on_conn m same_conn s)) kn
      (readings number name [] none_leaves (whole (parts x.state) x.peers) s shows.steps.shows peer k left peer.stays (λ j. j.unread) (λ j. j.answer) shows.may.apart
      (record { linked = ap (λ (m : ℕ). find (is_number m) x.peers) kn ∙ there; there = ap (λ (m : ℕ). conn s m) kn ∙ is.there; goes_on = is.goes_on }) reads (own.stays is.goes_on))))

  body_is : (body_of a.rule (a.raw ++ [])).outcome ≡ Going
  body_is = ap (λ (bs : Bytes). (body_of a.rule bs).outcome) (all_of a.raw) ∙ going

  by_step : (used : ℕ) (step : Step) (left : Reading) (fed : List Peer) → used ≤ 0 → IsBodyRead a [] [] [] used step left → fed ≡ with_pipe n (stepped step left pipe) x.peers → TakesStep step shelf n [] (record x { peers = fed }) next
      → behind ≡ left_behind used step (remaining [] []) → StandsStill number name x next s behind
  by_step used Head left fed within read is_fed takes leaves = absurd read
  by_step used (BodyStep from to) left fed within read is_fed takes leaves = absurd (omega (arith, within, read.some, read.within))
  by_step used End left fed within read is_fed takes leaves = absurd (not_over (sym body_is ∙ ap (λ (b : Delimited). b.outcome) read.body))
    where
      not_over : {rest : Bytes} → Going ≡ Done rest → ⊥
      not_over same = absurd (cc same)
  by_step used Bad left fed within read is_fed takes leaves = absurd (not_none (sym body_is ∙ ap (λ (b : Delimited). b.outcome) read.body))
    where
      not_none : Going ≡ NoBody → ⊥
      not_none same = absurd (cc same)
  by_step used Idle left fed within read is_fed takes leaves = record {
    leaves = leaves;
    same = takes.0;
    shows =
        subst (λ (q : Turn). ShowsSides number name (record { parts = parts q; peers = next.peers }) s) (sym takes.0)
        (subst (λ (ps : List Peer). ShowsSides number name (record { parts = parts x.state; peers = ps }) s) (sym (takes.1 ∙ is_fed))
        (record {
          steps = record { shows = set_state left (stays left read.shows); order = shows.steps.order; told = shows.steps.told; refused = shows.steps.refused };
          may = shows.may;
        }));
  }

  still_there : IsStepOn (going_on (find (is_number n) x.peers)) shelf n (remaining [] []) x next behind → StandsStill number name x next s behind
  still_there on = by (subst (λ (o : Option Peer). IsStepOn o shelf n (remaining [] []) x next behind) goes on)
    where
      by : IsStep shelf n peer (remaining [] []) x next behind → StandsStill number name x next s behind
      by one =
          by_step one.told.0 one.told.1 one.feeds.left one.fed one.feeds.within
          (bodies a pipe.reading [] [] [] (awaited pipe.asks) one.told.0 one.told.1 one.feeds.left
          (reads_begin pipe.reading k.unread [] a at_answer) one.feeds.fed) one.feeds.leaves one.takes one.leaves

pub pauses : PausesChangeNothing
pauses number name shelf x next s n k a peer behind shows is there has going on = still_there number name shelf x next s n k a peer behind shows is there has going on
