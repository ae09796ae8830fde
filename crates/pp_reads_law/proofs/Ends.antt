-- The connection of an origin ended or broke where it was read, and the turn stands behind it.
use Rattle.std.proofs.Common.{◌≡◌, refl, sym, subst, ap, ◌∙◌, ℕ, Bool, true, find, map, List, Option, Some, None}
use Rattle.pp_cache.specs.Bounds.{IsBounded}
use Rattle.pp_desk.proofs.ClosingLemmas.{piped_numbers}
use Rattle.pp_desk.specs.Closings.{Sides, closed_conn, peer_numbers, sides}
use Rattle.pp_desk.specs.Replies.{EndsReplies}
use Rattle.pp_desk.specs.declared.desk.Desk.{Desk}
use Rattle.pp_endings_law.proofs.GoneEnds.{ends_gone}
use Rattle.pp_events_law.proofs.Gone.{IsSoundAmid, amid_by}
use Rattle.pp_events_law.proofs.Left.{AreLeft, left_then, replies_left}
use Rattle.pp_events_law.proofs.ReadyBehind.{ready_behind}
use Rattle.pp_events_law.specs.Stands.{AreReadyAt, IsHandled, StandsAtEvent}
use Rattle.pp_events_law.specs.Ready.{StaysReady}
use Rattle.pp_framing.specs.declared.body.Ending.{Ending}
use Rattle.pp_framing.specs.declared.body.Ending.TheVariants.{Whole, Short}
use Rattle.pp_law.specs.After.{gone, paid}
use Rattle.pp_law.specs.Connections.{is_conn}
use Rattle.pp_law.specs.Lists.{Bytes}
use Rattle.pp_law.specs.Replies.{end_replies, regained}
use Rattle.pp_law.specs.Responses.{ended}
use Rattle.pp_law.specs.State.{State, Conn, Term, Handling, ReadOf}
use Rattle.pp_laws.proofs.Lists.{in_find}
use Rattle.pp_laws.proofs.Pieces.{ended-sound}
use Rattle.pp_laws.proofs.Sound.{client_number, facts_of as sound_facts}
use Rattle.pp_laws.specs.Numbers.{AreRising}
use Rattle.pp_laws_replies.proofs.Quiet.{facts_of as quiet_facts, quiet_same}
use Rattle.pp_laws_replies.proofs.QuietHeads.{ended-quiet}
use Rattle.pp_laws_turn.proofs.Amid.{conn_ends}
use Rattle.pp_laws_turn.proofs.Laws.{sound_turns}
use Rattle.pp_laws_turn.proofs.Lifts.{sound_on, turn_on}
use Rattle.pp_laws_turn.specs.SoundTurn.{IsSoundTurn}
use Rattle.pp_obeys.proofs.Frames.{frame_of, stays}
use Rattle.pp_obeys.proofs.StaysResponses.{ended-stays}
use Rattle.pp_obeys.specs.Obeys.{Obeys}
use Rattle.pp_origins.specs.Gots.{Both, EndsBehind, Makes, both, sides_of}
use Rattle.pp_origins.specs.Responses.{ended_by, ending_by, origin_gone, response_whole, whole_where}
use Rattle.pp_peers.specs.Peers.{is_number}
use Rattle.pp_peers.specs.declared.peers.Peer.{Peer}
use Rattle.pp_proxy.specs.Handling.{ReceivesOn}
use Rattle.pp_proxy.specs.Moving.{Turning}
use Rattle.pp_state.specs.Ends.{parts}
use Rattle.pp_world.specs.Log.{Log}
use Rattle.pp_reads_law.proofs.BehindRead.{StandsAmid, behind_handled, has_ended}
use Rattle.pp_reads_law.proofs.GoneLeft.{origin_left}
use Rattle.pp_reads_law.proofs.NextEnded.{ended_next}
use Rattle.pp_reads_law.proofs.Knows.{knows_rest, knows_then}
use Rattle.pp_reads_law.proofs.StayReads.{SidesStay, closed_stays, sides_then, whole_stays}
use Rattle.pp_reads_law.proofs.Stayed.{stay_same}
use Rattle.pp_reads_law.proofs.Thin.{follow_still, gone_thin}
use Rattle.pp_reads_law.specs.Readable.{MayRead}
use Rattle.pp_reads_law.specs.Stays.{KnowsAsMuch}

-- ---- of the program

gone_stays : (is_clean : Bool) (k : ℕ) (x : Sides) → SidesStay x (origin_gone is_clean k x)
gone_stays is_clean k x = by (ending_by is_clean (find (is_number k) x.peers))
  where
    over : Sides
    over = record x { peers = ended_by is_clean k (find (is_number k) x.peers) x.peers }

    numbers : (o : Option Peer) → peer_numbers (ended_by is_clean k o x.peers) ≡ peer_numbers x.peers
    numbers None = refl
    numbers (Some peer) = piped_numbers k _ x.peers

    first : SidesStay x over
    first = record { parts = stay_same x.parts; conns = numbers (find (is_number k) x.peers) }

    by : (e : Ending) → SidesStay x (closed_conn k true (whole_where e k over))
    by Whole = sides_then x (response_whole k over) (closed_conn k true (response_whole k over)) (sides_then x over (response_whole k over) first (whole_stays k over)) (closed_stays k true (response_whole k over))
    by Short = sides_then x over (closed_conn k true over) first (closed_stays k true over)

-- ---- of both

module _ (terms : List Term) (log : Log) (number : ℕ → ℕ) (k : ℕ) (x y : Turning) (s : State) (j : Conn) (obeys : Obeys terms s log) (stands : StandsAtEvent number Handling (ReadOf k) x.moving s) (ready : AreReadyAt number x.moving s) (may : MayRead k x s j) (bounded : IsBounded y.moving.desk.state.cache) (receives : ReceivesOn k x y)
    (begins : Both) (same : Makes (λ z. z) (both x.moving.desk) begins) (is_clean : Bool) (behind : EndsBehind (origin_gone is_clean k) begins (both y.moving.desk)) where
  abbrev old : Desk
  old = x.moving.desk

  abbrev new : Desk
  new = y.moving.desk

  abbrev name : Bytes
  name = old.state.name.items

  abbrev v : State
  v = ended is_clean j s

  abbrev z : Sides
  z = origin_gone is_clean k (sides old)

  sound : IsSoundTurn s
  sound = sound_turns terms s log obeys

  rise : AreRising (map client_number s.clients)
  rise = (sound_facts (sound_on terms s log obeys)).callers.rise

  begins_know : KnowsAsMuch old.state begins.state
  begins_know = knows_rest old.state begins.state same.rest

  ends : EndsReplies old.state.awake.items z (sides new)
  ends = subst (λ (w : Sides). EndsReplies old.state.awake.items (origin_gone is_clean k w) (sides new)) same.is (subst (λ (ns : List ℕ). EndsReplies ns (origin_gone is_clean k (sides_of begins)) (sides new)) begins_know.awake behind.is)

  amid : StandsAmid number number x y s v z
  amid = record {
    shown = ends_gone number name (sides old) s (record { steps = stands.desk.turn.steps; may = stands.desk.may }) is_clean k j (record { there = may.there; goes_on = may.going; answers = may.answers; once = sound.once });
    still = (gone_stays is_clean k (sides old)).parts.clients;
    conns = (gone_stays is_clean k (sides old)).conns;
    framed = frame_of (ended-stays is_clean j s (stays refl));
    quiet = quiet_facts (ended-quiet is_clean j s (quiet_same s));
    amid = amid_is;
    follow = follow_still number name z.peers (parts old.state) z.parts s v stands.desk.turn.steps.shows.table.table (λ i seat here going. (ready i seat here going).follows) (gone_stays is_clean k (sides old)).parts.clients (gone_thin is_clean k (sides old))
        (ends_gone number name (sides old) s (record { steps = stands.desk.turn.steps; may = stands.desk.may }) is_clean k j (record { there = may.there; goes_on = may.going; answers = may.answers; once = sound.once })).steps amid_is.sources;
    knows = knows_then old.state begins.state new.state begins_know (knows_rest begins.state new.state behind.rest);
    ends = ends;
    numbers = receives.numbers;
    links = receives.one.links;
    top = receives.one.top;
  }
    where
      amid_is : IsSoundAmid v
      amid_is = amid_by v (ended-sound is_clean j s refl (in_find (is_conn k) j s.conns may.there).0 (sound_on terms s log obeys)) (conn_ends is_clean j s (turn_on terms s log obeys))

  gone_is : gone is_clean k s ≡ end_replies v
  unfolding gone
  gone_is = ap (λ (o : Option Conn). elim o as (λ t. State) [ None ↦ s | Some i ↦ end_replies (ended is_clean i s) ]) may.there

  pub ended_handled : IsHandled number y.moving (paid (gone is_clean k s))
  ended_handled = subst (λ (t : State). IsHandled number y.moving (paid t)) (sym gone_is) (behind_handled number number (ReadOf k) x y s v z stands may.settled may.next rise amid bounded)

  all_left : AreLeft (parts old.state) (parts new.state)
  all_left = left_then (parts old.state) z.parts (parts new.state) (origin_left is_clean k (sides old)) (replies_left old.state.awake.items z (sides new) ends)

  -- no number is given
  next_same : (paid (gone is_clean k s)).next_instance ≡ s.next_instance
  unfolding paid regained
  next_same =
      ap (λ (t : State). t.next_instance) gone_is
      ∙ ap (λ (t : State). t.next_instance) (has_ended number number (ReadOf k) x y s v z stands may.settled may.next rise amid bounded).rest
      ∙ ended_next is_clean j s

  pub ended_ready : StaysReady number x y (paid (gone is_clean k s))
  ended_ready = ready_behind number x y s (paid (gone is_clean k s)) next_same all_left ended_handled.follows ready
