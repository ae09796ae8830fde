-- What is no response, or comes too early: its connection is closed as by the law.
use Rattle.std.proofs.Common.{◌≡◌, refl, sym, subst, ap, ◌∙◌, ℕ, Bool, true, false, not, ◌&&◌, ◌||◌, find, List, [], ◌∷◌, Some, None, Option}
use Rattle.std.specs.Prelude.{option_map, slice_get}
use Rattle.pp_cache_law.proofs.Numbers.{true_false}
use Rattle.pp_turns_law.proofs.Dropped.{drops}
use Rattle.pp_turns_law.proofs.Own.{HasEntry, has_entry}
use Rattle.pp_turns_law.proofs.Peers.{HasPeer, find_set, linked}
use Rattle.pp_turns_law.proofs.Shut.{shuts}
use Rattle.pp_turns_law.specs.Sides.{ShowsSides}
use Rattle.pp_desk.specs.Closings.{Sides, closed_conn}
use Rattle.pp_endings_law.proofs.Pipes.{closed_is, closing_as, conns_beside, numbered, peer_over, pipe_found, with_line}
use Rattle.pp_endings_law.proofs.Rests.{failed_conns, failed_may}
use Rattle.pp_flow.specs.Changes.{line_of}
use Rattle.pp_flow.specs.declared.entry.Entry.{Entry}
use Rattle.pp_flow_law.proofs.Entries.{none_some}
use Rattle.pp_flow_law.specs.Frames.{emptied}
use Rattle.pp_flow_law.specs.Tables.{line_in, none_leaves}
use Rattle.pp_law.specs.Connections.{close_conn, each_exchange, end_exchange, exchange, fail, front_of_line, is_conn, is_outstanding, lose_attempt, lose_place, on_conn}
use Rattle.pp_law.specs.Lists.{Bytes, has_number, is_some_with}
use Rattle.pp_law.specs.Responses.{bad_head, bad_response as law_bad_response}
use Rattle.pp_law.specs.Stages.{is_headed}
use Rattle.pp_law.specs.State.{State, Conn, Exchange}
use Rattle.pp_origins.specs.Responses.{bad_by, bad_for, bad_on, bad_response, charged_by, has_brought_in}
use Rattle.pp_peers.specs.Peers.{is_number, with_peer, with_pipe}
use Rattle.pp_peers.specs.declared.peers.Peer.{Peer}
use Rattle.pp_peers_law.specs.Peers.{ShowsLine}
use Rattle.pp_pipe.specs.Line.{Line}
use Rattle.pp_pipe.specs.declared.asks.Ask.{Ask}
use Rattle.pp_seats_law.proofs.Entries.{exchanges}
use Rattle.pp_state.specs.Asking.{is_outstanding as is_asked_whole}
use Rattle.pp_state.specs.Ends.{Parts, ended, failed, lost_attempt}
use Rattle.pp_state.specs.Lines.{lost_line}
use Rattle.pp_states_law.proofs.Lines.{same_itself}
use Rattle.pp_states_law.proofs.Charged.{failures, losses}
use Rattle.pp_states_law.specs.Charges.{IsThere}
use Rattle.pp_states_law.specs.Steps.{ShowsSteps}
use Rattle.pp_reads_law.proofs.Fronts.{IsFront, is_front}
use Rattle.pp_reads_law.proofs.Lost.{attempt_conns, attempt_may}
use Rattle.pp_reads_law.specs.Bads.{BadBodiesAreTheLaws, BadHeadsAreTheLaws, EarlyOnesAreTheLaws, IsOpen, piped}

-- ---- a connection that is closed shows the law's, whatever its pipe is

close_piped : (number : ℕ → ℕ) (name : Bytes) (n : ℕ) (counts : Bool) (p : Parts) (ps : List Peer) (peer : Peer) (line : Line) (t : State) → find (is_number n) ps ≡ Some peer → peer.is_closing ≡ false
    → ShowsSides number name (closed_conn n counts (record { parts = p; peers = ps })) t → ShowsSides number name (closed_conn n counts (record { parts = p; peers = with_pipe n line ps })) t
close_piped number name n counts p ps peer line t there opens shows =
    let shut : ShowsSides number name (record { parts = lost_line 1024 n (counts && not peer.has_brought) p; peers = with_peer n (closing_as peer) ps }) t = subst (λ (y : Sides). ShowsSides number name y t) (closed_is n counts p ps peer there opens) shows in
    subst (λ (y : Sides). ShowsSides number name y t) (sym piped_is) (record {
      steps = record {
        shows = record {
          clients = shut.steps.shows.clients;
          exchanges = shut.steps.shows.exchanges;
          table = shut.steps.shows.table;
          conns = conns_beside t n (closing_as peer) line refl ps t.conns shut.steps.shows.conns;
        };
        order = shut.steps.order;
        told = shut.steps.told;
        refused = shut.steps.refused;
      };
      may = shut.may;
    })
  where
    piped_is : closed_conn n counts (record { parts = p; peers = with_pipe n line ps }) ≡ record { parts = lost_line 1024 n (counts && not peer.has_brought) p; peers = with_peer n (with_line line (closing_as peer)) ps }
    piped_is =
        closed_is n counts p (with_pipe n line ps) (with_line line peer) (pipe_found n line ps ∙ ap (λ (o : Option Peer). option_map (with_line line) o) there) opens
        ∙ ap (λ (qs : List Peer). let y : Sides = record { parts = lost_line 1024 n (counts && not peer.has_brought) p; peers = qs } in y) (peer_over n line (with_line line (closing_as peer)) ps)

module _ (number : ℕ → ℕ) (name : Bytes) (x : Sides) (s : State) (shows : ShowsSides number name x s) (n : ℕ) (k : Conn) (line : Line) (open_conn : IsOpen s n k) where
  pub own : HasPeer s n x.peers k
  own = linked s n x.peers s.conns k open_conn.there shows.steps.shows.conns

  opens : own.peer.is_closing ≡ false
  opens = own.shows.is_closing ∙ open_conn.goes_on

  line_is : line_of n x.parts.flow.placed ≡ k.line
  line_is = shows.steps.shows.exchanges.lines n ∙ ap (λ (o : Option Conn). line_in o) open_conn.there

  abbrev y : Sides
  y = piped n line x

  with_pipe_too : (counts : Bool) (p : Parts) (t : State) → ShowsSides number name (closed_conn n counts (record { parts = p; peers = x.peers })) t → ShowsSides number name (closed_conn n counts (record { parts = p; peers = y.peers })) t
  with_pipe_too counts p t is = close_piped number name n counts p x.peers own.peer line t own.there opens is

  piped_there : find (is_number n) y.peers ≡ Some (with_line line own.peer)
  piped_there = pipe_found n line x.peers ∙ ap (λ (o : Option Peer). option_map (with_line line) o) own.there

  brought : has_brought_in (find (is_number n) y.peers) ≡ k.has_brought
  brought = ap (λ (o : Option Peer). has_brought_in o) (pipe_found n line x.peers ∙ ap (λ (o : Option Peer). option_map (with_line line) o) own.there) ∙ own.shows.has_brought

  module _ (e : Exchange) (front : front_of_line s k ≡ Some e) where
    abbrev first : IsFront s k e
    first = is_front s k e front

    abbrev it : HasEntry number x.parts.flow e
    it = has_entry number none_leaves x.parts.flow s shows.steps.shows.exchanges e first.known

    abbrev there : IsThere e.number x.parts s it.entry e
    there = record { here = it.here; there = first.known }

    program_is : bad_response n y ≡ bad_by (is_asked_whole it.entry) n e.number it.entry.exchange y
    program_is =
        ap (λ (ns : List ℕ). bad_on n (slice_get ns 0) y) (line_is ∙ first.line)
        ∙ ap (λ (o : Option Entry). bad_for n e.number o y) it.here

    asked_same : is_asked_whole it.entry ≡ is_outstanding e
    asked_same = (exchanges number it.entry e it.shows).outstanding

    headed_same : it.entry.exchange.headed ≡ is_headed e
    headed_same = (exchanges number it.entry e it.shows).headed

    -- ---- nothing of it was asked whole

    early_is : is_outstanding e ≡ false → ShowsSides number name (bad_response n y) (close_conn true k s)
    early_is not_yet =
        subst (λ (z : Sides). ShowsSides number name z (close_conn true k s)) (sym (program_is ∙ ap (λ (b : Bool). bad_by b n e.number it.entry.exchange y) (asked_same ∙ not_yet)))
        (with_pipe_too true x.parts (close_conn true k s) (shuts number name x s shows n true k open_conn.there))

    -- ---- its attempts end

    failed_steps : ShowsSteps number name none_leaves x.peers (failed it.entry.exchange x.parts) (fail e s)
    failed_steps = failures number name none_leaves x.peers x.parts s shows.steps e.number it.entry e there (shows.may.go.going e.number e first.known)

    failed_sides : ShowsSides number name (record { parts = failed it.entry.exchange x.parts; peers = x.peers }) (fail e s)
    failed_sides = record { steps = failed_steps; may = failed_may e s shows.may }

    in_line : has_number e.number k.line ≡ true
    in_line = ap (λ (ns : List ℕ). has_number e.number ns) first.line ∙ ap (λ (b : Bool). b || has_number e.number first.others) (same_itself e.number)

    abbrev failed_law : State
    failed_law = close_conn false k (end_exchange e.number (fail e s))

    fails : ShowsSides number name (closed_conn n false (record { parts = ended e.number (failed it.entry.exchange x.parts); peers = y.peers })) failed_law
    fails =
        with_pipe_too false (ended e.number (failed it.entry.exchange x.parts)) failed_law
        (drops number name (record { parts = failed it.entry.exchange x.parts; peers = x.peers }) (fail e s) failed_sides e.number n k (ap (λ (ks : List Conn). find (is_conn n) ks) (failed_conns e s) ∙ open_conn.there) in_line)

    law_fails : law_bad_response k s ≡ failed_law
    unfolding law_bad_response
    law_fails = ap (λ (o : Option Exchange). elim o as (λ t. State) [ None ↦ close_conn false k s | Some d ↦ close_conn false k (end_exchange d.number (fail d s)) ]) front

    -- ---- or one is lost

    abbrev lost_law : State
    lost_law = close_conn false k (lose_attempt e s)

    loses : ShowsSides number name (closed_conn n false (record { parts = lost_attempt it.entry.exchange x.parts; peers = y.peers })) lost_law
    loses =
        with_pipe_too false (lost_attempt it.entry.exchange x.parts) lost_law
        (shuts number name (record { parts = lost_attempt it.entry.exchange x.parts; peers = x.peers }) (lose_attempt e s)
        (record { steps = losses number name none_leaves x.peers x.parts s shows.steps e.number it.entry e there (shows.may.go.going e.number e first.known); may = attempt_may e s first.known shows.may }) n false k
        (ap (λ (ks : List Conn). find (is_conn n) ks) (attempt_conns e s first.known) ∙ open_conn.there))

    -- ---- both

    abbrev answered : Bool → Sides
    answered b = closed_conn n false (record { parts = charged_by b e.number it.entry.exchange x.parts; peers = y.peers })

    program : is_outstanding e ≡ true → bad_response n y ≡ answered (not (is_headed e) && k.has_brought)
    program whole =
        program_is ∙ ap (λ (b : Bool). bad_by b n e.number it.entry.exchange y) (asked_same ∙ whole)
        ∙ ap (λ (b : Bool). answered (not b && has_brought_in (find (is_number n) y.peers))) headed_same ∙ ap (λ (b : Bool). answered (not (is_headed e) && b)) brought

    body_is : is_outstanding e ≡ true → is_headed e ≡ true → ShowsSides number name (bad_response n y) (law_bad_response k s)
    body_is whole headed =
        subst (λ (z : Sides). ShowsSides number name z (law_bad_response k s)) (sym (program whole ∙ ap (λ (b : Bool). answered (not b && k.has_brought)) headed))
        (subst (λ (t : State). ShowsSides number name (answered false) t) (sym law_fails) fails)

    abbrev head_by : Bool → State
    head_by b = elim b as (λ t. State) [ false ↦ law_bad_response k s | true ↦ elim (front_of_line s k) as (λ t. State) [ None ↦ close_conn false k s | Some d ↦ close_conn false k (lose_attempt d s) ] ]

    law_head : bad_head k s ≡ head_by k.has_brought
    unfolding bad_head
    law_head = refl

    head_is : is_outstanding e ≡ true → is_headed e ≡ false → ShowsSides number name (bad_response n y) (bad_head k s)
    head_is whole none =
        subst (λ (z : Sides). ShowsSides number name z (bad_head k s)) (sym (program whole ∙ ap (λ (b : Bool). answered (not b && k.has_brought)) none))
        (subst (λ (t : State). ShowsSides number name (answered k.has_brought) t) (sym law_head) (by k.has_brought))
      where
        by : (b : Bool) → ShowsSides number name (answered b) (head_by b)
        by false = subst (λ (t : State). ShowsSides number name (answered false) t) (sym law_fails) fails
        by true =
            subst (λ (o : Option Exchange). ShowsSides number name (answered true) (elim o as (λ t. State) [ None ↦ close_conn false k s | Some d ↦ close_conn false k (lose_attempt d s) ])) (sym front) loses

    -- it is closing behind it
    pub bad_closes : is_outstanding e ≡ true → (p : Peer) × (find (is_number n) (bad_response n y).peers ≡ Some p) × (p.is_closing ≡ true)
    bad_closes whole = (
      closing_as (with_line line own.peer),
      ap (λ (z : Sides). find (is_number n) z.peers)
          (program whole ∙ closed_is n false (charged_by (not (is_headed e) && k.has_brought) e.number it.entry.exchange x.parts) y.peers (with_line line own.peer) piped_there opens)
          ∙ find_set n (with_line line own.peer) (closing_as (with_line line own.peer)) y.peers (numbered n (with_line line own.peer) y.peers piped_there) piped_there,
      refl,
    )

  -- ---- nothing stands in its line

  no_line : front_of_line s k ≡ None → k.line ≡ []
  no_line none = by k.line refl none (own.shows.pipe open_conn.goes_on).line
    where
      by : (ns : List ℕ) → k.line ≡ ns → (elim ns as (λ t. Option Exchange) [ [] ↦ None | m ∷ rest ↦ exchange s m ]) ≡ None → ShowsLine s k.line own.peer.pipe.asks → k.line ≡ []
      by [] is none shown = is
      by (m ∷ ms) is none shown = absurd (some_there m ms own.peer.pipe.asks none (subst (λ (ns : List ℕ). ShowsLine s ns own.peer.pipe.asks) is shown))
        where
          some_there : (m : ℕ) (ms : List ℕ) (asks : List Ask) → exchange s m ≡ None → ShowsLine s (m ∷ ms) asks → ⊥
          some_there m ms [] none shown = absurd shown
          some_there m ms (ask ∷ asks) none shown = absurd (none_some shown.0.0 (sym none ∙ shown.0.1))

  same_closed : k.line ≡ [] → close_conn false k s ≡ close_conn true k s
  unfolding close_conn each_exchange
  same_closed none = by k.line none (on_conn k.number emptied s)
    where
      by : (ns : List ℕ) → ns ≡ [] → (t : State) → each_exchange (lose_place false) ns t ≡ each_exchange (lose_place (true && not k.has_brought)) ns t
      by [] is t = refl
      by (m ∷ ms) is t = absurd (cc is)

  none_is : front_of_line s k ≡ None → ShowsSides number name (bad_response n y) (close_conn true k s)
  none_is none =
      subst (λ (z : Sides). ShowsSides number name z (close_conn true k s)) (sym (ap (λ (ns : List ℕ). bad_on n (slice_get ns 0) y) (line_is ∙ no_line none)))
      (subst (λ (t : State). ShowsSides number name (closed_conn n false y) t) (same_closed (no_line none)) (with_pipe_too false x.parts (close_conn false k s) (shuts number name x s shows n false k open_conn.there)))

  early_by : (o : Option Exchange) → front_of_line s k ≡ o → not (is_some_with is_outstanding o) ≡ true → ShowsSides number name (bad_response n y) (close_conn true k s)
  early_by None is early = none_is is
  early_by (Some e) is early = early_is e is (by (is_outstanding e) early)
    where
      by : (b : Bool) → not b ≡ true → b ≡ false
      by false is = refl
      by true is = absurd (true_false (sym is))

pub early_ones : EarlyOnesAreTheLaws
early_ones number name x s shows n k line is early = early_by number name x s shows n k line is (front_of_line s k) refl early

pub bad_heads : BadHeadsAreTheLaws
bad_heads number name x s shows n k e line due none = head_is number name x s shows n k line due.on e due.front due.whole none

pub bad_bodies : BadBodiesAreTheLaws
bad_bodies number name x s shows n k e line due headed = body_is number name x s shows n k line due.on e due.front due.whole headed
