-- A response is whole: its exchange is over as by the law.
use Rattle.std.proofs.Common.{◌≡◌, ◌≤◌, ◌<◌, refl, sym, subst, ap, ap₂, ◌∙◌, ℕ, Bool, true, false, not, ◌==◌, ◌&&◌, find, length, map, List, [], ◌∷◌, Some, None, Option, arith}
use Rattle.std.specs.Prelude.{count_by, option_and_then, option_map, slice_get}
use Rattle.pp_bodies_law.proofs.Ended.{rests}
use Rattle.pp_bodies_law.specs.Ends.{finished_by_law, over_in}
use Rattle.pp_cache_law.proofs.Finds.{find_mapped, find_passes}
use Rattle.pp_cache_law.proofs.Numbers.{some_is}
use Rattle.pp_cache_law.proofs.PairLemmas.{count_mapped_same}
use Rattle.pp_turns_law.proofs.Orderly.{ended_orderly, mapped}
use Rattle.pp_turns_law.proofs.Own.{HasEntry, has_entry}
use Rattle.pp_turns_law.proofs.Peers.{HasPeer, find_set}
use Rattle.pp_turns_law.specs.Sides.{AreOrderly, IsOrderly, MayClose, ShowsSides}
use Rattle.pp_decide.specs.Patience.{may_go_on as may_stay}
use Rattle.pp_desk.specs.Closings.{Sides, closed_conn}
use Rattle.pp_endings_law.proofs.Emptied.{close_again, closed_this}
use Rattle.pp_endings_law.proofs.GoneShort.{apart_set, ended_conns, finished_conns, found_set, go_as, go_behind, open_peer, peer, piped_there, set_conns}
use Rattle.pp_endings_law.proofs.GoneWhole.{whole_ends}
use Rattle.pp_endings_law.proofs.Pipes.{closed_again, closed_is, closing_as, numbered, peer_over, with_line}
use Rattle.pp_endings_law.specs.Gone.{IsAnswering, MayBeGone}
use Rattle.pp_flow.specs.Changes.{entry_of, line_of}
use Rattle.pp_flow.specs.declared.entry.Entry.{Entry}
use Rattle.pp_flow_law.proofs.Entries.{same_number}
use Rattle.pp_flow_law.specs.Tables.{line_in, none_leaves}
use Rattle.pp_law.specs.Closing.{is_of}
use Rattle.pp_law.specs.Connections.{conn, end_exchange, exchange, front_of_line, is_conn, is_outstanding, on_conn, without_ask}
use Rattle.pp_law.specs.Lists.{Bytes}
use Rattle.pp_law.specs.Responses.{close_this, finish, finish_first, may_go_on, rested}
use Rattle.pp_law.specs.State.{State, Answer, Conn, Exchange}
use Rattle.pp_origins.specs.Responses.{closed_unless, finished, goes_on_by, response_whole, whole_for}
use Rattle.pp_peers.specs.Peers.{is_number, with_peer, with_pipe}
use Rattle.pp_peers.specs.declared.peers.Peer.{Peer}
use Rattle.pp_peers_law.specs.Peers.{has_alone, ShowsStaying}
use Rattle.pp_pipe.specs.Authentication.{binds_connection}
use Rattle.pp_pipe.specs.Front.{stays_open}
use Rattle.pp_pipe.specs.Line.{Line}
use Rattle.pp_state.specs.Ends.{Parts}
use Rattle.pp_states_law.specs.Decisions.{AreApart}
use Rattle.pp_states_law.specs.Steps.{ShowsSteps}
use Rattle.pp_reads_law.proofs.Fronts.{IsFront, is_front}
use Rattle.pp_reads_law.specs.Bads.{piped}
use Rattle.pp_reads_law.specs.Wholes.{IsAnsweredOn, WholesAreTheLaws, line_behind}

first_true : (a b : Bool) → (a && b) ≡ true → a ≡ true
first_true true b is = refl
first_true false b is = is

-- ---- who goes on behind it

module _ (s : State) (e : Exchange) (n : ℕ) (a : Answer) (known : exchange s e.number ≡ Some e) (may : MayClose s) where
  abbrev pub behind : State
  behind = end_exchange e.number (finished_by_law e s)

  abbrev pub done : State
  done = on_conn n (rested a.head) behind

  conns_are : behind.conns ≡ map (without_ask e.number) s.conns
  conns_are = ended_conns e.number (finished_by_law e s) ∙ ap (λ (ks : List Conn). map (without_ask e.number) ks) (finished_conns e s)

  pub conn_done : (k : Conn) → conn s n ≡ Some k → conn done n ≡ Some (rested a.head (without_ask e.number k))
  conn_done k there =
      found_set n (rested a.head) behind (without_ask e.number k) (λ j. refl)
      (ap (λ (ks : List Conn). find (is_conn n) ks) conns_are ∙ find_mapped (is_conn n) (without_ask e.number) s.conns (λ j. refl) ∙ ap (λ (o : Option Conn). option_map (without_ask e.number) o) there)

  pub done_may : ((m : ℕ) → count_by (is_of m) s.exchanges ≤ 1) → MayClose done
  done_may once = record {
    apart = apart_set n (rested a.head) behind (λ j. refl) apart;
    orderly =
        subst (λ (ks : List Conn). AreOrderly ks) (sym (set_conns n (rested a.head) behind).0)
        (mapped (λ j. elim (is_conn n j) as (λ t. Conn) [ true ↦ rested a.head j | false ↦ j ]) (λ j one. by j one (is_conn n j)) behind.conns
        (ended_orderly e.number (finished_by_law e s) (subst (λ (ks : List Conn). AreOrderly ks) (sym (finished_conns e s)) may.orderly)));
    go = go_as behind done (set_conns n (rested a.head) behind).1 (set_conns n (rested a.head) behind).2 (go_behind s e known once may.go);
  }
    where
      apart : AreApart behind
      apart m =
          subst (λ (ks : List Conn). count_by (is_conn m) ks ≤ 1) (sym conns_are)
          (subst (λ (i : ℕ). i ≤ 1) (sym (count_mapped_same (is_conn m) (without_ask e.number) s.conns (λ j. refl))) (may.apart m))

      by : (j : Conn) → IsOrderly j → (b : Bool) → IsOrderly (elim b as (λ t. Conn) [ true ↦ rested a.head j | false ↦ j ])
      by j one true = record { closed = one.closed; few = one.few }
      by j one false = one

-- ---- the program's, and the law's

module _ (number : ℕ → ℕ) (name : Bytes) (x : Sides) (s : State) (shows : ShowsSides number name x s) (n : ℕ) (k : Conn) (a : Answer) (at : Peer) (e : Exchange) (it : IsAnsweredOn x s n k a at) (front : front_of_line s k ≡ Some e) where
  abbrev may : MayBeGone n s k
  may = it.may

  abbrev pipe : Line
  pipe = line_behind a at

  abbrev first : IsFront s k e
  first = is_front s k e front

  abbrev an : IsAnswering s k
  an = it.may.answers a it.answer

  same_first : an.first ≡ e
  same_first = some_is an.first e (sym (ap (λ (ns : List ℕ). elim ns as (λ t. Option Exchange) [ [] ↦ None | m ∷ rest ↦ exchange s m ]) an.line ∙ an.known) ∙ front)

  whole : is_outstanding e ≡ true
  whole = ap (λ (d : Exchange). is_outstanding d) (sym same_first) ∙ an.whole

  kn : k.number ≡ n
  kn = same_number k.number n (find_passes (is_conn n) s.conns k may.there)

  abbrev own : HasPeer s n x.peers k
  own = peer number name x s shows n k may

  its : own.peer ≡ at
  its = some_is own.peer at (sym own.there ∙ it.linked)

  its_stays : at.stays ≡ stays_open a.head
  its_stays = subst (λ (o : Option Answer). ShowsStaying at.stays o) it.answer (subst (λ (p : Peer). ShowsStaying p.stays k.answer) its (own.shows.stays may.goes_on))

  abbrev entry : HasEntry number x.parts.flow e
  entry = has_entry number none_leaves x.parts.flow s shows.steps.shows.exchanges e first.known

  abbrev brought : Peer
  brought = record at { pipe = pipe; has_brought = true }

  abbrev over : Parts
  over = over_in entry.entry.exchange x.parts

  abbrev second : Sides
  second = record { parts = over; peers = with_peer n brought x.peers }

  abbrev y : Sides
  y = piped n pipe x

  line_is : line_of n x.parts.flow.placed ≡ e.number ∷ first.others
  line_is = shows.steps.shows.exchanges.lines n ∙ ap (λ (o : Option Conn). line_in o) may.there ∙ first.line

  abbrev brought_if : Option Peer → List Peer → List Peer
  brought_if None ps = ps
  brought_if (Some p) ps = with_peer n (record p { has_brought = true }) ps

  there_piped : find (is_number n) y.peers ≡ Some (with_line pipe at)
  there_piped = piped_there number name x s shows n k may pipe ∙ ap (λ (p : Peer). Some (with_line pipe p)) its

  abbrev ends_by : Bool → Sides
  ends_by b = closed_unless b n second

  program : response_whole n y ≡ ends_by (may_stay at.stays entry.entry.errand.body_left entry.entry.errand.binds_connection)
  program =
      ap (λ (ns : List ℕ). whole_for n (option_and_then (λ number. entry_of number x.parts.flow) (slice_get ns 0)) y) line_is
      ∙ ap (λ (o : Option Entry). whole_for n o y) entry.here
      ∙ ap (λ (o : Option Peer). closed_unless (goes_on_by o entry.entry.errand.body_left entry.entry.errand.binds_connection) n (let z : Sides = record { parts = finished entry.entry.exchange x.parts; peers = brought_if o (with_pipe n pipe x.peers) } in z)) there_piped
      ∙ ap (λ (ps : List Peer). closed_unless (may_stay at.stays entry.entry.errand.body_left entry.entry.errand.binds_connection) n (let z : Sides = record { parts = over; peers = ps } in z)) (peer_over n pipe brought x.peers)

  same_test : may_stay at.stays entry.entry.errand.body_left entry.entry.errand.binds_connection ≡ may_go_on e a.head
  same_test =
      ap (λ (b : Bool). may_stay b entry.entry.errand.body_left entry.entry.errand.binds_connection) its_stays
      ∙ ap₂ (λ (m : ℕ) (b : Bool). stays_open a.head && (m == 0) && not b) entry.shows.body_left entry.shows.binds

  -- ---- it stays

  alone : k.may_pipeline ≡ false → has_alone s first.others ≡ false
  alone not_yet = by first.others (few (ap (λ (ns : List ℕ). length ns) (sym first.line)))
    where
      few : length (e.number ∷ first.others) ≡ length k.line → length first.others < 1
      few same = omega (arith, same, it.pipelines not_yet)

      by : (ns : List ℕ) → length ns < 1 → has_alone s ns ≡ false
      by [] less = refl
      by (m ∷ ms) less = absurd (omega (arith, less))

  rests_steps : stays_open a.head ≡ true → ShowsSteps number name none_leaves (with_peer n brought x.peers) over (done s e n a first.known shows.may)
  rests_steps stays =
      subst (λ (m : ℕ). ShowsSteps number name none_leaves (with_peer m brought x.peers) over (on_conn m (rested a.head) (end_exchange e.number (finished_by_law e s)))) kn
      (rests number name none_leaves x.peers x.parts s shows.steps entry.entry.exchange e at k first.others a.head
      (record { asker = entry.shows.asker; aim = entry.shows.aim; number = entry.shows.number; coming = shows.may.go.coming e.number e first.known })
      shows.may.apart
      (record {
        linked = ap (λ (m : ℕ). find (is_number m) x.peers) kn ∙ it.linked;
        there = ap (λ (m : ℕ). conn s m) kn ∙ may.there;
        goes_on = may.goes_on;
        line = first.line;
        known = first.known;
        whole = whole;
      }) alone stays)

  rests_sides : stays_open a.head ≡ true → ShowsSides number name second (on_conn k.number (rested a.head) (end_exchange e.number (finished_by_law e s)))
  rests_sides stays =
      subst (λ (m : ℕ). ShowsSides number name second (on_conn m (rested a.head) (end_exchange e.number (finished_by_law e s)))) (sym kn)
      (record { steps = rests_steps stays; may = done_may s e n a first.known shows.may may.once })

  -- ---- it is closed

  abbrev law_by : Bool → State
  law_by b = elim b as (λ t. State) [ true ↦ on_conn k.number (rested a.head) (end_exchange e.number (finished_by_law e s)) | false ↦ close_this k.number (on_conn k.number (rested a.head) (end_exchange e.number (finished_by_law e s))) ]

  law : finish k e a s ≡ law_by (may_go_on e a.head)
  unfolding finish
  law = refl

  first_law : finish_first k a s ≡ finish k e a s
  unfolding finish_first
  first_law = ap (λ (o : Option Exchange). elim o as (λ t. State) [ None ↦ s | Some d ↦ finish k d a s ]) front

  brought_there : find (is_number n) (with_peer n brought x.peers) ≡ Some brought
  brought_there = find_set n at brought x.peers (numbered n at x.peers it.linked) it.linked

  opens : brought.is_closing ≡ false
  opens = ap (λ (p : Peer). p.is_closing) (sym its) ∙ open_peer number name x s shows n k may

  closed_twice : closed_conn n true (closed_conn n true second) ≡ closed_conn n true second
  closed_twice =
      closed_again n true (closed_conn n true second) (closing_as brought)
      (ap (λ (z : Sides). find (is_number n) z.peers) (closed_is n true over (with_peer n brought x.peers) brought brought_there opens)
      ∙ find_set n brought (closing_as brought) (with_peer n brought x.peers) (numbered n brought (with_peer n brought x.peers) brought_there) brought_there)
      refl

  law_twice : (b : Bool) → b ≡ false → close_this k.number (law_by b) ≡ law_by b
  law_twice true is = absurd (cc is)
  law_twice false is =
      let there : conn (on_conn n (rested a.head) (end_exchange e.number (finished_by_law e s))) n ≡ Some (rested a.head (without_ask e.number k)) = conn_done s e n a first.known shows.may k may.there in
      subst (λ (m : ℕ). close_this m (close_this m (on_conn m (rested a.head) (end_exchange e.number (finished_by_law e s)))) ≡ close_this m (on_conn m (rested a.head) (end_exchange e.number (finished_by_law e s)))) (sym kn)
      (let once = closed_this n (on_conn n (rested a.head) (end_exchange e.number (finished_by_law e s))) (rested a.head (without_ask e.number k)) there in
      subst (λ (t : State). close_this n t ≡ t) (sym once.0) (close_again n _ once.1))

  closes_sides : may_go_on e a.head ≡ false → ShowsSides number name (closed_conn n true second) (law_by false)
  closes_sides off =
      subst (λ (t : State). ShowsSides number name (closed_conn n true second) t)
      (ap (λ (t : State). close_this k.number t) (first_law ∙ law ∙ ap law_by off) ∙ law_twice false refl)
      (subst (λ (z : Sides). ShowsSides number name z (close_this k.number (finish_first k a s)))
      (ap (λ (z : Sides). closed_conn n true z) (program ∙ ap ends_by (same_test ∙ off)) ∙ closed_twice)
      (whole_ends number name x s shows n k may a an pipe))

  pub whole_is : ShowsSides number name (response_whole n y) (finish k e a s)
  whole_is =
      subst (λ (z : Sides). ShowsSides number name z (finish k e a s)) (sym (program ∙ ap ends_by same_test))
      (subst (λ (t : State). ShowsSides number name (ends_by (may_go_on e a.head)) t) (sym law) (by (may_go_on e a.head) refl))
    where
      by : (b : Bool) → may_go_on e a.head ≡ b → ShowsSides number name (ends_by b) (law_by b)
      by true is = rests_sides (first_true (stays_open a.head) (e.body_left == 0) (first_true (stays_open a.head && (e.body_left == 0)) (not (binds_connection e.head.fields)) is))
      by false is = closes_sides is

pub wholes : WholesAreTheLaws
wholes number name x s shows n k a at e it front = whole_is number name x s shows n k a at e it front
