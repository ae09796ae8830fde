-- The connection of an origin ended, and with it the body of the response that was begun there.
use Rattle.std.proofs.Common.{◌≡◌, ◌≤◌, refl, sym, subst, ap, ap₂, ◌∙◌, ℕ, Bool, true, false, not, ◌==◌, ◌&&◌, cond, filter, find, length, map, List, [], ◌∷◌, ◌++◌, Some, None, Option, arith}
use Rattle.std.specs.Prelude.{count_by, option_and_then, option_map, slice_get}
use Rattle.pp_bodies_law.proofs.Ended.{closes as closes_behind}
use Rattle.pp_bodies_law.specs.Ends.{finished_by_law, over_in}
use Rattle.pp_cache_law.proofs.Finds.{find_mapped, find_passes}
use Rattle.pp_cache_law.proofs.Framing.{frames_of, the_same}
use Rattle.pp_cache_law.proofs.PairLemmas.{count_mapped_same, joined_none}
use Rattle.pp_turns_law.proofs.Orderly.{closed as closed_may, ended_orderly, found, mapped, shorter}
use Rattle.pp_turns_law.proofs.Own.{HasEntry, has_entry}
use Rattle.pp_turns_law.proofs.Peers.{HasPeer, find_set, set_twice}
use Rattle.pp_turns_law.specs.Sides.{AreOrderly, IsOrderly, ShowsSides}
use Rattle.pp_desk.specs.Closings.{Sides, closed_conn}
use Rattle.pp_flow.specs.Changes.{entry_of, line_of}
use Rattle.pp_flow.specs.declared.entry.Entry.{Entry}
use Rattle.pp_flow_law.proofs.Entries.{same_number}
use Rattle.pp_flow_law.proofs.Framed.{frames as flow_frames}
use Rattle.pp_flow_law.specs.Frames.{emptied, still}
use Rattle.pp_flow_law.specs.Tables.{line_at, line_in, none_leaves}
use Rattle.pp_law.specs.Connections.{close_conn, conn, each_exchange, end_exchange, exchange, front_of_line, is_conn, lose_place, on_conn, without_ask}
use Rattle.pp_law.specs.Lists.{Bytes}
use Rattle.pp_law.specs.Responses.{close_this, finish, finish_first, may_go_on, rested}
use Rattle.pp_law.specs.State.{State, Answer, Conn, Exchange}
use Rattle.pp_origins.specs.Responses.{closed_unless, finished as finished_in_turn, goes_on_by, response_whole, whole_for}
use Rattle.pp_peers.specs.Peers.{is_number, with_peer, with_pipe}
use Rattle.pp_peers.specs.declared.peers.Peer.{Peer}
use Rattle.pp_peers_law.specs.Asked.{AreDistinct}
use Rattle.pp_pipe.specs.Line.{Line}
use Rattle.pp_states_law.proofs.Alone.{line_distinct}
use Rattle.pp_states_law.proofs.Asked.{all_as, frames, itself}
use Rattle.pp_states_law.proofs.Ended.{none_out}
use Rattle.pp_states_law.proofs.Lines.{same_itself}
use Rattle.pp_states_law.specs.Decisions.{AreApart}
use Rattle.pp_states_law.specs.States.{ShowsState}
use Rattle.pp_state.specs.Ends.{Parts}
use Rattle.pp_state.specs.Lines.{lost_line}
use Rattle.pp_states_law.proofs.Closed.{closes as closes_line}
use Rattle.pp_states_law.proofs.Told.{conn_next, told_next}
use Rattle.pp_states_law.specs.Lines.{AllGo}
use Rattle.pp_states_law.specs.Steps.{ShowsSteps, whole}
use Rattle.pp_endings_law.proofs.Emptied.{close_again, closed_this}
use Rattle.pp_endings_law.proofs.GoneShort.{all_closing, apart_set, closing_alone, emptied_same, ended_conns, finished_conns, found_set, go_as, go_behind, line_else, open_peer, peer, piped, piped_there, set_conns}
use Rattle.pp_endings_law.proofs.Pipes.{closed_again, closed_is, numbered, peer_over, with_line}
use Rattle.pp_endings_law.specs.Gone.{IsAnswering, MayBeGone}

-- ---- a line is closed while it still has to be left

lost_as : (counts : Bool) (k j : Conn) (s t : State) → j.number ≡ k.number → j.line ≡ k.line → j.has_brought ≡ k.has_brought → on_conn k.number emptied s ≡ on_conn k.number emptied t → close_conn counts j s ≡ close_conn counts k t
unfolding close_conn
lost_as counts k j s t number line brought same =
    ap (λ (m : ℕ). each_exchange (lose_place (counts && not j.has_brought)) j.line (on_conn m emptied s)) number
    ∙ ap (λ (u : State). each_exchange (lose_place (counts && not j.has_brought)) j.line u) same
    ∙ ap₂ (λ (b : Bool) (ns : List ℕ). each_exchange (lose_place (counts && not b)) ns (on_conn k.number emptied t)) brought line

module _ (number : ℕ → ℕ) (name : Bytes) (x : Sides) (s : State) (shows : ShowsSides number name x s) (n : ℕ) (k : Conn) (may : MayBeGone n s k) (a : Answer) (an : IsAnswering s k) (pipe : Line) where
  abbrev e : Exchange
  e = an.first

  it : HasEntry number x.parts.flow e
  it = has_entry number none_leaves x.parts.flow s shows.steps.shows.exchanges e an.known

  kn : k.number ≡ n
  kn = same_number k.number n (find_passes (is_conn n) s.conns k may.there)

  abbrev own : HasPeer s n x.peers k
  own = peer number name x s shows n k may

  abbrev behind : State
  behind = end_exchange e.number (finished_by_law e s)

  abbrev done : State
  done = on_conn n (rested a.head) behind

  abbrev over : Parts
  over = over_in it.entry.exchange x.parts

  -- its peer behind it
  abbrev last : Peer
  last = record own.peer { pipe = pipe; has_brought = true; is_closing = true }

  abbrev last_peers : List Peer
  last_peers = with_peer n last x.peers

  there_at : conn s k.number ≡ Some k
  there_at = ap (λ (m : ℕ). conn s m) kn ∙ may.there

  emptied_shows : ShowsSteps number name (still n an.others none_leaves) last_peers over (on_conn n emptied done)
  emptied_shows =
      subst (λ (m : ℕ). ShowsSteps number name (still m an.others none_leaves) (with_peer m last x.peers) over (on_conn m emptied (on_conn m (rested a.head) behind))) kn
      (closes_behind number name none_leaves x.peers x.parts s shows.steps it.entry.exchange e own.peer k an.others a.head pipe
      (record { asker = it.shows.asker; aim = it.shows.aim; number = it.shows.number; coming = shows.may.go.coming e.number e an.known })
      shows.may.apart
      (record {
        linked = ap (λ (m : ℕ). find (is_number m) x.peers) kn ∙ own.there;
        there = there_at;
        goes_on = may.goes_on;
        line = an.line;
        known = an.known;
        whole = an.whole;
      }))

  -- the law's connection behind it
  abbrev rests : Conn
  rests = rested a.head (without_ask e.number k)

  conn_behind : conn behind n ≡ Some (without_ask e.number k)
  conn_behind =
      ap (λ (ks : List Conn). find (is_conn n) ks) (ended_conns e.number (finished_by_law e s) ∙ ap (λ (ks : List Conn). map (without_ask e.number) ks) (finished_conns e s))
      ∙ find_mapped (is_conn n) (without_ask e.number) s.conns (λ j. refl)
      ∙ ap (λ (o : Option Conn). option_map (without_ask e.number) o) may.there

  conn_done : conn done n ≡ Some rests
  conn_done = found_set n (rested a.head) behind (without_ask e.number k) (λ j. refl) conn_behind

  distinct : AreDistinct (e.number ∷ an.others)
  distinct = subst (λ (ns : List ℕ). AreDistinct ns) an.line (line_distinct number none_leaves x.parts.flow s k shows.steps.shows.exchanges there_at)

  line_rests : rests.line ≡ an.others
  line_rests =
      ap (λ (ns : List ℕ). filter (λ m. not (m == e.number)) ns) an.line
      ∙ ap (λ (b : Bool). cond (not b) (e.number ∷ filter (λ m. not (m == e.number)) an.others) (filter (λ m. not (m == e.number)) an.others)) (same_itself e.number)
      ∙ none_out e.number an.others distinct.0

  -- it is closing, and has its line still
  abbrev star : State
  star = on_conn n closing_alone done

  conn_star : conn star n ≡ Some (closing_alone rests)
  conn_star = found_set n closing_alone done rests (λ j. refl) conn_done

  line_star : line_at star n ≡ an.others
  line_star = ap line_in conn_star ∙ line_rests

  line_emptied : line_at (on_conn n emptied done) n ≡ []
  line_emptied = ap line_in (found_set n emptied done rests (λ j. refl) conn_done)

  lines_same : (j : ℕ) → none_leaves j ++ line_at star j ≡ still n an.others none_leaves j ++ line_at (on_conn n emptied done) j
  lines_same j = by (j == n) refl
    where
      by : (b : Bool) → (j == n) ≡ b → none_leaves j ++ line_at star j ≡ still n an.others none_leaves j ++ line_at (on_conn n emptied done) j
      by true is =
          let same : j ≡ n = same_number j n is in
          ap (λ (i : ℕ). line_at star i) same ∙ line_star
          ∙ sym (joined_none an.others)
          ∙ sym (ap₂ (λ (left line : List ℕ). left ++ line) (ap (λ (b : Bool). cond b an.others []) is) (ap (λ (i : ℕ). line_at (on_conn n emptied done) i) same ∙ line_emptied))
      by false off =
          line_else n j closing_alone done (λ i. refl) off
          ∙ sym (ap₂ (λ (left line : List ℕ). left ++ line) (ap (λ (b : Bool). cond b an.others []) off) (line_else n j emptied done (λ i. refl) off))

  star_shows : ShowsSteps number name none_leaves last_peers over star
  unfolding on_conn
  star_shows =
      record {
        shows = stands emptied_shows.shows;
        order = emptied_shows.order;
        told = told_next number over.cache (on_conn n emptied done).next_instance star.next_instance over.flow (conn_next n closing_alone done ∙ sym (conn_next n emptied done)) emptied_shows.told;
        refused = emptied_shows.refused;
      }
    where
      stands : ShowsState number name [] (still n an.others none_leaves) (whole over last_peers) (on_conn n emptied done) → ShowsState number name [] none_leaves (whole over last_peers) star
      stands before = record {
        clients = before.clients;
        exchanges = flow_frames number (still n an.others none_leaves) over.flow (on_conn n emptied done) before.exchanges none_leaves star (record { exchanges = refl; next = refl; lines = lines_same });
        table =
            frames_of number over.cache (on_conn n emptied done) before.table over.cache star (record { instances = refl; lives = refl; chunks = refl; extents = refl })
            (record { instances = refl; made = the_same (on_conn n emptied done).next_instance; chunks = refl; followers = λ id. refl; kept = λ y. refl });
        conns = all_closing star n last_peers done.conns (frames (on_conn n emptied done) star last_peers (on_conn n emptied done).conns (all_as (on_conn n emptied done) star (λ m. itself (exchange (on_conn n emptied done) m)) (on_conn n emptied done).conns) before.conns);
      }

  -- ---- the rest of its line is left

  go_done : AllGo done
  go_done = go_as behind done (set_conns n (rested a.head) behind).1 (set_conns n (rested a.head) behind).2 (go_behind s e an.known may.once shows.may.go)

  apart_behind : AreApart behind
  apart_behind m =
      subst (λ (ks : List Conn). count_by (is_conn m) ks ≤ 1) (sym (ended_conns e.number (finished_by_law e s) ∙ ap (λ (ks : List Conn). map (without_ask e.number) ks) (finished_conns e s)))
      (subst (λ (i : ℕ). i ≤ 1) (sym (count_mapped_same (is_conn m) (without_ask e.number) s.conns (λ j. refl))) (shows.may.apart m))

  apart_done : AreApart done
  apart_done = apart_set n (rested a.head) behind (λ j. refl) apart_behind

  orderly_done : AreOrderly done.conns
  orderly_done =
      subst (λ (ks : List Conn). AreOrderly ks) (sym (set_conns n (rested a.head) behind).0)
      (mapped (λ j. elim (is_conn n j) as (λ t. Conn) [ true ↦ rested a.head j | false ↦ j ]) (λ j one. by j one (is_conn n j)) behind.conns
      (ended_orderly e.number (finished_by_law e s) (subst (λ (ks : List Conn). AreOrderly ks) (sym (finished_conns e s)) shows.may.orderly)))
    where
      by : (j : Conn) → IsOrderly j → (b : Bool) → IsOrderly (elim b as (λ t. Conn) [ true ↦ rested a.head j | false ↦ j ])
      by j one true = record { closed = one.closed; few = one.few }
      by j one false = one

  short : length (closing_alone rests).line ≤ 1024
  short = omega (arith, shorter (λ m. not (m == e.number)) k.line, (found (is_conn n) s.conns k may.there shows.may.orderly).few)

  last_there : find (is_number n) last_peers ≡ Some last
  last_there = find_set n own.peer last x.peers (numbered n own.peer x.peers own.there) own.there

  abbrev left_parts : Parts
  left_parts = lost_line 1024 n false over

  left_shows : ShowsSteps number name none_leaves last_peers left_parts (close_conn true rests done)
  left_shows =
      subst (λ (t : State). ShowsSteps number name none_leaves last_peers left_parts t)
      (lost_as true rests (closing_alone rests) star done refl refl refl (ap (λ (m : ℕ). on_conn m emptied star) kn ∙ emptied_same n done ∙ sym (ap (λ (m : ℕ). on_conn m emptied done) kn)))
      (subst (λ (ps : List Peer). ShowsSteps number name none_leaves ps left_parts (close_conn true (closing_alone rests) star)) (set_twice n last last x.peers (numbered n own.peer x.peers own.there))
      (closes_line number name none_leaves last_peers over star star_shows n 1024 true last (closing_alone rests) (λ j. refl) (apart_set n closing_alone done (λ j. refl) apart_done)
      (go_as done star (set_conns n closing_alone done).1 (set_conns n closing_alone done).2 go_done) last_there conn_star short))

  whole_shows : ShowsSides number name (record { parts = left_parts; peers = last_peers }) (close_conn true rests done)
  whole_shows = record { steps = left_shows; may = closed_may true rests done (record { apart = apart_done; orderly = orderly_done; go = go_done }) }

  -- ---- the program's

  abbrev brought : Peer
  brought = record own.peer { pipe = pipe; has_brought = true }

  abbrev second : Sides
  second = record { parts = over; peers = with_peer n brought x.peers }

  brought_there : find (is_number n) (with_peer n brought x.peers) ≡ Some brought
  brought_there = find_set n own.peer brought x.peers (numbered n own.peer x.peers own.there) own.there

  closed_second : closed_conn n true second ≡ record { parts = left_parts; peers = last_peers }
  closed_second =
      closed_is n true over (with_peer n brought x.peers) brought brought_there (open_peer number name x s shows n k may)
      ∙ ap (λ (ps : List Peer). let y : Sides = record { parts = left_parts; peers = ps } in y) (set_twice n brought last x.peers (numbered n own.peer x.peers own.there))

  twice_closed : (b : Bool) → closed_conn n true (closed_unless b n second) ≡ record { parts = left_parts; peers = last_peers }
  twice_closed true = closed_second
  twice_closed false = ap (closed_conn n true) closed_second ∙ closed_again n true (record { parts = left_parts; peers = last_peers }) last last_there refl

  line_is : line_of n x.parts.flow.placed ≡ e.number ∷ an.others
  line_is = shows.steps.shows.exchanges.lines n ∙ ap (λ (o : Option Conn). line_in o) may.there ∙ an.line

  abbrev brought_if : Option Peer → List Peer → List Peer
  brought_if None ps = ps
  brought_if (Some p) ps = with_peer n (record p { has_brought = true }) ps

  abbrev in_turn : Parts
  in_turn = finished_in_turn it.entry.exchange x.parts

  program : closed_conn n true (response_whole n (piped number name x s shows n k may pipe)) ≡ record { parts = left_parts; peers = last_peers }
  program =
      ap (λ (ns : List ℕ). closed_conn n true (whole_for n (option_and_then (λ number. entry_of number x.parts.flow) (slice_get ns 0)) (piped number name x s shows n k may pipe))) line_is
      ∙ ap (λ (o : Option Entry). closed_conn n true (whole_for n o (piped number name x s shows n k may pipe))) it.here
      ∙ ap (λ (o : Option Peer). closed_conn n true (closed_unless (goes_on_by o it.entry.errand.body_left it.entry.errand.binds_connection) n (let y : Sides = record { parts = in_turn; peers = brought_if o (with_pipe n pipe x.peers) } in y)))
      (piped_there number name x s shows n k may pipe)
      ∙ ap (λ (ps : List Peer). closed_conn n true (closed_unless (goes_on_by (Some (with_line pipe own.peer)) it.entry.errand.body_left it.entry.errand.binds_connection) n (let y : Sides = record { parts = in_turn; peers = ps } in y)))
      (peer_over n pipe brought x.peers)
      ∙ twice_closed (goes_on_by (Some (with_line pipe own.peer)) it.entry.errand.body_left it.entry.errand.binds_connection)

  -- ---- the law's

  first_is : front_of_line s k ≡ Some e
  first_is = ap (λ (ns : List ℕ). elim ns as (λ t. Option Exchange) [ [] ↦ None | m ∷ rest ↦ exchange s m ]) an.line ∙ an.known

  abbrev done_if : Bool → State
  done_if b = elim b as (λ t. State) [ true ↦ on_conn k.number (rested a.head) behind | false ↦ close_this k.number (on_conn k.number (rested a.head) behind) ]

  finish_is : finish_first k a s ≡ done_if (may_go_on e a.head)
  unfolding finish_first finish
  finish_is = ap (λ (o : Option Exchange). elim o as (λ t. State) [ None ↦ s | Some d ↦ finish k d a s ]) first_is

  law_if : (b : Bool) → close_this k.number (done_if b) ≡ close_conn true rests done
  law_if b =
      ap (λ (m : ℕ). close_this m (elim b as (λ t. State) [ true ↦ on_conn m (rested a.head) behind | false ↦ close_this m (on_conn m (rested a.head) behind) ])) kn ∙ by b
    where
      by : (b : Bool) → close_this n (elim b as (λ t. State) [ true ↦ done | false ↦ close_this n done ]) ≡ close_conn true rests done
      by true = (closed_this n done rests conn_done).0
      by false = ap (close_this n) (closed_this n done rests conn_done).0 ∙ close_again n (close_conn true rests done) (closed_this n done rests conn_done).1

  law : close_this k.number (finish_first k a s) ≡ close_conn true rests done
  law = ap (close_this k.number) finish_is ∙ law_if (may_go_on e a.head)

  pub whole_ends : ShowsSides number name (closed_conn n true (response_whole n (piped number name x s shows n k may pipe))) (close_this k.number (finish_first k a s))
  whole_ends =
      subst (λ (y : Sides). ShowsSides number name y (close_this k.number (finish_first k a s))) (sym program)
      (subst (λ (t : State). ShowsSides number name (record { parts = left_parts; peers = last_peers }) t) (sym law) whole_shows)
