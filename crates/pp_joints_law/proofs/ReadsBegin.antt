-- Where the read of an origin begins nothing changed since the wait of what its moments rest on.
use Rattle.std.proofs.Common.{◌≡◌, ◌≤◌, ◌<◌, ◌+◌, ◌⊎◌, inl, inr, refl, sym, subst, ap, ◌∙◌, ℕ, length, List, Option, Some, None, le_refl, arith}
use Rattle.std.specs.Prelude.{count_by}
use Rattle.pp_cache_law.proofs.Alike.{room_of}
use Rattle.pp_cache_law.specs.Outdated.{AreNamed, AreNoted}
use Rattle.pp_cache_law.specs.Tables.{ShowsChunk}
use Rattle.pp_desk.specs.Closings.{Sides}
use Rattle.pp_desk.specs.Marks.{marked_seat}
use Rattle.pp_desk.specs.declared.desk.Desk.{Desk}
use Rattle.pp_holes.specs.Places.{Chunk}
use Rattle.pp_keeps_law.specs.Stands.{HasOpenNames}
use Rattle.pp_law.specs.After.{event, owing}
use Rattle.pp_law.specs.Chunks.{floor, trigger}
use Rattle.pp_law.specs.Connections.{conn, is_conn, on_client, on_conn}
use Rattle.pp_law.specs.Lists.{Bytes}
use Rattle.pp_law.specs.Phases.{in_phase}
use Rattle.pp_law.specs.Replies.{regained}
use Rattle.pp_law.specs.State.{State, Conn, Entry, Owed, Term, Handling, ReadOf}
use Rattle.pp_law.specs.Table.{rows}
use Rattle.pp_law.specs.Turn.{marked_client, marked_conn, touch}
use Rattle.pp_laws.proofs.Lists.{in_find}
use Rattle.pp_laws_bounds.proofs.Kept.{facts_of as kept_facts}
use Rattle.pp_laws_pool.proofs.View.{facts_of, holds}
use Rattle.pp_laws_pool.proofs.WalkClients.{regained-keeps}
use Rattle.pp_laws_pool.proofs.WalkSteps.{touch-keeps}
use Rattle.pp_laws_turn.proofs.Lifts.{few_rows_on, kept_on, small_on, turn_on}
use Rattle.pp_laws_turn.proofs.View.{facts_of as turn_facts}
use Rattle.pp_objects.specs.Instances.{Instance, is_row}
use Rattle.pp_origins.specs.Gots.{Both, Makes, both}
use Rattle.pp_proxy.specs.Handling.{Wakes}
use Rattle.pp_proxy.specs.Moving.{Moving}
use Rattle.pp_shelf_law.specs.Shelf.{ShowsShelf}
use Rattle.pp_seats.specs.declared.seat.Seat.{Seat}
use Rattle.pp_state.specs.Ends.{Parts, numbers_of, on_seat_where, parts, place_of}
use Rattle.pp_state.specs.declared.state.State.{State as Turn}
use Rattle.pp_store.specs.Kept.{KeptMap}
use Rattle.pp_world.specs.Log.{Log}
use Rattle.pp_joints_law.proofs.CarriedOn.{IsBehind, Set}
use Rattle.pp_joints_law.proofs.ClearedParts.{Stays}
use Rattle.pp_joints_law.proofs.DeskBehind.{wakes_behind, wakes_stay}
use Rattle.pp_joints_law.proofs.EnoughLogs.{waits_leave_enough}
use Rattle.pp_joints_law.proofs.Evictions.{alike_first, alike_still, lengths}
use Rattle.pp_joints_law.proofs.LinesAlone.{IsLone, lone_walk, same_lone}
use Rattle.pp_joints_law.proofs.LinesShrink.{HasLine, line_walk, same_line, set_line}
use Rattle.pp_joints_law.specs.Behind.{StandsBefore}
use Rattle.pp_joints_law.specs.DataTies.{EvictAlike}
use Rattle.pp_joints_law.specs.HeadsNote.{IsTied}
use Rattle.pp_joints_law.specs.MomentsNote.{IsOnShelf}
use Rattle.pp_joints_law.specs.ReadsBegin.{HasLeftEnough, ReadsBeginNoted}
use Rattle.pp_joints_law.specs.ReadsNoteAll.{LineGoesAlone}

-- ---- in the law

record IsOwed (s t : State) : Type 0 where
  entries : t.entries ≡ s.entries
  displaced : t.displaced ≡ s.displaced
  forgotten : t.forgotten ≡ s.forgotten
  evicting : t.is_evicting ≡ s.is_evicting
  set : trigger t ≡ trigger s
  disk : (shelf : KeptMap) → ShowsShelf shelf s → HasOpenNames s → IsOnShelf shelf t

owed : (o : Owed) (k : ℕ) (s : State) → IsOwed s (event (owing o k s))
unfolding event owing touch regained on_conn on_client
owed o k s = record {
  entries = refl;
  displaced = refl;
  forgotten = refl;
  evicting = refl;
  set = refl;
  disk = λ shelf shows names. record { handling = refl; shows = shows; names = names };
}

touched_line : (n most k : ℕ) (s : State) → HasLine n most s → HasLine n most (touch k s)
unfolding touch on_client
touched_line n most k s h = set_line n most k (marked_conn s.clock) (on_client k (marked_client s.clock) s) (λ j. refl) (λ j. le_refl (length j.line)) (same_line n most s (on_client k (marked_client s.clock) s) refl h)

owed_line : (o : Owed) (n most k : ℕ) (s : State) → HasLine n most s → HasLine n most (event (owing o k s))
unfolding event owing
owed_line o n most k s h =
    regained-keeps (line_walk n most) (in_phase Handling (record (touch k s) { owed = o })) (same_line n most (touch k s) (in_phase Handling (record (touch k s) { owed = o })) refl (touched_line n most k s h))

owed_alone : (o : Owed) (n k : ℕ) (s : State) → IsLone n s → IsLone n (event (owing o k s))
unfolding event owing
owed_alone o n k s h =
    regained-keeps (lone_walk n) (in_phase Handling (record (touch k s) { owed = o })) (same_lone n (touch k s) (in_phase Handling (record (touch k s) { owed = o })) refl refl (touch-keeps (lone_walk n) k s h))

fits : (a b c d m : ℕ) → a ≡ b → c ≤ d → d ≡ m → b ≤ 768 → m ≤ 1024 → a + c + 224 < 2048
fits a b c d m one two three four five = omega (arith, one, two, three, four, five)

below : (a b m n : ℕ) → a ≡ b → m ≡ n → b < n → a < m
below a b m n one two less = omega (arith, one, two, less)

within : (a b m n : ℕ) → a ≡ b → m ≡ n → b ≤ n → a ≤ m
within a b m n one two less = omega (arith, one, two, less)

le_of : (a b : ℕ) → a ≡ b → a ≤ b
le_of a b is = omega (arith, is)

chunks_on_one : (o : Option ℕ) (f : Seat → Seat) (p : Parts) → (on_seat_where o f p).cache.chunks ≡ p.cache.chunks
chunks_on_one None f p = refl
chunks_on_one (Some i) f p = refl

-- ---- both

module _ (terms : List Term) (log : Log) (number : ℕ → ℕ) (shelf : KeptMap) (k : ℕ) (x : Moving) (woken : Desk) (begins : Both) (s : State) (before : StandsBefore terms log number shelf x s) (wakes : Wakes k x.desk woken) (makes : Makes (λ z. z) (both woken) begins) (few : length x.desk.state.cache.outdated ≤ 768) where
  abbrev t : State
  t = event (owing (ReadOf k) k s)

  law : IsOwed s t
  law = owed (ReadOf k) k s

  stays : Stays (parts x.desk.state) (parts woken.state)
  stays = wakes_stay k x.desk woken wakes

  outdated : begins.state.cache.outdated ≡ x.desk.state.cache.outdated
  outdated = ap (λ (z : Sides). z.parts.cache.outdated) makes.is ∙ stays.same

  instances : begins.state.cache.instances ≡ woken.state.cache.instances
  instances = ap (λ (z : Sides). z.parts.cache.instances) makes.is

  fewer : count_by is_row begins.state.cache.instances ≤ count_by is_row x.desk.state.cache.instances
  fewer = subst (λ (is : List Instance). count_by is_row is ≤ count_by is_row x.desk.state.cache.instances) (sym instances) stays.fewer

  short : (j : Conn) → conn t k ≡ Some j → length j.line ≤ 8
  short = facts_of (owed_line (ReadOf k) k 8 k s (holds (λ j found. (kept_facts (kept_on terms s log before.obeys)).lines.short j (in_find (is_conn k) j s.conns found).0)))

  alone : LineGoesAlone k t
  alone =
      facts_of
      (owed_alone (ReadOf k) k k s (holds (λ j e found there at is. (turn_facts (turn_on terms s log before.obeys)).lined.alone j e (in_find (is_conn k) j s.conns found).0 there at is)))

  room : length begins.state.cache.outdated + count_by is_row begins.state.cache.instances + 224 < 2048
  room =
      fits (length begins.state.cache.outdated) (length x.desk.state.cache.outdated) (count_by is_row begins.state.cache.instances) (count_by is_row x.desk.state.cache.instances) (rows s) (ap (λ (ns : List Bytes). length ns) outdated) fewer
      (room_of number x.desk.state.cache s before.stands.desk.turn.steps.shows.table.table) few (few_rows_on s (small_on terms s log before.obeys))

  tied : IsTied begins.state t
  tied = record {
    noted =
        subst (λ (ns : List Bytes). AreNoted ns t.displaced t.entries) (sym outdated)
        (subst (λ (es : List Entry). AreNoted x.desk.state.cache.outdated t.displaced es) (sym law.entries) (subst (λ (ks : List Bytes). AreNoted x.desk.state.cache.outdated ks s.entries) (sym law.displaced) before.carried.disk.noted));
    named = subst AreNamed (sym law.entries) before.carried.disk.shows.named;
    leaves = record {
      forgotten = ap (λ (p : Turn). p.forgotten) makes.rest ∙ ap (λ (d : Desk). d.state.forgotten) wakes.touches.rest ∙ ap (λ (d : Desk). d.state.forgotten) wakes.regains.rest ∙ before.forgotten ∙ sym law.forgotten;
    };
  }

  first : IsBehind x.desk woken
  first = wakes_behind k x.desk woken wakes

  chunks : begins.state.cache.chunks ≡ x.desk.state.cache.chunks
  chunks =
      ap (λ (z : Sides). z.parts.cache.chunks) makes.is ∙ ap (λ (z : Sides). z.parts.cache.chunks) wakes.touches.is
      ∙ chunks_on_one (place_of k (numbers_of wakes.anew.state.seats.items)) (marked_seat wakes.anew.state.now) (parts wakes.anew.state) ∙ ap (λ (d : Desk). d.state.cache.chunks) wakes.regains.rest

  evict : EvictAlike begins.state t
  evict =
      alike_still x.desk.state begins.state s t
      (record {
        turn = ap (λ (p : Turn). p.is_evicting) makes.rest ∙ ap (λ (z : Set). z.evicting) first.set;
        law = law.evicting;
        trigger = ap (λ (p : Turn). p.trigger) makes.rest ∙ ap (λ (z : Set). z.trigger) first.set;
        floor = ap (λ (p : Turn). p.floor) makes.rest ∙ ap (λ (z : Set). z.floor) first.set;
        few = le_of (length begins.state.cache.chunks) (length x.desk.state.cache.chunks) (ap (λ (cs : List Chunk). length cs) chunks);
      })
      (alike_first x.desk.state.is_evicting s.is_evicting (length x.desk.state.cache.chunks) x.desk.state.trigger x.desk.state.floor before.evicting (as_the_law (waits_leave_enough terms s log before.obeys before.stands.law.at)))
    where
      used : length x.desk.state.cache.chunks ≡ length s.chunks
      used = lengths (ShowsChunk number x.desk.state.cache) x.desk.state.cache.chunks s.chunks before.stands.desk.turn.steps.shows.table.table.chunks

      as_the_law : HasLeftEnough s → (length x.desk.state.cache.chunks < x.desk.state.trigger) ⊎ (length x.desk.state.cache.chunks ≤ x.desk.state.floor)
      as_the_law (inl less) = inl (below (length x.desk.state.cache.chunks) (length s.chunks) x.desk.state.trigger (trigger s) used before.carried.set.force.trigger less)
      as_the_law (inr less) = inr (within (length x.desk.state.cache.chunks) (length s.chunks) x.desk.state.floor (floor s) used before.carried.set.force.floor less)

  set : begins.state.trigger ≡ trigger t
  set =
      ap (λ (p : Turn). p.trigger) makes.rest ∙ ap (λ (z : Set). z.trigger) first.set ∙ before.carried.set.force.trigger ∙ sym law.set

pub reads_begin : ReadsBeginNoted
reads_begin terms log number shelf k x woken begins s before wakes makes few = record {
  short = short terms log number shelf k x woken begins s before wakes makes few;
  alone = alone terms log number shelf k x woken begins s before wakes makes few;
  room = room terms log number shelf k x woken begins s before wakes makes few;
  notes = record {
    tied = tied terms log number shelf k x woken begins s before wakes makes few;
    evict = evict terms log number shelf k x woken begins s before wakes makes few;
    set = set terms log number shelf k x woken begins s before wakes makes few;
    disk = (owed (ReadOf k) k s).disk shelf before.carried.disk.shows before.carried.disk.names;
  };
}
