-- Behind the last moment of a read: its last step clears rows as attempts are lost, in the program as in the law, and nothing else; so what is noted,
-- and what has to leave memory, stand behind it.
use Rattle.std.proofs.Common.{◌≡◌, ◌≤◌, ◌<◌, ◌⊎◌, ◌+◌, ◌*◌, ◌-◌, inl, inr, refl, sym, subst, ap, ◌∙◌, ℕ, zero, suc, true, length, min, [], arith}
use Rattle.std.specs.Prelude.{count_by}
use Rattle.pp_answers_law.specs.Fills.{PartHeadsAreTheLaws}
use Rattle.pp_answers_law.specs.Takes.{OwnAnswersAreTheLaws, PartAnswersAreTheLaws, PassedAnswersAreTheLaws, RulesAreTheLaws}
use Rattle.pp_cache.specs.Memory.{Memory}
use Rattle.pp_cache_law.specs.Tables.{ShowsChunk, ShowsTable}
use Rattle.pp_desk.specs.Closings.{Sides}
use Rattle.pp_law.specs.Chunks.{trigger}
use Rattle.pp_law.specs.Connections.{on_conn}
use Rattle.pp_law.specs.Lists.{Bytes}
use Rattle.pp_law.specs.Responses.{got, with_unread}
use Rattle.pp_law.specs.State.{State, Conn}
use Rattle.pp_laws_pool.proofs.View.{Holds, facts_of as less_facts}
use Rattle.pp_laws_pool.proofs.WalkClosings.{close_conn-keeps}
use Rattle.pp_laws_pool.proofs.WalkPieces.{bad_head-keeps}
use Rattle.pp_objects.specs.Instances.{is_row}
use Rattle.pp_obeys.proofs.Frames.{Frame}
use Rattle.pp_origins.specs.Gots.{Both, HasGot, sides_of}
use Rattle.pp_origins.specs.Responses.{bad_response}
use Rattle.pp_reads_law.specs.Bads.{piped}
use Rattle.pp_reads_law.specs.Brings.{IsBehindHead, IsBehindPiece, IsMoment, ReadEnds}
use Rattle.pp_reads_law.specs.Interims.{IsClearedTo}
use Rattle.pp_reads_law.specs.Stops.{ComesTooEarly, FailsAtHead, IsShut, StaysUnread, Stops}
use Rattle.pp_state.specs.Ends.{KeepsRest, parts}
use Rattle.pp_state.specs.declared.state.State.{State as Turn}
use Rattle.pp_store.specs.Kept.{KeptMap}
use Rattle.pp_turns_law.specs.Sides.{ShowsSides}
use Rattle.pp_joints_law.proofs.BytesSteps.{bytes_on}
use Rattle.pp_joints_law.proofs.ClearedLaw.{Cleared, Clears, clears, clears_none, facts_of, rowed}
use Rattle.pp_joints_law.proofs.ClearedParts.{ClearsIn, clears_as, clears_stay, itself, stays_as}
use Rattle.pp_joints_law.proofs.ClearedSteps.{close_conn-clears}
use Rattle.pp_joints_law.proofs.Evictions.{alike_still, few_in_both, lengths}
use Rattle.pp_joints_law.proofs.MomentsAll.{HasNamed, HasPlenty, StandsAt, all_stand}
use Rattle.pp_joints_law.proofs.MomentsHeads.{names_in}
use Rattle.pp_joints_law.proofs.MomentsKept.{disk_by, framed_to}
use Rattle.pp_joints_law.proofs.NoMore.{Less, first, from as uses, set_less}
use Rattle.pp_joints_law.proofs.NotedBehind.{noted_behind, rows_show, tidy_shown}
use Rattle.pp_joints_law.proofs.NotedRefused.{bad_head_clears, bads_clear}
use Rattle.pp_joints_law.proofs.RowsCleared.{AreTidy, rowed_in}
use Rattle.pp_joints_law.specs.DataTies.{EvictAlike}
use Rattle.pp_joints_law.specs.HeadsNote.{IsTied}
use Rattle.pp_joints_law.specs.MomentsNote.{NotesAt}
use Rattle.pp_joints_law.specs.ReadsNoteAll.{MayNoteAll, ReadsNoteBehind}

-- ---- from a moment on: rows are cleared in both, and what has to leave memory stays

pub record IsLeft (x y : Turn) : Type 0 where
  pub forgotten : y.forgotten ≡ x.forgotten
  pub evicting : y.is_evicting ≡ x.is_evicting
  pub trigger : y.trigger ≡ x.trigger
  pub floor : y.floor ≡ x.floor

left_as : (x y : Turn) → y ≡ x → IsLeft x y
left_as x y is = record { forgotten = ap (λ (p : Turn). p.forgotten) is; evicting = ap (λ (p : Turn). p.is_evicting) is; trigger = ap (λ (p : Turn). p.trigger) is; floor = ap (λ (p : Turn). p.floor) is }

pub left_then : (x y z : Turn) → IsLeft x y → IsLeft y z → IsLeft x z
left_then x y z one two = record { forgotten = two.forgotten ∙ one.forgotten; evicting = two.evicting ∙ one.evicting; trigger = two.trigger ∙ one.trigger; floor = two.floor ∙ one.floor }

pub left_rest : (x y : Turn) → KeepsRest x y → IsLeft x y
left_rest x y rest = record { forgotten = ap (λ (p : Turn). p.forgotten) rest; evicting = ap (λ (p : Turn). p.is_evicting) rest; trigger = ap (λ (p : Turn). p.trigger) rest; floor = ap (λ (p : Turn). p.floor) rest }

-- in the law no chunk is used that was not used before, and no eviction begins
abbrev pub UsesNoMore : State → State → Type 0
UsesNoMore s t = Holds (Less s.is_evicting (length s.chunks)) t

pub record IsLedTo (x y : Both) (s t : State) : Type 0 where
  pub law : Clears s t
  pub less : UsesNoMore s t
  pub turn : ClearsIn (parts x.state) (parts y.state)
  pub left : IsLeft x.state y.state

-- nothing of that changes
pub still : (x y : Both) (s t : State) → y ≡ x → t ≡ s → IsLedTo x y s t
still x y s t one two =
    subst (λ (z : Both). IsLedTo x z s t) (sym one)
    (subst (λ (u : State). IsLedTo x x s u) (sym two) (record { law = clears_none s; less = first s; turn = clears_stay (parts x.state) (parts x.state) (itself (parts x.state)); left = left_as x.state x.state refl }))

-- ---- the last step

-- in the law
record IsCleared (s t : State) : Type 0 where
  law : Clears s t
  less : UsesNoMore s t

none_cleared : (s t : State) → t ≡ s → IsCleared s t
none_cleared s t is = subst (λ (u : State). IsCleared s u) (sym is) (record { law = clears_none s; less = first s })

conn_clears : (n : ℕ) (f : Conn → Conn) (s : State) → Clears s (on_conn n f s)
unfolding on_conn
conn_clears n f s = clears (facts_of (clears_none s))

conn_set : (n : ℕ) (f : Conn → Conn) (s t : State) → t ≡ on_conn n f s → IsCleared s t
conn_set n f s t is = subst (λ (u : State). IsCleared s u) (sym is) (record { law = conn_clears n f s; less = set_less s.is_evicting (length s.chunks) n f s (first s) })

cleared_to : (s t : State) (n : ℕ) (k before : Conn) → IsClearedTo s n k before t → IsCleared s t
cleared_to s t n k before (inl is) = none_cleared s t is.1
cleared_to s t n k before (inr is) = conn_set n (with_unread []) s t is.1

module _ (name : Bytes) (shelf : KeptMap) (n : ℕ) (x : Both) (s : State) (bytes : Bytes) (y : Both) (t : State) (it : Stops name shelf n x s bytes y t) where
  unread : StaysUnread x s n y t → IsLedTo x y s t
  unread is = record {
    law = law.law;
    less = law.less;
    turn = clears_stay (parts x.state) (parts y.state) (stays_as (parts x.state) (parts x.state) (parts y.state) (ap (λ (p : Turn). parts p) is.same) (itself (parts x.state)));
    left = left_as x.state y.state is.same;
  }
    where
      by : (t ≡ s) ⊎ ((text : Bytes) × (t ≡ on_conn n (with_unread text) s)) → IsCleared s t
      by (inl same) = none_cleared s t same
      by (inr set) = conn_set n (with_unread set.0) s t set.1

      law : IsCleared s t
      law = by is.law

  shut : IsShut x s n it.conn y t → IsLedTo x y s t
  shut is = record {
    law = law.law;
    less = law.less;
    turn = clears_as (parts x.state) (bad_response n (piped n is.line (sides_of x))).parts (parts y.state) (ap (λ (z : Sides). z.parts) is.makes.is) (bads_clear n (piped n is.line (sides_of x)));
    left = left_rest x.state y.state is.makes.rest;
  }
    where
      by : FailsAtHead s n it.conn t ⊎ ComesTooEarly s it.conn t → IsCleared s t
      by (inl fails) =
          let was : IsCleared s fails.then = cleared_to s fails.then n it.conn fails.before fails.stands in
          subst (λ (u : State). IsCleared s u) (sym fails.law) (record { law = bad_head_clears fails.before fails.then was.law; less = bad_head-keeps (uses s) fails.before fails.then was.less })
      by (inr early) = subst (λ (u : State). IsCleared s u) (sym early.law) (record { law = close_conn-clears true it.conn s (clears_none s); less = close_conn-keeps (uses s) true it.conn s (first s) })

      law : IsCleared s t
      law = by is.law

  pub stopped : IsLedTo x y s t
  stopped = by it.way
    where
      by : StaysUnread x s n y t ⊎ IsShut x s n it.conn y t → IsLedTo x y s t
      by (inl is) = unread is
      by (inr is) = shut is

-- ---- the rows are the law's at each moment, and as many chunks are used

pub record HasRows (m : Memory) (s : State) : Type 0 where
  pub tidy : AreTidy m.instances
  pub rows : (key : Bytes) → rowed_in key m.instances ≡ rowed key s.instances
  pub used : length m.chunks ≡ length s.chunks

pub shown : (number : ℕ → ℕ) (m : Memory) (s : State) → ShowsTable number m s → HasRows m s
shown number m s table = record { tidy = tidy_shown number m s table; rows = rows_show number m s table; used = lengths (ShowsChunk number m) m.chunks s.chunks table.chunks }

pub rows_at : (pieces : ℕ) (name : Bytes) (shelf : KeptMap) (n : ℕ) (begins : Both) (from : State) (all : Bytes) (x : Both) (s : State) (bytes : Bytes) → HasRows begins.state.cache from → IsMoment pieces name shelf n begins from all x s bytes → HasRows x.state.cache s
unfolding IsMoment
rows_at zero name shelf n begins from all x s bytes first is = subst (λ (y : Both). HasRows y.state.cache s) (sym is.0) (subst (λ (u : State). HasRows begins.state.cache u) (sym is.1) first)
rows_at (suc pieces) name shelf n begins from all x s bytes first is = by is.4
  where
    by : IsBehindHead name shelf n is.0 is.1 is.2 x s bytes ⊎ IsBehindPiece name shelf n is.0 is.1 is.2 x s bytes → HasRows x.state.cache s
    by (inl head) = shown head.anew x.state.cache s head.shows.steps.shows.table.table
    by (inr piece) = subst (λ (u : State). HasRows x.state.cache u) (sym piece.state) (shown piece.number x.state.cache _ piece.over.shows.steps.shows.table.table)

-- ---- and so it stands where it leads

names_few : (m w : ℕ) → m + 3 * w ≤ 1847 + 3 → m ≤ 2047
names_few m w few = omega (arith, few)

names_still : (m w : ℕ) → m + 3 * w ≤ 1847 → m ≤ 2047
names_still m w few = omega (arith, few)

fewer : (a b c : ℕ) → a + b ≤ c → c ≤ 2047 → a < 2048
fewer a b c one two = omega (arith, one, two)

few_at : (shelf : KeptMap) (n : ℕ) (x : Both) (s : State) → StandsAt shelf n x s → names_in x ≤ 2047
few_at shelf n x s at = by at.room.few
  where
    plenty : HasPlenty (names_in x) at.room.wait n s → names_in x ≤ 2047
    plenty (inl few) = names_still (names_in x) at.room.wait few
    plenty (inr few) = names_few (names_in x) at.room.wait few.0

    by : HasPlenty (names_in x) at.room.wait n s ⊎ HasNamed (names_in x) at.room.wait n s → names_in x ≤ 2047
    by (inl few) = plenty few
    by (inr few) = few.0

module _ (shelf : KeptMap) (n : ℕ) (x : Both) (s : State) (at : StandsAt shelf n x s) (rows : HasRows x.state.cache s) (y : Both) (t : State) (led : IsLedTo x y s t) (number : ℕ → ℕ) (table : ShowsTable number y.state.cache t) where
  facts : Cleared s t.entries t.displaced t.instances t.forgotten t.is_evicting
  facts = facts_of led.law

  few : length y.state.cache.outdated < 2048
  few = fewer (length y.state.cache.outdated) (count_by is_row y.state.cache.instances) (names_in x) led.turn.few (few_at shelf n x s at)

  pub tied_behind : IsTied y.state t
  tied_behind = record {
    noted = noted_behind (parts x.state) (parts y.state) s t rows.rows (rows_show number y.state.cache t table) rows.tidy led.law led.turn few at.notes.tied.named at.notes.tied.noted;
    named = facts.named at.notes.tied.named;
    leaves = record { forgotten = led.left.forgotten ∙ at.notes.tied.leaves.forgotten ∙ sym facts.forgotten_is };
  }

  pub evict_behind : EvictAlike y.state t
  evict_behind =
      alike_still x.state y.state s t (record {
        turn = led.left.evicting;
        law = facts.evicting_is;
        trigger = led.left.trigger;
        floor = led.left.floor;
        few = few_in_both (length y.state.cache.chunks) (length t.chunks) (length s.chunks) (length x.state.cache.chunks) (shown number y.state.cache t table).used (less_facts led.less).few rows.used;
      }) at.notes.evict

-- ---- behind all bytes

nothing_more : (n : ℕ) (bytes : Bytes) (s : State) → s ≡ got 0 n bytes s
unfolding got
nothing_more n bytes s = refl

module _ (rules : RulesAreTheLaws) (own : OwnAnswersAreTheLaws) (passed : PassedAnswersAreTheLaws) (part : PartAnswersAreTheLaws) (part_heads : PartHeadsAreTheLaws) (number : ℕ → ℕ) (name : Bytes) (shelf : KeptMap) (n : ℕ) (begins next : Both) (from : State) (all : Bytes) (may : MayNoteAll shelf n begins from)
    (has_got : HasGot shelf n all begins next) (ends : ReadEnds name shelf n begins from all next (got (length all) n all from)) (shows : ShowsSides number name (sides_of next) (got (length all) n all from)) where
  abbrev then : State
  then = got (length all) n all from

  at : StandsAt shelf n ends.x ends.s
  at = all_stand rules own passed part part_heads name shelf n begins from all may ends.holds.0 ends.x ends.s ends.bytes ends.holds.1

  same_trigger : trigger then ≡ trigger from
  same_trigger = ap (λ (f : Frame). min f.settings.high (f.settings.critical - 31)) (framed_to (length all) 0 n all [] from then (nothing_more n [] then))

  both_stand : IsTied next.state then × EvictAlike next.state then
  both_stand = by ends.last
    where
      by : ((next ≡ ends.x) × (then ≡ ends.s)) ⊎ Stops name shelf n ends.x ends.s ends.bytes next then → IsTied next.state then × EvictAlike next.state then
      by (inl is) = subst (λ (z : Both). IsTied z.state then × EvictAlike z.state then) (sym is.0) (subst (λ (u : State). IsTied ends.x.state u × EvictAlike ends.x.state u) (sym is.1) (at.notes.tied, at.notes.evict))
      by (inr is) =
          let rows : HasRows ends.x.state.cache ends.s = shown is.number ends.x.state.cache ends.s is.shows.steps.shows.table.table in
          let led : IsLedTo ends.x next ends.s then = stopped name shelf n ends.x ends.s ends.bytes next then is in
          let table : ShowsTable number next.state.cache then = shows.steps.shows.table.table in
          (tied_behind shelf n ends.x ends.s at rows next then led number table, evict_behind shelf n ends.x ends.s at rows next then led number table)

  notes_behind : NotesAt shelf next then
  notes_behind = record {
    tied = both_stand.0;
    evict = both_stand.1;
    set = ap (λ (p : Turn). p.trigger) (bytes_on shelf n all begins next has_got).set ∙ may.notes.set ∙ sym same_trigger;
    disk = disk_by shelf (length all) 0 n all [] from then (nothing_more n [] then) may.notes.disk;
  }

pub reads_note_behind : RulesAreTheLaws → OwnAnswersAreTheLaws → PassedAnswersAreTheLaws → PartAnswersAreTheLaws → PartHeadsAreTheLaws → ReadsNoteBehind
reads_note_behind rules own passed part part_heads number name shelf n begins next from all may has_got ends shows = notes_behind rules own passed part part_heads number name shelf n begins next from all may has_got ends shows
