-- A run of a row is sealed, and noted.
use Rattle.std.proofs.Common.{◌≡◌, refl, sym, subst, ap, ◌∙◌, ℕ, ◌+◌, ◌-◌, ◌*◌, ◌/◌, ◌<◌, ◌==◌, Bool, true, false, not, ◌&&◌, ◌||◌, find, is_ok, IfOk, List, [], ◌∷◌, ◌++◌, length, map, replicate, Option, Some, None, Result, Ok, Err, arith}
use Rattle.std.specs.Prelude.{bytes_eq, min, nat_lt}
use Rattle.pp_entry.specs.Texts.{body_at, chunks_of}
use Rattle.pp_gate.specs.Runs.{Ran}
use Rattle.pp_gate.specs.Seal.{seal_ops}
use Rattle.pp_law.specs.Chunks.{chunk_len}
use Rattle.pp_law.specs.Lists.{Bytes, has_text, without}
use Rattle.pp_law.specs.State.{State, Agenda, no_agenda, Entry, Instance, Todo, Do, Acknowledge}
use Rattle.pp_law.specs.Store.{agenda_in_turn, close_name, end_of_run, enter_next, is_acknowledged_as, is_closed, is_full_run, note_kept, plan_of, run_bytes, run_from, run_len, seal_of, seal_with, sealing}
use Rattle.pp_law.specs.Table.{is_entry_of, is_kept_row_of, is_same_version, kept_row}
use Rattle.pp_laws.proofs.Lists.{in_find}
use Rattle.pp_laws.proofs.Tests.{below, first_holds, number_same, second_holds}
use Rattle.pp_laws.specs.Runs.{IsIn}
use Rattle.pp_laws_crash.proofs.Begins.{IsFirst, MaySeal, seal_is}
use Rattle.pp_laws_crash.proofs.RunBytes.{AreWhole, run_inside, run_length, run_whole}
use Rattle.pp_obeys.proofs.Calls.{moves_to}
use Rattle.pp_obeys.proofs.Silent.{both_hold}
use Rattle.pp_obeys.proofs.TurnHappenings.{goes_kept}
use Rattle.pp_obeys.specs.Moves.{Goes, Moves, MovesAll}
use Rattle.pp_obeys.proofs.Moving.{moves_append}
use Rattle.pp_store.specs.Answers.{extend_ops}
use Rattle.pp_store.specs.Changes.{extended_after, lost}
use Rattle.pp_store.specs.Kept.{IsExtent, Kept, KeptMap, kept_of}
use Rattle.pp_target.specs.Name.{name_of}
use Rattle.pp_valid.specs.declared.version.Version.{Version}
use Rattle.pp_world.specs.Log.{Log}
use Rattle.pp_world.specs.declared.disk.DiskFault.{DiskFault}
use Rattle.pp_world.specs.declared.happening.Happening.TheVariants.{Noted}
use Rattle.pp_world.specs.declared.note.Remark.TheVariants.{Kept as KeptNote}
use Rattle.pp_world.specs.declared.op.DiskOp.{DiskOp}
use Rattle.pp_world.specs.declared.op.DiskOp.TheVariants.{Sync, Write}
use Rattle.pp_shelf_law.specs.Kept.{HasOneRow}
use Rattle.pp_shelf_law.specs.Runs.{IsWorking, ran}
use Rattle.pp_shelf_law.specs.Seals.{IsToSeal, SealsAreTheLaws, seal_note, sealed}
use Rattle.pp_shelf_law.specs.Shelf.{IsResting, ShowsEntry}
use Rattle.pp_shelf_law.specs.Takings.{LeadsTo}
use Rattle.pp_shelf_law.proofs.Extending.{kept_further}
use Rattle.pp_shelf_law.proofs.Finding.{found_is, kept_ones, lost_one, named_in, one_named}
use Rattle.pp_shelf_law.proofs.Runs.{all_done, all_failed}
use Rattle.pp_shelf_law.proofs.Shelves.{bytes_same, same_bytes}
use Rattle.pp_shelf_law.proofs.Starting.{given, planned, starts}
use Rattle.pp_shelf_law.proofs.Takings.{loss_leads}

-- ---- arithmetic of runs

first_is : (n extent : ℕ) → IsExtent n extent → extent < n → chunks_of extent ≡ extent / 4096
first_is n extent whole inside = omega (arith, whole, inside)

whole_is : (n extent : ℕ) → IsExtent n extent → extent < n → 4096 * (extent / 4096) ≡ extent
whole_is n extent whole inside = omega (arith, whole, inside)

count_is : (n first count len : ℕ) → len ≡ min n (4096 * (first + count)) - 4096 * first → 4096 * (first + count - 1) < n → 0 < count → chunks_of len ≡ count
count_is n first count len size inside some = omega (arith, size, inside, some)

extent_is : (n extent count len : ℕ) → len ≡ min n (4096 * (extent / 4096 + count)) - 4096 * (extent / 4096) → 4096 * (extent / 4096) ≡ extent → extent < n → extent + len ≡ min n (extent + count * 4096)
extent_is n extent count len size whole inside = omega (arith, size, whole, inside)

more_whole : (n extent count : ℕ) → 4096 * (extent / 4096) ≡ extent → IsExtent n (min n (extent + count * 4096))
more_whole n extent count whole = omega (arith, whole)

-- ---- one plan alone begins so

unretired_with : (r v c n full : Bool) (a b : Agenda) → (elim (r && v && c && n && full) as (λ o. Option Agenda) [ true ↦ Some a | false ↦ None ]) ≡ Some b → r ≡ true
unretired_with true v c n full a b is = refl
unretired_with false v c n full a b is = absurd (cc is)

unretired_at : (s : State) (y : Instance) (b : Agenda) (found : Option Entry) → (elim found as (λ o. Option Agenda) [ None ↦ None | Some d ↦ seal_with s y d ]) ≡ Some b → not y.is_retired ≡ true
unretired_at s y b None is = absurd (cc is)
unretired_at s y b (Some d) is =
    unretired_with (not y.is_retired) (is_same_version y.version d.version) (not (is_closed s d.name)) (nat_lt d.extent y.version.length) (is_full_run s y d (run_from s y d)) (record { name = d.name; todo = sealing s y d (run_from s y d) }) b is

unretired : (s : State) (y : Instance) (b : Agenda) → seal_of s y ≡ Some b → not y.is_retired ≡ true
unretired s y b is = unretired_at s y b (kept_row s y.key) is

written_name : DiskOp → Bytes
written_name (Write name at bytes) = name
written_name op = []

first_name : List Todo → Bytes
first_name (Do op ∷ todo) = written_name op
first_name todo = []

name_of_first : (name other : Bytes) (at to : ℕ) (bytes more : Bytes) (todo rest : List Todo) → Do (Write name at bytes) ∷ todo ≡ Do (Write other to more) ∷ rest → name ≡ other
unfolding first_name written_name
name_of_first name other at to bytes more todo rest is = ap first_name is

pub acknowledged_so : (key tag : Bytes) (n end extent : ℕ) (todo : List Todo) → end ≡ extent → is_acknowledged_as key tag n extent (Acknowledge key tag n end ∷ todo) ≡ true
acknowledged_so key tag n end extent todo is =
    both_hold (bytes_eq key key && bytes_eq tag tag && (n == n)) (end == extent)
    (both_hold (bytes_eq key key && bytes_eq tag tag) (n == n) (both_hold (bytes_eq key key) (bytes_eq tag tag) (bytes_same key) (bytes_same tag)) (number_same n))
    (ap (λ (k : ℕ). end == k) (sym is) ∙ number_same end)

-- ---- the run of a row

module _ (shelf : KeptMap) (s : State) (x : Instance) (e : Entry) (kept : Kept) (bytes : Bytes) (rests : IsResting shelf s) (alone : HasOneRow s) (to : IsToSeal s x e bytes) (kept_is : kept_of x.key shelf ≡ Some kept) where
  abbrev size : ℕ
  size = x.version.length

  abbrev first : ℕ
  first = e.extent / chunk_len

  abbrev count : ℕ
  count = run_from s x e

  abbrev run : Bytes
  run = run_bytes count x.id s.chunks first

  abbrev op : DiskOp
  op = Write e.name (body_at size + 4096 * first) run

  abbrev ops : List DiskOp
  ops = Sync e.name ∷ Write e.name (8192 + first) (replicate count 1) ∷ Sync e.name ∷ []

  abbrev note : List Todo
  note = Acknowledge x.key x.version.tag size (end_of_run x e count) ∷ []

  abbrev agenda : Agenda
  agenda = record { name = e.name; todo = map Do (op ∷ ops) ++ note }

  plan : seal_of s x ≡ Some agenda
  plan =
      ap (λ (o : Option Entry). elim o as (λ c. Option Agenda) [ None ↦ None | Some d ↦ seal_with s x d ]) to.kept
      ∙ ap (λ (b : Bool). elim b as (λ c. Option Agenda) [ true ↦ Some agenda | false ↦ None ]) to.due

  may : MaySeal s x e
  may =
      let parts = seal_is s x agenda plan in
      let both : Some parts.0 ≡ Some e = sym parts.1.is_kept ∙ to.kept in
      let same : parts.0 ≡ e = cc both in
      subst (MaySeal s x) same parts.1

  there : IsIn e s.entries × (is_kept_row_of x.key e ≡ true)
  there = in_find (is_kept_row_of x.key) e s.entries to.kept

  e_key : e.key ≡ x.key
  e_key = same_bytes e.key x.key (second_holds (not e.is_stale) (is_entry_of x.key e) there.1)

  e_found : find (is_entry_of x.key) s.entries ≡ Some e
  e_found = found_is x.key e s.entries rests.shows.named rests.shows.once there.0 e_key

  e_name : e.name ≡ name_of x.key
  e_name = named_in e s.entries rests.shows.named there.0 ∙ ap name_of e_key

  shows : ShowsEntry kept e
  shows =
      let shown = kept_ones shelf s x.key kept rests.shows kept_is in
      let both : Some shown.entry ≡ Some e = sym shown.there ∙ e_found in
      let same : shown.entry ≡ e = cc both in
      subst (ShowsEntry kept) same shown.shows

  e_size : e.version.length ≡ size
  e_size = ap (λ (v : Version). v.length) (sym may.version)

  extent_whole : IsExtent size e.extent
  extent_whole = subst (λ (n : ℕ). IsExtent n e.extent) e_size shows.whole

  ends_whole : 4096 * (e.extent / 4096) ≡ e.extent
  ends_whole = whole_is size e.extent extent_whole may.inside

  some : 0 < count
  some = below 0 count (first_holds (nat_lt 0 count) _ may.full)

  all_whole : AreWhole size x.id s.chunks first count
  all_whole = run_whole (run_len s) size x.id s.chunks first

  length_is : length bytes ≡ min size (4096 * (first + count)) - 4096 * first
  length_is = ap (λ (bs : Bytes). length bs) to.bytes_are ∙ run_length size x.id s.chunks first count all_whole

  -- the program runs what the law plans
  ops_same : extend_ops kept bytes ≡ op ∷ ops
  ops_same =
      ap (λ (n : Bytes). seal_ops n kept.entry.version.length (chunks_of kept.extent) (chunks_of (length bytes)) bytes) shows.name
      ∙ ap (λ (n : ℕ). seal_ops e.name n (chunks_of kept.extent) (chunks_of (length bytes)) bytes) (ap (λ (v : Version). v.length) shows.version ∙ e_size)
      ∙ ap (λ (k : ℕ). seal_ops e.name size k (chunks_of (length bytes)) bytes) (ap chunks_of shows.extent ∙ first_is size e.extent extent_whole may.inside)
      ∙ ap (λ (k : ℕ). seal_ops e.name size first k bytes) (count_is size first count (length bytes) length_is (run_inside size x.id s.chunks first count all_whole some) some)
      ∙ ap (λ (bs : Bytes). seal_ops e.name size first count bs) to.bytes_are

  end_is : kept.extent + length bytes ≡ end_of_run x e count
  end_is = ap (λ (k : ℕ). k + length bytes) shows.extent ∙ extent_is size e.extent count (length bytes) length_is ends_whole may.inside

  only : (y : Instance) (b : Agenda) → IsIn y s.instances → plan_of s op y ≡ Some b → IsFirst op b → b ≡ agenda
  only y b y_there plan_y begins =
      let parts = seal_is s y b plan_y in
      let name : parts.0.name ≡ e.name = name_of_first _ _ _ _ _ _ _ _ (ap (λ (a : Agenda). a.todo) parts.2 ∙ begins.todo) in
      let its = in_find (is_kept_row_of y.key) parts.0 s.entries parts.1.is_kept in
      let same : e ≡ parts.0 = one_named e.name e parts.0 s.entries (rests.shows.once e.name) there.0 refl its.0 name in
      let y_key : y.key ≡ x.key = sym (same_bytes parts.0.key y.key (second_holds (not parts.0.is_stale) (is_entry_of y.key parts.0) its.1)) ∙ ap (λ (d : Entry). d.key) (sym same) ∙ e_key in
      let one : y ≡ x = alone x.key y x y_there to.there
      (both_hold (not y.is_retired) (bytes_eq y.key x.key) (unretired s y b plan_y) (ap (λ (k : Bytes). bytes_eq k x.key) y_key ∙ bytes_same x.key))
      (both_hold (not x.is_retired) (bytes_eq x.key x.key) (unretired s x agenda plan) (bytes_same x.key)) in
      let both : Some b ≡ Some agenda = sym plan_y ∙ ap (λ (z : Instance). seal_of s z) one ∙ plan in
      cc both

  in_turn : agenda_in_turn op s ≡ Some agenda
  in_turn = planned s op x agenda (map Do ops ++ note) rests.done to.there plan refl only

  works : IsWorking e.name (map Do (op ∷ ops) ++ note) (given agenda s)
  works = record { none = rests.none; at = rests.at; idle = rests.idle; agenda = refl }

  -- all of it was done, and is noted
  done_moves : (Q : State → Type 0) (hs : Log) → Ran (op ∷ ops) true hs → Q (ran hs (record { name = e.name; todo = note }) s) → MovesAll Q hs s
  unfolding enter_next
  done_moves Q hs are holds = starts Q s e.name op ops true (map Do ops ++ note) hs rests.none rests.at rests.idle in_turn are (all_done Q (given agenda s) e.name op ops note hs works are holds)

  note_moves : (Q : State → Type 0) (hs : Log) (extent : ℕ) → extent ≡ kept.extent + length bytes → Q (note_kept x.key extent (ran hs (record { name = e.name; todo = [] }) s)) → Moves Q (Noted (KeptNote x.key x.version.tag size extent)) (ran hs (record { name = e.name; todo = note }) s)
  unfolding note_kept
  note_moves Q hs extent is holds =
      let t : State = ran hs (record { name = e.name; todo = note }) s in
      let goes : Goes t (Noted (KeptNote x.key x.version.tag size extent)) (note_kept x.key extent t) =
      goes_kept t x.key x.version.tag size extent rests.none refl (acknowledged_so x.key x.version.tag size (end_of_run x e count) extent [] (sym end_is ∙ sym is)) in
      moves_to refl goes holds

  -- or one failed: its entry stands, under a closed name
  abbrev failed : Log → State
  failed hs = close_name e.name (ran hs no_agenda s)

  failed_rests : (hs : Log) → IsResting (lost x.key shelf) (failed hs)
  unfolding close_name
  failed_rests hs = record { none = rests.none; at = rests.at; idle = refl; done = refl; shows = lost_one x.key shelf s.entries s.closed_names e rests.shows e_found e_name may.open_name }

  failed_found : (hs : Log) → find (is_entry_of x.key) (failed hs).entries ≡ Some e
  unfolding close_name
  failed_found hs = e_found

  failed_closed : (hs : Log) → is_closed (failed hs) e.name ≡ true
  unfolding close_name
  failed_closed hs = ap (λ (b : Bool). b || has_text e.name (without (bytes_eq e.name) s.closed_names)) (bytes_same e.name)

  failed_moves : (Q : State → Type 0) (hs : Log) → Ran (op ∷ ops) false hs → Q (failed hs) → MovesAll Q hs s
  unfolding close_name
  failed_moves Q hs are holds = starts Q s e.name op ops false (map Do ops ++ note) hs rests.none rests.at rests.idle in_turn are (all_failed Q (given agenda s) e.name (op ∷ ops) note hs works (refl, (refl, (refl, (refl, tt)))) are holds)

  sealed_rests : (hs : Log) (extent : ℕ) → extent ≡ kept.extent + length bytes → IsResting (extended_after {E = DiskFault} (Ok extent) x.key shelf) (sealed x e (Ok extent) hs s)
  unfolding note_kept
  sealed_rests hs extent is = record {
    none = rests.none;
    at = rests.at;
    idle = refl;
    done = refl;
    shows = kept_further x.key extent shelf s.entries s.closed_names e rests.shows to.kept there.0 e_key
        (subst (λ (k : ℕ). IsExtent e.version.length k) (sym (is ∙ end_is)) (subst (λ (n : ℕ). IsExtent n (end_of_run x e count)) (sym e_size) (more_whole size e.extent count ends_whole)));
  }

  pub run_leads : (result : Result ℕ DiskFault) (hs : Log) → Ran (extend_ops kept bytes) (is_ok result) hs → IfOk result (λ extent. extent ≡ kept.extent + length bytes)
      → LeadsTo (hs ++ seal_note x.key x.version result ∷ []) s (sealed x e result hs s) (extended_after result x.key shelf)
  run_leads (Ok extent) hs are is = record {
    leads = moves_append (λ u. u ≡ sealed x e (Ok extent) hs s) hs (seal_note x.key x.version (Ok extent) ∷ []) s
        (done_moves (MovesAll (λ u. u ≡ sealed x e (Ok extent) hs s) (seal_note x.key x.version (Ok extent) ∷ [])) hs (subst (λ (os : List DiskOp). Ran os true hs) ops_same are)
        (note_moves (λ u. u ≡ sealed x e (Ok extent) hs s) hs extent is refl));
    rests = sealed_rests hs extent is;
  }
  run_leads (Err fault) hs are is =
      let loss = loss_leads (lost x.key shelf) (failed hs) x.key e (failed_rests hs) (failed_found hs) (failed_closed hs) in record {
        leads = moves_append (λ u. u ≡ sealed x e (Err fault) hs s) hs (seal_note x.key x.version (Err fault) ∷ []) s
            (failed_moves (MovesAll (λ u. u ≡ sealed x e (Err fault) hs s) (seal_note x.key x.version (Err fault) ∷ [])) hs (subst (λ (os : List DiskOp). Ran os false hs) ops_same are) loss.leads);
        rests = loss.rests;
      }

pub seals : SealsAreTheLaws
seals shelf s x e kept bytes result hs rests alone to kept_is are is = run_leads shelf s x e kept bytes rests alone to kept_is result hs are is
