-- The stray gates of a file are closed, and it is synced, or an operation fails, as by the law.
use Rattle.std.proofs.Common.{◌≡◌, refl, sym, subst, ap, ap₂, ◌∙◌, inl, inr, ℕ, zero, suc, ◌+◌, ◌<◌, ◌==◌, nat_lt, Bool, true, false, not, ◌&&◌, ◌||◌, cond, List, [], ◌∷◌, ◌++◌, append_assoc, length, map, take, drop, replicate, Option, Some, None, arith}
use Rattle.std.specs.List.{flat_map, list_all, list_any, range_with_len}
use Rattle.std.specs.Prelude.{bytes_eq}
use Rattle.pp_conf.specs.Conf.{Settings}
use Rattle.pp_entry.specs.Gates.{leading_open}
use Rattle.pp_entry.specs.Texts.{chunks_of}
use Rattle.pp_gate.proofs.Ops.{write_slot}
use Rattle.pp_gate.proofs.Views.{view_of-append}
use Rattle.pp_gate.specs.Runs.{Ran}
use Rattle.pp_joints_law.proofs.OpenedGates.{IsClosed, all_closed, all_shut, passed_over, run_closed, run_some, run_strays, strays_in}
use Rattle.pp_joints_law.proofs.OpenedStands.{ClosesOn, IsFoundAs, Stands, any_in, done_stands, failed_done, found_as, in_left, lost_stands, none_in, of_left}
use Rattle.pp_law.specs.Entries.{entries_in, entry_in as law_entry}
use Rattle.pp_law.specs.Lists.{Bytes, without}
use Rattle.pp_law.specs.Repairs.{are_strays, closes_strays, gates_of, has_stray_gates, has_strays_under, is_open_gate, may_repair}
use Rattle.pp_law.specs.State.{State, Agenda, Entry, Todo, Do, no_agenda}
use Rattle.pp_law.specs.Store.{file_under, is_named, lose_entry, close_name}
use Rattle.pp_laws.specs.Runs.{IsIn}
use Rattle.pp_laws_crash.proofs.Waking.{entries_there, found_in}
use Rattle.pp_obeys.proofs.Moving.{leads_then, leads_to}
use Rattle.pp_obeys.proofs.Silent.{both_hold}
use Rattle.pp_obeys.specs.Moves.{MovesAll, Leads}
use Rattle.pp_recover.proofs.NameLemmas.{Distinct}
use Rattle.pp_recover.specs.Closing.{begins, close_at, close_from, gates_in, open_from}
use Rattle.pp_recover.specs.Image.{entry_in}
use Rattle.pp_recover.specs.Opening.{failed_on}
use Rattle.pp_shelf_law.proofs.Disks.{files as files_alike}
use Rattle.pp_shelf_law.proofs.Opened.{PairOf, both, neither, pair_of}
use Rattle.pp_shelf_law.proofs.Repaired.{repairs_lead, syncs_lead}
use Rattle.pp_shelf_law.proofs.Shelves.{bytes_same, same_bytes}
use Rattle.pp_shelf_law.specs.Folder.{disk_of}
use Rattle.pp_shelf_law.specs.Repairs.{IsIdle}
use Rattle.pp_shelf_law.specs.Runs.{ran}
use Rattle.pp_store.specs.Kept.{Kept, is_name}
use Rattle.pp_text.specs.Bytes.{is_empty}
use Rattle.pp_valid.specs.declared.version.Version.{Version}
use Rattle.pp_world.specs.Disk.{Stored, View, bytes_in, is_rising, loosened, names_in, view_of, written}
use Rattle.pp_world.specs.Files.{Files, file_of}
use Rattle.pp_world.specs.Log.{Log}
use Rattle.pp_world.specs.declared.happening.Happening.TheVariants.{Began, Did}
use Rattle.pp_world.specs.declared.op.DiskOp.{DiskOp}
use Rattle.pp_world.specs.declared.op.DiskOp.TheVariants.{Sync, Write}

-- with so much left to do
abbrev pub given_with : Agenda → State → State
given_with a s = record s { agenda = a }

abbrev to_sync : Bytes → Agenda
to_sync name = record { name = name; todo = Do (Sync name) ∷ [] }

closes_so : (a b c d : Bool) → a ≡ true → b ≡ true → c ≡ true → d ≡ true → (a && b && c && d) ≡ true
closes_so a b c d ia ib ic id = both_hold (a && b && c) d (both_hold (a && b) c (both_hold a b ia ib) ic) id

other_hand : (a b : Bool) → a ≡ false → (a || b) ≡ true → b ≡ true
other_hand true b isnt holds = absurd (cc isnt)
other_hand false b isnt holds = holds

-- ---- what the law has under a name

pub file_is : (log : Log) (s : State) (name : Bytes) (f : Stored) → s.disk ≡ disk_of log → failed_on log name ≡ false → (view_of name log).slot ≡ Some f ∷ [] → file_under s name ≡ f.bytes
file_is log s name f disk sound slot =
    ap (λ (d : Log). elim (view_of name d).slot as (λ c. Bytes) [ [] ↦ [] | g ∷ gs ↦ bytes_in g ]) disk
    ∙ ap (λ (v : View). elim v.slot as (λ c. Bytes) [ [] ↦ [] | g ∷ gs ↦ bytes_in g ]) (files_alike log name sound)
    ∙ ap (λ (slots : List (Option Stored)). elim slots as (λ c. Bytes) [ [] ↦ [] | g ∷ gs ↦ bytes_in g ]) slot

pub gates_are : (s : State) (e : Entry) (n : ℕ) (bytes : Bytes) → e.version.length ≡ n → file_under s e.name ≡ bytes → gates_of s e ≡ gates_in n bytes
gates_are s e n bytes long is = ap₂ (λ (k : ℕ) (b : Bytes). take (chunks_of k) (drop 8192 b)) long is

module _ (c : Settings) (files : Files) (given : ℕ) (apart : Distinct (map (λ p. p.0) files)) (rise : is_rising (names_in files) ≡ true) (name file : Bytes) (kept : Kept) (is : entry_in name file ≡ Some kept) (there : file_of name files ≡ Some file) (listed : list_any (is_name name) (names_in files) ≡ true) where
  abbrev its_length : ℕ
  its_length = kept.entry.version.length

  abbrev its_gates : Bytes
  its_gates = gates_in its_length file

  -- ---- its entry

  has_entry : (log : Log) (t : State) → Stands c files given log t → failed_on log name ≡ false → (e : Entry) × IsIn e t.entries × (is_named name e ≡ true)
  has_entry log t st sound = by (law_entry name file) refl (pair_of name file)
    where
      by : (o : Option Entry) → law_entry name file ≡ o → PairOf name (entry_in name file) o → (e : Entry) × IsIn e t.entries × (is_named name e ≡ true)
      by o found (neither none_k none_o) = absurd (let no : None ≡ Some kept = sym none_k ∙ is in cc no)
      by o found (both k e is_k is_o shows named own) =
          let law : law_entry name file ≡ Some e = found ∙ is_o in
          let stays : not (failed_on log e.name) ≡ true = ap (λ (n : Bytes). not (failed_on log n)) named ∙ ap (λ (b : Bool). not b) sound in
          let inside : IsIn e (entries_in files) = entries_there files (name, file) e (found_in files name file there) law in
          let left : IsIn e (without (λ d. failed_on log d.name) (entries_in files)) = in_left (λ (d : Entry). not (failed_on log d.name)) e (entries_in files) inside stays in
          (e, subst (λ (es : List Entry). IsIn e es) (sym st.is.entries) left, ap (λ (n : Bytes). bytes_eq n name) named ∙ bytes_same name)

  -- each of that name has the length of this one
  as_long : (log : Log) (t : State) → Stands c files given log t → (e : Entry) → IsIn e t.entries → is_named name e ≡ true → e.version.length ≡ its_length
  as_long log t st e i named =
      let among : IsIn e (entries_in files) = (of_left (λ (d : Entry). not (failed_on log d.name)) e (entries_in files) (subst (λ (es : List Entry). IsIn e es) st.is.entries i)).0 in
      let found : IsFoundAs files e = found_as files apart e among in
      let same : e.name ≡ name = same_bytes e.name name named in
      let two : Some found.file ≡ Some file = sym found.there ∙ ap (λ (n : Bytes). file_of n files) same ∙ there in
      let file_same : found.file ≡ file = cc two in
      let three : Some found.kept ≡ Some kept = sym found.is ∙ ap₂ (λ (n b : Bytes). entry_in n b) same file_same ∙ is in
      let kept_same : found.kept ≡ kept = cc three in
      ap (λ (v : Version). v.length) (sym found.version) ∙ ap (λ (k : Kept). k.entry.version.length) kept_same

  gates_now : (log : Log) (t : State) (a : Agenda) (f : Stored) → Stands c files given log t → failed_on log name ≡ false → (view_of name log).slot ≡ Some f ∷ [] → (e : Entry) → IsIn e t.entries → is_named name e ≡ true
      → gates_of (given_with a t) e ≡ gates_in its_length f.bytes
  gates_now log t a f st sound slot e i named =
      gates_are (given_with a t) e its_length f.bytes (as_long log t st e i named) (ap (λ (n : Bytes). file_under (given_with a t) n) (same_bytes e.name name named) ∙ file_is log (given_with a t) name f st.disk sound slot)

  -- ---- the law has a run closed, and a file without strays synced

  run_may : (log : Log) (t : State) (a : Agenda) (f : Stored) (i : ℕ) → Stands c files given log t → failed_on log name ≡ false → (view_of name log).slot ≡ Some f ∷ [] → i < chunks_of its_length → begins its_gates i ≡ true → IsClosed name file kept is i f.bytes
      → list_any (closes_strays (given_with a t) name (8192 + i) (replicate (open_from its_gates i) 0)) (given_with a t).entries ≡ true
  run_may log t a f i st sound slot lt run shut =
      let some = has_entry log t st sound in
      let zeros : Bytes = replicate (open_from its_gates i) 0 in
      let strays : are_strays (given_with a t) (8192 + i) (length zeros) some.0 ≡ true =
      ap (λ (g : Bytes). strays_in g (8192 + i) (length zeros)) (gates_now log t a f st sound slot some.0 some.1 some.2) ∙ run_strays name file kept is i f.bytes lt run shut in
      any_in (closes_strays (given_with a t) name (8192 + i) zeros) some.0 t.entries some.1
      (closes_so (is_named name some.0) (nat_lt 0 (length zeros)) (list_all (λ b. b == 0) zeros) _ some.2 (run_some name file kept is i f.bytes lt run shut) (all_shut (open_from its_gates i)) strays)

  none_under : (log : Log) (t : State) (a : Agenda) (f : Stored) → Stands c files given log t → failed_on log name ≡ false → (view_of name log).slot ≡ Some f ∷ [] → IsClosed name file kept is (chunks_of its_length) f.bytes → has_strays_under (given_with a t) name ≡ false
  none_under log t a f st sound slot shut = none_in (λ e. is_named name e && has_stray_gates (given_with a t) e) t.entries (λ e i. by e i (is_named name e) refl)
    where
      by : (e : Entry) → IsIn e t.entries → (b : Bool) → is_named name e ≡ b → (is_named name e && has_stray_gates (given_with a t) e) ≡ false
      by e i false named = ap (λ (b : Bool). b && has_stray_gates (given_with a t) e) named
      by e i true named =
          ap (λ (b : Bool). b && has_stray_gates (given_with a t) e) named
          ∙ ap (λ (g : Bytes). list_any is_open_gate (drop (leading_open g) g)) (gates_now log t a f st sound slot e i named)
          ∙ all_closed name file kept is f.bytes shut

  -- ---- one after the other

  abbrev from_place : ℕ → ℕ → List DiskOp
  from_place i k = flat_map (close_at name its_gates) (range_with_len i k)

  -- nothing was begun, and there is a run still; or the sync is left to do
  data IsBegun (a : Agenda) (i k : ℕ) : Type 0 where
    nothing : a.todo ≡ [] → list_any (begins its_gates) (range_with_len i k) ≡ true → IsBegun a i k
    some : a ≡ to_sync name → IsBegun a i k

  repairs_may : (a : Agenda) (i k : ℕ) (t : State) → IsBegun a i k → may_repair (given_with a t) name ≡ true
  repairs_may a i k t (nothing none runs) = ap (λ (todo : List Todo). is_empty todo || bytes_eq a.name name) none
  repairs_may a i k t (some is_so) = ap (λ (b : Agenda). is_empty b.todo || bytes_eq b.name name) is_so ∙ bytes_same name

  idle_so : (log : Log) (t : State) (a : Agenda) → Stands c files given log t → IsIdle (given_with a t)
  idle_so log t a st = record { none = st.opens.none; at = st.opens.at; idle = st.opens.idle }

  -- from this place on
  abbrev Closes : ℕ → ℕ → Type 0
  Closes k i = (log hs : Log) (t : State) (a : Agenda) (ok : Bool) (f : Stored) → i + k ≡ chunks_of its_length → (view_of name log).slot ≡ Some f ∷ [] → IsClosed name file kept is i f.bytes → failed_on log name ≡ false → Stands c files given log t
      → IsBegun a i k → Ran (from_place i k ++ Sync name ∷ []) ok hs → MovesAll (Stands c files given (log ++ hs)) hs (given_with a t)

  lost_moves : (log hs : Log) (t : State) (a : Agenda) (op : DiskOp) → ClosesOn name op → failed_on log name ≡ false → Stands c files given log t → hs ≡ Began op ∷ Did op false ∷ []
      → Leads (Began op ∷ Did op false ∷ []) (given_with a t) (lose_entry name (close_name name (ran (Began op ∷ Did op false ∷ []) no_agenda (given_with a t))))
      → MovesAll (Stands c files given (log ++ hs)) hs (given_with a t)
  lost_moves log hs t a op on sound st whole leads =
      subst (λ (k : Log). MovesAll (Stands c files given (log ++ k)) k (given_with a t)) (sym whole)
      (leads_to (Stands c files given (log ++ Began op ∷ Did op false ∷ [])) (Began op ∷ Did op false ∷ []) (given_with a t) _ leads (lost_stands c files given rise log t name listed sound st op on))

  synced : (i : ℕ) → Closes 0 i
  synced i log hs t a ok f sum slot shut sound st (nothing none runs) ran_so = absurd (cc runs)
  synced i log hs t a ok f sum slot shut sound st (some is_so) ran_so = by ran_so
    where
      here : i ≡ chunks_of its_length
      here = omega (arith, sum)

      clean : has_strays_under (given_with a t) name ≡ false
      clean = none_under log t a f st sound slot (subst (λ (k : ℕ). IsClosed name file kept is k f.bytes) here shut)

      by : Ran (Sync name ∷ []) ok hs → MovesAll (Stands c files given (log ++ hs)) hs (given_with a t)
      by (inl lost) = lost_moves log hs t a (Sync name) refl sound st lost.1 (syncs_lead (given_with a t) name (idle_so log t a st) is_so clean).1
      by (inr (rest, first, last)) =
          let whole : hs ≡ Began (Sync name) ∷ Did (Sync name) true ∷ [] = first ∙ ap (λ (k : Log). Began (Sync name) ∷ Did (Sync name) true ∷ k) last.1 in
          subst (λ (k : Log). MovesAll (Stands c files given (log ++ k)) k (given_with a t)) (sym whole)
          (leads_to (Stands c files given (log ++ Began (Sync name) ∷ Did (Sync name) true ∷ [])) (Began (Sync name) ∷ Did (Sync name) true ∷ []) (given_with a t) _ (syncs_lead (given_with a t) name (idle_so log t a st) is_so clean).0
          (done_stands c files given log t name (Sync name) (record { name = name; todo = [] }) refl refl st))

  -- a run, and those behind it
  run_moves : (k i : ℕ) → Closes k (i + 1) → begins its_gates i ≡ true → (log hs : Log) (t : State) (a : Agenda) (ok : Bool) (f : Stored) → i + suc k ≡ chunks_of its_length → (view_of name log).slot ≡ Some f ∷ [] → IsClosed name file kept is i f.bytes
      → failed_on log name ≡ false → Stands c files given log t → IsBegun a i (suc k) → Ran (close_from name its_gates i ∷ (from_place (i + 1) k ++ Sync name ∷ [])) ok hs → MovesAll (Stands c files given (log ++ hs)) hs (given_with a t)
  unfolding written loosened
  run_moves k i more run log hs t a ok f sum slot shut sound st begun ran_so = by ran_so
    where
      lt : i < chunks_of its_length
      lt = omega (arith, sum)

      zeros : Bytes
      zeros = replicate (open_from its_gates i) 0

      op : DiskOp
      op = Write name (8192 + i) zeros

      may : list_any (closes_strays (given_with a t) name (8192 + i) zeros) (given_with a t).entries ≡ true
      may = run_may log t a f i st sound slot lt run shut

      log_then : Log
      log_then = log ++ Began op ∷ Did op true ∷ []

      f_then : Stored
      f_then = written (8192 + i) zeros (loosened (8192 + i) (8192 + i + length zeros) f)

      slot_then : (view_of name log_then).slot ≡ Some f_then ∷ []
      slot_then = ap (λ (v : View). v.slot) (view_of-append name log (Began op ∷ Did op true ∷ [])) ∙ write_slot name (8192 + i) zeros f (view_of name log) slot

      sound_then : failed_on log_then name ≡ false
      sound_then = failed_done log name name op refl ∙ sound

      t_then : State
      t_then = ran (Began op ∷ Did op true ∷ []) no_agenda t

      by : Ran (op ∷ (from_place (i + 1) k ++ Sync name ∷ [])) ok hs → MovesAll (Stands c files given (log ++ hs)) hs (given_with a t)
      by (inl lost) = lost_moves log hs t a op refl sound st lost.1 (repairs_lead (given_with a t) name (8192 + i) zeros (idle_so log t a st) (repairs_may a i (suc k) t begun) may).1
      by (inr (rest, first, others)) =
          let sum_then : (i + 1) + k ≡ chunks_of its_length = omega (arith, sum) in
          let behind : MovesAll (Stands c files given (log_then ++ rest)) rest (given_with (to_sync name) t_then) =
          more log_then rest t_then (to_sync name) ok f_then sum_then slot_then (run_closed name file kept is i f.bytes lt run shut) sound_then (done_stands c files given log t name op no_agenda refl refl st) (some refl) others in
          subst (λ (k : Log). MovesAll (Stands c files given (log ++ k)) k (given_with a t)) (sym first)
          (leads_then (Stands c files given (log ++ Began op ∷ Did op true ∷ rest)) (Began op ∷ Did op true ∷ []) rest (given_with a t) (given_with (to_sync name) t_then) (repairs_lead (given_with a t) name (8192 + i) zeros (idle_so log t a st) (repairs_may a i (suc k) t begun) may).0
          (subst (λ (k : Log). MovesAll (Stands c files given k) rest (given_with (to_sync name) t_then)) (append_assoc log (Began op ∷ Did op true ∷ []) rest) behind))

  one_place : (k i : ℕ) → Closes k (i + 1) → (b : Bool) → begins its_gates i ≡ b → (log hs : Log) (t : State) (a : Agenda) (ok : Bool) (f : Stored) → i + suc k ≡ chunks_of its_length → (view_of name log).slot ≡ Some f ∷ [] → IsClosed name file kept is i f.bytes
      → failed_on log name ≡ false → Stands c files given log t → IsBegun a i (suc k) → Ran ((cond b (close_from name its_gates i ∷ []) [] ++ from_place (i + 1) k) ++ Sync name ∷ []) ok hs → MovesAll (Stands c files given (log ++ hs)) hs (given_with a t)
  one_place k i more true run log hs t a ok f sum slot shut sound st begun ran_so = run_moves k i more run log hs t a ok f sum slot shut sound st begun ran_so
  one_place k i more false none log hs t a ok f sum slot shut sound st begun ran_so =
      let lt : i < chunks_of its_length = omega (arith, sum) in
      more log hs t a ok f (omega (arith, sum)) slot (passed_over name file kept is i f.bytes lt none shut) sound st (goes_on begun) ran_so
    where
      goes_on : IsBegun a i (suc k) → IsBegun a (i + 1) k
      goes_on (nothing empty runs) = nothing empty (other_hand (begins its_gates i) (list_any (begins its_gates) (range_with_len (i + 1) k)) none runs)
      goes_on (some is_so) = some is_so

  closes : (k i : ℕ) → Closes k i
  closes zero i = synced i
  closes (suc k) i = λ log hs t a ok f sum slot shut sound st begun ran_so. one_place k i (closes k (i + 1)) (begins its_gates i) refl log hs t a ok f sum slot shut sound st begun ran_so

  -- of a file that is as the life found it
  pub closings : (log hs : Log) (s : State) (ok : Bool) (f : Stored) → (view_of name log).slot ≡ Some f ∷ [] → IsClosed name file kept is 0 f.bytes → failed_on log name ≡ false → Stands c files given log s → list_any (begins its_gates) (range_with_len 0 (chunks_of its_length)) ≡ true
      → Ran (from_place 0 (chunks_of its_length) ++ Sync name ∷ []) ok hs → MovesAll (Stands c files given (log ++ hs)) hs s
  closings log hs s ok f slot shut sound st runs ran_so = closes (chunks_of its_length) 0 log hs s s.agenda ok f (omega arith) slot shut sound st (nothing st.opens.done runs) ran_so
