-- Each name of a folder is looked at, as by the law, and behind the last of them no gates are left to be closed.
use Rattle.std.proofs.Common.{◌≡◌, refl, sym, subst, ap, ◌∙◌, inl, inr, ℕ, Bool, true, false, not, cond, filter, List, [], ◌∷◌, ◌++◌, append_assoc, length, map, drop, Option, Some, None}
use Rattle.std.proofs.lemmas.List.{append-nil, take_all}
use Rattle.std.specs.List.{flat_map, list_any, range_with_len}
use Rattle.pp_conf.specs.Conf.{Settings}
use Rattle.pp_entry.specs.Gates.{leading_open}
use Rattle.pp_entry.specs.Texts.{chunks_of}
use Rattle.pp_gate.proofs.Views.{view_from, view_of-append}
use Rattle.pp_gate.specs.Runs.{Ran}
use Rattle.pp_joints_law.proofs.OpenedGates.{none_stray, start_closed}
use Rattle.pp_joints_law.proofs.OpenedRepairs.{closings, file_is, gates_are}
use Rattle.pp_joints_law.proofs.OpenedStands.{IsFoundAs, Stands, any_in, found_as, in_left, none_in, of_left, unread_leads, unread_stands}
use Rattle.pp_law.specs.After.{unread}
use Rattle.pp_law.specs.Entries.{entries_in}
use Rattle.pp_law.specs.Lists.{Bytes}
use Rattle.pp_law.specs.Repairs.{gates_of, has_stray_gates, is_open_gate}
use Rattle.pp_law.specs.State.{State, Entry}
use Rattle.pp_laws.specs.Runs.{IsIn}
use Rattle.pp_laws_crash.proofs.Waking.{found_in}
use Rattle.pp_obeys.proofs.Moving.{leads_to, moves_append, moves_map}
use Rattle.pp_obeys.specs.Moves.{MovesAll}
use Rattle.pp_recover.proofs.EachLemmas.{view_then, whole_other}
use Rattle.pp_recover.proofs.NameLemmas.{Distinct, NotIn}
use Rattle.pp_recover.proofs.ShutLemmas.{IsTidy, whole}
use Rattle.pp_recover.proofs.TendLemmas.{tends_done, tends_failed, tends_other}
use Rattle.pp_recover.specs.Closing.{Tends, begins, close_at, closing, closing_if, gates_in, has_strays, writes_over, closing_of}
use Rattle.pp_recover.specs.Image.{HasFewNames, entry_in}
use Rattle.pp_recover.specs.Opening.{IsFresh, Tended, TendsEach, failed_on, name_in}
use Rattle.pp_shelf_law.proofs.Shelves.{bytes_same}
use Rattle.pp_store.specs.Kept.{Kept, is_name}
use Rattle.pp_valid.specs.declared.version.Version.{Version}
use Rattle.pp_world.specs.Disk.{View, at_rest, is_name as is_formed, is_rising, names_in, settled, view_of, woken as found_under}
use Rattle.pp_world.specs.Files.{Files, file_of}
use Rattle.pp_world.specs.Log.{Log}
use Rattle.pp_world.specs.declared.happening.Happening.TheVariants.{Unread}
use Rattle.pp_world.specs.declared.op.DiskOp.{DiskOp}
use Rattle.pp_world.specs.declared.op.DiskOp.TheVariants.{Sync}

-- ---- names that are still to be looked at

-- each is one of the folder's, once, and stands as it was found
abbrev pub AreLeft : Files → Log → List Tended → Type 0
AreLeft files log [] = Unit {0}
AreLeft files log (t ∷ ts) = (list_any (is_name t.name) (names_in files) ≡ true) × (view_of t.name log ≡ found_under t.name files) × NotIn t.name (map name_in ts) × AreLeft files log ts

pub all_left : (files : Files) (log : Log) → IsFresh files log → (ts : List Tended) → ((n : Bytes) → IsIn n (map name_in ts) → IsIn n (names_in files)) → Distinct (map name_in ts) → AreLeft files log ts
all_left files log fresh [] within apart = tt
all_left files log fresh (t ∷ ts) within apart =
    (any_in (is_name t.name) t.name (names_in files) (within t.name (inl refl)) (bytes_same t.name), fresh.views t.name, apart.0, all_left files log fresh ts (λ n i. within n (inr i)) apart.1)

left_on : (files : Files) (log one : Log) (t : Tended) (ts : List Tended) → NotIn t.name (map name_in ts) → Tends t.name (file_of t.name files) t.sound one → AreLeft files log ts → AreLeft files (log ++ one) ts
left_on files log one t [] none tends left = tt
left_on files log one t (u ∷ ts) none tends left = (
  left.0,
  view_of-append u.name log one ∙ tends_other t.name u.name (λ same. none.0 (sym same)) (file_of t.name files) t.sound (view_of u.name log) one one [] tends (sym (append-nil one)) ∙ left.1,
  left.2,
  left_on files log one t ts none.1 tends left.3,
)

-- ---- one of them

closing_is : (name gates : Bytes) (b : Bool) → has_strays gates ≡ b → closing name gates ≡ cond b (writes_over name gates ++ Sync name ∷ []) []
unfolding closing
closing_is name gates b is = ap (λ (t : Bool). cond t (writes_over name gates ++ Sync name ∷ []) []) is

writes_are : (name gates : Bytes) → writes_over name gates ≡ flat_map (close_at name gates) (range_with_len 0 (length gates))
unfolding writes_over
writes_are name gates = refl

strays_are : (gates : Bytes) → has_strays gates ≡ list_any (begins gates) (range_with_len 0 (length gates))
unfolding has_strays
strays_are gates = refl

module _ (c : Settings) (files : Files) (given : ℕ) (apart : Distinct (map (λ p. p.0) files)) (rise : is_rising (names_in files) ≡ true) where
  nothing_moves : (log one : Log) (s : State) (ok : Bool) → Ran [] ok one → Stands c files given log s → MovesAll (Stands c files given (log ++ one)) one s
  nothing_moves log one s ok ran st = subst (λ (k : Log). MovesAll (Stands c files given (log ++ k)) k s) (sym ran.1) (subst (λ (k : Log). Stands c files given k s) (sym (append-nil log)) st)

  module _ (log one : Log) (s : State) (name : Bytes) (ok : Bool) (listed : list_any (is_name name) (names_in files) ≡ true) (as_found : view_of name log ≡ found_under name files) (st : Stands c files given log s) where
    not_failed : failed_on log name ≡ false
    not_failed = ap (λ (v : View). v.failed) as_found

    closed_moves : (file : Bytes) (kept : Kept) (is : entry_in name file ≡ Some kept) → file_of name files ≡ Some file → (b : Bool) → has_strays (gates_in kept.entry.version.length file) ≡ b
        → Ran (cond b (writes_over name (gates_in kept.entry.version.length file) ++ Sync name ∷ []) []) ok one → MovesAll (Stands c files given (log ++ one)) one s
    unfolding settled
    closed_moves file kept is there false none ran = nothing_moves log one s ok ran st
    closed_moves file kept is there true some ran =
        let gates : Bytes = gates_in kept.entry.version.length file in
        let slot : (view_of name log).slot ≡ Some (settled file) ∷ [] = ap (λ (v : View). v.slot) as_found ∙ ap (λ (o : Option Bytes). at_rest o ∷ []) there in
        let runs : list_any (begins gates) (range_with_len 0 (chunks_of kept.entry.version.length)) ≡ true =
        ap (λ (n : ℕ). list_any (begins gates) (range_with_len 0 n)) (sym (whole name file kept is)) ∙ sym (strays_are gates) ∙ some in
        let ops : writes_over name gates ≡ flat_map (close_at name gates) (range_with_len 0 (chunks_of kept.entry.version.length)) =
        writes_are name gates ∙ ap (λ (n : ℕ). flat_map (close_at name gates) (range_with_len 0 n)) (whole name file kept is) in
        closings c files given apart rise name file kept is there listed log one s ok (settled file) slot (start_closed name file kept is) not_failed st runs
        (subst (λ (all : List DiskOp). Ran (all ++ Sync name ∷ []) ok one) ops ran)

    entry_moves : (file : Bytes) → file_of name files ≡ Some file → (o : Option Kept) → entry_in name file ≡ o → Ran (closing_if name file o) ok one → MovesAll (Stands c files given (log ++ one)) one s
    entry_moves file there None is ran = nothing_moves log one s ok ran st
    entry_moves file there (Some kept) is ran =
        let gates : Bytes = gates_in kept.entry.version.length file in
        closed_moves file kept is there (has_strays gates) refl (subst (λ (ops : List DiskOp). Ran ops ok one) (closing_is name gates (has_strays gates) refl) ran)

    file_moves : (o : Option Bytes) → file_of name files ≡ o → Ran (closing_of name o) ok one → MovesAll (Stands c files given (log ++ one)) one s
    file_moves None there ran = nothing_moves log one s ok ran st
    file_moves (Some file) there ran = entry_moves file there (entry_in name file) refl ran

    name_moves : Tends name (file_of name files) ok one → MovesAll (Stands c files given (log ++ one)) one s
    name_moves (inl lost) =
        subst (λ (k : Log). MovesAll (Stands c files given (log ++ k)) k s) (sym lost.1)
        (leads_to (Stands c files given (log ++ Unread name ∷ [])) (Unread name ∷ []) s (unread name s) (unread_leads c files given rise log s name listed not_failed st) (unread_stands c files given rise log s name listed not_failed st))
    name_moves (inr ran) = file_moves (file_of name files) refl ran

  -- ---- one after the other

  pub all_names : (ts : List Tended) (log hs : Log) (s : State) → AreLeft files log ts → TendsEach files ts hs → Stands c files given log s → MovesAll (Stands c files given (log ++ hs)) hs s
  all_names [] log hs s left each st = nothing_moves log hs s true (refl, each) st
  all_names (t ∷ ts) log hs s left (one, rest, is, tends, more) st =
      subst (λ (k : Log). MovesAll (Stands c files given (log ++ k)) k s) (sym is)
      (moves_append (Stands c files given (log ++ (one ++ rest))) one rest s
      (moves_map (Stands c files given (log ++ one)) (λ u. MovesAll (Stands c files given (log ++ (one ++ rest))) rest u)
      (λ u there. subst (λ (k : Log). MovesAll (Stands c files given k) rest u) (append_assoc log one rest) (all_names ts (log ++ one) rest u (left_on files log one t ts left.2 tends left.3) more there))
      one s (name_moves log one s t.name t.sound left.0 left.1 st tends)))

-- ---- no gates are left to be closed

-- of one that was looked at
tidy_first : (files : Files) (ts : List Tended) (log one rest hs : Log) (name : Bytes) (ok : Bool) → hs ≡ one ++ rest → view_of name log ≡ found_under name files → NotIn name (map name_in ts) → Tends name (file_of name files) ok one → TendsEach files ts rest → failed_on (log ++ hs) name ≡ false
    → (file : Bytes) (kept : Kept) (is : entry_in name file ≡ Some kept) → file_of name files ≡ Some file → (now : Bytes) × ((view_of name (log ++ hs)).slot ≡ Some (settled now) ∷ []) × IsTidy name file kept is now
tidy_first files ts log one rest hs name ok whole_is as_found none tends more sound file kept is there = by ok tends
  where
    v : View
    v = view_of name log

    behind : view_of name (log ++ hs) ≡ view_from name v one
    behind = view_of-append name log hs ∙ ap (view_from name v) whole_is ∙ view_then name v one rest ∙ whole_other files name ts (view_from name v one) rest none more

    by : (b : Bool) → Tends name (file_of name files) b one → (now : Bytes) × ((view_of name (log ++ hs)).slot ≡ Some (settled now) ∷ []) × IsTidy name file kept is now
    by false lost = absurd (let bad : true ≡ false = sym (tends_failed name (file_of name files) v one lost) ∙ ap (λ (w : View). w.failed) (sym behind) ∙ sound in cc bad)
    by true done =
        let slot : v.slot ≡ Some (settled file) ∷ [] = ap (λ (w : View). w.slot) as_found ∙ ap (λ (o : Option Bytes). at_rest o ∷ []) there in
        let last = tends_done name file kept is v one slot (ap (λ (w : View). w.failed) as_found) (subst (λ (o : Option Bytes). Tends name o true one) there done) in
        (last.0, ap (λ (w : View). w.slot) behind ∙ last.1, last.2)

tidy_in : (files : Files) (ts : List Tended) (log hs : Log) → AreLeft files log ts → TendsEach files ts hs → (name : Bytes) → IsIn name (map name_in ts) → failed_on (log ++ hs) name ≡ false → (file : Bytes) (kept : Kept) (is : entry_in name file ≡ Some kept)
    → file_of name files ≡ Some file → (now : Bytes) × ((view_of name (log ++ hs)).slot ≡ Some (settled now) ∷ []) × IsTidy name file kept is now
tidy_in files [] log hs left each name i sound file kept is there = absurd i
tidy_in files (t ∷ ts) log hs left (one, rest, whole_is, tends, more) name (inl same) sound file kept is there =
    tidy_first files ts log one rest hs name t.sound whole_is (subst (λ (n : Bytes). view_of n log ≡ found_under n files) (sym same) left.1) (subst (λ (n : Bytes). NotIn n (map name_in ts)) (sym same) left.2)
    (subst (λ (n : Bytes). Tends n (file_of n files) t.sound one) (sym same) tends) more sound file kept is there
tidy_in files (t ∷ ts) log hs left (one, rest, whole_is, tends, more) name (inr i) sound file kept is there =
    let logs : (log ++ one) ++ rest ≡ log ++ hs = append_assoc log one rest ∙ ap (λ (k : Log). log ++ k) (sym whole_is) in
    let found = tidy_in files ts (log ++ one) rest (left_on files log one t ts left.2 tends left.3) more name i (ap (λ (k : Log). failed_on k name) logs ∙ sound) file kept is there in
    (found.0, ap (λ (k : Log). (view_of name k).slot) (sym logs) ∙ found.1, found.2)

in_map : (name file : Bytes) (files : Files) → IsIn (name, file) files → IsIn name (map (λ p. p.0) files)
in_map name file [] i = absurd i
in_map name file (p ∷ files) (inl eq) = inl (ap (λ (q : Bytes × Bytes). q.0) eq)
in_map name file (p ∷ files) (inr i) = inr (in_map name file files i)

in_names : (files : Files) (name file : Bytes) → HasFewNames files → file_of name files ≡ Some file → is_formed name ≡ true → IsIn name (names_in files)
in_names files name file few there formed = subst (λ (ns : List Bytes). IsIn name ns) (sym (take_all 65536 (filter is_formed (map (λ p. p.0) files)) few)) (in_left is_formed name (map (λ p. p.0) files) (in_map name file files (found_in files name file there)) formed)

was_sound : (b : Bool) → not b ≡ true → b ≡ false
was_sound true isnt = absurd (cc isnt)
was_sound false isnt = refl

clean_as : (t : State) (e : Entry) (gates : Bytes) → gates_of t e ≡ gates → list_any is_open_gate (drop (leading_open gates) gates) ≡ false → has_stray_gates t e ≡ false
clean_as t e gates is none = ap (λ (g : Bytes). list_any is_open_gate (drop (leading_open g) g)) is ∙ none

module _ (c : Settings) (files : Files) (given : ℕ) (ts : List Tended) (log hs : Log) (t : State) (apart : Distinct (map (λ p. p.0) files)) (few : HasFewNames files) (names : map name_in ts ≡ names_in files) (left : AreLeft files log ts) (each : TendsEach files ts hs) (st : Stands c files given (log ++ hs) t) where
  one_clean : (e : Entry) → IsIn e (entries_in files) → failed_on (log ++ hs) e.name ≡ false → IsFoundAs files e → has_stray_gates t e ≡ false
  unfolding settled
  one_clean e there sound found =
      let listed : IsIn e.name (map name_in ts) = subst (λ (ns : List Bytes). IsIn e.name ns) (sym names) (in_names files e.name found.file few found.there found.formed) in
      let last = tidy_in files ts log hs left each e.name listed sound found.file found.kept found.is found.there in
      clean_as t e (gates_in found.kept.entry.version.length last.0)
      (gates_are t e found.kept.entry.version.length last.0 (ap (λ (v : Version). v.length) (sym found.version)) (file_is (log ++ hs) t e.name (settled last.0) st.disk sound last.1))
      (none_stray e.name found.file found.kept found.is last.0 last.2.size last.2.low last.2.closed)

  pub none_stray_left : list_any (has_stray_gates t) t.entries ≡ false
  none_stray_left = none_in (has_stray_gates t) t.entries (λ e i.
      let parts = of_left (λ (d : Entry). not (failed_on (log ++ hs) d.name)) e (entries_in files) (subst (λ (es : List Entry). IsIn e es) st.is.entries i) in
      one_clean e parts.0 (was_sound (failed_on (log ++ hs) e.name) parts.1) (found_as files apart e parts.0))
