-- What stands under each name once all were attended to, and what the store then holds.
use Rattle.std.proofs.Common.{◌≡◌, ℕ, ◌+◌, ◌*◌, ◌<◌, ◌≤◌, Bool, true, false, List, [], ◌∷◌, ◌++◌, take, Option, Some, None, refl, sym, ◌∙◌, ap, subst, arith}
use Rattle.std.specs.Prelude.{◌||◌, not, cond, bytes_eq, map, filter, min}
use Rattle.std.specs.List.{filter_map, list_any, AllByRecursion}
use Rattle.std.proofs.lemmas.List.{append-nil}
use Rattle.std.proofs.lemmas.List.Elements.{All-from_recursion}
use Rattle.std.proofs.lemmas.Slice.Eq.{bytes_eq-Decides}
use Rattle.pp_world.specs.Files.{Files, file_of}
use Rattle.pp_world.specs.Log.{Log}
use Rattle.pp_world.specs.Disk.{Bytes, View, settled, at_rest, view_of}
use Rattle.pp_entry.specs.Texts.{body_at, chunks_of}
use Rattle.pp_entry.proofs.ReadRows.{read-again}
use Rattle.pp_gate.specs.Files.{open_gates, extent_in, body, HoldsSent, Sent}
use Rattle.pp_gate.specs.Seal.{IsKept, KeepsIn}
use Rattle.pp_gate.proofs.Views.{view_from, view_of-append}
use Rattle.pp_gate.proofs.PlaceLemmas.{gates_below}
use Rattle.pp_gate.proofs.SealLemmas.{same_head, gate_same, body_same}
use Rattle.pp_store.specs.Held.{IsHeld, Holds}
use Rattle.pp_store.specs.Kept.{Kept, block_of, is_name}
use Rattle.pp_recover.specs.Image.{entry_in, entry_of}
use Rattle.pp_recover.specs.Closing.{Tends}
use Rattle.pp_recover.specs.Opening.{IsFresh, Tended, name_in, TendsEach, AllSent, failed_on, entry_unless, entry_if, is_lost, store_of}
use Rattle.pp_recover.proofs.RowLemmas.{spelt}
use Rattle.pp_recover.proofs.EntryLemmas.{entry_told, head_told, room_told}
use Rattle.pp_recover.proofs.NameLemmas.{NotIn, Distinct}
use Rattle.pp_recover.proofs.ShutLemmas.{IsTidy, first, first_is, first_within, first_open, long, short}
use Rattle.pp_recover.proofs.TendLemmas.{tends_other, tends_sound, tends_failed, tends_done}
use Rattle.pp_recover.proofs.EachLemmas.{whole_other, view_then}

abbrev AllT : (Tended → Type 0) → List Tended → Type 0
AllT P [] = Unit {0}
AllT P (t ∷ ts) = P t × AllT P ts

allT_map : (P Q : Tended → Type 0) (ts : List Tended) → ((t : Tended) → P t → Q t) → AllT P ts → AllT Q ts
allT_map P Q [] step all = tt
allT_map P Q (t ∷ ts) step all = (step t all.0, allT_map P Q ts step all.1)

module _ (files : Files) where
  -- as the program found it
  abbrev FreshIn : Tended → View → Type 0
  FreshIn t v = (v.slot ≡ at_rest (file_of t.name files) ∷ []) × (v.failed ≡ false)

  -- once it was attended to
  abbrev Final : Tended → View → Type 0
  Final t v = (v.failed ≡ not t.sound)
      × (t.sound ≡ true → (file : Bytes) (kept : Kept) (is : entry_in t.name file ≡ Some kept) → file_of t.name files ≡ Some file → (now : Bytes) × (v.slot ≡ Some (settled now) ∷ []) × IsTidy t.name file kept is now)

  one_final : (t : Tended) (v : View) (one : Log) → FreshIn t v → Tends t.name (file_of t.name files) t.sound one → Final t (view_from t.name v one)
  one_final t v one fresh tends = by t.sound refl
    where
      by : (b : Bool) → t.sound ≡ b → Final t (view_from t.name v one)
      by true is =
          let whole : Tends t.name (file_of t.name files) true one = subst (λ (s : Bool). Tends t.name (file_of t.name files) s one) is tends in (
            tends_sound t.name (file_of t.name files) v one whole ∙ fresh.1 ∙ sym (ap not is),
            λ sound file kept entry there. tends_done t.name file kept entry v one (fresh.0 ∙ ap (λ (f : Option Bytes). at_rest f ∷ []) there) fresh.1 (subst (λ (f : Option Bytes). Tends t.name f true one) there whole),
          )
      by false is = (
        tends_failed t.name (file_of t.name files) v one (subst (λ (s : Bool). Tends t.name (file_of t.name files) s one) is tends) ∙ sym (ap not is),
        λ sound. absurd (let bad : true ≡ false = sym sound ∙ is in cc),
      )

  fresh_on : (t : Tended) (one : Log) (V : Bytes → View) (ts : List Tended) → NotIn t.name (map name_in ts) → Tends t.name (file_of t.name files) t.sound one → AllT (λ s. FreshIn s (V s.name)) ts → AllT (λ s. FreshIn s (view_from s.name (V s.name) one)) ts
  fresh_on t one V [] not_in tends all = tt
  fresh_on t one V (s ∷ ts) not_in tends all = (
    subst (FreshIn s) (sym (tends_other t.name s.name (λ same. not_in.0 (sym same)) (file_of t.name files) t.sound (V s.name) one one [] tends (sym (append-nil one)))) all.0,
    fresh_on t one V ts not_in.1 tends all.1,
  )

  each_final : (ts : List Tended) (V : Bytes → View) (hs : Log) → Distinct (map name_in ts) → AllT (λ t. FreshIn t (V t.name)) ts → TendsEach files ts hs → AllT (λ t. Final t (view_from t.name (V t.name) hs)) ts
  each_final [] V hs apart fresh each = tt
  each_final (t ∷ ts) V hs apart fresh each = (
    subst (Final t)
        (sym (ap (view_from t.name (V t.name)) each.2 ∙ view_then t.name (V t.name) each.0 each.1 ∙ whole_other files t.name ts (view_from t.name (V t.name) each.0) each.1 apart.0 each.4))
        (one_final t (V t.name) each.0 fresh.0 each.3),
    allT_map (λ s. Final s (view_from s.name (view_from s.name (V s.name) each.0) each.1)) (λ s. Final s (view_from s.name (V s.name) hs)) ts
        (λ s final. subst (Final s) (sym (ap (view_from s.name (V s.name)) each.2 ∙ view_then s.name (V s.name) each.0 each.1)) final)
        (each_final ts (λ name. view_from name (V name) each.0) each.1 apart.1 (fresh_on t each.0 V ts apart.0 each.3 fresh.1) each.4),
  )

  fresh_all : (k : Log) (ts : List Tended) → IsFresh files k → AllT (λ t. FreshIn t (view_of t.name k)) ts
  fresh_all k [] fresh = tt
  fresh_all k (t ∷ ts) fresh = ((ap (λ (v : View). v.slot) (fresh.views t.name), ap (λ (v : View). v.failed) (fresh.views t.name)), fresh_all k ts fresh)

  pub finals : (k : Log) (ts : List Tended) (hs : Log) → IsFresh files k → Distinct (map name_in ts) → TendsEach files ts hs → AllT (λ t. Final t (view_of t.name (k ++ hs))) ts
  finals k ts hs fresh apart each = allT_map (λ t. Final t (view_from t.name (view_of t.name k) hs)) (λ t. Final t (view_of t.name (k ++ hs))) ts
      (λ t final. subst (Final t) (sym (view_of-append t.name k hs)) final)
      (each_final ts (λ name. view_of name k) hs apart (fresh_all k ts fresh) each)

  -- ---- the store, by what the log says
  sides : (s : Bool) (e : Option Kept) → cond s e None ≡ entry_unless (not s) e
  sides true e = refl
  sides false e = refl

  rows_are : (l : Log) (ts : List Tended) → AllT (λ t. Final t (view_of t.name l)) ts
      → filter_map (entry_if files) ts ≡ filter_map (λ name. entry_unless (failed_on l name) (entry_of name (file_of name files))) (map name_in ts)
  rows_are l [] all = refl
  rows_are l (t ∷ ts) all =
      ap (λ (e : Option Kept). Rattle.std.specs.List.cons_option e (filter_map (entry_if files) ts)) (sides t.sound (entry_of t.name (file_of t.name files)) ∙ ap (λ (s : Bool). entry_unless s (entry_of t.name (file_of t.name files))) (sym all.0.0))
      ∙ ap (λ (rows : List Kept). Rattle.std.specs.List.cons_option (entry_unless (failed_on l t.name) (entry_of t.name (file_of t.name files))) rows) (rows_are l ts all.1)

  closed_are : (l : Log) (ts : List Tended) → AllT (λ t. Final t (view_of t.name l)) ts → map name_in (filter is_lost ts) ≡ filter (failed_on l) (map name_in ts)
  closed_are l [] all = refl
  closed_are l (t ∷ ts) all = by (not t.sound) (failed_on l t.name) refl all.0.0 (closed_are l ts all.1)
    where
      by : (a b : Bool) → not t.sound ≡ a → b ≡ not t.sound → map name_in (filter is_lost ts) ≡ filter (failed_on l) (map name_in ts) → map name_in (cond (not t.sound) (t ∷ filter is_lost ts) (filter is_lost ts)) ≡ cond b (t.name ∷ filter (failed_on l) (map name_in ts)) (filter (failed_on l) (map name_in ts))
      by true b is same rest =
          ap (λ (s : Bool). map name_in (cond s (t ∷ filter is_lost ts) (filter is_lost ts))) is ∙ ap (λ (names : List Bytes). t.name ∷ names) rest
          ∙ ap (λ (s : Bool). cond s (t.name ∷ filter (failed_on l) (map name_in ts)) (filter (failed_on l) (map name_in ts))) (sym (same ∙ is))
      by false b is same rest =
          ap (λ (s : Bool). map name_in (cond s (t ∷ filter is_lost ts) (filter is_lost ts))) is ∙ rest
          ∙ ap (λ (s : Bool). cond s (t.name ∷ filter (failed_on l) (map name_in ts)) (filter (failed_on l) (map name_in ts))) (sym (same ∙ is))

  -- ---- an entry that is found is held
  chunks_first : (n f e : ℕ) → e ≡ min n (4096 * f) → f ≤ chunks_of n → chunks_of e ≡ f
  chunks_first n f e is le = omega (arith, is, le)

  extent_first : (n : ℕ) (file : Bytes) (f : ℕ) → open_gates n file ≡ f → extent_in n file ≡ min n (4096 * f)
  unfolding extent_in
  extent_first n file f is = ap (λ (g : ℕ). min n (4096 * g)) is

  module _ (sent : Sent) (name file : Bytes) (kept : Kept) (is : entry_in name file ≡ Some kept) (now : Bytes) (tidy : IsTidy name file kept is now)
      (was_sent : HoldsSent sent (take 8192 file) kept.entry.version.length file) where
    abbrev n : ℕ
    n = kept.entry.version.length

    lead : ℕ
    lead = first name file kept is

    extent_is : extent_in n file ≡ min n (4096 * lead)
    unfolding lead
    extent_is = extent_first n file (first name file kept is) (first_is name file kept is)

    gates_are : chunks_of kept.extent ≡ lead
    unfolding lead
    gates_are = chunks_first n (first name file kept is) kept.extent (sym (room_told n file kept.extent (entry_told name file kept is).room).extent_is ∙ extent_first n file (first name file kept is) (first_is name file kept is)) (first_within name file kept is)

    block_is : take 8192 file ≡ block_of kept.entry
    block_is = (spelt (take 8192 file) kept.entry (head_told name file kept.entry (entry_told name file kept is).head).row_is).block_is

    head_is : take 8192 now ≡ block_of kept.entry
    head_is = same_head now file (omega (arith, tidy.size, long name file kept is, gates_below n)) (omega (arith, long name file kept is, gates_below n))
        (λ o lt. tidy.low o (omega (arith, lt, long name file kept is, gates_below n)) (omega (arith, lt))) ∙ block_is

    kept_gates : IsKept (block_of kept.entry) n lead now
    unfolding lead
    kept_gates = record {
      head = head_is;
      is_open = λ i lt. gate_same now file i (tidy.low (8192 + i) (omega (arith, lt, long name file kept is, gates_below n, first_within name file kept is)) (omega (arith, lt))) ∙ first_open name file kept is i lt;
      is_closed = λ i from lt. tidy.closed i from lt;
      within = first_within name file kept is;
      long = omega (arith, tidy.size, long name file kept is, extent_first n file (first name file kept is) (first_is name file kept is));
      short = omega (arith, tidy.size, short name file kept is);
    }

    kept_sent : (o : ℕ) → o < min n (4096 * lead) → sent (block_of kept.entry) o (body n now o) ≡ true
    kept_sent o lt =
        subst (λ (block : Bytes). sent block o (body n now o) ≡ true) block_is
        (subst (λ (x : ℕ). sent (take 8192 file) o x ≡ true)
        (sym (body_same n now file o (tidy.high (body_at n + o) (omega (arith, lt, extent_is, long name file kept is)) (omega (arith, gates_below n)))))
        (was_sent o (omega (arith, lt, extent_is))))

    pub held : (l : Log) → (view_of name l).slot ≡ Some (settled now) ∷ [] → (view_of name l).failed ≡ false → IsHeld sent l kept
    held l slot sound =
        let told = head_told name file kept.entry (entry_told name file kept is).head in
        record {
          keeps = subst (λ (m : Bytes). KeepsIn sent (block_of kept.entry) n (chunks_of kept.extent) (view_of m l)) (sym told.own)
              (subst (λ (g : ℕ). KeepsIn sent (block_of kept.entry) n g (view_of name l)) (sym gates_are)
              (record { bytes = now; slot = slot; sound = sound; kept = kept_gates; holds = kept_sent }));
          reads = read-again (take 8192 file) kept.entry told.row_is;
        }

  rows_held : (sent : Sent) (l : Log) (ts : List Tended) → AllSent sent files → AllT (λ t. Final t (view_of t.name l)) ts → AllByRecursion (IsHeld sent l) (filter_map (entry_if files) ts)
  rows_held sent l [] was_sent all = tt
  rows_held sent l (t ∷ ts) was_sent all = by t.sound (file_of t.name files) refl refl (rows_held sent l ts was_sent all.1)
    where
      with_kept : (file : Bytes) → t.sound ≡ true → file_of t.name files ≡ Some file → (e : Option Kept) → entry_in t.name file ≡ e → AllByRecursion (IsHeld sent l) (filter_map (entry_if files) ts)
          → AllByRecursion (IsHeld sent l) (Rattle.std.specs.List.cons_option e (filter_map (entry_if files) ts))
      with_kept file sound there None is rest = rest
      with_kept file sound there (Some kept) is rest =
          let last = all.0.1 sound file kept is there in
          (held sent t.name file kept is last.0 last.2 (was_sent t.name file there kept is) l last.1 (all.0.0 ∙ ap not sound), rest)

      by : (s : Bool) (f : Option Bytes) → t.sound ≡ s → file_of t.name files ≡ f → AllByRecursion (IsHeld sent l) (filter_map (entry_if files) ts)
          → AllByRecursion (IsHeld sent l) (Rattle.std.specs.List.cons_option (cond s (entry_of t.name f) None) (filter_map (entry_if files) ts))
      by true None sound there rest = rest
      by true (Some file) sound there rest = with_kept file sound there (entry_in t.name file) refl rest
      by false f sound there rest = rest

  -- ---- a name on which something failed is closed
  or_true : (b : Bool) → (b || true) ≡ true
  or_true true = refl
  or_true false = refl

  closed_has : (name : Bytes) (ts : List Tended) (v : View) (hs : Log) → v.failed ≡ false → (view_from name v hs).failed ≡ true → TendsEach files ts hs → list_any (is_name name) (map name_in (filter is_lost ts)) ≡ true
  closed_has name [] v hs sound failed each = absurd (let bad : true ≡ false = sym failed ∙ ap (λ (l : Log). (view_from name v l).failed) each ∙ sound in cc)
  closed_has name (t ∷ ts) v hs sound failed each =
      by (bytes_eq t.name name) (bytes_eq-Decides t.name name) t.sound refl refl (λ w w_sound w_failed. closed_has name ts w each.1 w_sound w_failed each.4)
    where
      then_rest : (view_from name (view_from name v each.0) each.1).failed ≡ true
      then_rest = sym (ap (λ (w : View). w.failed) (ap (view_from name v) each.2 ∙ view_then name v each.0 each.1)) ∙ failed

      by : (b : Bool) → ((b ≡ true → t.name ≡ name) × (t.name ≡ name → b ≡ true)) → (s : Bool) → t.sound ≡ s → bytes_eq t.name name ≡ b
          → ((w : View) → w.failed ≡ false → (view_from name w each.1).failed ≡ true → list_any (is_name name) (map name_in (filter is_lost ts)) ≡ true)
          → list_any (is_name name) (map name_in (cond (not s) (t ∷ filter is_lost ts) (filter is_lost ts))) ≡ true
      by true decides false is same rest = ap (λ (c : Bool). c || list_any (is_name name) (map name_in (filter is_lost ts))) same
      by true decides true is same rest = rest (view_from name v each.0)
          (tends_sound name (file_of name files) v each.0 (subst (λ (n : Bytes). Tends n (file_of n files) true each.0) (decides.0 refl) (subst (λ (s : Bool). Tends t.name (file_of t.name files) s each.0) is each.3)) ∙ sound)
          then_rest
      by false decides s is same rest =
          let there : list_any (is_name name) (map name_in (filter is_lost ts)) ≡ true =
          rest v sound (ap (λ (w : View). (view_from name w each.1).failed) (sym (tends_other t.name name (λ eq. absurd (let bad : false ≡ true = decides.1 eq in cc)) (file_of t.name files) t.sound v each.0 each.0 [] each.3 (sym (append-nil each.0)))) ∙ then_rest) in
          with_head s there
        where
          with_head : (s : Bool) → list_any (is_name name) (map name_in (filter is_lost ts)) ≡ true → list_any (is_name name) (map name_in (cond (not s) (t ∷ filter is_lost ts) (filter is_lost ts))) ≡ true
          with_head true there = there
          with_head false there = ap (λ (c : Bool). is_name name t.name || c) there ∙ or_true (is_name name t.name)

  -- ---- both together
  pub store_is : (k : Log) (ts : List Tended) (hs : Log) (names : List Bytes) → IsFresh files k → Distinct (map name_in ts) → TendsEach files ts hs → map name_in ts ≡ names
      → store_of files ts ≡ record { rows = filter_map (λ name. entry_unless (failed_on (k ++ hs) name) (entry_of name (file_of name files))) names; closed = filter (failed_on (k ++ hs)) names }
  store_is k ts hs names fresh apart each same =
      let all = finals k ts hs fresh apart each in
      ap (λ (rows : List Kept). record { rows = rows; closed = map name_in (filter is_lost ts) }) (rows_are (k ++ hs) ts all)
      ∙ ap (λ (cs : List Bytes). record { rows = filter_map (λ name. entry_unless (failed_on (k ++ hs) name) (entry_of name (file_of name files))) (map name_in ts); closed = cs }) (closed_are (k ++ hs) ts all)
      ∙ ap (λ (ns : List Bytes). record { rows = filter_map (λ name. entry_unless (failed_on (k ++ hs) name) (entry_of name (file_of name files))) ns; closed = filter (failed_on (k ++ hs)) ns }) same

  pub store_holds : (sent : Sent) (k : Log) (ts : List Tended) (hs : Log) → IsFresh files k → Distinct (map name_in ts) → TendsEach files ts hs → AllSent sent files → Holds sent (store_of files ts) (k ++ hs)
  store_holds sent k ts hs fresh apart each was_sent = record {
    rows = All-from_recursion (IsHeld sent (k ++ hs)) (filter_map (entry_if files) ts) (rows_held sent (k ++ hs) ts was_sent (finals k ts hs fresh apart each));
    failed = λ name bad. closed_has name ts (view_of name k) hs (ap (λ (v : View). v.failed) (fresh.views name)) (sym (ap (λ (v : View). v.failed) (view_of-append name k hs)) ∙ bad) each;
  }
