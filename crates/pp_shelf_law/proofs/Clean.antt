-- Where no gates are to be closed, none are left.
use Rattle.std.proofs.Common.{◌≡◌, ◌≢◌, refl, sym, subst, ap, ◌∙◌, inl, inr, ℕ, zero, suc, ◌+◌, ◌-◌, ◌<◌, ◌==◌, Bool, true, false, not, ◌&&◌, ◌||◌, cond, List, [], ◌∷◌, ◌++◌, length, map, take, drop, get_or, length-drop, Option, Some, arith}
use Rattle.std.proofs.lemmas.Bool.Decides.{nat_tests}
use Rattle.std.proofs.lemmas.List.{get_or-drop, get_or_default}
use Rattle.std.proofs.lemmas.List.Folds.{list_any_none}
use Rattle.std.proofs.lemmas.List.FromFn.{get_or-range_with_len, length-range_with_len}
use Rattle.std.specs.List.{cons_option, list_any, range_with_len}
use Rattle.std.specs.Prelude.{nat_lt}
use Rattle.pp_entry.specs.Gates.{leading_open}
use Rattle.pp_entry.specs.Texts.{chunks_of}
use Rattle.pp_law.specs.Entries.{entries_in, entry_in as law_entry}
use Rattle.pp_law.specs.Lists.{Bytes, without}
use Rattle.pp_law.specs.Repairs.{gates_of, has_stray_gates, is_open_gate}
use Rattle.pp_law.specs.State.{State, Entry, Todo}
use Rattle.pp_law.specs.Store.{file_under, is_idle_disk}
use Rattle.pp_laws.proofs.Tests.{same_number}
use Rattle.pp_laws.specs.Runs.{IsIn}
use Rattle.pp_laws_crash.proofs.Waking.{in_image}
use Rattle.pp_obeys.proofs.Silent.{both_hold}
use Rattle.pp_recover.proofs.NameLemmas.{Distinct, distinct}
use Rattle.pp_recover.proofs.ShutLemmas.{stops_shut}
use Rattle.pp_recover.specs.Closing.{begins, closing, closing_if, closing_of, gates_in, has_strays, writes_over}
use Rattle.pp_recover.specs.Image.{entry_in}
use Rattle.pp_store.proofs.Lists.{any_none, none_pass}
use Rattle.pp_store.specs.Kept.{Kept}
use Rattle.pp_text.specs.Bytes.{is_empty}
use Rattle.pp_valid.specs.declared.version.Version.{Version}
use Rattle.pp_world.specs.Disk.{at_rest, bytes_in, settled, view_of}
use Rattle.pp_world.specs.Files.{Files, file_of}
use Rattle.pp_world.specs.Log.{Log}
use Rattle.pp_world.specs.declared.happening.Happening.TheVariants.{Woke}
use Rattle.pp_world.specs.declared.op.DiskOp.{DiskOp}
use Rattle.pp_world.specs.declared.op.DiskOp.TheVariants.{Sync}
use Rattle.pp_shelf_law.specs.Opening.{HaveNoStrays, RecoveredOnesAreClosed}
use Rattle.pp_shelf_law.proofs.Lists.{true_false}
use Rattle.pp_shelf_law.proofs.Opened.{PairOf, both, failed, neither, pair_of}
use Rattle.pp_shelf_law.proofs.Runs.{idle_is}

-- ---- gates

begins_so : (a b c : Bool) → a ≡ true → b ≡ true → c ≡ false → (a && b && not c) ≡ true
begins_so true true false ia ib ic = refl
begins_so true true true ia ib ic = true_false ic
begins_so true false c ia ib ic = true_false (sym ib)
begins_so false b c ia ib ic = true_false (sym ia)

one_test : (x : ℕ) → x ≡ 1 → (x == 1) ≡ true
one_test x is = ap (λ (y : ℕ). y == 1) is

not_one : (x : ℕ) → x ≢ 1 → (x == 1) ≡ false
not_one x differs = by (x == 1) refl
  where
    by : (b : Bool) → (x == 1) ≡ b → b ≡ false
    by true is = absurd (differs (same_number x 1 is))
    by false is = refl

some_place : (i : ℕ) → nat_lt 0 (suc i) ≡ true
some_place i = grind (arith, nat_tests)

-- behind the first that is not open none is
shut_from : (gs : Bytes) → ((i : ℕ) → i < length gs → begins gs i ≡ false) → (k : ℕ) → leading_open gs + k < length gs → get_or gs (leading_open gs + k) 0 ≢ 1
shut_from gs none zero lt is =
    let same : leading_open gs + 0 ≡ leading_open gs = omega arith in
    stops_shut gs (omega (arith, lt)) (subst (λ (i : ℕ). get_or gs i 0 ≡ 1) same is)
shut_from gs none (suc k) lt is =
    let before : get_or gs (leading_open gs + k) 0 ≢ 1 = shut_from gs none k (omega (arith, lt)) in
    let place : leading_open gs + suc k ≡ suc (leading_open gs + k) = omega arith in
    let back : suc (leading_open gs + k) - 1 ≡ leading_open gs + k = omega arith in
    let here : get_or gs (suc (leading_open gs + k)) 0 ≡ 1 = subst (λ (i : ℕ). get_or gs i 0 ≡ 1) place is in
    let begun : begins gs (suc (leading_open gs + k)) ≡ true =
    begins_so (nat_lt 0 (suc (leading_open gs + k))) (get_or gs (suc (leading_open gs + k)) 0 == 1) (get_or gs (suc (leading_open gs + k) - 1) 0 == 1) (some_place (leading_open gs + k)) (one_test (get_or gs (suc (leading_open gs + k)) 0) here)
    (ap (λ (i : ℕ). get_or gs i 0 == 1) back ∙ not_one (get_or gs (leading_open gs + k) 0) before) in
    true_false (sym begun ∙ none (suc (leading_open gs + k)) (omega (arith, lt)))

each_none : (gs : Bytes) → has_strays gs ≡ false → (i : ℕ) → i < length gs → begins gs i ≡ false
unfolding has_strays
each_none gs none i lt =
    let passes = none_pass (begins gs) (range_with_len 0 (length gs)) (any_none (begins gs) (range_with_len 0 (length gs)) none) i 0 (omega (arith, lt, length-range_with_len 0 (length gs))) in
    let from_none : 0 + i ≡ i = omega arith in
    let place : get_or (range_with_len 0 (length gs)) i 0 ≡ i = get_or-range_with_len 0 (length gs) i 0 lt ∙ from_none in
    subst (λ (j : ℕ). begins gs j ≡ false) place passes

clean_gates : (gs : Bytes) → has_strays gs ≡ false → list_any is_open_gate (drop (leading_open gs) gs) ≡ false
clean_gates gs none = list_any_none is_open_gate (drop (leading_open gs) gs) (λ k d lt. by k d (omega (arith, lt, length-drop (leading_open gs) gs)))
  where
    by : (k d : ℕ) → leading_open gs + k < length gs → is_open_gate (get_or (drop (leading_open gs) gs) k d) ≡ false
    by k d lt = ap is_open_gate (get_or-drop (leading_open gs) gs k d ∙ get_or_default gs (leading_open gs + k) d 0 lt) ∙ not_one (get_or gs (leading_open gs + k) 0) (shut_from gs (each_none gs none) k lt)

-- ---- files

no_list : (ops : List DiskOp) (op : DiskOp) → ops ++ op ∷ [] ≡ [] → ⊥
no_list [] op is = cc is
no_list (o ∷ ops) op is = cc is

strays_off : (name gs : Bytes) → closing name gs ≡ [] → has_strays gs ≡ false
unfolding closing
strays_off name gs none = by (has_strays gs) none
  where
    by : (b : Bool) → cond b (writes_over name gs ++ Sync name ∷ []) [] ≡ [] → b ≡ false
    by true is = absurd (no_list (writes_over name gs) (Sync name) is)
    by false is = refl

module _ (files : Files) (log : Log) (s : State) (strays : HaveNoStrays files) (disk : s.disk ≡ Woke files ∷ []) where
  stands : (name file : Bytes) → file_of name files ≡ Some file → file_under s name ≡ file
  unfolding view_of settled
  stands name file there =
      ap (λ (d : Log). elim (view_of name d).slot as (λ c. Bytes) [ [] ↦ [] | f ∷ fs ↦ bytes_in f ]) disk
      ∙ ap (λ (o : Option Bytes). bytes_in (at_rest o)) there

  entry_clean : (p : Bytes × Bytes) (kept : Kept) (e : Entry) → file_of p.0 files ≡ Some p.1 → entry_in p.0 p.1 ≡ Some kept → kept.entry.version ≡ e.version → e.name ≡ p.0 → has_stray_gates s e ≡ false
  entry_clean p kept e there is version name =
      let file : file_under s e.name ≡ p.1 = ap (λ (n : Bytes). file_under s n) name ∙ stands p.0 p.1 there in
      let gates : gates_of s e ≡ gates_in kept.entry.version.length p.1 =
      ap (λ (bytes : Bytes). take (chunks_of e.version.length) (drop 8192 bytes)) file ∙ ap (λ (v : Version). take (chunks_of v.length) (drop 8192 p.1)) (sym version) in
      let none : closing p.0 (gates_in kept.entry.version.length p.1) ≡ [] =
      sym (ap (closing_of p.0) there ∙ ap (closing_if p.0 p.1) is) ∙ strays p.0 in
      ap (λ (gs : Bytes). list_any is_open_gate (drop (leading_open gs) gs)) gates ∙ clean_gates (gates_in kept.entry.version.length p.1) (strays_off p.0 (gates_in kept.entry.version.length p.1) none)

  one_clean : (p : Bytes × Bytes) (o : Option Entry) (es : List Entry) → file_of p.0 files ≡ Some p.1 → PairOf p.0 (entry_in p.0 p.1) o → list_any (has_stray_gates s) (without (failed files log) es) ≡ false
      → list_any (has_stray_gates s) (without (failed files log) (cons_option o es)) ≡ false
  one_clean p o es there (neither none_k none_o) rest = subst (λ (u : Option Entry). list_any (has_stray_gates s) (without (failed files log) (cons_option u es)) ≡ false) (sym none_o) rest
  one_clean p o es there (both kept e is_k is_o shows name own) rest =
      subst (λ (u : Option Entry). list_any (has_stray_gates s) (without (failed files log) (cons_option u es)) ≡ false) (sym is_o) (by (failed files log e))
    where
      by : (b : Bool) → list_any (has_stray_gates s) (cond (not b) (e ∷ without (failed files log) es) (without (failed files log) es)) ≡ false
      by true = rest
      by false = ap (λ (c : Bool). c || list_any (has_stray_gates s) (without (failed files log) es)) (entry_clean p kept e there is_k shows.version name) ∙ rest

  all_clean : (rest : Files) → ((p : Bytes × Bytes) → IsIn p rest → file_of p.0 files ≡ Some p.1) → list_any (has_stray_gates s) (without (failed files log) (entries_in rest)) ≡ false
  all_clean [] found = refl
  all_clean (p ∷ rest) found = one_clean p (law_entry p.0 p.1) (entries_in rest) (found p (inl refl)) (pair_of p.0 p.1) (all_clean rest (λ q i. found q (inr i)))

pub closed_ones : RecoveredOnesAreClosed
closed_ones files log s rising strays disk is recovers =
    let apart : Distinct (map (λ p. p.0) files) = distinct (map (λ p. p.0) files) rising in
    let clean : list_any (has_stray_gates s) s.entries ≡ false = ap (λ (es : List Entry). list_any (has_stray_gates s) es) is.entries ∙ all_clean files log s strays disk files (λ p i. in_image files p apart i) in
    both_hold (is_idle_disk s && is_empty s.agenda.todo) (not (list_any (has_stray_gates s) s.entries))
    (both_hold (is_idle_disk s) (is_empty s.agenda.todo) (idle_is s recovers.idle) (ap (λ (todo : List Todo). is_empty todo) recovers.done))
    (ap (λ (b : Bool). not b) clean)
