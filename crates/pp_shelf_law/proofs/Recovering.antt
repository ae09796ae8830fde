-- A file that cannot be read while a life recovers: its name is closed, and its entry is none.
use Rattle.std.proofs.Common.{◌≡◌, refl, sym, subst, ap, ap₂, ◌∙◌, ℕ, ◌+◌, Bool, true, false, not, ◌&&◌, ◌||◌, cond, filter, List, [], ◌∷◌, ◌++◌, length, arith}
use Rattle.std.specs.List.{list_any}
use Rattle.std.specs.Prelude.{bytes_eq}
use Rattle.pp_law.specs.After.{paid, unread}
use Rattle.pp_law.specs.Entries.{entries_in}
use Rattle.pp_law.specs.Lists.{Bytes, has_text, without}
use Rattle.pp_law.specs.Opening.{is_at, is_opening, is_same_phase, lose_in_opening}
use Rattle.pp_law.specs.Permits.{may_fail_to_load, may_fail_to_recover, permits_unread}
use Rattle.pp_law.specs.Replies.{regained}
use Rattle.pp_law.specs.State.{State, Entry, Todo, Phase, IsWoken, IsConfigured, IsRooted, IsListed, IsListening, IsStuck}
use Rattle.pp_law.specs.Store.{close_name, is_at_rest, is_closed, is_idle_disk, is_named, lose_entry}
use Rattle.pp_laws_crash.proofs.Views.{view_more}
use Rattle.pp_obeys.proofs.Calls.{moves_to}
use Rattle.pp_obeys.proofs.Happenings.{goes_unread}
use Rattle.pp_obeys.proofs.Silent.{both_hold}
use Rattle.pp_obeys.specs.Moves.{Goes, Leads}
use Rattle.pp_text.specs.Bytes.{is_empty}
use Rattle.pp_recover.proofs.NameLemmas.{Distinct, NotIn, distinct}
use Rattle.pp_recover.specs.Opening.{IsFresh, failed_on}
use Rattle.pp_store.specs.Kept.{is_name}
use Rattle.pp_world.specs.Disk.{View, names_in}
use Rattle.pp_world.specs.Files.{Files}
use Rattle.pp_world.specs.Log.{Log}
use Rattle.pp_world.specs.declared.happening.Happening.TheVariants.{Unread}
use Rattle.pp_shelf_law.specs.Opening.{FreshOnesAreTheLaws, IsOpened, IsRecovering, UnreadNamesAreTheLaws}
use Rattle.pp_shelf_law.proofs.Lists.{true_false}
use Rattle.pp_shelf_law.proofs.Runs.{idle_is}
use Rattle.pp_shelf_law.proofs.Shelves.{bytes_by, bytes_swap, closed_more, same_bytes, same_names}

-- ---- lists

module _ {A : Type 0} (p q r : A → Bool) (each : (x : A) → r x ≡ (p x || q x)) where
  out : (t : A → Bool) (x : A) (ys : List A) (b : Bool) → t x ≡ b → without t (x ∷ ys) ≡ cond (not b) (x ∷ without t ys) (without t ys)
  out t x ys b is = ap (λ (c : Bool). cond (not c) (x ∷ without t ys) (without t ys)) is

  or_by : (x : A) (xs : List A) (a b : Bool) → p x ≡ a → q x ≡ b → without r xs ≡ without q (without p xs) → cond (not (a || b)) (x ∷ without r xs) (without r xs) ≡ without q (cond (not a) (x ∷ without p xs) (without p xs))
  or_by x xs true b ia ib rest = rest
  or_by x xs false true ia ib rest = rest ∙ sym (out q x (without p xs) true ib)
  or_by x xs false false ia ib rest = ap (λ (ys : List A). x ∷ ys) rest ∙ sym (out q x (without p xs) false ib)

  pub without_or : (xs : List A) → without r xs ≡ without q (without p xs)
  without_or [] = refl
  without_or (x ∷ xs) =
      out r x xs (p x || q x) (each x) ∙ or_by x xs (p x) (q x) refl refl (without_or xs)

  any_by : (t : A → Bool) (x : A) (xs : List A) (a b c : Bool) → t x ≡ c → list_any t (filter r xs) ≡ (list_any (λ y. q y && t y) xs || list_any t (filter p xs))
      → list_any t (cond (a || b) (x ∷ filter r xs) (filter r xs)) ≡ ((b && c) || list_any (λ y. q y && t y) xs || list_any t (cond a (x ∷ filter p xs) (filter p xs)))
  any_by t x xs true true true is rest = ap (λ (d : Bool). d || list_any t (filter r xs)) is
  any_by t x xs true true false is rest = ap (λ (d : Bool). d || list_any t (filter r xs)) is ∙ rest ∙ ap (λ (d : Bool). list_any (λ y. q y && t y) xs || (d || list_any t (filter p xs))) (sym is)
  any_by t x xs true false c is rest = ap (λ (d : Bool). d || list_any t (filter r xs)) is ∙ push c (list_any t (filter r xs)) (list_any (λ y. q y && t y) xs) (list_any t (filter p xs)) rest ∙ ap (λ (d : Bool). list_any (λ y. q y && t y) xs || (d || list_any t (filter p xs))) (sym is)
    where
      push : (c l m n : Bool) → l ≡ (m || n) → (c || l) ≡ (m || (c || n))
      push true l true n same = refl
      push true l false n same = refl
      push false l m n same = same
  any_by t x xs false true true is rest = ap (λ (d : Bool). d || list_any t (filter r xs)) is
  any_by t x xs false true false is rest = ap (λ (d : Bool). d || list_any t (filter r xs)) is ∙ rest
  any_by t x xs false false c is rest = rest

  pub any_or : (t : A → Bool) (xs : List A) → list_any t (filter r xs) ≡ (list_any (λ y. q y && t y) xs || list_any t (filter p xs))
  any_or t [] = refl
  any_or t (x ∷ xs) = ap (λ (d : Bool). list_any t (cond d (x ∷ filter r xs) (filter r xs))) (each x) ∙ any_by t x xs (p x) (q x) (t x) refl (any_or t xs)

-- ---- names

-- where one failed, its name passes
sound_unclosed : (log : Log) (name : Bytes) (names : List Bytes) → failed_on log name ≡ false → list_any (is_name name) (filter (failed_on log) names) ≡ false
sound_unclosed log name [] sound = refl
sound_unclosed log name (n ∷ names) sound = by (failed_on log n) refl (sound_unclosed log name names sound)
  where
    other : failed_on log n ≡ true → (b : Bool) → bytes_eq n name ≡ b → b ≡ false
    other failed true is = true_false (sym failed ∙ ap (failed_on log) (same_bytes n name is) ∙ sound)
    other failed false is = refl

    by : (b : Bool) → failed_on log n ≡ b → list_any (is_name name) (filter (failed_on log) names) ≡ false → list_any (is_name name) (cond b (n ∷ filter (failed_on log) names) (filter (failed_on log) names)) ≡ false
    by true failed rest = ap (λ (c : Bool). c || list_any (is_name name) (filter (failed_on log) names)) (other failed (bytes_eq n name) refl) ∙ rest
    by false failed rest = rest

-- the name is one of these: then another is it where the two are the same
same_by : (name other m : Bytes) (ns : List Bytes) (c d : Bool) → bytes_eq name m ≡ c → bytes_eq m other ≡ d → (list_any (λ k. bytes_eq name k && is_name other k) ns ≡ true → bytes_eq name other ≡ true) → ((c && d) || list_any (λ k. bytes_eq name k && is_name other k) ns) ≡ true
    → bytes_eq name other ≡ true
same_by name other m ns true true ic id rest holds = bytes_by name other (same_bytes name m ic ∙ same_bytes m other id)
same_by name other m ns true false ic id rest holds = rest holds
same_by name other m ns false d ic id rest holds = rest holds

any_same : (name other : Bytes) (ns : List Bytes) → list_any (λ m. bytes_eq name m && is_name other m) ns ≡ true → bytes_eq name other ≡ true
any_same name other [] any = absurd (cc any)
any_same name other (m ∷ ns) any = same_by name other m ns (bytes_eq name m) (bytes_eq m other) refl refl (any_same name other ns) any

or_same : (c d : Bool) → (d ≡ true → c ≡ true) → (c || d) ≡ c
or_same true d le = refl
or_same false true le = sym (le refl)
or_same false false le = refl

one_by : (name other n : Bytes) (names : List Bytes) (b : Bool) → bytes_eq n name ≡ b → (b || list_any (is_name name) names) ≡ true
    → (list_any (is_name name) names ≡ true → list_any (λ m. bytes_eq name m && is_name other m) names ≡ bytes_eq name other)
    → ((bytes_eq name n && bytes_eq n other) || list_any (λ m. bytes_eq name m && is_name other m) names) ≡ bytes_eq name other
one_by name other n names true is there rest =
    let same : n ≡ name = same_bytes n name is in
    ap (λ (c : Bool). (c && bytes_eq n other) || list_any (λ m. bytes_eq name m && is_name other m) names) (bytes_by name n (sym same))
    ∙ ap (λ (k : Bytes). bytes_eq k other || list_any (λ m. bytes_eq name m && is_name other m) names) same
    ∙ or_same (bytes_eq name other) (list_any (λ m. bytes_eq name m && is_name other m) names) (any_same name other names)
one_by name other n names false is there rest =
    ap (λ (c : Bool). (c && bytes_eq n other) || list_any (λ m. bytes_eq name m && is_name other m) names) (bytes_swap name n ∙ is) ∙ rest there

one_of : (name other : Bytes) (names : List Bytes) → list_any (is_name name) names ≡ true → list_any (λ n. bytes_eq name n && is_name other n) names ≡ bytes_eq name other
one_of name other [] there = absurd (cc there)
one_of name other (n ∷ names) there = one_by name other n names (bytes_eq n name) refl there (one_of name other names)

or_none : (b : Bool) → (b || false) ≡ b
or_none true = refl
or_none false = refl

off_by : (name m : Bytes) (p : Bytes → Bool) → (m ≡ name → ⊥) → (b : Bool) → bytes_eq name m ≡ b → (p m || b) ≡ p m
off_by name m p differ true is = absurd (differ (sym (same_bytes name m is)))
off_by name m p differ false is = or_none (p m)

unchanged : (name : Bytes) (p r : Bytes → Bool) → ((n : Bytes) → r n ≡ (p n || bytes_eq name n)) → (ns : List Bytes) → NotIn name ns → filter r ns ≡ filter p ns
unchanged name p r each [] none = refl
unchanged name p r each (m ∷ ns) none = ap₂ (λ (b : Bool) (ks : List Bytes). cond b (m ∷ ks) ks) (each m ∙ off_by name m p none.0 (bytes_eq name m) refl) (unchanged name p r each ns none.1)

-- one more passes
count_more : (name : Bytes) (p r : Bytes → Bool) (names : List Bytes) → ((n : Bytes) → r n ≡ (p n || bytes_eq name n)) → p name ≡ false → Distinct names → list_any (is_name name) names ≡ true → length (filter r names) ≡ length (filter p names) + 1
count_more name p r [] each off apart there = absurd (cc there)
count_more name p r (n ∷ names) each off apart there = by (bytes_eq n name) refl there (count_more name p r names each off apart.1)
  where
    suc_is : (k : ℕ) (ks ms : List Bytes) (b : Bool) → length ks ≡ length ms + k → length (cond b (n ∷ ks) ks) ≡ length (cond b (n ∷ ms) ms) + k
    suc_is k ks ms true is = omega (arith, is)
    suc_is k ks ms false is = is

    by : (b : Bool) → bytes_eq n name ≡ b → (b || list_any (is_name name) names) ≡ true → (list_any (is_name name) names ≡ true → length (filter r names) ≡ length (filter p names) + 1) → length (filter r (n ∷ names)) ≡ length (filter p (n ∷ names)) + 1
    by true is there rest =
        let same : n ≡ name = same_bytes n name is in
        let passes : r n ≡ true = each n ∙ ap₂ (λ (a b : Bool). a || b) (ap p same ∙ off) (bytes_by name n (sym same)) in
        let fails_n : p n ≡ false = ap p same ∙ off in
        let rests : filter r names ≡ filter p names = unchanged name p r each names (subst (λ (k : Bytes). NotIn k names) same apart.0) in
        ap (λ (b : Bool). length (cond b (n ∷ filter r names) (filter r names))) passes
        ∙ ap (λ (ks : List Bytes). length (n ∷ ks)) rests
        ∙ sym (ap (λ (b : Bool). length (cond b (n ∷ filter p names) (filter p names)) + 1) fails_n ∙ one_more (filter p names))
      where
        one_more : (ks : List Bytes) → length ks + 1 ≡ length (n ∷ ks)
        one_more ks = omega arith
    by false is there rest =
        ap (λ (b : Bool). length (cond b (n ∷ filter r names) (filter r names))) (each n ∙ ap (λ (b : Bool). p n || b) (bytes_swap name n ∙ is) ∙ or_none (p n))
        ∙ suc_is 1 (filter r names) (filter p names) (p n) (rest there)

-- ---- the file

pub failed_more : (log : Log) (name n : Bytes) → failed_on (log ++ Unread name ∷ []) n ≡ (failed_on log n || bytes_eq name n)
failed_more log name n = ap (λ (v : View). v.failed) (view_more n log (Unread name))

module _ (files : Files) (log : Log) (s : State) (name : Bytes) (apart : Distinct (names_in files)) (is : IsOpened files log s) (recovers : IsRecovering s) (there : list_any (is_name name) (names_in files) ≡ true) (sound : failed_on log name ≡ false) where
  unclosed : has_text name s.closed_names ≡ false
  unclosed = is.closed name ∙ sound_unclosed log name (names_in files) sound

  opens : is_opening (close_name name s) ≡ true
  unfolding close_name
  opens = ap (λ (q : Phase). list_any (λ p. is_same_phase p q) (IsWoken ∷ IsConfigured ∷ IsRooted ∷ IsListed ∷ IsListening ∷ IsStuck ∷ [])) recovers.at

  unread_is : unread name s ≡ paid (lose_entry name (close_name name s))
  unfolding unread lose_in_opening
  unread_is = ap (λ (b : Bool). paid (elim b as (λ c. State) [ true ↦ lose_entry name (close_name name s) | false ↦ close_name name s ])) opens

  entries_are : without (is_named name) s.entries ≡ without (λ e. failed_on (log ++ Unread name ∷ []) e.name) (entries_in files)
  entries_are =
      ap (λ (es : List Entry). without (is_named name) es) is.entries
      ∙ sym (without_or (λ e. failed_on log e.name) (is_named name) (λ e. failed_on (log ++ Unread name ∷ []) e.name) (λ e. failed_more log name e.name ∙ ap (λ (b : Bool). failed_on log e.name || b) (bytes_swap name e.name)) (entries_in files))

  closed_are : (n : Bytes) → has_text n (name ∷ without (bytes_eq name) s.closed_names) ≡ list_any (is_name n) (filter (failed_on (log ++ Unread name ∷ [])) (names_in files))
  closed_are n =
      closed_more name n s.closed_names
      ∙ ap₂ (λ (a b : Bool). a || b) (sym (one_of name n (names_in files) there)) (is.closed n)
      ∙ sym (any_or (failed_on log) (bytes_eq name) (failed_on (log ++ Unread name ∷ [])) (failed_more log name) (is_name n) (names_in files))

  count_is : length (name ∷ without (bytes_eq name) s.closed_names) ≡ length (filter (failed_on (log ++ Unread name ∷ [])) (names_in files))
  count_is =
      ap (λ (ns : List Bytes). length (name ∷ ns)) (same_names name s.closed_names unclosed)
      ∙ omega (arith, is.count, count_more name (failed_on log) (failed_on (log ++ Unread name ∷ [])) (names_in files) (failed_more log name) sound apart there)

  opened_so : IsOpened files (log ++ Unread name ∷ []) (paid (lose_entry name (close_name name s)))
  unfolding paid regained lose_entry close_name
  opened_so = record { entries = entries_are; closed = closed_are; count = count_is }

  recovers_so : IsRecovering (paid (lose_entry name (close_name name s)))
  unfolding paid regained lose_entry close_name
  recovers_so = record { none = recovers.none; at = recovers.at; idle = recovers.idle; done = refl }

  pub unread_leads : Leads (Unread name ∷ []) s (unread name s) × IsOpened files (log ++ Unread name ∷ []) (unread name s) × IsRecovering (unread name s)
  unread_leads =
      let rests : is_at_rest s ≡ true = both_hold (is_idle_disk s) _ (idle_is s recovers.idle) (ap (λ (todo : List Todo). is_empty todo) recovers.done) in
      let reads : may_fail_to_recover s name ≡ true = both_hold (is_at IsListed s) (not (is_closed s name)) (ap (is_same_phase IsListed) recovers.at) (ap (λ (b : Bool). not b) unclosed) in
      let may : permits_unread s name ≡ true = both_hold (is_at_rest s) _ rests (ap (λ (b : Bool). b || list_any (may_fail_to_load s name) s.clients) reads) in
      let goes : Goes s (Unread name) (unread name s) = goes_unread s name recovers.none may in
      (moves_to refl goes refl, subst (IsOpened files (log ++ Unread name ∷ [])) (sym unread_is) opened_so, subst IsRecovering (sym unread_is) recovers_so)

pub unread_names : UnreadNamesAreTheLaws
unread_names files log s name rising is recovers there sound = unread_leads files log s name (distinct (names_in files) rising) is recovers there sound

-- ---- as a life begins

pub none_failed : (files : Files) (log : Log) → IsFresh files log → (name : Bytes) → failed_on log name ≡ false
none_failed files log fresh name = ap (λ (v : View). v.failed) (fresh.views name)

all_left : (p : Entry → Bool) (es : List Entry) → ((e : Entry) → p e ≡ false) → without p es ≡ es
all_left p [] none = refl
all_left p (e ∷ es) none = ap₂ (λ (b : Bool) (ds : List Entry). cond (not b) (e ∷ ds) ds) (none e) (all_left p es none)

none_left : (p : Bytes → Bool) (ns : List Bytes) → ((n : Bytes) → p n ≡ false) → filter p ns ≡ []
none_left p [] none = refl
none_left p (n ∷ ns) none = ap₂ (λ (b : Bool) (ks : List Bytes). cond b (n ∷ ks) ks) (none n) (none_left p ns none)

pub fresh_ones : FreshOnesAreTheLaws
fresh_ones files log s fresh entries closed = record {
  entries = entries ∙ sym (all_left (λ e. failed_on log e.name) (entries_in files) (λ e. none_failed files log fresh e.name));
  closed = λ name. ap (has_text name) closed ∙ sym (ap (λ (ns : List Bytes). list_any (is_name name) ns) (none_left (failed_on log) (names_in files) (none_failed files log fresh)));
  count = ap (λ (ns : List Bytes). length ns) closed ∙ sym (ap (λ (ns : List Bytes). length ns) (none_left (failed_on log) (names_in files) (none_failed files log fresh)));
}
