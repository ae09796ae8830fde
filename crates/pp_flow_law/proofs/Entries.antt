-- The program's lists of exchanges, behind the change of one.
use Rattle.std.proofs.Common.{◌≡◌, ◌≤◌, ◌+◌, refl, sym, ap, ◌∙◌, ℕ, suc, Bool, true, false, not, ◌==◌, ◌||◌, cond, nat_lt, find, List, [], ◌∷◌, ◌++◌, length, map, filter, Option, Some, None, arith}
use Rattle.std.specs.Prelude.{count_by, is_some, option_map}
use Rattle.std.specs.List.{list_any}
use Rattle.std.proofs.lemmas.Bool.Decides.{nat_tests}
use Rattle.pp_cache_law.proofs.Finds.{found_counted}
use Rattle.pp_cache_law.proofs.PairLemmas.{count_first}
use Rattle.pp_flow.specs.Changes.{changed, entered, is_on, is_place, line_of, without}
use Rattle.pp_flow.specs.Entries.{is_number}
use Rattle.pp_flow.specs.declared.entry.Entry.{Entry}

-- ---- numbers

pub same_number : (m n : ℕ) → (m == n) ≡ true → m ≡ n
same_number m n is = grind (arith, nat_tests)

pub other_way : (m n : ℕ) → (m == n) ≡ false → (n == m) ≡ false
other_way m n is = grind (arith, nat_tests)

pub same_as : (m n : ℕ) → m ≡ n → (m == n) ≡ true
same_as m n is = grind (arith, nat_tests)

pub off : (i m n : ℕ) → (i == n) ≡ true → (m == n) ≡ false → (i == m) ≡ false
off i m n is isnt = grind (arith, nat_tests)

pub none_some : {A : Type 0} (x : A) → None ≡ Some x → ⊥
none_some x e = absurd cc

-- a change that leaves an entry its number and its place
abbrev pub Keeps : (Entry → Entry) → Type 0
Keeps g = (x : Entry) → ((g x).exchange.number ≡ x.exchange.number) × ((g x).exchange.place ≡ x.exchange.place)

pub none_left : {A : Type 0} (p : A → Bool) (xs : List A) → count_by p xs ≡ 0 → find p xs ≡ None
none_left {A = A} p xs e = by (find p xs) refl
  where
    by : (o : Option A) → find p xs ≡ o → o ≡ None
    by None is = refl
    by (Some y) is = let one : 1 ≤ count_by p xs = found_counted p xs y is in absurd (omega (arith, one, e))

-- ---- one is changed

pub find_changed : (n : ℕ) (g : Entry → Entry) → Keeps g → (es : List Entry) → find (is_number n) (changed n g es) ≡ option_map g (find (is_number n) es)
find_changed n g keeps [] = refl
find_changed n g keeps (e ∷ es) = by (is_number n e) refl (find_changed n g keeps es)
  where
    by : (b : Bool) → is_number n e ≡ b → find (is_number n) (changed n g es) ≡ option_map g (find (is_number n) es)
        → find (is_number n) (cond b (g e ∷ es) (e ∷ changed n g es)) ≡ option_map g (cond b (Some e) (find (is_number n) es))
    by true is rest = ap (λ (t : Bool). cond t (Some (g e)) (find (is_number n) es)) (ap (λ (i : ℕ). i == n) (keeps e).0 ∙ is)
    by false is rest = ap (λ (t : Bool). cond t (Some e) (find (is_number n) (changed n g es))) is ∙ rest

pub find_changed_else : (n m : ℕ) (g : Entry → Entry) → Keeps g → (m == n) ≡ false → (es : List Entry) → find (is_number m) (changed n g es) ≡ find (is_number m) es
find_changed_else n m g keeps isnt [] = refl
find_changed_else n m g keeps isnt (e ∷ es) = by (is_number n e) refl (find_changed_else n m g keeps isnt es)
  where
    by : (b : Bool) → is_number n e ≡ b → find (is_number m) (changed n g es) ≡ find (is_number m) es
        → find (is_number m) (cond b (g e ∷ es) (e ∷ changed n g es)) ≡ cond (is_number m e) (Some e) (find (is_number m) es)
    by true is rest =
        let out : (e.exchange.number == m) ≡ false = off e.exchange.number m n is isnt in
        ap (λ (t : Bool). cond t (Some (g e)) (find (is_number m) es)) (ap (λ (i : ℕ). i == m) (keeps e).0 ∙ out)
        ∙ sym (ap (λ (t : Bool). cond t (Some e) (find (is_number m) es)) out)
    by false is rest = ap (λ (o : Option Entry). cond (is_number m e) (Some e) o) rest

pub count_changed : (n : ℕ) (g : Entry → Entry) (p : Entry → Bool) → ((x : Entry) → p (g x) ≡ p x) → (es : List Entry) → count_by p (changed n g es) ≡ count_by p es
count_changed n g p same [] = refl
count_changed n g p same (e ∷ es) = by (is_number n e) (count_changed n g p same es)
  where
    by : (b : Bool) → count_by p (changed n g es) ≡ count_by p es → count_by p (cond b (g e ∷ es) (e ∷ changed n g es)) ≡ count_by p (e ∷ es)
    by true rest = count_first p (g e) es ∙ ap (λ (t : Bool). cond t 1 0 + count_by p es) (same e) ∙ sym (count_first p e es)
    by false rest = count_first p e (changed n g es) ∙ ap (λ (i : ℕ). cond (p e) 1 0 + i) rest ∙ sym (count_first p e es)

pub length_changed : (n : ℕ) (g : Entry → Entry) (es : List Entry) → length (changed n g es) ≡ length es
length_changed n g [] = refl
length_changed n g (e ∷ es) = by (is_number n e) (length_changed n g es)
  where
    by : (b : Bool) → length (changed n g es) ≡ length es → length (cond b (g e ∷ es) (e ∷ changed n g es)) ≡ suc (length es)
    by true rest = refl
    by false rest = ap (λ (i : ℕ). suc i) rest

pub line_first : (k : ℕ) (e : Entry) (es : List Entry) → line_of k (e ∷ es) ≡ cond (is_on k e) (e.exchange.number ∷ line_of k es) (line_of k es)
line_first k e es = by (is_on k e)
  where
    by : (b : Bool) → map (λ (x : Entry). x.exchange.number) (cond b (e ∷ filter (is_on k) es) (filter (is_on k) es)) ≡ cond b (e.exchange.number ∷ line_of k es) (line_of k es)
    by true = refl
    by false = refl

pub line_changed : (n k : ℕ) (g : Entry → Entry) → Keeps g → (es : List Entry) → line_of k (changed n g es) ≡ line_of k es
line_changed n k g keeps [] = refl
line_changed n k g keeps (e ∷ es) = by (is_number n e) (line_changed n k g keeps es)
  where
    by : (b : Bool) → line_of k (changed n g es) ≡ line_of k es → line_of k (cond b (g e ∷ es) (e ∷ changed n g es)) ≡ line_of k (e ∷ es)
    by true rest =
        line_first k (g e) es
        ∙ ap (λ (t : Bool). cond t ((g e).exchange.number ∷ line_of k es) (line_of k es)) (ap (λ (o : Option ℕ). is_place k o) (keeps e).1)
        ∙ ap (λ (i : ℕ). cond (is_on k e) (i ∷ line_of k es) (line_of k es)) (keeps e).0
        ∙ sym (line_first k e es)
    by false rest = line_first k e (changed n g es) ∙ ap (λ (ns : List ℕ). cond (is_on k e) (e.exchange.number ∷ ns) ns) rest ∙ sym (line_first k e es)

pub changed_none : (n : ℕ) (g : Entry → Entry) (es : List Entry) → find (is_number n) es ≡ None → changed n g es ≡ es
changed_none n g [] none = refl
changed_none n g (e ∷ es) none = by (is_number n e) none (λ f. changed_none n g es f)
  where
    by : (b : Bool) → cond b (Some e) (find (is_number n) es) ≡ None → (find (is_number n) es ≡ None → changed n g es ≡ es) → cond b (g e ∷ es) (e ∷ changed n g es) ≡ e ∷ es
    by true f rest = absurd (none_some e (sym f))
    by false f rest = ap (λ (xs : List Entry). e ∷ xs) (rest f)

pub changed_twice : (n : ℕ) (g h : Entry → Entry) → Keeps g → (es : List Entry) → changed n h (changed n g es) ≡ changed n (λ x. h (g x)) es
changed_twice n g h keeps [] = refl
changed_twice n g h keeps (e ∷ es) = by (is_number n e) refl (changed_twice n g h keeps es)
  where
    by : (b : Bool) → is_number n e ≡ b → changed n h (changed n g es) ≡ changed n (λ x. h (g x)) es
        → changed n h (cond b (g e ∷ es) (e ∷ changed n g es)) ≡ cond b (h (g e) ∷ es) (e ∷ changed n (λ x. h (g x)) es)
    by true is rest = ap (λ (t : Bool). cond t (h (g e) ∷ es) (g e ∷ changed n h es)) (ap (λ (i : ℕ). i == n) (keeps e).0 ∙ is)
    by false is rest = ap (λ (t : Bool). cond t (h e ∷ changed n g es) (e ∷ changed n h (changed n g es))) is ∙ ap (λ (xs : List Entry). e ∷ xs) rest

-- ---- one is out

few_first : (p : Entry → Bool) (e : Entry) (es : List Entry) → count_by p (e ∷ es) ≤ 1 → cond (p e) 1 0 + count_by p es ≤ 1
few_first p e es few = omega (arith, few, count_first p e es)

pub find_without_else : (n m : ℕ) → (m == n) ≡ false → (es : List Entry) → find (is_number m) (without n es) ≡ find (is_number m) es
find_without_else n m isnt [] = refl
find_without_else n m isnt (e ∷ es) = by (is_number n e) refl (find_without_else n m isnt es)
  where
    by : (b : Bool) → is_number n e ≡ b → find (is_number m) (without n es) ≡ find (is_number m) es → find (is_number m) (cond b es (e ∷ without n es)) ≡ cond (is_number m e) (Some e) (find (is_number m) es)
    by true is rest = sym (ap (λ (t : Bool). cond t (Some e) (find (is_number m) es)) (off e.exchange.number m n is isnt))
    by false is rest = ap (λ (o : Option Entry). cond (is_number m e) (Some e) o) rest

pub find_without : (n : ℕ) (es : List Entry) → count_by (is_number n) es ≤ 1 → find (is_number n) (without n es) ≡ None
find_without n [] few = refl
find_without n (e ∷ es) few = by (is_number n e) refl (few_first (is_number n) e es few) (λ less. find_without n es less)
  where
    by : (b : Bool) → is_number n e ≡ b → cond b 1 0 + count_by (is_number n) es ≤ 1 → (count_by (is_number n) es ≤ 1 → find (is_number n) (without n es) ≡ None)
        → find (is_number n) (cond b es (e ∷ without n es)) ≡ None
    by true is less rest = none_left (is_number n) es (omega (arith, less))
    by false is less rest = ap (λ (t : Bool). cond t (Some e) (find (is_number n) (without n es))) is ∙ rest (omega (arith, less))

pub count_without : (n : ℕ) (p : Entry → Bool) (es : List Entry) → count_by p (without n es) ≤ count_by p es
count_without n p [] = omega arith
count_without n p (e ∷ es) = by (is_number n e) (count_without n p es)
  where
    by : (b : Bool) → count_by p (without n es) ≤ count_by p es → count_by p (cond b es (e ∷ without n es)) ≤ count_by p (e ∷ es)
    by true rest = omega (arith, count_first p e es)
    by false rest = omega (arith, rest, count_first p e (without n es), count_first p e es)

pub count_without_else : (n m : ℕ) → (m == n) ≡ false → (es : List Entry) → count_by (is_number m) (without n es) ≡ count_by (is_number m) es
count_without_else n m isnt [] = refl
count_without_else n m isnt (e ∷ es) = by (is_number n e) refl (count_without_else n m isnt es)
  where
    by : (b : Bool) → is_number n e ≡ b → count_by (is_number m) (without n es) ≡ count_by (is_number m) es → count_by (is_number m) (cond b es (e ∷ without n es)) ≡ count_by (is_number m) (e ∷ es)
    by true is rest =
        let zero : count_by (is_number m) (e ∷ es) ≡ 0 + count_by (is_number m) es =
        count_first (is_number m) e es ∙ ap (λ (t : Bool). cond t 1 0 + count_by (is_number m) es) (off e.exchange.number m n is isnt) in
        omega (arith, zero)
    by false is rest = omega (arith, rest, count_first (is_number m) e (without n es), count_first (is_number m) e es)

pub length_without : (n : ℕ) (es : List Entry) → count_by (is_number n) es ≤ 1 → length (without n es) + count_by (is_number n) es ≡ length es
length_without n [] few = refl
length_without n (e ∷ es) few = by (is_number n e) refl (few_first (is_number n) e es few) (λ less. length_without n es less)
  where
    by : (b : Bool) → is_number n e ≡ b → cond b 1 0 + count_by (is_number n) es ≤ 1 → (count_by (is_number n) es ≤ 1 → length (without n es) + count_by (is_number n) es ≡ length es)
        → length (cond b es (e ∷ without n es)) + count_by (is_number n) (e ∷ es) ≡ suc (length es)
    by true is less rest =
        let one : count_by (is_number n) (e ∷ es) ≡ 1 + count_by (is_number n) es = count_first (is_number n) e es ∙ ap (λ (t : Bool). cond t 1 0 + count_by (is_number n) es) is in
        omega (arith, one, less)
    by false is less rest =
        let one : count_by (is_number n) (e ∷ es) ≡ 0 + count_by (is_number n) es = count_first (is_number n) e es ∙ ap (λ (t : Bool). cond t 1 0 + count_by (is_number n) es) is in
        omega (arith, one, rest (omega (arith, less)))

pub without_none : (n : ℕ) (es : List Entry) → find (is_number n) es ≡ None → without n es ≡ es
without_none n [] none = refl
without_none n (e ∷ es) none = by (is_number n e) none (λ f. without_none n es f)
  where
    by : (b : Bool) → cond b (Some e) (find (is_number n) es) ≡ None → (find (is_number n) es ≡ None → without n es ≡ es) → cond b es (e ∷ without n es) ≡ e ∷ es
    by true f rest = absurd (none_some e (sym f))
    by false f rest = ap (λ (xs : List Entry). e ∷ xs) (rest f)

abbrev pub isnt : ℕ → ℕ → Bool
isnt n m = not (m == n)

no_line : (n k : ℕ) (es : List Entry) → find (is_number n) es ≡ None → filter (isnt n) (line_of k es) ≡ line_of k es
no_line n k [] none = refl
no_line n k (e ∷ es) none = ap (λ (ns : List ℕ). filter (isnt n) ns) (line_first k e es) ∙ by (is_number n e) (is_on k e) refl none (λ f. no_line n k es f) ∙ sym (line_first k e es)
  where
    by : (b c : Bool) → is_number n e ≡ b → cond b (Some e) (find (is_number n) es) ≡ None → (find (is_number n) es ≡ None → filter (isnt n) (line_of k es) ≡ line_of k es)
        → filter (isnt n) (cond c (e.exchange.number ∷ line_of k es) (line_of k es)) ≡ cond c (e.exchange.number ∷ line_of k es) (line_of k es)
    by true c is f rest = absurd (none_some e (sym f))
    by false true is f rest =
        ap (λ (t : Bool). cond (not t) (e.exchange.number ∷ filter (isnt n) (line_of k es)) (filter (isnt n) (line_of k es))) is ∙ ap (λ (ns : List ℕ). e.exchange.number ∷ ns) (rest f)
    by false false is f rest = rest f

pub line_without : (n k : ℕ) (es : List Entry) → count_by (is_number n) es ≤ 1 → line_of k (without n es) ≡ filter (isnt n) (line_of k es)
line_without n k [] few = refl
line_without n k (e ∷ es) few =
    by (is_number n e) (is_on k e) refl refl (few_first (is_number n) e es few) (λ less. line_without n k es less) ∙ sym (ap (λ (ns : List ℕ). filter (isnt n) ns) (line_first k e es))
  where
    by : (b c : Bool) → is_number n e ≡ b → is_on k e ≡ c → cond b 1 0 + count_by (is_number n) es ≤ 1 → (count_by (is_number n) es ≤ 1 → line_of k (without n es) ≡ filter (isnt n) (line_of k es))
        → line_of k (cond b es (e ∷ without n es)) ≡ filter (isnt n) (cond c (e.exchange.number ∷ line_of k es) (line_of k es))
    by true true is there less rest =
        sym (no_line n k es (none_left (is_number n) es (omega (arith, less))))
        ∙ sym (ap (λ (t : Bool). cond (not t) (e.exchange.number ∷ filter (isnt n) (line_of k es)) (filter (isnt n) (line_of k es))) is)
    by true false is there less rest = sym (no_line n k es (none_left (is_number n) es (omega (arith, less))))
    by false true is there less rest =
        line_first k e (without n es)
        ∙ ap (λ (t : Bool). cond t (e.exchange.number ∷ line_of k (without n es)) (line_of k (without n es))) there
        ∙ ap (λ (ns : List ℕ). e.exchange.number ∷ ns) (rest (omega (arith, less)))
        ∙ sym (ap (λ (t : Bool). cond (not t) (e.exchange.number ∷ filter (isnt n) (line_of k es)) (filter (isnt n) (line_of k es))) is)
    by false false is there less rest =
        line_first k e (without n es)
        ∙ ap (λ (t : Bool). cond t (e.exchange.number ∷ line_of k (without n es)) (line_of k (without n es))) there
        ∙ rest (omega (arith, less))

-- ---- one comes behind the others

pub line_joined : (k : ℕ) (es zs : List Entry) → line_of k (es ++ zs) ≡ line_of k es ++ line_of k zs
line_joined k [] zs = refl
line_joined k (e ∷ es) zs =
    line_first k e (es ++ zs) ∙ ap (λ (ns : List ℕ). cond (is_on k e) (e.exchange.number ∷ ns) ns) (line_joined k es zs) ∙ by (is_on k e) ∙ sym (ap (λ (ns : List ℕ). ns ++ line_of k zs) (line_first k e es))
  where
    by : (b : Bool) → cond b (e.exchange.number ∷ (line_of k es ++ line_of k zs)) (line_of k es ++ line_of k zs) ≡ cond b (e.exchange.number ∷ line_of k es) (line_of k es) ++ line_of k zs
    by true = refl
    by false = refl

pub length_last : {A : Type 0} (xs : List A) (y : A) → length (xs ++ y ∷ []) ≡ length xs + 1
length_last [] y = refl
length_last (x ∷ xs) y = let rest : length (xs ++ y ∷ []) ≡ length xs + 1 = length_last xs y in omega (arith, rest)

pub changed_last : (n : ℕ) (g : Entry → Entry) (es : List Entry) (y : Entry) → find (is_number n) es ≡ None → is_number n y ≡ true → changed n g (es ++ y ∷ []) ≡ es ++ g y ∷ []
changed_last n g [] y none is = ap (λ (t : Bool). cond t (g y ∷ []) (y ∷ [])) is
changed_last n g (e ∷ es) y none is = by (is_number n e) none (λ f. changed_last n g es y f is)
  where
    by : (b : Bool) → cond b (Some e) (find (is_number n) es) ≡ None → (find (is_number n) es ≡ None → changed n g (es ++ y ∷ []) ≡ es ++ g y ∷ [])
        → cond b (g e ∷ (es ++ y ∷ [])) (e ∷ changed n g (es ++ y ∷ [])) ≡ e ∷ (es ++ g y ∷ [])
    by true f rest = absurd (none_some e (sym f))
    by false f rest = ap (λ (xs : List Entry). e ∷ xs) (rest f)

pub any_is : (p : Entry → Bool) (es : List Entry) (o : Option Entry) → find p es ≡ o → list_any p es ≡ is_some o
any_is p es o is = any p es ∙ ap (λ (u : Option Entry). is_some u) is
  where
    any : (p : Entry → Bool) (es : List Entry) → list_any p es ≡ is_some (find p es)
    any p [] = refl
    any p (e ∷ es) = by (p e) (any p es)
      where
        by : (b : Bool) → list_any p es ≡ is_some (find p es) → (b || list_any p es) ≡ is_some (cond b (Some e) (find p es))
        by true rest = refl
        by false rest = rest

-- ---- one comes in before those that began later

pub find_entered_else : (m : ℕ) (y : Entry) → (y.exchange.number == m) ≡ false → (es : List Entry) → find (is_number m) (entered y es) ≡ find (is_number m) es
find_entered_else m y isnt [] = ap (λ (t : Bool). cond t (Some y) None) isnt
find_entered_else m y isnt (e ∷ es) = by (nat_lt y.exchange.number e.exchange.number) (find_entered_else m y isnt es)
  where
    by : (b : Bool) → find (is_number m) (entered y es) ≡ find (is_number m) es → find (is_number m) (cond b (y ∷ e ∷ es) (e ∷ entered y es)) ≡ cond (is_number m e) (Some e) (find (is_number m) es)
    by true rest = ap (λ (t : Bool). cond t (Some y) (cond (is_number m e) (Some e) (find (is_number m) es))) isnt
    by false rest = ap (λ (o : Option Entry). cond (is_number m e) (Some e) o) rest

pub find_entered : (n : ℕ) (y : Entry) → is_number n y ≡ true → (es : List Entry) → find (is_number n) es ≡ None → find (is_number n) (entered y es) ≡ Some y
find_entered n y is [] none = ap (λ (t : Bool). cond t (Some y) None) is
find_entered n y is (e ∷ es) none = by (nat_lt y.exchange.number e.exchange.number) (is_number n e) refl none (λ f. find_entered n y is es f)
  where
    by : (b c : Bool) → is_number n e ≡ c → cond c (Some e) (find (is_number n) es) ≡ None → (find (is_number n) es ≡ None → find (is_number n) (entered y es) ≡ Some y)
        → find (is_number n) (cond b (y ∷ e ∷ es) (e ∷ entered y es)) ≡ Some y
    by true c so f rest = ap (λ (t : Bool). cond t (Some y) (cond (is_number n e) (Some e) (find (is_number n) es))) is
    by false true so f rest = absurd (none_some e (sym f))
    by false false so f rest = ap (λ (t : Bool). cond t (Some e) (find (is_number n) (entered y es))) so ∙ rest f

pub count_entered : (p : Entry → Bool) (y : Entry) (es : List Entry) → count_by p (entered y es) ≡ cond (p y) 1 0 + count_by p es
count_entered p y [] = count_first p y []
count_entered p y (e ∷ es) = by (nat_lt y.exchange.number e.exchange.number) (count_entered p y es)
  where
    by : (b : Bool) → count_by p (entered y es) ≡ cond (p y) 1 0 + count_by p es → count_by p (cond b (y ∷ e ∷ es) (e ∷ entered y es)) ≡ cond (p y) 1 0 + count_by p (e ∷ es)
    by true rest = count_first p y (e ∷ es)
    by false rest = omega (arith, rest, count_first p e (entered y es), count_first p e es)

pub length_entered : (y : Entry) (es : List Entry) → length (entered y es) ≡ length es + 1
length_entered y [] = refl
length_entered y (e ∷ es) = by (nat_lt y.exchange.number e.exchange.number) (length_entered y es)
  where
    by : (b : Bool) → length (entered y es) ≡ length es + 1 → length (cond b (y ∷ e ∷ es) (e ∷ entered y es)) ≡ suc (length es) + 1
    by true rest = omega arith
    by false rest = omega (arith, rest)

pub changed_entered : (n : ℕ) (g : Entry → Entry) (y : Entry) → Keeps g → is_number n y ≡ true → (es : List Entry) → find (is_number n) es ≡ None → changed n g (entered y es) ≡ entered (g y) es
changed_entered n g y keeps is [] none = ap (λ (t : Bool). cond t (g y ∷ []) (y ∷ [])) is
changed_entered n g y keeps is (e ∷ es) none =
    by (nat_lt y.exchange.number e.exchange.number) (is_number n e) refl none (λ f. changed_entered n g y keeps is es f)
    ∙ sym (ap (λ (i : ℕ). cond (nat_lt i e.exchange.number) (g y ∷ e ∷ es) (e ∷ entered (g y) es)) (keeps y).0)
  where
    by : (b c : Bool) → is_number n e ≡ c → cond c (Some e) (find (is_number n) es) ≡ None → (find (is_number n) es ≡ None → changed n g (entered y es) ≡ entered (g y) es)
        → changed n g (cond b (y ∷ e ∷ es) (e ∷ entered y es)) ≡ cond b (g y ∷ e ∷ es) (e ∷ entered (g y) es)
    by true c so f rest = ap (λ (t : Bool). cond t (g y ∷ e ∷ es) (y ∷ changed n g (e ∷ es))) is
    by false true so f rest = absurd (none_some e (sym f))
    by false false so f rest = ap (λ (t : Bool). cond t (g e ∷ entered y es) (e ∷ changed n g (entered y es))) so ∙ ap (λ (xs : List Entry). e ∷ xs) (rest f)
