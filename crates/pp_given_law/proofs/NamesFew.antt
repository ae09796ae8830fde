-- No more names are noted than so many, behind each step of decisions and rounds: whatever is noted is one of those that stand there.
use Rattle.std.proofs.Common.{◌≡◌, ◌≤◌, ◌<◌, ◌+◌, refl, sym, subst, ap, ◌∙◌, ℕ, Bool, true, false, not, ◌||◌, cond, length, List, [], ◌∷◌, ◌++◌, length-append, arith}
use Rattle.std.proofs.lemmas.Slice.Eq.{bytes_eq-Decides}
use Rattle.std.specs.List.{list_any}
use Rattle.std.specs.Prelude.{bytes_eq, count_by, nat_le}
use Rattle.pp_cache.specs.Memory.{Memory, retired_at}
use Rattle.pp_cache.specs.OnDisk.{outdated_by}
use Rattle.pp_cache_law.proofs.PairLemmas.{count_first}
use Rattle.pp_law.specs.State.{State, Term}
use Rattle.pp_seats.specs.Heads.{asked_in, owned_in}
use Rattle.pp_seats.specs.declared.front.Front.{Front}
use Rattle.pp_state.specs.Ends.{parts}
use Rattle.pp_state.specs.declared.state.State.{State as Turn}
use Rattle.pp_stays_law.proofs.Alone.{all_alone, as_well, with_any}
use Rattle.pp_stays_law.proofs.Fits.{HasNameAmong, all_named, are_named}
use Rattle.pp_stays_law.proofs.Rested.{SuitsPlaces}
use Rattle.pp_stays_law.proofs.Walk.{Holds, Suits}
use Rattle.pp_stays_law.specs.Names.{AsksAmong, is_among, is_unnoted}
use Rattle.pp_stays_law.specs.Steps.{StaysInATurn}
use Rattle.pp_store.specs.Kept.{KeptMap}
use Rattle.pp_target.specs.Name.{name_of}
use Rattle.pp_given_law.specs.MayNote.{FewNamesHaveRoom, NamesAreFew, NamesStayFew}

-- ---- fewer pass a test that is harder

count_less : (p q : List ℕ → Bool) (xs : List (List ℕ)) → ((k : List ℕ) → q k ≡ true → p k ≡ true) → count_by q xs ≤ count_by p xs
count_less p q [] harder = omega arith
count_less p q (k ∷ xs) harder = omega (arith, count_first p k xs, count_first q k xs, one (p k) (q k) (harder k), count_less p q xs harder)
  where
    one : (a b : Bool) → (b ≡ true → a ≡ true) → cond b 1 0 ≤ cond a 1 0
    one true true so = omega arith
    one true false so = omega arith
    one false true so = absurd (let bad : false ≡ true = so refl in cc bad)
    one false false so = omega arith

-- where one of them passes it no more, one less
count_without : (p q : List ℕ → Bool) (y : List ℕ) (xs : List (List ℕ)) → ((k : List ℕ) → q k ≡ true → p k ≡ true) → p y ≡ true → q y ≡ false → is_among xs y ≡ true → count_by q xs + 1 ≤ count_by p xs
count_without p q y [] harder was isnt there = absurd (cc there)
count_without p q y (k ∷ xs) harder was isnt there = by (bytes_eq y k) refl there (count_without p q y xs harder was isnt)
  where
    here : (a b : Bool) (m n : ℕ) → a ≡ true → b ≡ false → m ≤ n → cond b 1 0 + m + 1 ≤ cond a 1 0 + n
    here true false m n one two less = omega (arith, less)
    here true true m n one two less = absurd (cc two)
    here false b m n one two less = absurd (cc one)

    later : (a b : Bool) (m n : ℕ) → (b ≡ true → a ≡ true) → m + 1 ≤ n → cond b 1 0 + m + 1 ≤ cond a 1 0 + n
    later true true m n so less = omega (arith, less)
    later true false m n so less = omega (arith, less)
    later false true m n so less = absurd (let bad : false ≡ true = so refl in cc bad)
    later false false m n so less = omega (arith, less)

    all : cond (q k) 1 0 + count_by q xs + 1 ≤ cond (p k) 1 0 + count_by p xs → count_by q (k ∷ xs) + 1 ≤ count_by p (k ∷ xs)
    all less = omega (arith, less, count_first p k xs, count_first q k xs)

    by : (b : Bool) → bytes_eq y k ≡ b → (b || is_among xs y) ≡ true → (is_among xs y ≡ true → count_by q xs + 1 ≤ count_by p xs) → count_by q (k ∷ xs) + 1 ≤ count_by p (k ∷ xs)
    by true is some rest =
        let same : y ≡ k = (bytes_eq-Decides y k).0 is in
        all (here (p k) (q k) (count_by q xs) (count_by p xs) (ap p (sym same) ∙ was) (ap q (sym same) ∙ isnt) (count_less p q xs harder))
    by false is some rest = all (later (p k) (q k) (count_by q xs) (count_by p xs) (harder k) (rest some))

-- ---- one more is noted

any_last : (p : List ℕ → Bool) (xs : List (List ℕ)) (y : List ℕ) → list_any p (xs ++ y ∷ []) ≡ (list_any p xs || p y)
any_last p [] y = by (p y)
  where
    by : (b : Bool) → (b || false) ≡ (false || b)
    by true = refl
    by false = refl
any_last p (x ∷ xs) y = ap (λ (b : Bool). p x || b) (any_last p xs y) ∙ by (p x) (list_any p xs) (p y)
  where
    by : (a b c : Bool) → (a || (b || c)) ≡ ((a || b) || c)
    by true b c = refl
    by false b c = refl

abbrev more : List (List ℕ) → List ℕ → List (List ℕ)
more noted name = noted ++ name ∷ []

-- whoever is not noted then was not before, and it itself is
was_out : (noted : List (List ℕ)) (name k : List ℕ) → is_unnoted (more noted name) k ≡ true → is_unnoted noted k ≡ true
was_out noted name k is = by (is_among noted k) (bytes_eq k name) (sym (ap not (any_last (bytes_eq k) noted name)) ∙ is)
  where
    by : (a b : Bool) → not (a || b) ≡ true → not a ≡ true
    by true b is = is
    by false b is = refl

is_in : (noted : List (List ℕ)) (name : List ℕ) → is_unnoted (more noted name) name ≡ false
is_in noted name = ap not (any_last (bytes_eq name) noted name ∙ ap (λ (b : Bool). is_among noted name || b) ((bytes_eq-Decides name name).1 refl)) ∙ by (is_among noted name)
  where
    by : (a : Bool) → not (a || true) ≡ false
    by true = refl
    by false = refl

abbrev Few : ℕ → List (List ℕ) → List (List ℕ) → Type 0
Few most names noted = length noted + count_by (is_unnoted noted) names ≤ most

noted_few : (most : ℕ) (names noted : List (List ℕ)) (name : List ℕ) → is_among names name ≡ true → Few most names noted → Few most names (outdated_by name noted)
noted_few most names noted name among few = by (is_among noted name) (nat_le 2048 (length noted)) refl
  where
    left : (a b c d : ℕ) → a + b ≤ most → c ≡ a + 1 → d + 1 ≤ b → c + d ≤ most
    left a b c d less one two = omega (arith, less, one, two)

    by : (a b : Bool) → is_among noted name ≡ a → Few most names (cond (a || b) noted (more noted name))
    by true b at = few
    by false true at = few
    by false false at =
        left (length noted) (count_by (is_unnoted noted) names) (length (more noted name)) (count_by (is_unnoted (more noted name)) names) few (length-append noted (name ∷ []))
        (count_without (is_unnoted noted) (is_unnoted (more noted name)) name names (was_out noted name) (ap not at) (is_in noted name) among)

-- ---- behind each step

abbrev FewOf : ℕ → List (List ℕ) → Memory → Type 0
FewOf most names m = Few most names m.outdated

retired_few : (most : ℕ) (names : List (List ℕ)) (key : List ℕ) (m : Memory) → is_among names (name_of key) ≡ true → FewOf most names m → FewOf most names (retired_at key m)
unfolding retired_at
retired_few most names key m among few = noted_few most names m.outdated (name_of key) among few

few_suits : (most : ℕ) (names : List (List ℕ)) → Suits (AsksAmong names) (HasNameAmong names) (HasNameAmong names) (FewOf most names)
few_suits most names = record {
  seat = λ a b on its key owned. its key (sym (ap (λ (f : Front). owned_in (asked_in f)) on.front) ∙ owned);
  left_waiting = λ x its. its;
  left_placed = λ x its. its;
  anew_waiting = λ x its. its;
  anew_placed = λ x its. its;
  begins = λ seat key n aim errand text its owned pending. its key owned;
  memory = λ m k same few. subst (λ (noted : List (List ℕ)). Few most names noted) (sym same) few;
}

few_places : (most : ℕ) (names : List (List ℕ)) → SuitsPlaces (HasNameAmong names) (HasNameAmong names) (FewOf most names)
few_places most names = record {
  put = λ k x its. its;
  clears = λ x m its few. retired_few most names x.key.items m its few;
  clears_placed = λ x m its few. retired_few most names x.key.items m its few;
}

module _ (terms : List Term) (shelf : KeptMap) (most : ℕ) where
  abbrev HoldFew : List (List ℕ) → Turn → State → Type 0
  HoldFew names p s = Holds (AsksAmong names) (HasNameAmong names) (HasNameAmong names) (FewOf most names) (parts p)

  pub few_stay : StaysInATurn terms shelf (λ p s. NamesAreFew most (parts p))
  few_stay =
      as_well terms shelf (λ p s. (names : List (List ℕ)) × HoldFew names p s) (λ p s. NamesAreFew most (parts p))
      (λ p s h. record { names = h.0; seats = h.1.seats; waiting = are_named h.0 p.flow.waiting h.1.waiting; placed = are_named h.0 p.flow.placed h.1.placed; few = h.1.memory })
      (λ p s h. (h.names, record { seats = h.seats; waiting = all_named h.names p.flow.waiting h.waiting; placed = all_named h.names p.flow.placed h.placed; memory = h.few }))
      (with_any terms shelf (List (List ℕ)) HoldFew
      (λ names. all_alone terms shelf (AsksAmong names) (HasNameAmong names) (HasNameAmong names) (FewOf most names) (few_suits most names) (λ e its. its) (few_places most names)))

-- ---- there is room for so few

pub few_have_room : FewNamesHaveRoom
few_have_room most p less its = record { names = its.names; seats = its.seats; waiting = its.waiting; placed = its.placed; room = below (length p.cache.outdated + count_by (is_unnoted p.cache.outdated) its.names) its.few }
  where
    below : (n : ℕ) → n ≤ most → n < 2048
    below n few = omega (arith, few, less)

-- ---- with whatever else stays so

module _ (terms : List Term) (shelf : KeptMap) (I J : Turn → State → Type 0) (one : StaysInATurn terms shelf I) (two : StaysInATurn terms shelf J) where
  pub both_stay : StaysInATurn terms shelf (λ p s. I p s × J p s)
  both_stay = record {
    decisions = record {
      taken = λ before i due p x y log s seat c at h next takes well then. (one.decisions.taken before i due p x y log s seat c at h.0 next takes well then, two.decisions.taken before i due p x y log s seat c at h.1 next takes well then);
      cut = λ before i cause p x y log s seat c at h next takes well then. (one.decisions.cut before i cause p x y log s seat c at h.0 next takes well then, two.decisions.cut before i cause p x y log s seat c at h.1 next takes well then);
      none = λ before peers p q s at h none well then. (one.decisions.none before peers p q s at h.0 none well then, two.decisions.none before peers p q s at h.1 none well then);
    };
    rounds = record {
      silent = λ before number x seen given asked s obeys amid may counted h phase none drops gives fills later then well. (
        one.rounds.silent before number x seen given asked s obeys amid may counted h.0 phase none drops gives fills later then well,
        two.rounds.silent before number x seen given asked s obeys amid may counted h.1 phase none drops gives fills later then well,
      );
      closed = λ before number x y log s t obeys amid h phase over leads later then well. (
        one.rounds.closed before number x y log s t obeys amid h.0 phase over leads later then well,
        two.rounds.closed before number x y log s t obeys amid h.1 phase over leads later then well,
      );
      placed = λ before number x y log s t obeys amid h phase closed dials places leads done later then well. (
        one.rounds.placed before number x y log s t obeys amid h.0 phase closed dials places leads done later then well,
        two.rounds.placed before number x y log s t obeys amid h.1 phase closed dials places leads done later then well,
      );
    };
  }

pub names_stay : NamesStayFew
names_stay terms shelf most = few_stay terms shelf most
