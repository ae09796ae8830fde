-- Where connections are placed, they are as exchanges get their places, and where one is dialled or dropped.
use Rattle.std.proofs.Common.{◌≡◌, ◌≤◌, ◌+◌, refl, sym, subst, ap, ap₂, ◌∙◌, ℕ, Bool, true, false, not, ◌==◌, ◌||◌, cond, find, filter, map, List, [], ◌∷◌, ◌++◌, Option, Some, None, arith}
use Rattle.std.specs.List.{list_any}
use Rattle.std.specs.Prelude.{count_by, option_map}
use Rattle.pp_cache_law.proofs.Finds.{find_joined, find_mapped, first_of_two, none_found, none_within}
use Rattle.pp_cache_law.proofs.PairLemmas.{count_first, count_joined, count_kept, count_mapped_same}
use Rattle.pp_turns_law.specs.Log.{IsConnecting}
use Rattle.pp_flow_law.proofs.Entries.{none_some, same_number}
use Rattle.pp_law.specs.After.{new_conn, out}
use Rattle.pp_law.specs.Connections.{conn, is_conn, on_conn, on_exchange, placing, put_on}
use Rattle.pp_law.specs.Lists.{Bytes}
use Rattle.pp_law.specs.State.{State, Client, Conn}
use Rattle.pp_laws_bounds.proofs.Places.{placing-any}
use Rattle.pp_places_law.specs.Around.{MayPlace}

-- ---- lists

pub any_mapped : {A : Type 0} (p : A → Bool) (f : A → A) (xs : List A) → ((x : A) → p (f x) ≡ p x) → list_any p (map f xs) ≡ list_any p xs
any_mapped p f [] same = refl
any_mapped p f (x ∷ xs) same = ap₂ (λ (a b : Bool). a || b) (same x) (any_mapped p f xs same)

any_kept : {A : Type 0} (p q : A → Bool) (xs : List A) → list_any p xs ≡ false → list_any p (filter q xs) ≡ false
any_kept p q [] none = refl
any_kept {A = A} p q (x ∷ xs) none = by (p x) (q x) refl none (λ later. any_kept p q xs later)
  where
    by : (b c : Bool) → p x ≡ b → (b || list_any p xs) ≡ false → (list_any p xs ≡ false → list_any p (filter q xs) ≡ false) → list_any p (cond c (x ∷ filter q xs) (filter q xs)) ≡ false
    by true c is both rest = absurd (let bad : true ≡ false = both in cc bad)
    by false true is both rest = ap (λ (b : Bool). b || list_any p (filter q xs)) is ∙ rest both
    by false false is both rest = rest both

any_last : {A : Type 0} (p : A → Bool) (xs : List A) (y : A) → list_any p xs ≡ false → p y ≡ false → list_any p (xs ++ y ∷ []) ≡ false
any_last p [] y none is = ap (λ (b : Bool). b || false) is
any_last {A = A} p (x ∷ xs) y none is = by (p x) none (λ later. any_last p xs y later is)
  where
    by : (b : Bool) → (b || list_any p xs) ≡ false → (list_any p xs ≡ false → list_any p (xs ++ y ∷ []) ≡ false) → (b || list_any p (xs ++ y ∷ [])) ≡ false
    by true both rest = absurd (let bad : true ≡ false = both in cc bad)
    by false both rest = rest both

none_of_both : (a b c d : Bool) → (a || b) ≡ false → c ≡ a → (b ≡ false → d ≡ false) → (c || d) ≡ false
none_of_both true b c d none same to = absurd (let bad : true ≡ false = none in cc bad)
none_of_both false b c d none same to = ap₂ (λ (x y : Bool). x || y) same (to none)

few_of : (a b : ℕ) → a ≤ b → b ≤ 1 → a ≤ 1
few_of a b one two = omega (arith, one, two)

-- ---- an exchange gets a place

abbrev pub longer_if : ℕ → ℕ → Conn → Conn
longer_if n k j = elim (is_conn k j) as (λ t. Conn) [ true ↦ record j { line = j.line ++ n ∷ [] } | false ↦ j ]

pub same_numbered : (n k m : ℕ) (j : Conn) → is_conn m (longer_if n k j) ≡ is_conn m j
same_numbered n k m j = by (is_conn k j)
  where
    by : (b : Bool) → is_conn m (elim b as (λ t. Conn) [ true ↦ record j { line = j.line ++ n ∷ [] } | false ↦ j ]) ≡ is_conn m j
    by true = refl
    by false = refl

same_closing : (n k : ℕ) (j : Conn) → (longer_if n k j).is_closing ≡ j.is_closing
same_closing n k j = by (is_conn k j)
  where
    by : (b : Bool) → (elim b as (λ t. Conn) [ true ↦ record j { line = j.line ++ n ∷ [] } | false ↦ j ]).is_closing ≡ j.is_closing
    by true = refl
    by false = refl

put_conns : (n k : ℕ) (s : State) → (put_on n k s).conns ≡ map (longer_if n k) s.conns
unfolding put_on on_conn on_exchange
put_conns n k s = refl

put_connecting : (n k : ℕ) (s : State) → IsConnecting s → IsConnecting (put_on n k s)
unfolding put_on on_conn on_exchange
put_connecting n k s is = record { at = is.at; none = is.none }

put_same : (n k : ℕ) (s : State) → ((put_on n k s).is_stopped ≡ s.is_stopped) × ((put_on n k s).clients ≡ s.clients) × ((put_on n k s).top ≡ s.top)
unfolding put_on on_conn on_exchange
put_same n k s = (refl, refl, refl)

pub given_at : (s : State) (m : ℕ) (o : Option Conn) (f : Conn → Conn) (j : Conn) → MayPlace s → conn s m ≡ o → option_map f o ≡ Some j → m ≤ s.top
given_at s m None f j may is found = absurd (none_some j found)
given_at s m (Some i) f j may is found = may.given m i is

pub put_may : (n k : ℕ) (s : State) → MayPlace s → MayPlace (put_on n k s)
put_may n k s may = record {
  connecting = put_connecting n k s may.connecting;
  going = (put_same n k s).0 ∙ may.going;
  closed =
      ap₂ (λ (cs : List Client) (ks : List Conn). list_any (λ c. c.is_closing) cs || list_any (λ j. j.is_closing) ks) (put_same n k s).1 (put_conns n k s)
      ∙ ap (λ (b : Bool). list_any (λ c. c.is_closing) s.clients || b) (any_mapped (λ (j : Conn). j.is_closing) (longer_if n k) s.conns (same_closing n k))
      ∙ may.closed;
  apart = λ m. subst (λ (c : ℕ). c ≤ 1) (sym (ap (λ (ks : List Conn). count_by (is_conn m) ks) (put_conns n k s) ∙ count_mapped_same (is_conn m) (longer_if n k) s.conns (same_numbered n k m))) (may.apart m);
  given = λ m j there.
      subst (λ (top : ℕ). m ≤ top) (sym (put_same n k s).2)
      (given_at s m (conn s m) (longer_if n k) j may refl
      (sym (find_mapped (is_conn m) (longer_if n k) s.conns (same_numbered n k m)) ∙ ap (λ (ks : List Conn). find (is_conn m) ks) (sym (put_conns n k s)) ∙ there));
}

pub placing_may : (s : State) → MayPlace s → MayPlace (placing s).state
placing_may s may = placing-any MayPlace put_may s may

-- ---- a connection is gone

out_same : (n : ℕ) (s : State) → ((out n s).is_stopped ≡ s.is_stopped) × ((out n s).clients ≡ s.clients) × ((out n s).top ≡ s.top) × ((out n s).conns ≡ filter (λ k. not (is_conn n k)) s.conns)
unfolding out
out_same n s = (refl, refl, refl, refl)

out_connecting : (n : ℕ) (s : State) → IsConnecting s → IsConnecting (out n s)
unfolding out
out_connecting n s is = record { at = is.at; none = is.none }

given_within : (s : State) (n m : ℕ) (o : Option Conn) (j : Conn) → MayPlace s → conn s m ≡ o → find (is_conn m) (filter (λ k. not (is_conn n k)) s.conns) ≡ Some j → m ≤ s.top
given_within s n m None j may is found = absurd (none_some j (sym (none_within (is_conn m) (λ k. not (is_conn n k)) s.conns is) ∙ found))
given_within s n m (Some i) j may is found = may.given m i is

pub out_may : (n : ℕ) (s : State) → MayPlace s → MayPlace (out n s)
out_may n s may = record {
  connecting = out_connecting n s may.connecting;
  going = (out_same n s).0 ∙ may.going;
  closed =
      ap₂ (λ (cs : List Client) (ks : List Conn). list_any (λ c. c.is_closing) cs || list_any (λ j. j.is_closing) ks) (out_same n s).1 (out_same n s).3
      ∙ none_of_both (list_any (λ c. c.is_closing) s.clients) (list_any (λ j. j.is_closing) s.conns) (list_any (λ c. c.is_closing) s.clients) (list_any (λ j. j.is_closing) (filter (λ k. not (is_conn n k)) s.conns)) may.closed refl
      (λ none. any_kept (λ (j : Conn). j.is_closing) (λ k. not (is_conn n k)) s.conns none);
  apart = λ m.
      subst (λ (ks : List Conn). count_by (is_conn m) ks ≤ 1) (sym (out_same n s).3)
      (few_of (count_by (is_conn m) (filter (λ k. not (is_conn n k)) s.conns)) (count_by (is_conn m) s.conns) (count_kept (is_conn m) (λ k. not (is_conn n k)) s.conns) (may.apart m));
  given = λ m j there.
      subst (λ (top : ℕ). m ≤ top) (sym (out_same n s).2) (given_within s n m (conn s m) j may refl (ap (λ (ks : List Conn). find (is_conn m) ks) (sym (out_same n s).3) ∙ there));
}

-- ---- one begins, whose number is new

abbrev pub with_new : ℕ → Bytes → ℕ → State → State
with_new n host port s = record s { conns = s.conns ++ new_conn n host port s.clock ∷ []; top = n }

not_given : (s : State) (n : ℕ) → MayPlace s → s.top + 1 ≤ n → (o : Option Conn) → conn s n ≡ o → o ≡ None
not_given s n may above None is = refl
not_given s n may above (Some k) is = absurd (omega (arith, above, may.given n k is))

pub none_new : (s : State) (n : ℕ) → MayPlace s → s.top + 1 ≤ n → conn s n ≡ None
none_new s n may above = not_given s n may above (conn s n) refl

joined_given : (s : State) (n m : ℕ) (host : Bytes) (port : ℕ) → MayPlace s → s.top + 1 ≤ n → (o : Option Conn) → conn s m ≡ o → (b : Bool) → (n == m) ≡ b → (j : Conn) → first_of_two o (cond b (Some (new_conn n host port s.clock)) None) ≡ Some j → m ≤ n
joined_given s n m host port may above None is true same j found = let eq : n ≡ m = same_number n m same in omega (arith, eq)
joined_given s n m host port may above None is false same j found = absurd (none_some j found)
joined_given s n m host port may above (Some k) is b same j found = omega (arith, above, may.given m k is)

count_new : (s : State) (n m : ℕ) (host : Bytes) (port : ℕ) → MayPlace s → s.top + 1 ≤ n → (b : Bool) → (n == m) ≡ b → count_by (is_conn m) s.conns + cond b 1 0 ≤ 1
count_new s n m host port may above true same =
    let eq : conn s m ≡ None = ap (λ (i : ℕ). conn s i) (sym (same_number n m same)) ∙ none_new s n may above in omega (arith, none_found (is_conn m) s.conns eq)
count_new s n m host port may above false same = omega (arith, may.apart m)

one_counted : (p : Conn → Bool) (k : Conn) → count_by p (k ∷ []) ≡ cond (p k) 1 0
one_counted p k = by (p k) (count_first p k [])
  where
    by : (b : Bool) → count_by p (k ∷ []) ≡ cond b 1 0 + count_by p [] → count_by p (k ∷ []) ≡ cond b 1 0
    by true is = omega (arith, is)
    by false is = omega (arith, is)

pub new_may : (n : ℕ) (host : Bytes) (port : ℕ) (s : State) → MayPlace s → s.top + 1 ≤ n → MayPlace (with_new n host port s)
new_may n host port s may above = record {
  connecting = record { at = may.connecting.at; none = may.connecting.none };
  going = may.going;
  closed =
      none_of_both (list_any (λ c. c.is_closing) s.clients) (list_any (λ j. j.is_closing) s.conns) (list_any (λ c. c.is_closing) s.clients) (list_any (λ j. j.is_closing) (s.conns ++ new_conn n host port s.clock ∷ [])) may.closed refl
      (λ none. any_last (λ (j : Conn). j.is_closing) s.conns (new_conn n host port s.clock) none refl);
  apart = λ m.
      subst (λ (c : ℕ). c ≤ 1)
      (sym (count_joined (is_conn m) s.conns (new_conn n host port s.clock ∷ []) ∙ ap (λ (c : ℕ). count_by (is_conn m) s.conns + c) (one_counted (is_conn m) (new_conn n host port s.clock))))
      (count_new s n m host port may above (n == m) refl);
  given = λ m j there.
      joined_given s n m host port may above (conn s m) refl (n == m) refl j (sym (find_joined (is_conn m) s.conns (new_conn n host port s.clock ∷ [])) ∙ there);
}
