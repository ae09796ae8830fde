-- Whose a number is, by the numbers of clients and of connections; and what a happening changes of it.
use Rattle.std.proofs.Common.{◌≡◌, refl, ℕ, Bool, true, false, not, ◌==◌, ◌||◌, List, [], ◌∷◌, ◌++◌, map, find, cond, is_some, Option, Some, None, inl, inr, ap, ap₂, ◌∙◌, sym}
use Rattle.pp_world.specs.Connections.{side_after}
use Rattle.pp_world.specs.declared.event.Side.{Side}
use Rattle.pp_world.specs.declared.event.Side.TheVariants.{Client as OfClient, Origin}
use Rattle.pp_world.specs.declared.happening.Happening.TheVariants.{Woke, Waits, Clock, Opened, CanRead, CanWrite, Heard, HungUp, Said, Shut, Dialled, Undialled, Reached, Ended, Broke, Asked, Got, Dropped, NoneYet, Began, Did, Unread, Noted, Rooted, Listed, Listens, Configured, Printed, Stopped}
use Rattle.pp_world.specs.declared.happening.Happening.{Happening}
use Rattle.pp_law.specs.Lists.{has_number}
use Rattle.pp_law.specs.State.{State}
use Rattle.pp_laws.proofs.Sound.{client_number, conn_number}
use Rattle.pp_laws.proofs.Tests.{number_same, same_number}
use Rattle.pp_laws.specs.Runs.{IsIn}
use Rattle.pp_laws_sides.proofs.Happenings.{but, names_after}
use Rattle.pp_laws_sides.proofs.Names.{Names, names_of}
use Rattle.pp_laws_sides.specs.Sides.{side_by, side_in}

-- ---- numbers

has_push : (n m : ℕ) (ns : List ℕ) → has_number n (ns ++ m ∷ []) ≡ (has_number n ns || (m == n))
has_push n m [] = none (m == n)
  where
    none : (b : Bool) → (b || false) ≡ b
    none true = refl
    none false = refl
has_push n m (k ∷ ns) = by (k == n) (has_push n m ns)
  where
    by : (b : Bool) → has_number n (ns ++ m ∷ []) ≡ (has_number n ns || (m == n)) → (b || has_number n (ns ++ m ∷ [])) ≡ ((b || has_number n ns) || (m == n))
    by true rest = refl
    by false rest = rest

has_but_same : (n : ℕ) (ns : List ℕ) → has_number n (but n ns) ≡ false
has_but_same n [] = refl
has_but_same n (k ∷ ns) = by (k == n) refl (has_but_same n ns)
  where
    by : (b : Bool) → (k == n) ≡ b → has_number n (but n ns) ≡ false → has_number n (cond (not b) (k ∷ but n ns) (but n ns)) ≡ false
    by true is rest = rest
    by false is rest = ap (λ t. t || has_number n (but n ns)) is ∙ rest

has_but_other : (n m : ℕ) (ns : List ℕ) → (m == n) ≡ false → has_number n (but m ns) ≡ has_number n ns
has_but_other n m [] isnt = refl
has_but_other n m (k ∷ ns) isnt = by (k == m) refl (has_but_other n m ns isnt)
  where
    by : (b : Bool) → (k == m) ≡ b → has_number n (but m ns) ≡ has_number n ns → has_number n (cond (not b) (k ∷ but m ns) (but m ns)) ≡ ((k == n) || has_number n ns)
    by true is rest = rest ∙ sym (ap (λ t. t || has_number n ns) (ap (λ (x : ℕ). x == n) (same_number k m is) ∙ isnt))
    by false is rest = ap (λ t. (k == n) || t) rest

pub there_is : {A : Type 0} (num : A → ℕ) (n : ℕ) (xs : List A) → is_some (find (λ x. num x == n) xs) ≡ has_number n (map num xs)
there_is num n [] = refl
there_is num n (x ∷ xs) = by (num x == n) (there_is num n xs)
  where
    by : (b : Bool) → is_some (find (λ y. num y == n) xs) ≡ has_number n (map num xs) → is_some (cond b (Some x) (find (λ y. num y == n) xs)) ≡ (b || has_number n (map num xs))
    by true rest = refl
    by false rest = rest

pub has_in : {A : Type 0} (num : A → ℕ) (n : ℕ) (xs : List A) → has_number n (map num xs) ≡ true → (x : A) × IsIn x xs × (num x ≡ n)
has_in num n [] is = absurd (cc is)
has_in {A} num n (x ∷ xs) is = by (num x == n) refl is (λ rest. has_in num n xs rest)
  where
    by : (b : Bool) → (num x == n) ≡ b → (b || has_number n (map num xs)) ≡ true → (has_number n (map num xs) ≡ true → (y : A) × IsIn y xs × (num y ≡ n)) → (y : A) × IsIn y (x ∷ xs) × (num y ≡ n)
    by true at has rest = (x, inl refl, same_number (num x) n at)
    by false at has rest = let r = rest has in (r.0, inr r.1, r.2)

pub in_has : {A : Type 0} (num : A → ℕ) (n : ℕ) (xs : List A) (x : A) → IsIn x xs → num x ≡ n → has_number n (map num xs) ≡ true
in_has num n [] x i is = absurd i
in_has num n (y ∷ ys) x (inl e) is = ap (λ t. t || has_number n (map num ys)) (ap (λ (z : ℕ). z == n) (ap num (sym e) ∙ is) ∙ number_same n)
in_has num n (y ∷ ys) x (inr i) is = ap (λ t. (num y == n) || t) (in_has num n ys x i is) ∙ either (num y == n)
  where
    either : (b : Bool) → (b || true) ≡ true
    either true = refl
    either false = refl

pub has_none : {A : Type 0} (num : A → ℕ) (n : ℕ) (xs : List A) → ((x : A) → IsIn x xs → num x ≡ n → ⊥) → has_number n (map num xs) ≡ false
has_none num n xs none = by (has_number n (map num xs)) refl
  where
    by : (b : Bool) → has_number n (map num xs) ≡ b → b ≡ false
    by true is = let w = has_in num n xs is in absurd (none w.0 w.1 w.2)
    by false is = refl

-- ---- sides

abbrev pub side_of_name : ℕ → Names → Option Side
side_of_name n o = side_by (has_number n o.clients) (has_number n o.conns)

pub side_named : (s : State) (n : ℕ) → side_in s n ≡ side_of_name n (names_of s)
side_named s n = ap₂ side_by (there_is client_number n s.clients) (there_is conn_number n s.conns)

opened_by : (b c k : Bool) → side_by (c || b) k ≡ cond b (Some OfClient) (side_by c k)
opened_by true true k = refl
opened_by true false k = refl
opened_by false true k = refl
opened_by false false k = refl

dialled_by : (b c k : Bool) → (b ≡ true → c ≡ false) → side_by c (k || b) ≡ cond b (Some Origin) (side_by c k)
dialled_by true true k apart = let both : true ≡ false = apart refl in absurd (cc both)
dialled_by true false true apart = refl
dialled_by true false false apart = refl
dialled_by false true k apart = refl
dialled_by false false true apart = refl
dialled_by false false false apart = refl

-- a number is a client's or a connection's, and a new one is neither
abbrev pub IsApartIn : Happening → Names → Type 0
IsApartIn (Dialled m host port) o = has_number m o.clients ≡ false
IsApartIn (Shut m) o = has_number m o.conns ≡ false
IsApartIn (Dropped m) o = has_number m o.clients ≡ false
IsApartIn h o = Unit {0}

moved_to : (n m : ℕ) (ns : List ℕ) (b : Bool) → has_number m ns ≡ b → (m == n) ≡ true → has_number n ns ≡ b
moved_to n m ns b has is = ap (λ (k : ℕ). has_number k ns) (sym (same_number m n is)) ∙ has

gone_from : (n m : ℕ) (ns : List ℕ) → (m == n) ≡ true → has_number n (but m ns) ≡ false
gone_from n m ns is = ap (λ (k : ℕ). has_number n (but k ns)) (same_number m n is) ∙ has_but_same n ns

pub after_sides : (n : ℕ) (o : Names) (h : Happening) → IsApartIn h o → side_of_name n (names_after h o) ≡ side_after n (side_of_name n o) h
after_sides n o (Woke image) apart = refl
after_sides n o (Opened m) apart = ap (λ t. side_by t (has_number n o.conns)) (has_push n m o.clients) ∙ opened_by (m == n) (has_number n o.clients) (has_number n o.conns)
after_sides n o (Dialled m host port) apart =
    ap (λ t. side_by (has_number n o.clients) t) (has_push n m o.conns) ∙ dialled_by (m == n) (has_number n o.clients) (has_number n o.conns) (moved_to n m o.clients false apart)
after_sides n o (Shut m) apart = by (m == n) refl
  where
    by : (b : Bool) → (m == n) ≡ b → side_by (has_number n (but m o.clients)) (has_number n o.conns) ≡ cond b None (side_of_name n o)
    by true is = ap₂ side_by (gone_from n m o.clients is) (moved_to n m o.conns false apart is)
    by false isnt = ap (λ t. side_by t (has_number n o.conns)) (has_but_other n m o.clients isnt)
after_sides n o (Dropped m) apart = by (m == n) refl
  where
    by : (b : Bool) → (m == n) ≡ b → side_by (has_number n o.clients) (has_number n (but m o.conns)) ≡ cond b None (side_of_name n o)
    by true is = ap₂ side_by (moved_to n m o.clients false apart is) (gone_from n m o.conns is)
    by false isnt = ap (λ t. side_by (has_number n o.clients) t) (has_but_other n m o.conns isnt)
after_sides n o (Waits w) apart = refl
after_sides n o (Clock seconds) apart = refl
after_sides n o (CanRead m) apart = refl
after_sides n o (CanWrite m) apart = refl
after_sides n o (Heard c bytes) apart = refl
after_sides n o (HungUp c) apart = refl
after_sides n o (Said c offered bytes) apart = refl
after_sides n o (Undialled host port) apart = refl
after_sides n o (Reached m) apart = refl
after_sides n o (Ended m) apart = refl
after_sides n o (Broke m) apart = refl
after_sides n o (Asked m bytes) apart = refl
after_sides n o (Got m bytes) apart = refl
after_sides n o (NoneYet m) apart = refl
after_sides n o (Began op) apart = refl
after_sides n o (Did op ok) apart = refl
after_sides n o (Unread name) apart = refl
after_sides n o (Noted remark) apart = refl
after_sides n o (Rooted folder) apart = refl
after_sides n o (Listed ok) apart = refl
after_sides n o (Listens port ok) apart = refl
after_sides n o (Configured file text) apart = refl
after_sides n o (Printed text) apart = refl
after_sides n o Stopped apart = refl
