-- What is asked on a connection is the front of what is left of the first of its line that is not asked whole.
use Rattle.std.proofs.Common.{◌≡◌, ◌⊎◌, refl, ℕ, nat_eq, nat_lt, Bool, true, false, not, ◌==◌, ◌&&◌, ◌||◌, List, [], ◌∷◌, ◌++◌, length, drop, find, Option, Some, None, option_and_then, inl, inr, sym, subst, ap, ◌∙◌, arith}
use Rattle.std.specs.List.{starts_with}
use Rattle.std.proofs.lemmas.Bool.Decides.{nat_tests}
use Rattle.pp_text.specs.Bytes.{is_empty}
use Rattle.pp_law.specs.Asking.{asking, is_being_asked, is_front, is_writing, left_in, left_to_ask, permits_asked}
use Rattle.pp_law.specs.Connections.{conn, exchange, is_outstanding}
use Rattle.pp_law.specs.Lists.{Bytes, first_some, is_some_with}
use Rattle.pp_law.specs.Permits.{is_permitted, IsPermitted, permits}
use Rattle.pp_law.specs.State.{State, Conn, Exchange}
use Rattle.pp_world.specs.declared.happening.Happening.TheVariants.{Asked}
use Rattle.pp_laws.specs.Runs.{state_after, IsIn}
use Rattle.pp_laws.proofs.Tests.{first_holds, same_number, second_holds}
use Rattle.pp_laws_pool.proofs.Along.{last_of}
use Rattle.pp_laws_asks.specs.Orders.{AreAskedWhole, AsksAreInOrder, IsAskedWhole, IsNextAsk}

-- ---- which it is

-- one that is not being asked was asked whole
asked_whole : (e : Exchange) → is_being_asked e ≡ false → IsAskedWhole e
asked_whole e is = by (is_outstanding e) (nat_lt 0 e.body_left) refl refl is
  where
    none_left : (n : ℕ) → nat_lt 0 n ≡ false → n ≡ 0
    none_left n isnt = grind (arith, nat_tests)

    by : (t u : Bool) → is_outstanding e ≡ t → nat_lt 0 e.body_left ≡ u → (not t || u) ≡ false → IsAskedWhole e
    by true false out none at = (same_number e.asked (length e.text) out, none_left e.body_left none)
    by true true out none at = absurd (cc at)
    by false u out none at = absurd (cc at)

-- the first of a line that is being asked
pub record Found (s : State) (line : List ℕ) (e : Exchange) : Type 0 where
  pub before : List ℕ
  pub number : ℕ
  pub behind : List ℕ
  pub parts : line ≡ before ++ number ∷ behind
  pub whole : AreAskedWhole s before
  pub there : exchange s number ≡ Some e

further : (s : State) (n : ℕ) (line : List ℕ) (e : Exchange) → ((d : Exchange) → exchange s n ≡ Some d → IsAskedWhole d) → Found s line e → Found s (n ∷ line) e
further s n line e first f = record {
  before = n ∷ f.before;
  number = f.number;
  behind = f.behind;
  parts = ap (λ ns. n ∷ ns) f.parts;
  whole = λ m d i is. by m d i is;
  there = f.there;
}
  where
    by : (m : ℕ) (d : Exchange) → (m ≡ n) ⊎ IsIn m f.before → exchange s m ≡ Some d → IsAskedWhole d
    by m d (inl eq) is = first d (ap (exchange s) (sym eq) ∙ is)
    by m d (inr i) is = f.whole m d i is

pub found_in : (s : State) (line : List ℕ) (e : Exchange) → first_some (λ m. option_and_then left_in (exchange s m)) line ≡ Some e → Found s line e
found_in s [] e is = absurd (cc is)
found_in s (n ∷ line) e is = by (exchange s n) refl is (found_in s line e)
  where
    none_there : exchange s n ≡ None → (d : Exchange) → exchange s n ≡ Some d → IsAskedWhole d
    none_there none d some = let both : None ≡ Some d = sym none ∙ some in absurd (cc both)

    being : (d : Exchange) → exchange s n ≡ Some d → (t : Bool) → is_being_asked d ≡ t
        → (elim (elim t as (λ c. Option Exchange) [ true ↦ Some d | false ↦ None ]) as (λ c. Option Exchange) [ Some y ↦ Some y | None ↦ first_some (λ m. option_and_then left_in (exchange s m)) line ]) ≡ Some e
        → (first_some (λ m. option_and_then left_in (exchange s m)) line ≡ Some e → Found s line e) → Found s (n ∷ line) e
    being d some true asks at rest = let eq : d ≡ e = cc at in record { before = []; number = n; behind = line; parts = refl; whole = λ m x i. absurd i; there = subst (λ (x : Exchange). exchange s n ≡ Some x) eq some }
    being d some false asks at rest = further s n line e (λ x there. subst IsAskedWhole (same_in (sym some ∙ there)) (asked_whole d asks)) (rest at)
      where
        same_in : {x y : Exchange} → Some x ≡ Some y → x ≡ y
        same_in eq = cc eq

    by : (o : Option Exchange) → exchange s n ≡ o → (elim (option_and_then left_in o) as (λ c. Option Exchange) [ Some y ↦ Some y | None ↦ first_some (λ m. option_and_then left_in (exchange s m)) line ]) ≡ Some e
        → (first_some (λ m. option_and_then left_in (exchange s m)) line ≡ Some e → Found s line e) → Found s (n ∷ line) e
    by None none at rest = further s n line e (none_there none) (rest at)
    by (Some d) some at rest = being d some (is_being_asked d) refl at rest

-- ---- what is a front

pub front_of : (bytes left : Bytes) → starts_with nat_eq left bytes ≡ true → (rest : Bytes) × (left ≡ bytes ++ rest)
front_of [] left is = (left, refl)
front_of (b ∷ bytes) [] is = absurd (cc is)
front_of (b ∷ bytes) (x ∷ left) is = by (nat_eq b x) refl is (front_of bytes left)
  where
    same : nat_eq b x ≡ true → x ≡ b
    same at = grind (arith, nat_tests)

    by : (t : Bool) → nat_eq b x ≡ t → (t && starts_with nat_eq left bytes) ≡ true → (starts_with nat_eq left bytes ≡ true → (rest : Bytes) × (left ≡ bytes ++ rest)) → (rest : Bytes) × (x ∷ left ≡ b ∷ bytes ++ rest)
    by true hit at more = let w = more at in (w.0, subst (λ y. x ∷ left ≡ y ∷ bytes ++ w.0) (same hit) (ap (λ ys. x ∷ ys) w.1))
    by false miss at more = absurd (cc at)

-- ---- the law

unhampered : (made : Option ℕ) (t : Bool) → (elim made as (λ c. Bool) [ Some who ↦ false | None ↦ t ]) ≡ true → t ≡ true
unhampered (Some who) t is = absurd (cc is)
unhampered None t is = is

pub asked_so : (s : State) (n : ℕ) (bytes : Bytes) → IsPermitted s (Asked n bytes) → permits_asked s n bytes ≡ true
unfolding is_permitted permits
asked_so s n bytes is = unhampered s.has_made_room (permits_asked s n bytes) is

next_ask : (s : State) (n : ℕ) (bytes : Bytes) (k : Conn) → permits_asked s n bytes ≡ true → conn s n ≡ Some k → IsNextAsk s k bytes
next_ask s n bytes k is found = by (asking s n) refl (second_holds (is_writing s.owed n) (is_some_with (λ e. is_front bytes (left_to_ask s e)) (asking s n)) is)
  where
    line_of : (e : Exchange) → asking s n ≡ Some e → first_some (λ m. option_and_then left_in (exchange s m)) k.line ≡ Some e
    line_of e at = sym (ap (λ (o : Option Conn). elim o as (λ c. Option Exchange) [ None ↦ None | Some j ↦ first_some (λ m. option_and_then left_in (exchange s m)) j.line ]) found) ∙ at

    by : (o : Option Exchange) → asking s n ≡ o → is_some_with (λ e. is_front bytes (left_to_ask s e)) o ≡ true → IsNextAsk s k bytes
    by None none at = absurd (cc at)
    by (Some e) some at =
        let f = found_in s k.line e (line_of e some) in
        let w = front_of bytes (left_to_ask s e) (first_holds (starts_with nat_eq (left_to_ask s e) bytes) (not (is_empty (left_to_ask s e))) at) in
        record { before = f.before; number = f.number; behind = f.behind; line = f.parts; whole = f.whole; asks = e; there = f.there; rest = w.0; front = w.1 }

pub in_order : AsksAreInOrder
in_order terms log n bytes k lawful found = next_ask (state_after terms log) n bytes k (asked_so (state_after terms log) n bytes (last_of terms log (Asked n bytes) lawful)) found
