-- What is asked next is no more than is left of an ask.
use Rattle.std.proofs.Common.{◌≡◌, refl, ℕ, ◌+◌, ◌-◌, ◌≤◌, nat_eq, Bool, true, false, not, List, [], ◌∷◌, map, drop, length, Option, Some, None, option_and_then, sym, subst, ap, ◌∙◌, zero-le, length-drop, arith}
use Rattle.std.specs.List.{starts_with}
use Rattle.pp_text.specs.Bytes.{is_empty}
use Rattle.pp_law.specs.Asking.{asking, is_being_asked, is_front, is_writing, left_in, left_to_ask, body_heard, permits_asked}
use Rattle.pp_law.specs.Connections.{conn, exchange, is_exchange, is_outstanding}
use Rattle.pp_law.specs.Lists.{Bytes, first_some, is_some_with}
use Rattle.pp_law.specs.State.{State, Conn, Exchange}
use Rattle.pp_laws.specs.Numbers.{AreRising}
use Rattle.pp_laws.specs.Runs.{IsIn}
use Rattle.pp_laws.proofs.Lists.{in_find, one_of}
use Rattle.pp_laws.proofs.Sound.{exchange_number}
use Rattle.pp_laws.proofs.Tests.{first_holds, second_holds}
use Rattle.pp_laws_bounds.proofs.Clients.{IsLeft}

-- ---- the exchange that is asked next is there

left_by : (d e : Exchange) (t : Bool) → (elim t as (λ c. Option Exchange) [ true ↦ Some d | false ↦ None ]) ≡ Some e → d ≡ e
left_by d e true is = cc
left_by d e false is = absurd (cc is)

in_left : (s : State) (n : ℕ) (e : Exchange) → option_and_then left_in (exchange s n) ≡ Some e → IsIn e s.exchanges
in_left s n e is = by (exchange s n) refl is
  where
    by : (o : Option Exchange) → exchange s n ≡ o → option_and_then left_in o ≡ Some e → IsIn e s.exchanges
    by None none at = absurd (cc at)
    by (Some d) found at = subst (λ (x : Exchange). IsIn x s.exchanges) (left_by d e (is_being_asked d) at) (in_find (is_exchange n) d s.exchanges found).0

first_left : (s : State) (line : List ℕ) (e : Exchange) → first_some (λ m. option_and_then left_in (exchange s m)) line ≡ Some e → IsIn e s.exchanges
first_left s [] e is = absurd (cc is)
first_left s (n ∷ line) e is = by (option_and_then left_in (exchange s n)) refl (first_left s line e) is
  where
    by : (o : Option Exchange) → option_and_then left_in (exchange s n) ≡ o
        → (first_some (λ m. option_and_then left_in (exchange s m)) line ≡ Some e → IsIn e s.exchanges)
        → (elim o as (λ c. Option Exchange) [ Some y ↦ Some y | None ↦ first_some (λ m. option_and_then left_in (exchange s m)) line ]) ≡ Some e → IsIn e s.exchanges
    by (Some d) found rest at = in_left s n e (found ∙ at)
    by None none rest at = rest at

asking_there : (s : State) (n : ℕ) (e : Exchange) → asking s n ≡ Some e → IsIn e s.exchanges
asking_there s n e is = by (conn s n) is
  where
    by : (o : Option Conn) → (elim o as (λ c. Option Exchange) [ None ↦ None | Some k ↦ first_some (λ m. option_and_then left_in (exchange s m)) k.line ]) ≡ Some e → IsIn e s.exchanges
    by None at = absurd (cc at)
    by (Some k) at = first_left s k.line e at

-- ---- a front is no longer than what it is a front of

pub front-length : (left bytes : Bytes) → starts_with nat_eq left bytes ≡ true → length bytes ≤ length left
front-length left [] is = zero-le
front-length [] (b ∷ bytes) is = absurd (cc is)
front-length (l ∷ left) (b ∷ bytes) is = let le : length bytes ≤ length left = front-length left bytes (second_holds (nat_eq b l) (starts_with nat_eq left bytes) is) in omega arith

asked_by : (s : State) (e : Exchange) (bytes : Bytes) → is_front bytes (left_to_ask s e) ≡ true → is_outstanding e ≡ false → e.asked ≤ length e.text → e.asked + length bytes ≤ length e.text
asked_by s e bytes is isnt le =
    let front : length bytes ≤ length (left_to_ask s e) = front-length (left_to_ask s e) bytes (first_holds (starts_with nat_eq (left_to_ask s e) bytes) (not (is_empty (left_to_ask s e))) is) in
    let left : left_to_ask s e ≡ drop e.asked e.text = ap (λ t. elim t as (λ c. Bytes) [ false ↦ drop e.asked e.text | true ↦ body_heard s e ]) isnt in
    let long : length (drop e.asked e.text) ≡ length e.text - e.asked = length-drop e.asked e.text in
    let same_long : length (left_to_ask s e) ≡ length (drop e.asked e.text) = ap (λ (bs : Bytes). length bs) left in
    omega arith

pub asked_left : (s : State) (n : ℕ) (bytes : Bytes) → AreRising (map exchange_number s.exchanges) → ((e : Exchange) → IsIn e s.exchanges → e.asked ≤ length e.text) → permits_asked s n bytes ≡ true
    → (e : Exchange) → asking s n ≡ Some e → IsLeft (length bytes) e s
asked_left s n bytes rise well is e found isnt d i number = subst (λ (x : Exchange). x.asked + length bytes ≤ length x.text) (sym one) (asked_by s e bytes front isnt (well e there))
  where
    there : IsIn e s.exchanges
    there = asking_there s n e found

    one : d ≡ e
    one = one_of exchange_number s.exchanges d e rise i there number

    front : is_front bytes (left_to_ask s e) ≡ true
    front = ap (λ o. is_some_with (λ x. is_front bytes (left_to_ask s x)) o) (sym found) ∙ second_holds (is_writing s.owed n) (is_some_with (λ x. is_front bytes (left_to_ask s x)) (asking s n)) is
