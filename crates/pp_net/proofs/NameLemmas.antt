-- Names that are collected in a set keep their form, and stand in their order.
use Rattle.std.proofs.Common.{◌≡◌, refl, sym, ap, subst, Bool, true, false, IsTrue, ◌&&◌, List, [], ◌∷◌, ◌++◌}
use Rattle.std.specs.Prelude.{Option, Some, None, IfSome, IfNone}
use Rattle.std.specs.declared.cmp.Ordering.{Ordering}
use Rattle.std.specs.declared.cmp.Ordering.TheVariants.{Less, Equal, Greater}
use Rattle.std.specs.BTreeSet.{insert_key}
use Rattle.std.specs.List.{list_all}
use Rattle.std.specs.List.Sorted.{IsStrictlySortedBy}
use Rattle.std.specs.Ordering.{is_lt, match_ordering}
use Rattle.std.proofs.lemmas.Bool.{false≢true}
use Rattle.std.proofs.lemmas.Map.Keys.{sorted_head, sorted_tail}
use Rattle.pp_world.specs.Disk.{Bytes, is_name, is_rising}
use Rattle.pp_world.specs.Files.{name_order}

both : (a b : Bool) → IsTrue a → IsTrue b → IsTrue (a && b)
both true b p q = q
both false b p q = p

left : (a b : Bool) → IsTrue (a && b) → IsTrue a
left true b p = refl
left false b p = p

right : (a b : Bool) → IsTrue (a && b) → IsTrue b
right true b p = p
right false b p = absurd (false≢true p)

pub list_all-insert_key : (names : List Bytes) (name : Bytes) → IsTrue (list_all is_name names) → IsTrue (is_name name) → IsTrue (list_all is_name (insert_key name_order names name))
list_all-insert_key [] name all one = both (is_name name) true one all
list_all-insert_key (n ∷ names) name all one = by (name_order name n) (list_all-insert_key names name (right (is_name n) _ all) one)
  where
    by : (order : Ordering) → IsTrue (list_all is_name (insert_key name_order names name)) → IsTrue (list_all is_name (match_ordering order (name ∷ n ∷ names) (n ∷ names) (n ∷ insert_key name_order names name)))
    by Less rest = both (is_name name) _ one all
    by Equal rest = all
    by Greater rest = both (is_name n) _ (left (is_name n) _ all) rest

list_all-front : (names : List Bytes) (last : Bytes) → IsTrue (list_all is_name (names ++ last ∷ [])) → IsTrue (list_all is_name names)
list_all-front [] last all = refl
list_all-front (n ∷ names) last all = both (is_name n) _ (left (is_name n) _ all) (list_all-front names last (right (is_name n) _ all))

-- what is left once the last is taken
pub list_all-popped : (names kept : List Bytes) (last : Option Bytes) → IfSome last (λ name. names ≡ kept ++ name ∷ []) → IfNone last (kept ≡ names) → IsTrue (list_all is_name names) → IsTrue (list_all is_name kept)
list_all-popped names kept None some none all = subst (λ ns. IsTrue (list_all is_name ns)) (sym none) all
list_all-popped names kept (Some name) some none all = list_all-front kept name (subst (λ ns. IsTrue (list_all is_name ns)) some all)

less : (order : Ordering) → order ≡ Less → IsTrue (is_lt order)
less order e = ap is_lt e

pub is_rising-from_sorted : (names : List Bytes) → IsStrictlySortedBy name_order names → IsTrue (is_rising names)
is_rising-from_sorted [] sorted = refl
is_rising-from_sorted (name ∷ []) sorted = refl
is_rising-from_sorted (name ∷ next ∷ names) sorted = both _ _ (less (name_order name next) (sorted_head name_order name (next ∷ names) sorted).0) (is_rising-from_sorted (next ∷ names) (sorted_tail name_order name (next ∷ names) sorted))
