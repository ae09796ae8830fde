-- Names in rising order are distinct; a store that knows nothing of a name.
use Rattle.std.proofs.Common.{◌≡◌, ℕ, zero, suc, ◌<◌, Bool, true, false, List, [], ◌∷◌, length, take, get_or, Option, Some, None, refl, sym, ◌∙◌, ap, subst, arith}
use Rattle.std.specs.Prelude.{◌||◌, bytes_eq, cond, find, IsTrue, Result, Ok, Err, OnOk, OnErr}
use Rattle.std.specs.Option.{option_or}
use Rattle.std.specs.Ordering.{is_lt}
use Rattle.std.specs.declared.cmp.Ordering.{Ordering}
use Rattle.std.specs.declared.cmp.Ordering.TheVariants.{Less, Equal, Greater}
use Rattle.std.proofs.lemmas.Cmp.{nat_list_cmp_total, tied_itself}
use Rattle.std.proofs.lemmas.List.Folds.{find-append, list_any-append}
use Rattle.pp_text.specs.declared.octets.OutOfMemory.{OutOfMemory}
use Rattle.pp_world.specs.Files.{name_order}
use Rattle.pp_world.specs.Disk.{Bytes, is_rising}
use Rattle.pp_target.specs.Name.{name_of}
use Rattle.pp_entry.specs.Entries.{Row}
use Rattle.pp_store.specs.Changes.{with_closed, closed_once, with_row, no_entries}
use Rattle.pp_store.specs.Kept.{Kept, KeptMap, is_under, is_name}
use Rattle.pp_recover.specs.Opening.{IsFree}
use Rattle.pp_recover.proofs.RowLemmas.{both_true}
use Rattle.pp_recover.proofs.TendLemmas.{other_name}

abbrev pub NotIn : Bytes → List Bytes → Type 0
NotIn name [] = Unit {0}
NotIn name (n ∷ ns) = (n ≡ name → ⊥) × NotIn name ns

abbrev pub Distinct : List Bytes → Type 0
Distinct [] = Unit {0}
Distinct (n ∷ ns) = NotIn n ns × Distinct ns

abbrev Above : Bytes → List Bytes → Type 0
Above name [] = Unit {0}
Above name (n ∷ ns) = (name_order name n ≡ Less) × Above name ns

less_is : (o : Ordering) → is_lt o ≡ true → o ≡ Less
less_is Less is = refl
less_is Equal is = absurd (cc)
less_is Greater is = absurd (cc)

above_all : (low name : Bytes) (ns : List Bytes) → name_order low name ≡ Less → Above name ns → Above low ns
above_all low name [] less all = tt
above_all low name (n ∷ ns) less all = (nat_list_cmp_total.trans low name n less all.0, above_all low name ns less all.1)

not_above : (name : Bytes) (ns : List Bytes) → Above name ns → NotIn name ns
not_above name [] all = tt
not_above name (n ∷ ns) all = (
  (λ same. let tied : name_order name n ≡ Equal = ap (name_order name) same ∙ tied_itself nat_list_cmp_total name in absurd (let bad : Less ≡ Equal = sym all.0 ∙ tied in cc)),
  not_above name ns all.1,
)

rising_above : (name : Bytes) (ns : List Bytes) → is_rising (name ∷ ns) ≡ true → Above name ns × Distinct ns
rising_above name [] is = (tt, tt)
rising_above name (n ∷ ns) is =
    let parts = both_true (is_lt (name_order name n)) (is_rising (n ∷ ns)) is in
    let rest = rising_above n ns parts.1 in
    let less : name_order name n ≡ Less = less_is (name_order name n) parts.0 in
    ((less, above_all name n ns less rest.0), (not_above n ns rest.0, rest.1))

pub distinct : (names : List Bytes) → IsTrue (is_rising names) → Distinct names
distinct [] is = tt
distinct (n ∷ ns) is = let parts = rising_above n ns is in (not_above n ns parts.0, parts.1)

not_in_at : (name : Bytes) (ns : List Bytes) (k : ℕ) → k < length ns → NotIn name ns → get_or ns k [] ≡ name → ⊥
not_in_at name [] k lt all is = omega (arith, lt)
not_in_at name (n ∷ ns) zero lt all is = all.0 is
not_in_at name (n ∷ ns) (suc k) lt all is = not_in_at name ns k (omega (arith, lt)) all.1 is

pub distinct_front : (ns : List Bytes) (i : ℕ) → i < length ns → Distinct ns → NotIn (get_or ns i []) (take i ns)
distinct_front [] i lt all = absurd (omega (arith, lt))
distinct_front (n ∷ ns) zero lt all = tt
distinct_front (n ∷ ns) (suc i) lt all = ((λ is. not_in_at n ns i (omega (arith, lt)) all.0 (sym is)), distinct_front ns i (omega (arith, lt)) all.1)

pub distinct_at : (ns : List Bytes) (i j : ℕ) → i < j → j < length ns → Distinct ns → get_or ns i [] ≡ get_or ns j [] → ⊥
distinct_at [] i j lt within all is = omega (arith, within)
distinct_at (n ∷ ns) zero zero lt within all is = omega (arith, lt)
distinct_at (n ∷ ns) zero (suc j) lt within all is = not_in_at n ns j (omega (arith, within)) all.0 (sym is)
distinct_at (n ∷ ns) (suc i) zero lt within all is = omega (arith, lt)
distinct_at (n ∷ ns) (suc i) (suc j) lt within all is = distinct_at ns i j (omega (arith, lt)) (omega (arith, within)) all.1 is

-- ---- a store that knows nothing of a name

pub free_none : (name : Bytes) → IsFree name no_entries
free_none name = record { absent = refl; sound = refl }

free_row : (name other : Bytes) (entry : Row) (extent : ℕ) (store : KeptMap) → name_of entry.key ≡ name → (name ≡ other → ⊥) → IsFree other store → IsFree other (with_row entry extent store)
free_row name other entry extent store own differ free = record {
  absent =
      find-append (is_under other) store.rows (record { entry = entry; extent = extent } ∷ [])
      ∙ ap (λ (o : Option Kept). option_or o (find (is_under other) (record { entry = entry; extent = extent } ∷ []))) free.absent
      ∙ ap (λ (b : Bool). cond b (Some (record { entry = entry; extent = extent })) None) (other_name (name_of entry.key) other (λ is. differ (sym own ∙ is)));
  sound = free.sound;
}

pub free_found : (name other : Bytes) (entry : Row) (extent : ℕ) (old new : KeptMap) (r : Result (Unit {0}) OutOfMemory) → name_of entry.key ≡ name → (name ≡ other → ⊥)
    → OnOk r (new ≡ with_row entry extent old) → OnErr r (new ≡ old) → IsFree other old → IsFree other new
free_found name other entry extent old new (Ok done) own differ ok err free = subst (IsFree other) (sym ok) (free_row name other entry extent old own differ free)
free_found name other entry extent old new (Err fault) own differ ok err free = subst (IsFree other) (sym err) free

pub closes : (name : Bytes) (old : KeptMap) → IsFree name old → closed_once name old ≡ with_closed name old
closes name old free = ap (λ (b : Bool). cond b old (with_closed name old)) free.sound

free_with : (name other : Bytes) (store : KeptMap) → (name ≡ other → ⊥) → IsFree other store → IsFree other (with_closed name store)
free_with name other store differ free = record {
  absent = free.absent;
  sound = list_any-append (is_name other) store.closed (name ∷ []) ∙ ap (λ (b : Bool). b || (bytes_eq name other || false)) free.sound ∙ ap (λ (b : Bool). b || false) (other_name name other differ);
}

pub free_closed : (name other : Bytes) (old new : KeptMap) (r : Result (Unit {0}) OutOfMemory) → IsFree name old → (name ≡ other → ⊥)
    → OnOk r (new ≡ closed_once name old) → OnErr r (new ≡ old) → IsFree other old → IsFree other new
free_closed name other old new (Ok done) own differ ok err free = subst (IsFree other) (sym (ok ∙ closes name old own)) (free_with name other old differ free)
free_closed name other old new (Err fault) own differ ok err free = subst (IsFree other) (sym err) free
