-- The entries and the closed names as they stand in memory, after each change.
use Rattle.std.proofs.Common.{ℕ, ◌+◌, ◌<◌, ◌≤◌, ◌≡◌, true, false, List, [], ◌∷◌, ◌++◌, length, filter, arith, length-append, refl, sym, ◌∙◌, ap, subst, None}
use Rattle.std.specs.Prelude.{count_by, IsSome, nat_le, vec_capacity}
use Rattle.std.proofs.lemmas.Bool.Decides.{nat_tests}
use Rattle.pp_store.specs.Answers.{is_full}
use Rattle.std.proofs.lemmas.List.{length-map}
use Rattle.pp_target.specs.Name.{name_of}
use Rattle.pp_store.specs.declared.store.Store.TheInside.{Inside}
use Rattle.pp_store.specs.Kept.{Kept, KeptMap, HasOwnNames, name_at, is_of, is_closed, kept_of, kept_under, row_of}
use Rattle.pp_store.specs.Changes.{with_row, with_closed, without, lost, extended, is_other}
use Rattle.pp_store.specs.Inside.{IsSound, map_in}
use Rattle.pp_store.proofs.Lists.{count-cons, count-filter, one_out}
use Rattle.pp_store.proofs.Names.{found_row, own-with_row, own-with_closed, own-without, own-lost, own-extended}

map-is : (o : Inside) (next : KeptMap) → o.rows ≡ next.rows → o.closed.items ≡ next.closed → map_in o ≡ next
map-is o next rows closed =
    ap (λ (rs : List Kept). record { rows = rs; closed = o.closed.items }) rows ∙ ap (λ (cs : List (List ℕ)). record { rows = next.rows; closed = cs }) closed

sound-as : (o : Inside) (next : KeptMap) → o.rows ≡ next.rows → o.closed.items ≡ next.closed → HasOwnNames next → length next.rows + length next.closed ≤ vec_capacity o.closed → 10000 ≤ vec_capacity o.closed → IsSound o
sound-as o next rows closed own room many = record {
  names = subst HasOwnNames (sym (map-is o next rows closed)) own;
  room = omega (arith, room, ap length rows, ap length closed);
  many = many;
}

counts_all : (xs : List Kept) → count_by (λ x. true) xs ≡ length xs
counts_all [] = refl
counts_all (x ∷ xs) = omega (arith, count-cons (λ y. true) x xs, counts_all xs)

pub fewer : (key : List ℕ) (store : KeptMap) → IsSome (kept_of key store) → length (filter (is_other key) store.rows) + 1 ≤ length store.rows
fewer key store kept =
    omega (arith, one_out (λ x. true) (is_of key) store.rows (row_of key store) (λ x of. refl) (found_row key store kept), counts_all store.rows, counts_all (filter (is_other key) store.rows))

no_longer : (key : List ℕ) (rows : List Kept) → length (filter (is_other key) rows) ≤ length rows
no_longer key rows = omega (arith, count-filter (λ x. true) (is_other key) rows, counts_all rows, counts_all (filter (is_other key) rows))

pub kept-in : (o : Inside) (w : KeptMap) (key : List ℕ) → map_in o ≡ w → IsSome (kept_of key w) → IsSome (kept_of key (map_in o))
kept-in o w key is kept = subst (λ (v : KeptMap). IsSome (kept_of key v)) (sym is) kept

pub sound-same : (o p : Inside) → IsSound o → p.rows ≡ o.rows → p.closed ≡ o.closed → IsSound p
sound-same o p sound rows closed =
    let capacity : vec_capacity p.closed ≡ vec_capacity o.closed = ap vec_capacity closed in
    sound-as p (map_in o) rows (ap (λ v. v.items) closed) sound.names (omega (arith, sound.room, capacity)) (omega (arith, sound.many, capacity))

pub sound-without : (o p : Inside) (key : List ℕ) → IsSound o → p.rows ≡ filter (is_other key) o.rows → p.closed ≡ o.closed → IsSound p
sound-without o p key sound rows closed =
    let capacity : vec_capacity p.closed ≡ vec_capacity o.closed = ap vec_capacity closed in
    sound-as p (without key (map_in o)) rows (ap (λ v. v.items) closed) (own-without (map_in o) key sound.names)
    (omega (arith, sound.room, no_longer key o.rows, capacity)) (omega (arith, sound.many, capacity))

pub sound-lost : (o p : Inside) (w : KeptMap) (key name : List ℕ) → IsSound o → map_in o ≡ w → IsSome (kept_of key w) → name ≡ name_of key → p.rows ≡ filter (is_other key) o.rows
    → p.closed.items ≡ o.closed.items ++ name ∷ [] → vec_capacity p.closed ≡ vec_capacity o.closed → IsSound p
sound-lost o p w key name sound is kept named rows closed capacity =
    sound-as p (lost key (map_in o)) rows (closed ∙ ap (λ n. o.closed.items ++ n ∷ []) named) (own-lost (map_in o) key sound.names (kept-in o w key is kept))
    (omega (arith, sound.room, fewer key (map_in o) (kept-in o w key is kept), length-append o.closed.items (name_of key ∷ []), capacity)) (omega (arith, sound.many, capacity))

pub sound-with_row : (o p : Inside) (w : KeptMap) (row : Kept) → IsSound o → map_in o ≡ w → kept_under (name_at row) w ≡ None → is_closed (name_at row) w ≡ false
    → p.rows ≡ o.rows ++ row ∷ [] → p.closed.items ≡ o.closed.items → length o.rows + 1 + length o.closed.items ≤ vec_capacity p.closed → 10000 ≤ vec_capacity p.closed → IsSound p
sound-with_row o p w row sound is absent free rows closed room many =
    sound-as p (with_row row.entry row.extent (map_in o)) rows closed
    (own-with_row (map_in o) row sound.names (ap (kept_under (name_at row)) is ∙ absent) (ap (is_closed (name_at row)) is ∙ free))
    (omega (arith, room, length-append o.rows (row ∷ []))) many

pub sound-with_closed : (o p : Inside) (w : KeptMap) (name : List ℕ) → IsSound o → map_in o ≡ w → kept_under name w ≡ None → is_closed name w ≡ false
    → p.rows ≡ o.rows → p.closed.items ≡ o.closed.items ++ name ∷ [] → length o.rows + 1 + length o.closed.items ≤ vec_capacity p.closed → 10000 ≤ vec_capacity p.closed → IsSound p
sound-with_closed o p w name sound is absent free rows closed room many =
    sound-as p (with_closed name (map_in o)) rows closed
    (own-with_closed (map_in o) name sound.names (ap (kept_under name) is ∙ absent) (ap (is_closed name) is ∙ free))
    (omega (arith, room, length-append o.closed.items (name ∷ []))) many

same-len : (key : List ℕ) (extent : ℕ) (w : KeptMap) → length (extended key extent w).rows ≡ length w.rows
same-len key extent w = length-map w.rows _

pub sound-extended : (o p : Inside) (key : List ℕ) (extent : ℕ) → IsSound o → p.rows ≡ (extended key extent (map_in o)).rows → p.closed ≡ o.closed → IsSound p
sound-extended o p key extent sound rows closed =
    let capacity : vec_capacity p.closed ≡ vec_capacity o.closed = ap vec_capacity closed in
    sound-as p (extended key extent (map_in o)) rows (ap (λ v. v.items) closed) (own-extended (map_in o) key extent sound.names)
    (omega (arith, sound.room, same-len key extent (map_in o), capacity)) (omega (arith, sound.many, capacity))

not_full : (w : KeptMap) → is_full w ≡ false → length w.rows + length w.closed < 10000
not_full w is = below (length w.rows + length w.closed) is
  where
    below : (m : ℕ) → nat_le 10000 m ≡ false → m < 10000
    below m e = grind (arith, nat_tests)

-- where the store is not full, a name may be closed for one entry more
pub room-left : (o : Inside) (w : KeptMap) → IsSound o → map_in o ≡ w → is_full w ≡ false → length o.rows + 1 + length o.closed.items ≤ vec_capacity o.closed
room-left o w sound is few =
    omega (arith, not_full w few, sound.many, ap (λ (v : KeptMap). length v.rows) is, ap (λ (v : KeptMap). length v.closed) is)

pub view-same : (o p : Inside) (w : KeptMap) → map_in o ≡ w → p.rows ≡ o.rows → p.closed.items ≡ o.closed.items → map_in p ≡ w
view-same o p w is rows closed = map-is p (map_in o) rows closed ∙ is

pub view-with_row : (o p : Inside) (w : KeptMap) (row : Kept) → map_in o ≡ w → p.rows ≡ o.rows ++ row ∷ [] → p.closed.items ≡ o.closed.items → map_in p ≡ with_row row.entry row.extent w
view-with_row o p w row is rows closed = map-is p (with_row row.entry row.extent (map_in o)) rows closed ∙ ap (with_row row.entry row.extent) is

pub view-with_closed : (o p : Inside) (w : KeptMap) (name : List ℕ) → map_in o ≡ w → p.rows ≡ o.rows → p.closed.items ≡ o.closed.items ++ name ∷ [] → map_in p ≡ with_closed name w
view-with_closed o p w name is rows closed = map-is p (with_closed name (map_in o)) rows closed ∙ ap (with_closed name) is
