-- What closings put into the log does not depend on it: each is open as the links say.
use Rattle.std.proofs.Common.{◌≡◌, ◌<◌, ◌≤◌, ◌+◌, ℕ, zero, suc, add-one, eqb, Bool, true, false, cond, ◌||◌, List, [], ◌∷◌, ◌++◌, length, take, get_or, slice_get, Option, Some, None, find, refl, sym, ap, subst, ◌∙◌, append_assoc, arith}
use Rattle.std.specs.List.{cons_option, filter_map}
use Rattle.std.specs.Option.{option_to_list}
use Rattle.std.proofs.lemmas.List.{append-nil}
use Rattle.std.proofs.lemmas.Option.{slice_get-get_or}
use Rattle.std.proofs.lemmas.List.Sums.{fold-append}
use Rattle.std.proofs.lemmas.Bool.Decides.{nat_tests}
use Rattle.pp_links.specs.Links.{AreOpen, IsLinked, Link, has_link, is_link, without}
use Rattle.pp_desk.specs.Shutting.{closed_as, closings, without_all}
use Rattle.pp_world.specs.Connections.{side_of}
use Rattle.pp_world.specs.Log.{Appends, AppendsAll, Log}
use Rattle.pp_world.specs.Wire.{by_side, close_happening}
use Rattle.pp_world.specs.declared.happening.Happening.TheVariants.{Dropped, Shut}

-- ---- one

same_number : (n id : ℕ) → eqb n id ≡ true → n ≡ id
same_number n id is = grind (arith, nat_tests, is)

closed_by : (id : ℕ) (link : Link) (l : Log) → link.0 ≡ id → side_of link.0 l ≡ Some link.1 → close_happening id l ∷ [] ≡ closed_as (Some link)
closed_by id link l same side =
    ap (λ (n : ℕ). close_happening n l ∷ []) (sym same) ∙ ap (λ (s : Option _). by_side s (Shut link.0) (Dropped link.0) ∷ []) side

open_as : (links : List Link) (id : ℕ) (l : Log) → AreOpen links l → has_link id links ≡ true → close_happening id l ∷ [] ≡ closed_as (find (is_link id) links)
open_as [] id l o has = absurd (let bad : false ≡ true = has in cc)
open_as (link ∷ links) id l o has = by (eqb link.0 id) refl has (λ all. open_as links id l (λ k d within. o (suc k) d (omega (arith, within))) all)
  where
    by : (b : Bool) → eqb link.0 id ≡ b → (b || has_link id links) ≡ true → (has_link id links ≡ true → close_happening id l ∷ [] ≡ closed_as (find (is_link id) links))
        → close_happening id l ∷ [] ≡ closed_as (cond b (Some link) (find (is_link id) links))
    by true at all go = closed_by id link l (same_number link.0 id at) (o 0 link (omega arith))
    by false at all go = go all

not_open : (links : List Link) (id : ℕ) → has_link id links ≡ false → closed_as (find (is_link id) links) ≡ []
not_open [] id none = refl
not_open (link ∷ links) id none = by (is_link id link) none (λ rest. not_open links id rest)
  where
    by : (b : Bool) → (b || has_link id links) ≡ false → (has_link id links ≡ false → closed_as (find (is_link id) links) ≡ []) → closed_as (cond b (Some link) (find (is_link id) links)) ≡ []
    by true bad go = absurd (let e : true ≡ false = bad in cc)
    by false rest go = go rest

pub none_added : {old new : Option Log} (added : Log) → new ≡ old → added ≡ [] → AppendsAll old new (λ l. added)
none_added {old} {new} added same none = record { was = λ l is. (l, sym same ∙ is, sym (append-nil l) ∙ ap (λ (b : Log). l ++ b) (sym none)) }

-- where it is open, and where it is not
pub closed_one : {old new : Option Log} {top : ℕ} (links : List Link) (id : ℕ) → IsLinked old top links → (has_link id links ≡ true → Appends old new (close_happening id)) → (has_link id links ≡ false → new ≡ old)
    → AppendsAll old new (λ l. closings (id ∷ []) links)
closed_one {old} {new} links id held call none = by (has_link id links) refl
  where
    by : (b : Bool) → has_link id links ≡ b → AppendsAll old new (λ l. closings (id ∷ []) links)
    by true has = record {
      was = λ l is.
          let w = (call has).was l is in (
            w.0,
            w.1,
            w.2 ∙ ap (λ (b : Log). w.0 ++ b) (open_as links id w.0 (held.opened.at w.0 w.1) has ∙ sym (append-nil (closed_as (find (is_link id) links)))),
          );
    }
    by false not = none_added (closings (id ∷ []) links) (none not) (append-nil (closed_as (find (is_link id) links)) ∙ not_open links id not)

-- ---- one behind the other

closings-append : (ids more : List ℕ) (links : List Link) → closings (ids ++ more) links ≡ closings ids links ++ closings more (without_all ids links)
closings-append [] more links = refl
closings-append (id ∷ ids) more links =
    ap (λ (b : Log). closed_as (find (is_link id) links) ++ b) (closings-append ids more (without id links))
    ∙ sym (append_assoc (closed_as (find (is_link id) links)) (closings ids (without id links)) (closings more (without_all ids (without id links))))

pub closed_then : {old mid new : Option Log} (ids more : List ℕ) (links left : List Link) → AppendsAll old mid (λ l. closings ids links) → left ≡ without_all ids links → AppendsAll mid new (λ l. closings more left)
    → AppendsAll old new (λ l. closings (ids ++ more) links)
closed_then ids more links left one is two = record {
  was = λ l at.
      let later = two.was l at in
      let earlier = one.was later.0 later.1 in (
        earlier.0,
        earlier.1,
        later.2 ∙ ap (λ (b : Log). b ++ closings more left) earlier.2 ∙ append_assoc earlier.0 (closings ids links) (closings more left)
            ∙ ap (λ (ls : List Link). earlier.0 ++ (closings ids links ++ closings more ls)) is ∙ ap (λ (b : Log). earlier.0 ++ b) (sym (closings-append ids more links)),
      );
}

pub left_then : (ids more : List ℕ) (links left : List Link) → left ≡ without_all ids links → without_all more left ≡ without_all (ids ++ more) links
left_then ids more links left is = ap (without_all more) is ∙ sym (fold-append (λ left id. without id left) links ids more)

-- ---- in a loop

only : (o : Option ℕ) → cons_option o [] ≡ option_to_list o
only None = refl
only (Some n) = refl

before : (o : Option ℕ) (ms ns : List ℕ) → cons_option o (ms ++ ns) ≡ cons_option o ms ++ ns
before None ms ns = refl
before (Some n) ms ns = refl

seen_next : {A : Type 0} (see : A → Option ℕ) (xs : List A) (i : ℕ) (x : A) → slice_get xs i ≡ Some x → filter_map see (take (suc i) xs) ≡ filter_map see (take i xs) ++ option_to_list (see x)
seen_next see [] i x at = absurd (let bad : None ≡ Some x = at in cc)
seen_next see (y ∷ xs) zero x at = let same : y ≡ x = cc in ap (λ z. filter_map see (z ∷ [])) same ∙ only (see x)
seen_next see (y ∷ xs) (suc i) x at = ap (cons_option (see y)) (seen_next see xs i x at) ∙ before (see y) (filter_map see (take i xs)) (option_to_list (see x))

seen_more : {A : Type 0} (see : A → Option ℕ) (xs : List A) (i : ℕ) (x : A) → slice_get xs i ≡ Some x → filter_map see (take (i + 1) xs) ≡ filter_map see (take i xs) ++ option_to_list (see x)
seen_more see xs i x at = ap (λ n. filter_map see (take n xs)) (add-one i) ∙ seen_next see xs i x at

-- what stands there
pub at_number : (xs ys : List ℕ) (i : ℕ) → ys ≡ xs → i < length ys → slice_get xs i ≡ Some (get_or ys i 0)
at_number xs ys i same within = ap (λ (zs : List ℕ). slice_get zs i) (sym same) ∙ slice_get-get_or ys i 0 within

pub at_item : {A : Type 0} (xs ys : List A) (i : ℕ) (x : A) → ys ≡ xs → i < length ys → x ≡ get_or ys i x → slice_get xs i ≡ Some x
at_item {A} xs ys i x same within is = ap (λ (zs : List A). slice_get zs i) (sym same) ∙ slice_get-get_or ys i x within ∙ ap Some (sym is)

pub closed_next : {A : Type 0} {old mid new : Option Log} (see : A → Option ℕ) (xs : List A) (i : ℕ) (x : A) (links left : List Link) → slice_get xs i ≡ Some x → AppendsAll old mid (λ l. closings (filter_map see (take i xs)) links)
    → left ≡ without_all (filter_map see (take i xs)) links → AppendsAll mid new (λ l. closings (option_to_list (see x)) left) → AppendsAll old new (λ l. closings (filter_map see (take (i + 1) xs)) links)
closed_next {A} {old} {mid} {new} see xs i x links left at one gone two =
    subst (λ (ids : List ℕ). AppendsAll old new (λ l. closings ids links)) (sym (seen_more see xs i x at)) (closed_then (filter_map see (take i xs)) (option_to_list (see x)) links left one gone two)

pub left_next : {A : Type 0} (see : A → Option ℕ) (xs : List A) (i : ℕ) (x : A) (links left new : List Link) → slice_get xs i ≡ Some x → left ≡ without_all (filter_map see (take i xs)) links
    → new ≡ without_all (option_to_list (see x)) left → new ≡ without_all (filter_map see (take (i + 1) xs)) links
left_next see xs i x links left new at gone now =
    now ∙ left_then (filter_map see (take i xs)) (option_to_list (see x)) links left gone ∙ ap (λ ids. without_all ids links) (sym (seen_more see xs i x at))

whole : {A : Type 0} (xs ys : List A) (i : ℕ) → ys ≡ xs → length ys ≤ i → take i xs ≡ xs
whole xs ys i same all = take-all-of xs i (omega (arith, all, ap length same))
  where
    take-all-of : {A : Type 0} (xs : List A) (i : ℕ) → length xs ≤ i → take i xs ≡ xs
    take-all-of [] zero all = refl
    take-all-of [] (suc i) all = refl
    take-all-of (x ∷ xs) zero all = absurd (omega (arith, all))
    take-all-of (x ∷ xs) (suc i) all = ap (λ zs. x ∷ zs) (take-all-of xs i (omega (arith, all)))

pub all_closed : {A : Type 0} {old new : Option Log} (see : A → Option ℕ) (xs ys : List A) (i : ℕ) (links : List Link) → ys ≡ xs → length ys ≤ i → AppendsAll old new (λ l. closings (filter_map see (take i xs)) links)
    → AppendsAll old new (λ l. closings (filter_map see xs) links)
all_closed {A} {old} {new} see xs ys i links same all call = subst (λ (zs : List A). AppendsAll old new (λ l. closings (filter_map see zs) links)) (whole xs ys i same all) call

pub all_left : {A : Type 0} (see : A → Option ℕ) (xs ys : List A) (i : ℕ) (links left : List Link) → ys ≡ xs → length ys ≤ i → left ≡ without_all (filter_map see (take i xs)) links → left ≡ without_all (filter_map see xs) links
all_left see xs ys i links left same all gone = gone ∙ ap (λ zs. without_all (filter_map see zs) links) (whole xs ys i same all)
