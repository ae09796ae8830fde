-- What is gathered from a list, one behind the other, as far as there is room; and the row that is idle.
use Rattle.std.proofs.Common.{◌≡◌, ◌≤◌, ◌<◌, ◌+◌, ℕ, zero, suc, Bool, true, false, not, cond, ◌==◌, ◌&&◌, List, [], ◌∷◌, ◌++◌, take, length, add-one, refl, sym, ◌∙◌, ap, subst, arith, Option, Some, None}
use Rattle.std.proofs.lemmas.List.{append_assoc, append-nil, length-append, take-append-le, take_all}
use Rattle.std.specs.Prelude.{slice_get, option_map, IfSome}
use Rattle.std.specs.List.{cons_option, filter_map, find, list_any}
use Rattle.std.specs.Option.{option_and_then, option_to_list}
use Rattle.pp_cache.specs.Memory.{Memory}
use Rattle.pp_cache.specs.Notes.{noted_by}
use Rattle.pp_holes.specs.Places.{without_owner}
use Rattle.pp_objects.specs.Changes.{without_slot}
use Rattle.pp_objects.specs.Instances.{Instance, followers_of, id_of, in_slot, is_idle, is_life, is_row, is_same_id, is_there}
use Rattle.pp_state.specs.Pins.{busy_rows, forgotten_row, idle_row, without_instance}
use Rattle.pp_state.specs.declared.state.State.{State}
use Rattle.pp_objects.specs.declared.id.ObjectId.{ObjectId}

take_again : {A : Type 0} → (n : ℕ) (xs ys : List A) → take n (take n xs ++ ys) ≡ take n (xs ++ ys)
take_again zero xs ys = refl
take_again (suc n) [] ys = refl
take_again (suc n) (x ∷ xs) ys = ap (λ zs. x ∷ zs) (take_again n xs ys)

consed : {B : Type 0} → (o : Option B) (xs ys : List B) → cons_option o (xs ++ ys) ≡ cons_option o xs ++ ys
consed None xs ys = refl
consed (Some y) xs ys = refl

alone : {B : Type 0} → (o : Option B) → cons_option o [] ≡ option_to_list o
alone None = refl
alone (Some y) = refl

one_more : {A B : Type 0} → (f : A → Option B) (xs : List A) (i : ℕ) → filter_map f (take (suc i) xs) ≡ filter_map f (take i xs) ++ option_to_list (option_and_then f (slice_get xs i))
one_more f [] zero = refl
one_more f [] (suc i) = refl
one_more f (x ∷ xs) zero = alone (f x)
one_more f (x ∷ xs) (suc i) = ap (λ ys. cons_option (f x) ys) (one_more f xs i) ∙ consed (f x) (filter_map f (take i xs)) (option_to_list (option_and_then f (slice_get xs i)))

-- what one more brings, behind what was gathered first
pub gathered : {A B : Type 0} → (n : ℕ) (f : A → Option B) (first : List B) (xs : List A) (i : ℕ) (found new : List B) (o : Option B) → found ≡ take n (first ++ filter_map f (take i xs))
    → o ≡ option_and_then f (slice_get xs i) → new ≡ take n (found ++ option_to_list o) → new ≡ take n (first ++ filter_map f (take (i + 1) xs))
gathered n f first xs i found new o before is so =
    let more = option_to_list (option_and_then f (slice_get xs i)) in
    let taken = filter_map f (take i xs) in
    so ∙ ap (λ p. take n (found ++ option_to_list p)) is ∙ ap (λ ys. take n (ys ++ more)) before ∙ take_again n (first ++ taken) more
    ∙ ap (take n) (append_assoc first taken more) ∙ ap (λ ys. take n (first ++ ys)) (sym (one_more f xs i))
    ∙ ap (λ k. take n (first ++ filter_map f (take k xs))) (sym (add-one i))

pub gathered_none : {A : Type 0} → (n : ℕ) (xs : List A) → take n xs ≡ take n (take n xs ++ [])
gathered_none n xs = sym (take_again n xs [] ∙ ap (take n) (append-nil xs))

-- ---- one that is put behind

pub pushed : {A : Type 0} → (n : ℕ) (old new : List A) (o : Option A) (x : A) → o ≡ Some x → length old < n → new ≡ old ++ x ∷ [] → new ≡ take n (old ++ option_to_list o)
pushed n old new o x is less so =
    so ∙ sym (take_all n (old ++ x ∷ []) (omega (arith, less, length-append old (x ∷ [])))) ∙ ap (λ p. take n (old ++ option_to_list p)) (sym is)

pub full : {A : Type 0} → (n : ℕ) (old : List A) (o : Option A) → n ≤ length old → length old ≤ n → old ≡ take n (old ++ option_to_list o)
full n old o most least = sym (take-append-le n old (option_to_list o) most ∙ take_all n old least)

pub nothing : {A : Type 0} → (n : ℕ) (old : List A) (o : Option A) → o ≡ None → length old ≤ n → old ≡ take n (old ++ option_to_list o)
nothing n old o is least = sym (ap (λ p. take n (old ++ option_to_list p)) is ∙ ap (take n) (append-nil old) ∙ take_all n old least)

-- ---- the row that is idle

passes : {A : Type 0} → (p : A → Bool) (y : A) (xs : List A) (x : A) (b : Bool) → p y ≡ b → (find p xs ≡ Some x → p x ≡ true) → cond b (Some y) (find p xs) ≡ Some x → p x ≡ true
passes p y xs x true here later so = let same : y ≡ x = cc in ap p (sym same) ∙ here
passes p y xs x false here later so = later so

found_passes : {A : Type 0} → (p : A → Bool) (xs : List A) (x : A) → find p xs ≡ Some x → p x ≡ true
found_passes p [] x found = absurd (let h : None ≡ Some x = found in cc)
found_passes p (y ∷ xs) x found = passes p y xs x (p y) refl (found_passes p xs x) found

unfollowed : (a c : Bool) (n : ℕ) → (a && ((n == 0) && c)) ≡ true → n ≡ 0
unfollowed a c n so = grind (arith, so)

-- nobody follows it
pub idle_unfollowed : (busy : List ObjectId) (is : List Instance) (i : Instance) → find (is_idle busy) is ≡ Some i → followers_of (Some i) ≡ 0
idle_unfollowed busy is i found =
    unfollowed (is_row i) (not (list_any (is_same_id (id_of i)) busy)) i.followers (found_passes (is_idle busy) is i found)

same_number : (n : ℕ) → (n == n) ≡ true
same_number n = grind (arith)

pub forgotten_one : (s : State) (id : ObjectId) (i : Instance) (m : Memory) (keys : List (List ℕ)) → idle_row s ≡ Some i → id ≡ id_of i → in_slot id.slot s.cache.instances ≡ Some i
    → (is_there id s.cache.instances ≡ true → IfSome (in_slot id.slot s.cache.instances) (λ j. keys ≡ noted_by j.key s.forgotten))
    → (is_there id s.cache.instances ≡ true → followers_of (in_slot id.slot s.cache.instances) ≡ 0 → m ≡ record s.cache { instances = without_slot id.slot s.cache.instances; chunks = without_owner id.slot s.cache.chunks })
    → record s { cache = m; forgotten = keys } ≡ forgotten_row (idle_row s) s
forgotten_one s id i m keys found is slot noted left =
    let there : is_there id s.cache.instances ≡ true = ap (is_life id.life) slot ∙ ap (λ x. i.life == x.life) is ∙ same_number i.life in
    let P : Option Instance → Type 0 = λ o. IfSome o (λ j. keys ≡ noted_by j.key s.forgotten) in
    let key : keys ≡ noted_by i.key s.forgotten = subst P slot (noted there) in
    let none = ap followers_of slot ∙ idle_unfollowed (busy_rows s.flow) s.cache.instances i found in
    let memory : m ≡ without_instance i s.cache =
    left there none ∙ ap (λ x. record s.cache { instances = without_slot x.slot s.cache.instances; chunks = without_owner x.slot s.cache.chunks }) is in
    ap (λ x. record s { cache = x; forgotten = keys }) memory
    ∙ ap (λ x. record s { cache = without_instance i s.cache; forgotten = x }) key
    ∙ ap (λ o. forgotten_row o s) (sym found)

by_row : (s : State) (id : ObjectId) (m : Memory) (keys : List (List ℕ)) (o : Option Instance) → idle_row s ≡ o → Some id ≡ option_map id_of o → in_slot id.slot s.cache.instances ≡ o
    → (is_there id s.cache.instances ≡ true → IfSome (in_slot id.slot s.cache.instances) (λ j. keys ≡ noted_by j.key s.forgotten))
    → (is_there id s.cache.instances ≡ true → followers_of (in_slot id.slot s.cache.instances) ≡ 0 → m ≡ record s.cache { instances = without_slot id.slot s.cache.instances; chunks = without_owner id.slot s.cache.chunks })
    → record s { cache = m; forgotten = keys } ≡ forgotten_row (idle_row s) s
by_row s id m keys None found is slot noted left = absurd (let h : Some id ≡ None = is in cc)
by_row s id m keys (Some i) found is slot noted left = forgotten_one s id i m keys found (let h : Some id ≡ Some (id_of i) = is in cc) slot noted left

-- the row that the cache tells of
pub forgotten_so : (s : State) (id : ObjectId) (m : Memory) (keys : List (List ℕ)) → Some id ≡ option_map id_of (idle_row s) → in_slot id.slot s.cache.instances ≡ idle_row s
    → (is_there id s.cache.instances ≡ true → IfSome (in_slot id.slot s.cache.instances) (λ j. keys ≡ noted_by j.key s.forgotten))
    → (is_there id s.cache.instances ≡ true → followers_of (in_slot id.slot s.cache.instances) ≡ 0 → m ≡ record s.cache { instances = without_slot id.slot s.cache.instances; chunks = without_owner id.slot s.cache.chunks })
    → record s { cache = m; forgotten = keys } ≡ forgotten_row (idle_row s) s
forgotten_so s id m keys is slot noted left = by_row s id m keys (idle_row s) refl is slot noted left
