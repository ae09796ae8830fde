-- Lives that were given, and instances that are followed, where rows come into memory, change and leave.
use Rattle.std.proofs.Common.{◌≡◌, ◌<◌, ◌≤◌, ◌⊎◌, inl, inr, refl, sym, subst, ap, ◌∙◌, ℕ, ◌+◌, ◌==◌, Bool, true, false, ◌&&◌, not, cond, filter, find, map, List, [], ◌∷◌, ◌++◌, Option, Some, None, option_map, le_refl, le_trans, arith}
use Rattle.std.specs.List.{list_any}
use Rattle.std.specs.Prelude.{count_by}
use Rattle.pp_cache.specs.Memory.{Memory, retired_at, with_outdated, with_row}
use Rattle.pp_cache_law.proofs.Faces.{count_faced, in_slot-faced}
use Rattle.pp_cache_law.proofs.Finds.{find_joined, find_passes, first_of_two, none_found, only_found}
use Rattle.pp_cache_law.proofs.Moves.{changed_alone, changed_if, in_slot-changed, in_slot-elsewhere, in_slot-gone, in_slot-marked}
use Rattle.pp_cache_law.proofs.Numbers.{is_same, same_test, some_is}
use Rattle.pp_cache_law.proofs.PairLemmas.{AreOnly, count_first, count_joined, count_kept, count_parts}
use Rattle.pp_fresh.specs.declared.aging.Times.{Times}
use Rattle.pp_objects.specs.Changes.{changed_in, face, faces, is_elsewhere, marked, new_row, refreshed, retired, retired_from, without_slot}
use Rattle.pp_objects.specs.Instances.{Instance, id_of, in_slot, is_idle, is_in_slot, is_life, is_row, is_row_of, is_same_id, is_there, row_of}
use Rattle.pp_objects.specs.Kept.{kept_of}
use Rattle.pp_objects.specs.declared.id.ObjectId.{ObjectId}
use Rattle.pp_state.specs.Bodies.{HasJoined}
use Rattle.pp_text.specs.Fields.{Field}
use Rattle.pp_valid.specs.declared.version.Version.{Version}
use Rattle.pp_answers_law.specs.Lives.{FollowedOnesStay, GivesLives, HaveGivenLives, IsThereStill, KeepsLives, NoneComesBack}

-- ---- each has a life that was given

lives_more : (n k : ℕ) (is : List Instance) → n ≤ k → HaveGivenLives n is → HaveGivenLives k is
lives_more n k [] less given = tt
lives_more n k (i ∷ is) less given = (omega (arith, less, given.0), lives_more n k is less given.1)

lives_mapped : (n : ℕ) (f : Instance → Instance) (is : List Instance) → ((i : Instance) → (f i).life ≡ i.life) → HaveGivenLives n is → HaveGivenLives n (map f is)
lives_mapped n f [] same given = tt
lives_mapped n f (i ∷ is) same given = (subst (λ (k : ℕ). k < n) (sym (same i)) given.0, lives_mapped n f is same given.1)

lives_kept : (n : ℕ) (q : Instance → Bool) (is : List Instance) → HaveGivenLives n is → HaveGivenLives n (filter q is)
lives_kept n q [] given = tt
lives_kept n q (i ∷ is) given = by (q i) (lives_kept n q is given.1)
  where
    by : (b : Bool) → HaveGivenLives n (filter q is) → HaveGivenLives n (cond b (i ∷ filter q is) (filter q is))
    by true rest = (given.0, rest)
    by false rest = rest

lives_joined : (n : ℕ) (is js : List Instance) → HaveGivenLives n is → HaveGivenLives n js → HaveGivenLives n (is ++ js)
lives_joined n [] js given more = more
lives_joined n (i ∷ is) js given more = (given.0, lives_joined n is js given.1 more)

lives_faced : (n : ℕ) (is js : List Instance) → faces js ≡ faces is → HaveGivenLives n is → HaveGivenLives n js
lives_faced n [] [] same given = tt
lives_faced n [] (j ∷ js) same given = absurd (cc same)
lives_faced n (i ∷ is) [] same given = absurd (cc same)
lives_faced n (i ∷ is) (j ∷ js) same given =
    let first : face j ≡ face i = cc same in
    let rest : faces js ≡ faces is = cc same in
    (subst (λ (k : ℕ). k < n) (ap (λ (x : Instance). x.life) (sym first)) given.0, lives_faced n is js rest given.1)

pub life_found : (n : ℕ) (p : Instance → Bool) (is : List Instance) (i : Instance) → find p is ≡ Some i → HaveGivenLives n is → i.life < n
life_found n p [] i found given = absurd (cc found)
life_found n p (j ∷ is) i found given = by (p j) found (λ later. life_found n p is i later given.1)
  where
    by : (b : Bool) → cond b (Some j) (find p is) ≡ Some i → (find p is ≡ Some i → i.life < n) → i.life < n
    by true at rest = subst (λ (x : Instance). x.life < n) (some_is j i at) given.0
    by false at rest = rest at

-- ---- each that is followed stays

stands : (i : Instance) (o : Option Instance) → o ≡ Some i → IsThereStill i o
stands i o is = record { now = i; there = is; life = refl; followers = refl }

stay_as : (is js : List Instance) → ((slot : ℕ) → in_slot slot js ≡ in_slot slot is) → FollowedOnesStay is js
stay_as is js same slot i at some = stands i (in_slot slot js) (same slot ∙ at)

stay_then : (is js ks : List Instance) → FollowedOnesStay is js → FollowedOnesStay js ks → FollowedOnesStay is ks
stay_then is js ks one two slot i at some =
    let a : IsThereStill i (in_slot slot js) = one slot i at some in
    let b : IsThereStill a.now (in_slot slot ks) = two slot a.now a.there (ap (λ (n : ℕ). n == 0) a.followers ∙ some) in
    record { now = b.now; there = b.there; life = b.life ∙ a.life; followers = b.followers ∙ a.followers }

stay_changed : (k : ℕ) (f : Instance → Instance) (is : List Instance) → ((i : Instance) → (f i).slot ≡ i.slot) → ((i : Instance) → (f i).life ≡ i.life) → ((i : Instance) → (f i).followers ≡ i.followers) → FollowedOnesStay is (changed_in k f is)
stay_changed k f is slots lives followers slot i at some = record {
  now = changed_if k f i;
  there = in_slot-changed slot k f is slots ∙ ap (λ (o : Option Instance). option_map (changed_if k f) o) at;
  life = its_life (is_in_slot k i);
  followers = its_followers (is_in_slot k i);
}
  where
    its_life : (b : Bool) → (cond b (f i) i).life ≡ i.life
    its_life true = lives i
    its_life false = refl

    its_followers : (b : Bool) → (cond b (f i) i).followers ≡ i.followers
    its_followers true = followers i
    its_followers false = refl

stay_out : (k : ℕ) (is : List Instance) → ((j : Instance) → in_slot k is ≡ Some j → (j.followers == 0) ≡ true) → FollowedOnesStay is (without_slot k is)
stay_out k is none slot i at some = by (slot == k) refl
  where
    by : (b : Bool) → (slot == k) ≡ b → IsThereStill i (in_slot slot (without_slot k is))
    by true same =
        let unfollowed : (i.followers == 0) ≡ true = none i (ap (λ (n : ℕ). in_slot n is) (sym (is_same slot k same)) ∙ at) in
        absurd (let both : true ≡ false = sym unfollowed ∙ some in cc both)
    by false apart = stands i (in_slot slot (without_slot k is)) (in_slot-elsewhere slot k is apart ∙ at)

stay_joined : (is js : List Instance) → FollowedOnesStay is (is ++ js)
stay_joined is js slot i at some = stands i (in_slot slot (is ++ js)) (find_joined (is_in_slot slot) is js ∙ ap (λ (o : Option Instance). first_of_two o (in_slot slot js)) at)

-- what it has in memory is told by its chunks
stay_faced : (is js : List Instance) → faces js ≡ faces is → FollowedOnesStay is js
stay_faced is js same slot i at some = by (in_slot slot js) refl (in_slot-faced slot js is same ∙ ap (λ (o : Option Instance). option_map face o) at)
  where
    by : (o : Option Instance) → in_slot slot js ≡ o → option_map face o ≡ Some (face i) → IsThereStill i (in_slot slot js)
    by None here alike = absurd (cc alike)
    by (Some j) here alike =
        let one : face j ≡ face i = cc alike in
        record { now = j; there = here; life = ap (λ (x : Instance). x.life) one; followers = ap (λ (x : Instance). x.followers) one }

-- ---- none comes back

false_true : false ≡ true → ⊥
false_true e = absurd cc

back_as : (n : ℕ) (is js : List Instance) → ((slot : ℕ) → in_slot slot js ≡ in_slot slot is) → NoneComesBack n is js
back_as n is js same id there = inl (ap (λ (o : Option Instance). is_life id.life o) (sym (same id.slot)) ∙ there)

back_then : (n k : ℕ) (is js ks : List Instance) → n ≤ k → NoneComesBack n is js → NoneComesBack k js ks → NoneComesBack n is ks
back_then n k is js ks less one two id there = by (two id there)
  where
    by : (is_there id js ≡ true) ⊎ (k ≤ id.life) → (is_there id is ≡ true) ⊎ (n ≤ id.life)
    by (inl before) = one id before
    by (inr late) = inr (le_trans less late)

life_mapped : (life : ℕ) (f : Instance → Instance) (o : Option Instance) → ((i : Instance) → (f i).life ≡ i.life) → is_life life (option_map f o) ≡ is_life life o
life_mapped life f None same = refl
life_mapped life f (Some i) same = ap (λ (n : ℕ). n == life) (same i)

back_changed : (n k : ℕ) (f : Instance → Instance) (is : List Instance) → ((i : Instance) → (f i).slot ≡ i.slot) → ((i : Instance) → (changed_if k f i).life ≡ i.life) → NoneComesBack n is (changed_in k f is)
back_changed n k f is slots lives id there =
    inl (sym (ap (λ (o : Option Instance). is_life id.life o) (in_slot-changed id.slot k f is slots) ∙ life_mapped id.life (changed_if k f) (in_slot id.slot is) lives) ∙ there)

back_out : (n k : ℕ) (is : List Instance) → NoneComesBack n is (without_slot k is)
back_out n k is id there = inl (by (id.slot == k) refl)
  where
    by : (b : Bool) → (id.slot == k) ≡ b → is_there id is ≡ true
    by true same =
        let none : in_slot id.slot (without_slot k is) ≡ None = ap (λ (m : ℕ). in_slot m (without_slot k is)) (is_same id.slot k same) ∙ in_slot-gone k is in
        absurd (false_true (sym (ap (λ (o : Option Instance). is_life id.life o) none) ∙ there))
    by false apart = ap (λ (o : Option Instance). is_life id.life o) (sym (in_slot-elsewhere id.slot k is apart)) ∙ there

face_life : (life : ℕ) (o : Option Instance) → is_life life (option_map face o) ≡ is_life life o
face_life life None = refl
face_life life (Some i) = refl

back_faced : (n : ℕ) (is js : List Instance) → faces js ≡ faces is → NoneComesBack n is js
back_faced n is js same id there =
    inl (sym (face_life id.life (in_slot id.slot is)) ∙ ap (λ (o : Option Instance). is_life id.life o) (sym (in_slot-faced id.slot js is same)) ∙ face_life id.life (in_slot id.slot js) ∙ there)

back_added : (i : Instance) (is : List Instance) → NoneComesBack i.life is (is ++ i ∷ [])
back_added i is id there = by (in_slot id.slot is) refl (sym (ap (λ (o : Option Instance). is_life id.life o) (find_joined (is_in_slot id.slot) is (i ∷ []))) ∙ there)
  where
    new : (b : Bool) → is_life id.life (cond b (Some i) None) ≡ true → i.life ≤ id.life
    new true is = subst (λ (n : ℕ). i.life ≤ n) (is_same i.life id.life is) (le_refl i.life)
    new false is = absurd (false_true is)

    by : (o : Option Instance) → in_slot id.slot is ≡ o → is_life id.life (first_of_two o (in_slot id.slot (i ∷ []))) ≡ true → (is_there id is ≡ true) ⊎ (i.life ≤ id.life)
    by None here at = inr (new (is_in_slot id.slot i) at)
    by (Some j) here at = inl (ap (λ (o : Option Instance). is_life id.life o) here ∙ at)

-- ---- one behind the other

pub keeps_as : (m n : Memory) → n.lives ≡ m.lives → n.instances ≡ m.instances → GivesLives m → KeepsLives m n
keeps_as m n lives rows gives = record {
  more = subst (λ (k : ℕ). m.lives ≤ k) (sym lives) (le_refl m.lives);
  gives = record {
    alone = λ slot. subst (λ (is : List Instance). count_by (is_in_slot slot) is ≤ 1) (sym rows) (gives.alone slot);
    given = subst (λ (k : ℕ). HaveGivenLives k n.instances) (sym lives) (subst (λ (is : List Instance). HaveGivenLives m.lives is) (sym rows) gives.given);
  };
  followed = stay_as m.instances n.instances (λ slot. ap (λ (is : List Instance). in_slot slot is) rows);
  back = back_as m.lives m.instances n.instances (λ slot. ap (λ (is : List Instance). in_slot slot is) rows);
}

pub keeps_none : (m : Memory) → GivesLives m → KeepsLives m m
keeps_none m gives = keeps_as m m refl refl gives

pub keeps_then : (k m n : Memory) → KeepsLives k m → KeepsLives m n → KeepsLives k n
keeps_then k m n one two = record {
  more = le_trans one.more two.more;
  gives = two.gives;
  followed = stay_then k.instances m.instances n.instances one.followed two.followed;
  back = back_then k.lives m.lives k.instances m.instances n.instances one.more one.back two.back;
}

pub keeps_is : (m n k : Memory) → k ≡ n → KeepsLives m n → KeepsLives m k
keeps_is m n k is keeps = subst (λ (l : Memory). KeepsLives m l) (sym is) keeps

-- ---- an instance changes

its_life : (k : ℕ) (f : Instance → Instance) → ((i : Instance) → (f i).life ≡ i.life) → (i : Instance) → (changed_if k f i).life ≡ i.life
its_life k f lives i = by (is_in_slot k i)
  where
    by : (b : Bool) → (cond b (f i) i).life ≡ i.life
    by true = lives i
    by false = refl

keeps_changed : (k : ℕ) (f : Instance → Instance) (m : Memory) → ((i : Instance) → (f i).slot ≡ i.slot) → ((i : Instance) → (f i).life ≡ i.life) → ((i : Instance) → (f i).followers ≡ i.followers) → GivesLives m → KeepsLives m (record m { instances = changed_in k f m.instances })
keeps_changed k f m slots lives followers gives = record {
  more = le_refl m.lives;
  gives = record { alone = λ slot. changed_alone slot k f m.instances slots (gives.alone slot); given = lives_mapped m.lives (changed_if k f) m.instances (its_life k f lives) gives.given };
  followed = stay_changed k f m.instances slots lives followers;
  back = back_changed m.lives k f m.instances slots (its_life k f lives);
}

marked_count : (slot k : ℕ) (is : List Instance) → count_by (is_in_slot slot) (marked k is) ≡ count_by (is_in_slot slot) is
marked_count slot k is = count_joined (is_in_slot slot) (filter (is_elsewhere k) is) (filter (is_in_slot k) is) ∙ count_parts (is_in_slot slot) (is_in_slot k) is

keeps_marked : (k : ℕ) (m : Memory) → GivesLives m → KeepsLives m (record m { instances = marked k m.instances })
keeps_marked k m gives = record {
  more = le_refl m.lives;
  gives = record {
    alone = λ slot. omega (arith, marked_count slot k m.instances, gives.alone slot);
    given = lives_joined m.lives (filter (is_elsewhere k) m.instances) (filter (is_in_slot k) m.instances) (lives_kept m.lives (is_elsewhere k) m.instances gives.given) (lives_kept m.lives (is_in_slot k) m.instances gives.given);
  };
  followed = stay_as m.instances (marked k m.instances) (λ slot. in_slot-marked slot k m.instances);
  back = back_as m.lives m.instances (marked k m.instances) (λ slot. in_slot-marked slot k m.instances);
}

pub keeps_refreshed : (k : ℕ) (fields : List Field) (times : Times) (m : Memory) → GivesLives m → KeepsLives m (record m { instances = marked k (changed_in k (refreshed fields times) m.instances) })
keeps_refreshed k fields times m gives =
    let n : Memory = record m { instances = changed_in k (refreshed fields times) m.instances } in
    let one : KeepsLives m n = keeps_changed k (refreshed fields times) m (λ i. refl) (λ i. refl) (λ i. refl) gives in
    keeps_then m n (record n { instances = marked k n.instances }) one (keeps_marked k n one.gives)

-- bytes join
pub keeps_joined : (m n : Memory) → HasJoined m n → GivesLives m → KeepsLives m n
keeps_joined m n joins gives = record {
  more = subst (λ (k : ℕ). m.lives ≤ k) (sym lives) (le_refl m.lives);
  gives = record {
    alone = λ slot. omega (arith, count_faced (is_in_slot slot) n.instances m.instances (λ i. refl) joins.faces, gives.alone slot);
    given = subst (λ (k : ℕ). HaveGivenLives k n.instances) (sym lives) (lives_faced m.lives m.instances n.instances joins.faces gives.given);
  };
  followed = stay_faced m.instances n.instances joins.faces;
  back = back_faced m.lives m.instances n.instances joins.faces;
}
  where
    lives : n.lives ≡ m.lives
    lives = ap (λ (l : Memory). l.lives) joins.rest

-- ---- one is out that nobody follows

keeps_out : (k : ℕ) (m : Memory) → ((j : Instance) → in_slot k m.instances ≡ Some j → (j.followers == 0) ≡ true) → GivesLives m → KeepsLives m (record m { instances = without_slot k m.instances })
keeps_out k m none gives = record {
  more = le_refl m.lives;
  gives = record { alone = λ slot. omega (arith, count_kept (is_in_slot slot) (is_elsewhere k) m.instances, gives.alone slot); given = lives_kept m.lives (is_elsewhere k) m.instances gives.given };
  followed = stay_out k m.instances none;
  back = back_out m.lives k m.instances;
}

only_is : (p : Instance → Bool) (one : Instance) (is : List Instance) (j : Instance) → AreOnly p one is → find p is ≡ Some j → j ≡ one
only_is p one [] j only found = absurd (cc found)
only_is p one (i ∷ is) j only found = by (p i) refl found (λ later. only_is p one is j only.1 later)
  where
    by : (b : Bool) → p i ≡ b → cond b (Some i) (find p is) ≡ Some j → (find p is ≡ Some j → j ≡ one) → j ≡ one
    by true passes at rest = sym (some_is i j at) ∙ only.0 passes
    by false fails at rest = rest at

-- whatever finds it, it is the one of its slot
found_there : (q : Instance → Bool) (m : Memory) (i : Instance) → GivesLives m → find q m.instances ≡ Some i → (j : Instance) → in_slot i.slot m.instances ≡ Some j → j ≡ i
found_there q m i gives found j at = only_is (is_in_slot i.slot) i m.instances j (only_found (is_in_slot i.slot) q m.instances i found (same_test i.slot i.slot refl) (gives.alone i.slot)) at

second : (a b c : Bool) → (a && (b && c)) ≡ true → b ≡ true
second true true c is = refl
second true false c is = absurd (cc is)
second false b c is = absurd (cc is)

pub keeps_forgotten : (busy : List ObjectId) (i : Instance) (m : Memory) → find (is_idle busy) m.instances ≡ Some i → GivesLives m → KeepsLives m (record m { instances = without_slot i.slot m.instances })
keeps_forgotten busy i m found gives =
    keeps_out i.slot m
    (λ j at. ap (λ (x : Instance). x.followers == 0) (found_there (is_idle busy) m i gives found j at) ∙ second (is_row i) (i.followers == 0) (not (list_any (is_same_id (id_of i)) busy)) (find_passes (is_idle busy) m.instances i found)) gives

-- ---- a row is not known any more: one that is followed is retired

keeps_retired : (q : Instance → Bool) (o : Option Instance) (m : Memory) → ((i : Instance) → o ≡ Some i → find q m.instances ≡ Some i) → GivesLives m → KeepsLives m (record m { instances = retired_from o m.instances })
keeps_retired q None m found gives = keeps_none m gives
keeps_retired q (Some i) m found gives = by (i.followers == 0) refl
  where
    by : (b : Bool) → (i.followers == 0) ≡ b → KeepsLives m (record m { instances = cond b (without_slot i.slot m.instances) (changed_in i.slot retired m.instances) })
    by true none = keeps_out i.slot m (λ j at. ap (λ (x : Instance). x.followers == 0) (found_there q m i gives (found i refl) j at) ∙ none) gives
    by false some = keeps_changed i.slot retired m (λ j. refl) (λ j. refl) (λ j. refl) gives

pub keeps_cleared : (key : List ℕ) (m : Memory) → GivesLives m → KeepsLives m (retired_at key m)
unfolding retired_at
keeps_cleared key m gives =
    let n : Memory = record m { instances = retired_from (row_of key m.instances) m.instances } in
    let one : KeepsLives m n = keeps_retired (is_row_of key) (row_of key m.instances) m (λ i is. is) gives in
    keeps_then m n (retired_at key m) one (keeps_as n (retired_at key m) refl refl one.gives)

-- ---- a row comes into memory

one_more : (slot : ℕ) (i : Instance) (is : List Instance) → count_by (is_in_slot slot) (is ++ i ∷ []) ≡ count_by (is_in_slot slot) is + cond (i.slot == slot) 1 0
one_more slot i is = omega (arith, count_joined (is_in_slot slot) is (i ∷ []), count_first (is_in_slot slot) i [])

keeps_added : (i : Instance) (m : Memory) → in_slot i.slot m.instances ≡ None → i.life ≡ m.lives → GivesLives m → KeepsLives m (record m { instances = m.instances ++ i ∷ []; lives = m.lives + 1 })
keeps_added i m vacant life gives = record {
  more = omega arith;
  gives = record { alone = λ slot. by slot (i.slot == slot) refl; given = lives_joined (m.lives + 1) m.instances (i ∷ []) (lives_more m.lives (m.lives + 1) m.instances (omega arith) gives.given) (omega (arith, life), tt) };
  followed = stay_joined m.instances (i ∷ []);
  back = subst (λ (n : ℕ). NoneComesBack n m.instances (m.instances ++ i ∷ [])) life (back_added i m.instances);
}
  where
    by : (slot : ℕ) (b : Bool) → (i.slot == slot) ≡ b → count_by (is_in_slot slot) (m.instances ++ i ∷ []) ≤ 1
    by slot true here =
        let none : count_by (is_in_slot slot) m.instances ≡ 0 = subst (λ (n : ℕ). count_by (is_in_slot n) m.instances ≡ 0) (is_same i.slot slot here) (none_found (is_in_slot i.slot) m.instances vacant) in
        omega (arith, one_more slot i m.instances ∙ ap (λ (b : Bool). count_by (is_in_slot slot) m.instances + cond b 1 0) here, none)
    by slot false off = omega (arith, one_more slot i m.instances ∙ ap (λ (b : Bool). count_by (is_in_slot slot) m.instances + cond b 1 0) off, gives.alone slot)

pub keeps_made : (id : ObjectId) (key : List ℕ) (version : Version) (fields : List Field) (times : Times) (m : Memory) → in_slot id.slot m.instances ≡ None → id.life ≡ m.lives → GivesLives m → KeepsLives m (with_row id key version fields times m)
unfolding with_row
keeps_made id key version fields times m vacant life gives =
    let i : Instance = new_row id key version (kept_of fields times) times in
    let k : Memory = record m { instances = m.instances ++ i ∷ []; lives = m.lives + 1 } in
    let one : KeepsLives m k = keeps_added i m vacant life gives in
    let n : Memory = record k { instances = retired_from (row_of key m.instances) k.instances } in
    let two : KeepsLives k n = keeps_retired (is_row_of key) (row_of key m.instances) k (λ j is. find_joined (is_row_of key) m.instances (i ∷ []) ∙ ap (λ (o : Option Instance). first_of_two o (find (is_row_of key) (i ∷ []))) is) one.gives in
    keeps_then m k (with_row id key version fields times m) one (keeps_then k n (with_row id key version fields times m) two (keeps_as n (with_row id key version fields times m) refl refl two.gives))

pub lives_made : (id : ObjectId) (key : List ℕ) (version : Version) (fields : List Field) (times : Times) (m : Memory) → (with_row id key version fields times m).lives ≡ m.lives + 1
unfolding with_row
lives_made id key version fields times m = refl

pub keeps_outdated : (key : List ℕ) (m : Memory) → GivesLives m → KeepsLives m (with_outdated key m)
unfolding with_outdated
keeps_outdated key m gives = keeps_as m (with_outdated key m) refl refl gives

pub lives_outdated : (key : List ℕ) (m : Memory) → (with_outdated key m).lives ≡ m.lives
unfolding with_outdated
lives_outdated key m = refl
