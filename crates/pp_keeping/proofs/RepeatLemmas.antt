-- Steps, one behind the other, as long as it goes on; and what of the state a step leaves.
use Rattle.std.proofs.Common.{◌≡◌, ◌<◌, ◌≤◌, ◌-◌, ◌+◌, ℕ, zero, suc, min, Bool, true, false, ◌||◌, List, [], ◌∷◌, ◌++◌, length, take, refl, sym, subst, ap, ◌∙◌, arith, append-nil, length-take}
use Rattle.std.proofs.lemmas.List.{nil_from_length}
use Rattle.pp_cache.specs.Memory.{Memory}
use Rattle.pp_keeping.specs.Keeping.{Keeping, RepeatsOn, RepeatsTo, TakesName, TakesNext, KeepsGrown, KeepsRun, GrownNext, all_but_last, ends_astray, with_memory, without_grown, without_name}
use Rattle.pp_keeping.specs.Kept.{Outside, TakesAway, key_under, unkept_of}
use Rattle.pp_objects.specs.declared.id.ObjectId.{ObjectId}
use Rattle.pp_state.specs.Astray.{gone_astray_where}
use Rattle.pp_state.specs.declared.state.State.{State}

-- so far i of so many were made
pub record AreSoFar (End : Bool → Keeping → Keeping) (Step : Keeping → Keeping → Bool → Type 0) (n i : ℕ) (x mid : Keeping) (goes : Bool) : Type 0 where
  pub on : (y : Keeping) → RepeatsTo End Step (n - i) goes mid y → RepeatsTo End Step n true x y

all_left : (n : ℕ) → n - 0 ≡ n
all_left n = omega arith

one_less : (n i : ℕ) → i < n → n - i ≡ suc (n - (i + 1))
one_less n i less = omega (arith, less)

none_left : (n i : ℕ) → n ≤ i → n - i ≡ 0
none_left n i all = omega (arith, all)

pub none_yet : (End : Bool → Keeping → Keeping) (Step : Keeping → Keeping → Bool → Type 0) (n : ℕ) (x : Keeping) → AreSoFar End Step n 0 x x true
none_yet End Step n x = record { on = λ y all. subst (λ (k : ℕ). RepeatsTo End Step k true x y) (all_left n) all }

step_then : (End : Bool → Keeping → Keeping) (Step : Keeping → Keeping → Bool → Type 0) (more : ℕ) (x next y : Keeping) (again : Bool) → Step x next again → RepeatsTo End Step more again next y → RepeatsTo End Step (suc more) true x y
unfolding RepeatsTo
step_then End Step more x next y again step others = (next, again, step, others)

pub one_more : (End : Bool → Keeping → Keeping) (Step : Keeping → Keeping → Bool → Type 0) (n i : ℕ) (x mid next : Keeping) (goes again : Bool) → i < n → goes ≡ true → AreSoFar End Step n i x mid goes → Step mid next again → AreSoFar End Step n (i + 1) x next again
one_more End Step n i x mid next goes again less goes_on so step = record {
  on = λ y others.
      let here : RepeatsTo End Step (suc (n - (i + 1))) true mid y = step_then End Step (n - (i + 1)) mid next y again step others in
      let left : RepeatsTo End Step (n - i) true mid y = subst (λ (k : ℕ). RepeatsTo End Step k true mid y) (sym (one_less n i less)) here in
      so.on y (subst (λ (b : Bool). RepeatsTo End Step (n - i) b mid y) (sym goes_on) left);
}

over : (End : Bool → Keeping → Keeping) (Step : Keeping → Keeping → Bool → Type 0) (more : ℕ) (x : Keeping) → End false x ≡ x → RepeatsTo End Step more false x x
unfolding RepeatsTo
over End Step zero x same = sym same
over End Step (suc more) x same = refl

-- it goes on no more
pub ends_early : (End : Bool → Keeping → Keeping) (Step : Keeping → Keeping → Bool → Type 0) (n i : ℕ) (x mid : Keeping) (goes : Bool) → End false mid ≡ mid → goes ≡ false → AreSoFar End Step n i x mid goes → RepeatsTo End Step n true x mid
ends_early End Step n i x mid goes same none so = so.on mid (subst (λ (b : Bool). RepeatsTo End Step (n - i) b mid mid) (sym none) (over End Step (n - i) mid same))

none_more : (End : Bool → Keeping → Keeping) (Step : Keeping → Keeping → Bool → Type 0) (goes : Bool) (x : Keeping) → RepeatsTo End Step 0 goes x (End goes x)
unfolding RepeatsTo
none_more End Step goes x = refl

-- or there were as many as may be
pub ends_late : (End : Bool → Keeping → Keeping) (Step : Keeping → Keeping → Bool → Type 0) (n i : ℕ) (x mid : Keeping) (goes : Bool) → n ≤ i → AreSoFar End Step n i x mid goes → RepeatsTo End Step n true x (End goes mid)
ends_late End Step n i x mid goes all so = so.on (End goes mid) (subst (λ (k : ℕ). RepeatsTo End Step k goes mid (End goes mid)) (sym (none_left n i all)) (none_more End Step goes mid))

or_true : (b : Bool) → (b || true) ≡ true
or_true true = refl
or_true false = refl

or_false : (b : Bool) → (b || false) ≡ b
or_false true = refl
or_false false = refl

-- and then this life may have gone astray
astray_so : (goes : Bool) (s : State) → gone_astray_where goes s ≡ record s { is_astray = s.is_astray || goes }
astray_so true s = ap (λ (b : Bool). record s { is_astray = b }) (sym (or_true s.is_astray))
astray_so false s = ap (λ (b : Bool). record s { is_astray = b }) (sym (or_false s.is_astray))

pub ends_noted : (goes : Bool) (x : Keeping) → ends_astray goes x ≡ record x { state = record x.state { is_astray = x.state.is_astray || goes } }
ends_noted goes x = ap (λ (s : State). record x { state = s }) (astray_so goes x.state)

-- ---- the last of a list is forgotten

-- where there is none, there was none
none_before : {A : Type 0} (old new : List A) → old ≡ new ++ [] → new ≡ all_but_last old → old ≡ []
none_before old new last rest =
    let same : old ≡ all_but_last old = last ∙ append-nil new ∙ rest in
    let len : length old ≡ min (length old - 1) (length old) = ap length same ∙ length-take (length old - 1) old in
    nil_from_length old (omega (arith, len))

pub no_name : (x : Keeping) (m : Memory) → x.state.cache.outdated ≡ m.outdated ++ [] → m ≡ without_name x.state.cache → TakesNext x (record x { state = with_memory m x.state }) false
no_name x m last rest =
    let before : List (List ℕ) = x.state.cache.outdated in
    let none : before ≡ [] = none_before before m.outdated last (ap (λ (n : Memory). n.outdated) rest) in
    let same : without_name x.state.cache ≡ x.state.cache = ap (λ (o : List (List ℕ)). record x.state.cache { outdated = o }) (sym (last ∙ append-nil m.outdated ∙ ap (λ (n : Memory). n.outdated) rest)) in
    (none, ap (λ (n : Memory). record x { state = with_memory n x.state }) (rest ∙ same))

pub name_taken : (x : Keeping) (y : Outside) (s : State) (m : Memory) (name : List ℕ) → x.state.cache.outdated ≡ m.outdated ++ name ∷ [] → m ≡ without_name x.state.cache → TakesAway (key_under name x.outside.shelf) x.outside y
    → s ≡ with_memory (unkept_of (key_under name x.outside.shelf) m) x.state → TakesName x (record { state = s; outside = y })
name_taken x y s m name last rest takes state = record {
  name = name;
  last = last ∙ ap (λ (n : Memory). n.outdated ++ name ∷ []) rest;
  takes = takes;
  state = state ∙ ap (λ (n : Memory). with_memory (unkept_of (key_under name x.outside.shelf) n) x.state) rest;
}

pub no_grown : (room : ℕ) (x : Keeping) (m : Memory) → x.state.cache.grown ≡ m.grown ++ [] → m ≡ without_grown x.state.cache → GrownNext room x (record x { state = with_memory m x.state }) false
no_grown room x m last rest =
    let before : List ObjectId = x.state.cache.grown in
    let none : before ≡ [] = none_before before m.grown last (ap (λ (n : Memory). n.grown) rest) in
    let same : without_grown x.state.cache ≡ x.state.cache = ap (λ (o : List ObjectId). record x.state.cache { grown = o }) (sym (last ∙ append-nil m.grown ∙ ap (λ (n : Memory). n.grown) rest)) in
    (none, ap (λ (n : Memory). record x { state = with_memory n x.state }) (rest ∙ same))

pub grown_kept : (room : ℕ) (x y : Keeping) (m : Memory) (id : ObjectId) → x.state.cache.grown ≡ m.grown ++ id ∷ [] → m ≡ without_grown x.state.cache → RepeatsOn (KeepsRun id room) 16386 true (record x { state = with_memory m x.state }) y → KeepsGrown room x y
grown_kept room x y m id last rest runs = record {
  id = id;
  last = last ∙ ap (λ (n : Memory). n.grown ++ id ∷ []) rest;
  runs = subst (λ (n : Memory). RepeatsOn (KeepsRun id room) 16386 true (record x { state = with_memory n x.state }) y) rest runs;
}
