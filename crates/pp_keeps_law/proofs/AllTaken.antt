-- Each outdated name, from the last.
use Rattle.std.proofs.Common.{◌≡◌, refl, sym, subst, ap, ◌∙◌, ◌≤◌, ℕ, zero, suc, ◌+◌, Bool, true, false, List, [], ◌∷◌, length, length-append, Option, Some, None, Result, arith}
use Rattle.pp_keeping.specs.Keeping.{Keeping as Kept, Repeats, RepeatsTo, TakesName, TakesNext, all_but_last, without_name}
use Rattle.pp_keeping.specs.Kept.{Notes, Outside, TakesAway, Withdraws, key_under, unkept_of}
use Rattle.pp_law.specs.Lists.{Bytes}
use Rattle.pp_state.specs.declared.state.State.{State as Turn}
use Rattle.pp_store.specs.Kept.{Kept as KeptRow, KeptMap, kept_of}
use Rattle.pp_world.specs.declared.disk.DiskFault.{DiskFault}
use Rattle.pp_world.specs.declared.happening.Happening.TheVariants.{Noted}
use Rattle.pp_world.specs.declared.note.Remark.TheVariants.{Gone}
use Rattle.pp_keeps_law.proofs.Due.{IsSameButKept, fewer_withdrawn, unkept_of_same}
use Rattle.pp_keeps_law.proofs.Joining.{LeadsWith, joined, nothing_more, with_known}
use Rattle.pp_keeps_law.proofs.Taking.{takings_lead_on}
use Rattle.pp_keeps_law.specs.All.{IsSameBody}
use Rattle.pp_keeps_law.specs.Keeps.{AddsTo}

-- what is so behind one, or behind several
pub record HasTaken (x y : Kept) : Type 0 where
  pub same : IsSameBody x.state y.state
  pub grown : y.state.cache.grown ≡ x.state.cache.grown
  pub fewer : (key : Bytes) (k : KeptRow) → kept_of key y.outside.shelf ≡ Some k → kept_of key x.outside.shelf ≡ Some k

none_taken : (x : Kept) → HasTaken x x
none_taken x = record { same = record { run = refl; instances = refl; lives = refl; chunks = refl }; grown = refl; fewer = λ key k is. is }

pub same_then : (p q r : Turn) → IsSameBody p q → IsSameBody q r → IsSameBody p r
same_then p q r one two = record { run = two.run ∙ one.run; instances = two.instances ∙ one.instances; lives = two.lives ∙ one.lives; chunks = two.chunks ∙ one.chunks }

taken_then : (x m y : Kept) → HasTaken x m → HasTaken m y → HasTaken x y
taken_then x m y one two = record {
  same = same_then x.state m.state y.state one.same two.same;
  grown = two.grown ∙ one.grown;
  fewer = λ key k is. one.fewer key k (two.fewer key k is);
}

-- ---- one

fewer_away : (o : Option Bytes) (x y : Outside) → TakesAway o x y → (key : Bytes) (k : KeptRow) → kept_of key y.shelf ≡ Some k → kept_of key x.shelf ≡ Some k
fewer_away None x y still key k is = ap (λ (shelf : KeptMap). kept_of key shelf) (sym still.shelf) ∙ is
fewer_away (Some gone) x y takes key k is = by takes.noted takes.answer takes.notes takes.withdraws
  where
    by : (noted : Outside) (answer : Option (Result (Unit {0}) DiskFault)) → Notes (Noted (Gone gone) ∷ []) x noted → Withdraws gone answer noted y → kept_of key x.shelf ≡ Some k
    by noted None notes w = ap (λ (shelf : KeptMap). kept_of key shelf) (sym (w.still.shelf ∙ notes.shelf)) ∙ is
    by noted (Some r) notes w =
        ap (λ (shelf : KeptMap). kept_of key shelf) (sym notes.shelf)
        ∙ fewer_withdrawn r gone key noted.shelf k (ap (λ (shelf : KeptMap). kept_of key shelf) (sym w.map) ∙ is)

pub record HasTakenOne (x y : Kept) : Type 0 where
  pub taken : HasTaken x y
  pub names : y.state.cache.outdated ≡ all_but_last x.state.cache.outdated

one_taken : (x y : Kept) → TakesName x y → HasTakenOne x y
one_taken x y tn =
    let same : IsSameButKept (without_name x.state.cache) (unkept_of (key_under tn.name x.outside.shelf) (without_name x.state.cache)) = unkept_of_same (key_under tn.name x.outside.shelf) (without_name x.state.cache) in
    record {
      taken = record {
        same = record {
          run = ap (λ (p : Turn). p.run) tn.state;
          instances = ap (λ (p : Turn). p.cache.instances) tn.state ∙ same.instances;
          lives = ap (λ (p : Turn). p.cache.lives) tn.state ∙ same.lives;
          chunks = ap (λ (p : Turn). p.cache.chunks) tn.state ∙ same.chunks;
        };
        grown = ap (λ (p : Turn). p.cache.grown) tn.state ∙ same.grown;
        fewer = fewer_away (key_under tn.name x.outside.shelf) x.outside y.outside tn.takes;
      };
      names = ap (λ (p : Turn). p.cache.outdated) tn.state ∙ same.outdated;
    }

-- ---- all

pub record AllTaken (x y : Kept) : Type 0 where
  pub adds : AddsTo x y (LeadsWith (Unit {0}) (Unit {0}) x y)
  pub taken : HasTaken x y
  pub none : y.state.cache.outdated ≡ []

abbrev Left : Bool → ℕ → Kept → Type 0
Left true n x = length x.state.cache.outdated ≤ n
Left false n x = x.state.cache.outdated ≡ []

no_name : (names : List Bytes) → length names ≤ 0 → names ≡ []
no_name [] few = refl
no_name (name ∷ names) few = absurd (omega (arith, few))

stopped : (x : Kept) → x.state.cache.outdated ≡ [] → AllTaken x x
stopped x none = record { adds = nothing_more (Unit {0}) (Unit {0}) x (λ number s stands f. tt); taken = none_taken x; none = none }

pub all_taken : (n : ℕ) (goes : Bool) (x y : Kept) → Repeats TakesNext n goes x y → Left goes n x → AllTaken x y
unfolding RepeatsTo
all_taken zero true x y is few = subst (AllTaken x) (sym is) (stopped x (no_name x.state.cache.outdated few))
all_taken zero false x y is none = subst (AllTaken x) (sym is) (stopped x none)
all_taken (suc n) false x y is none = subst (AllTaken x) (sym is) (stopped x none)
all_taken (suc n) true x y (next, false, step, more) few =
    let rest : AllTaken next y = all_taken n false next y more (ap (λ (z : Kept). z.state.cache.outdated) step.1 ∙ step.0) in
    subst (λ (z : Kept). AllTaken z y) step.1 rest
all_taken (suc n) true x y (next, true, step, more) few =
    let one : HasTakenOne x next = one_taken x next step in
    let fewer : length next.state.cache.outdated ≤ n = shorter (all_but_last x.state.cache.outdated) (ap (λ (ns : List Bytes). length ns) step.last ∙ length-append (all_but_last x.state.cache.outdated) (step.name ∷ [])) one.names in
    let rest : AllTaken next y = all_taken n true next y more fewer in
    record {
      adds = joined (Unit {0}) (Unit {0}) (Unit {0}) x next y (with_known (Unit {0}) (Unit {0}) x next (λ number s stands f. tt) (takings_lead_on x next step)) rest.adds;
      taken = taken_then x next y one.taken rest.taken;
      none = rest.none;
    }
  where
    shorter : (names : List Bytes) → length x.state.cache.outdated ≡ length names + 1 → {later : List Bytes} → later ≡ names → length later ≤ n
    shorter names size {later} is = omega (arith, few, size, ap (λ (ns : List Bytes). length ns) is)
