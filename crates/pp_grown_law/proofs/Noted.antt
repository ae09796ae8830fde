-- Behind all that is taken away and kept nothing is noted any more.
use Rattle.std.proofs.Common.{◌≡◌, sym, subst, ap, ◌∙◌, ℕ, zero, suc, Bool, true, false, [], length, arith}
use Rattle.pp_keeping.specs.Keeping.{GrownNext, KeepsRun, Keeping as Kept, RepeatsOn, RepeatsTo, ends_astray}
use Rattle.pp_keeps_law.proofs.AllTaken.{AllTaken, all_taken}
use Rattle.pp_objects.specs.declared.id.ObjectId.{ObjectId}
use Rattle.pp_grown_law.proofs.Repeats.{all_so}
use Rattle.pp_grown_law.proofs.Staying.{run_stays}
use Rattle.pp_grown_law.specs.Noted.{NothingIsNoted}

-- ---- no run notes a name

abbrev HasNoName : Kept → Type 0
HasNoName x = x.state.cache.outdated ≡ []

ends_so : (goes : Bool) (x : Kept) → HasNoName x → HasNoName (ends_astray goes x)
ends_so true x none = none
ends_so false x none = none

module _ (room : ℕ) where
  run_so : (id : ObjectId) (x y : Kept) (goes : Bool) → KeepsRun id room x y goes → HasNoName x → HasNoName y
  run_so id x y goes kr none = (run_stays id room x y goes kr).names ∙ none

  grown_so : (x y : Kept) (goes : Bool) → GrownNext room x y goes → HasNoName x → HasNoName y
  grown_so x y false step none = subst HasNoName (sym step.1) none
  grown_so x y true step none = all_so HasNoName ends_astray (KeepsRun step.id room) ends_so (run_so step.id) 16386 true _ y step.runs none

-- ---- what grew is forgotten, or this life goes astray

abbrev Left : Bool → Kept → Type 0
Left true x = Unit {0}
Left false x = x.state.cache.grown ≡ []

module _ (room : ℕ) where
  none_grown : (n : ℕ) (goes : Bool) (x y : Kept) → RepeatsOn (GrownNext room) n goes x y → Left goes x → y.state.is_astray ≡ false → y.state.cache.grown ≡ []
  unfolding RepeatsTo
  none_grown zero true x y is left well = absurd (let both : true ≡ false = ap (λ (z : Kept). z.state.is_astray) (sym is) ∙ well in cc both)
  none_grown zero false x y is left well = ap (λ (z : Kept). z.state.cache.grown) is ∙ left
  none_grown (suc n) false x y is left well = ap (λ (z : Kept). z.state.cache.grown) is ∙ left
  none_grown (suc n) true x y (next, false, step, more) left well = none_grown n false next y more (ap (λ (z : Kept). z.state.cache.grown) step.1 ∙ step.0) well
  none_grown (suc n) true x y (next, true, step, more) left well = none_grown n true next y more tt well

pub nothing_is_noted : NothingIsNoted
nothing_is_noted room x y all well =
    let taken : AllTaken x all.between = all_taken (length x.state.cache.outdated) true x all.between all.takes (omega arith) in
    record {
      outdated = all_so HasNoName ends_astray (GrownNext room) ends_so (grown_so room) 17 true all.between y all.keeps taken.none;
      grown = none_grown room 17 true all.between y all.keeps tt well;
    }
