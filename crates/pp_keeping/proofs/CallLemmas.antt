-- What a call of the disk leaves, and what is noted before it and behind.
use Rattle.std.proofs.Common.{◌≡◌, ◌≤◌, ◌+◌, ◌-◌, ◌↔◌, ℕ, Bool, true, false, cond, List, Option, Some, None, Result, IfNone, IfSome, IsNone, IsSome, IsSomeAnd, length, drop, refl, sym, subst, subst₂, arith, length-drop}
use Rattle.pp_entry.specs.Entries.{Row}
use Rattle.pp_entry.specs.Texts.{body_at}
use Rattle.pp_keeping.specs.Kept.{IsStill, Outside}
use Rattle.pp_keeping.specs.Runs.{Drafts, IsIdle, KeepsBytes, KeepsLaid, KeepsNext, KeepsNextOf, KeepsPlanned, KeepsRow, bytes_for, entry_in, entry_of, plan_of}
use Rattle.pp_keeping.specs.declared.plan.Plan.{Plan}
use Rattle.pp_keeping.specs.declared.run.Outcome.{Outcome}
use Rattle.pp_objects.specs.Instances.{Instance, in_slot, is_there}
use Rattle.pp_objects.specs.Views.{ShowsRow}
use Rattle.pp_objects.specs.declared.id.ObjectId.{ObjectId}
use Rattle.pp_objects.specs.declared.objects.RowView.{RowView}
use Rattle.pp_shelf.specs.Given.{MayBeDrafted}
use Rattle.pp_state.specs.declared.state.State.{State}
use Rattle.pp_store.specs.Answers.{Answers, KeepCause, RunsKeep, refusal_of}
use Rattle.pp_store.specs.Changes.{kept_after}
use Rattle.pp_store.specs.declared.faults.KeepFault.{KeepFault}

-- where nothing was done
pub still_then : {A : Type 0} (answer : Option A) (x y : Outside) → IfNone answer (y.shelf ≡ x.shelf) → IfNone answer (y.log ≡ x.log) → x.faults ≤ y.faults → IfNone answer (IsStill x y)
still_then None x y shelf told count = record { shelf = shelf; told = told; count = count }
still_then (Some r) x y shelf told count = tt

-- what stands behind the front of the room is kept of the body
pub drafts_from : (entry : Row) (room : List ℕ) (answer : Option (Result (Unit {0}) KeepFault)) (x y : Outside) → body_at entry.version.length ≤ length room → (IsSome answer ↔ MayBeDrafted x.shelf entry (length room)) → IfNone answer (IsStill x y)
    → IfSome answer (λ r. Answers (refusal_of entry x.shelf) r) → IfSome answer (λ r. y.shelf ≡ kept_after r entry (length room - body_at entry.version.length) x.shelf)
    → IfSome answer (λ r. RunsKeep x.log y.log entry (drop (body_at entry.version.length) room) r) → IfSome answer (λ r. KeepCause y.log x.faults y.faults r) → x.faults ≤ y.faults
    → Drafts entry (drop (body_at entry.version.length) room) answer x y
drafts_from entry room answer x y reaches answered still refused map ops cause count =
    let len : length (drop (body_at entry.version.length) room) ≡ length room - body_at entry.version.length = length-drop (body_at entry.version.length) room in
    let all : length room ≡ body_at entry.version.length + length (drop (body_at entry.version.length) room) = omega (arith, len, reaches) in
    record {
      answered = subst (λ (n : ℕ). IsSome answer ↔ MayBeDrafted x.shelf entry n) all answered;
      still = still;
      refused = refused;
      map = subst (λ (n : ℕ). IfSome answer (λ r. y.shelf ≡ kept_after r entry n x.shelf)) (sym len) map;
      ops = ops;
      cause = cause;
      count = count;
    }

-- the entry of a row is that of its instance
pub entry_same : (view : RowView) (i : Instance) → ShowsRow view i → entry_in view ≡ entry_of i
entry_same view i shows = let k = shows.key in let v = shows.version in let f = shows.fields in let t = shows.times in cc

-- ---- the next run of an instance

same_count : (n : ℕ) → n ≤ n
same_count n = omega arith

idle : (x : Outside) → IsIdle x x None
idle x = record { still = record { shelf = refl; told = refl; count = same_count x.faults }; none = refl }

-- it is gone
pub none_there : (s : State) (id : ObjectId) (room : ℕ) (x : Outside) → is_there id s.cache.instances ≡ false → KeepsNext s id room x x None
none_there s id room x gone = subst (λ (b : Bool). KeepsNextOf (cond b (in_slot id.slot s.cache.instances) None) s id room x x None) (sym gone) (idle x)

-- as its row is viewed
pub row_there : (s : State) (id : ObjectId) (room : ℕ) (view : RowView) (x y : Outside) (outcome : Option Outcome) → (IsNone (Some view) ↔ (is_there id s.cache.instances ≡ false)) → IsSomeAnd (in_slot id.slot s.cache.instances) (ShowsRow view)
    → KeepsRow s id room view.retired (entry_in view) x y outcome → KeepsNext s id room x y outcome
row_there s id room view x y outcome there shows keeps = by (is_there id s.cache.instances) refl (in_slot id.slot s.cache.instances) shows
  where
    by : (b : Bool) → is_there id s.cache.instances ≡ b → (o : Option Instance) → IsSomeAnd o (ShowsRow view) → KeepsNextOf (cond b o None) s id room x y outcome
    by false gone o shows = absurd (let bad : true ≡ false = there.1 gone in cc)
    by true is None shows = absurd shows
    by true is (Some i) shows = subst₂ (λ (b : Bool) (e : Row). KeepsRow s id room b e x y outcome) shows.retired (entry_same view i shows) keeps

-- it is there, where it has a row
pub there_so : (id : ObjectId) (is : List Instance) (view : RowView) → (IsNone (Some view) ↔ (is_there id is ≡ false)) → is_there id is ≡ true
there_so id is view there = by (is_there id is) refl
  where
    by : (b : Bool) → is_there id is ≡ b → b ≡ true
    by true so = refl
    by false gone = absurd (let bad : true ≡ false = there.1 gone in cc)

-- nothing of it could be laid out
pub not_laid : (s : State) (id : ObjectId) (room : ℕ) (is_retired : Bool) (entry : Row) (x : Outside) (plan : Plan) → plan ≡ plan_of s id is_retired entry x.shelf → bytes_for plan entry.version.length room id s.cache ≡ None → KeepsRow s id room is_retired entry x x None
not_laid s id room is_retired entry x plan is none =
    subst (λ (p : Plan). KeepsPlanned p s id room entry x x None) is (subst (λ (o : Option (List ℕ)). KeepsLaid plan o entry x x None) (sym none) (idle x))

-- these bytes were laid out
pub laid_then : (s : State) (id : ObjectId) (room : ℕ) (is_retired : Bool) (entry : Row) (x y : Outside) (plan : Plan) (bytes : List ℕ) (outcome : Option Outcome) → plan ≡ plan_of s id is_retired entry x.shelf → bytes_for plan entry.version.length room id s.cache ≡ Some bytes
    → KeepsBytes plan bytes entry x y outcome → KeepsRow s id room is_retired entry x y outcome
laid_then s id room is_retired entry x y plan bytes outcome is laid keeps =
    subst (λ (p : Plan). KeepsPlanned p s id room entry x y outcome) is (subst (λ (o : Option (List ℕ)). KeepsLaid plan o entry x y outcome) (sym laid) keeps)
