-- Each failure as a folder is opened is counted.
use Rattle.std.proofs.Common.{◌≡◌, ◌≤◌, ◌<◌, inl, inr, ℕ, ◌+◌, true, false, List, [], ◌∷◌, Option, Some, None, refl, sym, ◌∙◌, ap, subst, arith}
use Rattle.std.specs.Prelude.{Result, Ok, Err, OnErr, count_by}
use Rattle.std.proofs.lemmas.List.{append-nil}
use Rattle.pp_world.specs.declared.disk.DiskFault.{DiskFault}
use Rattle.pp_world.specs.declared.disk.NamesFault.{NamesFault}
use Rattle.pp_world.specs.declared.disk.NamesFault.TheVariants.{Disk as FolderFault, OutOfMemory}
use Rattle.pp_world.specs.declared.op.DiskOp.{DiskOp}
use Rattle.pp_world.specs.Disk.{Bytes, NamesCause, Stands, at_rest, names_happenings}
use Rattle.pp_world.specs.Log.{AppendsAll, Log, Rises, Told}
use Rattle.pp_links.specs.Failures.{fails}
use Rattle.pp_links.proofs.FailureLemmas.{failures-append}
use Rattle.pp_gate.specs.Runs.{Ran}
use Rattle.pp_recover.specs.Closing.{Tends, closing_of}
use Rattle.pp_recover.specs.Faults.{CountsFailures}
use Rattle.pp_recover.specs.Looks.{Examines, Extends}
use Rattle.pp_recover.proofs.LookLemmas.{extends_then}
use Rattle.pp_store.specs.Kept.{Kept}

-- ---- how many there are

ran_all : (ops : List DiskOp) (hs : Log) → Ran ops true hs → count_by fails hs ≡ 0
ran_all [] hs ran = ap (count_by fails) ran.1
ran_all (op ∷ ops) hs (inl failed) = absurd (cc)
ran_all (op ∷ ops) hs (inr ran) = ap (count_by fails) ran.1 ∙ ran_all ops ran.0 ran.2

ran_short : (ops : List DiskOp) (hs : Log) → Ran ops false hs → count_by fails hs ≡ 1
ran_short [] hs ran = absurd (cc)
ran_short (op ∷ ops) hs (inl failed) = ap (count_by fails) failed.1
ran_short (op ∷ ops) hs (inr ran) = ap (count_by fails) ran.1 ∙ ran_short ops ran.0 ran.2

tends_all : (name : Bytes) (file : Option Bytes) (hs : Log) → Tends name file true hs → count_by fails hs ≡ 0
tends_all name file hs (inl look) = absurd (cc)
tends_all name file hs (inr ran) = ran_all (closing_of name file) hs ran

tends_short : (name : Bytes) (file : Option Bytes) (hs : Log) → Tends name file false hs → count_by fails hs ≡ 1
tends_short name file hs (inl look) = ap (count_by fails) look.1
tends_short name file hs (inr ran) = ran_short (closing_of name file) hs ran

-- ---- each was counted

pub none_more : (before n now : ℕ) → n ≡ 0 → before ≤ now → before + n ≤ now
none_more before n now none more = omega (arith, none, more)

one_more : (before n now : ℕ) → n ≡ 1 → before < now → before + n ≤ now
one_more before n now one more = omega (arith, one, more)

both_more : (before n mid m now : ℕ) → before + n ≤ mid → mid + m ≤ now → before + (n + m) ≤ now
both_more before n mid m now first second = omega (arith, first, second)

rose : {log : Option Log} (l : Log) (before now : ℕ) → log ≡ Some l → Rises log before now → before < now
rose l before now is (inl less) = less
rose l before now is (inr untold) = absurd (let bad : None ≡ Some l = sym untold.0 ∙ is in cc)

-- nothing happened
pub counts_nothing : (log : Option Log) (count : ℕ) → Extends log log (CountsFailures count count)
counts_nothing log count = record { was = λ l is. (l, [], is, sym (append-nil l), none_more count 0 count refl (omega (arith))) }

-- the folder was listed, or could not be
pub counts_listed : {A : Type 0} (old new : Option Log) (before now : ℕ) (r : Result A NamesFault) → AppendsAll old new (λ l. names_happenings r) → NamesCause new before now r → before ≤ now → Extends old new (CountsFailures before now)
counts_listed old new before now (Ok names) call cause more = record { was = λ l is. let w = call.was l is in (w.0, _, w.1, w.2, none_more before _ now refl more) }
counts_listed old new before now (Err FolderFault) call cause more = record { was = λ l is. let w = call.was l is in (w.0, _, w.1, w.2, one_more before _ now refl (rose l before now is cause)) }
counts_listed old new before now (Err OutOfMemory) call cause more = record { was = λ l is. let w = call.was l is in (w.0, _, w.1, w.2, none_more before _ now refl more) }

-- a name was attended to
pub counts_examined : {A : Type 0} (shown : A → Kept) (old new : Option Log) (name : Bytes) (before now : ℕ) (r : Result (Option A) DiskFault) → Told old (λ l. (file : Option Bytes) × Stands name l (at_rest file))
    → Extends old new (Examines shown name r) → OnErr r (Rises new before now) → before ≤ now → Extends old new (CountsFailures before now)
counts_examined shown old new name before now (Ok found) stands examines cause more = record {
  was = λ l is.
      let w = examines.was l is in
      let file = stands.at w.0 w.2 in
      (w.0, w.1, w.2, w.3, none_more before _ now (tends_all name file.0 w.1 (w.4 file.0 file.1).1) more);
}
counts_examined shown old new name before now (Err fault) stands examines cause more = record {
  was = λ l is.
      let w = examines.was l is in
      let file = stands.at w.0 w.2 in
      (w.0, w.1, w.2, w.3, one_more before _ now (tends_short name file.0 w.1 (w.4 file.0 file.1)) (rose l before now is cause));
}

-- one behind the other
pub counts_then : (old mid new : Option Log) (before between now : ℕ) → Extends old mid (CountsFailures before between) → Extends mid new (CountsFailures between now) → Extends old new (CountsFailures before now)
counts_then old mid new before between now first second = extends_then old mid new (CountsFailures before between) (CountsFailures between now) (CountsFailures before now) first second
    (λ k a b one two. subst (λ (n : ℕ). before + n ≤ now) (sym (failures-append a b)) (both_more before (count_by fails a) between (count_by fails b) now one two))
