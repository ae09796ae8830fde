-- What the log gains where a folder is opened.
use Rattle.std.proofs.Common.{◌≡◌, ◌≤◌, refl, ◌⊎◌, inl, inr, Bool, true, ◌&&◌, List, [], ◌∷◌, ◌++◌, ℕ, Option, Some, Result, Ok, Err, sym, ◌∙◌, ap, subst, append_assoc}
use Rattle.std.specs.List.{list_all}
use Rattle.std.proofs.lemmas.List.Sums.{fold-append}
use Rattle.std.proofs.lemmas.List.Folds.{list_all-append}
use Rattle.pp_world.specs.declared.happening.Happening.TheVariants.{Listed, Rooted, Woke}
use Rattle.pp_world.specs.Disk.{Bytes, image_after, image_of}
use Rattle.pp_world.specs.Files.{Files, file_of}
use Rattle.pp_world.specs.Log.{Appends, Log, Told}
use Rattle.pp_gate.proofs.Views.{view_of-append}
use Rattle.pp_shelf.specs.Steady.{IsOnDisk, is_on_disk}
use Rattle.pp_gate.specs.Files.{Sent}
use Rattle.pp_recover.specs.declared.faults.RecoverFault.{RecoverFault}
use Rattle.pp_recover.specs.declared.faults.RecoverFault.TheVariants.{DiskFault, OutOfMemory}
use Rattle.pp_recover.proofs.CountLemmas.{counts_then, none_more}
use Rattle.pp_recover.specs.Closing.{Tends}
use Rattle.pp_recover.specs.Faults.{CountsFailures}
use Rattle.pp_recover.specs.Looks.{Extends}
use Rattle.pp_recover.specs.Opening.{AllSent, IsFresh, Opens, Tended, TendsEach, TendsFirst}
use Rattle.pp_store.specs.Held.{Holds}
use Rattle.pp_store.specs.Kept.{KeptMap}
use Rattle.pp_shelf.specs.Opening.{MayBeListed, OpensAs, Recovers}
use Rattle.pp_shelf.proofs.GrowthLemmas.{ran_on_disk}

both_true : (a b : Bool) → a ≡ true → b ≡ true → (a && b) ≡ true
both_true a b one two = ap (λ (t : Bool). t && b) one ∙ two

tends_on_disk : (name : Bytes) (file : Option Bytes) (ok : Bool) (hs : Log) → Tends name file ok hs → IsOnDisk hs
tends_on_disk name file ok hs (inl unread) = ap (list_all is_on_disk) unread.1
tends_on_disk name file ok hs (inr ran) = ran_on_disk _ ok hs ran

each_on_disk : (files : Files) (ts : List Tended) (hs : Log) → TendsEach files ts hs → IsOnDisk hs
each_on_disk files [] hs none = ap (list_all is_on_disk) none
each_on_disk files (t ∷ ts) hs (one, rest, is, tends, more) =
    ap (list_all is_on_disk) is ∙ list_all-append is_on_disk one rest
    ∙ both_true _ _ (tends_on_disk t.name (file_of t.name files) t.sound one tends) (each_on_disk files ts rest more)

first_on_disk : (files : Files) (count : ℕ) (hs : Log) → TendsFirst files count hs → IsOnDisk hs
first_on_disk files count hs first = each_on_disk files first.0 hs first.2

-- a life that chose its folder has changed nothing
fresh_rooted : (files : Files) (k : Log) (folder : Bytes) → IsFresh files k → IsFresh files (k ++ Rooted folder ∷ [])
unfolding image_of
fresh_rooted files k folder fresh = record {
  image = fold-append image_after (Some []) k (Rooted folder ∷ []) ∙ fresh.image;
  views = λ name. view_of-append name k (Rooted folder ∷ []) ∙ fresh.views name;
}

pub fresh_behind : {old mid : Option Log} (folder : Bytes) → Told old (λ l. (files : Files) × IsFresh files l) → Appends old mid (λ l. Rooted folder) → Told mid (λ l. (files : Files) × IsFresh files l)
fresh_behind folder told call = record {
  at = λ l is.
      let w = call.was l is in
      let fresh = told.at w.0 w.1 in
      (fresh.0, subst (IsFresh fresh.0) (sym w.2) (fresh_rooted fresh.0 w.0 folder fresh.1));
}

-- the folder was opened behind a log that was fresh
record Behind (old : Option Log) (folder : Bytes) (hs l : Log) (P : Files → Log → Type 0) : Type 0 where
  before : Log
  was : old ≡ Some before
  is : l ≡ before ++ (Rooted folder ∷ hs)
  files : Files
  holds : P files (before ++ Rooted folder ∷ [])

behind : {old mid new : Option Log} (folder : Bytes) (P : Files → Log → Log → Type 0) → Told old (λ l. (files : Files) × IsFresh files l) → Appends old mid (λ l. Rooted folder)
    → Extends mid new (λ before hs. (files : Files) → IsFresh files before → P files before hs) → (l : Log) → new ≡ Some l → (hs : Log) × Behind old folder hs l (λ files before. P files before hs)
behind folder P told call opened l is =
    let w = opened.was l is in
    let earlier = call.was w.0 w.2 in
    let fresh = told.at earlier.0 earlier.1 in (
      w.1,
      record {
        before = earlier.0;
        was = earlier.1;
        is = w.3 ∙ ap (λ (b : Log). b ++ w.1) earlier.2 ∙ append_assoc earlier.0 (Rooted folder ∷ []) w.1;
        files = fresh.0;
        holds = subst (λ (b : Log). P fresh.0 b w.1) earlier.2 (w.4 fresh.0 (subst (IsFresh fresh.0) (sym earlier.2) (fresh_rooted fresh.0 earlier.0 folder fresh.1)));
      },
    )

pub opens_as : {old mid new : Option Log} (folder : Bytes) (result : Result KeptMap RecoverFault) → Told old (λ l. (files : Files) × IsFresh files l) → Appends old mid (λ l. Rooted folder)
    → Extends mid new (λ before hs. (files : Files) → IsFresh files before → Opens result files before hs) → OpensAs folder result old new
opens_as folder (Ok store) told call opened = record {
  was = λ l is.
      let w = behind folder (Opens (Ok store)) told call opened l is in
      let listed = w.1.holds.0 in
      (w.1.before, w.1.was, (listed.0, w.1.is ∙ ap (λ (hs : Log). w.1.before ++ (Rooted folder ∷ hs)) listed.1, first_on_disk w.1.files _ listed.0 listed.2));
}
opens_as folder (Err DiskFault) told call opened = record {
  was = λ l is.
      let w = behind folder (Opens (Err DiskFault)) told call opened l is in
      (w.1.before, w.1.was, w.1.is ∙ ap (λ (hs : Log). w.1.before ++ (Rooted folder ∷ hs)) w.1.holds);
}
opens_as folder (Err OutOfMemory) told call opened = record {
  was = λ l is.
      let w = behind folder (Opens (Err OutOfMemory)) told call opened l is in
      (w.1.before, w.1.was, (w.0, w.1.is, listed_maybe w.1.files w.0 w.1.holds));
}
  where
    listed_maybe : (files : Files) (hs : Log) → (hs ≡ []) ⊎ ((rest : Log) × (hs ≡ Listed true ∷ rest) × ((count : ℕ) × TendsFirst files count rest)) → MayBeListed hs
    listed_maybe files hs (inl none) = inl none
    listed_maybe files hs (inr listed) = inr (listed.0, listed.1, first_on_disk files listed.2.0 listed.0 listed.2.1)

pub holds_behind : {old mid new : Option Log} (folder : Bytes) (sent : Sent) (store : KeptMap) → Told old (λ l. (files : Files) × IsFresh files l) → Told old (λ l. (files : Files) → IsFresh files l → AllSent sent files) → Appends old mid (λ l. Rooted folder)
    → Extends mid new (λ before hs. (files : Files) → IsFresh files before → (by : Sent) → AllSent by files → Holds by store (before ++ hs)) → Told new (Holds sent store)
holds_behind folder sent store told all call opened = record {
  at = λ l is.
      let w = opened.was l is in
      let earlier = call.was w.0 w.2 in
      let fresh = told.at earlier.0 earlier.1 in
      let later = subst (IsFresh fresh.0) (sym earlier.2) (fresh_rooted fresh.0 earlier.0 folder fresh.1) in
      subst (Holds sent store) (sym w.3) (w.4 fresh.0 later sent (all.at earlier.0 earlier.1 fresh.0 fresh.1));
}

-- and the shelf is the store that recovery makes
pub recovers_behind : {old mid new : Option Log} (folder : Bytes) (result : Result KeptMap RecoverFault) → Appends old mid (λ l. Rooted folder) → Extends mid new (λ before hs. (files : Files) → IsFresh files before → Opens result files before hs)
    → Extends old new (λ before hs. (files : Files) → IsFresh files before → Recovers folder result files before hs)
recovers_behind folder result call opened = record {
  was = λ l is.
      let w = opened.was l is in
      let earlier = call.was w.0 w.2 in (
        earlier.0,
        Rooted folder ∷ w.1,
        earlier.1,
        w.3 ∙ ap (λ (b : Log). b ++ w.1) earlier.2 ∙ append_assoc earlier.0 (Rooted folder ∷ []) w.1,
        λ files fresh. (w.1, refl, subst (λ (b : Log). Opens result files b w.1) earlier.2 (w.4 files (subst (IsFresh files) (sym earlier.2) (fresh_rooted files earlier.0 folder fresh)))),
      );
}

-- where each failure is counted
pub counts_behind : {old mid new : Option Log} (folder : Bytes) (before between now : ℕ) → Appends old mid (λ l. Rooted folder) → before ≤ between → Extends mid new (CountsFailures between now) → Extends old new (CountsFailures before now)
counts_behind {old} {mid} {new} folder before between now call more opened = counts_then old mid new before between now rooted opened
  where
    rooted : Extends old mid (CountsFailures before between)
    rooted = record { was = λ l is. let w = call.was l is in (w.0, Rooted folder ∷ [], w.1, w.2, none_more before 0 between refl more) }

-- ---- a life that has begun

fresh_woken : (k : Log) (files : Files) → IsFresh files (k ++ Woke files ∷ [])
unfolding image_of
fresh_woken k files = record {
  image = fold-append image_after (Some []) k (Woke files ∷ []);
  views = λ name. view_of-append name k (Woke files ∷ []);
}

-- has changed nothing
pub fresh_life : {log : Option Log} (k : Log) (files : Files) → log ≡ Some (k ++ Woke files ∷ []) → Told log (λ l. (f : Files) × IsFresh f l)
fresh_life k files is = record { at = λ l also. (files, subst (IsFresh files) (same_log _ l (sym is ∙ also)) (fresh_woken k files)) }
  where
    same_log : (a b : Log) → Some a ≡ Some b → a ≡ b
    same_log a b both = cc

pub fresh_first : {log : Option Log} (files : Files) → log ≡ Some (Woke files ∷ []) → Told log (λ l. (f : Files) × IsFresh f l)
fresh_first files is = fresh_life [] files is
