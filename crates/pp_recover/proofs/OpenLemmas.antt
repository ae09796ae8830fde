-- A folder that was listed, and its names attended to.
use Rattle.std.proofs.Common.{◌≡◌, inr, ℕ, zero, suc, Bool, true, false, List, [], ◌∷◌, ◌++◌, length, take, Option, Some, refl, sym, ◌∙◌, ap, subst, arith, append_assoc}
use Rattle.std.specs.Prelude.{map, IsTrue, Result, Ok, Err, IsErr, IsErrAnd}
use Rattle.std.proofs.lemmas.List.{append-nil, take_all}
use Rattle.std.proofs.lemmas.List.Sums.{fold-append}
use Rattle.pp_world.specs.declared.disk.NamesFault.{NamesFault}
use Rattle.pp_world.specs.declared.disk.NamesFault.TheVariants.{Disk as FolderFault, OutOfMemory as NoNames}
use Rattle.pp_world.specs.declared.happening.Happening.{Happening}
use Rattle.pp_world.specs.declared.happening.Happening.TheVariants.{Listed, Rooted, Woke}
use Rattle.pp_world.specs.Files.{Files, file_of}
use Rattle.pp_world.specs.Log.{Log, Told, AppendsAll}
use Rattle.pp_world.specs.Disk.{Bytes, View, at_rest, image_of, image_after, names_in, names_happenings, view_of, is_rising}
use Rattle.pp_gate.specs.Runs.{EachMoment}
use Rattle.pp_gate.proofs.Views.{view_from, view_of-append}
use Rattle.pp_gate.proofs.Ops.{AllLeft}
use Rattle.pp_gate.specs.Files.{Sent}
use Rattle.pp_store.specs.Held.{Holds}
use Rattle.pp_store.specs.Kept.{KeptMap}
use Rattle.pp_recover.specs.declared.faults.RecoverFault.{RecoverFault}
use Rattle.pp_recover.specs.declared.faults.RecoverFault.TheVariants.{OutOfMemory}
use Rattle.pp_recover.specs.Looks.{Extends}
use Rattle.pp_recover.specs.Opening.{IsFresh, SameEntries, Tended, name_in, TendsEach, TendsNames, TendsFirst, ListsAnd, Opens, AllSent, store_in}
use Rattle.pp_recover.proofs.LookLemmas.{extends_then, extends_map}
use Rattle.pp_recover.proofs.NameLemmas.{NotIn, Distinct, distinct}
use Rattle.pp_recover.proofs.ShutLemmas.{Stays}
use Rattle.pp_recover.proofs.TendLemmas.{at_rest_stays}
use Rattle.pp_recover.proofs.EachLemmas.{each_stays}
use Rattle.pp_recover.proofs.FinalLemmas.{store_is, store_holds}

-- to list a folder changes nothing
pub fresh_listed : (files : Files) (k : Log) (b : Bool) → IsFresh files k → IsFresh files (k ++ Listed b ∷ [])
unfolding image_of
fresh_listed files k b fresh = record {
  image = fold-append image_after (Some []) k (Listed b ∷ []) ∙ fresh.image;
  views = λ name. view_of-append name k (Listed b ∷ []) ∙ fresh.views name;
}

-- a life that has begun, and chose its folder, has changed nothing
pub fresh_woken : (k : Log) (files : Files) (folder : Bytes) → IsFresh files (k ++ Woke files ∷ Rooted folder ∷ [])
unfolding image_of
fresh_woken k files folder = record {
  image = fold-append image_after (Some []) k (Woke files ∷ Rooted folder ∷ []);
  views = λ name. view_of-append name k (Woke files ∷ Rooted folder ∷ []);
}

pub fresh_mid : (old mid : Option Log) → AppendsAll old mid (λ l. Listed true ∷ []) → Told old (λ l. (files : Files) × IsFresh files l) → Told mid (λ l. (files : Files) × IsFresh files l)
fresh_mid old mid call told = record {
  at = λ l is.
      let w = call.was l is in
      let fresh = told.at w.0 w.1 in
      (fresh.0, subst (IsFresh fresh.0) (sym w.2) (fresh_listed fresh.0 w.0 true fresh.1));
}

not_in_take : (name : Bytes) (ns : List Bytes) (k : ℕ) → NotIn name ns → NotIn name (take k ns)
not_in_take name ns zero all = tt
not_in_take name [] (suc k) all = tt
not_in_take name (n ∷ ns) (suc k) all = (all.0, not_in_take name ns k all.1)

distinct_take : (ns : List Bytes) (k : ℕ) → Distinct ns → Distinct (take k ns)
distinct_take ns zero all = tt
distinct_take [] (suc k) all = tt
distinct_take (n ∷ ns) (suc k) all = (not_in_take n ns k all.0, distinct_take ns k all.1)

-- ---- both calls
pub record Went (names : List Bytes) (done : Bool) (store : KeptMap) (files : Files) (k hs : Log) : Type 0 where
  pub rest : Log
  pub listed : hs ≡ Listed true ∷ rest
  pub fresh : IsFresh files (k ++ Listed true ∷ [])
  pub names_are : names ≡ names_in files
  pub tended : TendsNames files names done store rest

abbrev pub WentAll : List Bytes → Bool → KeptMap → Log → Log → Type 0
WentAll names done store k hs = (files : Files) → IsFresh files k → Went names done store files k hs

pub went : (old mid new : Option Log) (names : List Bytes) (done : Bool) (store : KeptMap) → AppendsAll old mid (λ l. Listed true ∷ []) → Told old (λ l. (files : Files) → image_of l ≡ Some files → names ≡ names_in files)
    → Extends mid new (λ before hs. (files : Files) → IsFresh files before → TendsNames files names done store hs) → Extends old new (WentAll names done store)
went old mid new names done store call gives tends = extends_then old mid new Lists (λ before hs. (files : Files) → IsFresh files before → TendsNames files names done store hs) (WentAll names done store)
    (record { was = λ l is. let w = call.was l is in (w.0, Listed true ∷ [], w.1, w.2, (refl, λ files fresh. (gives.at w.0 w.1) files fresh.image)) })
    tends
    (λ k a b first second files fresh.
    let mid_fresh = fresh_listed files k true fresh in
    record {
      rest = b;
      listed = ap (λ (l : Log). l ++ b) first.0;
      fresh = mid_fresh;
      names_are = first.1 files fresh;
      tended = second files (subst (λ (l : Log). IsFresh files (k ++ l)) (sym first.0) mid_fresh);
    })
  where
    Lists : Log → Log → Type 0
    Lists k hs = (hs ≡ Listed true ∷ []) × ((files : Files) → IsFresh files k → names ≡ names_in files)

log_is : (k hs rest : Log) → hs ≡ Listed true ∷ rest → (k ++ Listed true ∷ []) ++ rest ≡ k ++ hs
log_is k hs rest is = append_assoc k (Listed true ∷ []) rest ∙ ap (λ (l : Log). k ++ l) (sym is)

pub opens_ok : (old new : Option Log) (names : List Bytes) (store : KeptMap) → IsTrue (is_rising names) → Extends old new (WentAll names true store)
    → Extends old new (λ before hs. (files : Files) → IsFresh files before → ListsAnd (TendsFirst files (length (names_in files))) hs × (store ≡ store_in files (before ++ hs)))
opens_ok old new names store rising all = extends_map old new (WentAll names true store) _ all
    (λ k hs w files fresh.
    let had = w files fresh in
    let t = had.tended in
    let whole = t.4 refl in
    let apart : Distinct (map name_in t.1) = subst Distinct (sym whole.0) (distinct names rising) in (
      (had.rest, had.listed, (t.1, whole.0 ∙ had.names_are ∙ sym (take_all (length (names_in files)) (names_in files) (omega arith)), t.3)),
      whole.1 ∙ store_is files (k ++ Listed true ∷ []) t.1 had.rest (names_in files) had.fresh apart t.3 (whole.0 ∙ had.names_are) ∙ ap (store_in files) (log_is k hs had.rest had.listed),
    ))

pub holds_ok : (old new : Option Log) (names : List Bytes) (store : KeptMap) → IsTrue (is_rising names) → Extends old new (WentAll names true store)
    → Extends old new (λ before hs. (files : Files) → IsFresh files before → (sent : Sent) → AllSent sent files → Holds sent store (before ++ hs))
holds_ok old new names store rising all = extends_map old new (WentAll names true store) _ all
    (λ k hs w files fresh sent was_sent.
    let had = w files fresh in
    let t = had.tended in
    let whole = t.4 refl in
    let apart : Distinct (map name_in t.1) = subst Distinct (sym whole.0) (distinct names rising) in
    subst (λ (l : Log). Holds sent store l) (log_is k hs had.rest had.listed)
    (subst (λ (s : KeptMap). Holds sent s ((k ++ Listed true ∷ []) ++ had.rest)) (sym whole.1) (store_holds files sent (k ++ Listed true ∷ []) t.1 had.rest had.fresh apart t.3 was_sent)))

pub opens_front : (old new : Option Log) (names : List Bytes) (store : KeptMap) (done : Bool) (r : Result KeptMap RecoverFault) → IsErrAnd r (λ f. f ≡ OutOfMemory) → Extends old new (WentAll names done store)
    → Extends old new (λ before hs. (files : Files) → IsFresh files before → Opens r files before hs)
opens_front old new names store done (Ok s) failed all = absurd failed
opens_front old new names store done (Err f) failed all = subst (λ (e : RecoverFault). Extends old new (λ before hs. (files : Files) → IsFresh files before → Opens (Err e) files before hs)) (sym failed)
    (extends_map old new (WentAll names done store) _ all
    (λ k hs w files fresh.
    let had = w files fresh in
    let t = had.tended in
    inr (had.rest, had.listed, (t.0, (t.1, t.2 ∙ ap (take t.0) had.names_are, t.3)))))

-- ---- at each moment
pub data Happens (files : Files) (hs : Log) : Type 0 where
  nothing : hs ≡ [] → Happens files hs
  list_alone : (b : Bool) → hs ≡ Listed b ∷ [] → Happens files hs
  names_too : (rest : Log) (ts : List Tended) → hs ≡ Listed true ∷ rest → Distinct (map name_in ts) → TendsEach files ts rest → Happens files hs

happens_stays : (files : Files) (name : Bytes) (v : View) (hs p q : Log) → v.slot ≡ at_rest (file_of name files) ∷ [] → v.failed ≡ false → Happens files hs → hs ≡ p ++ q → AllLeft (Stays name (file_of name files)) (view_from name v p)
happens_stays files name v hs [] q slot sound happens split = at_rest_stays name (file_of name files) v slot
happens_stays files name v hs (h ∷ p) q slot sound (nothing is) split = absurd (cc)
happens_stays files name v hs (h ∷ []) q slot sound (list_alone b is) split =
    let first : Listed b ≡ h = cc in
    subst (λ (g : Happening). AllLeft (Stays name (file_of name files)) (view_from name v (g ∷ []))) first (at_rest_stays name (file_of name files) v slot)
happens_stays files name v hs (h ∷ g ∷ p) q slot sound (list_alone b is) split = absurd (cc)
happens_stays files name v hs (h ∷ p) q slot sound (names_too rest ts is apart each) split =
    let first : Listed true ≡ h = cc in
    let behind : rest ≡ p ++ q = cc in
    subst (λ (g : Happening). AllLeft (Stays name (file_of name files)) (view_from name v (g ∷ p))) first (each_stays files name ts v rest p q apart slot sound each behind)

cancel : (k a b : Log) → k ++ a ≡ k ++ b → a ≡ b
cancel [] a b is = is
cancel (h ∷ k) a b is = let rest : k ++ a ≡ k ++ b = cc in cancel k a b rest

-- whatever a crash leaves under a name is the entry that was there, with its bytes
abbrev pub AllStay : Log → Log → Type 0
AllStay before log = (files : Files) → IsFresh files before → (name : Bytes) → AllLeft (Stays name (file_of name files)) (view_of name log)

each_moment : (old new : Option Log) → Extends old new (λ before hs. (files : Files) → IsFresh files before → Happens files hs) → EachMoment old new AllStay
each_moment old new all = record {
  at = λ k hs was is. record { at = λ p q split files fresh name. by k hs p q was is split files fresh name };
}
  where
    by : (k hs p q : Log) → old ≡ Some k → new ≡ Some (k ++ hs) → hs ≡ p ++ q → (files : Files) → IsFresh files k → (name : Bytes) → AllLeft (Stays name (file_of name files)) (view_of name (k ++ p))
    by k hs p q was is split files fresh name =
        let w = all.was (k ++ hs) is in
        let same : w.0 ≡ k = cc in
        let hs_is : hs ≡ w.1 = cancel k hs w.1 (w.3 ∙ ap (λ (m : Log). m ++ w.1) same) in
        let happens : Happens files hs = subst (Happens files) (sym hs_is) (w.4 files (subst (IsFresh files) (sym same) fresh)) in
        subst (AllLeft (Stays name (file_of name files))) (sym (view_of-append name k p))
        (happens_stays files name (view_of name k) hs p q (ap (λ (v : View). v.slot) (fresh.views name)) (ap (λ (v : View). v.failed) (fresh.views name)) happens split)

pub went_moments : (old new : Option Log) (names : List Bytes) (done : Bool) (store : KeptMap) → IsTrue (is_rising names) → Extends old new (WentAll names done store) → EachMoment old new AllStay
went_moments old new names done store rising all = each_moment old new (extends_map old new (WentAll names done store) _ all
    (λ k hs w files fresh.
    let had = w files fresh in
    let t = had.tended in
    names_too had.rest t.1 had.listed (subst Distinct (sym t.2) (distinct_take names t.0 (distinct names rising))) t.3))

pub none_moments : (log : Option Log) → EachMoment log log AllStay
none_moments log = each_moment log log (record { was = λ l is. (l, [], is, sym (append-nil l), λ files fresh. nothing refl) })

pub list_moments : {A : Type 0} (old new : Option Log) (r : Result A NamesFault) → IsErr r → AppendsAll old new (λ l. names_happenings r) → EachMoment old new AllStay
list_moments old new (Ok names) failed call = absurd (cc)
list_moments old new (Err FolderFault) failed call = each_moment old new (record { was = λ l is. let w = call.was l is in (w.0, Listed false ∷ [], w.1, w.2, λ files fresh. list_alone false refl) })
list_moments old new (Err NoNames) failed call = each_moment old new (record { was = λ l is. let w = call.was l is in (w.0, [], w.1, w.2, λ files fresh. nothing refl) })

pub same_entries : (old new : Option Log) → EachMoment old new AllStay → EachMoment old new SameEntries
same_entries old new all = record {
  at = λ k hs was is. record { at = λ p q split files fresh name file left. ((all.at k hs was is).at p q split files fresh name file left).0 };
}
