-- What is none of the disk leaves what is on it.
use Rattle.std.proofs.Common.{◌≡◌, refl, sym, ap, ◌∙◌, subst, ℕ, zero, suc, Bool, true, false, not, cond, List, [], ◌∷◌, ◌++◌, map, inl, inr, ◌⊎◌, Some}
use Rattle.std.specs.Prelude.{find, is_some}
use Rattle.pp_law.specs.After.{after}
use Rattle.pp_law.specs.Lawful.{LawfulFrom}
use Rattle.pp_law.specs.Lists.{Bytes}
use Rattle.pp_law.specs.Permits.{IsPermitted}
use Rattle.pp_law.specs.Phases.{behind, next}
use Rattle.pp_law.specs.State.{State, Entry, Phase, Before, IsWoken, IsConfigured, IsRooted, IsListed, IsListening, IsStuck, Awaiting, Handling, Evicting, Keeping, Deciding, Following, Connecting, DecidingAgain}
use Rattle.pp_law.specs.Table.{is_entry_of}
use Rattle.pp_laws.proofs.Tests.{first_holds, second_holds}
use Rattle.pp_laws.specs.Runs.{after_all, state_after}
use Rattle.pp_laws_crash.proofs.Begins.{not_true}
use Rattle.pp_laws_crash.proofs.Frames.{Kept, OwedIn, kept_self, parts_of, takes_turns as turns_at}
use Rattle.pp_laws_crash.proofs.Happenings.{changed_on}
use Rattle.pp_laws_crash.proofs.KeptTurns.{next-kept}
use Rattle.pp_laws_crash.specs.Changes.{changes_disk}
use Rattle.pp_laws_pool.proofs.Along.{after_all-append, back_from}
use Rattle.pp_laws_quiet.specs.Quiet.{AreDisplaced, AreQuiet, QuietOnesLeaveTheDisk, but_for_stale, takes_turns}
use Rattle.pp_obeys.specs.Obeys.{phases_on}
use Rattle.pp_world.specs.Log.{Log}
use Rattle.pp_world.specs.declared.happening.Happening.{Happening}

-- ---- each of them

abbrev IsTurning : State → Type 0
IsTurning s = turns_at s.phase ≡ true

nothing_owed : (s : State) → IsTurning s → OwedIn s.phase s.owed
nothing_owed s turns isnt = absurd (let both : true ≡ false = sym turns ∙ isnt in cc)

self : (s : State) → IsTurning s → Kept s s
self s turns = kept_self s (nothing_owed s turns)

-- and so it stands then
goes_on : (s t : State) → IsTurning s → Kept s t → IsTurning t
goes_on s t turns k = by (parts_of k).moved
  where
    by : (t.phase ≡ s.phase) ⊎ (turns_at t.phase ≡ true) → IsTurning t
    by (inl same) = ap turns_at same ∙ turns
    by (inr is) = is

quiet_kept : {o : State} (s : State) (h : Happening) → changes_disk h ≡ false → IsPermitted s h → IsTurning s → Kept o s → Kept o (after s h)
quiet_kept s h still may turns k = changed_on s (nothing_owed s turns) k h still may

-- ---- one behind the other, and some phases on

all_kept : {o : State} (hs : Log) (s : State) → AreQuiet hs → LawfulFrom s hs → IsTurning s → Kept o s → Kept o (after_all s hs)
all_kept [] s quiet lawful turns k = k
all_kept (h ∷ hs) s quiet lawful turns k =
    let still : changes_disk h ≡ false = not_true (changes_disk h) (first_holds (not (changes_disk h)) _ quiet) in
    all_kept hs (after s h) (second_holds (not (changes_disk h)) _ quiet) lawful.1 (goes_on s (after s h) turns (quiet_kept s h still lawful.0 turns (self s turns))) (quiet_kept s h still lawful.0 turns k)

on_kept : {o : State} (n : ℕ) (s : State) → Kept o s → Kept o (phases_on n s)
on_kept zero s k = k
on_kept (suc n) s k = on_kept n (next s) (next-kept s k)

-- ---- where the log is

-- no phase is left but in a turn
stays_out : (s : State) (p : Phase) → s.phase ≡ p → turns_at p ≡ false → next s ≡ s
unfolding next
stays_out s Before is out = ap (λ (p : Phase). behind p s) is
stays_out s IsWoken is out = ap (λ (p : Phase). behind p s) is
stays_out s IsConfigured is out = ap (λ (p : Phase). behind p s) is
stays_out s IsRooted is out = ap (λ (p : Phase). behind p s) is
stays_out s IsListed is out = ap (λ (p : Phase). behind p s) is
stays_out s IsListening is out = ap (λ (p : Phase). behind p s) is
stays_out s IsStuck is out = ap (λ (p : Phase). behind p s) is
stays_out s Awaiting is out = absurd (cc out)
stays_out s Handling is out = absurd (cc out)
stays_out s Evicting is out = absurd (cc out)
stays_out s Keeping is out = absurd (cc out)
stays_out s Deciding is out = absurd (cc out)
stays_out s Following is out = absurd (cc out)
stays_out s Connecting is out = absurd (cc out)
stays_out s DecidingAgain is out = absurd (cc out)

on_out : (n : ℕ) (s : State) → turns_at s.phase ≡ false → phases_on n s ≡ s
on_out zero s out = refl
on_out (suc n) s out = ap (λ (t : State). phases_on n t) (stays_out s s.phase refl out) ∙ on_out n s out

was_turning : (n : ℕ) (r s : State) → phases_on n r ≡ s → IsTurning s → IsTurning r
was_turning n r s there turns = by (turns_at r.phase) refl
  where
    by : (b : Bool) → turns_at r.phase ≡ b → IsTurning r
    by true is = is
    by false out = absurd (let both : true ≡ false = sym turns ∙ ap (λ (t : State). turns_at t.phase) (sym there ∙ on_out n r out) ∙ out in cc)

-- in the words of the law
turning : (s : State) (p : Phase) → s.phase ≡ p → takes_turns s ≡ true → turns_at p ≡ true
turning s Before is turns = absurd (let both : false ≡ true = sym (ap (λ (p : Phase). takes_turns (record s { phase = p })) is) ∙ turns in cc)
turning s IsWoken is turns = absurd (let both : false ≡ true = sym (ap (λ (p : Phase). takes_turns (record s { phase = p })) is) ∙ turns in cc)
turning s IsConfigured is turns = absurd (let both : false ≡ true = sym (ap (λ (p : Phase). takes_turns (record s { phase = p })) is) ∙ turns in cc)
turning s IsRooted is turns = absurd (let both : false ≡ true = sym (ap (λ (p : Phase). takes_turns (record s { phase = p })) is) ∙ turns in cc)
turning s IsListed is turns = absurd (let both : false ≡ true = sym (ap (λ (p : Phase). takes_turns (record s { phase = p })) is) ∙ turns in cc)
turning s IsListening is turns = absurd (let both : false ≡ true = sym (ap (λ (p : Phase). takes_turns (record s { phase = p })) is) ∙ turns in cc)
turning s IsStuck is turns = absurd (let both : false ≡ true = sym (ap (λ (p : Phase). takes_turns (record s { phase = p })) is) ∙ turns in cc)
turning s Awaiting is turns = refl
turning s Handling is turns = refl
turning s Evicting is turns = refl
turning s Keeping is turns = refl
turning s Deciding is turns = refl
turning s Following is turns = refl
turning s Connecting is turns = refl
turning s DecidingAgain is turns = refl

-- ---- keys whose name another took

same_entry : (key : Bytes) (es : List Entry) → is_some (find (is_entry_of key) (map but_for_stale es)) ≡ is_some (find (is_entry_of key) es)
same_entry key [] = refl
same_entry key (e ∷ es) = by (is_entry_of key e) (same_entry key es)
  where
    by : (b : Bool) → is_some (find (is_entry_of key) (map but_for_stale es)) ≡ is_some (find (is_entry_of key) es) → is_some (cond b (Some (but_for_stale e)) (find (is_entry_of key) (map but_for_stale es))) ≡ is_some (cond b (Some e) (find (is_entry_of key) es))
    by true rest = refl
    by false rest = rest

there_before : (r s : State) → Kept r s → AreDisplaced s → AreDisplaced r
there_before r s k are key has =
    sym (same_entry key r.entries) ∙ ap (λ (es : List Entry). is_some (find (is_entry_of key) es)) (sym (parts_of k).same) ∙ same_entry key s.entries ∙ are key ((parts_of k).more key has)

pub left : QuietOnesLeaveTheDisk
left terms before hs s t one two turns quiet =
    let r : State = state_after terms before in
    let was : IsTurning r = was_turning one.goes.phases r s one.goes.there (turning s s.phase refl turns) in
    let first : Kept r s = subst (λ (u : State). Kept r u) one.goes.there (on_kept one.goes.phases r (self r was)) in
    let behind : Kept r (state_after terms (before ++ hs)) = subst (λ (u : State). Kept r u) (sym (after_all-append _ before hs)) (all_kept hs r quiet (back_from _ before hs two.lawful) was (self r was)) in
    let then : Kept r t = subst (λ (u : State). Kept r u) two.goes.there (on_kept two.goes.phases (state_after terms (before ++ hs)) behind) in
    record {
      entries = (parts_of then).same ∙ sym (parts_of first).same;
      closed = (parts_of then).closed_is ∙ sym (parts_of first).closed_is;
      under_way = (parts_of then).under_way_is ∙ sym (parts_of first).under_way_is;
      agenda = (parts_of then).agenda_is ∙ sym (parts_of first).agenda_is;
      settings = (parts_of then).settings_is ∙ sym (parts_of first).settings_is;
      displaced = λ are. (parts_of then).there (there_before r s first are);
    }
