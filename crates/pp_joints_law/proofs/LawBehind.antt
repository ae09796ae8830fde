-- What such an event leaves in the law: what is on the disk, and where the clock does not tick, the clock.
use Rattle.std.proofs.Common.{◌≡◌, refl, sym, subst, ap, ◌∙◌, ◌||◌, not, ℕ, max, Bool, true, false, List, [], ◌∷◌, ◌++◌, append-nil, append_assoc}
use Rattle.pp_law.specs.After.{after, event}
use Rattle.pp_law.specs.Connections.{front_of_line}
use Rattle.pp_law.specs.Replies.{regained}
use Rattle.pp_law.specs.State.{State, Conn, Term}
use Rattle.pp_law.specs.Turn.{close_idle_conn, end_patience, is_idle_conn, owes_answer, tick, tick_to}
use Rattle.pp_laws.proofs.Tests.{first_holds, second_holds}
use Rattle.pp_laws_crash.specs.Changes.{changes_disk}
use Rattle.pp_laws_quiet.proofs.Left.{left}
use Rattle.pp_laws_quiet.proofs.Unticked.{unticked}
use Rattle.pp_laws_quiet.specs.Quiet.{AreQuiet, IsLeftOnDisk, takes_turns}
use Rattle.pp_laws_quiet.specs.Steady.{AreSteady, HasNotTicked, ticks}
use Rattle.pp_links.specs.Failures.{fails}
use Rattle.pp_obeys.proofs.Frames.{Frame, Stays, each_of, frame_of, stays, when}
use Rattle.pp_obeys.proofs.Happenings.{obeys_by}
use Rattle.pp_obeys.proofs.Silent.{both_hold}
use Rattle.pp_obeys.proofs.StaysTable.{close_conn-stays, each_conn-stays, fail-stays}
use Rattle.pp_obeys.specs.Moves.{Leads}
use Rattle.pp_obeys.specs.Obeys.{Obeys}
use Rattle.pp_joints_law.proofs.ClearedAll.{BringNone, brings_none}
use Rattle.pp_world.specs.Log.{Log}
use Rattle.pp_world.specs.declared.happening.Happening.{Happening}
use Rattle.pp_world.specs.declared.happening.Happening.TheVariants.{Clock, Opened, CanRead, CanWrite, Heard, HungUp, Said, Reached, Broke, Ended, Asked, NoneYet, Stopped}

-- ---- the outside does not fail, and nothing is of the disk

pub never_fails : (h : Happening) → brings_none h ≡ true → fails h ≡ false
never_fails Stopped is = refl
never_fails (Clock seconds) is = refl
never_fails (Opened n) is = refl
never_fails (Reached k) is = refl
never_fails (Broke k) is = refl
never_fails (Ended k) is = refl
never_fails (CanRead n) is = refl
never_fails (CanWrite n) is = refl
never_fails (Heard c bytes) is = refl
never_fails (HungUp c) is = refl
never_fails (Said c offered bytes) is = refl
never_fails (Asked k bytes) is = refl
never_fails (NoneYet n) is = refl
never_fails other is = absurd (cc is)

never_of_disk : (h : Happening) → brings_none h ≡ true → changes_disk h ≡ false
never_of_disk Stopped is = refl
never_of_disk (Clock seconds) is = refl
never_of_disk (Opened n) is = refl
never_of_disk (Reached k) is = refl
never_of_disk (Broke k) is = refl
never_of_disk (Ended k) is = refl
never_of_disk (CanRead n) is = refl
never_of_disk (CanWrite n) is = refl
never_of_disk (Heard c bytes) is = refl
never_of_disk (HungUp c) is = refl
never_of_disk (Said c offered bytes) is = refl
never_of_disk (Asked k bytes) is = refl
never_of_disk (NoneYet n) is = refl
never_of_disk other is = absurd (cc is)

quiet : (hs : Log) → BringNone hs → AreQuiet hs
quiet [] none = refl
quiet (h ∷ hs) none = both_hold (not (changes_disk h)) _ (ap not (never_of_disk h (first_holds (brings_none h) _ none))) (quiet hs (second_holds (brings_none h) _ none))

-- the log goes on so
pub obeys_none : (terms : List Term) (hs before : Log) (s t : State) → BringNone hs → Obeys terms s before → Leads hs s t → Obeys terms t (before ++ hs)
obeys_none terms [] before s t none obeys is = subst (λ (log : Log). Obeys terms t log) (sym (append-nil before)) (subst (λ (u : State). Obeys terms u before) is obeys)
obeys_none terms (h ∷ hs) before s t none obeys moves =
    subst (λ (log : Log). Obeys terms t log) (append_assoc before (h ∷ []) hs)
    (obeys_none terms hs (before ++ h ∷ []) (after s h) t (second_holds (brings_none h) _ none)
    (obeys_by h obeys (record { may = moves.may; leads = refl }) (λ failed. absurd (let both : true ≡ false = sym failed ∙ never_fails h (first_holds (brings_none h) _ none) in cc both))) moves.holds)

pub left_on_disk : (terms : List Term) (hs before : Log) (s t : State) → BringNone hs → Obeys terms s before → takes_turns s ≡ true → Leads hs s t → IsLeftOnDisk s t
left_on_disk terms hs before s t none obeys turns leads = left terms before hs s t obeys (obeys_none terms hs before s t none obeys leads) turns (quiet hs none)

-- ---- where the clock does not tick

abbrev pub NeverTick : Log → Type 0
NeverTick [] = Unit {0}
NeverTick (h ∷ hs) = (ticks h ≡ false) × NeverTick hs

neither : (a b : Bool) → a ≡ false → b ≡ false → not (a || b) ≡ true
neither true b one two = absurd (cc one)
neither false true one two = absurd (cc two)
neither false false one two = refl

steady : (hs : Log) → BringNone hs → NeverTick hs → AreSteady hs
steady [] none still = refl
steady (h ∷ hs) none still =
    both_hold (not (changes_disk h || ticks h)) _ (neither (changes_disk h) (ticks h) (never_of_disk h (first_holds (brings_none h) _ none)) still.0) (steady hs (second_holds (brings_none h) _ none) still.1)

pub not_ticked : (terms : List Term) (hs before : Log) (s t : State) → BringNone hs → NeverTick hs → Obeys terms s before → Leads hs s t → HasNotTicked s t
not_ticked terms hs before s t none still obeys leads = unticked terms before hs s t obeys (obeys_none terms hs before s t none obeys leads) (steady hs none still)

-- ---- and where it does, a draft may be made again

end_patience-stays : {all : Bool} {o : Frame} (k : Conn) (s : State) → Stays all o s → Stays all o (end_patience k s)
unfolding end_patience
end_patience-stays k s h = when (owes_answer s k) (each_of (front_of_line s k) h (λ e. fail-stays e s h)) h

close_idle_conn-stays : {all : Bool} {o : Frame} (k : Conn) (s : State) → Stays all o s → Stays all o (close_idle_conn k s)
unfolding close_idle_conn
close_idle_conn-stays k s h = when (is_idle_conn s k) (close_conn-stays true k _ (end_patience-stays k s h)) h

ticked_to : (now : ℕ) (s : State) → (tick_to now s).has_lost_draft ≡ false
unfolding tick_to
ticked_to now s = ap (λ (f : Frame). f.has_lost_draft) (frame_of (each_conn-stays {all = true} close_idle_conn (λ k t ht. close_idle_conn-stays k t ht) _ _ (stays refl)))

pub tick_lost : (now : ℕ) (s : State) → (event (tick now s)).has_lost_draft ≡ false
unfolding event regained tick
tick_lost now s = ticked_to (max s.clock now) s
