-- The laws: what a crash leaves is backed; and so what is held, and what is said, was sent.
use Rattle.std.proofs.Common.{◌≡◌, refl, ℕ, ◌+◌, ◌<◌, true, false, List, [], ◌∷◌, length, drop, get_or, Option, Some, None, inl, inr, sym, subst, ◌∙◌, arith}
use Rattle.std.proofs.lemmas.List.{get_or-take, get_or-drop, length-take}
use Rattle.pp_entry.specs.Texts.{body_at}
use Rattle.pp_world.specs.Disk.{LeavesOne, view_of}
use Rattle.pp_world.specs.Log.{Log}
use Rattle.pp_world.specs.declared.happening.Happening.{Happening}
use Rattle.pp_world.specs.declared.happening.Happening.TheVariants.{Woke, Waits, Clock, Opened, CanRead, CanWrite, Heard, HungUp, Said, Shut, Dialled, Undialled, Reached, Ended, Broke, Asked, Got, Dropped, NoneYet, Began, Did, Unread, Noted, Rooted, Listed, Listens, Configured, Printed, Stopped}
use Rattle.pp_world.specs.declared.note.Remark.TheVariants.{Taken, Cut, Kept, Gone, Forgotten, Evicted, Loaded}
use Rattle.pp_law.proofs.Prefixes.{front_from}
use Rattle.pp_law.specs.After.{after}
use Rattle.pp_law.specs.Lawful.{LawfulFrom, Lawful}
use Rattle.pp_law.specs.Lists.{Bytes}
use Rattle.pp_law.specs.Permits.{IsPermitted, permits}
use Rattle.pp_law.specs.State.{State, Term, Entry, Keeping, no_agenda, start}
use Rattle.pp_laws.specs.Origin.{LoadWasSent, LoadsWhatWasSent}
use Rattle.pp_laws.specs.Runs.{after_all, state_after}
use Rattle.pp_laws.proofs.Happenings.{after-sound}
use Rattle.pp_laws.proofs.Laws.{held_was_sent, said_was_sent, start-sound}
use Rattle.pp_laws.proofs.Sound.{Rows, Since, Sound, facts_of}
use Rattle.pp_laws.proofs.Steps.{come_to-sound}
use Rattle.pp_laws_crash.specs.Crash.{AllHeldWasSent, AllSaidWasSent, EachImageIsBacked, kept_bytes}
use Rattle.pp_laws_crash.proofs.Backing.{BackedAt, all_of, is_sent}
use Rattle.pp_laws_crash.proofs.Happenings.{changed_inv, permitted, sixteen}
use Rattle.pp_laws_crash.proofs.Inv.{AtRest, idle}
use Rattle.pp_laws_crash.proofs.Loading.{load_was_sent}
use Rattle.pp_laws_crash.proofs.Steps.{Inv}

-- ---- along a log

-- before the first life
start_rest : AtRest [] [] [] false []
unfolding view_of
start_rest = record {
  backed = λ name file left. by name file left;
  rests = λ name unclosed. record { sound = refl; held = λ e i. absurd i };
  own = λ e i. absurd i;
  open_names = λ r e i. absurd i;
}
  where
    by : (name : Bytes) (file : Option Bytes) → LeavesOne (None ∷ []) file → BackedAt [] name file
    by name None left = tt
    by name (Some c) (inl bad) = absurd bad
    by name (Some c) (inr bad) = absurd bad

pub start_inv : (terms : List Term) → Inv (start terms)
start_inv terms = record { disk = idle start_rest no_agenda refl; owed = λ isnt. refl; few = sixteen }

load_so : (s : State) (h : Happening) → Rows s.instances s.next_instance s.chunks → Inv s → IsPermitted s h → LoadWasSent s h
unfolding permits
load_so s (Woke image) rows h is = tt
load_so s (Waits w) rows h is = tt
load_so s (Clock n) rows h is = tt
load_so s (Opened n) rows h is = tt
load_so s (CanRead n) rows h is = tt
load_so s (CanWrite n) rows h is = tt
load_so s (Heard n b) rows h is = tt
load_so s (HungUp n) rows h is = tt
load_so s (Said n m b) rows h is = tt
load_so s (Shut n) rows h is = tt
load_so s (Dialled n b m) rows h is = tt
load_so s (Undialled b n) rows h is = tt
load_so s (Reached n) rows h is = tt
load_so s (Ended n) rows h is = tt
load_so s (Broke n) rows h is = tt
load_so s (Asked n b) rows h is = tt
load_so s (Got n b) rows h is = tt
load_so s (Dropped n) rows h is = tt
load_so s (NoneYet n) rows h is = tt
load_so s (Began op) rows h is = tt
load_so s (Did op ok) rows h is = tt
load_so s (Unread b) rows h is = tt
load_so s (Rooted b) rows h is = tt
load_so s (Listed t) rows h is = tt
load_so s (Listens n t) rows h is = tt
load_so s (Configured b o) rows h is = tt
load_so s (Printed b) rows h is = tt
load_so s (Noted (Taken c i d)) rows h is = tt
load_so s (Noted (Cut c cause)) rows h is = tt
load_so s (Noted (Kept k t n x)) rows h is = tt
load_so s (Noted (Gone k)) rows h is = tt
load_so s (Noted (Forgotten k)) rows h is = tt
load_so s (Noted (Evicted k t n i)) rows h is = tt
load_so s (Noted (Loaded key tag n i)) rows h is = load_was_sent s key tag n i rows h (permitted s (Noted (Loaded key tag n i)) refl is)
load_so s Stopped rows h is = tt

-- what is loaded counts
abbrev pub since : Since
since = record { old = []; counts_loads = true; excepts = None }

pub record Along (s : State) (log : Log) : Type 0 where
  pub loads : LoadsWhatWasSent s log
  pub inv : Inv (after_all s log)

pub one_step : (s : State) (h : Happening) → IsPermitted s h → Sound since s → Inv s → LoadWasSent s h × Inv (after s h)
one_step s h is sound inv = (
  load_so s h (facts_of sound).rows inv is,
  changed_inv s inv h (λ x i. (facts_of (come_to-sound Keeping s sound)).held refl x i) is,
)

goes_along : (s : State) (log : Log) → LawfulFrom s log → Sound since s → Inv s → Along s log
goes_along s [] lawful sound inv = record { loads = tt; inv = inv }
goes_along s (h ∷ log) lawful sound inv =
    let step = one_step s h lawful.0 sound inv in
    let rest = goes_along (after s h) log lawful.1 (after-sound s h refl (λ counts. step.0) lawful.0 sound) step.1 in
    record { loads = (step.0, rest.loads); inv = rest.inv }

pub all_along : (terms : List Term) (log : Log) → Lawful terms log → Along (start terms) log
all_along terms log lawful = goes_along (start terms) log lawful (start-sound since terms refl) (start_inv terms)

-- ---- the laws

kept_at : (e : Entry) (file : Bytes) (o : ℕ) → o < length (kept_bytes e file) → (o < e.extent) × (get_or (kept_bytes e file) o 0 ≡ get_or file (body_at e.version.length + o) 0)
kept_at e file o lt = let below : o < e.extent = omega (arith, lt, length-take e.extent (drop (body_at e.version.length) file)) in
    (below, get_or-take e.extent (drop (body_at e.version.length) file) o 0 below ∙ get_or-drop (body_at e.version.length) file o 0)

pub each_image_backed : EachImageIsBacked
each_image_backed terms log image lawful left name file found e is =
    let s = state_after terms log in
    let backed : BackedAt s.sent name (Some file) = (all_along terms log lawful).inv.disk.backed name (Some file) (subst (LeavesOne (view_of name s.disk).slot) found (left name)) in
    all_of s.sent e.key e.version 0 (kept_bytes e file) (λ o lt. let at = kept_at e file o lt in
    subst (λ k. is_sent s.sent e.key e.version k (get_or (kept_bytes e file) o 0) ≡ true) (nothing o) (subst (λ b. is_sent s.sent e.key e.version o b ≡ true) (sym at.1) (backed e is o at.0)))
  where
    nothing : (k : ℕ) → k ≡ 0 + k
    nothing k = omega arith

pub all_held_was_sent : AllHeldWasSent
all_held_was_sent terms log lawful = held_was_sent terms log lawful (all_along terms log lawful).loads

pub all_said_was_sent : AllSaidWasSent
all_said_was_sent terms log n offered bytes lawful = said_was_sent terms log n offered bytes lawful (all_along terms log (front_from (start terms) log (Said n offered bytes ∷ []) lawful)).loads
