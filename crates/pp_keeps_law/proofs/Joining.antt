-- One step behind the other, with what is known of the program before and behind it.
use Rattle.std.proofs.Common.{◌≡◌, refl, sym, subst, ap, ◌∙◌, ℕ, Bool, true, false, []}
use Rattle.pp_cache_law.proofs.Framing.{the_same}
use Rattle.pp_keeping.specs.Keeping.{Keeping as Kept, ends_astray}
use Rattle.pp_law.specs.State.{State}
use Rattle.pp_obeys.proofs.Adding.{adds_as, adds_then}
use Rattle.pp_obeys.proofs.Moving.{moves_append, moves_map}
use Rattle.pp_obeys.specs.Moves.{Both, MovesAll}
use Rattle.pp_state.specs.Astray.{gone_astray}
use Rattle.pp_state.specs.declared.state.State.{State as Turn}
use Rattle.pp_store.specs.Kept.{KeptMap}
use Rattle.pp_world.specs.Log.{Log}
use Rattle.pp_keeps_law.proofs.Added.{adds_these, still_adds}
use Rattle.pp_keeps_law.specs.Keeps.{AddsTo, HasKept, LeadsOn, on_disk}
use Rattle.pp_keeps_law.specs.Stands.{StandsToKeep}

pub record HasBoth (number : ℕ → ℕ) (y : Kept) (s : State) (G : Type 0) (t : State) : Type 0 where
  pub kept : HasKept number y.state y.outside.shelf s t
  pub knows : G

abbrev pub LeadsWith : Type 0 → Type 0 → Kept → Kept → Log → Type 0
LeadsWith F G x y hs = (number : ℕ → ℕ) (s : State) → StandsToKeep number x.state x.outside.shelf s → F → MovesAll (HasBoth number y s G) hs s

-- a step that leads on
pub with_known : (F G : Type 0) (x y : Kept) → ((number : ℕ → ℕ) (s : State) → StandsToKeep number x.state x.outside.shelf s → F → G) → AddsTo x y (LeadsOn x y) → AddsTo x y (LeadsWith F G x y)
with_known F G x y knows adds =
    adds_as x.outside.faults y.outside.faults (LeadsOn x y) (LeadsWith F G x y)
    (λ hs leads number s stands f. moves_map (HasKept number y.state y.outside.shelf s) (HasBoth number y s G) (λ t kept. record { kept = kept; knows = knows number s stands f }) hs s (leads number s stands)) adds

rest_on : (s t u : State) → t ≡ on_disk t s → u ≡ on_disk u t → u ≡ on_disk u s
rest_on s t u first then = then ∙ ap (λ (v : State). on_disk u v) first

-- and another behind it
pub joined : (F G H : Type 0) (x m y : Kept) → AddsTo x m (LeadsWith F G x m) → AddsTo m y (LeadsWith G H m y) → AddsTo x y (LeadsWith F H x y)
joined F G H x m y one two =
    adds_as x.outside.faults y.outside.faults (Both (LeadsWith F G x m) (LeadsWith G H m y)) (LeadsWith F H x y)
    (λ hs are number s stands f.
    subst (λ (k : Log). MovesAll (HasBoth number y s H) k s) (sym are.is)
    (moves_append (HasBoth number y s H) are.one are.two s
    (moves_map (HasBoth number m s G) (MovesAll (HasBoth number y s H) are.two)
    (λ t b. moves_map (HasBoth number y t H) (HasBoth number y s H) (λ u c. record { kept = record { stands = c.kept.stands; rest = rest_on s t u b.kept.rest c.kept.rest }; knows = c.knows }) are.two t (are.then number t b.kept.stands b.knows))
    are.one s (are.first number s stands f))))
    (adds_then x.outside.faults m.outside.faults y.outside.faults (LeadsWith F G x m) (LeadsWith G H m y) one two)

-- or none
pub nothing_more : (F G : Type 0) (x : Kept) → ((number : ℕ → ℕ) (s : State) → StandsToKeep number x.state x.outside.shelf s → F → G) → AddsTo x x (LeadsWith F G x x)
nothing_more F G x knows =
    adds_these x.outside.faults x.outside.faults [] (LeadsWith F G x x) (λ number s stands f. record { kept = record { stands = stands; rest = refl }; knows = knows number s stands f })
    (still_adds x.outside x.outside (record { shelf = refl; told = refl; count = the_same x.outside.faults }))

-- whether the life went astray is not of the disk
stands_astray : (number : ℕ → ℕ) (p : Turn) (shelf : KeptMap) (s : State) → StandsToKeep number p shelf s → StandsToKeep number (gone_astray p) shelf s
stands_astray number p shelf s stands = record {
  rests = stands.rests;
  cache = stands.cache;
  bounded = stands.bounded;
  noted = stands.noted;
  names = stands.names;
  displaced = stands.displaced;
  short = stands.short;
  lost = stands.lost;
  alone = stands.alone;
  fields = stands.fields;
  clock = stands.clock;
  run = stands.run;
  few = stands.few;
}

-- and none, behind the last that may be
pub nothing_left : (F : Type 0) (G : Turn → Type 0) (goes : Bool) (x : Kept) → ((p : Turn) → G p → G (gone_astray p)) → ((number : ℕ → ℕ) (s : State) → StandsToKeep number x.state x.outside.shelf s → F → G x.state)
    → AddsTo x (ends_astray goes x) (LeadsWith F (G (ends_astray goes x).state) x (ends_astray goes x))
nothing_left F G false x astray knows = nothing_more F (G x.state) x knows
nothing_left F G true x astray knows =
    adds_these x.outside.faults x.outside.faults [] (LeadsWith F (G (gone_astray x.state)) x (ends_astray true x))
    (λ number s stands f. record { kept = record { stands = stands_astray number x.state x.outside.shelf s stands; rest = refl }; knows = astray x.state (knows number s stands f) })
    (still_adds x.outside x.outside (record { shelf = refl; told = refl; count = the_same x.outside.faults }))

pub as_it_is : (F G : Type 0) (x y : Kept) → y ≡ x → AddsTo x x (LeadsWith F G x x) → AddsTo x y (LeadsWith F G x y)
as_it_is F G x y is adds = subst (λ (z : Kept). AddsTo x z (LeadsWith F G x z)) (sym is) adds
