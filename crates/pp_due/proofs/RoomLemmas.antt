-- The kept row of a response's key comes in, with room for it.
use Rattle.std.proofs.Common.{◌≡◌, inl, inr, refl, sym, subst, ap, ◌∙◌, ◌||◌, not, is_ok, ℕ, Bool, true, false, List, Option, Some, Result, Ok, Err, OnOk, OnErr}
use Rattle.pp_cache.specs.Memory.{Memory}
use Rattle.pp_store.specs.Kept.{KeptMap}
use Rattle.pp_due.specs.Entering.{HasRowFor, MayCome, with_room_if_over}
use Rattle.pp_due.specs.OnDisk.{IsBrought, kept_alone}
use Rattle.pp_state.specs.declared.state.State.{State}

-- whether it came in, by what was answered
abbrev came : {A B : Type 0} → Bool → Result A B → Bool
came astray r = astray || not (is_ok r)

stays : (astray : Bool) → (astray || false) ≡ astray
stays true = refl
stays false = refl

goes : (astray : Bool) → (astray || true) ≡ true
goes true = refl
goes false = refl

may_come : {A B : Type 0} (shelf : KeptMap) (key : List ℕ) (old : State) (cache : Memory) (r : Result A B) → OnOk r (IsBrought key (kept_alone key shelf old.cache) old.cache cache) → OnErr r (cache ≡ old.cache)
    → MayCome shelf key old (record old { cache = cache; is_astray = came old.is_astray r })
may_come shelf key old cache (Ok x) on off = inl (record { cache = on; rest = ap (λ (b : Bool). record old { is_astray = b }) (stays old.is_astray) })
may_come shelf key old cache (Err e) on off = inr (ap (λ (m : Memory). record old { cache = m; is_astray = old.is_astray || true }) off ∙ ap (λ (b : Bool). record old { is_astray = b }) (goes old.is_astray))

pub row_for : {A B : Type 0} (shelf : KeptMap) (found : Option (List ℕ)) (key : List ℕ) (old new : State) (cache : Memory) (r : Result A B) (brought astray : Bool) → found ≡ Some key → OnOk r (IsBrought key (kept_alone key shelf old.cache) old.cache cache) → OnErr r (cache ≡ old.cache)
    → brought ≡ is_ok r → astray ≡ (old.is_astray || not brought) → new ≡ with_room_if_over (record old { cache = cache; is_astray = astray }) → HasRowFor shelf found old new
row_for shelf found key old new cache r brought astray is on off told noted room =
    subst (λ (o : Option (List ℕ)). HasRowFor shelf o old new) (sym is)
    (record {
      entered = record old { cache = cache; is_astray = came old.is_astray r };
      comes = may_come shelf key old cache r on off;
      room = room ∙ ap (λ (b : Bool). with_room_if_over (record old { cache = cache; is_astray = b })) (noted ∙ ap (λ (b : Bool). old.is_astray || not b) told);
    })
