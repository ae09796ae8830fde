-- An exchange comes into the list before those that began later.
use Rattle.std.proofs.Common.{◌≡◌, ◌<◌, ◌≤◌, ℕ, zero, suc, Bool, true, false, if◌then◌else◌, nat_lt, List, [], ◌∷◌, insert, refl, ap, arith, Result, Ok, Err, is_ok, OnErr}
use Rattle.std.specs.Global.{Box}
use Rattle.pp_flow.specs.declared.entry.Entry.{Entry}
use Rattle.pp_flow.specs.Changes.{entered, place_in}
use Rattle.pp_flow.specs.Inside.{entries}

pub entries-insert : (bs : List (Box Entry)) (i : ℕ) (b : Box Entry) → entries (insert bs i b) ≡ insert (entries bs) i b.value
entries-insert [] zero b = refl
entries-insert [] (suc i) b = refl
entries-insert (x ∷ bs) zero b = refl
entries-insert (x ∷ bs) (suc i) b = ap (λ es. x.value ∷ es) (entries-insert bs i b)

entered-by : (b : Bool) (e x : Entry) (es after : List Entry) (i : ℕ) → insert es i e ≡ after
    → insert (x ∷ es) (if b then 0 else suc i) e ≡ (if b then e ∷ x ∷ es else x ∷ after)
entered-by true e x es after i so = refl
entered-by false e x es after i so = ap (λ xs. x ∷ xs) so

pub entered-at : (e : Entry) (es : List Entry) → insert es (place_in e.exchange.number es) e ≡ entered e es
entered-at e [] = refl
entered-at e (x ∷ es) =
    entered-by (nat_lt e.exchange.number x.exchange.number) e x es (entered e es) (place_in e.exchange.number es) (entered-at e es)

-- with room it is taken
pub taken : {A E : Type 0} (r : Result A E) (len room : ℕ) (old new : List (Box Entry)) → OnErr r (room ≤ len) → len < room → (if is_ok r then new else old) ≡ new
taken (Ok a) len room old new full fits = refl
taken (Err e) len room old new full fits = absurd (omega (arith, full, fits))
