-- What a read of a client, a write to one, and a write to an origin add to the log: nothing that brings something of an origin or from the
-- disk, and no tick.
use Rattle.std.proofs.Common.{◌≡◌, refl, sym, subst, ◌∙◌, ℕ, List, [], ◌∷◌, ◌++◌, Option, Some, None, Ok, Err}
use Rattle.std.specs.Prelude.{length, take}
use Rattle.pp_desk.specs.Calls.{Found, Took, read_log, write_log}
use Rattle.pp_joints_law.proofs.ClearedAll.{BringNone}
use Rattle.pp_joints_law.proofs.LawBehind.{NeverTick}
use Rattle.pp_world.specs.Connections.{side_of}
use Rattle.pp_world.specs.Log.{AppendsAll, Log}
use Rattle.pp_world.specs.Wire.{by_side}
use Rattle.pp_world.specs.declared.event.Got.TheVariants.{Bytes, End, NotYet}
use Rattle.pp_world.specs.declared.event.Side.{Side}
use Rattle.pp_world.specs.declared.event.Side.TheVariants.{Client as OfClient, Origin as OfOrigin}
use Rattle.pp_world.specs.declared.happening.Happening.{Happening}
use Rattle.pp_world.specs.declared.happening.Happening.TheVariants.{Asked, Broke, Ended, Got, Heard, HungUp, Said}

-- neither
pub record AreSilent (hs : Log) : Type 0 where
  pub none : BringNone hs
  pub still : NeverTick hs

pub none_silent : AreSilent []
none_silent = record { none = refl; still = tt }

pub silent_as : (a b : Log) → a ≡ b → AreSilent b → AreSilent a
silent_as a b is silent = subst AreSilent (sym is) silent

-- ---- what was added is told

pub drop_front : (xs ys zs : Log) → xs ++ ys ≡ xs ++ zs → ys ≡ zs
drop_front [] ys zs is = is
drop_front (x ∷ xs) ys zs is = drop_front xs ys zs (tails is)
  where
    tails : x ∷ (xs ++ ys) ≡ x ∷ (xs ++ zs) → xs ++ ys ≡ xs ++ zs
    tails same = cc same

pub some_same : (a b : Log) → Some a ≡ Some b → a ≡ b
some_same a b is = cc is

-- what is added is what the other call says
pub record WasAdded (old : Option Log) (f : Log → Log) (hs : Log) : Type 0 where
  pub before : Log
  pub told : old ≡ Some before
  pub is : hs ≡ f before

pub was_added : (old new : Option Log) (now hs : Log) (f : Log → Log) → new ≡ Some now → AppendsAll old new (λ l. hs) → AppendsAll old new f → WasAdded old f hs
was_added old new now hs f told one two =
    let a : (before : Log) × (old ≡ Some before) × (now ≡ before ++ hs) = one.was now told in
    let b : (before : Log) × (old ≡ Some before) × (now ≡ before ++ f before) = two.was now told in
    let same : b.0 ≡ a.0 = some_same b.0 a.0 (sym b.1 ∙ a.1) in
    record { before = a.0; told = a.1; is = drop_front a.0 hs (f a.0) (sym a.2 ∙ subst (λ (l : Log). now ≡ l ++ f l) same b.2) }

-- ---- calls

of_client : (o : Option Side) (a b : Happening) → o ≡ Some OfClient → AreSilent (a ∷ []) → AreSilent (by_side o a b ∷ [])
of_client o a b is silent = subst (λ (z : Option Side). AreSilent (by_side z a b ∷ [])) (sym is) silent

pub read_silent : (id : ℕ) (found : Found) (front : List ℕ) (l : Log) → side_of id l ≡ Some OfClient → AreSilent (read_log id found front l)
read_silent id None front l side = none_silent
read_silent id (Some (Ok (Bytes n))) front l side = of_client (side_of id l) (Heard id (take n front)) (Got id (take n front)) side (record { none = refl; still = (refl, tt) })
read_silent id (Some (Ok End)) front l side = of_client (side_of id l) (HungUp id) (Ended id) side (record { none = refl; still = (refl, tt) })
read_silent id (Some (Ok NotYet)) front l side = record { none = refl; still = (refl, tt) }
read_silent id (Some (Err fault)) front l side = of_client (side_of id l) (HungUp id) (Broke id) side (record { none = refl; still = (refl, tt) })

-- of either side
either : (o : Option Side) (a b : Happening) → AreSilent (a ∷ []) → AreSilent (b ∷ []) → AreSilent (by_side o a b ∷ [])
either None a b one two = two
either (Some OfClient) a b one two = one
either (Some OfOrigin) a b one two = two

pub write_silent : (id : ℕ) (bytes : List ℕ) (took : Took) (l : Log) → AreSilent (write_log id bytes took l)
write_silent id bytes None l = none_silent
write_silent id bytes (Some (Ok n)) l = either (side_of id l) (Said id (length bytes) (take n bytes)) (Asked id (take n bytes)) (record { none = refl; still = (refl, tt) }) (record { none = refl; still = (refl, tt) })
write_silent id bytes (Some (Err fault)) l = either (side_of id l) (HungUp id) (Broke id) (record { none = refl; still = (refl, tt) }) (record { none = refl; still = (refl, tt) })
