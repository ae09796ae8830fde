-- A call of a client's connection adds what the side of that says.
use Rattle.std.proofs.Common.{◌≡◌, refl, subst, ap, ◌∙◌, ℕ, suc, Bool, true, false, ◌||◌, cond, find, List, [], ◌∷◌, ◌++◌, Option, Some, arith}
use Rattle.std.specs.List.{All, list_any}
use Rattle.pp_cache_law.proofs.Numbers.{some_is}
use Rattle.pp_flow_law.proofs.Entries.{none_some}
use Rattle.pp_links.specs.Links.{IsLinked, Link, has_link, is_link}
use Rattle.pp_world.specs.Connections.{side_of}
use Rattle.pp_world.specs.Log.{AppendsAll, Log}
use Rattle.pp_world.specs.declared.event.Side.{Side}

all_found : (P : Link → Type 0) (n : ℕ) (links : List Link) (l : Link) → All (λ link. P link) links → find (is_link n) links ≡ Some l → P l
all_found P n [] l all there = absurd (none_some l there)
all_found P n (link ∷ links) l all there = by (is_link n link) there (λ later. all_found P n links l (λ k d within. all (suc k) d (omega (arith, within))) later)
  where
    by : (b : Bool) → cond b (Some link) (find (is_link n) links) ≡ Some l → (find (is_link n) links ≡ Some l → P l) → P l
    by true found rest = subst (λ (o : Link). P o) (some_is link l found) (all 0 link (omega arith))
    by false found rest = rest found

pub is_linked : (n : ℕ) (links : List Link) (l : Link) → find (is_link n) links ≡ Some l → has_link n links ≡ true
is_linked n [] l there = absurd (none_some l there)
is_linked n (link ∷ links) l there = by (is_link n link) there (λ later. is_linked n links l later)
  where
    by : (b : Bool) → cond b (Some link) (find (is_link n) links) ≡ Some l → (find (is_link n) links ≡ Some l → has_link n links ≡ true) → (b || list_any (is_link n) links) ≡ true
    by true found rest = refl
    by false found rest = rest found

-- where the log is told, it says whose connection it is
pub its_side : (log : Option Log) (top : ℕ) (links : List Link) (n : ℕ) (side : Side) (l : Log) → IsLinked log top links → find (is_link n) links ≡ Some (n, side) → log ≡ Some l → side_of n l ≡ Some side
its_side log top links n side l linked there told = all_found (λ link. side_of link.0 l ≡ Some link.1) n links (n, side) (linked.opened.at l told) there

pub told_as : (old new : Option Log) (f : Log → Log) (hs : Log) → AppendsAll old new f → ((l : Log) → old ≡ Some l → f l ≡ hs) → AppendsAll old new (λ l. hs)
told_as old new f hs told same = record { was = λ l is. let w : (before : Log) × (old ≡ Some before) × (l ≡ before ++ f before) = told.was l is in (w.0, w.1, w.2 ∙ ap (λ (k : Log). w.0 ++ k) (same w.0 w.1)) }
