-- A closing, and the connections that it leaves.
use Rattle.std.proofs.Common.{◌≡◌, ◌≢◌, ◌≤◌, ◌⊎◌, inl, inr, ℕ, Bool, true, false, not, cond, List, [], ◌∷◌, ◌++◌, Option, Some, None, refl, sym, ◌∙◌, ap, subst, eqb}
use Rattle.std.specs.Prelude.{◌||◌, slice_index_or}
use Rattle.std.specs.List.{All}
use Rattle.std.proofs.lemmas.Bool.Decides.{eqb_tells}
use Rattle.std.proofs.lemmas.List.Elements.{All-filter, filter_passes}
use Rattle.std.proofs.lemmas.List.Kept.{AllPairs-filter}
use Rattle.pp_world.specs.declared.event.Side.{Side}
use Rattle.pp_world.specs.declared.event.Side.TheVariants.{Client, Origin}
use Rattle.pp_world.specs.declared.happening.Happening.TheVariants.{Shut, Dropped}
use Rattle.pp_world.specs.Connections.{side_after, side_of}
use Rattle.pp_world.specs.Log.{Log, Appends}
use Rattle.pp_world.specs.Wire.{by_side, close_happening}
use Rattle.pp_world.proofs.LogLemmas.{side_of-push}
use Rattle.pp_world.proofs.CallLemmas.{told_after}
use Rattle.pp_links.specs.Links.{Link, AreOpen, IsLinked, has_link, is_link, is_other, without}
use Rattle.pp_links.specs.Quiet.{is_quiet, GrowsQuietly}
use Rattle.pp_links.proofs.QuietLemmas.{quiet_one}

-- a happening on this number leaves the others
pub unmoved : (id n : ℕ) (side gone : Option Side) → id ≢ n → cond (eqb id n) gone side ≡ side
unmoved id n side gone other = by (eqb_tells id n)
  where
    by : ((eqb id n ≡ true) × (id ≡ n)) ⊎ ((eqb id n ≡ false) × (id ≢ n)) → cond (eqb id n) gone side ≡ side
    by (inl at) = absurd (other at.1)
    by (inr away) = ap (λ (b : Bool). cond b gone side) away.0

closing_still : (whose : Option Side) (id n : ℕ) (side : Option Side) → id ≢ n → side_after n side (by_side whose (Shut id) (Dropped id)) ≡ side
closing_still None id n side other = unmoved id n side None other
closing_still (Some Client) id n side other = unmoved id n side None other
closing_still (Some Origin) id n side other = unmoved id n side None other

other_apart : (id : ℕ) (link : Link) → is_other id link ≡ true → id ≢ link.0
other_apart id link other is = by (eqb_tells link.0 id)
  where
    by : ((eqb link.0 id ≡ true) × (link.0 ≡ id)) ⊎ ((eqb link.0 id ≡ false) × (link.0 ≢ id)) → ⊥
    by (inl at) = let bad : false ≡ true = sym (ap not at.0) ∙ other in cc
    by (inr away) = away.1 (sym is)

closed_open : (links : List Link) (id : ℕ) (l : Log) → AreOpen links l → AreOpen (without id links) (l ++ close_happening id l ∷ [])
closed_open links id l o = λ k d within. stays (slice_index_or (without id links) k d) (filter_passes (is_other id) links k d within) (All-filter (is_other id) (λ (x : Link). side_of x.0 l ≡ Some x.1) links o k d within)
  where
    stays : (link : Link) → is_other id link ≡ true → side_of link.0 l ≡ Some link.1 → side_of link.0 (l ++ close_happening id l ∷ []) ≡ Some link.1
    stays link other is = side_of-push link.0 l (close_happening id l) ∙ closing_still (side_of id l) id link.0 (side_of link.0 l) (other_apart id link other) ∙ is

closing_quiet : (whose : Option Side) (id : ℕ) → is_quiet (by_side whose (Shut id) (Dropped id)) ≡ true
closing_quiet None id = refl
closing_quiet (Some Client) id = refl
closing_quiet (Some Origin) id = refl

pub close_quiet : {old new : Option Log} (id : ℕ) → Appends old new (close_happening id) → GrowsQuietly old new
close_quiet id call = quiet_one (close_happening id) call (λ l. closing_quiet (side_of id l) id)

pub close_linked : {old new : Option Log} (top now : ℕ) (links : List Link) (id : ℕ) → IsLinked old top links → Appends old new (close_happening id) → now ≡ top → IsLinked new now (without id links)
close_linked top now links id held call same = record {
  given = subst (λ (t : ℕ). All (λ link. link.0 ≤ t) (without id links)) (sym same) (All-filter (is_other id) (λ (x : Link). x.0 ≤ top) links held.given);
  apart = AllPairs-filter (λ (one other : Link). one.0 ≢ other.0) (is_other id) links held.apart;
  opened = told_after (λ l. close_happening id l ∷ []) (AreOpen links) (AreOpen (without id links)) held.opened call (λ l o. closed_open links id l o);
}

-- nothing is taken out where the number is not there

neither : (a b : Bool) → (a || b) ≡ false → (a ≡ false) × (b ≡ false)
neither true b bad = absurd (let no : true ≡ false = bad in cc)
neither false b is = (refl, is)

pub without_absent : (id : ℕ) (links : List Link) → has_link id links ≡ false → without id links ≡ links
without_absent id [] absent = refl
without_absent id (link ∷ links) absent =
    let each = neither (is_link id link) (has_link id links) absent in
    ap (λ (b : Bool). cond (not b) (link ∷ without id links) (without id links)) each.0 ∙ ap (λ (ls : List Link). link ∷ ls) (without_absent id links each.1)
