-- A call that leaves the log and the numbers as they are.
use Rattle.std.proofs.Common.{◌≡◌, ℕ, List, Option, sym, subst}
use Rattle.pp_world.specs.Log.{Log}
use Rattle.pp_links.specs.Links.{IsLinked, Link}
use Rattle.pp_links.specs.Quiet.{GrowsQuietly}
use Rattle.pp_links.proofs.QuietLemmas.{quiet_none}

pub quiet_same : {old new : Option Log} → new ≡ old → GrowsQuietly old new
quiet_same {old} {new} same = subst (λ (l : Option Log). GrowsQuietly old l) (sym same) (quiet_none old)

pub linked_same : {old new : Option Log} {top top' : ℕ} {links : List Link} → new ≡ old → top' ≡ top → IsLinked old top links → IsLinked new top' links
linked_same {old} {new} {top} {top'} {links} same below h =
    subst (λ (l : Option Log). IsLinked l top' links) (sym same) (subst (λ n. IsLinked old n links) (sym below) h)
