-- What an exchange asks (RFC 2616, section 14; RFC 7233, section 3), and how often (RFC 2616, section 8.1.4).
use Rattle.std.specs.Prelude.{ℕ, Bool, true, false, List, Option, Some, None}
use Rattle.pp_flow.specs.declared.errand.Kind.{Kind}
use Rattle.pp_flow.specs.declared.errand.Kind.TheVariants.{Whole, Range, Hole as AsHole, Check, Pass as AsPassed}

-- the tag that an ask names
abbrev pub named_by : Kind → Option (List ℕ)
named_by Whole = None
named_by (Range first last) = None
named_by (AsHole first last tag) = Some tag
named_by (Check tag) = Some tag
named_by AsPassed = None

-- a part is asked for, of whatever version
abbrev pub asks_range : Kind → Bool
asks_range Whole = false
asks_range (Range first last) = true
asks_range (AsHole first last tag) = false
asks_range (Check tag) = false
asks_range AsPassed = false

abbrev pub asks_as_asked : Kind → Bool
asks_as_asked Whole = false
asks_as_asked (Range first last) = false
asks_as_asked (AsHole first last tag) = false
asks_as_asked (Check tag) = false
asks_as_asked AsPassed = true

-- how often it may be lost (section 8.1.4; ours: three times)
abbrev pub attempts_in : Bool → ℕ
attempts_in once = elim once [ true ↦ 1 | false ↦ 3 ]
