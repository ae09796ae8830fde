-- What is asked for a request (RFC 2616, section 14.35; RFC 7232, section 3.2; RFC 7233, section 3.2).
use Rattle.std.specs.Prelude.{ℕ, List, Option, Some, None}
use Rattle.std.specs.Borrow.{Bor}
use Rattle.pp_ask.specs.declared.kind.AskKind.{AskKind}
use Rattle.pp_ask.specs.declared.kind.AskKind.TheVariants.{Whole as AsWhole, Range as AsRange, Hole as AsHole, Check as AsCheck, Pass as AsPassed}
use Rattle.pp_flow.specs.declared.errand.Kind.{Kind}
use Rattle.pp_flow.specs.declared.errand.Kind.TheVariants.{Whole, Range, Hole, Check, Pass}

-- first, where nothing is known
abbrev pub fetch_by : Option (ℕ × Option ℕ) → Kind
fetch_by None = Whole
fetch_by (Some range) = Range range.0 range.1

-- as the ask that is written
abbrev pub lent : List ℕ → Bor (List ℕ)
lent bytes = record { ref_ptr = (0, 0); now = bytes }

abbrev pub asked_as : Kind → AskKind
asked_as Whole = AsWhole
asked_as (Range first last) = AsRange first last
asked_as (Hole first last tag) = AsHole first last (lent tag)
asked_as (Check tag) = AsCheck (lent tag)
asked_as Pass = AsPassed
