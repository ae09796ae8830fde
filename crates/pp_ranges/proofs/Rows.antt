-- Worked ranges (RFC 7233, sections 2.1 and 4.4).
use Rattle.std.proofs.Common.{refl, ℕ, List, [], ◌∷◌, Some, None, codes}
use Rattle.pp_text.proofs.Table.{Rows}
use Rattle.pp_text.specs.Fields.{Field}
use Rattle.pp_ranges.specs.Ranges.{range_of, resolve}
use Rattle.pp_ranges.specs.declared.range.Range.{Range}
use Rattle.pp_ranges.specs.declared.range.Range.TheVariants.{Span, From, Last}
use Rattle.pp_ranges.specs.declared.range.Resolved.TheVariants.{Whole, Part, Unsatisfiable}

abbrev greatest : ℕ
greatest = 18446744073709551615

a_range_stands_for_the_bytes_that_are_there : Rows (λ (t : Range × ℕ). resolve t.0 t.1) (
    ((Span 0 0, 1), Part 0 1)
    ∷ ((Span 1 3, 5), Part 1 4)
    ∷ ((Span 4 9, 5), Part 4 5)
    ∷ ((Span 4 4, 5), Part 4 5)
    ∷ ((Span 5 9, 5), Unsatisfiable)
    ∷ ((Span 0 0, 0), Unsatisfiable)
    ∷ ((Span 0 greatest, greatest), Part 0 greatest)
    ∷ ((Span greatest greatest, greatest), Unsatisfiable)
    ∷ ((From 0, 5), Part 0 5)
    ∷ ((From 4, 5), Part 4 5)
    ∷ ((From 5, 5), Unsatisfiable)
    ∷ ((From 0, 0), Unsatisfiable)
    ∷ ((Last 2, 5), Part 3 5)
    ∷ ((Last 5, 5), Part 0 5)
    ∷ ((Last 9, 5), Part 0 5)
    ∷ ((Last 0, 5), Unsatisfiable)
    ∷ ((Last 0, 0), Unsatisfiable)
    ∷ ((Last 1, 0), Whole)
    ∷ ((Last greatest, greatest), Part 0 greatest)
    ∷ [])
a_range_stands_for_the_bytes_that_are_there = refl

-- a Range field with this value
abbrev range : List ℕ → List Field
range value = (codes "Range", value) ∷ []

one_range_of_bytes_in_one_field_counts : Rows range_of (
    (range (codes "bytes=0-499"), Some (Span 0 499))
    ∷ ((codes "RANGE", codes "Bytes=500-500") ∷ [], Some (Span 500 500))
    ∷ (range (codes "bytes=9500-"), Some (From 9500))
    ∷ (range (codes "bytes=-500"), Some (Last 500))
    ∷ (range (codes "bytes=-0"), Some (Last 0))
    ∷ (range (codes "bytes=007-08"), Some (Span 7 8))
    ∷ (range (codes "bytes=, 1-2 ,,"), Some (Span 1 2))
    ∷ (range (codes "bytes=0-18446744073709551615"), Some (Span 0 greatest))
    ∷ (range (codes "bytes=-18446744073709551615"), Some (Last greatest))
    ∷ (range (codes "bytes=0-18446744073709551616"), None)
    ∷ (range (codes "bytes=18446744073709551616-"), None)
    ∷ (range (codes "bytes=2-1"), None)
    ∷ (range (codes "bytes=0-0,-1"), None)
    ∷ ((codes "Range", codes "bytes=0-1") ∷ (codes "Range", codes "bytes=0-1") ∷ [], None)
    ∷ (range (codes "items=0-1"), None)
    ∷ (range (codes "bytes 0-1"), None)
    ∷ (range (codes "bytes =0-1"), None)
    ∷ (range (codes "bytes=0 - 1"), None)
    ∷ (range (codes "bytes=0"), None)
    ∷ (range (codes "bytes=-"), None)
    ∷ (range (codes "bytes=--1"), None)
    ∷ (range (codes "bytes=1-2-3"), None)
    ∷ (range (codes "bytes="), None)
    ∷ (range (codes ""), None)
    ∷ ((codes "If-Range", codes "bytes=0-1") ∷ [], None)
    ∷ [])
one_range_of_bytes_in_one_field_counts = refl
