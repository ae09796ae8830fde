-- In which part of a request some bytes end (RFC 2616, section 5.1), byte by byte up to its target.
use Rattle.std.specs.Prelude.{ℕ, Bool, true, false, ◌==◌, List, fold}
use Rattle.httparse.specs.Grammar.{is_token_byte, is_uri_byte}
use Rattle.pp_head.specs.declared.part.Part.{Part}
use Rattle.pp_head.specs.declared.part.Part.TheVariants.{Blank, Return, Method, Target, Other}

abbrev pub part_after : Part → ℕ → Part
part_after Blank b = elim (b == 10) [ true ↦ Blank | false ↦ elim (b == 13) [ true ↦ Return | false ↦ elim (is_token_byte b) [ true ↦ Method | false ↦ Other ] ] ]
part_after Return b = elim (b == 10) [ true ↦ Blank | false ↦ Other ]
part_after Method b = elim (b == 32) [ true ↦ Target | false ↦ elim (is_token_byte b) [ true ↦ Method | false ↦ Other ] ]
part_after Target b = elim (is_uri_byte b) [ true ↦ Target | false ↦ Other ]
part_after Other b = Other

abbrev pub part_of : List ℕ → Part
part_of bytes = fold part_after Blank bytes

abbrev pub is_target : Part → Bool
is_target Blank = false
is_target Return = false
is_target Method = false
is_target Target = true
is_target Other = false
