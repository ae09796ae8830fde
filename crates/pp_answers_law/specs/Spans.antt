-- The span that a response brings (RFC 7233, section 4.2).
use Rattle.std.specs.Prelude.{◌≡◌}
use Rattle.pp_head.specs.Response.{Response}
use Rattle.pp_valid.specs.declared.version.Version.{Version}
use Rattle.pp_law.specs.OwnHeads.{end_in, first_offset, range_in}
use Rattle.pp_answers.specs.OwnHeads.{span_to_come}

-- as far as lengths go that are read
abbrev pub SpansAreTheLaws : Type 0
SpansAreTheLaws = (head : Response) (v : Version) → span_to_come head v ≡ (first_offset head, end_in (range_in head) v.length)
