use Rattle.std.proofs.Common.{◌≡◌, codes}
use Rattle.pp_text.specs.Fields.{values_of}
use Rattle.pp_framing.specs.Framing.{length_of}
use Rattle.pp_framing.proofs.FramingLemmas.{length_from}
use Rattle.pp_framing.proofs.framing.content_length.Given as goal

abbrev pub invariant-loop-value : goal.invariant-loop-value
invariant-loop-value l = length_from l.length l.is_bad l.value-iterator ≡ length_of (values_of (codes "content-length") l.fn.fields)
