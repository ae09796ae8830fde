-- At first no value is known.
use Rattle.std.proofs.Common.{◌≡◌, ap, ◌∙◌, codes}
use Rattle.pp_text.specs.Fields.{values_of}
use Rattle.pp_framing.specs.Framing.{length_of}
use Rattle.pp_framing.proofs.FramingLemmas.{length_from-start}
use Rattle.pp_framing.proofs.framing.content_length.Goals as goal

pub loop-value-init : goal.loop-value-init
loop-value-init c =
    length_from-start c.into_iter-value-iterator.result
    ∙ ap length_of (let all : c.into_iter-value-iterator.result ≡ values_of (codes "content-length") c.args.fields.now = cc (c.into_iter-value-iterator.ensures.into_iter_gives, c.values-value-items.ensures) in all)
