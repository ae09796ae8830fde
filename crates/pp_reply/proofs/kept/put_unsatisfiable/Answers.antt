use Rattle.std.specs.Prelude.{codes}
use Rattle.pp_reply.specs.Texts.{crlf}
use Rattle.pp_reply.specs.Kept.{unsatisfiable_title}
use Rattle.pp_reply.proofs.Parts.{page_with_range_parts}
use Rattle.pp_reply.proofs.kept.put_unsatisfiable.Goals as goal

pub returns : goal.returns
returns c =
    page_with_range_parts c.args.out.now.items _ _ _ _ _ crlf unsatisfiable_title (codes "\n")
    c.put_title.new.out.items c.put_unsatisfied.new.out.items c.put_line.new.out.items c.put_length.new.out.items c.put_end.new.out.items c.put.new.out.items c.put-2.new.out.items
    c.put_title.ensures c.put_unsatisfied.ensures.line c.put_line.ensures c.put_length.ensures.line c.put_end.ensures.text c.put.ensures c.put-2.ensures
