use Rattle.std.proofs.Common.{[]}
use Rattle.pp_reply.specs.Texts.{crlf}
use Rattle.pp_reply.proofs.Parts.{head_parts, no_part}
use Rattle.pp_reply.proofs.kept.put_not_modified.Goals as goal

pub returns : goal.returns
returns c =
    head_parts c.args.out.now.items _ _ _ _ [] _ crlf c.put_title.new.out.items c.put_described.new.out.items c.put_age.new.out.items c.put_via.new.out.items c.put_via.new.out.items c.put_end.new.out.items
    c.put_title.ensures c.put_described.ensures.text c.put_age.ensures.line c.put_via.ensures (no_part c.put_via.new.out.items) c.put_end.ensures.text
