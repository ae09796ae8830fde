use Rattle.pp_reply.specs.Texts.{crlf}
use Rattle.pp_reply.proofs.Parts.{head_parts}
use Rattle.pp_reply.proofs.kept.put_whole.Goals as goal

pub returns : goal.returns
returns c =
    head_parts c.args.out.now.items _ _ _ _ _ _ crlf c.put_title.new.out.items c.put_all.new.out.items c.put_age.new.out.items c.put_via.new.out.items c.put_length.new.out.items c.put_end.new.out.items
    c.put_title.ensures c.put_all.ensures c.put_age.ensures.line c.put_via.ensures c.put_length.ensures.line c.put_end.ensures.text
