use Rattle.std.proofs.Common.{◌∙◌, ap, Bool, ◌++◌}
use Rattle.pp_reply.specs.Texts.{framing_line, connection_line, crlf}
use Rattle.pp_reply.proofs.Parts.{six_parts}
use Rattle.pp_reply.proofs.passed.put_passed_head.Goals as goal

pub returns : goal.returns
returns c =
    six_parts c.args.out.now.items _ _ _ _ _ crlf c.put_status.new.out.items c.put_fields.new.out.items c.put_via.new.out.items c.put_framing.new.out.items c.put_connection.new.out.items c.put.new.out.items
    c.put_status.ensures.text c.put_fields.ensures.text c.put_via.ensures
    (c.put_framing.ensures.line ∙ ap (λ (t : Bool). c.put_via.new.out.items ++ framing_line c.args.rule c.args.asker.minor t c.args.response.now.fields) c.is_described-is_described.ensures)
    (c.put_connection.ensures.line ∙ ap (λ (t : Bool). c.put_framing.new.out.items ++ connection_line t) c.is_kept.ensures)
    c.put.ensures
