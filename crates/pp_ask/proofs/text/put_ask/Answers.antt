use Rattle.std.proofs.Common.{◌∙◌, ap, List, ℕ, ◌++◌}
use Rattle.pp_target.specs.Key.{key_in}
use Rattle.pp_ask.specs.Texts.{front, crlf}
use Rattle.pp_ask.proofs.Parts.{put_last}
use Rattle.pp_ask.proofs.text.put_ask.Goals as goal

pub returns : goal.returns
returns c =
    put_last c.args.out.now.items _ _ _ _ crlf c.put_front.new.out.items c.put_fields.new.out.items c.put_kind.new.out.items c.put_via.new.out.items c.put.new.out.items c.put.result
    (c.in_ok-put_front.ensures ∙ ap (λ (m : List ℕ). c.args.out.now.items ++ front m (key_in c.args.key.now c.args.place.now)) c.method.ensures)
    c.in_ok-put_fields.ensures c.in_ok-put_kind.ensures c.in_ok-put_via.ensures c.put.ensures
