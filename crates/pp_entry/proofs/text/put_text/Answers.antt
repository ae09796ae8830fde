use Rattle.pp_entry.specs.Texts.{head_text}
use Rattle.pp_entry.proofs.Parts.{put_last_of_four}
use Rattle.pp_entry.proofs.text.put_text.Goals as goal

pub returns : goal.returns
unfolding head_text
returns c =
    put_last_of_four c.args.out.now.items _ _ _ _ c.put.new.out.items c.put_fields.new.out.items c.put_own.new.out.items c.put-2.new.out.items c.put-2.result
    c.in_ok-put.ensures c.in_ok-put_fields.ensures c.in_ok-put_own.ensures c.put-2.ensures
