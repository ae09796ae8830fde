use Rattle.std.proofs.Common.{ℕ, codes, subst}
use Rattle.pp_entry.specs.Puts.{IsPut}
use Rattle.pp_entry.specs.Texts.{number_line, own_lines}
use Rattle.pp_entry.proofs.Parts.{put_last}
use Rattle.pp_entry.proofs.text.put_own.Goals as goal

pub returns : goal.returns
unfolding own_lines
returns c =
    let P : ℕ → Type 0 =
    λ at. IsPut (number_line (codes "X-Polipo-Body-Offset") at) c.put_number_line-3.new.out.items c.put_number_line-4.new.out.items c.put_number_line-4.result in
    put_last c.args.out.now.items _ _ _ _ _ c.put_text_line.new.out.items c.put_number_line.new.out.items c.put_number_line-2.new.out.items c.put_number_line-3.new.out.items c.put_number_line-4.new.out.items c.put_number_line-4.result
    c.in_ok-put_text_line.ensures c.in_ok-put_number_line.ensures c.in_ok-put_number_line-2.ensures c.in_ok-put_number_line-3.ensures
    (subst P c.body_at.ensures c.put_number_line-4.ensures)
