use Rattle.std.proofs.Common.{◌≡◌, ◌+◌, ◌∷◌, [], ℕ, List, length, codes, arith, refl, ◌∙◌, ap}
use Rattle.pp_text.specs.Fields.{Field}
use Rattle.pp_text.specs.Lines.{lines_of}
use Rattle.pp_objects.proofs.DateLemmas.{date_line}
use Rattle.pp_objects.proofs.Refreshing.{lines_size}
use Rattle.pp_objects.proofs.room.second_len.Goals as goal

line_len : (text : List ℕ) → length text + 8 ≡ length (lines_of ((codes "date", text) ∷ []))
line_len text = omega (arith, lines_size ((codes "date", text) ∷ []))

pub returns-in-Ok : goal.returns-in-Ok
returns-in-Ok c =
    let d = date_line c.args.came c.in-Ok.date c.to_bytes.result (c.in-Ok.ensures.succeeds.0 refl) c.in-Ok.ensures.value c.to_bytes.ensures in
    ap (λ n. n + 8) c.text_len.ensures.length ∙ line_len c.to_bytes.result ∙ ap (λ (fs : List Field). length (lines_of fs)) d
