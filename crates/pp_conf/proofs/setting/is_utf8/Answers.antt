use Rattle.std.proofs.Common.{◌≡◌, ℕ, Bool, true, false, List, refl, sym}
use Rattle.std.specs.Str.{IsUtf8, is_utf8}
use Rattle.std.proofs.lemmas.Str.{IsUtf8-from_is_utf8, is_utf8-from_IsUtf8}
use Rattle.pp_conf.proofs.setting.is_utf8.Goals as goal

refuted : (text : List ℕ) (b : Bool) → is_utf8 text ≡ b → (IsUtf8 text → ⊥) → false ≡ is_utf8 text
refuted text true is never = absurd (never (IsUtf8-from_is_utf8 text is))
refuted text false is never = sym is

pub returns-in-Ok : goal.returns-in-Ok
returns-in-Ok c = sym (is_utf8-from_IsUtf8 c.args.text.now c.in-Ok.ensures.cases.1)

pub returns-in-Err : goal.returns-in-Err
returns-in-Err c = refuted c.args.text.now (is_utf8 c.args.text.now) refl c.in-Err.ensures.cases.0
