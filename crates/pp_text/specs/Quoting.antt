-- Quoted strings: quoted-string = ( <"> *( qdtext | quoted-pair ) <"> ), quoted-pair = "\" CHAR
-- (RFC 2616, section 2.2).
use Rattle.std.specs.Prelude.{ℕ, Bool, true, false, cond, ◌==◌}
use Rattle.pp_text.specs.declared.quoting.Quoting.{Quoting}
use Rattle.pp_text.specs.declared.quoting.Quoting.TheVariants.{Outside, Inside, Escaped}

abbrev pub quotation_mark : ℕ
quotation_mark = 34

abbrev pub backslash : ℕ
backslash = 92

abbrev pub quoting_after : Quoting → ℕ → Quoting
quoting_after Outside b = cond (b == quotation_mark) Inside Outside
quoting_after Inside b = cond (b == quotation_mark) Outside (cond (b == backslash) Escaped Inside)
quoting_after Escaped b = Inside

abbrev pub is_outside : Quoting → Bool
is_outside Outside = true
is_outside Inside = false
is_outside Escaped = false
