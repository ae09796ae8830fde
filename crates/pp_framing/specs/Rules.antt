-- The body of a text, by the rule that delimits it (RFC 2616, section 4.4).
use Rattle.std.specs.Prelude.{ℕ, true, false, nat_le, List, length, take, drop}
use Rattle.pp_framing.specs.Body.{Body, Outcome, Done, Going, no_data}
use Rattle.pp_framing.specs.Chunked.{chunked_body}
use Rattle.pp_framing.specs.declared.body.BodyRule.{BodyRule}
use Rattle.pp_framing.specs.declared.body.BodyRule.TheVariants.{Empty, Length, Chunked, ToEnd}
use Rattle.pp_framing.specs.declared.body.Ending.{Ending}
use Rattle.pp_framing.specs.declared.body.Ending.TheVariants.{Whole, Short}

abbrev pub body_of : BodyRule → List ℕ → Body
body_of Empty text = no_data (Done text)
body_of (Length n) text = record { payload = take n text; outcome = elim (nat_le n (length text)) [ true ↦ Done (drop n text) | false ↦ Going ] }
body_of Chunked text = chunked_body text
body_of ToEnd text = record { payload = text; outcome = Going }

-- what the end of the connection makes of a text that stands so: a body, or one that was cut short
abbrev pub ending_in : BodyRule → Outcome → Ending
ending_in rule (Done rest) = Whole
ending_in ToEnd Going = Whole
ending_in rule outcome = Short
