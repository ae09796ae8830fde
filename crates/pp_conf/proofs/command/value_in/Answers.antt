use Rattle.std.proofs.Common.{◌≡◌, ◌∙◌, Option, Some, None, List, ℕ, option_map, refl, Bor}
use Rattle.clap.proofs.WalkLemmas.{first_value-rows}
use Rattle.clap.specs.Words.{found_of}
use Rattle.pp_conf.specs.Shown.{shown_text}
use Rattle.pp_conf.proofs.command.value_in.Goals as goal

is_shown : (t : Option (Bor (List ℕ))) → shown_text t ≡ option_map (λ s. s.now) t
is_shown None = refl
is_shown (Some s) = refl

pub returns : goal.returns
returns c = is_shown c.get_str.result ∙ (c.get_str.ensures ∙ first_value-rows (found_of c.args.matches.now) c.args.id.now)
