use Rattle.std.proofs.Common.{◌≡◌, ◌∙◌, Option, Some, None, List, ℕ, map, option_map, codes, refl, Bor}
use Rattle.clap.proofs.WalkLemmas.{raw_values-rows}
use Rattle.clap.specs.Words.{found_of}
use Rattle.pp_conf.specs.Shown.{shown_list}
use Rattle.pp_conf.proofs.command.positionals_in.Goals as goal

is_shown : (t : Option (Bor (List (Bor (List ℕ))))) → shown_list t ≡ option_map (λ s. map (λ v. v.now) s.now) t
is_shown None = refl
is_shown (Some s) = refl

pub returns : goal.returns
returns c = is_shown c.get_strs.result ∙ (c.get_strs.ensures ∙ raw_values-rows (found_of c.args.matches.now) (codes "settings"))
