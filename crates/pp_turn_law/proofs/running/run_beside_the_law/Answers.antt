use Rattle.pp_turn_law.proofs.Runs.{runs_beside}
use Rattle.pp_turn_law.proofs.running.run_beside_the_law.Goals as goal

pub returns : goal.returns
returns g c = record { runs = c.run.ensures; beside = runs_beside c.served_lives_are_lawful.ensures.lawful c.served_lives_have_the_headline.ensures.laws c.args.words.now c.run.result _ _ c.run.ensures }
