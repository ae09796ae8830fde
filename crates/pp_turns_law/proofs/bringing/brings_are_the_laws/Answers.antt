use Rattle.pp_turns_law.proofs.Comes.{asks, brings_of, brought_of, provided_of, serves_of}
use Rattle.pp_turns_law.proofs.bringing.brings_are_the_laws.Goals as goal

pub returns : goal.returns
returns c = record { asks = asks; brings = brings_of; serves = serves_of; brought = brought_of; provided = provided_of }
