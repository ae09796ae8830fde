use Rattle.pp_memworld.proofs.Listed.{put_listed}
use Rattle.pp_memworld.proofs.image.put_file.Goals as goal

pub returns-clause-listed : goal.returns-clause-listed
returns-clause-listed c = put_listed c.put.result c.args.name c.args.file c.args.image.now c.put.new.self c.requires.listed c.put.ensures.ok c.put.ensures.err
