use Rattle.pp_law.proofs.FirstFault.{no_fault_lawful, lawful_no_fault}
use Rattle.pp_law.proofs.Prefixes.{each_prefix}
use Rattle.pp_law.proofs.laws.prefixes_and_faults.Goals as goal

pub returns-clause-prefixes : goal.returns-clause-prefixes
returns-clause-prefixes c = each_prefix

pub returns-clause-sound : goal.returns-clause-sound
returns-clause-sound c = no_fault_lawful

pub returns-clause-complete : goal.returns-clause-complete
returns-clause-complete c = lawful_no_fault
