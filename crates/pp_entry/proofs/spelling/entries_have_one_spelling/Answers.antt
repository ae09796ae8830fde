use Rattle.pp_entry.proofs.AnyCase.{read-back}
use Rattle.pp_entry.proofs.ReadRows.{read-again}
use Rattle.pp_entry.proofs.RoundTrip.{one-spelling}
use Rattle.pp_entry.proofs.spelling.entries_have_one_spelling.Goals as goal

pub returns-clause-read_back : goal.returns-clause-read_back
returns-clause-read_back c = read-back

pub returns-clause-read_again : goal.returns-clause-read_again
returns-clause-read_again c = read-again

pub returns-clause-one_spelling : goal.returns-clause-one_spelling
returns-clause-one_spelling c = one-spelling
