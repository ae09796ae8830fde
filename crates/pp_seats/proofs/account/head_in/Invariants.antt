use Rattle.std.proofs.Common.{◌≡◌, ◌+◌, drop}
use Rattle.pp_seats.specs.Accounts.{head_len_in}
use Rattle.pp_seats.proofs.account.head_in.Given as goal

abbrev pub invariant-loop-at : goal.invariant-loop-at
invariant-loop-at l = l.at + head_len_in (drop l.at l.text) ≡ head_len_in l.text
