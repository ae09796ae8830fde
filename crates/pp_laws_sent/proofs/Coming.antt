-- The law: of the response that comes less came than on its connection.
use Rattle.std.proofs.Common.{◌≡◌, ap, ◌<◌, length, [], ◌++◌, length-append, arith}
use Rattle.pp_law.specs.Lists.{Bytes}
use Rattle.pp_laws.specs.Runs.{state_after}
use Rattle.pp_laws_pool.proofs.PoolFacts.{nothing_read}
use Rattle.pp_laws_pool.proofs.PoolGot.{head_beyond}
use Rattle.pp_laws_pool.proofs.View.{facts_of}
use Rattle.pp_laws_sent.specs.Coming.{BodiesAreLess}
use Rattle.pp_laws_sent.specs.Stands.{WasAskedOn}
use Rattle.pp_laws_sent.proofs.Came.{Began}
use Rattle.pp_laws_sent.proofs.Laws.{Inv, came_in, inv_after}

pub bodies_are_less : BodiesAreLess
bodies_are_less terms log lawful k a i is =
    let inv : Inv terms log (state_after terms log) = inv_after terms log lawful in
    let one : Began (came_in log k.number) [] (WasAskedOn terms log k.number) (inv.firsts k.number) a = (facts_of inv.came).begun k a i is in
    let some : 0 < a.head.length = head_beyond [] (one.head ++ (a.raw ++ [])) a.head nothing_read one.read in
    let cut : length one.head ≡ a.head.length = one.cut in
    let all : length (came_in log k.number) ≡ length (one.before ++ one.head ++ (a.raw ++ [])) = ap (λ (bs : Bytes). length bs) one.stream in
    omega (arith, some, cut, all, length-append (one.before ++ one.head) (a.raw ++ []), length-append one.before one.head, length-append a.raw [])
