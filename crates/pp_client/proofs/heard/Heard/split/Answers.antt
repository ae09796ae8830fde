use Rattle.std.proofs.Common.{◌≡◌, ◌<◌, length, take, drop, arith, subst, sym, ap, ◌∙◌}
use Rattle.std.proofs.lemmas.Grind.{common_steps}
use Rattle.pp_head.specs.Request.{request_at}
use Rattle.pp_head.specs.Kept.{Shows}
use Rattle.pp_client.specs.Bodies.{IsIdle, IsKept, kept}
use Rattle.pp_client.specs.Found.{found_in}
use Rattle.pp_client.specs.Inside.{read_from}
use Rattle.pp_client.specs.Requests.{IsHead}
use Rattle.pp_client.proofs.FoundLemmas.{found_kept, some_idle, taken_some}
use Rattle.pp_client.proofs.KeptLemmas.{from_head}
use Rattle.pp_client.proofs.heard.Heard.split.Goals as goal

pub invariant_of-self : goal.invariant_of-self
invariant_of-self c =
    let head : c.try_extend_from_slice.new.self.items ≡ take c.in-Some.found.len c.self.inside.rest = grind (arith, common_steps) in
    let own = ap (take c.in-Some.found.len) c.as_slice.ensures ∙ sym head in
    let front : 0 < length (take c.in-Some.found.len c.self.inside.rest) = taken_some c.in-Some.found.len c.self.inside.rest c.in-Some.ensures.some (grind (arith, common_steps)) in
    let some : 0 < length c.try_extend_from_slice.new.self.items = subst (λ xs. 0 < length xs) (sym head) front in
    let rest : c.took-2.new.self ≡ kept c.in-Some.found.body (drop c.in-Some.found.len c.self.inside.rest) = grind (arith, common_steps) in
    record {
      step = record {
        head = subst IsHead own c.in-Some.ensures.head;
        kept = subst (λ xs. IsKept xs c.in-Some.found.body) (sym rest)
            (found_kept (request_at c.self.inside.rest) c.in-Some.found (drop c.in-Some.found.len c.self.inside.rest)
            (c.in-Some.ensures.found ∙ ap (λ xs. found_in (request_at xs)) c.as_slice.ensures));
        idle = subst (λ xs. IsIdle xs c.in-Some.found.body) (sym head)
            (some_idle (take c.in-Some.found.len c.self.inside.rest) c.in-Some.found.body front);
      };
      room = grind (arith, common_steps);
      kept = subst (λ kept. Shows kept (read_from c.try_extend_from_slice.new.self.items c.took-2.new.self)) c.deref.ensures
          (subst (λ bytes. Shows c.deref.result.now bytes) (own ∙ sym (from_head c.try_extend_from_slice.new.self.items c.took-2.new.self some)) c.in-Some.ensures.alone);
    }
