use Rattle.std.proofs.Common.{◌≡◌, ◌++◌, [], length, ◌∙◌, ap, arith, subst, sym}
use Rattle.std.proofs.lemmas.Grind.{common_steps}
use Rattle.pp_head.specs.Kept.{Shows}
use Rattle.pp_client.specs.Bodies.{IsIdle, IsKept, kept}
use Rattle.pp_client.specs.Inside.{heard_as}
use Rattle.pp_client.specs.Requests.{Heard, heard_in}
use Rattle.pp_client.proofs.KeptLemmas.{from_rest}
use Rattle.pp_client.proofs.ReadInOrder.{heard_in_pieces, idle_later, kept_later}
use Rattle.pp_client.proofs.heard.Heard.hear.Goals as goal

pub invariant_of-self : goal.invariant_of-self
invariant_of-self c =
    let h = c.self.inside in
    let none : h.head.value.items ≡ [] = grind (arith, common_steps) in
    let idle : IsIdle [] h.body = subst (λ head. IsIdle head h.body) none c.self.invariant.step.idle in
    let rest : c.put.new.self ≡ h.rest ++ kept h.body c.args.bytes.now = grind (arith, common_steps) in
    record {
      step = record {
        head = c.self.invariant.step.head;
        kept = subst (λ xs. IsKept xs c.later-self-inside.result) (sym rest)
            (subst (IsKept (h.rest ++ kept h.body c.args.bytes.now)) (sym c.later-self-inside.ensures) (kept_later h.rest h.body c.args.bytes.now c.self.invariant.step.kept idle));
        idle = subst (λ head. IsIdle head c.later-self-inside.result) (sym none)
            (subst (IsIdle []) (sym c.later-self-inside.ensures) (idle_later h.body (length c.args.bytes.now) idle));
      };
      room = grind (arith, common_steps);
      kept = subst (Shows c.read.new.self) (c.as_slice.ensures ∙ sym (from_rest h.head.value.items c.put.new.self none)) c.read.ensures;
    }

pub returns-then-is_empty-clause-pieces : goal.returns-then-is_empty-clause-pieces
returns-then-is_empty-clause-pieces c =
    let heard : c.split.new.self ≡ heard_in c.args.bytes.now c.args.self.now = grind (arith, common_steps) in
    λ more.
    subst (λ h. heard_in (c.args.bytes.now ++ more) h ≡ heard_in more (heard_in c.args.bytes.now h)) c.self.view_is
    (heard_in_pieces (heard_as c.self.inside) c.args.bytes.now more c.self.invariant.step)
    ∙ ap (heard_in more) (sym heard)

pub returns-else-is_empty-clause-pieces : goal.returns-else-is_empty-clause-pieces
returns-else-is_empty-clause-pieces c =
    let now : Heard = record { head = c.self.inside.head.value.items; rest = c.put.new.self; body = c.later-self-inside.result } in
    let heard : now ≡ heard_in c.args.bytes.now c.args.self.now = grind (arith, common_steps) in
    λ more.
    subst (λ h. heard_in (c.args.bytes.now ++ more) h ≡ heard_in more (heard_in c.args.bytes.now h)) c.self.view_is
    (heard_in_pieces (heard_as c.self.inside) c.args.bytes.now more c.self.invariant.step)
    ∙ ap (heard_in more) (sym heard)
