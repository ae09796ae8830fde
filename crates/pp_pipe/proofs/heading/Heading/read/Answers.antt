use Rattle.std.proofs.Common.{ℕ, List, subst, arith}
use Rattle.std.proofs.lemmas.List.{length-drop, take_rest}
use Rattle.pp_pipe.specs.Answers.{IsPassedOver}
use Rattle.pp_pipe.proofs.Pieces.{read_over}
use Rattle.pp_pipe.proofs.heading.Heading.read.Goals as goal

pub loop-n-preserved : goal.loop-n-preserved
loop-n-preserved c =
    let i = c.loop-n.invariant in
    let bytes : List ℕ = c.args.bytes.now in
    let used : ℕ = c.loop-n.used in
    let passed = subst (λ (t : List ℕ). IsPassedOver c.args.head_request c.loop-n.self t c.in-Interim.n c.read_one.new.self) (take_rest bytes used) c.in-Interim.ensures in
    let over = read_over c.args.head_request c.args.self.now c.loop-n.self bytes used c.in-Interim.n c.read_one.new.self i.front passed in
    record { within = omega (arith, passed.within, i.within, length-drop used bytes); head = over.0; front = over.1 }
