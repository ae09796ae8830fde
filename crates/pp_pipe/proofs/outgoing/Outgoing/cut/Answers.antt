use Rattle.std.proofs.Common.{◌≡◌, ◌+◌, ◌≤◌, ℕ, List, length, drop, ap, ◌∙◌, arith}
use Rattle.std.proofs.lemmas.List.{length-drop}
use Rattle.pp_pipe.specs.Line.{without_span}
use Rattle.pp_pipe.proofs.Taking.{cut_behind}
use Rattle.pp_pipe.proofs.outgoing.Outgoing.cut.Goals as goal

pub returns : goal.returns
returns c =
    let front : ℕ = c.self.inside.front in
    let items : List ℕ = c.self.inside.bytes.items in
    let view : drop front items ≡ c.args.self.now = c.self.view_is in
    let within : front + c.args.to ≤ length items = omega (arith, c.requires.within, ap length view, length-drop front items, c.self.invariant.0) in
    ap (drop front) c.remove_span.ensures.items ∙ cut_behind front c.args.from c.args.to items c.requires.order within ∙ ap (without_span c.args.from c.args.to) view
