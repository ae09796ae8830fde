use Rattle.std.proofs.Common.{◌≡◌, ◌+◌, ◌-◌, ◌≤◌, ℕ, List, length, sym, subst, ap, ◌∙◌}
use Rattle.std.specs.List.{refill}
use Rattle.pp_pipe.specs.Asks.{all_taken, out_room, total}
use Rattle.pp_pipe.specs.declared.asks.Ask.{Ask}
use Rattle.pp_pipe.proofs.Taking.{left_over, length_taken, refill_whole}
use Rattle.pp_pipe.proofs.pipe.Pipe.took.Goals as goal

pub invariant_of-self : goal.invariant_of-self
invariant_of-self c =
    let n : ℕ = c.args.n in
    let stray : ℕ = c.self.inside.stray in
    let of_stray : ℕ = c.min-of_stray.result in
    let asks : List Ask = c.self.inside.asks.items in
    let taken = c.take-2.ensures ∙ ap (all_taken (n - of_stray)) c.deref_mut.ensures.value in
    let whole : refill (length asks) asks c.take-2.new.asks ≡ all_taken (n - of_stray) asks = refill_whole asks c.take-2.new.asks (ap length taken ∙ length_taken (n - of_stray) asks) ∙ taken in
    let over = left_over n stray of_stray asks c.self.inside.out c.min-of_stray.ensures c.self.invariant.0 c.self.invariant.1 in (
      ap (λ (xs : List Ask). stray - of_stray + total xs) whole ∙ over.0 ∙ sym (ap length c.take.ensures),
      subst (λ (out : List ℕ). length out ≤ out_room) (sym c.take.ensures) over.1,
    )
