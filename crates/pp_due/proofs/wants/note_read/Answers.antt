use Rattle.std.proofs.Common.{◌≡◌, ◌∙◌, ap, arith, List, ℕ, subst, sym, Ok, Err}
use Rattle.std.proofs.lemmas.Grind.{common_steps}
use Rattle.pp_state.specs.Ends.{AreInOrder}
use Rattle.pp_state.specs.Numbers.{with_read_by, with_number}
use Rattle.pp_state.proofs.NumbersLemmas.{Finds, if_same, none_leaves, popped, put_in, read_in_order, stays}
use Rattle.pp_due.proofs.wants.note_read.Goals as goal

pub returns-then-not-is_read-clause-is : goal.returns-then-not-is_read-clause-is
returns-then-not-is_read-clause-is c = λ rises.
    let ms = c.args.read.now.items in
    popped c.args.id ms c.in-Ok.place rises c.pop_at.new.self.items c.pop_at.result (subst (λ (ns : List ℕ). Finds c.args.id ns (Ok c.in-Ok.place)) c.as_slice.ensures.value c.in-Ok.ensures.position) c.pop_at.ensures.value c.pop_at.ensures.items ∙ sym (ap (λ b. with_read_by b c.args.id ms) c.if-not-is_read.true)

pub returns-then-not-is_read-clause-order : goal.returns-then-not-is_read-clause-order
returns-then-not-is_read-clause-order c = λ rises.
    let ms = c.args.read.now.items in
    let is : c.pop_at.new.self.items ≡ with_read_by c.args.is_read c.args.id ms =
    popped c.args.id ms c.in-Ok.place rises c.pop_at.new.self.items c.pop_at.result (subst (λ (ns : List ℕ). Finds c.args.id ns (Ok c.in-Ok.place)) c.as_slice.ensures.value c.in-Ok.ensures.position) c.pop_at.ensures.value c.pop_at.ensures.items ∙ sym (ap (λ b. with_read_by b c.args.id ms) c.if-not-is_read.true) in
    subst (λ (ns : List ℕ). AreInOrder ns) (sym is) (read_in_order c.args.is_read c.args.id ms rises)

pub returns-else-not-is_read-clause-is : goal.returns-else-not-is_read-clause-is
returns-else-not-is_read-clause-is c = λ rises.
    let ms = c.args.read.now.items in
    if_same (with_number c.args.id ms) ms (stays c.args.id ms c.in-Ok.place rises (subst (λ (ns : List ℕ). Finds c.args.id ns (Ok c.in-Ok.place)) c.as_slice.ensures.value c.in-Ok.ensures.position)) ∙ sym (ap (λ b. with_read_by b c.args.id ms) c.if-not-is_read.false)

pub returns-then-is_read-clause-is : goal.returns-then-is_read-clause-is
returns-then-is_read-clause-is c = λ rises.
    let ms = c.args.read.now.items in
    put_in c.args.id ms c.in-Err.place rises c.try_insert.new.self.items c.try_insert.result (subst (λ (ns : List ℕ). Finds c.args.id ns (Err c.in-Err.place)) c.as_slice.ensures.value c.in-Err.ensures.position) (λ less. c.try_insert.ensures.variant.1 less) c.try_insert.ensures.ok (grind (arith, common_steps)) (grind (arith, common_steps))
    ∙ sym (ap (λ b. with_read_by b c.args.id ms) c.if-is_read.true)

pub returns-then-is_read-clause-order : goal.returns-then-is_read-clause-order
returns-then-is_read-clause-order c = λ rises.
    let ms = c.args.read.now.items in
    let is : c.try_insert.new.self.items ≡ with_read_by c.args.is_read c.args.id ms =
    put_in c.args.id ms c.in-Err.place rises c.try_insert.new.self.items c.try_insert.result (subst (λ (ns : List ℕ). Finds c.args.id ns (Err c.in-Err.place)) c.as_slice.ensures.value c.in-Err.ensures.position) (λ less. c.try_insert.ensures.variant.1 less) c.try_insert.ensures.ok (grind (arith, common_steps)) (grind (arith, common_steps))
    ∙ sym (ap (λ b. with_read_by b c.args.id ms) c.if-is_read.true) in
    subst (λ (ns : List ℕ). AreInOrder ns) (sym is) (read_in_order c.args.is_read c.args.id ms rises)

pub returns-else-is_read-clause-is : goal.returns-else-is_read-clause-is
returns-else-is_read-clause-is c = λ rises.
    let ms = c.args.read.now.items in
    sym (none_leaves c.args.id ms c.in-Err.place rises (subst (λ (ns : List ℕ). Finds c.args.id ns (Err c.in-Err.place)) c.as_slice.ensures.value c.in-Err.ensures.position)) ∙ sym (ap (λ b. with_read_by b c.args.id ms) c.if-is_read.false)
