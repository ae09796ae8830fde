use Rattle.std.proofs.Common.{◌<◌, rules, subst, sym, vec_capacity, vec_len, List, ℕ, Ok, Err}
use Rattle.pp_state.proofs.NumbersLemmas.{Finds, roused, stays}
use Rattle.pp_state.proofs.state.State.rouse.Goals as goal

pub returns-in-Err-clause-too : goal.returns-in-Err-clause-too
returns-in-Err-clause-too c = λ rises room.
    let fits : vec_len c.args.self.now.awake < vec_capacity c.args.self.now.awake = search (rules, room) in
    roused c.args.i c.args.self.now.awake.items c.in-Err.place rises c.insert.new.self.items c.insert.result (subst (λ (ns : List ℕ). Finds c.args.i ns (Err c.in-Err.place)) c.as_slice.ensures.value c.in-Err.ensures.position) (c.insert.ensures.succeeds fits) c.insert.ensures.items

pub returns-in_default-clause-too : goal.returns-in_default-clause-too
returns-in_default-clause-too c = λ rises room. sym (stays c.args.i c.args.self.now.awake.items c.in_default.field-0 rises (subst (λ (ns : List ℕ). Finds c.args.i ns (Ok c.in_default.field-0)) c.as_slice.ensures.value c.in_default.ensures.position))
