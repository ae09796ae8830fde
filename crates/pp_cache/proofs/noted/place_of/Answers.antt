use Rattle.std.proofs.Common.{◌≡◌, ◌∙◌, true, false, bytes_eq, ap, sym}
use Rattle.pp_cache.proofs.NotesLemmas.{any-next, first-here}
use Rattle.pp_cache.proofs.noted.place_of.Goals as goal

pub loop-place-preserved : goal.loop-place-preserved
loop-place-preserved c =
    let text = ap (bytes_eq c.args.key.now) (c.as_slice.ensures.value ∙ ap (λ x. x.items) c.deref.ensures) in
    let other : bytes_eq c.args.key.now c.index-keys-place.result.value.items ≡ false = sym text ∙ sym c.eq.ensures ∙ c.if-eq.false in
    any-next c.args.key.now c.args.keys.now c.loop-place.place c.index-keys-place.result c.loop-place-test.true c.index-keys-place.is c.loop-place.invariant other

pub returns-then-eq-clause-some : goal.returns-then-eq-clause-some
returns-then-eq-clause-some c =
    let text = ap (bytes_eq c.args.key.now) (c.as_slice.ensures.value ∙ ap (λ x. x.items) c.deref.ensures) in
    let same : bytes_eq c.args.key.now c.index-keys-place.result.value.items ≡ true = sym text ∙ sym c.eq.ensures ∙ c.if-eq.true in
    first-here c.args.key.now c.args.keys.now c.loop-place.place c.index-keys-place.result c.loop-place-test.true c.index-keys-place.is c.loop-place.invariant same
