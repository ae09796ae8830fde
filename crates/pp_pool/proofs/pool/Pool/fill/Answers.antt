use Rattle.std.proofs.Common.{◌≡◌, ◌+◌, ◌*◌, length, Some, arith, refl, sym, ◌∙◌, ap}
use Rattle.std.proofs.lemmas.Option.{slice_get-get_or}
use Rattle.std.specs.Prelude.{slice_get}
use Rattle.pp_pool.specs.Chunks.{IsUsed}
use Rattle.pp_pool.proofs.Views.{distinct_seen}
use Rattle.pp_pool.proofs.Sound.{in_range, is_backed, fits_in, same_slot, written, sound-filled, chunks-filled}
use Rattle.pp_pool.proofs.pool.Pool.fill.Goals as goal

pub index-requires : goal.index-requires
index-requires c = omega (arith, in_range c.self.inside c.args.self.now c.chunk.inside.number c.self.invariant c.self.view_is (rw c.chunk.view_is c.requires.used), c.self.inside.slots.ok.0)

pub index_mut-requires : goal.index_mut-requires
index_mut-requires c = omega (arith, in_range c.self.inside c.args.self.now c.chunk.inside.number c.self.invariant c.self.view_is (rw c.chunk.view_is c.requires.used), c.self.inside.slots.ok.0)

pub slice_bounds-free-end : goal.slice_bounds-free-end
slice_bounds-free-end c =
    let used : IsUsed c.chunk.inside.number c.args.self.now = rw c.chunk.view_is c.requires.used in
    let lt = in_range c.self.inside c.args.self.now c.chunk.inside.number c.self.invariant c.self.view_is used in
    let there : slice_get c.self.inside.slots.items c.chunk.inside.number ≡ Some c.index.result.now = slice_get-get_or c.self.inside.slots.items c.chunk.inside.number c.index.result.now lt ∙ ap (λ s. Some s) (sym c.index.ensures) in
    let room = fits_in c.self.inside c.args.self.now c.chunk.inside.number (length c.args.bytes.now) c.index.result.now c.self.invariant c.self.view_is used there (rw c.chunk.view_is c.requires.fits) in
    let backed = is_backed c.self.inside c.args.self.now c.chunk.inside.number c.self.invariant c.self.view_is used in
    omega (arith, room, backed, ap length c.deref_mut.ensures.value)

pub overflow_add-filled : goal.overflow_add-filled
overflow_add-filled c =
    let used : IsUsed c.chunk.inside.number c.args.self.now = rw c.chunk.view_is c.requires.used in
    let lt = in_range c.self.inside c.args.self.now c.chunk.inside.number c.self.invariant c.self.view_is used in
    let there : slice_get c.self.inside.slots.items c.chunk.inside.number ≡ Some c.index.result.now = slice_get-get_or c.self.inside.slots.items c.chunk.inside.number c.index.result.now lt ∙ ap (λ s. Some s) (sym c.index.ensures) in
    let room = fits_in c.self.inside c.args.self.now c.chunk.inside.number (length c.args.bytes.now) c.index.result.now c.self.invariant c.self.view_is used there (rw c.chunk.view_is c.requires.fits) in
    let backed = is_backed c.self.inside c.args.self.now c.chunk.inside.number c.self.invariant c.self.view_is used in
    omega (arith, room)

pub invariant_of-self : goal.invariant_of-self
invariant_of-self c =
    let used : IsUsed c.chunk.inside.number c.args.self.now = rw c.chunk.view_is c.requires.used in
    let lt = in_range c.self.inside c.args.self.now c.chunk.inside.number c.self.invariant c.self.view_is used in
    let there : slice_get c.self.inside.slots.items c.chunk.inside.number ≡ Some c.index.result.now = slice_get-get_or c.self.inside.slots.items c.chunk.inside.number c.index.result.now lt ∙ ap (λ s. Some s) (sym c.index.ensures) in
    let room = fits_in c.self.inside c.args.self.now c.chunk.inside.number (length c.args.bytes.now) c.index.result.now c.self.invariant c.self.view_is used there (rw c.chunk.view_is c.requires.fits) in
    let backed = is_backed c.self.inside c.args.self.now c.chunk.inside.number c.self.invariant c.self.view_is used in
    let bytes = written c.self.inside.block (c.chunk.inside.number * 4096 + c.index.result.now.filled) c.deref_mut.result.now c.copy_from_slice.new.self c.args.bytes.now c.deref_mut.ensures.value c.copy_from_slice.ensures.after (omega (arith, room, backed)) in
    sound-filled c.self.inside _ c.chunk.inside.number _ c.self.invariant bytes.long refl refl refl room

pub returns-clause-filled : goal.returns-clause-filled
returns-clause-filled c =
    let used : IsUsed c.chunk.inside.number c.args.self.now = rw c.chunk.view_is c.requires.used in
    let lt = in_range c.self.inside c.args.self.now c.chunk.inside.number c.self.invariant c.self.view_is used in
    let there : slice_get c.self.inside.slots.items c.chunk.inside.number ≡ Some c.index.result.now = slice_get-get_or c.self.inside.slots.items c.chunk.inside.number c.index.result.now lt ∙ ap (λ s. Some s) (sym c.index.ensures) in
    let room = fits_in c.self.inside c.args.self.now c.chunk.inside.number (length c.args.bytes.now) c.index.result.now c.self.invariant c.self.view_is used there (rw c.chunk.view_is c.requires.fits) in
    let backed = is_backed c.self.inside c.args.self.now c.chunk.inside.number c.self.invariant c.self.view_is used in
    let bytes = written c.self.inside.block (c.chunk.inside.number * 4096 + c.index.result.now.filled) c.deref_mut.result.now c.copy_from_slice.new.self c.args.bytes.now c.deref_mut.ensures.value c.copy_from_slice.ensures.after (omega (arith, room, backed)) in
    let same = same_slot c.self.inside.slots.items c.chunk.inside.number c.index.result.now c.index_mut.result.now c.index.ensures c.index_mut.ensures.value lt in
    rw (← c.chunk.view_is) (chunks-filled c.self.inside _ _ c.args.self.now c.chunk.inside.number _ c.index.result.now c.args.bytes.now c.self.invariant lt c.self.view_is
    refl bytes.is there (ap (λ s. s.owner) same) (ap (λ s. s.index) same) refl room backed)

pub returns-clause-distinct : goal.returns-clause-distinct
returns-clause-distinct c = distinct_seen _ _ c.self.inside.order.used c.self.invariant.distinct
