use Rattle.std.proofs.Common.{◌≡◌, ◌+◌, ◌*◌, ◌-◌, length, take, drop, Some, arith, sym, ◌∙◌, ap}
use Rattle.std.proofs.lemmas.Option.{slice_get-get_or}
use Rattle.std.specs.Prelude.{slice_get}
use Rattle.pp_pool.specs.Chunks.{IsUsed, bytes_in}
use Rattle.pp_pool.proofs.Views.{short_at}
use Rattle.pp_pool.proofs.Sound.{in_range, is_backed, found_in}
use Rattle.pp_pool.proofs.pool.Pool.bytes.Goals as goal

pub index-requires : goal.index-requires
index-requires c = omega (arith, in_range c.self.inside c.args.self.now c.chunk.inside.number c.self.invariant c.self.view_is (rw c.chunk.view_is c.requires), c.self.inside.slots.ok.0)

pub slice_bounds-result-end : goal.slice_bounds-result-end
slice_bounds-result-end c =
    let used : IsUsed c.chunk.inside.number c.args.self.now = rw c.chunk.view_is c.requires in
    let lt = in_range c.self.inside c.args.self.now c.chunk.inside.number c.self.invariant c.self.view_is used in
    let there : slice_get c.self.inside.slots.items c.chunk.inside.number ≡ Some c.index.result.now = slice_get-get_or c.self.inside.slots.items c.chunk.inside.number c.index.result.now lt ∙ ap (λ s. Some s) (sym c.index.ensures) in
    let short = short_at c.self.inside.slots.items c.chunk.inside.number c.index.result.now c.self.invariant.short there in
    let long : length c.deref.result.now ≡ length c.self.inside.block.items = ap length c.deref.ensures.value in
    omega (arith, is_backed c.self.inside c.args.self.now c.chunk.inside.number c.self.invariant c.self.view_is used, short, long)

pub returns : goal.returns
returns c =
    let used : IsUsed c.chunk.inside.number c.args.self.now = rw c.chunk.view_is c.requires in
    let lt = in_range c.self.inside c.args.self.now c.chunk.inside.number c.self.invariant c.self.view_is used in
    let there : slice_get c.self.inside.slots.items c.chunk.inside.number ≡ Some c.index.result.now = slice_get-get_or c.self.inside.slots.items c.chunk.inside.number c.index.result.now lt ∙ ap (λ s. Some s) (sym c.index.ensures) in
    let less : c.chunk.inside.number * 4096 + c.index.result.now.filled - c.chunk.inside.number * 4096 ≡ c.index.result.now.filled = omega arith in
    ap (λ n. take n (drop (c.chunk.inside.number * 4096) c.deref.result.now)) less
    ∙ ap (λ bs. take c.index.result.now.filled (drop (c.chunk.inside.number * 4096) bs)) c.deref.ensures.value
    ∙ found_in c.self.inside c.args.self.now c.chunk.inside.number c.index.result.now c.self.invariant c.self.view_is used there
    ∙ ap (λ n. bytes_in n c.args.self.now.used) c.chunk.view_is
