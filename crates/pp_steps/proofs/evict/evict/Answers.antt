use Rattle.std.proofs.Common.{◌≡◌, ◌<◌, ◌≤◌, ◌∙◌, arith, false, le_trans, length, refl, sym}
use Rattle.std.proofs.lemmas.Grind.{common_steps}
use Rattle.std.specs.Prelude.{is_some}
use Rattle.pp_links.proofs.QuietLemmas.{quiet_none, quiet_then}
use Rattle.pp_steps.specs.Evicting.{next_victim}
use Rattle.pp_steps.proofs.EvictingLemmas.{AllEvicted, evicts-end, evicts-last, evicts-next, evicts-none}
use Rattle.pp_steps.proofs.evict.evict.Goals as goal

pub loop-chunk-init : goal.loop-chunk-init
loop-chunk-init g c = record {
  linked = c.requires;
  quiet = quiet_none (g.W.Logged.log c.args.world.now);
  evicts = evicts-none c.args.pins.now.items c.args.floor c.args.cache.now (g.W.Logged.log c.args.world.now);
  faults = omega arith;
  top = refl;
}

pub loop-chunk-preserved : goal.loop-chunk-preserved
loop-chunk-preserved g c =
    let first = c.args.cache.now in
    let less : c.loop-chunk._chunk < length first.chunks = omega (arith, c.loop-chunk-test.true, c.used-chunk-end.ensures) in record {
      linked = c.evict_next.ensures.linked;
      quiet = quiet_then c.loop-chunk.invariant.quiet c.evict_next.ensures.quiet;
      evicts =
          evicts-next c.loop-chunk._chunk c.args.pins.now.items c.args.floor first c.loop-chunk.cache c.evict_next.new.cache c.loop-chunk.invariant.evicts less c.evict_next.ensures.is c.evict_next.ensures.told;
      faults = le_trans c.loop-chunk.invariant.faults c.evict_next.ensures.faults;
      top = c.evict_next.ensures.top ∙ c.loop-chunk.invariant.top;
    }

pub returns-then-not-evict_next-clause-is : goal.returns-then-not-evict_next-clause-is
returns-then-not-evict_next-clause-is g c =
    let first = c.args.cache.now in
    let now = c.loop-chunk.cache in
    let less : c.loop-chunk._chunk < length first.chunks = omega (arith, c.loop-chunk-test.true, c.used-chunk-end.ensures) in
    let none : is_some (next_victim c.args.pins.now.items c.args.floor now.chunks) ≡ false = first_of (cc, grind (arith, common_steps)) in
    let all : AllEvicted c.args.pins.now.items c.args.floor first c.evict_next.new.cache (g.W.Logged.log c.args.world.now) (g.W.Logged.log c.evict_next.new.world) =
    evicts-last c.loop-chunk._chunk c.args.pins.now.items c.args.floor first now c.evict_next.new.cache c.loop-chunk.invariant.evicts less c.evict_next.ensures.is c.evict_next.ensures.told none in
    all.is

pub returns-then-not-evict_next-clause-told : goal.returns-then-not-evict_next-clause-told
returns-then-not-evict_next-clause-told g c =
    let first = c.args.cache.now in
    let now = c.loop-chunk.cache in
    let less : c.loop-chunk._chunk < length first.chunks = omega (arith, c.loop-chunk-test.true, c.used-chunk-end.ensures) in
    let none : is_some (next_victim c.args.pins.now.items c.args.floor now.chunks) ≡ false = first_of (cc, grind (arith, common_steps)) in
    let all : AllEvicted c.args.pins.now.items c.args.floor first c.evict_next.new.cache (g.W.Logged.log c.args.world.now) (g.W.Logged.log c.evict_next.new.world) =
    evicts-last c.loop-chunk._chunk c.args.pins.now.items c.args.floor first now c.evict_next.new.cache c.loop-chunk.invariant.evicts less c.evict_next.ensures.is c.evict_next.ensures.told none in
    all.told

pub returns-clause-is : goal.returns-clause-is
returns-clause-is g c =
    let first = c.args.cache.now in
    let more : length first.chunks ≤ c.loop-chunk._chunk = omega (arith, c.loop-chunk-test.false, c.used-chunk-end.ensures) in
    let all : AllEvicted c.args.pins.now.items c.args.floor first c.loop-chunk.cache (g.W.Logged.log c.args.world.now) (g.W.Logged.log c.loop-chunk.world) =
    evicts-end c.loop-chunk._chunk c.args.pins.now.items c.args.floor first c.loop-chunk.cache c.loop-chunk.invariant.evicts more in
    all.is

pub returns-clause-told : goal.returns-clause-told
returns-clause-told g c =
    let first = c.args.cache.now in
    let more : length first.chunks ≤ c.loop-chunk._chunk = omega (arith, c.loop-chunk-test.false, c.used-chunk-end.ensures) in
    let all : AllEvicted c.args.pins.now.items c.args.floor first c.loop-chunk.cache (g.W.Logged.log c.args.world.now) (g.W.Logged.log c.loop-chunk.world) =
    evicts-end c.loop-chunk._chunk c.args.pins.now.items c.args.floor first c.loop-chunk.cache c.loop-chunk.invariant.evicts more in
    all.told
