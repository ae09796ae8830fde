use Rattle.std.proofs.Common.{◌≡◌, ℕ, List, ◌++◌, drop, false}
use Rattle.pp_framing.specs.Places.{read_from, is_framing, is_unbounded}
use Rattle.pp_framing.specs.Sound.{IsSound}
use Rattle.pp_framing.proofs.decoder.framing.Given as goal

abbrev pub invariant-loop-used : goal.invariant-loop-used
invariant-loop-used l = record {
  sound : IsSound l.place;
  reads : (more : List ℕ) → read_from l.fn.start (l.bytes ++ more) ≡ read_from l.place (drop l.used l.bytes ++ more);
  same : is_framing l.fn.start ≡ false → l.place ≡ l.fn.start;
  none : is_framing l.fn.start ≡ false → l.used ≡ 0;
  kind : is_unbounded l.place ≡ is_unbounded l.fn.start;
  front : l.used ≡ 0 → l.place ≡ l.fn.start;
}
