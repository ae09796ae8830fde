-- Framing that brings no data is read over.
use Rattle.std.proofs.Common.{◌≡◌, ◌≤◌, ◌+◌, ◌-◌, ℕ, List, [], ◌++◌, take, drop, slice_range, ◌∙◌, ap, arith}
use Rattle.std.proofs.lemmas.List.{drop-drop}
use Rattle.pp_framing.specs.Body.{behind}
use Rattle.pp_framing.specs.Places.{is_unbounded, read_from}
use Rattle.pp_framing.specs.declared.place.Place.{Place}
use Rattle.pp_pipe.specs.Feeding.{Continues}

-- a span that is empty has no data
no_run : (bytes : List ℕ) (a b : ℕ) → b ≤ a → slice_range bytes a b ≡ []
no_run bytes a b none = ap (λ (n : ℕ). take n (drop a bytes)) (let e : b - a ≡ 0 = omega (arith, none) in e)

pub continued : (start mid now : Place) (bytes : List ℕ) (used a b n : ℕ)
    → Continues start bytes [] used mid
    → ((more : List ℕ) → read_from mid (drop used bytes ++ more) ≡ behind (slice_range (drop used bytes) a b) (read_from now (drop n (drop used bytes) ++ more)))
    → is_unbounded now ≡ is_unbounded mid
    → b ≤ a
    → Continues start bytes [] (used + n) now
continued start mid now bytes used a b n before fed kind none = record {
  reads = λ more.
      before.reads more
      ∙ fed more
      ∙ ap (λ (run : List ℕ). behind run (read_from now (drop n (drop used bytes) ++ more))) (no_run (drop used bytes) a b none)
      ∙ ap (λ (t : List ℕ). read_from now (t ++ more)) (drop-drop n used bytes);
  kind = kind ∙ before.kind;
}
