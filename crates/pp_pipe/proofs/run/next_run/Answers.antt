use Rattle.std.proofs.Common.{◌≡◌, ◌≤◌, ◌++◌, ℕ, List, length, drop, slice_range, subst, arith}
use Rattle.std.proofs.lemmas.List.{length-drop, take_rest}
use Rattle.pp_framing.specs.Body.{behind}
use Rattle.pp_framing.specs.Places.{read_from}
use Rattle.pp_pipe.proofs.Runs.{continued}
use Rattle.pp_pipe.proofs.run.next_run.Goals as goal

pub loop-used-preserved : goal.loop-used-preserved
loop-used-preserved c =
    let i = c.loop-used.invariant in
    let f = c.feed-fed.ensures in
    let fed = c.feed-fed.result in
    let bytes : List ℕ = c.args.bytes.now in
    let tail = take_rest bytes c.loop-used.used in
    let taken : fed.used ≤ length (drop c.loop-used.used bytes) = subst (λ (t : List ℕ). fed.used ≤ length t) tail f.within.1 in
    record {
      within = omega (arith, i.within, taken, length-drop c.loop-used.used bytes);
      body = continued _ c.loop-used.decoder _ bytes c.loop-used.used fed.body.0 fed.body.1 fed.used i.body
          (subst (λ (t : List ℕ). (more : List ℕ) → read_from c.loop-used.decoder (t ++ more) ≡ behind (slice_range t fed.body.0 fed.body.1) (read_from c.feed-fed.new.self (drop fed.used t ++ more))) tail f.reads)
          f.kind (omega (arith, c.if-body.false));
    }
