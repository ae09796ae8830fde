-- A request's head that is kept as the places of its parts.
use Rattle.std.specs.Prelude.{◌≡◌, ℕ, List, take}
use Rattle.pp_head.specs.Request.{request_at}
use Rattle.pp_head.specs.Shown.{state_of, IfWhole, spanned_request, AreRequestSpans}
use Rattle.pp_head.specs.declared.kept.KeptHead.{KeptHead}

-- what is kept covers in these bytes what is read at their front, and of a whole head no byte behind it
pub record Shows (kept : KeptHead) (bytes : List ℕ) : Type 0 where
  pub value : state_of (spanned_request bytes kept.scratch.fields) kept.located ≡ request_at bytes
  pub within : IfWhole kept.located (λ spans. AreRequestSpans (take spans.len bytes) kept.scratch.fields spans)
