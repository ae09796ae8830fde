-- What was heard, by its parts.
use Rattle.std.proofs.Common.{◌≡◌, List, ℕ, ◌∙◌, ap}
use Rattle.pp_client.specs.declared.body.Body.{Body}
use Rattle.pp_client.specs.Requests.{Heard}

abbrev pub of : List ℕ → List ℕ → Body → Heard
of head rest body = record { head = head; rest = rest; body = body }

pub same_parts : (head : List ℕ) {rest rest' : List ℕ} {body body' : Body} → rest ≡ rest' → body ≡ body' → of head rest body ≡ of head rest' body'
same_parts head {rest' = rest'} {body = body} same alike = ap (λ r. of head r body) same ∙ ap (of head rest') alike
