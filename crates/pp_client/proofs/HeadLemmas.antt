-- A head that is whole is read the same, whatever follows it.
use Rattle.std.proofs.Common.{◌≡◌, ℕ, List, [], ◌∷◌, ◌++◌, sym, ◌∙◌, subst}
use Rattle.pp_head.specs.Read.{Whole, Stays}
use Rattle.pp_head.specs.Request.{Request, request_at}
use Rattle.pp_head.proofs.RequestAgrees.{request_stays}
use Rattle.pp_client.specs.Requests.{IsHead}

pub whole_stays : (head : List ℕ) (request : Request) → request_at head ≡ Whole request → (more : List ℕ) → request_at (head ++ more) ≡ Whole request
whole_stays head request whole more =
    let stays : Stays request_at head (Whole request) = subst (Stays request_at head) whole (request_stays head) in
    stays more

pub whole_is_head : (head : List ℕ) (request : Request) → request_at head ≡ Whole request → IsHead head
whole_is_head [] request whole = tt
whole_is_head (b ∷ head) request whole = λ more. whole_stays (b ∷ head) request whole more ∙ sym whole
