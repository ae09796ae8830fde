-- What the laws refuse: bytes on record of which nothing came, and a response that is passed of which nothing came.
use Rattle.std.proofs.Common.{◌≡◌, refl, ℕ, [], ◌∷◌, ◌++◌, sym, ap, ◌∙◌}
use Rattle.pp_head.specs.Read.{Whole, More}
use Rattle.pp_framing.specs.declared.body.BodyRule.{BodyRule}
use Rattle.pp_head.specs.Response.{Response, response_at}
use Rattle.pp_law.specs.Lists.{Bytes}
use Rattle.pp_law.specs.State.{Sent, Exchange}
use Rattle.pp_laws_pool.proofs.PoolFacts.{nothing_read}
use Rattle.pp_laws_sent.specs.Relayed.{HasCome}
use Rattle.pp_laws_sent.specs.Stands.{StandsIn}

parts_of_nothing : (xs ys : Bytes) → [] ≡ xs ++ ys → (xs ≡ []) × (ys ≡ [])
parts_of_nothing [] ys is = (refl, sym is)
parts_of_nothing (x ∷ xs) ys is = absurd (cc is)

-- where nothing came on any connection, nothing was sent
nothing_came : (was_asked : ℕ → Exchange → Type 0) (part : Sent) → StandsIn (λ number. []) was_asked part → ⊥
nothing_came was_asked part w =
    let all = parts_of_nothing (w.before ++ w.head) w.body w.stream in
    let heads = parts_of_nothing w.before w.head (sym all.0) in
    let none : w.head ++ w.body ≡ [] = ap (λ (xs : Bytes). xs ++ w.body) heads.1 ∙ all.1 in
    let both : Whole w.response ≡ More = sym w.whole ∙ ap response_at none ∙ nothing_read in
    cc both

-- nor did a response come that is passed
no_response : (was_asked : Exchange → Type 0) (number : ℕ) (head : Response) (rule : BodyRule) (raw : Bytes) → HasCome [] was_asked number head rule raw → ⊥
no_response was_asked number head rule raw w =
    let all = parts_of_nothing (w.before ++ w.text) raw w.stream in
    let heads = parts_of_nothing w.before w.text (sym all.0) in
    let none : w.text ++ raw ≡ [] = ap (λ (xs : Bytes). xs ++ raw) heads.1 ∙ all.1 in
    let both : Whole head ≡ More = sym w.whole ∙ ap response_at none ∙ nothing_read in
    cc both
