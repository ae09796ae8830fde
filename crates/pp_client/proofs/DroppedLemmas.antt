-- Bytes that are dropped in pieces.
use Rattle.std.proofs.Common.{◌≡◌, ◌<◌, ◌≤◌, ◌+◌, ◌-◌, ◌⊎◌, inl, inr, ℕ, List, [], ◌++◌, length, drop, refl, sym, ◌∙◌, ap, arith, length-append}
use Rattle.std.proofs.Math.Seq.{drop-append-add}
use Rattle.std.proofs.lemmas.Bool.{cases_lt}
use Rattle.std.proofs.lemmas.List.{drop-append-le, drop_all}
use Rattle.pp_client.specs.declared.body.Body.{Body}
use Rattle.pp_client.specs.declared.body.Body.TheVariants.{Unread, Dropped, Over}
use Rattle.pp_client.specs.Bodies.{kept, later}

pub dropped_both : (n : ℕ) (a b : List ℕ) → drop n (a ++ b) ≡ drop n a ++ drop (n - length a) b
dropped_both n a b = by (cases_lt (length a) n)
  where
    by : (length a < n) ⊎ (n ≤ length a) → drop n (a ++ b) ≡ drop n a ++ drop (n - length a) b
    by (inl past) =
        let whole : n ≡ length a + (n - length a) = omega (arith, past) in
        let none : drop n a ≡ [] = drop_all n a (omega (arith, past)) in
        ap (λ k. drop k (a ++ b)) whole ∙ drop-append-add a b (n - length a) ∙ ap (λ xs. xs ++ drop (n - length a) b) (sym none)
    by (inr within) =
        let none : n - length a ≡ 0 = omega (arith, within) in
        drop-append-le n a b within ∙ ap (λ k. drop n a ++ drop k b) (sym none)

pub kept_both : (body : Body) (a b : List ℕ) → kept body (a ++ b) ≡ kept body a ++ kept (later body (length a)) b
kept_both (Unread n) a b = refl
kept_both (Dropped n) a b = dropped_both n a b
kept_both Over a b = refl

pub later_both : (body : Body) (a b : List ℕ) → later body (length (a ++ b)) ≡ later (later body (length a)) (length b)
later_both (Unread n) a b = refl
later_both (Dropped n) a b = ap Dropped (let e : n - length (a ++ b) ≡ n - length a - length b = omega (arith, length-append a b) in e)
later_both Over a b = refl
