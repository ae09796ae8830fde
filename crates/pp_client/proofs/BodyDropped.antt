-- A body that is dropped, heard or still to come, changes nothing of the requests behind it.
use Rattle.std.proofs.Common.{◌≡◌, ◌<◌, ◌-◌, ℕ, List, [], ◌∷◌, ◌++◌, length, drop, refl, sym, ap, arith, length-append}
use Rattle.pp_client.specs.declared.body.Body.{Body}
use Rattle.pp_client.specs.declared.body.Body.TheVariants.{Unread, Dropped, Over}
use Rattle.pp_client.specs.Bodies.{kept, later, unread, unwanted}
use Rattle.pp_client.specs.Requests.{Heard, answered, body_dropped, heard_in}
use Rattle.pp_client.proofs.DroppedLemmas.{dropped_both}
use Rattle.pp_client.proofs.HeardParts.{of, same_parts}

-- ---- the next request is the same

dropped_by : (head rest : List ℕ) (body : Body) → answered (body_dropped (of head rest body)) ≡ answered (of head rest body)
dropped_by [] rest body = refl
dropped_by (x ∷ head) rest (Unread n) = refl
dropped_by (x ∷ head) rest (Dropped n) = refl
dropped_by (x ∷ head) rest Over = refl

pub dropped_answered : (h : Heard) → answered (body_dropped h) ≡ answered h
dropped_answered h = dropped_by h.head h.rest h.body

-- ---- what comes later of the body is dropped

later_dropped : (rest : List ℕ) (body : Body) (head more : List ℕ)
    → of head (drop (unread body) rest ++ kept (unwanted body (length rest)) more) (later (unwanted body (length rest)) (length more))
    ≡ of head (drop (unread (later body (length more))) (rest ++ kept body more)) (unwanted (later body (length more)) (length (rest ++ kept body more)))
later_dropped rest (Unread m) head more =
    same_parts head (sym (dropped_both m rest more)) (ap Dropped (let e : m - length rest - length more ≡ m - length (rest ++ more) = omega (arith, length-append rest more) in e))
later_dropped rest (Dropped m) head more = refl
later_dropped rest Over head more = refl

heard_dropped : (head rest : List ℕ) (body : Body) (more : List ℕ) → 0 < length head → heard_in more (body_dropped (of head rest body)) ≡ body_dropped (heard_in more (of head rest body))
heard_dropped [] rest body more some = absurd (omega (arith, some))
heard_dropped (x ∷ head) rest body more some = later_dropped rest body (x ∷ head) more

pub dropped_heard : (h : Heard) (more : List ℕ) → 0 < length h.head → heard_in more (body_dropped h) ≡ body_dropped (heard_in more h)
dropped_heard h more some = heard_dropped h.head h.rest h.body more some
