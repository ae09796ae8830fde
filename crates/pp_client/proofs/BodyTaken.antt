-- Bytes of a body that are taken: what comes later is heard as before.
use Rattle.std.proofs.Common.{◌≡◌, ◌≤◌, ◌-◌, ℕ, List, [], ◌∷◌, ◌++◌, length, drop, take, refl, sym, ap, arith, subst, length-take}
use Rattle.std.proofs.lemmas.List.{drop-append-le}
use Rattle.pp_client.specs.declared.body.Body.{Body}
use Rattle.pp_client.specs.declared.body.Body.TheVariants.{Unread, Dropped, Over}
use Rattle.pp_client.specs.Bodies.{IsIdle, kept, later, shortened, unread}
use Rattle.pp_client.specs.Requests.{Heard, body_taken, heard_in}
use Rattle.pp_client.proofs.HeardParts.{of, same_parts}

-- ---- nothing is taken

shortened_none : (body : Body) → shortened body 0 ≡ body
shortened_none (Unread n) = ap Unread (let e : n - 0 ≡ n = omega (arith) in e)
shortened_none (Dropped n) = refl
shortened_none Over = refl

taken_none : (h : Heard) → body_taken 0 h ≡ h
taken_none h = ap (λ body. of h.head h.rest body) (shortened_none h.body)

none_left : (n : ℕ) (rest : List ℕ) → n ≤ length (take 0 rest) → n ≡ 0
none_left n rest some = omega (arith, some)

-- where none is current, no body is to be read
taken_before : (n : ℕ) (rest : List ℕ) (body : Body) (more : List ℕ) → n ≤ length (take (unread body) rest) → IsIdle [] body
    → heard_in more (body_taken n (of [] rest body)) ≡ body_taken n (heard_in more (of [] rest body))
taken_before n rest (Unread m) more some idle = absurd idle
taken_before n rest (Dropped m) more some idle =
    subst (λ k. heard_in more (body_taken k (of [] rest (Dropped m))) ≡ body_taken k (heard_in more (of [] rest (Dropped m))))
    (sym (none_left n rest some)) (sym (taken_none (heard_in more (of [] rest (Dropped m)))))
taken_before n rest Over more some idle =
    subst (λ k. heard_in more (body_taken k (of [] rest Over)) ≡ body_taken k (heard_in more (of [] rest Over)))
    (sym (none_left n rest some)) (sym (taken_none (heard_in more (of [] rest Over))))

-- ---- behind a head

taken_later : (n : ℕ) (head rest : List ℕ) (body : Body) (more : List ℕ) → n ≤ length (take (unread body) rest)
    → of head (drop n rest ++ kept (shortened body n) more) (later (shortened body n) (length more))
    ≡ of head (drop n (rest ++ kept body more)) (shortened (later body (length more)) n)
taken_later n head rest (Unread m) more some =
    let within : n ≤ length rest = omega (arith, some, length-take m rest) in
    same_parts head (sym (drop-append-le n rest more within)) refl
taken_later n head rest (Dropped m) more some =
    subst (λ k. of head (drop k rest ++ drop m more) (Dropped (m - length more)) ≡ of head (drop k (rest ++ drop m more)) (Dropped (m - length more)))
    (sym (none_left n rest some)) refl
taken_later n head rest Over more some =
    subst (λ k. of head (drop k rest ++ []) Over ≡ of head (drop k (rest ++ [])) Over) (sym (none_left n rest some)) refl

taken_by : (n : ℕ) (head rest : List ℕ) (body : Body) (more : List ℕ) → n ≤ length (take (unread body) rest) → IsIdle head body
    → heard_in more (body_taken n (of head rest body)) ≡ body_taken n (heard_in more (of head rest body))
taken_by n [] rest body more some idle = taken_before n rest body more some idle
taken_by n (x ∷ head) rest body more some idle = taken_later n (x ∷ head) rest body more some

pub taken_heard : (n : ℕ) (h : Heard) (more : List ℕ) → n ≤ length (take (unread h.body) h.rest) → IsIdle h.head h.body
    → heard_in more (body_taken n h) ≡ body_taken n (heard_in more h)
taken_heard n h more some idle = taken_by n h.head h.rest h.body more some idle
