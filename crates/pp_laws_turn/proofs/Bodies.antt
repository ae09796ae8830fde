-- A request has the key of its target, and one that has a body is asked once, as long as any of it is left.
use Rattle.std.proofs.Common.{◌≡◌, ◌⊎◌, refl, ℕ, zero, suc, Bool, true, false, nat_lt, not, ◌||◌, inl, inr, sym, subst, ◌∙◌, arith}
use Rattle.std.proofs.lemmas.Bool.Decides.{nat_tests}
use Rattle.pp_framing.specs.Framing.{request_rule_of}
use Rattle.pp_head.specs.Read.{Read, Whole, TooLong, Bad, More}
use Rattle.pp_head.specs.Request.{Request, request_at}
use Rattle.pp_plan.specs.Requests.{is_get, is_head}
use Rattle.pp_law.specs.Hearing.{fronted}
use Rattle.pp_law.specs.Requests.{Front, NoHeadYet, NoHead, Parsed, IsRequest, body_len, body_len_by, front_in, front_of, is_asked_once, parsed_of}
use Rattle.pp_law.specs.State.{Client}
use Rattle.pp_laws_turn.proofs.View.{IsHeard, IsHeardAs}

-- nothing is left, or it is asked once
abbrev IsOnce : ℕ → Request → Type 0
IsOnce n head = (n ≡ 0) ⊎ (is_asked_once head ≡ true)

pub still_bodied : (d c : Client) → d.front ≡ c.front → (c.body_left ≡ 0 → d.body_left ≡ 0) → IsHeard c → IsHeard d
still_bodied d c front left heard r is = let one : IsHeardAs c.body_left r = heard r (sym front ∙ is) in record { key = one.key; once = by one.once }
  where
    by : IsOnce c.body_left r.head → IsOnce d.body_left r.head
    by (inl none) = inl (left none)
    by (inr once) = inr once

some : (n : ℕ) → nat_lt 0 (suc n) ≡ true
some n = grind (arith, nat_tests)

by_length : (a : Bool) (n : ℕ) → (n ≡ 0) ⊎ ((a || nat_lt 0 n) ≡ true)
by_length a zero = inl refl
by_length true (suc n) = inr refl
by_length false (suc n) = inr (some n)

of_read : (read : Read Request) (r : Parsed) → front_in read ≡ IsRequest r → IsHeardAs (body_len (front_in read)) r
of_read (Whole head) r is =
    let e : parsed_of head ≡ r = cc is in
    subst (λ (q : Parsed). IsHeardAs (body_len_by (request_rule_of head.fields)) q) e (record { key = refl; once = by_length (not (is_get head.method || is_head head.method)) (body_len_by (request_rule_of head.fields)) })
of_read TooLong r is = absurd (cc is)
of_read Bad r is = absurd (cc is)
of_read More r is = absurd (cc is)

-- what stands at the front of what was heard
pub fronted_bodied : (c : Client) → IsHeard (fronted c)
unfolding front_of
fronted_bodied c r is = of_read (request_at c.heard) r is

pub with_front_bodied : (c : Client) (front : Front) → IsHeard c → IsHeard (elim front as (λ x. Client) [ NoHeadYet ↦ fronted c | NoHead status ↦ c | IsRequest q ↦ c ])
with_front_bodied c NoHeadYet heard = fronted_bodied c
with_front_bodied c (NoHead status) heard = heard
with_front_bodied c (IsRequest q) heard = heard
