-- Requests that were heard, one behind the other, stay so as more is heard.
use Rattle.std.proofs.Common.{◌≡◌, ◌⊎◌, refl, ℕ, zero, suc, ◌-◌, ◌≤◌, Bool, true, false, List, [], ◌∷◌, ◌++◌, length, drop, inl, inr, sym, subst, ap, ◌∙◌, arith}
use Rattle.std.proofs.lemmas.List.{drop-append-le}
use Rattle.pp_head.proofs.OnLiterals.{pp_head_on_literals}
use Rattle.pp_head.proofs.RequestAgrees.{request_stays, request_within}
use Rattle.pp_head.specs.Limits.{is_limit_reached}
use Rattle.pp_head.specs.Read.{Read, Whole, TooLong, Bad, More, Stays}
use Rattle.pp_head.specs.Request.{Request, request_at}
use Rattle.pp_law.specs.Lists.{Bytes}
use Rattle.pp_law.specs.Requests.{Front, Parsed, NoHeadYet, NoHead as NoFront, IsRequest, parsed_of, front_in, front_of}
use Rattle.pp_laws_replies.specs.Replies.{next_at, IsFrontAt, AreHeardFrom}

-- ---- bytes

pub drop_past : (n : ℕ) (xs : Bytes) → length xs ≤ n → drop n xs ≡ []
drop_past zero [] le = refl
drop_past (suc n) [] le = refl
drop_past zero (x ∷ xs) le = let long : suc (length xs) ≤ 0 = le in absurd (omega arith)
drop_past (suc n) (x ∷ xs) le = drop_past n xs (let long : suc (length xs) ≤ suc n = le in omega arith)

pub drop_none : (n : ℕ) → drop n (let l : Bytes = [] in l) ≡ []
drop_none zero = refl
drop_none (suc n) = refl

-- behind the end of the first
pub drop_both : (n : ℕ) (xs ys : Bytes) → drop n xs ++ drop (n - length xs) ys ≡ drop n (xs ++ ys)
drop_both zero [] ys = ap (λ m. drop m ys) (zero_less 0)
  where
    zero_less : (m : ℕ) → 0 - m ≡ 0
    zero_less m = omega arith
drop_both (suc n) [] ys = ap (λ m. drop m ys) (less_zero (suc n))
  where
    less_zero : (m : ℕ) → m - 0 ≡ m
    less_zero m = omega arith
drop_both zero (x ∷ xs) ys = ap (λ l. (x ∷ xs) ++ l) (ap (λ m. drop m ys) (less (suc (length xs))))
  where
    less : (m : ℕ) → 0 - m ≡ 0
    less m = omega arith
drop_both (suc n) (x ∷ xs) ys = ap (λ m. drop n xs ++ drop m ys) (one_less n (length xs)) ∙ drop_both n xs ys
  where
    one_less : (a b : ℕ) → suc a - suc b ≡ a - b
    one_less a b = omega arith

-- ---- what stands at the front

stays_front : (bytes more : Bytes) (read : Read Request) (f : Front) → Stays request_at bytes read → IsFrontAt f (front_in read) → IsFrontAt f (front_in (request_at (bytes ++ more)))
stays_front bytes more (Whole r) f stays is = subst (λ q. IsFrontAt f (front_in q)) (sym (stays more)) is
stays_front bytes more TooLong f stays is = subst (λ q. IsFrontAt f (front_in q)) (sym (stays more)) is
stays_front bytes more More (IsRequest r) stays is = absurd (cc is)
stays_front bytes more More (NoFront status) stays is = let both : NoHeadYet ≡ NoFront is.0 = is.1 in absurd (cc both)
stays_front bytes more More NoHeadYet stays is = absurd is
stays_front bytes more Bad (IsRequest r) stays is = absurd (cc is)
stays_front bytes more Bad NoHeadYet stays is = absurd is
stays_front bytes more Bad (NoFront status) stays is = subst (λ q. IsFrontAt (NoFront status) (front_in q)) (sym (stays more)) (by (is_limit_reached (bytes ++ more)))
  where
    by : (t : Bool) → IsFrontAt (NoFront status) (front_in (elim t as (λ c. Read Request) [ true ↦ TooLong | false ↦ Bad ]))
    by true = (431, refl)
    by false = (400, refl)

pub front_stays : (bytes more : Bytes) (f : Front) → IsFrontAt f (front_of bytes) → IsFrontAt f (front_of (bytes ++ more))
unfolding front_of
front_stays bytes more f is = stays_front bytes more (request_at bytes) f (request_stays bytes) is

nothing_read : request_at [] ≡ More
unfolding pp_head_on_literals
nothing_read = refl

no_front : (f : Front) → IsFrontAt f (front_of []) → ⊥
unfolding front_of
no_front f is = by f (subst (λ q. IsFrontAt f (front_in q)) nothing_read is)
  where
    by : (g : Front) → IsFrontAt g NoHeadYet → ⊥
    by NoHeadYet has = has
    by (NoFront status) has = let both : NoHeadYet ≡ NoFront has.0 = has.1 in cc both
    by (IsRequest r) has = cc has

-- it stands within what was heard
pub front_within : (f : Front) (at : ℕ) (heard : Bytes) → IsFrontAt f (front_of (drop at heard)) → at ≤ length heard
front_within f at heard is = by (le_or at (length heard))
  where
    le_or : (a b : ℕ) → (a ≤ b) ⊎ (b ≤ a)
    le_or zero b = inl (omega arith)
    le_or (suc a) zero = inr (omega arith)
    le_or (suc a) (suc b) = elim (le_or a b) as (λ c. (suc a ≤ suc b) ⊎ (suc b ≤ suc a)) [ inl l ↦ inl (omega arith) | inr r ↦ inr (omega arith) ]

    by : (at ≤ length heard) ⊎ (length heard ≤ at) → at ≤ length heard
    by (inl le) = le
    by (inr ge) = absurd (no_front f (subst (λ l. IsFrontAt f (front_of l)) (drop_past at heard ge) is))

pub heard_longer : (heard more : Bytes) (at : ℕ) (fs : List Front) → AreHeardFrom heard at fs → AreHeardFrom (heard ++ more) at fs
heard_longer heard more at [] w = w
heard_longer heard more at (f ∷ fs) w =
    (subst (λ l. IsFrontAt f (front_of l)) (sym (drop-append-le at heard more (front_within f at heard w.0))) (front_stays (drop at heard) more f w.0), heard_longer heard more (next_at at f) fs w.1)

-- where the last of them ends
abbrev pub ends_at : ℕ → List Front → ℕ
ends_at at [] = at
ends_at at (f ∷ fs) = ends_at (next_at at f) fs

pub ends_push : (at : ℕ) (fs : List Front) (f : Front) → ends_at at (fs ++ f ∷ []) ≡ next_at (ends_at at fs) f
ends_push at [] f = refl
ends_push at (g ∷ fs) f = ends_push (next_at at g) fs f

pub heard_next : (heard : Bytes) (at : ℕ) (fs : List Front) (f : Front) → AreHeardFrom heard at fs → IsFrontAt f (front_of (drop (ends_at at fs) heard)) → AreHeardFrom heard at (fs ++ f ∷ [])
heard_next heard at [] f w is = (is, tt)
heard_next heard at (g ∷ fs) f w is = (w.0, heard_next heard (next_at at g) fs f w.1 is)

pub heard_first : (heard : Bytes) (at : ℕ) (fs gs : List Front) → AreHeardFrom heard at (fs ++ gs) → AreHeardFrom heard at fs
heard_first heard at [] gs w = tt
heard_first heard at (f ∷ fs) gs w = (w.0, heard_first heard (next_at at f) fs gs w.1)

-- a request that stands there is as long as it says
pub head_within : (bytes : Bytes) (r : Parsed) → front_of bytes ≡ IsRequest r → r.head.length ≤ length bytes
unfolding front_of
head_within bytes r is = by (request_at bytes) refl is
  where
    by : (read : Read Request) → request_at bytes ≡ read → front_in read ≡ IsRequest r → r.head.length ≤ length bytes
    by (Whole q) found eq = let same_one : parsed_of q ≡ r = cc in subst (λ (p : Parsed). p.head.length ≤ length bytes) same_one (request_within bytes q found).within
    by TooLong found eq = absurd (cc eq)
    by Bad found eq = absurd (cc eq)
    by More found eq = absurd (cc eq)
