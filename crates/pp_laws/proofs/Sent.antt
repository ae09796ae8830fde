-- Bytes of which each was sent: joined, cut, and with more that was sent.
use Rattle.std.proofs.Common.{◌≡◌, refl, ℕ, zero, suc, ◌+◌, ◌-◌, List, [], ◌∷◌, ◌++◌, length, take, drop, slice_get, inl, inr, sym, subst, ap, ◌∙◌, arith}
use Rattle.pp_valid.specs.declared.version.Version.{Version}
use Rattle.pp_law.specs.Lists.{Bytes}
use Rattle.pp_law.specs.State.{Sent}
use Rattle.pp_laws.specs.Origin.{AllSent}

-- from an offset that is the same
pub sent_at : (sent : List Sent) (key : Bytes) (v : Version) (bytes : Bytes) (m n : ℕ) → m ≡ n → AllSent sent key v m bytes → AllSent sent key v n bytes
sent_at sent key v bytes m n e all = subst (λ k. AllSent sent key v k bytes) e all

pub sent-append : (sent : List Sent) (key : Bytes) (v : Version) (at : ℕ) (xs ys : Bytes) → AllSent sent key v at xs → AllSent sent key v (at + length xs) ys → AllSent sent key v at (xs ++ ys)
sent-append sent key v at [] ys one two = sent_at sent key v ys (at + 0) at (omega arith) two
sent-append sent key v at (x ∷ xs) ys one two = (one.0, sent-append sent key v (at + 1) xs ys one.1 (sent_at sent key v ys (at + suc (length xs)) (at + 1 + length xs) (omega arith) two))

pub sent-drop : (sent : List Sent) (key : Bytes) (v : Version) (at n : ℕ) (xs : Bytes) → AllSent sent key v at xs → AllSent sent key v (at + n) (drop n xs)
sent-drop sent key v at zero xs all = sent_at sent key v xs at (at + 0) (omega arith) all
sent-drop sent key v at (suc n) [] all = tt
sent-drop sent key v at (suc n) (x ∷ xs) all = sent_at sent key v (drop n xs) (at + 1 + n) (at + suc n) (omega arith) (sent-drop sent key v (at + 1) n xs all.1)

pub sent-take : (sent : List Sent) (key : Bytes) (v : Version) (at n : ℕ) (xs : Bytes) → AllSent sent key v at xs → AllSent sent key v at (take n xs)
sent-take sent key v at zero xs all = tt
sent-take sent key v at (suc n) [] all = tt
sent-take sent key v at (suc n) (x ∷ xs) all = (all.0, sent-take sent key v (at + 1) n xs all.1)

pub sent-more : (part : Sent) (sent : List Sent) (key : Bytes) (v : Version) (at : ℕ) (xs : Bytes) → AllSent sent key v at xs → AllSent (part ∷ sent) key v at xs
sent-more part sent key v at [] all = tt
sent-more part sent key v at (x ∷ xs) all = (inr all.0, sent-more part sent key v (at + 1) xs all.1)

-- what was sent just now
just_from : (part : Sent) (sent : List Sent) (at skip : ℕ) (xs : Bytes) → at ≡ part.at + skip → ((i : ℕ) → slice_get xs i ≡ slice_get part.bytes (skip + i)) → AllSent (part ∷ sent) part.key part.version at xs
just_from part sent at skip [] is each = tt
just_from part sent at skip (x ∷ xs) is each =
    (inl (refl, refl, omega arith, ap (slice_get part.bytes) place ∙ sym (each 0)), just_from part sent (at + 1) (skip + 1) xs (omega arith) (λ i. each (suc i) ∙ ap (slice_get part.bytes) (further i)))
  where
    place : at - part.at ≡ skip + 0
    place = omega arith

    further : (i : ℕ) → skip + suc i ≡ skip + 1 + i
    further i = omega arith

pub sent-just : (part : Sent) (sent : List Sent) → AllSent (part ∷ sent) part.key part.version part.at part.bytes
sent-just part sent = just_from part sent part.at 0 part.bytes (omega arith) (λ i. ap (slice_get part.bytes) (same_place i))
  where
    same_place : (i : ℕ) → i ≡ 0 + i
    same_place i = omega arith
