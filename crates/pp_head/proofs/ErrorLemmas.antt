-- The parser's errors: one is about the room for fields, and comes only where a limit is reached.
use Rattle.std.proofs.Common.{◌≡◌, false, ℕ, List, refl, subst, Result, Err}
use Rattle.std.proofs.lemmas.Bool.{both_ways}
use Rattle.httparse.specs.Outcome.{OnInvalid, OnTooManyHeaders}
use Rattle.httparse.specs.declared.Error.{Error}
use Rattle.httparse.specs.declared.Error.TheVariants.{HeaderName, HeaderValue, NewLine, Status as BadStatus, Token, TooManyHeaders, Version}
use Rattle.pp_head.specs.Limits.{is_limit_reached, IsLimitReached}
use Rattle.pp_head.proofs.LimitLemmas.{is_limit_reached-true}

pub invalid_of : {A : Type 0} {Exceeds Never : Type 0} (bytes : List ℕ) (r : Result A Error) (e : Error) → r ≡ Err e → OnInvalid r Never → OnTooManyHeaders r Exceeds
    → (Exceeds → IsLimitReached bytes) → is_limit_reached bytes ≡ false → Never
invalid_of {A} {Exceeds} {Never} bytes r e is bad many full below = by e (subst (λ (r : Result A Error). OnInvalid r Never) is bad) (subst (λ (r : Result A Error). OnTooManyHeaders r Exceeds) is many)
  where
    by : (e : Error) → OnInvalid {A = A} (Err e) Never → OnTooManyHeaders {A = A} (Err e) Exceeds → Never
    by HeaderName bad many = bad (λ e. cc)
    by HeaderValue bad many = bad (λ e. cc)
    by NewLine bad many = bad (λ e. cc)
    by BadStatus bad many = bad (λ e. cc)
    by Token bad many = bad (λ e. cc)
    by TooManyHeaders bad many = absurd (both_ways _ below (is_limit_reached-true bytes (full (many refl))))
    by Version bad many = bad (λ e. cc)
