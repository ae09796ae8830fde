-- What stands at the front of some bytes: a head, or why none does.
use Rattle.std.specs.Prelude.{◌≡◌, ◌<◌, take, Bool, true, false, ℕ, List, ◌++◌, ⊤}
use Rattle.pp_head.specs.Limits.{is_limit_reached}
use Rattle.pp_head.specs.Step.{Step, Done, Short, Wrong}

-- Whole: a head within the limits. TooLong: a limit is reached, or passed by the head.
-- Bad: no bytes that may follow make a head. More: some may.
pub data Read (A : Type 0) : Type 0 where
  Whole : A → Read A
  TooLong Bad More : Read A

-- the first that applies
abbrev pub read_by : {H A : Type 0} → (H → Bool) → (H → A) → List ℕ → Step H → Read A
read_by is_within show bytes (Done head rest) = elim (is_within head) [ true ↦ Whole (show head) | false ↦ TooLong ]
read_by is_within show bytes Short = elim (is_limit_reached bytes) [ true ↦ TooLong | false ↦ More ]
read_by is_within show bytes Wrong = elim (is_limit_reached bytes) [ true ↦ TooLong | false ↦ Bad ]

-- more bytes leave an answer as it is; but what is Bad is TooLong once a limit is reached
abbrev pub Stays : {A : Type 0} → (List ℕ → Read A) → List ℕ → Read A → Type 0
Stays reader bytes (Whole a) = (more : List ℕ) → reader (bytes ++ more) ≡ Whole a
Stays reader bytes TooLong = (more : List ℕ) → reader (bytes ++ more) ≡ TooLong
Stays {A} reader bytes Bad = (more : List ℕ) → reader (bytes ++ more) ≡ elim (is_limit_reached (bytes ++ more)) as (λ _. Read A) [ true ↦ TooLong | false ↦ Bad ]
Stays reader bytes More = ⊤

-- a whole head takes so many bytes: they are enough, and no fewer are
pub record IsCutAt {A : Type 0} (reader : List ℕ → Read A) (bytes : List ℕ) (len : ℕ) (head : A) : Type 0 where
  pub enough : reader (take len bytes) ≡ Whole head
  pub fewer : (n : ℕ) → n < len → reader (take n bytes) ≡ More
