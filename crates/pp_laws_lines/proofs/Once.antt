-- Each number of a connection is dialled once: each that is dialled is above all that were given.
use Rattle.std.proofs.Common.{◌≡◌, ◌⊎◌, refl, ℕ, ◌<◌, ◌≤◌, [], ◌∷◌, ◌++◌, inl, inr, sym, subst, ◌∙◌, le_trans, arith}
use Rattle.pp_world.specs.Log.{Log}
use Rattle.pp_world.specs.declared.happening.Happening.{Happening}
use Rattle.pp_world.specs.declared.happening.Happening.TheVariants.{Dialled}
use Rattle.pp_law.specs.Lists.{Bytes}
use Rattle.pp_laws.specs.Runs.{IsIn}
use Rattle.pp_laws.proofs.Lists.{in_push}
use Rattle.pp_laws_lines.specs.Hosts.{WasDialled}

-- each was given so far, and to one host and port
pub record Numbered (log : Log) (top : ℕ) : Type 0 where
  pub given : (n : ℕ) (host : Bytes) (port : ℕ) → IsIn (Dialled n host port) log → n ≤ top
  pub once : (n : ℕ) (host other_host : Bytes) (port other_port : ℕ) → IsIn (Dialled n host port) log → IsIn (Dialled n other_host other_port) log → (host ≡ other_host) × (port ≡ other_port)

pub none_numbered : (top : ℕ) → Numbered [] top
none_numbered top = record { given = λ n host port i. absurd i; once = λ n host other_host port other_port i. absurd i }

pub numbered_more : (log : Log) (h : Happening) (low top : ℕ) → low ≤ top → ((n : ℕ) (host : Bytes) (port : ℕ) → h ≡ Dialled n host port → (low < n) × (n ≤ top)) → Numbered log low → Numbered (log ++ h ∷ []) top
numbered_more log h low top le new w = record {
  given = λ n host port i. given_by n host port (in_push (Dialled n host port) log h i);
  once = λ n host other_host port other_port i j. once_by n host other_host port other_port (in_push (Dialled n host port) log h i) (in_push (Dialled n other_host other_port) log h j);
}
  where
    given_by : (n : ℕ) (host : Bytes) (port : ℕ) → IsIn (Dialled n host port) log ⊎ (Dialled n host port ≡ h) → n ≤ top
    given_by n host port (inl i) = le_trans (w.given n host port i) le
    given_by n host port (inr is) = (new n host port (sym is)).1

    never : (n : ℕ) (host other_host : Bytes) (port other_port : ℕ) → IsIn (Dialled n host port) log → Dialled n other_host other_port ≡ h → ⊥
    never n host other_host port other_port i is =
        let was : n ≤ low = w.given n host port i in
        let above : low < n = (new n other_host other_port (sym is)).0 in
        omega (arith, was, above)

    same_dial : (n : ℕ) (host other_host : Bytes) (port other_port : ℕ) → Dialled n host port ≡ Dialled n other_host other_port → (host ≡ other_host) × (port ≡ other_port)
    same_dial n host other_host port other_port is = (cc is, cc is)

    once_by : (n : ℕ) (host other_host : Bytes) (port other_port : ℕ) → IsIn (Dialled n host port) log ⊎ (Dialled n host port ≡ h) → IsIn (Dialled n other_host other_port) log ⊎ (Dialled n other_host other_port ≡ h) → (host ≡ other_host) × (port ≡ other_port)
    once_by n host other_host port other_port (inl i) (inl j) = w.once n host other_host port other_port i j
    once_by n host other_host port other_port (inl i) (inr is) = absurd (never n host other_host port other_port i is)
    once_by n host other_host port other_port (inr is) (inl j) = absurd (never n other_host host other_port port j is)
    once_by n host other_host port other_port (inr is) (inr eq) = same_dial n host other_host port other_port (is ∙ sym eq)

in_middle : (h : Happening) (front behind : Log) → IsIn h (front ++ h ∷ behind)
in_middle h [] behind = inl refl
in_middle h (x ∷ front) behind = inr (in_middle h front behind)

pub dialled_in : (log : Log) (n : ℕ) (host : Bytes) (port : ℕ) → WasDialled log n host port → IsIn (Dialled n host port) log
dialled_in log n host port w = subst (λ (l : Log). IsIn (Dialled n host port) l) w.parts (in_middle (Dialled n host port) w.front w.behind)
