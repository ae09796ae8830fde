-- What comes next is due to a client that is there.
use Rattle.std.proofs.Common.{◌≡◌, refl, ℕ, List, [], ◌∷◌, Option, Some, None, inl, inr, ◌∙◌}
use Rattle.pp_law.specs.Connections.{client, is_client}
use Rattle.pp_law.specs.Due.{Due, due_of, due_to, first_due, next_due}
use Rattle.pp_law.specs.Lists.{first_some}
use Rattle.pp_law.specs.State.{State, Client}
use Rattle.pp_laws.specs.Runs.{IsIn}
use Rattle.pp_laws.proofs.Lists.{in_find}

-- one of the clients has what is due first
first_in : (s : State) (cs : List Client) (due : Due) → first_some (due_of s) cs ≡ Some due → (c : Client) × IsIn c cs × (due_of s c ≡ Some due)
first_in s [] due is = absurd (cc is)
first_in s (c ∷ cs) due is = by (due_of s c) refl is (first_in s cs due)
  where
    by : (o : Option Due) → due_of s c ≡ o → (elim o as (λ x. Option Due) [ Some y ↦ Some y | None ↦ first_some (due_of s) cs ]) ≡ Some due → (first_some (due_of s) cs ≡ Some due → (d : Client) × IsIn d cs × (due_of s d ≡ Some due)) → (d : Client) × IsIn d (c ∷ cs) × (due_of s d ≡ Some due)
    by None none at rest = let w = rest at in (w.0, inr w.1, w.2)
    by (Some y) some at rest = (c, inl refl, some ∙ at)

due_there : (s : State) (n : ℕ) (due : Due) → due_to s n ≡ Some due → (c : Client) × IsIn c s.clients × (due_of s c ≡ Some due)
due_there s n due is = by (client s n) refl is
  where
    by : (o : Option Client) → client s n ≡ o → (elim o as (λ x. Option Due) [ None ↦ None | Some c ↦ due_of s c ]) ≡ Some due → (c : Client) × IsIn c s.clients × (due_of s c ≡ Some due)
    by None none at = absurd (cc at)
    by (Some c) found at = (c, (in_find (is_client n) c s.clients found).0, at)

pub next_in : (s : State) (due : Due) → next_due s ≡ Some due → (c : Client) × IsIn c s.clients × (due_of s c ≡ Some due)
next_in s due is = by s.has_made_room is
  where
    by : (room : Option ℕ) → (elim room as (λ x. Option Due) [ None ↦ first_due s | Some n ↦ due_to s n ]) ≡ Some due → (c : Client) × IsIn c s.clients × (due_of s c ≡ Some due)
    by None at = first_in s s.clients due at
    by (Some n) at = due_there s n due at
