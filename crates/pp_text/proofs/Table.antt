-- Worked examples of a definition, as a table: each row has what is given and what comes of it. A table is shown by `refl`.
use Rattle.std.proofs.Common.{◌≡◌, List, map}

abbrev pub Rows : {A B : Type 0} → (A → B) → List (A × B) → Type 0
Rows f rows = map (λ row. f row.0) rows ≡ map (λ row. row.1) rows
