-- What a head is read from.
use Rattle.std.proofs.Common.{◌≡◌, ◌<◌, ℕ, List, [], ◌∷◌, length, refl, arith}
use Rattle.pp_client.specs.Inside.{read_from}

pub from_head : (head rest : List ℕ) → 0 < length head → read_from head rest ≡ head
from_head [] rest some = absurd (omega (arith, some))
from_head (b ∷ head) rest some = refl

pub from_rest : (head rest : List ℕ) → head ≡ [] → read_from head rest ≡ rest
from_rest [] rest none = refl
from_rest (b ∷ head) rest none = absurd (cc none)
