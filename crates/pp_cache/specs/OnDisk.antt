-- What the disk has to know of what is in memory. It is ours.
use Rattle.std.specs.Prelude.{ℕ, ◌||◌, cond, nat_le, List, ◌∷◌, [], ◌++◌, length, bytes_eq, slice_set, Option, Some, None}
use Rattle.std.specs.List.{list_any}
use Rattle.pp_objects.specs.Instances.{is_same_id}
use Rattle.pp_objects.specs.declared.id.ObjectId.{ObjectId}
use Rattle.pp_cache.specs.declared.extents.Extent.{Extent}

-- ---- how far each instance is kept on the disk, by its slot

abbrev pub nowhere : Extent
nowhere = record { id = record { slot = 0; life = 0 }; bytes = 0 }

-- one of another life in that slot is not kept
abbrev pub bytes_of : ObjectId → Option Extent → ℕ
bytes_of id None = 0
bytes_of id (Some e) = cond (is_same_id e.id id) e.bytes 0

-- so many bytes of the instance are kept, from the first on
abbrev pub kept_to : ObjectId → ℕ → List Extent → List Extent
kept_to id bytes es = slice_set es id.slot (record { id = id; bytes = bytes })

-- ---- the instances to which bytes joined in a turn, each once: at most 16

abbrev pub grown_by : ObjectId → List ObjectId → List ObjectId
grown_by id ids = cond (list_any (is_same_id id) ids || nat_le 16 (length ids)) ids (ids ++ id ∷ [])

-- ---- the file names whose entry stands for its row no more, each once: at most 2,048

abbrev pub outdated_by : List ℕ → List (List ℕ) → List (List ℕ)
outdated_by name names = cond (list_any (bytes_eq name) names || nat_le 2048 (length names)) names (names ++ name ∷ [])
