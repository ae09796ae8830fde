-- Gates that are open behind one that is not: what a write of several gates, cut short, may leave. They are closed.
use Rattle.std.specs.Prelude.{◌≡◌, ◌≤◌, ◌⊎◌, ℕ, ◌+◌, ◌-◌, ◌==◌, Bool, false, ◌&&◌, not, nat_lt, List, [], ◌∷◌, ◌++◌, length, take, drop, replicate, cond, slice_index, Option, Some, None}
use Rattle.std.specs.List.{flat_map, list_any, range_with_len}
use Rattle.pp_world.specs.declared.happening.Happening.TheVariants.{Unread}
use Rattle.pp_world.specs.declared.op.DiskOp.{DiskOp}
use Rattle.pp_world.specs.declared.op.DiskOp.TheVariants.{Write, Sync}
use Rattle.pp_world.specs.Log.{Log}
use Rattle.pp_world.specs.Disk.{Bytes, Stored, view_of}
use Rattle.pp_entry.specs.Gates.{leading_open}
use Rattle.pp_entry.specs.Texts.{chunks_of}
use Rattle.pp_gate.specs.Runs.{Ran}
use Rattle.pp_store.specs.Kept.{Kept}
use Rattle.pp_recover.specs.Image.{entry_in}

-- the gates of a body of this length
abbrev pub gates_in : ℕ → Bytes → Bytes
gates_in n file = take (chunks_of n) (drop 8192 file)

-- open gates begin here, behind one that is not
abbrev pub begins : Bytes → ℕ → Bool
begins gates i = nat_lt 0 i && (slice_index gates i == 1) && not (slice_index gates (i - 1) == 1)

-- so many gates stand open from here on
abbrev pub open_from : Bytes → ℕ → ℕ
open_from gates i = leading_open (drop i gates)

-- zeros over them
abbrev pub close_from : Bytes → Bytes → ℕ → DiskOp
close_from name gates i = Write name (8192 + i) (replicate (open_from gates i) 0)

abbrev pub close_at : Bytes → Bytes → ℕ → List DiskOp
close_at name gates i = cond (begins gates i) (close_from name gates i ∷ []) []

unfoldable pub writes_over : Bytes → Bytes → List DiskOp
writes_over name gates = flat_map (close_at name gates) (range_with_len 0 (length gates))

unfoldable pub has_strays : Bytes → Bool
has_strays gates = list_any (begins gates) (range_with_len 0 (length gates))

-- of a file with these gates: a write over each run, and one sync behind them all
unfoldable pub closing : Bytes → Bytes → List DiskOp
closing name gates = cond (has_strays gates) (writes_over name gates ++ Sync name ∷ []) []

-- of an entry alone
abbrev pub closing_if : Bytes → Bytes → Option Kept → List DiskOp
closing_if name file None = []
closing_if name file (Some kept) = closing name (gates_in kept.entry.version.length file)

abbrev pub closing_of : Bytes → Option Bytes → List DiskOp
closing_of name None = []
closing_of name (Some file) = closing_if name file (entry_in name file)

-- what opening does to one name: the stray gates of its entry are closed, all of them or up to an operation that
-- failed; or a look failed
abbrev pub Tends : Bytes → Option Bytes → Bool → Log → Type 0
Tends name file ok hs = ((ok ≡ false) × (hs ≡ Unread name ∷ [])) ⊎ Ran (closing_of name file) ok hs

-- one file of at least so many bytes stands under the name
abbrev pub RestsTo : Bytes → ℕ → Log → Type 0
RestsTo name least log = (file : Stored) × ((view_of name log).slot ≡ Some file ∷ []) × (least ≤ length file.bytes)
