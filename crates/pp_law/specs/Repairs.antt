-- How an entry is repaired in the opening: gates behind the first that is closed are closed, and the file is synced once. It is ours.
use Rattle.std.specs.Prelude.{ℕ, ◌+◌, ◌-◌, Bool, true, false, ◌==◌, ◌&&◌, ◌||◌, nat_lt, nat_le, [], ◌∷◌, length, take, drop, bytes_eq, is_some, Option, Some, None}
use Rattle.std.specs.List.{list_any, list_all}
use Rattle.pp_entry.specs.Gates.{leading_open}
use Rattle.pp_entry.specs.Texts.{chunks_of}
use Rattle.pp_text.specs.Bytes.{is_empty}
use Rattle.pp_world.specs.declared.op.DiskOp.{DiskOp}
use Rattle.pp_world.specs.declared.op.DiskOp.TheVariants.{Write, Sync}
use Rattle.pp_law.specs.Lists.{Bytes}
use Rattle.pp_law.specs.State.{State, Agenda, Entry, Do}
use Rattle.pp_law.specs.Store.{file_under, is_named, is_idle_disk, going_on, begin_op}

abbrev pub gates_of : State → Entry → Bytes
gates_of s e = take (chunks_of e.version.length) (drop 8192 (file_under s e.name))

abbrev pub is_open_gate : ℕ → Bool
is_open_gate gate = gate == 1

abbrev pub has_stray_gates : State → Entry → Bool
has_stray_gates s e = list_any is_open_gate (drop (leading_open (gates_of s e)) (gates_of s e))

abbrev pub are_strays : State → ℕ → ℕ → Entry → Bool
are_strays s at count e =
    let gates = gates_of s e in
    nat_lt (8192 + leading_open gates) at && nat_le (at + count) (8192 + length gates) && list_all is_open_gate (take count (drop (at - 8192) gates))

abbrev pub closes_strays : State → Bytes → ℕ → Bytes → Entry → Bool
closes_strays s name at bytes e = is_named name e && nat_lt 0 (length bytes) && list_all (λ b. b == 0) bytes && are_strays s at (length bytes) e

-- one file at a time
abbrev pub may_repair : State → Bytes → Bool
may_repair s name = is_empty s.agenda.todo || bytes_eq s.agenda.name name

-- its gates are closed by any writes
abbrev pub repair_of : State → Bytes → ℕ → Bytes → Option Agenda
repair_of s name at bytes = elim (may_repair s name && list_any (closes_strays s name at bytes) s.entries) [
  | true ↦ Some (record { name = name; todo = Do (Write name at bytes) ∷ Do (Sync name) ∷ [] })
  | false ↦ None
]

abbrev pub has_strays_under : State → Bytes → Bool
has_strays_under s name = list_any (λ e. is_named name e && has_stray_gates s e) s.entries

-- and one sync behind the last of them
abbrev pub sync_of : State → DiskOp → Option Agenda
sync_of s op = elim (has_strays_under s s.agenda.name) [ true ↦ None | false ↦ going_on op s.agenda ]

abbrev pub agenda_in_opening : DiskOp → State → Option Agenda
agenda_in_opening (Write name at bytes) s = repair_of s name at bytes
agenda_in_opening op s = sync_of s op

abbrev pub may_begin_in_opening : DiskOp → State → Bool
may_begin_in_opening op s = is_idle_disk s && is_some (agenda_in_opening op s)

unfoldable pub begin_in_opening : DiskOp → State → State
begin_in_opening op s = begin_op op (agenda_in_opening op s) s
