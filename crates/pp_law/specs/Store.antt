-- Entries on disk: how they are drafted, sealed, taken away and read back. The format and the order are ours; what a crash may leave
-- of them is pp_world's, and the operations of each step are pp_gate's.
use Rattle.std.specs.Prelude.{ℕ, zero, suc, ◌+◌, ◌-◌, ◌*◌, ◌/◌, Bool, true, false, ◌==◌, ◌&&◌, ◌||◌, not, nat_lt, nat_le, min, max, List, [], ◌∷◌, ◌++◌, length, take, drop, map, find, count_by, bytes_eq, is_some, Option, Some, None, option_and_then}
use Rattle.std.specs.List.{list_any}
use Rattle.pp_entry.specs.Entries.{is_sized, row_at}
use Rattle.pp_entry.specs.Texts.{body_at, chunks_of, fits, head_text, padded}
use Rattle.pp_fresh.specs.Ready.{is_ready}
use Rattle.pp_gate.specs.Files.{whole_file}
use Rattle.pp_gate.specs.Gate.{publish_ops}
use Rattle.pp_gate.specs.Seal.{seal_ops}
use Rattle.pp_target.specs.Name.{name_of}
use Rattle.pp_text.specs.Bytes.{is_empty}
use Rattle.pp_world.specs.Disk.{view_of, bytes_in}
use Rattle.pp_world.specs.declared.happening.Happening.TheVariants.{Began, Did}
use Rattle.pp_world.specs.declared.op.DiskOp.{DiskOp}
use Rattle.pp_world.specs.declared.op.DiskOp.TheVariants.{Draft, SyncDraft, Publish, Write, Sync, Remove}
use Rattle.pp_law.specs.Chunks.{chunk_len, chunk_bytes, filled, put_chunk, note_use}
use Rattle.pp_law.specs.Lists.{Bytes, change, without, first_some, has_text, is_some_with}
use Rattle.pp_law.specs.State.{State, Chunk, Agenda, no_agenda, Entry, Instance, Todo, Do, Enter, Acknowledge}
use Rattle.pp_law.specs.Table.{row, kept_row, is_same_version, is_entry_of, is_kept_row_of}

abbrev pub is_same_op : DiskOp → DiskOp → Bool
is_same_op (Draft a) (Draft b) = bytes_eq a b
is_same_op SyncDraft SyncDraft = true
is_same_op (Publish a) (Publish b) = bytes_eq a b
is_same_op (Write a i x) (Write b j y) = bytes_eq a b && (i == j) && bytes_eq x y
is_same_op (Sync a) (Sync b) = bytes_eq a b
is_same_op (Remove a) (Remove b) = bytes_eq a b
is_same_op op other = false

abbrev pub is_named : Bytes → Entry → Bool
is_named name e = bytes_eq e.name name

abbrev pub is_closed : State → Bytes → Bool
is_closed s name = has_text name s.closed_names

-- ---- a new entry

abbrev pub block_of : Instance → Bytes
block_of x = head_text x.key x.version.length x.fields x.times

-- a closed name may still have its entry
abbrev pub names_taken : State → ℕ
names_taken s = length s.closed_names + count_by (λ e. not (is_closed s e.name)) s.entries

-- ours: at most 10,000 names are taken
abbrev pub has_free_name : State → Bytes → Bool
has_free_name s name = not (list_any (is_named name) s.entries) && not (is_closed s name) && nat_lt (names_taken s) 10000

abbrev pub new_entry : Instance → ℕ → Entry
new_entry x extent = record { name = name_of x.key; key = x.key; version = x.version; fields = x.fields; times = x.times; extent = extent; is_stale = false }

-- ---- runs of chunks

-- ours: a run has as many chunks as is set, but no more than a 128th of the pool
abbrev pub run_len : State → ℕ
run_len s = max 1 (min s.settings.disk_run (s.settings.critical / 128))

abbrev pub is_whole_chunk : ℕ → ℕ → List Chunk → ℕ → Bool
is_whole_chunk n id chunks i = nat_lt (i * chunk_len) n && (filled id i chunks == min chunk_len (n - i * chunk_len))

-- how many whole chunks stand in memory from this one on, so many at most
abbrev pub whole_run : ℕ → ℕ → ℕ → List Chunk → ℕ → ℕ
whole_run zero n id chunks i = 0
whole_run (suc more) n id chunks i = elim (is_whole_chunk n id chunks i) [ true ↦ 1 + whole_run more n id chunks (i + 1) | false ↦ 0 ]

-- the offset behind so many chunks
abbrev pub end_of_run : Instance → Entry → ℕ → ℕ
end_of_run x e count = min x.version.length (e.extent + count * chunk_len)

-- or reaches the end of the body
abbrev pub is_full_run : State → Instance → Entry → ℕ → Bool
is_full_run s x e count = nat_lt 0 count && ((count == run_len s) || (end_of_run x e count == x.version.length))

abbrev pub may_seal : State → Instance → Entry → Bool
may_seal s x e = not x.is_retired && is_same_version x.version e.version && not (is_closed s e.name) && nat_lt e.extent x.version.length

abbrev pub run_bytes : ℕ → ℕ → List Chunk → ℕ → Bytes
run_bytes zero id chunks i = []
run_bytes (suc more) id chunks i = chunk_bytes id i chunks ++ run_bytes more id chunks (i + 1)

-- how many chunks the next run has
abbrev pub run_from : State → Instance → Entry → ℕ
run_from s x e = whole_run (run_len s) x.version.length x.id s.chunks (e.extent / chunk_len)

-- ---- an entry is drafted

-- ours: where runs have more than one chunk, once its first run is full, so that what was given up leaves no entry
abbrev pub has_first_run : State → Instance → Bool
has_first_run s x = (run_len s == 1) || is_full_run s x (new_entry x 0) (run_from s x (new_entry x 0))

-- what would not be read back as an entry of that key and version is none
abbrev pub is_read_back : Instance → Bool
is_read_back x = is_some_with (λ r. bytes_eq r.key x.key && is_same_version r.version x.version) (row_at (padded (block_of x)))

-- a first run that is the whole body is drafted with all of it
abbrev pub drafted_with : State → Instance → ℕ
drafted_with s x = elim (nat_lt 1 (run_len s) && nat_le (chunks_of x.version.length) (run_len s)) [ true ↦ x.version.length | false ↦ 0 ]

-- ours: of what is drafted with all of its body a plain request could be served now, without asking its origin: what its next use
-- must check anyway costs one answer more after a restart, and an entry of it costs three syncs
abbrev pub is_worth_a_draft : State → Instance → Bool
is_worth_a_draft s x = (drafted_with s x == 0) || is_ready [] x.fields x.times s.clock

-- one that failed is followed by none before the next tick
abbrev pub may_draft : State → Instance → Bool
may_draft s x = elim (not s.has_lost_draft && not x.is_retired && is_sized x.version.length && fits x.fields (block_of x) && has_first_run s x) [
  | true ↦ has_free_name s (name_of x.key) && is_read_back x && is_worth_a_draft s x
  | false ↦ false
]

abbrev pub file_of : State → Instance → Bytes
file_of s x = whole_file (padded (block_of x)) x.version.length (run_bytes (chunks_of (drafted_with s x)) x.id s.chunks 0)

-- what is behind its gates is noted
abbrev pub noting : Instance → ℕ → List Todo
noting x extent = elim (extent == 0) [ true ↦ [] | false ↦ Acknowledge x.key x.version.tag x.version.length extent ∷ [] ]

abbrev pub drafting : State → Instance → List Todo
drafting s x =
    map Do (publish_ops (name_of x.key) (file_of s x)) ++ Enter (new_entry x (drafted_with s x)) ∷ noting x (drafted_with s x)

abbrev pub draft_of : State → Instance → Option Agenda
draft_of s x = elim (may_draft s x) [ true ↦ Some (record { name = name_of x.key; todo = drafting s x }) | false ↦ None ]

-- ---- a run is sealed

abbrev pub sealing : State → Instance → Entry → ℕ → List Todo
sealing s x e count =
    let first = e.extent / chunk_len in
    map Do (seal_ops e.name x.version.length first count (run_bytes count x.id s.chunks first))
    ++ Acknowledge x.key x.version.tag x.version.length (end_of_run x e count) ∷ []

abbrev pub seal_with : State → Instance → Entry → Option Agenda
seal_with s x e =
    let count = run_from s x e in
    elim (may_seal s x e && is_full_run s x e count) [ true ↦ Some (record { name = e.name; todo = sealing s x e count }) | false ↦ None ]

abbrev pub seal_of : State → Instance → Option Agenda
seal_of s x = elim (kept_row s x.key) [ None ↦ None | Some e ↦ seal_with s x e ]

abbrev pub is_due_to_seal : State → Instance → Bool
is_due_to_seal s x = is_some_with (λ e. may_seal s x e && is_full_run s x e (run_from s x e)) (kept_row s x.key)

-- what is whole and not kept is sealed before the turn ends
abbrev pub has_to_seal : State → Bool
has_to_seal s = list_any (is_due_to_seal s) s.instances

-- ---- an entry is noted as gone, and taken away

-- its row was replaced or cleared, another key took its name, or its name is closed
abbrev pub is_gone : State → Entry → Bool
is_gone s e = e.is_stale || has_text e.key s.displaced || is_closed s e.name

abbrev pub removing : State → Entry → List Todo
removing s e = elim (is_closed s e.name) [ true ↦ [] | false ↦ Do (Remove e.name) ∷ [] ]

unfoldable pub remove_entry : Entry → State → State
remove_entry e s = record s {
  agenda = record { name = e.name; todo = removing s e };
  entries = without (is_entry_of e.key) s.entries;
  acknowledged = without (is_entry_of e.key) s.acknowledged;
  displaced = without (bytes_eq e.key) s.displaced;
}

unfoldable pub note_gone : Bytes → State → State
note_gone key s = elim (find (is_entry_of key) s.entries) [ None ↦ s | Some e ↦ remove_entry e s ]

abbrev pub is_idle_disk : State → Bool
is_idle_disk s = not (is_some s.under_way)

-- nothing of what was begun is left
abbrev pub is_at_rest : State → Bool
is_at_rest s = is_idle_disk s && is_empty s.agenda.todo

abbrev pub may_note_gone : State → Bytes → Bool
may_note_gone s key = is_idle_disk s && is_empty s.agenda.todo && list_any (λ e. is_entry_of key e && is_gone s e) s.entries

-- ---- operations

abbrev pub is_first_todo : DiskOp → List Todo → Bool
is_first_todo op (Do next ∷ todo) = is_same_op next op
is_first_todo op todo = false

-- what may be begun of a row: its draft, or the sealing of a run
abbrev pub plan_of : State → DiskOp → Instance → Option Agenda
plan_of s (Draft bytes) x = draft_of s x
plan_of s (Write name at bytes) x = seal_of s x
plan_of s op x = None

abbrev pub going_on : DiskOp → Agenda → Option Agenda
going_on op a = elim (is_first_todo op a.todo) [ true ↦ Some a | false ↦ None ]

-- what was begun goes on; and where nothing is left of it, what may be begun of a row is begun
abbrev pub agenda_in_turn : DiskOp → State → Option Agenda
agenda_in_turn op s = elim (is_empty s.agenda.todo) [
  | false ↦ going_on op s.agenda
  | true ↦ first_some (λ x. option_and_then (going_on op) (plan_of s op x)) s.instances
]

abbrev pub may_begin_in_turn : DiskOp → State → Bool
may_begin_in_turn op s = is_idle_disk s && is_some (agenda_in_turn op s)

unfoldable pub begin_op : DiskOp → Option Agenda → State → State
begin_op op None s = s
begin_op op (Some a) s = record s { agenda = record a { todo = drop 1 a.todo }; under_way = Some op; disk = s.disk ++ Began op ∷ [] }

unfoldable pub begin_in_turn : DiskOp → State → State
begin_in_turn op s = begin_op op (agenda_in_turn op s) s

abbrev pub left_todo : List Todo → State → State
left_todo todo s = record s { agenda = record { name = s.agenda.name; todo = todo } }

-- a published file is an entry at once
unfoldable pub enter_next : State → State
enter_next s = elim s.agenda.todo [
  | [] ↦ s
  | next ∷ todo ↦ elim next [
    | Do op ↦ s
    | Acknowledge key tag n extent ↦ s
    | Enter e ↦ left_todo todo (record s { entries = s.entries ++ e ∷ [] })
  ]
]

-- ours: a name is closed for this life once an operation on it failed
unfoldable pub close_name : Bytes → State → State
close_name name s = record s { closed_names = name ∷ without (bytes_eq name) s.closed_names; agenda = no_agenda; failures = s.failures + 1 }

-- ours: what fails before its name is given touched no name, and closes none
abbrev pub is_of_draft : DiskOp → Bool
is_of_draft (Draft bytes) = true
is_of_draft SyncDraft = true
is_of_draft op = false

unfoldable pub lose_draft : State → State
lose_draft s = record s { has_lost_draft = true; agenda = no_agenda; failures = s.failures + 1 }

unfoldable pub fail_op : DiskOp → State → State
fail_op op s = elim (is_of_draft op) [ true ↦ lose_draft s | false ↦ close_name s.agenda.name s ]

unfoldable pub end_op : DiskOp → Bool → State → State
end_op op true s = enter_next (record s { under_way = None; disk = s.disk ++ Did op true ∷ [] })
end_op op false s = fail_op op (record s { under_way = None; disk = s.disk ++ Did op false ∷ [] })

abbrev pub may_end_op : State → DiskOp → Bool
may_end_op s op = is_some_with (λ begun. is_same_op begun op) s.under_way

-- in the opening a row of that name is out
unfoldable pub lose_entry : Bytes → State → State
lose_entry name s = record s { entries = without (is_named name) s.entries }

-- ---- how far an entry reaches

abbrev pub is_acknowledged_as : Bytes → Bytes → ℕ → ℕ → List Todo → Bool
is_acknowledged_as key tag n extent (Acknowledge k t m end ∷ todo) = bytes_eq k key && bytes_eq t tag && (m == n) && (end == extent)
is_acknowledged_as key tag n extent todo = false

abbrev pub extended : ℕ → Entry → Entry
extended extent e = record e { extent = extent }

abbrev pub acknowledged_with : Bytes → ℕ → State → List Entry
acknowledged_with key extent s = elim (kept_row s key) [ None ↦ s.acknowledged | Some e ↦ extended extent e ∷ without (is_entry_of key) s.acknowledged ]

unfoldable pub note_kept : Bytes → ℕ → State → State
note_kept key extent s = record s {
  acknowledged = acknowledged_with key extent s;
  entries = change (is_kept_row_of key) (extended extent) s.entries;
  agenda = record { name = s.agenda.name; todo = drop 1 s.agenda.todo };
}

-- nothing is left to do for the disk
abbrev pub is_done_on_disk : State → Bool
is_done_on_disk s = is_empty s.agenda.todo && is_idle_disk s && not (list_any (is_gone s) s.entries) && not (has_to_seal s)

-- ---- a chunk is read back

abbrev pub file_under : State → Bytes → Bytes
file_under s name = elim (view_of name s.disk).slot [ [] ↦ [] | file ∷ files ↦ bytes_in file ]

abbrev pub chunk_in_file : State → Entry → ℕ → Bytes
chunk_in_file s e i = take (min chunk_len (e.version.length - i * chunk_len)) (drop (body_at e.version.length + i * chunk_len) (file_under s e.name))

unfoldable pub load_from : Instance → Entry → ℕ → State → State
load_from x e i s = note_use (record s { chunks = put_chunk x.id i (chunk_in_file s e i) s.chunks })

unfoldable pub load : Bytes → ℕ → State → State
load key i s = elim (row s key) [ None ↦ s | Some x ↦ elim (kept_row s key) [ None ↦ s | Some e ↦ load_from x e i s ] ]
