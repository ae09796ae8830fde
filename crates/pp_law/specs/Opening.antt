-- How a life begins: the files that it finds, its words and settings, and the order of its first calls. All of it is ours.
use Rattle.std.specs.Prelude.{ℕ, ◌+◌, Bool, true, false, ◌==◌, ◌&&◌, ◌||◌, not, nat_lt, nat_le, List, [], ◌∷◌, ◌++◌, length, map, flat_map, is_some, bytes_eq, Option, Some, None, Result, Ok, drop}
use Rattle.std.specs.List.{list_any, list_all}
use Rattle.std.specs.Str.{is_utf8}
use Rattle.pp_conf.specs.Conf.{Settings}
use Rattle.pp_conf.specs.Words.{file_of, has_reading, reading_of, Told, Serves, Refusal}
use Rattle.pp_text.specs.Bytes.{is_empty}
use Rattle.pp_world.specs.Disk.{Stored, view_of, is_loose, is_rising}
use Rattle.pp_world.specs.Files.{Files, file_of as file_in}
use Rattle.pp_world.specs.Log.{Log}
use Rattle.pp_world.specs.declared.happening.Happening.{Happening}
use Rattle.pp_world.specs.declared.happening.Happening.TheVariants.{Woke, Began}
use Rattle.pp_world.specs.declared.op.DiskOp.{DiskOp}
use Rattle.pp_world.specs.declared.op.DiskOp.TheVariants.{Draft, SyncDraft, Publish, Write, Sync, Remove}
use Rattle.pp_law.specs.Entries.{entries_in}
use Rattle.pp_law.specs.Lists.{Bytes, has_text, is_some_with}
use Rattle.pp_law.specs.Repairs.{has_stray_gates}
use Rattle.pp_law.specs.Store.{is_idle_disk, lose_entry}
use Rattle.pp_law.specs.State.{State, Term, no_term, start, Phase, Before, IsWoken, IsConfigured, IsRooted, IsListed, IsListening, IsStuck, Awaiting, Handling, Evicting, Keeping, Deciding, Following, Connecting, DecidingAgain}

-- ---- the files

-- the first life finds at most 1,000 files, none of them an entry
abbrev pub is_first_image : Files → Bool
is_first_image image = nat_le (length image) 1000 && is_empty (entries_in image)

-- each byte below the synced length is as it was, but in loose ranges: `same_below` of pp_world, in one pass
abbrev pub is_as_it_was : ℕ → Stored → Bytes → Bytes → Bool
is_as_it_was at f [] bytes = true
is_as_it_was at f (b ∷ was) [] = nat_le f.synced at
is_as_it_was at f (b ∷ was) (c ∷ bytes) = elim (nat_lt at f.synced) [
  | true ↦ ((b == c) || is_loose at f.loose) && is_as_it_was (at + 1) f was bytes
  | false ↦ true
]

-- `is_left` of pp_world
abbrev pub leaves : Stored → Bytes → Bool
leaves f bytes = nat_le f.synced (length bytes) && nat_le (length bytes) f.end && is_as_it_was 0 f f.bytes bytes

abbrev pub leaves_one : Option Bytes → Option Stored → Bool
leaves_one None None = true
leaves_one (Some bytes) (Some f) = leaves f bytes
leaves_one file stored = false

abbrev pub leaves_under : Log → Files → Bytes → Bool
leaves_under log image name = list_any (leaves_one (file_in name image)) (view_of name log).slot

abbrev pub named_by : DiskOp → List Bytes
named_by (Draft bytes) = []
named_by SyncDraft = []
named_by (Publish name) = name ∷ []
named_by (Write name at bytes) = name ∷ []
named_by (Sync name) = name ∷ []
named_by (Remove name) = name ∷ []

abbrev pub names_of : Happening → List Bytes
names_of (Woke image) = map (λ file. file.0) image
names_of (Began op) = named_by op
names_of happening = []

abbrev pub once : List Bytes → List Bytes → List Bytes
once seen [] = seen
once seen (name ∷ names) = once (elim (has_text name seen) [ true ↦ seen | false ↦ name ∷ seen ]) names

-- `IsLeftBehind` of pp_world, as a test: any other name has had no file
abbrev pub is_left_behind : Log → Files → Bool
is_left_behind log image = list_all (leaves_under log image) (once [] (flat_map names_of log ++ map (λ file. file.0) image))

abbrev pub permits_image : Phase → Log → Files → Bool
permits_image Before log image = is_first_image image
permits_image phase log image = is_left_behind log image

-- each name once, in their order
abbrev pub permits_woke : State → Files → Bool
permits_woke s image = is_rising (map (λ file. file.0) image) && permits_image s.phase s.disk image

-- ---- words

abbrev pub term_in : List Term → Term
term_in [] = no_term
term_in (t ∷ ts) = t

abbrev pub terms_behind : List Term → List Term
terms_behind terms = drop 1 terms

-- the settings that words and text give, where they ask to serve
abbrev pub settings_in : Result Told Refusal → Option Settings
settings_in (Ok (Serves c)) = Some c
settings_in told = None

unfoldable pub with_settings : Option Settings → State → State
with_settings None s = record s { phase = IsStuck }
with_settings (Some c) s = record s { phase = IsConfigured; settings = c }

-- ours: a word that is no UTF-8 has no reading
abbrev pub are_texts : Term → Bool
are_texts t = list_all is_utf8 t.words

-- a configuration is read where the words name one
abbrev pub names_file : Term → Bool
names_file t = has_reading t.words && is_some (file_of t.words)

unfoldable pub begun : State → State
begun s = elim (are_texts s.term) [
  | false ↦ with_settings None s
  | true ↦ elim (names_file s.term) [
    | true ↦ record s { phase = IsWoken }
    | false ↦ with_settings (settings_in (reading_of s.term.words None)) s
  ]
]

-- memory is empty, and each entry is a kept row
unfoldable pub woken : Files → State → State
woken image s = begun (record (start (terms_behind s.terms)) {
  sent = s.sent;
  acknowledged = s.acknowledged;
  top = s.top;
  term = term_in s.terms;
  disk = Woke image ∷ [];
  entries = entries_in image;
})

-- ---- the calls, in their order

abbrev pub is_same_phase : Phase → Phase → Bool
is_same_phase IsWoken IsWoken = true
is_same_phase IsConfigured IsConfigured = true
is_same_phase IsRooted IsRooted = true
is_same_phase IsListed IsListed = true
is_same_phase IsListening IsListening = true
is_same_phase IsStuck IsStuck = true
is_same_phase Awaiting Awaiting = true
is_same_phase Handling Handling = true
is_same_phase Evicting Evicting = true
is_same_phase Keeping Keeping = true
is_same_phase Deciding Deciding = true
is_same_phase Following Following = true
is_same_phase Connecting Connecting = true
is_same_phase DecidingAgain DecidingAgain = true
is_same_phase phase other = false

abbrev pub is_at : Phase → State → Bool
is_at phase s = is_same_phase phase s.phase

abbrev pub is_opening : State → Bool
is_opening s = list_any (λ p. is_at p s) (IsWoken ∷ IsConfigured ∷ IsRooted ∷ IsListed ∷ IsListening ∷ IsStuck ∷ [])

-- what failed is counted, and nothing but a printed line follows it
unfoldable pub stuck : State → State
stuck s = record s { phase = IsStuck; failures = s.failures + 1 }

unfoldable pub opened_to : Phase → Bool → State → State
opened_to phase true s = record s { phase = phase }
opened_to phase false s = stuck s

unfoldable pub configured : Option Bytes → State → State
configured None s = stuck s
configured (Some text) s = with_settings (settings_in (reading_of s.term.words (Some text))) s

abbrev pub permits_configured : State → Bytes → Bool
permits_configured s file = is_at IsWoken s && is_some_with (λ named. bytes_eq named file) (file_of s.term.words)

abbrev pub permits_rooted : State → Bytes → Bool
permits_rooted s folder = is_at IsConfigured s && bytes_eq folder s.settings.root

-- each stray gate was closed, and its file synced
abbrev pub is_recovered : State → Bool
is_recovered s = is_idle_disk s && is_empty s.agenda.todo && not (list_any (has_stray_gates s) s.entries)

abbrev pub permits_listens : State → ℕ → Bool
permits_listens s port = is_at IsListed s && (port == s.settings.port) && is_recovered s

-- an entry that could not be read or repaired is none in this life
unfoldable pub lose_in_opening : Bytes → State → State
lose_in_opening name s = elim (is_opening s) [ true ↦ lose_entry name s | false ↦ s ]

-- a failure comes only where the outside failed so often
abbrev pub may_fail : State → Bool → Bool
may_fail s ok = ok || nat_lt s.failures s.term.faults
