-- Where bytes come from (RFC 2616, section 13.5.4: parts of different versions are never combined).
use Rattle.std.specs.Prelude.{◌≡◌, ◌⊎◌, ℕ, ◌+◌, ◌-◌, ◌*◌, ◌≤◌, List, [], ◌∷◌, ◌++◌, length, drop, slice_get, Option, Some, None}
use Rattle.pp_target.specs.Key.{Key, text_of}
use Rattle.pp_valid.specs.declared.version.Version.{Version}
use Rattle.pp_world.specs.Log.{Log}
use Rattle.pp_world.specs.declared.happening.Happening.{Happening}
use Rattle.pp_world.specs.declared.happening.Happening.TheVariants.{Noted, Said}
use Rattle.pp_world.specs.declared.note.Remark.TheVariants.{Loaded}
use Rattle.pp_law.specs.After.{after}
use Rattle.pp_law.specs.Chunks.{chunk_len}
use Rattle.pp_law.specs.Connections.{client}
use Rattle.pp_law.specs.Lawful.{Lawful}
use Rattle.pp_law.specs.Lists.{Bytes}
use Rattle.pp_law.specs.Requests.{key_in}
use Rattle.pp_law.specs.State.{State, Sent, Term, Client, Instance, Chunk, Entry, Reply, Answering, start}
use Rattle.pp_law.specs.Store.{chunk_in_file}
use Rattle.pp_law.specs.Table.{row, kept_row, source_of}
use Rattle.pp_laws.specs.Runs.{state_after, IsIn}

-- ---- what origins sent is not forgotten

-- what was sent last stands in front
abbrev pub IsBackPart : List Sent → List Sent → Type 0
IsBackPart old sent = (newer : List Sent) × (sent ≡ newer ++ old)

-- over all lives: what was sent behind a front of the log is the back part of what was sent behind all of it
abbrev pub SentOnlyGrows : Type 0
SentOnlyGrows = (terms : List Term) (front rest : Log) → Lawful terms (front ++ rest) → IsBackPart (state_after terms front).sent (state_after terms (front ++ rest)).sent

-- ---- bytes that were sent

-- what was sent has this byte at that offset of that version of the key
abbrev pub Holds : Sent → Bytes → Version → ℕ → ℕ → Type 0
Holds part key version at byte = (part.key ≡ key) × (part.version ≡ version) × (part.at ≤ at) × (slice_get part.bytes (at - part.at) ≡ Some byte)

-- an origin sent this byte at that offset of that version of the key
abbrev pub IsSentIn : List Sent → Bytes → Version → ℕ → ℕ → Type 0
IsSentIn [] key version at byte = ⊥
IsSentIn (part ∷ sent) key version at byte = Holds part key version at byte ⊎ IsSentIn sent key version at byte

-- each byte, from that offset on
abbrev pub AllSent : List Sent → Bytes → Version → ℕ → Bytes → Type 0
AllSent sent key version at [] = Unit {0}
AllSent sent key version at (byte ∷ bytes) = IsSentIn sent key version at byte × AllSent sent key version (at + 1) bytes

-- ---- what is read back from the disk was sent

-- the law of the disk is another one: here it is a premise, at each chunk that is noted as loaded
abbrev pub EntryWasSent : State → Instance → ℕ → Option Entry → Type 0
EntryWasSent s x i None = Unit {0}
EntryWasSent s x i (Some e) = AllSent s.sent x.key x.version (i * chunk_len) (chunk_in_file s e i)

abbrev pub ChunkWasSent : State → Bytes → ℕ → Option Instance → Type 0
ChunkWasSent s key i None = Unit {0}
ChunkWasSent s key i (Some x) = EntryWasSent s x i (kept_row s key)

abbrev pub LoadWasSent : State → Happening → Type 0
LoadWasSent s (Noted (Loaded key tag n i)) = ChunkWasSent s key i (row s key)
LoadWasSent s h = Unit {0}

-- along the log
abbrev pub LoadsWhatWasSent : State → Log → Type 0
LoadsWhatWasSent s [] = Unit {0}
LoadsWhatWasSent s (h ∷ log) = LoadWasSent s h × LoadsWhatWasSent (after s h) log

-- ---- what is held was sent

-- each byte in memory was sent, for that key, at that offset, under that version
abbrev pub HoldsWhatWasSent : State → Type 0
HoldsWhatWasSent s = (x : Instance) (c : Chunk) → IsIn x s.instances → IsIn c s.chunks → c.instance ≡ x.id
    → AllSent s.sent x.key x.version (c.index * chunk_len) c.bytes

-- behind each lawful log
abbrev pub HeldWasSent : Type 0
HeldWasSent = (terms : List Term) (log : Log) → Lawful terms log → LoadsWhatWasSent (start terms) log → HoldsWhatWasSent (state_after terms log)

-- ---- what is said was sent

-- bytes of what the client's request names, under this version, from that offset on
pub record IsSentFor (sent : List Sent) (c : Client) (version : Version) (at : ℕ) (bytes : Bytes) : Type 0 where
  pub key : Key
  pub names : key_in c.front ≡ Some key
  pub was_sent : AllSent sent (text_of key) version at bytes

-- to a client that is answered from an instance: what is said behind the interim answer and the head, from the next offset on
abbrev pub SaysWhatWasSent : State → ℕ → Bytes → Type 0
SaysWhatWasSent s n bytes = (c : Client) (r : Reply) (x : Instance) → client s n ≡ Some c → c.stage ≡ Answering r → source_of s r ≡ Some x
    → IsSentFor s.sent c x.version r.at (drop (length (c.interim_left ++ r.head_left)) bytes)

abbrev pub SaidWasSent : Type 0
SaidWasSent = (terms : List Term) (log : Log) (n offered : ℕ) (bytes : Bytes) → Lawful terms (log ++ Said n offered bytes ∷ []) → LoadsWhatWasSent (start terms) log → SaysWhatWasSent (state_after terms log) n bytes
