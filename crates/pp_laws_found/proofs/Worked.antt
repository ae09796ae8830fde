-- The laws' words on a worked log: a body of five bytes is fetched, drafted and sealed.
use Rattle.std.proofs.Common.{◌≡◌, refl, ℕ, true, false, List, [], ◌∷◌, ◌++◌, map, codes, Some, None}
use Rattle.std.specs.Prelude.{replicate}
use Rattle.pp_world.specs.Log.{Log}
use Rattle.pp_world.specs.declared.happening.Happening.{Happening}
use Rattle.pp_world.specs.declared.happening.Happening.TheVariants.{Woke, Waits, CanRead, CanWrite, Clock, Opened, Heard, Dialled, Reached, Asked, Got, Began, Did, Noted, Rooted, Listed, Listens}
use Rattle.pp_world.specs.declared.note.Decision.TheVariants.{Fetch}
use Rattle.pp_world.specs.declared.note.Remark.TheVariants.{Taken, Kept, Gone}
use Rattle.pp_world.specs.declared.op.DiskOp.TheVariants.{Draft, SyncDraft, Publish, Write, Sync}
use Rattle.pp_law.proofs.OnLiterals.{pp_law_on_literals}
use Rattle.pp_law.specs.Entries.{entries_in}
use Rattle.pp_law.specs.Lawful.{first_fault}
use Rattle.pp_law.specs.Lists.{Bytes}
use Rattle.pp_law.specs.Opening.{is_left_behind}
use Rattle.pp_law.specs.State.{Term, Entry}
use Rattle.pp_laws.specs.Runs.{state_after}
use Rattle.pp_laws_found.specs.Found.{acknowledged}
use Rattle.pp_laws_found.specs.Counts.{is_no_entry}

abbrev wait : List ℕ → List ℕ → Happening
wait read write = Waits (record { accept = true; read = record { items = read }; write = record { items = write } })

-- one life, with runs of one chunk, in which nothing fails outside
abbrev one_life : List Term
one_life = record { words = codes "diskRun=1" ∷ codes "pipelineAsks=1" ∷ codes "hostConnections=4" ∷ []; faults = 0 } ∷ []

abbrev key : Bytes
key = codes "http://h/a"

-- md5 of the key (RFC 1321)
abbrev name : Bytes
name = codes "2ce7276502725c281e6d5ae4e55aed55"

abbrev head : Bytes
head = codes "HTTP/1.1 200 OK\r\netag: \"x\"\r\ndate: Sun, 06 Nov 1994 08:49:37 GMT\r\ncache-control: max-age=60\r\nX-Polipo-Location: http://h/a\r\nX-Polipo-Date: 784111777\r\nX-Polipo-Age: 0\r\nX-Polipo-Length: 5\r\nX-Polipo-Body-Offset: 12288\r\n\r\n"

-- its file, with its gate closed and open
abbrev drafted : Bytes
drafted = head ++ replicate 12071 0

abbrev kept_file : Bytes
kept_file = head ++ (replicate 7975 0 ++ (1 ∷ []) ++ replicate 4095 0 ++ codes "hello")

abbrev shut_file : Bytes
shut_file = head ++ (replicate 12071 0 ++ codes "hello")

-- it is fetched, and its entry is published
abbrev published : Log
published =
    Woke [] ∷ Rooted (codes "polipo-cache") ∷ Listed true ∷ Listens 8123 true ∷ wait [] [] ∷ Clock 784111777 ∷ wait [] [] ∷ Opened 1 ∷ wait (1 ∷ []) [] ∷ CanRead 1
    ∷ Heard 1 (codes "GET http://h/a HTTP/1.1\r\nHost: h\r\n\r\n") ∷ Noted (Taken 1 0 Fetch) ∷ Dialled 2 (codes "h") 80 ∷ wait (1 ∷ []) [] ∷ Reached 2 ∷ wait (1 ∷ 2 ∷ []) (2 ∷ []) ∷ CanWrite 2
    ∷ Asked 2 (codes "GET /a HTTP/1.1\r\nhost: h\r\nvia: 1.1 polipo\r\n\r\n") ∷ wait (1 ∷ 2 ∷ []) [] ∷ CanRead 2
    ∷ Got 2 (codes "HTTP/1.1 200 OK\r\nDate: Sun, 06 Nov 1994 08:49:37 GMT\r\nETag: \"x\"\r\nCache-Control: max-age=60\r\nContent-Length: 5\r\n\r\nhello")
    ∷ Began (Draft drafted) ∷ Did (Draft drafted) true ∷ Began SyncDraft ∷ Did SyncDraft true ∷ Began (Publish name) ∷ Did (Publish name) true ∷ []

-- its chunk is sealed, and noted as kept
abbrev sealed : Log
sealed =
    published ++ Began (Write name 12288 (codes "hello")) ∷ Did (Write name 12288 (codes "hello")) true ∷ Began (Sync name) ∷ Did (Sync name) true
    ∷ Began (Write name 8192 (1 ∷ [])) ∷ Did (Write name 8192 (1 ∷ [])) true ∷ Began (Sync name) ∷ Did (Sync name) true ∷ Noted (Kept key (codes "\"x\"") 5 5) ∷ []

is_lawful : first_fault one_life sealed ≡ None
unfolding pp_law_on_literals
is_lawful = refl

-- ---- what is acknowledged

nothing_yet : acknowledged key published ≡ None
unfolding pp_law_on_literals
nothing_yet = refl

five_bytes : acknowledged key sealed ≡ Some (record { version = record { tag = codes "\"x\""; length = 5 }; extent = 5 })
unfolding pp_law_on_literals
five_bytes = refl

gone_again : acknowledged key (sealed ++ Noted (Gone key) ∷ []) ≡ None
unfolding pp_law_on_literals
gone_again = refl

-- ---- what a crash leaves behind it has them; a file with its gate closed, or none, it does not leave

abbrev extents : List (Bytes × Bytes) → List ℕ
extents image = map (λ (e : Entry). e.extent) (entries_in image)

they_are_there : extents ((name, kept_file) ∷ []) ≡ 5 ∷ []
unfolding pp_law_on_literals
they_are_there = refl

is_left : is_left_behind (state_after one_life sealed).disk ((name, kept_file) ∷ []) ≡ true
unfolding pp_law_on_literals
is_left = refl

they_are_not : extents ((name, shut_file) ∷ []) ≡ 0 ∷ []
unfolding pp_law_on_literals
they_are_not = refl

is_not_left : is_left_behind (state_after one_life sealed).disk ((name, shut_file) ∷ []) ≡ false
unfolding pp_law_on_literals
is_not_left = refl

none_is_not_left : is_left_behind (state_after one_life sealed).disk [] ≡ false
unfolding pp_law_on_literals
none_is_not_left = refl

-- ---- files that are entries, and others

an_entry : is_no_entry (name, kept_file) ≡ false
unfolding pp_law_on_literals
an_entry = refl

of_another_name : is_no_entry (replicate 32 48, kept_file) ≡ true
unfolding pp_law_on_literals
of_another_name = refl
