-- The bytes that a load gives, and why it fails.
use Rattle.std.proofs.Common.{◌≡◌, ℕ, ◌+◌, ◌*◌, ◌<◌, ◌≤◌, Bool, true, false, List, [], ◌++◌, length, take, drop, get_or, Option, Some, Ok, Err, arith, length-drop, length-take-le, refl, sym, ◌∙◌, ap, subst}
use Rattle.std.specs.Prelude.{Result, IsSome}
use Rattle.std.proofs.lemmas.List.{append-nil, get_or-take, get_or-drop}
use Rattle.pp_world.specs.Log.{Log, AppendsAll, Told}
use Rattle.pp_world.specs.Disk.{Bytes, settled, view_of}
use Rattle.pp_target.specs.Name.{name_of}
use Rattle.pp_entry.specs.Texts.{body_at}
use Rattle.pp_gate.specs.Files.{body, Sent}
use Rattle.pp_gate.specs.Gate.{HoldsJust}
use Rattle.pp_gate.proofs.SealLemmas.{settled_bytes}
use Rattle.pp_store.specs.declared.faults.LoadFault.{LoadFault}
use Rattle.pp_store.specs.declared.faults.LoadFault.TheVariants.{DiskFault, Short}
use Rattle.pp_store.specs.declared.row.Site.{Site}
use Rattle.pp_store.specs.Kept.{Kept, KeptMap, HasOwnNames, IsExtent, name_at, block_of, kept_of, row_of}
use Rattle.pp_store.specs.Changes.{lost}
use Rattle.pp_store.specs.Held.{IsHeld, Holds, Covers}
use Rattle.pp_store.specs.Loads.{chunk_len, load_happenings, GivesRead, GivesChunk, GivesSent, LoadCause, ReadCause}
use Rattle.pp_store.specs.Views.{site_of}
use Rattle.pp_store.proofs.Names.{found_row, not-closed, row-name}
use Rattle.pp_store.proofs.Running.{After, after_none, after_appends, told_both}
use Rattle.pp_store.proofs.Holding.{holds-lost, covers-lost}
use Rattle.pp_store.proofs.Calls.{unread_holds, unread_covers}
use Rattle.pp_store.proofs.Sealing.{row_held}

-- no operation failed on the name of a key that is kept
kept_sound : (sent : Sent) (store : KeptMap) (key : List ℕ) (l : Log) → HasOwnNames store → IsSome (kept_of key store) → Holds sent store l → (view_of (name_at (row_of key store)) l).failed ≡ false
kept_sound sent store key l own kept held =
    ap (λ (n : Bytes). (view_of n l).failed) (row-name key store kept) ∙ by (view_of (name_of key) l).failed refl
  where
    by : (b : Bool) → (view_of (name_of key) l).failed ≡ b → b ≡ false
    by true is = absurd (not-closed key store own kept (held.failed (name_of key) is))
    by false is = refl

pub read-as : (old : Option Log) (row : Kept) (site : Site) (index : ℕ) (out : Bytes) (r : Result ℕ LoadFault) → site ≡ site_of row
    → Told old (GivesRead site.name (body_at site.length + 4096 * index) (chunk_len site.length index) out r)
    → Told old (GivesRead (name_at row) (body_at row.entry.version.length + 4096 * index) (chunk_len row.entry.version.length index) out r)
read-as old row site index out r is told = subst (λ (s : Site). Told old (GivesRead s.name (body_at s.length + 4096 * index) (chunk_len s.length index) out r)) is told

-- a chunk that is kept lies below the extent
ends_within : (n extent index : ℕ) → IsExtent n extent → 4096 * index < extent → 4096 * index + chunk_len n index ≤ extent
ends_within n extent index whole below = omega (arith, whole, below)

reads : (row : Kept) (at len count : ℕ) (out file : Bytes) (l : Log) → (view_of (name_at row) l).failed ≡ false → HoldsJust (name_at row) file l → GivesRead (name_at row) at len out (Ok count) l
    → take count out ≡ take len (drop at file)
reads row at len count out file l sound alone gives =
    gives (Some (settled file)) (record { alone = alone; sound = sound }) ∙ ap (λ (b : Bytes). take len (drop at b)) (settled_bytes file)

pub gives_chunk : (old : Option Log) (sent : Sent) (store : KeptMap) (key : List ℕ) (index count : ℕ) (out : Bytes) → HasOwnNames store → IsSome (kept_of key store) → Told old (Holds sent store)
    → count ≡ chunk_len (row_of key store).entry.version.length index
    → Told old (GivesRead (name_at (row_of key store)) (body_at (row_of key store).entry.version.length + 4096 * index) (chunk_len (row_of key store).entry.version.length index) out (Ok count))
    → Told old (GivesChunk (row_of key store) index out (Ok count))
gives_chunk old sent store key index count out own kept told all read = told_both old (Holds sent store) _ (GivesChunk (row_of key store) index out (Ok count)) told read
    (λ l held gives file alone.
    reads (row_of key store) _ _ count out file l (kept_sound sent store key l own kept held) alone gives
    ∙ ap (λ (len : ℕ). take len (drop (body_at (row_of key store).entry.version.length + 4096 * index) file)) (sym all))

byte-is : (n index offset count : ℕ) (out file : Bytes) → offset < count → take count out ≡ take count (drop (body_at n + 4096 * index) file) → body n file (4096 * index + offset) ≡ get_or out offset 0
unfolding body
byte-is n index offset count out file lt same =
    ap (λ (k : ℕ). get_or file k 0) (place (body_at n) (4096 * index) offset)
    ∙ sym (get_or-drop (body_at n + 4096 * index) file offset 0)
    ∙ sym (get_or-take count (drop (body_at n + 4096 * index) file) offset 0 lt)
    ∙ sym (ap (λ (b : Bytes). get_or b offset 0) same)
    ∙ get_or-take count out offset 0 lt
  where
    place : (a b c : ℕ) → a + (b + c) ≡ (a + b) + c
    place a b c = omega arith

pub gives_sent : (old : Option Log) (sent : Sent) (store : KeptMap) (key : List ℕ) (index count : ℕ) (out : Bytes) → IsSome (kept_of key store) → Told old (Holds sent store)
    → IsExtent (row_of key store).entry.version.length (row_of key store).extent → 4096 * index < (row_of key store).extent → count ≡ chunk_len (row_of key store).entry.version.length index
    → Told old (GivesChunk (row_of key store) index out (Ok count)) → Told old (λ l. GivesSent sent (row_of key store) index out (Ok count))
gives_sent old sent store key index count out kept told whole below all read =
    told_both old (λ l. IsHeld sent l (row_of key store)) _ (λ l. GivesSent sent (row_of key store) index out (Ok count)) (row_held old sent store key kept told) read
    (λ l held gives offset lt.
    subst (λ (b : ℕ). sent (block_of (row_of key store).entry) (4096 * index + offset) b ≡ true)
    (byte-is (row_of key store).entry.version.length index offset count out held.keeps.bytes lt (gives held.keeps.bytes held.keeps.slot))
    (held.keeps.holds (4096 * index + offset) (omega (arith, lt, all, whole, ends_within (row_of key store).entry.version.length (row_of key store).extent index whole below))))

-- after a load that failed
module _ (old new : Option Log) (sent : Sent) (store : KeptMap) (key : List ℕ) (own : HasOwnNames store) (kept : IsSome (kept_of key store)) where
  nothing : (k : Log) → After (name_of key) true k (k ++ [])
  nothing k = subst (After (name_of key) true k) (sym (append-nil k)) (after_none (name_of key) k)

  pub failed_holds : (fault : LoadFault) → AppendsAll old new (λ l. load_happenings (name_of key) (Err fault)) → Told old (Holds sent store) → Told new (Holds sent (lost key store))
  failed_holds DiskFault call told = unread_holds old new sent store key own kept call told
  failed_holds (Short wanted got) call told = after_appends old new [] true (name_of key) (Holds sent store) (Holds sent (lost key store)) call nothing told
      (λ k l held after. holds-lost sent store key (row_of key store) true k l own (found_row key store kept) held after)

  pub failed_covers : (fault : LoadFault) → AppendsAll old new (λ l. load_happenings (name_of key) (Err fault)) → Told old (Covers store) → Told new (Covers (lost key store))
  failed_covers DiskFault call told = unread_covers old new sent store key own kept call told
  failed_covers (Short wanted got) call told = after_appends old new [] true (name_of key) (Covers store) (Covers (lost key store)) call nothing told
      (λ k l covers after. covers-lost store key true k l after covers)

long_enough : (at len : ℕ) (file : Bytes) → at + len ≤ length file → length (take len (drop at file)) ≡ len
long_enough at len file le = length-take-le len (drop at file) (omega (arith, length-drop at file, le))

-- a file that is held is never too short
never_short : (sent : Sent) (store : KeptMap) (key : List ℕ) (index wanted got : ℕ) (out : Bytes) (l : Log) → HasOwnNames store → IsSome (kept_of key store) → Holds sent store l → IsHeld sent l (row_of key store)
    → IsExtent (row_of key store).entry.version.length (row_of key store).extent → 4096 * index < (row_of key store).extent → wanted ≡ chunk_len (row_of key store).entry.version.length index → got < wanted
    → GivesRead (name_at (row_of key store)) (body_at (row_of key store).entry.version.length + 4096 * index) (chunk_len (row_of key store).entry.version.length index) out (Err (Short wanted got)) l → ⊥
never_short sent store key index wanted got out l own kept holds held whole below all less gives =
    let n = (row_of key store).entry.version.length in
    let at : ℕ = body_at n + 4096 * index in
    let read : length (take (chunk_len n index) (drop at held.keeps.bytes)) ≡ got =
    ap (λ (b : Bytes). length (take (chunk_len n index) (drop at b))) (sym (settled_bytes held.keeps.bytes)) ∙ gives (Some (settled held.keeps.bytes)) (record { alone = held.keeps.slot; sound = kept_sound sent store key l own kept holds }) in
    let there : at + chunk_len n index ≤ length held.keeps.bytes = omega (arith, held.keeps.kept.long, whole, ends_within n (row_of key store).extent index whole below) in
    omega (arith, read, long_enough at (chunk_len n index) held.keeps.bytes there, all, less)

pub load_cause : (old new : Option Log) (sent : Sent) (store : KeptMap) (key : List ℕ) (index before now : ℕ) (out : Bytes) (fault : LoadFault) → HasOwnNames store → IsSome (kept_of key store) → Told old (Holds sent store)
    → IsExtent (row_of key store).entry.version.length (row_of key store).extent → 4096 * index < (row_of key store).extent
    → AppendsAll old new (λ l. load_happenings (name_of key) (Err fault))
    → Told old (GivesRead (name_at (row_of key store)) (body_at (row_of key store).entry.version.length + 4096 * index) (chunk_len (row_of key store).entry.version.length index) out (Err fault))
    → ReadCause new before now (chunk_len (row_of key store).entry.version.length index) (Err fault)
    → LoadCause new before now (chunk_len (row_of key store).entry.version.length index) (Err fault)
load_cause old new sent store key index before now out DiskFault own kept told whole below call read cause = cause
load_cause old new sent store key index before now out (Short wanted got) own kept told whole below call read cause = (
  cause.0,
  cause.1,
  record {
    at = λ l is.
        let was = call.was l is in
        never_short sent store key index wanted got out was.0 own kept (told.at was.0 was.1) ((row_held old sent store key kept told).at was.0 was.1) whole below cause.0 cause.1 (read.at was.0 was.1);
  },
)
