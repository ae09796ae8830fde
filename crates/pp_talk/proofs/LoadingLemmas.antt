-- Which chunk is read, of which instance, and what the log gets of it.
use Rattle.std.proofs.Common.{◌≡◌, ◌≤◌, ◌+◌, ◌↔◌, ℕ, Bool, true, false, cond, List, [], ◌∷◌, Option, Some, None, Ok, Err, IfNone, IfSome, IsNone, IsSomeAnd, refl, sym, subst, subst₂}
use Rattle.std.specs.Prelude.{count_by}
use Rattle.pp_desk.proofs.ShuttingLemmas.{none_added}
use Rattle.pp_links.specs.Failures.{fails}
use Rattle.pp_links.proofs.FailureLemmas.{counted_none, counted_one}
use Rattle.pp_objects.specs.Instances.{Instance, in_slot, is_there}
use Rattle.pp_objects.specs.Views.{ShowsRow}
use Rattle.pp_objects.specs.declared.objects.RowView.{RowView}
use Rattle.pp_seats.specs.declared.seat.Next.{Next}
use Rattle.pp_state.specs.declared.state.State.{State}
use Rattle.pp_store.specs.Changes.{loaded_after}
use Rattle.pp_store.specs.Kept.{KeptMap}
use Rattle.pp_store.specs.Loads.{LoadCause, load_happenings}
use Rattle.pp_store.specs.declared.faults.LoadFault.TheVariants.{DiskFault, Short}
use Rattle.pp_talk.specs.Loading.{Answer, Loads, LoadsChunk, LoadsOf, chunk_at, chunk_notes, disk_log, load_log, shelf_after}
use Rattle.pp_state.specs.Bringing.{instance_of}
use Rattle.pp_target.specs.Name.{name_of}
use Rattle.pp_valid.specs.declared.version.Version.{Version}
use Rattle.pp_world.proofs.CallLemmas.{appends_then, rises_earlier}
use Rattle.pp_world.specs.Log.{AppendsAll, Log, Told}
use Rattle.pp_world.specs.declared.happening.Happening.TheVariants.{Noted}
use Rattle.pp_world.specs.declared.note.Remark.TheVariants.{Gone, Loaded}

-- ---- a chunk is read

pub shelf_so : (answer : Answer) (key : List ℕ) (old new : KeptMap) → IfNone answer (new ≡ old) → IfSome answer (λ r. new ≡ loaded_after r key old) → new ≡ shelf_after answer key old
shelf_so None key old new none some = none
shelf_so (Some r) key old new none some = some

disk_told : {old new : Option Log} (answer : Answer) (key : List ℕ) → IfNone answer (new ≡ old) → IfSome answer (λ r. AppendsAll old new (λ l. load_happenings (name_of key) r)) → AppendsAll old new (λ l. disk_log answer key)
disk_told None key still told = none_added [] still refl
disk_told (Some r) key still told = told

-- the note comes behind what the disk tells
pub load_told : {old mid new : Option Log} (answer : Answer) (key : List ℕ) (version : Version) (index : ℕ) → IfNone answer (mid ≡ old) → IfSome answer (λ r. AppendsAll old mid (λ l. load_happenings (name_of key) r))
    → AppendsAll mid new (λ l. chunk_notes answer key version index) → AppendsAll old new (λ l. load_log answer key version index)
load_told answer key version index still told notes = appends_then (λ l. disk_log answer key) (λ l. chunk_notes answer key version index) (disk_told answer key still told) notes

-- and changes nothing of the cause
pub cause_then : {mid new : Option Log} (before between now len : ℕ) (answer : Answer) (notes : Log) → AppendsAll mid new (λ l. notes) → between ≤ now → IfSome answer (LoadCause mid before between len) → IfSome answer (LoadCause new before now len)
cause_then before between now len None notes grows more cause = tt
cause_then before between now len (Some (Ok count)) notes grows more cause = cause
cause_then before between now len (Some (Err DiskFault)) notes grows more cause = rises_earlier (λ l. notes) before between now grows cause more
cause_then before between now len (Some (Err (Short wanted got))) notes grows more cause = (cause.0, cause.1, record { at = λ l is. let was = grows.was l is in cause.2.at was.0 was.1 })

-- the outside failed where the disk told so
pub load_counted : {new : Option Log} {before now : ℕ} (len : ℕ) (answer : Answer) (key : List ℕ) (version : Version) (index : ℕ) → IfSome answer (LoadCause new before now len) → before ≤ now → Told new (λ l. before + count_by fails (load_log answer key version index) ≤ now)
load_counted len None key version index cause more = counted_none [] refl more
load_counted len (Some (Ok count)) key version index cause more = counted_none (Noted (Loaded key version.tag version.length index) ∷ []) refl more
load_counted {new} {before} {now} len (Some (Err DiskFault)) key version index cause more = counted_one before now cause
load_counted len (Some (Err (Short wanted got))) key version index cause more = counted_none (Noted (Gone key) ∷ []) refl more

-- ---- which one

-- the instance is gone
pub none_there : {before now : ℕ} (next : Next) (shelf : KeptMap) (s : State) (log : Option Log) → is_there next.source s.cache.instances ≡ false → before ≤ now → Loads next shelf s shelf s log log before now
none_there {before} {now} next shelf s log gone more =
    subst (λ (b : Bool). LoadsOf next.source (cond b (in_slot next.source.slot s.cache.instances) None) (chunk_at next.at) shelf s shelf s log log before now) (sym gone) (refl, refl, refl, more)

-- no chunk has such a number
pub no_chunk : {before now : ℕ} (next : Next) (shelf : KeptMap) (s : State) (log : Option Log) → chunk_at next.at ≡ None → before ≤ now → Loads next shelf s shelf s log log before now
no_chunk {before} {now} next shelf s log none more = by (instance_of next.source s.cache.instances)
  where
    by : (o : Option Instance) → LoadsOf next.source o (chunk_at next.at) shelf s shelf s log log before now
    by None = (refl, refl, refl, more)
    by (Some i) = subst (λ (n : Option ℕ). LoadsOf next.source (Some i) n shelf s shelf s log log before now) (sym none) (refl, refl, refl, more)

-- this chunk, of the instance that is viewed
pub chunk_there : (next : Next) (index : ℕ) (view : RowView) (shelf behind : KeptMap) (s t : State) (old new : Option Log) (before now : ℕ) → (IsNone (Some view) ↔ (is_there next.source s.cache.instances ≡ false))
    → IsSomeAnd (in_slot next.source.slot s.cache.instances) (ShowsRow view) → chunk_at next.at ≡ Some index → LoadsChunk next.source index view.key.now view.version.now shelf s behind t old new before now → Loads next shelf s behind t old new before now
chunk_there next index view shelf behind s t old new before now there shows at loads = by (is_there next.source s.cache.instances) refl (in_slot next.source.slot s.cache.instances) shows
  where
    by : (b : Bool) → is_there next.source s.cache.instances ≡ b → (o : Option Instance) → IsSomeAnd o (ShowsRow view) → LoadsOf next.source (cond b o None) (chunk_at next.at) shelf s behind t old new before now
    by false gone o shows = absurd (let bad : true ≡ false = there.1 gone in cc)
    by true is None shows = absurd shows
    by true is (Some i) shows =
        subst (λ (n : Option ℕ). LoadsOf next.source (Some i) n shelf s behind t old new before now) (sym at)
        (subst₂ (λ (key : List ℕ) (version : Version). LoadsChunk next.source index key version shelf s behind t old new before now) shows.key shows.version loads)
