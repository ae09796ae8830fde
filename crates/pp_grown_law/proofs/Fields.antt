-- Each entry of the shelf has the fields that are kept of them, over each event.
use Rattle.std.proofs.Common.{◌≡◌, sym, subst, ℕ, Option, Some, None}
use Rattle.std.specs.Option.{option_and_then}
use Rattle.std.specs.Prelude.{slice_get}
use Rattle.pp_due.specs.OnDisk.{next_on_disk}
use Rattle.pp_law.specs.Lists.{Bytes}
use Rattle.pp_objects.specs.Instances.{Instance}
use Rattle.pp_objects.specs.declared.id.ObjectId.{ObjectId}
use Rattle.pp_proxy.specs.Handling.{ReadsBy, WritesBy}
use Rattle.pp_proxy.specs.Moving.{at_desk}
use Rattle.pp_seats.specs.declared.seat.Next.{Next}
use Rattle.pp_shelf_law.proofs.KeptEntries.{loads_kept}
use Rattle.pp_shelf_law.specs.AsKept.{EachIsAsKept}
use Rattle.pp_state.specs.Bringing.{instance_of}
use Rattle.pp_state.specs.Ends.{numbers_of, place_of}
use Rattle.pp_state.specs.declared.state.State.{State as Turn}
use Rattle.pp_store.specs.Kept.{KeptMap}
use Rattle.pp_talk.specs.Loading.{Answer, LoadsNext, LoadsOf, LoadsWhere, chunk_at, shelf_after}
use Rattle.pp_world.specs.Log.{Log}
use Rattle.pp_world.specs.declared.event.Event.TheVariants.{Stop, Tick, Accepted, Readable, Writable, Reached, Broken}
use Rattle.pp_grown_law.specs.Handled.{EventsKeepFields}

same : (a b : KeptMap) → b ≡ a → EachIsAsKept a → EachIsAsKept b
same a b is each = subst EachIsAsKept (sym is) each

-- ---- a chunk is read

module _ (shelf behind : KeptMap) (p q : Turn) (old new : Option Log) (a b : ℕ) (each : EachIsAsKept shelf) where
  answered : (answer : Answer) (key : Bytes) → behind ≡ shelf_after answer key shelf → EachIsAsKept behind
  answered None key is = same shelf behind is each
  answered (Some r) key is = subst EachIsAsKept (sym is) (loads_kept shelf key r each)

  of_chunk : (id : ObjectId) (o : Option Instance) (index : Option ℕ) → LoadsOf id o index shelf p behind q old new a b → EachIsAsKept behind
  of_chunk id None index it = same shelf behind it.0 each
  of_chunk id (Some i) None it = same shelf behind it.0 each
  of_chunk id (Some i) (Some index) it = answered it.answer i.key it.map

  next : (o : Option Next) → LoadsWhere o shelf p behind q old new a b → EachIsAsKept behind
  next None it = same shelf behind it.0 each
  next (Some n) it = of_chunk n.source (instance_of n.source p.cache.instances) (chunk_at n.at) it

  pub load_keeps : (i : ℕ) → LoadsNext i shelf p behind q old new a b → EachIsAsKept behind
  load_keeps i it = next (option_and_then (next_on_disk p) (slice_get p.seats.items i)) it

-- ---- all of it

pub events_keep : EventsKeepFields
events_keep Stop x y it each = same x.shelf y.shelf it.1.shelf each
events_keep (Tick seconds) x y it each = same x.shelf y.shelf it.1.shelf each
events_keep (Accepted c) x y it each = same x.shelf y.shelf it.1.shelf each
events_keep (Readable id) x y it each = by (place_of id (numbers_of it.woken.state.seats.items)) it.reads
  where
    by : (o : Option ℕ) → ReadsBy o id (at_desk it.woken x) y → EachIsAsKept y.shelf
    by (Some i) hears = same x.shelf y.shelf hears.one.shelf each
    by None receives = same x.shelf y.shelf receives.one.shelf each
events_keep (Writable id) x y it each = by (place_of id (numbers_of it.woken.state.seats.items)) it.writes
  where
    by : (o : Option ℕ) → WritesBy o id (at_desk it.woken x) y → EachIsAsKept y.shelf
    by (Some i) says = load_keeps x.shelf y.shelf says.roused.state says.says.loaded.state x.log says.says.between x.faults says.says.count each i says.says.loads
    by None asks = same x.shelf y.shelf asks.one.shelf each
events_keep (Reached k) x y it each = same x.shelf y.shelf it.1.shelf each
events_keep (Broken k) x y it each = same x.shelf y.shelf it.1.shelf each
