-- A chunk that is read back leaves those who are looked at as they are.
use Rattle.std.proofs.Common.{◌≡◌, ap, ℕ, List, Option, Some, None, Ok, Err}
use Rattle.std.specs.Prelude.{slice_get}
use Rattle.std.specs.Option.{option_and_then}
use Rattle.pp_due.specs.OnDisk.{next_on_disk}
use Rattle.pp_objects.specs.Instances.{Instance}
use Rattle.pp_objects.specs.declared.id.ObjectId.{ObjectId}
use Rattle.pp_seats.specs.declared.seat.Next.{Next}
use Rattle.pp_state.specs.Bringing.{instance_of}
use Rattle.pp_state.specs.declared.state.State.{State}
use Rattle.pp_store.specs.Kept.{KeptMap}
use Rattle.pp_talk.specs.Loading.{Answer, LoadsNext, LoadsOf, LoadsWhere, TakesChunk, chunk_at}
use Rattle.pp_world.specs.Log.{Log}

taken : (answer : Answer) (out : List ℕ) (index : ℕ) (id : ObjectId) (old new : State) → TakesChunk answer out index id old new → new.awake ≡ old.awake
taken None out index id old new is = ap (λ (s : State). s.awake) is
taken (Some (Ok count)) out index id old new is = ap (λ (s : State). s.awake) is.rest
taken (Some (Err fault)) out index id old new is = ap (λ (s : State). s.awake) is

loads_of : (id : ObjectId) (o : Option Instance) (index : Option ℕ) (shelf : KeptMap) (s : State) (behind : KeptMap) (t : State) (old new : Option Log) (before now : ℕ) → LoadsOf id o index shelf s behind t old new before now → t.awake ≡ s.awake
loads_of id None index shelf s behind t old new before now its = ap (λ (r : State). r.awake) its.1
loads_of id (Some i) None shelf s behind t old new before now its = ap (λ (r : State). r.awake) its.1
loads_of id (Some i) (Some index) shelf s behind t old new before now its = taken its.answer its.out index id s t its.is

loads_where : (o : Option Next) (shelf : KeptMap) (s : State) (behind : KeptMap) (t : State) (old new : Option Log) (before now : ℕ) → LoadsWhere o shelf s behind t old new before now → t.awake ≡ s.awake
loads_where None shelf s behind t old new before now its = ap (λ (r : State). r.awake) its.1
loads_where (Some next) shelf s behind t old new before now its = loads_of next.source (instance_of next.source s.cache.instances) (chunk_at next.at) shelf s behind t old new before now its

pub loads : (i : ℕ) (shelf : KeptMap) (s : State) (behind : KeptMap) (t : State) (old new : Option Log) (before now : ℕ) → LoadsNext i shelf s behind t old new before now → t.awake ≡ s.awake
loads i shelf s behind t old new before now its = loads_where (option_and_then (next_on_disk s) (slice_get s.seats.items i)) shelf s behind t old new before now its
