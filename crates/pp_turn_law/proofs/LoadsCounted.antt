-- What a write adds to the log, with the read of a chunk before it, and how often the outside failed in it.
use Rattle.std.proofs.Common.{◌≡◌, ◌≤◌, refl, sym, ap, ◌∙◌, ℕ, ◌+◌, [], ◌++◌, append_assoc, Option, Some, None, arith}
use Rattle.std.specs.Option.{option_and_then}
use Rattle.std.specs.Prelude.{count_by, slice_get}
use Rattle.pp_cache_law.proofs.PairLemmas.{count_joined}
use Rattle.pp_desk.proofs.ShuttingLemmas.{none_added}
use Rattle.pp_desk.specs.Closings.{sides}
use Rattle.pp_due.specs.OnDisk.{next_on_disk}
use Rattle.pp_joints_law.proofs.CallsBehind.{drop_front, some_same}
use Rattle.pp_joints_law.proofs.Losses.{WroteThen, wrote_then}
use Rattle.pp_obeys.specs.Failures.{fails}
use Rattle.pp_objects.specs.Instances.{Instance}
use Rattle.pp_objects.specs.declared.id.ObjectId.{ObjectId}
use Rattle.pp_proxy.specs.Handling.{SaysAt}
use Rattle.pp_proxy.specs.Moving.{Turning}
use Rattle.pp_seats.specs.declared.seat.Next.{Next}
use Rattle.pp_state.specs.Bringing.{instance_of}
use Rattle.pp_state.specs.declared.state.State.{State}
use Rattle.pp_store.specs.Kept.{KeptMap}
use Rattle.pp_talk.specs.Loading.{LoadsOf, LoadsWhere, chunk_at, load_log}
use Rattle.pp_turn_law.proofs.CallsHandled.{none_fails}
use Rattle.pp_world.specs.Log.{AppendsAll, Log}

-- the log has these where it is told there, and the outside failed no less
record Counts (old new : Option Log) (now : Log) (before count : ℕ) : Type 0 where
  first : Log
  added : AppendsAll old new (λ l. first)
  counted : before + count_by fails first ≤ count

none_counted : (old new : Option Log) (now : Log) (before count : ℕ) → new ≡ old → before ≤ count → Counts old new now before count
none_counted old new now before count still more = record { first = []; added = none_added [] still refl; counted = omega (arith, more, none) }
  where
    none : count_by fails [] ≡ 0
    none = refl

of_one : (id : ObjectId) (o : Option Instance) (index : Option ℕ) (shelf behind : KeptMap) (s t : State) (old new : Option Log) (now : Log) (before count : ℕ) → new ≡ Some now → LoadsOf id o index shelf s behind t old new before count → Counts old new now before count
of_one id None index shelf behind s t old new now before count told loads = none_counted old new now before count loads.2 loads.3
of_one id (Some i) None shelf behind s t old new now before count told loads = none_counted old new now before count loads.2 loads.3
of_one id (Some i) (Some index) shelf behind s t old new now before count told loads = record { first = load_log loads.answer i.key i.version index; added = loads.told; counted = loads.counted.at now told }

of_next : (o : Option Next) (shelf behind : KeptMap) (s t : State) (old new : Option Log) (now : Log) (before count : ℕ) → new ≡ Some now → LoadsWhere o shelf s behind t old new before count → Counts old new now before count
of_next None shelf behind s t old new now before count told loads = none_counted old new now before count loads.2 loads.3
of_next (Some n) shelf behind s t old new now before count told loads = of_one n.source (instance_of n.source s.cache.instances) (chunk_at n.at) shelf behind s t old new now before count told loads

-- what the read adds comes first
joined : (old between new : Option Log) (now hs first : Log) → new ≡ Some now → AppendsAll old new (λ l. hs) → AppendsAll old between (λ l. first) → (w : WroteThen between new now) → hs ≡ first ++ w.wrote
joined old between new now hs first told all one w =
    let a : (k : Log) × (old ≡ Some k) × (now ≡ k ++ hs) = all.was now told in
    let b : (k : Log) × (old ≡ Some k) × (w.log ≡ k ++ first) = one.was w.log w.told in
    let same : b.0 ≡ a.0 = some_same b.0 a.0 (sym b.1 ∙ a.1) in
    drop_front a.0 hs (first ++ w.wrote) (sym a.2 ∙ w.is ∙ ap (λ (l : Log). l ++ w.wrote) b.2 ∙ append_assoc b.0 first w.wrote ∙ ap (λ (l : Log). l ++ (first ++ w.wrote)) same)

pub says_counted : (i : ℕ) (x y : Turning) (says : SaysAt i x y) (now hs : Log) → y.log ≡ Some now → AppendsAll x.log y.log (λ l. hs) → x.faults + count_by fails hs ≤ y.faults
says_counted i x y says now hs told added =
    let w : WroteThen says.says.between y.log now = wrote_then (slice_get says.says.loaded.state.seats.items i) i x.moving.links (sides says.says.loaded) says.says.says.0 says.says.between y.log now told says.says.says.1 in
    let c : Counts x.log says.says.between w.log x.faults says.says.count =
    of_next (option_and_then (next_on_disk says.roused.state) (slice_get says.roused.state.seats.items i)) x.shelf y.shelf says.roused.state says.says.loaded.state x.log says.says.between w.log x.faults says.says.count w.told says.says.loads in
    let is : hs ≡ c.first ++ w.wrote = joined x.log says.says.between y.log now hs c.first told added c.added w in
    let count : count_by fails hs ≡ count_by fails (c.first ++ w.wrote) = ap (λ (l : Log). count_by fails l) is in
    let both : count_by fails (c.first ++ w.wrote) ≡ count_by fails c.first + count_by fails w.wrote = count_joined fails c.first w.wrote in
    let none : count_by fails w.wrote ≡ 0 = none_fails w.wrote w.silent.none in
    omega (arith, c.counted, count, both, none, says.says.counted)
