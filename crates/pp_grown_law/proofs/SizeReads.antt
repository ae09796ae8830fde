-- Where an origin is read and a chunk is read back, the cache may have as many chunks as before.
use Rattle.std.proofs.Common.{◌≡◌, refl, sym, subst, ap, ◌∙◌, ℕ, zero, suc, ◌+◌, ◌*◌, Bool, true, false, ◌&&◌, nat_le, find, is_some, length, take, drop, [], ◌∷◌, Option, Some, None, Ok, Err, inl, inr}
use Rattle.std.specs.Option.{option_and_then}
use Rattle.std.specs.Prelude.{slice_get}
use Rattle.pp_answers.specs.FinalHeads.{answer_to}
use Rattle.pp_cache.specs.Memory.{Memory, extent_of}
use Rattle.pp_cache.specs.OnDisk.{grown_by}
use Rattle.pp_desk.specs.Calls.{Found}
use Rattle.pp_desk.specs.Closings.{Sides}
use Rattle.pp_due.specs.Entering.{HasRowFor, MayCome, with_room_if_over}
use Rattle.pp_due.specs.OnDisk.{kept_alone, next_on_disk}
use Rattle.pp_flow.specs.Changes.{entry_of}
use Rattle.pp_flow.specs.Entries.{Span, moved_by}
use Rattle.pp_flow.specs.declared.entry.Exchange.{Exchange}
use Rattle.pp_head.specs.Response.{Response}
use Rattle.pp_holes.specs.Adding.{added}
use Rattle.pp_law.specs.Lists.{Bytes}
use Rattle.pp_objects.specs.Instances.{Instance, is_there, total_at}
use Rattle.pp_objects.specs.declared.id.ObjectId.{ObjectId}
use Rattle.pp_origins.specs.Gots.{Both, DataCame, DataCameThen, Delivers, DeliversTo, EndsBehind, GoesOnBehind, GotFrom, HeadCameFor, IsReceived, IsStepOn, IsTaken, Makes, Remains, TakesStep, going_on, head_on, remaining, sides_of}
use Rattle.pp_origins.specs.Responses.{bad_response, origin_gone, response_whole}
use Rattle.pp_peers.specs.Peers.{is_number as is_peer}
use Rattle.pp_peers.specs.declared.peers.Peer.{Peer}
use Rattle.pp_pipe.specs.declared.step.Step.{Step}
use Rattle.pp_pipe.specs.declared.step.Step.TheVariants.{Head, Body, End, Bad, Idle}
use Rattle.pp_seats.specs.declared.seat.Next.{Next}
use Rattle.pp_state.specs.Astray.{gone_astray, gone_astray_where}
use Rattle.pp_state.specs.Bodies.{IsButForCells, delivered_for, joined_by, joined_within, left_for, on_disk, with_bytes, with_dropped_in, with_use}
use Rattle.pp_state.specs.Bringing.{instance_of}
use Rattle.pp_state.specs.Ends.{exchange_at, parts}
use Rattle.pp_state.specs.Keys.{key_of}
use Rattle.pp_state.specs.Lines.{first_on}
use Rattle.pp_state.specs.declared.state.State.{State as Turn}
use Rattle.pp_store.specs.Kept.{KeptMap}
use Rattle.pp_talk.specs.Loading.{Answer, LoadsNext, LoadsOf, LoadsWhere, TakesChunk, chunk_at, with_none_kept}
use Rattle.pp_world.specs.Log.{Log}
use Rattle.pp_world.specs.declared.event.Got.TheVariants.{Bytes as Some_bytes, End as Ended, NotYet}
use Rattle.pp_grown_law.proofs.Answered.{Comes, answers_come}
use Rattle.pp_grown_law.proofs.Brought.{bad_goes, dropped_flows, over_goes}
use Rattle.pp_grown_law.proofs.Numbers.{Flows, Rise, flows_changed, flows_same}
use Rattle.pp_grown_law.proofs.Owners.{brought_size}
use Rattle.pp_grown_law.proofs.Passing.{Goes, goes_none, goes_then}
use Rattle.pp_grown_law.proofs.Shut.{replies_go}
use Rattle.pp_grown_law.proofs.Wired.{gone_goes, whole_goes}

-- ---- where exchanges are numbered

pub record Sized (p q : Turn) : Type 0 where
  pub size : q.cache.size ≡ p.cache.size
  pub rise : Rise q.flow

abbrev pub Sizes : Turn → Turn → Type 0
Sizes p q = Rise p.flow → Sized p q

pub sizes_then : (p q r : Turn) → Sizes p q → Sizes q r → Sizes p r
sizes_then p q r one two rise = let first : Sized p q = one rise in let last : Sized q r = two first.rise in record { size = last.size ∙ first.size; rise = last.rise }

pub sizes_as : (p q r : Turn) → r ≡ q → Sizes p q → Sizes p r
sizes_as p q r is all = subst (λ (t : Turn). Sizes p t) (sym is) all

pub sizes_same : (p q : Turn) → q.cache ≡ p.cache → q.flow ≡ p.flow → Sizes p q
sizes_same p q cache flow rise = record { size = ap (λ (m : Memory). m.size) cache; rise = subst Rise (sym flow) rise }

pub sizes_none : (p : Turn) → Sizes p p
sizes_none p = sizes_same p p refl refl

pub sizes_is : (p q : Turn) → q ≡ p → Sizes p q
sizes_is p q is = sizes_as p p q is (sizes_none p)

pub sizes_goes : (p q : Turn) → Goes (parts p) (parts q) → Sizes p q
sizes_goes p q goes rise = record { size = goes.memory.size; rise = goes.flow.rise rise }

sizes_comes : (p q : Turn) → Comes (parts p) (parts q) → Sizes p q
sizes_comes p q comes rise = record { size = comes.size; rise = comes.flow.rise rise }

-- ---- bytes join

bytes_size : (id : ObjectId) (at : ℕ) (bytes : Bytes) (m : Memory) → (with_bytes id at bytes m).size ≡ m.size
bytes_size id at bytes m = by (is_there id m.instances && nat_le (at + length bytes) (total_at id.slot m.instances))
  where
    by : (b : Bool) → (elim b as (λ t. Memory) [ true ↦ record m { chunks = (added m.size id.slot at bytes m.chunks).chunks; grown = grown_by id m.grown } | false ↦ m ]).size ≡ m.size
    by true = refl
    by false = refl

-- but for cells
cells_size : (s w t : Turn) → w.cache.size ≡ s.cache.size → (Rise s.flow → Rise w.flow) → IsButForCells w t → Sizes s t
cells_size s w t size rises but rise = record {
  size = ap (λ (m : Memory). m.size) but.cache.rest ∙ size;
  rise = subst Rise (sym (ap (λ (u : Turn). u.flow) but.rest)) (rises rise);
}

-- ---- data of an origin

-- what is dropped is counted
dropped_size : (n count : ℕ) (s v t : Turn) → v.cache.size ≡ s.cache.size → Flows s.flow v.flow → IsButForCells (with_dropped_in n count v) (record t { seats = s.seats }) → Sizes s t
dropped_size n count s v t size flows but rise =
    let all : Sized s (record t { seats = s.seats }) = cells_size s (with_dropped_in n count v) (record t { seats = s.seats }) size (λ r. (dropped_flows n count v.flow).rise (flows.rise r)) but rise in
    record { size = all.size; rise = all.rise }

delivered_size : (n : ℕ) (bytes : Bytes) (s t : Turn) → Delivers n bytes s t → Sizes s t
delivered_size n bytes s t it = by (exchange_at n s.flow) it.rest
  where
    stays : IsButForCells (with_dropped_in n (length bytes) s) (record t { seats = s.seats }) → Sizes s t
    stays but = dropped_size n (length bytes) s s t refl (flows_same s.flow s.flow refl) but

    within : (number : ℕ) (span : Span) (o : Option ℕ) → IsButForCells (with_dropped_in n (length bytes) (joined_within number o span bytes s)) (record t { seats = s.seats }) → Sizes s t
    within number span None but = stays but
    within number span (Some left) but =
        let kept : ℕ = on_disk (extent_of span.0 s.cache) span.1 (length (take left bytes)) in
        dropped_size n (length bytes) s (joined_within number (Some left) span bytes s) t (bytes_size span.0 (span.1 + kept) (drop kept (take left bytes)) s.cache)
        (flows_changed number (moved_by (length (take left bytes))) s.flow (λ x. refl) (λ x. refl)) but

    bound : (number : ℕ) (o : Option Span) → IsButForCells (with_dropped_in n (length bytes) (joined_by number o bytes s)) (record t { seats = s.seats }) → Sizes s t
    bound number None but = stays but
    bound number (Some span) but = within number span (left_for number s.flow) but

    none : IsButForCells s (record t { seats = s.seats }) → Sizes s t
    none but rise = let all : Sized s (record t { seats = s.seats }) = cells_size s s (record t { seats = s.seats }) refl (λ r. r) but rise in record { size = all.size; rise = all.rise }

    by : (o : Option Exchange) → IsButForCells (delivered_for o n bytes s) (record t { seats = s.seats }) → Sizes s t
    by None but = none but
    by (Some e) but = bound e.number e.bound but

-- ---- what an origin sends

makes_size : (made : Sides → Sides) (x y : Both) → ((z : Sides) → Goes z.parts (made z).parts) → Makes made x y → Sizes x.state y.state
makes_size made x y goes it = sizes_goes x.state y.state (subst (λ (z : Sides). Goes (parts x.state) z.parts) (sym it.is) (goes (sides_of x)))

module _ (k : ℕ) where
  data_size : (came : Bytes) (s t : Turn) → DataCame k came s t → Sizes s t
  data_size [] s t is = sizes_is s t is
  data_size (b ∷ bytes) s t it = by (first_on k (parts s)) it
    where
      by : (o : Option ℕ) → DeliversTo o (b ∷ bytes) s t → Sizes s t
      by None is = sizes_is s t is
      by (Some n) delivers = delivered_size n (b ∷ bytes) s t delivers

  then_size : (made : Sides → Sides) (came : Bytes) (x y : Both) → ((z : Sides) → Goes z.parts (made z).parts) → DataCameThen made k came x y → Sizes x.state y.state
  then_size made came x y goes it = sizes_then x.state it.between y.state (data_size came x.state it.between it.delivers) (makes_size made (record x { state = it.between }) y goes it.makes)

  row_size : (shelf : KeptMap) (o : Option Bytes) (s t : Turn) → HasRowFor shelf o s t → Sizes s t
  row_size shelf None s t is = sizes_is s t is
  row_size shelf (Some key) s t it = sizes_then s it.entered t (by it.comes) (sizes_as it.entered (with_room_if_over it.entered) t it.room (sizes_goes it.entered (with_room_if_over it.entered) (over_goes it.entered)))
    where
      by : MayCome shelf key s it.entered → Sizes s it.entered
      by (inl comes) = λ rise. record { size = brought_size key (kept_alone key shelf s.cache) s.cache it.entered.cache comes.cache; rise = subst Rise (sym (ap (λ (u : Turn). u.flow) comes.rest)) rise }
      by (inr astray) = sizes_as s (gone_astray s) it.entered astray (sizes_same s (gone_astray s) refl refl)

  taken_size : (o : Option Response) (n : ℕ) (stays : Option Bool) (s t : Turn) → IsTaken o n stays s t → Sizes s t
  taken_size None n stays s t it = sizes_is s t it.1
  taken_size (Some head) n stays s t it = sizes_comes s t (answers_come n head (answer_to head (entry_of n s.flow)) s (parts t) it.is)

  on_size : (o : Option Bool) (x y : Both) → GoesOnBehind o k x y → Sizes x.state y.state
  on_size None x y it = makes_size (bad_response k) x y (bad_goes k) it
  on_size (Some stays) x y is = sizes_is x.state y.state (ap (λ (z : Both). z.state) is)

  head_size : (o : Option ℕ) (shelf : KeptMap) (x y : Both) → HeadCameFor o shelf k x y → Sizes x.state y.state
  head_size None shelf x y it = makes_size (bad_response k) x y (bad_goes k) it
  head_size (Some n) shelf x y it =
      sizes_then x.state it.beside y.state (row_size shelf (key_of n x.state.flow) x.state it.beside it.row)
      (sizes_then it.beside it.answers.between y.state (taken_size (head_on k x.peers) n it.answers.stays it.beside it.answers.between it.answers.taken)
      (on_size it.answers.stays (record x { state = it.answers.between }) y it.answers.goes_on))

  step_size : (o : Option Peer) (shelf : KeptMap) (here : Remains) (x y : Both) (behind : Option Remains) → IsStepOn o shelf k here x y behind → Sizes x.state y.state
  step_size None shelf here x y behind it = sizes_is x.state y.state (ap (λ (z : Both). z.state) it.0)
  step_size (Some peer) shelf here x y behind it = by it.told.1 it.takes
    where
      by : (step : Step) → TakesStep step shelf k here.came (record x { peers = it.fed }) y → Sizes x.state y.state
      by Head head = head_size (first_on k (parts x.state)) shelf (record x { peers = it.fed }) y head
      by (Body from to) is = sizes_is x.state y.state (ap (λ (z : Both). z.state) is)
      by End ends = then_size (response_whole k) here.came (record x { peers = it.fed }) y (whole_goes k) ends
      by Bad bad = then_size (bad_response k) here.came (record x { peers = it.fed }) y (bad_goes k) bad
      by Idle idle = data_size here.came x.state y.state idle.0

  pub got_size : (more : ℕ) (shelf : KeptMap) (o : Option Remains) (x y : Both) → GotFrom more shelf k o x y → Sizes x.state y.state
  unfolding GotFrom
  got_size zero shelf o x y is = sizes_as x.state (gone_astray_where (is_some o) x.state) y.state (ap (λ (z : Both). z.state) is) (astray (is_some o))
    where
      astray : (b : Bool) → Sizes x.state (gone_astray_where b x.state)
      astray true = sizes_same x.state (gone_astray x.state) refl refl
      astray false = sizes_none x.state
  got_size (suc more) shelf None x y is = sizes_is x.state y.state (ap (λ (z : Both). z.state) is)
  got_size (suc more) shelf (Some here) x y it = sizes_then x.state it.0.state y.state (step_size (going_on (find (is_peer k) x.peers)) shelf here x it.0 it.1 it.2) (got_size more shelf it.1 it.0 y it.3)

  ends_size : (made : Sides → Sides) (x y : Both) → ((z : Sides) → Goes z.parts (made z).parts) → EndsBehind made x y → Sizes x.state y.state
  ends_size made x y goes it =
      sizes_goes x.state y.state (goes_then (parts x.state) (made (sides_of x)).parts (parts y.state) (goes (sides_of x)) (replies_go x.state.awake.items (made (sides_of x)) (sides_of y) it.is))

  pub received_size : (found : Found) (shelf : KeptMap) (front : Bytes) (x y : Both) → IsReceived found shelf k front x y → Sizes x.state y.state
  received_size None shelf front x y is = sizes_is x.state y.state (ap (λ (z : Both). z.state) is)
  received_size (Some (Ok (Some_bytes n))) shelf front x y it = sizes_then x.state it.0.state y.state (got_size 65600 shelf (Some (remaining (take n front) [])) x it.0 it.1) (ends_size (λ z. z) it.0 y (λ z. goes_none z.parts) it.2)
  received_size (Some (Ok Ended)) shelf front x y it = ends_size (origin_gone true k) x y (gone_goes true k) it
  received_size (Some (Ok NotYet)) shelf front x y is = sizes_is x.state y.state (ap (λ (z : Both). z.state) is)
  received_size (Some (Err fault)) shelf front x y it = ends_size (origin_gone false k) x y (gone_goes false k) it

-- ---- a chunk is read back

module _ (shelf behind : KeptMap) (p q : Turn) where
  chunk_size : (answer : Answer) (out : Bytes) (index : ℕ) (id : ObjectId) → TakesChunk answer out index id p q → Sizes p q
  chunk_size None out index id is = sizes_as p (with_none_kept id p) q is (λ rise. record { size = refl; rise = rise })
  chunk_size (Some (Ok count)) out index id but =
      cells_size p (with_use (record p { cache = with_bytes id (index * 4096) (take count out) p.cache })) q (bytes_size id (index * 4096) (take count out) p.cache) (λ r. r) but
  chunk_size (Some (Err fault)) out index id is = sizes_as p (with_none_kept id p) q is (λ rise. record { size = refl; rise = rise })

  loads_of : (id : ObjectId) (o : Option Instance) (index : Option ℕ) (old new : Option Log) (a b : ℕ) → LoadsOf id o index shelf p behind q old new a b → Sizes p q
  loads_of id None index old new a b is = sizes_is p q is.1
  loads_of id (Some i) None old new a b is = sizes_is p q is.1
  loads_of id (Some i) (Some index) old new a b it = chunk_size it.answer it.out index id it.is

  loads_where : (o : Option Next) (old new : Option Log) (a b : ℕ) → LoadsWhere o shelf p behind q old new a b → Sizes p q
  loads_where None old new a b is = sizes_is p q is.1
  loads_where (Some next) old new a b is = loads_of next.source (instance_of next.source p.cache.instances) (chunk_at next.at) old new a b is

  pub loads_size : (i : ℕ) (old new : Option Log) (a b : ℕ) → LoadsNext i shelf p behind q old new a b → Sizes p q
  loads_size i old new a b is = loads_where (option_and_then (next_on_disk p) (slice_get p.seats.items i)) old new a b is
