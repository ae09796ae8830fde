-- What one exchange brings, and what all of them do.
use Rattle.std.proofs.Common.{◌≡◌, refl, sym, subst, ap, ap₂, ◌∙◌, ℕ, Bool, true, false, not, ◌==◌, ◌&&◌, ◌||◌, ◌+◌, ◌*◌, ◌/◌, cond, min, max, nat_le, nat_lt, length, List, Option, Some, None}
use Rattle.std.specs.Prelude.{bytes_eq}
use Rattle.pp_cache.specs.Memory.{Memory}
use Rattle.pp_cache_law.proofs.Alike.{bytes_of, held_of, instances_of}
use Rattle.pp_cache_law.proofs.Numbers.{some_is}
use Rattle.pp_cache_law.specs.Reads.{IsFound}
use Rattle.pp_cache_law.specs.Tables.{ShowsTable}
use Rattle.pp_flow.specs.Changes.{Exchanges, entry_of}
use Rattle.pp_flow.specs.declared.entry.Aim.{Aim}
use Rattle.pp_flow.specs.declared.entry.Aim.TheVariants.{Own as OfItself, Hole, Pass}
use Rattle.pp_flow.specs.declared.entry.Entry.{Entry}
use Rattle.pp_flow_law.proofs.Standing.{is_shown}
use Rattle.pp_flow_law.specs.Tables.{Leaving, ShowsFlow}
use Rattle.pp_holes.specs.Places.{bytes_at}
use Rattle.pp_law.specs.Chunks.{filled as filled_of}
use Rattle.pp_law.specs.Connections.{exchange}
use Rattle.pp_law.specs.Lists.{Bytes}
use Rattle.pp_law.specs.Stages.{bound_of}
use Rattle.pp_law.specs.State.{State, Instance as Known, Bound, Exchange, Aim as ItsAim, Through, Own, Filling}
use Rattle.pp_law.specs.Table.{Next, asks_for as asks_for_it, brings as brings_it, instance, is_held, is_soon as is_soon_by, is_to_come as is_to_come_by}
use Rattle.pp_objects.specs.Instances.{Instance, in_slot, is_same_id, is_there}
use Rattle.pp_objects.specs.declared.id.ObjectId.{ObjectId}
use Rattle.pp_peers.specs.declared.peers.Peer.{Peer}
use Rattle.pp_plan.specs.Need.{is_near}
use Rattle.pp_seats.specs.declared.seat.Next.{Next as SeatNext}
use Rattle.pp_seats_law.proofs.Entries.{exchanges}
use Rattle.pp_seats_law.proofs.Nexts.{found_number}
use Rattle.pp_seats_law.specs.Exchanges.{Binding, IsBoundAs, ShowsBound, ShowsExchange}
use Rattle.pp_seats_law.specs.Fates.{aim_of}
use Rattle.pp_state.specs.Bringing.{asks_by, asks_for, asks_for_in, brings, brings_by, filled, instance_of, is_to_come, serves_by}
use Rattle.pp_take.specs.Deciding.{serves_next}
use Rattle.pp_state.specs.Ends.{Parts}
use Rattle.pp_states_law.proofs.Told.{told_of}
use Rattle.pp_states_law.specs.Steps.{ShowsSteps}
use Rattle.pp_states_law.specs.Told.{IsToldBy}
use Rattle.pp_target.specs.Key.{text_of}
use Rattle.pp_turns_law.proofs.AllCome.{any_alike}
use Rattle.pp_turns_law.specs.Nexts.{IsNext}
use Rattle.pp_turns_law.specs.Brings.{AsksAreTheLaws, BringsAreTheLaws, BroughtIsTheLaws, ProvidedIsTheLaws, ServesAreTheLaws}

-- ---- what it asks for

abbrev asks_it : Bytes → Known → ℕ → ItsAim → Bool
asks_it key x at aim = elim aim as (λ a. Bool) [
  | Through ↦ false
  | Own ↦ false
  | Filling v from to ↦ bytes_eq key x.key && bytes_eq v.tag x.version.tag && nat_le from at && nat_lt at to && is_near from at
]

asks_alike : (key : Bytes) (x : Known) (at : ℕ) (aim : Aim) → asks_by key aim x.key x.version.tag at ≡ asks_it key x at (aim_of aim)
asks_alike key x at OfItself = refl
asks_alike key x at (Hole v from to) = refl
asks_alike key x at Pass = refl

-- ---- what is to come, by whether it is of that instance, from which offset on, up to which, whether all of it is waited for, and how
-- much of the chunk is in memory

abbrev comes : ℕ → Bool → ℕ → ℕ → Bool → ℕ → Bool
comes at same next to all n = same && nat_lt at to && (all || is_near next at) && nat_le next (min at (at / 4096 * 4096 + n))

comes_same : (at : ℕ) (same_a same_b : Bool) (next_a next_b to_a to_b : ℕ) (all_a all_b : Bool) (n_a n_b : ℕ) → same_a ≡ same_b → next_a ≡ next_b → to_a ≡ to_b → all_a ≡ all_b → n_a ≡ n_b → comes at same_a next_a to_a all_a n_a ≡ comes at same_b next_b to_b all_b n_b
comes_same at same_a same_b next_a next_b to_a to_b all_a all_b n_a n_b a b c d e =
    ap₂ (λ (same : Bool) (next : ℕ). comes at same next to_a all_a n_a) a b ∙ ap₂ (λ (to : ℕ) (all : Bool). comes at same_b next_b to all n_a) c d ∙ ap (λ (n : ℕ). comes at same_b next_b to_b all_b n) e

-- of what is still wanted, from an offset on, up to another
abbrev brings_some : ℕ → ℕ → Bool → ℕ → ℕ → Bool → Bool
brings_some at end same next to all = same && nat_lt (max next at) (min to end) && (all || is_near next at)

some_same : (at end : ℕ) (same_a same_b : Bool) (next_a next_b to_a to_b : ℕ) (all_a all_b : Bool) → same_a ≡ same_b → next_a ≡ next_b → to_a ≡ to_b → all_a ≡ all_b → brings_some at end same_a next_a to_a all_a ≡ brings_some at end same_b next_b to_b all_b
some_same at end same_a same_b next_a next_b to_a to_b all_a all_b a b c d =
    ap₂ (λ (same : Bool) (next : ℕ). brings_some at end same next to_a all_a) a b ∙ ap₂ (λ (to : ℕ) (all : Bool). brings_some at end same_b next_b to all) c d

module _ (number : ℕ → ℕ) (m : Memory) (s : State) (id : ObjectId) (x : Known) (found : IsFound number m s id) (known : instance s (number id.life) ≡ Some x) (there : is_there id m.instances ≡ true) where
  same_known : found.known ≡ x
  same_known = some_is found.known x (sym found.there ∙ known)

  the_instance : instance_of id m.instances ≡ Some found.seen
  the_instance = ap (λ (b : Bool). cond b (in_slot id.slot m.instances) None) there ∙ found.here

  asked_in : (e : Entry) (d : Exchange) (at : ℕ) → ShowsExchange number e d → asks_for_in e (instance_of id m.instances) at ≡ asks_it (text_of d.key) x at d.aim
  asked_in e d at shows =
      ap (λ (o : Option Instance). asks_for_in e o at) the_instance
      ∙ ap₂ (λ (key tag : Bytes). asks_by e.key.items e.exchange.aim key tag at)
      (found.shows.key ∙ ap (λ (y : Known). y.key) same_known) (ap (λ v. v.tag) found.shows.version ∙ ap (λ (y : Known). y.version.tag) same_known)
      ∙ ap (λ (key : Bytes). asks_by key e.exchange.aim x.key x.version.tag at) shows.text_key
      ∙ asks_alike (text_of d.key) x at e.exchange.aim
      ∙ ap (asks_it (text_of d.key) x at) shows.aim

  asks_same : (e : Entry) (d : Exchange) (at : ℕ) → ShowsExchange number e d → asks_for id at m e ≡ asks_for_it x at d
  asks_same e d at shows = ap₂ (λ (a b : Bool). not a && b) (exchanges number e d shows).headed (asked_in e d at shows)

  -- ---- what is to come of it

  its_number : number id.life ≡ x.id
  its_number = sym (found_number s (number id.life) x known)

  same_instance : (b : Binding) (far : ℕ) (c : Bound) → IsBoundAs number b far c → IsToldBy number m s.next_instance (Some b) → is_same_id b.0 id ≡ (c.instance == x.id)
  same_instance b far c bound told = told.apart id there ∙ ap₂ (λ (i j : ℕ). i == j) bound.joined its_number

  -- how much of a chunk is in memory
  filled_same : (index : ℕ) → ShowsTable number m s → filled id index m ≡ filled_of x.id index s.chunks
  filled_same index table =
      ap (λ (b : Bool). cond b (length (bytes_at (id.slot, index) m.chunks)) 0) there
      ∙ ap (λ (bs : Bytes). length bs) (bytes_of number m s table id index there) ∙ ap (λ (k : ℕ). filled_of k index s.chunks) its_number

  come_same : (b : Binding) (far : ℕ) (c : Bound) (at : ℕ) → ShowsTable number m s → IsBoundAs number b far c → IsToldBy number m s.next_instance (Some b) → is_to_come id b at m ≡ is_to_come_by s x c at
  come_same b far c at table bound told =
      comes_same at (is_same_id b.0 id) (c.instance == x.id) b.1 c.next b.2 c.to b.3 c.is_all (filled id (at / 4096) m) (filled_of x.id (at / 4096) s.chunks)
      (same_instance b far c bound told) bound.next bound.to bound.is_all (filled_same (at / 4096) table)

  -- ---- what it brings

  brings_as : (e : Entry) (d : Exchange) (at : ℕ) (u : Option Binding) (v : Option Bound) → ShowsTable number m s → ShowsExchange number e d → ShowsBound number u v → IsToldBy number m s.next_instance u
      → brings_by id at m e u ≡ (elim v as (λ o. Bool) [ Some c ↦ is_to_come_by s x c at | None ↦ asks_for_it x at d ])
  brings_as e d at None None table shows bound told = asks_same e d at shows
  brings_as e d at None (Some c) table shows bound told = absurd bound
  brings_as e d at (Some b) None table shows bound told = absurd bound
  brings_as e d at (Some b) (Some c) table shows bound told = come_same b bound.0 c at table bound.1 told

  pub brings_same : (e : Entry) (d : Exchange) (at : ℕ) → ShowsTable number m s → ShowsExchange number e d → IsToldBy number m s.next_instance e.exchange.bound → brings id at m e ≡ brings_it s x at d
  brings_same e d at table shows told = brings_as e d at e.exchange.bound (bound_of d) table shows (exchanges number e d shows).bound told

  -- ---- what it brings of what is wanted

  serves_as : (e : Entry) (d : Exchange) (at to : ℕ) (u : Option Binding) (v : Option Bound) → ShowsExchange number e d → ShowsBound number u v → IsToldBy number m s.next_instance u
      → serves_by (record { source = id; at = at; to = to }) m e u
      ≡ (elim v as (λ o. Bool) [ Some c ↦ (c.instance == x.id) && nat_lt (max c.next at) (min c.to to) && is_soon_by c at | None ↦ asks_for_it x at d ])
  serves_as e d at to None None shows bound told = asks_same e d at shows
  serves_as e d at to None (Some c) shows bound told = absurd bound
  serves_as e d at to (Some b) None shows bound told = absurd bound
  serves_as e d at to (Some b) (Some c) shows bound told =
      some_same at to (is_same_id b.0 id) (c.instance == x.id) b.1 c.next b.2 c.to b.3 c.is_all (same_instance b bound.0 c bound.1 told) bound.1.next bound.1.to bound.1.is_all

-- ---- of an exchange that is found by its number

-- it shows the law's of that number
pub shown_as : (number : ℕ → ℕ) (l : Leaving) (f : Exchanges) (s : State) → ShowsFlow number l f s → (k : ℕ) (e : Entry) (d : Exchange) → entry_of k f ≡ Some e → exchange s k ≡ Some d → ShowsExchange number e d
shown_as number l f s flow k e d here there =
    let one = is_shown number l f s flow k e here in
    subst (λ (y : Exchange). ShowsExchange number e y) (some_is one.known d (sym one.there ∙ there)) one.shows

module _ (number : ℕ → ℕ) (name : Bytes) (l : Leaving) (peers : List Peer) (p : Parts) (s : State) (shows : ShowsSteps number name l peers p s) where
  table : ShowsTable number p.cache s
  table = shows.shows.table.table

  entry : (k : ℕ) (e : Entry) (d : Exchange) → entry_of k p.flow ≡ Some e → exchange s k ≡ Some d → ShowsExchange number e d
  entry k e d here there = shown_as number l p.flow s shows.shows.exchanges k e d here there

  told : (k : ℕ) (e : Entry) → entry_of k p.flow ≡ Some e → IsToldBy number p.cache s.next_instance e.exchange.bound
  told k e here = told_of number p.cache s.next_instance k p.flow e shows.told here

  found_of : (x : SeatNext) (n : Next) → IsNext number p.cache s x n → IsFound number p.cache s x.source
  found_of x n next = instances_of number p.cache s table x.source next.there

  asks_as : (x : SeatNext) (n : Next) → IsNext number p.cache s x n → (k : ℕ) (e : Entry) (d : Exchange) → entry_of k p.flow ≡ Some e → exchange s k ≡ Some d → asks_for x.source x.at p.cache e ≡ asks_for_it n.source n.at d
  asks_as x n next k e d here there =
      asks_same number p.cache s x.source n.source (found_of x n next) next.known next.there e d x.at (entry k e d here there)
      ∙ ap (λ (at : ℕ). asks_for_it n.source at d) next.at

  brings_it_as : (x : SeatNext) (n : Next) → IsNext number p.cache s x n → (k : ℕ) (e : Entry) (d : Exchange) → entry_of k p.flow ≡ Some e → exchange s k ≡ Some d → brings x.source x.at p.cache e ≡ brings_it s n.source n.at d
  brings_it_as x n next k e d here there =
      brings_same number p.cache s x.source n.source (found_of x n next) next.known next.there e d x.at table (entry k e d here there) (told k e here)
      ∙ ap (λ (at : ℕ). brings_it s n.source at d) next.at

pub asks : AsksAreTheLaws
asks number name l peers p s shows x n next k e d here there = asks_as number name l peers p s shows x n next k e d here there

pub brings_of : BringsAreTheLaws
brings_of number name l peers p s shows x n next k e d here there = brings_it_as number name l peers p s shows x n next k e d here there

pub serves_of : ServesAreTheLaws
serves_of number name l peers p s shows x n next k e d r here there at to =
    by (nat_lt x.at x.to) ∙ ap₂ (λ (from end : ℕ). nat_lt from end && served from end) (next.at ∙ sym at) (next.to ∙ sym to)
  where
    served : ℕ → ℕ → Bool
    served from end = elim (bound_of d) as (λ o. Bool) [ Some c ↦ (c.instance == n.source.id) && nat_lt (max c.next from) (min c.to end) && is_soon_by c from | None ↦ asks_for_it n.source from d ]

    by : (b : Bool) → serves_next (elim b as (λ c. Option SeatNext) [ true ↦ Some (record { source = x.source; at = x.at; to = x.to }) | false ↦ None ]) p.cache e ≡ (b && served x.at x.to)
    by true =
        serves_as number p.cache s x.source n.source (found_of number name l peers p s shows x n next) next.known next.there e d x.at x.to e.exchange.bound (bound_of d) (entry number name l peers p s shows k e d here there)
        (exchanges number e d (entry number name l peers p s shows k e d here there)).bound (told number name l peers p s shows k e here)
    by false = refl

-- ---- of all of them

pub brought_of : BroughtIsTheLaws
brought_of number name l peers p s shows x n next =
    any_alike number l p.flow s shows.shows.exchanges (brings x.source x.at p.cache) (brings_it s n.source n.at) (λ k e d here there one. brings_of number name l peers p s shows x n next k e d here there)

pub provided_of : ProvidedIsTheLaws
provided_of number name l peers p s shows x n next =
    ap₂ (λ (a b : Bool). a || b)
    (held_of number p.cache s (table number name l peers p s shows) x.source n.source next.there next.known x.at ∙ ap (λ (at : ℕ). is_held s n.source at) next.at)
    (brought_of number name l peers p s shows x n next)
