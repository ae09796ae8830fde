-- What is read of the cache is what the law reads.
use Rattle.std.proofs.Common.{◌≡◌, refl, sym, ap, ◌∙◌, ℕ, Bool, true, false, not, ◌==◌, ◌&&◌, ◌||◌, ◌/◌, ◌%◌, cond, find, List, [], ◌∷◌, length, map, filter, Option, Some, None}
use Rattle.std.specs.Prelude.{bytes_eq, nat_le, nat_lt, option_map, ⊤}
use Rattle.std.specs.List.{list_any}
use Rattle.pp_cache.specs.Memory.{Memory, all_used, extent_of as bytes_kept, is_in_memory, is_row_in, stands, used_of as as_used}
use Rattle.pp_holes.specs.Places.{Chunk, bytes_at, first_bytes, is_at}
use Rattle.pp_law.specs.Chunks.{chunk_bytes, filled, floor, is_chunk, used_of}
use Rattle.pp_law.specs.Lists.{Bytes}
use Rattle.pp_law.specs.State.{State, Instance as Known, Chunk as Front}
use Rattle.pp_law.specs.Table.{extent_of, follows, instance, is_bound_to, is_followed, is_idle_row, is_instance, is_row_of as is_known_row, row}
use Rattle.pp_objects.specs.Instances.{Instance, id_of, in_slot, is_idle, is_in_slot, is_life, is_row, is_row_of, is_same_id, is_there, row_of}
use Rattle.pp_objects.specs.declared.id.ObjectId.{ObjectId}
use Rattle.pp_pool.specs.Chunks.{Used, is_pinned, oldest_in, place_of}
use Rattle.pp_valid.specs.declared.version.Version.{Version}
use Rattle.pp_cache_law.specs.Pairs.{AreAll, AreBoth}
use Rattle.pp_cache_law.specs.Reads.{BytesAreTheLaws, ExtentsAreTheLaws, GonePinsAreNone, HeldIsTheLaws, IdleRowsAreTheLaws, InstancesAreTheLaws, IsFound, IsSamePlace, PinsAreTheLaws, RetiredIsTheLaws, RoomIsTheLaws, RowsAreTheLaws, UsedIsTheLaws, VersionsAreTheLaws, VictimsAreTheLaws}
use Rattle.pp_cache_law.specs.Tables.{ShowsChunk, ShowsInstance, ShowsTable, number_in}
use Rattle.pp_cache_law.proofs.Numbers.{Apart, chunks_alike, instances_alike, is_same, number_of_there, some_is}
use Rattle.pp_cache_law.proofs.PairLemmas.{counted, found, lengths_same, mapped, none_of}

-- ---- rows

pub rows_alike : (number : ℕ → ℕ) (m : Memory) (s : State) (key : Bytes) (i : Instance) (x : Known) → ShowsInstance number m s i x → is_row_of key i ≡ is_known_row key x
rows_alike number m s key i x shows =
    ap (λ (b : Bool). not b && bytes_eq i.key key) shows.retired ∙ ap (λ (k : Bytes). not x.is_retired && bytes_eq k key) shows.key

itself : (number : ℕ → ℕ) (m : Memory) (s : State) (p : Instance → Bool) (i : Instance) (x : Known) → ShowsInstance number m s i x → p i ≡ true → ShowsInstance number m s i x
itself number m s p i x shows is = shows

pub rows_of : RowsAreTheLaws
rows_of number m s shows key =
    found (ShowsInstance number m s) (ShowsInstance number m s) (is_row_of key) (is_known_row key) m.instances s.instances
    (rows_alike number m s key) (itself number m s (is_row_of key)) shows.instances

pub versions_of : VersionsAreTheLaws
versions_of number m s shows key = by (row_of key m.instances) (row s key) (rows_of number m s shows key)
  where
    by : (u : Option Instance) (v : Option Known) → AreBoth (ShowsInstance number m s) u v → option_map (λ i. i.version) u ≡ option_map (λ x. x.version) v
    by None None both = refl
    by (Some i) (Some x) both = ap (λ (v : Version). Some v) both.version
    by None (Some x) both = absurd both
    by (Some i) None both = absurd both

-- ---- instances

-- one of that slot
record IsOf (number : ℕ → ℕ) (m : Memory) (s : State) (slot : ℕ) (i : Instance) (x : Known) : Type 0 where
  slot_is : (i.slot == slot) ≡ true
  shows : ShowsInstance number m s i x

of_slot : (number : ℕ → ℕ) (m : Memory) (s : State) (slot n : ℕ) → ShowsTable number m s → number_in number slot m.instances ≡ Some n → AreBoth (IsOf number m s slot) (in_slot slot m.instances) (instance s n)
of_slot number m s slot n shows at =
    found (ShowsInstance number m s) (IsOf number m s slot) (is_in_slot slot) (is_instance n) m.instances s.instances
    (λ i x one. instances_alike number m s slot n i x shows.apart at one) (λ i x one is. record { slot_is = is; shows = one }) shows.instances

abbrev id_with : ℕ → ℕ → ObjectId
id_with slot life = record { slot = slot; life = life }

same_id : (i : Instance) (id : ObjectId) → i.slot ≡ id.slot → i.life ≡ id.life → id_of i ≡ id
same_id i id slot life = ap (λ (n : ℕ). id_with n i.life) slot ∙ ap (λ (n : ℕ). id_with id.slot n) life

found_by : (number : ℕ → ℕ) (m : Memory) (s : State) (id : ObjectId) (u : Option Instance) (v : Option Known) → in_slot id.slot m.instances ≡ u → instance s (number id.life) ≡ v → is_life id.life u ≡ true
    → AreBoth (IsOf number m s id.slot) u v → IsFound number m s id
found_by number m s id None v here there is both = absurd cc
found_by number m s id (Some i) None here there is both = absurd both
found_by number m s id (Some i) (Some x) here there is both = record {
  seen = i;
  known = x;
  same = same_id i id (is_same i.slot id.slot both.slot_is) (is_same i.life id.life is);
  here = here;
  there = there;
  shows = both.shows;
}

pub instances_of : InstancesAreTheLaws
instances_of number m s shows id there =
    found_by number m s id (in_slot id.slot m.instances) (instance s (number id.life)) refl refl there
    (of_slot number m s id.slot (number id.life) shows (number_of_there number id m.instances there))

same_known : (x y : Known) (u : Option Known) → u ≡ Some x → u ≡ Some y → x ≡ y
same_known x y u e f = some_is x y (sym e ∙ f)

not_twice : (b : Bool) → not (not b) ≡ b
not_twice true = refl
not_twice false = refl

stands_by : (id : ObjectId) (is : List Instance) (i : Instance) → is_there id is ≡ true → in_slot id.slot is ≡ Some i → not (stands id is) ≡ i.is_retired
stands_by id is i there here =
    ap (λ (b : Bool). not (b && is_row_in (in_slot id.slot is))) there ∙ ap (λ (u : Option Instance). not (is_row_in u)) here ∙ not_twice i.is_retired

pub retired_of : RetiredIsTheLaws
retired_of number m s shows id x there known =
    let one : IsFound number m s id = instances_of number m s shows id there in
    stands_by id m.instances one.seen there one.here ∙ one.shows.retired
    ∙ ap (λ (y : Known). y.is_retired) (same_known one.known x (instance s (number id.life)) one.there known)

pub extents_of : ExtentsAreTheLaws
extents_of number m s shows id x there known =
    let one : IsFound number m s id = instances_of number m s shows id there in
    ap (λ (other : ObjectId). bytes_kept other m) (sym one.same) ∙ one.shows.extent
    ∙ ap (λ (y : Known). extent_of s y) (same_known one.known x (instance s (number id.life)) one.there known)

-- ---- how many rows there are, and which goes

pub room_of : RoomIsTheLaws
room_of number m s shows = counted (ShowsInstance number m s) is_row (λ x. not x.is_retired) m.instances s.instances (λ i x one. ap (λ (b : Bool). not b) one.retired) shows.instances

pub unfollowed : (number : ℕ → ℕ) (m : Memory) (s : State) (i : Instance) (x : Known) → ShowsInstance number m s i x → (i.followers == 0) ≡ not (is_followed s x.id)
unfollowed number m s i x shows = ap (λ (n : ℕ). n == 0) shows.followers ∙ none_of (follows x.id) s.clients

and_three : (a b c : Bool) → (a && (b && c)) ≡ ((a && b) && c)
and_three true b c = refl
and_three false b c = refl

pub idle_rows_of : IdleRowsAreTheLaws
idle_rows_of number m s shows busy alike =
    found (ShowsInstance number m s) (ShowsInstance number m s) (is_idle busy) (is_idle_row s) m.instances s.instances same (itself number m s (is_idle busy)) shows.instances
  where
    same : (i : Instance) (x : Known) → ShowsInstance number m s i x → is_idle busy i ≡ is_idle_row s x
    same i x one =
        ap (λ (b : Bool). not b && ((i.followers == 0) && not (list_any (is_same_id (id_of i)) busy))) one.retired
        ∙ ap (λ (b : Bool). not x.is_retired && (b && not (list_any (is_same_id (id_of i)) busy))) (unfollowed number m s i x one)
        ∙ ap (λ (b : Bool). not x.is_retired && (not (is_followed s x.id) && not b)) (alike i x one)
        ∙ and_three (not x.is_retired) (not (is_followed s x.id)) (not (list_any (is_bound_to x.id) s.exchanges))

-- ---- bytes

abbrev front_bytes : Option Front → Bytes
front_bytes front = elim front [ None ↦ [] | Some d ↦ d.bytes ]

bytes_by : (number : ℕ → ℕ) (m : Memory) (p : Chunk → Bool) (q : Front → Bool) (cs : List Chunk) (ds : List Front) → ((c : Chunk) (d : Front) → ShowsChunk number m c d → p c ≡ q d)
    → AreAll (ShowsChunk number m) cs ds → first_bytes (filter p cs) ≡ front_bytes (find q ds)
bytes_by number m p q [] [] same all = refl
bytes_by number m p q [] (d ∷ ds) same all = absurd all
bytes_by number m p q (c ∷ cs) [] same all = absurd all
bytes_by number m p q (c ∷ cs) (d ∷ ds) same all = by (p c) (q d) (same c d all.0) (bytes_by number m p q cs ds same all.1)
  where
    by : (t u : Bool) → t ≡ u → first_bytes (filter p cs) ≡ front_bytes (find q ds)
        → first_bytes (cond t (c ∷ filter p cs) (filter p cs)) ≡ front_bytes (cond u (Some d) (find q ds))
    by true true e rest = all.0.bytes
    by false false e rest = rest
    by true false e rest = absurd cc
    by false true e rest = absurd cc

pub bytes_in_chunks : (number : ℕ → ℕ) (m : Memory) (slot n index : ℕ) (cs : List Chunk) (ds : List Front) → Apart number m.instances → number_in number slot m.instances ≡ Some n → AreAll (ShowsChunk number m) cs ds
    → bytes_at (slot, index) cs ≡ chunk_bytes n index ds
bytes_in_chunks number m slot n index cs ds apart at all = bytes_by number m (is_at (slot, index)) (is_chunk n index) cs ds (λ c d one. chunks_alike number m slot n index c d apart at one) all

pub bytes_of : BytesAreTheLaws
bytes_of number m s shows id index there = bytes_in_chunks number m id.slot (number id.life) index m.chunks s.chunks shows.apart (number_of_there number id m.instances there) shows.chunks

or_other : (a b : Bool) → (a || b) ≡ (b || a)
or_other true true = refl
or_other true false = refl
or_other false true = refl
or_other false false = refl

pub held_of : HeldIsTheLaws
held_of number m s shows id x there known at =
    let one : IsFound number m s id = instances_of number m s shows id there in
    let is : one.known ≡ x = same_known one.known x (instance s (number id.life)) one.there known in
    let number_is : number id.life ≡ x.id = ap number (ap (λ (other : ObjectId). other.life) (sym one.same)) ∙ one.shows.id ∙ ap (λ (y : Known). y.id) is in
    ap (λ (b : Bool). (b && is_in_memory id.slot at m.chunks) || nat_lt at (bytes_kept id m)) there
    ∙ ap (λ (bytes : Bytes). nat_lt (at % 4096) (length bytes) || nat_lt at (bytes_kept id m)) (bytes_of number m s shows id (at / 4096) there)
    ∙ ap (λ (n : ℕ). nat_lt (at % 4096) (filled n (at / 4096) s.chunks) || nat_lt at (bytes_kept id m)) number_is
    ∙ ap (λ (n : ℕ). nat_lt (at % 4096) (filled x.id (at / 4096) s.chunks) || nat_lt at n) (extents_of number m s shows id x there known)
    ∙ or_other (nat_lt (at % 4096) (filled x.id (at / 4096) s.chunks)) (nat_lt at (extent_of s x))

-- ---- chunks that go

pub used_of_all : UsedIsTheLaws
used_of_all number m s shows = lengths_same (ShowsChunk number m) m.chunks s.chunks shows.chunks

record IsSameUse (number : ℕ → ℕ) (m : Memory) (pins others : List (ℕ × ℕ)) (u v : Used) : Type 0 where
  owner : number_in number u.owner m.instances ≡ Some v.owner
  index : u.index ≡ v.index
  pinned : is_pinned pins u ≡ is_pinned others v

abbrev IsAny : Used → Used → Type 0
IsAny u v = ⊤

all_length : (number : ℕ → ℕ) (m : Memory) (s : State) → ShowsTable number m s → length (all_used m.chunks) ≡ length (map used_of s.chunks)
all_length number m s shows = lengths_same IsAny (all_used m.chunks) (map used_of s.chunks) (mapped (ShowsChunk number m) IsAny as_used used_of m.chunks s.chunks (λ c d one. tt) shows.chunks)

places_of : (number : ℕ → ℕ) (m : Memory) (pins others : List (ℕ × ℕ)) (u v : Option Used) → AreBoth (IsSameUse number m pins others) u v → AreBoth (IsSamePlace number m) (option_map place_of u) (option_map place_of v)
places_of number m pins others None None both = tt
places_of number m pins others (Some u) (Some v) both = (both.owner, both.index)
places_of number m pins others None (Some v) both = absurd both
places_of number m pins others (Some u) None both = absurd both

unless : (number : ℕ → ℕ) (m : Memory) (b c : Bool) (x y : Option (ℕ × ℕ)) → b ≡ c → AreBoth (IsSamePlace number m) x y → AreBoth (IsSamePlace number m) (cond b None x) (cond c None y)
unless number m true true x y same both = tt
unless number m false false x y same both = both
unless number m true false x y same both = absurd cc
unless number m false true x y same both = absurd cc

pub victims_of : VictimsAreTheLaws
victims_of number m s shows pins others alike =
    unless number m (nat_le (length (all_used m.chunks)) (floor s)) (nat_le (length (map used_of s.chunks)) (floor s)) (option_map place_of (oldest_in pins (all_used m.chunks)))
    (option_map place_of (oldest_in others (map used_of s.chunks)))
    (ap (λ (n : ℕ). nat_le n (floor s)) (all_length number m s shows))
    (places_of number m pins others (oldest_in pins (all_used m.chunks)) (oldest_in others (map used_of s.chunks)) oldest)
  where
    same : AreAll (IsSameUse number m pins others) (all_used m.chunks) (map used_of s.chunks)
    same = mapped (ShowsChunk number m) (IsSameUse number m pins others) as_used used_of m.chunks s.chunks (λ c d one. record { owner = one.owner; index = one.index; pinned = alike c d one }) shows.chunks

    oldest : AreBoth (IsSameUse number m pins others) (oldest_in pins (all_used m.chunks)) (oldest_in others (map used_of s.chunks))
    oldest =
        found (IsSameUse number m pins others) (IsSameUse number m pins others) (λ u. not (is_pinned pins u)) (λ v. not (is_pinned others v)) (all_used m.chunks) (map used_of s.chunks)
        (λ u v one. ap (λ (b : Bool). not b) one.pinned) (λ u v one is. one) same

-- ---- pins

pub pins_of : PinsAreTheLaws
pins_of number m s shows at other pins others same alike c d one =
    ap (λ (index : ℕ). ((c.owner == at.0) && (c.index == index)) || is_pinned pins (as_used c)) same.1
    ∙ ap (λ (b : Bool). b || is_pinned pins (as_used c)) (chunks_alike number m at.0 other.0 other.1 c d shows.apart same.0 one)
    ∙ ap (λ (b : Bool). is_chunk other.0 other.1 d || b) (alike c d one)

no_instance : (number : ℕ → ℕ) (n : ℕ) → option_map (λ (i : Instance). number i.life) None ≡ Some n → ⊥
no_instance number n e = absurd cc

no_known : (x : Known) → None ≡ Some x → ⊥
no_known x e = absurd cc

-- a chunk is of an instance that the law knows
its_instance : (number : ℕ → ℕ) (m : Memory) (s : State) (c : Chunk) (d : Front) → ShowsTable number m s → ShowsChunk number m c d → instance s d.instance ≡ None → ⊥
its_instance number m s c d shows one gone =
    by (in_slot c.owner m.instances) (instance s d.instance) one.owner gone (of_slot number m s c.owner d.instance shows one.owner)
  where
    by : (u : Option Instance) (v : Option Known) → option_map (λ i. number i.life) u ≡ Some d.instance → v ≡ None → AreBoth (IsOf number m s c.owner) u v → ⊥
    by None v e f both = no_instance number d.instance e
    by (Some i) None e f both = absurd both
    by (Some i) (Some x) e f both = no_known x (sym f)

pub gone_pins : GonePinsAreNone
gone_pins number m s shows other pins others gone alike c d one = alike c d one ∙ by (d.instance == other.0) refl
  where
    by : (b : Bool) → (d.instance == other.0) ≡ b → is_pinned others (used_of d) ≡ ((b && (d.index == other.1)) || is_pinned others (used_of d))
    by true is = absurd (its_instance number m s c d shows one (ap (λ (n : ℕ). instance s n) (is_same d.instance other.0 is) ∙ gone))
    by false isnt = refl
