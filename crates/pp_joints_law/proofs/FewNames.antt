-- How many names the head of a response notes, with one for each row that is in memory.
use Rattle.std.proofs.Common.{◌≡◌, ◌≤◌, refl, sym, subst, ap, ◌∙◌, ℕ, ◌+◌, Bool, true, false, ◌==◌, ◌&&◌, ◌||◌, not, cond, filter, inl, inr, length, nat_le, nat_lt, take, List, [], ◌∷◌, ◌++◌, Option, Some, None, arith}
use Rattle.std.specs.Prelude.{count_by}
use Rattle.pp_answers.specs.Answers.{not_shared, on_its}
use Rattle.pp_answers.specs.FinalHeads.{FillsHead, PassesHead, TakesAim, TakesOwn, TakesPart, cleared_by, counted, is_widened, lacks_next, other_head, other_part, part_without_version, relayed_or_widened, shared_part, version_in, without_version}
use Rattle.pp_answers.specs.Heads.{names_tag, told_unchanged}
use Rattle.pp_answers.specs.OwnHeads.{clears_row, is_private_part}
use Rattle.pp_answers.specs.Rows.{MakesRow, MakesRowOf, Settles, SettlesRow, in_memory, is_bound, joining, may_join, may_refresh, not_modified_as, nothing_of, refreshed_at, refreshed_row, refused_row, refusing, renewed, row_or_none, settled_on, times_for, with_room_for}
use Rattle.pp_answers.specs.ThroughHeads.{ClearsEach, InvalidatesIf, InvalidatesRows, disproved, invalidates, is_disproved, named_as, places_named}
use Rattle.pp_cache.specs.Memory.{Memory, with_outdated, with_row}
use Rattle.pp_cache_law.proofs.PairLemmas.{count_first, count_joined, count_kept, count_mapped_same}
use Rattle.pp_due.specs.Entering.{HasRowFor, MayCome, with_room_if_over}
use Rattle.pp_due.specs.OnDisk.{IsBrought, kept_alone, with_kept}
use Rattle.pp_flow.specs.Errands.{attempts_in, named_by}
use Rattle.pp_flow.specs.declared.entry.Aim.{Aim}
use Rattle.pp_flow.specs.declared.entry.Aim.TheVariants.{Own, Hole, Pass as Through}
use Rattle.pp_flow.specs.declared.entry.Exchange.{Exchange}
use Rattle.pp_flow.specs.declared.errand.Errand.{Errand}
use Rattle.pp_framing.specs.declared.body.BodyRule.{BodyRule}
use Rattle.pp_fresh.specs.Ready.{may_store}
use Rattle.pp_fresh.specs.declared.aging.Times.{Times}
use Rattle.pp_head.specs.Response.{Response}
use Rattle.pp_objects.specs.Changes.{changed_in, is_elsewhere, new_row, refreshed, retired, retired_from, settled, without_slot}
use Rattle.pp_objects.specs.Instances.{Instance, is_in_slot, is_row, row_of}
use Rattle.pp_objects.specs.Kept.{kept_of}
use Rattle.pp_objects.specs.declared.id.ObjectId.{ObjectId}
use Rattle.pp_seats.specs.Courses.{without_shared_row}
use Rattle.pp_seats.specs.declared.seat.Seat.{Seat}
use Rattle.pp_state.specs.Astray.{astray_where}
use Rattle.pp_state.specs.Ends.{Parts, bound_by, cleared_key, cleared_of, cleared_row, lost_attempt, made_useless, parts, seat_for, unusable}
use Rattle.pp_state.specs.Keys.{key_of}
use Rattle.pp_state.specs.Known.{row_for}
use Rattle.pp_state.specs.Pins.{forgotten_row, idle_row, with_room}
use Rattle.pp_state.specs.declared.state.State.{State as Turn}
use Rattle.pp_store.specs.Kept.{Kept, KeptMap}
use Rattle.pp_target.specs.Name.{name_of}
use Rattle.pp_text.specs.Fields.{Field}
use Rattle.pp_valid.specs.Conditions.{names_other_tag}
use Rattle.pp_valid.specs.declared.version.Version.{Version}
use Rattle.pp_world.specs.declared.access.Source.TheVariants.{Checked}
use Rattle.pp_joints_law.proofs.ClearedParts.{ClearsIn, loses, one_longer}
use Rattle.pp_joints_law.proofs.NotedHeads.{key_room, refusing_cache, seat_cache, told_cache}
use Rattle.pp_joints_law.specs.HeadsNote.{HeadsNoteFew, RowsNoteFew, others_in, others_named}

-- ---- one behind the other

abbrev sum : Memory → ℕ
sum m = length m.outdated + count_by is_row m.instances

-- so many more at most
record Few (most : ℕ) (m k : Memory) : Type 0 where
  few : sum k ≤ sum m + most

few_same : (m k : Memory) → k ≡ m → Few 0 m k
few_same m k is = record { few = subst (λ (l : Memory). sum l ≤ sum m + 0) (sym is) (omega arith) }

few_then : (a b : ℕ) (m k l : Memory) → Few a m k → Few b k l → Few (a + b) m l
few_then a b m k l one two = record { few = omega (arith, one.few, two.few) }

few_more : (a b : ℕ) (m k : Memory) → a ≤ b → Few a m k → Few b m k
few_more a b m k less one = record { few = omega (arith, one.few, less) }

few_as : (a : ℕ) (m k l : Memory) → l ≡ k → Few a m k → Few a m l
few_as a m k l is one = subst (λ (j : Memory). Few a m j) (sym is) one

-- ---- rows

retired_fewer : (slot : ℕ) (is : List Instance) → count_by is_row (changed_in slot retired is) ≤ count_by is_row is
retired_fewer slot [] = omega arith
retired_fewer slot (i ∷ is) = by (is_in_slot slot i) (retired_fewer slot is)
  where
    by : (b : Bool) → count_by is_row (changed_in slot retired is) ≤ count_by is_row is → count_by is_row (cond b (retired i) i ∷ changed_in slot retired is) ≤ count_by is_row (i ∷ is)
    by true rest = omega (arith, rest, count_first is_row i is, count_first is_row (retired i) (changed_in slot retired is))
    by false rest = omega (arith, rest, count_first is_row i is, count_first is_row i (changed_in slot retired is))

former_fewer : (o : Option Instance) (is : List Instance) → count_by is_row (retired_from o is) ≤ count_by is_row is
former_fewer None is = omega arith
former_fewer (Some i) is = by (i.followers == 0)
  where
    by : (b : Bool) → count_by is_row (cond b (without_slot i.slot is) (changed_in i.slot retired is)) ≤ count_by is_row is
    by true = count_kept is_row (is_elsewhere i.slot) is
    by false = retired_fewer i.slot is

one_row : (new : Instance) → count_by is_row (new ∷ []) ≤ 1
one_row new = by (is_row new) (count_first is_row new [])
  where
    by : (b : Bool) → count_by is_row (new ∷ []) ≡ cond b 1 0 + count_by is_row [] → count_by is_row (new ∷ []) ≤ 1
    by true is = omega (arith, is)
    by false is = omega (arith, is)

settled_few : (id : ObjectId) (key : List ℕ) (v : Version) (fields : List Field) (times : Times) (is : List Instance) → count_by is_row (settled id key v fields times is) ≤ count_by is_row is + 1
settled_few id key v fields times is =
    let new : Instance = new_row id key v fields times in
    omega (arith, former_fewer (row_of key is) (is ++ new ∷ []), count_joined is_row is (new ∷ []), one_row new)

row_comes : (id : ObjectId) (key : List ℕ) (v : Version) (fields : List Field) (times : Times) (m : Memory) → Few 1 m (with_row id key v fields times m)
unfolding with_row
row_comes id key v fields times m = record { few = omega (arith, settled_few id key v (kept_of fields times) times m.instances) }

named : (key : List ℕ) (m : Memory) → Few 1 m (with_outdated key m)
unfolding with_outdated
named key m = record { few = omega (arith, one_longer (name_of key) m.outdated) }

apart : (slot : ℕ) (is : List Instance) → count_by is_row (filter (is_elsewhere slot) is) + count_by is_row (filter (is_in_slot slot) is) ≤ count_by is_row is
apart slot [] = omega arith
apart slot (i ∷ is) = by (is_in_slot slot i) (apart slot is)
  where
    there : List Instance
    there = filter (is_in_slot slot) is

    elsewhere : List Instance
    elsewhere = filter (is_elsewhere slot) is

    by : (b : Bool) → count_by is_row elsewhere + count_by is_row there ≤ count_by is_row is → count_by is_row (cond (not b) (i ∷ elsewhere) elsewhere) + count_by is_row (cond b (i ∷ there) there) ≤ count_by is_row (i ∷ is)
    by true rest = omega (arith, rest, count_first is_row i is, count_first is_row i there)
    by false rest = omega (arith, rest, count_first is_row i is, count_first is_row i elsewhere)

changed_same : (slot : ℕ) (fields : List Field) (times : Times) (is : List Instance) → count_by is_row (changed_in slot (refreshed fields times) is) ≡ count_by is_row is
changed_same slot fields times is = count_mapped_same is_row _ is (λ i. by (is_in_slot slot i) i)
  where
    by : (b : Bool) (i : Instance) → is_row (cond b (refreshed fields times i) i) ≡ is_row i
    by true i = refl
    by false i = refl

refreshes : (id : ObjectId) (fields : List Field) (times : Times) (m : Memory) → Few 0 m (refreshed_at id fields times m)
refreshes id fields times m =
    let is : List Instance = changed_in id.slot (refreshed fields times) m.instances in
    record { few = omega (arith, count_joined is_row (filter (is_elsewhere id.slot) is) (filter (is_in_slot id.slot) is), apart id.slot is, changed_same id.slot fields times m.instances) }

forgets : (o : Option Instance) (t : Turn) → Few 0 t.cache (forgotten_row o t).cache
forgets None t = few_same t.cache t.cache refl
forgets (Some i) t = record { few = omega (arith, count_kept is_row (is_elsewhere i.slot) t.cache.instances) }

rooms : (t : Turn) → Few 0 t.cache (with_room t).cache
rooms t = by (nat_le 1024 (count_by is_row t.cache.instances))
  where
    by : (b : Bool) → Few 0 t.cache (elim b as (λ u. Turn) [ true ↦ forgotten_row (idle_row t) t | false ↦ t ]).cache
    by true = forgets (idle_row t) t
    by false = few_same t.cache t.cache refl

rooms_for : (o : Option (ObjectId × Version)) (t : Turn) → Few 0 t.cache (with_room_for o t).cache
rooms_for None t = rooms t
rooms_for (Some row) t = few_same t.cache t.cache refl

-- ---- a row comes in beside a head

brings : (key : List ℕ) (o : Option Kept) (m k : Memory) → IsBrought key o m k → Few 1 m k
brings key None m k is = few_more 0 1 m k (omega arith) (few_same m k is)
brings key (Some row) m k is = few_as 1 m (with_kept is.id key row m) k is.entered (kept is.id)
  where
    kept : (id : ObjectId) → Few 1 m (with_kept id key row m)
    kept id = let one : Few 1 m (with_row id key row.entry.version row.entry.fields row.entry.times m) = row_comes id key row.entry.version row.entry.fields row.entry.times m in record { few = one.few }

comes : (shelf : KeptMap) (key : List ℕ) (old new : Turn) → MayCome shelf key old new → Few 1 old.cache new.cache
comes shelf key old new (inl it) = brings key (kept_alone key shelf old.cache) old.cache new.cache it.cache
comes shelf key old new (inr it) = few_more 0 1 old.cache new.cache (omega arith) (few_same old.cache new.cache (ap (λ (t : Turn). t.cache) it))

over : (t : Turn) → Few 0 t.cache (with_room_if_over t).cache
over t = by (nat_lt 1024 (count_by is_row t.cache.instances))
  where
    by : (b : Bool) → Few 0 t.cache (elim b as (λ u. Turn) [ true ↦ with_room t | false ↦ t ]).cache
    by true = rooms t
    by false = few_same t.cache t.cache refl

beside : (shelf : KeptMap) (o : Option (List ℕ)) (old new : Turn) → HasRowFor shelf o old new → Few 1 old.cache new.cache
beside shelf None old new it = few_more 0 1 old.cache new.cache (omega arith) (few_same old.cache new.cache (ap (λ (t : Turn). t.cache) it))
beside shelf (Some key) old new it =
    few_as 1 old.cache (with_room_if_over it.entered).cache new.cache (ap (λ (t : Turn). t.cache) it.room) (few_then 1 0 old.cache it.entered.cache (with_room_if_over it.entered).cache (comes shelf key old it.entered it.comes) (over it.entered))

pub rows_note_few : RowsNoteFew
rows_note_few shelf key old new it = (beside shelf key old new it).few

-- ---- rows that are cleared

clears_of : (o : Option (List ℕ)) (p : Parts) → Few 1 p.cache (cleared_of o p).cache
clears_of None p = few_more 0 1 p.cache p.cache (omega arith) (few_same p.cache p.cache refl)
clears_of (Some key) p = record { few = key_room key p }

clears : (n : ℕ) (p : Parts) → Few 1 p.cache (cleared_row n p).cache
clears n p = clears_of (key_of n p.flow) p

one_lost : (e : Exchange) (p : Parts) → Few 0 p.cache (lost_attempt e p).cache
one_lost e p = let one : ClearsIn p (lost_attempt e p) = loses e p in record { few = omega (arith, one.few) }

drops : (e : Exchange) (p : Parts) → (unusable e p).cache ≡ p.cache
drops e p = told_cache e _ (bound_by e.number None p)

is_useless : (e : Exchange) (p : Parts) → Few 0 p.cache (made_useless e p).cache
is_useless e p = few_as 0 p.cache (lost_attempt e p).cache (made_useless e p).cache (drops e (lost_attempt e p)) (one_lost e p)

is_not_shared : (e : Exchange) (errand : Errand) (p : Parts) → Few 1 p.cache (not_shared e errand p).cache
is_not_shared e errand p =
    let q : Parts = cleared_row e.number p in
    let f : Seat → Seat = without_shared_row (attempts_in errand.is_asked_once) in
    few_as 1 p.cache q.cache (not_shared e errand p).cache (drops e (on_its e f q) ∙ seat_cache (seat_for e q.seats) f q) (clears e.number p)

-- ---- a response with a version

joins : (e : Exchange) (errand : Errand) (head : Response) (v : Version) (id : ObjectId) (p : Parts) → (settled_on e errand head v id p).cache ≡ p.cache
joins e errand head v id p = told_cache e _ _

renews : (e : Exchange) (errand : Errand) (head : Response) (v : Version) (id : ObjectId) (clock : ℕ) (p : Parts) → Few 0 p.cache (renewed e errand head v id clock p).cache
renews e errand head v id clock p = by (may_refresh id head.fields (times_for errand head clock) p.cache)
  where
    q : Parts
    q = in_memory (refreshed_at id head.fields (times_for errand head clock)) p

    by : (b : Bool) → Few 0 p.cache (elim b as (λ t. Parts) [ true ↦ settled_on e errand head v id q | false ↦ made_useless e p ]).cache
    by true = few_as 0 p.cache q.cache (settled_on e errand head v id q).cache (joins e errand head v id q) (refreshes id head.fields (times_for errand head clock) p.cache)
    by false = is_useless e p

refuses : (e : Exchange) (p : Parts) → Few 1 p.cache (refused_row e p).cache
refuses e p =
    let q : Parts = cleared_row e.number p in
    few_as 1 p.cache q.cache (refused_row e p).cache (told_cache e _ (bound_by e.number None (refusing e.number q)) ∙ refusing_cache (key_of e.number q.flow) q) (clears e.number p)

makes_row : (e : Exchange) (errand : Errand) (head : Response) (v : Version) (clock : ℕ) (key : List ℕ) (p q : Parts) → MakesRow e errand head v clock key p q → Few 2 p.cache q.cache
makes_row e errand head v clock key p q it = few_as 2 p.cache (row_or_none e errand head v clock key it.made p).cache q.cache (ap (λ (r : Parts). r.cache) it.becomes) (by it.made)
  where
    by : (o : Option ObjectId) → Few 2 p.cache (row_or_none e errand head v clock key o p).cache
    by None = few_more 1 2 p.cache (refused_row e p).cache (omega arith) (refuses e p)
    by (Some id) =
        let m : Memory = with_row id key v head.fields (times_for errand head clock) p.cache in
        few_as 2 p.cache (with_outdated key m) (row_or_none e errand head v clock key (Some id) p).cache (told_cache e _ _) (few_then 1 1 p.cache m (with_outdated key m) (row_comes id key v head.fields (times_for errand head clock) p.cache) (named key m))

makes_of : (e : Exchange) (errand : Errand) (head : Response) (v : Version) (clock : ℕ) (o : Option (List ℕ)) (p q : Parts) → MakesRowOf e errand head v clock o p q → Few 2 p.cache q.cache
makes_of e errand head v clock None p q it = few_more 0 2 p.cache q.cache (omega arith) (few_same p.cache q.cache (ap (λ (r : Parts). r.cache) it))
makes_of e errand head v clock (Some key) p q it = makes_row e errand head v clock key p q it

settles_row : (e : Exchange) (errand : Errand) (head : Response) (v : Version) (clock : ℕ) (b : Bool) (id : ObjectId) (p q : Parts) → SettlesRow e errand head v clock b id p q → Few 2 p.cache q.cache
settles_row e errand head v clock true id p q is =
    few_more 0 2 p.cache q.cache (omega arith) (few_as 0 p.cache (renewed e errand head v id clock p).cache q.cache (ap (λ (r : Parts). r.cache) is) (renews e errand head v id clock p))
settles_row e errand head v clock false id p q it = makes_of e errand head v clock (key_of e.number p.flow) p q it

settles_by : (e : Exchange) (errand : Errand) (head : Response) (v : Version) (clock : ℕ) (row : Option (ObjectId × Version)) (p q : Parts) → Settles e errand head v clock row p q → Few 2 p.cache q.cache
settles_by e errand head v clock None p q it = makes_of e errand head v clock (key_of e.number p.flow) p q it
settles_by e errand head v clock (Some row) p q it = settles_row e errand head v clock (may_join e.aim errand.kind head v row.1) row.0 p q it

settles : (e : Exchange) (errand : Errand) (head : Response) (v : Version) (clock : ℕ) (row : Option (ObjectId × Version)) (t : Turn) (q : Parts) → Settles e errand head v clock row (parts (with_room_for row t)) q → Few 2 t.cache q.cache
settles e errand head v clock row t q it = few_then 0 2 t.cache (with_room_for row t).cache q.cache (rooms_for row t) (settles_by e errand head v clock row (parts (with_room_for row t)) q it)

-- ---- a 304

each_told : {U : Type 0} (f : U → Parts) (p : Parts) (shares other tagged : Bool) (a b c d : U) → Few 2 p.cache (f a).cache → Few 2 p.cache (f b).cache → Few 2 p.cache (f c).cache → Few 2 p.cache (f d).cache
    → Few 2 p.cache (f (elim shares as (λ t. U) [ false ↦ a | true ↦ elim other as (λ t. U) [ true ↦ b | false ↦ elim tagged as (λ t. U) [ true ↦ c | false ↦ d ] ] ])).cache
each_told f p false _ _ a b c d one two three four = one
each_told f p true true _ a b c d one two three four = two
each_told f p true false true a b c d one two three four = three
each_told f p true false false a b c d one two three four = four

either_told : {U : Type 0} (f : U → Parts) (p : Parts) (shares : Bool) (a d : U) → Few 2 p.cache (f a).cache → Few 2 p.cache (f d).cache → Few 2 p.cache (f (elim shares as (λ t. U) [ false ↦ a | true ↦ d ])).cache
either_told f p false a d one four = one
either_told f p true a d one four = four

unmodified : (e : Exchange) (errand : Errand) (head : Response) (clock : ℕ) (o : Option (ObjectId × Version)) (p : Parts) → Few 2 p.cache (not_modified_as e errand head clock (told_unchanged head.fields errand.kind o) p).cache
unmodified e errand head clock o p = by o
  where
    unshared : Few 2 p.cache (not_shared e errand p).cache
    unshared = few_more 1 2 p.cache (not_shared e errand p).cache (omega arith) (is_not_shared e errand p)

    useless : Few 2 p.cache (made_useless e p).cache
    useless = few_more 0 2 p.cache (made_useless e p).cache (omega arith) (is_useless e p)

    another : Few 2 p.cache (made_useless e (cleared_row e.number p)).cache
    another =
        let q : Parts = cleared_row e.number p in
        few_more 1 2 p.cache (made_useless e q).cache (omega arith) (few_then 1 0 p.cache q.cache (made_useless e q).cache (clears e.number p) (is_useless e q))

    refreshed_by : (id : ObjectId) → Few 2 p.cache (refreshed_row e errand head id clock p).cache
    refreshed_by id = few_more 0 2 p.cache (refreshed_row e errand head id clock p).cache (omega arith) (at (may_refresh id head.fields (times_for errand head clock) p.cache))
      where
        q : Parts
        q = in_memory (refreshed_at id head.fields (times_for errand head clock)) p

        at : (b : Bool) → Few 0 p.cache (elim b as (λ t. Parts) [ true ↦ joining e (nothing_of id) Checked false q | false ↦ made_useless e p ]).cache
        at true = few_as 0 p.cache q.cache (joining e (nothing_of id) Checked false q).cache (told_cache e _ _) (refreshes id head.fields (times_for errand head clock) p.cache)
        at false = is_useless e p

    by : (known : Option (ObjectId × Version)) → Few 2 p.cache (not_modified_as e errand head clock (told_unchanged head.fields errand.kind known) p).cache
    by None = either_told (λ u. not_modified_as e errand head clock u p) p (may_store head.fields) _ _ unshared useless
    by (Some row) =
        each_told (λ u. not_modified_as e errand head clock u p) p (may_store head.fields) (names_other_tag head.fields row.1.tag) (names_tag (named_by errand.kind) row.1.tag) _ _ _ _ unshared another (refreshed_by row.0) useless

-- ---- a response without a version

clears_by : (e : Exchange) (head : Response) (p : Parts) → Few 1 p.cache (cleared_by e head p).cache
clears_by e head p = by (clears_row head || is_private_part head)
  where
    by : (b : Bool) → Few 1 p.cache (elim b as (λ t. Parts) [ true ↦ cleared_row e.number p | false ↦ p ]).cache
    by true = clears e.number p
    by false = few_more 0 1 p.cache p.cache (omega arith) (few_same p.cache p.cache refl)

other : (name : List ℕ) (e : Exchange) (errand : Errand) (head : Response) (rule : BodyRule) (p : Parts) → Few 2 p.cache (other_head name e errand head rule p).cache
other name e errand head rule p =
    let q : Parts = cleared_by e head p in
    few_more 1 2 p.cache (other_head name e errand head rule p).cache (omega arith) (few_as 1 p.cache q.cache (other_head name e errand head rule p).cache (by (is_widened errand head) q) (clears_by e head p))
  where
    by : (b : Bool) (q : Parts) → (relayed_or_widened b name e head rule q).cache ≡ q.cache
    by true q = told_cache e _ (bound_by e.number None q)
    by false q = refl

part : (name : List ℕ) (e : Exchange) (errand : Errand) (head : Response) (rule : BodyRule) (b : Bool) (p : Parts) → Few 2 p.cache (other_part b name e errand head rule p).cache
part name e errand head rule true p = few_more 1 2 p.cache (not_shared e errand p).cache (omega arith) (is_not_shared e errand p)
part name e errand head rule false p = by (clears_row head)
  where
    by : (b : Bool) → Few 2 p.cache (shared_part b name e head rule p).cache
    by true = few_more 1 2 p.cache (cleared_row e.number p).cache (omega arith) (clears e.number p)
    by false = few_more 0 2 p.cache (made_useless e p).cache (omega arith) (is_useless e p)

-- ---- by what was asked

owns : (e : Exchange) (errand : Errand) (head : Response) (rule : BodyRule) (o : Option Version) (t : Turn) (new : Parts) → TakesOwn e errand head rule o t new → Few 2 t.cache new.cache
owns e errand head rule None t new is = few_as 2 t.cache (without_version (head.status == 304) e errand head rule t).cache new.cache (ap (λ (r : Parts). r.cache) is) (by (head.status == 304))
  where
    by : (b : Bool) → Few 2 t.cache (without_version b e errand head rule t).cache
    by true = unmodified e errand head t.now (row_for e.number (parts t)) (parts t)
    by false = other t.name.items e errand head rule (parts t)
owns e errand head rule (Some v) t new it = settles e errand head v t.now (row_for e.number (parts t)) t new it

fills_part : (e : Exchange) (errand : Errand) (head : Response) (rule : BodyRule) (o : Option Version) (t : Turn) (new : Parts) → TakesPart e errand head rule o t new → Few 2 t.cache new.cache
fills_part e errand head rule None t new is = few_as 2 t.cache (part_without_version (head.status == 304) e errand head rule t).cache new.cache (ap (λ (r : Parts). r.cache) is) (by (head.status == 304))
  where
    by : (b : Bool) → Few 2 t.cache (part_without_version b e errand head rule t).cache
    by true = unmodified e errand head t.now (row_for e.number (parts t)) (parts t)
    by false = part t.name.items e errand head rule (is_private_part head) (parts t)
fills_part e errand head rule (Some v) t new it = settles e errand head v t.now (row_for e.number (parts t)) t new it

pub part_few : (e : Exchange) (errand : Errand) (head : Response) (rule : BodyRule) (t : Turn) (new : Parts) → TakesPart e errand head rule (version_in errand head) t new → length new.cache.outdated + count_by is_row new.cache.instances ≤ length t.cache.outdated + count_by is_row t.cache.instances + 2
part_few e errand head rule t new it = (fills_part e errand head rule (version_in errand head) t new it).few

counts : (e : Exchange) (p : Parts) → Few 0 p.cache (counted e p).cache
counts e p = by (is_bound e.number p.flow && lacks_next e.number p)
  where
    by : (b : Bool) → Few 0 p.cache (elim b as (λ t. Parts) [ true ↦ lost_attempt e p | false ↦ p ]).cache
    by true = one_lost e p
    by false = few_same p.cache p.cache refl

fills : (e : Exchange) (errand : Errand) (head : Response) (rule : BodyRule) (t : Turn) (new : Parts) → FillsHead e errand head rule t new → Few 2 t.cache new.cache
fills e errand head rule t new it =
    few_as 2 t.cache (counted e it.between).cache new.cache (ap (λ (r : Parts). r.cache) it.elsewhere)
    (few_then 2 0 t.cache it.between.cache (counted e it.between).cache (fills_part e errand head rule (version_in errand head) t it.between it.taken) (counts e it.between))

-- ---- a response that is passed

astray_cache : (b : Bool) (p : Parts) → (astray_where b p).cache ≡ p.cache
astray_cache true p = refl
astray_cache false p = refl

each_named : (site : List ℕ) (texts : List (List ℕ)) (p q : Parts) → ClearsEach site texts p q → Few (length texts) p.cache q.cache
each_named site [] p q is = few_same p.cache q.cache (ap (λ (r : Parts). r.cache) is)
each_named site (text ∷ texts) p q it =
    few_more (1 + length texts) (length (text ∷ texts)) p.cache q.cache (omega arith)
    (few_then 1 (length texts) p.cache it.0.cache q.cache
    (few_as 1 p.cache (cleared_of (named_as it.1.is_read site text) p).cache it.0.cache (ap (λ (r : Parts). r.cache) it.1.cleared ∙ astray_cache (not it.1.is_read) (cleared_of (named_as it.1.is_read site text) p)) (clears_of (named_as it.1.is_read site text) p))
    (each_named site texts it.0 q it.2))

rows_named : (o : Option (List ℕ)) (path : ℕ) (head : Response) (p q : Parts) → InvalidatesRows o path head p q → Few (1 + length (places_named head)) p.cache q.cache
rows_named None path head p q is = few_more 0 (1 + length (places_named head)) p.cache q.cache (omega arith) (few_same p.cache q.cache (ap (λ (r : Parts). r.cache) is))
rows_named (Some key) path head p q it =
    few_then 1 (length (places_named head)) p.cache (cleared_key key p).cache q.cache (clears_of (Some key) p) (each_named (take path key) (places_named head) (cleared_key key p) q it)

invalid : (b : Bool) (o : Option (List ℕ)) (path : ℕ) (head : Response) (p q : Parts) → InvalidatesIf b o path head p q → Few (1 + others_named b head) p.cache q.cache
invalid false o path head p q is = few_more 0 (1 + others_named false head) p.cache q.cache (omega arith) (few_same p.cache q.cache (ap (λ (r : Parts). r.cache) is))
invalid true o path head p q it = rows_named o path head p q it

disproves : (e : Exchange) (errand : Errand) (head : Response) (p : Parts) → Few 1 p.cache (disproved e errand head p).cache
disproves e errand head p = by (is_disproved e errand head p)
  where
    by : (b : Bool) → Few 1 p.cache (elim b as (λ t. Parts) [ true ↦ cleared_row e.number p | false ↦ p ]).cache
    by true = clears e.number p
    by false = few_more 0 1 p.cache p.cache (omega arith) (few_same p.cache p.cache refl)

passes : (name : List ℕ) (e : Exchange) (errand : Errand) (head : Response) (rule : BodyRule) (p new : Parts) → PassesHead name e errand head rule p new → Few (others_named (invalidates errand.is_safe head) head + 2) p.cache new.cache
passes name e errand head rule p new it =
    let mid : Parts = it.outdated.between in
    let more : ℕ = others_named (invalidates errand.is_safe head) head in
    few_more (1 + more + 1) (more + 2) p.cache new.cache (omega arith)
    (few_as (1 + more + 1) p.cache (disproved e errand head mid).cache new.cache (ap (λ (r : Parts). r.cache) it.passed ∙ ap (λ (r : Parts). r.cache) it.outdated.cleared)
    (few_then (1 + more) 1 p.cache mid.cache (disproved e errand head mid).cache (invalid (invalidates errand.is_safe head) (key_of e.number p.flow) errand.place.path head p mid it.outdated.invalidated) (disproves e errand head mid)))

-- ---- all of it

pub heads_note_few : HeadsNoteFew
heads_note_few n head None t new is = omega (arith, (few_same t.cache new.cache (ap (λ (r : Parts). r.cache) is)).few)
heads_note_few n head (Some a) t new it = (few_as (others_in a.0.exchange.aim a.0.errand.is_safe head + 2) t.cache it.between.cache new.cache (ap (λ (r : Parts). r.cache) it.noted) (by a.0.exchange.aim it.taken)).few
  where
    by : (aim : Aim) → TakesAim aim a.0.exchange a.0.errand head a.1 t it.between → Few (others_in aim a.0.errand.is_safe head + 2) t.cache it.between.cache
    by Own taken = owns a.0.exchange a.0.errand head a.1 (version_in a.0.errand head) t it.between taken
    by (Hole v from to) taken = fills a.0.exchange a.0.errand head a.1 t it.between taken
    by Through taken = passes t.name.items a.0.exchange a.0.errand head a.1 (parts t) it.between taken
