-- Where the chunk of a client's next byte is read back before a write, or cannot be: what the read changes of the desk.
use Rattle.std.proofs.Common.{◌≡◌, ◌≤◌, ◌+◌, ◌*◌, refl, sym, subst, ap, ◌∙◌, ℕ, Bool, true, false, ◌&&◌, nat_le, is_some, length, List, [], ◌∷◌, Option, Some, None, option_map, Ok, Err, le_refl}
use Rattle.std.specs.Option.{option_and_then}
use Rattle.std.specs.Prelude.{slice_get, take, vec_capacity, count_by}
use Rattle.pp_cache.specs.Memory.{Memory}
use Rattle.pp_cache_law.proofs.Faces.{count_faced}
use Rattle.pp_cache_law.proofs.Finds.{find_mapped}
use Rattle.pp_desk.specs.Closings.{sides}
use Rattle.pp_desk.specs.declared.desk.Desk.{Desk}
use Rattle.pp_due.specs.OnDisk.{next_on_disk}
use Rattle.pp_holes.specs.Places.{Chunk}
use Rattle.pp_joints_law.proofs.Asks.{Can}
use Rattle.pp_joints_law.proofs.CarriedOn.{IsBehind, set_of}
use Rattle.pp_joints_law.proofs.ClearedParts.{Stays, itself, stays_as, stays_beside, stays_then}
use Rattle.pp_joints_law.proofs.ClearedWire.{stays_said}
use Rattle.pp_joints_law.proofs.DeskBehind.{behind_then, roused_behind, roused_stays}
use Rattle.pp_joints_law.proofs.RowsCleared.{AreTidy, rowed_in}
use Rattle.pp_law.specs.Lists.{Bytes}
use Rattle.pp_objects.specs.Changes.{face, faces}
use Rattle.pp_objects.specs.Instances.{Instance, is_in_slot, is_row_of, is_there, row_of, total_at, is_row}
use Rattle.pp_objects.specs.declared.id.ObjectId.{ObjectId}
use Rattle.pp_proxy.specs.Handling.{SaysAt}
use Rattle.pp_proxy.specs.Moving.{Turning}
use Rattle.pp_seats.specs.declared.seat.Next.{Next}
use Rattle.pp_state.specs.Bodies.{with_bytes}
use Rattle.pp_state.specs.Bringing.{instance_of}
use Rattle.pp_state.specs.Ends.{parts}
use Rattle.pp_state.specs.declared.state.State.{State as Turn}
use Rattle.pp_store.specs.Kept.{KeptMap}
use Rattle.pp_talk.specs.Loading.{Answer, LoadsOf, LoadsWhere, TakesChunk, chunk_at, load_log, with_none_kept}
use Rattle.pp_world.specs.Log.{AppendsAll, Log}
use Rattle.pp_world.specs.declared.happening.Happening.TheVariants.{Noted}
use Rattle.pp_world.specs.declared.note.Remark.TheVariants.{Loaded}

-- ---- no row is cleared

face_rows : (key : Bytes) (is js : List Instance) → faces is ≡ faces js → rowed_in key is ≡ rowed_in key js
face_rows key is js same = sym (some_face (row_of key is)) ∙ ap is_some (sym (find_mapped (is_row_of key) face is (λ i. refl)) ∙ ap (λ (ks : List Instance). row_of key ks) same ∙ find_mapped (is_row_of key) face js (λ i. refl)) ∙ some_face (row_of key js)
  where
    some_face : (o : Option Instance) → is_some (option_map face o) ≡ is_some o
    some_face None = refl
    some_face (Some i) = refl

face_tidy : (is js : List Instance) → faces is ≡ faces js → AreTidy js → AreTidy is
face_tidy is js same tidy = record {
  alone = λ slot. subst (λ (n : ℕ). n ≤ 1) (sym (count_faced (is_in_slot slot) is js (λ i. refl) same)) (tidy.alone slot);
  rows = λ key. subst (λ (n : ℕ). n ≤ 1) (sym (count_faced (is_row_of key) is js (λ i. refl) same)) (tidy.rows key);
}

-- bytes that join change neither instances nor what is noted
record JoinsAlone (m k : Memory) : Type 0 where
  instances : k.instances ≡ m.instances
  outdated : k.outdated ≡ m.outdated

joins_alone : (id : ObjectId) (at : ℕ) (bytes : List ℕ) (m : Memory) → JoinsAlone m (with_bytes id at bytes m)
joins_alone id at bytes m = by (is_there id m.instances && nat_le (at + length bytes) (total_at id.slot m.instances)) _ _
  where
    by : (b : Bool) (cs : List Chunk) (grown : List ObjectId) → JoinsAlone m (elim b as (λ t. Memory) [ true ↦ record m { chunks = cs; grown = grown } | false ↦ m ])
    by true cs grown = record { instances = refl; outdated = refl }
    by false cs grown = record { instances = refl; outdated = refl }

-- ---- a chunk is read, or not

-- what is set stays, but that a mark may be reached
pub record IsLoadedOf (p q : Turn) : Type 0 where
  pub stays : Stays (parts p) (parts q)
  pub rest : record q { cache = p.cache; is_evicting = p.is_evicting } ≡ p

loaded_itself : (p q : Turn) → q ≡ p → IsLoadedOf p q
loaded_itself p q same = record { stays = stays_as (parts p) (parts p) (parts q) (ap (λ (t : Turn). parts t) same) (itself (parts p)); rest = ap (λ (t : Turn). record t { cache = p.cache; is_evicting = p.is_evicting }) same }

none_kept : (id : ObjectId) (p q : Turn) → q ≡ with_none_kept id p → IsLoadedOf p q
none_kept id p q is = record {
  stays = stays_as (parts p) (parts (with_none_kept id p)) (parts q) (ap (λ (t : Turn). parts t) is) (stays_beside (parts p) (parts (with_none_kept id p)) refl refl (λ can. can));
  rest = ap (λ (t : Turn). record t { cache = p.cache; is_evicting = p.is_evicting }) is;
}

takes_chunk : (answer : Answer) (out : List ℕ) (index : ℕ) (id : ObjectId) (p q : Turn) → TakesChunk answer out index id p q → IsLoadedOf p q
takes_chunk None out index id p q is = none_kept id p q is
takes_chunk (Some (Ok count)) out index id p q is = record {
  stays = record {
    same = ap (λ (m : Memory). m.outdated) is.cache.rest ∙ joined.outdated;
    tidy = λ tidy. face_tidy q.cache.instances p.cache.instances same_faces tidy;
    rows = λ tidy key. face_rows key q.cache.instances p.cache.instances same_faces;
    fewer = subst (λ (n : ℕ). n ≤ count_by is_row p.cache.instances) (sym (count_faced is_row q.cache.instances p.cache.instances (λ i. refl) same_faces)) (le_refl (count_by is_row p.cache.instances));
    can = λ can. subst Can (sym (ap (λ (t : Turn). t.flow) is.rest)) can;
  };
  rest = ap (λ (t : Turn). record t { cache = p.cache; is_evicting = p.is_evicting }) is.rest;
}
  where
    joined : JoinsAlone p.cache (with_bytes id (index * 4096) (take count out) p.cache)
    joined = joins_alone id (index * 4096) (take count out) p.cache

    same_faces : faces q.cache.instances ≡ faces p.cache.instances
    same_faces = is.cache.faces ∙ ap (λ (xs : List Instance). faces xs) joined.instances
takes_chunk (Some (Err fault)) out index id p q is = none_kept id p q is

-- no mark is reached where none was read
keeps_mark : (answer : Answer) (out : List ℕ) (index : ℕ) (id : ObjectId) (p q : Turn) → ((count : ℕ) → answer ≡ Some (Ok count) → ⊥) → TakesChunk answer out index id p q → q.is_evicting ≡ p.is_evicting
keeps_mark None out index id p q none is = ap (λ (t : Turn). t.is_evicting) is
keeps_mark (Some (Ok count)) out index id p q none is = absurd (none count refl)
keeps_mark (Some (Err fault)) out index id p q none is = ap (λ (t : Turn). t.is_evicting) is

-- ---- of a client

loads_of : (id : ObjectId) (o : Option Instance) (index : Option ℕ) (shelf : KeptMap) (p : Turn) (behind : KeptMap) (q : Turn) (old new : Option Log) (before now : ℕ) → LoadsOf id o index shelf p behind q old new before now → IsLoadedOf p q
loads_of id None index shelf p behind q old new before now is = loaded_itself p q is.1
loads_of id (Some i) None shelf p behind q old new before now is = loaded_itself p q is.1
loads_of id (Some i) (Some index) shelf p behind q old new before now is = takes_chunk is.answer is.out index id p q is.is

loads_where : (o : Option Next) (shelf : KeptMap) (p : Turn) (behind : KeptMap) (q : Turn) (old new : Option Log) (before now : ℕ) → LoadsWhere o shelf p behind q old new before now → IsLoadedOf p q
loads_where None shelf p behind q old new before now is = loaded_itself p q is.1
loads_where (Some next) shelf p behind q old new before now is = loads_of next.source (instance_of next.source p.cache.instances) (chunk_at next.at) shelf p behind q old new before now is

-- what it adds to the log does not say that one was read
abbrev pub NeverLoaded : Option Log → Option Log → Type 0
NeverLoaded old new = (key tag : List ℕ) (n index : ℕ) → AppendsAll old new (λ l. Noted (Loaded key tag n index) ∷ []) → ⊥

mark_of : (id : ObjectId) (o : Option Instance) (index : Option ℕ) (shelf : KeptMap) (p : Turn) (behind : KeptMap) (q : Turn) (old new : Option Log) (before now : ℕ) → NeverLoaded old new → LoadsOf id o index shelf p behind q old new before now → q.is_evicting ≡ p.is_evicting
mark_of id None index shelf p behind q old new before now never is = ap (λ (t : Turn). t.is_evicting) is.1
mark_of id (Some i) None shelf p behind q old new before now never is = ap (λ (t : Turn). t.is_evicting) is.1
mark_of id (Some i) (Some index) shelf p behind q old new before now never is = keeps_mark is.answer is.out index id p q none is.is
  where
    none : (count : ℕ) → is.answer ≡ Some (Ok count) → ⊥
    none count read = never i.key i.version.tag i.version.length index (subst (λ (a : Answer). AppendsAll old new (λ l. load_log a i.key i.version index)) read is.told)

mark_where : (o : Option Next) (shelf : KeptMap) (p : Turn) (behind : KeptMap) (q : Turn) (old new : Option Log) (before now : ℕ) → NeverLoaded old new → LoadsWhere o shelf p behind q old new before now → q.is_evicting ≡ p.is_evicting
mark_where None shelf p behind q old new before now never is = ap (λ (t : Turn). t.is_evicting) is.1
mark_where (Some next) shelf p behind q old new before now never is = mark_of next.source (instance_of next.source p.cache.instances) (chunk_at next.at) shelf p behind q old new before now never is

-- ---- the write, whole

pub loaded_says : (i : ℕ) (x y : Turning) (is : SaysAt i x y) → IsLoadedOf is.roused.state is.says.loaded.state
loaded_says i x y is =
    loads_where (option_and_then (next_on_disk is.roused.state) (slice_get is.roused.state.seats.items i)) x.shelf is.roused.state y.shelf is.says.loaded.state x.log is.says.between x.faults is.says.count is.says.loads

pub loads_stay : (i : ℕ) (x y : Turning) → SaysAt i x y → Stays (parts x.moving.desk.state) (parts y.moving.desk.state)
loads_stay i x y is =
    stays_then (parts x.moving.desk.state) (parts is.roused.state) (parts y.moving.desk.state) (roused_stays i x.moving.desk is.roused is.rouses)
    (stays_then (parts is.roused.state) (parts is.says.loaded.state) (parts y.moving.desk.state) (loaded_says i x y is).stays
    (stays_said i is.says.loaded.state.awake.items x.moving.links (sides is.says.loaded) (sides y.moving.desk) is.says.between y.log is.says.says))

same_room : (m n : ℕ) → n ≡ m → m ≤ n
same_room m n is = subst (λ (k : ℕ). m ≤ k) (sym is) (le_refl m)

pub loads_behind : (i : ℕ) (x y : Turning) (is : SaysAt i x y) → NeverLoaded x.log is.says.between → IsBehind x.moving.desk y.moving.desk
loads_behind i x y is never =
    behind_then x.moving.desk is.roused y.moving.desk (roused_behind i x.moving.desk is.roused is.rouses)
    (behind_then is.roused is.says.loaded y.moving.desk (record { set = set_of_loaded; room = same_room (vec_capacity is.roused.state.awake) (vec_capacity is.says.loaded.state.awake) (ap (λ (p : Turn). vec_capacity p.awake) (loaded_says i x y is).rest) })
    (record { set = ap set_of is.says.rest; room = same_room (vec_capacity is.says.loaded.state.awake) (vec_capacity y.moving.desk.state.awake) (ap (λ (d : Desk). vec_capacity d.state.awake) is.says.rest) }))
  where
    mark : is.says.loaded.state.is_evicting ≡ is.roused.state.is_evicting
    mark = mark_where (option_and_then (next_on_disk is.roused.state) (slice_get is.roused.state.seats.items i)) x.shelf is.roused.state y.shelf is.says.loaded.state x.log is.says.between x.faults is.says.count never is.says.loads

    same_state : record is.says.loaded.state { cache = is.roused.state.cache } ≡ is.roused.state
    same_state = ap (λ (b : Bool). record is.says.loaded.state { cache = is.roused.state.cache; is_evicting = b }) mark ∙ (loaded_says i x y is).rest

    set_of_loaded : set_of is.says.loaded ≡ set_of is.roused
    set_of_loaded = ap (λ (p : Turn). set_of (record is.says.loaded { state = p })) same_state ∙ ap set_of is.says.stays

pub loads_lost : (i : ℕ) (x y : Turning) → SaysAt i x y → y.moving.desk.state.has_lost_draft ≡ x.moving.desk.state.has_lost_draft
loads_lost i x y is = ap (λ (d : Desk). d.state.has_lost_draft) is.says.rest ∙ ap (λ (p : Turn). p.has_lost_draft) (loaded_says i x y is).rest ∙ ap (λ (d : Desk). d.state.has_lost_draft) is.rouses.rest
