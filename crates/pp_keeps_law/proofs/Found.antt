-- The instance that is kept next, in the cache and in the law; and the entries where no name is outdated.
use Rattle.std.proofs.Common.{◌≡◌, refl, sym, subst, ap, ap₂, ◌∙◌, inl, inr, ℕ, Bool, true, false, not, ◌&&◌, ◌||◌, cond, find, List, [], ◌∷◌, Option, Some, None}
use Rattle.std.specs.Prelude.{bytes_eq, is_some}
use Rattle.std.specs.List.{list_any}
use Rattle.pp_cache.specs.Memory.{Memory}
use Rattle.pp_cache_law.proofs.Alike.{instances_of}
use Rattle.pp_cache_law.proofs.Numbers.{some_is}
use Rattle.pp_cache_law.specs.Notes.{IsRowThere}
use Rattle.pp_cache_law.specs.Reads.{IsFound}
use Rattle.pp_cache_law.specs.Tables.{ShowsInstance}
use Rattle.pp_fresh.specs.declared.aging.Times.{Times}
use Rattle.pp_keeping.specs.Runs.{entry_of}
use Rattle.pp_law.specs.Lists.{Bytes, has_text}
use Rattle.pp_law.specs.State.{State, Entry, Instance as Known}
use Rattle.pp_law.specs.Table.{instance, is_entry_of, is_instance, is_kept_row_of, kept_row}
use Rattle.pp_laws.proofs.Lists.{in_find}
use Rattle.pp_laws.specs.Runs.{IsIn}
use Rattle.pp_objects.specs.Instances.{Instance, in_slot, is_there}
use Rattle.pp_objects.specs.declared.id.ObjectId.{ObjectId}
use Rattle.pp_shelf_law.proofs.Shelves.{same_bytes}
use Rattle.pp_state.specs.Bringing.{instance_of}
use Rattle.pp_state.specs.declared.state.State.{State as Turn}
use Rattle.pp_store.specs.Changes.{entry_with}
use Rattle.pp_store.specs.Kept.{KeptMap}
use Rattle.pp_text.specs.Fields.{Field}
use Rattle.pp_valid.specs.declared.version.Version.{Version}
use Rattle.pp_keeps_law.proofs.Entries.{noted_at, true_not}
use Rattle.pp_keeps_law.specs.Stands.{StandsToKeep}

-- ---- an instance

record IsThere (id : ObjectId) (is : List Instance) (i : Instance) : Type 0 where
  there : is_there id is ≡ true
  here : in_slot id.slot is ≡ Some i

there_of : (id : ObjectId) (is : List Instance) (i : Instance) → instance_of id is ≡ Some i → IsThere id is i
there_of id is i found = by (is_there id is) refl found
  where
    by : (b : Bool) → is_there id is ≡ b → cond b (in_slot id.slot is) None ≡ Some i → IsThere id is i
    by true there here = record { there = there; here = here }
    by false there here = absurd (cc here)

-- the law's, by its number
pub record IsKnown (number : ℕ → ℕ) (p : Turn) (s : State) (id : ObjectId) (i : Instance) : Type 0 where
  pub known : Known
  pub there : is_there id p.cache.instances ≡ true
  pub by_number : instance s (number id.life) ≡ Some known
  pub in_law : IsIn known s.instances
  pub shows : ShowsInstance number p.cache s i known
  pub entry : entry_of i ≡ entry_with known.key known.version known.fields known.times

entry_same : (number : ℕ → ℕ) (m : Memory) (s : State) (i : Instance) (x : Known) → ShowsInstance number m s i x → entry_of i ≡ entry_with x.key x.version x.fields x.times
entry_same number m s i x one =
    ap₂ (λ (k : Bytes) (v : Version). entry_with k v i.fields i.times) one.key one.version
    ∙ ap₂ (λ (fs : List Field) (ts : Times). entry_with x.key x.version fs ts) one.fields one.times

pub known_of : (number : ℕ → ℕ) (p : Turn) (shelf : KeptMap) (s : State) (id : ObjectId) (i : Instance) → StandsToKeep number p shelf s → instance_of id p.cache.instances ≡ Some i → IsKnown number p s id i
known_of number p shelf s id i stands found =
    let at : IsThere id p.cache.instances i = there_of id p.cache.instances i found in
    let one : IsFound number p.cache s id = instances_of number p.cache s stands.cache.table id at.there in
    let seen : one.seen ≡ i = some_is one.seen i (sym one.here ∙ at.here) in
    let shows : ShowsInstance number p.cache s i one.known = subst (λ (j : Instance). ShowsInstance number p.cache s j one.known) seen one.shows in
    record {
      known = one.known;
      there = at.there;
      by_number = one.there;
      in_law = (in_find (is_instance (number id.life)) one.known s.instances one.there).0;
      shows = shows;
      entry = entry_same number p.cache s i one.known shows;
    }

pub row_of_known : (number : ℕ → ℕ) (p : Turn) (shelf : KeptMap) (s : State) (id : ObjectId) (i : Instance) → StandsToKeep number p shelf s → (k : IsKnown number p s id i) → k.known.is_retired ≡ false → IsRowThere number p.cache s id k.known
row_of_known number p shelf s id i stands k row = record { there = k.there; known = k.by_number; row = row; slot = stands.bounded.slots id k.there }

-- ---- no name is outdated

first_off : (a b : Bool) → (a || b) ≡ false → a ≡ false
first_off true b is = true_not is
first_off false b is = refl

second_off : (a b : Bool) → (a || b) ≡ false → b ≡ false
second_off true b is = true_not is
second_off false b is = is

pub find_agree : {A : Type 0} (p q : A → Bool) (xs : List A) → ((x : A) → IsIn x xs → p x ≡ q x) → find p xs ≡ find q xs
find_agree p q [] same = refl
find_agree {A} p q (x ∷ xs) same =
    ap (λ (b : Bool). cond b (Some x) (find p xs)) (same x (inl refl)) ∙ ap (λ (o : Option A). cond (q x) (Some x) o) (find_agree p q xs (λ y i. same y (inr i)))

module _ (number : ℕ → ℕ) (p : Turn) (shelf : KeptMap) (s : State) (stands : StandsToKeep number p shelf s) (none : p.cache.outdated ≡ []) where
  pub unnoted : (e : Entry) → IsIn e s.entries → (e.is_stale || has_text e.key s.displaced) ≡ false
  unnoted e i = noted_at p.cache.outdated s.displaced s.entries stands.noted e i ∙ ap (λ (ns : List Bytes). list_any (bytes_eq e.name) ns) none

  pub not_stale : (e : Entry) → IsIn e s.entries → e.is_stale ≡ false
  not_stale e i = first_off e.is_stale (has_text e.key s.displaced) (unnoted e i)

  -- each entry stands for its row
  pub rows_are_entries : (key : Bytes) → kept_row s key ≡ find (is_entry_of key) s.entries
  rows_are_entries key = find_agree (is_kept_row_of key) (is_entry_of key) s.entries (λ e i. ap (λ (b : Bool). not b && is_entry_of key e) (not_stale e i))

  -- and no key is displaced
  pub none_displaced : (key : Bytes) → has_text key s.displaced ≡ false
  none_displaced key = by (has_text key s.displaced) refl
    where
      found : (o : Option Entry) → find (is_entry_of key) s.entries ≡ o → is_some o ≡ true → has_text key s.displaced ≡ false
      found None is some = true_not (sym some)
      found (Some e) is some =
          let there : IsIn e s.entries × (is_entry_of key e ≡ true) = in_find (is_entry_of key) e s.entries is in
          ap (λ (k : Bytes). has_text k s.displaced) (sym (same_bytes e.key key there.1)) ∙ second_off e.is_stale (has_text e.key s.displaced) (unnoted e there.0)

      by : (b : Bool) → has_text key s.displaced ≡ b → b ≡ false
      by true is = sym is ∙ found (find (is_entry_of key) s.entries) refl (stands.displaced key is)
      by false is = refl
