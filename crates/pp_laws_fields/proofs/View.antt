-- What is asked of each row, in memory, on the disk, or on its way there; and what each change of rows keeps of it.
use Rattle.pp_laws.proofs.Sound.{instance_id}
use Rattle.std.proofs.Common.{◌<◌, ◌+◌, arith, ◌≡◌, ◌⊎◌, ℕ, Bool, true, List, [], ◌∷◌, ◌++◌, map, filter, drop, Some, inl, inr, sym, subst, ap, ◌∙◌, refl, false}
use Rattle.pp_fresh.specs.declared.aging.Times.{Times}
use Rattle.pp_text.specs.Fields.{Field}
use Rattle.pp_valid.specs.declared.version.Version.{Version}
use Rattle.pp_entry.specs.Entries.{Row, row_at}
use Rattle.pp_objects.specs.Kept.{has_room, kept_of, refreshed_of}
use Rattle.pp_valid.specs.Versions.{version_of}
use Rattle.pp_law.specs.Lists.{Bytes, change}
use Rattle.pp_law.specs.State.{State, Entry, Instance, Todo, Enter}
use Rattle.pp_laws.specs.Numbers.{AreDistinct}
use Rattle.pp_laws.specs.Runs.{IsIn}
use Rattle.pp_laws.proofs.Lists.{Changed, in_change, in_filter, in_map, in_moved, in_push, moved, other, same, From, changed_at, differ_filter, differ_map, differ_moved, differ_push}

-- of a version, the fields that are kept of it, and its times
abbrev pub Like : Type 1
Like = Version → List Field → Times → Type 0

abbrev pub OfRow : Like → Instance → Type 0
OfRow R x = R x.version x.fields x.times

abbrev pub OfEntry : Like → Entry → Type 0
OfEntry R e = R e.version e.fields e.times

-- each has a number of its own, below the next that is given
pub record AreOwn (instances : List Instance) (next : ℕ) : Type 0 where
  pub differ : AreDistinct (map instance_id instances)
  pub given : (x : Instance) → IsIn x instances → x.id < next

pub record Facts (R : Like) (instances : List Instance) (next_id : ℕ) (entries : List Entry) (todo : List Todo) : Type 0 where
  pub own : AreOwn instances next_id
  pub rows : (x : Instance) → IsIn x instances → OfRow R x
  pub kept : (e : Entry) → IsIn e entries → OfEntry R e
  -- what becomes an entry once it is published
  pub next : (e : Entry) → IsIn (Enter e) todo → OfEntry R e

abbrev pub FactsOf : Like → State → Type 0
FactsOf R s = Facts R s.instances s.next_instance s.entries s.agenda.todo

pub data Holds (R : Like) (s : State) : Type 0 where
  holds : FactsOf R s → Holds R s

pub facts_of : {R : Like} {s : State} → Holds R s → FactsOf R s
facts_of (holds facts) = facts

-- ---- rows

pub with_rows : {R : Like} (instances : List Instance) (next : ℕ) {xs : List Instance} {n : ℕ} {es : List Entry} {todo : List Todo} → AreOwn instances next → ((x : Instance) → IsIn x instances → OfRow R x) → Facts R xs n es todo → Facts R instances next es todo
with_rows instances next own rows h = record { own = own; rows = rows; kept = h.kept; next = h.next }

pub own_mapped : (f : Instance → Instance) (xs : List Instance) (next : ℕ) → ((x : Instance) → (f x).id ≡ x.id) → AreOwn xs next → AreOwn (map f xs) next
own_mapped f xs next same_id h = record { differ = differ_map instance_id f same_id xs h.differ; given = λ x i. by x (in_map f x xs i) }
  where
    by : (x : Instance) → From f xs x → x.id < next
    by x r = subst (λ n. n < next) (sym (ap instance_id r.is ∙ same_id r.was)) (h.given r.was r.there)

pub own_changed : (p : Instance → Bool) (f : Instance → Instance) (xs : List Instance) (next : ℕ) → ((x : Instance) → (f x).id ≡ x.id) → AreOwn xs next → AreOwn (change p f xs) next
own_changed p f xs next same_id h = own_mapped (changed_at p f) xs next (λ x. by x (p x)) h
  where
    by : (x : Instance) (t : Bool) → (elim t as (λ c. Instance) [ true ↦ f x | false ↦ x ]).id ≡ x.id
    by x true = same_id x
    by x false = refl

pub own_filtered : (p : Instance → Bool) (xs : List Instance) (next : ℕ) → AreOwn xs next → AreOwn (filter p xs) next
own_filtered p xs next h = record { differ = differ_filter instance_id p xs h.differ; given = λ x i. h.given x (in_filter p x xs i).0 }

pub own_moved : (p : Instance → Bool) (xs : List Instance) (next : ℕ) → AreOwn xs next → AreOwn (moved p xs) next
own_moved p xs next h = record { differ = differ_moved instance_id p xs h.differ; given = λ x i. h.given x (in_moved p x xs i) }

pub own_pushed : (y : Instance) (xs : List Instance) (next : ℕ) → y.id ≡ next → AreOwn xs next → AreOwn (xs ++ y ∷ []) (next + 1)
own_pushed y xs next is h = record { differ = differ_push instance_id xs y h.differ (λ x i same_id. apart x i (same_id ∙ is)); given = λ x i. by x (in_push x xs y i) }
  where
    apart : (x : Instance) → IsIn x xs → x.id ≡ next → ⊥
    apart x i eq = let lt : x.id < next = h.given x i in omega arith

    by : (x : Instance) → IsIn x xs ⊎ (x ≡ y) → x.id < next + 1
    by x (inl i) = let lt : x.id < next = h.given x i in omega arith
    by x (inr eq) = let its : x.id ≡ next = ap instance_id eq ∙ is in omega arith

pub rows_mapped : (R : Like) (f : Instance → Instance) (xs : List Instance) → ((x : Instance) → IsIn x xs → OfRow R x → OfRow R (f x)) → ((x : Instance) → IsIn x xs → OfRow R x) → (x : Instance) → IsIn x (map f xs) → OfRow R x
rows_mapped R f xs keeps rows x i = let r = in_map f x xs i in subst (λ (y : Instance). OfRow R y) (sym r.is) (keeps r.was r.there (rows r.was r.there))

pub rows_changed : (R : Like) (p : Instance → Bool) (f : Instance → Instance) (xs : List Instance) → ((x : Instance) → IsIn x xs → p x ≡ true → OfRow R x → OfRow R (f x)) → ((x : Instance) → IsIn x xs → OfRow R x) → (x : Instance) → IsIn x (change p f xs) → OfRow R x
rows_changed R p f xs keeps rows x i = by (in_change p f x xs i)
  where
    by : Changed p f xs x → OfRow R x
    by (same j isnt) = rows x j
    by (other y j hit eq) = subst (λ (z : Instance). OfRow R z) (sym eq) (keeps y j hit (rows y j))

pub rows_filtered : (R : Like) (p : Instance → Bool) (xs : List Instance) → ((x : Instance) → IsIn x xs → OfRow R x) → (x : Instance) → IsIn x (filter p xs) → OfRow R x
rows_filtered R p xs rows x i = rows x (in_filter p x xs i).0

pub rows_moved : (R : Like) (p : Instance → Bool) (xs : List Instance) → ((x : Instance) → IsIn x xs → OfRow R x) → (x : Instance) → IsIn x (moved p xs) → OfRow R x
rows_moved R p xs rows x i = rows x (in_moved p x xs i)

pub row_pushed : (R : Like) (y : Instance) (xs : List Instance) → OfRow R y → ((x : Instance) → IsIn x xs → OfRow R x) → (x : Instance) → IsIn x (xs ++ y ∷ []) → OfRow R x
row_pushed R y xs new rows x i = by (in_push x xs y i)
  where
    by : IsIn x xs ⊎ (x ≡ y) → OfRow R x
    by (inl j) = rows x j
    by (inr eq) = subst (λ (z : Instance). OfRow R z) (sym eq) new

-- ---- entries

pub entries_changed : (R : Like) (p : Entry → Bool) (f : Entry → Entry) (xs : List Entry) → ((x : Entry) → OfEntry R x → OfEntry R (f x)) → ((x : Entry) → IsIn x xs → OfEntry R x) → (x : Entry) → IsIn x (change p f xs) → OfEntry R x
entries_changed R p f xs keeps rows x i = by (in_change p f x xs i)
  where
    by : Changed p f xs x → OfEntry R x
    by (same j isnt) = rows x j
    by (other y j hit eq) = subst (λ (z : Entry). OfEntry R z) (sym eq) (keeps y (rows y j))

pub entries_filtered : (R : Like) (p : Entry → Bool) (xs : List Entry) → ((x : Entry) → IsIn x xs → OfEntry R x) → (x : Entry) → IsIn x (filter p xs) → OfEntry R x
entries_filtered R p xs rows x i = rows x (in_filter p x xs i).0

pub entry_pushed : (R : Like) (y : Entry) (xs : List Entry) → OfEntry R y → ((x : Entry) → IsIn x xs → OfEntry R x) → (x : Entry) → IsIn x (xs ++ y ∷ []) → OfEntry R x
entry_pushed R y xs new rows x i = by (in_push x xs y i)
  where
    by : IsIn x xs ⊎ (x ≡ y) → OfEntry R x
    by (inl j) = rows x j
    by (inr eq) = subst (λ (z : Entry). OfEntry R z) (sym eq) new

pub dropped_in : (t : Todo) (todo : List Todo) → IsIn t (drop 1 todo) → IsIn t todo
dropped_in t [] i = absurd i
dropped_in t (d ∷ todo) i = inr i

-- ---- what origins and folders bring

-- it holds of what is kept of each response that has a version, and of each entry that is read; and stays so behind a later response
pub record Closed (R : Like) : Type 0 where
  pub made : (fields : List Field) (status : ℕ) (only : Bool) (v : Version) (times : Times) → version_of fields status only ≡ Some v → R v (kept_of fields times) times
  pub renewed : (v : Version) (kept fields : List Field) (before times : Times) → has_room kept fields times ≡ true → R v kept before → R v (refreshed_of kept fields times) times
  pub read : (block : Bytes) (row : Row) → row_at block ≡ Some row → R row.version (kept_of row.fields row.times) row.times
