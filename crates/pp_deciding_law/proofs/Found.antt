-- What is looked for changes what is in memory alone; so where nothing is found, all stands as before.
use Rattle.std.proofs.Common.{◌≡◌, refl, sym, subst, ap, ap₂, ◌∙◌, ℕ, Bool, true, false, bytes_eq, List, [], ◌∷◌, Option, Some, None}
use Rattle.std.specs.List.{list_any}
use Rattle.pp_cache.specs.Memory.{Memory, with_row}
use Rattle.pp_cache_law.specs.Pairs.{AreBoth}
use Rattle.pp_due.specs.Due.{due_at}
use Rattle.pp_due.specs.Entering.{is_due_at, key_at}
use Rattle.pp_due.specs.OnDisk.{IsBrought, kept_alone, with_kept}
use Rattle.pp_flow_law.specs.Tables.{none_leaves}
use Rattle.pp_law.specs.Lists.{Bytes}
use Rattle.pp_law.specs.State.{State, Entry}
use Rattle.pp_law.specs.Table.{row_on_disk}
use Rattle.pp_objects.specs.declared.id.ObjectId.{ObjectId}
use Rattle.pp_seats.specs.declared.due.Due.{Due as SeatDue}
use Rattle.pp_state.specs.declared.state.State.{State as Turn}
use Rattle.pp_store.specs.Kept.{Kept, KeptMap, kept_of}
use Rattle.pp_target.specs.Name.{name_of}
use Rattle.pp_turns_law.proofs.First.{first_dues}
use Rattle.pp_turns_law.specs.Firsts.{AreAwake, FirstDueInMemory, HasRowInMemory, IsAsleep, IsDueInMemory, IsFirst}
use Rattle.pp_turns_law.specs.Rows.{AllAreKept, IsKeptAs}
use Rattle.pp_deciding_law.proofs.Disk.{shows_disk}
use Rattle.pp_deciding_law.specs.Stands.{NoneIsTheLaws}

-- ---- all but what is in memory stays

abbrev pub IsButForMemory : Turn → Turn → Type 0
IsButForMemory p q = record q { cache = p.cache } ≡ p

row_keeps : (shelf : KeptMap) (o : Option Bytes) (p q : Turn) → HasRowInMemory shelf o p q → IsButForMemory p q
row_keeps shelf None p q same = ap (λ (r : Turn). record r { cache = p.cache }) same
row_keeps shelf (Some key) p q comes = comes.rest

due_keeps : (shelf : KeptMap) (i : ℕ) (p q : Turn) (due : Option SeatDue) → IsDueInMemory shelf i p q due → IsButForMemory p q
due_keeps shelf i p q due its = by (is_due_at shelf i p) its
  where
    by : (b : Bool) → (elim b as (λ c. Type 0) [ true ↦ HasRowInMemory shelf (key_at i p) p q × (due ≡ due_at i q) | false ↦ (q ≡ p) × (due ≡ None) ]) → IsButForMemory p q
    by true here = row_keeps shelf (key_at i p) p q here.0
    by false here = ap (λ (r : Turn). record r { cache = p.cache }) here.0

both_keep : (p q r : Turn) → IsButForMemory p q → IsButForMemory q r → IsButForMemory p r
both_keep p q r one two = ap (λ (t : Turn). record t { cache = p.cache }) two ∙ one

pub first_keeps : (shelf : KeptMap) (places : List ℕ) (p q : Turn) (found : Option (ℕ × SeatDue)) → FirstDueInMemory shelf places p q found → IsButForMemory p q
unfolding FirstDueInMemory
first_keeps shelf [] p q found first = ap (λ (r : Turn). record r { cache = p.cache }) first.0
first_keeps shelf (i ∷ places) p q found (now, due, its, rest) = by (λ more. first_keeps shelf places now q found more) due its rest
  where
    by : (FirstDueInMemory shelf places now q found → IsButForMemory now q) → (o : Option SeatDue) → IsDueInMemory shelf i p now o → (elim o as (λ c. Type 0) [ Some d ↦ (q ≡ now) × (found ≡ Some (i, d)) | None ↦ FirstDueInMemory shelf places now q found ]) → IsButForMemory p q
    by later (Some d) one here = ap (λ (r : Turn). record r { cache = p.cache }) here.0 ∙ due_keeps shelf i p now (Some d) one
    by later None one more = both_keep p now q (due_keeps shelf i p now None one) (later more)

-- ---- what is found is due of the client at its place

abbrev pub found_at : ℕ → SeatDue → Option (ℕ × SeatDue)
found_at i d = Some (i, d)

pub same_place : (i k : ℕ) (d e : SeatDue) → found_at i d ≡ found_at k e → (i ≡ k) × (d ≡ e)
same_place i k d e same = let pair : ◌≡◌ {A = ℕ × SeatDue} (i, d) (k, e) = cc same in (ap (λ (x : ℕ × SeatDue). x.0) pair, ap (λ (x : ℕ × SeatDue). x.1) pair)

due_here : (shelf : KeptMap) (j : ℕ) (p q : Turn) (e : SeatDue) → IsDueInMemory shelf j p q (Some e) → due_at j q ≡ Some e
due_here shelf j p q e its = by (is_due_at shelf j p) its
  where
    by : (b : Bool) → (elim b as (λ c. Type 0) [ true ↦ HasRowInMemory shelf (key_at j p) p q × (Some e ≡ due_at j q) | false ↦ (q ≡ p) × (Some e ≡ None) ]) → due_at j q ≡ Some e
    by true here = sym here.1
    by false here = absurd (cc here.1)

pub found_due : (shelf : KeptMap) (places : List ℕ) (p q : Turn) (i : ℕ) (d : SeatDue) → FirstDueInMemory shelf places p q (found_at i d) → due_at i q ≡ Some d
unfolding FirstDueInMemory
found_due shelf [] p q i d first = absurd (cc first.1)
found_due shelf (j ∷ places) p q i d (now, due, its, rest) = by (λ more. found_due shelf places now q i d more) due its rest
  where
    by : (FirstDueInMemory shelf places now q (found_at i d) → due_at i q ≡ Some d) → (o : Option SeatDue) → IsDueInMemory shelf j p now o
        → (elim o as (λ c. Type 0) [ Some e ↦ (q ≡ now) × (found_at i d ≡ found_at j e) | None ↦ FirstDueInMemory shelf places now q (found_at i d) ]) → due_at i q ≡ Some d
    by later (Some e) one here =
        let same : (i ≡ j) × (d ≡ e) = same_place i j d e here.1 in
        ap₂ (λ (k : ℕ) (r : Turn). due_at k r) same.0 here.0 ∙ due_here shelf j p now e one ∙ ap (λ (x : SeatDue). Some x) (sym same.1)
    by later None one more = later more

-- who is not looked at is asleep still
pub awake_on : (p q : Turn) → IsButForMemory p q → AreAwake p → AreAwake q
awake_on p q same awake =
    let a : AreAwake (record q { cache = p.cache }) = subst (λ (r : Turn). AreAwake r) (sym same) awake in
    record {
      order = a.order;
      others = λ i seat here isnt. let one : IsAsleep (record q { cache = p.cache }) seat = a.others i seat here isnt in record { silent = one.silent; ticked = one.ticked };
    }

-- ---- which entries are outdated stays, too

entered_keeps : (id : ObjectId) (key : List ℕ) (kept : Kept) (m : Memory) → (with_kept id key kept m).outdated ≡ m.outdated
unfolding with_row
entered_keeps id key kept m = refl

brought_keeps : (key : List ℕ) (o : Option Kept) (old new : Memory) → IsBrought key o old new → new.outdated ≡ old.outdated
brought_keeps key None old new same = ap (λ (m : Memory). m.outdated) same
brought_keeps key (Some kept) old new enters = ap (λ (m : Memory). m.outdated) enters.entered ∙ entered_keeps enters.id key kept old

row_notes_none : (shelf : KeptMap) (o : Option Bytes) (p q : Turn) → HasRowInMemory shelf o p q → q.cache.outdated ≡ p.cache.outdated
row_notes_none shelf None p q same = ap (λ (r : Turn). r.cache.outdated) same
row_notes_none shelf (Some key) p q comes = brought_keeps key (kept_alone key shelf p.cache) p.cache q.cache comes.cache

due_notes_none : (shelf : KeptMap) (i : ℕ) (p q : Turn) (due : Option SeatDue) → IsDueInMemory shelf i p q due → q.cache.outdated ≡ p.cache.outdated
due_notes_none shelf i p q due its = by (is_due_at shelf i p) its
  where
    by : (b : Bool) → (elim b as (λ c. Type 0) [ true ↦ HasRowInMemory shelf (key_at i p) p q × (due ≡ due_at i q) | false ↦ (q ≡ p) × (due ≡ None) ]) → q.cache.outdated ≡ p.cache.outdated
    by true here = row_notes_none shelf (key_at i p) p q here.0
    by false here = ap (λ (r : Turn). r.cache.outdated) here.0

pub first_notes_none : (shelf : KeptMap) (places : List ℕ) (p q : Turn) (found : Option (ℕ × SeatDue)) → FirstDueInMemory shelf places p q found → q.cache.outdated ≡ p.cache.outdated
unfolding FirstDueInMemory
first_notes_none shelf [] p q found first = ap (λ (r : Turn). r.cache.outdated) first.0
first_notes_none shelf (i ∷ places) p q found (now, due, its, rest) = by (λ more. first_notes_none shelf places now q found more) due its rest
  where
    by : (FirstDueInMemory shelf places now q found → q.cache.outdated ≡ now.cache.outdated) → (o : Option SeatDue) → IsDueInMemory shelf i p now o → (elim o as (λ c. Type 0) [ Some d ↦ (q ≡ now) × (found ≡ Some (i, d)) | None ↦ FirstDueInMemory shelf places now q found ]) → q.cache.outdated ≡ p.cache.outdated
    by later (Some d) one here = ap (λ (r : Turn). r.cache.outdated) here.0 ∙ due_notes_none shelf i p now (Some d) one
    by later None one more = later more ∙ due_notes_none shelf i p now None one

-- what is kept, and may come in, rests on these
pub kept_on : (shelf : KeptMap) (m k : Memory) (s t : State) → k.outdated ≡ m.outdated → ((key : Bytes) → row_on_disk t key ≡ row_on_disk s key) → AllAreKept shelf m s → AllAreKept shelf k t
kept_on shelf m k s t noted disk kept key =
    subst (λ (o : Option Entry). AreBoth IsKeptAs (elim (list_any (bytes_eq (name_of key)) k.outdated) as (λ c. Option Kept) [ true ↦ None | false ↦ kept_of key shelf ]) o) (sym (disk key))
    (subst (λ (names : List Bytes). AreBoth IsKeptAs (elim (list_any (bytes_eq (name_of key)) names) as (λ c. Option Kept) [ true ↦ None | false ↦ kept_of key shelf ]) (row_on_disk s key)) (sym noted) (kept key))

-- ---- nothing is found

pub none_next : NoneIsTheLaws
none_next number peers shelf p q s stands sound first =
    let its : IsFirst none_leaves peers shelf p q s None = first_dues number none_leaves peers shelf p q s None (shows_disk number peers shelf p s stands sound) stands.kept stands.awake first in
    record {
      behind = record {
        number = its.number;
        stands = record {
          deciding = stands.deciding;
          turn = its.shows.turn;
          disk = kept_on shelf p.cache q.cache s s (first_notes_none shelf p.awake.items p q None first) (λ key. refl) stands.disk;
          ready = its.shows.ready;
          kept = stands.kept;
          awake = awake_on p q (first_keeps shelf p.awake.items p q None first) stands.awake;
        };
      };
      none = sym its.due;
    }
