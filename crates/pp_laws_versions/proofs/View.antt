-- What is kept of rows in memory, of entries on the disk, of those that are on their way there, and of chunks; and what each change of them
-- keeps of it.
use Rattle.std.proofs.Common.{◌≡◌, refl, sym, subst, subst₂, ap, ◌∙◌, ℕ, ◌<◌, Bool, true, false, List, [], ◌∷◌, map, filter}
use Rattle.pp_law.specs.Lists.{Bytes, change}
use Rattle.pp_law.specs.State.{State, Chunk, Entry, Instance, Todo, Do, Enter, Acknowledge}
use Rattle.pp_laws.proofs.Lists.{Changed, From, in_change, in_filter, in_map, in_moved, moved, other, same}
use Rattle.pp_laws.proofs.Sound.{instance_id}
use Rattle.pp_laws.specs.Numbers.{AreDistinct}
use Rattle.pp_laws.specs.Runs.{IsIn}
use Rattle.pp_target.specs.Name.{name_of}
use Rattle.pp_valid.specs.declared.version.Version.{Version}
use Rattle.pp_laws_versions.proofs.Chunks.{Fewer, Whole, whole_fewer}

-- whether nothing is on its way to the disk: so it is where responses are read
abbrev pub Like : Type 0
Like = Bool

abbrev pub Closed : Like → Type 0
Closed R = R ≡ true

-- of its key each row that stands, and each entry that does, is of its version; and it has the name of its key
pub record Agrees (e : Entry) (instances : List Instance) (entries : List Entry) : Type 0 where
  pub rows : (x : Instance) → IsIn x instances → x.is_retired ≡ false → x.key ≡ e.key → x.version ≡ e.version
  pub kept : (d : Entry) → IsIn d entries → d.is_stale ≡ false → d.key ≡ e.key → d.version ≡ e.version
  pub named : e.name ≡ name_of e.key

-- nothing becomes an entry
abbrev pub NoEnter : List Todo → Type 0
NoEnter todo = (e : Entry) → IsIn (Enter e) todo → ⊥

-- behind an entry that is entered, or noted further, none is entered
abbrev pub EntersLast : List Todo → Type 0
EntersLast [] = Unit {0}
EntersLast (Do op ∷ todo) = EntersLast todo
EntersLast (Enter e ∷ todo) = NoEnter todo
EntersLast (Acknowledge key tag n extent ∷ todo) = NoEnter todo

-- of each row that stands, of which of its key an entry is kept so far, each chunk is in memory as a whole, or nothing of it
abbrev pub AllWhole : List Instance → List Chunk → Bytes → ℕ → Type 0
AllWhole instances chunks key extent = (x : Instance) → IsIn x instances → x.is_retired ≡ false → key ≡ x.key → Whole x.version.length x.id extent chunks

pub record Facts (R : Like) (instances : List Instance) (entries : List Entry) (todo : List Todo) (chunks : List Chunk) (next_id : ℕ) : Type 0 where
  pub each : (e : Entry) → IsIn e entries → e.is_stale ≡ false → Agrees e instances entries
  -- what becomes an entry once it is published
  pub next : (e : Entry) → IsIn (Enter e) todo → Agrees e instances entries
  pub pending : (e d : Entry) → IsIn (Enter e) todo → IsIn (Enter d) todo → d.key ≡ e.key → d.version ≡ e.version
  pub still : R ≡ true → todo ≡ []
  -- entries of one key reach equally far
  pub once : (e d : Entry) → IsIn e entries → IsIn d entries → e.is_stale ≡ false → d.is_stale ≡ false → e.key ≡ d.key → e.extent ≡ d.extent
  pub free : (e d : Entry) → IsIn (Enter e) todo → IsIn d entries → d.is_stale ≡ false → d.key ≡ e.key → ⊥
  pub last : EntersLast todo
  pub whole : (e : Entry) → IsIn e entries → e.is_stale ≡ false → AllWhole instances chunks e.key e.extent
  pub enters : (e : Entry) → IsIn (Enter e) todo → AllWhole instances chunks e.key e.extent
  pub notes : (key tag : Bytes) (n extent : ℕ) → IsIn (Acknowledge key tag n extent) todo → AllWhole instances chunks key extent
  pub differ : AreDistinct (map instance_id instances)
  pub given : (x : Instance) → IsIn x instances → x.id < next_id
  pub chunks_given : (c : Chunk) → IsIn c chunks → c.instance < next_id

abbrev pub FactsOf : Like → State → Type 0
FactsOf R s = Facts R s.instances s.entries s.agenda.todo s.chunks s.next_instance

pub data Holds (R : Like) (s : State) : Type 0 where
  holds : FactsOf R s → Holds R s

pub facts_of : {R : Like} {s : State} → Holds R s → FactsOf R s
facts_of (holds facts) = facts

-- ---- no row and no entry comes

pub record WasRow (ys : List Instance) (x : Instance) : Type 0 where
  pub was : Instance
  pub there : IsIn was ys
  pub id : x.id ≡ was.id
  pub key : x.key ≡ was.key
  pub version : x.version ≡ was.version
  pub stood : x.is_retired ≡ false → was.is_retired ≡ false

pub record WasEntry (ds : List Entry) (e : Entry) : Type 0 where
  pub was : Entry
  pub there : IsIn was ds
  pub name : e.name ≡ was.name
  pub key : e.key ≡ was.key
  pub version : e.version ≡ was.version
  pub fresh : was.is_stale ≡ false

-- and reaches as far
pub record WasAsFar (ds : List Entry) (e : Entry) : Type 0 where
  pub one : WasEntry ds e
  pub extent : e.extent ≡ one.was.extent

abbrev pub FewRows : List Instance → List Instance → Type 0
FewRows ys xs = (x : Instance) → IsIn x xs → WasRow ys x

abbrev pub FewEntries : List Entry → List Entry → Type 0
FewEntries ds es = (e : Entry) → IsIn e es → e.is_stale ≡ false → WasAsFar ds e

abbrev pub EntriesAs : List Entry → List Entry → Type 0
EntriesAs ds es = (e : Entry) → IsIn e es → e.is_stale ≡ false → WasEntry ds e

pub same_row : (ys : List Instance) (x : Instance) → IsIn x ys → WasRow ys x
same_row ys x i = record { was = x; there = i; id = refl; key = refl; version = refl; stood = λ is. is }

pub same_rows : (ys : List Instance) → FewRows ys ys
same_rows ys x i = same_row ys x i

pub same_entry : (ds : List Entry) (e : Entry) → IsIn e ds → e.is_stale ≡ false → WasAsFar ds e
same_entry ds e i fresh = record { one = record { was = e; there = i; name = refl; key = refl; version = refl; fresh = fresh }; extent = refl }

pub same_entries : (ds : List Entry) → FewEntries ds ds
same_entries ds e i fresh = same_entry ds e i fresh

pub agrees_on : (e : Entry) (ys xs : List Instance) (ds es : List Entry) → FewRows ys xs → EntriesAs ds es → Agrees e ys ds → Agrees e xs es
agrees_on e ys xs ds es rows entries h = record {
  rows = λ x i stands is. (let w : WasRow ys x = rows x i in w.version ∙ h.rows w.was w.there (w.stood stands) (sym w.key ∙ is));
  kept = λ d i fresh is. (let w : WasEntry ds d = entries d i fresh in w.version ∙ h.kept w.was w.there w.fresh (sym w.key ∙ is));
  named = h.named;
}

-- the entry is what another was
pub agrees_as : (e d : Entry) (xs : List Instance) (es : List Entry) → e.name ≡ d.name → e.key ≡ d.key → e.version ≡ d.version → Agrees d xs es → Agrees e xs es
agrees_as e d xs es name key version h = record {
  rows = λ x i stands is. h.rows x i stands (is ∙ key) ∙ sym version;
  kept = λ f i fresh is. h.kept f i fresh (is ∙ key) ∙ sym version;
  named = name ∙ h.named ∙ ap name_of (sym key);
}

as_were : (ds es : List Entry) → FewEntries ds es → EntriesAs ds es
as_were ds es entries e i fresh = (entries e i fresh).one

whole_on : (ys xs : List Instance) (bs cs : List Chunk) (key was : Bytes) (extent far : ℕ) → FewRows ys xs → Fewer bs cs → key ≡ was → extent ≡ far → AllWhole ys bs was far → AllWhole xs cs key extent
whole_on ys xs bs cs key was extent far rows fewer named reach h x i stands is =
    let w : WasRow ys x = rows x i in
    subst (λ (n : ℕ). Whole n x.id extent cs) (sym (ap (λ (v : Version). v.length) w.version))
    (subst₂ (λ (id e : ℕ). Whole w.was.version.length id e cs) (sym w.id) (sym reach) (whole_fewer w.was.version.length w.was.id far bs cs fewer (h w.was w.there (w.stood stands) (sym named ∙ is ∙ w.key))))

-- what was to be done is still to be
pub fewer : {R : Like} (ys xs : List Instance) (ds es : List Entry) (todo : List Todo) (bs cs : List Chunk) (next_id : ℕ) → FewRows ys xs → FewEntries ds es → AreDistinct (map instance_id xs) → Fewer bs cs → ((c : Chunk) → IsIn c cs → IsIn c bs) → Facts R ys ds todo bs next_id → Facts R xs es todo cs next_id
fewer ys xs ds es todo bs cs next_id rows entries differ chunks within h = record {
  each = λ e i fresh. (let w : WasEntry ds e = (entries e i fresh).one in agrees_as e w.was xs es w.name w.key w.version (agrees_on w.was ys xs ds es rows (as_were ds es entries) (h.each w.was w.there w.fresh)));
  next = λ e i. agrees_on e ys xs ds es rows (as_were ds es entries) (h.next e i);
  pending = h.pending;
  still = h.still;
  once = λ e d i j fe fd is. (let v : WasAsFar ds e = entries e i fe in let w : WasAsFar ds d = entries d j fd in v.extent ∙ h.once v.one.was w.one.was v.one.there w.one.there v.one.fresh w.one.fresh (sym v.one.key ∙ is ∙ w.one.key) ∙ sym w.extent);
  free = λ e d i j fd is. (let w : WasEntry ds d = (entries d j fd).one in h.free e w.was i w.there w.fresh (sym w.key ∙ is));
  last = h.last;
  whole = λ e i fresh. (let w : WasAsFar ds e = entries e i fresh in whole_on ys xs bs cs e.key w.one.was.key e.extent w.one.was.extent rows chunks w.one.key w.extent (h.whole w.one.was w.one.there w.one.fresh));
  enters = λ e i. whole_on ys xs bs cs e.key e.key e.extent e.extent rows chunks refl refl (h.enters e i);
  notes = λ key tag n extent i. whole_on ys xs bs cs key key extent extent rows chunks refl refl (h.notes key tag n extent i);
  differ = differ;
  given = λ x i. (let w : WasRow ys x = rows x i in subst (λ (n : ℕ). n < next_id) (sym w.id) (h.given w.was w.there));
  chunks_given = λ c i. h.chunks_given c (within c i);
}

-- of each row that stands, chunks are what they were below each extent
pub with_chunks : {R : Like} (xs : List Instance) (es : List Entry) (todo : List Todo) (bs cs : List Chunk) (next_id : ℕ) → ((x : Instance) → IsIn x xs × (x.is_retired ≡ false) → (extent : ℕ) → Whole x.version.length x.id extent bs → Whole x.version.length x.id extent cs)
    → ((c : Chunk) → IsIn c cs → c.instance < next_id) → Facts R xs es todo bs next_id → Facts R xs es todo cs next_id
with_chunks xs es todo bs cs next_id on given h = record {
  each = h.each;
  next = h.next;
  pending = h.pending;
  still = h.still;
  once = h.once;
  free = h.free;
  last = h.last;
  whole = λ e i fresh x j stands is. on x (j, stands) e.extent (h.whole e i fresh x j stands is);
  enters = λ e i x j stands is. on x (j, stands) e.extent (h.enters e i x j stands is);
  notes = λ key tag n extent i x j stands is. on x (j, stands) extent (h.notes key tag n extent i x j stands is);
  differ = h.differ;
  given = h.given;
  chunks_given = given;
}

-- where nothing is on its way to the disk, those of each entry of a row
pub with_joined : {R : Like} (xs : List Instance) (es : List Entry) (todo : List Todo) (bs cs : List Chunk) (next_id : ℕ) → Closed R
    → ((x : Instance) → IsIn x xs → x.is_retired ≡ false → (e : Entry) → IsIn e es → e.is_stale ≡ false → e.key ≡ x.key → Whole x.version.length x.id e.extent bs → Whole x.version.length x.id e.extent cs)
    → ((c : Chunk) → IsIn c cs → c.instance < next_id) → Facts R xs es todo bs next_id → Facts R xs es todo cs next_id
with_joined xs es todo bs cs next_id closed on given h = record {
  each = h.each;
  next = h.next;
  pending = h.pending;
  still = h.still;
  once = h.once;
  free = h.free;
  last = h.last;
  whole = λ e i fresh x j stands is. on x j stands e i fresh is (h.whole e i fresh x j stands is);
  enters = λ e i. absurd (subst (λ (ts : List Todo). IsIn (Enter e) ts) (h.still closed) i);
  notes = λ key tag n extent i. absurd (subst (λ (ts : List Todo). IsIn (Acknowledge key tag n extent) ts) (h.still closed) i);
  differ = h.differ;
  given = h.given;
  chunks_given = given;
}

-- ---- fewer of each

pub few_filtered : (p : Instance → Bool) (xs : List Instance) → FewRows xs (filter p xs)
few_filtered p xs x i = same_row xs x (in_filter p x xs i).0

pub few_moved : (p : Instance → Bool) (xs : List Instance) → FewRows xs (moved p xs)
few_moved p xs x i = same_row xs x (in_moved p x xs i)

pub few_changed : (p : Instance → Bool) (f : Instance → Instance) (xs : List Instance) → ((x : Instance) → (f x).id ≡ x.id) → ((x : Instance) → (f x).key ≡ x.key) → ((x : Instance) → (f x).version ≡ x.version) → ((x : Instance) → (f x).is_retired ≡ false → x.is_retired ≡ false) → FewRows xs (change p f xs)
few_changed p f xs id key version stood x i = by (in_change p f x xs i)
  where
    by : Changed p f xs x → WasRow xs x
    by (same j isnt) = same_row xs x j
    by (other y j hit eq) = record {
      was = y;
      there = j;
      id = ap (λ (z : Instance). z.id) eq ∙ id y;
      key = ap (λ (z : Instance). z.key) eq ∙ key y;
      version = ap (λ (z : Instance). z.version) eq ∙ version y;
      stood = λ stands. stood y (ap (λ (z : Instance). z.is_retired) (sym eq) ∙ stands);
    }

pub few_mapped : (f : Instance → Instance) (xs : List Instance) → ((x : Instance) → (f x).id ≡ x.id) → ((x : Instance) → (f x).key ≡ x.key) → ((x : Instance) → (f x).version ≡ x.version) → ((x : Instance) → (f x).is_retired ≡ false → x.is_retired ≡ false) → FewRows xs (map f xs)
few_mapped f xs id key version stood x i = by (in_map f x xs i)
  where
    by : From f xs x → WasRow xs x
    by r = record {
      was = r.was;
      there = r.there;
      id = ap (λ (z : Instance). z.id) r.is ∙ id r.was;
      key = ap (λ (z : Instance). z.key) r.is ∙ key r.was;
      version = ap (λ (z : Instance). z.version) r.is ∙ version r.was;
      stood = λ stands. stood r.was (ap (λ (z : Instance). z.is_retired) (sym r.is) ∙ stands);
    }

pub less_filtered : (p : Entry → Bool) (es : List Entry) → FewEntries es (filter p es)
less_filtered p es e i fresh = same_entry es e (in_filter p e es i).0 fresh

pub less_changed : (p : Entry → Bool) (f : Entry → Entry) (es : List Entry) → ((e : Entry) → (f e).name ≡ e.name) → ((e : Entry) → (f e).key ≡ e.key) → ((e : Entry) → (f e).version ≡ e.version) → ((e : Entry) → (f e).extent ≡ e.extent) → ((e : Entry) → (f e).is_stale ≡ false → e.is_stale ≡ false) → FewEntries es (change p f es)
less_changed p f es name key version extent freshly e i fresh = by (in_change p f e es i)
  where
    by : Changed p f es e → WasAsFar es e
    by (same j isnt) = same_entry es e j fresh
    by (other d j hit eq) = record {
      one = record {
        was = d;
        there = j;
        name = ap (λ (z : Entry). z.name) eq ∙ name d;
        key = ap (λ (z : Entry). z.key) eq ∙ key d;
        version = ap (λ (z : Entry). z.version) eq ∙ version d;
        fresh = freshly d (ap (λ (z : Entry). z.is_stale) (sym eq) ∙ fresh);
      };
      extent = ap (λ (z : Entry). z.extent) eq ∙ extent d;
    }
