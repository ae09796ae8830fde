-- What the tests of the law tell of an operation that begins.
use Rattle.std.proofs.Common.{◌≡◌, refl, ℕ, ◌-◌, ◌<◌, ◌≤◌, nat_lt, nat_le, Bool, true, false, not, ◌==◌, ◌&&◌, ◌||◌, List, [], ◌∷◌, length, replicate, bytes_eq, length-append, Option, Some, None, option_and_then, inl, inr, sym, subst, ap, ◌∙◌, arith}
use Rattle.std.specs.List.{list_any}
use Rattle.std.proofs.Math.ListN.{length-replicate}
use Rattle.std.proofs.lemmas.Bool.Decides.{nat_tests}
use Rattle.pp_entry.specs.Entries.{Row, row_at, is_sized}
use Rattle.pp_entry.specs.Texts.{fits, padded}
use Rattle.pp_text.specs.Bytes.{is_empty}
use Rattle.pp_world.specs.declared.op.DiskOp.{DiskOp}
use Rattle.pp_world.specs.declared.op.DiskOp.TheVariants.{Draft, SyncDraft, Publish, Write, Sync, Remove}
use Rattle.pp_target.specs.Name.{name_of}
use Rattle.pp_law.specs.Lists.{Bytes, first_some, has_text, is_some_with}
use Rattle.pp_law.specs.State.{State, Agenda, Entry, Instance, Todo, Do, Enter, Acknowledge}
use Rattle.pp_law.specs.Store.{is_same_op, is_named, is_closed, has_free_name, block_of, has_first_run, is_read_back, is_worth_a_draft, may_draft, drafting, draft_of, may_seal, is_full_run, run_from, sealing, seal_with, seal_of, is_first_todo, going_on, plan_of, agenda_in_turn}
use Rattle.pp_law.specs.Table.{is_same_version, kept_row}
use Rattle.pp_laws.specs.Runs.{IsIn}
use Rattle.pp_laws.proofs.Tests.{below, first_holds, same_bytes, same_number, same_version, second_holds}
use Rattle.pp_laws_crash.proofs.Views.{name_same}

write_same : (a b : Bytes) (i j : ℕ) (p q : Bytes) → a ≡ b → i ≡ j → p ≡ q → Write a i p ≡ Write b j q
write_same a b i j p q one two three = ap (λ (n : Bytes). Write n i p) one ∙ ap (λ (k : ℕ). Write b k p) two ∙ ap (λ (x : Bytes). Write b j x) three

pub same_op : (x y : DiskOp) → is_same_op x y ≡ true → x ≡ y
same_op (Draft a) (Draft b) is = ap (λ (n : Bytes). Draft n) (same_bytes a b is)
same_op (Draft a) SyncDraft is = absurd (cc is)
same_op (Draft a) (Publish b) is = absurd (cc is)
same_op (Draft a) (Write b j q) is = absurd (cc is)
same_op (Draft a) (Sync b) is = absurd (cc is)
same_op (Draft a) (Remove b) is = absurd (cc is)
same_op SyncDraft (Draft b) is = absurd (cc is)
same_op SyncDraft SyncDraft is = refl
same_op SyncDraft (Publish b) is = absurd (cc is)
same_op SyncDraft (Write b j q) is = absurd (cc is)
same_op SyncDraft (Sync b) is = absurd (cc is)
same_op SyncDraft (Remove b) is = absurd (cc is)
same_op (Publish a) (Draft b) is = absurd (cc is)
same_op (Publish a) SyncDraft is = absurd (cc is)
same_op (Publish a) (Publish b) is = ap (λ (n : Bytes). Publish n) (same_bytes a b is)
same_op (Publish a) (Write b j q) is = absurd (cc is)
same_op (Publish a) (Sync b) is = absurd (cc is)
same_op (Publish a) (Remove b) is = absurd (cc is)
same_op (Write a i p) (Draft b) is = absurd (cc is)
same_op (Write a i p) SyncDraft is = absurd (cc is)
same_op (Write a i p) (Publish b) is = absurd (cc is)
same_op (Write a i p) (Write b j q) is = write_same a b i j p q (same_bytes a b (first_holds (bytes_eq a b) _ (first_holds (bytes_eq a b && (i == j)) _ is))) (same_number i j (second_holds (bytes_eq a b) _ (first_holds (bytes_eq a b && (i == j)) _ is))) (same_bytes p q (second_holds (bytes_eq a b && (i == j)) _ is))
same_op (Write a i p) (Sync b) is = absurd (cc is)
same_op (Write a i p) (Remove b) is = absurd (cc is)
same_op (Sync a) (Draft b) is = absurd (cc is)
same_op (Sync a) SyncDraft is = absurd (cc is)
same_op (Sync a) (Publish b) is = absurd (cc is)
same_op (Sync a) (Write b j q) is = absurd (cc is)
same_op (Sync a) (Sync b) is = ap (λ (n : Bytes). Sync n) (same_bytes a b is)
same_op (Sync a) (Remove b) is = absurd (cc is)
same_op (Remove a) (Draft b) is = absurd (cc is)
same_op (Remove a) SyncDraft is = absurd (cc is)
same_op (Remove a) (Publish b) is = absurd (cc is)
same_op (Remove a) (Write b j q) is = absurd (cc is)
same_op (Remove a) (Sync b) is = absurd (cc is)
same_op (Remove a) (Remove b) is = ap (λ (n : Bytes). Remove n) (same_bytes a b is)

pub not_true : (b : Bool) → not b ≡ true → b ≡ false
not_true true is = absurd (cc is)
not_true false is = refl

-- ---- the first operation of what is left

pub record IsFirst (op : DiskOp) (a : Agenda) : Type 0 where
  pub rest : List Todo
  pub todo : a.todo ≡ Do op ∷ rest

first_by : (op : DiskOp) (todo : List Todo) → is_first_todo op todo ≡ true → (rest : List Todo) × (todo ≡ Do op ∷ rest)
first_by op [] is = absurd (cc is)
first_by op (Do next ∷ todo) is = (todo, ap (λ (x : DiskOp). Do x ∷ todo) (same_op next op is))
first_by op (Enter e ∷ todo) is = absurd (cc is)
first_by op (Acknowledge key tag n extent ∷ todo) is = absurd (cc is)

pub first_is : (op : DiskOp) (a : Agenda) → is_first_todo op a.todo ≡ true → IsFirst op a
first_is op a is = let f = first_by op a.todo is in record { rest = f.0; todo = f.1 }

going_by : (op : DiskOp) (a b : Agenda) (is : Bool) → is_first_todo op a.todo ≡ is → (elim is as (λ c. Option Agenda) [ true ↦ Some a | false ↦ None ]) ≡ Some b → (a ≡ b) × IsFirst op a
going_by op a b true is eq = (cc eq, first_is op a is)
going_by op a b false is eq = absurd (cc eq)

pub going_is : (op : DiskOp) (a b : Agenda) → going_on op a ≡ Some b → (a ≡ b) × IsFirst op a
going_is op a b eq = going_by op a b (is_first_todo op a.todo) refl eq

then_some : {A B : Type 0} (f : A → Option B) (o : Option A) (b : B) → option_and_then f o ≡ Some b → (a : A) × (o ≡ Some a) × (f a ≡ Some b)
then_some f None b is = absurd (cc is)
then_some f (Some a) b is = (a, refl, is)

-- ---- what is begun of a row

first_some_by : {A B : Type 0} (f : A → Option B) (x : A) (xs : List A) (b : B) (o : Option B) → f x ≡ o → ((first_some f xs ≡ Some b) → (a : A) × IsIn a xs × (f a ≡ Some b))
    → (elim o as (λ c. Option B) [ Some y ↦ Some y | None ↦ first_some f xs ]) ≡ Some b → (a : A) × IsIn a (x ∷ xs) × (f a ≡ Some b)
first_some_by f x xs b (Some y) is rest eq = (x, inl refl, is ∙ eq)
first_some_by f x xs b None is rest eq = let r = rest eq in (r.0, inr r.1, r.2)

first_some_in : {A B : Type 0} (f : A → Option B) (xs : List A) (b : B) → first_some f xs ≡ Some b → (a : A) × IsIn a xs × (f a ≡ Some b)
first_some_in f [] b is = absurd (cc is)
first_some_in f (x ∷ xs) b is = first_some_by f x xs b (f x) refl (first_some_in f xs b) is

-- what is left goes on, or it is the plan of a row
pub data Begun (s : State) (op : DiskOp) (a : Agenda) : Type 0 where
  goes_on : a ≡ s.agenda → IsFirst op a → Begun s op a
  begins : s.agenda.todo ≡ [] → (x : Instance) → IsIn x s.instances → plan_of s op x ≡ Some a → IsFirst op a → Begun s op a

empty_is : {A : Type 0} (xs : List A) → is_empty xs ≡ true → xs ≡ []
empty_is [] is = refl
empty_is (x ∷ xs) is = absurd (cc is)

begun_by : (s : State) (op : DiskOp) (a : Agenda) (empty : Bool) → is_empty s.agenda.todo ≡ empty
    → (elim empty as (λ c. Option Agenda) [ false ↦ going_on op s.agenda | true ↦ first_some (λ x. option_and_then (going_on op) (plan_of s op x)) s.instances ]) ≡ Some a → Begun s op a
begun_by s op a false is eq = let g = going_is op s.agenda a eq in goes_on (sym g.0) (subst (IsFirst op) g.0 g.1)
begun_by s op a true is eq =
    let found = first_some_in (λ x. option_and_then (going_on op) (plan_of s op x)) s.instances a eq in
    let planned = then_some (going_on op) (plan_of s op found.0) a found.2 in
    let g = going_is op planned.0 a planned.2 in
    begins (empty_is s.agenda.todo is) found.0 found.1 (planned.1 ∙ ap (λ (b : Agenda). Some b) g.0) (subst (IsFirst op) g.0 g.1)

pub begun_is : (s : State) (op : DiskOp) (a : Agenda) → agenda_in_turn op s ≡ Some a → Begun s op a
begun_is s op a eq = begun_by s op a (is_empty s.agenda.todo) refl eq

-- ---- a draft

pub record MayDraft (s : State) (x : Instance) : Type 0 where
  pub fits_block : fits x.fields (block_of x) ≡ true
  pub first_run : has_first_run s x ≡ true
  pub free : has_free_name s (name_of x.key) ≡ true
  pub read_back : is_read_back x ≡ true

may_by : (s : State) (x : Instance) (c d e f : Bool) → fits x.fields (block_of x) ≡ d → has_first_run s x ≡ e
    → (elim (c && d && e) as (λ b. Bool) [ true ↦ has_free_name s (name_of x.key) && is_read_back x && is_worth_a_draft s x | false ↦ false ]) ≡ true → MayDraft s x
may_by s x true true true f one two is =
    let both = first_holds (has_free_name s (name_of x.key) && is_read_back x) _ is in
    record { fits_block = one; first_run = two; free = first_holds (has_free_name s (name_of x.key)) _ both; read_back = second_holds (has_free_name s (name_of x.key)) _ both }
may_by s x true true false f one two is = absurd (cc is)
may_by s x true false e f one two is = absurd (cc is)
may_by s x false d e f one two is = absurd (cc is)

pub may_draft_is : (s : State) (x : Instance) → may_draft s x ≡ true → MayDraft s x
may_draft_is s x is = may_by s x (not s.has_lost_draft && not x.is_retired && is_sized x.version.length) (fits x.fields (block_of x)) (has_first_run s x) true refl refl is

draft_by : (s : State) (x : Instance) (a : Agenda) (may : Bool) → may_draft s x ≡ may → (elim may as (λ c. Option Agenda) [ true ↦ Some (record { name = name_of x.key; todo = drafting s x }) | false ↦ None ]) ≡ Some a
    → MayDraft s x × (record { name = name_of x.key; todo = drafting s x } ≡ a)
draft_by s x a true may is = (may_draft_is s x may, cc is)
draft_by s x a false may is = absurd (cc is)

pub draft_is : (s : State) (x : Instance) (a : Agenda) → draft_of s x ≡ Some a → MayDraft s x × (record { name = name_of x.key; todo = drafting s x } ≡ a)
draft_is s x a is = draft_by s x a (may_draft s x) refl is

-- its name is free
or_none : (a b : Bool) → (a || b) ≡ false → (a ≡ false) × (b ≡ false)
or_none true b is = absurd (cc is)
or_none false b is = (refl, is)

none_of : (name : Bytes) (es : List Entry) → list_any (is_named name) es ≡ false → (d : Entry) → IsIn d es → d.name ≡ name → ⊥
none_of name [] is d i named = i
none_of name (e ∷ es) is d (inl eq) named = let both : true ≡ false = sym (ap (λ (n : Bytes). bytes_eq n name) (ap (λ (y : Entry). y.name) (sym eq) ∙ named) ∙ name_same name) ∙ (or_none (is_named name e) _ is).0 in cc both
none_of name (e ∷ es) is d (inr i) named = none_of name es (or_none (is_named name e) _ is).1 d i named

pub record IsFree (s : State) (name : Bytes) : Type 0 where
  pub none : (d : Entry) → IsIn d s.entries → d.name ≡ name → ⊥
  pub open_name : has_text name s.closed_names ≡ false

pub free_is : (s : State) (name : Bytes) → has_free_name s name ≡ true → IsFree s name
free_is s name is =
    let two = first_holds (not (list_any (is_named name) s.entries) && not (is_closed s name)) _ is in
    record {
      none = none_of name s.entries (not_true (list_any (is_named name) s.entries) (first_holds (not (list_any (is_named name) s.entries)) _ two));
      open_name = not_true (is_closed s name) (second_holds (not (list_any (is_named name) s.entries)) _ two);
    }

-- it is read back
pub record ReadsBack (x : Instance) : Type 0 where
  pub row : Row
  pub reads : row_at (padded (block_of x)) ≡ Some row
  pub key : row.key ≡ x.key
  pub version : row.version ≡ x.version

reads_by : (x : Instance) (found : Option Row) → row_at (padded (block_of x)) ≡ found → is_some_with (λ r. bytes_eq r.key x.key && is_same_version r.version x.version) found ≡ true → ReadsBack x
reads_by x None is test = absurd (cc test)
reads_by x (Some row) is test = record { row = row; reads = is; key = same_bytes row.key x.key (first_holds (bytes_eq row.key x.key) _ test); version = same_version row.version x.version (second_holds (bytes_eq row.key x.key) _ test) }

pub reads_back : (x : Instance) → is_read_back x ≡ true → ReadsBack x
reads_back x is = reads_by x (row_at (padded (block_of x))) refl is

le_of : (a b : ℕ) → nat_le a b ≡ true → a ≤ b
le_of a b is = grind (arith, nat_tests)

pub padded_full : (text : Bytes) → length text ≤ 8192 → length (padded text) ≡ 8192
padded_full text le = omega (arith, le, length-append text (replicate {A = ℕ} (8192 - length text) 0), length-replicate {A = ℕ} (8192 - length text) 0)

pub block_full : (x : Instance) → fits x.fields (block_of x) ≡ true → length (padded (block_of x)) ≡ 8192
block_full x is = padded_full (block_of x) (le_of (length (block_of x)) 8192 (second_holds (nat_le (length x.fields) 95) _ is))

-- ---- a seal

pub record MaySeal (s : State) (x : Instance) (e : Entry) : Type 0 where
  pub is_kept : kept_row s x.key ≡ Some e
  pub version : x.version ≡ e.version
  pub open_name : has_text e.name s.closed_names ≡ false
  pub inside : e.extent < x.version.length
  pub full : is_full_run s x e (run_from s x e) ≡ true

may_seal_by : (s : State) (x : Instance) (e : Entry) (a b c d : Bool) → is_same_version x.version e.version ≡ b → not (is_closed s e.name) ≡ c → nat_lt e.extent x.version.length ≡ d → (a && b && c && d) ≡ true
    → (x.version ≡ e.version) × (has_text e.name s.closed_names ≡ false) × (e.extent < x.version.length)
may_seal_by s x e true true true true one two three is = (same_version x.version e.version one, not_true (is_closed s e.name) two, below e.extent x.version.length three)
may_seal_by s x e true true true false one two three is = absurd (cc is)
may_seal_by s x e true true false d one two three is = absurd (cc is)
may_seal_by s x e true false c d one two three is = absurd (cc is)
may_seal_by s x e false b c d one two three is = absurd (cc is)

seal_by : (s : State) (x : Instance) (e : Entry) (a : Agenda) (may full : Bool) → kept_row s x.key ≡ Some e → may_seal s x e ≡ may → is_full_run s x e (run_from s x e) ≡ full
    → (elim (may && full) as (λ c. Option Agenda) [ true ↦ Some (record { name = e.name; todo = sealing s x e (run_from s x e) }) | false ↦ None ]) ≡ Some a
    → MaySeal s x e × (record { name = e.name; todo = sealing s x e (run_from s x e) } ≡ a)
seal_by s x e a true true kept may full is =
    let parts = may_seal_by s x e (not x.is_retired) (is_same_version x.version e.version) (not (is_closed s e.name)) (nat_lt e.extent x.version.length) refl refl refl may in
    (record { is_kept = kept; version = parts.0; open_name = parts.1; inside = parts.2; full = full }, cc is)
seal_by s x e a true false kept may full is = absurd (cc is)
seal_by s x e a false full kept may is_full is = absurd (cc is)

seal_at : (s : State) (x : Instance) (a : Agenda) (found : Option Entry) → kept_row s x.key ≡ found → (elim found as (λ c. Option Agenda) [ None ↦ None | Some e ↦ seal_with s x e ]) ≡ Some a
    → (e : Entry) × MaySeal s x e × (record { name = e.name; todo = sealing s x e (run_from s x e) } ≡ a)
seal_at s x a None kept is = absurd (cc is)
seal_at s x a (Some e) kept is = let r = seal_by s x e a (may_seal s x e) (is_full_run s x e (run_from s x e)) kept refl refl is in (e, r.0, r.1)

pub seal_is : (s : State) (x : Instance) (a : Agenda) → seal_of s x ≡ Some a → (e : Entry) × MaySeal s x e × (record { name = e.name; todo = sealing s x e (run_from s x e) } ≡ a)
seal_is s x a is = seal_at s x a (kept_row s x.key) refl is
