-- What is begun on the disk makes entries that agree with what is there: a row is drafted under a name that no entry has, and of whole chunks, as
-- it is sealed.
use Rattle.pp_entry.specs.Texts.{fits}
use Rattle.pp_entry.specs.Entries.{is_sized}
use Rattle.pp_shelf_law.proofs.Shelves.{bytes_by}
use Rattle.std.proofs.Common.{◌≡◌, ◌⊎◌, refl, subst₂, ℕ, zero, suc, ◌/◌, ◌+◌, ◌-◌, ◌*◌, ◌<◌, ◌≤◌, arith, Bool, true, false, not, ◌==◌, ◌&&◌, List, [], ◌∷◌, ◌++◌, map, Option, Some, None, option_and_then, inl, inr, sym, subst, ap, ◌∙◌, nat_lt, ◌||◌}
use Rattle.std.specs.List.{list_any}
use Rattle.std.specs.Prelude.{min}
use Rattle.std.proofs.lemmas.Bool.Decides.{nat_tests}
use Rattle.pp_entry.specs.Texts.{chunks_of}
use Rattle.pp_gate.specs.Gate.{publish_ops}
use Rattle.pp_gate.specs.Seal.{seal_ops}
use Rattle.pp_target.specs.Name.{name_of}
use Rattle.pp_text.specs.Bytes.{is_empty}
use Rattle.pp_world.specs.declared.op.DiskOp.{DiskOp}
use Rattle.pp_world.specs.declared.op.DiskOp.TheVariants.{Draft, SyncDraft, Publish, Write, Sync, Remove}
use Rattle.pp_law.specs.Chunks.{chunk_len, filled}
use Rattle.pp_law.specs.Lists.{Bytes, first_some}
use Rattle.pp_law.specs.Repairs.{agenda_in_opening, closes_strays, has_strays_under, may_repair, repair_of, sync_of}
use Rattle.pp_law.specs.State.{State, Agenda, Entry, Instance, Todo, Do, Enter, Acknowledge}
use Rattle.pp_law.specs.Store.{agenda_in_turn, draft_of, drafted_with, drafting, end_of_run, file_of, going_on, is_closed, is_first_todo, is_full_run, is_named, run_len, may_draft, may_seal, new_entry, noting, plan_of, run_bytes, run_from, seal_of, seal_with, sealing, has_free_name, names_taken, has_first_run, block_of, is_read_back, is_worth_a_draft}
use Rattle.pp_law.specs.State.{Chunk}
use Rattle.pp_law.specs.Table.{is_same_version, kept_row}
use Rattle.pp_laws.proofs.Tests.{first_holds}
use Rattle.pp_laws_crash.proofs.Begins.{MaySeal, may_draft_is, seal_is}
use Rattle.pp_laws_crash.proofs.RunBytes.{AreWhole, is_whole, run_whole}
use Rattle.pp_laws_crash.proofs.Starting.{drafts_of}
use Rattle.pp_valid.specs.declared.version.Version.{Version}
use Rattle.pp_laws.specs.Runs.{IsIn}
use Rattle.pp_laws_versions.proofs.Chunks.{IsAllOrNone, Whole}
use Rattle.pp_laws_versions.proofs.Rows.{kept_so}
use Rattle.pp_laws_versions.proofs.Grown.{none_last}
use Rattle.pp_laws_versions.proofs.View.{Agrees, AllWhole, EntersLast, FactsOf, NoEnter}

-- ---- what is begun on the disk

-- what follows makes entries that agree with what is there
pub record PlansOf (s : State) (todo : List Todo) : Type 0 where
  pub next : (e : Entry) → IsIn (Enter e) todo → Agrees e s.instances s.entries
  pub pending : (e d : Entry) → IsIn (Enter e) todo → IsIn (Enter d) todo → d.key ≡ e.key → d.version ≡ e.version
  pub free : (e d : Entry) → IsIn (Enter e) todo → IsIn d s.entries → d.is_stale ≡ false → d.key ≡ e.key → ⊥
  pub last : EntersLast todo
  pub enters : (e : Entry) → IsIn (Enter e) todo → AllWhole s.instances s.chunks e.key e.extent
  pub notes : (key tag : Bytes) (n extent : ℕ) → IsIn (Acknowledge key tag n extent) todo → AllWhole s.instances s.chunks key extent

abbrev pub Plans : State → Option Agenda → Type 0
Plans s plan = (a : Agenda) → plan ≡ Some a → PlansOf s a.todo

none_planned : (s : State) (todo : List Todo) → NoEnter todo → ((key tag : Bytes) (n extent : ℕ) → IsIn (Acknowledge key tag n extent) todo → AllWhole s.instances s.chunks key extent) → PlansOf s todo
none_planned s todo none notes = record {
  next = λ e i. absurd (none e i);
  pending = λ e d i j is. absurd (none e i);
  free = λ e d i. absurd (none e i);
  last = none_last todo none;
  enters = λ e i. absurd (none e i);
  notes = notes;
}

going_plans : (s : State) (op : DiskOp) (a : Agenda) → PlansOf s a.todo → Plans s (going_on op a)
going_plans s op a has = by (is_first_todo op a.todo)
  where
    by : (t : Bool) → Plans s (elim t as (λ c. Option Agenda) [ true ↦ Some a | false ↦ None ])
    by true b is = let e : a ≡ b = cc is in subst (λ (x : Agenda). PlansOf s x.todo) e has
    by false b is = absurd (cc is)

no_enter : (e : Entry) (ops : List DiskOp) (rest : List Todo) → IsIn (Enter e) (map Do ops ++ rest) → IsIn (Enter e) rest
no_enter e [] rest i = i
no_enter e (op ∷ ops) rest (inl eq) = absurd (cc eq)
no_enter e (op ∷ ops) rest (inr i) = no_enter e ops rest i

no_note : (key tag : Bytes) (n extent : ℕ) (ops : List DiskOp) (rest : List Todo) → IsIn (Acknowledge key tag n extent) (map Do ops ++ rest) → IsIn (Acknowledge key tag n extent) rest
no_note key tag n extent [] rest i = i
no_note key tag n extent (op ∷ ops) rest (inl eq) = absurd (cc eq)
no_note key tag n extent (op ∷ ops) rest (inr i) = no_note key tag n extent ops rest i

last_ops : (ops : List DiskOp) (rest : List Todo) → EntersLast rest → EntersLast (map Do ops ++ rest)
last_ops [] rest last = last
last_ops (op ∷ ops) rest last = last_ops ops rest last

one_noted : (key tag : Bytes) (n extent : ℕ) (x : Instance) (far : ℕ) → IsIn (Acknowledge key tag n extent) (noting x far) → (key ≡ x.key) × (extent ≡ far)
one_noted key tag n extent x far = by (far == 0)
  where
    by : (t : Bool) → IsIn (Acknowledge key tag n extent) (elim t as (λ c. List Todo) [ true ↦ [] | false ↦ Acknowledge x.key x.version.tag x.version.length far ∷ [] ]) → (key ≡ x.key) × (extent ≡ far)
    by true i = absurd i
    by false (inl eq) = ((let a : key ≡ x.key = cc in a), (let b : extent ≡ far = cc in b))
    by false (inr i) = absurd i

none_noted : (e : Entry) (x : Instance) (extent : ℕ) → IsIn (Enter e) (noting x extent) → ⊥
none_noted e x extent = by (extent == 0)
  where
    by : (t : Bool) → IsIn (Enter e) (elim t as (λ c. List Todo) [ true ↦ [] | false ↦ Acknowledge x.key x.version.tag x.version.length extent ∷ [] ]) → ⊥
    by true i = i
    by false (inl eq) = cc eq
    by false (inr i) = i

one_drafted : (s : State) (x : Instance) (e : Entry) → IsIn (Enter e) (drafting s x) → e ≡ new_entry x (drafted_with s x)
one_drafted s x e i = by (no_enter e (publish_ops (name_of x.key) (file_of s x)) (Enter (new_entry x (drafted_with s x)) ∷ noting x (drafted_with s x)) i)
  where
    by : IsIn (Enter e) (Enter (new_entry x (drafted_with s x)) ∷ noting x (drafted_with s x)) → e ≡ new_entry x (drafted_with s x)
    by (inl eq) = cc eq
    by (inr j) = absurd (none_noted e x (drafted_with s x) j)

is_there : (name : Bytes) (d : Entry) (es : List Entry) → IsIn d es → d.name ≡ name → list_any (is_named name) es ≡ true
is_there name d [] i is = absurd i
is_there name d (e ∷ es) (inl eq) is = ap (λ (b : Bool). b || list_any (is_named name) es) (bytes_by e.name name (ap (λ (z : Entry). z.name) (sym eq) ∙ is))
is_there name d (e ∷ es) (inr i) is = by (is_named name e) (is_there name d es i is)
  where
    by : (b : Bool) → list_any (is_named name) es ≡ true → (b || list_any (is_named name) es) ≡ true
    by true rest = refl
    by false rest = rest

-- ---- what is whole

is_below : (m n : ℕ) → nat_lt m n ≡ true → m < n
is_below m n is = grind (arith, nat_tests)

not_below : (m n : ℕ) → nat_lt m n ≡ false → n ≤ m
not_below m n isnt = grind (arith, nat_tests)

unretired : (b : Bool) → not b ≡ true → b ≡ false
unretired true is = absurd (cc is)
unretired false is = refl

-- so is each of a run
whole_at : (n id : ℕ) (cs : List Chunk) (i count k : ℕ) → AreWhole n id cs i count → k < count → filled id (i + k) cs ≡ min 4096 (n - 4096 * (i + k))
whole_at n id cs i zero k whole within = absurd (omega (arith, within))
whole_at n id cs i (suc count) zero whole within = subst (λ (j : ℕ). filled id j cs ≡ min 4096 (n - 4096 * j)) (none_more i) (is_whole n id cs i whole.0).size
  where
    none_more : (m : ℕ) → m ≡ m + 0
    none_more m = omega arith
whole_at n id cs i (suc count) (suc k) whole within = subst (λ (j : ℕ). filled id j cs ≡ min 4096 (n - 4096 * j)) (one_on i k) (whole_at n id cs (i + 1) count k whole.1 (omega (arith, within)))
  where
    one_on : (m j : ℕ) → (m + 1) + j ≡ m + suc j
    one_on m j = omega arith

in_run : (n id : ℕ) (cs : List Chunk) (first count i : ℕ) → AreWhole n id cs first count → first ≤ i → i < first + count → IsAllOrNone n i (filled id i cs)
in_run n id cs first count i whole from within =
    inr (subst (λ (j : ℕ). min 4096 (n - j * 4096) ≤ filled id j cs) (there first i from) (all (first + (i - first)) (whole_at n id cs first count (i - first) whole (omega (arith, from, within)))))
  where
    there : (a b : ℕ) → a ≤ b → a + (b - a) ≡ b
    there a b le = omega (arith, le)

    all : (j : ℕ) → filled id j cs ≡ min 4096 (n - 4096 * j) → min 4096 (n - j * 4096) ≤ filled id j cs
    all j is = omega (arith, is)

drafts_whole : (s : State) (x : Instance) → has_first_run s x ≡ true → Whole x.version.length x.id (drafted_with s x) s.chunks
drafts_whole s x first i below = by (drafts_of s x first)
  where
    by : (drafted_with s x ≡ 0) ⊎ ((drafted_with s x ≡ x.version.length) × AreWhole x.version.length x.id s.chunks 0 (chunks_of x.version.length)) → IsAllOrNone x.version.length i (filled x.id i s.chunks)
    by (inl none) = absurd (omega (arith, below, none))
    by (inr all) = in_run x.version.length x.id s.chunks 0 (chunks_of x.version.length) i all.1 (omega arith) (omega (arith, below, all.0))

-- an entry that is still to reach further ends with a chunk
abbrev pub EndsWhole : State → Type 0
EndsWhole s = (e : Entry) → IsIn e s.entries → e.is_stale ≡ false → is_closed s e.name ≡ false → e.extent < e.version.length → e.extent ≡ 4096 * (e.extent / 4096)

module _ (s : State) (h : FactsOf false s) (alone : (x y : Instance) → IsIn x s.instances → IsIn y s.instances → x.is_retired ≡ false → y.is_retired ≡ false → y.key ≡ x.key → y ≡ x) where
  -- each row of its key is this one
  its_rows : (x : Instance) → IsIn x s.instances → x.is_retired ≡ false → (extent : ℕ) → Whole x.version.length x.id extent s.chunks → AllWhole s.instances s.chunks x.key extent
  its_rows x i stands extent whole y j on is = subst (λ (z : Instance). Whole z.version.length z.id extent s.chunks) (sym (alone x y i j stands on (sym is))) whole

  taken : (x : Instance) → has_free_name s (name_of x.key) ≡ true → (d : Entry) → IsIn d s.entries → d.is_stale ≡ false → d.key ≡ x.key → ⊥
  taken x free d j fresh is =
      let there : list_any (is_named (name_of x.key)) s.entries ≡ true = is_there (name_of x.key) d s.entries j ((h.each d j fresh).named ∙ ap name_of is) in
      let none : list_any (is_named (name_of x.key)) s.entries ≡ false = first (list_any (is_named (name_of x.key)) s.entries) (is_closed s (name_of x.key)) (nat_lt (names_taken s) 10000) free in
      let both : true ≡ false = sym there ∙ none in cc both
    where
      first : (a b c : Bool) → (not a && not b && c) ≡ true → a ≡ false
      first true b c on = absurd (cc on)
      first false b c on = refl

  -- a row is drafted under a name that no entry has
  draft_agrees : (x : Instance) → IsIn x s.instances → x.is_retired ≡ false → has_free_name s (name_of x.key) ≡ true → Agrees (new_entry x (drafted_with s x)) s.instances s.entries
  draft_agrees x i stands free = record {
    rows = λ y j on is. ap (λ (z : Instance). z.version) (alone x y i j stands on is);
    kept = λ d j fresh is. absurd (taken x free d j fresh is);
    named = refl;
  }

  draft_plans : (x : Instance) → IsIn x s.instances → Plans s (draft_of s x)
  draft_plans x i = by (may_draft s x) refl
    where
      stands : (a b c d e f : Bool) → (elim (not a && not b && c && d && e) as (λ t. Bool) [ true ↦ f | false ↦ false ]) ≡ true → (b ≡ false) × (f ≡ true)
      stands true b c d e f is = absurd (cc is)
      stands false true c d e f is = absurd (cc is)
      stands false false true true true f is = (refl, is)
      stands false false false d e f is = absurd (cc is)
      stands false false true false e f is = absurd (cc is)
      stands false false true true false f is = absurd (cc is)

      free : (a b c : Bool) → (a && b && c) ≡ true → a ≡ true
      free true b c is = refl
      free false b c is = absurd (cc is)

      whole : may_draft s x ≡ true → x.is_retired ≡ false → AllWhole s.instances s.chunks x.key (drafted_with s x)
      whole may stands = its_rows x i stands (drafted_with s x) (drafts_whole s x (may_draft_is s x may).first_run)

      noted : (key tag : Bytes) (n extent : ℕ) → IsIn (Acknowledge key tag n extent) (drafting s x) → (key ≡ x.key) × (extent ≡ drafted_with s x)
      noted key tag n extent j = of (no_note key tag n extent (publish_ops (name_of x.key) (file_of s x)) (Enter (new_entry x (drafted_with s x)) ∷ noting x (drafted_with s x)) j)
        where
          of : IsIn (Acknowledge key tag n extent) (Enter (new_entry x (drafted_with s x)) ∷ noting x (drafted_with s x)) → (key ≡ x.key) × (extent ≡ drafted_with s x)
          of (inl eq) = absurd (cc eq)
          of (inr k) = one_noted key tag n extent x (drafted_with s x) k

      planned : may_draft s x ≡ true → PlansOf s (drafting s x)
      planned may =
          let w = stands s.has_lost_draft x.is_retired (is_sized x.version.length) (fits x.fields (block_of x)) (has_first_run s x) (has_free_name s (name_of x.key) && is_read_back x && is_worth_a_draft s x) may in
          record {
            next = λ e j. subst (λ (z : Entry). Agrees z s.instances s.entries) (sym (one_drafted s x e j)) (draft_agrees x i w.0 (free (has_free_name s (name_of x.key)) (is_read_back x) (is_worth_a_draft s x) w.1));
            pending = λ e d j k is. ap (λ (z : Entry). z.version) (one_drafted s x d k ∙ sym (one_drafted s x e j));
            free = λ e d j k fresh is. taken x (may_draft_is s x may).free d k fresh (is ∙ ap (λ (z : Entry). z.key) (one_drafted s x e j));
            last = last_ops (publish_ops (name_of x.key) (file_of s x)) (Enter (new_entry x (drafted_with s x)) ∷ noting x (drafted_with s x)) (λ e j. none_noted e x (drafted_with s x) j);
            enters = λ e j. subst (λ (z : Entry). AllWhole s.instances s.chunks z.key z.extent) (sym (one_drafted s x e j)) (whole may w.0);
            notes = λ key tag n extent j. (let its = noted key tag n extent j in subst₂ (λ (k : Bytes) (m : ℕ). AllWhole s.instances s.chunks k m) (sym its.0) (sym its.1) (whole may w.0));
          }

      by : (t : Bool) → may_draft s x ≡ t → Plans s (elim t as (λ c. Option Agenda) [ true ↦ Some (record { name = name_of x.key; todo = drafting s x }) | false ↦ None ])
      by true may a is = let e : (record { name = name_of x.key; todo = drafting s x }) ≡ a = cc is in subst (λ (y : Agenda). PlansOf s y.todo) e (planned may)
      by false may a is = absurd (cc is)

  sealing_none : (x : Instance) (k : Entry) (count : ℕ) (e : Entry) → IsIn (Enter e) (sealing s x k count) → ⊥
  sealing_none x k count e i = by (no_enter e (seal_ops k.name x.version.length (k.extent / chunk_len) count (run_bytes count x.id s.chunks (k.extent / chunk_len))) (Acknowledge x.key x.version.tag x.version.length (end_of_run x k count) ∷ []) i)
    where
      by : IsIn (Enter e) (Acknowledge x.key x.version.tag x.version.length (end_of_run x k count) ∷ []) → ⊥
      by (inl eq) = cc eq
      by (inr j) = j

  -- what is sealed is whole
  seal_whole : (x : Instance) → IsIn x s.instances → x.is_retired ≡ false → (k : Entry) → MaySeal s x k → EndsWhole s → Whole x.version.length x.id (end_of_run x k (run_from s x k)) s.chunks
  seal_whole x there_too stands k may ends i below = by (nat_lt (i * 4096) k.extent) refl
    where
      there : IsIn k s.entries × (k.is_stale ≡ false) × (k.key ≡ x.key)
      there = kept_so s x.key k may.is_kept

      end : k.extent ≡ 4096 * (k.extent / 4096)
      end = ends k there.0 there.1 may.open_name (subst (λ (v : Version). k.extent < v.length) may.version may.inside)

      behind : (count : ℕ) → nat_lt (i * 4096) k.extent ≡ false → i * 4096 < min x.version.length (k.extent + count * 4096) → (k.extent / 4096 ≤ i) × (i < k.extent / 4096 + count)
      behind count isnt inside = (let from : k.extent ≤ i * 4096 = not_below (i * 4096) k.extent isnt in omega (arith, from), omega (arith, inside, end))

      by : (b : Bool) → nat_lt (i * 4096) k.extent ≡ b → IsAllOrNone x.version.length i (filled x.id i s.chunks)
      by true is = h.whole k there.0 there.1 x there_too stands there.2 i (is_below (i * 4096) k.extent is)
      by false isnt =
          let w = behind (run_from s x k) isnt below in
          in_run x.version.length x.id s.chunks (k.extent / 4096) (run_from s x k) i (run_whole (run_len s) x.version.length x.id s.chunks (k.extent / 4096)) w.0 w.1

  seal_plans : (x : Instance) → IsIn x s.instances → EndsWhole s → Plans s (seal_of s x)
  seal_plans x i ends a is = subst (λ (y : Agenda). PlansOf s y.todo) r.2 (none_planned s (sealing s x r.0 (run_from s x r.0)) (sealing_none x r.0 (run_from s x r.0)) notes)
    where
      r : (k : Entry) × MaySeal s x k × (record { name = k.name; todo = sealing s x k (run_from s x k) } ≡ a)
      r = seal_is s x a is

      stands : x.is_retired ≡ false
      stands = by (kept_row s x.key) is
        where
          at : (k : Entry) (t : Bool) → (may_seal s x k && is_full_run s x k (run_from s x k)) ≡ t → (elim t as (λ c. Option Agenda) [ true ↦ Some (record { name = k.name; todo = sealing s x k (run_from s x k) }) | false ↦ None ]) ≡ Some a → x.is_retired ≡ false
          at k true may found = unretired x.is_retired (first_holds (not x.is_retired) _ (first_holds (not x.is_retired && is_same_version x.version k.version) _ (first_holds (not x.is_retired && is_same_version x.version k.version && not (is_closed s k.name)) _ (first_holds (may_seal s x k) _ may))))
          at k false may found = absurd (cc found)

          by : (o : Option Entry) → (elim o as (λ c. Option Agenda) [ None ↦ None | Some k ↦ seal_with s x k ]) ≡ Some a → x.is_retired ≡ false
          by None found = absurd (cc found)
          by (Some k) found = at k (may_seal s x k && is_full_run s x k (run_from s x k)) refl found

      notes : (key tag : Bytes) (n extent : ℕ) → IsIn (Acknowledge key tag n extent) (sealing s x r.0 (run_from s x r.0)) → AllWhole s.instances s.chunks key extent
      notes key tag n extent j = of (no_note key tag n extent (seal_ops r.0.name x.version.length (r.0.extent / chunk_len) (run_from s x r.0) (run_bytes (run_from s x r.0) x.id s.chunks (r.0.extent / chunk_len))) (Acknowledge x.key x.version.tag x.version.length (end_of_run x r.0 (run_from s x r.0)) ∷ []) j)
        where
          of : IsIn (Acknowledge key tag n extent) (Acknowledge x.key x.version.tag x.version.length (end_of_run x r.0 (run_from s x r.0)) ∷ []) → AllWhole s.instances s.chunks key extent
          of (inl eq) = (let a : key ≡ x.key = cc in let b : extent ≡ end_of_run x r.0 (run_from s x r.0) = cc in
              subst₂ (λ (k : Bytes) (m : ℕ). AllWhole s.instances s.chunks k m) (sym a) (sym b) (its_rows x i stands (end_of_run x r.0 (run_from s x r.0)) (seal_whole x i stands r.0 r.1 ends)))
          of (inr none) = absurd none

  row_plans : EndsWhole s → (op : DiskOp) (x : Instance) → IsIn x s.instances → Plans s (plan_of s op x)
  row_plans ends (Draft bytes) x i = draft_plans x i
  row_plans ends SyncDraft x i = λ a is. absurd (cc is)
  row_plans ends (Publish name) x i = λ a is. absurd (cc is)
  row_plans ends (Write name at bytes) x i = seal_plans x i ends
  row_plans ends (Sync name) x i = λ a is. absurd (cc is)
  row_plans ends (Remove name) x i = λ a is. absurd (cc is)

  then_plans : (op : DiskOp) (o : Option Agenda) → Plans s o → Plans s (option_and_then (going_on op) o)
  then_plans op None has = λ a is. absurd (cc is)
  then_plans op (Some b) has = going_plans s op b (has b refl)

  first_plans : (f : Instance → Option Agenda) (xs : List Instance) → ((x : Instance) → IsIn x xs → Plans s (f x)) → Plans s (first_some f xs)
  first_plans f [] has = λ a is. absurd (cc is)
  first_plans f (x ∷ xs) has = by (f x) (has x (inl refl)) (first_plans f xs (λ y i. has y (inr i)))
    where
      by : (o : Option Agenda) → Plans s o → Plans s (first_some f xs) → Plans s (elim o as (λ c. Option Agenda) [ Some y ↦ Some y | None ↦ first_some f xs ])
      by None one rest = rest
      by (Some a) one rest = one

  under_way : PlansOf s s.agenda.todo
  under_way = record { next = h.next; pending = h.pending; free = h.free; last = h.last; enters = h.enters; notes = h.notes }

  pub turn_plans : (is_empty s.agenda.todo ≡ true → EndsWhole s) → (op : DiskOp) → Plans s (agenda_in_turn op s)
  turn_plans ends op = by (is_empty s.agenda.todo) refl
    where
      by : (t : Bool) → is_empty s.agenda.todo ≡ t → Plans s (elim t as (λ c. Option Agenda) [ false ↦ going_on op s.agenda | true ↦ first_some (λ x. option_and_then (going_on op) (plan_of s op x)) s.instances ])
      by true idle = first_plans (λ x. option_and_then (going_on op) (plan_of s op x)) s.instances (λ x i. then_plans op (plan_of s op x) (row_plans (ends idle) op x i))
      by false busy = going_plans s op s.agenda under_way

  repair_plans : (name : Bytes) (at : ℕ) (bytes : Bytes) → Plans s (repair_of s name at bytes)
  repair_plans name at bytes = by (may_repair s name && list_any (closes_strays s name at bytes) s.entries)
    where
      none : (e : Entry) → IsIn (Enter e) (Do (Write name at bytes) ∷ Do (Sync name) ∷ []) → ⊥
      none e (inl eq) = cc eq
      none e (inr (inl eq)) = cc eq
      none e (inr (inr i)) = i

      unnoted : (key tag : Bytes) (n extent : ℕ) → IsIn (Acknowledge key tag n extent) (Do (Write name at bytes) ∷ Do (Sync name) ∷ []) → AllWhole s.instances s.chunks key extent
      unnoted key tag n extent (inl eq) = absurd (cc eq)
      unnoted key tag n extent (inr (inl eq)) = absurd (cc eq)
      unnoted key tag n extent (inr (inr i)) = absurd i

      by : (t : Bool) → Plans s (elim t as (λ c. Option Agenda) [ true ↦ Some (record { name = name; todo = Do (Write name at bytes) ∷ Do (Sync name) ∷ [] }) | false ↦ None ])
      by true = λ a is. let same_one : (record { name = name; todo = Do (Write name at bytes) ∷ Do (Sync name) ∷ [] }) ≡ a = cc is in subst (λ (y : Agenda). PlansOf s y.todo) same_one (none_planned s (Do (Write name at bytes) ∷ Do (Sync name) ∷ []) none unnoted)
      by false = λ a is. absurd (cc is)

  synced_plans : (op : DiskOp) → Plans s (sync_of s op)
  synced_plans op = by (has_strays_under s s.agenda.name)
    where
      by : (t : Bool) → Plans s (elim t as (λ c. Option Agenda) [ true ↦ None | false ↦ going_on op s.agenda ])
      by true = λ a is. absurd (cc is)
      by false = going_plans s op s.agenda under_way

  pub opening_plans : (op : DiskOp) → Plans s (agenda_in_opening op s)
  opening_plans (Write name at bytes) = repair_plans name at bytes
  opening_plans (Draft bytes) = synced_plans (Draft bytes)
  opening_plans SyncDraft = synced_plans SyncDraft
  opening_plans (Publish name) = synced_plans (Publish name)
  opening_plans (Sync name) = synced_plans (Sync name)
  opening_plans (Remove name) = synced_plans (Remove name)

-- each key has one row
abbrev pub IsAlone : State → Type 0
IsAlone s = (x y : Instance) → IsIn x s.instances → IsIn y s.instances → x.is_retired ≡ false → y.is_retired ≡ false → y.key ≡ x.key → y ≡ x
