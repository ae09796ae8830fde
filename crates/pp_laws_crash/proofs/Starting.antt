-- A draft and a seal that the law permits are such plans: what they write stands in memory, and was sent.
use Rattle.std.proofs.Common.{◌≡◌, ◌⊎◌, ⊎_elim, refl, ℕ, zero, suc, ◌+◌, ◌-◌, ◌*◌, ◌/◌, ◌<◌, ◌≤◌, nat_lt, nat_le, Bool, true, false, not, ◌==◌, ◌&&◌, ◌||◌, List, [], ◌∷◌, length, get_or, replicate, Some, None, inl, inr, sym, subst, ap, ◌∙◌, arith}
use Rattle.std.specs.Prelude.{min, max}
use Rattle.std.proofs.lemmas.Bool.Decides.{nat_tests}
use Rattle.pp_entry.specs.Entries.{Row, row_at}
use Rattle.pp_entry.specs.Texts.{body_at, chunks_of, padded}
use Rattle.pp_gate.specs.Runs.{During}
use Rattle.pp_gate.specs.Seal.{IsFront, IsHonest, IsRun, seal_ops}
use Rattle.pp_gate.proofs.Ops.{AllLeft}
use Rattle.pp_target.specs.Name.{name_of}
use Rattle.pp_world.specs.Disk.{view_of}
use Rattle.pp_world.specs.declared.op.DiskOp.TheVariants.{Draft, SyncDraft, Publish, Write, Sync}
use Rattle.pp_law.specs.Chunks.{chunk_len}
use Rattle.pp_law.specs.Lists.{Bytes}
use Rattle.pp_law.specs.State.{State, Agenda, Chunk, Entry, Instance, Todo, Do, Enter, Acknowledge}
use Rattle.pp_law.specs.Store.{block_of, drafted_with, drafting, draft_of, end_of_run, file_of, has_first_run, is_full_run, new_entry, run_bytes, run_from, run_len, seal_of, sealing, whole_run}
use Rattle.pp_law.specs.Table.{is_kept_row_of}
use Rattle.pp_laws.specs.Runs.{IsIn}
use Rattle.pp_laws.proofs.Joins.{HeldOf}
use Rattle.pp_laws.proofs.Lists.{in_find}
use Rattle.pp_laws.proofs.Tests.{below, first_holds, same_bytes, same_number, second_holds}
use Rattle.pp_laws_crash.proofs.Backing.{claimed}
use Rattle.pp_laws_crash.proofs.Begins.{IsFree, MayDraft, MaySeal, ReadsBack, block_full, draft_is, free_is, reads_back, seal_is}
use Rattle.pp_laws_crash.proofs.Going.{Ahead, Rests, kept_is_fresh}
use Rattle.pp_laws_crash.proofs.Inv.{AtRest, InvOf, planned}
use Rattle.pp_laws_crash.proofs.Lying.{Held, len_of}
use Rattle.pp_laws_crash.proofs.Plans.{draft_ahead, draft_noted_ahead, seal_ahead, seal_each}
use Rattle.pp_laws_crash.proofs.RunBytes.{AreWhole, run_claimed, run_inside, run_length, run_most, run_whole}

whole_front : (n id : ℕ) (chunks : List Chunk) (i a b : ℕ) → b ≤ a → AreWhole n id chunks i a → AreWhole n id chunks i b
whole_front n id chunks i a zero le whole = tt
whole_front n id chunks i zero (suc b) le whole = absurd (omega (arith, le))
whole_front n id chunks i (suc a) (suc b) le whole = (whole.0, whole_front n id chunks (i + 1) a b (omega (arith, le)) whole.1)

-- ---- how much is drafted

-- none of the body, or all of it, which stands in memory
abbrev DraftsOf : State → Instance → ℕ → Type 0
DraftsOf s x w = (w ≡ 0) ⊎ ((w ≡ x.version.length) × AreWhole x.version.length x.id s.chunks 0 (chunks_of x.version.length))

not_one : (n : ℕ) → nat_lt 1 n ≡ true → (n == 1) ≡ true → ⊥
not_one n lt is = grind (arith, nat_tests)

le_of : (a b : ℕ) → nat_le a b ≡ true → a ≤ b
le_of a b is = grind (arith, nat_tests)

enough : (n count run : ℕ) → chunks_of n ≤ run → (count ≡ run) ⊎ (min n (0 + count * 4096) ≡ n) → chunks_of n ≤ count
enough n count run le (inl is) = omega (arith, le, is)
enough n count run le (inr is) = omega (arith, is)

either_is : (a b : Bool) → (a || b) ≡ true → (a ≡ true) ⊎ (b ≡ true)
either_is true b is = inl refl
either_is false b is = inr is

drafts_by : (s : State) (x : Instance) (long small : Bool) → has_first_run s x ≡ true → nat_lt 1 (run_len s) ≡ long → nat_le (chunks_of x.version.length) (run_len s) ≡ small
    → DraftsOf s x (elim (long && small) as (λ c. ℕ) [ true ↦ x.version.length | false ↦ 0 ])
drafts_by s x true true first long small = inr (refl, whole_front x.version.length x.id s.chunks 0 count (chunks_of x.version.length) (enough x.version.length count (run_len s) (le_of _ _ small) far) (run_whole (run_len s) x.version.length x.id s.chunks 0))
  where
    count : ℕ
    count = whole_run (run_len s) x.version.length x.id s.chunks 0

    full : is_full_run s x (new_entry x 0) (run_from s x (new_entry x 0)) ≡ true
    full = ⊎_elim (λ (one : (run_len s == 1) ≡ true). absurd (not_one (run_len s) long one)) (λ (is : is_full_run s x (new_entry x 0) (run_from s x (new_entry x 0)) ≡ true). is) (either_is (run_len s == 1) _ first)

    far : (count ≡ run_len s) ⊎ (min x.version.length (0 + count * 4096) ≡ x.version.length)
    far = ⊎_elim (λ (is : (count == run_len s) ≡ true). inl (same_number count (run_len s) is)) (λ (is : (min x.version.length (0 + count * 4096) == x.version.length) ≡ true). inr (same_number _ _ is))
        (either_is (count == run_len s) _ (second_holds (nat_lt 0 count) _ full))
drafts_by s x true false first long small = inl refl
drafts_by s x false small first long is = inl refl

pub drafts_of : (s : State) (x : Instance) → has_first_run s x ≡ true → DraftsOf s x (drafted_with s x)
drafts_of s x first = drafts_by s x (nat_lt 1 (run_len s)) (nat_le (chunks_of x.version.length) (run_len s)) first refl refl

from_first : (o : ℕ) → 4096 * 0 + o ≡ o
from_first o = omega arith

module _ (s : State) (x : Instance) (held : HeldOf s.sent x.key x.version x.id s.chunks) (block : Bytes) (row : Row) (reads : row_at block ≡ Some row) (key : row.key ≡ x.key) (version : row.version ≡ x.version) where
  all_length : AreWhole x.version.length x.id s.chunks 0 (chunks_of x.version.length) → length (run_bytes (chunks_of x.version.length) x.id s.chunks 0) ≡ x.version.length
  all_length whole = run_length x.version.length x.id s.chunks 0 (chunks_of x.version.length) whole ∙ omega arith

  front_all : AreWhole x.version.length x.id s.chunks 0 (chunks_of x.version.length) → IsFront (claimed s.sent) block x.version.length (run_bytes (chunks_of x.version.length) x.id s.chunks 0)
  front_all whole = record {
    whole = omega (arith, all_length whole);
    sent_all = λ o lt. subst (λ k. claimed s.sent block k (get_or (run_bytes (chunks_of x.version.length) x.id s.chunks 0) o 0) ≡ true) (from_first o) (run_claimed s.sent x.key x.version x.version.length x.id s.chunks held block row reads key version 0 (chunks_of x.version.length) whole o lt);
  }

  front_none : IsFront (claimed s.sent) block x.version.length []
  front_none = record { whole = omega arith; sent_all = λ o lt. absurd (omega (arith, lt)) }

  pub front_of : (w : ℕ) → DraftsOf s x w → IsFront (claimed s.sent) block x.version.length (run_bytes (chunks_of w) x.id s.chunks 0) × (w ≡ length (run_bytes (chunks_of w) x.id s.chunks 0))
  front_of w (inl none) = subst (λ k. IsFront (claimed s.sent) block x.version.length (run_bytes (chunks_of k) x.id s.chunks 0) × (k ≡ length (run_bytes (chunks_of k) x.id s.chunks 0))) (sym none) (front_none, refl)
  front_of w (inr all) = subst (λ k. IsFront (claimed s.sent) block x.version.length (run_bytes (chunks_of k) x.id s.chunks 0) × (k ≡ length (run_bytes (chunks_of k) x.id s.chunks 0))) (sym all.0) (front_all all.1, sym (all_length all.1))

-- ---- a draft

pub draft_inv : (s : State) (x : Instance) (a : Agenda) → HeldOf s.sent x.key x.version x.id s.chunks → AtRest s.sent s.disk s.closed_names false s.entries → draft_of s x ≡ Some a → InvOf s.sent s.disk a None s.closed_names false s.entries
draft_inv s x a held rest is = subst (λ b. InvOf s.sent s.disk b None s.closed_names false s.entries) facts.1 (by (drafted_with s x == 0))
  where
    facts : MayDraft s x × (record { name = name_of x.key; todo = drafting s x } ≡ a)
    facts = draft_is s x a is

    free : IsFree s (name_of x.key)
    free = free_is s (name_of x.key) facts.0.free

    back : ReadsBack x
    back = reads_back x facts.0.read_back

    front : IsFront (claimed s.sent) (padded (block_of x)) x.version.length (run_bytes (chunks_of (drafted_with s x)) x.id s.chunks 0) × (drafted_with s x ≡ length (run_bytes (chunks_of (drafted_with s x)) x.id s.chunks 0))
    front = front_of s x held (padded (block_of x)) back.row back.reads back.key back.version (drafted_with s x) (drafts_of s x facts.0.first_run)

    by : (none : Bool) → InvOf s.sent s.disk (record { name = name_of x.key; todo = Do (Draft (file_of s x)) ∷ Do SyncDraft ∷ Do (Publish (name_of x.key)) ∷ Enter (new_entry x (drafted_with s x)) ∷ (elim none as (λ c. List Todo) [ true ↦ [] | false ↦ Acknowledge x.key x.version.tag x.version.length (drafted_with s x) ∷ [] ]) })
        None s.closed_names false s.entries
    by true = planned rest _ free.open_name (tt, (tt, (refl, (refl, refl, refl, refl, tt))))
        (draft_ahead s.sent s.entries (name_of x.key) (view_of (name_of x.key) s.disk) (rest.rests (name_of x.key) free.open_name).sound (rest.backed (name_of x.key)) free.none (new_entry x (drafted_with s x)) (padded (block_of x)) (run_bytes (chunks_of (drafted_with s x)) x.id s.chunks 0) back.row back.reads back.key back.version
        (block_full x facts.0.fits_block) front.0 front.1)
    by false = planned rest _ free.open_name (tt, (tt, (refl, (refl, refl, refl, refl, (refl, refl, refl, tt)))))
        (draft_noted_ahead s.sent s.entries (name_of x.key) (view_of (name_of x.key) s.disk) (rest.rests (name_of x.key) free.open_name).sound (rest.backed (name_of x.key)) free.none (new_entry x (drafted_with s x)) (padded (block_of x)) (run_bytes (chunks_of (drafted_with s x)) x.id s.chunks 0) back.row back.reads back.key back.version
        (block_full x facts.0.fits_block) front.0 front.1 x.key x.version.tag x.version.length)

-- ---- a seal

few_of : (run critical : ℕ) → run ≤ 64 → max 1 (min run (critical / 128)) ≤ 64
few_of run critical le = omega (arith, le)

first_is : (n gates extent : ℕ) → extent ≡ min n (4096 * gates) → extent < n → gates ≡ extent / 4096
first_is n gates extent is lt = omega (arith, is, lt)

module _ (s : State) (x : Instance) (e : Entry) (few : s.settings.disk_run ≤ 64) (held_bytes : HeldOf s.sent x.key x.version x.id s.chunks) (rest : AtRest s.sent s.disk s.closed_names false s.entries) (may : MaySeal s x e) where
  pub there : IsIn e s.entries × (is_kept_row_of x.key e ≡ true)
  there = in_find (is_kept_row_of x.key) e s.entries may.is_kept

  abbrev pub rests : Rests s.sent false s.entries e.name (view_of e.name s.disk)
  rests = rest.rests e.name may.open_name

  abbrev pub held : Held s.sent false e (view_of e.name s.disk)
  held = rests.held e there.0 refl

  e_key : e.key ≡ x.key
  e_key = same_bytes e.key x.key (second_holds (not e.is_stale) _ there.1)

  own : name_of x.key ≡ e.name
  own = ap name_of (sym e_key) ∙ rest.own e there.0

  size : len_of e ≡ x.version.length
  size = ap (λ w. w.length) (sym may.version)

  abbrev first : ℕ
  first = e.extent / chunk_len

  abbrev count : ℕ
  count = run_from s x e

  abbrev end : ℕ
  end = end_of_run x e (run_from s x e)

  abbrev bytes : Bytes
  bytes = run_bytes (run_from s x e) x.id s.chunks (e.extent / chunk_len)

  extent : e.extent ≡ min (len_of e) (4096 * held.gates)
  extent = held.lies.extent (kept_is_fresh x.key e there.1)

  gates_is : held.gates ≡ e.extent / chunk_len
  gates_is = first_is (len_of e) held.gates e.extent extent (subst (λ k. e.extent < k) (sym size) may.inside)

  extent_first : e.extent ≡ 4096 * (e.extent / chunk_len)
  extent_first = omega (arith, extent, gates_is, subst (λ k. e.extent < k) (sym size) may.inside)

  end_is : end_of_run x e (run_from s x e) ≡ min (len_of e) (4096 * (e.extent / chunk_len + run_from s x e))
  end_is = ap (λ k. min k (e.extent + run_from s x e * 4096)) (sym size) ∙ ap (min (len_of e)) (total (run_from s x e) (e.extent / chunk_len) extent_first)
    where
      total : (c f : ℕ) → e.extent ≡ 4096 * f → e.extent + c * 4096 ≡ 4096 * (f + c)
      total c f eq = omega (arith, eq)

  whole : AreWhole x.version.length x.id s.chunks (e.extent / chunk_len) (run_from s x e)
  whole = run_whole (run_len s) x.version.length x.id s.chunks (e.extent / chunk_len)

  some : 0 < run_from s x e
  some = below 0 (run_from s x e) (first_holds (nat_lt 0 (run_from s x e)) _ may.full)

  run : IsRun (claimed s.sent) held.lies.block (len_of e) (e.extent / chunk_len) (run_from s x e) (run_bytes (run_from s x e) x.id s.chunks (e.extent / chunk_len))
  run = record {
    some = some;
    few = omega (arith, run_most (run_len s) x.version.length x.id s.chunks (e.extent / chunk_len), few_of s.settings.disk_run s.settings.critical few);
    size = run_length x.version.length x.id s.chunks (e.extent / chunk_len) (run_from s x e) whole ∙ ap (λ k. min k (4096 * (e.extent / chunk_len + run_from s x e)) - 4096 * (e.extent / chunk_len)) (sym size);
    in_body = subst (λ k. 4096 * (e.extent / chunk_len + run_from s x e - 1) < k) (sym size) (run_inside x.version.length x.id s.chunks (e.extent / chunk_len) (run_from s x e) whole some);
    sent_all = λ o lt. run_claimed s.sent x.key x.version x.version.length x.id s.chunks held_bytes held.lies.block held.lies.row held.lies.reads (held.lies.key ∙ e_key) (held.lies.version ∙ sym may.version) (e.extent / chunk_len) (run_from s x e) whole o lt;
  }

  sealing_inv : InvOf s.sent s.disk (record { name = e.name; todo = sealing s x e (run_from s x e) }) None s.closed_names false s.entries
  sealing_inv = planned rest _ may.open_name (refl, (refl, (refl, (refl, (refl, own, refl, tt))))) (subst (λ k. Ahead s.sent false s.entries e.name (Do (Write e.name (body_at k + 4096 * first) bytes) ∷ Do (Sync e.name) ∷ Do (Write e.name (8192 + first) (replicate count 1)) ∷ Do (Sync e.name) ∷ Acknowledge x.key x.version.tag x.version.length end ∷ []) (view_of e.name s.disk)) size
      (seal_ahead rests e there.0 refl first count end bytes gates_is run end_is x.key x.version.tag x.version.length there.1))

  -- at each moment of it a crash leaves an entry that reaches as far
  pub seal_keeps : During e.name (view_of e.name s.disk) (seal_ops e.name x.version.length (e.extent / chunk_len) (run_from s x e) (run_bytes (run_from s x e) x.id s.chunks (e.extent / chunk_len)))
      (AllLeft (IsHonest (claimed s.sent) held.lies.block (len_of e) (min (len_of e) (4096 * held.gates))))
  seal_keeps =
      subst (λ g. During e.name (view_of e.name s.disk) (seal_ops e.name x.version.length first count bytes) (AllLeft (IsHonest (claimed s.sent) held.lies.block (len_of e) (min (len_of e) (4096 * g))))) (sym gates_is)
      (subst (λ k. During e.name (view_of e.name s.disk) (seal_ops e.name k first count bytes) (AllLeft (IsHonest (claimed s.sent) held.lies.block (len_of e) (min (len_of e) (4096 * first))))) size
      (seal_each rests e there.0 refl first count end bytes gates_is run end_is))

pub seal_inv : (s : State) (x : Instance) (a : Agenda) → s.settings.disk_run ≤ 64 → HeldOf s.sent x.key x.version x.id s.chunks → AtRest s.sent s.disk s.closed_names false s.entries → seal_of s x ≡ Some a → InvOf s.sent s.disk a None s.closed_names false s.entries
seal_inv s x a few held_bytes rest is = let r = seal_is s x a is in subst (λ b. InvOf s.sent s.disk b None s.closed_names false s.entries) r.2 (sealing_inv s x r.0 few held_bytes rest r.1)
