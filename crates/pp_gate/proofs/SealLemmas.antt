-- Each step of sealing chunks.
use Rattle.std.proofs.Common.{◌≡◌, ◌≢◌, ◌⊎◌, ⊎_elim, ℕ, ◌+◌, ◌*◌, ◌-◌, ◌<◌, ◌≤◌, Bool, true, false, [], ◌∷◌, length, take, get_or, replicate, refl, sym, ◌∙◌, ap, subst, arith, Option, Some}
use Rattle.std.specs.Prelude.{◌^◌, min, Result, Ok, Err, IsErr, is_ok}
use Rattle.std.proofs.lemmas.List.{get_or-take, length-take-le, get_or-replicate}
use Rattle.std.proofs.Math.ListN.{length-replicate}
use Rattle.pp_world.specs.declared.op.DiskOp.TheVariants.{Write, Sync}
use Rattle.pp_world.specs.declared.happening.Happening.TheVariants.{Began, Did}
use Rattle.pp_world.specs.declared.disk.DiskFault.{DiskFault}
use Rattle.pp_world.specs.Log.{Log, Told, AppendsAll}
use Rattle.pp_world.specs.Disk.{Bytes, View, Stored, settled, splice, view_of, Reaches, op_happenings}
use Rattle.pp_entry.specs.Texts.{body_at, chunks_of}
use Rattle.pp_gate.specs.Files.{gate, body}
use Rattle.pp_gate.specs.Runs.{During, RunsOps, EachMoment}
use Rattle.pp_gate.specs.Seal.{IsKept, KeepsIn, Keeps, IsRun, IsHonest, StaysHonest, seal_ops}
use Rattle.pp_gate.proofs.Views.{done_view, told_after, told_map, moments, runs_none, runs_more, runs_failed, runs_last}
use Rattle.pp_gate.proofs.Images.{Torn, list_ext, length-splice, splice_before, splice_in, written_torn}
use Rattle.pp_gate.proofs.Ops.{AllLeft, write_then_sync, write_sync_slot, all_settled}
use Rattle.pp_gate.proofs.GateLemmas.{honest_between}
use Rattle.pp_gate.proofs.PlaceLemmas.{gates_below}

-- as far as the head is, two files are the same where their bytes are
pub same_head : (a b : Bytes) → 8192 ≤ length a → 8192 ≤ length b → ((o : ℕ) → o < 8192 → get_or a o 0 ≡ get_or b o 0) → take 8192 a ≡ take 8192 b
same_head a b la lb same = list_ext (take 8192 a) (take 8192 b)
    (length-take-le 8192 a la ∙ sym (length-take-le 8192 b lb))
    (λ o lt. let below : o < 8192 = omega (arith, lt, length-take-le 8192 a la) in get_or-take 8192 a o 0 below ∙ same o below ∙ sym (get_or-take 8192 b o 0 below))

-- what stands before a place in both stands in both gates, and in both bodies
pub gate_same : (c b : Bytes) (i : ℕ) → get_or c (8192 + i) 0 ≡ get_or b (8192 + i) 0 → gate c i ≡ gate b i
unfolding gate
gate_same c b i is = is

pub body_same : (n : ℕ) (c b : Bytes) (o : ℕ) → get_or c (body_at n + o) 0 ≡ get_or b (body_at n + o) 0 → body n c o ≡ body n b o
unfolding body
body_same n c b o is = is

-- one of the bytes that were written
pub body_new : (n : ℕ) (c x : Bytes) (o k : ℕ) → get_or c (body_at n + o) 0 ≡ get_or x k 0 → body n c o ≡ get_or x k 0
unfolding body
body_new n c x o k is = is

pub gate_new : (c x : Bytes) (i k : ℕ) → get_or c (8192 + i) 0 ≡ get_or x k 0 → gate c i ≡ get_or x k 0
unfolding gate
gate_new c x i k is = is

module _ (P : Bytes → ℕ → ℕ → Bool) (block : Bytes) (n first m : ℕ) (bytes base : Bytes) (kept : IsKept block n first base)
    (holds : (o : ℕ) → o < min n (4096 * first) → P block o (body n base o) ≡ true) (run : IsRun P block n first m bytes) where
  within : first + m ≤ chunks_of n
  within = omega (arith, run.some, run.in_body)

  old_extent : min n (4096 * first) ≡ 4096 * first
  old_extent = omega (arith, run.some, run.in_body)

  pub reach : body_at n + 4096 * first ≤ length base
  reach = omega (arith, kept.long, old_extent)

  new_size : 4096 * first + length bytes ≡ min n (4096 * (first + m))
  new_size = omega (arith, run.size, run.some, run.in_body)

  -- the file with the new body
  abbrev pub with_body : Bytes
  with_body = splice (body_at n + 4096 * first) bytes base

  -- and with its gates
  abbrev pub with_gates : Bytes
  with_gates = splice (8192 + first) (replicate m 1) with_body

  -- while the body is written, nothing below it changes
  pub body_torn : (c : Bytes) → Torn (body_at n + 4096 * first) (body_at n + 4096 * first + length bytes) base c → IsHonest P block n (min n (4096 * first)) (Some c)
  body_torn c torn =
      let fits : first ≤ chunks_of n = omega (arith, within) in
      let same : (o : ℕ) → o < body_at n + 4096 * first → get_or c o 0 ≡ get_or base o 0 = λ o lt. torn.before o (omega (arith, lt, reach)) lt in
      let gates : (i : ℕ) → i < chunks_of n → gate c i ≡ gate base i = λ i lt. gate_same c base i (same (8192 + i) (omega (arith, lt, gates_below n))) in
      honest_between P block n first first c (omega arith) fits
      (same_head c base (omega (arith, torn.no_shorter, reach, gates_below n)) (omega (arith, reach, gates_below n)) (λ o lt. same o (omega (arith, lt, gates_below n))) ∙ kept.head)
      (λ i lt. gates i (omega (arith, lt, fits)) ∙ kept.is_open i lt)
      (λ i le lt is. kept.is_closed i le lt (sym (gates i lt) ∙ is))
      (omega (arith, kept.long, torn.no_shorter))
      (omega (arith, kept.short, torn.no_longer, new_size))
      (λ o lt. subst (λ (x : ℕ). P block o x ≡ true) (sym (body_same n c base o (same (body_at n + o) (omega (arith, lt, old_extent))))) (holds o lt))

  length_body : body_at n + min n (4096 * (first + m)) ≤ length with_body
  length_body = omega (arith, length-splice (body_at n + 4096 * first) bytes base reach, new_size)

  short_body : length with_body ≤ body_at n + n
  short_body = omega (arith, length-splice (body_at n + 4096 * first) bytes base reach, new_size, kept.short)

  -- a byte of the new body is true
  true_body : (o : ℕ) → o < min n (4096 * (first + m)) → P block o (body n with_body o) ≡ true
  true_body o lt = ⊎_elim
      (λ (below : o < 4096 * first). subst (λ (x : ℕ). P block o x ≡ true)
      (sym (body_same n with_body base o (splice_before (body_at n + 4096 * first) bytes base reach (body_at n + o) (omega (arith, below)))))
      (holds o (omega (arith, below, old_extent))))
      (λ (above : 4096 * first ≤ o). subst (λ (x : ℕ). P block o x ≡ true)
      (sym (body_new n with_body bytes o (o - 4096 * first)
      (splice_in (body_at n + 4096 * first) bytes base reach (body_at n + o) (omega (arith, above)) (omega (arith, lt, new_size)) ∙ ap (λ (k : ℕ). get_or bytes k 0) (index o above))))
      (subst (λ (k : ℕ). P block k (get_or bytes (o - 4096 * first) 0) ≡ true) (back o above) (run.sent_all (o - 4096 * first) (omega (arith, lt, new_size, above)))))
      (split o (4096 * first))
    where
      split : (a b : ℕ) → (a < b) ⊎ (b ≤ a)
      split a b = grind arith

      index : (o : ℕ) → 4096 * first ≤ o → (body_at n + o) - (body_at n + 4096 * first) ≡ o - 4096 * first
      index o above = omega arith

      back : (o : ℕ) → 4096 * first ≤ o → 4096 * first + (o - 4096 * first) ≡ o
      back o above = omega arith

  low_same : (o : ℕ) → o < body_at n + 4096 * first → get_or with_body o 0 ≡ get_or base o 0
  low_same o lt = splice_before (body_at n + 4096 * first) bytes base reach o lt

  gates_fit : 8192 + first ≤ length with_body
  gates_fit = omega (arith, length_body, gates_below n, within)

  -- of an image in which only the new gates may differ
  module _ (c : Bytes) (torn : Torn (8192 + first) (8192 + first + m) with_body c) where
    torn_head : take 8192 c ≡ block
    torn_head =
        same_head c base (omega (arith, torn.no_shorter, length_body, gates_below n)) (omega (arith, reach, gates_below n))
        (λ o lt. torn.before o (omega (arith, lt, gates_fit)) (omega (arith, lt)) ∙ low_same o (omega (arith, lt, gates_below n)))
        ∙ kept.head

    torn_open : (i : ℕ) → i < first → gate c i ≡ 1
    torn_open i lt =
        gate_same c base i (torn.before (8192 + i) (omega (arith, lt, gates_fit)) (omega (arith, lt)) ∙ low_same (8192 + i) (omega (arith, lt, gates_below n, within)))
        ∙ kept.is_open i lt

    torn_closed : (i : ℕ) → first + m ≤ i → i < chunks_of n → gate c i ≢ 1
    torn_closed i le lt is = kept.is_closed i (omega (arith, le)) lt
        (sym (gate_same c base i (torn.after (8192 + i) (omega (arith, lt, length_body, gates_below n)) (omega (arith, le)) ∙ low_same (8192 + i) (omega (arith, lt, gates_below n)))) ∙ is)

    torn_holds : (o : ℕ) → o < min n (4096 * (first + m)) → P block o (body n c o) ≡ true
    torn_holds o lt = subst (λ (x : ℕ). P block o x ≡ true)
        (sym (body_same n c with_body o (torn.after (body_at n + o) (omega (arith, lt, length_body)) (omega (arith, gates_below n, within)))))
        (true_body o lt)

    torn_short : length c ≤ body_at n + n
    torn_short = omega (arith, torn.no_longer, short_body, gates_below n, within)

    pub gates_torn : IsHonest P block n (min n (4096 * first)) (Some c)
    gates_torn = honest_between P block n first (first + m) c (omega arith) within torn_head torn_open torn_closed (omega (arith, torn.no_shorter, length_body)) torn_short torn_holds

  gates_torn_by : Torn (8192 + first) (8192 + first + length (replicate {A = ℕ} m 1)) with_body with_gates → Torn (8192 + first) (8192 + first + m) with_body with_gates
  gates_torn_by torn = subst (λ (k : ℕ). Torn (8192 + first) (8192 + first + k) with_body with_gates) (length-replicate m 1) torn

  -- the sealed file
  last_torn : Torn (8192 + first) (8192 + first + m) with_body with_gates
  last_torn = gates_torn_by (written_torn (8192 + first) (replicate m 1) with_body gates_fit)

  pub sealed : IsKept block n (first + m) with_gates
  sealed = record {
    head = torn_head with_gates last_torn;
    is_open = λ i lt. ⊎_elim
        (λ (below : i < first). torn_open with_gates last_torn i below)
        (λ (above : first ≤ i).
        gate_new with_gates (replicate m 1) i (i - first)
        (splice_in (8192 + first) (replicate m 1) with_body gates_fit (8192 + i) (omega (arith, above)) (omega (arith, lt, length-replicate {A = ℕ} m 1)) ∙ ap (λ (k : ℕ). get_or (replicate m 1) k 0) (index i above))
        ∙ get_or-replicate m (i - first) 1 0 (omega (arith, lt, above)))
        (split i first);
    is_closed = λ i le lt. torn_closed with_gates last_torn i le lt;
    within = within;
    long = omega (arith, last_torn.no_shorter, length_body);
    short = torn_short with_gates last_torn;
  }
    where
      split : (a b : ℕ) → (a < b) ⊎ (b ≤ a)
      split a b = grind arith

      index : (i : ℕ) → first ≤ i → (8192 + i) - (8192 + first) ≡ i - first
      index i above = omega arith

  pub sealed_holds : (o : ℕ) → o < min n (4096 * (first + m)) → P block o (body n with_gates o) ≡ true
  sealed_holds o lt = torn_holds with_gates last_torn o lt

  -- each step of the seal
  pub seal_during : (name : Bytes) (v : View) → v.slot ≡ Some (settled base) ∷ [] → v.failed ≡ false → During name v (seal_ops name n first m bytes) (AllLeft (IsHonest P block n (min n (4096 * first))))
  seal_during name v is sound =
      write_then_sync name (body_at n + 4096 * first) bytes base v (Write name (8192 + first) (replicate m 1) ∷ Sync name ∷ []) (IsHonest P block n (min n (4096 * first))) is sound reach body_torn
      (λ w w_is w_sound. write_then_sync name (8192 + first) (replicate m 1) with_body w [] (IsHonest P block n (min n (4096 * first))) w_is w_sound gates_fit
      (λ c torn. gates_torn c (subst (λ (k : ℕ). Torn (8192 + first) (8192 + first + k) with_body c) (length-replicate m 1) torn))
      (λ u u_is u_sound. all_settled with_gates (IsHonest P block n (min n (4096 * first))) u u_is (gates_torn with_gates last_torn)))

  pub seal_done : (name : Bytes) (v : View) → v.slot ≡ Some (settled base) ∷ [] → v.failed ≡ false → KeepsIn P block n (first + m) (done_view name v (seal_ops name n first m bytes))
  seal_done name v is sound = record {
    bytes = with_gates;
    slot = write_sync_slot name (8192 + first) (replicate m 1) with_body (done_view name v (Write name (body_at n + 4096 * first) bytes ∷ Sync name ∷ []))
        (write_sync_slot name (body_at n + 4096 * first) bytes base v is sound) sound;
    sound = sound;
    kept = sealed;
    holds = sealed_holds;
  }

  pub body_done : (name : Bytes) (v : View) → v.slot ≡ Some (settled base) ∷ [] → v.failed ≡ false → (done_view name v (Write name (body_at n + 4096 * first) bytes ∷ Sync name ∷ [])).slot ≡ Some (settled with_body) ∷ []
  body_done name v is sound = write_sync_slot name (body_at n + 4096 * first) bytes base v is sound

pub settled_bytes : (b : Bytes) → (settled b).bytes ≡ b
unfolding settled
settled_bytes b = refl

-- the places that the two writes are at
pub body_reached : (log : Option Log) (P : Bytes → ℕ → ℕ → Bool) (name : Bytes) (block : Bytes) (n first m : ℕ) (bytes : Bytes) → Told log (Keeps P name block n first) → IsRun P block n first m bytes
    → (at : ℕ) → at ≡ body_at n + 4096 * first → Told log (Reaches name at)
body_reached log P name block n first m bytes told run at is = told_map log (Keeps P name block n first) (Reaches name at) told
    (λ l k. (settled k.bytes, k.slot, omega (arith, is, ap length (settled_bytes k.bytes), reach P block n first m bytes k.bytes k.kept k.holds run)))

pub gates_reached : (old mid : Option Log) (P : Bytes → ℕ → ℕ → Bool) (name : Bytes) (block : Bytes) (n first m : ℕ) (bytes : Bytes) → Told old (Keeps P name block n first) → IsRun P block n first m bytes
    → RunsOps old mid (Write name (body_at n + 4096 * first) bytes ∷ Sync name ∷ []) true → Told mid (Reaches name (8192 + first))
gates_reached old mid P name block n first m bytes told run runs =
    told_map mid (λ l. Reached (view_of name l)) (Reaches name (8192 + first))
    (told_after old mid (Write name (body_at n + 4096 * first) bytes ∷ Sync name ∷ []) name (KeepsIn P block n first) Reached told runs
    (λ v k. (
      settled (with_body P block n first m bytes k.bytes k.kept k.holds run),
      body_done P block n first m bytes k.bytes k.kept k.holds run name v k.slot k.sound,
      omega (arith, ap length (settled_bytes (with_body P block n first m bytes k.bytes k.kept k.holds run)), gates_fit P block n first m bytes k.bytes k.kept k.holds run),
    )))
    (λ l r. (r.0, r.1, r.2))
  where
    Reached : View → Type 0
    Reached v = (f : Stored) × (v.slot ≡ Some f ∷ []) × (8192 + first ≤ length f.bytes)

pub offset_fits : (P : Bytes → ℕ → ℕ → Bool) (block : Bytes) (n first m : ℕ) (bytes : Bytes) → n ≤ 2 ^ 26 → IsRun P block n first m bytes → body_at n + 4096 * first < 2 ^ 64
unfolding body_at
offset_fits P block n first m bytes le run = omega (arith, run.in_body, run.some)

-- the clauses of a seal
pub seal_moments : (old new : Option Log) (ok : Bool) (P : Bytes → ℕ → ℕ → Bool) (name : Bytes) (block : Bytes) (n first m : ℕ) (bytes : Bytes) → Told old (Keeps P name block n first) → IsRun P block n first m bytes
    → RunsOps old new (seal_ops name n first m bytes) ok → EachMoment old new (StaysHonest P name block n (min n (4096 * first)))
seal_moments old new ok P name block n first m bytes told run runs =
    moments old new (seal_ops name n first m bytes) ok name (KeepsIn P block n first) (λ v w. AllLeft (IsHonest P block n (min n (4096 * first))) w) told runs
    (λ v k. seal_during P block n first m bytes k.bytes k.kept k.holds run name v k.slot k.sound)

pub seal_keeps : (old new : Option Log) (P : Bytes → ℕ → ℕ → Bool) (name : Bytes) (block : Bytes) (n first m : ℕ) (bytes : Bytes) → Told old (Keeps P name block n first) → IsRun P block n first m bytes
    → RunsOps old new (seal_ops name n first m bytes) true → Told new (Keeps P name block n (first + m))
seal_keeps old new P name block n first m bytes told run runs =
    told_after old new (seal_ops name n first m bytes) name (KeepsIn P block n first) (KeepsIn P block n (first + m)) told runs
    (λ v k. seal_done P block n first m bytes k.bytes k.kept k.holds run name v k.slot k.sound)

-- the operations, call by call
pub body_runs : (old a b : Option Log) (name : Bytes) (n first at : ℕ) (bytes : Bytes) → at ≡ body_at n + 4096 * first → AppendsAll old a (λ l. (Began (Write name at bytes) ∷ Did (Write name at bytes) true ∷ [])) → AppendsAll a b (λ l. (Began (Sync name) ∷ Did (Sync name) true ∷ []))
    → RunsOps old b (Write name (body_at n + 4096 * first) bytes ∷ Sync name ∷ []) true
body_runs old a b name n first at bytes is one two =
    subst (λ (k : ℕ). RunsOps old b (Write name k bytes ∷ Sync name ∷ []) true) is
    (runs_more old a b (Write name at bytes ∷ []) (Sync name) (runs_more old old a [] (Write name at bytes) (runs_none old) one) two)

pub ones_taken : (m k one : ℕ) → m ≤ k → take m (replicate k one) ≡ replicate m one
ones_taken m k one le = list_ext (take m (replicate k one)) (replicate m one)
    (length-take-le m (replicate k one) (omega (arith, le, length-replicate k one)) ∙ sym (length-replicate m one))
    (λ o lt. let below : o < m = omega (arith, lt, length-take-le m (replicate k one) (omega (arith, le, length-replicate k one))) in get_or-take m (replicate k one) o 0 below ∙ get_or-replicate k o one 0 (omega (arith, below, le)) ∙ sym (get_or-replicate m o one 0 below))

pub err_not_ok : {A E : Type 0} (r : Result A E) → IsErr r → is_ok r ≡ false
err_not_ok (Ok a) bad = absurd (cc)
err_not_ok (Err e) is = refl

pub gates_failed : (old mid new : Option Log) (name : Bytes) (n first m : ℕ) (bytes x : Bytes) (r : Result (Unit {0}) DiskFault) → x ≡ replicate m 1 → IsErr r → RunsOps old mid (Write name (body_at n + 4096 * first) bytes ∷ Sync name ∷ []) true
    → AppendsAll mid new (λ l. (Began (Write name (8192 + first) x) ∷ Did (Write name (8192 + first) x) false ∷ [])) → RunsOps old new (seal_ops name n first m bytes) (is_ok r)
gates_failed old mid new name n first m bytes x r ones failed so_far call =
    subst (λ (ok : Bool). RunsOps old new (seal_ops name n first m bytes) ok) (sym (err_not_ok r failed))
    (subst (λ (y : Bytes). RunsOps old new (Write name (body_at n + 4096 * first) bytes ∷ Sync name ∷ Write name (8192 + first) y ∷ Sync name ∷ []) false) ones
    (runs_failed old mid new (Write name (body_at n + 4096 * first) bytes ∷ Sync name ∷ []) (Write name (8192 + first) x) (Sync name ∷ []) so_far call))

pub gates_done : (old mid last new : Option Log) (name : Bytes) (n first m : ℕ) (bytes x : Bytes) (r : Result (Unit {0}) DiskFault) → x ≡ replicate m 1 → RunsOps old mid (Write name (body_at n + 4096 * first) bytes ∷ Sync name ∷ []) true
    → AppendsAll mid last (λ l. (Began (Write name (8192 + first) x) ∷ Did (Write name (8192 + first) x) true ∷ [])) → AppendsAll last new (λ l. (op_happenings (Sync name) r)) → RunsOps old new (seal_ops name n first m bytes) (is_ok r)
gates_done old mid last new name n first m bytes x r ones so_far call sync =
    subst (λ (y : Bytes). RunsOps old new (Write name (body_at n + 4096 * first) bytes ∷ Sync name ∷ Write name (8192 + first) y ∷ Sync name ∷ []) (is_ok r)) ones
    (runs_last old last new (Write name (body_at n + 4096 * first) bytes ∷ Sync name ∷ Write name (8192 + first) x ∷ []) (Sync name) r
    (runs_more old mid last (Write name (body_at n + 4096 * first) bytes ∷ Sync name ∷ []) (Write name (8192 + first) x) so_far call) sync)
