-- Stray gates: the operations that close them, and what stands after them.
use Rattle.std.proofs.Common.{◌≡◌, ℕ, zero, suc, ◌+◌, ◌-◌, ◌<◌, ◌≤◌, Bool, true, false, ◌||◌, List, [], ◌∷◌, ◌++◌, length, replicate, Option, Some, refl, sym, ◌∙◌, ap, subst, arith}
use Rattle.std.specs.Prelude.{Result, is_ok, OnOk, IsErr, cond}
use Rattle.std.specs.List.{flat_map, list_any, range_with_len}
use Rattle.std.proofs.lemmas.Grind.{flat_map-append}
use Rattle.std.proofs.lemmas.List.{append-nil}
use Rattle.std.proofs.lemmas.List.Folds.{list_any-append}
use Rattle.pp_world.specs.declared.op.DiskOp.{DiskOp}
use Rattle.pp_world.specs.declared.op.DiskOp.TheVariants.{Write, Sync}
use Rattle.pp_world.specs.declared.disk.DiskFault.{DiskFault}
use Rattle.pp_world.specs.Log.{Log, Told, AppendsAll}
use Rattle.pp_world.specs.Disk.{Bytes, Stored, View, loosened, written, Reaches, op_happenings}
use Rattle.pp_gate.specs.Runs.{RunsOps}
use Rattle.pp_gate.proofs.Views.{told_map, told_after, runs_none, runs_one, runs_last, on_ok}
use Rattle.pp_gate.proofs.Images.{length-splice}
use Rattle.pp_gate.proofs.Ops.{write_slot}
use Rattle.pp_gate.proofs.SealLemmas.{err_not_ok}
use Rattle.pp_recover.specs.Closing.{RestsTo, begins, close_from, close_at, closing, has_strays, open_from, writes_over}
use Rattle.pp_recover.proofs.RunLemmas.{runs_then, runs_cut}

pub rests_reaches : (log : Option Log) (name : Bytes) (least at : ℕ) → at ≤ least → Told log (RestsTo name least) → Told log (Reaches name at)
rests_reaches log name least at le told = told_map log (RestsTo name least) (Reaches name at) told (λ l r. (r.0, r.1, omega (arith, r.2, le)))

pub close_runs : (old new : Option Log) (name : Bytes) (at : ℕ) (x y : Bytes) (r : Result (Unit {0}) DiskFault) → x ≡ y → AppendsAll old new (λ l. op_happenings (Write name at x) r)
    → RunsOps old new (Write name at y ∷ []) (is_ok r)
close_runs old new name at x y r same call = subst (λ (z : Bytes). RunsOps old new (Write name at z ∷ []) (is_ok r)) same (runs_one old new (Write name at x) r call)

RestsIn : ℕ → View → Type 0
RestsIn least v = (file : Stored) × (v.slot ≡ Some file ∷ []) × (least ≤ length file.bytes)

-- a file that was written over is no shorter
longer : (at least : ℕ) (x : Bytes) (from to : ℕ) (f : Stored) → at ≤ length f.bytes → least ≤ length f.bytes → least ≤ length (written at x (loosened from to f)).bytes
unfolding written loosened
longer at least x from to f within le = omega (arith, le, length-splice at x f.bytes within)

pub close_rests : (old new : Option Log) (name gates : Bytes) (i : ℕ) (r : Result (Unit {0}) DiskFault) → i < length gates → Told old (RestsTo name (8192 + length gates)) → RunsOps old new (close_from name gates i ∷ []) (is_ok r) → OnOk r (Told new (RestsTo name (8192 + length gates)))
unfolding RestsIn
close_rests old new name gates i r lt told runs = on_ok old new (close_from name gates i ∷ []) r (Told new (RestsTo name (8192 + length gates))) runs
    (λ all. told_after old new (close_from name gates i ∷ []) name (RestsIn (8192 + length gates)) (RestsIn (8192 + length gates)) told all
    (λ v w. (
      written (8192 + i) (replicate (open_from gates i) 0) (loosened (8192 + i) (8192 + i + length (replicate {A = ℕ} (open_from gates i) 0)) w.0),
      write_slot name (8192 + i) (replicate (open_from gates i) 0) w.0 v w.1,
      longer (8192 + i) (8192 + length gates) (replicate (open_from gates i) 0) _ _ w.0 (omega (arith, w.2, lt)) w.2,
    )))

-- the runs, one after another
pub range_split : (a n m : ℕ) → range_with_len a (n + m) ≡ range_with_len a n ++ range_with_len (a + n) m
range_split a zero m =
    let none : zero + m ≡ m = omega arith in
    let same : a ≡ a + zero = omega arith in
    ap (range_with_len a) none ∙ ap (λ (b : ℕ). range_with_len b m) same
range_split a (suc n) m =
    let one : suc n + m ≡ suc (n + m) = omega arith in
    let same : (a + 1) + n ≡ a + suc n = omega arith in
    ap (range_with_len a) one ∙ ap (λ (rest : List ℕ). a ∷ rest) (range_split (a + 1) n m ∙ ap (λ (b : ℕ). range_with_len (a + 1) n ++ range_with_len b m) same)

pub close_below : Bytes → Bytes → ℕ → List DiskOp
close_below name gates i = flat_map (close_at name gates) (range_with_len 0 i)

pub below_more : (name gates : Bytes) (i : ℕ) → close_below name gates (i + 1) ≡ close_below name gates i ++ close_at name gates i
unfolding close_below
below_more name gates i =
    ap (flat_map (close_at name gates)) (range_split 0 i 1)
    ∙ flat_map-append (close_at name gates) (range_with_len 0 i) (range_with_len (0 + i) 1)
    ∙ ap (λ (ops : List DiskOp). close_below name gates i ++ ops) (append-nil (close_at name gates (0 + i)) ∙ ap (close_at name gates) from_zero)
  where
    from_zero : 0 + i ≡ i
    from_zero = omega arith

pub below_all : (name gates : Bytes) (i : ℕ) → i ≤ length gates → (rest : List DiskOp) × (writes_over name gates ≡ close_below name gates i ++ rest)
unfolding close_below writes_over
below_all name gates i le =
    let parts : length gates ≡ i + (length gates - i) = omega (arith, le) in (
      flat_map (close_at name gates) (range_with_len (0 + i) (length gates - i)),
      ap (λ (k : ℕ). flat_map (close_at name gates) (range_with_len 0 k)) parts ∙ ap (flat_map (close_at name gates)) (range_split 0 i (length gates - i)) ∙ flat_map-append (close_at name gates) (range_with_len 0 i) (range_with_len (0 + i) (length gates - i)),
    )

pub below_whole : (name gates : Bytes) → close_below name gates (length gates) ≡ writes_over name gates
unfolding close_below writes_over
below_whole name gates = refl

close_one : (name gates : Bytes) (i : ℕ) (b : Bool) → begins gates i ≡ b → close_at name gates i ≡ cond b (close_from name gates i ∷ []) []
close_one name gates i b is = ap (λ (t : Bool). cond t (close_from name gates i ∷ []) []) is

pub closed_same : (old mid : Option Log) (name gates : Bytes) (i : ℕ) → RunsOps old mid (close_below name gates i) true → begins gates i ≡ false → RunsOps old mid (close_below name gates (i + 1)) true
closed_same old mid name gates i so_far is = subst (λ (ops : List DiskOp). RunsOps old mid ops true)
    (sym (below_more name gates i ∙ ap (λ (ops : List DiskOp). close_below name gates i ++ ops) (close_one name gates i false is) ∙ append-nil (close_below name gates i)))
    so_far

module _ (old mid new : Option Log) (name gates : Bytes) (i : ℕ) where
  pub closed_more : (ok : Bool) → RunsOps old mid (close_below name gates i) true → begins gates i ≡ true → RunsOps mid new (close_from name gates i ∷ []) ok → RunsOps old new (close_below name gates (i + 1)) ok
  closed_more ok so_far is call = subst (λ (ops : List DiskOp). RunsOps old new ops ok)
      (sym (below_more name gates i ∙ ap (λ (ops : List DiskOp). close_below name gates i ++ ops) (close_one name gates i true is)))
      (runs_then old mid new (close_below name gates i) (close_from name gates i ∷ []) ok so_far call)

  pub closed_failed : {A : Type 0} (r : Result A DiskFault) → i < length gates → IsErr r → RunsOps old mid (close_below name gates i) true → begins gates i ≡ true → RunsOps mid new (close_from name gates i ∷ []) false → RunsOps old new (writes_over name gates) (is_ok r)
  closed_failed r lt failed so_far is call =
      let all = below_all name gates (i + 1) (omega (arith, lt)) in
      subst (λ (ok : Bool). RunsOps old new (writes_over name gates) ok) (sym (err_not_ok r failed))
      (subst (λ (ops : List DiskOp). RunsOps old new ops false) (sym all.1)
      (runs_cut old new (close_below name gates (i + 1)) all.0 (closed_more false so_far is call)))

pub closed_whole : (old new : Option Log) (name gates : Bytes) (i : ℕ) → length gates ≤ i → i ≤ length gates → RunsOps old new (close_below name gates i) true → RunsOps old new (writes_over name gates) true
closed_whole old new name gates i over within runs =
    let same : i ≡ length gates = omega (arith, over, within) in
    subst (λ (ops : List DiskOp). RunsOps old new ops true) (ap (close_below name gates) same ∙ below_whole name gates) runs

pub closed_none : (log : Option Log) (name gates : Bytes) → RunsOps log log (close_below name gates 0) true
unfolding close_below
closed_none log name gates = runs_none log

-- ---- and the sync behind them

closing_is : (name gates : Bytes) (b : Bool) → has_strays gates ≡ b → closing name gates ≡ cond b (writes_over name gates ++ Sync name ∷ []) []
unfolding closing
closing_is name gates b is = ap (λ (t : Bool). cond t (writes_over name gates ++ Sync name ∷ []) []) is

pub closing_none : (log : Option Log) (name gates : Bytes) → has_strays gates ≡ false → RunsOps log log (closing name gates) true
closing_none log name gates is = subst (λ (ops : List DiskOp). RunsOps log log ops true) (sym (closing_is name gates false is)) (runs_none log)

pub closing_cut : {A : Type 0} (old new : Option Log) (name gates : Bytes) (r : Result A DiskFault) → has_strays gates ≡ true → IsErr r → RunsOps old new (writes_over name gates) false → RunsOps old new (closing name gates) (is_ok r)
closing_cut old new name gates r is failed runs = subst (λ (ok : Bool). RunsOps old new (closing name gates) ok) (sym (err_not_ok r failed))
    (subst (λ (ops : List DiskOp). RunsOps old new ops false) (sym (closing_is name gates true is)) (runs_cut old new (writes_over name gates) (Sync name ∷ []) runs))

pub closing_synced : (old mid new : Option Log) (name gates : Bytes) (r : Result (Unit {0}) DiskFault) → has_strays gates ≡ true → RunsOps old mid (writes_over name gates) true → AppendsAll mid new (λ l. op_happenings (Sync name) r)
    → RunsOps old new (closing name gates) (is_ok r)
closing_synced old mid new name gates r is runs call =
    subst (λ (ops : List DiskOp). RunsOps old new ops (is_ok r)) (sym (closing_is name gates true is)) (runs_last old mid new (writes_over name gates) (Sync name) r runs call)

-- ---- whether there are any

pub strays_below : Bytes → ℕ → Bool
strays_below gates i = list_any (begins gates) (range_with_len 0 i)

pub below_none : (gates : Bytes) → strays_below gates 0 ≡ false
unfolding strays_below
below_none gates = refl

strays_split : (gates : Bytes) (i k : ℕ) → strays_below gates (i + k) ≡ (strays_below gates i || list_any (begins gates) (range_with_len i k))
unfolding strays_below
strays_split gates i k =
    ap (list_any (begins gates)) (range_split 0 i k) ∙ list_any-append (begins gates) (range_with_len 0 i) (range_with_len (0 + i) k)
    ∙ ap (λ (j : ℕ). list_any (begins gates) (range_with_len 0 i) || list_any (begins gates) (range_with_len j k)) from_zero
  where
    from_zero : 0 + i ≡ i
    from_zero = omega arith

or_false : (a b : Bool) → a ≡ false → b ≡ false → (a || (b || false)) ≡ false
or_false a b one two = ap (λ (c : Bool). c || (b || false)) one ∙ ap (λ (c : Bool). c || false) two

or_true : (a b c : Bool) → b ≡ true → (a || (b || c)) ≡ true
or_true true b c is = refl
or_true false b c is = ap (λ (d : Bool). d || c) is

pub below_next : (gates : Bytes) (i : ℕ) → strays_below gates i ≡ false → begins gates i ≡ false → strays_below gates (i + 1) ≡ false
below_next gates i none is = strays_split gates i 1 ∙ or_false (strays_below gates i) (begins gates i) none is

pub strays_here : (gates : Bytes) (i : ℕ) → i < length gates → begins gates i ≡ true → has_strays gates ≡ true
unfolding has_strays strays_below
strays_here gates i lt is =
    ap (strays_below gates) (parts i lt)
    ∙ strays_split gates i (suc (length gates - i - 1))
    ∙ or_true (strays_below gates i) (begins gates i) (list_any (begins gates) (range_with_len (i + 1) (length gates - i - 1))) is
  where
    parts : (i : ℕ) → i < length gates → length gates ≡ i + suc (length gates - i - 1)
    parts i lt = omega (arith, lt)

pub strays_nowhere : (gates : Bytes) (i : ℕ) → length gates ≤ i → i ≤ length gates → strays_below gates i ≡ false → has_strays gates ≡ false
unfolding has_strays strays_below
strays_nowhere gates i over within none =
    let same : length gates ≡ i = omega (arith, over, within) in ap (strays_below gates) same ∙ none
