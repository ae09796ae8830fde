-- No run becomes full where nothing is brought behind what is kept.
use Rattle.std.proofs.Common.{◌≡◌, refl, sym, subst, ap, ap₂, ◌∙◌, ◌<◌, ◌≤◌, ℕ, zero, suc, ◌+◌, ◌-◌, ◌*◌, Bool, true, false, not, ◌&&◌, cond, List, Option, Some, None, arith}
use Rattle.std.specs.Prelude.{min, nat_le, nat_lt}
use Rattle.std.specs.List.{list_any}
use Rattle.pp_cache.specs.Holes.{first_from, hole_in, missing_from}
use Rattle.pp_cache.specs.Memory.{is_in_memory}
use Rattle.pp_keeping.specs.Runs.{full, full_run}
use Rattle.pp_keeps_law.proofs.Held.{up_to, up_to_true}
use Rattle.pp_keeps_law.specs.All.{AreAmong, HasNextRun}
use Rattle.pp_law.specs.Lists.{Bytes}
use Rattle.pp_laws.proofs.Tests.{below}
use Rattle.pp_objects.specs.Instances.{Instance, in_slot, is_same_id, is_there, total_at, total_of}
use Rattle.pp_objects.specs.declared.id.ObjectId.{ObjectId}
use Rattle.pp_seats.specs.Courses.{is_same_version}
use Rattle.pp_state.specs.Bringing.{instance_of}
use Rattle.pp_state.specs.declared.state.State.{State as Turn}
use Rattle.pp_store.specs.Kept.{Kept as KeptRow, KeptMap, kept_of}
use Rattle.pp_valid.specs.declared.version.Version.{Version}
use Rattle.pp_grown_law.specs.Less.{BringsNone, IsUnkept, NoneComesOfLess, bare, was}

-- ---- the first offset that is not held

first_less : (n at : ℕ) (a b : ℕ → Bool) → ((o : ℕ) → at ≤ o → o < at + n → a o ≡ true → b o ≡ true) → first_from n at (λ o. not (a o)) ≤ first_from n at (λ o. not (b o))
first_less zero at a b more = omega arith
first_less (suc n) at a b more = by (a at) refl (b at) refl (first_less n (at + 1) a b (λ o above under. more o (omega (arith, above)) (omega (arith, under))))
  where
    far : (n at : ℕ) (is : ℕ → Bool) → at ≤ first_from n at is
    far zero at is = omega arith
    far (suc n) at is = here (is at) (far n (at + 1) is)
      where
        here : (c : Bool) → at + 1 ≤ first_from n (at + 1) is → at ≤ cond c at (first_from n (at + 1) is)
        here true rest = omega arith
        here false rest = omega (arith, rest)

    by : (c : Bool) → a at ≡ c → (d : Bool) → b at ≡ d → first_from n (at + 1) (λ o. not (a o)) ≤ first_from n (at + 1) (λ o. not (b o))
        → cond (not c) at (first_from n (at + 1) (λ o. not (a o))) ≤ cond (not d) at (first_from n (at + 1) (λ o. not (b o)))
    by true ic true id rest = rest
    by true ic false id rest = absurd (let both : true ≡ false = sym (more at (omega arith) (omega arith) ic) ∙ id in cc both)
    by false ic true id rest = let behind : at + 1 ≤ first_from n (at + 1) (λ o. not (b o)) = far n (at + 1) (λ o. not (b o)) in omega (arith, behind)
    by false ic false id rest = omega arith

first_none : (n at : ℕ) (a : ℕ → Bool) → ((o : ℕ) → at ≤ o → o < at + n → a o ≡ false) → first_from n at (λ o. not (a o)) ≡ at
first_none zero at a none = refl
first_none (suc n) at a none = ap (λ (b : Bool). cond (not b) at (first_from n (at + 1) (λ o. not (a o)))) (none at (omega arith) (omega arith))

-- ---- a run

full_more : (run held more len : ℕ) → held ≤ more → full run held ≡ Some len → full run more ≡ Some len
full_more run held more len less is = by (nat_lt 0 run) (nat_le run held) refl is
  where
    by : (a b : Bool) → nat_le run held ≡ b → cond (a && b) (Some run) None ≡ Some len → cond (a && nat_le run more) (Some run) None ≡ Some len
    by true true ib eq = let long : run ≤ held = up_to run held ib in ap (λ (b : Bool). cond b (Some run) None) (up_to_true run more (omega (arith, long, less))) ∙ eq
    by true false ib eq = absurd (cc eq)
    by false b ib eq = absurd (cc eq)

full_some : (run held len : ℕ) → full run held ≡ Some len → 0 < held
full_some run held len is = by (nat_lt 0 run) refl (nat_le run held) refl is
  where
    by : (a : Bool) → nat_lt 0 run ≡ a → (b : Bool) → nat_le run held ≡ b → cond (a && b) (Some run) None ≡ Some len → 0 < held
    by true ia true ib eq = let some : 0 < run = below 0 run ia in let long : run ≤ held = up_to run held ib in omega (arith, some, long)
    by true ia false ib eq = absurd (cc eq)
    by false ia b ib eq = absurd (cc eq)

pub there_of : (id : ObjectId) (is : List Instance) (i : Instance) → instance_of id is ≡ Some i → (is_there id is ≡ true) × (in_slot id.slot is ≡ Some i)
there_of id is i found = by (is_there id is) refl found
  where
    by : (b : Bool) → is_there id is ≡ b → cond b (in_slot id.slot is) None ≡ Some i → (is_there id is ≡ true) × (in_slot id.slot is ≡ Some i)
    by true there here = (there, here)
    by false there here = absurd (cc here)

-- of an instance that is there
full_is : (p : Turn) (id : ObjectId) (i : Instance) (from : ℕ) → instance_of id p.cache.instances ≡ Some i
    → full_run p id i.version.length from ≡ full (min (4096 * p.run) (i.version.length - from)) (missing_from id.slot i.version.length from p.cache.chunks - from)
full_is p id i from found =
    let at : (is_there id p.cache.instances ≡ true) × (in_slot id.slot p.cache.instances ≡ Some i) = there_of id p.cache.instances i found in
    ap (λ (b : Bool). full (min (4096 * p.run) (i.version.length - from)) ((cond b (hole_in id.slot (total_at id.slot p.cache.instances) from p.cache.chunks) (from, from)).0 - from)) at.0
    ∙ ap (λ (o : Option Instance). full (min (4096 * p.run) (i.version.length - from)) (missing_from id.slot (total_of o) from p.cache.chunks - from)) at.1

-- ---- all

module _ (p q : Turn) (shelf new : KeptMap) (run : q.run ≡ p.run) (kept : (key : Bytes) (k : KeptRow) → kept_of key new ≡ Some k → kept_of key shelf ≡ Some k) (id : ObjectId) (j : Instance) (found : instance_of id q.cache.instances ≡ Some j) (next : HasNextRun q new id j) where
  abbrev n : ℕ
  n = j.version.length

  abbrev from : ℕ
  from = next.kept.extent

  abbrev held_in : Turn → ℕ → Bool
  held_in t o = is_in_memory id.slot o t.cache.chunks

  run_in : full (min (4096 * q.run) (n - from)) (missing_from id.slot n from q.cache.chunks - from) ≡ Some next.len
  run_in = sym (full_is q id j from found) ∙ next.next.full

  unkept_at : (o : ℕ) → min from n ≤ o → o < min from n + (n - from) → held_in q o ≡ true → IsUnkept q new id j.key o
  unkept_at o above under held = record { kept = next.kept; there = next.next.there; behind = omega (arith, above, under); held = held }

  was_so : (i : Instance) → instance_of id p.cache.instances ≡ Some i → i.is_retired ≡ false → i.key ≡ j.key → i.version ≡ j.version → ((o : ℕ) → IsUnkept q new id j.key o → held_in p o ≡ true) → HasNextRun p shelf id i
  was_so i there row key version bytes =
      let less : missing_from id.slot n from q.cache.chunks ≤ missing_from id.slot n from p.cache.chunks = first_less (n - from) (min from n) (held_in q) (held_in p) (λ o above under held. bytes o (unkept_at o above under held)) in
      let more : full (min (4096 * q.run) (n - from)) (missing_from id.slot n from p.cache.chunks - from) ≡ Some next.len =
      full_more (min (4096 * q.run) (n - from)) (missing_from id.slot n from q.cache.chunks - from) (missing_from id.slot n from p.cache.chunks - from) next.len (omega (arith, less)) run_in in
      let same : full (min (4096 * p.run) (i.version.length - from)) (missing_from id.slot i.version.length from p.cache.chunks - from) ≡ Some next.len =
      ap₂ (λ (r : ℕ) (v : Version). full (min (4096 * r) (v.length - from)) (missing_from id.slot v.length from p.cache.chunks - from)) (sym run) version ∙ more in
      record {
        kept = next.kept;
        len = next.len;
        next = record {
          row = row;
          there = kept i.key next.kept (ap (λ k. kept_of k new) key ∙ next.next.there);
          same = ap (λ (v : Version). is_same_version v next.kept.entry.version) version ∙ next.next.same;
          full = full_is p id i from there ∙ same;
        };
        body = subst (λ (v : Version). v.length ≤ 67108864) (sym version) next.body;
      }

  none_bare : ((o : ℕ) → IsUnkept q new id j.key o → ⊥) → ⊥
  none_bare never =
      let first : missing_from id.slot n from q.cache.chunks ≡ min from n = first_none (n - from) (min from n) (held_in q) (λ o above under. off (held_in q o) (λ held. never o (unkept_at o above under held))) in
      let some : 0 < missing_from id.slot n from q.cache.chunks - from = full_some (min (4096 * q.run) (n - from)) (missing_from id.slot n from q.cache.chunks - from) next.len run_in in
      omega (arith, first, some)
    where
      off : (b : Bool) → (b ≡ true → ⊥) → b ≡ false
      off true isnt = absurd (isnt refl)
      off false isnt = refl

  pub among_so : (ids : List ObjectId) → AreAmong ids p shelf → BringsNone p q new id j → list_any (is_same_id id) ids ≡ true
  among_so ids among (was i there row key version bytes) = among id i there (was_so i there row key version bytes)
  among_so ids among (bare never) = absurd (none_bare never)

pub none_comes_of_less : NoneComesOfLess
none_comes_of_less ids p q shelf new brings among id j found next = among_so p q shelf new brings.run brings.kept id j found next ids among (brings.rows id j found next.next.row)
