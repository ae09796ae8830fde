-- What is asked for a follower has its next byte, where that is not held and does not come.
use Rattle.std.proofs.Common.{◌≡◌, refl, ℕ, zero, suc, ◌+◌, ◌-◌, ◌*◌, ◌/◌, ◌%◌, ◌<◌, ◌≤◌, nat_lt, nat_le, min, Bool, true, false, ◌==◌, ◌||◌, if◌then◌else◌, List, Option, Some, None, sym, subst, ap, ◌∙◌, le_refl, arith}
use Rattle.std.proofs.lemmas.Bool.Decides.{nat_tests}
use Rattle.std.proofs.lemmas.Nat.{div-add-mod'}
use Rattle.std.proofs.Math.Nat.{mod-lt}
use Rattle.pp_plan.specs.Need.{is_near, need}
use Rattle.pp_law.specs.Chunks.{chunk_len, filled}
use Rattle.pp_law.specs.Followers.{hole_of, need_of}
use Rattle.pp_law.specs.State.{State, Chunk}
use Rattle.pp_law.specs.Table.{Next, chunks_in, extent_of, held_to, is_brought, is_held_by, is_next_held, is_provided, next_held, next_run, reach}
use Rattle.pp_laws.proofs.Tests.{below, same_number}
use Rattle.pp_laws_ends.proofs.Ahead.{or_first, or_second}

not_below : (m n : ℕ) → nat_lt m n ≡ false → n ≤ m
not_below m n is = grind (arith, nat_tests)

below_so : (m n : ℕ) → m < n → nat_lt m n ≡ true
below_so m n lt = grind (arith, nat_tests)

within_so : (m n : ℕ) → m ≤ n → nat_le m n ≡ true
within_so m n le = grind (arith, nat_tests)

-- ---- chunks of 4,096

positive : 0 < 4096
positive = omega arith

parts : (at : ℕ) → at / 4096 * 4096 + at % 4096 ≡ at
parts at = div-add-mod' at 4096

part : (at : ℕ) → at % 4096 < 4096
part at = mod-lt at positive

between : (a b c : ℕ) → a ≤ b → b ≤ c → a / 4096 ≡ c / 4096 → b / 4096 ≡ c / 4096
between a b c one two is =
    let ea : a / 4096 * 4096 + a % 4096 ≡ a = parts a in
    let eb : b / 4096 * 4096 + b % 4096 ≡ b = parts b in
    let ec : c / 4096 * 4096 + c % 4096 ≡ c = parts c in
    let la : a % 4096 < 4096 = part a in
    let lb : b % 4096 < 4096 = part b in
    let lc : c % 4096 < 4096 = part c in
    omega arith

in_front_of : (from at n : ℕ) → from / 4096 ≡ at / 4096 → at < from / 4096 * 4096 + n → at % 4096 < n
in_front_of from at n is lt = let e : at / 4096 * 4096 + at % 4096 ≡ at = parts at in omega arith

front_of : (at : ℕ) → at / 4096 * 4096 ≤ at
front_of at = let e : at / 4096 * 4096 + at % 4096 ≡ at = parts at in omega arith

front_in : (at : ℕ) → (at / 4096 * 4096) / 4096 ≡ at / 4096
front_in at =
    let e : at / 4096 * 4096 + at % 4096 ≡ at = parts at in
    let f : (at / 4096 * 4096) / 4096 * 4096 + (at / 4096 * 4096) % 4096 ≡ at / 4096 * 4096 = parts (at / 4096 * 4096) in
    let l : (at / 4096 * 4096) % 4096 < 4096 = part (at / 4096 * 4096) in
    omega arith

next_chunk : (at : ℕ) → at < (at / 4096 + 1) * 4096
next_chunk at = let e : at / 4096 * 4096 + at % 4096 ≡ at = parts at in let lt : at % 4096 < 4096 = part at in omega arith

-- ---- what is passed over is held

no_less : {m n : ℕ} → m < n → n ≤ m → ⊥
no_less lt le = omega arith

reach_held : (more id extent : ℕ) (chunks : List Chunk) (from at : ℕ) → from ≤ at → from / 4096 ≡ at / 4096 → at < reach more id extent chunks from → is_held_by id extent chunks at ≡ true
reach_held zero id extent chunks from at le is lt = absurd (no_less lt le)
reach_held (suc more) id extent chunks from at le is lt = under (nat_lt from extent) refl (nat_lt (from % chunk_len) (filled id (from / chunk_len) chunks)) refl (filled id (from / chunk_len) chunks == chunk_len) refl (λ ge same on. reach_held more id extent chunks extent at ge same on) lt
  where
    here : at % 4096 < filled id (from / 4096) chunks → is_held_by id extent chunks at ≡ true
    here less = or_second (nat_lt at extent) _ (below_so (at % 4096) (filled id (at / 4096) chunks) (subst (λ i. at % 4096 < filled id i chunks) is less))

    over : from < extent → (b : Bool) → nat_lt at extent ≡ b → (extent ≤ at → extent / 4096 ≡ at / 4096 → at < reach more id extent chunks extent → is_held_by id extent chunks at ≡ true) → at < reach more id extent chunks extent
        → is_held_by id extent chunks at ≡ true
    over up true held rest on = or_first (nat_lt at extent) _ held
    over up false off rest on =
        let ge : extent ≤ at = not_below at extent off in
        rest ge (between from extent at (omega arith) ge is) on

    under : (a : Bool) → nat_lt from extent ≡ a → (b : Bool) → nat_lt (from % chunk_len) (filled id (from / chunk_len) chunks) ≡ b → (c : Bool) → (filled id (from / chunk_len) chunks == chunk_len) ≡ c
        → (extent ≤ at → extent / 4096 ≡ at / 4096 → at < reach more id extent chunks extent → is_held_by id extent chunks at ≡ true)
        → at < (elim a as (λ x. ℕ) [
          | true ↦ reach more id extent chunks extent
          | false ↦ elim b as (λ x. ℕ) [
            | false ↦ from
            | true ↦ elim c as (λ x. ℕ) [ true ↦ reach more id extent chunks ((from / chunk_len + 1) * chunk_len) | false ↦ from / chunk_len * chunk_len + filled id (from / chunk_len) chunks ]
          ]
        ])
        → is_held_by id extent chunks at ≡ true
    under true up b there c whole rest on = over (below from extent up) (nat_lt at extent) refl rest on
    under false up false there c whole rest on = absurd (no_less on le)
    under false up true there true whole rest on =
        let full : filled id (from / chunk_len) chunks ≡ 4096 = same_number (filled id (from / chunk_len) chunks) 4096 whole in
        here (subst (λ n. at % 4096 < n) (sym full) (part at))
    under false up true there false whole rest on = here (in_front_of from at (filled id (from / 4096) chunks) is on)

reach_up : (more id extent : ℕ) (chunks : List Chunk) (from : ℕ) → from ≤ reach more id extent chunks from
reach_up zero id extent chunks from = le_refl from
reach_up (suc more) id extent chunks from =
    under (nat_lt from extent) refl (nat_lt (from % chunk_len) (filled id (from / chunk_len) chunks)) refl (filled id (from / chunk_len) chunks == chunk_len) (λ k. reach_up more id extent chunks k)
  where
    under : (a : Bool) → nat_lt from extent ≡ a → (b : Bool) → nat_lt (from % chunk_len) (filled id (from / chunk_len) chunks) ≡ b → (c : Bool) → ((k : ℕ) → k ≤ reach more id extent chunks k)
        → from ≤ (elim a as (λ x. ℕ) [
          | true ↦ reach more id extent chunks extent
          | false ↦ elim b as (λ x. ℕ) [
            | false ↦ from
            | true ↦ elim c as (λ x. ℕ) [ true ↦ reach more id extent chunks ((from / chunk_len + 1) * chunk_len) | false ↦ from / chunk_len * chunk_len + filled id (from / chunk_len) chunks ]
          ]
        ])
    under true up b there c rest =
        let lt : from < extent = below from extent up in
        let le : extent ≤ reach more id extent chunks extent = rest extent in omega arith
    under false up false there c rest = le_refl from
    under false up true there true rest =
        let lt : from < (from / 4096 + 1) * 4096 = next_chunk from in
        let le : (from / 4096 + 1) * 4096 ≤ reach more id extent chunks ((from / 4096 + 1) * 4096) = rest ((from / 4096 + 1) * 4096) in omega arith
    under false up true there false rest =
        let e : from / 4096 * 4096 + from % 4096 ≡ from = parts from in
        let lt : from % 4096 < filled id (from / 4096) chunks = below (from % 4096) (filled id (from / 4096) chunks) there in omega arith

run_over : (more n id extent : ℕ) (chunks : List Chunk) (i at : ℕ) → at < i * 4096 → at < n → at < next_run more n id extent chunks i
run_over zero n id extent chunks i at lt within = within
run_over (suc more) n id extent chunks i at lt within = by (is_held_by id extent chunks (i * chunk_len)) (run_over more n id extent chunks (i + 1) at (omega arith) within)
  where
    by : (b : Bool) → at < next_run more n id extent chunks (i + 1) → at < (elim b as (λ x. ℕ) [ true ↦ i * chunk_len | false ↦ next_run more n id extent chunks (i + 1) ])
    by true rest = lt
    by false rest = rest

-- ---- what is asked for

pub record AsksNext (u : State) (n : Next) : Type 0 where
  pub span : ℕ × ℕ
  pub is : need_of u n ≡ Some span
  pub from : nat_le span.0 n.at ≡ true
  pub to : nat_lt n.at span.1 ≡ true
  pub near : is_near span.0 n.at ≡ true
  pub alone : is_brought u n.source n.at ≡ false

neither : (a b : Bool) → a ≡ false → b ≡ false → (a || b) ≡ false
neither true b x y = absurd (cc x)
neither false b x y = y

-- it is not held, nor does it come
pub asks_behind : (u : State) (n : Next) → n.source.is_retired ≡ false → is_brought u n.source n.at ≡ false → nat_lt n.at (held_to u n.source (n.at / 4096 * 4096)) ≡ false → n.at < n.to → n.to ≤ n.source.version.length → AsksNext u n
asks_behind u n stands off open_at some within =
    let le : held_to u n.source (n.at / 4096 * 4096) ≤ n.at = not_below n.at (held_to u n.source (n.at / 4096 * 4096)) open_at in
    let ge : n.at / 4096 * 4096 ≤ held_to u n.source (n.at / 4096 * 4096) = reach_up (chunks_in n.source.version.length + 2) n.source.id (extent_of u n.source) u.chunks (n.at / 4096 * 4096) in
    let lt : n.at < next_held u n.source (n.at / 4096 + 1) = run_over (chunks_in n.source.version.length) n.source.version.length n.source.id (extent_of u n.source) u.chunks (n.at / 4096 + 1) n.at (next_chunk n.at) (omega arith) in
    record {
      span = (held_to u n.source (n.at / 4096 * 4096), min (next_held u n.source (n.at / 4096 + 1)) n.to);
      is = ap (λ b. elim b as (λ x. Option (ℕ × ℕ)) [ true ↦ None | false ↦ need n.at n.to (hole_of u n) ]) (neither n.source.is_retired (is_brought u n.source n.at) stands off)
          ∙ ap (λ (b : Bool). if b then None else Some (held_to u n.source (n.at / 4096 * 4096), min (next_held u n.source (n.at / 4096 + 1)) n.to)) open_at;
      from = within_so (held_to u n.source (n.at / 4096 * 4096)) n.at le;
      to = below_so n.at (min (next_held u n.source (n.at / 4096 + 1)) n.to) (least (next_held u n.source (n.at / 4096 + 1)) n.to lt some);
      near = close (held_to u n.source (n.at / 4096 * 4096)) ge;
      alone = off;
    }
  where
    least : (a b : ℕ) → n.at < a → n.at < b → n.at < min a b
    least a b one two = grind (arith, nat_tests)

    close : (m : ℕ) → n.at / 4096 * 4096 ≤ m → nat_le (n.at - m) (256 * 4096) ≡ true
    close m ge0 =
        let e : n.at / 4096 * 4096 + n.at % 4096 ≡ n.at = parts n.at in
        let lt0 : n.at % 4096 < 4096 = part n.at in
        within_so (n.at - m) (256 * 4096) (omega arith)

-- where nothing is asked it is there or comes
pub has_it : (u : State) (n : Next) → n.source.is_retired ≡ false → n.at < n.to → n.to ≤ n.source.version.length → need_of u n ≡ None → is_provided u n ≡ true
has_it u n stands some within none = brought (is_brought u n.source n.at) refl
  where
    hole : (b : Bool) → nat_lt n.at (held_to u n.source (n.at / 4096 * 4096)) ≡ b → is_brought u n.source n.at ≡ false → is_provided u n ≡ true
    hole true held off =
        or_first (is_next_held u n) (is_brought u n.source n.at)
        (reach_held (chunks_in n.source.version.length + 2) n.source.id (extent_of u n.source) u.chunks (n.at / 4096 * 4096) n.at (front_of n.at) (front_in n.at) (below n.at (held_to u n.source (n.at / 4096 * 4096)) held))
    hole false open_at off = let a = asks_behind u n stands off open_at some within in let both : None ≡ Some a.span = sym none ∙ a.is in absurd (cc both)

    brought : (b : Bool) → is_brought u n.source n.at ≡ b → is_provided u n ≡ true
    brought true on = or_second (is_next_held u n) (is_brought u n.source n.at) on
    brought false off = hole (nat_lt n.at (held_to u n.source (n.at / 4096 * 4096))) refl off

-- and what is asked is so
pub asks_so : (u : State) (n : Next) (span : ℕ × ℕ) → n.at < n.to → n.to ≤ n.source.version.length → need_of u n ≡ Some span → AsksNext u n
asks_so u n span some within is = by n.source.is_retired refl (is_brought u n.source n.at) refl is
  where
    hole : n.source.is_retired ≡ false → is_brought u n.source n.at ≡ false → (b : Bool) → nat_lt n.at (held_to u n.source (n.at / 4096 * 4096)) ≡ b
        → (if b then None else Some (held_to u n.source (n.at / 4096 * 4096), min (next_held u n.source (n.at / 4096 + 1)) n.to)) ≡ Some span → AsksNext u n
    hole stands off true held at = absurd (cc at)
    hole stands off false open_at at = asks_behind u n stands off open_at some within

    by : (a : Bool) → n.source.is_retired ≡ a → (b : Bool) → is_brought u n.source n.at ≡ b → (elim (a || b) as (λ x. Option (ℕ × ℕ)) [ true ↦ None | false ↦ need n.at n.to (hole_of u n) ]) ≡ Some span → AsksNext u n
    by true retired b on at = absurd (cc at)
    by false stands true on at = absurd (cc at)
    by false stands false off at = hole stands off (nat_lt n.at (held_to u n.source (n.at / 4096 * 4096))) refl at
