-- Where the next byte is held, the hole begins behind it.
use Rattle.std.proofs.Common.{◌≡◌, refl, ℕ, zero, suc, ◌+◌, ◌*◌, ◌/◌, ◌%◌, ◌<◌, ◌≤◌, nat_lt, Bool, true, false, ◌==◌, ◌||◌, if◌then◌else◌, min, List, Option, Some, None, sym, subst, ap, ◌∙◌, le_refl, le_trans, arith}
use Rattle.std.proofs.lemmas.Bool.Decides.{nat_tests}
use Rattle.pp_plan.specs.Need.{need}
use Rattle.pp_law.specs.Chunks.{chunk_len, filled}
use Rattle.pp_law.specs.Connections.{is_trying}
use Rattle.pp_law.specs.Followers.{fill_for, fill_next, fill_span, hole_of, need_of}
use Rattle.pp_law.specs.State.{State, Chunk, Client}
use Rattle.pp_law.specs.Table.{Next, chunks_in, extent_of, held_to, is_brought, is_held_by, is_next_held, next_of, reach}
use Rattle.pp_laws.proofs.Tests.{below}
use Rattle.pp_laws_waits.specs.Held.{HeldAsksNothing}
use Rattle.std.proofs.lemmas.Nat.{div-add-mod'}
use Rattle.std.proofs.Math.Nat.{mod-lt}

not_below : (m n : ℕ) → nat_lt m n ≡ false → n ≤ m
not_below m n is = grind (arith, nat_tests)

-- ---- chunks of 4,096

positive : 0 < 4096
positive = omega arith

parts : (at : ℕ) → at / 4096 * 4096 + at % 4096 ≡ at
parts at = div-add-mod' at 4096

part : (at : ℕ) → at % 4096 < 4096
part at = mod-lt at positive

in_chunk : (at n : ℕ) → at % 4096 < n → at < at / 4096 * 4096 + n
in_chunk at n lt = let e : at / 4096 * 4096 + at % 4096 ≡ at = parts at in omega arith

next_chunk : (at : ℕ) → at < (at / 4096 + 1) * 4096
next_chunk at = let e : at / 4096 * 4096 + at % 4096 ≡ at = parts at in let lt : at % 4096 < 4096 = part at in omega arith

front_of : (at : ℕ) → at / 4096 * 4096 ≤ at
front_of at = let e : at / 4096 * 4096 + at % 4096 ≡ at = parts at in omega arith

-- from the front of a chunk up to an offset in it
same_chunk : (from at : ℕ) → at / 4096 * 4096 ≤ from → from ≤ at → from / 4096 ≡ at / 4096
same_chunk from at over le =
    let e : at / 4096 * 4096 + at % 4096 ≡ at = parts at in
    let f : from / 4096 * 4096 + from % 4096 ≡ from = parts from in
    let lt : at % 4096 < 4096 = part at in
    let less : from % 4096 < 4096 = part from in
    omega arith

no_further : (from at : ℕ) → from / 4096 ≡ at / 4096 → from ≤ at → from % 4096 ≤ at % 4096
no_further from at is le =
    let e : at / 4096 * 4096 + at % 4096 ≡ at = parts at in
    let f : from / 4096 * 4096 + from % 4096 ≡ from = parts from in
    omega arith

-- ---- how far is held

-- one step from an offset, by what is tested there
abbrev step : ℕ → ℕ → ℕ → List Chunk → ℕ → Bool → Bool → Bool → ℕ
step more id extent chunks at under there whole = elim under [
  | true ↦ reach more id extent chunks extent
  | false ↦ elim there [
    | false ↦ at
    | true ↦ elim whole [ true ↦ reach more id extent chunks ((at / chunk_len + 1) * chunk_len) | false ↦ at / chunk_len * chunk_len + filled id (at / chunk_len) chunks ]
  ]
]

-- never back
step_on : (more id extent : ℕ) (chunks : List Chunk) (at : ℕ) → ((to : ℕ) → to ≤ reach more id extent chunks to) → (under : Bool) → nat_lt at extent ≡ under → (there : Bool) → nat_lt (at % 4096) (filled id (at / 4096) chunks) ≡ there → (whole : Bool)
    → at ≤ step more id extent chunks at under there whole
step_on more id extent chunks at on true is there there_is whole = let lt : at < extent = below at extent is in let le : extent ≤ reach more id extent chunks extent = on extent in omega arith
step_on more id extent chunks at on false isnt false none whole = le_refl at
step_on more id extent chunks at on false isnt true some true =
    let lt : at < (at / 4096 + 1) * 4096 = next_chunk at in
    let le : (at / 4096 + 1) * 4096 ≤ reach more id extent chunks ((at / 4096 + 1) * 4096) = on ((at / 4096 + 1) * 4096) in
    omega arith
step_on more id extent chunks at on false isnt true some false =
    let lt : at < at / 4096 * 4096 + filled id (at / 4096) chunks = in_chunk at (filled id (at / 4096) chunks) (below (at % 4096) (filled id (at / 4096) chunks) some) in
    omega arith

reach_on : (more id extent : ℕ) (chunks : List Chunk) (at : ℕ) → at ≤ reach more id extent chunks at
reach_on zero id extent chunks at = le_refl at
reach_on (suc more) id extent chunks at =
    step_on more id extent chunks at (λ to. reach_on more id extent chunks to) (nat_lt at extent) refl (nat_lt (at % 4096) (filled id (at / 4096) chunks)) refl (filled id (at / 4096) chunks == 4096)

-- from within a chunk, of which the front is there up to behind this offset, it goes beyond
step_beyond : (more id extent : ℕ) (chunks : List Chunk) (from at : ℕ) → from / 4096 ≡ at / 4096 → from ≤ at → extent ≤ from → at % 4096 < filled id (at / 4096) chunks
    → (under : Bool) → nat_lt from extent ≡ under → (there : Bool) → nat_lt (from % 4096) (filled id (from / 4096) chunks) ≡ there → (whole : Bool) → at < step more id extent chunks from under there whole
step_beyond more id extent chunks from at one le over lt true is there there_is whole = let less : from < extent = below from extent is in absurd (omega arith)
step_beyond more id extent chunks from at one le over lt false isnt false none whole =
    let out : filled id (from / 4096) chunks ≤ from % 4096 = not_below (from % 4096) (filled id (from / 4096) chunks) none in
    let alike : filled id (from / 4096) chunks ≡ filled id (at / 4096) chunks = ap (λ i. filled id i chunks) one in
    let less : from % 4096 ≤ at % 4096 = no_further from at one le in
    absurd (omega arith)
step_beyond more id extent chunks from at one le over lt false isnt true some true =
    let beyond : at < (at / 4096 + 1) * 4096 = next_chunk at in
    let on : (from / 4096 + 1) * 4096 ≤ reach more id extent chunks ((from / 4096 + 1) * 4096) = reach_on more id extent chunks ((from / 4096 + 1) * 4096) in
    omega arith
step_beyond more id extent chunks from at one le over lt false isnt true some false =
    let beyond : at < at / 4096 * 4096 + filled id (at / 4096) chunks = in_chunk at (filled id (at / 4096) chunks) lt in
    let alike : filled id (from / 4096) chunks ≡ filled id (at / 4096) chunks = ap (λ i. filled id i chunks) one in
    omega arith

reach_beyond : (more id extent : ℕ) (chunks : List Chunk) (from at : ℕ) → from / 4096 ≡ at / 4096 → from ≤ at → extent ≤ from → at % 4096 < filled id (at / 4096) chunks → at < reach (suc more) id extent chunks from
reach_beyond more id extent chunks from at one le over lt =
    step_beyond more id extent chunks from at one le over lt (nat_lt from extent) refl (nat_lt (from % 4096) (filled id (from / 4096) chunks)) refl (filled id (from / 4096) chunks == 4096)

-- behind the extent it is in memory
in_memory : (id extent : ℕ) (chunks : List Chunk) (at : ℕ) → is_held_by id extent chunks at ≡ true → extent ≤ at → at % 4096 < filled id (at / 4096) chunks
in_memory id extent chunks at held over = by (nat_lt at extent) refl held
  where
    by : (under : Bool) → nat_lt at extent ≡ under → (under || nat_lt (at % 4096) (filled id (at / 4096) chunks)) ≡ true → at % 4096 < filled id (at / 4096) chunks
    by true is held_so = let less : at < extent = below at extent is in absurd (omega arith)
    by false isnt held_so = below (at % 4096) (filled id (at / 4096) chunks) held_so

past_extent : (more id extent : ℕ) (chunks : List Chunk) (at : ℕ) → is_held_by id extent chunks at ≡ true → at / 4096 * 4096 < extent → (t : Bool) → nat_lt at extent ≡ t → at < reach (suc more) id extent chunks extent
past_extent more id extent chunks at held less true is =
    let lt : at < extent = below at extent is in
    let on : extent ≤ reach (suc more) id extent chunks extent = reach_on (suc more) id extent chunks extent in
    omega arith
past_extent more id extent chunks at held less false isnt =
    let over : extent ≤ at = not_below at extent isnt in
    let from : at / 4096 * 4096 ≤ extent = omega arith in
    reach_beyond more id extent chunks extent at (same_chunk extent at from over) over (le_refl extent) (in_memory id extent chunks at held over)

-- from the front of the chunk of an offset that is held, it goes beyond
past_front : (more id extent : ℕ) (chunks : List Chunk) (at : ℕ) → is_held_by id extent chunks at ≡ true → (under : Bool) → nat_lt (at / 4096 * 4096) extent ≡ under → at < reach (suc (suc more)) id extent chunks (at / 4096 * 4096)
past_front more id extent chunks at held true is =
    subst (λ t. at < step (suc more) id extent chunks (at / 4096 * 4096) t (nat_lt (at / 4096 * 4096 % 4096) (filled id (at / 4096 * 4096 / 4096) chunks)) (filled id (at / 4096 * 4096 / 4096) chunks == 4096)) (sym is)
    (past_extent more id extent chunks at held (below (at / 4096 * 4096) extent is) (nat_lt at extent) refl)
past_front more id extent chunks at held false isnt =
    let over : extent ≤ at / 4096 * 4096 = not_below (at / 4096 * 4096) extent isnt in
    let le : at / 4096 * 4096 ≤ at = front_of at in
    reach_beyond (suc more) id extent chunks (at / 4096 * 4096) at (same_chunk (at / 4096 * 4096) at (le_refl (at / 4096 * 4096)) le) le over (in_memory id extent chunks at held (le_trans over le))

two_more : (n : ℕ) → n + 2 ≡ suc (suc n)
two_more n = omega arith

held_to_past : (s : State) (n : Next) → is_next_held s n ≡ true → n.at < held_to s n.source (n.at / 4096 * 4096)
held_to_past s n held =
    subst (λ fuel. n.at < reach fuel n.source.id (extent_of s n.source) s.chunks (n.at / 4096 * 4096)) (sym (two_more (chunks_in n.source.version.length)))
    (past_front (chunks_in n.source.version.length) n.source.id (extent_of s n.source) s.chunks n.at held (nat_lt (n.at / 4096 * 4096) (extent_of s n.source)) refl)

-- ---- so nothing is needed

need_by : (at to : ℕ) (hole : ℕ × ℕ) → nat_lt at hole.0 ≡ true → need at to hole ≡ None
need_by at to hole is = ap (λ t. if t then None else Some (hole.0, min hole.1 to)) is

is_below : (m n : ℕ) → m < n → nat_lt m n ≡ true
is_below m n lt = grind (arith, nat_tests)

need_none : (s : State) (n : Next) → is_next_held s n ≡ true → need_of s n ≡ None
need_none s n held = by (n.source.is_retired || is_brought s n.source n.at)
  where
    by : (t : Bool) → (elim t as (λ c. Option (ℕ × ℕ)) [ true ↦ None | false ↦ need n.at n.to (hole_of s n) ]) ≡ None
    by true = refl
    by false = need_by n.at n.to (hole_of s n) (is_below n.at (held_to s n.source (n.at / 4096 * 4096)) (held_to_past s n held))

next_filled : (s : State) (c : Client) (n : Next) → need_of s n ≡ None → fill_next c n s ≡ s
unfolding fill_next
next_filled s c n none = ap (λ o. elim o as (λ x. State) [ None ↦ s | Some span ↦ fill_span c n span s ]) none

pub held_asks_nothing : HeldAsksNothing
unfolding fill_for
held_asks_nothing s c n follows held = by (is_trying c.course)
  where
    by : (t : Bool) → (elim t as (λ x. State) [ false ↦ s | true ↦ elim (next_of s c) as (λ x. State) [ None ↦ s | Some m ↦ fill_next c m s ] ]) ≡ s
    by false = refl
    by true = ap (λ o. elim o as (λ x. State) [ None ↦ s | Some m ↦ fill_next c m s ]) follows ∙ next_filled s c n (need_none s n held)
