-- Bytes join what is held of an instance, run by run: each byte that is held then was sent, if those that joined were.
use Rattle.std.proofs.Common.{◌≡◌, ◌⊎◌, refl, ℕ, zero, suc, ◌+◌, ◌-◌, ◌*◌, ◌/◌, ◌%◌, ◌<◌, ◌≤◌, nat_lt, nat_le, Bool, true, false, not, ◌==◌, List, [], ◌++◌, filter, find, take, drop, Option, Some, None, inl, inr, sym, subst, ap, ◌∙◌, div-add-mod', arith}
use Rattle.std.proofs.lemmas.Bool.Decides.{nat_tests}
use Rattle.pp_text.specs.Bytes.{is_empty}
use Rattle.pp_valid.specs.declared.version.Version.{Version}
use Rattle.pp_law.specs.Chunks.{is_chunk, chunk_len, filled, chunk_bytes, put_chunk, joining, put_joining, join_run, join_runs, to_chunk_end, joined}
use Rattle.pp_law.specs.Lists.{Bytes}
use Rattle.pp_law.specs.State.{Sent, Chunk}
use Rattle.pp_laws.specs.Origin.{AllSent}
use Rattle.pp_laws.specs.Runs.{IsIn}
use Rattle.pp_laws.proofs.Lists.{in_filter, in_find, in_push}
use Rattle.pp_laws.proofs.Sent.{sent-append, sent-drop, sent-take, sent_at}
use Rattle.pp_laws.proofs.Tests.{first_holds, same_number, second_holds}

-- what is held of one instance was sent
abbrev pub HeldOf : List Sent → Bytes → Version → ℕ → List Chunk → Type 0
HeldOf sent key v id chunks = (c : Chunk) → IsIn c chunks → c.instance ≡ id → AllSent sent key v (c.index * chunk_len) c.bytes

module _ (sent : List Sent) (key : Bytes) (v : Version) (id : ℕ) where
  found_sent : (i : ℕ) (chunks : List Chunk) (found : Option Chunk) → find (is_chunk id i) chunks ≡ found → HeldOf sent key v id chunks
      → AllSent sent key v (i * chunk_len) (elim found as (λ c. Bytes) [ None ↦ [] | Some c ↦ c.bytes ])
  found_sent i chunks None is held = tt
  found_sent i chunks (Some c) is held = subst (λ n. AllSent sent key v (n * chunk_len) c.bytes) index (held c there.0 instance)
    where
      there : IsIn c chunks × (is_chunk id i c ≡ true)
      there = in_find (is_chunk id i) c chunks is

      instance : c.instance ≡ id
      instance = same_number c.instance id (first_holds (c.instance == id) (c.index == i) there.1)

      index : c.index ≡ i
      index = same_number c.index i (second_holds (c.instance == id) (c.index == i) there.1)

  pub chunk_bytes-sent : (i : ℕ) (chunks : List Chunk) → HeldOf sent key v id chunks → AllSent sent key v (i * chunk_len) (chunk_bytes id i chunks)
  chunk_bytes-sent i chunks held = found_sent i chunks (find (is_chunk id i) chunks) refl held

  -- where bytes join an instance, of it or of another one
  pub put_chunk-held : (to i : ℕ) (bytes : Bytes) (chunks : List Chunk) → (to ≡ id → AllSent sent key v (i * chunk_len) bytes) → HeldOf sent key v id chunks → HeldOf sent key v id (put_chunk to i bytes chunks)
  put_chunk-held to i bytes chunks all held c there is = by (in_push c (filter (λ d. not (is_chunk to i d)) chunks) (record { instance = to; index = i; bytes = bytes }) there)
    where
      by : IsIn c (filter (λ d. not (is_chunk to i d)) chunks) ⊎ (c ≡ record { instance = to; index = i; bytes = bytes }) → AllSent sent key v (c.index * chunk_len) c.bytes
      by (inl was) = held c (in_filter (λ d. not (is_chunk to i d)) c chunks was).0 is
      by (inr e) = subst (λ (d : Chunk). AllSent sent key v (d.index * chunk_len) d.bytes) (sym e) (all (sym (ap (λ (d : Chunk). d.instance) e) ∙ is))

  put_joining-by : (to i : ℕ) (bytes : Bytes) (chunks : List Chunk) (empty : Bool) → (to ≡ id → AllSent sent key v (i * chunk_len + filled to i chunks) bytes) → HeldOf sent key v id chunks
      → HeldOf sent key v id (elim empty as (λ c. List Chunk) [ true ↦ chunks | false ↦ put_chunk to i (chunk_bytes to i chunks ++ bytes) chunks ])
  put_joining-by to i bytes chunks true all held = held
  put_joining-by to i bytes chunks false all held = put_chunk-held to i (chunk_bytes to i chunks ++ bytes) chunks both held
    where
      both : to ≡ id → AllSent sent key v (i * chunk_len) (chunk_bytes to i chunks ++ bytes)
      both is =
          sent-append sent key v (i * chunk_len) (chunk_bytes to i chunks) bytes (subst (λ n. AllSent sent key v (i * chunk_len) (chunk_bytes n i chunks)) (sym is) (chunk_bytes-sent i chunks held)) (all is)

  joining-by : (base at front : ℕ) (run : Bytes) (follows : Bool) → nat_le at front ≡ follows → AllSent sent key v (base + at) run
      → AllSent sent key v (base + front) (elim follows as (λ c. Bytes) [ true ↦ drop (front - at) run | false ↦ [] ])
  joining-by base at front run true is all = sent_at sent key v (drop (front - at) run) (base + at + (front - at)) (base + front) (same_place (below is)) (sent-drop sent key v (base + at) (front - at) run all)
    where
      below : nat_le at front ≡ true → at ≤ front
      below e = grind (arith, nat_tests)

      same_place : at ≤ front → base + at + (front - at) ≡ base + front
      same_place le = omega arith
  joining-by base at front run false is all = tt

  join_run-by : (to at : ℕ) (run : Bytes) (chunks : List Chunk) (below : Bool) → (to ≡ id → AllSent sent key v at run) → HeldOf sent key v id chunks
      → HeldOf sent key v id (elim below as (λ c. List Chunk) [ true ↦ chunks | false ↦ put_joining to (at / chunk_len) (joining (at % chunk_len) (filled to (at / chunk_len) chunks) run) chunks ])
  join_run-by to at run chunks true all held = held
  join_run-by to at run chunks false all held =
      put_joining-by to (at / chunk_len) joins chunks (is_empty joins)
      (λ is. joining-by (at / chunk_len * chunk_len) (at % chunk_len) (filled to (at / chunk_len) chunks) run (nat_le (at % chunk_len) (filled to (at / chunk_len) chunks)) refl
      (sent_at sent key v run at (at / chunk_len * chunk_len + at % chunk_len) (sym (div-add-mod' at chunk_len)) (all is)))
      held
    where
      joins : Bytes
      joins = joining (at % chunk_len) (filled to (at / chunk_len) chunks) run

  join_runs-by : (more to extent at : ℕ) (bytes : Bytes) (chunks : List Chunk) (empty : Bool) → HeldOf sent key v id chunks
      → HeldOf sent key v id (join_runs more to extent (at + to_chunk_end at) (drop (to_chunk_end at) bytes) (join_run to extent at (take (to_chunk_end at) bytes) chunks))
      → HeldOf sent key v id (elim empty as (λ c. List Chunk) [
        | true ↦ chunks
        | false ↦ join_runs more to extent (at + to_chunk_end at) (drop (to_chunk_end at) bytes) (join_run to extent at (take (to_chunk_end at) bytes) chunks)
      ])
  join_runs-by more to extent at bytes chunks true held rest = held
  join_runs-by more to extent at bytes chunks false held rest = rest

  pub join_runs-held : (more to extent at : ℕ) (bytes : Bytes) (chunks : List Chunk) → (to ≡ id → AllSent sent key v at bytes) → HeldOf sent key v id chunks → HeldOf sent key v id (join_runs more to extent at bytes chunks)
  join_runs-held zero to extent at bytes chunks all held = held
  join_runs-held (suc more) to extent at bytes chunks all held =
      join_runs-by more to extent at bytes chunks (is_empty bytes) held
      (join_runs-held more to extent (at + to_chunk_end at) (drop (to_chunk_end at) bytes) (join_run to extent at (take (to_chunk_end at) bytes) chunks)
      (λ is. sent-drop sent key v at (to_chunk_end at) bytes (all is))
      (join_run-by to at (take (to_chunk_end at) bytes) chunks (nat_lt at extent) (λ is. sent-take sent key v at (to_chunk_end at) bytes (all is)) held))

  pub joined-held : (to extent at : ℕ) (bytes : Bytes) (chunks : List Chunk) → (to ≡ id → AllSent sent key v at bytes) → HeldOf sent key v id chunks → HeldOf sent key v id (joined to extent at bytes chunks)
  joined-held to extent at bytes chunks all held = join_runs-held _ to extent at bytes chunks all held

-- ---- chunks are of instances that were given their numbers

abbrev pub ChunksGiven : ℕ → List Chunk → Type 0
ChunksGiven next chunks = (c : Chunk) → IsIn c chunks → c.instance < next

pub put_chunk-given : (next id i : ℕ) (bytes : Bytes) (chunks : List Chunk) → id < next → ChunksGiven next chunks → ChunksGiven next (put_chunk id i bytes chunks)
put_chunk-given next id i bytes chunks lt given c there = by (in_push c (filter (λ d. not (is_chunk id i d)) chunks) (record { instance = id; index = i; bytes = bytes }) there)
  where
    by : IsIn c (filter (λ d. not (is_chunk id i d)) chunks) ⊎ (c ≡ record { instance = id; index = i; bytes = bytes }) → c.instance < next
    by (inl was) = given c (in_filter (λ d. not (is_chunk id i d)) c chunks was).0
    by (inr e) = subst (λ n. n < next) (sym (ap (λ (d : Chunk). d.instance) e)) lt

put_joining-given : (next id i : ℕ) (bytes : Bytes) (chunks : List Chunk) (empty : Bool) → id < next → ChunksGiven next chunks
    → ChunksGiven next (elim empty as (λ c. List Chunk) [ true ↦ chunks | false ↦ put_chunk id i (chunk_bytes id i chunks ++ bytes) chunks ])
put_joining-given next id i bytes chunks true lt given = given
put_joining-given next id i bytes chunks false lt given = put_chunk-given next id i (chunk_bytes id i chunks ++ bytes) chunks lt given

join_run-given : (next id at : ℕ) (run : Bytes) (chunks : List Chunk) (below : Bool) → id < next → ChunksGiven next chunks
    → ChunksGiven next (elim below as (λ c. List Chunk) [ true ↦ chunks | false ↦ put_joining id (at / chunk_len) (joining (at % chunk_len) (filled id (at / chunk_len) chunks) run) chunks ])
join_run-given next id at run chunks true lt given = given
join_run-given next id at run chunks false lt given =
    put_joining-given next id (at / chunk_len) (joining (at % chunk_len) (filled id (at / chunk_len) chunks) run) chunks (is_empty (joining (at % chunk_len) (filled id (at / chunk_len) chunks) run)) lt given

join_runs-given_by : (next more id extent at : ℕ) (bytes : Bytes) (chunks : List Chunk) (empty : Bool) → ChunksGiven next chunks
    → ChunksGiven next (join_runs more id extent (at + to_chunk_end at) (drop (to_chunk_end at) bytes) (join_run id extent at (take (to_chunk_end at) bytes) chunks))
    → ChunksGiven next (elim empty as (λ c. List Chunk) [
      | true ↦ chunks
      | false ↦ join_runs more id extent (at + to_chunk_end at) (drop (to_chunk_end at) bytes) (join_run id extent at (take (to_chunk_end at) bytes) chunks)
    ])
join_runs-given_by next more id extent at bytes chunks true given rest = given
join_runs-given_by next more id extent at bytes chunks false given rest = rest

join_runs-given : (next more id extent at : ℕ) (bytes : Bytes) (chunks : List Chunk) → id < next → ChunksGiven next chunks → ChunksGiven next (join_runs more id extent at bytes chunks)
join_runs-given next zero id extent at bytes chunks lt given = given
join_runs-given next (suc more) id extent at bytes chunks lt given =
    join_runs-given_by next more id extent at bytes chunks (is_empty bytes) given
    (join_runs-given next more id extent (at + to_chunk_end at) (drop (to_chunk_end at) bytes) (join_run id extent at (take (to_chunk_end at) bytes) chunks) lt
    (join_run-given next id at (take (to_chunk_end at) bytes) chunks (nat_lt at extent) lt given))

pub joined-given : (next id extent at : ℕ) (bytes : Bytes) (chunks : List Chunk) → id < next → ((c : Chunk) → IsIn c chunks → c.instance < next) → (c : Chunk) → IsIn c (joined id extent at bytes chunks) → c.instance < next
joined-given next id extent at bytes chunks lt given = join_runs-given next _ id extent at bytes chunks lt given
