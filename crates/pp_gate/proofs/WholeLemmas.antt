-- A file that is published keeps what it was given, and at each moment a crash leaves the old one or this one.
use Rattle.std.proofs.Common.{◌≡◌, ◌≢◌, inl, inr, ⊎_elim, ℕ, ◌+◌, ◌-◌, ◌*◌, ◌<◌, ◌≤◌, true, false, ◌++◌, length, drop, get_or, replicate, sym, ◌∙◌, ap, subst, arith, length-append, length-drop, Option, Some}
use Rattle.std.specs.Prelude.{min, OnOk, Result, Ok, Err}
use Rattle.std.proofs.lemmas.List.{get_or-replicate, take_all}
use Rattle.std.proofs.Math.Seq.{get_or-append_right}
use Rattle.std.proofs.Math.ListN.{get_or-append, length-replicate}
use Rattle.pp_world.specs.Log.{Log, Told}
use Rattle.pp_world.specs.Disk.{Bytes}
use Rattle.pp_entry.specs.Texts.{body_at, chunks_of}
use Rattle.pp_gate.specs.Files.{Sent, body, gate, whole_file}
use Rattle.pp_gate.specs.Gate.{HoldsJust, IsUnfailed, OldOr, RunsPublish, publish_ops}
use Rattle.pp_gate.specs.Runs.{EachMoment, RunsOps}
use Rattle.pp_gate.specs.Seal.{IsFront, IsHonest, IsKept, Keeps, OldOrHonest}
use Rattle.pp_gate.specs.declared.publishing.PublishFault.{PublishFault}
use Rattle.pp_gate.proofs.Views.{told_after}
use Rattle.pp_gate.proofs.GateLemmas.{honest_between}
use Rattle.pp_gate.proofs.PlaceLemmas.{gates_below}
use Rattle.pp_gate.proofs.SealLemmas.{same_head}

module _ (block : Bytes) (n : ℕ) (kept : Bytes) (full : length block ≡ 8192) (whole : min n (4096 * chunks_of (length kept)) ≡ length kept) where
  abbrev count : ℕ
  count = chunks_of (length kept)

  abbrev zeros : ℕ
  zeros = body_at n - 8192 - count

  fits : count ≤ chunks_of n
  fits = omega (arith, whole)

  abbrev ones : Bytes
  ones = replicate count 1

  abbrev rest : Bytes
  rest = replicate zeros 0 ++ kept

  length-rest : length rest ≡ zeros + length kept
  length-rest = omega (arith, length-append (replicate {A = ℕ} zeros 0) kept, length-replicate {A = ℕ} zeros 0)

  length-gates : length (ones ++ rest) ≡ count + (zeros + length kept)
  length-gates = omega (arith, length-append ones rest, length-replicate {A = ℕ} count 1, length-rest)

  pub length-whole : length (whole_file block n kept) ≡ body_at n + length kept
  unfolding whole_file
  length-whole = omega (arith, length-append block (ones ++ rest), length-gates, full, fits, gates_below n)

  in_head : (o : ℕ) → o < 8192 → get_or (whole_file block n kept) o 0 ≡ get_or block o 0
  unfolding whole_file
  in_head o lt = get_or-append block (ones ++ rest) 0 o (omega (arith, lt, full))

  behind : (i : ℕ) → get_or (whole_file block n kept) (8192 + i) 0 ≡ get_or (ones ++ rest) i 0
  unfolding whole_file
  behind i = get_or-append_right block (ones ++ rest) (8192 + i) 0 (omega (arith, full)) ∙ ap (λ (k : ℕ). get_or (ones ++ rest) k 0) (index i)
    where
      index : (i : ℕ) → (8192 + i) - length block ≡ i
      index i = omega (arith, full)

  is_open : (i : ℕ) → i < count → gate (whole_file block n kept) i ≡ 1
  unfolding gate
  is_open i lt = behind i ∙ get_or-append ones rest 0 i (omega (arith, lt, length-replicate {A = ℕ} count 1)) ∙ get_or-replicate count i 1 0 lt

  past : (i : ℕ) → count ≤ i → get_or (whole_file block n kept) (8192 + i) 0 ≡ get_or rest (i - count) 0
  past i above = behind i ∙ get_or-append_right ones rest i 0 (omega (arith, above, length-replicate {A = ℕ} count 1)) ∙ ap (λ (k : ℕ). get_or rest (i - k) 0) (length-replicate {A = ℕ} count 1)

  is_closed : (i : ℕ) → count ≤ i → i < chunks_of n → gate (whole_file block n kept) i ≢ 1
  unfolding gate
  is_closed i above lt is = not_one _
      (past i above
      ∙ get_or-append (replicate zeros 0) kept 0 (i - count) (omega (arith, above, lt, gates_below n, length-replicate {A = ℕ} zeros 0))
      ∙ get_or-replicate zeros (i - count) 0 0 (omega (arith, above, lt, gates_below n)))
      is
    where
      not_one : (x : ℕ) → x ≡ 0 → x ≡ 1 → ⊥
      not_one x zero_is one_is = omega (arith, zero_is, one_is)

  in_body : (o : ℕ) → body n (whole_file block n kept) o ≡ get_or kept o 0
  unfolding body
  in_body o =
      ap (λ (k : ℕ). get_or (whole_file block n kept) k 0) (place o)
      ∙ past (body_at n - 8192 + o) (omega (arith, fits, gates_below n))
      ∙ get_or-append_right (replicate zeros 0) kept (body_at n - 8192 + o - count) 0 (omega (arith, length-replicate {A = ℕ} zeros 0))
      ∙ ap (λ (k : ℕ). get_or kept k 0) (index o)
    where
      place : (o : ℕ) → body_at n + o ≡ 8192 + (body_at n - 8192 + o)
      place o = omega (arith, gates_below n)

      index : (o : ℕ) → body_at n - 8192 + o - count - length (replicate {A = ℕ} zeros 0) ≡ o
      index o = omega (arith, length-replicate {A = ℕ} zeros 0, fits, gates_below n)

  pub whole_kept : IsKept block n (chunks_of (length kept)) (whole_file block n kept)
  whole_kept = record {
    head = same_head (whole_file block n kept) block (omega (arith, length-whole, gates_below n)) (omega (arith, full)) in_head ∙ take_all 8192 block (omega (arith, full));
    is_open = is_open;
    is_closed = is_closed;
    within = fits;
    long = omega (arith, length-whole, whole);
    short = omega (arith, length-whole, whole);
  }

  pub whole_holds : (sent : Sent) → IsFront sent block n kept → (o : ℕ) → o < min n (4096 * chunks_of (length kept)) → sent block o (body n (whole_file block n kept) o) ≡ true
  whole_holds sent front o lt = subst (λ (x : ℕ). sent block o x ≡ true) (sym (in_body o)) (front.sent_all o (omega (arith, lt, whole)))

  pub whole_honest : (sent : Sent) → IsFront sent block n kept → IsHonest sent block n (length kept) (Some (whole_file block n kept))
  whole_honest sent front =
      subst (λ (least : ℕ). IsHonest sent block n least (Some (whole_file block n kept))) whole
      (honest_between sent block n count count (whole_file block n kept) (omega arith) fits whole_kept.head is_open is_closed whole_kept.long whole_kept.short (whole_holds sent front))

-- ---- the clauses of a publish

-- the gates of what is kept stand before the body
pub front_fits : (sent : Sent) (block : Bytes) (n at : ℕ) (room : Bytes) → IsFront sent block n (drop (body_at n) room) → at ≡ body_at n → 8192 + chunks_of (length room - at) ≤ at
front_fits sent block n at room front is = omega (arith, front.whole, length-drop (body_at n) room, gates_below n, is)

pub laid_whole : (block : Bytes) (n at : ℕ) (room all : Bytes) → at ≡ body_at n
    → all ≡ block ++ (replicate (chunks_of (length room - at)) 1 ++ (replicate (at - 8192 - chunks_of (length room - at)) 0 ++ drop at room))
    → all ≡ whole_file block n (drop (body_at n) room)
unfolding whole_file
laid_whole block n at room all is laid =
    laid
    ∙ ap (λ (k : ℕ). block ++ (replicate (chunks_of k) 1 ++ (replicate (at - 8192 - chunks_of k) 0 ++ drop at room))) (sym (length-drop at room))
    ∙ ap (λ (k : ℕ). block ++ (replicate (chunks_of (length (drop k room))) 1 ++ (replicate (k - 8192 - chunks_of (length (drop k room))) 0 ++ drop k room))) is

publish_honest : (old new : Option Log) (sent : Sent) (name block : Bytes) (n : ℕ) (kept : Bytes) → length block ≡ 8192 → IsFront sent block n kept → EachMoment old new (OldOr name (Some (whole_file block n kept)))
    → EachMoment old new (OldOrHonest sent name block n (length kept))
publish_honest old new sent name block n kept full front moments = record {
  at = λ k hs was is. record {
    at = λ p q split file left. ⊎_elim (λ old_one. inl old_one) (λ this. inr (subst (IsHonest sent block n (length kept)) (sym this) (whole_honest block n kept full front.whole sent front)))
        ((moments.at k hs was is).at p q split file left);
  };
}

stays_sound : (old new : Option Log) (name file : Bytes) → Told old (IsUnfailed name) → RunsOps old new (publish_ops name file) true → Told new (IsUnfailed name)
stays_sound old new name file sound runs = told_after old new (publish_ops name file) name (λ v. v.failed ≡ false) (λ v. v.failed ≡ false) sound runs (λ v is. is)

publish_keeps : {A : Type 0} (old new : Option Log) (sent : Sent) (name block : Bytes) (n : ℕ) (kept : Bytes) (r : Result A PublishFault) → length block ≡ 8192 → IsFront sent block n kept → Told old (IsUnfailed name)
    → RunsPublish old new name (whole_file block n kept) r → OnOk r (Told new (HoldsJust name (whole_file block n kept))) → OnOk r (Told new (Keeps sent name block n (chunks_of (length kept))))
publish_keeps old new sent name block n kept (Ok a) full front sound runs done = record {
  at = λ l told. record {
    bytes = whole_file block n kept;
    slot = done.at l told;
    sound = (stays_sound old new name (whole_file block n kept) sound runs).at l told;
    kept = whole_kept block n kept full front.whole;
    holds = whole_holds block n kept full front.whole sent front;
  };
}
publish_keeps old new sent name block n kept (Err e) full front sound runs done = tt

-- of the file as it was laid out
pub laid_kept : (sent : Sent) (block : Bytes) (n len : ℕ) (kept all : Bytes) → length block ≡ 8192 → IsFront sent block n kept → all ≡ whole_file block n kept → length kept ≡ len → IsKept block n (chunks_of len) all
laid_kept sent block n len kept all full front laid is =
    subst (λ (k : ℕ). IsKept block n (chunks_of k) all) is (subst (IsKept block n (chunks_of (length kept))) (sym laid) (whole_kept block n kept full front.whole))

pub laid_honest : (old new : Option Log) (sent : Sent) (name block : Bytes) (n len : ℕ) (kept all : Bytes) → length block ≡ 8192 → IsFront sent block n kept → all ≡ whole_file block n kept → length kept ≡ len
    → EachMoment old new (OldOr name (Some all)) → EachMoment old new (OldOrHonest sent name block n len)
laid_honest old new sent name block n len kept all full front laid is moments =
    subst (λ (k : ℕ). EachMoment old new (OldOrHonest sent name block n k)) is
    (publish_honest old new sent name block n kept full front (subst (λ (f : Bytes). EachMoment old new (OldOr name (Some f))) laid moments))

pub laid_keeps : {A : Type 0} (old new : Option Log) (sent : Sent) (name block : Bytes) (n len : ℕ) (kept all : Bytes) (r : Result A PublishFault) → length block ≡ 8192 → IsFront sent block n kept → all ≡ whole_file block n kept → length kept ≡ len
    → Told old (IsUnfailed name) → RunsPublish old new name all r → OnOk r (Told new (HoldsJust name all)) → OnOk r (Told new (Keeps sent name block n (chunks_of len)))
laid_keeps old new sent name block n len kept all r full front laid is sound runs done =
    subst (λ (k : ℕ). OnOk r (Told new (Keeps sent name block n (chunks_of k)))) is
    (publish_keeps old new sent name block n kept r full front sound (subst (λ (f : Bytes). RunsPublish old new name f r) laid runs) (subst (λ (f : Bytes). OnOk r (Told new (HoldsJust name f))) laid done))
