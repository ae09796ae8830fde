-- What is said are the first of the bytes that the law offers.
use Rattle.std.proofs.Common.{◌≡◌, ◌≤◌, ◌<◌, refl, sym, subst, ap, ◌∙◌, ℕ, zero, suc, ◌+◌, ◌-◌, Bool, true, false, ◌&&◌, cond, drop, length, length-append, length-drop, length-take-le, nat_lt, nat_le, take, List, [], ◌∷◌, ◌++◌, Option, Some, None, arith}
use Rattle.std.proofs.lemmas.Bool.Decides.{nat_tests}
use Rattle.std.specs.Cmp.Lexicographic.{pointwise}
use Rattle.std.specs.Prelude.{nat_eq}
use Rattle.pp_cache.specs.Memory.{Memory}
use Rattle.pp_client.specs.Replies.{Reply, at_hand, body_at_hand, body_left, continue_text, interim_left, left_next, next_byte, run_at_hand, stage_at_hand, stage_left}
use Rattle.pp_client.specs.declared.reply.Begin.{Begin}
use Rattle.pp_client.specs.declared.reply.Begin.TheVariants.{Page, Instance, Passed}
use Rattle.pp_client.specs.declared.reply.Stage.{Stage}
use Rattle.pp_client.specs.declared.reply.Stage.TheVariants.{Due, Begun}
use Rattle.pp_events_law.proofs.Asked.{same_bytes}
use Rattle.pp_holes.specs.Places.{Chunk}
use Rattle.pp_law.specs.Permits.{is_said_of}
use Rattle.pp_objects.specs.Instances.{is_there}
use Rattle.pp_objects.specs.declared.id.ObjectId.{ObjectId}
use Rattle.pp_pass.specs.Pipe.{Pipe}
use Rattle.pp_talk.specs.Talking.{offered, offered_in}

-- ---- lists

take_few : (n : ℕ) (xs : List ℕ) → length (take n xs) ≤ n
take_few zero xs = omega arith
take_few (suc n) [] = omega arith
take_few (suc n) (x ∷ xs) = omega (arith, take_few n xs)

take_less : (n : ℕ) (xs : List ℕ) → length (take n xs) ≤ length xs
take_less zero xs = omega arith
take_less (suc n) [] = omega arith
take_less (suc n) (x ∷ xs) = omega (arith, take_less n xs)

take_twice : (n m : ℕ) (xs : List ℕ) → n ≤ m → take n (take m xs) ≡ take n xs
take_twice zero m xs few = refl
take_twice (suc n) zero xs few = absurd (omega (arith, few))
take_twice (suc n) (suc m) [] few = refl
take_twice (suc n) (suc m) (x ∷ xs) few = ap (λ (ys : List ℕ). x ∷ ys) (take_twice n m xs (omega (arith, few)))

still_less : (a b c : ℕ) → a ≤ b → b ≤ c → a ≤ c
still_less a b c one two = omega (arith, one, two)

-- ---- what is at hand is left

body_few : (b : Begin) (pipe : Pipe) (cs : List Chunk) → length (body_at_hand b pipe cs) ≤ body_left b pipe
body_few Page pipe cs = omega arith
body_few (Instance id next to) pipe cs = take_few (to - next) (run_at_hand 16 id.slot next cs)
body_few Passed pipe cs = omega arith

stage_few : (stage : Stage) (text : List ℕ) (pipe : Pipe) (cs : List Chunk) → length (stage_at_hand stage text pipe cs) ≤ stage_left stage text pipe
stage_few Due text pipe cs = omega arith
stage_few (Begun b) text pipe cs =
    let both : length (text ++ body_at_hand b pipe cs) ≡ length text + length (body_at_hand b pipe cs) = length-append text (body_at_hand b pipe cs) in
    let few : length (body_at_hand b pipe cs) ≤ body_left b pipe = body_few b pipe cs in
    omega (arith, both, few)

hand_few : (r : Reply) (cs : List Chunk) → length (at_hand r cs) ≤ left_next r
hand_few r cs = by (nat_lt 0 (interim_left r.interim))
  where
    by : (b : Bool) → length (cond b (drop (25 - interim_left r.interim) continue_text) (stage_at_hand r.stage r.text r.pipe cs)) ≤ cond b (interim_left r.interim) (stage_left r.stage r.text r.pipe)
    by true = let same : length (drop (25 - interim_left r.interim) continue_text) ≡ 25 - (25 - interim_left r.interim) = length-drop (25 - interim_left r.interim) continue_text in omega (arith, same)
    by false = stage_few r.stage r.text r.pipe cs

-- where some is offered
offered_is : (r : Reply) (m : Memory) → 0 < length (offered r m) → offered r m ≡ take 65536 (at_hand r m.chunks)
offered_is r m some = by (next_byte r) some
  where
    there : (b : Bool) → 0 < length (elim b as (λ t. List ℕ) [ true ↦ take 65536 (at_hand r m.chunks) | false ↦ [] ]) → (elim b as (λ t. List ℕ) [ true ↦ take 65536 (at_hand r m.chunks) | false ↦ [] ]) ≡ take 65536 (at_hand r m.chunks)
    there true one = refl
    there false one = absurd (none one)
      where
        none : 0 < length {A = ℕ} [] → ⊥
        none less = absurd (omega (arith, less))

    by : (o : Option (ObjectId × ℕ)) → 0 < length (offered_in o r m) → offered_in o r m ≡ take 65536 (at_hand r m.chunks)
    by None one = refl
    by (Some next) one = there (is_there next.0 m.instances) one

pub offered_few : (r : Reply) (m : Memory) → 0 < length (offered r m) → length (offered r m) ≤ left_next r
offered_few r m some = subst (λ (xs : List ℕ). length xs ≤ left_next r) (sym (offered_is r m some)) (still_less (length (take 65536 (at_hand r m.chunks))) (length (at_hand r m.chunks)) (left_next r) (take_less 65536 (at_hand r m.chunks)) (hand_few r m.chunks))

-- ---- the law permits it

four : (a b c d : Bool) → a ≡ true → b ≡ true → c ≡ true → d ≡ true → (a && b && c && d) ≡ true
four a b c d one two three last = ap (λ (t : Bool). t && b && c && d) one ∙ ap (λ (t : Bool). t && c && d) two ∙ ap (λ (t : Bool). t && d) three ∙ last

not_more : (a b : ℕ) → a ≤ b → nat_le a b ≡ true
not_more a b few = grind (arith, nat_tests, few)

front : (n : ℕ) (xs : List ℕ) → n ≤ length (take 65536 xs) → pointwise nat_eq (take n (take 65536 xs)) (take (length (take n (take 65536 xs))) xs) ≡ true
front n xs few =
    ap (λ (ys : List ℕ). pointwise nat_eq (take n (take 65536 xs)) ys)
    (ap (λ (k : ℕ). take k xs) (length-take-le n (take 65536 xs) few) ∙ sym (take_twice n 65536 xs (still_less n (length (take 65536 xs)) 65536 few (take_few 65536 xs))))
    ∙ same_bytes (take n (take 65536 xs))

said_first : (n : ℕ) (xs os : List ℕ) → os ≡ take 65536 xs → 0 < length os → n ≤ length os → is_said_of (length os) (take n os) xs ≡ true
said_first n xs os same some few =
    four (nat_le 1 (length os)) (nat_le (length (take n os)) (length os)) (nat_le (length os) (length xs)) (pointwise nat_eq (take n os) (take (length (take n os)) xs))
    (not_more 1 (length os) some)
    (ap (λ (k : ℕ). nat_le k (length os)) (length-take-le n os few) ∙ not_more n (length os) few)
    (ap (λ (ys : List ℕ). nat_le (length ys) (length xs)) same ∙ not_more (length (take 65536 xs)) (length xs) (take_less 65536 xs))
    (subst (λ (ys : List ℕ). n ≤ length ys → pointwise nat_eq (take n ys) (take (length (take n ys)) xs) ≡ true) (sym same) (λ less. front n xs less) few)

pub permitted : (n : ℕ) (r : Reply) (m : Memory) (left : List ℕ) → at_hand r m.chunks ≡ left → 0 < length (offered r m) → n ≤ length (offered r m) → is_said_of (length (offered r m)) (take n (offered r m)) left ≡ true
permitted n r m left same some few = said_first n left (offered r m) (offered_is r m some ∙ ap (λ (xs : List ℕ). take 65536 xs) same) some few
