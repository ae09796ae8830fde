-- What is said is the front of what was left, and what is at hand is a front of it.
use Rattle.std.proofs.Common.{◌≡◌, ◌<◌, ◌≤◌, ◌+◌, ◌-◌, ◌*◌, ◌/◌, ◌%◌, ◌⊎◌, inl, inr, ℕ, zero, suc, List, [], ◌∷◌, ◌++◌, length, take, drop, min, slice_range, refl, sym, ◌∙◌, ap, subst, arith, length-append, length-take, length-drop}
use Rattle.std.proofs.Math.Seq.{drop-append_seam, take-add, take-append_seam, take-length}
use Rattle.std.specs.Prelude.{cond, nat_lt, true}
use Rattle.std.proofs.lemmas.Bool.{cases_eq, cases_lt, lt-ltb}
use Rattle.std.proofs.lemmas.List.{drop-append-le, drop-drop, drop-take, drop_all, take-take, take_all, take_min}
use Rattle.std.proofs.lemmas.Nat.{div-add-mod'}
use Rattle.pp_holes.specs.Places.{Chunk, bytes_at}
use Rattle.pp_objects.specs.declared.id.ObjectId.{ObjectId}
use Rattle.pp_pass.specs.Pipe.{Pipe}
use Rattle.pp_client.specs.declared.interim.Interim.{Interim}
use Rattle.pp_client.specs.declared.interim.Interim.TheVariants.{Unasked, Left}
use Rattle.pp_client.specs.declared.reply.Begin.{Begin}
use Rattle.pp_client.specs.declared.reply.Begin.TheVariants.{Page, Instance, Passed}
use Rattle.pp_client.specs.declared.reply.Stage.{Stage}
use Rattle.pp_client.specs.declared.reply.Stage.TheVariants.{Due, Begun}
use Rattle.pp_client.specs.Replies.{Reply, at_hand, body_at_hand, body_left, continue_text, interim_left, left_next, reply_left, reply_said, run_at_hand, said, stage_at_hand, stage_left, stage_said}
use Rattle.pp_client.proofs.DroppedLemmas.{dropped_both}
use Rattle.pp_client.proofs.RunLemmas.{run_full, run_short}
use Rattle.pp_client.specs.Saying.{IsFrontOfLeft, IsHeldOf, IsReadFrom, IsSaidFirst, body_from, left_from, reply_from}

abbrev of : Interim → Stage → List ℕ → Pipe → Reply
of interim stage text pipe = record { interim = interim; stage = stage; text = text; pipe = pipe }

some_left : (k : ℕ) → nat_lt 0 (suc k) ≡ true
some_left k = lt-ltb 0 (suc k) (omega arith)

none_left : (interim : Interim) → interim_left interim ≡ 0 → drop (25 - interim_left interim) continue_text ≡ []
none_left interim none = ap (λ n. drop (25 - n) continue_text) none

-- ---- what is said

span_said : (content : List ℕ) (next to n : ℕ) → n ≤ to - next → slice_range content (next + n) to ≡ drop n (slice_range content next to)
span_said content next to n within =
    ap (take (to - (next + n))) (sym (drop-drop n next content))
    ∙ sym (drop-take n (to - (next + n)) (drop next content))
    ∙ ap (λ k. drop n (take k (drop next content))) (let e : n + (to - (next + n)) ≡ to - next = omega (arith, within) in e)

reply_first : (content : List ℕ) (interim : Interim) (reply : Begin) (text : List ℕ) (pipe : Pipe) (n : ℕ) → n ≤ reply_left reply text pipe → interim_left interim ≡ 0
    → left_from content (reply_said n reply text (of interim (Begun reply) text pipe)) ≡ drop n (left_from content (of interim (Begun reply) text pipe))
reply_first content interim reply text pipe n within none =
    ap (λ front. front ++ reply_from content (reply_said n reply text (of interim (Begun reply) text pipe)).stage (reply_said n reply text (of interim (Begun reply) text pipe)).text (reply_said n reply text (of interim (Begun reply) text pipe)).pipe)
    (kept reply ∙ none_left interim none)
    ∙ by reply within
    ∙ sym (dropped_both n text (body_from content reply pipe))
    ∙ sym (ap (λ front. drop n (front ++ (text ++ body_from content reply pipe))) (none_left interim none))
  where
    kept : (reply : Begin) → drop (25 - interim_left (reply_said n reply text (of interim (Begun reply) text pipe)).interim) continue_text ≡ drop (25 - interim_left interim) continue_text
    kept Page = refl
    kept (Instance id next to) = refl
    kept Passed = refl

    by : (reply : Begin) → n ≤ reply_left reply text pipe
        → reply_from content (reply_said n reply text (of interim (Begun reply) text pipe)).stage (reply_said n reply text (of interim (Begun reply) text pipe)).text (reply_said n reply text (of interim (Begun reply) text pipe)).pipe
        ≡ drop n text ++ drop (n - length text) (body_from content reply pipe)
    by Page within = ap (λ l. drop n text ++ l) (sym (nothing (n - length text)))
      where
        nothing : (k : ℕ) → drop k (body_from content Page pipe) ≡ []
        nothing zero = refl
        nothing (suc k) = refl
    by (Instance id next to) within = ap (λ l. drop n text ++ l) (span_said content next to (n - length text) (omega (arith, within)))
    by Passed within = refl

stage_first : (content : List ℕ) (interim : Interim) (stage : Stage) (text : List ℕ) (pipe : Pipe) (n : ℕ) → n ≤ stage_left stage text pipe → interim_left interim ≡ 0
    → left_from content (stage_said n stage (of interim stage text pipe)) ≡ drop n (left_from content (of interim stage text pipe))
stage_first content interim Due text pipe n within none =
    let zero_said : n ≡ 0 = omega (arith, within) in sym (ap (λ k. drop k (left_from content (of interim Due text pipe))) zero_said)
stage_first content interim (Begun reply) text pipe n within none = reply_first content interim reply text pipe n within none

interim_first : (left n : ℕ) (rest : List ℕ) → n ≤ left → left ≤ 25 → drop (25 - (left - n)) continue_text ++ rest ≡ drop n (drop (25 - left) continue_text ++ rest)
interim_first left n rest within whole =
    let len : length (drop (25 - left) continue_text) ≡ left = length-drop (25 - left) continue_text ∙ (let e : 25 - (25 - left) ≡ left = omega (arith, whole) in e) in
    ap (λ k. drop k continue_text ++ rest) (let e : 25 - (left - n) ≡ 25 - left + n = omega (arith, within, whole) in e)
    ∙ ap (λ front. front ++ rest) (sym (drop-drop n (25 - left) continue_text))
    ∙ sym (drop-append-le n (drop (25 - left) continue_text) rest (omega (arith, len, within)))

first_by : (content : List ℕ) (interim : Interim) (stage : Stage) (text : List ℕ) (pipe : Pipe) (n : ℕ) → interim_left interim ≤ 25 → n ≤ left_next (of interim stage text pipe)
    → left_from content (said n (of interim stage text pipe)) ≡ drop n (left_from content (of interim stage text pipe))
first_by content Unasked stage text pipe n whole within = stage_first content Unasked stage text pipe n within refl
first_by content (Left zero) stage text pipe n whole within = stage_first content (Left 0) stage text pipe n within refl
first_by content (Left (suc k)) stage text pipe n whole within =
    let r : Reply = of (Left (suc k)) stage text pipe in
    let less : n ≤ suc k = subst (λ b. n ≤ cond b (suc k) (stage_left stage text pipe)) (some_left k) within in
    ap (λ b. left_from content (cond b (record r { interim = Left (suc k - n) }) (stage_said n stage r))) (some_left k)
    ∙ interim_first (suc k) n (reply_from content stage text pipe) less whole

pub said_first : (n : ℕ) (r : Reply) → interim_left r.interim ≤ 25 → n ≤ left_next r → IsSaidFirst n r
said_first n r whole within = λ content. first_by content r.interim r.stage r.text r.pipe n whole within

-- ---- what is at hand

taken_front : (k j : ℕ) (bytes : List ℕ) → take k (take j bytes) ≡ take (length (take k (take j bytes))) (take k bytes)
taken_front k j bytes = by (cases_lt j k)
  where
    by : (j < k) ⊎ (k ≤ j) → take k (take j bytes) ≡ take (length (take k (take j bytes))) (take k bytes)
    by (inl less) =
        let whole : take k (take j bytes) ≡ take j bytes = take_all k (take j bytes) (omega (arith, less, length-take j bytes)) in
        whole
        ∙ sym (take_min j bytes)
        ∙ sym (take-take (min j (length bytes)) k bytes (omega (arith, less)))
        ∙ ap (λ n. take n (take k bytes)) (sym (length-take j bytes))
        ∙ sym (ap (λ xs. take (length xs) (take k bytes)) whole)
    by (inr more) =
        let cut : take k (take j bytes) ≡ take k bytes = take-take k j bytes more in
        cut ∙ sym (take-length (take k bytes)) ∙ sym (ap (λ xs. take (length xs) (take k bytes)) cut)

-- a front of some bytes, and behind all that it is of, a front of the rest
both_front : (a b bytes : List ℕ) → a ≡ take (length a) bytes → b ≡ take (length b) (drop (length a) bytes) → a ++ b ≡ take (length (a ++ b)) bytes
both_front a b bytes front rest =
    ap (λ l. l ++ b) front ∙ ap (λ l. take (length a) bytes ++ l) rest ∙ sym (take-add (length a) (length b) bytes) ∙ ap (λ n. take n bytes) (sym (length-append a b))

behind_front : (a b bytes : List ℕ) → b ≡ take (length b) bytes → a ++ b ≡ take (length (a ++ b)) (a ++ bytes)
behind_front a b bytes front = both_front a b (a ++ bytes) (sym (take-append_seam a bytes)) (front ∙ ap (take (length b)) (sym (drop-append_seam a bytes)))

cut_front : (k : ℕ) (a bytes : List ℕ) → a ≡ take (length a) bytes → take k a ≡ take (length (take k a)) (take k bytes)
cut_front k a bytes front = subst (λ l. take k l ≡ take (length (take k l)) (take k bytes)) (sym front) (taken_front k (length a) bytes)

chunk_front : (m : ℕ) (held bytes : List ℕ) → held ≡ take (length held) bytes → drop m held ≡ take (length (drop m held)) (drop m bytes)
chunk_front m held bytes is = by (cases_lt (length held) m)
  where
    by : (length held < m) ⊎ (m ≤ length held) → drop m held ≡ take (length (drop m held)) (drop m bytes)
    by (inl past) = subst (λ xs. xs ≡ take (length xs) (drop m bytes)) (sym (drop_all m held (omega (arith, past)))) refl
    by (inr within) =
        ap (drop m) is
        ∙ ap (λ n. drop m (take n bytes)) (let e : length held ≡ m + (length held - m) = omega (arith, within) in e)
        ∙ drop-take m (length held - m) bytes
        ∙ ap (λ n. take n (drop m bytes)) (sym (length-drop m held))

run_front : (more : ℕ) (content : List ℕ) (id : ObjectId) (next to at : ℕ) (cs : List Chunk) → IsHeldOf content (Instance id next to) cs
    → run_at_hand more id.slot at cs ≡ take (length (run_at_hand more id.slot at cs)) (drop at content)
unfolding run_at_hand
run_front zero content id next to at cs held = refl
run_front (suc more) content id next to at cs held = by (cases_eq (length bytes) 4096) (run_front more content id next to (at + (4096 - at % 4096)) cs held)
  where
    bytes : List ℕ
    bytes = bytes_at (id.slot, at / 4096) cs

    there : drop (at % 4096) (drop (at / 4096 * 4096) content) ≡ drop at content
    there = drop-drop (at % 4096) (at / 4096 * 4096) content ∙ ap (λ n. drop n content) (div-add-mod' at 4096)

    first : drop (at % 4096) bytes ≡ take (length (drop (at % 4096) bytes)) (drop at content)
    first = chunk_front (at % 4096) bytes (drop (at / 4096 * 4096) content) (held (at / 4096)) ∙ ap (take (length (drop (at % 4096) bytes))) there

    by : (length bytes ≡ 4096) ⊎ ¬ (length bytes ≡ 4096)
        → run_at_hand more id.slot (at + (4096 - at % 4096)) cs ≡ take (length (run_at_hand more id.slot (at + (4096 - at % 4096)) cs)) (drop (at + (4096 - at % 4096)) content)
        → run_at_hand (suc more) id.slot at cs ≡ take (length (run_at_hand (suc more) id.slot at cs)) (drop at content)
    by (inl full) next_front =
        let end : at + length (drop (at % 4096) bytes) ≡ at + (4096 - at % 4096) = omega (arith, full, length-drop (at % 4096) bytes) in
        let behind : drop (at + (4096 - at % 4096)) content ≡ drop (length (drop (at % 4096) bytes)) (drop at content) =
        sym (drop-drop (length (drop (at % 4096) bytes)) at content ∙ ap (λ n. drop n content) end) in
        subst (λ l. l ≡ take (length l) (drop at content)) (sym (run_full more id.slot at cs full))
        (both_front (drop (at % 4096) bytes) (run_at_hand more id.slot (at + (4096 - at % 4096)) cs) (drop at content) first
        (next_front ∙ ap (take (length (run_at_hand more id.slot (at + (4096 - at % 4096)) cs))) behind))
    by (inr short) next_front = subst (λ l. l ≡ take (length l) (drop at content)) (sym (run_short more id.slot at cs short)) first

body_front : (content : List ℕ) (reply : Begin) (pipe : Pipe) (cs : List Chunk) → IsHeldOf content reply cs → body_at_hand reply pipe cs ≡ take (length (body_at_hand reply pipe cs)) (body_from content reply pipe)
body_front content Page pipe cs held = refl
body_front content (Instance id next to) pipe cs held = cut_front (to - next) (run_at_hand 16 id.slot next cs) (drop next content) (run_front 16 content id next to next cs held)
body_front content Passed pipe cs held = sym (take-length pipe.bytes)

stage_front : (content : List ℕ) (stage : Stage) (text : List ℕ) (pipe : Pipe) (cs : List Chunk) → IsReadFrom content stage cs → stage_at_hand stage text pipe cs ≡ take (length (stage_at_hand stage text pipe cs)) (reply_from content stage text pipe)
stage_front content Due text pipe cs held = refl
stage_front content (Begun reply) text pipe cs held = behind_front text (body_at_hand reply pipe cs) (body_from content reply pipe) (body_front content reply pipe cs held)

front_by : (content : List ℕ) (interim : Interim) (stage : Stage) (text : List ℕ) (pipe : Pipe) (cs : List Chunk) → IsReadFrom content stage cs
    → at_hand (of interim stage text pipe) cs ≡ take (length (at_hand (of interim stage text pipe) cs)) (left_from content (of interim stage text pipe))
front_by content Unasked stage text pipe cs held = stage_front content stage text pipe cs held
front_by content (Left zero) stage text pipe cs held = stage_front content stage text pipe cs held
front_by content (Left (suc k)) stage text pipe cs held =
    let front : List ℕ = drop (25 - suc k) continue_text in
    subst (λ b. cond b front (stage_at_hand stage text pipe cs) ≡ take (length (cond b front (stage_at_hand stage text pipe cs))) (front ++ reply_from content stage text pipe)) (sym (some_left k))
    (sym (take-append_seam front (reply_from content stage text pipe)))

pub front_of_left : (r : Reply) (cs : List Chunk) → IsFrontOfLeft r cs
front_of_left r cs = λ content held. front_by content r.interim r.stage r.text r.pipe cs held
