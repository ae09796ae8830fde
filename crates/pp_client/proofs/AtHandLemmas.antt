-- What is at hand, and how much is left, by what comes next.
use Rattle.std.proofs.Common.{◌≡◌, ◌<◌, ◌≤◌, ◌+◌, ◌-◌, ℕ, List, [], ◌++◌, length, take, drop, refl, sym, ◌∙◌, ap, subst, arith, length-append, length-drop, length-take}
use Rattle.std.specs.Prelude.{cond, nat_lt}
use Rattle.std.proofs.lemmas.Bool.{lt-ltb}
use Rattle.std.proofs.lemmas.List.{take_all}
use Rattle.pp_holes.specs.Places.{Chunk}
use Rattle.pp_pass.specs.Pipe.{Pipe}
use Rattle.pp_client.specs.declared.reply.Begin.{Begin}
use Rattle.pp_client.specs.declared.reply.Begin.TheVariants.{Page, Instance, Passed}
use Rattle.pp_client.specs.declared.reply.Stage.TheVariants.{Begun}
use Rattle.pp_client.specs.Replies.{Reply, at_hand, body_at_hand, body_left, continue_text, interim_left, left_next, run_at_hand, stage_at_hand, stage_left}

-- ---- the interim answer

pub interim_all : (r : Reply) (cs : List Chunk) (left : ℕ) (bytes : List ℕ) → left ≡ interim_left r.interim → 0 < left → left ≤ 25 → bytes ≡ drop (25 - left) continue_text → bytes ≡ take 65536 (at_hand r cs)
interim_all r cs left bytes is some le eq =
    let len : length (drop (25 - left) continue_text) ≡ left = length-drop (25 - left) continue_text ∙ (let e : 25 - (25 - left) ≡ left = omega (arith, le) in e) in
    let there : at_hand r cs ≡ drop (25 - left) continue_text =
    ap (λ k. cond (nat_lt 0 k) (drop (25 - k) continue_text) (stage_at_hand r.stage r.text r.pipe cs)) (sym is)
    ∙ ap (λ b. cond b (drop (25 - left) continue_text) (stage_at_hand r.stage r.text r.pipe cs)) (lt-ltb 0 left some) in
    sym (ap (take 65536) there ∙ take_all 65536 (drop (25 - left) continue_text) (omega (arith, len, le)) ∙ sym eq)

-- ---- the reply

begun_all : (r : Reply) (cs : List Chunk) (reply : Begin) → interim_left r.interim ≡ 0 → r.stage ≡ Begun reply → at_hand r cs ≡ r.text ++ body_at_hand reply r.pipe cs
begun_all r cs reply none is =
    ap (λ k. cond (nat_lt 0 k) (drop (25 - interim_left r.interim) continue_text) (stage_at_hand r.stage r.text r.pipe cs)) none
    ∙ ap (λ s. stage_at_hand s r.text r.pipe cs) is

-- nothing of it is at hand exactly where its text is empty, which it is not
pub begun_empty : (r : Reply) (cs : List Chunk) (reply : Begin) (bytes : List ℕ) → interim_left r.interim ≡ 0 → r.stage ≡ Begun reply → bytes ≡ r.text → 0 < length r.text → (bytes ≡ [] → at_hand r cs ≡ []) × (at_hand r cs ≡ [] → bytes ≡ [])
begun_empty r cs reply bytes none is text some = (to_none, from_none)
  where
    to_none : bytes ≡ [] → at_hand r cs ≡ []
    to_none e =
        let no : length r.text ≡ 0 = ap length (sym text ∙ e) in
        absurd (omega (arith, no, some))

    from_none : at_hand r cs ≡ [] → bytes ≡ []
    from_none e =
        let no : length r.text + length (body_at_hand reply r.pipe cs) ≡ 0 = sym (length-append r.text (body_at_hand reply r.pipe cs)) ∙ ap length (sym (begun_all r cs reply none is) ∙ e) in
        absurd (omega (arith, no, some))

body_within : (reply : Begin) (pipe : Pipe) (cs : List Chunk) → length (body_at_hand reply pipe cs) ≤ body_left reply pipe
body_within Page pipe cs = omega arith
body_within (Instance id next to) pipe cs = omega (arith, length-take (to - next) (run_at_hand 16 id.slot next cs))
body_within Passed pipe cs = omega arith

-- no more than is left
pub begun_within : (r : Reply) (cs : List Chunk) (reply : Begin) (bytes : List ℕ) → interim_left r.interim ≡ 0 → r.stage ≡ Begun reply → bytes ≡ take 65536 (r.text ++ body_at_hand reply r.pipe cs) → length bytes ≤ left_next r
begun_within r cs reply bytes none is eq =
    let left : left_next r ≡ length r.text + body_left reply r.pipe =
    ap (λ k. cond (nat_lt 0 k) (interim_left r.interim) (stage_left r.stage r.text r.pipe)) none ∙ ap (λ s. stage_left s r.text r.pipe) is in
    subst (λ n. length bytes ≤ n) (sym left)
    (omega (arith, ap length eq, length-take 65536 (r.text ++ body_at_hand reply r.pipe cs), length-append r.text (body_at_hand reply r.pipe cs), body_within reply r.pipe cs))
