-- What is left to be said to a request: the interim answer, the head or page, and the body (RFC 2616, sections 6
-- and 8.2.3).
use Rattle.std.specs.Prelude.{ℕ, zero, suc, ◌+◌, ◌-◌, ◌*◌, ◌/◌, ◌%◌, ◌≤◌, Bool, true, false, ◌==◌, ◌&&◌, not, nat_lt, nat_le, if◌then◌else◌, cond, List, [], ◌∷◌, ◌++◌, length, take, drop, codes, Option, Some, None, ⊤}
use Rattle.pp_text.specs.Bytes.{is_empty}
use Rattle.pp_holes.specs.Places.{Chunk, bytes_at}
use Rattle.pp_objects.specs.declared.id.ObjectId.{ObjectId}
use Rattle.pp_pass.specs.Pipe.{Pipe, started, without_first}
use Rattle.pp_client.specs.declared.interim.Interim.{Interim}
use Rattle.pp_client.specs.declared.interim.Interim.TheVariants.{Unasked, Left}
use Rattle.pp_client.specs.declared.reply.Begin.{Begin}
use Rattle.pp_client.specs.declared.reply.Begin.TheVariants.{Page, Instance, Passed}
use Rattle.pp_client.specs.declared.reply.Stage.{Stage}
use Rattle.pp_client.specs.declared.reply.Stage.TheVariants.{Due, Begun}

-- the interim answer; how far the reply is; what the head buffer holds that was not said; the pass pipe
pub record Reply : Type 0 where
  pub interim : Interim
  pub stage : Stage
  pub text : List ℕ
  pub pipe : Pipe

-- none has begun
abbrev pub no_reply : Reply
no_reply = record { interim = Unasked; stage = Due; text = []; pipe = started false }

-- none has begun to the next request; the pipe stays as it is
abbrev pub ended : Reply → Reply
ended r = record { interim = Unasked; stage = Due; text = []; pipe = r.pipe }

-- "Status-Line CRLF", of 100 (Continue)
abbrev pub continue_text : List ℕ
continue_text = codes "HTTP/1.1 100 Continue" ++ 13 ∷ 10 ∷ 13 ∷ 10 ∷ []

abbrev pub interim_left : Interim → ℕ
interim_left Unasked = 0
interim_left (Left n) = n

-- the interim answer is to be said
abbrev pub with_interim : Reply → Reply
with_interim r = record r { interim = Left 25 }

abbrev pub with_begun : Begin → Reply → Reply
with_begun reply r = record r { stage = Begun reply }

abbrev pub has_begun : Stage → Bool
has_begun Due = false
has_begun (Begun reply) = true

-- the first offset is not above the second
abbrev pub IsBeginning : Begin → Type 0
IsBeginning Page = ⊤
IsBeginning (Instance id next to) = next ≤ to
IsBeginning Passed = ⊤

-- ---- what stands next

abbrev pub is_unasked : Interim → Bool
is_unasked Unasked = true
is_unasked (Left n) = false

-- the interim answer comes at most once, before the reply
abbrev pub may_interim : Reply → Bool
may_interim r = is_unasked r.interim && not (has_begun r.stage)

-- how many bytes are left of a body: the rest of the span, or what the pipe holds
abbrev pub body_left : Begin → Pipe → ℕ
body_left Page pipe = 0
body_left (Instance id next to) pipe = to - next
body_left Passed pipe = length pipe.bytes

-- the head or page comes first, and the body behind it
abbrev pub reply_left : Begin → List ℕ → Pipe → ℕ
reply_left reply text pipe = length text + body_left reply pipe

abbrev pub stage_left : Stage → List ℕ → Pipe → ℕ
stage_left Due text pipe = 0
stage_left (Begun reply) text pipe = reply_left reply text pipe

-- the interim answer comes before the reply
abbrev pub left_next : Reply → ℕ
left_next r = cond (nat_lt 0 (interim_left r.interim)) (interim_left r.interim) (stage_left r.stage r.text r.pipe)

-- ---- what of it is at hand

-- what chunks in memory hold from an offset on, without a hole, over so many chunks
unfoldable pub run_at_hand : ℕ → ℕ → ℕ → List Chunk → List ℕ
run_at_hand zero slot at cs = []
run_at_hand (suc more) slot at cs =
    let bytes = bytes_at (slot, at / 4096) cs in
    drop (at % 4096) bytes ++ (elim (length bytes == 4096) [
      | true ↦ run_at_hand more slot ((at / 4096 + 1) * 4096) cs
      | false ↦ []
    ])

-- ours: from the next offset on, over at most 16 chunks, no further than the span
abbrev pub span_at_hand : ObjectId → ℕ → ℕ → List Chunk → List ℕ
span_at_hand id next to cs = take (to - next) (run_at_hand 16 id.slot next cs)

abbrev pub body_at_hand : Begin → Pipe → List Chunk → List ℕ
body_at_hand Page pipe cs = []
body_at_hand (Instance id next to) pipe cs = span_at_hand id next to cs
body_at_hand Passed pipe cs = pipe.bytes

abbrev pub reply_at_hand : Begin → List ℕ → Pipe → List Chunk → List ℕ
reply_at_hand reply text pipe cs = text ++ body_at_hand reply pipe cs

abbrev pub stage_at_hand : Stage → List ℕ → Pipe → List Chunk → List ℕ
stage_at_hand Due text pipe cs = []
stage_at_hand (Begun reply) text pipe cs = reply_at_hand reply text pipe cs

abbrev pub at_hand : Reply → List Chunk → List ℕ
at_hand r cs =
    cond (nat_lt 0 (interim_left r.interim)) (drop (25 - interim_left r.interim) continue_text) (stage_at_hand r.stage r.text r.pipe cs)

-- ---- so many bytes of it were said

abbrev pub body_said : ℕ → Begin → Reply → Reply
body_said n Page r = r
body_said n (Instance id next to) r = record r { stage = Begun (Instance id (next + n) to) }
body_said n Passed r = record r { pipe = without_first n r.pipe }

-- of the head or page, and behind it of the body
abbrev pub reply_said : ℕ → Begin → List ℕ → Reply → Reply
reply_said n reply text r = body_said (n - length text) reply (record r { text = drop n text })

abbrev pub stage_said : ℕ → Stage → Reply → Reply
stage_said n Due r = r
stage_said n (Begun reply) r = reply_said n reply r.text r

abbrev pub said : ℕ → Reply → Reply
said n r =
    cond (nat_lt 0 (interim_left r.interim)) (record r { interim = Left (interim_left r.interim - n) }) (stage_said n r.stage r)

-- ---- all of it was said

-- a span is at its end; a pipe is finished and empty
abbrev pub is_body_said : Begin → Pipe → Bool
is_body_said Page pipe = true
is_body_said (Instance id next to) pipe = nat_le to next
is_body_said Passed pipe = pipe.is_finished && is_empty pipe.bytes

abbrev pub is_stage_said : Stage → Reply → Bool
is_stage_said Due r = false
is_stage_said (Begun reply) r = (interim_left r.interim == 0) && (is_empty r.text && is_body_said reply r.pipe)

abbrev pub is_said : Reply → Bool
is_said r = is_stage_said r.stage r

-- ---- the instance that is read

-- the first offset of its span that was not said
abbrev pub next_in : Begin → Option (ObjectId × ℕ)
next_in Page = None
next_in (Instance id next to) = if nat_lt next to then Some (id, next) else None
next_in Passed = None

abbrev pub next_at : Stage → Option (ObjectId × ℕ)
next_at Due = None
next_at (Begun reply) = next_in reply

abbrev pub next_byte : Reply → Option (ObjectId × ℕ)
next_byte r = next_at r.stage
