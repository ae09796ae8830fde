-- What is left to be said to a request, in its order: the interim answer, the head or page, and the body.
use Rattle.std.specs.Prelude.{ℕ, ◌≡◌, ◌-◌, ◌*◌, List, [], ◌++◌, length, take, drop, slice_range, ⊤}
use Rattle.pp_holes.specs.Places.{Chunk, bytes_at}
use Rattle.pp_pass.specs.Pipe.{Pipe}
use Rattle.pp_client.specs.declared.reply.Begin.{Begin}
use Rattle.pp_client.specs.declared.reply.Begin.TheVariants.{Page, Instance, Passed}
use Rattle.pp_client.specs.declared.reply.Stage.{Stage}
use Rattle.pp_client.specs.declared.reply.Stage.TheVariants.{Due, Begun}
use Rattle.pp_client.specs.Replies.{Reply, at_hand, continue_text, interim_left, said}

-- where the instance that is read has these bytes
abbrev pub body_from : List ℕ → Begin → Pipe → List ℕ
body_from content Page pipe = []
body_from content (Instance id next to) pipe = slice_range content next to
body_from content Passed pipe = pipe.bytes

abbrev pub reply_from : List ℕ → Stage → List ℕ → Pipe → List ℕ
reply_from content Due text pipe = []
reply_from content (Begun reply) text pipe = text ++ body_from content reply pipe

abbrev pub left_from : List ℕ → Reply → List ℕ
left_from content r = drop (25 - interim_left r.interim) continue_text ++ reply_from content r.stage r.text r.pipe

-- what is in memory of that instance: of each chunk a front of its bytes
abbrev pub IsHeldOf : List ℕ → Begin → List Chunk → Type 0
IsHeldOf content Page cs = ⊤
IsHeldOf content (Instance id next to) cs = (index : ℕ) → bytes_at (id.slot, index) cs ≡ take (length (bytes_at (id.slot, index) cs)) (drop (index * 4096) content)
IsHeldOf content Passed cs = ⊤

abbrev pub IsReadFrom : List ℕ → Stage → List Chunk → Type 0
IsReadFrom content Due cs = ⊤
IsReadFrom content (Begun reply) cs = IsHeldOf content reply cs

-- what is at hand is the front of what is left
abbrev pub IsFrontOfLeft : Reply → List Chunk → Type 0
IsFrontOfLeft r cs = (content : List ℕ) → IsReadFrom content r.stage cs → at_hand r cs ≡ take (length (at_hand r cs)) (left_from content r)

-- what is said is the front of what was left
abbrev pub IsSaidFirst : ℕ → Reply → Type 0
IsSaidFirst n r = (content : List ℕ) → left_from content (said n r) ≡ drop n (left_from content r)
