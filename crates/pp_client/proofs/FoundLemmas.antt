-- A request that was found: its head, and what is kept behind it.
use Rattle.std.proofs.Common.{◌≡◌, ◌<◌, ◌≤◌, ℕ, List, [], ◌∷◌, length, take, sym, subst, arith, length-take}
use Rattle.std.specs.Prelude.{Some, Result, Ok, Err}
use Rattle.pp_framing.specs.Framing.{request_rule_of}
use Rattle.pp_framing.specs.declared.body.BodyRule.{BodyRule}
use Rattle.pp_framing.specs.declared.body.BodyRule.TheVariants.{Empty, Length, Chunked, ToEnd}
use Rattle.pp_framing.specs.declared.framing.FramingFault.{FramingFault}
use Rattle.pp_head.specs.Read.{Read, Whole, TooLong, Bad, More}
use Rattle.pp_head.specs.Request.{Request}
use Rattle.pp_client.specs.declared.body.Body.{Body}
use Rattle.pp_client.specs.declared.body.Body.TheVariants.{Unread}
use Rattle.pp_client.specs.declared.heard.Found.{Found}
use Rattle.pp_client.specs.Bodies.{IsIdle, IsKept, body_by, kept}
use Rattle.pp_client.specs.Found.{found_in}

unread_kept : (n : ℕ) (bytes : List ℕ) → IsKept bytes (Unread n)
unread_kept n [] = tt
unread_kept n (b ∷ bytes) = tt

pub body_kept : (rule : Result BodyRule FramingFault) (bytes : List ℕ) → IsKept (kept (body_by rule) bytes) (body_by rule)
body_kept (Ok (Length n)) bytes = unread_kept n bytes
body_kept (Ok Empty) bytes = unread_kept 0 bytes
body_kept (Ok Chunked) bytes = unread_kept 0 bytes
body_kept (Ok ToEnd) bytes = unread_kept 0 bytes
body_kept (Err fault) bytes = tt

pub found_kept : (read : Read Request) (found : Found) (bytes : List ℕ) → Some found ≡ found_in read → IsKept (kept found.body bytes) found.body
found_kept (Whole request) found bytes is = let e : found ≡ record { len = request.length; body = body_by (request_rule_of request.fields) } = cc is in subst (λ (f : Found). IsKept (kept f.body bytes) f.body) (sym e) (body_kept (request_rule_of request.fields) bytes)
found_kept TooLong found bytes is = absurd (cc is)
found_kept Bad found bytes is = absurd (cc is)
found_kept More found bytes is = absurd (cc is)

pub some_idle : (head : List ℕ) (body : Body) → 0 < length head → IsIdle head body
some_idle [] body some = absurd (omega (arith, some))
some_idle (b ∷ head) body some = tt

pub taken_some : (n : ℕ) (bytes : List ℕ) → 0 < n → n ≤ length bytes → 0 < length (take n bytes)
taken_some n bytes some within = omega (arith, some, within, length-take n bytes)
