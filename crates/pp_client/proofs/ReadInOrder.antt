-- Requests are read in the order in which they were sent, however the bytes are cut.
use Rattle.std.proofs.Common.{◌≡◌, ◌<◌, ◌≤◌, ◌-◌, ◌⊎◌, inl, inr, ℕ, List, [], ◌∷◌, ◌++◌, length, take, drop, refl, sym, ◌∙◌, ap, subst, arith, append_assoc}
use Rattle.std.specs.Prelude.{Result, Ok, Err}
use Rattle.std.proofs.lemmas.Bool.{cases_lt}
use Rattle.std.proofs.lemmas.List.{drop-append-le, take-append-le, drop_all}
use Rattle.pp_framing.specs.Framing.{request_rule_of}
use Rattle.pp_framing.specs.declared.body.BodyRule.{BodyRule}
use Rattle.pp_framing.specs.declared.body.BodyRule.TheVariants.{Empty, Length, Chunked, ToEnd}
use Rattle.pp_framing.specs.declared.framing.FramingFault.{FramingFault}
use Rattle.pp_head.specs.Read.{Read, Whole, TooLong, Bad, More}
use Rattle.pp_head.specs.Request.{Request, request_at}
use Rattle.pp_head.proofs.RequestAgrees.{request_cut, request_within}
use Rattle.pp_client.specs.declared.body.Body.{Body}
use Rattle.pp_client.specs.declared.body.Body.TheVariants.{Unread, Dropped, Over}
use Rattle.pp_client.specs.Bodies.{IsIdle, IsKept, body_by, kept, later, unread, unwanted}
use Rattle.pp_client.specs.Requests.{Heard, IsInStep, answered, current_of, front_in, front_of, heard_in, split_by, with_next}
use Rattle.pp_client.specs.InOrder.{IsReadInOrder, sent_next, unread_body}
use Rattle.pp_client.proofs.DroppedLemmas.{kept_both, later_both}
use Rattle.pp_client.proofs.FoundLemmas.{taken_some}
use Rattle.pp_client.proofs.HeadLemmas.{whole_stays}
use Rattle.pp_client.proofs.HeardParts.{of, same_parts}

-- ---- a head that stands

with_next-some : (head rest : List ℕ) (body : Body) → 0 < length head → with_next (of head rest body) ≡ of head rest body
with_next-some [] rest body some = absurd (omega (arith, some))
with_next-some (b ∷ head) rest body some = refl

answered-some : (head rest : List ℕ) (body : Body) → 0 < length head → answered (of head rest body) ≡ with_next (of [] (drop (unread body) rest) (unwanted body (length rest)))
answered-some [] rest body some = absurd (omega (arith, some))
answered-some (b ∷ head) rest body some = refl

-- the head of a whole request has some bytes, and stands in those that were read
head_some : (bytes : List ℕ) (r : Request) → request_at bytes ≡ Whole r → 0 < length (take r.length bytes)
head_some bytes r whole = let within = request_within bytes r whole in taken_some r.length bytes within.some within.within

front_whole : (bytes : List ℕ) (r : Request) → request_at bytes ≡ Whole r → front_of bytes ≡ front_in (Whole r)
front_whole [] r whole = let within = request_within [] r whole in absurd (omega (arith, within.some, within.within))
front_whole (b ∷ bytes) r whole = ap front_in whole

-- ---- bytes in two pieces

kept_more : (rule : Result BodyRule FramingFault) (a b : List ℕ) → kept (body_by rule) (a ++ b) ≡ kept (body_by rule) a ++ kept (body_by rule) b
kept_more (Ok (Length n)) a b = refl
kept_more (Ok Empty) a b = refl
kept_more (Ok Chunked) a b = refl
kept_more (Ok ToEnd) a b = refl
kept_more (Err fault) a b = refl

later_same : (rule : Result BodyRule FramingFault) (n : ℕ) → later (body_by rule) n ≡ body_by rule
later_same (Ok (Length m)) n = refl
later_same (Ok Empty) n = refl
later_same (Ok Chunked) n = refl
later_same (Ok ToEnd) n = refl
later_same (Err fault) n = refl

zero_kept : (rest : List ℕ) (n : ℕ) → n ≡ 0 → IsKept rest (Dropped n)
zero_kept [] n none = tt
zero_kept (b ∷ rest) n none = none

pub kept_later : (rest : List ℕ) (body : Body) (a : List ℕ) → IsKept rest body → IsIdle [] body → IsKept (rest ++ kept body a) (later body (length a))
kept_later rest (Unread n) a is idle = absurd idle
kept_later [] (Dropped n) a is idle = by (cases_lt n (length a))
  where
    by : (n < length a) ⊎ (length a ≤ n) → IsKept (drop n a) (Dropped (n - length a))
    by (inl within) = zero_kept (drop n a) (n - length a) (omega (arith, within))
    by (inr past) = subst (λ xs. IsKept xs (Dropped (n - length a))) (sym (drop_all n a past)) tt
kept_later (b ∷ rest) (Dropped n) a is idle = omega (arith, is)
kept_later [] Over a is idle = tt
kept_later (b ∷ rest) Over a is idle = absurd is

pub idle_later : (body : Body) (n : ℕ) → IsIdle [] body → IsIdle [] (later body n)
idle_later (Unread m) n idle = absurd idle
idle_later (Dropped m) n idle = tt
idle_later Over n idle = tt

-- a request was found in what came first
found_first : (x : List ℕ) (body : Body) (b : List ℕ) (r : Request) → IsKept x body → IsIdle [] body → request_at x ≡ Whole r
    → with_next (of [] (x ++ kept body b) (later body (length b))) ≡ heard_in b (split_by (Whole r) (of [] x body))
found_first [] body b r is idle whole = let within = request_within [] r whole in absurd (omega (arith, within.some, within.within))
found_first (y ∷ x) (Unread n) b r is idle whole = absurd idle
found_first (y ∷ x) Over b r is idle whole = absurd is
found_first (y ∷ x) (Dropped n) b r is idle whole =
    let rule : Result BodyRule FramingFault = request_rule_of r.fields in
    let within = request_within (y ∷ x) r whole in
    ap (λ k. with_next (of [] ((y ∷ x) ++ drop k b) (Dropped (n - length b)))) is
    ∙ ap (λ v. split_by v (of [] ((y ∷ x) ++ b) (Dropped (n - length b)))) (whole_stays (y ∷ x) r whole b)
    ∙ ap (λ h. of h (kept (body_by rule) (drop r.length ((y ∷ x) ++ b))) (body_by rule)) (take-append-le r.length (y ∷ x) b within.within)
    ∙ same_parts (take r.length (y ∷ x))
    (ap (kept (body_by rule)) (drop-append-le r.length (y ∷ x) b within.within) ∙ kept_more rule (drop r.length (y ∷ x)) b)
    (sym (later_same rule (length b)))
    ∙ sym (with_next-some (take r.length (y ∷ x)) (kept (body_by rule) (drop r.length (y ∷ x)) ++ kept (body_by rule) b) (later (body_by rule) (length b)) (head_some (y ∷ x) r whole))

read_both : (x : List ℕ) (body : Body) (b : List ℕ) → IsKept x body → IsIdle [] body → (v : Read Request) → request_at x ≡ v
    → with_next (of [] (x ++ kept body b) (later body (length b))) ≡ heard_in b (split_by v (of [] x body))
read_both x body b is idle (Whole r) read = found_first x body b r is idle read
read_both x body b is idle TooLong read = refl
read_both x body b is idle Bad read = refl
read_both x body b is idle More read = refl

joined : (head rest : List ℕ) (body : Body) (a b : List ℕ) → of head (rest ++ kept body (a ++ b)) (later body (length (a ++ b))) ≡ of head ((rest ++ kept body a) ++ kept (later body (length a)) b) (later (later body (length a)) (length b))
joined head rest body a b = same_parts head (ap (λ k. rest ++ k) (kept_both body a b) ∙ sym (append_assoc rest (kept body a) (kept (later body (length a)) b))) (later_both body a b)

heard_parts : (head rest : List ℕ) (body : Body) (a b : List ℕ) → IsKept rest body → IsIdle head body → heard_in (a ++ b) (of head rest body) ≡ heard_in b (heard_in a (of head rest body))
heard_parts [] rest body a b is idle =
    ap with_next (joined [] rest body a b)
    ∙ read_both (rest ++ kept body a) (later body (length a)) b (kept_later rest body a is idle) (idle_later body (length a) idle) (request_at (rest ++ kept body a)) refl
heard_parts (x ∷ head) rest body a b is idle = joined (x ∷ head) rest body a b

pub heard_in_pieces : (h : Heard) (a b : List ℕ) → IsInStep h → heard_in (a ++ b) h ≡ heard_in b (heard_in a h)
heard_in_pieces h a b step = heard_parts h.head h.rest h.body a b step.kept step.idle

-- ---- the requests in their order

first_by : (bytes : List ℕ) (body : Body) (v : Read Request) → request_at bytes ≡ v → current_of (split_by v (of [] bytes body)) ≡ front_of bytes
first_by bytes body (Whole r) read =
    let cut = request_cut bytes r read in
    let more : List ℕ = kept (body_by (request_rule_of r.fields)) (drop r.length bytes) in
    front_whole (take r.length bytes ++ more) r (whole_stays (take r.length bytes) r cut.enough more) ∙ sym (front_whole bytes r read)
first_by bytes body TooLong read = refl
first_by bytes body Bad read = refl
first_by bytes body More read = refl

next_rest : (rule : Result BodyRule FramingFault) (bytes : List ℕ) → drop (unread (body_by rule)) (kept (body_by rule) bytes) ≡ kept (unread_body (body_by rule)) bytes
next_rest (Ok (Length n)) bytes = refl
next_rest (Ok Empty) bytes = refl
next_rest (Ok Chunked) bytes = refl
next_rest (Ok ToEnd) bytes = refl
next_rest (Err fault) bytes = refl

next_body : (rule : Result BodyRule FramingFault) (bytes : List ℕ) → unwanted (body_by rule) (length (kept (body_by rule) bytes)) ≡ later (unread_body (body_by rule)) (length bytes)
next_body (Ok (Length n)) bytes = refl
next_body (Ok Empty) bytes = refl
next_body (Ok Chunked) bytes = refl
next_body (Ok ToEnd) bytes = refl
next_body (Err fault) bytes = refl

next_by : (bytes : List ℕ) (body : Body) (v : Read Request) → request_at bytes ≡ v → answered (split_by v (of [] bytes body)) ≡ sent_next v bytes
next_by bytes body (Whole r) read =
    let rule : Result BodyRule FramingFault = request_rule_of r.fields in
    answered-some (take r.length bytes) (kept (body_by rule) (drop r.length bytes)) (body_by rule) (head_some bytes r read)
    ∙ ap with_next (same_parts [] (next_rest rule (drop r.length bytes)) (next_body rule (drop r.length bytes)))
next_by bytes body TooLong read = refl
next_by bytes body Bad read = refl
next_by bytes body More read = refl

pub read_in_order : (n : ℕ) (sent : List ℕ) → IsReadInOrder n sent
read_in_order n sent = record {
  first = first_by (drop n sent) (Dropped (n - length sent)) (request_at (drop n sent)) refl;
  next = next_by (drop n sent) (Dropped (n - length sent)) (request_at (drop n sent)) refl;
}
