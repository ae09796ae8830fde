-- Where the next byte is not in memory, and the body is next, nothing is at hand.
use Rattle.std.proofs.Common.{◌≡◌, ◌⊎◌, ◌<◌, inl, inr, refl, sym, subst, ap, ap₂, ◌∙◌, ℕ, zero, suc, ◌+◌, ◌-◌, ◌*◌, ◌/◌, ◌%◌, Bool, true, false, ◌&&◌, ◌==◌, cond, drop, length, nat_lt, take, if◌then◌else◌, List, [], ◌∷◌, ◌++◌, Option, Some, None, option_map, arith}
use Rattle.std.proofs.lemmas.Bool.Decides.{nat_tests}
use Rattle.std.proofs.lemmas.List.{length-drop}
use Rattle.pp_cache.specs.Memory.{Memory, is_in_memory}
use Rattle.pp_client.specs.Replies.{Reply as Said, at_hand, continue_text, interim_left, next_at as said_next, run_at_hand, span_at_hand, stage_at_hand, next_byte}
use Rattle.pp_client.specs.declared.interim.Interim.{Interim}
use Rattle.pp_client.specs.declared.reply.Begin.TheVariants.{Page, Instance, Passed as IsPassed}
use Rattle.pp_client.specs.declared.reply.Stage.{Stage as SaidStage}
use Rattle.pp_client.specs.declared.reply.Stage.TheVariants.{Due, Begun}
use Rattle.pp_holes.specs.Places.{Chunk, bytes_at}
use Rattle.pp_law.specs.Lists.{Bytes, is_some_with}
use Rattle.pp_law.specs.Stages.{reply_of}
use Rattle.pp_law.specs.State.{Client, Reply}
use Rattle.pp_objects.specs.Instances.{is_there}
use Rattle.pp_objects.specs.declared.id.ObjectId.{ObjectId}
use Rattle.pp_seats.specs.Follows.{answer_in, next_at, next_by}
use Rattle.pp_seats.specs.declared.seat.Answer.{Answer}
use Rattle.pp_seats.specs.declared.seat.Next.{Next as SeatNext}
use Rattle.pp_seats.specs.declared.seat.Seat.{Seat}
use Rattle.pp_seats_law.proofs.Stages.{replies}
use Rattle.pp_seats_law.proofs.Uses.{interim_by}
use Rattle.pp_seats_law.specs.Replies.{ShowsInterim, ShowsSaid}
use Rattle.pp_seats_law.specs.Seats.{ShowsOpen}
use Rattle.pp_seats_law.specs.Words.{ShowsReply}
use Rattle.pp_talk.specs.Talking.{offered, offered_in}
use Rattle.pp_text.specs.Bytes.{is_empty}

none_some : {A : Type 0} (x : A) → None ≡ Some x → ⊥
none_some x is = absurd (cc is)

first_true : (a b : Bool) → (a && b) ≡ true → a ≡ true
first_true true b is = refl
first_true false b is = is

second_true : (a b : Bool) → (a && b) ≡ true → b ≡ true
second_true true b is = is
second_true false b is = absurd (cc is)

none_long : (xs : List ℕ) → length xs ≡ 0 → xs ≡ []
none_long [] is = refl
none_long (x ∷ xs) is = absurd (omega (arith, is))

empty_is : (xs : List ℕ) → is_empty xs ≡ true → xs ≡ []
empty_is [] is = refl
empty_is (x ∷ xs) is = absurd (cc is)

none_taken : (n : ℕ) (xs : List ℕ) → xs ≡ [] → take n xs ≡ []
none_taken zero xs is = refl
none_taken (suc n) [] is = refl
none_taken (suc n) (x ∷ xs) is = absurd (cc is)

-- ---- a run

short : (at n : ℕ) → nat_lt (at % 4096) n ≡ false → n - at % 4096 ≡ 0
short at n is = grind (arith, nat_tests, is)

not_whole : (at n : ℕ) → nat_lt (at % 4096) n ≡ false → (n == 4096) ≡ false
not_whole at n is = grind (arith, nat_tests, is)

run_none : (more slot at : ℕ) (cs : List Chunk) → is_in_memory slot at cs ≡ false → run_at_hand (suc more) slot at cs ≡ []
unfolding run_at_hand
run_none more slot at cs missing =
    ap₂ (λ (xs : List ℕ) (b : Bool). xs ++ (elim b as (λ t. List ℕ) [ true ↦ run_at_hand more slot ((at / 4096 + 1) * 4096) cs | false ↦ [] ]))
    (none_long (drop (at % 4096) (bytes_at (slot, at / 4096) cs)) (length-drop (at % 4096) (bytes_at (slot, at / 4096) cs) ∙ short at (length (bytes_at (slot, at / 4096) cs)) missing))
    (not_whole at (length (bytes_at (slot, at / 4096) cs)) missing)

span_none : (id : ObjectId) (at to : ℕ) (cs : List Chunk) → is_in_memory id.slot at cs ≡ false → span_at_hand id at to cs ≡ []
span_none id at to cs missing = none_taken (to - at) (run_at_hand 16 id.slot at cs) (run_none 15 id.slot at cs missing)

-- ---- a reply

begun_none : (id : ObjectId) (at to end : ℕ) (n : SeatNext) (cs : List Chunk) (b : Bool) → next_at id end (option_map (λ (next : ObjectId × ℕ). next.1) (if b then Some (id, at) else None)) ≡ Some n → is_in_memory n.source.slot n.at cs ≡ false → span_at_hand id at to cs ≡ []
begun_none id at to end n cs false is missing = absurd (none_some n is)
begun_none id at to end n cs true is missing = by (nat_lt at end) is
  where
    by : (b : Bool) → (elim b as (λ c. Option SeatNext) [ true ↦ Some (record { source = id; at = at; to = end }) | false ↦ None ]) ≡ Some n → span_at_hand id at to cs ≡ []
    by false other = absurd (none_some n other)
    by true other = let same : record { source = id; at = at; to = end } ≡ n = cc other in span_none id at to cs (ap (λ (m : SeatNext). is_in_memory m.source.slot m.at cs) same ∙ missing)

not_both : (b : Bool) → b ≡ true → b ≡ false → ⊥
not_both b yes_it no_it = absurd (cc (yes_it, no_it))

stage_none : (said : Said) (a : Answer) (r : Reply) (cs : List Chunk) (n : SeatNext) (stage : SaidStage) → ShowsSaid stage said.text a r → a.has_begun ≡ true → r.head_left ≡ []
    → (elim a.source as (λ c. Option SeatNext) [ None ↦ None | Some id ↦ next_at id a.to (option_map (λ (next : ObjectId × ℕ). next.1) (said_next stage)) ]) ≡ Some n → is_in_memory n.source.slot n.at cs ≡ false
    → stage_at_hand stage said.text said.pipe cs ≡ []
stage_none said a r cs n Due shows begun left is missing = absurd (not_both a.has_begun begun shows.due)
stage_none said a r cs n (Begun Page) shows begun left is missing = absurd (none_some n (sym (ap (λ (o : Option ObjectId). elim o as (λ c. Option SeatNext) [ None ↦ None | Some id ↦ next_at id a.to None ]) shows.1) ∙ is))
stage_none said a r cs n (Begun IsPassed) shows begun left is missing = absurd (none_some n (sym (ap (λ (o : Option ObjectId). elim o as (λ c. Option SeatNext) [ None ↦ None | Some id ↦ next_at id a.to None ]) shows.1) ∙ is))
stage_none said a r cs n (Begun (Instance id at to)) shows begun left is missing =
    ap₂ (λ (xs ys : List ℕ). xs ++ ys) (sym shows.0.left ∙ left)
    (begun_none id at to a.to n cs (nat_lt at to)
    (sym (ap (λ (o : Option ObjectId). elim o as (λ c. Option SeatNext) [ None ↦ None | Some other ↦ next_at other a.to (option_map (λ (next : ObjectId × ℕ). next.1) (said_next (Begun (Instance id at to)))) ]) shows.1) ∙ is) missing)

reply_none : (number : ℕ → ℕ) (said : Said) (o : Option Answer) (q : Option Reply) (cs : List Chunk) (n : SeatNext) → ShowsReply number said o q → next_by o said ≡ Some n → is_some_with (λ r. r.has_begun && is_empty r.head_left) q ≡ true → is_in_memory n.source.slot n.at cs ≡ false
    → stage_at_hand said.stage said.text said.pipe cs ≡ []
reply_none number said None q cs n shows is at missing = absurd (none_some n is)
reply_none number said (Some a) None cs n shows is at missing = absurd shows
reply_none number said (Some a) (Some r) cs n shows is at missing =
    let begun : a.has_begun ≡ true = shows.begun ∙ first_true r.has_begun (is_empty r.head_left) at in
    stage_none said a r cs n said.stage shows.says begun (empty_is r.head_left (second_true r.has_begun (is_empty r.head_left) at))
    (subst (λ (t : Bool). (elim a.source as (λ c. Option SeatNext) [ None ↦ None | Some id ↦ next_at id a.to (elim t as (λ c. Option ℕ) [ true ↦ option_map (λ (next : ObjectId × ℕ). next.1) (next_byte said) | false ↦ Some a.from ]) ]) ≡ Some n) begun is) missing

-- ---- all of it

no_interim : (i : Interim) (left : Bytes) → ShowsInterim i left → is_empty left ≡ true → interim_left i ≡ 0
no_interim i left shows none = by (interim_by i left shows)
  where
    by : ((left ≡ []) × (interim_left i ≡ 0)) ⊎ ((length left ≡ interim_left i) × (0 < interim_left i)) → interim_left i ≡ 0
    by (inl both) = both.1
    by (inr both) = sym both.0 ∙ ap (λ (xs : Bytes). length xs) (empty_is left none)

offered_none : (o : Option (ObjectId × ℕ)) (reply : Said) (m : Memory) → at_hand reply m.chunks ≡ [] → offered_in o reply m ≡ []
offered_none None reply m none = ap (λ (xs : List ℕ). take 65536 xs) none
offered_none (Some next) reply m none = by (is_there next.0 m.instances)
  where
    by : (b : Bool) → (elim b as (λ t. List ℕ) [ true ↦ take 65536 (at_hand reply m.chunks) | false ↦ [] ]) ≡ []
    by true = ap (λ (xs : List ℕ). take 65536 xs) none
    by false = refl

pub nothing_offered : (number : ℕ → ℕ) (name : Bytes) (seat : Seat) (c : Client) (m : Memory) (n : SeatNext) → ShowsOpen number name [] seat c → next_by (answer_in seat.stage) seat.client.reply ≡ Some n → is_empty c.interim_left ≡ true → is_some_with (λ r. r.has_begun && is_empty r.head_left) (reply_of c) ≡ true
    → is_in_memory n.source.slot n.at m.chunks ≡ false → offered seat.client.reply m ≡ []
nothing_offered number name seat c m n live is none at missing =
    offered_none (next_byte seat.client.reply) seat.client.reply m
    (ap (λ (k : ℕ). cond (nat_lt 0 k) (drop (25 - k) continue_text) (stage_at_hand seat.client.reply.stage seat.client.reply.text seat.client.reply.pipe m.chunks)) (no_interim seat.client.reply.interim c.interim_left live.interim none)
    ∙ reply_none number seat.client.reply (answer_in seat.stage) (reply_of c) m.chunks n (replies number name [] seat c live) is at missing)
