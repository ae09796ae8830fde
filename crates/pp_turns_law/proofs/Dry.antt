-- Nothing that came is left to say to a seat where the law has nothing to say to its client.
use Rattle.std.proofs.Common.{arith, ◌≡◌, ◌<◌, refl, sym, subst, ap, ap₂, ◌∙◌, ℕ, zero, suc, ◌+◌, ◌-◌, ◌*◌, ◌/◌, ◌%◌, Bool, true, false, not, ◌&&◌, ◌||◌, ◌==◌, is_some, nat_lt, if◌then◌else◌, List, [], ◌∷◌, ◌++◌, length, take, drop, length-drop, Option, Some, None, option_map}
use Rattle.std.proofs.lemmas.Bool.Decides.{nat_tests}
use Rattle.pp_cache.specs.Memory.{is_in_memory}
use Rattle.pp_client.specs.Replies.{next_at as said_next, run_at_hand, span_at_hand, stage_at_hand}
use Rattle.pp_client.specs.declared.reply.Begin.TheVariants.{Page, Instance, Passed as IsPassed}
use Rattle.pp_client.specs.declared.reply.Stage.{Stage as SaidStage}
use Rattle.pp_client.specs.declared.reply.Stage.TheVariants.{Due, Begun}
use Rattle.pp_holes.specs.Places.{Chunk, bytes_at}
use Rattle.pp_law.specs.Lists.{Bytes, is_some_with}
use Rattle.pp_law.specs.State.{Reply}
use Rattle.pp_objects.specs.Instances.{Instance as Seen, is_there}
use Rattle.pp_objects.specs.declared.id.ObjectId.{ObjectId}
use Rattle.pp_pass.specs.Pipe.{Pipe}
use Rattle.pp_seats.specs.declared.seat.Answer.{Answer}
use Rattle.pp_seats.specs.declared.seat.Next.{Next as SeatNext}
use Rattle.pp_seats.specs.Follows.{next_at}
use Rattle.pp_seats_law.specs.Replies.{ShowsSaid}
use Rattle.pp_seats_law.specs.Seats.{head_left}
use Rattle.pp_due.specs.Due.{is_next_there}
use Rattle.pp_text.specs.Bytes.{is_empty}
use Rattle.pp_turns_law.proofs.Follows.{none_some}

-- ---- its reply is past its head

pub and_false : (b : Bool) → (b && false) ≡ false
and_false true = refl
and_false false = refl

other_than_none : (n : ℕ) → 0 < n → (n == 0) ≡ false
other_than_none n some = grind (arith, nat_tests, some)

none_of_both : (begun : Bool) (xs ys : Bytes) → (begun && (length xs + length ys == 0)) ≡ (is_empty xs && (begun && is_empty ys))
none_of_both false [] ys = refl
none_of_both false (x ∷ xs) ys = refl
none_of_both true [] [] = refl
none_of_both true [] (y ∷ ys) = other_than_none (0 + length (y ∷ ys)) (omega arith)
none_of_both true (x ∷ xs) ys = other_than_none (length (x ∷ xs) + length ys) (omega arith)

pub at_body : (left : Bytes) (o : Option Reply) (begun : Bool) (before : ℕ) → begun ≡ is_some_with (λ r. r.has_begun) o → before ≡ length left + head_left o
    → (begun && (before == 0)) ≡ (is_empty left && is_some_with (λ r. r.has_begun && is_empty r.head_left) o)
at_body left None begun before is sum = ap (λ (b : Bool). b && (before == 0)) is ∙ sym (and_false (is_empty left))
at_body left (Some r) begun before is sum = ap₂ (λ (b : Bool) (n : ℕ). b && (n == 0)) is sum ∙ none_of_both r.has_begun left r.head_left

-- ---- what it is said is there

there_if : (b : Bool) (id : ObjectId) (at : ℕ) (is : List Seen) → is_there id is ≡ true → is_next_there (if b then Some (id, at) else None) is ≡ true
there_if true id at is there = there
there_if false id at is there = refl

pub said_there : (stage : SaidStage) (text : Bytes) (a : Answer) (r : Reply) (is : List Seen) → ShowsSaid stage text a r → ((id : ObjectId) → a.source ≡ Some id → is_there id is ≡ true) → is_next_there (said_next stage) is ≡ true
said_there Due text a r is shows there = refl
said_there (Begun Page) text a r is shows there = refl
said_there (Begun IsPassed) text a r is shows there = refl
said_there (Begun (Instance id at to)) text a r is shows there = there_if (nat_lt at to) id at is (there id shows.1)

-- ---- where nothing is at hand, the next byte is not in memory

nothing_behind : (xs ys : Bytes) → is_empty (xs ++ ys) ≡ true → is_empty ys ≡ true
nothing_behind [] ys none = none
nothing_behind (x ∷ xs) ys none = absurd (cc none)

nothing_before : (xs ys : Bytes) → is_empty (xs ++ ys) ≡ true → is_empty xs ≡ true
nothing_before [] ys none = refl
nothing_before (x ∷ xs) ys none = absurd (cc none)

nothing_taken : (n : ℕ) (xs : Bytes) → 0 < n → is_empty (take n xs) ≡ true → is_empty xs ≡ true
nothing_taken n [] some none = refl
nothing_taken zero (x ∷ xs) some none = absurd (omega (arith, some))
nothing_taken (suc n) (x ∷ xs) some none = absurd (cc none)

pub empty_length : (xs : Bytes) → is_empty xs ≡ true → length xs ≡ 0
empty_length [] none = refl
empty_length (x ∷ xs) none = absurd (cc none)

nothing_left : (n : ℕ) (xs : Bytes) → is_empty (drop n xs) ≡ true → nat_lt n (length xs) ≡ false
nothing_left n xs none = let len : length xs - n ≡ 0 = sym (length-drop n xs) ∙ empty_length (drop n xs) none in grind (arith, nat_tests, len)

run_front : (more slot at : ℕ) (cs : List Chunk) → is_empty (run_at_hand (suc more) slot at cs) ≡ true → is_empty (drop (at % 4096) (bytes_at (slot, at / 4096) cs)) ≡ true
unfolding run_at_hand
run_front more slot at cs none =
    nothing_before (drop (at % 4096) (bytes_at (slot, at / 4096) cs)) (elim (length (bytes_at (slot, at / 4096) cs) == 4096) as (λ c. Bytes) [ true ↦ run_at_hand more slot ((at / 4096 + 1) * 4096) cs | false ↦ [] ]) none

span_front : (id : ObjectId) (at to : ℕ) (cs : List Chunk) → nat_lt at to ≡ true → is_empty (span_at_hand id at to cs) ≡ true → is_in_memory id.slot at cs ≡ false
span_front id at to cs less none =
    nothing_left (at % 4096) (bytes_at (id.slot, at / 4096) cs) (run_front 15 id.slot at cs (nothing_taken (to - at) (run_at_hand 16 id.slot at cs) (grind (arith, nat_tests, less)) none))

not_begun : (b : Bool) → b ≡ true → b ≡ false → ⊥
not_begun b yes_it no_it = absurd (cc (yes_it, no_it))

-- the next byte of a reply that has begun with a span of an instance
begun_next : (id : ObjectId) (at to end : ℕ) (n : SeatNext) (cs : List Chunk) (b : Bool) → nat_lt at to ≡ b → next_at id end (option_map (λ (next : ObjectId × ℕ). next.1) (if b then Some (id, at) else None)) ≡ Some n → end ≡ to
    → is_empty (span_at_hand id at to cs) ≡ true → is_in_memory n.source.slot n.at cs ≡ false
begun_next id at to end n cs false less is same none = absurd (none_some is)
begun_next id at to end n cs true less is same none = by (nat_lt at end) (ap (λ (m : ℕ). nat_lt at m) same ∙ less) is
  where
    by : (b : Bool) → b ≡ true → (elim b as (λ c. Option SeatNext) [ true ↦ Some (record { source = id; at = at; to = end }) | false ↦ None ]) ≡ Some n → is_in_memory n.source.slot n.at cs ≡ false
    by false other is = absurd (none_some is)
    by true other is = let same_next : record { source = id; at = at; to = end } ≡ n = cc is in subst (λ (m : SeatNext). is_in_memory m.source.slot m.at cs ≡ false) same_next (span_front id at to cs less none)

pub not_in_memory : (stage : SaidStage) (text : Bytes) (pipe : Pipe) (a : Answer) (r : Reply) (cs : List Chunk) (n : SeatNext) → ShowsSaid stage text a r → a.has_begun ≡ true
    → (elim a.source as (λ c. Option SeatNext) [ None ↦ None | Some id ↦ next_at id a.to (option_map (λ (next : ObjectId × ℕ). next.1) (said_next stage)) ]) ≡ Some n
    → is_empty (stage_at_hand stage text pipe cs) ≡ true → is_in_memory n.source.slot n.at cs ≡ false
not_in_memory Due text pipe a r cs n shows begun is none = absurd (not_begun a.has_begun begun shows.due)
not_in_memory (Begun Page) text pipe a r cs n shows begun is none = absurd (none_some (sym (ap (λ (o : Option ObjectId). elim o as (λ c. Option SeatNext) [ None ↦ None | Some id ↦ next_at id a.to None ]) shows.1) ∙ is))
not_in_memory (Begun IsPassed) text pipe a r cs n shows begun is none = absurd (none_some (sym (ap (λ (o : Option ObjectId). elim o as (λ c. Option SeatNext) [ None ↦ None | Some id ↦ next_at id a.to None ]) shows.1) ∙ is))
not_in_memory (Begun (Instance id at to)) text pipe a r cs n shows begun is none =
    begun_next id at to a.to n cs (nat_lt at to) refl
    (sym (ap (λ (o : Option ObjectId). elim o as (λ c. Option SeatNext) [ None ↦ None | Some other ↦ next_at other a.to (option_map (λ (next : ObjectId × ℕ). next.1) (said_next (Begun (Instance id at to)))) ]) shows.1) ∙ is)
    shows.2 (nothing_behind text (span_at_hand id at to cs) none)

-- ---- in memory or on the disk

pub dry_some : (e b l m : Bool) (n : SeatNext) → (e ≡ true → b ≡ true → m ≡ false)
    → (e && not (is_some (elim b as (λ c. Option SeatNext) [ true ↦ elim (l && not m) as (λ c. Option SeatNext) [ true ↦ Some n | false ↦ None ] | false ↦ None ]))) ≡ not (not e || (b && (m || l)))
dry_some false b l m n out = refl
dry_some true false l m n out = refl
dry_some true true true true n out = absurd (cc (out refl refl))
dry_some true true false true n out = absurd (cc (out refl refl))
dry_some true true true false n out = refl
dry_some true true false false n out = refl

pub dry_none : (e b : Bool) → (e && not (is_some (elim b as (λ c. Option SeatNext) [ true ↦ None | false ↦ None ]))) ≡ not (not e || (b && false))
dry_none true true = refl
dry_none true false = refl
dry_none false true = refl
dry_none false false = refl
