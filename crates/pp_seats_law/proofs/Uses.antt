-- What is said of an instance is what the law says of it.
use Rattle.std.proofs.Common.{◌≡◌, ◌⊎◌, inl, inr, refl, sym, subst, ap, ◌∙◌, ℕ, zero, suc, ◌+◌, ◌-◌, ◌<◌, ◌≤◌, Bool, true, false, ◌&&◌, nat_lt, min, List, [], ◌∷◌, length, Option, Some, None, option_map, cond, length-drop, arith}
use Rattle.std.proofs.lemmas.Bool.Decides.{nat_tests}
use Rattle.pp_text.specs.Bytes.{is_empty}
use Rattle.pp_client.specs.Replies.{Reply as Said, continue_text, interim_left, left_next, stage_left}
use Rattle.pp_client.specs.declared.interim.Interim.{Interim}
use Rattle.pp_client.specs.declared.interim.Interim.TheVariants.{Unasked, Left}
use Rattle.pp_client.specs.declared.reply.Begin.TheVariants.{Page, Instance as OfInstance, Passed as IsPassed}
use Rattle.pp_client.specs.declared.reply.Stage.{Stage as SaidStage}
use Rattle.pp_client.specs.declared.reply.Stage.TheVariants.{Due, Begun}
use Rattle.pp_pass.specs.Pipe.{Pipe}
use Rattle.pp_law.specs.Lists.{Bytes}
use Rattle.pp_law.specs.Replies.{of_body}
use Rattle.pp_law.specs.State.{State, Client, Instance, Reply, Stage, Undecided, Waiting, Passing, Answering}
use Rattle.pp_law.specs.Table.{Next, next_from, next_of, source_of}
use Rattle.pp_seats.specs.declared.seat.Answer.{Answer}
use Rattle.pp_seats.specs.declared.seat.Next.{Next as SeatNext}
use Rattle.pp_seats.specs.declared.seat.Seat.{Seat}
use Rattle.pp_seats.specs.declared.seat.Stage.{Stage as SeatStage}
use Rattle.pp_seats.specs.declared.seat.Stage.TheVariants.{Undecided as IsUndecided, Waiting as IsWaiting, Passing as IsPassing, Answering as IsAnswering}
use Rattle.pp_seats.specs.Courses.{has_begun, has_begun_in}
use Rattle.pp_seats.specs.Follows.{answer_in, next_of as seat_next}
use Rattle.pp_seats.specs.Said.{first_of, used_by}
use Rattle.pp_seats_law.specs.Replies.{ShowsInterim, ShowsSaid, ShowsStage}
use Rattle.pp_seats_law.specs.Seats.{ShowsOpen, head_left}
use Rattle.pp_seats_law.specs.Words.{ShowsNext, ShowsUsed, UsesAreTheLaws}
use Rattle.pp_seats_law.proofs.Nexts.{next_in_stage, nexts, reply_in}

-- ---- the interim answer

-- it was said, or is none; or so many bytes of it are left
pub interim_by : (i : Interim) (left : Bytes) → ShowsInterim i left → ((left ≡ []) × (interim_left i ≡ 0)) ⊎ ((length left ≡ interim_left i) × (0 < interim_left i))
interim_by Unasked left shows = inl (shows, refl)
interim_by (Left zero) left shows = inl (shows.1, refl)
interim_by (Left (suc n)) left shows =
    let few = shows.0 in
    let same : length left ≡ 25 - (25 - suc n) = ap (λ (bytes : Bytes). length bytes) shows.1 ∙ length-drop (25 - suc n) continue_text in
    inr (omega (arith, few, same), omega arith)

-- ---- how many of the bytes are of the body

abbrev body_by : ℕ → Bytes → Option Reply → ℕ
body_by n left reply = elim (is_empty left) [ false ↦ 0 | true ↦ elim reply [ None ↦ 0 | Some r ↦ n - length r.head_left ] ]

record Facts (n k before : ℕ) (begun : Bool) : Type 0 where
  minus : n - before ≡ k
  test : (nat_lt before n && begun) ≡ nat_lt 0 k

none_left : (n before : ℕ) (begun : Bool) → n ≤ before → Facts n 0 before begun
none_left n before begun few = record { minus = omega (arith, few); test = ap (λ (b : Bool). b && begun) (isnt n before few) }
  where
    isnt : (n before : ℕ) → n ≤ before → nat_lt before n ≡ false
    isnt n before few = grind (arith, nat_tests)

and_true : (b : Bool) → (b && true) ≡ b
and_true true = refl
and_true false = refl

less_same : (n len : ℕ) (t u : Bool) → nat_lt (0 + len) n ≡ t → nat_lt 0 (n - len) ≡ u → t ≡ u
less_same n len true true first second = refl
less_same n len false false first second = refl
less_same n len true false first second = absurd (grind (arith, nat_tests))
less_same n len false true first second = absurd (grind (arith, nat_tests))

behind_head : (n len : ℕ) → Facts n (n - len) (0 + len) true
behind_head n len = record { minus = omega arith; test = and_true (nat_lt (0 + len) n) ∙ less_same n len (nat_lt (0 + len) n) (nat_lt 0 (n - len)) refl refl }

facts_answer : (n : ℕ) (stage : SaidStage) (text : Bytes) (pipe : Pipe) (a : Answer) (r : Reply) → ShowsSaid stage text a r → n ≤ stage_left stage text pipe → Facts n (n - length r.head_left) (0 + length r.head_left) a.has_begun
facts_answer n Due text pipe a r says few = subst (λ (k : ℕ). Facts n k (0 + length r.head_left) a.has_begun) (omega (arith, few)) (none_left n (0 + length r.head_left) a.has_begun (omega (arith, few)))
facts_answer n (Begun Page) text pipe a r says few = subst (λ (b : Bool). Facts n (n - length r.head_left) (0 + length r.head_left) b) (sym says.0.begun) (behind_head n (length r.head_left))
facts_answer n (Begun IsPassed) text pipe a r says few = subst (λ (b : Bool). Facts n (n - length r.head_left) (0 + length r.head_left) b) (sym says.0.begun) (behind_head n (length r.head_left))
facts_answer n (Begun (OfInstance id next to)) text pipe a r says few = subst (λ (b : Bool). Facts n (n - length r.head_left) (0 + length r.head_left) b) (sym says.0.begun) (behind_head n (length r.head_left))

nothing : (n : ℕ) (said : Said) → said.stage ≡ Due → n ≤ stage_left said.stage said.text said.pipe → Facts n 0 0 false
nothing n said due few = none_left n 0 false (subst (λ (stage : SaidStage). n ≤ stage_left stage said.text said.pipe) due few)

facts_said : (number : ℕ → ℕ) (n : ℕ) (said : Said) (stage : SeatStage) (other : Stage) → ShowsStage number said stage other → n ≤ stage_left said.stage said.text said.pipe
    → Facts n (body_by n [] (reply_in other)) (0 + head_left (reply_in other)) (has_begun_in (answer_in stage))
facts_said number n said IsUndecided Undecided shows few = nothing n said shows.0 few
facts_said number n said IsWaiting Waiting shows few = nothing n said shows few
facts_said number n said IsPassing Passing shows few = nothing n said shows few
facts_said number n said (IsAnswering a) (Answering r) shows few = facts_answer n said.stage said.text said.pipe a r shows.says few
facts_said number n said stage other shows few = absurd shows

-- as long as the interim answer is not said
pub not_empty : (left : Bytes) → 0 < length left → is_empty left ≡ false
not_empty [] some = absurd (omega (arith, some))
not_empty (b ∷ left) some = refl

facts_interim : (n : ℕ) (left : Bytes) (reply : Option Reply) (begun : Bool) → 0 < length left → n ≤ length left → Facts n (body_by n left reply) (length left + head_left reply) begun
facts_interim n left reply begun some few =
    subst (λ (k : ℕ). Facts n k (length left + head_left reply) begun) (sym (ap (λ (b : Bool). elim b as (λ c. ℕ) [ false ↦ 0 | true ↦ elim reply as (λ c. ℕ) [ None ↦ 0 | Some r ↦ n - length r.head_left ] ]) (not_empty left some)))
    (none_left n (length left + head_left reply) begun (omega (arith, few)))

-- ---- they stand in its span

record Parts (r : Reply) (y : Next) : Type 0 where
  at : y.at ≡ r.at
  to : y.to ≡ r.to
  less : r.at < r.to

less_than : (m n : ℕ) → nat_lt m n ≡ true → m < n
less_than m n is = grind (arith, nat_tests)

parts_from : (x : Instance) (r : Reply) (y : Next) (b : Bool) → nat_lt r.at r.to ≡ b → (elim b as (λ c. Option Next) [ true ↦ Some (record { source = x; at = r.at; to = r.to }) | false ↦ None ]) ≡ Some y → Parts r y
parts_from x r y true less is = let e : record { source = x; at = r.at; to = r.to } ≡ y = cc in record { at = ap (λ (n : Next). n.at) (sym e); to = ap (λ (n : Next). n.to) (sym e); less = less_than r.at r.to less }
parts_from x r y false less is = absurd (cc is)

parts_in : (r : Reply) (y : Next) (source : Option Instance) → (elim source as (λ c. Option Next) [ None ↦ None | Some x ↦ next_from x r ]) ≡ Some y → Parts r y
parts_in r y None is = absurd (cc is)
parts_in r y (Some x) is = parts_from x r y (nat_lt r.at r.to) refl is

fits_answer : (n : ℕ) (stage : SaidStage) (text : Bytes) (pipe : Pipe) (a : Answer) (r : Reply) (y : Next) → ShowsSaid stage text a r → n ≤ stage_left stage text pipe → Parts r y → y.at + (n - length r.head_left) ≤ y.to
fits_answer n Due text pipe a r y says few parts = let at = parts.at in let to = parts.to in let less = parts.less in omega (arith, few, at, to, less)
fits_answer n (Begun Page) text pipe a r y says few parts = let less = parts.less in let end = says.0.next in absurd (omega (arith, less, end))
fits_answer n (Begun IsPassed) text pipe a r y says few parts = let less = parts.less in let end = says.0.next in absurd (omega (arith, less, end))
fits_answer n (Begun (OfInstance id next to)) text pipe a r y says few parts =
    let at = parts.at in let end = parts.to in let less = parts.less in let from = says.0.next in let last = says.0.end in
    let head : length r.head_left ≡ length text = ap (λ (bytes : Bytes). length bytes) says.0.left in
    omega (arith, few, at, end, less, from, last, head)

fits_said : (number : ℕ → ℕ) (n : ℕ) (s : State) (said : Said) (stage : SeatStage) (other : Stage) (y : Next) → ShowsStage number said stage other → n ≤ stage_left said.stage said.text said.pipe → next_in_stage s other ≡ Some y → y.at + body_by n [] (reply_in other) ≤ y.to
fits_said number n s said IsUndecided Undecided y shows few is = absurd (cc is)
fits_said number n s said IsWaiting Waiting y shows few is = absurd (cc is)
fits_said number n s said IsPassing Passing y shows few is = absurd (cc is)
fits_said number n s said (IsAnswering a) (Answering r) y shows few is = fits_answer n said.stage said.text said.pipe a r y shows.says few (parts_in r y (source_of s r) is)
fits_said number n s said stage other y shows few is = absurd shows

-- ---- all

used_shown : (number : ℕ → ℕ) (k : ℕ) (b : Bool) (x : Option SeatNext) (y : Option Next) → ShowsNext number x y → nat_lt 0 k ≡ b → ((z : Next) → y ≡ Some z → b ≡ true → z.at + k ≤ z.to)
    → ShowsUsed number k (elim b as (λ c. Option SeatNext) [ true ↦ option_map (first_of k) x | false ↦ None ]) (elim b as (λ c. Option Next) [ true ↦ y | false ↦ None ])
used_shown number k false x y shows is fits = tt
used_shown number k true None None shows is fits = tt
used_shown number k true (Some x) (Some y) shows is fits =
    let at = shows.at in let to = shows.to in let within = fits y refl refl in
    let end : min x.to (x.at + k) ≡ y.at + k = omega (arith, at, to, within) in (shows.source, at, end)
used_shown number k true None (Some y) shows is fits = absurd shows
used_shown number k true (Some x) None shows is fits = absurd shows

used_by_facts : (number : ℕ → ℕ) (n k : ℕ) (s : State) (seat : Seat) (c : Client) → ShowsNext number (seat_next seat) (next_of s c) → Facts n k seat.before_body (has_begun seat) → ((z : Next) → next_of s c ≡ Some z → nat_lt 0 k ≡ true → z.at + k ≤ z.to)
    → ShowsUsed number k (used_by n seat) (elim (nat_lt 0 k) as (λ x. Option Next) [ true ↦ next_of s c | false ↦ None ])
used_by_facts number n k s seat c next facts fits =
    subst (λ (m : ℕ). ShowsUsed number k (elim (nat_lt seat.before_body n && has_begun seat) as (λ x. Option SeatNext) [ true ↦ option_map (first_of m) (seat_next seat) | false ↦ None ]) (elim (nat_lt 0 k) as (λ x. Option Next) [ true ↦ next_of s c | false ↦ None ])) (sym facts.minus)
    (subst (λ (b : Bool). ShowsUsed number k (elim b as (λ x. Option SeatNext) [ true ↦ option_map (first_of k) (seat_next seat) | false ↦ None ]) (elim (nat_lt 0 k) as (λ x. Option Next) [ true ↦ next_of s c | false ↦ None ])) (sym facts.test)
    (used_shown number k (nat_lt 0 k) (seat_next seat) (next_of s c) next refl fits))

-- of one that is not closing its next byte is that of its reply
going_law : (s : State) (c : Client) → c.is_closing ≡ false → next_of s c ≡ next_in_stage s c.stage
going_law s c going = ap (λ (b : Bool). elim b as (λ x. Option Next) [ true ↦ None | false ↦ next_in_stage s c.stage ]) going

pub first_few : (n m rest : ℕ) → 0 < m → n ≤ cond (nat_lt 0 m) m rest → n ≤ m
first_few n m rest some few = by (nat_lt 0 m) refl few
  where
    by : (b : Bool) → nat_lt 0 m ≡ b → n ≤ cond b m rest → n ≤ m
    by true is less = less
    by false is less = absurd (grind (arith, nat_tests))

none_of_body : (n : ℕ) (left : Bytes) (reply : Option Reply) → 0 < length left → nat_lt 0 (body_by n left reply) ≡ true → ⊥
none_of_body n [] reply some less = absurd (omega (arith, some))
none_of_body n (b ∷ left) reply some less = absurd (cc less)

record IsWithin (n k : ℕ) (s : State) (seat : Seat) (c : Client) : Type 0 where
  facts : Facts n k seat.before_body (has_begun seat)
  fits : (z : Next) → next_of s c ≡ Some z → nat_lt 0 k ≡ true → z.at + k ≤ z.to

within : (number : ℕ → ℕ) (n : ℕ) (s : State) (name : Bytes) (owed : List Bytes) (seat : Seat) (c : Client) → ShowsOpen number name owed seat c → c.is_closing ≡ false → n ≤ left_next seat.client.reply → IsWithin n (of_body n c) s seat c
within number n s name owed seat c shows going few = by (interim_by seat.client.reply.interim c.interim_left shows.interim)
  where
    by : ((c.interim_left ≡ []) × (interim_left seat.client.reply.interim ≡ 0)) ⊎ ((length c.interim_left ≡ interim_left seat.client.reply.interim) × (0 < interim_left seat.client.reply.interim)) → IsWithin n (of_body n c) s seat c
    by (inl said) =
        let rest : n ≤ stage_left seat.client.reply.stage seat.client.reply.text seat.client.reply.pipe
        = subst (λ (m : ℕ). n ≤ cond (nat_lt 0 m) m (stage_left seat.client.reply.stage seat.client.reply.text seat.client.reply.pipe)) said.1 few in record {
          facts = subst (λ (before : ℕ). Facts n (of_body n c) before (has_begun seat)) (sym shows.before_body)
              (subst (λ (left : Bytes). Facts n (body_by n left (reply_in c.stage)) (length left + head_left (reply_in c.stage)) (has_begun seat)) (sym said.0) (facts_said number n seat.client.reply seat.stage c.stage shows.stage rest));
          fits = λ z is some. subst (λ (left : Bytes). z.at + body_by n left (reply_in c.stage) ≤ z.to) (sym said.0) (fits_said number n s seat.client.reply seat.stage c.stage z shows.stage rest (sym (going_law s c going) ∙ is));
        }
    by (inr left) =
        let many : 0 < length c.interim_left = let same = left.0 in let some = left.1 in omega (arith, same, some) in
        let no_more : n ≤ length c.interim_left = subst (λ (m : ℕ). n ≤ m) (sym left.0) (first_few n (interim_left seat.client.reply.interim) (stage_left seat.client.reply.stage seat.client.reply.text seat.client.reply.pipe) left.1 few) in record {
          facts = subst (λ (before : ℕ). Facts n (of_body n c) before (has_begun seat)) (sym shows.before_body) (facts_interim n c.interim_left (reply_in c.stage) (has_begun seat) many no_more);
          fits = λ z is some. absurd (none_of_body n c.interim_left (reply_in c.stage) many some);
        }

pub uses : UsesAreTheLaws
uses number n s name owed seat c shows going there few =
    let w = within number n s name owed seat c (shows.going going) going few in
    used_by_facts number n (of_body n c) s seat c (nexts number s name owed seat c shows (λ on. there)) w.facts w.fits
