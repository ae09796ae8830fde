-- The next byte of a seat is that of its client.
use Rattle.std.proofs.Common.{◌≡◌, ◌⊎◌, inl, inr, refl, sym, subst, ap, ◌∙◌, ℕ, Bool, true, false, ◌==◌, nat_lt, find, List, [], ◌∷◌, Option, Some, None, option_map, cond, arith}
use Rattle.std.specs.Prelude.{if◌then◌else◌}
use Rattle.std.proofs.lemmas.Bool.Decides.{nat_tests}
use Rattle.pp_client.specs.Replies.{Reply as Said, next_at as said_next}
use Rattle.pp_client.specs.declared.reply.Begin.TheVariants.{Page, Instance as OfInstance, Passed as IsPassed}
use Rattle.pp_client.specs.declared.reply.Stage.{Stage as SaidStage}
use Rattle.pp_client.specs.declared.reply.Stage.TheVariants.{Due, Begun}
use Rattle.pp_objects.specs.declared.id.ObjectId.{ObjectId}
use Rattle.pp_law.specs.Lists.{Bytes}
use Rattle.pp_law.specs.State.{State, Instance, Reply, Stage, Undecided, Waiting, Passing, Answering}
use Rattle.pp_law.specs.Table.{Next, instance, is_instance, next_from, next_in}
use Rattle.pp_seats.specs.declared.seat.Answer.{Answer}
use Rattle.pp_seats.specs.declared.seat.Next.{Next as SeatNext}
use Rattle.pp_seats.specs.declared.seat.Stage.{Stage as SeatStage}
use Rattle.pp_seats.specs.declared.seat.Stage.TheVariants.{Undecided as IsUndecided, Waiting as IsWaiting, Passing as IsPassing, Answering as IsAnswering}
use Rattle.pp_seats.specs.Follows.{answer_in, at_of, next_at, next_by}
use Rattle.pp_seats_law.specs.Replies.{ShowsAnswer, ShowsSaid, ShowsStage, source_number}
use Rattle.pp_seats_law.specs.Words.{NextsAreTheLaws, ShowsNext}

-- ---- an instance that is found has that number

found_holds_by : {A : Type 0} (p : A → Bool) (x y : A) (o : Option A) (b : Bool) → p y ≡ b → (o ≡ Some x → p x ≡ true) → cond b (Some y) o ≡ Some x → p x ≡ true
found_holds_by p x y o true is rest found = let e : x ≡ y = cc in subst (λ z. p z ≡ true) (sym e) is
found_holds_by p x y o false is rest found = rest found

pub found_holds : {A : Type 0} (p : A → Bool) (x : A) (xs : List A) → find p xs ≡ Some x → p x ≡ true
found_holds p x [] found = absurd (cc found)
found_holds p x (y ∷ ys) found = found_holds_by p x y (find p ys) (p y) refl (found_holds p x ys) found

same_number : (m n : ℕ) → (m == n) ≡ true → m ≡ n
same_number m n is = grind (arith, nat_tests)

pub found_number : (s : State) (id : ℕ) (x : Instance) → instance s id ≡ Some x → x.id ≡ id
found_number s id x found = same_number x.id id (found_holds (is_instance id) x s.instances found)

-- ---- where a follower is

-- where it is in its span; or it is at its end
abbrev IsAt : Option ℕ → Reply → Type 0
IsAt at r = (at ≡ Some r.at) ⊎ ((at ≡ None) × (nat_lt r.at r.to ≡ false))

abbrev at_by : Bool → ℕ → SaidStage → Option ℕ
at_by begun from stage = elim begun [ true ↦ option_map (λ next. next.1) (said_next stage) | false ↦ Some from ]

in_span : (id : ObjectId) (next to : ℕ) (b : Bool) → nat_lt next to ≡ b
    → (option_map (λ (n : ObjectId × ℕ). n.1) (if b then Some (id, next) else None) ≡ Some next) ⊎ ((option_map (λ (n : ObjectId × ℕ). n.1) (if b then Some (id, next) else None) ≡ None) × (nat_lt next to ≡ false))
in_span id next to true is = inl refl
in_span id next to false is = inr (refl, is)

none_some : {A : Type 0} {x : A} → None ≡ Some x → ⊥
none_some e = absurd (cc e)

follower_at : (stage : SaidStage) (text : Bytes) (a : Answer) (r : Reply) (id : ObjectId) → a.source ≡ Some id → ShowsSaid stage text a r → IsAt (at_by a.has_begun a.from stage) r
follower_at Due text a r id is says = inl (ap (λ (b : Bool). at_by b a.from Due) says.due ∙ ap (λ (n : ℕ). Some n) (sym says.from))
follower_at (Begun Page) text a r id is says = absurd (none_some (sym says.1 ∙ is))
follower_at (Begun IsPassed) text a r id is says = absurd (none_some (sym says.1 ∙ is))
follower_at (Begun (OfInstance source next to)) text a r id is says =
    let begun = says.0.begun in let at = says.0.next in let end = says.0.end in
    subst (λ (b : Bool). IsAt (at_by b a.from (Begun (OfInstance source next to))) r) (sym begun) (by (in_span source next to (nat_lt next to) refl) at end)
  where
    by : (option_map (λ (n : ObjectId × ℕ). n.1) (said_next (Begun (OfInstance source next to))) ≡ Some next)
        ⊎ ((option_map (λ (n : ObjectId × ℕ). n.1) (said_next (Begun (OfInstance source next to))) ≡ None) × (nat_lt next to ≡ false))
        → r.at ≡ next → r.to ≡ to → IsAt (at_by true a.from (Begun (OfInstance source next to))) r
    by (inl there) at end = inl (there ∙ ap (λ (n : ℕ). Some n) (sym at))
    by (inr none) at end = inr (none.0, ap (λ (n : ℕ). nat_lt n r.to) at ∙ ap (λ (n : ℕ). nat_lt next n) end ∙ none.1)

-- ---- its next byte

next_there : (number : ℕ → ℕ) (id : ObjectId) (x : Instance) (r : Reply) (b : Bool) → number id.life ≡ x.id → nat_lt r.at r.to ≡ b
    → ShowsNext number (elim b as (λ c. Option SeatNext) [ true ↦ Some (record { source = id; at = r.at; to = r.to }) | false ↦ None ]) (elim b as (λ c. Option Next) [ true ↦ Some (record { source = x; at = r.at; to = r.to }) | false ↦ None ])
next_there number id x r true is lt = record { source = is; at = refl; to = refl }
next_there number id x r false is lt = tt

next_shown : (number : ℕ → ℕ) (id : ObjectId) (x : Instance) (r : Reply) (at : Option ℕ) (to : ℕ) → number id.life ≡ x.id → to ≡ r.to → IsAt at r → ShowsNext number (next_at id to at) (next_from x r)
next_shown number id x r at to is end (inl there) =
    subst (λ (o : Option ℕ). ShowsNext number (next_at id to o) (next_from x r)) (sym there)
    (subst (λ (n : ℕ). ShowsNext number (next_at id n (Some r.at)) (next_from x r)) (sym end) (next_there number id x r (nat_lt r.at r.to) is refl))
next_shown number id x r at to is end (inr none) =
    subst (λ (o : Option ℕ). ShowsNext number (next_at id to o) (next_from x r)) (sym none.0)
    (subst (λ (b : Bool). ShowsNext number None (elim b as (λ c. Option Next) [ true ↦ Some (record { source = x; at = r.at; to = r.to }) | false ↦ None ])) (sym none.1) tt)

end_shown : (stage : SaidStage) (text : Bytes) (a : Answer) (r : Reply) (id : ObjectId) → a.source ≡ Some id → ShowsSaid stage text a r → a.to ≡ r.to
end_shown Due text a r id is says = sym says.to
end_shown (Begun Page) text a r id is says = absurd (none_some (sym says.1 ∙ is))
end_shown (Begun IsPassed) text a r id is says = absurd (none_some (sym says.1 ∙ is))
end_shown (Begun (OfInstance source next to)) text a r id is says = says.2 ∙ sym says.0.end

-- of a reply that follows this instance, which is there
abbrev next_of_source : State → Option ℕ → Reply → Option Next
next_of_source s source r = elim (elim source as (λ c. Option Instance) [ None ↦ None | Some id ↦ instance s id ]) as (λ c. Option Next) [ None ↦ None | Some x ↦ next_from x r ]

answer_next : (number : ℕ → ℕ) (s : State) (said : Said) (a : Answer) (r : Reply) (source : Option ObjectId) → a.source ≡ source → ShowsAnswer number said a r → ((id : ℕ) → r.source ≡ Some id → (x : Instance) × (instance s id ≡ Some x))
    → ShowsNext number (elim source as (λ c. Option SeatNext) [ None ↦ None | Some id ↦ next_at id a.to (at_of a said) ]) (next_of_source s (source_number number source) r)
answer_next number s said a r None is shows there = tt
answer_next number s said a r (Some id) is shows there = by (there (number id.life) (sym shows.source ∙ ap (source_number number) is))
  where
    by : (x : Instance) × (instance s (number id.life) ≡ Some x) → ShowsNext number (next_at id a.to (at_of a said)) (next_of_source s (Some (number id.life)) r)
    by (x, found) =
        subst (λ (o : Option Instance). ShowsNext number (next_at id a.to (at_of a said)) (elim o as (λ c. Option Next) [ None ↦ None | Some y ↦ next_from y r ])) (sym found)
        (next_shown number id x r (at_of a said) a.to (sym (found_number s (number id.life) x found)) (end_shown said.stage said.text a r id is shows.says) (follower_at said.stage said.text a r id is shows.says))

abbrev pub reply_in : Stage → Option Reply
reply_in stage = elim stage [ Undecided ↦ None | Waiting ↦ None | Passing ↦ None | Answering r ↦ Some r ]

abbrev pub next_in_stage : State → Stage → Option Next
next_in_stage s stage = elim (reply_in stage) [ None ↦ None | Some r ↦ next_in s r ]

stage_next : (number : ℕ → ℕ) (s : State) (said : Said) (stage : SeatStage) (other : Stage) → ShowsStage number said stage other → ((r : Reply) (id : ℕ) → reply_in other ≡ Some r → r.source ≡ Some id → (x : Instance) × (instance s id ≡ Some x))
    → ShowsNext number (next_by (answer_in stage) said) (next_in_stage s other)
stage_next number s said IsUndecided Undecided shows there = tt
stage_next number s said IsWaiting Waiting shows there = tt
stage_next number s said IsPassing Passing shows there = tt
stage_next number s said (IsAnswering a) (Answering r) shows there =
    subst (λ (o : Option ℕ). ShowsNext number (next_by (Some a) said) (next_of_source s o r)) shows.source (answer_next number s said a r a.source refl shows (λ id. there r id refl))
stage_next number s said stage other shows there = absurd shows

going_next : (number : ℕ → ℕ) (x : Option SeatNext) (n : Option Next) (a b : Bool) → a ≡ b → (b ≡ false → ShowsNext number x n)
    → ShowsNext number (elim a as (λ c. Option SeatNext) [ true ↦ None | false ↦ x ]) (elim b as (λ c. Option Next) [ true ↦ None | false ↦ n ])
going_next number x n true true same going = tt
going_next number x n false false same going = going refl
going_next number x n true false same going = absurd (cc same)
going_next number x n false true same going = absurd (cc same)

pub nexts : NextsAreTheLaws
nexts number s name owed seat c shows there =
    going_next number (next_by (answer_in seat.stage) seat.client.reply) (next_in_stage s c.stage) seat.is_closing c.is_closing shows.closing
    (λ going. stage_next number s seat.client.reply seat.stage c.stage (shows.going going).stage (there going))
