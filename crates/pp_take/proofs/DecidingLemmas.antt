-- What a decision does, step by step; and to the row of its key, by whether that is there, and how many follow it.
use Rattle.std.proofs.Common.{◌≡◌, ◌<◌, ◌≤◌, refl, sym, subst, ap, ◌∙◌, ℕ, ◌+◌, ◌-◌, ◌^◌, min, Bool, true, false, ◌==◌, nat_lt, arith, List, Option, Some, None, option_map}
use Rattle.std.proofs.lemmas.Bool.Decides.{nat_tests}
use Rattle.pp_cache.specs.Memory.{Memory}
use Rattle.pp_objects.specs.Changes.{changed_in, followed, marked}
use Rattle.pp_objects.specs.Instances.{Instance, followers_of, id_of, in_slot, is_life, is_there}
use Rattle.pp_objects.specs.declared.id.ObjectId.{ObjectId}
use Rattle.pp_client.specs.Replies.{with_interim as interim_on}
use Rattle.pp_flow.specs.declared.entry.Aim.{Aim}
use Rattle.pp_flow.specs.declared.errand.Errand.{Errand}
use Rattle.pp_seats.specs.Decided.{answering, asking, with_interim}
use Rattle.pp_seats.specs.declared.seat.Seat.{Seat}
use Rattle.pp_world.specs.declared.note.Decision.{Decision}
use Rattle.pp_take.specs.Deciding.{Ask, Does, GetsPage, accounted, aim_for, answered_at, asked_with, begun_at, exchange_begun, followed_by, followed_more, following, is_pass, left_all, left_useless, marked_for, may_follow, row_followed, with_marked}
use Rattle.pp_state.specs.Ends.{Parts, left_at_decision, left_source, on_seat, parts}
use Rattle.pp_state.specs.declared.state.State.{State}

same_life : (n : ℕ) → (n == n) ≡ true
same_life n = grind (arith, nat_tests)

there_by : (id : ObjectId) (o : Option Instance) → Some id ≡ option_map id_of o → is_life id.life o ≡ true
there_by id None is = absurd (cc is)
there_by id (Some x) is =
    let one : id_of x ≡ id = cc is in
    subst (λ (j : ObjectId). is_life j.life (Some x) ≡ true) one (same_life x.life)

slot_by : (id : ObjectId) (o : Option Instance) (old new : Memory) → Some id ≡ option_map id_of o → new ≡ record old { instances = marked id.slot old.instances } → new ≡ with_marked o old
slot_by id None old new is changed = absurd (cc is)
slot_by id (Some x) old new is changed =
    let one : id ≡ id_of x = cc is in
    changed ∙ ap (λ (j : ObjectId). record old { instances = marked j.slot old.instances }) one

-- a row that is known is there
pub marked_is : (id : ObjectId) (o : Option Instance) (old new : Memory)
    → Some id ≡ option_map id_of o
    → in_slot id.slot old.instances ≡ o
    → (is_there id old.instances ≡ true → new ≡ record old { instances = marked id.slot old.instances })
    → new ≡ with_marked o old
marked_is id o old new is there changed =
    slot_by id o old new is (changed (ap (is_life id.life) there ∙ there_by id o is))

pub followed_is : (id : ObjectId) (old new : Memory)
    → (is_there id old.instances ≡ true → followers_of (in_slot id.slot old.instances) < 256 → new ≡ record old { instances = changed_in id.slot followed old.instances })
    → (is_there id old.instances ≡ true → 256 ≤ followers_of (in_slot id.slot old.instances) → new ≡ old)
    → (is_there id old.instances ≡ false → new ≡ old)
    → new ≡ followed_more id old
followed_is id old new few many gone = by (is_there id old.instances) (nat_lt (followers_of (in_slot id.slot old.instances)) 256) refl refl
  where
    by : (b c : Bool) → is_there id old.instances ≡ b → nat_lt (followers_of (in_slot id.slot old.instances)) 256 ≡ c → new ≡ followed_more id old
    by true true there some = rw (followed_more, may_follow, there, some) (few there (grind (arith, nat_tests, some)))
    by true false there some = rw (followed_more, may_follow, there, some) (many there (grind (arith, nat_tests, some)))
    by false c there some = rw (followed_more, may_follow, there) (gone there)

-- ---- the interim answer leaves the client its number

numbered_if : (b : Bool) (seat : Seat)
    → (elim b as (λ t. Seat) [ true ↦ record seat { client = record seat.client { reply = interim_on seat.client.reply }; before_body = min (seat.before_body + 25) (2 ^ 64 - 1) } | false ↦ seat ]).client.id ≡ seat.client.id
numbered_if true seat = refl
numbered_if false seat = refl

pub interim_number : (seat : Seat) → (with_interim seat).client.id ≡ seat.client.id
interim_number seat = numbered_if _ seat

-- ---- step by step

-- where clients alone are changed
pub with_seats : (old new : State) (seats : List Seat) → new.seats.items ≡ seats → (let t : State = record new { seats = old.seats } in t) ≡ old → parts new ≡ record (parts old) { seats = seats }
with_seats old new seats is rest =
    ap (λ (xs : List Seat). let p : Parts = record (parts new) { seats = xs } in p) is ∙ ap (λ (s : State). let p : Parts = record (parts s) { seats = seats } in p) rest

pub left_all_is : (i : ℕ) (old first second third : Parts) → first ≡ on_seat i with_interim old → second ≡ left_source i first → third ≡ left_at_decision i second → third ≡ left_all i old
unfolding left_all
left_all_is i old first second third begun left gone = gone ∙ ap (left_at_decision i) (left ∙ ap (left_source i) begun)

pub begun_is : (i : ℕ) (aim : Aim) (errand : Errand) (text : List ℕ) (old left new : Parts) → left ≡ left_at_decision i old → new ≡ begun_at i aim errand text left → new ≡ exchange_begun i aim errand text old
unfolding exchange_begun
begun_is i aim errand text old left new is begins = begins ∙ ap (begun_at i aim errand text) is

pub asked_is : (i : ℕ) (d : Decision) (ask : Ask) (old first second third new : Parts) → first ≡ on_seat i with_interim old → second ≡ left_source i first
    → third ≡ exchange_begun i (aim_for (is_pass d)) ask.0 ask.1 second → new ≡ on_seat i (asking (is_pass d)) third → new ≡ asked_with i d ask old
unfolding asked_with
asked_is i d ask old first second third new begun left asks waits =
    waits ∙ ap (on_seat i (asking (is_pass d))) (asks ∙ ap (exchange_begun i (aim_for (is_pass d)) ask.0 ask.1) (left ∙ ap (left_source i) begun))

pub answered_is : (i : ℕ) (d : Decision) (source : Option ObjectId) (span : ℕ × ℕ) (old left new : Parts) → left ≡ left_source i old → new ≡ on_seat i (answering d source span) left → new ≡ answered_at i d source span old
unfolding answered_at
answered_is i d source span old left new is answers = answers ∙ ap (on_seat i (answering d source span)) is

pub follows_is : (i : ℕ) (d : Decision) (span : ℕ × ℕ) (id : ObjectId) (old first second third new : Parts) → first ≡ on_seat i with_interim old → second ≡ following id first
    → third ≡ answered_at i d (Some id) span second → new ≡ left_useless i third → new ≡ followed_by i d span id old
unfolding followed_by
follows_is i d span id old first second third new begun follows answers leaves =
    leaves ∙ ap (left_useless i) (answers ∙ ap (answered_at i d (Some id) span) (follows ∙ ap (following id) begun))

pub row_is : (i : ℕ) (d : Decision) (span : ℕ × ℕ) (id : ObjectId) (o : Option Instance) (old new : Parts) → Some id ≡ option_map id_of o → new ≡ followed_by i d span id old → new ≡ row_followed i d span o old
row_is i d span id None old new is follows = absurd (cc is)
row_is i d span id (Some x) old new is follows =
    let one : id ≡ id_of x = cc is in
    follows ∙ ap (λ (j : ObjectId). followed_by i d span j old) one

pub taken_is : (i : ℕ) (d : Decision) (old marked told new : State) → parts marked ≡ marked_for i d (parts old) → parts told ≡ accounted i d (parts marked) → told.name ≡ old.name
    → Does told.name.items i d (parts told) (parts new) → Does old.name.items i d (accounted i d (marked_for i d (parts old))) (parts new)
taken_is i d old marked told new marks tells named does =
    subst (λ (p : Parts). Does old.name.items i d p (parts new)) (tells ∙ ap (accounted i d) marks) (subst (λ (name : List ℕ). Does name i d (parts told) (parts new)) (ap (λ v. v.items) named) does)
