-- The steps that one read tells, one behind the other.
use Rattle.std.proofs.Common.{◌≡◌, ◌<◌, ◌≤◌, ◌-◌, ◌+◌, ℕ, zero, suc, Bool, true, false, cond, List, [], ◌∷◌, ◌++◌, length, drop, take, slice_range, min, is_some, nat_lt, vec_capacity, IfOk, IfSome, inl, inr, Option, Some, None, Ok, Err, refl, sym, ap, subst, ◌∙◌, arith}
use Rattle.std.specs.Prelude.{count_by}
use Rattle.std.specs.List.{find}
use Rattle.std.proofs.lemmas.List.{drop-drop, drop-take, take-take}
use Rattle.pp_answers.specs.FinalHeads.{AnswersAsk, answer_to, roomed_by}
use Rattle.pp_cache.specs.Bounds.{IsBounded}
use Rattle.pp_desk.specs.Calls.{Found}
use Rattle.pp_desk.specs.Closings.{KeepsDesk, Sides, sides}
use Rattle.pp_desk.specs.declared.desk.Desk.{Desk}
use Rattle.pp_due.specs.Entering.{HasRowFor, MayCome, with_room_if_over}
use Rattle.pp_flow.specs.Changes.{entry_of}
use Rattle.pp_flow.specs.declared.entry.Entry.{Entry}
use Rattle.pp_framing.specs.declared.body.BodyRule.{BodyRule}
use Rattle.pp_head.specs.Response.{Response}
use Rattle.pp_objects.specs.Instances.{is_row}
use Rattle.pp_answers.proofs.AnswerLemmas.{room_seats}
use Rattle.pp_origins.specs.Gots.{Both, DataCame, DataCameThen, EndsBehind, GotFrom, HasGot, IsFedOn, IsReceived, IsStepOn, IsTaken, Makes, Remains, TakesStep, both, going_on, left_behind, remaining, stays_by}
use Rattle.pp_peers.specs.Peers.{is_number}
use Rattle.pp_peers.specs.declared.peers.Peer.{Peer}
use Rattle.pp_pipe.specs.Front.{stays_open}
use Rattle.pp_pipe.specs.declared.step.Step.{Step}
use Rattle.pp_pipe.specs.declared.step.Step.TheVariants.{Body}
use Rattle.pp_seats.specs.declared.seat.Seat.{Seat}
use Rattle.pp_state.specs.Astray.{gone_astray}
use Rattle.pp_state.specs.Ends.{AreInOrder, AreSeated, KeepsRest, numbers_of, parts}
use Rattle.pp_state.specs.Pins.{with_room}
use Rattle.pp_state.specs.declared.state.State.{State}
use Rattle.pp_store.specs.Kept.{KeptMap}
use Rattle.pp_world.specs.Wire.{IsWithin}
use Rattle.pp_world.specs.declared.event.Got.TheVariants.{Bytes, End as Ended, NotYet}

-- ---- the bytes that are left

-- behind a step
bytes_behind : (xs : List ℕ) (at n used : ℕ) → at + used ≤ n → drop used (slice_range xs at n) ≡ slice_range xs (at + used) n
bytes_behind xs at n used within =
    let parts : n - at ≡ used + (n - (at + used)) = omega (arith, within) in
    ap (λ m. drop used (take m (drop at xs))) parts ∙ drop-take used (n - (at + used)) (drop at xs) ∙ ap (take (n - (at + used))) (drop-drop used at xs)

-- ---- the front of what was read into

front_of : (n : ℕ) (xs : List ℕ) → n ≤ length xs → length (take n xs) ≡ n
front_of zero xs within = refl
front_of (suc n) [] within = absurd (omega (arith, within))
front_of (suc n) (x ∷ xs) within = ap suc (front_of n xs (omega (arith, within)))

-- as much as there is room for, and no more than all of it
pub front_room : (own all least : ℕ) (xs : List ℕ) → least ≡ min own all → all ≡ length xs → length (take least xs) ≡ least
front_room own all least xs is same = front_of least xs (fits own all least (length xs) is same)
  where
    fits : (own all least most : ℕ) → least ≡ min own all → all ≡ most → least ≤ most
    fits own all least most is same = grind (arith, is, same)

-- what was lent is written back whole
refilled : (xs ys : List ℕ) → take (length xs) (xs ++ ys) ≡ xs
refilled [] ys = refl
refilled (x ∷ xs) ys = ap (λ (zs : List ℕ). x ∷ zs) (refilled xs ys)

pub written_back : (n : ℕ) (old lent new : List ℕ) → length lent ≡ n → length new ≡ length lent → take n (new ++ drop (length new) old) ≡ new
written_back n old lent new len same = ap (λ (m : ℕ). take m (new ++ drop (length new) old)) (sym len ∙ sym same) ∙ refilled new (drop (length new) old)

-- how much there is room for is asked, and nothing changes
pub asked_buffer : (old asked : Desk) → record asked { state = record asked.state { seats = old.state.seats } } ≡ old → asked.buffer.items ≡ old.buffer.items
asked_buffer old asked rest = ap (λ (d : Desk). d.buffer.items) rest

pub asked_data : (old asked : Desk) → record asked { state = record asked.state { seats = old.state.seats } } ≡ old → vec_capacity asked.«data» ≡ vec_capacity old.«data»
asked_data old asked rest = ap (λ (d : Desk). vec_capacity d.«data») rest

pub asked_same : (old asked : Desk) → asked.state.seats.items ≡ old.state.seats.items → record asked { state = record asked.state { seats = old.state.seats } } ≡ old → Makes (λ z. z) (both old) (both asked)
asked_same old asked seats rest = record {
  is = ap (λ (others : List Seat). record (sides asked) { parts = record (parts asked.state) { seats = others } }) seats ∙ ap sides rest;
  rest = ap (λ (d : Desk). record d.state { flow = old.state.flow; cache = old.state.cache; refused = old.state.refused; is_astray = old.state.is_astray }) rest;
}

pub received_front : (found : Found) (shelf : KeptMap) (k room : ℕ) (xs : List ℕ) (x y : Both) → IfSome found (λ r. IfOk r (IsWithin room)) → IsReceived found shelf k xs x y → IsReceived found shelf k (take room xs) x y
received_front None shelf k room xs x y within is = is
received_front (Some (Ok (Bytes n))) shelf k room xs x y within is =
    subst (λ (ys : List ℕ). (next : Both) × HasGot shelf k ys x next × EndsBehind (λ z. z) next y) (sym (take-take n room xs within.1)) is
received_front (Some (Ok Ended)) shelf k room xs x y within is = is
received_front (Some (Ok NotYet)) shelf k room xs x y within is = is
received_front (Some (Err fault)) shelf k room xs x y within is = is

-- ---- one step

pub keeps_state : (old new : Desk) → KeepsDesk old new → KeepsRest old.state new.state
keeps_state old new keeps = ap (λ (d : Desk). d.state) keeps

pub makes : (made : Sides → Sides) (old new : Desk) → sides new ≡ made (sides old) → KeepsDesk old new → Makes made (both old) (both new)
makes made old new is keeps = record { is = is; rest = keeps_state old new keeps }

pub still_seated : (old new : State) → numbers_of new.seats.items ≡ numbers_of old.seats.items → AreSeated old → AreSeated new
still_seated old new same ordered = subst AreInOrder (sym same) ordered

-- data, and behind them its end, or what is no response
pub data_then : (made : Sides → Sides) (k : ℕ) (old mid new : Desk) → DataCame k old.«data».items old.state mid.state → record mid { state = old.state; «data» = old.«data» } ≡ old → sides new ≡ made (sides mid) → KeepsDesk mid new
    → DataCameThen made k old.«data».items (both old) (both new)
data_then made k old mid new delivers rest is keeps = record {
  between = mid.state;
  delivers = delivers;
  makes = subst (λ (peers : List Peer). Makes made (record { state = mid.state; peers = peers }) (both new)) (ap (λ (d : Desk). d.peers) rest) (makes made mid new is keeps);
}

-- a step that was told, and what is left behind it
step_on : (p : Option Peer) (shelf : KeptMap) (k : ℕ) (here : Remains) (told : ℕ × Step) (answer : Option (ℕ × Step)) (fed : List Peer) (old next : Both) (behind : Option Remains) → answer ≡ Some told → IsFedOn p k here.bytes answer old.peers fed
    → TakesStep told.1 shelf k here.came (record old { peers = fed }) next → IsBounded next.state.cache → behind ≡ left_behind told.0 told.1 here → IsStepOn p shelf k here old next behind
step_on None shelf k here told answer fed old next behind is feeds takes bounded leaves = absurd (subst (λ (a : Option (ℕ × Step)). IsFedOn None k here.bytes a old.peers fed) is feeds)
step_on (Some peer) shelf k here told answer fed old next behind is feeds takes bounded leaves =
    record { told = told; fed = fed; feeds = subst (λ (a : Option (ℕ × Step)). IsFedOn (Some peer) k here.bytes a old.peers fed) is feeds; takes = takes; leaves = leaves; bounded = bounded }

left_is : (xs : List ℕ) (at n used : ℕ) (came now : List ℕ) → at + used ≤ n → now ≡ came → Some (remaining (slice_range xs (at + used) n) now) ≡ Some (remaining (drop used (slice_range xs at n)) came)
left_is xs at n used came now within same = ap (λ (ys : List ℕ). Some (remaining (slice_range xs (at + used) n) ys)) same ∙ ap (λ (ys : List ℕ). Some (remaining ys came)) (sym (bytes_behind xs at n used within))

-- it uses no more than is left
short : (m : ℕ) (ys : List ℕ) → length (take m ys) ≤ m
short zero ys = omega arith
short (suc m) [] = omega arith
short (suc m) (y ∷ ys) = omega (arith, short m ys)

used_within : (p : Option Peer) (k : ℕ) (xs : List ℕ) (at n : ℕ) (told : ℕ × Step) (old new : List Peer) → at ≤ n → IsFedOn p k (slice_range xs at n) (Some told) old new → at + told.0 ≤ n
used_within None k xs at n told old new within fed = absurd fed
used_within (Some peer) k xs at n told old new within fed =
    let used : told.0 ≤ length (take (n - at) (drop at xs)) = fed.within in omega (arith, within, used, short (n - at) (drop at xs))

pub body_fits : (p : Option Peer) (k : ℕ) (xs : List ℕ) (at n used from to : ℕ) (old new : List Peer) → IsFedOn p k (slice_range xs at n) (Some (used, Body from to)) old new → to - from ≤ n - at
body_fits None k xs at n used from to old new fed = absurd fed
body_fits (Some peer) k xs at n used from to old new fed =
    let uses : used ≤ length (take (n - at) (drop at xs)) = fed.within in
    let ends : to ≤ used = fed.uses.1 in
    omega (arith, uses, ends, short (n - at) (drop at xs))

-- a step behind which the read goes on
pub step_goes_on : (p : Option Peer) (shelf : KeptMap) (k : ℕ) (xs : List ℕ) (at n used : ℕ) (step : Step) (answer : Option (ℕ × Step)) (fed : List Peer) (old next : Both) (came next_came now : List ℕ) → at ≤ n → answer ≡ Some (used, step)
    → IsFedOn p k (slice_range xs at n) answer old.peers fed → TakesStep step shelf k came (record old { peers = fed }) next → IsBounded next.state.cache
    → Some (remaining (drop used (slice_range xs at n)) next_came) ≡ left_behind used step (remaining (slice_range xs at n) came) → now ≡ next_came
    → IsStepOn p shelf k (remaining (slice_range xs at n) came) old next (Some (remaining (slice_range xs (at + used) n) now))
step_goes_on p shelf k xs at n used step answer fed old next came next_came now within is feeds takes bounded left same =
    let told : IsFedOn p k (slice_range xs at n) (Some (used, step)) old.peers fed = subst (λ (a : Option (ℕ × Step)). IsFedOn p k (slice_range xs at n) a old.peers fed) is feeds in
    step_on p shelf k (remaining (slice_range xs at n) came) (used, step) answer fed old next (Some (remaining (slice_range xs (at + used) n) now)) is feeds takes bounded
    (left_is xs at n used next_came now (used_within p k xs at n (used, step) old.peers fed within told) same ∙ left)

-- ---- a head

-- it is taken where it answers an ask of its kind
pub head_taken : (o : Option Response) (number : ℕ) (head : Response) (taken : Bool) (old new : State) → o ≡ Some head → taken ≡ is_some (answer_to head (entry_of number old.flow))
    → AnswersAsk number head (answer_to head (entry_of number old.flow)) old (parts new) → KeepsRest (roomed_by head (answer_to head (entry_of number old.flow)) old) new → IsTaken o number (cond taken (Some (stays_open head)) None) old new
head_taken o number head taken old new there right is rest = subst (λ (x : Option Response). IsTaken x number (cond taken (Some (stays_open head)) None) old new) (sym there) (record {
  is = is;
  rest = rest;
  stays_is = ap (λ (b : Bool). cond b (Some (stays_open head)) None) right ∙ by (answer_to head (entry_of number old.flow));
})
  where
    by : (a : Option (Entry × BodyRule)) → cond (is_some a) (Some (stays_open head)) None ≡ stays_by head a
    by None = refl
    by (Some x) = refl

-- ---- the kept row of its key comes in, and the clients stay

if_over : (s : State) → (with_room_if_over s).seats ≡ s.seats
if_over s = by (nat_lt 1024 (count_by is_row s.cache.instances))
  where
    by : (b : Bool) → (elim b as (λ b. State) [ true ↦ with_room s | false ↦ s ]).seats ≡ s.seats
    by true = room_seats s
    by false = refl

come_seats : (shelf : KeptMap) (key : List ℕ) (old new : State) → MayCome shelf key old new → new.seats ≡ old.seats
come_seats shelf key old new (inl comes) = ap (λ (s : State). s.seats) comes.rest
come_seats shelf key old new (inr same) = ap (λ (s : State). s.seats) same

pub beside_seats : (shelf : KeptMap) (key : Option (List ℕ)) (old new : State) → HasRowFor shelf key old new → new.seats ≡ old.seats
beside_seats shelf None old new is = ap (λ (s : State). s.seats) is
beside_seats shelf (Some key) old new is = ap (λ (s : State). s.seats) is.room ∙ if_over is.entered ∙ come_seats shelf key old is.entered is.comes

pub beside_numbers : (shelf : KeptMap) (key : Option (List ℕ)) (old new : State) → HasRowFor shelf key old new → numbers_of new.seats.items ≡ numbers_of old.seats.items
beside_numbers shelf key old new is = ap (λ v. numbers_of v.items) (beside_seats shelf key old new is)

-- ---- one behind the other

-- so far i of so many steps were made
pub record AreGotSoFar (most i : ℕ) (shelf : KeptMap) (k : ℕ) (first here : Option Remains) (x mid : Both) : Type 0 where
  pub on : (y : Both) → GotFrom (most - i) shelf k here mid y → GotFrom most shelf k first x y

pub none_got : (most : ℕ) (shelf : KeptMap) (k : ℕ) (first : Option Remains) (x : Both) → AreGotSoFar most 0 shelf k first first x x
none_got most shelf k first x = record { on = λ y all. subst (λ (n : ℕ). GotFrom n shelf k first x y) (none_less most) all }
  where
    none_less : (most : ℕ) → most - 0 ≡ most
    none_less most = grind (arith)

one_less : (most i : ℕ) → i < most → most - i ≡ suc (most - (i + 1))
one_less most i less = grind (arith)

got_next : (more : ℕ) (shelf : KeptMap) (k : ℕ) (here : Remains) (behind : Option Remains) (x next y : Both) → IsStepOn (going_on (find (is_number k) x.peers)) shelf k here x next behind → GotFrom more shelf k behind next y → GotFrom (suc more) shelf k (Some here) x y
unfolding GotFrom
got_next more shelf k here behind x next y step others = (next, behind, step, others)

pub one_more_got : (most i : ℕ) (shelf : KeptMap) (k : ℕ) (first : Option Remains) (here : Remains) (behind : Option Remains) (x mid new : Both) → i < most → AreGotSoFar most i shelf k first (Some here) x mid
    → IsStepOn (going_on (find (is_number k) mid.peers)) shelf k here mid new behind → AreGotSoFar most (i + 1) shelf k first behind x new
one_more_got most i shelf k first here behind x mid new less before step = record {
  on = λ y others. before.on y (subst (λ (n : ℕ). GotFrom n shelf k (Some here) mid y) (sym (one_less most i less)) (got_next (most - (i + 1)) shelf k here behind mid new y step others));
}

got_over : (more : ℕ) (shelf : KeptMap) (k : ℕ) (x : Both) → GotFrom more shelf k None x x
unfolding GotFrom
got_over zero shelf k x = refl
got_over (suc more) shelf k x = refl

-- the read is over
pub all_got : (most i : ℕ) (shelf : KeptMap) (k : ℕ) (first : Option Remains) (x mid : Both) → AreGotSoFar most i shelf k first None x mid → GotFrom most shelf k first x mid
all_got most i shelf k first x mid before = before.on mid (got_over (most - i) shelf k mid)

abbrev more_left : Both → Both
more_left x = record x { state = gone_astray x.state }

no_more : (shelf : KeptMap) (k : ℕ) (here : Remains) (x : Both) → GotFrom 0 shelf k (Some here) x (more_left x)
unfolding GotFrom
no_more shelf k here x = refl

-- or there were as many as may be, and one more was to come
pub most_got : (most i : ℕ) (shelf : KeptMap) (k : ℕ) (first : Option Remains) (here : Remains) (x mid : Both) → most ≤ i → AreGotSoFar most i shelf k first (Some here) x mid → GotFrom most shelf k first x (record mid { state = gone_astray mid.state })
most_got most i shelf k first here x mid all before = before.on (more_left mid) (subst (λ (n : ℕ). GotFrom n shelf k (Some here) mid (more_left mid)) (sym (none_left most i all)) (no_more shelf k here mid))
  where
    none_left : (most i : ℕ) → most ≤ i → most - i ≡ 0
    none_left most i all = grind (arith)
