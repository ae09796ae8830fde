-- Lives go on step by step of a read, and up to each moment between two pieces of the law.
use Rattle.std.proofs.Common.{◌≡◌, ◌⊎◌, refl, ap, inl, inr, ℕ, zero, suc, Bool, true, false, nat_lt, find, is_some, [], Option, Some, None}
use Rattle.std.specs.Prelude.{count_by}
use Rattle.pp_answers.specs.FinalHeads.{answer_to}
use Rattle.pp_answers_law.proofs.GivenAnswers.{heads_on, room_on}
use Rattle.pp_answers_law.proofs.GivenRows.{keeps_as, keeps_is, keeps_made, keeps_none, keeps_then}
use Rattle.pp_answers_law.proofs.GivenSeats.{on_beside, on_is, on_memory, on_none, on_same, on_then}
use Rattle.pp_answers_law.specs.Lives.{GivesLives, KeepsLives, LivesGoOn}
use Rattle.pp_cache.specs.Memory.{Memory, with_row}
use Rattle.pp_desk.specs.Closings.{Sides}
use Rattle.pp_due.specs.Entering.{HasRowFor, MayCome, with_room_if_over}
use Rattle.pp_due.specs.OnDisk.{IsBrought, kept_alone, with_kept}
use Rattle.pp_flow.specs.Changes.{entry_of}
use Rattle.pp_head.specs.Response.{Response}
use Rattle.pp_law.specs.Lists.{Bytes}
use Rattle.pp_law.specs.State.{State as Law}
use Rattle.pp_objects.specs.Instances.{is_row}
use Rattle.pp_origins.specs.Gots.{Answers, Both, DataCameThen, GoesOnBehind, GotFrom, HeadCame, HeadCameFor, IsStepOn, IsTaken, Makes, Remains, TakesStep, going_on, head_on, remaining, sides_of}
use Rattle.pp_origins.specs.Responses.{bad_response, response_whole}
use Rattle.pp_peers.specs.Peers.{is_number}
use Rattle.pp_peers.specs.declared.peers.Peer.{Peer}
use Rattle.pp_pipe.specs.declared.step.Step.{Step}
use Rattle.pp_pipe.specs.declared.step.Step.TheVariants.{Head, Body, End, Bad, Idle}
use Rattle.pp_state.specs.Astray.{gone_astray, gone_astray_where}
use Rattle.pp_state.specs.Ends.{Parts, parts}
use Rattle.pp_state.specs.Keys.{key_of}
use Rattle.pp_state.specs.Lines.{first_on}
use Rattle.pp_state.specs.Pins.{with_room}
use Rattle.pp_state.specs.declared.state.State.{State}
use Rattle.pp_store.specs.Kept.{Kept, KeptMap}
use Rattle.pp_reads_law.proofs.GivenSteps.{bad_on_lives, data_on, whole_on}
use Rattle.pp_reads_law.specs.Brings.{IsBehindHead, IsBehindPiece, IsMoment}
use Rattle.pp_reads_law.specs.Heads.{with_head}
use Rattle.pp_reads_law.specs.Lives.{LivesGoOnInReads, LivesGoOnToMoments}

abbrev GoesOn : Both → Both → Type 0
GoesOn x y = LivesGoOn (parts x.state) (parts y.state)

same_on : (x y : Both) → y.state ≡ x.state → GoesOn x y
same_on x y is = on_same (parts x.state) (parts y.state) (ap (λ (s : State). parts s) is)

made_on : (made : Sides → Sides) → ((x : Sides) → LivesGoOn x.parts (made x).parts) → (x y : Both) → Makes made x y → GoesOn x y
made_on made on x y it = on_is (parts x.state) (made (sides_of x)).parts (parts y.state) (ap (λ (s : Sides). s.parts) it.is) (on (sides_of x))

then_on : (made : Sides → Sides) → ((x : Sides) → LivesGoOn x.parts (made x).parts) → (k : ℕ) (came : Bytes) (x y : Both) → DataCameThen made k came x y → GoesOn x y
then_on made on k came x y it = on_then (parts x.state) (parts it.between) (parts y.state) (data_on k came x.state it.between it.delivers) (made_on made on (record x { state = it.between }) y it.makes)

-- ---- a row comes in beside a head

kept_keeps : (key : Bytes) (o : Option Kept) (m n : Memory) → IsBrought key o m n → GivesLives m → KeepsLives m n
kept_keeps key None m n is gives = keeps_is m m n is (keeps_none m gives)
kept_keeps key (Some row) m n it gives =
    let made : Memory = with_row it.id key row.entry.version row.entry.fields row.entry.times m in
    let one : KeepsLives m made = keeps_made it.id key row.entry.version row.entry.fields row.entry.times m it.vacant it.life gives in
    keeps_is m (with_kept it.id key row m) n it.entered (keeps_then m made (with_kept it.id key row m) one (keeps_as made (with_kept it.id key row m) refl refl one.gives))

over_on : (s : State) → LivesGoOn (parts s) (parts (with_room_if_over s))
over_on s = by (nat_lt 1024 (count_by is_row s.cache.instances))
  where
    by : (b : Bool) → LivesGoOn (parts s) (parts (elim b as (λ t. State) [ true ↦ with_room s | false ↦ s ]))
    by true = room_on s
    by false = on_none (parts s)

astray_on : (b : Bool) (s : State) → LivesGoOn (parts s) (parts (gone_astray_where b s))
astray_on true s = on_beside (parts s) (parts s) (parts (gone_astray s)) refl refl (on_none (parts s))
astray_on false s = on_none (parts s)

comes_on : (shelf : KeptMap) (key : Bytes) (s t : State) → MayCome shelf key s t → LivesGoOn (parts s) (parts t)
comes_on shelf key s t (inl it) =
    let mid : Parts = record { seats = s.seats.items; flow = s.flow; cache = t.cache; refused = s.refused; is_astray = s.is_astray } in
    on_is (parts s) mid (parts t) (ap (λ (u : State). let p : Parts = record { seats = u.seats.items; flow = u.flow; cache = t.cache; refused = u.refused; is_astray = u.is_astray } in p) it.rest)
    (on_memory (parts s) t.cache (λ gives. kept_keeps key (kept_alone key shelf s.cache) s.cache t.cache it.cache gives))
comes_on shelf key s t (inr is) = on_is (parts s) (parts (gone_astray s)) (parts t) (ap (λ (u : State). parts u) is) (astray_on true s)

pub row_for_on : (shelf : KeptMap) (o : Option Bytes) (s t : State) → HasRowFor shelf o s t → LivesGoOn (parts s) (parts t)
row_for_on shelf None s t is = on_same (parts s) (parts t) (ap (λ (u : State). parts u) is)
row_for_on shelf (Some key) s t it =
    on_is (parts s) (parts (with_room_if_over it.entered)) (parts t) (ap (λ (u : State). parts u) it.room)
    (on_then (parts s) (parts it.entered) (parts (with_room_if_over it.entered)) (comes_on shelf key s it.entered it.comes) (over_on it.entered))

-- ---- heads

taken_on : (o : Option Response) (number : ℕ) (stays : Option Bool) (s t : State) → IsTaken o number stays s t → LivesGoOn (parts s) (parts t)
taken_on None number stays s t it = on_same (parts s) (parts t) (ap (λ (u : State). parts u) it.1)
taken_on (Some head) number stays s t it = heads_on number head (answer_to head (entry_of number s.flow)) s (parts t) it.is

behind_on : (o : Option Bool) (k : ℕ) (x y : Both) → GoesOnBehind o k x y → GoesOn x y
behind_on None k x y it = made_on (bad_response k) (bad_on_lives k) x y it
behind_on (Some stays) k x y it = same_on x y (ap (λ (z : Both). z.state) it)

answers_on : (k number : ℕ) (x y : Both) → Answers k number x y → GoesOn x y
answers_on k number x y it =
    on_then (parts x.state) (parts it.between) (parts y.state) (taken_on (head_on k x.peers) number it.stays x.state it.between it.taken) (behind_on it.stays k (record x { state = it.between }) y it.goes_on)

head_for_on : (o : Option ℕ) (shelf : KeptMap) (k : ℕ) (x y : Both) → HeadCameFor o shelf k x y → GoesOn x y
head_for_on None shelf k x y it = made_on (bad_response k) (bad_on_lives k) x y it
head_for_on (Some number) shelf k x y it =
    on_then (parts x.state) (parts it.beside) (parts y.state) (row_for_on shelf (key_of number x.state.flow) x.state it.beside it.row) (answers_on k number (record x { state = it.beside }) y it.answers)

pub head_came_on : (shelf : KeptMap) (k : ℕ) (x y : Both) → HeadCame shelf k x y → GoesOn x y
head_came_on shelf k x y it = head_for_on (first_on k (parts x.state)) shelf k x y it

-- ---- one step, and all of them

pub takes_on : (step : Step) (shelf : KeptMap) (k : ℕ) (came : Bytes) (x y : Both) → TakesStep step shelf k came x y → GoesOn x y
takes_on Head shelf k came x y it = head_came_on shelf k x y it
takes_on (Body from to) shelf k came x y it = same_on x y (ap (λ (z : Both). z.state) it)
takes_on End shelf k came x y it = then_on (response_whole k) (whole_on k) k came x y it
takes_on Bad shelf k came x y it = then_on (bad_response k) (bad_on_lives k) k came x y it
takes_on Idle shelf k came x y it = data_on k came x.state y.state it.0

pub step_on : (o : Option Peer) (shelf : KeptMap) (k : ℕ) (here : Remains) (x y : Both) (behind : Option Remains) → IsStepOn o shelf k here x y behind → GoesOn x y
step_on None shelf k here x y behind it = same_on x y (ap (λ (z : Both). z.state) it.0)
step_on (Some peer) shelf k here x y behind it = takes_on it.told.1 shelf k here.came (record x { peers = it.fed }) y it.takes

pub reads_on : LivesGoOnInReads
unfolding GotFrom
reads_on zero shelf k here x y is = on_is (parts x.state) (parts (gone_astray_where (is_some here) x.state)) (parts y.state) (ap (λ (z : Both). parts z.state) is) (astray_on (is_some here) x.state)
reads_on (suc more) shelf k None x y is = same_on x y (ap (λ (z : Both). z.state) is)
reads_on (suc more) shelf k (Some here) x y it =
    on_then (parts x.state) (parts it.0.state) (parts y.state) (step_on (going_on (find (is_number k) x.peers)) shelf k here x it.0 it.1 it.2) (reads_on more shelf k it.1 it.0 y it.3)

-- ---- moments

module _ (name : Bytes) (shelf : KeptMap) (n : ℕ) (w x : Both) (u s : Law) (more bytes : Bytes) where
  behind_head : IsBehindHead name shelf n w u more x s bytes → GoesOn w x
  behind_head it = on_then (parts w.state) (parts it.head.state) (parts x.state) came (by it.then)
    where
      before : Both
      before = with_head n it.there.peer it.it.left it.there.begin

      came : LivesGoOn (parts w.state) (parts it.head.state)
      came = on_then (parts w.state) (parts before.state) (parts it.head.state) (same_on w before it.there.state) (head_came_on shelf n before it.head it.it.came)

      by : (x ≡ it.head) ⊎ ((after : Option Remains) × IsStepOn (going_on (find (is_number n) it.head.peers)) shelf n (remaining it.it.rest []) it.head x after) → GoesOn it.head x
      by (inl is) = same_on it.head x (ap (λ (z : Both). z.state) is)
      by (inr step) = step_on (going_on (find (is_number n) it.head.peers)) shelf n (remaining it.it.rest []) it.head x step.0 step.1

  behind_piece : IsBehindPiece name shelf n w u more x s bytes → GoesOn w x
  behind_piece it = on_then (parts w.state) (parts it.amid.state) (parts x.state) (same_on w it.amid it.is_amid.state) (step_on (going_on (find (is_number n) it.amid.peers)) shelf n it.here it.amid x it.after it.step)

pub moments_on : LivesGoOnToMoments
unfolding IsMoment
moments_on zero name shelf n begins x from s all bytes is = same_on begins x (ap (λ (z : Both). z.state) is.0)
moments_on (suc pieces) name shelf n begins x from s all bytes is =
    on_then (parts begins.state) (parts is.0.state) (parts x.state) (moments_on pieces name shelf n begins is.0 from is.1 all is.2 is.3) (by is.4)
  where
    by : IsBehindHead name shelf n is.0 is.1 is.2 x s bytes ⊎ IsBehindPiece name shelf n is.0 is.1 is.2 x s bytes → GoesOn is.0 x
    by (inl head) = behind_head name shelf n is.0 x is.1 s is.2 bytes head
    by (inr piece) = behind_piece name shelf n is.0 x is.1 s is.2 bytes piece
