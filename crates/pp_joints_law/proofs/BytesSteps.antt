-- What one read of an origin changes, step by step: exchanges stay such as can be asked, and all that is set stays.
use Rattle.std.proofs.Common.{◌≡◌, refl, sym, subst, ap, ℕ, zero, suc, Bool, true, false, ◌&&◌, not, find, is_some, length, List, [], ◌∷◌, Option, Some, None}
use Rattle.pp_answers.specs.FinalHeads.{answer_to, roomed_by}
use Rattle.pp_desk.specs.Closings.{Sides, closed_conn, with_parts}
use Rattle.pp_flow.specs.Changes.{Exchanges, entry_of}
use Rattle.pp_flow.specs.Entries.{Span, moved_by}
use Rattle.pp_flow.specs.declared.entry.Entry.{Entry}
use Rattle.pp_flow.specs.declared.entry.Exchange.{Exchange}
use Rattle.pp_head.specs.Response.{Response}
use Rattle.pp_origins.specs.Gots.{Answers, Both, DataCame, DataCameThen, DeliversTo, EndsBehind, GoesOnBehind, GotFrom, HasGot, HeadCame, HeadCameFor, IsStepOn, IsTaken, Makes, Remains, TakesStep, going_on, head_on, remaining, sides_of}
use Rattle.pp_origins.specs.Responses.{bad_by, bad_for, bad_on, bad_response, charged_by, has_brought_in, response_whole}
use Rattle.pp_peers.specs.Peers.{is_number as is_peer}
use Rattle.pp_peers.specs.declared.peers.Peer.{Peer}
use Rattle.pp_pipe.specs.declared.step.Step.{Step}
use Rattle.pp_pipe.specs.declared.step.Step.TheVariants.{Head, Body, End, Bad, Idle}
use Rattle.pp_state.specs.Asking.{is_outstanding}
use Rattle.pp_state.specs.Astray.{gone_astray_where}
use Rattle.pp_state.specs.Bodies.{delivered, delivered_for, joined, joined_by, joined_within, left_for, with_dropped_in}
use Rattle.pp_state.specs.Ends.{Parts, exchange_at, failed, parts}
use Rattle.pp_state.specs.Keys.{key_of}
use Rattle.pp_state.specs.Lines.{first_on}
use Rattle.pp_state.specs.Unseen.{drops_in, with_dropped}
use Rattle.pp_state.specs.declared.state.State.{State}
use Rattle.pp_store.specs.Kept.{KeptMap}
use Rattle.pp_joints_law.proofs.Askables.{all_changed, can_end, can_errand}
use Rattle.pp_joints_law.proofs.Asks.{Can}
use Rattle.pp_joints_law.proofs.BytesHeads.{Goes, IsBeside, KeepsSet, answers, astray_beside, goes_as, head_beside, row_beside, set_rest, set_then}
use Rattle.pp_joints_law.proofs.ClearedParts.{fails, loses}
use Rattle.pp_joints_law.proofs.ClearedSides.{clears_closed, replies_stay}
use Rattle.pp_joints_law.proofs.ClearedWire.{clears_whole}
use Rattle.pp_places_law.specs.Around.{IsAskable}

-- ---- of a turn

pub record GoesOn (p q : State) : Type 0 where
  pub set : KeepsSet p q
  pub can : Can p.flow → Can q.flow

pub on_same : (p : State) → GoesOn p p
on_same p = record { set = refl; can = λ can. can }

pub on_as : (p q r : State) → r ≡ q → GoesOn p q → GoesOn p r
on_as p q r is all = subst (λ (s : State). GoesOn p s) (sym is) all

pub on_then : (p q r : State) → GoesOn p q → GoesOn q r → GoesOn p r
on_then p q r one two = record { set = set_then p q r one.set two.set; can = λ can. two.can (one.can can) }

by_beside : (p q : State) → IsBeside p q → GoesOn p q
by_beside p q it = record { set = it.set; can = λ can. subst Can (sym it.flow) can }

makes_on : (made : Sides → Sides) → ((x : Sides) → Goes x.parts (made x).parts) → (x y : Both) → Makes made x y → GoesOn x.state y.state
makes_on made goes x y it = record { set = set_rest x.state y.state it.rest; can = goes_as (parts x.state) (made (sides_of x)).parts (parts y.state) (ap (λ (s : Sides). s.parts) it.is) (goes (sides_of x)) }

-- ---- a response is whole, or is none

wholes : (k : ℕ) (x : Sides) → Goes x.parts (response_whole k x).parts
wholes k x = (clears_whole k x).can

closes : (k : ℕ) (counts : Bool) (x : Sides) → Goes x.parts (closed_conn k counts x).parts
closes k counts x = (clears_closed k counts x).can

charges : (b : Bool) (number : ℕ) (e : Exchange) (p : Parts) → Goes p (charged_by b number e p)
charges true number e p = (loses e p).can
charges false number e p = λ can. can_end number (failed e p).flow ((fails e p).can can)

bads : (k : ℕ) (x : Sides) → Goes x.parts (bad_response k x).parts
bads k x = by (first_on k x.parts)
  where
    at : (b : Bool) (number : ℕ) (e : Exchange) → Goes x.parts (bad_by b k number e x).parts
    at false number e = closes k true x
    at true number e =
        let costs : Parts → Parts = charged_by (not e.headed && has_brought_in (find (is_peer k) x.peers)) number e in
        λ can. closes k false (with_parts costs x) (charges (not e.headed && has_brought_in (find (is_peer k) x.peers)) number e x.parts can)

    found : (number : ℕ) (o : Option Entry) → Goes x.parts (bad_for k number o x).parts
    found number None = closes k false x
    found number (Some e) = at (is_outstanding e) number e.exchange

    by : (o : Option ℕ) → Goes x.parts (bad_on k o x).parts
    by None = closes k false x
    by (Some number) = found number (entry_of number x.parts.flow)

-- ---- data

moved_can : (m : ℕ) (x : Entry) → IsAskable x → IsAskable (moved_by m x)
moved_can m x ask = record { place = ask.place; short = ask.short }

joins : (number : ℕ) (o : Option Span) (bytes : List ℕ) (s : State) → GoesOn s (joined_by number o bytes s)
joins number None bytes s = on_same s
joins number (Some span) bytes s = by (left_for number s.flow)
  where
    by : (o : Option ℕ) → GoesOn s (joined_within number o span bytes s)
    by None = on_same s
    by (Some left) = record { set = refl; can = λ can. (can.0, all_changed number (moved_by _) s.flow.placed (moved_can _) can.1) }

dropped_can : (number n : ℕ) (f : Exchanges) → Can f → Can (with_dropped number n f)
dropped_can number n f can = by (entry_of number f) refl
  where
    by : (o : Option Entry) → entry_of number f ≡ o → Can (drops_in o number n f)
    by None is = can
    by (Some e) is = can_errand number _ f e is refl can

delivers : (o : Option Exchange) (number : ℕ) (bytes : List ℕ) (s : State) → GoesOn s (delivered_for o number bytes s)
delivers None number bytes s = on_same s
delivers (Some e) number bytes s =
    let one : GoesOn s (joined e bytes s) = joins e.number e.bound bytes s in
    let two : GoesOn (joined e bytes s) (with_dropped_in number (length bytes) (joined e bytes s)) = record { set = refl; can = dropped_can number (length bytes) (joined e bytes s).flow } in
    on_then s (joined e bytes s) (with_dropped_in number (length bytes) (joined e bytes s)) one two

data_on : (k : ℕ) (bytes : List ℕ) (old new : State) → DataCame k bytes old new → GoesOn old new
data_on k [] old new it = on_as old old new it (on_same old)
data_on k (b ∷ bytes) old new it = by (first_on k (parts old)) it
  where
    by : (o : Option ℕ) → DeliversTo o (b ∷ bytes) old new → GoesOn old new
    by None is = on_as old old new is (on_same old)
    by (Some number) is =
        let made : State = delivered number (b ∷ bytes) old in
        let one : GoesOn old made = delivers (exchange_at number old.flow) number (b ∷ bytes) old in
        record {
          set = set_then old made new one.set (ap (λ (s : State). record s { seats = made.seats; flow = made.flow; cache = made.cache; refused = made.refused; is_astray = made.is_astray; forgotten = made.forgotten; is_evicting = made.is_evicting }) is.rest.rest);
          can = λ can. subst Can (sym (ap (λ (s : State). s.flow) is.rest.rest)) (one.can can);
        }

data_then : (made : Sides → Sides) → ((x : Sides) → Goes x.parts (made x).parts) → (k : ℕ) (came : List ℕ) (x y : Both) → DataCameThen made k came x y → GoesOn x.state y.state
data_then made goes k came x y it = on_then x.state it.between y.state (data_on k came x.state it.between it.delivers) (makes_on made goes (record x { state = it.between }) y it.makes)

-- ---- heads

taken_on : (o : Option Response) (number : ℕ) (stays : Option Bool) (old new : State) → IsTaken o number stays old new → GoesOn old new
taken_on None number stays old new it = on_as old old new it.1 (on_same old)
taken_on (Some head) number stays old new it =
    let roomed : State = roomed_by head (answer_to head (entry_of number old.flow)) old in
    record { set = set_then old roomed new (head_beside head (answer_to head (entry_of number old.flow)) old).set (set_rest roomed new it.rest); can = answers number head (answer_to head (entry_of number old.flow)) old (parts new) it.is }

goes_behind : (o : Option Bool) (k : ℕ) (x y : Both) → GoesOnBehind o k x y → GoesOn x.state y.state
goes_behind None k x y it = makes_on (bad_response k) (bads k) x y it
goes_behind (Some stays) k x y it = on_as x.state x.state y.state (ap (λ (b : Both). b.state) it) (on_same x.state)

pub head_on_turn : (shelf : KeptMap) (k : ℕ) (x y : Both) → HeadCame shelf k x y → GoesOn x.state y.state
head_on_turn shelf k x y it = by (first_on k (parts x.state)) it
  where
    by : (o : Option ℕ) → HeadCameFor o shelf k x y → GoesOn x.state y.state
    by None is = makes_on (bad_response k) (bads k) x y is
    by (Some number) is =
        let a : Answers k number (record x { state = is.beside }) y = is.answers in
        on_then x.state is.beside y.state (by_beside x.state is.beside (row_beside shelf (key_of number x.state.flow) x.state is.beside is.row))
        (on_then is.beside a.between y.state (taken_on (head_on k x.peers) number a.stays is.beside a.between a.taken) (goes_behind a.stays k (record x { state = a.between }) y a.goes_on))

-- ---- one step, and all of them

step_takes : (step : Step) (shelf : KeptMap) (k : ℕ) (came : List ℕ) (x y : Both) → TakesStep step shelf k came x y → GoesOn x.state y.state
step_takes Head shelf k came x y it = head_on_turn shelf k x y it
step_takes (Body from to) shelf k came x y it = on_as x.state x.state y.state (ap (λ (b : Both). b.state) it) (on_same x.state)
step_takes End shelf k came x y it = data_then (response_whole k) (wholes k) k came x y it
step_takes Bad shelf k came x y it = data_then (bad_response k) (bads k) k came x y it
step_takes Idle shelf k came x y it = data_on k came x.state y.state it.0

pub step_on : (o : Option Peer) (shelf : KeptMap) (k : ℕ) (here : Remains) (x y : Both) (behind : Option Remains) → IsStepOn o shelf k here x y behind → GoesOn x.state y.state
step_on None shelf k here x y behind it = on_as x.state x.state y.state (ap (λ (b : Both). b.state) it.0) (on_same x.state)
step_on (Some peer) shelf k here x y behind it = step_takes it.told.1 shelf k here.came (record x { peers = it.fed }) y it.takes

all_on : (most : ℕ) (shelf : KeptMap) (k : ℕ) (here : Option Remains) (x y : Both) → GotFrom most shelf k here x y → GoesOn x.state y.state
unfolding GotFrom
all_on zero shelf k here x y it = on_as x.state (gone_astray_where (is_some here) x.state) y.state (ap (λ (b : Both). b.state) it) (by_beside x.state (gone_astray_where (is_some here) x.state) (astray_beside (is_some here) x.state))
all_on (suc more) shelf k None x y it = on_as x.state x.state y.state (ap (λ (b : Both). b.state) it) (on_same x.state)
all_on (suc more) shelf k (Some here) x y it = on_then x.state it.0.state y.state (step_on (going_on (find (is_peer k) x.peers)) shelf k here x it.0 it.1 it.2) (all_on more shelf k it.1 it.0 y it.3)

pub bytes_on : (shelf : KeptMap) (k : ℕ) (bytes : List ℕ) (x y : Both) → HasGot shelf k bytes x y → GoesOn x.state y.state
bytes_on shelf k bytes x y it = all_on 65600 shelf k (Some (remaining bytes [])) x y it

-- ---- and replies that are over end

pub ends_on : (made : Sides → Sides) → ((x : Sides) → Goes x.parts (made x).parts) → (x y : Both) → EndsBehind made x y → GoesOn x.state y.state
ends_on made goes x y it = record { set = set_rest x.state y.state it.rest; can = λ can. (replies_stay x.state.awake.items (made (sides_of x)) (sides_of y) it.is).can (goes (sides_of x) can) }

-- what a read begins with is what stood
pub begins_on : (x y : Both) → Makes (λ z. z) x y → GoesOn x.state y.state
begins_on x y it = makes_on (λ z. z) (λ s can. can) x y it
