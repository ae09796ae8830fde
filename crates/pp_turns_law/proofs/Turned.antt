-- What changes where the reply of a client may begin, and where it stays as it is.
use Rattle.std.proofs.Common.{◌≡◌, refl, sym, subst, ap, ap₂, ◌∙◌, ℕ, zero, suc, Bool, true, false, ◌==◌, ◌&&◌, ◌||◌, not, cond, nat_lt, [], ◌∷◌, List, Option, Some, None}
use Rattle.std.specs.List.{list_any}
use Rattle.std.specs.Prelude.{slice_get, slice_set}
use Rattle.pp_cache.specs.Memory.{Memory}
use Rattle.pp_cache_law.proofs.Numbers.{some_is}
use Rattle.pp_client.specs.Clients.{IsAnswerable}
use Rattle.pp_client.specs.Replies.{Reply as Said, has_begun as has_begun_at}
use Rattle.pp_client.specs.Requests.{Front as Heading, Nothing, Begun as More, Asked as IsAsked, Refused as IsRefused}
use Rattle.pp_client.specs.declared.reply.Begin.TheVariants.{Page, Instance as OfInstance, Passed as FromPipe}
use Rattle.pp_client.specs.declared.reply.Stage.{Stage as SaidStage}
use Rattle.pp_client.specs.declared.reply.Stage.TheVariants.{Due, Begun}
use Rattle.pp_turns_law.proofs.Quitting.{left_memory}
use Rattle.pp_flow.specs.Changes.{Exchanges}
use Rattle.pp_flow_law.proofs.Entries.{none_some}
use Rattle.pp_flow_law.specs.Tables.{Leaving}
use Rattle.pp_law.specs.Closing.{is_of, left_alone}
use Rattle.pp_law.specs.Connections.{is_for}
use Rattle.pp_law.specs.Lists.{Bytes, change, is_some_with}
use Rattle.pp_law.specs.Replies.{begins, begun_at_end, begun_by, begun_decided, begun_passed}
use Rattle.pp_law.specs.Requests.{Front, Parsed, NoHeadYet, NoHead, IsRequest, has_request, parsed_of}
use Rattle.pp_law.specs.Stages.{is_begun, is_headed}
use Rattle.pp_law.specs.State.{State, Client, Exchange, Reply, Stage, Undecided, Waiting, Passing, Answering}
use Rattle.pp_law.specs.Table.{follows}
use Rattle.pp_objects.specs.Instances.{followers_of, in_slot, is_there}
use Rattle.pp_objects.specs.declared.id.ObjectId.{ObjectId}
use Rattle.pp_peers.specs.declared.peers.Peer.{Peer}
use Rattle.pp_seats.specs.Dues.{is_refused_in}
use Rattle.pp_seats.specs.Seats.{passed_in}
use Rattle.pp_seats.specs.declared.seat.Answer.{Answer}
use Rattle.pp_seats.specs.declared.seat.Brought.{Brought as SeatBrought}
use Rattle.pp_seats.specs.declared.seat.Brought.TheVariants.{Awaited as NothingYet, Useless as NoneOfUse, Joins as JoinsRow, Passes as PassesOn, TooWide as IsTooWide, Refused}
use Rattle.pp_seats.specs.declared.seat.Passed.{Passed as SeatPassed}
use Rattle.pp_seats.specs.declared.seat.Seat.{Seat}
use Rattle.pp_seats_law.proofs.Begins.{may_begin as answerable, reply_due}
use Rattle.pp_seats_law.proofs.Fronts.{front_from}
use Rattle.pp_seats_law.proofs.Nexts.{reply_in}
use Rattle.pp_seats_law.specs.Replies.{IsPipedFor, ShowsAnswer}
use Rattle.pp_seats_law.specs.Seats.{ShowsOpen, ShowsSeat}
use Rattle.pp_steps.specs.Begins.{with_left, without_outrun}
use Rattle.pp_state.specs.Ends.{followed_less, parts, unfollowed}
use Rattle.pp_state.specs.Passing.{may_answer}
use Rattle.pp_state.specs.declared.state.State.{State as Turn}
use Rattle.pp_states_law.specs.Steps.{ShowsSteps}
use Rattle.pp_world.specs.declared.note.Decision.TheVariants.{Pass}
use Rattle.pp_turns_law.proofs.AtOnce.{outrun_by, stays_silent}
use Rattle.pp_turns_law.proofs.Each.{each_of, maps_none}
use Rattle.pp_turns_law.specs.Begins.{IsReadyAt}

-- a turn amid which they begin: what its steps change shows the law's state, and so do its name and its clock
pub record AmidTurn (number : ℕ → ℕ) (l : Leaving) (peers : List Peer) (p : Turn) (s : State) : Type 0 where
  pub steps : ShowsSteps number p.name.items l peers (parts p) s
  pub name : p.name.items ≡ s.settings.name
  pub clock : p.now ≡ s.clock

-- ---- what changes

-- it follows what it followed, or what it followed it follows no more
abbrev pub FollowsOn : (ℕ → ℕ) → Memory → Client → Client → Option ObjectId → Type 0
FollowsOn number m c d None = (k : ℕ) → follows k d ≡ follows k c
FollowsOn number m c d (Some id) = (is_there id m.instances ≡ true) × ((k : ℕ) → follows k c ≡ (k == number id.life)) × ((k : ℕ) → follows k d ≡ false)

-- whether an exchange of its request that is not answered is left
abbrev pub Outruns : State → Client → Bool → Type 0
Outruns s c true = begins s c ≡ true
Outruns s c false = change (outrun_by s c) left_alone s.exchanges ≡ s.exchanges

abbrev pub outrun_flow : Bool → ℕ → Exchanges → Exchanges
outrun_flow b n f = elim b [ true ↦ without_outrun n f | false ↦ f ]

pub record Turned (number : ℕ → ℕ) (i : ℕ) (p q : Turn) (s : State) (seat : Seat) (c : Client) : Type 0 where
  pub new : Seat
  pub seats : q.seats.items ≡ slice_set p.seats.items i new
  pub shows : ShowsSeat number p.name.items [] new (begun_at_end s c)
  pub own : Option ObjectId
  pub on : FollowsOn number p.cache c (begun_at_end s c) own
  pub outruns : Bool
  pub outrun : Outruns s c outruns
  pub rest : record q { seats = p.seats } ≡ record p { cache = left_memory own p.cache; flow = outrun_flow outruns seat.client.id p.flow }

-- ---- small things

pub set_same : (i : ℕ) (seats : List Seat) (seat : Seat) → slice_get seats i ≡ Some seat → slice_set seats i seat ≡ seats
set_same i [] seat here = refl
set_same zero (x ∷ xs) seat here = ap (λ (y : Seat). y ∷ xs) (sym (some_is x seat here))
set_same (suc i) (x ∷ xs) seat here = ap (λ (ys : List Seat). x ∷ ys) (set_same i xs seat here)

pub and_no : (b : Bool) → (b && false) ≡ false
and_no true = refl
and_no false = refl

pub none_outrun : (s : State) (c : Client) (es : List Exchange) → ((e : Exchange) → outrun_by s c e ≡ false) → change (outrun_by s c) left_alone es ≡ es
none_outrun s c es none =
    maps_none (λ (e : Exchange). elim (outrun_by s c e) as (λ t. Exchange) [ true ↦ left_alone e | false ↦ e ]) es
    (each_of (λ (e : Exchange). (elim (outrun_by s c e) as (λ t. Exchange) [ true ↦ left_alone e | false ↦ e ]) ≡ e) es (λ e. ap (λ (b : Bool). elim b as (λ t. Exchange) [ true ↦ left_alone e | false ↦ e ]) (none e)))

-- one whose exchanges are all answered outruns none
pub none_unanswered : (s : State) (c : Client) (es : List Exchange) → list_any (λ e. is_of c.number e && not (is_headed e)) es ≡ false → change (outrun_by s c) left_alone es ≡ es
none_unanswered s c [] none = refl
none_unanswered s c (e ∷ es) none =
    let both : ((is_of c.number e && not (is_headed e)) ≡ false) × (list_any (λ e. is_of c.number e && not (is_headed e)) es ≡ false) = parted (is_of c.number e && not (is_headed e)) (list_any (λ e. is_of c.number e && not (is_headed e)) es) none in
    ap₂ (λ (x : Exchange) (xs : List Exchange). x ∷ xs)
    (ap (λ (b : Bool). elim b as (λ t. Exchange) [ true ↦ left_alone e | false ↦ e ]) (by (not (is_headed e)) (is_of c.number e) (begins s c) both.0))
    (none_unanswered s c es both.1)
  where
    parted : (a b : Bool) → (a || b) ≡ false → (a ≡ false) × (b ≡ false)
    parted true b is = absurd (cc is)
    parted false b is = (refl, is)

    by : (h f b : Bool) → (f && h) ≡ false → (h && (f && b)) ≡ false
    by true true b is = absurd (cc is)
    by true false b is = refl
    by false f b is = refl

pub left_is : (id : ObjectId) (m : Memory) → with_left id m ≡ unfollowed id m
left_is id m = by (is_there id m.instances && nat_lt 0 (followers_of (in_slot id.slot m.instances)))
  where
    by : (b : Bool) → (elim b as (λ t. Memory) [ true ↦ followed_less id m | false ↦ m ]) ≡ cond b (followed_less id m) m
    by true = refl
    by false = refl

pub piped_page : (brought : SeatBrought) → IsPipedFor (Begun Page) brought
piped_page NothingYet = tt
piped_page NoneOfUse = tt
piped_page (JoinsRow id plain) = tt
piped_page (PassesOn x) = tt
piped_page IsTooWide = tt
piped_page Refused = tt

pub piped_instance : (id : ObjectId) (from to : ℕ) (brought : SeatBrought) → IsPipedFor (Begun (OfInstance id from to)) brought
piped_instance id from to NothingYet = tt
piped_instance id from to NoneOfUse = tt
piped_instance id from to (JoinsRow joined plain) = tt
piped_instance id from to (PassesOn x) = tt
piped_instance id from to IsTooWide = tt
piped_instance id from to Refused = tt

pub piped_passed : (brought : SeatBrought) (x : SeatPassed) → passed_in brought ≡ Some x → IsPipedFor (Begun FromPipe) brought
piped_passed NothingYet x is = absurd (none_some x is)
piped_passed NoneOfUse x is = absurd (none_some x is)
piped_passed (JoinsRow joined plain) x is = absurd (none_some x is)
piped_passed (PassesOn y) x is = tt
piped_passed IsTooWide x is = absurd (none_some x is)
piped_passed Refused x is = absurd (none_some x is)

pub passed_given : (brought : SeatBrought) (x : SeatPassed) → passed_in brought ≡ Some x → is_refused_in brought ≡ false
passed_given NothingYet x is = refl
passed_given NoneOfUse x is = refl
passed_given (JoinsRow joined plain) x is = refl
passed_given (PassesOn y) x is = refl
passed_given IsTooWide x is = refl
passed_given Refused x is = absurd (none_some x is)

-- the head that stands at the front of what was heard
pub record IsHeading (h : Heading) (r : Parsed) : Type 0 where
  pub fault : Option ℕ
  pub is : h ≡ IsAsked r.head fault

pub heading_is : (h : Heading) (r : Parsed) → front_from h ≡ IsRequest r → IsHeading h r
heading_is Nothing r is = absurd (cc is)
heading_is More r is = absurd (cc is)
heading_is (IsAsked head fault) r is = record { fault = fault; is = ap (λ (x : Parsed). IsAsked x.head fault) (same is) }
  where
    same : front_from (IsAsked head fault) ≡ IsRequest r → parsed_of head ≡ r
    same e = cc e
heading_is (IsRefused status) r is = absurd (cc is)

-- ---- of the law's client

abbrev pub by_stage : State → Parsed → Client → Stage → Client
by_stage s r c stage = elim stage [ Undecided ↦ c | Waiting ↦ c | Passing ↦ begun_passed s r Pass c | Answering reply ↦ elim reply.has_begun [ true ↦ c | false ↦ begun_decided s r reply c ] ]

abbrev pub by_front : State → Client → Front → Client
by_front s c f = elim f [ NoHeadYet ↦ c | NoHead status ↦ c | IsRequest r ↦ begun_by s r c ]

pub closed_is : (s : State) (c : Client) → c.is_closing ≡ true → begun_at_end s c ≡ c
closed_is s c closing = ap (λ (b : Bool). elim b as (λ t. Client) [ true ↦ c | false ↦ by_front s c c.front ]) closing

pub open_is : (s : State) (c : Client) → c.is_closing ≡ false → begun_at_end s c ≡ by_front s c c.front
open_is s c going = ap (λ (b : Bool). elim b as (λ t. Client) [ true ↦ c | false ↦ by_front s c c.front ]) going

-- where each request would leave it as it is
pub quiet : (s : State) (c : Client) → c.is_closing ≡ false → ((r : Parsed) → c.front ≡ IsRequest r → begun_by s r c ≡ c) → begun_at_end s c ≡ c
quiet s c going still = open_is s c going ∙ by c.front refl
  where
    by : (f : Front) → c.front ≡ f → by_front s c f ≡ c
    by NoHeadYet is = refl
    by (NoHead status) is = refl
    by (IsRequest r) is = still r is

pub asked_is : (s : State) (c : Client) (r : Parsed) → c.is_closing ≡ false → c.front ≡ IsRequest r → begun_at_end s c ≡ begun_by s r c
asked_is s c r going is = open_is s c going ∙ ap (λ (f : Front). by_front s c f) is

pub no_request : (s : State) (c : Client) (f : Front) → c.is_closing ≡ false → c.front ≡ f → by_front s c f ≡ c → begun_at_end s c ≡ c
no_request s c f going is still = open_is s c going ∙ ap (λ (g : Front). by_front s c g) is ∙ still

-- ---- of one client in a turn

-- nothing changes
pub stays_at : (number : ℕ → ℕ) (i : ℕ) (p q : Turn) (s : State) (seat : Seat) (c : Client) → IsReadyAt number i p s seat c → (changed : Seat) → changed ≡ seat → q.seats.items ≡ slice_set p.seats.items i changed → record q { seats = p.seats } ≡ p
    → begun_at_end s c ≡ c → Turned number i p q s seat c
stays_at number i p q s seat c ready changed same items rest still = record {
  new = seat;
  seats = items ∙ ap (λ (x : Seat). slice_set p.seats.items i x) same;
  shows = subst (λ (d : Client). ShowsSeat number p.name.items [] seat d) (sym still) ready.shows;
  own = None;
  on = λ k. ap (λ (d : Client). follows k d) still;
  outruns = false;
  outrun = none_outrun s c s.exchanges (λ e. ap (λ (b : Bool). not (is_headed e) && (is_for e c && b)) (stays_silent s c still) ∙ by (not (is_headed e)) (is_for e c));
  rest = rest;
}
  where
    by : (h f : Bool) → (h && (f && false)) ≡ false
    by true true = refl
    by true false = refl
    by false f = refl

pub same_turn : (number : ℕ → ℕ) (i : ℕ) (p q : Turn) (s : State) (seat : Seat) (c : Client) → IsReadyAt number i p s seat c → q ≡ p → begun_at_end s c ≡ c → Turned number i p q s seat c
same_turn number i p q s seat c ready same still =
    stays_at number i p q s seat c ready seat refl (ap (λ (t : Turn). t.seats.items) same ∙ sym (set_same i p.seats.items seat ready.here)) (ap (λ (t : Turn). record t { seats = p.seats }) same) still

pub due_now : (number : ℕ → ℕ) (name : Bytes) (seat : Seat) (c : Client) → ShowsOpen number name [] seat c → is_begun c ≡ false → seat.client.reply.stage ≡ Due
due_now number name seat c live isnt = reply_due number seat.client.reply seat.stage c.stage live.stage isnt

-- a request that has no reply yet may have one
pub answers : (number : ℕ → ℕ) (name : Bytes) (seat : Seat) (c : Client) → ShowsOpen number name [] seat c → (r : Parsed) → c.front ≡ IsRequest r → is_begun c ≡ false → may_answer seat.client ≡ true
answers number name seat c live r is isnt =
    let may : IsAnswerable seat.client = answerable number name [] seat c live (ap has_request is) isnt in
    ap₂ (λ (a : Bool) (t : SaidStage). a && not (has_begun_at t)) may.current may.due

pub seat_shows : (number : ℕ → ℕ) (name : Bytes) (seat new : Seat) (c d : Client) → ShowsSeat number name [] seat c → new.client.id ≡ seat.client.id → new.is_closing ≡ seat.is_closing → d.number ≡ c.number → d.is_closing ≡ c.is_closing
    → ShowsOpen number name [] new d → ShowsSeat number name [] new d
seat_shows number name seat new c d shows ids closings numbers closes live =
    record { number = ids ∙ shows.number ∙ sym numbers; closing = closings ∙ shows.closing ∙ sym closes; going = λ still. live }

-- ---- of a reply that was decided

pub not_begun : (number : ℕ → ℕ) (said : Said) (a : Answer) (reply : Reply) (c : Client) → c.stage ≡ Answering reply → ShowsAnswer number said a reply → a.has_begun ≡ false → is_begun c ≡ false
not_begun number said a reply c stage seen unbegun = ap (λ (t : Stage). is_some_with (λ (r : Reply). r.has_begun) (reply_in t)) stage ∙ sym seen.begun ∙ unbegun

pub law_by : (number : ℕ → ℕ) (said : Said) (a : Answer) (reply : Reply) (s : State) (c : Client) (r : Parsed) → c.stage ≡ Answering reply → ShowsAnswer number said a reply → a.has_begun ≡ false → begun_by s r c ≡ begun_decided s r reply c
law_by number said a reply s c r stage seen unbegun =
    ap (λ (t : Stage). by_stage s r c t) stage
    ∙ ap (λ (b : Bool). elim b as (λ t. Client) [ true ↦ c | false ↦ begun_decided s r reply c ]) (sym seen.begun ∙ unbegun)
