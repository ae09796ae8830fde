-- A page is the reply: its request follows and asks nothing any more, in the program as in the law.
use Rattle.std.proofs.Common.{◌≡◌, refl, sym, subst, ap, ap₂, ◌∙◌, ℕ, ◌+◌, ◌-◌, ◌^◌, min, Bool, true, false, ◌==◌, ◌&&◌, not, cond, nat_lt, find, List, [], Some, None, Option, option_map, arith}
use Rattle.std.specs.Prelude.{option_and_then, slice_get, slice_set}
use Rattle.pp_cache.specs.Memory.{Memory}
use Rattle.pp_cache_law.proofs.Finds.{find_passes}
use Rattle.pp_cache_law.proofs.Moves.{changed_if, in_slot-changed, in_slot-elsewhere, in_slot-gone}
use Rattle.pp_cache_law.proofs.Numbers.{is_same, some_is}
use Rattle.pp_client.specs.Clients.{Client as Side}
use Rattle.pp_client.specs.Replies.{Reply as Said, with_interim as interim_on}
use Rattle.pp_flow_law.specs.Changes.{left_by as flow_left}
use Rattle.pp_flow.specs.Changes.{Exchanges}
use Rattle.pp_flow_law.specs.Tables.{Leaving, ShowsFlow}
use Rattle.pp_law.specs.Closing.{forsake, is_of, leave}
use Rattle.pp_law.specs.Connections.{is_client, on_client}
use Rattle.pp_law.specs.Deciding.{refuse, refused_with}
use Rattle.pp_law.specs.Lists.{Bytes}
use Rattle.pp_law.specs.State.{State, Client}
use Rattle.pp_law.specs.Table.{follows, swept}
use Rattle.pp_objects.specs.Changes.{changed_in, is_last, left, left_from, without_slot}
use Rattle.pp_objects.specs.Instances.{Instance, followers_of, in_slot, is_life, is_there}
use Rattle.pp_objects.specs.declared.id.ObjectId.{ObjectId}
use Rattle.pp_seats.specs.Decided.{paged, with_interim}
use Rattle.pp_seats.specs.declared.seat.Seat.{Seat}
use Rattle.pp_seats_law.proofs.Decided.{pages}
use Rattle.pp_seats_law.specs.Clients.{IsAt}
use Rattle.pp_seats_law.specs.Seats.{ShowsOpen, ShowsSeat}
use Rattle.pp_states_law.proofs.Decided.{leaves as states_leave}
use Rattle.pp_states_law.specs.Decisions.{AsksOnce}
use Rattle.pp_states_law.specs.States.{Parts as Whole, ShowsState}
use Rattle.pp_take.specs.Deciding.{GetsPage, IsPaged, IsPagedIf, IsRefused, left_all}
use Rattle.pp_state.specs.Ends.{AreInOrder, Parts, changed_at, followed_less, left_at_decision, left_source, on_seat, source_at, source_of, unfollowed, without_source}
use Rattle.pp_state.specs.Passing.{may_answer}
use Rattle.pp_state.specs.Places.{IsChangedAt, IsChangedIn}
use Rattle.pp_states_law.proofs.Places.{numbers_set}
use Rattle.pp_states_law.proofs.Told.{Stands, are_told_on}
use Rattle.pp_states_law.specs.Steps.{ShowsSteps, whole}
use Rattle.pp_states_law.specs.Told.{AreTold}
use Rattle.pp_turns_law.proofs.Changed.{get_set, set_set}
use Rattle.pp_turns_law.proofs.Left.{left_is, told_by_left}
use Rattle.pp_turns_law.proofs.Quitting.{IsLeftBy, client_left, follows_one, left_memory}
use Rattle.pp_turns_law.proofs.Sitting.{follows_none, interim_front, interim_may, interim_number, interim_source, is_at, leaves_none, on_seat_is, shown_at}
use Rattle.pp_turns_law.specs.Decides.{FollowsWhatIsThere, IsDecided, MayRefuse, RefusalsAreTheLaws}

-- ---- the program's: what it followed is left

abbrev pub quit : Option ObjectId → Seat → Seat
quit None seat = with_interim seat
quit (Some id) seat = without_source (with_interim seat)

pub quit_is : (i : ℕ) (p : Parts) (seat : Seat) (o : Option ObjectId) → slice_get p.seats i ≡ Some seat → source_of seat ≡ o → left_source i (on_seat i with_interim p) ≡ record p { seats = slice_set p.seats i (quit o seat); cache = left_memory o p.cache }
quit_is i p seat o here is = ap (left_source i) (on_seat_is i with_interim p seat here) ∙ by o sourced
  where
    one : Seat
    one = with_interim seat

    first : Parts
    first = record p { seats = slice_set p.seats i one }

    there : slice_get first.seats i ≡ Some one
    there = get_set i p.seats seat one here

    sourced : source_at i first ≡ o
    sourced = ap (λ (x : Option Seat). option_and_then source_of x) there ∙ interim_source seat ∙ is

    changed : changed_at i without_source first.seats ≡ slice_set p.seats i (without_source one)
    changed = ap (λ (x : Option Seat). elim x as (λ t. List Seat) [ None ↦ first.seats | Some y ↦ slice_set first.seats i (without_source y) ]) there ∙ set_set i p.seats one (without_source one)

    by : (o : Option ObjectId) → source_at i first ≡ o → left_source i first ≡ record p { seats = slice_set p.seats i (quit o seat); cache = left_memory o p.cache }
    by None none = leaves_none i first none
    by (Some id) some =
        ap (λ (x : Option ObjectId). elim x as (λ t. Parts) [ None ↦ first | Some y ↦ record first { seats = changed_at i without_source first.seats; cache = unfollowed y p.cache } ]) some
        ∙ ap (λ (seats : List Seat). record p { seats = seats; cache = unfollowed id p.cache }) changed

pub quit_front : (o : Option ObjectId) (seat : Seat) → (quit o seat).front ≡ seat.front
quit_front None seat = interim_front seat
quit_front (Some id) seat = interim_front seat

pub quit_number : (o : Option ObjectId) (seat : Seat) → (quit o seat).client.id ≡ seat.client.id
quit_number None seat = interim_number seat
quit_number (Some id) seat = interim_number seat

-- ---- no instance comes in

there_left : (id : ObjectId) (slot : ℕ) (b : Bool) (is : List Instance) → is_there id (cond b (without_slot slot is) (changed_in slot left is)) ≡ true → is_there id is ≡ true
there_left id slot true is out = at (id.slot == slot) refl
  where
    at : (b : Bool) → (id.slot == slot) ≡ b → is_there id is ≡ true
    at true same =
        let none : in_slot id.slot (without_slot slot is) ≡ None = ap (λ (n : ℕ). in_slot n (without_slot slot is)) (is_same id.slot slot same) ∙ in_slot-gone slot is in
        absurd (cc (sym (ap (λ (o : Option Instance). is_life id.life o) none) ∙ out))
    at false apart = sym (ap (λ (o : Option Instance). is_life id.life o) (in_slot-elsewhere id.slot slot is apart)) ∙ out
there_left id slot false is still =
    sym (ap (λ (o : Option Instance). is_life id.life o) (in_slot-changed id.slot slot left is (λ j. refl)) ∙ same_life id.life slot (in_slot id.slot is)) ∙ still
  where
    same_life : (life k : ℕ) (o : Option Instance) → is_life life (option_map (changed_if k left) o) ≡ is_life life o
    same_life life k None = refl
    same_life life k (Some i) = by (i.slot == k)
      where
        by : (b : Bool) → ((cond b (left i) i).life == life) ≡ (i.life == life)
        by true = refl
        by false = refl

less_stands : (id : ObjectId) (m : Memory) (next : ℕ) → Stands m (followed_less id m) next next
less_stands id m next = record { lives = omega arith; numbers = omega arith; there = λ other there. there_left other id.slot (is_last (in_slot id.slot m.instances)) m.instances there }

same_stands : (m : Memory) (next : ℕ) → Stands m m next next
same_stands m next = record { lives = omega arith; numbers = omega arith; there = λ other there. there }

pub left_stands : (o : Option ObjectId) (m : Memory) (next : ℕ) → Stands m (left_memory o m) next next
left_stands None m next = same_stands m next
left_stands (Some id) m next = by (is_there id m.instances && nat_lt 0 (followers_of (in_slot id.slot m.instances)))
  where
    by : (b : Bool) → Stands m (cond b (followed_less id m) m) next next
    by true = less_stands id m next
    by false = same_stands m next

-- ---- the page

may_still : (o : Option ObjectId) (seat : Seat) → may_answer (quit o seat).client ≡ may_answer seat.client
may_still None seat = interim_may seat
may_still (Some id) seat = interim_may seat

page_same : (o : Option ObjectId) (status : ℕ) (seat : Seat) → paged status (quit o seat) ≡ paged status (with_interim seat)
page_same None status seat = refl
page_same (Some id) status seat = refl

paged_if : (b : Bool) (status : ℕ) (old last : Seat) → b ≡ true → IsPagedIf b status old last → last ≡ record (paged status old) { account = last.account }
paged_if true status old last is paged = paged
paged_if false status old last is paged = absurd (cc is)

paged_at : (status i : ℕ) (p : Parts) (seat : Seat) (o : Option ObjectId) (x : Option Seat) (old new : List Seat) → may_answer seat.client ≡ true → old ≡ slice_set p.seats i (quit o seat) → x ≡ Some (quit o seat) → IsChangedIn (IsPaged status) x i old new
    → (last : Seat) × (last ≡ (let t : Seat = record (paged status (with_interim seat)) { account = last.account } in t)) × (new ≡ slice_set p.seats i last)
paged_at status i p seat o None old new may is there changed = absurd (cc there)
paged_at status i p seat o (Some y) old new may is there (last, paged, set) =
    let same : y ≡ quit o seat = cc there in (
      last,
      paged_if (may_answer (quit o seat).client) status (quit o seat) last (may_still o seat ∙ may) (subst (λ (z : Seat). IsPaged status z last) same paged)
          ∙ ap (λ (z : Seat). let t : Seat = record z { account = last.account } in t) (page_same o status seat),
      set ∙ ap (λ (seats : List Seat). slice_set seats i last) is ∙ set_set i p.seats (quit o seat) last,
    )

-- ---- the law's

sweep_last : (n : ℕ) (s : State) → leave (is_of n) (swept s) ≡ swept (leave (is_of n) s)
unfolding leave forsake swept
sweep_last n s = refl

pub once_swept : (n : ℕ) (f : Client → Client) (s : State) → AsksOnce n s → AsksOnce n (swept (on_client n f s))
unfolding swept on_client
once_swept n f s once = record { once = once.once; going = once.going; apart = once.apart }

next_swept : (n : ℕ) (f : Client → Client) (s : State) → (swept (leave (is_of n) (on_client n f s))).next_instance ≡ s.next_instance
unfolding leave forsake swept on_client
next_swept n f s = refl

-- what its seat follows, its client does
pub followed_as : (number : ℕ → ℕ) (name : Bytes) (i : ℕ) (p : Parts) (seat : Seat) (c : Client) → slice_get p.seats i ≡ Some seat → ShowsOpen number name [] seat c → c.is_closing ≡ false
    → FollowsWhatIsThere i p → IsLeftBy number p.cache c (source_of seat)
followed_as number name i p seat c here live going there = by (source_of seat) refl
  where
    sourced : source_at i p ≡ source_of seat
    sourced = ap (λ (x : Option Seat). option_and_then source_of x) here

    still : (b : Bool) → (not c.is_closing && b) ≡ b
    still b = ap (λ (x : Bool). not x && b) going

    by : (o : Option ObjectId) → source_of seat ≡ o → IsLeftBy number p.cache c o
    by None none = λ k. ap (λ (b : Bool). not c.is_closing && b) (follows_none number k seat.client.reply seat.stage c.stage live.stage none) ∙ still false
    by (Some id) some = (there id (sourced ∙ some), λ k. ap (λ (b : Bool). not c.is_closing && b) (follows_one number k id seat.client.reply seat.stage c.stage live.stage some) ∙ still (k == number id.life))

pub refusals : RefusalsAreTheLaws
unfolding refuse left_all
refusals number name l peers p s steps i status seat c new decided may gets =
    let n : ℕ = seat.client.id in
    let here : slice_get p.seats i ≡ Some seat = decided.place.here in
    let at : IsAt n i p.seats = is_at i p.seats seat steps.order here in
    let same : c.number ≡ n = is_same c.number n (find_passes (is_client n) s.clients c decided.place.there) in
    let shown : ShowsSeat number name [] seat c = shown_at number name [] p.seats s.clients n i seat c steps.shows.clients at here decided.place.there in
    let live : ShowsOpen number name [] seat c = shown.going decided.going in
    let o : Option ObjectId = source_of seat in
    let f : Client → Client = refused_with status in
    let quits : Parts = record p { seats = slice_set p.seats i (quit o seat); cache = left_memory o p.cache } in
    let there : slice_get quits.seats i ≡ Some (quit o seat) = get_set i p.seats seat (quit o seat) here in
    let all : left_all i p ≡ record quits { flow = flow_left n p.flow } =
    ap (left_at_decision i) (quit_is i p seat o here refl) ∙ left_is number l quits s steps.shows.exchanges i (quit o seat) there ∙ ap (λ (m : ℕ). record quits { flow = flow_left m p.flow }) (quit_number o seat) in
    let page : GetsPage status i (record quits { flow = flow_left n p.flow }) new = subst (λ (q : Parts). GetsPage status i q new) all gets in
    let last : (x : Seat) × (x ≡ (let t : Seat = record (paged status (with_interim seat)) { account = x.account } in t)) × (new.seats ≡ slice_set p.seats i x) =
    paged_at status i p seat o (slice_get quits.seats i) quits.seats new.seats may.answers refl there page.seat in
    let y : Seat = last.0 in
    let whole_new : new ≡ record p { seats = slice_set p.seats i y; cache = left_memory o p.cache; flow = flow_left n p.flow } =
    ap (λ (q : Parts). record q { seats = new.seats }) page.rest ∙ ap (λ (seats : List Seat). record quits { seats = seats; flow = flow_left n p.flow }) last.2 in
    let left : ShowsState number name [] l (record (whole p peers) { seats = slice_set p.seats i y; memory = left_memory o p.cache }) (swept (on_client n f s)) =
    client_left number name [] l (whole p peers) s steps.shows n i y f c o at decided.place.there (λ k. ap (λ (b : Bool). not b && false) decided.going) (followed_as number name i p seat c here live decided.going may.there)
    (λ other x here' there' shows'. subst (λ (d : Client). ShowsSeat number name [] y (f d)) (some_is c x (sym decided.place.there ∙ there'))
    (subst (λ (z : Seat). ShowsSeat number name [] z (f c)) (sym last.1) (pages number status y.account name [] seat c shown decided.going decided.may may.page may.room))) in
    let once : AsksOnce n s = subst (λ (m : ℕ). AsksOnce m s) same decided.asks in
    let leaves : ShowsState number name [] l (record (whole p peers) { seats = slice_set p.seats i y; memory = left_memory o p.cache; flow = flow_left n p.flow }) (swept (leave (is_of n) (on_client n f s))) =
    subst (λ (t : State). ShowsState number name [] l (record (whole p peers) { seats = slice_set p.seats i y; memory = left_memory o p.cache; flow = flow_left n p.flow }) t) (sweep_last n (on_client n f s))
    (states_leave number name [] l (record (whole p peers) { seats = slice_set p.seats i y; memory = left_memory o p.cache }) (swept (on_client n f s)) left n (once_swept n f s once)) in
    subst (λ (q : Parts). ShowsSteps number name l peers q (swept (leave (is_of c.number) (on_client c.number f s)))) (sym whole_new)
    (subst (λ (m : ℕ). ShowsSteps number name l peers (record p { seats = slice_set p.seats i y; cache = left_memory o p.cache; flow = flow_left n p.flow }) (swept (leave (is_of m) (on_client m f s)))) (sym same) (record {
      shows = leaves;
      order = subst (λ (ns : List ℕ). AreInOrder ns) (sym (numbers_set i p.seats seat y here (ap (λ (z : Seat). z.client.id) last.1 ∙ interim_number seat))) steps.order;
      told = subst (λ (m : ℕ). AreTold number (left_memory o p.cache) m (flow_left n p.flow)) (sym (next_swept n f s))
          (are_told_on number p.cache (left_memory o p.cache) s.next_instance s.next_instance (left_stands o p.cache s.next_instance) (flow_left n p.flow) (told_by_left number p s.next_instance n steps.told));
      refused = steps.refused;
    }))
