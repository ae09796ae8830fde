-- What a decision leaves: the other clients, and of memory what was there. No instance comes in, and no entry is outdated by it.
use Rattle.std.proofs.Common.{◌≡◌, ◌⊎◌, inl, inr, refl, sym, subst, ap, ◌∙◌, ℕ, zero, suc, Bool, true, false, ◌==◌, cond, length, List, [], ◌∷◌, Option, Some, None, le_refl, le_trans}
use Rattle.std.specs.Prelude.{option_map, slice_get, slice_set}
use Rattle.pp_cache.specs.Memory.{Memory}
use Rattle.pp_cache_law.proofs.Moves.{in_slot-elsewhere, in_slot-gone}
use Rattle.pp_cache_law.proofs.Numbers.{is_same, some_is}
use Rattle.pp_turns_law.proofs.Changed.{get_set}
use Rattle.pp_turns_law.proofs.Moved.{there_moved}
use Rattle.pp_turns_law.proofs.Refused.{left_stands}
use Rattle.pp_turns_law.proofs.Regained.{get_other}
use Rattle.pp_turns_law.proofs.Sitting.{interim_front, interim_source}
use Rattle.pp_turns_law.proofs.StandingRow.{followed_by_one, more_stands}
use Rattle.pp_desk.specs.Closings.{Sides, closed_client, closing_at, left_at, left_by_errand, left_own, with_parts, withdrawn}
use Rattle.pp_flow.specs.Changes.{Exchanges, entry_of}
use Rattle.pp_flow.specs.declared.entry.Entry.{Entry}
use Rattle.pp_flow.specs.declared.entry.Aim.{Aim}
use Rattle.pp_flow.specs.declared.entry.Exchange.{Exchange}
use Rattle.pp_flow.specs.declared.errand.Errand.{Errand}
use Rattle.pp_law.specs.Lists.{Bytes}
use Rattle.pp_objects.specs.Changes.{without_slot}
use Rattle.pp_objects.specs.Instances.{Instance, id_of, in_slot, is_life, is_there}
use Rattle.pp_objects.specs.declared.id.ObjectId.{ObjectId}
use Rattle.pp_seats.specs.Accounts.{decided}
use Rattle.pp_seats.specs.Decided.{answering, asking, with_interim}
use Rattle.pp_seats.specs.declared.seat.Brought.TheVariants.{Joins}
use Rattle.pp_seats.specs.declared.seat.Seat.{Seat}
use Rattle.pp_seats.specs.declared.seat.Stage.{Stage}
use Rattle.pp_seats.specs.declared.seat.Stage.TheVariants.{Undecided, Waiting, Passing, Answering}
use Rattle.pp_state.specs.Ends.{Parts, changed_at, ended, exchange_of, forsaken, left, left_at_decision, left_by, left_source, on_seat, parts, source_at, source_of, unfollowed, unfollowing, without_source}
use Rattle.pp_state.specs.Passing.{may_answer}
use Rattle.pp_state.specs.Pins.{is_for_memory, without_instance}
use Rattle.pp_state.specs.Places.{IsChangedIn}
use Rattle.pp_state.specs.declared.state.State.{State as Turn}
use Rattle.pp_steps.specs.Evicting.{without_row}
use Rattle.pp_states_law.proofs.Told.{Stands}
use Rattle.pp_take.specs.Deciding.{Ask, Does, GetsPage, IsPaged, IsPagedIf, IsRefused, Takes, accounted, aim_for, answered_at, ask_at, asked_by, asked_with, begun_at, exchange_begun, followed_at, followed_by, followed_more, following, is_pass, is_served_by, left_all, left_if_useless, left_useless, marked_for, may_follow, origin_asked, relayed, row_at, row_followed, with_marked}
use Rattle.pp_world.specs.declared.note.Decision.{Decision}
use Rattle.pp_world.specs.declared.note.Decision.TheVariants.{Refuse, Hit, Part, Head, NotModified, Unsatisfiable, Relay, Validate, Fetch, Pass}

-- ---- the client at a place, and all else

-- its request is the same, its exchange joined nothing else, and it follows what it did, or what is there
pub record IsAfter (m : Memory) (seat new : Seat) : Type 0 where
  pub front : new.front ≡ seat.front
  pub going : new.is_closing ≡ false → seat.is_closing ≡ false
  pub joins : (id : ObjectId) (plain : Bool) → new.brought ≡ Joins id plain → seat.brought ≡ Joins id plain
  pub follows : (id : ObjectId) → source_of new ≡ Some id → (source_of seat ≡ Some id) ⊎ (is_there id m.instances ≡ true)

pub record HasOwn (m : Memory) (i : ℕ) (q : Parts) (seat : Seat) : Type 0 where
  pub new : Seat
  pub here : slice_get q.seats i ≡ Some new
  pub is : IsAfter m seat new

-- that of this memory is there
pub record Keeps (m : Memory) (i : ℕ) (p q : Parts) : Type 0 where
  pub count : length q.seats ≡ length p.seats
  pub others : (j : ℕ) → (i == j) ≡ false → slice_get q.seats j ≡ slice_get p.seats j
  pub stands : (next : ℕ) → Stands p.cache q.cache next next
  pub outdated : q.cache.outdated ≡ p.cache.outdated
  pub own : (seat : Seat) → slice_get p.seats i ≡ Some seat → HasOwn m i q seat

none_comes : (k : Memory) (next : ℕ) → Stands k k next next
none_comes k next = record { lives = le_refl k.lives; numbers = le_refl next; there = λ id there. there }

unfollowing_none : (seat : Seat) → source_of (without_source seat) ≡ None
unfollowing_none seat = by seat.stage
  where
    by : (stage : Stage) → source_of (record seat { stage = unfollowing stage }) ≡ None
    by Undecided = refl
    by Waiting = refl
    by Passing = refl
    by (Answering a) = refl

brought_if : (b : Bool) (seat x : Seat) → x.brought ≡ seat.brought → (elim b as (λ t. Seat) [ true ↦ x | false ↦ seat ]).brought ≡ seat.brought
brought_if true seat x same = same
brought_if false seat x same = refl

closing_if : (b : Bool) (seat x : Seat) → x.is_closing ≡ seat.is_closing → (elim b as (λ t. Seat) [ true ↦ x | false ↦ seat ]).is_closing ≡ seat.is_closing
closing_if true seat x same = same
closing_if false seat x same = refl

interim_closing : (seat : Seat) → (with_interim seat).is_closing ≡ seat.is_closing
interim_closing seat = closing_if _ seat _ refl

pub set_length : (i : ℕ) (seats : List Seat) (new : Seat) → length (slice_set seats i new) ≡ length seats
set_length i [] new = refl
set_length zero (seat ∷ seats) new = refl
set_length (suc i) (seat ∷ seats) new = ap (λ (n : ℕ). suc n) (set_length i seats new)

interim_brought : (seat : Seat) → (with_interim seat).brought ≡ seat.brought
interim_brought seat = brought_if _ seat _ refl

noted_if : (b : Bool) (k m : Memory) → k.outdated ≡ m.outdated → (cond b k m).outdated ≡ m.outdated
noted_if true k m same = same
noted_if false k m same = refl

left_notes : (id : ObjectId) (m : Memory) → (unfollowed id m).outdated ≡ m.outdated
left_notes id m = noted_if _ _ m refl

follow_notes : (id : ObjectId) (m : Memory) → (followed_more id m).outdated ≡ m.outdated
follow_notes id m = by (may_follow id m)
  where
    by : (b : Bool) → (elim b as (λ t. Memory) [ true ↦ followed_by_one id m | false ↦ m ]).outdated ≡ m.outdated
    by true = refl
    by false = refl

follow_stands : (id : ObjectId) (m : Memory) (next : ℕ) → Stands m (followed_more id m) next next
follow_stands id m next = by (may_follow id m)
  where
    by : (b : Bool) → Stands m (elim b as (λ t. Memory) [ true ↦ followed_by_one id m | false ↦ m ]) next next
    by true = more_stands id m next
    by false = none_comes m next

-- who is there without one was there with it
there_before : (id : ObjectId) (slot : ℕ) (is : List Instance) → is_there id (without_slot slot is) ≡ true → is_there id is ≡ true
there_before id slot is out = at (id.slot == slot) refl
  where
    at : (b : Bool) → (id.slot == slot) ≡ b → is_there id is ≡ true
    at true same =
        let none : in_slot id.slot (without_slot slot is) ≡ None = ap (λ (n : ℕ). in_slot n (without_slot slot is)) (is_same id.slot slot same) ∙ in_slot-gone slot is in
        absurd (cc (sym (ap (λ (o : Option Instance). is_life id.life o) none) ∙ out))
    at false apart = sym (ap (λ (o : Option Instance). is_life id.life o) (in_slot-elsewhere id.slot slot is apart)) ∙ out

module _ (m : Memory) (i : ℕ) where
  -- ---- one behind the other

  same_seat : (seat : Seat) → IsAfter m seat seat
  same_seat seat = record { front = refl; going = λ goes. goes; joins = λ id plain is. is; follows = λ id is. inl is }

  pub keeps_none : (p : Parts) → Keeps m i p p
  keeps_none p = record { count = refl; others = λ j apart. refl; stands = λ next. none_comes p.cache next; outdated = refl; own = λ seat here. record { new = seat; here = here; is = same_seat seat } }

  after_then : (a b c : Seat) → IsAfter m a b → IsAfter m b c → IsAfter m a c
  after_then a b c one two = record {
    front = two.front ∙ one.front;
    going = λ goes. one.going (two.going goes);
    joins = λ id plain is. one.joins id plain (two.joins id plain is);
    follows = λ id is. by id (two.follows id is);
  }
    where
      by : (id : ObjectId) → (source_of b ≡ Some id) ⊎ (is_there id m.instances ≡ true) → (source_of a ≡ Some id) ⊎ (is_there id m.instances ≡ true)
      by id (inl is) = one.follows id is
      by id (inr is) = inr is

  pub keeps_then : (p q r : Parts) → Keeps m i p q → Keeps m i q r → Keeps m i p r
  keeps_then p q r one two = record {
    count = two.count ∙ one.count;
    others = λ j apart. two.others j apart ∙ one.others j apart;
    stands = λ next. record {
      lives = le_trans (one.stands next).lives (two.stands next).lives;
      numbers = le_refl next;
      there = λ id there. (one.stands next).there id ((two.stands next).there id there);
    };
    outdated = two.outdated ∙ one.outdated;
    own = λ seat here.
        let mid : HasOwn m i q seat = one.own seat here in
        let last : HasOwn m i r mid.new = two.own mid.new mid.here in
        record { new = last.new; here = last.here; is = after_then seat mid.new last.new mid.is last.is };
  }

  -- ---- the pieces

  keeps_flow : (p : Parts) (f : Exchanges) → Keeps m i p (record p { flow = f })
  keeps_flow p f = record { count = refl; others = λ j apart. refl; stands = λ next. none_comes p.cache next; outdated = refl; own = λ seat here. record { new = seat; here = here; is = same_seat seat } }

  pub keeps_memory : (p : Parts) (k : Memory) → ((next : ℕ) → Stands p.cache k next next) → k.outdated ≡ p.cache.outdated → Keeps m i p (record p { cache = k })
  keeps_memory p k stands noted = record { count = refl; others = λ j apart. refl; stands = stands; outdated = noted; own = λ seat here. record { new = seat; here = here; is = same_seat seat } }

  -- the client at the place alone is changed
  keeps_set : (p : Parts) (seat new : Seat) → slice_get p.seats i ≡ Some seat → IsAfter m seat new → Keeps m i p (record p { seats = slice_set p.seats i new })
  keeps_set p seat new here after = record {
    count = set_length i p.seats new;
    others = λ j apart. get_other i j p.seats new apart;
    stands = λ next. none_comes p.cache next;
    outdated = refl;
    own = λ other there. record { new = new; here = get_set i p.seats seat new here; is = subst (λ (x : Seat). IsAfter m x new) (some_is seat other (sym here ∙ there)) after };
  }

  keeps_seat : (f : Seat → Seat) (p : Parts) → ((seat : Seat) → IsAfter m seat (f seat)) → Keeps m i p (on_seat i f p)
  keeps_seat f p after = by (slice_get p.seats i) refl
    where
      by : (o : Option Seat) → slice_get p.seats i ≡ o → Keeps m i p (record p { seats = elim o as (λ t. List Seat) [ None ↦ p.seats | Some seat ↦ slice_set p.seats i (f seat) ] })
      by None here = keeps_none p
      by (Some seat) here = keeps_set p seat (f seat) here (after seat)

  interim_after : (seat : Seat) → IsAfter m seat (with_interim seat)
  interim_after seat = record { front = interim_front seat; going = λ goes. sym (interim_closing seat) ∙ goes; joins = λ id plain is. sym (interim_brought seat) ∙ is; follows = λ id is. inl (sym (interim_source seat) ∙ is) }

  no_source : (seat new : Seat) → new.front ≡ seat.front → (new.is_closing ≡ false → seat.is_closing ≡ false) → ((id : ObjectId) (plain : Bool) → new.brought ≡ Joins id plain → seat.brought ≡ Joins id plain) → source_of new ≡ None → IsAfter m seat new
  no_source seat new front going joins none = record { front = front; going = going; joins = joins; follows = λ id is. absurd (let both : None ≡ Some id = sym none ∙ is in cc both) }

  keeps_source : (p : Parts) → Keeps m i p (left_source i p)
  keeps_source p = by (source_at i p)
    where
      by : (o : Option ObjectId) → Keeps m i p (elim o as (λ t. Parts) [ None ↦ p | Some id ↦ record p { seats = changed_at i without_source p.seats; cache = unfollowed id p.cache } ])
      by None = keeps_none p
      by (Some id) =
          keeps_then p (on_seat i without_source p) (record (on_seat i without_source p) { cache = unfollowed id p.cache })
          (keeps_seat without_source p (λ seat. no_source seat (without_source seat) refl (λ goes. goes) (λ k plain is. is) (unfollowing_none seat)))
          (keeps_memory (on_seat i without_source p) (unfollowed id p.cache) (λ next. left_stands (Some id) p.cache next) (left_notes id p.cache))

  keeps_left : (p : Parts) → Keeps m i p (left_at_decision i p)
  keeps_left p = by (exchange_of i p)
    where
      by_place : (n : ℕ) (o : Option ℕ) → Keeps m i p (elim o as (λ t. Parts) [ None ↦ ended n p | Some k ↦ left n p ])
      by_place n None = keeps_flow p _
      by_place n (Some k) = keeps_flow p _

      by : (o : Option Exchange) → Keeps m i p (elim o as (λ t. Parts) [ None ↦ p | Some e ↦ left_by e p ])
      by None = keeps_none p
      by (Some e) = by_place e.number e.place

  -- ---- the row of its key is marked, and the operator's log is told

  keeps_marked : (d : Decision) (p : Parts) → Keeps m i p (marked_for i d p)
  keeps_marked d p = by (is_for_memory d) (row_at i p)
    where
      by : (b : Bool) (o : Option Instance) → Keeps m i p (elim b as (λ t. Parts) [ true ↦ p | false ↦ record p { cache = with_marked o p.cache } ])
      by true o = keeps_none p
      by false None = keeps_memory p p.cache (λ next. none_comes p.cache next) refl
      by false (Some x) =
          keeps_memory p (with_marked (Some x) p.cache)
          (λ next. record { lives = le_refl p.cache.lives; numbers = le_refl next; there = λ id there. sym (there_moved x.slot p.cache.instances id) ∙ there })
          refl

  keeps_accounted : (d : Decision) (p : Parts) → Keeps m i p (accounted i d p)
  keeps_accounted d p = keeps_seat (λ (seat : Seat). record seat { account = decided d seat.account }) p (λ seat. record { front = refl; going = λ goes. goes; joins = λ id plain is. is; follows = λ id is. inl is })

  -- ---- a page

  page_after : (status : ℕ) (b : Bool) (seat new : Seat) → IsPagedIf b status seat new → IsAfter m seat new
  page_after status true seat new is =
      no_source seat new (ap (λ (x : Seat). x.front) is) (λ goes. sym (ap (λ (x : Seat). x.is_closing) is) ∙ goes) (λ id plain brought. absurd (let both = sym (ap (λ (x : Seat). x.brought) is) ∙ brought in cc both)) (ap (λ (x : Seat). source_of x) is)
  page_after status false seat new is = subst (λ (x : Seat). IsAfter m seat x) (sym is) (same_seat seat)

  gets_page : (status : ℕ) (p q : Parts) → GetsPage status i p q → Keeps m i p q
  gets_page status p q page = subst (λ (r : Parts). Keeps m i p r) whole (by (slice_get p.seats i) refl page.seat)
    where
      whole : (let r : Parts = record p { seats = q.seats } in r) ≡ q
      whole = sym (ap (λ (r : Parts). record r { seats = q.seats }) page.rest)

      by : (o : Option Seat) → slice_get p.seats i ≡ o → IsChangedIn (IsPaged status) o i p.seats q.seats → Keeps m i p (record p { seats = q.seats })
      by None here same = subst (λ (seats : List Seat). Keeps m i p (record p { seats = seats })) (sym same) (keeps_none p)
      by (Some seat) here changed =
          subst (λ (seats : List Seat). Keeps m i p (record p { seats = seats })) (sym changed.2) (keeps_set p seat changed.0 here (page_after status (may_answer seat.client) seat changed.0 changed.1))

  abbrev quit : Parts → Parts
  quit p = left_source i (on_seat i with_interim p)

  keeps_quit : (p : Parts) → Keeps m i p (quit p)
  keeps_quit p = keeps_then p (on_seat i with_interim p) (quit p) (keeps_seat with_interim p interim_after) (keeps_source (on_seat i with_interim p))

  keeps_all : (p : Parts) → Keeps m i p (left_all i p)
  unfolding left_all
  keeps_all p = keeps_then p (quit p) (left_at_decision i (quit p)) (keeps_quit p) (keeps_left (quit p))

  keeps_refused : (status : ℕ) (p q : Parts) → IsRefused i status p q → Keeps m i p q
  keeps_refused status p q refused = keeps_then p (left_all i p) q (keeps_all p) (gets_page status (left_all i p) q refused)

  -- ---- an ask

  asking_after : (passes : Bool) (seat : Seat) → IsAfter m seat (asking passes seat)
  asking_after true seat = no_source seat (asking true seat) refl (λ goes. goes) (λ id plain is. absurd (cc is)) refl
  asking_after false seat = no_source seat (asking false seat) refl (λ goes. goes) (λ id plain is. absurd (cc is)) refl

  keeps_begun : (aim : Aim) (errand : Errand) (text : List ℕ) (p : Parts) → Keeps m i p (exchange_begun i aim errand text p)
  unfolding exchange_begun
  keeps_begun aim errand text p = keeps_then p (left_at_decision i p) (begun_at i aim errand text (left_at_decision i p)) (keeps_left p) (keeps_flow (left_at_decision i p) _)

  keeps_asked : (d : Decision) (o : Option Ask) (p : Parts) → Keeps m i p (asked_by i d o p)
  unfolding asked_with
  keeps_asked d None p = keeps_none p
  keeps_asked d (Some ask) p =
      let begun : Parts = exchange_begun i (aim_for (is_pass d)) ask.0 ask.1 (quit p) in
      keeps_then p begun (on_seat i (asking (is_pass d)) begun) (keeps_then p (quit p) begun (keeps_quit p) (keeps_begun (aim_for (is_pass d)) ask.0 ask.1 (quit p))) (keeps_seat (asking (is_pass d)) begun (asking_after (is_pass d)))

  -- ---- a response that is passed, and a row that is there

  keeps_answered : (d : Decision) (source : Option ObjectId) (span : ℕ × ℕ) (p : Parts) → ((id : ObjectId) → source ≡ Some id → is_there id m.instances ≡ true) → Keeps m i p (answered_at i d source span p)
  unfolding answered_at
  keeps_answered d source span p there =
      keeps_then p (left_source i p) (on_seat i (answering d source span) (left_source i p)) (keeps_source p)
      (keeps_seat (answering d source span) (left_source i p) (λ seat. record { front = refl; going = λ goes. goes; joins = λ id plain is. is; follows = λ id is. inr (there id is) }))

  keeps_relayed : (p : Parts) → Keeps m i p (relayed i p)
  keeps_relayed p = keeps_then p (on_seat i with_interim p) (relayed i p) (keeps_seat with_interim p interim_after) (keeps_answered Relay None (0, 0) (on_seat i with_interim p) (λ id is. absurd (cc is)))

  keeps_useless : (p : Parts) → Keeps m i p (left_useless i p)
  unfolding left_useless
  keeps_useless p = by (exchange_of i p)
    where
      by_served : (b : Bool) → Keeps m i p (elim b as (λ t. Parts) [ true ↦ p | false ↦ left_at_decision i p ])
      by_served true = keeps_none p
      by_served false = keeps_left p

      by : (o : Option Exchange) → Keeps m i p (left_if_useless i o p)
      by None = keeps_none p
      by (Some e) = by_served (is_served_by i e.number p)

  keeps_followed : (d : Decision) (span : ℕ × ℕ) (id : ObjectId) (p : Parts) → is_there id m.instances ≡ true → Keeps m i p (followed_by i d span id p)
  unfolding followed_by
  keeps_followed d span id p there =
      let one : Parts = on_seat i with_interim p in
      let two : Parts = following id one in
      let three : Parts = answered_at i d (Some id) span two in
      keeps_then p three (left_useless i three)
      (keeps_then p two three (keeps_then p one two (keeps_seat with_interim p interim_after) (keeps_memory one (followed_more id one.cache) (follow_stands id one.cache) (follow_notes id one.cache)))
      (keeps_answered d (Some id) span two (λ k is. subst (λ (x : ObjectId). is_there x m.instances ≡ true) (some_is id k is) there)))
      (keeps_useless three)

  keeps_row : (d : Decision) (span : ℕ × ℕ) (p : Parts) → ((x : Instance) → row_at i p ≡ Some x → is_there (id_of x) m.instances ≡ true) → Keeps m i p (followed_at i d span p)
  keeps_row d span p there = by (row_at i p) refl
    where
      by : (o : Option Instance) → row_at i p ≡ o → Keeps m i p (row_followed i d span o p)
      by None is = keeps_none p
      by (Some x) is = keeps_followed d span (id_of x) p (there x is)

  -- ---- any

  abbrev RowIsThere : Parts → Type 0
  RowIsThere p = (x : Instance) → row_at i p ≡ Some x → is_there (id_of x) m.instances ≡ true

  is_so : (p q r : Parts) → q ≡ r → Keeps m i p r → Keeps m i p q
  is_so p q r is keeps = subst (λ (t : Parts). Keeps m i p t) (sym is) keeps

  keeps_done : (name : Bytes) (d : Decision) (p q : Parts) → RowIsThere p → Does name i d p q → Keeps m i p q
  keeps_done name (Refuse status) p q there it = keeps_refused status p q it
  keeps_done name Pass p q there it = is_so p q (origin_asked name i Pass p) it (keeps_asked Pass (ask_at name i Pass p) p)
  keeps_done name Fetch p q there it = is_so p q (origin_asked name i Fetch p) it (keeps_asked Fetch (ask_at name i Fetch p) p)
  keeps_done name Validate p q there it = is_so p q (origin_asked name i Validate p) it (keeps_asked Validate (ask_at name i Validate p) p)
  keeps_done name Relay p q there it = is_so p q (relayed i p) it (keeps_relayed p)
  keeps_done name (Hit from to) p q there it = is_so p q (followed_at i (Hit from to) (from, to) p) it (keeps_row (Hit from to) (from, to) p there)
  keeps_done name (Part from to) p q there it = is_so p q (followed_at i (Part from to) (from, to) p) it (keeps_row (Part from to) (from, to) p there)
  keeps_done name Head p q there it = is_so p q (followed_at i Head (0, 0) p) it (keeps_row Head (0, 0) p there)
  keeps_done name NotModified p q there it = is_so p q (followed_at i NotModified (0, 0) p) it (keeps_row NotModified (0, 0) p there)
  keeps_done name Unsatisfiable p q there it = is_so p q (followed_at i Unsatisfiable (0, 0) p) it (keeps_row Unsatisfiable (0, 0) p there)

  pub takes_keep : (name : Bytes) (d : Decision) (p q : Parts) → RowIsThere (accounted i d (marked_for i d p)) → Takes name i d p q → Keeps m i p q
  takes_keep name d p q there it =
      keeps_then p (accounted i d (marked_for i d p)) q (keeps_then p (marked_for i d p) (accounted i d (marked_for i d p)) (keeps_marked d p) (keeps_accounted d (marked_for i d p))) (keeps_done name d (accounted i d (marked_for i d p)) q there it)

  -- ---- the row that gives way

  pub way_keeps : (o : Option Instance) (q : Turn) → Keeps m i (parts q) (parts (without_row o q))
  way_keeps None q = keeps_none (parts q)
  way_keeps (Some j) q = keeps_memory (parts q) (without_instance j q.cache) (λ next. record { lives = le_refl q.cache.lives; numbers = le_refl next; there = λ id there. there_before id j.slot q.cache.instances there }) refl

  -- ---- it is closed

  pub keeps_closing : (p : Parts) → Keeps m i p (closing_at i p)
  keeps_closing p =
      keeps_then p (left_source i p) (closing_at i p) (keeps_source p)
      (keeps_seat (λ (seat : Seat). record seat { is_closing = true }) (left_source i p) (λ seat. record { front = refl; going = λ goes. absurd (cc goes); joins = λ id plain is. is; follows = λ id is. inl is }))

  keeps_forsaken : (p : Parts) → Keeps m i p (forsaken i p)
  keeps_forsaken p = by (exchange_of i p)
    where
      by : (o : Option Exchange) → Keeps m i p (elim o as (λ t. Parts) [ None ↦ p | Some e ↦ left e.number p ])
      by None = keeps_none p
      by (Some e) = keeps_flow p _

  -- whose exchange is over, or nobody's
  keeps_own : (o : Option Exchange) (x : Sides) → Keeps m i x.parts (left_own i o x).parts
  keeps_own None x = keeps_none x.parts
  keeps_own (Some e) x = by (option_map (λ (y : Entry). y.errand) (entry_of e.number x.parts.flow))
    where
      by_asked : (b : Bool) (k : ℕ) → Keeps m i x.parts (cond b (withdrawn e.number k x) (with_parts (forsaken i) x)).parts
      by_asked true k = keeps_flow x.parts _
      by_asked false k = keeps_forsaken x.parts

      by_place : (errand : Errand) (o : Option ℕ) → Keeps m i x.parts (left_at i e.number errand o x).parts
      by_place errand None = keeps_flow x.parts _
      by_place errand (Some k) = by_asked (errand.asked == 0) k

      by : (o : Option Errand) → Keeps m i x.parts (left_by_errand i e o x).parts
      by None = keeps_none x.parts
      by (Some errand) = by_place errand e.place

  pub cuts_keep : (x : Sides) → Keeps m i x.parts (closed_client i x).parts
  cuts_keep x = keeps_then x.parts (closing_at i x.parts) (closed_client i x).parts (keeps_closing x.parts) (keeps_own (exchange_of i (closing_at i x.parts)) (with_parts (closing_at i) x))
