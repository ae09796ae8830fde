-- The next request of a client stands behind its reply.
use Rattle.std.proofs.Common.{◌≡◌, ◌≤◌, refl, sym, subst, ap, ap₂, ◌∙◌, ℕ, Bool, false, not, ◌&&◌, ◌||◌, find, List, [], Some, None, Option}
use Rattle.std.specs.Prelude.{count_by, option_map, slice_get, slice_set}
use Rattle.pp_cache.specs.Memory.{Memory}
use Rattle.pp_cache_law.proofs.Numbers.{some_is}
use Rattle.pp_client.specs.Replies.{is_said}
use Rattle.pp_turns_law.proofs.Over.{alone}
use Rattle.pp_turns_law.proofs.Quit.{next_swept}
use Rattle.pp_turns_law.specs.Sides.{AreOrderly, ShowsSides}
use Rattle.pp_turns_law.proofs.Changed.{get_set, set_set}
use Rattle.pp_turns_law.proofs.Quitting.{client_left, left_memory}
use Rattle.pp_turns_law.proofs.Refused.{followed_as, left_stands}
use Rattle.pp_turns_law.proofs.Sitting.{is_at, shown_at}
use Rattle.pp_turns_law.specs.Decides.{IsAtPlace}
use Rattle.pp_desk.specs.Closings.{Sides, with_parts}
use Rattle.pp_desk.specs.Replies.{IsLookedAt, at_next}
use Rattle.pp_flow_law.proofs.Entries.{none_some}
use Rattle.pp_flow_law.specs.Tables.{none_leaves}
use Rattle.pp_law.specs.Closing.{is_of}
use Rattle.pp_law.specs.Connections.{is_client, is_conn, on_client}
use Rattle.pp_law.specs.Lists.{Bytes}
use Rattle.pp_law.specs.Replies.{next_request}
use Rattle.pp_law.specs.State.{State, Client, Conn, Exchange}
use Rattle.pp_law.specs.Table.{swept}
use Rattle.pp_objects.specs.declared.id.ObjectId.{ObjectId}
use Rattle.pp_seats.specs.Seats.{IsRead, at_next_request}
use Rattle.pp_seats.specs.declared.seat.Seat.{Seat}
use Rattle.pp_seats_law.specs.Clients.{IsAt}
use Rattle.pp_seats_law.specs.Seats.{ShowsOpen, ShowsSeat}
use Rattle.pp_state.specs.Ends.{AreInOrder, Parts, source_of}
use Rattle.pp_state.specs.Hearing.{lacks_key_at}
use Rattle.pp_state.specs.Places.{IsChangedIn}
use Rattle.pp_states_law.proofs.Places.{numbers_set}
use Rattle.pp_states_law.proofs.Told.{are_told_on}
use Rattle.pp_states_law.specs.Steps.{ShowsSteps, whole}
use Rattle.pp_states_law.specs.Told.{AreTold}
use Rattle.pp_turns_law.specs.Turns.{IsFollowing}
use Rattle.pp_endings_law.proofs.Closes.{follows_there}
use Rattle.pp_endings_law.proofs.Kept.{IsOne, all_go, ends_still, leaves_still, other_here}
use Rattle.pp_endings_law.proofs.Law.{Steps, forsaken_in, forsaken_is, next_conns, next_state, next_steps}
use Rattle.pp_endings_law.proofs.Left.{IsBeside, flow_left, next_is, with_seats}
use Rattle.pp_endings_law.proofs.Walk.{IsGood, IsStepped}

-- ---- the program's

-- the law knows nothing of whether the life went astray by it
abbrev pub with_astray : Bool → Sides → Sides
with_astray b x = record x { parts = record x.parts { is_astray = b } }

-- it is read as a request
pub record IsNextOf (i : ℕ) (old : Sides) (seat : Seat) (z : Sides) : Type 0 where
  pub y : Seat
  pub read : IsRead seat y
  pub astray : Bool
  pub is : z ≡ with_astray astray (with_seats (slice_set old.parts.seats i y) old)

pub looked : (i : ℕ) (old z : Sides) (seat : Seat) → slice_get old.parts.seats i ≡ Some seat → IsLookedAt i old z → IsNextOf i old seat z
looked i old z seat here at = by (slice_get old.parts.seats i) here at.0
  where
    by : (o : Option Seat) → o ≡ Some seat → IsChangedIn IsRead o i old.parts.seats z.parts.seats → IsNextOf i old seat z
    by None none changed = absurd (none_some seat none)
    by (Some a) is changed = record {
      y = changed.0;
      read = subst (λ (b : Seat). IsRead b changed.0) (some_is a seat is) changed.1;
      astray = old.parts.is_astray || lacks_key_at i z.parts.seats;
      is = ap (λ (w : Sides). with_seats z.parts.seats w) at.1 ∙ ap (λ (seats : List Seat). with_astray (old.parts.is_astray || lacks_key_at i z.parts.seats) (with_seats seats old)) changed.2;
    }

-- ---- the law's

next_exchanges : (n : ℕ) (s : State) → (swept (on_client n next_request s)).exchanges ≡ s.exchanges
unfolding swept on_client
next_exchanges n s = refl

said_none : (f : Client → Client) (o : Option Client) (c d : Client) → o ≡ Some c → option_map f o ≡ Some d → d ≡ f c
said_none f o c d is there = some_is d (f c) (sym there ∙ ap (λ (x : Option Client). option_map f x) is)

-- ---- both

module _ (number : ℕ → ℕ) (name : Bytes) (i : ℕ) (x : Sides) (s : State) (seat : Seat) (c : Client) (good : IsGood number name x s) (place : IsAtPlace i x.parts s seat c) (going : c.is_closing ≡ false) where
  abbrev n : ℕ
  n = seat.client.id

  abbrev o : Option ObjectId
  o = source_of seat

  abbrev its : Option Exchange
  its = find (is_of n) s.exchanges

  abbrev t : State
  t = next_state n s

  abbrev u : State
  u = swept (on_client n next_request s)

  at : IsAt n i x.parts.seats
  at = is_at i x.parts.seats seat good.shows.steps.order place.here

  live : ShowsOpen number name [] seat c
  live = (shown_at number name [] x.parts.seats s.clients n i seat c good.shows.steps.shows.clients at place.here place.there).going going

  -- with this seat, which shows the client behind its reply
  module _ (astray : Bool) (y : Seat) (numbered : y.client.id ≡ n) (shown : ShowsSeat number name [] y (next_request c)) (unsaid : is_said y.client.reply ≡ false) (rests : (m : Memory) → IsFollowing m y) where
    abbrev first : Parts
    first = record x.parts { seats = slice_set x.parts.seats i y; cache = left_memory o x.parts.cache; is_astray = astray }

    -- its exchange is left
    abbrev z : Sides
    z = record x { parts = record first { flow = flow_left its x.parts.flow } }

    left : ShowsSteps number name none_leaves x.peers first u
    left = record {
      shows = client_left number name [] none_leaves (whole x.parts x.peers) s good.shows.steps.shows n i y next_request c o at place.there (λ k. ap (λ (b : Bool). not b && false) going)
          (followed_as number name i x.parts seat c place.here live going (follows_there i x seat place.here (good.may.follow i seat c place going)))
          (λ other d here' there' shows'. subst (λ (e : Client). ShowsSeat number name [] y (next_request e)) (some_is c d (sym place.there ∙ there')) shown);
      order = subst (λ (ns : List ℕ). AreInOrder ns) (sym (numbers_set i x.parts.seats seat y place.here numbered)) good.shows.steps.order;
      told = subst (λ (next : ℕ). AreTold number (left_memory o x.parts.cache) next x.parts.flow) (sym (next_swept n next_request s))
          (are_told_on number x.parts.cache (left_memory o x.parts.cache) s.next_instance s.next_instance (left_stands o x.parts.cache s.next_instance) x.parts.flow good.shows.steps.told);
      refused = good.shows.steps.refused;
    }

    forsaken : (e : Option Exchange) → ShowsSteps number name none_leaves x.peers (record first { flow = flow_left e x.parts.flow }) (forsaken_in e u)
    forsaken None = left
    forsaken (Some e) = alone number name e.number (record { parts = first; peers = x.peers }) u left

    steps : ShowsSteps number name none_leaves x.peers z.parts t
    steps =
        subst (λ (v : State). ShowsSteps number name none_leaves x.peers z.parts v)
        (sym (forsaken_is number none_leaves x.parts.flow s u good.shows.steps.shows.exchanges (next_exchanges n s) n (good.may.once n)))
        (forsaken its)

    law : Steps n next_request s t
    law = next_steps n s

    pub now : ShowsSides number name z t
    now = record {
      steps = steps;
      may = record {
        apart = λ m. subst (λ (ks : List Conn). count_by (is_conn m) ks ≤ 1) (sym (next_conns n s)) (good.shows.may.apart m);
        orderly = subst (λ (ks : List Conn). AreOrderly ks) (sym (next_conns n s)) good.shows.may.orderly;
        go = all_go n next_request s t (λ b. refl) law good.shows.may.go;
      };
    }

    one : IsOne i seat y x z
    one = record { here = place.here; seats = refl; number = numbered; cache = refl }

    fresh : (d : Client) → find (is_client n) t.clients ≡ Some d → d.is_closing ≡ false → IsFollowing z.parts.cache y × (is_said y.client.reply ≡ false)
    fresh d there opens = (rests z.parts.cache, unsaid)

    pub next_stepped : IsStepped number name i x z s t
    next_stepped = record {
      good = record {
        shows = now;
        may = leaves_still number name i seat y x z s t next_request (λ b. refl) good.shows now one law fresh good.may;
        ends = ends_still number name i seat y x z s t next_request (λ b. refl) good.shows now one law fresh good.ends;
      };
      numbers = numbers_set i x.parts.seats seat y place.here numbered;
      others = other_here number name i seat y x z s t next_request (λ b. refl) good.shows now one law;
      rest = law.rest;
    }

  -- the program goes on so from any seat beside it
  module _ (r : Seat) (beside : IsBeside seat r) where
    abbrev behind : Sides
    behind = record x { parts = record x.parts { seats = slice_set x.parts.seats i (at_next_request r); cache = left_memory o x.parts.cache; flow = flow_left its x.parts.flow } }

    abbrev by_source : Option ObjectId → List Seat → Sides
    by_source source seats = record x { parts = record x.parts { seats = seats; cache = left_memory source x.parts.cache; flow = flow_left its x.parts.flow } }

    program : with_parts (at_next i) (with_seats (slice_set x.parts.seats i r) x) ≡ behind
    program =
        ap (λ (p : Parts). let w : Sides = record x { parts = p } in w)
        (next_is number none_leaves s n (good.may.once n) i (record x.parts { seats = slice_set x.parts.seats i r }) r good.shows.steps.shows.exchanges (get_set i x.parts.seats seat r place.here) beside.number)
        ∙ ap₂ by_source beside.source (set_set i x.parts.seats r (at_next_request r))

    -- what stands there then is read as the law reads it
    pub record IsReadAs (y : Seat) : Type 0 where
      pub numbered : y.client.id ≡ n
      pub shown : ShowsSeat number name [] y (next_request c)
      pub unsaid : is_said y.client.reply ≡ false
      pub rests : (m : Memory) → IsFollowing m y

    pub goes_next : (w : Sides) → IsLookedAt i (with_parts (at_next i) (with_seats (slice_set x.parts.seats i r) x)) w → ((y : Seat) → IsRead (at_next_request r) y → IsReadAs y) → IsStepped number name i x w s t
    goes_next w looks reads =
        let then : IsNextOf i behind (at_next_request r) w =
        looked i behind w (at_next_request r) (get_set i x.parts.seats seat (at_next_request r) place.here) (subst (λ (v : Sides). IsLookedAt i v w) program looks) in
        let it : IsReadAs then.y = reads then.y then.read in
        subst (λ (v : Sides). IsStepped number name i x v s t) (sym (then.is ∙ ap (λ (seats : List Seat). with_astray then.astray (by_source o seats)) (set_set i x.parts.seats (at_next_request r) then.y)))
        (next_stepped then.astray then.y it.numbered it.shown it.unsaid it.rests)
