-- Followers may ask for what is missing, behind what nobody sees and what they asked for in vain.
use Rattle.std.proofs.Common.{◌≡◌, ◌≤◌, refl, sym, subst, ap, ◌∙◌, ℕ, ◌+◌, ◌-◌, ◌^◌, true, false, find, is_some, length, List, [], ◌∷◌, inl, inr, Some, arith}
use Rattle.pp_asks_law.proofs.Along.{useless-narrow}
use Rattle.pp_asks_law.proofs.Keyed.{client_given, given_then, keyed}
use Rattle.pp_asks_law.proofs.Narrow.{Narrows, narrow_same}
use Rattle.pp_asks_law.proofs.Nobodys.{none_begins, none_over}
use Rattle.pp_asks_law.proofs.Wanted.{body_within, kept_whole, next_by}
use Rattle.pp_asks_law.specs.Asks.{FollowersMayAsk}
use Rattle.pp_asks_law.specs.Rests.{AreCounted, HasNumbers, RestsOn}
use Rattle.pp_cache_law.proofs.Numbers.{some_is}
use Rattle.pp_turns_law.proofs.AllSeen.{all_drop}
use Rattle.pp_turns_law.specs.Sides.{AreOrderly, IsOrderly, MayClose, ShowsSides}
use Rattle.pp_turns_law.specs.Unread.{Tells}
use Rattle.pp_turns_law.proofs.GivenUp.{waiting_in_order}
use Rattle.pp_turns_law.specs.Decides.{IsAtPlace}
use Rattle.pp_deciding_law.proofs.Disk.{in_place}
use Rattle.pp_deciding_law.proofs.Framed.{steps_in}
use Rattle.pp_desk.specs.Closings.{Sides, sides, with_parts}
use Rattle.pp_desk.specs.Origins.{without_unseen}
use Rattle.pp_desk.specs.declared.desk.Desk.{Desk}
use Rattle.pp_flow.specs.Changes.{numbers as flow_numbers}
use Rattle.pp_flow_law.specs.Tables.{none_leaves}
use Rattle.pp_law.specs.Connections.{exchange, is_client, is_exchange}
use Rattle.pp_law.specs.Phases.{in_phase}
use Rattle.pp_law.specs.State.{State, Client, Conn, Exchange, Phase, Term, Connecting, Deciding}
use Rattle.pp_law.specs.Unseen.{drop_unseen}
use Rattle.pp_laws.proofs.Lists.{in_find}
use Rattle.pp_laws.specs.Runs.{IsIn}
use Rattle.pp_laws_coming.proofs.Laws.{asks_told}
use Rattle.pp_laws_coming.specs.Coming.{IsToldOn}
use Rattle.pp_laws_turn.proofs.Laws.{sound_turns}
use Rattle.pp_laws_turn.specs.SoundTurn.{HasAsker, IsSoundTurn}
use Rattle.pp_obeys.specs.Obeys.{Obeys}
use Rattle.pp_proxy.specs.Moving.{Moving}
use Rattle.pp_proxy.specs.Rounds.{Becomes, GivesUp}
use Rattle.pp_rounds_law.proofs.Carried.{Carries, WasAt, carries_then}
use Rattle.pp_rounds_law.proofs.Follows.{AllFollow, followers}
use Rattle.pp_rounds_law.proofs.Quiet.{carries_given_up, carries_unseen}
use Rattle.pp_rounds_law.specs.Stands.{StandsAmid}
use Rattle.pp_rounds_law.specs.Supplies.{MayAskMore, without_useless}
use Rattle.pp_seats.specs.Follows.{next_of as next_in_turn}
use Rattle.pp_seats.specs.Heads.{asked_in, owned_in}
use Rattle.pp_seats.specs.declared.seat.Next.{Next as SeatNext}
use Rattle.pp_seats.specs.declared.seat.Seat.{Seat}
use Rattle.pp_seats_law.specs.Seats.{ShowsSeat}
use Rattle.pp_state.specs.Ends.{AreInOrder, parts}
use Rattle.pp_states_law.specs.Charges.{GoesOn}
use Rattle.pp_states_law.specs.Lines.{AllGo}
use Rattle.pp_states_law.specs.Losses.{IsComing}
use Rattle.pp_store.specs.Kept.{KeptMap}
use Rattle.pp_take.specs.GivingUp.{all_given_up}
use Rattle.pp_turns_law.proofs.First.{IsShownAt, seat_shown}
use Rattle.pp_world.specs.Log.{Log}

all_orderly : (ks : List Conn) → ((k : Conn) → IsIn k ks → IsOrderly k) → AreOrderly ks
all_orderly [] each = tt
all_orderly (k ∷ ks) each = (each k (inl refl), all_orderly ks (λ j i. each j (inr i)))

shorter : (n : ℕ) → n ≤ 8 → n ≤ 1024
shorter n few = omega (arith, few)

may_close_in : (phase : Phase) (s : State) → MayClose s → MayClose (in_phase phase s)
may_close_in phase s may = record { apart = may.apart; orderly = may.orderly; go = record { going = may.go.going; coming = may.go.coming } }

module _ (terms : List Term) (before : Log) (number : ℕ → ℕ) (shelf : KeptMap) (x : Moving) (seen given : Desk) (s : State) (obeys : Obeys terms s before) (amid : StandsAmid number shelf x s) (rests : RestsOn shelf x.desk.state s) (counted : AreCounted x.desk.state s) (low : HasNumbers x.desk.state s) (at : s.phase ≡ Deciding) (drops : Becomes without_unseen x.desk seen) (gives : GivesUp seen given) where
  abbrev name : List ℕ
  name = x.desk.state.name.items

  abbrev u : State
  u = in_phase Connecting s

  abbrev left : Sides
  left = without_unseen (sides x.desk)

  sound : IsSoundTurn s
  sound = sound_turns terms s before obeys

  -- ---- connections may be closed

  told_on : IsToldOn s
  told_on = asks_told terms s before obeys

  its_client : (n : ℕ) (e : Exchange) → exchange s n ≡ Some e → (m : ℕ) (c : Client) → e.asker ≡ Some m → find (is_client m) s.clients ≡ Some c → c.is_closing ≡ false
  its_client n e is m c asks found =
      let asker : HasAsker s e m = sound.askers e m (in_find (is_exchange n) e s.exchanges is).0 asks in
      subst (λ (d : Client). d.is_closing ≡ false) (some_is asker.asker c (sym asker.there ∙ found)) asker.going

  goes : (n : ℕ) (e : Exchange) → exchange s n ≡ Some e → (m : ℕ) (c : Client) → e.asker ≡ Some m → find (is_client m) s.clients ≡ Some c → GoesOn c
  goes n e is m c asks found =
      let on : c.is_closing ≡ false = its_client n e is m c asks found in
      record { going = on; given = client_given number name x.desk.state.seats.items s.clients amid.turn.steps.shows.clients rests.given c (in_find (is_client m) c s.clients found).0 on }

  comes : (n : ℕ) (e : Exchange) → exchange s n ≡ Some e → (m : ℕ) (c : Client) → e.asker ≡ Some m → find (is_client m) s.clients ≡ Some c → IsComing c
  comes n e is m c asks found = (told_on.told e m c (in_find (is_exchange n) e s.exchanges is).0 asks found).coming

  go : AllGo s
  go = record { going = goes; coming = comes }

  may_close : MayClose s
  may_close = record {
    apart = sound.apart.conns;
    orderly = all_orderly s.conns (λ k i. record { closed = sound.closed k i; few = shorter (length k.line) (sound.bounded.lines k i) });
    go = go;
  }

  -- ---- each seat is as it was

  shows : ShowsSides number name (sides x.desk) u
  shows = record { steps = steps_in Connecting s.made_room_for number name none_leaves x.desk.peers (parts x.desk.state) s amid.turn.steps; may = may_close_in Connecting s may_close }

  follow : AllFollow x.desk.state.cache x.desk.state.seats.items
  follow i seat here going = (amid.ready i seat here going).follows

  tells : Tells (sides x.desk) u
  tells = record {
    following = followers number name x.desk.state.cache u shows.steps.shows.table.table x.desk.state.seats.items u.clients shows.steps.shows.clients follow;
    counted = λ n k there. counted n k there;
  }

  unseen : ShowsSides number name left (drop_unseen u)
  unseen = (all_drop number name (sides x.desk) u shows tells).0

  order : AreInOrder (flow_numbers left.parts.flow.waiting)
  order = waiting_in_order number name none_leaves left.peers left.parts (drop_unseen u) unseen.steps

  given_is : sides given ≡ with_parts (all_given_up (flow_numbers left.parts.flow.waiting)) left
  given_is =
      subst (λ (y : Sides). sides given ≡ with_parts (all_given_up (flow_numbers y.parts.flow.waiting)) y) drops.is
      (gives.is (subst (λ (y : Sides). AreInOrder (flow_numbers y.parts.flow.waiting)) (sym drops.is) order))

  carried : Carries true (parts x.desk.state) (parts given.state)
  carried =
      subst (λ (y : Sides). Carries true (parts x.desk.state) y.parts) (sym given_is)
      (carries_then true (parts x.desk.state) left.parts (all_given_up (flow_numbers left.parts.flow.waiting) left.parts) (carries_unseen (sides x.desk)) (carries_given_up (flow_numbers left.parts.flow.waiting) left.parts))

  -- ---- what they ask for

  narrow : Narrows s (without_useless s)
  narrow = useless-narrow s (narrow_same s)

  inside : (i : ℕ) (seat : Seat) (c : Client) → IsAtPlace i (parts given.state) (without_useless s) seat c → IsIn c (without_useless s).clients
  inside i seat c place = (in_find (is_client seat.client.id) c (without_useless s).clients place.there).0

  wants_key : (i : ℕ) (seat : Seat) (n : SeatNext) → (was : WasAt x.desk.state.seats.items i seat) → next_in_turn seat ≡ Some n → is_some (owned_in (asked_in seat.front)) ≡ true
  wants_key i seat n was next =
      let one : IsShownAt number name x.desk.state.seats.items s.clients i = seat_shown number name x.desk.state.seats.items s.clients i was.old amid.turn.steps.shows.clients was.here in
      let same : one.seat ≡ was.old = some_is one.seat was.old (sym one.here ∙ was.here) in
      keyed terms before s number name was.old seat one.client n obeys (subst (λ (y : Seat). ShowsSeat number name [] y one.client) same one.shows) (in_place i s.clients one.client one.there) (λ going. (amid.ready i was.old was.here going).key) was.is.stage was.is.front was.is.closing next

  pub may_ask_more : MayAskMore given.state (without_useless s)
  may_ask_more = record {
    wants = λ i seat c n place going next. record {
      keyed = wants_key i seat n (carried.each i seat place.here) next;
      given = given_then number name x.desk.state.seats.items s (without_useless s) amid.turn.steps.shows.clients rests.given narrow c (inside i seat c place) going;
    };
    within = λ i seat c n place going next. record {
      some = (next_by (without_useless s) c n next).some;
      body = body_within terms before s (without_useless s) obeys narrow c n (inside i seat c place) (next_by (without_useless s) c n next);
      whole = kept_whole terms before s (without_useless s) obeys narrow c n (inside i seat c place) (next_by (without_useless s) c n next) shelf rests.shows rests.names;
    };
    going = none_over terms before s obeys at;
    numbers = subst (λ (m : ℕ). m + length given.state.awake.items ≤ 2 ^ 64 - 1) (sym (none_begins s)) (subst (λ (ns : List ℕ). s.next_exchange + length ns ≤ 2 ^ 64 - 1) (sym awake) low);
  }
    where
      awake : given.state.awake.items ≡ x.desk.state.awake.items
      awake = ap (λ (d : Desk). d.state.awake.items) gives.rest ∙ ap (λ (d : Desk). d.state.awake.items) drops.rest

pub followers_may : FollowersMayAsk
followers_may terms before number shelf x seen given s obeys amid rests counted low at drops gives = may_ask_more terms before number shelf x seen given s obeys amid rests counted low at drops gives
