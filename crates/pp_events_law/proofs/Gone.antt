-- The connection of an origin is gone: its line is over, or asked elsewhere, replies that are over end, and the turn stands behind it.
use Rattle.std.proofs.Common.{◌≡◌, ◌≤◌, refl, sym, subst, ap, ◌∙◌, ℕ, true, false, ◌==◌, ◌&&◌, find, length, List, [], Option, Some, None}
use Rattle.std.specs.Prelude.{count_by, slice_get}
use Rattle.pp_cache.specs.Bounds.{IsBounded}
use Rattle.pp_client.specs.Replies.{Reply, is_said}
use Rattle.pp_turns_law.specs.Sides.{ShowsSides}
use Rattle.pp_turns_law.proofs.Sitting.{is_at, shown_at}
use Rattle.pp_turns_law.specs.Decides.{IsAtPlace}
use Rattle.pp_desk.proofs.ClosingLemmas.{closed_numbers, piped_numbers}
use Rattle.pp_desk.specs.Closings.{KeepsDesk, Sides, closed_conn, peer_numbers, sides}
use Rattle.pp_desk.specs.Replies.{EndsReplies}
use Rattle.pp_desk.specs.declared.desk.Desk.{Desk}
use Rattle.pp_endings_law.proofs.GoneEnds.{all_gone, ends_gone}
use Rattle.pp_endings_law.proofs.Rests.{IsBut, closed}
use Rattle.pp_endings_law.proofs.Walk.{as_many}
use Rattle.pp_endings_law.specs.Gone.{MayBeGone}
use Rattle.pp_endings_law.specs.Replies.{AllMayEnd, AreLookedAt, HasEnded, MayLeave}
use Rattle.pp_flow_law.specs.Tables.{AreGiven, none_leaves}
use Rattle.pp_framing.specs.declared.body.Ending.{Ending}
use Rattle.pp_framing.specs.declared.body.Ending.TheVariants.{Short}
use Rattle.pp_law.specs.After.{gone, paid}
use Rattle.pp_law.specs.Closing.{is_of}
use Rattle.pp_law.specs.Connections.{close_conn, exchange}
use Rattle.pp_law.specs.Lists.{Bytes, has_number}
use Rattle.pp_law.specs.Responses.{close_this, ended, finish_first, is_whole_at_end}
use Rattle.pp_law.specs.State.{State, Answer, Client, Conn, Exchange, Handling, Free}
use Rattle.pp_laws.proofs.Sound.{Sound, facts_of as sound_facts}
use Rattle.pp_laws.specs.Runs.{IsIn}
use Rattle.pp_laws_bounds.proofs.Happenings.{from_now}
use Rattle.pp_laws_turn.proofs.Kept.{Turn as Kept}
use Rattle.pp_laws_turn.proofs.Laws.{asks_once, has_source}
use Rattle.pp_laws_turn.proofs.View.{Holds, facts_of}
use Rattle.pp_laws_turn.specs.SoundTurn.{HasSource}
use Rattle.pp_links.specs.Links.{Link}
use Rattle.pp_origins.specs.Responses.{ended_by, ending_by, origin_gone, whole_where}
use Rattle.pp_peers.specs.Peers.{is_number}
use Rattle.pp_peers.specs.declared.peers.Peer.{Peer}
use Rattle.pp_proxy.specs.Moving.{Moving, moving}
use Rattle.pp_seats.specs.declared.seat.Seat.{Seat}
use Rattle.pp_seats_law.specs.Seats.{ShowsSeat}
use Rattle.pp_state.specs.Ends.{numbers_of, parts}
use Rattle.pp_states_law.specs.Steps.{ShowsSteps}
use Rattle.pp_turns_law.specs.Firsts.{AreAwake, IsAsleep}
use Rattle.pp_turns_law.specs.Turns.{IsFollowing}
use Rattle.pp_events_law.proofs.Alike.{AreAlike, WasAlike, as_long, silent_as}
use Rattle.pp_events_law.proofs.Beside.{AreBeside, replies_beside}
use Rattle.pp_events_law.proofs.Closed.{closes}
use Rattle.pp_events_law.proofs.Ends.{in_exchanges}
use Rattle.pp_events_law.proofs.Left.{AreLeft, alike_left, left_then, replies_left}
use Rattle.pp_events_law.proofs.Sourced.{follow_alike, follow_of}
use Rattle.pp_events_law.proofs.Standing.{HasWords, may_as, open_as, steps_as, turn_by}
use Rattle.pp_events_law.specs.Stands.{AreOpen, IsHandled, StandsAtEvent}

-- ---- of the law: where it breaks nothing is whole by its end

broken_is : (k : Conn) (s : State) → ended false k s ≡ close_conn true k s
unfolding ended
broken_is k s = by k.answer
  where
    by : (o : Option Answer) → (elim o as (λ t. State) [ None ↦ close_conn true k s | Some a ↦ elim (false && is_whole_at_end a) as (λ t. State) [ true ↦ close_this k.number (finish_first k a s) | false ↦ close_conn true k s ] ]) ≡ close_conn true k s
    by None = refl
    by (Some a) = refl

broken_but : (k : Conn) (s : State) → IsBut s (ended false k s)
broken_but k s = subst (λ (t : State). IsBut s t) (sym (broken_is k s)) (closed true k s)

-- ---- of both

short_end : (o : Option Peer) → ending_by false o ≡ Short
short_end None = refl
short_end (Some peer) = refl

-- what is sound amid it
pub record IsSoundAmid (v : State) : Type 0 where
  pub sources : (c : Client) → IsIn c v.clients → c.is_closing ≡ false → HasSource v c
  pub once : (m : ℕ) → count_by (is_of m) v.exchanges ≤ 1
  pub rests : (m : ℕ) (e : Exchange) → exchange v m ≡ Some e → e.place ≡ None → (e.asked == 0) ≡ true

pub amid_by : (v : State) → Sound from_now v → Holds Kept v → IsSoundAmid v
amid_by v so kept = record {
  sources = has_source v (facts_of kept);
  once = asks_once v (sound_facts so).asks.rise (facts_of kept);
  rests = λ m e found none. ap (λ (i : ℕ). i == 0) ((facts_of kept).fresh e (in_exchanges m v.exchanges e found) none);
}

-- of the desk that shows it
pub record ShowsGone (number : ℕ → ℕ) (k : ℕ) (d : Desk) (links : List Link) (top : ℕ) (w : State) (j : Conn) : Type 0 where
  pub shows : ShowsSides number d.state.name.items (sides d) w
  pub words : HasWords d.state w
  pub may : MayBeGone k w j
  pub amid : IsSoundAmid (ended false j w)
  pub ready : (i : ℕ) (seat : Seat) → slice_get d.state.seats.items i ≡ Some seat → seat.is_closing ≡ false → IsFollowing d.state.cache seat
  pub unsaid : (i : ℕ) (seat : Seat) → slice_get d.state.seats.items i ≡ Some seat → seat.is_closing ≡ false → is_said seat.client.reply ≡ false
  pub awake : AreAwake d.state
  pub ticked : d.state.has_ticked ≡ w.has_ticked
  pub at : w.phase ≡ Handling
  pub none : w.made_room_for ≡ None
  pub opened : AreOpen (moving d links top) w.top

pub record IsGone (k : ℕ) (d new : Desk) : Type 0 where
  pub ends : EndsReplies d.state.awake.items (origin_gone false k (sides d)) (sides new)
  pub numbers : numbers_of new.state.seats.items ≡ numbers_of d.state.seats.items
  pub rest : KeepsDesk d (record new { «data» = d.«data» })

module _ (number : ℕ → ℕ) (k : ℕ) (d : Desk) (links : List Link) (top : ℕ) (w : State) (j : Conn) (y : Moving) (has : ShowsGone number k d links top w j) (is : IsGone k d y.desk) (bounded : IsBounded y.desk.state.cache) (same_links : y.links ≡ links) (same_top : y.top ≡ top) where
  abbrev new : Desk
  new = y.desk

  abbrev name : Bytes
  name = d.state.name.items

  abbrev v : State
  v = ended false j w

  abbrev z : Sides
  z = origin_gone false k (sides d)

  abbrev u : State
  u = record (gone false k w) { owed = Free }

  shown_gone : ShowsSides number name z v
  shown_gone = ends_gone number name (sides d) w has.shows false k j has.may

  abbrev gone_peers : Sides
  gone_peers = record (sides d) { peers = ended_by false k (find (is_number k) d.peers) d.peers }

  gone_is : z ≡ closed_conn k true gone_peers
  gone_is = ap (λ (e : Ending). closed_conn k true (whole_where e k gone_peers)) (short_end (find (is_number k) d.peers))

  gone_alike : AreAlike (parts d.state) z.parts
  gone_alike = subst (λ (q : Sides). AreAlike (parts d.state) q.parts) (sym gone_is) (closes k true gone_peers)

  looked_at : AreLookedAt d.state.awake.items z.parts.seats
  looked_at = record {
    order = subst (λ (n : ℕ). AreGiven 0 n d.state.awake.items) (sym (as_long (parts d.state) z.parts gone_alike)) has.awake.order;
    others = λ i seat here out. let was : WasAlike d.state.seats.items i seat = gone_alike.was i seat here in silent_as was.old seat was.is ∙ (has.awake.others i was.old was.here out).silent;
  }

  -- a client of the law goes on where its seat does
  its_closing : (i : ℕ) (seat : Seat) (c : Client) → IsAtPlace i z.parts v seat c → c.is_closing ≡ false → seat.is_closing ≡ false
  its_closing i seat c place going =
      let one : ShowsSeat number name [] seat c = shown_at number name [] z.parts.seats v.clients seat.client.id i seat c shown_gone.steps.shows.clients (is_at i z.parts.seats seat shown_gone.steps.order place.here) place.here place.there in
      one.closing ∙ going

  may_leave : MayLeave z v
  may_leave = record {
    follow = λ i seat c place going. follow_alike number name z.peers (parts d.state) z.parts w v has.shows.steps.shows.table.table has.ready gone_alike shown_gone.steps has.amid.sources i seat place.here (its_closing i seat c place going);
    once = has.amid.once;
    rests = has.amid.rests;
  }

  all_may : AllMayEnd z v
  all_may i seat c place going all =
      let was : WasAlike d.state.seats.items i seat = gone_alike.was i seat place.here in
      absurd (let both : true ≡ false = sym all ∙ ap (λ (r : Reply). is_said r) was.is.reply ∙ has.unsaid i was.old was.here (sym was.is.closing ∙ its_closing i seat c place going) in cc both)

  has_ended : HasEnded number name (sides new) v (gone false k w)
  has_ended = all_gone number name (sides d) w has.shows false k j d.state.awake.items has.may looked_at may_leave all_may (sides new) is.ends

  -- all that is no part of it
  stays : {A : Type 0} (f : State → A) → f (record v { clients = (gone false k w).clients; conns = (gone false k w).conns; exchanges = (gone false k w).exchanges; instances = (gone false k w).instances; chunks = (gone false k w).chunks }) ≡ f v
      → f (record w { clients = v.clients; conns = v.conns; exchanges = v.exchanges; instances = v.instances; chunks = v.chunks; entries = v.entries; displaced = v.displaced }) ≡ f w → f (gone false k w) ≡ f w
  stays f one two = ap f has_ended.rest ∙ one ∙ ap f (broken_but j w) ∙ two

  same_name : new.state.name.items ≡ name
  same_name = ap (λ (e : Desk). e.state.name.items) is.rest

  words : HasWords new.state u
  words = record {
    name = same_name ∙ has.words.name ∙ sym (stays (λ t. t.settings.name) refl refl);
    shares = ap (λ (e : Desk). e.state.shares_fetches) is.rest ∙ has.words.shares ∙ sym (stays (λ t. t.settings.shares_fetches) refl refl);
    clock = ap (λ (e : Desk). e.state.now) is.rest ∙ has.words.clock ∙ sym (stays (λ t. t.clock) refl refl);
    ticked = ap (λ (e : Desk). e.state.is_ticked) is.rest ∙ has.words.ticked ∙ sym (stays (λ t. t.is_ticked) refl refl);
    stopped = ap (λ (e : Desk). e.state.is_stopped) is.rest ∙ has.words.stopped ∙ sym (stays (λ t. t.is_stopped) refl refl);
  }

  beside : AreBeside d.state.awake.items z (sides new)
  beside = replies_beside d.state.awake.items z (sides new) is.ends

  ended_numbers : (o : Option Peer) → peer_numbers (ended_by false k o d.peers) ≡ peer_numbers d.peers
  ended_numbers None = refl
  ended_numbers (Some peer) = piped_numbers k _ d.peers

  now_awake : new.state.awake.items ≡ d.state.awake.items
  now_awake = ap (λ (e : Desk). e.state.awake.items) is.rest

  as_many_now : length new.state.seats.items ≡ length d.state.seats.items
  as_many_now = sym (as_many new.state.seats.items) ∙ ap (λ (ns : List ℕ). length ns) is.numbers ∙ as_many d.state.seats.items

  awake_behind : AreAwake new.state
  awake_behind = record {
    order = subst (λ (ns : List ℕ). AreGiven 0 (length new.state.seats.items) ns) (sym now_awake) (subst (λ (n : ℕ). AreGiven 0 n d.state.awake.items) (sym as_many_now) has.awake.order);
    others = λ i seat here out.
        let none_here : has_number i d.state.awake.items ≡ false = ap (λ (ns : List ℕ). has_number i ns) (sym now_awake) ∙ out in
        let there : slice_get z.parts.seats i ≡ Some seat = sym (beside.others i none_here) ∙ here in
        let was : WasAlike d.state.seats.items i seat = gone_alike.was i seat there in
        let one : IsAsleep d.state was.old = has.awake.others i was.old was.here none_here in
        record { silent = looked_at.others i seat there none_here; ticked = ap (λ (e : Desk). e.state.is_ticked) is.rest ∙ one.ticked };
  }

  pub gone_stands : StandsAtEvent number Handling Free y u
  gone_stands = record {
    law = record { at = stays (λ t. t.phase) refl refl ∙ has.at; owes = refl; none = stays (λ t. t.made_room_for) refl refl ∙ has.none };
    desk = record {
      turn = turn_by number new.peers new.state u words bounded
          (subst (λ (text : Bytes). ShowsSteps number text none_leaves new.peers (parts new.state) u) (sym same_name)
          (steps_as number name new.peers (parts new.state) (gone false k w) u (record { clients = refl; conns = refl; exchanges = refl; next_exchange = refl; instances = refl; next_instance = refl; chunks = refl; kept = λ i. refl }) has_ended.shows.steps));
      may = may_as (gone false k w) u refl refl refl has_ended.shows.may;
    };
    ticked = ap (λ (e : Desk). e.state.has_ticked) is.rest ∙ has.ticked ∙ sym (stays (λ t. t.has_ticked) refl refl);
    awake = awake_behind;
    opened = open_as (moving d links top) y w.top u.top is.numbers (beside.peers ∙ ap (λ (q : Sides). peer_numbers q.peers) gone_is ∙ closed_numbers k (ended_by false k (find (is_number k) d.peers) d.peers) ∙ ended_numbers (find (is_number k) d.peers)) same_links same_top (stays (λ t. t.top) refl refl) has.opened;
  }

  pub gone_handled : IsHandled number y (paid (gone false k w))
  unfolding paid
  gone_handled = record { handled = u; anew = refl; stands = gone_stands; follows = follow_of number name new.peers (parts new.state) (gone false k w) has_ended.shows.steps has_ended.may.follow }

  pub gone_left : AreLeft (parts d.state) (parts new.state)
  gone_left = left_then (parts d.state) z.parts (parts new.state) (alike_left (parts d.state) z.parts gone_alike) (replies_left d.state.awake.items z (sides new) is.ends)

  pub gone_next : (gone false k w).next_instance ≡ w.next_instance
  gone_next = stays (λ t. t.next_instance) refl refl
