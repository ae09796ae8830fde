-- All begin their replies that may, one behind the other: the turn shows what the law makes of its state.
use Rattle.std.proofs.Common.{◌≡◌, ◌≤◌, ◌⊎◌, inl, inr, refl, sym, subst, ap, ap₂, ◌∙◌, ℕ, ◌+◌, Bool, true, false, not, ◌&&◌, ◌||◌, ◌==◌, nat_lt, find, length, List, [], ◌∷◌, Option, Some, option_map, arith}
use Rattle.std.specs.List.{list_any}
use Rattle.std.specs.Prelude.{count_by, option_and_then, slice_get}
use Rattle.pp_cache.specs.Memory.{Memory}
use Rattle.pp_cache_law.proofs.Alike.{instances_of}
use Rattle.pp_cache_law.proofs.Finds.{find_mapped}
use Rattle.pp_cache_law.proofs.Numbers.{is_same, same_test, some_is}
use Rattle.pp_cache_law.proofs.PairLemmas.{AreOnly, count_mapped}
use Rattle.pp_cache_law.specs.Reads.{IsFound}
use Rattle.pp_turns_law.proofs.Quitting.{follows_one, left_memory}
use Rattle.pp_turns_law.proofs.Refused.{left_stands}
use Rattle.pp_turns_law.proofs.Sitting.{is_at}
use Rattle.pp_turns_law.specs.Turns.{IsFollowing, ShowsTurn}
use Rattle.pp_flow_law.specs.Tables.{AreGiven, Leaving}
use Rattle.pp_law.specs.Closing.{forsake, is_of, left_alone}
use Rattle.pp_law.specs.Connections.{is_client}
use Rattle.pp_law.specs.Lists.{Bytes, change, has_number, is_some_with, is_this}
use Rattle.pp_law.specs.Replies.{begin_replies, begun_at_end}
use Rattle.pp_law.specs.Stages.{is_headed, reply_of}
use Rattle.pp_law.specs.State.{State, Client, Exchange, Reply}
use Rattle.pp_law.specs.Table.{follows, swept}
use Rattle.pp_objects.specs.Instances.{is_there}
use Rattle.pp_objects.specs.declared.id.ObjectId.{ObjectId}
use Rattle.pp_peers.specs.declared.peers.Peer.{Peer}
use Rattle.pp_seats.specs.Follows.{answer_in}
use Rattle.pp_seats.specs.declared.seat.Answer.{Answer}
use Rattle.pp_seats.specs.declared.seat.Seat.{Seat}
use Rattle.pp_seats.specs.declared.seat.Stage.{Stage as SeatStage}
use Rattle.pp_seats_law.specs.Clients.{AreShown, IsAt}
use Rattle.pp_seats_law.specs.Seats.{ShowsSeat}
use Rattle.pp_steps.specs.Begins.{BeginsReplies, BeginsReply}
use Rattle.pp_state.specs.Ends.{parts}
use Rattle.pp_state.specs.declared.state.State.{State as Turn}
use Rattle.pp_states_law.specs.Steps.{ShowsSteps, whole}
use Rattle.pp_states_law.specs.Told.{AreTold}
use Rattle.pp_turns_law.proofs.First.{IsShownAt, above, client_shown, seat_shown}
use Rattle.pp_turns_law.proofs.AtOnce.{all_at_once, begun_if, begun_of, none_begins, number_is, outrun_if, same_begun}
use Rattle.pp_turns_law.proofs.Behind.{instance_same, one_behind}
use Rattle.pp_turns_law.proofs.One.{one_shows, swept_too}
use Rattle.pp_turns_law.proofs.Regained.{get_other}
use Rattle.pp_turns_law.proofs.Seats.{turns}
use Rattle.pp_turns_law.proofs.Turned.{AmidTurn, Turned}
use Rattle.pp_turns_law.specs.Begins.{AllMayBegin, BeginsAreTheLaws, IsDecidedAs, IsReadyAt, MayBegin, MayShow}
use Rattle.pp_turns_law.proofs.StandingOn.{HasSeat, apart_before, asleep_stays, before_it, clients_of, each_at, exchanges_of, find_at, given_below, head_still, is_before, none_below, none_still, not_before, not_here, not_yet, only_at, other_at, seat_at, settings_of, shown_at, still_of, still_unanswered, there_by}

-- ---- amid it, those below a place have begun

record Amid (number : ℕ → ℕ) (l : Leaving) (peers : List Peer) (first : Turn) (s : State) (done : Client → Bool) (low : ℕ) (p : Turn) : Type 0 where
  steps : ShowsSteps number p.name.items l peers (parts p) (begun_of done s)
  rest : record p { seats = first.seats; cache = first.cache; flow = first.flow } ≡ first
  seats : (j : ℕ) → nat_lt j low ≡ false → slice_get p.seats.items j ≡ slice_get first.seats.items j
  there : (id : ObjectId) → is_there id p.cache.instances ≡ true → is_there id first.cache.instances ≡ true
  begun : (j : ℕ) (c : Client) → slice_get s.clients j ≡ Some c → nat_lt j low ≡ true → (done c ≡ true) ⊎ (begun_at_end s c ≡ c)
  late : (j : ℕ) (c : Client) → slice_get s.clients j ≡ Some c → nat_lt j low ≡ false → done c ≡ false

-- and behind it all have
record Ended (number : ℕ → ℕ) (l : Leaving) (peers : List Peer) (first : Turn) (s : State) (q : Turn) : Type 0 where
  steps : ShowsSteps number q.name.items l peers (parts q) (begin_replies s)
  rest : record q { seats = first.seats; cache = first.cache; flow = first.flow } ≡ first

module _ (number : ℕ → ℕ) (l : Leaving) (peers : List Peer) (first : Turn) (s : State) (shows : ShowsTurn number l peers first s) (ready : AllMayBegin number first s) where
  shown : AreShown number first.name.items [] first.seats.items s.clients
  shown = shows.steps.shows.clients

  -- one more
  module _ (done : Client → Bool) (low i : ℕ) (p : Turn) (seat : Seat) (c : Client) (order : low ≤ i) (amid : Amid number l peers first s done low p) (here : slice_get first.seats.items i ≡ Some seat) (there : slice_get s.clients i ≡ Some c) where
    abbrev n : ℕ
    n = seat.client.id

    abbrev t : State
    t = begun_of done s

    was : IsReadyAt number i first s seat c
    was = record { here = here; shows = shown_at number first.name.items i first.seats.items s.clients seat c shown here there; may = ready i seat c here there }

    at : IsAt n i first.seats.items
    at = is_at i first.seats.items seat shows.steps.order here

    found_it : find (is_client n) s.clients ≡ Some c
    found_it = find_at number first.name.items n i first.seats.items s.clients c shown at there

    only : AreOnly (is_client n) c s.clients
    only = only_at number first.name.items n i first.seats.items s.clients c shown at there

    late : done c ≡ false
    late = amid.late i c there (not_yet low i order)

    names : p.name.items ≡ first.name.items
    names = ap (λ (x : Turn). x.name.items) amid.rest

    turn : AmidTurn number l peers p t
    turn = record {
      steps = amid.steps;
      name = names ∙ shows.name ∙ sym (ap (λ settings. settings.name) (settings_of done s).0);
      clock = ap (λ (x : Turn). x.now) amid.rest ∙ shows.clock ∙ sym (settings_of done s).1;
    }

    found_then : find (is_client n) t.clients ≡ Some c
    found_then =
        ap (λ (cs : List Client). find (is_client n) cs) (clients_of done s)
        ∙ find_mapped (is_client n) (begun_if done s) s.clients same
        ∙ ap (λ (o : Option Client). option_map (begun_if done s) o) found_it
        ∙ ap (λ (b : Bool). Some (elim b as (λ x. Client) [ true ↦ begun_at_end s c | false ↦ c ])) late
      where
        by : (d : Client) (b : Bool) → is_client n (elim b as (λ x. Client) [ true ↦ begun_at_end s d | false ↦ d ]) ≡ is_client n d
        by d true = ap (λ (m : ℕ). m == n) (number_is s d)
        by d false = refl

        same : (d : Client) → is_client n (begun_if done s d) ≡ is_client n d
        same d = by d (done d)

    following : (a : Answer) (id : ObjectId) → c.is_closing ≡ false → answer_in seat.stage ≡ Some a → a.source ≡ Some id → follows (number id.life) c ≡ true
    following a id going answer own =
        ap (λ (b : Bool). not b && is_some_with (λ (r : Reply). is_this (number id.life) r.source) (reply_of c)) going
        ∙ follows_one number (number id.life) id seat.client.reply seat.stage c.stage (was.shows.going going).stage (ap (λ (o : Option Answer). option_and_then (λ (x : Answer). x.source) o) answer ∙ own)
        ∙ same_test (number id.life) (number id.life) refl

    still_follows : c.is_closing ≡ false → IsFollowing p.cache seat
    still_follows going a id answer own =
        let one : IsFound number first.cache s id = instances_of number first.cache s shows.steps.shows.table.table id ((was.may going).follows a id answer own) in
        there_by number first.cache p.cache s t id one.known shows.steps.shows.table.table amid.steps.shows.table.table ((was.may going).follows a id answer own) amid.there
        (instance_same done s n c found_it only late (number id.life) (following a id going answer own) ∙ one.there)

    decided_still : (a : Answer) → c.is_closing ≡ false → answer_in seat.stage ≡ Some a → IsDecidedAs number s seat c a → IsDecidedAs number t seat c a
    decided_still a going answer it = record {
      passes = it.passes;
      kept = it.kept;
      from = it.from;
      to = it.to;
      order = it.order;
      apart = it.apart;
      given = it.given;
      shows = λ r x id other front own law.
          let may : MayShow s a c r x = it.shows r x id other front own (sym (instance_same done s n c found_it only late (number id.life) (following a id going answer own)) ∙ law) in
          record { span = may.span; lines = may.lines; room = subst (λ (b : Bytes). length b ≤ 20480) (sym (head_still done s r c x a.decision)) may.room };
    }

    few_still : (m : ℕ) → count_by (is_of m) s.exchanges ≤ 1 → count_by (is_of m) t.exchanges ≤ 1
    few_still m few =
        subst (λ (es : List Exchange). count_by (is_of m) es ≤ 1) (sym (exchanges_of done s)) (omega (arith, few, less))
      where
        less : count_by (is_of m) (change (outrun_if done s) left_alone s.exchanges) ≤ count_by (is_of m) s.exchanges
        less = count_mapped (is_of m) (λ (e : Exchange). elim (outrun_if done s e) as (λ x. Exchange) [ true ↦ left_alone e | false ↦ e ]) s.exchanges (λ e is. still_of m (outrun_if done s e) e is)

    may_still : c.is_closing ≡ false → MayBegin number p.cache t seat c
    may_still going =
        let may : MayBegin number first.cache s seat c = was.may going in record {
          follows = still_follows going;
          room = may.room;
          once = few_still c.number may.once;
          headed = λ has. ap (λ (es : List Exchange). list_any (λ e. is_of c.number e && not (is_headed e)) es) (exchanges_of done s)
              ∙ none_still (λ e. is_of c.number e && not (is_headed e)) (λ (e : Exchange). elim (outrun_if done s e) as (λ x. Exchange) [ true ↦ left_alone e | false ↦ e ]) s.exchanges
              (λ e is. still_unanswered c.number (outrun_if done s e) e is) (may.headed has);
          decided = λ a stage unbegun. decided_still a going (ap (λ (x : SeatStage). answer_in x) stage) (may.decided a stage unbegun);
        }

    ready_then : IsReadyAt number i p t seat c
    ready_then = record {
      here = amid.seats i (not_yet low i order) ∙ here;
      shows = subst (λ (b : Bytes). ShowsSeat number b [] seat c) (sym names) was.shows;
      may = may_still;
    }

    abbrev and_it : Client → Bool
    and_it d = done d || is_client n d

    more : (next : Turn) → ((j : ℕ) (d : Client) → nat_lt j low ≡ false → nat_lt j i ≡ true → slice_get s.clients j ≡ Some d → begun_at_end s d ≡ d) → BeginsReply i p next → Amid number l peers first s and_it (i + 1) next
    more next asleep begins =
        let one : Turned number i p next t seat c = turns number l peers i p next t seat c turn ready_then begins in
        let cache_is : next.cache ≡ left_memory one.own p.cache = ap (λ (x : Turn). x.cache) one.rest in record {
          steps = subst (λ (u : State). ShowsSteps number next.name.items l peers (parts next) u) (one_behind done s n c found_it only late)
              (one_shows number l peers i p next t seat c turn ready_then found_then (λ going. subst (λ (m : ℕ). count_by (is_of m) t.exchanges ≤ 1) (sym was.shows.number) (may_still going).once) one);
          rest = ap (λ (x : Turn). let y : Turn = record x { seats = first.seats; cache = first.cache; flow = first.flow } in y) one.rest ∙ amid.rest;
          seats = λ j later. ap (λ (xs : List Seat). slice_get xs j) one.seats ∙ get_other i j p.seats.items one.new (not_here i j later) ∙ amid.seats j (not_before low i j order later);
          there = λ id is. amid.there id ((left_stands one.own p.cache 0).there id (subst (λ (m : Memory). is_there id m.instances ≡ true) cache_is is));
          begun = λ j d its within. by j d its within (nat_lt j low) (i == j) refl refl;
          late = λ j d its later. ap₂ (λ (a b : Bool). a || b) (amid.late j d its (not_before low i j order later)) (other_at number first.name.items n i j first.seats.items s.clients d shown at its (not_here i j later));
        }
      where
        or_true : (b : Bool) → (b || true) ≡ true
        or_true true = refl
        or_true false = refl

        too : (d : Client) → (done d ≡ true) ⊎ (begun_at_end s d ≡ d) → (and_it d ≡ true) ⊎ (begun_at_end s d ≡ d)
        too d (inl is) = inl (ap (λ (b : Bool). b || is_client n d) is)
        too d (inr same) = inr same

        by : (j : ℕ) (d : Client) → slice_get s.clients j ≡ Some d → nat_lt j (i + 1) ≡ true → (a b : Bool) → nat_lt j low ≡ a → (i == j) ≡ b → (and_it d ≡ true) ⊎ (begun_at_end s d ≡ d)
        by j d its within true b before own = too d (amid.begun j d its before)
        by j d its within false true later own =
            let same : c ≡ d = some_is c d (sym there ∙ ap (λ (k : ℕ). slice_get s.clients k) (is_same i j own) ∙ its) in
            inl (ap (λ (b : Bool). done d || b) (ap (λ (x : Client). x.number == n) (sym same) ∙ same_test c.number n (sym was.shows.number)) ∙ or_true (done d))
        by j d its within false false later apart = inr (asleep j d later (before_it i j within apart) its)

  -- all
  walk : (places : List ℕ) (done : Client → Bool) (low : ℕ) (p q : Turn) → AreGiven low (length first.seats.items) places
      → ((j : ℕ) (c : Client) → nat_lt j low ≡ false → has_number j places ≡ false → slice_get s.clients j ≡ Some c → begun_at_end s c ≡ c) → Amid number l peers first s done low p → BeginsReplies places p q → Ended number l peers first s q
  unfolding BeginsReplies
  walk [] done low p q given asleep amid same =
      subst (λ (x : Turn). Ended number l peers first s x) (sym same) (record {
        steps = subst (λ (u : State). ShowsSteps number p.name.items l peers (parts p) u) (same_begun done (λ c. true) s (each_at (λ c. (done c ≡ true) ⊎ (begun_at_end s c ≡ c)) s.clients (λ j c its. by j c its (nat_lt j low) refl)) ∙ sym (all_at_once s)) amid.steps;
        rest = amid.rest;
      })
    where
      by : (j : ℕ) (c : Client) → slice_get s.clients j ≡ Some c → (b : Bool) → nat_lt j low ≡ b → (done c ≡ true) ⊎ (begun_at_end s c ≡ c)
      by j c its true before = amid.begun j c its before
      by j c its false later = inr (asleep j c later refl its)
  walk (i ∷ places) done low p q given asleep amid begins =
      let within : i + 1 ≤ length first.seats.items = given_below (i + 1) (length first.seats.items) places given.1 in
      let one : HasSeat i first.seats.items = seat_at i first.seats.items within in
      let its : IsShownAt number first.name.items first.seats.items s.clients i = seat_shown number first.name.items first.seats.items s.clients i one.seat shown one.here in
      walk places (λ d. done d || is_client one.seat.client.id d) (i + 1) begins.0 q given.1
      (λ j c later none at. asleep j c (not_before low i j given.0 later) (ap₂ (λ (a b : Bool). a || b) (not_here i j later) none) at)
      (more done low i p one.seat its.client given.0 amid one.here its.there begins.0
      (λ j d later before at. asleep j d later (ap₂ (λ (a b : Bool). a || b) (apart_before i j before) (above (i + 1) (length first.seats.items) j places given.1 (is_before i j before))) at)
      begins.1)
      begins.2

next_swept : (s : State) → (swept s).next_instance ≡ s.next_instance
unfolding swept
next_swept s = refl

ended_of : (s : State) → ((begin_replies s).settings ≡ s.settings) × ((begin_replies s).clock ≡ s.clock) × ((begin_replies s).is_ticked ≡ s.is_ticked) × ((begin_replies s).is_stopped ≡ s.is_stopped)
unfolding begin_replies forsake swept
ended_of s = (refl, refl, refl, refl)

pub begins : BeginsAreTheLaws
begins number l peers p q s shows awake ready begins_so bounded =
    let first : Amid number l peers p s (λ c. false) 0 p = record {
      steps = subst (λ (u : State). ShowsSteps number p.name.items l peers (parts p) u) (sym (none_begins s)) (record {
        shows = swept_too number p.name.items l (whole (parts p) peers) s shows.steps.shows;
        order = shows.steps.order;
        told = subst (λ (m : ℕ). AreTold number p.cache m p.flow) (sym (next_swept s)) shows.steps.told;
        refused = shows.steps.refused;
      });
      rest = refl;
      seats = λ j later. refl;
      there = λ id is. is;
      begun = λ j c its before. absurd (none_below j before);
      late = λ j c its later. refl;
    } in
    let ended : Ended number l peers p s q = walk number l peers p s shows ready p.awake.items (λ c. false) 0 p q awake.order asleep first begins_so in record {
      steps = ended.steps;
      name = ap (λ (t : Turn). t.name.items) ended.rest ∙ shows.name ∙ sym (ap (λ settings. settings.name) (ended_of s).0);
      shares = ap (λ (t : Turn). t.shares_fetches) ended.rest ∙ shows.shares ∙ sym (ap (λ settings. settings.shares_fetches) (ended_of s).0);
      clock = ap (λ (t : Turn). t.now) ended.rest ∙ shows.clock ∙ sym (ended_of s).1;
      ticked = ap (λ (t : Turn). t.is_ticked) ended.rest ∙ shows.ticked ∙ sym (ended_of s).2;
      stopped = ap (λ (t : Turn). t.is_stopped) ended.rest ∙ shows.stopped ∙ sym (ended_of s).3;
      bounded = bounded;
    }
  where
    asleep : (j : ℕ) (c : Client) → nat_lt j 0 ≡ false → has_number j p.awake.items ≡ false → slice_get s.clients j ≡ Some c → begun_at_end s c ≡ c
    asleep j c later none its =
        let one : IsShownAt number p.name.items p.seats.items s.clients j = client_shown number p.name.items p.seats.items s.clients j c shows.steps.shows.clients its in
        let same : one.client ≡ c = some_is one.client c (sym one.there ∙ its) in
        asleep_stays number p.name.items s one.seat c (subst (λ (d : Client). ShowsSeat number p.name.items [] one.seat d) same one.shows) (awake.others j one.seat one.here none).silent
