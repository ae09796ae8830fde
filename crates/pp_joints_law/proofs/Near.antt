-- What memory that may be left rests on, of what the law has.
use Rattle.std.proofs.Common.{◌≡◌, ◌≤◌, ◌<◌, refl, sym, ap, ◌∙◌, subst, ℕ, ◌/◌, ◌^◌, zero, suc, Bool, true, false, length, map, find, is_some, List, [], ◌∷◌, Option, Some, None, inl, inr, arith}
use Rattle.std.specs.Prelude.{IfSome, slice_get}
use Rattle.pp_cache_law.proofs.Numbers.{some_is}
use Rattle.pp_turns_law.proofs.Filled.{closed_in_turn}
use Rattle.pp_turns_law.proofs.FollowingOn.{has_source, is_next}
use Rattle.pp_turns_law.specs.Regains.{AllFollow}
use Rattle.pp_evicting_law.specs.Evicting.{IsDoneWithEvent, MayLeave}
use Rattle.pp_flow.specs.Changes.{entry_of}
use Rattle.pp_flow.specs.Entries.{Span}
use Rattle.pp_flow.specs.declared.entry.Entry.{Entry}
use Rattle.pp_flow_law.proofs.Standing.{IsShown, is_shown}
use Rattle.pp_flow_law.specs.Tables.{none_leaves}
use Rattle.pp_joints_law.specs.Leaving.{IsToLeave, MemoryMayBeLeft}
use Rattle.pp_law.specs.Chunks.{floor}
use Rattle.pp_law.specs.Connections.{anew, is_exchange}
use Rattle.pp_law.specs.Replies.{is_regained, regained, regained_by}
use Rattle.pp_law.specs.Stages.{bound_of, filled_of}
use Rattle.pp_law.specs.State.{State, Bound, Client, Exchange, Instance, Term}
use Rattle.pp_law.specs.Table.{Next, is_instance, next_of as next_by_law}
use Rattle.pp_laws.proofs.Lists.{in_find}
use Rattle.pp_laws.specs.Runs.{IsIn}
use Rattle.pp_laws_bounds.specs.Bounds.{HasFewBodies, HasFewClients}
use Rattle.pp_laws_brought.proofs.Laws.{bounds_in_order}
use Rattle.pp_laws_coming.proofs.Laws.{asks_told}
use Rattle.pp_laws_decided.proofs.Laws.{turns_are_decided}
use Rattle.pp_laws_fields.proofs.Laws.{turns_keep_fields}
use Rattle.pp_laws_turn.proofs.Laws.{sound_turns}
use Rattle.pp_obeys.specs.Obeys.{Obeys}
use Rattle.pp_peers.specs.declared.peers.Peer.{Peer}
use Rattle.pp_proxy.specs.Moving.{Moving}
use Rattle.pp_seats.specs.Follows.{next_of}
use Rattle.pp_seats.specs.declared.seat.Next.{Next as SeatNext}
use Rattle.pp_seats.specs.declared.seat.Seat.{Seat}
use Rattle.pp_seats_law.proofs.Entries.{exchanges}
use Rattle.pp_seats_law.proofs.Nexts.{nexts}
use Rattle.pp_seats_law.specs.Exchanges.{ShowsBound}
use Rattle.pp_seats_law.specs.Seats.{ShowsSeat}
use Rattle.pp_seats_law.specs.Words.{ShowsNext}
use Rattle.pp_state.specs.declared.state.State.{State as Turn}
use Rattle.pp_turns_law.proofs.First.{IsShownAt, seat_shown}
use Rattle.pp_turns_law.specs.Nexts.{IsNext}
use Rattle.pp_turns_law.specs.Turns.{ShowsTurn}
use Rattle.pp_world.specs.Log.{Log}

in_place : {A : Type 0} (i : ℕ) (xs : List A) (x : A) → slice_get xs i ≡ Some x → IsIn x xs
in_place i [] x at = absurd (cc at)
in_place zero (y ∷ ys) x at = inl (sym (some_is y x at))
in_place (suc i) (y ∷ ys) x at = inr (in_place i ys x at)

in_mapped : {A B : Type 0} (f : A → B) (x : A) (xs : List A) → IsIn x xs → IsIn (f x) (map f xs)
in_mapped f x [] i = absurd i
in_mapped f x (y ∷ ys) (inl is) = inl (ap f is)
in_mapped f x (y ∷ ys) (inr i) = inr (in_mapped f x ys i)

-- ---- attempts that count anew change nothing that is followed

next_anew : (s : State) (c : Client) → next_by_law (regained s) (regained_by s c) ≡ next_by_law s c
unfolding regained
next_anew s c = by (is_regained s c)
  where
    by : (b : Bool) → next_by_law (record s { clients = map (regained_by s) s.clients }) (elim b as (λ t. Client) [ true ↦ record c { course = anew c.course } | false ↦ c ]) ≡ next_by_law s c
    by true = refl
    by false = refl

short_enough : (at to len : ℕ) → at < to → to ≤ len → len ≤ 2 ^ 30 → at / 4096 < 2 ^ 32
short_enough at to len some within short = omega (arith, some, within, short)

-- a state of the same clients, in which attempts count anew, and of the same exchanges and instances
pub record IsOfSame (h r : State) : Type 0 where
  pub clients : r.clients ≡ map (regained_by h) h.clients
  pub exchanges : r.exchanges ≡ h.exchanges
  pub instances : r.instances ≡ h.instances

of_itself : (h : State) → IsOfSame h (regained h)
unfolding regained
of_itself h = record { clients = refl; exchanges = refl; instances = refl }

-- beside a log that obeys the law with such a one
module _ (terms : List Term) (log : Log) (number : ℕ → ℕ) (peers : List Peer) (p : Turn) (h r : State) (obeys : Obeys terms r log) (alike : IsOfSame h r) (shows : ShowsTurn number none_leaves peers p h) (follow : AllFollow p) where
  -- ---- the next byte of each client

  source_short : (n : Next) (id : ℕ) → find (is_instance id) h.instances ≡ Some n.source → n.source.version.length ≤ 2 ^ 30
  source_short n id there =
      ((turns_keep_fields terms r log obeys).rows n.source (in_find (is_instance id) n.source r.instances (ap (λ (is : List Instance). find (is_instance id) is) alike.instances ∙ there)).0).short

  next_alike : (c : Client) → next_by_law r c ≡ next_by_law (regained h) c
  unfolding regained
  next_alike c = ap (λ (is : List Instance). next_by_law (record r { instances = is }) c) alike.instances

  next_near : (seat : Seat) (c : Client) (x : SeatNext) (n : Next) → IsIn c h.clients → next_by_law h c ≡ Some n → IsNext number p.cache h x n → x.at / 4096 < 2 ^ 32
  next_near seat c x n there law next =
      let its =
      (turns_are_decided terms r log obeys).next (regained_by h c) n (subst (λ (cs : List Client). IsIn (regained_by h c) cs) (sym alike.clients) (in_mapped (regained_by h) c h.clients there)) (next_alike (regained_by h c) ∙ next_anew h c ∙ law) in
      subst (λ (at : ℕ). at / 4096 < 2 ^ 32) (sym next.at) (short_enough n.at n.to n.source.version.length its.0 its.1 (source_short n (number x.source.life) next.known))

  pub near : (i : ℕ) (seat : Seat) → slice_get p.seats.items i ≡ Some seat → IfSome (next_of seat) (λ n. n.at / 4096 < 2 ^ 32)
  near i seat at = by seat.is_closing refl
    where
      Of : Option SeatNext → Type 0
      Of o = IfSome o (λ n. n.at / 4096 < 2 ^ 32)

      one : IsShownAt number p.name.items p.seats.items h.clients i
      one = seat_shown number p.name.items p.seats.items h.clients i seat shows.steps.shows.clients at

      same : one.seat ≡ seat
      same = some_is one.seat seat (sym one.here ∙ at)

      seen : ShowsSeat number p.name.items [] seat one.client
      seen = subst (λ (x : Seat). ShowsSeat number p.name.items [] x one.client) same one.shows

      both : seat.is_closing ≡ false → (x : Option SeatNext) (y : Option Next) → next_of seat ≡ x → next_by_law h one.client ≡ y → ShowsNext number x y → Of x
      both going None None its law shown = tt
      both going None (Some n) its law shown = tt
      both going (Some x) None its law shown = absurd shown
      both going (Some x) (Some n) its law shown =
          next_near seat one.client x n (in_place i h.clients one.client one.there) law (is_next number p.cache h p.name.items seat one.client x n seen (sym seen.closing ∙ going) (follow i seat at going) its law shown)

      by : (b : Bool) → seat.is_closing ≡ b → Of (next_of seat)
      by true closing = subst (λ (o : Option SeatNext). Of o) (sym (closed_in_turn seat closing)) tt
      by false going =
          both going (next_of seat) (next_by_law h one.client) refl refl
          (nexts number h p.name.items [] seat one.client seen (λ on. has_source number p.cache h p.name.items seat one.client shows.steps.shows.table.table seen on (follow i seat at going)))

  -- ---- what exchanges bring

  pub brought_near : (n : ℕ) (e : Entry) → entry_of n p.flow ≡ Some e → IfSome e.exchange.bound (λ b. b.1 / 4096 < 2 ^ 32)
  brought_near n e at = by e.exchange.bound (bound_of one.known) refl (exchanges number e one.known one.shows).bound
    where
      one : IsShown number h n e
      one = is_shown number none_leaves p.flow h shows.steps.shows.exchanges n e at

      by : (o : Option Span) (b : Option Bound) → bound_of one.known ≡ b → ShowsBound number o b → IfSome o (λ b. b.1 / 4096 < 2 ^ 32)
      by None b is same = tt
      by (Some o) None is same = absurd same
      by (Some o) (Some b) is same =
          subst (λ (m : ℕ). m / 4096 < 2 ^ 32) (sym same.1.next) (bounds_in_order terms r log obeys one.known b (in_find (is_exchange n) one.known r.exchanges (ap (λ (es : List Exchange). find (is_exchange n) es) alike.exchanges ∙ one.there)).0 is).near

  -- ---- how much there is

  pub few_clients : HasFewClients h
  few_clients = subst (λ (n : ℕ). n ≤ 256) (ap (λ (cs : List Client). length cs) alike.clients ∙ as_many h.clients) (sound_turns terms r log obeys).bounded.clients
    where
      as_many : (cs : List Client) → length (map (regained_by h) cs) ≡ length cs
      as_many [] = refl
      as_many (c ∷ cs) = ap (λ (n : ℕ). suc n) (as_many cs)

  pub few_bodies : HasFewBodies h
  few_bodies = subst (λ (es : List Exchange). HasFewBodies (record h { exchanges = es })) alike.exchanges (sound_turns terms r log obeys).bounded.bodies

  pub placeless : (e : Exchange) → IsIn e h.exchanges → e.asker ≡ None → e.place ≡ None → is_some (filled_of e) ≡ true
  placeless e there nobodys nowhere = ap is_some ((asks_told terms r log obeys).placeless e (subst (λ (es : List Exchange). IsIn e es) (sym alike.exchanges) there) nowhere nobodys).1

pub memory_near : (terms : List Term) (log : Log) (number : ℕ → ℕ) (x : Moving) (h r : State) → Obeys terms r log → IsOfSame h r → IsDoneWithEvent number x h → x.desk.state.floor ≡ floor h → IsToLeave x h → MayLeave x h
memory_near terms log number x h r obeys alike done floor_is to =
    let follow : AllFollow x.desk.state = λ i seat at going. (done.ready i seat at going).follows in
    record {
      forgotten = to.forgotten;
      evicting = to.evicting;
      floor_is = floor_is;
      near = near terms log number x.desk.peers x.desk.state h r obeys alike done.turn follow;
      exchanges = brought_near terms log number x.desk.peers x.desk.state h r obeys alike done.turn follow;
      clients = few_clients terms log number x.desk.peers x.desk.state h r obeys alike done.turn follow;
      bodies = few_bodies terms log number x.desk.peers x.desk.state h r obeys alike done.turn follow;
      placeless = placeless terms log number x.desk.peers x.desk.state h r obeys alike done.turn follow;
    }

pub memory_may : MemoryMayBeLeft
memory_may terms log number shelf x h obeys done carried to = memory_near terms log number x h (regained h) obeys (of_itself h) done carried.set.force.floor to
