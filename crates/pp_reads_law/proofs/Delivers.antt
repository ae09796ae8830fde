-- Data of a response go where the law has them go.
use Rattle.std.proofs.Common.{◌≡◌, ◌≤◌, refl, sym, subst, ap, ap₂, ◌∙◌, ℕ, ◌+◌, Bool, true, false, ◌||◌, find, List, [], ◌∷◌, Option, Some, None, arith}
use Rattle.std.specs.Prelude.{count_by, slice_get}
use Rattle.pp_bodies_law.proofs.Delivered.{delivers}
use Rattle.pp_bodies_law.specs.Bytes.{FindsRoom, IsToJoin}
use Rattle.pp_cache_law.proofs.Finds.{find_passes}
use Rattle.pp_cache_law.proofs.PairLemmas.{count_joined}
use Rattle.pp_cache_law.specs.Joins.{EndsWhole, added_behind}
use Rattle.pp_flow.specs.Changes.{line_of}
use Rattle.pp_flow.specs.Entries.{is_number}
use Rattle.pp_flow_law.proofs.Entries.{same_number}
use Rattle.pp_flow_law.specs.Tables.{Leaving, line_in, none_leaves}
use Rattle.pp_law.specs.Chunks.{joined, note_use}
use Rattle.pp_law.specs.Connections.{exchange, front_of_line, is_client, is_exchange, is_for, on_client_of, on_exchange}
use Rattle.pp_law.specs.Lists.{Bytes, change, has_number}
use Rattle.pp_law.specs.OwnHeads.{first_offset, join, join_bound, moved_on, note_own, note_sent, sent_as}
use Rattle.pp_law.specs.Passing.{pour, poured}
use Rattle.pp_law.specs.Responses.{deliver}
use Rattle.pp_law.specs.Stages.{bound_of, on_passed}
use Rattle.pp_law.specs.State.{State, Answer, Aim, Own, Through, Filling, Body, Pending, Joining, Relaying, Dropping, Bound, Brought, Awaited, Useless, Joins, Passes, TooWide, Client, Conn, Exchange, Instance as Known, Sent}
use Rattle.pp_law.specs.Table.{extent_of, instance, is_instance}
use Rattle.pp_origins.specs.Gots.{Delivers, DeliversTo}
use Rattle.pp_peers.specs.declared.peers.Peer.{Peer}
use Rattle.pp_seats_law.specs.Exchanges.{Binding}
use Rattle.pp_state.specs.Bodies.{IsButForCells, delivered, poured_for}
use Rattle.pp_state.specs.Ends.{exchange_at, parts}
use Rattle.pp_state.specs.Lines.{first_on}
use Rattle.pp_state.specs.declared.state.State.{State as Turn}
use Rattle.pp_states_law.proofs.Framed.{states}
use Rattle.pp_states_law.proofs.Lines.{IsOn, found_on, same_itself}
use Rattle.pp_states_law.specs.Frames.{IsSameState}
use Rattle.pp_states_law.specs.Steps.{ShowsSteps, whole}
use Rattle.pp_states_law.specs.Told.{AreTold}
use Rattle.pp_text.specs.Bytes.{is_empty}
use Rattle.pp_reads_law.proofs.Fronts.{IsFront, is_front}
use Rattle.pp_reads_law.specs.Bads.{IsOpen}
use Rattle.pp_reads_law.specs.Data.{DataComeAsTheLaws, FindsPlace}

-- ---- what shows a state shows another that is the same but for what is no part of it

steps_as : (number : ℕ → ℕ) (name : Bytes) (l : Leaving) (peers : List Peer) (p : Turn) (s t : State) → IsSameState s t → ShowsSteps number name l peers (parts p) s → ShowsSteps number name l peers (parts p) t
steps_as number name l peers p s t same shows = record {
  shows = states number name [] l (whole (parts p) peers) s shows.shows t same;
  order = shows.order;
  told = subst (λ (n : ℕ). AreTold number p.cache n p.flow) (sym same.next_instance) shows.told;
  refused = shows.refused;
}

sent_same : (s : State) (sent : List Sent) → IsSameState s (record s { sent = sent })
sent_same s sent = record { clients = refl; conns = refl; exchanges = refl; next_exchange = refl; instances = refl; next_instance = refl; chunks = refl; kept = λ x. refl }

as_it_was : (s : State) → IsSameState s s
as_it_was s = record { clients = refl; conns = refl; exchanges = refl; next_exchange = refl; instances = refl; next_instance = refl; chunks = refl; kept = λ x. refl }

own_same : (e : Exchange) (a : Answer) (at : ℕ) (bytes : Bytes) (s : State) → IsSameState s (note_own e a at bytes s)
unfolding note_own
own_same e a at bytes s = by (is_empty bytes)
  where
    by : (b : Bool) → IsSameState s (elim b as (λ t. State) [ true ↦ s | false ↦ record s { sent = sent_as e (first_offset a.head + at) bytes a.version s.sent } ])
    by true = as_it_was s
    by false = sent_same s (sent_as e (first_offset a.head + at) bytes a.version s.sent)

noted_same : (e : Exchange) (a : Answer) (at : ℕ) (bytes : Bytes) (s : State) → IsSameState s (note_sent e a at bytes s)
unfolding note_sent
noted_same e a at bytes s = by e.aim
  where
    by : (aim : Aim) → IsSameState s (elim aim as (λ t. State) [ Through ↦ s | Own ↦ note_own e a at bytes s | Filling v from to ↦ note_own e a at bytes s ])
    by Through = as_it_was s
    by Own = own_same e a at bytes s
    by (Filling v from to) = own_same e a at bytes s

-- ---- none came

change_same : {A : Type 0} (q : A → Bool) (f : A → A) → ((x : A) → f x ≡ x) → (xs : List A) → change q f xs ≡ xs
change_same q f same [] = refl
change_same {A = A} q f same (x ∷ xs) = ap₂ (λ (y : A) (ys : List A). y ∷ ys) (by (q x)) (change_same q f same xs)
  where
    by : (b : Bool) → (elim b as (λ t. A) [ true ↦ f x | false ↦ x ]) ≡ x
    by true = same x
    by false = refl

none_poured : (c : Client) → on_passed (λ p. record p { pipe = poured [] p.pipe }) c ≡ c
none_poured c = by c.brought
  where
    by : (b : Brought) → on_passed (λ p. record p { pipe = poured [] p.pipe }) (record c { brought = b }) ≡ record c { brought = b }
    by Awaited = refl
    by Useless = refl
    by (Joins id plain) = refl
    by (Passes p) = refl
    by TooWide = refl

none_moved : (e : Exchange) → moved_on 0 e ≡ e
none_moved e = by e.body
  where
    none_more : (n : ℕ) → n + 0 ≡ n
    none_more n = omega arith

    by : (body : Body) → moved_on 0 (record e { body = body }) ≡ record e { body = body }
    by Pending = refl
    by (Joining b) = ap (λ (n : ℕ). let d : Exchange = record e { body = Joining (record b { next = n }) } in d) (none_more b.next)
    by Relaying = refl
    by Dropping = refl

same_then : (s t u : State) → IsSameState s t → IsSameState t u → IsSameState s u
same_then s t u one two = record {
  clients = two.clients ∙ one.clients;
  conns = two.conns ∙ one.conns;
  exchanges = two.exchanges ∙ one.exchanges;
  next_exchange = two.next_exchange ∙ one.next_exchange;
  instances = two.instances ∙ one.instances;
  next_instance = two.next_instance ∙ one.next_instance;
  chunks = two.chunks ∙ one.chunks;
  kept = λ x. two.kept x ∙ one.kept x;
}

none_joined : (b : Bound) (s : State) → IsSameState s (join b [] s)
unfolding join
none_joined b s = as_it_was s

none_moves : (n : ℕ) (s : State) → IsSameState s (on_exchange n (moved_on 0) s)
unfolding on_exchange
none_moves n s = record { clients = refl; conns = refl; exchanges = change_same (is_exchange n) (moved_on 0) none_moved s.exchanges; next_exchange = refl; instances = refl; next_instance = refl; chunks = refl; kept = λ x. refl }

none_bound : (e : Exchange) (s : State) → IsSameState s (join_bound e [] s)
unfolding join_bound
none_bound e s = by (bound_of e)
  where
    by : (o : Option Bound) → IsSameState s (elim o as (λ t. State) [ None ↦ s | Some b ↦ on_exchange e.number (moved_on 0) (join b [] s) ])
    by None = as_it_was s
    by (Some b) = same_then s (join b [] s) (on_exchange e.number (moved_on 0) (join b [] s)) (none_joined b s) (none_moves e.number (join b [] s))

none_passed : (e : Exchange) (s : State) → IsSameState s (pour e (poured []) s)
unfolding pour on_client_of
none_passed e s = record { clients = change_same (is_for e) (on_passed (λ p. record p { pipe = poured [] p.pipe })) none_poured s.clients; conns = refl; exchanges = refl; next_exchange = refl; instances = refl; next_instance = refl; chunks = refl; kept = λ x. refl }

none_delivered : (e : Exchange) (a : Answer) (at : ℕ) (s : State) → IsSameState s (deliver e a at [] s)
unfolding deliver
none_delivered e a at s =
    let t : State = note_sent e a at [] s in
    same_then s (join_bound e [] t) (pour e (poured []) (join_bound e [] t)) (same_then s t (join_bound e [] t) (noted_same e a at [] s) (none_bound e t)) (none_passed e (join_bound e [] t))

-- ---- some came

module _ (number : ℕ → ℕ) (name : Bytes) (peers : List Peer) (p q : Turn) (s : State) (n : ℕ) (k : Conn) (e : Exchange) (a : Answer) (at b : ℕ) (bytes : Bytes) (shows : ShowsSteps number name none_leaves peers (parts p) s) (is : IsOpen s n k) (front : front_of_line s k ≡ Some e) (finds : FindsPlace p s e (b ∷ bytes)) where
  abbrev first : IsFront s k e
  first = is_front s k e front

  line_is : line_of n p.flow.placed ≡ e.number ∷ first.others
  line_is = shows.shows.exchanges.lines n ∙ ap (λ (o : Option Conn). line_in o) is.there ∙ first.line

  placed_few : count_by (is_number e.number) p.flow.placed ≤ 1
  placed_few = omega (arith, shows.shows.exchanges.once e.number, count_joined (is_number e.number) p.flow.waiting p.flow.placed)

  on : IsOn n e.number p.flow.placed
  on = found_on n e.number p.flow.placed placed_few (ap (λ (ns : List ℕ). has_number e.number ns) line_is ∙ ap (λ (c : Bool). c || has_number e.number first.others) (same_itself e.number))

  abbrev t : State
  t = note_sent e a at (b ∷ bytes) s

  same : IsSameState s t
  same = noted_same e a at (b ∷ bytes) s

  known : exchange t e.number ≡ Some e
  known = ap (λ (es : List Exchange). find (is_exchange e.number) es) same.exchanges ∙ first.known

  number_so : on.entry.exchange.number ≡ e.number
  number_so = same_number on.entry.exchange.number e.number (find_passes (is_number e.number) p.flow.placed on.entry on.there)

  joins_as : (o : Option Binding) (u : Option Bound) → IsToJoin o u p.cache s (b ∷ bytes) → IsToJoin o u p.cache t (b ∷ bytes)
  joins_as None u may = tt
  joins_as (Some x) None may = tt
  joins_as (Some x) (Some c) may = (may.0, λ y there. room y (may.1 y (sym (ap (λ (xs : List Known). find (is_instance c.instance) xs) same.instances) ∙ there)))
    where
      room : (y : Known) → FindsRoom p.cache s x.0 c (b ∷ bytes) y → FindsRoom p.cache t x.0 c (b ∷ bytes) y
      room y found = record {
        kept = subst (λ (m : ℕ). EndsWhole m y.version.length) (sym (same.kept y)) found.kept;
        within = found.within;
        room = ap (λ (m : ℕ). (added_behind m p.cache.size x.0.slot c.next (b ∷ bytes) p.cache.chunks).need_chunk) (same.kept y) ∙ found.room;
      }

  came : DeliversTo (first_on n (parts p)) (b ∷ bytes) p q → ShowsSteps number name none_leaves peers (parts q) (deliver e a at (b ∷ bytes) s)
  unfolding deliver
  came it =
      delivers number name none_leaves peers p t (steps_as number name none_leaves peers p s t same shows) q on.entry e (b ∷ bytes)
      (record {
        placed = ap (λ (m : ℕ). find (is_number m) p.flow.placed) number_so ∙ on.there;
        known = ap (λ (m : ℕ). exchange t m) number_so ∙ known;
        joins = joins_as on.entry.exchange.bound (bound_of e) (finds.joins on.entry on.there);
      })
      (λ m c asks found. finds.fits m c asks (sym (ap (λ (cs : List Client). find (is_client m) cs) same.clients) ∙ found))
      (its.seats ∙ ap (λ (m : ℕ). poured_for (exchange_at m p.flow) (b ∷ bytes) p.seats.items) (sym number_so))
      (subst (λ (m : ℕ). IsButForCells (delivered m (b ∷ bytes) p) (record q { seats = p.seats })) (sym number_so) its.rest)
    where
      its : Delivers e.number (b ∷ bytes) p q
      its = subst (λ (o : Option ℕ). DeliversTo o (b ∷ bytes) p q) (ap (λ (ns : List ℕ). slice_get ns 0) line_is) it

pub data_come : DataComeAsTheLaws
data_come number name peers p q s n k e a at [] shows is front may it =
    subst (λ (r : Turn). ShowsSteps number name none_leaves peers (parts r) (deliver e a at [] s)) (sym it) (steps_as number name none_leaves peers p s (deliver e a at [] s) (none_delivered e a at s) shows)
data_come number name peers p q s n k e a at (b ∷ bytes) shows is front may it = came number name peers p q s n k e a at b bytes shows is front may it
