-- What a turn shows stays where nothing of it changes, in the program or in the law.
use Rattle.std.proofs.Common.{◌≡◌, ◌≤◌, refl, sym, subst, ap, ◌∙◌, ℕ, false, ◌==◌, find, length, map, List, [], ◌∷◌, Option, Some, None}
use Rattle.std.specs.List.{All}
use Rattle.std.specs.Prelude.{count_by, option_map, slice_get}
use Rattle.pp_cache.specs.Bounds.{IsBounded}
use Rattle.pp_cache_law.proofs.Finds.{find_mapped}
use Rattle.pp_cache_law.proofs.Numbers.{some_is}
use Rattle.pp_cache_law.proofs.PairLemmas.{count_mapped_same}
use Rattle.pp_turns_law.proofs.Orderly.{mapped}
use Rattle.pp_turns_law.specs.Log.{AreLinked}
use Rattle.pp_turns_law.specs.Sides.{AreOrderly, IsOrderly, MayClose}
use Rattle.pp_desk.specs.Closings.{peer_numbers, sides}
use Rattle.pp_desk.specs.declared.desk.Desk.{Desk}
use Rattle.pp_endings_law.specs.Replies.{ShowsDesk}
use Rattle.pp_flow_law.proofs.Entries.{none_some}
use Rattle.pp_flow_law.specs.Tables.{AreGiven, none_leaves}
use Rattle.pp_law.specs.Connections.{exchange, is_client, is_conn, is_exchange}
use Rattle.pp_law.specs.Lists.{Bytes, has_number}
use Rattle.pp_law.specs.State.{State, Client, Conn, Exchange}
use Rattle.pp_links.specs.Links.{Link}
use Rattle.pp_obeys.specs.Failures.{wakes}
use Rattle.pp_obeys.specs.Moves.{Goes, Leads}
use Rattle.pp_peers.specs.declared.peers.Peer.{Peer}
use Rattle.pp_proxy.specs.Moving.{Moving}
use Rattle.pp_seats.specs.declared.seat.Seat.{Seat}
use Rattle.pp_state.specs.Ends.{Parts, numbers_of, parts}
use Rattle.pp_state.specs.declared.state.State.{State as Turn}
use Rattle.pp_states_law.proofs.Framed.{states}
use Rattle.pp_states_law.specs.Frames.{IsSameState}
use Rattle.pp_states_law.proofs.Kept.{GoesThrough}
use Rattle.pp_states_law.proofs.Told.{told_next}
use Rattle.pp_states_law.specs.Charges.{GoesOn}
use Rattle.pp_states_law.specs.Lines.{AllGo}
use Rattle.pp_states_law.specs.Losses.{IsComing}
use Rattle.pp_states_law.specs.Steps.{ShowsSteps, whole}
use Rattle.pp_turns_law.specs.Firsts.{AreAwake, IsAsleep}
use Rattle.pp_turns_law.specs.Turns.{ShowsTurn}
use Rattle.pp_world.specs.declared.happening.Happening.{Happening}
use Rattle.pp_events_law.specs.Stands.{AreClients, AreOpen}

-- ---- a turn, by its steps and by what it knows beside them

pub record HasWords (p : Turn) (s : State) : Type 0 where
  pub name : p.name.items ≡ s.settings.name
  pub shares : p.shares_fetches ≡ s.settings.shares_fetches
  pub clock : p.now ≡ s.clock
  pub ticked : p.is_ticked ≡ s.is_ticked
  pub stopped : p.is_stopped ≡ s.is_stopped

pub turn_by : (number : ℕ → ℕ) (peers : List Peer) (q : Turn) (t : State) → HasWords q t → IsBounded q.cache → ShowsSteps number q.name.items none_leaves peers (parts q) t → ShowsTurn number none_leaves peers q t
turn_by number peers q t words bounded steps = record { steps = steps; name = words.name; shares = words.shares; clock = words.clock; ticked = words.ticked; stopped = words.stopped; bounded = bounded }

-- the same of a desk
pub desk_by : (number : ℕ → ℕ) (d e : Desk) (t : State) → e.state.name.items ≡ d.state.name.items → HasWords e.state t → IsBounded e.state.cache → ShowsSteps number d.state.name.items none_leaves (sides e).peers (sides e).parts t → MayClose t → ShowsDesk number e t
desk_by number d e t name words bounded steps may = record {
  turn = turn_by number e.peers e.state t words bounded (subst (λ (text : Bytes). ShowsSteps number text none_leaves e.peers (parts e.state) t) (sym name) steps);
  may = may;
}

pub steps_as : (number : ℕ → ℕ) (name : Bytes) (peers : List Peer) (p : Parts) (s t : State) → IsSameState s t → ShowsSteps number name none_leaves peers p s → ShowsSteps number name none_leaves peers p t
steps_as number name peers p s t same shows = record {
  shows = states number name [] none_leaves (whole p peers) s shows.shows t same;
  order = shows.order;
  told = told_next number p.cache s.next_instance t.next_instance p.flow same.next_instance shows.told;
  refused = shows.refused;
}

-- ---- who is looked at

pub awake_as : (p q : Turn) → q.seats.items ≡ p.seats.items → q.awake.items ≡ p.awake.items → q.is_ticked ≡ p.is_ticked → AreAwake p → AreAwake q
awake_as p q seats awake ticked are = record {
  order = subst (λ (ss : List Seat). AreGiven 0 (length ss) q.awake.items) (sym seats) (subst (λ (ns : List ℕ). AreGiven 0 (length p.seats.items) ns) (sym awake) are.order);
  others = λ j seat here none.
      let one : IsAsleep p seat = are.others j seat (ap (λ (ss : List Seat). slice_get ss j) (sym seats) ∙ here) (ap (λ (ns : List ℕ). has_number j ns) (sym awake) ∙ none) in
      record { silent = one.silent; ticked = ticked ∙ one.ticked };
}

-- ---- the connections that are open

pub open_as : (x y : Moving) (top later : ℕ) → numbers_of y.desk.state.seats.items ≡ numbers_of x.desk.state.seats.items → peer_numbers y.desk.peers ≡ peer_numbers x.desk.peers → y.links ≡ x.links → y.top ≡ x.top → later ≡ top → AreOpen x top → AreOpen y later
open_as x y top later seats peers links given same opened = record {
  clients = subst (λ (ls : List Link). AreClients (numbers_of y.desk.state.seats.items) ls) (sym links) (subst (λ (ns : List ℕ). AreClients ns x.links) (sym seats) opened.clients);
  origins = subst (λ (ls : List Link). AreLinked (peer_numbers y.desk.peers) ls) (sym links) (subst (λ (ns : List ℕ). AreLinked ns x.links) (sym peers) opened.origins);
  given = subst (λ (ls : List Link). All (λ link. link.0 ≤ y.top) ls) (sym links) (subst (λ (n : ℕ). All (λ link. link.0 ≤ n) x.links) (sym given) opened.given);
  top = subst (λ (n : ℕ). n ≤ y.top) (sym same) (subst (λ (n : ℕ). top ≤ n) (sym given) opened.top);
}

-- ---- the clients of exchanges go on

-- all clients are changed, and none of its number, nor of whether it goes on
pub go_through : (h : Client → Client) → GoesThrough h → (s t : State) → t.clients ≡ map h s.clients → t.exchanges ≡ s.exchanges → AllGo s → AllGo t
go_through h keeps s t clients exchanges all = record {
  going = λ n e there m c asks found. (was m c (find (is_client m) s.clients) refl (sought m c found)).0 (λ b here. all.going n e (before n e there) m b asks here);
  coming = λ n e there m c asks found. (was m c (find (is_client m) s.clients) refl (sought m c found)).1 (λ b here. all.coming n e (before n e there) m b asks here);
}
  where
    before : (n : ℕ) (e : Exchange) → exchange t n ≡ Some e → exchange s n ≡ Some e
    before n e there = sym (ap (λ (es : List Exchange). find (is_exchange n) es) exchanges) ∙ there

    sought : (m : ℕ) (c : Client) → find (is_client m) t.clients ≡ Some c → option_map h (find (is_client m) s.clients) ≡ Some c
    sought m c found = sym (ap (λ (cs : List Client). find (is_client m) cs) clients ∙ find_mapped (is_client m) h s.clients (λ d. ap (λ (i : ℕ). i == m) (keeps.number d))) ∙ found

    was : (m : ℕ) (c : Client) (o : Option Client) → find (is_client m) s.clients ≡ o → option_map h o ≡ Some c
        → (((b : Client) → find (is_client m) s.clients ≡ Some b → GoesOn b) → GoesOn c) × (((b : Client) → find (is_client m) s.clients ≡ Some b → IsComing b) → IsComing c)
    was m c None is found = absurd (none_some c found)
    was m c (Some b) is found =
        let same : h b ≡ c = some_is (h b) c found in
        (λ on. subst (λ (d : Client). GoesOn d) same (keeps.goes b (on b is)), λ on. subst (λ (d : Client). IsComing d) same (keeps.comes b (on b is)))

pub go_as : (s t : State) → t.clients ≡ s.clients → t.exchanges ≡ s.exchanges → AllGo s → AllGo t
go_as s t clients exchanges all = record {
  going = λ n e there m c asks found. all.going n e (before n e there) m c asks (sought m c found);
  coming = λ n e there m c asks found. all.coming n e (before n e there) m c asks (sought m c found);
}
  where
    before : (n : ℕ) (e : Exchange) → exchange t n ≡ Some e → exchange s n ≡ Some e
    before n e there = sym (ap (λ (es : List Exchange). find (is_exchange n) es) exchanges) ∙ there

    sought : (m : ℕ) (c : Client) → find (is_client m) t.clients ≡ Some c → find (is_client m) s.clients ≡ Some c
    sought m c found = sym (ap (λ (cs : List Client). find (is_client m) cs) clients) ∙ found

-- ---- what closings rest on

pub record GoesOnLine (g : Conn → Conn) : Type 0 where
  pub number : (k : Conn) → (g k).number ≡ k.number
  pub orderly : (k : Conn) → IsOrderly k → IsOrderly (g k)

pub may_by : (s t : State) (g : Conn → Conn) → GoesOnLine g → t.conns ≡ map g s.conns → AllGo t → MayClose s → MayClose t
may_by s t g keeps conns go may = record {
  apart = λ n. subst (λ (ks : List Conn). count_by (is_conn n) ks ≤ 1) (sym conns) (subst (λ (i : ℕ). i ≤ 1) (sym (count_mapped_same (is_conn n) g s.conns (λ k. ap (λ (i : ℕ). i == n) (keeps.number k)))) (may.apart n));
  orderly = subst (λ (ks : List Conn). AreOrderly ks) (sym conns) (mapped g keeps.orderly s.conns may.orderly);
  go = go;
}

pub may_as : (s t : State) → t.clients ≡ s.clients → t.exchanges ≡ s.exchanges → t.conns ≡ s.conns → MayClose s → MayClose t
may_as s t clients exchanges conns may = record {
  apart = λ n. subst (λ (ks : List Conn). count_by (is_conn n) ks ≤ 1) (sym conns) (may.apart n);
  orderly = subst (λ (ks : List Conn). AreOrderly ks) (sym conns) may.orderly;
  go = go_as s t clients exchanges may.go;
}

-- ---- one happening

pub one_leads : (s t : State) (h : Happening) → wakes h ≡ false → Goes s h t → Leads (h ∷ []) s t
one_leads s t h awake goes = record { awake = awake; may = goes.may; holds = goes.leads }
