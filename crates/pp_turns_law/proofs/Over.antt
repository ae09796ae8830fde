-- An exchange is over, is taken out of its line, or is nobody's.
use Rattle.std.proofs.Common.{◌≡◌, refl, sym, subst, ap, ap₂, ◌∙◌, ℕ, suc, ◌||◌, Bool, true, false, ◌==◌, cond, find, map, List, [], ◌∷◌, Some, Option}
use Rattle.std.specs.Prelude.{option_map}
use Rattle.pp_flow_law.proofs.Ended.{ends as flow_ends}
use Rattle.pp_flow_law.proofs.Framed.{frames as flow_frames}
use Rattle.pp_flow_law.specs.Changes.{but}
use Rattle.pp_flow_law.specs.Tables.{ShowsFlow, line_in, none_leaves}
use Rattle.pp_cache_law.proofs.Finds.{find_passes}
use Rattle.pp_cache_law.proofs.Numbers.{some_is}
use Rattle.pp_flow.specs.Changes.{Exchanges, line_of}
use Rattle.pp_flow_law.proofs.Entries.{same_number}
use Rattle.pp_law.specs.Closing.{left_alone}
use Rattle.pp_law.specs.Connections.{conn, end_exchange, exchange, is_conn, on_exchange, without_ask}
use Rattle.pp_law.specs.Lists.{Bytes, change, has_number}
use Rattle.pp_law.specs.State.{State, Conn, Exchange}
use Rattle.pp_peers.specs.Peers.{is_number, with_pipe}
use Rattle.pp_peers.specs.declared.peers.Peer.{Peer}
use Rattle.pp_peers_law.specs.Peers.{ShowConns}
use Rattle.pp_desk.specs.Closings.{Sides, place_on, unasked, unasked_at, unasked_of, with_parts, withdrawn}
use Rattle.pp_states_law.proofs.Alone.{AsksOn, line_distinct, on_pipe, two_numbers}
use Rattle.pp_states_law.proofs.Ended.{as_before, ends, gone, leaves, none_out, the_table}
use Rattle.pp_states_law.proofs.Lines.{IsPlaced, all_found, same_itself}
use Rattle.pp_states_law.specs.Decisions.{AreApart}
use Rattle.pp_states_law.specs.Exchanges.{StandsNowhere}
use Rattle.pp_state.specs.Ends.{ended, left, place_of}
use Rattle.pp_states_law.proofs.Told.{exchange_next, over_next, told_left, told_next, told_over}
use Rattle.pp_states_law.specs.Steps.{ShowsSteps, whole}
use Rattle.pp_turns_law.proofs.Peers.{HasPeer, linked}
use Rattle.pp_turns_law.proofs.Shut.{Steps}
use Rattle.pp_turns_law.proofs.StandsIn.{OnlyOn, only_on}
use Rattle.pp_turns_law.proofs.Withdrawn.{conn_cut}

-- ---- an exchange is over

flow_rest : (number : ℕ → ℕ) (m : ℕ) (f : Exchanges) (s : State) → ShowsFlow number (but m none_leaves) f s → ShowsFlow number none_leaves f s
flow_rest number m f s shows = flow_frames number (but m none_leaves) f s shows none_leaves s (record { exchanges = refl; next = refl; lines = λ k. refl })

pub over_with : (number : ℕ → ℕ) (name : Bytes) (m : ℕ) (x : Sides) (s : State) (peers : List Peer) → Steps number name x s → ShowConns (end_exchange m s) peers (map (without_ask m) s.conns)
    → ShowsSteps number name none_leaves peers (ended m x.parts) (end_exchange m s)
unfolding end_exchange
over_with number name m x s peers steps conns = record {
  shows = record {
    clients = steps.shows.clients;
    exchanges = flow_rest number m (ended m x.parts).flow (end_exchange m s) (flow_ends number none_leaves x.parts.flow s steps.shows.exchanges m);
    table = the_table number name [] none_leaves (whole x.parts x.peers) s m steps.shows;
    conns = conns;
  };
  order = steps.order;
  told = told_next number x.parts.cache s.next_instance (end_exchange m s).next_instance (ended m x.parts).flow (over_next m s) (told_over number x.parts.cache s.next_instance m x.parts.flow steps.told);
  refused = steps.refused;
}

pub over_conns : (number : ℕ → ℕ) (name : Bytes) (m : ℕ) (x : Sides) (s : State) → Steps number name x s → StandsNowhere m s.conns → ShowConns (end_exchange m s) x.peers (map (without_ask m) s.conns)
unfolding end_exchange
over_conns number name m x s steps none = (ends number name [] none_leaves (whole x.parts x.peers) s steps.shows m none).conns

-- ---- it is taken out of its line

on_one_line : (m n : ℕ) (ks : List Conn) → OnlyOn m n ks → map (without_ask m) ks ≡ change (is_conn n) (without_ask m) ks
on_one_line m n [] only = refl
on_one_line m n (k ∷ ks) only = ap₂ (λ (j : Conn) (js : List Conn). j ∷ js) (by (is_conn n k) only.0) (on_one_line m n ks only.1)
  where
    by : (b : Bool) → (b ≡ false → has_number m k.line ≡ false) → without_ask m k ≡ elim b as (λ t. Conn) [ true ↦ without_ask m k | false ↦ k ]
    by true off = refl
    by false off = ap (λ (line : List ℕ). let j : Conn = record k { line = line } in j) (none_out m k.line (off refl))

place_there : (m : ℕ) (ns : List ℕ) → has_number m ns ≡ true → (i : ℕ) × (place_of m ns ≡ Some i)
place_there m [] has = absurd cc
place_there m (n ∷ ns) has = by (n == m) has (place_there m ns)
  where
    by : (b : Bool) → b || has_number m ns ≡ true → (has_number m ns ≡ true → (i : ℕ) × (place_of m ns ≡ Some i)) → (i : ℕ) × (cond b (Some 0) (option_map suc (place_of m ns)) ≡ Some i)
    by true is rest = (0, refl)
    by false is rest = let later : (i : ℕ) × (place_of m ns ≡ Some i) = rest is in (suc later.0, ap (λ (o : Option ℕ). option_map suc o) later.1)

ended_conns : (m : ℕ) (s : State) → (end_exchange m s).conns ≡ map (without_ask m) s.conns
unfolding end_exchange
ended_conns m s = refl

-- on a connection that is there
module _ (number : ℕ → ℕ) (name : Bytes) (x : Sides) (s : State) (steps : Steps number name x s) (apart : AreApart s) (m n : ℕ) (e : Exchange) (known : exchange s m ≡ Some e) (on : e.place ≡ Some n) (none : (e.asked == 0) ≡ true) (k : Conn)
    (there : conn s n ≡ Some k) (has : has_number m k.line ≡ true) where
  at : k.number ≡ n
  at = same_number k.number n (find_passes (is_conn n) s.conns k there)

  there_at : conn s k.number ≡ Some k
  there_at = ap (λ (i : ℕ). conn s i) at ∙ there

  on_it : e.place ≡ Some k.number
  on_it = on ∙ ap (λ (i : ℕ). Some i) (sym at)

  placed : IsPlaced k.number m s
  placed = record { known = e; there = known; place = on_it }

  others : AsksOn k.number s (end_exchange m s)
  others j i off other =
      as_before (exchange s i) (exchange (end_exchange m s) i)
      (gone s m i (two_numbers s m i e other.known known other.there (λ same. elsewhere (some_is j k.number (sym other.place ∙ same ∙ on_it)))))
    where
      elsewhere : j ≡ k.number → ⊥
      elsewhere same = absurd (let bad : false ≡ true = sym off ∙ ap (λ (i : ℕ). i == k.number) same ∙ same_itself k.number in cc)

  line_at_k : line_of n x.parts.flow.placed ≡ k.line
  line_at_k = steps.shows.exchanges.lines n ∙ ap (λ (o : Option Conn). line_in o) there

  pub withdraws : Steps number name (withdrawn m n x) (end_exchange m s)
  withdraws =
      let one : HasPeer s n x.peers k = linked s n x.peers s.conns k there steps.shows.conns in
      let found_at : (i : ℕ) × (place_of m k.line ≡ Some i) = place_there m k.line has in
      let here : find (is_number k.number) x.peers ≡ Some one.peer = ap (λ (i : ℕ). find (is_number i) x.peers) at ∙ one.there in
      let line : place_on n m x.parts.flow ≡ Some found_at.0 = ap (λ (ns : List ℕ). place_of m ns) line_at_k ∙ found_at.1 in
      let shown : ShowConns (end_exchange m s) (with_pipe k.number (unasked found_at.0 one.peer.pipe) x.peers) (end_exchange m s).conns =
      on_pipe number name [] none_leaves (whole x.parts x.peers) s (end_exchange m s) one.peer (unasked found_at.0 one.peer.pipe) k (without_ask m) steps.shows apart here there_at others
      (ended_conns m s ∙ on_one_line m k.number s.conns (only_on number x.parts.flow s steps.shows.exchanges m k.number placed s.conns (all_found s apart)))
      (conn_cut s m found_at.0 one.peer k e known none (line_distinct number none_leaves x.parts.flow s k steps.shows.exchanges there_at) found_at.1) in
      subst (λ (peers : List Peer). ShowsSteps number name none_leaves peers (ended m x.parts) (end_exchange m s))
      (ap (λ (i : ℕ). with_pipe i (unasked found_at.0 one.peer.pipe) x.peers) at
      ∙ sym (ap (λ (o : Option Peer). unasked_of n found_at.0 o x.peers) one.there)
      ∙ sym (ap (λ (o : Option ℕ). unasked_at n o x.peers) line))
      (over_with number name m x s (with_pipe k.number (unasked found_at.0 one.peer.pipe) x.peers) steps (subst (λ (ks : List Conn). ShowConns (end_exchange m s) (with_pipe k.number (unasked found_at.0 one.peer.pipe) x.peers) ks) (ended_conns m s) shown))

-- ---- it is nobody's

pub left_clients : (m : ℕ) (s : State) → (on_exchange m left_alone s).clients ≡ s.clients
unfolding on_exchange
left_clients m s = refl

pub left_conns : (m : ℕ) (s : State) → (on_exchange m left_alone s).conns ≡ s.conns
unfolding on_exchange
left_conns m s = refl

pub alone : (number : ℕ → ℕ) (name : Bytes) (m : ℕ) (x : Sides) (s : State) → Steps number name x s → Steps number name (with_parts (left m) x) (on_exchange m left_alone s)
alone number name m x s steps = record {
  shows = leaves number name [] none_leaves (whole x.parts x.peers) s steps.shows m;
  order = steps.order;
  told = told_next number x.parts.cache s.next_instance (on_exchange m left_alone s).next_instance (left m x.parts).flow (exchange_next m left_alone s) (told_left number x.parts.cache s.next_instance m x.parts.flow steps.told);
  refused = steps.refused;
}
