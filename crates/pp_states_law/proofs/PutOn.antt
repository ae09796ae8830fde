-- An exchange gets a place.
use Rattle.std.proofs.Common.{◌≡◌, refl, sym, subst, ap, ◌∙◌, ℕ, Bool, true, false, not, ◌==◌, find, List, [], ◌∷◌, ◌++◌, Some, Option}
use Rattle.std.specs.Prelude.{is_some}
use Rattle.pp_cache_law.proofs.Framing.{frames_of, the_same}
use Rattle.pp_cache_law.specs.Pairs.{AreBoth}
use Rattle.pp_cache_law.specs.Tables.{ShowsCache}
use Rattle.pp_flow.specs.Changes.{Exchanges}
use Rattle.pp_flow.specs.declared.entry.Entry.{Entry}
use Rattle.pp_flow_law.proofs.Put.{puts as flow_puts}
use Rattle.pp_flow_law.proofs.Standing.{waits_has}
use Rattle.pp_flow_law.specs.Tables.{Leaving, ShowsFlow, line_in}
use Rattle.pp_law.specs.Connections.{exchange, is_conn, on_conn, on_exchange, put_on}
use Rattle.pp_law.specs.Lists.{Bytes, change, has_number}
use Rattle.pp_law.specs.Responses.{asks_head}
use Rattle.pp_law.specs.State.{State, Client, Conn, Exchange}
use Rattle.pp_peers.specs.declared.peers.Peer.{Peer}
use Rattle.pp_peers_law.proofs.Finds.{find_elsewhere}
use Rattle.pp_peers_law.proofs.LineEnds.{puts as line_puts}
use Rattle.pp_peers_law.specs.Peers.{ShowsConn}
use Rattle.pp_pipe.specs.Line.{pushed}
use Rattle.pp_seats_law.specs.Clients.{AreShown}
use Rattle.pp_states_law.specs.Asks.{IsAskedAs}
use Rattle.pp_states_law.specs.Puts.{IsPut, PutsAreTheLaws}
use Rattle.pp_states_law.specs.States.{Parts, ShowsState}
use Rattle.pp_states_law.proofs.Alone.{AsksOn, on_pipe, same_some, two_numbers}
use Rattle.pp_states_law.proofs.Asked.{itself}
use Rattle.pp_states_law.proofs.Lines.{IsPlaced, in_line}

-- ---- who waits for a place stands in no line

elsewhere : (n k m : ℕ) (s : State) → (n == m) ≡ false → exchange (put_on n k s) m ≡ exchange s m
unfolding put_on on_conn on_exchange
elsewhere n k m s isnt = find_elsewhere n m (λ e. record e { place = Some k; asked = 0 }) (λ e. refl) isnt s.exchanges

has_both : (b : Bool) → not b ≡ true → b ≡ true → ⊥
has_both true one other = let both : false ≡ true = one in absurd cc
has_both false one other = absurd cc

apart : (number : ℕ → ℕ) (l : Leaving) (f : Exchanges) (s : State) (n k m : ℕ) (x : Entry) (e : Exchange) → ShowsFlow number l f s → find (λ (y : Entry). y.exchange.number == n) f.waiting ≡ Some x → exchange s n ≡ Some e → IsPlaced k m s → (n == m) ≡ false
apart number l f s n k m x e shows waits known placed =
    two_numbers s n m e placed.known known placed.there
    (λ same. has_both (is_some e.place) (waits_has number l f s shows n x e waits known) (ap (λ (o : Option ℕ). is_some o) (sym same ∙ placed.place)))

-- ---- the parts

put_rest : (n k : ℕ) (s : State) → ((put_on n k s).clients ≡ s.clients) × ((put_on n k s).conns ≡ change (is_conn k) (λ j. record j { line = j.line ++ n ∷ [] }) s.conns)
unfolding put_on on_conn on_exchange
put_rest n k s = (refl, refl)

put_table : (number : ℕ → ℕ) (p : Parts) (s : State) (n k : ℕ) → ShowsCache number p.memory s → ShowsCache number p.memory (put_on n k s)
unfolding put_on on_conn on_exchange
put_table number p s n k shows =
    frames_of number p.memory s shows p.memory (put_on n k s) (record { instances = refl; lives = refl; chunks = refl; extents = refl })
    (record { instances = refl; made = the_same s.next_instance; chunks = refl; followers = λ id. refl; kept = λ x. refl })

put_conn : (number : ℕ → ℕ) (name : Bytes) (owed : List Bytes) (l : Leaving) (p : Parts) (s : State) (x : Entry) (e : Exchange) (peer : Peer) (k : Conn) → ShowsState number name owed l p s → IsPut p s x e peer k → ShowsConn s peer k
    → ShowsConn (put_on e.number k.number s) (record peer { pipe = pushed e.text (asks_head e) peer.pipe }) (record k { line = k.line ++ e.number ∷ [] })
put_conn number name owed l p s x e peer k shows put shown = record {
  number = shown.number;
  host = shown.host;
  port = shown.port;
  is_reached = shown.is_reached;
  has_brought = shown.has_brought;
  may_pipeline = shown.may_pipeline;
  is_closing = shown.is_closing;
  stays = shown.stays;
  mark = shown.mark;
  has_waited = shown.has_waited;
  pipe = λ goes. line_puts s peer k e shown put.goes_on (record { there = put.known; is_new = none (has_number e.number k.line) refl; with_others = put.with_others });
}
  where
    in_it : has_number e.number k.line ≡ true → IsPlaced k.number e.number s
    in_it has = in_line number l p.flow s shows.exchanges k.number e.number (ap (λ (o : Option Conn). has_number e.number (line_in o)) put.there ∙ has)

    none : (b : Bool) → has_number e.number k.line ≡ b → b ≡ false
    none false is = refl
    none true is =
        let placed : IsPlaced k.number e.number s = in_it is in
        absurd (has_both (is_some e.place) (waits_has number l p.flow s shows.exchanges e.number x e put.waits put.known)
        (ap (λ (d : Exchange). is_some d.place) (same_some placed.known e (exchange s e.number) placed.there put.known) ∙ ap (λ (o : Option ℕ). is_some o) placed.place))

pub puts : PutsAreTheLaws
puts number name owed l p s shows x e peer k alone put = record {
  clients = subst (λ (cs : List Client). AreShown number name owed p.seats cs) (sym (put_rest e.number k.number s).0) shows.clients;
  exchanges = flow_puts number l p.flow s shows.exchanges e.number x k put.waits put.there;
  table = put_table number p s e.number k.number shows.table;
  conns =
      on_pipe number name owed l p s t peer (pushed e.text (asks_head e) peer.pipe) k (λ j. record j { line = j.line ++ e.number ∷ [] }) shows alone put.linked put.there as_before (put_rest e.number k.number s).1
      (put_conn number name owed l p s x e peer k shows put);
}
  where
    t : State
    t = put_on e.number k.number s

    as_before : AsksOn k.number s t
    as_before j m off placed =
        subst (λ (o : Option Exchange). AreBoth IsAskedAs (exchange s m) o) (sym (elsewhere e.number k.number m s (apart number l p.flow s e.number j m x e shows.exchanges put.waits put.known placed))) (itself (exchange s m))
