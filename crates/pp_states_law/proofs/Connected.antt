-- One connection is changed.
use Rattle.std.proofs.Common.{◌≡◌, ◌≤◌, ◌+◌, refl, sym, subst, ap, ◌∙◌, ℕ, Bool, true, false, ◌==◌, cond, find, List, [], ◌∷◌, ◌++◌, Some, None, Option, arith}
use Rattle.std.specs.Prelude.{count_by, option_map}
use Rattle.pp_cache_law.proofs.Finds.{find_mapped}
use Rattle.pp_cache_law.proofs.Framing.{frames_of, the_same}
use Rattle.pp_cache_law.proofs.PairLemmas.{count_first}
use Rattle.pp_cache_law.specs.Tables.{ShowsCache}
use Rattle.pp_flow_law.proofs.Framed.{closings as flow_closings, frames as flow_frames}
use Rattle.pp_flow_law.specs.Frames.{emptied, still}
use Rattle.pp_flow_law.specs.Tables.{Leaving, ShowsFlow, line_at, line_in}
use Rattle.pp_law.specs.Connections.{conn, exchange, is_conn, on_conn}
use Rattle.pp_law.specs.Lists.{Bytes, change}
use Rattle.pp_law.specs.State.{State, Answer, Client, Conn}
use Rattle.pp_law.specs.Turn.{marked_conn}
use Rattle.pp_peers.specs.Peers.{is_number, with_peer}
use Rattle.pp_peers.specs.declared.peers.Peer.{Peer}
use Rattle.pp_peers_law.specs.Peers.{has_alone, rests_of, ShowsConn, ShowConns, ShowsLine, ShowsPipe, ShowsReading}
use Rattle.pp_pipe.specs.Line.{Line}
use Rattle.pp_seats_law.specs.Clients.{AreShown}
use Rattle.pp_states_law.specs.Asks.{AllAreAskedAs}
use Rattle.pp_states_law.specs.Conns.{ChangesAreTheLaws, ClosingsAreTheLaws, GoesOnAs, MarksAreTheLaws, ReachedAreTheLaws}
use Rattle.pp_states_law.specs.States.{Parts, ShowsState}
use Rattle.pp_states_law.proofs.Asked.{all_as, conn_again, itself, line_as}

abbrev changed_if : ℕ → (Conn → Conn) → Conn → Conn
changed_if n to k = elim (is_conn n k) as (λ b. Conn) [ true ↦ to k | false ↦ k ]

-- none has that number: none is changed
none_changed : (s t : State) (n : ℕ) (to : Conn → Conn) (ps : List Peer) (ks : List Conn) → count_by (is_conn n) ks ≡ 0 → AllAreAskedAs s t ks → ShowConns s ps ks → ShowConns t ps (change (is_conn n) to ks)
none_changed s t n to [] [] none same shows = tt
none_changed s t n to [] (k ∷ ks) none same shows = absurd shows
none_changed s t n to (p ∷ ps) [] none same shows = absurd shows
none_changed s t n to (p ∷ ps) (k ∷ ks) none same shows = by (is_conn n k) (sym (count_first (is_conn n) k ks) ∙ none) (none_changed s t n to ps ks)
  where
    by : (b : Bool) → cond b 1 0 + count_by (is_conn n) ks ≡ 0 → (count_by (is_conn n) ks ≡ 0 → AllAreAskedAs s t ks → ShowConns s ps ks → ShowConns t ps (change (is_conn n) to ks))
        → ShowConns t (p ∷ ps) ((elim b as (λ b. Conn) [ true ↦ to k | false ↦ k ]) ∷ change (is_conn n) to ks)
    by true few rest = absurd (omega (arith, few))
    by false few rest = (conn_again s t p k same.0 shows.0, rest (omega (arith, few)) same.1 shows.1)

pub changes : ChangesAreTheLaws
changes s t n new to [] [] few same goes shows = tt
changes s t n new to [] (k ∷ ks) few same goes shows = absurd shows
changes s t n new to (p ∷ ps) [] few same goes shows = absurd shows
changes s t n new to (p ∷ ps) (k ∷ ks) few same goes shows =
    by (is_number n p) (is_conn n k) (ap (λ (m : ℕ). m == n) shows.0.number) (let e : cond (is_conn n k) 1 0 + count_by (is_conn n) ks ≤ 1 = omega (arith, few, count_first (is_conn n) k ks) in e) (λ one other. goes p k one other shows.0)
    (λ less these. changes s t n new to ps ks less same.1 these shows.1) goes
  where
    by : (b c : Bool) → b ≡ c → cond c 1 0 + count_by (is_conn n) ks ≤ 1
        → (cond b (Some p) (find (is_number n) ps) ≡ Some p → cond c (Some k) (find (is_conn n) ks) ≡ Some k → ShowsConn t new (to k))
        → (count_by (is_conn n) ks ≤ 1 → GoesOnAs s t n ps ks new to → ShowConns t (with_peer n new ps) (change (is_conn n) to ks))
        → ((q : Peer) (j : Conn) → cond b (Some p) (find (is_number n) ps) ≡ Some q → cond c (Some k) (find (is_conn n) ks) ≡ Some j → ShowsConn s q j → ShowsConn t new (to j))
        → ShowConns t (cond b (new ∷ ps) (p ∷ with_peer n new ps)) ((elim c as (λ b. Conn) [ true ↦ to k | false ↦ k ]) ∷ change (is_conn n) to ks)
    by true true same_number less one rest these = (one refl refl, none_changed s t n to ps ks (omega (arith, less)) same.1 shows.1)
    by true false same_number less one rest these = absurd cc
    by false true same_number less one rest these = absurd cc
    by false false same_number less one rest these = (conn_again s t p k same.0 shows.0, rest (omega (arith, less)) these)

-- ---- in a state

-- what is read of a pipe is there as it was
pub as_it_was : (s : State) (p q : Peer) (k j : Conn) → q.pipe ≡ p.pipe → j.line ≡ k.line → j.unread ≡ k.unread → j.answer ≡ k.answer → j.may_pipeline ≡ k.may_pipeline → ShowsPipe s p k → ShowsPipe s q j
as_it_was s p q k j pipe line unread answer may shows = record {
  line = subst (λ (x : Line). ShowsLine s j.line x.asks) (sym pipe) (subst (λ (ns : List ℕ). ShowsLine s ns p.pipe.asks) (sym line) shows.line);
  stray = ap (λ (x : Line). x.stray) pipe ∙ shows.stray;
  out = ap (λ (x : Line). x.out) pipe ∙ shows.out ∙ ap (λ (ns : List ℕ). rests_of s ns) (sym line);
  reading =
      subst (λ (x : Line). ShowsReading x.reading j.unread j.answer) (sym pipe)
      (subst (λ (b : Bytes). ShowsReading p.pipe.reading b j.answer) (sym unread) (subst (λ (o : Option Answer). ShowsReading p.pipe.reading k.unread o) (sym answer) shows.reading));
  none_alone = λ is. ap (λ (ns : List ℕ). has_alone s ns) line ∙ shows.none_alone (sym may ∙ is);
}

the_table : (number : ℕ → ℕ) (name : Bytes) (owed : List Bytes) (l : Leaving) (p : Parts) (s : State) (n : ℕ) (to : Conn → Conn) → ShowsState number name owed l p s → ShowsCache number p.memory (on_conn n to s)
unfolding on_conn
the_table number name owed l p s n to shows =
    frames_of number p.memory s shows.table p.memory (on_conn n to s) (record { instances = refl; lives = refl; chunks = refl; extents = refl })
    (record { instances = refl; made = the_same s.next_instance; chunks = refl; followers = λ id. refl; kept = λ x. refl })

the_conns : (number : ℕ → ℕ) (name : Bytes) (owed : List Bytes) (l : Leaving) (p : Parts) (s : State) (n : ℕ) (new : Peer) (to : Conn → Conn) → ShowsState number name owed l p s → count_by (is_conn n) s.conns ≤ 1
    → GoesOnAs s (on_conn n to s) n p.peers s.conns new to → ShowConns (on_conn n to s) (with_peer n new p.peers) (on_conn n to s).conns
unfolding on_conn
the_conns number name owed l p s n new to shows few goes = changes s (on_conn n to s) n new to p.peers s.conns few (all_as s (on_conn n to s) (λ m. itself (exchange s m)) s.conns) goes shows.conns

-- the lines stay
abbrev pub KeepsLine : (Conn → Conn) → Type 0
KeepsLine to = (k : Conn) → ((to k).number ≡ k.number) × ((to k).line ≡ k.line)

if_kept : (n : ℕ) (to : Conn → Conn) → KeepsLine to → (k : Conn) → ((changed_if n to k).number ≡ k.number) × ((changed_if n to k).line ≡ k.line)
if_kept n to keeps k = by (is_conn n k)
  where
    by : (b : Bool) → ((elim b as (λ b. Conn) [ true ↦ to k | false ↦ k ]).number ≡ k.number) × ((elim b as (λ b. Conn) [ true ↦ to k | false ↦ k ]).line ≡ k.line)
    by true = keeps k
    by false = (refl, refl)

lines_kept : (n : ℕ) (to : Conn → Conn) → KeepsLine to → (o : Option Conn) → line_in (option_map (changed_if n to) o) ≡ line_in o
lines_kept n to keeps None = refl
lines_kept n to keeps (Some k) = (if_kept n to keeps k).1

pub line_kept : (s : State) (n : ℕ) (to : Conn → Conn) → KeepsLine to → (m : ℕ) → line_at (on_conn n to s) m ≡ line_at s m
unfolding on_conn
line_kept s n to keeps m =
    ap (λ (o : Option Conn). line_in o) (find_mapped (is_conn m) (changed_if n to) s.conns (λ k. ap (λ (i : ℕ). i == m) (if_kept n to keeps k).0)) ∙ lines_kept n to keeps (conn s m)

the_flow : (number : ℕ → ℕ) (name : Bytes) (owed : List Bytes) (l : Leaving) (p : Parts) (s : State) (n : ℕ) (to : Conn → Conn) → KeepsLine to → ShowsState number name owed l p s → ShowsFlow number l p.flow (on_conn n to s)
unfolding on_conn
the_flow number name owed l p s n to keeps shows =
    flow_frames number l p.flow s shows.exchanges l (on_conn n to s) (record { exchanges = refl; next = refl; lines = λ m. ap (λ (ns : List ℕ). l m ++ ns) (line_kept s n to keeps m) })

the_clients : (s : State) (n : ℕ) (to : Conn → Conn) → (on_conn n to s).clients ≡ s.clients
unfolding on_conn
the_clients s n to = refl

-- one whose line stays is changed
pub kept_line : (number : ℕ → ℕ) (name : Bytes) (owed : List Bytes) (l : Leaving) (p : Parts) (s : State) → ShowsState number name owed l p s → (n : ℕ) (new : Peer) (to : Conn → Conn) → count_by (is_conn n) s.conns ≤ 1 → KeepsLine to
    → GoesOnAs s (on_conn n to s) n p.peers s.conns new to → ShowsState number name owed l (record p { peers = with_peer n new p.peers }) (on_conn n to s)
kept_line number name owed l p s shows n new to few keeps goes = record {
  clients = subst (λ (cs : List Client). AreShown number name owed p.seats cs) (sym (the_clients s n to)) shows.clients;
  exchanges = the_flow number name owed l p s n to keeps shows;
  table = the_table number name owed l p s n to shows;
  conns = the_conns number name owed l p s n new to shows few goes;
}

some_peer : (a b : Peer) (o : Option Peer) → o ≡ Some a → o ≡ Some b → b ≡ a
some_peer a b o one other = let both : Some b ≡ Some a = sym other ∙ one in cc both

pub marks : MarksAreTheLaws
unfolding on_conn
marks number name owed l p s shows n now peer few found =
    kept_line number name owed l p s shows n (record peer { mark = now }) (marked_conn now) few (λ k. (refl, refl)) (λ q k one other shown. goes q k (some_peer peer q (find (is_number n) p.peers) found one) shown)
  where
    goes : (q : Peer) (k : Conn) → q ≡ peer → ShowsConn s q k → ShowsConn (on_conn n (marked_conn now) s) (record peer { mark = now }) (marked_conn now k)
    goes q k same shown =
        let these : ShowsConn s peer k = subst (λ (x : Peer). ShowsConn s x k) same shown in
        let those : ShowsConn (on_conn n (marked_conn now) s) peer k = conn_again s (on_conn n (marked_conn now) s) peer k (λ going. line_as s (on_conn n (marked_conn now) s) (λ m. itself (exchange s m)) k.line) these in
        record {
          number = those.number;
          host = those.host;
          port = those.port;
          is_reached = those.is_reached;
          has_brought = those.has_brought;
          may_pipeline = those.may_pipeline;
          is_closing = those.is_closing;
          stays = those.stays;
          mark = refl;
          has_waited = those.has_waited;
          pipe = λ going. as_it_was (on_conn n (marked_conn now) s) peer (record peer { mark = now }) k (marked_conn now k) refl refl refl refl refl (those.pipe going);
        }

pub reached : ReachedAreTheLaws
unfolding on_conn
reached number name owed l p s shows n peer few found =
    kept_line number name owed l p s shows n (record peer { is_reached = true }) (λ k. record k { is_reached = true }) few (λ k. (refl, refl)) (λ q k one other shown. goes q k (some_peer peer q (find (is_number n) p.peers) found one) shown)
  where
    goes : (q : Peer) (k : Conn) → q ≡ peer → ShowsConn s q k → ShowsConn (on_conn n (λ j. record j { is_reached = true }) s) (record peer { is_reached = true }) (record k { is_reached = true })
    goes q k same shown =
        let these : ShowsConn s peer k = subst (λ (x : Peer). ShowsConn s x k) same shown in
        let t : State = on_conn n (λ j. record j { is_reached = true }) s in
        let those : ShowsConn t peer k = conn_again s t peer k (λ going. line_as s t (λ m. itself (exchange s m)) k.line) these in
        record {
          number = those.number;
          host = those.host;
          port = those.port;
          is_reached = refl;
          has_brought = those.has_brought;
          may_pipeline = those.may_pipeline;
          is_closing = those.is_closing;
          stays = those.stays;
          mark = those.mark;
          has_waited = those.has_waited;
          pipe = λ going. as_it_was t peer (record peer { is_reached = true }) k (record k { is_reached = true }) refl refl refl refl refl (those.pipe going);
        }

-- ---- its cause to be closed has come

pub closings : ClosingsAreTheLaws
closings number name owed l p s shows n peer k few found there = record {
  clients = subst (λ (cs : List Client). AreShown number name owed p.seats cs) (sym (the_clients s n emptied)) shows.clients;
  exchanges = subst (λ (line : List ℕ). ShowsFlow number (still n line l) p.flow (on_conn n emptied s)) (ap (λ (o : Option Conn). line_in o) there) (flow_closings number l p.flow s shows.exchanges n);
  table = the_table number name owed l p s n emptied shows;
  conns = the_conns number name owed l p s n (record peer { is_closing = true }) emptied shows few (λ q j one other shown. goes q j (some_peer peer q (find (is_number n) p.peers) found one) shown);
}
  where
    goes : (q : Peer) (j : Conn) → q ≡ peer → ShowsConn s q j → ShowsConn (on_conn n emptied s) (record peer { is_closing = true }) (emptied j)
    goes q j same shown =
        let these : ShowsConn s peer j = subst (λ (x : Peer). ShowsConn s x j) same shown in
        record {
          number = these.number;
          host = these.host;
          port = these.port;
          is_reached = these.is_reached;
          has_brought = these.has_brought;
          may_pipeline = λ going. absurd cc;
          is_closing = refl;
          stays = λ going. absurd cc;
          mark = these.mark;
          has_waited = these.has_waited;
          pipe = λ going. absurd cc;
        }
