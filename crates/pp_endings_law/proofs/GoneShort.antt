-- The connection of an origin ended, or broke.
use Rattle.std.proofs.Common.{◌≡◌, ◌≤◌, refl, sym, subst, ap, ap₂, ◌∙◌, ℕ, Bool, true, false, not, ◌==◌, ◌&&◌, cond, find, map, List, [], ◌∷◌, Some, None, Option}
use Rattle.std.specs.Prelude.{count_by, option_map}
use Rattle.pp_bodies_law.specs.Ends.{finished_by_law}
use Rattle.pp_cache_law.proofs.Finds.{find_mapped, find_passes}
use Rattle.pp_cache_law.proofs.Numbers.{some_is, true_false}
use Rattle.pp_cache_law.proofs.PairLemmas.{count_mapped_same}
use Rattle.pp_turns_law.proofs.Orderly.{out}
use Rattle.pp_turns_law.proofs.Peers.{HasPeer, linked}
use Rattle.pp_turns_law.proofs.Shut.{shuts}
use Rattle.pp_turns_law.specs.Sides.{ShowsSides}
use Rattle.pp_desk.specs.Closings.{Sides, closed_conn}
use Rattle.pp_flow_law.proofs.Entries.{none_some, same_as, same_number}
use Rattle.pp_flow_law.proofs.Told.{found_alone}
use Rattle.pp_flow_law.specs.Frames.{emptied}
use Rattle.pp_flow_law.specs.Tables.{line_at, line_in}
use Rattle.pp_law.specs.Closing.{is_of}
use Rattle.pp_law.specs.Connections.{close_conn, conn, end_exchange, exchange, is_client, is_conn, is_exchange, is_for, on_client_of, on_conn, without_ask}
use Rattle.pp_law.specs.Lists.{Bytes, change, is_this}
use Rattle.pp_law.specs.Passing.{pour}
use Rattle.pp_law.specs.Responses.{skip_body, skipping}
use Rattle.pp_law.specs.Stages.{on_passed, passed_of}
use Rattle.pp_law.specs.State.{State, Aim, Own, Through, Filling, Client, Conn, Exchange, Passed, Passes}
use Rattle.pp_pass.specs.Pipe.{finished}
use Rattle.pp_peers.specs.Peers.{is_number, with_peer, with_pipe}
use Rattle.pp_peers.specs.declared.peers.Peer.{Peer}
use Rattle.pp_peers_law.specs.Peers.{ShowConns, ShowsConn}
use Rattle.pp_pipe.specs.Line.{Line}
use Rattle.pp_states_law.proofs.Ended.{gone}
use Rattle.pp_states_law.proofs.Lines.{same_itself}
use Rattle.pp_states_law.specs.Decisions.{AreApart}
use Rattle.pp_state.specs.Lines.{lost_line}
use Rattle.pp_states_law.proofs.Charged.{number_is}
use Rattle.pp_states_law.specs.Lines.{AllGo}
use Rattle.pp_endings_law.proofs.Pipes.{closed_is, closing_as, conns_beside, peer_over, pipe_found, with_line}
use Rattle.pp_endings_law.specs.Gone.{MayBeGone}

-- ---- where no body ends with it

module _ (number : ℕ → ℕ) (name : Bytes) (x : Sides) (s : State) (shows : ShowsSides number name x s) (n : ℕ) (k : Conn) (may : MayBeGone n s k) where
  pub peer : HasPeer s n x.peers k
  peer = linked s n x.peers s.conns k may.there shows.steps.shows.conns

  pub open_peer : peer.peer.is_closing ≡ false
  open_peer = peer.shows.is_closing ∙ may.goes_on

  abbrev pub piped : Line → Sides
  piped line = record x { peers = with_pipe n line x.peers }

  pub piped_there : (line : Line) → find (is_number n) (with_pipe n line x.peers) ≡ Some (with_line line peer.peer)
  piped_there line = pipe_found n line x.peers ∙ ap (λ (o : Option Peer). option_map (with_line line) o) peer.there

  short_is : (line : Line) → closed_conn n true (piped line) ≡ record { parts = lost_line 1024 n (true && not peer.peer.has_brought) x.parts; peers = with_peer n (with_line line (closing_as peer.peer)) x.peers }
  short_is line =
      closed_is n true x.parts (with_pipe n line x.peers) (with_line line peer.peer) (piped_there line) open_peer
      ∙ ap (λ (peers : List Peer). let y : Sides = record { parts = lost_line 1024 n (true && not peer.peer.has_brought) x.parts; peers = peers } in y) (peer_over n line (with_line line (closing_as peer.peer)) x.peers)

  pub short_shows : (line : Line) → ShowsSides number name (closed_conn n true (piped line)) (close_conn true k s)
  short_shows line =
      let shut : ShowsSides number name (record { parts = lost_line 1024 n (true && not peer.peer.has_brought) x.parts; peers = with_peer n (closing_as peer.peer) x.peers }) (close_conn true k s) =
      subst (λ (y : Sides). ShowsSides number name y (close_conn true k s)) (closed_is n true x.parts x.peers peer.peer peer.there open_peer) (shuts number name x s shows n true k may.there) in
      subst (λ (y : Sides). ShowsSides number name y (close_conn true k s)) (sym (short_is line)) (record {
        steps = record {
          shows = record {
            clients = shut.steps.shows.clients;
            exchanges = shut.steps.shows.exchanges;
            table = shut.steps.shows.table;
            conns = conns_beside (close_conn true k s) n (closing_as peer.peer) line refl x.peers (close_conn true k s).conns shut.steps.shows.conns;
          };
          order = shut.steps.order;
          told = shut.steps.told;
          refused = shut.steps.refused;
        };
        may = shut.may;
      })

-- ---- clients and connections behind a response that is whole

abbrev pours : Client → Client
pours c = on_passed (λ p. record p { pipe = finished p.pipe }) c

abbrev skipped_by : Exchange → State → Aim → State
skipped_by d s aim = elim aim as (λ t. State) [ Through ↦ on_client_of d skipping (pour d finished s) | Own ↦ pour d finished s | Filling v from to ↦ pour d finished s ]

pours_number : (c : Client) → (pours c).number ≡ c.number
pours_number c = by (passed_of c)
  where
    by : (o : Option Passed) → (elim o as (λ t. Client) [ None ↦ c | Some p ↦ record c { brought = Passes (record p { pipe = finished p.pipe }) } ]).number ≡ c.number
    by None = refl
    by (Some p) = refl

find_else : (e : Exchange) (b : ℕ) (f : Client → Client) → ((c : Client) → (f c).number ≡ c.number) → is_of b e ≡ false → (cs : List Client) → find (is_client b) (change (is_for e) f cs) ≡ find (is_client b) cs
find_else e b f keeps isnt [] = refl
find_else e b f keeps isnt (c ∷ cs) = by (is_for e c) refl (find_else e b f keeps isnt cs)
  where
    not_it : is_for e c ≡ true → is_client b c ≡ false
    not_it is = at (c.number == b) refl
      where
        at : (t : Bool) → (c.number == b) ≡ t → t ≡ false
        at false off = refl
        at true same = absurd (true_false (sym (ap (λ (i : ℕ). is_this i e.asker) (sym (same_number c.number b same)) ∙ is) ∙ isnt))

    by : (t : Bool) → is_for e c ≡ t → find (is_client b) (change (is_for e) f cs) ≡ find (is_client b) cs
        → find (is_client b) ((elim t as (λ u. Client) [ true ↦ f c | false ↦ c ]) ∷ change (is_for e) f cs) ≡ find (is_client b) (c ∷ cs)
    by true is rest =
        ap (λ (t : Bool). cond t (Some (f c)) (find (is_client b) (change (is_for e) f cs))) (ap (λ (i : ℕ). i == b) (keeps c) ∙ not_it is)
        ∙ rest
        ∙ sym (ap (λ (t : Bool). cond t (Some c) (find (is_client b) cs)) (not_it is))
    by false off rest = ap (λ (o : Option Client). cond (is_client b c) (Some c) o) rest

pub finished_conns : (d : Exchange) (s : State) → (finished_by_law d s).conns ≡ s.conns
unfolding skip_body pour on_client_of
finished_conns d s = by d.aim
  where
    by : (aim : Aim) → (skipped_by d s aim).conns ≡ s.conns
    by Through = refl
    by Own = refl
    by (Filling v from to) = refl

finished_exchanges : (d : Exchange) (s : State) → (finished_by_law d s).exchanges ≡ s.exchanges
unfolding skip_body pour on_client_of
finished_exchanges d s = by d.aim
  where
    by : (aim : Aim) → (skipped_by d s aim).exchanges ≡ s.exchanges
    by Through = refl
    by Own = refl
    by (Filling v from to) = refl

finished_others : (d : Exchange) (s : State) (b : ℕ) → is_of b d ≡ false → find (is_client b) (finished_by_law d s).clients ≡ find (is_client b) s.clients
unfolding skip_body pour on_client_of
finished_others d s b isnt = by d.aim
  where
    first : find (is_client b) (change (is_for d) pours s.clients) ≡ find (is_client b) s.clients
    first = find_else d b pours pours_number isnt s.clients

    by : (aim : Aim) → find (is_client b) (skipped_by d s aim).clients ≡ find (is_client b) s.clients
    by Through = find_else d b skipping (λ c. refl) isnt (change (is_for d) pours s.clients) ∙ first
    by Own = first
    by (Filling v from to) = first

ended_clients : (m : ℕ) (s : State) → (end_exchange m s).clients ≡ s.clients
unfolding end_exchange
ended_clients m s = refl

pub ended_conns : (m : ℕ) (s : State) → (end_exchange m s).conns ≡ map (without_ask m) s.conns
unfolding end_exchange
ended_conns m s = refl

pub set_conns : (n : ℕ) (f : Conn → Conn) (s : State) → ((on_conn n f s).conns ≡ change (is_conn n) f s.conns) × ((on_conn n f s).exchanges ≡ s.exchanges) × ((on_conn n f s).clients ≡ s.clients) × ((on_conn n f s).next_exchange ≡ s.next_exchange)
    × ((on_conn n f s).next_instance ≡ s.next_instance)
unfolding on_conn
set_conns n f s = (refl, refl, refl, refl, refl)

abbrev KeepsConn : (Conn → Conn) → Type 0
KeepsConn f = (j : Conn) → (f j).number ≡ j.number

test_kept : (n m : ℕ) (f : Conn → Conn) → KeepsConn f → (j : Conn) → is_conn m (elim (is_conn n j) as (λ t. Conn) [ true ↦ f j | false ↦ j ]) ≡ is_conn m j
test_kept n m f keeps j = by (is_conn n j)
  where
    by : (b : Bool) → is_conn m (elim b as (λ t. Conn) [ true ↦ f j | false ↦ j ]) ≡ is_conn m j
    by true = ap (λ (i : ℕ). i == m) (keeps j)
    by false = refl

pub found_set : (n : ℕ) (f : Conn → Conn) (s : State) (k : Conn) → KeepsConn f → conn s n ≡ Some k → conn (on_conn n f s) n ≡ Some (f k)
found_set n f s k keeps there =
    ap (λ (ks : List Conn). find (is_conn n) ks) (set_conns n f s).0
    ∙ find_mapped (is_conn n) (λ j. elim (is_conn n j) as (λ t. Conn) [ true ↦ f j | false ↦ j ]) s.conns (test_kept n n f keeps)
    ∙ ap (λ (o : Option Conn). option_map (λ (j : Conn). elim (is_conn n j) as (λ t. Conn) [ true ↦ f j | false ↦ j ]) o) there
    ∙ ap (λ (b : Bool). Some (elim b as (λ t. Conn) [ true ↦ f k | false ↦ k ])) (find_passes (is_conn n) s.conns k there)

pub apart_set : (n : ℕ) (f : Conn → Conn) (s : State) → KeepsConn f → AreApart s → AreApart (on_conn n f s)
apart_set n f s keeps apart m =
    subst (λ (ks : List Conn). count_by (is_conn m) ks ≤ 1) (sym (set_conns n f s).0)
    (subst (λ (i : ℕ). i ≤ 1) (sym (count_mapped_same (is_conn m) (λ j. elim (is_conn n j) as (λ t. Conn) [ true ↦ f j | false ↦ j ]) s.conns (test_kept n m f keeps))) (apart m))

pub go_as : (s t : State) → t.exchanges ≡ s.exchanges → t.clients ≡ s.clients → AllGo s → AllGo t
go_as s t exchanges clients go = record {
  going = λ m d there a c asks found. go.going m d (sym (ap (λ (es : List Exchange). find (is_exchange m) es) exchanges) ∙ there) a c asks (sym (ap (λ (cs : List Client). find (is_client a) cs) clients) ∙ found);
  coming = λ m d there a c asks found. go.coming m d (sym (ap (λ (es : List Exchange). find (is_exchange m) es) exchanges) ∙ there) a c asks (sym (ap (λ (cs : List Client). find (is_client a) cs) clients) ∙ found);
}

-- ---- who goes on behind it

module _ (s : State) (e : Exchange) (known : exchange s e.number ≡ Some e) (once : (m : ℕ) → count_by (is_of m) s.exchanges ≤ 1) where
  record WasThere (m : ℕ) (d : Exchange) : Type 0 where
    there : exchange s m ≡ Some d
    others : (a : ℕ) → d.asker ≡ Some a → is_of a e ≡ false

  was_there : (m : ℕ) (d : Exchange) → exchange (end_exchange e.number (finished_by_law e s)) m ≡ Some d → WasThere m d
  was_there m d there = by (e.number == m) refl
    where
      u : State
      u = finished_by_law e s

      by : (b : Bool) → (e.number == m) ≡ b → WasThere m d
      by true is = absurd (none_some d (sym (ap (λ (i : ℕ). exchange (end_exchange e.number u) i) (sym (same_number e.number m is)) ∙ out e.number u) ∙ there))
      by false off =
          let was : exchange s m ≡ Some d = sym (ap (λ (es : List Exchange). find (is_exchange m) es) (finished_exchanges e s)) ∙ sym (gone u e.number m off) ∙ there in record {
            there = was;
            others = λ a asks. not_its a asks (is_of a e) refl was;
          }
        where
          not_its : (a : ℕ) → d.asker ≡ Some a → (b : Bool) → is_of a e ≡ b → exchange s m ≡ Some d → b ≡ false
          not_its a asks false is was = refl
          not_its a asks true is was =
              let its : is_of a d ≡ true = ap (λ (o : Option ℕ). is_this a o) asks ∙ same_itself a in
              let same : find (is_of a) s.exchanges ≡ Some d = found_alone (is_of a) (is_exchange m) s.exchanges d was its (once a) in
              let one : find (is_of a) s.exchanges ≡ Some e = found_alone (is_of a) (is_exchange e.number) s.exchanges e known is (once a) in
              let equal : e ≡ d = some_is e d (sym one ∙ same) in
              absurd (true_false (sym (same_as e.number m (ap (λ (x : Exchange). x.number) equal ∙ number_is m s d was)) ∙ off))

  pub go_behind : AllGo s → AllGo (end_exchange e.number (finished_by_law e s))
  go_behind go = record {
    going = λ m d there a c asks found. let was : WasThere m d = was_there m d there in go.going m d was.there a c asks (client_was a c (was.others a asks) found);
    coming = λ m d there a c asks found. let was : WasThere m d = was_there m d there in go.coming m d was.there a c asks (client_was a c (was.others a asks) found);
  }
    where
      client_was : (a : ℕ) (c : Client) → is_of a e ≡ false → find (is_client a) (end_exchange e.number (finished_by_law e s)).clients ≡ Some c → find (is_client a) s.clients ≡ Some c
      client_was a c isnt found = sym (finished_others e s a isnt) ∙ sym (ap (λ (cs : List Client). find (is_client a) cs) (ended_clients e.number (finished_by_law e s))) ∙ found

-- ---- a connection that is closing may keep its line

abbrev pub closing_alone : Conn → Conn
closing_alone k = record k { is_closing = true }

closing_shown : (s : State) (p : Peer) (j : Conn) → ShowsConn s p (emptied j) → ShowsConn s p (closing_alone j)
closing_shown s p j shows = record {
  number = shows.number;
  host = shows.host;
  port = shows.port;
  is_reached = shows.is_reached;
  has_brought = shows.has_brought;
  may_pipeline = λ opens. absurd (cc opens);
  is_closing = shows.is_closing;
  stays = λ opens. absurd (cc opens);
  mark = shows.mark;
  has_waited = shows.has_waited;
  pipe = λ opens. absurd (cc opens);
}

pub all_closing : (s : State) (n : ℕ) (ps : List Peer) (ks : List Conn) → ShowConns s ps (change (is_conn n) emptied ks) → ShowConns s ps (change (is_conn n) closing_alone ks)
all_closing s n ps [] shows = shows
all_closing s n [] (k ∷ ks) shows = absurd shows
all_closing s n (p ∷ ps) (k ∷ ks) shows = (by (is_conn n k) shows.0, all_closing s n ps ks shows.1)
  where
    by : (b : Bool) → ShowsConn s p (elim b as (λ t. Conn) [ true ↦ emptied k | false ↦ k ]) → ShowsConn s p (elim b as (λ t. Conn) [ true ↦ closing_alone k | false ↦ k ])
    by true shown = closing_shown s p k shown
    by false shown = shown

emptied_over : (n : ℕ) (ks : List Conn) → change (is_conn n) emptied (change (is_conn n) closing_alone ks) ≡ change (is_conn n) emptied ks
emptied_over n [] = refl
emptied_over n (k ∷ ks) = ap₂ (λ (j : Conn) (js : List Conn). j ∷ js) (by (is_conn n k) refl) (emptied_over n ks)
  where
    by : (b : Bool) → is_conn n k ≡ b
        → (elim (is_conn n (elim b as (λ t. Conn) [ true ↦ closing_alone k | false ↦ k ])) as (λ t. Conn) [ true ↦ emptied (elim b as (λ t. Conn) [ true ↦ closing_alone k | false ↦ k ]) | false ↦ elim b as (λ t. Conn) [ true ↦ closing_alone k | false ↦ k ] ])
        ≡ (elim b as (λ t. Conn) [ true ↦ emptied k | false ↦ k ])
    by true is = ap (λ (b : Bool). elim b as (λ t. Conn) [ true ↦ emptied k | false ↦ closing_alone k ]) is
    by false off = ap (λ (b : Bool). elim b as (λ t. Conn) [ true ↦ emptied k | false ↦ k ]) off

conn_is : (n : ℕ) (f : Conn → Conn) (s : State) → on_conn n f s ≡ record s { conns = change (is_conn n) f s.conns }
unfolding on_conn
conn_is n f s = refl

pub emptied_same : (n : ℕ) (s : State) → on_conn n emptied (on_conn n closing_alone s) ≡ on_conn n emptied s
emptied_same n s =
    conn_is n emptied (on_conn n closing_alone s)
    ∙ ap (λ (t : State). let u : State = record t { conns = change (is_conn n) emptied t.conns } in u) (conn_is n closing_alone s)
    ∙ ap (λ (ks : List Conn). let u : State = record s { conns = ks } in u) (emptied_over n s.conns)
    ∙ sym (conn_is n emptied s)

pub line_else : (n j : ℕ) (f : Conn → Conn) (s : State) → KeepsConn f → (j == n) ≡ false → line_at (on_conn n f s) j ≡ line_at s j
line_else n j f s keeps off =
    ap (λ (ks : List Conn). line_in (find (is_conn j) ks)) (set_conns n f s).0 ∙ ap line_in (same s.conns)
  where
    same : (ks : List Conn) → find (is_conn j) (change (is_conn n) f ks) ≡ find (is_conn j) ks
    same [] = refl
    same (k ∷ ks) = by (is_conn n k) refl (same ks)
      where
        isnt : is_conn n k ≡ true → is_conn j k ≡ false
        isnt is = at (k.number == j) refl
          where
            at : (b : Bool) → (k.number == j) ≡ b → b ≡ false
            at false isno = refl
            at true its = absurd (true_false (sym (same_as j n (sym (same_number k.number j its) ∙ same_number k.number n is)) ∙ off))

        by : (b : Bool) → is_conn n k ≡ b → find (is_conn j) (change (is_conn n) f ks) ≡ find (is_conn j) ks
            → find (is_conn j) ((elim b as (λ t. Conn) [ true ↦ f k | false ↦ k ]) ∷ change (is_conn n) f ks) ≡ find (is_conn j) (k ∷ ks)
        by true is rest =
            ap (λ (b : Bool). cond b (Some (f k)) (find (is_conn j) (change (is_conn n) f ks))) (ap (λ (i : ℕ). i == j) (keeps k) ∙ isnt is)
            ∙ rest
            ∙ sym (ap (λ (b : Bool). cond b (Some k) (find (is_conn j) ks)) (isnt is))
        by false isno rest = ap (λ (o : Option Conn). cond (is_conn j k) (Some k) o) rest
