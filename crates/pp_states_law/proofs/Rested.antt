-- A response is whole: the exchange that stands first in its line is over.
use Rattle.std.proofs.Common.{◌≡◌, ◌≤◌, ◌+◌, refl, sym, subst, ap, ap₂, ◌∙◌, ℕ, Bool, true, false, not, ◌==◌, ◌||◌, cond, filter, map, List, [], ◌∷◌, ◌++◌, Some, None, Option, arith}
use Rattle.std.specs.Prelude.{codes, count_by, option_map, ⊤}
use Rattle.pp_cache_law.proofs.Finds.{find_mapped}
use Rattle.pp_cache_law.proofs.Framing.{frames_of, the_same}
use Rattle.pp_cache_law.proofs.PairLemmas.{count_first, count_joined}
use Rattle.pp_cache.specs.Memory.{Memory}
use Rattle.pp_cache_law.specs.Tables.{ShowsCache}
use Rattle.pp_flow.specs.Changes.{Exchanges}
use Rattle.pp_flow_law.proofs.Ended.{ends as flow_ends}
use Rattle.pp_flow_law.proofs.Entries.{same_number}
use Rattle.pp_flow_law.proofs.Framed.{closings as flow_closings, frames as flow_frames}
use Rattle.pp_flow_law.specs.Frames.{emptied, still}
use Rattle.pp_flow_law.proofs.Standing.{IsShown, entry_placed, few_placed, is_shown, none_waits}
use Rattle.pp_flow_law.specs.Changes.{but}
use Rattle.pp_flow_law.specs.Tables.{Leaving, ShowsFlow, line_at, line_in}
use Rattle.pp_head.specs.Response.{Response}
use Rattle.pp_law.specs.Connections.{conn, end_exchange, exchange, is_conn, on_conn, without_ask}
use Rattle.pp_law.specs.Lists.{Bytes, change, has_number}
use Rattle.pp_law.specs.Responses.{rested}
use Rattle.pp_law.specs.State.{State, Client, Conn, Exchange}
use Rattle.pp_peers.specs.declared.peers.Peer.{Peer}
use Rattle.pp_peers_law.proofs.Finds.{is_alone_in, no_or}
use Rattle.pp_peers_law.proofs.LineEnds.{ends as line_ends}
use Rattle.pp_peers_law.specs.Asked.{AreDistinct}
use Rattle.pp_peers_law.specs.Lines.{ShowsRest}
use Rattle.pp_peers_law.specs.Peers.{has_alone, rests_of, ShowsConn, ShowsLine, ShowsPipe, ShowsReading}
use Rattle.pp_pipe.specs.Ends.{is_end_in_doubt}
use Rattle.pp_pipe.specs.Front.{fate_of, goes_on, stays_open}
use Rattle.pp_pipe.specs.Line.{Line, answered, is_pipelined}
use Rattle.pp_pipe.specs.Reading.{behind_it}
use Rattle.pp_pipe.specs.declared.fate.Fate.{Fate}
use Rattle.pp_pipe.specs.declared.fate.Fate.TheVariants.{Closes, Stays, Pipelines}
use Rattle.pp_text.specs.Fields.{has_item}
use Rattle.pp_reply.specs.Keeping.{is_old}
use Rattle.pp_seats_law.specs.Clients.{AreShown}
use Rattle.pp_states_law.specs.Endings.{ClosesBehindAreTheLaws, IsFirst, RestsAreTheLaws, without_first}
use Rattle.pp_states_law.specs.States.{Parts, ShowsState}
use Rattle.pp_states_law.proofs.Alone.{AsksOn, few_on, line_distinct, none_counted, on_one}
use Rattle.pp_states_law.proofs.Asked.{any_alone, conn_again, itself, line_as}
use Rattle.pp_states_law.proofs.Connected.{KeepsLine, line_kept}
use Rattle.pp_states_law.proofs.Ended.{as_before, asked_on, gone, none_out, the_table}
use Rattle.pp_states_law.proofs.Lines.{AllFound, IsOn, IsPlaced, all_found, found_on, in_line, place_is, same_itself}
use Rattle.pp_states_law.proofs.Texts.{IsInLine, apart_on}

-- ---- it stands on that connection alone

first_stands : (number : ℕ → ℕ) (name : Bytes) (owed : List Bytes) (l : Leaving) (p : Parts) (s : State) (peer : Peer) (k : Conn) (e : Exchange) (others : List ℕ) → IsFirst p s peer k e others → IsInLine s k.line e
first_stands number name owed l p s peer k e others is = record {
  known = is.known;
  stands = ap (λ (ns : List ℕ). has_number e.number ns) is.line ∙ ap (λ (b : Bool). b || has_number e.number others) (same_itself e.number);
}

-- and does not have to leave one any more
counted : (n : ℕ) (ns : List ℕ) → has_number n ns ≡ true → 1 ≤ count_by (λ m. m == n) ns
counted n [] has = absurd cc
counted n (m ∷ ns) has = by (m == n) has (count_first (λ i. i == n) m ns) (counted n ns)
  where
    by : (b : Bool) → b || has_number n ns ≡ true → count_by (λ i. i == n) (m ∷ ns) ≡ cond b 1 0 + count_by (λ i. i == n) ns → (has_number n ns ≡ true → 1 ≤ count_by (λ i. i == n) ns) → 1 ≤ count_by (λ i. i == n) (m ∷ ns)
    by true has first rest = omega (arith, first)
    by false has first rest = omega (arith, first, rest has)

at_home : (number : ℕ → ℕ) (l : Leaving) (f : Exchanges) (s : State) → ShowsFlow number l f s → (n k : ℕ) (line : List ℕ) → line_at s k ≡ line → has_number n line ≡ true → has_number n (l k) ≡ false
at_home number l f s shows n k line there has = none_counted n (l k) zero
  where
    zero : count_by (λ m. m == n) (l k) ≡ 0
    zero =
        omega (
          arith,
          few_on k n f.placed,
          few_placed number l f s shows n,
          ap (λ (ns : List ℕ). count_by (λ m. m == n) ns) (shows.lines k ∙ ap (λ (ns : List ℕ). l k ++ ns) there),
          count_joined (λ m. m == n) (l k) line,
          counted n line has,
        )

has_before : (m : ℕ) (xs ys : List ℕ) → has_number m xs ≡ true → has_number m (xs ++ ys) ≡ true
has_before m [] ys has = absurd cc
has_before m (x ∷ xs) ys has = by (x == m) has (has_before m xs ys)
  where
    by : (b : Bool) → b || has_number m xs ≡ true → (has_number m xs ≡ true → has_number m (xs ++ ys) ≡ true) → b || has_number m (xs ++ ys) ≡ true
    by true has rest = refl
    by false has rest = rest has

-- who has to leave a line has that place too
leaving_there : (number : ℕ → ℕ) (l : Leaving) (f : Exchanges) (s : State) → ShowsFlow number l f s → (k m : ℕ) → has_number m (l k) ≡ true → IsPlaced k m s
leaving_there number l f s shows k m has =
    let one : IsOn k m f.placed = found_on k m f.placed (few_placed number l f s shows m) (ap (λ (ns : List ℕ). has_number m ns) (shows.lines k) ∙ has_before m (l k) (line_at s k) has) in
    let known : IsShown number s m one.entry = is_shown number l f s shows m one.entry (entry_placed m f one.entry (none_waits number l f s shows m one.entry one.there) one.there) in
    record { known = known.known; there = known.there; place = sym known.shows.place ∙ place_is k one.entry.exchange.place one.on }

itself_not : (n : ℕ) → (n == n) ≡ false → ⊥
itself_not n isnt = let both : true ≡ false = sym (same_itself n) ∙ isnt in absurd (cc both)

not_leaving : (number : ℕ → ℕ) (name : Bytes) (owed : List Bytes) (l : Leaving) (p : Parts) (s : State) (e : Exchange) (k : Conn) → ShowsState number name owed l p s → conn s k.number ≡ Some k → IsInLine s k.line e → (j : ℕ) → has_number e.number (l j) ≡ false
not_leaving number name owed l p s e k shows there stands j = by (j == k.number) refl
  where
    off_it : (b : Bool) → has_number e.number (l j) ≡ b → (j == k.number) ≡ false → b ≡ false
    off_it false is off = refl
    off_it true is off = absurd (itself_not e.number (apart_on number name owed l p s e k shows there stands j e.number off (leaving_there number l p.flow s shows.exchanges j e.number is)))

    by : (b : Bool) → (j == k.number) ≡ b → has_number e.number (l j) ≡ false
    by true is =
        ap (λ (i : ℕ). has_number e.number (l i)) (same_number j k.number is)
        ∙ at_home number l p.flow s shows.exchanges e.number k.number k.line (ap (λ (o : Option Conn). line_in o) there) stands.stands
    by false is = off_it (has_number e.number (l j)) refl is

-- ---- the connections

abbrev NowhereElse : ℕ → ℕ → List Conn → Type 0
NowhereElse k n [] = ⊤
NowhereElse k n (j ∷ ks) = (is_conn k j ≡ false → has_number n j.line ≡ false) × NowhereElse k n ks

nowhere_else : (number : ℕ → ℕ) (name : Bytes) (owed : List Bytes) (l : Leaving) (p : Parts) (s : State) (e : Exchange) (k : Conn) → ShowsState number name owed l p s → conn s k.number ≡ Some k → IsInLine s k.line e → (ks : List Conn) → AllFound s ks
    → NowhereElse k.number e.number ks
nowhere_else number name owed l p s e k shows there stands [] found = tt
nowhere_else number name owed l p s e k shows there stands (j ∷ ks) found = ((λ off. none (has_number e.number j.line) refl off), nowhere_else number name owed l p s e k shows there stands ks found.1)
  where
    none : (b : Bool) → has_number e.number j.line ≡ b → (j.number == k.number) ≡ false → b ≡ false
    none false is off = refl
    none true is off =
        absurd (itself_not e.number (apart_on number name owed l p s e k shows there stands j.number e.number off
        (in_line number l p.flow s shows.exchanges j.number e.number (ap (λ (o : Option Conn). has_number e.number (line_in o)) found.0 ∙ is))))

changed_once : (k n : ℕ) (f : Conn → Conn) (ks : List Conn) → NowhereElse k n ks → change (is_conn k) f (map (without_ask n) ks) ≡ change (is_conn k) (λ j. f (without_ask n j)) ks
changed_once k n f [] none = refl
changed_once k n f (j ∷ ks) none = by (is_conn k j) none.0 (changed_once k n f ks none.1)
  where
    by : (b : Bool) → (b ≡ false → has_number n j.line ≡ false) → change (is_conn k) f (map (without_ask n) ks) ≡ change (is_conn k) (λ i. f (without_ask n i)) ks
        → (elim b as (λ t. Conn) [ true ↦ f (without_ask n j) | false ↦ without_ask n j ]) ∷ change (is_conn k) f (map (without_ask n) ks)
        ≡ (elim b as (λ t. Conn) [ true ↦ f (without_ask n j) | false ↦ j ]) ∷ change (is_conn k) (λ i. f (without_ask n i)) ks
    by true off rest = ap (λ (js : List Conn). f (without_ask n j) ∷ js) rest
    by false off rest = ap₂ (λ (line : List ℕ) (js : List Conn). record j { line = line } ∷ js) (none_out n j.line (off refl)) rest

pub changed_twice : (k : ℕ) (f g : Conn → Conn) → ((j : Conn) → (f j).number ≡ j.number) → (ks : List Conn) → change (is_conn k) g (change (is_conn k) f ks) ≡ change (is_conn k) (λ j. g (f j)) ks
changed_twice k f g keeps [] = refl
changed_twice k f g keeps (j ∷ ks) = by (is_conn k j) refl (changed_twice k f g keeps ks)
  where
    by : (b : Bool) → is_conn k j ≡ b → change (is_conn k) g (change (is_conn k) f ks) ≡ change (is_conn k) (λ i. g (f i)) ks
        → (elim (is_conn k (elim b as (λ t. Conn) [ true ↦ f j | false ↦ j ])) as (λ t. Conn) [ true ↦ g (elim b as (λ t. Conn) [ true ↦ f j | false ↦ j ]) | false ↦ (elim b as (λ t. Conn) [ true ↦ f j | false ↦ j ]) ]) ∷ change (is_conn k) g (change (is_conn k) f ks)
        ≡ (elim b as (λ t. Conn) [ true ↦ g (f j) | false ↦ j ]) ∷ change (is_conn k) (λ i. g (f i)) ks
    by true is rest = ap₂ (λ (b : Bool) (js : List Conn). (elim b as (λ t. Conn) [ true ↦ g (f j) | false ↦ f j ]) ∷ js) (ap (λ (i : ℕ). i == k) (keeps j) ∙ is) rest
    by false is rest = ap₂ (λ (b : Bool) (js : List Conn). (elim b as (λ t. Conn) [ true ↦ g j | false ↦ j ]) ∷ js) is rest

-- ---- what is left of its line

others_left : (n : ℕ) (others : List ℕ) → has_number n others ≡ false → filter (λ m. not (m == n)) (n ∷ others) ≡ others
others_left n others none = ap (λ (b : Bool). cond (not b) (n ∷ filter (λ m. not (m == n)) others) (filter (λ m. not (m == n)) others)) (same_itself n) ∙ none_out n others none

first_once : (n : ℕ) (others line : List ℕ) → line ≡ n ∷ others → AreDistinct line → has_number n others ≡ false
first_once n others line is once = (subst AreDistinct is once).0

line_left : (n : ℕ) (others line : List ℕ) → line ≡ n ∷ others → AreDistinct line → filter (λ m. not (m == n)) line ≡ others
line_left n others line is once = ap (λ (ns : List ℕ). filter (λ m. not (m == n)) ns) is ∙ others_left n others (first_once n others line is once)

-- ---- it goes on

abbrev fate_by : Bool → Bool → Bool → Bool → Fate
fate_by doubt close old keep = elim doubt [ true ↦ Closes | false ↦ elim close [ true ↦ Closes | false ↦ elim old [ true ↦ elim keep [ true ↦ Stays | false ↦ Closes ] | false ↦ Pipelines ] ] ]

pipelined : (head : Response) → stays_open head ≡ true → is_pipelined (fate_of head) ≡ not (is_old head.minor)
pipelined head stays = by (is_end_in_doubt head) (has_item (codes "connection") (codes "close") head.fields) (head.minor == 0) (has_item (codes "connection") (codes "keep-alive") head.fields) stays
  where
    by : (doubt close old keep : Bool) → goes_on (fate_by doubt close old keep) ≡ true → is_pipelined (fate_by doubt close old keep) ≡ not old
    by true close old keep is = absurd cc
    by false true old keep is = absurd cc
    by false false true true is = refl
    by false false true false is = absurd cc
    by false false false keep is = refl

reads_anew : (fate : Fate) → goes_on fate ≡ true → ShowsReading (behind_it fate) [] None
reads_anew Closes is = absurd cc
reads_anew Stays is = refl
reads_anew Pipelines is = refl

none_alone : (s : State) (peer : Peer) (k : Conn) (n : ℕ) (others : List ℕ) → ShowsPipe s peer k → k.line ≡ n ∷ others → (k.may_pipeline ≡ false → has_alone s others ≡ false) → has_alone s others ≡ false
none_alone s peer k n others shows line none = by k.may_pipeline refl
  where
    by : (b : Bool) → k.may_pipeline ≡ b → has_alone s others ≡ false
    by true is = (no_or (is_alone_in (exchange s n)) (has_alone s others) (sym (ap (λ (ns : List ℕ). has_alone s ns) line) ∙ shows.none_alone is)).1
    by false is = none is

abbrev rested_peer : Peer → Response → Peer
rested_peer peer head = record peer { pipe = record (answered (fate_of head) peer.pipe) { reading = behind_it (fate_of head) }; has_brought = true }

rested_pipe : (s : State) (peer : Peer) (k : Conn) (e : Exchange) (others : List ℕ) (head : Response) (p : Parts) → IsFirst p s peer k e others → AreDistinct k.line → (k.may_pipeline ≡ false → has_alone s others ≡ false) → stays_open head ≡ true → ShowsConn s peer k
    → ShowsPipe (end_exchange e.number s) (rested_peer peer head) (rested head (without_ask e.number k))
rested_pipe s peer k e others head p is once none stays shown =
    let rest : ShowsRest (end_exchange e.number s) peer (fate_of head) others = line_ends s peer k e others (fate_of head) shown is.goes_on (record { line = is.line; there = is.known; whole = is.whole; once = once }) in
    let left : filter (λ m. not (m == e.number)) k.line ≡ others = line_left e.number others k.line is.line once in
    record {
      line = subst (λ (ns : List ℕ). ShowsLine (end_exchange e.number s) ns (answered (fate_of head) peer.pipe).asks) (sym left) rest.line;
      stray = rest.stray;
      out = rest.out ∙ sym (ap (λ (ns : List ℕ). rests_of (end_exchange e.number s) ns) left);
      reading = reads_anew (fate_of head) stays;
      none_alone = λ may.
          ap (λ (ns : List ℕ). has_alone (end_exchange e.number s) ns) left
          ∙ any_alone s (end_exchange e.number s) others (asked_on s e.number others (first_once e.number others k.line is.line once))
          ∙ none_alone s peer k e.number others (shown.pipe is.goes_on) is.line none;
    }

rested_conn : (s : State) (peer : Peer) (k : Conn) (e : Exchange) (others : List ℕ) (head : Response) (p : Parts) → IsFirst p s peer k e others → AreDistinct k.line → (k.may_pipeline ≡ false → has_alone s others ≡ false) → stays_open head ≡ true → ShowsConn s peer k
    → ShowsConn (on_conn k.number (rested head) (end_exchange e.number s)) (rested_peer peer head) (rested head (without_ask e.number k))
unfolding on_conn
rested_conn s peer k e others head p is once none stays shown =
    conn_again (end_exchange e.number s) (on_conn k.number (rested head) (end_exchange e.number s)) (rested_peer peer head) (rested head (without_ask e.number k))
    (λ goes. line_as (end_exchange e.number s) (on_conn k.number (rested head) (end_exchange e.number s)) (λ m. itself (exchange (end_exchange e.number s) m)) (without_ask e.number k).line)
    (record {
      number = shown.number;
      host = shown.host;
      port = shown.port;
      is_reached = shown.is_reached;
      has_brought = refl;
      may_pipeline = λ goes. ap₂ (λ (a b : Bool). a || b) (shown.may_pipeline goes) (pipelined head stays);
      is_closing = shown.is_closing;
      stays = λ goes. tt;
      mark = shown.mark;
      has_waited = shown.has_waited;
      pipe = λ goes. rested_pipe s peer k e others head p is once none stays shown;
    })

-- ---- the other parts

over_rest : (k n : ℕ) (f : Conn → Conn) (s : State) → ((on_conn k f (end_exchange n s)).clients ≡ s.clients) × ((on_conn k f (end_exchange n s)).conns ≡ change (is_conn k) f (map (without_ask n) s.conns))
unfolding on_conn end_exchange
over_rest k n f s = (refl, refl)

over_exchange : (k n m : ℕ) (f : Conn → Conn) (s : State) → (n == m) ≡ false → exchange (on_conn k f (end_exchange n s)) m ≡ exchange s m
unfolding on_conn
over_exchange k n m f s isnt = gone s n m isnt

conn_table : (number : ℕ → ℕ) (memory : Memory) (k : ℕ) (f : Conn → Conn) (s : State) → ShowsCache number memory s → ShowsCache number memory (on_conn k f s)
unfolding on_conn
conn_table number memory k f s shows =
    frames_of number memory s shows memory (on_conn k f s) (record { instances = refl; lives = refl; chunks = refl; extents = refl })
    (record { instances = refl; made = the_same s.next_instance; chunks = refl; followers = λ id. refl; kept = λ x. refl })

conn_flow : (number : ℕ → ℕ) (l o : Leaving) (f : Exchanges) (k : ℕ) (to : Conn → Conn) (s : State) → KeepsLine to → ((j : ℕ) → l j ≡ o j) → ShowsFlow number l f s → ShowsFlow number o f (on_conn k to s)
unfolding on_conn
conn_flow number l o f k to s keeps same shows =
    flow_frames number l f s shows o (on_conn k to s) (record { exchanges = refl; next = refl; lines = λ j. ap₂ (λ (a b : List ℕ). a ++ b) (sym (same j)) (line_kept s k to keeps j) })

over_flow : (number : ℕ → ℕ) (name : Bytes) (owed : List Bytes) (l : Leaving) (p : Parts) (s : State) (e : Exchange) (k : Conn) (to : Conn → Conn) → ShowsState number name owed l p s → conn s k.number ≡ Some k → IsInLine s k.line e → KeepsLine to
    → ShowsFlow number l (without_first e.number p).flow (on_conn k.number to (end_exchange e.number s))
over_flow number name owed l p s e k to shows there stands keeps =
    conn_flow number (but e.number l) l (without_first e.number p).flow k.number to (end_exchange e.number s) keeps (λ j. none_out e.number (l j) (not_leaving number name owed l p s e k shows there stands j))
    (flow_ends number l p.flow s shows.exchanges e.number)

asked_as_before : (number : ℕ → ℕ) (name : Bytes) (owed : List Bytes) (l : Leaving) (p : Parts) (s : State) (e : Exchange) (k : Conn) (to : Conn → Conn) → ShowsState number name owed l p s → conn s k.number ≡ Some k → IsInLine s k.line e
    → AsksOn k.number s (on_conn k.number to (end_exchange e.number s))
asked_as_before number name owed l p s e k to shows there stands j m off placed =
    as_before (exchange s m) (exchange (on_conn k.number to (end_exchange e.number s)) m) (over_exchange k.number e.number m to s (apart_on number name owed l p s e k shows there stands j m off placed))

pub rests : RestsAreTheLaws
rests number name owed l p s shows peer k e others head apart is none stays = record {
  clients = subst (λ (cs : List Client). AreShown number name owed p.seats cs) (sym (over_rest k.number e.number (rested head) s).0) shows.clients;
  exchanges = over_flow number name owed l p s e k (rested head) shows is.there stands (λ j. (refl, refl));
  table = conn_table number p.memory k.number (rested head) (end_exchange e.number s) (the_table number name owed l p s e.number shows);
  conns =
      on_one number name owed l p s (on_conn k.number (rested head) (end_exchange e.number s)) peer (rested_peer peer head) k (λ j. rested head (without_ask e.number j)) shows apart is.linked is.there
      (asked_as_before number name owed l p s e k (rested head) shows is.there stands)
      ((over_rest k.number e.number (rested head) s).1 ∙ changed_once k.number e.number (rested head) s.conns (nowhere_else number name owed l p s e k shows is.there stands s.conns (all_found s apart)))
      (rested_conn s peer k e others head p is (line_distinct number l p.flow s k shows.exchanges is.there) none stays);
}
  where
    stands : IsInLine s k.line e
    stands = first_stands number name owed l p s peer k e others is

-- ---- it is closed

abbrev closed_behind : ℕ → ℕ → Response → State → State
closed_behind k n head s = on_conn k emptied (on_conn k (rested head) (end_exchange n s))

closed_rest : (k n : ℕ) (head : Response) (s : State) → ((closed_behind k n head s).clients ≡ s.clients) × ((closed_behind k n head s).conns ≡ change (is_conn k) emptied (change (is_conn k) (rested head) (map (without_ask n) s.conns)))
unfolding on_conn end_exchange
closed_rest k n head s = (refl, refl)

closed_exchange : (k n m : ℕ) (head : Response) (s : State) → (n == m) ≡ false → exchange (closed_behind k n head s) m ≡ exchange s m
unfolding on_conn
closed_exchange k n m head s isnt = gone s n m isnt

line_over : (s : State) (n : ℕ) (k : Conn) → conn s k.number ≡ Some k → line_at (end_exchange n s) k.number ≡ filter (λ m. not (m == n)) k.line
unfolding end_exchange
line_over s n k there = ap (λ (o : Option Conn). line_in o) (find_mapped (is_conn k.number) (without_ask n) s.conns (λ j. refl)) ∙ ap (λ (o : Option Conn). line_in (option_map (without_ask n) o)) there

closed_conn : (t : State) (s : State) (peer : Peer) (pipe : Line) (k j : Conn) → j.number ≡ k.number → j.host ≡ k.host → j.port ≡ k.port → j.is_reached ≡ k.is_reached → j.has_brought ≡ true → j.is_closing ≡ true → j.mark ≡ k.mark → j.has_waited ≡ k.has_waited
    → ShowsConn s peer k → ShowsConn t (record peer { pipe = pipe; has_brought = true; is_closing = true }) j
closed_conn t s peer pipe k j number host port reached brought closing mark waited shown = record {
  number = shown.number ∙ sym number;
  host = shown.host ∙ sym host;
  port = shown.port ∙ sym port;
  is_reached = shown.is_reached ∙ sym reached;
  has_brought = sym brought;
  may_pipeline = λ goes. absurd (not_both j.is_closing closing goes);
  is_closing = sym closing;
  stays = λ goes. absurd (not_both j.is_closing closing goes);
  mark = shown.mark ∙ sym mark;
  has_waited = shown.has_waited ∙ sym waited;
  pipe = λ goes. absurd (not_both j.is_closing closing goes);
}
  where
    not_both : (b : Bool) → b ≡ true → b ≡ false → ⊥
    not_both b is isnt = let both : true ≡ false = sym is ∙ isnt in absurd (cc both)

pub closes_behind : ClosesBehindAreTheLaws
closes_behind number name owed l p s shows peer k e others head pipe apart is = record {
  clients = subst (λ (cs : List Client). AreShown number name owed p.seats cs) (sym (closed_rest k.number e.number head s).0) shows.clients;
  exchanges =
      subst (λ (line : List ℕ). ShowsFlow number (still k.number line l) (without_first e.number p).flow u) left
      (flow_closings number l (without_first e.number p).flow t (over_flow number name owed l p s e k (rested head) shows is.there stands (λ j. (refl, refl))) k.number);
  table = conn_table number p.memory k.number emptied t (conn_table number p.memory k.number (rested head) (end_exchange e.number s) (the_table number name owed l p s e.number shows));
  conns =
      on_one number name owed l p s u peer (record peer { pipe = pipe; has_brought = true; is_closing = true }) k (λ j. emptied (rested head (without_ask e.number j))) shows apart is.linked is.there
      (λ j m off placed. as_before (exchange s m) (exchange u m) (closed_exchange k.number e.number m head s (apart_on number name owed l p s e k shows is.there stands j m off placed)))
      ((closed_rest k.number e.number head s).1
      ∙ changed_twice k.number (rested head) emptied (λ j. refl) (map (without_ask e.number) s.conns)
      ∙ changed_once k.number e.number (λ j. emptied (rested head j)) s.conns (nowhere_else number name owed l p s e k shows is.there stands s.conns (all_found s apart)))
      (λ shown. closed_conn u s peer pipe k (emptied (rested head (without_ask e.number k))) refl refl refl refl refl refl refl refl shown);
}
  where
    t : State
    t = on_conn k.number (rested head) (end_exchange e.number s)

    u : State
    u = on_conn k.number emptied t

    stands : IsInLine s k.line e
    stands = first_stands number name owed l p s peer k e others is

    left : line_at t k.number ≡ others
    left =
        line_kept (end_exchange e.number s) k.number (rested head) (λ j. (refl, refl)) k.number
        ∙ line_over s e.number k is.there
        ∙ line_left e.number others k.line is.line (line_distinct number l p.flow s k shows.exchanges is.there)
