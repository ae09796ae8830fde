-- What a decision does to exchanges.
use Rattle.std.proofs.Common.{◌≡◌, refl, sym, subst, ap, ◌∙◌, ℕ, Bool, true, false, not, ◌||◌, ◌==◌, cond, find, List, [], ◌∷◌, Some, None, Option}
use Rattle.std.specs.Prelude.{is_some}
use Rattle.pp_cache_law.proofs.Finds.{find_joined, first_of_two}
use Rattle.pp_cache_law.proofs.Framing.{frames_of, the_same}
use Rattle.pp_cache_law.specs.Pairs.{AreBoth}
use Rattle.pp_cache_law.specs.Tables.{ShowsCache}
use Rattle.pp_flow.specs.Entries.{begun_with}
use Rattle.pp_flow_law.proofs.Begun.{begins as flow_begins}
use Rattle.pp_flow_law.proofs.Left.{decisions as flow_leaves}
use Rattle.pp_flow_law.specs.Changes.{begun_by, left_by}
use Rattle.pp_flow_law.specs.Tables.{Leaving, ShowsFlow, line_in}
use Rattle.pp_law.specs.Closing.{forsake, is_of, is_over, leave, left_alone}
use Rattle.pp_law.specs.Connections.{exchange, is_exchange}
use Rattle.pp_law.specs.Deciding.{add_exchange, begin_exchange}
use Rattle.pp_law.specs.Lists.{Bytes, change, has_number, without}
use Rattle.pp_law.specs.State.{State, Client, Conn, Exchange}
use Rattle.pp_cache.specs.Memory.{Memory}
use Rattle.pp_flow.specs.Changes.{Exchanges, changed, first_of, without as without_number}
use Rattle.pp_flow.specs.Entries.{is_asked_by, nobodys}
use Rattle.pp_flow.specs.declared.entry.Entry.{Entry}
use Rattle.pp_seats_law.specs.Exchanges.{ShowsExchange}
use Rattle.pp_law.specs.Lists.{is_some_with}
use Rattle.pp_seats_law.specs.Clients.{AreShown}
use Rattle.pp_peers.specs.declared.peers.Peer.{Peer}
use Rattle.pp_peers_law.specs.Peers.{ShowConns, ShowsLine}
use Rattle.pp_pipe.specs.declared.asks.Ask.{Ask}
use Rattle.pp_states_law.specs.Asks.{AllAreAskedAs, AreAskedAs, IsAskedAs}
use Rattle.pp_states_law.specs.Decisions.{AsksAreTheLaws, BeginsAreTheLaws, LeavesAreTheLaws}
use Rattle.pp_states_law.specs.States.{Parts, ShowsState}
use Rattle.pp_states_law.proofs.Asked.{conn_again, frames, itself}
use Rattle.pp_states_law.proofs.Lines.{AllFound, IsPlaced, all_found, in_line, same_itself}

-- ---- those that leave

abbrev left_if : Exchange → Bool → Exchange
left_if d b = elim b as (λ t. Exchange) [ true ↦ left_alone d | false ↦ d ]

abbrev others : (Exchange → Bool) → List Exchange → List Exchange
others test es = without is_over (change test left_alone es)

-- one that has a place stays, asked as before
stays : (test : Exchange → Bool) (m : ℕ) (es : List Exchange) (e : Exchange) → find (is_exchange m) es ≡ Some e → is_some e.place ≡ true → AreBoth IsAskedAs (Some e) (find (is_exchange m) (without is_over (change test left_alone es)))
stays test m [] e there placed = absurd (cc there)
stays test m (d ∷ es) e there placed = by (test d) (is_exchange m d) refl there (λ more. stays test m es e more placed)
  where
    asked : (b : Bool) → IsAskedAs d (left_if d b)
    asked true = record { to_head = refl; asked = refl; text = refl; alone = refl }
    asked false = record { to_head = refl; asked = refl; text = refl; alone = refl }

    number : (b : Bool) → is_exchange m (left_if d b) ≡ is_exchange m d
    number true = refl
    number false = refl

    or_true : (a : Bool) → a || true ≡ true
    or_true true = refl
    or_true false = refl

    kept : (b : Bool) → is_some d.place ≡ true → is_over (left_if d b) ≡ false
    kept true is = ap not is
    kept false is = ap not (ap (λ (t : Bool). is_some d.asker || t) is ∙ or_true (is_some d.asker))

    passed : (b over : Bool) → is_exchange m d ≡ false → AreBoth IsAskedAs (Some e) (find (is_exchange m) (others test es)) → AreBoth IsAskedAs (Some e) (find (is_exchange m) (cond (not over) (left_if d b ∷ others test es) (others test es)))
    passed b true isnt more = more
    passed b false isnt more = subst (λ (t : Bool). AreBoth IsAskedAs (Some e) (cond t (Some (left_if d b)) (find (is_exchange m) (others test es)))) (sym (number b ∙ isnt)) more

    same : d ≡ e → (b : Bool) → AreBoth IsAskedAs (Some e) (Some (left_if d b))
    same is b = subst (λ (x : Exchange). AreBoth IsAskedAs (Some x) (Some (left_if d b))) is (asked b)

    by : (b c : Bool) → is_exchange m d ≡ c → cond c (Some d) (find (is_exchange m) es) ≡ Some e → (find (is_exchange m) es ≡ Some e → AreBoth IsAskedAs (Some e) (find (is_exchange m) (others test es)))
        → AreBoth IsAskedAs (Some e) (find (is_exchange m) (cond (not (is_over (left_if d b))) (left_if d b ∷ others test es) (others test es)))
    by b true is found more =
        let one : d ≡ e = cc found in
        subst (λ (t : Bool). AreBoth IsAskedAs (Some e) (find (is_exchange m) (cond (not t) (left_if d b ∷ others test es) (others test es)))) (sym (kept b (ap (λ (x : Exchange). is_some x.place) one ∙ placed)))
        (subst (λ (t : Bool). AreBoth IsAskedAs (Some e) (cond t (Some (left_if d b)) (find (is_exchange m) (others test es)))) (sym (number b ∙ is)) (same one b))
    by b false is found more = passed b (is_over (left_if d b)) is (more found)

line_left : (test : Exchange → Bool) (s : State) (k : ℕ) (line : List ℕ) → ((m : ℕ) → has_number m line ≡ true → IsPlaced k m s) → AreAskedAs s (leave test s) line
unfolding leave forsake
line_left test s k [] each = tt
line_left test s k (m ∷ line) each = (one, line_left test s k line (λ i has. each i (or_later (m == i) (has_number i line) has)))
  where
    or_later : (a b : Bool) → b ≡ true → a || b ≡ true
    or_later true b is = refl
    or_later false b is = is

    or_first : (a b : Bool) → a ≡ true → a || b ≡ true
    or_first a b is = ap (λ (t : Bool). t || b) is

    here : IsPlaced k m s
    here = each m (or_first (m == m) (has_number m line) (same_itself m))

    one : AreBoth IsAskedAs (exchange s m) (exchange (leave test s) m)
    one = subst (λ (o : Option Exchange). AreBoth IsAskedAs o (exchange (leave test s) m)) (sym here.there) (stays test m s.exchanges here.known here.there (ap (λ (o : Option ℕ). is_some o) here.place))

conns_left : (number : ℕ → ℕ) (l : Leaving) (f : Exchanges) (s : State) (test : Exchange → Bool) → ShowsFlow number l f s → (ks : List Conn) → AllFound s ks → AllAreAskedAs s (leave test s) ks
conns_left number l f s test shows [] found = tt
conns_left number l f s test shows (k ∷ ks) found = (
  (λ goes. line_left test s k.number k.line (λ m has. in_line number l f s shows k.number m (ap (λ (o : Option Conn). has_number m (line_in o)) found.0 ∙ has))),
  conns_left number l f s test shows ks found.1,
)

left_clients : (test : Exchange → Bool) (s : State) → ((leave test s).clients ≡ s.clients) × ((leave test s).conns ≡ s.conns)
unfolding leave forsake
left_clients test s = (refl, refl)

left_table : (number : ℕ → ℕ) (name : Bytes) (owed : List Bytes) (l : Leaving) (p : Parts) (s : State) (test : Exchange → Bool) → ShowsState number name owed l p s → ShowsCache number p.memory (leave test s)
unfolding leave forsake
left_table number name owed l p s test shows =
    frames_of number p.memory s shows.table p.memory (leave test s) (record { instances = refl; lives = refl; chunks = refl; extents = refl })
    (record { instances = refl; made = the_same s.next_instance; chunks = refl; followers = λ id. refl; kept = λ x. refl })

pub leaves : LeavesAreTheLaws
leaves number name owed l p s shows c asks = record {
  clients = subst (λ (cs : List Client). AreShown number name owed p.seats cs) (sym (left_clients (is_of c) s).0) shows.clients;
  exchanges = flow_leaves number l p.flow s shows.exchanges c asks.once asks.going;
  table = left_table number name owed l p s (is_of c) shows;
  conns =
      subst (λ (ks : List Conn). ShowConns (leave (is_of c) s) p.peers ks) (sym (left_clients (is_of c) s).1)
      (frames s (leave (is_of c) s) p.peers s.conns (conns_left number l p.flow s (is_of c) shows.exchanges s.conns (all_found s asks.apart)) shows.conns);
}

-- ---- one that begins

later : (s : State) (e : Exchange) (m : ℕ) (d : Exchange) → exchange s m ≡ Some d → exchange (add_exchange e s) m ≡ Some d
unfolding add_exchange
later s e m d there = find_joined (is_exchange m) s.exchanges (e ∷ []) ∙ ap (λ (o : Option Exchange). first_of_two o (find (is_exchange m) (e ∷ []))) there

line_later : (s : State) (e : Exchange) (line : List ℕ) (asks : List Ask) → ShowsLine s line asks → AreAskedAs s (add_exchange e s) line
line_later s e [] asks shows = tt
line_later s e (m ∷ line) [] shows = absurd shows
line_later s e (m ∷ line) (ask ∷ asks) shows = (
  subst (λ (o : Option Exchange). AreBoth IsAskedAs o (exchange (add_exchange e s) m)) (sym shows.0.1) (subst (λ (o : Option Exchange). AreBoth IsAskedAs (Some shows.0.0) o) (sym (later s e m shows.0.0 shows.0.1)) (itself (Some shows.0.0))),
  line_later s e line asks shows.1,
)

conns_later : (s : State) (e : Exchange) (ps : List Peer) (ks : List Conn) → ShowConns s ps ks → ShowConns (add_exchange e s) ps ks
conns_later s e [] [] shows = tt
conns_later s e [] (k ∷ ks) shows = absurd shows
conns_later s e (p ∷ ps) [] shows = absurd shows
conns_later s e (p ∷ ps) (k ∷ ks) shows = (conn_again s (add_exchange e s) p k (λ goes. line_later s e k.line p.pipe.asks (shows.0.pipe goes).line) shows.0, conns_later s e ps ks shows.1)

added : (e : Exchange) (s : State) → ((add_exchange e s).clients ≡ s.clients) × ((add_exchange e s).conns ≡ s.conns)
unfolding add_exchange
added e s = (refl, refl)

added_table : (number : ℕ → ℕ) (m : Memory) (e : Exchange) (s : State) → ShowsCache number m s → ShowsCache number m (add_exchange e s)
unfolding add_exchange
added_table number m e s shows =
    frames_of number m s shows m (add_exchange e s) (record { instances = refl; lives = refl; chunks = refl; extents = refl })
    (record { instances = refl; made = the_same s.next_instance; chunks = refl; followers = λ id. refl; kept = λ x. refl })

pub begins : BeginsAreTheLaws
begins number name owed l p s shows client key aim errand text e shown = record {
  clients = subst (λ (cs : List Client). AreShown number name owed p.seats cs) (sym (added e s).0) shows.clients;
  exchanges = flow_begins number l p.flow s shows.exchanges client key aim errand text e shown;
  table = added_table number p.memory e s shows.table;
  conns = subst (λ (ks : List Conn). ShowConns (add_exchange e s) p.peers ks) (sym (added e s).1) (conns_later s e p.peers s.conns shows.conns);
}

-- ---- both

left_begun : (c : ℕ) (f : Exchanges) → (left_by c f).begun ≡ f.begun
left_begun c f = by (first_of (find (is_asked_by c) f.waiting) (find (is_asked_by c) f.placed))
  where
    at : (x : Entry) (o : Option ℕ)
        → (elim o as (λ t. Exchanges) [
          | None ↦ record f { waiting = without_number x.exchange.number f.waiting; placed = without_number x.exchange.number f.placed }
          | Some k ↦ record f { waiting = changed x.exchange.number nobodys f.waiting; placed = changed x.exchange.number nobodys f.placed }
        ]).begun
        ≡ f.begun
    at x None = refl
    at x (Some k) = refl

    by : (o : Option Entry)
        → (elim o as (λ t. Exchanges) [
          | None ↦ f
          | Some x ↦ elim x.exchange.place as (λ t. Exchanges) [
            | None ↦ record f { waiting = without_number x.exchange.number f.waiting; placed = without_number x.exchange.number f.placed }
            | Some k ↦ record f { waiting = changed x.exchange.number nobodys f.waiting; placed = changed x.exchange.number nobodys f.placed }
          ]
        ]).begun
        ≡ f.begun
    by None = refl
    by (Some x) = at x x.exchange.place

abbrev begun_behind : Exchange → State → Option ℕ → State
begun_behind e s asker = add_exchange e (leave (λ x. is_some_with (λ n. is_of n x) asker) s)

pub asks : AsksAreTheLaws
unfolding begin_exchange
asks number name owed l p s shows c key aim errand text e once shown =
    subst (λ (asker : Option ℕ). ShowsState number name owed l (record p { flow = begun_by c key aim errand text (left_by c p.flow) }) (begun_behind e s asker)) shown.asker
    (begins number name owed l (record p { flow = left_by c p.flow }) (leave (is_of c) s) (leaves number name owed l p s shows c once) c key aim errand text e
    (subst (λ (n : ℕ). ShowsExchange number (begun_with n c key aim errand text) e) (sym (left_begun c p.flow)) shown))
