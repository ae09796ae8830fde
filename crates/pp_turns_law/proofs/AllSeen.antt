-- What nobody will see is dropped on all connections, one behind the other.
use Rattle.std.proofs.Common.{◌≡◌, refl, sym, subst, ap, ap₂, ◌∙◌, ℕ, Bool, true, false, ◌||◌, cond, find, map, List, [], ◌∷◌, Some, None, Option}
use Rattle.std.specs.List.{fold}
use Rattle.pp_turns_law.proofs.Unseen.{unseen}
use Rattle.pp_turns_law.specs.Unseen.{IsCounted}
use Rattle.pp_cache_law.specs.Pairs.{AreBoth}
use Rattle.pp_flow.specs.Changes.{entry_of}
use Rattle.pp_flow.specs.declared.entry.Entry.{Entry}
use Rattle.pp_flow.specs.declared.errand.Body.{Body}
use Rattle.pp_flow.specs.declared.errand.Body.TheVariants.{Pending, Joining, Relaying, Dropping}
use Rattle.pp_flow_law.proofs.Standing.{few_in_both}
use Rattle.pp_flow_law.specs.Tables.{line_in, none_leaves}
use Rattle.pp_law.specs.Connections.{close_conn, conn, each_conn, end_exchange, exchange}
use Rattle.pp_law.specs.Lists.{Bytes, has_number}
use Rattle.pp_law.specs.State.{State, Conn, Exchange}
use Rattle.pp_law.specs.Unseen.{came_of, drop_on, drop_unseen, is_unseen}
use Rattle.pp_peers.specs.Peers.{is_number}
use Rattle.pp_peers.specs.declared.peers.Peer.{Peer}
use Rattle.pp_peers_law.specs.Peers.{ShowConns}
use Rattle.pp_desk.specs.Closings.{Sides, closed_line, dropped_with, peer_numbers}
use Rattle.pp_desk.specs.Origins.{unseen_dropped, without_unseen_on}
use Rattle.pp_seats_law.specs.Exchanges.{ShowsExchange}
use Rattle.pp_states_law.proofs.Lines.{same_itself}
use Rattle.pp_state.specs.Ends.{ended}
use Rattle.pp_state.specs.Lines.{lost_line}
use Rattle.pp_state.specs.Unseen.{is_nobodys, unseen_in}
use Rattle.pp_states_law.proofs.Charged.{number_is}
use Rattle.pp_turns_law.proofs.StillFollowing.{follow_on}
use Rattle.pp_turns_law.proofs.Seen.{drops_on, dropped_if, dropped_first, dropped_line, line_is, unseen_line}
use Rattle.pp_turns_law.proofs.Still.{HadEntry, Stays, dropped_stays, ended_stays}
use Rattle.pp_turns_law.proofs.Watched.{HadConn, Stays as LawStays, dropped_stays as law_stays}
use Rattle.pp_turns_law.specs.Sides.{ShowsSides}
use Rattle.pp_turns_law.specs.Unread.{Tells, UnseenAreTheLaws}

-- ---- what is dropped leaves what is told of the others

program_stays : (m n : ℕ) (x : Sides) → Stays x.parts (dropped_with m n x).parts
program_stays m n x = by (find (is_number n) x.peers)
  where
    at : (b : Bool) → Stays x.parts (cond b (ended m x.parts) (lost_line 1024 n false (ended m x.parts)))
    at true = ended_stays m x.parts
    at false = dropped_stays 1024 m n x.parts

    by : (o : Option Peer) → Stays x.parts (closed_line n false o (ended m x.parts))
    by None = ended_stays m x.parts
    by (Some peer) = at peer.is_closing

counted_as : (body : Body) (k j : Conn) → came_of j ≡ came_of k → IsCounted body k → IsCounted body j
counted_as Pending k j same counted = tt
counted_as (Joining wanted) k j same counted = tt
counted_as Relaying k j same counted = tt
counted_as (Dropping count) k j same counted = counted ∙ sym same

tells_dropped : (number : ℕ → ℕ) (name : Bytes) (x : Sides) (s : State) → ShowsSides number name x s → (m n : ℕ) (k : Conn) → Tells x s → Tells (dropped_with m n x) (close_conn false k (end_exchange m s))
tells_dropped number name x s shows m n k tells =
    let p : Stays x.parts (dropped_with m n x).parts = program_stays m n x in
    let l : LawStays s (close_conn false k (end_exchange m s)) = law_stays m k s in
    record {
      following = follow_on x.parts.cache (dropped_with m n x).parts.cache s (close_conn false k (end_exchange m s)) x.parts.seats (dropped_with m n x).parts.seats p.cache l.instances p.nexts l.replies tells.following;
      counted = λ i j there e y has here. one i j e y (l.conns i j there) (p.entries (few_in_both number none_leaves x.parts.flow s shows.steps.shows.exchanges) e y here) has;
    }
  where
    one : (i : ℕ) (j : Conn) (e : ℕ) (y : Entry) → HadConn s i j → HadEntry x.parts.flow e y → has_number e j.line ≡ true → IsCounted y.errand.body j
    one i j e y a b has =
        subst (λ (body : Body). IsCounted body j) (sym b.body)
        (counted_as b.before.errand.body a.before j (a.line e has).1 (tells.counted i a.before a.there e b.before (a.line e has).0 b.there))

module _ (number : ℕ → ℕ) (name : Bytes) (x : Sides) (s : State) (shows : ShowsSides number name x s) (n : ℕ) (k : Conn) (there : conn s n ≡ Some k) (tells : Tells x s) where
  by_entry : (m : ℕ) (others : List ℕ) → k.line ≡ m ∷ others → (o : Option Entry) (u : Option Exchange) → entry_of m x.parts.flow ≡ o → exchange s m ≡ u → AreBoth (ShowsExchange number) o u
      → Tells (unseen_dropped n (unseen_in x.parts.seats m o) x) (dropped_first k s u)
  by_entry m others is None None here known both = tells
  by_entry m others is None (Some d) here known both = absurd both
  by_entry m others is (Some e) None here known both = absurd both
  by_entry m others is (Some e) (Some d) here known both = subst (λ (b : Bool). Tells (unseen_dropped n (cond b (Some m) None) x) (dropped_if k s d (is_unseen s k d))) (sym same) (settle (is_unseen s k d))
    where
      has : has_number m k.line ≡ true
      has = ap (λ (ns : List ℕ). has_number m ns) is ∙ ap (λ (b : Bool). b || has_number m others) (same_itself m)

      same : is_nobodys x.parts.seats e ≡ is_unseen s k d
      same = unseen number name none_leaves x.peers x.parts s shows.steps k m e d tells.following here known (tells.counted n k there m e has here)

      settle : (b : Bool) → Tells (unseen_dropped n (cond b (Some m) None) x) (dropped_if k s d b)
      settle false = tells
      settle true = subst (λ (i : ℕ). Tells (dropped_with m n x) (close_conn false k (end_exchange i s))) (sym (number_is m s d known)) (tells_dropped number name x s shows m n k tells)

  by_line : (line : List ℕ) → k.line ≡ line → Tells (unseen_line n x line) (dropped_line k s line)
  by_line [] is = tells
  by_line (m ∷ others) is = by_entry m others is (entry_of m x.parts.flow) (exchange s m) refl refl (shows.steps.shows.exchanges.each m)

tells_on : (number : ℕ → ℕ) (name : Bytes) (x : Sides) (s : State) → ShowsSides number name x s → (n : ℕ) (k : Conn) → conn s n ≡ Some k → Tells x s → Tells (without_unseen_on x n) (drop_on k s)
unfolding drop_on
tells_on number name x s shows n k there tells =
    subst (λ (line : List ℕ). Tells (unseen_line n x line) (dropped_line k s k.line)) (sym (line_is number name x s shows n k there tells)) (by_line number name x s shows n k there tells k.line refl)

-- ---- one behind the other

none_there : (number : ℕ → ℕ) (name : Bytes) (x : Sides) (s : State) → ShowsSides number name x s → (n : ℕ) → conn s n ≡ None → without_unseen_on x n ≡ x
none_there number name x s shows n none = ap (λ (line : List ℕ). unseen_line n x line) (shows.steps.shows.exchanges.lines n ∙ ap (λ (o : Option Conn). line_in o) none)

abbrev dropped_at : State → Option Conn → State
dropped_at s o = elim o as (λ t. State) [ None ↦ s | Some k ↦ drop_on k s ]

one_by_one : (number : ℕ → ℕ) (name : Bytes) (ns : List ℕ) (x : Sides) (s : State) → ShowsSides number name x s → Tells x s
    → ShowsSides number name (fold without_unseen_on x ns) (each_conn drop_on ns s) × Tells (fold without_unseen_on x ns) (each_conn drop_on ns s)
unfolding each_conn
one_by_one number name [] x s shows tells = (shows, tells)
one_by_one number name (n ∷ ns) x s shows tells = one_by_one number name ns (without_unseen_on x n) (dropped_at s (conn s n)) (shown (conn s n) refl) (told (conn s n) refl)
  where
    shown : (o : Option Conn) → conn s n ≡ o → ShowsSides number name (without_unseen_on x n) (dropped_at s o)
    shown None none = subst (λ (y : Sides). ShowsSides number name y s) (sym (none_there number name x s shows n none)) shows
    shown (Some k) there = drops_on number name x s shows n k there tells

    told : (o : Option Conn) → conn s n ≡ o → Tells (without_unseen_on x n) (dropped_at s o)
    told None none = subst (λ (y : Sides). Tells y s) (sym (none_there number name x s shows n none)) tells
    told (Some k) there = tells_on number name x s shows n k there tells

same_numbers : (s : State) (ps : List Peer) (ks : List Conn) → ShowConns s ps ks → peer_numbers ps ≡ map (λ (k : Conn). k.number) ks
same_numbers s [] [] shows = refl
same_numbers s [] (k ∷ ks) shows = absurd shows
same_numbers s (p ∷ ps) [] shows = absurd shows
same_numbers s (p ∷ ps) (k ∷ ks) shows = ap₂ (λ (n : ℕ) (ns : List ℕ). n ∷ ns) shows.0.number (same_numbers s ps ks shows.1)

pub all_drop : UnseenAreTheLaws
unfolding drop_unseen
all_drop number name x s shows tells =
    subst (λ (ns : List ℕ). ShowsSides number name (fold without_unseen_on x ns) (each_conn drop_on (map (λ (k : Conn). k.number) s.conns) s) × Tells (fold without_unseen_on x ns) (each_conn drop_on (map (λ (k : Conn). k.number) s.conns) s))
    (sym (same_numbers s x.peers s.conns shows.steps.shows.conns))
    (one_by_one number name (map (λ (k : Conn). k.number) s.conns) x s shows tells)
