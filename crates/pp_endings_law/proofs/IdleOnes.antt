-- Connections to origins that did nothing while they were waited for are closed, as the law says.
use Rattle.std.proofs.Common.{◌≡◌, refl, sym, subst, ap, ap₂, ◌∙◌, ℕ, ◌-◌, Bool, true, false, not, ◌==◌, ◌&&◌, ◌||◌, cond, nat_le, nat_lt, find, map, List, [], ◌∷◌, Some, None, Option, arith}
use Rattle.std.proofs.lemmas.Bool.Decides.{nat_tests}
use Rattle.std.specs.List.{fold}
use Rattle.std.specs.Prelude.{slice_get}
use Rattle.pp_cache_law.proofs.Finds.{find_passes}
use Rattle.pp_cache_law.proofs.Numbers.{is_same}
use Rattle.pp_cache_law.specs.Pairs.{AreBoth}
use Rattle.pp_turns_law.proofs.Peers.{HasPeer, linked}
use Rattle.pp_turns_law.proofs.Shut.{shuts}
use Rattle.pp_turns_law.specs.Sides.{ShowsSides}
use Rattle.pp_desk.specs.Closings.{Sides, peer_numbers, with_parts}
use Rattle.pp_desk.specs.Origins.{given_up, is_idle_in, patience, patience_ended, unanswered, without_idle_on}
use Rattle.pp_flow.specs.Changes.{entry_of, line_of}
use Rattle.pp_flow.specs.declared.entry.Entry.{Entry}
use Rattle.pp_flow.specs.declared.entry.Exchange.{Exchange as Asked}
use Rattle.pp_flow_law.specs.Tables.{line_in, none_leaves}
use Rattle.pp_law.specs.Connections.{close_conn, conn, each_conn, exchange, fail, is_outstanding}
use Rattle.pp_law.specs.Lists.{Bytes, is_some_with}
use Rattle.pp_law.specs.State.{State, Conn, Exchange}
use Rattle.pp_law.specs.Turn.{close_idle_conn, end_patience, is_idle_conn}
use Rattle.pp_peers.specs.Peers.{is_number}
use Rattle.pp_peers.specs.declared.peers.Peer.{Peer}
use Rattle.pp_peers_law.specs.Peers.{ShowConns}
use Rattle.pp_seats_law.proofs.Entries.{exchanges}
use Rattle.pp_seats_law.specs.Exchanges.{ShowsExchange}
use Rattle.pp_state.specs.Asking.{is_being_asked, owed_answer, owed_by, owed_to}
use Rattle.pp_states_law.proofs.Charged.{failures}
use Rattle.pp_endings_law.proofs.Rests.{IsBut, but_then, closed, failed, failed_conns, failed_may}
use Rattle.pp_endings_law.specs.Idle.{IdleOneIsClosedAsTheLaws, IdleOnesAreClosedAsTheLaws, without_idle_conns}

-- ---- whose answer is due

abbrev pub owes : Exchange → Bool
owes e = is_outstanding e && (e.body_left == 0)

asked_whole : (out : Bool) (n : ℕ) → (not out || nat_lt 0 n) ≡ not (out && (n == 0))
asked_whole true n = grind (arith, nat_tests)
asked_whole false n = refl

pub owing : (number : ℕ → ℕ) (x : Entry) (e : Exchange) → ShowsExchange number x e → is_being_asked x ≡ not (owes e)
owing number x e shows =
    ap₂ (λ (out : Bool) (n : ℕ). not out || nat_lt 0 n) (exchanges number x e shows).outstanding shows.body_left ∙ asked_whole (is_outstanding e) e.body_left

-- ---- one connection, by what stands first in its line

abbrev first_in : State → List ℕ → Option Exchange
first_in s line = elim line as (λ t. Option Exchange) [ [] ↦ None | m ∷ others ↦ exchange s m ]

abbrev owes_by : Option Exchange → Bool
owes_by o = is_some_with owes o

abbrev ends_by : State → Option Exchange → State
ends_by s o = elim (owes_by o) as (λ t. State) [ false ↦ s | true ↦ elim o as (λ t. State) [ None ↦ s | Some e ↦ fail e s ] ]

patience_is : (k : Conn) (s : State) → end_patience k s ≡ ends_by s (first_in s k.line)
unfolding end_patience
patience_is k s = refl

module _ (number : ℕ → ℕ) (name : Bytes) (x : Sides) (s : State) (shows : ShowsSides number name x s) where
  -- what the program gives up, and the law
  record IsGivenUp (o : Option Asked) (d : Option Exchange) : Type 0 where
    shown : ShowsSides number name (with_parts (unanswered o) x) (ends_by s d)
    conns : (ends_by s d).conns ≡ s.conns
    but : IsBut s (ends_by s d)
    time : patience o ≡ (elim (owes_by d) as (λ t. ℕ) [ true ↦ 300 | false ↦ 60 ])

  none_given : (o : Option Asked) (d : Option Exchange) → o ≡ None → owes_by d ≡ false → IsGivenUp o d
  none_given o d none isnt = record {
    shown = subst (λ (a : Option Asked). ShowsSides number name (with_parts (unanswered a) x) (ends_by s d)) (sym none) (subst (λ (t : State). ShowsSides number name x t) (sym stays) shows);
    conns = ap (λ (t : State). t.conns) stays;
    but = subst (λ (t : State). IsBut s t) (sym stays) refl;
    time = ap patience none ∙ sym (ap (λ (b : Bool). elim b as (λ t. ℕ) [ true ↦ 300 | false ↦ 60 ]) isnt);
  }
    where
      stays : ends_by s d ≡ s
      stays = ap (λ (b : Bool). elim b as (λ t. State) [ false ↦ s | true ↦ elim d as (λ t. State) [ None ↦ s | Some e ↦ fail e s ] ]) isnt

  one_given : (m : ℕ) (y : Entry) (e : Exchange) → entry_of m x.parts.flow ≡ Some y → exchange s m ≡ Some e → ShowsExchange number y e → IsGivenUp (owed_by (Some y)) (Some e)
  one_given m y e here there same = by (owes e) refl
    where
      by : (b : Bool) → owes e ≡ b → IsGivenUp (owed_by (Some y)) (Some e)
      by false isnt = none_given (owed_by (Some y)) (Some e) (ap (λ (b : Bool). cond b None (Some y.exchange)) (owing number y e same ∙ ap not isnt)) isnt
      by true is =
          let owed : owed_by (Some y) ≡ Some y.exchange = ap (λ (b : Bool). cond b None (Some y.exchange)) (owing number y e same ∙ ap not is) in
          let fails : ends_by s (Some e) ≡ fail e s = ap (λ (b : Bool). elim b as (λ t. State) [ false ↦ s | true ↦ fail e s ]) is in record {
            shown = subst (λ (a : Option Asked). ShowsSides number name (with_parts (unanswered a) x) (ends_by s (Some e))) (sym owed)
                (subst (λ (t : State). ShowsSides number name (with_parts (unanswered (Some y.exchange)) x) t) (sym fails) (record {
                  steps = failures number name none_leaves x.peers x.parts s shows.steps m y e (record { here = here; there = there }) (shows.may.go.going m e there);
                  may = failed_may e s shows.may;
                }));
            conns = ap (λ (t : State). t.conns) fails ∙ failed_conns e s;
            but = subst (λ (t : State). IsBut s t) (sym fails) (failed e s);
            time = ap patience owed ∙ sym (ap (λ (b : Bool). elim b as (λ t. ℕ) [ true ↦ 300 | false ↦ 60 ]) is);
          }

  given_by : (m : ℕ) (a : Option Entry) (d : Option Exchange) → entry_of m x.parts.flow ≡ a → exchange s m ≡ d → AreBoth (ShowsExchange number) a d → IsGivenUp (owed_by a) d
  given_by m None None here there both = none_given None None refl refl
  given_by m (Some y) (Some e) here there both = one_given m y e here there both
  given_by m None (Some e) here there both = absurd both
  given_by m (Some y) None here there both = absurd both

  given_line : (line : List ℕ) → IsGivenUp (owed_to x.parts.flow (slice_get line 0)) (first_in s line)
  given_line [] = none_given None None refl refl
  given_line (m ∷ others) = given_by m (entry_of m x.parts.flow) (exchange s m) refl refl (shows.steps.shows.exchanges.each m)

  module _ (n : ℕ) (k : Conn) (there : conn s n ≡ Some k) where
    line_is : line_of n x.parts.flow.placed ≡ k.line
    line_is = shows.steps.shows.exchanges.lines n ∙ ap (λ (o : Option Conn). line_in o) there

    given : IsGivenUp (owed_answer n x.parts.flow) (first_in s k.line)
    given = subst (λ (line : List ℕ). IsGivenUp (owed_to x.parts.flow (slice_get line 0)) (first_in s k.line)) (sym line_is) (given_line k.line)

    peer : HasPeer s n x.peers k
    peer = linked s n x.peers s.conns k there shows.steps.shows.conns

    -- by the number of the connection that the peer shows
    idle_same : is_idle_in s.clock x.parts.flow (find (is_number n) x.peers) ≡ is_idle_conn s k
    idle_same =
        ap (λ (o : Option Peer). is_idle_in s.clock x.parts.flow o) peer.there
        ∙ ap (λ (m : ℕ). peer.peer.has_waited && nat_le (patience (owed_answer m x.parts.flow)) (s.clock - peer.peer.mark) && not peer.peer.is_closing) numbered
        ∙ ap₂ (λ (waited closing : Bool). waited && nat_le (patience (owed_answer n x.parts.flow)) (s.clock - peer.peer.mark) && not closing) peer.shows.has_waited peer.shows.is_closing
        ∙ ap₂ (λ (p mark : ℕ). k.has_waited && nat_le p (s.clock - mark) && not k.is_closing) given.time peer.shows.mark
      where
        numbered : peer.peer.number ≡ n
        numbered = is_same peer.peer.number n (find_passes (is_number n) x.peers peer.peer peer.there)

    abbrev idle_if : Bool → Sides
    idle_if b = cond b (given_up n x) x

    abbrev law_if : Bool → State
    law_if b = elim b as (λ t. State) [ true ↦ close_conn true k (end_patience k s) | false ↦ s ]

    law_is : close_idle_conn k s ≡ law_if (is_idle_conn s k)
    unfolding close_idle_conn
    law_is = refl

    settled : (b : Bool) → ShowsSides number name (idle_if b) (law_if b)
    settled false = shows
    settled true =
        subst (λ (t : State). ShowsSides number name (given_up n x) (close_conn true k t)) (sym (patience_is k s))
        (shuts number name (with_parts (patience_ended n) x) (ends_by s (first_in s k.line)) given.shown n true k (ap (λ (ks : List Conn). find (λ (j : Conn). j.number == n) ks) given.conns ∙ there))

    pub one_is : ShowsSides number name (without_idle_on s.clock x n) (close_idle_conn k s)
    one_is = subst (λ (t : State). ShowsSides number name (without_idle_on s.clock x n) t) (sym law_is) (subst (λ (b : Bool). ShowsSides number name (idle_if b) (law_if (is_idle_conn s k))) (sym idle_same) (settled (is_idle_conn s k)))

    but_if : (b : Bool) → IsBut s (law_if b)
    but_if false = refl
    but_if true =
        subst (λ (t : State). IsBut s (close_conn true k t)) (sym (patience_is k s))
        (but_then s (ends_by s (first_in s k.line)) (close_conn true k (ends_by s (first_in s k.line))) given.but (closed true k (ends_by s (first_in s k.line))))

    pub one_but : IsBut s (close_idle_conn k s)
    one_but = subst (λ (t : State). IsBut s t) (sym law_is) (but_if (is_idle_conn s k))

pub idle_one : IdleOneIsClosedAsTheLaws
idle_one number name x s shows n k there = one_is number name x s shows n k there

-- ---- one behind the other

none_idle : (number : ℕ → ℕ) (name : Bytes) (x : Sides) (s : State) → ShowsSides number name x s → (n : ℕ) → conn s n ≡ None → without_idle_on s.clock x n ≡ x
none_idle number name x s shows n none = ap (λ (o : Option Peer). cond (is_idle_in s.clock x.parts.flow o) (given_up n x) x) (none_linked x.peers s.conns none shows.steps.shows.conns)
  where
    none_linked : (ps : List Peer) (ks : List Conn) → find (λ (k : Conn). k.number == n) ks ≡ None → ShowConns s ps ks → find (is_number n) ps ≡ None
    none_linked [] [] nobody shown = refl
    none_linked [] (k ∷ ks) nobody shown = absurd shown
    none_linked (p ∷ ps) [] nobody shown = absurd shown
    none_linked (p ∷ ps) (k ∷ ks) nobody shown = by (p.number == n) (k.number == n) (ap (λ (m : ℕ). m == n) shown.0.number) nobody (λ rest. none_linked ps ks rest shown.1)
      where
        by : (a b : Bool) → a ≡ b → cond b (Some k) (find (λ (j : Conn). j.number == n) ks) ≡ None → (find (λ (j : Conn). j.number == n) ks ≡ None → find (is_number n) ps ≡ None) → cond a (Some p) (find (is_number n) ps) ≡ None
        by a true same nothing rest = absurd (cc nothing)
        by true false same nothing rest = absurd (cc same)
        by false false same nothing rest = rest nothing

abbrev idle_at : State → Option Conn → State
idle_at s o = elim o as (λ t. State) [ None ↦ s | Some k ↦ close_idle_conn k s ]

record IsDone (number : ℕ → ℕ) (name : Bytes) (y : Sides) (s t : State) : Type 0 where
  shown : ShowsSides number name y t
  but : IsBut s t

one_by_one : (number : ℕ → ℕ) (name : Bytes) (now : ℕ) (ns : List ℕ) (x : Sides) (s : State) → s.clock ≡ now → ShowsSides number name x s → IsDone number name (fold (without_idle_on now) x ns) s (each_conn close_idle_conn ns s)
unfolding each_conn
one_by_one number name now [] x s same shows = record { shown = shows; but = refl }
one_by_one number name now (n ∷ ns) x s same shows =
    let t : State = idle_at s (conn s n) in
    let first : IsDone number name (without_idle_on now x n) s t = subst (λ (m : ℕ). IsDone number name (without_idle_on m x n) s t) same (done (conn s n) refl) in
    let rest : IsDone number name (fold (without_idle_on now) (without_idle_on now x n) ns) t (each_conn close_idle_conn ns t)
    = one_by_one number name now ns (without_idle_on now x n) t (ap (λ (u : State). u.clock) first.but ∙ same) first.shown in
    record { shown = rest.shown; but = but_then s t (each_conn close_idle_conn ns t) first.but rest.but }
  where
    done : (o : Option Conn) → conn s n ≡ o → IsDone number name (without_idle_on s.clock x n) s (idle_at s o)
    done None none = record { shown = subst (λ (y : Sides). ShowsSides number name y s) (sym (none_idle number name x s shows n none)) shows; but = refl }
    done (Some k) there = record { shown = one_is number name x s shows n k there; but = one_but number name x s shows n k there }

same_numbers : (s : State) (ps : List Peer) (ks : List Conn) → ShowConns s ps ks → peer_numbers ps ≡ map (λ (k : Conn). k.number) ks
same_numbers s [] [] shows = refl
same_numbers s [] (k ∷ ks) shows = absurd shows
same_numbers s (p ∷ ps) [] shows = absurd shows
same_numbers s (p ∷ ps) (k ∷ ks) shows = ap₂ (λ (n : ℕ) (ns : List ℕ). n ∷ ns) shows.0.number (same_numbers s ps ks shows.1)

pub all_idle : IdleOnesAreClosedAsTheLaws
all_idle number name x s shows =
    let done : IsDone number name (fold (without_idle_on s.clock) x (map (λ (k : Conn). k.number) s.conns)) s (without_idle_conns s)
    = one_by_one number name s.clock (map (λ (k : Conn). k.number) s.conns) x s refl shows in
    (subst (λ (ns : List ℕ). ShowsSides number name (fold (without_idle_on s.clock) x ns) (without_idle_conns s)) (sym (same_numbers s x.peers s.conns shows.steps.shows.conns)) done.shown, record { rest = done.but })
