-- Bytes of the text of an exchange are asked.
use Rattle.std.proofs.Common.{◌≡◌, ◌≤◌, ◌+◌, refl, sym, subst, ap, ◌∙◌, ℕ, Bool, true, false, ◌==◌, ◌||◌, length, List, [], ◌∷◌, Some, None, Option, option_and_then, arith}
use Rattle.std.proofs.lemmas.Bool.Decides.{nat_tests}
use Rattle.pp_cache_law.proofs.Framing.{frames_of, the_same}
use Rattle.pp_cache_law.specs.Pairs.{AreBoth}
use Rattle.pp_cache_law.specs.Tables.{ShowsCache}
use Rattle.pp_flow.specs.Changes.{with_errand}
use Rattle.pp_flow.specs.declared.entry.Entry.{Entry}
use Rattle.pp_flow_law.proofs.Errands.{texts as flow_texts}
use Rattle.pp_flow_law.specs.Tables.{Leaving, line_in}
use Rattle.pp_law.specs.Asking.{ask, ask_body, ask_next, asked_text, asking, is_being_asked, left_in, left_to_ask}
use Rattle.pp_law.specs.Connections.{conn, exchange, is_conn, is_outstanding, on_exchange}
use Rattle.pp_law.specs.Lists.{Bytes, change, first_some, has_number}
use Rattle.pp_law.specs.State.{State, Client, Conn, Exchange}
use Rattle.pp_peers.specs.Peers.{with_pipe}
use Rattle.pp_peers.specs.declared.peers.Peer.{Peer}
use Rattle.pp_peers_law.proofs.Asks.{asks as line_asks}
use Rattle.pp_peers_law.proofs.Finds.{find_elsewhere, found_number, same_number}
use Rattle.pp_peers_law.specs.Peers.{ShowsConn, ShowsPipe}
use Rattle.pp_pipe.specs.Line.{taken}
use Rattle.pp_seats_law.specs.Clients.{AreShown}
use Rattle.pp_states_law.specs.Asks.{IsAskedAs}
use Rattle.pp_states_law.specs.Askings.{IsNext, TextsAreTheLaws}
use Rattle.pp_states_law.specs.States.{Parts, ShowsState}
use Rattle.pp_states_law.proofs.Alone.{AsksOn, line_distinct, on_pipe, same_some, two_numbers}
use Rattle.pp_states_law.proofs.Asked.{itself}
use Rattle.pp_states_law.proofs.Lines.{IsPlaced, in_line, same_itself}

-- ---- what is asked next stands in the line

abbrev asked_first : State → List ℕ → Option Exchange
asked_first s line = first_some (λ m. option_and_then left_in (exchange s m)) line

pub record IsInLine (s : State) (line : List ℕ) (e : Exchange) : Type 0 where
  pub known : exchange s e.number ≡ Some e
  pub stands : has_number e.number line ≡ true

first_in_line : (s : State) (line : List ℕ) (e : Exchange) → asked_first s line ≡ Some e → IsInLine s line e
first_in_line s [] e next = absurd (cc next)
first_in_line s (n ∷ line) e next = by (exchange s n) refl next (first_in_line s line e)
  where
    later : IsInLine s line e → IsInLine s (n ∷ line) e
    later one = record { known = one.known; stands = or_later (n == e.number) (has_number e.number line) one.stands }
      where
        or_later : (a b : Bool) → b ≡ true → a || b ≡ true
        or_later true b is = refl
        or_later false b is = is

    here : (d : Exchange) → exchange s n ≡ Some d → d ≡ e → IsInLine s (n ∷ line) e
    here d is same =
        let found : exchange s n ≡ Some e = is ∙ ap (λ (x : Exchange). Some x) same in
        let number : e.number ≡ n = same_number e.number n (found_number n s.exchanges e found) in
        record { known = ap (λ (i : ℕ). exchange s i) number ∙ found; stands = ap (λ (i : ℕ). (n == i) || has_number i line) number ∙ ap (λ (b : Bool). b || has_number n line) (same_itself n) }

    at : (d : Exchange) (t : Bool) → exchange s n ≡ Some d
        → (elim (elim t as (λ x. Option Exchange) [ true ↦ Some d | false ↦ None ]) as (λ x. Option Exchange) [ Some y ↦ Some y | None ↦ asked_first s line ]) ≡ Some e → (asked_first s line ≡ Some e → IsInLine s line e) → IsInLine s (n ∷ line) e
    at d true is next rest = here d is (let same : d ≡ e = cc next in same)
    at d false is next rest = later (rest next)

    by : (o : Option Exchange) → exchange s n ≡ o
        → (elim (option_and_then left_in o) as (λ x. Option Exchange) [ Some y ↦ Some y | None ↦ asked_first s line ]) ≡ Some e → (asked_first s line ≡ Some e → IsInLine s line e) → IsInLine s (n ∷ line) e
    by None is next rest = later (rest next)
    by (Some d) is next rest = at d (is_being_asked d) is next rest

pub asked_in_line : (s : State) (k : Conn) (e : Exchange) → conn s k.number ≡ Some k → asking s k.number ≡ Some e → IsInLine s k.line e
asked_in_line s k e there next =
    first_in_line s k.line e (sym (ap (λ (o : Option Conn). elim o as (λ x. Option Exchange) [ None ↦ None | Some j ↦ asked_first s j.line ]) there) ∙ next)

-- whose place is on that connection alone
other_place : (j k : ℕ) → (j == k) ≡ false → Some j ≡ Some k → ⊥
other_place j k off same = let both : j ≡ k = cc same in absurd (grind (arith, nat_tests))

pub apart_on : (number : ℕ → ℕ) (name : Bytes) (owed : List Bytes) (l : Leaving) (p : Parts) (s : State) (e : Exchange) (k : Conn) → ShowsState number name owed l p s → conn s k.number ≡ Some k → IsInLine s k.line e
    → (j m : ℕ) → (j == k.number) ≡ false → IsPlaced j m s → (e.number == m) ≡ false
apart_on number name owed l p s e k shows there stands j m off placed = two_numbers s e.number m e placed.known stands.known placed.there (λ same. other_place j k.number off (sym placed.place ∙ same ∙ on))
  where
    own : IsPlaced k.number e.number s
    own = in_line number l p.flow s shows.exchanges k.number e.number (ap (λ (o : Option Conn). has_number e.number (line_in o)) there ∙ stands.stands)

    on : e.place ≡ Some k.number
    on = ap (λ (d : Exchange). d.place) (same_some own.known e (exchange s e.number) own.there stands.known) ∙ own.place

-- ---- its text

asked_exchange : (s : State) (e : Exchange) (m n : ℕ) → (e.number == n) ≡ false → exchange (on_exchange e.number (asked_text m s.clock) s) n ≡ exchange s n
unfolding on_exchange
asked_exchange s e m n isnt = find_elsewhere e.number n (asked_text m s.clock) (λ x. refl) isnt s.exchanges

text_next : (s : State) (e : Exchange) (m : ℕ) → is_outstanding e ≡ false → ask_next e m s ≡ on_exchange e.number (asked_text m s.clock) s
unfolding ask_next
text_next s e m is = ap (λ (b : Bool). elim b as (λ x. State) [ false ↦ on_exchange e.number (asked_text m s.clock) s | true ↦ ask_body e m s ]) is

pub asks_next : (s : State) (k m : ℕ) (e : Exchange) → asking s k ≡ Some e → ask k m s ≡ ask_next e m s
unfolding ask
asks_next s k m e next = ap (λ (o : Option Exchange). elim o as (λ x. State) [ None ↦ s | Some d ↦ ask_next d m s ]) next

all_same : (n : ℕ) (ks : List Conn) → ks ≡ change (is_conn n) (λ k. k) ks
all_same n [] = refl
all_same n (k ∷ ks) = by (is_conn n k) (all_same n ks)
  where
    by : (b : Bool) → ks ≡ change (is_conn n) (λ j. j) ks → k ∷ ks ≡ (elim b as (λ t. Conn) [ true ↦ k | false ↦ k ]) ∷ change (is_conn n) (λ j. j) ks
    by true rest = ap (λ (js : List Conn). k ∷ js) rest
    by false rest = ap (λ (js : List Conn). k ∷ js) rest

text_rest : (s : State) (n m : ℕ) → ((on_exchange n (asked_text m s.clock) s).clients ≡ s.clients) × ((on_exchange n (asked_text m s.clock) s).conns ≡ s.conns)
unfolding on_exchange
text_rest s n m = (refl, refl)

text_table : (number : ℕ → ℕ) (p : Parts) (s : State) (n m : ℕ) → ShowsCache number p.memory s → ShowsCache number p.memory (on_exchange n (asked_text m s.clock) s)
unfolding on_exchange
text_table number p s n m shows =
    frames_of number p.memory s shows p.memory (on_exchange n (asked_text m s.clock) s) (record { instances = refl; lives = refl; chunks = refl; extents = refl })
    (record { instances = refl; made = the_same s.next_instance; chunks = refl; followers = λ id. refl; kept = λ x. refl })

text_conn : (number : ℕ → ℕ) (name : Bytes) (owed : List Bytes) (l : Leaving) (p : Parts) (s : State) (m : ℕ) (x : Entry) (e : Exchange) (peer : Peer) (k : Conn) → ShowsState number name owed l p s → IsNext p s x e k → is_outstanding e ≡ false
    → m ≤ length (left_to_ask s e) → ShowsConn s peer k → ShowsConn (on_exchange e.number (asked_text m s.clock) s) (record peer { pipe = taken m peer.pipe }) k
text_conn number name owed l p s m x e peer k shows is text few shown = record {
  number = shown.number;
  host = shown.host;
  port = shown.port;
  is_reached = shown.is_reached;
  has_brought = shown.has_brought;
  may_pipeline = shown.may_pipeline;
  is_closing = shown.is_closing;
  stays = shown.stays;
  mark = shown.mark;
  has_waited = shown.has_waited;
  pipe = λ goes.
      subst (λ (t : State). ShowsPipe t (record peer { pipe = taken m peer.pipe }) k) (text_next s e m text)
      (line_asks s peer k e m shown goes (record { there = is.there; next = is.next; of_text = text }) (line_distinct number l p.flow s k shows.exchanges is.there) few);
}

pub texts : TextsAreTheLaws
texts number name owed l p s shows m x e peer k apart linked is text few = subst (λ (u : State). ShowsState number name owed l after u) (sym (asks_next s k.number m e is.next ∙ text_next s e m text)) there
  where
    t : State
    t = on_exchange e.number (asked_text m s.clock) s

    after : Parts
    after = record p {
      flow = with_errand e.number (record x.errand { asked = x.errand.asked + m; requested = s.clock }) p.flow;
      peers = with_pipe k.number (taken m peer.pipe) p.peers;
    }

    as_before : AsksOn k.number s t
    as_before j n off placed =
        subst (λ (o : Option Exchange). AreBoth IsAskedAs (exchange s n) o) (sym (asked_exchange s e m n (apart_on number name owed l p s e k shows is.there (asked_in_line s k e is.there is.next) j n off placed))) (itself (exchange s n))

    there : ShowsState number name owed l after t
    there = record {
      clients = subst (λ (cs : List Client). AreShown number name owed p.seats cs) (sym (text_rest s e.number m).0) shows.clients;
      exchanges = flow_texts number l p.flow s shows.exchanges e.number m x is.entry;
      table = text_table number p s e.number m shows.table;
      conns =
          on_pipe number name owed l p s t peer (taken m peer.pipe) k (λ j. j) shows apart linked is.there as_before ((text_rest s e.number m).1 ∙ all_same k.number s.conns)
          (text_conn number name owed l p s m x e peer k shows is text few);
    }
