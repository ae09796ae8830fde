-- An ask of which no byte was written is taken out of its line.
use Rattle.std.proofs.Common.{◌≡◌, refl, sym, subst, ap, ap₂, ◌∙◌, ℕ, suc, ◌+◌, ◌-◌, Bool, true, false, not, ◌==◌, ◌||◌, cond, drop, filter, length, take, List, [], ◌∷◌, ◌++◌, Some, None, Option, arith}
use Rattle.std.proofs.Math.Seq.{drop-append-add, take-append-add}
use Rattle.std.proofs.lemmas.List.{append_assoc, length-drop}
use Rattle.std.proofs.lemmas.List.Sums.{sum_by-cons}
use Rattle.std.specs.List.{remove}
use Rattle.std.specs.Prelude.{nat_lt, option_map, slice_get}
use Rattle.pp_cache_law.proofs.Numbers.{some_is}
use Rattle.pp_flow_law.proofs.Entries.{none_some, same_number}
use Rattle.pp_law.specs.Connections.{end_exchange, exchange, without_ask}
use Rattle.pp_law.specs.Lists.{Bytes, has_number}
use Rattle.pp_law.specs.State.{State, Conn, Exchange}
use Rattle.pp_peers.specs.declared.peers.Peer.{Peer}
use Rattle.pp_peers_law.proofs.Finds.{is_alone_in, no_or, other_way}
use Rattle.pp_peers_law.specs.Asked.{AreDistinct}
use Rattle.pp_peers_law.specs.Peers.{has_alone, rest_of, rests_of, ShowsAsk, ShowsConn, ShowsLine, ShowsPipe}
use Rattle.pp_pipe.specs.Asks.{total}
use Rattle.pp_pipe.specs.Line.{Line, is_begun_at, withdrawn_where, without_span}
use Rattle.pp_pipe.specs.declared.asks.Ask.{Ask}
use Rattle.pp_desk.specs.Closings.{unasked, unasked_in}
use Rattle.pp_states_law.proofs.Asked.{line_again}
use Rattle.pp_states_law.proofs.Ended.{asked_on, gone, none_out}
use Rattle.pp_state.specs.Ends.{place_of}

-- ---- the text that is left of each ask

abbrev rest_in : Option Exchange → Bytes
rest_in o = elim o as (λ t. Bytes) [ None ↦ [] | Some e ↦ drop e.asked e.text ]

sized : (asked left len : ℕ) → asked + left ≡ len → left ≡ len - asked
sized asked left len all = omega (arith, all)

as_long : (s : State) (n : ℕ) (ask : Ask) (e : Exchange) → exchange s n ≡ Some e → ShowsAsk ask e → ask.text_left ≡ length (rest_of s n)
as_long s n ask e there shows =
    sized e.asked ask.text_left (length e.text) shows.text
    ∙ sym (length-drop e.asked e.text)
    ∙ sym (ap (λ (o : Option Exchange). length (rest_in o)) there)

total_cons : (ask : Ask) (asks : List Ask) → total (ask ∷ asks) ≡ ask.text_left + total asks
total_cons ask asks = sum_by-cons (λ (a : Ask). a.text_left) ask asks

-- behind a text, a span is cut out as it is without
span_behind : (size a b : ℕ) (text texts : Bytes) → size ≡ length text → without_span (size + a) (size + b) (text ++ texts) ≡ text ++ without_span a b texts
span_behind size a b text texts is =
    ap (λ (i : ℕ). without_span (i + a) (i + b) (text ++ texts)) is
    ∙ ap₂ (λ (left right : Bytes). left ++ right) (take-append-add text texts a) (drop-append-add text texts b)
    ∙ append_assoc text (take a texts) (drop b texts)

span_first : (size : ℕ) (text texts : Bytes) → size ≡ length text → without_span 0 (size + 0) (text ++ texts) ≡ texts
span_first size text texts is = ap (λ (i : ℕ). without_span 0 (i + 0) (text ++ texts)) is ∙ drop-append-add text texts 0

-- ---- the line

rests_same : (s : State) (m : ℕ) (line : List ℕ) → has_number m line ≡ false → rests_of (end_exchange m s) line ≡ rests_of s line
rests_same s m [] none = refl
rests_same s m (n ∷ line) none =
    let these : ((n == m) ≡ false) × (has_number m line ≡ false) = no_or (n == m) (has_number m line) none in
    ap₂ (λ (o : Option Exchange) (t : Bytes). rest_in o ++ t) (gone s m n (other_way n m these.0)) (rests_same s m line these.1)

one_more : (i : ℕ) → suc i + 1 ≡ suc (i + 1)
one_more i = omega arith

none_and : (none n : ℕ) → none ≡ 0 → none + n ≡ n
none_and none n is = omega (arith, is)

-- what the pipe shows without the ask at this place
pub record IsCut (s : State) (m place : ℕ) (ns : List ℕ) (asks : List Ask) : Type 0 where
  pub ask : Ask
  pub e : Exchange
  pub there : exchange s m ≡ Some e
  pub at : slice_get asks place ≡ Some ask
  pub shows : ShowsAsk ask e
  pub line : ShowsLine (end_exchange m s) (filter (λ n. not (n == m)) ns) (remove asks place)
  pub out : without_span (total (take place asks)) (total (take (place + 1) asks)) (rests_of s ns) ≡ rests_of (end_exchange m s) (filter (λ n. not (n == m)) ns)

cut : (s : State) (m : ℕ) (line : List ℕ) (asks : List Ask) (place : ℕ) → AreDistinct line → place_of m line ≡ Some place → ShowsLine s line asks → IsCut s m place line asks
cut s m [] asks place once at shows = absurd (none_some place at)
cut s m (n ∷ line) [] place once at shows = absurd shows
cut s m (n ∷ line) (ask ∷ asks) place once at shows = by (n == m) refl at (λ i found. cut s m line asks i once.1 found shows.1)
  where
    long : ask.text_left ≡ length (rest_of s n)
    long = as_long s n ask shows.0.0 shows.0.1 shows.0.2

    here : (n == m) ≡ true → place ≡ 0 → IsCut s m place (n ∷ line) (ask ∷ asks)
    here is first =
        let same : n ≡ m = same_number n m is in
        let none : has_number m line ≡ false = subst (λ (i : ℕ). has_number i line ≡ false) same once.0 in
        let others : filter (λ i. not (i == m)) (n ∷ line) ≡ line = ap (λ (b : Bool). cond (not b) (n ∷ filter (λ i. not (i == m)) line) (filter (λ i. not (i == m)) line)) is ∙ none_out m line none in
        subst (λ (i : ℕ). IsCut s m i (n ∷ line) (ask ∷ asks)) (sym first) (record {
          ask = ask;
          e = shows.0.0;
          there = ap (λ (i : ℕ). exchange s i) (sym same) ∙ shows.0.1;
          at = refl;
          shows = shows.0.2;
          line = subst (λ (ns : List ℕ). ShowsLine (end_exchange m s) ns asks) (sym others) (line_again s (end_exchange m s) line asks (asked_on s m line none) shows.1);
          out = ap (λ (i : ℕ). without_span 0 i (rest_of s n ++ rests_of s line)) (total_cons ask []) ∙ span_first ask.text_left (rest_of s n) (rests_of s line) long ∙ sym (ap (λ (ns : List ℕ). rests_of (end_exchange m s) ns) others ∙ rests_same s m line none);
        })

    later : (n == m) ≡ false → (i : ℕ) → IsCut s m i line asks → place ≡ suc i → IsCut s m place (n ∷ line) (ask ∷ asks)
    later off i rest next =
        let others : filter (λ j. not (j == m)) (n ∷ line) ≡ n ∷ filter (λ j. not (j == m)) line = ap (λ (b : Bool). cond (not b) (n ∷ filter (λ j. not (j == m)) line) (filter (λ j. not (j == m)) line)) off in
        let still : exchange (end_exchange m s) n ≡ exchange s n = gone s m n (other_way n m off) in
        subst (λ (j : ℕ). IsCut s m j (n ∷ line) (ask ∷ asks)) (sym next) (record {
          ask = rest.ask;
          e = rest.e;
          there = rest.there;
          at = rest.at;
          shows = rest.shows;
          line = subst (λ (ns : List ℕ). ShowsLine (end_exchange m s) ns (ask ∷ remove asks i)) (sym others) ((shows.0.0, still ∙ shows.0.1, shows.0.2), rest.line);
          out =
              ap₂ (λ (a b : ℕ). without_span a b (rest_of s n ++ rests_of s line)) (total_cons ask (take i asks)) (ap (λ (j : ℕ). total (take j (ask ∷ asks))) (one_more i) ∙ total_cons ask (take (i + 1) asks))
              ∙ span_behind ask.text_left (total (take i asks)) (total (take (i + 1) asks)) (rest_of s n) (rests_of s line) long
              ∙ ap₂ (λ (o : Option Exchange) (t : Bytes). rest_in o ++ t) (sym still) rest.out
              ∙ sym (ap (λ (ns : List ℕ). rests_of (end_exchange m s) ns) others);
        })

    behind : (n == m) ≡ false → (o : Option ℕ) → place_of m line ≡ o → option_map suc o ≡ Some place → ((i : ℕ) → place_of m line ≡ Some i → IsCut s m i line asks) → IsCut s m place (n ∷ line) (ask ∷ asks)
    behind off None none is rest = absurd (none_some place is)
    behind off (Some i) found is rest = later off i (rest i found) (sym (some_is (suc i) place is))

    by : (b : Bool) → (n == m) ≡ b → cond b (Some 0) (option_map suc (place_of m line)) ≡ Some place → ((i : ℕ) → place_of m line ≡ Some i → IsCut s m i line asks) → IsCut s m place (n ∷ line) (ask ∷ asks)
    by true is first rest = here is (sym (some_is 0 place first))
    by false off found rest = behind off (place_of m line) refl found rest

-- ---- its connection

none_alone : (s : State) (m : ℕ) (line : List ℕ) → has_alone s line ≡ false → has_alone (end_exchange m s) (filter (λ n. not (n == m)) line) ≡ false
none_alone s m [] none = refl
none_alone s m (n ∷ line) none = by (n == m) refl (none_alone s m line these.1)
  where
    these : (is_alone_in (exchange s n) ≡ false) × (has_alone s line ≡ false)
    these = no_or (is_alone_in (exchange s n)) (has_alone s line) none

    by : (b : Bool) → (n == m) ≡ b → has_alone (end_exchange m s) (filter (λ i. not (i == m)) line) ≡ false → has_alone (end_exchange m s) (cond (not b) (n ∷ filter (λ i. not (i == m)) line) (filter (λ i. not (i == m)) line)) ≡ false
    by true is rest = rest
    by false off rest = ap₂ (λ (a b : Bool). a || b) (ap is_alone_in (gone s m n (other_way n m off)) ∙ these.0) rest

not_begun : (ask : Ask) (e : Exchange) → ShowsAsk ask e → (e.asked == 0) ≡ true → ask.is_begun ≡ false
not_begun ask e shows none = shows.is_begun ∙ ap (λ (n : ℕ). nat_lt 0 n) (same_number e.asked 0 none)

pub pipe_cut : (s : State) (m place : ℕ) (peer : Peer) (k : Conn) (e : Exchange) → exchange s m ≡ Some e → (e.asked == 0) ≡ true → AreDistinct k.line → place_of m k.line ≡ Some place → ShowsPipe s peer k
    → ShowsPipe (end_exchange m s) (record peer { pipe = unasked place peer.pipe }) (without_ask m k)
pipe_cut s m place peer k e there none once at shows =
    let one : IsCut s m place k.line peer.pipe.asks = cut s m k.line peer.pipe.asks place once at shows.line in
    let same : one.e ≡ e = (let both : Some one.e ≡ Some e = sym one.there ∙ there in cc) in
    let begun : is_begun_at place peer.pipe.asks ≡ Some false = ap (λ (o : Option Ask). elim o as (λ t. Option Bool) [ Some ask ↦ Some ask.is_begun | None ↦ None ]) one.at
    ∙ ap (λ (b : Bool). Some b) (not_begun one.ask one.e one.shows (ap (λ (d : Exchange). d.asked == 0) same ∙ none)) in
    let taken : unasked place peer.pipe ≡ withdrawn_where true place peer.pipe = ap (λ (o : Option Bool). unasked_in o place peer.pipe) begun in
    subst (λ (line : Line). ShowsPipe (end_exchange m s) (record peer { pipe = line }) (without_ask m k)) (sym taken) (record {
      line = one.line;
      stray = shows.stray;
      out =
          ap₂ (λ (a b : ℕ). without_span a b peer.pipe.out) (none_and peer.pipe.stray (total (take place peer.pipe.asks)) shows.stray) (none_and peer.pipe.stray (total (take (place + 1) peer.pipe.asks)) shows.stray)
          ∙ ap (λ (t : Bytes). without_span (total (take place peer.pipe.asks)) (total (take (place + 1) peer.pipe.asks)) t) shows.out
          ∙ one.out;
      reading = shows.reading;
      none_alone = λ may. none_alone s m k.line (shows.none_alone may);
    })

pub conn_cut : (s : State) (m place : ℕ) (peer : Peer) (k : Conn) (e : Exchange) → exchange s m ≡ Some e → (e.asked == 0) ≡ true → AreDistinct k.line → place_of m k.line ≡ Some place → ShowsConn s peer k
    → ShowsConn (end_exchange m s) (record peer { pipe = unasked place peer.pipe }) (without_ask m k)
conn_cut s m place peer k e there none once at shows = record {
  number = shows.number;
  host = shows.host;
  port = shows.port;
  is_reached = shows.is_reached;
  has_brought = shows.has_brought;
  may_pipeline = λ goes. may_still (is_begun_at place peer.pipe.asks) ∙ shows.may_pipeline goes;
  is_closing = shows.is_closing;
  stays = shows.stays;
  mark = shows.mark;
  has_waited = shows.has_waited;
  pipe = λ goes. pipe_cut s m place peer k e there none once at (shows.pipe goes);
}
  where
    may_if : (b : Bool) → (withdrawn_where b place peer.pipe).may_pipeline ≡ peer.pipe.may_pipeline
    may_if true = refl
    may_if false = refl

    may_still : (o : Option Bool) → (unasked_in o place peer.pipe).may_pipeline ≡ peer.pipe.may_pipeline
    may_still None = refl
    may_still (Some b) = may_if (not b)
