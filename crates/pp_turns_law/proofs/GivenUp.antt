-- The asks without a place that are of no use any more are given up, one behind the other, and by the law at once.
use Rattle.std.proofs.Common.{arith, ◌≡◌, ◌≤◌, ◌<◌, refl, sym, subst, ap, ap₂, ◌∙◌, ℕ, ◌+◌, Bool, true, false, ◌==◌, ◌&&◌, ◌||◌, not, cond, filter, find, map, List, [], ◌∷◌, ◌++◌, Some, None, Option}
use Rattle.std.proofs.lemmas.Bool.Decides.{nat_tests}
use Rattle.std.specs.List.{list_any}
use Rattle.std.specs.Prelude.{is_some, ⊤}
use Rattle.pp_cache_law.proofs.Finds.{find_kept}
use Rattle.pp_cache_law.proofs.Numbers.{is_same, same_test, some_is}
use Rattle.pp_cache_law.specs.Pairs.{AreAll, AreBoth}
use Rattle.pp_flow.specs.Changes.{Exchanges, entry_of, numbers}
use Rattle.pp_flow.specs.Entries.{is_number}
use Rattle.pp_flow.specs.declared.entry.Entry.{Entry}
use Rattle.pp_flow_law.proofs.Entries.{find_without_else}
use Rattle.pp_flow_law.proofs.Framed.{frames as flow_frames}
use Rattle.pp_flow_law.proofs.Standing.{entry_waiting, waits_has}
use Rattle.pp_flow_law.proofs.Told.{waits}
use Rattle.pp_flow_law.specs.Changes.{but}
use Rattle.pp_flow_law.specs.Tables.{AreGiven, Leaving, ShowsFlow, has_none, line_at, line_in}
use Rattle.pp_law.specs.Connections.{conn, end_exchange, exchange, is_exchange, without_ask}
use Rattle.pp_law.specs.Followers.{give_up_asks, is_useless_ask, is_wanted_by}
use Rattle.pp_law.specs.Lists.{Bytes, has_number, is_some_with, without}
use Rattle.pp_law.specs.Stages.{filled_of}
use Rattle.pp_law.specs.State.{State, Conn, Exchange}
use Rattle.pp_peers.specs.declared.peers.Peer.{Peer}
use Rattle.pp_seats_law.specs.Exchanges.{ShowsExchange}
use Rattle.pp_states_law.proofs.Ended.{ends as states_end, none_out}
use Rattle.pp_states_law.proofs.Lines.{AllFound, IsPlaced, all_found, in_line}
use Rattle.pp_states_law.specs.Decisions.{AreApart}
use Rattle.pp_states_law.specs.Exchanges.{StandsNowhere}
use Rattle.pp_states_law.specs.States.{ShowsState}
use Rattle.pp_state.specs.Asking.{is_useless}
use Rattle.pp_state.proofs.NumbersLemmas.{Above, in_order}
use Rattle.pp_state.specs.Ends.{Parts, ended}
use Rattle.pp_states_law.proofs.Told.{told_over}
use Rattle.pp_states_law.specs.Steps.{ShowsSteps, whole}
use Rattle.pp_turns_law.proofs.First.{above}
use Rattle.pp_turns_law.proofs.NotWanted.{useless}
use Rattle.pp_turns_law.specs.Useless.{AllFollow, GivenUpAsTheLaws, WaitingAreInOrder}
use Rattle.pp_take.specs.GivingUp.{all_given_up}

-- ---- one without a place is over

abbrev dropped : ℕ → State → State
dropped n s = record s { exchanges = without (is_exchange n) s.exchanges }

module _ (number : ℕ → ℕ) (name : Bytes) (l : Leaving) (peers : List Peer) (p : Parts) (s : State) (shows : ShowsSteps number name l peers p s) (apart : AreApart s) (none : (j : ℕ) → l j ≡ []) (n : ℕ) (x : Entry) (e : Exchange) (waiting : find (is_number n) p.flow.waiting ≡ Some x) (there : exchange s n ≡ Some e) where
  nowhere : (j : ℕ) → has_number n (line_at s j) ≡ false
  nowhere j = by (has_number n (line_at s j)) refl
    where
      placed : IsPlaced j n s → ⊥
      placed one =
          let same : e ≡ one.known = some_is e one.known (sym there ∙ one.there) in
          let some : has_none e ≡ false = ap (λ (d : Exchange). has_none d) same ∙ ap (λ (o : Option ℕ). not (is_some o)) one.place in
          let both : true ≡ false = sym (waits_has number l p.flow s shows.shows.exchanges n x e waiting there) ∙ some in
          absurd (cc both)

      by : (b : Bool) → has_number n (line_at s j) ≡ b → has_number n (line_at s j) ≡ false
      by true is = absurd (placed (in_line number l p.flow s shows.shows.exchanges j n is))
      by false is = is

  in_none : (k : Conn) → conn s k.number ≡ Some k → has_number n k.line ≡ false
  in_none k found = sym (ap (λ (o : Option Conn). has_number n (line_in o)) found) ∙ nowhere k.number

  stands_nowhere : (ks : List Conn) → AllFound s ks → StandsNowhere n ks
  stands_nowhere [] found = tt
  stands_nowhere (k ∷ ks) found = ((λ going. in_none k found.0), stands_nowhere ks found.1)

  same_conns : (ks : List Conn) → AllFound s ks → map (without_ask n) ks ≡ ks
  same_conns [] found = refl
  same_conns (k ∷ ks) found = ap₂ (λ (line : List ℕ) (js : List Conn). record k { line = line } ∷ js) (none_out n k.line (in_none k found.0)) (same_conns ks found.1)

  ended_is : end_exchange n s ≡ dropped n s
  unfolding end_exchange
  ended_is = ap (λ (ks : List Conn). let t : State = record s { exchanges = without (is_exchange n) s.exchanges; conns = ks } in t) (same_conns s.conns (all_found s apart))

  pub ends_shows : ShowsSteps number name l peers (ended n p) (dropped n s)
  ends_shows =
      let state : ShowsState number name [] (but n l) (whole (ended n p) peers) (dropped n s) =
      subst (λ (t : State). ShowsState number name [] (but n l) (whole (ended n p) peers) t) ended_is (states_end number name [] l (whole p peers) s shows.shows n (stands_nowhere s.conns (all_found s apart))) in
      record {
        shows = record {
          clients = state.clients;
          exchanges = flow_frames number (but n l) (ended n p).flow (dropped n s) state.exchanges l (dropped n s) (record {
            exchanges = refl;
            next = refl;
            lines = λ j. ap (λ (ns : List ℕ). ns ++ line_at s j) (none j ∙ sym (ap (λ (ns : List ℕ). filter (λ m. not (m == n)) ns) (none j)));
          });
          table = state.table;
          conns = state.conns;
        };
        order = shows.order;
        told = told_over number p.cache s.next_instance n p.flow shows.told;
        refused = shows.refused;
      }

-- ---- those that are gone

abbrev is_gone : List ℕ → Exchange → Bool
is_gone gone e = has_number e.number gone

abbrev kept : List ℕ → State → State
kept gone s = record s { exchanges = without (is_gone gone) s.exchanges }

swapped : (m n : ℕ) → (m == n) ≡ (n == m)
swapped m n = grind (arith, nat_tests)

both_out : (n : ℕ) (gone : List ℕ) (es : List Exchange) → without (is_exchange n) (without (is_gone gone) es) ≡ without (is_gone (n ∷ gone)) es
both_out n gone [] = refl
both_out n gone (e ∷ es) = by (is_gone gone e) (e.number == n) (n == e.number) (swapped e.number n) refl (both_out n gone es)
  where
    by : (a b c : Bool) → b ≡ c → (e.number == n) ≡ b → without (is_exchange n) (without (is_gone gone) es) ≡ without (is_gone (n ∷ gone)) es
        → without (is_exchange n) (cond (not a) (e ∷ without (is_gone gone) es) (without (is_gone gone) es)) ≡ cond (not (c || a)) (e ∷ without (is_gone (n ∷ gone)) es) (without (is_gone (n ∷ gone)) es)
    by true true true same is rest = rest
    by true false false same is rest = rest
    by false true true same is rest = ap (λ (b : Bool). cond (not b) (e ∷ without (is_exchange n) (without (is_gone gone) es)) (without (is_exchange n) (without (is_gone gone) es))) is ∙ rest
    by false false false same is rest =
        ap (λ (b : Bool). cond (not b) (e ∷ without (is_exchange n) (without (is_gone gone) es)) (without (is_exchange n) (without (is_gone gone) es))) is ∙ ap (λ (ds : List Exchange). e ∷ ds) rest
    by a true false same is rest = absurd (cc same)
    by a false true same is rest = absurd (cc same)

-- ---- one behind the other

record IsLeft (number : ℕ → ℕ) (name : Bytes) (l : Leaving) (peers : List Peer) (s : State) (before ns : List ℕ) (q : Parts) : Type 0 where
  gone : List ℕ
  shows : ShowsSteps number name l peers q (kept gone s)
  are : (m : ℕ) (e : Exchange) → exchange s m ≡ Some e → has_number m gone ≡ (has_number m before || (has_number m ns && is_useless_ask s e))

record IsAhead (number : ℕ → ℕ) (name : Bytes) (l : Leaving) (peers : List Peer) (s : State) (low next : ℕ) (gone ns : List ℕ) (p : Parts) : Type 0 where
  shows : ShowsSteps number name l peers p (kept gone s)
  given : AreGiven low next ns
  before : (m : ℕ) → low ≤ m → has_number m gone ≡ false
  waits : (m : ℕ) → has_number m ns ≡ true → is_some (find (is_number m) p.flow.waiting) ≡ true
  follow : AllFollow p (kept gone s)

record HasOne (f : Exchanges) (n : ℕ) : Type 0 where
  entry : Entry
  there : find (is_number n) f.waiting ≡ Some entry

has_one : (f : Exchanges) (n : ℕ) (o : Option Entry) → find (is_number n) f.waiting ≡ o → is_some o ≡ true → HasOne f n
has_one f n None is some = absurd (cc some)
has_one f n (Some x) is some = record { entry = x; there = is }

record HasLaws (s : State) (n : ℕ) : Type 0 where
  e : Exchange
  there : exchange s n ≡ Some e

has_laws : (number : ℕ → ℕ) (x : Entry) (n : ℕ) (s : State) (o : Option Exchange) → exchange s n ≡ o → AreBoth (ShowsExchange number) (Some x) o → HasLaws s n
has_laws number x n s None is both = absurd both
has_laws number x n s (Some e) is both = record { e = e; there = is }

module _ (number : ℕ → ℕ) (name : Bytes) (l : Leaving) (peers : List Peer) (s : State) (apart : AreApart s) (none : (j : ℕ) → l j ≡ []) (next : ℕ) where
  abbrev Left : List ℕ → List ℕ → Parts → Type 0
  Left before ns q = IsLeft number name l peers s before ns q

  abbrev Ahead : ℕ → List ℕ → List ℕ → Parts → Type 0
  Ahead low gone ns p = IsAhead number name l peers s low next gone ns p

  -- that of the law is one of those that were there
  was_there : (gone : List ℕ) (n : ℕ) → has_number n gone ≡ false → exchange (kept gone s) n ≡ exchange s n
  was_there gone n isnt = find_kept (is_exchange n) (λ (e : Exchange). not (is_gone gone e)) s.exchanges (λ e is. ap not (ap (λ (m : ℕ). has_number m gone) (is_same e.number n is) ∙ isnt))

  or_true : (b : Bool) → (b || true) ≡ true
  or_true true = refl
  or_true false = refl

  and_false : (b : Bool) → (b && false) ≡ false
  and_false true = refl
  and_false false = refl

  -- the rest is looked at
  later_waits : (n low : ℕ) (ns gone : List ℕ) (p : Parts) → Ahead low gone (n ∷ ns) p → (m : ℕ) → has_number m ns ≡ true → is_some (find (is_number m) p.flow.waiting) ≡ true
  later_waits n low ns gone p ahead m has = ahead.waits m (ap (λ (b : Bool). (n == m) || b) has ∙ or_true (n == m))

  apart_from : (n : ℕ) (ns : List ℕ) → AreGiven (n + 1) next ns → (m : ℕ) → has_number m ns ≡ true → (m == n) ≡ false
  apart_from n ns given m has = by (m == n) refl
    where
      by : (b : Bool) → (m == n) ≡ b → b ≡ false
      by true is =
          let out : has_number m ns ≡ false = above (n + 1) next m ns given (let same : m ≡ n = is_same m n is in omega (arith, same)) in
          let both : true ≡ false = sym has ∙ out in
          absurd (cc both)
      by false is = refl

  goes : (n low : ℕ) (ns gone : List ℕ) (p : Parts) (b : Bool) (e : Exchange) → ((low : ℕ) (gone : List ℕ) (p : Parts) → Ahead low gone ns p → Left gone ns (all_given_up ns p)) → Ahead low gone (n ∷ ns) p → (x : Entry) → find (is_number n) p.flow.waiting ≡ Some x
      → exchange s n ≡ Some e → is_useless_ask s e ≡ b → Left gone (n ∷ ns) (all_given_up ns (elim b as (λ t. Parts) [ true ↦ ended n p | false ↦ p ]))
  goes n low ns gone p true e more ahead x waiting there useless_it =
      let isnt : has_number n gone ≡ false = ahead.before n ahead.given.0 in
      let rest : Left (n ∷ gone) ns (all_given_up ns (ended n p)) = more (n + 1) (n ∷ gone) (ended n p) (record {
        shows = subst (λ (es : List Exchange). ShowsSteps number name l peers (ended n p) (record s { exchanges = es })) (both_out n gone s.exchanges)
            (ends_shows number name l peers p (kept gone s) ahead.shows apart none n x e waiting (was_there gone n isnt ∙ there));
        given = ahead.given.1;
        before = λ m less. ap₂ (λ (a c : Bool). a || c) (not_it m less) (ahead.before m (omega (arith, less, ahead.given.0)));
        waits = λ m has. ap (λ (o : Option Entry). is_some o) (find_without_else n m (apart_from n ns ahead.given.1 m has) p.flow.waiting) ∙ later_waits n low ns gone p ahead m has;
        follow = λ i seat c place going. ahead.follow i seat c (record { here = place.here; there = place.there }) going;
      }) in
      record { gone = rest.gone; shows = rest.shows; are = λ m d found. rest.are m d found ∙ by m d found (n == m) refl }
    where
      not_it : (m : ℕ) → n + 1 ≤ m → (n == m) ≡ false
      not_it m less = grind (arith, nat_tests, less)

      by : (m : ℕ) (d : Exchange) → exchange s m ≡ Some d → (b : Bool) → (n == m) ≡ b → ((b || has_number m gone) || (has_number m ns && is_useless_ask s d)) ≡ (has_number m gone || ((b || has_number m ns) && is_useless_ask s d))
      by m d found true is =
          let same : e ≡ d = some_is e d (sym there ∙ ap (λ (k : ℕ). exchange s k) (is_same n m is) ∙ found) in
          sym (ap (λ (t : Bool). has_number m gone || t) (sym (ap (λ (y : Exchange). is_useless_ask s y) same) ∙ useless_it) ∙ or_true (has_number m gone))
      by m d found false is = refl
  goes n low ns gone p false e more ahead x waiting there useful =
      let rest : Left gone ns (all_given_up ns p) = more (n + 1) gone p (record {
        shows = ahead.shows;
        given = ahead.given.1;
        before = λ m less. ahead.before m (omega (arith, less, ahead.given.0));
        waits = later_waits n low ns gone p ahead;
        follow = ahead.follow;
      }) in
      record { gone = rest.gone; shows = rest.shows; are = λ m d found. rest.are m d found ∙ ap (λ (t : Bool). has_number m gone || t) (by m d found (n == m) refl) }
    where
      by : (m : ℕ) (d : Exchange) → exchange s m ≡ Some d → (b : Bool) → (n == m) ≡ b → (has_number m ns && is_useless_ask s d) ≡ ((b || has_number m ns) && is_useless_ask s d)
      by m d found true is =
          let same : e ≡ d = some_is e d (sym there ∙ ap (λ (k : ℕ). exchange s k) (is_same n m is) ∙ found) in
          let none_it : is_useless_ask s d ≡ false = sym (ap (λ (y : Exchange). is_useless_ask s y) same) ∙ useful in
          ap (λ (t : Bool). has_number m ns && t) none_it ∙ and_false (has_number m ns) ∙ sym none_it
      by m d found false is = refl

  walks : (ns : List ℕ) (low : ℕ) (gone : List ℕ) (p : Parts) → Ahead low gone ns p → Left gone ns (all_given_up ns p)
  unfolding all_given_up
  walks [] low gone p ahead = record { gone = gone; shows = ahead.shows; are = λ m d found. sym (or_false (has_number m gone)) }
    where
      or_false : (b : Bool) → (b || false) ≡ b
      or_false true = refl
      or_false false = refl
  walks (n ∷ ns) low gone p ahead =
      let one : HasOne p.flow n = has_one p.flow n (find (is_number n) p.flow.waiting) refl (ahead.waits n (ap (λ (b : Bool). b || has_number n ns) (same_test n n refl))) in
      let entry : entry_of n p.flow ≡ Some one.entry = entry_waiting n p.flow one.entry one.there in
      let known : HasLaws (kept gone s) n =
      has_laws number one.entry n (kept gone s) (exchange (kept gone s) n) refl (subst (λ (o : Option Entry). AreBoth (ShowsExchange number) o (exchange (kept gone s) n)) entry (ahead.shows.shows.exchanges.each n)) in
      let test : is_useless p.cache p.seats (entry_of n p.flow) ≡ is_useless_ask s known.e = useless number name l peers p (kept gone s) ahead.shows n one.entry known.e ahead.follow one.there known.there in
      subst (λ (b : Bool). Left gone (n ∷ ns) (all_given_up ns (elim b as (λ t. Parts) [ true ↦ ended n p | false ↦ p ]))) (sym test)
      (goes n low ns gone p (is_useless_ask s known.e) known.e (λ later other q. walks ns later other q) ahead one.entry one.there (sym (was_there gone n (ahead.before n ahead.given.0)) ∙ known.there) refl)

-- ---- of all without a place

given_some : (keep : Exchange → Bool) (next : ℕ) (es : List Exchange) (low : ℕ) → AreGiven low next (map (λ (e : Exchange). e.number) es) → AreGiven low next (map (λ (e : Exchange). e.number) (filter keep es))
given_some keep next [] low given = given
given_some keep next (e ∷ es) low given = by (keep e) (given_some keep next es (e.number + 1) given.1)
  where
    lower : (from : ℕ) (ns : List ℕ) → low ≤ from → AreGiven from next ns → AreGiven low next ns
    lower from [] less given = omega (arith, less, given)
    lower from (n ∷ ns) less given = (omega (arith, less, given.0), given.1)

    by : (b : Bool) → AreGiven (e.number + 1) next (map (λ (d : Exchange). d.number) (filter keep es)) → AreGiven low next (map (λ (d : Exchange). d.number) (cond b (e ∷ filter keep es) (filter keep es)))
    by true rest = (given.0, rest)
    by false rest = lower (e.number + 1) (map (λ (d : Exchange). d.number) (filter keep es)) (omega (arith, given.0)) rest

same_numbers : (number : ℕ → ℕ) (xs : List Entry) (es : List Exchange) → AreAll (ShowsExchange number) xs es → map (λ (e : Exchange). e.number) es ≡ numbers xs
same_numbers number [] [] all = refl
same_numbers number [] (e ∷ es) all = absurd all
same_numbers number (x ∷ xs) [] all = absurd all
same_numbers number (x ∷ xs) (e ∷ es) all = ap₂ (λ (n : ℕ) (ns : List ℕ). n ∷ ns) (sym all.0.number) (same_numbers number xs es all.1)

is_found : (xs : List Entry) (m : ℕ) → has_number m (numbers xs) ≡ is_some (find (is_number m) xs)
is_found [] m = refl
is_found (x ∷ xs) m = by (x.exchange.number == m) (is_found xs m)
  where
    by : (b : Bool) → has_number m (numbers xs) ≡ is_some (find (is_number m) xs) → (b || has_number m (numbers xs)) ≡ is_some (cond b (Some x) (find (is_number m) xs))
    by true rest = refl
    by false rest = rest

-- each is found by its number
abbrev AllThere : List Exchange → List Exchange → Type 0
AllThere all [] = ⊤
AllThere all (e ∷ es) = (find (is_exchange e.number) all ≡ Some e) × AllThere all es

there_behind : (d : Exchange) (all es : List Exchange) (low next : ℕ) → d.number < low → AreGiven low next (map (λ (e : Exchange). e.number) es) → AllThere all es → AllThere (d ∷ all) es
there_behind d all [] low next less given there = tt
there_behind d all (e ∷ es) low next less given there = (
  ap (λ (b : Bool). cond b (Some d) (find (is_exchange e.number) all)) (other d.number e.number (omega (arith, less, given.0))) ∙ there.0,
  there_behind d all es (e.number + 1) next (omega (arith, less, given.0)) given.1 there.1,
)
  where
    other : (a b : ℕ) → a < b → (a == b) ≡ false
    other a b less = grind (arith, nat_tests, less)

all_there : (es : List Exchange) (low next : ℕ) → AreGiven low next (map (λ (e : Exchange). e.number) es) → AllThere es es
all_there [] low next given = tt
all_there (e ∷ es) low next given =
    (ap (λ (b : Bool). cond b (Some e) (find (is_exchange e.number) es)) (same_test e.number e.number refl), there_behind e es es (e.number + 1) next (omega arith) given.1 (all_there es (e.number + 1) next given.1))

same_out : (s : State) (gone : List ℕ) (es : List Exchange) → AllThere s.exchanges es → ((m : ℕ) (e : Exchange) → exchange s m ≡ Some e → has_number m gone ≡ is_useless_ask s e) → without (is_gone gone) es ≡ without (is_useless_ask s) es
same_out s gone [] there are = refl
same_out s gone (e ∷ es) there are =
    ap₂ (λ (b : Bool) (ds : List Exchange). cond (not b) (e ∷ ds) ds) (are e.number e there.0) (same_out s gone es there.1 are)

-- one that is of no use has no place
waits_unplaced : (number : ℕ → ℕ) (l : Leaving) (f : Exchanges) (s : State) → ShowsFlow number l f s → (m : ℕ) (e : Exchange) → exchange s m ≡ Some e → (has_number m (numbers f.waiting) && is_useless_ask s e) ≡ is_useless_ask s e
waits_unplaced number l f s shows m e there = by (is_useless_ask s e) refl
  where
    placeless : (a b c : Bool) → (a && b && c) ≡ true → b ≡ true
    placeless true true c is = refl
    placeless true false c is = absurd (cc is)
    placeless false b c is = absurd (cc is)

    by : (b : Bool) → is_useless_ask s e ≡ b → (has_number m (numbers f.waiting) && b) ≡ b
    by true is =
        let unplaced : has_none e ≡ true = placeless (is_some (filled_of e)) (not (is_some e.place)) (not (list_any (is_wanted_by s e) s.clients)) is in
        ap (λ (t : Bool). t && true) (is_found f.waiting m ∙ waits number l f s shows m ∙ ap (λ (o : Option Exchange). is_some_with has_none o) there ∙ unplaced)
    by false is = none_and (has_number m (numbers f.waiting))
      where
        none_and : (t : Bool) → (t && false) ≡ false
        none_and true = refl
        none_and false = refl

-- they stand in the order of their numbers
above_given : (low next : ℕ) (ns : List ℕ) → AreGiven low next ns → Above low ns
above_given low next [] given = tt
above_given low next (n ∷ ns) given = (given.0, above_given (n + 1) next ns given.1)

waiting_given : (number : ℕ → ℕ) (l : Leaving) (f : Exchanges) (s : State) → ShowsFlow number l f s → AreGiven 0 s.next_exchange (numbers f.waiting)
waiting_given number l f s shows =
    subst (λ (ns : List ℕ). AreGiven 0 s.next_exchange ns) (same_numbers number f.waiting (filter has_none s.exchanges) shows.waiting) (given_some has_none s.next_exchange s.exchanges 0 shows.given)

pub waiting_in_order : WaitingAreInOrder
waiting_in_order number name l peers p s shows = in_order 0 (numbers p.flow.waiting) (above_given 0 s.next_exchange (numbers p.flow.waiting) (waiting_given number l p.flow s shows.shows.exchanges))

pub gives_up : GivenUpAsTheLaws
unfolding give_up_asks
gives_up number name l peers p s shows follow apart none =
    let flow : ShowsFlow number l p.flow s = shows.shows.exchanges in
    let left : IsLeft number name l peers s [] (numbers p.flow.waiting) (all_given_up (numbers p.flow.waiting) p) = walks number name l peers s apart none s.next_exchange (numbers p.flow.waiting) 0 [] p (record {
      shows = subst (λ (es : List Exchange). ShowsSteps number name l peers p (record s { exchanges = es })) (sym (all_kept s.exchanges)) shows;
      given = waiting_given number l p.flow s flow;
      before = λ m less. refl;
      waits = λ m has. sym (is_found p.flow.waiting m) ∙ has;
      follow = λ i seat c place going. follow i seat c (record { here = place.here; there = place.there }) going;
    }) in
    subst (λ (es : List Exchange). ShowsSteps number name l peers (all_given_up (numbers p.flow.waiting) p) (record s { exchanges = es }))
    (same_out s left.gone s.exchanges (all_there s.exchanges 0 s.next_exchange flow.given) (λ m e there. left.are m e there ∙ waits_unplaced number l p.flow s flow m e there)) left.shows
  where
    all_kept : (es : List Exchange) → without (is_gone []) es ≡ es
    all_kept [] = refl
    all_kept (e ∷ es) = ap (λ (ds : List Exchange). e ∷ ds) (all_kept es)
