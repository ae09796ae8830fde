-- What the head of a response rests on at a moment of a read of an origin.
use Rattle.std.proofs.Common.{◌≡◌, ◌≤◌, ◌⊎◌, refl, sym, subst, ap, ◌∙◌, ℕ, ◌+◌, ◌*◌, Bool, true, false, not, length, List, [], find, map, Option, Some, None, inl, inr, arith}
use Rattle.std.specs.Prelude.{count_by}
use Rattle.pp_answers_law.specs.Answers.{Asks, Stands}
use Rattle.pp_answers_law.specs.Disproving.{GoesWithClient, HasClient}
use Rattle.pp_answers_law.specs.Takes.{IsFromKey, NamesKey}
use Rattle.pp_cache_law.proofs.Numbers.{some_is}
use Rattle.pp_law.specs.Closing.{is_of}
use Rattle.pp_law.specs.Connections.{is_client, is_conn, is_exchange, on_conn}
use Rattle.pp_law.specs.Lists.{Bytes}
use Rattle.pp_law.specs.Requests.{has_request}
use Rattle.pp_law.specs.Responses.{with_unread}
use Rattle.pp_law.specs.Stages.{is_pending}
use Rattle.pp_law.specs.Table.{is_idle_row, is_instance}
use Rattle.pp_law.specs.State.{State, Aim, Answer, Answering, Client, Conn, Exchange, Filling, Instance as Row, Own, Passing, Reply, Stage, Through, Undecided, Waiting}
use Rattle.pp_laws.proofs.Lists.{in_find}
use Rattle.pp_laws.proofs.Sound.{Follows, client_number, facts_of as sound_facts, first_of, source_in}
use Rattle.pp_laws.proofs.Tests.{same_number}
use Rattle.pp_laws.specs.Numbers.{AreRising}
use Rattle.pp_laws.specs.Runs.{IsIn}
use Rattle.pp_laws_bounds.proofs.Small.{facts_of as small_facts}
use Rattle.pp_laws_coming.proofs.Facts.{IsTold}
use Rattle.pp_laws_pool.proofs.PoolFacts.{find_map}
use Rattle.pp_laws_turn.proofs.Keys.{key_short}
use Rattle.pp_laws_turn.proofs.Laws.{asks_once, has_asker}
use Rattle.pp_laws_left.proofs.Owned.{Owned, none_but}
use Rattle.pp_laws_turn.proofs.View.{Holds, facts_of}
use Rattle.pp_laws_turn.specs.SoundTurn.{HasAsker}
use Rattle.pp_origins.specs.Gots.{Both, Remains, both}
use Rattle.pp_reads_law.proofs.Fronts.{IsFront, is_front}
use Rattle.pp_reads_law.specs.Brings.{HeadRestsOn}
use Rattle.pp_reads_law.specs.Clears.{HeadIsGot, StandsBefore}
use Rattle.pp_reads_law.specs.Empties.{NoneIsPassed}
use Rattle.pp_reads_law.specs.Heads.{FollowedAreThere, MayFillBeside}
use Rattle.pp_reads_law.specs.Rows.{MayMakeRoom}
use Rattle.pp_state.specs.Ends.{parts}
use Rattle.pp_state.specs.declared.state.State.{State as TurnNow}
use Rattle.pp_store.specs.Kept.{KeptMap}
use Rattle.pp_target.specs.Key.{text_of}
use Rattle.pp_comes_law.proofs.BusyRows.{this_is}
use Rattle.pp_comes_law.proofs.LoneLaws.{client_in}
use Rattle.pp_comes_law.proofs.Lones.{lone_by}
use Rattle.pp_comes_law.proofs.NotedEnds.{due_in}
use Rattle.pp_comes_law.proofs.NotedRoom.{has_way}
use Rattle.pp_comes_law.proofs.AtMoments.{AtMoment}

-- ---- what somebody is answered from

source_by : (stage : Stage) (r : Reply) → (elim stage as (λ o. Option Reply) [ Undecided ↦ None | Waiting ↦ None | Passing ↦ None | Answering q ↦ Some q ]) ≡ Some r → source_in stage ≡ r.source
source_by Undecided r is = absurd (cc is)
source_by Waiting r is = absurd (cc is)
source_by Passing r is = absurd (cc is)
source_by (Answering q) r is = ap (λ (p : Reply). p.source) (some_is q r is)

room_set : (n : ℕ) (f : Conn → Conn) (s : State) → MayMakeRoom s → MayMakeRoom (on_conn n f s)
unfolding on_conn
room_set n f s room full = let way = room full in record { row = way.row; idle = way.idle; may = record { new = way.may.new; few = way.may.few; short = way.may.short } }

-- behind what is dropped before a head
pub record IsSameBut (s then : State) (n : ℕ) (before : Conn) : Type 0 where
  pub clients : then.clients ≡ s.clients
  pub exchanges : then.exchanges ≡ s.exchanges
  pub instances : then.instances ≡ s.instances
  pub was : Conn
  pub here : IsIn was s.conns
  pub number : was.number ≡ n
  pub line : before.line ≡ was.line
  pub pipelines : before.may_pipeline ≡ was.may_pipeline

module _ (shelf : KeptMap) (n : ℕ) (x : Both) (s : State) (number : ℕ → ℕ) (k : Conn) (e : Exchange) (there : StandsBefore number shelf x s n k e) where
  pub same_but : IsSameBut s there.then n there.before
  unfolding on_conn
  same_but = by there.stands there.due.due.on.there
    where
      set : Conn → Conn
      set j = elim (is_conn n j) [ true ↦ with_unread [] j | false ↦ j ]

      kept_number : (j : Conn) → (set j).number ≡ j.number
      kept_number j = at (is_conn n j)
        where
          at : (b : Bool) → (let c : Conn = elim b as (λ t. Conn) [ true ↦ with_unread [] j | false ↦ j ] in c.number) ≡ j.number
          at true = refl
          at false = refl

      kept_line : (j : Conn) → (set j).line ≡ j.line
      kept_line j = at (is_conn n j)
        where
          at : (b : Bool) → (let c : Conn = elim b as (λ t. Conn) [ true ↦ with_unread [] j | false ↦ j ] in c.line) ≡ j.line
          at true = refl
          at false = refl

      kept_lines : (j : Conn) → (set j).may_pipeline ≡ j.may_pipeline
      kept_lines j = at (is_conn n j)
        where
          at : (b : Bool) → (let c : Conn = elim b as (λ t. Conn) [ true ↦ with_unread [] j | false ↦ j ] in c.may_pipeline) ≡ j.may_pipeline
          at true = refl
          at false = refl

      cleared_conns : (on_conn n (with_unread []) s).conns ≡ map set s.conns
      cleared_conns = refl

      cleared_clients : (on_conn n (with_unread []) s).clients ≡ s.clients
      cleared_clients = refl

      cleared_exchanges : (on_conn n (with_unread []) s).exchanges ≡ s.exchanges
      cleared_exchanges = refl

      cleared_instances : (on_conn n (with_unread []) s).instances ≡ s.instances
      cleared_instances = refl

      by : ((there.before ≡ k) × (there.then ≡ s)) ⊎ ((there.before ≡ with_unread [] k) × (there.then ≡ on_conn n (with_unread []) s)) → find (is_conn n) there.then.conns ≡ Some there.before → IsSameBut s there.then n there.before
      by (inl same) found = record {
        clients = ap (λ (t : State). t.clients) same.1;
        exchanges = ap (λ (t : State). t.exchanges) same.1;
        instances = ap (λ (t : State). t.instances) same.1;
        was = there.before;
        here = (in_find (is_conn n) there.before s.conns (subst (λ (t : State). find (is_conn n) t.conns ≡ Some there.before) same.1 found)).0;
        number = same_number there.before.number n (in_find (is_conn n) there.before s.conns (subst (λ (t : State). find (is_conn n) t.conns ≡ Some there.before) same.1 found)).1;
        line = refl;
        pipelines = refl;
      }
      by (inr same) found =
          let one = find_map n set s.conns there.before kept_number (subst (λ (ks : List Conn). find (is_conn n) ks ≡ Some there.before) (ap (λ (t : State). t.conns) same.1 ∙ cleared_conns) found) in
          record {
            clients = ap (λ (t : State). t.clients) same.1 ∙ cleared_clients;
            exchanges = ap (λ (t : State). t.exchanges) same.1 ∙ cleared_exchanges;
            instances = ap (λ (t : State). t.instances) same.1 ∙ cleared_instances;
            was = one.0;
            here = (in_find (is_conn n) one.0 s.conns one.1).0;
            number = same_number one.0.number n (in_find (is_conn n) one.0 s.conns one.1).1;
            line = ap (λ (j : Conn). j.line) one.2 ∙ kept_line one.0;
            pipelines = ap (λ (j : Conn). j.may_pipeline) one.2 ∙ kept_lines one.0;
          }

  first : IsFront there.then there.before e
  first = is_front there.then there.before e there.due.due.front

  here : IsIn e s.exchanges
  here = subst (λ (es : List Exchange). IsIn e es) same_but.exchanges (in_find (is_exchange e.number) e there.then.exchanges first.known).0

  pub quiet : Holds (Owned none_but ⊥) s → same_but.was.answer ≡ None
  quiet owned = by same_but.was.answer refl
    where
      none_number : None ≡ Some same_but.was.number → ⊥
      none_number both = cc both

      by : (o : Option Answer) → same_but.was.answer ≡ o → o ≡ None
      by None is = refl
      by (Some a) is =
          let one = (facts_of owned).front same_but.was a same_but.here (λ but. none_number but) is in
          let its : e.number ≡ one.number = some_is e.number one.number (sym (ap first_of (sym same_but.line ∙ first.line)) ∙ one.first) in
          let both : true ≡ false = sym (one.headed e here its) ∙ there.due.none in
          absurd (cc both)

module _ (shelf : KeptMap) (n : ℕ) (x : Both) (s : State) (m : AtMoment n ⊥ s) (number : ℕ → ℕ) (k : Conn) (e : Exchange) (there : StandsBefore number shelf x s n k e) where
  rise : AreRising (map client_number s.clients)
  rise = (sound_facts m.goes.sound).callers.rise

  once_at : (i : ℕ) → count_by (is_of i) s.exchanges ≤ 1
  once_at i = asks_once s (sound_facts m.goes.sound).asks.rise (facts_of m.turn) i

  abbrev stood : IsSameBut s there.then n there.before
  stood = same_but shelf n x s number k e there

  front : IsFront there.then there.before e
  front = first shelf n x s number k e there

  among : IsIn e s.exchanges
  among = here shelf n x s number k e there

  its_asker : (i : ℕ) (c : Client) → e.asker ≡ Some i → find (is_client i) there.then.clients ≡ Some c → (one : HasAsker s e i) × (one.asker ≡ c)
  its_asker i c is found =
      let one : HasAsker s e i = has_asker s rise (facts_of m.turn) e i among is in
      (one, some_is one.asker c (sym one.there ∙ ap (λ (cs : List Client). find (is_client i) cs) (sym stood.clients) ∙ found))

  its_told : (i : ℕ) (c : Client) → e.asker ≡ Some i → find (is_client i) there.then.clients ≡ Some c → IsTold s.instances e c
  its_told i c is found =
      let at = in_find (is_client i) c s.clients (ap (λ (cs : List Client). find (is_client i) cs) (sym stood.clients) ∙ found) in
      (facts_of m.goes.early).told e i c among at.0 is (same_number c.number i at.1) (λ but. none_some but)
    where
      none_some : None ≡ Some i → ⊥
      none_some both = cc both

  stands : (i : ℕ) (c : Client) → e.asker ≡ Some i → find (is_client i) there.then.clients ≡ Some c → Stands c
  stands i c is found =
      let one = its_asker i c is found in
      record {
        on = there.shows.may.go.going e.number e front.known i c is found;
        request = ap has_request (ap (λ (d : Client). d.front) (sym one.1) ∙ one.0.front);
        untold = (its_told i c is found).untold there.due.none;
      }

  names : (i : ℕ) (c : Client) → e.asker ≡ Some i → find (is_client i) there.then.clients ≡ Some c → NamesKey e c
  names i c is found = (its_told i c is found).key

  asks : (i : ℕ) (c : Client) → e.asker ≡ Some i → find (is_client i) there.then.clients ≡ Some c → Asks e c
  asks i c is found = let one = its_asker i c is found in record { request = one.0.request; front = ap (λ (d : Client). d.front) (sym one.1) ∙ one.0.front; head = one.0.head }

  -- ---- what it is answered from is of its key, and nothing is passed to it before

  of_key : (i : ℕ) (c : Client) → e.asker ≡ Some i → find (is_client i) there.then.clients ≡ Some c → IsFromKey there.then e c
  of_key i c is found r id row reply source known_row =
      let at = in_find (is_client i) c s.clients (ap (λ (cs : List Client). find (is_client i) cs) (sym stood.clients) ∙ found) in
      let its : Follows c id s.instances s.next_instance = (sound_facts m.goes.sound).callers.follows c id at.0 (source_by c.stage r reply ∙ source) in
      let here = in_find (is_instance id) row s.instances (ap (λ (xs : List Row). find (is_instance id) xs) (sym stood.instances) ∙ known_row) in
      its.same_key row here.0 (same_number row.id id here.1) ∙ ap text_of (some_is its.key e.key (sym its.asks ∙ names i c is found))

  fills : FollowedAreThere (parts x.state) → MayFillBeside there.begin.state there.then e
  fills followed = record { followed = subst (λ (p : TurnNow). FollowedAreThere (parts p)) (sym there.state) followed; key = of_key }

  passed : NoneIsPassed e there.then
  passed c here asks =
      let told = (facts_of m.goes.early).told e c.number c among (subst (λ (cs : List Client). IsIn c cs) stood.clients here) (this_is c.number e.asker asks) refl (λ but. no_one but) in
      told.untold there.due.none
    where
      no_one : None ≡ Some c.number → ⊥
      no_one both = cc both

  -- ---- what goes alone has its client

  with_client : e.aim ≡ Through → GoesWithClient there.then e
  with_client through alone = by (client_in s e (λ i is. has_asker s rise (facts_of m.turn) e i among is) e.asker refl (m.lone e among (lone_by e alone (ap (λ (a : Aim). elim a as (λ x. Bool) [ Through ↦ true | Own ↦ false | Filling v from to ↦ false ]) through) pending)))
    where
      still : (b : Bool) → not b ≡ false → b ≡ true
      still true is = refl
      still false is = absurd (cc is)

      pending : is_pending e.body ≡ true
      pending = still (is_pending e.body) there.due.none

      by : HasClient s e → HasClient there.then e
      by c = record { number = c.number; client = c.client; asker = c.asker; there = ap (λ (cs : List Client). find (is_client c.number) cs) stood.clients ∙ c.there }

  -- ---- one row may leave for another

  few_noted : m.noted.most ≤ 14
  few_noted =
      let all : m.noted.most + 2 * length stood.was.line ≤ 16 = subst (λ (o : Option Answer). m.noted.most + due_in o (length stood.was.line) ≤ 16) (quiet shelf n x s number k e there m.goes.owned) (m.noted.left stood.was stood.here stood.number) in
      let some : 1 ≤ length stood.was.line = subst (λ (ns : List ℕ). 1 ≤ length ns) (sym (sym stood.line ∙ front.line)) (omega arith) in
      omega (arith, all, some)

  room_here : MayMakeRoom s
  room_here = has_way s (small_facts m.small) m.noted.few few_noted few_noted (λ x idle. (facts_of m.turn).short x (in_find (is_idle_row s) x s.instances idle).0)

  room : MayMakeRoom there.then
  room = by there.stands
    where
      by : ((there.before ≡ k) × (there.then ≡ s)) ⊎ ((there.before ≡ with_unread [] k) × (there.then ≡ on_conn n (with_unread []) s)) → MayMakeRoom there.then
      by (inl same) = subst MayMakeRoom (sym same.1) room_here
      by (inr same) = subst MayMakeRoom (sym same.1) (room_set n (with_unread []) s room_here)

  pub head_rests : FollowedAreThere (parts x.state) → (next : Both) (bytes : Bytes) (behind : Option Remains) (it : HeadIsGot shelf next s n e bytes behind there.begin there.then there.before there.peer)
      → HeadRestsOn shelf n next s e bytes behind there.begin there.then there.before there.peer it
  head_rests followed next bytes behind it = record {
    may = record { room = room; stands = stands; asks = asks; key = key_short e.head.target e.key ((facts_of m.turn).once e among).key; passes = λ through. record { client = with_client through; key = names }; fills = λ filling. fills followed };
    end = λ right. record {
      passed = λ filling. passed;
      once = λ i. subst (λ (es : List Exchange). count_by (is_of i) es ≤ 1) (sym stood.exchanges) (once_at i);
      pipelines = λ alone. subst (λ (line : List ℕ). length line ≤ 1) (sym stood.line) ((facts_of m.turn).lined.few stood.was stood.here (sym stood.pipelines ∙ alone));
    };
  }
