-- At a wait it is noted of each body how far it is wanted, one exchange behind the other; the law notes it of all at once.
use Rattle.std.proofs.Common.{◌≡◌, refl, sym, subst, ap, ap₂, ◌∙◌, ℕ, Bool, true, false, ◌==◌, ◌||◌, cond, find, map, List, [], ◌∷◌, ◌++◌, Some, None, Option}
use Rattle.std.specs.List.{cons_option, filter_map, fold, reduce}
use Rattle.std.specs.Prelude.{max, option_map}
use Rattle.pp_cache_law.proofs.Finds.{find_mapped, none_changed, one_only}
use Rattle.pp_cache_law.proofs.Framing.{frames_of, the_same}
use Rattle.pp_cache_law.proofs.Numbers.{some_is}
use Rattle.pp_cache_law.proofs.PairLemmas.{AreOnly}
use Rattle.pp_cache_law.specs.Pairs.{AreBoth}
use Rattle.pp_flow.specs.Changes.{Exchanges, entry_of, first_of, numbers, with_errand}
use Rattle.pp_flow.specs.Entries.{is_number}
use Rattle.pp_flow.specs.declared.entry.Entry.{Entry}
use Rattle.pp_flow.specs.declared.errand.Body.TheVariants.{Joining as IsJoining}
use Rattle.pp_flow_law.proofs.Entries.{none_some, other_way}
use Rattle.pp_flow_law.proofs.Noted.{wants}
use Rattle.pp_flow_law.proofs.Standing.{few_given}
use Rattle.pp_flow_law.specs.Changes.{wanting}
use Rattle.pp_flow_law.specs.Tables.{ShowsFlow, none_leaves}
use Rattle.pp_law.specs.Connections.{exchange, is_exchange, on_exchange}
use Rattle.pp_law.specs.Lists.{has_number}
use Rattle.pp_law.specs.Stages.{bound_in, bound_of}
use Rattle.pp_law.specs.State.{State, Body, Pending, Joining, Relaying, Dropping, Bound, Client, Exchange}
use Rattle.pp_law.specs.Turn.{rested_client}
use Rattle.pp_law.specs.Unseen.{at_of, furthest_at, rested_exchange, wanted_to}
use Rattle.pp_peers.specs.declared.peers.Peer.{Peer}
use Rattle.pp_seats_law.proofs.Entries.{exchanges}
use Rattle.pp_seats_law.specs.Exchanges.{Binding, ShowsBound, ShowsExchange}
use Rattle.pp_state.specs.Ends.{parts}
use Rattle.pp_state.specs.Unseen.{all_rested, body_noted, bound_of as bound_in_turn, rested, rested_to, wanted_of}
use Rattle.pp_state.specs.declared.state.State.{State as Turn}
use Rattle.pp_states_law.proofs.Asked.{all_as, frames}
use Rattle.pp_states_law.proofs.Lines.{same_itself}
use Rattle.pp_states_law.specs.Asks.{IsAskedAs}
use Rattle.pp_states_law.proofs.Told.{told_asked, told_of}
use Rattle.pp_states_law.specs.Steps.{ShowsSteps}
use Rattle.pp_states_law.specs.Told.{AreTold}
use Rattle.pp_turns_law.specs.Marks.{AreLoud, with_rested}
use Rattle.pp_turns_law.specs.Wants.{ShowsEnd}
use Rattle.pp_endings_law.proofs.Wanted.{wanted_by, wanted_same}
use Rattle.pp_endings_law.specs.Waits.{ExchangesRestAsTheLaws, WantedBehindClients, with_wanted}

-- ---- what the law makes of one

abbrev rests_by : State → Exchange → Option Bound → Exchange
rests_by s e v = elim v as (λ t. Exchange) [ None ↦ e | Some b ↦ record e { body = Joining (wanted_to s b) } ]

rests_is : (s : State) (e : Exchange) (v : Option Bound) → bound_of e ≡ v → rested_exchange s e ≡ rests_by s e v
rests_is s e v is = ap (rests_by s e) is

joins_it : (body : Body) (b : Bound) → bound_in body ≡ Some b → body ≡ Joining b
joins_it Pending b is = absurd (none_some b is)
joins_it (Joining d) b is = ap (λ (x : Bound). Joining x) (some_is d b is)
joins_it Relaying b is = absurd (none_some b is)
joins_it Dropping b is = absurd (none_some b is)

abbrev wanted_at : Bound → Option ℕ → Bound
wanted_at b o = elim o as (λ t. Bound) [ None ↦ b | Some at ↦ record b { wanted = at } ]

-- nobody follows it
none_wants : (s : State) (e : Exchange) (b : Bound) → bound_of e ≡ Some b → furthest_at s b ≡ None → rested_exchange s e ≡ e
none_wants s e b is none =
    rests_is s e (Some b) is
    ∙ ap (λ (o : Option ℕ). let d : Exchange = record e { body = Joining (wanted_at b o) } in d) none
    ∙ ap (λ (body : Body). let d : Exchange = record e { body = body } in d) (sym (joins_it e.body b is))

-- somebody does
abbrev wants_by : ℕ → Exchange → Option Bound → Exchange
wants_by at e v = elim v as (λ t. Exchange) [ None ↦ e | Some b ↦ record e { body = Joining (record b { wanted = at }) } ]

one_wants : (s : State) (e : Exchange) (b : Bound) (at : ℕ) → bound_of e ≡ Some b → furthest_at s b ≡ Some at → wanting at e ≡ rested_exchange s e
one_wants s e b at is some =
    ap (wants_by at e) is
    ∙ ap (λ (o : Option ℕ). let d : Exchange = record e { body = Joining (wanted_at b o) } in d) (sym some)
    ∙ sym (rests_is s e (Some b) is)

rests_number : (s : State) (e : Exchange) → (rested_exchange s e).number ≡ e.number
rests_number s e = by (bound_of e)
  where
    by : (v : Option Bound) → (rests_by s e v).number ≡ e.number
    by None = refl
    by (Some b) = refl

rests_asked : (s : State) (e : Exchange) → IsAskedAs e (rested_exchange s e)
rests_asked s e = by (bound_of e)
  where
    by : (v : Option Bound) → IsAskedAs e (rests_by s e v)
    by None = record { to_head = refl; asked = refl; text = refl; alone = refl }
    by (Some b) = record { to_head = refl; asked = refl; text = refl; alone = refl }

-- once it is noted, that stays
wanted_again : (s : State) (b : Bound) → wanted_to s (wanted_to s b) ≡ wanted_to s b
wanted_again s b = by (furthest_at s b) refl
  where
    by : (o : Option ℕ) → furthest_at s b ≡ o → wanted_to s (wanted_at b o) ≡ wanted_at b o
    by None none = ap (wanted_at b) none
    by (Some at) some = ap (wanted_at (record b { wanted = at })) some

rests_again : (s : State) (e : Exchange) → rested_exchange s (rested_exchange s e) ≡ rested_exchange s e
rests_again s e = by (bound_of e) refl
  where
    by : (v : Option Bound) → bound_of e ≡ v → rested_exchange s (rests_by s e v) ≡ rests_by s e v
    by None none = rests_is s e None none
    by (Some b) some = ap (λ (d : Bound). let x : Exchange = record e { body = Joining d } in x) (wanted_again s b)

-- ---- of these numbers, one behind the other

abbrev at : (Exchange → Exchange) → ℕ → Exchange → Exchange
at g n e = elim (is_exchange n e) as (λ t. Exchange) [ true ↦ g e | false ↦ e ]

abbrev each_at : (Exchange → Exchange) → List ℕ → Exchange → Exchange
each_at g [] e = e
each_at g (n ∷ ns) e = each_at g ns (at g n e)

abbrev law_at : (Exchange → Exchange) → List ℕ → State → State
law_at g [] t = t
law_at g (n ∷ ns) t = law_at g ns (on_exchange n g t)

map_itself : (es : List Exchange) → map (λ (e : Exchange). e) es ≡ es
map_itself [] = refl
map_itself (e ∷ es) = ap (λ (ds : List Exchange). e ∷ ds) (map_itself es)

map_twice : (f h : Exchange → Exchange) (es : List Exchange) → map h (map f es) ≡ map (λ (e : Exchange). h (f e)) es
map_twice f h [] = refl
map_twice f h (e ∷ es) = ap (λ (ds : List Exchange). h (f e) ∷ ds) (map_twice f h es)

on_is : (n : ℕ) (g : Exchange → Exchange) (t : State) → on_exchange n g t ≡ record t { exchanges = map (at g n) t.exchanges }
unfolding on_exchange
on_is n g t = refl

law_is : (g : Exchange → Exchange) (ns : List ℕ) (t : State) → law_at g ns t ≡ record t { exchanges = map (each_at g ns) t.exchanges }
law_is g [] t = ap (λ (es : List Exchange). let u : State = record t { exchanges = es } in u) (sym (map_itself t.exchanges))
law_is g (n ∷ ns) t =
    law_is g ns (on_exchange n g t)
    ∙ ap (λ (u : State). let v : State = record u { exchanges = map (each_at g ns) u.exchanges } in v) (on_is n g t)
    ∙ ap (λ (es : List Exchange). let u : State = record t { exchanges = es } in u) (map_twice (at g n) (each_at g ns) t.exchanges)

module _ (g : Exchange → Exchange) (again : (e : Exchange) → g (g e) ≡ g e) where
  each_same : (ns : List ℕ) (e : Exchange) → each_at g ns (g e) ≡ g e
  each_same [] e = refl
  each_same (n ∷ ns) e = by (is_exchange n (g e)) (each_same ns e)
    where
      by : (b : Bool) → each_at g ns (g e) ≡ g e → each_at g ns (elim b as (λ t. Exchange) [ true ↦ g (g e) | false ↦ g e ]) ≡ g e
      by true rest = ap (λ (d : Exchange). each_at g ns d) (again e) ∙ rest
      by false rest = rest

  each_once : (ns : List ℕ) (e : Exchange) → has_number e.number ns ≡ true → each_at g ns e ≡ g e
  each_once [] e has = absurd (cc has)
  each_once (n ∷ ns) e has = by (is_exchange n e) refl (λ later_has. each_once ns e later_has)
    where
      later : (e.number == n) ≡ false → has_number e.number ns ≡ true
      later off = ap (λ (b : Bool). b || has_number e.number ns) (sym (other_way e.number n off)) ∙ has

      by : (b : Bool) → (e.number == n) ≡ b → (has_number e.number ns ≡ true → each_at g ns e ≡ g e) → each_at g ns (elim b as (λ t. Exchange) [ true ↦ g e | false ↦ e ]) ≡ g e
      by true is rest = each_same ns e
      by false off rest = rest (later off)

  all_once : (ns : List ℕ) (es : List Exchange) → ((n : ℕ) → has_number n ns ≡ false → find (is_exchange n) es ≡ None) → map (each_at g ns) es ≡ map g es
  all_once ns [] none = refl
  all_once ns (e ∷ es) none =
      ap₂ (λ (d : Exchange) (ds : List Exchange). d ∷ ds) (each_once ns e (there (has_number e.number ns) refl)) (all_once ns es (λ n out. past n (is_exchange n e) (none n out)))
    where
      there : (b : Bool) → has_number e.number ns ≡ b → has_number e.number ns ≡ true
      there true is = is
      there false out = absurd (none_some e (sym (none e.number out) ∙ ap (λ (b : Bool). cond b (Some e) (find (is_exchange e.number) es)) (same_itself e.number)))

      past : (n : ℕ) (b : Bool) → cond b (Some e) (find (is_exchange n) es) ≡ None → find (is_exchange n) es ≡ None
      past n true is = absurd (none_some e (sym is))
      past n false is = is

-- ---- in the program as in the law

first_none : (a b : Bool) → (a || b) ≡ false → (a ≡ false) × (b ≡ false)
first_none true b none = absurd (cc none)
first_none false b none = (refl, none)

entries_none : (n : ℕ) (xs ys : List Entry) → has_number n (numbers (xs ++ ys)) ≡ false → first_of (find (is_number n) xs) (find (is_number n) ys) ≡ None
entries_none n [] [] none = refl
entries_none n [] (y ∷ ys) none =
    let both : (is_number n y ≡ false) × (has_number n (numbers ys) ≡ false) = first_none (is_number n y) (has_number n (numbers ys)) none in
    ap (λ (b : Bool). cond b (Some y) (find (is_number n) ys)) both.0 ∙ entries_none n [] ys both.1
entries_none n (x ∷ xs) ys none =
    let both : (is_number n x ≡ false) × (has_number n (numbers (xs ++ ys)) ≡ false) = first_none (is_number n x) (has_number n (numbers (xs ++ ys))) none in
    ap (λ (b : Bool). first_of (cond b (Some x) (find (is_number n) xs)) (find (is_number n) ys)) both.0 ∙ entries_none n xs ys both.1

module _ (number : ℕ → ℕ) (peers : List Peer) (p : Turn) (s : State) (end : ShowsEnd number none_leaves peers p s) (loud : AreLoud p) where
  abbrev g : Exchange → Exchange
  g = rested_exchange s

  record Goes (f : Exchanges) (t : State) : Type 0 where
    shows : ShowsFlow number none_leaves f t
    told : AreTold number p.cache s.next_instance f

  -- nothing of it changes
  stays : (n : ℕ) (f : Exchanges) (t : State) (e : Exchange) → ShowsFlow number none_leaves f t → exchange t n ≡ Some e → g e ≡ e → on_exchange n g t ≡ t
  stays n f t e shows there same =
      on_is n g t
      ∙ ap (λ (es : List Exchange). let u : State = record t { exchanges = es } in u) (none_moved t.exchanges (one_only (is_exchange n) t.exchanges e (few_given number none_leaves f t shows n) there))
    where
      none_moved : (es : List Exchange) → AreOnly (is_exchange n) e es → map (at g n) es ≡ es
      none_moved [] only = refl
      none_moved (d ∷ ds) only = ap₂ (λ (x : Exchange) (xs : List Exchange). x ∷ xs) (by (is_exchange n d) refl) (none_moved ds only.1)
        where
          by : (b : Bool) → is_exchange n d ≡ b → (elim b as (λ t. Exchange) [ true ↦ g d | false ↦ d ]) ≡ d
          by true is = let own : d ≡ e = only.0 is in ap g own ∙ same ∙ sym own
          by false off = refl

  -- it is changed as another change would
  changes_as : (n : ℕ) (f : Exchanges) (t : State) (e : Exchange) (h : Exchange → Exchange) → ShowsFlow number none_leaves f t → exchange t n ≡ Some e → h e ≡ g e → on_exchange n h t ≡ on_exchange n g t
  changes_as n f t e h shows there same =
      on_is n h t
      ∙ ap (λ (es : List Exchange). let u : State = record t { exchanges = es } in u) (moved t.exchanges (one_only (is_exchange n) t.exchanges e (few_given number none_leaves f t shows n) there))
      ∙ sym (on_is n g t)
    where
      moved : (es : List Exchange) → AreOnly (is_exchange n) e es → map (at h n) es ≡ map (at g n) es
      moved [] only = refl
      moved (d ∷ ds) only = ap₂ (λ (x : Exchange) (xs : List Exchange). x ∷ xs) (by (is_exchange n d) refl) (moved ds only.1)
        where
          by : (b : Bool) → is_exchange n d ≡ b → (elim b as (λ t. Exchange) [ true ↦ h d | false ↦ d ]) ≡ (elim b as (λ t. Exchange) [ true ↦ g d | false ↦ d ])
          by true is = let own : d ≡ e = only.0 is in ap h own ∙ same ∙ ap g (sym own)
          by false off = refl

  abbrev rests : Exchanges → ℕ → Exchanges
  rests f n = rested p.awake.items p.seats.items f n

  abbrev rests_to : Option Entry → ℕ → Exchanges → Exchanges
  rests_to o n f = rested_to (wanted_of p.awake.items p.seats.items (bound_in_turn o)) n f

  one_rests : (f : Exchanges) (t : State) (n : ℕ) → Goes f t → (o : Option Entry) (d : Option Exchange) → entry_of n f ≡ o → exchange t n ≡ d → AreBoth (ShowsExchange number) o d → Goes (rests f n) (on_exchange n g t)
  one_rests f t n goes None None here there both =
      subst (λ (h : Exchanges). Goes h (on_exchange n g t)) (sym (ap (λ (o : Option Entry). rests_to o n f) here))
      (subst (λ (u : State). Goes f u) (sym (on_is n g t ∙ ap (λ (es : List Exchange). let u : State = record t { exchanges = es } in u) (none_changed (is_exchange n) g t.exchanges there))) goes)
  one_rests f t n goes None (Some e) here there both = absurd both
  one_rests f t n goes (Some x) None here there both = absurd both
  one_rests f t n goes (Some x) (Some e) here there both =
      subst (λ (h : Exchanges). Goes h (on_exchange n g t)) (sym (ap (λ (o : Option Entry). rests_to o n f) here)) (by x.exchange.bound (bound_of e) refl refl its)
    where
      its : ShowsBound number x.exchange.bound (bound_of e)
      its = (exchanges number x e both).bound

      wanted : wanted_of p.awake.items p.seats.items x.exchange.bound ≡ wanted_by number none_leaves peers p s end loud (bound_of e)
      wanted = wanted_same number none_leaves peers p s end loud x.exchange.bound (bound_of e) its (told_of number p.cache s.next_instance n f x goes.told here)

      same : g e ≡ e → rests_to (Some x) n f ≡ f → Goes (rests_to (Some x) n f) (on_exchange n g t)
      same law own = subst (λ (h : Exchanges). Goes h (on_exchange n g t)) (sym own) (subst (λ (u : State). Goes f u) (sym (stays n f t e goes.shows there law)) goes)

      noted : (u : Binding) (b : Bound) (o : Option ℕ) → x.exchange.bound ≡ Some u → bound_of e ≡ Some b → furthest_at s b ≡ o → Goes (rests_to (Some x) n f) (on_exchange n g t)
      noted u b None bound bound_by none =
          same (none_wants s e b bound_by none) (ap (λ (w : Option ℕ). rested_to w n f) (wanted ∙ ap (wanted_by number none_leaves peers p s end loud) bound_by ∙ none))
      noted u b (Some at) bound bound_by some =
          let own : rests_to (Some x) n f ≡ with_errand n (record x.errand { body = IsJoining at }) f =
          ap (λ (w : Option ℕ). rested_to w n f) (wanted ∙ ap (wanted_by number none_leaves peers p s end loud) bound_by ∙ some)
          ∙ ap (λ (o : Option Entry). body_noted o n (IsJoining at) f) here in
          subst (λ (h : Exchanges). Goes h (on_exchange n g t)) (sym own) (record {
            shows = subst (λ (u : State). ShowsFlow number none_leaves (with_errand n (record x.errand { body = IsJoining at }) f) u) (changes_as n f t e (wanting at) goes.shows there (one_wants s e b at bound_by some))
                (wants number none_leaves f t goes.shows n at x u here bound);
            told = told_asked number p.cache s.next_instance n (record x.errand { body = IsJoining at }) f goes.told;
          })

      by : (u : Option Binding) (v : Option Bound) → x.exchange.bound ≡ u → bound_of e ≡ v → ShowsBound number u v → Goes (rests_to (Some x) n f) (on_exchange n g t)
      by None None own law shown = same (rests_is s e None law) (ap (λ (u : Option Binding). rested_to (wanted_of p.awake.items p.seats.items u) n f) own)
      by None (Some b) own law shown = absurd shown
      by (Some u) None own law shown = absurd shown
      by (Some u) (Some b) own law shown = noted u b (furthest_at s b) own law refl

  all_go : (ns : List ℕ) (f : Exchanges) (t : State) → Goes f t → Goes (fold rests f ns) (law_at g ns t)
  all_go [] f t goes = goes
  all_go (n ∷ ns) f t goes = all_go ns (rests f n) (on_exchange n g t) (one_rests f t n goes (entry_of n f) (exchange t n) refl refl (goes.shows.each n))

  abbrev all : List ℕ
  all = numbers (p.flow.waiting ++ p.flow.placed)

  nowhere : (n : ℕ) → has_number n all ≡ false → exchange s n ≡ None
  nowhere n out = by (exchange s n) (subst (λ (o : Option Entry). AreBoth (ShowsExchange number) o (exchange s n)) (entries_none n p.flow.waiting p.flow.placed out) (end.turn.steps.shows.exchanges.each n))
    where
      by : (d : Option Exchange) → AreBoth (ShowsExchange number) None d → d ≡ None
      by None both = refl
      by (Some e) both = absurd both

  law_all : law_at g all s ≡ with_wanted s
  law_all = law_is g all s ∙ ap (λ (es : List Exchange). let t : State = record s { exchanges = es } in t) (all_once g (rests_again s) all s.exchanges nowhere)

  goes_all : Goes (all_rested p.awake.items p.seats.items p.flow) (with_wanted s)
  goes_all =
      subst (λ (t : State). Goes (all_rested p.awake.items p.seats.items p.flow) t) law_all
      (all_go all p.flow s (record { shows = end.turn.steps.shows.exchanges; told = end.turn.steps.told }))

  asked_on : (m : ℕ) → AreBoth IsAskedAs (exchange s m) (exchange (with_wanted s) m)
  asked_on m =
      subst (λ (o : Option Exchange). AreBoth IsAskedAs (exchange s m) o) (sym (find_mapped (is_exchange m) g s.exchanges (λ e. ap (λ (i : ℕ). i == m) (rests_number s e)))) (by (exchange s m))
    where
      by : (o : Option Exchange) → AreBoth IsAskedAs o (option_map g o)
      by None = tt
      by (Some e) = rests_asked s e

  steps_rest : ShowsSteps number p.name.items none_leaves peers (record (parts p) { flow = all_rested p.awake.items p.seats.items p.flow }) (with_wanted s)
  steps_rest = record {
    shows = record {
      clients = end.turn.steps.shows.clients;
      exchanges = goes_all.shows;
      table =
          frames_of number p.cache s end.turn.steps.shows.table p.cache (with_wanted s) (record { instances = refl; lives = refl; chunks = refl; extents = refl })
          (record { instances = refl; made = the_same s.next_instance; chunks = refl; followers = λ id. refl; kept = λ x. refl });
      conns = frames s (with_wanted s) peers s.conns (all_as s (with_wanted s) asked_on s.conns) end.turn.steps.shows.conns;
    };
    order = end.turn.steps.order;
    told = goes_all.told;
    refused = end.turn.steps.refused;
  }

pub exchanges_rest : ExchangesRestAsTheLaws
exchanges_rest number peers p s end loud = steps_rest number peers p s end loud

-- ---- behind the change of the clients

followers_alike : (s : State) (b : Bound) (cs : List Client) → filter_map (at_of (with_rested s) b) (map (rested_client s) cs) ≡ filter_map (at_of s b) cs
followers_alike s b [] = refl
followers_alike s b (c ∷ cs) = ap (λ (rest : List ℕ). cons_option (at_of s b c) rest) (followers_alike s b cs)

pub behind_clients : WantedBehindClients
behind_clients s e = by (bound_of e)
  where
    by : (v : Option Bound) → rests_by (with_rested s) e v ≡ rests_by s e v
    by None = refl
    by (Some b) = ap (λ (ns : List ℕ). let d : Exchange = record e { body = Joining (wanted_at b (reduce max ns)) } in d) (followers_alike s b s.clients)
