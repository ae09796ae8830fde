-- The event of an origin that can be written to, from the wait on.
use Rattle.std.proofs.Common.{◌≡◌, refl, subst, ap, ◌∙◌, ℕ, Bool, true, false, drop, find, min, take, map, List, [], ◌∷◌, ◌++◌, Option, Some, None}
use Rattle.std.specs.Prelude.{option_map}
use Rattle.pp_cache.specs.Bounds.{IsBounded}
use Rattle.pp_cache_law.proofs.Finds.{find_mapped, find_passes}
use Rattle.pp_turns_law.proofs.Peers.{HasPeer, linked}
use Rattle.pp_turns_law.proofs.Twice.{regains_once}
use Rattle.pp_desk.specs.declared.desk.Desk.{Desk}
use Rattle.pp_endings_law.specs.Gone.{IsAnswering}
use Rattle.pp_law.specs.After.{event, owing}
use Rattle.pp_law.specs.Asking.{asking, body_heard, left_to_ask}
use Rattle.pp_law.specs.Connections.{conn, is_client, is_conn, is_for, is_outstanding, on_client, on_conn}
use Rattle.pp_law.specs.Lists.{Bytes}
use Rattle.pp_law.specs.Phases.{in_phase}
use Rattle.pp_law.specs.Replies.{is_regained, regained, regained_by}
use Rattle.pp_law.specs.State.{State, Client, Conn, Exchange, Term, Awaiting, Handling, Free, WriteTo}
use Rattle.pp_law.specs.Turn.{marked_client, marked_conn, touch}
use Rattle.pp_obeys.proofs.Happenings.{goes_can_write, obeys_by}
use Rattle.pp_obeys.proofs.Moving.{lead_joined}
use Rattle.pp_obeys.specs.Obeys.{Obeys}
use Rattle.pp_proxy.specs.Handling.{AsksOn, WritesAt, WritesBy}
use Rattle.pp_proxy.specs.Moving.{Turning, at_desk}
use Rattle.pp_state.specs.Ends.{numbers_of, parts, place_of}
use Rattle.pp_text.specs.Bytes.{is_empty}
use Rattle.pp_world.specs.Log.{Log}
use Rattle.pp_world.specs.declared.event.Event.TheVariants.{Writable}
use Rattle.pp_world.specs.declared.happening.Happening.TheVariants.{CanWrite}
use Rattle.pp_events_law.proofs.Alike.{AreAlike, WasAlike}
use Rattle.pp_events_law.proofs.Anew.{anew_if}
use Rattle.pp_events_law.proofs.Asked.{line_of_next, next_by_law}
use Rattle.pp_events_law.proofs.Asks.{askings}
use Rattle.pp_events_law.proofs.ReadWhole.{settled_as}
use Rattle.pp_events_law.proofs.ReadyBehind.{given_on}
use Rattle.pp_events_law.proofs.Touched.{no_seat}
use Rattle.pp_events_law.proofs.Woken.{origin_writes, woken_alike}
use Rattle.pp_events_law.specs.Asks.{MayAsk}
use Rattle.pp_events_law.specs.Ready.{HasLedReady, HasLedReadyBehind}
use Rattle.pp_events_law.specs.Stands.{AreReadyAt, StandsAtEvent, come}
use Rattle.pp_events_law.specs.Woken.{IsOwed}
use Rattle.pp_events_law.specs.Writable.{MayBeAsked, OriginWritesLead}

-- ---- of the law: what the event leaves of what is to be asked

abbrev owed_write : ℕ → State → State
owed_write k s = event (owing (WriteTo k) k s)

its_conn : (k : ℕ) (s : State) (j : Conn) → conn s k ≡ Some j → conn (owed_write k s) k ≡ Some (marked_conn s.clock j)
unfolding event owing regained touch on_conn on_client
its_conn k s j there = find_mapped (is_conn k) (λ i. elim (is_conn k i) as (λ t. Conn) [ true ↦ marked_conn s.clock i | false ↦ i ]) s.conns (λ i. same (is_conn k i) i) ∙ ap (λ (o : Option Conn). option_map (λ i. elim (is_conn k i) as (λ t. Conn) [ true ↦ marked_conn s.clock i | false ↦ i ]) o) there ∙ ap (λ (b : Bool). Some (elim b as (λ t. Conn) [ true ↦ marked_conn s.clock j | false ↦ j ])) (find_passes (is_conn k) s.conns j there)
  where
    same : (b : Bool) (i : Conn) → is_conn k (elim b as (λ t. Conn) [ true ↦ marked_conn s.clock i | false ↦ i ]) ≡ is_conn k i
    same true i = refl
    same false i = refl

same_next : (k : ℕ) (s : State) (ns : List ℕ) → next_by_law (owed_write k s) ns ≡ next_by_law s ns
unfolding event owing regained touch on_conn on_client
same_next k s ns = refl

its_next : (k : ℕ) (s : State) (j : Conn) (e : Exchange) → conn s k ≡ Some j → asking s k ≡ Some e → asking (owed_write k s) k ≡ Some e
its_next k s j e there next = ap (λ (o : Option Conn). elim o as (λ t. Option Exchange) [ None ↦ None | Some i ↦ next_by_law (owed_write k s) i.line ]) (its_conn k s j there) ∙ same_next k s j.line ∙ line_of_next s k j e there next

-- each client has heard the same
kept_of : ℕ → State → Client → Client
kept_of k s c = regained_by s (elim (is_client k c) as (λ t. Client) [ true ↦ marked_client s.clock c | false ↦ c ])

abbrev heard_from : Exchange → Option Client → Bytes
heard_from e o = elim o as (λ c. Bytes) [ None ↦ [] | Some c ↦ take (min e.body_left c.body_left) c.heard ]

same_clients : (k : ℕ) (s : State) → (owed_write k s).clients ≡ map (kept_of k s) s.clients
unfolding event owing regained touch on_conn on_client kept_of
same_clients k s = map_twice (regained_by s) (λ c. elim (is_client k c) as (λ t. Client) [ true ↦ marked_client s.clock c | false ↦ c ]) s.clients
  where
    map_twice : (g f : Client → Client) (cs : List Client) → map g (map f cs) ≡ map (λ c. g (f c)) cs
    map_twice g f [] = refl
    map_twice g f (c ∷ cs) = ap (λ (ds : List Client). g (f c) ∷ ds) (map_twice g f cs)

-- by what is no part of a mark, nor of attempts
kept_same : {A : Type 0} (k : ℕ) (s : State) (g : Client → A) → ((b : Bool) (c : Client) → g (anew_if b c) ≡ g c) → ((c : Client) → g (marked_client s.clock c) ≡ g c) → (c : Client) → g (kept_of k s c) ≡ g c
unfolding kept_of
kept_same k s g anew mark c = by (is_client k c)
  where
    by : (b : Bool) → g (regained_by s (elim b as (λ t. Client) [ true ↦ marked_client s.clock c | false ↦ c ])) ≡ g c
    by true = anew (is_regained s (marked_client s.clock c)) (marked_client s.clock c) ∙ mark c
    by false = anew (is_regained s c) c

heard_same : (k : ℕ) (s : State) (e : Exchange) → body_heard (owed_write k s) e ≡ body_heard s e
heard_same k s e =
    ap (λ (cs : List Client). heard_from e (find (is_for e) cs)) (same_clients k s)
    ∙ ap (λ (o : Option Client). heard_from e o) (find_mapped (is_for e) (kept_of k s) s.clients (λ c. kept_same k s (λ d. is_for e d) (λ b d. for_anew b d) (λ d. refl) c))
    ∙ by (find (is_for e) s.clients)
  where
    for_anew : (b : Bool) (d : Client) → is_for e (anew_if b d) ≡ is_for e d
    for_anew true d = refl
    for_anew false d = refl

    from_anew : (b : Bool) (d : Client) → heard_from e (Some (anew_if b d)) ≡ heard_from e (Some d)
    from_anew true d = refl
    from_anew false d = refl

    by : (o : Option Client) → heard_from e (option_map (kept_of k s) o) ≡ heard_from e o
    by None = refl
    by (Some c) = kept_same k s (λ d. heard_from e (Some d)) (λ b d. from_anew b d) (λ d. refl) c

left_same : (k : ℕ) (s : State) (e : Exchange) → left_to_ask (owed_write k s) e ≡ left_to_ask s e
left_same k s e = by (is_outstanding e)
  where
    by : (b : Bool) → (elim b as (λ t. Bytes) [ false ↦ drop e.asked e.text | true ↦ body_heard (owed_write k s) e ]) ≡ (elim b as (λ t. Bytes) [ false ↦ drop e.asked e.text | true ↦ body_heard s e ])
    by false = refl
    by true = heard_same k s e

its_answers : (k : ℕ) (s : State) (j : Conn) → IsAnswering s j → IsAnswering (owed_write k s) (marked_conn s.clock j)
unfolding event owing regained touch on_conn on_client
its_answers k s j one = record { first = one.first; others = one.others; line = one.line; known = one.known; whole = one.whole }

once_anew : (k : ℕ) (s : State) → regained (owed_write k s) ≡ owed_write k s
unfolding event
once_anew k s = regains_once (in_phase Handling (owing (WriteTo k) k s))

-- ---- from the wait on

module _ (terms : List Term) (log : Log) (number : ℕ → ℕ) (k : ℕ) (x y : Turning) (s : State) (j : Conn) (e : Exchange) (obeys : Obeys terms s log) (stands : StandsAtEvent number Awaiting Free x.moving s) (ready : AreReadyAt number x.moving s) (may : MayBeAsked k x s j e) (bounded : IsBounded y.moving.desk.state.cache)
    (writes : WritesAt k (come (Writable k) x) y) where
  abbrev old : Desk
  old = x.moving.desk

  abbrev woken : Desk
  woken = writes.woken

  abbrev v : State
  v = owed_write k s

  abbrev next : Turning
  next = at_desk woken x

  its : HasPeer s k old.peers j
  its = linked s k old.peers s.conns j may.there stands.desk.turn.steps.shows.conns

  place : place_of k (numbers_of woken.state.seats.items) ≡ None
  place = ap (λ (ns : List ℕ). place_of k ns) (writes.wakes.touches.numbers ∙ writes.wakes.regains.numbers) ∙ no_seat k (numbers_of old.state.seats.items) old.peers x.moving.links its.peer its.there stands.opened.clients stands.opened.origins

  asks : AsksOn k next y
  asks = subst (λ (o : Option ℕ). WritesBy o k next y) place writes.writes

  owed : IsOwed number (WriteTo k) (CanWrite k) next.moving s v
  owed = origin_writes number k x.moving woken s stands ready writes.wakes its.peer its.there

  alike : AreAlike (parts old.state) (parts woken.state)
  alike = woken_alike number k x.moving woken s stands ready writes.wakes (WriteTo k)

  obeys_now : Obeys terms v (log ++ CanWrite k ∷ [])
  obeys_now = obeys_by (CanWrite k) obeys (goes_can_write s k stands.law.none stands.law.at) (λ fails. absurd (cc fails))

  may_now : MayAsk k next v (marked_conn s.clock j) e
  may_now = record {
    there = its_conn k s j may.there;
    going = may.going;
    next = its_next k s j e may.there may.next;
    some = ap (λ (xs : Bytes). is_empty xs) (left_same k s e) ∙ may.some;
    few = may.few;
    short = may.short;
    answers = λ a is. its_answers k s j (may.answers a is);
    anew = once_anew k s;
    linked = may.linked;
    settled = λ i other here. let one : WasAlike old.state.seats.items i other = alike.was i other here in settled_as one.old other one.is (may.settled i one.old one.here);
  }

  asked : HasLedReady number next y v
  asked = askings terms (log ++ CanWrite k ∷ []) number k next y v (marked_conn s.clock j) e obeys_now owed.stands owed.ready may_now bounded asks

  write_whole : HasLedReadyBehind number (CanWrite k) x y s
  write_whole = record {
    led = record { log = asked.led.log; then = asked.led.then; told = asked.led.handled.told; leads = lead_joined (CanWrite k ∷ []) asked.led.log s v asked.led.then owed.leads asked.led.handled.leads; handled = asked.led.handled.handled };
    ready = λ given. asked.ready (given_on x next y alike given);
  }

pub writes_whole : OriginWritesLead
writes_whole terms log number k x y s j e obeys stands ready may bounded writes = write_whole terms log number k x y s j e obeys stands ready may bounded writes
