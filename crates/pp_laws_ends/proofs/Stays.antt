-- An ask that has no place to go to has none where more is asked of the connections that are there.
use Rattle.std.proofs.Common.{◌≡◌, refl, ℕ, ◌≤◌, nat_lt, Bool, true, false, not, ◌==◌, ◌&&◌, if◌then◌else◌, List, [], ◌∷◌, map, filter, cond, length, bytes_eq, Option, Some, None, unwrap_or, option_map, sym, subst, ap, ◌∙◌, arith}
use Rattle.std.specs.List.{list_any}
use Rattle.std.proofs.lemmas.Bool.Decides.{nat_tests}
use Rattle.pp_peers.specs.Peers.{Loaded}
use Rattle.pp_peers.specs.Placing.{first_of, new_place, pipelined_place, place}
use Rattle.pp_peers.specs.Searches.{Weight, count_of, is_any, is_idle, is_of, lightest, lightest_of, lowest, lowest_idle, numbers, takes_more, weights}
use Rattle.pp_peers.specs.declared.placing.Placed.TheVariants.{On, Dial, CloseThenDial, Wait}
use Rattle.pp_peers.specs.declared.placing.Placed.{Placed}
use Rattle.pp_conf.specs.Conf.{Settings}
use Rattle.pp_law.specs.Connections.{exchange, open_conns, place_for, with_load}
use Rattle.pp_law.specs.Lists.{is_some_with}
use Rattle.pp_law.specs.Requests.{goes_alone}
use Rattle.pp_law.specs.State.{State, Conn, Exchange}
use Rattle.pp_laws.specs.Runs.{IsIn}
use Rattle.pp_laws.proofs.Lists.{in_map}
use Rattle.pp_laws.proofs.Tests.{first_holds, second_holds}
use Rattle.pp_laws_bounds.proofs.Counts.{count-over, in_filter_of, in_map_of, length-map}
use Rattle.pp_laws_bounds.proofs.Peers.{Has, idle_there, lightest_there}

-- ---- by cases

abbrev pub NewBy : Bool → Bool → Option ℕ → Option ℕ → Option Placed
NewBy b c any idle = if b then (if c then Some Dial else option_map CloseThenDial any) else option_map CloseThenDial idle

no_number : (o : Option ℕ) → unwrap_or (option_map CloseThenDial o) Wait ≡ Wait → o ≡ None
no_number None is = refl
no_number (Some n) is = absurd (cc is)

closes_none : (o : Option ℕ) → o ≡ None → unwrap_or (option_map CloseThenDial o) Wait ≡ Wait
closes_none o is = ap (λ x. unwrap_or (option_map CloseThenDial x) Wait) is

alone_stays : (b c : Bool) (any idle any2 idle2 : Option ℕ) → (any ≡ None → any2 ≡ None) → (idle ≡ None → idle2 ≡ None) → unwrap_or (NewBy b c any idle) Wait ≡ Wait → unwrap_or (NewBy b c any2 idle2) Wait ≡ Wait
alone_stays true true any idle any2 idle2 ha hi is = absurd (cc is)
alone_stays true false any idle any2 idle2 ha hi is = closes_none any2 (ha (no_number any is))
alone_stays false c any idle any2 idle2 ha hi is = closes_none idle2 (hi (no_number idle is))

abbrev PipedBy : Bool → Option Weight → Option Placed
PipedBy pipelines light = if pipelines then option_map (λ w. On w.1) light else None

no_light : (o : Option Weight) → unwrap_or (option_map (λ w. On w.1) o) Wait ≡ Wait → o ≡ None
no_light None is = refl
no_light (Some w) is = absurd (cc is)

piped_stays : (pipelines : Bool) (light light2 : Option Weight) → (light ≡ None → light2 ≡ None) → unwrap_or (PipedBy pipelines light) Wait ≡ Wait → unwrap_or (PipedBy pipelines light2) Wait ≡ Wait
piped_stays false light light2 hl is = refl
piped_stays true light light2 hl is = ap (λ x. unwrap_or (option_map (λ w. On w.1) x) Wait) (hl (no_light light is))

-- behind no idle one comes a new one, and behind no new one the line of another
closes_first : (o o2 : Option ℕ) (more more2 : Option Placed) → (o ≡ None → o2 ≡ None) → (unwrap_or more Wait ≡ Wait → unwrap_or more2 Wait ≡ Wait)
    → unwrap_or (first_of (option_map CloseThenDial o) more) Wait ≡ Wait → unwrap_or (first_of (option_map CloseThenDial o2) more2) Wait ≡ Wait
closes_first None o2 more more2 ho rest is = ap (λ x. unwrap_or (first_of (option_map CloseThenDial x) more2) Wait) (ho refl) ∙ rest is
closes_first (Some n) o2 more more2 ho rest is = absurd (cc is)

new_first : (b c : Bool) (any idle any2 idle2 : Option ℕ) (more more2 : Option Placed) → (any ≡ None → any2 ≡ None) → (idle ≡ None → idle2 ≡ None) → (unwrap_or more Wait ≡ Wait → unwrap_or more2 Wait ≡ Wait)
    → unwrap_or (first_of (NewBy b c any idle) more) Wait ≡ Wait → unwrap_or (first_of (NewBy b c any2 idle2) more2) Wait ≡ Wait
new_first true true any idle any2 idle2 more more2 ha hi rest is = absurd (cc is)
new_first true false any idle any2 idle2 more more2 ha hi rest is = closes_first any any2 more more2 ha rest is
new_first false c any idle any2 idle2 more more2 ha hi rest is = closes_first idle idle2 more more2 hi rest is

idle_first : (o o2 : Option ℕ) (more more2 : Option Placed) → (o ≡ None → o2 ≡ None) → (unwrap_or more Wait ≡ Wait → unwrap_or more2 Wait ≡ Wait)
    → unwrap_or (first_of (option_map On o) more) Wait ≡ Wait → unwrap_or (first_of (option_map On o2) more2) Wait ≡ Wait
idle_first None o2 more more2 ho rest is = ap (λ x. unwrap_or (first_of (option_map On x) more2) Wait) (ho refl) ∙ rest is
idle_first (Some n) o2 more more2 ho rest is = absurd (cc is)

-- where it goes by what is found of the connections
abbrev PlaceOf : Bool → Bool → Bool → Bool → Option ℕ → Option ℕ → Option Weight → Placed
PlaceOf alone b c pipelines any idle light =
    if alone then unwrap_or (NewBy b c any idle) Wait
    else unwrap_or (first_of (option_map On idle) (first_of (NewBy b c any idle) (PipedBy pipelines light))) Wait

place_stays : (alone b c pipelines : Bool) (any idle any2 idle2 : Option ℕ) (light light2 : Option Weight) → (any ≡ None → any2 ≡ None) → (idle ≡ None → idle2 ≡ None) → (light ≡ None → light2 ≡ None)
    → PlaceOf alone b c pipelines any idle light ≡ Wait → PlaceOf alone b c pipelines any2 idle2 light2 ≡ Wait
place_stays true b c pipelines any idle any2 idle2 light light2 ha hi hl is = alone_stays b c any idle any2 idle2 ha hi is
place_stays false b c pipelines any idle any2 idle2 light light2 ha hi hl is =
    idle_first idle idle2 (first_of (NewBy b c any idle) (PipedBy pipelines light)) (first_of (NewBy b c any2 idle2) (PipedBy pipelines light2)) hi
    (new_first b c any idle any2 idle2 (PipedBy pipelines light) (PipedBy pipelines light2) ha hi (piped_stays pipelines light light2 hl)) is

piped_is : (pipelines : Bool) (host : List ℕ) (port : ℕ) (peers : List Loaded) → pipelined_place pipelines host port peers ≡ PipedBy pipelines (lightest (is_of host port) peers)
piped_is true host port peers = refl
piped_is false host port peers = refl

-- ---- the best of some

none_in : {A : Type 0} (xs : List A) (x : A) → xs ≡ [] → IsIn x xs → ⊥
none_in xs x is i = subst (λ ys. IsIn x ys) is i

lowest_none : (ns : List ℕ) → lowest ns ≡ None → ns ≡ []
lowest_none [] is = refl
lowest_none (n ∷ ns) is = absurd (cc is)

lightest_none : (ws : List Weight) → lightest_of ws ≡ None → ws ≡ []
lightest_none [] is = refl
lightest_none (w ∷ ws) is = absurd (cc is)

none_idle : (among : Loaded → Bool) (peers : List Loaded) (p : Loaded) → IsIn p peers → is_idle among p ≡ true → lowest_idle among peers ≡ None → ⊥
none_idle among peers p i is none =
    none_in (numbers (is_idle among) peers) p.number (lowest_none (numbers (is_idle among) peers) none) (in_map_of (λ (q : Loaded). q.number) p (filter (is_idle among) peers) (in_filter_of (is_idle among) p peers i is))

none_light : (among : Loaded → Bool) (peers : List Loaded) (p : Loaded) → IsIn p peers → takes_more among p ≡ true → lightest among peers ≡ None → ⊥
none_light among peers p i is none =
    none_in (weights (takes_more among) peers) (p.load.outstanding, p.number) (lightest_none (weights (takes_more among) peers) none)
    (in_map_of (λ (q : Loaded). (q.load.outstanding, q.number)) p (filter (takes_more among) peers) (in_filter_of (takes_more among) p peers i is))

-- ---- the same connections, with more to carry

pub record Crowds (ks : List Conn) (f g : Conn → Loaded) : Type 0 where
  pub host : (k : Conn) → (g k).host ≡ (f k).host
  pub port : (k : Conn) → (g k).port ≡ (f k).port
  pub idle : (k : Conn) → ((g k).load.asks == 0) ≡ true → ((f k).load.asks == 0) ≡ true
  pub more : (k : Conn) → ((g k).load.may_pipeline && nat_lt (g k).load.asks 8) ≡ true → ((f k).load.may_pipeline && nat_lt (f k).load.asks 8) ≡ true

both_true : (a b : Bool) → a ≡ true → b ≡ true → (a && b) ≡ true
both_true true b is more = more
both_true false b is more = absurd (cc is)

-- where none of the first passes a test, none of the others does
idle_stays : (among : Loaded → Bool) (ks : List Conn) (f g : Conn → Loaded) → Crowds ks f g → ((k : Conn) → among (g k) ≡ among (f k)) → lowest_idle among (map f ks) ≡ None → lowest_idle among (map g ks) ≡ None
idle_stays among ks f g h alike none = by (lowest_idle among (map g ks)) refl
  where
    never : (n : ℕ) → Has (is_idle among) n (map g ks) → ⊥
    never n w =
        let r = in_map g w.0 ks w.1 in
        let is : is_idle among (g r.was) ≡ true = subst (λ (p : Loaded). is_idle among p ≡ true) r.is w.3 in
        none_idle among (map f ks) (f r.was) (in_map_of f r.was ks r.there)
        (both_true (among (f r.was)) ((f r.was).load.asks == 0) (sym (alike r.was) ∙ first_holds (among (g r.was)) ((g r.was).load.asks == 0) is) (h.idle r.was (second_holds (among (g r.was)) ((g r.was).load.asks == 0) is))) none

    by : (o : Option ℕ) → lowest_idle among (map g ks) ≡ o → o ≡ None
    by None is = refl
    by (Some n) is = absurd (never n (idle_there among (map g ks) n is))

light_stays : (among : Loaded → Bool) (ks : List Conn) (f g : Conn → Loaded) → Crowds ks f g → ((k : Conn) → among (g k) ≡ among (f k)) → lightest among (map f ks) ≡ None → lightest among (map g ks) ≡ None
light_stays among ks f g h alike none = by (lightest among (map g ks)) refl
  where
    never : (n : Weight) → Has (takes_more among) n.1 (map g ks) → ⊥
    never n w =
        let r = in_map g w.0 ks w.1 in
        let is : takes_more among (g r.was) ≡ true = subst (λ (p : Loaded). takes_more among p ≡ true) r.is w.3 in
        none_light among (map f ks) (f r.was) (in_map_of f r.was ks r.there)
        (both_true (among (f r.was)) ((f r.was).load.may_pipeline && nat_lt (f r.was).load.asks 8)
        (sym (alike r.was) ∙ first_holds (among (g r.was)) ((g r.was).load.may_pipeline && nat_lt (g r.was).load.asks 8) is) (h.more r.was (second_holds (among (g r.was)) ((g r.was).load.may_pipeline && nat_lt (g r.was).load.asks 8) is))) none

    by : (o : Option Weight) → lightest among (map g ks) ≡ o → o ≡ None
    by None is = refl
    by (Some n) is = absurd (never n (lightest_there among (map g ks) n is))

abbrev Found : Bool → Bool → ℕ → List ℕ → ℕ → List Loaded → Placed
Found alone pipelines most host port peers = PlaceOf alone (nat_lt (count_of (is_of host port) peers) most) (nat_lt (length peers) 64) pipelines (lowest_idle is_any peers) (lowest_idle (is_of host port) peers) (lightest (is_of host port) peers)

found_stays : (alone pipelines : Bool) (most : ℕ) (host : List ℕ) (port : ℕ) (ks : List Conn) (f g : Conn → Loaded) → Crowds ks f g → Found alone pipelines most host port (map f ks) ≡ Wait → Found alone pipelines most host port (map g ks) ≡ Wait
found_stays alone pipelines most host port ks f g h is =
    subst (λ m. PlaceOf alone (nat_lt m most) (nat_lt (length (map g ks)) 64) pipelines (lowest_idle is_any (map g ks)) (lowest_idle (is_of host port) (map g ks)) (lightest (is_of host port) (map g ks)) ≡ Wait) (sym count)
    (subst (λ m. PlaceOf alone (nat_lt (count_of (is_of host port) (map f ks)) most) (nat_lt m 64) pipelines (lowest_idle is_any (map g ks)) (lowest_idle (is_of host port) (map g ks)) (lightest (is_of host port) (map g ks)) ≡ Wait) (sym long)
    (place_stays alone (nat_lt (count_of (is_of host port) (map f ks)) most) (nat_lt (length (map f ks)) 64) pipelines
    (lowest_idle is_any (map f ks)) (lowest_idle (is_of host port) (map f ks)) (lowest_idle is_any (map g ks)) (lowest_idle (is_of host port) (map g ks)) (lightest (is_of host port) (map f ks)) (lightest (is_of host port) (map g ks))
    (idle_stays is_any ks f g h (λ k. refl)) (idle_stays (is_of host port) ks f g h alike) (light_stays (is_of host port) ks f g h alike) is))
  where
    alike : (k : Conn) → is_of host port (g k) ≡ is_of host port (f k)
    alike k = ap (λ x. bytes_eq x host && ((g k).port == port)) (h.host k) ∙ ap (λ n. bytes_eq (f k).host host && (n == port)) (h.port k)

    count : count_of (is_of host port) (map g ks) ≡ count_of (is_of host port) (map f ks)
    count = count-over (is_of host port) (λ k. is_of host port (f k)) g alike ks ∙ sym (count-over (is_of host port) (λ k. is_of host port (f k)) f (λ k. refl) ks)

    long : length (map g ks) ≡ length (map f ks)
    long = length-map g ks ∙ sym (length-map f ks)

found_is : (alone pipelines : Bool) (most : ℕ) (host : List ℕ) (port : ℕ) (peers : List Loaded) → place (record { host_connections = most; pipelines_asks = pipelines }) host port alone peers ≡ Found alone pipelines most host port peers
found_is true pipelines most host port peers = refl
found_is false pipelines most host port peers = ap (λ x. unwrap_or (first_of (option_map On (lowest_idle (is_of host port) peers)) (first_of (new_place most host port peers) x)) Wait) (piped_is pipelines host port peers)

-- ---- in a state

-- an exchange of that number goes alone
abbrev pub alone_in : State → ℕ → Bool
alone_in s n = is_some_with (λ (e : Exchange). goes_alone e.head) (exchange s n)

-- each connection of the other is one of this, with as much in its line at least
pub record IsFuller (s u : State) (h : Conn → Conn) : Type 0 where
  pub settings : u.settings ≡ s.settings
  pub conns : u.conns ≡ map h s.conns
  pub host : (k : Conn) → (h k).host ≡ k.host
  pub port : (k : Conn) → (h k).port ≡ k.port
  pub closing : (k : Conn) → (h k).is_closing ≡ k.is_closing
  pub pipelines : (k : Conn) → (h k).may_pipeline ≡ k.may_pipeline
  pub longer : (k : Conn) → length k.line ≤ length (h k).line
  pub alone : (k : Conn) → list_any (alone_in s) k.line ≡ true → list_any (alone_in u) (h k).line ≡ true

filter_mapped : {A : Type 0} (p : A → Bool) (h : A → A) → ((x : A) → p (h x) ≡ p x) → (xs : List A) → filter p (map h xs) ≡ map h (filter p xs)
filter_mapped p h alike [] = refl
filter_mapped {A} p h alike (x ∷ xs) = ap (λ t. cond t (h x ∷ filter p (map h xs)) (filter p (map h xs))) (alike x) ∙ by (p x) (filter_mapped p h alike xs)
  where
    by : (t : Bool) → filter p (map h xs) ≡ map h (filter p xs) → cond t (h x ∷ filter p (map h xs)) (filter p (map h xs)) ≡ map h (cond t (x ∷ filter p xs) (filter p xs))
    by true rest = ap (λ ys. h x ∷ ys) rest
    by false rest = rest

map_twice : {A B C : Type 0} (f : B → C) (h : A → B) (xs : List A) → map f (map h xs) ≡ map (λ x. f (h x)) xs
map_twice f h [] = refl
map_twice f h (x ∷ xs) = ap (λ ys. f (h x) ∷ ys) (map_twice f h xs)

fewer_idle : (m n : ℕ) → m ≤ n → (n == 0) ≡ true → (m == 0) ≡ true
fewer_idle m n le is = grind (arith, nat_tests)

fewer_below : (m n : ℕ) → m ≤ n → nat_lt n 8 ≡ true → nat_lt m 8 ≡ true
fewer_below m n le is = grind (arith, nat_tests)

still_more : (a b x y s t : Bool) → a ≡ b → (y ≡ true → x ≡ true) → (s ≡ true → t ≡ true) → (a && not x && s) ≡ true → (b && not y && t) ≡ true
still_more true true false false s t ab yx st is = st is
still_more true true false true s t ab yx st is = let both : false ≡ true = yx refl in absurd (cc both)
still_more true true true y s t ab yx st is = absurd (cc is)
still_more true false x y s t ab yx st is = absurd (cc ab)
still_more false b x y s t ab yx st is = absurd (cc is)

pub wait_stays : (s u : State) (h : Conn → Conn) → IsFuller s u h → (e : Exchange) → place_for s e ≡ Wait → place_for u e ≡ Wait
wait_stays s u h full e is =
    found_is (goes_alone e.head) u.settings.pipelines_asks u.settings.host_connections e.key.host e.key.port (map (with_load u) (open_conns u))
    ∙ subst (λ peers. Found (goes_alone e.head) u.settings.pipelines_asks u.settings.host_connections e.key.host e.key.port peers ≡ Wait) (sym peers_are)
    (subst (λ (c : Settings). Found (goes_alone e.head) c.pipelines_asks c.host_connections e.key.host e.key.port (map (λ k. with_load u (h k)) (open_conns s)) ≡ Wait) (sym full.settings)
    (found_stays (goes_alone e.head) s.settings.pipelines_asks s.settings.host_connections e.key.host e.key.port (open_conns s) (with_load s) (λ k. with_load u (h k)) crowds
    (sym (found_is (goes_alone e.head) s.settings.pipelines_asks s.settings.host_connections e.key.host e.key.port (map (with_load s) (open_conns s))) ∙ is)))
  where
    peers_are : map (with_load u) (open_conns u) ≡ map (λ k. with_load u (h k)) (open_conns s)
    peers_are =
        ap (λ (ks : List Conn). map (with_load u) (filter (λ k. not k.is_closing) ks)) full.conns
        ∙ ap (λ (ks : List Conn). map (with_load u) ks) (filter_mapped (λ k. not k.is_closing) h (λ k. ap not (full.closing k)) s.conns)
        ∙ map_twice (with_load u) h (open_conns s)

    crowds : Crowds (open_conns s) (with_load s) (λ k. with_load u (h k))
    crowds = record {
      host = full.host;
      port = full.port;
      idle = λ k is0. fewer_idle (length k.line) (length (h k).line) (full.longer k) is0;
      more = λ k is0. still_more (h k).may_pipeline k.may_pipeline (list_any (alone_in u) (h k).line) (list_any (alone_in s) k.line) (nat_lt (length (h k).line) 8) (nat_lt (length k.line) 8)
          (full.pipelines k) (full.alone k) (fewer_below (length k.line) (length (h k).line) (full.longer k)) is0;
    }
