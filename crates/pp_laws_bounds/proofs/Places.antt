-- The placing of exchanges keeps the bounds; and what it tells where it stops.
use Rattle.std.proofs.Common.{◌≡◌, ◌⊎◌, refl, ℕ, ◌+◌, ◌<◌, ◌≤◌, nat_lt, Bool, true, false, not, ◌==◌, ◌&&◌, List, [], ◌∷◌, ◌++◌, map, filter, length, Option, Some, None, option_and_then, inl, inr, sym, subst, ap, ◌∙◌, zero-le, arith}
use Rattle.std.proofs.lemmas.Bool.Decides.{nat_tests}
use Rattle.pp_peers.specs.Peers.{Loaded}
use Rattle.pp_peers.specs.Placing.{new_place, pipelined_place}
use Rattle.pp_peers.specs.Searches.{count_of, is_any, is_idle, is_of, lowest_idle, takes_more}
use Rattle.pp_peers.specs.declared.placing.Placed.TheVariants.{On, Dial, CloseThenDial, Wait}
use Rattle.pp_peers.specs.declared.placing.Placed.{Placed}
use Rattle.pp_law.specs.Connections.{exchange, is_conn, is_exchange, on_conn, on_exchange, open_conns, with_load, place_for, put_on, if_unplaced, place_each, placing, WaitsDial, WaitsDrop, Placement}
use Rattle.pp_law.specs.Requests.{goes_alone}
use Rattle.pp_law.specs.State.{State, Conn, Exchange}
use Rattle.pp_laws.specs.Runs.{IsIn}
use Rattle.pp_laws.proofs.Lists.{Changed, changed_at, in_change, in_filter, in_front, in_map, one_of, other, rise_change, same}
use Rattle.pp_laws.proofs.Sound.{conn_number}
use Rattle.pp_laws.proofs.Tests.{number_same, same_number, second_holds}
use Rattle.pp_laws_bounds.specs.Bounds.{goes_to}
use Rattle.pp_laws_bounds.proofs.Changes.{choose, lined_mapped, none_mapped}
use Rattle.pp_laws_bounds.proofs.Counts.{count-map, count-over, filter-all, in_last, in_map_of, length-map, length-push}
use Rattle.pp_laws_bounds.proofs.Kept.{AreLined, Kept, Stands, facts_of, kept}
use Rattle.pp_laws_bounds.proofs.Peers.{Has, NewPlace, PlaceBy, idle_there, lightest_there, new_by, piped_by, place_by}

-- ---- connections by their places

-- a connection of that number that takes one more
pub record HasRoom (s : State) (n : ℕ) : Type 0 where
  pub conn : Conn
  pub there : IsIn conn s.conns
  pub number : conn.number ≡ n
  pub is_open : conn.is_closing ≡ false
  pub room : length conn.line < 8

-- one of that number carries nothing
pub record IsIdle (s : State) (n : ℕ) : Type 0 where
  pub conn : Conn
  pub there : IsIn conn s.conns
  pub number : conn.number ≡ n
  pub idle : conn.line ≡ []

abbrev peers_of : State → List Loaded
peers_of s = map (with_load s) (open_conns s)

abbrev idle_for : State → Exchange → Option ℕ
idle_for s e = lowest_idle (is_of e.key.host e.key.port) (peers_of s)

abbrev new_for : State → Exchange → Option Placed
new_for s e = new_place s.settings.host_connections e.key.host e.key.port (peers_of s)

abbrev piped_for : State → Exchange → Option Placed
piped_for s e = pipelined_place s.settings.pipelines_asks e.key.host e.key.port (peers_of s)

-- there is room to that host and port; and in all
abbrev has_host_room : State → Exchange → Bool
has_host_room s e = nat_lt (count_of (is_of e.key.host e.key.port) (peers_of s)) s.settings.host_connections

abbrev has_any_room : State → Bool
has_any_room s = nat_lt (length (peers_of s)) 64

-- what is told of one that is open
record IsOpen (s : State) (p : Loaded) : Type 0 where
  conn : Conn
  there : IsIn conn s.conns
  is_open : conn.is_closing ≡ false
  number : conn.number ≡ p.number
  asks : length conn.line ≡ p.load.asks

not_true : (t : Bool) → not t ≡ true → t ≡ false
not_true true is = absurd (cc is)
not_true false is = refl

open_of : (s : State) (p : Loaded) → IsIn p (peers_of s) → IsOpen s p
open_of s p i =
    let r = in_map (with_load s) p (open_conns s) i in
    let w = in_filter (λ k. not k.is_closing) r.was s.conns r.there in
    record { conn = r.was; there = w.0; is_open = not_true r.was.is_closing w.1; number = sym (ap (λ (x : Loaded). x.number) r.is); asks = sym (ap (λ (x : Loaded). x.load.asks) r.is) }

empty_line : (line : List ℕ) → length line ≡ 0 → line ≡ []
empty_line [] is = refl
empty_line (n ∷ line) is = absurd (omega arith)

idle_of : (among : Loaded → Bool) (s : State) (n : ℕ) → lowest_idle among (peers_of s) ≡ Some n → IsIdle s n × HasRoom s n
idle_of among s n is = of (idle_there among (peers_of s) n is)
  where
    of : Has (is_idle among) n (peers_of s) → IsIdle s n × HasRoom s n
    of w =
        let o = open_of s w.0 w.1 in
        let none : length o.conn.line ≡ 0 = o.asks ∙ same_number w.0.load.asks 0 (second_holds (among w.0) (w.0.load.asks == 0) w.3) in
        (record { conn = o.conn; there = o.there; number = o.number ∙ w.2; idle = empty_line o.conn.line none }, record { conn = o.conn; there = o.there; number = o.number ∙ w.2; is_open = o.is_open; room = omega arith })

light_of : (among : Loaded → Bool) (s : State) (n : ℕ) → Has (takes_more among) n (peers_of s) → HasRoom s n
light_of among s n w =
    let o = open_of s w.0 w.1 in
    let few : nat_lt w.0.load.asks 8 ≡ true = second_holds w.0.load.may_pipeline (nat_lt w.0.load.asks 8) (second_holds (among w.0) (w.0.load.may_pipeline && nat_lt w.0.load.asks 8) w.3) in
    let lt : w.0.load.asks < 8 = grind (arith, nat_tests) in
    let asks : length o.conn.line ≡ w.0.load.asks = o.asks in
    record { conn = o.conn; there = o.there; number = o.number ∙ w.2; is_open = o.is_open; room = omega arith }

-- ---- what a place tells

place_cases : (s : State) (e : Exchange) (p : Placed) → place_for s e ≡ p → PlaceBy (idle_for s e) (new_for s e) (piped_for s e) p
place_cases s e p is = place_by (goes_alone e.head) (idle_for s e) (new_for s e) (piped_for s e) p is

new_cases : (s : State) (e : Exchange) (p : Placed) → new_for s e ≡ Some p → NewPlace (has_host_room s e) (has_any_room s) (lowest_idle is_any (peers_of s)) (idle_for s e) p
new_cases s e p is = new_by (has_host_room s e) (has_any_room s) (lowest_idle is_any (peers_of s)) (idle_for s e) p is

never_on : (b c : Bool) (x y : Option ℕ) (n : ℕ) → NewPlace b c x y (On n) → ⊥
never_on b c x y n (inl w) = cc w.0
never_on b c x y n (inr w) = cc w.1

pub on_room : (s : State) (e : Exchange) (n : ℕ) → place_for s e ≡ On n → HasRoom s n
on_room s e n is = by (place_cases s e (On n) is)
  where
    by : PlaceBy (idle_for s e) (new_for s e) (piped_for s e) (On n) → HasRoom s n
    by (inl w) = absurd (cc w)
    by (inr (inl w)) = absurd (never_on (has_host_room s e) (has_any_room s) (lowest_idle is_any (peers_of s)) (idle_for s e) n (new_cases s e (On n) w))
    by (inr (inr (inl w))) = let eq : n ≡ w.0 = cc w.2 in subst (λ m. HasRoom s m) (sym eq) (idle_of (is_of e.key.host e.key.port) s w.0 w.1).1
    by (inr (inr (inr w))) =
        let v = piped_by s.settings.pipelines_asks e.key.host e.key.port (peers_of s) (On n) w in
        let eq : n ≡ v.0.1 = cc v.2 in
        light_of (is_of e.key.host e.key.port) s n (subst (λ m. Has (takes_more (is_of e.key.host e.key.port)) m (peers_of s)) (sym eq) (lightest_there (is_of e.key.host e.key.port) (peers_of s) v.0 v.1))

pub drop_idle : (s : State) (e : Exchange) (n : ℕ) → place_for s e ≡ CloseThenDial n → IsIdle s n
drop_idle s e n is = by (place_cases s e (CloseThenDial n) is)
  where
    idle_by : (m : ℕ) → n ≡ m → (lowest_idle is_any (peers_of s) ≡ Some m) ⊎ (lowest_idle (is_of e.key.host e.key.port) (peers_of s) ≡ Some m) → IsIdle s n
    idle_by m eq (inl w) = subst (λ x. IsIdle s x) (sym eq) (idle_of is_any s m w).0
    idle_by m eq (inr w) = subst (λ x. IsIdle s x) (sym eq) (idle_of (is_of e.key.host e.key.port) s m w).0

    new_one : NewPlace (has_host_room s e) (has_any_room s) (lowest_idle is_any (peers_of s)) (idle_for s e) (CloseThenDial n) → IsIdle s n
    new_one (inl w) = absurd (cc w.0)
    new_one (inr w) = let eq : n ≡ w.0 = cc w.1 in idle_by w.0 eq w.2

    by : PlaceBy (idle_for s e) (new_for s e) (piped_for s e) (CloseThenDial n) → IsIdle s n
    by (inl w) = absurd (cc w)
    by (inr (inl w)) = new_one (new_cases s e (CloseThenDial n) w)
    by (inr (inr (inl w))) = absurd (cc w.2)
    by (inr (inr (inr w))) = let v = piped_by s.settings.pipelines_asks e.key.host e.key.port (peers_of s) (CloseThenDial n) w in absurd (cc v.2)

-- nobody is left to be closed
abbrev pub NoneCloses : State → Type 0
NoneCloses s = (k : Conn) → IsIn k s.conns → k.is_closing ≡ false

-- there is room for one more, in all and to that host and port
abbrev pub MayDial : List ℕ → ℕ → State → Type 0
MayDial host port s = (length s.conns < 64) × (length (filter (goes_to host port) s.conns) < s.settings.host_connections)

pub dial_room : (s : State) (e : Exchange) → NoneCloses s → place_for s e ≡ Dial → MayDial e.key.host e.key.port s
dial_room s e none is = by (place_cases s e Dial is)
  where
    all_open : open_conns s ≡ s.conns
    all_open = filter-all (λ k. not k.is_closing) s.conns (λ k i. ap not (none k i))

    all_long : length (peers_of s) ≡ length s.conns
    all_long = length-map (with_load s) (open_conns s) ∙ ap (λ (ks : List Conn). length ks) all_open

    host_long : count_of (is_of e.key.host e.key.port) (peers_of s) ≡ length (filter (goes_to e.key.host e.key.port) s.conns)
    host_long = count-over (is_of e.key.host e.key.port) (goes_to e.key.host e.key.port) (with_load s) (λ k. refl) (open_conns s) ∙ ap (λ (ks : List Conn). length (filter (goes_to e.key.host e.key.port) ks)) all_open

    below : (m n k : ℕ) → m ≡ n → nat_lt m k ≡ true → n < k
    below m n k eq lt = let is_lt : m < k = grind (arith, nat_tests) in omega arith

    new_one : NewPlace (has_host_room s e) (has_any_room s) (lowest_idle is_any (peers_of s)) (idle_for s e) Dial → MayDial e.key.host e.key.port s
    new_one (inl w) = (below (length (peers_of s)) (length s.conns) 64 all_long w.2, below (count_of (is_of e.key.host e.key.port) (peers_of s)) (length (filter (goes_to e.key.host e.key.port) s.conns)) s.settings.host_connections host_long w.1)
    new_one (inr w) = absurd (cc w.1)

    by : PlaceBy (idle_for s e) (new_for s e) (piped_for s e) Dial → MayDial e.key.host e.key.port s
    by (inl w) = absurd (cc w)
    by (inr (inl w)) = new_one (new_cases s e Dial w)
    by (inr (inr (inl w))) = absurd (cc w.2)
    by (inr (inr (inr w))) = let v = piped_by s.settings.pipelines_asks e.key.host e.key.port (peers_of s) Dial w in absurd (cc v.2)

-- ---- an exchange gets its place

longer : ℕ → Conn → Conn
longer n j = record j { line = j.line ++ n ∷ [] }

pub put_on-kept : {but : List ℕ} (n k : ℕ) (s : State) → HasRoom s k → Kept but s → Kept but (put_on n k s)
unfolding put_on on_conn on_exchange
put_on-kept {but} n k s room h = kept (record {
  few_clients = (facts_of h).few_clients;
  lines = record {
    rise = rise_change conn_number (is_conn k) (λ j. record j { line = j.line ++ n ∷ [] }) (λ j. refl) s.conns (facts_of h).lines.rise;
    few = subst (λ m. m ≤ 64) (sym (length-map (changed_at (is_conn k) (λ j. record j { line = j.line ++ n ∷ [] })) s.conns)) (facts_of h).lines.few;
    spared = λ host port. subst (λ m. m ≤ s.settings.host_connections) (sym (count-map (goes_to host port) (changed_at (is_conn k) (λ j. record j { line = j.line ++ n ∷ [] })) (λ j. choose (λ i. goes_to host port i ≡ goes_to host port j) (is_conn k j) _ j refl refl) s.conns)) ((facts_of h).lines.spared host port);
    short = λ j i. short_by j (in_change (is_conn k) (λ g. record g { line = g.line ++ n ∷ [] }) j s.conns i);
    closed = λ j i. closed_by j (in_change (is_conn k) (λ g. record g { line = g.line ++ n ∷ [] }) j s.conns i);
  };
  given = λ j i. given_by j (in_change (is_conn k) (λ g. record g { line = g.line ++ n ∷ [] }) j s.conns i);
  asked_well = λ e i. asked_by e (in_change (is_exchange n) (λ d. record d { place = Some k; asked = 0 }) e s.exchanges i);
  lined = λ going e m i is. lined_by going e m (in_change (is_exchange n) (λ d. record d { place = Some k; asked = 0 }) e s.exchanges i) is;
  none_yet = λ at. (none_mapped s.conns (changed_at (is_conn k) (λ j. record j { line = j.line ++ n ∷ [] })) ((facts_of h).none_yet at).0, ((facts_of h).none_yet at).1);
})
  where
    it : (g : Conn) → IsIn g s.conns → is_conn k g ≡ true → g ≡ room.conn
    it g i hit = one_of conn_number s.conns g room.conn (facts_of h).lines.rise i room.there (same_number g.number k hit ∙ sym room.number)

    pushed : (g : Conn) → length g.line < 8 → length (g.line ++ n ∷ []) ≤ 8
    pushed g lt = let e : length (g.line ++ n ∷ []) ≡ length g.line + 1 = length-push g.line n in omega arith

    short_by : (j : Conn) → Changed (is_conn k) (λ g. record g { line = g.line ++ n ∷ [] }) s.conns j → length j.line ≤ 8
    short_by j (same i isnt) = (facts_of h).lines.short j i
    short_by j (other g i hit eq) = subst (λ (x : Conn). length x.line ≤ 8) (sym eq) (pushed g (subst (λ (x : Conn). length x.line < 8) (sym (it g i hit)) room.room))

    closed_by : (j : Conn) → Changed (is_conn k) (λ g. record g { line = g.line ++ n ∷ [] }) s.conns j → j.is_closing ≡ true → j.line ≡ []
    closed_by j (same i isnt) closing = (facts_of h).lines.closed j i closing
    closed_by j (other g i hit eq) closing =
        let both : true ≡ false = sym closing ∙ ap (λ (x : Conn). x.is_closing) eq ∙ ap (λ (x : Conn). x.is_closing) (it g i hit) ∙ room.is_open in absurd (cc both)

    given_by : (j : Conn) → Changed (is_conn k) (λ g. record g { line = g.line ++ n ∷ [] }) s.conns j → j.number ≤ s.top
    given_by j (same i isnt) = (facts_of h).given j i
    given_by j (other g i hit eq) = subst (λ m. m ≤ s.top) (sym (ap conn_number eq)) ((facts_of h).given g i)

    asked_by : (e : Exchange) → Changed (is_exchange n) (λ d. record d { place = Some k; asked = 0 }) s.exchanges e → e.asked ≤ length e.text
    asked_by e (same i isnt) = (facts_of h).asked_well e i
    asked_by e (other d i hit eq) = subst (λ m. m ≤ length e.text) (sym (ap (λ (x : Exchange). x.asked) eq)) zero-le

    in_longer : (g : Conn) (m : ℕ) → IsIn m g.line → IsIn m (changed_at (is_conn k) (λ j. record j { line = j.line ++ n ∷ [] }) g).line
    in_longer g m l = choose (λ x. IsIn m x.line) (is_conn k g) (record g { line = g.line ++ n ∷ [] }) g (in_front m g.line (n ∷ []) l) l

    was_lined : s.is_stopped ≡ false → AreLined but s.exchanges (map (changed_at (is_conn k) (λ j. record j { line = j.line ++ n ∷ [] })) s.conns)
    was_lined going = lined_mapped but s.exchanges s.conns (changed_at (is_conn k) (λ j. record j { line = j.line ++ n ∷ [] })) (λ j. choose (λ x. x.number ≡ j.number) (is_conn k j) _ j refl refl) in_longer ((facts_of h).lined going)

    -- the one that it was put on
    its : Conn
    its = record room.conn { line = room.conn.line ++ n ∷ [] }

    its_is : changed_at (is_conn k) (λ j. record j { line = j.line ++ n ∷ [] }) room.conn ≡ record room.conn { line = room.conn.line ++ n ∷ [] }
    its_is = ap (λ t. elim t as (λ c. Conn) [ true ↦ record room.conn { line = room.conn.line ++ n ∷ [] } | false ↦ room.conn ]) (ap (λ m. m == k) room.number ∙ number_same k)

    its_in : IsIn (record room.conn { line = room.conn.line ++ n ∷ [] }) (map (changed_at (is_conn k) (λ j. record j { line = j.line ++ n ∷ [] })) s.conns)
    its_in = subst (λ (x : Conn). IsIn x (map (changed_at (is_conn k) (λ j. record j { line = j.line ++ n ∷ [] })) s.conns)) its_is (in_map_of (changed_at (is_conn k) (λ j. record j { line = j.line ++ n ∷ [] })) room.conn s.conns room.there)

    lined_by : s.is_stopped ≡ false → (e : Exchange) (m : ℕ) → Changed (is_exchange n) (λ d. record d { place = Some k; asked = 0 }) s.exchanges e → e.place ≡ Some m
        → Stands e m (map (changed_at (is_conn k) (λ j. record j { line = j.line ++ n ∷ [] })) s.conns) ⊎ IsIn e.number but
    lined_by going e m (same i isnt) is = was_lined going e m i is
    lined_by going e m (other d i hit eq) is =
        let at : Some k ≡ Some m = sym (ap (λ (x : Exchange). x.place) eq) ∙ is in
        let there : k ≡ m = cc in
        let number : e.number ≡ n = ap (λ (x : Exchange). x.number) eq ∙ same_number d.number n hit in
        inl (record room.conn { line = room.conn.line ++ n ∷ [] }, its_in, room.number ∙ there, subst (λ x. IsIn x (room.conn.line ++ n ∷ [])) (sym number) (in_last n room.conn.line))

-- ---- all of them

place_next : {but : List ℕ} (n : ℕ) (e : Exchange) (ns : List ℕ) (s : State) (wanted : Placed) → ((k : ℕ) → wanted ≡ On k → HasRoom s k) → ((t : State) → Kept but t → Kept but (place_each ns t).state) → Kept but s
    → Kept but (elim wanted as (λ c. Placement) [
      | On k ↦ place_each ns (put_on n k s)
      | Wait ↦ place_each ns s
      | Dial ↦ record { state = s; pause = WaitsDial e }
      | CloseThenDial k ↦ record { state = s; pause = WaitsDrop k e }
    ]).state
place_next n e ns s (On k) room rest h = rest (put_on n k s) (put_on-kept n k s (room k refl) h)
place_next n e ns s Wait room rest h = rest s h
place_next n e ns s Dial room rest h = h
place_next n e ns s (CloseThenDial k) room rest h = h

place_at : {but : List ℕ} (o : Option Exchange) (p : Placement) (q : Exchange → Placement) → Kept but p.state → ((e : Exchange) → Kept but (q e).state) → Kept but (elim o as (λ c. Placement) [ None ↦ p | Some e ↦ q e ]).state
place_at None p q hp hq = hp
place_at (Some e) p q hp hq = hq e

place_each-kept : {but : List ℕ} (ns : List ℕ) (s : State) → Kept but s → Kept but (place_each ns s).state
place_each-kept [] s h = h
place_each-kept (n ∷ ns) s h =
    place_at (option_and_then if_unplaced (exchange s n)) _ _ (place_each-kept ns s h)
    (λ e. place_next n e ns s (place_for s e) (λ k is. on_room s e k is) (λ t ht. place_each-kept ns t ht) h)

pub placing-kept : {but : List ℕ} (s : State) → Kept but s → Kept but (placing s).state
placing-kept s h = place_each-kept _ s h

-- what holds however asks are put on connections
any_next : (P : State → Type 0) (n : ℕ) (e : Exchange) (ns : List ℕ) (s : State) (wanted : Placed) → ((k : ℕ) → P (put_on n k s)) → ((t : State) → P t → P (place_each ns t).state) → P s
    → P (elim wanted as (λ c. Placement) [
      | On k ↦ place_each ns (put_on n k s)
      | Wait ↦ place_each ns s
      | Dial ↦ record { state = s; pause = WaitsDial e }
      | CloseThenDial k ↦ record { state = s; pause = WaitsDrop k e }
    ]).state
any_next P n e ns s (On k) put rest h = rest (put_on n k s) (put k)
any_next P n e ns s Wait put rest h = rest s h
any_next P n e ns s Dial put rest h = h
any_next P n e ns s (CloseThenDial k) put rest h = h

any_at : (P : State → Type 0) (o : Option Exchange) (p : Placement) (q : Exchange → Placement) → P p.state → ((e : Exchange) → P (q e).state) → P (elim o as (λ c. Placement) [ None ↦ p | Some e ↦ q e ]).state
any_at P None p q hp hq = hp
any_at P (Some e) p q hp hq = hq e

any_each : (P : State → Type 0) → ((n k : ℕ) (s : State) → P s → P (put_on n k s)) → (ns : List ℕ) (s : State) → P s → P (place_each ns s).state
any_each P put [] s h = h
any_each P put (n ∷ ns) s h =
    any_at P (option_and_then if_unplaced (exchange s n)) _ _ (any_each P put ns s h) (λ e. any_next P n e ns s (place_for s e) (λ k. put n k s h) (λ t ht. any_each P put ns t ht) h)

pub placing-any : (P : State → Type 0) → ((n k : ℕ) (s : State) → P s → P (put_on n k s)) → (s : State) → P s → P (placing s).state
placing-any P put s h = any_each P put _ s h

put_on-closes : (n k : ℕ) (s : State) → NoneCloses s → NoneCloses (put_on n k s)
unfolding put_on on_conn on_exchange
put_on-closes n k s none j i = by (in_change (is_conn k) (λ g. record g { line = g.line ++ n ∷ [] }) j s.conns i)
  where
    by : Changed (is_conn k) (λ g. record g { line = g.line ++ n ∷ [] }) s.conns j → j.is_closing ≡ false
    by (same m isnt) = none j m
    by (other g m hit eq) = ap (λ (x : Conn). x.is_closing) eq ∙ none g m

pub placing-closes : (s : State) → NoneCloses s → NoneCloses (placing s).state
placing-closes s none = placing-any NoneCloses put_on-closes s none

put_on-phase : (n k : ℕ) (s : State) → (put_on n k s).phase ≡ s.phase
unfolding put_on on_conn on_exchange
put_on-phase n k s = refl

pub placing-phase : (s : State) → (placing s).state.phase ≡ s.phase
placing-phase s = placing-any (λ t. t.phase ≡ s.phase) (λ n k t is. put_on-phase n k t ∙ is) s refl

put_on-stopped : (n k : ℕ) (s : State) → (put_on n k s).is_stopped ≡ s.is_stopped
unfolding put_on on_conn on_exchange
put_on-stopped n k s = refl

pub placing-stopped : (s : State) → (placing s).state.is_stopped ≡ s.is_stopped
placing-stopped s = placing-any (λ t. t.is_stopped ≡ s.is_stopped) (λ n k t is. put_on-stopped n k t ∙ is) s refl

-- ---- where it stops

pub record IsPaused (p : Placement) : Type 0 where
  pub dial : (d : Exchange) → p.pause ≡ WaitsDial d → place_for p.state d ≡ Dial
  pub drop : (k : ℕ) (d : Exchange) → p.pause ≡ WaitsDrop k d → place_for p.state d ≡ CloseThenDial k

paused_next : (n : ℕ) (e : Exchange) (ns : List ℕ) (s : State) (wanted : Placed) → place_for s e ≡ wanted → ((t : State) → IsPaused (place_each ns t))
    → IsPaused (elim wanted as (λ c. Placement) [
      | On k ↦ place_each ns (put_on n k s)
      | Wait ↦ place_each ns s
      | Dial ↦ record { state = s; pause = WaitsDial e }
      | CloseThenDial k ↦ record { state = s; pause = WaitsDrop k e }
    ])
paused_next n e ns s (On k) is rest = rest (put_on n k s)
paused_next n e ns s Wait is rest = rest s
paused_next n e ns s Dial is rest = record { dial = λ d at. let eq : e ≡ d = cc at in subst (λ (x : Exchange). place_for s x ≡ Dial) eq is; drop = λ k d at. absurd (cc at) }
paused_next n e ns s (CloseThenDial k) is rest = record {
  dial = λ d at. absurd (cc at);
  drop = λ j d at. let eq : e ≡ d = cc at in let number : k ≡ j = cc at in subst (λ m. place_for s d ≡ CloseThenDial m) number (subst (λ (x : Exchange). place_for s x ≡ CloseThenDial k) eq is);
}

paused_at : (o : Option Exchange) (p : Placement) (q : Exchange → Placement) → IsPaused p → ((e : Exchange) → IsPaused (q e)) → IsPaused (elim o as (λ c. Placement) [ None ↦ p | Some e ↦ q e ])
paused_at None p q hp hq = hp
paused_at (Some e) p q hp hq = hq e

place_each-paused : (ns : List ℕ) (s : State) → IsPaused (place_each ns s)
place_each-paused [] s = record { dial = λ d at. absurd (cc at); drop = λ k d at. absurd (cc at) }
place_each-paused (n ∷ ns) s =
    paused_at (option_and_then if_unplaced (exchange s n)) _ _ (place_each-paused ns s) (λ e. paused_next n e ns s (place_for s e) refl (λ t. place_each-paused ns t))

pub placing-paused : (s : State) → IsPaused (placing s)
placing-paused s = place_each-paused _ s
