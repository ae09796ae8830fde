-- Behind the places each exchange without one has none to go to, and so it is where replies have begun.
use Rattle.std.proofs.Common.{◌≡◌, ◌⊎◌, refl, ℕ, ◌+◌, ◌≤◌, Bool, true, false, not, ◌==◌, ◌||◌, List, [], ◌∷◌, ◌++◌, map, cond, find, length, Option, Some, None, option_and_then, option_map, inl, inr, sym, subst, ap, ◌∙◌, le_refl, arith}
use Rattle.std.specs.List.{list_any}
use Rattle.pp_peers.specs.declared.placing.Placed.TheVariants.{On, Dial, CloseThenDial, Wait}
use Rattle.pp_peers.specs.declared.placing.Placed.{Placed}
use Rattle.pp_world.specs.Log.{Log}
use Rattle.pp_law.specs.Closing.{forsake, left_alone}
use Rattle.pp_law.specs.Connections.{AllPlaced, Pause, Placement, WaitsDial, WaitsDrop, exchange, if_unplaced, is_conn, is_exchange, on_conn, on_exchange, place_each, place_for, placing, put_on}
use Rattle.pp_law.specs.Lists.{is_some_with}
use Rattle.pp_law.specs.Opening.{is_at, is_same_phase}
use Rattle.pp_law.specs.Phases.{behind, come, come_to, ending, has_closings, in_phase, is_done, is_done_with, is_placed, next, phases}
use Rattle.pp_law.specs.Replies.{begin_replies, is_outrun}
use Rattle.pp_law.specs.Requests.{goes_alone}
use Rattle.pp_law.specs.State.{State, Phase, Before, IsWoken, IsConfigured, IsRooted, IsListed, IsListening, IsStuck, Awaiting, Handling, Evicting, Keeping, Deciding, Following, Connecting, DecidingAgain, Term, Conn, Exchange}
use Rattle.pp_law.specs.Table.{swept}
use Rattle.pp_laws.specs.Numbers.{AreRising}
use Rattle.pp_laws.specs.Runs.{IsIn, state_after}
use Rattle.pp_laws.proofs.Lists.{Changed, changed_at, in_change, in_find, one_of, other, rise_change, same}
use Rattle.pp_laws.proofs.Sound.{exchange_number, facts_of}
use Rattle.pp_laws.proofs.Tests.{number_same, same_number, second_holds}
use Rattle.pp_laws_bounds.proofs.Counts.{in_map_of, length-push}
use Rattle.pp_obeys.specs.Obeys.{Obeys}
use Rattle.pp_obeys.proofs.Come.{next-phase, onward}
use Rattle.pp_obeys.proofs.Obeying.{obeys_good, obeys_silently}
use Rattle.pp_obeys.proofs.Settled.{at_phase}
use Rattle.pp_laws_turn.proofs.Lifts.{obeying}
use Rattle.pp_laws_ends.specs.Ends.{AsksHaveNoPlace}
use Rattle.pp_laws_ends.proofs.Stays.{IsFuller, alone_in, wait_stays}

-- ---- one is put on a connection

longer_by : ℕ → Conn → Conn
longer_by n j = record j { line = j.line ++ n ∷ [] }

found_by : {A : Type 0} (p : A → Bool) (f : A → A) (x : A) (ys zs : Option A) (t : Bool) → zs ≡ option_map f ys → cond t (Some (f x)) zs ≡ option_map f (cond t (Some x) ys)
found_by p f x ys zs true is = refl
found_by p f x ys zs false is = is

pub find_mapped : {A : Type 0} (p : A → Bool) (f : A → A) → ((x : A) → p (f x) ≡ p x) → (xs : List A) → find p (map f xs) ≡ option_map f (find p xs)
find_mapped p f alike [] = refl
find_mapped p f alike (x ∷ xs) = ap (λ t. cond t (Some (f x)) (find p (map f xs))) (alike x) ∙ found_by p f x (find p xs) (find p (map f xs)) (p x) (find_mapped p f alike xs)

same_head : (f : Exchange → Exchange) → ((e : Exchange) → (f e).head ≡ e.head) → (o : Option Exchange) → is_some_with (λ (e : Exchange). goes_alone e.head) (option_map f o) ≡ is_some_with (λ (e : Exchange). goes_alone e.head) o
same_head f alike None = refl
same_head f alike (Some e) = ap goes_alone (alike e)

pub chosen : {A B : Type 0} (g : A → B) (t : Bool) (x y : A) (b : B) → g x ≡ b → g y ≡ b → g (elim t as (λ c. A) [ true ↦ x | false ↦ y ]) ≡ b
chosen g true x y b hx hy = hx
chosen g false x y b hx hy = hy

any_same : (p q : ℕ → Bool) → ((n : ℕ) → p n ≡ q n) → (ns : List ℕ) → list_any p ns ≡ true → list_any q ns ≡ true
any_same p q alike [] is = is
any_same p q alike (n ∷ ns) is = by (p n) (q n) (alike n) is (any_same p q alike ns)
  where
    by : (a b : Bool) → a ≡ b → (a || list_any p ns) ≡ true → (list_any p ns ≡ true → list_any q ns ≡ true) → (b || list_any q ns) ≡ true
    by true true e one rest = refl
    by true false e one rest = absurd (cc e)
    by false true e one rest = refl
    by false false e one rest = rest one

any_front : (p : ℕ → Bool) (ns : List ℕ) (n : ℕ) → list_any p ns ≡ true → list_any p (ns ++ n ∷ []) ≡ true
any_front p [] n is = absurd (cc is)
any_front p (m ∷ ms) n is = by (p m) is (any_front p ms n)
  where
    by : (t : Bool) → (t || list_any p ms) ≡ true → (list_any p ms ≡ true → list_any p (ms ++ n ∷ []) ≡ true) → (t || list_any p (ms ++ n ∷ [])) ≡ true
    by true one rest = refl
    by false one rest = rest one

longer_le : (line : List ℕ) (n : ℕ) → length line ≤ length (line ++ n ∷ [])
longer_le line n = let e : length (line ++ n ∷ []) ≡ length line + 1 = length-push line n in omega arith

put_full : (n k : ℕ) (s : State) → IsFuller s (put_on n k s) (changed_at (is_conn k) (longer_by n))
unfolding put_on on_conn on_exchange longer_by
put_full n k s = record {
  settings = refl;
  conns = refl;
  host = λ j. chosen (λ (x : Conn). x.host) (is_conn k j) (longer_by n j) j j.host refl refl;
  port = λ j. chosen (λ (x : Conn). x.port) (is_conn k j) (longer_by n j) j j.port refl refl;
  closing = λ j. chosen (λ (x : Conn). x.is_closing) (is_conn k j) (longer_by n j) j j.is_closing refl refl;
  pipelines = λ j. chosen (λ (x : Conn). x.may_pipeline) (is_conn k j) (longer_by n j) j j.may_pipeline refl refl;
  longer = λ j. long j (is_conn k j);
  alone = λ j is. any_in j (is_conn k j) (any_same (alone_in s) (alone_in (put_on n k s)) (λ m. sym (alone_same m)) j.line is);
}
  where
    long : (j : Conn) (t : Bool) → length j.line ≤ length (elim t as (λ c. Conn) [ true ↦ longer_by n j | false ↦ j ]).line
    long j true = longer_le j.line n
    long j false = le_refl (length j.line)

    alone_same : (m : ℕ) → alone_in (put_on n k s) m ≡ alone_in s m
    alone_same m =
        ap (λ o. is_some_with (λ (e : Exchange). goes_alone e.head) o)
        (find_mapped (is_exchange m) (changed_at (is_exchange n) (λ e. record e { place = Some k; asked = 0 })) (λ e. chosen (λ (x : Exchange). is_exchange m x) (is_exchange n e) (record e { place = Some k; asked = 0 }) e (is_exchange m e) refl refl) s.exchanges)
        ∙ same_head (changed_at (is_exchange n) (λ e. record e { place = Some k; asked = 0 })) (λ e. chosen (λ (x : Exchange). x.head) (is_exchange n e) (record e { place = Some k; asked = 0 }) e e.head refl refl) (exchange s m)

    any_in : (j : Conn) (t : Bool) → list_any (alone_in (put_on n k s)) j.line ≡ true → list_any (alone_in (put_on n k s)) (elim t as (λ c. Conn) [ true ↦ longer_by n j | false ↦ j ]).line ≡ true
    any_in j true is = any_front (alone_in (put_on n k s)) j.line n is
    any_in j false is = is

pub put_waits : (n k : ℕ) (s : State) (e : Exchange) → place_for s e ≡ Wait → place_for (put_on n k s) e ≡ Wait
put_waits n k s e is = wait_stays s (put_on n k s) (changed_at (is_conn k) (longer_by n)) (put_full n k s) e is

-- ---- who has no place had none before

put_none : (n k : ℕ) (s : State) (e : Exchange) → IsIn e (put_on n k s).exchanges → e.place ≡ None → IsIn e s.exchanges × ¬ (e.number ≡ n)
unfolding put_on on_conn on_exchange
put_none n k s e i none = by (in_change (is_exchange n) (λ d. record d { place = Some k; asked = 0 }) e s.exchanges i)
  where
    by : Changed (is_exchange n) (λ d. record d { place = Some k; asked = 0 }) s.exchanges e → IsIn e s.exchanges × ¬ (e.number ≡ n)
    by (same m isnt) = (m, λ is. let both : true ≡ false = sym (ap (λ x. x == n) is ∙ number_same n) ∙ isnt in cc both)
    by (other d m hit eq) = let both : None ≡ Some k = sym none ∙ ap (λ (x : Exchange). x.place) eq in absurd (cc both)

put_rises : (n k : ℕ) (s : State) → AreRising (map exchange_number s.exchanges) → AreRising (map exchange_number (put_on n k s).exchanges)
unfolding put_on on_conn on_exchange
put_rises n k s rise = rise_change exchange_number (is_exchange n) (λ d. record d { place = Some k; asked = 0 }) (λ d. refl) s.exchanges rise

-- ---- all of them, one behind the other

any_next : (P : State → Type 0) (n : ℕ) (e : Exchange) (ns : List ℕ) (s : State) (wanted : Placed) → ((k : ℕ) → P (put_on n k s)) → ((t : State) → P t → P (place_each ns t).state) → P s
    → P (elim wanted as (λ c. Placement) [
      | On k ↦ place_each ns (put_on n k s)
      | Wait ↦ place_each ns s
      | Dial ↦ record { state = s; pause = WaitsDial e }
      | CloseThenDial k ↦ record { state = s; pause = WaitsDrop k e }
    ]).state
any_next P n e ns s (On k) put rest h = rest (put_on n k s) (put k)
any_next P n e ns s Wait put rest h = rest s h
any_next P n e ns s Dial put rest h = h
any_next P n e ns s (CloseThenDial k) put rest h = h

any_at : (P : State → Type 0) (o : Option Exchange) (p : Placement) (q : Exchange → Placement) → P p.state → ((e : Exchange) → P (q e).state) → P (elim o as (λ c. Placement) [ None ↦ p | Some e ↦ q e ]).state
any_at P None p q hp hq = hp
any_at P (Some e) p q hp hq = hq e

any_each : (P : State → Type 0) → ((n k : ℕ) (s : State) → P s → P (put_on n k s)) → (ns : List ℕ) (s : State) → P s → P (place_each ns s).state
any_each P put [] s h = h
any_each P put (n ∷ ns) s h =
    any_at P (option_and_then if_unplaced (exchange s n)) _ _ (any_each P put ns s h) (λ e. any_next P n e ns s (place_for s e) (λ k. put n k s h) (λ t ht. any_each P put ns t ht) h)

-- those without a place behind it had none before
were_unplaced : (ns : List ℕ) (s : State) (e : Exchange) → IsIn e (place_each ns s).state.exchanges → e.place ≡ None → IsIn e s.exchanges
were_unplaced ns s e i none = any_each (λ t. IsIn e t.exchanges → IsIn e s.exchanges) (λ n k t was j. was (put_none n k t e j none).0) ns s (λ j. j) i

still_waits : (ns : List ℕ) (s : State) (e : Exchange) → place_for s e ≡ Wait → place_for (place_each ns s).state e ≡ Wait
still_waits ns s e is = any_each (λ t. place_for t e ≡ Wait) (λ n k t was. put_waits n k t e was) ns s is

found_one : (e y : Exchange) (ys : List Exchange) (t : Bool) → is_exchange e.number y ≡ t → (e ≡ y) ⊎ IsIn e ys → cond t (Some y) (find (is_exchange e.number) ys) ≡ None → (IsIn e ys → find (is_exchange e.number) ys ≡ None → ⊥) → ⊥
found_one e y ys true is j none rest = cc none
found_one e y ys false isnt (inl eq) none rest = let both : true ≡ false = sym (ap (λ (x : Exchange). x.number == e.number) (sym eq) ∙ number_same e.number) ∙ isnt in cc both
found_one e y ys false isnt (inr j) none rest = rest j none

found_some : (e : Exchange) (ys : List Exchange) → IsIn e ys → find (is_exchange e.number) ys ≡ None → ⊥
found_some e [] j none = j
found_some e (y ∷ ys) j none = found_one e y ys (is_exchange e.number y) refl j none (found_some e ys)

find_it : (xs : List Exchange) (e : Exchange) → IsIn e xs → AreRising (map exchange_number xs) → find (is_exchange e.number) xs ≡ Some e
find_it xs e i rise = by (find (is_exchange e.number) xs) refl
  where
    by : (o : Option Exchange) → find (is_exchange e.number) xs ≡ o → o ≡ Some e
    by None is = absurd (found_some e xs i is)
    by (Some d) is =
        let w = in_find (is_exchange e.number) d xs is in
        ap (λ (x : Exchange). Some x) (one_of exchange_number xs d e rise w.0 i (same_number d.number e.number w.1))

-- each of these numbers that is left without a place waits
abbrev AllWait : List ℕ → State → Type 0
AllWait ns u = (e : Exchange) → IsIn e u.exchanges → e.place ≡ None → IsIn e.number ns → place_for u e ≡ Wait

unplaced_is : (e : Exchange) → e.place ≡ None → if_unplaced e ≡ Some e
unplaced_is e none = ap (λ o. elim o as (λ c. Option Exchange) [ Some k ↦ None | None ↦ Some e ]) none

place_next : (n : ℕ) (d : Exchange) (ns : List ℕ) (s : State) (wanted : Placed) → place_for s d ≡ wanted → ((e : Exchange) → IsIn e s.exchanges → e.place ≡ None → e.number ≡ n → e ≡ d) → AreRising (map exchange_number s.exchanges)
    → ((t : State) → AreRising (map exchange_number t.exchanges) → (place_each ns t).pause ≡ AllPlaced → AllWait ns (place_each ns t).state)
    → (elim wanted as (λ c. Placement) [
      | On k ↦ place_each ns (put_on n k s)
      | Wait ↦ place_each ns s
      | Dial ↦ record { state = s; pause = WaitsDial d }
      | CloseThenDial k ↦ record { state = s; pause = WaitsDrop k d }
    ]).pause ≡ AllPlaced
    → AllWait (n ∷ ns) (elim wanted as (λ c. Placement) [
      | On k ↦ place_each ns (put_on n k s)
      | Wait ↦ place_each ns s
      | Dial ↦ record { state = s; pause = WaitsDial d }
      | CloseThenDial k ↦ record { state = s; pause = WaitsDrop k d }
    ]).state
place_next n d ns s (On k) is it rise rest all e i none (inl eq) = absurd ((put_none n k s e (were_unplaced ns (put_on n k s) e i none) none).1 eq)
place_next n d ns s (On k) is it rise rest all e i none (inr j) = rest (put_on n k s) (put_rises n k s rise) all e i none j
place_next n d ns s Wait is it rise rest all e i none (inl eq) = still_waits ns s e (subst (λ (x : Exchange). place_for s x ≡ Wait) (sym (it e (were_unplaced ns s e i none) none eq)) is)
place_next n d ns s Wait is it rise rest all e i none (inr j) = rest s rise all e i none j
place_next n d ns s Dial is it rise rest all e i none j = absurd (cc all)
place_next n d ns s (CloseThenDial k) is it rise rest all e i none j = absurd (cc all)

each_waits : (ns : List ℕ) (s : State) → AreRising (map exchange_number s.exchanges) → (place_each ns s).pause ≡ AllPlaced → AllWait ns (place_each ns s).state
each_waits [] s rise all = λ e i none j. absurd j
each_waits (n ∷ ns) s rise all = by (λ t t_rise t_all. each_waits ns t t_rise t_all) (option_and_then if_unplaced (exchange s n)) refl all
  where
    found : (e : Exchange) → IsIn e s.exchanges → e.place ≡ None → e.number ≡ n → option_and_then if_unplaced (exchange s n) ≡ Some e
    found e i none eq = ap (λ m. option_and_then if_unplaced (exchange s m)) (sym eq) ∙ ap (λ o. option_and_then if_unplaced o) (find_it s.exchanges e i rise) ∙ unplaced_is e none

    at_none : ((t : State) → AreRising (map exchange_number t.exchanges) → (place_each ns t).pause ≡ AllPlaced → AllWait ns (place_each ns t).state) → option_and_then if_unplaced (exchange s n) ≡ None → (place_each ns s).pause ≡ AllPlaced
        → AllWait (n ∷ ns) (place_each ns s).state
    at_none rest isnt ends e i none (inl eq) = let both : None ≡ Some e = sym isnt ∙ found e (were_unplaced ns s e i none) none eq in absurd (cc both)
    at_none rest isnt ends e i none (inr j) = rest s rise ends e i none j

    by : ((t : State) → AreRising (map exchange_number t.exchanges) → (place_each ns t).pause ≡ AllPlaced → AllWait ns (place_each ns t).state) → (o : Option Exchange) → option_and_then if_unplaced (exchange s n) ≡ o
        → (elim o as (λ c. Placement) [
          | None ↦ place_each ns s
          | Some e ↦ elim (place_for s e) as (λ c. Placement) [
            | On k ↦ place_each ns (put_on n k s)
            | Wait ↦ place_each ns s
            | Dial ↦ record { state = s; pause = WaitsDial e }
            | CloseThenDial k ↦ record { state = s; pause = WaitsDrop k e }
          ]
        ]).pause ≡ AllPlaced
        → AllWait (n ∷ ns) (elim o as (λ c. Placement) [
          | None ↦ place_each ns s
          | Some e ↦ elim (place_for s e) as (λ c. Placement) [
            | On k ↦ place_each ns (put_on n k s)
            | Wait ↦ place_each ns s
            | Dial ↦ record { state = s; pause = WaitsDial e }
            | CloseThenDial k ↦ record { state = s; pause = WaitsDrop k e }
          ]
        ]).state
    by rest None isnt ends = at_none rest isnt ends
    by rest (Some d) is ends =
        place_next n d ns s (place_for s d) refl (λ e i none eq. let both : Some d ≡ Some e = sym is ∙ found e i none eq in sym cc) rise rest ends

pub all_wait : (s : State) → AreRising (map exchange_number s.exchanges) → (placing s).pause ≡ AllPlaced → (e : Exchange) → IsIn e (placing s).state.exchanges → e.place ≡ None → place_for (placing s).state e ≡ Wait
all_wait s rise all e i none =
    each_waits (map (λ (d : Exchange). d.number) s.exchanges) s rise all e i none (in_map_of (λ (d : Exchange). d.number) e s.exchanges (were_unplaced (map (λ (d : Exchange). d.number) s.exchanges) s e i none))

-- ---- the phase in which it is tried does not matter

put_in : (p : Phase) (n k : ℕ) (s : State) → put_on n k (in_phase p s) ≡ in_phase p (put_on n k s)
unfolding put_on on_conn on_exchange
put_in p n k s = refl

pause_next : (p : Phase) (n : ℕ) (e : Exchange) (ns : List ℕ) (s : State) (wanted : Placed) → ((t : State) → (place_each ns (in_phase p t)).pause ≡ (place_each ns t).pause)
    → (elim wanted as (λ c. Placement) [
      | On k ↦ place_each ns (put_on n k (in_phase p s))
      | Wait ↦ place_each ns (in_phase p s)
      | Dial ↦ record { state = in_phase p s; pause = WaitsDial e }
      | CloseThenDial k ↦ record { state = in_phase p s; pause = WaitsDrop k e }
    ]).pause
    ≡ (elim wanted as (λ c. Placement) [
      | On k ↦ place_each ns (put_on n k s)
      | Wait ↦ place_each ns s
      | Dial ↦ record { state = s; pause = WaitsDial e }
      | CloseThenDial k ↦ record { state = s; pause = WaitsDrop k e }
    ]).pause
pause_next p n e ns s (On k) rest = ap (λ (t : State). (place_each ns t).pause) (put_in p n k s) ∙ rest (put_on n k s)
pause_next p n e ns s Wait rest = rest s
pause_next p n e ns s Dial rest = refl
pause_next p n e ns s (CloseThenDial k) rest = refl

pause_at : (o : Option Exchange) (x y : Placement) (f g : Exchange → Placement) → x.pause ≡ y.pause → ((e : Exchange) → (f e).pause ≡ (g e).pause)
    → (elim o as (λ c. Placement) [ None ↦ x | Some e ↦ f e ]).pause ≡ (elim o as (λ c. Placement) [ None ↦ y | Some e ↦ g e ]).pause
pause_at None x y f g none some = none
pause_at (Some e) x y f g none some = some e

pause_same : (p : Phase) (ns : List ℕ) (s : State) → (place_each ns (in_phase p s)).pause ≡ (place_each ns s).pause
pause_same p [] s = refl
pause_same p (n ∷ ns) s =
    pause_at (option_and_then if_unplaced (exchange s n)) _ _ _ _ (pause_same p ns s) (λ e. pause_next p n e ns s (place_for s e) (λ t. pause_same p ns t))

-- ---- as a turn comes to its end

abbrev NoneHasPlace : State → Type 0
NoneHasPlace s = (e : Exchange) → IsIn e s.exchanges → e.place ≡ None → place_for s e ≡ Wait

record Comes (terms : List Term) (log : Log) (s : State) : Type 0 where
  obeys : Obeys terms s log
  waits : s.phase ≡ DecidingAgain → NoneHasPlace s

all_of_them : (o : Pause) → is_placed o ≡ true → o ≡ AllPlaced
all_of_them AllPlaced is = refl
all_of_them (WaitsDial e) is = absurd (cc is)
all_of_them (WaitsDrop k e) is = absurd (cc is)

placed_all : (s : State) → s.phase ≡ Connecting → is_done s ≡ true → (placing (in_phase DecidingAgain s)).pause ≡ AllPlaced
placed_all s is done =
    pause_same DecidingAgain (map (λ (d : Exchange). d.number) s.exchanges) s
    ∙ all_of_them (placing s).pause (second_holds (not (has_closings s)) (is_placed (placing s).pause) (sym (ap (λ (q : Phase). is_done_with q s) is) ∙ done))

behind_waits : (p : Phase) (s : State) → s.phase ≡ p → is_done s ≡ true → AreRising (map exchange_number s.exchanges) → (s.phase ≡ DecidingAgain → NoneHasPlace s) → onward p ≡ DecidingAgain → NoneHasPlace (behind p s)
behind_waits Before s is done rise here at = absurd (cc at)
behind_waits IsWoken s is done rise here at = absurd (cc at)
behind_waits IsConfigured s is done rise here at = absurd (cc at)
behind_waits IsRooted s is done rise here at = absurd (cc at)
behind_waits IsListed s is done rise here at = absurd (cc at)
behind_waits IsListening s is done rise here at = absurd (cc at)
behind_waits IsStuck s is done rise here at = absurd (cc at)
behind_waits Awaiting s is done rise here at = absurd (cc at)
behind_waits Handling s is done rise here at = absurd (cc at)
behind_waits Evicting s is done rise here at = absurd (cc at)
behind_waits Keeping s is done rise here at = absurd (cc at)
behind_waits Deciding s is done rise here at = absurd (cc at)
behind_waits Following s is done rise here at = absurd (cc at)
behind_waits Connecting s is done rise here at = all_wait (in_phase DecidingAgain s) rise (placed_all s is done)
behind_waits DecidingAgain s is done rise here at = here is

rises : {terms : List Term} {log : Log} (s : State) → Obeys terms s log → AreRising (map exchange_number s.exchanges)
rises s obeys = (facts_of (obeys_good obeys).sound).asks.rise

waits_next : (s : State) → is_done s ≡ true → AreRising (map exchange_number s.exchanges) → (s.phase ≡ DecidingAgain → NoneHasPlace s) → (next s).phase ≡ DecidingAgain → NoneHasPlace (next s)
unfolding next
waits_next s done rise here at = behind_waits s.phase s refl done rise here (sym (next-phase s) ∙ at)

next_comes : {terms : List Term} {log : Log} (s : State) → is_done s ≡ true → Comes terms log s → Comes terms log (next s)
next_comes s done h = record { obeys = obeys_silently h.obeys done; waits = waits_next s done (rises s h.obeys) h.waits }

comes_when : {terms : List Term} {log : Log} (t : Bool) {x y : State} → (t ≡ true → Comes terms log x) → Comes terms log y → Comes terms log (elim t as (λ c. State) [ true ↦ x | false ↦ y ])
comes_when true hx hy = hx refl
comes_when false hx hy = hy

come_comes : {terms : List Term} {log : Log} (stops : State → Bool) (ps : List Phase) (s : State) → Comes terms log s → Comes terms log (come stops ps s)
unfolding come
come_comes stops [] s h = h
come_comes stops (p ∷ ps) s h =
    come_comes stops ps _ (comes_when (is_at p s) (λ at. comes_when (stops s) (λ is. h) (comes_when (is_done s) (λ done. next_comes s done h) h)) h)

come_to_comes : {terms : List Term} {log : Log} (phase : Phase) (s : State) → Comes terms log s → Comes terms log (come_to phase s)
unfolding come_to
come_to_comes phase s h = come_comes (is_at phase) phases s h

-- ---- replies begin

map_same : {A : Type 0} (xs : List A) → xs ≡ map (λ x. x) xs
map_same [] = refl
map_same (x ∷ xs) = ap (λ ys. x ∷ ys) (map_same xs)

begun_full : (s : State) → IsFuller s (begin_replies s) (λ k. k)
unfolding begin_replies swept forsake
begun_full s = record {
  settings = refl;
  conns = map_same s.conns;
  host = λ k. refl;
  port = λ k. refl;
  closing = λ k. refl;
  pipelines = λ k. refl;
  longer = λ k. le_refl (length k.line);
  alone = λ k is. any_same (alone_in s) (alone_in (begin_replies s)) (λ m. sym (alone_same m)) k.line is;
}
  where
    alone_same : (m : ℕ) → alone_in (begin_replies s) m ≡ alone_in s m
    alone_same m =
        ap (λ o. is_some_with (λ (e : Exchange). goes_alone e.head) o)
        (find_mapped (is_exchange m) (changed_at (is_outrun s) left_alone) (λ e. chosen (λ (x : Exchange). is_exchange m x) (is_outrun s e) (left_alone e) e (is_exchange m e) refl refl) s.exchanges)
        ∙ same_head (changed_at (is_outrun s) left_alone) (λ e. chosen (λ (x : Exchange). x.head) (is_outrun s e) (left_alone e) e e.head refl refl) (exchange s m)

begun_from : (s : State) (e : Exchange) → IsIn e (begin_replies s).exchanges → Changed (is_outrun s) left_alone s.exchanges e
unfolding begin_replies swept forsake
begun_from s e i = in_change (is_outrun s) left_alone e s.exchanges i

begun_waits : (s : State) → NoneHasPlace s → NoneHasPlace (begin_replies s)
begun_waits s none e i free = by (begun_from s e i)
  where
    by : Changed (is_outrun s) left_alone s.exchanges e → place_for (begin_replies s) e ≡ Wait
    by (same j isnt) = wait_stays s (begin_replies s) (λ k. k) (begun_full s) e (none e j free)
    by (other d j hit eq) =
        subst (λ (x : Exchange). place_for (begin_replies s) x ≡ Wait) (sym eq)
        (wait_stays s (begin_replies s) (λ k. k) (begun_full s) d (none d j (sym (ap (λ (x : Exchange). x.place) eq) ∙ free)))

at_so : (t holds : Bool) → (elim t as (λ c. Bool) [ true ↦ holds | false ↦ false ]) ≡ true → t ≡ true
at_so true holds is = refl
at_so false holds is = absurd (cc is)

at_end : (s : State) → NoneHasPlace (come_to DecidingAgain s) → NoneHasPlace (ending s)
unfolding ending
at_end s h = begun_waits (come_to DecidingAgain s) h

pub no_place : AsksHaveNoPlace
no_place terms s log obeys isnt may e i none = at_end s none_there e i none
  where
    first : Comes terms log (state_after terms log)
    first = record {
      obeys = record { lawful = obeys.lawful; goes = record { phases = 0; done = tt; there = refl } };
      waits = λ at. let both : true ≡ false = sym (ap (is_same_phase DecidingAgain) at) ∙ isnt in absurd (cc both);
    }

    start : Comes terms log s
    start = obeying (Comes terms log) (λ t done h. next_comes t done h) terms s log obeys first

    none_there : NoneHasPlace (come_to DecidingAgain s)
    none_there = (come_to_comes DecidingAgain s start).waits (at_phase DecidingAgain (come_to DecidingAgain s) (at_so (is_at DecidingAgain (come_to DecidingAgain s)) (is_done (come_to DecidingAgain s)) may))
