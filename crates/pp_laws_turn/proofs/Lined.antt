-- What is kept of the lines of connections: what goes alone has no other in its line, and a line has several only behind a response that
-- shows that it may.
use Rattle.std.proofs.Common.{◌≡◌, ◌⊎◌, refl, ℕ, ◌+◌, ◌<◌, ◌≤◌, nat_lt, Bool, true, false, not, ◌==◌, ◌&&◌, ◌||◌, if◌then◌else◌, List, [], ◌∷◌, ◌++◌, map, filter, length, Option, Some, None, option_and_then, option_map, unwrap_or, inl, inr, sym, subst, ap, ◌∙◌, le_refl, le_trans, lt_irrefl, arith}
use Rattle.std.specs.List.{list_any}
use Rattle.pp_peers.specs.Peers.{Loaded}
use Rattle.pp_peers.specs.Placing.{first_of, new_place, pipelined_place}
use Rattle.pp_peers.specs.Searches.{count_of, is_any, is_of, is_idle, lowest_idle, takes_more}
use Rattle.pp_peers.specs.declared.placing.Placed.TheVariants.{On, Dial, CloseThenDial, Wait}
use Rattle.pp_peers.specs.declared.placing.Placed.{Placed}
use Rattle.pp_law.specs.Connections.{Placement, WaitsDial, WaitsDrop, exchange, if_unplaced, is_conn, is_exchange, open_conns, place_each, place_for, placing, put_on, with_load}
use Rattle.pp_law.specs.Lists.{is_some_with}
use Rattle.pp_law.specs.Requests.{goes_alone}
use Rattle.pp_law.specs.State.{State, Conn, Exchange}
use Rattle.pp_laws.specs.Runs.{IsIn}
use Rattle.pp_laws.proofs.Lists.{Changed, changed_at, in_change, in_filter, in_find, in_map, in_push, other, same}
use Rattle.pp_laws.proofs.Sound.{conn_number, exchange_number}
use Rattle.pp_laws.proofs.Tests.{first_holds, same_number, second_holds}
use Rattle.pp_laws_bounds.proofs.Peers.{Has, NewPlace, idle_there, lightest_there, new_by, piped_by}
use Rattle.pp_laws_turn.proofs.Counts.{find_in}
use Rattle.pp_laws_turn.proofs.View.{Lesser, Takes, TakesOne}

-- numbers tell connections apart, and what was asked; and what goes alone is alone
pub record AreLined (conns : List Conn) (exchanges : List Exchange) (next : ℕ) : Type 0 where
  pub apart : (j k : Conn) → IsIn j conns → IsIn k conns → j.number ≡ k.number → j ≡ k
  pub heads : (d e : Exchange) → IsIn d exchanges → IsIn e exchanges → d.number ≡ e.number → d.head ≡ e.head
  pub given : (e : Exchange) → IsIn e exchanges → e.number < next
  pub asked : (k : Conn) (n : ℕ) → IsIn k conns → IsIn n k.line → n < next
  pub few : (k : Conn) → IsIn k conns → k.may_pipeline ≡ false → length k.line ≤ 1
  pub alone : (k : Conn) (e : Exchange) → IsIn k conns → IsIn e exchanges → IsIn e.number k.line → goes_alone e.head ≡ true → length k.line ≤ 1

-- ---- connections

pub lesser_lined : (f : Conn → Conn) (conns : List Conn) (exchanges : List Exchange) (next : ℕ) → ((k : Conn) → Lesser (f k) k) → AreLined conns exchanges next → AreLined (map f conns) exchanges next
lesser_lined f conns exchanges next lesser l = record {
  apart = λ j k i h eq.
      let p = in_map f j conns i in
      let r = in_map f k conns h in
      p.is ∙ ap f (l.apart p.was r.was p.there r.there (sym (lesser p.was).number ∙ ap conn_number (sym p.is) ∙ eq ∙ ap conn_number r.is ∙ (lesser r.was).number)) ∙ sym r.is;
  heads = l.heads;
  given = l.given;
  asked = λ k n i at. let r = in_map f k conns i in l.asked r.was n r.there ((lesser r.was).within n (subst (λ (x : Conn). IsIn n x.line) r.is at));
  few = λ k i isnt.
      let r = in_map f k conns i in
      let was : length r.was.line ≤ 1 = l.few r.was r.there ((lesser r.was).pipelines (ap (λ (x : Conn). x.may_pipeline) (sym r.is) ∙ isnt)) in
      subst (λ (x : Conn). length x.line ≤ 1) (sym r.is) (le_trans (lesser r.was).shorter was);
  alone = λ k e i j at is.
      let r = in_map f k conns i in
      let was : length r.was.line ≤ 1 = l.alone r.was e r.there j ((lesser r.was).within e.number (subst (λ (x : Conn). IsIn e.number x.line) r.is at)) is in
      subst (λ (x : Conn). length x.line ≤ 1) (sym r.is) (le_trans (lesser r.was).shorter was);
}

pub fewer_conns : (test : Conn → Bool) (conns : List Conn) (exchanges : List Exchange) (next : ℕ) → AreLined conns exchanges next → AreLined (filter test conns) exchanges next
fewer_conns test conns exchanges next l = record {
  apart = λ j k i h eq. l.apart j k (in_filter test j conns i).0 (in_filter test k conns h).0 eq;
  heads = l.heads;
  given = l.given;
  asked = λ k n i at. l.asked k n (in_filter test k conns i).0 at;
  few = λ k i isnt. l.few k (in_filter test k conns i).0 isnt;
  alone = λ k e i j at is. l.alone k e (in_filter test k conns i).0 j at is;
}

-- one comes whose number is no other's
pub more_conns : (k : Conn) (conns : List Conn) (exchanges : List Exchange) (next : ℕ) → k.line ≡ [] → ((j : Conn) → IsIn j conns → j.number ≡ k.number → ⊥) → AreLined conns exchanges next → AreLined (conns ++ k ∷ []) exchanges next
more_conns k conns exchanges next empty new l = record {
  apart = λ i j at there eq. apart_by i j (in_push i conns k at) (in_push j conns k there) eq;
  heads = l.heads;
  given = l.given;
  asked = λ j n i at. asked_by j n (in_push j conns k i) at;
  few = λ j i isnt. few_by j (in_push j conns k i) isnt;
  alone = λ j e i there at is. alone_by j e (in_push j conns k i) there at is;
}
  where
    apart_by : (i j : Conn) → IsIn i conns ⊎ (i ≡ k) → IsIn j conns ⊎ (j ≡ k) → i.number ≡ j.number → i ≡ j
    apart_by i j (inl at) (inl there) eq = l.apart i j at there eq
    apart_by i j (inl at) (inr is) eq = absurd (new i at (eq ∙ ap conn_number is))
    apart_by i j (inr is) (inl there) eq = absurd (new j there (sym eq ∙ ap conn_number is))
    apart_by i j (inr is) (inr too) eq = is ∙ sym too

    nothing : (j : Conn) → j ≡ k → j.line ≡ []
    nothing j is = ap (λ (x : Conn). x.line) is ∙ empty

    short : (j : Conn) → j ≡ k → length j.line ≤ 1
    short j is = subst (λ (ns : List ℕ). length ns ≤ 1) (sym (nothing j is)) (omega arith)

    asked_by : (j : Conn) (n : ℕ) → IsIn j conns ⊎ (j ≡ k) → IsIn n j.line → n < next
    asked_by j n (inl i) at = l.asked j n i at
    asked_by j n (inr is) at = absurd (subst (λ (ns : List ℕ). IsIn n ns) (nothing j is) at)

    few_by : (j : Conn) → IsIn j conns ⊎ (j ≡ k) → j.may_pipeline ≡ false → length j.line ≤ 1
    few_by j (inl i) isnt = l.few j i isnt
    few_by j (inr is) isnt = short j is

    alone_by : (j : Conn) (e : Exchange) → IsIn j conns ⊎ (j ≡ k) → IsIn e exchanges → IsIn e.number j.line → goes_alone e.head ≡ true → length j.line ≤ 1
    alone_by j e (inl i) there at is = l.alone j e i there at is
    alone_by j e (inr eq) there at is = short j eq

-- ---- exchanges

-- it was one of these, with that number and head
pub record WasAsk (xs : List Exchange) (e : Exchange) : Type 0 where
  pub was : Exchange
  pub there : IsIn was xs
  pub number : e.number ≡ was.number
  pub head : e.head ≡ was.head

pub fewer_lined : (conns : List Conn) (xs ys : List Exchange) (next : ℕ) → ((e : Exchange) → IsIn e ys → WasAsk xs e) → AreLined conns xs next → AreLined conns ys next
fewer_lined conns xs ys next from l = record {
  apart = l.apart;
  heads = λ d e i j eq. let p = from d i in let r = from e j in p.head ∙ l.heads p.was r.was p.there r.there (sym p.number ∙ eq ∙ r.number) ∙ sym r.head;
  given = λ e i. let r = from e i in subst (λ n. n < next) (sym r.number) (l.given r.was r.there);
  asked = l.asked;
  few = l.few;
  alone = λ k e i j at is. let r = from e j in l.alone k r.was i r.there (subst (λ n. IsIn n k.line) r.number at) (ap goes_alone (sym r.head) ∙ is);
}

pub begun_lined : (e : Exchange) (conns : List Conn) (xs : List Exchange) (next : ℕ) → e.number ≡ next → AreLined conns xs next → AreLined conns (xs ++ e ∷ []) (next + 1)
begun_lined e conns xs next number l = record {
  apart = l.apart;
  heads = λ c d i j eq. heads_by c d (in_push c xs e i) (in_push d xs e j) eq;
  given = λ d i. given_by d (in_push d xs e i);
  asked = λ k n i at. more n (l.asked k n i at);
  few = l.few;
  alone = λ k d i j at is. alone_by k d i (in_push d xs e j) at is;
}
  where
    more : (n : ℕ) → n < next → n < next + 1
    more n lt = omega arith

    last : (d : Exchange) → d ≡ e → d.number ≡ next
    last d is = ap exchange_number is ∙ number

    given_by : (d : Exchange) → IsIn d xs ⊎ (d ≡ e) → d.number < next + 1
    given_by d (inl i) = more d.number (l.given d i)
    given_by d (inr is) = let at : d.number ≡ next = last d is in omega arith

    never : (n : ℕ) → n ≡ next → n < next → ⊥
    never n is lt = lt_irrefl next (subst (λ m. m < next) is lt)

    heads_by : (c d : Exchange) → IsIn c xs ⊎ (c ≡ e) → IsIn d xs ⊎ (d ≡ e) → c.number ≡ d.number → c.head ≡ d.head
    heads_by c d (inl i) (inl j) eq = l.heads c d i j eq
    heads_by c d (inl i) (inr is) eq = absurd (never c.number (eq ∙ last d is) (l.given c i))
    heads_by c d (inr is) (inl j) eq = absurd (never d.number (sym eq ∙ last c is) (l.given d j))
    heads_by c d (inr is) (inr too) eq = ap (λ (x : Exchange). x.head) (is ∙ sym too)

    alone_by : (k : Conn) (d : Exchange) → IsIn k conns → IsIn d xs ⊎ (d ≡ e) → IsIn d.number k.line → goes_alone d.head ≡ true → length k.line ≤ 1
    alone_by k d i (inl j) at is = l.alone k d i j at is
    alone_by k d i (inr eq) at is = absurd (never d.number (last d eq) (l.asked k d.number i at))

-- ---- an exchange gets a place

abbrev pub longer : ℕ → Conn → Conn
longer n j = record j { line = j.line ++ n ∷ [] }

pub put_lined : (n k : ℕ) (conns : List Conn) (exchanges : List Exchange) (next : ℕ) → Takes n k conns exchanges next → AreLined conns exchanges next → AreLined (map (changed_at (is_conn k) (longer n)) conns) exchanges next
put_lined n k conns exchanges next takes l = record {
  apart = λ i j at there eq.
      let p = in_map (changed_at (is_conn k) (longer n)) i conns at in
      let r = in_map (changed_at (is_conn k) (longer n)) j conns there in
      p.is ∙ ap (changed_at (is_conn k) (longer n)) (l.apart p.was r.was p.there r.there (sym (numbered p.was (is_conn k p.was)) ∙ ap conn_number (sym p.is) ∙ eq ∙ ap conn_number r.is ∙ numbered r.was (is_conn k r.was))) ∙ sym r.is;
  heads = l.heads;
  given = l.given;
  asked = λ j m i at. asked_by j m (in_change (is_conn k) (longer n) j conns i) at;
  few = λ j i isnt. few_by j (in_change (is_conn k) (longer n) j conns i) isnt;
  alone = λ j e i there at is. alone_by j e (in_change (is_conn k) (longer n) j conns i) there at is;
}
  where
    numbered : (j : Conn) (t : Bool) → (elim t as (λ c. Conn) [ true ↦ longer n j | false ↦ j ]).number ≡ j.number
    numbered j true = refl
    numbered j false = refl

    pushed : (m : ℕ) (g : Conn) → IsIn g conns → IsIn m g.line ⊎ (m ≡ n) → m < next
    pushed m g i (inl at) = l.asked g m i at
    pushed m g i (inr is) = subst (λ x. x < next) (sym is) takes.given

    asked_by : (j : Conn) (m : ℕ) → Changed (is_conn k) (longer n) conns j → IsIn m j.line → m < next
    asked_by j m (same i isnt) at = l.asked j m i at
    asked_by j m (other g i hit eq) at = pushed m g i (in_push m g.line n (subst (λ (x : Conn). IsIn m x.line) eq at))

    its : (g : Conn) → IsIn g conns → is_conn k g ≡ true → TakesOne n g exchanges
    its g i hit = takes.each g i (same_number g.number k hit)

    one : (j g : Conn) → j ≡ longer n g → g.line ≡ [] → length j.line ≤ 1
    one j g eq empty = subst (λ (ns : List ℕ). length ns ≤ 1) (sym (ap (λ (x : Conn). x.line) eq ∙ ap (λ (ns : List ℕ). ns ++ n ∷ []) empty)) (le_refl 1)

    few_of : (j g : Conn) → j ≡ longer n g → j.may_pipeline ≡ false → TakesOne n g exchanges → length j.line ≤ 1
    few_of j g eq isnt (inl empty) = one j g eq empty
    few_of j g eq isnt (inr w) = let both : true ≡ false = sym w.0 ∙ ap (λ (x : Conn). x.may_pipeline) (sym eq) ∙ isnt in absurd (cc both)

    few_by : (j : Conn) → Changed (is_conn k) (longer n) conns j → j.may_pipeline ≡ false → length j.line ≤ 1
    few_by j (same i at) isnt = l.few j i isnt
    few_by j (other g i hit eq) isnt = few_of j g eq isnt (its g i hit)

    alone_of : (j g : Conn) (e : Exchange) → j ≡ longer n g → IsIn e exchanges → IsIn e.number j.line → goes_alone e.head ≡ true → TakesOne n g exchanges → length j.line ≤ 1
    alone_of j g e eq there at is (inl empty) = one j g eq empty
    alone_of j g e eq there at is (inr w) = absurd (w.1 e there (subst (λ (x : Conn). IsIn e.number x.line) eq at) is)

    alone_by : (j : Conn) (e : Exchange) → Changed (is_conn k) (longer n) conns j → IsIn e exchanges → IsIn e.number j.line → goes_alone e.head ≡ true → length j.line ≤ 1
    alone_by j e (same i isnt) there at is = l.alone j e i there at is
    alone_by j e (other g i hit eq) there at is = alone_of j g e eq there at is (its g i hit)

-- ---- where it is asked

shared_by : (alone : Bool) (idle : Option ℕ) (new piped : Option Placed) (k : ℕ) → (if alone then unwrap_or new Wait else unwrap_or (first_of (option_map On idle) (first_of new piped)) Wait) ≡ On k
    → (new ≡ Some (On k)) ⊎ ((alone ≡ false) × ((idle ≡ Some k) ⊎ (piped ≡ Some (On k))))
shared_by true idle (Some q) piped k is = inl (ap (λ x. Some x) is)
shared_by true idle None piped k is = absurd (cc is)
shared_by false (Some n) new piped k is = let e : n ≡ k = cc is in inr (refl, inl (ap (λ x. Some x) e))
shared_by false None (Some q) piped k is = inl (ap (λ x. Some x) is)
shared_by false None None (Some q) k is = inr (refl, inr (ap (λ x. Some x) is))
shared_by false None None None k is = absurd (cc is)

never_on : (b c : Bool) (x y : Option ℕ) (n : ℕ) → NewPlace b c x y (On n) → ⊥
never_on b c x y n (inl w) = cc w.0
never_on b c x y n (inr w) = cc w.1

abbrev peers_of : State → List Loaded
peers_of s = map (with_load s) (open_conns s)

-- one of that number
record IsOpen (s : State) (p : Loaded) : Type 0 where
  conn : Conn
  there : IsIn conn s.conns
  is : p ≡ with_load s conn

open_of : (s : State) (p : Loaded) → IsIn p (peers_of s) → IsOpen s p
open_of s p i =
    let r = in_map (with_load s) p (open_conns s) i in
    record { conn = r.was; there = (in_filter (λ k. not k.is_closing) r.was s.conns r.there).0; is = r.is }

empty_line : (line : List ℕ) → length line ≡ 0 → line ≡ []
empty_line [] is = refl
empty_line (n ∷ line) is = absurd (omega arith)

none_alone : (s : State) (line : List ℕ) → list_any (λ m. is_some_with (λ e. goes_alone e.head) (exchange s m)) line ≡ false → (m : ℕ) (e : Exchange) → IsIn m line → exchange s m ≡ Some e → goes_alone e.head ≡ false
none_alone s [] none m e i is = absurd i
none_alone s (n ∷ line) none m e i is = by (is_some_with (λ d. goes_alone d.head) (exchange s n)) refl none i (λ rest j. none_alone s line rest m e j is)
  where
    by : (t : Bool) → is_some_with (λ d. goes_alone d.head) (exchange s n) ≡ t → (t || list_any (λ k. is_some_with (λ d. goes_alone d.head) (exchange s k)) line) ≡ false → (m ≡ n) ⊎ IsIn m line
        → (list_any (λ k. is_some_with (λ d. goes_alone d.head) (exchange s k)) line ≡ false → IsIn m line → goes_alone e.head ≡ false) → goes_alone e.head ≡ false
    by true hit at j rest = absurd (cc at)
    by false isnt at (inl eq) rest = ap (is_some_with (λ (d : Exchange). goes_alone d.head)) (sym is ∙ ap (λ k. exchange s k) eq) ∙ isnt
    by false isnt at (inr j) rest = rest at j

-- what it takes behind others
piped_takes : (s : State) (n : ℕ) (e : Exchange) (k : Conn) → AreLined s.conns s.exchanges s.next_exchange → exchange s n ≡ Some e → goes_alone e.head ≡ false
    → (k.may_pipeline && not (list_any (λ m. is_some_with (λ d. goes_alone d.head) (exchange s m)) k.line)) ≡ true → TakesOne n k s.exchanges
piped_takes s n e k l found shares may = inr (first_holds k.may_pipeline (not (list_any (λ m. is_some_with (λ d. goes_alone d.head) (exchange s m)) k.line)) may, λ d i at is. none d i is (in_push d.number k.line n at))
  where
    not_so : (t : Bool) → not t ≡ true → t ≡ false
    not_so true is = absurd (cc is)
    not_so false is = refl

    nobody : list_any (λ m. is_some_with (λ d. goes_alone d.head) (exchange s m)) k.line ≡ false
    nobody = not_so (list_any (λ m. is_some_with (λ d. goes_alone d.head) (exchange s m)) k.line) (second_holds k.may_pipeline (not (list_any (λ m. is_some_with (λ d. goes_alone d.head) (exchange s m)) k.line)) may)

    both_ways : (d f : Exchange) → d.head ≡ f.head → goes_alone f.head ≡ false → goes_alone d.head ≡ true → ⊥
    both_ways d f eq isnt is = let both : true ≡ false = sym is ∙ ap goes_alone eq ∙ isnt in cc both

    none : (d : Exchange) → IsIn d s.exchanges → goes_alone d.head ≡ true → IsIn d.number k.line ⊎ (d.number ≡ n) → ⊥
    none d i is (inl at) =
        let w = find_in exchange_number d.number d s.exchanges i refl in
        let r = in_find (is_exchange d.number) w.0 s.exchanges w.1 in
        both_ways d w.0 (l.heads d w.0 i r.0 (sym (same_number w.0.number d.number r.1))) (none_alone s k.line nobody d.number w.0 at w.1) is
    none d i is (inr eq) =
        let r = in_find (is_exchange n) e s.exchanges found in
        both_ways d e (l.heads d e i r.0 (eq ∙ sym (same_number e.number n r.1))) shares is

pub on_takes : (s : State) (n k : ℕ) (e : Exchange) → AreLined s.conns s.exchanges s.next_exchange → exchange s n ≡ Some e → place_for s e ≡ On k → Takes n k s.conns s.exchanges s.next_exchange
on_takes s n k e l found is = record { given = subst (λ m. m < s.next_exchange) (same_number e.number n there.1) (l.given e there.0); each = λ j i number. by j i number (shared_by (goes_alone e.head) idle new piped k is) }
  where
    there : IsIn e s.exchanges × (is_exchange n e ≡ true)
    there = in_find (is_exchange n) e s.exchanges found

    among : Loaded → Bool
    among = is_of e.key.host e.key.port

    idle : Option ℕ
    idle = lowest_idle among (peers_of s)

    new : Option Placed
    new = new_place s.settings.host_connections e.key.host e.key.port (peers_of s)

    piped : Option Placed
    piped = pipelined_place s.settings.pipelines_asks e.key.host e.key.port (peers_of s)

    -- that of the number is the one that was found
    it : (j : Conn) (p : Loaded) (o : IsOpen s p) → IsIn j s.conns → j.number ≡ k → p.number ≡ k → o.conn ≡ j
    it j p o i number at = l.apart o.conn j o.there i (sym (ap (λ (x : Loaded). x.number) o.is) ∙ at ∙ sym number)

    idle_by : (j : Conn) → IsIn j s.conns → j.number ≡ k → Has (is_idle among) k (peers_of s) → TakesOne n j s.exchanges
    idle_by j i number w =
        let o = open_of s w.0 w.1 in
        let none : length o.conn.line ≡ 0 = sym (ap (λ (x : Loaded). x.load.asks) o.is) ∙ same_number w.0.load.asks 0 (second_holds (among w.0) (w.0.load.asks == 0) w.3) in
        inl (ap (λ (x : Conn). x.line) (sym (it j w.0 o i number w.2)) ∙ empty_line o.conn.line none)

    piped_so : (j : Conn) → IsIn j s.conns → j.number ≡ k → goes_alone e.head ≡ false → Has (takes_more among) k (peers_of s) → TakesOne n j s.exchanges
    piped_so j i number shares w =
        let o = open_of s w.0 w.1 in
        let may : w.0.load.may_pipeline ≡ true = first_holds w.0.load.may_pipeline (nat_lt w.0.load.asks 8) (second_holds (among w.0) (w.0.load.may_pipeline && nat_lt w.0.load.asks 8) w.3) in
        subst (λ (x : Conn). TakesOne n x s.exchanges) (it j w.0 o i number w.2) (piped_takes s n e o.conn l found shares (sym (ap (λ (x : Loaded). x.load.may_pipeline) o.is) ∙ may))

    by : (j : Conn) → IsIn j s.conns → j.number ≡ k → (new ≡ Some (On k)) ⊎ ((goes_alone e.head ≡ false) × ((idle ≡ Some k) ⊎ (piped ≡ Some (On k)))) → TakesOne n j s.exchanges
    by j i number (inl w) = absurd (never_on (nat_lt (count_of among (peers_of s)) s.settings.host_connections) (nat_lt (length (peers_of s)) 64) (lowest_idle is_any (peers_of s)) idle k
        (new_by (nat_lt (count_of among (peers_of s)) s.settings.host_connections) (nat_lt (length (peers_of s)) 64) (lowest_idle is_any (peers_of s)) idle (On k) w))
    by j i number (inr (shares, inl w)) = idle_by j i number (idle_there among (peers_of s) k w)
    by j i number (inr (shares, inr w)) =
        let v = piped_by s.settings.pipelines_asks e.key.host e.key.port (peers_of s) (On k) w in
        let eq : k ≡ v.0.1 = cc v.2 in
        piped_so j i number shares (subst (λ m. Has (takes_more among) m (peers_of s)) (sym eq) (lightest_there among (peers_of s) v.0 v.1))

-- ---- each that is placed

put_next : (P : State → Type 0) (n : ℕ) (e : Exchange) (ns : List ℕ) (s : State) (wanted : Placed) → ((k : ℕ) → wanted ≡ On k → P (put_on n k s)) → ((t : State) → P t → P (place_each ns t).state) → P s
    → P (elim wanted as (λ c. Placement) [
      | On k ↦ place_each ns (put_on n k s)
      | Wait ↦ place_each ns s
      | Dial ↦ record { state = s; pause = WaitsDial e }
      | CloseThenDial k ↦ record { state = s; pause = WaitsDrop k e }
    ]).state
put_next P n e ns s (On k) put rest h = rest (put_on n k s) (put k refl)
put_next P n e ns s Wait put rest h = rest s h
put_next P n e ns s Dial put rest h = h
put_next P n e ns s (CloseThenDial k) put rest h = h

put_at : (P : State → Type 0) (o : Option Exchange) (p : Placement) (q : Exchange → Placement) → P p.state → ((e : Exchange) → o ≡ Some e → P (q e).state) → P (elim o as (λ c. Placement) [ None ↦ p | Some e ↦ q e ]).state
put_at P None p q hp hq = hp
put_at P (Some e) p q hp hq = hq e refl

was_found : (o : Option Exchange) (e : Exchange) → option_and_then if_unplaced o ≡ Some e → o ≡ Some e
was_found None e is = absurd (cc is)
was_found (Some x) e is = by x.place is
  where
    by : (p : Option ℕ) → (elim p as (λ c. Option Exchange) [ Some k ↦ None | None ↦ Some x ]) ≡ Some e → Some x ≡ Some e
    by None at = at
    by (Some k) at = absurd (cc at)

-- where each is put where it is asked now
abbrev pub PutsEach : (State → Type 0) → Type 0
PutsEach P = (n k : ℕ) (e : Exchange) (s : State) → exchange s n ≡ Some e → place_for s e ≡ On k → P s → P (put_on n k s)

each_put : (P : State → Type 0) → PutsEach P → (ns : List ℕ) (s : State) → P s → P (place_each ns s).state
each_put P put [] s h = h
each_put P put (n ∷ ns) s h =
    put_at P (option_and_then if_unplaced (exchange s n)) _ _ (each_put P put ns s h)
    (λ e found. put_next P n e ns s (place_for s e) (λ k is. put n k e s (was_found (exchange s n) e found) is h) (λ t ht. each_put P put ns t ht) h)

pub placing_puts : (P : State → Type 0) → PutsEach P → (s : State) → P s → P (placing s).state
placing_puts P put s h = each_put P put _ s h
