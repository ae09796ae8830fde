-- Whoever waits for an exchange has it, also behind what is read of a connection to an origin.
use Rattle.std.proofs.Common.{◌≡◌, refl, ℕ, ◌==◌, Bool, true, false, not, ◌||◌, List, Option, Some, None, inl, sym, subst, ap, ◌∙◌}
use Rattle.pp_pass.specs.Pipe.{Pipe, finished}
use Rattle.pp_law.specs.Connections.{conn, end_exchange, is_conn, is_exchange, is_for, on_client_of, on_conn, without_ask}
use Rattle.pp_law.specs.Lists.{is_some_with}
use Rattle.pp_law.specs.Passing.{pour}
use Rattle.pp_law.specs.Responses.{close_this, finish, may_go_on, rested, skip_body, skipping}
use Rattle.pp_law.specs.Stages.{is_headed, on_passed, passed_of}
use Rattle.pp_law.specs.State.{State, Answer, Client, Conn, Exchange, Instance, Passed, Passes as IsPassed, Stage, Undecided, Waiting, Passing, Answering}
use Rattle.pp_laws.specs.Runs.{IsIn}
use Rattle.pp_laws.proofs.Bodies.{in_first}
use Rattle.pp_laws.proofs.Lists.{Changed, in_change, in_filter, in_find, in_map, other, same}
use Rattle.pp_laws.proofs.Sound.{first_of}
use Rattle.pp_laws.proofs.Tests.{number_same, same_number}
use Rattle.pp_laws_turn.proofs.Cases.{by_aim_of, each_so, when}
use Rattle.pp_laws_turn.proofs.View.{Holds, View, facts_of, holds, view}
use Rattle.pp_laws_left.proofs.Owned.{Amid, AreFree, But, Facts, KeptClient, Owned, as_it_was, kept_same, none_but, shrunk_for, unanswered_in}
use Rattle.pp_laws_left.proofs.OwnedConns.{conns_quiet}
use Rattle.pp_laws_left.proofs.OwnedAsks.{amid_not, on_client_of-owned, some_but}
use Rattle.pp_laws_left.proofs.OwnedOver.{close_conn-owned, end_exchange-owned, own_line}

-- ---- what is passed

-- of what is passed no more is to come than was
pub passed_kept : (f : Passed → Passed) → ((p : Passed) → not ((f p).is_short || (f p).pipe.is_finished) ≡ true → not (p.is_short || p.pipe.is_finished) ≡ true) → (c : Client) → KeptClient (on_passed f c) c
passed_kept f less c = by (passed_of c) refl
  where
    by : (o : Option Passed) → passed_of c ≡ o → KeptClient (elim o as (λ x. Client) [ None ↦ c | Some p ↦ record c { brought = IsPassed (f p) } ]) c
    by None none = kept_same c
    by (Some p) some = record {
      number = refl;
      asks = λ a. absurd (asked c.stage a.unanswered);
      amid = λ a. record { going = a.going; tries = a.tries; more = ap (λ (o : Option Passed). is_some_with (λ q. not (q.is_short || q.pipe.is_finished)) o) some ∙ less p a.more };
      stage = λ is. refl;
      none = λ none. (let both : Some p ≡ None = sym some ∙ none in absurd (cc both));
      begun = λ off. inl off;
    }
      where
        asked : (g : Stage) → unanswered_in g (IsPassed (f p)) ≡ true → ⊥
        asked Undecided is = cc is
        asked Waiting is = cc is
        asked Passing is = cc is
        asked (Answering r) is = cc is

pub passed_number : (f : Passed → Passed) (c : Client) → (on_passed f c).number ≡ c.number
passed_number f c = by (passed_of c)
  where
    by : (o : Option Passed) → (elim o as (λ x. Client) [ None ↦ c | Some p ↦ record c { brought = IsPassed (f p) } ]).number ≡ c.number
    by None = refl
    by (Some p) = refl

abbrev with_end : Passed → Passed
with_end p = record p { pipe = finished p.pipe }

or_true : (a : Bool) → not (a || true) ≡ false
or_true true = refl
or_true false = refl

ended_not : (c : Client) → Amid (on_passed with_end c) → ⊥
ended_not c = by (passed_of c) refl
  where
    by : (o : Option Passed) → passed_of c ≡ o → Amid (elim o as (λ x. Client) [ None ↦ c | Some p ↦ record c { brought = IsPassed (with_end p) } ]) → ⊥
    by None none a = amid_not c none a
    by (Some p) some a = let both : false ≡ true = sym (or_true p.is_short) ∙ a.more in cc both

-- ---- connections

apart_conn : {At : Type 0} (ask conn_ : Option ℕ) (cs : List Client) (es : List Exchange) (ks : List Conn) (next : ℕ) → Facts (some_but ask None) At cs es ks next → Facts (some_but ask conn_) At cs es ks next
apart_conn ask conn_ cs es ks next h = record { callers = h.callers; apart = h.apart; given = h.given; one = h.one; plain = h.plain; fills = h.fills; kinds = h.kinds; asks = h.asks; amid = h.amid; lined = h.lined; conns = h.conns; own = h.own; placed = h.placed; front = λ k a l isnt is. h.front k a l (λ none. cc none) is; behind = h.behind }

pub set_apart : {ask : Option ℕ} {At : Type 0} (conn : Option ℕ) (s : State) → Holds (Owned (some_but ask None) At) s → Holds (Owned (some_but ask conn) At) s
set_apart {ask} conn s h = holds (apart_conn ask conn s.clients s.exchanges s.conns s.next_exchange (facts_of h))

-- where the one that stands apart is gone
unasked : {At : Type 0} (n : ℕ) (ask conn : Option ℕ) (cs : List Client) (es : List Exchange) (ks : List Conn) (next : ℕ) → ((m : ℕ) → ask ≡ Some m → m ≡ n) → ((x : Exchange) → IsIn x es → x.number ≡ n → ⊥) → Facts (some_but ask conn) At cs es ks next → Facts (some_but None conn) At cs es ks next
unasked n ask conn cs es ks next only gone h = record {
  callers = h.callers;
  apart = h.apart;
  given = h.given;
  one = h.one;
  plain = h.plain;
  fills = λ e c i j its some isnt. (let w = h.fills e c i j its some isnt in record { untold = w.untold; calm = λ at off none. w.calm at off (λ is. gone e i (only e.number is)) });
  kinds = h.kinds;
  asks = h.asks;
  amid = h.amid;
  lined = h.lined;
  conns = h.conns;
  own = h.own;
  placed = h.placed;
  front = h.front;
  behind = h.behind;
}

no_more : (n : ℕ) (s : State) → (x : Exchange) → IsIn x (end_exchange n s).exchanges → x.number ≡ n → ⊥
unfolding end_exchange
no_more n s x i is = let hit = (in_filter (λ e. not (is_exchange n e)) x s.exchanges i).1 in let both : false ≡ true = sym (ap not (ap (λ m. m == n) is ∙ number_same n)) ∙ hit in cc both

pub over_unasked : {ask conn : Option ℕ} {At : Type 0} (n : ℕ) (s : State) → ((m : ℕ) → ask ≡ Some m → m ≡ n) → Holds (Owned (some_but ask conn) At) (end_exchange n s) → Holds (Owned (some_but None conn) At) (end_exchange n s)
over_unasked {ask} {conn} n s only h = holds (unasked n ask conn (end_exchange n s).clients (end_exchange n s).exchanges (end_exchange n s).conns (end_exchange n s).next_exchange only (no_more n s) (facts_of h))

-- the first of a line stands in no other
not_elsewhere : {ask : Option ℕ} {At : Type 0} (k : Conn) (e : Exchange) (s : State) → IsIn k s.conns → IsIn e s.exchanges → first_of k.line ≡ Some e.number → Holds (Owned (some_but ask (Some k.number)) At) s → (j : Conn) (a : Answer) → IsIn j s.conns → (Some k.number ≡ Some j.number → ⊥) → j.answer ≡ Some a → first_of j.line ≡ Some e.number → ⊥
not_elsewhere k e s l i front h j a m isnt is first = isnt (ap (λ n. Some n) (sym ((facts_of h).own j k e m l i (in_first e.number j.line first) (in_first e.number k.line front))))

pub close_this-owned : {At : Type 0} (n : ℕ) (s : State) → At → Holds (Owned none_but At) s → Holds (Owned none_but At) (close_this n s)
unfolding close_this
close_this-owned n s at h = each_so (conn s n) (λ none. h) (λ k found. close_conn-owned {ask = None} {conn = None} true k s (own_line k s (in_find (is_conn n) k s.conns found).0 h) (λ m is. absurd (cc is)) (λ is. (at, refl)) h)

-- ---- a response is whole

abbrev NoneAmid : Exchange → View → Type 0
NoneAmid e v = (c : Client) → IsIn c v.clients → is_for e c ≡ true → Amid c → ⊥

poured_none : (e : Exchange) (s : State) → Holds (NoneAmid e) (pour e finished s)
unfolding pour on_client_of
poured_none e s = holds (λ c i its a. by c its a (in_change (is_for e) (on_passed with_end) c s.clients i))
  where
    by : (c : Client) → is_for e c ≡ true → Amid c → Changed (is_for e) (on_passed with_end) s.clients c → ⊥
    by c its a (same j isnt) = let both : true ≡ false = sym its ∙ isnt in cc both
    by c its a (other d j hit eq) = ended_not d (subst (λ (x : Client). Amid x) eq a)

skipped_none : (e : Exchange) (s : State) → Holds (NoneAmid e) s → Holds (NoneAmid e) (skip_body e s)
unfolding skip_body on_client_of
skipped_none e s h = by_aim_of e.aim (holds (λ c i its a. by c its a (in_change (is_for e) skipping c s.clients i))) h (λ v from to. h)
  where
    by : (c : Client) → is_for e c ≡ true → Amid c → Changed (is_for e) skipping s.clients c → ⊥
    by c its a (same j isnt) = facts_of h c j its a
    by c its a (other d j hit eq) = let b : Amid (skipping d) = subst (λ (x : Client). Amid x) eq a in facts_of h d j hit (record { going = b.going; tries = b.tries; more = b.more })

-- what does not come with clients
abbrev Stays : List Exchange → List Conn → List Instance → View → Type 0
Stays es ks xs v = (v.exchanges ≡ es) × (v.conns ≡ ks) × (v.instances ≡ xs)

pour_stays : (e : Exchange) (f : Pipe → Pipe) (es : List Exchange) (ks : List Conn) (xs : List Instance) (s : State) → Holds (Stays es ks xs) s → Holds (Stays es ks xs) (pour e f s)
unfolding pour on_client_of
pour_stays e f es ks xs s h = holds (facts_of h)

skip_stays : (e : Exchange) (es : List Exchange) (ks : List Conn) (xs : List Instance) (s : State) → Holds (Stays es ks xs) s → Holds (Stays es ks xs) (skip_body e s)
unfolding skip_body on_client_of
skip_stays e es ks xs s h = by_aim_of e.aim (holds (facts_of h)) h (λ v from to. h)

skip_body-owned : {but : But} {At : Type 0} (e : Exchange) (s : State) → Holds (Owned but At) s → Holds (Owned but At) (skip_body e s)
unfolding skip_body
skip_body-owned e s h = by_aim_of e.aim (on_client_of-owned e skipping s (λ c. refl) (λ c i its. as_it_was _ c refl refl refl (λ off. off) (λ is. is)) h) h (λ v from to. h)

-- the first of its line has its head
pub record IsFirst (k : Conn) (e : Exchange) (es : List Exchange) (ks : List Conn) : Type 0 where
  pub place : Conn
  pub there : IsIn place ks
  pub number : place.number ≡ k.number
  pub first : first_of place.line ≡ Some e.number
  pub alone : (j : Conn) → IsIn j ks → IsIn e.number j.line → j.number ≡ k.number
  pub headed : (x : Exchange) → IsIn x es → x.number ≡ e.number → is_headed x ≡ true
  pub asker : (x : Exchange) (n : ℕ) → IsIn x es → x.number ≡ e.number → x.asker ≡ Some n → e.asker ≡ Some n

pub finish-owned : {ask : Option ℕ} {At : Type 0} (k : Conn) (e : Exchange) (a : Answer) (s : State) → At → ((m : ℕ) → ask ≡ Some m → m ≡ e.number) → IsFirst k e s.exchanges s.conns → Holds (Owned (some_but ask None) At) s → Holds (Owned none_but At) (finish k e a s)
unfolding finish pour end_exchange on_conn
finish-owned {ask} {At} k e a s at only f h = when (may_go_on e a.head) quiet (close_this-owned k.number _ at quiet)
  where
    t : State
    t = skip_body e (pour e finished s)

    poured_h : Holds (Owned (some_but ask (Some k.number)) At) (pour e finished s)
    poured_h = on_client_of-owned e (on_passed with_end) s (passed_number with_end) (λ c i its. passed_kept with_end (λ p is. let both : false ≡ true = sym (or_true p.is_short) ∙ is in absurd (cc both)) c) (set_apart (Some k.number) s h)

    now : Holds (Owned (some_but ask (Some k.number)) At) t
    now = skip_body-owned e _ poured_h

    stays : (t.exchanges ≡ s.exchanges) × (t.conns ≡ s.conns) × (t.instances ≡ s.instances)
    stays = facts_of (skip_stays e s.exchanges s.conns s.instances _ (pour_stays e finished s.exchanges s.conns s.instances s (holds (refl, refl, refl))))

    none : NoneAmid e (view t)
    none = facts_of (skipped_none e _ (poured_none e s))

    there_k : IsIn f.place t.conns
    there_k = subst (λ (ks : List Conn). IsIn f.place ks) (sym stays.1) f.there

    was_ask : (y : Exchange) → IsIn y t.exchanges → IsIn y s.exchanges
    was_ask y i = subst (λ (es : List Exchange). IsIn y es) stays.0 i

    free : AreFree (some_but ask (Some k.number)) (is_exchange e.number) t.clients t.exchanges
    free y c i hit j isnt its = record {
      waited = λ off asks. (let both : true ≡ false = sym (f.headed y (was_ask y i) (same_number y.number e.number hit)) ∙ off in cc both);
      more = λ body amid. none c j (shrunk_for y e c (λ n is. f.asker y n (was_ask y i) (same_number y.number e.number hit) is) its) amid;
    }

    elsewhere : (j : Conn) (b : Answer) → IsIn j t.conns → (Some k.number ≡ Some j.number → ⊥) → j.answer ≡ Some b → first_of j.line ≡ Some e.number → ⊥
    elsewhere j b l isnt is first = isnt (ap (λ n. Some n) (sym (f.alone j (subst (λ (ks : List Conn). IsIn j ks) stays.1 l) (in_first e.number j.line first))))

    over : Holds (Owned (some_but None (Some k.number)) At) (end_exchange e.number t)
    over = over_unasked e.number t only (end_exchange-owned e.number t free elsewhere now)

    -- none that has its head is left in the line
    left : (j : Conn) (y : Exchange) → IsIn j (end_exchange e.number t).conns → j.number ≡ k.number → IsIn y (end_exchange e.number t).exchanges → IsIn y.number j.line → is_headed y ≡ true → ⊥
    left j y l number i line headed =
        let r = in_map (without_ask e.number) j t.conns l in
        let g = in_filter (λ z. not (is_exchange e.number z)) y t.exchanges i in
        let in_line : IsIn y.number r.was.line = (in_filter (λ m. not (m == e.number)) y.number r.was.line (subst (λ (z : Conn). IsIn y.number z.line) r.is line)).0 in
        let is : r.was ≡ f.place = (facts_of now).conns r.was f.place r.there there_k (ap (λ (z : Conn). z.number) (sym r.is) ∙ number ∙ sym f.number) in
        let first = ((facts_of now).behind r.was y r.there g.0 in_line headed).0 in
        let same_first : Some y.number ≡ Some e.number = sym first ∙ ap (λ (z : Conn). first_of z.line) is ∙ f.first in
        let eq : y.number ≡ e.number = cc same_first in
        let both : false ≡ true = sym (ap not (ap (λ m. m == e.number) eq ∙ number_same e.number)) ∙ g.1 in
        cc both

    quiet : Holds (Owned none_but At) (on_conn k.number (rested a.head) (end_exchange e.number t))
    quiet = holds (conns_quiet k.number (rested a.head) (λ j. (refl, refl)) (λ j m line. line) (λ j y l number i line headed. left j y l number i line headed) (λ m is. let eq : k.number ≡ m = cc is in sym eq) (facts_of over))
