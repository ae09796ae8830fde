-- What is kept of clients, exchanges and rows: what a client follows is there, an exchange is for a client that goes on, at that very
-- request, and of one without a place nothing was asked.
use Rattle.std.proofs.Common.{◌≡◌, ◌⊎◌, refl, ℕ, ◌<◌, ◌≤◌, Bool, true, false, not, ◌==◌, ◌||◌, List, [], ◌∷◌, map, filter, find, cond, length, Option, Some, None, inl, inr, sym, subst, ap, ◌∙◌, lt_irrefl, Result, Ok, Err, arith}
use Rattle.pp_law.specs.Closing.{close_client, exchanges_of, forsake, is_of, is_over, leave, leave_one, left_alone}
use Rattle.pp_law.specs.Connections.{each_exchange, end_exchange, exchange, is_client, is_conn, is_exchange, on_client, on_conn, on_exchange, put_on, without_ask}
use Rattle.pp_law.specs.Deciding.{add_exchange, begin_exchange}
use Rattle.pp_law.specs.Lists.{Bytes, change, is_some_with, is_this}
use Rattle.pp_law.specs.Phases.{is_free}
use Rattle.pp_law.specs.Requests.{Front, Parsed, IsRequest, NoHead, NoHeadYet, is_asked_once, key_in}
use Rattle.pp_law.specs.Table.{swept}
use Rattle.pp_law.specs.State.{State, Brought, Client, Conn, Exchange, Instance, Owed, Phase, Handling}
use Rattle.pp_head.specs.Request.{Request}
use Rattle.pp_target.specs.Key.{Key, key_at, text_of}
use Rattle.pp_target.specs.declared.target.TargetFault.{TargetFault}
use Rattle.pp_laws.specs.Runs.{IsIn}
use Rattle.pp_laws.proofs.Lists.{Changed, changed_at, in_change, in_filter, in_find, in_map, in_push, other, same}
use Rattle.pp_laws.proofs.Sound.{exchange_number, instance_id, source_in}
use Rattle.pp_laws.proofs.Tests.{number_same, same_number}
use Rattle.pp_laws_bounds.proofs.Counts.{in_filter_of, in_map_of}
use Rattle.pp_laws_turn.proofs.Exchanges.{shorter}
use Rattle.pp_laws_turn.proofs.Keys.{key_short}
use Rattle.pp_laws_turn.proofs.Lined.{AreLined, begun_lined, fewer_lined, lesser_lined, longer, put_lined}
use Rattle.pp_laws_turn.proofs.View.{View, WalkOf, Begins, Follows, Holds, Places, FromRow, Goes, IsAt, IsHeard, Lesser, MovesOn, RowsFromOf, SameAsk, SameClient, facts_of, is_late, joined_in, view}

-- ours: no key has more than 8,192 bytes
abbrev pub IsShort : Bytes → Type 0
IsShort key = length key ≤ 8192

-- its key is that of its request's target, and where any of a body is left, it is asked once
pub record IsOfRequest (e : Exchange) : Type 0 where
  pub key : key_at e.head.target ≡ Ok e.key
  pub once : (e.body_left ≡ 0) ⊎ (is_asked_once e.head ≡ true)

-- a client that goes on is answered from an instance that is there; where new ones may still leave memory, from none of these
pub record Facts (but : Option ℕ) (phase : Phase) (owed : Owed) (clients : List Client) (conns : List Conn) (exchanges : List Exchange) (next_exchange : ℕ) (instances : List Instance) (next_instance : ℕ) : Type 0 where
  pub owes : is_free owed ≡ false → phase ≡ Handling
  pub given : (x : Instance) → IsIn x instances → x.id < next_instance
  pub source : (c : Client) (id : ℕ) → IsIn c clients → c.is_closing ≡ false → source_in c.stage ≡ Some id → IsIn id (map instance_id instances)
  pub news : (c : Client) (x : Instance) → is_late phase ≡ false → IsIn c clients → c.is_closing ≡ false → IsIn x instances → x.is_new ≡ true → source_in c.stage ≡ Some x.id → ⊥
  pub one : (d e : Exchange) (c : ℕ) → IsIn d exchanges → IsIn e exchanges → d.asker ≡ Some c → e.asker ≡ Some c → d.number ≡ e.number
  pub goes : (e : Exchange) (n : ℕ) → IsIn e exchanges → e.asker ≡ Some n → (but ≡ Some n → ⊥) → Goes e n clients
  pub fresh : (e : Exchange) → IsIn e exchanges → e.place ≡ None → e.asked ≡ 0
  pub lined : AreLined conns exchanges next_exchange
  pub bodied : (c : Client) → IsIn c clients → IsHeard c
  pub once : (e : Exchange) → IsIn e exchanges → IsOfRequest e
  pub made : (c : Client) (id : ℕ) → IsIn c clients → joined_in c.brought ≡ Some id → id < next_instance
  pub short : (x : Instance) → IsIn x instances → IsShort x.key

-- but those of this client
abbrev pub TurnBut : Option ℕ → View → Type 0
TurnBut but v = Facts but v.phase v.owed v.clients v.conns v.exchanges v.next_exchange v.instances v.next_instance

abbrev pub Turn : View → Type 0
Turn v = TurnBut None v

-- ---- clients

-- it goes on as it did, whatever its exchange brought
record Still (d c : Client) : Type 0 where
  number : d.number ≡ c.number
  closing : d.is_closing ≡ c.is_closing
  source : (id : ℕ) → source_in d.stage ≡ Some id → source_in c.stage ≡ Some id
  request : (r : Parsed) → c.front ≡ IsRequest r → d.front ≡ IsRequest r
  body : IsHeard c → IsHeard d

goes_over : (f : Client → Client) → ((c : Client) → Still (f c) c) → (e : Exchange) (n : ℕ) (cs : List Client) → Goes e n cs → Goes e n (map f cs)
goes_over f same_one e n cs g =
    let s = same_one g.client in
    record {
      client = f g.client;
      there = in_map_of f g.client cs g.there;
      number = s.number ∙ g.number;
      at = record { going = s.closing ∙ g.at.going; request = g.at.request; front = s.request g.at.request g.at.front; head = g.at.head };
    }

clients_still : (f : Client → Client) → ((c : Client) → Still (f c) c) → (v : View) → ((c : Client) (id : ℕ) → IsIn c v.clients → joined_in (f c).brought ≡ Some id → id < v.next_instance) → Turn v → Turn (record v { clients = map f v.clients })
clients_still f same_one v made h = record {
  owes = h.owes;
  given = h.given;
  source = λ c id i going is. let r = in_map f c v.clients i in let s = same_one r.was in
      h.source r.was id r.there (sym s.closing ∙ ap (λ (x : Client). x.is_closing) (sym r.is) ∙ going) (s.source id (ap (λ (x : Client). source_in x.stage) (sym r.is) ∙ is));
  news = λ c x early i going j new is. let r = in_map f c v.clients i in let s = same_one r.was in
      h.news r.was x early r.there (sym s.closing ∙ ap (λ (y : Client). y.is_closing) (sym r.is) ∙ going) j new (s.source x.id (ap (λ (y : Client). source_in y.stage) (sym r.is) ∙ is));
  one = h.one;
  goes = λ e n i is off. goes_over f same_one e n v.clients (h.goes e n i is off);
  fresh = h.fresh;
  lined = h.lined;
  bodied = λ c i. let r = in_map f c v.clients i in subst IsHeard (sym r.is) ((same_one r.was).body (h.bodied r.was r.there));
  once = h.once;
  made = λ c id i is. let r = in_map f c v.clients i in made r.was id r.there (ap (λ (x : Client). joined_in x.brought) (sym r.is) ∙ is);
  short = h.short;
}

still_so : (d c : Client) → SameClient d c → Still d c
still_so d c s = record { number = s.number; closing = s.closing; source = s.source; request = s.request; body = s.body }

clients_turn : (f : Client → Client) → ((c : Client) → SameClient (f c) c) → (v : View) → Turn v → Turn (record v { clients = map f v.clients })
clients_turn f same_one v h = clients_still f (λ c. still_so (f c) c (same_one c)) v (λ c id i is. h.made c id i ((same_one c).joins id is)) h

-- what the exchange of a request brought is told, into a row that is there
tells_turn : (test : Client → Bool) (b : Brought) (v : View) → ((id : ℕ) → joined_in b ≡ Some id → IsIn id (map instance_id v.instances)) → Turn v → Turn (record v { clients = change test (λ c. record c { brought = b }) v.clients })
tells_turn test b v there h = clients_still (changed_at test told) (λ c. still c (test c)) v (λ c id i is. made c id i (test c) is) h
  where
    told : Client → Client
    told c = record c { brought = b }

    still : (c : Client) (t : Bool) → Still (elim t as (λ d. Client) [ true ↦ told c | false ↦ c ]) c
    still c true = record { number = refl; closing = refl; source = λ id is. is; request = λ r is. is; body = λ b. b }
    still c false = record { number = refl; closing = refl; source = λ id is. is; request = λ r is. is; body = λ b. b }

    made : (c : Client) (id : ℕ) → IsIn c v.clients → (t : Bool) → joined_in (elim t as (λ d. Client) [ true ↦ told c | false ↦ c ]).brought ≡ Some id → id < v.next_instance
    made c id i true is = let r = in_map instance_id id v.instances (there id is) in subst (λ n. n < v.next_instance) (sym r.is) (h.given r.was r.there)
    made c id i false is = h.made c id i is

-- ---- exchanges

once_as : (d e : Exchange) → d.head ≡ e.head → d.key ≡ e.key → (e.body_left ≡ 0 → d.body_left ≡ 0) → IsOfRequest e → IsOfRequest d
once_as d e head key left of = record { key = ap (λ (r : Request). key_at r.target) head ∙ of.key ∙ ap (λ (k : Key). Ok k) (sym key); once = by of.once }
  where
    by : (e.body_left ≡ 0) ⊎ (is_asked_once e.head ≡ true) → (d.body_left ≡ 0) ⊎ (is_asked_once d.head ≡ true)
    by (inl none) = inl (left none)
    by (inr is) = inr (ap is_asked_once head ∙ is)

goes_as : (d e : Exchange) (n : ℕ) (cs : List Client) → d.head ≡ e.head → Goes e n cs → Goes d n cs
goes_as d e n cs head g = record { client = g.client; there = g.there; number = g.number; at = record { going = g.at.going; request = g.at.request; front = g.at.front; head = g.at.head ∙ sym head } }

fresh_as : (d e : Exchange) → SameAsk d e → (e.place ≡ None → e.asked ≡ 0) → d.place ≡ None → d.asked ≡ 0
fresh_as d e s was none = by (s.asked none)
  where
    by : (d.asked ≡ 0) ⊎ ((e.place ≡ None) × (d.asked ≡ e.asked)) → d.asked ≡ 0
    by (inl zero) = zero
    by (inr w) = w.1 ∙ was w.0

asks_turn : (f : Exchange → Exchange) → (v : View) → ((e : Exchange) → IsIn e v.exchanges → SameAsk (f e) e) → Turn v → Turn (record v { exchanges = map f v.exchanges })
asks_turn f v same_one h = record {
  owes = h.owes;
  given = h.given;
  source = h.source;
  news = h.news;
  one = λ d e c i j di ei.
      let p = in_map f d v.exchanges i in
      let r = in_map f e v.exchanges j in
      let sp = same_one p.was p.there in
      let sr = same_one r.was r.there in
      ap exchange_number p.is ∙ sp.number ∙ h.one p.was r.was c p.there r.there (sym sp.asker ∙ ap (λ (x : Exchange). x.asker) (sym p.is) ∙ di) (sym sr.asker ∙ ap (λ (x : Exchange). x.asker) (sym r.is) ∙ ei) ∙ sym (ap exchange_number r.is ∙ sr.number);
  goes = λ e n i is off.
      let r = in_map f e v.exchanges i in
      let s = same_one r.was r.there in
      goes_as e r.was n v.clients (ap (λ (x : Exchange). x.head) r.is ∙ s.head) (h.goes r.was n r.there (sym s.asker ∙ ap (λ (x : Exchange). x.asker) (sym r.is) ∙ is) off);
  fresh = λ e i none.
      let r = in_map f e v.exchanges i in
      ap (λ (x : Exchange). x.asked) r.is ∙ fresh_as (f r.was) r.was (same_one r.was r.there) (h.fresh r.was r.there) (ap (λ (x : Exchange). x.place) (sym r.is) ∙ none);
  lined = fewer_lined v.conns v.exchanges (map f v.exchanges) v.next_exchange (λ e i.
      let r = in_map f e v.exchanges i in
      let s = same_one r.was r.there in
      record { was = r.was; there = r.there; number = ap exchange_number r.is ∙ s.number; head = ap (λ (x : Exchange). x.head) r.is ∙ s.head }) h.lined;
  bodied = h.bodied;
  once = λ e i.
      let r = in_map f e v.exchanges i in
      let s = same_one r.was r.there in
      subst IsOfRequest (sym r.is) (once_as (f r.was) r.was s.head s.key s.body (h.once r.was r.there));
  made = h.made;
  short = h.short;
}

-- ---- connections

-- where their lines are as they have to be
pub with_conns : (but : Option ℕ) (conns : List Conn) (v : View) → AreLined conns v.exchanges v.next_exchange → TurnBut but v → TurnBut but (record v { conns = conns })
with_conns but conns v lined h = record { owes = h.owes; given = h.given; source = h.source; news = h.news; one = h.one; goes = h.goes; fresh = h.fresh; lined = lined; bodied = h.bodied; once = h.once; made = h.made; short = h.short }

conns_turn : (but : Option ℕ) (f : Conn → Conn) → ((k : Conn) → Lesser (f k) k) → (v : View) → TurnBut but v → TurnBut but (record v { conns = map f v.conns })
conns_turn but f lesser v h = with_conns but (map f v.conns) v (lesser_lined f v.conns v.exchanges v.next_exchange lesser h.lined) h

-- ---- fewer exchanges

-- fewer, or those that are nobody's
record FromAsk (xs : List Exchange) (e : Exchange) : Type 0 where
  was : Exchange
  there : IsIn was xs
  number : e.number ≡ was.number
  asker : (n : ℕ) → e.asker ≡ Some n → was.asker ≡ Some n
  head : e.head ≡ was.head
  key : e.key ≡ was.key
  place : e.place ≡ was.place
  asked : e.asked ≡ was.asked
  body : was.body_left ≡ 0 → e.body_left ≡ 0

fewer_turn : (but : Option ℕ) (v : View) (ys : List Exchange) → ((e : Exchange) → IsIn e ys → FromAsk v.exchanges e) → TurnBut but v → TurnBut but (record v { exchanges = ys })
fewer_turn but v ys from h = record {
  owes = h.owes;
  given = h.given;
  source = h.source;
  news = h.news;
  one = λ d e c i j di ei. let p = from d i in let r = from e j in p.number ∙ h.one p.was r.was c p.there r.there (p.asker c di) (r.asker c ei) ∙ sym r.number;
  goes = λ e n i is off. let r = from e i in goes_as e r.was n v.clients r.head (h.goes r.was n r.there (r.asker n is) off);
  fresh = λ e i none. let r = from e i in r.asked ∙ h.fresh r.was r.there (sym r.place ∙ none);
  lined = fewer_lined v.conns v.exchanges ys v.next_exchange (λ e i. let r = from e i in record { was = r.was; there = r.there; number = r.number; head = r.head }) h.lined;
  bodied = h.bodied;
  once = λ e i. let r = from e i in once_as e r.was r.head r.key r.body (h.once r.was r.there);
  made = h.made;
  short = h.short;
}

ask_kept : (xs : List Exchange) (e : Exchange) → IsIn e xs → FromAsk xs e
ask_kept xs e i = record { was = e; there = i; number = refl; asker = λ n is. is; head = refl; key = refl; place = refl; asked = refl; body = λ is. is }

left_from : (test : Exchange → Bool) (xs : List Exchange) (e : Exchange) → IsIn e (change test left_alone xs) → FromAsk xs e
left_from test xs e i = by (in_change test left_alone e xs i)
  where
    by : Changed test left_alone xs e → FromAsk xs e
    by (same j isnt) = ask_kept xs e j
    by (other x j hit eq) = record {
      was = x;
      there = j;
      number = ap exchange_number eq;
      asker = λ n is. let both : None ≡ Some n = sym (ap (λ (y : Exchange). y.asker) eq) ∙ is in absurd (cc both);
      head = ap (λ (y : Exchange). y.head) eq;
      key = ap (λ (y : Exchange). y.key) eq;
      place = ap (λ (y : Exchange). y.place) eq;
      asked = ap (λ (y : Exchange). y.asked) eq;
      body = λ is. ap (λ (y : Exchange). y.body_left) eq ∙ is;
    }

over_from : (test : Exchange → Bool) (xs : List Exchange) (e : Exchange) → IsIn e (filter test xs) → FromAsk xs e
over_from test xs e i = ask_kept xs e (in_filter test e xs i).0

left_turn : (but : Option ℕ) (test : Exchange → Bool) (v : View) → TurnBut but v → TurnBut but (record v { exchanges = change test left_alone v.exchanges })
left_turn but test v h = fewer_turn but v (change test left_alone v.exchanges) (left_from test v.exchanges) h

over_turn : (but : Option ℕ) (test : Exchange → Bool) (v : View) → TurnBut but v → TurnBut but (record v { exchanges = filter test v.exchanges })
over_turn but test v h = fewer_turn but v (filter test v.exchanges) (over_from test v.exchanges) h

-- ---- rows

rows_turn : (xs : List Instance) (next : ℕ) (v : View) → RowsFromOf IsShort v xs next → Turn v → Turn (record v { instances = xs; next_instance = next })
rows_turn xs next v from h = record {
  owes = h.owes;
  given = λ x i. given_by x (from.from x i);
  source = λ c id i going is. from.kept id (c, i, going, is) (h.source c id i going is);
  news = λ c x early i going j new is. news_by c x early i going new is (from.from x j);
  one = h.one;
  goes = h.goes;
  fresh = h.fresh;
  lined = h.lined;
  bodied = h.bodied;
  once = h.once;
  made = λ c id i is. let lt : id < v.next_instance = h.made c id i is in let le : v.next_instance ≤ next = from.grows in omega arith;
  short = λ x i. short_by x (from.keys x i);
}
  where
    short_by : (x : Instance) → FromRow v.instances x ⊎ IsShort x.key → IsShort x.key
    short_by x (inl r) = subst IsShort (sym r.is.key) (h.short r.was r.there)
    short_by x (inr short) = short

    given_by : (x : Instance) → FromRow v.instances x ⊎ ((x.id ≡ v.next_instance) × (x.id < next)) → x.id < next
    given_by x (inl r) = let lt : r.was.id < v.next_instance = h.given r.was r.there in let is : x.id ≡ r.was.id = r.is.id in let le : v.next_instance ≤ next = from.grows in omega arith
    given_by x (inr w) = w.1

    below_next : (id : ℕ) (ys : List Instance) → ((y : Instance) → IsIn y ys → y.id < v.next_instance) → IsIn id (map instance_id ys) → id < v.next_instance
    below_next id ys lt i = let r = in_map instance_id id ys i in subst (λ n. n < v.next_instance) (sym r.is) (lt r.was r.there)

    news_by : (c : Client) (x : Instance) → is_late v.phase ≡ false → IsIn c v.clients → c.is_closing ≡ false → x.is_new ≡ true → source_in c.stage ≡ Some x.id → FromRow v.instances x ⊎ ((x.id ≡ v.next_instance) × (x.id < next)) → ⊥
    news_by c x early i going new is (inl r) = h.news c r.was early i going r.there (r.is.is_new new) (is ∙ ap (λ n. Some n) r.is.id)
    news_by c x early i going new is (inr w) = let lt : x.id < v.next_instance = below_next x.id v.instances h.given (h.source c x.id i going is) in lt_irrefl v.next_instance (subst (λ n. n < v.next_instance) w.0 lt)

-- ---- a request leaves its exchange

-- none is for that client
abbrev pub NoneIsOf : ℕ → List Exchange → Type 0
NoneIsOf n es = (e : Exchange) → IsIn e es → e.asker ≡ Some n → ⊥

is_its : (n : ℕ) (o : Option ℕ) → is_this n o ≡ true → o ≡ Some n
is_its n None is = absurd (cc is)
is_its n (Some m) is = ap (λ k. Some k) (same_number m n is)

left_none : (n : ℕ) (es : List Exchange) → NoneIsOf n (change (is_of n) left_alone es)
left_none n es e i is = by (in_change (is_of n) left_alone e es i)
  where
    by : Changed (is_of n) left_alone es e → ⊥
    by (same j isnt) = let both : true ≡ false = sym (ap (is_this n) is ∙ number_same n) ∙ isnt in cc both
    by (other x j hit eq) = let both : None ≡ Some n = sym (ap (λ (y : Exchange). y.asker) eq) ∙ is in cc both

pub differs : (m n : ℕ) → (m ≡ n → ⊥) → (m == n) ≡ false
differs m n isnt = by (m == n) refl
  where
    by : (t : Bool) → (m == n) ≡ t → t ≡ false
    by true is = absurd (isnt (same_number m n is))
    by false is = refl

in_changed_other : (n : ℕ) (f : Client → Client) (c : Client) (cs : List Client) → IsIn c cs → (c.number ≡ n → ⊥) → IsIn c (change (is_client n) f cs)
in_changed_other n f c cs i isnt = subst (λ (d : Client). IsIn d (change (is_client n) f cs)) (ap (λ b. elim b as (λ x. Client) [ true ↦ f c | false ↦ c ]) (differs c.number n isnt)) (in_map_of (changed_at (is_client n) f) c cs i)

-- one client is changed, and its exchanges do not count
record OneClient (n : ℕ) (f : Client → Client) : Type 0 where
  number : (c : Client) → (f c).number ≡ c.number
  body : (c : Client) → IsHeard c → IsHeard (f c)
  source : (c : Client) (id : ℕ) → (f c).is_closing ≡ false → source_in (f c).stage ≡ Some id → (c.is_closing ≡ false) × (source_in c.stage ≡ Some id)
  joins : (c : Client) (id : ℕ) → joined_in (f c).brought ≡ Some id → joined_in c.brought ≡ Some id

bodied_by : (n : ℕ) (f : Client → Client) → ((c : Client) → IsHeard c → IsHeard (f c)) → (c : Client) (cs : List Client) → ((d : Client) → IsIn d cs → IsHeard d) → Changed (is_client n) f cs c → IsHeard c
bodied_by n f body c cs bodied (same i isnt) = bodied c i
bodied_by n f body c cs bodied (other d i hit eq) = subst IsHeard (sym eq) (body d (bodied d i))

made_by : (n : ℕ) (f : Client → Client) → ((c : Client) (id : ℕ) → joined_in (f c).brought ≡ Some id → joined_in c.brought ≡ Some id) → (c : Client) (id : ℕ) (cs : List Client) (next : ℕ) → ((d : Client) (k : ℕ) → IsIn d cs → joined_in d.brought ≡ Some k → k < next)
    → Changed (is_client n) f cs c → joined_in c.brought ≡ Some id → id < next
made_by n f joins c id cs next made (same i isnt) is = made c id i is
made_by n f joins c id cs next made (other d i hit eq) is = made d id i (joins d id (ap (λ (x : Client). joined_in x.brought) (sym eq) ∙ is))

client_turn : (n : ℕ) (f : Client → Client) → OneClient n f → (v : View) → Turn v → TurnBut (Some n) (record v { clients = change (is_client n) f v.clients })
client_turn n f o v h = record {
  owes = h.owes;
  given = h.given;
  source = λ c id i going is. let w = was c id (in_change (is_client n) f c v.clients i) going is in h.source w.0 id w.1 w.2 w.3;
  news = λ c x early i going j new is. let w = was c x.id (in_change (is_client n) f c v.clients i) going is in h.news w.0 x early w.1 w.2 j new w.3;
  one = h.one;
  goes = λ e m i is off. let g = h.goes e m i is (λ none. cc none) in record {
    client = g.client;
    there = in_changed_other n f g.client v.clients g.there (λ eq. off (ap (λ k. Some k) (sym eq ∙ g.number)));
    number = g.number;
    at = g.at;
  };
  fresh = h.fresh;
  lined = h.lined;
  bodied = λ c i. bodied_by n f o.body c v.clients h.bodied (in_change (is_client n) f c v.clients i);
  once = h.once;
  made = λ c id i is. made_by n f o.joins c id v.clients v.next_instance h.made (in_change (is_client n) f c v.clients i) is;
  short = h.short;
}
  where
    was : (c : Client) (id : ℕ) → Changed (is_client n) f v.clients c → c.is_closing ≡ false → source_in c.stage ≡ Some id → (d : Client) × IsIn d v.clients × (d.is_closing ≡ false) × (source_in d.stage ≡ Some id)
    was c id (same i isnt) going is = (c, i, going, is)
    was c id (other d i hit eq) going is = let w = o.source d id (ap (λ (x : Client). x.is_closing) (sym eq) ∙ going) (ap (λ (x : Client). source_in x.stage) (sym eq) ∙ is) in (d, i, w.0, w.1)

-- where none is its, all count
all_count : (n : ℕ) (v : View) → NoneIsOf n v.exchanges → TurnBut (Some n) v → Turn v
all_count n v none h = record {
  owes = h.owes;
  given = h.given;
  source = h.source;
  news = h.news;
  one = h.one;
  goes = λ e m i is off. h.goes e m i is (λ eq. none e i (is ∙ sym eq));
  fresh = h.fresh;
  lined = h.lined;
  bodied = h.bodied;
  once = h.once;
  made = h.made;
  short = h.short;
}

leaves_turn : (n : ℕ) (f : Client → Client) → ((c : Client) → MovesOn (f c) c) → (v : View) → Turn v → Turn (record v { clients = change (is_client n) f v.clients; exchanges = change (is_of n) left_alone v.exchanges })
leaves_turn n f moves v h =
    all_count n (record v { clients = change (is_client n) f v.clients; exchanges = change (is_of n) left_alone v.exchanges }) (left_none n v.exchanges)
    (left_turn (Some n) (is_of n) (record v { clients = change (is_client n) f v.clients }) (client_turn n f one v h))
  where
    one : OneClient n f
    one = record { number = λ c. (moves c).number; body = λ c b. (moves c).body; joins = λ c id is. let both : None ≡ Some id = sym (moves c).joins ∙ is in absurd (cc both); source = λ c id going is. let both : None ≡ Some id = sym (moves c).source ∙ is in absurd (cc both) }

-- ---- a client is closed

-- of those numbers alone one may be for it
abbrev pub AreOf : ℕ → List ℕ → State → Type 0
AreOf n ns s = (e : Exchange) → IsIn e s.exchanges → e.asker ≡ Some n → IsIn e.number ns

not_it : (m : ℕ) (ns : List ℕ) (k : ℕ) → (k == m) ≡ false → IsIn k (m ∷ ns) → IsIn k ns
not_it m ns k isnt (inl e) = let both : true ≡ false = sym (number_same m) ∙ ap (λ x. x == m) (sym e) ∙ isnt in absurd (cc both)
not_it m ns k isnt (inr i) = i

one_left : (n m : ℕ) (ns : List ℕ) (e : Exchange) (s : State) → e.number ≡ m → AreOf n (m ∷ ns) s → AreOf n ns (leave_one e s)
unfolding leave_one end_exchange on_exchange
one_left n m ns e s number are = by (e.asked == 0)
  where
    apart : (d : Exchange) → (d.number == e.number) ≡ false → IsIn d.number (m ∷ ns) → IsIn d.number ns
    apart d isnt i = not_it m ns d.number (ap (λ x. d.number == x) (sym number) ∙ isnt) i

    not_so : (t : Bool) → not t ≡ true → t ≡ false
    not_so true is = absurd (cc is)
    not_so false is = refl

    changed_by : (d : Exchange) → Changed (is_exchange e.number) left_alone s.exchanges d → d.asker ≡ Some n → IsIn d.number ns
    changed_by d (same i isnt) is = apart d isnt (are d i is)
    changed_by d (other x i hit eq) is = let both : None ≡ Some n = sym (ap (λ (y : Exchange). y.asker) eq) ∙ is in absurd (cc both)

    by : (t : Bool) → AreOf n ns (elim t as (λ c. State) [ true ↦ end_exchange e.number s | false ↦ on_exchange e.number left_alone s ])
    by true d i is = let w = in_filter (λ x. not (is_exchange e.number x)) d s.exchanges i in apart d (not_so (is_exchange e.number d) w.1) (are d w.0 is)
    by false d i is = changed_by d (in_change (is_exchange e.number) left_alone d s.exchanges i) is

not_found : (m : ℕ) (es : List Exchange) (d : Exchange) → find (is_exchange m) es ≡ None → IsIn d es → (d.number == m) ≡ false
not_found m [] d none i = absurd i
not_found m (e ∷ es) d none i = by (is_exchange m e) refl none i (λ rest j. not_found m es d rest j)
  where
    by : (t : Bool) → is_exchange m e ≡ t → cond t (Some e) (find (is_exchange m) es) ≡ None → (d ≡ e) ⊎ IsIn d es → (find (is_exchange m) es ≡ None → IsIn d es → (d.number == m) ≡ false) → (d.number == m) ≡ false
    by true is rest j more = absurd (cc rest)
    by false is rest (inl eq) more = ap (is_exchange m) eq ∙ is
    by false is rest (inr j) more = more rest j

each_left : (n : ℕ) (ns : List ℕ) (s : State) → AreOf n ns s → AreOf n [] (each_exchange leave_one ns s)
unfolding each_exchange
each_left n [] s are = are
each_left n (m ∷ ns) s are = each_left n ns _ (by (exchange s m) refl)
  where
    by : (o : Option Exchange) → exchange s m ≡ o → AreOf n ns (elim o as (λ c. State) [ None ↦ s | Some e ↦ leave_one e s ])
    by None none = λ d i is. not_it m ns d.number (not_found m s.exchanges d none i) (are d i is)
    by (Some e) found = one_left n m ns e s (same_number e.number m (in_find (is_exchange m) e s.exchanges found).1) are

numbered : (n : ℕ) (es : List Exchange) (d : Exchange) → IsIn d es → d.asker ≡ Some n → IsIn d.number (map exchange_number (filter (is_of n) es))
numbered n es d i is = in_map_of exchange_number d (filter (is_of n) es) (in_filter_of (is_of n) d es i (ap (is_this n) is ∙ number_same n))

left_one : (n : ℕ) (e : Exchange) (s : State) → TurnBut (Some n) (view s) → TurnBut (Some n) (view (leave_one e s))
unfolding leave_one end_exchange on_exchange
left_one n e s h = by (e.asked == 0)
  where
    by : (t : Bool) → TurnBut (Some n) (view (elim t as (λ c. State) [ true ↦ end_exchange e.number s | false ↦ on_exchange e.number left_alone s ]))
    by true =
        conns_turn (Some n) (without_ask e.number) (shorter e.number) (record (view s) { exchanges = filter (λ d. not (is_exchange e.number d)) s.exchanges })
        (over_turn (Some n) (λ d. not (is_exchange e.number d)) (view s) h)
    by false = left_turn (Some n) (is_exchange e.number) (view s) h

all_left : (n : ℕ) (ns : List ℕ) (s : State) → TurnBut (Some n) (view s) → TurnBut (Some n) (view (each_exchange leave_one ns s))
unfolding each_exchange
all_left n [] s h = h
all_left n (m ∷ ns) s h = all_left n ns _ (by (exchange s m))
  where
    by : (o : Option Exchange) → TurnBut (Some n) (view (elim o as (λ c. State) [ None ↦ s | Some e ↦ leave_one e s ]))
    by None = h
    by (Some e) = left_one n e s h

closes_turn : (n : ℕ) (f : Client → Client) → ((c : Client) → (f c).number ≡ c.number) → ((c : Client) → (f c).is_closing ≡ true) → ((c : Client) → IsHeard c → IsHeard (f c)) → ((c : Client) → (f c).brought ≡ c.brought) → (s : State) → Turn (view s) → Turn (view (each_exchange leave_one (exchanges_of n s) (on_client n f s)))
unfolding on_client
closes_turn n f number closing body brought s h =
    all_count n (view (each_exchange leave_one (exchanges_of n s) (on_client n f s))) (λ e i is. each_left n (exchanges_of n s) (on_client n f s) (λ d j its. numbered n s.exchanges d j its) e i is)
    (all_left n (exchanges_of n s) (on_client n f s) (client_turn n f one (view s) h))
  where
    one : OneClient n f
    one = record { number = number; body = body; joins = λ c id is. sym (ap joined_in (brought c)) ∙ is; source = λ c id going is. let both : true ≡ false = sym (closing c) ∙ going in absurd (cc both) }

all_numbered : (n : ℕ) (is_cut : Bool) (s : State) → AreOf n (exchanges_of n s) (on_client n (λ c. record c { is_closing = true; is_cut = c.is_cut || is_cut }) s)
unfolding on_client
all_numbered n is_cut s d i is = numbered n s.exchanges d i is

-- it has none
pub closed_alone : (n : ℕ) (is_cut : Bool) (s : State) → AreOf n [] (close_client n is_cut s)
unfolding close_client swept
closed_alone n is_cut s = each_left n (exchanges_of n s) _ (all_numbered n is_cut s)

-- ---- the key of a request

pub named_short : (c : Client) → IsHeard c → (key : Key) → key_in c.front ≡ Some key → IsShort (text_of key)
named_short c heard key is = by c.front refl is
  where
    of : (r : Parsed) (k : Result Key TargetFault) → c.front ≡ IsRequest r → r.key ≡ k → (elim k as (λ t. Option Key) [ Ok x ↦ Some x | Err fault ↦ None ]) ≡ Some key → IsShort (text_of key)
    of r (Ok x) front keyed at = let same_key : x ≡ key = cc at in subst (λ (y : Key). IsShort (text_of y)) same_key (key_short r.head.target x (sym (heard r front).key ∙ keyed))
    of r (Err fault) front keyed at = absurd (cc at)

    by : (front : Front) → c.front ≡ front → key_in front ≡ Some key → IsShort (text_of key)
    by NoHeadYet front at = absurd (cc at)
    by (NoHead status) front at = absurd (cc at)
    by (IsRequest r) front at = of r r.key front refl at

-- ---- all

pub turn_walk : WalkOf IsShort Turn
turn_walk = record {
  clients = clients_turn;
  asks = asks_turn;
  left = left_turn None;
  over = over_turn None;
  conns = conns_turn None;
  rows = rows_turn;
  leaves = leaves_turn;
  closes = closes_turn;
  tells = tells_turn;
}

-- ---- an exchange gets a place

pub turn_lined : (s : State) → Holds Turn s → AreLined s.conns s.exchanges s.next_exchange
turn_lined s h = (facts_of h).lined

pub turn_places : Places Turn
unfolding put_on on_conn on_exchange
turn_places n k s takes h =
    asks_turn (changed_at (is_exchange n) (λ e. record e { place = Some k; asked = 0 })) (record (view s) { conns = put }) (λ e i. by e (is_exchange n e))
    (with_conns None put (view s) (put_lined n k s.conns s.exchanges s.next_exchange takes h.lined) h)
  where
    put : List Conn
    put = map (changed_at (is_conn k) (longer n)) s.conns

    by : (e : Exchange) (t : Bool) → SameAsk (elim t as (λ c. Exchange) [ true ↦ record e { place = Some k; asked = 0 } | false ↦ e ]) e
    by e true = record { number = refl; asker = refl; key = refl; head = refl; asked = λ none. inl refl; body = λ is. is }
    by e false = record { number = refl; asker = refl; key = refl; head = refl; asked = λ none. inr (none, refl); body = λ is. is }

-- ---- one begins

pub turn_begins : Begins Turn
unfolding begin_exchange add_exchange leave forsake
turn_begins e s is_new h = record {
  owes = h.owes;
  given = h.given;
  source = h.source;
  news = h.news;
  one = λ d f c i j di fi. one_by d f c (in_push d rest e i) (in_push f rest e j) di fi;
  goes = λ d n i is off. goes_by d n (in_push d rest e i) is;
  fresh = λ d i none. fresh_by d (in_push d rest e i) none;
  lined = begun_lined e s.conns rest s.next_exchange is_new.number less.lined;
  bodied = h.bodied;
  once = λ d i. once_by d (in_push d rest e i);
  made = h.made;
  short = h.short;
}
  where
    test : Exchange → Bool
    test x = is_some_with (λ n. is_of n x) e.asker

    rest : List Exchange
    rest = filter (λ d. not (is_over d)) (change test left_alone s.exchanges)

    less : Turn (record (view s) { exchanges = rest })
    less = over_turn None (λ d. not (is_over d)) (record (view s) { exchanges = change test left_alone s.exchanges }) (left_turn None test (view s) h)

    -- no other is for that request
    none_left : (d : Exchange) → IsIn d rest → d.asker ≡ Some is_new.asker → ⊥
    none_left d i is = by (in_change test left_alone d s.exchanges (in_filter (λ x. not (is_over x)) d (change test left_alone s.exchanges) i).0)
      where
        its : test d ≡ true
        its = ap (is_some_with (λ n. is_of n d)) is_new.is ∙ ap (is_this is_new.asker) is ∙ number_same is_new.asker

        by : Changed test left_alone s.exchanges d → ⊥
        by (same j isnt) = let both : true ≡ false = sym its ∙ isnt in cc both
        by (other x j hit eq) = let both : None ≡ Some is_new.asker = sym (ap (λ (y : Exchange). y.asker) eq) ∙ is in cc both

    same_in : {c k : ℕ} → Some c ≡ Some k → c ≡ k
    same_in e = cc e

    its_asker : (d : Exchange) (c : ℕ) → d ≡ e → d.asker ≡ Some c → c ≡ is_new.asker
    its_asker d c eq is = same_in (sym is ∙ ap (λ (x : Exchange). x.asker) eq ∙ is_new.is)

    one_by : (d f : Exchange) (c : ℕ) → IsIn d rest ⊎ (d ≡ e) → IsIn f rest ⊎ (f ≡ e) → d.asker ≡ Some c → f.asker ≡ Some c → d.number ≡ f.number
    one_by d f c (inl i) (inl j) di fi = less.one d f c i j di fi
    one_by d f c (inl i) (inr eq) di fi = absurd (none_left d i (di ∙ ap (λ n. Some n) (its_asker f c eq fi)))
    one_by d f c (inr eq) (inl j) di fi = absurd (none_left f j (fi ∙ ap (λ n. Some n) (its_asker d c eq di)))
    one_by d f c (inr eq) (inr eq2) di fi = ap exchange_number (eq ∙ sym eq2)

    goes_by : (d : Exchange) (n : ℕ) → IsIn d rest ⊎ (d ≡ e) → d.asker ≡ Some n → Goes d n s.clients
    goes_by d n (inl i) is = less.goes d n i is (λ none. cc none)
    goes_by d n (inr eq) is = subst (λ m. Goes d m s.clients) (sym (its_asker d n eq is)) (goes_as d e is_new.asker s.clients (ap (λ (x : Exchange). x.head) eq) is_new.goes)

    once_by : (d : Exchange) → IsIn d rest ⊎ (d ≡ e) → IsOfRequest d
    once_by d (inl i) = less.once d i
    once_by d (inr eq) = subst IsOfRequest (sym eq) (record { key = is_new.key h.bodied; once = is_new.body })

    fresh_by : (d : Exchange) → IsIn d rest ⊎ (d ≡ e) → d.place ≡ None → d.asked ≡ 0
    fresh_by d (inl i) none = less.fresh d i none
    fresh_by d (inr eq) none = ap (λ (x : Exchange). x.asked) eq ∙ is_new.asked

-- ---- a client follows a row

pub turn_follows : Follows Turn
turn_follows n id f request source v late there h = record {
  owes = h.owes;
  given = h.given;
  source = λ c k i going is. source_by c k (in_change (is_client n) f c v.clients i) going is;
  news = λ c x early i going j new is. let both : true ≡ false = sym late ∙ early in cc both;
  one = h.one;
  goes = λ e m i is off. goes_on e m (h.goes e m i is off);
  fresh = h.fresh;
  lined = h.lined;
  bodied = λ c i. bodied_by n f (λ d. (request d).body) c v.clients h.bodied (in_change (is_client n) f c v.clients i);
  once = h.once;
  made = λ c k i is. made_by n f (λ d. (request d).joins) c k v.clients v.next_instance h.made (in_change (is_client n) f c v.clients i) is;
  short = h.short;
}
  where
    source_by : (c : Client) (k : ℕ) → Changed (is_client n) f v.clients c → c.is_closing ≡ false → source_in c.stage ≡ Some k → IsIn k (map instance_id v.instances)
    source_by c k (same i isnt) going is = h.source c k i going is
    source_by c k (other d i hit eq) going is = subst (λ m. IsIn m (map instance_id v.instances)) (sym (source d k (ap (λ (x : Client). source_in x.stage) (sym eq) ∙ is))) there

    goes_on : (e : Exchange) (m : ℕ) → Goes e m v.clients → Goes e m (change (is_client n) f v.clients)
    goes_on e m g = record {
      client = changed_at (is_client n) f g.client;
      there = in_map_of (changed_at (is_client n) f) g.client v.clients g.there;
      number = number_by (is_client n g.client);
      at = at_by (is_client n g.client);
    }
      where
        number_by : (t : Bool) → (elim t as (λ c. Client) [ true ↦ f g.client | false ↦ g.client ]).number ≡ m
        number_by true = (request g.client).number ∙ g.number
        number_by false = g.number

        at_by : (t : Bool) → IsAt e (elim t as (λ c. Client) [ true ↦ f g.client | false ↦ g.client ])
        at_by true = record { going = (request g.client).closing ∙ g.at.going; request = g.at.request; front = (request g.client).request g.at.request g.at.front; head = g.at.head }
        at_by false = g.at
