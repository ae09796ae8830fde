-- Whoever waits for an exchange has it, and an answer that is under way has its exchange: what is kept.
use Rattle.std.proofs.Common.{◌≡◌, ◌⊎◌, refl, ℕ, ◌<◌, ◌==◌, Bool, true, false, not, ◌||◌, List, map, filter, length, is_some, Option, Some, None, inl, inr, sym, subst, ap, ◌∙◌}
use Rattle.pp_valid.specs.declared.version.Version.{Version}
use Rattle.pp_law.specs.Closing.{left_alone}
use Rattle.pp_law.specs.Connections.{is_for, is_trying}
use Rattle.pp_law.specs.Due.{is_told}
use Rattle.pp_law.specs.Lists.{change, is_some_with, is_this}
use Rattle.pp_law.specs.Stages.{filled_of, is_begun, is_headed, is_through, passed_of}
use Rattle.pp_law.specs.State.{Aim, Through, Own, Filling, Answer, Relaying, Brought, Client, Conn, Exchange, Stage, Undecided, Waiting, Passing, Answering}
use Rattle.pp_laws.specs.Runs.{IsIn}
use Rattle.pp_laws.proofs.Lists.{Changed, From, changed_at, in_change, in_filter, in_map, other, same}
use Rattle.pp_laws.proofs.Sound.{first_of}
use Rattle.pp_laws.proofs.Tests.{number_same, same_number}
use Rattle.pp_laws_bounds.proofs.Counts.{in_filter_of, in_map_of}
use Rattle.pp_laws_coming.specs.Coming.{is_waiting}
use Rattle.pp_laws_coming.proofs.Facts.{AreApart}
use Rattle.pp_laws_served.specs.Served.{is_unanswered}
use Rattle.pp_laws_turn.proofs.View.{KeepsRows, View}
use Rattle.pp_laws_left.proofs.Keep.{begun_in, passed_in}

-- ---- who waits

-- of what is passed to it more is to come, by its exchange
abbrev pub is_coming_in : Brought → Bool
is_coming_in b = is_some_with (λ p. not (p.is_short || p.pipe.is_finished)) (passed_in b)

abbrev pub unanswered_in : Stage → Brought → Bool
unanswered_in g b = elim g as (λ x. Bool) [ Undecided ↦ false | Waiting ↦ not (is_told b) | Passing ↦ not (is_some (passed_in b)) | Answering r ↦ false ]

-- the exchange that a request waits for
abbrev pub answers_as : Stage → Aim → Bool
answers_as Waiting Own = true
answers_as Passing Through = true
answers_as stage aim = false

abbrev pub filled_in : Aim → Option Version
filled_in a = elim a as (λ x. Option Version) [ Through ↦ None | Own ↦ None | Filling v from to ↦ Some v ]

pub record Asks (c : Client) : Type 0 where
  pub going : c.is_closing ≡ false
  pub tries : is_trying c.course ≡ true
  pub unanswered : is_unanswered c ≡ true

pub record Amid (c : Client) : Type 0 where
  pub going : c.is_closing ≡ false
  pub tries : is_trying c.course ≡ true
  pub more : is_coming_in c.brought ≡ true

pub record Pending (es : List Exchange) (c : Client) : Type 0 where
  pub ask : Exchange
  pub there : IsIn ask es
  pub its : is_for ask c ≡ true
  pub unheaded : is_headed ask ≡ false
  pub kind : answers_as c.stage ask.aim ≡ true

pub record Relays (es : List Exchange) (c : Client) : Type 0 where
  pub ask : Exchange
  pub there : IsIn ask es
  pub its : is_for ask c ≡ true
  pub body : ask.body ≡ Relaying

-- ---- what holds

-- one without a place has no head, and nothing of it was asked where it has one
pub record Plain (e : Exchange) : Type 0 where
  pub bare : e.place ≡ None → is_headed e ≡ false
  pub spelled : 0 < length e.text
  pub asked : is_headed e ≡ true → (e.asked == 0) ≡ false
  -- and one that is to ask for more of a body is passed
  pub through : (e.body_left == 0) ≡ false → is_through e ≡ true

-- of one that fills a hole, and its client
pub record Fills (but : Option ℕ) (At : Type 0) (e : Exchange) (c : Client) : Type 0 where
  pub untold : is_headed e ≡ false → passed_of c ≡ None
  pub calm : At → is_begun c ≡ false → (but ≡ Some e.number → ⊥) → passed_of c ≡ None

-- the first of the line has its head
pub record Answered (es : List Exchange) (k : Conn) : Type 0 where
  pub number : ℕ
  pub first : first_of k.line ≡ Some number
  pub headed : (e : Exchange) → IsIn e es → e.number ≡ number → is_headed e ≡ true

-- one exchange, one connection and one client may stand apart
pub record But : Type 0 where
  pub ask : Option ℕ
  pub conn : Option ℕ
  pub client : Option ℕ

abbrev pub none_but : But
none_but = record { ask = None; conn = None; client = None }

pub record Facts (but : But) (At : Type 0) (cs : List Client) (es : List Exchange) (ks : List Conn) (next : ℕ) : Type 0 where
  pub callers : (c d : Client) → IsIn c cs → IsIn d cs → c.number ≡ d.number → c ≡ d
  pub apart : AreApart es
  pub given : (e : Exchange) → IsIn e es → e.number < next
  pub one : (d e : Exchange) (n : ℕ) → IsIn d es → IsIn e es → d.asker ≡ Some n → e.asker ≡ Some n → d.number ≡ e.number
  pub plain : (e : Exchange) → IsIn e es → Plain e
  pub fills : (e : Exchange) (c : Client) → IsIn e es → IsIn c cs → is_for e c ≡ true → is_some (filled_of e) ≡ true → (but.client ≡ Some c.number → ⊥) → Fills but.ask At e c
  -- and whoever waits has that which it waits for
  pub kinds : (e : Exchange) (c : Client) → IsIn e es → IsIn c cs → is_for e c ≡ true → (but.client ≡ Some c.number → ⊥) → is_waiting c.stage ≡ true → answers_as c.stage e.aim ≡ true
  pub asks : (c : Client) → IsIn c cs → (but.client ≡ Some c.number → ⊥) → Asks c → Pending es c
  pub amid : (c : Client) → IsIn c cs → (but.client ≡ Some c.number → ⊥) → Amid c → Relays es c
  pub lined : (k : Conn) (m : ℕ) → IsIn k ks → IsIn m k.line → m < next
  pub conns : (j k : Conn) → IsIn j ks → IsIn k ks → j.number ≡ k.number → j ≡ k
  -- one stands in one line, and has a place there
  pub own : (j k : Conn) (e : Exchange) → IsIn j ks → IsIn k ks → IsIn e es → IsIn e.number j.line → IsIn e.number k.line → j.number ≡ k.number
  pub placed : (k : Conn) (e : Exchange) → IsIn k ks → IsIn e es → IsIn e.number k.line → e.place ≡ None → ⊥
  pub front : (k : Conn) (a : Answer) → IsIn k ks → (but.conn ≡ Some k.number → ⊥) → k.answer ≡ Some a → Answered es k
  pub behind : (k : Conn) (e : Exchange) → IsIn k ks → IsIn e es → IsIn e.number k.line → is_headed e ≡ true → (first_of k.line ≡ Some e.number) × (k.answer ≡ None → ⊥)

abbrev pub Owned : But → Type 0 → View → Type 0
Owned but At v = Facts but At v.clients v.exchanges v.conns v.next_exchange

-- it says nothing of rows
pub rows : (but : But) (At : Type 0) → KeepsRows (Owned but At)
rows but At xs next v from h = h

-- ---- whose an exchange is

pub asker_of : (n : ℕ) (o : Option ℕ) → is_this n o ≡ true → o ≡ Some n
asker_of n None is = absurd (cc is)
asker_of n (Some m) is = ap (λ k. Some k) (same_number m n is)

pub for_asker : (e : Exchange) (c : Client) → e.asker ≡ Some c.number → is_for e c ≡ true
for_asker e c is = ap (is_this c.number) is ∙ number_same c.number

pub shrunk_for : (d e : Exchange) (c : Client) → ((n : ℕ) → d.asker ≡ Some n → e.asker ≡ Some n) → is_for d c ≡ true → is_for e c ≡ true
shrunk_for d e c asker its = for_asker e c (asker c.number (asker_of c.number d.asker its))

renumbered : (e : Exchange) (c d : Client) → d.number ≡ c.number → is_for e d ≡ true → is_for e c ≡ true
renumbered e c d number its = ap (λ n. is_this n e.asker) (sym number) ∙ its

-- ---- clients

pub record KeptClient (d c : Client) : Type 0 where
  pub number : d.number ≡ c.number
  pub asks : Asks d → Asks c
  pub amid : Amid d → Amid c
  pub stage : is_waiting d.stage ≡ true → d.stage ≡ c.stage
  pub none : passed_of c ≡ None → passed_of d ≡ None
  pub begun : is_begun d ≡ false → (is_begun c ≡ false) ⊎ (passed_of d ≡ None)

pub as_it_was : (d c : Client) → d.number ≡ c.number → d.stage ≡ c.stage → d.brought ≡ c.brought → (d.is_closing ≡ false → c.is_closing ≡ false) → (is_trying d.course ≡ true → is_trying c.course ≡ true) → KeptClient d c
as_it_was d c number stage brought going tries = record {
  number = number;
  asks = λ a. record { going = going a.going; tries = tries a.tries; unanswered = sym (ap (λ g. unanswered_in g d.brought) stage ∙ ap (λ b. unanswered_in c.stage b) brought) ∙ a.unanswered };
  amid = λ a. record { going = going a.going; tries = tries a.tries; more = ap is_coming_in (sym brought) ∙ a.more };
  stage = λ is. stage;
  none = λ none. ap passed_in brought ∙ none;
  begun = λ off. inl (ap begun_in (sym stage) ∙ off);
}

pub kept_same : (c : Client) → KeptClient c c
kept_same c = record { number = refl; asks = λ a. a; amid = λ a. a; stage = λ is. refl; none = λ none. none; begun = λ off. inl off }

pub kept_if : (f : Client → Client) (c : Client) (t : Bool) → (t ≡ true → KeptClient (f c) c) → KeptClient (elim t as (λ x. Client) [ true ↦ f c | false ↦ c ]) c
kept_if f c true kept = kept refl
kept_if f c false kept = kept_same c

pub asking_waits : (c : Client) → Asks c → is_waiting c.stage ≡ true
asking_waits c a = by c.stage a.unanswered
  where
    by : (g : Stage) → unanswered_in g c.brought ≡ true → is_waiting g ≡ true
    by Undecided is = absurd (cc is)
    by Waiting is = refl
    by Passing is = refl
    by (Answering r) is = absurd (cc is)

fills_on : (but : Option ℕ) (At : Type 0) (e : Exchange) (d c : Client) → KeptClient d c → Fills but At e c → Fills but At e d
fills_on but At e d c k w = record { untold = λ off. k.none (w.untold off); calm = λ at off isnt. by at isnt (k.begun off) }
  where
    by : At → (but ≡ Some e.number → ⊥) → (is_begun c ≡ false) ⊎ (passed_of d ≡ None) → passed_of d ≡ None
    by at isnt (inl was) = k.none (w.calm at was isnt)
    by at isnt (inr none) = none

-- each was there, as far as this counts; of one that stands apart only its number is
pub clients_kept : {but : But} {At : Type 0} {cs : List Client} {es : List Exchange} {ks : List Conn} {next : ℕ} (f : Client → Client) → ((c : Client) → IsIn c cs → (f c).number ≡ c.number) → ((c : Client) → IsIn c cs → (but.client ≡ Some c.number → ⊥) → KeptClient (f c) c) → Facts but At cs es ks next → Facts but At (map f cs) es ks next
clients_kept {but} {At} {cs} {es} f number kept h = record {
  callers = λ c d i j eq. (let p = in_map f c cs i in let r = in_map f d cs j in
      p.is ∙ ap f (h.callers p.was r.was p.there r.there (sym (number p.was p.there) ∙ ap (λ (x : Client). x.number) (sym p.is) ∙ eq ∙ ap (λ (x : Client). x.number) r.is ∙ number r.was r.there)) ∙ sym r.is);
  apart = h.apart;
  given = h.given;
  one = h.one;
  plain = h.plain;
  fills = λ e d i j its some isnt. (let r = in_map f d cs j in
      let k : KeptClient (f r.was) r.was = kept r.was r.there (λ is. isnt (is ∙ ap (λ n. Some n) (its_number d r))) in
      subst (λ (x : Client). Fills but.ask At e x) (sym r.is) (fills_on but.ask At e (f r.was) r.was k (h.fills e r.was i r.there (renumbered e r.was d (sym (its_number d r)) its) some (λ is. isnt (is ∙ ap (λ n. Some n) (its_number d r))))));
  kinds = λ e d i j its isnt waits. (let r = in_map f d cs j in
      let off : but.client ≡ Some r.was.number → ⊥ = λ is. isnt (is ∙ ap (λ n. Some n) (its_number d r)) in
      let same : d.stage ≡ r.was.stage = ap (λ (x : Client). x.stage) r.is ∙ (kept r.was r.there off).stage (sym (ap (λ (x : Client). is_waiting x.stage) r.is) ∙ waits) in
      ap (λ g. answers_as g e.aim) same ∙ h.kinds e r.was i r.there (renumbered e r.was d (sym (its_number d r)) its) off (sym (ap is_waiting same) ∙ waits));
  asks = λ d j isnt a. (let r = in_map f d cs j in
      let off : but.client ≡ Some r.was.number → ⊥ = λ is. isnt (is ∙ ap (λ n. Some n) (its_number d r)) in
      let k : KeptClient (f r.was) r.was = kept r.was r.there off in
      let b : Asks (f r.was) = subst (λ (x : Client). Asks x) r.is a in
      let p = h.asks r.was r.there off (k.asks b) in
      record { ask = p.ask; there = p.there; its = renumbered p.ask d r.was (its_number d r) p.its; unheaded = p.unheaded; kind = ap (λ g. answers_as g p.ask.aim) (ap (λ (x : Client). x.stage) r.is ∙ k.stage (asking_waits (f r.was) b)) ∙ p.kind });
  amid = λ d j isnt a. (let r = in_map f d cs j in
      let off : but.client ≡ Some r.was.number → ⊥ = λ is. isnt (is ∙ ap (λ n. Some n) (its_number d r)) in
      let k : KeptClient (f r.was) r.was = kept r.was r.there off in
      let p = h.amid r.was r.there off (k.amid (subst (λ (x : Client). Amid x) r.is a)) in
      record { ask = p.ask; there = p.there; its = renumbered p.ask d r.was (its_number d r) p.its; body = p.body });
  lined = h.lined;
  conns = h.conns;
  own = h.own;
  placed = h.placed;
  front = h.front;
  behind = h.behind;
}
  where
    its_number : (d : Client) → (r : From f cs d) → r.was.number ≡ d.number
    its_number d r = sym (number r.was r.there) ∙ ap (λ (x : Client). x.number) (sym r.is)

-- ---- exchanges

pub record FromAsk (ks : List Conn) (es : List Exchange) (x : Exchange) : Type 0 where
  pub was : Exchange
  pub there : IsIn was es
  pub number : x.number ≡ was.number
  pub asker : (n : ℕ) → x.asker ≡ Some n → was.asker ≡ Some n
  pub aim : x.aim ≡ was.aim
  pub headed : is_headed x ≡ is_headed was
  pub place : (k : Conn) → IsIn k ks → IsIn was.number k.line → x.place ≡ None → was.place ≡ None
  pub plain : Plain was → Plain x

-- fewer, and those that are waited for
pub asks_from : {but : But} {At : Type 0} {cs : List Client} {es : List Exchange} {ks : List Conn} {next : ℕ} (ys : List Exchange) → ((x : Exchange) → IsIn x ys → FromAsk ks es x) → AreApart ys
    → ((c : Client) → IsIn c cs → (but.client ≡ Some c.number → ⊥) → Asks c → Pending es c → Pending ys c) → ((c : Client) → IsIn c cs → (but.client ≡ Some c.number → ⊥) → Amid c → Relays es c → Relays ys c)
    → Facts but At cs es ks next → Facts but At cs ys ks next
asks_from {but} {At} {cs} {es} {ks} {next} ys from apart asks amid h = record {
  callers = h.callers;
  apart = apart;
  given = λ x i. (let r = from x i in subst (λ n. n < next) (sym r.number) (h.given r.was r.there));
  one = λ x y n i j di ej. (let p = from x i in let r = from y j in p.number ∙ h.one p.was r.was n p.there r.there (p.asker n di) (r.asker n ej) ∙ sym r.number);
  plain = λ x i. (let r = from x i in r.plain (h.plain r.was r.there));
  fills = λ x c i j its some isnt. (let r = from x i in
      let w = h.fills r.was c r.there j (shrunk_for x r.was c r.asker its) (ap (λ a. is_some (filled_in a)) (sym r.aim) ∙ some) isnt in
      record { untold = λ off. w.untold (sym r.headed ∙ off); calm = λ at off apart_. w.calm at off (λ is. apart_ (is ∙ ap (λ n. Some n) (sym r.number))) });
  kinds = λ x c i j its isnt waits. (let r = from x i in ap (answers_as c.stage) r.aim ∙ h.kinds r.was c r.there j (shrunk_for x r.was c r.asker its) isnt waits);
  asks = λ c j isnt a. asks c j isnt a (h.asks c j isnt a);
  amid = λ c j isnt a. amid c j isnt a (h.amid c j isnt a);
  lined = h.lined;
  conns = h.conns;
  own = λ j k x l m i jl kl. (let r = from x i in h.own j k r.was l m r.there (subst (λ n. IsIn n j.line) r.number jl) (subst (λ n. IsIn n k.line) r.number kl));
  placed = λ k x l i line none. (let r = from x i in let there : IsIn r.was.number k.line = subst (λ n. IsIn n k.line) r.number line in h.placed k r.was l r.there there (r.place k l there none));
  front = λ k a l isnt is. (let w = h.front k a l isnt is in record { number = w.number; first = w.first; headed = λ x i number. (let r = from x i in r.headed ∙ w.headed r.was r.there (sym r.number ∙ number)) });
  behind = λ k x l i line headed. (let r = from x i in
      let w = h.behind k r.was l r.there (subst (λ n. IsIn n k.line) r.number line) (sym r.headed ∙ headed) in
      (w.0 ∙ ap (λ n. Some n) (sym r.number), w.1));
}

pub record KeptAsk (ks : List Conn) (d e : Exchange) : Type 0 where
  pub number : d.number ≡ e.number
  pub asker : d.asker ≡ e.asker
  pub aim : d.aim ≡ e.aim
  pub headed : is_headed d ≡ is_headed e
  pub relays : e.body ≡ Relaying → d.body ≡ Relaying
  pub place : (k : Conn) → IsIn k ks → IsIn e.number k.line → d.place ≡ None → e.place ≡ None
  pub plain : Plain e → Plain d

pub ask_same : {ks : List Conn} (e : Exchange) → KeptAsk ks e e
ask_same e = record { number = refl; asker = refl; aim = refl; headed = refl; relays = λ is. is; place = λ k l line none. none; plain = λ p. p }

pub ask_if : {ks : List Conn} (f : Exchange → Exchange) (e : Exchange) (t : Bool) → (t ≡ true → KeptAsk ks (f e) e) → KeptAsk ks (elim t as (λ x. Exchange) [ true ↦ f e | false ↦ e ]) e
ask_if f e true kept = kept refl
ask_if f e false kept = ask_same e

apart_mapped : (f : Exchange → Exchange) (es : List Exchange) → ((e : Exchange) → IsIn e es → (f e).number ≡ e.number) → AreApart es → AreApart (map f es)
apart_mapped f es number apart d e i j eq =
    let p = in_map f d es i in
    let r = in_map f e es j in
    p.is ∙ ap f (apart p.was r.was p.there r.there (sym (number p.was p.there) ∙ ap (λ (x : Exchange). x.number) (sym p.is) ∙ eq ∙ ap (λ (x : Exchange). x.number) r.is ∙ number r.was r.there)) ∙ sym r.is

pub asks_kept : {but : But} {At : Type 0} {cs : List Client} {es : List Exchange} {ks : List Conn} {next : ℕ} (f : Exchange → Exchange) → ((e : Exchange) → IsIn e es → KeptAsk ks (f e) e) → Facts but At cs es ks next → Facts but At cs (map f es) ks next
asks_kept {but} {At} {cs} {es} {ks} f kept h = asks_from (map f es) from (apart_mapped f es (λ e i. (kept e i).number) h.apart)
    (λ c j isnt a p. let k = kept p.ask p.there in record { ask = f p.ask; there = in_map_of f p.ask es p.there; its = ap (is_this c.number) k.asker ∙ p.its; unheaded = k.headed ∙ p.unheaded; kind = ap (answers_as c.stage) k.aim ∙ p.kind })
    (λ c j isnt a p. let k = kept p.ask p.there in record { ask = f p.ask; there = in_map_of f p.ask es p.there; its = ap (is_this c.number) k.asker ∙ p.its; body = k.relays p.body }) h
  where
    from : (x : Exchange) → IsIn x (map f es) → FromAsk ks es x
    from x i =
        let r = in_map f x es i in
        let k = kept r.was r.there in
        record {
          was = r.was;
          there = r.there;
          number = ap (λ (y : Exchange). y.number) r.is ∙ k.number;
          asker = λ n is. sym k.asker ∙ ap (λ (y : Exchange). y.asker) (sym r.is) ∙ is;
          aim = ap (λ (y : Exchange). y.aim) r.is ∙ k.aim;
          headed = ap (λ (y : Exchange). is_headed y) r.is ∙ k.headed;
          place = λ g l line none. k.place g l line (ap (λ (y : Exchange). y.place) (sym r.is) ∙ none);
          plain = λ p. subst (λ (y : Exchange). Plain y) (sym r.is) (k.plain p);
        }

-- its client does not wait for it
pub record Free (e : Exchange) (c : Client) : Type 0 where
  pub waited : is_headed e ≡ false → Asks c → ⊥
  pub more : e.body ≡ Relaying → Amid c → ⊥

abbrev pub AreFree : But → (Exchange → Bool) → List Client → List Exchange → Type 0
AreFree but test cs es = (e : Exchange) (c : Client) → IsIn e es → test e ≡ true → IsIn c cs → (but.client ≡ Some c.number → ⊥) → is_for e c ≡ true → Free e c

pub no_test : (t : Bool) → (t ≡ true → ⊥) → t ≡ false
no_test true none = absurd (none refl)
no_test false none = refl

pub asks_left : {but : But} {At : Type 0} {cs : List Client} {es : List Exchange} {ks : List Conn} {next : ℕ} (test : Exchange → Bool) → AreFree but test cs es → Facts but At cs es ks next → Facts but At cs (change test left_alone es) ks next
asks_left {but} {At} {cs} {es} {ks} test free h = asks_from (change test left_alone es) from (apart_mapped (changed_at test left_alone) es (λ e i. number_by e (test e)) h.apart)
    (λ c j isnt a p. record { ask = p.ask; there = still p.ask p.there (no_test (test p.ask) (λ hit. (free p.ask c p.there hit j isnt p.its).waited p.unheaded a)); its = p.its; unheaded = p.unheaded; kind = p.kind })
    (λ c j isnt a p. record { ask = p.ask; there = still p.ask p.there (no_test (test p.ask) (λ hit. (free p.ask c p.there hit j isnt p.its).more p.body a)); its = p.its; body = p.body }) h
  where
    number_by : (e : Exchange) (t : Bool) → (elim t as (λ x. Exchange) [ true ↦ left_alone e | false ↦ e ]).number ≡ e.number
    number_by e true = refl
    number_by e false = refl

    still : (e : Exchange) → IsIn e es → test e ≡ false → IsIn e (change test left_alone es)
    still e i isnt = subst (λ (x : Exchange). IsIn x (change test left_alone es)) (ap (λ t. elim t as (λ x. Exchange) [ true ↦ left_alone e | false ↦ e ]) isnt) (in_map_of (changed_at test left_alone) e es i)

    at : (x : Exchange) → Changed test left_alone es x → FromAsk ks es x
    at x (same i isnt) = record { was = x; there = i; number = refl; asker = λ n is. is; aim = refl; headed = refl; place = λ k l line none. none; plain = λ p. p }
    at x (other e i hit eq) = record {
      was = e;
      there = i;
      number = ap (λ (y : Exchange). y.number) eq;
      asker = λ n is. (let both : None ≡ Some n = sym (ap (λ (y : Exchange). y.asker) eq) ∙ is in absurd (cc both));
      aim = ap (λ (y : Exchange). y.aim) eq;
      headed = ap (λ (y : Exchange). is_headed y) eq;
      place = λ k l line none. ap (λ (y : Exchange). y.place) (sym eq) ∙ none;
      plain = λ p. subst (λ (y : Exchange). Plain y) (sym eq) (record { bare = p.bare; spelled = p.spelled; asked = p.asked; through = p.through });
    }

    from : (x : Exchange) → IsIn x (change test left_alone es) → FromAsk ks es x
    from x i = at x (in_change test left_alone x es i)

same_from : (ks : List Conn) (es : List Exchange) (e : Exchange) → IsIn e es → FromAsk ks es e
same_from ks es e i = record { was = e; there = i; number = refl; asker = λ n is. is; aim = refl; headed = refl; place = λ k l line none. none; plain = λ p. p }

-- those of which the test holds are over
pub asks_over : {but : But} {At : Type 0} {cs : List Client} {es : List Exchange} {ks : List Conn} {next : ℕ} (test : Exchange → Bool) → AreFree but test cs es → Facts but At cs es ks next → Facts but At cs (filter (λ e. not (test e)) es) ks next
asks_over {but} {At} {cs} {es} {ks} test free h = asks_from (filter (λ e. not (test e)) es) (λ x i. same_from ks es x (in_filter (λ e. not (test e)) x es i).0) (λ d e i j eq. h.apart d e (in_filter (λ x. not (test x)) d es i).0 (in_filter (λ x. not (test x)) e es j).0 eq)
    (λ c j isnt a p. record { ask = p.ask; there = in_filter_of (λ e. not (test e)) p.ask es p.there (ap not (no_test (test p.ask) (λ hit. (free p.ask c p.there hit j isnt p.its).waited p.unheaded a))); its = p.its; unheaded = p.unheaded; kind = p.kind })
    (λ c j isnt a p. record { ask = p.ask; there = in_filter_of (λ e. not (test e)) p.ask es p.there (ap not (no_test (test p.ask) (λ hit. (free p.ask c p.there hit j isnt p.its).more p.body a))); its = p.its; body = p.body }) h
