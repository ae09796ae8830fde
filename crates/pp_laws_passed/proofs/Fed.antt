-- What is passed to a client comes from one response: what keeps it so.
use Rattle.std.proofs.Common.{◌≡◌, ◌⊎◌, refl, ℕ, ◌+◌, ◌<◌, Bool, true, false, not, ◌==◌, ◌&&◌, List, [], ◌∷◌, ◌++◌, map, filter, Option, Some, None, inl, inr, sym, subst, ap, ◌∙◌, arith}
use Rattle.pp_law.specs.Connections.{is_for}
use Rattle.std.specs.List.{concat}
use Rattle.pp_law.specs.Lists.{Bytes, change, is_some_with, is_this}
use Rattle.pp_law.specs.Responses.{payload_of}
use Rattle.pp_framing.specs.declared.body.BodyRule.{BodyRule}
use Rattle.pp_head.specs.Response.{Response}
use Rattle.pp_pass.specs.Pipe.{Pipe, spelled_end}
use Rattle.pp_reply.specs.Texts.{passed_head}
use Rattle.pp_law.specs.Stages.{is_begun, is_headed, is_passing, passed_of}
use Rattle.pp_law.specs.State.{State, Answer, Client, Stage, Undecided, Waiting, Passing, Answering, Conn, Exchange, Passed, Reply}
use Rattle.pp_laws.specs.Numbers.{AreRising}
use Rattle.pp_laws.specs.Runs.{IsIn}
use Rattle.pp_laws.proofs.Lists.{Changed, From, in_change, in_filter, in_map, in_push, other, rise_change, rise_filter, rise_map, rise_push, same}
use Rattle.pp_laws.proofs.Sound.{client_number, exchange_number, first_of, source_in}
use Rattle.pp_laws_passed.specs.Passed.{IsShown, all_spelled, head_left, is_in_passed, last_of, to_say}
use Rattle.pp_laws_passed.proofs.Same.{PartsOf, Same, facts_of as parts_of}

-- in the midst of a reply that is not passed
abbrev pub is_in_other : Stage → Bool
is_in_other Undecided = false
is_in_other Waiting = false
is_in_other Passing = false
is_in_other (Answering r) = r.has_begun && not (is_passing r.decision)

-- who is in no reply is in none that is passed
pub not_passed : (c : Client) → is_begun c ≡ false → is_in_passed c.stage ≡ false
not_passed c free = by c.stage free
  where
    by : (stage : Stage) → is_some_with (λ r. r.has_begun) (elim stage as (λ y. Option Reply) [ Undecided ↦ None | Waiting ↦ None | Passing ↦ None | Answering r ↦ Some r ]) ≡ false → is_in_passed stage ≡ false
    by Undecided off = refl
    by Waiting off = refl
    by Passing off = refl
    by (Answering r) off = ap (λ b. b && is_passing r.decision) off

-- what was said to each client; and the exchange to whose response more just came, if that is not yet noted of its connection.
-- Where it is looked at what came: for whose exchange it comes on each connection that is answered; and which data of a body came
-- for which request of which client, with which head, and whether they are all of it
pub record Tale : Type 1 where
  pub said : ℕ → Bytes
  pub but : Option ℕ
  pub follows : Bool
  pub firsts : ℕ → Option ℕ
  pub came : ℕ → ℕ → Response → BodyRule → Bytes → Bool → Type 0

-- these data went into the pipe, piece by piece. Nothing of them was said where the reply has not begun
pub record Relays (said : Bytes) (c : Client) (p : Passed) (content : Bytes) : Type 0 where
  pub pieces : List Bytes
  pub all : concat pieces ≡ content
  pub full : (piece : Bytes) → IsIn piece pieces → piece ≡ [] → ⊥
  pub waiting : is_in_passed c.stage ≡ false → p.pipe.bytes ≡ all_spelled p.pipe.is_coded pieces ++ last_of p.pipe
  pub shown : is_in_passed c.stage ≡ true → IsShown said (to_say c) p (all_spelled p.pipe.is_coded pieces ++ last_of p.pipe)

-- what went into the pipe came for this request of the client, and all of it did where the body has its end
pub record Keeps (tale : Tale) (c : Client) (p : Passed) : Type 0 where
  pub content : Bytes
  pub came : tale.came c.number c.index p.head p.rule content p.pipe.is_finished
  pub relays : Relays (tale.said c.number) c p content

-- the exchange is the first of the line, the response that comes to it is the one that is passed, and all of its data that came went
-- into the pipe
pub record Feeds (tale : Tale) (k : Conn) (e : Exchange) (c : Client) (p : Passed) : Type 0 where
  pub front : first_of k.line ≡ Some e.number
  pub answer : Answer
  pub is : k.answer ≡ Some answer
  pub head : p.head ≡ answer.head
  pub rule : p.rule ≡ answer.rule
  pub relayed : (tale.but ≡ Some e.number → ⊥) → Relays (tale.said c.number) c p (payload_of answer)
  pub going : (tale.but ≡ Some e.number → ⊥) → p.pipe.is_finished ≡ false

-- a head came to the exchange of that number, if it is there
pub record Answers (n : ℕ) (exchanges : List Exchange) (next_exchange : ℕ) : Type 0 where
  pub below : n < next_exchange
  pub headed : (e : Exchange) → IsIn e exchanges → e.number ≡ n → is_headed e ≡ true

abbrev pub AreAnswered : Tale → List Exchange → List Conn → ℕ → Type 0
AreAnswered tale exchanges conns next_exchange = tale.follows ≡ true → (k : Conn) (a : Answer) (n : ℕ) → IsIn k conns → k.answer ≡ Some a → tale.firsts k.number ≡ Some n → Answers n exchanges next_exchange

pub record Facts (tale : Tale) (clients : List Client) (exchanges : List Exchange) (conns : List Conn) (next_exchange : ℕ) : Type 0 where
  pub apart : AreRising (map client_number clients)
  pub rise : AreRising (map exchange_number exchanges)
  pub given : (e : Exchange) → IsIn e exchanges → e.number < next_exchange
  -- a request has one exchange at most
  pub one : (e d : Exchange) (n : ℕ) → IsIn e exchanges → IsIn d exchanges → e.asker ≡ Some n → d.asker ≡ Some n → e.number ≡ d.number
  -- a head comes to an exchange that has a place
  pub headed : (e : Exchange) → IsIn e exchanges → is_headed e ≡ true → ¬ (e.place ≡ None)
  -- a reply that is passed is read from no instance
  pub sourced : (c : Client) (id : ℕ) → IsIn c clients → is_in_passed c.stage ≡ true → source_in c.stage ≡ Some id → ⊥
  -- who is in the midst of a reply that is passed waits for no head
  pub begun : (e : Exchange) (c : Client) → IsIn e exchanges → IsIn c clients → is_for e c ≡ true → is_in_passed c.stage ≡ true → is_headed e ≡ true
  pub fed_by : (k : Conn) (e : Exchange) (c : Client) (p : Passed) → IsIn k conns → IsIn e exchanges → IsIn e.number k.line → is_headed e ≡ true → IsIn c clients → is_for e c ≡ true → is_in_other c.stage ≡ false → passed_of c ≡ Some p → Feeds tale k e c p
  pub answers : AreAnswered tale exchanges conns next_exchange
  pub kept : tale.follows ≡ true → (c : Client) (p : Passed) → IsIn c clients → is_in_other c.stage ≡ false → passed_of c ≡ Some p → Keeps tale c p

abbrev pub FactsOf : Tale → State → Type 0
FactsOf tale s = Facts tale s.clients s.exchanges s.conns s.next_exchange

pub data Fed (tale : Tale) (s : State) : Type 0 where
  fed : FactsOf tale s → Fed tale s

pub facts_of : {tale : Tale} {s : State} → Fed tale s → FactsOf tale s
facts_of (fed facts) = facts

-- ---- where each comes from

-- the same response, and what is to be said of it
pub record SameHead (tale later : Tale) (d c : Client) (p q : Passed) : Type 0 where
  pub index : d.index ≡ c.index
  pub head : p.head ≡ q.head
  pub rule : p.rule ≡ q.rule
  pub ends : p.pipe.is_finished ≡ q.pipe.is_finished
  pub relays : (content : Bytes) → Relays (tale.said c.number) c q content → Relays (later.said d.number) d p content

pub record SameClient (tale later : Tale) (d c : Client) : Type 0 where
  pub number : d.number ≡ c.number
  pub passing : is_in_passed d.stage ≡ true → is_in_passed c.stage ≡ true
  pub source : is_in_passed d.stage ≡ true → (id : ℕ) → source_in d.stage ≡ Some id → source_in c.stage ≡ Some id
  pub passed : (p : Passed) → is_in_other d.stage ≡ false → passed_of d ≡ Some p → (q : Passed) × (is_in_other c.stage ≡ false) × (passed_of c ≡ Some q) × SameHead tale later d c p q

pub record FromClient (tale later : Tale) (clients : List Client) (d : Client) : Type 0 where
  pub was : Client
  pub there : IsIn was clients
  pub is : SameClient tale later d was

pub record SameExchange (e d : Exchange) : Type 0 where
  pub number : e.number ≡ d.number
  pub asker : (n : ℕ) → e.asker ≡ Some n → d.asker ≡ Some n
  pub headed : is_headed e ≡ is_headed d
  pub place : is_headed d ≡ true → e.place ≡ None → d.place ≡ None

pub record FromExchange (exchanges : List Exchange) (e : Exchange) : Type 0 where
  pub was : Exchange
  pub there : IsIn was exchanges
  pub is : SameExchange e was

-- with at least that line, and with that answer where it has a line
pub record FromConn (conns : List Conn) (k : Conn) : Type 0 where
  pub was : Conn
  pub there : IsIn was conns
  pub line : (n : ℕ) → IsIn n k.line → IsIn n was.line
  pub front : (n : ℕ) → IsIn n k.line → first_of was.line ≡ Some n → first_of k.line ≡ Some n
  pub answer : (n : ℕ) (a : Answer) → IsIn n k.line → was.answer ≡ Some a → k.answer ≡ Some a

-- with its number, and no answer that was not there
pub record FromAnswer (conns : List Conn) (k : Conn) : Type 0 where
  pub was : Conn
  pub there : IsIn was conns
  pub number : k.number ≡ was.number
  pub answered : (a : Answer) → k.answer ≡ Some a → was.answer ≡ Some a

-- where what was said, and behind it what is left to say, is as it was
pub relays_by : (was now : Bytes) (d c : Client) (p q : Passed) → is_in_passed d.stage ≡ is_in_passed c.stage → p.head ≡ q.head → p.rule ≡ q.rule → p.pipe.is_coded ≡ q.pipe.is_coded → p.pipe.is_finished ≡ q.pipe.is_finished → (is_in_passed c.stage ≡ false → p.pipe.bytes ≡ q.pipe.bytes)
    → (is_in_passed c.stage ≡ true → now ++ (to_say d ++ p.pipe.bytes) ≡ was ++ (to_say c ++ q.pipe.bytes)) → (content : Bytes) → Relays was c q content → Relays now d p content
relays_by was now d c p q on head rule coded ends bytes stream content r = record {
  pieces = r.pieces;
  all = r.all;
  full = r.full;
  waiting = λ off. let off_it : is_in_passed c.stage ≡ false = sym on ∙ off in bytes off_it ∙ r.waiting off_it ∙ text_same;
  shown = λ is. let on_it : is_in_passed c.stage ≡ true = sym on ∙ is in let w = r.shown on_it in record {
    earlier = w.earlier;
    head = w.head;
    minor = w.minor;
    is_head = w.is_head;
    name = w.name;
    keeps = w.keeps;
    spelled = w.spelled ∙ ap (λ h. passed_head h q.rule w.minor w.is_head w.name w.keeps) (sym head) ∙ ap (λ x. passed_head p.head x w.minor w.is_head w.name w.keeps) (sym rule);
    stream = stream on_it ∙ w.stream ∙ ap (λ (xs : Bytes). w.earlier ++ (w.head ++ xs)) text_same;
  };
}
  where
    text_same : all_spelled q.pipe.is_coded r.pieces ++ last_of q.pipe ≡ all_spelled p.pipe.is_coded r.pieces ++ last_of p.pipe
    text_same =
        ap (λ b. all_spelled b r.pieces ++ last_of q.pipe) (sym coded) ∙ ap (λ b. all_spelled p.pipe.is_coded r.pieces ++ (elim q.pipe.is_finished as (λ c. Bytes) [ true ↦ spelled_end b | false ↦ [] ])) (sym coded)
        ∙ ap (λ t. all_spelled p.pipe.is_coded r.pieces ++ (elim t as (λ c. Bytes) [ true ↦ spelled_end p.pipe.is_coded | false ↦ [] ])) (sym ends)

-- where nothing changed that this speaks of
pub relays_on : (was now : Bytes) (d c : Client) (p q : Passed) → now ≡ was → is_in_passed d.stage ≡ is_in_passed c.stage → (is_in_passed c.stage ≡ true → to_say d ≡ to_say c) → p.head ≡ q.head → p.rule ≡ q.rule → p.pipe ≡ q.pipe
    → (content : Bytes) → Relays was c q content → Relays now d p content
relays_on was now d c p q said on left head rule pipe =
    relays_by was now d c p q on head rule (ap (λ (x : Pipe). x.is_coded) pipe) (ap (λ (x : Pipe). x.is_finished) pipe) (λ off. ap (λ (x : Pipe). x.bytes) pipe)
    (λ is. ap (λ (xs : Bytes). xs ++ (to_say d ++ p.pipe.bytes)) said ∙ ap (λ (xs : Bytes). was ++ (xs ++ p.pipe.bytes)) (left is) ∙ ap (λ (x : Pipe). was ++ (to_say c ++ x.bytes)) pipe)

pub client_same : {tale : Tale} (c : Client) → SameClient tale tale c c
client_same c = record { number = refl; passing = λ is. is; source = λ on id is. is; passed = λ p off is. (p, off, is, record { index = refl; head = refl; rule = refl; ends = refl; relays = λ content r. r }) }

-- one that is told nothing, and is in no reply that is passed
pub none_passed : {tale later : Tale} (d c : Client) → d.number ≡ c.number → is_in_passed d.stage ≡ false → source_in d.stage ≡ None → passed_of d ≡ None → SameClient tale later d c
none_passed d c number off sourceless none = record {
  number = number;
  passing = λ on. let both : false ≡ true = sym off ∙ on in absurd (cc both);
  source = λ on id is. let both : None ≡ Some id = sym sourceless ∙ is in absurd (cc both);
  passed = λ p isnt is. let both : None ≡ Some p = sym none ∙ is in absurd (cc both);
}

pub parts_across : {tale later : Tale} (d c : Client) → d.number ≡ c.number → d.index ≡ c.index → d.stage ≡ c.stage → d.brought ≡ c.brought → d.interim_left ≡ c.interim_left → later.said d.number ≡ tale.said c.number → SameClient tale later d c
parts_across {tale} {later} d c number index stage brought left said = record {
  number = number;
  passing = λ is. sym (ap is_in_passed stage) ∙ is;
  source = λ on id is. sym (ap source_in stage) ∙ is;
  passed = λ p off is. (
    p,
    ap is_in_other (sym stage) ∙ off,
    sym (ap (λ b. passed_of (record c { brought = b })) brought) ∙ is,
    record {
      index = index;
      head = refl;
      rule = refl;
      ends = refl;
      relays = relays_on (tale.said c.number) (later.said d.number) d c p p said (ap is_in_passed stage) (λ on. ap (λ (xs : Bytes). xs ++ head_left d.stage) left ∙ ap (λ st. c.interim_left ++ head_left st) stage) refl refl refl;
    },
  );
}

pub parts_same : {tale : Tale} (d c : Client) → d.number ≡ c.number → d.index ≡ c.index → d.stage ≡ c.stage → d.brought ≡ c.brought → d.interim_left ≡ c.interim_left → SameClient tale tale d c
parts_same {tale} d c number index stage brought left = parts_across d c number index stage brought left (ap tale.said number)

pub exchange_same : (e : Exchange) → SameExchange e e
exchange_same e = record { number = refl; asker = λ n is. is; headed = refl; place = λ is none. none }

pub conn_same : (conns : List Conn) (k : Conn) → IsIn k conns → FromConn conns k
conn_same conns k i = record { was = k; there = i; line = λ n l. l; front = λ n l is. is; answer = λ n a l is. is }

pub answer_same : (conns : List Conn) (k : Conn) → IsIn k conns → FromAnswer conns k
answer_same conns k i = record { was = k; there = i; number = refl; answered = λ a is. is }

pub for_from : (e w : Exchange) (d c : Client) → ((n : ℕ) → e.asker ≡ Some n → w.asker ≡ Some n) → d.number ≡ c.number → is_for e d ≡ true → is_for w c ≡ true
for_from e w d c asker number is = by e.asker refl is
  where
    by : (o : Option ℕ) → e.asker ≡ o → is_this d.number o ≡ true → is_for w c ≡ true
    by None eq h = absurd (cc h)
    by (Some m) eq h = ap (λ a. is_this c.number a) (asker m eq) ∙ ap (λ k. m == k) (sym number) ∙ h

-- what came before did come later
pub record Grows (tale later : Tale) : Type 0 where
  pub but : (n : ℕ) → (later.but ≡ Some n → ⊥) → tale.but ≡ Some n → ⊥
  pub follows : later.follows ≡ true → tale.follows ≡ true
  pub came : (n i : ℕ) (head : Response) (rule : BodyRule) (content : Bytes) (is_whole : Bool) → tale.came n i head rule content is_whole → later.came n i head rule content is_whole

pub grows_not : {tale : Tale} → Grows tale tale
grows_not {tale} = record { but = λ n isnt. isnt; follows = λ is. is; came = λ n i head rule content is_whole c. c }

-- what went into its pipe is what did
pub keeps_on : {tale later : Tale} (d c : Client) (p q : Passed) → Grows tale later → d.number ≡ c.number → SameHead tale later d c p q → Keeps tale c q → Keeps later d p
keeps_on {tale} {later} d c p q grows number heads k = record {
  content = k.content;
  came = subst (λ t. later.came d.number d.index p.head p.rule k.content t) (sym heads.ends)
      (subst (λ r. later.came d.number d.index p.head r k.content q.pipe.is_finished) (sym heads.rule)
      (subst (λ h. later.came d.number d.index h q.rule k.content q.pipe.is_finished) (sym heads.head)
      (subst (λ i. later.came d.number i q.head q.rule k.content q.pipe.is_finished) (sym heads.index)
      (subst (λ n. later.came n c.index q.head q.rule k.content q.pipe.is_finished) (sym number)
      (grows.came c.number c.index q.head q.rule k.content q.pipe.is_finished k.came)))));
  relays = heads.relays k.content k.relays;
}

-- the exchanges come from what was there, and the answers
pub answers_from : (tale : Tale) (o s : State) → o.next_exchange ≡ s.next_exchange → ((e : Exchange) → IsIn e s.exchanges → FromExchange o.exchanges e) → ((k : Conn) → IsIn k s.conns → FromAnswer o.conns k) → AreAnswered tale o.exchanges o.conns o.next_exchange
    → AreAnswered tale s.exchanges s.conns s.next_exchange
answers_from tale o s next exchanges conns h on k a n i is named =
    let w = conns k i in
    let v = h on w.was a n w.there (w.answered a is) (sym (ap tale.firsts w.number) ∙ named) in
    record { below = subst (λ m. n < m) next v.below; headed = λ e j number. let f = exchanges e j in f.is.headed ∙ v.headed f.was f.there (sym f.is.number ∙ number) }

-- all comes from what was there
pub facts_across : {tale later : Tale} (o s : State) → Grows tale later → AreAnswered later s.exchanges s.conns s.next_exchange → AreRising (map client_number s.clients) → AreRising (map exchange_number s.exchanges) → o.next_exchange ≡ s.next_exchange
    → ((d : Client) → IsIn d s.clients → FromClient tale later o.clients d) → ((e : Exchange) → IsIn e s.exchanges → FromExchange o.exchanges e) → ((k : Conn) → IsIn k s.conns → FromConn o.conns k) → FactsOf tale o → FactsOf later s
facts_across {tale} {later} o s grows answers apart rise next clients exchanges conns h = record {
  apart = apart;
  rise = rise;
  given = λ e i. let f = exchanges e i in subst (λ n. e.number < n) next (subst (λ n. n < o.next_exchange) (sym f.is.number) (h.given f.was f.there));
  one = λ e d n i j one two. let f = exchanges e i in let g = exchanges d j in f.is.number ∙ h.one f.was g.was n f.there g.there (f.is.asker n one) (g.is.asker n two) ∙ sym g.is.number;
  headed = λ e i is none. let f = exchanges e i in let was = sym f.is.headed ∙ is in h.headed f.was f.there was (f.is.place was none);
  sourced = λ c id i on is. let g = clients c i in h.sourced g.was id g.there (g.is.passing on) (g.is.source on id is);
  begun = λ e c i j hit on. let f = exchanges e i in let g = clients c j in f.is.headed ∙ h.begun f.was g.was f.there g.there (for_from e f.was c g.was f.is.asker g.is.number hit) (g.is.passing on);
  fed_by = λ k e c p l i m is j hit off has.
      let f = exchanges e i in let g = clients c j in let w = conns k l in let q = g.is.passed p off has in
      by k e c g.was p f w q.0 q.3 m (h.fed_by w.was f.was g.was q.0 w.there f.there (subst (λ n. IsIn n w.was.line) f.is.number (w.line e.number m)) (sym f.is.headed ∙ is) g.there (for_from e f.was c g.was f.is.asker g.is.number hit) q.1 q.2);
  answers = answers;
  kept = λ on c p j off has. let g = clients c j in let q = g.is.passed p off has in keeps_on c g.was p q.0 grows g.is.number q.3 (h.kept (grows.follows on) g.was q.0 g.there q.1 q.2);
}
  where
    by : (k : Conn) (e : Exchange) (c was : Client) (p : Passed) (f : FromExchange o.exchanges e) (w : FromConn o.conns k) (q : Passed) → SameHead tale later c was p q → IsIn e.number k.line → Feeds tale w.was f.was was q → Feeds later k e c p
    by k e c was p f w q heads m v = record {
      front = w.front e.number m (v.front ∙ ap (λ n. Some n) (sym f.is.number));
      answer = v.answer;
      is = w.answer e.number v.answer m v.is;
      head = heads.head ∙ v.head;
      rule = heads.rule ∙ v.rule;
      relayed = λ isnt. heads.relays (payload_of v.answer) (v.relayed (λ so. grows.but e.number isnt (so ∙ ap (λ n. Some n) (sym f.is.number))));
      going = λ isnt. heads.ends ∙ v.going (λ so. grows.but e.number isnt (so ∙ ap (λ n. Some n) (sym f.is.number)));
    }

pub facts_from : {tale : Tale} (o s : State) → AreRising (map client_number s.clients) → AreRising (map exchange_number s.exchanges) → o.next_exchange ≡ s.next_exchange → ((d : Client) → IsIn d s.clients → FromClient tale tale o.clients d)
    → ((e : Exchange) → IsIn e s.exchanges → FromExchange o.exchanges e) → ((k : Conn) → IsIn k s.conns → FromConn o.conns k) → ((k : Conn) → IsIn k s.conns → FromAnswer o.conns k) → FactsOf tale o → FactsOf tale s
facts_from {tale} o s apart rise next clients exchanges conns heads h = facts_across o s grows_not (answers_from tale o s next exchanges heads h.answers) apart rise next clients exchanges conns h

pub itself_client : {tale : Tale} (s : State) (d : Client) → IsIn d s.clients → FromClient tale tale s.clients d
itself_client {tale} s d i = record { was = d; there = i; is = client_same d }

pub itself_exchange : (s : State) (e : Exchange) → IsIn e s.exchanges → FromExchange s.exchanges e
itself_exchange s e i = record { was = e; there = i; is = exchange_same e }

pub itself_conn : (s : State) (k : Conn) → IsIn k s.conns → FromConn s.conns k
itself_conn s k i = conn_same s.conns k i

pub itself_answer : (s : State) (k : Conn) → IsIn k s.conns → FromAnswer s.conns k
itself_answer s k i = answer_same s.conns k i

pub still : {tale : Tale} {o s : State} → Same o s → Fed tale o → Fed tale s
still {tale} {o} {s} same_ h = fed (facts_from o s (subst (λ cs. AreRising (map client_number cs)) (sym p.clients_same) (facts_of h).apart) (subst (λ es. AreRising (map exchange_number es)) (sym p.exchanges_same) (facts_of h).rise) (sym p.next_same)
    (λ d i. itself_client o d (subst (λ cs. IsIn d cs) p.clients_same i))
    (λ e i. itself_exchange o e (subst (λ es. IsIn e es) p.exchanges_same i))
    (λ k i. itself_conn o k (subst (λ ks. IsIn k ks) p.conns_same i)) (λ k i. itself_answer o k (subst (λ ks. IsIn k ks) p.conns_same i)) (facts_of h))
  where
    p : PartsOf o s
    p = parts_of same_

-- ---- while more of a response comes

abbrev pub amid : ℕ → Tale → Tale
amid n tale = record tale { but = Some n }

pub weaker : {tale : Tale} (n : ℕ) (s : State) → tale.but ≡ None → Fed tale s → Fed (amid n tale) s
weaker {tale} n s none h = fed (facts_across s s grows f.answers f.apart f.rise refl (λ d i. record { was = d; there = i; is = parts_across d d refl refl refl refl refl refl }) (itself_exchange s) (itself_conn s) f)
  where
    f : FactsOf tale s
    f = facts_of h

    grows : Grows tale (amid n tale)
    grows = record { but = λ m isnt so. let both : None ≡ Some m = sym none ∙ so in cc both; follows = λ is. is; came = λ m i head rule content is_whole c. c }

-- the exchange is gone
pub over_amid : {tale : Tale} (n : ℕ) (s : State) → ((e : Exchange) → IsIn e s.exchanges → e.number ≡ n → ⊥) → Fed (amid n tale) s → Fed tale s
over_amid {tale} n s gone h = fed (record {
  apart = f.apart;
  rise = f.rise;
  given = f.given;
  one = f.one;
  headed = f.headed;
  sourced = f.sourced;
  begun = f.begun;
  fed_by = λ k e c p l i m is j hit off has.
      let v = f.fed_by k e c p l i m is j hit off has in
      record { front = v.front; answer = v.answer; is = v.is; head = v.head; rule = v.rule; relayed = λ isnt. v.relayed (λ so. let number : n ≡ e.number = cc in gone e i (sym number)); going = λ isnt. v.going (λ so. let number : n ≡ e.number = cc in gone e i (sym number)) };
  answers = f.answers;
  kept = λ on c p j off has. let v = f.kept on c p j off has in record { content = v.content; came = v.came; relays = v.relays };
})
  where
    f : FactsOf (amid n tale) s
    f = facts_of h

-- ---- clients

pub clients_mapped : {tale : Tale} (s : State) (f : Client → Client) → ((c : Client) → SameClient tale tale (f c) c) → FactsOf tale s → FactsOf tale (record s { clients = map f s.clients })
clients_mapped {tale} s f kept h = facts_from s (record s { clients = map f s.clients }) (rise_map client_number f (λ c. (kept c).number) s.clients h.apart) h.rise refl (λ d i. by d (in_map f d s.clients i)) (itself_exchange s) (itself_conn s) (itself_answer s) h
  where
    by : (d : Client) → From f s.clients d → FromClient tale tale s.clients d
    by d r = record { was = r.was; there = r.there; is = subst (λ (x : Client). SameClient tale tale x r.was) (sym r.is) (kept r.was) }

pub clients_changed_in : {tale : Tale} (s : State) (p : Client → Bool) (f : Client → Client) → ((c : Client) → (f c).number ≡ c.number) → ((c : Client) → IsIn c s.clients → p c ≡ true → SameClient tale tale (f c) c) → FactsOf tale s → FactsOf tale (record s { clients = change p f s.clients })
clients_changed_in {tale} s p f number kept h = facts_from s (record s { clients = change p f s.clients }) (rise_change client_number p f number s.clients h.apart) h.rise refl (λ d i. by d (in_change p f d s.clients i)) (itself_exchange s) (itself_conn s) (itself_answer s) h
  where
    by : (d : Client) → Changed p f s.clients d → FromClient tale tale s.clients d
    by d (same i isnt) = itself_client s d i
    by d (other c i hit eq) = record { was = c; there = i; is = subst (λ (x : Client). SameClient tale tale x c) (sym eq) (kept c i hit) }

pub clients_changed : {tale : Tale} (s : State) (p : Client → Bool) (f : Client → Client) → ((c : Client) → SameClient tale tale (f c) c) → FactsOf tale s → FactsOf tale (record s { clients = change p f s.clients })
clients_changed {tale} s p f kept h = clients_changed_in s p f (λ c. (kept c).number) (λ c i is. kept c) h

-- ---- exchanges

pub exchanges_changed : {tale : Tale} (s : State) (p : Exchange → Bool) (f : Exchange → Exchange) → ((e : Exchange) → IsIn e s.exchanges → p e ≡ true → SameExchange (f e) e) → ((e : Exchange) → (f e).number ≡ e.number) → FactsOf tale s → FactsOf tale (record s { exchanges = change p f s.exchanges })
exchanges_changed {tale} s p f kept number h =
    facts_from s (record s { exchanges = change p f s.exchanges }) h.apart (rise_change exchange_number p f number s.exchanges h.rise) refl (itself_client s) (λ e i. by e (in_change p f e s.exchanges i)) (itself_conn s) (itself_answer s) h
  where
    by : (e : Exchange) → Changed p f s.exchanges e → FromExchange s.exchanges e
    by e (same i isnt) = itself_exchange s e i
    by e (other d i hit eq) = record { was = d; there = i; is = subst (λ (x : Exchange). SameExchange x d) (sym eq) (kept d i hit) }

pub exchanges_mapped : {tale : Tale} (s : State) (f : Exchange → Exchange) → ((e : Exchange) → SameExchange (f e) e) → FactsOf tale s → FactsOf tale (record s { exchanges = map f s.exchanges })
exchanges_mapped {tale} s f kept h =
    facts_from s (record s { exchanges = map f s.exchanges }) h.apart (rise_map exchange_number f (λ e. (kept e).number) s.exchanges h.rise) refl (itself_client s) (λ e i. by e (in_map f e s.exchanges i)) (itself_conn s) (itself_answer s) h
  where
    by : (e : Exchange) → From f s.exchanges e → FromExchange s.exchanges e
    by e r = record { was = r.was; there = r.there; is = subst (λ (x : Exchange). SameExchange x r.was) (sym r.is) (kept r.was) }

pub exchanges_filtered : {tale : Tale} (s : State) (p : Exchange → Bool) → FactsOf tale s → FactsOf tale (record s { exchanges = filter p s.exchanges })
exchanges_filtered {tale} s p h =
    facts_from s (record s { exchanges = filter p s.exchanges }) h.apart (rise_filter exchange_number p s.exchanges h.rise) refl (itself_client s) (λ e i. itself_exchange s e (in_filter p e s.exchanges i).0) (itself_conn s) (itself_answer s) h

-- ---- connections

pub conns_from : {tale : Tale} (s : State) (conns : List Conn) → ((k : Conn) → IsIn k conns → FromConn s.conns k) → ((k : Conn) → IsIn k conns → FromAnswer s.conns k) → FactsOf tale s → FactsOf tale (record s { conns = conns })
conns_from {tale} s conns from heads h = facts_from s (record s { conns = conns }) h.apart h.rise refl (itself_client s) (itself_exchange s) from heads h

pub record SameConn (k j : Conn) : Type 0 where
  pub number : k.number ≡ j.number
  pub line : k.line ≡ j.line
  pub answer : k.answer ≡ j.answer

conn_by : (conns : List Conn) (k j : Conn) → IsIn j conns → SameConn k j → FromConn conns k
conn_by conns k j i kept = record {
  was = j;
  there = i;
  line = λ n l. subst (λ ns. IsIn n ns) kept.line l;
  front = λ n l is. ap first_of kept.line ∙ is;
  answer = λ n a l is. kept.answer ∙ is;
}

answer_by : (conns : List Conn) (k j : Conn) → IsIn j conns → SameConn k j → FromAnswer conns k
answer_by conns k j i kept = record { was = j; there = i; number = kept.number; answered = λ a is. sym kept.answer ∙ is }

pub conns_changed : {tale : Tale} (s : State) (p : Conn → Bool) (f : Conn → Conn) → ((k : Conn) → SameConn (f k) k) → FactsOf tale s → FactsOf tale (record s { conns = change p f s.conns })
conns_changed {tale} s p f kept h = conns_from s (change p f s.conns) (λ k i. by k (in_change p f k s.conns i)) (λ k i. heads k (in_change p f k s.conns i)) h
  where
    by : (k : Conn) → Changed p f s.conns k → FromConn s.conns k
    by k (same i isnt) = itself_conn s k i
    by k (other j i hit eq) = subst (λ (x : Conn). FromConn s.conns x) (sym eq) (conn_by s.conns (f j) j i (kept j))

    heads : (k : Conn) → Changed p f s.conns k → FromAnswer s.conns k
    heads k (same i isnt) = itself_answer s k i
    heads k (other j i hit eq) = subst (λ (x : Conn). FromAnswer s.conns x) (sym eq) (answer_by s.conns (f j) j i (kept j))

pub conns_mapped : {tale : Tale} (s : State) (f : Conn → Conn) → ((k : Conn) → SameConn (f k) k) → FactsOf tale s → FactsOf tale (record s { conns = map f s.conns })
conns_mapped {tale} s f kept h = conns_from s (map f s.conns) (λ k i. by k (in_map f k s.conns i)) (λ k i. heads k (in_map f k s.conns i)) h
  where
    heads : (k : Conn) → From f s.conns k → FromAnswer s.conns k
    heads k r = subst (λ (x : Conn). FromAnswer s.conns x) (sym r.is) (answer_by s.conns (f r.was) r.was r.there (kept r.was))

    by : (k : Conn) → From f s.conns k → FromConn s.conns k
    by k r = subst (λ (x : Conn). FromConn s.conns x) (sym r.is) (conn_by s.conns (f r.was) r.was r.there (kept r.was))

-- its line is emptied, and it has no answer
pub conns_emptied : {tale : Tale} (s : State) (p : Conn → Bool) (f : Conn → Conn) → ((k : Conn) → (f k).line ≡ []) → ((k : Conn) → ((f k).number ≡ k.number) × ((f k).answer ≡ None)) → FactsOf tale s → FactsOf tale (record s { conns = change p f s.conns })
conns_emptied {tale} s p f none off h = conns_from s (change p f s.conns) (λ k i. by k (in_change p f k s.conns i)) (λ k i. heads k (in_change p f k s.conns i)) h
  where
    heads : (k : Conn) → Changed p f s.conns k → FromAnswer s.conns k
    heads k (same i isnt) = itself_answer s k i
    heads k (other j i hit eq) = record {
      was = j;
      there = i;
      number = ap (λ (x : Conn). x.number) eq ∙ (off j).0;
      answered = λ a is. let both : None ≡ Some a = sym (ap (λ (x : Conn). x.answer) eq ∙ (off j).1) ∙ is in absurd (cc both);
    }

    by : (k : Conn) → Changed p f s.conns k → FromConn s.conns k
    by k (same i isnt) = itself_conn s k i
    by k (other j i hit eq) =
        let no = λ (n : ℕ) (l : IsIn n k.line). subst (λ ns. IsIn n ns) (ap (λ (x : Conn). x.line) eq ∙ none j) l in
        record { was = j; there = i; line = λ n l. absurd (no n l); front = λ n l is. absurd (no n l); answer = λ n a l is. absurd (no n l) }

-- these stand behind the line
first_append : (n : ℕ) (ns ms : List ℕ) → first_of ns ≡ Some n → first_of (ns ++ ms) ≡ Some n
first_append n [] ms is = absurd (cc is)
first_append n (m ∷ ns) ms is = is

pub conns_pushed : {tale : Tale} (s : State) (p : Conn → Bool) (n : ℕ) → ((e : Exchange) → IsIn e s.exchanges → e.number ≡ n → is_headed e ≡ false) → FactsOf tale s → FactsOf tale (record s { conns = change p (λ k. record k { line = k.line ++ n ∷ [] }) s.conns })
conns_pushed {tale} s p n unheaded h = record {
  apart = h.apart;
  rise = h.rise;
  given = h.given;
  one = h.one;
  headed = h.headed;
  sourced = h.sourced;
  begun = h.begun;
  fed_by = λ k e c q l i m is j hit off has. by k e c q (in_change p (λ g. record g { line = g.line ++ n ∷ [] }) k s.conns l) i m is j hit off has;
  answers = λ on k a m i is named. answers_by on k a m (in_change p (λ g. record g { line = g.line ++ n ∷ [] }) k s.conns i) is named;
  kept = h.kept;
}
  where
    by : (k : Conn) (e : Exchange) (c : Client) (q : Passed) → Changed p (λ g. record g { line = g.line ++ n ∷ [] }) s.conns k → IsIn e s.exchanges → IsIn e.number k.line → is_headed e ≡ true → IsIn c s.clients → is_for e c ≡ true → is_in_other c.stage ≡ false
        → passed_of c ≡ Some q → Feeds tale k e c q
    by k e c q (same l isnt) i m is j hit off has = h.fed_by k e c q l i m is j hit off has
    by k e c q (other g l hold eq) i m is j hit off has = at (in_push e.number g.line n (subst (λ (x : Conn). IsIn e.number x.line) eq m))
      where
        at : IsIn e.number g.line ⊎ (e.number ≡ n) → Feeds tale k e c q
        at (inr new) = let both : false ≡ true = sym (unheaded e i new) ∙ is in absurd (cc both)
        at (inl old) =
            let v = h.fed_by g e c q l i old is j hit off has in
            record { front = ap (λ (x : Conn). first_of x.line) eq ∙ first_append e.number g.line (n ∷ []) v.front; answer = v.answer; is = ap (λ (x : Conn). x.answer) eq ∙ v.is; head = v.head; rule = v.rule; relayed = v.relayed; going = v.going }

    answers_by : tale.follows ≡ true → (k : Conn) (a : Answer) (m : ℕ) → Changed p (λ g. record g { line = g.line ++ n ∷ [] }) s.conns k → k.answer ≡ Some a → tale.firsts k.number ≡ Some m → Answers m s.exchanges s.next_exchange
    answers_by on k a m (same i isnt) is named = h.answers on k a m i is named
    answers_by on k a m (other g i hold eq) is named = h.answers on g a m i (sym (ap (λ (x : Conn). x.answer) eq) ∙ is) (sym (ap (λ (x : Conn). tale.firsts x.number) eq) ∙ named)

-- a connection without a line and an answer
pub conn_added : {tale : Tale} (s : State) (k : Conn) → k.line ≡ [] → k.answer ≡ None → FactsOf tale s → FactsOf tale (record s { conns = s.conns ++ k ∷ [] })
conn_added {tale} s k none unanswered h = record {
  apart = h.apart;
  rise = h.rise;
  given = h.given;
  one = h.one;
  headed = h.headed;
  sourced = h.sourced;
  begun = h.begun;
  fed_by = λ j e c q l i m is o hit off has. by j e c q (in_push j s.conns k l) i m is o hit off has;
  answers = λ on j a n i is named. answers_by on j a n (in_push j s.conns k i) is named;
  kept = h.kept;
}
  where
    by : (j : Conn) (e : Exchange) (c : Client) (q : Passed) → IsIn j s.conns ⊎ (j ≡ k) → IsIn e s.exchanges → IsIn e.number j.line → is_headed e ≡ true → IsIn c s.clients → is_for e c ≡ true → is_in_other c.stage ≡ false → passed_of c ≡ Some q → Feeds tale j e c q
    by j e c q (inl l) i m is o hit off has = h.fed_by j e c q l i m is o hit off has
    by j e c q (inr eq) i m is o hit off has = absurd (subst (λ ns. IsIn e.number ns) (ap (λ (x : Conn). x.line) eq ∙ none) m)

    answers_by : tale.follows ≡ true → (j : Conn) (a : Answer) (n : ℕ) → IsIn j s.conns ⊎ (j ≡ k) → j.answer ≡ Some a → tale.firsts j.number ≡ Some n → Answers n s.exchanges s.next_exchange
    answers_by on j a n (inl i) is named = h.answers on j a n i is named
    answers_by on j a n (inr eq) is named = let both : None ≡ Some a = sym unanswered ∙ sym (ap (λ (x : Conn). x.answer) eq) ∙ is in absurd (cc both)

-- an exchange of which nothing came, the only one of its request
pub exchange_added : {tale : Tale} (s : State) (e : Exchange) → e.number ≡ s.next_exchange → is_headed e ≡ false → ((d : Exchange) (n : ℕ) → IsIn d s.exchanges → e.asker ≡ Some n → ¬ (d.asker ≡ Some n)) → ((c : Client) → IsIn c s.clients → is_for e c ≡ true → is_in_passed c.stage ≡ false)
    → FactsOf tale s → FactsOf tale (record s { exchanges = s.exchanges ++ e ∷ []; next_exchange = s.next_exchange + 1 })
exchange_added {tale} s e number unheaded alone waits h = record {
  apart = h.apart;
  rise = rise_push exchange_number s.exchanges e h.rise (λ d i. subst (λ n. d.number < n) (sym number) (h.given d i));
  given = λ d i. given_by d (in_push d s.exchanges e i);
  one = λ d g n i j. one_by d g n (in_push d s.exchanges e i) (in_push g s.exchanges e j);
  headed = λ d i. headed_by d (in_push d s.exchanges e i);
  sourced = h.sourced;
  begun = λ d c i j hit on. begun_by d c (in_push d s.exchanges e i) j hit on;
  fed_by = λ k d c p l i m is j hit off has. fed_at k d c p l (in_push d s.exchanges e i) m is j hit off has;
  answers = λ on k a n i is named. let v = h.answers on k a n i is named in record { below = above n v.below; headed = λ d j at. headed_at n v d (in_push d s.exchanges e j) at };
  kept = h.kept;
}
  where
    no_head : (d : Exchange) → d ≡ e → is_headed d ≡ true → ⊥
    no_head d eq is = let both : false ≡ true = sym unheaded ∙ sym (ap (λ (x : Exchange). is_headed x) eq) ∙ is in cc both

    given_by : (d : Exchange) → IsIn d s.exchanges ⊎ (d ≡ e) → d.number < s.next_exchange + 1
    given_by d (inl i) = let lt : d.number < s.next_exchange = h.given d i in omega arith
    given_by d (inr eq) = let is : d.number ≡ s.next_exchange = ap exchange_number eq ∙ number in omega arith

    one_by : (d g : Exchange) (n : ℕ) → IsIn d s.exchanges ⊎ (d ≡ e) → IsIn g s.exchanges ⊎ (g ≡ e) → d.asker ≡ Some n → g.asker ≡ Some n → d.number ≡ g.number
    one_by d g n (inl i) (inl j) a b = h.one d g n i j a b
    one_by d g n (inl i) (inr eq) a b = absurd (alone d n i (sym (ap (λ (x : Exchange). x.asker) eq) ∙ b) a)
    one_by d g n (inr eq) (inl j) a b = absurd (alone g n j (sym (ap (λ (x : Exchange). x.asker) eq) ∙ a) b)
    one_by d g n (inr one) (inr two) a b = ap exchange_number (one ∙ sym two)

    headed_by : (d : Exchange) → IsIn d s.exchanges ⊎ (d ≡ e) → is_headed d ≡ true → ¬ (d.place ≡ None)
    headed_by d (inl i) is = h.headed d i is
    headed_by d (inr eq) is = absurd (no_head d eq is)

    begun_by : (d : Exchange) (c : Client) → IsIn d s.exchanges ⊎ (d ≡ e) → IsIn c s.clients → is_for d c ≡ true → is_in_passed c.stage ≡ true → is_headed d ≡ true
    begun_by d c (inl i) j hit on = h.begun d c i j hit on
    begun_by d c (inr eq) j hit on = let both : false ≡ true = sym (waits c j (subst (λ (x : Exchange). is_for x c ≡ true) eq hit)) ∙ on in absurd (cc both)

    fed_at : (k : Conn) (d : Exchange) (c : Client) (p : Passed) → IsIn k s.conns → IsIn d s.exchanges ⊎ (d ≡ e) → IsIn d.number k.line → is_headed d ≡ true → IsIn c s.clients → is_for d c ≡ true → is_in_other c.stage ≡ false → passed_of c ≡ Some p → Feeds tale k d c p
    fed_at k d c p l (inl i) m is j hit off has = h.fed_by k d c p l i m is j hit off has
    fed_at k d c p l (inr eq) m is j hit off has = absurd (no_head d eq is)

    above : (n : ℕ) → n < s.next_exchange → n < s.next_exchange + 1
    above n lt = omega arith

    headed_at : (n : ℕ) → Answers n s.exchanges s.next_exchange → (d : Exchange) → IsIn d s.exchanges ⊎ (d ≡ e) → d.number ≡ n → is_headed d ≡ true
    headed_at n v d (inl i) at = v.headed d i at
    headed_at n v d (inr eq) at =
        let is : d.number ≡ s.next_exchange = ap exchange_number eq ∙ number in
        let lt : n < s.next_exchange = v.below in
        let none : ⊥ = omega arith in absurd none
