-- Whoever waits for an exchange has it, also where heads come, and where a connection ends.
use Rattle.std.proofs.Common.{◌≡◌, refl, ℕ, zero, suc, ◌<◌, ◌==◌, Bool, true, false, not, ◌&&◌, ◌||◌, List, [], ◌++◌, drop, length, is_some, Option, Some, None, Result, Ok, Err, sym, subst, ap, ◌∙◌, arith}
use Rattle.pp_framing.specs.Body.{Outcome, Done as IsDone, Going, Bad}
use Rattle.pp_framing.specs.Framing.{rule_of}
use Rattle.pp_framing.specs.Rules.{body_of}
use Rattle.pp_framing.specs.declared.body.BodyRule.{BodyRule}
use Rattle.pp_head.specs.Read.{Read, Whole, TooLong, Bad as NoHead, More}
use Rattle.pp_head.specs.Response.{Response, response_at}
use Rattle.pp_pipe.specs.Front.{is_interim}
use Rattle.pp_target.specs.Key.{text_of}
use Rattle.pp_text.specs.Bytes.{is_empty}
use Rattle.pp_law.specs.Connections.{close_conn, conn, front_of_line, is_conn, is_for, is_outstanding, on_conn}
use Rattle.pp_law.specs.Lists.{Bytes, change, is_some_with}
use Rattle.pp_law.specs.OwnHeads.{is_wrong_head, key_of}
use Rattle.pp_law.specs.Responses.{Piece, answer_for, answer_with, answered_by, asks_head, bad_head, begin_answer, body_piece, bring_row, by_aim, end_if_empty, ended, finish, finish_first, got, head_came, head_piece, is_early, is_readable, is_whole_at_end, next_piece, with_unread}
use Rattle.pp_law.specs.Stages.{is_headed}
use Rattle.pp_law.specs.State.{State, Answer, Client, Conn, Exchange}
use Rattle.pp_law.specs.Table.{row}
use Rattle.pp_laws.specs.Runs.{IsIn}
use Rattle.pp_laws.proofs.Bodies.{in_first}
use Rattle.pp_laws.proofs.Lists.{Changed, changed_at, in_change, in_find, other, same}
use Rattle.pp_laws.proofs.Pieces.{front_by}
use Rattle.pp_laws.proofs.Sound.{first_of}
use Rattle.pp_laws.proofs.Tests.{number_same, same_number}
use Rattle.pp_laws_bounds.proofs.Counts.{in_map_of}
use Rattle.pp_laws_turn.proofs.Cases.{each_so, when}
use Rattle.pp_laws_turn.proofs.Rows.{enter-keeps}
use Rattle.pp_laws_turn.proofs.View.{Holds, View, facts_of, holds}
use Rattle.pp_laws_left.proofs.Owned.{Answered, Facts, Owned, filled_in, no_test, none_but, shrunk_for}
use Rattle.pp_laws_left.proofs.OwnedConns.{conn_same, conns_with}
use Rattle.pp_laws_left.proofs.OwnedAsks.{on_conn-owned, some_but}
use Rattle.pp_laws_left.proofs.OwnedOver.{close_conn-owned, own_line}
use Rattle.pp_laws_left.proofs.OwnedGot.{IsFirst, close_this-owned, finish-owned}
use Rattle.pp_laws_left.proofs.OwnedHeads.{Come, sure_come}
use Rattle.pp_laws_left.proofs.OwnedBrought.{by_aim-come}
use Rattle.pp_laws_left.proofs.OwnedReads.{GotAt, Half, answering, bad_head-owned, body_piece-got, got_whole}
use Rattle.pp_laws_left.proofs.OwnedTold.{Ready}

-- ---- a response begins

long_not : (n m : ℕ) → n ≡ m → 0 < m → n ≡ 0 → ⊥
long_not n m is some none = omega arith

or_off : (a : Bool) → not a ≡ false → a ≡ true
or_off true is = refl
or_off false is = absurd (cc is)

module _ {At : Type 0} (n : ℕ) (k : Conn) (e : Exchange) (head : Response) (rule : BodyRule) (s : State) (at : At) (there : IsIn k s.conns) (number : k.number ≡ n) (quiet : k.answer ≡ None) (i : IsIn e s.exchanges) (first : first_of k.line ≡ Some e.number) (out : is_outstanding e ≡ true) (h : Holds (Owned none_but At) s) where
  abbrev a : Answer
  a = answer_with e head rule

  abbrev ks1 : List Conn
  ks1 = change (is_conn k.number) (answered_by a) s.conns

  f : Facts none_but At s.clients s.exchanges s.conns s.next_exchange
  f = facts_of h

  e_in : IsIn e.number k.line
  e_in = in_first e.number k.line first

  unheaded : is_headed e ≡ false
  unheaded = no_test (is_headed e) (λ on. (f.behind k e there i e_in on).1 quiet)

  -- the one that answers it, and those of its number
  led_by : (j : Conn) → j.number ≡ k.number → Changed (is_conn k.number) (answered_by a) s.conns j → (first_of j.line ≡ Some e.number) × (j.answer ≡ None → ⊥)
  led_by j eq (same l isnt) = let both : true ≡ false = sym (ap (λ m. m == k.number) eq ∙ number_same k.number) ∙ isnt in absurd (cc both)
  led_by j eq (other x l hit is) = (ap (λ (y : Conn). first_of y.line) (is ∙ ap (answered_by a) (f.conns x k l there (same_number x.number k.number hit))) ∙ first, λ none. let both : Some a ≡ None = sym (ap (λ (y : Conn). y.answer) is) ∙ none in cc both)

  alone_by : (j : Conn) → IsIn e.number j.line → Changed (is_conn k.number) (answered_by a) s.conns j → j.number ≡ k.number
  alone_by j line (same l isnt) = f.own j k e l there i line e_in
  alone_by j line (other x l hit is) = ap (λ (y : Conn). y.number) is ∙ same_number x.number k.number hit

  answered : Facts (some_but None (Some k.number)) At s.clients s.exchanges ks1 s.next_exchange
  answered = conns_with (Some k.number) k.number (answered_by a) (λ j. refl) (λ j m line. line) front_at behind_at f
    where
      front_at : (j : Conn) (b : Answer) → (Some k.number ≡ Some j.number → ⊥) → j.answer ≡ Some b → Changed (is_conn k.number) (answered_by a) s.conns j → Answered s.exchanges j
      front_at j b isnt is (same l off_) = f.front j b l (λ none. cc none) is
      front_at j b isnt is (other x l hit eq) = absurd (isnt (ap (λ m. Some m) (sym (ap (λ (y : Conn). y.number) eq ∙ same_number x.number k.number hit))))

      behind_at : (j : Conn) (x : Exchange) → IsIn x s.exchanges → IsIn x.number j.line → is_headed x ≡ true → Changed (is_conn k.number) (answered_by a) s.conns j → (first_of j.line ≡ Some x.number) × (j.answer ≡ None → ⊥)
      behind_at j x m line on (same l isnt) = f.behind j x l m line on
      behind_at j x m line on (other y l hit eq) = (ap (λ (z : Conn). first_of z.line) eq ∙ (f.behind y x l m (subst (λ (z : Conn). IsIn x.number z.line) eq line) on).0, λ none. let both : Some a ≡ None = sym (ap (λ (z : Conn). z.answer) eq) ∙ none in cc both)

  ready : Holds (Ready (Some k.number) At e ks1) (on_conn k.number (answered_by a) s)
  unfolding on_conn
  ready = holds (record {
    facts = answered;
    there = i;
    unheaded = unheaded;
    placed = λ none. f.placed k e there i e_in none;
    asked = no_test (e.asked == 0) (λ hit. long_not e.asked (length e.text) (same_number e.asked (length e.text) out) (f.plain e i).spelled (same_number e.asked 0 hit));
    conns_are = refl;
    led = λ j l line. led_by j (alone_by j line (in_change (is_conn k.number) (answered_by a) j s.conns l)) (in_change (is_conn k.number) (answered_by a) j s.conns l);
  })

  abbrev s2 : State
  s2 = by_aim e head rule (on_conn k.number (answered_by a) s)

  came : Come (Some k.number) At e ks1 s2
  came = by_aim-come e head rule (on_conn k.number (answered_by a) s) ready

  was_conn : (j : Conn) → IsIn j s2.conns → Changed (is_conn k.number) (answered_by a) s.conns j
  was_conn j l = in_change (is_conn k.number) (answered_by a) j s.conns (subst (λ (ks : List Conn). IsIn j ks) came.conns_are l)

  headed_now : (x : Exchange) → IsIn x s2.exchanges → x.number ≡ e.number → is_headed x ≡ true
  headed_now x j eq = (came.alike x j eq).1 ∙ ap not came.comes

  owned_now : Holds (Owned (some_but (Some e.number) None) At) s2
  owned_now = holds (let g = facts_of came.owned in record {
    callers = g.callers;
    apart = g.apart;
    given = g.given;
    one = g.one;
    plain = g.plain;
    fills = g.fills;
    kinds = g.kinds;
    asks = g.asks;
    amid = g.amid;
    lined = g.lined;
    conns = g.conns;
    own = g.own;
    placed = g.placed;
    front = λ j b l isnt is. by j b l is (j.number == k.number) refl;
    behind = g.behind;
  })
    where
      by : (j : Conn) (b : Answer) → IsIn j s2.conns → j.answer ≡ Some b → (t : Bool) → (j.number == k.number) ≡ t → Answered s2.exchanges j
      by j b l is true hit = record { number = e.number; first = (led_by j (same_number j.number k.number hit) (was_conn j l)).0; headed = headed_now }
      by j b l is false off_ = (facts_of came.owned).front j b l (λ eq. let both : Some k.number ≡ Some j.number = eq in let same_ : k.number ≡ j.number = cc both in let no_ : true ≡ false = sym (ap (λ m. m == k.number) (sym same_) ∙ number_same k.number) ∙ off_ in cc no_) is

  began : GotAt At n s2
  began = record {
    ask = Some e.number;
    owned = owned_now;
    half = λ m so. (let eq : e.number ≡ m = cc so in subst (λ z. Half n z s2) eq (record {
      line = λ j l is. led_by j (is ∙ sym number) (was_conn j l);
      sure = holds (λ x j eq_ y c found some l its begun. let w = came.alike x j eq_ in sure_come e s2 came y c (ap (λ key. row s2 (text_of key)) (sym w.4) ∙ found) (ap (λ b. is_some (filled_in b)) (sym w.2) ∙ some) l (its_for x c w.0 its) begun);
    }));
  }
    where
      its_for : (x : Exchange) (c : Client) → ((m : ℕ) → x.asker ≡ Some m → e.asker ≡ Some m) → is_for x c ≡ true → is_for e c ≡ true
      its_for x c asker its = shrunk_for x e c asker its

  firsts : IsFirst k e s2.exchanges s2.conns
  firsts = record {
    place = answered_by a k;
    there = subst (λ (ks : List Conn). IsIn (answered_by a k) ks) (sym came.conns_are) (subst (λ (y : Conn). IsIn y ks1) (ap (λ t. elim t as (λ y. Conn) [ true ↦ answered_by a k | false ↦ k ]) (number_same k.number)) (in_map_of (changed_at (is_conn k.number) (answered_by a)) k s.conns there));
    number = refl;
    first = first;
    alone = λ j l line. alone_by j line (was_conn j l);
    headed = headed_now;
    asker = λ x m j eq asks. (came.alike x j eq).0 m asks;
  }

  pub begun-got : GotAt At n (begin_answer k e head rule s)
  unfolding begin_answer end_if_empty
  begun-got = by (body_of a.rule []).outcome
    where
      by : (outcome : Outcome) → GotAt At n (elim outcome as (λ c. State) [ IsDone rest ↦ finish k e a s2 | Going ↦ s2 | Bad ↦ s2 ])
      by (IsDone rest) = got_whole n _ (finish-owned k e a s2 at (λ m so. let eq : e.number ≡ m = cc so in sym eq) firsts owned_now)
      by Going = began
      by Bad = began

-- ---- heads

abbrev With : Type 0 → List Exchange → List Conn → View → Type 0
With At es ks v = Owned none_but At v × (v.exchanges ≡ es) × (v.conns ≡ ks)

bring_row-with : {At : Type 0} (e : Exchange) (head : Response) (es : List Exchange) (ks : List Conn) (s : State) → Holds (With At es ks) s → Holds (With At es ks) (bring_row e head s)
unfolding bring_row
bring_row-with e head es ks s h = when (is_readable e head) (enter-keeps (λ xs next v from g. g) (key_of e) true s h) h

when_got : {At : Type 0} {n : ℕ} (t : Bool) {x y : State} → (t ≡ true → GotAt At n x) → (t ≡ false → GotAt At n y) → GotAt At n (elim t as (λ c. State) [ true ↦ x | false ↦ y ])
when_got true hx hy = hx refl
when_got false hx hy = hy refl

answer_for-got : {At : Type 0} (n : ℕ) (k : Conn) (e : Exchange) (head : Response) (s : State) → At → IsIn k s.conns → k.number ≡ n → k.answer ≡ None → IsIn e s.exchanges → first_of k.line ≡ Some e.number → is_outstanding e ≡ true → Holds (Owned none_but At) s → GotAt At n (answer_for k e head s)
unfolding answer_for
answer_for-got {At} n k e head s at there number quiet i first out h = when_got (is_wrong_head e head) (λ is. bad) (λ isnt. by (rule_of (asks_head e) head.status head.fields))
  where
    bad : GotAt At n (bad_head k s)
    bad = got_whole n _ (bad_head-owned k s at there h)

    by : {E : Type 0} (read : Result BodyRule E) → GotAt At n (elim read as (λ c. State) [ Ok rule ↦ begin_answer k e head rule s | Err fault ↦ bad_head k s ])
    by (Ok rule) = begun-got n k e head rule s at there number quiet i first out h
    by (Err fault) = bad

head_came-got : {At : Type 0} (n : ℕ) (k : Conn) (head : Response) (s : State) → At → IsIn k s.conns → k.number ≡ n → k.answer ≡ None → is_early s k ≡ false → Holds (Owned none_but At) s → GotAt At n (head_came k head s)
unfolding head_came
head_came-got {At} n k head s at there number quiet late h = by (front_of_line s k) refl (or_off (is_some_with is_outstanding (front_of_line s k)) late)
  where
    by : (o : Option Exchange) → front_of_line s k ≡ o → is_some_with is_outstanding o ≡ true → GotAt At n (elim o as (λ c. State) [ None ↦ close_conn false k s | Some e ↦ answer_for k e head (bring_row e head s) ])
    by None found out = absurd (cc out)
    by (Some e) found out =
        let w = front_by s k.line e found in
        let g = facts_of (bring_row-with {At = At} e head s.exchanges s.conns s (holds (facts_of h, refl, refl))) in
        answer_for-got n k e head (bring_row e head s) at (subst (λ (ks : List Conn). IsIn k ks) (sym g.2) there) number quiet (subst (λ (es : List Exchange). IsIn e es) (sym g.1) w.0) w.1 out (holds g.0)

piece_got : {At : Type 0} {n : ℕ} (t : Bool) (p q : Piece) → (t ≡ true → GotAt At n p.state) → (t ≡ false → GotAt At n q.state) → GotAt At n (elim t as (λ c. Piece) [ true ↦ p | false ↦ q ]).state
piece_got true p q hp hq = hp refl
piece_got false p q hp hq = hq refl

head_piece-got : {At : Type 0} (n : ℕ) (k : Conn) (bytes : Bytes) (s : State) → At → IsIn k s.conns → k.number ≡ n → k.answer ≡ None → Holds (Owned none_but At) s → GotAt At n (head_piece k bytes s).state
head_piece-got {At} n k bytes s at there number quiet h =
    piece_got (is_early s k) _ _ (λ early. got_whole n _ (close_conn-owned {ask = None} {conn = None} true k s (own_line k s there h) (λ m is. absurd (cc is)) (λ is. (at, refl)) h)) (λ late. by late (response_at (k.unread ++ bytes)))
  where
    unread : (left : Bytes) → GotAt At n (on_conn k.number (with_unread left) s)
    unread left = got_whole n _ (on_conn-owned k.number (with_unread left) s (λ j. conn_same _ j refl refl refl) h)

    bad : GotAt At n (bad_head k s)
    bad = got_whole n _ (bad_head-owned k s at there h)

    by : is_early s k ≡ false → (read : Read Response) → GotAt At n (elim read as (λ c. Piece) [
      | More ↦ record { state = on_conn k.number (with_unread (k.unread ++ bytes)) s; rest = [] }
      | TooLong ↦ record { state = bad_head k s; rest = [] }
      | NoHead ↦ record { state = bad_head k s; rest = [] }
      | Whole head ↦ elim (is_interim head.status) as (λ c. Piece) [
        | true ↦ record { state = on_conn k.number (with_unread []) s; rest = drop head.length (k.unread ++ bytes) }
        | false ↦ record { state = head_came k head s; rest = drop head.length (k.unread ++ bytes) }
      ]
    ]).state
    by late More = unread (k.unread ++ bytes)
    by late TooLong = bad
    by late NoHead = bad
    by late (Whole head) = piece_got (is_interim head.status) _ _ (λ is. unread []) (λ isnt. head_came-got n k head s at there number quiet late h)

-- ---- one piece behind the other

pub next_piece-got : {At : Type 0} (n : ℕ) (k : Conn) (bytes : Bytes) (s : State) → At → IsIn k s.conns → k.number ≡ n → GotAt At n s → GotAt At n (next_piece k bytes s).state
next_piece-got {At} n k bytes s at there number g = by k.answer refl
  where
    whole : k.answer ≡ None → (o : Option ℕ) → g.ask ≡ o → Holds (Owned none_but At) s
    whole quiet None is = subst (λ (o : Option ℕ). Holds (Owned (some_but o None) At) s) is g.owned
    whole quiet (Some m) is = absurd (((g.half m is).line k there number).1 quiet)

    by : (answer : Option Answer) → k.answer ≡ answer → GotAt At n (elim answer as (λ c. Piece) [ Some a ↦ body_piece k a bytes s | None ↦ head_piece k bytes s ]).state
    by None quiet = head_piece-got n k bytes s at there number quiet (whole quiet g.ask refl)
    by (Some a) is = body_piece-got n k a bytes s at there number is g

got-got : {At : Type 0} (more n : ℕ) (bytes : Bytes) (s : State) → At → GotAt At n s → GotAt At n (got more n bytes s)
unfolding got
got-got zero n bytes s at g = g
got-got {At} (suc more) n bytes s at g = by (λ rest t gt. got-got more n rest t at gt) (conn s n) refl
  where
    by : ((rest : Bytes) (t : State) → GotAt At n t → GotAt At n (got more n rest t)) → (o : Option Conn) → conn s n ≡ o → GotAt At n (elim o as (λ c. State) [ None ↦ s | Some k ↦ elim (k.is_closing || is_empty bytes) as (λ c. State) [ true ↦ s | false ↦ got more n (next_piece k bytes s).rest (next_piece k bytes s).state ] ])
    by go None found = g
    by go (Some k) found =
        let w = in_find (is_conn n) k s.conns found in
        when_got (k.is_closing || is_empty bytes) (λ is. g) (λ isnt. go (next_piece k bytes s).rest (next_piece k bytes s).state (next_piece-got n k bytes s at w.0 (same_number k.number n w.1) g))

-- behind the event nobody has to be calm
later : {ask : Option ℕ} {At Off : Type 0} (cs : List Client) (es : List Exchange) (ks : List Conn) (next : ℕ) → (Off → ⊥) → Facts (some_but ask None) At cs es ks next → Facts none_but Off cs es ks next
later cs es ks next off_ f = record {
  callers = f.callers;
  apart = f.apart;
  given = f.given;
  one = f.one;
  plain = f.plain;
  fills = λ e c i j its some isnt. (let w = f.fills e c i j its some isnt in record { untold = w.untold; calm = λ at begun none. absurd (off_ at) });
  kinds = f.kinds;
  asks = f.asks;
  amid = f.amid;
  lined = f.lined;
  conns = f.conns;
  own = f.own;
  placed = f.placed;
  front = f.front;
  behind = f.behind;
}

pub got-owned : {At Off : Type 0} (more n : ℕ) (bytes : Bytes) (s : State) → At → (Off → ⊥) → Holds (Owned none_but At) s → Holds (Owned none_but Off) (got more n bytes s)
got-owned more n bytes s at off_ h = let g = got-got more n bytes s at (got_whole n s h) in let t : State = got more n bytes s in holds (later t.clients t.exchanges t.conns t.next_exchange off_ (facts_of g.owned))

-- ---- the end of a connection

finish_first-owned : {At : Type 0} (k : Conn) (a : Answer) (s : State) → At → IsIn k s.conns → k.answer ≡ Some a → Holds (Owned none_but At) s → Holds (Owned none_but At) (finish_first k a s)
unfolding finish_first
finish_first-owned {At} k a s at there is h = each_so (front_of_line s k) (λ none. h) (λ e found. let w = front_by s k.line e found in finish-owned {ask = None} k e a s at (λ m so. absurd (cc so)) (firsts_of e w.0 w.1) h)
  where
    firsts_of : (e : Exchange) → IsIn e s.exchanges → first_of k.line ≡ Some e.number → IsFirst k e s.exchanges s.conns
    firsts_of e i first = record {
      place = k;
      there = there;
      number = refl;
      first = first;
      alone = λ j l line. (facts_of h).own j k e l there i line (in_first e.number k.line first);
      headed = λ x j eq. ap is_headed ((facts_of h).apart x e j i eq) ∙ answering {ask = None} k a e s there is i first h;
      asker = λ x m j eq asks. ap (λ (y : Exchange). y.asker) (sym ((facts_of h).apart x e j i eq)) ∙ asks;
    }

pub ended-owned : {At : Type 0} (is_clean : Bool) (k : Conn) (s : State) → At → IsIn k s.conns → Holds (Owned none_but At) s → Holds (Owned none_but At) (ended is_clean k s)
unfolding ended
ended-owned {At} is_clean k s at there h = each_so k.answer (λ none. closed) (λ a is. when (is_clean && is_whole_at_end a) (close_this-owned k.number _ at (finish_first-owned k a s at there is h)) closed)
  where
    closed : Holds (Owned none_but At) (close_conn true k s)
    closed = close_conn-owned {ask = None} {conn = None} true k s (own_line k s there h) (λ m is. absurd (cc is)) (λ is. (at, refl)) h
