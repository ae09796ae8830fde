-- The head of a response comes to an exchange: its client is told, and its body goes somewhere.
use Rattle.std.proofs.Common.{◌≡◌, ◌⊎◌, refl, ℕ, ◌<◌, ◌==◌, Bool, true, false, not, ◌&&◌, List, length, is_some, Option, Some, None, inl, inr, sym, subst, ap, ◌∙◌}
use Rattle.pp_law.specs.Connections.{is_exchange, is_for}
use Rattle.pp_law.specs.Due.{is_told}
use Rattle.pp_law.specs.Lists.{Bytes, change, is_this}
use Rattle.pp_law.specs.OwnHeads.{is_asked_by}
use Rattle.pp_law.specs.Stages.{filled_of, is_begun, is_headed, is_pending, is_through}
use Rattle.pp_law.specs.State.{Aim, Through, Own, Filling, Body, Relaying, Brought, Client, Conn, Exchange, Stage, Undecided, Waiting, Passing, Answering}
use Rattle.pp_laws.specs.Runs.{IsIn}
use Rattle.pp_laws.proofs.Lists.{Changed, changed_at, in_change, in_map, other, same}
use Rattle.pp_laws.proofs.Sound.{first_of}
use Rattle.pp_laws.proofs.Tests.{first_holds, number_same, same_number}
use Rattle.pp_laws_bounds.proofs.Counts.{in_map_of}
use Rattle.pp_laws_coming.specs.Coming.{is_waiting}
use Rattle.pp_laws_coming.proofs.Facts.{AreApart}
use Rattle.pp_laws_served.specs.Served.{is_unanswered}
use Rattle.pp_laws_turn.proofs.View.{KeepsRows, View}
use Rattle.pp_laws_left.proofs.Keep.{passed_in}
use Rattle.pp_laws_left.proofs.Owned.{Amid, Asks, Facts, Fills, Owned, Pending, Plain, Relays, answers_as, asker_of, filled_in, is_coming_in, no_test, unanswered_in}
use Rattle.pp_laws_left.proofs.OwnedAsks.{some_but}
use Rattle.pp_laws_left.proofs.OwnedOver.{relaying_headed}

-- a head comes to it: it is the first of its line, and was asked
pub record Ready (conn : Option ℕ) (At : Type 0) (e : Exchange) (ks : List Conn) (v : View) : Type 0 where
  pub facts : Owned (some_but None conn) At v
  pub there : IsIn e v.exchanges
  pub unheaded : is_headed e ≡ false
  pub placed : e.place ≡ None → ⊥
  pub asked : (e.asked == 0) ≡ false
  pub conns_are : v.conns ≡ ks
  pub led : (k : Conn) → IsIn k v.conns → IsIn e.number k.line → (first_of k.line ≡ Some e.number) × (k.answer ≡ None → ⊥)

pub ready_rows : (conn : Option ℕ) (At : Type 0) (e : Exchange) (ks : List Conn) → KeepsRows (Ready conn At e ks)
ready_rows conn At e ks xs next v from h = record { facts = h.facts; there = h.there; unheaded = h.unheaded; placed = h.placed; asked = h.asked; conns_are = h.conns_are; led = h.led }

abbrev pub with_body : Body → Exchange → Exchange
with_body body x = record x { body = body }

abbrev pub told : Brought → Client → Client
told b c = record c { brought = b }

-- who waits for an exchange that is not passed waits for no response that is
kind_not : (e : Exchange) (c : Client) → is_through e ≡ false → answers_as c.stage e.aim ≡ true → c.stage ≡ Passing → ⊥
kind_not e c off kind is = by e.aim (sym (ap (λ g. answers_as g e.aim) is) ∙ kind) off
  where
    by : (a : Aim) → answers_as Passing a ≡ true → (elim a as (λ x. Bool) [ Through ↦ true | Own ↦ false | Filling v from to ↦ false ]) ≡ false → ⊥
    by Through at off_ = cc off_
    by Own at off_ = cc at
    by (Filling v from to) at off_ = cc at

-- who was told waits for no head
pub answered_told : (b : Brought) (e : Exchange) (c : Client) → is_told b ≡ true → (is_some (passed_in b) ≡ true) ⊎ (is_through e ≡ false) → (is_waiting c.stage ≡ true → answers_as c.stage e.aim ≡ true) → unanswered_in c.stage b ≡ false
answered_told b e c told_ through kind = by c.stage refl
  where
    by : (g : Stage) → c.stage ≡ g → unanswered_in g b ≡ false
    by Undecided is = refl
    by Waiting is = ap not told_
    by Passing is = at through
      where
        at : (is_some (passed_in b) ≡ true) ⊎ (is_through e ≡ false) → not (is_some (passed_in b)) ≡ false
        at (inl some) = ap not some
        at (inr off) = absurd (kind_not e c off (kind (ap is_waiting is)) is)
    by (Answering r) is = refl

asked_test : (a b : Bool) → (a && not b) ≡ false → a ≡ true → b ≡ true
asked_test true true off is = refl
asked_test true false off is = absurd (cc off)
asked_test false b off is = absurd (cc is)

module _ {conn : Option ℕ} {At : Type 0} {ks : List Conn} (e : Exchange) (b : Brought) (body : Body) (v : View) (come : is_pending body ≡ false) (is_told_ : is_told b ≡ true)
    (passes : (c : Client) → IsIn c v.clients → is_asked_by e c ≡ true → is_coming_in b ≡ true → body ≡ Relaying) (through : (is_some (passed_in b) ≡ true) ⊎ (is_through e ≡ false)) (r : Ready conn At e ks v) where
  abbrev cs2 : List Client
  cs2 = change (is_asked_by e) (told b) v.clients

  abbrev es2 : List Exchange
  es2 = change (is_exchange e.number) (with_body body) v.exchanges

  h : Facts (some_but None conn) At v.clients v.exchanges v.conns v.next_exchange
  h = r.facts

  -- each was there; it is the one that the head came to, or has another number
  record WasThere (x : Exchange) : Type 0 where
    was : Exchange
    there : IsIn was v.exchanges
    number : x.number ≡ was.number
    asker : x.asker ≡ was.asker
    aim : x.aim ≡ was.aim
    place : x.place ≡ was.place
    text : x.text ≡ was.text
    left : x.body_left ≡ was.body_left
    asked : x.asked ≡ was.asked
    headed : ((x ≡ was) × (was.number ≡ e.number → ⊥)) ⊎ ((was ≡ e) × (is_headed x ≡ true))

  was_there : (x : Exchange) → IsIn x es2 → WasThere x
  was_there x i = by (in_change (is_exchange e.number) (with_body body) x v.exchanges i)
    where
      by : Changed (is_exchange e.number) (with_body body) v.exchanges x → WasThere x
      by (same j isnt) = record { was = x; there = j; number = refl; asker = refl; aim = refl; place = refl; text = refl; left = refl; asked = refl; headed = inl (refl, λ is. (let both : true ≡ false = sym (ap (λ m. m == e.number) is ∙ number_same e.number) ∙ isnt in cc both)) }
      by (other y j hit eq) = record {
        was = y;
        there = j;
        number = ap (λ (z : Exchange). z.number) eq;
        asker = ap (λ (z : Exchange). z.asker) eq;
        aim = ap (λ (z : Exchange). z.aim) eq;
        place = ap (λ (z : Exchange). z.place) eq;
        text = ap (λ (z : Exchange). z.text) eq;
        left = ap (λ (z : Exchange). z.body_left) eq;
        asked = ap (λ (z : Exchange). z.asked) eq;
        headed = inr (h.apart y e j r.there (same_number y.number e.number hit), ap is_headed eq ∙ ap not come);
      }

  headed_on : (x : Exchange) → (w : WasThere x) → is_headed w.was ≡ true → is_headed x ≡ true
  headed_on x w is = by w.headed
    where
      by : ((x ≡ w.was) × (w.was.number ≡ e.number → ⊥)) ⊎ ((w.was ≡ e) × (is_headed x ≡ true)) → is_headed x ≡ true
      by (inl at) = ap is_headed at.0 ∙ is
      by (inr at) = at.1

  -- one whose head has not come is none that it came to
  before : (x : Exchange) → (w : WasThere x) → is_headed x ≡ false → (x ≡ w.was) × (w.was.number ≡ e.number → ⊥)
  before x w off = by w.headed
    where
      by : ((x ≡ w.was) × (w.was.number ≡ e.number → ⊥)) ⊎ ((w.was ≡ e) × (is_headed x ≡ true)) → (x ≡ w.was) × (w.was.number ≡ e.number → ⊥)
      by (inl at) = at
      by (inr at) = let both : true ≡ false = sym at.1 ∙ off in absurd (cc both)

  its_asker : (c : Client) → is_asked_by e c ≡ true → e.asker ≡ Some c.number
  its_asker c hit = asker_of c.number e.asker (first_holds (is_for e c) (not (is_begun c)) hit)

  -- whoever is told has no other
  no_other : (w : Exchange) (c : Client) → IsIn w v.exchanges → is_for w c ≡ true → is_asked_by e c ≡ true → w.number ≡ e.number
  no_other w c i its hit = h.one w e c.number i r.there (asker_of c.number w.asker its) (its_asker c hit)

  untouched : (x : Exchange) → IsIn x v.exchanges → (x.number ≡ e.number → ⊥) → IsIn x es2
  untouched x i isnt = subst (λ (y : Exchange). IsIn y es2) (ap (λ t. elim t as (λ y. Exchange) [ true ↦ with_body body x | false ↦ x ]) (no_test (x.number == e.number) (λ hit. isnt (same_number x.number e.number hit)))) (in_map_of (changed_at (is_exchange e.number) (with_body body)) x v.exchanges i)

  its_now : IsIn (with_body body e) es2
  its_now = subst (λ (y : Exchange). IsIn y es2) (ap (λ t. elim t as (λ y. Exchange) [ true ↦ with_body body e | false ↦ e ]) (number_same e.number)) (in_map_of (changed_at (is_exchange e.number) (with_body body)) e v.exchanges r.there)

  numbered : (c : Client) (t : Bool) → (elim t as (λ x. Client) [ true ↦ told b c | false ↦ c ]).number ≡ c.number
  numbered c true = refl
  numbered c false = refl

  numbered_ask : (x : Exchange) (t : Bool) → (elim t as (λ y. Exchange) [ true ↦ with_body body x | false ↦ x ]).number ≡ x.number
  numbered_ask x true = refl
  numbered_ask x false = refl

  callers_by : (c d : Client) → IsIn c cs2 → IsIn d cs2 → c.number ≡ d.number → c ≡ d
  callers_by c d i j eq =
      let p = in_map (changed_at (is_asked_by e) (told b)) c v.clients i in
      let q = in_map (changed_at (is_asked_by e) (told b)) d v.clients j in
      p.is ∙ ap (changed_at (is_asked_by e) (told b)) (h.callers p.was q.was p.there q.there (sym (numbered p.was (is_asked_by e p.was)) ∙ ap (λ (x : Client). x.number) (sym p.is) ∙ eq ∙ ap (λ (x : Client). x.number) q.is ∙ numbered q.was (is_asked_by e q.was))) ∙ sym q.is

  apart_by : AreApart es2
  apart_by x y i j eq =
      let p = in_map (changed_at (is_exchange e.number) (with_body body)) x v.exchanges i in
      let q = in_map (changed_at (is_exchange e.number) (with_body body)) y v.exchanges j in
      p.is ∙ ap (changed_at (is_exchange e.number) (with_body body)) (h.apart p.was q.was p.there q.there (sym (numbered_ask p.was (is_exchange e.number p.was)) ∙ ap (λ (z : Exchange). z.number) (sym p.is) ∙ eq ∙ ap (λ (z : Exchange). z.number) q.is ∙ numbered_ask q.was (is_exchange e.number q.was))) ∙ sym q.is

  plain_by : (x : Exchange) → (w : WasThere x) → Plain w.was → Plain x
  plain_by x w p = record {
    bare = λ none. (let gone : w.was.place ≡ None = sym w.place ∙ none in by gone w.headed);
    spelled = subst (λ (t : Bytes). 0 < length t) (sym w.text) p.spelled;
    asked = λ is. ap (λ m. m == 0) w.asked ∙ at is w.headed;
    through = λ some. ap (λ a. elim a as (λ y. Bool) [ Through ↦ true | Own ↦ false | Filling version from to ↦ false ]) w.aim ∙ p.through (sym (ap (λ m. m == 0) w.left) ∙ some);
  }
    where
      by : w.was.place ≡ None → ((x ≡ w.was) × (w.was.number ≡ e.number → ⊥)) ⊎ ((w.was ≡ e) × (is_headed x ≡ true)) → is_headed x ≡ false
      by gone (inl at) = ap is_headed at.0 ∙ p.bare gone
      by gone (inr at) = absurd (r.placed (ap (λ (y : Exchange). y.place) (sym at.0) ∙ gone))

      at : is_headed x ≡ true → ((x ≡ w.was) × (w.was.number ≡ e.number → ⊥)) ⊎ ((w.was ≡ e) × (is_headed x ≡ true)) → (w.was.asked == 0) ≡ false
      at is (inl so) = p.asked (ap is_headed (sym so.0) ∙ is)
      at is (inr so) = ap (λ (y : Exchange). y.asked == 0) so.0 ∙ r.asked

  for_was : (x : Exchange) (c : Client) → (w : WasThere x) → is_for x c ≡ true → is_for w.was c ≡ true
  for_was x c w its = ap (is_this c.number) (sym w.asker) ∙ its

  renumber : (x : Exchange) (c d : Client) → c ≡ told b d → is_for x c ≡ true → is_for x d ≡ true
  renumber x c d eq its = ap (λ (y : Client). is_this y.number x.asker) (sym eq) ∙ its

  fills_by : (x : Exchange) (c : Client) → (w : WasThere x) → Changed (is_asked_by e) (told b) v.clients c → is_for x c ≡ true → is_some (filled_of x) ≡ true → Fills (Some e.number) At x c
  fills_by x c w (same j isnt) its some =
      let f = h.fills w.was c w.there j (for_was x c w its) (ap (λ a. is_some (filled_in a)) (sym w.aim) ∙ some) (λ is. cc is) in
      record { untold = λ off. f.untold (ap is_headed (sym (before x w off).0) ∙ off); calm = λ at off apart_. f.calm at off (λ is. cc is) }
  fills_by x c w (other d j hit eq) its some =
      let number : w.was.number ≡ e.number = no_other w.was d w.there (for_was x d w (renumber x c d eq its)) hit in
      record { untold = λ off. absurd ((before x w off).1 number); calm = λ at off apart_. absurd (apart_ (ap (λ n. Some n) (sym (w.number ∙ number)))) }

  kinds_by : (x : Exchange) (c : Client) → (w : WasThere x) → Changed (is_asked_by e) (told b) v.clients c → is_for x c ≡ true → is_waiting c.stage ≡ true → answers_as c.stage x.aim ≡ true
  kinds_by x c w (same j isnt) its waits = ap (answers_as c.stage) w.aim ∙ h.kinds w.was c w.there j (for_was x c w its) (λ is. cc is) waits
  kinds_by x c w (other d j hit eq) its waits =
      let stage : c.stage ≡ d.stage = ap (λ (y : Client). y.stage) eq in
      ap (answers_as c.stage) w.aim ∙ ap (λ g. answers_as g w.was.aim) stage ∙ h.kinds w.was d w.there j (for_was x d w (renumber x c d eq its)) (λ is. cc is) (sym (ap is_waiting stage) ∙ waits)

  -- whoever was told waits no more
  pub answered_now : (c : Client) → IsIn c cs2 → is_for e c ≡ true → is_unanswered c ≡ false
  answered_now c j its = by (in_change (is_asked_by e) (told b) c v.clients j)
    where
      by : Changed (is_asked_by e) (told b) v.clients c → is_unanswered c ≡ false
      by (same i isnt) = no_test (is_unanswered c) (λ on. let begun : is_begun c ≡ true = asked_test (is_for e c) (is_begun c) isnt its in let both : true ≡ false = sym begun ∙ unbegun_by c on in cc both)
        where
          unbegun_by : (d : Client) → is_unanswered d ≡ true → is_begun d ≡ false
          unbegun_by d on = at d.stage refl on
            where
              at : (g : Stage) → d.stage ≡ g → unanswered_in g d.brought ≡ true → is_begun d ≡ false
              at Undecided is so = ap (λ (x : Stage). is_begun (record d { stage = x })) is
              at Waiting is so = ap (λ (x : Stage). is_begun (record d { stage = x })) is
              at Passing is so = ap (λ (x : Stage). is_begun (record d { stage = x })) is
              at (Answering q) is so = absurd (cc so)
      by (other d i hit eq) = ap (λ (y : Client). is_unanswered y) eq ∙ answered_told b e d is_told_ through (λ waits. h.kinds e d r.there i (first_holds (is_for e d) (not (is_begun d)) hit) (λ is. cc is) waits)

  asks_by : (c : Client) → IsIn c cs2 → Changed (is_asked_by e) (told b) v.clients c → Asks c → Pending es2 c
  asks_by c j (same i isnt) a =
      let p = h.asks c i (λ is. cc is) a in
      record { ask = p.ask; there = untouched p.ask p.there (λ number. its_not (h.apart p.ask e p.there r.there number) p.its); its = p.its; unheaded = p.unheaded; kind = p.kind }
    where
      its_not : {x : Exchange} → x ≡ e → is_for x c ≡ true → ⊥
      its_not {x} eq its = let both : true ≡ false = sym a.unanswered ∙ answered_now c j (subst (λ (y : Exchange). is_for y c ≡ true) eq its) in cc both
  asks_by c j (other d i hit eq) a = let both : true ≡ false = sym a.unanswered ∙ answered_now c j (ap (λ (y : Client). is_this y.number e.asker) eq ∙ first_holds (is_for e d) (not (is_begun d)) hit) in absurd (cc both)

  amid_by : (c : Client) → Changed (is_asked_by e) (told b) v.clients c → Amid c → Relays es2 c
  amid_by c (same i isnt) a =
      let p = h.amid c i (λ is. cc is) a in
      record { ask = p.ask; there = untouched p.ask p.there (λ number. let both : true ≡ false = sym (relaying_headed p.ask p.body) ∙ ap is_headed (h.apart p.ask e p.there r.there number) ∙ r.unheaded in cc both); its = p.its; body = p.body }
  amid_by c (other d i hit eq) a = record {
    ask = with_body body e;
    there = its_now;
    its = ap (λ (y : Client). is_this y.number e.asker) eq ∙ first_holds (is_for e d) (not (is_begun d)) hit;
    body = passes d i hit (sym (ap (λ (y : Client). is_coming_in y.brought) eq) ∙ a.more);
  }

  behind_by : (k : Conn) (x : Exchange) → IsIn k v.conns → (w : WasThere x) → IsIn x.number k.line → is_headed x ≡ true → (first_of k.line ≡ Some x.number) × (k.answer ≡ None → ⊥)
  behind_by k x l w line is = by w.headed
    where
      there_line : IsIn w.was.number k.line
      there_line = subst (λ n. IsIn n k.line) w.number line

      by : ((x ≡ w.was) × (w.was.number ≡ e.number → ⊥)) ⊎ ((w.was ≡ e) × (is_headed x ≡ true)) → (first_of k.line ≡ Some x.number) × (k.answer ≡ None → ⊥)
      by (inl at) = let g = h.behind k w.was l w.there there_line (ap is_headed (sym at.0) ∙ is) in (g.0 ∙ ap (λ n. Some n) (sym w.number), g.1)
      by (inr at) = let its : w.was.number ≡ e.number = ap (λ (y : Exchange). y.number) at.0 in let g = r.led k l (subst (λ n. IsIn n k.line) its there_line) in (g.0 ∙ ap (λ n. Some n) (sym (w.number ∙ its)), g.1)

  pub told_come : Facts (some_but (Some e.number) conn) At cs2 es2 v.conns v.next_exchange
  told_come = record {
    callers = callers_by;
    apart = apart_by;
    given = λ x i. (let w = was_there x i in subst (λ n. n < v.next_exchange) (sym w.number) (h.given w.was w.there));
    one = λ x y n i j xi yj. (let w = was_there x i in let u = was_there y j in w.number ∙ h.one w.was u.was n w.there u.there (sym w.asker ∙ xi) (sym u.asker ∙ yj) ∙ sym u.number);
    plain = λ x i. (let w = was_there x i in plain_by x w (h.plain w.was w.there));
    fills = λ x c i j its some isnt. fills_by x c (was_there x i) (in_change (is_asked_by e) (told b) c v.clients j) its some;
    kinds = λ x c i j its isnt waits. kinds_by x c (was_there x i) (in_change (is_asked_by e) (told b) c v.clients j) its waits;
    asks = λ c j isnt a. asks_by c j (in_change (is_asked_by e) (told b) c v.clients j) a;
    amid = λ c j isnt a. amid_by c (in_change (is_asked_by e) (told b) c v.clients j) a;
    lined = h.lined;
    conns = h.conns;
    own = λ j k x l m i jl kl. (let w = was_there x i in h.own j k w.was l m w.there (subst (λ n. IsIn n j.line) w.number jl) (subst (λ n. IsIn n k.line) w.number kl));
    placed = λ k x l i line none. (let w = was_there x i in h.placed k w.was l w.there (subst (λ n. IsIn n k.line) w.number line) (sym w.place ∙ none));
    front = λ k a l isnt is. (let g = h.front k a l isnt is in record { number = g.number; first = g.first; headed = λ x i number. (let w = was_there x i in headed_on x w (g.headed w.was w.there (sym w.number ∙ number))) });
    behind = λ k x l i line is. behind_by k x l (was_there x i) line is;
  }
