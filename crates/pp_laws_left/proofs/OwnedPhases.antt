-- Whoever waits for an exchange has it, also where asks are given up, what nobody sees is dropped, followers ask, and exchanges get their places.
use Rattle.std.proofs.Common.{◌≡◌, ◌⊎◌, refl, ℕ, ◌+◌, ◌-◌, ◌<◌, ◌==◌, nat_lt, Bool, true, false, not, ◌&&◌, ◌||◌, List, [], ◌∷◌, ◌++◌, length, filter, is_some, Option, Some, None, Result, Ok, Err, inl, inr, sym, subst, ap, ◌∙◌, arith}
use Rattle.pp_ask.specs.declared.kind.AskKind.TheVariants.{Hole as AsHole}
use Rattle.pp_plan.specs.Need.{need}
use Rattle.pp_target.specs.Key.{Key}
use Rattle.pp_target.specs.declared.target.TargetFault.{TargetFault}
use Rattle.pp_law.specs.Closing.{forsake, is_of, is_over, leave, left_alone}
use Rattle.pp_law.specs.Connections.{close_conn, end_exchange, front_of_line, is_client, is_exchange, is_for, is_trying, on_client}
use Rattle.pp_law.specs.Deciding.{add_exchange, begin_exchange}
use Rattle.pp_law.specs.Decisions.{fits, lent}
use Rattle.pp_law.specs.Followers.{fill, fill_for, fill_next, fill_span, fill_with, filling_exchange, give_up_asks, hole_of, is_useless_ask, need_of}
use Rattle.pp_law.specs.Lists.{change, is_some_with, is_this}
use Rattle.pp_law.specs.Requests.{Front, Parsed, NoHeadYet, NoHead, IsRequest}
use Rattle.pp_law.specs.Stages.{filled_of, is_headed, is_through, passed_of, reply_of}
use Rattle.pp_law.specs.State.{State, Aim, Through, Own, Filling, AskTooLong, Body, Pending as IsPending, Joining, Relaying, Dropping, Client, Conn, Exchange, Instance, Reply, Stage, Undecided, Waiting, Passing, Answering}
use Rattle.pp_law.specs.Table.{Next, instance, is_brought, is_instance, next_from, next_in, next_of}
use Rattle.pp_law.specs.Unseen.{drop_limit, drop_on, drop_unseen, came_of, is_unseen, is_worth_keeping}
use Rattle.pp_laws.specs.Runs.{IsIn}
use Rattle.pp_laws.proofs.Bodies.{in_first}
use Rattle.pp_laws.proofs.Lists.{Changed, in_change, in_filter, in_find, in_front, in_push, other, same}
use Rattle.pp_laws.proofs.Pieces.{front_by}
use Rattle.pp_laws.proofs.Shrinks.{end_exchange-shrinks}
use Rattle.pp_laws.proofs.Sound.{first_of, source_in}
use Rattle.pp_laws.proofs.Tests.{number_same, same_number, second_holds}
use Rattle.pp_laws_bounds.proofs.Counts.{in_last}
use Rattle.pp_laws_coming.specs.Coming.{is_waiting}
use Rattle.pp_laws_coming.proofs.Facts.{Early, Follows}
use Rattle.pp_laws_lines.proofs.LinedAsks.{text_some}
use Rattle.pp_laws_turn.proofs.Cases.{each_so, when, when_so}
use Rattle.pp_laws_turn.proofs.View.{Holds, View, facts_of, holds}
use Rattle.pp_laws_left.proofs.Owned.{Amid, AreFree, Asks, But, Facts, Fills, Free, Owned, Pending, Plain, Relays, as_it_was, asker_of, asks_left, asks_over, answers_as, none_but}
use Rattle.pp_laws_left.proofs.OwnedAsks.{amid_not, asks_not, filling_waits, on_client-owned, some_but}
use Rattle.pp_laws_left.proofs.OwnedOver.{close_conn-owned, each_conn-owned, end_exchange-owned, own_line, own_shrunk, relaying_headed}
use Rattle.pp_laws_left.proofs.OwnedGot.{set_apart}
use Rattle.pp_laws_left.proofs.OwnedReplies.{each_client-holds}

-- ---- what nobody sees

unseen_free : (s : State) (k : Conn) (e : Exchange) (c : Client) → is_unseen s k e ≡ true → is_for e c ≡ true → Free e c
unseen_free s k e c is its = by e.body refl is
  where
    nobody : (o : Option ℕ) → not (is_some o) ≡ true → is_this c.number o ≡ true → ⊥
    nobody None none at = cc at
    nobody (Some m) none at = cc none

    by : (body : Body) → e.body ≡ body → (elim body as (λ x. Bool) [ IsPending ↦ is_through e && not (is_some e.asker) | Joining b ↦ not (is_worth_keeping s b) | Relaying ↦ not (is_some e.asker) | Dropping ↦ nat_lt drop_limit (came_of k) ]) ≡ true → Free e c
    by IsPending at test = absurd (nobody e.asker (second_holds (is_through e) (not (is_some e.asker)) test) its)
    by (Joining b) at test = record { waited = λ off_ a. (let both : true ≡ false = sym (ap (λ x. not (elim x as (λ y. Bool) [ IsPending ↦ true | Joining d ↦ false | Relaying ↦ false | Dropping ↦ false ])) at) ∙ off_ in cc both); more = λ so a. (let both : Joining b ≡ Relaying = sym at ∙ so in cc both) }
    by Relaying at test = absurd (nobody e.asker test its)
    by Dropping at test = record { waited = λ off_ a. (let both : true ≡ false = sym (ap (λ x. not (elim x as (λ y. Bool) [ IsPending ↦ true | Joining d ↦ false | Relaying ↦ false | Dropping ↦ false ])) at) ∙ off_ in cc both); more = λ so a. (let both : Dropping ≡ Relaying = sym at ∙ so in cc both) }

pub drop_on-owned : {At : Type 0} (k : Conn) (s : State) → IsIn k s.conns → Holds (Owned none_but At) s → Holds (Owned none_but At) (drop_on k s)
unfolding drop_on
drop_on-owned {At} k s there h = each_so (front_of_line s k) (λ none. h) (λ e found. when_so (is_unseen s k e) (λ is. by e (front_by s k.line e found) is) (λ isnt. h))
  where
    by : (e : Exchange) → IsIn e s.exchanges × (first_of k.line ≡ Some e.number) → is_unseen s k e ≡ true → Holds (Owned none_but At) (close_conn false k (end_exchange e.number s))
    by e w is = close_conn-owned {ask = None} {conn = Some k.number} false k _ (own_shrunk k s _ (end_exchange-shrinks e.number s) (own_line k s there h)) (λ m so. let eq : k.number ≡ m = cc so in sym eq) (λ so. absurd (cc so))
        (end_exchange-owned e.number s free elsewhere (set_apart (Some k.number) s h))
      where
        free : AreFree (some_but None (Some k.number)) (is_exchange e.number) s.clients s.exchanges
        free x c i hit j isnt its = let one : x ≡ e = (facts_of h).apart x e i w.0 (same_number x.number e.number hit) in subst (λ (y : Exchange). Free y c) (sym one) (unseen_free s k e c is (subst (λ (y : Exchange). is_for y c ≡ true) one its))

        elsewhere : (j : Conn) (a : _) → IsIn j s.conns → (Some k.number ≡ Some j.number → ⊥) → j.answer ≡ Some a → first_of j.line ≡ Some e.number → ⊥
        elsewhere j a l isnt so first = isnt (ap (λ n. Some n) (sym ((facts_of h).own j k e l there w.0 (in_first e.number j.line first) (in_first e.number k.line w.1))))

pub drop_unseen-owned : {At : Type 0} (s : State) → Holds (Owned none_but At) s → Holds (Owned none_but At) (drop_unseen s)
unfolding drop_unseen
drop_unseen-owned s h = each_conn-owned drop_on (λ k t i ht. drop_on-owned k t i ht) _ s h

-- ---- asks that bring nothing any more

three_on : (a b d : Bool) → (a && not b && not d) ≡ true → (a ≡ true) × (b ≡ false)
three_on true false d is = (refl, refl)
three_on true true d is = absurd (cc is)
three_on false b d is = absurd (cc is)

no_place : (o : Option ℕ) → is_some o ≡ false → o ≡ None
no_place None is = refl
no_place (Some m) is = absurd (cc is)

pub give_up_asks-owned : {At : Type 0} (s : State) → Holds (Owned none_but At) s → Holds (Owned none_but At) (give_up_asks s)
unfolding give_up_asks
give_up_asks-owned {At} s h = holds (asks_over (is_useless_ask s) free (facts_of h))
  where
    free : AreFree none_but (is_useless_ask s) s.clients s.exchanges
    free e c i hit j isnt its =
        let w = three_on (is_some (filled_of e)) (is_some e.place) _ hit in
        record {
          waited = λ off_ a. asks_not c (filling_waits e c w.0 (λ is. (facts_of h).kinds e c i j its isnt is)) a;
          more = λ body a. (let both : true ≡ false = sym (relaying_headed e body) ∙ ((facts_of h).plain e i).bare (no_place e.place w.1) in cc both);
        }

-- ---- an exchange begins

-- of one that is nobody's and nowhere nothing is waited for
pub over_free : (but : But) (cs : List Client) (es : List Exchange) → AreFree but is_over cs es
over_free but cs es e c i hit j isnt its = absurd (by e.asker e.place hit its)
  where
    by : (o p : Option ℕ) → not (is_some o || is_some p) ≡ true → is_this c.number o ≡ true → ⊥
    by None p is at = cc at
    by (Some m) p is at = cc is

pub leave-owned : {but : But} {At : Type 0} (test : Exchange → Bool) (s : State) → AreFree but test s.clients s.exchanges → Holds (Owned but At) s → Holds (Owned but At) (leave test s)
unfolding leave forsake
leave-owned {but} test s free h = holds (asks_over is_over (over_free but s.clients (change test left_alone s.exchanges)) (asks_left test free (facts_of h)))

-- the body of a request is asked for where that is passed
pub body_passed : (t : Bool) (n : ℕ) → ((elim t as (λ x. ℕ) [ true ↦ n | false ↦ 0 ]) == 0) ≡ false → (elim (elim t as (λ x. Aim) [ true ↦ Through | false ↦ Own ]) as (λ x. Bool) [ Through ↦ true | Own ↦ false | Filling v from to ↦ false ]) ≡ true
body_passed true n some = refl
body_passed false n some = absurd (cc some)

-- one more, for one who has none
pub ask_added : {but : But} {At : Type 0} {cs : List Client} {es : List Exchange} {ks : List Conn} {next : ℕ} (e : Exchange) (n : ℕ) → e.number ≡ next → e.place ≡ None → is_headed e ≡ false → 0 < length e.text → ((e.body_left == 0) ≡ false → is_through e ≡ true) → e.asker ≡ Some n → ((x : Exchange) → IsIn x es → x.asker ≡ Some n → ⊥)
    → ((c : Client) → IsIn c cs → c.number ≡ n → is_some (filled_of e) ≡ true → passed_of c ≡ None) → ((c : Client) → IsIn c cs → c.number ≡ n → is_waiting c.stage ≡ true → answers_as c.stage e.aim ≡ true)
    → ((m : ℕ) → but.client ≡ Some m → m ≡ n) → ((c : Client) → IsIn c cs → c.number ≡ n → Amid c → Relays (es ++ e ∷ []) c) → Facts but At cs es ks next
    → Facts (record but { client = None }) At cs (es ++ e ∷ []) ks (next + 1)
ask_added {but} {At} {cs} {es} {ks} {next} e n number place unheaded spelled through asker alone bare kind only amid h = record {
  callers = h.callers;
  apart = λ x y i j eq. apart_by x y (in_push x es e i) (in_push y es e j) eq;
  given = λ x i. given_by x (in_push x es e i);
  one = λ x y m i j xi yj. one_by x y m (in_push x es e i) (in_push y es e j) xi yj;
  plain = λ x i. plain_by x (in_push x es e i);
  fills = λ x c i j its some isnt. fills_by x c (in_push x es e i) j its some;
  kinds = λ x c i j its isnt waits. kinds_by x c (in_push x es e i) j its waits;
  asks = λ c j isnt a. asks_by c j a (c.number == n) refl;
  amid = λ c j isnt a. amid_by c j a (c.number == n) refl;
  lined = λ k m l line. (let lt : m < next = h.lined k m l line in omega arith);
  conns = h.conns;
  own = λ j k x l m i jl kl. own_by j k x l m (in_push x es e i) jl kl;
  placed = λ k x l i line none. placed_by k x l (in_push x es e i) line none;
  front = λ k a l isnt is. (let g = h.front k a l isnt is in record { number = g.number; first = g.first; headed = λ x i eq. headed_by k x l g.number g.first (in_push x es e i) eq (λ j. g.headed x j eq) });
  behind = λ k x l i line headed. behind_by k x l (in_push x es e i) line headed;
}
  where
    lower : (x : Exchange) → IsIn x es → x.number ≡ e.number → ⊥
    lower x i eq = let lt : x.number < next = h.given x i in let is : x.number ≡ next = eq ∙ number in omega arith

    out : (k : Conn) → IsIn k ks → IsIn e.number k.line → ⊥
    out k l line = let lt : e.number < next = h.lined k e.number l line in let is : e.number ≡ next = number in omega arith

    mine : (x : Exchange) (c : Client) → x ≡ e → is_for x c ≡ true → c.number ≡ n
    mine x c eq its = let both : Some c.number ≡ Some n = sym (asker_of c.number x.asker its) ∙ ap (λ (y : Exchange). y.asker) eq ∙ asker in cc both

    apart_by : (x y : Exchange) → IsIn x es ⊎ (x ≡ e) → IsIn y es ⊎ (y ≡ e) → x.number ≡ y.number → x ≡ y
    apart_by x y (inl i) (inl j) eq = h.apart x y i j eq
    apart_by x y (inl i) (inr q) eq = absurd (lower x i (eq ∙ ap (λ (z : Exchange). z.number) q))
    apart_by x y (inr p) (inl j) eq = absurd (lower y j (sym eq ∙ ap (λ (z : Exchange). z.number) p))
    apart_by x y (inr p) (inr q) eq = p ∙ sym q

    given_by : (x : Exchange) → IsIn x es ⊎ (x ≡ e) → x.number < next + 1
    given_by x (inl i) = let lt : x.number < next = h.given x i in omega arith
    given_by x (inr p) = let is : x.number ≡ next = ap (λ (z : Exchange). z.number) p ∙ number in omega arith

    one_by : (x y : Exchange) (m : ℕ) → IsIn x es ⊎ (x ≡ e) → IsIn y es ⊎ (y ≡ e) → x.asker ≡ Some m → y.asker ≡ Some m → x.number ≡ y.number
    one_by x y m (inl i) (inl j) xi yj = h.one x y m i j xi yj
    one_by x y m (inl i) (inr q) xi yj = absurd (alone x i (xi ∙ sym yj ∙ ap (λ (z : Exchange). z.asker) q ∙ asker))
    one_by x y m (inr p) (inl j) xi yj = absurd (alone y j (yj ∙ sym xi ∙ ap (λ (z : Exchange). z.asker) p ∙ asker))
    one_by x y m (inr p) (inr q) xi yj = ap (λ (z : Exchange). z.number) (p ∙ sym q)

    plain_by : (x : Exchange) → IsIn x es ⊎ (x ≡ e) → Plain x
    plain_by x (inl i) = h.plain x i
    plain_by x (inr p) = subst (λ (y : Exchange). Plain y) (sym p) (record { bare = λ none. unheaded; spelled = spelled; asked = λ on. (let both : true ≡ false = sym on ∙ unheaded in absurd (cc both)); through = through })

    apart_client : (x : Exchange) (c : Client) → IsIn x es → is_for x c ≡ true → but.client ≡ Some c.number → ⊥
    apart_client x c i its is = alone x i (asker_of c.number x.asker its ∙ ap (λ m. Some m) (only c.number is))

    fills_by : (x : Exchange) (c : Client) → IsIn x es ⊎ (x ≡ e) → IsIn c cs → is_for x c ≡ true → is_some (filled_of x) ≡ true → Fills but.ask At x c
    fills_by x c (inl i) j its some = h.fills x c i j its some (apart_client x c i its)
    fills_by x c (inr p) j its some = let none : passed_of c ≡ None = bare c j (mine x c p its) (sym (ap (λ (y : Exchange). is_some (filled_of y)) p) ∙ some) in record { untold = λ off_. none; calm = λ at off_ isnt. none }

    kinds_by : (x : Exchange) (c : Client) → IsIn x es ⊎ (x ≡ e) → IsIn c cs → is_for x c ≡ true → is_waiting c.stage ≡ true → answers_as c.stage x.aim ≡ true
    kinds_by x c (inl i) j its waits = h.kinds x c i j its (apart_client x c i its) waits
    kinds_by x c (inr p) j its waits = ap (λ (y : Exchange). answers_as c.stage y.aim) p ∙ kind c j (mine x c p its) waits

    asks_by : (c : Client) → IsIn c cs → Asks c → (t : Bool) → (c.number == n) ≡ t → Pending (es ++ e ∷ []) c
    asks_by c j a true hit = record { ask = e; there = in_last e es; its = ap (is_this c.number) asker ∙ ap (λ m. m == c.number) (sym (same_number c.number n hit)) ∙ number_same c.number; unheaded = unheaded; kind = kind c j (same_number c.number n hit) (asking c a) }
      where
        asking : (d : Client) → Asks d → is_waiting d.stage ≡ true
        asking d b = by (is_waiting d.stage) refl
          where
            by : (t : Bool) → is_waiting d.stage ≡ t → t ≡ true
            by true is = refl
            by false is = absurd (asks_not d is b)
    asks_by c j a false isnt = let p = h.asks c j (λ is. let both : true ≡ false = sym (ap (λ m. m == n) (only c.number is) ∙ number_same n) ∙ isnt in cc both) a in record { ask = p.ask; there = in_front p.ask es (e ∷ []) p.there; its = p.its; unheaded = p.unheaded; kind = p.kind }

    amid_by : (c : Client) → IsIn c cs → Amid c → (t : Bool) → (c.number == n) ≡ t → Relays (es ++ e ∷ []) c
    amid_by c j a true hit = amid c j (same_number c.number n hit) a
    amid_by c j a false isnt = let p = h.amid c j (λ is. let both : true ≡ false = sym (ap (λ m. m == n) (only c.number is) ∙ number_same n) ∙ isnt in cc both) a in record { ask = p.ask; there = in_front p.ask es (e ∷ []) p.there; its = p.its; body = p.body }

    own_by : (j k : Conn) (x : Exchange) → IsIn j ks → IsIn k ks → IsIn x es ⊎ (x ≡ e) → IsIn x.number j.line → IsIn x.number k.line → j.number ≡ k.number
    own_by j k x l m (inl i) jl kl = h.own j k x l m i jl kl
    own_by j k x l m (inr p) jl kl = absurd (out j l (subst (λ (y : Exchange). IsIn y.number j.line) p jl))

    placed_by : (k : Conn) (x : Exchange) → IsIn k ks → IsIn x es ⊎ (x ≡ e) → IsIn x.number k.line → x.place ≡ None → ⊥
    placed_by k x l (inl i) line none = h.placed k x l i line none
    placed_by k x l (inr p) line none = out k l (subst (λ (y : Exchange). IsIn y.number k.line) p line)

    headed_by : (k : Conn) (x : Exchange) → IsIn k ks → (m : ℕ) → first_of k.line ≡ Some m → IsIn x es ⊎ (x ≡ e) → x.number ≡ m → (IsIn x es → is_headed x ≡ true) → is_headed x ≡ true
    headed_by k x l m first (inl i) eq was = was i
    headed_by k x l m first (inr p) eq was = absurd (out k l (subst (λ z. IsIn z k.line) (sym eq ∙ ap (λ (y : Exchange). y.number) p) (in_first m k.line first)))

    behind_by : (k : Conn) (x : Exchange) → IsIn k ks → IsIn x es ⊎ (x ≡ e) → IsIn x.number k.line → is_headed x ≡ true → (first_of k.line ≡ Some x.number) × (k.answer ≡ None → ⊥)
    behind_by k x l (inl i) line headed = h.behind k x l i line headed
    behind_by k x l (inr p) line headed = absurd (out k l (subst (λ (y : Exchange). IsIn y.number k.line) p line))

-- ---- what followers ask for

-- whoever is answered by a row that stands is passed nothing
abbrev AreBare : View → Type 0
AreBare v = (c : Client) (x : Instance) → IsIn c v.clients → IsIn x v.instances → Follows x c → passed_of c ≡ None

abbrev Filled : Type 0 → View → Type 0
Filled At v = Owned none_but At v × AreBare v

pub record IsNext (c : Client) (x : Instance) (s : State) : Type 0 where
  pub there : IsIn x s.instances
  pub source : source_in c.stage ≡ Some x.id
  pub answers : is_waiting c.stage ≡ false

pub next_there : (s : State) (c : Client) (n : Next) → next_of s c ≡ Some n → IsNext c n.source s
next_there s c n is = going c.is_closing is
  where
    from : (x : Instance) (r : Reply) (t : Bool) → (elim t as (λ y. Option Next) [ true ↦ Some (record { source = x; at = r.at; to = r.to }) | false ↦ None ]) ≡ Some n → x ≡ n.source
    from x r true at = let one : record { source = x; at = r.at; to = r.to } ≡ n = cc at in ap (λ (m : Next). m.source) one
    from x r false at = absurd (cc at)

    found_at : (r : Reply) (id : ℕ) (o : Option Instance) → c.stage ≡ Answering r → instance s id ≡ o → source_in c.stage ≡ Some id → (elim o as (λ y. Option Next) [ None ↦ None | Some x ↦ next_from x r ]) ≡ Some n → IsNext c n.source s
    found_at r id None stage found source at = absurd (cc at)
    found_at r id (Some x) stage found source at =
        let w = in_find (is_instance id) x s.instances found in
        let one : x ≡ n.source = from x r (nat_lt r.at r.to) at in
        subst (λ (y : Instance). IsNext c y s) one (record { there = w.0; source = source ∙ ap (λ k. Some k) (sym (same_number x.id id w.1)); answers = ap is_waiting stage })

    sourced_at : (r : Reply) (o : Option ℕ) → c.stage ≡ Answering r → source_in c.stage ≡ o → (elim (elim o as (λ y. Option Instance) [ None ↦ None | Some id ↦ instance s id ]) as (λ y. Option Next) [ None ↦ None | Some x ↦ next_from x r ]) ≡ Some n → IsNext c n.source s
    sourced_at r None stage source at = absurd (cc at)
    sourced_at r (Some id) stage source at = found_at r id (instance s id) stage refl source at

    at_stage : (stage : Stage) → c.stage ≡ stage → (elim (elim stage as (λ y. Option Reply) [ Undecided ↦ None | Waiting ↦ None | Passing ↦ None | Answering r ↦ Some r ]) as (λ y. Option Next) [ None ↦ None | Some r ↦ next_in s r ]) ≡ Some n → IsNext c n.source s
    at_stage Undecided stage at = absurd (cc at)
    at_stage Waiting stage at = absurd (cc at)
    at_stage Passing stage at = absurd (cc at)
    at_stage (Answering r) stage at = sourced_at r r.source stage (ap source_in stage) at

    going : (t : Bool) → (elim t as (λ y. Option Next) [ true ↦ None | false ↦ elim (reply_of c) as (λ y. Option Next) [ None ↦ None | Some r ↦ next_in s r ] ]) ≡ Some n → IsNext c n.source s
    going true at = absurd (cc at)
    going false at = at_stage c.stage refl at

-- those of that client are left
pub none_is_of : (n : ℕ) (test : Exchange → Bool) (es : List Exchange) → ((x : Exchange) → x.asker ≡ Some n → test x ≡ true) → (x : Exchange) → IsIn x (filter (λ e. not (is_over e)) (change test left_alone es)) → x.asker ≡ Some n → ⊥
none_is_of n test es hits x i asks = by (in_change test left_alone x es (in_filter (λ e. not (is_over e)) x (change test left_alone es) i).0)
  where
    by : Changed test left_alone es x → ⊥
    by (same j isnt) = let both : true ≡ false = sym (hits x asks) ∙ isnt in cc both
    by (other y j hit eq) = let both : None ≡ Some n = sym (ap (λ (z : Exchange). z.asker) eq) ∙ asks in cc both

pub is_of_it : (n : ℕ) (x : Exchange) → x.asker ≡ Some n → is_of n x ≡ true
is_of_it n x is = ap (is_this n) is ∙ number_same n

begin_filling : {At : Type 0} (e : Exchange) (c : Client) (s : State) → e.number ≡ s.next_exchange → e.place ≡ None → is_headed e ≡ false → 0 < length e.text → ((e.body_left == 0) ≡ false → is_through e ≡ true) → e.asker ≡ Some c.number → IsIn c s.clients → passed_of c ≡ None → is_waiting c.stage ≡ false → Holds (Filled At) s → Holds (Filled At) (begin_exchange e s)
unfolding begin_exchange add_exchange leave forsake
begin_filling {At} e c s number place unheaded spelled through asker there none answers h = holds (ask_added e c.number number place unheaded spelled through asker alone (λ d j eq some. ap passed_of (one d j eq) ∙ none) (λ d j eq waits. let both : false ≡ true = sym (ap (λ (y : Client). is_waiting y.stage) (one d j eq) ∙ answers) ∙ waits in absurd (cc both)) (λ m is. absurd (cc is)) (λ d j eq a. absurd (amid_not d (ap passed_of (one d j eq) ∙ none) a)) left_facts, (facts_of h).1)
  where
    test : Exchange → Bool
    test = λ x. is_some_with (λ n. is_of n x) e.asker

    one : (d : Client) → IsIn d s.clients → d.number ≡ c.number → d ≡ c
    one d j eq = (facts_of h).0.callers d c j there eq

    hit_of : (x : Exchange) → is_some_with (λ n. is_of n x) e.asker ≡ true → is_of c.number x ≡ true
    hit_of x hit = sym (ap (λ (o : Option ℕ). is_some_with (λ n. is_of n x) o) asker) ∙ hit

    free : AreFree none_but (λ x. is_some_with (λ n. is_of n x) e.asker) s.clients s.exchanges
    free x d i hit j isnt its =
        let numbers : Some d.number ≡ Some c.number = sym (asker_of d.number x.asker its) ∙ asker_of c.number x.asker (hit_of x hit) in
        let is : d ≡ c = one d j (cc numbers) in
        record { waited = λ off_ a. asks_not d (ap (λ (y : Client). is_waiting y.stage) is ∙ answers) a; more = λ body a. amid_not d (ap passed_of is ∙ none) a }

    left_facts : Facts none_but At s.clients (filter (λ x. not (is_over x)) (change (λ x. is_some_with (λ n. is_of n x) e.asker) left_alone s.exchanges)) s.conns s.next_exchange
    left_facts = asks_over is_over (over_free none_but s.clients (change (λ x. is_some_with (λ n. is_of n x) e.asker) left_alone s.exchanges)) (asks_left (λ x. is_some_with (λ n. is_of n x) e.asker) free (facts_of h).0)

    alone : (x : Exchange) → IsIn x (filter (λ y. not (is_over y)) (change (λ y. is_some_with (λ n. is_of n y) e.asker) left_alone s.exchanges)) → x.asker ≡ Some c.number → ⊥
    alone x i asks = none_is_of c.number (λ y. is_some_with (λ n. is_of n y) e.asker) s.exchanges (λ y is. ap (λ (o : Option ℕ). is_some_with (λ n. is_of n y) o) asker ∙ is_of_it c.number y is) x i asks

too_long : {At : Type 0} (n : ℕ) (s : State) → Holds (Filled At) s → Holds (Filled At) (on_client n (λ x. record x { course = AskTooLong }) s)
unfolding on_client
too_long {At} n s h = holds (facts_of (on_client-owned {but = none_but} {At = At} n (λ x. record x { course = AskTooLong }) s (λ x. refl) (λ x i hit isnt. as_it_was _ x refl refl refl (λ off_. off_) (λ is. absurd (cc is))) (holds (facts_of h).0)), λ c x i j follows. by c x j follows (in_change (is_client n) (λ y. record y { course = AskTooLong }) c s.clients i))
  where
    by : (c : Client) (x : Instance) → IsIn x s.instances → Follows x c → Changed (is_client n) (λ y. record y { course = AskTooLong }) s.clients c → passed_of c ≡ None
    by c x j follows (same i isnt) = (facts_of h).1 c x i j follows
    by c x j follows (other y i hit eq) = ap (λ (z : Client). passed_of z) eq ∙ (facts_of h).1 y x i j (record { stands = follows.stands; source = ap (λ (z : Client). source_in z.stage) (sym eq) ∙ follows.source })

fill_span-filled : {At : Type 0} (c : Client) (n : Next) (span : ℕ × ℕ) (s : State) → IsIn c s.clients → passed_of c ≡ None → is_waiting c.stage ≡ false → Holds (Filled At) s → Holds (Filled At) (fill_span c n span s)
unfolding fill_span fill_with
fill_span-filled {At} c n span s there none answers h = by c.front
  where
    by_key : (r : Parsed) (k : Result Key TargetFault) → Holds (Filled At) (elim k as (λ x. State) [ Ok key ↦ fill_with (filling_exchange s c r.head key n span) c s | Err fault ↦ s ])
    by_key r (Ok key) = when (fits (filling_exchange s c r.head key n span).text) (begin_filling (filling_exchange s c r.head key n span) c s refl refl refl (text_some (AsHole span.0 (span.1 - 1) (lent n.source.version.tag)) r.head key s.settings.name) (λ some. absurd (cc some)) refl there none answers h) (too_long c.number s h)
    by_key r (Err fault) = h

    by : (front : Front) → Holds (Filled At) (elim front as (λ x. State) [
      | NoHeadYet ↦ s
      | NoHead status ↦ s
      | IsRequest r ↦ elim r.key as (λ x. State) [ Ok key ↦ fill_with (filling_exchange s c r.head key n span) c s | Err fault ↦ s ]
    ])
    by NoHeadYet = h
    by (NoHead status) = h
    by (IsRequest r) = by_key r r.key

fill_for-filled : {At : Type 0} (c : Client) (s : State) → IsIn c s.clients → Holds (Filled At) s → Holds (Filled At) (fill_for c s)
unfolding fill_for fill_next
fill_for-filled c s there h =
    when (is_trying c.course)
    (each_so (next_of s c) (λ none. h) (λ n is. let w = next_there s c n is in
    each_so (need_of s n) (λ none. h) (λ span need_is. fill_span-filled c n span s there ((facts_of h).1 c n.source there w.there (record { stands = standing n n.source.is_retired (is_brought s n.source n.at) span need_is; source = w.source })) w.answers h))) h
  where
    standing : (n : Next) (retired brought : Bool) (span : ℕ × ℕ) → (elim (retired || brought) as (λ x. Option (ℕ × ℕ)) [ true ↦ None | false ↦ need n.at n.to (hole_of s n) ]) ≡ Some span → retired ≡ false
    standing n true brought span at = absurd (cc at)
    standing n false brought span at = refl

pub fill-owned : {At : Type 0} (s : State) → Holds Early s → Holds (Owned none_but At) s → Holds (Owned none_but At) (fill s)
unfolding fill
fill-owned {At} s e h = when s.is_stopped h (holds (facts_of (each_client-holds {P = Filled At} fill_for (λ c t i ht. fill_for-filled c t i ht) _ s (holds (facts_of h, λ c x i j follows. ((facts_of e).settled c i).bare x j follows)))).0)
