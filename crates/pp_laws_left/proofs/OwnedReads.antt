-- Whoever waits for an exchange has it, also behind what one read brings.
use Rattle.std.proofs.Common.{◌≡◌, refl, ℕ, ◌+◌, ◌==◌, Bool, true, false, not, ◌||◌, List, [], ◌∷◌, ◌++◌, drop, length, find, is_some, Option, Some, None, sym, subst, ap, ◌∙◌}
use Rattle.pp_framing.specs.Body.{Outcome, Done as IsDone, Going, Bad}
use Rattle.pp_framing.specs.Rules.{body_of}
use Rattle.pp_pass.specs.Pipe.{Pipe, with_data}
use Rattle.pp_target.specs.Key.{text_of}
use Rattle.pp_text.specs.Bytes.{is_empty}
use Rattle.pp_law.specs.Chunks.{note_use}
use Rattle.pp_law.specs.Closing.{left_alone}
use Rattle.pp_law.specs.Connections.{charge, close_conn, end_exchange, exchange, fail, front_of_line, give_up_row, is_conn, is_exchange, is_for, is_trying, is_unfilled, lose_attempt, on_client_of, on_conn, on_exchange, out_of_tries, without_row}
use Rattle.pp_law.specs.Lists.{Bytes, is_this}
use Rattle.pp_law.specs.OwnHeads.{join, joined_one, join_bound, moved_on, note_own, note_sent}
use Rattle.pp_law.specs.Passing.{pour, poured}
use Rattle.pp_law.specs.Responses.{Piece, bad_head, bad_response, body_piece, body_piece_of, deliver, finish, payload_of}
use Rattle.pp_law.specs.Stages.{bound_in, bound_of, filled_of, is_begun, is_headed, is_pending, on_passed, passed_of}
use Rattle.pp_law.specs.State.{State, Answer, Body, Bound, Pending as IsPending, Joining, Relaying, Dropping, Client, Conn, Exchange, Instance, Passed, Passes as IsPassed}
use Rattle.pp_law.specs.Table.{clear, instance, is_row_of, swept}
use Rattle.pp_laws.specs.Runs.{IsIn}
use Rattle.pp_laws.proofs.Bodies.{in_first}
use Rattle.pp_laws.proofs.Lists.{Changed, in_change, other, same}
use Rattle.pp_laws.proofs.Pieces.{front_by}
use Rattle.pp_laws.proofs.Shrinks.{end_exchange-shrinks, fail-shrinks, lose_attempt-shrinks, shrinks_on}
use Rattle.pp_laws.proofs.Sound.{first_of}
use Rattle.pp_laws.proofs.Tests.{number_same, same_number}
use Rattle.pp_laws_turn.proofs.Cases.{by_aim_of, each_of, each_so, when}
use Rattle.pp_laws_turn.proofs.View.{Holds, View, facts_of, holds, view}
use Rattle.pp_laws_left.proofs.Owned.{AreFree, KeptAsk, Owned, ask_same, filled_in, none_but, shrunk_for}
use Rattle.pp_laws_left.proofs.OwnedConns.{KeptConn, conns_changed}
use Rattle.pp_laws_left.proofs.OwnedAsks.{AreAlike, Sure, Was, alike, fail-owned, lose_attempt-owned, on_client_of-owned, on_exchange-owned, some_but, stands_there, sure_calm, tries_none}
use Rattle.pp_laws_left.proofs.OwnedOver.{close_conn-owned, end_exchange-owned, find_some, own_line, own_shrunk}
use Rattle.pp_laws_left.proofs.OwnedGot.{IsFirst, finish-owned, over_unasked, passed_kept, passed_number, set_apart}

-- ---- a response that is none

-- behind a failure whoever still has the exchange tries no more
failed_not : (e : Exchange) (s : State) → AreAlike e s.exchanges → (x : Exchange) (c : Client) → IsIn x (fail e s).exchanges → x.number ≡ e.number → IsIn c (fail e s).clients → is_for x c ≡ true → is_trying c.course ≡ true → ⊥
unfolding fail charge give_up_row clear swept on_client_of on_exchange
failed_not e s known x c = by (is_unfilled (on_client_of e (λ y. record y { course = out_of_tries y.course }) s) e)
  where
    lost : State
    lost = on_client_of e (λ y. record y { course = out_of_tries y.course }) s

    at : Was x e → is_for x c ≡ true → is_trying c.course ≡ true → Changed (is_for e) (λ y. record y { course = out_of_tries y.course }) s.clients c → ⊥
    at w its tries (same k isnt) = let both : true ≡ false = sym (shrunk_for x e c w.0 its) ∙ isnt in cc both
    at w its tries (other d k hit eq) = tries_none d.course (sym (ap (λ (y : Client). is_trying y.course) eq) ∙ tries)

    left : x.number ≡ e.number → is_for x c ≡ true → Changed (is_exchange e.number) left_alone s.exchanges x → ⊥
    left number its (same i isnt) = let both : true ≡ false = sym (ap (λ m. m == e.number) number ∙ number_same e.number) ∙ isnt in cc both
    left number its (other y i hit eq) = let both : false ≡ true = sym (ap (λ (z : Exchange). is_this c.number z.asker) eq) ∙ its in cc both

    by : (t : Bool) → let u : State = elim t as (λ z. State) [ false ↦ lost | true ↦ on_exchange e.number left_alone (on_client_of e without_row (clear (text_of e.key) lost)) ] in
        IsIn x u.exchanges → x.number ≡ e.number → IsIn c u.clients → is_for x c ≡ true → is_trying c.course ≡ true → ⊥
    by false i number j its tries = at (known x i number) its tries (in_change (is_for e) (λ y. record y { course = out_of_tries y.course }) c s.clients j)
    by true i number j its tries = left number its (in_change (is_exchange e.number) left_alone x s.exchanges i)

fail_conns : (e : Exchange) (s : State) → (fail e s).conns ≡ s.conns
unfolding fail charge give_up_row clear swept on_client_of on_exchange
fail_conns e s = by (is_unfilled (on_client_of e (λ y. record y { course = out_of_tries y.course }) s) e)
  where
    lost : State
    lost = on_client_of e (λ y. record y { course = out_of_tries y.course }) s

    by : (t : Bool) → (elim t as (λ z. State) [ false ↦ lost | true ↦ on_exchange e.number left_alone (on_client_of e without_row (clear (text_of e.key) lost)) ]).conns ≡ s.conns
    by false = refl
    by true = refl

-- what is known of the first of its line
pub record Knows (ask : Option ℕ) (k : Conn) (s : State) : Type 0 where
  only : (m : ℕ) → ask ≡ Some m → first_of k.line ≡ Some m
  sure : (e : Exchange) → IsIn e s.exchanges → first_of k.line ≡ Some e.number → Sure e s

knows_calm : {At : Type 0} (k : Conn) (s : State) → At → Holds (Owned none_but At) s → Knows None k s
knows_calm k s at h = record { only = λ m is. absurd (cc is); sure = λ e i first. sure_calm {conn = None} e s i at h }

-- where no exchange is the first of its line, none stands apart
gone_first : {ask : Option ℕ} {At : Type 0} (k : Conn) (s : State) → Knows ask k s → front_of_line s k ≡ None → Holds (Owned (some_but ask None) At) s → Holds (Owned none_but At) s
gone_first {ask} {At} k s knows none h = by ask refl
  where
    gone : (m : ℕ) → first_of k.line ≡ Some m → (x : Exchange) → IsIn x s.exchanges → x.number ≡ m → ⊥
    gone m first x i number = at k.line first none
      where
        at : (line : List ℕ) → first_of line ≡ Some m → (elim line as (λ y. Option Exchange) [ [] ↦ None | n ∷ ns ↦ exchange s n ]) ≡ None → ⊥
        at [] is none_ = cc is
        at (n ∷ ns) is none_ =
            let eq : n ≡ m = cc is in
            let w = find_some (is_exchange n) x s.exchanges i (ap (λ z. z == n) (number ∙ sym eq) ∙ number_same n) in
            let both : Some w.0 ≡ None = sym w.1 ∙ none_ in
            cc both

    by : (o : Option ℕ) → ask ≡ o → Holds (Owned none_but At) s
    by None is = subst (λ (o : Option ℕ). Holds (Owned (some_but o None) At) s) is h
    by (Some m) is = holds (let f = facts_of h in record {
      callers = f.callers;
      apart = f.apart;
      given = f.given;
      one = f.one;
      plain = f.plain;
      fills = λ e c i j its some isnt. (let w = f.fills e c i j its some isnt in record { untold = w.untold; calm = λ at off none_. w.calm at off (λ so. gone e.number (knows.only e.number so) e i refl) });
      kinds = f.kinds;
      asks = f.asks;
      amid = f.amid;
      lined = f.lined;
      conns = f.conns;
      own = f.own;
      placed = f.placed;
      front = f.front;
      behind = f.behind;
    })

pub bad_response-owned : {ask : Option ℕ} {At : Type 0} (k : Conn) (s : State) → IsIn k s.conns → Knows ask k s → Holds (Owned (some_but ask None) At) s → Holds (Owned none_but At) (bad_response k s)
unfolding bad_response
bad_response-owned {ask} {At} k s there knows h = each_so (front_of_line s k) (λ none. close_conn-owned {ask = None} {conn = None} false k s (own_line k s there h) (λ m is. absurd (cc is)) (λ is. absurd (cc is)) (gone_first k s knows none h)) (λ e found. by e (front_by s k.line e found))
  where
    by : (e : Exchange) → IsIn e s.exchanges × (first_of k.line ≡ Some e.number) → Holds (Owned none_but At) (close_conn false k (end_exchange e.number (fail e s)))
    by e w = close_conn-owned {ask = None} {conn = Some k.number} false k _ (own_shrunk k s _ (shrinks_on s _ _ (fail-shrinks e s) (end_exchange-shrinks e.number (fail e s))) (own_line k s there h)) (λ m is. let eq : k.number ≡ m = cc is in sym eq) (λ is. absurd (cc is))
        (over_unasked e.number (fail e s) (λ m is. let both : Some m ≡ Some e.number = sym (knows.only m is) ∙ w.1 in cc both) (end_exchange-owned e.number (fail e s) free elsewhere failed))
      where
        failed : Holds (Owned (some_but ask (Some k.number)) At) (fail e s)
        failed = set_apart (Some k.number) (fail e s) (fail-owned e s (stands_there e s.exchanges w.0) (knows.sure e w.0 w.1) h)

        known : AreAlike e s.exchanges
        known = alike e s w.0 h

        free : AreFree (some_but ask (Some k.number)) (is_exchange e.number) (fail e s).clients (fail e s).exchanges
        free x c i hit j isnt its = record {
          waited = λ off a. failed_not e s known x c i (same_number x.number e.number hit) j its a.tries;
          more = λ body a. failed_not e s known x c i (same_number x.number e.number hit) j its a.tries;
        }

        elsewhere : (j : Conn) (b : Answer) → IsIn j (fail e s).conns → (Some k.number ≡ Some j.number → ⊥) → j.answer ≡ Some b → first_of j.line ≡ Some e.number → ⊥
        elsewhere j b l isnt is first = isnt (ap (λ n. Some n) (sym ((facts_of h).own j k e (subst (λ (ks : List Conn). IsIn j ks) (fail_conns e s) l) there w.0 (in_first e.number j.line first) (in_first e.number k.line w.1))))

pub bad_head-owned : {At : Type 0} (k : Conn) (s : State) → At → IsIn k s.conns → Holds (Owned none_but At) s → Holds (Owned none_but At) (bad_head k s)
unfolding bad_head
bad_head-owned {At} k s at there h = by k.has_brought
  where
    by : (t : Bool) → Holds (Owned none_but At) (elim t as (λ c. State) [
      | false ↦ bad_response k s
      | true ↦ elim (front_of_line s k) as (λ c. State) [ None ↦ close_conn false k s | Some e ↦ close_conn false k (lose_attempt e s) ]
    ])
    by false = bad_response-owned k s there (knows_calm k s at h) h
    by true = each_so (front_of_line s k) (λ none. close_conn-owned {ask = None} {conn = None} false k s (own_line k s there h) (λ m is. absurd (cc is)) (λ is. absurd (cc is)) h)
        (λ e found. let w = front_by s k.line e found in
        close_conn-owned {ask = None} {conn = None} false k _ (own_shrunk k s _ (lose_attempt-shrinks e s) (own_line k s there h)) (λ m is. absurd (cc is)) (λ is. absurd (cc is)) (lose_attempt-owned e s (stands_there e s.exchanges w.0) (sure_calm {conn = None} e s w.0 at h) h))

-- ---- the bytes of a body

-- of those of one number, row given up or not
abbrev pub AreSure : ℕ → View → Type 0
AreSure m v = (x : Exchange) → IsIn x v.exchanges → x.number ≡ m → (y : Instance) (c : Client) → find (is_row_of (text_of x.key)) v.instances ≡ Some y → is_some (filled_of x) ≡ true → IsIn c v.clients → is_for x c ≡ true → is_begun c ≡ false → passed_of c ≡ None

abbrev ConnsAre : List Conn → View → Type 0
ConnsAre ks v = v.conns ≡ ks

pub note_sent-any : {P : View → Type 0} (e : Exchange) (a : Answer) (at : ℕ) (bytes : Bytes) (s : State) → Holds P s → Holds P (note_sent e a at bytes s)
unfolding note_sent note_own
note_sent-any e a at bytes s h = by_aim_of e.aim h (when (is_empty bytes) h (holds (facts_of h))) (λ v from to. when (is_empty bytes) h (holds (facts_of h)))

pub join-any : {P : View → Type 0} (b : Bound) (bytes : Bytes) (s : State) → Holds P s → Holds P (join b bytes s)
unfolding join note_use
join-any b bytes s h = each_of (joined_one b bytes s) h (λ x. holds (facts_of h))

moved_kept : (ks : List Conn) (m : ℕ) (e : Exchange) → KeptAsk ks (moved_on m e) e × ((moved_on m e).key ≡ e.key)
moved_kept ks m e = by e.body refl
  where
    by : (body : Body) → e.body ≡ body → KeptAsk ks (elim (bound_in body) as (λ c. Exchange) [ None ↦ e | Some b ↦ record e { body = Joining (record b { next = b.next + m }) } ]) e × ((elim (bound_in body) as (λ c. Exchange) [ None ↦ e | Some b ↦ record e { body = Joining (record b { next = b.next + m }) } ]).key ≡ e.key)
    by IsPending is = (ask_same e, refl)
    by Relaying is = (ask_same e, refl)
    by Dropping is = (ask_same e, refl)
    by (Joining b) is = (
      record {
        number = refl;
        asker = refl;
        aim = refl;
        headed = sym (ap (λ (x : Body). not (is_pending x)) is);
        relays = λ at. (let both : Relaying ≡ Joining b = sym at ∙ is in absurd (cc both));
        place = λ k l line none. none;
        plain = λ p. record { bare = λ none. (let both : false ≡ true = sym (p.bare none) ∙ ap (λ (x : Body). not (is_pending x)) is in absurd (cc both)); spelled = p.spelled; asked = λ on. p.asked (ap (λ (x : Body). not (is_pending x)) is); through = p.through };
      },
      refl,
    )

join_bound-owned : {ask conn_ : Option ℕ} {At : Type 0} (e : Exchange) (bytes : Bytes) (s : State) → Holds (Owned (some_but ask conn_) At) s → Holds (Owned (some_but ask conn_) At) (join_bound e bytes s)
unfolding join_bound
join_bound-owned e bytes s h = each_of (bound_of e) h (λ b. on_exchange-owned e.number (moved_on (length bytes)) _ (λ x i hit. (moved_kept _ (length bytes) x).0) (join-any b bytes s h))

join_bound-conns : (ks : List Conn) (e : Exchange) (bytes : Bytes) (s : State) → Holds (ConnsAre ks) s → Holds (ConnsAre ks) (join_bound e bytes s)
unfolding join_bound on_exchange
join_bound-conns ks e bytes s h = each_of (bound_of e) h (λ b. holds (facts_of (join-any {P = ConnsAre ks} b bytes s h)))

join_bound-sure : (m : ℕ) (e : Exchange) (bytes : Bytes) (s : State) → Holds (AreSure m) s → Holds (AreSure m) (join_bound e bytes s)
unfolding join_bound on_exchange
join_bound-sure m e bytes s h = each_of (bound_of e) h (λ b. moved b (facts_of (join-any {P = AreSure m} b bytes s h)))
  where
    moved : (b : Bound) → AreSure m (view (join b bytes s)) → Holds (AreSure m) (on_exchange e.number (moved_on (length bytes)) (join b bytes s))
    moved b g = holds (λ x i number y c found some j its begun. by x y c number found some j its begun (in_change (is_exchange e.number) (moved_on (length bytes)) x (join b bytes s).exchanges i))
      where
        by : (x : Exchange) (y : Instance) (c : Client) → x.number ≡ m → find (is_row_of (text_of x.key)) (join b bytes s).instances ≡ Some y → is_some (filled_of x) ≡ true → IsIn c (join b bytes s).clients → is_for x c ≡ true → is_begun c ≡ false → Changed (is_exchange e.number) (moved_on (length bytes)) (join b bytes s).exchanges x → passed_of c ≡ None
        by x y c number found some j its begun (same i isnt) = g x i number y c found some j its begun
        by x y c number found some j its begun (other z i hit eq) =
            let w = moved_kept (join b bytes s).conns (length bytes) z in
            let key : x.key ≡ z.key = ap (λ (u : Exchange). u.key) eq ∙ w.1 in
            g z i (sym (ap (λ (u : Exchange). u.number) eq ∙ w.0.number) ∙ number) y c (ap (λ k. find (is_row_of (text_of k)) (join b bytes s).instances) (sym key) ∙ found) (ap (λ a. is_some (filled_in a)) (sym (ap (λ (u : Exchange). u.aim) eq ∙ w.0.aim)) ∙ some) j (ap (is_this c.number) (sym (ap (λ (u : Exchange). u.asker) eq ∙ w.0.asker)) ∙ its) begun

abbrev with_poured : Bytes → Passed → Passed
with_poured bytes p = record p { pipe = poured bytes p.pipe }

poured_goes : (bytes : Bytes) (p : Passed) → (with_poured bytes p).pipe.is_finished ≡ p.pipe.is_finished
poured_goes bytes p = by (is_empty bytes)
  where
    by : (t : Bool) → (elim t as (λ x. Pipe) [ true ↦ p.pipe | false ↦ with_data bytes p.pipe ]).is_finished ≡ p.pipe.is_finished
    by true = refl
    by false = refl

pour_owned : {ask conn_ : Option ℕ} {At : Type 0} (e : Exchange) (bytes : Bytes) (s : State) → Holds (Owned (some_but ask conn_) At) s → Holds (Owned (some_but ask conn_) At) (pour e (poured bytes) s)
unfolding pour
pour_owned e bytes s h = on_client_of-owned e (on_passed (with_poured bytes)) s (passed_number (with_poured bytes)) (λ c i its. passed_kept (with_poured bytes) (λ p is. ap (λ b. not (p.is_short || b)) (sym (poured_goes bytes p)) ∙ is) c) h

pour_sure : (m : ℕ) (e : Exchange) (bytes : Bytes) (s : State) → Holds (AreSure m) s → Holds (AreSure m) (pour e (poured bytes) s)
unfolding pour on_client_of
pour_sure m e bytes s h = holds (λ x i number y c found some j its begun. by x y c i number found some its begun (in_change (is_for e) (on_passed (with_poured bytes)) c s.clients j))
  where
    at : (d : Client) (o : Option Passed) → passed_of d ≡ o → is_begun (elim o as (λ z. Client) [ None ↦ d | Some p ↦ record d { brought = IsPassed (with_poured bytes p) } ]) ≡ false → (is_begun d ≡ false → passed_of d ≡ None) → passed_of (elim o as (λ z. Client) [ None ↦ d | Some p ↦ record d { brought = IsPassed (with_poured bytes p) } ]) ≡ None
    at d None is begun none = is
    at d (Some p) is begun none = let both : Some p ≡ None = sym is ∙ none begun in absurd (cc both)

    by : (x : Exchange) (y : Instance) (c : Client) → IsIn x s.exchanges → x.number ≡ m → find (is_row_of (text_of x.key)) s.instances ≡ Some y → is_some (filled_of x) ≡ true → is_for x c ≡ true → is_begun c ≡ false → Changed (is_for e) (on_passed (with_poured bytes)) s.clients c → passed_of c ≡ None
    by x y c i number found some its begun (same j isnt) = facts_of h x i number y c found some j its begun
    by x y c i number found some its begun (other d j hit eq) =
        ap (λ (u : Client). passed_of u) eq ∙ at d (passed_of d) refl (ap (λ (u : Client). is_begun u) (sym eq) ∙ begun) (λ off. facts_of h x i number y d found some j (ap (λ n. is_this n x.asker) (sym (ap (λ (u : Client). u.number) eq ∙ passed_number (with_poured bytes) d)) ∙ its) off)

pour_conns : (ks : List Conn) (e : Exchange) (bytes : Bytes) (s : State) → Holds (ConnsAre ks) s → Holds (ConnsAre ks) (pour e (poured bytes) s)
unfolding pour on_client_of
pour_conns ks e bytes s h = holds (facts_of h)

-- whose one of that number is, if it is anybody's
abbrev AskersAre : Exchange → View → Type 0
AskersAre e v = (x : Exchange) (n : ℕ) → IsIn x v.exchanges → x.number ≡ e.number → x.asker ≡ Some n → e.asker ≡ Some n

poured_askers : (e : Exchange) (bytes : Bytes) (s : State) → Holds (AskersAre e) s → Holds (AskersAre e) (pour e (poured bytes) s)
unfolding pour on_client_of
poured_askers e bytes s h = holds (facts_of h)

joined_askers : (e : Exchange) (bytes : Bytes) (s : State) → Holds (AskersAre e) s → Holds (AskersAre e) (join_bound e bytes s)
unfolding join_bound on_exchange
joined_askers e bytes s h = each_of (bound_of e) h (λ b. moved b (facts_of (join-any {P = AskersAre e} b bytes s h)))
  where
    moved : (b : Bound) → AskersAre e (view (join b bytes s)) → Holds (AskersAre e) (on_exchange e.number (moved_on (length bytes)) (join b bytes s))
    moved b g = holds (λ x n i number asks. by x n number asks (in_change (is_exchange e.number) (moved_on (length bytes)) x (join b bytes s).exchanges i))
      where
        by : (x : Exchange) (n : ℕ) → x.number ≡ e.number → x.asker ≡ Some n → Changed (is_exchange e.number) (moved_on (length bytes)) (join b bytes s).exchanges x → e.asker ≡ Some n
        by x n number asks (same i isnt) = g x n i number asks
        by x n number asks (other z i hit eq) = let w = (moved_kept (join b bytes s).conns (length bytes) z).0 in g z n i (same_number z.number e.number hit) (sym (ap (λ (u : Exchange). u.asker) eq ∙ w.asker) ∙ asks)

-- what came of a response that is under way
conns_fresh : {ask : Option ℕ} {At : Type 0} (k : Conn) (a b : Answer) (s : State) → IsIn k s.conns → k.answer ≡ Some a → Holds (Owned (some_but ask None) At) s → Owned (some_but ask None) At (view (on_conn k.number (λ c. record c { answer = Some b }) s))
unfolding on_conn
conns_fresh k a b s there is h = conns_changed (is_conn k.number) (λ c. record c { answer = Some b }) kept (facts_of h)
  where
    kept : (c : Conn) → IsIn c s.conns → is_conn k.number c ≡ true → KeptConn (record c { answer = Some b }) c
    kept c i hit = record { number = refl; line = refl; some = λ d so. (a, ap (λ (x : Conn). x.answer) ((facts_of h).conns c k i there (same_number c.number k.number hit)) ∙ is); none = λ none. absurd (cc none) }

-- ---- piece by piece

-- behind a piece: on the connection of that number a response may be under way whose exchange stands apart
pub record Half (n m : ℕ) (s : State) : Type 0 where
  pub line : (j : Conn) → IsIn j s.conns → j.number ≡ n → (first_of j.line ≡ Some m) × (j.answer ≡ None → ⊥)
  pub sure : Holds (AreSure m) s

pub record GotAt (At : Type 0) (n : ℕ) (s : State) : Type 0 where
  pub ask : Option ℕ
  pub owned : Holds (Owned (some_but ask None) At) s
  pub half : (m : ℕ) → ask ≡ Some m → Half n m s

pub got_whole : {At : Type 0} (n : ℕ) (s : State) → Holds (Owned none_but At) s → GotAt At n s
got_whole n s h = record { ask = None; owned = h; half = λ m is. absurd (cc is) }

-- all of its first are sure
sure_first : {At : Type 0} (n : ℕ) (k : Conn) (s : State) → At → IsIn k s.conns → k.number ≡ n → GotAt At n s → (m : ℕ) → first_of k.line ≡ Some m → Holds (AreSure m) s
sure_first {At} n k s at there number g m first = by g.ask refl
  where
    by : (o : Option ℕ) → g.ask ≡ o → Holds (AreSure m) s
    by None is = holds (λ x i eq y c found some j its begun. sure_calm {conn = None} x s i at (subst (λ (o : Option ℕ). Holds (Owned (some_but o None) At) s) is g.owned) y c found some j its begun)
    by (Some l) is =
        let w = g.half l is in
        let both : Some m ≡ Some l = sym first ∙ (w.line k there number).0 in
        let eq : m ≡ l = cc both in
        subst (λ z. Holds (AreSure z) s) (sym eq) w.sure

pub answering : {ask : Option ℕ} {At : Type 0} (k : Conn) (a : Answer) (e : Exchange) (s : State) → IsIn k s.conns → k.answer ≡ Some a → IsIn e s.exchanges → first_of k.line ≡ Some e.number → Holds (Owned (some_but ask None) At) s → is_headed e ≡ true
answering k a e s there is i first h =
    let w = (facts_of h).front k a there (λ none. cc none) is in
    let both : Some e.number ≡ Some w.number = sym first ∙ w.first in
    w.headed e i (cc both)

pub body_piece-got : {At : Type 0} (n : ℕ) (k : Conn) (a : Answer) (bytes : Bytes) (s : State) → At → IsIn k s.conns → k.number ≡ n → k.answer ≡ Some a → GotAt At n s → GotAt At n (body_piece k a bytes s).state
unfolding deliver on_conn
body_piece-got {At} n k a bytes s at there number is g = by (front_of_line s k) refl
  where
    only : (m : ℕ) → g.ask ≡ Some m → first_of k.line ≡ Some m
    only m so = ((g.half m so).line k there number).0

    knows : Knows g.ask k s
    knows = record { only = only; sure = λ e i first y c found some j its begun. facts_of (sure_first n k s at there number g e.number first) e i refl y c found some j its begun }

    of_first : (e : Exchange) → IsIn e s.exchanges → first_of k.line ≡ Some e.number → GotAt At n (body_piece_of k a e bytes s).state
    of_first e i first = at_outcome (body_of a.rule (a.raw ++ bytes)).outcome
      where
        fresh : Bytes
        fresh = drop (length (payload_of a)) (body_of a.rule (a.raw ++ bytes)).payload

        t : State
        t = deliver e a (length (payload_of a)) fresh s

        headed : is_headed e ≡ true
        headed = answering k a e s there is i first g.owned

        owned_t : Holds (Owned (some_but g.ask None) At) t
        owned_t = pour_owned e fresh _ (join_bound-owned e fresh _ (note_sent-any e a (length (payload_of a)) fresh s g.owned))

        conns_t : t.conns ≡ s.conns
        conns_t = facts_of (pour_conns s.conns e fresh _ (join_bound-conns s.conns e fresh _ (note_sent-any {P = ConnsAre s.conns} e a (length (payload_of a)) fresh s (holds refl))))

        sure_t : Holds (AreSure e.number) t
        sure_t = pour_sure e.number e fresh _ (join_bound-sure e.number e fresh _ (note_sent-any {P = AreSure e.number} e a (length (payload_of a)) fresh s (sure_first n k s at there number g e.number first)))

        there_t : IsIn k t.conns
        there_t = subst (λ (ks : List Conn). IsIn k ks) (sym conns_t) there

        alone : (j : Conn) → IsIn j t.conns → IsIn e.number j.line → j.number ≡ k.number
        alone j l line = (facts_of g.owned).own j k e (subst (λ (ks : List Conn). IsIn j ks) conns_t l) there i line (in_first e.number k.line first)

        asker_t : Holds (AskersAre e) t
        asker_t = poured_askers e fresh _ (joined_askers e fresh _ (note_sent-any {P = AskersAre e} e a (length (payload_of a)) fresh s (holds (λ x m j eq asks. ap (λ (y : Exchange). y.asker) (sym ((facts_of g.owned).apart x e j i eq)) ∙ asks))))

        firsts : IsFirst k e t.exchanges t.conns
        firsts = record {
          place = k;
          there = there_t;
          number = refl;
          first = first;
          alone = alone;
          headed = λ x j eq. (let w = (facts_of owned_t).front k a there_t (λ none. cc none) is in let both : Some e.number ≡ Some w.number = sym first ∙ w.first in w.headed x j (eq ∙ cc both));
          asker = λ x m j eq asks. facts_of asker_t x m j eq asks;
        }

        going : GotAt At n (on_conn k.number (λ c. record c { answer = Some (record a { raw = a.raw ++ bytes }) }) t)
        going = record {
          ask = g.ask;
          owned = on_answered owned_t;
          half = λ m so. record { line = λ j l eq. line_by m so j eq (in_change (is_conn k.number) (λ c. record c { answer = Some (record a { raw = a.raw ++ bytes }) }) j t.conns l); sure = holds (facts_of (subst (λ z. Holds (AreSure z) t) (same_ask m so) sure_t)) };
        }
          where
            same_ask : (m : ℕ) → g.ask ≡ Some m → e.number ≡ m
            same_ask m so = let both : Some e.number ≡ Some m = sym first ∙ only m so in cc both

            on_answered : Holds (Owned (some_but g.ask None) At) t → Holds (Owned (some_but g.ask None) At) (on_conn k.number (λ c. record c { answer = Some (record a { raw = a.raw ++ bytes }) }) t)
            on_answered h = holds (conns_fresh k a (record a { raw = a.raw ++ bytes }) t there_t is h)

            line_by : (m : ℕ) → g.ask ≡ Some m → (j : Conn) → j.number ≡ n → Changed (is_conn k.number) (λ c. record c { answer = Some (record a { raw = a.raw ++ bytes }) }) t.conns j → (first_of j.line ≡ Some m) × (j.answer ≡ None → ⊥)
            line_by m so j eq (same l isnt) = (g.half m so).line j (subst (λ (ks : List Conn). IsIn j ks) conns_t l) eq
            line_by m so j eq (other c l hit is_) = (ap (λ (x : Conn). first_of x.line) is_ ∙ ((g.half m so).line c (subst (λ (ks : List Conn). IsIn c ks) conns_t l) (sym (ap (λ (x : Conn). x.number) is_) ∙ eq)).0, λ none. let both : Some (record a { raw = a.raw ++ bytes }) ≡ None = sym (ap (λ (x : Conn). x.answer) is_) ∙ none in cc both)

        at_outcome : (outcome : Outcome) → GotAt At n (elim outcome as (λ c. Piece) [
          | Going ↦ record { state = on_conn k.number (λ c. record c { answer = Some (record a { raw = a.raw ++ bytes }) }) t; rest = [] }
          | Bad ↦ record { state = bad_response k t; rest = [] }
          | IsDone rest ↦ record { state = finish k e a t; rest = rest }
        ]).state
        at_outcome Going = going
        at_outcome Bad = got_whole n _ (bad_response-owned k t there_t (record { only = only; sure = λ x j first_ y c found some l its begun. (let both : Some x.number ≡ Some e.number = sym first_ ∙ first in facts_of sure_t x j (cc both) y c found some l its begun) }) owned_t)
        at_outcome (IsDone rest) = got_whole n _ (finish-owned k e a t at (λ m so. let both : Some m ≡ Some e.number = sym (only m so) ∙ first in cc both) firsts owned_t)

    by : (o : Option Exchange) → front_of_line s k ≡ o → GotAt At n (elim o as (λ c. Piece) [ None ↦ record { state = close_conn false k s; rest = [] } | Some e ↦ body_piece_of k a e bytes s ]).state
    by None found = got_whole n _ (close_conn-owned {ask = None} {conn = None} false k s (own_line k s there g.owned) (λ m so. absurd (cc so)) (λ so. absurd (cc so)) (gone_first k s knows found g.owned))
    by (Some e) found = let w = front_by s k.line e found in of_first e w.0 w.1
