-- The ends of responses and of connections keep what is still to come.
use Rattle.std.proofs.Common.{◌≡◌, refl, ℕ, Bool, true, false, ◌==◌, ◌&&◌, Some, None, sym, subst, ap, ◌∙◌}
use Rattle.pp_head.specs.Response.{Response}
use Rattle.pp_pass.specs.Pipe.{Pipe, finished}
use Rattle.pp_law.specs.Connections.{conn, is_conn, front_of_line, on_conn, end_exchange}
use Rattle.pp_law.specs.Passing.{pour}
use Rattle.pp_law.specs.Responses.{skipping, skip_body, rested, close_this, may_go_on, finish, bad_response, bad_head, is_whole_at_end, finish_first, ended}
use Rattle.pp_law.specs.Stages.{bound_of, on_passed}
use Rattle.pp_law.specs.State.{State, Answer, Bound, Conn, Exchange}
use Rattle.pp_laws.specs.Runs.{IsIn}
use Rattle.pp_laws.proofs.Apart.{IsGone, end_exchange-gone}
use Rattle.pp_laws.proofs.Lists.{Changed, in_change, other, same}
use Rattle.pp_laws.proofs.Tests.{number_same, same_number}
use Rattle.pp_laws_brought.proofs.Asks.{close_conn-keeps, end_exchange-keeps, fail-keeps, lose_attempt-keeps, on_client_of-keeps, on_conn-keeps}
use Rattle.pp_laws_brought.proofs.Cases.{by_aim_of, each_of, when}
use Rattle.pp_laws_brought.proofs.View.{Apart, Away, Fits, Holds, Lesser, facts_of, holds, plain}

-- ---- one is looked at again

apart_by : (m n : ℕ) (t : Bool) → (m == n) ≡ t → t ≡ false → Some m ≡ Some n → ⊥
apart_by m n t is off eq = let one : m ≡ n = cc eq in let both : true ≡ false = sym (number_same n) ∙ ap (λ x. x == n) (sym one) ∙ is ∙ off in cc both

-- where it is gone
pub back_gone : {p : Away} (s : State) → IsGone p.number s → Holds (Some p) s → Holds None s
back_gone {p} s gone h = holds (plain s.conns s.exchanges (λ k e a b i j l is bound. (facts_of h).lines k e a b i j l is bound (λ hit. gone e j (let one : p.number ≡ e.number = cc hit in sym one))) (facts_of h).within)

-- where its connection has the answer
pub back_there : {p : Away} (s : State) → p.is_there ≡ true → Holds (Some p) s → Holds None s
back_there {p} s said h = holds (plain s.conns s.exchanges (λ k e a b i j l is bound. by k e a b i j l is bound (p.number == e.number) refl) (facts_of h).within)
  where
    by : (k : Conn) (e : Exchange) (a : Answer) (b : Bound) → IsIn k s.conns → IsIn e s.exchanges → IsIn e.number k.line → k.answer ≡ Some a → bound_of e ≡ Some b → (t : Bool) → (p.number == e.number) ≡ t → Fits a b.next b.to
    by k e a b i j l is bound false off = (facts_of h).lines k e a b i j l is bound (apart_by p.number e.number false off refl)
    by k e a b i j l is bound true hit =
        let its : p.number ≡ e.number = same_number p.number e.number hit in
        let at : k.number ≡ p.conn = (facts_of h).only p k refl i (subst (λ n. IsIn n k.line) (sym its) l) in
        subst (λ (c : Answer). Fits c b.next b.to) (sym ((facts_of h).answers p k a refl said i at is)) ((facts_of h).its p e b refl j (sym its) bound)

-- where its connection gets the answer
pub back_answered : {p : Away} (s : State) → Holds (Some p) s → Holds None (on_conn p.conn (λ k. record k { answer = Some p.answer }) s)
unfolding on_conn
back_answered {p} s h = holds (plain _ s.exchanges (λ k e a b i j l is bound. by k e a b j l is bound (p.number == e.number) refl (in_change (is_conn p.conn) (λ g. record g { answer = Some p.answer }) k s.conns i)) (facts_of h).within)
  where
    by : (k : Conn) (e : Exchange) (a : Answer) (b : Bound) → IsIn e s.exchanges → IsIn e.number k.line → k.answer ≡ Some a → bound_of e ≡ Some b → (t : Bool) → (p.number == e.number) ≡ t → Changed (is_conn p.conn) (λ g. record g { answer = Some p.answer }) s.conns k → Fits a b.next b.to
    by k e a b j l is bound false off (same i isnt) = (facts_of h).lines k e a b i j l is bound (apart_by p.number e.number false off refl)
    by k e a b j l is bound false off (other g i hit eq) =
        let none : bound_of e ≡ None = (facts_of h).others p g e refl i j (subst (λ (x : Conn). IsIn e.number x.line) eq l) (same_number g.number p.conn hit) (λ one. apart_by p.number e.number false off refl (ap (λ n. Some n) (sym one))) in
        let both : None ≡ Some b = sym none ∙ bound in
        absurd (cc both)
    by k e a b j l is bound true at (same i isnt) =
        let its : p.number ≡ e.number = same_number p.number e.number at in
        let here : k.number ≡ p.conn = (facts_of h).only p k refl i (subst (λ n. IsIn n k.line) (sym its) l) in
        let both : true ≡ false = sym (number_same p.conn) ∙ ap (λ n. n == p.conn) (sym here) ∙ isnt in
        absurd (cc both)
    by k e a b j l is bound true at (other g i hit eq) =
        let its : p.number ≡ e.number = same_number p.number e.number at in
        let both : Some p.answer ≡ Some a = sym (ap (λ (x : Conn). x.answer) eq) ∙ is in
        let one : p.answer ≡ a = cc both in
        subst (λ (c : Answer). Fits c b.next b.to) one ((facts_of h).its p e b refl j (sym its) bound)

-- ---- ends

pub pour-keeps : {but : Apart} (e : Exchange) (f : Pipe → Pipe) (s : State) → Holds but s → Holds but (pour e f s)
unfolding pour
pour-keeps e f s h = on_client_of-keeps e (on_passed (λ p. record p { pipe = f p.pipe })) s h

skip_body-keeps : {but : Apart} (e : Exchange) (s : State) → Holds but s → Holds but (skip_body e s)
unfolding skip_body
skip_body-keeps e s h = by_aim_of e.aim (on_client_of-keeps e skipping s h) h (λ v from to. h)

pub close_this-keeps : {but : Apart} (n : ℕ) (s : State) → Holds but s → Holds but (close_this n s)
unfolding close_this
close_this-keeps n s h = each_of (conn s n) h (λ k. close_conn-keeps true k s h)

rested_less : (head : Response) (k : Conn) → Lesser (rested head k) k
rested_less head k = record { number = refl; line = λ n i. i; answer = λ a is. absurd (cc is) }

pub finish-keeps : {but : Apart} (k : Conn) (e : Exchange) (a : Answer) (s : State) → Holds but s → Holds but (finish k e a s)
unfolding finish
finish-keeps {but} k e a s h = when (may_go_on e a.head) done (close_this-keeps k.number _ done)
  where
    done : Holds but (on_conn k.number (rested a.head) (end_exchange e.number (skip_body e (pour e finished s))))
    done = on_conn-keeps k.number (rested a.head) _ (rested_less a.head) (end_exchange-keeps e.number _ (skip_body-keeps e _ (pour-keeps e finished s h)))

-- of the one that is looked at apart
pub finish-back : {p : Away} (k : Conn) (e : Exchange) (a : Answer) (s : State) → e.number ≡ p.number → Holds (Some p) s → Holds None (finish k e a s)
unfolding finish
finish-back {p} k e a s its h = when (may_go_on e a.head) done (close_this-keeps k.number _ done)
  where
    done : Holds None (on_conn k.number (rested a.head) (end_exchange e.number (skip_body e (pour e finished s))))
    done =
        on_conn-keeps k.number (rested a.head) _ (rested_less a.head)
        (back_gone {p = p} (end_exchange e.number (skip_body e (pour e finished s))) (subst (λ n. IsGone n (end_exchange e.number (skip_body e (pour e finished s)))) its (end_exchange-gone e.number (skip_body e (pour e finished s))))
        (end_exchange-keeps e.number _ (skip_body-keeps e _ (pour-keeps e finished s h))))

pub bad_response-keeps : {but : Apart} (k : Conn) (s : State) → Holds but s → Holds but (bad_response k s)
unfolding bad_response
bad_response-keeps k s h = each_of (front_of_line s k) (close_conn-keeps false k s h) (λ e. close_conn-keeps false k _ (end_exchange-keeps e.number _ (fail-keeps e s h)))

pub bad_head-keeps : {but : Apart} (k : Conn) (s : State) → Holds but s → Holds but (bad_head k s)
unfolding bad_head
bad_head-keeps k s h = when k.has_brought (each_of (front_of_line s k) (close_conn-keeps false k s h) (λ e. close_conn-keeps false k _ (lose_attempt-keeps e s h))) (bad_response-keeps k s h)

finish_first-keeps : {but : Apart} (k : Conn) (a : Answer) (s : State) → Holds but s → Holds but (finish_first k a s)
unfolding finish_first
finish_first-keeps k a s h = each_of (front_of_line s k) h (λ e. finish-keeps k e a s h)

pub ended-keeps : {but : Apart} (is_clean : Bool) (k : Conn) (s : State) → Holds but s → Holds but (ended is_clean k s)
unfolding ended
ended-keeps is_clean k s h =
    each_of k.answer (close_conn-keeps true k s h) (λ a. when (is_clean && is_whole_at_end a) (close_this-keeps k.number _ (finish_first-keeps k a s h)) (close_conn-keeps true k s h))
