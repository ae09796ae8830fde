-- Whoever waits for an exchange has it, also where clients are closed, replies go on and are over, and time goes by.
use Rattle.std.proofs.Common.{◌≡◌, ◌⊎◌, refl, ℕ, zero, suc, ◌+◌, ◌-◌, ◌==◌, max, nat_le, Bool, true, false, not, ◌&&◌, ◌||◌, List, [], ◌∷◌, ◌++◌, drop, length, map, filter, is_some, Option, Some, None, inl, inr, sym, subst, ap, ◌∙◌, arith}
use Rattle.pp_pass.specs.Pipe.{without_first}
use Rattle.pp_text.specs.Bytes.{is_empty}
use Rattle.pp_law.specs.After.{paid}
use Rattle.pp_law.specs.Asking.{ask, ask_body, ask_next, asked_body, asked_text, asking, hang_up, hear, is_writing}
use Rattle.pp_law.specs.Closing.{close_client, exchanges_of, forsake, is_of, leave_one, left_alone}
use Rattle.pp_law.specs.Connections.{anew, client, each_client, each_exchange, end_exchange, exchange, fail, front_of_line, is_client, is_exchange, is_for, is_outstanding, on_client, on_exchange}
use Rattle.pp_law.specs.Hearing.{fronted, heard_by, what_counts}
use Rattle.pp_law.specs.Lists.{Bytes, change, is_some_with}
use Rattle.pp_law.specs.Offers.{has_to_say}
use Rattle.pp_law.specs.Replies.{close_finished, end_replies, end_reply, end_said, is_finished, is_regained, is_said, next_request, regained, regained_by, said_by, said_of, said_of_body}
use Rattle.pp_law.specs.Requests.{Front, NoHeadYet, NoHead, IsRequest}
use Rattle.pp_law.specs.Stages.{is_begun, is_passing, on_passed, passed_of, reply_of}
use Rattle.pp_law.specs.State.{State, Client, Conn, Exchange, Passed, Reply, Stage, Undecided, Waiting, Passing, Answering}
use Rattle.pp_law.specs.Table.{Next, is_next_held, next_in, next_of}
use Rattle.pp_law.specs.Turn.{close_idle_conn, end_patience, is_idle_conn, is_leap, marked_client, marked_conn, marks_anew, owes_answer, renew_marks, tick, tick_to, touch, waits_for_exchange, woken_client}
use Rattle.pp_laws.specs.Runs.{IsIn}
use Rattle.pp_laws.proofs.Lists.{Changed, in_change, in_filter, in_find, in_map, other, same}
use Rattle.pp_laws.proofs.Pieces.{front_by}
use Rattle.pp_laws.proofs.Shrinks.{Shrinks, fail-shrinks, shrinks_same}
use Rattle.pp_laws.proofs.Sound.{first_of}
use Rattle.pp_laws.proofs.Tests.{first_holds, number_same, same_number, second_holds}
use Rattle.pp_laws_coming.specs.Coming.{is_waiting}
use Rattle.pp_laws_turn.proofs.Cases.{each_of, each_so, when, when_so}
use Rattle.pp_laws_turn.proofs.Rows.{swept-keeps}
use Rattle.pp_laws_turn.proofs.View.{Holds, View, facts_of, holds, view}
use Rattle.pp_laws_left.proofs.Keep.{begun_in}
use Rattle.pp_laws_left.proofs.Owned.{Amid, AreFree, Asks, Free, KeptClient, Owned, as_it_was, asker_of, asks_left, clients_kept, kept_same, no_test, none_but, rows}
use Rattle.pp_laws_left.proofs.OwnedConns.{conns_kept, conn_same}
use Rattle.pp_laws_left.proofs.OwnedAsks.{amid_not, asks_not, fail-owned, on_client-owned, on_client_of-owned, on_conn-owned, on_exchange-owned, stands_there, sure_calm}
use Rattle.pp_laws_left.proofs.OwnedOver.{close_conn-owned, each_conn-owned, end_exchange-owned, own_line, own_shrunk}
use Rattle.pp_laws_left.proofs.OwnedGot.{passed_kept}

-- ---- of these numbers one behind the other

pub each_exchange-holds : {P : View → Type 0} (f : Exchange → State → State) → ((e : Exchange) (s : State) → IsIn e s.exchanges → Holds P s → Holds P (f e s)) → (ns : List ℕ) (s : State) → Holds P s → Holds P (each_exchange f ns s)
unfolding each_exchange
each_exchange-holds f each [] s h = h
each_exchange-holds f each (n ∷ ns) s h = each_exchange-holds f each ns _ (each_so (exchange s n) (λ none. h) (λ e found. each e s (in_find (is_exchange n) e s.exchanges found).0 h))

pub each_client-holds : {P : View → Type 0} (f : Client → State → State) → ((c : Client) (s : State) → IsIn c s.clients → Holds P s → Holds P (f c s)) → (ns : List ℕ) (s : State) → Holds P s → Holds P (each_client f ns s)
unfolding each_client
each_client-holds f each [] s h = h
each_client-holds f each (n ∷ ns) s h = each_client-holds f each ns _ (each_so (client s n) (λ none. h) (λ c found. each c s (in_find (is_client n) c s.clients found).0 h))

-- ---- a client is closed

-- those of that number are closing
abbrev AreClosing : ℕ → List Client → Type 0
AreClosing n cs = (c : Client) → IsIn c cs → c.number ≡ n → c.is_closing ≡ true

closing_free : {c : Client} → c.is_closing ≡ true → (Asks c → ⊥) × (Amid c → ⊥)
closing_free on = (λ a. let both : true ≡ false = sym on ∙ a.going in cc both, λ a. let both : true ≡ false = sym on ∙ a.going in cc both)

-- whoever is closing, and what was his
abbrev Closes : Type 0 → ℕ → List ℕ → View → Type 0
Closes At n ns v = Owned none_but At v × AreClosing n v.clients × ((x : Exchange) (k : ℕ) → IsIn x v.exchanges → IsIn x.number ns → x.asker ≡ Some k → k ≡ n)

leave_one-closes : {At : Type 0} (n m : ℕ) (ns : List ℕ) (e : Exchange) (s : State) → IsIn e s.exchanges → e.number ≡ m → Holds (Closes At n (m ∷ ns)) s → Holds (Closes At n (m ∷ ns)) (leave_one e s)
unfolding leave_one on_exchange end_exchange
leave_one-closes {At} n m ns e s there number h = when_so (e.asked == 0) over left
  where
    w : Owned none_but At (view s) × AreClosing n s.clients × ((x : Exchange) (k : ℕ) → IsIn x s.exchanges → IsIn x.number (m ∷ ns) → x.asker ≡ Some k → k ≡ n)
    w = facts_of h

    its : (x : Exchange) (c : Client) → IsIn x s.exchanges → is_exchange e.number x ≡ true → IsIn c s.clients → is_for x c ≡ true → c.is_closing ≡ true
    its x c i hit j its_ = w.1 c j (w.2 x c.number i (inl (same_number x.number e.number hit ∙ number)) (asker_of c.number x.asker its_))

    free : AreFree none_but (is_exchange e.number) s.clients s.exchanges
    free x c i hit j isnt its_ = let off = closing_free {c = c} (its x c i hit j its_) in record { waited = λ un a. off.0 a; more = λ body a. off.1 a }

    over : (e.asked == 0) ≡ true → Holds (Closes At n (m ∷ ns)) (end_exchange e.number s)
    over none = holds (facts_of (end_exchange-owned {but = none_but} {At = At} e.number s free unanswered (holds w.0)), w.1, λ x k i line asks. w.2 x k (in_filter (λ y. not (is_exchange e.number y)) x s.exchanges i).0 line asks)
      where
        unanswered : (k : Conn) (a : _) → IsIn k s.conns → (None ≡ Some k.number → ⊥) → k.answer ≡ Some a → first_of k.line ≡ Some e.number → ⊥
        unanswered k a l isnt is first =
            let g = w.0.front k a l isnt is in
            let both : Some g.number ≡ Some e.number = sym g.first ∙ first in
            let no_ : true ≡ false = sym none ∙ (w.0.plain e there).asked (g.headed e there (sym (cc both))) in
            cc no_

    left : (e.asked == 0) ≡ false → Holds (Closes At n (m ∷ ns)) (on_exchange e.number left_alone s)
    left some = holds (asks_left (is_exchange e.number) free w.0, w.1, λ x k i line asks. by x k line asks (in_change (is_exchange e.number) left_alone x s.exchanges i))
      where
        by : (x : Exchange) (k : ℕ) → IsIn x.number (m ∷ ns) → x.asker ≡ Some k → Changed (is_exchange e.number) left_alone s.exchanges x → k ≡ n
        by x k line asks (same i isnt) = w.2 x k i line asks
        by x k line asks (other y i hit eq) = let both : None ≡ Some k = sym (ap (λ (z : Exchange). z.asker) eq) ∙ asks in absurd (cc both)

leave_each-closes : {At : Type 0} (n : ℕ) (ns : List ℕ) (s : State) → Holds (Closes At n ns) s → Holds (Owned none_but At) (each_exchange leave_one ns s)
unfolding each_exchange
leave_each-closes n [] s h = holds (facts_of h).0
leave_each-closes {At} n (m ∷ ns) s h = leave_each-closes n ns _ (fewer (each_so (exchange s m) (λ none. h) (λ e found. let w = in_find (is_exchange m) e s.exchanges found in leave_one-closes n m ns e s w.0 (same_number e.number m w.1) h)))
  where
    fewer : {t : State} → Holds (Closes At n (m ∷ ns)) t → Holds (Closes At n ns) t
    fewer g = holds ((facts_of g).0, (facts_of g).1, λ x k i line asks. (facts_of g).2 x k i (inr line) asks)

pub close_client-owned : {At : Type 0} (n : ℕ) (is_cut : Bool) (s : State) → Holds (Owned none_but At) s → Holds (Owned none_but At) (close_client n is_cut s)
unfolding close_client on_client
close_client-owned {At} n is_cut s h = swept-keeps (rows none_but At) _ (leave_each-closes n (exchanges_of n s) _ (holds (facts_of first, closing, its)))
  where
    closed : Client → Client
    closed c = record c { is_closing = true; is_cut = c.is_cut || is_cut }

    first : Holds (Owned none_but At) (on_client n (λ c. record c { is_closing = true; is_cut = c.is_cut || is_cut }) s)
    first = on_client-owned n (λ c. record c { is_closing = true; is_cut = c.is_cut || is_cut }) s (λ c. refl) (λ c i hit isnt. as_it_was _ c refl refl refl (λ off_. absurd (cc off_)) (λ is. is)) h

    closing : AreClosing n (change (is_client n) (λ c. record c { is_closing = true; is_cut = c.is_cut || is_cut }) s.clients)
    closing c i number = by (in_change (is_client n) (λ y. record y { is_closing = true; is_cut = y.is_cut || is_cut }) c s.clients i)
      where
        by : Changed (is_client n) (λ y. record y { is_closing = true; is_cut = y.is_cut || is_cut }) s.clients c → c.is_closing ≡ true
        by (same j isnt) = let both : true ≡ false = sym (ap (λ m. m == n) number ∙ number_same n) ∙ isnt in absurd (cc both)
        by (other y j hit eq) = ap (λ (z : Client). z.is_closing) eq

    its : (x : Exchange) (k : ℕ) → IsIn x s.exchanges → IsIn x.number (exchanges_of n s) → x.asker ≡ Some k → k ≡ n
    its x k i line asks =
        let r = in_map (λ (e : Exchange). e.number) x.number (filter (is_of n) s.exchanges) line in
        let w = in_filter (is_of n) r.was s.exchanges r.there in
        let one : x ≡ r.was = (facts_of h).apart x r.was i w.0 r.is in
        let both : Some k ≡ Some n = sym asks ∙ ap (λ (e : Exchange). e.asker) one ∙ asker_of n r.was.asker w.1 in
        cc both

-- ---- replies that are over

next_kept : (c : Client) → KeptClient (next_request c) c
next_kept c = record {
  number = refl;
  asks = λ a. let both : false ≡ true = a.unanswered in absurd (cc both);
  amid = λ a. let both : false ≡ true = a.more in absurd (cc both);
  stage = λ is. let both : false ≡ true = is in absurd (cc both);
  none = λ none. refl;
  begun = λ off_. inr refl;
}

moved_on : {At : Type 0} (n : ℕ) (s : State) → Holds (Owned none_but At) s → Holds (Owned none_but At) (forsake (is_of n) (on_client n next_request s))
unfolding forsake on_client
moved_on {At} n s h = holds (asks_left (is_of n) free (facts_of (on_client-owned {but = none_but} {At = At} n next_request s (λ c. refl) (λ c i hit isnt. next_kept c) h)))
  where
    free : AreFree none_but (is_of n) (change (is_client n) next_request s.clients) s.exchanges
    free x c i hit j isnt its = by (in_change (is_client n) next_request c s.clients j)
      where
        number : c.number ≡ n
        number = let both : Some c.number ≡ Some n = sym (asker_of c.number x.asker its) ∙ asker_of n x.asker hit in cc both

        by : Changed (is_client n) next_request s.clients c → Free x c
        by (same k off_) = let both : true ≡ false = sym (ap (λ m. m == n) number ∙ number_same n) ∙ off_ in absurd (cc both)
        by (other y k on eq) = record {
          waited = λ un a. (let b : Asks (next_request y) = subst (λ (z : Client). Asks z) eq a in let both : false ≡ true = b.unanswered in cc both);
          more = λ body a. (let b : Amid (next_request y) = subst (λ (z : Client). Amid z) eq a in let both : false ≡ true = b.more in cc both);
        }

end_said-owned : {At : Type 0} (c : Client) (s : State) → Holds (Owned none_but At) s → Holds (Owned none_but At) (end_said c s)
unfolding end_said end_reply
end_said-owned {At} c s h = when (is_said c && not c.is_closing) (when c.closes (close_client-owned c.number false s h) (swept-keeps (rows none_but At) _ (moved_on c.number s h))) h

pub end_replies-owned : {At : Type 0} (s : State) → Holds (Owned none_but At) s → Holds (Owned none_but At) (end_replies s)
unfolding end_replies close_finished
end_replies-owned s h = each_client-holds close_finished (λ c t i ht. when (is_finished c) (close_client-owned c.number false t ht) ht) _ _ (each_client-holds end_said (λ c t i ht. end_said-owned c t ht) _ s h)

-- ---- attempts that count anew

regained_facts : (s : State) (c : Client) → is_regained s c ≡ true → (is_waiting c.stage ≡ false) × (passed_of c ≡ None)
regained_facts s c is = (by c.is_closing c.stage refl (first_holds (is_some_with (is_next_held s) (next_of s c)) (not (is_some (passed_of c))) is), none (passed_of c) (second_holds (is_some_with (is_next_held s) (next_of s c)) (not (is_some (passed_of c))) is))
  where
    none : (o : Option Passed) → not (is_some o) ≡ true → o ≡ None
    none None at = refl
    none (Some p) at = absurd (cc at)

    by : (closing : Bool) (g : Stage) → c.stage ≡ g → is_some_with (is_next_held s) (elim closing as (λ x. Option Next) [ true ↦ None | false ↦ elim (elim g as (λ x. Option Reply) [ Undecided ↦ None | Waiting ↦ None | Passing ↦ None | Answering r ↦ Some r ]) as (λ x. Option Next) [ None ↦ None | Some r ↦ next_in s r ] ]) ≡ true → is_waiting c.stage ≡ false
    by true g eq at = absurd (cc at)
    by false Undecided eq at = absurd (cc at)
    by false Waiting eq at = absurd (cc at)
    by false Passing eq at = absurd (cc at)
    by false (Answering r) eq at = ap is_waiting eq

regained_kept : (s : State) (c : Client) → KeptClient (regained_by s c) c
regained_kept s c = by (is_regained s c) refl
  where
    by : (t : Bool) → is_regained s c ≡ t → KeptClient (elim t as (λ x. Client) [ true ↦ record c { course = anew c.course } | false ↦ c ]) c
    by false is = kept_same c
    by true is =
        let w = regained_facts s c is in
        record {
          number = refl;
          asks = λ a. absurd (asks_not (record c { course = anew c.course }) w.0 a);
          amid = λ a. absurd (amid_not (record c { course = anew c.course }) w.1 a);
          stage = λ waits. refl;
          none = λ none. none;
          begun = λ off_. inl off_;
        }

pub clients_all-owned : {At : Type 0} (f : Client → Client) (s : State) → ((c : Client) → KeptClient (f c) c) → Holds (Owned none_but At) s → Holds (Owned none_but At) (record s { clients = map f s.clients })
clients_all-owned f s kept h = holds (clients_kept f (λ c i. (kept c).number) (λ c i isnt. kept c) (facts_of h))

pub regained-owned : {At : Type 0} (s : State) → Holds (Owned none_but At) s → Holds (Owned none_but At) (regained s)
unfolding regained
regained-owned s h = clients_all-owned (regained_by s) s (regained_kept s) h

pub paid-owned : {At : Type 0} (s : State) → Holds (Owned none_but At) s → Holds (Owned none_but At) (paid s)
unfolding paid
paid-owned s h = regained-owned _ (holds (facts_of h))

-- ---- a reply goes on

kept_on : (e d c : Client) → KeptClient e d → KeptClient d c → KeptClient e c
kept_on e d c one two = record {
  number = one.number ∙ two.number;
  asks = λ a. two.asks (one.asks a);
  amid = λ a. two.amid (one.amid a);
  stage = λ is. (let at = one.stage is in at ∙ two.stage (sym (ap is_waiting at) ∙ is));
  none = λ none. one.none (two.none none);
  begun = λ off_. by (one.begun off_);
}
  where
    last : (is_begun c ≡ false) ⊎ (passed_of d ≡ None) → (is_begun c ≡ false) ⊎ (passed_of e ≡ None)
    last (inl was) = inl was
    last (inr none) = inr (one.none none)

    by : (is_begun d ≡ false) ⊎ (passed_of e ≡ None) → (is_begun c ≡ false) ⊎ (passed_of e ≡ None)
    by (inl was) = last (two.begun was)
    by (inr none) = inr none

restaged : (q r : Reply) (c : Client) → c.stage ≡ Answering r → q.has_begun ≡ r.has_begun → KeptClient (record c { stage = Answering q }) c
restaged q r c at begun = record {
  number = refl;
  asks = λ a. let both : false ≡ true = a.unanswered in absurd (cc both);
  amid = λ a. record { going = a.going; tries = a.tries; more = a.more };
  stage = λ is. let both : false ≡ true = is in absurd (cc both);
  none = λ none. none;
  begun = λ off_. inl (ap begun_in at ∙ sym begun ∙ off_);
}

said_kept : (n : ℕ) (c : Client) → KeptClient (said_by n c) c
said_kept n c = by (is_empty c.interim_left)
  where
    taken : Passed → Passed
    taken p = record p { pipe = without_first n p.pipe }

    body : (m : ℕ) (q r : Reply) → c.stage ≡ Answering r → q.has_begun ≡ r.has_begun → (t : Bool) → KeptClient (elim t as (λ x. Client) [
      | true ↦ on_passed (λ p. record p { pipe = without_first m p.pipe }) (record c { stage = Answering q })
      | false ↦ record c { stage = Answering (record q { at = q.at + m }) }
    ]) c
    body m q r at begun true = kept_on _ (record c { stage = Answering q }) c (passed_kept (λ p. record p { pipe = without_first m p.pipe }) (λ p is. is) (record c { stage = Answering q })) (restaged q r c at begun)
    body m q r at begun false = restaged (record q { at = q.at + m }) r c at begun

    of : (r : Reply) → c.stage ≡ Answering r → (t : Bool) → KeptClient (elim t as (λ x. Client) [
      | true ↦ record c { stage = Answering (record r { head_left = drop n r.head_left }) }
      | false ↦ said_of_body (n - length r.head_left) (record r { head_left = [] }) c
    ]) c
    of r at true = restaged (record r { head_left = drop n r.head_left }) r c at refl
    of r at false = body (n - length r.head_left) (record r { head_left = [] }) r at refl (is_passing r.decision)

    staged : (g : Stage) → c.stage ≡ g → KeptClient (elim (elim g as (λ x. Option Reply) [ Undecided ↦ None | Waiting ↦ None | Passing ↦ None | Answering r ↦ Some r ]) as (λ y. Client) [ None ↦ c | Some r ↦ said_of n r c ]) c
    staged Undecided at = kept_same c
    staged Waiting at = kept_same c
    staged Passing at = kept_same c
    staged (Answering r) at = of r at (nat_le n (length r.head_left))

    by : (t : Bool) → KeptClient (elim t as (λ x. Client) [ false ↦ record c { interim_left = drop n c.interim_left } | true ↦ elim (reply_of c) as (λ y. Client) [ None ↦ c | Some r ↦ said_of n r c ] ]) c
    by false = as_it_was _ c refl refl refl (λ off_. off_) (λ is. is)
    by true = staged c.stage refl

pub said_by-owned : {At : Type 0} (c n : ℕ) (s : State) → Holds (Owned none_but At) s → Holds (Owned none_but At) (on_client c (said_by n) s)
said_by-owned c n s h = on_client-owned c (said_by n) s (λ d. (said_kept n d).number) (λ d i hit isnt. said_kept n d) h

heard_kept : (bytes : Bytes) (c : Client) → KeptClient (heard_by bytes c) c
heard_kept bytes c = by c.front
  where
    more : Client
    more = record c { heard = c.heard ++ what_counts c.front (drop c.skip bytes); skip = c.skip - length bytes }

    by : (front : Front) → KeptClient (elim front as (λ x. Client) [ NoHeadYet ↦ fronted more | NoHead status ↦ more | IsRequest r ↦ more ]) c
    by NoHeadYet = as_it_was _ c refl refl refl (λ is. is) (λ is. is)
    by (NoHead status) = as_it_was _ c refl refl refl (λ is. is) (λ is. is)
    by (IsRequest r) = as_it_was _ c refl refl refl (λ is. is) (λ is. is)

pub hear-owned : {At : Type 0} (n : ℕ) (bytes : Bytes) (s : State) → Holds (Owned none_but At) s → Holds (Owned none_but At) (hear n bytes s)
unfolding hear
hear-owned n bytes s h = end_replies-owned _ (on_client-owned n (heard_by bytes) s (λ c. (heard_kept bytes c).number) (λ c i hit isnt. heard_kept bytes c) h)

pub hang_up-owned : {At : Type 0} (n : ℕ) (s : State) → Holds (Owned none_but At) s → Holds (Owned none_but At) (hang_up n s)
unfolding hang_up
hang_up-owned n s h = when (is_writing s.owed n) (close_client-owned n false s h) (end_replies-owned _ (on_client-owned n (λ c. record c { has_hung_up = true }) s (λ c. refl) (λ c i hit isnt. as_it_was _ c refl refl refl (λ is. is) (λ is. is)) h))

more_asked : (a n : ℕ) → (a == 0) ≡ false → (a + n == 0) ≡ false
more_asked zero n is = absurd (cc is)
more_asked (suc a) n is = no_test (suc a + n == 0) (λ hit. none (same_number (suc a + n) 0 hit))
  where
    none : suc a + n ≡ 0 → ⊥
    none at = omega arith

-- of a body of which nothing was left nothing is
pub left_before : (a n : ℕ) → (a - n == 0) ≡ false → (a == 0) ≡ false
left_before a n is = no_test (a == 0) (λ hit. let nothing : a ≡ 0 = same_number a 0 hit in let none : a - n ≡ 0 = omega arith in let both : true ≡ false = sym (ap (λ m. m == 0) none ∙ number_same 0) ∙ is in cc both)

ask_next-owned : {At : Type 0} (e : Exchange) (n : ℕ) (s : State) → Holds (Owned none_but At) s → Holds (Owned none_but At) (ask_next e n s)
unfolding ask_next ask_body
ask_next-owned e n s h =
    when (is_outstanding e)
    (on_client_of-owned e (asked_body n) _ (λ c. refl) (λ c i its. as_it_was _ c refl refl refl (λ is. is) (λ is. is)) (on_exchange-owned e.number (λ x. record x { body_left = x.body_left - n }) s (λ x i hit. record { number = refl; asker = refl; aim = refl; headed = refl; relays = λ is. is; place = λ k l line none. none; plain = λ p. record { bare = p.bare; spelled = p.spelled; asked = p.asked; through = λ some. p.through (left_before x.body_left n some) } }) h))
    (on_exchange-owned e.number (asked_text n s.clock) s (λ x i hit. record { number = refl; asker = refl; aim = refl; headed = refl; relays = λ is. is; place = λ k l line none. none; plain = λ p. record { bare = p.bare; spelled = p.spelled; asked = λ on. more_asked x.asked n (p.asked on); through = p.through } }) h)

pub ask-owned : {At : Type 0} (k n : ℕ) (s : State) → Holds (Owned none_but At) s → Holds (Owned none_but At) (ask k n s)
unfolding ask
ask-owned k n s h = each_of (asking s k) h (λ e. ask_next-owned e n s h)

-- ---- marks, and the clock

pub touch-owned : {At : Type 0} (n : ℕ) (s : State) → Holds (Owned none_but At) s → Holds (Owned none_but At) (touch n s)
unfolding touch
touch-owned n s h = on_conn-owned n (marked_conn s.clock) _ (λ k. conn_same _ k refl refl refl) (on_client-owned n (marked_client s.clock) s (λ c. refl) (λ c i hit isnt. as_it_was _ c refl refl refl (λ is. is) (λ is. is)) h)

marks_anew-owned : {At : Type 0} (now : ℕ) (s : State) → Holds (Owned none_but At) s → Holds (Owned none_but At) (marks_anew now s)
unfolding marks_anew
marks_anew-owned {At} now s h = by (is_leap now s)
  where
    by : (t : Bool) → Holds (Owned none_but At) (elim t as (λ c. State) [ false ↦ s | true ↦ record s { has_ticked = true; clients = map (marked_client now) s.clients; conns = map (marked_conn now) s.conns } ])
    by false = h
    by true = holds (conns_kept (marked_conn now) (λ k i. conn_same _ k refl refl refl) (facts_of (clients_all-owned (marked_client now) s (λ c. as_it_was _ c refl refl refl (λ is. is) (λ is. is)) h)))

woken_kept : (now : ℕ) (s : State) (c : Client) → KeptClient (woken_client now s c) c
woken_kept now s c = by (waits_for_exchange s c && not (has_to_say s c))
  where
    by : (t : Bool) → KeptClient (elim t as (λ d. Client) [ true ↦ marked_client now c | false ↦ c ]) c
    by true = as_it_was _ c refl refl refl (λ is. is) (λ is. is)
    by false = kept_same c

end_patience-owned : {At : Type 0} (k : Conn) (s : State) → At → Holds (Owned none_but At) s → Holds (Owned none_but At) (end_patience k s) × Shrinks s (end_patience k s)
unfolding end_patience
end_patience-owned {At} k s at h = by (owes_answer s k)
  where
    by : (t : Bool) → Holds (Owned none_but At) (elim t as (λ c. State) [ false ↦ s | true ↦ elim (front_of_line s k) as (λ c. State) [ None ↦ s | Some e ↦ fail e s ] ]) × Shrinks s (elim t as (λ c. State) [ false ↦ s | true ↦ elim (front_of_line s k) as (λ c. State) [ None ↦ s | Some e ↦ fail e s ] ])
    by false = (h, shrinks_same s)
    by true = first (front_of_line s k) refl
      where
        first : (o : Option Exchange) → front_of_line s k ≡ o → Holds (Owned none_but At) (elim o as (λ c. State) [ None ↦ s | Some e ↦ fail e s ]) × Shrinks s (elim o as (λ c. State) [ None ↦ s | Some e ↦ fail e s ])
        first None found = (h, shrinks_same s)
        first (Some e) found = let i = (front_by s k.line e found).0 in (fail-owned e s (stands_there e s.exchanges i) (sure_calm {conn = None} e s i at h) h, fail-shrinks e s)

close_idle_conn-owned : {At : Type 0} (k : Conn) (s : State) → At → IsIn k s.conns → Holds (Owned none_but At) s → Holds (Owned none_but At) (close_idle_conn k s)
unfolding close_idle_conn
close_idle_conn-owned k s at there h = let w = end_patience-owned k s at h in when (is_idle_conn s k) (close_conn-owned {ask = None} {conn = None} true k _ (own_shrunk k s _ w.1 (own_line k s there h)) (λ m is. absurd (cc is)) (λ is. (at, refl)) w.0) h

pub tick-owned : {At : Type 0} (now : ℕ) (s : State) → At → Holds (Owned none_but At) s → Holds (Owned none_but At) (tick now s)
unfolding tick tick_to renew_marks
tick-owned {At} now s at h = each_conn-owned close_idle_conn (λ k t i ht. close_idle_conn-owned k t at i ht) _ _ (holds (facts_of (clients_all-owned (woken_client (max s.clock now) (marks_anew (max s.clock now) s)) _ (woken_kept (max s.clock now) (marks_anew (max s.clock now) s)) (marks_anew-owned (max s.clock now) s h))))
