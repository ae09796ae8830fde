-- What is kept of exchanges that have more of a body to ask, where attempts are lost, exchanges are over, and connections are closed.
use Rattle.std.proofs.Common.{◌≡◌, refl, ℕ, ◌==◌, Bool, true, false, not, ◌&&◌, ◌||◌, List, [], ◌∷◌, map, filter, is_some, Option, Some, None, sym, ap, ◌∙◌, ◌+◌, length}
use Rattle.std.specs.List.{list_any}
use Rattle.pp_pass.specs.Pipe.{Pipe, finished}
use Rattle.pp_target.specs.Key.{text_of}
use Rattle.pp_valid.specs.declared.version.Version.{Version}
use Rattle.pp_law.specs.Closing.{left_alone}
use Rattle.pp_law.specs.Connections.{anew, attempts_of, charge, close_conn, conn, each_conn, each_exchange, end_exchange, exchange, fail, front_of_line, give_up_row, is_conn, is_exchange, is_for, is_out, is_unfilled, leave_place, lose_attempt, lose_place, lost_one, may_ask_again, on_client_of, on_conn, on_exchange, out_of_tries, unplaced, without_ask, without_row}
use Rattle.pp_law.specs.Lists.{Bytes, change, is_some_with}
use Rattle.pp_law.specs.OwnHeads.{join_bound, moved_on, note_sent}
use Rattle.pp_law.specs.Passing.{pour, poured}
use Rattle.pp_law.specs.Responses.{bad_head, bad_response, close_this, deliver, ended, finish, finish_first, is_whole_at_end, may_go_on, rested, skip_body, skipping}
use Rattle.pp_law.specs.Stages.{bound_in, filled_of, is_begun, is_headed, is_pending, on_passed, passed_of}
use Rattle.pp_law.specs.State.{State, Answer, Body, Pending as IsPending, Joining, Relaying, Dropping, Course, Client, Conn, Exchange, Passed, Passes as IsPassed}
use Rattle.pp_law.specs.Table.{is_same_version, row}
use Rattle.pp_laws.specs.Runs.{IsIn}
use Rattle.pp_laws.proofs.Lists.{changed_at, in_find}
use Rattle.pp_laws.proofs.Pieces.{front_by}
use Rattle.pp_laws.proofs.Shrinks.{off}
use Rattle.pp_laws_turn.proofs.Cases.{by_aim_of, each_of, each_so, when, when_so}
use Rattle.pp_laws_turn.proofs.Rows.{clear-keeps}
use Rattle.pp_laws_turn.proofs.View.{Holds, KeepsRows, View, facts_of, holds, view}
use Rattle.pp_laws_left.specs.Bodies.{is_awaited}
use Rattle.pp_laws_left.proofs.OwnedReads.{join-any, note_sent-any}

-- ---- what is kept

-- it has more of a body to ask only where it had, its response is awaited where it was, and has its head where it had
pub record Tame (d e : Exchange) : Type 0 where
  pub number : d.number ≡ e.number
  pub asker : d.asker ≡ e.asker
  pub aim : d.aim ≡ e.aim
  pub left : (d.body_left == 0) ≡ false → (e.body_left == 0) ≡ false
  pub awaited : is_awaited e.body ≡ true → is_awaited d.body ≡ true
  pub unheaded : is_headed d ≡ false → is_headed e ≡ false

pub tame_as : (d e : Exchange) → d.number ≡ e.number → d.asker ≡ e.asker → d.aim ≡ e.aim → ((d.body_left == 0) ≡ false → (e.body_left == 0) ≡ false) → d.body ≡ e.body → Tame d e
tame_as d e number asker aim left body = record { number = number; asker = asker; aim = aim; left = left; awaited = λ is. ap is_awaited body ∙ is; unheaded = λ off_. ap (λ (b : Body). not (is_pending b)) (sym body) ∙ off_ }

-- the same client, at the same stage
pub record Staged (d c : Client) : Type 0 where
  pub number : d.number ≡ c.number
  pub stage : d.stage ≡ c.stage

-- which changes have to keep it; of whoever gives up a row, this is known
pub record Suits (E : Exchange → Type 0) (P : View → Type 0) : Type 0 where
  pub clients : (f : Client → Client) → ((c : Client) → Staged (f c) c) → (v : View) → P v → P (record v { clients = map f v.clients })
  pub conns : (ks : List Conn) (v : View) → P v → P (record v { conns = ks })
  pub rows : KeepsRows P
  pub asks : (p : Exchange → Bool) (f : Exchange → Exchange) → ((e : Exchange) → p e ≡ true → Tame (f e) e) → (v : View) → P v → P (record v { exchanges = change p f v.exchanges })
  pub over : (test : Exchange → Bool) (v : View) → P v → P (record v { exchanges = filter test v.exchanges })
  pub alone : (e : Exchange) → E e → is_some (filled_of e) ≡ true → (v : View) → P v → P (record v { exchanges = change (is_exchange e.number) left_alone v.exchanges })
  pub known : (e : Exchange) (v : View) → IsIn e v.exchanges → P v → E e

-- ---- clients, connections and exchanges by number

staged_at : (f : Client → Client) (c : Client) (t : Bool) → Staged (f c) c → Staged (elim t as (λ d. Client) [ true ↦ f c | false ↦ c ]) c
staged_at f c true kept = kept
staged_at f c false kept = record { number = refl; stage = refl }

pub on_client_of-suits : {E : Exchange → Type 0} {P : View → Type 0} (w : Suits E P) (e : Exchange) (f : Client → Client) (s : State) → ((c : Client) → Staged (f c) c) → Holds P s → Holds P (on_client_of e f s)
unfolding on_client_of
on_client_of-suits w e f s kept h = holds (w.clients (changed_at (is_for e) f) (λ c. staged_at f c (is_for e c) (kept c)) (view s) (facts_of h))

pub on_conn-suits : {E : Exchange → Type 0} {P : View → Type 0} (w : Suits E P) (n : ℕ) (f : Conn → Conn) (s : State) → Holds P s → Holds P (on_conn n f s)
unfolding on_conn
on_conn-suits w n f s h = holds (w.conns (change (is_conn n) f s.conns) (view s) (facts_of h))

pub on_exchange-suits : {E : Exchange → Type 0} {P : View → Type 0} (w : Suits E P) (n : ℕ) (f : Exchange → Exchange) (s : State) → ((e : Exchange) → Tame (f e) e) → Holds P s → Holds P (on_exchange n f s)
unfolding on_exchange
on_exchange-suits w n f s tame h = holds (w.asks (is_exchange n) f (λ e hit. tame e) (view s) (facts_of h))

pub end_exchange-suits : {E : Exchange → Type 0} {P : View → Type 0} (w : Suits E P) (n : ℕ) (s : State) → Holds P s → Holds P (end_exchange n s)
unfolding end_exchange
end_exchange-suits w n s h = holds (w.conns (map (without_ask n) s.conns) (record (view s) { exchanges = filter (λ e. not (is_exchange n e)) s.exchanges }) (w.over (λ e. not (is_exchange n e)) (view s) (facts_of h)))

pub each_exchange-suits : {E : Exchange → Type 0} {P : View → Type 0} (w : Suits E P) (f : Exchange → State → State) → ((e : Exchange) (s : State) → E e → Holds P s → Holds P (f e s)) → (ns : List ℕ) (s : State) → Holds P s → Holds P (each_exchange f ns s)
unfolding each_exchange
each_exchange-suits w f each [] s h = h
each_exchange-suits w f each (n ∷ ns) s h = each_exchange-suits w f each ns _ (each_so (exchange s n) (λ none. h) (λ e found. each e s (w.known e (view s) (in_find (is_exchange n) e s.exchanges found).0 (facts_of h)) h))

pub each_conn-holds : {P : View → Type 0} (f : Conn → State → State) → ((k : Conn) (s : State) → Holds P s → Holds P (f k s)) → (ns : List ℕ) (s : State) → Holds P s → Holds P (each_conn f ns s)
unfolding each_conn
each_conn-holds f each [] s h = h
each_conn-holds f each (n ∷ ns) s h = each_conn-holds f each ns _ (each_of (conn s n) h (λ k. each k s h))

-- ---- attempts

without_row_staged : (c : Client) → Staged (without_row c) c
without_row_staged c = by (is_begun c || c.has_given_up)
  where
    by : (t : Bool) → Staged (elim t as (λ d. Client) [ true ↦ c | false ↦ record c { course = anew c.course; has_given_up = true } ]) c
    by true = record { number = refl; stage = refl }
    by false = record { number = refl; stage = refl }

unfilled_some : (s : State) (e : Exchange) → is_unfilled s e ≡ true → is_some (filled_of e) ≡ true
unfilled_some s e is = by (filled_of e) is
  where
    by : (o : Option Version) → (is_some_with (λ v. is_some_with (λ x. is_same_version v x.version) (row s (text_of e.key))) o && list_any (λ c. is_for e c && is_out c.course) s.clients) ≡ true → is_some o ≡ true
    by None at = absurd (cc at)
    by (Some v) at = refl

alone_by : {E : Exchange → Type 0} {P : View → Type 0} (w : Suits E P) (e : Exchange) (s : State) → E e → is_some (filled_of e) ≡ true → Holds P s → Holds P (on_exchange e.number left_alone s)
unfolding on_exchange
alone_by w e s known some h = holds (w.alone e known some (view s) (facts_of h))

give_up_row-suits : {E : Exchange → Type 0} {P : View → Type 0} (w : Suits E P) (e : Exchange) (s : State) → E e → Holds P s → Holds P (give_up_row e s)
unfolding give_up_row
give_up_row-suits w e s known h = when_so (is_unfilled s e) (λ is. alone_by w e _ known (unfilled_some s e is) (on_client_of-suits w e without_row _ without_row_staged (clear-keeps w.rows (text_of e.key) s h))) (λ isnt. h)

charge-suits : {E : Exchange → Type 0} {P : View → Type 0} (w : Suits E P) (cost : Course → Course) (e : Exchange) (s : State) → E e → Holds P s → Holds P (charge cost e s)
unfolding charge
charge-suits w cost e s known h = give_up_row-suits w e _ known (on_client_of-suits w e (λ c. record c { course = cost c.course }) s (λ c. record { number = refl; stage = refl }) h)

pub lose_attempt-suits : {E : Exchange → Type 0} {P : View → Type 0} (w : Suits E P) (e : Exchange) (s : State) → E e → Holds P s → Holds P (lose_attempt e s)
unfolding lose_attempt
lose_attempt-suits w e s known h = charge-suits w (lost_one (attempts_of e)) e s known h

pub fail-suits : {E : Exchange → Type 0} {P : View → Type 0} (w : Suits E P) (e : Exchange) (s : State) → E e → Holds P s → Holds P (fail e s)
unfolding fail
fail-suits w e s known h = charge-suits w out_of_tries e s known h

-- ---- connections that are closed

on_passed_staged : (f : Passed → Passed) (c : Client) → Staged (on_passed f c) c
on_passed_staged f c = by (passed_of c)
  where
    by : (o : Option Passed) → Staged (elim o as (λ x. Client) [ None ↦ c | Some p ↦ record c { brought = IsPassed (f p) } ]) c
    by None = record { number = refl; stage = refl }
    by (Some p) = record { number = refl; stage = refl }

unplaced_tame : (e : Exchange) → Tame (unplaced e) e
unplaced_tame e = tame_as _ e refl refl refl (λ is. is) refl

leave_place-suits : {E : Exchange → Type 0} {P : View → Type 0} (w : Suits E P) (e : Exchange) (s : State) → Holds P s → Holds P (leave_place e s)
unfolding leave_place
leave_place-suits w e s h =
    when (is_headed e)
    (end_exchange-suits w e.number _ (on_client_of-suits w e (on_passed (λ p. record p { is_short = true })) s (on_passed_staged (λ p. record p { is_short = true })) h))
    (when (may_ask_again s e.number) (on_exchange-suits w e.number unplaced s unplaced_tame h) (end_exchange-suits w e.number s h))

lose_place-suits : {E : Exchange → Type 0} {P : View → Type 0} (w : Suits E P) (counts : Bool) (e : Exchange) (s : State) → E e → Holds P s → Holds P (lose_place counts e s)
unfolding lose_place
lose_place-suits w counts e s known h = when counts (leave_place-suits w e _ (lose_attempt-suits w e s known h)) (leave_place-suits w e s h)

pub close_conn-suits : {E : Exchange → Type 0} {P : View → Type 0} (w : Suits E P) (counts : Bool) (k : Conn) (s : State) → Holds P s → Holds P (close_conn counts k s)
unfolding close_conn
close_conn-suits w counts k s h = each_exchange-suits w (lose_place (counts && not k.has_brought)) (λ e t known ht. lose_place-suits w (counts && not k.has_brought) e t known ht) k.line _ (on_conn-suits w k.number off s h)

pub close_this-suits : {E : Exchange → Type 0} {P : View → Type 0} (w : Suits E P) (n : ℕ) (s : State) → Holds P s → Holds P (close_this n s)
unfolding close_this
close_this-suits w n s h = each_of (conn s n) h (λ k. close_conn-suits w true k s h)

-- ---- a response is whole, or bad

pub pour-suits : {E : Exchange → Type 0} {P : View → Type 0} (w : Suits E P) (e : Exchange) (f : Pipe → Pipe) (s : State) → Holds P s → Holds P (pour e f s)
unfolding pour
pour-suits w e f s h = on_client_of-suits w e (on_passed (λ p. record p { pipe = f p.pipe })) s (on_passed_staged (λ p. record p { pipe = f p.pipe })) h

skip_body-suits : {E : Exchange → Type 0} {P : View → Type 0} (w : Suits E P) (e : Exchange) (s : State) → Holds P s → Holds P (skip_body e s)
unfolding skip_body
skip_body-suits w e s h = by_aim_of e.aim (on_client_of-suits w e skipping s (λ c. record { number = refl; stage = refl }) h) h (λ v from to. h)

done-suits : {E : Exchange → Type 0} {P : View → Type 0} (w : Suits E P) (k : Conn) (e : Exchange) (a : Answer) (s : State) → Holds P s → Holds P (on_conn k.number (rested a.head) (end_exchange e.number (skip_body e (pour e finished s))))
done-suits w k e a s h = on_conn-suits w k.number (rested a.head) _ (end_exchange-suits w e.number _ (skip_body-suits w e _ (pour-suits w e finished s h)))

pub finish-suits : {E : Exchange → Type 0} {P : View → Type 0} (w : Suits E P) (k : Conn) (e : Exchange) (a : Answer) (s : State) → Holds P s → Holds P (finish k e a s)
unfolding finish
finish-suits w k e a s h = when (may_go_on e a.head) (done-suits w k e a s h) (close_this-suits w k.number _ (done-suits w k e a s h))

pub bad_response-suits : {E : Exchange → Type 0} {P : View → Type 0} (w : Suits E P) (k : Conn) (s : State) → Holds P s → Holds P (bad_response k s)
unfolding bad_response
bad_response-suits w k s h = each_so (front_of_line s k) (λ none. close_conn-suits w false k s h) (λ e found. close_conn-suits w false k _ (end_exchange-suits w e.number _ (fail-suits w e s (w.known e (view s) (front_by s k.line e found).0 (facts_of h)) h)))

pub bad_head-suits : {E : Exchange → Type 0} {P : View → Type 0} (w : Suits E P) (k : Conn) (s : State) → Holds P s → Holds P (bad_head k s)
unfolding bad_head
bad_head-suits {E} {P} w k s h = by k.has_brought
  where
    by : (t : Bool) → Holds P (elim t as (λ c. State) [
      | false ↦ bad_response k s
      | true ↦ elim (front_of_line s k) as (λ c. State) [ None ↦ close_conn false k s | Some e ↦ close_conn false k (lose_attempt e s) ]
    ])
    by false = bad_response-suits w k s h
    by true = each_so (front_of_line s k) (λ none. close_conn-suits w false k s h) (λ e found. close_conn-suits w false k _ (lose_attempt-suits w e s (w.known e (view s) (front_by s k.line e found).0 (facts_of h)) h))

finish_first-suits : {E : Exchange → Type 0} {P : View → Type 0} (w : Suits E P) (k : Conn) (a : Answer) (s : State) → Holds P s → Holds P (finish_first k a s)
unfolding finish_first
finish_first-suits w k a s h = each_of (front_of_line s k) h (λ e. finish-suits w k e a s h)

pub ended-suits : {E : Exchange → Type 0} {P : View → Type 0} (w : Suits E P) (is_clean : Bool) (k : Conn) (s : State) → Holds P s → Holds P (ended is_clean k s)
unfolding ended
ended-suits w is_clean k s h =
    each_of k.answer (close_conn-suits w true k s h) (λ a. when (is_clean && is_whole_at_end a) (close_this-suits w k.number _ (finish_first-suits w k a s h)) (close_conn-suits w true k s h))

-- ---- bytes of a body

moved_tame : (m : ℕ) (e : Exchange) → Tame (moved_on m e) e
moved_tame m e = by e.body refl
  where
    same : Tame e e
    same = tame_as e e refl refl refl (λ is. is) refl

    by : (body : Body) → e.body ≡ body → Tame (elim (bound_in body) as (λ c. Exchange) [ None ↦ e | Some b ↦ record e { body = Joining (record b { next = b.next + m }) } ]) e
    by IsPending is = same
    by Relaying is = same
    by Dropping is = same
    by (Joining b) is = record {
      number = refl;
      asker = refl;
      aim = refl;
      left = λ some. some;
      awaited = λ on. let both : false ≡ true = sym (ap is_awaited is) ∙ on in absurd (cc both);
      unheaded = λ off_. absurd (cc off_);
    }

pub deliver-suits : {E : Exchange → Type 0} {P : View → Type 0} (w : Suits E P) (e : Exchange) (a : Answer) (at : ℕ) (bytes : Bytes) (s : State) → Holds P s → Holds P (deliver e a at bytes s)
unfolding deliver join_bound
deliver-suits {E} {P} w e a at bytes s h = pour-suits w e (poured bytes) _ (each_of (bound_in e.body) noted (λ b. on_exchange-suits w e.number (moved_on (length bytes)) _ (moved_tame (length bytes)) (join-any b bytes _ noted)))
  where
    noted : Holds P (note_sent e a at bytes s)
    noted = note_sent-any e a at bytes s h
