-- A response to an exchange that has more of a body to ask goes on: what keeps it, but for what is read of a connection to an origin.
use Rattle.std.proofs.Common.{◌≡◌, refl, ℕ, ◌-◌, ◌==◌, max, Bool, true, false, not, ◌&&◌, ◌||◌, List, filter, Some, None, sym, ap, ◌∙◌}
use Rattle.pp_world.specs.declared.event.Wants.{Wants}
use Rattle.pp_law.specs.After.{brings_to, dropping_body, event, evicted, gone, paid, refused_row, said}
use Rattle.pp_law.specs.Asking.{ask, ask_body, ask_next, asked_body, asked_text, asking, hang_up, hear, is_writing}
use Rattle.pp_law.specs.Closing.{close_client, exchanges_of, forsake, is_of, is_over, leave, leave_one, left_alone}
use Rattle.pp_law.specs.Connections.{client, conn, front_of_line, is_exchange, is_outstanding, on_client, on_client_of, on_conn, on_exchange}
use Rattle.pp_law.specs.Hearing.{heard_by}
use Rattle.pp_law.specs.Lists.{Bytes, change, is_some_with}
use Rattle.pp_law.specs.Phases.{due_victim}
use Rattle.pp_law.specs.Replies.{begin_replies, close_finished, end_replies, end_reply, end_said, is_finished, is_outrun, is_said, next_request, regained, said_by}
use Rattle.pp_law.specs.Stages.{bound_in}
use Rattle.pp_law.specs.State.{State, Body, Pending as IsPending, Joining, Relaying, Dropping, Client, Conn, Exchange, Instance}
use Rattle.pp_law.specs.Table.{forget}
use Rattle.pp_law.specs.Turn.{close_idle_conn, end_patience, is_idle_conn, is_leap, marks_anew, owes_answer, renew_marks, rest_with, tick, tick_to, touch}
use Rattle.pp_law.specs.Unseen.{rested_exchange, wanted_to}
use Rattle.pp_laws.specs.Runs.{IsIn}
use Rattle.pp_laws.proofs.Lists.{Changed, From, in_change, in_filter, in_map, other, same}
use Rattle.pp_laws_turn.proofs.Cases.{each_of, when}
use Rattle.pp_laws_turn.proofs.Clients.{use_said-keeps}
use Rattle.pp_laws_turn.proofs.Rows.{drop_chunk-keeps, swept-keeps}
use Rattle.pp_laws_turn.proofs.View.{Holds, KeepsRows, View, facts_of, holds}
use Rattle.pp_laws_left.specs.Bodies.{is_awaited}
use Rattle.pp_laws_left.proofs.Bodied.{Suits, Tame, close_conn-suits, each_conn-holds, each_exchange-suits, end_exchange-suits, ended-suits, fail-suits, on_exchange-suits, tame_as}
use Rattle.pp_laws_left.proofs.OwnedReplies.{each_client-holds, left_before}

-- ---- what is kept

abbrev pub AreFit : List Exchange → Type 0
AreFit es = (e : Exchange) → IsIn e es → (e.body_left == 0) ≡ false → is_awaited e.body ≡ true

abbrev pub Fit : View → Type 0
Fit v = AreFit v.exchanges

-- of whoever gives up a row nothing has to be known
abbrev pub Any : Exchange → Type 0
Any e = Unit {0}

pub changed_fit : (p : Exchange → Bool) (f : Exchange → Exchange) (es : List Exchange) → ((e : Exchange) → p e ≡ true → Tame (f e) e) → AreFit es → AreFit (change p f es)
changed_fit p f es tame h d i some = by (in_change p f d es i)
  where
    by : Changed p f es d → is_awaited d.body ≡ true
    by (same j isnt) = h d j some
    by (other e j hit eq) = let w = tame e hit in ap (λ (x : Exchange). is_awaited x.body) eq ∙ w.awaited (h e j (w.left (ap (λ (x : Exchange). x.body_left == 0) (sym eq) ∙ some)))

pub left_fit : (test : Exchange → Bool) (es : List Exchange) → AreFit es → AreFit (change test left_alone es)
left_fit test es h d i some = by (in_change test left_alone d es i)
  where
    by : Changed test left_alone es d → is_awaited d.body ≡ true
    by (same j isnt) = h d j some
    by (other e j hit eq) = ap (λ (x : Exchange). is_awaited x.body) eq ∙ h e j (ap (λ (x : Exchange). x.body_left == 0) (sym eq) ∙ some)

pub filtered_fit : (test : Exchange → Bool) (es : List Exchange) → AreFit es → AreFit (filter test es)
filtered_fit test es h e i some = h e (in_filter test e es i).0 some

pub rows : KeepsRows Fit
rows xs next v from h = h

pub fit_suits : Suits Any Fit
fit_suits = record {
  clients = λ f kept v h. h;
  conns = λ ks v h. h;
  rows = λ xs next v from h. h;
  asks = λ p f tame v h. changed_fit p f v.exchanges tame h;
  over = λ test v h. filtered_fit test v.exchanges h;
  alone = λ e known some v h. left_fit (is_exchange e.number) v.exchanges h;
  known = λ e v i h. tt;
}

pub on_client-fit : (n : ℕ) (f : Client → Client) (s : State) → Holds Fit s → Holds Fit (on_client n f s)
unfolding on_client
on_client-fit n f s h = holds (facts_of h)

on_client_of-fit : (e : Exchange) (f : Client → Client) (s : State) → Holds Fit s → Holds Fit (on_client_of e f s)
unfolding on_client_of
on_client_of-fit e f s h = holds (facts_of h)

pub on_conn-fit : (n : ℕ) (f : Conn → Conn) (s : State) → Holds Fit s → Holds Fit (on_conn n f s)
unfolding on_conn
on_conn-fit n f s h = holds (facts_of h)

-- ---- exchanges that are left, and clients that are closed

forsake-fit : (test : Exchange → Bool) (s : State) → Holds Fit s → Holds Fit (forsake test s)
unfolding forsake
forsake-fit test s h = holds (left_fit test s.exchanges (facts_of h))

pub leave-fit : (test : Exchange → Bool) (s : State) → Holds Fit s → Holds Fit (leave test s)
unfolding leave forsake
leave-fit test s h = holds (filtered_fit (λ e. not (is_over e)) (change test left_alone s.exchanges) (left_fit test s.exchanges (facts_of h)))

left_by : (n : ℕ) (s : State) → Holds Fit s → Holds Fit (on_exchange n left_alone s)
unfolding on_exchange
left_by n s h = holds (left_fit (is_exchange n) s.exchanges (facts_of h))

leave_one-fit : (e : Exchange) (s : State) → Holds Fit s → Holds Fit (leave_one e s)
unfolding leave_one
leave_one-fit e s h = when (e.asked == 0) (end_exchange-suits fit_suits e.number s h) (left_by e.number s h)

pub close_client-fit : (n : ℕ) (is_cut : Bool) (s : State) → Holds Fit s → Holds Fit (close_client n is_cut s)
unfolding close_client
close_client-fit n is_cut s h = swept-keeps rows _ (each_exchange-suits fit_suits leave_one (λ e t known ht. leave_one-fit e t ht) (exchanges_of n s) _ (on_client-fit n (λ c. record c { is_closing = true; is_cut = c.is_cut || is_cut }) s h))

-- ---- replies that are over

end_reply-fit : (c : Client) (s : State) → Holds Fit s → Holds Fit (end_reply c s)
unfolding end_reply
end_reply-fit c s h = when c.closes (close_client-fit c.number false s h) (swept-keeps rows _ (forsake-fit (is_of c.number) _ (on_client-fit c.number next_request s h)))

end_said-fit : (c : Client) (s : State) → Holds Fit s → Holds Fit (end_said c s)
unfolding end_said
end_said-fit c s h = when (is_said c && not c.is_closing) (end_reply-fit c s h) h

close_finished-fit : (c : Client) (s : State) → Holds Fit s → Holds Fit (close_finished c s)
unfolding close_finished
close_finished-fit c s h = when (is_finished c) (close_client-fit c.number false s h) h

pub end_replies-fit : (s : State) → Holds Fit s → Holds Fit (end_replies s)
unfolding end_replies
end_replies-fit s h = each_client-holds close_finished (λ c t i ht. close_finished-fit c t ht) _ _ (each_client-holds end_said (λ c t i ht. end_said-fit c t ht) _ s h)

pub regained-fit : (s : State) → Holds Fit s → Holds Fit (regained s)
unfolding regained
regained-fit s h = holds (facts_of h)

pub paid-fit : (s : State) → Holds Fit s → Holds Fit (paid s)
unfolding paid regained
paid-fit s h = holds (facts_of h)

pub event-fit : (s : State) → Holds Fit s → Holds Fit (event s)
unfolding event regained
event-fit s h = holds (facts_of h)

-- ---- reads and writes of clients

pub hear-fit : (n : ℕ) (bytes : Bytes) (s : State) → Holds Fit s → Holds Fit (hear n bytes s)
unfolding hear
hear-fit n bytes s h = end_replies-fit _ (on_client-fit n (heard_by bytes) s h)

pub hang_up-fit : (n : ℕ) (s : State) → Holds Fit s → Holds Fit (hang_up n s)
unfolding hang_up
hang_up-fit n s h = when (is_writing s.owed n) (close_client-fit n false s h) (end_replies-fit _ (on_client-fit n (λ c. record c { has_hung_up = true }) s h))

pub said-fit : (c n : ℕ) (s : State) → Holds Fit s → Holds Fit (said c n s)
unfolding said
said-fit c n s h = each_of (client s c) h (λ x. end_replies-fit _ (on_client-fit c (said_by n) _ (use_said-keeps n x s h)))

ask_next-fit : (e : Exchange) (n : ℕ) (s : State) → Holds Fit s → Holds Fit (ask_next e n s)
unfolding ask_next ask_body
ask_next-fit e n s h =
    when (is_outstanding e)
    (on_client_of-fit e (asked_body n) _ (on_exchange-suits fit_suits e.number (λ x. record x { body_left = x.body_left - n }) s (λ x. tame_as _ x refl refl refl (λ some. left_before x.body_left n some) refl) h))
    (on_exchange-suits fit_suits e.number (asked_text n s.clock) s (λ x. tame_as _ x refl refl refl (λ some. some) refl) h)

pub ask-fit : (k n : ℕ) (s : State) → Holds Fit s → Holds Fit (ask k n s)
unfolding ask
ask-fit k n s h = each_of (asking s k) h (λ e. ask_next-fit e n s h)

pub gone-fit : (is_clean : Bool) (n : ℕ) (s : State) → Holds Fit s → Holds Fit (gone is_clean n s)
unfolding gone
gone-fit is_clean n s h = each_of (conn s n) h (λ k. end_replies-fit _ (ended-suits fit_suits is_clean k s h))

-- ---- marks, and the clock

pub touch-fit : (n : ℕ) (s : State) → Holds Fit s → Holds Fit (touch n s)
unfolding touch on_conn on_client
touch-fit n s h = holds (facts_of h)

marks_anew-fit : (now : ℕ) (s : State) → Holds Fit s → Holds Fit (marks_anew now s)
unfolding marks_anew
marks_anew-fit now s h = when (is_leap now s) (holds (facts_of h)) h

end_patience-fit : (k : Conn) (s : State) → Holds Fit s → Holds Fit (end_patience k s)
unfolding end_patience
end_patience-fit k s h = when (owes_answer s k) (each_of (front_of_line s k) h (λ e. fail-suits fit_suits e s tt h)) h

close_idle_conn-fit : (k : Conn) (s : State) → Holds Fit s → Holds Fit (close_idle_conn k s)
unfolding close_idle_conn
close_idle_conn-fit k s h = when (is_idle_conn s k) (close_conn-suits fit_suits true k _ (end_patience-fit k s h)) h

pub tick-fit : (now : ℕ) (s : State) → Holds Fit s → Holds Fit (tick now s)
unfolding tick tick_to renew_marks
tick-fit now s h = each_conn-holds close_idle_conn (λ k t ht. close_idle_conn-fit k t ht) _ _ (holds (facts_of (marks_anew-fit (max s.clock now) s h)))

rested_tame : (s : State) (e : Exchange) → Tame (rested_exchange s e) e
rested_tame s e = by e.body refl
  where
    as_is : Tame e e
    as_is = tame_as e e refl refl refl (λ some. some) refl

    by : (body : Body) → e.body ≡ body → Tame (elim (bound_in body) as (λ c. Exchange) [ None ↦ e | Some b ↦ record e { body = Joining (wanted_to s b) } ]) e
    by IsPending is = as_is
    by Relaying is = as_is
    by Dropping is = as_is
    by (Joining b) is = record {
      number = refl;
      asker = refl;
      aim = refl;
      left = λ some. some;
      awaited = λ on. let both : false ≡ true = sym (ap is_awaited is) ∙ on in absurd (cc both);
      unheaded = λ off. absurd (cc off);
    }

pub begin_replies-fit : (s : State) → Holds Fit s → Holds Fit (begin_replies s)
unfolding begin_replies
begin_replies-fit s h = swept-keeps rows _ (forsake-fit (is_outrun s) _ (holds (facts_of h)))

pub rest_with-fit : (w : Wants) (s : State) → Holds Fit s → Holds Fit (rest_with w s)
unfolding rest_with
rest_with-fit w s h = holds (λ d i some. by d some (in_map (rested_exchange s) d s.exchanges i))
  where
    by : (d : Exchange) → (d.body_left == 0) ≡ false → From (rested_exchange s) s.exchanges d → is_awaited d.body ≡ true
    by d some r = let t = rested_tame s r.was in ap (λ (x : Exchange). is_awaited x.body) r.is ∙ t.awaited (facts_of h r.was r.there (t.left (ap (λ (x : Exchange). x.body_left == 0) (sym r.is) ∙ some)))

-- ---- memory

pub refused_row-fit : (x : Instance) (s : State) → Holds Fit s → Holds Fit (refused_row x s)
unfolding refused_row forget
refused_row-fit x s h = holds (changed_fit (brings_to x.id) dropping_body s.exchanges (λ e hit. by e e.body refl hit) (facts_of h))
  where
    by : (e : Exchange) (body : Body) → e.body ≡ body → is_some_with (λ b. b.instance == x.id) (bound_in body) ≡ true → Tame (dropping_body e) e
    by e IsPending is at = absurd (cc at)
    by e Relaying is at = absurd (cc at)
    by e Dropping is at = absurd (cc at)
    by e (Joining b) is at = record {
      number = refl;
      asker = refl;
      aim = refl;
      left = λ some. some;
      awaited = λ on. let both : false ≡ true = sym (ap is_awaited is) ∙ on in absurd (cc both);
      unheaded = λ off. absurd (cc off);
    }

pub evicted-fit : (s : State) → Holds Fit s → Holds Fit (evicted s)
unfolding evicted
evicted-fit s h = each_of (due_victim s) h (λ place. drop_chunk-keeps place.0 place.1 s h)
