-- What becomes of clients, rows and entries as attempts are lost, exchanges end and places are given: clients stay, and no row or entry comes.
use Rattle.std.proofs.Common.{◌≡◌, refl, sym, subst, ap, ◌∙◌, ℕ, ◌+◌, nat_le, Bool, true, false, not, ◌&&◌, ◌||◌, List, [], ◌∷◌, Option, Some, None}
use Rattle.std.specs.Option.{option_and_then}
use Rattle.pp_law.specs.Connections.{Placement, WaitsDial, WaitsDrop, anew, attempts_of, charge, close_conn, conn, each_conn, each_exchange, end_exchange, exchange, front_of_line, give_up_row, if_unplaced, is_for, is_unfilled, leave_place, lose_attempt, lose_place, lost_one, may_ask_again, on_client_of, on_conn, on_exchange, place_each, place_for, placing, put_on, unplaced, without_row}
use Rattle.pp_law.specs.Followers.{give_up_asks}
use Rattle.pp_law.specs.Lists.{Bytes, change}
use Rattle.pp_law.specs.Stages.{is_begun, is_headed, on_passed, passed_of}
use Rattle.pp_law.specs.State.{State, Client, Conn, Course, Entry, Exchange, Instance, Passed, Passes, Trying, OutOfTries, AskTooLong, RowRefused}
use Rattle.pp_law.specs.Table.{clear, is_entry_of, is_left_over, is_row_of, swept}
use Rattle.pp_law.specs.Unseen.{drop_on, drop_unseen, is_unseen}
use Rattle.pp_laws.proofs.Lists.{Changed, From, in_change, in_filter, in_map, other, same}
use Rattle.pp_laws.specs.Runs.{IsIn}
use Rattle.pp_peers.specs.declared.placing.Placed.{Placed}
use Rattle.pp_peers.specs.declared.placing.Placed.TheVariants.{On, Dial, CloseThenDial, Wait}
use Rattle.pp_seats_law.specs.Fates.{is_refused}
use Rattle.pp_target.specs.Key.{text_of}

-- ---- one of each

-- at the same request, with the same reply; where it goes on it did, and memory was refused for its row where it was
pub record IsStill (d c : Client) : Type 0 where
  pub number : d.number ≡ c.number
  pub front : d.front ≡ c.front
  pub stage : d.stage ≡ c.stage
  pub going : d.is_closing ≡ false → c.is_closing ≡ false
  pub given : is_refused c.course ≡ false → is_refused d.course ≡ false

pub record WasClient (cs : List Client) (d : Client) : Type 0 where
  pub was : Client
  pub there : IsIn was cs
  pub is : IsStill d was

-- of the same version, and one that stands stood
pub record WasRow (xs : List Instance) (x : Instance) : Type 0 where
  pub was : Instance
  pub there : IsIn was xs
  pub id : x.id ≡ was.id
  pub key : x.key ≡ was.key
  pub version : x.version ≡ was.version
  pub stood : x.is_retired ≡ false → was.is_retired ≡ false

-- ---- all of them

pub record Facts (o : State) (cs : List Client) (xs : List Instance) (es : List Entry) : Type 0 where
  pub clients : (c : Client) → IsIn c cs → WasClient o.clients c
  pub rows : (x : Instance) → IsIn x xs → WasRow o.instances x
  pub entries : (e : Entry) → IsIn e es → e.is_stale ≡ false → IsIn e o.entries

pub data Narrows (o s : State) : Type 0 where
  narrows : Facts o s.clients s.instances s.entries → Narrows o s

pub facts_of : {o s : State} → Narrows o s → Facts o s.clients s.instances s.entries
facts_of (narrows facts) = facts

pub still_same : (c : Client) → IsStill c c
still_same c = record { number = refl; front = refl; stage = refl; going = λ is. is; given = λ is. is }

still_then : (e d c : Client) → IsStill e d → IsStill d c → IsStill e c
still_then e d c one two = record {
  number = one.number ∙ two.number;
  front = one.front ∙ two.front;
  stage = one.stage ∙ two.stage;
  going = λ is. two.going (one.going is);
  given = λ is. one.given (two.given is);
}

pub narrow_same : (s : State) → Narrows s s
narrow_same s = narrows (record {
  clients = λ c i. record { was = c; there = i; is = still_same c };
  rows = λ x i. record { was = x; there = i; id = refl; key = refl; version = refl; stood = λ is. is };
  entries = λ e i fresh. i;
})

-- ---- what becomes of clients

still_at : (p : Client → Bool) (f : Client → Client) → ((c : Client) → IsStill (f c) c) → (c : Client) (t : Bool) → IsStill (elim t as (λ x. Client) [ true ↦ f c | false ↦ c ]) c
still_at p f kept c true = kept c
still_at p f kept c false = still_same c

pub clients_changed : (o s : State) (p : Client → Bool) (f : Client → Client) → ((c : Client) → IsStill (f c) c) → Narrows o s → Narrows o (record s { clients = change p f s.clients })
clients_changed o s p f kept h = narrows (record { clients = λ c i. by c (in_map (λ x. elim (p x) as (λ y. Client) [ true ↦ f x | false ↦ x ]) c s.clients i); rows = (facts_of h).rows; entries = (facts_of h).entries })
  where
    by : (c : Client) → From (λ x. elim (p x) as (λ y. Client) [ true ↦ f x | false ↦ x ]) s.clients c → WasClient o.clients c
    by c r =
        let old : WasClient o.clients r.was = (facts_of h).clients r.was r.there in
        record { was = old.was; there = old.there; is = still_then c r.was old.was (subst (λ (x : Client). IsStill x r.was) (sym r.is) (still_at p f kept r.was (p r.was))) old.is }

pub on_client_of-narrow : {o : State} (e : Exchange) (f : Client → Client) (s : State) → ((c : Client) → IsStill (f c) c) → Narrows o s → Narrows o (on_client_of e f s)
unfolding on_client_of
on_client_of-narrow {o} e f s kept h = clients_changed o s (is_for e) f kept h

on_conn-narrow : {o : State} (n : ℕ) (f : Conn → Conn) (s : State) → Narrows o s → Narrows o (on_conn n f s)
unfolding on_conn
on_conn-narrow n f s h = narrows (facts_of h)

pub on_exchange-narrow : {o : State} (n : ℕ) (f : Exchange → Exchange) (s : State) → Narrows o s → Narrows o (on_exchange n f s)
unfolding on_exchange
on_exchange-narrow n f s h = narrows (facts_of h)

pub end_exchange-narrow : {o : State} (n : ℕ) (s : State) → Narrows o s → Narrows o (end_exchange n s)
unfolding end_exchange
end_exchange-narrow n s h = narrows (facts_of h)

-- ---- by cases

pub when : {o : State} (t : Bool) {x y : State} → Narrows o x → Narrows o y → Narrows o (elim t as (λ c. State) [ true ↦ x | false ↦ y ])
when true hx hy = hx
when false hx hy = hy

pub each_of : {A : Type 0} {o : State} (x : Option A) {u : State} {v : A → State} → Narrows o u → ((a : A) → Narrows o (v a)) → Narrows o (elim x as (λ c. State) [ None ↦ u | Some a ↦ v a ])
each_of None hx hy = hx
each_of (Some a) hx hy = hy a

each_conn-narrow : {o : State} (f : Conn → State → State) → ((k : Conn) (s : State) → Narrows o s → Narrows o (f k s)) → (ns : List ℕ) (s : State) → Narrows o s → Narrows o (each_conn f ns s)
unfolding each_conn
each_conn-narrow f each [] s h = h
each_conn-narrow f each (n ∷ ns) s h = each_conn-narrow f each ns _ (each_of (conn s n) h (λ k. each k s h))

pub each_exchange-narrow : {o : State} (f : Exchange → State → State) → ((e : Exchange) (s : State) → Narrows o s → Narrows o (f e s)) → (ns : List ℕ) (s : State) → Narrows o s → Narrows o (each_exchange f ns s)
unfolding each_exchange
each_exchange-narrow f each [] s h = h
each_exchange-narrow f each (n ∷ ns) s h = each_exchange-narrow f each ns _ (each_of (exchange s n) h (λ e. each e s h))

-- ---- rows that are cleared

pub swept-narrow : {o : State} (s : State) → Narrows o s → Narrows o (swept s)
unfolding swept
swept-narrow s h = narrows (record { clients = (facts_of h).clients; rows = λ x i. (facts_of h).rows x (in_filter (λ y. not (is_left_over s y)) x s.instances i).0; entries = (facts_of h).entries })

clear-narrow : {o : State} (key : Bytes) (s : State) → Narrows o s → Narrows o (clear key s)
unfolding clear
clear-narrow {o} key s h = swept-narrow _ (narrows (record {
  clients = (facts_of h).clients;
  rows = λ x i. row_by x (in_change (is_row_of key) (λ x. record x { is_retired = true }) x s.instances i);
  entries = λ e i fresh. entry_by e fresh (in_change (is_entry_of key) (λ e. record e { is_stale = true }) e s.entries i);
}))
  where
    row_by : (x : Instance) → Changed (is_row_of key) (λ x. record x { is_retired = true }) s.instances x → WasRow o.instances x
    row_by x (same i isnt) = (facts_of h).rows x i
    row_by x (other y i hit eq) =
        let old : WasRow o.instances y = (facts_of h).rows y i in
        record {
          was = old.was;
          there = old.there;
          id = ap (λ (z : Instance). z.id) eq ∙ old.id;
          key = ap (λ (z : Instance). z.key) eq ∙ old.key;
          version = ap (λ (z : Instance). z.version) eq ∙ old.version;
          stood = λ stands. let both : true ≡ false = sym (ap (λ (z : Instance). z.is_retired) eq) ∙ stands in absurd (cc both);
        }

    entry_by : (e : Entry) → e.is_stale ≡ false → Changed (is_entry_of key) (λ e. record e { is_stale = true }) s.entries e → IsIn e o.entries
    entry_by e fresh (same i isnt) = (facts_of h).entries e i fresh
    entry_by e fresh (other d i hit eq) = let both : true ≡ false = sym (ap (λ (z : Entry). z.is_stale) eq) ∙ fresh in absurd (cc both)

-- ---- attempts

lost_given : (most : ℕ) (course : Course) → is_refused course ≡ false → is_refused (lost_one most course) ≡ false
lost_given most (Trying n) given = by (nat_le most (n + 1))
  where
    by : (t : Bool) → is_refused (elim t as (λ x. Course) [ true ↦ OutOfTries | false ↦ Trying (n + 1) ]) ≡ false
    by true = refl
    by false = refl
lost_given most OutOfTries given = refl
lost_given most AskTooLong given = refl
lost_given most RowRefused given = given

anew_given : (course : Course) → is_refused course ≡ false → is_refused (anew course) ≡ false
anew_given (Trying n) given = refl
anew_given OutOfTries given = refl
anew_given AskTooLong given = refl
anew_given RowRefused given = given

row_still : (c : Client) → IsStill (without_row c) c
row_still c = by (is_begun c || c.has_given_up)
  where
    by : (t : Bool) → IsStill (elim t as (λ x. Client) [ true ↦ c | false ↦ record c { course = anew c.course; has_given_up = true } ]) c
    by true = still_same c
    by false = record { number = refl; front = refl; stage = refl; going = λ is. is; given = anew_given c.course }

give_up_row-narrow : {o : State} (e : Exchange) (s : State) → Narrows o s → Narrows o (give_up_row e s)
unfolding give_up_row
give_up_row-narrow e s h = when (is_unfilled s e) (on_exchange-narrow e.number (λ x. record x { asker = None }) _ (on_client_of-narrow e without_row _ row_still (clear-narrow (text_of e.key) s h))) h

charge-narrow : {o : State} (cost : Course → Course) → ((course : Course) → is_refused course ≡ false → is_refused (cost course) ≡ false) → (e : Exchange) (s : State) → Narrows o s → Narrows o (charge cost e s)
unfolding charge
charge-narrow cost given e s h = give_up_row-narrow e _ (on_client_of-narrow e (λ c. record c { course = cost c.course }) s (λ c. record { number = refl; front = refl; stage = refl; going = λ is. is; given = given c.course }) h)

pub lose_attempt-narrow : {o : State} (e : Exchange) (s : State) → Narrows o s → Narrows o (lose_attempt e s)
unfolding lose_attempt
lose_attempt-narrow e s h = charge-narrow (lost_one (attempts_of e)) (lost_given (attempts_of e)) e s h

-- ---- connections that are closed

passed_still : (f : Passed → Passed) (c : Client) → IsStill (on_passed f c) c
passed_still f c = by (passed_of c)
  where
    by : (o : Option Passed) → IsStill (elim o as (λ x. Client) [ None ↦ c | Some p ↦ record c { brought = Passes (f p) } ]) c
    by None = still_same c
    by (Some p) = record { number = refl; front = refl; stage = refl; going = λ is. is; given = λ is. is }

leave_place-narrow : {o : State} (e : Exchange) (s : State) → Narrows o s → Narrows o (leave_place e s)
unfolding leave_place
leave_place-narrow e s h =
    when (is_headed e)
    (end_exchange-narrow e.number _ (on_client_of-narrow e (on_passed (λ p. record p { is_short = true })) s (passed_still (λ p. record p { is_short = true })) h))
    (when (may_ask_again s e.number) (on_exchange-narrow e.number unplaced s h) (end_exchange-narrow e.number s h))

lose_place-narrow : {o : State} (counts : Bool) (e : Exchange) (s : State) → Narrows o s → Narrows o (lose_place counts e s)
unfolding lose_place
lose_place-narrow counts e s h = when counts (leave_place-narrow e _ (lose_attempt-narrow e s h)) (leave_place-narrow e s h)

close_conn-narrow : {o : State} (counts : Bool) (k : Conn) (s : State) → Narrows o s → Narrows o (close_conn counts k s)
unfolding close_conn
close_conn-narrow counts k s h = each_exchange-narrow (lose_place (counts && not k.has_brought)) (lose_place-narrow (counts && not k.has_brought)) k.line _ (on_conn-narrow k.number _ s h)

-- ---- what nobody sees, and asks that bring nothing

drop_on-narrow : {o : State} (k : Conn) (s : State) → Narrows o s → Narrows o (drop_on k s)
unfolding drop_on
drop_on-narrow k s h = each_of (front_of_line s k) h (λ e. when (is_unseen s k e) (close_conn-narrow false k _ (end_exchange-narrow e.number s h)) h)

pub drop_unseen-narrow : {o : State} (s : State) → Narrows o s → Narrows o (drop_unseen s)
unfolding drop_unseen
drop_unseen-narrow s h = each_conn-narrow drop_on drop_on-narrow _ s h

pub give_up_asks-narrow : {o : State} (s : State) → Narrows o s → Narrows o (give_up_asks s)
unfolding give_up_asks
give_up_asks-narrow s h = narrows (facts_of h)

-- ---- places

pub put_on-narrow : {o : State} (n k : ℕ) (s : State) → Narrows o s → Narrows o (put_on n k s)
unfolding put_on
put_on-narrow n k s h = on_conn-narrow k _ _ (on_exchange-narrow n _ s h)

place_by : {o : State} (n : ℕ) (e : Exchange) (ns : List ℕ) (s : State) (wanted : Placed) → ((t : State) → Narrows o t → Narrows o (place_each ns t).state) → Narrows o s
    → Narrows o (elim wanted as (λ c. Placement) [
      | On k ↦ place_each ns (put_on n k s)
      | Wait ↦ place_each ns s
      | Dial ↦ record { state = s; pause = WaitsDial e }
      | CloseThenDial k ↦ record { state = s; pause = WaitsDrop k e }
    ]).state
place_by n e ns s (On k) rest h = rest (put_on n k s) (put_on-narrow n k s h)
place_by n e ns s Wait rest h = rest s h
place_by n e ns s Dial rest h = h
place_by n e ns s (CloseThenDial k) rest h = h

place_at : {o : State} (waits : Option Exchange) (p : Placement) (q : Exchange → Placement) → Narrows o p.state → ((e : Exchange) → Narrows o (q e).state) → Narrows o (elim waits as (λ c. Placement) [ None ↦ p | Some e ↦ q e ]).state
place_at None p q hp hq = hp
place_at (Some e) p q hp hq = hq e

place_each-narrow : {o : State} (ns : List ℕ) (s : State) → Narrows o s → Narrows o (place_each ns s).state
place_each-narrow [] s h = h
place_each-narrow (n ∷ ns) s h = place_at (option_and_then if_unplaced (exchange s n)) _ _ (place_each-narrow ns s h) (λ e. place_by n e ns s (place_for s e) (λ t ht. place_each-narrow ns t ht) h)

pub placing-narrow : {o : State} (s : State) → Narrows o s → Narrows o (placing s).state
placing-narrow s h = place_each-narrow _ s h
