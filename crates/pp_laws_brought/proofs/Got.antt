-- What one read of an origin brings keeps what is still to come.
use Rattle.std.proofs.Common.{◌≡◌, refl, ℕ, zero, suc, ◌+◌, Bool, true, false, ◌==◌, ◌||◌, [], ◌++◌, drop, length, Option, Some, None, Result, Ok, Err, sym, subst, ap, ◌∙◌}
use Rattle.pp_framing.specs.Body.{Outcome, Done, Going, Bad}
use Rattle.pp_framing.specs.Framing.{rule_of}
use Rattle.pp_framing.specs.Rules.{body_of}
use Rattle.pp_framing.specs.declared.body.BodyRule.{BodyRule}
use Rattle.pp_framing.specs.declared.framing.ResponseFault.{ResponseFault}
use Rattle.pp_head.specs.Read.{Read, Whole, TooLong, Bad as NoHead, More}
use Rattle.pp_head.specs.Response.{Response, response_at}
use Rattle.pp_pipe.specs.Front.{is_interim}
use Rattle.pp_text.specs.Bytes.{is_empty}
use Rattle.pp_law.specs.Connections.{conn, is_conn, is_exchange, front_of_line, on_conn, on_exchange, close_conn}
use Rattle.pp_law.specs.Lists.{Bytes}
use Rattle.pp_law.specs.OwnHeads.{first_offset, is_wrong_head, join, joined_one, join_bound, moved_on, note_own, note_sent, sent_as}
use Rattle.pp_law.specs.Passing.{poured}
use Rattle.pp_law.specs.Responses.{Piece, answer_for, answer_with, answered_by, asks_head, bad_head, bad_response, begin_answer, body_piece, body_piece_of, deliver, end_if_empty, finish, got, head_came, head_piece, is_early, next_piece, payload_of, with_unread}
use Rattle.pp_law.specs.Stages.{bound_of}
use Rattle.pp_law.specs.State.{State, Aim, Through, Own, Filling, Answer, Bound, Conn, Exchange, Joining}
use Rattle.pp_law.specs.Table.{instance}
use Rattle.pp_laws.specs.Runs.{IsIn}
use Rattle.pp_laws.proofs.Apart.{bound_by, never_none, others_unbound}
use Rattle.pp_laws.proofs.Bodies.{bad_response-gone, in_first}
use Rattle.pp_laws.proofs.Closings.{own_line}
use Rattle.pp_laws.proofs.Lists.{Changed, in_change, in_find, one_of, other, same}
use Rattle.pp_laws.proofs.Pieces.{front_by, next_piece-sound}
use Rattle.pp_laws.proofs.Sound.{Since, Sound, exchange_number, facts_of as sound_facts, first_of}
use Rattle.pp_laws.proofs.Tests.{number_same, same_number}
use Rattle.pp_laws.proofs.Untouched.{bring_row-untouched, same_front}
use Rattle.pp_laws.proofs.Heads.{bring_row-sound}
use Rattle.pp_laws_brought.proofs.Asks.{as_lined, close_conn-keeps, on_conn-keeps}
use Rattle.pp_laws_brought.proofs.Cases.{by_aim_of, by_outcome, each_of, each_so, when}
use Rattle.pp_laws_brought.proofs.Ends.{back_answered, back_gone, back_there, bad_head-keeps, bad_response-keeps, finish-back, pour-keeps}
use Rattle.pp_laws_brought.proofs.Fits.{added, behind, fits_behind, starts_of}
use Rattle.pp_laws_brought.proofs.Heads.{bring_row-keeps, by_aim-keeps}
use Rattle.pp_laws_brought.proofs.Rows.{note_use-keeps}
use Rattle.pp_laws_brought.proofs.View.{Apart, Away, Fits, Holds, IsSpan, facts_of, holds, lines_of}

-- ---- one is looked at apart

-- the first of the line of a connection that is there
record First (k : Conn) (e : Exchange) (s : State) : Type 0 where
  there : IsIn k s.conns
  given : IsIn e s.exchanges
  front : first_of k.line ≡ Some e.number

first_is : (k : Conn) (e : Exchange) (s : State) → IsIn k s.conns → front_of_line s k ≡ Some e → First k e s
first_is k e s there is = let f = front_by s k.line e is in record { there = there; given = f.0; front = f.1 }

abbrev away : Conn → Exchange → Answer → Bool → Away
away k e a said = record { number = e.number; conn = k.number; answer = a; is_there = said }

-- its answer has not changed yet
set_apart : {b : Since} (k : Conn) (e : Exchange) (a : Answer) (s : State) → b.excepts ≡ None → First k e s → Sound b s → ((d : Exchange) (x : Bound) → IsIn d s.exchanges → d.number ≡ e.number → bound_of d ≡ Some x → Fits a x.next x.to) → Holds None s → Holds (Some (away k e a false)) s
set_apart {b} k e a s none first was its h = holds (record {
  lines = λ j d c x i m l is bound off. lines_of s.conns s.exchanges (facts_of h) j d c x i m l is bound;
  its = λ p d x is m at bound. subst (λ (w : Away). Fits w.answer x.next x.to) (one p is) (its d x m (at ∙ sym (ap (λ (w : Away). w.number) (one p is))) bound);
  others = λ p j d is i m l at off. others_unbound k e.number s none first.there first.front was j d i (at ∙ sym (ap (λ (w : Away). w.conn) (one p is))) m l (λ hit. off (hit ∙ ap (λ (w : Away). w.number) (one p is)));
  only = λ p j is i l. own_line k s first.there was e j first.given (in_first e.number k.line first.front) i (subst (λ n. IsIn n j.line) (sym (ap (λ (w : Away). w.number) (one p is))) l) ∙ ap (λ (w : Away). w.conn) (one p is);
  answers = λ p j c is said i at has. let both : false ≡ true = ap (λ (w : Away). w.is_there) (one p is) ∙ said in absurd (cc both);
  within = (facts_of h).within;
})
  where
    one : (p : Away) → Some (away k e a false) ≡ Some p → away k e a false ≡ p
    one p is = cc is

-- and then its connection has the answer
set_answered : (k : Conn) (e : Exchange) (a : Answer) (s : State) → ((d : Exchange) → IsIn d s.exchanges → d.number ≡ e.number → bound_of d ≡ None) → Holds (Some (away k e a false)) s → Holds (Some (away k e a true)) (on_conn k.number (answered_by a) s)
unfolding on_conn
set_answered k e a s unbound h = holds (record {
  lines = λ j d c x i m l is bound off. lines_by j d c x m l is bound off (in_change (is_conn k.number) (answered_by a) j s.conns i);
  its = λ p d x is m at bound. let both : None ≡ Some x = sym (unbound d m (at ∙ sym (ap (λ (w : Away). w.number) (one p is)))) ∙ bound in absurd (cc both);
  others = λ p j d is i m l at off. others_by p j d is m l at off (in_change (is_conn k.number) (answered_by a) j s.conns i);
  only = λ p j is i l. only_by p j is l (in_change (is_conn k.number) (answered_by a) j s.conns i);
  answers = λ p j c is said i at has. answers_by p j c is at has (in_change (is_conn k.number) (answered_by a) j s.conns i);
  within = (facts_of h).within;
})
  where
    one : (p : Away) → Some (away k e a true) ≡ Some p → away k e a true ≡ p
    one p is = cc is

    others_by : (p : Away) (j : Conn) (d : Exchange) → Some (away k e a true) ≡ Some p → IsIn d s.exchanges → IsIn d.number j.line → j.number ≡ p.conn → (d.number ≡ p.number → ⊥) → Changed (is_conn k.number) (answered_by a) s.conns j → bound_of d ≡ None
    others_by p j d is m l at off (same i isnt) = (facts_of h).others (away k e a false) j d refl i m l (at ∙ sym (ap (λ (w : Away). w.conn) (one p is))) (λ hit. off (hit ∙ ap (λ (w : Away). w.number) (one p is)))
    others_by p j d is m l at off (other g i hit eq) = (facts_of h).others (away k e a false) g d refl i m (subst (λ (x : Conn). IsIn d.number x.line) eq l) (same_number g.number k.number hit) (λ its. off (its ∙ ap (λ (w : Away). w.number) (one p is)))

    lines_by : (j : Conn) (d : Exchange) (c : Answer) (x : Bound) → IsIn d s.exchanges → IsIn d.number j.line → j.answer ≡ Some c → bound_of d ≡ Some x → (Some e.number ≡ Some d.number → ⊥) → Changed (is_conn k.number) (answered_by a) s.conns j → Fits c x.next x.to
    lines_by j d c x m l is bound off (same i isnt) = (facts_of h).lines j d c x i m l is bound off
    lines_by j d c x m l is bound off (other g i hit eq) =
        let none : bound_of d ≡ None = (facts_of h).others (away k e a false) g d refl i m (subst (λ (y : Conn). IsIn d.number y.line) eq l) (same_number g.number k.number hit) (λ its. off (ap (λ n. Some n) (sym its))) in
        let both : None ≡ Some x = sym none ∙ bound in
        absurd (cc both)

    only_by : (p : Away) (j : Conn) → Some (away k e a true) ≡ Some p → IsIn p.number j.line → Changed (is_conn k.number) (answered_by a) s.conns j → j.number ≡ p.conn
    only_by p j is l (same i isnt) = (facts_of h).only (away k e a false) j refl i (subst (λ n. IsIn n j.line) (sym (ap (λ (w : Away). w.number) (one p is))) l) ∙ ap (λ (w : Away). w.conn) (one p is)
    only_by p j is l (other g i hit eq) = ap (λ (x : Conn). x.number) eq ∙ same_number g.number k.number hit ∙ ap (λ (w : Away). w.conn) (one p is)

    answers_by : (p : Away) (j : Conn) (c : Answer) → Some (away k e a true) ≡ Some p → j.number ≡ p.conn → j.answer ≡ Some c → Changed (is_conn k.number) (answered_by a) s.conns j → c ≡ p.answer
    answers_by p j c is at has (same i isnt) =
        let here : j.number ≡ k.number = at ∙ sym (ap (λ (w : Away). w.conn) (one p is)) in
        let both : true ≡ false = sym (number_same k.number) ∙ ap (λ n. n == k.number) (sym here) ∙ isnt in
        absurd (cc both)
    answers_by p j c is at has (other g i hit eq) =
        let both : Some a ≡ Some c = sym (ap (λ (x : Conn). x.answer) eq) ∙ has in
        let its : a ≡ c = cc both in
        sym its ∙ ap (λ (w : Away). w.answer) (one p is)

-- ---- heads

-- whoever has that number is the first of the line
the_first : {b : Since} (k : Conn) (e d : Exchange) (s : State) → First k e s → Sound b s → IsIn d s.exchanges → d.number ≡ e.number → d ≡ e
the_first k e d s first was m at = one_of exchange_number s.exchanges d e (sound_facts was).asks.rise m first.given at

-- where no answer is under way, it is not bound
quiet_unbound : {b : Since} (k : Conn) (e d : Exchange) (x : Bound) (s : State) → b.excepts ≡ None → k.answer ≡ None → First k e s → Sound b s → IsIn d s.exchanges → d.number ≡ e.number → bound_of d ≡ Some x → ⊥
quiet_unbound {b} k e d x s none quiet first was m at bound =
    let is : bound_of e ≡ Some x = ap bound_of (sym (the_first k e d s first was m at)) ∙ bound in
    let w = (sound_facts was).brings k e x first.there first.given (in_first e.number k.line first.front) is (never_none e.number b.excepts none) in
    let both : None ≡ Some w.answer = sym quiet ∙ w.is in
    cc both

end_if_empty-keeps : {p : Away} (k : Conn) (e : Exchange) (a : Answer) (s : State) → e.number ≡ p.number → p.is_there ≡ true → Holds (Some p) s → Holds None (end_if_empty k e a s)
unfolding end_if_empty
end_if_empty-keeps {p} k e a s its said h = by_outcome (body_of a.rule []).outcome (λ rest. finish-back {p = p} k e a s its h) (back_there {p = p} s said h) (back_there {p = p} s said h)

begin_answer-keeps : {b : Since} (k : Conn) (e : Exchange) (head : Response) (rule : BodyRule) (s : State) → b.excepts ≡ None → rule_of (asks_head e) head.status head.fields ≡ Ok rule → k.answer ≡ None → First k e s → Sound b s → Holds None s → Holds None (begin_answer k e head rule s)
unfolding begin_answer
begin_answer-keeps {b} k e head rule s none found quiet first was h =
    end_if_empty-keeps {p = away k e (answer_with e head rule) true} k e (answer_with e head rule) _ refl refl
    (by_aim-keeps {p = away k e (answer_with e head rule) true} e head rule _ refl (starts_of e head rule found)
    (set_answered k e (answer_with e head rule) s (λ d m at. bound_by (bound_of d) (λ x bound. quiet_unbound k e d x s none quiet first was m at bound))
    (set_apart k e (answer_with e head rule) s none first was (λ d x m at bound. absurd (quiet_unbound k e d x s none quiet first was m at bound)) h)))

answer_for-keeps : {b : Since} (k : Conn) (e : Exchange) (head : Response) (s : State) → b.excepts ≡ None → k.answer ≡ None → First k e s → Sound b s → Holds None s → Holds None (answer_for k e head s)
unfolding answer_for
answer_for-keeps k e head s none quiet first was h = when (is_wrong_head e head) (bad_head-keeps k s h) (by (rule_of (asks_head e) head.status head.fields) refl)
  where
    by : (read : Result BodyRule ResponseFault) → rule_of (asks_head e) head.status head.fields ≡ read → Holds None (elim read as (λ c. State) [ Ok rule ↦ begin_answer k e head rule s | Err fault ↦ bad_head k s ])
    by (Ok rule) is = begin_answer-keeps k e head rule s none is quiet first was h
    by (Err fault) is = bad_head-keeps k s h

head_came-keeps : {b : Since} (k : Conn) (head : Response) (s : State) → b.excepts ≡ None → k.answer ≡ None → IsIn k s.conns → Sound b s → Holds None s → Holds None (head_came k head s)
unfolding head_came
head_came-keeps k head s none quiet there was h =
    each_so (front_of_line s k) (λ isnt. close_conn-keeps false k s h)
    (λ e front.
    let u = bring_row-untouched e head s in
    answer_for-keeps k e head _ none quiet (first_is k e _ (subst (λ ks. IsIn k ks) (sym u.conns) there) (same_front k u ∙ front)) (bring_row-sound e head s was) (bring_row-keeps e head s h))

piece_when : {but : Apart} (t : Bool) (p q : Piece) → Holds but p.state → Holds but q.state → Holds but (elim t as (λ c. Piece) [ true ↦ p | false ↦ q ]).state
piece_when true p q hp hq = hp
piece_when false p q hp hq = hq

with_unread-keeps : {but : Apart} (k : Conn) (bytes : Bytes) (s : State) → Holds but s → Holds but (on_conn k.number (with_unread bytes) s)
with_unread-keeps k bytes s h = on_conn-keeps k.number (with_unread bytes) s (λ i. as_lined _ i refl refl refl) h

head_piece_by : {b : Since} (k : Conn) (bytes : Bytes) (s : State) (read : Read Response) → b.excepts ≡ None → k.answer ≡ None → IsIn k s.conns → Sound b s → Holds None s
    → Holds None (elim read as (λ c. Piece) [
      | More ↦ record { state = on_conn k.number (with_unread bytes) s; rest = [] }
      | TooLong ↦ record { state = bad_head k s; rest = [] }
      | NoHead ↦ record { state = bad_head k s; rest = [] }
      | Whole head ↦ elim (is_interim head.status) as (λ c. Piece) [
        | true ↦ record { state = on_conn k.number (with_unread []) s; rest = drop head.length bytes }
        | false ↦ record { state = head_came k head s; rest = drop head.length bytes }
      ]
    ]).state
head_piece_by k bytes s More none quiet there was h = with_unread-keeps k bytes s h
head_piece_by k bytes s TooLong none quiet there was h = bad_head-keeps k s h
head_piece_by k bytes s NoHead none quiet there was h = bad_head-keeps k s h
head_piece_by k bytes s (Whole head) none quiet there was h = piece_when (is_interim head.status) _ _ (with_unread-keeps k [] s h) (head_came-keeps k head s none quiet there was h)

head_piece-keeps : {b : Since} (k : Conn) (bytes : Bytes) (s : State) → b.excepts ≡ None → k.answer ≡ None → IsIn k s.conns → Sound b s → Holds None s → Holds None (head_piece k bytes s).state
head_piece-keeps k bytes s none quiet there was h = piece_when (is_early s k) _ _ (close_conn-keeps true k s h) (head_piece_by k (k.unread ++ bytes) s (response_at (k.unread ++ bytes)) none quiet there was h)

-- ---- bodies

note_own-keeps : {but : Apart} (e : Exchange) (a : Answer) (at : ℕ) (bytes : Bytes) (s : State) → Holds but s → Holds but (note_own e a at bytes s)
unfolding note_own
note_own-keeps e a at bytes s h = when (is_empty bytes) h (holds (facts_of h))

note_sent-keeps : {but : Apart} (e : Exchange) (a : Answer) (at : ℕ) (bytes : Bytes) (s : State) → Holds but s → Holds but (note_sent e a at bytes s)
unfolding note_sent
note_sent-keeps e a at bytes s h = by_aim_of e.aim h (note_own-keeps e a at bytes s h) (λ v from to. note_own-keeps e a at bytes s h)

join-keeps : {but : Apart} (b : Bound) (bytes : Bytes) (s : State) → Holds but s → Holds but (join b bytes s)
unfolding join
join-keeps b bytes s h = each_of (joined_one b bytes s) h (λ x. note_use-keeps _ (holds (facts_of h)))

note_exchanges : (e : Exchange) (a : Answer) (at : ℕ) (bytes : Bytes) (s : State) → (note_sent e a at bytes s).exchanges ≡ s.exchanges
unfolding note_sent note_own
note_exchanges e a at bytes s = by e.aim (is_empty bytes)
  where
    by : (aim : Aim) (t : Bool) → (elim aim as (λ c. State) [
      | Through ↦ s
      | Own ↦ elim t as (λ c. State) [ true ↦ s | false ↦ record s { sent = sent_as e (first_offset a.head + at) bytes a.version s.sent } ]
      | Filling v from to ↦ elim t as (λ c. State) [ true ↦ s | false ↦ record s { sent = sent_as e (first_offset a.head + at) bytes a.version s.sent } ]
    ]).exchanges ≡ s.exchanges
    by Through t = refl
    by Own true = refl
    by Own false = refl
    by (Filling v from to) true = refl
    by (Filling v from to) false = refl

record Moved (n : ℕ) (g : Exchange) (x : Bound) : Type 0 where
  was : Bound
  is : bound_of g ≡ Some was
  next : x.next ≡ was.next + n
  to : x.to ≡ was.to

moved_from : (n : ℕ) (g : Exchange) (x : Bound) → bound_of (moved_on n g) ≡ Some x → Moved n g x
moved_from n g x is = by (bound_of g) refl is
  where
    by : (o : Option Bound) → bound_of g ≡ o → bound_of (elim o as (λ c. Exchange) [ None ↦ g | Some b ↦ record g { body = Joining (record b { next = b.next + n }) } ]) ≡ Some x → Moved n g x
    by None none at = let both : None ≡ Some x = sym none ∙ at in absurd (cc both)
    by (Some b) some at =
        let eq : record b { next = b.next + n } ≡ x = cc at in
        record { was = b; is = some; next = ap (λ (y : Bound). y.next) (sym eq); to = ap (λ (y : Bound). y.to) (sym eq) }

moved_number : (n : ℕ) (g : Exchange) → (moved_on n g).number ≡ g.number
moved_number n g = by (bound_of g)
  where
    by : (o : Option Bound) → (elim o as (λ c. Exchange) [ None ↦ g | Some b ↦ record g { body = Joining (record b { next = b.next + n }) } ]).number ≡ g.number
    by None = refl
    by (Some b) = refl

-- it has moved on by the data that these bytes bring
moved-keeps : (k : Conn) (e : Exchange) (a : Answer) (bytes : Bytes) (s : State) → Holds (Some (away k e a false)) s → Holds (Some (away k e (behind a bytes) false)) (on_exchange e.number (moved_on (length (added a bytes))) s)
unfolding on_exchange
moved-keeps k e a bytes s h = holds (record {
  lines = λ j d c x i m l is bound off. lines_by j d c x i l is bound off (in_change (is_exchange e.number) (moved_on (length (added a bytes))) d s.exchanges m);
  its = λ p d x is m at bound. subst (λ (w : Away). Fits w.answer x.next x.to) (one p is) (its_by d x (at ∙ sym (ap (λ (w : Away). w.number) (one p is))) bound (in_change (is_exchange e.number) (moved_on (length (added a bytes))) d s.exchanges m));
  others = λ p j d is i m l at off. others_by p j d is i l at off (in_change (is_exchange e.number) (moved_on (length (added a bytes))) d s.exchanges m);
  only = λ p j is i l. (facts_of h).only (away k e a false) j refl i (subst (λ n. IsIn n j.line) (sym (ap (λ (w : Away). w.number) (one p is))) l) ∙ ap (λ (w : Away). w.conn) (one p is);
  answers = λ p j c is said i at has. let both : false ≡ true = ap (λ (w : Away). w.is_there) (one p is) ∙ said in absurd (cc both);
  within = λ d x m bound. within_by d x bound (in_change (is_exchange e.number) (moved_on (length (added a bytes))) d s.exchanges m);
})
  where
    one : (p : Away) → Some (away k e (behind a bytes) false) ≡ Some p → away k e (behind a bytes) false ≡ p
    one p is = cc is

    its_number : (d g : Exchange) → (g.number == e.number) ≡ true → d ≡ moved_on (length (added a bytes)) g → d.number ≡ e.number
    its_number d g hit eq = ap (λ (y : Exchange). y.number) eq ∙ moved_number (length (added a bytes)) g ∙ same_number g.number e.number hit

    its_fits : (d g : Exchange) (x : Bound) → IsIn g s.exchanges → (g.number == e.number) ≡ true → d ≡ moved_on (length (added a bytes)) g → bound_of d ≡ Some x → Fits (behind a bytes) x.next x.to
    its_fits d g x m hit eq bound =
        let w = moved_from (length (added a bytes)) g x (ap bound_of (sym eq) ∙ bound) in
        let was : Fits a w.was.next w.was.to = (facts_of h).its (away k e a false) g w.was refl m (same_number g.number e.number hit) w.is in
        subst (λ n. Fits (behind a bytes) n x.to) (sym w.next) (subst (λ n. Fits (behind a bytes) (w.was.next + length (added a bytes)) n) (sym w.to) (fits_behind a w.was.next w.was.to bytes was))

    lines_by : (j : Conn) (d : Exchange) (c : Answer) (x : Bound) → IsIn j s.conns → IsIn d.number j.line → j.answer ≡ Some c → bound_of d ≡ Some x → (Some e.number ≡ Some d.number → ⊥) → Changed (is_exchange e.number) (moved_on (length (added a bytes))) s.exchanges d → Fits c x.next x.to
    lines_by j d c x i l is bound off (same m isnt) = (facts_of h).lines j d c x i m l is bound off
    lines_by j d c x i l is bound off (other g m hit eq) = absurd (off (ap (λ n. Some n) (sym (its_number d g hit eq))))

    its_by : (d : Exchange) (x : Bound) → d.number ≡ e.number → bound_of d ≡ Some x → Changed (is_exchange e.number) (moved_on (length (added a bytes))) s.exchanges d → Fits (behind a bytes) x.next x.to
    its_by d x at bound (same m isnt) = let both : true ≡ false = sym (number_same e.number) ∙ ap (λ n. n == e.number) (sym at) ∙ isnt in absurd (cc both)
    its_by d x at bound (other g m hit eq) = its_fits d g x m hit eq bound

    others_by : (p : Away) (j : Conn) (d : Exchange) → Some (away k e (behind a bytes) false) ≡ Some p → IsIn j s.conns → IsIn d.number j.line → j.number ≡ p.conn → (d.number ≡ p.number → ⊥) → Changed (is_exchange e.number) (moved_on (length (added a bytes))) s.exchanges d → bound_of d ≡ None
    others_by p j d is i l at off (same m isnt) = (facts_of h).others (away k e a false) j d refl i m l (at ∙ sym (ap (λ (w : Away). w.conn) (one p is))) (λ hit. off (hit ∙ ap (λ (w : Away). w.number) (one p is)))
    others_by p j d is i l at off (other g m hit eq) = absurd (off (its_number d g hit eq ∙ ap (λ (w : Away). w.number) (one p is)))

    within_by : (d : Exchange) (x : Bound) → bound_of d ≡ Some x → Changed (is_exchange e.number) (moved_on (length (added a bytes))) s.exchanges d → IsSpan x.next x.to
    within_by d x bound (same m isnt) = (facts_of h).within d x m bound
    within_by d x bound (other g m hit eq) = (its_fits d g x m hit eq bound).span

-- it is not bound, and the answer has more bytes
unmoved-keeps : (k : Conn) (e : Exchange) (a c : Answer) (s : State) → ((d : Exchange) → IsIn d s.exchanges → d.number ≡ e.number → bound_of d ≡ None) → Holds (Some (away k e a false)) s → Holds (Some (away k e c false)) s
unmoved-keeps k e a c s unbound h = holds (record {
  lines = λ j d y x i m l is bound off. (facts_of h).lines j d y x i m l is bound off;
  its = λ p d x is m at bound. let both : None ≡ Some x = sym (unbound d m (at ∙ sym (ap (λ (w : Away). w.number) (one p is)))) ∙ bound in absurd (cc both);
  others = λ p j d is i m l at off. (facts_of h).others (away k e a false) j d refl i m l (at ∙ sym (ap (λ (w : Away). w.conn) (one p is))) (λ hit. off (hit ∙ ap (λ (w : Away). w.number) (one p is)));
  only = λ p j is i l. (facts_of h).only (away k e a false) j refl i (subst (λ n. IsIn n j.line) (sym (ap (λ (w : Away). w.number) (one p is))) l) ∙ ap (λ (w : Away). w.conn) (one p is);
  answers = λ p j y is said i at has. let both : false ≡ true = ap (λ (w : Away). w.is_there) (one p is) ∙ said in absurd (cc both);
  within = (facts_of h).within;
})
  where
    one : (p : Away) → Some (away k e c false) ≡ Some p → away k e c false ≡ p
    one p is = cc is

deliver-keeps : {b : Since} (k : Conn) (e : Exchange) (a : Answer) (bytes : Bytes) (s : State) → First k e s → Sound b s → Holds (Some (away k e a false)) s
    → Holds (Some (away k e (behind a bytes) false)) (deliver e a (length (payload_of a)) (added a bytes) s)
unfolding deliver join_bound
deliver-keeps k e a bytes s first was h = pour-keeps e (poured (added a bytes)) _ (each_so (bound_of e) (λ none. unmoved-keeps k e a (behind a bytes) noted (unbound none) there) (λ b some. moved-keeps k e a bytes _ (join-keeps b (added a bytes) noted there)))
  where
    noted : State
    noted = note_sent e a (length (payload_of a)) (added a bytes) s

    there : Holds (Some (away k e a false)) (note_sent e a (length (payload_of a)) (added a bytes) s)
    there = note_sent-keeps e a (length (payload_of a)) (added a bytes) s h

    unbound : bound_of e ≡ None → (d : Exchange) → IsIn d (note_sent e a (length (payload_of a)) (added a bytes) s).exchanges → d.number ≡ e.number → bound_of d ≡ None
    unbound none d m at = ap bound_of (the_first k e d s first was (subst (λ es. IsIn d es) (note_exchanges e a (length (payload_of a)) (added a bytes) s) m) at) ∙ none

body_piece_by : (k : Conn) (a : Answer) (e : Exchange) (bytes : Bytes) (t : State) (outcome : Outcome) → first_of k.line ≡ Some e.number → Holds (Some (away k e (behind a bytes) false)) t
    → Holds None (elim outcome as (λ c. Piece) [
      | Going ↦ record { state = on_conn k.number (λ i. record i { answer = Some (record a { raw = a.raw ++ bytes }) }) t; rest = [] }
      | Bad ↦ record { state = bad_response k t; rest = [] }
      | Done rest ↦ record { state = finish k e a t; rest = rest }
    ]).state
body_piece_by k a e bytes t Going front h = back_answered {p = away k e (behind a bytes) false} t h
body_piece_by k a e bytes t Bad front h = back_gone {p = away k e (behind a bytes) false} _ (bad_response-gone k e.number t front) (bad_response-keeps k t h)
body_piece_by k a e bytes t (Done rest) front h = finish-back {p = away k e (behind a bytes) false} k e a t refl h

body_piece-keeps : {b : Since} (k : Conn) (a : Answer) (bytes : Bytes) (s : State) → b.excepts ≡ None → IsIn k s.conns → k.answer ≡ Some a → Sound b s → Holds None s → Holds None (body_piece k a bytes s).state
body_piece-keeps {b} k a bytes s none there has was h = by (front_of_line s k) refl
  where
    its : (e : Exchange) → First k e s → (d : Exchange) (x : Bound) → IsIn d s.exchanges → d.number ≡ e.number → bound_of d ≡ Some x → Fits a x.next x.to
    its e first d x m at bound = lines_of s.conns s.exchanges (facts_of h) k d a x there m (subst (λ n. IsIn n k.line) (sym at) (in_first e.number k.line first.front)) has bound

    by : (front : Option Exchange) → front_of_line s k ≡ front → Holds None (elim front as (λ c. Piece) [ None ↦ record { state = close_conn false k s; rest = [] } | Some e ↦ body_piece_of k a e bytes s ]).state
    by None is = close_conn-keeps false k s h
    by (Some e) is =
        let first = first_is k e s there is in
        body_piece_by k a e bytes _ (body_of a.rule (a.raw ++ bytes)).outcome first.front (deliver-keeps k e a bytes s first was (set_apart k e a s none first was (its e first) h))

-- ---- one piece behind the other

pub next_piece-keeps : {b : Since} (k : Conn) (bytes : Bytes) (s : State) → b.excepts ≡ None → IsIn k s.conns → Sound b s → Holds None s → Holds None (next_piece k bytes s).state
next_piece-keeps k bytes s none there was h = by k.answer refl
  where
    by : (answer : Option Answer) → k.answer ≡ answer → Holds None (elim answer as (λ c. Piece) [ Some a ↦ body_piece k a bytes s | None ↦ head_piece k bytes s ]).state
    by None quiet = head_piece-keeps k bytes s none quiet there was h
    by (Some a) is = body_piece-keeps k a bytes s none there is was h

pub got-keeps : {b : Since} (more n : ℕ) (bytes : Bytes) (s : State) → b.excepts ≡ None → Sound b s → Holds None s → Holds None (got more n bytes s)
unfolding got
got-keeps zero n bytes s none was h = h
got-keeps (suc more) n bytes s none was h =
    each_so (conn s n) (λ isnt. h)
    (λ k found.
    let there : IsIn k s.conns = (in_find (is_conn n) k s.conns found).0 in
    when (k.is_closing || is_empty bytes) h (got-keeps more n (next_piece k bytes s).rest (next_piece k bytes s).state none (next_piece-sound k bytes s none there was) (next_piece-keeps k bytes s none there was h)))
