-- What holds of whose an exchange is, where one is over, and where a connection is closed.
use Rattle.std.proofs.Common.{◌≡◌, ◌⊎◌, refl, ℕ, Bool, true, false, not, ◌==◌, ◌&&◌, List, [], ◌∷◌, find, cond, Option, Some, None, inl, inr, sym, subst, ap, ◌∙◌}
use Rattle.std.specs.List.{list_any}
use Rattle.pp_target.specs.Key.{text_of}
use Rattle.pp_law.specs.Closing.{left_alone}
use Rattle.pp_law.specs.Connections.{attempts_of, charge, close_conn, conn, each_conn, each_exchange, end_exchange, exchange, give_up_row, is_conn, is_exchange, is_for, is_trying, is_unfilled, leave_place, lose_attempt, lose_place, lost_one, may_ask_again, on_client_of, on_conn, on_exchange, unplaced, without_row}
use Rattle.pp_law.specs.Lists.{is_some_with}
use Rattle.pp_law.specs.Stages.{is_headed, on_passed, passed_of}
use Rattle.pp_law.specs.State.{State, Body, Pending as IsPending, Joining, Relaying, Dropping, Client, Conn, Exchange, Passed, Passes as IsPassed, Stage, Undecided, Waiting, Passing, Answering}
use Rattle.pp_law.specs.Table.{clear, swept}
use Rattle.pp_laws.specs.Runs.{IsIn}
use Rattle.pp_laws.proofs.Bodies.{in_first}
use Rattle.pp_laws.proofs.Lists.{Changed, changed_at, in_change, in_find, other, same}
use Rattle.pp_laws.proofs.Shrinks.{NoLine, Shrinks, lose_attempt-shrinks, lose_place-shrinks, no_line_shrunk, off, shrinks_each, shrinks_same}
use Rattle.pp_laws.proofs.Sound.{first_of}
use Rattle.pp_laws.proofs.Tests.{first_holds, number_same, same_number}
use Rattle.pp_laws_bounds.proofs.Counts.{in_map_of}
use Rattle.pp_laws_ends.proofs.Wanted.{any_of}
use Rattle.pp_laws_served.specs.Served.{is_unanswered}
use Rattle.pp_laws_turn.proofs.Cases.{each_so, when_so}
use Rattle.pp_laws_turn.proofs.View.{Holds, facts_of, holds}
use Rattle.pp_laws_left.proofs.Owned.{Amid, AreFree, But, KeptAsk, KeptClient, Owned, kept_same, shrunk_for}
use Rattle.pp_laws_left.proofs.OwnedConns.{ask_ended, conns_off}
use Rattle.pp_laws_left.proofs.OwnedAsks.{on_exchange-owned, on_client_of-owned, some_but, amid_not, Sure, sure_calm, stands_there, lose_attempt-owned, Was, AreAlike, alike, alike_lost}

-- ---- an exchange is over

pub end_exchange-owned : {but : But} {At : Type 0} (n : ℕ) (s : State) → AreFree but (is_exchange n) s.clients s.exchanges → ((k : Conn) (a : _) → IsIn k s.conns → (but.conn ≡ Some k.number → ⊥) → k.answer ≡ Some a → first_of k.line ≡ Some n → ⊥) → Holds (Owned but At) s → Holds (Owned but At) (end_exchange n s)
unfolding end_exchange
end_exchange-owned n s free unanswered h = holds (ask_ended n free unanswered (facts_of h))

pub nowhere_first : (n : ℕ) (s : State) → NoLine n s → (k : Conn) → IsIn k s.conns → first_of k.line ≡ Some n → ⊥
nowhere_first n s none k i first = none k i (in_first n k.line first)

pub relaying_headed : (e : Exchange) → e.body ≡ Relaying → is_headed e ≡ true
relaying_headed e is = ap (λ (b : Body). not (elim b as (λ x. Bool) [ IsPending ↦ true | Joining c ↦ false | Relaying ↦ false | Dropping ↦ false ])) is

abbrev short : Passed → Passed
short p = record p { is_short = true }

shortened : (c : Client) → KeptClient (on_passed short c) c
shortened c = by c.brought refl
  where
    at : (o : Option Passed) → passed_of c ≡ o → KeptClient (elim o as (λ x. Client) [ None ↦ c | Some p ↦ record c { brought = IsPassed (short p) } ]) c
    at None none = kept_same c
    at (Some p) some = record {
      number = refl;
      asks = λ a. record { going = a.going; tries = a.tries; unanswered = asked c.stage a.unanswered };
      amid = λ a. (let both : false ≡ true = a.more in absurd (cc both));
      stage = λ is. refl;
      none = λ none. (let both : Some p ≡ None = sym some ∙ none in absurd (cc both));
      begun = λ off. inl off;
    }
      where
        asked : (g : Stage) → (elim g as (λ x. Bool) [ Undecided ↦ false | Waiting ↦ false | Passing ↦ false | Answering r ↦ false ]) ≡ true → is_unanswered c ≡ true
        asked Undecided is = absurd (cc is)
        asked Waiting is = absurd (cc is)
        asked Passing is = absurd (cc is)
        asked (Answering r) is = absurd (cc is)

    by : (b : _) → c.brought ≡ b → KeptClient (on_passed short c) c
    by b is = at (passed_of c) refl

short_not : (c : Client) → Amid (on_passed short c) → ⊥
short_not c = by (passed_of c) refl
  where
    by : (o : Option Passed) → passed_of c ≡ o → Amid (elim o as (λ x. Client) [ None ↦ c | Some p ↦ record c { brought = IsPassed (short p) } ]) → ⊥
    by None none a = amid_not c none a
    by (Some p) some a = let both : false ≡ true = a.more in cc both

short_number : (c : Client) → (on_passed short c).number ≡ c.number
short_number c = by (passed_of c)
  where
    by : (o : Option Passed) → (elim o as (λ x. Client) [ None ↦ c | Some p ↦ record c { brought = IsPassed (short p) } ]).number ≡ c.number
    by None = refl
    by (Some p) = refl

pub find_some : {A : Type 0} (p : A → Bool) (x : A) (xs : List A) → IsIn x xs → p x ≡ true → (y : A) × (find p xs ≡ Some y)
find_some p x [] i is = absurd i
find_some {A} p x (y ∷ xs) i is = by (p y) refl i (λ j. find_some p x xs j is)
  where
    by : (t : Bool) → p y ≡ t → (x ≡ y) ⊎ IsIn x xs → (IsIn x xs → (z : A) × (find p xs ≡ Some z)) → (z : A) × (cond t (Some y) (find p xs) ≡ Some z)
    by true hit at rest = (y, refl)
    by false isnt (inl eq) rest = let both : true ≡ false = sym is ∙ ap p eq ∙ isnt in absurd (cc both)
    by false isnt (inr j) rest = rest j

-- whoever has it may not ask once more
pub again_not : {but : But} {At : Type 0} (e : Exchange) (s : State) → Holds (Owned but At) s → (x : Exchange) (d : Client) → IsIn x s.exchanges → x.number ≡ e.number → IsIn d s.clients → is_for x d ≡ true → may_ask_again s e.number ≡ false → is_trying d.course ≡ true → ⊥
again_not e s h x d i number j its isnt tries = at (find_some (is_exchange e.number) x s.exchanges i (ap (λ m. m == e.number) number ∙ number_same e.number))
  where
    at : (y : Exchange) × (exchange s e.number ≡ Some y) → ⊥
    at f =
        let r = in_find (is_exchange e.number) f.0 s.exchanges f.1 in
        let one : f.0 ≡ x = (facts_of h).apart f.0 x r.0 i (same_number f.0.number e.number r.1 ∙ sym number) in
        let its_one : is_for f.0 d ≡ true = subst (λ (y : Exchange). is_for y d ≡ true) (sym one) its in
        let may : list_any (λ c. is_for f.0 c && is_trying c.course) s.clients ≡ true = any_of (λ c. is_for f.0 c && is_trying c.course) d s.clients j (ap (λ t. t && is_trying d.course) its_one ∙ tries) in
        let both : true ≡ false = sym may ∙ sym (ap (λ (o : Option Exchange). is_some_with (λ y. list_any (λ c. is_for y c && is_trying c.course) s.clients) o) f.1) ∙ isnt in
        cc both

-- it is there still, as itself or left alone
pub there_lost : (e : Exchange) (s : State) → IsIn e s.exchanges → (x : Exchange) × IsIn x (lose_attempt e s).exchanges × (x.number ≡ e.number)
unfolding lose_attempt charge give_up_row clear swept on_client_of on_exchange
there_lost e s i = by (is_unfilled (on_client_of e (λ c. record c { course = lost_one (attempts_of e) c.course }) s) e)
  where
    lost : State
    lost = on_client_of e (λ c. record c { course = lost_one (attempts_of e) c.course }) s

    numbered : (t : Bool) → (elim t as (λ y. Exchange) [ true ↦ left_alone e | false ↦ e ]).number ≡ e.number
    numbered true = refl
    numbered false = refl

    by : (t : Bool) → (x : Exchange) × IsIn x (elim t as (λ c. State) [ false ↦ lost | true ↦ on_exchange e.number left_alone (on_client_of e without_row (clear (text_of e.key) lost)) ]).exchanges × (x.number ≡ e.number)
    by false = (e, i, refl)
    by true = (changed_at (is_exchange e.number) left_alone e, in_map_of (changed_at (is_exchange e.number) left_alone) e s.exchanges i, numbered (is_exchange e.number e))

leave_place-owned : {but : But} {At : Type 0} (e : Exchange) (s : State) → AreAlike e s.exchanges → NoLine e.number s → Holds (Owned but At) s → Holds (Owned but At) (leave_place e s)
unfolding leave_place on_client_of
leave_place-owned {but} {At} e s known none h =
    when_so (is_headed e)
    (λ headed. end_exchange-owned e.number _ (over headed) (λ k a l isnt is first. nowhere_first e.number s none k l first) (on_client_of-owned e (on_passed short) s short_number (λ c i its. shortened c) h))
    (λ unheaded. when_so (may_ask_again s e.number) (λ may. on_exchange-owned e.number unplaced s (λ x i hit. moved unheaded x i (same_number x.number e.number hit)) h) (λ isnt. end_exchange-owned e.number s (given_up_ unheaded isnt) (λ k a l off_ is first. nowhere_first e.number s none k l first) h))
  where
    over : is_headed e ≡ true → AreFree but (is_exchange e.number) (on_client_of e (on_passed short) s).clients s.exchanges
    over headed x d i hit j isnt its = record {
      waited = λ off_ a. (let both : true ≡ false = sym headed ∙ sym w.1 ∙ off_ in cc both);
      more = λ body a. at a (in_change (is_for e) (on_passed short) d s.clients j);
    }
      where
        w : Was x e
        w = known x i (same_number x.number e.number hit)

        at : Amid d → Changed (is_for e) (on_passed short) s.clients d → ⊥
        at a (same k off_) = let both : true ≡ false = sym (shrunk_for x e d w.0 its) ∙ off_ in cc both
        at a (other c k on eq) = short_not c (subst (λ (y : Client). Amid y) eq a)

    moved : is_headed e ≡ false → (x : Exchange) → IsIn x s.exchanges → x.number ≡ e.number → KeptAsk s.conns (unplaced x) x
    moved unheaded x i number = record {
      number = refl;
      asker = refl;
      aim = refl;
      headed = refl;
      relays = λ is. is;
      place = λ k l line empty. absurd (none k l (subst (λ n. IsIn n k.line) number line));
      plain = λ p. record { bare = λ empty. (known x i number).1 ∙ unheaded; spelled = p.spelled; asked = λ is. (let both : true ≡ false = sym is ∙ (known x i number).1 ∙ unheaded in absurd (cc both)); through = p.through };
    }

    given_up_ : is_headed e ≡ false → may_ask_again s e.number ≡ false → AreFree but (is_exchange e.number) s.clients s.exchanges
    given_up_ unheaded isnt x d i hit j off_ its = record {
      waited = λ un a. again_not e s h x d i (same_number x.number e.number hit) j its isnt a.tries;
      more = λ body a. (let both : true ≡ false = sym (relaying_headed x body) ∙ (known x i (same_number x.number e.number hit)).1 ∙ unheaded in cc both);
    }

lose_place-owned : {ask conn : Option ℕ} {At : Type 0} (counts : Bool) (e : Exchange) (s : State) → IsIn e s.exchanges → NoLine e.number s → (counts ≡ true → Sure e s) → Holds (Owned (some_but ask conn) At) s → Holds (Owned (some_but ask conn) At) (lose_place counts e s)
unfolding lose_place
lose_place-owned counts e s there none sure h =
    when_so counts
    (λ is. leave_place-owned e _ (alike_lost e e s (alike e s there h)) (no_line_shrunk e.number s _ (lose_attempt-shrinks e s) none) (lose_attempt-owned e s (stands_there e s.exchanges there) (sure is) h))
    (λ isnt. leave_place-owned e s (alike e s there h) none h)

-- ---- a connection is closed

-- of these, what is still there is in no line
abbrev NotInLines : List ℕ → State → Type 0
NotInLines line s = (n : ℕ) (e : Exchange) → IsIn n line → IsIn e s.exchanges → e.number ≡ n → NoLine n s

not_in_shrunk : (line : List ℕ) (s t : State) → Shrinks s t → NotInLines line s → NotInLines line t
not_in_shrunk line s t shrinks not_in n e i j is k m l =
    let f = shrinks.exchanges e j in
    let g = shrinks.conns k m in
    not_in n f.0 i f.1 (sym f.2 ∙ is) g.0 g.1 (g.3 n l)

lose_places-owned : {ask conn : Option ℕ} {At : Type 0} (counts : Bool) (line : List ℕ) (s : State) → (counts ≡ true → At × (ask ≡ None)) → NotInLines line s → Holds (Owned (some_but ask conn) At) s → Holds (Owned (some_but ask conn) At) (each_exchange (lose_place counts) line s)
unfolding each_exchange
lose_places-owned counts [] s calm not_in h = h
lose_places-owned {ask} {conn} {At} counts (n ∷ line) s calm not_in h =
    lose_places-owned counts line _ calm
    (not_in_shrunk line s _ (shrinks_each s (exchange s n) (shrinks_same s) (λ e. lose_place-shrinks counts e s)) (λ m e i j is. not_in m e (inr i) j is))
    (each_so (exchange s n) (λ none. h) (λ e found. by e (in_find (is_exchange n) e s.exchanges found)))
  where
    sure : (e : Exchange) → IsIn e s.exchanges → counts ≡ true → Sure e s
    sure e i is = let w = calm is in sure_calm {conn = conn} e s i w.0 (subst (λ (o : Option ℕ). Holds (Owned (some_but o conn) At) s) w.1 h)

    by : (e : Exchange) → IsIn e s.exchanges × (is_exchange n e ≡ true) → Holds (Owned (some_but ask conn) At) (lose_place counts e s)
    by e there = lose_place-owned counts e s there.0 (not_in e.number e (inl (same_number e.number n there.1)) there.0 refl) (sure e there.0) h

-- an exchange of that line stands in no other one
abbrev pub IsOwnLine : Conn → State → Type 0
IsOwnLine k s = (e : Exchange) (j : Conn) → IsIn e s.exchanges → IsIn e.number k.line → IsIn j s.conns → IsIn e.number j.line → j.number ≡ k.number

pub own_line : {but : But} {At : Type 0} (k : Conn) (s : State) → IsIn k s.conns → Holds (Owned but At) s → IsOwnLine k s
own_line k s i h e j m l n r = (facts_of h).own j k e n i m r l

pub own_shrunk : (k : Conn) (s t : State) → Shrinks s t → IsOwnLine k s → IsOwnLine k t
own_shrunk k s t shrinks own e j m l n r =
    let f = shrinks.exchanges e m in
    let g = shrinks.conns j n in
    g.2 ∙ own f.0 g.0 f.1 (subst (λ x. IsIn x k.line) f.2 l) g.1 (subst (λ x. IsIn x g.0.line) f.2 (g.3 e.number r))

off-not_in : (k : Conn) (s : State) → IsOwnLine k s → NotInLines k.line (on_conn k.number off s)
unfolding on_conn
off-not_in k s own n e i m is j at l = by (in_change (is_conn k.number) off j s.conns at)
  where
    by : Changed (is_conn k.number) off s.conns j → ⊥
    by (same there isnt) =
        let number : j.number ≡ k.number = own e j m (subst (λ x. IsIn x k.line) (sym is) i) there (subst (λ x. IsIn x j.line) (sym is) l) in
        let both : true ≡ false = sym (number_same k.number) ∙ sym (ap (λ x. x == k.number) number) ∙ isnt in
        cc both
    by (other g there hit eq) = subst (λ (x : Conn). IsIn n x.line) eq l

pub close_conn-owned : {ask conn : Option ℕ} {At : Type 0} (counts : Bool) (k : Conn) (s : State) → IsOwnLine k s → ((m : ℕ) → conn ≡ Some m → m ≡ k.number) → (counts ≡ true → At × (ask ≡ None)) → Holds (Owned (some_but ask conn) At) s → Holds (Owned (some_but ask None) At) (close_conn counts k s)
unfolding close_conn on_conn
close_conn-owned counts k s own only calm h = lose_places-owned (counts && not k.has_brought) k.line _ (λ is. calm (first_holds counts (not k.has_brought) is)) (off-not_in k s own) (holds (conns_off k.number only (facts_of h)))

pub each_conn-owned : {but : But} {At : Type 0} (f : Conn → State → State) → ((k : Conn) (s : State) → IsIn k s.conns → Holds (Owned but At) s → Holds (Owned but At) (f k s)) → (ns : List ℕ) (s : State) → Holds (Owned but At) s → Holds (Owned but At) (each_conn f ns s)
unfolding each_conn
each_conn-owned f each [] s h = h
each_conn-owned f each (n ∷ ns) s h = each_conn-owned f each ns _ (each_so (conn s n) (λ none. h) (λ k found. each k s (in_find (is_conn n) k s.conns found).0 h))
