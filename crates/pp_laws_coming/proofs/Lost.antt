-- The ends of connections, and of their lines, keep it.
use Rattle.std.proofs.Common.{◌≡◌, refl, ℕ, Bool, true, false, not, ◌&&◌, ◌||◌, List, [], ◌∷◌, Option, Some, None, sym, subst, ap, ◌∙◌, le_refl}
use Rattle.std.specs.List.{list_any}
use Rattle.pp_law.specs.Connections.{close_conn, conn, each_conn, exchange, is_exchange, is_for, is_trying, leave_place, lose_place, may_ask_again, on_conn, on_exchange, unplaced}
use Rattle.pp_law.specs.Lists.{is_some_with, is_this}
use Rattle.pp_law.specs.Responses.{close_this}
use Rattle.pp_law.specs.Stages.{is_headed, on_passed}
use Rattle.pp_law.specs.State.{State, Client, Conn, Exchange, Passed}
use Rattle.pp_laws.specs.Runs.{IsIn}
use Rattle.pp_laws.proofs.Lists.{in_find}
use Rattle.pp_laws.proofs.Tests.{first_holds, same_number}
use Rattle.pp_laws_turn.proofs.Cases.{each_of, when_so}
use Rattle.pp_laws_turn.proofs.View.{Holds, facts_of, holds}
use Rattle.pp_laws_coming.proofs.Asks.{same_bound}
use Rattle.pp_laws_coming.proofs.Attempts.{AreAlike, MayBeLeft, alike, alike_left, alike_lost, lose_attempt-comes}
use Rattle.pp_laws_coming.proofs.Clients.{each_exchange-comes, end_exchange-comes, on_client_of-comes, on_exchange-comes}
use Rattle.pp_laws_coming.proofs.Facts.{Coming, Early}
use Rattle.pp_laws_coming.proofs.Said.{passed_goes}

-- ---- its place is gone

pub again_asked : (s : State) (n : ℕ) → may_ask_again s n ≡ true → (x : Exchange) → exchange s n ≡ Some x → x.asker ≡ None → ⊥
again_asked s n may x found nobody = by s.clients (sym (ap (λ (o : Option Exchange). is_some_with (λ e. list_any (λ c. is_for e c && is_trying c.course) s.clients) o) found) ∙ may)
  where
    by : (cs : List Client) → list_any (λ c. is_for x c && is_trying c.course) cs ≡ true → ⊥
    by [] at = cc at
    by (c ∷ cs) at = by cs (sym (ap (λ (o : Option ℕ). (is_this c.number o && is_trying c.course) || list_any (λ c. is_for x c && is_trying c.course) cs) nobody) ∙ at)

pub found_one : (s : State) (n : ℕ) → may_ask_again s n ≡ true → (x : Exchange) × (exchange s n ≡ Some x)
found_one s n may = by (exchange s n) may
  where
    by : (o : Option Exchange) → is_some_with (λ e. list_any (λ c. is_for e c && is_trying c.course) s.clients) o ≡ true → (x : Exchange) × (o ≡ Some x)
    by None at = absurd (cc at)
    by (Some x) at = (x, refl)

again-comes : {late : Bool} → (e : Exchange) (s : State) → AreAlike e s.exchanges → is_headed e ≡ false → may_ask_again s e.number ≡ true → Holds (Coming late) s → Holds (Coming late) (on_exchange e.number unplaced s)
again-comes e s known unheaded may h = on_exchange-comes e.number unplaced s (λ x i hit.
    let its : x.number ≡ e.number = same_number x.number e.number hit in
    let w = found_one s e.number may in
    let r = in_find (is_exchange e.number) w.0 s.exchanges w.1 in
    let one : x ≡ w.0 = (facts_of h).apart x w.0 i r.0 (its ∙ sym (same_number w.0.number e.number r.1)) in record {
      number = refl;
      fills = refl;
      asker = λ n is. is;
      headed = refl;
      placed = λ is was none. let both : true ≡ false = sym is ∙ (known x i its).0 ∙ unheaded in cc both;
      asked = λ was none. refl;
      key = refl;
      left = le_refl x.body_left;
      bound = same_bound _ x refl;
      followers = λ counts was nowhere nobody. again_asked s e.number may w.0 w.1 (ap (λ (y : Exchange). y.asker) (sym one) ∙ nobody);
    }) h

leave_place-comes : {late : Bool} → (e : Exchange) (s : State) → AreAlike e s.exchanges → Holds (Coming late) s → Holds (Coming late) (leave_place e s)
unfolding leave_place
leave_place-comes e s known h =
    when_so (is_headed e)
    (λ is. end_exchange-comes e.number _ (on_client_of-comes e (on_passed short) s (passed_goes short (λ p. refl)) h))
    (λ unheaded. when_so (may_ask_again s e.number) (λ may. again-comes e s known unheaded may h) (λ isnt. end_exchange-comes e.number s h))
  where
    short : Passed → Passed
    short p = record p { is_short = true }

-- an attempt is lost before asks are given up
abbrev pub IsEarly : Bool → Bool → Type 0
IsEarly late counts = counts ≡ true → late ≡ false

lose_place-comes : {late : Bool} → (counts : Bool) (e : Exchange) (s : State) → IsEarly late counts → IsIn e s.exchanges → Holds (Coming late) s → Holds (Coming late) (lose_place counts e s)
unfolding lose_place
lose_place-comes {late} counts e s early there h =
    let known : AreAlike e s.exchanges = alike e s there h in
    when_so counts (λ is. leave_place-comes e _ (alike_lost e s known) (lose_attempt-comes e s (subst (λ b. MayBeLeft b e s.exchanges) (sym (early is)) (alike_left e s.exchanges known)) h)) (λ isnt. leave_place-comes e s known h)

pub on_conn-comes : {late : Bool} → (n : ℕ) (f : Conn → Conn) (s : State) → Holds (Coming late) s → Holds (Coming late) (on_conn n f s)
unfolding on_conn
on_conn-comes n f s h = holds (facts_of h)

pub close_conn-comes : {late : Bool} → (counts : Bool) (k : Conn) (s : State) → IsEarly late counts → Holds (Coming late) s → Holds (Coming late) (close_conn counts k s)
unfolding close_conn
close_conn-comes counts k s early h =
    each_exchange-comes (lose_place (counts && not k.has_brought)) (λ e t i ht. lose_place-comes (counts && not k.has_brought) e t (λ is. early (first_holds counts (not k.has_brought) is)) i ht) k.line _ (on_conn-comes k.number _ s h)

pub close_conn-early : (counts : Bool) (k : Conn) (s : State) → Holds Early s → Holds Early (close_conn counts k s)
close_conn-early counts k s h = close_conn-comes counts k s (λ is. refl) h

pub each_conn-comes : {late : Bool} → (f : Conn → State → State) → ((k : Conn) (s : State) → Holds (Coming late) s → Holds (Coming late) (f k s)) → (ns : List ℕ) (s : State) → Holds (Coming late) s → Holds (Coming late) (each_conn f ns s)
unfolding each_conn
each_conn-comes f each [] s h = h
each_conn-comes f each (n ∷ ns) s h = each_conn-comes f each ns _ (each_of (conn s n) h (λ k. each k s h))

pub close_this-comes : (n : ℕ) (s : State) → Holds Early s → Holds Early (close_this n s)
unfolding close_this
close_this-comes n s h = each_of (conn s n) h (λ k. close_conn-early true k s h)
