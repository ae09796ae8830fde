-- The ends of responses, and of connections, keep it: behind the end of what is passed its exchange is over.
use Rattle.std.proofs.Common.{◌≡◌, refl, ℕ, Bool, true, false, not, ◌==◌, ◌&&◌, List, [], ◌∷◌, filter, Option, Some, None, sym, ap, ◌∙◌}
use Rattle.pp_pass.specs.Pipe.{finished}
use Rattle.pp_law.specs.Connections.{close_conn, end_exchange, exchange, front_of_line, is_exchange, is_for, lose_attempt, on_client_of}
use Rattle.pp_law.specs.Lists.{is_this}
use Rattle.pp_law.specs.Passing.{pour}
use Rattle.pp_law.specs.Responses.{bad_head, bad_response, ended, finish, finish_first, is_whole_at_end, may_go_on, rested, skip_body, skipping}
use Rattle.pp_law.specs.State.{State, Answer, Client, Conn, Exchange, Instance}
use Rattle.pp_laws.specs.Runs.{IsIn}
use Rattle.pp_laws.proofs.Lists.{changed_at, in_filter, in_find}
use Rattle.pp_laws.proofs.Tests.{number_same, same_number}
use Rattle.pp_laws_turn.proofs.Cases.{by_aim_of, each_of, each_so, when}
use Rattle.pp_laws_turn.proofs.Clients.{pour-keeps}
use Rattle.pp_laws_turn.proofs.Pieces.{skip_body-keeps}
use Rattle.pp_laws_turn.proofs.View.{Holds, facts_of, holds}
use Rattle.pp_laws_coming.proofs.Asks.{over_come}
use Rattle.pp_laws_coming.proofs.Attempts.{alike, alike_left, fail-comes, lose_attempt-comes}
use Rattle.pp_laws_coming.proofs.Clients.{end_exchange-comes}
use Rattle.pp_laws_coming.proofs.Facts.{ComingBut, Early, Facts}
use Rattle.pp_laws_coming.proofs.Its.{Its, OnlyIts, its_walk, only_its, poured-comes}
use Rattle.pp_laws_coming.proofs.Lost.{close_conn-early, close_this-comes, on_conn-comes}
use Rattle.pp_laws_coming.proofs.Stays.{Goes, Stays, clients_but, goes_on, stays_on}

-- ---- of its exchange nothing counted, and it is over

over_counts : (e : Exchange) (cs : List Client) (es : List Exchange) (next : ℕ) (xs : List Instance) (next_row : ℕ) → OnlyIts e es → Facts false e.asker cs es next xs next_row → Facts false None cs (filter (λ x. not (is_exchange e.number x)) es) next xs next_row
over_counts e cs es next xs next_row only h = by (over_come e.asker (λ x. not (is_exchange e.number x)) cs es next xs next_row h)
  where
    gone : (d : Exchange) (n : ℕ) → IsIn d es → not (is_exchange e.number d) ≡ true → e.asker ≡ Some n → d.asker ≡ Some n → ⊥
    gone d n i kept its asks =
        let its_number : d.number ≡ e.number = only d n i its asks in
        let hit : is_exchange e.number d ≡ true = ap (λ (m : ℕ). m == e.number) its_number ∙ number_same e.number in
        let both : false ≡ true = sym (ap not hit) ∙ kept in cc both

    by : Facts false e.asker cs (filter (λ x. not (is_exchange e.number x)) es) next xs next_row → Facts false None cs (filter (λ x. not (is_exchange e.number x)) es) next xs next_row
    by g = record {
      callers = g.callers;
      apart = g.apart;
      given = g.given;
      one = g.one;
      fresh = g.fresh;
      headed = g.headed;
      placeless = g.placeless;
      rowed = g.rowed;
      settled = g.settled;
      told = λ d n c i j asks is off. let at = in_filter (λ x. not (is_exchange e.number x)) d es i in g.told d n c i j asks is (λ its. gone d n at.0 at.1 its asks);
    }

skips : (e : Exchange) (s : State) → Holds (ComingBut false e.asker) s → Holds (ComingBut false e.asker) (skip_body e s)
unfolding skip_body on_client_of
skips e s h =
    by_aim_of e.aim (holds (clients_but e.asker (changed_at (is_for e) skipping) s.clients s.exchanges s.next_exchange s.instances s.next_instance (λ c. number_by c (is_for e c)) (λ c i. stays_by c (is_for e c)) (λ c i off. goes_by c (is_for e c) refl off) (facts_of h))) h (λ v from to. h)
  where
    number_by : (c : Client) (t : Bool) → (elim t as (λ x. Client) [ true ↦ skipping c | false ↦ c ]).number ≡ c.number
    number_by c true = refl
    number_by c false = refl

    stays_by : (c : Client) (t : Bool) → Stays (elim t as (λ x. Client) [ true ↦ skipping c | false ↦ c ]) c
    stays_by c true = record { number = refl; source = λ id is. is; front = λ key is. is; untold = λ none. none; stands = λ is. is }
    stays_by c false = stays_on c

    is_its : (n : ℕ) (o : Option ℕ) → is_this n o ≡ true → o ≡ Some n
    is_its n None is = absurd (cc is)
    is_its n (Some m) is = ap (λ k. Some k) (same_number m n is)

    goes_by : (c : Client) (t : Bool) → is_for e c ≡ t → (e.asker ≡ Some c.number → ⊥) → Goes (elim t as (λ x. Client) [ true ↦ skipping c | false ↦ c ]) c
    goes_by c true hit off = absurd (off (is_its c.number e.asker hit))
    goes_by c false isnt off = goes_on c

end-comes : (e : Exchange) (s : State) → Holds (Its e) s → Holds (ComingBut false e.asker) s → Holds Early (end_exchange e.number s)
unfolding end_exchange
end-comes e s only h = holds (over_counts e s.clients s.exchanges s.next_exchange s.instances s.next_instance (facts_of only) (facts_of h))

done-comes : (k : Conn) (e : Exchange) (a : Answer) (s : State) → Holds (Its e) s → Holds Early s → Holds Early (end_exchange e.number (skip_body e (pour e finished s)))
done-comes k e a s only h =
    end-comes e (skip_body e (pour e finished s)) (skip_body-keeps (its_walk e) e _ (pour-keeps (its_walk e) e finished s only)) (skips e (pour e finished s) (poured-comes e s h))

pub finish-comes : (k : Conn) (e : Exchange) (a : Answer) (s : State) → Holds (Its e) s → Holds Early s → Holds Early (finish k e a s)
unfolding finish
finish-comes k e a s only h =
    when (may_go_on e a.head) (on_conn-comes k.number (rested a.head) _ (done-comes k e a s only h)) (close_this-comes k.number _ (on_conn-comes k.number (rested a.head) _ (done-comes k e a s only h)))

-- ---- one that is none

pub front_in : (s : State) (k : Conn) (e : Exchange) → front_of_line s k ≡ Some e → IsIn e s.exchanges
front_in s k e = by k.line
  where
    by : (ns : List ℕ) → (elim ns as (λ x. Option Exchange) [ [] ↦ None | n ∷ line ↦ exchange s n ]) ≡ Some e → IsIn e s.exchanges
    by [] found = absurd (cc found)
    by (n ∷ line) found = (in_find (is_exchange n) e s.exchanges found).0

pub bad_response-comes : (k : Conn) (s : State) → Holds Early s → Holds Early (bad_response k s)
unfolding bad_response
bad_response-comes k s h =
    each_so (front_of_line s k) (λ none. close_conn-early false k s h)
    (λ e front. close_conn-early false k _ (end_exchange-comes e.number _ (fail-comes e s (alike_left e s.exchanges (alike e s (front_in s k e front) h)) h)))

pub bad_head-comes : (k : Conn) (s : State) → Holds Early s → Holds Early (bad_head k s)
unfolding bad_head
bad_head-comes k s h = by k.has_brought
  where
    by : (t : Bool) → Holds Early (elim t as (λ c. State) [
      | false ↦ bad_response k s
      | true ↦ elim (front_of_line s k) as (λ c. State) [ None ↦ close_conn false k s | Some e ↦ close_conn false k (lose_attempt e s) ]
    ])
    by false = bad_response-comes k s h
    by true =
        each_so (front_of_line s k) (λ none. close_conn-early false k s h)
        (λ e front. close_conn-early false k _ (lose_attempt-comes e s (alike_left e s.exchanges (alike e s (front_in s k e front) h)) h))

-- ---- the end of a connection

finish_first-comes : (k : Conn) (a : Answer) (s : State) → Holds Early s → Holds Early (finish_first k a s)
unfolding finish_first
finish_first-comes k a s h = each_so (front_of_line s k) (λ none. h) (λ e front. finish-comes k e a s (only_its e s (front_in s k e front) h) h)

pub ended-comes : (is_clean : Bool) (k : Conn) (s : State) → Holds Early s → Holds Early (ended is_clean k s)
unfolding ended
ended-comes is_clean k s h =
    each_of k.answer (close_conn-early true k s h) (λ a. when (is_clean && is_whole_at_end a) (close_this-comes k.number _ (finish_first-comes k a s h)) (close_conn-early true k s h))
