-- Replies that are over, and clients of whom nothing is left, keep it.
use Rattle.std.proofs.Common.{◌≡◌, refl, ℕ, Bool, true, false, not, ◌&&◌, Option, Some, None, ap}
use Rattle.pp_text.specs.Bytes.{is_empty}
use Rattle.pp_law.specs.Closing.{forsake, is_of, left_alone}
use Rattle.pp_law.specs.Connections.{anew, is_client, on_client}
use Rattle.pp_law.specs.Lists.{change, is_some_with, is_this}
use Rattle.pp_law.specs.Replies.{close_finished, end_replies, end_reply, end_said, has_no_more, is_finished, is_said, next_request, is_regained, regained, regained_by}
use Rattle.pp_law.specs.Stages.{is_headed}
use Rattle.pp_law.specs.State.{State, Client, Exchange, Reply, Stage, Undecided, Waiting, Passing, Answering}
use Rattle.pp_laws.specs.Runs.{IsIn}
use Rattle.pp_laws.proofs.Tests.{first_holds, same_number}
use Rattle.pp_laws_turn.proofs.Cases.{when, when_so}
use Rattle.pp_laws_turn.proofs.Rows.{swept-keeps}
use Rattle.pp_laws_turn.proofs.View.{Holds, facts_of, holds}
use Rattle.pp_laws_coming.specs.Coming.{Waits, is_waiting}
use Rattle.pp_laws_coming.proofs.Alone.{MayLeave, all_count, left_come, none_is_of}
use Rattle.pp_laws_coming.proofs.Asks.{early_fills}
use Rattle.pp_laws_coming.proofs.Clients.{all_clients-comes, close_client-comes, each_client-comes}
use Rattle.pp_laws_coming.proofs.Facts.{Coming, Early, rows}
use Rattle.pp_laws_coming.proofs.Stays.{Goes, client_but, goes_as, goes_on, unsourced}

-- ---- a reply is over

said_in : (a : Bool) (test : Reply → Bool) (stage : Stage) → (a && is_some_with test (elim stage as (λ y. Option Reply) [ Undecided ↦ None | Waiting ↦ None | Passing ↦ None | Answering r ↦ Some r ])) ≡ true → is_waiting stage ≡ true → ⊥
said_in a test Undecided said is = cc is
said_in true test Waiting said is = cc said
said_in false test Waiting said is = cc said
said_in true test Passing said is = cc said
said_in false test Passing said is = cc said
said_in a test (Answering r) said is = cc is

next-comes : (c : Client) (s : State) → IsIn c s.clients → is_said c ≡ true → Holds Early s → Holds Early (forsake (is_of c.number) (on_client c.number next_request s))
unfolding forsake on_client
next-comes c s there said h =
    holds
    (all_count c.number (change (is_client c.number) next_request s.clients) (change (is_of c.number) left_alone s.exchanges) s.next_exchange s.instances s.next_instance (none_is_of c.number s.exchanges)
    (left_come (Some c.number) (is_of c.number) (change (is_client c.number) next_request s.clients) s.exchanges s.next_exchange s.instances s.next_instance may (client_but c.number next_request s.clients s.exchanges s.next_exchange s.instances s.next_instance (λ d. refl) (λ d i is. unsourced s.instances s.next_instance (next_request d) refl (λ off. refl)) (facts_of h))))
  where
    is_its : (n : ℕ) (o : Option ℕ) → is_this n o ≡ true → o ≡ Some n
    is_its n None is = absurd (cc is)
    is_its n (Some m) is = ap (λ k. Some k) (same_number m n is)

    may : (e : Exchange) → IsIn e s.exchanges → is_of c.number e ≡ true → MayLeave false e
    may e i its counts nowhere = by (is_headed e) refl
      where
        by : (b : Bool) → is_headed e ≡ b → ⊥
        by true headed = (facts_of h).headed e i headed nowhere
        by false unheaded =
            let waits : Waits c = ((facts_of h).told e c.number c i there (is_its c.number e.asker its) refl (λ none. cc none)).waits (early_fills e counts) unheaded in
            said_in (is_empty c.interim_left) (λ r. r.has_begun && is_empty r.head_left && has_no_more c r) c.stage said waits.stage

end_reply-comes : (c : Client) (s : State) → IsIn c s.clients → is_said c ≡ true → Holds Early s → Holds Early (end_reply c s)
unfolding end_reply
end_reply-comes c s there said h = when c.closes (close_client-comes c.number false s h) (swept-keeps rows _ (next-comes c s there said h))

end_said-comes : (c : Client) (s : State) → IsIn c s.clients → Holds Early s → Holds Early (end_said c s)
unfolding end_said
end_said-comes c s there h = when_so (is_said c && not c.is_closing) (λ is. end_reply-comes c s there (first_holds (is_said c) (not c.is_closing) is) h) (λ isnt. h)

close_finished-comes : (c : Client) (s : State) → Holds Early s → Holds Early (close_finished c s)
unfolding close_finished
close_finished-comes c s h = when (is_finished c) (close_client-comes c.number false s h) h

pub end_replies-comes : (s : State) → Holds Early s → Holds Early (end_replies s)
unfolding end_replies
end_replies-comes s h = each_client-comes close_finished (λ c t i ht. close_finished-comes c t ht) _ _ (each_client-comes end_said (λ c t i ht. end_said-comes c t i ht) _ s h)

pub regained-comes : {late : Bool} → (s : State) → Holds (Coming late) s → Holds (Coming late) (regained s)
unfolding regained
regained-comes s h = all_clients-comes (regained_by s) s (λ c. by c (is_regained s c)) h
  where
    by : (c : Client) (held : Bool) → Goes (elim held as (λ y. Client) [ true ↦ record c { course = anew c.course } | false ↦ c ]) c
    by c true = goes_as _ c refl refl refl refl refl
    by c false = goes_on c
