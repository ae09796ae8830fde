-- Asks of followers keep it.
use Rattle.std.proofs.Common.{◌≡◌, refl, ℕ, ◌≤◌, Bool, true, false, not, ◌||◌, nat_lt, Option, Some, None, Result, Ok, Err, sym, subst, ap, ◌∙◌, zero-le}
use Rattle.pp_plan.specs.Need.{need}
use Rattle.pp_target.specs.Key.{Key}
use Rattle.pp_target.specs.declared.target.TargetFault.{TargetFault}
use Rattle.pp_valid.specs.declared.version.Version.{Version}
use Rattle.pp_law.specs.Connections.{is_trying}
use Rattle.pp_law.specs.Decisions.{fits}
use Rattle.pp_law.specs.Followers.{fill, fill_for, fill_next, fill_span, fill_with, filling_exchange, give_up_asks, hole_of, is_useless_ask, need_of}
use Rattle.pp_law.specs.Lists.{is_some_with}
use Rattle.pp_law.specs.Requests.{Front, Parsed, NoHeadYet, NoHead, IsRequest, key_in}
use Rattle.pp_law.specs.Stages.{filled_of, is_headed, is_passing, passed_of, reply_of}
use Rattle.pp_law.specs.State.{State, AskTooLong, Client, Exchange, Instance, Passed, Reply, Stage, Undecided, Waiting, Passing, Answering}
use Rattle.pp_law.specs.Table.{Next, instance, is_brought, is_instance, next_from, next_in, next_of}
use Rattle.pp_laws.specs.Runs.{IsIn}
use Rattle.pp_laws.proofs.Lists.{in_find}
use Rattle.pp_laws.proofs.Sound.{source_in}
use Rattle.pp_laws.proofs.Tests.{same_number}
use Rattle.pp_laws_turn.proofs.Cases.{each_so, when}
use Rattle.pp_laws_turn.proofs.View.{Holds, facts_of, holds}
use Rattle.pp_laws_coming.proofs.Asked.{begin_exchange-comes, key_at}
use Rattle.pp_laws_coming.proofs.Asks.{over_come}
use Rattle.pp_laws_coming.proofs.Clients.{each_client-comes, on_client-comes}
use Rattle.pp_laws_coming.specs.Coming.{is_waiting, may_have_ask}
use Rattle.pp_laws_coming.proofs.Facts.{Coming, IsTold}
use Rattle.pp_laws_coming.proofs.Followed.{some_to}
use Rattle.pp_laws_coming.proofs.Stays.{goes_as}

-- ---- what followers ask for

-- the row that is followed stands, and is there
record IsNext (c : Client) (x : Instance) (s : State) : Type 0 where
  here : IsIn c s.clients
  there : IsIn x s.instances
  source : source_in c.stage ≡ Some x.id
  stands : may_have_ask c.stage ≡ true
  answers : is_waiting c.stage ≡ false

next_there : (s : State) (c : Client) (n : Next) → IsIn c s.clients → next_of s c ≡ Some n → IsNext c n.source s
next_there s c n here is = going c.is_closing is
  where
    from : (x : Instance) (r : Reply) (t : Bool) → (elim t as (λ y. Option Next) [ true ↦ Some (record { source = x; at = r.at; to = r.to }) | false ↦ None ]) ≡ Some n → x ≡ n.source
    from x r true at = let one : record { source = x; at = r.at; to = r.to } ≡ n = cc at in ap (λ (m : Next). m.source) one
    from x r false at = absurd (cc at)

    within : (x : Instance) (r : Reply) (t : Bool) → nat_lt r.at r.to ≡ t → (elim t as (λ y. Option Next) [ true ↦ Some (record { source = x; at = r.at; to = r.to }) | false ↦ None ]) ≡ Some n → nat_lt r.at r.to ≡ true
    within x r true lt at = lt
    within x r false lt at = absurd (cc at)

    lasts : (a b d : Bool) → d ≡ true → (a || b || d) ≡ true
    lasts true b d is = refl
    lasts false true d is = refl
    lasts false false d is = is

    stood : (r : Reply) → c.stage ≡ Answering r → nat_lt r.at r.to ≡ true → may_have_ask c.stage ≡ true
    stood r stage lt = ap may_have_ask stage ∙ lasts r.has_begun (is_passing r.decision) (nat_lt 0 r.to) (some_to r.at r.to lt)

    found_at : (r : Reply) (id : ℕ) (o : Option Instance) → c.stage ≡ Answering r → instance s id ≡ o → source_in c.stage ≡ Some id → (elim o as (λ y. Option Next) [ None ↦ None | Some x ↦ next_from x r ]) ≡ Some n → IsNext c n.source s
    found_at r id None stage found source at = absurd (cc at)
    found_at r id (Some x) stage found source at =
        let w = in_find (is_instance id) x s.instances found in
        let one : x ≡ n.source = from x r (nat_lt r.at r.to) at in
        subst (λ (y : Instance). IsNext c y s) one (record { here = here; there = w.0; source = source ∙ ap (λ k. Some k) (sym (same_number x.id id w.1)); stands = stood r stage (within x r (nat_lt r.at r.to) refl at); answers = ap is_waiting stage })

    sourced_at : (r : Reply) (o : Option ℕ) → c.stage ≡ Answering r → source_in c.stage ≡ o → (elim (elim o as (λ y. Option Instance) [ None ↦ None | Some id ↦ instance s id ]) as (λ y. Option Next) [ None ↦ None | Some x ↦ next_from x r ]) ≡ Some n → IsNext c n.source s
    sourced_at r None stage source at = absurd (cc at)
    sourced_at r (Some id) stage source at = found_at r id (instance s id) stage refl source at

    at_stage : (stage : Stage) → c.stage ≡ stage → (elim (elim stage as (λ y. Option Reply) [ Undecided ↦ None | Waiting ↦ None | Passing ↦ None | Answering r ↦ Some r ]) as (λ y. Option Next) [ None ↦ None | Some r ↦ next_in s r ]) ≡ Some n → IsNext c n.source s
    at_stage Undecided stage at = absurd (cc at)
    at_stage Waiting stage at = absurd (cc at)
    at_stage Passing stage at = absurd (cc at)
    at_stage (Answering r) stage at = sourced_at r r.source stage (ap source_in stage) at

    going : (t : Bool) → (elim t as (λ y. Option Next) [ true ↦ None | false ↦ elim (reply_of c) as (λ y. Option Next) [ None ↦ None | Some r ↦ next_in s r ] ]) ≡ Some n → IsNext c n.source s
    going true at = absurd (cc at)
    going false at = at_stage c.stage refl at

-- it is answered, and its request may have an exchange
abbrev Answers : Client → Type 0
Answers c = (may_have_ask c.stage ≡ true) × (is_waiting c.stage ≡ false)

fill_with-comes : {late : Bool} → (e : Exchange) (v : Version) (c : Client) (s : State) → e.number ≡ s.next_exchange → e.place ≡ None → e.asked ≡ 0 → is_headed e ≡ false → e.asker ≡ Some c.number → filled_of e ≡ Some v → key_in c.front ≡ Some e.key → IsIn c s.clients → passed_of c ≡ None → Answers c → e.body_left ≡ 0 → Holds (Coming late) s
    → Holds (Coming late) (fill_with e c s)
unfolding fill_with
fill_with-comes e v c s number place asked unheaded asks fills keyed there nothing standing nothing_left h =
    when (fits e.text)
    (begin_exchange-comes e c.number s number place asked unheaded asks (λ d i is. subst (λ (x : Client). IsTold s.instances e x) ((facts_of h).callers c d there i (sym is)) told) h)
    (on_client-comes c.number (λ x. record x { course = AskTooLong }) s (λ x. refl) (λ x i hit. goes_as _ x refl refl refl refl refl) h)
  where
    told : IsTold s.instances e c
    told = record {
      waits = λ none off. (let both : None ≡ Some v = sym none ∙ fills in absurd (cc both));
      untold = λ off. nothing;
      coming = ap (λ (o : Option Passed). is_some_with (λ p. p.pipe.is_finished) o) nothing;
      stands = standing.0;
      fills = λ w is. standing.1;
      left = subst (λ m. m ≤ c.body_left) (sym nothing_left) zero-le;
      key = keyed;
      bound = λ none x i follows. (let both : None ≡ Some v = sym none ∙ fills in absurd (cc both));
    }

fill_span-comes : {late : Bool} → (c : Client) (n : Next) (span : ℕ × ℕ) (s : State) → IsIn c s.clients → passed_of c ≡ None → Answers c → Holds (Coming late) s → Holds (Coming late) (fill_span c n span s)
unfolding fill_span
fill_span-comes {late} c n span s there nothing standing h = by c.front refl
  where
    by_key : (r : Parsed) (k : Result Key TargetFault) → c.front ≡ IsRequest r → r.key ≡ k → Holds (Coming late) (elim k as (λ x. State) [ Ok key ↦ fill_with (filling_exchange s c r.head key n span) c s | Err fault ↦ s ])
    by_key r (Ok key) front is = fill_with-comes (filling_exchange s c r.head key n span) n.source.version c s refl refl refl refl refl refl (key_at c r key front is) there nothing standing refl h
    by_key r (Err fault) front is = h

    by : (front : Front) → c.front ≡ front → Holds (Coming late) (elim front as (λ x. State) [
      | NoHeadYet ↦ s
      | NoHead status ↦ s
      | IsRequest r ↦ elim r.key as (λ x. State) [ Ok key ↦ fill_with (filling_exchange s c r.head key n span) c s | Err fault ↦ s ]
    ])
    by NoHeadYet is = h
    by (NoHead status) is = h
    by (IsRequest r) is = by_key r r.key is refl

fill_next-comes : {late : Bool} → (c : Client) (n : Next) (s : State) → IsNext c n.source s → Holds (Coming late) s → Holds (Coming late) (fill_next c n s)
unfolding fill_next
fill_next-comes c n s next h =
    each_so (need_of s n) (λ none. h)
    (λ span is. fill_span-comes c n span s next.here (((facts_of h).settled c next.here).bare n.source next.there (record { stands = standing n.source.is_retired (is_brought s n.source n.at) span is; source = next.source })) (next.stands, next.answers) h)
  where
    standing : (retired brought : Bool) (span : ℕ × ℕ) → (elim (retired || brought) as (λ x. Option (ℕ × ℕ)) [ true ↦ None | false ↦ need n.at n.to (hole_of s n) ]) ≡ Some span → retired ≡ false
    standing true brought span at = absurd (cc at)
    standing false brought span at = refl

fill_for-comes : {late : Bool} → (c : Client) (s : State) → IsIn c s.clients → Holds (Coming late) s → Holds (Coming late) (fill_for c s)
unfolding fill_for
fill_for-comes c s there h = when (is_trying c.course) (each_so (next_of s c) (λ none. h) (λ n is. fill_next-comes c n s (next_there s c n there is) h)) h

pub fill-comes : {late : Bool} → (s : State) → Holds (Coming late) s → Holds (Coming late) (fill s)
unfolding fill
fill-comes s h = when s.is_stopped h (each_client-comes fill_for (λ c t i ht. fill_for-comes c t i ht) _ s h)

pub give_up_asks-comes : {late : Bool} → (s : State) → Holds (Coming late) s → Holds (Coming late) (give_up_asks s)
unfolding give_up_asks
give_up_asks-comes s h = holds (over_come None (λ e. not (is_useless_ask s e)) s.clients s.exchanges s.next_exchange s.instances s.next_instance (facts_of h))
