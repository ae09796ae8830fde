-- What is decided leaves no reply that was said whole, and one that is passed has its response.
use Rattle.std.proofs.Common.{◌≡◌, refl, ℕ, Bool, true, false, ◌==◌, ◌&&◌, ◌||◌, [], is_some, Option, Some, None, Result, Ok, Err, sym, subst, ap, ◌∙◌}
use Rattle.pp_ask.specs.declared.kind.AskKind.{AskKind}
use Rattle.pp_head.specs.Request.{Request}
use Rattle.pp_plan.specs.Decision.{is_ready_row}
use Rattle.pp_plan.specs.declared.table.Begun.{Begun}
use Rattle.pp_plan.specs.declared.table.Begun.TheVariants.{Nothing, Settled, Other, Widened}
use Rattle.pp_target.specs.Key.{Key, text_of}
use Rattle.pp_target.specs.declared.target.TargetFault.{TargetFault}
use Rattle.pp_world.specs.declared.note.Decision.{Decision}
use Rattle.pp_world.specs.declared.note.Decision.TheVariants.{Refuse, Hit, Part, Head, NotModified, Unsatisfiable, Relay, Validate, Fetch, Pass}
use Rattle.pp_law.specs.After.{take_decision}
use Rattle.pp_law.specs.Closing.{is_of}
use Rattle.pp_law.specs.Connections.{client, is_client, on_client}
use Rattle.pp_law.specs.Deciding.{answering_with, ask_as, ask_for, ask_origin, asking_with, decided, decided_by, enter_row, follow, follow_row, follow_with, new_exchange, refuse, refused_with, relay, reply_by}
use Rattle.pp_law.specs.Decisions.{begun_now, decide, kind_of}
use Rattle.pp_law.specs.Lists.{Bytes, is_some_with}
use Rattle.pp_law.specs.Permits.{is_same_decision, may_want_memory, permits_taken}
use Rattle.pp_law.specs.Phases.{come_to_decide, deciding, in_phase, is_free}
use Rattle.pp_law.specs.Replies.{regained}
use Rattle.pp_law.specs.Requests.{Front, Parsed, NoHeadYet, NoHead as NoFront, IsRequest, key_in}
use Rattle.pp_law.specs.Stages.{passed_of}
use Rattle.pp_law.specs.State.{State, Awaited, Brought, Client, Deciding, Instance, Joins, Passes, TooWide, Useless}
use Rattle.pp_law.specs.Table.{row, row_for}
use Rattle.pp_laws.specs.Runs.{IsIn}
use Rattle.pp_laws.proofs.Lists.{in_find, one_of}
use Rattle.pp_laws.proofs.Sound.{client_number}
use Rattle.pp_laws.proofs.Tests.{same_number}
use Rattle.pp_laws_coming.proofs.Alike.{relay_unpaged, same_relay}
use Rattle.pp_laws_coming.proofs.Dues.{IsDue, from_due, taken_due}
use Rattle.pp_laws_coming.proofs.Plans.{begun_off, decide_off, decision_off, is_relay}
use Rattle.pp_laws_replies.specs.ByRow.{is_by_row}
use Rattle.pp_laws_left.proofs.Choices.{rows_pass}
use Rattle.pp_laws_left.proofs.Keep.{AtEvent, Keeps, awaits, facts_of as keeps_of, keeps, keeps_same, owes, passed_in}
use Rattle.pp_laws_left.proofs.KeepAsks.{begin_exchange-keeps, leave-keeps}
use Rattle.pp_laws_left.proofs.KeepRows.{swept-keeps}
use Rattle.pp_laws_left.proofs.KeepTurns.{deciding-keeps, enter_row-keeps, regained-keeps}
use Rattle.pp_laws_left.proofs.Spoken.{Spoken, changed_spoken, facts_of, same_some, spoken_on}
use Rattle.pp_laws_left.proofs.SpokenBegins.{answering_speaks, asking_speaks, refused_speaks}

-- ---- what is relayed is there

abbrev begun_by : State → Bytes → Brought → Begun
begun_by s key b = elim b as (λ y. Begun) [
  | Awaited ↦ Nothing
  | Useless ↦ Nothing
  | Joins id plain ↦ elim (is_some_with (λ x. x.id == id) (row s key)) as (λ y. Begun) [ true ↦ Settled | false ↦ Nothing ]
  | Passes p ↦ Other
  | TooWide ↦ Widened
]

relayed_some : (s : State) (c : Client) (x : Decision) → decide s c ≡ Some x → is_relay x ≡ true → is_some (passed_of c) ≡ true
relayed_some s c x is relays = by c.brought refl
  where
    none : ((key : Bytes) → begun_now s c key ≡ Other → ⊥) → ⊥
    none off =
        let isnt : is_relay x ≡ false = decide_off is_relay s c (λ status. refl) (λ head key. decision_off is_relay head (row_for s head (text_of key)) (begun_now s c (text_of key)) s.clock (λ status. refl) refl
        (begun_off head (row_for s head (text_of key)) (begun_now s c (text_of key)) (is_ready_row head (row_for s head (text_of key)) (begun_now s c (text_of key)) s.clock) (off (text_of key)))) x is in
        let both : true ≡ false = sym relays ∙ isnt in
        cc both

    joined : (t : Bool) → (elim t as (λ y. Begun) [ true ↦ Settled | false ↦ Nothing ]) ≡ Other → ⊥
    joined true e = cc e
    joined false e = cc e

    by : (b : Brought) → c.brought ≡ b → is_some (passed_of c) ≡ true
    by Awaited at = absurd (none (λ key other. let e : Nothing ≡ Other = sym (ap (begun_by s key) at) ∙ other in cc e))
    by Useless at = absurd (none (λ key other. let e : Nothing ≡ Other = sym (ap (begun_by s key) at) ∙ other in cc e))
    by (Joins id plain) at = absurd (none (λ key other. joined (is_some_with (λ y. y.id == id) (row s key)) (sym (ap (begun_by s key) at) ∙ other)))
    by (Passes p) at = ap (λ y. is_some (passed_in y)) at
    by TooWide at = absurd (none (λ key other. let e : Widened ≡ Other = sym (ap (begun_by s key) at) ∙ other in cc e))

-- ---- pages, asks, and replies that are passed

abbrev NoEvent : State → Type 0
NoEvent s = AtEvent s.phase s.owed → ⊥

refuse_spoken : (c : Client) (status : ℕ) (s : State) → Spoken true s → Spoken true (refuse c status s)
unfolding refuse on_client
refuse_spoken c status s h =
    spoken_on _ _ (swept-keeps _ (leave-keeps (is_of c.number) _ (keeps_same _)))
    (changed_spoken true s (is_client c.number) (refused_with status) (λ d. refl) (λ d i hit k. refused_speaks status d) (λ is. is) h)

ask_for_spoken : (c : Client) (d : Decision) (head : Request) (key : Key) (kind : AskKind) (s : State) → Spoken true s → Spoken true (ask_for c d head key kind s)
unfolding ask_for on_client
ask_for_spoken c d head key kind s h =
    spoken_on _ _ (swept-keeps _ (begin_exchange-keeps (new_exchange s c head key d kind) _ (leave-keeps (is_of c.number) _ (keeps_same _))))
    (changed_spoken true s (is_client c.number) (asking_with d) (λ e. refl) (λ e i hit k. asking_speaks d e) (λ is. is) h)

ask_origin_spoken : (c : Client) (d : Decision) (s : State) → Spoken true s → Spoken true (ask_origin c d s)
unfolding ask_origin ask_as
ask_origin_spoken c d s h = by_front c.front
  where
    by_kind : (head : Request) (key : Key) (o : Option AskKind) → Spoken true (elim o as (λ x. State) [ None ↦ s | Some kind ↦ ask_for c d head key kind s ])
    by_kind head key None = h
    by_kind head key (Some kind) = ask_for_spoken c d head key kind s h

    by_key : (r : Parsed) (named : Result Key TargetFault) → Spoken true (elim named as (λ x. State) [ Ok key ↦ elim (kind_of r.head (row_for s r.head (text_of key)) d) as (λ y. State) [ None ↦ s | Some kind ↦ ask_for c d r.head key kind s ] | Err fault ↦ s ])
    by_key r (Ok key) = by_kind r.head key (kind_of r.head (row_for s r.head (text_of key)) d)
    by_key r (Err fault) = h

    by_front : (front : Front) → Spoken true (elim front as (λ x. State) [
      | NoHeadYet ↦ s
      | NoFront status ↦ s
      | IsRequest r ↦ elim r.key as (λ y. State) [ Ok key ↦ elim (kind_of r.head (row_for s r.head (text_of key)) d) as (λ z. State) [ None ↦ s | Some kind ↦ ask_for c d r.head key kind s ] | Err fault ↦ s ]
    ])
    by_front NoHeadYet = h
    by_front (NoFront status) = h
    by_front (IsRequest r) = by_key r r.key

follow_spoken : (c : Client) (d : Decision) (s : State) → is_by_row d ≡ true → NoEvent s → Spoken true s → Spoken true (follow c d s)
unfolding follow follow_row follow_with on_client
follow_spoken c d s by_row off h = by_named (key_in c.front)
  where
    at : (key : Bytes) (o : Option Instance) → Spoken true (elim o as (λ y. State) [ None ↦ s | Some x ↦ follow_with c (reply_by d (Some x.id)) x s ])
    at key None = h
    at key (Some x) =
        spoken_on _ _ (swept-keeps _ (leave-keeps _ _ (keeps_same _)))
        (changed_spoken true s (is_client c.number) (answering_with (reply_by d (Some x.id))) (λ e. refl) (λ e i hit k. answering_speaks (reply_by d (Some x.id)) e off refl (λ on. absurd (rows_pass d by_row on))) (λ is. is) h)

    by_named : (o : Option Key) → Spoken true (elim o as (λ x. State) [ None ↦ s | Some key ↦ follow_row c d (text_of key) s ])
    by_named None = h
    by_named (Some key) = at (text_of key) (row s (text_of key))

relay_spoken : (c : Client) (s : State) → ((e : Client) → IsIn e s.clients → e.number ≡ c.number → is_some (passed_of e) ≡ true) → NoEvent s → Spoken true s → Spoken true (relay c s)
unfolding relay on_client
relay_spoken c s some off h =
    spoken_on _ _ (swept-keeps _ (keeps_same _))
    (changed_spoken true s (is_client c.number) (answering_with (reply_by Relay None)) (λ e. refl) (λ e i hit k. answering_speaks (reply_by Relay None) e off refl (λ on. some e i (same_number e.number c.number hit))) (λ is. is) h)

-- ---- all

some_in : (s t : State) (c : Client) → Keeps true s t → ((e : Client) → IsIn e s.clients → e.number ≡ c.number → is_some (passed_of e) ≡ true) → (e : Client) → IsIn e t.clients → e.number ≡ c.number → is_some (passed_of e) ≡ true
some_in s t c q some e i is =
    let w = (keeps_of q).clients_from e i in
    same_some (passed_of e) (passed_of w.was) (w.is.pipe refl) ∙ some w.was w.there (sym w.is.number ∙ is)

pub decided_spoken : (c : Client) (d : Decision) (s : State) → (d ≡ Relay → (e : Client) → IsIn e s.clients → e.number ≡ c.number → is_some (passed_of e) ≡ true) → NoEvent s → Spoken true s → Spoken true (decided c d s)
unfolding decided decided_by
decided_spoken c d s some off h = by d refl
  where
    t : State
    t = enter_row c d s

    q : Keeps true s t
    q = enter_row-keeps c d s (keeps_same s)

    ht : Spoken true t
    ht = spoken_on s t q h

    none : NoEvent t
    none at = off ((keeps_of q).event at)

    followed : (e : Decision) → d ≡ e → is_by_row e ≡ true → Spoken true (follow c e t)
    followed e is by_row = follow_spoken c e t by_row none ht

    by : (e : Decision) → d ≡ e → Spoken true (decided_by c e t)
    by (Refuse status) is = refuse_spoken c status t ht
    by Pass is = ask_origin_spoken c Pass t ht
    by Fetch is = ask_origin_spoken c Fetch t ht
    by Validate is = ask_origin_spoken c Validate t ht
    by Relay is = relay_spoken c t (some_in s t c q (some is)) none ht
    by (Hit from to) is = followed (Hit from to) is refl
    by (Part from to) is = followed (Part from to) is refl
    by Head is = followed Head is refl
    by NotModified is = followed NotModified is refl
    by Unsatisfiable is = followed Unsatisfiable is refl

pub taken_spoken : (m i : ℕ) (d : Decision) (s : State) → permits_taken s m i d ≡ true → is_free (come_to_decide s).owed ≡ true → Spoken true s → Spoken true (take_decision m d (deciding s))
unfolding take_decision deciding
taken_spoken m i d s is free h = by (client (in_phase Deciding u) m) refl
  where
    u : State
    u = come_to_decide s

    hu : Spoken true (in_phase Deciding u)
    hu = spoken_on s _ (deciding-keeps s (keeps_same s)) h

    none : NoEvent (in_phase Deciding u)
    none (awaits at) = cc at
    none (owes at) = let both : true ≡ false = sym free ∙ at in cc both

    relayed : (c : Client) → client (in_phase Deciding u) m ≡ Some c → d ≡ Relay → (e : Client) → IsIn e u.clients → e.number ≡ c.number → is_some (passed_of e) ≡ true
    relayed c found relay e j number =
        let w : IsDue u m d = taken_due s m i d is in
        let there = in_find (is_client m) c u.clients found in
        let one : e ≡ w.own = one_of client_number u.clients e w.own (facts_of hu).rise j w.there (number ∙ same_number c.number m there.1 ∙ sym w.number) in
        let due : is_relay w.due ≡ true = same_relay w.due (subst (λ (x : Decision). (is_same_decision w.due x || (is_same_decision x (Refuse 500) && may_want_memory u m)) ≡ true) relay w.alike) in
        ap (λ (x : Client). is_some (passed_of x)) one ∙ relayed_some u w.own w.due (from_due u w.own w.due (relay_unpaged w.due due) w.is) due

    by : (o : Option Client) → client (in_phase Deciding u) m ≡ o → Spoken true (elim o as (λ x. State) [ None ↦ in_phase Deciding u | Some c ↦ regained (record (decided c d (in_phase Deciding u)) { forgotten = []; made_room_for = None }) ])
    by None none_there = hu
    by (Some c) found = spoken_on (decided c d (in_phase Deciding u)) _ (regained-keeps _ (keeps (keeps_of (keeps_same (decided c d (in_phase Deciding u)))))) (decided_spoken c d (in_phase Deciding u) (relayed c found) none hu)
