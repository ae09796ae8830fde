-- What the head of a response does keeps what is still to come.
use Rattle.std.proofs.Common.{◌≡◌, Bool, true, false, ◌==◌, ◌&&◌, List, [], ◌∷◌, Some, None, sym, subst, ap, ◌∙◌, refl}
use Rattle.std.specs.List.{list_any}
use Rattle.pp_framing.specs.declared.body.BodyRule.{BodyRule}
use Rattle.pp_fresh.specs.declared.aging.Times.{Times}
use Rattle.pp_head.specs.Response.{Response}
use Rattle.pp_objects.specs.Kept.{kept_of}
use Rattle.pp_target.specs.Key.{Key, text_of}
use Rattle.pp_valid.specs.declared.version.Version.{Version}
use Rattle.pp_law.specs.Connections.{exchange, is_exchange, is_for, on_exchange, attempts_of, without_shared_row}
use Rattle.pp_law.specs.Lists.{Bytes, is_some_with}
use Rattle.pp_law.specs.OwnHeads.{key_of, tell, use_body, drop_answer, useless, times_for, renewed, renew, settle_on, renew_row, may_refresh, settle_known, known_version, settle, may_join, names_version, nothing_to_come, settle_unchanged, unchanged, is_asked_by, is_of_another, forbids_sharing, not_shared, not_modified, clears_row, cleared_by, is_private_part, is_widened, relayed, relay_head, other_head, other_part, own_head, is_bound, lacks_next, count_elsewhere, part_head, filling_head, first_offset, end_in, range_in, span_to_come, version_in}
use Rattle.pp_law.specs.Responses.{by_aim, bring_row, is_readable}
use Rattle.pp_law.specs.Stages.{bound_in, bound_of, is_through}
use Rattle.pp_law.specs.State.{State, Aim, Through, Own, Filling, Answer, Body, Joining, Relaying, Dropping, Brought, Bound, Conn, Exchange, Instance}
use Rattle.pp_law.specs.Table.{row}
use Rattle.pp_law.specs.ThroughHeads.{invalidates, key_named, is_same_host, clear_named, clear_each, places_named, invalidated, disproves, reads, disproved, through_head}
use Rattle.pp_laws.specs.Runs.{IsIn}
use Rattle.pp_laws.proofs.Lists.{Changed, in_change, other, same}
use Rattle.pp_laws.proofs.Tests.{same_number}
use Rattle.pp_laws_brought.proofs.Asks.{lose_attempt-keeps, on_client_of-keeps, on_exchange-keeps}
use Rattle.pp_laws_brought.proofs.Cases.{each_of, each_so, when, when_so}
use Rattle.pp_laws_brought.proofs.Rows.{clear-keeps, enter-keeps, make_row-keeps, mark_row-keeps, on_instance-keeps}
use Rattle.pp_laws_brought.proofs.View.{Apart, Away, Fits, Holds, IsSpan, facts_of, holds}

-- what a head may bind its exchange to
pub record Starts (e : Exchange) (head : Response) (a : Answer) : Type 0 where
  pub spans : (v : Version) → version_in e head ≡ Some v → Fits a (first_offset head) (end_in (range_in head) v.length)
  pub nothing : (head.status == 304) ≡ true → Fits a 0 0

-- ---- what is told

pub tell-keeps : {but : Apart} (e : Exchange) (brought : Brought) (s : State) → Holds but s → Holds but (tell e brought s)
unfolding tell
tell-keeps e brought s h = holds (facts_of h)

-- it is no body that is bound
use_body-keeps : {but : Apart} (e : Exchange) (body : Body) (s : State) → bound_in body ≡ None → Holds but s → Holds but (use_body e body s)
unfolding use_body
use_body-keeps e body s none h = on_exchange-keeps e.number (λ x. record x { body = body }) s (λ x. record { number = refl; bound = λ b is. (let both : None ≡ Some b = sym none ∙ is in absurd (cc both)) }) h

-- the exchange that is looked at apart is bound as its answer tells
bind-keeps : {p : Away} (e : Exchange) (b : Bound) (s : State) → e.number ≡ p.number → Fits p.answer b.next b.to → Holds (Some p) s → Holds (Some p) (use_body e (Joining b) s)
unfolding use_body on_exchange
bind-keeps {p} e b s number fits h = holds (record {
  lines = λ k d a x i j l is bound off. lines_by k d a x i l is bound off (in_change (is_exchange e.number) (λ y. record y { body = Joining b }) d s.exchanges j);
  its = λ q d x is j at bound. subst (λ (w : Away). Fits w.answer x.next x.to) (same_away q is) (its_by d x bound (at ∙ sym (ap (λ (w : Away). w.number) (same_away q is))) (in_change (is_exchange e.number) (λ y. record y { body = Joining b }) d s.exchanges j));
  others = λ q k d is i j l at off. others_by q k d is i l at off (in_change (is_exchange e.number) (λ y. record y { body = Joining b }) d s.exchanges j);
  only = (facts_of h).only;
  answers = (facts_of h).answers;
  within = λ d x j bound. within_by d x bound (in_change (is_exchange e.number) (λ y. record y { body = Joining b }) d s.exchanges j);
})
  where
    same_away : (q : Away) → Some p ≡ Some q → p ≡ q
    same_away q is = cc is

    its_number : (d g : Exchange) → (g.number == e.number) ≡ true → d ≡ record g { body = Joining b } → d.number ≡ p.number
    its_number d g hit eq = ap (λ (y : Exchange). y.number) eq ∙ same_number g.number e.number hit ∙ number

    bound_now : (d g : Exchange) (x : Bound) → d ≡ record g { body = Joining b } → bound_of d ≡ Some x → b ≡ x
    bound_now d g x eq bound = let both : Some b ≡ Some x = sym (ap bound_of eq) ∙ bound in cc both

    lines_by : (k : Conn) (d : Exchange) (a : Answer) (x : Bound) → IsIn k s.conns → IsIn d.number k.line → k.answer ≡ Some a → bound_of d ≡ Some x → (Some p.number ≡ Some d.number → ⊥) → Changed (is_exchange e.number) (λ y. record y { body = Joining b }) s.exchanges d → Fits a x.next x.to
    lines_by k d a x i l is bound off (same j isnt) = (facts_of h).lines k d a x i j l is bound off
    lines_by k d a x i l is bound off (other g j hit eq) = absurd (off (ap (λ n. Some n) (sym (its_number d g hit eq))))

    its_by : (d : Exchange) (x : Bound) → bound_of d ≡ Some x → d.number ≡ p.number → Changed (is_exchange e.number) (λ y. record y { body = Joining b }) s.exchanges d → Fits p.answer x.next x.to
    its_by d x bound at (same j isnt) = (facts_of h).its p d x refl j at bound
    its_by d x bound at (other g j hit eq) = subst (λ (y : Bound). Fits p.answer y.next y.to) (bound_now d g x eq bound) fits

    others_by : (q : Away) (k : Conn) (d : Exchange) → Some p ≡ Some q → IsIn k s.conns → IsIn d.number k.line → k.number ≡ q.conn → (d.number ≡ q.number → ⊥) → Changed (is_exchange e.number) (λ y. record y { body = Joining b }) s.exchanges d → bound_of d ≡ None
    others_by q k d is i l at off (same j isnt) = (facts_of h).others q k d is i j l at off
    others_by q k d is i l at off (other g j hit eq) = absurd (off (its_number d g hit eq ∙ ap (λ (w : Away). w.number) (same_away q is)))

    within_by : (d : Exchange) (x : Bound) → bound_of d ≡ Some x → Changed (is_exchange e.number) (λ y. record y { body = Joining b }) s.exchanges d → IsSpan x.next x.to
    within_by d x bound (same j isnt) = (facts_of h).within d x j bound
    within_by d x bound (other g j hit eq) = subst (λ (y : Bound). IsSpan y.next y.to) (bound_now d g x eq bound) fits.span

drop_answer-keeps : {but : Apart} (e : Exchange) (s : State) → Holds but s → Holds but (drop_answer e s)
unfolding drop_answer
drop_answer-keeps e s h = tell-keeps e _ _ (use_body-keeps e Dropping s refl h)

useless-keeps : {but : Apart} (e : Exchange) (s : State) → Holds but s → Holds but (useless e s)
unfolding useless
useless-keeps e s h = lose_attempt-keeps e _ (drop_answer-keeps e s h)

-- ---- a response with a version

renew-keeps : {but : Apart} (x : Instance) (head : Response) (times : Times) (s : State) → Holds but s → Holds but (renew x head times s)
unfolding renew
renew-keeps x head times s h = mark_row-keeps x.id _ (on_instance-keeps x.id (renewed head times) s h)

renew_row-keeps : {but : Apart} (e : Exchange) (head : Response) (s : State) → Holds but s → Holds but (renew_row e head s)
unfolding renew_row
renew_row-keeps e head s h = each_of (row s (key_of e)) h (λ x. renew-keeps x head (times_for e head s) s h)

pub bring_row-keeps : {but : Apart} (e : Exchange) (head : Response) (s : State) → Holds but s → Holds but (bring_row e head s)
unfolding bring_row
bring_row-keeps e head s h = when (is_readable e head) (enter-keeps (key_of e) true s h) h

settle_on-keeps : {p : Away} (e : Exchange) (head : Response) (v : Version) (s : State) → e.number ≡ p.number → Fits p.answer (first_offset head) (end_in (range_in head) v.length) → Holds (Some p) s → Holds (Some p) (settle_on e head v s)
unfolding settle_on
settle_on-keeps {p} e head v s its fits h = each_of (row s (key_of e)) h (λ x. tell-keeps e _ _ (bind-keeps {p = p} e (span_to_come e head v x.id) s its fits h))

settle_known-keeps : {p : Away} (e : Exchange) (head : Response) (v : Version) (s : State) → e.number ≡ p.number → Fits p.answer (first_offset head) (end_in (range_in head) v.length) → Holds (Some p) s → Holds (Some p) (settle_known e head v s)
unfolding settle_known
settle_known-keeps {p} e head v s its fits h = when (may_refresh e head s) (settle_on-keeps {p = p} e head v _ its fits (renew_row-keeps e head s h)) (useless-keeps e s h)

settle-keeps : {p : Away} (e : Exchange) (head : Response) (v : Version) (s : State) → e.number ≡ p.number → Fits p.answer (first_offset head) (end_in (range_in head) v.length) → Holds (Some p) s → Holds (Some p) (settle e head v s)
unfolding settle
settle-keeps {p} e head v s its fits h =
    when (is_some_with (may_join e head v) (known_version s (key_of e))) (settle_known-keeps {p = p} e head v s its fits h)
    (settle_on-keeps {p = p} e head v _ its fits (make_row-keeps (key_of e) v (kept_of head.fields (times_for e head s)) (times_for e head s) s h))

-- ---- 304, and a response without a version

settle_unchanged-keeps : {p : Away} (e : Exchange) (s : State) → e.number ≡ p.number → Fits p.answer 0 0 → Holds (Some p) s → Holds (Some p) (settle_unchanged e s)
unfolding settle_unchanged
settle_unchanged-keeps {p} e s its fits h = each_of (row s (key_of e)) h (λ x. tell-keeps e _ _ (bind-keeps {p = p} e (nothing_to_come x) s its fits h))

unchanged-keeps : {p : Away} (e : Exchange) (head : Response) (s : State) → e.number ≡ p.number → Fits p.answer 0 0 → Holds (Some p) s → Holds (Some p) (unchanged e head s)
unfolding unchanged
unchanged-keeps {p} e head s its fits h =
    when (is_some_with (names_version e) (known_version s (key_of e)) && may_refresh e head s) (settle_unchanged-keeps {p = p} e _ its fits (renew_row-keeps e head s h)) (useless-keeps e s h)

not_shared-keeps : {but : Apart} (e : Exchange) (s : State) → Holds but s → Holds but (not_shared e s)
unfolding not_shared
not_shared-keeps e s h =
    on_client_of-keeps e (without_shared_row (attempts_of e)) _ (drop_answer-keeps e _ (clear-keeps (key_of e) s h))

not_modified-keeps : {p : Away} (e : Exchange) (head : Response) (s : State) → e.number ≡ p.number → Fits p.answer 0 0 → Holds (Some p) s → Holds (Some p) (not_modified e head s)
unfolding not_modified
not_modified-keeps {p} e head s its fits h =
    when (forbids_sharing head) (not_shared-keeps e s h) (when (is_of_another head s (key_of e)) (useless-keeps e _ (clear-keeps (key_of e) s h)) (unchanged-keeps {p = p} e head s its fits h))

cleared_by-keeps : {but : Apart} (head : Response) (e : Exchange) (s : State) → Holds but s → Holds but (cleared_by head e s)
unfolding cleared_by
cleared_by-keeps head e s h = when (clears_row head) (clear-keeps (key_of e) s h) h

relay_head-keeps : {but : Apart} (e : Exchange) (head : Response) (rule : BodyRule) (s : State) → Holds but s → Holds but (relay_head e head rule s)
unfolding relay_head
relay_head-keeps e head rule s h = tell-keeps e _ _ (use_body-keeps e (relayed e s) s (by (list_any (is_asked_by e) s.clients)) h)
  where
    by : (t : Bool) → bound_in (elim t as (λ c. Body) [ true ↦ Relaying | false ↦ Dropping ]) ≡ None
    by true = refl
    by false = refl

other_head-keeps : {but : Apart} (e : Exchange) (head : Response) (rule : BodyRule) (s : State) → Holds but s → Holds but (other_head e head rule s)
unfolding other_head
other_head-keeps e head rule s h = when (is_widened e head) (tell-keeps e _ _ (use_body-keeps e Dropping _ refl (cleared_by-keeps head e s h))) (relay_head-keeps e head rule _ (cleared_by-keeps head e s h))

other_part-keeps : {but : Apart} (e : Exchange) (head : Response) (rule : BodyRule) (s : State) → Holds but s → Holds but (other_part e head rule s)
unfolding other_part
other_part-keeps e head rule s h =
    when (is_private_part head) (not_shared-keeps e s h) (when (clears_row head) (relay_head-keeps e head rule _ (cleared_by-keeps head e s h)) (useless-keeps e s h))

own_head-keeps : {p : Away} (e : Exchange) (head : Response) (rule : BodyRule) (s : State) → e.number ≡ p.number → Starts e head p.answer → Holds (Some p) s → Holds (Some p) (own_head e head rule s)
unfolding own_head
own_head-keeps {p} e head rule s its starts h = each_so (version_in e head) (λ none. when_so (head.status == 304) (λ same_one. not_modified-keeps {p = p} e head s its (starts.nothing same_one) h) (λ isnt. other_head-keeps e head rule s h)) (λ v is. settle-keeps {p = p} e head v s its (starts.spans v is) h)

count_elsewhere-keeps : {but : Apart} (e : Exchange) (s : State) → Holds but s → Holds but (count_elsewhere e s)
unfolding count_elsewhere
count_elsewhere-keeps e s h = when (is_some_with is_bound (exchange s e.number) && list_any (λ c. is_for e c && lacks_next s c) s.clients) (lose_attempt-keeps e s h) h

part_head-keeps : {p : Away} (e : Exchange) (head : Response) (rule : BodyRule) (s : State) → e.number ≡ p.number → Starts e head p.answer → Holds (Some p) s → Holds (Some p) (part_head e head rule s)
unfolding part_head
part_head-keeps {p} e head rule s its starts h = each_so (version_in e head) (λ none. when_so (head.status == 304) (λ same_one. not_modified-keeps {p = p} e head s its (starts.nothing same_one) h) (λ isnt. other_part-keeps e head rule s h)) (λ v is. settle-keeps {p = p} e head v s its (starts.spans v is) h)

filling_head-keeps : {p : Away} (e : Exchange) (head : Response) (rule : BodyRule) (s : State) → e.number ≡ p.number → Starts e head p.answer → Holds (Some p) s → Holds (Some p) (filling_head e head rule s)
unfolding filling_head
filling_head-keeps {p} e head rule s its starts h = count_elsewhere-keeps e _ (part_head-keeps {p = p} e head rule s its starts h)

-- ---- a response that is passed

clear_named-keeps : {but : Apart} (key : Key) (text : Bytes) (s : State) → Holds but s → Holds but (clear_named key text s)
unfolding clear_named
clear_named-keeps key text s h = each_of (key_named key text) h (λ named. when (is_same_host named key) (clear-keeps (text_of named) s h) h)

clear_each-keeps : {but : Apart} (key : Key) (texts : List Bytes) (s : State) → Holds but s → Holds but (clear_each key texts s)
unfolding clear_each
clear_each-keeps key [] s h = h
clear_each-keeps key (text ∷ texts) s h = clear_each-keeps key texts _ (clear_named-keeps key text s h)

invalidated-keeps : {but : Apart} (e : Exchange) (head : Response) (s : State) → Holds but s → Holds but (invalidated e head s)
unfolding invalidated
invalidated-keeps e head s h = when (invalidates e head) (clear_each-keeps e.key (places_named head) _ (clear-keeps (key_of e) s h)) h

disproved-keeps : {but : Apart} (e : Exchange) (head : Response) (s : State) → Holds but s → Holds but (disproved e head s)
unfolding disproved
disproved-keeps e head s h = when (reads e && is_some_with (disproves head) (known_version s (key_of e))) (clear-keeps (key_of e) s h) h

through_head-keeps : {but : Apart} (e : Exchange) (head : Response) (rule : BodyRule) (s : State) → Holds but s → Holds but (through_head e head rule s)
unfolding through_head
through_head-keeps e head rule s h = relay_head-keeps e head rule _ (disproved-keeps e head _ (invalidated-keeps e head s h))

pub by_aim-keeps : {p : Away} (e : Exchange) (head : Response) (rule : BodyRule) (s : State) → e.number ≡ p.number → (is_through e ≡ false → Starts e head p.answer) → Holds (Some p) s → Holds (Some p) (by_aim e head rule s)
unfolding by_aim
by_aim-keeps {p} e head rule s its starts h = by e.aim refl
  where
    by : (aim : Aim) → e.aim ≡ aim → Holds (Some p) (elim aim as (λ c. State) [ Through ↦ through_head e head rule s | Own ↦ own_head e head rule s | Filling v from to ↦ filling_head e head rule s ])
    by Through is = through_head-keeps e head rule s h
    by Own is = own_head-keeps {p = p} e head rule s its (starts (ap (λ aim. elim aim as (λ c. Bool) [ Through ↦ true | Own ↦ false | Filling v from to ↦ false ]) is)) h
    by (Filling v from to) is = filling_head-keeps {p = p} e head rule s its (starts (ap (λ aim. elim aim as (λ c. Bool) [ Through ↦ true | Own ↦ false | Filling v from to ↦ false ]) is)) h
