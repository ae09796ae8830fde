-- What the head of a response does to rows, requests and its exchange keeps the bounds of what is connected.
use Rattle.std.proofs.Common.{refl, ℕ, true, false, not, ◌==◌, ◌&&◌, List, [], ◌∷◌, codes, Option, Some, None}
use Rattle.std.specs.List.{list_any}
use Rattle.pp_framing.specs.declared.body.BodyRule.{BodyRule}
use Rattle.pp_fresh.specs.declared.aging.Times.{Times}
use Rattle.pp_head.specs.Response.{Response}
use Rattle.pp_objects.specs.Kept.{kept_of}
use Rattle.pp_target.specs.Key.{Key, text_of}
use Rattle.pp_text.specs.Fields.{has_field}
use Rattle.pp_valid.specs.declared.version.Version.{Version}
use Rattle.pp_law.specs.Connections.{exchange, is_for, attempts_of, without_shared_row}
use Rattle.pp_law.specs.Lists.{Bytes, is_some_with}
use Rattle.pp_law.specs.OwnHeads.{key_of, span_to_come, is_asked_by, tell, use_body, drop_answer, useless, times_for, renewed, renew, settle_on, renew_row, may_refresh, settle_known, known_version, settle, names_version, nothing_to_come, settle_unchanged, unchanged, not_shared, not_modified, clears_row, cleared_by, is_widened, relayed, relay_head, other_head, other_part, own_head, is_bound, lacks_next, count_elsewhere, part_head, filling_head, version_in, forbids_sharing, is_private_part, is_of_another, may_join}
use Rattle.pp_law.specs.Passing.{passed_by}
use Rattle.pp_law.specs.Responses.{by_aim, bring_row, is_readable}
use Rattle.pp_law.specs.State.{State, Body, Joining, Dropping, Brought, Useless, Joins, Passes, TooWide, Exchange, Instance}
use Rattle.pp_law.specs.Table.{row, enter}
use Rattle.pp_law.specs.ThroughHeads.{invalidates, key_named, is_same_host, clear_named, clear_each, places_named, invalidated, disproves, reads, disproved, through_head}
use Rattle.pp_laws_bounds.proofs.Cases.{by_aim_of, each_of, when}
use Rattle.pp_laws_bounds.proofs.Changes.{clients_changed, same_exchange}
use Rattle.pp_laws_bounds.proofs.Exchanges.{clear-kept, lose_attempt-kept, on_client_of-kept, on_exchange-kept}
use Rattle.pp_laws_bounds.proofs.Kept.{Kept, facts_of, kept}
use Rattle.pp_laws_bounds.proofs.Rows.{enter-kept, make_row-kept, mark_row-kept, on_instance-kept}

tell-kept : {but : List ℕ} (e : Exchange) (brought : Brought) (s : State) → Kept but s → Kept but (tell e brought s)
unfolding tell
tell-kept {but} e brought s h = kept (clients_changed but s (is_asked_by e) (λ c. record c { brought = brought }) (facts_of h))

use_body-kept : {but : List ℕ} (e : Exchange) (body : Body) (s : State) → Kept but s → Kept but (use_body e body s)
unfolding use_body
use_body-kept e body s h = on_exchange-kept e.number (λ x. record x { body = body }) s (λ x. same_exchange _ x refl refl refl refl) h

drop_answer-kept : {but : List ℕ} (e : Exchange) (s : State) → Kept but s → Kept but (drop_answer e s)
unfolding drop_answer
drop_answer-kept e s h = tell-kept e Useless _ (use_body-kept e Dropping s h)

useless-kept : {but : List ℕ} (e : Exchange) (s : State) → Kept but s → Kept but (useless e s)
unfolding useless
useless-kept e s h = lose_attempt-kept e _ (drop_answer-kept e s h)

-- ---- a response with a version

renew-kept : {but : List ℕ} (x : Instance) (head : Response) (times : Times) (s : State) → Kept but s → Kept but (renew x head times s)
unfolding renew
renew-kept x head times s h = mark_row-kept x.id _ (on_instance-kept x.id (renewed head times) s h)

renew_row-kept : {but : List ℕ} (e : Exchange) (head : Response) (s : State) → Kept but s → Kept but (renew_row e head s)
unfolding renew_row
renew_row-kept e head s h = each_of (row s (key_of e)) h (λ x. renew-kept x head (times_for e head s) s h)

pub bring_row-kept : {but : List ℕ} (e : Exchange) (head : Response) (s : State) → Kept but s → Kept but (bring_row e head s)
unfolding bring_row
bring_row-kept e head s h = when (is_readable e head) (enter-kept (key_of e) true s h) h

settle_on-kept : {but : List ℕ} (e : Exchange) (head : Response) (v : Version) (s : State) → Kept but s → Kept but (settle_on e head v s)
unfolding settle_on
settle_on-kept e head v s h = each_of (row s (key_of e)) h (λ x. tell-kept e (Joins x.id (not (has_field (codes "age") head.fields))) _ (use_body-kept e (Joining (span_to_come e head v x.id)) s h))

settle_known-kept : {but : List ℕ} (e : Exchange) (head : Response) (v : Version) (s : State) → Kept but s → Kept but (settle_known e head v s)
unfolding settle_known
settle_known-kept e head v s h = when (may_refresh e head s) (settle_on-kept e head v _ (renew_row-kept e head s h)) (useless-kept e s h)

settle-kept : {but : List ℕ} (e : Exchange) (head : Response) (v : Version) (s : State) → Kept but s → Kept but (settle e head v s)
unfolding settle
settle-kept e head v s h =
    when (is_some_with (may_join e head v) (known_version s (key_of e)))
    (settle_known-kept e head v s h)
    (settle_on-kept e head v _ (make_row-kept (key_of e) v (kept_of head.fields (times_for e head s)) (times_for e head s) s h))

-- ---- 304

settle_unchanged-kept : {but : List ℕ} (e : Exchange) (s : State) → Kept but s → Kept but (settle_unchanged e s)
unfolding settle_unchanged
settle_unchanged-kept e s h = each_of (row s (key_of e)) h (λ x. tell-kept e (Joins x.id false) _ (use_body-kept e (Joining (nothing_to_come x)) s h))

unchanged-kept : {but : List ℕ} (e : Exchange) (head : Response) (s : State) → Kept but s → Kept but (unchanged e head s)
unfolding unchanged
unchanged-kept e head s h = when (is_some_with (names_version e) (known_version s (key_of e)) && may_refresh e head s) (settle_unchanged-kept e _ (renew_row-kept e head s h)) (useless-kept e s h)

not_shared-kept : {but : List ℕ} (e : Exchange) (s : State) → Kept but s → Kept but (not_shared e s)
unfolding not_shared
not_shared-kept e s h = on_client_of-kept e (without_shared_row (attempts_of e)) _ (drop_answer-kept e _ (clear-kept (key_of e) s h))

not_modified-kept : {but : List ℕ} (e : Exchange) (head : Response) (s : State) → Kept but s → Kept but (not_modified e head s)
unfolding not_modified
not_modified-kept e head s h =
    when (forbids_sharing head)
    (not_shared-kept e s h)
    (when (is_of_another head s (key_of e)) (useless-kept e _ (clear-kept (key_of e) s h)) (unchanged-kept e head s h))

-- ---- a response without a version

cleared_by-kept : {but : List ℕ} (head : Response) (e : Exchange) (s : State) → Kept but s → Kept but (cleared_by head e s)
unfolding cleared_by
cleared_by-kept head e s h = when (clears_row head) (clear-kept (key_of e) s h) h

relay_head-kept : {but : List ℕ} (e : Exchange) (head : Response) (rule : BodyRule) (s : State) → Kept but s → Kept but (relay_head e head rule s)
unfolding relay_head
relay_head-kept e head rule s h = tell-kept e (Passes (passed_by e head rule)) _ (use_body-kept e (relayed e s) s h)

other_head-kept : {but : List ℕ} (e : Exchange) (head : Response) (rule : BodyRule) (s : State) → Kept but s → Kept but (other_head e head rule s)
unfolding other_head
other_head-kept e head rule s h =
    when (is_widened e head)
    (tell-kept e TooWide _ (use_body-kept e Dropping _ (cleared_by-kept head e s h)))
    (relay_head-kept e head rule _ (cleared_by-kept head e s h))

other_part-kept : {but : List ℕ} (e : Exchange) (head : Response) (rule : BodyRule) (s : State) → Kept but s → Kept but (other_part e head rule s)
unfolding other_part
other_part-kept e head rule s h =
    when (is_private_part head)
    (not_shared-kept e s h)
    (when (clears_row head) (relay_head-kept e head rule _ (cleared_by-kept head e s h)) (useless-kept e s h))

-- ---- heads by what was asked

own_head-kept : {but : List ℕ} (e : Exchange) (head : Response) (rule : BodyRule) (s : State) → Kept but s → Kept but (own_head e head rule s)
unfolding own_head
own_head-kept {but} e head rule s h = by (version_in e head)
  where
    by : (o : Option Version) → Kept but (elim o as (λ c. State) [ Some v ↦ settle e head v s | None ↦ elim (head.status == 304) as (λ c. State) [ true ↦ not_modified e head s | false ↦ other_head e head rule s ] ])
    by (Some v) = settle-kept e head v s h
    by None = when (head.status == 304) (not_modified-kept e head s h) (other_head-kept e head rule s h)

part_head-kept : {but : List ℕ} (e : Exchange) (head : Response) (rule : BodyRule) (s : State) → Kept but s → Kept but (part_head e head rule s)
unfolding part_head
part_head-kept {but} e head rule s h = by (version_in e head)
  where
    by : (o : Option Version) → Kept but (elim o as (λ c. State) [ Some v ↦ settle e head v s | None ↦ elim (head.status == 304) as (λ c. State) [ true ↦ not_modified e head s | false ↦ other_part e head rule s ] ])
    by (Some v) = settle-kept e head v s h
    by None = when (head.status == 304) (not_modified-kept e head s h) (other_part-kept e head rule s h)

filling_head-kept : {but : List ℕ} (e : Exchange) (head : Response) (rule : BodyRule) (s : State) → Kept but s → Kept but (filling_head e head rule s)
unfolding filling_head count_elsewhere
filling_head-kept e head rule s h =
    when (is_some_with is_bound (exchange (part_head e head rule s) e.number) && list_any (λ c. is_for e c && lacks_next (part_head e head rule s) c) (part_head e head rule s).clients)
    (lose_attempt-kept e _ (part_head-kept e head rule s h)) (part_head-kept e head rule s h)

-- ---- a response that is passed

clear_named-kept : {but : List ℕ} (key : Key) (text : Bytes) (s : State) → Kept but s → Kept but (clear_named key text s)
unfolding clear_named
clear_named-kept key text s h = each_of (key_named key text) h (λ named. when (is_same_host named key) (clear-kept (text_of named) s h) h)

clear_each-kept : {but : List ℕ} (key : Key) (texts : List Bytes) (s : State) → Kept but s → Kept but (clear_each key texts s)
unfolding clear_each
clear_each-kept key [] s h = h
clear_each-kept key (text ∷ texts) s h = clear_each-kept key texts _ (clear_named-kept key text s h)

invalidated-kept : {but : List ℕ} (e : Exchange) (head : Response) (s : State) → Kept but s → Kept but (invalidated e head s)
unfolding invalidated
invalidated-kept e head s h = when (invalidates e head) (clear_each-kept e.key (places_named head) _ (clear-kept (key_of e) s h)) h

disproved-kept : {but : List ℕ} (e : Exchange) (head : Response) (s : State) → Kept but s → Kept but (disproved e head s)
unfolding disproved
disproved-kept e head s h = when (reads e && is_some_with (disproves head) (known_version s (key_of e))) (clear-kept (key_of e) s h) h

through_head-kept : {but : List ℕ} (e : Exchange) (head : Response) (rule : BodyRule) (s : State) → Kept but s → Kept but (through_head e head rule s)
unfolding through_head
through_head-kept e head rule s h = relay_head-kept e head rule _ (disproved-kept e head _ (invalidated-kept e head s h))

pub by_aim-kept : {but : List ℕ} (e : Exchange) (head : Response) (rule : BodyRule) (s : State) → Kept but s → Kept but (by_aim e head rule s)
unfolding by_aim
by_aim-kept e head rule s h = by_aim_of e.aim (through_head-kept e head rule s h) (own_head-kept e head rule s h) (λ v from to. filling_head-kept e head rule s h)
