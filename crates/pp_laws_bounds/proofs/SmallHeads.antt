-- What the head of a response does to rows, requests and its exchange keeps the bounds of what is connected.
use Rattle.std.proofs.Common.{refl, true, false, not, ◌==◌, ◌&&◌, List, [], ◌∷◌, codes, Option, Some, None, ◌≡◌}
use Rattle.std.specs.List.{list_any}
use Rattle.pp_framing.specs.declared.body.BodyRule.{BodyRule}
use Rattle.pp_fresh.specs.declared.aging.Times.{Times}
use Rattle.pp_head.specs.Response.{Response}
use Rattle.pp_objects.specs.Kept.{kept_of}
use Rattle.pp_target.specs.Key.{Key, text_of}
use Rattle.pp_text.specs.Fields.{has_field}
use Rattle.pp_valid.specs.declared.version.Version.{Version}
use Rattle.pp_law.specs.Connections.{exchange, is_for, on_exchange, attempts_of, without_shared_row}
use Rattle.pp_law.specs.Lists.{Bytes, is_some_with}
use Rattle.pp_law.specs.OwnHeads.{key_of, span_to_come, is_asked_by, tell, use_body, drop_answer, useless, times_for, renewed, renew, settle_on, renew_row, may_refresh, settle_known, known_version, settle, names_version, nothing_to_come, settle_unchanged, unchanged, not_shared, not_modified, clears_row, cleared_by, is_widened, relayed, relay_head, other_head, other_part, own_head, is_bound, lacks_next, count_elsewhere, part_head, filling_head, version_in, forbids_sharing, is_private_part, is_of_another, may_join}
use Rattle.pp_law.specs.Passing.{passed_by}
use Rattle.pp_law.specs.Responses.{by_aim, bring_row, is_readable}
use Rattle.pp_law.specs.State.{State, Body, Joining, Dropping, Brought, Useless, Joins, Passes, TooWide, Exchange, Instance}
use Rattle.pp_law.specs.Table.{row, enter}
use Rattle.pp_law.specs.ThroughHeads.{invalidates, key_named, is_same_host, clear_named, clear_each, places_named, invalidated, disproves, reads, disproved, through_head}
use Rattle.pp_laws_bounds.proofs.SmallCases.{by_aim_of, each_of, when}
use Rattle.pp_laws_bounds.proofs.SmallChanges.{clients_changed, exchange_bound}
use Rattle.pp_laws_bounds.proofs.SmallExchanges.{lose_attempt-small, on_client_of-small}
use Rattle.pp_laws_bounds.proofs.Small.{As, Small, facts_of, small}
use Rattle.pp_laws_bounds.proofs.SmallRows.{clear-small, enter-small, make_row-small, mark_row-small, on_instance-small}

tell-small : {a : As} (e : Exchange) (brought : Brought) (s : State) → Small a s → Small a (tell e brought s)
unfolding tell
tell-small {a} e brought s h = small (clients_changed a s (is_asked_by e) (λ c. record c { brought = brought }) (facts_of h))

-- the exchange whose head came is expected to be bound
use_body-small : {a : As} (e : Exchange) (body : Body) (s : State) → a.expects ≡ Some e.number → Small a s → Small a (use_body e body s)
unfolding use_body on_exchange
use_body-small {a} e body s expects h = small (exchange_bound a s e.number (λ x. record x { body = body }) expects (λ x. refl) (facts_of h))

drop_answer-small : {a : As} (e : Exchange) (s : State) → a.expects ≡ Some e.number → Small a s → Small a (drop_answer e s)
unfolding drop_answer
drop_answer-small e s expects h = tell-small e Useless _ (use_body-small e Dropping s expects h)

useless-small : {a : As} (e : Exchange) (s : State) → a.expects ≡ Some e.number → Small a s → Small a (useless e s)
unfolding useless
useless-small e s expects h = lose_attempt-small e _ (drop_answer-small e s expects h)

-- ---- a response with a version

renew-small : {a : As} (x : Instance) (head : Response) (times : Times) (s : State) → Small a s → Small a (renew x head times s)
unfolding renew
renew-small x head times s h = mark_row-small x.id _ (on_instance-small x.id (renewed head times) s (λ y. refl) (λ y is. is) h)

renew_row-small : {a : As} (e : Exchange) (head : Response) (s : State) → Small a s → Small a (renew_row e head s)
unfolding renew_row
renew_row-small e head s h = each_of (row s (key_of e)) h (λ x. renew-small x head (times_for e head s) s h)

pub bring_row-small : {a : As} (e : Exchange) (head : Response) (s : State) → Small a s → Small a (bring_row e head s)
unfolding bring_row
bring_row-small e head s h = when (is_readable e head) (enter-small (key_of e) true s h) h

settle_on-small : {a : As} (e : Exchange) (head : Response) (v : Version) (s : State) → a.expects ≡ Some e.number → Small a s → Small a (settle_on e head v s)
unfolding settle_on
settle_on-small e head v s expects h = each_of (row s (key_of e)) h (λ x. tell-small e (Joins x.id (not (has_field (codes "age") head.fields))) _ (use_body-small e (Joining (span_to_come e head v x.id)) s expects h))

settle_known-small : {a : As} (e : Exchange) (head : Response) (v : Version) (s : State) → a.expects ≡ Some e.number → Small a s → Small a (settle_known e head v s)
unfolding settle_known
settle_known-small e head v s expects h = when (may_refresh e head s) (settle_on-small e head v _ expects (renew_row-small e head s h)) (useless-small e s expects h)

settle-small : {a : As} (e : Exchange) (head : Response) (v : Version) (s : State) → a.expects ≡ Some e.number → Small a s → Small a (settle e head v s)
unfolding settle
settle-small e head v s expects h =
    when (is_some_with (may_join e head v) (known_version s (key_of e)))
    (settle_known-small e head v s expects h)
    (settle_on-small e head v _ expects (make_row-small (key_of e) v (kept_of head.fields (times_for e head s)) (times_for e head s) s h))

-- ---- 304

settle_unchanged-small : {a : As} (e : Exchange) (s : State) → a.expects ≡ Some e.number → Small a s → Small a (settle_unchanged e s)
unfolding settle_unchanged
settle_unchanged-small e s expects h = each_of (row s (key_of e)) h (λ x. tell-small e (Joins x.id false) _ (use_body-small e (Joining (nothing_to_come x)) s expects h))

unchanged-small : {a : As} (e : Exchange) (head : Response) (s : State) → a.expects ≡ Some e.number → Small a s → Small a (unchanged e head s)
unfolding unchanged
unchanged-small e head s expects h = when (is_some_with (names_version e) (known_version s (key_of e)) && may_refresh e head s) (settle_unchanged-small e _ expects (renew_row-small e head s h)) (useless-small e s expects h)

not_shared-small : {a : As} (e : Exchange) (s : State) → a.expects ≡ Some e.number → Small a s → Small a (not_shared e s)
unfolding not_shared
not_shared-small e s expects h = on_client_of-small e (without_shared_row (attempts_of e)) _ (drop_answer-small e _ expects (clear-small (key_of e) s h))

not_modified-small : {a : As} (e : Exchange) (head : Response) (s : State) → a.expects ≡ Some e.number → Small a s → Small a (not_modified e head s)
unfolding not_modified
not_modified-small e head s expects h =
    when (forbids_sharing head)
    (not_shared-small e s expects h)
    (when (is_of_another head s (key_of e)) (useless-small e _ expects (clear-small (key_of e) s h)) (unchanged-small e head s expects h))

-- ---- a response without a version

cleared_by-small : {a : As} (head : Response) (e : Exchange) (s : State) → Small a s → Small a (cleared_by head e s)
unfolding cleared_by
cleared_by-small head e s h = when (clears_row head) (clear-small (key_of e) s h) h

relay_head-small : {a : As} (e : Exchange) (head : Response) (rule : BodyRule) (s : State) → a.expects ≡ Some e.number → Small a s → Small a (relay_head e head rule s)
unfolding relay_head
relay_head-small e head rule s expects h = tell-small e (Passes (passed_by e head rule)) _ (use_body-small e (relayed e s) s expects h)

other_head-small : {a : As} (e : Exchange) (head : Response) (rule : BodyRule) (s : State) → a.expects ≡ Some e.number → Small a s → Small a (other_head e head rule s)
unfolding other_head
other_head-small e head rule s expects h =
    when (is_widened e head)
    (tell-small e TooWide _ (use_body-small e Dropping _ expects (cleared_by-small head e s h)))
    (relay_head-small e head rule _ expects (cleared_by-small head e s h))

other_part-small : {a : As} (e : Exchange) (head : Response) (rule : BodyRule) (s : State) → a.expects ≡ Some e.number → Small a s → Small a (other_part e head rule s)
unfolding other_part
other_part-small e head rule s expects h =
    when (is_private_part head)
    (not_shared-small e s expects h)
    (when (clears_row head) (relay_head-small e head rule _ expects (cleared_by-small head e s h)) (useless-small e s expects h))

-- ---- heads by what was asked

own_head-small : {a : As} (e : Exchange) (head : Response) (rule : BodyRule) (s : State) → a.expects ≡ Some e.number → Small a s → Small a (own_head e head rule s)
unfolding own_head
own_head-small {a} e head rule s expects h = by (version_in e head)
  where
    by : (o : Option Version) → Small a (elim o as (λ c. State) [ Some v ↦ settle e head v s | None ↦ elim (head.status == 304) as (λ c. State) [ true ↦ not_modified e head s | false ↦ other_head e head rule s ] ])
    by (Some v) = settle-small e head v s expects h
    by None = when (head.status == 304) (not_modified-small e head s expects h) (other_head-small e head rule s expects h)

part_head-small : {a : As} (e : Exchange) (head : Response) (rule : BodyRule) (s : State) → a.expects ≡ Some e.number → Small a s → Small a (part_head e head rule s)
unfolding part_head
part_head-small {a} e head rule s expects h = by (version_in e head)
  where
    by : (o : Option Version) → Small a (elim o as (λ c. State) [ Some v ↦ settle e head v s | None ↦ elim (head.status == 304) as (λ c. State) [ true ↦ not_modified e head s | false ↦ other_part e head rule s ] ])
    by (Some v) = settle-small e head v s expects h
    by None = when (head.status == 304) (not_modified-small e head s expects h) (other_part-small e head rule s expects h)

filling_head-small : {a : As} (e : Exchange) (head : Response) (rule : BodyRule) (s : State) → a.expects ≡ Some e.number → Small a s → Small a (filling_head e head rule s)
unfolding filling_head count_elsewhere
filling_head-small e head rule s expects h =
    when (is_some_with is_bound (exchange (part_head e head rule s) e.number) && list_any (λ c. is_for e c && lacks_next (part_head e head rule s) c) (part_head e head rule s).clients)
    (lose_attempt-small e _ (part_head-small e head rule s expects h)) (part_head-small e head rule s expects h)

-- ---- a response that is passed

clear_named-small : {a : As} (key : Key) (text : Bytes) (s : State) → Small a s → Small a (clear_named key text s)
unfolding clear_named
clear_named-small key text s h = each_of (key_named key text) h (λ named. when (is_same_host named key) (clear-small (text_of named) s h) h)

clear_each-small : {a : As} (key : Key) (texts : List Bytes) (s : State) → Small a s → Small a (clear_each key texts s)
unfolding clear_each
clear_each-small key [] s h = h
clear_each-small key (text ∷ texts) s h = clear_each-small key texts _ (clear_named-small key text s h)

invalidated-small : {a : As} (e : Exchange) (head : Response) (s : State) → Small a s → Small a (invalidated e head s)
unfolding invalidated
invalidated-small e head s h = when (invalidates e head) (clear_each-small e.key (places_named head) _ (clear-small (key_of e) s h)) h

disproved-small : {a : As} (e : Exchange) (head : Response) (s : State) → Small a s → Small a (disproved e head s)
unfolding disproved
disproved-small e head s h = when (reads e && is_some_with (disproves head) (known_version s (key_of e))) (clear-small (key_of e) s h) h

through_head-small : {a : As} (e : Exchange) (head : Response) (rule : BodyRule) (s : State) → a.expects ≡ Some e.number → Small a s → Small a (through_head e head rule s)
unfolding through_head
through_head-small e head rule s expects h = relay_head-small e head rule _ expects (disproved-small e head _ (invalidated-small e head s h))

pub by_aim-small : {a : As} (e : Exchange) (head : Response) (rule : BodyRule) (s : State) → a.expects ≡ Some e.number → Small a s → Small a (by_aim e head rule s)
unfolding by_aim
by_aim-small e head rule s expects h = by_aim_of e.aim (through_head-small e head rule s expects h) (own_head-small e head rule s expects h) (λ v from to. filling_head-small e head rule s expects h)
