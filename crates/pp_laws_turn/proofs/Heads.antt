-- What the head of a response does to rows, requests and its exchange keeps what is kept by each change.
use Rattle.std.proofs.Common.{refl, ℕ, Bool, true, false, not, ◌==◌, ◌&&◌, List, [], ◌∷◌, codes, Option, Some, None, ◌≡◌, ◌||◌, map, subst}
use Rattle.std.specs.List.{list_any}
use Rattle.pp_framing.specs.declared.body.BodyRule.{BodyRule}
use Rattle.pp_fresh.specs.declared.aging.Times.{Times}
use Rattle.pp_head.specs.Response.{Response}
use Rattle.pp_objects.specs.Kept.{kept_of}
use Rattle.pp_target.specs.Key.{Key, text_of}
use Rattle.pp_text.specs.Fields.{has_field}
use Rattle.pp_valid.specs.declared.version.Version.{Version}
use Rattle.pp_law.specs.Connections.{exchange, is_for, on_exchange, attempts_of, lost_one, without_shared_row, anew}
use Rattle.pp_law.specs.Lists.{Bytes, is_some_with}
use Rattle.pp_law.specs.OwnHeads.{key_of, span_to_come, is_asked_by, tell, use_body, drop_answer, useless, times_for, renewed, renew, settle_on, renew_row, may_refresh, settle_known, known_version, settle, names_version, nothing_to_come, settle_unchanged, unchanged, not_shared, not_modified, clears_row, cleared_by, is_widened, relayed, relay_head, other_head, other_part, own_head, is_bound, lacks_next, count_elsewhere, part_head, filling_head, version_in, forbids_sharing, is_private_part, is_of_another, may_join}
use Rattle.pp_law.specs.Passing.{passed_by}
use Rattle.pp_law.specs.Responses.{by_aim}
use Rattle.pp_law.specs.Stages.{is_begun}
use Rattle.pp_law.specs.State.{State, Client, Body, Joining, Dropping, Brought, Useless, Joins, Passes, TooWide, Exchange, Instance}
use Rattle.pp_law.specs.Table.{is_row_of, row}
use Rattle.pp_law.specs.ThroughHeads.{invalidates, key_named, is_same_host, clear_named, clear_each, places_named, invalidated, disproves, reads, disproved, through_head}
use Rattle.pp_laws.specs.Runs.{IsIn}
use Rattle.pp_laws.proofs.Lists.{in_find}
use Rattle.pp_laws.proofs.Sound.{instance_id}
use Rattle.pp_laws_bounds.proofs.Counts.{in_map_of}
use Rattle.pp_laws_turn.proofs.Cases.{by_aim_of, each_of, each_so, when}
use Rattle.pp_laws_turn.proofs.Exchanges.{client_same, same_parts, on_client_of-keeps, lose_attempt-keeps, on_exchange-keeps, same_ask}
use Rattle.pp_laws_turn.proofs.View.{View, Walk, Holds, holds, facts_of, view, SameClient, joined_in, OfKeys, WalkOf}
use Rattle.pp_laws_turn.proofs.Rows.{clear-keeps, make_row-named, mark_row-keeps, on_instance-keeps}

tell-keeps : {K : OfKeys} {P : View → Type 0} (w : WalkOf K P) (e : Exchange) (brought : Brought) (s : State) → ((id : ℕ) → joined_in brought ≡ Some id → IsIn id (map instance_id s.instances)) → Holds P s → Holds P (tell e brought s)
unfolding tell
tell-keeps w e brought s joins h = holds (w.tells (is_asked_by e) brought (view s) joins (facts_of h))

use_body-keeps : {K : OfKeys} {P : View → Type 0} (w : WalkOf K P) (e : Exchange) (body : Body) (s : State) → Holds P s → Holds P (use_body e body s)
unfolding use_body
use_body-keeps w e body s h = on_exchange-keeps w e.number (λ x. record x { body = body }) s (λ x. same_ask _ x refl refl refl refl refl refl (λ is. is)) h

-- the row of its key is there
row_there : (e : Exchange) (body : Body) (s : State) (x : Instance) → row s (key_of e) ≡ Some x → (id : ℕ) → Some x.id ≡ Some id → IsIn id (map instance_id (use_body e body s).instances)
unfolding use_body on_exchange
row_there e body s x found id is =
    let same_id : x.id ≡ id = cc is in
    subst (λ n. IsIn n (map instance_id s.instances)) same_id (in_map_of instance_id x s.instances (in_find (is_row_of (key_of e)) x s.instances found).0)

drop_answer-keeps : {K : OfKeys} {P : View → Type 0} (w : WalkOf K P) (e : Exchange) (s : State) → Holds P s → Holds P (drop_answer e s)
unfolding drop_answer
drop_answer-keeps w e s h = tell-keeps w e Useless _ (λ id is. absurd (cc is)) (use_body-keeps w e Dropping s h)

useless-keeps : {K : OfKeys} {P : View → Type 0} (w : WalkOf K P) (e : Exchange) (s : State) → Holds P s → Holds P (useless e s)
unfolding useless
useless-keeps w e s h = lose_attempt-keeps w e _ (drop_answer-keeps w e s h)

-- ---- a response with a version

renew-keeps : {K : OfKeys} {P : View → Type 0} (w : WalkOf K P) (x : Instance) (head : Response) (times : Times) (s : State) → Holds P s → Holds P (renew x head times s)
unfolding renew
renew-keeps w x head times s h = mark_row-keeps w.rows x.id _ (on_instance-keeps w.rows x.id (renewed head times) s (λ y. record { id = refl; key = refl; is_new = λ is. is; retired = λ is. is }) h)

renew_row-keeps : {K : OfKeys} {P : View → Type 0} (w : WalkOf K P) (e : Exchange) (head : Response) (s : State) → Holds P s → Holds P (renew_row e head s)
unfolding renew_row
renew_row-keeps w e head s h = each_of (row s (key_of e)) h (λ x. renew-keeps w x head (times_for e head s) s h)

settle_on-keeps : {K : OfKeys} {P : View → Type 0} (w : WalkOf K P) (e : Exchange) (head : Response) (v : Version) (s : State) → Holds P s → Holds P (settle_on e head v s)
unfolding settle_on
settle_on-keeps w e head v s h =
    each_so (row s (key_of e)) (λ none. h)
    (λ x found. tell-keeps w e (Joins x.id (not (has_field (codes "age") head.fields))) _ (row_there e (Joining (span_to_come e head v x.id)) s x found) (use_body-keeps w e (Joining (span_to_come e head v x.id)) s h))

settle_known-keeps : {K : OfKeys} {P : View → Type 0} (w : WalkOf K P) (e : Exchange) (head : Response) (v : Version) (s : State) → Holds P s → Holds P (settle_known e head v s)
unfolding settle_known
settle_known-keeps w e head v s h = when (may_refresh e head s) (settle_on-keeps w e head v _ (renew_row-keeps w e head s h)) (useless-keeps w e s h)

settle-keeps : {K : OfKeys} {P : View → Type 0} (w : WalkOf K P) (e : Exchange) (head : Response) (v : Version) (s : State) → K (key_of e) → Holds P s → Holds P (settle e head v s)
unfolding settle
settle-keeps w e head v s of h =
    when (is_some_with (may_join e head v) (known_version s (key_of e)))
    (settle_known-keeps w e head v s h)
    (settle_on-keeps w e head v _ (make_row-named w.rows (key_of e) v (kept_of head.fields (times_for e head s)) (times_for e head s) s of h))

-- ---- 304

settle_unchanged-keeps : {K : OfKeys} {P : View → Type 0} (w : WalkOf K P) (e : Exchange) (s : State) → Holds P s → Holds P (settle_unchanged e s)
unfolding settle_unchanged
settle_unchanged-keeps w e s h =
    each_so (row s (key_of e)) (λ none. h) (λ x found. tell-keeps w e (Joins x.id false) _ (row_there e (Joining (nothing_to_come x)) s x found) (use_body-keeps w e (Joining (nothing_to_come x)) s h))

unchanged-keeps : {K : OfKeys} {P : View → Type 0} (w : WalkOf K P) (e : Exchange) (head : Response) (s : State) → Holds P s → Holds P (unchanged e head s)
unfolding unchanged
unchanged-keeps w e head s h = when (is_some_with (names_version e) (known_version s (key_of e)) && may_refresh e head s) (settle_unchanged-keeps w e _ (renew_row-keeps w e head s h)) (useless-keeps w e s h)

without_shared_row-same : (most : ℕ) (c : Client) → SameClient (without_shared_row most c) c
without_shared_row-same most c = by (c.has_given_up && not (is_begun c)) (is_begun c || c.has_given_up)
  where
    by : (again begun : Bool)
        → SameClient (elim again as (λ x. Client) [ true ↦ record c { course = lost_one most c.course } | false ↦ elim begun as (λ x. Client) [ true ↦ c | false ↦ record c { course = anew c.course; has_given_up = true } ] ]) c
    by true begun = same_parts _ c refl refl refl refl refl (λ is. is)
    by false true = client_same c
    by false false = same_parts _ c refl refl refl refl refl (λ is. is)

not_shared-keeps : {K : OfKeys} {P : View → Type 0} (w : WalkOf K P) (e : Exchange) (s : State) → Holds P s → Holds P (not_shared e s)
unfolding not_shared
not_shared-keeps w e s h = on_client_of-keeps w e (without_shared_row (attempts_of e)) _ (without_shared_row-same (attempts_of e)) (drop_answer-keeps w e _ (clear-keeps w.rows (key_of e) s h))

not_modified-keeps : {K : OfKeys} {P : View → Type 0} (w : WalkOf K P) (e : Exchange) (head : Response) (s : State) → Holds P s → Holds P (not_modified e head s)
unfolding not_modified
not_modified-keeps w e head s h =
    when (forbids_sharing head)
    (not_shared-keeps w e s h)
    (when (is_of_another head s (key_of e)) (useless-keeps w e _ (clear-keeps w.rows (key_of e) s h)) (unchanged-keeps w e head s h))

-- ---- a response without a version

cleared_by-keeps : {K : OfKeys} {P : View → Type 0} (w : WalkOf K P) (head : Response) (e : Exchange) (s : State) → Holds P s → Holds P (cleared_by head e s)
unfolding cleared_by
cleared_by-keeps w head e s h = when (clears_row head) (clear-keeps w.rows (key_of e) s h) h

relay_head-keeps : {K : OfKeys} {P : View → Type 0} (w : WalkOf K P) (e : Exchange) (head : Response) (rule : BodyRule) (s : State) → Holds P s → Holds P (relay_head e head rule s)
unfolding relay_head
relay_head-keeps w e head rule s h = tell-keeps w e (Passes (passed_by e head rule)) _ (λ id is. absurd (cc is)) (use_body-keeps w e (relayed e s) s h)

other_head-keeps : {K : OfKeys} {P : View → Type 0} (w : WalkOf K P) (e : Exchange) (head : Response) (rule : BodyRule) (s : State) → Holds P s → Holds P (other_head e head rule s)
unfolding other_head
other_head-keeps w e head rule s h =
    when (is_widened e head)
    (tell-keeps w e TooWide _ (λ id is. absurd (cc is)) (use_body-keeps w e Dropping _ (cleared_by-keeps w head e s h)))
    (relay_head-keeps w e head rule _ (cleared_by-keeps w head e s h))

other_part-keeps : {K : OfKeys} {P : View → Type 0} (w : WalkOf K P) (e : Exchange) (head : Response) (rule : BodyRule) (s : State) → Holds P s → Holds P (other_part e head rule s)
unfolding other_part
other_part-keeps w e head rule s h =
    when (is_private_part head)
    (not_shared-keeps w e s h)
    (when (clears_row head) (relay_head-keeps w e head rule _ (cleared_by-keeps w head e s h)) (useless-keeps w e s h))

-- ---- heads by what was asked

own_head-keeps : {K : OfKeys} {P : View → Type 0} (w : WalkOf K P) (e : Exchange) (head : Response) (rule : BodyRule) (s : State) → K (key_of e) → Holds P s → Holds P (own_head e head rule s)
unfolding own_head
own_head-keeps {P} w e head rule s of h = by (version_in e head)
  where
    by : (o : Option Version) → Holds P (elim o as (λ c. State) [ Some v ↦ settle e head v s | None ↦ elim (head.status == 304) as (λ c. State) [ true ↦ not_modified e head s | false ↦ other_head e head rule s ] ])
    by (Some v) = settle-keeps w e head v s of h
    by None = when (head.status == 304) (not_modified-keeps w e head s h) (other_head-keeps w e head rule s h)

part_head-keeps : {K : OfKeys} {P : View → Type 0} (w : WalkOf K P) (e : Exchange) (head : Response) (rule : BodyRule) (s : State) → K (key_of e) → Holds P s → Holds P (part_head e head rule s)
unfolding part_head
part_head-keeps {P} w e head rule s of h = by (version_in e head)
  where
    by : (o : Option Version) → Holds P (elim o as (λ c. State) [ Some v ↦ settle e head v s | None ↦ elim (head.status == 304) as (λ c. State) [ true ↦ not_modified e head s | false ↦ other_part e head rule s ] ])
    by (Some v) = settle-keeps w e head v s of h
    by None = when (head.status == 304) (not_modified-keeps w e head s h) (other_part-keeps w e head rule s h)

filling_head-keeps : {K : OfKeys} {P : View → Type 0} (w : WalkOf K P) (e : Exchange) (head : Response) (rule : BodyRule) (s : State) → K (key_of e) → Holds P s → Holds P (filling_head e head rule s)
unfolding filling_head count_elsewhere
filling_head-keeps w e head rule s of h =
    when (is_some_with is_bound (exchange (part_head e head rule s) e.number) && list_any (λ c. is_for e c && lacks_next (part_head e head rule s) c) (part_head e head rule s).clients)
    (lose_attempt-keeps w e _ (part_head-keeps w e head rule s of h)) (part_head-keeps w e head rule s of h)

-- ---- a response that is passed

clear_named-keeps : {K : OfKeys} {P : View → Type 0} (w : WalkOf K P) (key : Key) (text : Bytes) (s : State) → Holds P s → Holds P (clear_named key text s)
unfolding clear_named
clear_named-keeps w key text s h = each_of (key_named key text) h (λ named. when (is_same_host named key) (clear-keeps w.rows (text_of named) s h) h)

clear_each-keeps : {K : OfKeys} {P : View → Type 0} (w : WalkOf K P) (key : Key) (texts : List Bytes) (s : State) → Holds P s → Holds P (clear_each key texts s)
unfolding clear_each
clear_each-keeps w key [] s h = h
clear_each-keeps w key (text ∷ texts) s h = clear_each-keeps w key texts _ (clear_named-keeps w key text s h)

invalidated-keeps : {K : OfKeys} {P : View → Type 0} (w : WalkOf K P) (e : Exchange) (head : Response) (s : State) → Holds P s → Holds P (invalidated e head s)
unfolding invalidated
invalidated-keeps w e head s h = when (invalidates e head) (clear_each-keeps w e.key (places_named head) _ (clear-keeps w.rows (key_of e) s h)) h

disproved-keeps : {K : OfKeys} {P : View → Type 0} (w : WalkOf K P) (e : Exchange) (head : Response) (s : State) → Holds P s → Holds P (disproved e head s)
unfolding disproved
disproved-keeps w e head s h = when (reads e && is_some_with (disproves head) (known_version s (key_of e))) (clear-keeps w.rows (key_of e) s h) h

through_head-keeps : {K : OfKeys} {P : View → Type 0} (w : WalkOf K P) (e : Exchange) (head : Response) (rule : BodyRule) (s : State) → Holds P s → Holds P (through_head e head rule s)
unfolding through_head
through_head-keeps w e head rule s h = relay_head-keeps w e head rule _ (disproved-keeps w e head _ (invalidated-keeps w e head s h))

pub by_aim-named : {K : OfKeys} {P : View → Type 0} (w : WalkOf K P) (e : Exchange) (head : Response) (rule : BodyRule) (s : State) → K (key_of e) → Holds P s → Holds P (by_aim e head rule s)
unfolding by_aim
by_aim-named w e head rule s of h = by_aim_of e.aim (through_head-keeps w e head rule s h) (own_head-keeps w e head rule s of h) (λ v from to. filling_head-keeps w e head rule s of h)

pub by_aim-keeps : {P : View → Type 0} (w : Walk P) (e : Exchange) (head : Response) (rule : BodyRule) (s : State) → Holds P s → Holds P (by_aim e head rule s)
by_aim-keeps w e head rule s h = by_aim-named w e head rule s tt h
