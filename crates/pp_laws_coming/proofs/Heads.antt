-- The head of a response keeps it: what it brings to the client is not whole yet.
use Rattle.std.proofs.Common.{◌≡◌, refl, ℕ, Bool, true, false, not, ◌==◌, ◌&&◌, ◌||◌, List, [], ◌∷◌, bytes_eq, codes, Option, Some, None, sym, ap, ◌∙◌}
use Rattle.std.proofs.lemmas.Slice.Eq.{bytes_eq-Decides}
use Rattle.std.specs.List.{list_any}
use Rattle.pp_framing.specs.declared.body.BodyRule.{BodyRule}
use Rattle.pp_fresh.specs.declared.aging.Times.{Times}
use Rattle.pp_head.specs.Response.{Response}
use Rattle.pp_objects.specs.Kept.{kept_of}
use Rattle.pp_target.specs.Key.{Key, text_of}
use Rattle.pp_text.specs.Fields.{has_field}
use Rattle.pp_valid.specs.declared.version.Version.{Version}
use Rattle.pp_law.specs.Connections.{anew, attempts_of, exchange, is_for, lost_one, without_shared_row}
use Rattle.pp_law.specs.Lists.{Bytes, change, is_some_with}
use Rattle.pp_law.specs.OwnHeads.{cleared_by, clears_row, forbids_sharing, is_asked_by, is_of_another, is_widened, key_of, known_version, may_join, may_refresh, names_version, not_modified, not_shared, nothing_to_come, other_head, own_head, other_part, part_head, filling_head, count_elsewhere, is_bound, lacks_next, is_private_part, relay_head, relayed, renew, renew_row, renewed, settle, settle_known, settle_on, settle_unchanged, span_to_come, times_for, unchanged, version_in}
use Rattle.pp_law.specs.Passing.{passed_by}
use Rattle.pp_law.specs.Responses.{by_aim}
use Rattle.pp_law.specs.Stages.{filled_of, is_begun, is_pending}
use Rattle.pp_law.specs.State.{State, Aim, Through, Own, Filling, Body, Joining, Dropping, Relaying, Joins, Passes, TooWide, Client, Exchange, Instance}
use Rattle.pp_law.specs.Table.{clear, is_left_over, is_row_of, row, swept}
use Rattle.pp_law.specs.ThroughHeads.{clear_each, clear_named, disproved, disproves, invalidated, invalidates, is_same_host, key_named, places_named, reads, through_head}
use Rattle.pp_laws.proofs.Lists.{Changed, in_change, in_filter, other, same}
use Rattle.pp_laws_turn.proofs.Cases.{each_of, when, when_so}
use Rattle.pp_laws_turn.proofs.Rows.{clear-keeps, make_row-keeps, mark_row-keeps, on_instance-keeps}
use Rattle.pp_laws_turn.proofs.View.{Holds, facts_of, holds, view}
use Rattle.pp_laws_coming.proofs.Behind.{Done, comes, drop_answer-comes, lose_attempt-done, on_client_of-done, told-by, told-comes, useless-comes}
use Rattle.pp_laws_coming.proofs.Facts.{Early}
use Rattle.pp_laws_coming.proofs.Ready.{IsFree, Ready, ready_rows}
use Rattle.pp_laws_coming.proofs.Stays.{Goes, goes_as, goes_on}

-- ---- a response with a version

renew-ready : (e : Exchange) (x : Instance) (head : Response) (times : Times) (s : State) → Holds (Ready e) s → Holds (Ready e) (renew x head times s)
unfolding renew
renew-ready e x head times s h = mark_row-keeps (ready_rows e) x.id _ (on_instance-keeps (ready_rows e) x.id (renewed head times) s (λ y. record { id = refl; key = refl; is_new = λ is. is; retired = λ is. is }) h)

renew_row-ready : (e : Exchange) (head : Response) (s : State) → Holds (Ready e) s → Holds (Ready e) (renew_row e head s)
unfolding renew_row
renew_row-ready e head s h = each_of (row s (key_of e)) h (λ x. renew-ready e x head (times_for e head s) s h)

settle_on-comes : (e : Exchange) (head : Response) (v : Version) (s : State) → Holds (Ready e) s → Holds (Done e) (settle_on e head v s)
unfolding settle_on
settle_on-comes e head v s h = each_of (row s (key_of e)) (comes e s h) (λ x. told-comes e (Joins x.id (not (has_field (codes "age") head.fields))) (Joining (span_to_come e head v x.id)) s refl refl h)

settle_known-comes : (e : Exchange) (head : Response) (v : Version) (s : State) → Holds (Ready e) s → Holds (Done e) (settle_known e head v s)
unfolding settle_known
settle_known-comes e head v s h = when (may_refresh e head s) (settle_on-comes e head v _ (renew_row-ready e head s h)) (useless-comes e s h)

settle-comes : (e : Exchange) (head : Response) (v : Version) (s : State) → Holds (Ready e) s → Holds (Done e) (settle e head v s)
unfolding settle
settle-comes e head v s h =
    when (is_some_with (may_join e head v) (known_version s (key_of e)))
    (settle_known-comes e head v s h)
    (settle_on-comes e head v _ (make_row-keeps (ready_rows e) (key_of e) v (kept_of head.fields (times_for e head s)) (times_for e head s) s h))

-- ---- 304

settle_unchanged-comes : (e : Exchange) (s : State) → Holds (Ready e) s → Holds (Done e) (settle_unchanged e s)
unfolding settle_unchanged
settle_unchanged-comes e s h = each_of (row s (key_of e)) (comes e s h) (λ x. told-comes e (Joins x.id false) (Joining (nothing_to_come x)) s refl refl h)

unchanged-comes : (e : Exchange) (head : Response) (s : State) → Holds (Ready e) s → Holds (Done e) (unchanged e head s)
unfolding unchanged
unchanged-comes e head s h = when (is_some_with (names_version e) (known_version s (key_of e)) && may_refresh e head s) (settle_unchanged-comes e _ (renew_row-ready e head s h)) (useless-comes e s h)

without_shared_goes : (most : ℕ) (c : Client) → Goes (without_shared_row most c) c
without_shared_goes most c = by (c.has_given_up && not (is_begun c)) (is_begun c || c.has_given_up)
  where
    by : (again begun : Bool)
        → Goes (elim again as (λ x. Client) [ true ↦ record c { course = lost_one most c.course } | false ↦ elim begun as (λ x. Client) [ true ↦ c | false ↦ record c { course = anew c.course; has_given_up = true } ] ]) c
    by true begun = goes_as _ c refl refl refl refl refl
    by false true = goes_on c
    by false false = goes_as _ c refl refl refl refl refl

not_shared-comes : (e : Exchange) (s : State) → Holds (Ready e) s → Holds (Done e) (not_shared e s)
unfolding not_shared
not_shared-comes e s h = on_client_of-done e (without_shared_row (attempts_of e)) _ (without_shared_goes (attempts_of e)) (drop_answer-comes e _ (clear-keeps (ready_rows e) (key_of e) s h))

not_modified-comes : (e : Exchange) (head : Response) (s : State) → Holds (Ready e) s → Holds (Done e) (not_modified e head s)
unfolding not_modified
not_modified-comes e head s h =
    when (forbids_sharing head)
    (not_shared-comes e s h)
    (when (is_of_another head s (key_of e)) (useless-comes e _ (clear-keeps (ready_rows e) (key_of e) s h)) (unchanged-comes e head s h))

-- ---- a response without a version

cleared_by-ready : (head : Response) (e : Exchange) (s : State) → Holds (Ready e) s → Holds (Ready e) (cleared_by head e s)
unfolding cleared_by
cleared_by-ready head e s h = when (clears_row head) (clear-keeps (ready_rows e) (key_of e) s h) h

relayed_comes : (e : Exchange) (s : State) → is_pending (relayed e s) ≡ false
relayed_comes e s = by (list_any (is_asked_by e) s.clients)
  where
    by : (t : Bool) → is_pending (elim t as (λ x. Body) [ true ↦ Relaying | false ↦ Dropping ]) ≡ false
    by true = refl
    by false = refl

free_own : (e : Exchange) (s : State) → filled_of e ≡ None → Holds (Ready e) s → IsFree e (view s)
free_own e s fills h n c x asks i is j follows = ((facts_of h).keyed n c x asks i is j follows).0 fills

relay_head-comes : (e : Exchange) (head : Response) (rule : BodyRule) (s : State) → IsFree e (view s) → Holds (Ready e) s → Holds (Done e) (relay_head e head rule s)
unfolding relay_head
relay_head-comes e head rule s free h = told-by e (Passes (passed_by e head rule)) (relayed e s) s (relayed_comes e s) refl (λ n c x asks i is j follows. absurd (free n c x asks i is j follows)) h

other_head-comes : (e : Exchange) (head : Response) (rule : BodyRule) (s : State) → filled_of e ≡ None → Holds (Ready e) s → Holds (Done e) (other_head e head rule s)
unfolding other_head
other_head-comes e head rule s fills h =
    let cleared : Holds (Ready e) (cleared_by head e s) = cleared_by-ready head e s h in
    when (is_widened e head)
    (told-comes e TooWide Dropping _ refl refl cleared)
    (relay_head-comes e head rule _ (free_own e _ fills cleared) cleared)

own_head-comes : (e : Exchange) (head : Response) (rule : BodyRule) (s : State) → filled_of e ≡ None → Holds (Ready e) s → Holds (Done e) (own_head e head rule s)
unfolding own_head
own_head-comes e head rule s fills h = by (version_in e head)
  where
    by : (o : Option Version) → Holds (Done e) (elim o as (λ c. State) [ Some v ↦ settle e head v s | None ↦ elim (head.status == 304) as (λ c. State) [ true ↦ not_modified e head s | false ↦ other_head e head rule s ] ])
    by (Some v) = settle-comes e head v s h
    by None = when (head.status == 304) (not_modified-comes e head s h) (other_head-comes e head rule s fills h)

-- ---- a response that is passed

clear_named-ready : (e : Exchange) (key : Key) (text : Bytes) (s : State) → Holds (Ready e) s → Holds (Ready e) (clear_named key text s)
unfolding clear_named
clear_named-ready e key text s h = each_of (key_named key text) h (λ named. when (is_same_host named key) (clear-keeps (ready_rows e) (text_of named) s h) h)

clear_each-ready : (e : Exchange) (key : Key) (texts : List Bytes) (s : State) → Holds (Ready e) s → Holds (Ready e) (clear_each key texts s)
unfolding clear_each
clear_each-ready e key [] s h = h
clear_each-ready e key (text ∷ texts) s h = clear_each-ready e key texts _ (clear_named-ready e key text s h)

invalidated-ready : (e : Exchange) (head : Response) (s : State) → Holds (Ready e) s → Holds (Ready e) (invalidated e head s)
unfolding invalidated
invalidated-ready e head s h = when (invalidates e head) (clear_each-ready e e.key (places_named head) _ (clear-keeps (ready_rows e) (key_of e) s h)) h

disproved-ready : (e : Exchange) (head : Response) (s : State) → Holds (Ready e) s → Holds (Ready e) (disproved e head s)
unfolding disproved
disproved-ready e head s h = when (reads e && is_some_with (disproves head) (known_version s (key_of e))) (clear-keeps (ready_rows e) (key_of e) s h) h

through_head-comes : (e : Exchange) (head : Response) (rule : BodyRule) (s : State) → filled_of e ≡ None → Holds (Ready e) s → Holds (Done e) (through_head e head rule s)
unfolding through_head
through_head-comes e head rule s fills h =
    let ready : Holds (Ready e) (disproved e head (invalidated e head s)) = disproved-ready e head _ (invalidated-ready e head s h) in
    relay_head-comes e head rule _ (free_own e _ fills ready) ready

-- ---- and to one that fills a hole

-- behind it none stands that its client follows
free_cleared : (e : Exchange) (s : State) → Holds (Ready e) (clear (key_of e) s) → IsFree e (view (clear (key_of e) s))
unfolding clear swept
free_cleared e s h n c x asks i is j follows =
    by (in_change (is_row_of (key_of e)) (λ y. record y { is_retired = true }) x s.instances (in_filter (λ y. not (is_left_over (record s { instances = change (is_row_of (key_of e)) (λ z. record z { is_retired = true }) s.instances }) y)) x _ j).0)
  where
    row_is : is_row_of (key_of e) x ≡ true
    row_is = ap (λ (t : Bool). not t && bytes_eq x.key (key_of e)) follows.stands ∙ ap (λ (k : Bytes). bytes_eq k (key_of e)) ((facts_of h).keyed n c x asks i is j follows).1 ∙ (bytes_eq-Decides (key_of e) (key_of e)).1 refl

    by : Changed (is_row_of (key_of e)) (λ y. record y { is_retired = true }) s.instances x → ⊥
    by (same k isnt) = let both : true ≡ false = sym row_is ∙ isnt in cc both
    by (other y k hit eq) = let both : true ≡ false = sym (ap (λ (z : Instance). z.is_retired) eq) ∙ follows.stands in cc both

free_by : (e : Exchange) (head : Response) (s : State) → clears_row head ≡ true → Holds (Ready e) s → IsFree e (view (cleared_by head e s))
unfolding cleared_by
free_by e head s clears h = by (clears_row head) clears
  where
    by : (t : Bool) → t ≡ true → IsFree e (view (elim t as (λ c. State) [ true ↦ clear (key_of e) s | false ↦ s ]))
    by true is = free_cleared e s (clear-keeps (ready_rows e) (key_of e) s h)
    by false is = absurd (cc is)

other_part-comes : (e : Exchange) (head : Response) (rule : BodyRule) (s : State) → Holds (Ready e) s → Holds (Done e) (other_part e head rule s)
unfolding other_part
other_part-comes e head rule s h =
    when (is_private_part head)
    (not_shared-comes e s h)
    (when_so (clears_row head) (λ clears. relay_head-comes e head rule _ (free_by e head s clears h) (cleared_by-ready head e s h)) (λ isnt. useless-comes e s h))

part_head-comes : (e : Exchange) (head : Response) (rule : BodyRule) (s : State) → Holds (Ready e) s → Holds (Done e) (part_head e head rule s)
unfolding part_head
part_head-comes e head rule s h = by (version_in e head)
  where
    by : (o : Option Version) → Holds (Done e) (elim o as (λ c. State) [ Some v ↦ settle e head v s | None ↦ elim (head.status == 304) as (λ c. State) [ true ↦ not_modified e head s | false ↦ other_part e head rule s ] ])
    by (Some v) = settle-comes e head v s h
    by None = when (head.status == 304) (not_modified-comes e head s h) (other_part-comes e head rule s h)

filling_head-comes : (e : Exchange) (head : Response) (rule : BodyRule) (s : State) → Holds (Ready e) s → Holds (Done e) (filling_head e head rule s)
unfolding filling_head count_elsewhere
filling_head-comes e head rule s h =
    when (is_some_with is_bound (exchange (part_head e head rule s) e.number) && list_any (λ c. is_for e c && lacks_next (part_head e head rule s) c) (part_head e head rule s).clients)
    (lose_attempt-done e _ (part_head-comes e head rule s h)) (part_head-comes e head rule s h)

pub by_aim-comes : (e : Exchange) (head : Response) (rule : BodyRule) (s : State) → Holds (Ready e) s → Holds Early (by_aim e head rule s)
unfolding by_aim
by_aim-comes e head rule s h = by e.aim refl
  where
    filled_by : Aim → Option Version
    filled_by a = elim a as (λ t. Option Version) [ Through ↦ None | Own ↦ None | Filling v from to ↦ Some v ]

    by : (a : Aim) → e.aim ≡ a → Holds Early (elim a as (λ c. State) [ Through ↦ through_head e head rule s | Own ↦ own_head e head rule s | Filling v from to ↦ filling_head e head rule s ])
    by Through is = holds (facts_of (through_head-comes e head rule s (ap filled_by is) h)).0
    by Own is = holds (facts_of (own_head-comes e head rule s (ap filled_by is) h)).0
    by (Filling v from to) is = holds (facts_of (filling_head-comes e head rule s h)).0
