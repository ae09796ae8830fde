-- What the head of a response does to the rows keeps what is sound, and binds its exchange rightly.
use Rattle.std.proofs.Common.{◌≡◌, refl, ◌+◌, Bool, true, false, not, ◌==◌, ◌&&◌, List, [], ◌∷◌, length, bytes_eq, codes, Option, Some, None, inl, inr, sym, ap, ◌∙◌, arith}
use Rattle.std.specs.List.{list_any}
use Rattle.pp_framing.specs.declared.body.BodyRule.TheVariants.{Empty}
use Rattle.pp_framing.specs.declared.body.BodyRule.{BodyRule}
use Rattle.pp_fresh.specs.declared.aging.Times.{Times}
use Rattle.pp_head.specs.Response.{Response}
use Rattle.pp_objects.specs.Kept.{kept_of}
use Rattle.pp_target.specs.Key.{Key, text_of}
use Rattle.pp_text.specs.Fields.{has_field}
use Rattle.pp_valid.specs.declared.version.Version.{Version}
use Rattle.pp_law.specs.Connections.{exchange, is_for, attempts_of, lost_one, without_shared_row, lose_attempt}
use Rattle.pp_law.specs.Lists.{Bytes, is_some_with}
use Rattle.pp_law.specs.OwnHeads.{key_of, first_offset, span_to_come, is_asked_by, tell, useless, times_for, renewed, renew, settle_on, renew_row, may_refresh, settle_known, known_version, settle, names_version, nothing_to_come, settle_unchanged, not_modified, not_shared, clears_row, cleared_by, is_widened, relay_head, other_head, other_part, own_head, is_bound, lacks_next, count_elsewhere, part_head, filling_head, drop_answer, use_body, version_in, forbids_sharing, is_private_part, unchanged, is_of_another, is_full_answer, may_join}
use Rattle.pp_law.specs.Passing.{passed_by}
use Rattle.pp_law.specs.Responses.{answer_with, by_aim, payload_of, bring_row, is_readable}
use Rattle.pp_law.specs.State.{State, Answer, Body, Joining, Relaying, Dropping, Brought, Useless, Joins, Passes, TooWide, Exchange, Instance}
use Rattle.pp_law.specs.Table.{is_same_version, is_row_of, row, clear, enter}
use Rattle.pp_law.specs.ThroughHeads.{invalidates, key_named, is_same_host, clear_named, clear_each, places_named, invalidated, disproves, reads, disproved, through_head}
use Rattle.pp_laws.specs.Runs.{IsIn}
use Rattle.pp_laws.proofs.Binding.{Before, Behind, BindsTo, before_on, behind_aim, behind_each, behind_on, behind_told, charge-behind, behind_use, behind_same, behind_when}
use Rattle.pp_laws.proofs.Callers.{same_parts}
use Rattle.pp_laws.proofs.Cases.{each_of, when}
use Rattle.pp_laws.proofs.Exchanges.{without_shared_row-by}
use Rattle.pp_laws.proofs.Finds.{RowIs, make_row-is, renew_row-knows}
use Rattle.pp_laws.proofs.KeptClients.{clients_changed}
use Rattle.pp_laws.proofs.Lists.{in_find, the_one}
use Rattle.pp_laws.proofs.Payloads.{payload-nothing}
use Rattle.pp_laws.proofs.Rows.{clear-sound, enter-sound, make_row-sound, mark_row-sound, on_instance-sound}
use Rattle.pp_laws.proofs.Sound.{FactsOf, Fitting, Since, Sound, facts_of, instance_id, is_noted, sound}
use Rattle.pp_laws.proofs.Tests.{first_holds, same_bytes, second_holds}
use Rattle.pp_laws.proofs.Untouched.{clear-untouched, cleared_by-untouched, disproved-untouched, invalidated-untouched, make_row-untouched, renew_row-untouched}

-- ---- the same, and what is sound

pub renew-sound : {b : Since} (x : Instance) (head : Response) (times : Times) (s : State) → Sound b s → Sound b (renew x head times s)
unfolding renew
renew-sound x head times s h = mark_row-sound x.id _ (on_instance-sound x.id (renewed head times) s (λ y. record { id = refl; key = refl; version = refl; row = λ key is. is }) h)

renew_row-sound : {b : Since} (e : Exchange) (head : Response) (s : State) → Sound b s → Sound b (renew_row e head s)
unfolding renew_row
renew_row-sound e head s h = each_of (row s (key_of e)) h (λ x. renew-sound x head (times_for e head s) s h)

pub bring_row-sound : {b : Since} (e : Exchange) (head : Response) (s : State) → Sound b s → Sound b (bring_row e head s)
unfolding bring_row
bring_row-sound e head s h = when (is_readable e head) (enter-sound (key_of e) true s h) h

cleared_by-sound : {b : Since} (head : Response) (e : Exchange) (s : State) → Sound b s → Sound b (cleared_by head e s)
unfolding cleared_by
cleared_by-sound head e s h = when (clears_row head) (clear-sound (key_of e) s h) h

clear_named-sound : {b : Since} (key : Key) (text : Bytes) (s : State) → Sound b s → Sound b (clear_named key text s)
unfolding clear_named
clear_named-sound key text s h = each_of (key_named key text) h (λ named. when (is_same_host named key) (clear-sound (text_of named) s h) h)

clear_each-sound : {b : Since} (key : Key) (texts : List Bytes) (s : State) → Sound b s → Sound b (clear_each key texts s)
unfolding clear_each
clear_each-sound key [] s h = h
clear_each-sound key (text ∷ texts) s h = clear_each-sound key texts _ (clear_named-sound key text s h)

invalidated-sound : {b : Since} (e : Exchange) (head : Response) (s : State) → Sound b s → Sound b (invalidated e head s)
unfolding invalidated
invalidated-sound e head s h = when (invalidates e head) (clear_each-sound e.key (places_named head) _ (clear-sound (key_of e) s h)) h

disproved-sound : {b : Since} (e : Exchange) (head : Response) (s : State) → Sound b s → Sound b (disproved e head s)
unfolding disproved
disproved-sound e head s h = when (reads e && is_some_with (disproves head) (known_version s (key_of e))) (clear-sound (key_of e) s h) h

-- ---- heads

tell-behind : {b : Since} {a : Answer} {e : Exchange} (brought : Brought) (s t : State) → Behind b a e s t → Behind b a e s (tell e brought t)
unfolding tell
tell-behind {b} {a} {e} brought s t p = record {
  is_sound = sound (clients_changed b t (is_asked_by e) (λ c. record c { brought = brought }) (λ c. same_parts _ c refl refl refl) (facts_of p.is_sound));
  conns = p.conns;
  others = p.others;
  starts = p.starts;
}

lose_attempt-behind : {b : Since} {a : Answer} {e : Exchange} (s t : State) → Behind b a e s t → Behind b a e s (lose_attempt e t)
unfolding lose_attempt
lose_attempt-behind {b} {a} {e} s t p = charge-behind (lost_one (attempts_of e)) s t p

drop_answer-behind : {b : Since} (a : Answer) (e : Exchange) (s : State) → Before b e s → Behind b a e s (drop_answer e s)
unfolding drop_answer
drop_answer-behind a e s p = tell-behind Useless s _ (behind_use a e Dropping s refl p tt)

useless-behind : {b : Since} (a : Answer) (e : Exchange) (s : State) → Before b e s → Behind b a e s (useless e s)
unfolding useless
useless-behind a e s p = lose_attempt-behind s _ (drop_answer-behind a e s p)

-- the answer, of which nothing but the head came
abbrev fresh : Exchange → Response → BodyRule → Answer
fresh e head rule = answer_with e head rule

no_data : (e : Exchange) (head : Response) (rule : BodyRule) → first_offset head ≡ first_offset head + length (payload_of (fresh e head rule))
no_data e head rule = let none : length (payload_of (fresh e head rule)) ≡ 0 = ap length (payload-nothing rule) in omega arith

row_is : (key : Bytes) (s : State) (x : Instance) → row s key ≡ Some x → IsIn x s.instances × (x.key ≡ key) × (is_row_of key x ≡ true)
row_is key s x found =
    let there = in_find (is_row_of key) x s.instances found in
    (there.0, same_bytes x.key key (second_holds (not x.is_retired) (bytes_eq x.key key) there.1), there.1)

settle_on-behind : {b : Since} (e : Exchange) (head : Response) (rule : BodyRule) (v : Version) (s : State) → is_noted e.aim ≡ true → version_in e head ≡ Some v → RowIs (key_of e) v s
    → Before b e s → Behind b (fresh e head rule) e s (settle_on e head v s)
unfolding settle_on
settle_on-behind {b} e head rule v s noted version is p =
    behind_each (row s (key_of e)) (λ none. behind_same (fresh e head rule) e s p)
    (λ x found. tell-behind (Joins x.id (not (has_field (codes "age") head.fields))) s _ (behind_use (fresh e head rule) e (Joining (span_to_come e head v x.id)) s refl p (binds x (row_is (key_of e) s x found))))
  where
    facts : FactsOf b s
    facts = facts_of p.is_sound

    binds : (x : Instance) → IsIn x s.instances × (x.key ≡ key_of e) × (is_row_of (key_of e) x ≡ true) → BindsTo (fresh e head rule) e s (Some (span_to_come e head v x.id))
    binds x there = (facts.rows.given x there.0, noted, λ y i id. of y (the_one instance_id s.instances y x facts.rows.differ i there.0 id))
      where
        of : (y : Instance) → y ≡ x → (y.key ≡ key_of e) × Fitting (fresh e head rule) (span_to_come e head v x.id) y
        of y eq = (ap (λ (z : Instance). z.key) eq ∙ there.1, inl (version ∙ ap (λ w. Some w) (sym (ap (λ (z : Instance). z.version) eq ∙ is x there.0 there.2)), no_data e head rule))

settle_known-behind : {b : Since} (e : Exchange) (head : Response) (rule : BodyRule) (v : Version) (s : State) → is_noted e.aim ≡ true → version_in e head ≡ Some v
    → is_some_with (is_same_version v) (known_version s (key_of e)) ≡ true → Before b e s → Behind b (fresh e head rule) e s (settle_known e head v s)
unfolding settle_known
settle_known-behind e head rule v s noted version known p =
    behind_when (may_refresh e head s)
    (λ may. behind_on s _ _ (renew_row-untouched e head s)
    (settle_on-behind e head rule v _ noted version (renew_row-knows e head v s (facts_of p.is_sound) known) (before_on s _ (renew_row-untouched e head s) (renew_row-sound e head s p.is_sound) p)))
    (λ isnt. useless-behind (fresh e head rule) e s p)

-- what may join is of the version
known_by : (e : Exchange) (head : Response) (v : Version) (known : Option Version) → is_some_with (may_join e head v) known ≡ true → is_some_with (is_same_version v) known ≡ true
known_by e head v None is = is
known_by e head v (Some w) is = first_holds (is_same_version v w) (not (is_full_answer e head w)) is

settle-behind : {b : Since} (e : Exchange) (head : Response) (rule : BodyRule) (v : Version) (s : State) → is_noted e.aim ≡ true → version_in e head ≡ Some v
    → Before b e s → Behind b (fresh e head rule) e s (settle e head v s)
unfolding settle
settle-behind e head rule v s noted version p =
    behind_when (is_some_with (may_join e head v) (known_version s (key_of e)))
    (λ known. settle_known-behind e head rule v s noted version (known_by e head v (known_version s (key_of e)) known) p)
    (λ isnt. behind_on s _ _ (make_row-untouched (key_of e) v (kept_of head.fields (times_for e head s)) (times_for e head s) s)
    (settle_on-behind e head rule v _ noted version (make_row-is (key_of e) v (kept_of head.fields (times_for e head s)) (times_for e head s) s)
    (before_on s _ (make_row-untouched (key_of e) v (kept_of head.fields (times_for e head s)) (times_for e head s) s)
    (make_row-sound (key_of e) v (kept_of head.fields (times_for e head s)) (times_for e head s) s p.is_sound) p)))

-- ---- 304

settle_unchanged-behind : {b : Since} (e : Exchange) (head : Response) (rule : BodyRule) (s : State) → is_noted e.aim ≡ true → rule ≡ Empty → Before b e s → Behind b (fresh e head rule) e s (settle_unchanged e s)
unfolding settle_unchanged
settle_unchanged-behind {b} e head rule s noted empty p =
    behind_each (row s (key_of e)) (λ none. behind_same (fresh e head rule) e s p)
    (λ x found. tell-behind (Joins x.id false) s _ (behind_use (fresh e head rule) e (Joining (nothing_to_come x)) s refl p (binds x (row_is (key_of e) s x found))))
  where
    facts : FactsOf b s
    facts = facts_of p.is_sound

    binds : (x : Instance) → IsIn x s.instances × (x.key ≡ key_of e) × (is_row_of (key_of e) x ≡ true) → BindsTo (fresh e head rule) e s (Some (nothing_to_come x))
    binds x there = (facts.rows.given x there.0, noted, λ y i id. (ap (λ (z : Instance). z.key) (the_one instance_id s.instances y x facts.rows.differ i there.0 id) ∙ there.1, inr empty))

unchanged-behind : {b : Since} (e : Exchange) (head : Response) (rule : BodyRule) (s : State) → is_noted e.aim ≡ true → rule ≡ Empty → Before b e s → Behind b (fresh e head rule) e s (unchanged e head s)
unfolding unchanged
unchanged-behind e head rule s noted empty p =
    behind_when (is_some_with (names_version e) (known_version s (key_of e)) && may_refresh e head s)
    (λ is. behind_on s _ _ (renew_row-untouched e head s) (settle_unchanged-behind e head rule _ noted empty (before_on s _ (renew_row-untouched e head s) (renew_row-sound e head s p.is_sound) p)))
    (λ isnt. useless-behind (fresh e head rule) e s p)

before_clear : {b : Since} (e : Exchange) (s : State) → Before b e s → Before b e (clear (key_of e) s)
before_clear e s p = before_on s _ (clear-untouched (key_of e) s) (clear-sound (key_of e) s p.is_sound) p

not_shared-behind : {b : Since} (a : Answer) (e : Exchange) (s : State) → Before b e s → Behind b a e s (not_shared e s)
unfolding not_shared
not_shared-behind a e s p =
    behind_told (without_shared_row (attempts_of e)) s _ (without_shared_row-by (attempts_of e))
    (behind_on s _ _ (clear-untouched (key_of e) s) (drop_answer-behind a e _ (before_clear e s p)))

not_modified-behind : {b : Since} (e : Exchange) (head : Response) (rule : BodyRule) (s : State) → is_noted e.aim ≡ true → rule ≡ Empty → Before b e s → Behind b (fresh e head rule) e s (not_modified e head s)
unfolding not_modified
not_modified-behind e head rule s noted empty p =
    behind_when (forbids_sharing head)
    (λ is. not_shared-behind (fresh e head rule) e s p)
    (λ isnt. behind_when (is_of_another head s (key_of e))
    (λ is. behind_on s _ _ (clear-untouched (key_of e) s) (useless-behind (fresh e head rule) e _ (before_clear e s p)))
    (λ same. unchanged-behind e head rule s noted empty p))

-- ---- a response without a version

relayed-behind : {b : Since} (a : Answer) (e : Exchange) (s : State) → Before b e s → (asked : Bool) → Behind b a e s (use_body e (elim asked as (λ c. Body) [ true ↦ Relaying | false ↦ Dropping ]) s)
relayed-behind a e s p true = behind_use a e Relaying s refl p tt
relayed-behind a e s p false = behind_use a e Dropping s refl p tt

relay_head-behind : {b : Since} (e : Exchange) (head : Response) (rule : BodyRule) (s : State) → Before b e s → Behind b (fresh e head rule) e s (relay_head e head rule s)
unfolding relay_head
relay_head-behind e head rule s p = tell-behind (Passes (passed_by e head rule)) s _ (relayed-behind (fresh e head rule) e s p (list_any (is_asked_by e) s.clients))

before_cleared : {b : Since} (head : Response) (e : Exchange) (s : State) → Before b e s → Before b e (cleared_by head e s)
before_cleared head e s p = before_on s _ (cleared_by-untouched head e s) (cleared_by-sound head e s p.is_sound) p

other_head-behind : {b : Since} (e : Exchange) (head : Response) (rule : BodyRule) (s : State) → Before b e s → Behind b (fresh e head rule) e s (other_head e head rule s)
unfolding other_head
other_head-behind e head rule s p =
    behind_when (is_widened e head)
    (λ is. behind_on s _ _ (cleared_by-untouched head e s) (tell-behind TooWide _ _ (behind_use (fresh e head rule) e Dropping _ refl (before_cleared head e s p) tt)))
    (λ isnt. behind_on s _ _ (cleared_by-untouched head e s) (relay_head-behind e head rule _ (before_cleared head e s p)))

other_part-behind : {b : Since} (e : Exchange) (head : Response) (rule : BodyRule) (s : State) → Before b e s → Behind b (fresh e head rule) e s (other_part e head rule s)
unfolding other_part
other_part-behind e head rule s p =
    behind_when (is_private_part head)
    (λ private. not_shared-behind (fresh e head rule) e s p)
    (λ public. behind_when (clears_row head)
    (λ is. behind_on s _ _ (cleared_by-untouched head e s) (relay_head-behind e head rule _ (before_cleared head e s p)))
    (λ isnt. useless-behind (fresh e head rule) e s p))

-- ---- heads by what was asked

-- a response that has no version, with status 304, has no body
abbrev pub IsEmptyAt304 : Response → BodyRule → Type 0
IsEmptyAt304 head rule = (head.status == 304) ≡ true → rule ≡ Empty

own_head-behind : {b : Since} (e : Exchange) (head : Response) (rule : BodyRule) (s : State) → is_noted e.aim ≡ true → IsEmptyAt304 head rule → Before b e s → Behind b (fresh e head rule) e s (own_head e head rule s)
unfolding own_head
own_head-behind e head rule s noted empty p =
    behind_each (version_in e head)
    (λ none. behind_when (head.status == 304) (λ is. not_modified-behind e head rule s noted (empty is) p) (λ isnt. other_head-behind e head rule s p))
    (λ v version. settle-behind e head rule v s noted version p)

count_elsewhere-behind : {b : Since} {a : Answer} (e : Exchange) (s t : State) → Behind b a e s t → Behind b a e s (count_elsewhere e t)
unfolding count_elsewhere
count_elsewhere-behind e s t p =
    behind_when (is_some_with is_bound (exchange t e.number) && list_any (λ c. is_for e c && lacks_next t c) t.clients) (λ is. lose_attempt-behind s t p) (λ isnt. p)

part_head-behind : {b : Since} (e : Exchange) (head : Response) (rule : BodyRule) (s : State) → is_noted e.aim ≡ true → IsEmptyAt304 head rule → Before b e s → Behind b (fresh e head rule) e s (part_head e head rule s)
unfolding part_head
part_head-behind e head rule s noted empty p =
    behind_each (version_in e head)
    (λ none. behind_when (head.status == 304) (λ is. not_modified-behind e head rule s noted (empty is) p) (λ isnt. other_part-behind e head rule s p))
    (λ v version. settle-behind e head rule v s noted version p)

filling_head-behind : {b : Since} (e : Exchange) (head : Response) (rule : BodyRule) (s : State) → is_noted e.aim ≡ true → IsEmptyAt304 head rule → Before b e s → Behind b (fresh e head rule) e s (filling_head e head rule s)
unfolding filling_head
filling_head-behind e head rule s noted empty p = count_elsewhere-behind e s _ (part_head-behind e head rule s noted empty p)

through_head-behind : {b : Since} (e : Exchange) (head : Response) (rule : BodyRule) (s : State) → Before b e s → Behind b (fresh e head rule) e s (through_head e head rule s)
unfolding through_head
through_head-behind e head rule s p =
    behind_on s _ _ (invalidated-untouched e head s)
    (behind_on (invalidated e head s) _ _ (disproved-untouched e head (invalidated e head s))
    (relay_head-behind e head rule _ (before_on (invalidated e head s) _ (disproved-untouched e head (invalidated e head s)) (disproved-sound e head _ (invalidated-sound e head s p.is_sound))
    (before_on s _ (invalidated-untouched e head s) (invalidated-sound e head s p.is_sound) p))))

pub by_aim-behind : {b : Since} (e : Exchange) (head : Response) (rule : BodyRule) (s : State) → IsEmptyAt304 head rule → Before b e s → Behind b (answer_with e head rule) e s (by_aim e head rule s)
unfolding by_aim
by_aim-behind e head rule s empty p =
    behind_aim e.aim (through_head-behind e head rule s p) (λ noted. own_head-behind e head rule s noted empty p) (λ v from to noted. filling_head-behind e head rule s noted empty p)
