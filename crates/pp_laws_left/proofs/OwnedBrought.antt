-- What holds of whose an exchange is, as each kind of head is brought: one with a version, 304, one without, and one that is passed.
use Rattle.std.proofs.Common.{◌≡◌, ◌⊎◌, refl, ℕ, Bool, true, false, not, ◌==◌, ◌&&◌, ◌||◌, List, [], ◌∷◌, codes, is_some, Option, Some, None, inl, inr, sym, ap, ◌∙◌}
use Rattle.std.specs.List.{list_any}
use Rattle.pp_framing.specs.declared.body.BodyRule.{BodyRule}
use Rattle.pp_fresh.specs.declared.aging.Times.{Times}
use Rattle.pp_head.specs.Response.{Response}
use Rattle.pp_objects.specs.Kept.{kept_of}
use Rattle.pp_target.specs.Key.{Key, text_of}
use Rattle.pp_text.specs.Fields.{has_field}
use Rattle.pp_valid.specs.declared.version.Version.{Version}
use Rattle.pp_law.specs.Connections.{anew, attempts_of, exchange, is_exchange, is_for, lose_attempt, lost_one, on_client_of, without_shared_row}
use Rattle.pp_law.specs.Lists.{Bytes, is_some_with}
use Rattle.pp_law.specs.OwnHeads.{cleared_by, clears_row, count_elsewhere, drop_answer, filling_head, forbids_sharing, is_asked_by, is_bound, is_of_another, is_private_part, is_widened, key_of, known_version, lacks_next, may_join, may_refresh, names_version, not_modified, not_shared, nothing_to_come, other_head, other_part, own_head, part_head, relay_head, relayed, renew, renew_row, renewed, settle, settle_known, settle_on, settle_unchanged, span_to_come, times_for, unchanged, version_in}
use Rattle.pp_law.specs.Passing.{passed_by}
use Rattle.pp_law.specs.Responses.{by_aim}
use Rattle.pp_law.specs.Stages.{filled_of, is_begun, is_pending, is_through, passed_of}
use Rattle.pp_law.specs.State.{State, Aim, Through, Own, Filling, Body, Joining, Dropping, Relaying, Joins, Passes, TooWide, Client, Conn, Exchange, Instance}
use Rattle.pp_law.specs.Table.{clear, row}
use Rattle.pp_law.specs.ThroughHeads.{clear_each, clear_named, disproved, disproves, invalidated, invalidates, is_same_host, key_named, places_named, reads, through_head}
use Rattle.pp_laws.proofs.Lists.{in_find}
use Rattle.pp_laws.proofs.Tests.{first_holds, same_number}
use Rattle.pp_laws_ends.proofs.Wanted.{any_of}
use Rattle.pp_laws_replies.proofs.HasRows.{HasRow, make_row-has, renewed-has}
use Rattle.pp_laws_served.specs.Served.{is_unanswered}
use Rattle.pp_laws_turn.proofs.Cases.{each_of, when}
use Rattle.pp_laws_turn.proofs.Rows.{clear-keeps, make_row-keeps, mark_row-keeps, on_instance-keeps}
use Rattle.pp_laws_turn.proofs.View.{Holds}
use Rattle.pp_laws_left.proofs.Owned.{KeptClient, as_it_was, filled_in, kept_same}
use Rattle.pp_laws_left.proofs.OwnedAsks.{AreAlike, Stands, alike_lost, amid_not, lose_attempt-owned, on_client_of-owned, tries_less}
use Rattle.pp_laws_left.proofs.OwnedTold.{Ready, ready_rows, with_body}
use Rattle.pp_laws_left.proofs.OwnedHeads.{IsBare, IsAnswered, Come, IsUnbound, Done, when_done, sure_come, told-done, dropped-done, SameTold, told_from, bare_on, bare_lost, cleared_none, row_lost, lost_conns, drop_answer-done, useless-done}

-- ---- a response with a version

renew-ready : {conn : Option ℕ} {At : Type 0} {ks : List Conn} (e : Exchange) (x : Instance) (head : Response) (times : Times) (s : State) → Holds (Ready conn At e ks) s → Holds (Ready conn At e ks) (renew x head times s)
unfolding renew
renew-ready {conn} {At} {ks} e x head times s h = mark_row-keeps (ready_rows conn At e ks) x.id _ (on_instance-keeps (ready_rows conn At e ks) x.id (renewed head times) s (λ y. record { id = refl; key = refl; is_new = λ is. is; retired = λ is. is }) h)

renew_row-ready : {conn : Option ℕ} {At : Type 0} {ks : List Conn} (e : Exchange) (head : Response) (s : State) → Holds (Ready conn At e ks) s → Holds (Ready conn At e ks) (renew_row e head s)
unfolding renew_row
renew_row-ready e head s h = each_of (row s (key_of e)) h (λ x. renew-ready e x head (times_for e head s) s h)

each_row : {conn : Option ℕ} {At : Type 0} {ks : List Conn} {e : Exchange} (x : State) (o : Option Instance) {y : Instance → State} → (o ≡ None → ⊥) → ((a : Instance) → Done conn At e ks (y a)) → Done conn At e ks (elim o as (λ c. State) [ None ↦ x | Some a ↦ y a ])
each_row x None has hy = absurd (has refl)
each_row x (Some a) has hy = hy a

settle_on-done : {conn : Option ℕ} {At : Type 0} {ks : List Conn} (e : Exchange) (head : Response) (v : Version) (s : State) → is_through e ≡ false → HasRow (key_of e) s → Holds (Ready conn At e ks) s → Done conn At e ks (settle_on e head v s)
unfolding settle_on
settle_on-done e head v s off has h = each_row s (row s (key_of e)) has (λ x. (dropped-done e (Joins x.id (not (has_field (codes "age") head.fields))) (Joining (span_to_come e head v x.id)) s refl refl refl off h).0)

settle_known-done : {conn : Option ℕ} {At : Type 0} {ks : List Conn} (e : Exchange) (head : Response) (v : Version) (s : State) → is_through e ≡ false → (known_version s (key_of e) ≡ None → ⊥) → Holds (Ready conn At e ks) s → Done conn At e ks (settle_known e head v s)
unfolding settle_known
settle_known-done e head v s off known h = when_done (may_refresh e head s) (λ is. settle_on-done e head v _ off (renewed-has e head s known) (renew_row-ready e head s h)) (λ isnt. useless-done e s off h)

joined_known : {A : Type 0} (test : A → Bool) (o : Option A) → is_some_with test o ≡ true → o ≡ None → ⊥
joined_known test None is none = cc is
joined_known test (Some v) is none = cc none

settle-done : {conn : Option ℕ} {At : Type 0} {ks : List Conn} (e : Exchange) (head : Response) (v : Version) (s : State) → is_through e ≡ false → Holds (Ready conn At e ks) s → Done conn At e ks (settle e head v s)
unfolding settle
settle-done {conn} {At} {ks} e head v s off h =
    when_done (is_some_with (may_join e head v) (known_version s (key_of e)))
    (λ is. settle_known-done e head v s off (joined_known (may_join e head v) (known_version s (key_of e)) is) h)
    (λ isnt. settle_on-done e head v _ off (make_row-has (key_of e) v (kept_of head.fields (times_for e head s)) (times_for e head s) s) (make_row-keeps (ready_rows conn At e ks) (key_of e) v (kept_of head.fields (times_for e head s)) (times_for e head s) s h))

-- ---- 304

settle_unchanged-done : {conn : Option ℕ} {At : Type 0} {ks : List Conn} (e : Exchange) (s : State) → is_through e ≡ false → HasRow (key_of e) s → Holds (Ready conn At e ks) s → Done conn At e ks (settle_unchanged e s)
unfolding settle_unchanged
settle_unchanged-done e s off has h = each_row s (row s (key_of e)) has (λ x. (dropped-done e (Joins x.id false) (Joining (nothing_to_come x)) s refl refl refl off h).0)

unchanged-done : {conn : Option ℕ} {At : Type 0} {ks : List Conn} (e : Exchange) (head : Response) (s : State) → is_through e ≡ false → Holds (Ready conn At e ks) s → Done conn At e ks (unchanged e head s)
unfolding unchanged
unchanged-done e head s off h =
    when_done (is_some_with (names_version e) (known_version s (key_of e)) && may_refresh e head s)
    (λ is. settle_unchanged-done e _ off (renewed-has e head s (joined_known (names_version e) (known_version s (key_of e)) (first_holds (is_some_with (names_version e) (known_version s (key_of e))) (may_refresh e head s) is))) (renew_row-ready e head s h))
    (λ isnt. useless-done e s off h)

shared_kept : (most : ℕ) (c : Client) → is_unanswered c ≡ false → (is_begun c ≡ false → passed_of c ≡ None) → KeptClient (without_shared_row most c) c
shared_kept most c answered bare = by c.has_given_up (is_begun c) refl
  where
    by : (given begun : Bool) → is_begun c ≡ begun → KeptClient (elim (given && not begun) as (λ x. Client) [ true ↦ record c { course = lost_one most c.course } | false ↦ elim (begun || given) as (λ y. Client) [ true ↦ c | false ↦ record c { course = anew c.course; has_given_up = true } ] ]) c
    by true true is = kept_same c
    by false true is = kept_same c
    by true false is = as_it_was _ c refl refl refl (λ off. off) (λ tries. tries_less most c.course tries)
    by false false is = record {
      number = refl;
      asks = λ a. (let both : false ≡ true = sym answered ∙ a.unanswered in absurd (cc both));
      amid = λ a. absurd (amid_not (record c { course = anew c.course; has_given_up = true }) (bare is) a);
      stage = λ waits. refl;
      none = λ none. none;
      begun = λ off. inl off;
    }

shared_told : (most : ℕ) (c : Client) → SameTold (without_shared_row most c) c
shared_told most c = by (c.has_given_up && not (is_begun c)) (is_begun c || c.has_given_up)
  where
    by : (again begun : Bool) → SameTold (elim again as (λ x. Client) [ true ↦ record c { course = lost_one most c.course } | false ↦ elim begun as (λ x. Client) [ true ↦ c | false ↦ record c { course = anew c.course; has_given_up = true } ] ]) c
    by true begun = record { number = refl; stage = refl; brought = refl }
    by false true = record { number = refl; stage = refl; brought = refl }
    by false false = record { number = refl; stage = refl; brought = refl }

not_shared-done : {conn : Option ℕ} {At : Type 0} {ks : List Conn} (e : Exchange) (s : State) → is_through e ≡ false → Holds (Ready conn At e ks) s → Done conn At e ks (not_shared e s)
unfolding not_shared on_client_of
not_shared-done {conn} {At} {ks} e s off h = record {
  come = record {
    owned = on_client_of-owned e (without_shared_row (attempts_of e)) t (λ c. (shared_told (attempts_of e) c).number) (λ c i its. shared_kept (attempts_of e) c (w.3 c i its) (w.4 c i its)) w.0.owned;
    conns_are = w.0.conns_are;
    body = w.0.body;
    comes = w.0.comes;
    alike = w.0.alike;
    bare = λ some. inl (told_from {P = λ c. is_for e c ≡ true → is_begun c ≡ false → passed_of c ≡ None} t.clients (is_for e) (without_shared_row (attempts_of e)) (shared_told (attempts_of e)) (bare_on e) w.4);
  };
  rest = inr w.2;
}
  where
    t : State
    t = drop_answer e (clear (key_of e) s)

    w : Come conn At e ks (drop_answer e (clear (key_of e) s)) × Stands e (drop_answer e (clear (key_of e) s)).exchanges × IsUnbound e (drop_answer e (clear (key_of e) s)).exchanges × IsAnswered e (drop_answer e (clear (key_of e) s)).clients × IsBare e (drop_answer e (clear (key_of e) s)).clients
    w = drop_answer-done e (clear (key_of e) s) off (clear-keeps (ready_rows conn At e ks) (key_of e) s h)

not_modified-done : {conn : Option ℕ} {At : Type 0} {ks : List Conn} (e : Exchange) (head : Response) (s : State) → is_through e ≡ false → Holds (Ready conn At e ks) s → Done conn At e ks (not_modified e head s)
unfolding not_modified
not_modified-done {conn} {At} {ks} e head s off h =
    when_done (forbids_sharing head)
    (λ is. not_shared-done e s off h)
    (λ isnt. when_done (is_of_another head s (key_of e)) (λ is. useless-done e _ off (clear-keeps (ready_rows conn At e ks) (key_of e) s h)) (λ other_. unchanged-done e head s off h))

-- ---- a response without a version

cleared_by-ready : {conn : Option ℕ} {At : Type 0} {ks : List Conn} (head : Response) (e : Exchange) (s : State) → Holds (Ready conn At e ks) s → Holds (Ready conn At e ks) (cleared_by head e s)
unfolding cleared_by
cleared_by-ready {conn} {At} {ks} head e s h = when (clears_row head) (clear-keeps (ready_rows conn At e ks) (key_of e) s h) h

relayed_comes : (e : Exchange) (s : State) → is_pending (relayed e s) ≡ false
relayed_comes e s = by (list_any (is_asked_by e) s.clients)
  where
    by : (t : Bool) → is_pending (elim t as (λ x. Body) [ true ↦ Relaying | false ↦ Dropping ]) ≡ false
    by true = refl
    by false = refl

relay_head-done : {conn : Option ℕ} {At : Type 0} {ks : List Conn} (e : Exchange) (head : Response) (rule : BodyRule) (s : State) → (is_some (filled_of e) ≡ true → row s (key_of e) ≡ None) → Holds (Ready conn At e ks) s → Done conn At e ks (relay_head e head rule s)
unfolding relay_head
relay_head-done {conn} {At} {ks} e head rule s none h = (told-done e (Passes (passed_by e head rule)) (relayed e s) s (relayed_comes e s) refl (λ c i hit more. ap (λ t. elim t as (λ x. Body) [ true ↦ Relaying | false ↦ Dropping ]) (any_of (is_asked_by e) c s.clients i hit)) (inl refl) (λ some. inr (none some)) h).0

other_head-done : {conn : Option ℕ} {At : Type 0} {ks : List Conn} (e : Exchange) (head : Response) (rule : BodyRule) (s : State) → is_through e ≡ false → (is_some (filled_of e) ≡ true → ⊥) → Holds (Ready conn At e ks) s → Done conn At e ks (other_head e head rule s)
unfolding other_head
other_head-done e head rule s off fills h =
    when_done (is_widened e head)
    (λ is. (dropped-done e TooWide Dropping _ refl refl refl off (cleared_by-ready head e s h)).0)
    (λ isnt. relay_head-done e head rule _ (λ some. absurd (fills some)) (cleared_by-ready head e s h))

other_part-done : {conn : Option ℕ} {At : Type 0} {ks : List Conn} (e : Exchange) (head : Response) (rule : BodyRule) (s : State) → is_through e ≡ false → Holds (Ready conn At e ks) s → Done conn At e ks (other_part e head rule s)
unfolding other_part cleared_by
other_part-done {conn} {At} {ks} e head rule s off h =
    when_done (is_private_part head)
    (λ is. not_shared-done e s off h)
    (λ isnt. when_done (clears_row head) (λ clears. by clears) (λ keeps. useless-done e s off h))
  where
    at : (t : Bool) → t ≡ true → row (elim t as (λ c. State) [ true ↦ clear (key_of e) s | false ↦ s ]) (key_of e) ≡ None
    at true is = cleared_none (key_of e) s
    at false is = absurd (cc is)

    by : clears_row head ≡ true → Done conn At e ks (relay_head e head rule (elim (clears_row head) as (λ c. State) [ true ↦ clear (key_of e) s | false ↦ s ]))
    by clears = relay_head-done e head rule _ (λ some. at (clears_row head) clears) (cleared_by-ready head e s h)

version_done : {conn : Option ℕ} {At : Type 0} {ks : List Conn} {e : Exchange} (o : Option Version) {x : Version → State} {y : State} → ((v : Version) → Done conn At e ks (x v)) → Done conn At e ks y → Done conn At e ks (elim o as (λ c. State) [ Some v ↦ x v | None ↦ y ])
version_done (Some v) hx hy = hx v
version_done None hx hy = hy

own_head-done : {conn : Option ℕ} {At : Type 0} {ks : List Conn} (e : Exchange) (head : Response) (rule : BodyRule) (s : State) → is_through e ≡ false → (is_some (filled_of e) ≡ true → ⊥) → Holds (Ready conn At e ks) s → Done conn At e ks (own_head e head rule s)
unfolding own_head
own_head-done e head rule s off fills h = version_done (version_in e head) (λ v. settle-done e head v s off h) (when_done (head.status == 304) (λ is. not_modified-done e head s off h) (λ isnt. other_head-done e head rule s off fills h))

part_head-done : {conn : Option ℕ} {At : Type 0} {ks : List Conn} (e : Exchange) (head : Response) (rule : BodyRule) (s : State) → is_through e ≡ false → Holds (Ready conn At e ks) s → Done conn At e ks (part_head e head rule s)
unfolding part_head
part_head-done e head rule s off h = version_done (version_in e head) (λ v. settle-done e head v s off h) (when_done (head.status == 304) (λ is. not_modified-done e head s off h) (λ isnt. other_part-done e head rule s off h))

-- ---- a response that is passed

clear_named-ready : {conn : Option ℕ} {At : Type 0} {ks : List Conn} (e : Exchange) (key : Key) (text : Bytes) (s : State) → Holds (Ready conn At e ks) s → Holds (Ready conn At e ks) (clear_named key text s)
unfolding clear_named
clear_named-ready {conn} {At} {ks} e key text s h = each_of (key_named key text) h (λ named. when (is_same_host named key) (clear-keeps (ready_rows conn At e ks) (text_of named) s h) h)

clear_each-ready : {conn : Option ℕ} {At : Type 0} {ks : List Conn} (e : Exchange) (key : Key) (texts : List Bytes) (s : State) → Holds (Ready conn At e ks) s → Holds (Ready conn At e ks) (clear_each key texts s)
unfolding clear_each
clear_each-ready e key [] s h = h
clear_each-ready e key (text ∷ texts) s h = clear_each-ready e key texts _ (clear_named-ready e key text s h)

invalidated-ready : {conn : Option ℕ} {At : Type 0} {ks : List Conn} (e : Exchange) (head : Response) (s : State) → Holds (Ready conn At e ks) s → Holds (Ready conn At e ks) (invalidated e head s)
unfolding invalidated
invalidated-ready {conn} {At} {ks} e head s h = when (invalidates e head) (clear_each-ready e e.key (places_named head) _ (clear-keeps (ready_rows conn At e ks) (key_of e) s h)) h

disproved-ready : {conn : Option ℕ} {At : Type 0} {ks : List Conn} (e : Exchange) (head : Response) (s : State) → Holds (Ready conn At e ks) s → Holds (Ready conn At e ks) (disproved e head s)
unfolding disproved
disproved-ready {conn} {At} {ks} e head s h = when (reads e && is_some_with (disproves head) (known_version s (key_of e))) (clear-keeps (ready_rows conn At e ks) (key_of e) s h) h

-- ---- heads by what was asked

-- one that is bound was told of a row, and so nothing is passed
count_elsewhere-come : {conn : Option ℕ} {At : Type 0} {ks : List Conn} (e : Exchange) (s : State) → Done conn At e ks s → Come conn At e ks (count_elsewhere e s)
unfolding count_elsewhere
count_elsewhere-come {conn} {At} {ks} e s d = by (is_some_with is_bound (exchange s e.number) && list_any (λ c. is_for e c && lacks_next s c) s.clients) refl
  where
    unbound : (o : Option Exchange) → exchange s e.number ≡ o → IsUnbound e s.exchanges → is_some_with is_bound o ≡ true → ⊥
    unbound None is none at = cc at
    unbound (Some x) is none at =
        let w = in_find (is_exchange e.number) x s.exchanges is in
        let both : false ≡ true = sym (ap (λ (o : Option _). is_some o) (none x w.0 (same_number x.number e.number w.1))) ∙ at in
        cc both

    lost : Stands e s.exchanges ⊎ IsUnbound e s.exchanges → is_some_with is_bound (exchange s e.number) ≡ true → Come conn At e ks (lose_attempt e s)
    lost (inl stands) is = record {
      owned = lose_attempt-owned e s stands (sure_come e s d.come) d.come.owned;
      conns_are = lost_conns e s ∙ d.come.conns_are;
      body = d.come.body;
      comes = d.come.comes;
      alike = alike_of;
      bare = λ some. bare_of (d.come.bare some);
    }
      where
        alike_of : AreAlike (with_body d.come.body e) (lose_attempt e s).exchanges
        alike_of = alike_lost e (with_body d.come.body e) s d.come.alike

        bare_of : IsBare e s.clients ⊎ (row s (key_of e) ≡ None) → IsBare e (lose_attempt e s).clients ⊎ (row (lose_attempt e s) (key_of e) ≡ None)
        bare_of (inl bare) = inl (bare_lost e s bare)
        bare_of (inr none) = inr (row_lost e s none)
    lost (inr none) is = absurd (unbound (exchange s e.number) refl none is)

    by : (t : Bool) → (is_some_with is_bound (exchange s e.number) && list_any (λ c. is_for e c && lacks_next s c) s.clients) ≡ t → Come conn At e ks (elim t as (λ c. State) [ true ↦ lose_attempt e s | false ↦ s ])
    by true is = lost d.rest (first_holds (is_some_with is_bound (exchange s e.number)) (list_any (λ c. is_for e c && lacks_next s c) s.clients) is)
    by false is = d.come

pub by_aim-come : {conn : Option ℕ} {At : Type 0} {ks : List Conn} (e : Exchange) (head : Response) (rule : BodyRule) (s : State) → Holds (Ready conn At e ks) s → Come conn At e ks (by_aim e head rule s)
unfolding by_aim through_head filling_head
by_aim-come {conn} {At} {ks} e head rule s h = by e.aim refl
  where
    aim_is : (a : Aim) → e.aim ≡ a → (is_through e ≡ (elim a as (λ x. Bool) [ Through ↦ true | Own ↦ false | Filling v from to ↦ false ])) × (is_some (filled_of e) ≡ is_some (filled_in a))
    aim_is a is = (ap (λ b. elim b as (λ x. Bool) [ Through ↦ true | Own ↦ false | Filling v from to ↦ false ]) is, ap (λ b. is_some (filled_in b)) is)

    by : (a : Aim) → e.aim ≡ a → Come conn At e ks (elim a as (λ c. State) [ Through ↦ relay_head e head rule (disproved e head (invalidated e head s)) | Own ↦ own_head e head rule s | Filling v from to ↦ count_elsewhere e (part_head e head rule s) ])
    by Through is = (relay_head-done e head rule _ (λ some. let both : true ≡ false = sym some ∙ (aim_is Through is).1 in absurd (cc both)) (disproved-ready e head _ (invalidated-ready e head s h))).come
    by Own is = (own_head-done e head rule s (aim_is Own is).0 (λ some. let both : true ≡ false = sym some ∙ (aim_is Own is).1 in cc both) h).come
    by (Filling v from to) is = count_elsewhere-come e _ (part_head-done e head rule s (aim_is (Filling v from to) is).0 h)
