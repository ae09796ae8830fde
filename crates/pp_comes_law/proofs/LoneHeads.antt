-- Each exchange was there before the heads of a read came, with its aim, unanswered where it still is, and somebody's where it is passed: whatever a
-- head brings.
use Rattle.std.proofs.Common.{◌≡◌, refl, ℕ, ◌==◌, Bool, true, false, not, ◌&&◌, ◌||◌, List, [], ◌∷◌, codes, is_some, Option, Some, None, sym, subst, ap, ◌∙◌}
use Rattle.std.specs.List.{list_any}
use Rattle.pp_framing.specs.declared.body.BodyRule.{BodyRule}
use Rattle.pp_head.specs.Response.{Response}
use Rattle.pp_objects.specs.Kept.{kept_of}
use Rattle.pp_target.specs.Key.{Key, text_of}
use Rattle.pp_text.specs.Fields.{has_field}
use Rattle.pp_valid.specs.declared.version.Version.{Version}
use Rattle.pp_law.specs.Closing.{left_alone}
use Rattle.pp_law.specs.Connections.{anew, attempts_of, exchange, is_exchange, is_for, lost_one, on_exchange, without_shared_row}
use Rattle.pp_law.specs.Lists.{Bytes, change, is_some_with}
use Rattle.pp_law.specs.OwnHeads.{clears_row, cleared_by, count_elsewhere, drop_answer, filling_head, forbids_sharing, is_asked_by, is_bound, is_of_another, is_private_part, is_widened, key_of, known_version, lacks_next, may_join, may_refresh, names_version, not_modified, not_shared, nothing_to_come, other_head, other_part, own_head, part_head, relay_head, relayed, renew, renew_row, renewed, settle, settle_known, settle_on, settle_unchanged, span_to_come, tell, times_for, unchanged, use_body, useless, version_in}
use Rattle.pp_law.specs.Passing.{passed_by}
use Rattle.pp_law.specs.Responses.{by_aim}
use Rattle.pp_law.specs.Stages.{filled_of, is_begun, is_headed, is_pending, is_through}
use Rattle.pp_law.specs.State.{State, Aim, Through, Own, Filling, Body, Joining, Relaying, Dropping, Brought, Useless, Joins, Passes, TooWide, Client, Exchange}
use Rattle.pp_law.specs.Table.{row}
use Rattle.pp_law.specs.ThroughHeads.{clear_each, clear_named, disproved, disproves, invalidated, invalidates, is_same_host, key_named, places_named, reads, through_head}
use Rattle.pp_laws.specs.Runs.{IsIn}
use Rattle.pp_laws.proofs.Lists.{Changed, in_change, in_filter, other, same}
use Rattle.pp_laws.proofs.Tests.{same_number}
use Rattle.pp_laws_turn.proofs.Cases.{each_of, when}
use Rattle.pp_laws_turn.proofs.Rows.{clear-keeps, make_row-keeps, mark_row-keeps, on_instance-keeps}
use Rattle.pp_laws_turn.proofs.View.{Holds, KeepsRows, View, facts_of, holds}
use Rattle.pp_laws_left.proofs.Bodied.{Staged, Suits, Tame, lose_attempt-suits, on_client_of-suits}
use Rattle.pp_laws_coming.proofs.Facts.{AreApart}
use Rattle.pp_laws_left.proofs.BodiesPassed.{fills_none}

-- ---- what is kept

-- it was one of these
pub record Was (es : List Exchange) (e : Exchange) : Type 0 where
  pub was : Exchange
  pub there : IsIn was es
  pub number : was.number ≡ e.number
  pub aim : was.aim ≡ e.aim
  pub unheaded : is_headed e ≡ false → is_headed was ≡ false
  pub asker : is_through e ≡ true → e.asker ≡ was.asker

abbrev pub AllWere : List Exchange → View → Type 0
AllWere es v = (e : Exchange) → IsIn e v.exchanges → Was es e

pub record KnownIn (es : List Exchange) (e : Exchange) : Type 0 where
  pub was : Exchange
  pub there : IsIn was es
  pub number : was.number ≡ e.number
  pub aim : was.aim ≡ e.aim

through_aim : (a b : Aim) → a ≡ b → (elim a as (λ x. Bool) [ Through ↦ true | Own ↦ false | Filling v from to ↦ false ]) ≡ (elim b as (λ x. Bool) [ Through ↦ true | Own ↦ false | Filling v from to ↦ false ])
through_aim a b is = ap (λ (c : Aim). elim c as (λ x. Bool) [ Through ↦ true | Own ↦ false | Filling v from to ↦ false ]) is

was_tame : (es : List Exchange) (d e : Exchange) → Tame d e → Was es e → Was es d
was_tame es d e t w = record {
  was = w.was;
  there = w.there;
  number = w.number ∙ sym t.number;
  aim = w.aim ∙ sym t.aim;
  unheaded = λ off. w.unheaded (t.unheaded off);
  asker = λ through. t.asker ∙ w.asker (through_aim e.aim d.aim (sym t.aim) ∙ through);
}

relayed_headed : (e : Exchange) (s : State) → is_pending (relayed e s) ≡ false
relayed_headed e s = by (list_any (is_asked_by e) s.clients)
  where
    by : (t : Bool) → is_pending (elim t as (λ x. Body) [ true ↦ Relaying | false ↦ Dropping ]) ≡ false
    by true = refl
    by false = refl

module _ (es : List Exchange) (apart : AreApart es) where
  abbrev Keeps : State → Type 0
  Keeps s = Holds (AllWere es) s

  abbrev Known : Exchange → Type 0
  Known e = KnownIn es e

  rows : KeepsRows (AllWere es)
  rows xs next v from h = h

  -- one that filled a hole is not passed
  left_was : (e x : Exchange) → Known e → is_some (filled_of e) ≡ true → x.number ≡ e.number → Was es x → Was es (left_alone x)
  left_was e x k some number w = record {
    was = w.was;
    there = w.there;
    number = w.number;
    aim = w.aim;
    unheaded = w.unheaded;
    asker = λ through.
        let one : w.was ≡ k.was = apart w.was k.was w.there k.there (w.number ∙ number ∙ sym k.number) in
        let aim : x.aim ≡ e.aim = sym w.aim ∙ ap (λ (y : Exchange). y.aim) one ∙ k.aim in
        let both : false ≡ true = sym (ap (λ (o : Option Version). is_some o) (fills_none e.aim (through_aim e.aim x.aim (sym aim) ∙ through))) ∙ some in
        absurd (cc both);
  }

  pub suits : Suits (KnownIn es) (AllWere es)
  suits = record {
    clients = λ f kept v h. h;
    conns = λ ks v h. h;
    rows = λ xs next v from h. h;
    asks = λ p f tame v h d i. changed_was p f v.exchanges (λ e hit w. was_tame es (f e) e (tame e hit) w) h d i;
    over = λ test v h e i. h e (in_filter test e v.exchanges i).0;
    alone = λ e known some v h d i. changed_was (is_exchange e.number) left_alone v.exchanges (λ x hit w. left_was e x known some (same_number x.number e.number hit) w) h d i;
    known = λ e v i h. (let w = h e i in record { was = w.was; there = w.there; number = w.number; aim = w.aim });
  }
    where
      changed_was : (p : Exchange → Bool) (f : Exchange → Exchange) (xs : List Exchange) → ((e : Exchange) → p e ≡ true → Was es e → Was es (f e)) → ((e : Exchange) → IsIn e xs → Was es e) → (d : Exchange) → IsIn d (change p f xs) → Was es d
      changed_was p f xs keeps h d i = by (in_change p f d xs i)
        where
          by : Changed p f xs d → Was es d
          by (same j isnt) = h d j
          by (other e j hit eq) = subst (λ (x : Exchange). Was es x) (sym eq) (keeps e hit (h e j))

  -- ---- heads

  told : (e : Exchange) (b : Brought) (s : State) → Keeps s → Keeps (tell e b s)
  unfolding tell
  told e b s h = holds (facts_of h)

  -- behind its head
  used : (e : Exchange) (body : Body) (s : State) → is_pending body ≡ false → Keeps s → Keeps (use_body e body s)
  unfolding use_body on_exchange
  used e body s on h = holds (λ d i. by d (in_change (is_exchange e.number) (λ x. record x { body = body }) d s.exchanges i))
    where
      by : (d : Exchange) → Changed (is_exchange e.number) (λ x. record x { body = body }) s.exchanges d → Was es d
      by d (same j isnt) = facts_of h d j
      by d (other x j hit eq) =
          let w = facts_of h x j in
          subst (λ (y : Exchange). Was es y) (sym eq) (record { was = w.was; there = w.there; number = w.number; aim = w.aim; unheaded = λ off. (let both : true ≡ false = sym (ap not on) ∙ off in absurd (cc both)); asker = w.asker })

  dropped : (e : Exchange) (s : State) → Known e → Keeps s → Keeps (drop_answer e s)
  unfolding drop_answer
  dropped e s off h = told e Useless _ (used e Dropping s refl h)

  useless_so : (e : Exchange) (s : State) → Known e → Keeps s → Keeps (useless e s)
  unfolding useless
  useless_so e s off h = lose_attempt-suits suits e _ off (dropped e s off h)

  renewed_row : (e : Exchange) (head : Response) (s : State) → Keeps s → Keeps (renew_row e head s)
  unfolding renew_row renew
  renewed_row e head s h = each_of (row s (key_of e)) h (λ x. mark_row-keeps rows x.id _ (on_instance-keeps rows x.id (renewed head (times_for e head s)) s (λ y. record { id = refl; key = refl; is_new = λ is. is; retired = λ is. is }) h))

  settled_on : (e : Exchange) (head : Response) (v : Version) (s : State) → Known e → Keeps s → Keeps (settle_on e head v s)
  unfolding settle_on
  settled_on e head v s off h = each_of (row s (key_of e)) h (λ x. told e (Joins x.id (not (has_field (codes "age") head.fields))) _ (used e (Joining (span_to_come e head v x.id)) s refl h))

  settled_known : (e : Exchange) (head : Response) (v : Version) (s : State) → Known e → Keeps s → Keeps (settle_known e head v s)
  unfolding settle_known
  settled_known e head v s off h = when (may_refresh e head s) (settled_on e head v _ off (renewed_row e head s h)) (useless_so e s off h)

  settled : (e : Exchange) (head : Response) (v : Version) (s : State) → Known e → Keeps s → Keeps (settle e head v s)
  unfolding settle
  settled e head v s off h =
      when (is_some_with (may_join e head v) (known_version s (key_of e)))
      (settled_known e head v s off h)
      (settled_on e head v _ off (make_row-keeps rows (key_of e) v (kept_of head.fields (times_for e head s)) (times_for e head s) s h))

  settled_unchanged : (e : Exchange) (s : State) → Known e → Keeps s → Keeps (settle_unchanged e s)
  unfolding settle_unchanged
  settled_unchanged e s off h = each_of (row s (key_of e)) h (λ x. told e (Joins x.id false) _ (used e (Joining (nothing_to_come x)) s refl h))

  unchanged_so : (e : Exchange) (head : Response) (s : State) → Known e → Keeps s → Keeps (unchanged e head s)
  unfolding unchanged
  unchanged_so e head s off h = when (is_some_with (names_version e) (known_version s (key_of e)) && may_refresh e head s) (settled_unchanged e _ off (renewed_row e head s h)) (useless_so e s off h)

  shared_staged : (most : ℕ) (c : Client) → Staged (without_shared_row most c) c
  shared_staged most c = by (c.has_given_up && not (is_begun c)) (is_begun c || c.has_given_up)
    where
      by : (again begun : Bool)
          → Staged (elim again as (λ x. Client) [ true ↦ record c { course = lost_one most c.course } | false ↦ elim begun as (λ x. Client) [ true ↦ c | false ↦ record c { course = anew c.course; has_given_up = true } ] ]) c
      by true begun = record { number = refl; stage = refl }
      by false true = record { number = refl; stage = refl }
      by false false = record { number = refl; stage = refl }

  not_shared_so : (e : Exchange) (s : State) → Known e → Keeps s → Keeps (not_shared e s)
  unfolding not_shared
  not_shared_so e s off h = on_client_of-suits suits e (without_shared_row (attempts_of e)) _ (shared_staged (attempts_of e)) (dropped e _ off (clear-keeps rows (key_of e) s h))

  not_modified_so : (e : Exchange) (head : Response) (s : State) → Known e → Keeps s → Keeps (not_modified e head s)
  unfolding not_modified
  not_modified_so e head s off h =
      when (forbids_sharing head)
      (not_shared_so e s off h)
      (when (is_of_another head s (key_of e)) (useless_so e _ off (clear-keeps rows (key_of e) s h)) (unchanged_so e head s off h))

  cleared : (head : Response) (e : Exchange) (s : State) → Keeps s → Keeps (cleared_by head e s)
  unfolding cleared_by
  cleared head e s h = when (clears_row head) (clear-keeps rows (key_of e) s h) h

  relayed_off : (e : Exchange) (head : Response) (rule : BodyRule) (s : State) → Known e → Keeps s → Keeps (relay_head e head rule s)
  unfolding relay_head
  relayed_off e head rule s off h = told e (Passes (passed_by e head rule)) _ (used e (relayed e s) s (relayed_headed e s) h)

  other_head_so : (e : Exchange) (head : Response) (rule : BodyRule) (s : State) → Known e → Keeps s → Keeps (other_head e head rule s)
  unfolding other_head
  other_head_so e head rule s off h =
      when (is_widened e head)
      (told e TooWide _ (used e Dropping _ refl (cleared head e s h)))
      (relayed_off e head rule _ off (cleared head e s h))

  other_part_so : (e : Exchange) (head : Response) (rule : BodyRule) (s : State) → Known e → Keeps s → Keeps (other_part e head rule s)
  unfolding other_part
  other_part_so e head rule s off h =
      when (is_private_part head)
      (not_shared_so e s off h)
      (when (clears_row head) (relayed_off e head rule _ off (cleared head e s h)) (useless_so e s off h))

  own_head_so : (e : Exchange) (head : Response) (rule : BodyRule) (s : State) → Known e → Keeps s → Keeps (own_head e head rule s)
  unfolding own_head
  own_head_so e head rule s off h = by (version_in e head)
    where
      by : (o : Option Version) → Keeps (elim o as (λ c. State) [ Some v ↦ settle e head v s | None ↦ elim (head.status == 304) as (λ c. State) [ true ↦ not_modified e head s | false ↦ other_head e head rule s ] ])
      by (Some v) = settled e head v s off h
      by None = when (head.status == 304) (not_modified_so e head s off h) (other_head_so e head rule s off h)

  part_head_so : (e : Exchange) (head : Response) (rule : BodyRule) (s : State) → Known e → Keeps s → Keeps (part_head e head rule s)
  unfolding part_head
  part_head_so e head rule s off h = by (version_in e head)
    where
      by : (o : Option Version) → Keeps (elim o as (λ c. State) [ Some v ↦ settle e head v s | None ↦ elim (head.status == 304) as (λ c. State) [ true ↦ not_modified e head s | false ↦ other_part e head rule s ] ])
      by (Some v) = settled e head v s off h
      by None = when (head.status == 304) (not_modified_so e head s off h) (other_part_so e head rule s off h)

  filling_head_so : (e : Exchange) (head : Response) (rule : BodyRule) (s : State) → Known e → Keeps s → Keeps (filling_head e head rule s)
  unfolding filling_head count_elsewhere
  filling_head_so e head rule s off h =
      when (is_some_with is_bound (exchange (part_head e head rule s) e.number) && list_any (λ c. is_for e c && lacks_next (part_head e head rule s) c) (part_head e head rule s).clients)
      (lose_attempt-suits suits e _ off (part_head_so e head rule s off h)) (part_head_so e head rule s off h)

  -- ---- what is passed

  named_were : (key : Key) (text : Bytes) (s : State) → Keeps s → Keeps (clear_named key text s)
  unfolding clear_named
  named_were key text s h = each_of (key_named key text) h (λ named. when (is_same_host named key) (clear-keeps rows (text_of named) s h) h)

  each_were : (key : Key) (texts : List Bytes) (s : State) → Keeps s → Keeps (clear_each key texts s)
  unfolding clear_each
  each_were key [] s h = h
  each_were key (text ∷ texts) s h = each_were key texts _ (named_were key text s h)

  invalidated_were : (e : Exchange) (head : Response) (s : State) → Keeps s → Keeps (invalidated e head s)
  unfolding invalidated
  invalidated_were e head s h = when (invalidates e head) (each_were e.key (places_named head) _ (clear-keeps rows (key_of e) s h)) h

  disproved_were : (e : Exchange) (head : Response) (s : State) → Keeps s → Keeps (disproved e head s)
  unfolding disproved
  disproved_were e head s h = when (reads e && is_some_with (disproves head) (known_version s (key_of e))) (clear-keeps rows (key_of e) s h) h

  pub by_aim-were : (e : Exchange) (head : Response) (rule : BodyRule) (s : State) → Known e → Keeps s → Keeps (by_aim e head rule s)
  unfolding by_aim through_head
  by_aim-were e head rule s known h = by e.aim
    where
      by : (a : Aim) → Keeps (elim a as (λ c. State) [ Through ↦ relay_head e head rule (disproved e head (invalidated e head s)) | Own ↦ own_head e head rule s | Filling v from to ↦ filling_head e head rule s ])
      by Through = relayed_off e head rule _ known (disproved_were e head _ (invalidated_were e head s h))
      by Own = own_head_so e head rule s known h
      by (Filling v from to) = filling_head_so e head rule s known h
