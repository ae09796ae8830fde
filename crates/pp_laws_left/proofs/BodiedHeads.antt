-- An exchange that had more of a body to ask as a connection was read is that of its client, and its response goes on: what is kept, also
-- where heads of responses come.
use Rattle.std.proofs.Common.{◌≡◌, refl, ℕ, ◌==◌, Bool, true, false, not, ◌&&◌, ◌||◌, List, [], ◌∷◌, codes, is_some, Option, Some, None, sym, subst, ap, ◌∙◌}
use Rattle.std.specs.List.{list_any}
use Rattle.pp_framing.specs.declared.body.BodyRule.{BodyRule}
use Rattle.pp_head.specs.Response.{Response}
use Rattle.pp_objects.specs.Kept.{kept_of}
use Rattle.pp_target.specs.Key.{Key, text_of}
use Rattle.pp_text.specs.Fields.{has_field}
use Rattle.pp_valid.specs.declared.version.Version.{Version}
use Rattle.pp_law.specs.Closing.{left_alone}
use Rattle.pp_law.specs.Connections.{anew, attempts_of, exchange, is_exchange, is_for, lost_one, on_exchange, without_shared_row}
use Rattle.pp_law.specs.Lists.{Bytes, change, is_some_with}
use Rattle.pp_law.specs.OwnHeads.{clears_row, cleared_by, count_elsewhere, drop_answer, filling_head, forbids_sharing, is_asked_by, is_bound, is_of_another, is_private_part, is_widened, key_of, known_version, lacks_next, may_join, may_refresh, names_version, not_modified, not_shared, nothing_to_come, other_head, other_part, own_head, part_head, relay_head, relayed, renew, renew_row, renewed, settle, settle_known, settle_on, settle_unchanged, span_to_come, tell, times_for, unchanged, use_body, useless, version_in}
use Rattle.pp_law.specs.Passing.{passed_by}
use Rattle.pp_law.specs.Responses.{by_aim}
use Rattle.pp_law.specs.Stages.{is_begun, is_headed, is_pending, is_through}
use Rattle.pp_law.specs.State.{State, Aim, Through, Own, Filling, Body, Joining, Relaying, Dropping, Brought, Useless, Joins, Passes, TooWide, Client, Exchange}
use Rattle.pp_law.specs.Table.{row}
use Rattle.pp_law.specs.ThroughHeads.{clear_each, clear_named, disproved, disproves, invalidated, invalidates, is_same_host, key_named, places_named, reads, through_head}
use Rattle.pp_laws.specs.Runs.{IsIn}
use Rattle.pp_laws.proofs.Lists.{Changed, changed_at, in_change, in_filter, other, same}
use Rattle.pp_laws.proofs.Tests.{same_number}
use Rattle.pp_laws_bounds.proofs.Counts.{in_map_of}
use Rattle.pp_laws_turn.proofs.Cases.{each_of, when}
use Rattle.pp_laws_turn.proofs.Rows.{clear-keeps, make_row-keeps, mark_row-keeps, on_instance-keeps}
use Rattle.pp_laws_turn.proofs.View.{Holds, KeepsRows, View, facts_of, holds, view}
use Rattle.pp_laws_left.specs.Bodies.{is_awaited}
use Rattle.pp_laws_left.proofs.Bodied.{Staged, Suits, Tame, lose_attempt-suits, on_client_of-suits}
use Rattle.pp_laws_left.proofs.Keep.{begun_in}

-- ---- what holds

-- which numbers of exchanges and of clients had it, and who had not begun as it was awaited
pub record Firm (T : ℕ → ℕ → Type 0) (U : ℕ → Type 0) (e : Exchange) : Type 0 where
  pub its : (e.body_left == 0) ≡ false → (m : ℕ) × T e.number m
  pub through : (m : ℕ) → T e.number m → is_through e ≡ true
  pub asker : (m : ℕ) → T e.number m → e.asker ≡ Some m
  pub awaited : (m : ℕ) → T e.number m → is_awaited e.body ≡ true
  pub fresh : (m : ℕ) → T e.number m → is_headed e ≡ false → U m

pub record Strict (T : ℕ → ℕ → Type 0) (U : ℕ → Type 0) (cs : List Client) (es : List Exchange) : Type 0 where
  pub firm : (e : Exchange) → IsIn e es → Firm T U e
  pub clients : (m : ℕ) → U m → (c : Client) × IsIn c cs × (c.number ≡ m) × (is_begun c ≡ false)

abbrev pub StrictOf : (ℕ → ℕ → Type 0) → (ℕ → Type 0) → View → Type 0
StrictOf T U v = Strict T U v.clients v.exchanges

-- of an exchange that this counts it is passed
abbrev pub Passed : (ℕ → ℕ → Type 0) → Exchange → Type 0
Passed T e = (m : ℕ) → T e.number m → is_through e ≡ true

firm_tame : {T : ℕ → ℕ → Type 0} {U : ℕ → Type 0} (d e : Exchange) → Tame d e → Firm T U e → Firm T U d
firm_tame {T} {U} d e w h = record {
  its = λ some. (let r = h.its (w.left some) in (r.0, back r.0 r.1));
  through = λ m t. ap (λ (a : Aim). elim a as (λ x. Bool) [ Through ↦ true | Own ↦ false | Filling v from to ↦ false ]) w.aim ∙ h.through m (on m t);
  asker = λ m t. w.asker ∙ h.asker m (on m t);
  awaited = λ m t. w.awaited (h.awaited m (on m t));
  fresh = λ m t off. h.fresh m (on m t) (w.unheaded off);
}
  where
    on : (m : ℕ) → T d.number m → T e.number m
    on m t = subst (λ n. T n m) w.number t

    back : (m : ℕ) → T e.number m → T d.number m
    back m t = subst (λ n. T n m) (sym w.number) t

tame_firm : {T : ℕ → ℕ → Type 0} {U : ℕ → Type 0} (p : Exchange → Bool) (f : Exchange → Exchange) (es : List Exchange) → ((e : Exchange) → p e ≡ true → Firm T U e → Firm T U (f e)) → ((e : Exchange) → IsIn e es → Firm T U e) → (d : Exchange) → IsIn d (change p f es) → Firm T U d
tame_firm {T} {U} p f es kept h d i = by (in_change p f d es i)
  where
    by : Changed p f es d → Firm T U d
    by (same j isnt) = h d j
    by (other e j hit eq) = subst (λ (x : Exchange). Firm T U x) (sym eq) (kept e hit (h e j))

-- of one that this does not count nothing is said
firm_off : {T : ℕ → ℕ → Type 0} {U : ℕ → Type 0} (d e : Exchange) → d.number ≡ e.number → d.body_left ≡ e.body_left → ((m : ℕ) → T e.number m → ⊥) → Firm T U e → Firm T U d
firm_off {T} {U} d e number left none h = record {
  its = λ some. (let r = h.its (ap (λ n. n == 0) (sym left) ∙ some) in absurd (none r.0 r.1));
  through = λ m t. absurd (none m (on m t));
  asker = λ m t. absurd (none m (on m t));
  awaited = λ m t. absurd (none m (on m t));
  fresh = λ m t off. absurd (none m (on m t));
}
  where
    on : (m : ℕ) → T d.number m → T e.number m
    on m t = subst (λ n. T n m) number t

fills_not : (a : Aim) → (elim a as (λ x. Bool) [ Through ↦ true | Own ↦ false | Filling v from to ↦ false ]) ≡ true → is_some (elim a as (λ x. Option Version) [ Through ↦ None | Own ↦ None | Filling v from to ↦ Some v ]) ≡ true → ⊥
fills_not Through is some = cc some
fills_not Own is some = cc is
fills_not (Filling v from to) is some = cc is

begun_staged : (d c : Client) → Staged d c → is_begun c ≡ false → is_begun d ≡ false
begun_staged d c w off = ap begun_in w.stage ∙ off

pub strict_suits : (T : ℕ → ℕ → Type 0) (U : ℕ → Type 0) → Suits (Passed T) (StrictOf T U)
strict_suits T U = record {
  clients = λ f kept v h. record { firm = h.firm; clients = λ m u. (let w = h.clients m u in (f w.0, in_map_of f w.0 v.clients w.1, (kept w.0).number ∙ w.2, begun_staged (f w.0) w.0 (kept w.0) w.3)) };
  conns = λ ks v h. h;
  rows = λ xs next v from h. h;
  asks = λ p f tame v h. record { firm = tame_firm p f v.exchanges (λ e hit firm. firm_tame (f e) e (tame e hit) firm) h.firm; clients = h.clients };
  over = λ test v h. record { firm = λ e i. h.firm e (in_filter test e v.exchanges i).0; clients = h.clients };
  alone = λ e passed some v h. record { firm = tame_firm (is_exchange e.number) left_alone v.exchanges (λ x hit firm. firm_off (left_alone x) x refl refl (λ m t. fills_not e.aim (passed m (subst (λ n. T n m) (same_number x.number e.number hit) t)) some) firm) h.firm; clients = h.clients };
  known = λ e v i h m t. (h.firm e i).through m t;
}

-- ---- what is not passed

-- this does not count it
abbrev pub Uncounted : (ℕ → ℕ → Type 0) → Exchange → Type 0
Uncounted T e = (m : ℕ) → T e.number m → ⊥

module _ (T : ℕ → ℕ → Type 0) (U : ℕ → Type 0) where
  rows : KeepsRows (StrictOf T U)
  rows xs next v from h = h

  abbrev Keeps : State → Type 0
  Keeps s = Holds (StrictOf T U) s

  passed_off : (e : Exchange) → Uncounted T e → Passed T e
  passed_off e off m t = absurd (off m t)

  told : (e : Exchange) (b : Brought) (s : State) → Keeps s → Keeps (tell e b s)
  unfolding tell
  told e b s h = holds ((strict_suits T U).clients (changed_at (is_asked_by e) (λ c. record c { brought = b })) (λ c. by c (is_asked_by e c)) (view s) (facts_of h))
    where
      by : (c : Client) (t : Bool) → Staged (elim t as (λ x. Client) [ true ↦ record c { brought = b } | false ↦ c ]) c
      by c true = record { number = refl; stage = refl }
      by c false = record { number = refl; stage = refl }

  used : (e : Exchange) (body : Body) (s : State) → Uncounted T e → Keeps s → Keeps (use_body e body s)
  unfolding use_body on_exchange
  used e body s off h = holds (record { firm = tame_firm (is_exchange e.number) (λ x. record x { body = body }) s.exchanges (λ x hit firm. firm_off (record x { body = body }) x refl refl (λ m t. off m (subst (λ n. T n m) (same_number x.number e.number hit) t)) firm) (facts_of h).firm; clients = (facts_of h).clients })

  dropped : (e : Exchange) (s : State) → Uncounted T e → Keeps s → Keeps (drop_answer e s)
  unfolding drop_answer
  dropped e s off h = told e Useless _ (used e Dropping s off h)

  useless_so : (e : Exchange) (s : State) → Uncounted T e → Keeps s → Keeps (useless e s)
  unfolding useless
  useless_so e s off h = lose_attempt-suits (strict_suits T U) e _ (passed_off e off) (dropped e s off h)

  renewed_row : (e : Exchange) (head : Response) (s : State) → Keeps s → Keeps (renew_row e head s)
  unfolding renew_row renew
  renewed_row e head s h = each_of (row s (key_of e)) h (λ x. mark_row-keeps rows x.id _ (on_instance-keeps rows x.id (renewed head (times_for e head s)) s (λ y. record { id = refl; key = refl; is_new = λ is. is; retired = λ is. is }) h))

  settled_on : (e : Exchange) (head : Response) (v : Version) (s : State) → Uncounted T e → Keeps s → Keeps (settle_on e head v s)
  unfolding settle_on
  settled_on e head v s off h = each_of (row s (key_of e)) h (λ x. told e (Joins x.id (not (has_field (codes "age") head.fields))) _ (used e (Joining (span_to_come e head v x.id)) s off h))

  settled_known : (e : Exchange) (head : Response) (v : Version) (s : State) → Uncounted T e → Keeps s → Keeps (settle_known e head v s)
  unfolding settle_known
  settled_known e head v s off h = when (may_refresh e head s) (settled_on e head v _ off (renewed_row e head s h)) (useless_so e s off h)

  settled : (e : Exchange) (head : Response) (v : Version) (s : State) → Uncounted T e → Keeps s → Keeps (settle e head v s)
  unfolding settle
  settled e head v s off h =
      when (is_some_with (may_join e head v) (known_version s (key_of e)))
      (settled_known e head v s off h)
      (settled_on e head v _ off (make_row-keeps rows (key_of e) v (kept_of head.fields (times_for e head s)) (times_for e head s) s h))

  settled_unchanged : (e : Exchange) (s : State) → Uncounted T e → Keeps s → Keeps (settle_unchanged e s)
  unfolding settle_unchanged
  settled_unchanged e s off h = each_of (row s (key_of e)) h (λ x. told e (Joins x.id false) _ (used e (Joining (nothing_to_come x)) s off h))

  unchanged_so : (e : Exchange) (head : Response) (s : State) → Uncounted T e → Keeps s → Keeps (unchanged e head s)
  unfolding unchanged
  unchanged_so e head s off h = when (is_some_with (names_version e) (known_version s (key_of e)) && may_refresh e head s) (settled_unchanged e _ off (renewed_row e head s h)) (useless_so e s off h)

  shared_staged : (most : ℕ) (c : Client) → Staged (without_shared_row most c) c
  shared_staged most c = by (c.has_given_up && not (is_begun c)) (is_begun c || c.has_given_up)
    where
      by : (again begun : Bool)
          → Staged (elim again as (λ x. Client) [ true ↦ record c { course = lost_one most c.course } | false ↦ elim begun as (λ x. Client) [ true ↦ c | false ↦ record c { course = anew c.course; has_given_up = true } ] ]) c
      by true begun = record { number = refl; stage = refl }
      by false true = record { number = refl; stage = refl }
      by false false = record { number = refl; stage = refl }

  not_shared_so : (e : Exchange) (s : State) → Uncounted T e → Keeps s → Keeps (not_shared e s)
  unfolding not_shared
  not_shared_so e s off h = on_client_of-suits (strict_suits T U) e (without_shared_row (attempts_of e)) _ (shared_staged (attempts_of e)) (dropped e _ off (clear-keeps rows (key_of e) s h))

  not_modified_so : (e : Exchange) (head : Response) (s : State) → Uncounted T e → Keeps s → Keeps (not_modified e head s)
  unfolding not_modified
  not_modified_so e head s off h =
      when (forbids_sharing head)
      (not_shared_so e s off h)
      (when (is_of_another head s (key_of e)) (useless_so e _ off (clear-keeps rows (key_of e) s h)) (unchanged_so e head s off h))

  cleared : (head : Response) (e : Exchange) (s : State) → Keeps s → Keeps (cleared_by head e s)
  unfolding cleared_by
  cleared head e s h = when (clears_row head) (clear-keeps rows (key_of e) s h) h

  relayed_off : (e : Exchange) (head : Response) (rule : BodyRule) (s : State) → Uncounted T e → Keeps s → Keeps (relay_head e head rule s)
  unfolding relay_head
  relayed_off e head rule s off h = told e (Passes (passed_by e head rule)) _ (used e (relayed e s) s off h)

  other_head_so : (e : Exchange) (head : Response) (rule : BodyRule) (s : State) → Uncounted T e → Keeps s → Keeps (other_head e head rule s)
  unfolding other_head
  other_head_so e head rule s off h =
      when (is_widened e head)
      (told e TooWide _ (used e Dropping _ off (cleared head e s h)))
      (relayed_off e head rule _ off (cleared head e s h))

  other_part_so : (e : Exchange) (head : Response) (rule : BodyRule) (s : State) → Uncounted T e → Keeps s → Keeps (other_part e head rule s)
  unfolding other_part
  other_part_so e head rule s off h =
      when (is_private_part head)
      (not_shared_so e s off h)
      (when (clears_row head) (relayed_off e head rule _ off (cleared head e s h)) (useless_so e s off h))

  own_head_so : (e : Exchange) (head : Response) (rule : BodyRule) (s : State) → Uncounted T e → Keeps s → Keeps (own_head e head rule s)
  unfolding own_head
  own_head_so e head rule s off h = by (version_in e head)
    where
      by : (o : Option Version) → Keeps (elim o as (λ c. State) [ Some v ↦ settle e head v s | None ↦ elim (head.status == 304) as (λ c. State) [ true ↦ not_modified e head s | false ↦ other_head e head rule s ] ])
      by (Some v) = settled e head v s off h
      by None = when (head.status == 304) (not_modified_so e head s off h) (other_head_so e head rule s off h)

  part_head_so : (e : Exchange) (head : Response) (rule : BodyRule) (s : State) → Uncounted T e → Keeps s → Keeps (part_head e head rule s)
  unfolding part_head
  part_head_so e head rule s off h = by (version_in e head)
    where
      by : (o : Option Version) → Keeps (elim o as (λ c. State) [ Some v ↦ settle e head v s | None ↦ elim (head.status == 304) as (λ c. State) [ true ↦ not_modified e head s | false ↦ other_part e head rule s ] ])
      by (Some v) = settled e head v s off h
      by None = when (head.status == 304) (not_modified_so e head s off h) (other_part_so e head rule s off h)

  filling_head_so : (e : Exchange) (head : Response) (rule : BodyRule) (s : State) → Uncounted T e → Keeps s → Keeps (filling_head e head rule s)
  unfolding filling_head count_elsewhere
  filling_head_so e head rule s off h =
      when (is_some_with is_bound (exchange (part_head e head rule s) e.number) && list_any (λ c. is_for e c && lacks_next (part_head e head rule s) c) (part_head e head rule s).clients)
      (lose_attempt-suits (strict_suits T U) e _ (passed_off e off) (part_head_so e head rule s off h)) (part_head_so e head rule s off h)

  -- ---- what is passed

  -- somebody who did not begin waits for it, where this counts it
  abbrev pub Asked : Exchange → View → Type 0
  Asked e v = Strict T U v.clients v.exchanges × ((m : ℕ) → T e.number m → list_any (is_asked_by e) v.clients ≡ true)

  abbrev Asks : Exchange → State → Type 0
  Asks e s = Holds (Asked e) s

  pub asked_rows : (e : Exchange) → KeepsRows (Asked e)
  asked_rows e xs next v from h = h

  named_asked : (e : Exchange) (key : Key) (text : Bytes) (s : State) → Asks e s → Asks e (clear_named key text s)
  unfolding clear_named
  named_asked e key text s h = each_of (key_named key text) h (λ named. when (is_same_host named key) (clear-keeps (asked_rows e) (text_of named) s h) h)

  each_asked : (e : Exchange) (key : Key) (texts : List Bytes) (s : State) → Asks e s → Asks e (clear_each key texts s)
  unfolding clear_each
  each_asked e key [] s h = h
  each_asked e key (text ∷ texts) s h = each_asked e key texts _ (named_asked e key text s h)

  invalidated_asked : (e : Exchange) (head : Response) (s : State) → Asks e s → Asks e (invalidated e head s)
  unfolding invalidated
  invalidated_asked e head s h = when (invalidates e head) (each_asked e e.key (places_named head) _ (clear-keeps (asked_rows e) (key_of e) s h)) h

  disproved_asked : (e : Exchange) (head : Response) (s : State) → Asks e s → Asks e (disproved e head s)
  unfolding disproved
  disproved_asked e head s h = when (reads e && is_some_with (disproves head) (known_version s (key_of e))) (clear-keeps (asked_rows e) (key_of e) s h) h

  relayed_so : (e : Exchange) (s : State) → list_any (is_asked_by e) s.clients ≡ true → relayed e s ≡ Relaying
  relayed_so e s is = ap (λ t. elim t as (λ x. Body) [ true ↦ Relaying | false ↦ Dropping ]) is

  -- it is passed, and awaited
  firm_relayed : (x : Exchange) (body : Body) → ((m : ℕ) → T x.number m → body ≡ Relaying) → Firm T U x → Firm T U (record x { body = body })
  firm_relayed x body is h = record {
    its = h.its;
    through = h.through;
    asker = h.asker;
    awaited = λ m t. ap is_awaited (is m t);
    fresh = λ m t off. (let both : true ≡ false = sym (ap (λ (b : Body). not (is_pending b)) (is m t)) ∙ off in absurd (cc both));
  }

  used_passed : (e : Exchange) (s : State) → Asks e s → Keeps (use_body e (relayed e s) s)
  unfolding use_body on_exchange
  used_passed e s h = holds (record { firm = tame_firm (is_exchange e.number) (λ x. record x { body = relayed e s }) s.exchanges (λ x hit firm. firm_relayed x (relayed e s) (λ m t. relayed_so e s ((facts_of h).1 m (subst (λ n. T n m) (same_number x.number e.number hit) t))) firm) (facts_of h).0.firm; clients = (facts_of h).0.clients })

  relay_asked : (e : Exchange) (head : Response) (rule : BodyRule) (s : State) → Asks e s → Keeps (relay_head e head rule s)
  unfolding relay_head
  relay_asked e head rule s h = told e (Passes (passed_by e head rule)) _ (used_passed e s h)

  pub by_aim-strict : (e : Exchange) (head : Response) (rule : BodyRule) (s : State) → ((m : ℕ) → T e.number m → is_through e ≡ true) → Asks e s → Keeps (by_aim e head rule s)
  unfolding by_aim through_head
  by_aim-strict e head rule s passed h = by e.aim refl
    where
      h0 : Keeps s
      h0 = holds (facts_of h).0

      off : (a : Aim) → e.aim ≡ a → (elim a as (λ x. Bool) [ Through ↦ true | Own ↦ false | Filling v from to ↦ false ]) ≡ false → Uncounted T e
      off a at isnt m t = let both : true ≡ false = sym (passed m t) ∙ ap (λ (b : Aim). elim b as (λ x. Bool) [ Through ↦ true | Own ↦ false | Filling v from to ↦ false ]) at ∙ isnt in cc both

      by : (a : Aim) → e.aim ≡ a → Keeps (elim a as (λ c. State) [ Through ↦ relay_head e head rule (disproved e head (invalidated e head s)) | Own ↦ own_head e head rule s | Filling v from to ↦ filling_head e head rule s ])
      by Through at = relay_asked e head rule _ (disproved_asked e head _ (invalidated_asked e head s h))
      by Own at = own_head_so e head rule s (off Own at refl) h0
      by (Filling v from to) at = filling_head_so e head rule s (off (Filling v from to) at refl) h0
