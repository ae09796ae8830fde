-- Behind the head of a response nothing stands in the pipe of whoever it is passed to, where nothing was passed to it before.
use Rattle.std.proofs.Common.{◌≡◌, refl, sym, ap, ◌∙◌, ℕ, Bool, true, false, not, ◌==◌, ◌&&◌, subst, map, List, [], ◌∷◌, codes, Option, Some, None}
use Rattle.std.specs.List.{list_any}
use Rattle.pp_cache_law.proofs.Numbers.{some_is}
use Rattle.pp_flow_law.proofs.Entries.{none_some}
use Rattle.pp_framing.specs.declared.body.BodyRule.{BodyRule}
use Rattle.pp_head.specs.Response.{Response}
use Rattle.pp_law.specs.Connections.{attempts_of, charge, exchange, give_up_row, is_for, is_unfilled, lose_attempt, lost_one, on_client_of, on_exchange, without_row, without_shared_row}
use Rattle.pp_law.specs.Lists.{Bytes, is_some_with}
use Rattle.pp_law.specs.OwnHeads.{cleared_by, clears_row, count_elsewhere, drop_answer, filling_head, forbids_sharing, is_asked_by, is_bound, is_of_another, is_private_part, is_widened, key_of, known_version, lacks_next, may_join, may_refresh, names_version, not_modified, not_shared, nothing_to_come, other_head, other_part, own_head, part_head, relay_head, relayed, renew, renew_row, settle, settle_known, settle_on, settle_unchanged, span_to_come, tell, times_for, unchanged, use_body, useless, version_in}
use Rattle.pp_law.specs.Passing.{passed_by}
use Rattle.pp_law.specs.Responses.{bring_row, by_aim, is_readable}
use Rattle.pp_law.specs.Stages.{is_begun, passed_of}
use Rattle.pp_law.specs.State.{State, Aim, Body, Brought, TooWide, Useless, Joins, Joining, Dropping, Passes, Through, Own, Filling, Client, Exchange, Passed}
use Rattle.pp_law.specs.Table.{clear, enter, mark_row, on_instance, row}
use Rattle.pp_law.specs.ThroughHeads.{clear_each, clear_named, disproved, disproves, invalidated, invalidates, is_same_host, key_named, places_named, reads, through_head}
use Rattle.pp_laws.proofs.Lists.{From, in_map}
use Rattle.pp_laws.specs.Runs.{IsIn}
use Rattle.pp_laws_turn.proofs.Rows.{clear-keeps, enter-keeps, make_row-keeps}
use Rattle.pp_laws_turn.proofs.View.{Holds, KeepsRows, View, facts_of, holds}
use Rattle.pp_objects.specs.Kept.{kept_of}
use Rattle.pp_states_law.proofs.Paid.{without_row_keeps}
use Rattle.pp_target.specs.Key.{Key, text_of}
use Rattle.pp_text.specs.Fields.{has_field}
use Rattle.pp_valid.specs.declared.version.Version.{Version}
use Rattle.pp_comes_law.specs.Bare.{AreBare, HeadsLeaveThemBare, IsBare}

module _ (m : ℕ) where
  pub bare_as : (s t : State) → t.clients ≡ s.clients → AreBare m s → AreBare m t
  bare_as s t same all = record { bare = λ c i its. all.bare c (subst (λ (cs : List Client). IsIn c cs) same i) its }

  bare_when : (b : Bool) {x y : State} → AreBare m x → AreBare m y → AreBare m (elim b as (λ t. State) [ true ↦ x | false ↦ y ])
  bare_when true hx hy = hx
  bare_when false hx hy = hy

  bare_each : {A : Type 0} (o : Option A) {x : State} {y : A → State} → AreBare m x → ((a : A) → AreBare m (y a)) → AreBare m (elim o as (λ t. State) [ None ↦ x | Some a ↦ y a ])
  bare_each None hx hy = hx
  bare_each (Some a) hx hy = hy a

  -- ---- rows leave clients and exchanges as they are

  record AreThose (s : State) (v : View) : Type 0 where
    clients : v.clients ≡ s.clients

  those : (s : State) → Holds (AreThose s) s
  those s = holds (record { clients = refl })

  rows : (s : State) → KeepsRows (AreThose s)
  rows s xs next v from h = record { clients = h.clients }

  bare_those : (s t : State) → Holds (AreThose s) t → AreBare m s → AreBare m t
  bare_those s t h = bare_as s t (facts_of h).clients

  clear_bare : (key : Bytes) (s : State) → AreBare m s → AreBare m (clear key s)
  clear_bare key s = bare_those s (clear key s) (clear-keeps (rows s) key s (those s))

  pub brought_bare : (e : Exchange) (head : Response) (s : State) → AreBare m s → AreBare m (bring_row e head s)
  unfolding bring_row
  brought_bare e head s all = bare_when (is_readable e head) (bare_those s (enter (key_of e) true s) (enter-keeps (rows s) (key_of e) true s (those s)) all) all

  cleared_bare : (head : Response) (e : Exchange) (s : State) → AreBare m s → AreBare m (cleared_by head e s)
  unfolding cleared_by
  cleared_bare head e s all = bare_when (clears_row head) (clear_bare (key_of e) s all) all

  renewed_bare : (e : Exchange) (head : Response) (s : State) → AreBare m s → AreBare m (renew_row e head s)
  unfolding renew_row renew on_instance mark_row
  renewed_bare e head s all = bare_each (row s (key_of e)) all (λ x. bare_as s _ refl all)

  named_bare : (key : Key) (text : Bytes) (s : State) → AreBare m s → AreBare m (clear_named key text s)
  unfolding clear_named
  named_bare key text s all = bare_each (key_named key text) all (λ named. bare_when (is_same_host named key) (clear_bare (text_of named) s all) all)

  each_bare : (key : Key) (texts : List Bytes) (s : State) → AreBare m s → AreBare m (clear_each key texts s)
  unfolding clear_each
  each_bare key [] s all = all
  each_bare key (text ∷ texts) s all = each_bare key texts (clear_named key text s) (named_bare key text s all)

  invalidated_bare : (e : Exchange) (head : Response) (s : State) → AreBare m s → AreBare m (invalidated e head s)
  unfolding invalidated
  invalidated_bare e head s all = bare_when (invalidates e head) (each_bare e.key (places_named head) (clear (key_of e) s) (clear_bare (key_of e) s all)) all

  disproved_bare : (e : Exchange) (head : Response) (s : State) → AreBare m s → AreBare m (disproved e head s)
  unfolding disproved
  disproved_bare e head s all = bare_when (reads e && is_some_with (disproves head) (known_version s (key_of e))) (clear_bare (key_of e) s all) all

  -- ---- clients

  pipe_as : (c d : Client) → passed_of d ≡ passed_of c → IsBare c → IsBare d
  pipe_as c d same bare p is = bare p (sym same ∙ is)

  mapped_bare : (s : State) (f : Client → Client) (t : State) → t.clients ≡ map f s.clients → ((c : Client) → (f c).number ≡ c.number) → ((c : Client) → IsBare c → IsBare (f c)) → AreBare m s → AreBare m t
  mapped_bare s f t clients number bare all = record {
    bare = λ c i its. (
        let r : From f s.clients c = in_map f c s.clients (subst (λ (cs : List Client). IsIn c cs) clients i) in
        subst IsBare (sym r.is) (bare r.was (all.bare r.was r.there (sym (number r.was) ∙ sym (ap (λ (d : Client). d.number) r.is) ∙ its))));
  }

  number_if : (f : Client → Client) (c : Client) (b : Bool) → (f c).number ≡ c.number → (elim b as (λ t. Client) [ true ↦ f c | false ↦ c ]).number ≡ c.number
  number_if f c true same = same
  number_if f c false same = refl

  bare_if : (f : Client → Client) (c : Client) (b : Bool) → IsBare (f c) → IsBare c → IsBare (elim b as (λ t. Client) [ true ↦ f c | false ↦ c ])
  bare_if f c true new old = new
  bare_if f c false new old = old

  client_bare : (e : Exchange) (f : Client → Client) (s : State) → ((c : Client) → (f c).number ≡ c.number) → ((c : Client) → passed_of (f c) ≡ passed_of c) → AreBare m s → AreBare m (on_client_of e f s)
  unfolding on_client_of
  client_bare e f s number same =
      mapped_bare s (λ c. elim (is_for e c) as (λ t. Client) [ true ↦ f c | false ↦ c ]) (on_client_of e f s) refl (λ c. number_if f c (is_for e c) (number c)) (λ c old. bare_if f c (is_for e c) (pipe_as c (f c) (same c) old) old)

  tell_bare : (e : Exchange) (b : Brought) (s : State) → ((c : Client) → IsBare (record c { brought = b })) → AreBare m s → AreBare m (tell e b s)
  unfolding tell
  tell_bare e b s new =
      mapped_bare s (λ c. elim (is_asked_by e c) as (λ t. Client) [ true ↦ record c { brought = b } | false ↦ c ]) (tell e b s) refl (λ c. number_if (λ d. record d { brought = b }) c (is_asked_by e c) refl) (λ c old. bare_if (λ d. record d { brought = b }) c (is_asked_by e c) (new c) old)

  started_bare : (q p : Passed) → Some q ≡ Some p → q.pipe.bytes ≡ [] → p.pipe.bytes ≡ []
  started_bare q p is none = ap (λ (r : Passed). r.pipe.bytes) (sym (some_is q p is)) ∙ none

  shared_number : (most : ℕ) (c : Client) (b : Bool) → (elim b as (λ t. Client) [ true ↦ record c { course = lost_one most c.course } | false ↦ without_row c ]).number ≡ c.number
  shared_number most c true = refl
  shared_number most c false = without_row_keeps.number c

  shared_passed : (most : ℕ) (c : Client) (b : Bool) → passed_of (elim b as (λ t. Client) [ true ↦ record c { course = lost_one most c.course } | false ↦ without_row c ]) ≡ passed_of c
  shared_passed most c true = refl
  shared_passed most c false = without_row_keeps.passed c

  -- ---- exchanges

  body_bare : (e : Exchange) (body : Body) (s : State) → AreBare m s → AreBare m (use_body e body s)
  unfolding use_body on_exchange
  body_bare e body s all = bare_as s (use_body e body s) refl all

  given_up_bare : (e : Exchange) (s : State) → AreBare m s → AreBare m (give_up_row e s)
  unfolding give_up_row on_exchange
  given_up_bare e s all =
      bare_when (is_unfilled s e)
      (bare_as (on_client_of e without_row (clear (text_of e.key) s)) _ refl (client_bare e without_row (clear (text_of e.key) s) (λ c. without_row_keeps.number c) (λ c. without_row_keeps.passed c) (clear_bare (text_of e.key) s all)))
      all

  attempt_bare : (e : Exchange) (s : State) → AreBare m s → AreBare m (lose_attempt e s)
  unfolding lose_attempt charge
  attempt_bare e s all =
      given_up_bare e _
      (client_bare e (λ c. record c { course = lost_one (attempts_of e) c.course }) s
      (λ c. refl) (λ c. refl) all)

  -- ---- heads

  module _ (e : Exchange) where
    drop_bare : (s : State) → AreBare m s → AreBare m (drop_answer e s)
    unfolding drop_answer
    drop_bare s all = tell_bare e Useless (use_body e Dropping s) (λ c p is. absurd (none_some p is)) (body_bare e Dropping s all)

    useless_bare : (s : State) → AreBare m s → AreBare m (useless e s)
    unfolding useless
    useless_bare s all = attempt_bare e (drop_answer e s) (drop_bare s all)

    unshared_bare : (s : State) → AreBare m s → AreBare m (not_shared e s)
    unfolding not_shared
    unshared_bare s all = client_bare e (without_shared_row (attempts_of e)) (drop_answer e (clear (key_of e) s)) (λ c. shared_number (attempts_of e) c (c.has_given_up && not (is_begun c))) (λ c. shared_passed (attempts_of e) c (c.has_given_up && not (is_begun c))) (drop_bare (clear (key_of e) s) (clear_bare (key_of e) s all))

    settled_bare : (head : Response) (v : Version) (s : State) → AreBare m s → AreBare m (settle_on e head v s)
    unfolding settle_on
    settled_bare head v s all =
        bare_each (row s (key_of e)) all
        (λ x. tell_bare e (Joins x.id (not (has_field (codes "age") head.fields))) (use_body e (Joining (span_to_come e head v x.id)) s) (λ c p is. absurd (none_some p is)) (body_bare e (Joining (span_to_come e head v x.id)) s all))

    known_bare : (head : Response) (v : Version) (s : State) → AreBare m s → AreBare m (settle_known e head v s)
    unfolding settle_known
    known_bare head v s all = bare_when (may_refresh e head s) (settled_bare head v (renew_row e head s) (renewed_bare e head s all)) (useless_bare s all)

    settle_bare : (head : Response) (v : Version) (s : State) → AreBare m s → AreBare m (settle e head v s)
    unfolding settle
    settle_bare head v s all =
        bare_when (is_some_with (may_join e head v) (known_version s (key_of e)))
        (known_bare head v s all)
        (settled_bare head v _ (bare_those s _ (make_row-keeps (rows s) (key_of e) v (kept_of head.fields (times_for e head s)) (times_for e head s) s (those s)) all))

    unchanged_bare : (head : Response) (s : State) → AreBare m s → AreBare m (unchanged e head s)
    unfolding unchanged settle_unchanged
    unchanged_bare head s all =
        let renewed : AreBare m (renew_row e head s) = renewed_bare e head s all in
        bare_when (is_some_with (names_version e) (known_version s (key_of e)) && may_refresh e head s)
        (bare_each (row (renew_row e head s) (key_of e)) renewed
        (λ x. tell_bare e (Joins x.id false) (use_body e (Joining (nothing_to_come x)) (renew_row e head s)) (λ c p is. absurd (none_some p is)) (body_bare e (Joining (nothing_to_come x)) (renew_row e head s) renewed)))
        (useless_bare s all)

    not_modified_bare : (head : Response) (s : State) → AreBare m s → AreBare m (not_modified e head s)
    unfolding not_modified
    not_modified_bare head s all =
        bare_when (forbids_sharing head) (unshared_bare s all)
        (bare_when (is_of_another head s (key_of e)) (useless_bare (clear (key_of e) s) (clear_bare (key_of e) s all)) (unchanged_bare head s all))

    relays_bare : (head : Response) (rule : BodyRule) (s : State) → AreBare m s → AreBare m (relay_head e head rule s)
    unfolding relay_head
    relays_bare head rule s all = tell_bare e (Passes (passed_by e head rule)) (use_body e (relayed e s) s) (λ c p is. started_bare (passed_by e head rule) p is refl) (body_bare e (relayed e s) s all)

    others_bare : (head : Response) (rule : BodyRule) (s : State) → AreBare m s → AreBare m (other_head e head rule s)
    unfolding other_head
    others_bare head rule s all =
        let cleared : AreBare m (cleared_by head e s) = cleared_bare head e s all in
        bare_when (is_widened e head) (tell_bare e TooWide (use_body e Dropping (cleared_by head e s)) (λ c p is. absurd (none_some p is)) (body_bare e Dropping (cleared_by head e s) cleared)) (relays_bare head rule (cleared_by head e s) cleared)

    part_bare : (head : Response) (rule : BodyRule) (s : State) → AreBare m s → AreBare m (other_part e head rule s)
    unfolding other_part
    part_bare head rule s all = bare_when (is_private_part head) (unshared_bare s all) (bare_when (clears_row head) (relays_bare head rule (cleared_by head e s) (cleared_bare head e s all)) (useless_bare s all))

    owns_bare : (head : Response) (rule : BodyRule) (s : State) → AreBare m s → AreBare m (own_head e head rule s)
    unfolding own_head
    owns_bare head rule s all = bare_each (version_in e head) (bare_when (head.status == 304) (not_modified_bare head s all) (others_bare head rule s all)) (λ v. settle_bare head v s all)

    fills_bare : (head : Response) (rule : BodyRule) (s : State) → AreBare m s → AreBare m (part_head e head rule s)
    unfolding part_head
    fills_bare head rule s all = bare_each (version_in e head) (bare_when (head.status == 304) (not_modified_bare head s all) (part_bare head rule s all)) (λ v. settle_bare head v s all)

    counted_bare : (s : State) → AreBare m s → AreBare m (count_elsewhere e s)
    unfolding count_elsewhere
    counted_bare s all = bare_when (is_some_with is_bound (exchange s e.number) && list_any (λ c. is_for e c && lacks_next s c) s.clients) (attempt_bare e s all) all

    throughs_bare : (head : Response) (rule : BodyRule) (s : State) → AreBare m s → AreBare m (through_head e head rule s)
    unfolding through_head
    throughs_bare head rule s all = relays_bare head rule (disproved e head (invalidated e head s)) (disproved_bare e head (invalidated e head s) (invalidated_bare e head s all))

    pub by_aim_bare : (head : Response) (rule : BodyRule) (s : State) → AreBare m s → AreBare m (by_aim e head rule s)
    unfolding by_aim filling_head
    by_aim_bare head rule s all = by e.aim
      where
        by : (aim : Aim) → AreBare m (elim aim as (λ t. State) [ Through ↦ through_head e head rule s | Own ↦ own_head e head rule s | Filling v from to ↦ filling_head e head rule s ])
        by Through = throughs_bare head rule s all
        by Own = owns_bare head rule s all
        by (Filling v from to) = counted_bare (part_head e head rule s) (fills_bare head rule s all)

pub heads_bare : HeadsLeaveThemBare
heads_bare m e head rule s all = by_aim_bare m e head rule s all
