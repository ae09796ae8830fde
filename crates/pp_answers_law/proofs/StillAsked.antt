-- Where what comes to the ask of a follower belongs to a row, its exchange is as it was but for where the body goes, and its client but for what it
-- was told; and else it belongs to none. Of the law alone.
use Rattle.std.proofs.Common.{◌≡◌, ◌⊎◌, inl, inr, refl, sym, ap, ◌∙◌, ℕ, Bool, true, false, not, ◌==◌, ◌&&◌, codes, cond, find, map, is_some, nat_lt, List, [], ◌∷◌, Some, None, Option}
use Rattle.std.specs.List.{list_any}
use Rattle.std.specs.Prelude.{option_map}
use Rattle.pp_cache_law.proofs.Finds.{find_mapped}
use Rattle.pp_cache_law.proofs.Numbers.{some_is}
use Rattle.pp_flow_law.proofs.Entries.{none_some}
use Rattle.pp_framing.specs.declared.body.BodyRule.{BodyRule}
use Rattle.pp_fresh.specs.declared.aging.Times.{Times}
use Rattle.pp_head.specs.Response.{Response}
use Rattle.pp_law.specs.Connections.{attempts_of, exchange, is_client, is_exchange, is_for, lose_attempt, on_client_of, without_shared_row}
use Rattle.pp_law.specs.Lists.{Bytes, is_some_with}
use Rattle.pp_law.specs.OwnHeads.{cleared_by, clears_row, drop_answer, forbids_sharing, is_asked_by, is_bound, is_of_another, is_private_part, key_of, known_version, may_join, may_refresh, names_version, not_modified, not_shared, nothing_to_come, other_part, part_head, relay_head, relayed, renew, renew_row, settle, settle_known, settle_on, settle_unchanged, span_to_come, tell, times_for, unchanged, use_body, useless, version_in}
use Rattle.pp_law.specs.Passing.{passed_by}
use Rattle.pp_law.specs.Stages.{bound_in, is_begun}
use Rattle.pp_law.specs.State.{State, Body, Brought, Client, Dropping, Exchange, Instance, Joining, Joins, Passes, Relaying, Useless}
use Rattle.pp_law.specs.Table.{add_row, clear, forget, forget_row, idle_row, make_row, mark_row, on_instance, row, rows, swept, with_room}
use Rattle.pp_objects.specs.Kept.{kept_of}
use Rattle.pp_text.specs.Fields.{Field, has_field}
use Rattle.pp_valid.specs.declared.version.Version.{Version}
use Rattle.pp_answers_law.proofs.Orders.{told_both_is, told_client, told_client_if}
use Rattle.pp_answers_law.proofs.Useless.{order_is, unshared_is}

-- ---- rows change, and neither clients nor exchanges

pub record IsSame (s t : State) : Type 0 where
  pub clients : t.clients ≡ s.clients
  pub exchanges : t.exchanges ≡ s.exchanges

same_itself : (s : State) → IsSame s s
same_itself s = record { clients = refl; exchanges = refl }

same_then : (s t u : State) → IsSame s t → IsSame t u → IsSame s u
same_then s t u one two = record { clients = two.clients ∙ one.clients; exchanges = two.exchanges ∙ one.exchanges }

renewed_same : (e : Exchange) (head : Response) (s : State) → IsSame s (renew_row e head s)
unfolding renew_row renew mark_row on_instance
renewed_same e head s = by (row s (key_of e))
  where
    by : (o : Option Instance) → IsSame s (elim o as (λ t. State) [ None ↦ s | Some x ↦ renew x head (times_for e head s) s ])
    by None = record { clients = refl; exchanges = refl }
    by (Some x) = record { clients = refl; exchanges = refl }

cleared_same : (key : Bytes) (s : State) → IsSame s (clear key s)
unfolding clear swept
cleared_same key s = record { clients = refl; exchanges = refl }

roomed_same : (s : State) → IsSame s (with_room s)
unfolding with_room forget_row forget
roomed_same s = by (nat_lt (rows s) 1024) (idle_row s)
  where
    by : (b : Bool) (o : Option Instance) → IsSame s (elim b as (λ t. State) [ true ↦ s | false ↦ elim o as (λ t. State) [ None ↦ s | Some x ↦ forget_row x s ] ])
    by true o = record { clients = refl; exchanges = refl }
    by false None = record { clients = refl; exchanges = refl }
    by false (Some x) = record { clients = refl; exchanges = refl }

added_same : (key : Bytes) (v : Version) (fields : List Field) (times : Times) (b : Bool) (s : State) → IsSame s (add_row key v fields times b s)
unfolding add_row
added_same key v fields times b s = record { clients = refl; exchanges = refl }

made_same : (key : Bytes) (v : Version) (fields : List Field) (times : Times) (s : State) → IsSame s (make_row key v fields times s)
unfolding make_row
made_same key v fields times s =
    same_then s (clear key s) (add_row key v fields times true (with_room (clear key s))) (cleared_same key s)
    (same_then (clear key s) (with_room (clear key s)) (add_row key v fields times true (with_room (clear key s))) (roomed_same (clear key s)) (added_same key v fields times true (with_room (clear key s))))

-- ---- what becomes of a body, and what is told of it

abbrev with_body : Body → Exchange → Exchange
with_body body x = record x { body = body }

body_there : (n : ℕ) (body : Body) (es : List Exchange) → find (is_exchange n) (map (λ x. elim (is_exchange n x) as (λ t. Exchange) [ true ↦ with_body body x | false ↦ x ]) es) ≡ option_map (with_body body) (find (is_exchange n) es)
body_there n body [] = refl
body_there n body (x ∷ es) = by (is_exchange n x) refl (body_there n body es)
  where
    rest : Option Exchange
    rest = find (is_exchange n) (map (λ y. elim (is_exchange n y) as (λ t. Exchange) [ true ↦ with_body body y | false ↦ y ]) es)

    by : (b : Bool) → is_exchange n x ≡ b → rest ≡ option_map (with_body body) (find (is_exchange n) es)
        → cond (is_exchange n (elim b as (λ t. Exchange) [ true ↦ with_body body x | false ↦ x ])) (Some (elim b as (λ t. Exchange) [ true ↦ with_body body x | false ↦ x ])) rest ≡ option_map (with_body body) (cond b (Some x) (find (is_exchange n) es))
    by true is others = ap (λ (t : Bool). cond t (Some (with_body body x)) rest) is
    by false is others = ap (λ (t : Bool). cond t (Some x) rest) is ∙ others

noted_exchange : (e : Exchange) (d : Brought) (body : Body) (s : State) → exchange (tell e d (use_body e body s)) e.number ≡ option_map (with_body body) (exchange s e.number)
noted_exchange e d body s = ap (λ (t : State). exchange t e.number) (told_both_is e d body s) ∙ body_there e.number body s.exchanges

unbound : (e : Exchange) (d : Brought) (body : Body) (s : State) → bound_in body ≡ None → is_some_with is_bound (exchange (tell e d (use_body e body s)) e.number) ≡ false
unbound e d body s none = ap (λ (o : Option Exchange). is_some_with is_bound o) (noted_exchange e d body s) ∙ by (exchange s e.number)
  where
    by : (o : Option Exchange) → is_some_with is_bound (option_map (with_body body) o) ≡ false
    by None = refl
    by (Some x) = ap (λ b. is_some b) none

-- ---- as it was

-- but for what it was told
pub record WasTold (s : State) (m : ℕ) (c : Client) : Type 0 where
  pub was : Client
  pub there : find (is_client m) s.clients ≡ Some was
  pub brought : Brought
  pub is : c ≡ record was { brought = brought }

pub record AsksStill (s t : State) (e : Exchange) : Type 0 where
  pub body : Body
  pub there : exchange t e.number ≡ Some (with_body body e)
  pub told : (m : ℕ) (c : Client) → find (is_client m) t.clients ≡ Some c → WasTold s m c

abbrev pub MayAskStill : State → State → Exchange → Type 0
MayAskStill s t e = AsksStill s t e ⊎ (is_some_with is_bound (exchange t e.number) ≡ false)

abbrev if_told : Exchange → Brought → Client → Client
if_told e d c = elim (is_for e c) as (λ t. Client) [ true ↦ told_client d c | false ↦ c ]

told_as : (e : Exchange) (d : Brought) (c : Client) → (brought : Brought) × (if_told e d c ≡ record c { brought = brought })
told_as e d c = by (is_for e c) (is_begun c)
  where
    by : (a b : Bool) → (brought : Brought) × ((elim a as (λ t. Client) [ true ↦ told_client_if d c b | false ↦ c ]) ≡ record c { brought = brought })
    by true true = (c.brought, refl)
    by true false = (d, refl)
    by false b = (c.brought, refl)

told_found : (e : Exchange) (d : Brought) (body : Body) (s t : State) (m : ℕ) (c : Client) → IsSame s t → find (is_client m) (tell e d (use_body e body t)).clients ≡ Some c → WasTold s m c
told_found e d body s t m c same found =
    by (find (is_client m) t.clients) refl
    (sym (find_mapped (is_client m) (if_told e d) t.clients (λ x. ap (λ (i : ℕ). i == m) (number x)))
    ∙ ap (λ (u : State). find (is_client m) u.clients) (sym (told_both_is e d body t)) ∙ found)
  where
    number : (x : Client) → (if_told e d x).number ≡ x.number
    number x = ap (λ (y : Client). y.number) (told_as e d x).1

    by : (o : Option Client) → find (is_client m) t.clients ≡ o → option_map (if_told e d) o ≡ Some c → WasTold s m c
    by None is none = absurd (none_some c none)
    by (Some x) is some = record {
      was = x;
      there = ap (λ (cs : List Client). find (is_client m) cs) (sym same.clients) ∙ is;
      brought = (told_as e d x).0;
      is = sym (some_is (if_told e d x) c some) ∙ (told_as e d x).1;
    }

joined : (e : Exchange) (d : Brought) (body : Body) (s t : State) → exchange s e.number ≡ Some e → IsSame s t → AsksStill s (tell e d (use_body e body t)) e
joined e d body s t known same = record {
  body = body;
  there = noted_exchange e d body t ∙ ap (λ (es : List Exchange). option_map (with_body body) (find (is_exchange e.number) es)) same.exchanges ∙ ap (λ (o : Option Exchange). option_map (with_body body) o) known;
  told = λ m c found. told_found e d body s t m c same found;
}

stays_as : (e : Exchange) (s t : State) → exchange s e.number ≡ Some e → IsSame s t → AsksStill s t e
stays_as e s t known same = record {
  body = e.body;
  there = ap (λ (es : List Exchange). find (is_exchange e.number) es) same.exchanges ∙ known;
  told = λ m c found. record { was = c; there = ap (λ (cs : List Client). find (is_client m) cs) (sym same.clients) ∙ found; brought = c.brought; is = refl };
}

-- ---- each head

dropped_unbound : (e : Exchange) (s : State) → is_some_with is_bound (exchange (drop_answer e s) e.number) ≡ false
unfolding drop_answer
dropped_unbound e s = unbound e Useless Dropping s refl

useless_unbound : (e : Exchange) (s : State) → is_some_with is_bound (exchange (useless e s) e.number) ≡ false
useless_unbound e s = ap (λ (t : State). is_some_with is_bound (exchange t e.number)) (order_is e s) ∙ dropped_unbound e (lose_attempt e s)

unshared_unbound : (e : Exchange) (s : State) → is_some_with is_bound (exchange (not_shared e s) e.number) ≡ false
unshared_unbound e s = ap (λ (t : State). is_some_with is_bound (exchange t e.number)) (unshared_is e s) ∙ dropped_unbound e (on_client_of e (without_shared_row (attempts_of e)) (clear (key_of e) s))

relayed_unbound : (e : Exchange) (head : Response) (rule : BodyRule) (s : State) → is_some_with is_bound (exchange (relay_head e head rule s) e.number) ≡ false
unfolding relay_head
relayed_unbound e head rule s = unbound e (Passes (passed_by e head rule)) (relayed e s) s (by (list_any (is_asked_by e) s.clients))
  where
    by : (b : Bool) → bound_in (elim b as (λ t. Body) [ true ↦ Relaying | false ↦ Dropping ]) ≡ None
    by true = refl
    by false = refl

module _ (e : Exchange) (head : Response) (rule : BodyRule) (s : State) (known : exchange s e.number ≡ Some e) where
  settles_on : (v : Version) (t : State) → IsSame s t → AsksStill s (settle_on e head v t) e
  unfolding settle_on
  settles_on v t same = by (row t (key_of e))
    where
      by : (o : Option Instance)
          → AsksStill s (elim o as (λ u. State) [ None ↦ t | Some x ↦ tell e (Joins x.id (not (has_field (codes "age") head.fields))) (use_body e (Joining (span_to_come e head v x.id)) t) ]) e
      by None = stays_as e s t known same
      by (Some x) = joined e (Joins x.id (not (has_field (codes "age") head.fields))) (Joining (span_to_come e head v x.id)) s t known same

  settles_known : (v : Version) → MayAskStill s (settle_known e head v s) e
  unfolding settle_known
  settles_known v = by (may_refresh e head s)
    where
      by : (b : Bool) → MayAskStill s (elim b as (λ u. State) [ true ↦ settle_on e head v (renew_row e head s) | false ↦ useless e s ]) e
      by true = inl (settles_on v (renew_row e head s) (renewed_same e head s))
      by false = inr (useless_unbound e s)

  settles : (v : Version) → MayAskStill s (settle e head v s) e
  unfolding settle
  settles v = by (is_some_with (may_join e head v) (known_version s (key_of e)))
    where
      made : State
      made = make_row (key_of e) v (kept_of head.fields (times_for e head s)) (times_for e head s) s

      by : (b : Bool) → MayAskStill s (elim b as (λ u. State) [ true ↦ settle_known e head v s | false ↦ settle_on e head v made ]) e
      by true = settles_known v
      by false = inl (settles_on v made (made_same (key_of e) v (kept_of head.fields (times_for e head s)) (times_for e head s) s))

  settles_unchanged : (t : State) → IsSame s t → AsksStill s (settle_unchanged e t) e
  unfolding settle_unchanged
  settles_unchanged t same = by (row t (key_of e))
    where
      by : (o : Option Instance) → AsksStill s (elim o as (λ u. State) [ None ↦ t | Some x ↦ tell e (Joins x.id false) (use_body e (Joining (nothing_to_come x)) t) ]) e
      by None = stays_as e s t known same
      by (Some x) = joined e (Joins x.id false) (Joining (nothing_to_come x)) s t known same

  unchanged_still : MayAskStill s (unchanged e head s) e
  unfolding unchanged
  unchanged_still = by (is_some_with (names_version e) (known_version s (key_of e)) && may_refresh e head s)
    where
      by : (b : Bool) → MayAskStill s (elim b as (λ u. State) [ true ↦ settle_unchanged e (renew_row e head s) | false ↦ useless e s ]) e
      by true = inl (settles_unchanged (renew_row e head s) (renewed_same e head s))
      by false = inr (useless_unbound e s)

  not_modified_still : MayAskStill s (not_modified e head s) e
  unfolding not_modified
  not_modified_still = by (forbids_sharing head) (is_of_another head s (key_of e))
    where
      by : (a b : Bool) → MayAskStill s (elim a as (λ u. State) [ true ↦ not_shared e s | false ↦ elim b as (λ u. State) [ true ↦ useless e (clear (key_of e) s) | false ↦ unchanged e head s ] ]) e
      by true b = inr (unshared_unbound e s)
      by false true = inr (useless_unbound e (clear (key_of e) s))
      by false false = unchanged_still

  other_still : MayAskStill s (other_part e head rule s) e
  unfolding other_part
  other_still = by (is_private_part head) (clears_row head)
    where
      by : (a b : Bool) → MayAskStill s (elim a as (λ u. State) [ true ↦ not_shared e s | false ↦ elim b as (λ u. State) [ true ↦ relay_head e head rule (cleared_by head e s) | false ↦ useless e s ] ]) e
      by true b = inr (unshared_unbound e s)
      by false true = inr (relayed_unbound e head rule (cleared_by head e s))
      by false false = inr (useless_unbound e s)

  pub part_still : MayAskStill s (part_head e head rule s) e
  unfolding part_head
  part_still = by (version_in e head) (head.status == 304)
    where
      by : (o : Option Version) (b : Bool) → MayAskStill s (elim o as (λ u. State) [ Some v ↦ settle e head v s | None ↦ elim b as (λ u. State) [ true ↦ not_modified e head s | false ↦ other_part e head rule s ] ]) e
      by (Some v) b = settles v
      by None true = not_modified_still
      by None false = other_still
