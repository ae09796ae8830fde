-- What the head of a response leaves of rows, in the order of their use, and of those that left memory: few come to the end of the order, and of all
-- that stand before these none was forgotten in this turn.
use Rattle.std.proofs.Common.{◌≡◌, ◌≤◌, refl, sym, subst, ap, ap₂, ◌∙◌, ℕ, ◌+◌, Bool, true, false, not, ◌==◌, ◌&&◌, ◌||◌, filter, length, map, List, [], ◌∷◌, ◌++◌, Option, Some, None, bytes_eq, nat_lt, le_trans, append_assoc, length-append, arith}
use Rattle.std.proofs.lemmas.List.Elements.{filter-append}
use Rattle.std.proofs.lemmas.List.Folds.{list_any-append}
use Rattle.std.proofs.lemmas.List.Sums.{length-filter as counts-as}
use Rattle.std.proofs.lemmas.List.{map-append}
use Rattle.std.proofs.lemmas.Slice.Eq.{bytes_eq-Decides}
use Rattle.std.specs.List.{list_any}
use Rattle.pp_cache.specs.Notes.{has_noted}
use Rattle.pp_framing.specs.declared.body.BodyRule.{BodyRule}
use Rattle.pp_fresh.specs.declared.aging.Times.{Times}
use Rattle.pp_head.specs.Response.{Response}
use Rattle.pp_law.specs.Connections.{charge, exchange, fail, give_up_row, is_for, is_unfilled, lose_attempt, on_client_of, on_exchange}
use Rattle.pp_law.specs.Lists.{Bytes, change, is_some_with}
use Rattle.pp_law.specs.OwnHeads.{cleared_by, clears_row, count_elsewhere, drop_answer, filling_head, forbids_sharing, is_bound, is_of_another, is_private_part, is_widened, key_of, known_version, lacks_next, may_join, may_refresh, names_version, not_modified, not_shared, nothing_to_come, other_head, other_part, own_head, part_head, relay_head, relayed, renew, renew_row, renewed, settle, settle_known, settle_on, settle_unchanged, span_to_come, tell, times_for, unchanged, use_body, useless, version_in}
use Rattle.pp_law.specs.Passing.{passed_by}
use Rattle.pp_law.specs.Responses.{bring_row, by_aim, is_readable}
use Rattle.pp_law.specs.State.{State, Aim, Body, Brought, TooWide, Useless, Joining, Dropping, Passes, Through, Own, Filling, Conn, Exchange, Instance}
use Rattle.pp_law.specs.Table.{add_row, clear, enter, forget, forget_row, idle_row, is_followed, is_bound_to, is_idle_row, is_instance, is_left_over, is_row_of, make_row, mark_row, on_instance, row, row_on_disk, rows, swept, with_room}
use Rattle.pp_law.specs.ThroughHeads.{clear_each, clear_named, disproved, disproves, invalidated, invalidates, is_same_host, key_named, places_named, reads, through_head}
use Rattle.pp_cache_law.proofs.Numbers.{same_test}
use Rattle.pp_laws.proofs.Lists.{Changed, changed_at, differ_change, differ_filter, in_change, in_filter, in_find, in_front, in_map, other, same}
use Rattle.pp_laws.proofs.Sound.{instance_id}
use Rattle.pp_laws_bounds.proofs.Counts.{length-filter, length-map, length-push}
use Rattle.pp_laws_turn.proofs.Counts.{count_number}
use Rattle.pp_objects.specs.Kept.{kept_of}
use Rattle.pp_target.specs.Key.{Key, text_of}
use Rattle.pp_text.specs.Fields.{Field}
use Rattle.pp_laws.specs.Numbers.{AreDistinct}
use Rattle.pp_laws.specs.Runs.{IsIn}
use Rattle.pp_valid.specs.declared.version.Version.{Version}

-- own many rows came to the end of the order at most, and own many were forgotten; of the others none that stands was
pub record Few (last names : ℕ) (conns : List Conn) (s : State) : Type 0 where
  pub same : s.conns ≡ conns
  pub before : List Instance
  pub behind : List Instance
  pub is : s.instances ≡ before ++ behind
  pub few : length behind ≤ last
  pub noted : length s.forgotten ≤ names
  pub unnoted : (x : Instance) → IsIn x before → x.is_retired ≡ false → has_noted x.key s.forgotten ≡ false

-- each has a number of its own, and a key one row at most
pub record AreOwn (instances : List Instance) : Type 0 where
  pub differ : AreDistinct (map instance_id instances)
  pub keys : (key : Bytes) (x y : Instance) → IsIn x instances → IsIn y instances → is_row_of key x ≡ true → is_row_of key y ≡ true → x.id ≡ y.id

own_cleared : (key : Bytes) (s : State) → AreOwn s.instances → AreOwn (clear key s).instances
unfolding clear swept
own_cleared key s own =
    let retired : State = record s { instances = change (is_row_of key) (λ x. record x { is_retired = true }) s.instances } in
    record {
      differ = differ_filter instance_id (λ x. not (is_left_over retired x)) retired.instances (differ_change instance_id (is_row_of key) (λ x. record x { is_retired = true }) (λ x. refl) s.instances own.differ);
      keys = λ k x y i j its_x its_y.
          own.keys k x y (was k x (in_filter (λ z. not (is_left_over retired z)) x retired.instances i).0 its_x) (was k y (in_filter (λ z. not (is_left_over retired z)) y retired.instances j).0 its_y) its_x its_y;
    }
  where
    out_row : (z : Instance) (k : Bytes) → z.is_retired ≡ true → is_row_of k z ≡ true → ⊥
    out_row z k out its = let both : false ≡ true = sym (ap (λ (b : Bool). not b && bytes_eq z.key k) out) ∙ its in cc both

    was : (k : Bytes) (z : Instance) → IsIn z (change (is_row_of key) (λ x. record x { is_retired = true }) s.instances) → is_row_of k z ≡ true → IsIn z s.instances
    was k z i its = by (in_change (is_row_of key) (λ x. record x { is_retired = true }) z s.instances i)
      where
        by : Changed (is_row_of key) (λ x. record x { is_retired = true }) s.instances z → IsIn z s.instances
        by (same j isnt) = j
        by (other x j hit eq) = absurd (out_row z k (ap (λ (y : Instance). y.is_retired) eq) its)

-- ---- rows

module _ {l m : ℕ} {cs : List Conn} where
  pub few_as : (s t : State) → t.conns ≡ s.conns → t.instances ≡ s.instances → t.forgotten ≡ s.forgotten → Few l m cs s → Few l m cs t
  few_as s t conns instances forgotten f = record {
    same = conns ∙ f.same;
    before = f.before;
    behind = f.behind;
    is = instances ∙ f.is;
    few = f.few;
    noted = subst (λ (keys : List Bytes). length keys ≤ m) (sym forgotten) f.noted;
    unnoted = λ x i on. ap (λ (keys : List Bytes). has_noted x.key keys) forgotten ∙ f.unnoted x i on;
  }

  pub few_up : (s : State) → Few l m cs s → Few (l + 1) (m + 1) cs s
  few_up s f = record { same = f.same; before = f.before; behind = f.behind; is = f.is; few = omega (arith, f.few); noted = omega (arith, f.noted); unnoted = f.unnoted }

  names_up : (s : State) → Few l m cs s → Few l (m + 1) cs s
  names_up s f = record { same = f.same; before = f.before; behind = f.behind; is = f.is; few = f.few; noted = omega (arith, f.noted); unnoted = f.unnoted }

  few_mapped : (s t : State) (g : Instance → Instance) → ((x : Instance) → (g x).key ≡ x.key) → ((x : Instance) → (g x).is_retired ≡ false → x.is_retired ≡ false) → t.conns ≡ s.conns → t.instances ≡ map g s.instances → t.forgotten ≡ s.forgotten → Few l m cs s → Few l m cs t
  few_mapped s t g key on conns instances forgotten f = record {
    same = conns ∙ f.same;
    before = map g f.before;
    behind = map g f.behind;
    is = instances ∙ ap (λ (xs : List Instance). map g xs) f.is ∙ map-append g f.before f.behind;
    few = subst (λ (i : ℕ). i ≤ l) (sym (length-map g f.behind)) f.few;
    noted = subst (λ (keys : List Bytes). length keys ≤ m) (sym forgotten) f.noted;
    unnoted = λ x i stands.
        let r = in_map g x f.before i in
        ap₂ (λ (k : Bytes) (keys : List Bytes). has_noted k keys) (ap (λ (y : Instance). y.key) r.is ∙ key r.was) forgotten
        ∙ f.unnoted r.was r.there (on r.was (ap (λ (y : Instance). y.is_retired) (sym r.is) ∙ stands));
  }

  few_filtered : (s t : State) (p : Instance → Bool) → t.conns ≡ s.conns → t.instances ≡ filter p s.instances → t.forgotten ≡ s.forgotten → Few l m cs s → Few l m cs t
  few_filtered s t p conns instances forgotten f = record {
    same = conns ∙ f.same;
    before = filter p f.before;
    behind = filter p f.behind;
    is = instances ∙ ap (λ (xs : List Instance). filter p xs) f.is ∙ filter-append p f.before f.behind;
    few = le_trans (length-filter p f.behind) f.few;
    noted = subst (λ (keys : List Bytes). length keys ≤ m) (sym forgotten) f.noted;
    unnoted = λ x i stands. ap (λ (keys : List Bytes). has_noted x.key keys) forgotten ∙ f.unnoted x (in_filter p x f.before i).0 stands;
  }

  few_pushed : (s t : State) (x : Instance) → t.conns ≡ s.conns → t.instances ≡ s.instances ++ x ∷ [] → t.forgotten ≡ s.forgotten → Few l m cs s → Few (l + 1) m cs t
  few_pushed s t x conns instances forgotten f = record {
    same = conns ∙ f.same;
    before = f.before;
    behind = f.behind ++ x ∷ [];
    is = instances ∙ ap (λ (xs : List Instance). xs ++ x ∷ []) f.is ∙ append_assoc f.before f.behind (x ∷ []);
    few = omega (arith, length-push f.behind x, f.few);
    noted = subst (λ (keys : List Bytes). length keys ≤ m) (sym forgotten) f.noted;
    unnoted = λ y i on. ap (λ (keys : List Bytes). has_noted y.key keys) forgotten ∙ f.unnoted y i on;
  }

  -- one goes to the end
  few_moved : (s t : State) (id : ℕ) → AreDistinct (map instance_id s.instances) → t.conns ≡ s.conns → t.instances ≡ filter (λ x. not (is_instance id x)) s.instances ++ filter (is_instance id) s.instances → t.forgotten ≡ s.forgotten → Few l m cs s → Few (l + 1) m cs t
  few_moved s t id differ conns instances forgotten f = record {
    same = conns ∙ f.same;
    before = filter others f.before;
    behind = filter others f.behind ++ filter (is_instance id) s.instances;
    is =
        instances
        ∙ ap (λ (xs : List Instance). xs ++ filter (is_instance id) s.instances) (ap (λ (xs : List Instance). filter others xs) f.is ∙ filter-append others f.before f.behind)
        ∙ append_assoc (filter others f.before) (filter others f.behind) (filter (is_instance id) s.instances);
    few = omega (arith, length-append (filter others f.behind) (filter (is_instance id) s.instances), length-filter others f.behind, f.few, one);
    noted = subst (λ (keys : List Bytes). length keys ≤ m) (sym forgotten) f.noted;
    unnoted = λ y i on. ap (λ (keys : List Bytes). has_noted y.key keys) forgotten ∙ f.unnoted y (in_filter others y f.before i).0 on;
  }
    where
      others : Instance → Bool
      others x = not (is_instance id x)

      one : length (filter (is_instance id) s.instances) ≤ 1
      one = subst (λ (i : ℕ). i ≤ 1) (sym (counts-as (is_instance id) s.instances)) (count_number instance_id id s.instances differ)

  -- the first that is idle is forgotten: it is the row of its key
  few_forgotten : (s : State) (x : Instance) → AreOwn s.instances → idle_row s ≡ Some x → Few l m cs s → Few l (m + 1) cs (forget_row x s)
  unfolding forget_row forget
  few_forgotten s x own idle f = record {
    same = f.same;
    before = filter others f.before;
    behind = filter others f.behind;
    is = ap (λ (xs : List Instance). filter others xs) f.is ∙ filter-append others f.before f.behind;
    few = le_trans (length-filter others f.behind) f.few;
    noted = omega (arith, length-push s.forgotten x.key, f.noted);
    unnoted = λ y i on. let w = in_filter others y f.before i in with_it y w.0 w.1 on;
  }
    where
      others : Instance → Bool
      others y = not (is_instance x.id y)

      found : IsIn x s.instances × (is_idle_row s x ≡ true)
      found = in_find (is_idle_row s) x s.instances idle

      itself : bytes_eq x.key x.key ≡ true
      itself = (bytes_eq-Decides x.key x.key).1 refl

      its_row : is_row_of x.key x ≡ true
      its_row = by x.is_retired (is_followed s x.id) (list_any (is_bound_to x.id) s.exchanges) found.1
        where
          by : (out followed bound : Bool) → (not out && not followed && not bound) ≡ true → (not out && bytes_eq x.key x.key) ≡ true
          by true followed bound is = absurd (cc is)
          by false followed bound is = itself

      not_it : (y : Instance) → IsIn y f.before → others y ≡ true → y.is_retired ≡ false → (b : Bool) → bytes_eq y.key x.key ≡ b → b ≡ false
      not_it y i apart on false is = refl
      not_it y i apart on true is =
          let same_id : y.id ≡ x.id = own.keys x.key y x (subst (λ (ys : List Instance). IsIn y ys) (sym f.is) (in_front y f.before f.behind i)) found.0 (ap₂ (λ (a b : Bool). not a && b) on is) its_row in
          let both : false ≡ true = sym (ap (λ (n : ℕ). not (n == x.id)) same_id ∙ ap (λ (b : Bool). not b) (same_test x.id x.id refl)) ∙ apart in
          absurd (cc both)

      with_it : (y : Instance) → IsIn y f.before → others y ≡ true → y.is_retired ≡ false → has_noted y.key (s.forgotten ++ x.key ∷ []) ≡ false
      with_it y i apart on =
          list_any-append (bytes_eq y.key) s.forgotten (x.key ∷ [])
          ∙ ap₂ (λ (a b : Bool). a || (b || false)) (f.unnoted y i on) (not_it y i apart on (bytes_eq y.key x.key) refl)

few_when : {l m : ℕ} {cs : List Conn} (b : Bool) {x y : State} → Few l m cs x → Few l m cs y → Few l m cs (elim b as (λ t. State) [ true ↦ x | false ↦ y ])
few_when true hx hy = hx
few_when false hx hy = hy

few_each : {A : Type 0} {l m : ℕ} {cs : List Conn} (o : Option A) {x : State} {y : A → State} → Few l m cs x → ((a : A) → Few l m cs (y a)) → Few l m cs (elim o as (λ t. State) [ None ↦ x | Some a ↦ y a ])
few_each None hx hy = hx
few_each (Some a) hx hy = hy a

-- ---- rows come and go

module _ {l m : ℕ} {cs : List Conn} where
  added_few : (key : Bytes) (v : Version) (fields : List Field) (times : Times) (is_new : Bool) (s : State) → Few l m cs s → Few (l + 1) m cs (add_row key v fields times is_new s)
  unfolding add_row
  added_few key v fields times is_new s =
      few_pushed s (add_row key v fields times is_new s) (record { id = s.next_instance; key = key; version = v; fields = fields; times = times; is_retired = false; is_new = is_new }) refl refl refl

  clear_few : (key : Bytes) (s : State) → Few l m cs s → Few l m cs (clear key s)
  unfolding clear swept
  clear_few key s f =
      let retired : State = record s { instances = change (is_row_of key) (λ x. record x { is_retired = true }) s.instances } in
      few_filtered retired (clear key s) (λ x. not (is_left_over retired x)) refl refl refl
      (few_mapped s retired (changed_at (is_row_of key) (λ x. record x { is_retired = true })) (λ x. key_by x (is_row_of key x)) (λ x. on_by x (is_row_of key x)) refl refl refl f)
    where
      key_by : (x : Instance) (t : Bool) → (elim t as (λ c. Instance) [ true ↦ record x { is_retired = true } | false ↦ x ]).key ≡ x.key
      key_by x true = refl
      key_by x false = refl

      on_by : (x : Instance) (t : Bool) → (elim t as (λ c. Instance) [ true ↦ record x { is_retired = true } | false ↦ x ]).is_retired ≡ false → x.is_retired ≡ false
      on_by x true is = absurd (cc is)
      on_by x false is = is

module _ {l m : ℕ} {cs : List Conn} where
  room_few : (s : State) → AreOwn s.instances → Few l m cs s → Few l (m + 1) cs (with_room s)
  unfolding with_room
  room_few s own f = by (nat_lt (rows s) 1024) (idle_row s) refl
    where
      by : (t : Bool) (o : Option Instance) → idle_row s ≡ o → Few l (m + 1) cs (elim t as (λ c. State) [ true ↦ s | false ↦ elim o as (λ c. State) [ None ↦ s | Some x ↦ forget_row x s ] ])
      by true o is = names_up s f
      by false None is = names_up s f
      by false (Some x) is = few_forgotten s x own is f

  made_few : (key : Bytes) (v : Version) (fields : List Field) (times : Times) (s : State) → AreOwn s.instances → Few l m cs s → Few (l + 1) (m + 1) cs (make_row key v fields times s)
  unfolding make_row
  made_few key v fields times s own f = added_few key v fields times true _ (room_few (clear key s) (own_cleared key s own) (clear_few key s f))

  entered_few : (key : Bytes) (is_new : Bool) (s : State) → AreOwn s.instances → Few l m cs s → Few (l + 1) (m + 1) cs (enter key is_new s)
  unfolding enter
  entered_few key is_new s own f =
      few_each (row s key)
      (few_each (row_on_disk s key) (few_up s f) (λ e. added_few key e.version e.fields e.times is_new (with_room s) (room_few s own f)))
      (λ x. few_up s f)

  pub brought_few : (e : Exchange) (head : Response) (s : State) → AreOwn s.instances → Few l m cs s → Few (l + 1) (m + 1) cs (bring_row e head s)
  unfolding bring_row
  brought_few e head s own f = few_when (is_readable e head) (entered_few (key_of e) true s own f) (few_up s f)

  renewed_few : (x : Instance) (head : Response) (times : Times) (s : State) → AreOwn s.instances → Few l m cs s → Few (l + 1) m cs (renew x head times s)
  unfolding renew mark_row on_instance
  renewed_few x head times s own f =
      let u : State = record s { instances = change (is_instance x.id) (renewed head times) s.instances } in
      few_moved u (renew x head times s) x.id (differ_change instance_id (is_instance x.id) (renewed head times) (λ y. refl) s.instances own.differ) refl refl refl
      (few_mapped s u (changed_at (is_instance x.id) (renewed head times)) (λ y. key_by y (is_instance x.id y)) (λ y. on_by y (is_instance x.id y)) refl refl refl f)
    where
      key_by : (y : Instance) (t : Bool) → (elim t as (λ c. Instance) [ true ↦ renewed head times y | false ↦ y ]).key ≡ y.key
      key_by y true = refl
      key_by y false = refl

      on_by : (y : Instance) (t : Bool) → (elim t as (λ c. Instance) [ true ↦ renewed head times y | false ↦ y ]).is_retired ≡ false → y.is_retired ≡ false
      on_by y true is = is
      on_by y false is = is

  its_row_few : (e : Exchange) (head : Response) (s : State) → AreOwn s.instances → Few l m cs s → Few (l + 1) (m + 1) cs (renew_row e head s)
  unfolding renew_row
  its_row_few e head s own f = few_each (row s (key_of e)) (few_up s f) (λ x. names_up _ (renewed_few x head (times_for e head s) s own f))

-- ---- what is done to clients and exchanges

module _ {l m : ℕ} {cs : List Conn} (e : Exchange) where
  told_few : (brought : Brought) (s : State) → Few l m cs s → Few l m cs (tell e brought s)
  unfolding tell
  told_few brought s = few_as s (tell e brought s) refl refl refl

  used_few : (body : Body) (s : State) → Few l m cs s → Few l m cs (use_body e body s)
  unfolding use_body on_exchange
  used_few body s = few_as s (use_body e body s) refl refl refl

  given_up_few : (s : State) → Few l m cs s → Few l m cs (give_up_row e s)
  unfolding give_up_row on_exchange on_client_of
  given_up_few s f =
      few_when (is_unfilled s e) (few_as (clear (text_of e.key) s) _ refl refl refl (clear_few (text_of e.key) s f)) f

  pub attempt_few : (s : State) → Few l m cs s → Few l m cs (lose_attempt e s)
  unfolding lose_attempt charge on_client_of
  attempt_few s f = given_up_few _ (few_as s _ refl refl refl f)

  pub failed_few : (s : State) → Few l m cs s → Few l m cs (fail e s)
  unfolding fail charge on_client_of
  failed_few s f = given_up_few _ (few_as s _ refl refl refl f)

  drop_few : (s : State) → Few l m cs s → Few l m cs (drop_answer e s)
  unfolding drop_answer
  drop_few s f = told_few Useless (use_body e Dropping s) (used_few Dropping s f)

  useless_few : (s : State) → Few l m cs s → Few l m cs (useless e s)
  unfolding useless
  useless_few s f = attempt_few (drop_answer e s) (drop_few s f)

  unshared_few : (s : State) → Few l m cs s → Few l m cs (not_shared e s)
  unfolding not_shared on_client_of
  unshared_few s f = few_as (drop_answer e (clear (key_of e) s)) _ refl refl refl (drop_few (clear (key_of e) s) (clear_few (key_of e) s f))

  settled_few : (head : Response) (v : Version) (s : State) → Few l m cs s → Few l m cs (settle_on e head v s)
  unfolding settle_on
  settled_few head v s f = few_each (row s (key_of e)) f (λ x. told_few _ (use_body e (Joining (span_to_come e head v x.id)) s) (used_few (Joining (span_to_come e head v x.id)) s f))

  same_few : (s : State) → Few l m cs s → Few l m cs (settle_unchanged e s)
  unfolding settle_unchanged
  same_few s f = few_each (row s (key_of e)) f (λ x. told_few _ (use_body e (Joining (nothing_to_come x)) s) (used_few (Joining (nothing_to_come x)) s f))

  relays_few : (head : Response) (rule : BodyRule) (s : State) → Few l m cs s → Few l m cs (relay_head e head rule s)
  unfolding relay_head
  relays_few head rule s f = told_few (Passes (passed_by e head rule)) (use_body e (relayed e s) s) (used_few (relayed e s) s f)

  cleared_few : (head : Response) (s : State) → Few l m cs s → Few l m cs (cleared_by head e s)
  unfolding cleared_by
  cleared_few head s f = few_when (clears_row head) (clear_few (key_of e) s f) f

  others_few : (head : Response) (rule : BodyRule) (s : State) → Few l m cs s → Few l m cs (other_head e head rule s)
  unfolding other_head
  others_few head rule s f =
      let cleared : Few l m cs (cleared_by head e s) = cleared_few head s f in
      few_when (is_widened e head) (told_few TooWide (use_body e Dropping (cleared_by head e s)) (used_few Dropping (cleared_by head e s) cleared)) (relays_few head rule (cleared_by head e s) cleared)

  part_few : (head : Response) (rule : BodyRule) (s : State) → Few l m cs s → Few l m cs (other_part e head rule s)
  unfolding other_part
  part_few head rule s f =
      few_when (is_private_part head) (unshared_few s f)
      (few_when (clears_row head) (relays_few head rule (cleared_by head e s) (cleared_few head s f)) (useless_few s f))

  counted_few : (s : State) → Few l m cs s → Few l m cs (count_elsewhere e s)
  unfolding count_elsewhere
  counted_few s f = few_when (is_some_with is_bound (exchange s e.number) && list_any (λ c. is_for e c && lacks_next s c) s.clients) (attempt_few s f) f

  named_few : (key : Key) (text : Bytes) (s : State) → Few l m cs s → Few l m cs (clear_named key text s)
  unfolding clear_named
  named_few key text s f = few_each (key_named key text) f (λ named. few_when (is_same_host named key) (clear_few (text_of named) s f) f)

  each_few : (key : Key) (texts : List Bytes) (s : State) → Few l m cs s → Few l m cs (clear_each key texts s)
  unfolding clear_each
  each_few key [] s f = f
  each_few key (text ∷ texts) s f = each_few key texts (clear_named key text s) (named_few key text s f)

  invalidated_few : (head : Response) (s : State) → Few l m cs s → Few l m cs (invalidated e head s)
  unfolding invalidated
  invalidated_few head s f = few_when (invalidates e head) (each_few e.key (places_named head) (clear (key_of e) s) (clear_few (key_of e) s f)) f

  disproved_few : (head : Response) (s : State) → Few l m cs s → Few l m cs (disproved e head s)
  unfolding disproved
  disproved_few head s f = few_when (reads e && is_some_with (disproves head) (known_version s (key_of e))) (clear_few (key_of e) s f) f

  throughs_few : (head : Response) (rule : BodyRule) (s : State) → Few l m cs s → Few l m cs (through_head e head rule s)
  unfolding through_head
  throughs_few head rule s f = relays_few head rule (disproved e head (invalidated e head s)) (disproved_few head (invalidated e head s) (invalidated_few head s f))

-- ---- heads

module _ {l m : ℕ} {cs : List Conn} (e : Exchange) where
  known_few : (head : Response) (v : Version) (s : State) → AreOwn s.instances → Few l m cs s → Few (l + 1) (m + 1) cs (settle_known e head v s)
  unfolding settle_known
  known_few head v s own f = few_when (may_refresh e head s) (settled_few e head v (renew_row e head s) (its_row_few e head s own f)) (few_up _ (useless_few e s f))

  settle_few : (head : Response) (v : Version) (s : State) → AreOwn s.instances → Few l m cs s → Few (l + 1) (m + 1) cs (settle e head v s)
  unfolding settle
  settle_few head v s own f =
      few_when (is_some_with (may_join e head v) (known_version s (key_of e))) (known_few head v s own f)
      (settled_few e head v _ (made_few (key_of e) v (kept_of head.fields (times_for e head s)) (times_for e head s) s own f))

  unchanged_few : (head : Response) (s : State) → AreOwn s.instances → Few l m cs s → Few (l + 1) (m + 1) cs (unchanged e head s)
  unfolding unchanged
  unchanged_few head s own f =
      few_when (is_some_with (names_version e) (known_version s (key_of e)) && may_refresh e head s) (same_few e (renew_row e head s) (its_row_few e head s own f)) (few_up _ (useless_few e s f))

  not_modified_few : (head : Response) (s : State) → AreOwn s.instances → Few l m cs s → Few (l + 1) (m + 1) cs (not_modified e head s)
  unfolding not_modified
  not_modified_few head s own f =
      few_when (forbids_sharing head) (few_up _ (unshared_few e s f))
      (few_when (is_of_another head s (key_of e)) (few_up _ (useless_few e (clear (key_of e) s) (clear_few (key_of e) s f))) (unchanged_few head s own f))

  owns_few : (head : Response) (rule : BodyRule) (s : State) → AreOwn s.instances → Few l m cs s → Few (l + 1) (m + 1) cs (own_head e head rule s)
  unfolding own_head
  owns_few head rule s own f = few_each (version_in e head) (few_when (head.status == 304) (not_modified_few head s own f) (few_up _ (others_few e head rule s f))) (λ v. settle_few head v s own f)

  fills_few : (head : Response) (rule : BodyRule) (s : State) → AreOwn s.instances → Few l m cs s → Few (l + 1) (m + 1) cs (part_head e head rule s)
  unfolding part_head
  fills_few head rule s own f = few_each (version_in e head) (few_when (head.status == 304) (not_modified_few head s own f) (few_up _ (part_few e head rule s f))) (λ v. settle_few head v s own f)

module _ {l m : ℕ} {cs : List Conn} (e : Exchange) where
  pub by_aim_few : (head : Response) (rule : BodyRule) (s : State) → AreOwn s.instances → Few l m cs s → Few (l + 1) (m + 1) cs (by_aim e head rule s)
  unfolding by_aim filling_head
  by_aim_few head rule s own f = by e.aim
    where
      by : (aim : Aim) → Few (l + 1) (m + 1) cs (elim aim as (λ t. State) [ Through ↦ through_head e head rule s | Own ↦ own_head e head rule s | Filling v from to ↦ filling_head e head rule s ])
      by Through = few_up _ (throughs_few e head rule s f)
      by Own = owns_few e head rule s own f
      by (Filling v from to) = counted_few e (part_head e head rule s) (fills_few e head rule s own f)
