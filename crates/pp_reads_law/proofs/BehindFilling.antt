-- What the head to the ask of a follower leaves of its exchange, and so a head of whatever kind: it may have lost its client, where its attempt was
-- counted and the row was cleared for it.
use Rattle.std.proofs.Common.{◌≡◌, ◌≤◌, ◌⊎◌, inl, inr, refl, sym, subst, ap, ◌∙◌, ℕ, Bool, true, false, ◌==◌, ◌&&◌, ◌||◌, find, not, List, Option, Some, None, arith}
use Rattle.std.specs.List.{list_any}
use Rattle.std.specs.Prelude.{count_by, is_some, nat_lt}
use Rattle.pp_cache_law.proofs.PairLemmas.{count_mapped}
use Rattle.pp_framing.specs.declared.body.BodyRule.{BodyRule}
use Rattle.pp_fresh.specs.declared.aging.Times.{Times}
use Rattle.pp_head.specs.Response.{Response}
use Rattle.pp_law.specs.Closing.{is_of, left_alone}
use Rattle.pp_law.specs.Connections.{attempts_of, charge, exchange, give_up_row, is_exchange, is_for, anew, is_unfilled, lose_attempt, lost_one, on_client_of, on_exchange, without_row, without_shared_row}
use Rattle.pp_law.specs.Lists.{Bytes, change, is_some_with}
use Rattle.pp_law.specs.OwnHeads.{cleared_by, clears_row, count_elsewhere, drop_answer, filling_head, forbids_sharing, is_asked_by, is_bound, is_of_another, is_private_part, key_of, known_version, lacks_next, may_join, may_refresh, names_version, not_modified, not_shared, nothing_to_come, other_part, own_head, part_head, relay_head, relayed, renew, renew_row, settle, settle_known, settle_on, settle_unchanged, span_to_come, tell, times_for, unchanged, use_body, useless, version_in}
use Rattle.pp_law.specs.Responses.{by_aim}
use Rattle.pp_law.specs.Stages.{filled_of, is_begun, passed_of}
use Rattle.pp_law.specs.State.{State, Aim, Body, Brought, Client, Dropping, Exchange, Filling, Instance, Joining, Own, Relaying, Through, Useless}
use Rattle.pp_law.specs.Table.{add_row, clear, forget, forget_row, idle_row, make_row, mark_row, on_instance, row, rows, swept, with_room}
use Rattle.pp_law.specs.ThroughHeads.{through_head}
use Rattle.pp_laws.proofs.Lists.{From, in_map}
use Rattle.pp_laws.proofs.Untouched.{Untouched, clear-untouched, cleared_by-untouched, make_row-untouched, on_client_of-untouched, renew_row-untouched, untouched, untouched_on}
use Rattle.pp_laws.specs.Runs.{IsIn}
use Rattle.pp_objects.specs.Kept.{kept_of}
use Rattle.pp_peers_law.proofs.Finds.{find_there}
use Rattle.pp_text.specs.Fields.{Field}
use Rattle.pp_valid.specs.declared.version.Version.{Version}
use Rattle.pp_reads_law.proofs.Behind.{Notes, behind_of, none_noted, notes_then, owns, relays, then_notes, throughs, told_use}
use Rattle.pp_reads_law.specs.Empties.{AskerIs, HeadsNoteTheBody, HasNotedBody, NoneIsPassed, going_to}

-- ---- to whom nothing is passed

abbrev NoneIn : Exchange → List Client → Type 0
NoneIn e cs = (c : Client) → IsIn c cs → is_for e c ≡ true → passed_of c ≡ None

none_changed : (e : Exchange) (test : Client → Bool) (f : Client → Client) (cs : List Client) → ((c : Client) → (f c).number ≡ c.number) → ((c : Client) → passed_of c ≡ None → passed_of (f c) ≡ None) → NoneIn e cs → NoneIn e (change test f cs)
none_changed e test f cs numbers keeps none d among asks =
    let r : From g cs d = in_map g d cs among in
    ap passed_of r.is ∙ passed r.was (test r.was) (none r.was r.there (number r.was (test r.was) (ap (λ (c : Client). is_for e c) (sym r.is) ∙ asks)))
  where
    g : Client → Client
    g x = elim (test x) as (λ t. Client) [ true ↦ f x | false ↦ x ]

    number : (c : Client) (b : Bool) → is_for e (elim b as (λ t. Client) [ true ↦ f c | false ↦ c ]) ≡ true → is_for e c ≡ true
    number c true is = subst (λ (n : ℕ). is_for e (record c { number = n }) ≡ true) (numbers c) is
    number c false is = is

    passed : (c : Client) (b : Bool) → passed_of c ≡ None → passed_of (elim b as (λ t. Client) [ true ↦ f c | false ↦ c ]) ≡ None
    passed c true is = keeps c is
    passed c false is = is

client_none : (e : Exchange) (f : Client → Client) (s : State) → ((c : Client) → (f c).number ≡ c.number) → ((c : Client) → passed_of c ≡ None → passed_of (f c) ≡ None) → NoneIsPassed e s → NoneIsPassed e (on_client_of e f s)
unfolding on_client_of
client_none e f s numbers keeps none = none_changed e (is_for e) f s.clients numbers keeps none

told_none : (e : Exchange) (b : Brought) (body : Body) (s : State) → ((c : Client) → passed_of (record c { brought = b }) ≡ None) → NoneIsPassed e s → NoneIsPassed e (tell e b (use_body e body s))
unfolding tell use_body on_exchange
told_none e b body s is none = none_changed e (is_asked_by e) (λ c. record c { brought = b }) s.clients (λ c. refl) (λ c was. is c) none

as_before : (e : Exchange) (s t : State) → t.clients ≡ s.clients → NoneIsPassed e s → NoneIsPassed e t
as_before e s t same none = subst (λ (cs : List Client). NoneIn e cs) (sym same) none

row_less : (c : Client) → ((without_row c).number ≡ c.number) × (passed_of (without_row c) ≡ passed_of c)
row_less c = by (is_begun c || c.has_given_up)
  where
    by : (b : Bool) → (let d : Client = elim b as (λ t. Client) [ true ↦ c | false ↦ record c { course = anew c.course; has_given_up = true } ] in (d.number ≡ c.number) × (passed_of d ≡ passed_of c))
    by true = (refl, refl)
    by false = (refl, refl)

shared_less : (most : ℕ) (c : Client) → ((without_shared_row most c).number ≡ c.number) × (passed_of (without_shared_row most c) ≡ passed_of c)
shared_less most c = by (c.has_given_up && not (is_begun c))
  where
    by : (b : Bool) → (let d : Client = elim b as (λ t. Client) [ true ↦ record c { course = lost_one most c.course } | false ↦ without_row c ] in (d.number ≡ c.number) × (passed_of d ≡ passed_of c))
    by true = (refl, refl)
    by false = row_less c

-- ---- clients stay where rows change

cleared_clients : (key : Bytes) (s : State) → (clear key s).clients ≡ s.clients
unfolding clear swept
cleared_clients key s = refl

renewed_clients : (e : Exchange) (head : Response) (s : State) → (renew_row e head s).clients ≡ s.clients
unfolding renew_row renew on_instance mark_row
renewed_clients e head s = by (row s (key_of e))
  where
    by : (o : Option Instance) → (elim o as (λ t. State) [ None ↦ s | Some x ↦ renew x head (times_for e head s) s ]).clients ≡ s.clients
    by None = refl
    by (Some x) = refl

room_clients : (s : State) → (with_room s).clients ≡ s.clients
unfolding with_room forget_row forget
room_clients s = by (nat_lt (rows s) 1024) (idle_row s)
  where
    by : (b : Bool) (o : Option Instance) → (elim b as (λ t. State) [ true ↦ s | false ↦ elim o as (λ t. State) [ None ↦ s | Some x ↦ forget_row x s ] ]).clients ≡ s.clients
    by true o = refl
    by false None = refl
    by false (Some x) = refl

made_clients : (key : Bytes) (v : Version) (fields : List Field) (times : Times) (s : State) → (make_row key v fields times s).clients ≡ s.clients
unfolding make_row add_row
made_clients key v fields times s = room_clients (clear key s) ∙ cleared_clients key s

by_clients : (head : Response) (e : Exchange) (s : State) → (cleared_by head e s).clients ≡ s.clients
unfolding cleared_by
by_clients head e s = by (clears_row head)
  where
    by : (b : Bool) → (elim b as (λ t. State) [ true ↦ clear (key_of e) s | false ↦ s ]).clients ≡ s.clients
    by true = cleared_clients (key_of e) s
    by false = refl

-- ---- its exchange, step by step

module _ (e : Exchange) (filling : is_some (filled_of e) ≡ true) (s : State) (known : exchange s e.number ≡ Some e) where
  abbrev n : ℕ
  n = e.number

  -- rows alone changed
  record Rows (v : State) : Type 0 where
    kept : Untouched s v
    none : NoneIsPassed e v

  -- what was told is no response that is passed
  record Says (u : State) : Type 0 where
    notes : Notes n s u
    none : NoneIsPassed e u

  -- or nothing is bound
  record Fills (u : State) : Type 0 where
    behind : HasNotedBody e s u
    left : NoneIsPassed e u ⊎ (is_some_with is_bound (exchange u n) ≡ false)

  rows_over : (v w : State) → Untouched v w → w.clients ≡ v.clients → Rows v → Rows w
  rows_over v w same clients rows = record { kept = untouched_on s v w rows.kept same; none = as_before e v w clients rows.none }

  clears : (key : Bytes) (v : State) → Rows v → Rows (clear key v)
  clears key v rows = rows_over v (clear key v) (clear-untouched key v) (cleared_clients key v) rows

  renews : (head : Response) (v : State) → Rows v → Rows (renew_row e head v)
  renews head v rows = rows_over v (renew_row e head v) (renew_row-untouched e head v) (renewed_clients e head v) rows

  says_rows : (v : State) → Rows v → Says v
  says_rows v rows = record { notes = none_noted n s v rows.kept; none = rows.none }

  says_told : (b : Brought) (body : Body) (v : State) → ((c : Client) → passed_of (record c { brought = b }) ≡ None) → Rows v → Says (tell e b (use_body e body v))
  says_told b body v is rows = record { notes = then_notes n s v (tell e b (use_body e body v)) rows.kept (told_use e b body v); none = told_none e b body v is rows.none }

  fills_when : (b : Bool) {x y : State} → Fills x → Fills y → Fills (elim b as (λ t. State) [ true ↦ x | false ↦ y ])
  fills_when true hx hy = hx
  fills_when false hx hy = hy

  says_each : {A : Type 0} (o : Option A) {x : State} {y : A → State} → Says x → ((a : A) → Says (y a)) → Says (elim o as (λ t. State) [ None ↦ x | Some a ↦ y a ])
  says_each None hx hy = hx
  says_each (Some a) hx hy = hy a

  fills : (u : State) → Says u → Fills u
  fills u says = record { behind = behind_of e s u known says.notes; left = inl says.none }

  -- ---- an attempt is lost

  carries : (u w : State) → Untouched u w → NoneIsPassed e w → HasNotedBody e s u → HasNotedBody e s w
  carries u w same none was = record {
    body = was.body;
    asker = was.asker;
    known = ap (λ (es : List Exchange). find (is_exchange n) es) same.exchanges ∙ was.known;
    client = by was.client;
    conns = same.conns ∙ was.conns;
    once = λ m one. subst (λ (es : List Exchange). count_by (is_of m) es ≤ 1) (sym same.exchanges) (was.once m one);
  }
    where
      by : AskerIs e was.asker u → AskerIs e was.asker w
      by (inl is) = inl is
      by (inr lost) = inr (record { aim = lost.aim; none = lost.none; passed = none })

  leaves : (w : State) → NoneIsPassed e w → HasNotedBody e s w → Fills (on_exchange n left_alone w)
  unfolding on_exchange
  leaves w none was = record {
    behind = record {
      body = was.body;
      asker = None;
      known = find_there n left_alone (λ x. refl) w.exchanges (going_to was.asker was.body e) was.known;
      client = inr (record { aim = filling; none = refl; passed = none });
      conns = was.conns;
      once = λ m one. fewer (count_by (is_of m) (change (is_exchange n) left_alone w.exchanges)) (count_by (is_of m) w.exchanges) (count_mapped (is_of m) (λ x. elim (is_exchange n x) as (λ t. Exchange) [ true ↦ left_alone x | false ↦ x ]) w.exchanges (λ x. alone m x (is_exchange n x))) (was.once m one);
    };
    left = inl none;
  }
    where
      fewer : (a b : ℕ) → a ≤ b → b ≤ 1 → a ≤ 1
      fewer a b one two = omega (arith, one, two)

      alone : (m : ℕ) (x : Exchange) (b : Bool) → is_of m (elim b as (λ t. Exchange) [ true ↦ left_alone x | false ↦ x ]) ≡ true → is_of m x ≡ true
      alone m x true is = absurd (cc is)
      alone m x false is = is

  abbrev cost : Client → Client
  cost c = record c { course = lost_one (attempts_of e) c.course }

  loses : (u : State) → NoneIsPassed e u → HasNotedBody e s u → Fills (lose_attempt e u)
  unfolding lose_attempt charge give_up_row
  loses u none was = by (is_unfilled paid e)
    where
      paid : State
      paid = on_client_of e cost u

      paid_none : NoneIsPassed e paid
      paid_none = client_none e cost u (λ c. refl) (λ c is. is) none

      paid_behind : HasNotedBody e s paid
      paid_behind = carries u paid (on_client_of-untouched e cost u) paid_none was

      cleared : State
      cleared = clear (key_of e) paid

      freed : State
      freed = on_client_of e without_row cleared

      freed_none : NoneIsPassed e freed
      freed_none = client_none e without_row cleared (λ c. (row_less c).0) (λ c is. (row_less c).1 ∙ is) (as_before e paid cleared (cleared_clients (key_of e) paid) paid_none)

      freed_behind : HasNotedBody e s freed
      freed_behind = carries paid freed (untouched_on paid cleared freed (clear-untouched (key_of e) paid) (on_client_of-untouched e without_row cleared)) freed_none paid_behind

      by : (b : Bool) → Fills (elim b as (λ t. State) [ false ↦ paid | true ↦ on_exchange n left_alone freed ])
      by false = record { behind = paid_behind; left = inl paid_none }
      by true = leaves freed freed_none freed_behind

  -- ---- what becomes of the body

  drops : (v : State) → Rows v → Says (drop_answer e v)
  unfolding drop_answer
  drops v rows = says_told Useless Dropping v (λ c. refl) rows

  no_use : (v : State) → Rows v → Fills (useless e v)
  unfolding useless
  no_use v rows = let one : Says (drop_answer e v) = drops v rows in loses (drop_answer e v) one.none (behind_of e s (drop_answer e v) known one.notes)

  unshared : (v : State) → Rows v → Fills (not_shared e v)
  unfolding not_shared
  unshared v rows =
      let one : Says (drop_answer e (clear (key_of e) v)) = drops (clear (key_of e) v) (clears (key_of e) v rows) in
      fills (on_client_of e (without_shared_row (attempts_of e)) (drop_answer e (clear (key_of e) v)))
      (record {
        notes = notes_then n s (drop_answer e (clear (key_of e) v)) _ one.notes (on_client_of-untouched e (without_shared_row (attempts_of e)) (drop_answer e (clear (key_of e) v)));
        none = client_none e (without_shared_row (attempts_of e)) (drop_answer e (clear (key_of e) v)) (λ c. (shared_less (attempts_of e) c).0) (λ c is. (shared_less (attempts_of e) c).1 ∙ is) one.none;
      })

  settles_on : (head : Response) (v : Version) (w : State) → Rows w → Fills (settle_on e head v w)
  unfolding settle_on
  settles_on head v w rows = fills _ (says_each (row w (key_of e)) (says_rows w rows) (λ x. says_told _ (Joining (span_to_come e head v x.id)) w (λ c. refl) rows))

  settles_known : (head : Response) (v : Version) (w : State) → Rows w → Fills (settle_known e head v w)
  unfolding settle_known
  settles_known head v w rows = fills_when (may_refresh e head w) (settles_on head v (renew_row e head w) (renews head w rows)) (no_use w rows)

  settles : (head : Response) (v : Version) (w : State) → Rows w → Fills (settle e head v w)
  unfolding settle
  settles head v w rows =
      fills_when (is_some_with (may_join e head v) (known_version w (key_of e))) (settles_known head v w rows)
      (settles_on head v _ (rows_over w _ (make_row-untouched (key_of e) v (kept_of head.fields (times_for e head w)) (times_for e head w) w) (made_clients (key_of e) v (kept_of head.fields (times_for e head w)) (times_for e head w) w) rows))

  unchanged_so : (head : Response) (w : State) → Rows w → Fills (unchanged e head w)
  unfolding unchanged settle_unchanged
  unchanged_so head w rows =
      fills_when (is_some_with (names_version e) (known_version w (key_of e)) && may_refresh e head w)
      (fills _ (says_each (row (renew_row e head w) (key_of e)) (says_rows (renew_row e head w) (renews head w rows)) (λ x. says_told _ (Joining (nothing_to_come x)) (renew_row e head w) (λ c. refl) (renews head w rows))))
      (no_use w rows)

  not_modified_so : (head : Response) (w : State) → Rows w → Fills (not_modified e head w)
  unfolding not_modified
  not_modified_so head w rows =
      fills_when (forbids_sharing head) (unshared w rows)
      (fills_when (is_of_another head w (key_of e)) (no_use (clear (key_of e) w) (clears (key_of e) w rows)) (unchanged_so head w rows))

  -- what is relayed is bound nowhere
  relayed_so : (head : Response) (rule : BodyRule) (w : State) → Rows w → Fills (relay_head e head rule w)
  unfolding relay_head tell use_body on_exchange
  relayed_so head rule w rows = record {
    behind = behind_of e s (relay_head e head rule w) known (then_notes n s w (relay_head e head rule w) rows.kept (relays e head rule w));
    left = inr (ap (λ (o : Option Exchange). is_some_with is_bound o) (find_there n (λ x. record x { body = relayed e w }) (λ x. refl) w.exchanges e (ap (λ (es : List Exchange). find (is_exchange n) es) rows.kept.exchanges ∙ known)) ∙ by (list_any (is_asked_by e) w.clients));
  }
    where
      by : (b : Bool) → is_bound (record e { body = elim b as (λ t. Body) [ true ↦ Relaying | false ↦ Dropping ] }) ≡ false
      by true = refl
      by false = refl

  others : (head : Response) (rule : BodyRule) (w : State) → Rows w → Fills (other_part e head rule w)
  unfolding other_part
  others head rule w rows =
      fills_when (is_private_part head) (unshared w rows)
      (fills_when (clears_row head) (relayed_so head rule (cleared_by head e w) (rows_over w (cleared_by head e w) (cleared_by-untouched head e w) (by_clients head e w) rows)) (no_use w rows))

  parts_so : (head : Response) (rule : BodyRule) → Rows s → Fills (part_head e head rule s)
  unfolding part_head
  parts_so head rule rows = by (version_in e head)
    where
      by : (o : Option Version) → Fills (elim o as (λ t. State) [ Some v ↦ settle e head v s | None ↦ elim (head.status == 304) as (λ t. State) [ true ↦ not_modified e head s | false ↦ other_part e head rule s ] ])
      by (Some v) = settles head v s rows
      by None = fills_when (head.status == 304) (not_modified_so head s rows) (others head rule s rows)

  counts : (u : State) → Fills u → HasNotedBody e s (count_elsewhere e u)
  unfolding count_elsewhere
  counts u one = by one.left
    where
      lacks : Bool
      lacks = list_any (λ c. is_for e c && lacks_next u c) u.clients

      some : NoneIsPassed e u → (b : Bool) → HasNotedBody e s (elim b as (λ t. State) [ true ↦ lose_attempt e u | false ↦ u ])
      some none true = let lost : Fills (lose_attempt e u) = loses u none one.behind in lost.behind
      some none false = one.behind

      unbound : (a b : Bool) → a ≡ false → HasNotedBody e s (elim (a && b) as (λ t. State) [ true ↦ lose_attempt e u | false ↦ u ])
      unbound true b is = absurd (cc is)
      unbound false b is = one.behind

      by : NoneIsPassed e u ⊎ (is_some_with is_bound (exchange u n) ≡ false) → HasNotedBody e s (elim (is_some_with is_bound (exchange u n) && lacks) as (λ t. State) [ true ↦ lose_attempt e u | false ↦ u ])
      by (inl none) = some none (is_some_with is_bound (exchange u n) && lacks)
      by (inr none) = unbound (is_some_with is_bound (exchange u n)) lacks none

  pub fillings : (head : Response) (rule : BodyRule) → NoneIsPassed e s → HasNotedBody e s (filling_head e head rule s)
  unfolding filling_head
  fillings head rule none = counts (part_head e head rule s) (parts_so head rule (record { kept = untouched s; none = none }))

-- ---- of whatever kind

pub heads_note : HeadsNoteTheBody
unfolding by_aim
heads_note s e head rule none known = by e.aim refl
  where
    by : (a : Aim) → e.aim ≡ a → HasNotedBody e s (elim a as (λ t. State) [ Through ↦ through_head e head rule s | Own ↦ own_head e head rule s | Filling v from to ↦ filling_head e head rule s ])
    by Through is = behind_of e s (through_head e head rule s) known (throughs e head rule s)
    by Own is = behind_of e s (own_head e head rule s) known (owns e head rule s (ap (λ (a : Aim). elim a as (λ o. Option Version) [ Through ↦ None | Own ↦ None | Filling v from to ↦ Some v ]) is))
    by (Filling v from to) is =
        let filling : is_some (filled_of e) ≡ true = ap (λ (a : Aim). is_some (elim a as (λ o. Option Version) [ Through ↦ None | Own ↦ None | Filling w i j ↦ Some w ])) is in
        fillings e filling s known head rule (none filling)
