-- What the head of a response leaves of its exchange, and of connections: to a Fetch or Validate, and where it is passed.
use Rattle.std.proofs.Common.{◌≡◌, ◌≤◌, inl, inr, refl, sym, subst, ap, ap₂, ◌∙◌, ℕ, Bool, true, false, ◌==◌, ◌&&◌, find, is_some, map, not, List, [], ◌∷◌, Option, Some, None}
use Rattle.std.specs.List.{list_any}
use Rattle.std.specs.Prelude.{count_by}
use Rattle.pp_cache_law.proofs.PairLemmas.{count_mapped_same}
use Rattle.pp_framing.specs.declared.body.BodyRule.{BodyRule}
use Rattle.pp_head.specs.Response.{Response}
use Rattle.pp_law.specs.Closing.{is_of}
use Rattle.pp_law.specs.Connections.{attempts_of, end_exchange, exchange, on_conn, give_up_row, is_exchange, is_for, is_out, lose_attempt, charge, lost_one, on_client_of, on_exchange, without_row, without_shared_row}
use Rattle.pp_law.specs.Lists.{change, is_some_with}
use Rattle.pp_law.specs.OwnHeads.{cleared_by, drop_answer, forbids_sharing, is_of_another, is_widened, key_of, may_join, may_refresh, names_version, not_modified, not_shared, nothing_to_come, other_head, own_head, relay_head, relayed, renew_row, settle, settle_known, settle_on, settle_unchanged, span_to_come, tell, times_for, unchanged, use_body, useless, known_version, version_in}
use Rattle.pp_law.specs.Responses.{close_this, finish, may_go_on, rested, skip_body, skipping}
use Rattle.pp_law.specs.Passing.{pour}
use Rattle.pp_law.specs.Stages.{filled_of, on_passed, passed_of}
use Rattle.pp_law.specs.State.{State, Aim, Answer, Body, Brought, Client, Conn, Passed, Passes, TooWide, Useless, Joining, Dropping, Through, Own, Filling, Exchange}
use Rattle.pp_law.specs.Table.{clear, is_same_version, row}
use Rattle.pp_law.specs.ThroughHeads.{disproved, invalidated, through_head}
use Rattle.pp_laws.proofs.Untouched.{Untouched, clear-untouched, cleared_by-untouched, disproved-untouched, invalidated-untouched, make_row-untouched, on_client_of-untouched, renew_row-untouched, untouched, untouched_on}
use Rattle.pp_laws.specs.Runs.{IsIn}
use Rattle.pp_objects.specs.Kept.{kept_of}
use Rattle.pp_head.specs.Request.{Request}
use Rattle.pp_pass.specs.Pipe.{Pipe, finished}
use Rattle.pp_pipe.specs.Authentication.{binds_connection}
use Rattle.pp_pipe.specs.Front.{stays_open}
use Rattle.pp_peers_law.proofs.Finds.{find_there}
use Rattle.pp_valid.specs.declared.version.Version.{Version}
use Rattle.pp_reads_law.specs.Empties.{ExchangesEndAlike, HasNotedBody, NoneIsPassed, going_to}

-- ---- where its body goes is noted, or not; and all else of connections and exchanges stays

abbrev pub noting : Body → Exchange → Exchange
noting body e = record e { body = body }

abbrev pub noted_in : ℕ → Option Body → List Exchange → List Exchange
noted_in n o es = elim o as (λ t. List Exchange) [ None ↦ es | Some body ↦ change (is_exchange n) (noting body) es ]

pub record Notes (n : ℕ) (s t : State) : Type 0 where
  body : Option Body
  conns : t.conns ≡ s.conns
  exchanges : t.exchanges ≡ noted_in n body s.exchanges

pub none_noted : (n : ℕ) (s t : State) → Untouched s t → Notes n s t
none_noted n s t one = record { body = None; conns = one.conns; exchanges = one.exchanges }

pub notes_then : (n : ℕ) (s t u : State) → Notes n s t → Untouched t u → Notes n s u
notes_then n s t u one then = record { body = one.body; conns = then.conns ∙ one.conns; exchanges = then.exchanges ∙ one.exchanges }

pub then_notes : (n : ℕ) (s t u : State) → Untouched s t → Notes n t u → Notes n s u
then_notes n s t u one then = record { body = then.body; conns = then.conns ∙ one.conns; exchanges = then.exchanges ∙ ap (λ (es : List Exchange). noted_in n then.body es) one.exchanges }

notes_when : (n : ℕ) (s : State) (b : Bool) {x y : State} → Notes n s x → Notes n s y → Notes n s (elim b as (λ t. State) [ true ↦ x | false ↦ y ])
notes_when n s true hx hy = hx
notes_when n s false hx hy = hy

notes_each : {A : Type 0} (n : ℕ) (s : State) (o : Option A) {x : State} {y : A → State} → Notes n s x → ((a : A) → Notes n s (y a)) → Notes n s (elim o as (λ t. State) [ None ↦ x | Some a ↦ y a ])
notes_each n s None hx hy = hx
notes_each n s (Some a) hx hy = hy a

tells : (e : Exchange) (brought : Brought) (s : State) → Untouched s (tell e brought s)
unfolding tell
tells e brought s = record { conns = refl; exchanges = refl }

uses : (e : Exchange) (body : Body) (s : State) → Notes e.number s (use_body e body s)
unfolding use_body on_exchange
uses e body s = record { body = Some body; conns = refl; exchanges = refl }

pub told_use : (e : Exchange) (brought : Brought) (body : Body) (s : State) → Notes e.number s (tell e brought (use_body e body s))
told_use e brought body s = notes_then e.number s (use_body e body s) (tell e brought (use_body e body s)) (uses e body s) (tells e brought (use_body e body s))

module _ (e : Exchange) where
  abbrev n : ℕ
  n = e.number

  drops : (s : State) → Notes n s (drop_answer e s)
  unfolding drop_answer
  drops s = told_use e Useless Dropping s

  -- no row is given up but for an exchange that fills one
  costs : (s : State) → filled_of e ≡ None → Untouched s (lose_attempt e s)
  unfolding lose_attempt charge give_up_row
  costs s none =
      let paid : State = on_client_of e (λ c. record c { course = lost_one (attempts_of e) c.course }) s in
      subst (λ (b : Bool). Untouched s (elim b as (λ t. State) [ false ↦ paid | true ↦ on_exchange e.number (λ x. record x { asker = None }) (on_client_of e without_row (clear (key_of e) paid)) ]))
      (sym (ap (λ (o : Option Version). is_some_with (λ v. is_some_with (λ x. is_same_version v x.version) (row paid (key_of e))) o && list_any (λ c. is_for e c && is_out c.course) paid.clients) none))
      (on_client_of-untouched e (λ c. record c { course = lost_one (attempts_of e) c.course }) s)

  no_use : (s : State) → filled_of e ≡ None → Notes n s (useless e s)
  unfolding useless
  no_use s none = notes_then n s (drop_answer e s) _ (drops s) (costs (drop_answer e s) none)

  unshared : (s : State) → Notes n s (not_shared e s)
  unfolding not_shared
  unshared s =
      notes_then n s (drop_answer e (clear (key_of e) s)) _ (then_notes n s (clear (key_of e) s) _ (clear-untouched (key_of e) s) (drops (clear (key_of e) s)))
      (on_client_of-untouched e (without_shared_row (attempts_of e)) (drop_answer e (clear (key_of e) s)))

  settles_on : (head : Response) (v : Version) (s : State) → Notes n s (settle_on e head v s)
  unfolding settle_on
  settles_on head v s = notes_each n s (row s (key_of e)) (none_noted n s s (untouched s)) (λ x. told_use e _ (Joining (span_to_come e head v x.id)) s)

  settles_known : (head : Response) (v : Version) (s : State) → filled_of e ≡ None → Notes n s (settle_known e head v s)
  unfolding settle_known
  settles_known head v s none = notes_when n s (may_refresh e head s) (then_notes n s (renew_row e head s) _ (renew_row-untouched e head s) (settles_on head v (renew_row e head s))) (no_use s none)

  settles : (head : Response) (v : Version) (s : State) → filled_of e ≡ None → Notes n s (settle e head v s)
  unfolding settle
  settles head v s none =
      notes_when n s (is_some_with (may_join e head v) (known_version s (key_of e))) (settles_known head v s none)
      (then_notes n s _ _ (make_row-untouched (key_of e) v (kept_of head.fields (times_for e head s)) (times_for e head s) s) (settles_on head v _))

  unchanged_so : (head : Response) (s : State) → filled_of e ≡ None → Notes n s (unchanged e head s)
  unfolding unchanged settle_unchanged
  unchanged_so head s none =
      notes_when n s (is_some_with (names_version e) (known_version s (key_of e)) && may_refresh e head s)
      (then_notes n s (renew_row e head s) _ (renew_row-untouched e head s)
      (notes_each n (renew_row e head s) (row (renew_row e head s) (key_of e)) (none_noted n _ _ (untouched (renew_row e head s))) (λ x. told_use e _ (Joining (nothing_to_come x)) (renew_row e head s))))
      (no_use s none)

  not_modified_so : (head : Response) (s : State) → filled_of e ≡ None → Notes n s (not_modified e head s)
  unfolding not_modified
  not_modified_so head s none =
      notes_when n s (forbids_sharing head) (unshared s)
      (notes_when n s (is_of_another head s (key_of e)) (then_notes n s (clear (key_of e) s) _ (clear-untouched (key_of e) s) (no_use (clear (key_of e) s) none)) (unchanged_so head s none))

  pub relays : (head : Response) (rule : BodyRule) (s : State) → Notes n s (relay_head e head rule s)
  unfolding relay_head
  relays head rule s = told_use e _ (relayed e s) s

  others : (head : Response) (rule : BodyRule) (s : State) → Notes n s (other_head e head rule s)
  unfolding other_head
  others head rule s =
      notes_when n s (is_widened e head) (then_notes n s (cleared_by head e s) _ (cleared_by-untouched head e s) (told_use e TooWide Dropping (cleared_by head e s)))
      (then_notes n s (cleared_by head e s) _ (cleared_by-untouched head e s) (relays head rule (cleared_by head e s)))

  pub owns : (head : Response) (rule : BodyRule) (s : State) → filled_of e ≡ None → Notes n s (own_head e head rule s)
  unfolding own_head
  owns head rule s none = notes_each n s (version_in e head) (notes_when n s (head.status == 304) (not_modified_so head s none) (others head rule s)) (λ v. settles head v s none)

  pub throughs : (head : Response) (rule : BodyRule) (s : State) → Notes n s (through_head e head rule s)
  unfolding through_head
  throughs head rule s =
      then_notes n s (disproved e head (invalidated e head s)) _
      (untouched_on s (invalidated e head s) _ (invalidated-untouched e head s) (disproved-untouched e head (invalidated e head s)))
      (relays head rule (disproved e head (invalidated e head s)))

-- ---- so its exchange is there

pub behind_of : (e : Exchange) (s t : State) → exchange s e.number ≡ Some e → Notes e.number s t → HasNotedBody e s t
behind_of e s t known it = by it.body it.exchanges
  where
    by : (o : Option Body) → t.exchanges ≡ noted_in e.number o s.exchanges → HasNotedBody e s t
    by None same = record {
      body = e.body;
      asker = e.asker;
      client = inl refl;
      known = ap (λ (es : List Exchange). find (is_exchange e.number) es) same ∙ known;
      conns = it.conns;
      once = λ n one. subst (λ (es : List Exchange). count_by (is_of n) es ≤ 1) (sym same) one;
    }
    by (Some body) same = record {
      body = body;
      asker = e.asker;
      client = inl refl;
      known = ap (λ (es : List Exchange). find (is_exchange e.number) es) same ∙ find_there e.number (noting body) (λ x. refl) s.exchanges e known;
      conns = it.conns;
      once = λ n one.
          subst (λ (es : List Exchange). count_by (is_of n) es ≤ 1) (sym same)
          (subst (λ (i : ℕ). i ≤ 1) (sym (count_mapped_same (is_of n) (λ x. elim (is_exchange e.number x) as (λ t. Exchange) [ true ↦ noting body x | false ↦ x ]) s.exchanges (λ x. asker x body n (is_exchange e.number x)))) one);
    }
      where
        asker : (x : Exchange) (to : Body) (n : ℕ) (b : Bool) → is_of n (elim b as (λ t. Exchange) [ true ↦ noting to x | false ↦ x ]) ≡ is_of n x
        asker x to n true = refl
        asker x to n false = refl

-- ---- it ends alike

asked_by_none : (f : Client → Client) (cs : List Client) → map (λ c. elim false as (λ t. Client) [ true ↦ f c | false ↦ c ]) cs ≡ cs
asked_by_none f [] = refl
asked_by_none f (c ∷ cs) = ap (λ (ds : List Client). c ∷ ds) (asked_by_none f cs)

none_passed : (e : Exchange) (f : Passed → Passed) (cs : List Client) → ((c : Client) → IsIn c cs → is_for e c ≡ true → passed_of c ≡ None) → change (is_for e) (on_passed f) cs ≡ cs
none_passed e f [] none = refl
none_passed e f (c ∷ cs) none = ap₂ (λ (d : Client) (ds : List Client). d ∷ ds) (by (is_for e c) refl) (none_passed e f cs (λ d among. none d (inr among)))
  where
    by : (b : Bool) → is_for e c ≡ b → (elim b as (λ t. Client) [ true ↦ on_passed f c | false ↦ c ]) ≡ c
    by true is = ap (λ (o : Option Passed). elim o as (λ t. Client) [ None ↦ c | Some p ↦ record c { brought = Passes (f p) } ]) (none c (inl refl) is)
    by false is = refl

pour_none : (e : Exchange) (f : Pipe → Pipe) (s : State) → NoneIsPassed e s → pour e f s ≡ s
unfolding pour on_client_of
pour_none e f s none = ap (λ (cs : List Client). record s { clients = cs }) (none_passed e (λ p. record p { pipe = f p.pipe }) s.clients none)

pour_alone : (e : Exchange) (body : Body) (f : Pipe → Pipe) (s : State) → pour (going_to None body e) f s ≡ s
unfolding pour on_client_of
pour_alone e body f s = ap (λ (cs : List Client). record s { clients = cs }) (asked_by_none (on_passed (λ p. record p { pipe = f p.pipe })) s.clients)

skip_none : (e : Exchange) (s : State) → is_some (filled_of e) ≡ true → skip_body e s ≡ s
unfolding skip_body
skip_none e s filling = by e.aim filling
  where
    by : (a : Aim) → is_some (elim a as (λ o. Option Version) [ Through ↦ None | Own ↦ None | Filling v from to ↦ Some v ]) ≡ true → (elim a as (λ t. State) [ Through ↦ on_client_of e skipping s | Own ↦ s | Filling v from to ↦ s ]) ≡ s
    by Through is = absurd (cc is)
    by Own is = refl
    by (Filling v from to) is = refl

ends_as : (k : Conn) (e : Exchange) (body : Body) (a : Answer) (s : State) → finish k (going_to e.asker body e) a s ≡ finish k e a s
unfolding finish skip_body pour on_client_of
ends_as k e body a s = refl

ends_from : (k : Conn) (e d : Exchange) (a : Answer) (s : State) → d.number ≡ e.number → d.body_left ≡ e.body_left → d.head ≡ e.head → skip_body d (pour d finished s) ≡ skip_body e (pour e finished s) → finish k d a s ≡ finish k e a s
unfolding finish
ends_from k e d a s number left head same =
    ap (λ (t : State). by (may_go_on d a.head) (on_conn k.number (rested a.head) (end_exchange d.number t))) same
    ∙ ap (λ (m : ℕ). by (may_go_on d a.head) (on_conn k.number (rested a.head) (end_exchange m (skip_body e (pour e finished s))))) number
    ∙ ap₂ (λ (m : ℕ) (h : Request). by (stays_open a.head && (m == 0) && not (binds_connection h.fields)) (on_conn k.number (rested a.head) (end_exchange e.number (skip_body e (pour e finished s))))) left head
  where
    by : Bool → State → State
    by b done = elim b as (λ t. State) [ true ↦ done | false ↦ close_this k.number done ]

pub ends_alike : ExchangesEndAlike
ends_alike k e asker body a s (inl same) = subst (λ (o : Option ℕ). finish k (going_to o body e) a s ≡ finish k e a s) (sym same) (ends_as k e body a s)
ends_alike k e asker body a s (inr lost) = subst (λ (o : Option ℕ). finish k (going_to o body e) a s ≡ finish k e a s) (sym lost.none) (ends_from k e alone a s refl refl refl both)
  where
    alone : Exchange
    alone = going_to None body e

    both : skip_body alone (pour alone finished s) ≡ skip_body e (pour e finished s)
    both =
        ap (λ (t : State). skip_body alone t) (pour_alone e body finished s) ∙ skip_none alone s lost.aim ∙ sym (skip_none e s lost.aim) ∙ ap (λ (t : State). skip_body e t) (sym (pour_none e finished s lost.passed))
