-- The head of a response lets the clients of exchanges go on: none is closed by it, and of what it passes to one more is to come.
use Rattle.std.proofs.Common.{◌≡◌, refl, sym, ap, ◌∙◌, ℕ, Bool, true, false, not, ◌==◌, ◌&&◌, List, [], ◌∷◌, codes, Option, Some, None}
use Rattle.std.specs.List.{list_any}
use Rattle.std.specs.Prelude.{option_map}
use Rattle.pp_cache_law.proofs.Finds.{find_mapped}
use Rattle.pp_cache_law.proofs.Numbers.{some_is}
use Rattle.pp_events_law.proofs.Standing.{go_as, go_through}
use Rattle.pp_flow_law.proofs.Entries.{none_some}
use Rattle.pp_framing.specs.declared.body.BodyRule.{BodyRule}
use Rattle.pp_head.specs.Response.{Response}
use Rattle.pp_law.specs.Closing.{left_alone}
use Rattle.pp_law.specs.Connections.{attempts_of, charge, exchange, give_up_row, is_exchange, is_for, is_unfilled, lose_attempt, lost_one, on_client_of, on_conn, on_exchange, without_row, without_shared_row}
use Rattle.pp_law.specs.Lists.{Bytes, is_some_with}
use Rattle.pp_law.specs.OwnHeads.{cleared_by, clears_row, count_elsewhere, drop_answer, filling_head, forbids_sharing, is_asked_by, is_bound, is_of_another, is_private_part, is_widened, key_of, known_version, lacks_next, may_join, may_refresh, names_version, not_modified, not_shared, nothing_to_come, other_head, other_part, own_head, part_head, relay_head, relayed, renew, renew_row, settle, settle_known, settle_on, settle_unchanged, span_to_come, tell, times_for, unchanged, use_body, useless, version_in}
use Rattle.pp_law.specs.Passing.{passed_by}
use Rattle.pp_law.specs.Responses.{answer_with, answered_by, bring_row, by_aim}
use Rattle.pp_law.specs.Stages.{is_begun}
use Rattle.pp_law.specs.State.{State, Aim, Body, Brought, TooWide, Useless, Joins, Joining, Dropping, Passes, Through, Own, Filling, Client, Conn, Exchange, Passed}
use Rattle.pp_law.specs.Table.{clear, mark_row, on_instance, row}
use Rattle.pp_law.specs.ThroughHeads.{clear_each, clear_named, disproved, disproves, invalidated, invalidates, is_same_host, key_named, places_named, reads, through_head}
use Rattle.pp_laws_turn.proofs.Rows.{clear-keeps, make_row-keeps}
use Rattle.pp_laws_turn.proofs.View.{Holds, KeepsRows, View, facts_of, holds}
use Rattle.pp_objects.specs.Kept.{kept_of}
use Rattle.pp_states_law.proofs.Charged.{lost_given}
use Rattle.pp_states_law.proofs.Kept.{GoesThrough, WasExchange, all_go}
use Rattle.pp_states_law.proofs.Paid.{KeepsAll, without_row_keeps}
use Rattle.pp_states_law.specs.Charges.{GoesOn}
use Rattle.pp_states_law.specs.Lines.{AllGo}
use Rattle.pp_states_law.specs.Losses.{IsComing}
use Rattle.pp_target.specs.Key.{Key, text_of}
use Rattle.pp_text.specs.Fields.{has_field}
use Rattle.pp_valid.specs.declared.version.Version.{Version}
use Rattle.pp_reads_law.proofs.Brings.{IsBeside, beside_brought}
use Rattle.pp_reads_law.specs.Empties.{HeadsLetAllGo}

go_when : (b : Bool) {x y : State} → AllGo x → AllGo y → AllGo (elim b as (λ t. State) [ true ↦ x | false ↦ y ])
go_when true hx hy = hx
go_when false hx hy = hy

go_each : {A : Type 0} (o : Option A) {x : State} {y : A → State} → AllGo x → ((a : A) → AllGo (y a)) → AllGo (elim o as (λ t. State) [ None ↦ x | Some a ↦ y a ])
go_each None hx hy = hx
go_each (Some a) hx hy = hy a

-- ---- rows leave clients and exchanges as they are

record AreThose (s : State) (v : View) : Type 0 where
  clients : v.clients ≡ s.clients
  exchanges : v.exchanges ≡ s.exchanges

those : (s : State) → Holds (AreThose s) s
those s = holds (record { clients = refl; exchanges = refl })

rows : (s : State) → KeepsRows (AreThose s)
rows s xs next v from h = record { clients = h.clients; exchanges = h.exchanges }

go_those : (s t : State) → Holds (AreThose s) t → AllGo s → AllGo t
go_those s t h = go_as s t (facts_of h).clients (facts_of h).exchanges

clear_go : (key : Bytes) (s : State) → AllGo s → AllGo (clear key s)
clear_go key s = go_those s (clear key s) (clear-keeps (rows s) key s (those s))

cleared_go : (head : Response) (e : Exchange) (s : State) → AllGo s → AllGo (cleared_by head e s)
unfolding cleared_by
cleared_go head e s all = go_when (clears_row head) (clear_go (key_of e) s all) all

renewed_go : (e : Exchange) (head : Response) (s : State) → AllGo s → AllGo (renew_row e head s)
unfolding renew_row renew on_instance mark_row
renewed_go e head s all = go_each (row s (key_of e)) all (λ x. go_as s _ refl refl all)

named_go : (key : Key) (text : Bytes) (s : State) → AllGo s → AllGo (clear_named key text s)
unfolding clear_named
named_go key text s all = go_each (key_named key text) all (λ named. go_when (is_same_host named key) (clear_go (text_of named) s all) all)

each_go : (key : Key) (texts : List Bytes) (s : State) → AllGo s → AllGo (clear_each key texts s)
unfolding clear_each
each_go key [] s all = all
each_go key (text ∷ texts) s all = each_go key texts (clear_named key text s) (named_go key text s all)

invalidated_go : (e : Exchange) (head : Response) (s : State) → AllGo s → AllGo (invalidated e head s)
unfolding invalidated
invalidated_go e head s all = go_when (invalidates e head) (each_go e.key (places_named head) (clear (key_of e) s) (clear_go (key_of e) s all)) all

disproved_go : (e : Exchange) (head : Response) (s : State) → AllGo s → AllGo (disproved e head s)
unfolding disproved
disproved_go e head s all = go_when (reads e && is_some_with (disproves head) (known_version s (key_of e))) (clear_go (key_of e) s all) all

-- ---- clients

keeps_through : (f : Client → Client) → KeepsAll f → GoesThrough f
keeps_through f keeps = record {
  number = keeps.number;
  goes = λ c on. record { going = keeps.closing c ∙ on.going; given = keeps.given c on.given };
  comes = λ c on. ap (λ (o : Option Passed). is_some_with (λ p. p.pipe.is_finished) o) (keeps.passed c) ∙ on;
}

at_some : (test : Client → Bool) (f : Client → Client) → GoesThrough f → GoesThrough (λ c. elim (test c) as (λ t. Client) [ true ↦ f c | false ↦ c ])
at_some test f goes = record { number = λ c. number_by c (test c); goes = λ c. goes_by c (test c); comes = λ c. comes_by c (test c) }
  where
    number_by : (c : Client) (b : Bool) → (elim b as (λ t. Client) [ true ↦ f c | false ↦ c ]).number ≡ c.number
    number_by c true = goes.number c
    number_by c false = refl

    goes_by : (c : Client) (b : Bool) → GoesOn c → GoesOn (elim b as (λ t. Client) [ true ↦ f c | false ↦ c ])
    goes_by c true on = goes.goes c on
    goes_by c false on = on

    comes_by : (c : Client) (b : Bool) → IsComing c → IsComing (elim b as (λ t. Client) [ true ↦ f c | false ↦ c ])
    comes_by c true on = goes.comes c on
    comes_by c false on = on

client_go : (e : Exchange) (f : Client → Client) (s : State) → GoesThrough f → AllGo s → AllGo (on_client_of e f s)
unfolding on_client_of
client_go e f s goes = go_through (λ c. elim (is_for e c) as (λ t. Client) [ true ↦ f c | false ↦ c ]) (at_some (is_for e) f goes) s (on_client_of e f s) refl refl

-- what is told is not whole
tell_go : (e : Exchange) (b : Brought) (s : State) → ((c : Client) → IsComing (record c { brought = b })) → AllGo s → AllGo (tell e b s)
unfolding tell
tell_go e b s coming = go_through (λ c. elim (is_asked_by e c) as (λ t. Client) [ true ↦ record c { brought = b } | false ↦ c ]) (at_some (is_asked_by e) (λ c. record c { brought = b }) told) s (tell e b s) refl refl
  where
    told : GoesThrough (λ c. record c { brought = b })
    told = record { number = λ c. refl; goes = λ c on. record { going = on.going; given = on.given }; comes = λ c on. coming c }

without_shared_through : (most : ℕ) → GoesThrough (without_shared_row most)
without_shared_through most = record { number = λ c. number_by c (c.has_given_up && not (is_begun c)); goes = λ c. goes_by c (c.has_given_up && not (is_begun c)); comes = λ c. comes_by c (c.has_given_up && not (is_begun c)) }
  where
    less : GoesThrough without_row
    less = keeps_through without_row without_row_keeps

    number_by : (c : Client) (b : Bool) → (elim b as (λ t. Client) [ true ↦ record c { course = lost_one most c.course } | false ↦ without_row c ]).number ≡ c.number
    number_by c true = refl
    number_by c false = less.number c

    goes_by : (c : Client) (b : Bool) → GoesOn c → GoesOn (elim b as (λ t. Client) [ true ↦ record c { course = lost_one most c.course } | false ↦ without_row c ])
    goes_by c true on = record { going = on.going; given = lost_given most c.course on.given }
    goes_by c false on = less.goes c on

    comes_by : (c : Client) (b : Bool) → IsComing c → IsComing (elim b as (λ t. Client) [ true ↦ record c { course = lost_one most c.course } | false ↦ without_row c ])
    comes_by c true on = on
    comes_by c false on = less.comes c on

-- ---- exchanges

-- one is changed, and asked by nobody else
ask_go : (n : ℕ) (f : Exchange → Exchange) (s : State) → ((e : Exchange) → (f e).number ≡ e.number) → ((e : Exchange) (m : ℕ) → (f e).asker ≡ Some m → e.asker ≡ Some m) → AllGo s → AllGo (on_exchange n f s)
unfolding on_exchange
ask_go n f s number asker =
    all_go 0 s (on_exchange n f s)
    (record {
      apart = λ is. is;
      empty = λ none. none;
      client = λ m c found. record { before = c; there = found; goes = λ on. on; comes = λ on. on };
      exchange = λ m d found. was m d (exchange s m) refl (sym (find_mapped (is_exchange m) at s.exchanges (λ e. ap (λ (i : ℕ). i == m) (at_number e (is_exchange n e)))) ∙ found);
    })
  where
    at : Exchange → Exchange
    at e = elim (is_exchange n e) as (λ t. Exchange) [ true ↦ f e | false ↦ e ]

    at_number : (e : Exchange) (b : Bool) → (elim b as (λ t. Exchange) [ true ↦ f e | false ↦ e ]).number ≡ e.number
    at_number e true = number e
    at_number e false = refl

    at_asker : (e : Exchange) (m : ℕ) (b : Bool) → (elim b as (λ t. Exchange) [ true ↦ f e | false ↦ e ]).asker ≡ Some m → e.asker ≡ Some m
    at_asker e m true is = asker e m is
    at_asker e m false is = is

    was : (m : ℕ) (d : Exchange) (o : Option Exchange) → exchange s m ≡ o → option_map at o ≡ Some d → WasExchange s m d
    was m d None is found = absurd (none_some d found)
    was m d (Some e) is found = record { before = e; there = is; asker = λ i asks. at_asker e i (is_exchange n e) (ap (λ (x : Exchange). x.asker) (some_is (at e) d found) ∙ asks) }

body_go : (e : Exchange) (body : Body) (s : State) → AllGo s → AllGo (use_body e body s)
unfolding use_body
body_go e body s = ask_go e.number (λ x. record x { body = body }) s (λ x. refl) (λ x m is. is)

given_up_go : (e : Exchange) (s : State) → AllGo s → AllGo (give_up_row e s)
unfolding give_up_row
given_up_go e s all =
    go_when (is_unfilled s e)
    (ask_go e.number left_alone _ (λ x. refl) (λ x m is. absurd (none_some m is)) (client_go e without_row (clear (text_of e.key) s) (keeps_through without_row without_row_keeps) (clear_go (text_of e.key) s all)))
    all

attempt_go : (e : Exchange) (s : State) → AllGo s → AllGo (lose_attempt e s)
unfolding lose_attempt charge
attempt_go e s all =
    given_up_go e _
    (client_go e (λ c. record c { course = lost_one (attempts_of e) c.course }) s
    (record { number = λ c. refl; goes = λ c on. record { going = on.going; given = lost_given (attempts_of e) c.course on.given }; comes = λ c on. on }) all)

-- ---- heads

module _ (e : Exchange) where
  drop_go : (s : State) → AllGo s → AllGo (drop_answer e s)
  unfolding drop_answer
  drop_go s all = tell_go e Useless (use_body e Dropping s) (λ c. refl) (body_go e Dropping s all)

  useless_go : (s : State) → AllGo s → AllGo (useless e s)
  unfolding useless
  useless_go s all = attempt_go e (drop_answer e s) (drop_go s all)

  unshared_go : (s : State) → AllGo s → AllGo (not_shared e s)
  unfolding not_shared
  unshared_go s all = client_go e (without_shared_row (attempts_of e)) (drop_answer e (clear (key_of e) s)) (without_shared_through (attempts_of e)) (drop_go (clear (key_of e) s) (clear_go (key_of e) s all))

  settled_go : (head : Response) (v : Version) (s : State) → AllGo s → AllGo (settle_on e head v s)
  unfolding settle_on
  settled_go head v s all =
      go_each (row s (key_of e)) all
      (λ x. tell_go e (Joins x.id (not (has_field (codes "age") head.fields))) (use_body e (Joining (span_to_come e head v x.id)) s) (λ c. refl) (body_go e (Joining (span_to_come e head v x.id)) s all))

  known_go : (head : Response) (v : Version) (s : State) → AllGo s → AllGo (settle_known e head v s)
  unfolding settle_known
  known_go head v s all = go_when (may_refresh e head s) (settled_go head v (renew_row e head s) (renewed_go e head s all)) (useless_go s all)

  settle_go : (head : Response) (v : Version) (s : State) → AllGo s → AllGo (settle e head v s)
  unfolding settle
  settle_go head v s all =
      go_when (is_some_with (may_join e head v) (known_version s (key_of e)))
      (known_go head v s all)
      (settled_go head v _ (go_those s _ (make_row-keeps (rows s) (key_of e) v (kept_of head.fields (times_for e head s)) (times_for e head s) s (those s)) all))

  unchanged_go : (head : Response) (s : State) → AllGo s → AllGo (unchanged e head s)
  unfolding unchanged settle_unchanged
  unchanged_go head s all =
      let renewed : AllGo (renew_row e head s) = renewed_go e head s all in
      go_when (is_some_with (names_version e) (known_version s (key_of e)) && may_refresh e head s)
      (go_each (row (renew_row e head s) (key_of e)) renewed
      (λ x. tell_go e (Joins x.id false) (use_body e (Joining (nothing_to_come x)) (renew_row e head s)) (λ c. refl) (body_go e (Joining (nothing_to_come x)) (renew_row e head s) renewed)))
      (useless_go s all)

  not_modified_go : (head : Response) (s : State) → AllGo s → AllGo (not_modified e head s)
  unfolding not_modified
  not_modified_go head s all =
      go_when (forbids_sharing head) (unshared_go s all)
      (go_when (is_of_another head s (key_of e)) (useless_go (clear (key_of e) s) (clear_go (key_of e) s all)) (unchanged_go head s all))

  relays_go : (head : Response) (rule : BodyRule) (s : State) → AllGo s → AllGo (relay_head e head rule s)
  unfolding relay_head
  relays_go head rule s all = tell_go e (Passes (passed_by e head rule)) (use_body e (relayed e s) s) (λ c. refl) (body_go e (relayed e s) s all)

  others_go : (head : Response) (rule : BodyRule) (s : State) → AllGo s → AllGo (other_head e head rule s)
  unfolding other_head
  others_go head rule s all =
      let cleared : AllGo (cleared_by head e s) = cleared_go head e s all in
      go_when (is_widened e head) (tell_go e TooWide (use_body e Dropping (cleared_by head e s)) (λ c. refl) (body_go e Dropping (cleared_by head e s) cleared)) (relays_go head rule (cleared_by head e s) cleared)

  part_go : (head : Response) (rule : BodyRule) (s : State) → AllGo s → AllGo (other_part e head rule s)
  unfolding other_part
  part_go head rule s all = go_when (is_private_part head) (unshared_go s all) (go_when (clears_row head) (relays_go head rule (cleared_by head e s) (cleared_go head e s all)) (useless_go s all))

  owns_go : (head : Response) (rule : BodyRule) (s : State) → AllGo s → AllGo (own_head e head rule s)
  unfolding own_head
  owns_go head rule s all = go_each (version_in e head) (go_when (head.status == 304) (not_modified_go head s all) (others_go head rule s all)) (λ v. settle_go head v s all)

  fills_go : (head : Response) (rule : BodyRule) (s : State) → AllGo s → AllGo (part_head e head rule s)
  unfolding part_head
  fills_go head rule s all = go_each (version_in e head) (go_when (head.status == 304) (not_modified_go head s all) (part_go head rule s all)) (λ v. settle_go head v s all)

  counted_go : (s : State) → AllGo s → AllGo (count_elsewhere e s)
  unfolding count_elsewhere
  counted_go s all = go_when (is_some_with is_bound (exchange s e.number) && list_any (λ c. is_for e c && lacks_next s c) s.clients) (attempt_go e s all) all

  throughs_go : (head : Response) (rule : BodyRule) (s : State) → AllGo s → AllGo (through_head e head rule s)
  unfolding through_head
  throughs_go head rule s all = relays_go head rule (disproved e head (invalidated e head s)) (disproved_go e head (invalidated e head s) (invalidated_go e head s all))

  by_aim_go : (head : Response) (rule : BodyRule) (s : State) → AllGo s → AllGo (by_aim e head rule s)
  unfolding by_aim filling_head
  by_aim_go head rule s all = by e.aim
    where
      by : (aim : Aim) → AllGo (elim aim as (λ t. State) [ Through ↦ through_head e head rule s | Own ↦ own_head e head rule s | Filling v from to ↦ filling_head e head rule s ])
      by Through = throughs_go head rule s all
      by Own = owns_go head rule s all
      by (Filling v from to) = counted_go (part_head e head rule s) (fills_go head rule s all)

brought_go : (e : Exchange) (head : Response) (s : State) → AllGo s → AllGo (bring_row e head s)
brought_go e head s = let beside : IsBeside s (bring_row e head s) = beside_brought e head s in go_as s (bring_row e head s) beside.clients beside.exchanges

answered_go : (k : Conn) (e : Exchange) (head : Response) (rule : BodyRule) (s : State) → AllGo s → AllGo (on_conn k.number (answered_by (answer_with e head rule)) s)
unfolding on_conn
answered_go k e head rule s = go_as s (on_conn k.number (answered_by (answer_with e head rule)) s) refl refl

pub heads_let_go : HeadsLetAllGo
heads_let_go k e head rule s all = by_aim_go e head rule _ (answered_go k e head rule (bring_row e head s) (brought_go e head s all))
