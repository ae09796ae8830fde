-- What is decided for a request leaves it so.
use Rattle.std.proofs.Common.{◌≡◌, refl, ℕ, true, Option, Some, None, Result, Ok, Err, sym, subst, ap, ◌∙◌}
use Rattle.pp_ask.specs.declared.kind.AskKind.{AskKind}
use Rattle.pp_head.specs.Request.{Request}
use Rattle.pp_target.specs.Key.{Key, text_of}
use Rattle.pp_target.specs.declared.target.TargetFault.{TargetFault}
use Rattle.pp_world.specs.declared.note.Decision.{Decision}
use Rattle.pp_world.specs.declared.note.Decision.TheVariants.{Refuse, Hit, Part, Head, NotModified, Unsatisfiable, Relay, Validate, Fetch, Pass}
use Rattle.pp_law.specs.Closing.{is_of}
use Rattle.pp_law.specs.Connections.{is_client, on_client}
use Rattle.pp_law.specs.Deciding.{answering_with, ask_as, ask_for, ask_origin, asking_with, decided, decided_by, enter_row, follow, follow_row, follow_with, new_exchange, refuse, refused_with, relay, reply_by, stage_for}
use Rattle.pp_law.specs.Decisions.{kind_of}
use Rattle.pp_law.specs.Requests.{Front, Parsed, NoHeadYet, NoHead as NoFront, IsRequest, parsed_in}
use Rattle.pp_law.specs.Stages.{is_passing}
use Rattle.pp_law.specs.State.{State, Answering, Client, Instance, Reply}
use Rattle.pp_law.specs.Table.{row, row_for}
use Rattle.pp_laws.specs.Runs.{IsIn}
use Rattle.pp_laws.proofs.Lists.{one_of}
use Rattle.pp_laws.proofs.Sound.{Since, Sound, client_number, facts_of as sound_facts}
use Rattle.pp_laws.proofs.Tests.{same_number}
use Rattle.pp_laws_replies.proofs.Spans.{span_order}
use Rattle.pp_laws_replies.specs.ByRow.{is_by_row}
use Rattle.pp_laws_replies.proofs.Quiet.{Quietly, facts_of, quiet_same}
use Rattle.pp_laws_replies.proofs.QuietAsks.{begin_exchange-quiet, leave-quiet}
use Rattle.pp_laws_replies.proofs.QuietRows.{swept-quiet}
use Rattle.pp_laws_replies.proofs.QuietTurns.{enter_row-quiet}
use Rattle.pp_laws_replies.proofs.StoryDecided.{IsRowFor, row_for_it}
use Rattle.pp_laws_replies.proofs.Usable.{UsedRow}
use Rattle.pp_laws_left.proofs.Begins.{empty}
use Rattle.pp_laws_left.proofs.Fine.{AllFine, Fine, GoesOn, answers, changed_fine, quiet_fine}

-- what is decided is there: a request
pub record IsAsked (c : Client) : Type 0 where
  pub request : Parsed
  pub front : c.front ≡ IsRequest request

asked_head : (c e : Client) → e.front ≡ c.front → IsAsked c → parsed_in e.front ≡ None → ⊥
asked_head c e same asked none = let both : Some asked.request ≡ None = sym (ap parsed_in (same ∙ asked.front)) ∙ none in cc both

abbrev AreAlike : Client → State → Type 0
AreAlike c s = (e : Client) → IsIn e s.clients → e.number ≡ c.number → e.front ≡ c.front

-- ---- pages, asks, replies that are passed

pub waits_for : (d : Decision) (r : Reply) → stage_for d ≡ Answering r → ⊥
waits_for Pass r is = cc is
waits_for (Refuse status) r is = cc is
waits_for (Hit from to) r is = cc is
waits_for (Part from to) r is = cc is
waits_for Head r is = cc is
waits_for NotModified r is = cc is
waits_for Unsatisfiable r is = cc is
waits_for Relay r is = cc is
waits_for Validate r is = cc is
waits_for Fetch r is = cc is

page_of : (status : ℕ) (c : Client) → (r : Reply) → (refused_with status c).stage ≡ Answering r → GoesOn r × (r.has_begun ≡ true)
page_of status c r is =
    let e : (record { decision = Refuse status; source = None; has_begun = true; head_left = r.head_left; at = 0; to = 0 }) ≡ r = cc is in
    (empty r (ap (λ (x : Reply). x.at) (sym e)) (ap (λ (x : Reply). x.to) (sym e)), ap (λ (x : Reply). x.has_begun) (sym e))

refused_fine : (status : ℕ) (c : Client) → Fine (refused_with status c)
refused_fine status c = let w = page_of status c _ refl in answers (refused_with status c) _ refl w.0 (λ none. w.1)

asking_fine : (d : Decision) (c : Client) → (parsed_in c.front ≡ None → ⊥) → Fine (asking_with d c)
asking_fine d c asked = record { reply = λ r is. absurd (waits_for d r is); place = λ none. absurd (asked none) }

refuse_fine : (c : Client) (status : ℕ) (s : State) → AllFine s → AllFine (refuse c status s)
unfolding refuse on_client
refuse_fine c status s h =
    quiet_fine _ _ (swept-quiet _ (leave-quiet (is_of c.number) _ (quiet_same _)))
    (changed_fine s (is_client c.number) (refused_with status) (λ d i hit h_d. refused_fine status d) h)

ask_for_fine : (c : Client) (d : Decision) (head : Request) (key : Key) (kind : AskKind) (s : State) → AreAlike c s → IsAsked c → AllFine s → AllFine (ask_for c d head key kind s)
unfolding ask_for on_client
ask_for_fine c d head key kind s one asked h =
    quiet_fine _ _ (swept-quiet _ (begin_exchange-quiet (new_exchange s c head key d kind) _ (leave-quiet (is_of c.number) _ (quiet_same _))))
    (changed_fine s (is_client c.number) (asking_with d) (λ e i hit h_e. asking_fine d e (asked_head c e (one e i (same_number e.number c.number hit)) asked)) h)

ask_origin_fine : (c : Client) (d : Decision) (s : State) → AreAlike c s → AllFine s → AllFine (ask_origin c d s)
unfolding ask_origin ask_as
ask_origin_fine c d s one h = by_front c.front refl
  where
    by_kind : (head : Request) (key : Key) (o : Option AskKind) → IsAsked c → AllFine (elim o as (λ x. State) [ None ↦ s | Some kind ↦ ask_for c d head key kind s ])
    by_kind head key None asked = h
    by_kind head key (Some kind) asked = ask_for_fine c d head key kind s one asked h

    by_key : (r : Parsed) (named : Result Key TargetFault) → IsAsked c → AllFine (elim named as (λ x. State) [ Ok key ↦ ask_as c d r.head key s | Err fault ↦ s ])
    by_key r (Ok key) asked = by_kind r.head key (kind_of r.head (row_for s r.head (text_of key)) d) asked
    by_key r (Err fault) asked = h

    by_front : (front : Front) → c.front ≡ front → AllFine (elim front as (λ x. State) [
      | NoHeadYet ↦ s
      | NoFront status ↦ s
      | IsRequest r ↦ elim r.key as (λ y. State) [ Ok key ↦ ask_as c d r.head key s | Err fault ↦ s ]
    ])
    by_front NoHeadYet is = h
    by_front (NoFront status) is = h
    by_front (IsRequest r) is = by_key r r.key (record { request = r; front = is })

-- one that has not begun, for a request that is there
answering_fine : (c e : Client) (r : Reply) → e.front ≡ c.front → IsAsked c → GoesOn r → Fine (answering_with r e)
answering_fine c e r same asked goes = answers (answering_with r e) r refl goes (λ none. absurd (asked_head c e same asked none))

relay_fine : (c : Client) (s : State) → AreAlike c s → IsAsked c → AllFine s → AllFine (relay c s)
unfolding relay on_client
relay_fine c s one asked h =
    quiet_fine _ _ (swept-quiet _ (quiet_same _))
    (changed_fine s (is_client c.number) (answering_with (reply_by Relay None)) (λ e i hit h_e. answering_fine c e (reply_by Relay None) (one e i (same_number e.number c.number hit)) asked (empty (reply_by Relay None) refl refl)) h)

-- ---- a reply by the row

pub rows_pass : (d : Decision) → is_by_row d ≡ true → is_passing d ≡ true → ⊥
rows_pass (Refuse status) is on = cc on
rows_pass (Hit from to) is on = cc on
rows_pass (Part from to) is on = cc on
rows_pass Head is on = cc on
rows_pass NotModified is on = cc on
rows_pass Unsatisfiable is on = cc on
rows_pass Relay is on = cc is
rows_pass Validate is on = cc on
rows_pass Fetch is on = cc on
rows_pass Pass is on = cc is

follow_fine : (c : Client) (d : Decision) (s : State) → is_by_row d ≡ true → AreAlike c s → IsRowFor c d s → AllFine s → AllFine (follow c d s)
unfolding follow follow_row follow_with on_client
follow_fine c d s by same_front w h = subst (λ o. AllFine (elim o as (λ x. State) [ None ↦ s | Some key ↦ follow_row c d (text_of key) s ])) (sym w.names) (at (row s (text_of w.key)) refl)
  where
    goes : (x : Instance) → row s (text_of w.key) ≡ Some x → GoesOn (reply_by d (Some x.id))
    goes x found = record {
      even = λ on. absurd (rows_pass d by on);
      within = span_order w.request.head x.version d (w.shows x found);
      sourced = λ lt. refl;
    }

    at : (o : Option Instance) → row s (text_of w.key) ≡ o → AllFine (elim o as (λ y. State) [ None ↦ s | Some x ↦ follow_with c (reply_by d (Some x.id)) x s ])
    at None found = h
    at (Some x) found =
        quiet_fine _ _ (swept-quiet _ (leave-quiet _ _ (quiet_same _)))
        (changed_fine s (is_client c.number) (answering_with (reply_by d (Some x.id)))
        (λ e i hit h_e. answering_fine c e (reply_by d (Some x.id)) (same_front e i (same_number e.number c.number hit)) (record { request = w.request; front = w.asks }) (goes x found)) h)

-- ---- all

pub decided_fine : {b : Since} (c : Client) (d : Decision) (s : State) → IsIn c s.clients → (is_by_row d ≡ true → UsedRow s c d) → (d ≡ Relay → IsAsked c) → Sound b s → AllFine s → AllFine (decided c d s)
unfolding decided decided_by
decided_fine {b} c d s there used asked hs h = by d refl
  where
    t : State
    t = enter_row c d s

    quiet : Quietly s t
    quiet = enter_row-quiet c d s (quiet_same s)

    ht : AllFine t
    ht = quiet_fine s t quiet h

    -- the one with its number is as it was
    one : AreAlike c t
    one e i number =
        let f = (facts_of quiet).clients_from e i in
        f.is.front ∙ ap (λ (x : Client). x.front) (one_of client_number s.clients f.was c (sound_facts hs).callers.rise f.there there (sym f.is.number ∙ number))

    followed : (e : Decision) → d ≡ e → is_by_row e ≡ true → AllFine (follow c e t)
    followed e is by_row =
        subst (λ x. AllFine (follow c x t)) is (follow_fine c d t (ap is_by_row is ∙ by_row) one (row_for_it c d s (ap is_by_row is ∙ by_row) hs (used (ap is_by_row is ∙ by_row))) ht)

    by : (e : Decision) → d ≡ e → AllFine (decided_by c e t)
    by (Refuse status) is = refuse_fine c status t ht
    by Pass is = ask_origin_fine c Pass t one ht
    by Fetch is = ask_origin_fine c Fetch t one ht
    by Validate is = ask_origin_fine c Validate t one ht
    by Relay is = relay_fine c t one (asked is) ht
    by (Hit from to) is = followed (Hit from to) is refl
    by (Part from to) is = followed (Part from to) is refl
    by Head is = followed Head is refl
    by NotModified is = followed NotModified is refl
    by Unsatisfiable is = followed Unsatisfiable is refl
