-- What is decided for a request fits.
use Rattle.std.proofs.Common.{◌≡◌, ◌<◌, ◌≤◌, refl, ℕ, true, List, Option, Some, None, Result, Ok, Err, sym, subst, ap, ◌∙◌}
use Rattle.pp_ask.specs.declared.kind.AskKind.{AskKind}
use Rattle.pp_head.specs.Request.{Request}
use Rattle.pp_target.specs.Key.{Key, text_of}
use Rattle.pp_target.specs.declared.target.TargetFault.{TargetFault}
use Rattle.pp_valid.specs.declared.version.Version.{Version}
use Rattle.pp_world.specs.declared.note.Decision.{Decision}
use Rattle.pp_world.specs.declared.note.Decision.TheVariants.{Refuse, Hit, Part, Head, NotModified, Unsatisfiable, Relay, Validate, Fetch, Pass}
use Rattle.pp_law.specs.Closing.{is_of}
use Rattle.pp_law.specs.Connections.{is_client, on_client}
use Rattle.pp_law.specs.Deciding.{answering_with, ask_as, ask_for, ask_origin, asking_with, decided, decided_by, enter_row, follow, follow_row, follow_with, new_exchange, refuse, refused_with, relay, reply_by, span_of, stage_for}
use Rattle.pp_law.specs.Decisions.{kind_of}
use Rattle.pp_law.specs.Requests.{Front, Parsed, NoHeadYet, NoHead as NoFront, IsRequest}
use Rattle.pp_law.specs.State.{State, Answering, Client, Instance, Reply}
use Rattle.pp_law.specs.Table.{is_row_of, row, row_for}
use Rattle.pp_laws.specs.Runs.{IsIn}
use Rattle.pp_laws.proofs.Clients.{enter_row-sound}
use Rattle.pp_laws.proofs.Lists.{in_find, one_of, the_one}
use Rattle.pp_laws.proofs.Sound.{Since, Sound, client_number, facts_of as sound_facts, instance_id}
use Rattle.pp_laws.proofs.Tests.{same_number}
use Rattle.pp_laws_replies.specs.ByRow.{is_by_row}
use Rattle.pp_laws_replies.proofs.ByRowLemmas.{SpanOf}
use Rattle.pp_laws_replies.proofs.Quiet.{Quietly, facts_of, quiet_same}
use Rattle.pp_laws_replies.proofs.QuietAsks.{begin_exchange-quiet, leave-quiet}
use Rattle.pp_laws_replies.proofs.QuietRows.{swept-quiet}
use Rattle.pp_laws_replies.proofs.QuietTurns.{enter_row-quiet}
use Rattle.pp_laws_replies.proofs.StoryDecided.{IsRowFor, row_for_it}
use Rattle.pp_laws_replies.proofs.Usable.{UsedRow}
use Rattle.pp_laws_decided.proofs.Begins.{as_stage, unread}
use Rattle.pp_laws_decided.proofs.Fits.{Fit, Fits, FitsIn, changed_fits, quiet_fits, to_pass, to_show}
use Rattle.pp_laws_replies.proofs.Spans.{span_end}

-- ---- pages, asks, replies that are passed

waits_for : (d : Decision) (r : Reply) → stage_for d ≡ Answering r → ⊥
waits_for Pass r is = cc is
waits_for (Refuse status) r is = cc is
waits_for (Hit from to) r is = cc is
waits_for (Part from to) r is = cc is
waits_for Head r is = cc is
waits_for NotModified r is = cc is
waits_for Unsatisfiable r is = cc is
waits_for Relay r is = cc is
waits_for Validate r is = cc is
waits_for Fetch r is = cc is

module _ (instances : List Instance) (next : ℕ) where
  refused_fits : (status : ℕ) (c : Client) → FitsIn instances next (refused_with status c)
  refused_fits status c r is = let e : (record { decision = Refuse status; source = None; has_begun = true; head_left = r.head_left; at = 0; to = 0 }) ≡ r = cc is in unread instances next c.front r (ap (λ (x : Reply). x.has_begun) (sym e)) (ap (λ (x : Reply). x.source) (sym e))

  asking_fits : (d : Decision) (c : Client) → FitsIn instances next (asking_with d c)
  asking_fits d c r is = absurd (waits_for d r is)

  relayed_fits : (c : Client) → FitsIn instances next (answering_with (reply_by Relay None) c)
  relayed_fits c = as_stage instances next c (reply_by Relay None) (record {
    chosen = λ off. to_pass refl refl refl refl;
    given = λ id is. absurd (cc is);
    within = λ id x is. absurd (cc is);
  })

refuse_fits : (c : Client) (status : ℕ) (s : State) → Fits s → Fits (refuse c status s)
unfolding refuse on_client
refuse_fits c status s h =
    quiet_fits _ _ (swept-quiet _ (leave-quiet (is_of c.number) _ (quiet_same _)))
    (changed_fits s (is_client c.number) (refused_with status) (λ d i hit fit. refused_fits s.instances s.next_instance status d) h)

ask_for_fits : (c : Client) (d : Decision) (head : Request) (key : Key) (kind : AskKind) (s : State) → Fits s → Fits (ask_for c d head key kind s)
unfolding ask_for on_client
ask_for_fits c d head key kind s h =
    quiet_fits _ _ (swept-quiet _ (begin_exchange-quiet (new_exchange s c head key d kind) _ (leave-quiet (is_of c.number) _ (quiet_same _))))
    (changed_fits s (is_client c.number) (asking_with d) (λ e i hit fit. asking_fits s.instances s.next_instance d e) h)

ask_origin_fits : (c : Client) (d : Decision) (s : State) → Fits s → Fits (ask_origin c d s)
unfolding ask_origin ask_as
ask_origin_fits c d s h = by_front c.front
  where
    by_kind : (head : Request) (key : Key) (o : Option AskKind) → Fits (elim o as (λ x. State) [ None ↦ s | Some kind ↦ ask_for c d head key kind s ])
    by_kind head key None = h
    by_kind head key (Some kind) = ask_for_fits c d head key kind s h

    by_key : (r : Parsed) (named : Result Key TargetFault) → Fits (elim named as (λ x. State) [ Ok key ↦ ask_as c d r.head key s | Err fault ↦ s ])
    by_key r (Ok key) = by_kind r.head key (kind_of r.head (row_for s r.head (text_of key)) d)
    by_key r (Err fault) = h

    by_front : (front : Front) → Fits (elim front as (λ x. State) [
      | NoHeadYet ↦ s
      | NoFront status ↦ s
      | IsRequest r ↦ elim r.key as (λ y. State) [ Ok key ↦ ask_as c d r.head key s | Err fault ↦ s ]
    ])
    by_front NoHeadYet = h
    by_front (NoFront status) = h
    by_front (IsRequest r) = by_key r r.key

relay_fits : (c : Client) (s : State) → Fits s → Fits (relay c s)
unfolding relay on_client
relay_fits c s h = quiet_fits _ _ (swept-quiet _ (quiet_same _)) (changed_fits s (is_client c.number) (answering_with (reply_by Relay None)) (λ d i hit fit. relayed_fits s.instances s.next_instance d) h)

-- ---- a reply by the row

-- the row stands, and the decision is of its version
row_fits : {b : Since} (c e : Client) (d : Decision) (s : State) (x : Instance) → is_by_row d ≡ true → e.front ≡ c.front → (w : IsRowFor c d s) → row s (text_of w.key) ≡ Some x → Sound b s
    → Fit s.instances s.next_instance e.front (reply_by d (Some x.id))
row_fits {b} c e d s x by same w found hs = record {
  chosen = λ off. to_show w.request (same ∙ w.asks) by x.version span refl refl x.id refl given version;
  given = λ id is. subst (λ n. n < s.next_instance) (one is) given;
  within = λ id y is i its. subst (λ (v : Version). (span_of d).1 ≤ v.length) (sym (version y i (its ∙ sym (one is)))) (span_end w.request.head x.version d span);
}
  where
    there : IsIn x s.instances × (is_row_of (text_of w.key) x ≡ true)
    there = in_find (is_row_of (text_of w.key)) x s.instances found

    span : SpanOf w.request.head x.version d
    span = w.shows x found

    given : x.id < s.next_instance
    given = (sound_facts hs).rows.given x there.0

    one : {id : ℕ} → Some x.id ≡ Some id → x.id ≡ id
    one is = cc is

    version : (y : Instance) → IsIn y s.instances → y.id ≡ x.id → y.version ≡ x.version
    version y j id = ap (λ (z : Instance). z.version) (the_one instance_id s.instances y x (sound_facts hs).rows.differ j there.0 id)

follow_fits : {b : Since} (c : Client) (d : Decision) (s : State) → is_by_row d ≡ true → ((e : Client) → IsIn e s.clients → e.number ≡ c.number → e.front ≡ c.front) → IsRowFor c d s → Sound b s → Fits s → Fits (follow c d s)
unfolding follow follow_row follow_with on_client
follow_fits {b} c d s by same_front w hs h = subst (λ o. Fits (elim o as (λ x. State) [ None ↦ s | Some key ↦ follow_row c d (text_of key) s ])) (sym w.names) (at (row s (text_of w.key)) refl)
  where
    at : (o : Option Instance) → row s (text_of w.key) ≡ o → Fits (elim o as (λ y. State) [ None ↦ s | Some x ↦ follow_with c (reply_by d (Some x.id)) x s ])
    at None found = h
    at (Some x) found =
        quiet_fits _ _ (swept-quiet _ (leave-quiet _ _ (quiet_same _)))
        (changed_fits s (is_client c.number) (answering_with (reply_by d (Some x.id)))
        (λ e i hit fit. as_stage s.instances s.next_instance e (reply_by d (Some x.id)) (row_fits c e d s x by (same_front e i (same_number e.number c.number hit)) w found hs)) h)

-- ---- all

pub decided_fits : {b : Since} (c : Client) (d : Decision) (s : State) → IsIn c s.clients → (is_by_row d ≡ true → UsedRow s c d) → Sound b s → Fits s → Fits (decided c d s)
unfolding decided decided_by
decided_fits {b} c d s there used hs h = by d refl
  where
    t : State
    t = enter_row c d s

    quiet : Quietly s t
    quiet = enter_row-quiet c d s (quiet_same s)

    ht : Fits t
    ht = quiet_fits s t quiet h

    -- the one with its number is as it was
    one : (e : Client) → IsIn e t.clients → e.number ≡ c.number → e.front ≡ c.front
    one e i number =
        let f = (facts_of quiet).clients_from e i in
        f.is.front ∙ ap (λ (x : Client). x.front) (one_of client_number s.clients f.was c (sound_facts hs).callers.rise f.there there (sym f.is.number ∙ number))

    followed : (e : Decision) → d ≡ e → is_by_row e ≡ true → Fits (follow c e t)
    followed e is by_row =
        subst (λ x. Fits (follow c x t)) is (follow_fits c d t (ap is_by_row is ∙ by_row) one (row_for_it c d s (ap is_by_row is ∙ by_row) hs (used (ap is_by_row is ∙ by_row))) (enter_row-sound c d s hs) ht)

    by : (e : Decision) → d ≡ e → Fits (decided_by c e t)
    by (Refuse status) is = refuse_fits c status t ht
    by Pass is = ask_origin_fits c Pass t ht
    by Fetch is = ask_origin_fits c Fetch t ht
    by Validate is = ask_origin_fits c Validate t ht
    by Relay is = relay_fits c t ht
    by (Hit from to) is = followed (Hit from to) is refl
    by (Part from to) is = followed (Part from to) is refl
    by Head is = followed Head is refl
    by NotModified is = followed NotModified is refl
    by Unsatisfiable is = followed Unsatisfiable is refl
