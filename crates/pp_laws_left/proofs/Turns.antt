-- It is so along a log: happening by happening, and some phases on.
use Rattle.std.proofs.Common.{◌≡◌, refl, ℕ, ◌≤◌, true, false, ◌&&◌, ◌||◌, List, [], ◌∷◌, length, take, Option, Some, None, sym, subst, ap, ◌∙◌, arith}
use Rattle.std.proofs.lemmas.List.{length-take}
use Rattle.pp_world.specs.Log.{Log}
use Rattle.pp_world.specs.declared.happening.Happening.{Happening}
use Rattle.pp_world.specs.declared.happening.Happening.TheVariants.{Woke, Waits, Clock, Opened, CanRead, CanWrite, Heard, HungUp, Said, Shut, Dialled, Undialled, Reached, Ended, Broke, Asked, Got, Dropped, NoneYet, Began, Did, Unread, Noted, Rooted, Listed, Listens, Configured, Printed, Stopped}
use Rattle.pp_world.specs.declared.note.Decision.{Decision}
use Rattle.pp_world.specs.declared.note.Decision.TheVariants.{Refuse, Relay}
use Rattle.pp_world.specs.declared.note.Remark.{Remark}
use Rattle.pp_world.specs.declared.note.Remark.TheVariants.{Taken, Cut, Kept, Gone, Forgotten, Evicted, Loaded}
use Rattle.pp_law.specs.After.{after, changed, noted, take_decision}
use Rattle.pp_law.specs.Connections.{client, is_client}
use Rattle.pp_law.specs.Deciding.{decided}
use Rattle.pp_law.specs.Decisions.{decide, decide_head}
use Rattle.pp_law.specs.Due.{due_decision}
use Rattle.pp_law.specs.Lawful.{LawfulFrom}
use Rattle.pp_law.specs.Lists.{Bytes}
use Rattle.pp_law.specs.Offers.{offer}
use Rattle.pp_law.specs.Permits.{IsPermitted, is_same_decision, may_want_memory, permits_taken}
use Rattle.pp_law.specs.Phases.{come_to, come_to_decide, deciding, in_phase}
use Rattle.pp_law.specs.Replies.{regained}
use Rattle.pp_law.specs.Requests.{Front, NoHeadYet, NoHead, IsRequest}
use Rattle.pp_law.specs.State.{State, Term, Client, IsListed, IsListening, IsRooted, Evicting, Keeping, Deciding, Connecting, ReadOf, WriteTo, start}
use Rattle.pp_laws.specs.Runs.{IsIn, after_all}
use Rattle.pp_laws.proofs.Happenings.{after-sound}
use Rattle.pp_laws.proofs.Laws.{start-sound}
use Rattle.pp_laws.proofs.Lists.{in_find, one_of}
use Rattle.pp_laws.proofs.Sound.{Since, Sound, client_number, facts_of as sound_facts}
use Rattle.pp_laws.proofs.Steps.{come_to_decide-sound, deciding-sound}
use Rattle.pp_laws.proofs.Tests.{same_number}
use Rattle.pp_laws_replies.proofs.Quiet.{facts_of, quiet_same, quietly}
use Rattle.pp_laws_replies.proofs.QuietAsks.{close_client-quiet}
use Rattle.pp_laws_replies.proofs.QuietHeads.{got-quiet}
use Rattle.pp_laws_replies.proofs.QuietRows.{configured-quiet, load-quiet, note_gone-quiet, note_kept-quiet, opened_to-quiet}
use Rattle.pp_laws_replies.proofs.QuietTurns.{come_to-quiet, deciding-quiet, regained-quiet, rest_with-quiet, tick-quiet}
use Rattle.pp_laws_replies.proofs.StorySaid.{said_front}
use Rattle.pp_laws_replies.proofs.Usable.{TakenFor, UsedRow, due_used, permitted_taken, taken_for}
use Rattle.pp_laws_room.proofs.Coming.{by_coming}
use Rattle.pp_laws_turn.proofs.Lifts.{obeying}
use Rattle.pp_laws_coming.proofs.Alike.{relay_unpaged, same_relay}
use Rattle.pp_laws_coming.proofs.Dues.{IsDue, from_due, taken_due}
use Rattle.pp_laws_coming.proofs.Plans.{is_relay}
use Rattle.pp_obeys.specs.Obeys.{Obeys}
use Rattle.pp_laws_left.proofs.Begins.{end_replies_fine}
use Rattle.pp_laws_left.proofs.Choices.{IsAsked, decided_fine}
use Rattle.pp_laws_left.proofs.Fine.{AllFine, all_fine, all_of, quiet_fine}
use Rattle.pp_laws_left.proofs.Steps.{ask_fine, begun_op_fine, dialled_fine, dropped_fine, ended_op_fine, ending_fine, event_fine, evicted_fine, forgotten_by_fine, gone_fine, hang_up_fine, hear_fine, opened_fine, owing_fine, paid_fine, reached_fine, said_steps, shut_fine, undialled_fine, unread_fine, woken_fine}

-- ---- decisions

abbrev decided_at : State → Client → Front → Option Decision
decided_at s c front = elim front as (λ x. Option Decision) [ NoHeadYet ↦ None | NoHead status ↦ Some (Refuse status) | IsRequest r ↦ Some (decide_head s c r) ]

-- what is relayed was asked: a place where no head is has a page
relay_asked : {b : Since} (s : State) (m i : ℕ) (d : Decision) (c : Client) → permits_taken s m i d ≡ true → d ≡ Relay → IsIn c (come_to_decide s).clients → c.number ≡ m → Sound b s → IsAsked c
relay_asked {b} s m i d c is relay there number hs = subst (λ (x : Client). IsAsked x) (sym eq) (by w.own.front refl)
  where
    w : IsDue (come_to_decide s) m d
    w = taken_due s m i d is

    eq : c ≡ w.own
    eq = one_of client_number (come_to_decide s).clients c w.own (sound_facts (come_to_decide-sound s hs)).callers.rise there w.there (number ∙ sym w.number)

    due : is_relay w.due ≡ true
    due = same_relay w.due (subst (λ (x : Decision). (is_same_decision w.due x || (is_same_decision x (Refuse 500) && may_want_memory (come_to_decide s) m)) ≡ true) relay w.alike)

    from : decide (come_to_decide s) w.own ≡ Some w.due
    from = from_due (come_to_decide s) w.own w.due (relay_unpaged w.due due) w.is

    by : (front : Front) → w.own.front ≡ front → IsAsked w.own
    by NoHeadYet at = let both : None ≡ Some w.due = sym (ap (decided_at (come_to_decide s) w.own) at) ∙ from in absurd (cc both)
    by (NoHead status) at =
        let both : Some (Refuse status) ≡ Some w.due = sym (ap (decided_at (come_to_decide s) w.own) at) ∙ from in
        let page : Refuse status ≡ w.due = cc both in
        let off : false ≡ true = ap is_relay page ∙ due in
        absurd (cc off)
    by (IsRequest r) at = record { request = r; front = at }

used_in : (s : State) (c : Client) (d : Decision) → UsedRow s c d → UsedRow (in_phase Deciding s) c d
used_in s c d used = record { request = used.request; asks = used.asks; key = used.key; names = used.names; row = used.row; known = used.known; ready = used.ready; made = used.made }

taken_fine : {b : Since} (m i : ℕ) (d : Decision) (s : State) → permits_taken s m i d ≡ true → Sound b s → AllFine s → AllFine (take_decision m d (deciding s))
unfolding take_decision deciding
taken_fine {b} m i d s is hs h = by (client (deciding s) m) refl
  where
    u : State
    u = come_to_decide s

    hu : AllFine (in_phase Deciding u)
    hu = quiet_fine s _ (deciding-quiet s (quiet_same s)) h

    t : TakenFor u m i d
    t = taken_for s m i d is

    so : Sound b (in_phase Deciding u)
    so = deciding-sound s hs

    by : (o : Option Client) → client (in_phase Deciding u) m ≡ o → AllFine (elim o as (λ x. State) [ None ↦ in_phase Deciding u | Some c ↦ regained (record (decided c d (in_phase Deciding u)) { forgotten = []; made_room_for = None }) ])
    by None none = hu
    by (Some c) found =
        let there = in_find (is_client m) c u.clients found in
        let eq : c ≡ t.one = one_of client_number u.clients c t.one (sound_facts so).callers.rise there.0 t.there (same_number c.number m there.1 ∙ sym t.number) in
        let due : due_decision u c ≡ Some t.due = ap (due_decision u) eq ∙ t.is in
        quiet_fine (decided c d (in_phase Deciding u)) _ (regained-quiet _ (quietly (facts_of (quiet_same (decided c d (in_phase Deciding u))))))
        (decided_fine c d (in_phase Deciding u) there.0 (λ by_row. used_in u c d (due_used u c d by_row (due ∙ ap (λ e. Some e) (t.same by_row)))) (λ relay. relay_asked s m i d c is relay there.0 (same_number c.number m there.1) hs) so hu)

noted_fine : {b : Since} (remark : Remark) (s : State) → IsPermitted s (Noted remark) → Sound b s → AllFine s → AllFine (noted remark s)
unfolding noted
noted_fine (Taken m i d) s is hs h = taken_fine m i d s (permitted_taken s m i d is) hs h
noted_fine (Cut m cause) s is hs h = quiet_fine s _ (close_client-quiet m true _ (deciding-quiet s (quiet_same s))) h
noted_fine (Kept key tag k extent) s is hs h = quiet_fine s _ (note_kept-quiet key extent s (quiet_same s)) h
noted_fine (Gone key) s is hs h = quiet_fine s _ (note_gone-quiet key _ (come_to-quiet Keeping s (quiet_same s))) h
noted_fine (Forgotten key) s is hs h = forgotten_by_fine key s h
noted_fine (Evicted key tag k i) s is hs h = evicted_fine _ (quiet_fine s _ (come_to-quiet Evicting s (quiet_same s)) h)
noted_fine (Loaded key tag k i) s is hs h = quiet_fine s _ (load-quiet key i s (quiet_same s)) h

-- ---- what is said

said_short : (s : State) (m offered : ℕ) (bytes : Bytes) (c : Client) → client s m ≡ Some c → IsPermitted s (Said m offered bytes) → length bytes ≤ length (offer s c)
said_short s m offered bytes c found is =
    let front : length bytes ≡ length (take (length bytes) (offer s c)) = ap length (said_front s m offered bytes c found is) in
    omega (arith, length-take (length bytes) (offer s c))

-- ---- happening by happening

come_to_fine : {s : State} → AllFine s → AllFine (come_to Connecting s)
come_to_fine {s} h = quiet_fine s _ (come_to-quiet Connecting s (quiet_same s)) h

changed_by : {b : Since} (s : State) (h : Happening) → IsPermitted s h → Sound b s → AllFine s → AllFine (changed s h)
unfolding changed
changed_by s (Woke image) is hs h = woken_fine image s
changed_by s (Waits w) is hs h = quiet_fine _ _ (rest_with-quiet w _ (quiet_same _)) (ending_fine s h)
changed_by s (Clock seconds) is hs h = event_fine _ (quiet_fine s _ (tick-quiet seconds s (quiet_same s)) h)
changed_by s (Opened n) is hs h = event_fine _ (opened_fine n s h)
changed_by s (CanRead n) is hs h = event_fine _ (owing_fine (ReadOf n) n s h)
changed_by s (CanWrite n) is hs h = event_fine _ (owing_fine (WriteTo n) n s h)
changed_by s (Heard c bytes) is hs h = paid_fine _ (hear_fine c bytes s h)
changed_by s (HungUp c) is hs h = paid_fine _ (hang_up_fine c s h)
changed_by s (Said c offered bytes) is hs h = paid_fine _ (said_steps c (length bytes) s hs (λ x found. said_short s c offered bytes x found is) h)
changed_by s (Shut c) is hs h = shut_fine c _ (come_to_fine h)
changed_by s (Dialled n host port) is hs h = dialled_fine n host port _ (come_to_fine h)
changed_by s (Undialled host port) is hs h = undialled_fine _ (come_to_fine h)
changed_by s (Reached k) is hs h = event_fine _ (reached_fine k s h)
changed_by s (Ended k) is hs h = paid_fine _ (gone_fine true k s h)
changed_by s (Broke k) is hs h = paid_fine _ (gone_fine false k _ (event_fine s h))
changed_by s (Asked k bytes) is hs h = paid_fine _ (ask_fine k (length bytes) s h)
changed_by s (Got k bytes) is hs h = paid_fine _ (end_replies_fine _ (quiet_fine s _ (got-quiet (length bytes) k bytes s (quiet_same s)) h))
changed_by s (Dropped k) is hs h = dropped_fine k _ (come_to_fine h)
changed_by s (NoneYet n) is hs h = paid_fine s h
changed_by s (Began op) is hs h = begun_op_fine op s h
changed_by s (Did op ok) is hs h = ended_op_fine op ok s h
changed_by s (Unread name) is hs h = unread_fine name s h
changed_by s (Noted remark) is hs h = noted_fine remark s is hs h
changed_by s (Rooted folder) is hs h = quiet_fine s _ (opened_to-quiet IsRooted true s (quiet_same s)) h
changed_by s (Listed ok) is hs h = quiet_fine s _ (opened_to-quiet IsListed ok s (quiet_same s)) h
changed_by s (Listens port ok) is hs h = quiet_fine s _ (opened_to-quiet IsListening ok s (quiet_same s)) h
changed_by s (Configured file text) is hs h = quiet_fine s _ (configured-quiet text s (quiet_same s)) h
changed_by s (Printed text) is hs h = h
changed_by s Stopped is hs h = event_fine _ (all_fine (all_of h))

-- ---- along a log, and some phases on

since : Since
since = record { old = []; counts_loads = false; excepts = None }

all_after : (s : State) (log : Log) → LawfulFrom s log → Sound since s → AllFine s → AllFine (after_all s log)
unfolding since
all_after s [] lawful hs h = h
all_after s (e ∷ log) lawful hs h = all_after (after s e) log lawful.1 (after-sound s e refl (λ counts. absurd (cc counts)) lawful.0 hs) (changed_by s e lawful.0 hs h)

pub fine_on : (terms : List Term) (s : State) (log : Log) → Obeys terms s log → AllFine s
unfolding since
fine_on terms s log obeys =
    obeying AllFine (by_coming AllFine (λ p t h. quiet_fine t _ (come_to-quiet p t (quiet_same t)) h)) terms s log obeys
    (all_after (start terms) log obeys.lawful (start-sound since terms refl) (all_fine (λ c i. absurd i)))
