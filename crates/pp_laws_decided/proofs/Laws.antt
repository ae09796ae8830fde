-- The law: what is known of replies in each state that a lawful log may go on as from.
use Rattle.std.proofs.Common.{◌≡◌, refl, ℕ, ◌<◌, ◌≤◌, nat_lt, Bool, true, false, List, [], ◌∷◌, length, Option, Some, None, sym, subst, ap, ◌∙◌, arith}
use Rattle.pp_plan.specs.Spans.{resolved}
use Rattle.pp_ranges.specs.Ranges.{IsPartOf}
use Rattle.pp_ranges.specs.declared.range.Resolved.{Resolved}
use Rattle.pp_ranges.specs.declared.range.Resolved.TheVariants.{Whole as OfAll, Part as OfPart, Unsatisfiable as OfNone}
use Rattle.pp_valid.specs.declared.version.Version.{Version}
use Rattle.pp_world.specs.Log.{Log}
use Rattle.pp_world.specs.declared.happening.Happening.{Happening}
use Rattle.pp_world.specs.declared.happening.Happening.TheVariants.{Woke, Waits, Clock, Opened, CanRead, CanWrite, Heard, HungUp, Said, Shut, Dialled, Undialled, Reached, Ended, Broke, Asked, Got, Dropped, NoneYet, Began, Did, Unread, Noted, Rooted, Listed, Listens, Configured, Printed, Stopped}
use Rattle.pp_world.specs.declared.note.Decision.{Decision}
use Rattle.pp_world.specs.declared.note.Decision.TheVariants.{Refuse, Hit, Part, Head, NotModified, Unsatisfiable, Relay, Validate, Fetch, Pass}
use Rattle.pp_world.specs.declared.note.Remark.{Remark}
use Rattle.pp_world.specs.declared.note.Remark.TheVariants.{Taken, Cut, Kept, Gone, Forgotten, Evicted, Loaded}
use Rattle.pp_law.specs.After.{after, changed, noted, take_decision}
use Rattle.pp_law.specs.Connections.{client, is_client}
use Rattle.pp_law.specs.Deciding.{decided, span_of}
use Rattle.pp_law.specs.Due.{due_decision}
use Rattle.pp_law.specs.Lawful.{LawfulFrom}
use Rattle.pp_law.specs.Permits.{IsPermitted, permits_taken}
use Rattle.pp_law.specs.Phases.{come_to, come_to_decide, deciding, in_phase}
use Rattle.pp_law.specs.Replies.{is_part, regained}
use Rattle.pp_law.specs.Requests.{Parsed}
use Rattle.pp_law.specs.Stages.{is_followed_by, is_passing, reply_of}
use Rattle.pp_law.specs.State.{State, Term, Client, Instance, Reply, Stage, Undecided, Waiting, Passing, Answering, IsListed, IsListening, IsRooted, Evicting, Keeping, Deciding, Connecting, ReadOf, WriteTo, start}
use Rattle.pp_law.specs.Table.{Next, instance, is_instance, next_from, next_in, next_of, source_of}
use Rattle.pp_laws.specs.Runs.{IsIn, after_all}
use Rattle.pp_laws.proofs.Happenings.{after-sound}
use Rattle.pp_laws.proofs.Laws.{start-sound}
use Rattle.pp_laws.proofs.Lists.{in_find, one_of}
use Rattle.pp_laws.proofs.Sound.{Since, Sound, client_number, facts_of as sound_facts}
use Rattle.pp_laws.proofs.Steps.{deciding-sound}
use Rattle.pp_laws.proofs.Tests.{below, same_number}
use Rattle.pp_laws_replies.specs.ByRow.{is_by_row}
use Rattle.pp_laws_replies.proofs.ByRowLemmas.{Shows, SpanOf}
use Rattle.pp_laws_replies.proofs.Quiet.{facts_of, quiet_same, quietly}
use Rattle.pp_laws_replies.proofs.QuietAsks.{close_client-quiet}
use Rattle.pp_laws_replies.proofs.QuietHeads.{got-quiet}
use Rattle.pp_laws_replies.proofs.QuietRows.{configured-quiet, load-quiet, note_gone-quiet, note_kept-quiet, opened_to-quiet}
use Rattle.pp_laws_replies.proofs.QuietTurns.{come_to-quiet, deciding-quiet, regained-quiet, rest_with-quiet, tick-quiet}
use Rattle.pp_laws_replies.proofs.StorySaid.{said_some}
use Rattle.pp_laws_replies.proofs.Usable.{TakenFor, UsedRow, due_used, permitted_taken, taken_for}
use Rattle.pp_laws_room.proofs.Coming.{by_coming}
use Rattle.pp_laws_turn.proofs.Lifts.{obeying}
use Rattle.pp_obeys.specs.Obeys.{Obeys}
use Rattle.pp_laws_decided.specs.Decided.{IsChosen, IsSpanOf, TurnsAreDecided}
use Rattle.pp_laws_decided.proofs.Begins.{end_replies_fits}
use Rattle.pp_laws_decided.proofs.Choices.{decided_fits}
use Rattle.pp_laws_decided.proofs.Fits.{Choice, Fits, all_of, fits, quiet_fits, to_pass, to_show}
use Rattle.pp_laws_replies.proofs.Spans.{part_of, span_end, span_order}
use Rattle.pp_laws_decided.proofs.Steps.{ask_fits, begun_op_fits, dialled_fits, dropped_fits, ended_op_fits, ending_fits, event_fits, evicted_fits, forgotten_by_fits, gone_fits, hang_up_fits, hear_fits, opened_fits, owing_fits, paid_fits, reached_fits, said_steps, shut_fits, undialled_fits, unread_fits, woken_fits}

-- ---- decisions

used_in : (s : State) (c : Client) (d : Decision) → UsedRow s c d → UsedRow (in_phase Deciding s) c d
used_in s c d used = record { request = used.request; asks = used.asks; key = used.key; names = used.names; row = used.row; known = used.known; ready = used.ready; made = used.made }

taken_fits : {b : Since} (m i : ℕ) (d : Decision) (s : State) → permits_taken s m i d ≡ true → Sound b s → Fits s → Fits (take_decision m d (deciding s))
unfolding take_decision deciding
taken_fits {b} m i d s is hs h = by (client (deciding s) m) refl
  where
    u : State
    u = come_to_decide s

    hu : Fits (in_phase Deciding u)
    hu = quiet_fits s _ (deciding-quiet s (quiet_same s)) h

    t : TakenFor u m i d
    t = taken_for s m i d is

    so : Sound b (in_phase Deciding u)
    so = deciding-sound s hs

    by : (o : Option Client) → client (in_phase Deciding u) m ≡ o → Fits (elim o as (λ x. State) [ None ↦ in_phase Deciding u | Some c ↦ regained (record (decided c d (in_phase Deciding u)) { forgotten = []; made_room_for = None }) ])
    by None none = hu
    by (Some c) found =
        let there = in_find (is_client m) c u.clients found in
        let eq : c ≡ t.one = one_of client_number u.clients c t.one (sound_facts so).callers.rise there.0 t.there (same_number c.number m there.1 ∙ sym t.number) in
        let due : due_decision u c ≡ Some t.due = ap (due_decision u) eq ∙ t.is in
        quiet_fits (decided c d (in_phase Deciding u)) _ (regained-quiet _ (quietly (facts_of (quiet_same (decided c d (in_phase Deciding u))))))
        (decided_fits c d (in_phase Deciding u) there.0 (λ by_row. used_in u c d (due_used u c d by_row (due ∙ ap (λ e. Some e) (t.same by_row)))) so hu)

noted_fits : {b : Since} (remark : Remark) (s : State) → IsPermitted s (Noted remark) → Sound b s → Fits s → Fits (noted remark s)
unfolding noted
noted_fits (Taken m i d) s is hs h = taken_fits m i d s (permitted_taken s m i d is) hs h
noted_fits (Cut m cause) s is hs h = quiet_fits s _ (close_client-quiet m true _ (deciding-quiet s (quiet_same s))) h
noted_fits (Kept key tag k extent) s is hs h = quiet_fits s _ (note_kept-quiet key extent s (quiet_same s)) h
noted_fits (Gone key) s is hs h = quiet_fits s _ (note_gone-quiet key _ (come_to-quiet Keeping s (quiet_same s))) h
noted_fits (Forgotten key) s is hs h = forgotten_by_fits key s h
noted_fits (Evicted key tag k i) s is hs h = evicted_fits _ (quiet_fits s _ (come_to-quiet Evicting s (quiet_same s)) h)
noted_fits (Loaded key tag k i) s is hs h = quiet_fits s _ (load-quiet key i s (quiet_same s)) h

-- ---- happening by happening

come_to_fits : {s : State} → Fits s → Fits (come_to Connecting s)
come_to_fits {s} h = quiet_fits s _ (come_to-quiet Connecting s (quiet_same s)) h

changed_by : {b : Since} (s : State) (h : Happening) → IsPermitted s h → Sound b s → Fits s → Fits (changed s h)
unfolding changed
changed_by s (Woke image) is hs h = woken_fits image s
changed_by s (Waits w) is hs h = quiet_fits _ _ (rest_with-quiet w _ (quiet_same _)) (ending_fits s h)
changed_by s (Clock seconds) is hs h = event_fits _ (quiet_fits s _ (tick-quiet seconds s (quiet_same s)) h)
changed_by s (Opened n) is hs h = event_fits _ (opened_fits n s h)
changed_by s (CanRead n) is hs h = event_fits _ (owing_fits (ReadOf n) n s h)
changed_by s (CanWrite n) is hs h = event_fits _ (owing_fits (WriteTo n) n s h)
changed_by s (Heard c bytes) is hs h = paid_fits _ (hear_fits c bytes s h)
changed_by s (HungUp c) is hs h = paid_fits _ (hang_up_fits c s h)
changed_by s (Said c offered bytes) is hs h = paid_fits _ (said_steps c (length bytes) s hs (λ x found. said_some s c offered bytes x found is) h)
changed_by s (Shut c) is hs h = shut_fits c _ (come_to_fits h)
changed_by s (Dialled n host port) is hs h = dialled_fits n host port _ (come_to_fits h)
changed_by s (Undialled host port) is hs h = undialled_fits _ (come_to_fits h)
changed_by s (Reached k) is hs h = event_fits _ (reached_fits k s h)
changed_by s (Ended k) is hs h = paid_fits _ (gone_fits true k s h)
changed_by s (Broke k) is hs h = paid_fits _ (gone_fits false k _ (event_fits s h))
changed_by s (Asked k bytes) is hs h = paid_fits _ (ask_fits k (length bytes) s h)
changed_by s (Got k bytes) is hs h = paid_fits _ (end_replies_fits _ (quiet_fits s _ (got-quiet (length bytes) k bytes s (quiet_same s)) h))
changed_by s (Dropped k) is hs h = dropped_fits k _ (come_to_fits h)
changed_by s (NoneYet n) is hs h = paid_fits s h
changed_by s (Began op) is hs h = begun_op_fits op s h
changed_by s (Did op ok) is hs h = ended_op_fits op ok s h
changed_by s (Unread name) is hs h = unread_fits name s h
changed_by s (Noted remark) is hs h = noted_fits remark s is hs h
changed_by s (Rooted folder) is hs h = quiet_fits s _ (opened_to-quiet IsRooted true s (quiet_same s)) h
changed_by s (Listed ok) is hs h = quiet_fits s _ (opened_to-quiet IsListed ok s (quiet_same s)) h
changed_by s (Listens port ok) is hs h = quiet_fits s _ (opened_to-quiet IsListening ok s (quiet_same s)) h
changed_by s (Configured file text) is hs h = quiet_fits s _ (configured-quiet text s (quiet_same s)) h
changed_by s (Printed text) is hs h = h
changed_by s Stopped is hs h = event_fits _ (fits (all_of h))

-- ---- along a log, and some phases on

since : Since
since = record { old = []; counts_loads = false; excepts = None }

all_fit : (s : State) (log : Log) → LawfulFrom s log → Sound since s → Fits s → Fits (after_all s log)
unfolding since
all_fit s [] lawful hs h = h
all_fit s (e ∷ log) lawful hs h = all_fit (after s e) log lawful.1 (after-sound s e refl (λ counts. absurd (cc counts)) lawful.0 hs) (changed_by s e lawful.0 hs h)

fits_on : (terms : List Term) (s : State) (log : Log) → Obeys terms s log → Fits s
unfolding since
fits_on terms s log obeys =
    obeying Fits (by_coming Fits (λ p t h. quiet_fits t _ (come_to-quiet p t (quiet_same t)) h)) terms s log obeys
    (all_fit (start terms) log obeys.lawful (start-sound since terms refl) (fits (λ c i. absurd i)))

-- ---- what is said of it

source_there : (s : State) (id : ℕ) (x : Instance) → instance s id ≡ Some x → IsIn x s.instances × (x.id ≡ id)
source_there s id x found = let there = in_find (is_instance id) x s.instances found in (there.0, same_number x.id id there.1)

found_source : (s : State) (o : Option ℕ) (x : Instance) → (elim o as (λ c. Option Instance) [ None ↦ None | Some id ↦ instance s id ]) ≡ Some x → (id : ℕ) × (o ≡ Some id) × IsIn x s.instances × (x.id ≡ id)
found_source s None x found = absurd (cc found)
found_source s (Some id) x found = let w = source_there s id x found in (id, refl, w.0, w.1)

ends_within : (s : State) → Fits s → (c : Client) (r : Reply) (x : Instance) → IsIn c s.clients → c.stage ≡ Answering r → source_of s r ≡ Some x → r.to ≤ x.version.length
ends_within s h c r x i at found = let w = found_source s r.source x found in (all_of h c i r at).within w.0 x w.1 w.2 w.3

-- a part is not empty
part_some : (res : Resolved) (n from to : ℕ) → IsPartOf n res → Shows res n from to → is_part res ≡ true → from < to
part_some OfAll n from to is shows part = absurd (cc part)
part_some (OfPart first end) n from to is shows part = let one : from ≡ first = shows.0 in let two : to ≡ end = shows.1 in let lt : first < end = is.0 in omega arith
part_some OfNone n from to is shows part = absurd shows

span_some : (q : Parsed) (v : Version) (d : Decision) → SpanOf q.head v d → is_followed_by d ≡ true → is_part (resolved q.head.fields v) ≡ true → (span_of d).0 < (span_of d).1
span_some q v (Refuse status) span is part = absurd (cc is)
span_some q v (Hit from to) span is part = part_some (resolved q.head.fields v) v.length from to (part_of q.head.fields v) span part
span_some q v (Part from to) span is part = part_some (resolved q.head.fields v) v.length from to (part_of q.head.fields v) span part
span_some q v Head span is part = absurd (cc is)
span_some q v NotModified span is part = absurd (cc is)
span_some q v Unsatisfiable span is part = absurd (cc is)
span_some q v Relay span is part = absurd (cc is)
span_some q v Validate span is part = absurd (cc is)
span_some q v Fetch span is part = absurd (cc is)
span_some q v Pass span is part = absurd (cc is)

rows_pass : (d : Decision) → is_by_row d ≡ true → is_passing d ≡ false
rows_pass (Refuse status) is = refl
rows_pass (Hit from to) is = refl
rows_pass (Part from to) is = refl
rows_pass Head is = refl
rows_pass NotModified is = refl
rows_pass Unsatisfiable is = refl
rows_pass Relay is = absurd (cc is)
rows_pass Validate is = refl
rows_pass Fetch is = refl
rows_pass Pass is = absurd (cc is)

chosen_of : (s : State) (c : Client) (r : Reply) → Choice s.instances s.next_instance c.front r → IsChosen s c r
chosen_of s c r (to_pass is none at to) = record { passes = λ passing. none; span = λ passing. (at, to); shows = λ isnt. let both : true ≡ false = sym is ∙ isnt in absurd (cc both) }
chosen_of s c r (to_show q asks by v span at to id source lt versions) = record {
  passes = λ passing. let both : true ≡ false = sym passing ∙ rows_pass r.decision by in absurd (cc both);
  span = λ passing. let both : true ≡ false = sym passing ∙ rows_pass r.decision by in absurd (cc both);
  shows = λ isnt. record {
    request = q;
    front = asks;
    by_row = by;
    at = at;
    to = to;
    order = ordered r.at r.to (span_of r.decision).0 (span_of r.decision).1 at to (span_order q.head v r.decision span);
    source = id;
    is = source;
    span = λ x found. let w = source_there s id x found in of x (versions x w.0 w.1);
  };
}
  where
    ordered : (a b m n : ℕ) → a ≡ m → b ≡ n → m ≤ n → a ≤ b
    ordered a b m n e f le = omega arith

    before : (a b m n : ℕ) → a ≡ m → b ≡ n → m < n → a < b
    before a b m n e f le = omega arith

    ends : (b n k j : ℕ) → b ≡ n → n ≤ k → j ≡ k → b ≤ j
    ends b n k j e le f = omega arith

    of : (x : Instance) → x.version ≡ v → IsSpanOf r q x
    of x is = record {
      within = ends r.to (span_of r.decision).1 v.length x.version.length to (span_end q.head v r.decision span) (ap (λ (w : Version). w.length) is);
      part = λ follows part. before r.at r.to (span_of r.decision).0 (span_of r.decision).1 at to
          (span_some q v r.decision span follows (subst (λ (w : Version). is_part (resolved q.head.fields w) ≡ true) is part));
    }

-- ---- the next byte

next_there : (s : State) → Fits s → (c : Client) (n : Next) → IsIn c s.clients → next_of s c ≡ Some n → (n.at < n.to) × (n.to ≤ n.source.version.length)
next_there s h c n i is = by_closing c.is_closing is
  where
    from_it : (x : Instance) (r : Reply) (t : Bool) → nat_lt r.at r.to ≡ t → r.to ≤ x.version.length → (elim t as (λ y. Option Next) [ true ↦ Some (record { source = x; at = r.at; to = r.to }) | false ↦ None ]) ≡ Some n
        → (n.at < n.to) × (n.to ≤ n.source.version.length)
    from_it x r true lt le at = let e : (record { source = x; at = r.at; to = r.to }) ≡ n = cc at in subst (λ (m : Next). (m.at < m.to) × (m.to ≤ m.source.version.length)) e (below r.at r.to lt, le)
    from_it x r false lt le at = absurd (cc at)

    by_source : (r : Reply) (o : Option Instance) → c.stage ≡ Answering r → source_of s r ≡ o → (elim o as (λ y. Option Next) [ None ↦ None | Some x ↦ next_from x r ]) ≡ Some n → (n.at < n.to) × (n.to ≤ n.source.version.length)
    by_source r None stage found at = absurd (cc at)
    by_source r (Some x) stage found at = from_it x r (nat_lt r.at r.to) refl (ends_within s h c r x i stage found) at

    by_stage : (stage : Stage) → c.stage ≡ stage
        → (elim (elim stage as (λ y. Option Reply) [ Undecided ↦ None | Waiting ↦ None | Passing ↦ None | Answering r ↦ Some r ]) as (λ z. Option Next) [ None ↦ None | Some r ↦ next_in s r ]) ≡ Some n → (n.at < n.to) × (n.to ≤ n.source.version.length)
    by_stage Undecided stage at = absurd (cc at)
    by_stage Waiting stage at = absurd (cc at)
    by_stage Passing stage at = absurd (cc at)
    by_stage (Answering r) stage at = by_source r (source_of s r) stage refl at

    by_closing : (t : Bool) → (elim t as (λ y. Option Next) [ true ↦ None | false ↦ elim (reply_of c) as (λ z. Option Next) [ None ↦ None | Some r ↦ next_in s r ] ]) ≡ Some n → (n.at < n.to) × (n.to ≤ n.source.version.length)
    by_closing true at = absurd (cc at)
    by_closing false at = by_stage c.stage refl at

pub turns_are_decided : TurnsAreDecided
turns_are_decided terms s log obeys =
    let h : Fits s = fits_on terms s log obeys in
    record {
      chosen = λ c r i at off. chosen_of s c r ((all_of h c i r at).chosen off);
      within = λ c r x i at found. ends_within s h c r x i at found;
      next = λ c n i is. next_there s h c n i is;
    }
