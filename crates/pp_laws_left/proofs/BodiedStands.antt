-- A response to an exchange that has more of a body to ask goes on, and each of these is somebody's where an event is awaited or handled,
-- and late in a turn: what is kept of a state, and phase by phase.
use Rattle.std.proofs.Common.{◌≡◌, refl, ℕ, ◌==◌, Bool, true, false, List, [], ◌∷◌, is_some, Option, Some, None, inl, inr, sym, subst, ap, ◌∙◌}
use Rattle.pp_world.specs.Log.{Log}
use Rattle.pp_world.specs.declared.op.DiskOp.{DiskOp}
use Rattle.pp_law.specs.After.{begun_op, brings_to, dropping_body, ended_op, event, evicted, opened, owing, paid, reached, refused_row, unread}
use Rattle.pp_law.specs.Chunks.{drop_chunk, note_use}
use Rattle.pp_law.specs.Connections.{on_client, on_conn}
use Rattle.pp_law.specs.Lists.{Bytes}
use Rattle.pp_law.specs.Opening.{is_at, is_opening, lose_in_opening}
use Rattle.pp_law.specs.Phases.{behind, come, come_to, come_to_decide, decides, due_victim, in_phase, is_done, is_done_with, is_free, next, phases}
use Rattle.pp_law.specs.Repairs.{begin_in_opening}
use Rattle.pp_law.specs.Replies.{regained}
use Rattle.pp_law.specs.State.{State, Term, Phase, Before, IsWoken, IsConfigured, IsRooted, IsListed, IsListening, IsStuck, Awaiting, Handling, Evicting, Keeping, Deciding, Following, Connecting, DecidingAgain, Owed, Free, Entry, Exchange, Instance}
use Rattle.pp_law.specs.Store.{begin_in_turn, close_name, load, load_from}
use Rattle.pp_law.specs.Table.{forget, kept_row, row}
use Rattle.pp_law.specs.Turn.{touch}
use Rattle.pp_laws.specs.Runs.{IsIn}
use Rattle.pp_laws.proofs.Lists.{Changed, in_change, other, same}
use Rattle.pp_laws_served.specs.Filling.{IsLate}
use Rattle.pp_laws_turn.proofs.Disk.{begin_in_opening-keeps, begin_in_turn-keeps, close_name-keeps, end_op-keeps, lose_in_opening-keeps}
use Rattle.pp_laws_turn.proofs.Laws.{sound_turns}
use Rattle.pp_laws_turn.proofs.View.{Holds, View, facts_of, holds}
use Rattle.pp_laws_unused.proofs.Seen.{Seen, closed_seen, ended_seen, lost_seen, opening_begun_seen, seen, turn_begun_seen}
use Rattle.pp_laws_unused.proofs.Turning.{paid_phase}
use Rattle.pp_obeys.specs.Obeys.{Obeys}
use Rattle.pp_obeys.proofs.Come.{next-phase, onward}
use Rattle.pp_obeys.proofs.Frames.{Frame}
use Rattle.pp_obeys.proofs.Obeying.{obeys_silently}
use Rattle.pp_obeys.proofs.StaysTurns.{next-frame}
use Rattle.pp_laws_left.proofs.BodiedFits.{AreFit, Fit, event-fit, paid-fit, refused_row-fit, touch-fit}
use Rattle.pp_laws_left.proofs.BodiedLate.{AreOwned, Whose, followed-whose, placing-whose}
use Rattle.pp_laws_left.proofs.BodiedPhases.{next-fit}
use Rattle.pp_laws_left.proofs.Keep.{AtEvent, awaits, owes}
use Rattle.pp_laws_left.proofs.OwnedEnds.{event_handles, handled_off}

-- ---- what is kept

pub record Bodied (s : State) : Type 0 where
  pub fit : Holds Fit s
  pub event : AtEvent s.phase s.owed → Holds Whose s
  pub late : s.is_stopped ≡ false → IsLate s.phase → Holds Whose s

pub record Stood (terms : List Term) (log : Log) (s : State) : Type 0 where
  pub obeys : Obeys terms s log
  pub bodied : Bodied s

-- ---- phases of neither kind

abbrev pub is_event : Phase → Bool
is_event Awaiting = true
is_event Handling = true
is_event phase = false

abbrev pub is_last : Phase → Bool
is_last Connecting = true
is_last DecidingAgain = true
is_last phase = false

pub late_off : (p : Phase) → is_last p ≡ false → IsLate p → ⊥
late_off p off (inl is) = let both : true ≡ false = sym (ap is_last is) ∙ off in cc both
late_off p off (inr is) = let both : true ≡ false = sym (ap is_last is) ∙ off in cc both

pub no_event : (terms : List Term) (s : State) (log : Log) → Obeys terms s log → is_event s.phase ≡ false → AtEvent s.phase s.owed → ⊥
no_event terms s log obeys off (awaits is) = let both : true ≡ false = sym (ap is_event is) ∙ off in cc both
no_event terms s log obeys off (owes on) = let both : true ≡ false = sym (ap is_event ((sound_turns terms s log obeys).owes on)) ∙ off in cc both

pub off_bodied : (terms : List Term) (s : State) (log : Log) → Obeys terms s log → (p : Phase) → s.phase ≡ p → is_event p ≡ false → is_last p ≡ false → Holds Fit s → Bodied s
off_bodied terms s log obeys p is still early fit = record { fit = fit; event = λ at. absurd (no_event terms s log obeys (ap is_event is ∙ still) at); late = λ runs late. absurd (late_off s.phase (ap is_last is ∙ early) late) }

-- ---- where exchanges stay

same_at : (s t : State) → t.phase ≡ s.phase → t.owed ≡ s.owed → AtEvent t.phase t.owed → AtEvent s.phase s.owed
same_at s t phase owed (awaits is) = awaits (sym phase ∙ is)
same_at s t phase owed (owes on) = owes (ap is_free (sym owed) ∙ on)

pub same_bodied : (s t : State) → t.exchanges ≡ s.exchanges → t.phase ≡ s.phase → t.owed ≡ s.owed → t.is_stopped ≡ s.is_stopped → Bodied s → Bodied t
same_bodied s t asks phase owed stopped h = record {
  fit = holds (subst AreFit (sym asks) (facts_of h.fit));
  event = λ at. holds (subst AreOwned (sym asks) (facts_of (h.event (same_at s t phase owed at))));
  late = λ runs late. holds (subst AreOwned (sym asks) (facts_of (h.late (sym stopped ∙ runs) (subst IsLate phase late))));
}

abbrev pub Same : State → View → Type 0
Same s v = (v.exchanges ≡ s.exchanges) × (v.phase ≡ s.phase) × (v.owed ≡ s.owed)

pub still_bodied : (s t : State) → Holds (Same s) t → t.is_stopped ≡ s.is_stopped → Bodied s → Bodied t
still_bodied s t same_ stopped h = let w = facts_of same_ in same_bodied s t w.0 w.1 w.2 stopped h

pub none_bodied : (s : State) → s.exchanges ≡ [] → Bodied s
none_bodied s none = record { fit = holds (λ e i left. absurd (subst (λ (es : List Exchange). IsIn e es) none i)); event = λ at. holds (λ e i left. absurd (subst (λ (es : List Exchange). IsIn e es) none i)); late = λ runs late. holds (λ e i left. absurd (subst (λ (es : List Exchange). IsIn e es) none i)) }

-- ---- silent steps

done_off : (p : Phase) (s : State) → is_done_with p s ≡ true → is_event (onward p) ≡ false
done_off Before s done = refl
done_off IsWoken s done = refl
done_off IsConfigured s done = refl
done_off IsRooted s done = refl
done_off IsListed s done = refl
done_off IsListening s done = refl
done_off IsStuck s done = refl
done_off Awaiting s done = absurd (cc done)
done_off Handling s done = refl
done_off Evicting s done = refl
done_off Keeping s done = refl
done_off Deciding s done = refl
done_off Following s done = refl
done_off Connecting s done = refl
done_off DecidingAgain s done = refl

next_late : (terms : List Term) (log : Log) (s : State) → Obeys terms s log → s.is_stopped ≡ false → Holds Fit s → (IsLate s.phase → Holds Whose s) → (p : Phase) → s.phase ≡ p → IsLate (onward p) → Holds Whose (next s)
unfolding next
next_late terms log s obeys runs fit was Following is late = subst (λ (p : Phase). Holds Whose (behind p s)) (sym is) (followed-whose terms s log obeys runs fit)
next_late terms log s obeys runs fit was Connecting is late = subst (λ (p : Phase). Holds Whose (behind p s)) (sym is) (placing-whose (in_phase DecidingAgain s) (holds (facts_of (was (inl is)))))
next_late terms log s obeys runs fit was DecidingAgain is late = subst (λ (p : Phase). Holds Whose (behind p s)) (sym is) (was (inr is))
next_late terms log s obeys runs fit was Before is late = absurd (late_off Before refl late)
next_late terms log s obeys runs fit was IsWoken is late = absurd (late_off IsWoken refl late)
next_late terms log s obeys runs fit was IsConfigured is late = absurd (late_off IsConfigured refl late)
next_late terms log s obeys runs fit was IsRooted is late = absurd (late_off IsRooted refl late)
next_late terms log s obeys runs fit was IsListed is late = absurd (late_off IsListed refl late)
next_late terms log s obeys runs fit was IsListening is late = absurd (late_off IsListening refl late)
next_late terms log s obeys runs fit was IsStuck is late = absurd (late_off IsStuck refl late)
next_late terms log s obeys runs fit was Awaiting is late = absurd (late_off Awaiting refl late)
next_late terms log s obeys runs fit was Handling is late = absurd (late_off Evicting refl late)
next_late terms log s obeys runs fit was Evicting is late = absurd (late_off Keeping refl late)
next_late terms log s obeys runs fit was Keeping is late = absurd (late_off Deciding refl late)
next_late terms log s obeys runs fit was Deciding is late = absurd (late_off Following refl late)

pub next_stood : (terms : List Term) (log : Log) (s : State) → is_done s ≡ true → Stood terms log s → Stood terms log (next s)
next_stood terms log s done h = record {
  obeys = obeys_silently h.obeys done;
  bodied = record {
    fit = next-fit s h.bodied.fit;
    event = λ at. absurd (no_event terms (next s) log (obeys_silently h.obeys done) (ap is_event (next-phase s) ∙ done_off s.phase s done) at);
    late = λ runs late. (
        let going : s.is_stopped ≡ false = sym (ap (λ (o : Frame). o.is_stopped) (next-frame true s)) ∙ runs in
        next_late terms log s h.obeys going h.bodied.fit (h.bodied.late going) s.phase refl (subst IsLate (next-phase s) late));
  };
}

stood_when : {terms : List Term} {log : Log} (t : Bool) {x y : State} → (t ≡ true → Stood terms log x) → Stood terms log y → Stood terms log (elim t as (λ c. State) [ true ↦ x | false ↦ y ])
stood_when true hx hy = hx refl
stood_when false hx hy = hy

come_stood : (terms : List Term) (log : Log) (stops : State → Bool) (ps : List Phase) (s : State) → Stood terms log s → Stood terms log (come stops ps s)
unfolding come
come_stood terms log stops [] s h = h
come_stood terms log stops (p ∷ ps) s h = come_stood terms log stops ps _ (stood_when (is_at p s) (λ at. stood_when (stops s) (λ is. h) (stood_when (is_done s) (λ done. next_stood terms log s done h) h)) h)

pub come_to_stood : (terms : List Term) (log : Log) (p : Phase) (s : State) → Stood terms log s → Stood terms log (come_to p s)
unfolding come_to
come_to_stood terms log p s h = come_stood terms log (is_at p) phases s h

pub come_to_decide_stood : (terms : List Term) (log : Log) (s : State) → Stood terms log s → Stood terms log (come_to_decide s)
unfolding come_to_decide
come_to_decide_stood terms log s h = come_stood terms log decides phases s h

-- ---- events

event_off : (s : State) → s.owed ≡ Free → AtEvent (event s).phase (event s).owed → ⊥
unfolding event regained
event_off s free (awaits is) = cc is
event_off s free (owes on) = let both : true ≡ false = sym (ap is_free free) ∙ on in cc both

pub event_bodied : (s : State) → s.owed ≡ Free → Holds Fit s → Bodied (event s)
event_bodied s free fit = record { fit = event-fit s fit; event = λ at. absurd (event_off s free at); late = λ runs late. absurd (late_off (event s).phase (ap is_last (event_handles s)) late) }

event_whose : (s : State) → Holds Whose s → Holds Whose (event s)
unfolding event regained
event_whose s h = holds (facts_of h)

pub owed_bodied : (s : State) → Holds Fit s → Holds Whose s → Bodied (event s)
owed_bodied s fit whose = record { fit = event-fit s fit; event = λ at. event_whose s whose; late = λ runs late. absurd (late_off (event s).phase (ap is_last (event_handles s)) late) }

pub owing_fit : (owed : Owed) (n : ℕ) (s : State) → Holds Fit s → Holds Fit (owing owed n s)
unfolding owing
owing_fit owed n s h = holds (facts_of (touch-fit n s h))

pub owing_whose : (owed : Owed) (n : ℕ) (s : State) → Holds Whose s → Holds Whose (owing owed n s)
unfolding owing touch on_conn on_client
owing_whose owed n s h = holds (facts_of h)

pub opened_owed : (n : ℕ) (s : State) → (opened n s).owed ≡ s.owed
unfolding opened
opened_owed n s = refl

pub reached_owed : (n : ℕ) (s : State) → (reached n s).owed ≡ s.owed
unfolding reached touch on_conn on_client
reached_owed n s = refl

-- ---- where nothing is owed any more

pub handled_bodied : (s : State) → s.phase ≡ Handling → Holds Fit s → Bodied (paid s)
handled_bodied s is fit = record { fit = paid-fit s fit; event = λ at. absurd (handled_off s is at); late = λ runs late. absurd (late_off (paid s).phase (ap is_last (paid_phase s ∙ is)) late) }

paid_at : (s : State) → AtEvent (paid s).phase (paid s).owed → AtEvent s.phase s.owed
unfolding paid regained
paid_at s (awaits is) = awaits is
paid_at s (owes on) = absurd (cc on)

pub paid_bodied : (s : State) → Bodied s → Bodied (paid s)
unfolding paid regained
paid_bodied s h = record { fit = holds (facts_of h.fit); event = λ at. holds (facts_of (h.event (paid_at s at))); late = λ runs late. holds (facts_of (h.late runs late)) }

-- ---- memory, and the disk

refused_whose : (x : Instance) (s : State) → Holds Whose s → Holds Whose (refused_row x s)
unfolding refused_row forget
refused_whose x s h = holds (λ e i left. by e left (in_change (brings_to x.id) dropping_body e s.exchanges i))
  where
    by : (e : Exchange) → (e.body_left == 0) ≡ false → Changed (brings_to x.id) dropping_body s.exchanges e → is_some e.asker ≡ true
    by e left (same j isnt) = facts_of h e j left
    by e left (other d j hit eq) = ap (λ (y : Exchange). is_some y.asker) eq ∙ facts_of h d j (ap (λ (y : Exchange). y.body_left == 0) (sym eq) ∙ left)

refused_as : (x : Instance) (s : State) → ((refused_row x s).phase ≡ s.phase) × ((refused_row x s).owed ≡ s.owed) × ((refused_row x s).is_stopped ≡ s.is_stopped)
unfolding refused_row forget
refused_as x s = (refl, refl, refl)

pub refused_bodied : (x : Instance) (s : State) → Bodied s → Bodied (refused_row x s)
refused_bodied x s h = let w = refused_as x s in record {
  fit = refused_row-fit x s h.fit;
  event = λ at. refused_whose x s (h.event (same_at s (refused_row x s) w.0 w.1 at));
  late = λ runs late. refused_whose x s (h.late (sym w.2 ∙ runs) (subst IsLate w.0 late));
}

evicted_as : (s : State) → ((evicted s).exchanges ≡ s.exchanges) × ((evicted s).phase ≡ s.phase) × ((evicted s).owed ≡ s.owed) × ((evicted s).is_stopped ≡ s.is_stopped)
unfolding evicted drop_chunk
evicted_as s = by (due_victim s)
  where
    by : (o : Option (ℕ × ℕ)) → let t : State = elim o as (λ c. State) [ None ↦ s | Some place ↦ drop_chunk place.0 place.1 s ] in (t.exchanges ≡ s.exchanges) × (t.phase ≡ s.phase) × (t.owed ≡ s.owed) × (t.is_stopped ≡ s.is_stopped)
    by None = (refl, refl, refl, refl)
    by (Some place) = (refl, refl, refl, refl)

pub evicted_bodied : (s : State) → Bodied s → Bodied (evicted s)
evicted_bodied s h = let w = evicted_as s in same_bodied s (evicted s) w.0 w.1 w.2 w.3 h

loaded_as : (key : Bytes) (i : ℕ) (s : State) → ((load key i s).exchanges ≡ s.exchanges) × ((load key i s).phase ≡ s.phase) × ((load key i s).owed ≡ s.owed) × ((load key i s).is_stopped ≡ s.is_stopped)
unfolding load load_from note_use
loaded_as key i s = by (row s key) (kept_row s key)
  where
    by : (r : Option Instance) (o : Option Entry) → let t : State = elim r as (λ c. State) [ None ↦ s | Some x ↦ elim o as (λ c. State) [ None ↦ s | Some e ↦ load_from x e i s ] ] in (t.exchanges ≡ s.exchanges) × (t.phase ≡ s.phase) × (t.owed ≡ s.owed) × (t.is_stopped ≡ s.is_stopped)
    by None o = (refl, refl, refl, refl)
    by (Some x) None = (refl, refl, refl, refl)
    by (Some x) (Some e) = (refl, refl, refl, refl)

pub loaded_bodied : (key : Bytes) (i : ℕ) (s : State) → Bodied s → Bodied (load key i s)
loaded_bodied key i s h = let w = loaded_as key i s in same_bodied s (load key i s) w.0 w.1 w.2 w.3 h

abbrev pub goes_as : (s t : State) → seen t ≡ seen s → t.is_stopped ≡ s.is_stopped
goes_as s t is = ap (λ (v : Seen). v.goes) is

op_same : (op : DiskOp) (ok : Bool) (s : State) → Holds (Same s) (ended_op op ok s)
unfolding ended_op
op_same op true s = end_op-keeps op true s (holds (refl, refl, refl))
op_same op false s = lose_in_opening-keeps s.agenda.name _ (end_op-keeps op false s (holds (refl, refl, refl)))

pub ended_op_bodied : (op : DiskOp) (ok : Bool) (s : State) → Bodied s → Bodied (ended_op op ok s)
ended_op_bodied op ok s h = still_bodied s (ended_op op ok s) (op_same op ok s) (goes_as s (ended_op op ok s) (ended_seen op ok s)) h

pub unread_bodied : (name : Bytes) (s : State) → Bodied s → Bodied (unread name s)
unfolding unread
unread_bodied name s h = paid_bodied _ (still_bodied s (lose_in_opening name (close_name name s)) (lose_in_opening-keeps name _ (close_name-keeps name s (holds (refl, refl, refl)))) (goes_as s (lose_in_opening name (close_name name s)) (lost_seen name (close_name name s) ∙ closed_seen name s)) h)

pub begun_op_bodied : (terms : List Term) (log : Log) (op : DiskOp) (s : State) → Stood terms log s → Bodied (begun_op op s)
unfolding begun_op
begun_op_bodied terms log op s h = by (is_opening s)
  where
    by : (t : Bool) → Bodied (elim t as (λ c. State) [ true ↦ begin_in_opening op s | false ↦ begin_in_turn op (come_to Keeping s) ])
    by true = still_bodied s (begin_in_opening op s) (begin_in_opening-keeps op s (holds (refl, refl, refl))) (goes_as s (begin_in_opening op s) (opening_begun_seen op s)) h.bodied
    by false = let u : State = come_to Keeping s in still_bodied u (begin_in_turn op u) (begin_in_turn-keeps op u (holds (refl, refl, refl))) (goes_as u (begin_in_turn op u) (turn_begun_seen op u)) (come_to_stood terms log Keeping s h).bodied
