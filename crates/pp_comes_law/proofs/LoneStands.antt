-- What goes alone and is not answered yet is somebody's where an event is awaited or handled, and late in a turn: what is kept of a state, and
-- phase by phase.
use Rattle.std.proofs.Common.{◌≡◌, refl, ℕ, Bool, true, false, List, [], ◌∷◌, is_some, Option, Some, None, inl, inr, sym, subst, ap, ◌∙◌}
use Rattle.pp_world.specs.Log.{Log}
use Rattle.pp_world.specs.declared.op.DiskOp.{DiskOp}
use Rattle.pp_law.specs.After.{begun_op, brings_to, dropping_body, ended_op, event, evicted, owing, paid, refused_row, unread}
use Rattle.pp_law.specs.Chunks.{drop_chunk, note_use}
use Rattle.pp_law.specs.Connections.{on_client, on_conn}
use Rattle.pp_law.specs.Lists.{Bytes}
use Rattle.pp_law.specs.Opening.{is_at, is_opening, lose_in_opening}
use Rattle.pp_law.specs.Phases.{behind, come, come_to, come_to_decide, decides, due_victim, in_phase, is_done, is_done_with, is_free, next, phases}
use Rattle.pp_law.specs.Repairs.{begin_in_opening}
use Rattle.pp_law.specs.Replies.{regained}
use Rattle.pp_law.specs.State.{State, Term, Phase, Before, IsWoken, IsConfigured, IsRooted, IsListed, IsListening, IsStuck, Awaiting, Handling, Evicting, Keeping, Deciding, Following, Connecting, DecidingAgain, Owed, Free, Entry, Exchange, Instance}
use Rattle.pp_law.specs.Store.{begin_in_turn, close_name, load, load_from}
use Rattle.pp_law.specs.Table.{forget, kept_row, row}
use Rattle.pp_law.specs.Turn.{touch}
use Rattle.pp_laws.specs.Runs.{IsIn}
use Rattle.pp_laws.proofs.Lists.{Changed, in_change, other, same}
use Rattle.pp_laws_served.specs.Filling.{IsLate}
use Rattle.pp_laws_turn.proofs.Disk.{begin_in_opening-keeps, begin_in_turn-keeps, close_name-keeps, end_op-keeps, lose_in_opening-keeps}
use Rattle.pp_laws_turn.proofs.View.{Holds, facts_of, holds}
use Rattle.pp_laws_unused.proofs.Seen.{closed_seen, ended_seen, lost_seen, opening_begun_seen, turn_begun_seen}
use Rattle.pp_laws_unused.proofs.Turning.{paid_phase}
use Rattle.pp_obeys.specs.Obeys.{Obeys}
use Rattle.pp_obeys.proofs.Come.{next-phase, onward}
use Rattle.pp_obeys.proofs.Frames.{Frame}
use Rattle.pp_obeys.proofs.Obeying.{obeys_silently}
use Rattle.pp_obeys.proofs.StaysTurns.{next-frame}
use Rattle.pp_laws_left.proofs.BodiedStands.{Same, goes_as, is_event, is_last, late_off, no_event}
use Rattle.pp_laws_left.proofs.Keep.{AtEvent, awaits, owes}
use Rattle.pp_laws_left.proofs.OwnedEnds.{event_handles, handled_off}
use Rattle.pp_comes_law.specs.Lone.{is_lone}
use Rattle.pp_comes_law.proofs.LoneLate.{AreOwned, Whose, followed-whose, placing-whose}
use Rattle.pp_comes_law.proofs.Lones.{pending_of}
use Rattle.pp_law.specs.Stages.{is_pending}

-- ---- what is kept

pub record Kept (s : State) : Type 0 where
  pub event : AtEvent s.phase s.owed → Holds Whose s
  pub late : s.is_stopped ≡ false → IsLate s.phase → Holds Whose s

pub record Stood (terms : List Term) (log : Log) (s : State) : Type 0 where
  pub obeys : Obeys terms s log
  pub kept : Kept s

-- ---- phases of neither kind

pub off_kept : (terms : List Term) (s : State) (log : Log) → Obeys terms s log → (p : Phase) → s.phase ≡ p → is_event p ≡ false → is_last p ≡ false → Kept s
off_kept terms s log obeys p is still early = record { event = λ at. absurd (no_event terms s log obeys (ap is_event is ∙ still) at); late = λ runs late. absurd (late_off s.phase (ap is_last is ∙ early) late) }

-- ---- where exchanges stay

same_at : (s t : State) → t.phase ≡ s.phase → t.owed ≡ s.owed → AtEvent t.phase t.owed → AtEvent s.phase s.owed
same_at s t phase owed (awaits is) = awaits (sym phase ∙ is)
same_at s t phase owed (owes on) = owes (ap is_free (sym owed) ∙ on)

pub same_kept : (s t : State) → t.exchanges ≡ s.exchanges → t.phase ≡ s.phase → t.owed ≡ s.owed → t.is_stopped ≡ s.is_stopped → Kept s → Kept t
same_kept s t asks phase owed stopped h = record {
  event = λ at. holds (subst AreOwned (sym asks) (facts_of (h.event (same_at s t phase owed at))));
  late = λ runs late. holds (subst AreOwned (sym asks) (facts_of (h.late (sym stopped ∙ runs) (subst IsLate phase late))));
}

pub still_kept : (s t : State) → Holds (Same s) t → t.is_stopped ≡ s.is_stopped → Kept s → Kept t
still_kept s t same_ stopped h = let w = facts_of same_ in same_kept s t w.0 w.1 w.2 stopped h

pub none_kept : (s : State) → s.exchanges ≡ [] → Kept s
none_kept s none = record { event = λ at. holds (λ e i left. absurd (subst (λ (es : List Exchange). IsIn e es) none i)); late = λ runs late. holds (λ e i left. absurd (subst (λ (es : List Exchange). IsIn e es) none i)) }

-- ---- silent steps

done_off : (p : Phase) (s : State) → is_done_with p s ≡ true → is_event (onward p) ≡ false
done_off Before s done = refl
done_off IsWoken s done = refl
done_off IsConfigured s done = refl
done_off IsRooted s done = refl
done_off IsListed s done = refl
done_off IsListening s done = refl
done_off IsStuck s done = refl
done_off Awaiting s done = absurd (cc done)
done_off Handling s done = refl
done_off Evicting s done = refl
done_off Keeping s done = refl
done_off Deciding s done = refl
done_off Following s done = refl
done_off Connecting s done = refl
done_off DecidingAgain s done = refl

next_late : (terms : List Term) (log : Log) (s : State) → Obeys terms s log → s.is_stopped ≡ false → (IsLate s.phase → Holds Whose s) → (p : Phase) → s.phase ≡ p → IsLate (onward p) → Holds Whose (next s)
unfolding next
next_late terms log s obeys runs was Following is late = subst (λ (p : Phase). Holds Whose (behind p s)) (sym is) (followed-whose terms s log obeys runs)
next_late terms log s obeys runs was Connecting is late = subst (λ (p : Phase). Holds Whose (behind p s)) (sym is) (placing-whose (in_phase DecidingAgain s) (holds (facts_of (was (inl is)))))
next_late terms log s obeys runs was DecidingAgain is late = subst (λ (p : Phase). Holds Whose (behind p s)) (sym is) (was (inr is))
next_late terms log s obeys runs was Before is late = absurd (late_off Before refl late)
next_late terms log s obeys runs was IsWoken is late = absurd (late_off IsWoken refl late)
next_late terms log s obeys runs was IsConfigured is late = absurd (late_off IsConfigured refl late)
next_late terms log s obeys runs was IsRooted is late = absurd (late_off IsRooted refl late)
next_late terms log s obeys runs was IsListed is late = absurd (late_off IsListed refl late)
next_late terms log s obeys runs was IsListening is late = absurd (late_off IsListening refl late)
next_late terms log s obeys runs was IsStuck is late = absurd (late_off IsStuck refl late)
next_late terms log s obeys runs was Awaiting is late = absurd (late_off Awaiting refl late)
next_late terms log s obeys runs was Handling is late = absurd (late_off Evicting refl late)
next_late terms log s obeys runs was Evicting is late = absurd (late_off Keeping refl late)
next_late terms log s obeys runs was Keeping is late = absurd (late_off Deciding refl late)
next_late terms log s obeys runs was Deciding is late = absurd (late_off Following refl late)

pub next_stood : (terms : List Term) (log : Log) (s : State) → is_done s ≡ true → Stood terms log s → Stood terms log (next s)
next_stood terms log s done h = record {
  obeys = obeys_silently h.obeys done;
  kept = record {
    event = λ at. absurd (no_event terms (next s) log (obeys_silently h.obeys done) (ap is_event (next-phase s) ∙ done_off s.phase s done) at);
    late = λ runs late. (
        let going : s.is_stopped ≡ false = sym (ap (λ (o : Frame). o.is_stopped) (next-frame true s)) ∙ runs in
        next_late terms log s h.obeys going (h.kept.late going) s.phase refl (subst IsLate (next-phase s) late));
  };
}

stood_when : {terms : List Term} {log : Log} (t : Bool) {x y : State} → (t ≡ true → Stood terms log x) → Stood terms log y → Stood terms log (elim t as (λ c. State) [ true ↦ x | false ↦ y ])
stood_when true hx hy = hx refl
stood_when false hx hy = hy

come_stood : (terms : List Term) (log : Log) (stops : State → Bool) (ps : List Phase) (s : State) → Stood terms log s → Stood terms log (come stops ps s)
unfolding come
come_stood terms log stops [] s h = h
come_stood terms log stops (p ∷ ps) s h = come_stood terms log stops ps _ (stood_when (is_at p s) (λ at. stood_when (stops s) (λ is. h) (stood_when (is_done s) (λ done. next_stood terms log s done h) h)) h)

pub come_to_stood : (terms : List Term) (log : Log) (p : Phase) (s : State) → Stood terms log s → Stood terms log (come_to p s)
unfolding come_to
come_to_stood terms log p s h = come_stood terms log (is_at p) phases s h

pub come_to_decide_stood : (terms : List Term) (log : Log) (s : State) → Stood terms log s → Stood terms log (come_to_decide s)
unfolding come_to_decide
come_to_decide_stood terms log s h = come_stood terms log decides phases s h

-- ---- events

event_off : (s : State) → s.owed ≡ Free → AtEvent (event s).phase (event s).owed → ⊥
unfolding event regained
event_off s free (awaits is) = cc is
event_off s free (owes on) = let both : true ≡ false = sym (ap is_free free) ∙ on in cc both

pub event_kept : (s : State) → s.owed ≡ Free → Kept (event s)
event_kept s free = record { event = λ at. absurd (event_off s free at); late = λ runs late. absurd (late_off (event s).phase (ap is_last (event_handles s)) late) }

event_whose : (s : State) → Holds Whose s → Holds Whose (event s)
unfolding event regained
event_whose s h = holds (facts_of h)

pub owed_kept : (s : State) → Holds Whose s → Kept (event s)
owed_kept s whose = record { event = λ at. event_whose s whose; late = λ runs late. absurd (late_off (event s).phase (ap is_last (event_handles s)) late) }

pub owing_whose : (owed : Owed) (n : ℕ) (s : State) → Holds Whose s → Holds Whose (owing owed n s)
unfolding owing touch on_conn on_client
owing_whose owed n s h = holds (facts_of h)

-- ---- where nothing is owed any more

pub handled_kept : (s : State) → s.phase ≡ Handling → Kept (paid s)
handled_kept s is = record { event = λ at. absurd (handled_off s is at); late = λ runs late. absurd (late_off (paid s).phase (ap is_last (paid_phase s ∙ is)) late) }

paid_at : (s : State) → AtEvent (paid s).phase (paid s).owed → AtEvent s.phase s.owed
unfolding paid regained
paid_at s (awaits is) = awaits is
paid_at s (owes on) = absurd (cc on)

pub paid_kept : (s : State) → Kept s → Kept (paid s)
unfolding paid regained
paid_kept s h = record { event = λ at. holds (facts_of (h.event (paid_at s at))); late = λ runs late. holds (facts_of (h.late runs late)) }

-- ---- memory, and the disk

refused_whose : (x : Instance) (s : State) → Holds Whose s → Holds Whose (refused_row x s)
unfolding refused_row forget
refused_whose x s h = holds (λ e i left. by e left (in_change (brings_to x.id) dropping_body e s.exchanges i))
  where
    by : (e : Exchange) → is_lone e ≡ true → Changed (brings_to x.id) dropping_body s.exchanges e → is_some e.asker ≡ true
    by e left (same j isnt) = facts_of h e j left
    by e lone (other d j hit eq) = let both : false ≡ true = sym (ap (λ (y : Exchange). is_pending y.body) eq) ∙ pending_of e lone in absurd (cc both)

refused_as : (x : Instance) (s : State) → ((refused_row x s).phase ≡ s.phase) × ((refused_row x s).owed ≡ s.owed) × ((refused_row x s).is_stopped ≡ s.is_stopped)
unfolding refused_row forget
refused_as x s = (refl, refl, refl)

pub refused_kept : (x : Instance) (s : State) → Kept s → Kept (refused_row x s)
refused_kept x s h = let w = refused_as x s in record {
  event = λ at. refused_whose x s (h.event (same_at s (refused_row x s) w.0 w.1 at));
  late = λ runs late. refused_whose x s (h.late (sym w.2 ∙ runs) (subst IsLate w.0 late));
}

evicted_as : (s : State) → ((evicted s).exchanges ≡ s.exchanges) × ((evicted s).phase ≡ s.phase) × ((evicted s).owed ≡ s.owed) × ((evicted s).is_stopped ≡ s.is_stopped)
unfolding evicted drop_chunk
evicted_as s = by (due_victim s)
  where
    by : (o : Option (ℕ × ℕ)) → let t : State = elim o as (λ c. State) [ None ↦ s | Some place ↦ drop_chunk place.0 place.1 s ] in (t.exchanges ≡ s.exchanges) × (t.phase ≡ s.phase) × (t.owed ≡ s.owed) × (t.is_stopped ≡ s.is_stopped)
    by None = (refl, refl, refl, refl)
    by (Some place) = (refl, refl, refl, refl)

pub evicted_kept : (s : State) → Kept s → Kept (evicted s)
evicted_kept s h = let w = evicted_as s in same_kept s (evicted s) w.0 w.1 w.2 w.3 h

loaded_as : (key : Bytes) (i : ℕ) (s : State) → ((load key i s).exchanges ≡ s.exchanges) × ((load key i s).phase ≡ s.phase) × ((load key i s).owed ≡ s.owed) × ((load key i s).is_stopped ≡ s.is_stopped)
unfolding load load_from note_use
loaded_as key i s = by (row s key) (kept_row s key)
  where
    by : (r : Option Instance) (o : Option Entry) → let t : State = elim r as (λ c. State) [ None ↦ s | Some x ↦ elim o as (λ c. State) [ None ↦ s | Some e ↦ load_from x e i s ] ] in (t.exchanges ≡ s.exchanges) × (t.phase ≡ s.phase) × (t.owed ≡ s.owed) × (t.is_stopped ≡ s.is_stopped)
    by None o = (refl, refl, refl, refl)
    by (Some x) None = (refl, refl, refl, refl)
    by (Some x) (Some e) = (refl, refl, refl, refl)

pub loaded_kept : (key : Bytes) (i : ℕ) (s : State) → Kept s → Kept (load key i s)
loaded_kept key i s h = let w = loaded_as key i s in same_kept s (load key i s) w.0 w.1 w.2 w.3 h

op_same : (op : DiskOp) (ok : Bool) (s : State) → Holds (Same s) (ended_op op ok s)
unfolding ended_op
op_same op true s = end_op-keeps op true s (holds (refl, refl, refl))
op_same op false s = lose_in_opening-keeps s.agenda.name _ (end_op-keeps op false s (holds (refl, refl, refl)))

pub ended_op_kept : (op : DiskOp) (ok : Bool) (s : State) → Kept s → Kept (ended_op op ok s)
ended_op_kept op ok s h = still_kept s (ended_op op ok s) (op_same op ok s) (goes_as s (ended_op op ok s) (ended_seen op ok s)) h

pub unread_kept : (name : Bytes) (s : State) → Kept s → Kept (unread name s)
unfolding unread
unread_kept name s h = paid_kept _ (still_kept s (lose_in_opening name (close_name name s)) (lose_in_opening-keeps name _ (close_name-keeps name s (holds (refl, refl, refl)))) (goes_as s (lose_in_opening name (close_name name s)) (lost_seen name (close_name name s) ∙ closed_seen name s)) h)

pub begun_op_kept : (terms : List Term) (log : Log) (op : DiskOp) (s : State) → Stood terms log s → Kept (begun_op op s)
unfolding begun_op
begun_op_kept terms log op s h = by (is_opening s)
  where
    by : (t : Bool) → Kept (elim t as (λ c. State) [ true ↦ begin_in_opening op s | false ↦ begin_in_turn op (come_to Keeping s) ])
    by true = still_kept s (begin_in_opening op s) (begin_in_opening-keeps op s (holds (refl, refl, refl))) (goes_as s (begin_in_opening op s) (opening_begun_seen op s)) h.kept
    by false = let u : State = come_to Keeping s in still_kept u (begin_in_turn op u) (begin_in_turn-keeps op u (holds (refl, refl, refl))) (goes_as u (begin_in_turn op u) (turn_begun_seen op u)) (come_to_stood terms log Keeping s h).kept
