-- No happening leaves a turn at its end, but for a row that leaves memory for the decision that is next.
use Rattle.std.proofs.Common.{◌≡◌, refl, ℕ, zero, suc, Bool, true, false, not, ◌&&◌, ◌||◌, [], ◌∷◌, drop, length, Option, Some, None, option_map, bytes_eq, sym, ap, ◌∙◌}
use Rattle.std.specs.List.{list_any}
use Rattle.pp_conf.specs.Conf.{Settings}
use Rattle.pp_conf.specs.Words.{reading_of}
use Rattle.pp_text.specs.Bytes.{is_empty}
use Rattle.pp_world.specs.Files.{Files}
use Rattle.pp_world.specs.Log.{Log}
use Rattle.pp_world.specs.declared.event.Wants.{Wants}
use Rattle.pp_world.specs.declared.happening.Happening.{Happening}
use Rattle.pp_world.specs.declared.happening.Happening.TheVariants.{Woke, Waits, Clock, Opened, CanRead, CanWrite, Heard, HungUp, Said, Shut, Dialled, Undialled, Reached, Ended, Broke, Asked, Got, Dropped, NoneYet, Began, Did, Unread, Noted, Rooted, Listed, Listens, Configured, Printed, Stopped}
use Rattle.pp_world.specs.declared.note.Remark.{Remark}
use Rattle.pp_world.specs.declared.note.Remark.TheVariants.{Taken, Cut, Kept, Gone, Forgotten, Evicted, Loaded}
use Rattle.pp_world.specs.declared.op.DiskOp.{DiskOp}
use Rattle.pp_law.specs.After.{after, begun_op, changed, event, forgotten_by, leave_memory, noted, paid, refused_row, unread}
use Rattle.pp_law.specs.Due.{Due, Decide, CutOff, decides_for, first_due}
use Rattle.pp_law.specs.Lawful.{LawfulFrom}
use Rattle.pp_law.specs.Leaving.{Leaving, ForAnother, ForMemory, BeforeDecision, before_decision, forgets_next, if_so, is_first, leaving_as}
use Rattle.pp_law.specs.Lists.{Bytes}
use Rattle.pp_law.specs.Opening.{are_texts, begun, configured, is_at, is_opening, is_same_phase, lose_in_opening, may_fail, names_file, opened_to, settings_in, stuck, with_settings, woken}
use Rattle.pp_law.specs.Permits.{IsPermitted, is_new_number, is_permitted, may_dial, may_drop, may_evict, may_shut, permits, permits_began, permits_behind_forgotten}
use Rattle.pp_law.specs.Phases.{come_to, come_to_decide, deciding, decides, may_in, next}
use Rattle.pp_law.specs.Chunks.{note_use}
use Rattle.pp_law.specs.Replies.{regained}
use Rattle.pp_law.specs.Repairs.{begin_in_opening, may_begin_in_opening}
use Rattle.pp_law.specs.State.{State, Entry, Instance, Phase, IsListed, IsListening, IsRooted, IsWoken, Handling, Evicting, Keeping, Deciding, Connecting, DecidingAgain, start}
use Rattle.pp_law.specs.Store.{begin_in_turn, close_name, load, load_from, may_begin_in_turn, may_note_gone}
use Rattle.pp_law.specs.Table.{idle_row, kept_row, row}
use Rattle.pp_law.specs.Turn.{rest_with}
use Rattle.pp_laws.specs.Runs.{after_all, state_after}
use Rattle.pp_laws.proofs.Tests.{second_holds}
use Rattle.pp_laws_unused.proofs.Seen.{Seen, closed_seen, ended_seen, gone_seen, kept_seen, lost_seen, opening_begun_seen, seen, turn_begun_seen}
use Rattle.pp_laws_unused.proofs.Turning.{deciding_phase, dialled_phase, dropped_phase, opens, paid_phase, phase_kept, taken_phase, undialled_phase}
use Rattle.pp_obeys.specs.Obeys.{phases_on}
use Rattle.pp_obeys.proofs.Forgetting.{leaving_with}
use Rattle.pp_obeys.proofs.Frames.{Frame, Stays, frame, stays}
use Rattle.pp_obeys.proofs.Settled.{at_phase, come_at}
use Rattle.pp_obeys.proofs.Silent.{permitted_wide}
use Rattle.pp_obeys.proofs.StaysResponses.{got-stays}
use Rattle.pp_obeys.proofs.StaysTable.{close_client-stays}
use Rattle.pp_obeys.proofs.StaysTurns.{ask-stays, end_replies-stays, evicted-stays, gone-stays, hang_up-stays, hear-stays, next-frame, refused_row-stays, said-stays, shut-stays}
use Rattle.pp_laws_left.specs.Unended.{HappeningsEndNoTurn, TurnsMayEnd}

record IsBefore (s : State) : Type 0 where
  is : is_at DecidingAgain s ≡ false

-- but where a row left for a decision
abbrev Unended : State → Type 0
Unended s = s.made_room_for ≡ None → IsBefore s

-- ---- in a phase, or in that of another

at : (p : Phase) (s : State) → s.phase ≡ p → is_same_phase DecidingAgain p ≡ false → IsBefore s
at p s is early = record { is = ap (is_same_phase DecidingAgain) is ∙ early }

as_in : (s t : State) → t.phase ≡ s.phase → IsBefore s → IsBefore t
as_in s t same h = record { is = ap (is_same_phase DecidingAgain) same ∙ h.is }

phase_seen : (s t : State) → seen t ≡ seen s → t.phase ≡ s.phase
phase_seen s t is = ap (λ (v : Seen). v.phase) is

in_seen : (s t : State) → seen t ≡ seen s → IsBefore s → IsBefore t
in_seen s t same h = as_in s t (phase_seen s t same) h

worked : (s x : State) → Stays false (frame false s) x → IsBefore s → IsBefore (paid x)
worked s x same h = as_in s (paid x) (paid_phase x ∙ phase_kept s x same) h

pub handled : (s : State) → (event s).phase ≡ Handling
unfolding event regained
handled s = refl

event_before : (s : State) → IsBefore (event s)
event_before s = at Handling (event s) (handled s) refl

rested : (w : Wants) (s : State) → IsBefore (rest_with w s)
unfolding rest_with
rested w s = record { is = refl }

connecting : (test : State → Bool) (s x : State) → may_in Connecting test s ≡ true → x.phase ≡ (come_to Connecting s).phase → IsBefore x
connecting test s x may same = at Connecting x (same ∙ come_at Connecting test s may) refl

-- ---- the opening

set_before : (o : Option Settings) (s : State) → IsBefore (with_settings o s)
unfolding with_settings
set_before None s = record { is = refl }
set_before (Some c) s = record { is = refl }

begun_before : (s : State) → IsBefore (begun s)
unfolding begun
begun_before s = by (are_texts s.term) (names_file s.term)
  where
    by : (texts names : Bool) → IsBefore (elim texts as (λ c. State) [
      | false ↦ with_settings None s
      | true ↦ elim names as (λ c. State) [ true ↦ record s { phase = IsWoken } | false ↦ with_settings (settings_in (reading_of s.term.words None)) s ]
    ])
    by false names = set_before None s
    by true true = record { is = refl }
    by true false = set_before (settings_in (reading_of s.term.words None)) s

woken_before : (image : Files) (s : State) → IsBefore (woken image s)
unfolding woken
woken_before image s = begun_before _

opened_before : (p : Phase) (ok : Bool) (s : State) → is_same_phase DecidingAgain p ≡ false → IsBefore (opened_to p ok s)
unfolding opened_to stuck
opened_before p true s early = record { is = early }
opened_before p false s early = record { is = refl }

configured_before : (text : Option Bytes) (s : State) → IsBefore (configured text s)
unfolding configured stuck
configured_before None s = record { is = refl }
configured_before (Some text) s = set_before (settings_in (reading_of s.term.words (Some text))) s

-- ---- the disk

pub begun_in : (op : DiskOp) (s : State) → permits_began s op ≡ true → is_opening s ≡ false → (come_to Keeping s).phase ≡ Keeping
begun_in op s may turns = by (is_at IsListed s) refl may
  where
    by : (b : Bool) → is_at IsListed s ≡ b → ((b && may_begin_in_opening op s) || may_in Keeping (may_begin_in_turn op) s) ≡ true → (come_to Keeping s).phase ≡ Keeping
    by true listed is = let both : false ≡ true = sym turns ∙ ap opens (at_phase IsListed s listed) in absurd (cc both)
    by false isnt is = come_at Keeping (may_begin_in_turn op) s is

op_before : (op : DiskOp) (s : State) → permits_began s op ≡ true → IsBefore s → IsBefore (begun_op op s)
unfolding begun_op
op_before op s may h = by (is_opening s) refl
  where
    by : (t : Bool) → is_opening s ≡ t → IsBefore (elim t as (λ c. State) [ true ↦ begin_in_opening op s | false ↦ begin_in_turn op (come_to Keeping s) ])
    by true is = in_seen s _ (opening_begun_seen op s) h
    by false isnt = in_seen (come_to Keeping s) _ (turn_begun_seen op (come_to Keeping s)) (at Keeping (come_to Keeping s) (begun_in op s may isnt) refl)

unread_before : (name : Bytes) (s : State) → IsBefore s → IsBefore (unread name s)
unfolding unread
unread_before name s h =
    let t : State = lose_in_opening name (close_name name s) in
    as_in s (paid t) (paid_phase t ∙ phase_seen s t (lost_seen name (close_name name s) ∙ closed_seen name s)) h

pub loaded_phase : (key : Bytes) (i : ℕ) (s : State) → (load key i s).phase ≡ s.phase
unfolding load load_from note_use
loaded_phase key i s = by (row s key) (kept_row s key)
  where
    by : (r : Option Instance) (o : Option Entry) → (elim r as (λ c. State) [ None ↦ s | Some x ↦ elim o as (λ c. State) [ None ↦ s | Some e ↦ load_from x e i s ] ]).phase ≡ s.phase
    by None o = refl
    by (Some x) None = refl
    by (Some x) (Some e) = refl

-- ---- a row leaves

no_other : (o decided : Option Instance) (how : Leaving) → (elim o as (λ c. Option Leaving) [ Some x ↦ Some (ForMemory x) | None ↦ option_map BeforeDecision decided ]) ≡ Some how → how ≡ ForAnother → ⊥
no_other None None how is another = cc is
no_other None (Some x) how is another = let both : Some (BeforeDecision x) ≡ Some ForAnother = is ∙ ap (λ (l : Leaving). Some l) another in cc both
no_other (Some x) decided how is another = let both : Some (ForMemory x) ≡ Some ForAnother = is ∙ ap (λ (l : Leaving). Some l) another in cc both

pub another_first : (first none : Bool) (r decided : Option Instance) → leaving_with first none r decided ≡ Some ForAnother → first ≡ true
another_first true none r decided is = refl
another_first false none r decided is = absurd (no_other (elim none as (λ c. Option Instance) [ true ↦ if_so (λ x. x.is_new) r | false ↦ None ]) decided ForAnother is refl)

pub memory_none : (first none : Bool) (r decided : Option Instance) (x : Instance) → leaving_with first none r decided ≡ Some (ForMemory x) → none ≡ true
memory_none true none r decided x is = absurd (cc is)
memory_none false true r decided x is = refl
memory_none false false r None x is = absurd (cc is)
memory_none false false r (Some y) x is = absurd (cc is)

pub decision_some : (first none : Bool) (r decided : Option Instance) (x : Instance) → leaving_with first none r decided ≡ Some (BeforeDecision x) → decided ≡ None → ⊥
decision_some true none r decided x is nobody = cc is
decision_some false none r decided x is nobody = by (elim none as (λ c. Option Instance) [ true ↦ if_so (λ y. y.is_new) r | false ↦ None ]) decided is nobody
  where
    by : (o d : Option Instance) → (elim o as (λ c. Option Leaving) [ Some y ↦ Some (ForMemory y) | None ↦ option_map BeforeDecision d ]) ≡ Some (BeforeDecision x) → d ≡ None → ⊥
    by (Some y) d one none = cc one
    by None None one none = cc one
    by None (Some y) one none = cc none

-- who it leaves for is known
pub is_for : (t : State) (due : Option Due) → forgets_next t due ≡ true → decides_for due ≡ None → ⊥
is_for t None is none = cc is
is_for t (Some (Decide n i d)) is none = cc none
is_for t (Some (CutOff n cause)) is none = cc is

pub makes_some : (s : State) (key : Bytes) → (before_decision s key ≡ None → ⊥) → decides_for (first_due (come_to_decide s)) ≡ None → ⊥
makes_some s key some nobody = some (by (decides t) (forgets_next t (first_due t)) refl)
  where
    t : State
    t = come_to_decide s

    by : (b c : Bool) → forgets_next t (first_due t) ≡ c → (elim b as (λ x. Option Instance) [ true ↦ elim c as (λ x. Option Instance) [ true ↦ if_so (λ x. bytes_eq x.key key && not x.is_new) (idle_row t) | false ↦ None ] | false ↦ None ]) ≡ None
    by false c is = refl
    by true false is = refl
    by true true is = absurd (is_for t (first_due t) is nobody)

left_unended : (how : Leaving) (s : State) (key : Bytes) → leaving_as s key ≡ Some how → Unended (leave_memory how s)
unfolding leave_memory
left_unended ForAnother s key is = λ none.
    let t : State = come_to Evicting s in
    at Evicting (record t { forgotten = drop 1 t.forgotten }) (come_at Evicting (λ t. is_first key t.forgotten) s (another_first (may_in Evicting (λ t. is_first key t.forgotten) s) (may_in Evicting (λ t. is_empty t.forgotten) s) (row s key) (before_decision s key) is)) refl
left_unended (ForMemory x) s key is = λ none.
    let in_it : (come_to Evicting s).phase ≡ Evicting = come_at Evicting (λ t. is_empty t.forgotten) s (memory_none (may_in Evicting (λ t. is_first key t.forgotten) s) (may_in Evicting (λ t. is_empty t.forgotten) s) (row s key) (before_decision s key) x is) in
    at Evicting (refused_row x (come_to Evicting s)) (phase_kept (come_to Evicting s) (refused_row x (come_to Evicting s)) (refused_row-stays x (come_to Evicting s) (stays refl)) ∙ in_it) refl
left_unended (BeforeDecision x) s key is = λ none.
    absurd (makes_some s key (decision_some (may_in Evicting (λ t. is_first key t.forgotten) s) (may_in Evicting (λ t. is_empty t.forgotten) s) (row s key) (before_decision s key) x is) none)

forgotten_unended : (key : Bytes) (s : State) → IsBefore s → Unended (forgotten_by key s)
unfolding forgotten_by
forgotten_unended key s h = by (leaving_as s key) refl
  where
    by : (o : Option Leaving) → leaving_as s key ≡ o → Unended (elim o as (λ c. State) [ None ↦ s | Some how ↦ leave_memory how s ])
    by None is = λ none. h
    by (Some how) is = left_unended how s key is

-- ---- happening by happening

noted_unended : (remark : Remark) (s : State) → permits s (Noted remark) ≡ true → (permits_behind_forgotten s (Noted remark) ≡ false → IsBefore s) → Unended (noted remark s)
unfolding noted permits
noted_unended (Taken c i d) s may h = λ none. at Deciding _ (taken_phase c d (deciding s) ∙ deciding_phase s) refl
noted_unended (Cut c cause) s may h = λ none. at Deciding _ (phase_kept (deciding s) _ (close_client-stays c true (deciding s) (stays refl)) ∙ deciding_phase s) refl
noted_unended (Kept key tag n extent) s may h = λ none. in_seen s _ (kept_seen key extent s) (h refl)
noted_unended (Gone key) s may h = λ none. in_seen (come_to Keeping s) _ (gone_seen key (come_to Keeping s)) (at Keeping (come_to Keeping s) (come_at Keeping (λ t. may_note_gone t key) s may) refl)
noted_unended (Forgotten key) s may h = forgotten_unended key s (h refl)
noted_unended (Evicted key tag n i) s may h = λ none. at Evicting _ (phase_kept (come_to Evicting s) _ (evicted-stays (come_to Evicting s) (stays refl)) ∙ come_at Evicting (λ t. may_evict t key tag n i) s may) refl
noted_unended (Loaded key tag n i) s may h = λ none. as_in s _ (loaded_phase key i s) (h refl)

changed_unended : (s : State) (h : Happening) → permits s h ≡ true → (permits_behind_forgotten s h ≡ false → IsBefore s) → Unended (changed s h)
unfolding changed permits
changed_unended s (Woke image) may h = λ none. woken_before image s
changed_unended s (Waits w) may h = λ none. rested w _
changed_unended s (Clock seconds) may h = λ none. event_before _
changed_unended s (Opened n) may h = λ none. event_before _
changed_unended s (CanRead n) may h = λ none. event_before _
changed_unended s (CanWrite n) may h = λ none. event_before _
changed_unended s (Heard c bytes) may h = λ none. worked s _ (hear-stays c bytes s (stays refl)) (h refl)
changed_unended s (HungUp c) may h = λ none. worked s _ (hang_up-stays c s (stays refl)) (h refl)
changed_unended s (Said c offered bytes) may h = λ none. worked s _ (said-stays c (length bytes) s (stays refl)) (h refl)
changed_unended s (Shut c) may h = λ none. connecting (λ t. list_any (may_shut t c) t.clients) s _ may (phase_kept (come_to Connecting s) _ (shut-stays c (come_to Connecting s) (stays refl)))
changed_unended s (Dialled n host port) may h = λ none. connecting (λ t. may_dial t host port) s _ (second_holds (is_new_number s n) _ may) (dialled_phase n host port (come_to Connecting s))
changed_unended s (Undialled host port) may h = λ none. connecting (λ t. may_dial t host port) s _ (second_holds (may_fail s false) _ may) (undialled_phase (come_to Connecting s))
changed_unended s (Reached k) may h = λ none. event_before _
changed_unended s (Ended k) may h = λ none. worked s _ (gone-stays true k s (stays refl)) (h refl)
changed_unended s (Broke k) may h = λ none. worked (event s) _ (gone-stays false k (event s) (stays refl)) (event_before s)
changed_unended s (Asked k bytes) may h = λ none. worked s _ (ask-stays k (length bytes) s (stays refl)) (h refl)
changed_unended s (Got k bytes) may h = λ none. worked s _ (end_replies-stays _ (got-stays (length bytes) k bytes s (stays refl))) (h refl)
changed_unended s (Dropped k) may h = λ none. connecting (λ t. may_drop t k) s _ may (dropped_phase k (come_to Connecting s))
changed_unended s (NoneYet n) may h = λ none. worked s s (stays refl) (h refl)
changed_unended s (Began op) may h = λ none. op_before op s may (h refl)
changed_unended s (Did op ok) may h = λ none. in_seen s _ (ended_seen op ok s) (h refl)
changed_unended s (Unread name) may h = λ none. unread_before name s (h refl)
changed_unended s (Noted remark) may h = noted_unended remark s may h
changed_unended s (Rooted folder) may h = λ none. opened_before IsRooted true s refl
changed_unended s (Listed ok) may h = λ none. opened_before IsListed ok s refl
changed_unended s (Listens port ok) may h = λ none. opened_before IsListening ok s refl
changed_unended s (Configured file text) may h = λ none. configured_before text s
changed_unended s (Printed text) may h = λ none. h refl
changed_unended s Stopped may h = λ none. event_before _

-- behind a row that left for a decision only that decision may come, or a crash
before_at : (s : State) (h : Happening) → IsPermitted s h → Unended s → permits_behind_forgotten s h ≡ false → IsBefore s
unfolding is_permitted
before_at s h may was off = by s.made_room_for refl may
  where
    by : (o : Option ℕ) → s.made_room_for ≡ o → (elim o as (λ c. Bool) [ Some who ↦ permits_behind_forgotten s h | None ↦ permits s h ]) ≡ true → IsBefore s
    by None is on = was is
    by (Some who) is on = let both : true ≡ false = sym on ∙ off in absurd (cc both)

-- ---- along a log, and some phases on

all_unended : (s : State) (log : Log) → LawfulFrom s log → Unended s → Unended (after_all s log)
all_unended s [] lawful h = h
all_unended s (e ∷ log) lawful h = all_unended (after s e) log lawful.1 (changed_unended s e (permitted_wide s e lawful.0) (λ off. before_at s e lawful.0 h off))

room_on : (n : ℕ) (s : State) → (phases_on n s).made_room_for ≡ s.made_room_for
room_on zero s = refl
room_on (suc n) s = room_on n (next s) ∙ ap (λ (f : Frame). f.made_room_for) (next-frame false s)

pub happenings_end_no_turn : HappeningsEndNoTurn
happenings_end_no_turn terms s log obeys none =
    let r : State = state_after terms log in
    (all_unended (start terms) log obeys.lawful (λ none_yet. record { is = refl }) (sym (room_on obeys.goes.phases r) ∙ ap (λ (t : State). t.made_room_for) obeys.goes.there ∙ none)).is

pub turns_may_end : TurnsMayEnd
turns_may_end terms s log obeys none may runs = record { obeys = obeys; early = happenings_end_no_turn terms s log obeys none; may = may; runs = runs }
