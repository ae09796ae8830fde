-- Happening by happening: what permits it, and where it leads. Here those of the phases of a turn, each in its phase.
use Rattle.std.proofs.Common.{◌≡◌, refl, ℕ, ◌<◌, Bool, true, false, not, ◌&&◌, ◌||◌, ◌==◌, List, [], ◌∷◌, drop, Option, Some, None, is_some, option_map, ap, ap₂, ◌∙◌}
use Rattle.std.specs.List.{list_any}
use Rattle.pp_text.specs.Bytes.{is_empty}
use Rattle.pp_world.specs.declared.event.Wants.{Wants}
use Rattle.pp_world.specs.declared.happening.Happening.TheVariants.{Waits, Shut, Dialled, Undialled, Dropped, Began, Noted}
use Rattle.pp_world.specs.declared.note.Cause.{Cause}
use Rattle.pp_world.specs.declared.note.Cause.TheVariants.{Superseded, Origin, Short, Idle, Memory, Stop}
use Rattle.pp_world.specs.declared.note.Decision.{Decision}
use Rattle.pp_world.specs.declared.note.Decision.TheVariants.{Refuse, Hit, Part, Head, NotModified, Unsatisfiable, Relay, Validate, Fetch, Pass}
use Rattle.pp_world.specs.declared.note.Remark.TheVariants.{Taken, Cut, Kept, Gone, Forgotten, Evicted, Loaded}
use Rattle.pp_world.specs.declared.op.DiskOp.{DiskOp}
use Rattle.pp_law.specs.After.{after, begun_op, changed, dialled, dropped, evicted, leave_memory, noted, refused_row, shut, take_decision, undialled}
use Rattle.pp_law.specs.Closing.{close_client}
use Rattle.pp_law.specs.Connections.{client, placing}
use Rattle.pp_law.specs.Deciding.{is_for_memory}
use Rattle.pp_law.specs.Due.{Due, Decide, CutOff, decides_for, due_of, due_to, first_due, next_due}
use Rattle.pp_law.specs.Leaving.{Leaving, ForAnother, ForMemory, BeforeDecision, before_decision, is_first, leaving_as, makes_room}
use Rattle.pp_law.specs.Lists.{Bytes}
use Rattle.pp_law.specs.Opening.{is_at, is_same_phase, may_fail}
use Rattle.pp_law.specs.Permits.{has_room_for, is_due_cut, is_due_decision, is_new_number, is_newcomer, is_permitted, is_same_cause, is_same_decision, may_cut, may_dial, may_drop, may_evict, may_load, may_shut, may_take, may_want_memory, permits, permits_behind_forgotten, permits_taken}
use Rattle.pp_law.specs.Phases.{come_to, come_to_decide, decides, deciding, ending, in_phase, is_done, is_done_with, may_end, may_in, phases}
use Rattle.pp_law.specs.Repairs.{begin_in_opening}
use Rattle.pp_law.specs.Replies.{begin_replies}
use Rattle.pp_law.specs.Served.{is_served}
use Rattle.pp_law.specs.State.{State, Client, Instance, Phase, Evicting, Keeping, Deciding, Connecting, DecidingAgain, IsWoken, IsConfigured, IsRooted, IsListed, IsListening, IsStuck}
use Rattle.pp_law.specs.Store.{begin_in_turn, is_acknowledged_as, is_at_rest, is_idle_disk, load, may_begin_in_turn, may_note_gone, note_gone, note_kept}
use Rattle.pp_law.specs.Table.{forget, row}
use Rattle.pp_law.specs.Turn.{rest_with}
use Rattle.pp_laws.proofs.Tests.{number_same}
use Rattle.pp_obeys.specs.Moves.{Goes}
use Rattle.pp_obeys.proofs.Come.{come-stopped, may_in-past, place_of}
use Rattle.pp_obeys.proofs.Forgetting.{after_by, leaving_with}
use Rattle.pp_obeys.proofs.Happenings.{goes_by, permitted}
use Rattle.pp_obeys.proofs.Silent.{both_hold, or_second}

-- ---- in its phase

here : (p : Phase) (s : State) → is_at p s ≡ true → come_to p s ≡ s
unfolding come_to
here p s at = come-stopped (is_at p) phases s at

may_here : (p : Phase) (test : State → Bool) (s : State) → is_at p s ≡ true → test s ≡ true → may_in p test s ≡ true
may_here p test s at holds =
    ap (λ (t : State). elim (is_at p t) as (λ c. Bool) [ true ↦ test t | false ↦ false ]) (here p s at) ∙ ap (λ (b : Bool). elim b as (λ c. Bool) [ true ↦ test s | false ↦ false ]) at ∙ holds

-- ---- rows and chunks leave memory

pub goes_evicted : (s : State) (key tag : Bytes) (n i : ℕ) → s.has_made_room ≡ None → s.phase ≡ Evicting → may_evict s key tag n i ≡ true → Goes s (Noted (Evicted key tag n i)) (evicted s)
unfolding permits changed noted
goes_evicted s key tag n i none at may =
    let is = ap (is_same_phase Evicting) at in goes_by none (may_here Evicting (λ t. may_evict t key tag n i) s is may) (ap evicted (here Evicting s is))

goes_forgotten : (s : State) (key : Bytes) (how : Leaving) → s.has_made_room ≡ None → leaving_as s key ≡ Some how → Goes s (Noted (Forgotten key)) (leave_memory how s)
unfolding permits
goes_forgotten s key how none is = goes_by none (ap (λ (o : Option Leaving). is_some o) is) (after_by s key how is)

-- another took its room
pub goes_forgotten_for_another : (s : State) (key : Bytes) → s.has_made_room ≡ None → s.phase ≡ Evicting → is_first key s.forgotten ≡ true → Goes s (Noted (Forgotten key)) (record s { forgotten = drop 1 s.forgotten })
unfolding leave_memory
goes_forgotten_for_another s key none at first =
    let is = ap (is_same_phase Evicting) at in
    let how = goes_forgotten s key ForAnother none
    (ap (λ (b : Bool). leaving_with b (may_in Evicting (λ t. is_empty t.forgotten) s) (row s key) (before_decision s key)) (may_here Evicting (λ t. is_first key t.forgotten) s is first)) in
    record { may = how.may; leads = how.leads ∙ ap (λ (t : State). record t { forgotten = drop 1 t.forgotten }) (here Evicting s is) }

none_first : (key : Bytes) (keys : List Bytes) → is_empty keys ≡ true → is_first key keys ≡ false
none_first key [] is = refl
none_first key (k ∷ keys) is = absurd (cc is)

-- memory was refused for it
pub goes_forgotten_for_memory : (s : State) (key : Bytes) (x : Instance) → s.has_made_room ≡ None → s.phase ≡ Evicting → is_empty s.forgotten ≡ true → row s key ≡ Some x → x.is_new ≡ true
    → Goes s (Noted (Forgotten key)) (refused_row x s)
unfolding leave_memory
goes_forgotten_for_memory s key x none at nobody there new =
    let how = goes_forgotten s key (ForMemory x) none
    (ap₂ (λ (a b : Bool). leaving_with a b (row s key) (before_decision s key)) not_first (may_here Evicting (λ t. is_empty t.forgotten) s is nobody)
    ∙ ap (λ (o : Option Instance). leaving_with false true o (before_decision s key)) there
    ∙ ap (λ (b : Bool). elim (elim b as (λ c. Option Instance) [ true ↦ Some x | false ↦ None ]) as (λ c. Option Leaving) [ Some y ↦ Some (ForMemory y) | None ↦ option_map BeforeDecision (before_decision s key) ]) new) in
    record { may = how.may; leads = how.leads ∙ ap (refused_row x) (here Evicting s is) }
  where
    is : is_at Evicting s ≡ true
    is = ap (is_same_phase Evicting) at

    not_first : may_in Evicting (λ t. is_first key t.forgotten) s ≡ false
    not_first =
        ap (λ (t : State). elim (is_at Evicting t) as (λ c. Bool) [ true ↦ is_first key t.forgotten | false ↦ false ]) (here Evicting s (ap (is_same_phase Evicting) at))
        ∙ ap (λ (b : Bool). elim b as (λ c. Bool) [ true ↦ is_first key s.forgotten | false ↦ false ]) (ap (is_same_phase Evicting) at)
        ∙ none_first key s.forgotten nobody

-- ---- the disk

pub goes_began : (s : State) (op : DiskOp) → s.has_made_room ≡ None → s.phase ≡ Keeping → may_begin_in_turn op s ≡ true → Goes s (Began op) (begin_in_turn op s)
unfolding permits changed begun_op
goes_began s op none at may =
    let is = ap (is_same_phase Keeping) at in
    let turns = ap (λ (q : Phase). list_any (λ p. is_same_phase p q) (IsWoken ∷ IsConfigured ∷ IsRooted ∷ IsListed ∷ IsListening ∷ IsStuck ∷ [])) at in
    goes_by none
    (or_second _ (may_in Keeping (may_begin_in_turn op) s) (may_here Keeping (may_begin_in_turn op) s is may))
    (ap₂ (λ (b : Bool) (t : State). elim b as (λ c. State) [ true ↦ begin_in_opening op s | false ↦ begin_in_turn op t ]) turns (here Keeping s is))

pub goes_kept : (s : State) (key tag : Bytes) (n extent : ℕ) → s.has_made_room ≡ None → is_idle_disk s ≡ true → is_acknowledged_as key tag n extent s.agenda.todo ≡ true → Goes s (Noted (Kept key tag n extent)) (note_kept key extent s)
unfolding permits changed noted
goes_kept s key tag n extent none idle next = goes_by none (both_hold (is_idle_disk s) _ idle next) refl

pub goes_gone : (s : State) (key : Bytes) → s.has_made_room ≡ None → s.phase ≡ Keeping → may_note_gone s key ≡ true → Goes s (Noted (Gone key)) (note_gone key s)
unfolding permits changed noted
goes_gone s key none at may = let is = ap (is_same_phase Keeping) at in goes_by none (may_here Keeping (λ t. may_note_gone t key) s is may) (ap (note_gone key) (here Keeping s is))

-- before it is said, while the event is handled
pub goes_loaded : (s : State) (key tag : Bytes) (n i : ℕ) → s.has_made_room ≡ None → is_at_rest s ≡ true → list_any (may_load s key tag n i) s.clients ≡ true → Goes s (Noted (Loaded key tag n i)) (load key i s)
unfolding permits changed noted
goes_loaded s key tag n i none rests may = goes_by none (both_hold (is_at_rest s) _ rests may) refl

-- ---- decisions and cuts

decides_here : (s : State) → decides s ≡ true → come_to_decide s ≡ s
unfolding come_to_decide
decides_here s is = come-stopped decides phases s is

-- where one is due
pub decides_due : (s : State) (due : Due) → s.phase ≡ Deciding → first_due s ≡ Some due → decides s ≡ true
decides_due s due at is =
    ap (λ (b : Bool). elim b as (λ c. Bool) [ true ↦ not (is_done s) | false ↦ is_at DecidingAgain s ]) (ap (is_same_phase Deciding) at)
    ∙ ap (λ (p : Phase). not (is_done_with p s)) at
    ∙ ap (λ (o : Option Due). not (not (is_some o))) is

-- and behind the places
pub decides_again : (s : State) → s.phase ≡ DecidingAgain → decides s ≡ true
decides_again s at =
    ap₂ (λ (a b : Bool). elim a as (λ c. Bool) [ true ↦ not (is_done s) | false ↦ b ]) (ap (is_same_phase Deciding) at) (ap (is_same_phase DecidingAgain) at)

taken_may : (s : State) (c i : ℕ) (d : Decision) → decides s ≡ true → may_take s c i d ≡ true → permits_taken s c i d ≡ true
taken_may s c i d decide may =
    ap (λ (t : State). elim (decides t) as (λ x. Bool) [ true ↦ may_take t c i d | false ↦ false ]) (decides_here s decide) ∙ ap (λ (b : Bool). elim b as (λ x. Bool) [ true ↦ may_take s c i d | false ↦ false ]) decide ∙ may

taken_leads : (s : State) (c i : ℕ) (d : Decision) → decides s ≡ true → after s (Noted (Taken c i d)) ≡ take_decision c d (in_phase Deciding s)
unfolding changed noted deciding
taken_leads s c i d decide = ap (λ (t : State). take_decision c d (in_phase Deciding t)) (decides_here s decide)

pub goes_taken : (s : State) (c i : ℕ) (d : Decision) → s.has_made_room ≡ None → decides s ≡ true → may_take s c i d ≡ true → Goes s (Noted (Taken c i d)) (take_decision c d (in_phase Deciding s))
unfolding permits
goes_taken s c i d none decide may = goes_by none (taken_may s c i d decide may) (taken_leads s c i d decide)

-- behind the row that left memory for it
pub goes_taken_behind : (s : State) (c i : ℕ) (d : Decision) (who : ℕ) → s.has_made_room ≡ Some who → decides s ≡ true → may_take s c i d ≡ true → is_for_memory d ≡ false → Goes s (Noted (Taken c i d)) (take_decision c d (in_phase Deciding s))
unfolding is_permitted
goes_taken_behind s c i d who made decide may enters = record {
  may = λ fail. ap (λ (o : Option ℕ). elim o as (λ x. Bool) [ Some n ↦ permits_behind_forgotten s (Noted (Taken c i d)) | None ↦ permits s (Noted (Taken c i d)) ]) made ∙ both_hold (permits_taken s c i d) _ (taken_may s c i d decide may) (ap (λ (b : Bool). not b) enters);
  leads = taken_leads s c i d decide;
}

same_decision : (d : Decision) → is_same_decision d d ≡ true
same_decision (Refuse status) = number_same status
same_decision (Hit from to) = both_hold (from == from) (to == to) (number_same from) (number_same to)
same_decision (Part from to) = both_hold (from == from) (to == to) (number_same from) (number_same to)
same_decision Head = refl
same_decision NotModified = refl
same_decision Unsatisfiable = refl
same_decision Relay = refl
same_decision Validate = refl
same_decision Fetch = refl
same_decision Pass = refl

-- what comes next is what is due first; and behind a row that left memory for a client's decision, what is due to that client
pub next_first : (s : State) → s.has_made_room ≡ None → next_due s ≡ first_due s
next_first s none = ap (λ (room : Option ℕ). elim room as (λ x. Option Due) [ None ↦ first_due s | Some n ↦ due_to s n ]) none

pub next_behind : (s : State) (n : ℕ) (c : Client) → s.has_made_room ≡ Some n → client s n ≡ Some c → next_due s ≡ due_of s c
next_behind s n c made found =
    ap (λ (room : Option ℕ). elim room as (λ x. Option Due) [ None ↦ first_due s | Some m ↦ due_to s m ]) made ∙ ap (λ (o : Option Client). elim o as (λ x. Option Due) [ None ↦ None | Some x ↦ due_of s x ]) found

-- the decision that comes next may be taken
pub takes_due : (s : State) (c i : ℕ) (d : Decision) → next_due s ≡ Some (Decide c i d) → has_room_for s c d ≡ true → may_take s c i d ≡ true
takes_due s c i d due room =
    both_hold _ (has_room_for s c d)
    (ap (λ (o : Option Due). is_due_decision s o c i d) due
    ∙ both_hold ((c == c) && (i == i)) _ (both_hold (c == c) (i == i) (number_same c) (number_same i))
    (ap (λ (b : Bool). b || (is_same_decision d (Refuse 500) && may_want_memory s c)) (same_decision d)))
    room

-- or memory is refused for it
pub takes_refusal : (s : State) (c i : ℕ) (d : Decision) → next_due s ≡ Some (Decide c i d) → may_want_memory s c ≡ true → may_take s c i (Refuse 500) ≡ true
takes_refusal s c i d due wants =
    both_hold _ (has_room_for s c (Refuse 500))
    (ap (λ (o : Option Due). is_due_decision s o c i (Refuse 500)) due
    ∙ both_hold ((c == c) && (i == i)) _ (both_hold (c == c) (i == i) (number_same c) (number_same i)) (or_second (is_same_decision d (Refuse 500)) _ wants))
    refl

same_cause : (cause : Cause) → is_same_cause cause cause ≡ true
same_cause Superseded = refl
same_cause Origin = refl
same_cause Short = refl
same_cause Idle = refl
same_cause Memory = refl
same_cause Stop = refl

-- the cut that is due
pub cuts_due : (s : State) (c : ℕ) (cause : Cause) → first_due s ≡ Some (CutOff c cause) → may_cut s c cause ≡ true
cuts_due s c cause due = ap (λ (b : Bool). b || (is_same_cause cause Memory && list_any (is_newcomer c) s.clients)) (ap (λ (o : Option Due). is_due_cut o c cause) due ∙ both_hold (c == c) (is_same_cause cause cause) (number_same c) (same_cause cause))

pub goes_cut : (s : State) (c : ℕ) (cause : Cause) → s.has_made_room ≡ None → decides s ≡ true → may_cut s c cause ≡ true → Goes s (Noted (Cut c cause)) (close_client c true (in_phase Deciding s))
unfolding permits changed noted deciding
goes_cut s c cause none decide may =
    goes_by none
    (ap (λ (t : State). elim (decides t) as (λ x. Bool) [ true ↦ may_cut t c cause | false ↦ false ]) (decides_here s decide) ∙ ap (λ (b : Bool). elim b as (λ x. Bool) [ true ↦ may_cut s c cause | false ↦ false ]) decide ∙ may)
    (ap (λ (t : State). close_client c true (in_phase Deciding t)) (decides_here s decide))

-- a row leaves memory for the decision that is next
pub goes_forgotten_before : (s : State) (key : Bytes) (x : Instance) → s.has_made_room ≡ None → place_of Evicting < place_of s.phase → decides s ≡ true → makes_room s key ≡ Some x
    → Goes s (Noted (Forgotten key)) (record (forget x.id s) { has_made_room = decides_for (first_due s) })
unfolding leave_memory
goes_forgotten_before s key x none past decide room =
    let how = goes_forgotten s key (BeforeDecision x) none
    (ap₂ (λ (a b : Bool). leaving_with a b (row s key) (before_decision s key)) (may_in-past Evicting (λ t. is_first key t.forgotten) s past) (may_in-past Evicting (λ t. is_empty t.forgotten) s past)
    ∙ ap (λ (o : Option Instance). option_map BeforeDecision o)
    (ap (λ (t : State). elim (decides t) as (λ c. Option Instance) [ true ↦ makes_room t key | false ↦ None ]) (decides_here s decide) ∙ ap (λ (b : Bool). elim b as (λ c. Option Instance) [ true ↦ makes_room s key | false ↦ None ]) decide ∙ room)) in
    record { may = how.may; leads = how.leads ∙ ap (λ (t : State). record (forget x.id t) { has_made_room = decides_for (first_due t) }) (decides_here s decide) }

-- ---- closings and places

pub goes_shut : (s : State) (c : ℕ) → s.has_made_room ≡ None → s.phase ≡ Connecting → list_any (may_shut s c) s.clients ≡ true → Goes s (Shut c) (shut c s)
unfolding permits changed
goes_shut s c none at may =
    let is = ap (is_same_phase Connecting) at in goes_by none (may_here Connecting (λ t. list_any (may_shut t c) t.clients) s is may) (ap (shut c) (here Connecting s is))

pub goes_dialled : (s : State) (n : ℕ) (host : Bytes) (port : ℕ) → s.has_made_room ≡ None → s.phase ≡ Connecting → is_new_number s n ≡ true → may_dial s host port ≡ true → Goes s (Dialled n host port) (dialled n host port (placing s))
unfolding permits changed
goes_dialled s n host port none at above may =
    let is = ap (is_same_phase Connecting) at in
    goes_by none (both_hold (is_new_number s n) _ above (may_here Connecting (λ t. may_dial t host port) s is may)) (ap (λ (t : State). dialled n host port (placing t)) (here Connecting s is))

pub goes_undialled : (s : State) (host : Bytes) (port : ℕ) → s.has_made_room ≡ None → s.phase ≡ Connecting → may_dial s host port ≡ true → Goes s (Undialled host port) (undialled (placing s))
unfolding permits changed
goes_undialled s host port none at may =
    let is = ap (is_same_phase Connecting) at in record {
      may = λ fail. permitted s (Undialled host port) none (both_hold (may_fail s false) _ (fail refl) (may_here Connecting (λ t. may_dial t host port) s is may));
      leads = ap (λ (t : State). undialled (placing t)) (here Connecting s is);
    }

pub goes_dropped : (s : State) (k : ℕ) → s.has_made_room ≡ None → s.phase ≡ Connecting → may_drop s k ≡ true → Goes s (Dropped k) (dropped k s)
unfolding permits changed
goes_dropped s k none at may = let is = ap (is_same_phase Connecting) at in goes_by none (may_here Connecting (λ t. may_drop t k) s is may) (ap (dropped k) (here Connecting s is))

-- ---- the end of a turn

pub goes_waits : (s : State) (w : Wants) → s.has_made_room ≡ None → s.phase ≡ DecidingAgain → s.is_stopped ≡ false → first_due s ≡ None → is_served (begin_replies s) w ≡ true → Goes s (Waits w) (rest_with w (begin_replies s))
unfolding permits changed ending
goes_waits s w none at runs nothing served =
    goes_by none
    (ap₂ (λ (b : Bool) (t : State). elim b as (λ c. Bool) [ true ↦ is_served (begin_replies t) w | false ↦ false ]) (or_second (is_at IsListening s) _ (both_hold (not s.is_stopped) (may_end s) (ap (λ (b : Bool). not b) runs) ends)) (here DecidingAgain s is) ∙ served)
    (ap (λ (t : State). rest_with w (begin_replies t)) (here DecidingAgain s is))
  where
    is : is_at DecidingAgain s ≡ true
    is = ap (is_same_phase DecidingAgain) at

    ends : may_end s ≡ true
    ends = may_here DecidingAgain is_done s (ap (is_same_phase DecidingAgain) at) (ap (λ (p : Phase). is_done_with p s) at ∙ ap (λ (o : Option Due). not (is_some o)) nothing)
