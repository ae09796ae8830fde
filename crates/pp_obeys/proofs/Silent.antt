-- What may come behind a phase that is done may come before it is left, and leads to the same.
use Rattle.std.proofs.Common.{◌≡◌, refl, ℕ, Bool, true, false, not, ◌&&◌, ◌||◌, List, [], ◌∷◌, Option, Some, None, is_some, sym, ap, ap₂, ◌∙◌}
use Rattle.std.specs.List.{list_any}
use Rattle.std.specs.Prelude.{nat_lt, map, bytes_eq, ◌==◌}
use Rattle.pp_world.specs.Files.{Files}
use Rattle.pp_world.specs.Log.{Log}
use Rattle.pp_world.specs.Disk.{is_rising}
use Rattle.pp_world.specs.declared.event.Wants.{Wants}
use Rattle.pp_world.specs.declared.happening.Happening.{Happening}
use Rattle.pp_world.specs.declared.happening.Happening.TheVariants.{Woke, Waits, Clock, Opened, CanRead, CanWrite, Heard, HungUp, Said, Shut, Dialled, Undialled, Reached, Ended, Broke, Asked, Got, Dropped, NoneYet, Began, Did, Unread, Noted, Rooted, Listed, Listens, Configured, Printed, Stopped}
use Rattle.pp_world.specs.declared.note.Remark.TheVariants.{Taken, Cut, Kept, Gone, Forgotten, Evicted, Loaded}
use Rattle.pp_world.specs.declared.op.DiskOp.{DiskOp}
use Rattle.pp_world.specs.declared.note.Decision.{Decision}
use Rattle.pp_world.specs.declared.note.Cause.{Cause}
use Rattle.pp_law.specs.Entries.{entries_in}
use Rattle.pp_law.specs.Offers.{offer, is_at_body}
use Rattle.pp_law.specs.Table.{next_of}
use Rattle.pp_conf.specs.Words.{file_of}
use Rattle.pp_law.specs.After.{after, begun_op, changed, dialled, dropped, evicted, noted, shut, take_decision, undialled}
use Rattle.pp_law.specs.Asking.{is_reading, is_writing, is_read, read_limit, fits_heard, is_front, left_to_ask, asking, read_room}
use Rattle.pp_law.specs.Closing.{close_client}
use Rattle.pp_law.specs.Connections.{client, placing}
use Rattle.pp_law.specs.Lists.{Bytes, is_some_with}
use Rattle.pp_law.specs.Opening.{begun, is_at, is_opening, is_same_phase, is_left_behind, may_fail, permits_image, term_in, terms_behind, woken, is_recovered}
use Rattle.pp_law.specs.Permits.{IsPermitted, has_conn, is_new_number, is_permitted, may_cut, may_dial, may_drop, may_evict, may_fail_to_load, may_fail_to_recover, may_load, may_shut, may_take, permits, permits_behind_forgotten, loads_from, is_said_of, may_load_at, permits_taken}
use Rattle.pp_law.specs.Phases.{phases, come_to, decides, deciding, ending, in_phase, is_done, is_under_way, may_end, next}
use Rattle.pp_law.specs.Replies.{begin_replies}
use Rattle.pp_law.specs.Repairs.{begin_in_opening, may_begin_in_opening}
use Rattle.pp_law.specs.Served.{is_served}
use Rattle.pp_law.specs.State.{State, Phase, Before, IsWoken, IsConfigured, IsRooted, IsListed, IsListening, IsStuck, Awaiting, Handling, Evicting, Keeping, Deciding, Following, Connecting, DecidingAgain, Owed, Free, Todo, start}
use Rattle.pp_law.specs.Store.{begin_in_turn, is_acknowledged_as, is_at_rest, is_idle_disk, is_same_op, may_begin_in_turn, may_note_gone, note_gone, is_closed}
use Rattle.pp_law.specs.Turn.{rest_with}
use Rattle.pp_laws.proofs.Tests.{first_holds, second_holds}
use Rattle.pp_obeys.specs.Obeys.{GoesAs}
use Rattle.pp_obeys.proofs.Come.{IsDone, come_to_decide-next, enters}
use Rattle.pp_obeys.proofs.Frames.{Frame, frame}
use Rattle.pp_obeys.proofs.GoesOn.{goes_equal}
use Rattle.pp_obeys.proofs.StaysTurns.{next-frame, unphased}

-- ---- tests

and_false : (a : Bool) → (a && false) ≡ false
and_false true = refl
and_false false = refl

pub both_hold : (a b : Bool) → a ≡ true → b ≡ true → (a && b) ≡ true
both_hold a b one two = ap₂ (λ (x y : Bool). x && y) one two

pub or_second : (a b : Bool) → b ≡ true → (a || b) ≡ true
or_second true b is = refl
or_second false b is = is

pub none_of : {A : Type 0} (p : A → Bool) → ((x : A) → p x ≡ false) → (xs : List A) → list_any p xs ≡ false
none_of p isnt [] = refl
none_of p isnt (x ∷ xs) = ap₂ (λ (a b : Bool). a || b) (isnt x) (none_of p isnt xs)

-- ---- what no phase of a turn is

pub record InTurn (q : Phase) : Type 0 where
  pub awaiting : is_same_phase Awaiting q ≡ false
  pub woken : is_same_phase IsWoken q ≡ false
  pub configured : is_same_phase IsConfigured q ≡ false
  pub rooted : is_same_phase IsRooted q ≡ false
  pub listed : is_same_phase IsListed q ≡ false
  pub listening : is_same_phase IsListening q ≡ false
  pub opening : list_any (λ p. is_same_phase p q) (IsWoken ∷ IsConfigured ∷ IsRooted ∷ IsListed ∷ IsListening ∷ IsStuck ∷ []) ≡ false
  pub image : (log : Log) (image : Files) → permits_image q log image ≡ is_left_behind log image

turning : (q : Phase) → list_any (λ p. is_same_phase p q) phases ≡ true → InTurn q
turning Before is = absurd (cc is)
turning IsWoken is = absurd (cc is)
turning IsConfigured is = absurd (cc is)
turning IsRooted is = absurd (cc is)
turning IsListed is = absurd (cc is)
turning IsListening is = absurd (cc is)
turning IsStuck is = absurd (cc is)
turning Awaiting is = absurd (cc is)
turning Handling is = record { awaiting = refl; woken = refl; configured = refl; rooted = refl; listed = refl; listening = refl; opening = refl; image = λ log image. refl }
turning Evicting is = record { awaiting = refl; woken = refl; configured = refl; rooted = refl; listed = refl; listening = refl; opening = refl; image = λ log image. refl }
turning Keeping is = record { awaiting = refl; woken = refl; configured = refl; rooted = refl; listed = refl; listening = refl; opening = refl; image = λ log image. refl }
turning Deciding is = record { awaiting = refl; woken = refl; configured = refl; rooted = refl; listed = refl; listening = refl; opening = refl; image = λ log image. refl }
turning Following is = record { awaiting = refl; woken = refl; configured = refl; rooted = refl; listed = refl; listening = refl; opening = refl; image = λ log image. refl }
turning Connecting is = record { awaiting = refl; woken = refl; configured = refl; rooted = refl; listed = refl; listening = refl; opening = refl; image = λ log image. refl }
turning DecidingAgain is = record { awaiting = refl; woken = refl; configured = refl; rooted = refl; listed = refl; listening = refl; opening = refl; image = λ log image. refl }

pub turns_at : (s : State) → is_under_way s ≡ true → InTurn s.phase
turns_at s is = turning s.phase is

-- ---- happening by happening

-- nothing is owed to the event, and the disk is at rest
pub record IsQuiet (s : State) : Type 0 where
  pub free : s.owed ≡ Free
  pub idle : s.under_way ≡ None
  pub nothing : s.agenda.todo ≡ []

-- what may come in the one may come in the other, and both lead to states that go on as the same
pub record Follows (s t : State) (h : Happening) : Type 0 where
  pub may : permits s h ≡ true
  pub leads : GoesAs (after s h) (after t h)

pub follows : {s t : State} {h : Happening} → permits s h ≡ true → after s h ≡ after t h → Follows s t h
follows may same = record { may = may; leads = goes_equal same }

never : {s t : State} {h : Happening} → permits t h ≡ false → permits t h ≡ true → Follows s t h
never isnt may = let both : true ≡ false = sym may ∙ isnt in absurd (cc both)

-- what the lemmas below speak of: a state that is done, with nothing owed, and the next
pub record IsLeft (s : State) : Type 0 where
  pub done : IsDone s
  pub quiet : IsQuiet s
  pub at : InTurn s.phase
  pub then : InTurn (next s).phase

same_of : {A : Type 0} (part : Frame → A) (s : State) → part (unphased (frame true (next s))) ≡ part (unphased (frame true s))
same_of part s = ap part (next-frame true s)

pub free_next : (s : State) → IsQuiet s → (next s).owed ≡ Free
free_next s q = same_of (λ o. o.owed) s ∙ q.free

pub idle_next : (s : State) → IsQuiet s → (next s).under_way ≡ None
idle_next s q = same_of (λ o. o.under_way) s ∙ q.idle

pub nothing_next : (s : State) → IsQuiet s → (next s).agenda.todo ≡ []
nothing_next s q = same_of (λ o. o.agenda.todo) s ∙ q.nothing

may_fail_same : (s : State) (ok : Bool) → may_fail (next s) ok ≡ may_fail s ok
may_fail_same s ok = same_of (λ o. ok || nat_lt o.failures o.term.faults) s

new_number_same : (s : State) (n : ℕ) → is_new_number (next s) n ≡ is_new_number s n
new_number_same s n = same_of (λ o. nat_lt o.top n) s

-- ---- waking, waits and events

abbrev woken_of : Files → Frame → State
woken_of image o = begun (record (start (terms_behind o.terms)) { sent = o.sent; acknowledged = o.acknowledged; top = o.top; term = term_in o.terms; disk = Woke image ∷ []; entries = entries_in image })

woke_follows : (s : State) (image : Files) → IsLeft s → permits (next s) (Woke image) ≡ true → Follows s (next s) (Woke image)
unfolding permits changed woken
woke_follows s image l may =
    follows
    (ap (λ (b : Bool). is_rising (map (λ file. file.0) image) && b) (l.at.image s.disk image ∙ sym (ap (λ (log : Log). is_left_behind log image) (same_of (λ o. o.disk) s)) ∙ sym (l.then.image (next s).disk image)) ∙ may)
    (ap (woken_of image) (sym (next-frame true s)))

may_end_so : (listening stopped ends : Bool) → listening ≡ false → (listening || (not stopped && ends)) ≡ true → (not stopped ≡ true) × (ends ≡ true)
may_end_so false stopped ends isnt may = (first_holds (not stopped) ends may, second_holds (not stopped) ends may)
may_end_so true stopped ends isnt may = absurd (cc isnt)

waits_both : (may : Bool) (served : Bool) → (elim may as (λ c. Bool) [ true ↦ served | false ↦ false ]) ≡ true → (may ≡ true) × (served ≡ true)
waits_both true served is = (refl, is)
waits_both false served is = absurd (cc is)

waits_follows : (s : State) (w : Wants) → IsLeft s → permits (next s) (Waits w) ≡ true → Follows s (next s) (Waits w)
unfolding permits changed ending
waits_follows s w l may =
    let parts = waits_both (is_at IsListening (next s) || (not (next s).is_stopped && may_end (next s))) (is_served (ending (next s)) w) may in
    let over = may_end_so (is_at IsListening (next s)) (next s).is_stopped (may_end (next s)) l.then.listening parts.0 in
    let e = enters DecidingAgain is_done s l.done over.1 in
    let runs : not s.is_stopped ≡ true = sym (same_of (λ o. not o.is_stopped) s) ∙ over.0 in
    let ends : ending s ≡ ending (next s) = ap begin_replies e.same in
    follows
    (ap₂ (λ (b : Bool) (t : State). elim b as (λ c. Bool) [ true ↦ is_served t w | false ↦ false ]) (or_second (is_at IsListening s) _ (both_hold (not s.is_stopped) (may_end s) runs e.may)) ends ∙ parts.1)
    (ap (rest_with w) ends)

-- no event comes in a turn
event_never : (s : State) (b : Bool) → IsLeft s → (is_at Awaiting (next s) && b) ≡ false
event_never s b l = ap (λ (c : Bool). c && b) l.then.awaiting

-- ---- closings and places

shut_follows : (s : State) (n : ℕ) → IsLeft s → permits (next s) (Shut n) ≡ true → Follows s (next s) (Shut n)
unfolding permits changed
shut_follows s n l may = let e = enters Connecting (λ t. list_any (may_shut t n) t.clients) s l.done may in follows e.may (ap (shut n) e.same)

dialled_follows : (s : State) (n : ℕ) (host : Bytes) (port : ℕ) → IsLeft s → permits (next s) (Dialled n host port) ≡ true → Follows s (next s) (Dialled n host port)
unfolding permits changed
dialled_follows s n host port l may =
    let e = enters Connecting (λ t. may_dial t host port) s l.done (second_holds (is_new_number (next s) n) _ may) in
    follows
    (both_hold (is_new_number s n) _ (sym (new_number_same s n) ∙ first_holds (is_new_number (next s) n) _ may) e.may)
    (ap (λ (t : State). dialled n host port (placing t)) e.same)

undialled_follows : (s : State) (host : Bytes) (port : ℕ) → IsLeft s → permits (next s) (Undialled host port) ≡ true → Follows s (next s) (Undialled host port)
unfolding permits changed
undialled_follows s host port l may =
    let e = enters Connecting (λ t. may_dial t host port) s l.done (second_holds (may_fail (next s) false) _ may) in
    follows
    (both_hold (may_fail s false) _ (sym (may_fail_same s false) ∙ first_holds (may_fail (next s) false) _ may) e.may)
    (ap (λ (t : State). undialled (placing t)) e.same)

dropped_follows : (s : State) (n : ℕ) → IsLeft s → permits (next s) (Dropped n) ≡ true → Follows s (next s) (Dropped n)
unfolding permits changed
dropped_follows s n l may = let e = enters Connecting (λ t. may_drop t n) s l.done may in follows e.may (ap (dropped n) e.same)

-- ---- the disk

began_by : (op : DiskOp) (s : State) → is_opening s ≡ false → begun_op op s ≡ begin_in_turn op (come_to Keeping s)
unfolding begun_op
began_by op s isnt = ap (λ (b : Bool). elim b as (λ c. State) [ true ↦ begin_in_opening op s | false ↦ begin_in_turn op (come_to Keeping s) ]) isnt

or_so : (a b : Bool) → a ≡ false → (a || b) ≡ true → b ≡ true
or_so false b isnt is = is
or_so true b isnt is = absurd (cc isnt)

began_follows : (s : State) (op : DiskOp) → IsLeft s → permits (next s) (Began op) ≡ true → Follows s (next s) (Began op)
unfolding permits changed
began_follows s op l may =
    let listed : (is_at IsListed (next s) && may_begin_in_opening op (next s)) ≡ false = ap (λ (b : Bool). b && may_begin_in_opening op (next s)) l.then.listed in
    let e = enters Keeping (may_begin_in_turn op) s l.done (or_so (is_at IsListed (next s) && may_begin_in_opening op (next s)) _ listed may) in
    follows
    (or_second (is_at IsListed s && may_begin_in_opening op s) _ e.may)
    (began_by op s l.at.opening ∙ ap (begin_in_turn op) e.same ∙ sym (began_by op (next s) l.then.opening))

unread_never : (s : State) (name : Bytes) → IsLeft s → (may_fail_to_recover (next s) name || list_any (may_fail_to_load (next s) name) (next s).clients) ≡ false
unread_never s name l =
    ap₂ (λ (a b : Bool). a && not (is_closed (next s) name) || b) l.then.listed
    (none_of (may_fail_to_load (next s) name) (λ c. ap (λ (o : Owed). is_writing o c.number && is_at_body c && is_some_with (loads_from (next s) name) (next_of (next s) c)) (free_next s l.quiet)) (next s).clients)

-- ---- notes

taken_follows : (s : State) (c i : ℕ) (d : Decision) → IsLeft s → permits (next s) (Noted (Taken c i d)) ≡ true → Follows s (next s) (Noted (Taken c i d))
unfolding permits changed noted deciding
taken_follows s c i d l may =
    let same = come_to_decide-next s l.done in
    follows (ap (λ (t : State). elim (decides t) as (λ x. Bool) [ true ↦ may_take t c i d | false ↦ false ]) same ∙ may) (ap (λ (t : State). take_decision c d (in_phase Deciding t)) same)

cut_follows : (s : State) (c : ℕ) (cause : Cause) → IsLeft s → permits (next s) (Noted (Cut c cause)) ≡ true → Follows s (next s) (Noted (Cut c cause))
unfolding permits changed noted deciding
cut_follows s c cause l may =
    let same = come_to_decide-next s l.done in
    follows (ap (λ (t : State). elim (decides t) as (λ x. Bool) [ true ↦ may_cut t c cause | false ↦ false ]) same ∙ may) (ap (λ (t : State). close_client c true (in_phase Deciding t)) same)

gone_follows : (s : State) (key : Bytes) → IsLeft s → permits (next s) (Noted (Gone key)) ≡ true → Follows s (next s) (Noted (Gone key))
unfolding permits changed noted
gone_follows s key l may = let e = enters Keeping (λ t. may_note_gone t key) s l.done may in follows e.may (ap (note_gone key) e.same)

evicted_follows : (s : State) (key tag : Bytes) (n i : ℕ) → IsLeft s → permits (next s) (Noted (Evicted key tag n i)) ≡ true → Follows s (next s) (Noted (Evicted key tag n i))
unfolding permits changed noted
evicted_follows s key tag n i l may = let e = enters Evicting (λ t. may_evict t key tag n i) s l.done may in follows e.may (ap evicted e.same)

-- ---- all but a row that leaves memory

abbrev pub RowsFollow : State → Type 0
RowsFollow s = (key : Bytes) → permits (next s) (Noted (Forgotten key)) ≡ true → Follows s (next s) (Noted (Forgotten key))

pub permits_follows : (s : State) (h : Happening) → IsLeft s → RowsFollow s → permits (next s) h ≡ true → Follows s (next s) h
unfolding permits
permits_follows s (Woke image) l rows may = woke_follows s image l may
permits_follows s (Waits w) l rows may = waits_follows s w l may
permits_follows s (Clock seconds) l rows may = never l.then.awaiting may
permits_follows s (Opened n) l rows may = never (event_never s _ l) may
permits_follows s (CanRead n) l rows may = never l.then.awaiting may
permits_follows s (CanWrite n) l rows may = never l.then.awaiting may
permits_follows s (Heard c bytes) l rows may = never (ap (λ (o : Owed). is_reading o c && is_read read_limit bytes && is_some_with (fits_heard bytes) (client (next s) c)) (free_next s l.quiet)) may
permits_follows s (HungUp c) l rows may = never (ap (λ (o : Owed). (is_reading o c || is_writing o c) && is_some (client (next s) c)) (free_next s l.quiet)) may
permits_follows s (Said c offered bytes) l rows may = never (ap (λ (o : Owed). is_writing o c && is_some_with (λ x. is_said_of offered bytes (offer (next s) x)) (client (next s) c)) (free_next s l.quiet)) may
permits_follows s (Shut c) l rows may = shut_follows s c l may
permits_follows s (Dialled n host port) l rows may = dialled_follows s n host port l may
permits_follows s (Undialled host port) l rows may = undialled_follows s host port l may
permits_follows s (Reached k) l rows may = never (event_never s _ l) may
permits_follows s (Ended k) l rows may = never (ap (λ (o : Owed). is_reading o k && has_conn (next s) k) (free_next s l.quiet)) may
permits_follows s (Broke k) l rows may =
    never
    (ap₂ (λ (b : Bool) (o : Owed). has_conn (next s) k && (b || (is_reading o k || is_writing o k))) l.then.awaiting (free_next s l.quiet) ∙ and_false (has_conn (next s) k)) may
permits_follows s (Asked k bytes) l rows may = never (ap (λ (o : Owed). is_writing o k && is_some_with (λ e. is_front bytes (left_to_ask (next s) e)) (asking (next s) k)) (free_next s l.quiet)) may
permits_follows s (Got k bytes) l rows may = never (ap (λ (o : Owed). is_reading o k && is_read (read_room (next s) k) bytes) (free_next s l.quiet)) may
permits_follows s (Dropped k) l rows may = dropped_follows s k l may
permits_follows s (NoneYet n) l rows may = never (ap (λ (o : Owed). is_reading o n) (free_next s l.quiet)) may
permits_follows s (Began op) l rows may = began_follows s op l may
permits_follows s (Did op ok) l rows may = never (ap (λ (u : Option DiskOp). is_some_with (λ begun. is_same_op begun op) u && may_fail (next s) ok) (idle_next s l.quiet)) may
permits_follows s (Unread name) l rows may =
    never
    (ap (λ (b : Bool). may_fail (next s) false && (is_at_rest (next s) && b)) (unread_never s name l) ∙ ap (λ (b : Bool). may_fail (next s) false && b) (and_false (is_at_rest (next s))) ∙ and_false (may_fail (next s) false)) may
permits_follows s (Noted (Taken c i d)) l rows may = taken_follows s c i d l may
permits_follows s (Noted (Cut c cause)) l rows may = cut_follows s c cause l may
permits_follows s (Noted (Kept key tag n extent)) l rows may = never (ap (λ (todo : List Todo). is_idle_disk (next s) && is_acknowledged_as key tag n extent todo) (nothing_next s l.quiet) ∙ and_false (is_idle_disk (next s))) may
permits_follows s (Noted (Gone key)) l rows may = gone_follows s key l may
permits_follows s (Noted (Forgotten key)) l rows may = rows key may
permits_follows s (Noted (Evicted key tag n i)) l rows may = evicted_follows s key tag n i l may
permits_follows s (Noted (Loaded key tag n i)) l rows may =
    never
    (ap (λ (b : Bool). is_at_rest (next s) && b)
    (none_of (may_load (next s) key tag n i) (λ c. ap (λ (o : Owed). is_writing o c.number && is_at_body c && is_some_with (λ x. may_load_at (next s) x key tag n i) (next_of (next s) c)) (free_next s l.quiet)) (next s).clients)
    ∙ and_false (is_at_rest (next s))) may
permits_follows s (Rooted folder) l rows may = never (ap (λ (b : Bool). b && bytes_eq folder (next s).settings.root) l.then.configured) may
permits_follows s (Listed ok) l rows may = never (ap (λ (b : Bool). b && may_fail (next s) ok) l.then.rooted) may
permits_follows s (Listens port ok) l rows may = never (ap (λ (b : Bool). b && (port == (next s).settings.port) && is_recovered (next s) && may_fail (next s) ok) l.then.listed) may
permits_follows s (Configured file text) l rows may = never (ap (λ (b : Bool). b && is_some_with (λ named. bytes_eq named file) (file_of (next s).term.words) && may_fail (next s) (is_some text)) l.then.woken) may
permits_follows s (Printed text) l rows may = never l.then.opening may
permits_follows s Stopped l rows may = never l.then.awaiting may

-- ---- behind a row that left memory for a decision

-- what may come there is a crash, or that decision: it may come there in the one where it may in the other
record Narrows (t s : State) (h : Happening) : Type 0 where
  wide : permits t h ≡ true
  narrow : permits s h ≡ true → permits_behind_forgotten s h ≡ true

narrows : (t s : State) (h : Happening) → permits_behind_forgotten t h ≡ true → Narrows t s h
unfolding permits
narrows t s (Woke image) may = record { wide = may; narrow = λ is. is }
narrows t s (Noted (Taken c i d)) may = record { wide = first_holds (permits_taken t c i d) _ may; narrow = λ is. both_hold (permits_taken s c i d) _ is (second_holds (permits_taken t c i d) _ may) }
narrows t s (Noted (Cut c cause)) may = absurd (cc may)
narrows t s (Noted (Kept key tag n extent)) may = absurd (cc may)
narrows t s (Noted (Gone key)) may = absurd (cc may)
narrows t s (Noted (Forgotten key)) may = absurd (cc may)
narrows t s (Noted (Evicted key tag n i)) may = absurd (cc may)
narrows t s (Noted (Loaded key tag n i)) may = absurd (cc may)
narrows t s (Waits w) may = absurd (cc may)
narrows t s (Clock seconds) may = absurd (cc may)
narrows t s (Opened n) may = absurd (cc may)
narrows t s (CanRead n) may = absurd (cc may)
narrows t s (CanWrite n) may = absurd (cc may)
narrows t s (Heard c bytes) may = absurd (cc may)
narrows t s (HungUp c) may = absurd (cc may)
narrows t s (Said c offered bytes) may = absurd (cc may)
narrows t s (Shut c) may = absurd (cc may)
narrows t s (Dialled n host port) may = absurd (cc may)
narrows t s (Undialled host port) may = absurd (cc may)
narrows t s (Reached k) may = absurd (cc may)
narrows t s (Ended k) may = absurd (cc may)
narrows t s (Broke k) may = absurd (cc may)
narrows t s (Asked k bytes) may = absurd (cc may)
narrows t s (Got k bytes) may = absurd (cc may)
narrows t s (Dropped k) may = absurd (cc may)
narrows t s (NoneYet n) may = absurd (cc may)
narrows t s (Began op) may = absurd (cc may)
narrows t s (Did op ok) may = absurd (cc may)
narrows t s (Unread name) may = absurd (cc may)
narrows t s (Rooted folder) may = absurd (cc may)
narrows t s (Listed ok) may = absurd (cc may)
narrows t s (Listens port ok) may = absurd (cc may)
narrows t s (Configured file text) may = absurd (cc may)
narrows t s (Printed text) may = absurd (cc may)
narrows t s Stopped may = absurd (cc may)

-- ---- all

-- it may come before the phase is left, and leads to a state that goes on as the same
pub record Comes (s t : State) (h : Happening) : Type 0 where
  pub may : IsPermitted s h
  pub leads : GoesAs (after s h) (after t h)

comes_by : (s t : State) (h : Happening) (room : Option ℕ) → t.has_made_room ≡ room → s.has_made_room ≡ room → (permits t h ≡ true → Follows s t h) → IsPermitted t h → Comes s t h
unfolding is_permitted
comes_by s t h (Some who) in_t in_s step may =
    let narrow : permits_behind_forgotten t h ≡ true = sym (ap (λ (o : Option ℕ). elim o as (λ c. Bool) [ Some who ↦ permits_behind_forgotten t h | None ↦ permits t h ]) in_t) ∙ may in
    let n = narrows t s h narrow in
    let f = step n.wide in
    record { may = ap (λ (o : Option ℕ). elim o as (λ c. Bool) [ Some who ↦ permits_behind_forgotten s h | None ↦ permits s h ]) in_s ∙ n.narrow f.may; leads = f.leads }
comes_by s t h None in_t in_s step may =
    let wide : permits t h ≡ true = sym (ap (λ (o : Option ℕ). elim o as (λ c. Bool) [ Some who ↦ permits_behind_forgotten t h | None ↦ permits t h ]) in_t) ∙ may in
    let f = step wide in
    record { may = ap (λ (o : Option ℕ). elim o as (λ c. Bool) [ Some who ↦ permits_behind_forgotten s h | None ↦ permits s h ]) in_s ∙ f.may; leads = f.leads }

pub comes : (s : State) (h : Happening) → IsLeft s → RowsFollow s → IsPermitted (next s) h → Comes s (next s) h
comes s h l rows may = comes_by s (next s) h s.has_made_room (same_of (λ o. o.has_made_room) s) refl (λ is. permits_follows s h l rows is) may

pub permitted_wide : (s : State) (h : Happening) → IsPermitted s h → permits s h ≡ true
unfolding is_permitted
permitted_wide s h may = by s.has_made_room may
  where
    by : (room : Option ℕ) → (elim room as (λ c. Bool) [ Some who ↦ permits_behind_forgotten s h | None ↦ permits s h ]) ≡ true → permits s h ≡ true
    by (Some who) is = (narrows s s h is).wide
    by None is = is
