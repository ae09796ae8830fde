-- Happening by happening: what permits it, and where it leads. Here events, reads and writes, and the opening.
use Rattle.std.proofs.Common.{◌≡◌, refl, ℕ, Bool, true, false, not, ◌&&◌, ◌||◌, ◌==◌, List, [], ◌∷◌, ◌++◌, length, Option, Some, None, is_some, subst, ap, ap₂, ◌∙◌}
use Rattle.std.specs.List.{list_any}
use Rattle.std.specs.Prelude.{bytes_eq}
use Rattle.pp_conf.specs.Words.{file_of}
use Rattle.pp_world.specs.Files.{Files}
use Rattle.pp_world.specs.Log.{Log}
use Rattle.pp_world.specs.declared.event.Wants.{Wants}
use Rattle.pp_world.specs.declared.happening.Happening.{Happening}
use Rattle.pp_world.specs.declared.happening.Happening.TheVariants.{Woke, Waits, Clock, Opened, CanRead, CanWrite, Heard, HungUp, Said, Reached, Ended, Broke, Asked, Got, NoneYet, Began, Did, Unread, Rooted, Listed, Listens, Configured, Printed, Stopped}
use Rattle.pp_world.specs.declared.op.DiskOp.{DiskOp}
use Rattle.pp_law.specs.After.{after, begun_op, changed, ended_op, event, gone, opened, owing, paid, reached, said, unread}
use Rattle.pp_law.specs.Asking.{ask, asking, fits_heard, hang_up, hear, is_front, is_read, is_reading, is_writing, left_to_ask, read_limit, read_room}
use Rattle.pp_law.specs.Connections.{client}
use Rattle.pp_law.specs.Lists.{Bytes, is_some_with}
use Rattle.pp_law.specs.Offers.{offer}
use Rattle.pp_law.specs.Opening.{configured, is_at, is_opening, is_recovered, is_same_phase, may_fail, opened_to, permits_woke, woken}
use Rattle.pp_law.specs.Permits.{IsPermitted, has_conn, is_new_number, is_owed, is_permitted, is_said_of, permits, permits_behind_forgotten, permits_unread}
use Rattle.pp_law.specs.Phases.{come_to, ending, is_awaiting, may_end, may_in, phases}
use Rattle.pp_law.specs.Replies.{begin_replies, end_replies}
use Rattle.pp_law.specs.Repairs.{begin_in_opening, may_begin_in_opening}
use Rattle.pp_law.specs.Responses.{got}
use Rattle.pp_law.specs.Served.{accepts, is_served}
use Rattle.pp_law.specs.State.{State, Client, Exchange, Phase, IsWoken, IsConfigured, IsRooted, IsListed, IsListening, IsStuck, Awaiting, Keeping, DecidingAgain, Owed, ReadOf, WriteTo, Term}
use Rattle.pp_law.specs.Store.{begin_in_turn, may_begin_in_turn, may_end_op}
use Rattle.pp_law.specs.Turn.{rest_with, tick}
use Rattle.pp_laws.proofs.Tests.{number_same}
use Rattle.pp_obeys.specs.Failures.{fails}
use Rattle.pp_obeys.specs.Moves.{Goes}
use Rattle.pp_obeys.specs.Obeys.{Obeys}
use Rattle.pp_obeys.proofs.Obeying.{obeys_more}
use Rattle.pp_obeys.proofs.Silent.{both_hold}
use Rattle.pp_obeys.proofs.Steps.{come_off}

-- the log goes on there
pub obeys_by : {terms : List Term} {s t : State} {log : Log} (h : Happening) → Obeys terms s log → Goes s h t → (fails h ≡ true → may_fail s false ≡ true) → Obeys terms t (log ++ h ∷ [])
obeys_by {terms} {s} {t} {log} h obeys goes may = subst (λ (u : State). Obeys terms u (log ++ h ∷ [])) goes.leads (obeys_more h obeys (goes.may may))

-- where no row has left memory for a decision
pub permitted : (s : State) (h : Happening) → s.has_made_room ≡ None → permits s h ≡ true → IsPermitted s h
unfolding is_permitted
permitted s h none may = ap (λ (o : Option ℕ). elim o as (λ c. Bool) [ Some who ↦ permits_behind_forgotten s h | None ↦ permits s h ]) none ∙ may

pub goes_by : {s t : State} {h : Happening} → s.has_made_room ≡ None → permits s h ≡ true → after s h ≡ t → Goes s h t
goes_by {s} {t} {h} none may leads = record { may = λ fail. permitted s h none may; leads = leads }

pub may_fail_so : (s : State) (ok : Bool) → (not ok ≡ true → may_fail s false ≡ true) → may_fail s ok ≡ true
may_fail_so s true fail = refl
may_fail_so s false fail = fail refl

-- ---- events

awaits : (s : State) → s.phase ≡ Awaiting → is_awaiting s ≡ true
awaits s at = ap (is_same_phase Awaiting) at

pub goes_clock : (s : State) (seconds : ℕ) → s.has_made_room ≡ None → s.phase ≡ Awaiting → Goes s (Clock seconds) (event (tick seconds s))
unfolding permits changed
goes_clock s seconds none at = goes_by none (awaits s at) refl

pub goes_opened : (s : State) (n : ℕ) → s.has_made_room ≡ None → s.phase ≡ Awaiting → is_new_number s n ≡ true → accepts s ≡ true → Goes s (Opened n) (event (opened n s))
unfolding permits changed
goes_opened s n none at above room = goes_by none (both_hold (is_awaiting s) _ (awaits s at) (both_hold (is_new_number s n) (accepts s) above room)) refl

pub goes_can_read : (s : State) (n : ℕ) → s.has_made_room ≡ None → s.phase ≡ Awaiting → Goes s (CanRead n) (event (owing (ReadOf n) n s))
unfolding permits changed
goes_can_read s n none at = goes_by none (awaits s at) refl

pub goes_can_write : (s : State) (n : ℕ) → s.has_made_room ≡ None → s.phase ≡ Awaiting → Goes s (CanWrite n) (event (owing (WriteTo n) n s))
unfolding permits changed
goes_can_write s n none at = goes_by none (awaits s at) refl

pub goes_reached : (s : State) (k : ℕ) → s.has_made_room ≡ None → s.phase ≡ Awaiting → has_conn s k ≡ true → Goes s (Reached k) (event (reached k s))
unfolding permits changed
goes_reached s k none at there = goes_by none (both_hold (is_awaiting s) (has_conn s k) (awaits s at) there) refl

-- a dial that is refused later, or a connection that is lost where nothing is read or written
pub goes_broke_waiting : (s : State) (k : ℕ) → s.has_made_room ≡ None → s.phase ≡ Awaiting → has_conn s k ≡ true → Goes s (Broke k) (paid (gone false k (event s)))
unfolding permits changed
goes_broke_waiting s k none at there = goes_by none (both_hold (has_conn s k) _ there (ap (λ (b : Bool). b || is_owed s k) (awaits s at))) refl

pub goes_stopped : (s : State) → s.has_made_room ≡ None → s.phase ≡ Awaiting → Goes s Stopped (event (record s { is_stopped = true }))
unfolding permits changed
goes_stopped s none at = goes_by none (awaits s at) refl

-- ---- reads

reads : (s : State) (n : ℕ) → s.owed ≡ ReadOf n → is_reading s.owed n ≡ true
reads s n owed = ap (λ (o : Owed). is_reading o n) owed ∙ number_same n

pub goes_heard : (s : State) (c : ℕ) (bytes : Bytes) → s.has_made_room ≡ None → s.owed ≡ ReadOf c → is_read read_limit bytes ≡ true → is_some_with (fits_heard bytes) (client s c) ≡ true
    → Goes s (Heard c bytes) (paid (hear c bytes s))
unfolding permits changed
goes_heard s c bytes none owed long fits =
    goes_by none (both_hold (is_reading s.owed c && is_read read_limit bytes) _ (both_hold (is_reading s.owed c) (is_read read_limit bytes) (reads s c owed) long) fits) refl

pub goes_got : (s : State) (k : ℕ) (bytes : Bytes) → s.has_made_room ≡ None → s.owed ≡ ReadOf k → is_read (read_room s k) bytes ≡ true → Goes s (Got k bytes) (paid (end_replies (got (length bytes) k bytes s)))
unfolding permits changed
goes_got s k bytes none owed long = goes_by none (both_hold (is_reading s.owed k) (is_read (read_room s k) bytes) (reads s k owed) long) refl

pub goes_ended : (s : State) (k : ℕ) → s.has_made_room ≡ None → s.owed ≡ ReadOf k → has_conn s k ≡ true → Goes s (Ended k) (paid (gone true k s))
unfolding permits changed
goes_ended s k none owed there = goes_by none (both_hold (is_reading s.owed k) (has_conn s k) (reads s k owed) there) refl

pub goes_none_yet : (s : State) (n : ℕ) → s.has_made_room ≡ None → s.owed ≡ ReadOf n → Goes s (NoneYet n) (paid s)
unfolding permits changed
goes_none_yet s n none owed = goes_by none (reads s n owed) refl

-- ---- writes

writes : (s : State) (n : ℕ) → s.owed ≡ WriteTo n → is_writing s.owed n ≡ true
writes s n owed = ap (λ (o : Owed). is_writing o n) owed ∙ number_same n

pub goes_said : (s : State) (c offered : ℕ) (bytes : Bytes) (x : Client) → s.has_made_room ≡ None → s.owed ≡ WriteTo c → client s c ≡ Some x → is_said_of offered bytes (offer s x) ≡ true
    → Goes s (Said c offered bytes) (paid (said c (length bytes) s))
unfolding permits changed
goes_said s c offered bytes x none owed there front =
    goes_by none (both_hold (is_writing s.owed c) _ (writes s c owed) (ap (λ (o : Option Client). is_some_with (λ y. is_said_of offered bytes (offer s y)) o) there ∙ front)) refl

pub goes_asked : (s : State) (k : ℕ) (bytes : Bytes) (e : Exchange) → s.has_made_room ≡ None → s.owed ≡ WriteTo k → asking s k ≡ Some e → is_front bytes (left_to_ask s e) ≡ true
    → Goes s (Asked k bytes) (paid (ask k (length bytes) s))
unfolding permits changed
goes_asked s k bytes e none owed there front =
    goes_by none (both_hold (is_writing s.owed k) _ (writes s k owed) (ap (λ (o : Option Exchange). is_some_with (λ d. is_front bytes (left_to_ask s d)) o) there ∙ front)) refl

-- ---- while it is read or written

pub goes_hung_up : (s : State) (c : ℕ) → s.has_made_room ≡ None → is_owed s c ≡ true → is_some (client s c) ≡ true → Goes s (HungUp c) (paid (hang_up c s))
unfolding permits changed
goes_hung_up s c none owed there = goes_by none (both_hold (is_owed s c) (is_some (client s c)) owed there) refl

or_last : (a b : Bool) → b ≡ true → (a || b) ≡ true
or_last true b is = refl
or_last false b is = is

pub goes_broke : (s : State) (k : ℕ) → s.has_made_room ≡ None → is_owed s k ≡ true → has_conn s k ≡ true → Goes s (Broke k) (paid (gone false k (event s)))
unfolding permits changed
goes_broke s k none owed there = goes_by none (both_hold (has_conn s k) _ there (or_last (is_awaiting s) (is_owed s k) owed)) refl

pub goes_unread : (s : State) (name : Bytes) → s.has_made_room ≡ None → permits_unread s name ≡ true → Goes s (Unread name) (unread name s)
unfolding permits changed
goes_unread s name none may = record { may = λ fail. permitted s (Unread name) none (both_hold (may_fail s false) (permits_unread s name) (fail refl) may); leads = refl }

-- ---- the opening

pub goes_rooted : (s : State) (folder : Bytes) → s.has_made_room ≡ None → s.phase ≡ IsConfigured → bytes_eq folder s.settings.root ≡ true → Goes s (Rooted folder) (opened_to IsRooted true s)
unfolding permits changed
goes_rooted s folder none at is = goes_by none (both_hold (is_at IsConfigured s) _ (ap (is_same_phase IsConfigured) at) is) refl

pub goes_listed : (s : State) (ok : Bool) → s.has_made_room ≡ None → s.phase ≡ IsRooted → Goes s (Listed ok) (opened_to IsListed ok s)
unfolding permits changed
goes_listed s ok none at =
    record { may = λ fail. permitted s (Listed ok) none (both_hold (is_at IsRooted s) (may_fail s ok) (ap (is_same_phase IsRooted) at) (may_fail_so s ok fail)); leads = refl }

pub goes_listens : (s : State) (port : ℕ) (ok : Bool) → s.has_made_room ≡ None → s.phase ≡ IsListed → (port == s.settings.port) ≡ true → is_recovered s ≡ true → Goes s (Listens port ok) (opened_to IsListening ok s)
unfolding permits changed
goes_listens s port ok none at is recovered = record {
  may = λ fail.
      permitted s (Listens port ok) none
      (both_hold (is_at IsListed s && (port == s.settings.port) && is_recovered s) (may_fail s ok)
      (both_hold (is_at IsListed s && (port == s.settings.port)) (is_recovered s) (both_hold (is_at IsListed s) (port == s.settings.port) (ap (is_same_phase IsListed) at) is) recovered)
      (may_fail_so s ok fail));
  leads = refl;
}

pub goes_configured : (s : State) (file : Bytes) (text : Option Bytes) → s.has_made_room ≡ None → s.phase ≡ IsWoken → is_some_with (λ named. bytes_eq named file) (file_of s.term.words) ≡ true
    → Goes s (Configured file text) (configured text s)
unfolding permits changed
goes_configured s file text none at named = record {
  may = λ fail.
      permitted s (Configured file text) none
      (both_hold (is_at IsWoken s && is_some_with (λ n. bytes_eq n file) (file_of s.term.words)) (may_fail s (is_some text)) (both_hold (is_at IsWoken s) _ (ap (is_same_phase IsWoken) at) named) (may_fail_so s (is_some text) fail));
  leads = refl;
}

pub goes_printed : (s : State) (text : Bytes) → s.has_made_room ≡ None → is_opening s ≡ true → Goes s (Printed text) s
unfolding permits changed
goes_printed s text none opens = goes_by none opens refl

pub goes_repairing : (s : State) (op : DiskOp) → s.has_made_room ≡ None → s.phase ≡ IsListed → may_begin_in_opening op s ≡ true → Goes s (Began op) (begin_in_opening op s)
unfolding permits changed begun_op
goes_repairing s op none at may =
    let opens = ap (λ (q : Phase). list_any (λ p. is_same_phase p q) (IsWoken ∷ IsConfigured ∷ IsRooted ∷ IsListed ∷ IsListening ∷ IsStuck ∷ [])) at in
    goes_by none
    (ap₂ (λ (a b : Bool). (a && b) || may_in Keeping (may_begin_in_turn op) s) (ap (is_same_phase IsListed) at) may)
    (ap (λ (b : Bool). elim b as (λ c. State) [ true ↦ begin_in_opening op s | false ↦ begin_in_turn op (come_to Keeping s) ]) opens)

-- also an operation in the phase of the disk
pub goes_did : (s : State) (op : DiskOp) (ok : Bool) → s.has_made_room ≡ None → may_end_op s op ≡ true → Goes s (Did op ok) (ended_op op ok s)
unfolding permits changed
goes_did s op ok none may = record { may = λ fail. permitted s (Did op ok) none (both_hold (may_end_op s op) (may_fail s ok) may (may_fail_so s ok fail)); leads = refl }

-- the first wait
pub goes_first_wait : (s : State) (w : Wants) → s.has_made_room ≡ None → s.phase ≡ IsListening → is_served (begin_replies s) w ≡ true → Goes s (Waits w) (rest_with w (begin_replies s))
unfolding permits changed ending
goes_first_wait s w none at served = goes_by none (ap₂ (λ (b : Bool) (t : State). elim b as (λ c. Bool) [ true ↦ is_served (begin_replies t) w | false ↦ false ]) listens here ∙ served) (ap (λ (t : State). rest_with w (begin_replies t)) here)
  where
    listens : (is_at IsListening s || (not s.is_stopped && may_end s)) ≡ true
    listens = ap (λ (b : Bool). b || (not s.is_stopped && may_end s)) (ap (is_same_phase IsListening) at)

    here : come_to DecidingAgain s ≡ s
    here = come_off DecidingAgain s (ap (λ (q : Phase). list_any (λ p. is_same_phase p q) phases) at)

-- a life begins
pub goes_woke : (s : State) (image : Files) → s.has_made_room ≡ None → permits_woke s image ≡ true → Goes s (Woke image) (woken image s)
unfolding permits changed
goes_woke s image none may = goes_by none may refl
