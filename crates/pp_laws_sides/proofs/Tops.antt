-- The greatest number of a connection, happening by happening; and what becomes of a number that was given.
use Rattle.std.proofs.Common.{◌≡◌, ◌⊎◌, refl, sym, ap, subst, ◌∙◌, ◌+◌, ◌<◌, ◌≤◌, max, ℕ, Bool, true, false, ◌==◌, List, length, [], ◌∷◌, ◌++◌, cond, find, Option, Some, None, inl, inr, le_refl, le_trans, arith}
use Rattle.pp_conf.specs.Conf.{Settings}
use Rattle.pp_conf.specs.Words.{reading_of}
use Rattle.pp_law.proofs.Prefixes.{front_from}
use Rattle.pp_law.specs.After.{after, begun_op, changed, dialled, dropped, ended_op, event, forgotten_by, leave_memory, new_conn, noted, opened, out, owing, paid, refused_dial, refused_row, take_decision, undialled, unread}
use Rattle.pp_law.specs.Chunks.{note_use}
use Rattle.pp_law.specs.Connections.{Pause, AllPlaced, WaitsDial, WaitsDrop, client, conn, end_exchange, lose_attempt, may_ask_again, placing, put_on}
use Rattle.pp_law.specs.Deciding.{decided}
use Rattle.pp_law.specs.Followers.{fill}
use Rattle.pp_law.specs.Leaving.{Leaving, ForAnother, ForMemory, BeforeDecision, leaving_as}
use Rattle.pp_law.specs.Lists.{Bytes}
use Rattle.pp_law.specs.Opening.{are_texts, begun, configured, is_opening, lose_in_opening, names_file, opened_to, settings_in, stuck, with_settings, woken}
use Rattle.pp_law.specs.Permits.{IsPermitted, is_dial_of, is_new_number, permits_dial}
use Rattle.pp_law.specs.Phases.{come_to, come_to_decide, deciding, ending, next}
use Rattle.pp_law.specs.Repairs.{agenda_in_opening, begin_in_opening}
use Rattle.pp_law.specs.Replies.{regained}
use Rattle.pp_law.specs.State.{State, Phase, Agenda, Client, Conn, Entry, Exchange, Instance, Owed, Term, Todo, Do, Enter, Acknowledge, start, IsWoken, IsRooted, IsListed, IsListening, Connecting, Evicting, Keeping, ReadOf, WriteTo}
use Rattle.pp_law.specs.Store.{agenda_in_turn, begin_in_turn, begin_op, close_name, end_op, enter_next, fail_op, is_of_draft, left_todo, load, load_from, lose_draft, lose_entry, note_gone, note_kept, remove_entry}
use Rattle.pp_law.specs.Table.{forget, is_entry_of, kept_row, row}
use Rattle.pp_law.specs.Turn.{rest_with, tick, touch}
use Rattle.pp_laws.proofs.Tests.{below, first_holds, same_number, second_holds}
use Rattle.pp_laws.specs.Runs.{state_after}
use Rattle.pp_laws_bounds.proofs.Happenings.{opened_so}
use Rattle.pp_laws_sides.proofs.Happenings.{dials_so, new_so}
use Rattle.pp_laws_sides.proofs.Open.{LogSteps, along_from, along_log, at_its_end, sides_are}
use Rattle.pp_laws_sides.specs.Sides.{side_in}
use Rattle.pp_laws_sides.specs.Tops.{NumbersComeOnce, TopsAreTheLaws}
use Rattle.pp_laws_turn.proofs.Lifts.{obeying}
use Rattle.pp_obeys.proofs.Frames.{Frame, Stays, frame, frame_of, stays}
use Rattle.pp_obeys.proofs.StaysAsks.{decided-stays, fill-stays}
use Rattle.pp_obeys.proofs.StaysResponses.{got-stays}
use Rattle.pp_obeys.proofs.StaysTable.{close_client-stays, end_exchange-stays, forget-stays, lose_attempt-stays, put_on-stays}
use Rattle.pp_obeys.proofs.StaysTurns.{ask-stays, come_to-frame, come_to_decide-frame, deciding-frame, end_replies-stays, ending-frame, evicted-stays, gone-stays, hang_up-stays, hear-stays, next-frame, placing-frame, reached-stays, refused_row-stays, said-stays, shut-stays, tick-frame, touch-stays}
use Rattle.pp_world.proofs.LogLemmas.{side_of-push, top_of-push}
use Rattle.pp_world.specs.Connections.{side_after, side_of, top_of, top_with}
use Rattle.pp_world.specs.Files.{Files}
use Rattle.pp_world.specs.Log.{Log}
use Rattle.pp_world.specs.declared.event.Side.{Side}
use Rattle.pp_world.specs.declared.event.Side.TheVariants.{Client as OfClient, Origin}
use Rattle.pp_world.specs.declared.happening.Happening.{Happening}
use Rattle.pp_world.specs.declared.happening.Happening.TheVariants.{Woke, Waits, Clock, Opened, CanRead, CanWrite, Heard, HungUp, Said, Shut, Dialled, Undialled, Reached, Ended, Broke, Asked, Got, Dropped, NoneYet, Began, Did, Unread, Noted, Rooted, Listed, Listens, Configured, Printed, Stopped}
use Rattle.pp_world.specs.declared.note.Decision.{Decision}
use Rattle.pp_world.specs.declared.note.Remark.{Remark}
use Rattle.pp_world.specs.declared.note.Remark.TheVariants.{Taken, Cut, Kept, Gone, Forgotten, Evicted, Loaded}
use Rattle.pp_world.specs.declared.op.DiskOp.{DiskOp}

abbrev top_in : Frame → ℕ
top_in f = f.top

by_stays : (s t : State) → Stays false (frame false s) t → t.top ≡ s.top
by_stays s t h = ap top_in (frame_of h)

-- ---- events, reads and writes

handled : (s : State) → (event s).top ≡ s.top
unfolding event regained
handled s = refl

opened_at : (n : ℕ) (s : State) → (opened n s).top ≡ n
unfolding opened
opened_at n s = refl

owed_at : (owed : Owed) (n : ℕ) (s : State) → (owing owed n s).top ≡ s.top
unfolding owing
owed_at owed n s = by_stays s (touch n s) (touch-stays n s (stays refl))

paid_at : (s : State) → (paid s).top ≡ s.top
unfolding paid regained
paid_at s = refl

rested_at : (w : _) (s : State) → (rest_with w s).top ≡ s.top
unfolding rest_with
rested_at w s = refl

come_at : (phase : Phase) (s : State) → (come_to phase s).top ≡ s.top
come_at phase s = ap top_in (come_to-frame false phase s)

-- ---- places

dialled_by : (n : ℕ) (host : Bytes) (port : ℕ) (s : State) (pause : Pause) → is_dial_of pause host port ≡ true → (elim pause as (λ c. State) [
  | AllPlaced ↦ s
  | WaitsDrop k e ↦ s
  | WaitsDial e ↦ put_on e.number n (record s { conns = s.conns ++ new_conn n host port s.clock ∷ []; top = n })
]).top ≡ n
dialled_by n host port s AllPlaced is = absurd (cc is)
dialled_by n host port s (WaitsDrop k e) is = absurd (cc is)
dialled_by n host port s (WaitsDial e) is =
    let new : State = record s { conns = s.conns ++ new_conn n host port s.clock ∷ []; top = n } in
    by_stays new (put_on e.number n new) (put_on-stays e.number n new (stays refl))

dialled_at : (n : ℕ) (host : Bytes) (port : ℕ) (s : State) → is_dial_of (placing s).pause host port ≡ true → (dialled n host port (placing s)).top ≡ n
unfolding dialled
dialled_at n host port s is = dialled_by n host port (placing s).state (placing s).pause is

placed_at : (s : State) → (placing s).state.top ≡ s.top
placed_at s = ap top_in (placing-frame false s)

refused_at : (e : Exchange) (s : State) → (refused_dial e s).top ≡ s.top
unfolding refused_dial
refused_at e s = by (may_ask_again s e.number)
  where
    by : (b : Bool) → (elim b as (λ c. State) [ true ↦ s | false ↦ fill (end_exchange e.number s) ]).top ≡ s.top
    by true = refl
    by false = by_stays s (fill (end_exchange e.number s)) (fill-stays (end_exchange e.number s) (end_exchange-stays e.number s (stays refl)))

undialled_by : (s : State) (pause : Pause) → (elim pause as (λ c. State) [
  | AllPlaced ↦ s
  | WaitsDrop k e ↦ s
  | WaitsDial e ↦ refused_dial e (lose_attempt e (record s { failures = s.failures + 1 }))
]).top ≡ s.top
undialled_by s AllPlaced = refl
undialled_by s (WaitsDrop k e) = refl
undialled_by s (WaitsDial e) =
    let new : State = record s { failures = s.failures + 1 } in
    refused_at e (lose_attempt e new) ∙ by_stays new (lose_attempt e new) (lose_attempt-stays e new (stays refl))

undialled_at : (s : State) → (undialled (placing s)).top ≡ s.top
unfolding undialled
undialled_at s = undialled_by (placing s).state (placing s).pause ∙ placed_at s

dropped_at : (n : ℕ) (s : State) → (dropped n s).top ≡ s.top
unfolding dropped out
dropped_at n s = by (conn s n)
  where
    at : (b : Bool) → (elim b as (λ c. State) [ true ↦ out n s | false ↦ out n (placing s).state ]).top ≡ s.top
    at true = refl
    at false = placed_at s

    by : (o : Option Conn) → (elim o as (λ c. State) [ None ↦ s | Some k ↦ elim k.is_closing as (λ c. State) [ true ↦ out n s | false ↦ out n (placing s).state ] ]).top ≡ s.top
    by None = refl
    by (Some k) = at k.is_closing

-- ---- notes

taken_at : (n : ℕ) (d : Decision) (s : State) → (take_decision n d s).top ≡ s.top
unfolding take_decision regained
taken_at n d s = by (client s n)
  where
    by : (o : Option Client) → (elim o as (λ c. State) [ None ↦ s | Some c ↦ regained (record (decided c d s) { forgotten = []; made_room_for = None }) ]).top ≡ s.top
    by None = refl
    by (Some c) = by_stays s (decided c d s) (decided-stays c d s (stays refl))

left_at : (how : Leaving) (s : State) → (leave_memory how s).top ≡ s.top
unfolding leave_memory
left_at ForAnother s = come_at Evicting s
left_at (ForMemory x) s = by_stays (come_to Evicting s) (refused_row x (come_to Evicting s)) (refused_row-stays x (come_to Evicting s) (stays refl)) ∙ come_at Evicting s
left_at (BeforeDecision x) s = by_stays (come_to_decide s) (forget x.id (come_to_decide s)) (forget-stays x.id (come_to_decide s) (stays refl)) ∙ ap top_in (come_to_decide-frame false s)

forgotten_at : (key : Bytes) (s : State) → (forgotten_by key s).top ≡ s.top
unfolding forgotten_by
forgotten_at key s = by (leaving_as s key)
  where
    by : (o : Option Leaving) → (elim o as (λ c. State) [ None ↦ s | Some how ↦ leave_memory how s ]).top ≡ s.top
    by None = refl
    by (Some how) = left_at how s

loaded_at : (key : Bytes) (i : ℕ) (s : State) → (load key i s).top ≡ s.top
unfolding load load_from note_use
loaded_at key i s = by (row s key)
  where
    at : (x : Instance) (o : Option Entry) → (elim o as (λ c. State) [ None ↦ s | Some e ↦ load_from x e i s ]).top ≡ s.top
    at x None = refl
    at x (Some e) = refl

    by : (o : Option Instance) → (elim o as (λ c. State) [ None ↦ s | Some x ↦ elim (kept_row s key) as (λ c. State) [ None ↦ s | Some e ↦ load_from x e i s ] ]).top ≡ s.top
    by None = refl
    by (Some x) = at x (kept_row s key)

gone_at : (key : Bytes) (s : State) → (note_gone key s).top ≡ s.top
unfolding note_gone remove_entry
gone_at key s = by (find (is_entry_of key) s.entries)
  where
    by : (o : Option Entry) → (elim o as (λ c. State) [ None ↦ s | Some e ↦ remove_entry e s ]).top ≡ s.top
    by None = refl
    by (Some e) = refl

kept_at : (key : Bytes) (extent : ℕ) (s : State) → (note_kept key extent s).top ≡ s.top
unfolding note_kept
kept_at key extent s = refl

noted_at : (remark : Remark) (s : State) → (noted remark s).top ≡ s.top
unfolding noted
noted_at (Taken c i d) s = taken_at c d (deciding s) ∙ ap top_in (deciding-frame false s)
noted_at (Cut c cause) s = by_stays (deciding s) _ (close_client-stays c true (deciding s) (stays refl)) ∙ ap top_in (deciding-frame false s)
noted_at (Kept key tag n extent) s = kept_at key extent s
noted_at (Gone key) s = gone_at key (come_to Keeping s) ∙ come_at Keeping s
noted_at (Forgotten key) s = forgotten_at key s
noted_at (Evicted key tag n i) s = by_stays (come_to Evicting s) _ (evicted-stays (come_to Evicting s) (stays refl)) ∙ come_at Evicting s
noted_at (Loaded key tag n i) s = loaded_at key i s

-- ---- the disk, and the opening

begin_by : (op : DiskOp) (plan : Option Agenda) (s : State) → (begin_op op plan s).top ≡ s.top
unfolding begin_op
begin_by op None s = refl
begin_by op (Some todo) s = refl

begun_at : (op : DiskOp) (s : State) → (begun_op op s).top ≡ s.top
unfolding begun_op begin_in_opening begin_in_turn
begun_at op s = by (is_opening s)
  where
    by : (b : Bool) → (elim b as (λ c. State) [ true ↦ begin_in_opening op s | false ↦ begin_in_turn op (come_to Keeping s) ]).top ≡ s.top
    by true = begin_by op (agenda_in_opening op s) s
    by false = begin_by op (agenda_in_turn op (come_to Keeping s)) (come_to Keeping s) ∙ come_at Keeping s

next_by : (todo : List Todo) (s : State) → (elim todo as (λ c. State) [
  | [] ↦ s
  | next ∷ todo ↦ elim next as (λ c. State) [
    | Do op ↦ s
    | Acknowledge key tag n extent ↦ s
    | Enter e ↦ left_todo todo (record s { entries = s.entries ++ e ∷ [] })
  ]
]).top ≡ s.top
next_by [] s = refl
next_by (Do op ∷ todo) s = refl
next_by (Acknowledge key tag n extent ∷ todo) s = refl
next_by (Enter e ∷ todo) s = refl

entered_at : (s : State) → (enter_next s).top ≡ s.top
unfolding enter_next
entered_at s = next_by s.agenda.todo s

failed_at : (op : DiskOp) (s : State) → (fail_op op s).top ≡ s.top
unfolding fail_op lose_draft close_name
failed_at op s = by (is_of_draft op)
  where
    by : (b : Bool) → (elim b as (λ c. State) [ true ↦ lose_draft s | false ↦ close_name s.agenda.name s ]).top ≡ s.top
    by true = refl
    by false = refl

end_at : (op : DiskOp) (ok : Bool) (s : State) → (end_op op ok s).top ≡ s.top
unfolding end_op
end_at op true s = entered_at _
end_at op false s = failed_at op _

lost_at : (name : Bytes) (s : State) → (lose_in_opening name s).top ≡ s.top
unfolding lose_in_opening lose_entry
lost_at name s = by (is_opening s)
  where
    by : (b : Bool) → (elim b as (λ c. State) [ true ↦ lose_entry name s | false ↦ s ]).top ≡ s.top
    by true = refl
    by false = refl

ended_at : (op : DiskOp) (ok : Bool) (s : State) → (ended_op op ok s).top ≡ s.top
unfolding ended_op
ended_at op true s = end_at op true s
ended_at op false s = lost_at s.agenda.name (end_op op false s) ∙ end_at op false s

unread_at : (name : Bytes) (s : State) → (unread name s).top ≡ s.top
unfolding unread close_name
unread_at name s = paid_at (lose_in_opening name (close_name name s)) ∙ lost_at name (close_name name s)

settled_at : (read : Option Settings) (s : State) → (with_settings read s).top ≡ s.top
unfolding with_settings
settled_at None s = refl
settled_at (Some c) s = refl

begin_at : (s : State) → (begun s).top ≡ s.top
unfolding begun
begin_at s = by (are_texts s.term)
  where
    named : (b : Bool) → (elim b as (λ c. State) [ true ↦ record s { phase = IsWoken } | false ↦ with_settings (settings_in (reading_of s.term.words None)) s ]).top ≡ s.top
    named true = refl
    named false = settled_at (settings_in (reading_of s.term.words None)) s

    by : (t : Bool) → (elim t as (λ c. State) [
      | false ↦ with_settings None s
      | true ↦ elim (names_file s.term) as (λ c. State) [ true ↦ record s { phase = IsWoken } | false ↦ with_settings (settings_in (reading_of s.term.words None)) s ]
    ]).top ≡ s.top
    by false = settled_at None s
    by true = named (names_file s.term)

woken_at : (image : Files) (s : State) → (woken image s).top ≡ s.top
unfolding woken
woken_at image s = begin_at _

led_at : (phase : Phase) (ok : Bool) (s : State) → (opened_to phase ok s).top ≡ s.top
unfolding opened_to stuck
led_at phase true s = refl
led_at phase false s = refl

configured_at : (text : Option Bytes) (s : State) → (configured text s).top ≡ s.top
unfolding configured stuck
configured_at None s = refl
configured_at (Some text) s = settled_at (settings_in (reading_of s.term.words (Some text))) s

-- ---- each of them

greater : (m n : ℕ) → m < n → n ≡ max m n
greater m n less = omega (arith, less)

dial_above : (s : State) (n : ℕ) (host : Bytes) (port : ℕ) → IsPermitted s (Dialled n host port) → s.top < n
dial_above s n host port is = below s.top n (first_holds (is_new_number s n) (permits_dial s host port) (new_so s n host port is))

after_top : (s : State) (h : Happening) → IsPermitted s h → (after s h).top ≡ top_with s.top h
unfolding changed
after_top s (Woke image) is = woken_at image s
after_top s (Waits w) is = rested_at w (ending s) ∙ ap top_in (ending-frame false s)
after_top s (Clock seconds) is = handled (tick seconds s) ∙ ap top_in (tick-frame false seconds s)
after_top s (Opened n) is = handled (opened n s) ∙ opened_at n s ∙ greater s.top n (opened_so s n is).0
after_top s (CanRead n) is = handled (owing (ReadOf n) n s) ∙ owed_at (ReadOf n) n s
after_top s (CanWrite n) is = handled (owing (WriteTo n) n s) ∙ owed_at (WriteTo n) n s
after_top s (Heard c bytes) is = paid_at _ ∙ by_stays s _ (hear-stays c bytes s (stays refl))
after_top s (HungUp c) is = paid_at _ ∙ by_stays s _ (hang_up-stays c s (stays refl))
after_top s (Said c offered bytes) is = paid_at _ ∙ by_stays s _ (said-stays c (length bytes) s (stays refl))
after_top s (Shut c) is = by_stays (come_to Connecting s) _ (shut-stays c (come_to Connecting s) (stays refl)) ∙ come_at Connecting s
after_top s (Dialled n host port) is =
    dialled_at n host port (come_to Connecting s) (dials_so s host port (second_holds (is_new_number s n) (permits_dial s host port) (new_so s n host port is))) ∙ greater s.top n (dial_above s n host port is)
after_top s (Undialled host port) is = undialled_at (come_to Connecting s) ∙ come_at Connecting s
after_top s (Reached k) is = handled _ ∙ by_stays s _ (reached-stays k s (stays refl))
after_top s (Ended k) is = paid_at _ ∙ by_stays s _ (gone-stays true k s (stays refl))
after_top s (Broke k) is = paid_at _ ∙ by_stays (event s) _ (gone-stays false k (event s) (stays refl)) ∙ handled s
after_top s (Asked k bytes) is = paid_at _ ∙ by_stays s _ (ask-stays k (length bytes) s (stays refl))
after_top s (Got k bytes) is = paid_at _ ∙ by_stays s _ (end_replies-stays _ (got-stays (length bytes) k bytes s (stays refl)))
after_top s (Dropped k) is = dropped_at k (come_to Connecting s) ∙ come_at Connecting s
after_top s (NoneYet n) is = paid_at s
after_top s (Began op) is = begun_at op s
after_top s (Did op ok) is = ended_at op ok s
after_top s (Unread name) is = unread_at name s
after_top s (Noted remark) is = noted_at remark s
after_top s (Rooted folder) is = led_at IsRooted true s
after_top s (Listed ok) is = led_at IsListed ok s
after_top s (Listens port ok) is = led_at IsListening ok s
after_top s (Configured file text) is = configured_at text s
after_top s (Printed text) is = refl
after_top s Stopped is = handled _

-- ---- at each moment

abbrev HasTop : Log → State → Type 0
HasTop log s = s.top ≡ top_of log

first_top : (terms : List Term) → HasTop [] (start terms)
unfolding top_of
first_top terms = refl

stepped : LogSteps HasTop
stepped terms front h next was = after_top (state_after terms front) h next.permitted ∙ ap (λ (m : ℕ). top_with m h) was ∙ sym (top_of-push front h)

pub tops_are : TopsAreTheLaws
tops_are terms s log obeys =
    obeying (λ (t : State). t.top ≡ (state_after terms log).top) (λ t done is. ap top_in (next-frame false t) ∙ is) terms s log obeys refl ∙ along_log HasTop first_top stepped terms log obeys.lawful

-- ---- numbers that were given

-- it gives none that is this one
abbrev IsOtherThan : ℕ → Happening → Type 0
IsOtherThan n (Opened m) = (m == n) ≡ false
IsOtherThan n (Dialled m host port) = (m == n) ≡ false
IsOtherThan n h = Unit {0}

as_was : (b : Bool) (side new : Option Side) → b ≡ false → cond b new side ≡ side
as_was b side new is = ap (λ (t : Bool). cond t new side) is

or_gone : (b : Bool) (side : Option Side) → (cond b None side ≡ side) ⊎ (cond b None side ≡ None)
or_gone true side = inr refl
or_gone false side = inl refl

still : (n : ℕ) (side : Option Side) (h : Happening) → IsOtherThan n h → (side_after n side h ≡ side) ⊎ (side_after n side h ≡ None)
still n side (Woke image) apart = inr refl
still n side (Opened m) apart = inl (as_was (m == n) side (Some OfClient) apart)
still n side (Dialled m host port) apart = inl (as_was (m == n) side (Some Origin) apart)
still n side (Shut m) apart = or_gone (m == n) side
still n side (Dropped m) apart = or_gone (m == n) side
still n side (Waits w) apart = inl refl
still n side (Clock seconds) apart = inl refl
still n side (CanRead m) apart = inl refl
still n side (CanWrite m) apart = inl refl
still n side (Heard c bytes) apart = inl refl
still n side (HungUp c) apart = inl refl
still n side (Said c offered bytes) apart = inl refl
still n side (Undialled host port) apart = inl refl
still n side (Reached m) apart = inl refl
still n side (Ended m) apart = inl refl
still n side (Broke m) apart = inl refl
still n side (Asked m bytes) apart = inl refl
still n side (Got m bytes) apart = inl refl
still n side (NoneYet m) apart = inl refl
still n side (Began op) apart = inl refl
still n side (Did op ok) apart = inl refl
still n side (Unread name) apart = inl refl
still n side (Noted remark) apart = inl refl
still n side (Rooted folder) apart = inl refl
still n side (Listed ok) apart = inl refl
still n side (Listens port ok) apart = inl refl
still n side (Configured file text) apart = inl refl
still n side (Printed text) apart = inl refl
still n side Stopped apart = inl refl

not_it : (n top m : ℕ) → n ≤ top → top < m → (m == n) ≡ false
not_it n top m le above = by (m == n) refl
  where
    by : (b : Bool) → (m == n) ≡ b → b ≡ false
    by true is = absurd (no (same_number m n is))
      where
        no : m ≡ n → ⊥
        no same = omega (arith, le, above, same)
    by false is = refl

other_than : (n : ℕ) (s : State) (h : Happening) → n ≤ s.top → IsPermitted s h → IsOtherThan n h
other_than n s (Opened m) le is = not_it n s.top m le (opened_so s m is).0
other_than n s (Dialled m host port) le is = not_it n s.top m le (dial_above s m host port is)
other_than n s (Woke image) le is = tt
other_than n s (Shut m) le is = tt
other_than n s (Dropped m) le is = tt
other_than n s (Waits w) le is = tt
other_than n s (Clock seconds) le is = tt
other_than n s (CanRead m) le is = tt
other_than n s (CanWrite m) le is = tt
other_than n s (Heard c bytes) le is = tt
other_than n s (HungUp c) le is = tt
other_than n s (Said c offered bytes) le is = tt
other_than n s (Undialled host port) le is = tt
other_than n s (Reached m) le is = tt
other_than n s (Ended m) le is = tt
other_than n s (Broke m) le is = tt
other_than n s (Asked m bytes) le is = tt
other_than n s (Got m bytes) le is = tt
other_than n s (NoneYet m) le is = tt
other_than n s (Began op) le is = tt
other_than n s (Did op ok) le is = tt
other_than n s (Unread name) le is = tt
other_than n s (Noted remark) le is = tt
other_than n s (Rooted folder) le is = tt
other_than n s (Listed ok) le is = tt
other_than n s (Listens port ok) le is = tt
other_than n s (Configured file text) le is = tt
other_than n s (Printed text) le is = tt
other_than n s Stopped le is = tt

-- it was given, and is on that side or gone
abbrev IsOnce : ℕ → Option Side → Log → State → Type 0
IsOnce n side log s = (n ≤ top_of log) × ((side_of n log ≡ side) ⊎ (side_of n log ≡ None))

no_less : (m : ℕ) (h : Happening) → m ≤ top_with m h
no_less m (Opened n) = omega arith
no_less m (Dialled n host port) = omega arith
no_less m (Woke image) = le_refl m
no_less m (Shut n) = le_refl m
no_less m (Dropped n) = le_refl m
no_less m (Waits w) = le_refl m
no_less m (Clock seconds) = le_refl m
no_less m (CanRead n) = le_refl m
no_less m (CanWrite n) = le_refl m
no_less m (Heard c bytes) = le_refl m
no_less m (HungUp c) = le_refl m
no_less m (Said c offered bytes) = le_refl m
no_less m (Undialled host port) = le_refl m
no_less m (Reached n) = le_refl m
no_less m (Ended n) = le_refl m
no_less m (Broke n) = le_refl m
no_less m (Asked n bytes) = le_refl m
no_less m (Got n bytes) = le_refl m
no_less m (NoneYet n) = le_refl m
no_less m (Began op) = le_refl m
no_less m (Did op ok) = le_refl m
no_less m (Unread name) = le_refl m
no_less m (Noted remark) = le_refl m
no_less m (Rooted folder) = le_refl m
no_less m (Listed ok) = le_refl m
no_less m (Listens port ok) = le_refl m
no_less m (Configured file text) = le_refl m
no_less m (Printed text) = le_refl m
no_less m Stopped = le_refl m

once_on : (n : ℕ) (side : Option Side) → LogSteps (IsOnce n side)
once_on n side terms front h next was = (le_trans was.0 (subst (λ (m : ℕ). top_of front ≤ m) (sym (top_of-push front h)) (no_less (top_of front) h)), by was.1)
  where
    s : State
    s = state_after terms front

    apart : IsOtherThan n h
    apart = other_than n s h (subst (λ (m : ℕ). n ≤ m) (sym (tops_are terms s front (at_its_end terms front (front_from (start terms) front (h ∷ []) next.lawful)))) was.0) next.permitted

    onto : (now : Option Side) → side_of n front ≡ now → (side_after n now h ≡ now) ⊎ (side_after n now h ≡ None) → (side_of n (front ++ h ∷ []) ≡ now) ⊎ (side_of n (front ++ h ∷ []) ≡ None)
    onto now is (inl same) = inl (side_of-push n front h ∙ ap (λ o. side_after n o h) is ∙ same)
    onto now is (inr gone) = inr (side_of-push n front h ∙ ap (λ o. side_after n o h) is ∙ gone)

    both : (side_of n (front ++ h ∷ []) ≡ None) ⊎ (side_of n (front ++ h ∷ []) ≡ None) → side_of n (front ++ h ∷ []) ≡ None
    both (inl is) = is
    both (inr is) = is

    by : (side_of n front ≡ side) ⊎ (side_of n front ≡ None) → (side_of n (front ++ h ∷ []) ≡ side) ⊎ (side_of n (front ++ h ∷ []) ≡ None)
    by (inl is) = onto side is (still n side h apart)
    by (inr is) = inr (both (onto None is (still n None h apart)))

pub come_once : NumbersComeOnce
come_once terms before hs s t n one two le = by (along_from (IsOnce n (side_of n before)) (once_on n (side_of n before)) terms before hs two.lawful (subst (λ (m : ℕ). n ≤ m) (tops_are terms s before one) le, inl refl)).1
  where
    by : (side_of n (before ++ hs) ≡ side_of n before) ⊎ (side_of n (before ++ hs) ≡ None) → (side_in t n ≡ side_in s n) ⊎ (side_in t n ≡ None)
    by (inl same) = inl (sym (sides_are terms t (before ++ hs) two n) ∙ same ∙ sides_are terms s before one n)
    by (inr gone) = inr (sym (sides_are terms t (before ++ hs) two n) ∙ gone)
