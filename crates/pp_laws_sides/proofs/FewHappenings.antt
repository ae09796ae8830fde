-- Each happening brings few rows, and each client few requests further.
use Rattle.std.proofs.Common.{◌≡◌, ◌⊎◌, ℕ, ◌+◌, ◌*◌, ◌≤◌, ◌<◌, nat_le, min, Bool, true, false, ◌&&◌, List, [], ◌∷◌, ◌++◌, length, Option, Some, None, inl, inr, ap, sym, subst, le_refl, zero-le, arith}
use Rattle.std.proofs.lemmas.Bool.Decides.{nat_tests}
use Rattle.pp_conf.specs.Conf.{Settings}
use Rattle.pp_conf.specs.Words.{reading_of}
use Rattle.pp_world.specs.Files.{Files}
use Rattle.pp_world.specs.declared.happening.Happening.TheVariants.{Woke, Waits, Clock, Opened, CanRead, CanWrite, Heard, HungUp, Said, Shut, Dialled, Undialled, Reached, Ended, Broke, Asked, Got, Dropped, NoneYet, Began, Did, Unread, Noted, Rooted, Listed, Listens, Configured, Printed, Stopped}
use Rattle.pp_world.specs.declared.happening.Happening.{Happening}
use Rattle.pp_world.specs.declared.note.Decision.{Decision}
use Rattle.pp_world.specs.declared.note.Remark.TheVariants.{Taken, Cut, Kept, Gone, Forgotten, Evicted, Loaded}
use Rattle.pp_world.specs.declared.note.Remark.{Remark}
use Rattle.pp_world.specs.declared.op.DiskOp.{DiskOp}
use Rattle.pp_law.specs.After.{after, begun_op, changed, dialled, dropped, ended_op, forgotten_by, leave_memory, new_client, new_conn, noted, opened, out, refused_dial, take_decision, undialled, unread}
use Rattle.pp_law.specs.Asking.{is_read, is_reading, permits_got, read_room}
use Rattle.pp_law.specs.Chunks.{note_use}
use Rattle.pp_law.specs.Connections.{Pause, AllPlaced, WaitsDial, WaitsDrop, Placement, client, conn, lose_attempt, may_ask_again, placing, put_on}
use Rattle.pp_law.specs.Leaving.{Leaving, ForAnother, ForMemory, BeforeDecision, leaving_as}
use Rattle.pp_law.specs.Lists.{Bytes}
use Rattle.pp_law.specs.Opening.{are_texts, begun, configured, is_opening, lose_in_opening, names_file, opened_to, settings_in, stuck, with_settings, woken}
use Rattle.pp_law.specs.Permits.{IsPermitted, is_permitted, permits}
use Rattle.pp_law.specs.Phases.{come_to}
use Rattle.pp_law.specs.State.{State, Term, start, Phase, IsWoken, IsRooted, IsListed, IsListening, Connecting, Evicting, Keeping, ReadOf, WriteTo, Client, Exchange}
use Rattle.pp_law.specs.Store.{begin_in_turn, close_name, end_op, load, load_from, note_gone, note_kept}
use Rattle.pp_law.specs.Repairs.{begin_in_opening}
use Rattle.pp_law.specs.Table.{kept_row, row}
use Rattle.pp_laws.proofs.Lists.{in_push}
use Rattle.pp_laws.proofs.Tests.{second_holds}
use Rattle.pp_laws.specs.Runs.{IsIn}
use Rattle.pp_laws_bounds.proofs.Counts.{length-push}
use Rattle.pp_laws_bounds.proofs.Happenings.{opened_so}
use Rattle.pp_laws_turn.proofs.Disk.{begin_in_opening-keeps, begin_in_turn-keeps, close_name-keeps, end_op-keeps, lose_in_opening-keeps, note_gone-keeps, note_kept-keeps}
use Rattle.pp_laws_turn.proofs.View.{Holds, View, facts_of as held, holds}
use Rattle.pp_laws_sides.proofs.Few.{Facts, Few, each_of, facts_of, few, raise, when}
use Rattle.pp_laws_sides.proofs.FewAsks.{decided-few, fill-few}
use Rattle.pp_laws_sides.proofs.FewResponses.{got-few}
use Rattle.pp_laws_sides.proofs.FewTable.{close_client-few, end_exchange-few, forget-few, lose_attempt-few, placing-few, put_on-few}
use Rattle.pp_laws_sides.proofs.FewTurns.{ask-few, come_to-few, come_to_decide-few, deciding-few, end_replies-few, ending-few, event-few, evicted-few, gone-few, hang_up-few, hear-few, owing-few, paid-few, reached-few, refused_row-few, regained-few, rest_with-few, said-few, shut-few, tick-few}
use Rattle.pp_laws_sides.proofs.Happenings.{unhampered}

-- ---- notes

take_decision-few : {m l : ℕ} (n : ℕ) (d : Decision) (s : State) → Few m l s → Few (m + 1) l (take_decision n d s)
unfolding take_decision
take_decision-few {m} {l} n d s h = each_of (client s n) (raise (m + 1) l s (omega arith) (le_refl l) h) (λ c. regained-few _ (few (facts_of (decided-few c d s h))))

leave_memory-few : {m l : ℕ} (how : Leaving) (s : State) → Few m l s → Few m l (leave_memory how s)
unfolding leave_memory
leave_memory-few ForAnother s h = few (facts_of (come_to-few Evicting s h))
leave_memory-few (ForMemory x) s h = refused_row-few x _ (come_to-few Evicting s h)
leave_memory-few (BeforeDecision x) s h = few (facts_of (forget-few x.id _ (come_to_decide-few s h)))

forgotten_by-few : {m l : ℕ} (key : Bytes) (s : State) → Few m l s → Few m l (forgotten_by key s)
unfolding forgotten_by
forgotten_by-few key s h = each_of (leaving_as s key) h (λ how. leave_memory-few how s h)

load-few : {m l : ℕ} (key : Bytes) (i : ℕ) (s : State) → Few m l s → Few m l (load key i s)
unfolding load load_from note_use
load-few key i s h = each_of (row s key) h (λ x. each_of (kept_row s key) h (λ e. few (facts_of h)))

-- ---- the disk, and the opening

abbrev FewIn : ℕ → ℕ → View → Type 0
FewIn m l v = Facts m l v.clients v.next_instance

there : {m l : ℕ} (s : State) → Few m l s → Holds (FewIn m l) s
there s h = holds (facts_of h)

back : {m l : ℕ} (s : State) → Holds (FewIn m l) s → Few m l s
back s h = few (held h)

begun_op-few : {m l : ℕ} (op : DiskOp) (s : State) → Few m l s → Few m l (begun_op op s)
unfolding begun_op
begun_op-few op s h = when (is_opening s) (back (begin_in_opening op s) (begin_in_opening-keeps op s (there s h))) (back (begin_in_turn op (come_to Keeping s)) (begin_in_turn-keeps op _ (there (come_to Keeping s) (come_to-few Keeping s h))))

ended_op-few : {m l : ℕ} (op : DiskOp) (ok : Bool) (s : State) → Few m l s → Few m l (ended_op op ok s)
unfolding ended_op
ended_op-few op true s h = back (end_op op true s) (end_op-keeps op true s (there s h))
ended_op-few op false s h = back (lose_in_opening s.agenda.name (end_op op false s)) (lose_in_opening-keeps s.agenda.name _ (end_op-keeps op false s (there s h)))

unread-few : {m l : ℕ} (name : Bytes) (s : State) → Few m l s → Few m l (unread name s)
unfolding unread
unread-few name s h = paid-few _ (back (lose_in_opening name (close_name name s)) (lose_in_opening-keeps name _ (close_name-keeps name s (there s h))))

with_settings-few : {m l : ℕ} (read : Option Settings) (s : State) → Few m l s → Few m l (with_settings read s)
unfolding with_settings
with_settings-few None s h = few (facts_of h)
with_settings-few (Some c) s h = few (facts_of h)

begun-few : {m l : ℕ} (s : State) → Few m l s → Few m l (begun s)
unfolding begun
begun-few {m} {l} s h = by (are_texts s.term)
  where
    by : (t : Bool) → Few m l (elim t as (λ c. State) [
      | false ↦ with_settings None s
      | true ↦ elim (names_file s.term) as (λ c. State) [ true ↦ record s { phase = IsWoken } | false ↦ with_settings (settings_in (reading_of s.term.words None)) s ]
    ])
    by false = with_settings-few None s h
    by true = when (names_file s.term) (few (facts_of h)) (with_settings-few (settings_in (reading_of s.term.words None)) s h)

none_there : (m l : ℕ) → Facts m l [] 0
none_there m l = record { rows = zero-le; asked = λ c i. absurd i; many = zero-le }

pub start-few : (terms : List Term) → Few 0 0 (start terms)
start-few terms = few (none_there 0 0)

woken-few : (m l : ℕ) (image : Files) (s : State) → Few m l (woken image s)
unfolding woken
woken-few m l image s = begun-few _ (few (none_there m l))

opened_to-few : {m l : ℕ} (phase : Phase) (ok : Bool) (s : State) → Few m l s → Few m l (opened_to phase ok s)
unfolding opened_to stuck
opened_to-few phase true s h = few (facts_of h)
opened_to-few phase false s h = few (facts_of h)

configured-few : {m l : ℕ} (text : Option Bytes) (s : State) → Few m l s → Few m l (configured text s)
unfolding configured stuck
configured-few None s h = few (facts_of h)
configured-few (Some text) s h = with_settings-few (settings_in (reading_of s.term.words (Some text))) s h

-- ---- connections

opened-few : {m l : ℕ} (n : ℕ) (s : State) → length s.clients < 256 → Few m l s → Few m l (opened n s)
unfolding opened
opened-few {m} {l} n s room h = few (record {
  rows = (facts_of h).rows;
  asked = λ c i. by c (in_push c s.clients (new_client n s.clock) i);
  many = let is : length (s.clients ++ new_client n s.clock ∷ []) ≡ length s.clients + 1 = length-push s.clients (new_client n s.clock) in omega arith;
})
  where
    by : (c : Client) → IsIn c s.clients ⊎ (c ≡ new_client n s.clock) → c.index ≤ l
    by c (inl i) = (facts_of h).asked c i
    by c (inr e) = subst (λ k. k ≤ l) (sym (ap (λ (d : Client). d.index) e)) zero-le

dialled-few : {m l : ℕ} (n : ℕ) (host : Bytes) (port : ℕ) (p : Placement) → Few m l p.state → Few m l (dialled n host port p)
unfolding dialled
dialled-few {m} {l} n host port p h = by p.pause
  where
    by : (pause : Pause) → Few m l (elim pause as (λ c. State) [
      | AllPlaced ↦ p.state
      | WaitsDrop k e ↦ p.state
      | WaitsDial e ↦ put_on e.number n (record p.state { conns = p.state.conns ++ new_conn n host port p.state.clock ∷ []; top = n })
    ])
    by AllPlaced = h
    by (WaitsDrop k e) = h
    by (WaitsDial e) = put_on-few e.number n _ (few (facts_of h))

refused_dial-few : {m l : ℕ} (e : Exchange) (s : State) → Few m l s → Few m l (refused_dial e s)
unfolding refused_dial
refused_dial-few e s h = when (may_ask_again s e.number) h (fill-few _ (end_exchange-few e.number s h))

undialled-few : {m l : ℕ} (p : Placement) → Few m l p.state → Few m l (undialled p)
unfolding undialled
undialled-few {m} {l} p h = by p.pause
  where
    by : (pause : Pause) → Few m l (elim pause as (λ c. State) [
      | AllPlaced ↦ p.state
      | WaitsDrop k e ↦ p.state
      | WaitsDial e ↦ refused_dial e (lose_attempt e (record p.state { failures = p.state.failures + 1 }))
    ])
    by AllPlaced = h
    by (WaitsDrop k e) = h
    by (WaitsDial e) = refused_dial-few e _ (lose_attempt-few e _ (few (facts_of h)))

dropped-few : {m l : ℕ} (n : ℕ) (s : State) → Few m l s → Few m l (dropped n s)
unfolding dropped out
dropped-few n s h = each_of (conn s n) h (λ k. when k.is_closing (few (facts_of h)) (few (facts_of (placing-few s h))))

-- ---- one read

short : (bytes most : ℕ) → (nat_le 1 bytes && nat_le bytes (min 32768 most)) ≡ true → bytes ≤ 32768
short bytes most is =
    let le : nat_le bytes (min 32768 most) ≡ true = second_holds (nat_le 1 bytes) (nat_le bytes (min 32768 most)) is in
    grind (arith, nat_tests)

read_short : (s : State) (n : ℕ) (bytes : Bytes) → IsPermitted s (Got n bytes) → length bytes ≤ 32768
unfolding is_permitted permits
read_short s n bytes is =
    short (length bytes) (read_room s n) (second_holds (is_reading s.owed n) (is_read (read_room s n) bytes) (unhampered s.made_room_for (permits_got s n bytes) is))

-- ---- all

late : {m l : ℕ} (s : State) → Few m l s → Few (m + 65536) (l + 256) s
late {m} {l} s h = raise (m + 65536) (l + 256) s (omega arith) (omega arith) h

asked_on : {m k : ℕ} (s : State) → Few m k s → Few (m + 65536) k s
asked_on {m} {k} s h = raise (m + 65536) k s (omega arith) (le_refl k) h

noted-few : {m l : ℕ} (remark : Remark) (s : State) → Few m l s → Few (m + 65536) (l + 256) (noted remark s)
unfolding noted
noted-few {m} {l} (Taken c i d) s h = raise (m + 65536) (l + 256) _ (omega arith) (omega arith) (take_decision-few {m = m} {l = l} c d _ (deciding-few s h))
noted-few (Cut c cause) s h = late _ (close_client-few c true _ (deciding-few s h))
noted-few (Kept key tag n extent) s h = late (note_kept key extent s) (back (note_kept key extent s) (note_kept-keeps key extent s (there s h)))
noted-few (Gone key) s h = late (note_gone key (come_to Keeping s)) (back (note_gone key (come_to Keeping s)) (note_gone-keeps key _ (there (come_to Keeping s) (come_to-few Keeping s h))))
noted-few (Forgotten key) s h = late _ (forgotten_by-few key s h)
noted-few (Evicted key tag n i) s h = late _ (evicted-few _ (come_to-few Evicting s h))
noted-few (Loaded key tag n i) s h = late _ (load-few key i s h)

pub after-few : {m l : ℕ} (s : State) (h : Happening) → IsPermitted s h → Few m l s → Few (m + 65536) (l + 256) (after s h)
unfolding changed
after-few {m} {l} s (Woke image) is h = woken-few (m + 65536) (l + 256) image s
after-few s (Waits w) is h = late _ (rest_with-few w _ (ending-few s h))
after-few s (Clock seconds) is h = late _ (event-few _ (tick-few seconds s h))
after-few s (Opened n) is h = late _ (event-few _ (opened-few n s (opened_so s n is).1 h))
after-few s (CanRead n) is h = late _ (owing-few (ReadOf n) n s h)
after-few s (CanWrite n) is h = late _ (owing-few (WriteTo n) n s h)
after-few s (Heard c bytes) is h = asked_on _ (paid-few _ (hear-few c bytes s h))
after-few s (HungUp c) is h = asked_on _ (paid-few _ (hang_up-few c s h))
after-few s (Said c offered bytes) is h = asked_on _ (paid-few _ (said-few c (length bytes) s h))
after-few s (Shut c) is h = late _ (shut-few c _ (come_to-few Connecting s h))
after-few s (Dialled n host port) is h = late _ (dialled-few n host port (placing (come_to Connecting s)) (placing-few _ (come_to-few Connecting s h)))
after-few s (Undialled host port) is h = late _ (undialled-few (placing (come_to Connecting s)) (placing-few _ (come_to-few Connecting s h)))
after-few s (Reached n) is h = late _ (event-few _ (reached-few n s h))
after-few s (Ended n) is h = asked_on _ (paid-few _ (gone-few true n s h))
after-few s (Broke n) is h = asked_on _ (paid-few _ (gone-few false n _ (event-few s h)))
after-few s (Asked n bytes) is h = late _ (paid-few _ (ask-few n (length bytes) s h))
after-few {m} {l} s (Got n bytes) is h =
    raise (m + 65536) (l + 256) _ (sums m (length bytes) (read_short s n bytes is)) (le_refl (l + 256)) (paid-few _ (end_replies-few _ (got-few (length bytes) n bytes s h)))
  where
    sums : (a b : ℕ) → b ≤ 32768 → a + 2 * b ≤ a + 65536
    sums a b le = omega arith
after-few s (Dropped n) is h = late _ (dropped-few n _ (come_to-few Connecting s h))
after-few s (NoneYet n) is h = late _ (paid-few s h)
after-few s (Began op) is h = late _ (begun_op-few op s h)
after-few s (Did op ok) is h = late _ (ended_op-few op ok s h)
after-few s (Unread name) is h = late _ (unread-few name s h)
after-few s (Noted remark) is h = noted-few remark s h
after-few s (Rooted folder) is h = late _ (opened_to-few IsRooted true s h)
after-few s (Listed ok) is h = late _ (opened_to-few IsListed ok s h)
after-few s (Listens port ok) is h = late _ (opened_to-few IsListening ok s h)
after-few s (Configured file text) is h = late _ (configured-few text s h)
after-few s (Printed text) is h = late s h
after-few s Stopped is h = late _ (event-few _ (few (facts_of h)))
