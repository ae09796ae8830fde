-- Each happening of a lawful log keeps what holds of the disk, and what is loaded was sent.
use Rattle.std.proofs.Common.{◌≡◌, ◌⊎◌, ⊎_elim, refl, ℕ, ◌+◌, ◌≤◌, Bool, true, false, not, ◌==◌, ◌&&◌, ◌||◌, List, [], ◌∷◌, ◌++◌, length, map, nat_le, Option, Some, None, Result, Ok, Err, inl, inr, sym, subst, ap, ◌∙◌, arith}
use Rattle.std.specs.Prelude.{is_some}
use Rattle.std.specs.List.{list_any}
use Rattle.pp_text.specs.Bytes.{is_empty}
use Rattle.pp_world.specs.declared.happening.Happening.{Happening}
use Rattle.pp_world.specs.declared.happening.Happening.TheVariants.{Woke, Waits, Clock, Opened, CanRead, CanWrite, Heard, HungUp, Said, Shut, Dialled, Undialled, Reached, Ended, Broke, Asked, Got, Dropped, NoneYet, Began, Did, Unread, Noted, Rooted, Listed, Listens, Configured, Printed, Stopped}
use Rattle.pp_world.specs.declared.note.Remark.TheVariants.{Taken, Cut, Kept as NotedKept, Gone, Forgotten, Evicted, Loaded}
use Rattle.pp_world.specs.declared.op.DiskOp.{DiskOp}
use Rattle.pp_law.specs.After.{begun_op, changed, dialled, dropped, ended_op, forgotten_by, leave_memory, new_conn, noted, refused_dial, undialled}
use Rattle.pp_law.specs.Connections.{lose_attempt, Pause, AllPlaced, WaitsDial, WaitsDrop, conn, may_ask_again, placing, put_on}
use Rattle.pp_law.specs.Leaving.{Leaving, ForAnother, ForMemory, BeforeDecision, leaving_as}
use Rattle.pp_law.specs.Lists.{Bytes}
use Rattle.pp_conf.specs.Conf.{Settings}
use Rattle.pp_conf.specs.Words.{Refusal, Told, Serves, ShowsDemo, reading_of}
use Rattle.pp_world.specs.Disk.{is_rising}
use Rattle.pp_world.specs.Files.{Files}
use Rattle.pp_world.specs.declared.note.Decision.{Decision}
use Rattle.pp_law.specs.Asking.{is_reading, is_writing}
use Rattle.pp_law.specs.Deciding.{is_for_memory}
use Rattle.pp_law.specs.Entries.{entries_in}
use Rattle.pp_law.specs.Opening.{are_texts, begun, configured, is_at, is_opening, is_recovered, is_same_phase, may_fail, names_file, opened_to, permits_configured, permits_image, permits_listens, permits_woke, settings_in, stuck, with_settings, woken}
use Rattle.pp_law.specs.Permits.{is_permitted, IsPermitted, permits, permits_behind_forgotten, permits_began, permits_broke, permits_noted, permits_taken, has_conn, may_cut, may_take, may_wait}
use Rattle.pp_law.specs.Phases.{come_to, come_to_decide, decides, is_awaiting, may_decide, may_end, may_in}
use Rattle.pp_law.specs.Repairs.{begin_in_opening, has_stray_gates, may_begin_in_opening}
use Rattle.pp_law.specs.State.{State, no_agenda, Exchange, Phase, Before, Awaiting, Deciding, DecidingAgain, Following, Handling, Evicting, Keeping, Connecting, IsWoken, IsConfigured, IsRooted, IsStuck, IsListening, IsListed, Free, ReadOf, WriteTo}
use Rattle.pp_law.specs.Store.{begin_in_turn, load, load_from, may_begin_in_turn, may_end_op}
use Rattle.pp_law.specs.Table.{kept_row, row}
pub use Rattle.pp_laws_crash.specs.Changes.{changes_disk}
use Rattle.pp_laws_crash.proofs.Frames.{Kept, OwedIn, kept, kept_self, parts_of, recovers, takes_turns, when, each_of}
use Rattle.pp_laws_crash.proofs.KeptTable.{close_client-kept, end_exchange-kept, forget-kept, lose_attempt-kept, note_use-kept, placing-kept, put_on-kept}
use Rattle.pp_laws_crash.proofs.KeptExchanges.{fill-kept, got-kept}
use Rattle.pp_laws_crash.proofs.KeptTurns.{ask-kept, come_to-kept, come_to_decide-kept, deciding-kept, end_replies-kept, ending-kept, event-kept, evicted-kept, gone-kept, hang_up-kept, hear-kept, opened-kept, out-kept, owing-kept, paid-kept, reached-kept, refused_row-kept, rest_with-kept, said-kept, shut-kept, take_decision-kept, tick-kept}
use Rattle.pp_laws_crash.proofs.Standing.{at_Awaiting, at_IsListening, at_DecidingAgain, at_Deciding, at_Keeping, at_IsListed, at_IsWoken, at_IsConfigured, at_IsRooted, opening_still, turns_recover_not}
use Rattle.pp_laws_crash.proofs.Begins.{not_true}
use Rattle.pp_laws_crash.proofs.Inv.{AtRest, InvOf, idle}
use Rattle.pp_laws_crash.proofs.Runs64.{few_read}
use Rattle.pp_laws_crash.proofs.Waking.{BackedImage, first_backed, left_backed, woken_rest}
use Rattle.pp_laws_crash.proofs.Repairing.{opening_step, recovered}
use Rattle.pp_laws_crash.proofs.Steps.{HoldsAll, Inv, at_rest_of, done_step, empty_is, idle_is, under_is, failed_step, gone_step, inv_kept, kept_step, turn_step, unread_step}
use Rattle.pp_laws.proofs.Tests.{first_holds, second_holds}

-- ---- more that keeps what the disk is about

dialled_at : {o : State} (n : ℕ) (host : Bytes) (port : ℕ) (s : State) (pause : Pause) → Kept o s
    → Kept o (elim pause as (λ c. State) [
      | AllPlaced ↦ s
      | WaitsDrop k e ↦ s
      | WaitsDial e ↦ put_on e.number n (record s { conns = s.conns ++ new_conn n host port s.clock ∷ []; top = n })
    ])
dialled_at n host port s AllPlaced h = h
dialled_at n host port s (WaitsDrop k e) h = h
dialled_at n host port s (WaitsDial e) h = put_on-kept e.number n _ (kept (parts_of h))

dialled-kept : {o : State} (n : ℕ) (host : Bytes) (port : ℕ) (s : State) → Kept o s → Kept o (dialled n host port (placing s))
unfolding dialled
dialled-kept n host port s h = dialled_at n host port (placing s).state (placing s).pause (placing-kept s h)

refused_dial-kept : {o : State} (e : Exchange) (s : State) → Kept o s → Kept o (refused_dial e s)
unfolding refused_dial
refused_dial-kept e s h = when (may_ask_again s e.number) h (fill-kept _ (end_exchange-kept e.number s h))

undialled_at : {o : State} (s : State) (pause : Pause) → Kept o s
    → Kept o (elim pause as (λ c. State) [ AllPlaced ↦ s | WaitsDrop k e ↦ s | WaitsDial e ↦ refused_dial e (lose_attempt e (record s { failures = s.failures + 1 })) ])
undialled_at s AllPlaced h = h
undialled_at s (WaitsDrop k e) h = h
undialled_at {o} s (WaitsDial e) h = refused_dial-kept e _ lost
  where
    lost : Kept o (lose_attempt e (record s { failures = s.failures + 1 }))
    lost = lose_attempt-kept e _ (kept (parts_of h))

undialled-kept : {o : State} (s : State) → Kept o s → Kept o (undialled (placing s))
unfolding undialled
undialled-kept s h = undialled_at (placing s).state (placing s).pause (placing-kept s h)

dropped-kept : {o : State} (n : ℕ) (s : State) → Kept o s → Kept o (dropped n s)
unfolding dropped
dropped-kept n s h = each_of (conn s n) h (λ k. when k.is_closing (out-kept n s h) (out-kept n _ (placing-kept s h)))

leave_memory-kept : {o : State} (how : Leaving) (s : State) → Kept o s → Kept o (leave_memory how s)
unfolding leave_memory
leave_memory-kept ForAnother s h = kept (parts_of (come_to-kept Evicting s h))
leave_memory-kept (ForMemory x) s h = refused_row-kept x _ (come_to-kept Evicting s h)
leave_memory-kept (BeforeDecision x) s h = kept (parts_of (forget-kept x.id _ (come_to_decide-kept s h)))

forgotten_by-kept : {o : State} (key : Bytes) (s : State) → Kept o s → Kept o (forgotten_by key s)
unfolding forgotten_by
forgotten_by-kept key s h = each_of (leaving_as s key) h (λ how. leave_memory-kept how s h)

load-kept : {o : State} (key : Bytes) (i : ℕ) (s : State) → Kept o s → Kept o (load key i s)
unfolding load load_from
load-kept key i s h = each_of (row s key) h (λ x. each_of (kept_row s key) h (λ e. note_use-kept _ (kept (parts_of h))))

-- ---- where a life stands

awaiting : (s : State) → is_awaiting s ≡ true → s.phase ≡ Awaiting
awaiting s is = at_Awaiting s.phase is

awaits : (s : State) → is_awaiting s ≡ true → recovers s.phase ≡ false
awaits s is = ap recovers (awaiting s is)

pub in_so : (t : State) (phase : Phase) (at test : Bool) → (elim at as (λ c. Bool) [ true ↦ test | false ↦ false ]) ≡ true → at ≡ true
in_so t phase true test is = refl
in_so t phase false test is = absurd (cc is)

pub test_so : (at test : Bool) → (elim at as (λ c. Bool) [ true ↦ test | false ↦ false ]) ≡ true → test ≡ true
test_so true test is = is
test_so false test is = absurd (cc is)

pub come_from : (phase : Phase) (s : State) → OwedIn s.phase s.owed → recovers (come_to phase s).phase ≡ false → recovers s.phase ≡ false
come_from phase s owed is = sym (parts_of (come_to-kept phase s (kept_self s owed))).recovers_is ∙ is

decides_at : (t : State) (at done again : Bool) → is_at Deciding t ≡ at → is_at DecidingAgain t ≡ again → (elim at as (λ c. Bool) [ true ↦ done | false ↦ again ]) ≡ true → recovers t.phase ≡ false
decides_at t true done again one two is = ap recovers (at_Deciding t.phase one)
decides_at t false done again one two is = ap recovers (at_DecidingAgain t.phase (two ∙ is))

deciding_at : (s : State) (test : State → Bool) → may_decide test s ≡ true → recovers (come_to_decide s).phase ≡ false
deciding_at s test is = decides_at (come_to_decide s) (is_at Deciding (come_to_decide s)) (not _) (is_at DecidingAgain (come_to_decide s)) refl refl (in_so s Deciding (decides (come_to_decide s)) (test (come_to_decide s)) is)

-- ---- what is permitted

permitted_by : (room : Option ℕ) (plain behind : Bool) → behind ≡ false → (elim room as (λ c. Bool) [ Some who ↦ behind | None ↦ plain ]) ≡ true → plain ≡ true
permitted_by (Some who) plain behind none is = let both : false ≡ true = sym none ∙ is in absurd (cc both)
permitted_by None plain behind none is = is

-- but for those that may come behind a row that left memory for a decision
pub permitted : (s : State) (h : Happening) → permits_behind_forgotten s h ≡ false → IsPermitted s h → permits s h ≡ true
unfolding is_permitted
permitted s h none is = permitted_by s.made_room_for (permits s h) (permits_behind_forgotten s h) none is

-- ---- notes

kept_inv : (s : State) (key tag : Bytes) (n extent : ℕ) → permits_noted s (NotedKept key tag n extent) ≡ true → Inv s → Inv (noted (NotedKept key tag n extent) s)
unfolding noted
kept_inv s key tag n extent is h = kept_step key tag n extent s (first_holds (not (is_some s.under_way)) _ is) (second_holds (not (is_some s.under_way)) _ is) h

-- what is permitted of a row that is gone
pub record MayGo (s : State) (key : Bytes) : Type 0 where
  pub turns : recovers (come_to Keeping s).phase ≡ false
  pub takes : takes_turns (come_to Keeping s).phase ≡ true
  pub idle_so : not (is_some (come_to Keeping s).under_way) ≡ true
  pub empty : is_empty (come_to Keeping s).agenda.todo ≡ true

pub may_go : (s : State) (key : Bytes) → permits_noted s (Gone key) ≡ true → MayGo s key
may_go s key is =
    let t : State = come_to Keeping s in
    let test = test_so (is_at Keeping t) _ is in
    let rest = first_holds (not (is_some t.under_way) && is_empty t.agenda.todo) _ test in
    record {
      turns = ap recovers (at_Keeping t.phase (in_so s Keeping (is_at Keeping t) _ is));
      takes = ap takes_turns (at_Keeping t.phase (in_so s Keeping (is_at Keeping t) _ is));
      idle_so = first_holds (not (is_some t.under_way)) _ rest;
      empty = second_holds (not (is_some t.under_way)) _ rest;
    }

gone_inv : (s : State) (key : Bytes) → permits_noted s (Gone key) ≡ true → Inv s → Inv (noted (Gone key) s)
unfolding noted
gone_inv s key is h =
    let go = may_go s key is in
    gone_step key (come_to Keeping s) go.turns go.idle_so go.empty (inv_kept s _ (come_to-kept Keeping s (kept_self s h.owed)) h)

-- ---- operations

pub either_is : (a b : Bool) → (a || b) ≡ true → (a ≡ true) ⊎ (b ≡ true)
either_is true b is = inl refl
either_is false b is = inr is

pub opens_not : (s : State) → s.phase ≡ Keeping → is_opening s ≡ false
opens_not s is = ap (λ q. list_any (λ p. is_same_phase p q) (IsWoken ∷ IsConfigured ∷ IsRooted ∷ IsListed ∷ IsListening ∷ IsStuck ∷ [])) is

pub listed_opens : (s : State) → s.phase ≡ IsListed → is_opening s ≡ true
listed_opens s is = ap (λ q. list_any (λ p. is_same_phase p q) (IsWoken ∷ IsConfigured ∷ IsRooted ∷ IsListed ∷ IsListening ∷ IsStuck ∷ [])) is

starts_by : (s : State) (op : DiskOp) (opens : Bool) → is_opening s ≡ opens → HoldsAll (come_to Keeping s) → permits_began s op ≡ true → Inv s → Inv (elim opens as (λ c. State) [ true ↦ begin_in_opening op s | false ↦ begin_in_turn op (come_to Keeping s) ])
starts_by s op true opens held is h = ⊎_elim
    (λ (listed : (is_at IsListed s && may_begin_in_opening op s) ≡ true). opening_step s (ap recovers (at_IsListed s.phase (first_holds (is_at IsListed s) _ listed)))
    (first_holds (not (is_some s.under_way)) _ (second_holds (is_at IsListed s) _ listed)) h op)
    (λ (turns : may_in Keeping (may_begin_in_turn op) s ≡ true). absurd (not_keeping turns))
    (either_is (is_at IsListed s && may_begin_in_opening op s) _ is)
  where
    not_keeping : may_in Keeping (may_begin_in_turn op) s ≡ true → ⊥
    not_keeping turns =
        let there : is_at Keeping (come_to Keeping s) ≡ true = in_so s Keeping (is_at Keeping (come_to Keeping s)) _ turns in
        let phase : s.phase ≡ Keeping = sym (ap (λ (t : State). t.phase) (opening_still Keeping s opens)) ∙ at_Keeping (come_to Keeping s).phase there in
        let both : false ≡ true = sym (opens_not s phase) ∙ opens in
        cc both
starts_by s op false opens held is h = ⊎_elim
    (λ (listed : (is_at IsListed s && may_begin_in_opening op s) ≡ true). absurd (not_listed (first_holds (is_at IsListed s) _ listed)))
    (λ (turns : may_in Keeping (may_begin_in_turn op) s ≡ true).
    let t : State = come_to Keeping s in
    let ht : Inv t = inv_kept s t (come_to-kept Keeping s (kept_self s h.owed)) h in
    turn_step op t held (ap recovers (at_Keeping t.phase (in_so s Keeping (is_at Keeping t) _ turns))) (first_holds (not (is_some t.under_way)) _ (test_so (is_at Keeping t) _ turns)) ht)
    (either_is (is_at IsListed s && may_begin_in_opening op s) _ is)
  where
    not_listed : is_at IsListed s ≡ true → ⊥
    not_listed listed = let both : true ≡ false = sym (listed_opens s (at_IsListed s.phase listed)) ∙ opens in cc both

begun_op_inv : (s : State) (op : DiskOp) → HoldsAll (come_to Keeping s) → permits_began s op ≡ true → Inv s → Inv (begun_op op s)
unfolding begun_op
begun_op_inv s op held is h = starts_by s op (is_opening s) refl held is h

-- ---- the opening

same_phase_kept : (s : State) (phase : Phase) → recovers phase ≡ recovers s.phase → OwedIn phase s.owed → Inv s → Inv (record s { phase = phase })
same_phase_kept s phase recovering owed h = record {
  disk = subst (λ r. InvOf s.sent s.disk s.agenda s.under_way s.closed_names r s.entries) (sym recovering) h.disk;
  owed = owed;
  few = h.few;
}

owed_free : (s : State) → takes_turns s.phase ≡ false → OwedIn s.phase s.owed → s.owed ≡ Free
owed_free s opens owed = owed opens

-- what failed in the opening is the last of it
stuck_inv : (s : State) → recovers s.phase ≡ true → s.owed ≡ Free → Inv s → Inv (stuck s)
unfolding stuck
stuck_inv s recovering free h = record {
  disk = subst (λ r. InvOf s.sent s.disk s.agenda s.under_way s.closed_names r s.entries) recovering h.disk;
  owed = λ isnt. free;
  few = h.few;
}

opened_to_inv : (s : State) (phase : Phase) (ok : Bool) → recovers s.phase ≡ true → recovers phase ≡ true → s.owed ≡ Free → Inv s → Inv (opened_to phase ok s)
unfolding opened_to
opened_to_inv s phase true recovering after free h = same_phase_kept s phase (after ∙ sym recovering) (λ isnt. free) h
opened_to_inv s phase false recovering after free h = stuck_inv s recovering free h

-- it listens: each gate that stood open for nothing was closed
listens_inv : (s : State) (ok : Bool) → recovers s.phase ≡ true → s.owed ≡ Free → is_recovered s ≡ true → Inv s → Inv (opened_to IsListening ok s)
unfolding opened_to
listens_inv s true recovering free is h =
    let rest = first_holds (not (is_some s.under_way) && is_empty s.agenda.todo) _ is in
    let none = not_true (list_any (has_stray_gates s) s.entries) (second_holds (not (is_some s.under_way) && is_empty s.agenda.todo) _ is) in
    let idle_so = first_holds (not (is_some s.under_way)) _ rest in
    let empty = second_holds (not (is_some s.under_way)) _ rest in
    record {
      disk = subst (λ u. InvOf s.sent s.disk s.agenda u s.closed_names false s.entries) (sym (idle_is s.under_way idle_so))
          (idle (recovered s none (subst (λ r. AtRest s.sent s.disk s.closed_names r s.entries) recovering (at_rest_of s idle_so empty h))) s.agenda (empty_is s.agenda.todo empty));
      owed = λ isnt. free;
      few = h.few;
    }
listens_inv s false recovering free is h = stuck_inv s recovering free h

-- settings that words and text give
few_given : (r : Result Told Refusal) (c : Settings) → settings_in r ≡ Some c → ((d : Settings) → r ≡ Ok (Serves d) → d.disk_run ≤ 64) → c.disk_run ≤ 64
few_given (Ok (Serves d)) c is each = let same : d ≡ c = cc is in subst (λ (x : Settings). x.disk_run ≤ 64) same (each d refl)
few_given (Ok (ShowsDemo seed)) c is each = absurd (cc is)
few_given (Err refusal) c is each = absurd (cc is)

with_settings_inv : (s : State) (o : Option Settings) → recovers s.phase ≡ true → s.owed ≡ Free → ((c : Settings) → o ≡ Some c → c.disk_run ≤ 64) → Inv s → Inv (with_settings o s)
unfolding with_settings
with_settings_inv s None recovering free few h = same_phase_kept s IsStuck (sym recovering) (λ isnt. free) h
with_settings_inv s (Some c) recovering free few h = record {
  disk = subst (λ r. InvOf s.sent s.disk s.agenda s.under_way s.closed_names r s.entries) recovering h.disk;
  owed = λ isnt. free;
  few = few c refl;
}

reading_few : (words : List Bytes) (text : Option Bytes) (c : Settings) → settings_in (reading_of words text) ≡ Some c → c.disk_run ≤ 64
reading_few words text c is = few_given (reading_of words text) c is (λ d eq. few_read words text d eq)

configured_inv : (s : State) (text : Option Bytes) → recovers s.phase ≡ true → s.owed ≡ Free → Inv s → Inv (configured text s)
unfolding configured
configured_inv s None recovering free h = stuck_inv s recovering free h
configured_inv s (Some text) recovering free h = with_settings_inv s (settings_in (reading_of s.term.words (Some text))) recovering free (reading_few s.term.words (Some text)) h

-- ---- a life begins

begun_by : (s : State) (texts names : Bool) → InvOf s.sent s.disk s.agenda s.under_way s.closed_names true s.entries → s.owed ≡ Free → s.settings.disk_run ≤ 64
    → Inv (elim texts as (λ c. State) [
      | false ↦ with_settings None s
      | true ↦ elim names as (λ c. State) [ true ↦ record s { phase = IsWoken } | false ↦ with_settings (settings_in (reading_of s.term.words None)) s ]
    ])
unfolding with_settings
begun_by s false names i free few = record { disk = i; owed = λ isnt. free; few = few }
begun_by s true true i free few = record { disk = i; owed = λ isnt. free; few = few }
begun_by s true false i free few = by (settings_in (reading_of s.term.words None)) refl
  where
    by : (o : Option Settings) → settings_in (reading_of s.term.words None) ≡ o → Inv (with_settings o s)
    by None is = record { disk = i; owed = λ isnt. free; few = few }
    by (Some c) is = record { disk = i; owed = λ isnt. free; few = reading_few s.term.words None c is }

begun_inv : (s : State) → InvOf s.sent s.disk s.agenda s.under_way s.closed_names true s.entries → s.owed ≡ Free → s.settings.disk_run ≤ 64 → Inv (begun s)
unfolding begun
begun_inv s i free few = begun_by s (are_texts s.term) (names_file s.term) i free few

pub sixteen : 16 ≤ 64
sixteen = omega arith

woken_inv : (image : Files) (s : State) → is_rising (map (λ file. file.0) image) ≡ true → BackedImage s.sent image → Inv (woken image s)
unfolding woken
woken_inv image s rising backed = begun_inv _ (idle (woken_rest s.sent image rising backed) no_agenda refl) refl sixteen

first_by : (s : State) (image : Files) (phase : Phase) → s.phase ≡ phase → permits_image phase s.disk image ≡ true → Inv s → BackedImage s.sent image
first_by s image Before is may h = first_backed s.sent image (empty_is (entries_in image) (second_holds (nat_le (length image) 1000) _ may))
first_by s image IsWoken is may h = left_backed s.sent s.disk image (λ name. h.disk.backed name) may
first_by s image IsConfigured is may h = left_backed s.sent s.disk image (λ name. h.disk.backed name) may
first_by s image IsRooted is may h = left_backed s.sent s.disk image (λ name. h.disk.backed name) may
first_by s image IsListed is may h = left_backed s.sent s.disk image (λ name. h.disk.backed name) may
first_by s image IsListening is may h = left_backed s.sent s.disk image (λ name. h.disk.backed name) may
first_by s image IsStuck is may h = left_backed s.sent s.disk image (λ name. h.disk.backed name) may
first_by s image Awaiting is may h = left_backed s.sent s.disk image (λ name. h.disk.backed name) may
first_by s image Handling is may h = left_backed s.sent s.disk image (λ name. h.disk.backed name) may
first_by s image Evicting is may h = left_backed s.sent s.disk image (λ name. h.disk.backed name) may
first_by s image Keeping is may h = left_backed s.sent s.disk image (λ name. h.disk.backed name) may
first_by s image Deciding is may h = left_backed s.sent s.disk image (λ name. h.disk.backed name) may
first_by s image Following is may h = left_backed s.sent s.disk image (λ name. h.disk.backed name) may
first_by s image Connecting is may h = left_backed s.sent s.disk image (λ name. h.disk.backed name) may
first_by s image DecidingAgain is may h = left_backed s.sent s.disk image (λ name. h.disk.backed name) may

woke_inv : (s : State) (image : Files) → permits_woke s image ≡ true → Inv s → Inv (woken image s)
woke_inv s image may h = woken_inv image s (first_holds (is_rising (map (λ file. file.0) image)) _ may) (first_by s image s.phase refl (second_holds (is_rising (map (λ file. file.0) image)) _ may) h)

-- ---- all

owed_turns : (s : State) (n : ℕ) (turns : Bool) → takes_turns s.phase ≡ turns → OwedIn s.phase s.owed → (is_reading s.owed n || is_writing s.owed n) ≡ true → recovers s.phase ≡ false
owed_turns s n true is owed may = turns_recover_not s.phase is
owed_turns s n false is owed may = let none : false ≡ true = sym (ap (λ o. is_reading o n || is_writing o n) (owed is)) ∙ may in absurd (cc none)

broke_turns : (s : State) (n : ℕ) → OwedIn s.phase s.owed → permits_broke s n ≡ true → recovers s.phase ≡ false
broke_turns s n owed may = ⊎_elim (λ (is : is_awaiting s ≡ true). awaits s is) (λ (is : (is_reading s.owed n || is_writing s.owed n) ≡ true). owed_turns s n (takes_turns s.phase) refl owed is) (either_is (is_awaiting s) _ (second_holds (has_conn s n) _ may))

ends_turns : (s : State) → OwedIn s.phase s.owed → may_wait s ≡ true → recovers s.phase ≡ false
ends_turns s owed may = ⊎_elim
    (λ (is : is_at IsListening s ≡ true). ap recovers (at_IsListening s.phase is))
    (λ (is : (not s.is_stopped && may_end s) ≡ true). come_from DecidingAgain s owed (ap recovers (at_DecidingAgain (come_to DecidingAgain s).phase (in_so s DecidingAgain (is_at DecidingAgain (come_to DecidingAgain s)) _ (second_holds (not s.is_stopped) _ is)))))
    (either_is (is_at IsListening s) _ may)

taken_by : (s : State) (c i : ℕ) (d : Decision) (room : Option ℕ) → (elim room as (λ x. Bool) [ Some who ↦ permits_taken s c i d && not (is_for_memory d) | None ↦ permits_taken s c i d ]) ≡ true → permits_taken s c i d ≡ true
taken_by s c i d (Some who) is = first_holds (permits_taken s c i d) _ is
taken_by s c i d None is = is

taken_so : (s : State) (c i : ℕ) (d : Decision) → IsPermitted s (Noted (Taken c i d)) → permits_taken s c i d ≡ true
unfolding is_permitted permits
taken_so s c i d is = taken_by s c i d s.made_room_for is

woke_by : (s : State) (image : Files) (room : Option ℕ) → (elim room as (λ x. Bool) [ Some who ↦ permits_woke s image | None ↦ permits_woke s image ]) ≡ true → permits_woke s image ≡ true
woke_by s image (Some who) is = is
woke_by s image None is = is

pub woke_so : (s : State) (image : Files) → IsPermitted s (Woke image) → permits_woke s image ≡ true
unfolding is_permitted permits
woke_so s image is = woke_by s image s.made_room_for is

did_inv_so : (s : State) (op : DiskOp) (ok : Bool) → may_end_op s op ≡ true → Inv s → Inv (ended_op op ok s)
did_inv_so s op true may h = done_step s op h (under_is op s.under_way may)
did_inv_so s op false may h = failed_step s op h (under_is op s.under_way may)

-- from a state that is as another was
module _ {o : State} (s : State) (owed : OwedIn s.phase s.owed) (was : Kept o s) where
  self : Kept s s
  self = kept_self s owed

  pub changed_on : (happening : Happening) → changes_disk happening ≡ false → IsPermitted s happening → Kept o (changed s happening)
  unfolding changed permits noted
  changed_on (Waits w) still is = rest_with-kept w _ ((parts_of (ending-kept s self)).recovers_is ∙ ends_turns s owed (in_so s Awaiting (may_wait s) _ (permitted s (Waits w) refl is))) (ending-kept s was)
  changed_on (Clock seconds) still is = event-kept _ ((parts_of (tick-kept seconds s self)).recovers_is ∙ awaits s (permitted s (Clock seconds) refl is)) (tick-kept seconds s was)
  changed_on (Opened n) still is = event-kept _ ((parts_of (opened-kept n s self)).recovers_is ∙ awaits s (first_holds (is_awaiting s) _ (permitted s (Opened n) refl is))) (opened-kept n s was)
  changed_on (CanRead n) still is = let at = awaiting s (permitted s (CanRead n) refl is) in event-kept _ ((parts_of (owing-kept (ReadOf n) n s at self)).recovers_is ∙ ap recovers at) (owing-kept (ReadOf n) n s at was)
  changed_on (CanWrite n) still is = let at = awaiting s (permitted s (CanWrite n) refl is) in event-kept _ ((parts_of (owing-kept (WriteTo n) n s at self)).recovers_is ∙ ap recovers at) (owing-kept (WriteTo n) n s at was)
  changed_on (Heard c bytes) still is = paid-kept _ (hear-kept c bytes s was)
  changed_on (HungUp c) still is = paid-kept _ (hang_up-kept c s was)
  changed_on (Said c offered bytes) still is = paid-kept _ (said-kept c (length bytes) s was)
  changed_on (Shut c) still is = shut-kept c _ (come_to-kept Connecting s was)
  changed_on (Dialled n host port) still is = dialled-kept n host port (come_to Connecting s) (come_to-kept Connecting s was)
  changed_on (Undialled host port) still is = undialled-kept (come_to Connecting s) (come_to-kept Connecting s was)
  changed_on (Reached k) still is = event-kept _ ((parts_of (reached-kept k s self)).recovers_is ∙ awaits s (first_holds (is_awaiting s) _ (permitted s (Reached k) refl is))) (reached-kept k s was)
  changed_on (Ended k) still is = paid-kept _ (gone-kept true k s was)
  changed_on (Broke k) still is = paid-kept _ (gone-kept false k _ (event-kept s (broke_turns s k owed (permitted s (Broke k) refl is)) was))
  changed_on (Asked k bytes) still is = paid-kept _ (ask-kept k (length bytes) s was)
  changed_on (Got k bytes) still is = paid-kept _ (end_replies-kept _ (got-kept (length bytes) k bytes s was))
  changed_on (Dropped k) still is = dropped-kept k _ (come_to-kept Connecting s was)
  changed_on (NoneYet n) still is = paid-kept s was
  changed_on Stopped still is = event-kept (record s { is_stopped = true }) (awaits s (permitted s Stopped refl is)) (kept (parts_of was))
  changed_on (Noted (Taken c i d)) still is = take_decision-kept c d _ (deciding-kept s (deciding_at s (λ t. may_take t c i d) (taken_so s c i d is)) was)
  changed_on (Noted (Cut c cause)) still is = close_client-kept c true _ (deciding-kept s (deciding_at s (λ t. may_cut t c cause) (permitted s (Noted (Cut c cause)) refl is)) was)
  changed_on (Noted (Forgotten key)) still is = forgotten_by-kept key s was
  changed_on (Noted (Evicted key tag n i)) still is = evicted-kept _ (come_to-kept Evicting s was)
  changed_on (Noted (Loaded key tag n i)) still is = load-kept key i s was
  changed_on (Printed text) still is = was
  changed_on (Woke image) still is = absurd (cc still)
  changed_on (Began op) still is = absurd (cc still)
  changed_on (Did op ok) still is = absurd (cc still)
  changed_on (Unread name) still is = absurd (cc still)
  changed_on (Noted (NotedKept key tag n extent)) still is = absurd (cc still)
  changed_on (Noted (Gone key)) still is = absurd (cc still)
  changed_on (Rooted folder) still is = absurd (cc still)
  changed_on (Listed ok) still is = absurd (cc still)
  changed_on (Listens port ok) still is = absurd (cc still)
  changed_on (Configured file text) still is = absurd (cc still)

pub changed_kept : (s : State) (owed : OwedIn s.phase s.owed) (happening : Happening) → changes_disk happening ≡ false → IsPermitted s happening → Kept s (changed s happening)
changed_kept s owed happening still is = changed_on s owed (kept_self s owed) happening still is

module _ (s : State) (h : Inv s) where
  pub changed_inv : (happening : Happening) → HoldsAll (come_to Keeping s) → IsPermitted s happening → Inv (changed s happening)
  unfolding changed permits
  changed_inv (Woke image) held is = woke_inv s image (woke_so s image is) h
  changed_inv (Waits w) held is = inv_kept s _ (changed_kept s h.owed (Waits w) refl is) h
  changed_inv (Clock seconds) held is = inv_kept s _ (changed_kept s h.owed (Clock seconds) refl is) h
  changed_inv (Opened n) held is = inv_kept s _ (changed_kept s h.owed (Opened n) refl is) h
  changed_inv (CanRead n) held is = inv_kept s _ (changed_kept s h.owed (CanRead n) refl is) h
  changed_inv (CanWrite n) held is = inv_kept s _ (changed_kept s h.owed (CanWrite n) refl is) h
  changed_inv (Heard c bytes) held is = inv_kept s _ (changed_kept s h.owed (Heard c bytes) refl is) h
  changed_inv (HungUp c) held is = inv_kept s _ (changed_kept s h.owed (HungUp c) refl is) h
  changed_inv (Said c offered bytes) held is = inv_kept s _ (changed_kept s h.owed (Said c offered bytes) refl is) h
  changed_inv (Shut c) held is = inv_kept s _ (changed_kept s h.owed (Shut c) refl is) h
  changed_inv (Dialled n host port) held is = inv_kept s _ (changed_kept s h.owed (Dialled n host port) refl is) h
  changed_inv (Undialled host port) held is = inv_kept s _ (changed_kept s h.owed (Undialled host port) refl is) h
  changed_inv (Reached k) held is = inv_kept s _ (changed_kept s h.owed (Reached k) refl is) h
  changed_inv (Ended k) held is = inv_kept s _ (changed_kept s h.owed (Ended k) refl is) h
  changed_inv (Broke k) held is = inv_kept s _ (changed_kept s h.owed (Broke k) refl is) h
  changed_inv (Asked k bytes) held is = inv_kept s _ (changed_kept s h.owed (Asked k bytes) refl is) h
  changed_inv (Got k bytes) held is = inv_kept s _ (changed_kept s h.owed (Got k bytes) refl is) h
  changed_inv (Dropped k) held is = inv_kept s _ (changed_kept s h.owed (Dropped k) refl is) h
  changed_inv (NoneYet n) held is = inv_kept s _ (changed_kept s h.owed (NoneYet n) refl is) h
  changed_inv (Began op) held is = begun_op_inv s op held (permitted s (Began op) refl is) h
  changed_inv (Did op ok) held is = did_inv_so s op ok (first_holds (may_end_op s op) _ (permitted s (Did op ok) refl is)) h
  changed_inv (Unread name) held is =
      let may = second_holds (may_fail s false) _ (permitted s (Unread name) refl is) in
      let rest = first_holds (not (is_some s.under_way) && is_empty s.agenda.todo) _ may in
      unread_step name s (first_holds (not (is_some s.under_way)) _ rest) (second_holds (not (is_some s.under_way)) _ rest) h
  changed_inv (Noted (Taken c i d)) held is = inv_kept s _ (changed_kept s h.owed (Noted (Taken c i d)) refl is) h
  changed_inv (Noted (Cut c cause)) held is = inv_kept s _ (changed_kept s h.owed (Noted (Cut c cause)) refl is) h
  changed_inv (Noted (NotedKept key tag n extent)) held is = kept_inv s key tag n extent (permitted s (Noted (NotedKept key tag n extent)) refl is) h
  changed_inv (Noted (Gone key)) held is = gone_inv s key (permitted s (Noted (Gone key)) refl is) h
  changed_inv (Noted (Forgotten key)) held is = inv_kept s _ (changed_kept s h.owed (Noted (Forgotten key)) refl is) h
  changed_inv (Noted (Evicted key tag n i)) held is = inv_kept s _ (changed_kept s h.owed (Noted (Evicted key tag n i)) refl is) h
  changed_inv (Noted (Loaded key tag n i)) held is = inv_kept s _ (changed_kept s h.owed (Noted (Loaded key tag n i)) refl is) h
  changed_inv (Rooted folder) held is =
      let at = at_IsConfigured s.phase (first_holds (is_at IsConfigured s) _ (permitted s (Rooted folder) refl is)) in
      opened_to_inv s IsRooted true (ap recovers at) refl (h.owed (ap takes_turns at)) h
  changed_inv (Listed ok) held is =
      let at = at_IsRooted s.phase (first_holds (is_at IsRooted s) _ (permitted s (Listed ok) refl is)) in
      opened_to_inv s IsListed ok (ap recovers at) refl (h.owed (ap takes_turns at)) h
  changed_inv (Listens port ok) held is =
      let all = first_holds (permits_listens s port) _ (permitted s (Listens port ok) refl is) in
      let two = first_holds (is_at IsListed s && (port == s.settings.port)) _ all in
      let at = at_IsListed s.phase (first_holds (is_at IsListed s) _ two) in
      listens_inv s ok (ap recovers at) (h.owed (ap takes_turns at)) (second_holds (is_at IsListed s && (port == s.settings.port)) _ all) h
  changed_inv (Configured file text) held is =
      let at = at_IsWoken s.phase (first_holds (is_at IsWoken s) _ (first_holds (permits_configured s file) _ (permitted s (Configured file text) refl is))) in
      configured_inv s text (ap recovers at) (h.owed (ap takes_turns at)) h
  changed_inv (Printed text) held is = h
  changed_inv Stopped held is = inv_kept s _ (changed_kept s h.owed Stopped refl is) h
