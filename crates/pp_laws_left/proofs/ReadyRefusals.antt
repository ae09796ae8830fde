-- What followers ask for, as somebody is decided for or cut, where a dial is refused, and in the opening.
use Rattle.std.proofs.Common.{◌≡◌, refl, ℕ, ◌≤◌, ◌==◌, nat_lt, find, Bool, true, false, not, ◌||◌, List, [], ◌∷◌, is_some, Option, Some, None, inl, inr, sym, subst, ap, ◌∙◌}
use Rattle.std.specs.List.{list_any}
use Rattle.pp_conf.specs.Conf.{Settings}
use Rattle.pp_conf.specs.Words.{reading_of}
use Rattle.pp_text.specs.Bytes.{is_empty}
use Rattle.pp_world.specs.Files.{Files}
use Rattle.pp_world.specs.Log.{Log}
use Rattle.pp_world.specs.declared.event.Wants.{Wants}
use Rattle.pp_world.specs.declared.note.Decision.{Decision}
use Rattle.pp_world.specs.declared.op.DiskOp.{DiskOp}
use Rattle.pp_law.specs.After.{event, paid, take_decision}
use Rattle.pp_law.specs.Closing.{left_alone}
use Rattle.pp_target.specs.Key.{text_of}
use Rattle.pp_valid.specs.declared.version.Version.{Version}
use Rattle.pp_law.specs.Connections.{attempts_of, charge, give_up_row, is_unfilled, lost_one, on_client_of, without_row, client, end_exchange, lose_attempt, on_conn, on_exchange, placing, put_on}
use Rattle.pp_law.specs.Deciding.{decided}
use Rattle.pp_law.specs.Lists.{Bytes, is_some_with}
use Rattle.pp_law.specs.Opening.{are_texts, begun, configured, is_at, is_opening, names_file, opened_to, settings_in, stuck, with_settings, woken}
use Rattle.pp_law.specs.Permits.{is_owed}
use Rattle.pp_law.specs.Phases.{come_to_decide, decides, deciding, in_phase, is_done}
use Rattle.pp_law.specs.Replies.{regained}
use Rattle.pp_law.specs.State.{State, Client, Exchange, Instance, Reply, Stage, Todo, Undecided, Waiting, Passing, Answering, Phase, Before, IsWoken, IsConfigured, IsRooted, IsListed, IsListening, IsStuck, Awaiting, Handling, Evicting, Keeping, Deciding, Following, Connecting, DecidingAgain, Term}
use Rattle.pp_law.specs.Asking.{is_reading, is_writing}
use Rattle.pp_law.specs.Store.{is_acknowledged_as, is_same_op, may_end_op}
use Rattle.pp_law.specs.Table.{Next as NextByte, clear, instance, is_instance, is_row_of, next_from, source_of, swept}
use Rattle.pp_law.specs.Turn.{rest_with}
use Rattle.pp_laws.specs.Runs.{IsIn}
use Rattle.pp_laws.proofs.Lists.{Changed, in_change, in_filter, in_find, other, same, the_one}
use Rattle.pp_laws.proofs.Sound.{instance_id}
use Rattle.pp_laws.proofs.Tests.{first_holds, number_same, same_number, second_holds}
use Rattle.pp_laws_decided.proofs.Laws.{turns_are_decided}
use Rattle.pp_laws_served.specs.Filling.{AreWithin, IsLate, failed}
use Rattle.pp_laws_turn.proofs.Laws.{sound_turns}
use Rattle.pp_laws_turn.proofs.Lined.{placing_puts}
use Rattle.pp_laws_turn.proofs.View.{Holds, View, facts_of, holds}
use Rattle.pp_laws_unused.proofs.Turning.{opens, paid_phase, phase_kept}
use Rattle.pp_laws_waits.proofs.Served.{any_in}
use Rattle.pp_obeys.specs.Obeys.{Obeys}
use Rattle.pp_obeys.proofs.Frames.{Stays, frame, frame_of, stays}
use Rattle.pp_obeys.proofs.Settled.{at_phase}
use Rattle.pp_obeys.proofs.StaysAsks.{decided-stays}
use Rattle.pp_obeys.proofs.StaysTurns.{regained-stays}
use Rattle.pp_laws_left.proofs.Filled.{next_as, next_with}
use Rattle.pp_laws_left.proofs.Keep.{FromClient, Keeps, facts_of as keeps_of, keeps, keeps_same}
use Rattle.pp_laws_left.proofs.KeepAsks.{end_exchange-keeps, lose_attempt-keeps, placing-keeps}
use Rattle.pp_laws_left.proofs.OwnedOver.{find_some}
use Rattle.pp_laws_left.proofs.OwnedEnds.{event_handles}
use Rattle.pp_laws_left.proofs.Readies.{is_behind, is_idle_in, Idle, Rests, off_rests, at_rests}

-- ---- decisions and cuts

decides_behind : (s : State) → decides s ≡ true → is_behind s.phase ≡ true
decides_behind s is = by (is_at Deciding s) refl is
  where
    by : (t : Bool) → is_at Deciding s ≡ t → (elim t as (λ c. Bool) [ true ↦ not (is_done s) | false ↦ is_at DecidingAgain s ]) ≡ true → is_behind s.phase ≡ true
    by true at on = ap is_behind (at_phase Deciding s at)
    by false at on = ap is_behind (at_phase DecidingAgain s on)

pub deciding_rests : (t s : State) → t.phase ≡ Deciding → (Idle (come_to_decide s) → Idle t) → decides (come_to_decide s) ≡ true → Rests (come_to_decide s) → Rests t
deciding_rests t s phase idle on h = record {
  idle = λ behind_. idle (h.idle (decides_behind (come_to_decide s) on));
  ready = λ none runs late. absurd (by t.phase phase late);
}
  where
    by : (p : Phase) → p ≡ Deciding → IsLate p → ⊥
    by p is (inl late) = let both : Deciding ≡ Connecting = sym is ∙ late in cc both
    by p is (inr late) = let both : Deciding ≡ DecidingAgain = sym is ∙ late in cc both

pub taken_idle : (n : ℕ) (d : Decision) (s : State) → Idle (come_to_decide s) → Idle (take_decision n d (deciding s))
unfolding take_decision deciding
taken_idle n d s h = by (client (in_phase Deciding (come_to_decide s)) n)
  where
    by : (o : Option Client) → Idle (elim o as (λ x. State) [ None ↦ in_phase Deciding (come_to_decide s) | Some c ↦ regained (record (decided c d (in_phase Deciding (come_to_decide s))) { forgotten = []; made_room_for = None }) ])
    by None = h
    by (Some c) =
        let f = frame_of {all = true} (decided-stays c d (in_phase Deciding (come_to_decide s)) (stays refl)) in
        let g = frame_of {all = true} (regained-stays (record (decided c d (in_phase Deciding (come_to_decide s))) { forgotten = []; made_room_for = None }) (stays refl)) in
        ap is_idle_in g ∙ ap is_idle_in f ∙ h

-- ---- a dial that is refused: what is followed ends within the body

-- each was there, of the same version
abbrev RowsFrom : List Instance → View → Type 0
RowsFrom xs v = (x : Instance) → IsIn x v.instances → (y : Instance) × IsIn y xs × (x.id ≡ y.id) × (x.version ≡ y.version)

clear_from : (xs : List Instance) (key : Bytes) (s : State) → Holds (RowsFrom xs) s → Holds (RowsFrom xs) (clear key s)
unfolding clear swept
clear_from xs key s h = holds (λ x i. at x (in_change (is_row_of key) (λ y. record y { is_retired = true }) x s.instances (in_filter _ x _ i).0))
  where
    at : (x : Instance) → Changed (is_row_of key) (λ y. record y { is_retired = true }) s.instances x → (y : Instance) × IsIn y xs × (x.id ≡ y.id) × (x.version ≡ y.version)
    at x (same i isnt) = facts_of h x i
    at x (other z i hit eq) = let w = facts_of h z i in (w.0, w.1, ap (λ (y : Instance). y.id) eq ∙ w.2, ap (λ (y : Instance). y.version) eq ∙ w.3)

lost_from : (xs : List Instance) (e : Exchange) (s : State) → Holds (RowsFrom xs) s → Holds (RowsFrom xs) (lose_attempt e s)
unfolding lose_attempt charge give_up_row on_client_of on_exchange
lost_from xs e s h = by (is_unfilled (on_client_of e (λ c. record c { course = lost_one (attempts_of e) c.course }) s) e)
  where
    lost : State
    lost = on_client_of e (λ c. record c { course = lost_one (attempts_of e) c.course }) s

    by : (t : Bool) → Holds (RowsFrom xs) (elim t as (λ c. State) [ false ↦ lost | true ↦ on_exchange e.number left_alone (on_client_of e without_row (clear (text_of e.key) lost)) ])
    by false = holds (facts_of h)
    by true = holds (facts_of (clear_from xs (text_of e.key) lost (holds (facts_of h))))

put_rows : (xs : List Instance) (n k : ℕ) (t : State) → Holds (RowsFrom xs) t → Holds (RowsFrom xs) (put_on n k t)
unfolding put_on on_conn on_exchange
put_rows xs n k t ht = holds (facts_of ht)

ended_from : (xs : List Instance) (n : ℕ) (s : State) → Holds (RowsFrom xs) s → Holds (RowsFrom xs) (end_exchange n s)
unfolding end_exchange
ended_from xs n s h = holds (facts_of h)

put_from : (xs : List Instance) (s : State) → Holds (RowsFrom xs) s → Holds (RowsFrom xs) (placing s).state
put_from xs s h = placing_puts (Holds (RowsFrom xs)) (λ n k e t found is ht. put n k t ht) s h
  where
    put : (n k : ℕ) (t : State) → Holds (RowsFrom xs) t → Holds (RowsFrom xs) (put_on n k t)
    put n k t ht = put_rows xs n k t ht

pub refused_within : (terms : List Term) (u : State) (log : Log) → Obeys terms u log → (e : Exchange) → AreWithin (end_exchange e.number (lose_attempt e (failed (placing u).state)))
refused_within terms u log obeys e c n i is = by c.is_closing c.stage refl (sym (next_as v c) ∙ is)
  where
    v : State
    v = end_exchange e.number (lose_attempt e (failed (placing u).state))

    rows : Holds (RowsFrom u.instances) (end_exchange e.number (lose_attempt e (failed (placing u).state)))
    rows = ended_from u.instances e.number _ (lost_from u.instances e _ (holds (facts_of (put_from u.instances u (holds (λ x j. (x, j, refl, refl)))))))

    q : Keeps true u (end_exchange e.number (lose_attempt e (failed (placing u).state)))
    q = end_exchange-keeps e.number _ (lose_attempt-keeps e _ (keeps (keeps_of (placing-keeps u (keeps_same u)))))

    w : FromClient true u.clients c
    w = (keeps_of q).clients_from c i

    decided_ : (r : Reply) (x : Instance) → w.was.stage ≡ Answering r → source_of u r ≡ Some x → r.to ≤ x.version.length
    decided_ r x at found = (turns_are_decided terms u log obeys).within w.was r x w.there at found

    from_row : (r : Reply) (id : ℕ) (x : Instance) → w.was.stage ≡ Answering r → r.source ≡ Some id → find (is_instance id) v.instances ≡ Some x → r.to ≤ x.version.length
    from_row r id x at source found =
        let there = in_find (is_instance id) x v.instances found in
        let y = facts_of rows x there.0 in
        let its : y.0.id ≡ id = sym y.2 ∙ same_number x.id id there.1 in
        let f = find_some (is_instance id) y.0 u.instances y.1 (ap (λ m. m == id) its ∙ number_same id) in
        let g = in_find (is_instance id) f.0 u.instances f.1 in
        let one : f.0 ≡ y.0 = the_one instance_id u.instances f.0 y.0 (sound_turns terms u log obeys).numbers.instances_differ g.0 y.1 (same_number f.0.id id g.1 ∙ sym its) in
        let here : source_of u r ≡ Some y.0 = ap (λ (o : Option ℕ). elim o as (λ z. Option Instance) [ None ↦ None | Some k ↦ instance u k ]) source ∙ f.1 ∙ ap (λ (z : Instance). Some z) one in
        subst (λ (z : Version). r.to ≤ z.length) (sym y.3) (decided_ r y.0 at here)

    within : (r : Reply) (id : ℕ) (x : Instance) (t : Bool) → w.was.stage ≡ Answering r → r.source ≡ Some id → find (is_instance id) v.instances ≡ Some x → (elim t as (λ z. Option NextByte) [ true ↦ Some (record { source = x; at = r.at; to = r.to }) | false ↦ None ]) ≡ Some n → n.to ≤ n.source.version.length
    within r id x true at source found made = let one : record { source = x; at = r.at; to = r.to } ≡ n = cc made in subst (λ (m : NextByte). m.to ≤ m.source.version.length) one (from_row r id x at source found)
    within r id x false at source found made = absurd (cc made)

    rowed : (r : Reply) (id : ℕ) (o : Option Instance) → w.was.stage ≡ Answering r → r.source ≡ Some id → find (is_instance id) v.instances ≡ o → (elim o as (λ z. Option NextByte) [ None ↦ None | Some x ↦ next_from x r ]) ≡ Some n → n.to ≤ n.source.version.length
    rowed r id None at source found made = absurd (cc made)
    rowed r id (Some x) at source found made = within r id x (nat_lt r.at r.to) at source found made

    sourced : (r : Reply) (o : Option ℕ) → w.was.stage ≡ Answering r → r.source ≡ o → (elim (elim o as (λ z. Option Instance) [ None ↦ None | Some id ↦ find (is_instance id) v.instances ]) as (λ z. Option NextByte) [ None ↦ None | Some x ↦ next_from x r ]) ≡ Some n → n.to ≤ n.source.version.length
    sourced r None at source made = absurd (cc made)
    sourced r (Some id) at source made = rowed r id (find (is_instance id) v.instances) at source refl made

    by : (closing : Bool) (g : Stage) → c.stage ≡ g → next_with v.instances closing g ≡ Some n → n.to ≤ n.source.version.length
    by true g at made = absurd (cc made)
    by false Undecided at made = absurd (cc made)
    by false Waiting at made = absurd (cc made)
    by false Passing at made = absurd (cc made)
    by false (Answering r) at made = sourced r r.source (sym w.is.stage ∙ at) refl made

-- ---- the opening

set_off : (o : Option Settings) (s : State) → Rests (with_settings o s)
unfolding with_settings
set_off None s = off_rests _ refl
set_off (Some c) s = off_rests _ refl

begun_off : (s : State) → Rests (begun s)
unfolding begun
begun_off s = by (are_texts s.term) (names_file s.term)
  where
    by : (texts names : Bool) → Rests (elim texts as (λ c. State) [
      | false ↦ with_settings None s
      | true ↦ elim names as (λ c. State) [ true ↦ record s { phase = IsWoken } | false ↦ with_settings (settings_in (reading_of s.term.words None)) s ]
    ])
    by false names = set_off None s
    by true true = off_rests _ refl
    by true false = set_off (settings_in (reading_of s.term.words None)) s

pub woken_off : (image : Files) (s : State) → Rests (woken image s)
unfolding woken
woken_off image s = begun_off _

pub opened_off : (p : Phase) (ok : Bool) (s : State) → is_behind p ≡ false → Rests (opened_to p ok s)
unfolding opened_to stuck
opened_off p true s early = off_rests _ early
opened_off p false s early = off_rests _ refl

pub configured_off : (text : Option Bytes) (s : State) → Rests (configured text s)
unfolding configured stuck
configured_off None s = off_rests _ refl
configured_off (Some text) s = set_off (settings_in (reading_of s.term.words (Some text))) s

pub rested_off : (w : Wants) (s : State) → Rests (rest_with w s)
unfolding rest_with
rested_off w s = off_rests _ refl

pub event_off : (s : State) → Rests (event s)
event_off s = at_rests Handling (event s) (event_handles s) refl

pub paid_off : (s x : State) → s.phase ≡ Handling → Stays false (frame false s) x → Rests (paid x)
paid_off s x is kept_ = at_rests Handling (paid x) (paid_phase x ∙ phase_kept s x kept_ ∙ is) refl

-- where its phase is behind the disk it could not come
pub as_was : (s t : State) → t.phase ≡ s.phase → (is_behind s.phase ≡ true → ⊥) → Rests t
as_was s t phase never = off_rests t (ap is_behind phase ∙ by (is_behind s.phase) refl)
  where
    by : (b : Bool) → is_behind s.phase ≡ b → b ≡ false
    by false is = refl
    by true is = absurd (never is)

pub opening_not : (s : State) → is_opening s ≡ true → is_behind s.phase ≡ true → ⊥
opening_not s is on = by s.phase refl on
  where
    by : (p : Phase) → s.phase ≡ p → is_behind p ≡ true → ⊥
    by Deciding at b = let both : false ≡ true = sym (ap opens at) ∙ is in cc both
    by Following at b = let both : false ≡ true = sym (ap opens at) ∙ is in cc both
    by Connecting at b = let both : false ≡ true = sym (ap opens at) ∙ is in cc both
    by DecidingAgain at b = let both : false ≡ true = sym (ap opens at) ∙ is in cc both
    by Before at b = cc b
    by IsWoken at b = cc b
    by IsConfigured at b = cc b
    by IsRooted at b = cc b
    by IsListed at b = cc b
    by IsListening at b = cc b
    by IsStuck at b = cc b
    by Awaiting at b = cc b
    by Handling at b = cc b
    by Evicting at b = cc b
    by Keeping at b = cc b

pub idle_no_op : (s : State) (op : DiskOp) → Idle s → may_end_op s op ≡ true → ⊥
idle_no_op s op idle is = by s.under_way (second_holds (is_empty s.agenda.todo) (not (is_some s.under_way)) idle) is
  where
    by : (o : Option DiskOp) → not (is_some o) ≡ true → is_some_with (λ b. is_same_op b op) o ≡ true → ⊥
    by None none at = cc at
    by (Some b) none at = cc none

pub idle_no_ack : (s : State) (key tag : Bytes) (n extent : ℕ) → Idle s → is_acknowledged_as key tag n extent s.agenda.todo ≡ true → ⊥
idle_no_ack s key tag n extent idle is = by s.agenda.todo (first_holds (is_empty s.agenda.todo) (not (is_some s.under_way)) idle) is
  where
    by : (todo : List Todo) → is_empty todo ≡ true → is_acknowledged_as key tag n extent todo ≡ true → ⊥
    by [] none at = cc at
    by (x ∷ todo) none at = cc none

pub handling_not : (s : State) → s.phase ≡ Handling → is_behind s.phase ≡ true → ⊥
handling_not s is on = let both : false ≡ true = sym (ap is_behind is) ∙ on in cc both

-- who is written to is handled
pub any_owed : (p : Client → Bool) (s : State) (cs : List Client) → ((c : Client) → p c ≡ true → is_writing s.owed c.number ≡ true) → list_any p cs ≡ true → (n : ℕ) × (is_owed s n ≡ true)
any_owed p s cs gives is = let w = any_in p cs is in (w.0.number, owed_by (is_reading s.owed w.0.number) (is_writing s.owed w.0.number) (gives w.0 w.2))
  where
    owed_by : (a b : Bool) → b ≡ true → (a || b) ≡ true
    owed_by true b is = refl
    owed_by false b is = is
