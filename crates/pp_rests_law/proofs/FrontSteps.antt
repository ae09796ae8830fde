-- What is said of the request of each client stays so through each step of a turn.
use Rattle.std.proofs.Common.{◌≡◌, ◌⊎◌, refl, ℕ, ◌+◌, ◌-◌, Bool, true, false, not, [], ◌∷◌, ◌++◌, Option, Some, None, inl, inr, sym, subst, ap}
use Rattle.pp_conf.specs.Conf.{Settings}
use Rattle.pp_conf.specs.Words.{reading_of}
use Rattle.pp_world.specs.Files.{Files}
use Rattle.pp_world.specs.declared.note.Decision.{Decision}
use Rattle.pp_world.specs.declared.note.Remark.{Remark}
use Rattle.pp_world.specs.declared.note.Remark.TheVariants.{Taken, Cut, Kept, Gone, Forgotten, Evicted, Loaded}
use Rattle.pp_world.specs.declared.op.DiskOp.{DiskOp}
use Rattle.pp_law.specs.After.{begun_op, dialled, noted, take_decision, dropped, ended_op, event, evicted, forgotten_by, gone, leave_memory, new_client, new_conn, opened, out, owing, paid, reached, refused_dial, refused_row, said, shut, undialled, unread, waits_for_row}
use Rattle.pp_law.specs.Asking.{ask, ask_body, ask_next, asked_body, asked_text, asking, hang_up, hear, is_writing}
use Rattle.pp_law.specs.Chunks.{drop_chunk}
use Rattle.pp_law.specs.Closing.{close_client}
use Rattle.pp_law.specs.Connections.{client, conn, end_exchange, is_client, is_for, is_outstanding, lose_attempt, may_ask_again, on_client, on_client_of, on_exchange, placing, put_on, AllPlaced, Pause, WaitsDial, WaitsDrop}
use Rattle.pp_law.specs.Followers.{fill}
use Rattle.pp_law.specs.Hearing.{heard_by}
use Rattle.pp_law.specs.Leaving.{Leaving, ForAnother, ForMemory, BeforeDecision, leaving_as}
use Rattle.pp_law.specs.Lists.{Bytes}
use Rattle.pp_law.specs.Opening.{are_texts, begun as opening_begun, is_opening, names_file, settings_in, with_settings, woken}
use Rattle.pp_law.specs.Deciding.{decided}
use Rattle.pp_law.specs.Phases.{deciding, come_to, due_victim, ending, in_phase}
use Rattle.pp_law.specs.Repairs.{begin_in_opening}
use Rattle.pp_law.specs.Requests.{Front, NoHeadYet, front_of}
use Rattle.pp_law.specs.Replies.{end_replies, regained, said_by, use_said}
use Rattle.pp_law.specs.Responses.{ended}
use Rattle.pp_law.specs.State.{State, Client, Conn, Exchange, Free, Handling, Evicting, Keeping, DecidingAgain, Instance, IsWoken, Owed, RowRefused}
use Rattle.pp_law.specs.Store.{begin_in_turn}
use Rattle.pp_law.specs.Table.{forget}
use Rattle.pp_laws.specs.Runs.{IsIn}
use Rattle.pp_laws.proofs.Lists.{in_push}
use Rattle.pp_laws_replies.proofs.Quiet.{quiet_same}
use Rattle.pp_laws_replies.proofs.QuietAsks.{close_client-quiet, end_exchange-quiet, fill-quiet, lose_attempt-quiet, on_conn-quiet, placing-quiet, put_on-quiet}
use Rattle.pp_laws_replies.proofs.QuietHeads.{ended-quiet}
use Rattle.pp_laws_replies.proofs.QuietRows.{begin_in_opening-quiet, begin_in_turn-quiet, close_name-quiet, drop_chunk-quiet, end_op-quiet, forget-quiet, load-quiet, lose_in_opening-quiet, note_gone-quiet, note_kept-quiet}
use Rattle.pp_laws_replies.proofs.QuietTurns.{come_to-quiet, come_to_decide-quiet, deciding-quiet, regained-quiet, touch-quiet, use_said-quiet}
use Rattle.pp_rests_law.proofs.Fronts.{AreAll, all_are, all_of, as_before, begin_replies_fronts, changed_fronts, decided_fronts, end_replies_fronts, filtered_fronts, heard_fronts, quiet_fronts, said_front}

module _ (Q : Front → Type 0) where
  -- ---- events

  pub event_fronts : (s : State) → AreAll Q s → AreAll Q (event s)
  unfolding event
  event_fronts s h = quiet_fronts Q (in_phase Handling s) _ (regained-quiet _ (quiet_same (in_phase Handling s))) (all_are (all_of h))

  pub paid_fronts : (s : State) → AreAll Q s → AreAll Q (paid s)
  unfolding paid
  paid_fronts s h = quiet_fronts Q (record s { owed = Free }) _ (regained-quiet _ (quiet_same (record s { owed = Free }))) (all_are (all_of h))

  pub owing_fronts : (owed : Owed) (n : ℕ) (s : State) → AreAll Q s → AreAll Q (owing owed n s)
  unfolding owing
  owing_fronts owed n s h = all_are (all_of (quiet_fronts Q s _ (touch-quiet n s (quiet_same s)) h))

  pub reached_fronts : (n : ℕ) (s : State) → AreAll Q s → AreAll Q (reached n s)
  unfolding reached
  reached_fronts n s h = quiet_fronts Q s _ (touch-quiet n _ (on_conn-quiet n (λ k. record k { is_reached = true }) s (quiet_same s))) h

  -- a newcomer sent nothing
  pub opened_fronts : Q NoHeadYet → (n : ℕ) (s : State) → AreAll Q s → AreAll Q (opened n s)
  unfolding opened
  opened_fronts none n s h = all_are (λ c i. by c (in_push c s.clients (new_client n s.clock) i))
    where
      by : (c : Client) → IsIn c s.clients ⊎ (c ≡ new_client n s.clock) → Q c.front
      by c (inl i) = all_of h c i
      by c (inr eq) = subst Q (sym (ap (λ (x : Client). x.front) eq)) none

  -- ---- reads and writes

  pub ask_fronts : (k n : ℕ) (s : State) → AreAll Q s → AreAll Q (ask k n s)
  unfolding ask ask_next ask_body on_client_of on_exchange
  ask_fronts k n s h = by (asking s k)
    where
      at : (e : Exchange) (t : Bool) → AreAll Q (elim t as (λ x. State) [ false ↦ on_exchange e.number (asked_text n s.clock) s | true ↦ ask_body e n s ])
      at e false = all_are (all_of h)
      at e true = changed_fronts Q (on_exchange e.number (λ x. record x { body_left = x.body_left - n }) s) (is_for e) (asked_body n) (λ c h_c. as_before Q (asked_body n c) c refl h_c) (all_are (all_of h))

      by : (o : Option Exchange) → AreAll Q (elim o as (λ x. State) [ None ↦ s | Some e ↦ ask_next e n s ])
      by None = h
      by (Some e) = at e (is_outstanding e)

  -- ---- rows and chunks leave

  pub evicted_fronts : (s : State) → AreAll Q s → AreAll Q (evicted s)
  unfolding evicted
  evicted_fronts s h = by (due_victim s)
    where
      by : (o : Option (ℕ × ℕ)) → AreAll Q (elim o as (λ x. State) [ None ↦ s | Some place ↦ drop_chunk place.0 place.1 s ])
      by None = h
      by (Some place) = quiet_fronts Q s _ (drop_chunk-quiet place.0 place.1 s (quiet_same s)) h

  refused_row_fronts : (x : Instance) (s : State) → AreAll Q s → AreAll Q (refused_row x s)
  unfolding refused_row
  refused_row_fronts x s h =
      all_are (all_of (changed_fronts Q (forget x.id s) (waits_for_row x.id) (λ c. record c { course = RowRefused }) (λ c h_c. as_before Q (record c { course = RowRefused }) c refl h_c)
      (quiet_fronts Q s _ (forget-quiet x.id s (quiet_same s)) h)))

  leave_memory_fronts : (how : Leaving) (s : State) → AreAll Q s → AreAll Q (leave_memory how s)
  unfolding leave_memory
  leave_memory_fronts ForAnother s h = all_are (all_of (quiet_fronts Q s _ (come_to-quiet Evicting s (quiet_same s)) h))
  leave_memory_fronts (ForMemory x) s h = refused_row_fronts x _ (quiet_fronts Q s _ (come_to-quiet Evicting s (quiet_same s)) h)
  leave_memory_fronts (BeforeDecision x) s h = all_are (all_of (quiet_fronts Q s _ (forget-quiet x.id _ (come_to_decide-quiet s (quiet_same s))) h))

  pub forgotten_by_fronts : (key : Bytes) (s : State) → AreAll Q s → AreAll Q (forgotten_by key s)
  unfolding forgotten_by
  forgotten_by_fronts key s h = by (leaving_as s key)
    where
      by : (o : Option Leaving) → AreAll Q (elim o as (λ x. State) [ None ↦ s | Some how ↦ leave_memory how s ])
      by None = h
      by (Some how) = leave_memory_fronts how s h

  -- ---- the disk, and the opening

  pub begun_op_fronts : (op : DiskOp) (s : State) → AreAll Q s → AreAll Q (begun_op op s)
  unfolding begun_op
  begun_op_fronts op s h = by (is_opening s)
    where
      by : (t : Bool) → AreAll Q (elim t as (λ x. State) [ true ↦ begin_in_opening op s | false ↦ begin_in_turn op (come_to Keeping s) ])
      by true = quiet_fronts Q s _ (begin_in_opening-quiet op s (quiet_same s)) h
      by false = quiet_fronts Q s _ (begin_in_turn-quiet op _ (come_to-quiet Keeping s (quiet_same s))) h

  pub ended_op_fronts : (op : DiskOp) (ok : Bool) (s : State) → AreAll Q s → AreAll Q (ended_op op ok s)
  unfolding ended_op
  ended_op_fronts op true s h = quiet_fronts Q s _ (end_op-quiet op true s (quiet_same s)) h
  ended_op_fronts op false s h = quiet_fronts Q s _ (lose_in_opening-quiet s.agenda.name _ (end_op-quiet op false s (quiet_same s))) h

  pub unread_fronts : (name : Bytes) (s : State) → AreAll Q s → AreAll Q (unread name s)
  unfolding unread
  unread_fronts name s h = paid_fronts _ (quiet_fronts Q s _ (lose_in_opening-quiet name _ (close_name-quiet name s (quiet_same s))) h)

  -- nobody is there
  opening_nobody : (s : State) → s.clients ≡ [] → (opening_begun s).clients ≡ []
  unfolding opening_begun with_settings
  opening_nobody s none = by (are_texts s.term) (names_file s.term)
    where
      by_settings : (o : Option Settings) → (with_settings o s).clients ≡ []
      by_settings None = none
      by_settings (Some c) = none

      by : (a b : Bool) → (elim a as (λ x. State) [
        | false ↦ with_settings None s
        | true ↦ elim b as (λ x. State) [ true ↦ record s { phase = IsWoken } | false ↦ with_settings (settings_in (reading_of s.term.words None)) s ]
      ]).clients ≡ []
      by false b = by_settings None
      by true true = none
      by true false = by_settings (settings_in (reading_of s.term.words None))

  pub woken_fronts : (image : Files) (s : State) → AreAll Q (woken image s)
  unfolding woken
  woken_fronts image s = all_are (λ c i. absurd (subst (λ cs. IsIn c cs) (opening_nobody _ refl) i))

  -- ---- closings and places

  pub shut_fronts : (n : ℕ) (s : State) → AreAll Q s → AreAll Q (shut n s)
  unfolding shut
  shut_fronts n s h = filtered_fronts Q (close_client n false s) (λ c. not (is_client n c)) (quiet_fronts Q s _ (close_client-quiet n false s (quiet_same s)) h)

  placed_fronts : (s : State) → AreAll Q s → AreAll Q (placing s).state
  placed_fronts s h = quiet_fronts Q s _ (placing-quiet s (quiet_same s)) h

  pub dialled_fronts : (n : ℕ) (host : Bytes) (port : ℕ) (s : State) → AreAll Q s → AreAll Q (dialled n host port (placing s))
  unfolding dialled
  dialled_fronts n host port s h = by (placing s).pause
    where
      t : State
      t = (placing s).state

      more : State
      more = record t { conns = t.conns ++ new_conn n host port t.clock ∷ []; top = n }

      by : (pause : Pause) → AreAll Q (elim pause as (λ x. State) [
        | AllPlaced ↦ t
        | WaitsDrop k e ↦ t
        | WaitsDial e ↦ put_on e.number n (record t { conns = t.conns ++ new_conn n host port t.clock ∷ []; top = n })
      ])
      by AllPlaced = placed_fronts s h
      by (WaitsDrop k e) = placed_fronts s h
      by (WaitsDial e) = quiet_fronts Q more _ (put_on-quiet e.number n more (quiet_same more)) (all_are (all_of (placed_fronts s h)))

  refused_dial_fronts : (e : Exchange) (s : State) → AreAll Q s → AreAll Q (refused_dial e s)
  unfolding refused_dial
  refused_dial_fronts e s h = by (may_ask_again s e.number)
    where
      by : (t : Bool) → AreAll Q (elim t as (λ x. State) [ true ↦ s | false ↦ fill (end_exchange e.number s) ])
      by true = h
      by false = quiet_fronts Q s _ (fill-quiet _ (end_exchange-quiet e.number s (quiet_same s))) h

  pub undialled_fronts : (s : State) → AreAll Q s → AreAll Q (undialled (placing s))
  unfolding undialled
  undialled_fronts s h = by (placing s).pause
    where
      t : State
      t = (placing s).state

      failed : State
      failed = record t { failures = t.failures + 1 }

      by : (pause : Pause) → AreAll Q (elim pause as (λ x. State) [ AllPlaced ↦ t | WaitsDrop k e ↦ t | WaitsDial e ↦ refused_dial e (lose_attempt e failed) ])
      by AllPlaced = placed_fronts s h
      by (WaitsDrop k e) = placed_fronts s h
      by (WaitsDial e) = refused_dial_fronts e _ (quiet_fronts Q failed _ (lose_attempt-quiet e failed (quiet_same failed)) (all_are (all_of (placed_fronts s h))))

  pub dropped_fronts : (n : ℕ) (s : State) → AreAll Q s → AreAll Q (dropped n s)
  unfolding dropped out
  dropped_fronts n s h = by (conn s n)
    where
      at : (t : Bool) → AreAll Q (elim t as (λ x. State) [ true ↦ out n s | false ↦ out n (placing s).state ])
      at true = all_are (all_of h)
      at false = all_are (all_of (placed_fronts s h))

      by : (o : Option Conn) → AreAll Q (elim o as (λ x. State) [ None ↦ s | Some k ↦ elim k.is_closing as (λ x. State) [ true ↦ out n s | false ↦ out n (placing s).state ] ])
      by None = h
      by (Some k) = at k.is_closing

  -- ---- the end of a turn

  pub ending_fronts : (s : State) → AreAll Q s → AreAll Q (ending s)
  unfolding ending
  ending_fronts s h = begin_replies_fronts Q _ (quiet_fronts Q s _ (come_to-quiet DecidingAgain s (quiet_same s)) h)

  -- ---- what is noted

  pub taken_fronts : (m : ℕ) (d : Decision) (s : State) → AreAll Q s → AreAll Q (take_decision m d (deciding s))
  unfolding take_decision
  taken_fronts m d s h = by (client (deciding s) m)
    where
      u : State
      u = deciding s

      hu : AreAll Q u
      hu = quiet_fronts Q s u (deciding-quiet s (quiet_same s)) h

      by : (o : Option Client) → AreAll Q (elim o as (λ x. State) [ None ↦ u | Some c ↦ regained (record (decided c d u) { forgotten = []; made_room_for = None }) ])
      by None = hu
      by (Some c) = quiet_fronts Q (record (decided c d u) { forgotten = []; made_room_for = None }) _ (regained-quiet _ (quiet_same (record (decided c d u) { forgotten = []; made_room_for = None }))) (all_are (all_of (decided_fronts Q c d u hu)))

  pub noted_fronts : (remark : Remark) (s : State) → AreAll Q s → AreAll Q (noted remark s)
  unfolding noted
  noted_fronts (Taken m i d) s h = taken_fronts m d s h
  noted_fronts (Cut m cause) s h = quiet_fronts Q s _ (close_client-quiet m true _ (deciding-quiet s (quiet_same s))) h
  noted_fronts (Kept key tag k extent) s h = quiet_fronts Q s _ (note_kept-quiet key extent s (quiet_same s)) h
  noted_fronts (Gone key) s h = quiet_fronts Q s _ (note_gone-quiet key _ (come_to-quiet Keeping s (quiet_same s))) h
  noted_fronts (Forgotten key) s h = forgotten_by_fronts key s h
  noted_fronts (Evicted key tag k i) s h = evicted_fronts _ (quiet_fronts Q s _ (come_to-quiet Evicting s (quiet_same s)) h)
  noted_fronts (Loaded key tag k i) s h = quiet_fronts Q s _ (load-quiet key i s (quiet_same s)) h

-- ---- reads and writes, if it is so of each that is read

module _ (Q : Front → Type 0) (new : (bytes : Bytes) → Q (front_of bytes)) where
  pub hear_fronts : (n : ℕ) (bytes : Bytes) (s : State) → AreAll Q s → AreAll Q (hear n bytes s)
  unfolding hear on_client
  hear_fronts n bytes s h = end_replies_fronts Q new _ (changed_fronts Q s (is_client n) (heard_by bytes) (λ c h_c. heard_fronts Q new bytes c h_c) h)

  pub hang_up_fronts : (n : ℕ) (s : State) → AreAll Q s → AreAll Q (hang_up n s)
  unfolding hang_up on_client
  hang_up_fronts n s h = by (is_writing s.owed n)
    where
      by : (t : Bool) → AreAll Q (elim t as (λ x. State) [ true ↦ close_client n false s | false ↦ end_replies (on_client n (λ c. record c { has_hung_up = true }) s) ])
      by true = quiet_fronts Q s _ (close_client-quiet n false s (quiet_same s)) h
      by false = end_replies_fronts Q new _ (changed_fronts Q s (is_client n) (λ c. record c { has_hung_up = true }) (λ c h_c. as_before Q (record c { has_hung_up = true }) c refl h_c) h)

  pub gone_fronts : (is_clean : Bool) (n : ℕ) (s : State) → AreAll Q s → AreAll Q (gone is_clean n s)
  unfolding gone
  gone_fronts is_clean n s h = by (conn s n)
    where
      by : (o : Option Conn) → AreAll Q (elim o as (λ x. State) [ None ↦ s | Some k ↦ end_replies (ended is_clean k s) ])
      by None = h
      by (Some k) = end_replies_fronts Q new _ (quiet_fronts Q s _ (ended-quiet is_clean k s (quiet_same s)) h)

  pub said_steps : (m n : ℕ) (s : State) → AreAll Q s → AreAll Q (said m n s)
  unfolding said on_client
  said_steps m n s h = by (client s m)
    where
      by : (o : Option Client) → AreAll Q (elim o as (λ x. State) [ None ↦ s | Some x ↦ end_replies (on_client m (said_by n) (use_said n x s)) ])
      by None = h
      by (Some x) = end_replies_fronts Q new _ (changed_fronts Q (use_said n x s) (is_client m) (said_by n) (λ c h_c. as_before Q (said_by n c) c (said_front n c) h_c) (quiet_fronts Q s _ (use_said-quiet n x s (quiet_same s)) h))
