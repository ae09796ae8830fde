-- What each step of a turn leaves of replies.
use Rattle.std.proofs.Common.{◌≡◌, ◌⊎◌, refl, ℕ, ◌+◌, ◌-◌, Bool, true, false, not, [], ◌∷◌, ◌++◌, Option, Some, None, inl, inr, sym, subst, ap, ◌∙◌}
use Rattle.pp_conf.specs.Conf.{Settings}
use Rattle.pp_conf.specs.Words.{reading_of}
use Rattle.pp_text.specs.Bytes.{is_empty}
use Rattle.pp_world.specs.Files.{Files}
use Rattle.pp_world.specs.declared.op.DiskOp.{DiskOp}
use Rattle.pp_law.specs.After.{begun_op, dialled, dropped, ended_op, event, evicted, forgotten_by, gone, leave_memory, new_client, new_conn, opened, out, owing, paid, reached, refused_dial, refused_row, said, shut, undialled, unread, waits_for_row}
use Rattle.pp_law.specs.Asking.{ask, ask_body, ask_next, asked_body, asked_text, asking, hang_up, hear, is_writing}
use Rattle.pp_law.specs.Chunks.{drop_chunk}
use Rattle.pp_law.specs.Closing.{close_client}
use Rattle.pp_law.specs.Connections.{client, conn, end_exchange, is_client, is_for, is_outstanding, lose_attempt, may_ask_again, on_client, on_client_of, on_exchange, placing, put_on, AllPlaced, Pause, WaitsDial, WaitsDrop}
use Rattle.pp_law.specs.Followers.{fill}
use Rattle.pp_law.specs.Hearing.{heard_by}
use Rattle.pp_law.specs.Leaving.{Leaving, ForAnother, ForMemory, BeforeDecision, leaving_as}
use Rattle.pp_law.specs.Lists.{Bytes}
use Rattle.pp_law.specs.Offers.{offer}
use Rattle.pp_law.specs.Opening.{are_texts, begun as opening_begun, is_opening, names_file, settings_in, with_settings, woken}
use Rattle.pp_law.specs.Phases.{come_to, due_victim, ending, in_phase}
use Rattle.pp_law.specs.Repairs.{begin_in_opening}
use Rattle.pp_law.specs.Replies.{end_replies, said_by, use_said}
use Rattle.pp_law.specs.Responses.{ended}
use Rattle.pp_law.specs.State.{State, Answering, Client, Conn, Exchange, Free, Handling, Evicting, Keeping, DecidingAgain, Instance, IsWoken, Owed, RowRefused, Undecided}
use Rattle.pp_law.specs.Store.{begin_in_turn}
use Rattle.pp_law.specs.Table.{forget}
use Rattle.pp_laws.specs.Runs.{IsIn}
use Rattle.pp_laws.proofs.Lists.{in_find, in_push, one_of}
use Rattle.pp_laws.proofs.Sound.{Since, Sound, client_number, facts_of as sound_facts}
use Rattle.pp_laws.proofs.Tests.{same_number}
use Rattle.pp_laws_replies.proofs.Quiet.{Quietly, facts_of, quiet_same}
use Rattle.pp_laws_replies.proofs.QuietAsks.{close_client-quiet, end_exchange-quiet, fill-quiet, lose_attempt-quiet, on_conn-quiet, placing-quiet, put_on-quiet}
use Rattle.pp_laws_replies.proofs.QuietHeads.{ended-quiet}
use Rattle.pp_laws_replies.proofs.QuietRows.{begin_in_opening-quiet, begin_in_turn-quiet, close_name-quiet, drop_chunk-quiet, end_op-quiet, forget-quiet, lose_in_opening-quiet}
use Rattle.pp_laws_replies.proofs.QuietTurns.{come_to-quiet, come_to_decide-quiet, regained-quiet, touch-quiet, use_said-quiet}
use Rattle.pp_laws_decided.proofs.Begins.{IsAmid, begin_replies_fits, end_replies_fits, heard_fits, offered_amid, said_fits}
use Rattle.pp_laws_decided.proofs.Fits.{Fits, FitsIn, all_of, changed_fits, filtered_fits, fits, quiet_fits, same_fits}

-- ---- events

pub event_fits : (s : State) → Fits s → Fits (event s)
unfolding event
event_fits s h = quiet_fits (in_phase Handling s) _ (regained-quiet _ (quiet_same (in_phase Handling s))) (fits (all_of h))

pub paid_fits : (s : State) → Fits s → Fits (paid s)
unfolding paid
paid_fits s h = quiet_fits (record s { owed = Free }) _ (regained-quiet _ (quiet_same (record s { owed = Free }))) (fits (all_of h))

pub owing_fits : (owed : Owed) (n : ℕ) (s : State) → Fits s → Fits (owing owed n s)
unfolding owing
owing_fits owed n s h = fits (all_of (quiet_fits s _ (touch-quiet n s (quiet_same s)) h))

pub reached_fits : (n : ℕ) (s : State) → Fits s → Fits (reached n s)
unfolding reached
reached_fits n s h = quiet_fits s _ (touch-quiet n _ (on_conn-quiet n (λ k. record k { is_reached = true }) s (quiet_same s))) h

-- nothing is decided for a newcomer
pub opened_fits : (n : ℕ) (s : State) → Fits s → Fits (opened n s)
unfolding opened
opened_fits n s h = fits (λ c i. by c (in_push c s.clients (new_client n s.clock) i))
  where
    by : (c : Client) → IsIn c s.clients ⊎ (c ≡ new_client n s.clock) → FitsIn s.instances s.next_instance c
    by c (inl i) = all_of h c i
    by c (inr eq) = λ r is. let both : Undecided ≡ Answering r = sym (ap (λ (x : Client). x.stage) eq) ∙ is in absurd (cc both)

-- ---- reads and writes

pub hear_fits : (n : ℕ) (bytes : Bytes) (s : State) → Fits s → Fits (hear n bytes s)
unfolding hear on_client
hear_fits n bytes s h = end_replies_fits _ (changed_fits s (is_client n) (heard_by bytes) (λ c i hit fit. heard_fits s.instances s.next_instance bytes c fit) h)

pub hang_up_fits : (n : ℕ) (s : State) → Fits s → Fits (hang_up n s)
unfolding hang_up on_client
hang_up_fits n s h = by (is_writing s.owed n)
  where
    by : (t : Bool) → Fits (elim t as (λ x. State) [ true ↦ close_client n false s | false ↦ end_replies (on_client n (λ c. record c { has_hung_up = true }) s) ])
    by true = quiet_fits s _ (close_client-quiet n false s (quiet_same s)) h
    by false = end_replies_fits _ (changed_fits s (is_client n) (λ c. record c { has_hung_up = true }) (λ c i hit fit. same_fits s.instances s.next_instance (record c { has_hung_up = true }) c (λ q is. is) refl fit) h)

pub gone_fits : (is_clean : Bool) (n : ℕ) (s : State) → Fits s → Fits (gone is_clean n s)
unfolding gone
gone_fits is_clean n s h = by (conn s n)
  where
    by : (o : Option Conn) → Fits (elim o as (λ x. State) [ None ↦ s | Some k ↦ end_replies (ended is_clean k s) ])
    by None = h
    by (Some k) = end_replies_fits _ (quiet_fits s _ (ended-quiet is_clean k s (quiet_same s)) h)

-- of the client that is written to something was offered
pub said_steps : {b : Since} (m n : ℕ) (s : State) → Sound b s → ((x : Client) → client s m ≡ Some x → offer s x ≡ [] → ⊥) → Fits s → Fits (said m n s)
unfolding said on_client
said_steps {b} m n s so offers h = by (client s m) refl
  where
    by : (o : Option Client) → client s m ≡ o → Fits (elim o as (λ x. State) [ None ↦ s | Some x ↦ end_replies (on_client m (said_by n) (use_said n x s)) ])
    by None none = h
    by (Some x) found = end_replies_fits _ (changed_fits u (is_client m) (said_by n) (λ c i hit fit. said_fits u.instances u.next_instance n c (amid c i (same_number c.number m hit)) fit) (quiet_fits s u quiet h))
      where
        u : State
        u = use_said n x s

        quiet : Quietly s u
        quiet = use_said-quiet n x s (quiet_same s)

        there : IsIn x s.clients × (is_client m x ≡ true)
        there = in_find (is_client m) x s.clients found

        amid : (c : Client) → IsIn c u.clients → c.number ≡ m → IsAmid c
        amid c i number none r at =
            let w = (facts_of quiet).clients_from c i in
            let one : w.was ≡ x = one_of client_number s.clients w.was x (sound_facts so).callers.rise w.there there.0 (sym w.is.number ∙ number ∙ sym (same_number x.number m there.1)) in
            let interim : c.interim_left ≡ x.interim_left = w.is.interim ∙ ap (λ (y : Client). y.interim_left) one in
            let stage : c.stage ≡ x.stage = w.is.stage ∙ ap (λ (y : Client). y.stage) one in
            offered_amid s x (offers x found) (sym (ap is_empty interim) ∙ none) r (sym stage ∙ at)

pub ask_fits : (k n : ℕ) (s : State) → Fits s → Fits (ask k n s)
unfolding ask ask_next ask_body on_client_of on_exchange
ask_fits k n s h = by (asking s k)
  where
    at : (e : Exchange) (t : Bool) → Fits (elim t as (λ x. State) [ false ↦ on_exchange e.number (asked_text n s.clock) s | true ↦ ask_body e n s ])
    at e false = fits (all_of h)
    at e true = changed_fits (on_exchange e.number (λ x. record x { body_left = x.body_left - n }) s) (is_for e) (asked_body n) (λ c i hit fit. same_fits s.instances s.next_instance (asked_body n c) c (λ q is. is) refl fit) (fits (all_of h))

    by : (o : Option Exchange) → Fits (elim o as (λ x. State) [ None ↦ s | Some e ↦ ask_next e n s ])
    by None = h
    by (Some e) = at e (is_outstanding e)

-- ---- rows and chunks leave

pub evicted_fits : (s : State) → Fits s → Fits (evicted s)
unfolding evicted
evicted_fits s h = by (due_victim s)
  where
    by : (o : Option (ℕ × ℕ)) → Fits (elim o as (λ x. State) [ None ↦ s | Some place ↦ drop_chunk place.0 place.1 s ])
    by None = h
    by (Some place) = quiet_fits s _ (drop_chunk-quiet place.0 place.1 s (quiet_same s)) h

refused_row_fits : (x : Instance) (s : State) → Fits s → Fits (refused_row x s)
unfolding refused_row
refused_row_fits x s h =
    fits (all_of (changed_fits (forget x.id s) (waits_for_row x.id) (λ c. record c { course = RowRefused }) (λ c i hit fit. same_fits (forget x.id s).instances (forget x.id s).next_instance (record c { course = RowRefused }) c (λ q is. is) refl fit)
    (quiet_fits s _ (forget-quiet x.id s (quiet_same s)) h)))

leave_memory_fits : (how : Leaving) (s : State) → Fits s → Fits (leave_memory how s)
unfolding leave_memory
leave_memory_fits ForAnother s h = fits (all_of (quiet_fits s _ (come_to-quiet Evicting s (quiet_same s)) h))
leave_memory_fits (ForMemory x) s h = refused_row_fits x _ (quiet_fits s _ (come_to-quiet Evicting s (quiet_same s)) h)
leave_memory_fits (BeforeDecision x) s h = fits (all_of (quiet_fits s _ (forget-quiet x.id _ (come_to_decide-quiet s (quiet_same s))) h))

pub forgotten_by_fits : (key : Bytes) (s : State) → Fits s → Fits (forgotten_by key s)
unfolding forgotten_by
forgotten_by_fits key s h = by (leaving_as s key)
  where
    by : (o : Option Leaving) → Fits (elim o as (λ x. State) [ None ↦ s | Some how ↦ leave_memory how s ])
    by None = h
    by (Some how) = leave_memory_fits how s h

-- ---- the disk, and the opening

pub begun_op_fits : (op : DiskOp) (s : State) → Fits s → Fits (begun_op op s)
unfolding begun_op
begun_op_fits op s h = by (is_opening s)
  where
    by : (t : Bool) → Fits (elim t as (λ x. State) [ true ↦ begin_in_opening op s | false ↦ begin_in_turn op (come_to Keeping s) ])
    by true = quiet_fits s _ (begin_in_opening-quiet op s (quiet_same s)) h
    by false = quiet_fits s _ (begin_in_turn-quiet op _ (come_to-quiet Keeping s (quiet_same s))) h

pub ended_op_fits : (op : DiskOp) (ok : Bool) (s : State) → Fits s → Fits (ended_op op ok s)
unfolding ended_op
ended_op_fits op true s h = quiet_fits s _ (end_op-quiet op true s (quiet_same s)) h
ended_op_fits op false s h = quiet_fits s _ (lose_in_opening-quiet s.agenda.name _ (end_op-quiet op false s (quiet_same s))) h

pub unread_fits : (name : Bytes) (s : State) → Fits s → Fits (unread name s)
unfolding unread
unread_fits name s h = paid_fits _ (quiet_fits s _ (lose_in_opening-quiet name _ (close_name-quiet name s (quiet_same s))) h)

-- nobody is there
opening_nobody : (s : State) → s.clients ≡ [] → (opening_begun s).clients ≡ []
unfolding opening_begun with_settings
opening_nobody s none = by (are_texts s.term) (names_file s.term)
  where
    by_settings : (o : Option Settings) → (with_settings o s).clients ≡ []
    by_settings None = none
    by_settings (Some c) = none

    by : (a b : Bool) → (elim a as (λ x. State) [
      | false ↦ with_settings None s
      | true ↦ elim b as (λ x. State) [ true ↦ record s { phase = IsWoken } | false ↦ with_settings (settings_in (reading_of s.term.words None)) s ]
    ]).clients ≡ []
    by false b = by_settings None
    by true true = none
    by true false = by_settings (settings_in (reading_of s.term.words None))

pub woken_fits : (image : Files) (s : State) → Fits (woken image s)
unfolding woken
woken_fits image s = fits (λ c i. absurd (subst (λ cs. IsIn c cs) (opening_nobody _ refl) i))

-- ---- closings and places

pub shut_fits : (n : ℕ) (s : State) → Fits s → Fits (shut n s)
unfolding shut
shut_fits n s h = filtered_fits (close_client n false s) (λ c. not (is_client n c)) (quiet_fits s _ (close_client-quiet n false s (quiet_same s)) h)

placed_fits : (s : State) → Fits s → Fits (placing s).state
placed_fits s h = quiet_fits s _ (placing-quiet s (quiet_same s)) h

pub dialled_fits : (n : ℕ) (host : Bytes) (port : ℕ) (s : State) → Fits s → Fits (dialled n host port (placing s))
unfolding dialled
dialled_fits n host port s h = by (placing s).pause
  where
    t : State
    t = (placing s).state

    more : State
    more = record t { conns = t.conns ++ new_conn n host port t.clock ∷ []; top = n }

    by : (pause : Pause) → Fits (elim pause as (λ x. State) [
      | AllPlaced ↦ t
      | WaitsDrop k e ↦ t
      | WaitsDial e ↦ put_on e.number n (record t { conns = t.conns ++ new_conn n host port t.clock ∷ []; top = n })
    ])
    by AllPlaced = placed_fits s h
    by (WaitsDrop k e) = placed_fits s h
    by (WaitsDial e) = quiet_fits more _ (put_on-quiet e.number n more (quiet_same more)) (fits (all_of (placed_fits s h)))

refused_dial_fits : (e : Exchange) (s : State) → Fits s → Fits (refused_dial e s)
unfolding refused_dial
refused_dial_fits e s h = by (may_ask_again s e.number)
  where
    by : (t : Bool) → Fits (elim t as (λ x. State) [ true ↦ s | false ↦ fill (end_exchange e.number s) ])
    by true = h
    by false = quiet_fits s _ (fill-quiet _ (end_exchange-quiet e.number s (quiet_same s))) h

pub undialled_fits : (s : State) → Fits s → Fits (undialled (placing s))
unfolding undialled
undialled_fits s h = by (placing s).pause
  where
    t : State
    t = (placing s).state

    failed : State
    failed = record t { failures = t.failures + 1 }

    by : (pause : Pause) → Fits (elim pause as (λ x. State) [ AllPlaced ↦ t | WaitsDrop k e ↦ t | WaitsDial e ↦ refused_dial e (lose_attempt e failed) ])
    by AllPlaced = placed_fits s h
    by (WaitsDrop k e) = placed_fits s h
    by (WaitsDial e) = refused_dial_fits e _ (quiet_fits failed _ (lose_attempt-quiet e failed (quiet_same failed)) (fits (all_of (placed_fits s h))))

pub dropped_fits : (n : ℕ) (s : State) → Fits s → Fits (dropped n s)
unfolding dropped out
dropped_fits n s h = by (conn s n)
  where
    at : (t : Bool) → Fits (elim t as (λ x. State) [ true ↦ out n s | false ↦ out n (placing s).state ])
    at true = fits (all_of h)
    at false = fits (all_of (placed_fits s h))

    by : (o : Option Conn) → Fits (elim o as (λ x. State) [ None ↦ s | Some k ↦ elim k.is_closing as (λ x. State) [ true ↦ out n s | false ↦ out n (placing s).state ] ])
    by None = h
    by (Some k) = at k.is_closing

-- ---- the end of a turn

pub ending_fits : (s : State) → Fits s → Fits (ending s)
unfolding ending
ending_fits s h = begin_replies_fits _ (quiet_fits s _ (come_to-quiet DecidingAgain s (quiet_same s)) h)
