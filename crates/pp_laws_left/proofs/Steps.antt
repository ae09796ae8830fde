-- What each step of a turn leaves of replies.
use Rattle.std.proofs.Common.{◌≡◌, ◌⊎◌, refl, ℕ, ◌+◌, ◌-◌, Bool, true, false, not, [], ◌∷◌, ◌++◌, length, ◌≤◌, Option, Some, None, inl, inr, sym, subst, ap, ◌∙◌}
use Rattle.pp_conf.specs.Conf.{Settings}
use Rattle.pp_conf.specs.Words.{reading_of}
use Rattle.pp_text.specs.Bytes.{is_empty}
use Rattle.pp_world.specs.Files.{Files}
use Rattle.pp_world.specs.declared.op.DiskOp.{DiskOp}
use Rattle.pp_law.specs.After.{begun_op, dialled, dropped, ended_op, event, evicted, forgotten_by, gone, leave_memory, new_client, new_conn, opened, out, owing, paid, reached, refused_dial, refused_row, said, shut, undialled, unread, waits_for_row}
use Rattle.pp_law.specs.Asking.{ask, ask_body, ask_next, asked_body, asked_text, asking, hang_up, hear, is_writing}
use Rattle.pp_law.specs.Chunks.{drop_chunk}
use Rattle.pp_law.specs.Closing.{close_client}
use Rattle.pp_law.specs.Connections.{client, conn, end_exchange, is_client, is_for, is_outstanding, lose_attempt, may_ask_again, on_client, on_client_of, on_exchange, placing, put_on, AllPlaced, Pause, WaitsDial, WaitsDrop}
use Rattle.pp_law.specs.Followers.{fill}
use Rattle.pp_law.specs.Hearing.{heard_by}
use Rattle.pp_law.specs.Leaving.{Leaving, ForAnother, ForMemory, BeforeDecision, leaving_as}
use Rattle.pp_law.specs.Lists.{Bytes}
use Rattle.pp_law.specs.Offers.{offer}
use Rattle.pp_law.specs.Opening.{are_texts, begun as opening_begun, is_opening, names_file, settings_in, with_settings, woken}
use Rattle.pp_law.specs.Phases.{come_to, due_victim, ending, in_phase}
use Rattle.pp_law.specs.Repairs.{begin_in_opening}
use Rattle.pp_law.specs.Replies.{end_replies, said_by, use_said}
use Rattle.pp_law.specs.Responses.{ended}
use Rattle.pp_law.specs.State.{State, Client, Conn, Exchange, Free, Handling, Evicting, Keeping, DecidingAgain, Instance, IsWoken, Owed, RowRefused}
use Rattle.pp_law.specs.Store.{begin_in_turn}
use Rattle.pp_law.specs.Table.{forget}
use Rattle.pp_laws.specs.Runs.{IsIn}
use Rattle.pp_laws.proofs.Lists.{in_find, in_push, one_of}
use Rattle.pp_laws.proofs.Sound.{Since, Sound, client_number, facts_of as sound_facts}
use Rattle.pp_laws.proofs.Tests.{same_number}
use Rattle.pp_laws_replies.proofs.Quiet.{Quietly, facts_of, quiet_same}
use Rattle.pp_laws_replies.proofs.QuietAsks.{close_client-quiet, end_exchange-quiet, fill-quiet, lose_attempt-quiet, on_conn-quiet, placing-quiet, put_on-quiet}
use Rattle.pp_laws_replies.proofs.QuietHeads.{ended-quiet}
use Rattle.pp_laws_replies.proofs.QuietRows.{begin_in_opening-quiet, begin_in_turn-quiet, close_name-quiet, drop_chunk-quiet, end_op-quiet, forget-quiet, lose_in_opening-quiet}
use Rattle.pp_laws_replies.proofs.QuietTurns.{come_to-quiet, come_to_decide-quiet, regained-quiet, touch-quiet, use_said-quiet}
use Rattle.pp_laws_left.proofs.Begins.{IsOffered, begin_replies_fine, end_replies_fine, heard_fine, none_yet, offered_within, said_fine}
use Rattle.pp_laws_left.proofs.Fine.{AllFine, Fine, all_fine, all_of, changed_fine, filtered_fine, quiet_fine, same_fine}

-- ---- events

pub event_fine : (s : State) → AllFine s → AllFine (event s)
unfolding event
event_fine s h = quiet_fine (in_phase Handling s) _ (regained-quiet _ (quiet_same (in_phase Handling s))) (all_fine (all_of h))

pub paid_fine : (s : State) → AllFine s → AllFine (paid s)
unfolding paid
paid_fine s h = quiet_fine (record s { owed = Free }) _ (regained-quiet _ (quiet_same (record s { owed = Free }))) (all_fine (all_of h))

pub owing_fine : (owed : Owed) (n : ℕ) (s : State) → AllFine s → AllFine (owing owed n s)
unfolding owing
owing_fine owed n s h = all_fine (all_of (quiet_fine s _ (touch-quiet n s (quiet_same s)) h))

pub reached_fine : (n : ℕ) (s : State) → AllFine s → AllFine (reached n s)
unfolding reached
reached_fine n s h = quiet_fine s _ (touch-quiet n _ (on_conn-quiet n (λ k. record k { is_reached = true }) s (quiet_same s))) h

-- nothing is decided for a newcomer
pub opened_fine : (n : ℕ) (s : State) → AllFine s → AllFine (opened n s)
unfolding opened
opened_fine n s h = all_fine (λ c i. by c (in_push c s.clients (new_client n s.clock) i))
  where
    by : (c : Client) → IsIn c s.clients ⊎ (c ≡ new_client n s.clock) → Fine c
    by c (inl i) = all_of h c i
    by c (inr eq) = none_yet c (ap (λ (x : Client). x.stage) eq)

-- ---- reads and writes

pub hear_fine : (n : ℕ) (bytes : Bytes) (s : State) → AllFine s → AllFine (hear n bytes s)
unfolding hear on_client
hear_fine n bytes s h = end_replies_fine _ (changed_fine s (is_client n) (heard_by bytes) (λ c i hit h_c. heard_fine bytes c h_c) h)

pub hang_up_fine : (n : ℕ) (s : State) → AllFine s → AllFine (hang_up n s)
unfolding hang_up on_client
hang_up_fine n s h = by (is_writing s.owed n)
  where
    by : (t : Bool) → AllFine (elim t as (λ x. State) [ true ↦ close_client n false s | false ↦ end_replies (on_client n (λ c. record c { has_hung_up = true }) s) ])
    by true = quiet_fine s _ (close_client-quiet n false s (quiet_same s)) h
    by false = end_replies_fine _ (changed_fine s (is_client n) (λ c. record c { has_hung_up = true }) (λ c i hit h_c. same_fine (record c { has_hung_up = true }) c (λ q is. is) refl h_c) h)

pub gone_fine : (is_clean : Bool) (n : ℕ) (s : State) → AllFine s → AllFine (gone is_clean n s)
unfolding gone
gone_fine is_clean n s h = by (conn s n)
  where
    by : (o : Option Conn) → AllFine (elim o as (λ x. State) [ None ↦ s | Some k ↦ end_replies (ended is_clean k s) ])
    by None = h
    by (Some k) = end_replies_fine _ (quiet_fine s _ (ended-quiet is_clean k s (quiet_same s)) h)

-- of the client that is written to as much was offered
pub said_steps : {b : Since} (m n : ℕ) (s : State) → Sound b s → ((x : Client) → client s m ≡ Some x → n ≤ length (offer s x)) → AllFine s → AllFine (said m n s)
unfolding said on_client
said_steps {b} m n s so offers h = by (client s m) refl
  where
    by : (o : Option Client) → client s m ≡ o → AllFine (elim o as (λ x. State) [ None ↦ s | Some x ↦ end_replies (on_client m (said_by n) (use_said n x s)) ])
    by None none = h
    by (Some x) found = end_replies_fine _ (changed_fine u (is_client m) (said_by n) (λ c i hit h_c. said_fine n c (left c i (same_number c.number m hit)) h_c) (quiet_fine s u quiet h))
      where
        u : State
        u = use_said n x s

        quiet : Quietly s u
        quiet = use_said-quiet n x s (quiet_same s)

        there : IsIn x s.clients × (is_client m x ≡ true)
        there = in_find (is_client m) x s.clients found

        left : (c : Client) → IsIn c u.clients → c.number ≡ m → IsOffered n c
        left c i number none r at off =
            let w = (facts_of quiet).clients_from c i in
            let one : w.was ≡ x = one_of client_number s.clients w.was x (sound_facts so).callers.rise w.there there.0 (sym w.is.number ∙ number ∙ sym (same_number x.number m there.1)) in
            let interim : c.interim_left ≡ x.interim_left = w.is.interim ∙ ap (λ (y : Client). y.interim_left) one in
            let stage : c.stage ≡ x.stage = w.is.stage ∙ ap (λ (y : Client). y.stage) one in
            offered_within s x n (offers x found) (sym (ap is_empty interim) ∙ none) r (sym stage ∙ at) off

pub ask_fine : (k n : ℕ) (s : State) → AllFine s → AllFine (ask k n s)
unfolding ask ask_next ask_body on_client_of on_exchange
ask_fine k n s h = by (asking s k)
  where
    at : (e : Exchange) (t : Bool) → AllFine (elim t as (λ x. State) [ false ↦ on_exchange e.number (asked_text n s.clock) s | true ↦ ask_body e n s ])
    at e false = all_fine (all_of h)
    at e true = changed_fine (on_exchange e.number (λ x. record x { body_left = x.body_left - n }) s) (is_for e) (asked_body n) (λ c i hit h_c. same_fine (asked_body n c) c (λ q is. is) refl h_c) (all_fine (all_of h))

    by : (o : Option Exchange) → AllFine (elim o as (λ x. State) [ None ↦ s | Some e ↦ ask_next e n s ])
    by None = h
    by (Some e) = at e (is_outstanding e)

-- ---- rows and chunks leave

pub evicted_fine : (s : State) → AllFine s → AllFine (evicted s)
unfolding evicted
evicted_fine s h = by (due_victim s)
  where
    by : (o : Option (ℕ × ℕ)) → AllFine (elim o as (λ x. State) [ None ↦ s | Some place ↦ drop_chunk place.0 place.1 s ])
    by None = h
    by (Some place) = quiet_fine s _ (drop_chunk-quiet place.0 place.1 s (quiet_same s)) h

refused_row_fine : (x : Instance) (s : State) → AllFine s → AllFine (refused_row x s)
unfolding refused_row
refused_row_fine x s h =
    all_fine (all_of (changed_fine (forget x.id s) (waits_for_row x.id) (λ c. record c { course = RowRefused }) (λ c i hit h_c. same_fine (record c { course = RowRefused }) c (λ q is. is) refl h_c)
    (quiet_fine s _ (forget-quiet x.id s (quiet_same s)) h)))

leave_memory_fine : (how : Leaving) (s : State) → AllFine s → AllFine (leave_memory how s)
unfolding leave_memory
leave_memory_fine ForAnother s h = all_fine (all_of (quiet_fine s _ (come_to-quiet Evicting s (quiet_same s)) h))
leave_memory_fine (ForMemory x) s h = refused_row_fine x _ (quiet_fine s _ (come_to-quiet Evicting s (quiet_same s)) h)
leave_memory_fine (BeforeDecision x) s h = all_fine (all_of (quiet_fine s _ (forget-quiet x.id _ (come_to_decide-quiet s (quiet_same s))) h))

pub forgotten_by_fine : (key : Bytes) (s : State) → AllFine s → AllFine (forgotten_by key s)
unfolding forgotten_by
forgotten_by_fine key s h = by (leaving_as s key)
  where
    by : (o : Option Leaving) → AllFine (elim o as (λ x. State) [ None ↦ s | Some how ↦ leave_memory how s ])
    by None = h
    by (Some how) = leave_memory_fine how s h

-- ---- the disk, and the opening

pub begun_op_fine : (op : DiskOp) (s : State) → AllFine s → AllFine (begun_op op s)
unfolding begun_op
begun_op_fine op s h = by (is_opening s)
  where
    by : (t : Bool) → AllFine (elim t as (λ x. State) [ true ↦ begin_in_opening op s | false ↦ begin_in_turn op (come_to Keeping s) ])
    by true = quiet_fine s _ (begin_in_opening-quiet op s (quiet_same s)) h
    by false = quiet_fine s _ (begin_in_turn-quiet op _ (come_to-quiet Keeping s (quiet_same s))) h

pub ended_op_fine : (op : DiskOp) (ok : Bool) (s : State) → AllFine s → AllFine (ended_op op ok s)
unfolding ended_op
ended_op_fine op true s h = quiet_fine s _ (end_op-quiet op true s (quiet_same s)) h
ended_op_fine op false s h = quiet_fine s _ (lose_in_opening-quiet s.agenda.name _ (end_op-quiet op false s (quiet_same s))) h

pub unread_fine : (name : Bytes) (s : State) → AllFine s → AllFine (unread name s)
unfolding unread
unread_fine name s h = paid_fine _ (quiet_fine s _ (lose_in_opening-quiet name _ (close_name-quiet name s (quiet_same s))) h)

-- nobody is there
opening_nobody : (s : State) → s.clients ≡ [] → (opening_begun s).clients ≡ []
unfolding opening_begun with_settings
opening_nobody s none = by (are_texts s.term) (names_file s.term)
  where
    by_settings : (o : Option Settings) → (with_settings o s).clients ≡ []
    by_settings None = none
    by_settings (Some c) = none

    by : (a b : Bool) → (elim a as (λ x. State) [
      | false ↦ with_settings None s
      | true ↦ elim b as (λ x. State) [ true ↦ record s { phase = IsWoken } | false ↦ with_settings (settings_in (reading_of s.term.words None)) s ]
    ]).clients ≡ []
    by false b = by_settings None
    by true true = none
    by true false = by_settings (settings_in (reading_of s.term.words None))

pub woken_fine : (image : Files) (s : State) → AllFine (woken image s)
unfolding woken
woken_fine image s = all_fine (λ c i. absurd (subst (λ cs. IsIn c cs) (opening_nobody _ refl) i))

-- ---- closings and places

pub shut_fine : (n : ℕ) (s : State) → AllFine s → AllFine (shut n s)
unfolding shut
shut_fine n s h = filtered_fine (close_client n false s) (λ c. not (is_client n c)) (quiet_fine s _ (close_client-quiet n false s (quiet_same s)) h)

placed_fine : (s : State) → AllFine s → AllFine (placing s).state
placed_fine s h = quiet_fine s _ (placing-quiet s (quiet_same s)) h

pub dialled_fine : (n : ℕ) (host : Bytes) (port : ℕ) (s : State) → AllFine s → AllFine (dialled n host port (placing s))
unfolding dialled
dialled_fine n host port s h = by (placing s).pause
  where
    t : State
    t = (placing s).state

    more : State
    more = record t { conns = t.conns ++ new_conn n host port t.clock ∷ []; top = n }

    by : (pause : Pause) → AllFine (elim pause as (λ x. State) [
      | AllPlaced ↦ t
      | WaitsDrop k e ↦ t
      | WaitsDial e ↦ put_on e.number n (record t { conns = t.conns ++ new_conn n host port t.clock ∷ []; top = n })
    ])
    by AllPlaced = placed_fine s h
    by (WaitsDrop k e) = placed_fine s h
    by (WaitsDial e) = quiet_fine more _ (put_on-quiet e.number n more (quiet_same more)) (all_fine (all_of (placed_fine s h)))

refused_dial_fine : (e : Exchange) (s : State) → AllFine s → AllFine (refused_dial e s)
unfolding refused_dial
refused_dial_fine e s h = by (may_ask_again s e.number)
  where
    by : (t : Bool) → AllFine (elim t as (λ x. State) [ true ↦ s | false ↦ fill (end_exchange e.number s) ])
    by true = h
    by false = quiet_fine s _ (fill-quiet _ (end_exchange-quiet e.number s (quiet_same s))) h

pub undialled_fine : (s : State) → AllFine s → AllFine (undialled (placing s))
unfolding undialled
undialled_fine s h = by (placing s).pause
  where
    t : State
    t = (placing s).state

    failed : State
    failed = record t { failures = t.failures + 1 }

    by : (pause : Pause) → AllFine (elim pause as (λ x. State) [ AllPlaced ↦ t | WaitsDrop k e ↦ t | WaitsDial e ↦ refused_dial e (lose_attempt e failed) ])
    by AllPlaced = placed_fine s h
    by (WaitsDrop k e) = placed_fine s h
    by (WaitsDial e) = refused_dial_fine e _ (quiet_fine failed _ (lose_attempt-quiet e failed (quiet_same failed)) (all_fine (all_of (placed_fine s h))))

pub dropped_fine : (n : ℕ) (s : State) → AllFine s → AllFine (dropped n s)
unfolding dropped out
dropped_fine n s h = by (conn s n)
  where
    at : (t : Bool) → AllFine (elim t as (λ x. State) [ true ↦ out n s | false ↦ out n (placing s).state ])
    at true = all_fine (all_of h)
    at false = all_fine (all_of (placed_fine s h))

    by : (o : Option Conn) → AllFine (elim o as (λ x. State) [ None ↦ s | Some k ↦ elim k.is_closing as (λ x. State) [ true ↦ out n s | false ↦ out n (placing s).state ] ])
    by None = h
    by (Some k) = at k.is_closing

-- ---- the end of a turn

pub ending_fine : (s : State) → AllFine s → AllFine (ending s)
unfolding ending
ending_fine s h = begin_replies_fine _ (quiet_fine s _ (come_to-quiet DecidingAgain s (quiet_same s)) h)
