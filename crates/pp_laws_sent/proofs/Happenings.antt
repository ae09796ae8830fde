-- Each happening but what is read of an origin keeps how far that was read, and that what is on record stands in it.
use Rattle.std.proofs.Common.{refl, ℕ, ◌+◌, Bool, true, false, not, List, [], ◌∷◌, length, Option, Some, None}
use Rattle.pp_conf.specs.Conf.{Settings}
use Rattle.pp_conf.specs.Words.{reading_of}
use Rattle.pp_world.specs.Files.{Files}
use Rattle.pp_world.specs.declared.event.Wants.{Wants}
use Rattle.pp_world.specs.declared.happening.Happening.TheVariants.{Woke, Waits, Clock, Opened, CanRead, CanWrite, Heard, HungUp, Said, Shut, Dialled, Undialled, Reached, Ended, Broke, Asked, Got, Dropped, NoneYet, Began, Did, Unread, Noted, Rooted, Listed, Listens, Configured, Printed, Stopped}
use Rattle.pp_world.specs.declared.happening.Happening.{Happening}
use Rattle.pp_world.specs.declared.note.Decision.{Decision}
use Rattle.pp_world.specs.declared.note.Remark.TheVariants.{Taken, Cut, Kept, Gone, Forgotten, Evicted, Loaded}
use Rattle.pp_world.specs.declared.note.Remark.{Remark}
use Rattle.pp_world.specs.declared.op.DiskOp.{DiskOp}
use Rattle.pp_law.specs.After.{waits_for_row, event, opened, owing, reached, paid, said, gone, take_decision, evicted, brings_to, dropping_body, refused_row, leave_memory, forgotten_by, noted, begun_op, ended_op, unread, shut, dialled, refused_dial, undialled, out, dropped, changed}
use Rattle.pp_law.specs.Chunks.{note_use}
use Rattle.pp_law.specs.Connections.{client, conn, is_client, lose_attempt, may_ask_again, placing, Placement}
use Rattle.pp_law.specs.Leaving.{Leaving, ForAnother, ForMemory, BeforeDecision, leaving_as}
use Rattle.pp_law.specs.Lists.{Bytes, change}
use Rattle.pp_law.specs.Opening.{are_texts, begun, configured, is_at, is_opening, names_file, opened_to, settings_in, stuck, with_settings, woken}
use Rattle.pp_law.specs.Phases.{phases, is_done, behind, next, come, come_to, come_to_decide, decides, deciding, due_victim, ending}
use Rattle.pp_law.specs.Replies.{said_by}
use Rattle.pp_law.specs.State.{State, RowRefused, Phase, Before, IsWoken, IsConfigured, IsRooted, IsListed, IsListening, IsStuck, Awaiting, Handling, Evicting, Keeping, Deciding, Following, Connecting, DecidingAgain, Owed, ReadOf, WriteTo, Exchange, Instance}
use Rattle.pp_law.specs.Table.{forget, kept_row, row}
use Rattle.pp_law.specs.Store.{load, load_from}
use Rattle.pp_law.specs.Turn.{rest_with}
use Rattle.pp_laws.proofs.Callers.{said_by-same}
use Rattle.pp_laws.proofs.Lists.{in_find}
use Rattle.pp_laws_pool.proofs.View.{View, Walk, Holds, holds, facts_of, view}
use Rattle.pp_laws_pool.proofs.WalkCases.{by_pause, each_of, each_so, when}
use Rattle.pp_laws_pool.proofs.WalkClients.{ask-keeps, begin_replies-keeps, close_client-keeps, decided-keeps, end_replies-keeps, fill-keeps, give_up_asks-keeps, hang_up-keeps, hear-keeps, regained-keeps, use_said-keeps}
use Rattle.pp_laws_pool.proofs.WalkDisk.{begin_in_opening-keeps, begin_in_turn-keeps, close_name-keeps, end_op-keeps, lose_in_opening-keeps, note_gone-keeps, note_kept-keeps}
use Rattle.pp_laws_pool.proofs.WalkExchanges.{clients_changed-keeps, exchanges_changed-keeps, end_exchange-keeps, lose_attempt-keeps, on_client-keeps, on_conn-keeps}
use Rattle.pp_laws_pool.proofs.WalkPieces.{ended-keeps}
use Rattle.pp_laws_pool.proofs.WalkRows.{drop_chunk-keeps, forget-keeps}
use Rattle.pp_laws_pool.proofs.WalkSteps.{drop_unseen-keeps, placing-keeps, rested-keeps, tick-keeps, touch-keeps}
use Rattle.pp_law.specs.After.{new_conn}
use Rattle.pp_law.specs.Connections.{is_conn}
use Rattle.pp_laws_pool.proofs.WalkExchanges.{same_ask, same_conn}
use Rattle.pp_laws_sent.proofs.Came.{Rests, came_walk, no_end, none_apart, rests_added, rests_begin, rests_fewer, rests_place}

-- nothing of an origin is read
abbrev pub ReadsNothing : Happening → Type 0
ReadsNothing (Got n bytes) = ⊥
ReadsNothing h = Unit {0}

module _ (total : ℕ → Bytes) (asked : ℕ → Exchange → Type 0) (firsts : ℕ → Option ℕ) where
  abbrev P : View → Type 0
  P v = Rests total asked firsts v

  steps : Walk P
  steps = came_walk total no_end asked firsts false none_apart

  -- ---- phases

  behind-rests : (phase : Phase) (s : State) → Holds P s → Holds P (behind phase s)
  behind-rests Before s h = h
  behind-rests IsWoken s h = h
  behind-rests IsConfigured s h = h
  behind-rests IsRooted s h = h
  behind-rests IsListed s h = h
  behind-rests IsListening s h = h
  behind-rests IsStuck s h = h
  behind-rests Awaiting s h = h
  behind-rests Handling s h = holds (facts_of h)
  behind-rests Evicting s h = give_up_asks-keeps steps _ (holds (facts_of h))
  behind-rests Keeping s h = holds (facts_of h)
  behind-rests Deciding s h = holds (facts_of h)
  behind-rests Following s h = fill-keeps steps (rests_begin total asked firsts) _ (give_up_asks-keeps steps _ (drop_unseen-keeps steps _ (holds (facts_of h))))
  behind-rests Connecting s h = placing-keeps (rests_place total asked firsts) _ (holds (facts_of h))
  behind-rests DecidingAgain s h = h

  next-rests : (s : State) → Holds P s → Holds P (next s)
  unfolding next
  next-rests s h = behind-rests s.phase s h

  come-rests : (stops : State → Bool) (ps : List Phase) (s : State) → Holds P s → Holds P (come stops ps s)
  unfolding come
  come-rests stops [] s h = h
  come-rests stops (p ∷ ps) s h = come-rests stops ps _ (when (is_at p s) (when (stops s) h (when (is_done s) (next-rests s h) h)) h)

  come_to-rests : (phase : Phase) (s : State) → Holds P s → Holds P (come_to phase s)
  unfolding come_to
  come_to-rests phase s h = come-rests (is_at phase) phases s h

  come_to_decide-rests : (s : State) → Holds P s → Holds P (come_to_decide s)
  unfolding come_to_decide
  come_to_decide-rests s h = come-rests decides phases s h

  deciding-rests : (s : State) → Holds P s → Holds P (deciding s)
  unfolding deciding
  deciding-rests s h = holds (facts_of (come_to_decide-rests s h))

  -- ---- events

  event-rests : (s : State) → Holds P s → Holds P (event s)
  unfolding event
  event-rests s h = regained-keeps steps _ (holds (facts_of h))

  paid-rests : (s : State) → Holds P s → Holds P (paid s)
  unfolding paid
  paid-rests s h = regained-keeps steps _ (holds (facts_of h))

  owing-rests : (owed : Owed) (n : ℕ) (s : State) → Holds P s → Holds P (event (owing owed n s))
  unfolding owing
  owing-rests owed n s h = event-rests _ (holds (facts_of (touch-keeps steps n s h)))

  said-rests : (c n : ℕ) (s : State) → Holds P s → Holds P (said c n s)
  unfolding said
  said-rests c n s h = each_of (client s c) h (λ x. end_replies-keeps steps _ (on_client-keeps steps c (said_by n) _ (λ y. (said_by-same n y).number) (use_said-keeps (λ id i d v found g. g) n x s h)))

  gone-rests : (is_clean : Bool) (n : ℕ) (s : State) → Holds P s → Holds P (gone is_clean n s)
  unfolding gone
  gone-rests is_clean n s h = each_of (conn s n) h (λ k. end_replies-keeps steps _ (ended-keeps steps is_clean k s h))

  -- ---- notes

  take_decision-rests : (n : ℕ) (d : Decision) (s : State) → Holds P s → Holds P (take_decision n d s)
  unfolding take_decision
  take_decision-rests n d s h = each_so (client s n) (λ none. h) (λ c found. regained-keeps steps _ (holds (facts_of (decided-keeps steps (rests_begin total asked firsts) c d s (in_find (is_client n) c s.clients found).0 h))))

  evicted-rests : (s : State) → Holds P s → Holds P (evicted s)
  unfolding evicted
  evicted-rests s h = each_of (due_victim s) h (λ place. drop_chunk-keeps steps place.0 place.1 s h)

  refused_row-rests : (x : Instance) (s : State) → Holds P s → Holds P (refused_row x s)
  unfolding refused_row
  refused_row-rests x s h =
      let told : State = record (forget x.id s) { clients = change (waits_for_row x.id) (λ c. record c { course = RowRefused }) (forget x.id s).clients } in
      holds (exchanges_changed-keeps steps (brings_to x.id) dropping_body (view told) (λ e. same_ask _ e refl refl refl refl refl refl)
      (clients_changed-keeps steps (waits_for_row x.id) (λ c. record c { course = RowRefused }) (view (forget x.id s)) (λ c. refl) (facts_of (forget-keeps steps x.id s h))))

  leave_memory-rests : (how : Leaving) (s : State) → Holds P s → Holds P (leave_memory how s)
  unfolding leave_memory
  leave_memory-rests ForAnother s h = holds (facts_of (come_to-rests Evicting s h))
  leave_memory-rests (ForMemory x) s h = refused_row-rests x _ (come_to-rests Evicting s h)
  leave_memory-rests (BeforeDecision x) s h = holds (facts_of (forget-keeps steps x.id _ (come_to_decide-rests s h)))

  forgotten_by-rests : (key : Bytes) (s : State) → Holds P s → Holds P (forgotten_by key s)
  unfolding forgotten_by
  forgotten_by-rests key s h = each_of (leaving_as s key) h (λ how. leave_memory-rests how s h)

  load-rests : (key : Bytes) (i : ℕ) (s : State) → Holds P s → Holds P (load key i s)
  unfolding load load_from note_use
  load-rests key i s h = each_of (row s key) h (λ x. each_of (kept_row s key) h (λ e. holds (facts_of h)))

  noted-rests : (remark : Remark) (s : State) → Holds P s → Holds P (noted remark s)
  unfolding noted
  noted-rests (Taken c i d) s h = take_decision-rests c d _ (deciding-rests s h)
  noted-rests (Cut c cause) s h = close_client-keeps steps c true _ (deciding-rests s h)
  noted-rests (Kept key tag n extent) s h = note_kept-keeps key extent s h
  noted-rests (Gone key) s h = note_gone-keeps key _ (come_to-rests Keeping s h)
  noted-rests (Forgotten key) s h = forgotten_by-rests key s h
  noted-rests (Evicted key tag n i) s h = evicted-rests _ (come_to-rests Evicting s h)
  noted-rests (Loaded key tag n i) s h = load-rests key i s h

  -- ---- the disk, and the opening

  begun_op-rests : (op : DiskOp) (s : State) → Holds P s → Holds P (begun_op op s)
  unfolding begun_op
  begun_op-rests op s h = when (is_opening s) (begin_in_opening-keeps op s h) (begin_in_turn-keeps op _ (come_to-rests Keeping s h))

  ended_op-rests : (op : DiskOp) (ok : Bool) (s : State) → Holds P s → Holds P (ended_op op ok s)
  unfolding ended_op
  ended_op-rests op true s h = end_op-keeps op true s h
  ended_op-rests op false s h = lose_in_opening-keeps s.agenda.name _ (end_op-keeps op false s h)

  unread-rests : (name : Bytes) (s : State) → Holds P s → Holds P (unread name s)
  unfolding unread
  unread-rests name s h = paid-rests _ (lose_in_opening-keeps name _ (close_name-keeps name s h))

  with_settings-rests : (o : Option Settings) (s : State) → Holds P s → Holds P (with_settings o s)
  unfolding with_settings
  with_settings-rests None s h = holds (facts_of h)
  with_settings-rests (Some c) s h = holds (facts_of h)

  begun-rests : (s : State) → Holds P s → Holds P (begun s)
  unfolding begun
  begun-rests s h = by (are_texts s.term)
    where
      by : (t : Bool) → Holds P (elim t as (λ c. State) [
        | false ↦ with_settings None s
        | true ↦ elim (names_file s.term) as (λ c. State) [ true ↦ record s { phase = IsWoken } | false ↦ with_settings (settings_in (reading_of s.term.words None)) s ]
      ])
      by false = with_settings-rests None s h
      by true = when (names_file s.term) (holds (facts_of h)) (with_settings-rests (settings_in (reading_of s.term.words None)) s h)

  opened_to-rests : (phase : Phase) (ok : Bool) (s : State) → Holds P s → Holds P (opened_to phase ok s)
  unfolding opened_to stuck
  opened_to-rests phase true s h = holds (facts_of h)
  opened_to-rests phase false s h = holds (facts_of h)

  configured-rests : (text : Option Bytes) (s : State) → Holds P s → Holds P (configured text s)
  unfolding configured stuck
  configured-rests None s h = holds (facts_of h)
  configured-rests (Some text) s h = with_settings-rests (settings_in (reading_of s.term.words (Some text))) s h

  -- ---- places

  undialled-rests : (p : Placement) → Holds P p.state → Holds P (undialled p)
  unfolding undialled refused_dial
  undialled-rests p h = by_pause p.pause h (λ k e. h) (λ e. refused e (lost e))
    where
      lost : (e : Exchange) → Holds P (lose_attempt e (record p.state { failures = p.state.failures + 1 }))
      lost e = lose_attempt-keeps steps e _ (holds (facts_of h))

      refused : (e : Exchange) → Holds P (lose_attempt e (record p.state { failures = p.state.failures + 1 })) → Holds P (refused_dial e (lose_attempt e (record p.state { failures = p.state.failures + 1 })))
      refused e g = when (may_ask_again (lose_attempt e (record p.state { failures = p.state.failures + 1 })) e.number) g (fill-keeps steps (rests_begin total asked firsts) _ (end_exchange-keeps steps e.number _ g))

  -- ---- all

  rest_with-rests : (w : Wants) (s : State) → Holds P s → Holds P (rest_with w s)
  unfolding rest_with
  rest_with-rests w s h = holds (rested-keeps steps w s h)

  ending-rests : (s : State) → Holds P s → Holds P (ending s)
  unfolding ending
  ending-rests s h = begin_replies-keeps steps _ (come_to-rests DecidingAgain s h)

  opened-rests : (n : ℕ) (s : State) → Holds P s → Holds P (opened n s)
  unfolding opened
  opened-rests n s h = holds (facts_of h)

  reached-rests : (n : ℕ) (s : State) → Holds P s → Holds P (reached n s)
  unfolding reached
  reached-rests n s h = touch-keeps steps n _ (on_conn-keeps steps n (λ k. record k { is_reached = true }) s (λ k. same_conn _ k refl refl refl refl refl) h)

  -- a life begins with nobody, and what was sent is not forgotten
  woken-rests : (image : Files) (s : State) → Holds P s → Holds P (woken image s)
  unfolding woken
  woken-rests image s h = begun-rests _ (holds (record {
    stand = (facts_of h).stand;
    read = λ k i. absurd i;
    more = λ k i. absurd i;
    past = λ k a i. absurd i;
    shut = λ k i. absurd i;
    begun = λ k a i. absurd i;
    going = λ k a i. absurd i;
    rise = λ on. absurd (cc on);
    from = λ on. absurd (cc on);
  }))

  shut-rests : (n : ℕ) (s : State) → Holds P s → Holds P (shut n s)
  unfolding shut
  shut-rests n s h = holds (facts_of (close_client-keeps steps n false s h))

  dialled-rests : (n : ℕ) (host : Bytes) (port : ℕ) (p : Placement) → Holds P p.state → Holds P (dialled n host port p)
  unfolding dialled
  dialled-rests n host port p h = by_pause p.pause h (λ k e. h) (λ e. holds (rests_place total asked firsts e.number n _ (rests_added total asked firsts (view p.state) (new_conn n host port p.state.clock) refl refl (facts_of h))))

  out-rests : (n : ℕ) (s : State) → Holds P s → Holds P (out n s)
  unfolding out
  out-rests n s h = holds (rests_fewer total asked firsts (λ k. not (is_conn n k)) (view s) (facts_of h))

  dropped-rests : (n : ℕ) (s : State) → Holds P s → Holds P (dropped n s)
  unfolding dropped
  dropped-rests n s h = each_of (conn s n) h (λ k. when k.is_closing (out-rests n s h) (out-rests n _ (placing-keeps (rests_place total asked firsts) s h)))

  -- ---- all

  pub changed-rests : (s : State) (h : Happening) → ReadsNothing h → Holds P s → Holds P (changed s h)
  unfolding changed
  changed-rests s (Woke image) is h = woken-rests image s h
  changed-rests s (Waits w) is h = rest_with-rests w _ (ending-rests s h)
  changed-rests s (Clock seconds) is h = event-rests _ (tick-keeps steps seconds s h)
  changed-rests s (Opened n) is h = event-rests _ (opened-rests n s h)
  changed-rests s (CanRead n) is h = owing-rests (ReadOf n) n s h
  changed-rests s (CanWrite n) is h = owing-rests (WriteTo n) n s h
  changed-rests s (Heard c bytes) is h = paid-rests _ (hear-keeps steps c bytes s h)
  changed-rests s (HungUp c) is h = paid-rests _ (hang_up-keeps steps c s h)
  changed-rests s (Said c offered bytes) is h = paid-rests _ (said-rests c (length bytes) s h)
  changed-rests s (Shut c) is h = shut-rests c _ (come_to-rests Connecting s h)
  changed-rests s (Dialled n host port) is h = dialled-rests n host port (placing (come_to Connecting s)) (placing-keeps (rests_place total asked firsts) _ (come_to-rests Connecting s h))
  changed-rests s (Undialled host port) is h = undialled-rests (placing (come_to Connecting s)) (placing-keeps (rests_place total asked firsts) _ (come_to-rests Connecting s h))
  changed-rests s (Reached n) is h = event-rests _ (reached-rests n s h)
  changed-rests s (Ended n) is h = paid-rests _ (gone-rests true n s h)
  changed-rests s (Broke n) is h = paid-rests _ (gone-rests false n _ (event-rests s h))
  changed-rests s (Asked n bytes) is h = paid-rests _ (ask-keeps steps n (length bytes) s h)
  changed-rests s (Got n bytes) is h = absurd is
  changed-rests s (Dropped n) is h = dropped-rests n _ (come_to-rests Connecting s h)
  changed-rests s (NoneYet n) is h = paid-rests s h
  changed-rests s (Began op) is h = begun_op-rests op s h
  changed-rests s (Did op ok) is h = ended_op-rests op ok s h
  changed-rests s (Unread name) is h = unread-rests name s h
  changed-rests s (Noted remark) is h = noted-rests remark s h
  changed-rests s (Rooted folder) is h = opened_to-rests IsRooted true s h
  changed-rests s (Listed ok) is h = opened_to-rests IsListed ok s h
  changed-rests s (Listens port ok) is h = opened_to-rests IsListening ok s h
  changed-rests s (Configured file text) is h = configured-rests text s h
  changed-rests s (Printed text) is h = h
  changed-rests s Stopped is h = event-rests _ (holds (facts_of h))
