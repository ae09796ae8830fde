-- Each permitted happening keeps it, and so does a lawful log.
use Rattle.std.specs.Prelude.{if◌then◌else◌}
use Rattle.std.proofs.lemmas.List.{append-nil}
use Rattle.std.proofs.Common.{◌≡◌, ◌⊎◌, refl, ℕ, ◌-◌, ◌<◌, Bool, true, false, not, ◌&&◌, List, [], ◌∷◌, ◌++◌, map, filter, length, Option, Some, None, option_and_then, inl, inr, sym, subst, ap, ◌∙◌, append_assoc, take, lt_of_le_of_lt, ◌==◌}
use Rattle.pp_conf.specs.Conf.{Settings}
use Rattle.pp_conf.specs.Words.{reading_of}
use Rattle.pp_peers.specs.declared.placing.Placed.TheVariants.{On, Dial, CloseThenDial, Wait}
use Rattle.pp_peers.specs.declared.placing.Placed.{Placed}
use Rattle.pp_world.specs.Files.{Files}
use Rattle.pp_world.specs.Log.{Log}
use Rattle.pp_world.specs.Streams.{said_in, said as said_to}
use Rattle.pp_world.specs.declared.happening.Happening.TheVariants.{Woke, Waits, Clock, Opened, CanRead, CanWrite, Heard, HungUp, Said, Shut, Dialled, Undialled, Reached, Ended, Broke, Asked, Got, Dropped, NoneYet, Began, Did, Unread, Noted, Rooted, Listed, Listens, Configured, Printed, Stopped}
use Rattle.pp_world.specs.declared.happening.Happening.{Happening}
use Rattle.pp_world.specs.declared.note.Remark.TheVariants.{Taken, Cut, Kept, Gone, Forgotten, Evicted, Loaded}
use Rattle.pp_world.specs.declared.note.Decision.{Decision}
use Rattle.pp_world.specs.declared.note.Remark.{Remark}
use Rattle.pp_world.specs.declared.op.DiskOp.{DiskOp}
use Rattle.pp_law.specs.After.{new_client, new_conn, event, opened, owing, reached, paid, said, gone, take_decision, evicted, waits_for_row, brings_to, dropping_body, refused_row, leave_memory, forgotten_by, noted, begun_op, ended_op, unread, shut, dialled, refused_dial, undialled, out, dropped, changed, after}
use Rattle.pp_law.specs.Asking.{asking, is_writing, hear, ask_body, ask_next, ask, hang_up, asked_text, asked_body}
use Rattle.pp_law.specs.Closing.{close_client}
use Rattle.pp_law.specs.Connections.{client, conn, exchange, is_client, is_conn, is_exchange, is_for, is_outstanding, on_client, may_ask_again, place_for, place_each, placing, put_on, if_unplaced, Placement, Pause, AllPlaced, WaitsDial, WaitsDrop}
use Rattle.pp_law.specs.Hearing.{heard_by}
use Rattle.pp_law.specs.Lawful.{LawfulFrom}
use Rattle.pp_law.specs.Leaving.{Leaving, ForAnother, ForMemory, BeforeDecision, leaving_as}
use Rattle.pp_law.specs.Lists.{Bytes, change, is_some_with, is_this}
use Rattle.pp_law.specs.Offers.{offer}
use Rattle.pp_law.specs.Responses.{payload_of}
use Rattle.pp_law.specs.Opening.{woken, begun as opening_begun, with_settings, settings_in, are_texts, names_file, is_opening}
use Rattle.pp_law.specs.Permits.{IsPermitted, permits_taken}
use Rattle.pp_law.specs.Phases.{due_victim, come_to_decide, deciding, ending, in_phase}
use Rattle.pp_law.specs.Replies.{said_by, regained, use_said}
use Rattle.pp_law.specs.Stages.{bound_in, is_begun, is_headed, is_passing, is_pending, passed_of}
use Rattle.pp_law.specs.State.{State, Term, RowRefused, Body, Pending, Joining, Relaying, Dropping, Client, Stage, Undecided, Waiting, Passing, Answering, Conn, Exchange, Instance, Passed, IsRooted, IsListed, IsListening, IsWoken, Handling, Evicting, Keeping, Deciding, Following, Connecting, DecidingAgain, Owed, ReadOf, WriteTo, start}
use Rattle.pp_law.specs.Table.{forget}
use Rattle.pp_laws.specs.Numbers.{AreRising}
use Rattle.pp_laws.specs.Runs.{IsIn, after_all, state_after}
use Rattle.pp_laws.proofs.Happenings.{after-sound}
use Rattle.pp_laws.proofs.Laws.{start-sound}
use Rattle.pp_laws.proofs.Lists.{Changed, in_change, in_filter, in_find, in_push, one_of, other, rise_change, rise_filter, rise_push, same}
use Rattle.pp_laws.proofs.Sound.{Since, Sound, facts_of as sound_facts, client_number, conn_number, first_of, source_in}
use Rattle.pp_laws.proofs.Tests.{number_same, same_number}
use Rattle.pp_laws.proofs.Callers.{said_by-same}
use Rattle.pp_laws_replies.proofs.StoryHappenings.{opened_above}
use Rattle.pp_laws_replies.proofs.Usable.{TakenFor, due_off, permitted_taken, taken_for}
use Rattle.pp_laws_replies.proofs.StorySaid.{no_client, said_front}
use Rattle.pp_laws_passed.specs.Passed.{IsShown, all_spelled, is_in_passed, IsFedBy, PassedIsOneResponse, PassedIsAllThatCame, PiecesJoin, last_of, to_say}
use Rattle.pp_laws_passed.proofs.Delivered.{in_pipe, payload_grown}
use Rattle.pp_laws_passed.proofs.Cases.{by_pause, each_of, each_so, when}
use Rattle.pp_laws_passed.proofs.Fed.{AreAnswered, Fed, Feeds, Grows, Keeps, FactsOf, FromClient, Relays, SameClient, SameExchange, Tale, clients_changed, conn_added, conns_from, exchanges_changed, facts_across, facts_from, facts_of, fed, is_in_other, itself_client, itself_conn, itself_answer, itself_exchange, parts_across, parts_same, still}
use Rattle.pp_laws_passed.proofs.FedAsks.{IsUnheaded, close_client-fed, end_exchange-fed, fill-fed, lose_attempt-fed, on_client-fed, on_client_of-fed, on_conn-fed, on_exchange-fed, placing-fed, put_on-fed, unplaced_unheaded}
use Rattle.pp_laws_passed.proofs.FedHeads.{EndsWell, ended-fed, got-fed}
use Rattle.pp_laws_passed.proofs.FedReplies.{IsFree, begin_replies-fed, decided-fed, end_replies-fed, heard_same, said_same}
use Rattle.pp_laws_passed.proofs.FedTurns.{come_to-fed, come_to_decide-fed, deciding-fed, in_phase-fed, regained-fed, rest_with-fed, tick-fed, touch-fed, use_said-fed, use_said-same}
use Rattle.pp_laws_passed.proofs.Same.{Same, alike, facts_of as parts_of, itself}
use Rattle.pp_laws_passed.proofs.SameRows.{begin_in_opening-same, begin_in_turn-same, close_name-same, configured-same, drop_chunk-same, end_op-same, forget-same, load-same, lose_in_opening-same, note_gone-same, note_kept-same, opened_to-same}

-- what brings something has its head
bringing_headed : (id : ℕ) (body : Body) → is_some_with (λ b. b.instance == id) (bound_in body) ≡ true → not (is_pending body) ≡ true
bringing_headed id Pending is = absurd (cc is)
bringing_headed id (Joining b) is = refl
bringing_headed id Relaying is = refl
bringing_headed id Dropping is = refl

module _ {tale : Tale} where
  pub event-fed : (s : State) → Fed tale s → Fed tale (event s)
  unfolding event
  event-fed s h = regained-fed _ (in_phase-fed Handling s h)

  owing-fed : (owed : Owed) (n : ℕ) (s : State) → Fed tale s → Fed tale (owing owed n s)
  unfolding owing
  owing-fed owed n s h = fed (facts_of (touch-fed n s h))

  reached-fed : (n : ℕ) (s : State) → Fed tale s → Fed tale (reached n s)
  unfolding reached
  reached-fed n s h = touch-fed n _ (on_conn-fed n (λ k. record k { is_reached = true }) s (λ k. record { number = refl; line = refl; answer = refl }) h)

  pub paid-fed : (s : State) → Fed tale s → Fed tale (paid s)
  unfolding paid
  paid-fed s h = regained-fed _ (fed (facts_of h))

  evicted-fed : (s : State) → Fed tale s → Fed tale (evicted s)
  unfolding evicted
  evicted-fed s h = each_of (due_victim s) h (λ place. still (drop_chunk-same place.0 place.1 s (itself s)) h)

  refused_row-fed : (x : Instance) (s : State) → Fed tale s → Fed tale (refused_row x s)
  unfolding refused_row
  refused_row-fed x s h =
      fed (clients_changed (record (forget x.id s) { exchanges = change (brings_to x.id) dropping_body (forget x.id s).exchanges }) (waits_for_row x.id) (λ c. record c { course = RowRefused }) (λ c. parts_same _ c refl refl refl refl refl)
      (exchanges_changed (forget x.id s) (brings_to x.id) dropping_body (λ e i is. record { number = refl; asker = λ n g. g; headed = sym (bringing_headed x.id e.body is); place = λ g none. none }) (λ e. refl) (facts_of (still (forget-same x.id s (itself s)) h))))

  leave_memory-fed : (how : Leaving) (s : State) → Fed tale s → Fed tale (leave_memory how s)
  unfolding leave_memory
  leave_memory-fed ForAnother s h = fed (facts_of (come_to-fed Evicting s h))
  leave_memory-fed (ForMemory x) s h = refused_row-fed x _ (come_to-fed Evicting s h)
  leave_memory-fed (BeforeDecision x) s h = fed (facts_of (still (forget-same x.id _ (itself _)) (come_to_decide-fed s h)))

  forgotten_by-fed : (key : Bytes) (s : State) → Fed tale s → Fed tale (forgotten_by key s)
  unfolding forgotten_by
  forgotten_by-fed key s h = each_of (leaving_as s key) h (λ how. leave_memory-fed how s h)

  begun_op-fed : (op : DiskOp) (s : State) → Fed tale s → Fed tale (begun_op op s)
  unfolding begun_op
  begun_op-fed op s h = when (is_opening s) (still (begin_in_opening-same op s (itself s)) h) (still (begin_in_turn-same op _ (itself _)) (come_to-fed Keeping s h))

  ended_op-fed : (op : DiskOp) (ok : Bool) (s : State) → Fed tale s → Fed tale (ended_op op ok s)
  unfolding ended_op
  ended_op-fed op true s h = still (end_op-same op true s (itself s)) h
  ended_op-fed op false s h = still (lose_in_opening-same s.agenda.name _ (end_op-same op false s (itself s))) h

  unread-fed : (name : Bytes) (s : State) → Fed tale s → Fed tale (unread name s)
  unfolding unread
  unread-fed name s h = paid-fed _ (still (lose_in_opening-same name _ (close_name-same name s (itself s))) h)

  refused_dial-fed : (e : Exchange) (s : State) → Fed tale s → Fed tale (refused_dial e s)
  unfolding refused_dial
  refused_dial-fed e s h = when (may_ask_again s e.number) h (fill-fed _ (end_exchange-fed e.number s h))

  undialled-fed : (p : Placement) → Fed tale p.state → Fed tale (undialled p)
  unfolding undialled
  undialled-fed p h = by_pause p.pause h (λ k e. h) (λ e. refused_dial-fed e _ (lose_attempt-fed e _ (fed (facts_of h))))

  out-fed : (n : ℕ) (s : State) → Fed tale s → Fed tale (out n s)
  unfolding out
  out-fed n s h = fed (conns_from s (filter (λ k. not (is_conn n k)) s.conns) (λ k i. itself_conn s k (in_filter (λ j. not (is_conn n j)) k s.conns i).0) (λ k i. itself_answer s k (in_filter (λ j. not (is_conn n j)) k s.conns i).0) (facts_of h))

  dropped-fed : (n : ℕ) (s : State) → Fed tale s → Fed tale (dropped n s)
  unfolding dropped
  dropped-fed n s h = each_of (conn s n) h (λ k. when k.is_closing (out-fed n s h) (out-fed n _ (placing-fed s h)))

  -- the one that waits for a dial has no place, so no head came to it
  paused : (ns : List ℕ) (s : State) (e : Exchange) → Fed tale s → (place_each ns s).pause ≡ WaitsDial e → IsUnheaded e.number (place_each ns s).state
  paused [] s e h is = absurd (cc is)
  paused (n ∷ ns) s e h is = at (λ t ht has. paused ns t e ht has) (option_and_then if_unplaced (exchange s n)) refl is
    where
      number_of : (d : Exchange) → option_and_then if_unplaced (exchange s n) ≡ Some d → d.number ≡ n
      number_of d found = by (exchange s n) refl found
        where
          by : (o : Option Exchange) → exchange s n ≡ o → option_and_then if_unplaced o ≡ Some d → d.number ≡ n
          by None none has = absurd (cc has)
          by (Some x) some has = place x.place has
            where
              place : (p : Option ℕ) → (elim p as (λ y. Option Exchange) [ Some k ↦ None | None ↦ Some x ]) ≡ Some d → d.number ≡ n
              place (Some k) other_one = absurd (cc other_one)
              place None it = let eq : x ≡ d = cc in sym (ap (λ (y : Exchange). y.number) eq) ∙ same_number x.number n (in_find (is_exchange n) x s.exchanges some).1

      by_place : ((t : State) → Fed tale t → (place_each ns t).pause ≡ WaitsDial e → IsUnheaded e.number (place_each ns t).state) → (d : Exchange) (wanted : Placed) → option_and_then if_unplaced (exchange s n) ≡ Some d → let p : Placement = elim wanted as (λ c. Placement) [
        | On k ↦ place_each ns (put_on n k s)
        | Wait ↦ place_each ns s
        | Dial ↦ record { state = s; pause = WaitsDial d }
        | CloseThenDial k ↦ record { state = s; pause = WaitsDrop k d }
      ] in p.pause ≡ WaitsDial e → IsUnheaded e.number p.state
      by_place rest d (On k) found has = rest (put_on n k s) (put_on-fed n k s (unplaced_unheaded n d s found h) h) has
      by_place rest d Wait found has = rest s h has
      by_place rest d Dial found has = let eq : d ≡ e = cc in subst (λ m. IsUnheaded m s) (sym (number_of d found) ∙ ap (λ (x : Exchange). x.number) eq) (unplaced_unheaded n d s found h)
      by_place rest d (CloseThenDial k) found has = absurd (cc has)

      at : ((t : State) → Fed tale t → (place_each ns t).pause ≡ WaitsDial e → IsUnheaded e.number (place_each ns t).state) → (o : Option Exchange) → option_and_then if_unplaced (exchange s n) ≡ o → let p : Placement = elim o as (λ c. Placement) [
        | None ↦ place_each ns s
        | Some d ↦ elim (place_for s d) as (λ c. Placement) [
          | On k ↦ place_each ns (put_on n k s)
          | Wait ↦ place_each ns s
          | Dial ↦ record { state = s; pause = WaitsDial d }
          | CloseThenDial k ↦ record { state = s; pause = WaitsDrop k d }
        ]
      ] in p.pause ≡ WaitsDial e → IsUnheaded e.number p.state
      at rest None none has = rest s h has
      at rest (Some d) found has = by_place rest d (place_for s d) found has

  dialled-fed : (n : ℕ) (host : Bytes) (port : ℕ) (s : State) → Fed tale s → Fed tale (dialled n host port (placing s))
  unfolding dialled
  dialled-fed n host port s h = by (placing s).pause refl
    where
      p : Fed tale (placing s).state
      p = placing-fed s h

      with_conn : State
      with_conn = record (placing s).state { conns = (placing s).state.conns ++ new_conn n host port (placing s).state.clock ∷ []; top = n }

      by : (pause : Pause) → (placing s).pause ≡ pause → Fed tale (elim pause as (λ x. State) [ AllPlaced ↦ (placing s).state | WaitsDrop k e ↦ (placing s).state | WaitsDial e ↦ put_on e.number n with_conn ])
      by AllPlaced is = p
      by (WaitsDrop k e) is = p
      by (WaitsDial e) is = put_on-fed e.number n with_conn (paused _ s e h is) (fed (conn_added (placing s).state (new_conn n host port (placing s).state.clock) refl refl (facts_of p)))

asked_some : (n : ℕ) (e : Exchange) (now : ℕ) → SameExchange (asked_text n now e) e
asked_some n e now = record { number = refl; asker = λ m has. has; headed = refl; place = λ on none. none }

module _ {tale : Tale} where
  ask-fed : (k n : ℕ) (s : State) → Fed tale s → Fed tale (ask k n s)
  unfolding ask ask_next ask_body
  ask-fed k n s h =
      each_of (asking s k) h
      (λ e. when (is_outstanding e) (on_client_of-fed e (asked_body n) _ (λ c. parts_same _ c refl refl refl refl refl) (on_exchange-fed e.number (λ x. record x { body_left = x.body_left - n }) s (λ x. record { number = refl; asker = λ m has. has; headed = refl; place = λ on none. none }) h))
      (on_exchange-fed e.number (asked_text n s.clock) s (λ x. asked_some n x s.clock) h))

  gone-fed : (is_clean : Bool) (k : ℕ) (s : State) → tale.but ≡ None → (is_clean ≡ true → tale.follows ≡ true → (j : Conn) → conn s k ≡ Some j → EndsWell tale j s) → AreRising (map conn_number s.conns) → Fed tale s → Fed tale (gone is_clean k s)
  unfolding gone
  gone-fed is_clean k s calm well rise h = each_so (conn s k) (λ none. h) (λ j found. end_replies-fed _ (ended-fed is_clean j s calm (in_find (is_conn k) j s.conns found).0 (λ is on. well is on j found) rise h))

pub event_conns : (s : State) → (event s).conns ≡ s.conns
unfolding event regained
event_conns s = refl

module _ {tale : Tale} where
  hear-fed : (n : ℕ) (bytes : Bytes) (s : State) → Fed tale s → Fed tale (hear n bytes s)
  unfolding hear
  hear-fed n bytes s h = end_replies-fed _ (on_client-fed n (heard_by bytes) s (heard_same bytes) h)

  hang_up-fed : (n : ℕ) (s : State) → Fed tale s → Fed tale (hang_up n s)
  unfolding hang_up
  hang_up-fed n s h = when (is_writing s.owed n) (close_client-fed n false s h) (end_replies-fed _ (on_client-fed n (λ c. record c { has_hung_up = true }) s (λ c. parts_same _ c refl refl refl refl refl) h))

  ending-fed : (s : State) → Fed tale s → Fed tale (ending s)
  unfolding ending
  ending-fed s h = begin_replies-fed _ (come_to-fed DecidingAgain s h)

  -- ---- clients come and go

  opened-fed : {b : Since} (n : ℕ) (s : State) → s.top < n → Sound b s → Fed tale s → Fed tale (opened n s)
  unfolding opened
  opened-fed n s above hs h = fed (record {
    apart = rise_push client_number s.clients (new_client n s.clock) f.apart (λ c i. lt_of_le_of_lt ((sound_facts hs).callers.given c i) above);
    rise = f.rise;
    given = f.given;
    one = f.one;
    headed = f.headed;
    sourced = λ c id i on is. sourced_by c id (in_push c s.clients (new_client n s.clock) i) on is;
    begun = λ e c i j hit on. begun_by e c i (in_push c s.clients (new_client n s.clock) j) hit on;
    fed_by = λ k e c p l i m is j hit off has. fed_in k e c p l i m is (in_push c s.clients (new_client n s.clock) j) hit off has;
    answers = f.answers;
    kept = λ on c p j off has. kept_in on c p (in_push c s.clients (new_client n s.clock) j) off has;
  })
    where
      f : FactsOf tale s
      f = facts_of h

      kept_in : tale.follows ≡ true → (c : Client) (p : Passed) → IsIn c s.clients ⊎ (c ≡ new_client n s.clock) → is_in_other c.stage ≡ false → passed_of c ≡ Some p → Keeps tale c p
      kept_in on c p (inl j) off has = f.kept on c p j off has
      kept_in on c p (inr eq) off has = let both : None ≡ Some p = sym (ap passed_of eq) ∙ has in absurd (cc both)

      sourced_by : (c : Client) (id : ℕ) → IsIn c s.clients ⊎ (c ≡ new_client n s.clock) → is_in_passed c.stage ≡ true → source_in c.stage ≡ Some id → ⊥
      sourced_by c id (inl i) on is = f.sourced c id i on is
      sourced_by c id (inr eq) on is = let both : false ≡ true = sym (ap (λ (x : Client). is_in_passed x.stage) eq) ∙ on in cc both

      begun_by : (e : Exchange) (c : Client) → IsIn e s.exchanges → IsIn c s.clients ⊎ (c ≡ new_client n s.clock) → is_for e c ≡ true → is_in_passed c.stage ≡ true → is_headed e ≡ true
      begun_by e c i (inl j) hit on = f.begun e c i j hit on
      begun_by e c i (inr eq) hit on = let both : false ≡ true = sym (ap (λ (x : Client). is_in_passed x.stage) eq) ∙ on in absurd (cc both)

      fed_in : (k : Conn) (e : Exchange) (c : Client) (p : Passed) → IsIn k s.conns → IsIn e s.exchanges → IsIn e.number k.line → is_headed e ≡ true → IsIn c s.clients ⊎ (c ≡ new_client n s.clock) → is_for e c ≡ true → is_in_other c.stage ≡ false → passed_of c ≡ Some p → Feeds tale k e c p
      fed_in k e c p l i m is (inl j) hit off has = f.fed_by k e c p l i m is j hit off has
      fed_in k e c p l i m is (inr eq) hit off has = let both : None ≡ Some p = sym (ap passed_of eq) ∙ has in absurd (cc both)

  shut-fed : (n : ℕ) (s : State) → Fed tale s → Fed tale (shut n s)
  unfolding shut
  shut-fed n s h = fed (facts_from t (record t { clients = filter (λ c. not (is_client n c)) t.clients }) (rise_filter client_number (λ c. not (is_client n c)) t.clients (facts_of g).apart) (facts_of g).rise refl
      (λ c i. itself_client t c (in_filter (λ d. not (is_client n d)) c t.clients i).0) (itself_exchange t) (itself_conn t) (itself_answer t) (facts_of g))
    where
      t : State
      t = close_client n false s

      g : Fed tale t
      g = close_client-fed n false s h

  -- nobody is there
  pub nobody : (s : State) → s.clients ≡ [] → s.exchanges ≡ [] → s.conns ≡ [] → Fed tale s
  nobody s clients exchanges conns = fed (record {
    apart = subst (λ cs. AreRising (map client_number cs)) (sym clients) tt;
    rise = subst (λ es. AreRising (map (λ (e : Exchange). e.number) es)) (sym exchanges) tt;
    given = λ e i. absurd (subst (λ es. IsIn e es) exchanges i);
    one = λ e d n i. absurd (subst (λ es. IsIn e es) exchanges i);
    headed = λ e i. absurd (subst (λ es. IsIn e es) exchanges i);
    sourced = λ c id i. absurd (subst (λ cs. IsIn c cs) clients i);
    begun = λ e c i. absurd (subst (λ es. IsIn e es) exchanges i);
    fed_by = λ k e c p l. absurd (subst (λ ks. IsIn k ks) conns l);
    answers = λ on k a n l. absurd (subst (λ ks. IsIn k ks) conns l);
    kept = λ on c p i. absurd (subst (λ cs. IsIn c cs) clients i);
  })

opening_same : (s : State) → Same s (opening_begun s)
unfolding opening_begun with_settings
opening_same s = by (are_texts s.term) (names_file s.term)
  where
    by_settings : (o : Option Settings) → Same s (with_settings o s)
    by_settings None = alike (record { clients_same = refl; exchanges_same = refl; conns_same = refl; next_same = refl; top_same = refl })
    by_settings (Some c) = alike (record { clients_same = refl; exchanges_same = refl; conns_same = refl; next_same = refl; top_same = refl })

    by : (a b : Bool) → Same s (elim a as (λ x. State) [ false ↦ with_settings None s | true ↦ elim b as (λ x. State) [ true ↦ record s { phase = IsWoken } | false ↦ with_settings (settings_in (reading_of s.term.words None)) s ] ])
    by false b = by_settings None
    by true true = alike (record { clients_same = refl; exchanges_same = refl; conns_same = refl; next_same = refl; top_same = refl })
    by true false = by_settings (settings_in (reading_of s.term.words None))

module _ {tale : Tale} where
  woken-fed : (image : Files) (s : State) → Fed tale (woken image s)
  unfolding woken
  woken-fed image s = still (opening_same _) (nobody _ refl refl refl)

  -- ---- notes

  taken-fed : (m i : ℕ) (d : Decision) (s : State) → permits_taken s m i d ≡ true → Fed tale s → Fed tale (take_decision m d (deciding s))
  unfolding take_decision deciding
  taken-fed m i d s is h = each_so (client (in_phase Deciding u) m) (λ none. hu) (λ c found. regained-fed _ (fed (facts_of (decided-fed c d (in_phase Deciding u) (free c found) hu))))
    where
      u : State
      u = come_to_decide s

      hu : Fed tale (in_phase Deciding u)
      hu = deciding-fed s h

      t : TakenFor u m i d
      t = taken_for s m i d is

      free : (c : Client) → client (in_phase Deciding u) m ≡ Some c → IsFree c (in_phase Deciding u)
      free c found x j number =
          let there = in_find (is_client m) c u.clients found in
          ap is_begun (one_of client_number u.clients x t.one (facts_of hu).apart j t.there (number ∙ same_number c.number m there.1 ∙ sym t.number)) ∙ due_off u t.one t.due t.is

  noted-fed : (remark : Remark) (s : State) → IsPermitted s (Noted remark) → Fed tale s → Fed tale (noted remark s)
  unfolding noted
  noted-fed (Taken m i d) s is h = taken-fed m i d s (permitted_taken s m i d is) h
  noted-fed (Cut m cause) s is h = close_client-fed m true _ (deciding-fed s h)
  noted-fed (Kept key tag k extent) s is h = still (note_kept-same key extent s (itself s)) h
  noted-fed (Gone key) s is h = still (note_gone-same key _ (itself _)) (come_to-fed Keeping s h)
  noted-fed (Forgotten key) s is h = forgotten_by-fed key s h
  noted-fed (Evicted key tag k i) s is h = evicted-fed _ (come_to-fed Evicting s h)
  noted-fed (Loaded key tag k i) s is h = still (load-same key i s (itself s)) h

-- ---- what is said

said_at : (n c : ℕ) (bytes : Bytes) → c ≡ n → (if n == c then bytes else []) ≡ bytes
said_at n c bytes is = ap (λ (t : Bool). if t then bytes else []) (ap (λ m. n == m) is ∙ number_same n)

said_off : (n c : ℕ) (bytes : Bytes) → (c == n) ≡ false → (if n == c then bytes else []) ≡ []
said_off n c bytes isnt = by (n == c) refl
  where
    by : (t : Bool) → (n == c) ≡ t → (if t then bytes else []) ≡ []
    by false off = refl
    by true hit = let both : false ≡ true = sym isnt ∙ ap (λ m. m == n) (sym (same_number n c hit)) ∙ number_same n in absurd (cc both)

-- the same is told in other words
pub retold : (tale later : Tale) (s : State) → ((n : ℕ) → later.said n ≡ tale.said n) → Grows tale later → AreAnswered later s.exchanges s.conns s.next_exchange → Fed tale s → Fed later s
retold tale later s said grows answers h =
    fed (facts_across {tale = tale} {later = later} s s grows answers (facts_of h).apart (facts_of h).rise refl (λ d i. record { was = d; there = i; is = parts_across d d refl refl refl refl refl (said d.number) }) (itself_exchange s) (itself_conn s) (facts_of h))

abbrev pub told_more : Tale → Happening → Tale
told_more tale happening = record tale { said = λ n. tale.said n ++ said_in n happening }

abbrev pub told_none : Tale → Tale
told_none tale = record tale { said = λ n. tale.said n ++ [] }

-- with other words of what was said alone
pub grows_said : (tale : Tale) (said : ℕ → Bytes) → Grows tale (record tale { said = said })
grows_said tale said = record { but = λ n isnt. isnt; follows = λ is. is; came = λ n i head rule content is_whole c. c }

pub untold : (tale : Tale) (s : State) → Fed tale s → Fed (told_none tale) s
untold tale s h = retold tale (told_none tale) s (λ n. append-nil (tale.said n)) (grows_said tale (λ n. tale.said n ++ [])) (facts_of h).answers h

-- the client of that number, in a state with the same clients
module _ (tale : Tale) (n offered : ℕ) (bytes : Bytes) (s u : State) (is : IsPermitted s (Said n offered bytes)) (x : Client) (found : client s n ≡ Some x) (apart : AreRising (map client_number s.clients)) (clients : u.clients ≡ s.clients) where
  abbrev later : Tale
  later = told_more tale (Said n offered bytes)

  there : IsIn x s.clients × (is_client n x ≡ true)
  there = in_find (is_client n) x s.clients found

  only : (c : Client) → IsIn c u.clients → is_client n c ≡ true → c ≡ x
  only c i hit = one_of client_number s.clients c x apart (subst (λ cs. IsIn c cs) clients i) there.0 (same_number c.number n hit ∙ sym (same_number x.number n there.1))

  of_said : (d : Client) → Changed (is_client n) (said_by (length bytes)) u.clients d → FromClient tale later u.clients d
  of_said d (same i isnt) = record { was = d; there = i; is = parts_across d d refl refl refl refl refl (ap (λ (xs : Bytes). tale.said d.number ++ xs) (said_off n d.number bytes isnt) ∙ append-nil (tale.said d.number)) }
  of_said d (other c i hit eq) = record {
    was = c;
    there = i;
    is = subst (λ (y : Client). SameClient tale later y c) (sym eq)
        (said_same tale later s bytes c (ap (λ (xs : Bytes). tale.said c.number ++ xs) (said_at n c.number bytes (same_number c.number n hit))) (subst (λ (y : Client). bytes ≡ take (length bytes) (offer s y)) (sym (only c i hit)) (said_front s n offered bytes x found is)));
  }

  said_facts : FactsOf tale u → FactsOf later (record u { clients = change (is_client n) (said_by (length bytes)) u.clients })
  said_facts hu =
      facts_across {tale = tale} {later = later} u (record u { clients = change (is_client n) (said_by (length bytes)) u.clients }) (grows_said tale (λ m. tale.said m ++ said_in m (Said n offered bytes))) hu.answers
      (rise_change client_number (is_client n) (said_by (length bytes)) (λ c. (said_by-same (length bytes) c).number) u.clients hu.apart) hu.rise refl (λ d i. of_said d (in_change (is_client n) (said_by (length bytes)) d u.clients i)) (itself_exchange u) (itself_conn u) hu

-- before it is seen which replies are over
pub said_seen-fed : (tale : Tale) (n offered : ℕ) (bytes : Bytes) (s : State) (x : Client) → client s n ≡ Some x → IsPermitted s (Said n offered bytes) → Fed tale s → Fed (told_more tale (Said n offered bytes)) (on_client n (said_by (length bytes)) (use_said (length bytes) x s))
unfolding on_client
said_seen-fed tale n offered bytes s x found is h =
    fed (said_facts tale n offered bytes s (use_said (length bytes) x s) is x found (facts_of h).apart (parts_of (use_said-same (length bytes) x s (itself s))).clients_same (facts_of (use_said-fed (length bytes) x s h)))

said-fed : (tale : Tale) (n offered : ℕ) (bytes : Bytes) (s : State) → IsPermitted s (Said n offered bytes) → Fed tale s → Fed (told_more tale (Said n offered bytes)) (said n (length bytes) s)
unfolding said
said-fed tale n offered bytes s is h = each_so (client s n) (λ none. absurd (no_client s n offered bytes none is)) (λ x found. end_replies-fed _ (said_seen-fed tale n offered bytes s x found is h))

-- ---- all

-- no bytes of an origin are read; and where its connection ends, what came before comes to the clients of its first exchange
abbrev pub EndsAs : Tale → State → Happening → Type 0
EndsAs tale s (Got k bytes) = ⊥
EndsAs tale s (Ended k) = (j : Conn) → conn s k ≡ Some j → EndsWell tale j s
EndsAs tale s happening = Unit {0}

pub changed-fed : {b : Since} (tale : Tale) (s : State) (happening : Happening) → tale.but ≡ None → b.excepts ≡ None → (tale.follows ≡ true → EndsAs tale s happening) → IsPermitted s happening → Sound b s → Fed tale s → Fed (told_more tale happening) (changed s happening)
unfolding changed
changed-fed tale s (Woke image) calm none well is hs h = untold tale _ (woken-fed image s)
changed-fed tale s (Waits w) calm none well is hs h = untold tale _ (rest_with-fed w _ (ending-fed s h))
changed-fed tale s (Clock seconds) calm none well is hs h = untold tale _ (event-fed _ (tick-fed seconds s h))
changed-fed tale s (Opened m) calm none well is hs h = untold tale _ (event-fed _ (opened-fed m s (opened_above s m is) hs h))
changed-fed tale s (CanRead m) calm none well is hs h = untold tale _ (event-fed _ (owing-fed (ReadOf m) m s h))
changed-fed tale s (CanWrite m) calm none well is hs h = untold tale _ (event-fed _ (owing-fed (WriteTo m) m s h))
changed-fed tale s (Heard c bytes) calm none well is hs h = untold tale _ (paid-fed _ (hear-fed c bytes s h))
changed-fed tale s (HungUp c) calm none well is hs h = untold tale _ (paid-fed _ (hang_up-fed c s h))
changed-fed tale s (Said c offered bytes) calm none well is hs h = paid-fed _ (said-fed tale c offered bytes s is h)
changed-fed tale s (Shut c) calm none well is hs h = untold tale _ (shut-fed c _ (come_to-fed Connecting s h))
changed-fed tale s (Dialled m host port) calm none well is hs h = untold tale _ (dialled-fed m host port _ (come_to-fed Connecting s h))
changed-fed tale s (Undialled host port) calm none well is hs h = untold tale _ (undialled-fed _ (placing-fed _ (come_to-fed Connecting s h)))
changed-fed tale s (Reached k) calm none well is hs h = untold tale _ (event-fed _ (reached-fed k s h))
changed-fed tale s (Ended k) calm none well is hs h = untold tale _ (paid-fed _ (gone-fed true k s calm (λ is_clean on. well on) (sound_facts hs).lines.rise h))
changed-fed tale s (Broke k) calm none well is hs h = untold tale _ (paid-fed _ (gone-fed false k _ calm (λ is_clean. absurd (cc is_clean)) (subst (λ ks. AreRising (map conn_number ks)) (sym (event_conns s)) (sound_facts hs).lines.rise) (event-fed s h)))
changed-fed tale s (Asked k bytes) calm none well is hs h = untold tale _ (paid-fed _ (ask-fed k (length bytes) s h))
changed-fed tale s (Got k bytes) calm none well is hs h = untold tale _ (paid-fed _ (end_replies-fed _ (got-fed (length bytes) k bytes s calm none (λ on. well on) hs h)))
changed-fed tale s (Dropped k) calm none well is hs h = untold tale _ (dropped-fed k _ (come_to-fed Connecting s h))
changed-fed tale s (NoneYet m) calm none well is hs h = untold tale _ (paid-fed s h)
changed-fed tale s (Began op) calm none well is hs h = untold tale _ (begun_op-fed op s h)
changed-fed tale s (Did op ok) calm none well is hs h = untold tale _ (ended_op-fed op ok s h)
changed-fed tale s (Unread name) calm none well is hs h = untold tale _ (unread-fed name s h)
changed-fed tale s (Noted remark) calm none well is hs h = untold tale _ (noted-fed remark s is h)
changed-fed tale s (Rooted folder) calm none well is hs h = untold tale _ (still (opened_to-same IsRooted true s (itself s)) h)
changed-fed tale s (Listed ok) calm none well is hs h = untold tale _ (still (opened_to-same IsListed ok s (itself s)) h)
changed-fed tale s (Listens port ok) calm none well is hs h = untold tale _ (still (opened_to-same IsListening ok s (itself s)) h)
changed-fed tale s (Configured file text) calm none well is hs h = untold tale _ (still (configured-same text s (itself s)) h)
changed-fed tale s (Printed text) calm none well is hs h = untold tale _ h
changed-fed tale s Stopped calm none well is hs h = untold tale _ (event-fed _ (fed (facts_of h)))

-- of all that is said in a log
abbrev told_all : Tale → Log → Tale
told_all tale log = record tale { said = λ n. tale.said n ++ said_to n log }

all_fed : {b : Since} (tale : Tale) (s : State) (log : Log) → tale.but ≡ None → tale.follows ≡ false → b.excepts ≡ None → b.counts_loads ≡ false → LawfulFrom s log → Sound b s → Fed tale s → Fed (told_all tale log) (after_all s log)
unfolding said_to
all_fed tale s [] calm silent none loads lawful hs h = untold tale s h
all_fed {b} tale s (happening ∷ log) calm silent none loads lawful hs h =
    joined
    (all_fed {b = b} (told_more tale happening) (after s happening) log calm silent none loads lawful.1 (after-sound s happening none (λ counts. absurd (uncounted counts)) lawful.0 hs)
    (changed-fed tale s happening calm none (λ on. let both : false ≡ true = sym silent ∙ on in absurd (cc both)) lawful.0 hs h))
  where
    uncounted : b.counts_loads ≡ true → ⊥
    uncounted counts = let both : false ≡ true = sym loads ∙ counts in cc both

    joined : Fed (told_all (told_more tale happening) log) (after_all (after s happening) log) → Fed (told_all tale (happening ∷ log)) (after_all (after s happening) log)
    joined f =
        retold (told_all (told_more tale happening) log) (told_all tale (happening ∷ log)) _ (λ n. sym (append_assoc (tale.said n) (said_in n happening) (said_to n log))) (grows_said (told_all (told_more tale happening) log) (λ n. tale.said n ++ said_to n (happening ∷ log))) (facts_of f).answers f

-- whatever is loaded
pub from_start : Since
from_start = record { old = []; counts_loads = false; excepts = None }

-- where it is not looked at what came
abbrev unheard : Tale
unheard = record { said = λ n. []; but = None; follows = false; firsts = λ n. None; came = λ n i head rule content is_whole. Unit {0} }

abbrev tale_of : Log → Tale
tale_of log = record unheard { said = λ n. said_to n log }

fed_after : (terms : List Term) (log : Log) → LawfulFrom (start terms) log → Fed (tale_of log) (state_after terms log)
unfolding from_start
fed_after terms log lawful = all_fed {b = from_start} unheard (start terms) log refl refl refl refl lawful (start-sound from_start terms refl) (nobody (start terms) refl refl refl)

-- ---- the law

pub not_other : (stage : Stage) → is_in_passed stage ≡ true → is_in_other stage ≡ false
not_other Undecided on = refl
not_other Waiting on = refl
not_other Passing on = refl
not_other (Answering r) on = by r.has_begun (is_passing r.decision) on
  where
    by : (b d : Bool) → (b && d) ≡ true → (b && not d) ≡ false
    by true true has = refl
    by true false has = absurd (cc has)
    by false d has = absurd (cc has)

fed_by_one : {tale : Tale} (k : Conn) (e : Exchange) (c : Client) (p : Passed) → Feeds tale k e c p → IsFedBy k e p
fed_by_one k e c p v = by k.line refl v.front
  where
    by : (line : List ℕ) → k.line ≡ line → first_of line ≡ Some e.number → IsFedBy k e p
    by [] is front = absurd (cc front)
    by (n ∷ ns) is front = let eq : n ≡ e.number = cc in record { behind = ns; front = is ∙ ap (λ m. m ∷ ns) eq; answer = v.answer; is = v.is; head = v.head; rule = v.rule }

asker_of : (e : Exchange) (c : Client) → is_for e c ≡ true → e.asker ≡ Some c.number
asker_of e c hit = by e.asker refl hit
  where
    by : (o : Option ℕ) → e.asker ≡ o → is_this c.number o ≡ true → e.asker ≡ Some c.number
    by None is has = absurd (cc has)
    by (Some m) is has = is ∙ ap (λ n. Some n) (same_number m c.number has)

pub passed_is_one : PassedIsOneResponse
passed_is_one terms log lawful c p l on has = record {
  one = λ e d i j a b. f.one e d c.number i j (asker_of e c a) (asker_of d c b);
  headed = λ e i hit. f.begun e c i l hit on;
  fed = λ k e i j m hit. fed_by_one k e c p (f.fed_by k e c p i j m (f.begun e c j l hit on) l hit (not_other c.stage on) has);
}
  where
    f : FactsOf (tale_of log) (state_after terms log)
    f = facts_of (fed_after terms log lawful)

pub passed_is_all : PassedIsAllThatCame
passed_is_all terms log lawful c p l on has k e a i j m hit answered = record { pieces = r.pieces; all = r.all ∙ ap payload_of same_answer; full = r.full; shown = subst (IsShown (said_to c.number log) (to_say c) p) nothing_last (r.shown on) }
  where
    f : FactsOf (tale_of log) (state_after terms log)
    f = facts_of (fed_after terms log lawful)

    v : Feeds (tale_of log) k e c p
    v = f.fed_by k e c p i j m (f.begun e c j l hit on) l hit (not_other c.stage on) has

    same_answer : v.answer ≡ a
    same_answer = let both : Some v.answer ≡ Some a = sym v.is ∙ answered in cc both

    r : Relays (said_to c.number log) c p (payload_of v.answer)
    r = v.relayed (λ so. cc so)

    nothing_last : all_spelled p.pipe.is_coded r.pieces ++ last_of p.pipe ≡ all_spelled p.pipe.is_coded r.pieces
    nothing_last = in_pipe p.pipe r.pieces (v.going (λ so. cc so))

pub pieces_join : PiecesJoin
pieces_join a bytes = payload_grown a.rule a.raw bytes
