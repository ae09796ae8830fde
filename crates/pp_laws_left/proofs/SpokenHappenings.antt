-- Each permitted happening leaves no reply that was said whole, and one that is passed has its response.
use Rattle.std.proofs.Common.{◌≡◌, ◌⊎◌, refl, ℕ, Bool, true, false, not, ◌-◌, ◌&&◌, [], ◌++◌, drop, length, map, Option, Some, None, inl, inr, sym, subst, ap, ◌∙◌}
use Rattle.pp_conf.specs.Conf.{Settings}
use Rattle.pp_conf.specs.Words.{reading_of}
use Rattle.pp_world.specs.Files.{Files}
use Rattle.pp_world.specs.declared.event.Wants.{Wants}
use Rattle.pp_world.specs.declared.op.DiskOp.{DiskOp}
use Rattle.pp_law.specs.After.{begun_op, dialled, dropped, ended_op, event, evicted, forgotten_by, gone, leave_memory, new_client, opened, out, owing, paid, reached, refused_dial, refused_row, said, shut, undialled, unread, waits_for_row}
use Rattle.pp_law.specs.Asking.{ask, ask_body, ask_next, asked_body, asked_text, asking, hang_up, hear, is_writing}
use Rattle.pp_law.specs.Closing.{close_client, forsake}
use Rattle.pp_law.specs.Connections.{client, close_conn, conn, is_client, is_outstanding, may_ask_again, on_client, on_conn, Placement}
use Rattle.pp_law.specs.Hearing.{fronted, heard_by, what_counts}
use Rattle.pp_law.specs.Leaving.{Leaving, ForAnother, ForMemory, BeforeDecision, leaving_as}
use Rattle.pp_law.specs.Lists.{Bytes}
use Rattle.pp_law.specs.Opening.{are_texts, begun, is_opening, names_file, settings_in, with_settings, woken}
use Rattle.pp_law.specs.Phases.{due_victim}
use Rattle.pp_law.specs.Replies.{begin_replies, begun_at_end, end_replies, said_by, use_said}
use Rattle.pp_law.specs.Requests.{Front, NoHeadYet, NoHead, IsRequest}
use Rattle.pp_law.specs.Responses.{close_this, ended, finish_first, got, is_whole_at_end}
use Rattle.pp_law.specs.State.{State, Answer, Client, Conn, Exchange, Free, Handling, Evicting, Keeping, Instance, IsWoken, Owed, Awaiting, RowRefused}
use Rattle.pp_law.specs.Table.{forget, swept}
use Rattle.pp_law.specs.Turn.{rested_client, rest_with, touch}
use Rattle.pp_laws.specs.Numbers.{AreRising}
use Rattle.pp_laws.specs.Runs.{IsIn}
use Rattle.pp_laws.proofs.Lists.{From, in_map, in_push, rise_map}
use Rattle.pp_laws.proofs.Sound.{client_number}
use Rattle.pp_laws_turn.proofs.Same.{begun_at_end-same, said_by-same}
use Rattle.pp_laws_left.specs.Left.{IsLeftOn}
use Rattle.pp_laws_left.proofs.Fine.{AllFine, all_of}
use Rattle.pp_laws_left.proofs.Keep.{AtEvent, Keeps, Kept, as_it_was, awaits, clients_changed, facts_of as keeps_of, is_early, keeps, keeps_same, owes}
use Rattle.pp_laws_left.proofs.KeepAsks.{close_client-keeps, close_conn-keeps, end_exchange-keeps, fill-keeps, lose_attempt-keeps, on_client-keeps, on_client_of-keeps, on_conn-keeps, on_exchange-keeps, placing-keeps, put_on-keeps}
use Rattle.pp_laws_left.proofs.KeepCases.{by_pause, each_of, when}
use Rattle.pp_laws_left.proofs.KeepHeads.{ended-keeps, got-keeps}
use Rattle.pp_laws_left.proofs.KeepRows.{begin_in_opening-keeps, begin_in_turn-keeps, close_name-keeps, drop_chunk-keeps, end_op-keeps, forget-keeps, lose_in_opening-keeps}
use Rattle.pp_laws_left.proofs.KeepTurns.{come_to-keeps, come_to_decide-keeps, in_phase-keeps, regained-keeps, touch-keeps, use_said-keeps}
use Rattle.pp_laws_left.proofs.Spoken.{Speaks, Spoken, changed_spoken, facts_of, filtered_spoken, said_speaks, spoken, spoken_got, spoken_on}
use Rattle.pp_laws_left.proofs.SpokenBegins.{IsFresh, begun_speaks, none_speaks}
use Rattle.pp_laws_left.proofs.SpokenEnds.{end_replies-spoken}

-- ---- where nothing is said

pub event-keeps : {exact : Bool} {o : State} (s : State) → Keeps exact o s → Keeps exact o (event s)
unfolding event
event-keeps s h = regained-keeps _ (in_phase-keeps Handling s (λ e. cc e) refl h)

pub reached-keeps : {exact : Bool} {o : State} (n : ℕ) (s : State) → Keeps exact o s → Keeps exact o (reached n s)
unfolding reached
reached-keeps n s h = touch-keeps n _ (on_conn-keeps n (λ k. record k { is_reached = true }) s h)

-- nothing is owed any more
freed : {exact : Bool} {o : State} (s : State) → Keeps exact o s → Keeps exact o (record s { owed = Free })
freed {exact} {o} s h = keeps (record { numbers = (keeps_of h).numbers; clients_from = (keeps_of h).clients_from; event = by; early = (keeps_of h).early })
  where
    by : AtEvent s.phase Free → AtEvent o.phase o.owed
    by (awaits is) = (keeps_of h).event (awaits is)
    by (owes is) = absurd (cc is)

pub paid-keeps : {exact : Bool} {o : State} (s : State) → Keeps exact o s → Keeps exact o (paid s)
unfolding paid
paid-keeps s h = regained-keeps _ (freed s h)

pub evicted-keeps : {exact : Bool} {o : State} (s : State) → Keeps exact o s → Keeps exact o (evicted s)
unfolding evicted
evicted-keeps s h = each_of (due_victim s) h (λ place. drop_chunk-keeps place.0 place.1 s h)

refused_row-keeps : {exact : Bool} {o : State} (x : Instance) (s : State) → Keeps exact o s → Keeps exact o (refused_row x s)
unfolding refused_row
refused_row-keeps {exact} {o} x s h = keeps (clients_changed o (forget x.id s) (waits_for_row x.id) (λ c. record c { course = RowRefused }) (λ c is. as_it_was _ c refl refl refl (λ on. on) refl) (keeps_of (forget-keeps x.id s h)))

leave_memory-keeps : {exact : Bool} {o : State} (how : Leaving) (s : State) → Keeps exact o s → Keeps exact o (leave_memory how s)
unfolding leave_memory
leave_memory-keeps ForAnother s h = keeps (keeps_of (come_to-keeps Evicting s h))
leave_memory-keeps (ForMemory x) s h = refused_row-keeps x _ (come_to-keeps Evicting s h)
leave_memory-keeps (BeforeDecision x) s h = keeps (keeps_of (forget-keeps x.id _ (come_to_decide-keeps s h)))

pub forgotten_by-keeps : {exact : Bool} {o : State} (key : Bytes) (s : State) → Keeps exact o s → Keeps exact o (forgotten_by key s)
unfolding forgotten_by
forgotten_by-keeps key s h = each_of (leaving_as s key) h (λ how. leave_memory-keeps how s h)

pub begun_op-keeps : {exact : Bool} {o : State} (op : DiskOp) (s : State) → Keeps exact o s → Keeps exact o (begun_op op s)
unfolding begun_op
begun_op-keeps op s h = when (is_opening s) (begin_in_opening-keeps op s h) (begin_in_turn-keeps op _ (come_to-keeps Keeping s h))

pub ended_op-keeps : {exact : Bool} {o : State} (op : DiskOp) (ok : Bool) (s : State) → Keeps exact o s → Keeps exact o (ended_op op ok s)
unfolding ended_op
ended_op-keeps op true s h = end_op-keeps op true s h
ended_op-keeps op false s h = lose_in_opening-keeps s.agenda.name _ (end_op-keeps op false s h)

pub unread-keeps : {exact : Bool} {o : State} (name : Bytes) (s : State) → Keeps exact o s → Keeps exact o (unread name s)
unfolding unread
unread-keeps name s h = paid-keeps _ (lose_in_opening-keeps name _ (close_name-keeps name s h))

refused_dial-keeps : {exact : Bool} {o : State} (e : Exchange) (s : State) → Keeps exact o s → Keeps exact o (refused_dial e s)
unfolding refused_dial
refused_dial-keeps e s h = when (may_ask_again s e.number) h (fill-keeps _ (end_exchange-keeps e.number s h))

pub undialled-keeps : {exact : Bool} {o : State} (p : Placement) → Keeps exact o p.state → Keeps exact o (undialled p)
unfolding undialled
undialled-keeps p h = by_pause p.pause h (λ k e. h) (λ e. refused_dial-keeps e _ (lose_attempt-keeps e _ (keeps (keeps_of h))))

pub dialled-keeps : {exact : Bool} {o : State} (n : ℕ) (host : Bytes) (port : ℕ) (p : Placement) → Keeps exact o p.state → Keeps exact o (dialled n host port p)
unfolding dialled
dialled-keeps n host port p h = by_pause p.pause h (λ k e. h) (λ e. put_on-keeps e.number n _ (keeps (keeps_of h)))

out-keeps : {exact : Bool} {o : State} (n : ℕ) (s : State) → Keeps exact o s → Keeps exact o (out n s)
unfolding out
out-keeps n s h = keeps (keeps_of h)

pub dropped-keeps : {exact : Bool} {o : State} (n : ℕ) (s : State) → Keeps exact o s → Keeps exact o (dropped n s)
unfolding dropped
dropped-keeps n s h = each_of (conn s n) h (λ k. when k.is_closing (out-keeps n s h) (out-keeps n _ (placing-keeps s h)))

ask_next-keeps : {exact : Bool} {o : State} (e : Exchange) (n : ℕ) (s : State) → Keeps exact o s → Keeps exact o (ask_next e n s)
unfolding ask_next ask_body
ask_next-keeps e n s h = when (is_outstanding e) (on_client_of-keeps e (asked_body n) _ (λ c. as_it_was _ c refl refl refl (λ is. is) refl) (on_exchange-keeps e.number (λ x. record x { body_left = x.body_left - n }) s h)) (on_exchange-keeps e.number (asked_text n s.clock) s h)

pub ask-keeps : {exact : Bool} {o : State} (k n : ℕ) (s : State) → Keeps exact o s → Keeps exact o (ask k n s)
unfolding ask
ask-keeps k n s h = each_of (asking s k) h (λ e. ask_next-keeps e n s h)

-- ---- events

touch_phase : (n : ℕ) (s : State) → (touch n s).phase ≡ s.phase
unfolding touch on_conn on_client
touch_phase n s = refl

-- it is read or written now, where an event was awaited
pub owing-spoken : (owed : Owed) (n : ℕ) (s : State) → s.phase ≡ Awaiting → Spoken true s → Spoken true (owing owed n s)
unfolding owing
owing-spoken owed n s at h = spoken (record { rise = (facts_of t).rise; all = λ c i. anyhow c ((facts_of t).all c i); nobody = (facts_of t).nobody })
  where
    t : Spoken true (touch n s)
    t = spoken_on s _ (touch-keeps n s (keeps_same s)) h

    anyhow : (c : Client) → Speaks true (AtEvent (touch n s).phase (touch n s).owed) c → Speaks true (AtEvent (touch n s).phase owed) c
    anyhow c k = record { unsaid = k.unsaid; passed = k.passed; begun = λ w. k.begun (awaits (touch_phase n s ∙ at)); bare = k.bare }

pub opened-spoken : (n : ℕ) (s : State) → s.phase ≡ Awaiting → AreRising (map client_number (opened n s).clients) → Spoken true s → Spoken true (opened n s)
unfolding opened
opened-spoken n s at rise h = spoken (record { rise = rise; all = λ c i. by c (in_push c s.clients (new_client n s.clock) i); nobody = λ early. let both : false ≡ true = ap is_early (sym at) ∙ early in absurd (cc both) })
  where
    by : (c : Client) → IsIn c s.clients ⊎ (c ≡ new_client n s.clock) → Speaks true (AtEvent s.phase s.owed) c
    by c (inl i) = (facts_of h).all c i
    by c (inr eq) = none_speaks c (ap (λ (x : Client). x.stage) eq)

-- ---- reads and writes

heard_kept : (bytes : Bytes) (c : Client) → Kept true (heard_by bytes c) c
heard_kept bytes c = by c.front
  where
    more : Client
    more = record c { heard = c.heard ++ what_counts c.front (drop c.skip bytes); skip = c.skip - length bytes }

    by : (front : Front) → Kept true (elim front as (λ x. Client) [ NoHeadYet ↦ fronted more | NoHead status ↦ more | IsRequest r ↦ more ]) c
    by NoHeadYet = as_it_was _ c refl refl refl (λ is. is) refl
    by (NoHead status) = as_it_was _ c refl refl refl (λ is. is) refl
    by (IsRequest r) = as_it_was _ c refl refl refl (λ is. is) refl

-- what was said whole is looked at again
less : (s : State) → Spoken true s → Spoken false s
less s h = spoken (record { rise = (facts_of h).rise; all = λ c i. let k = (facts_of h).all c i in record { unsaid = λ is. absurd (cc is); passed = k.passed; begun = k.begun; bare = k.bare }; nobody = (facts_of h).nobody })

pub hear-spoken : (n : ℕ) (bytes : Bytes) (s : State) → Spoken true s → Spoken true (hear n bytes s)
unfolding hear
hear-spoken n bytes s h = end_replies-spoken _ (less _ (spoken_on s _ (on_client-keeps n (heard_by bytes) s (heard_kept bytes) (keeps_same s)) h))

pub hang_up-spoken : (n : ℕ) (s : State) → Spoken true s → Spoken true (hang_up n s)
unfolding hang_up
hang_up-spoken n s h = by (is_writing s.owed n)
  where
    by : (t : Bool) → Spoken true (elim t as (λ x. State) [ true ↦ close_client n false s | false ↦ end_replies (on_client n (λ c. record c { has_hung_up = true }) s) ])
    by true = spoken_on s _ (close_client-keeps n false s (keeps_same s)) h
    by false = end_replies-spoken _ (less _ (spoken_on s _ (on_client-keeps n (λ c. record c { has_hung_up = true }) s (λ c. as_it_was _ c refl refl refl (λ is. is) refl) (keeps_same s)) h))

said_number : (n : ℕ) (c : Client) → (said_by n c).number ≡ c.number
said_number n c = (said_by-same n c).number

pub said-spoken : (c n : ℕ) (s : State) → Spoken true s → Spoken true (said c n s)
unfolding said on_client
said-spoken c n s h = by (client s c)
  where
    by : (o : Option Client) → Spoken true (elim o as (λ x. State) [ None ↦ s | Some x ↦ end_replies (on_client c (said_by n) (use_said n x s)) ])
    by None = h
    by (Some x) = end_replies-spoken _ (changed_spoken {looks = true} false (use_said n x s) (is_client c) (said_by n) (said_number n) (λ d i hit k. said_speaks n d k) (λ is. refl) (spoken_on s _ (use_said-keeps n x s (keeps_same s)) h))

pub gone-spoken : (is_clean : Bool) (n : ℕ) (s : State) → AtEvent s.phase s.owed → Spoken true s → Spoken true (gone is_clean n s)
unfolding gone
gone-spoken is_clean n s at h = by (conn s n)
  where
    by : (o : Option Conn) → Spoken true (elim o as (λ x. State) [ None ↦ s | Some k ↦ end_replies (ended is_clean k s) ])
    by None = h
    by (Some k) = end_replies-spoken _ (spoken_got s _ at (ended-keeps is_clean k s (keeps_same s)) h)

-- one that broke brings nothing
pub broke-spoken : (n : ℕ) (s : State) → Spoken true s → Spoken true (gone false n s)
unfolding gone ended
broke-spoken n s h = by (conn s n)
  where
    whole : (k : Conn) (o : Option Answer) → Keeps true s (elim o as (λ x. State) [
      | None ↦ close_conn true k s
      | Some a ↦ elim (false && is_whole_at_end a) as (λ y. State) [ true ↦ close_this k.number (finish_first k a s) | false ↦ close_conn true k s ]
    ])
    whole k None = close_conn-keeps true k s (keeps_same s)
    whole k (Some a) = close_conn-keeps true k s (keeps_same s)

    by : (o : Option Conn) → Spoken true (elim o as (λ x. State) [ None ↦ s | Some k ↦ end_replies (ended false k s) ])
    by None = h
    by (Some k) = end_replies-spoken _ (less _ (spoken_on s _ (whole k k.answer) h))

pub got-spoken : (more n : ℕ) (bytes : Bytes) (s : State) → AtEvent s.phase s.owed → Spoken true s → Spoken true (end_replies (got more n bytes s))
got-spoken more n bytes s at h = end_replies-spoken _ (spoken_got s _ at (got-keeps more n bytes s (keeps_same s)) h)

-- ---- closings, and the opening

pub shut-spoken : (n : ℕ) (s : State) → Spoken true s → Spoken true (shut n s)
unfolding shut
shut-spoken n s h = filtered_spoken (close_client n false s) (λ c. not (is_client n c)) (spoken_on s _ (close_client-keeps n false s (keeps_same s)) h)

pub nobody_spoken : (s : State) → s.clients ≡ [] → Spoken true s
nobody_spoken s none = spoken (record { rise = subst (λ cs. AreRising (map client_number cs)) (sym none) tt; all = λ c i. absurd (subst (λ cs. IsIn c cs) none i); nobody = λ early. none })

opening_nobody : (s : State) → s.clients ≡ [] → (begun s).clients ≡ []
unfolding begun with_settings
opening_nobody s none = by (are_texts s.term) (names_file s.term)
  where
    by_settings : (o : Option Settings) → (with_settings o s).clients ≡ []
    by_settings None = none
    by_settings (Some c) = none

    by : (a b : Bool) → (elim a as (λ x. State) [
      | false ↦ with_settings None s
      | true ↦ elim b as (λ x. State) [ true ↦ record s { phase = IsWoken } | false ↦ with_settings (settings_in (reading_of s.term.words None)) s ]
    ]).clients ≡ []
    by false b = by_settings None
    by true true = none
    by true false = by_settings (settings_in (reading_of s.term.words None))

pub woken-spoken : (image : Files) (s : State) → Spoken true (woken image s)
unfolding woken
woken-spoken image s = nobody_spoken _ (opening_nobody _ refl)

-- ---- the end of a turn

-- replies begin
pub begun_all : (t : State) → AllFine t → IsLeftOn t → ((c : Client) → IsIn c t.clients → IsFresh c) → Spoken true t → AreRising (map client_number (begin_replies t).clients) × ((d : Client) → IsIn d (begin_replies t).clients → Speaks true (AtEvent Awaiting Free) d)
unfolding begin_replies swept forsake
begun_all t fine left fresh h = (rise_map client_number (begun_at_end t) (λ c. (begun_at_end-same t c).number) t.clients (facts_of h).rise, λ d i. by d (in_map (begun_at_end t) d t.clients i))
  where
    one : (c : Client) → IsIn c t.clients → Speaks true (AtEvent Awaiting Free) (begun_at_end t c)
    one c i = begun_speaks t c (all_of fine c i) (λ runs r at. left.replies c r i at (λ on. ((facts_of h).all c i).passed runs r (at, on))) (fresh c i) ((facts_of h).all c i)

    by : (d : Client) → From (begun_at_end t) t.clients d → Speaks true (AtEvent Awaiting Free) d
    by d r = subst (λ (x : Client). Speaks true (AtEvent Awaiting Free) x) (sym r.is) (one r.was r.there)

-- and an event is awaited from there on
pub waits-spoken : (w : Wants) (t : State) → AllFine t → IsLeftOn t → ((c : Client) → IsIn c t.clients → IsFresh c) → Spoken true t → Spoken true (rest_with w (begin_replies t))
unfolding rest_with
waits-spoken w t fine left fresh h = spoken (record { rise = rise_map client_number (rested_client u) (λ c. refl) u.clients all.0; all = λ d i. by d (in_map (rested_client u) d u.clients i); nobody = λ early. absurd (cc early) })
  where
    u : State
    u = begin_replies t

    all : AreRising (map client_number (begin_replies t).clients) × ((d : Client) → IsIn d (begin_replies t).clients → Speaks true (AtEvent Awaiting Free) d)
    all = begun_all t fine left fresh h

    rested : (c : Client) → Speaks true (AtEvent Awaiting Free) c → Speaks true (AtEvent Awaiting Free) (rested_client (begin_replies t) c)
    rested c k = record { unsaid = k.unsaid; passed = k.passed; begun = k.begun; bare = k.bare }

    by : (d : Client) → From (rested_client (begin_replies t)) (begin_replies t).clients d → Speaks true (AtEvent Awaiting Free) d
    by d r = subst (λ (x : Client). Speaks true (AtEvent Awaiting Free) x) (sym r.is) (rested r.was (all.1 r.was r.there))
