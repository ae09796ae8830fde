-- Whoever waits for an exchange has it, also in each phase of a turn, and behind what an event, memory or the disk bring.
use Rattle.std.proofs.Common.{◌≡◌, ◌⊎◌, refl, ℕ, ◌+◌, ◌==◌, Bool, true, false, not, List, [], ◌∷◌, is_some, Option, Some, None, inl, inr, sym, subst, ap, ◌∙◌}
use Rattle.pp_conf.specs.Conf.{Settings}
use Rattle.pp_conf.specs.Words.{reading_of}
use Rattle.pp_world.specs.Files.{Files}
use Rattle.pp_world.specs.declared.op.DiskOp.{DiskOp}
use Rattle.pp_law.specs.After.{begun_op, brings_to, dropping_body, ended_op, event, evicted, forgotten_by, gone, leave_memory, new_client, opened, owing, reached, refused_row, said, unread, waits_for_row}
use Rattle.pp_law.specs.Chunks.{note_use}
use Rattle.pp_law.specs.Connections.{client, conn, is_conn, is_for}
use Rattle.pp_law.specs.Leaving.{Leaving, ForAnother, ForMemory, BeforeDecision, leaving_as}
use Rattle.pp_law.specs.Lists.{Bytes, is_some_with}
use Rattle.pp_law.specs.Opening.{are_texts, begun, configured, is_at, is_opening, names_file, opened_to, settings_in, stuck, terms_behind, with_settings, woken}
use Rattle.pp_law.specs.Phases.{behind, come, come_to, come_to_decide, deciding, decides, due_victim, is_done, next, phases}
use Rattle.pp_law.specs.Replies.{end_replies}
use Rattle.pp_law.specs.Responses.{ended}
use Rattle.pp_law.specs.Stages.{bound_in, filled_of, is_pending}
use Rattle.pp_law.specs.State.{State, Term, Phase, Before, IsWoken, IsConfigured, IsRooted, IsListed, IsListening, IsStuck, Awaiting, Handling, Evicting, Keeping, Deciding, Following, Connecting, DecidingAgain, Body, Pending as IsPending, Joining, Relaying, Dropping, Owed, Client, Conn, Exchange, Instance, RowRefused, start}
use Rattle.pp_law.specs.Store.{load, load_from}
use Rattle.pp_law.specs.Table.{forget, kept_row, row}
use Rattle.pp_laws.specs.Runs.{IsIn}
use Rattle.pp_laws.proofs.Lists.{changed_at, in_find, in_push}
use Rattle.pp_laws_coming.specs.Coming.{is_waiting}
use Rattle.pp_laws_coming.proofs.Facts.{Early}
use Rattle.pp_laws_coming.proofs.Filled.{give_up_asks-comes}
use Rattle.pp_laws_coming.proofs.Phases.{AtPhase, early_of, next-comes}
use Rattle.pp_laws_coming.proofs.Steps.{drop_unseen-comes}
use Rattle.pp_laws_turn.proofs.Cases.{each_of, when}
use Rattle.pp_laws_turn.proofs.Clients.{use_said-keeps}
use Rattle.pp_laws_turn.proofs.Disk.{begin_in_opening-keeps as begin_opening-any, begin_in_turn-keeps as begin_turn-any, close_name-keeps as close_name-any, end_op-keeps as end_op-any, lose_in_opening-keeps as lose_in_opening-any}
use Rattle.pp_laws_turn.proofs.Rows.{drop_chunk-keeps as drop_chunk-any}
use Rattle.pp_laws_turn.proofs.View.{Holds, facts_of, holds}
use Rattle.pp_laws_left.proofs.Keep.{AtEvent, Keeps, awaits, facts_of as keeps_of, owes}
use Rattle.pp_laws_left.proofs.Owned.{Amid, Asks, Facts, Fills, KeptAsk, Owned, Pending, Relays, answers_as, as_it_was, ask_if, asks_kept, asker_of, clients_kept, kept_if, none_but}
use Rattle.pp_laws_left.proofs.OwnedConns.{conn_same}
use Rattle.pp_laws_left.proofs.OwnedAsks.{number_if, on_conn-owned}
use Rattle.pp_laws_left.proofs.OwnedCame.{ended-owned}
use Rattle.pp_laws_left.proofs.OwnedPhases.{drop_unseen-owned, fill-owned, give_up_asks-owned}
use Rattle.pp_laws_left.proofs.OwnedPlaces.{placing-placed}
use Rattle.pp_laws_left.proofs.OwnedReplies.{end_replies-owned, paid-owned, regained-owned, said_by-owned, touch-owned}

-- ---- as it is in the phase that is

pub re_at : {Old New : Type 0} (cs : List Client) (es : List Exchange) (ks : List Conn) (next_ : ℕ) → (New → Old) → Facts none_but Old cs es ks next_ → Facts none_but New cs es ks next_
re_at cs es ks next_ conv f = record {
  callers = f.callers;
  apart = f.apart;
  given = f.given;
  one = f.one;
  plain = f.plain;
  fills = λ e c i j its some isnt. (let w = f.fills e c i j its some isnt in record { untold = w.untold; calm = λ at begun none. w.calm (conv at) begun none });
  kinds = f.kinds;
  asks = f.asks;
  amid = f.amid;
  lined = f.lined;
  conns = f.conns;
  own = f.own;
  placed = f.placed;
  front = f.front;
  behind = f.behind;
}

abbrev pub OwnedNow : State → Type 0
OwnedNow s = Holds (Owned none_but (AtEvent s.phase s.owed)) s

pub settle : {At : Type 0} (t : State) → (AtEvent t.phase t.owed → At) → Holds (Owned none_but At) t → OwnedNow t
settle t conv h = holds (re_at t.clients t.exchanges t.conns t.next_exchange conv (facts_of h))

pub kept_now : {At : Type 0} {s t : State} → Keeps true s t → (AtEvent s.phase s.owed → At) → Holds (Owned none_but At) t → OwnedNow t
kept_now {At} {s} {t} q conv h = settle t (λ at. conv ((keeps_of q).event at)) h

-- ---- phases

behind-owned : {At : Type 0} (phase : Phase) (s : State) → Holds Early s → Holds (Owned none_but At) s → Holds (Owned none_but At) (behind phase s)
behind-owned Before s c h = h
behind-owned IsWoken s c h = h
behind-owned IsConfigured s c h = h
behind-owned IsRooted s c h = h
behind-owned IsListed s c h = h
behind-owned IsListening s c h = h
behind-owned IsStuck s c h = h
behind-owned Awaiting s c h = h
behind-owned Handling s c h = holds (facts_of h)
behind-owned Evicting s c h = give_up_asks-owned _ (holds (facts_of h))
behind-owned Keeping s c h = holds (facts_of h)
behind-owned Deciding s c h = holds (facts_of h)
behind-owned Following s c h = fill-owned _ (give_up_asks-comes {late = false} _ (drop_unseen-comes {late = false} _ (holds (facts_of c)))) (give_up_asks-owned _ (drop_unseen-owned _ (holds (facts_of h))))
behind-owned Connecting s c h = (placing-placed _ (holds (facts_of h))).owned
behind-owned DecidingAgain s c h = h

pub next-owned : {At : Type 0} (s : State) → Holds AtPhase s → Holds (Owned none_but At) s → Holds (Owned none_but At) (next s)
unfolding next
next-owned s c h = behind-owned s.phase s (early_of s c) h

come-owned : {At : Type 0} (stops : State → Bool) (ps : List Phase) (s : State) → Holds AtPhase s → Holds (Owned none_but At) s → Holds (Owned none_but At) (come stops ps s)
unfolding come
come-owned stops [] s c h = h
come-owned stops (p ∷ ps) s c h = come-owned stops ps _ (when (is_at p s) (when (stops s) c (when (is_done s) (next-comes s c) c)) c) (when (is_at p s) (when (stops s) h (when (is_done s) (next-owned s c h) h)) h)

pub come_to-owned : {At : Type 0} (p : Phase) (s : State) → Holds AtPhase s → Holds (Owned none_but At) s → Holds (Owned none_but At) (come_to p s)
unfolding come_to
come_to-owned p s c h = come-owned (is_at p) phases s c h

come_to_decide-owned : {At : Type 0} (s : State) → Holds AtPhase s → Holds (Owned none_but At) s → Holds (Owned none_but At) (come_to_decide s)
unfolding come_to_decide
come_to_decide-owned s c h = come-owned decides phases s c h

pub deciding-owned : {At : Type 0} (s : State) → Holds AtPhase s → Holds (Owned none_but At) s → Holds (Owned none_but At) (deciding s)
unfolding deciding
deciding-owned s c h = holds (facts_of (come_to_decide-owned s c h))

-- ---- events

pub event-owned : {At : Type 0} (s : State) → Holds (Owned none_but At) s → Holds (Owned none_but At) (event s)
unfolding event
event-owned s h = regained-owned _ (holds (facts_of h))

pub owing-owned : {At : Type 0} (owed : Owed) (n : ℕ) (s : State) → Holds (Owned none_but At) s → Holds (Owned none_but At) (owing owed n s)
unfolding owing
owing-owned owed n s h = holds (facts_of (touch-owned n s h))

pub reached-owned : {At : Type 0} (n : ℕ) (s : State) → Holds (Owned none_but At) s → Holds (Owned none_but At) (reached n s)
unfolding reached
reached-owned n s h = touch-owned n _ (on_conn-owned n (λ k. record k { is_reached = true }) s (λ k. conn_same _ k refl refl refl) h)

pub opened-owned : {At : Type 0} (n : ℕ) (s : State) → ((c : Client) → IsIn c s.clients → c.number ≡ n → ⊥) → ((e : Exchange) → IsIn e s.exchanges → e.asker ≡ Some n → ⊥) → Holds (Owned none_but At) s → Holds (Owned none_but At) (opened n s)
unfolding opened
opened-owned {At} n s fresh nobody h = holds (record {
  callers = λ c d i j eq. callers_by c d eq (in_push c s.clients (new_client n s.clock) i) (in_push d s.clients (new_client n s.clock) j);
  apart = f.apart;
  given = f.given;
  one = f.one;
  plain = f.plain;
  fills = λ e c i j its some isnt. fills_by e c i its some (in_push c s.clients (new_client n s.clock) j);
  kinds = λ e c i j its isnt waits. kinds_by e c i its waits (in_push c s.clients (new_client n s.clock) j);
  asks = λ c j isnt a. asks_by c a (in_push c s.clients (new_client n s.clock) j);
  amid = λ c j isnt a. amid_by c a (in_push c s.clients (new_client n s.clock) j);
  lined = f.lined;
  conns = f.conns;
  own = f.own;
  placed = f.placed;
  front = f.front;
  behind = f.behind;
})
  where
    f : Facts none_but At s.clients s.exchanges s.conns s.next_exchange
    f = facts_of h

    callers_by : (c d : Client) → c.number ≡ d.number → IsIn c s.clients ⊎ (c ≡ new_client n s.clock) → IsIn d s.clients ⊎ (d ≡ new_client n s.clock) → c ≡ d
    callers_by c d eq (inl i) (inl j) = f.callers c d i j eq
    callers_by c d eq (inl i) (inr q) = absurd (fresh c i (eq ∙ ap (λ (x : Client). x.number) q))
    callers_by c d eq (inr p) (inl j) = absurd (fresh d j (sym eq ∙ ap (λ (x : Client). x.number) p))
    callers_by c d eq (inr p) (inr q) = p ∙ sym q

    not_its : (e : Exchange) (c : Client) → IsIn e s.exchanges → is_for e c ≡ true → c ≡ new_client n s.clock → ⊥
    not_its e c i its eq = nobody e i (asker_of c.number e.asker its ∙ ap (λ (x : Client). Some x.number) eq)

    fills_by : (e : Exchange) (c : Client) → IsIn e s.exchanges → is_for e c ≡ true → is_some (filled_of e) ≡ true → IsIn c s.clients ⊎ (c ≡ new_client n s.clock) → Fills None At e c
    fills_by e c i its some (inl j) = f.fills e c i j its some (λ is. cc is)
    fills_by e c i its some (inr eq) = absurd (not_its e c i its eq)

    kinds_by : (e : Exchange) (c : Client) → IsIn e s.exchanges → is_for e c ≡ true → is_waiting c.stage ≡ true → IsIn c s.clients ⊎ (c ≡ new_client n s.clock) → answers_as c.stage e.aim ≡ true
    kinds_by e c i its waits (inl j) = f.kinds e c i j its (λ is. cc is) waits
    kinds_by e c i its waits (inr eq) = absurd (not_its e c i its eq)

    asks_by : (c : Client) → Asks c → IsIn c s.clients ⊎ (c ≡ new_client n s.clock) → Pending s.exchanges c
    asks_by c a (inl j) = f.asks c j (λ is. cc is) a
    asks_by c a (inr eq) = let b : Asks (new_client n s.clock) = subst (λ (x : Client). Asks x) eq a in let both : false ≡ true = b.unanswered in absurd (cc both)

    amid_by : (c : Client) → Amid c → IsIn c s.clients ⊎ (c ≡ new_client n s.clock) → Relays s.exchanges c
    amid_by c a (inl j) = f.amid c j (λ is. cc is) a
    amid_by c a (inr eq) = let b : Amid (new_client n s.clock) = subst (λ (x : Client). Amid x) eq a in let both : false ≡ true = b.more in absurd (cc both)

pub said-owned : {At : Type 0} (c n : ℕ) (s : State) → Holds (Owned none_but At) s → Holds (Owned none_but At) (said c n s)
unfolding said
said-owned c n s h = each_of (client s c) h (λ x. end_replies-owned _ (said_by-owned c n _ (use_said-keeps n x s h)))

pub gone-owned : {At : Type 0} (is_clean : Bool) (n : ℕ) (s : State) → At → Holds (Owned none_but At) s → Holds (Owned none_but At) (gone is_clean n s)
unfolding gone
gone-owned {At} is_clean n s at h = by (conn s n) refl
  where
    by : (o : Option Conn) → conn s n ≡ o → Holds (Owned none_but At) (elim o as (λ x. State) [ None ↦ s | Some k ↦ end_replies (ended is_clean k s) ])
    by None found = h
    by (Some k) found = end_replies-owned _ (ended-owned is_clean k s at (in_find (is_conn n) k s.conns found).0 h)

-- ---- memory, and the disk

refused_ask : (ks : List Conn) (id : ℕ) (e : Exchange) → brings_to id e ≡ true → KeptAsk ks (dropping_body e) e
refused_ask ks id e hit = by e.body refl hit
  where
    by : (body : Body) → e.body ≡ body → is_some_with (λ b. b.instance == id) (bound_in body) ≡ true → KeptAsk ks (dropping_body e) e
    by IsPending is at = absurd (cc at)
    by Relaying is at = absurd (cc at)
    by Dropping is at = absurd (cc at)
    by (Joining b) is at = record {
      number = refl;
      asker = refl;
      aim = refl;
      headed = sym (ap (λ (x : Body). not (is_pending x)) is);
      relays = λ so. (let both : Relaying ≡ Joining b = sym so ∙ is in absurd (cc both));
      place = λ k l line none. none;
      plain = λ p. record { bare = λ none. (let both : false ≡ true = sym (p.bare none) ∙ ap (λ (x : Body). not (is_pending x)) is in absurd (cc both)); spelled = p.spelled; asked = λ on. p.asked (ap (λ (x : Body). not (is_pending x)) is); through = p.through };
    }

refused_row-owned : {At : Type 0} (x : Instance) (s : State) → Holds (Owned none_but At) s → Holds (Owned none_but At) (refused_row x s)
unfolding refused_row forget
refused_row-owned x s h = holds (asks_kept (changed_at (brings_to x.id) dropping_body) (λ e i. ask_if dropping_body e (brings_to x.id e) (λ hit. refused_ask s.conns x.id e hit)) (clients_kept (changed_at (waits_for_row x.id) (λ c. record c { course = RowRefused })) (λ c i. number_if (λ y. record y { course = RowRefused }) (λ y. refl) c (waits_for_row x.id c)) (λ c i isnt. kept_if (λ y. record y { course = RowRefused }) c (waits_for_row x.id c) (λ hit. as_it_was _ c refl refl refl (λ off. off) (λ is. absurd (cc is)))) (facts_of h)))

leave_memory-owned : {At : Type 0} (how : Leaving) (s : State) → Holds AtPhase s → Holds (Owned none_but At) s → Holds (Owned none_but At) (leave_memory how s)
unfolding leave_memory forget
leave_memory-owned ForAnother s c h = holds (facts_of (come_to-owned Evicting s c h))
leave_memory-owned (ForMemory x) s c h = refused_row-owned x _ (come_to-owned Evicting s c h)
leave_memory-owned (BeforeDecision x) s c h = holds (facts_of (come_to_decide-owned s c h))

pub forgotten_by-owned : {At : Type 0} (key : Bytes) (s : State) → Holds AtPhase s → Holds (Owned none_but At) s → Holds (Owned none_but At) (forgotten_by key s)
unfolding forgotten_by
forgotten_by-owned key s c h = each_of (leaving_as s key) h (λ how. leave_memory-owned how s c h)

pub evicted-owned : {At : Type 0} (s : State) → Holds (Owned none_but At) s → Holds (Owned none_but At) (evicted s)
unfolding evicted
evicted-owned s h = each_of (due_victim s) h (λ place. drop_chunk-any place.0 place.1 s h)

pub load-owned : {At : Type 0} (key : Bytes) (i : ℕ) (s : State) → Holds (Owned none_but At) s → Holds (Owned none_but At) (load key i s)
unfolding load load_from note_use
load-owned key i s h = each_of (row s key) h (λ x. each_of (kept_row s key) h (λ e. holds (facts_of h)))

pub begun_op-owned : {At : Type 0} (op : DiskOp) (s : State) → Holds AtPhase s → Holds (Owned none_but At) s → Holds (Owned none_but At) (begun_op op s)
unfolding begun_op
begun_op-owned op s c h = when (is_opening s) (begin_opening-any op s h) (begin_turn-any op _ (come_to-owned Keeping s c h))

pub ended_op-owned : {At : Type 0} (op : DiskOp) (ok : Bool) (s : State) → Holds (Owned none_but At) s → Holds (Owned none_but At) (ended_op op ok s)
unfolding ended_op
ended_op-owned op true s h = end_op-any op true s h
ended_op-owned op false s h = lose_in_opening-any s.agenda.name _ (end_op-any op false s h)

pub unread-owned : {At : Type 0} (name : Bytes) (s : State) → Holds (Owned none_but At) s → Holds (Owned none_but At) (unread name s)
unfolding unread
unread-owned name s h = paid-owned _ (lose_in_opening-any name _ (close_name-any name s h))

-- ---- openings

pub start-owned : {At : Type 0} (terms : List Term) → Holds (Owned none_but At) (start terms)
start-owned terms = holds (record {
  callers = λ c d i. absurd i;
  apart = λ d e i. absurd i;
  given = λ e i. absurd i;
  one = λ e d n i. absurd i;
  plain = λ e i. absurd i;
  fills = λ e c i. absurd i;
  kinds = λ e c i. absurd i;
  asks = λ c i. absurd i;
  amid = λ c i. absurd i;
  lined = λ k m i. absurd i;
  conns = λ j k i. absurd i;
  own = λ j k e i. absurd i;
  placed = λ k e i. absurd i;
  front = λ k a i. absurd i;
  behind = λ k e i. absurd i;
})

with_settings-owned : {At : Type 0} (o : Option Settings) (s : State) → Holds (Owned none_but At) s → Holds (Owned none_but At) (with_settings o s)
unfolding with_settings
with_settings-owned None s h = holds (facts_of h)
with_settings-owned (Some c) s h = holds (facts_of h)

pub woken-owned : {At : Type 0} (image : Files) (s : State) → Holds (Owned none_but At) (woken image s)
unfolding woken begun
woken-owned {At} image s = by _ (holds (facts_of (start-owned {At = At} (terms_behind s.terms))))
  where
    by : (t : State) → Holds (Owned none_but At) t → Holds (Owned none_but At) (elim (are_texts t.term) as (λ c. State) [
      | false ↦ with_settings None t
      | true ↦ elim (names_file t.term) as (λ c. State) [ true ↦ record t { phase = IsWoken } | false ↦ with_settings (settings_in (reading_of t.term.words None)) t ]
    ])
    by t h = at (are_texts t.term)
      where
        at : (b : Bool) → Holds (Owned none_but At) (elim b as (λ c. State) [
          | false ↦ with_settings None t
          | true ↦ elim (names_file t.term) as (λ c. State) [ true ↦ record t { phase = IsWoken } | false ↦ with_settings (settings_in (reading_of t.term.words None)) t ]
        ])
        at false = with_settings-owned None t h
        at true = when (names_file t.term) (holds (facts_of h)) (with_settings-owned (settings_in (reading_of t.term.words None)) t h)

pub opened_to-now : (p : Phase) (ok : Bool) (s : State) → (p ≡ Awaiting → ⊥) → OwnedNow s → OwnedNow (opened_to p ok s)
unfolding opened_to stuck
opened_to-now p true s isnt h = settle (record s { phase = p }) conv (holds (facts_of h))
  where
    conv : AtEvent p s.owed → AtEvent s.phase s.owed
    conv (awaits is) = absurd (isnt is)
    conv (owes is) = owes is
opened_to-now p false s isnt h = settle (record s { phase = IsStuck; failures = s.failures + 1 }) conv (holds (facts_of h))
  where
    conv : AtEvent IsStuck s.owed → AtEvent s.phase s.owed
    conv (awaits is) = absurd (cc is)
    conv (owes is) = owes is

pub configured-now : (text : Option Bytes) (s : State) → OwnedNow s → OwnedNow (configured text s)
unfolding configured stuck with_settings
configured-now None s h = settle (record s { phase = IsStuck; failures = s.failures + 1 }) conv (holds (facts_of h))
  where
    conv : AtEvent IsStuck s.owed → AtEvent s.phase s.owed
    conv (awaits is) = absurd (cc is)
    conv (owes is) = owes is
configured-now (Some text) s h = by (settings_in (reading_of s.term.words (Some text)))
  where
    stuck_conv : AtEvent IsStuck s.owed → AtEvent s.phase s.owed
    stuck_conv (awaits is) = absurd (cc is)
    stuck_conv (owes is) = owes is

    conv : AtEvent IsConfigured s.owed → AtEvent s.phase s.owed
    conv (awaits is) = absurd (cc is)
    conv (owes is) = owes is

    by : (o : Option Settings) → OwnedNow (with_settings o s)
    by None = settle (record s { phase = IsStuck }) stuck_conv (holds (facts_of h))
    by (Some c) = settle (record s { phase = IsConfigured; settings = c }) conv (holds (facts_of h))
