-- Whoever waits for an exchange has it, also behind a decision.
use Rattle.std.proofs.Common.{◌≡◌, refl, ℕ, ◌==◌, Bool, true, false, not, ◌&&◌, ◌||◌, List, [], ◌∷◌, ◌++◌, filter, is_some, Option, Some, None, Result, Ok, Err, inl, inr, sym, subst, ap, ◌∙◌}
use Rattle.pp_ask.specs.declared.kind.AskKind.{AskKind}
use Rattle.pp_head.specs.Request.{Request}
use Rattle.pp_target.specs.Key.{Key, text_of}
use Rattle.pp_target.specs.declared.target.TargetFault.{TargetFault}
use Rattle.pp_world.specs.declared.note.Decision.{Decision}
use Rattle.pp_world.specs.declared.note.Decision.TheVariants.{Refuse, Hit, Part, Head, NotModified, Unsatisfiable, Relay, Validate, Fetch, Pass}
use Rattle.pp_law.specs.After.{take_decision}
use Rattle.pp_law.specs.Closing.{forsake, is_of, is_over, leave, left_alone}
use Rattle.pp_law.specs.Connections.{client, is_client, on_client}
use Rattle.pp_law.specs.Deciding.{add_exchange, answering_with, ask_as, ask_for, ask_origin, asking_with, begin_exchange, decided, decided_by, enter_row, follow, follow_row, follow_with, is_pass, new_exchange, refuse, refused_with, relay, reply_by, serves, stage_for}
use Rattle.pp_law.specs.Decisions.{decide, kind_of}
use Rattle.pp_law.specs.Due.{due_by_stage, due_decision, due_reply, give_up, has_lost_row, is_told}
use Rattle.pp_law.specs.Lists.{change}
use Rattle.pp_law.specs.Permits.{permits_taken}
use Rattle.pp_law.specs.Phases.{come_to_decide, deciding}
use Rattle.pp_law.specs.Replies.{regained}
use Rattle.pp_law.specs.Requests.{Front, Parsed, NoHeadYet, NoHead as NoFront, IsRequest, key_in}
use Rattle.pp_law.specs.Sharing.{due_undecided}
use Rattle.pp_law.specs.Stages.{filled_of, is_begun, passed_of}
use Rattle.pp_law.specs.State.{State, Aim, Through, Own, Client, Conn, Exchange, Instance, Reply, Stage, Undecided, Waiting, Passing, Answering}
use Rattle.pp_law.specs.Table.{row, row_for}
use Rattle.pp_laws.specs.Runs.{IsIn}
use Rattle.pp_laws.proofs.Lists.{Changed, in_change, in_find, other, same}
use Rattle.pp_laws.proofs.Sound.{Since, Sound}
use Rattle.pp_laws.proofs.Tests.{first_holds, number_same, same_number}
use Rattle.pp_laws_coming.specs.Coming.{is_waiting}
use Rattle.pp_laws_coming.proofs.Dues.{IsDue, taken_due}
use Rattle.pp_laws_coming.proofs.Plans.{is_by_row as by_row}
use Rattle.pp_laws_coming.proofs.Taken.{taken_rests}
use Rattle.pp_laws_lines.proofs.LinedAsks.{text_some}
use Rattle.pp_laws_turn.proofs.Cases.{each_of}
use Rattle.pp_laws_turn.proofs.Clients.{enter_row-keeps}
use Rattle.pp_laws_turn.proofs.Rows.{swept-keeps}
use Rattle.pp_laws_turn.proofs.View.{Holds, View, facts_of, holds, view}
use Rattle.pp_laws_left.proofs.Keep.{begun_in}
use Rattle.pp_laws_left.proofs.Owned.{Amid, AreFree, Asks, But, Facts, Free, KeptClient, Owned, asker_of, asks_left, asks_over, answers_as, none_but, Relays, rows}
use Rattle.pp_laws_left.proofs.OwnedAsks.{amid_not, asks_not, on_client-owned}
use Rattle.pp_laws_left.proofs.OwnedPhases.{ask_added, body_passed, is_of_it, leave-owned, none_is_of, over_free}
use Rattle.pp_laws_left.proofs.OwnedReplies.{regained-owned}

-- ---- whom a decision is due to

due_unbegun : (s : State) (c : Client) (d : Decision) → due_decision s c ≡ Some d → is_begun c ≡ false
due_unbegun s c d is = going (c.is_closing || s.is_stopped) is
  where
    replied : (r : Reply) (t : Bool) → r.has_begun ≡ t → (elim t as (λ y. Option Decision) [ true ↦ None | false ↦ give_up c.course (elim (has_lost_row s r) as (λ y. Option Decision) [ true ↦ decide s c | false ↦ None ]) ]) ≡ Some d → r.has_begun ≡ false
    replied r true begun at = absurd (cc at)
    replied r false begun at = begun

    by : (stage : Stage) → c.stage ≡ stage → (elim stage as (λ y. Option Decision) [
      | Undecided ↦ due_undecided s c
      | Waiting ↦ give_up c.course (elim (is_told c.brought) as (λ y. Option Decision) [ true ↦ decide s c | false ↦ None ])
      | Passing ↦ give_up c.course None
      | Answering r ↦ due_reply s c r
    ]) ≡ Some d → is_begun c ≡ false
    by Undecided eq at = ap begun_in eq
    by Waiting eq at = ap begun_in eq
    by Passing eq at = ap begun_in eq
    by (Answering r) eq at = ap begun_in eq ∙ replied r r.has_begun refl at

    going : (t : Bool) → (elim t as (λ y. Option Decision) [ true ↦ None | false ↦ due_by_stage s c ]) ≡ Some d → is_begun c ≡ false
    going true at = absurd (cc at)
    going false at = by c.stage refl at

-- ---- pages

-- its request waits for nothing any more
settled_kept : (d c : Client) → d.number ≡ c.number → is_waiting d.stage ≡ false → passed_of d ≡ None → KeptClient d c
settled_kept d c number off none = record {
  number = number;
  asks = λ a. absurd (asks_not d off a);
  amid = λ a. absurd (amid_not d none a);
  stage = λ is. let both : true ≡ false = sym is ∙ off in absurd (cc both);
  none = λ was. none;
  begun = λ fresh. inr none;
}

refuse-owned : {At : Type 0} (c : Client) (status : ℕ) (s : State) → Holds (Owned none_but At) s → Holds (Owned none_but At) (refuse c status s)
unfolding refuse on_client
refuse-owned {At} c status s h = swept-keeps (rows none_but At) _ (leave-owned {but = none_but} {At = At} (is_of c.number) _ free (on_client-owned {but = none_but} {At = At} c.number (refused_with status) s (λ d. refl) (λ d i hit isnt. settled_kept _ d refl refl refl) h))
  where
    free : AreFree none_but (is_of c.number) (change (is_client c.number) (refused_with status) s.clients) s.exchanges
    free x d i hit j isnt its = by (in_change (is_client c.number) (refused_with status) d s.clients j)
      where
        number : d.number ≡ c.number
        number = let both : Some d.number ≡ Some c.number = sym (asker_of d.number x.asker its) ∙ asker_of c.number x.asker hit in cc both

        by : Changed (is_client c.number) (refused_with status) s.clients d → Free x d
        by (same k off) = let both : true ≡ false = sym (ap (λ m. m == c.number) number ∙ number_same c.number) ∙ off in absurd (cc both)
        by (other y k on eq) = record { waited = λ un a. asks_not (refused_with status y) refl (subst (λ (z : Client). Asks z) eq a); more = λ body a. amid_not (refused_with status y) refl (subst (λ (z : Client). Amid z) eq a) }

-- ---- asks

apart_client : {At : Type 0} (n : ℕ) (cs : List Client) (es : List Exchange) (ks : List Conn) (next : ℕ) → Facts none_but At cs es ks next → Facts (record { ask = None; conn = None; client = Some n }) At cs es ks next
apart_client n cs es ks next h = record {
  callers = h.callers;
  apart = h.apart;
  given = h.given;
  one = h.one;
  plain = h.plain;
  fills = λ e c i j its some isnt. h.fills e c i j its some (λ is. cc is);
  kinds = λ e c i j its isnt waits. h.kinds e c i j its (λ is. cc is) waits;
  asks = λ c j isnt a. h.asks c j (λ is. cc is) a;
  amid = λ c j isnt a. h.amid c j (λ is. cc is) a;
  lined = h.lined;
  conns = h.conns;
  own = h.own;
  placed = h.placed;
  front = h.front;
  behind = h.behind;
}

ask_for-owned : {At : Type 0} (c : Client) (d : Decision) (head : Request) (key : Key) (kind : AskKind) (s : State) → Holds (Owned none_but At) s → Holds (Owned none_but At) (ask_for c d head key kind s)
unfolding ask_for begin_exchange add_exchange leave forsake on_client
ask_for-owned {At} c d head key kind s h = swept-keeps (rows none_but At) _ (holds (ask_added e c.number refl refl refl (text_some kind head key s.settings.name) (λ some. body_passed (is_pass d) c.body_left some) refl alone bare kinds (λ m is. let eq : c.number ≡ m = cc is in sym eq) amid left_twice))
  where
    lone : But
    lone = record { ask = None; conn = None; client = Some c.number }

    e : Exchange
    e = new_exchange s c head key d kind

    cs : List Client
    cs = change (is_client c.number) (asking_with d) s.clients

    first : Facts (record { ask = None; conn = None; client = Some c.number }) At (change (is_client c.number) (asking_with d) s.clients) s.exchanges s.conns s.next_exchange
    first = facts_of (on_client-owned {but = record { ask = None; conn = None; client = Some c.number }} {At = At} c.number (asking_with d) s (λ y. refl) (λ y i hit isnt. absurd (isnt (ap (λ m. Some m) (sym (same_number y.number c.number hit))))) (holds (apart_client c.number s.clients s.exchanges s.conns s.next_exchange (facts_of h))))

    free_of : (test : Exchange → Bool) (es : List Exchange) → ((x : Exchange) → test x ≡ true → is_of c.number x ≡ true) → AreFree (record { ask = None; conn = None; client = Some c.number }) test (change (is_client c.number) (asking_with d) s.clients) es
    free_of test es hits x y i hit j isnt its = absurd (isnt (let both : Some y.number ≡ Some c.number = sym (asker_of y.number x.asker its) ∙ asker_of c.number x.asker (hits x hit) in sym both))

    left_once : List Exchange
    left_once = filter (λ x. not (is_over x)) (change (is_of c.number) left_alone s.exchanges)

    left_twice : Facts (record { ask = None; conn = None; client = Some c.number }) At (change (is_client c.number) (asking_with d) s.clients) (filter (λ x. not (is_over x)) (change (is_of c.number) left_alone (filter (λ x. not (is_over x)) (change (is_of c.number) left_alone s.exchanges)))) s.conns s.next_exchange
    left_twice =
        asks_over is_over (over_free (record { ask = None; conn = None; client = Some c.number }) (change (is_client c.number) (asking_with d) s.clients) _) (asks_left (is_of c.number) (free_of (is_of c.number) _ (λ x hit. hit))
        (asks_over is_over (over_free (record { ask = None; conn = None; client = Some c.number }) (change (is_client c.number) (asking_with d) s.clients) _) (asks_left (is_of c.number) (free_of (is_of c.number) s.exchanges (λ x hit. hit)) first)))

    alone : (x : Exchange) → IsIn x (filter (λ y. not (is_over y)) (change (is_of c.number) left_alone (filter (λ y. not (is_over y)) (change (is_of c.number) left_alone s.exchanges)))) → x.asker ≡ Some c.number → ⊥
    alone x i asks = none_is_of c.number (is_of c.number) (filter (λ y. not (is_over y)) (change (is_of c.number) left_alone s.exchanges)) (λ y is. is_of_it c.number y is) x i asks

    -- that client is the one that asks now
    asks_now : (y : Client) → IsIn y (change (is_client c.number) (asking_with d) s.clients) → y.number ≡ c.number → (y.stage ≡ stage_for d) × (passed_of y ≡ None)
    asks_now y j number = by (in_change (is_client c.number) (asking_with d) y s.clients j)
      where
        by : Changed (is_client c.number) (asking_with d) s.clients y → (y.stage ≡ stage_for d) × (passed_of y ≡ None)
        by (same k off) = let both : true ≡ false = sym (ap (λ m. m == c.number) number ∙ number_same c.number) ∙ off in absurd (cc both)
        by (other z k on eq) = (ap (λ (u : Client). u.stage) eq, ap passed_of eq)

    bare : (y : Client) → IsIn y (change (is_client c.number) (asking_with d) s.clients) → y.number ≡ c.number → is_some (filled_of e) ≡ true → passed_of y ≡ None
    bare y j number some = (asks_now y j number).1

    amid : (y : Client) → IsIn y (change (is_client c.number) (asking_with d) s.clients) → y.number ≡ c.number → Amid y → Relays (filter (λ x. not (is_over x)) (change (is_of c.number) left_alone (filter (λ x. not (is_over x)) (change (is_of c.number) left_alone s.exchanges))) ++ new_exchange s c head key d kind ∷ []) y
    amid y j number a = absurd (amid_not y (asks_now y j number).1 a)

    kinds : (y : Client) → IsIn y (change (is_client c.number) (asking_with d) s.clients) → y.number ≡ c.number → is_waiting y.stage ≡ true → answers_as y.stage e.aim ≡ true
    kinds y j number waits = ap (λ g. answers_as g e.aim) (asks_now y j number).0 ∙ by (is_pass d)
      where
        by : (t : Bool) → answers_as (elim t as (λ x. Stage) [ true ↦ Passing | false ↦ Waiting ]) (elim t as (λ x. Aim) [ true ↦ Through | false ↦ Own ]) ≡ true
        by true = refl
        by false = refl

ask_origin-owned : {At : Type 0} (c : Client) (d : Decision) (s : State) → Holds (Owned none_but At) s → Holds (Owned none_but At) (ask_origin c d s)
unfolding ask_origin ask_as
ask_origin-owned {At} c d s h = by_front c.front
  where
    by_kind : (head : Request) (key : Key) (o : Option AskKind) → Holds (Owned none_but At) (elim o as (λ x. State) [ None ↦ s | Some kind ↦ ask_for c d head key kind s ])
    by_kind head key None = h
    by_kind head key (Some kind) = ask_for-owned c d head key kind s h

    by_key : (r : Parsed) (named : Result Key TargetFault) → Holds (Owned none_but At) (elim named as (λ x. State) [ Ok key ↦ elim (kind_of r.head (row_for s r.head (text_of key)) d) as (λ y. State) [ None ↦ s | Some kind ↦ ask_for c d r.head key kind s ] | Err fault ↦ s ])
    by_key r (Ok key) = by_kind r.head key (kind_of r.head (row_for s r.head (text_of key)) d)
    by_key r (Err fault) = h

    by_front : (front : Front) → Holds (Owned none_but At) (elim front as (λ x. State) [
      | NoHeadYet ↦ s
      | NoFront status ↦ s
      | IsRequest r ↦ elim r.key as (λ y. State) [ Ok key ↦ elim (kind_of r.head (row_for s r.head (text_of key)) d) as (λ z. State) [ None ↦ s | Some kind ↦ ask_for c d r.head key kind s ] | Err fault ↦ s ]
    ])
    by_front NoHeadYet = h
    by_front (NoFront status) = h
    by_front (IsRequest r) = by_key r r.key

-- ---- replies

-- whoever has that number has not begun, and is passed nothing where that is asked for
abbrev Fresh : Client → Bool → List Client → Type 0
Fresh c rows_ cs = (d : Client) → IsIn d cs → d.number ≡ c.number → (is_begun d ≡ false) × (rows_ ≡ true → passed_of d ≡ None)

answering_kept : (r : Reply) (c : Client) → is_begun c ≡ false → KeptClient (answering_with r c) c
answering_kept r c fresh = record {
  number = refl;
  asks = λ a. let both : false ≡ true = a.unanswered in absurd (cc both);
  amid = λ a. record { going = a.going; tries = a.tries; more = a.more };
  stage = λ is. let both : false ≡ true = is in absurd (cc both);
  none = λ none. none;
  begun = λ off. inl fresh;
}

follow-owned : {At : Type 0} (c : Client) (d : Decision) (s : State) → Fresh c true s.clients → Holds (Owned none_but At) s → Holds (Owned none_but At) (follow c d s)
unfolding follow follow_row follow_with on_client
follow-owned {At} c d s fresh h = each_of (key_in c.front) h (λ key. each_of (row s (text_of key)) h (λ x. at x))
  where
    at : (x : Instance) → Holds (Owned none_but At) (follow_with c (reply_by d (Some x.id)) x s)
    at x = swept-keeps (rows none_but At) _ (leave-owned {but = none_but} {At = At} (λ e. is_of c.number e && not (serves x (reply_by d (Some x.id)) e)) _ free (on_client-owned {but = none_but} {At = At} c.number (answering_with (reply_by d (Some x.id))) s (λ y. refl) (λ y i hit isnt. answering_kept (reply_by d (Some x.id)) y (fresh y i (same_number y.number c.number hit)).0) h))
      where
        free : AreFree none_but (λ e. is_of c.number e && not (serves x (reply_by d (Some x.id)) e)) (change (is_client c.number) (answering_with (reply_by d (Some x.id))) s.clients) s.exchanges
        free e y i hit j isnt its = by (in_change (is_client c.number) (answering_with (reply_by d (Some x.id))) y s.clients j)
          where
            number : y.number ≡ c.number
            number = let both : Some y.number ≡ Some c.number = sym (asker_of y.number e.asker its) ∙ asker_of c.number e.asker (first_holds (is_of c.number e) (not (serves x (reply_by d (Some x.id)) e)) hit) in cc both

            by : Changed (is_client c.number) (answering_with (reply_by d (Some x.id))) s.clients y → Free e y
            by (same k off) = let both : true ≡ false = sym (ap (λ m. m == c.number) number ∙ number_same c.number) ∙ off in absurd (cc both)
            by (other z k on eq) = record {
              waited = λ un a. asks_not (answering_with (reply_by d (Some x.id)) z) refl (subst (λ (u : Client). Asks u) eq a);
              more = λ body a. amid_not (answering_with (reply_by d (Some x.id)) z) ((fresh z k (same_number z.number c.number on)).1 refl) (subst (λ (u : Client). Amid u) eq a);
            }

relay-owned : {At : Type 0} (c : Client) (s : State) → Fresh c false s.clients → Holds (Owned none_but At) s → Holds (Owned none_but At) (relay c s)
unfolding relay
relay-owned {At} c s fresh h = swept-keeps (rows none_but At) _ (on_client-owned c.number (answering_with (reply_by Relay None)) s (λ y. refl) (λ y i hit isnt. answering_kept (reply_by Relay None) y (fresh y i (same_number y.number c.number hit)).0) h)

abbrev With : Type 0 → List Client → View → Type 0
With At cs v = Owned none_but At v × (v.clients ≡ cs)

decided-owned : {At : Type 0} (c : Client) (d : Decision) (s : State) → Fresh c (by_row d) s.clients → Holds (Owned none_but At) s → Holds (Owned none_but At) (decided c d s)
unfolding decided decided_by
decided-owned {At} c d s fresh h = by d refl
  where
    w : Owned none_but At (view (enter_row c d s)) × ((enter_row c d s).clients ≡ s.clients)
    w = facts_of (enter_row-keeps {P = With At s.clients} (λ xs next v from g. g) c d s (holds (facts_of h, refl)))

    ht : Holds (Owned none_but At) (enter_row c d s)
    ht = holds w.0

    now : (t : Bool) → by_row d ≡ t → Fresh c t (enter_row c d s).clients
    now t is = subst (λ b. Fresh c b (enter_row c d s).clients) is (subst (λ (cs : List Client). Fresh c (by_row d) cs) (sym w.1) fresh)

    by : (e : Decision) → d ≡ e → Holds (Owned none_but At) (decided_by c e (enter_row c d s))
    by (Refuse status) is = refuse-owned c status _ ht
    by Pass is = ask_origin-owned c Pass _ ht
    by Fetch is = ask_origin-owned c Fetch _ ht
    by Validate is = ask_origin-owned c Validate _ ht
    by Relay is = relay-owned c _ (now false (ap by_row is)) ht
    by (Hit from to) is = follow-owned c (Hit from to) _ (now true (ap by_row is)) ht
    by (Part from to) is = follow-owned c (Part from to) _ (now true (ap by_row is)) ht
    by Head is = follow-owned c Head _ (now true (ap by_row is)) ht
    by NotModified is = follow-owned c NotModified _ (now true (ap by_row is)) ht
    by Unsatisfiable is = follow-owned c Unsatisfiable _ (now true (ap by_row is)) ht

pub taken-owned : {At : Type 0} {b : Since} (n i : ℕ) (d : Decision) (s : State) → Sound b s → permits_taken s n i d ≡ true → Holds (Owned none_but At) (deciding s) → Holds (Owned none_but At) (take_decision n d (deciding s))
unfolding take_decision deciding
taken-owned {At} n i d s so may h = by (client (deciding s) n) refl
  where
    fresh : (c : Client) → client (deciding s) n ≡ Some c → Fresh c (by_row d) (deciding s).clients
    fresh c found y j number = (
      ap is_begun one ∙ due_unbegun (come_to_decide s) w.own w.due w.is,
      λ row_. (taken_rests s n i d c so may found).nothing row_ y j number,
    )
      where
        w : IsDue (come_to_decide s) n d
        w = taken_due s n i d may

        one : y ≡ w.own
        one = (facts_of h).callers y w.own j w.there (number ∙ same_number c.number n (in_find (is_client n) c (come_to_decide s).clients found).1 ∙ sym w.number)

    by : (o : Option Client) → client (deciding s) n ≡ o → Holds (Owned none_but At) (elim o as (λ x. State) [ None ↦ deciding s | Some c ↦ regained (record (decided c d (deciding s)) { forgotten = []; made_room_for = None }) ])
    by None found = h
    by (Some c) found = regained-owned _ (holds (facts_of (decided-owned c d (deciding s) (fresh c found) h)))
