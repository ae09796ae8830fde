-- Whoever waits for an exchange has it, also as replies begin at the end of a turn, and where the next event is awaited.
use Rattle.std.proofs.Common.{◌≡◌, ◌⊎◌, refl, Bool, true, false, not, ◌&&◌, List, map, Option, Some, None, inl, inr, sym, ap, ◌∙◌}
use Rattle.std.specs.List.{list_any}
use Rattle.pp_reply.specs.Keeping.{is_end_known}
use Rattle.pp_world.specs.declared.event.Wants.{Wants}
use Rattle.pp_world.specs.declared.note.Decision.{Decision}
use Rattle.pp_world.specs.declared.note.Decision.TheVariants.{Pass}
use Rattle.pp_law.specs.Closing.{forsake}
use Rattle.pp_law.specs.Connections.{is_for, is_trying}
use Rattle.pp_law.specs.Replies.{begin_replies, begins, begun_at_end, begun_by, begun_decided, begun_instance, begun_passed, begun_reply, is_outrun, may_begin, passed_reply}
use Rattle.pp_law.specs.Requests.{Front, Parsed, NoHeadYet, NoHead as NoFront, IsRequest, keeps_open}
use Rattle.pp_law.specs.Stages.{bound_in, is_begun, is_headed, is_passing, is_pending, passed_of}
use Rattle.pp_law.specs.State.{State, Body, Pending as IsPending, Joining, Relaying, Dropping, Client, Conn, Exchange, Instance, Passed, Reply, Stage, Undecided, Waiting, Passing, Answering}
use Rattle.pp_law.specs.Table.{source_of}
use Rattle.pp_law.specs.Turn.{rest_with, rested_client, rested_conn}
use Rattle.pp_law.specs.Unseen.{rested_exchange, wanted_to}
use Rattle.pp_laws.specs.Runs.{IsIn}
use Rattle.pp_laws.proofs.Lists.{From, in_map}
use Rattle.pp_laws.proofs.Tests.{first_holds, second_holds}
use Rattle.pp_laws_coming.specs.Coming.{is_waiting}
use Rattle.pp_laws_turn.proofs.Rows.{swept-keeps}
use Rattle.pp_laws_turn.proofs.View.{Holds, facts_of, holds}
use Rattle.pp_laws_waits.proofs.Served.{any_in}
use Rattle.pp_laws_left.proofs.Keep.{begun_in, passed_in}
use Rattle.pp_laws_left.proofs.Owned.{AreFree, Asks, KeptAsk, KeptClient, Owned, as_it_was, ask_same, asker_of, asks_kept, asks_left, clients_kept, is_coming_in, no_test, none_but, rows, unanswered_in}
use Rattle.pp_laws_left.proofs.OwnedConns.{conn_same, conns_kept}
use Rattle.pp_laws_left.proofs.OwnedAsks.{asks_not}
use Rattle.pp_laws_left.proofs.OwnedOver.{relaying_headed}
use Rattle.pp_laws_left.proofs.OwnedReplies.{clients_all-owned}

-- ---- replies begin

-- as it was, or it answers what was not begun
record Begins (d c : Client) : Type 0 where
  number : d.number ≡ c.number
  brought : d.brought ≡ c.brought
  closing : d.is_closing ≡ c.is_closing
  course : d.course ≡ c.course
  stage : (d.stage ≡ c.stage) ⊎ ((is_waiting d.stage ≡ false) × (is_begun d ≡ true))

begins_same : (c : Client) → Begins c c
begins_same c = record { number = refl; brought = refl; closing = refl; course = refl; stage = inl refl }

begins_at_end : (t : State) (c : Client) → Begins (begun_at_end t c) c
begins_at_end t c = by c.is_closing c.front
  where
    passed : (q : Parsed) (d : Decision) (o : Option Passed) → Begins (elim o as (λ y. Client) [ None ↦ c | Some p ↦ record c { stage = Answering (passed_reply t q p d); closes = not (keeps_open q && is_end_known p.rule q.head.minor) } ]) c
    passed q d None = begins_same c
    passed q d (Some p) = record { number = refl; brought = refl; closing = refl; course = refl; stage = inr (refl, refl) }

    may : (q : Parsed) (r : Reply) (x : Instance) (b : Bool) → Begins (elim b as (λ y. Client) [ true ↦ record c { stage = Answering (begun_reply t q c r x) } | false ↦ c ]) c
    may q r x true = record { number = refl; brought = refl; closing = refl; course = refl; stage = inr (refl, refl) }
    may q r x false = begins_same c

    rowed : (q : Parsed) (r : Reply) (o : Option Instance) → Begins (elim o as (λ y. Client) [ None ↦ c | Some x ↦ elim (may_begin t r x) as (λ z. Client) [ true ↦ record c { stage = Answering (begun_reply t q c r x) } | false ↦ c ] ]) c
    rowed q r None = begins_same c
    rowed q r (Some x) = may q r x (may_begin t r x)

    kind : (q : Parsed) (r : Reply) (b : Bool) → Begins (elim b as (λ y. Client) [ true ↦ begun_passed t q r.decision c | false ↦ begun_instance t q r c ]) c
    kind q r true = passed q r.decision (passed_of c)
    kind q r false = rowed q r (source_of t r)

    answer : (q : Parsed) (r : Reply) (b : Bool) → Begins (elim b as (λ y. Client) [ true ↦ c | false ↦ begun_decided t q r c ]) c
    answer q r true = begins_same c
    answer q r false = kind q r (is_passing r.decision)

    staged : (q : Parsed) (g : Stage) → Begins (elim g as (λ y. Client) [ Undecided ↦ c | Waiting ↦ c | Passing ↦ begun_passed t q Pass c | Answering r ↦ elim r.has_begun as (λ y. Client) [ true ↦ c | false ↦ begun_decided t q r c ] ]) c
    staged q Undecided = begins_same c
    staged q Waiting = begins_same c
    staged q Passing = passed q Pass (passed_of c)
    staged q (Answering r) = answer q r r.has_begun

    by : (closing : Bool) (f : Front) → Begins (elim closing as (λ y. Client) [ true ↦ c | false ↦ elim f as (λ y. Client) [ NoHeadYet ↦ c | NoFront status ↦ c | IsRequest q ↦ begun_by t q c ] ]) c
    by true f = begins_same c
    by false NoHeadYet = begins_same c
    by false (NoFront status) = begins_same c
    by false (IsRequest q) = staged q c.stage

begun_kept : (d c : Client) → Begins d c → KeptClient d c
begun_kept d c b = by b.stage
  where
    by : (d.stage ≡ c.stage) ⊎ ((is_waiting d.stage ≡ false) × (is_begun d ≡ true)) → KeptClient d c
    by (inl stage) = as_it_was d c b.number stage b.brought (λ off. sym b.closing ∙ off) (λ is. ap is_trying (sym b.course) ∙ is)
    by (inr at) = record {
      number = b.number;
      asks = λ a. absurd (asks_not d at.0 a);
      amid = λ a. record { going = sym b.closing ∙ a.going; tries = ap is_trying (sym b.course) ∙ a.tries; more = ap is_coming_in (sym b.brought) ∙ a.more };
      stage = λ is. let both : true ≡ false = sym is ∙ at.0 in absurd (cc both);
      none = λ none. ap passed_in b.brought ∙ none;
      begun = λ off. let both : true ≡ false = sym at.1 ∙ off in absurd (cc both);
    }

pub begin_replies-owned : {At : Type 0} (s : State) → Holds (Owned none_but At) s → Holds (Owned none_but At) (begin_replies s)
unfolding begin_replies forsake
begin_replies-owned {At} s h = swept-keeps (rows none_but At) _ (holds (asks_left (is_outrun s) free (facts_of (clients_all-owned {At = At} (begun_at_end s) s (λ c. begun_kept _ c (begins_at_end s c)) h))))
  where
    free : AreFree none_but (is_outrun s) (map (begun_at_end s) s.clients) s.exchanges
    free x d i hit j isnt its = record { waited = λ un a. begun_not a; more = λ body a. (let both : true ≡ false = sym (relaying_headed x body) ∙ unheaded in cc both) }
      where
        unheaded : is_headed x ≡ false
        unheaded = no_test (is_headed x) (λ on. let both : false ≡ true = sym (ap not on) ∙ first_holds (not (is_headed x)) (list_any (λ c. is_for x c && begins s c) s.clients) hit in cc both)

        r : From (begun_at_end s) s.clients d
        r = in_map (begun_at_end s) d s.clients j

        w : (c : Client) × IsIn c s.clients × ((is_for x c && begins s c) ≡ true)
        w = any_in (λ c. is_for x c && begins s c) s.clients (second_holds (not (is_headed x)) (list_any (λ c. is_for x c && begins s c) s.clients) hit)

        b : Begins (begun_at_end s r.was) r.was
        b = begins_at_end s r.was

        number : w.0.number ≡ r.was.number
        number = let both : Some w.0.number ≡ Some d.number = sym (asker_of w.0.number x.asker (first_holds (is_for x w.0) (begins s w.0) w.2)) ∙ asker_of d.number x.asker its in let eq : w.0.number ≡ d.number = cc both in eq ∙ ap (λ (y : Client). y.number) r.is ∙ b.number

        one : w.0 ≡ r.was
        one = (facts_of h).callers w.0 r.was w.1 r.there number

        begun : is_begun d ≡ true
        begun = ap is_begun r.is ∙ ap (λ (y : Client). is_begun (begun_at_end s y)) (sym one) ∙ second_holds (not (is_begun w.0)) (is_begun (begun_at_end s w.0)) (second_holds (is_for x w.0) (begins s w.0) w.2)

        begun_not : Asks d → ⊥
        begun_not a = by d.stage refl a.unanswered
          where
            by : (g : Stage) → d.stage ≡ g → unanswered_in g d.brought ≡ true → ⊥
            by Undecided eq on = cc on
            by Waiting eq on = let both : false ≡ true = sym (ap begun_in eq) ∙ begun in cc both
            by Passing eq on = let both : false ≡ true = sym (ap begun_in eq) ∙ begun in cc both
            by (Answering q) eq on = cc on

rested_ask : (ks : List Conn) (s : State) (e : Exchange) → KeptAsk ks (rested_exchange s e) e
rested_ask ks s e = by e.body refl
  where
    by : (body : Body) → e.body ≡ body → KeptAsk ks (elim (bound_in body) as (λ c. Exchange) [ None ↦ e | Some b ↦ record e { body = Joining (wanted_to s b) } ]) e
    by IsPending is = ask_same e
    by Relaying is = ask_same e
    by Dropping is = ask_same e
    by (Joining b) is = record {
      number = refl;
      asker = refl;
      aim = refl;
      headed = sym (ap (λ (x : Body). not (is_pending x)) is);
      relays = λ at. (let both : Relaying ≡ Joining b = sym at ∙ is in absurd (cc both));
      place = λ k l line none. none;
      plain = λ p. record { bare = λ none. (let both : false ≡ true = sym (p.bare none) ∙ ap (λ (x : Body). not (is_pending x)) is in absurd (cc both)); spelled = p.spelled; asked = λ on. p.asked (ap (λ (x : Body). not (is_pending x)) is); through = p.through };
    }

pub rest_with-owned : {At : Type 0} (w : Wants) (s : State) → Holds (Owned none_but At) s → Holds (Owned none_but At) (rest_with w s)
unfolding rest_with
rest_with-owned w s h = holds (conns_kept (rested_conn s w) (λ k i. conn_same _ k refl refl refl) (asks_kept (rested_exchange s) (λ e i. rested_ask s.conns s e) (clients_kept (rested_client s) (λ c i. refl) (λ c i isnt. as_it_was _ c refl refl refl (λ off. off) (λ is. is)) (facts_of h))))
