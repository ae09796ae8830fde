-- The law: a reply that is passed is one response, and all of it where the reply is over.
use Rattle.std.proofs.Common.{◌≡◌, ◌⊎◌, refl, ℕ, Bool, true, false, not, ◌==◌, ◌&&◌, ◌||◌, List, [], ◌∷◌, ◌++◌, map, length, Option, Some, None, inl, inr, sym, subst, ap, ◌∙◌, append_assoc, le_refl}
use Rattle.std.proofs.lemmas.List.{append-nil}
use Rattle.std.specs.Prelude.{if◌then◌else◌}
use Rattle.pp_framing.specs.declared.body.BodyRule.{BodyRule}
use Rattle.pp_head.specs.Response.{Response}
use Rattle.pp_pass.specs.Pipe.{spelled_end}
use Rattle.pp_text.specs.Bytes.{is_empty}
use Rattle.pp_world.proofs.LogLemmas.{said-append}
use Rattle.pp_world.specs.Log.{Log}
use Rattle.pp_world.specs.Streams.{got as got_of, got_in, said as said_to, said_in}
use Rattle.pp_world.specs.declared.happening.Happening.{Happening}
use Rattle.pp_world.specs.declared.happening.Happening.TheVariants.{Woke, Waits, Clock, Opened, CanRead, CanWrite, Heard, HungUp, Said, Shut, Dialled, Undialled, Reached, Ended, Broke, Asked, Got, Dropped, NoneYet, Began, Did, Unread, Noted, Rooted, Listed, Listens, Configured, Printed, Stopped}
use Rattle.pp_law.proofs.Prefixes.{front_from}
use Rattle.pp_law.specs.After.{after, changed, event, gone, paid, said as say}
use Rattle.pp_law.specs.Asking.{hang_up, hear, is_writing}
use Rattle.pp_law.specs.Closing.{close_client}
use Rattle.pp_law.specs.Connections.{client, conn, front_of_line, is_conn, is_for, on_client}
use Rattle.pp_law.specs.Hearing.{heard_by}
use Rattle.pp_law.specs.Lawful.{Lawful}
use Rattle.pp_law.specs.Lists.{Bytes, is_some_with}
use Rattle.pp_law.specs.Permits.{IsPermitted}
use Rattle.pp_law.specs.Replies.{end_replies, has_no_more, is_said, said_by, use_said}
use Rattle.pp_law.specs.Responses.{ended, got, is_whole_at_end, payload_of}
use Rattle.pp_law.specs.Stages.{is_passing, passed_of, reply_of}
use Rattle.pp_law.specs.State.{State, Term, Answer, Client, Conn, Exchange, Passed, Reply, Stage, Undecided, Waiting, Passing, Answering, start}
use Rattle.pp_laws.specs.Numbers.{AreRising}
use Rattle.pp_laws.specs.Runs.{IsIn, state_after}
use Rattle.pp_laws.proofs.Happenings.{after-sound}
use Rattle.pp_laws.proofs.Laws.{own_numbers, start-sound}
use Rattle.pp_laws.proofs.Lists.{in_find}
use Rattle.pp_laws.proofs.Pieces.{front_by}
use Rattle.pp_laws.proofs.Sound.{Since, Sound, conn_number, first_of}
use Rattle.pp_laws.proofs.Tests.{first_holds, same_number, second_holds}
use Rattle.pp_laws_pool.proofs.Along.{after_all-append, back_from}
use Rattle.pp_laws_pool.proofs.View.{facts_of, view}
use Rattle.pp_laws_replies.proofs.Quiet.{quiet_same}
use Rattle.pp_laws_lines.proofs.Lined.{facts_of as lines_of}
use Rattle.pp_laws_lines.proofs.Stream.{first, got_grown, is_plain, plain}
use Rattle.pp_laws_passed.specs.Passed.{IsShown, all_spelled, head_left, is_in_passed, last_of, to_say}
use Rattle.pp_laws_passed.proofs.Fed.{Fed, Grows, Keeps, Tale, facts_of as fed_facts, is_in_other, parts_same}
use Rattle.pp_laws_passed.proofs.FedAsks.{on_client-fed}
use Rattle.pp_laws_passed.proofs.FedHappenings.{EndsAs, changed-fed, event-fed, event_conns, grows_said, nobody as nobody-fed, not_other, paid-fed, retold, said_seen-fed, told_more}
use Rattle.pp_laws_passed.proofs.FedHeads.{EndsWell, Stem, asker_of, ended-fed}
use Rattle.pp_laws_passed.proofs.FedReplies.{end_replies-fed, heard_same}
use Rattle.pp_laws_sent.specs.Stands.{WasAskedOn}
use Rattle.pp_laws_sent.specs.Whole.{HasArrived, IsOneSoFar, IsOneWhole, PassedIsOneSoFar, PassedIsOneWhole, SeenIsJustBefore, by_the_end, seen}
use Rattle.pp_laws_sent.proofs.Arrived.{arrived_by, arrived_still, ends_whole, its_own_now}
use Rattle.pp_laws_sent.proofs.Came.{Began as HasBegun, Came, came_more, no_end, none_apart}
use Rattle.pp_laws_sent.proofs.HeardOn.{HasHeard, got-heard, tale_with}
use Rattle.pp_laws_sent.proofs.Laws.{Inv, asked_still, came_in, first_came, got_over_inv, nobody, one_more, reading_now, step as inv_step}
use Rattle.pp_laws_sent.proofs.Ours.{Stood, ours_now}

-- what was said, by the log
abbrev told_in : Log → ℕ → Bytes
told_in log n = said_to n log

-- whatever is loaded
abbrev from_start : Since
from_start = record { old = []; counts_loads = false; excepts = None }

-- behind a log
record Kept (terms : List Term) (log : Log) (s : State) : Type 0 where
  inv : Inv terms log s
  sounds : Sound from_start s
  fed : Fed (tale_with terms log (told_in log) inv.firsts) s

once : (n : ℕ) (h : Happening) → said_to n (h ∷ []) ≡ said_in n h
unfolding said_to
once n h = append-nil (said_in n h)

said_once : (log : Log) (h : Happening) (n : ℕ) → said_to n (log ++ h ∷ []) ≡ said_to n log ++ said_in n h
said_once log h n = said-append n log (h ∷ []) ∙ ap (λ (xs : Bytes). said_to n log ++ xs) (once n h)

module _ (terms : List Term) (log : Log) (h : Happening) (k : Kept terms log (state_after terms log)) where
  abbrev s : State
  s = state_after terms log

  abbrev log2 : Log
  log2 = log ++ h ∷ []

  abbrev now : Tale
  now = tale_with terms log2 (told_in log) k.inv.firsts

  -- with what comes in this happening
  fed_now : Fed now s
  fed_now = retold (tale_with terms log (told_in log) k.inv.firsts) now s (λ n. refl) (record {
    but = λ n isnt. isnt;
    follows = λ is. is;
    came = arrived_still terms log h (λ n. one_more log h n) (λ n e w. asked_still terms log h n e w);
  }) (fed_facts k.fed).answers k.fed

  -- with what is said in it
  said_now : (firsts : ℕ → Option ℕ) (u : State) → Fed (record (tale_with terms log2 (told_in log) firsts) { said = λ n. said_to n log ++ said_in n h }) u → Fed (tale_with terms log2 (told_in log2) firsts) u
  said_now firsts u f =
      retold (record (tale_with terms log2 (told_in log) firsts) { said = λ n. said_to n log ++ said_in n h }) (tale_with terms log2 (told_in log2) firsts) u (λ n. said_once log h n) (grows_said (record (tale_with terms log2 (told_in log) firsts) { said = λ n. said_to n log ++ said_in n h }) (told_in log2)) (fed_facts f).answers f

  -- where nothing is
  silent_now : (firsts : ℕ → Option ℕ) (u : State) → ((n : ℕ) → said_in n h ≡ []) → Fed (tale_with terms log2 (told_in log) firsts) u → Fed (tale_with terms log2 (told_in log2) firsts) u
  silent_now firsts u none f =
      retold (tale_with terms log2 (told_in log) firsts) (tale_with terms log2 (told_in log2) firsts) u (λ n. said_once log h n ∙ ap (λ (xs : Bytes). said_to n log ++ xs) (none n) ∙ append-nil (said_to n log)) (grows_said (tale_with terms log2 (told_in log) firsts) (told_in log2)) (fed_facts f).answers f

  -- the end of a connection ends what came there
  ends_well : (m : ℕ) → h ≡ Ended m → (j : Conn) → conn s m ≡ Some j → EndsWell now j s
  ends_well m ended_is j found = record { named = named; ends = ends }
    where
      there : IsIn j s.conns × (is_conn m j ≡ true)
      there = in_find (is_conn m) j s.conns found

      named : (a : Answer) → j.answer ≡ Some a → k.inv.firsts j.number ≡ first_of j.line
      named a is = let heads = (lines_of k.inv.lines.lines).answers j a there.0 is (λ so. cc so) in heads.expected ∙ sym heads.first

      in_line : (line : List ℕ) (n : ℕ) → first_of line ≡ Some n → IsIn n line
      in_line [] n is = absurd (cc is)
      in_line (x ∷ line) n is = let eq : x ≡ n = cc in inl (sym eq)

      -- nothing came with it
      quiet : (n : ℕ) → came_in log2 n ≡ came_in log n
      quiet n = one_more log h n ∙ ap (λ (x : Happening). came_in log n ++ got_in n x) ended_is ∙ append-nil (came_in log n)

      f : Came (came_in log2) no_end (WasAskedOn terms log2) k.inv.firsts false none_apart (view s)
      f = came_more (came_in log) (came_in log2) no_end (WasAskedOn terms log) (WasAskedOn terms log2) k.inv.firsts (λ n. quiet n ∙ sym (append-nil (came_in log n))) (λ n e w. asked_still terms log h n e w) (view s) (facts_of k.inv.came)

      parts : log2 ≡ log ++ Ended j.number ∷ []
      parts = ap (λ (x : Happening). log ++ x ∷ []) ended_is ∙ ap (λ n. log ++ Ended n ∷ []) (sym (same_number j.number m there.1))

      ends : (e : Exchange) (a : Answer) → j.answer ≡ Some a → front_of_line s j ≡ Some e → is_whole_at_end a ≡ true → (d : Client) → IsIn d s.clients → is_for e d ≡ true → HasArrived terms log2 d.number d.index a.head a.rule (payload_of a) true
      ends e a has front whole d i hit =
          let its = front_by s j.line e front in
          let stood : Stood s j.number e.number d.number = facts_of (ours_now s) j e d.number there.0 its.0 (in_line j.line e.number its.1) (asker_of e d hit) in
          let own = its_own_now terms log (h ∷ []) log2 refl j.number e d stood (record { was = d; there = i; number = refl; index = refl }) in
          arrived_by terms log2 j.number [] (k.inv.firsts j.number) a d.number d.index own.0 (f.begun j a there.0 has) own.1 (named a has ∙ its.1 ∙ ap (λ n. Some n) (sym own.2)) a.raw [] refl true
          (λ stream came so. by_the_end log [] parts (sym (quiet j.number) ∙ came ∙ append-nil stream) (ends_whole a whole))

-- ---- what one read brings

module _ (terms : List Term) (log : Log) (n : ℕ) (bytes : Bytes) (k : Kept terms log (state_after terms log)) (rise : AreRising (map conn_number (state_after terms log).conns)) where
  heard_now : HasHeard terms (log ++ Got n bytes ∷ []) (told_in log) (plain terms (log ++ Got n bytes ∷ []) (state_after terms log).top k.inv.firsts) n (got (length bytes) n bytes (state_after terms log))
  heard_now =
      got-heard terms log (Got n bytes ∷ []) (log ++ Got n bytes ∷ []) refl (told_in log) from_start refl (length bytes) n bytes (plain terms (log ++ Got n bytes ∷ []) (state_after terms log).top k.inv.firsts) (state_after terms log) (le_refl (length bytes)) (record {
        plain = is_plain terms (log ++ Got n bytes ∷ []) (state_after terms log).top k.inv.firsts;
        lines = got_grown terms log k.inv.firsts n bytes (state_after terms log) k.inv.lines;
        came = reading_now terms log n bytes rise k.inv;
        sounds = k.sounds;
        quiet = quiet_same (state_after terms log);
        ours = ours_now (state_after terms log);
        fed = fed_now terms log (Got n bytes) k;
      })

  got_seen : Fed (tale_with terms (log ++ Got n bytes ∷ []) (told_in (log ++ Got n bytes ∷ [])) heard_now.firsts) (got (length bytes) n bytes (state_after terms log))
  got_seen = silent_now terms log (Got n bytes) k heard_now.firsts _ (λ m. refl) heard_now.fed

  got_step : Inv terms (log ++ Got n bytes ∷ []) (after (state_after terms log) (Got n bytes))
  got_step = got_over_inv terms log n bytes k.inv (record { firsts = heard_now.firsts; lines = heard_now.lines; came = heard_now.came })

  got_fed : Fed (tale_with terms (log ++ Got n bytes ∷ []) (told_in (log ++ Got n bytes ∷ [])) heard_now.firsts) (after (state_after terms log) (Got n bytes))
  unfolding changed
  got_fed = paid-fed _ (end_replies-fed _ got_seen)

-- ---- a log grows

kept_step : (terms : List Term) (log : Log) (h : Happening) → Lawful terms log → IsPermitted (state_after terms log) h → Kept terms log (state_after terms log) → Kept terms (log ++ h ∷ []) (after (state_after terms log) h)
unfolding got_over_inv got_step inv_step
kept_step terms log (Got n bytes) lawful permitted k =
    let rise = (own_numbers terms log lawful).conns_rise in
    record { inv = got_step terms log n bytes k rise; sounds = after-sound (state_after terms log) (Got n bytes) refl (λ counts. absurd (cc counts)) permitted k.sounds; fed = got_fed terms log n bytes k rise }
kept_step terms log (Asked n bytes) lawful permitted k = record {
  inv = inv_step terms log (Asked n bytes) lawful permitted k.inv;
  sounds = after-sound (state_after terms log) (Asked n bytes) refl (λ counts. absurd (cc counts)) permitted k.sounds;
  fed = said_now terms log (Asked n bytes) k k.inv.firsts _ (changed-fed {b = from_start} (now terms log (Asked n bytes) k) (state_after terms log) (Asked n bytes) refl refl (λ on. tt) permitted k.sounds (fed_now terms log (Asked n bytes) k));
}
kept_step terms log (Ended m) lawful permitted k = record {
  inv = inv_step terms log (Ended m) lawful permitted k.inv;
  sounds = after-sound (state_after terms log) (Ended m) refl (λ counts. absurd (cc counts)) permitted k.sounds;
  fed = said_now terms log (Ended m) k k.inv.firsts _ (changed-fed {b = from_start} (now terms log (Ended m) k) (state_after terms log) (Ended m) refl refl (λ on. ends_well terms log (Ended m) k m refl) permitted k.sounds (fed_now terms log (Ended m) k));
}
kept_step terms log h lawful permitted k = record {
  inv = inv_step terms log h lawful permitted k.inv;
  sounds = after-sound (state_after terms log) h refl (λ counts. absurd (cc counts)) permitted k.sounds;
  fed = said_now terms log h k k.inv.firsts _ (changed-fed {b = from_start} (now terms log h k) (state_after terms log) h refl refl (λ on. tt) permitted k.sounds (fed_now terms log h k));
}

kept_from : (terms : List Term) (front log : Log) → Lawful terms (front ++ log) → Kept terms front (state_after terms front) → Kept terms (front ++ log) (state_after terms (front ++ log))
kept_from terms front [] lawful k = subst (λ (l : Log). Kept terms l (state_after terms l)) (sym (append-nil front)) k
kept_from terms front (h ∷ log) lawful k =
    let joined : (front ++ h ∷ []) ++ log ≡ front ++ h ∷ log = append_assoc front (h ∷ []) log in
    let whole : Lawful terms ((front ++ h ∷ []) ++ log) = subst (λ (l : Log). Lawful terms l) (sym joined) lawful in
    let next : Kept terms (front ++ h ∷ []) (state_after terms (front ++ h ∷ [])) = subst (λ (s : State). Kept terms (front ++ h ∷ []) s) (sym (after_all-append (start terms) front (h ∷ []))) (kept_step terms front h (front_from (start terms) front (h ∷ log) lawful) (back_from (start terms) front (h ∷ log) lawful).0 k) in
    subst (λ (l : Log). Kept terms l (state_after terms l)) joined (kept_from terms (front ++ h ∷ []) log whole next)

kept_after : (terms : List Term) (log : Log) → Lawful terms log → Kept terms log (state_after terms log)
kept_after terms log lawful =
    kept_from terms [] log lawful (record {
      inv = record { firsts = nobody; lines = first terms nobody; came = first_came terms };
      sounds = start-sound from_start terms refl;
      fed = nobody-fed (start terms) refl refl refl;
    })

-- ---- where it is seen which replies are over

seen_fed : (terms : List Term) (log : Log) (h : Happening) → Lawful terms log → IsPermitted (state_after terms log) h → (k : Kept terms log (state_after terms log)) → (firsts : ℕ → Option ℕ) × Fed (tale_with terms (log ++ h ∷ []) (told_in (log ++ h ∷ [])) firsts) (seen (state_after terms log) h)
seen_fed terms log (Got n bytes) lawful permitted k = let rise = (own_numbers terms log lawful).conns_rise in ((heard_now terms log n bytes k rise).firsts, got_seen terms log n bytes k rise)
seen_fed terms log (Heard c bytes) lawful permitted k =
    (k.inv.firsts, silent_now terms log (Heard c bytes) k k.inv.firsts _ (λ m. refl) (on_client-fed c (heard_by bytes) (state_after terms log) (heard_same bytes) (fed_now terms log (Heard c bytes) k)))
seen_fed terms log (HungUp c) lawful permitted k = by (is_writing (state_after terms log).owed c)
  where
    by : (t : Bool) → (firsts : ℕ → Option ℕ) × Fed (tale_with terms (log ++ HungUp c ∷ []) (told_in (log ++ HungUp c ∷ [])) firsts) (elim t as (λ x. State) [ true ↦ after (state_after terms log) (HungUp c) | false ↦ on_client c (λ x. record x { has_hung_up = true }) (state_after terms log) ])
    by true = let w = kept_step terms log (HungUp c) lawful permitted k in (w.inv.firsts, w.fed)
    by false = (k.inv.firsts, silent_now terms log (HungUp c) k k.inv.firsts _ (λ m. refl) (on_client-fed c (λ x. record x { has_hung_up = true }) (state_after terms log) (λ x. parts_same _ x refl refl refl refl refl) (fed_now terms log (HungUp c) k)))
seen_fed terms log (Said c offered bytes) lawful permitted k = by (client (state_after terms log) c) refl
  where
    by : (o : Option Client) → client (state_after terms log) c ≡ o → (firsts : ℕ → Option ℕ) × Fed (tale_with terms (log ++ Said c offered bytes ∷ []) (told_in (log ++ Said c offered bytes ∷ [])) firsts)
        (elim o as (λ x. State) [ None ↦ after (state_after terms log) (Said c offered bytes) | Some x ↦ on_client c (said_by (length bytes)) (use_said (length bytes) x (state_after terms log)) ])
    by None none = let w = kept_step terms log (Said c offered bytes) lawful permitted k in (w.inv.firsts, w.fed)
    by (Some x) found = (k.inv.firsts, said_now terms log (Said c offered bytes) k k.inv.firsts _ (said_seen-fed (now terms log (Said c offered bytes) k) c offered bytes (state_after terms log) x found permitted (fed_now terms log (Said c offered bytes) k)))
seen_fed terms log (Ended m) lawful permitted k = by (conn (state_after terms log) m) refl
  where
    by : (o : Option Conn) → conn (state_after terms log) m ≡ o → (firsts : ℕ → Option ℕ) × Fed (tale_with terms (log ++ Ended m ∷ []) (told_in (log ++ Ended m ∷ [])) firsts) (elim o as (λ x. State) [ None ↦ after (state_after terms log) (Ended m) | Some j ↦ ended true j (state_after terms log) ])
    by None none = let w = kept_step terms log (Ended m) lawful permitted k in (w.inv.firsts, w.fed)
    by (Some j) found =
        (k.inv.firsts, silent_now terms log (Ended m) k k.inv.firsts _ (λ x. refl) (ended-fed true j (state_after terms log) refl (in_find (is_conn m) j (state_after terms log).conns found).0 (λ clean on. ends_well terms log (Ended m) k m refl j found) (own_numbers terms log lawful).conns_rise (fed_now terms log (Ended m) k)))
seen_fed terms log (Broke m) lawful permitted k = by (conn (event (state_after terms log)) m) refl
  where
    by : (o : Option Conn) → conn (event (state_after terms log)) m ≡ o → (firsts : ℕ → Option ℕ) × Fed (tale_with terms (log ++ Broke m ∷ []) (told_in (log ++ Broke m ∷ [])) firsts) (elim o as (λ x. State) [ None ↦ after (state_after terms log) (Broke m) | Some j ↦ ended false j (event (state_after terms log)) ])
    by None none = let w = kept_step terms log (Broke m) lawful permitted k in (w.inv.firsts, w.fed)
    by (Some j) found = (
      k.inv.firsts,
      silent_now terms log (Broke m) k k.inv.firsts _ (λ x. refl)
          (ended-fed false j (event (state_after terms log)) refl (in_find (is_conn m) j (event (state_after terms log)).conns found).0 (λ clean. absurd (cc clean)) (subst (λ ks. AreRising (map conn_number ks)) (sym (event_conns (state_after terms log))) (own_numbers terms log lawful).conns_rise) (event-fed (state_after terms log) (fed_now terms log (Broke m) k))),
    )
seen_fed terms log h lawful permitted k = let w = kept_step terms log h lawful permitted k in (w.inv.firsts, w.fed)

-- ---- the laws

so_far : (terms : List Term) (log : Log) (firsts : ℕ → Option ℕ) (s : State) → Fed (tale_with terms log (told_in log) firsts) s → (c : Client) (p : Passed) → IsIn c s.clients → is_in_passed c.stage ≡ true → passed_of c ≡ Some p → IsOneSoFar terms log (said_to c.number log) c p
so_far terms log firsts s f c p there on has =
    let k : Keeps (tale_with terms log (told_in log) firsts) c p = (fed_facts f).kept refl c p there (not_other c.stage on) has in
    record { content = k.content; arrived = k.came; pieces = k.relays.pieces; all = k.relays.all; full = k.relays.full; shown = k.relays.shown on }

pub passed_is_one_so_far : PassedIsOneSoFar
passed_is_one_so_far terms log lawful c p there on has = let k = kept_after terms log lawful in so_far terms log k.inv.firsts (state_after terms log) k.fed c p there on has

-- a reply that is over, and passed
record IsOver (c : Client) (p : Passed) : Type 0 where
  nothing : to_say c ≡ []
  ended_so : p.pipe.is_finished ≡ true
  empty : p.pipe.bytes ≡ []

no_bytes : (xs : Bytes) → is_empty xs ≡ true → xs ≡ []
no_bytes [] is = refl
no_bytes (x ∷ xs) is = absurd (cc is)

three : (a b d : Bool) → (a && b && d) ≡ true → (a ≡ true) × (b ≡ true) × (d ≡ true)
three true true true is = (refl, refl, refl)
three true true false is = absurd (cc is)
three true false d is = absurd (cc is)
three false b d is = absurd (cc is)

-- its pipe is finished, and nothing stands there
in_pipe_over : (t : Bool) (o : Option Passed) (p : Passed) → t ≡ true → o ≡ Some p → (not t || is_some_with (λ q. q.pipe.is_finished && is_empty q.pipe.bytes) o) ≡ true → (p.pipe.is_finished ≡ true) × (p.pipe.bytes ≡ [])
in_pipe_over false o p so same both = absurd (cc so)
in_pipe_over true None p so same both = absurd (cc same)
in_pipe_over true (Some q) p so same both =
    let eq : q ≡ p = cc in
    let w : (q.pipe.is_finished && is_empty q.pipe.bytes) ≡ true = both in
    (ap (λ (x : Passed). x.pipe.is_finished) (sym eq) ∙ first_holds q.pipe.is_finished (is_empty q.pipe.bytes) w, ap (λ (x : Passed). x.pipe.bytes) (sym eq) ∙ no_bytes q.pipe.bytes (second_holds q.pipe.is_finished (is_empty q.pipe.bytes) w))

is_over : (c : Client) (p : Passed) → is_in_passed c.stage ≡ true → passed_of c ≡ Some p → is_said c ≡ true → IsOver c p
is_over c p on has is = by c.stage refl on (second_holds (is_empty c.interim_left) (is_some_with (λ r. r.has_begun && is_empty r.head_left && has_no_more c r) (reply_of c)) is)
  where
    interim : c.interim_left ≡ []
    interim = no_bytes c.interim_left (first_holds (is_empty c.interim_left) (is_some_with (λ r. r.has_begun && is_empty r.head_left && has_no_more c r) (reply_of c)) is)

    of_reply : (r : Reply) → c.stage ≡ Answering r → (r.has_begun && is_passing r.decision) ≡ true → (r.has_begun && is_empty r.head_left && has_no_more c r) ≡ true → IsOver c p
    of_reply r stage begun over =
        let w = three r.has_begun (is_empty r.head_left) (has_no_more c r) over in
        let pipe = in_pipe_over (is_passing r.decision) (passed_of c) p (second_holds r.has_begun (is_passing r.decision) begun) has (second_holds (r.at == r.to) (not (is_passing r.decision) || is_some_with (λ q. q.pipe.is_finished && is_empty q.pipe.bytes) (passed_of c)) w.2) in
        record { nothing = ap (λ (xs : Bytes). xs ++ head_left c.stage) interim ∙ ap head_left stage ∙ no_bytes r.head_left w.1; ended_so = pipe.0; empty = pipe.1 }

    by : (stage : Stage) → c.stage ≡ stage → is_in_passed stage ≡ true → is_some_with (λ r. r.has_begun && is_empty r.head_left && has_no_more c r) (elim stage as (λ x. Option Reply) [ Undecided ↦ None | Waiting ↦ None | Passing ↦ None | Answering r ↦ Some r ]) ≡ true → IsOver c p
    by Undecided stage begun over = absurd (cc begun)
    by Waiting stage begun over = absurd (cc begun)
    by Passing stage begun over = absurd (cc begun)
    by (Answering r) stage begun over = of_reply r stage begun over

whole_of : (terms : List Term) (log : Log) (told : Bytes) (c : Client) (p : Passed) → IsOver c p → IsOneSoFar terms log told c p → IsOneWhole terms log told c p
whole_of terms log told c p over w = record {
  content = w.content;
  arrived = subst (HasArrived terms log c.number c.index p.head p.rule w.content) over.ended_so w.arrived;
  pieces = w.pieces;
  all = w.all;
  full = w.full;
  earlier = w.shown.earlier;
  head = w.shown.head;
  minor = w.shown.minor;
  is_head = w.shown.is_head;
  name = w.shown.name;
  keeps = w.shown.keeps;
  spelled = w.shown.spelled;
  stream =
      sym (append-nil told) ∙ ap (λ (xs : Bytes). told ++ xs) (sym (ap (λ (xs : Bytes). xs ++ p.pipe.bytes) over.nothing ∙ over.empty)) ∙ w.shown.stream
      ∙ ap (λ (t : Bool). w.shown.earlier ++ (w.shown.head ++ (all_spelled p.pipe.is_coded w.pieces ++ (elim t as (λ x. Bytes) [ true ↦ spelled_end p.pipe.is_coded | false ↦ [] ])))) over.ended_so;
}

pub passed_is_one_whole : PassedIsOneWhole
passed_is_one_whole terms log h lawful c p there on has over =
    let before = front_from (start terms) log (h ∷ []) lawful in
    let f = seen_fed terms log h before (back_from (start terms) log (h ∷ []) lawful).0 (kept_after terms log before) in
    whole_of terms (log ++ h ∷ []) (said_to c.number (log ++ h ∷ [])) c p (is_over c p on has over) (so_far terms (log ++ h ∷ []) f.0 (seen (state_after terms log) h) f.1 c p there on has)

pub seen_is_just_before : SeenIsJustBefore
unfolding changed say gone hear hang_up
seen_is_just_before s (Heard c bytes) = inr refl
seen_is_just_before s (HungUp c) = by (is_writing s.owed c)
  where
    hung : Bool → State
    hung t = elim t as (λ x. State) [ true ↦ close_client c false s | false ↦ end_replies (on_client c (λ x. record x { has_hung_up = true }) s) ]

    by : (t : Bool) → let u : State = elim t as (λ x. State) [ true ↦ paid (hung t) | false ↦ on_client c (λ x. record x { has_hung_up = true }) s ] in (paid (hung t) ≡ u) ⊎ (paid (hung t) ≡ paid (end_replies u))
    by true = inl refl
    by false = inr refl
seen_is_just_before s (Said c offered bytes) = by (client s c)
  where
    by : (o : Option Client) → let t : State = paid (elim o as (λ x. State) [ None ↦ s | Some x ↦ end_replies (on_client c (said_by (length bytes)) (use_said (length bytes) x s)) ]) in
        let u : State = elim o as (λ x. State) [ None ↦ t | Some x ↦ on_client c (said_by (length bytes)) (use_said (length bytes) x s) ] in (t ≡ u) ⊎ (t ≡ paid (end_replies u))
    by None = inl refl
    by (Some x) = inr refl
seen_is_just_before s (Ended k) = by (conn s k)
  where
    by : (o : Option Conn) → let t : State = paid (elim o as (λ x. State) [ None ↦ s | Some j ↦ end_replies (ended true j s) ]) in
        let u : State = elim o as (λ x. State) [ None ↦ t | Some j ↦ ended true j s ] in (t ≡ u) ⊎ (t ≡ paid (end_replies u))
    by None = inl refl
    by (Some j) = inr refl
seen_is_just_before s (Broke k) = by (conn (event s) k)
  where
    by : (o : Option Conn) → let t : State = paid (elim o as (λ x. State) [ None ↦ event s | Some j ↦ end_replies (ended false j (event s)) ]) in
        let u : State = elim o as (λ x. State) [ None ↦ t | Some j ↦ ended false j (event s) ] in (t ≡ u) ⊎ (t ≡ paid (end_replies u))
    by None = inl refl
    by (Some j) = inr refl
seen_is_just_before s (Got k bytes) = inr refl
seen_is_just_before s h = inl refl
