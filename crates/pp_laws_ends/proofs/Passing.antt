-- Where a turn may end, whose pipe has no room and whose request may be answered by what is passed is in the midst of that reply.
use Rattle.std.proofs.Common.{◌≡◌, ◌⊎◌, refl, Bool, true, false, not, ◌&&◌, Option, Some, None, inl, inr, sym, subst, ap, ◌∙◌}
use Rattle.pp_world.specs.declared.note.Decision.{Decision}
use Rattle.pp_world.specs.declared.note.Decision.TheVariants.{Pass}
use Rattle.pp_reply.specs.Keeping.{is_end_known}
use Rattle.pp_law.specs.Connections.{is_client}
use Rattle.pp_law.specs.Decisions.{decide}
use Rattle.pp_law.specs.Due.{due_by_stage, due_reply, give_up, is_told}
use Rattle.pp_law.specs.Phases.{come_to, ending}
use Rattle.pp_law.specs.Replies.{begun_at_end, begun_by, begun_decided, begun_instance, begun_passed, passed_reply}
use Rattle.pp_law.specs.Requests.{Parsed, NoHeadYet, NoHead, IsRequest, has_request, keeps_open}
use Rattle.pp_law.specs.Served.{has_full_pipe}
use Rattle.pp_law.specs.Sharing.{due_undecided}
use Rattle.pp_law.specs.Stages.{is_begun, is_passing, passed_of}
use Rattle.pp_law.specs.State.{State, Awaited, Useless, Joins, Passes, TooWide, Brought, Course, Trying, OutOfTries, AskTooLong, RowRefused, DecidingAgain, Client, Exchange, Passed, Reply, Stage, Undecided, Waiting, Passing, Answering}
use Rattle.pp_laws.specs.Runs.{IsIn}
use Rattle.pp_laws.proofs.Lists.{From, in_find, one_of}
use Rattle.pp_laws.proofs.Sound.{client_number, facts_of}
use Rattle.pp_laws.proofs.Steps.{ending-sound}
use Rattle.pp_laws.proofs.Tests.{same_number}
use Rattle.pp_laws_turn.proofs.Happenings.{ending-turn}
use Rattle.pp_laws_turn.proofs.Laws.{has_asker}
use Rattle.pp_laws_turn.proofs.Lifts.{turn_on}
use Rattle.pp_laws_turn.proofs.View.{facts_of as turn_facts}
use Rattle.pp_obeys.proofs.Obeying.{obeys_good}
use Rattle.pp_laws_ends.specs.Ends.{PassedConnectionsAreServed, is_amid_passed, may_pass}
use Rattle.pp_laws_ends.proofs.Ahead.{begun_clients, begun_or}
use Rattle.pp_laws_ends.proofs.Served.{Full, asks_it, conns_served, full_of}
use Rattle.pp_laws_ends.proofs.Undecided.{Ends, decides_some, ends_at, none_by_stage}

-- it is at a request, and a response is passed to it
record IsPassedTo (c : Client) : Type 0 where
  request : Parsed
  front : c.front ≡ IsRequest request
  passed : Passed
  is : passed_of c ≡ Some passed

-- ---- where its exchange was told, what is decided by it is due

told_by : (c : Client) (p : Passed) → passed_of c ≡ Some p → is_told c.brought ≡ true
told_by c p is = by c.brought is
  where
    by : (b : Brought) → (elim b as (λ x. Option Passed) [ Awaited ↦ None | Useless ↦ None | Joins id plain ↦ None | Passes q ↦ Some q | TooWide ↦ None ]) ≡ Some p → is_told b ≡ true
    by Awaited at = absurd (cc at)
    by Useless at = absurd (cc at)
    by (Joins id plain) at = absurd (cc at)
    by (Passes q) at = refl
    by TooWide at = absurd (cc at)

given_up : (course : Course) (o : Option Decision) → give_up course o ≡ None → o ≡ None
given_up (Trying n) o is = is
given_up OutOfTries o is = absurd (cc is)
given_up AskTooLong o is = absurd (cc is)
given_up RowRefused o is = absurd (cc is)

waits_not : (t : State) (c : Client) → c.stage ≡ Waiting → IsPassedTo c → due_by_stage t c ≡ None → ⊥
waits_not t c stage p none =
    decides_some t c (ap has_request p.front)
    (sym (ap (λ b. elim b as (λ x. Option Decision) [ true ↦ decide t c | false ↦ None ]) (told_by c p.passed p.is))
    ∙ given_up c.course (elim (is_told c.brought) as (λ x. Option Decision) [ true ↦ decide t c | false ↦ None ])
    (sym (ap (λ (g : Stage). elim g as (λ x. Option Decision) [
      | Undecided ↦ due_undecided t c
      | Waiting ↦ give_up c.course (elim (is_told c.brought) as (λ y. Option Decision) [ true ↦ decide t c | false ↦ None ])
      | Passing ↦ give_up c.course None
      | Answering r ↦ due_reply t c r
    ]) stage) ∙ none))

-- ---- where its reply may begin, it begins

passed_begins : (t : State) (c : Client) (q : Parsed) (d : Decision) (p : Passed) → passed_of c ≡ Some p → is_begun (begun_passed t q d c) ≡ true
passed_begins t c q d p is = by (passed_of c) is
  where
    by : (o : Option Passed) → o ≡ Some p → is_begun (elim o as (λ x. Client) [ None ↦ c | Some r ↦ record c { stage = Answering (passed_reply t q r d); closes = not (keeps_open q && is_end_known r.rule q.head.minor) } ]) ≡ true
    by None at = absurd (cc at)
    by (Some r) at = refl

begins_at : (t : State) (c : Client) (p : IsPassedTo c) → c.is_closing ≡ false → is_begun (begun_by t p.request c) ≡ true → is_begun (begun_at_end t c) ≡ true
begins_at t c p going begun =
    ap (λ b. is_begun (elim b as (λ y. Client) [ true ↦ c | false ↦ elim c.front as (λ y. Client) [ NoHeadYet ↦ c | NoHead status ↦ c | IsRequest r ↦ begun_by t r c ] ])) going
    ∙ ap (λ f. is_begun (elim f as (λ y. Client) [ NoHeadYet ↦ c | NoHead status ↦ c | IsRequest r ↦ begun_by t r c ])) p.front ∙ begun

by_stage : (t : State) (c : Client) (q : Parsed) (stage : Stage) → c.stage ≡ stage → is_begun (elim stage as (λ y. Client) [
  | Undecided ↦ c
  | Waiting ↦ c
  | Passing ↦ begun_passed t q Pass c
  | Answering r ↦ elim r.has_begun as (λ y. Client) [ true ↦ c | false ↦ begun_decided t q r c ]
]) ≡ true → is_begun (begun_by t q c) ≡ true
by_stage t c q stage is begun = ap (λ g. is_begun (elim g as (λ y. Client) [
  | Undecided ↦ c
  | Waiting ↦ c
  | Passing ↦ begun_passed t q Pass c
  | Answering r ↦ elim r.has_begun as (λ y. Client) [ true ↦ c | false ↦ begun_decided t q r c ]
])) is ∙ begun

-- ---- so it is in the midst of it

module _ (t : State) (h : Ends t) (c : Client) (p : IsPassedTo c) (w : From (begun_at_end t) t.clients c) where
  -- one that has not begun was as it is
  was_so : is_begun c ≡ false → IsIn c t.clients × (is_begun (begun_at_end t c) ≡ false)
  was_so fresh = by (begun_or t w.was)
    where
      by : (begun_at_end t w.was ≡ w.was) ⊎ (is_begun (begun_at_end t w.was) ≡ true) → IsIn c t.clients × (is_begun (begun_at_end t c) ≡ false)
      by (inl stays) =
          let it : c ≡ w.was = w.is ∙ stays in
          (subst (λ (d : Client). IsIn d t.clients) (sym it) w.there, ap (λ (d : Client). is_begun (begun_at_end t d)) it ∙ ap is_begun (sym w.is) ∙ fresh)
      by (inr begun) = let both : true ≡ false = sym (ap is_begun w.is ∙ begun) ∙ fresh in absurd (cc both)

  begun_not : is_begun c ≡ false → is_begun (begun_by t p.request c) ≡ true → ⊥
  begun_not fresh begun =
      let v = was_so fresh in
      let both : true ≡ false = sym (begins_at t c p (h.going c v.0) begun) ∙ v.1 in cc both

  not_begun : (stage : Stage) → c.stage ≡ stage → is_begun (record c { stage = stage }) ≡ false → is_begun c ≡ false
  not_begun stage is fresh = ap (λ g. is_begun (record c { stage = g })) is ∙ fresh

  amid_so : may_pass c.stage ≡ true → is_amid_passed c ≡ true
  amid_so may = by c.stage refl may
    where
      answering : (r : Reply) → c.stage ≡ Answering r → is_passing r.decision ≡ true → (b : Bool) → r.has_begun ≡ b → is_amid_passed (record c { stage = Answering r }) ≡ true
      answering r is passes true begun = ap (λ x. x && is_passing r.decision) begun ∙ passes
      answering r is passes false fresh =
          absurd (begun_not (not_begun (Answering r) is fresh)
          (by_stage t c p.request (Answering r) is
          (ap (λ b. is_begun (elim b as (λ y. Client) [ true ↦ c | false ↦ begun_decided t p.request r c ])) fresh
          ∙ ap (λ b. is_begun (elim b as (λ y. Client) [ true ↦ begun_passed t p.request r.decision c | false ↦ begun_instance t p.request r c ])) passes
          ∙ passed_begins t c p.request r.decision p.passed p.is)))

      by : (stage : Stage) → c.stage ≡ stage → may_pass stage ≡ true → is_amid_passed (record c { stage = stage }) ≡ true
      by Undecided is at = absurd (cc at)
      by Waiting is at = let v = was_so (not_begun Waiting is refl) in absurd (waits_not t c is p (none_by_stage t c h.runs (h.going c v.0) (h.none c v.0)))
      by Passing is at = absurd (begun_not (not_begun Passing is refl) (by_stage t c p.request Passing is (passed_begins t c p.request Pass p.passed p.is)))
      by (Answering r) is at = answering r is at r.has_begun refl

amid_ends : (s : State) → Ends (come_to DecidingAgain s) → (c : Client) → IsIn c (ending s).clients → IsPassedTo c → may_pass c.stage ≡ true → is_amid_passed c ≡ true
unfolding ending
amid_ends s h c i p may = amid_so (come_to DecidingAgain s) h c p (begun_clients (come_to DecidingAgain s) c i) may

pub passed_served : PassedConnectionsAreServed
passed_served terms s log obeys isnt may runs passes k i = conns_served terms s log obeys amid k i
  where
    to_it : (e : Exchange) (c : Client) → IsIn e (ending s).exchanges → IsIn c (ending s).clients → Full e c → IsPassedTo c
    to_it e c i j f =
        let rise = (facts_of (ending-sound s (obeys_good obeys).sound)).callers.rise in
        let a = has_asker (ending s) rise (turn_facts (ending-turn s (turn_on terms s log obeys))) e c.number i (asks_it e c f.its) in
        let there = in_find (is_client c.number) a.asker (ending s).clients a.there in
        let it : c ≡ a.asker = one_of client_number (ending s).clients c a.asker rise j there.0 (sym (same_number a.asker.number c.number there.1)) in
        record { request = a.request; front = ap (λ (d : Client). d.front) it ∙ a.front; passed = f.passed; is = f.is }

    amid : (e : Exchange) (c : Client) → IsIn e (ending s).exchanges → IsIn c (ending s).clients → has_full_pipe e c ≡ true → is_amid_passed c ≡ true
    amid e c i j full = let f = full_of e c full in amid_ends s (ends_at terms s log obeys isnt may runs) c j (to_it e c i j f) (passes e c i j full)
