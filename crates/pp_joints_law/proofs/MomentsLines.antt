-- From one moment of a read to the next: where a response ends one less waits in the line, and behind a head whose body goes on its answer is there.
use Rattle.std.proofs.Common.{true, ◌≡◌, ◌≤◌, ◌⊎◌, ◌+◌, inl, inr, refl, sym, subst, ap, ◌∙◌, ℕ, ◌-◌, length, find, List, [], ◌∷◌, ◌++◌, Option, Some, None, le_refl, arith}
use Rattle.std.specs.Prelude.{is_some}
use Rattle.pp_endings_law.proofs.GoneShort.{found_set, set_conns}
use Rattle.pp_framing.specs.Body.{Outcome, Done, Going, Bad as NoBody}
use Rattle.pp_framing.specs.Rules.{body_of}
use Rattle.pp_framing.specs.declared.body.BodyRule.{BodyRule}
use Rattle.pp_head.specs.Response.{Response}
use Rattle.pp_law.specs.Connections.{conn, front_of_line, is_conn, is_exchange, on_conn}
use Rattle.pp_law.specs.Lists.{Bytes}
use Rattle.pp_law.specs.Responses.{answer_with, answered_by, bad_head, bad_response, bring_row, deliver, end_if_empty, finish, payload_of, with_unread}
use Rattle.pp_law.specs.Stages.{filled_of}
use Rattle.pp_law.specs.State.{State, Answer, Client, Conn, Exchange}
use Rattle.pp_laws.proofs.Lists.{in_find}
use Rattle.pp_laws.proofs.Tests.{same_number}
use Rattle.pp_laws.specs.Runs.{IsIn}
use Rattle.pp_laws_pool.proofs.PoolGot.{deliver-conns}
use Rattle.pp_laws_pool.proofs.View.{facts_of}
use Rattle.pp_laws_pool.proofs.WalkHeads.{bring_row-keeps, by_aim-keeps}
use Rattle.pp_reads_law.proofs.BehindFilling.{heads_note}
use Rattle.pp_reads_law.proofs.Brings.{IsBeside, beside_brought}
use Rattle.pp_reads_law.proofs.Fronts.{IsFront, is_front}
use Rattle.pp_reads_law.specs.Empties.{HasNotedBody, NoneIsPassed}
use Rattle.pp_reads_law.specs.Heads.{begun_by}
use Rattle.pp_reads_law.specs.Interims.{IsClearedTo}
use Rattle.pp_states_law.specs.Readings.{with_raw}
use Rattle.pp_joints_law.proofs.LinesShrink.{HasLine, bad_closes, bad_head_closes, finish_line, line_walk, same_line, set_line, was_set}

-- its head came
abbrev pub IsAnswered : ℕ → State → Type 0
IsAnswered n s = (k : Conn) → conn s n ≡ Some k → k.answer ≡ None → ⊥

-- one less may come; or as many, and the head of the first came
pub record LineLeft (n most : ℕ) (t : State) : Type 0 where
  pub left : ℕ
  pub line : HasLine n left t
  pub is : (left + 1 ≤ most) ⊎ ((left ≡ most) × IsAnswered n t)

none_some : {A : Type 0} (a : A) → Some a ≡ None → ⊥
none_some a is = cc is

number_of : (s : State) (n : ℕ) (k : Conn) → conn s n ≡ Some k → k.number ≡ n
number_of s n k there = same_number k.number n (in_find (is_conn n) k s.conns there).1

one_less : (m : ℕ) → 1 ≤ m → m - 1 + 1 ≤ m
one_less m some = omega (arith, some)

first_one : (m : ℕ) → 1 ≤ m → 0 + 1 ≤ m
first_one m some = omega (arith, some)

by_left : (n most : ℕ) (s t : State) → t ≡ s → LineLeft n most s → LineLeft n most t
by_left n most s t is one = subst (λ (u : State). LineLeft n most u) (sym is) one

-- some wait where one is the first
pub some_wait : (n most : ℕ) (s : State) (k : Conn) (m : ℕ) (others : List ℕ) → conn s n ≡ Some k → k.line ≡ m ∷ others → HasLine n most s → 1 ≤ most
some_wait n most s k m others there line h = let all : length (m ∷ others) ≤ most = subst (λ (ns : List ℕ). length ns ≤ most) line (facts_of h k there) in omega (arith, all)

-- ---- what precedes a head is dropped

pub cleared_line : (n most : ℕ) (s t : State) (k before : Conn) → IsClearedTo s n k before t → HasLine n most s → HasLine n most t
cleared_line n most s t k before (inl is) h = subst (λ (u : State). HasLine n most u) (sym is.1) h
cleared_line n most s t k before (inr is) h = subst (λ (u : State). HasLine n most u) (sym is.1) (set_line n most n (with_unread []) s (λ j. refl) (λ j. le_refl (length j.line)) h)

-- the connection was there, with that answer
pub cleared_was : (n : ℕ) (s t : State) (k before : Conn) → IsClearedTo s n k before t → conn t n ≡ Some before → (was : Conn) × (conn s n ≡ Some was) × (was.answer ≡ k.answer)
cleared_was n s t k before (inl is) there = (before, ap (λ (u : State). conn u n) (sym is.1) ∙ there, ap (λ (j : Conn). j.answer) is.0)
cleared_was n s t k before (inr is) there =
    let w = was_set n (with_unread []) s before (λ j. refl) (ap (λ (u : State). conn u n) (sym is.1) ∙ there) in
    (w.0, w.1, ap (λ (j : Conn). j.answer) (sym w.2) ∙ ap (λ (j : Conn). j.answer) is.0)

-- ---- behind a head

module _ (n most : ℕ) (k : Conn) (e : Exchange) (head : Response) (rule : BodyRule) (s : State) (there : conn s n ≡ Some k) (front : front_of_line s k ≡ Some e) (h : HasLine n most s) where
  first : IsFront s k e
  first = is_front s k e front

  some : 1 ≤ most
  some = some_wait n most s k e.number first.others there first.line h

  refused : LineLeft n most (bad_head k (bring_row e head s))
  refused = record { left = 0; line = subst (λ (m : ℕ). HasLine m 0 (bad_head k (bring_row e head s))) (number_of s n k there) (bad_head_closes k (bring_row e head s)); is = inl (first_one most some) }

  module _ (passed : is_some (filled_of e) ≡ true → NoneIsPassed e s) where
    abbrev a : Answer
    a = answer_with e head rule

    abbrev brought : State
    brought = bring_row e head s

    abbrev set : State
    set = on_conn k.number (answered_by a) brought

    abbrev begun : State
    begun = begun_by k e head rule s

    beside : IsBeside s brought
    beside = beside_brought e head s

    headed : HasNotedBody e set begun
    headed = heads_note set e head rule (λ filling c among asks. passed filling c (subst (λ (cs : List Client). IsIn c cs) ((set_conns k.number (answered_by a) brought).2 ∙ beside.clients) among) asks) (ap (λ (es : List Exchange). find (is_exchange e.number) es) ((set_conns k.number (answered_by a) brought).1 ∙ beside.exchanges) ∙ first.known)

    there_set : conn set n ≡ Some (answered_by a k)
    there_set =
        subst (λ (m : ℕ). conn (on_conn m (answered_by a) brought) n ≡ Some (answered_by a k)) (sym (number_of s n k there))
        (found_set n (answered_by a) brought k (λ j. refl) (ap (λ (ks : List Conn). find (is_conn n) ks) beside.conns ∙ there))

    there_begun : conn begun n ≡ Some (answered_by a k)
    there_begun = ap (λ (ks : List Conn). find (is_conn n) ks) headed.conns ∙ there_set

    line_begun : HasLine n most begun
    line_begun = by_aim-keeps (line_walk n most) e head rule set (set_line n most k.number (answered_by a) brought (λ j. refl) (λ j. le_refl (length j.line)) (bring_row-keeps (line_walk n most) e head s h))

    goes_on : LineLeft n most begun
    goes_on = record {
      left = most;
      line = line_begun;
      is = inr (refl, λ j found none. none_some a (ap (λ (c : Option Conn). elim c as (λ o. Option Answer) [ None ↦ None | Some i ↦ i.answer ]) (sym there_begun ∙ found) ∙ none));
    }

    taken : LineLeft n most (end_if_empty k e a begun)
    unfolding end_if_empty
    taken = by (body_of rule []).outcome
      where
        by : (o : Outcome) → LineLeft n most (elim o as (λ t. State) [ Done rest ↦ finish k e a begun | Going ↦ begun | NoBody ↦ begun ])
        by (Done rest) = record { left = most - 1; line = finish_line n most first.others k (answered_by a k) e a begun there_begun first.line line_begun; is = inl (one_less most some) }
        by Going = goes_on
        by NoBody = goes_on

pub behind_refused : (n most : ℕ) (k : Conn) (e : Exchange) (head : Response) (rule : BodyRule) (s t : State) → conn s n ≡ Some k → front_of_line s k ≡ Some e → HasLine n most s → t ≡ bad_head k (bring_row e head s) → LineLeft n most t
behind_refused n most k e head rule s t there front h is = by_left n most (bad_head k (bring_row e head s)) t is (refused n most k e head rule s there front h)

pub behind_taken : (n most : ℕ) (k : Conn) (e : Exchange) (head : Response) (rule : BodyRule) (s t : State) → conn s n ≡ Some k → front_of_line s k ≡ Some e → HasLine n most s → (is_some (filled_of e) ≡ true → NoneIsPassed e s) → t ≡ end_if_empty k e (answer_with e head rule) (begun_by k e head rule s) → LineLeft n most t
behind_taken n most k e head rule s t there front h passed is = by_left n most (end_if_empty k e (answer_with e head rule) (begun_by k e head rule s)) t is (taken n most k e head rule s there front h passed)

-- ---- behind a piece of a body

module _ (n most : ℕ) (k : Conn) (e : Exchange) (a : Answer) (came : Bytes) (s : State) (there : conn s n ≡ Some k) (front : front_of_line s k ≡ Some e) (h : HasLine n most s) where
  abbrev then : State
  then = deliver e a (length (payload_of a)) came s

  waits : IsFront s k e
  waits = is_front s k e front

  some_do : 1 ≤ most
  some_do = some_wait n most s k e.number waits.others there waits.line h

  line_then : HasLine n most then
  line_then = same_line n most s then (deliver-conns e a (length (payload_of a)) came s) h

  there_then : conn then n ≡ Some k
  there_then = ap (λ (ks : List Conn). find (is_conn n) ks) (deliver-conns e a (length (payload_of a)) came s) ∙ there

  pub behind_more : (bytes : Bytes) (t : State) → t ≡ on_conn k.number (with_raw a bytes) then → LineLeft n most t
  behind_more bytes t is = by_left n most (on_conn k.number (with_raw a bytes) then) t is (record {
    left = most;
    line = set_line n most k.number (with_raw a bytes) then (λ j. refl) (λ j. le_refl (length j.line)) line_then;
    is = inr (
      refl,
      λ j found none.
          let w = was_set n (with_raw a bytes) then j (λ i. refl) (subst (λ (m : ℕ). conn (on_conn m (with_raw a bytes) then) n ≡ Some j) (number_of s n k there) found) in
          none_some (record a { raw = a.raw ++ bytes }) (ap (λ (i : Conn). i.answer) (sym w.2) ∙ none),
    );
  })

  pub behind_whole : (t : State) → t ≡ finish k e a then → LineLeft n most t
  behind_whole t is = by_left n most (finish k e a then) t is (record { left = most - 1; line = finish_line n most waits.others k k e a then there_then waits.line line_then; is = inl (one_less most some_do) })

  pub behind_bad : (t : State) → t ≡ bad_response k then → LineLeft n most t
  behind_bad t is = by_left n most (bad_response k then) t is (record { left = 0; line = subst (λ (m : ℕ). HasLine m 0 (bad_response k then)) (number_of s n k there) (bad_closes k then); is = inl (first_one most some_do) })
