-- What is decided, said, begun and ended keeps it.
use Rattle.std.proofs.Common.{◌≡◌, refl, ℕ, suc, ◌+◌, ◌-◌, ◌<◌, ◌≤◌, nat_le, Bool, true, false, not, ◌==◌, ◌&&◌, ◌||◌, List, [], ◌∷◌, ◌++◌, map, drop, take, length, Option, Some, None, Result, Ok, Err, inl, inr, sym, subst, ap, ◌∙◌, append_assoc, arith, length-drop}
use Rattle.std.specs.List.{list_any}
use Rattle.std.proofs.lemmas.Bool.Decides.{nat_tests}
use Rattle.std.proofs.lemmas.List.{take-append-drop}
use Rattle.pp_ask.specs.declared.kind.AskKind.{AskKind}
use Rattle.pp_head.specs.Request.{Request}
use Rattle.pp_pass.specs.Pipe.{without_first}
use Rattle.pp_reply.specs.Keeping.{is_end_known}
use Rattle.pp_reply.specs.Texts.{passed_head}
use Rattle.pp_law.specs.Offers.{body_part, offer, passed_part, piece, reply_part}
use Rattle.pp_plan.specs.Requests.{is_head}
use Rattle.pp_target.specs.Key.{Key, text_of}
use Rattle.pp_target.specs.declared.target.TargetFault.{TargetFault}
use Rattle.pp_text.specs.Bytes.{is_empty}
use Rattle.pp_world.specs.declared.note.Decision.{Decision}
use Rattle.pp_world.specs.declared.note.Decision.TheVariants.{Refuse, Hit, Part, Head, NotModified, Unsatisfiable, Relay, Validate, Fetch, Pass}
use Rattle.pp_law.specs.Closing.{is_of, forsake, leave, left_alone}
use Rattle.pp_law.specs.Connections.{is_client, is_for, on_client}
use Rattle.pp_law.specs.Deciding.{refused_with, refuse, new_exchange, stage_for, asking_with, ask_for, ask_as, ask_origin, reply_by, answering_with, follow_with, follow_row, follow, relay, decided_by, decided, enter_row}
use Rattle.pp_law.specs.Decisions.{kind_of}
use Rattle.pp_law.specs.Hearing.{fronted, heard_by, what_counts}
use Rattle.pp_law.specs.Lists.{Bytes, change, is_some_with, is_this}
use Rattle.pp_law.specs.Replies.{passed_reply, begun_passed, may_begin, begun_reply, begun_instance, begun_decided, begun_by, begun_at_end, begins, is_outrun, begin_replies, said_by, said_of, said_of_body, is_said, next_request, end_reply, end_said, close_finished, end_replies}
use Rattle.pp_law.specs.Requests.{Front, Parsed, NoHeadYet, NoHead as NoFront, IsRequest, keeps_open, key_in}
use Rattle.pp_law.specs.Responses.{payload_of}
use Rattle.pp_law.specs.Stages.{is_begun, is_headed, is_passing, on_passed, passed_of, reply_of}
use Rattle.pp_law.specs.State.{State, Client, Stage, Undecided, Waiting, Passing, Answering, Reply, Conn, Exchange, Instance, Passed, Passes}
use Rattle.pp_law.specs.Table.{next_of, row, row_for, source_of}
use Rattle.pp_laws.specs.Runs.{IsIn}
use Rattle.pp_laws.proofs.Callers.{begun_at_end-same, next_request-same}
use Rattle.pp_laws.proofs.Lists.{Changed, From, in_change, in_map, other, rise_change, rise_map, same}
use Rattle.pp_laws.proofs.Sound.{client_number, exchange_number, source_in}
use Rattle.pp_laws.proofs.Tests.{first_holds, number_same, same_number}
use Rattle.pp_laws_passed.specs.Passed.{all_spelled, head_left, is_in_passed, last_of, to_say}
use Rattle.pp_laws_passed.proofs.Cases.{each_of, when}
use Rattle.pp_laws_passed.proofs.Fed.{Answers, FactsOf, Fed, Feeds, Keeps, Relays, SameClient, Tale, clients_changed_in, facts_of, fed, is_in_other, none_passed, not_passed, parts_same, relays_by}
use Rattle.pp_laws_passed.proofs.FedAsks.{begin_exchange-fed, close_client-fed, each_client-fed, forsake-fed, leave-fed, on_client-fed, swept-fed}
use Rattle.pp_laws_passed.proofs.FedTurns.{close_finished-fed, enter_row-fed, enter_row-same}
use Rattle.pp_laws_passed.proofs.Same.{facts_of as parts_of, itself}

-- of the clients with its number
abbrev pub IsFree : Client → State → Type 0
IsFree c s = (d : Client) → IsIn d s.clients → d.number ≡ c.number → is_begun d ≡ false

-- ---- what is said

-- what is said of some bytes, and what is left of them
and_left : (bytes left : Bytes) → bytes ≡ take (length bytes) left → bytes ++ drop (length bytes) left ≡ left
and_left bytes left is = ap (λ l. l ++ drop (length bytes) left) is ∙ take-append-drop (length bytes) left

-- of what there is of two texts, no more than the first
of_first : (first second bytes : Bytes) → bytes ≡ take (length bytes) (first ++ second) → length bytes ≤ length first → bytes ≡ take (length bytes) first
of_first first second [] is le = refl
of_first [] second (b ∷ bytes) is le = let long : suc (length bytes) ≤ 0 = le in absurd (omega arith)
of_first (h ∷ first) second (b ∷ bytes) is le =
    let parts : b ∷ bytes ≡ h ∷ take (length bytes) (first ++ second) = is in
    let same : b ≡ h = cc in
    let rest : bytes ≡ take (length bytes) (first ++ second) = cc in
    let less : suc (length bytes) ≤ suc (length first) = le in
    ap (λ x. x ∷ bytes) same ∙ ap (λ l. h ∷ l) (of_first first second bytes rest (omega arith))

-- all of the first, and of the second
of_second : (first second bytes : Bytes) → bytes ≡ take (length bytes) (first ++ second) → length first ≤ length bytes
    → (bytes ≡ first ++ drop (length first) bytes) × (drop (length first) bytes ≡ take (length (drop (length first) bytes)) second)
of_second [] second bytes is le = (refl, is)
of_second (h ∷ first) second [] is le = let long : suc (length first) ≤ 0 = le in absurd (omega arith)
of_second (h ∷ first) second (b ∷ bytes) is le =
    let parts : b ∷ bytes ≡ h ∷ take (length bytes) (first ++ second) = is in
    let same : b ≡ h = cc in
    let rest : bytes ≡ take (length bytes) (first ++ second) = cc in
    let less : suc (length first) ≤ suc (length bytes) = le in
    let both = of_second first second bytes rest (omega arith) in
    (ap (λ x. x ∷ bytes) same ∙ ap (λ l. h ∷ l) both.0, both.1)

-- what was said, and what is left, stays the same text
said_on : (was now bytes left all : Bytes) → now ≡ was ++ bytes → bytes ++ left ≡ all → now ++ left ≡ was ++ all
said_on was now bytes left all told is = ap (λ (xs : Bytes). xs ++ left) told ∙ append_assoc was bytes left ∙ ap (λ (xs : Bytes). was ++ xs) is

no_bytes : (bytes : Bytes) → bytes ≡ take (length bytes) [] → bytes ≡ []
no_bytes [] is = refl
no_bytes (b ∷ bytes) is = absurd (cc is)

within : (n m : ℕ) → nat_le n m ≡ true → n ≤ m
within n m is = grind (arith, nat_tests)

past : (n m : ℕ) → nat_le n m ≡ false → m ≤ n
past n m isnt = grind (arith, nat_tests)

nothing_within : (n m : ℕ) → n ≡ 0 → nat_le n m ≡ false → ⊥
nothing_within n m none isnt = grind (arith, nat_tests)

-- the client, of whom these bytes were said
module _ (tale later : Tale) (s : State) (bytes : Bytes) (c : Client) (told : later.said c.number ≡ tale.said c.number ++ bytes) where
  -- where nothing of it is passed
  told_off : (d : Client) → d.number ≡ c.number → d.index ≡ c.index → is_in_passed d.stage ≡ false → is_in_passed c.stage ≡ false → (is_in_other d.stage ≡ false → is_in_other c.stage ≡ false) → d.brought ≡ c.brought → SameClient tale later d c
  told_off d number index off was_off others brought = record {
    number = number;
    passing = λ on. let both : false ≡ true = sym off ∙ on in absurd (cc both);
    source = λ on. let both : false ≡ true = sym off ∙ on in absurd (cc both);
    passed = λ p isnt is. (
      p,
      others isnt,
      sym (ap (λ b. passed_of (record c { brought = b })) brought) ∙ is,
      record {
        index = index;
        head = refl;
        rule = refl;
        ends = refl;
        relays = relays_by (tale.said c.number) (later.said d.number) d c p p (off ∙ sym was_off) refl refl refl refl (λ isnt2. refl) (λ on. let both : false ≡ true = sym was_off ∙ on in absurd (cc both));
      },
    );
  }

  -- where a reply goes on that is not passed
  told_other : (d : Client) → d.number ≡ c.number → is_in_passed d.stage ≡ false → is_in_other d.stage ≡ true → SameClient tale later d c
  told_other d number off others = record {
    number = number;
    passing = λ on. let both : false ≡ true = sym off ∙ on in absurd (cc both);
    source = λ on. let both : false ≡ true = sym off ∙ on in absurd (cc both);
    passed = λ p isnt. let both : true ≡ false = sym others ∙ isnt in absurd (cc both);
  }

  -- where a reply goes on that is passed
  told_on : (d : Client) → d.number ≡ c.number → d.index ≡ c.index → is_in_passed d.stage ≡ is_in_passed c.stage → is_in_other d.stage ≡ is_in_other c.stage → source_in d.stage ≡ source_in c.stage
      → ((p : Passed) → passed_of d ≡ Some p → (q : Passed) × (passed_of c ≡ Some q) × (p.head ≡ q.head) × (p.rule ≡ q.rule) × (p.pipe.is_coded ≡ q.pipe.is_coded) × (p.pipe.is_finished ≡ q.pipe.is_finished) × (is_in_passed c.stage ≡ false → p.pipe.bytes ≡ q.pipe.bytes) × (bytes ++ (to_say d ++ p.pipe.bytes) ≡ to_say c ++ q.pipe.bytes))
      → SameClient tale later d c
  told_on d number index on others source piped = record {
    number = number;
    passing = λ is. sym on ∙ is;
    source = λ is id has. sym source ∙ has;
    passed = λ p isnt is.
        let w = piped p is in (
          w.0,
          sym others ∙ isnt,
          w.1,
          record {
            index = index;
            head = w.2;
            rule = w.3;
            ends = w.5;
            relays = relays_by (tale.said c.number) (later.said d.number) d c p w.0 on w.2 w.3 w.4 w.5 w.6 (λ so. said_on (tale.said c.number) (later.said d.number) bytes (to_say d ++ p.pipe.bytes) (to_say c ++ w.0.pipe.bytes) (ap later.said number ∙ told) w.7);
          },
        );
  }

  -- of the interim answer
  of_interim : (left : Bytes) → c.interim_left ≡ left → bytes ≡ take (length bytes) left → SameClient tale later (record c { interim_left = drop (length bytes) left }) c
  of_interim left some is = told_on (record c { interim_left = drop (length bytes) left }) refl refl refl refl refl (λ p has. (p, has, refl, refl, refl, refl, λ off. refl, stream p))
    where
      stream : (p : Passed) → bytes ++ ((drop (length bytes) left ++ head_left c.stage) ++ p.pipe.bytes) ≡ (c.interim_left ++ head_left c.stage) ++ p.pipe.bytes
      stream p =
          sym (append_assoc bytes (drop (length bytes) left ++ head_left c.stage) p.pipe.bytes)
          ∙ ap (λ (xs : Bytes). xs ++ p.pipe.bytes) (sym (append_assoc bytes (drop (length bytes) left) (head_left c.stage)) ∙ ap (λ (xs : Bytes). xs ++ head_left c.stage) (and_left bytes left is ∙ sym some))

  -- of a reply that is passed
  module _ (none : c.interim_left ≡ []) (r : Reply) (stage : c.stage ≡ Answering r) (begun : r.has_begun ≡ true) (passing : is_passing r.decision ≡ true) where
    is_on : (q : Reply) → q.has_begun ≡ r.has_begun → q.decision ≡ r.decision → is_in_passed (Answering q) ≡ is_in_passed c.stage
    is_on q b d = ap (λ t. t && is_passing q.decision) b ∙ ap (λ x. r.has_begun && is_passing x) d ∙ sym (ap is_in_passed stage)

    isnt_other : (q : Reply) → q.has_begun ≡ r.has_begun → q.decision ≡ r.decision → is_in_other (Answering q) ≡ is_in_other c.stage
    isnt_other q b d = ap (λ t. t && not (is_passing q.decision)) b ∙ ap (λ x. r.has_begun && not (is_passing x)) d ∙ sym (ap is_in_other stage)

    left_to_say : to_say c ≡ r.head_left
    left_to_say = ap (λ (xs : Bytes). xs ++ head_left c.stage) none ∙ ap head_left stage

    of_head : (part : Bytes) → bytes ≡ take (length bytes) (r.head_left ++ part) → length bytes ≤ length r.head_left → SameClient tale later (record c { stage = Answering (record r { head_left = drop (length bytes) r.head_left }) }) c
    of_head part is le =
        told_on (record c { stage = Answering (record r { head_left = drop (length bytes) r.head_left }) }) refl refl (is_on (record r { head_left = drop (length bytes) r.head_left }) refl refl) (isnt_other (record r { head_left = drop (length bytes) r.head_left }) refl refl) (sym (ap source_in stage))
        (λ p has. (p, has, refl, refl, refl, refl, λ off. refl, stream p))
      where
        stream : (p : Passed) → bytes ++ ((c.interim_left ++ drop (length bytes) r.head_left) ++ p.pipe.bytes) ≡ to_say c ++ p.pipe.bytes
        stream p =
            ap (λ (xs : Bytes). bytes ++ ((xs ++ drop (length bytes) r.head_left) ++ p.pipe.bytes)) none ∙ sym (append_assoc bytes (drop (length bytes) r.head_left) p.pipe.bytes)
            ∙ ap (λ (xs : Bytes). xs ++ p.pipe.bytes) (and_left bytes r.head_left (of_first r.head_left part bytes is le) ∙ sym left_to_say)

    -- all of its head is said, and so much of what is behind it
    abbrev behind : ℕ
    behind = length bytes - length r.head_left

    abbrev headless : Client
    headless = record c { stage = Answering (record r { head_left = [] }) }

    abbrev drained : Client
    drained = on_passed (λ p. record p { pipe = without_first behind p.pipe }) headless

    of_pipe : bytes ≡ take (length bytes) (r.head_left ++ passed_part c) → length r.head_left ≤ length bytes → SameClient tale later drained c
    of_pipe is le = by (passed_of c) refl
      where
        parts : (bytes ≡ r.head_left ++ drop (length r.head_left) bytes) × (drop (length r.head_left) bytes ≡ take (length (drop (length r.head_left) bytes)) (passed_part c))
        parts = of_second r.head_left (passed_part c) bytes is le

        rest : Bytes
        rest = drop (length r.head_left) bytes

        long : length (drop (length r.head_left) bytes) ≡ behind
        long = length-drop (length r.head_left) bytes

        stream : (q : Passed) → passed_of c ≡ Some q → bytes ++ ((c.interim_left ++ []) ++ drop behind q.pipe.bytes) ≡ to_say c ++ q.pipe.bytes
        stream q has =
            let piped : passed_part c ≡ q.pipe.bytes = ap (λ (o : Option Passed). elim o as (λ x. Bytes) [ None ↦ [] | Some p ↦ p.pipe.bytes ]) has in
            let left : drop (length r.head_left) bytes ++ drop behind q.pipe.bytes ≡ q.pipe.bytes = ap (λ n. drop (length r.head_left) bytes ++ drop n q.pipe.bytes) (sym long) ∙ and_left (drop (length r.head_left) bytes) q.pipe.bytes (parts.1 ∙ ap (λ (xs : Bytes). take (length (drop (length r.head_left) bytes)) xs) piped) in
            ap (λ (xs : Bytes). bytes ++ ((xs ++ []) ++ drop behind q.pipe.bytes)) none ∙ ap (λ (xs : Bytes). xs ++ drop behind q.pipe.bytes) parts.0 ∙ append_assoc r.head_left (drop (length r.head_left) bytes) (drop behind q.pipe.bytes)
            ∙ ap (λ (xs : Bytes). r.head_left ++ xs) left ∙ ap (λ (xs : Bytes). xs ++ q.pipe.bytes) (sym left_to_say)

        by : (o : Option Passed) → passed_of c ≡ o → SameClient tale later (elim o as (λ x. Client) [ None ↦ record c { stage = Answering (record r { head_left = [] }) } | Some p ↦ record c { stage = Answering (record r { head_left = [] }); brought = Passes (record p { pipe = without_first behind p.pipe }) } ]) c
        by None has = told_on (record c { stage = Answering (record r { head_left = [] }) }) refl refl (is_on (record r { head_left = [] }) refl refl) (isnt_other (record r { head_left = [] }) refl refl) (sym (ap source_in stage)) (λ p some. let both : None ≡ Some p = sym has ∙ some in absurd (cc both))
        by (Some q) has =
            told_on (record c { stage = Answering (record r { head_left = [] }); brought = Passes (record q { pipe = without_first behind q.pipe }) }) refl refl (is_on (record r { head_left = [] }) refl refl) (isnt_other (record r { head_left = [] }) refl refl) (sym (ap source_in stage))
            (λ p some.
            let eq : record q { pipe = without_first behind q.pipe } ≡ p = cc in
            (q, has, sym (ap (λ (x : Passed). x.head) eq), sym (ap (λ (x : Passed). x.rule) eq), sym (ap (λ (x : Passed). x.pipe.is_coded) eq), sym (ap (λ (x : Passed). x.pipe.is_finished) eq), λ off. absurd (passed_now off), ap (λ (x : Passed). bytes ++ ((c.interim_left ++ []) ++ x.pipe.bytes)) (sym eq) ∙ stream q has))
          where
            passed_now : is_in_passed c.stage ≡ false → ⊥
            passed_now off = let both : true ≡ false = sym (ap is_in_passed stage ∙ ap (λ t. t && is_passing r.decision) begun ∙ passing) ∙ off in cc both

  -- of a reply
  of_reply : c.interim_left ≡ [] → (r : Reply) → c.stage ≡ Answering r → bytes ≡ take (length bytes) (elim r.has_begun as (λ x. Bytes) [ false ↦ [] | true ↦ r.head_left ++ body_part s c r ]) → SameClient tale later (said_of (length bytes) r c) c
  of_reply none r stage is = by_begun r.has_begun refl is
    where
      by_idle : (t : Bool) → nat_le (length bytes) (length r.head_left) ≡ t → r.has_begun ≡ false → bytes ≡ []
          → SameClient tale later (elim t as (λ x. Client) [
            | true ↦ record c { stage = Answering (record r { head_left = drop (length bytes) r.head_left }) }
            | false ↦ said_of_body (length bytes - length r.head_left) (record r { head_left = [] }) c
          ]) c
      by_idle true holds off nothing =
          told_off (record c { stage = Answering (record r { head_left = drop (length bytes) r.head_left }) }) refl refl (ap (λ t. t && is_passing r.decision) off) (ap is_in_passed stage ∙ ap (λ t. t && is_passing r.decision) off) (λ isnt. ap is_in_other stage ∙ isnt) refl
      by_idle false holds off nothing = absurd (nothing_within (length bytes) (length r.head_left) (ap length nothing) holds)

      by_decision : (p t : Bool) → is_passing r.decision ≡ p → nat_le (length bytes) (length r.head_left) ≡ t → r.has_begun ≡ true → bytes ≡ take (length bytes) (r.head_left ++ (elim p as (λ x. Bytes) [ true ↦ passed_part c | false ↦ body_part s c r ]))
          → SameClient tale later (elim t as (λ x. Client) [
            | true ↦ record c { stage = Answering (record r { head_left = drop (length bytes) r.head_left }) }
            | false ↦ elim p as (λ y. Client) [
              | true ↦ on_passed (λ q. record q { pipe = without_first (length bytes - length r.head_left) q.pipe }) (record c { stage = Answering (record r { head_left = [] }) })
              | false ↦ record c { stage = Answering (record r { head_left = []; at = r.at + (length bytes - length r.head_left) }) }
            ]
          ]) c
      by_decision true true passing holds begun front = of_head none r stage begun passing (passed_part c) front (within (length bytes) (length r.head_left) holds)
      by_decision true false passing holds begun front = piped
        where
          piped : SameClient tale later (on_passed (λ q. record q { pipe = without_first (length bytes - length r.head_left) q.pipe }) (record c { stage = Answering (record r { head_left = [] }) })) c
          piped = of_pipe none r stage begun passing front (past (length bytes) (length r.head_left) holds)
      by_decision false true off holds begun front =
          told_other (record c { stage = Answering (record r { head_left = drop (length bytes) r.head_left }) }) refl (ap (λ t. t && is_passing r.decision) begun ∙ off) (ap (λ t. t && not (is_passing r.decision)) begun ∙ ap not off)
      by_decision false false off holds begun front =
          told_other (record c { stage = Answering (record r { head_left = []; at = r.at + (length bytes - length r.head_left) }) }) refl (ap (λ t. t && is_passing r.decision) begun ∙ off) (ap (λ t. t && not (is_passing r.decision)) begun ∙ ap not off)

      by_part : (p : Bool) → is_passing r.decision ≡ p → bytes ≡ take (length bytes) (r.head_left ++ body_part s c r) → bytes ≡ take (length bytes) (r.head_left ++ (elim p as (λ x. Bytes) [ true ↦ passed_part c | false ↦ body_part s c r ]))
      by_part true passing front = front ∙ ap (λ (xs : Bytes). take (length bytes) (r.head_left ++ xs)) (part_of (is_passing r.decision) passing)
        where
          part_of : (t : Bool) → t ≡ true → (elim t as (λ x. Bytes) [ true ↦ passed_part c | false ↦ elim (next_of s c) as (λ y. Bytes) [ None ↦ [] | Some n ↦ piece s n ] ]) ≡ passed_part c
          part_of true so = refl
          part_of false so = absurd (cc so)
      by_part false off front = front

      by_begun : (b : Bool) → r.has_begun ≡ b → bytes ≡ take (length bytes) (elim b as (λ x. Bytes) [ false ↦ [] | true ↦ r.head_left ++ body_part s c r ]) → SameClient tale later (said_of (length bytes) r c) c
      by_begun false off front = by_idle (nat_le (length bytes) (length r.head_left)) refl off (no_bytes bytes front)
      by_begun true begun front = by_decision (is_passing r.decision) (nat_le (length bytes) (length r.head_left)) refl refl begun (by_part (is_passing r.decision) refl front)

  pub said_same : bytes ≡ take (length bytes) (offer s c) → SameClient tale later (said_by (length bytes) c) c
  said_same is = by c.interim_left refl is
    where
      idle : is_in_passed c.stage ≡ false → SameClient tale later c c
      idle off = told_off c refl refl off off (λ isnt. isnt) refl

      by_stage : (stage : Stage) → c.stage ≡ stage → c.interim_left ≡ []
          → bytes ≡ take (length bytes) (elim (elim stage as (λ y. Option Reply) [ Undecided ↦ None | Waiting ↦ None | Passing ↦ None | Answering r ↦ Some r ]) as (λ x. Bytes) [ None ↦ [] | Some r ↦ elim r.has_begun as (λ y. Bytes) [ false ↦ [] | true ↦ r.head_left ++ body_part s c r ] ])
          → SameClient tale later (elim (elim stage as (λ y. Option Reply) [ Undecided ↦ None | Waiting ↦ None | Passing ↦ None | Answering r ↦ Some r ]) as (λ x. Client) [ None ↦ c | Some r ↦ said_of (length bytes) r c ]) c
      by_stage Undecided stage none front = idle (ap is_in_passed stage)
      by_stage Waiting stage none front = idle (ap is_in_passed stage)
      by_stage Passing stage none front = idle (ap is_in_passed stage)
      by_stage (Answering r) stage none front = of_reply none r stage front

      by : (left : Bytes) → c.interim_left ≡ left → bytes ≡ take (length bytes) (elim (is_empty left) as (λ x. Bytes) [ false ↦ left | true ↦ reply_part s c ])
          → SameClient tale later (elim (is_empty left) as (λ x. Client) [ false ↦ record c { interim_left = drop (length bytes) left } | true ↦ elim (reply_of c) as (λ y. Client) [ None ↦ c | Some r ↦ said_of (length bytes) r c ] ]) c
      by (x ∷ left) some front = of_interim (x ∷ left) some front
      by [] none front = by_stage c.stage refl none front

module _ {tale : Tale} where
  -- ---- what is heard

  fronted_same : (d c : Client) (front : Front) → d.number ≡ c.number → d.index ≡ c.index → d.stage ≡ c.stage → d.brought ≡ c.brought → d.interim_left ≡ c.interim_left → SameClient tale tale (elim front as (λ x. Client) [ NoHeadYet ↦ fronted d | NoFront status ↦ d | IsRequest r ↦ d ]) c
  fronted_same d c NoHeadYet number index stage brought left = parts_same _ c number index stage brought left
  fronted_same d c (NoFront status) number index stage brought left = parts_same d c number index stage brought left
  fronted_same d c (IsRequest r) number index stage brought left = parts_same d c number index stage brought left

  pub heard_same : (bytes : Bytes) (c : Client) → SameClient tale tale (heard_by bytes c) c
  heard_same bytes c = fronted_same (record c { heard = c.heard ++ what_counts c.front (drop c.skip bytes); skip = c.skip - length bytes }) c c.front refl refl refl refl refl

  -- ---- a reply is over

  next_same : (c : Client) → SameClient tale tale (next_request c) c
  next_same c = none_passed (next_request c) c (next_request-same c).number refl refl refl

  end_reply-fed : (c : Client) (s : State) → Fed tale s → Fed tale (end_reply c s)
  unfolding end_reply
  end_reply-fed c s h = when c.closes (close_client-fed c.number false s h) (swept-fed _ (forsake-fed (is_of c.number) _ (on_client-fed c.number next_request s next_same h)))

  end_said-fed : (c : Client) (s : State) → Fed tale s → Fed tale (end_said c s)
  unfolding end_said
  end_said-fed c s h = when (is_said c && not c.is_closing) (end_reply-fed c s h) h

  pub end_replies-fed : (s : State) → Fed tale s → Fed tale (end_replies s)
  unfolding end_replies
  end_replies-fed s h = each_client-fed close_finished (λ c t there ht. close_finished-fed c t ht) _ _ (each_client-fed end_said (λ c t there ht. end_said-fed c t ht) _ s h)

  -- ---- what is decided

  refused_same : (status : ℕ) (c : Client) → SameClient tale tale (refused_with status c) c
  refused_same status c = none_passed (refused_with status c) c refl refl refl refl

  refuse-fed : (c : Client) (status : ℕ) (s : State) → Fed tale s → Fed tale (refuse c status s)
  unfolding refuse
  refuse-fed c status s h = swept-fed _ (leave-fed (is_of c.number) _ (on_client-fed c.number (refused_with status) s (refused_same status) h))

stage_waits : (d : Decision) → (is_in_passed (stage_for d) ≡ false) × (source_in (stage_for d) ≡ None)
stage_waits Pass = (refl, refl)
stage_waits (Refuse status) = (refl, refl)
stage_waits (Hit from to) = (refl, refl)
stage_waits (Part from to) = (refl, refl)
stage_waits Head = (refl, refl)
stage_waits NotModified = (refl, refl)
stage_waits Unsatisfiable = (refl, refl)
stage_waits Relay = (refl, refl)
stage_waits Validate = (refl, refl)
stage_waits Fetch = (refl, refl)

module _ {tale : Tale} where
  asking_same : (d : Decision) (c : Client) → SameClient tale tale (asking_with d c) c
  asking_same d c = none_passed (asking_with d c) c refl (stage_waits d).0 (stage_waits d).1 refl

  ask_for-fed : (c : Client) (d : Decision) (head : Request) (key : Key) (kind : AskKind) (s : State) → Fed tale s → Fed tale (ask_for c d head key kind s)
  unfolding ask_for leave forsake on_client
  ask_for-fed c d head key kind s h =
      swept-fed _
      (begin_exchange-fed (new_exchange s c head key d kind) _ refl refl (λ x i hit. by x (in_change (is_client c.number) (asking_with d) x s.clients i) hit)
      (leave-fed (is_of c.number) (on_client c.number (asking_with d) s) (on_client-fed c.number (asking_with d) s (asking_same d) h)))
    where
      by : (x : Client) → Changed (is_client c.number) (asking_with d) s.clients x → (c.number == x.number) ≡ true → is_in_passed x.stage ≡ false
      by x (same i isnt) hit =
          let eq : x.number ≡ c.number = sym (same_number c.number x.number hit) in
          let both : false ≡ true = sym isnt ∙ ap (λ n. n == c.number) eq ∙ number_same c.number in absurd (cc both)
      by x (other y i it_is eq) hit = ap (λ (z : Client). is_in_passed z.stage) eq ∙ (stage_waits d).0

  ask_origin-fed : (c : Client) (d : Decision) (s : State) → Fed tale s → Fed tale (ask_origin c d s)
  unfolding ask_origin ask_as
  ask_origin-fed c d s h = by_front c.front
    where
      by_kind : (head : Request) (key : Key) (o : Option AskKind) → Fed tale (elim o as (λ x. State) [ None ↦ s | Some kind ↦ ask_for c d head key kind s ])
      by_kind head key None = h
      by_kind head key (Some kind) = ask_for-fed c d head key kind s h

      by_key : (r : Parsed) (named : Result Key TargetFault) → Fed tale (elim named as (λ x. State) [ Ok key ↦ ask_as c d r.head key s | Err fault ↦ s ])
      by_key r (Ok key) = by_kind r.head key (kind_of r.head (row_for s r.head (text_of key)) d)
      by_key r (Err fault) = h

      by_front : (front : Front) → Fed tale (elim front as (λ x. State) [
        | NoHeadYet ↦ s
        | NoFront status ↦ s
        | IsRequest r ↦ elim r.key as (λ y. State) [ Ok key ↦ ask_as c d r.head key s | Err fault ↦ s ]
      ])
      by_front NoHeadYet = h
      by_front (NoFront status) = h
      by_front (IsRequest r) = by_key r r.key

-- who is in no reply is in none that is not passed
not_other : (stage : Stage) → is_some_with (λ r. r.has_begun) (elim stage as (λ y. Option Reply) [ Undecided ↦ None | Waiting ↦ None | Passing ↦ None | Answering r ↦ Some r ]) ≡ false → is_in_other stage ≡ false
not_other Undecided off = refl
not_other Waiting off = refl
not_other Passing off = refl
not_other (Answering r) off = ap (λ b. b && not (is_passing r.decision)) off

module _ {tale : Tale} where
  -- a reply that is decided has not begun
  answering_same : (r : Reply) (c : Client) → r.has_begun ≡ false → is_begun c ≡ false → SameClient tale tale (answering_with r c) c
  answering_same r c off free = record {
    number = refl;
    passing = λ on. absurd (no_begun on);
    source = λ on. absurd (no_begun on);
    passed = λ p isnt is. (
      p,
      not_other c.stage free,
      is,
      record {
        index = refl;
        head = refl;
        rule = refl;
        ends = refl;
        relays = relays_by (tale.said c.number) (tale.said c.number) (answering_with r c) c p p (ap (λ b. b && is_passing r.decision) off ∙ sym (not_passed c free)) refl refl refl refl (λ isnt2. refl) (λ on. let both : false ≡ true = sym (not_passed c free) ∙ on in absurd (cc both));
      },
    );
  }
    where
      no_begun : is_in_passed (Answering r) ≡ true → ⊥
      no_begun on = let both : false ≡ true = sym off ∙ first_holds r.has_begun (is_passing r.decision) on in cc both

  answered-fed : (r : Reply) (c : Client) (s : State) → r.has_begun ≡ false → IsFree c s → Fed tale s → Fed tale (on_client c.number (answering_with r) s)
  unfolding on_client
  answered-fed r c s off free h = fed (clients_changed_in s (is_client c.number) (answering_with r) (λ d. refl) (λ d i hit. answering_same r d off (free d i (same_number d.number c.number hit))) (facts_of h))

  follow-fed : (c : Client) (d : Decision) (s : State) → IsFree c s → Fed tale s → Fed tale (follow c d s)
  unfolding follow follow_row follow_with
  follow-fed c d s free h = each_of (key_in c.front) h (λ key. each_of (row s (text_of key)) h (λ x. swept-fed _ (leave-fed _ _ (answered-fed (reply_by d (Some x.id)) c s refl free h))))

  relay-fed : (c : Client) (s : State) → IsFree c s → Fed tale s → Fed tale (relay c s)
  unfolding relay
  relay-fed c s free h = swept-fed _ (answered-fed (reply_by Relay None) c s refl free h)

  decided_by-fed : (c : Client) (d : Decision) (s : State) → IsFree c s → Fed tale s → Fed tale (decided_by c d s)
  unfolding decided_by
  decided_by-fed c (Refuse status) s free h = refuse-fed c status s h
  decided_by-fed c Pass s free h = ask_origin-fed c Pass s h
  decided_by-fed c Fetch s free h = ask_origin-fed c Fetch s h
  decided_by-fed c Validate s free h = ask_origin-fed c Validate s h
  decided_by-fed c Relay s free h = relay-fed c s free h
  decided_by-fed c (Hit from to) s free h = follow-fed c (Hit from to) s free h
  decided_by-fed c (Part from to) s free h = follow-fed c (Part from to) s free h
  decided_by-fed c Head s free h = follow-fed c Head s free h
  decided_by-fed c NotModified s free h = follow-fed c NotModified s free h
  decided_by-fed c Unsatisfiable s free h = follow-fed c Unsatisfiable s free h

  pub decided-fed : (c : Client) (d : Decision) (s : State) → IsFree c s → Fed tale s → Fed tale (decided c d s)
  unfolding decided
  decided-fed c d s free h = decided_by-fed c d (enter_row c d s) (λ x i number. free x (subst (λ cs. IsIn x cs) (parts_of (enter_row-same c d s (itself s))).clients_same i) number) (enter_row-fed c d s h)

-- ---- replies begin

-- a reply that is passed begins with the head of its response
record IsHeadOf (c d : Client) : Type 0 where
  response : Passed
  is : passed_of c ≡ Some response
  minor : ℕ
  is_head : Bool
  name : Bytes
  keeps : Bool
  spelled : head_left d.stage ≡ passed_head response.head response.rule minor is_head name keeps

-- as it was; or in no reply before, and told as it was
data BegunAs (c d : Client) : Type 0 where
  stays : d ≡ c → BegunAs c d
  begins_now : is_begun c ≡ false → d.number ≡ c.number → d.index ≡ c.index → d.brought ≡ c.brought → d.interim_left ≡ c.interim_left → (is_in_passed d.stage ≡ true → source_in d.stage ≡ None) → (is_in_passed d.stage ≡ true → IsHeadOf c d) → BegunAs c d

module _ (s : State) (c : Client) where
  passed_as : (q : Parsed) (d : Decision) → is_begun c ≡ false → BegunAs c (begun_passed s q d c)
  passed_as q d free = by (passed_of c) refl
    where
      by : (o : Option Passed) → passed_of c ≡ o → BegunAs c (elim o as (λ x. Client) [
        | None ↦ c
        | Some p ↦ record c { stage = Answering (passed_reply s q p d); closes = not (keeps_open q && is_end_known p.rule q.head.minor) }
      ])
      by None has = stays refl
      by (Some p) has = begins_now free refl refl refl refl (λ on. refl) (λ on. record { response = p; is = has; minor = q.head.minor; is_head = is_head q.head.method; name = s.settings.name; keeps = keeps_open q; spelled = refl })

  instance_as : (q : Parsed) (r : Reply) → is_begun c ≡ false → is_passing r.decision ≡ false → BegunAs c (begun_instance s q r c)
  instance_as q r free off = by (source_of s r)
    where
      by_may : (x : Instance) (t : Bool) → BegunAs c (elim t as (λ y. Client) [ true ↦ record c { stage = Answering (begun_reply s q c r x) } | false ↦ c ])
      by_may x true = begins_now free refl refl refl refl (λ on. let both : false ≡ true = sym off ∙ on in absurd (cc both)) (λ on. let both : false ≡ true = sym off ∙ on in absurd (cc both))
      by_may x false = stays refl

      by : (o : Option Instance) → BegunAs c (elim o as (λ y. Client) [
        | None ↦ c
        | Some x ↦ elim (may_begin s r x) as (λ z. Client) [ true ↦ record c { stage = Answering (begun_reply s q c r x) } | false ↦ c ]
      ])
      by None = stays refl
      by (Some x) = by_may x (may_begin s r x)

  decided_as : (q : Parsed) (r : Reply) (t : Bool) → is_passing r.decision ≡ t → is_begun c ≡ false → BegunAs c (elim t as (λ y. Client) [ true ↦ begun_passed s q r.decision c | false ↦ begun_instance s q r c ])
  decided_as q r true on free = passed_as q r.decision free
  decided_as q r false off free = instance_as q r free off

  reply_as : (q : Parsed) (r : Reply) (t : Bool) → r.has_begun ≡ t → c.stage ≡ Answering r → BegunAs c (elim t as (λ y. Client) [ true ↦ c | false ↦ begun_decided s q r c ])
  reply_as q r true on stage = stays refl
  reply_as q r false off stage = decided_as q r (is_passing r.decision) refl (ap (λ st. is_begun (record c { stage = st })) stage ∙ off)

  stage_as : (q : Parsed) (stage : Stage) → c.stage ≡ stage → BegunAs c (elim stage as (λ y. Client) [
    | Undecided ↦ c
    | Waiting ↦ c
    | Passing ↦ begun_passed s q Pass c
    | Answering reply ↦ elim reply.has_begun as (λ z. Client) [ true ↦ c | false ↦ begun_decided s q reply c ]
  ])
  stage_as q Undecided is = stays refl
  stage_as q Waiting is = stays refl
  stage_as q Passing is = passed_as q Pass (ap (λ st. is_begun (record c { stage = st })) is)
  stage_as q (Answering r) is = reply_as q r r.has_begun refl is

  front_as : (front : Front) → BegunAs c (elim front as (λ y. Client) [ NoHeadYet ↦ c | NoFront status ↦ c | IsRequest r ↦ begun_by s r c ])
  front_as NoHeadYet = stays refl
  front_as (NoFront status) = stays refl
  front_as (IsRequest q) = stage_as q c.stage refl

  closing_as : (t : Bool) → BegunAs c (elim t as (λ y. Client) [ true ↦ c | false ↦ elim c.front as (λ z. Client) [ NoHeadYet ↦ c | NoFront status ↦ c | IsRequest r ↦ begun_by s r c ] ])
  closing_as true = stays refl
  closing_as false = front_as c.front

begun_as : (s : State) (c : Client) → BegunAs c (begun_at_end s c)
begun_as s c = closing_as s c c.is_closing

any_of : {A : Type 0} (p : A → Bool) (x : A) (xs : List A) → IsIn x xs → p x ≡ true → list_any p xs ≡ true
any_of p x [] i is = absurd i
any_of p x (y ∷ ys) (inl eq) is = ap (λ b. b || list_any p ys) (sym (ap p eq) ∙ is)
any_of p x (y ∷ ys) (inr i) is = by (p y) (any_of p x ys i is)
  where
    by : (b : Bool) → list_any p ys ≡ true → (b || list_any p ys) ≡ true
    by true rest = refl
    by false rest = rest

-- a reply that is passed has begun
begun_passing : (c : Client) → is_in_passed c.stage ≡ true → is_begun c ≡ true
begun_passing c on = by c.stage on
  where
    by : (stage : Stage) → is_in_passed stage ≡ true → is_some_with (λ r. r.has_begun) (elim stage as (λ y. Option Reply) [ Undecided ↦ None | Waiting ↦ None | Passing ↦ None | Answering r ↦ Some r ]) ≡ true
    by Undecided has = absurd (cc has)
    by Waiting has = absurd (cc has)
    by Passing has = absurd (cc has)
    by (Answering r) has = first_holds r.has_begun (is_passing r.decision) has

module _ {tale : Tale} where
  pub begin_replies-fed : (s : State) → Fed tale s → Fed tale (begin_replies s)
  unfolding begin_replies forsake
  begin_replies-fed s hs = swept-fed (record s { clients = map (begun_at_end s) s.clients; exchanges = change (is_outrun s) left_alone s.exchanges }) (fed (record {
    apart = rise_map client_number (begun_at_end s) (λ c. (begun_at_end-same s c).number) s.clients h.apart;
    rise = rise_change exchange_number (is_outrun s) left_alone (λ e. refl) s.exchanges h.rise;
    given = λ e i. given_by e (at e i);
    one = λ e d n i j a b. let x = was e (at e i) n a in let y = was d (at d j) n b in h.one e d n x y a b;
    headed = λ e i is none. headed_by e (at e i) is none;
    sourced = λ c id i on is. sourced_by c id (in_map (begun_at_end s) c s.clients i) on is;
    begun = λ e c i j hit on. begun_in e c (at e i) (in_map (begun_at_end s) c s.clients j) hit on;
    fed_by = λ k e c p l i m is j hit off has. fed_in k e c p l (at e i) m is (in_map (begun_at_end s) c s.clients j) hit off has;
    answers = λ on k a n i is named. let v = h.answers on k a n i is named in record { below = v.below; headed = λ e j number. headed_still n v e (at e j) number };
    kept = λ on c p j off has. kept_in on c p (in_map (begun_at_end s) c s.clients j) off has;
  }))
    where
      h : FactsOf tale s
      h = facts_of hs

      at : (e : Exchange) → IsIn e (change (is_outrun s) left_alone s.exchanges) → Changed (is_outrun s) left_alone s.exchanges e
      at e i = in_change (is_outrun s) left_alone e s.exchanges i

      given_by : (e : Exchange) → Changed (is_outrun s) left_alone s.exchanges e → e.number < s.next_exchange
      given_by e (same i isnt) = h.given e i
      given_by e (other d i hit eq) = subst (λ n. n < s.next_exchange) (sym (ap exchange_number eq)) (h.given d i)

      -- one that has a client is as it was
      was : (e : Exchange) → Changed (is_outrun s) left_alone s.exchanges e → (n : ℕ) → e.asker ≡ Some n → IsIn e s.exchanges
      was e (same i isnt) n a = i
      was e (other d i hit eq) n a = let both : None ≡ Some n = sym (ap (λ (x : Exchange). x.asker) eq) ∙ a in absurd (cc both)

      for_none : (e : Exchange) (c : Client) → Changed (is_outrun s) left_alone s.exchanges e → is_for e c ≡ true → IsIn e s.exchanges × (is_outrun s e ≡ false)
      for_none e c (same i isnt) hit = (i, isnt)
      for_none e c (other d i it_is eq) hit = let both : false ≡ true = sym (ap (λ (x : Exchange). is_for x c) eq) ∙ hit in absurd (cc both)

      headed_by : (e : Exchange) → Changed (is_outrun s) left_alone s.exchanges e → is_headed e ≡ true → e.place ≡ None → ⊥
      headed_by e (same i isnt) is none = h.headed e i is none
      headed_by e (other d i hit eq) is none = h.headed d i (sym (ap (λ (x : Exchange). is_headed x) eq) ∙ is) (sym (ap (λ (x : Exchange). x.place) eq) ∙ none)

      sourced_by : (c : Client) (id : ℕ) → From (begun_at_end s) s.clients c → is_in_passed c.stage ≡ true → source_in c.stage ≡ Some id → ⊥
      sourced_by c id r on is = by (begun_as s r.was)
        where
          stage : c.stage ≡ (begun_at_end s r.was).stage
          stage = ap (λ (x : Client). x.stage) r.is

          by : BegunAs r.was (begun_at_end s r.was) → ⊥
          by (stays eq) = let so = stage ∙ ap (λ (x : Client). x.stage) eq in h.sourced r.was id r.there (sym (ap is_in_passed so) ∙ on) (sym (ap source_in so) ∙ is)
          by (begins_now free number index brought left none begins) = let both : None ≡ Some id = sym (none (sym (ap is_in_passed stage) ∙ on)) ∙ sym (ap source_in stage) ∙ is in cc both

      head_or : (e : Exchange) (c : Client) (b : Bool) → is_headed e ≡ b → IsIn c s.clients → is_for e c ≡ true → begins s c ≡ true → is_outrun s e ≡ false → is_headed e ≡ true
      head_or e c true is i hit starts out = is
      head_or e c false is i hit starts out =
          let any = any_of (λ d. is_for e d && begins s d) c s.clients i (ap (λ b. b && begins s c) hit ∙ starts) in
          let both : false ≡ true = sym out ∙ ap (λ b. not b && list_any (λ d. is_for e d && begins s d) s.clients) is ∙ any in absurd (cc both)

      begun_in : (e : Exchange) (c : Client) → Changed (is_outrun s) left_alone s.exchanges e → From (begun_at_end s) s.clients c → is_for e c ≡ true → is_in_passed c.stage ≡ true → is_headed e ≡ true
      begun_in e c w r hit on = by (begun_as s r.was)
        where
          on_now : is_in_passed (begun_at_end s r.was).stage ≡ true
          on_now = sym (ap (λ (x : Client). is_in_passed x.stage) r.is) ∙ on

          its : is_for e r.was ≡ true
          its = ap (λ n. is_this n e.asker) (sym (ap client_number r.is ∙ (begun_at_end-same s r.was).number)) ∙ hit

          there : IsIn e s.exchanges × (is_outrun s e ≡ false)
          there = for_none e c w hit

          by : BegunAs r.was (begun_at_end s r.was) → is_headed e ≡ true
          by (stays eq) = h.begun e r.was there.0 r.there its (sym (ap (λ (x : Client). is_in_passed x.stage) eq) ∙ on_now)
          by (begins_now free number index brought left none begins) =
              head_or e r.was (is_headed e) refl r.there its (ap (λ b. not b && is_begun (begun_at_end s r.was)) free ∙ begun_passing (begun_at_end s r.was) on_now) there.1

      -- its data are in the pipe, and nothing of them was said
      begins_with : (c d : Client) (p : Passed) (content : Bytes) → is_begun c ≡ false → d.number ≡ c.number → d.interim_left ≡ c.interim_left → (is_in_passed d.stage ≡ true → IsHeadOf c d) → passed_of c ≡ Some p → Relays (tale.said c.number) c p content → Relays (tale.said d.number) d p content
      begins_with c d p content free number left begins has w = record {
        pieces = w.pieces;
        all = w.all;
        full = w.full;
        waiting = λ off. w.waiting (not_passed c free);
        shown = λ on.
            let b = begins on in
            let both : Some b.response ≡ Some p = sym b.is ∙ has in
            let eq : b.response ≡ p = cc in
            record {
              earlier = tale.said d.number ++ d.interim_left;
              head = head_left d.stage;
              minor = b.minor;
              is_head = b.is_head;
              name = b.name;
              keeps = b.keeps;
              spelled = b.spelled ∙ ap (λ (x : Passed). passed_head x.head x.rule b.minor b.is_head b.name b.keeps) eq;
              stream =
                  ap (λ (xs : Bytes). tale.said d.number ++ ((d.interim_left ++ head_left d.stage) ++ xs)) (w.waiting (not_passed c free))
                  ∙ ap (λ (xs : Bytes). tale.said d.number ++ xs) (append_assoc d.interim_left (head_left d.stage) (all_spelled p.pipe.is_coded w.pieces ++ last_of p.pipe))
                  ∙ sym (append_assoc (tale.said d.number) d.interim_left (head_left d.stage ++ (all_spelled p.pipe.is_coded w.pieces ++ last_of p.pipe)));
            };
      }

      feeds_as : (k : Conn) (e : Exchange) (c d : Client) (p : Passed) → Feeds tale k e c p → ((content : Bytes) → Relays (tale.said c.number) c p content → Relays (tale.said d.number) d p content) → Feeds tale k e d p
      feeds_as k e c d p v on = record { front = v.front; answer = v.answer; is = v.is; head = v.head; rule = v.rule; relayed = λ isnt. on (payload_of v.answer) (v.relayed isnt); going = v.going }

      fed_in : (k : Conn) (e : Exchange) (c : Client) (p : Passed) → IsIn k s.conns → Changed (is_outrun s) left_alone s.exchanges e → IsIn e.number k.line → is_headed e ≡ true → From (begun_at_end s) s.clients c → is_for e c ≡ true → is_in_other c.stage ≡ false → passed_of c ≡ Some p → Feeds tale k e c p
      fed_in k e c p l w m is r hit off has = by (begun_as s r.was)
        where
          its : is_for e r.was ≡ true
          its = ap (λ n. is_this n e.asker) (sym (ap client_number r.is ∙ (begun_at_end-same s r.was).number)) ∙ hit

          there : IsIn e s.exchanges
          there = (for_none e c w hit).0

          by : BegunAs r.was (begun_at_end s r.was) → Feeds tale k e c p
          by (stays eq) =
              let so : c ≡ r.was = r.is ∙ eq in
              subst (λ (x : Client). Feeds tale k e x p) (sym so) (h.fed_by k e r.was p l there m is r.there its (sym (ap (λ (x : Client). is_in_other x.stage) so) ∙ off) (sym (ap passed_of so) ∙ has))
          by (begins_now free number index brought left none begins) =
              let was_passed : passed_of r.was ≡ Some p = ap (λ b. passed_of (record r.was { brought = b })) (sym (ap (λ (x : Client). x.brought) r.is ∙ brought)) ∙ has in
              subst (λ (x : Client). Feeds tale k e x p) (sym r.is)
              (feeds_as k e r.was (begun_at_end s r.was) p (h.fed_by k e r.was p l there m is r.there its (not_other r.was.stage free) was_passed)
              (λ content v. begins_with r.was (begun_at_end s r.was) p content free number left begins was_passed v))

      headed_still : (n : ℕ) → Answers n s.exchanges s.next_exchange → (e : Exchange) → Changed (is_outrun s) left_alone s.exchanges e → e.number ≡ n → is_headed e ≡ true
      headed_still n v e (same i isnt) number = v.headed e i number
      headed_still n v e (other d i hit eq) number = ap (λ (x : Exchange). is_headed x) eq ∙ v.headed d i (sym (ap exchange_number eq) ∙ number)

      kept_in : tale.follows ≡ true → (c : Client) (p : Passed) → From (begun_at_end s) s.clients c → is_in_other c.stage ≡ false → passed_of c ≡ Some p → Keeps tale c p
      kept_in on c p r off has = by (begun_as s r.was)
        where
          by : BegunAs r.was (begun_at_end s r.was) → Keeps tale c p
          by (stays eq) =
              let so : c ≡ r.was = r.is ∙ eq in
              subst (λ (x : Client). Keeps tale x p) (sym so) (h.kept on r.was p r.there (sym (ap (λ (x : Client). is_in_other x.stage) so) ∙ off) (sym (ap passed_of so) ∙ has))
          by (begins_now free number index brought left none begins) =
              let was_passed : passed_of r.was ≡ Some p = ap (λ b. passed_of (record r.was { brought = b })) (sym (ap (λ (x : Client). x.brought) r.is ∙ brought)) ∙ has in
              let k = h.kept on r.was p r.there (not_other r.was.stage free) was_passed in
              subst (λ (x : Client). Keeps tale x p) (sym r.is) (record {
                content = k.content;
                came = subst (λ i. tale.came (begun_at_end s r.was).number i p.head p.rule k.content p.pipe.is_finished) (sym index) (subst (λ n. tale.came n r.was.index p.head p.rule k.content p.pipe.is_finished) (sym number) k.came);
                relays = begins_with r.was (begun_at_end s r.was) p k.content free number left begins was_passed k.relays;
              })
