-- What a reader of heads answers, as the step of a connection.
use Rattle.std.proofs.Common.{◌≡◌, ℕ, ◌<◌, Bool, List, [], ◌∷◌, ◌++◌, length, Option, Some, None, refl, sym, subst, ap, ◌∙◌, arith}
use Rattle.pp_framing.specs.Places.{first_place}
use Rattle.pp_framing.specs.declared.body.BodyRule.{BodyRule}
use Rattle.pp_framing.specs.declared.place.Place.{Place}
use Rattle.pp_head.specs.Response.{Response, response_at}
use Rattle.pp_pipe.specs.Answers.{IsBefore, IsBeforeFed, IsBeforeTold, IsOpened, IsWaiting, reading_of, response_in}
use Rattle.pp_pipe.specs.Feeding.{IsFrontTold}
use Rattle.pp_pipe.specs.Front.{NoResponse, front_of}
use Rattle.pp_pipe.specs.Reading.{Reading, Before, Within, Closed as IsClosed, Broken as IsBroken}
use Rattle.pp_pipe.specs.declared.answer.Stage.{Stage}
use Rattle.pp_pipe.specs.declared.answer.Stage.TheVariants.{Head, Body, Closed, Broken}
use Rattle.pp_pipe.specs.declared.fate.Fate.{Fate}
use Rattle.pp_pipe.specs.declared.step.Step.{Step}
use Rattle.pp_pipe.specs.declared.step.Step.TheVariants.{Head as AtHead, Bad, Idle}

-- the stage before a head
pub is_head : (text : List ℕ) (stage : Stage) (now : Reading) → reading_of text stage ≡ now → IsBefore now → (stage ≡ Head) × (now ≡ Before text)
is_head text Head now view before = (refl, sym view)
is_head text (Body decoder fate) now view before = absurd (subst IsBefore (sym view) before)
is_head text Closed now view before = absurd (subst IsBefore (sym view) before)
is_head text Broken now view before = absurd (subst IsBefore (sym view) before)

-- nothing came
pub none_came : (awaited : Option Bool) (now : Reading) (bytes : List ℕ) → length bytes ≡ 0 → IsBeforeFed awaited now bytes 0 Idle now
none_came awaited now (b ∷ bytes) none = absurd (omega (arith, none))
none_came awaited now [] none = by awaited now
  where
    by : (a : Option Bool) (s : Reading) → IsBeforeFed a s [] 0 Idle s
    by None (Before text) = record { tells = refl; uses = refl; leaves = refl }
    by (Some v) (Before text) = record { tells = refl; uses = refl; leaves = refl }
    by a (Within response place) = tt
    by a IsClosed = tt
    by a IsBroken = tt

-- no ask was taken
pub none_awaited : (now : Reading) (bytes : List ℕ) → 0 < length bytes → IsBeforeFed None now bytes (length bytes) Bad IsBroken
none_awaited (Before text) [] some = absurd (omega (arith, some))
none_awaited (Before text) (b ∷ bytes) some = record { tells = refl; uses = refl; leaves = refl }
none_awaited (Within response place) bytes some = tt
none_awaited IsClosed bytes some = tt
none_awaited IsBroken bytes some = tt

-- an ask was
pub one_awaited : (head_request : Bool) (now : Reading) (bytes : List ℕ) (used : ℕ) (step : Step) (left : Reading) → 0 < length bytes
    → IsBeforeTold head_request now bytes used step left → IsBeforeFed (Some head_request) now bytes used step left
one_awaited head_request (Before text) [] used step left some told = absurd (omega (arith, some))
one_awaited head_request (Before text) (b ∷ bytes) used step left some told = told
one_awaited head_request (Within response place) bytes used step left some told = tt
one_awaited head_request IsClosed bytes used step left some told = tt
one_awaited head_request IsBroken bytes used step left some told = tt

-- ---- the three answers

at : (head_request : Bool) (text : List ℕ) (now : Reading) (bytes : List ℕ) (used : ℕ) (step : Step) (left : Reading) → now ≡ Before text
    → IsFrontTold (front_of head_request (text ++ bytes)) bytes used step left → IsBeforeTold head_request now bytes used step left
at head_request text now bytes used step left is told = subst (λ (s : Reading). IsBeforeTold head_request s bytes used step left) (sym is) told

pub told_waiting : (head_request : Bool) (text : List ℕ) (stage : Stage) (now : Reading) (bytes kept : List ℕ) → reading_of text stage ≡ now → IsBefore now
    → IsWaiting head_request text bytes kept → IsBeforeTold head_request now bytes (length bytes) Idle (reading_of kept stage)
told_waiting head_request text stage now bytes kept view before waits =
    let head = is_head text stage now view before in
    at head_request text now bytes (length bytes) Idle (reading_of kept stage) head.1
    (subst (λ f. IsFrontTold f bytes (length bytes) Idle (reading_of kept stage)) (sym waits.front) (record { tells = refl; uses = refl; leaves = ap (reading_of kept) head.0 }))

pub told_refused : (head_request : Bool) (text : List ℕ) (stage : Stage) (now : Reading) (bytes : List ℕ) → reading_of text stage ≡ now → IsBefore now
    → front_of head_request (text ++ bytes) ≡ NoResponse → IsBeforeTold head_request now bytes (length bytes) Bad IsBroken
told_refused head_request text stage now bytes view before front =
    let head = is_head text stage now view before in
    at head_request text now bytes (length bytes) Bad IsBroken head.1
    (subst (λ f. IsFrontTold f bytes (length bytes) Bad IsBroken) (sym front) (record { tells = refl; uses = refl; leaves = refl }))

pub told_opened : (head_request : Bool) (text : List ℕ) (stage : Stage) (now : Reading) (bytes : List ℕ) (used : ℕ) (rule : BodyRule) (fate : Fate) (kept : List ℕ) (place : Place)
    → reading_of text stage ≡ now → IsBefore now → IsOpened head_request text bytes used rule fate kept → place ≡ first_place rule
    → IsBeforeTold head_request now bytes used AtHead (Within (response_in (response_at kept)) place)
told_opened head_request text stage now bytes used rule fate kept place view before opened first =
    let head = is_head text stage now view before in
    let left : Reading = Within (response_in (response_at kept)) place in
    at head_request text now bytes used AtHead left head.1
    (subst (λ f. IsFrontTold f bytes used AtHead left) (sym opened.front) (record {
      tells = refl;
      some = opened.some;
      behind = refl;
      leaves = ap (λ (a : Response). Within a place) (ap response_in opened.head) ∙ ap (Within opened.response) first;
    }))
