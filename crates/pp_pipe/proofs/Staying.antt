-- More bytes leave what stands at the front.
use Rattle.std.proofs.Common.{◌≡◌, ℕ, zero, suc, ◌<◌, Bool, true, false, ◌==◌, List, ◌++◌, length, drop, Result, Ok, Err, refl, sym, ap, subst, ◌∙◌, arith}
use Rattle.std.proofs.lemmas.List.{drop-append-le}
use Rattle.pp_framing.specs.Framing.{rule_of}
use Rattle.pp_framing.specs.declared.body.BodyRule.{BodyRule}
use Rattle.pp_framing.specs.declared.framing.ResponseFault.{ResponseFault}
use Rattle.pp_head.proofs.ResponseAgrees.{response_stays, response_within}
use Rattle.pp_head.specs.Limits.{is_limit_reached}
use Rattle.pp_head.specs.Read.{Read, Whole, TooLong, Bad, More, Stays}
use Rattle.pp_head.specs.Response.{Response, response_at}
use Rattle.pp_pipe.proofs.Fronts.{front_final, front_interim, front_is, shorter}
use Rattle.pp_pipe.specs.Front.{Front, Final, Unfinished, NoResponse, by_rule, final_of, front_of, is_interim}

-- the front of all bytes, by that of the first
abbrev pub FrontStays : Bool → Front → List ℕ → Front → Type 0
FrontStays head_request whole more (Final response rule rest) = whole ≡ Final response rule (rest ++ more)
FrontStays head_request whole more (Unfinished text) = whole ≡ front_of head_request (text ++ more)
FrontStays head_request whole more NoResponse = whole ≡ NoResponse

final_stays : (head_request : Bool) (r : Response) (rest more : List ℕ) → FrontStays head_request (final_of head_request r (rest ++ more)) more (final_of head_request r rest)
final_stays head_request r rest more = by (r.status == 101) (rule_of head_request r.status r.fields)
  where
    by : (w : Bool) (p : Result BodyRule ResponseFault)
        → FrontStays head_request (elim w [ true ↦ NoResponse | false ↦ by_rule r (rest ++ more) p ]) more (elim w [ true ↦ NoResponse | false ↦ by_rule r rest p ])
    by true p = refl
    by false (Ok rule) = refl
    by false (Err fault) = refl

no_response : (head_request : Bool) (text : List ℕ) (v : Bool) → response_at text ≡ elim v as (λ _. Read Response) [ true ↦ TooLong | false ↦ Bad ] → front_of head_request text ≡ NoResponse
no_response head_request text true is = front_is head_request text TooLong is
no_response head_request text false is = front_is head_request text Bad is

-- from a front to an equal one
moved : (head_request : Bool) (whole other : Front) (more : List ℕ) (front next : Front) → whole ≡ other → front ≡ next → FrontStays head_request other more next → FrontStays head_request whole more front
moved head_request whole other more front next same is stays =
    subst (λ (f : Front). FrontStays head_request whole more f) (sym is) (subst (λ (w : Front). FrontStays head_request w more next) (sym same) stays)

stays_by : (head_request : Bool) (text more : List ℕ)
    → ((rest : List ℕ) → length rest < length text → FrontStays head_request (front_of head_request (rest ++ more)) more (front_of head_request rest))
    → (a : Read Response) → response_at text ≡ a → Stays response_at text a → FrontStays head_request (front_of head_request (text ++ more)) more (front_of head_request text)
stays_by head_request text more below (Whole r) is stays = by (is_interim r.status) refl
  where
    rest : drop r.length (text ++ more) ≡ drop r.length text ++ more
    rest = drop-append-le r.length text more (response_within text r is).within

    by : (v : Bool) → is_interim r.status ≡ v → FrontStays head_request (front_of head_request (text ++ more)) more (front_of head_request text)
    by true e = moved head_request (front_of head_request (text ++ more)) (front_of head_request (drop r.length text ++ more)) more (front_of head_request text) (front_of head_request (drop r.length text))
        (front_interim head_request (text ++ more) r (stays more) e ∙ ap (front_of head_request) rest) (front_interim head_request text r is e)
        (below (drop r.length text) (shorter text r is))
    by false e = moved head_request (front_of head_request (text ++ more)) (final_of head_request r (drop r.length text ++ more)) more (front_of head_request text) (final_of head_request r (drop r.length text))
        (front_final head_request (text ++ more) r (stays more) e ∙ ap (final_of head_request r) rest) (front_final head_request text r is e)
        (final_stays head_request r (drop r.length text) more)
stays_by head_request text more below TooLong is stays =
    moved head_request (front_of head_request (text ++ more)) NoResponse more (front_of head_request text) NoResponse (no_response head_request (text ++ more) true (stays more)) (no_response head_request text true is) refl
stays_by head_request text more below Bad is stays =
    moved head_request (front_of head_request (text ++ more)) NoResponse more (front_of head_request text) NoResponse
    (no_response head_request (text ++ more) (is_limit_reached (text ++ more)) (stays more)) (no_response head_request text false is) refl
stays_by head_request text more below More is stays =
    moved head_request (front_of head_request (text ++ more)) (front_of head_request (text ++ more)) more (front_of head_request text) (Unfinished text) refl (front_is head_request text More is) refl

within : (most : ℕ) (head_request : Bool) (text more : List ℕ) → length text < most → FrontStays head_request (front_of head_request (text ++ more)) more (front_of head_request text)
within zero head_request text more few = absurd (omega (arith, few))
within (suc most) head_request text more few =
    stays_by head_request text more (λ rest less. within most head_request rest more (omega (arith, less, few))) (response_at text) refl (response_stays text)

pub front_stays : (head_request : Bool) (text more : List ℕ) → FrontStays head_request (front_of head_request (text ++ more)) more (front_of head_request text)
front_stays head_request text more = within (suc (length text)) head_request text more (omega arith)
