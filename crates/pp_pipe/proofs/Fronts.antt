-- What stands at the front of a text, by the one head that is read there.
use Rattle.std.proofs.Common.{◌≡◌, ℕ, zero, suc, ◌<◌, Bool, true, false, ◌==◌, List, [], length, drop, Result, Ok, Err, refl, sym, ap, subst, ◌∙◌, arith}
use Rattle.std.proofs.lemmas.List.{length-drop}
use Rattle.pp_framing.specs.Framing.{rule_of}
use Rattle.pp_framing.specs.declared.body.BodyRule.{BodyRule}
use Rattle.pp_framing.specs.declared.framing.ResponseFault.{ResponseFault}
use Rattle.pp_head.proofs.OnLiterals.{pp_head_on_literals}
use Rattle.pp_head.proofs.ResponseAgrees.{response_within}
use Rattle.pp_head.specs.Read.{Read, Whole, TooLong, Bad, More}
use Rattle.pp_head.specs.Response.{Response, response_at}
use Rattle.pp_pipe.specs.Front.{Front, Final as IsFinal, Unfinished, NoResponse, by_rule, fate_of, final_of, front_of, front_within, is_interim}
use Rattle.pp_pipe.specs.Looks.{found_by, found_of}
use Rattle.pp_pipe.specs.declared.front.Found.{Found}
use Rattle.pp_pipe.specs.declared.front.Found.TheVariants.{More as FoundMore, Other, Interim, Final}

pub none_read : response_at [] ≡ More
unfolding pp_head_on_literals
none_read = refl

-- ---- any number of interim responses that is large enough

abbrev pub over_interim : ℕ → Bool → Response → List ℕ → Bool → Front
over_interim most head_request r text v = elim v [
  | true ↦ front_within most head_request (drop r.length text)
  | false ↦ final_of head_request r (drop r.length text)
]

abbrev pub front_by : ℕ → Bool → List ℕ → Read Response → Front
front_by most head_request text a = elim a [
  | Whole r ↦ over_interim most head_request r text (is_interim r.status)
  | TooLong ↦ NoResponse
  | Bad ↦ NoResponse
  | More ↦ Unfinished text
]

pub shorter : (text : List ℕ) (r : Response) → response_at text ≡ Whole r → length (drop r.length text) < length text
shorter text r is = let w = response_within text r is in omega (arith, length-drop r.length text, w.some, w.within)

same_by : (m n : ℕ) (head_request : Bool) (text : List ℕ)
    → ((r : Response) → response_at text ≡ Whole r → front_within m head_request (drop r.length text) ≡ front_within n head_request (drop r.length text))
    → (a : Read Response) → response_at text ≡ a → front_by m head_request text a ≡ front_by n head_request text a
same_by m n head_request text same (Whole r) is = by (is_interim r.status)
  where
    by : (v : Bool) → over_interim m head_request r text v ≡ over_interim n head_request r text v
    by true = same r is
    by false = refl
same_by m n head_request text same TooLong is = refl
same_by m n head_request text same Bad is = refl
same_by m n head_request text same More is = refl

enough : (m n : ℕ) (head_request : Bool) (text : List ℕ) → length text < m → length text < n → front_within m head_request text ≡ front_within n head_request text
enough zero n head_request text few less = absurd (omega (arith, few))
enough (suc m) zero head_request text few less = absurd (omega (arith, less))
enough (suc m) (suc n) head_request text few less =
    same_by m n head_request text (λ r is. enough m n head_request (drop r.length text) (omega (arith, shorter text r is, few)) (omega (arith, shorter text r is, less)))
    (response_at text) refl

-- ---- by the answer of the one head

pub front_is : (head_request : Bool) (text : List ℕ) (a : Read Response) → response_at text ≡ a → front_of head_request text ≡ front_by (length text) head_request text a
unfolding front_of
front_is head_request text a is = ap (front_by (length text) head_request text) is

pub front_interim : (head_request : Bool) (text : List ℕ) (r : Response) → response_at text ≡ Whole r → is_interim r.status ≡ true → front_of head_request text ≡ front_of head_request (drop r.length text)
unfolding front_of
front_interim head_request text r is interim =
    ap (front_by (length text) head_request text) is ∙ ap (over_interim (length text) head_request r text) interim
    ∙ enough (length text) (suc (length (drop r.length text))) head_request (drop r.length text) (shorter text r is) (omega arith)

pub front_final : (head_request : Bool) (text : List ℕ) (r : Response) → response_at text ≡ Whole r → is_interim r.status ≡ false → front_of head_request text ≡ final_of head_request r (drop r.length text)
front_final head_request text r is final = front_is head_request text (Whole r) is ∙ ap (over_interim (length text) head_request r text) final

-- what was found there
abbrev pub IsLooked : Bool → List ℕ → Found → Type 0
IsLooked head_request text FoundMore = (response_at text ≡ More) × (front_of head_request text ≡ Unfinished text)
IsLooked head_request text Other = front_of head_request text ≡ NoResponse
IsLooked head_request text (Interim len) = (r : Response) × (response_at text ≡ Whole r) × (len ≡ r.length) × (front_of head_request text ≡ front_of head_request (drop len text))
IsLooked head_request text (Final len rule fate) =
    (r : Response) × (response_at text ≡ Whole r) × (len ≡ r.length) × (fate ≡ fate_of r) × (front_of head_request text ≡ IsFinal r rule (drop len text))

abbrev by_status : Bool → Response → Bool → Found
by_status head_request r w = elim w [ true ↦ Other | false ↦ found_by r.length (fate_of r) (rule_of head_request r.status r.fields) ]

abbrev final_by : Bool → Response → List ℕ → Bool → Front
final_by head_request r rest w = elim w [ true ↦ NoResponse | false ↦ by_rule r rest (rule_of head_request r.status r.fields) ]

final_looked : (head_request : Bool) (text : List ℕ) (r : Response) → response_at text ≡ Whole r → front_of head_request text ≡ final_of head_request r (drop r.length text)
    → (w : Bool) → (r.status == 101) ≡ w → IsLooked head_request text (by_status head_request r w)
final_looked head_request text r is front true e = front ∙ ap (final_by head_request r (drop r.length text)) e
final_looked head_request text r is front false e = by (rule_of head_request r.status r.fields) refl
  where
    by : (p : Result BodyRule ResponseFault) → rule_of head_request r.status r.fields ≡ p → IsLooked head_request text (found_by r.length (fate_of r) p)
    by (Ok rule) f = (r, is, refl, refl, front ∙ ap (final_by head_request r (drop r.length text)) e ∙ ap (by_rule r (drop r.length text)) f)
    by (Err fault) f = front ∙ ap (final_by head_request r (drop r.length text)) e ∙ ap (by_rule r (drop r.length text)) f

looked_by : (head_request : Bool) (text : List ℕ) (a : Read Response) → response_at text ≡ a → IsLooked head_request text (found_of head_request a)
looked_by head_request text (Whole r) is = by (is_interim r.status) refl
  where
    by : (v : Bool) → is_interim r.status ≡ v → IsLooked head_request text (elim v [ true ↦ Interim r.length | false ↦ by_status head_request r (r.status == 101) ])
    by true e = (r, is, refl, front_interim head_request text r is e)
    by false e = final_looked head_request text r is (front_final head_request text r is e) (r.status == 101) refl
looked_by head_request text TooLong is = front_is head_request text TooLong is
looked_by head_request text Bad is = front_is head_request text Bad is
looked_by head_request text More is = (is, front_is head_request text More is)

pub looked : (head_request : Bool) (text : List ℕ) (found : Found) → found ≡ found_of head_request (response_at text) → IsLooked head_request text found
looked head_request text found is = subst (IsLooked head_request text) (sym is) (looked_by head_request text (response_at text) refl)
