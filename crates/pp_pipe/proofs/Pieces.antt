-- A head in pieces is read as the joined bytes are.
use Rattle.std.proofs.Common.{◌≡◌, ℕ, ◌+◌, ◌-◌, ◌<◌, ◌≤◌, ◌⊎◌, inl, inr, Bool, min, List, [], ◌++◌, length, take, drop, refl, sym, ap, subst, ◌∙◌, arith, append_assoc, length-append}
use Rattle.std.proofs.Math.Seq.{drop-append-add}
use Rattle.std.proofs.lemmas.Bool.{cases_lt}
use Rattle.std.proofs.lemmas.List.{drop-drop, length-take-le, take-append-drop, take-append-le, take_all}
use Rattle.pp_framing.specs.declared.body.BodyRule.{BodyRule}
use Rattle.pp_head.proofs.ResponseAgrees.{response_cut, response_holds, response_stays, response_within}
use Rattle.pp_head.specs.Agreement.{IsResponseRead}
use Rattle.pp_head.specs.Limits.{max_bytes}
use Rattle.pp_head.specs.Read.{Read, Whole, TooLong, Bad, More, Stays}
use Rattle.pp_head.specs.Response.{Response, response_at}
use Rattle.pp_pipe.proofs.Fronts.{IsLooked, looked, none_read}
use Rattle.pp_pipe.specs.Answers.{IsOpened, IsPassedOver, IsWaiting, piece}
use Rattle.pp_pipe.specs.Front.{Final as IsFinal, NoResponse, Unfinished, front_of}
use Rattle.pp_pipe.specs.Looks.{found_of}
use Rattle.pp_pipe.specs.declared.fate.Fate.{Fate}
use Rattle.pp_pipe.specs.declared.front.Found.{Found}
use Rattle.pp_pipe.specs.declared.front.Found.TheVariants.{More as FoundMore, Other, Interim, Final}

-- a head that was not whole ends behind its bytes
pub further : (text bytes : List ℕ) (r : Response) → response_at text ≡ More → response_at (text ++ bytes) ≡ Whole r → length text < r.length
further text bytes r more whole = by (cases_lt (length text) r.length)
  where
    by : (length text < r.length) ⊎ (r.length ≤ length text) → length text < r.length
    by (inl less) = less
    by (inr within) =
        let front : response_at (take r.length text) ≡ Whole r = ap response_at (sym (take-append-le r.length text bytes within)) ∙ (response_cut (text ++ bytes) r whole).enough in
        let stays : Stays response_at (take r.length text) (Whole r) = subst (Stays response_at (take r.length text)) front (response_stays (take r.length text)) in
        let again : response_at text ≡ Whole r = ap response_at (sym (take-append-drop r.length text)) ∙ stays (drop r.length text) in
        absurd (cc (more, again))

-- bytes behind as many as a head may have change nothing
at_limit : (text rest : List ℕ) → max_bytes ≤ length text → response_at text ≡ response_at (text ++ rest)
at_limit text rest reached = by (response_at text) refl (response_stays text) (response_holds text)
  where
    by : (a : Read Response) → response_at text ≡ a → Stays response_at text a → IsResponseRead text a → response_at text ≡ response_at (text ++ rest)
    by (Whole r) is stays holds = is ∙ sym (stays rest)
    by TooLong is stays holds = is ∙ sym (stays rest)
    by Bad is stays holds = absurd (holds.0 (inl reached))
    by More is stays holds = absurd (holds.0 (inl reached))

fits : (text bytes : List ℕ) → length bytes ≤ max_bytes - length text → piece text bytes ≡ bytes
fits text bytes within = take_all (min (length bytes) (max_bytes - length text)) bytes (omega (arith, within))

full : (text bytes : List ℕ) → length text ≤ max_bytes → max_bytes - length text < length bytes → length (text ++ piece text bytes) ≡ max_bytes
full text bytes short past =
    let n : ℕ = min (length bytes) (max_bytes - length text) in
    let some : length (take n bytes) ≡ n = length-take-le n bytes (omega arith) in
    omega (arith, length-append text (take n bytes), some, short, past)

joined : (text bytes : List ℕ) → (text ++ piece text bytes) ++ drop (min (length bytes) (max_bytes - length text)) bytes ≡ text ++ bytes
joined text bytes =
    let n : ℕ = min (length bytes) (max_bytes - length text) in
    append_assoc text (take n bytes) (drop n bytes) ∙ ap (λ (t : List ℕ). text ++ t) (take-append-drop n bytes)

pub capped : (text bytes : List ℕ) → length text ≤ max_bytes → response_at (text ++ piece text bytes) ≡ response_at (text ++ bytes)
capped text bytes short = by (cases_lt (max_bytes - length text) (length bytes))
  where
    by : (max_bytes - length text < length bytes) ⊎ (length bytes ≤ max_bytes - length text) → response_at (text ++ piece text bytes) ≡ response_at (text ++ bytes)
    by (inl past) =
        at_limit (text ++ piece text bytes) (drop (min (length bytes) (max_bytes - length text)) bytes) (omega (arith, full text bytes short past))
        ∙ ap response_at (joined text bytes)
    by (inr within) = ap (λ (t : List ℕ). response_at (text ++ t)) (fits text bytes within)

-- all of it was taken where the head is not whole
whole_piece : (text bytes : List ℕ) → length text ≤ max_bytes → response_at (text ++ piece text bytes) ≡ More → text ++ piece text bytes ≡ text ++ bytes
whole_piece text bytes short more = by (cases_lt (max_bytes - length text) (length bytes))
  where
    by : (max_bytes - length text < length bytes) ⊎ (length bytes ≤ max_bytes - length text) → text ++ piece text bytes ≡ text ++ bytes
    by (inl past) =
        let holds : IsResponseRead (text ++ piece text bytes) More = subst (IsResponseRead (text ++ piece text bytes)) more (response_holds (text ++ piece text bytes)) in
        absurd (holds.0 (inl (omega (arith, full text bytes short past))))
    by (inr within) = ap (λ (t : List ℕ). text ++ t) (fits text bytes within)

behind_both : (text bytes : List ℕ) (len : ℕ) → length text < len → drop len (text ++ bytes) ≡ drop (len - length text) bytes
behind_both text bytes len less =
    ap (λ (n : ℕ). drop n (text ++ bytes)) (let e : len ≡ length text + (len - length text) = omega (arith, less) in e) ∙ drop-append-add text bytes (len - length text)

-- ---- what one look at the piece finds

looked_piece : (head_request : Bool) (text bytes : List ℕ) (found : Found) → length text ≤ max_bytes → found ≡ found_of head_request (response_at (text ++ piece text bytes))
    → IsLooked head_request (text ++ bytes) found
looked_piece head_request text bytes found short is = looked head_request (text ++ bytes) found (is ∙ ap (found_of head_request) (capped text bytes short))

pub waiting : (head_request : Bool) (text bytes : List ℕ) → length text ≤ max_bytes → FoundMore ≡ found_of head_request (response_at (text ++ piece text bytes))
    → IsWaiting head_request text bytes (text ++ piece text bytes)
waiting head_request text bytes short is =
    let l = looked_piece head_request text bytes FoundMore short is in
    let more : response_at (text ++ piece text bytes) ≡ More = capped text bytes short ∙ l.0 in
    let same : text ++ piece text bytes ≡ text ++ bytes = whole_piece text bytes short more in
    record { front = l.1 ∙ ap Unfinished (sym same); head = more }

pub no_response : (head_request : Bool) (text bytes : List ℕ) → length text ≤ max_bytes → Other ≡ found_of head_request (response_at (text ++ piece text bytes))
    → front_of head_request (text ++ bytes) ≡ NoResponse
no_response head_request text bytes short is = looked_piece head_request text bytes Other short is

pub interim_past : (head_request : Bool) (text bytes : List ℕ) (len : ℕ) → length text ≤ max_bytes → response_at text ≡ More
    → Interim len ≡ found_of head_request (response_at (text ++ piece text bytes)) → length text < len
interim_past head_request text bytes len short more is =
    let l = looked_piece head_request text bytes (Interim len) short is in
    omega (arith, further text bytes l.0 more l.1, l.2)

pub final_past : (head_request : Bool) (text bytes : List ℕ) (len : ℕ) (rule : BodyRule) (fate : Fate) → length text ≤ max_bytes → response_at text ≡ More
    → Final len rule fate ≡ found_of head_request (response_at (text ++ piece text bytes)) → length text < len
final_past head_request text bytes len rule fate short more is =
    let l = looked_piece head_request text bytes (Final len rule fate) short is in
    omega (arith, further text bytes l.0 more l.1, l.2)

pub passed_over : (head_request : Bool) (text bytes : List ℕ) (len : ℕ) → length text ≤ max_bytes → response_at text ≡ More
    → Interim len ≡ found_of head_request (response_at (text ++ piece text bytes)) → IsPassedOver head_request text bytes (len - length text) []
passed_over head_request text bytes len short more is =
    let l = looked_piece head_request text bytes (Interim len) short is in
    let past : length text < len = interim_past head_request text bytes len short more is in
    let w = response_within (text ++ bytes) l.0 l.1 in
    record {
      front = l.3 ∙ ap (front_of head_request) (behind_both text bytes len past);
      some = omega (arith, past);
      within = omega (arith, past, l.2, w.within, length-append text bytes);
      none = refl;
    }

pub opened : (head_request : Bool) (text bytes : List ℕ) (len : ℕ) (rule : BodyRule) (fate : Fate) → length text ≤ max_bytes → response_at text ≡ More
    → Final len rule fate ≡ found_of head_request (response_at (text ++ piece text bytes))
    → IsOpened head_request text bytes (len - length text) rule fate (take len (text ++ piece text bytes))
opened head_request text bytes len rule fate short more is =
    let l = looked_piece head_request text bytes (Final len rule fate) short is in
    let past : length text < len = final_past head_request text bytes len rule fate short more is in
    let w = response_within (text ++ bytes) l.0 l.1 in
    record {
      response = l.0;
      front = l.4 ∙ ap (IsFinal l.0 rule) (behind_both text bytes len past);
      some = omega (arith, past);
      within = omega (arith, past, l.2, w.within, length-append text bytes);
      head = ap (λ (n : ℕ). response_at (take n (text ++ piece text bytes))) l.2
          ∙ (response_cut (text ++ piece text bytes) l.0 (capped text bytes short ∙ l.1)).enough;
      follows = l.3;
    }

-- ---- and so one after the other

pub read_over : (head_request : Bool) (start text bytes : List ℕ) (used n : ℕ) (kept : List ℕ) → front_of head_request (start ++ bytes) ≡ front_of head_request (text ++ drop used bytes)
    → IsPassedOver head_request text (drop used bytes) n kept
    → (response_at kept ≡ More) × (front_of head_request (start ++ bytes) ≡ front_of head_request (kept ++ drop (used + n) bytes))
read_over head_request start text bytes used n kept before passed = (
  ap response_at passed.none ∙ none_read,
  before ∙ passed.front ∙ ap (front_of head_request) (drop-drop n used bytes ∙ sym (ap (λ (t : List ℕ). t ++ drop (used + n) bytes) passed.none)),
)
