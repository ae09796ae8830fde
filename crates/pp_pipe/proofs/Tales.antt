-- However the bytes are cut, the steps tell what the joined bytes tell.
use Rattle.std.proofs.Common.{◌≡◌, ℕ, Bool, List, [], ◌∷◌, ◌++◌, length, map, drop, slice_range, Option, Some, None, refl, sym, ap, subst, ◌∙◌, append_assoc, append-nil}
use Rattle.std.proofs.Math.Seq.{drop-length}
use Rattle.std.proofs.lemmas.List.{map-append}
use Rattle.pp_framing.proofs.BodiesExact.{read_from-first_place}
use Rattle.pp_framing.specs.Body.{Body as BodyText, behind}
use Rattle.pp_framing.specs.Places.{first_place, read_from}
use Rattle.pp_framing.specs.declared.place.Place.{Place}
use Rattle.pp_head.specs.Response.{Response}
use Rattle.pp_pipe.proofs.Staying.{FrontStays, front_stays}
use Rattle.pp_pipe.specs.Asks.{awaited}
use Rattle.pp_pipe.specs.Feeding.{IsBodyFed, IsFed, IsFrontTold, IsHeadFed, IsTold}
use Rattle.pp_pipe.specs.Front.{Front, Final, Unfinished, NoResponse, fate_of, front_of}
use Rattle.pp_pipe.specs.Reading.{Reading, Before, Within, Closed, Broken, behind_it}
use Rattle.pp_pipe.specs.Tale.{Event, Began, Byte, Ended, asks_behind, behind_end, body_tale, front_tale, head_tale, outcome_tale, tale, tale_of, told}
use Rattle.pp_pipe.specs.declared.asks.Ask.{Ask}
use Rattle.pp_pipe.specs.declared.fate.Fate.{Fate}
use Rattle.pp_pipe.specs.declared.fate.Fate.TheVariants.{Closes, Stays, Pipelines}
use Rattle.pp_pipe.specs.declared.step.Step.{Step}
use Rattle.pp_pipe.specs.declared.step.Step.TheVariants.{Head, Body, End, Bad, Idle}

-- what is to be shown of a step
abbrev pub Tells : List Ask → Reading → List ℕ → ℕ → Step → Reading → Type 0
Tells asks reading bytes used step left = (more : List ℕ) → tale asks reading (bytes ++ more) ≡ told step left bytes (tale (asks_behind step asks) left (drop used bytes ++ more))

-- ---- heads

by_head : (asks : List Ask) (text bytes : List ℕ) → tale_of asks text bytes ≡ head_tale (awaited asks) (tale_of (drop 1 asks) []) text bytes
by_head [] text [] = refl
by_head [] text (b ∷ bytes) = refl
by_head (ask ∷ asks) text bytes = refl

at_told : (asks : List Ask) (reading : Reading) (bytes : List ℕ) (wanted : Step) (n : ℕ) (is : Reading) (used : ℕ) (step : Step) (left : Reading) → IsTold wanted n is used step left
    → Tells asks reading bytes n wanted is → Tells asks reading bytes used step left
at_told asks reading bytes wanted n is used step left t shown =
    subst (λ (u : ℕ). Tells asks reading bytes u step left) (sym t.uses)
    (subst (λ (l : Reading). Tells asks reading bytes n step l) (sym t.leaves) (subst (λ (s : Step). Tells asks reading bytes n s is) (sym t.tells) shown))

none_more : (bytes more : List ℕ) → drop (length bytes) bytes ++ more ≡ more
none_more bytes more = ap (λ (t : List ℕ). t ++ more) (drop-length bytes)

-- a head that is not whole, with more bytes
waits : (asks : List Ask) (head_request : Bool) (next : List ℕ → List Event) (whole : List ℕ) (kept : List ℕ) → front_of head_request whole ≡ Unfinished kept
    → (more : List ℕ) → front_tale next (front_of head_request (whole ++ more)) ≡ head_tale (Some head_request) next kept more
waits asks head_request next whole kept front [] = ap (λ (t : List ℕ). front_tale next (front_of head_request t)) (append-nil whole) ∙ ap (front_tale next) front
waits asks head_request next whole kept front (m ∷ more) =
    ap (front_tale next) (subst (λ (f : Front). FrontStays head_request (front_of head_request (whole ++ m ∷ more)) (m ∷ more) f) front (front_stays head_request whole (m ∷ more)))

fronts : (asks : List Ask) (head_request : Bool) (text : List ℕ) (b : ℕ) (bytes : List ℕ) (used : ℕ) (step : Step) (left : Reading) → awaited asks ≡ Some head_request
    → (f : Front) → front_of head_request (text ++ b ∷ bytes) ≡ f → IsFrontTold f (b ∷ bytes) used step left → Tells asks (Before text) (b ∷ bytes) used step left
fronts asks head_request text b bytes used step left asked f front fed = by f front fed
  where
    next : List ℕ → List Event
    next = tale_of (drop 1 asks) []

    opened : (more : List ℕ) → tale_of asks text (b ∷ bytes ++ more) ≡ front_tale next (front_of head_request ((text ++ b ∷ bytes) ++ more))
    opened more =
        by_head asks text (b ∷ bytes ++ more) ∙ ap (λ (a : Option Bool). head_tale a next text (b ∷ bytes ++ more)) asked
        ∙ ap (λ (t : List ℕ). front_tale next (front_of head_request t)) (sym (append_assoc text (b ∷ bytes) more))

    stays : (g : Front) → front_of head_request (text ++ b ∷ bytes) ≡ g → (more : List ℕ) → FrontStays head_request (front_of head_request ((text ++ b ∷ bytes) ++ more)) more g
    stays g e more = subst (λ (h : Front). FrontStays head_request (front_of head_request ((text ++ b ∷ bytes) ++ more)) more h) e (front_stays head_request (text ++ b ∷ bytes) more)

    by : (g : Front) → front_of head_request (text ++ b ∷ bytes) ≡ g → IsFrontTold g (b ∷ bytes) used step left → Tells asks (Before text) (b ∷ bytes) used step left
    by (Final r rule rest) e t =
        subst (λ (s : Step). Tells asks (Before text) (b ∷ bytes) used s left) (sym t.tells)
        (subst (λ (l : Reading). Tells asks (Before text) (b ∷ bytes) used Head l) (sym t.leaves)
        (λ more.
        opened more ∙ ap (front_tale next) (stays (Final r rule rest) e more)
        ∙ ap (λ (x : BodyText). Began r ∷ body_tale next (fate_of r) x)
        (sym (read_from-first_place rule (rest ++ more)) ∙ ap (λ (t : List ℕ). read_from (first_place rule) (t ++ more)) (sym t.behind))))
    by (Unfinished kept) e t =
        at_told asks (Before text) (b ∷ bytes) Idle (length (b ∷ bytes)) (Before kept) used step left t
        (λ more.
        opened more ∙ waits asks head_request next (text ++ b ∷ bytes) kept e more
        ∙ ap (λ (a : Option Bool). head_tale a next kept more) (sym asked) ∙ sym (by_head asks kept more)
        ∙ ap (tale_of asks kept) (sym (none_more (b ∷ bytes) more)))
    by NoResponse e t =
        at_told asks (Before text) (b ∷ bytes) Bad (length (b ∷ bytes)) Broken used step left t (λ more. opened more ∙ ap (front_tale next) (stays NoResponse e more))

heads : (asks : List Ask) (text bytes : List ℕ) (used : ℕ) (step : Step) (left : Reading) → (a : Option Bool) → awaited asks ≡ a → IsHeadFed a text bytes used step left
    → Tells asks (Before text) bytes used step left
heads asks text [] used step left None asked fed = at_told asks (Before text) [] Idle 0 (Before text) used step left fed (λ more. refl)
heads asks text [] used step left (Some head_request) asked fed = at_told asks (Before text) [] Idle 0 (Before text) used step left fed (λ more. refl)
heads asks text (b ∷ bytes) used step left None asked fed =
    at_told asks (Before text) (b ∷ bytes) Bad (length (b ∷ bytes)) Broken used step left fed
    (λ more. by_head asks text (b ∷ bytes ++ more) ∙ ap (λ (a : Option Bool). head_tale a (tale_of (drop 1 asks) []) text (b ∷ bytes ++ more)) asked)
heads asks text (b ∷ bytes) used step left (Some head_request) asked fed =
    fronts asks head_request text b bytes used step left asked (front_of head_request (text ++ b ∷ bytes)) refl fed

-- ---- bodies

run_first : (next : List ℕ → List Event) (fate : Fate) (run : List ℕ) (body : BodyText) → body_tale next fate (behind run body) ≡ map Byte run ++ body_tale next fate body
run_first next fate run body =
    ap (λ (es : List Event). es ++ outcome_tale next fate body.outcome) (map-append Byte run body.payload)
    ∙ append_assoc (map Byte run) (map Byte body.payload) (outcome_tale next fate body.outcome)

behind_tale : (asks : List Ask) (fate : Fate) (rest : List ℕ) → behind_end (tale_of asks []) fate rest ≡ tale asks (behind_it fate) rest
behind_tale asks Closes rest = refl
behind_tale asks Stays rest = refl
behind_tale asks Pipelines rest = refl

bodies : (asks : List Ask) (r : Response) (place : Place) (bytes : List ℕ) (used : ℕ) (step : Step) (left : Reading) → IsBodyFed r place bytes used step left
    → Tells asks (Within r place) bytes used step left
bodies asks r place bytes used Head left fed = absurd fed
bodies asks r place bytes used (Body from to) left fed =
    let next : List ℕ → List Event = tale_of (drop 1 asks) [] in
    subst (λ (l : Reading). Tells asks (Within r place) bytes used (Body from to) l) (sym fed.leaves)
    (λ more. ap (body_tale next (fate_of r)) (fed.body.reads more) ∙ run_first next (fate_of r) (slice_range bytes from to) (read_from fed.next (drop used bytes ++ more)))
bodies asks r place bytes used End left fed =
    let next : List ℕ → List Event = tale_of (drop 1 asks) [] in
    subst (λ (l : Reading). Tells asks (Within r place) bytes used End l) (sym fed.leaves)
    (λ more. ap (body_tale next (fate_of r)) (fed.body more) ∙ ap (λ (es : List Event). Ended ∷ es) (behind_tale (drop 1 asks) (fate_of r) (drop used bytes ++ more)))
bodies asks r place bytes used Bad left fed = λ more. ap (body_tale (tale_of (drop 1 asks) []) (fate_of r)) (fed.body more)
bodies asks r place bytes used Idle left fed =
    let next : List ℕ → List Event = tale_of (drop 1 asks) [] in
    subst (λ (l : Reading). Tells asks (Within r place) bytes used Idle l) (sym fed.leaves)
    (λ more. ap (body_tale next (fate_of r)) (fed.body.reads more) ∙ run_first next (fate_of r) [] (read_from fed.next (drop used bytes ++ more)))

-- ---- both

pub tells : (asks : List Ask) (reading : Reading) (bytes : List ℕ) (used : ℕ) (step : Step) (left : Reading) → IsFed (awaited asks) reading bytes used step left
    → Tells asks reading bytes used step left
tells asks (Before text) bytes used step left fed = heads asks text bytes used step left (awaited asks) refl fed
tells asks (Within r place) bytes used step left fed = bodies asks r place bytes used step left fed
tells asks Closed bytes used step left fed = at_told asks Closed bytes Idle (length bytes) Closed used step left fed (λ more. refl)
tells asks Broken bytes used step left fed = at_told asks Broken bytes Bad (length bytes) Broken used step left fed (λ more. refl)
