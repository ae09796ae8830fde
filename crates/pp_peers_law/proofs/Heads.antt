-- The heads that come on a connection.
use Rattle.std.proofs.Common.{◌≡◌, refl, sym, subst, ap, ◌∙◌, ℕ, zero, suc, ◌<◌, ◌≤◌, Bool, true, false, ◌==◌, length, drop, [], ◌∷◌, ◌++◌, Option, Some, None, option_map, Result, Ok, Err, arith}
use Rattle.std.proofs.lemmas.List.{length-drop}
use Rattle.pp_framing.proofs.BodiesExact.{read_from-first_place}
use Rattle.pp_framing.specs.Body.{behind}
use Rattle.pp_framing.specs.Framing.{rule_of}
use Rattle.pp_framing.specs.Places.{first_place, read_from}
use Rattle.pp_framing.specs.declared.body.BodyRule.{BodyRule}
use Rattle.pp_framing.specs.declared.framing.ResponseFault.{ResponseFault}
use Rattle.pp_framing.specs.declared.place.Place.{Place}
use Rattle.pp_framing.specs.declared.place.Place.TheVariants.{Over, Wrong}
use Rattle.pp_head.proofs.OnLiterals.{pp_head_on_literals}
use Rattle.pp_head.proofs.ResponseAgrees.{response_within}
use Rattle.pp_head.specs.Read.{Read, Whole, TooLong, Bad as NoHead, More}
use Rattle.pp_head.specs.Response.{Response, response_at}
use Rattle.pp_law.specs.Connections.{front_of_line}
use Rattle.pp_law.specs.Lists.{Bytes}
use Rattle.pp_law.specs.OwnHeads.{is_wrong_head}
use Rattle.pp_law.specs.Responses.{answer_with, asks_head}
use Rattle.pp_law.specs.State.{Exchange, Answer}
use Rattle.pp_peers_law.proofs.Awaits.{awaits}
use Rattle.pp_peers_law.specs.Comes.{EarlyIsRefused, HeadsAreTheLaws, IsFinalRead, IsHeadRead, IsRuledRead, IsTextRead, past_interim}
use Rattle.pp_peers_law.specs.Peers.{IsWithin, ShowsReading}
use Rattle.pp_pipe.specs.Asks.{awaited}
use Rattle.pp_pipe.specs.Feeding.{IsFed, IsFrontTold}
use Rattle.pp_pipe.specs.Front.{Front, NoResponse, Unfinished, by_rule, final_of, front_of, front_within, is_interim}
use Rattle.pp_pipe.specs.Reading.{Reading, Before, Within, Closed, Broken}
use Rattle.pp_pipe.specs.declared.step.Step.{Step}

-- ---- behind interim heads

abbrev on_from : ℕ → Bytes → Response → Bool → Bytes
on_from most text head interim = elim interim as (λ x. Bytes) [ true ↦ past_interim most (drop head.length text) | false ↦ text ]

abbrev past_by : ℕ → Bytes → Read Response → Bytes
past_by most text a = elim a as (λ x. Bytes) [ Whole head ↦ on_from most text head (is_interim head.status) | TooLong ↦ text | NoHead ↦ text | More ↦ text ]

pub none_read : response_at [] ≡ More
unfolding pp_head_on_literals
none_read = refl

shorter : (text : Bytes) (r : Response) → response_at text ≡ Whole r → length (drop r.length text) < length text
shorter text r is = let w = response_within text r is in omega (arith, length-drop r.length text, w.some, w.within)

nothing_in : (text : Bytes) → length text ≤ 0 → text ≡ []
nothing_in [] none = refl
nothing_in (b ∷ text) none = absurd (omega (arith, none))

one_fewer : (m len n : ℕ) → m < len → len ≤ suc n → m ≤ n
one_fewer m len n less most = grind (arith)

-- the front of a text is that of what no interim head stands before
abbrev front_at : Bool → Bytes → Read Response → Front
front_at head_request text a = elim a as (λ x. Front) [ Whole r ↦ final_of head_request r (drop r.length text) | TooLong ↦ NoResponse | NoHead ↦ NoResponse | More ↦ Unfinished text ]

abbrev over_interim : ℕ → Bool → Response → Bytes → Bool → Front
over_interim most head_request r text v = elim v as (λ x. Front) [ true ↦ front_within most head_request (drop r.length text) | false ↦ final_of head_request r (drop r.length text) ]

abbrev front_by : ℕ → Bool → Bytes → Read Response → Front
front_by most head_request text a = elim a as (λ x. Front) [ Whole r ↦ over_interim most head_request r text (is_interim r.status) | TooLong ↦ NoResponse | NoHead ↦ NoResponse | More ↦ Unfinished text ]

abbrev front_here : Bool → Bytes → Front
front_here head_request text = front_at head_request text (response_at text)

front_past : (head_request : Bool) (n : ℕ) (text : Bytes) → length text ≤ n → front_within (suc n) head_request text ≡ front_here head_request (past_interim n text)
front_past head_request zero text most = by (response_at text) refl
  where
    by : (a : Read Response) → response_at text ≡ a → front_by zero head_request text a ≡ front_at head_request text a
    by (Whole r) is = let no : More ≡ Whole r = sym none_read ∙ ap response_at (sym (nothing_in text most)) ∙ is in absurd (cc no)
    by TooLong is = refl
    by NoHead is = refl
    by More is = refl
front_past head_request (suc n) text most = by (λ t few. front_past head_request n t few) (response_at text) refl
  where
    Again : Type 0
    Again = (t : Bytes) → length t ≤ n → front_within (suc n) head_request t ≡ front_here head_request (past_interim n t)

    by_interim : Again → (r : Response) (t : Bool) → response_at text ≡ Whole r → over_interim (suc n) head_request r text t ≡ front_here head_request (on_from n text r t)
    by_interim again r true is = again (drop r.length text) (one_fewer (length (drop r.length text)) (length text) n (shorter text r is) most)
    by_interim again r false is = ap (front_at head_request text) (sym is)

    by : Again → (a : Read Response) → response_at text ≡ a → front_by (suc n) head_request text a ≡ front_here head_request (past_by n text a)
    by again (Whole r) is = by_interim again r (is_interim r.status) is
    by again TooLong is = ap (front_at head_request text) (sym is)
    by again NoHead is = ap (front_at head_request text) (sym is)
    by again More is = ap (front_at head_request text) (sym is)

fronts : (head_request : Bool) (text : Bytes) → front_of head_request text ≡ front_here head_request (past_interim (length text) text)
unfolding front_of
fronts head_request text = front_past head_request (length text) text (omega arith)

past_final : (n : ℕ) (text : Bytes) → length text ≤ n → (r : Response) → response_at (past_interim n text) ≡ Whole r → is_interim r.status ≡ false
past_final zero text most r is = let no : More ≡ Whole r = sym none_read ∙ ap response_at (sym (nothing_in text most)) ∙ is in absurd (cc no)
past_final (suc n) text most r is = by (λ t few found. past_final n t few r found) (response_at text) refl is
  where
    Again : Type 0
    Again = (t : Bytes) → length t ≤ n → response_at (past_interim n t) ≡ Whole r → is_interim r.status ≡ false

    by_interim : Again → (d : Response) (t : Bool) → response_at text ≡ Whole d → is_interim d.status ≡ t → response_at (on_from n text d t) ≡ Whole r → is_interim r.status ≡ false
    by_interim again d true there interim found = again (drop d.length text) (one_fewer (length (drop d.length text)) (length text) n (shorter text d there) most) found
    by_interim again d false there final found = let same : d ≡ r = cc (there, found) in ap (λ (x : Response). is_interim x.status) (sym same) ∙ final

    by : Again → (a : Read Response) → response_at text ≡ a → response_at (past_by n text a) ≡ Whole r → is_interim r.status ≡ false
    by again (Whole d) there found = by_interim again d (is_interim d.status) there refl found
    by again TooLong there found = absurd (cc (there, found))
    by again NoHead there found = absurd (cc (there, found))
    by again More there found = absurd (cc (there, found))

-- ---- the answer begins

none_yet : (place : Place) → (read_from place []).payload ≡ []
none_yet Over = refl
none_yet Wrong = refl
none_yet place = refl

begins : (e : Exchange) (head : Response) (rule : BodyRule) → IsWithin head (first_place rule) (answer_with e head rule)
begins e head rule = record {
  head = refl;
  goes_on = λ more.
      sym (read_from-first_place rule more)
      ∙ ap (λ (t : Bytes). behind t (read_from (first_place rule) more)) (sym (ap (λ b. b.payload) (sym (read_from-first_place rule [])) ∙ none_yet (first_place rule)));
  kind = refl;
}

shows_begun : (left : Reading) (e : Exchange) (head : Response) (rule : BodyRule) → left ≡ Within head (first_place rule) → ShowsReading left [] (Some (answer_with e head rule))
shows_begun left e head rule is = subst (λ (l : Reading). ShowsReading l [] (Some (answer_with e head rule))) (sym is) (refl, begins e head rule)

-- ---- by the one head at the front

ruled : (e : Exchange) (head : Response) (rest bytes : Bytes) (r : Result BodyRule ResponseFault) (used : ℕ) (step : Step) (left : Reading)
    → IsFrontTold (by_rule head rest r) bytes used step left → IsRuledRead e head rest bytes r used step left
ruled e head rest bytes (Ok rule) used step left told = record { tells = told.tells; some = told.some; follows = told.behind; shows = shows_begun left e head rule told.leaves }
ruled e head rest bytes (Err fault) used step left told = told

abbrev final_by : Bool → Response → Bytes → Bool → Front
final_by head_request r rest t = elim t as (λ x. Front) [ true ↦ NoResponse | false ↦ by_rule r rest (rule_of head_request r.status r.fields) ]

final_read : (e : Exchange) (head : Response) (rest bytes : Bytes) (t : Bool) (used : ℕ) (step : Step) (left : Reading) → (head.status == 101) ≡ t
    → IsFrontTold (final_by (asks_head e) head rest t) bytes used step left → IsFinalRead e head rest bytes t used step left
final_read e head rest bytes true used step left is told = (or_first (head.status == 101) is, told)
  where
    or_first : (a : Bool) → a ≡ true → is_wrong_head e head ≡ true
    or_first a there = cc is
final_read e head rest bytes false used step left is told = ruled e head rest bytes (rule_of (asks_head e) head.status head.fields) used step left told

by_read : (e : Exchange) (text bytes : Bytes) (used : ℕ) (step : Step) (left : Reading) (a : Read Response) → ((r : Response) → a ≡ Whole r → is_interim r.status ≡ false)
    → IsFrontTold (front_at (asks_head e) text a) bytes used step left → IsHeadRead e text bytes a used step left
by_read e text bytes used step left (Whole r) final told = (final r refl, final_read e r (drop r.length text) bytes (r.status == 101) used step left refl told)
by_read e text bytes used step left TooLong final told = told
by_read e text bytes used step left NoHead final told = told
by_read e text bytes used step left More final told = told

-- ---- of the connection

by_text : (e : Exchange) (unread bytes : Bytes) (used : ℕ) (step : Step) (left : Reading) → IsFed (Some (asks_head e)) (Before unread) bytes used step left → IsTextRead e unread bytes used step left
by_text e unread [] used step left fed = fed
by_text e unread (b ∷ bytes) used step left fed =
    let text : Bytes = unread ++ b ∷ bytes in
    let past : Bytes = past_interim (length text) text in
    by_read e past (b ∷ bytes) used step left (response_at past) (λ r is. past_final (length text) text (omega arith) r is)
    (subst (λ (f : Front). IsFrontTold f (b ∷ bytes) used step left) (fronts (asks_head e) text) fed)

pub before : (reading : Reading) (unread : Bytes) (answer : Option Answer) → ShowsReading reading unread answer → answer ≡ None → reading ≡ Before unread
before (Before text) unread None shows none = ap Before shows
before (Before text) unread (Some a) shows none = absurd shows
before (Within response place) unread None shows none = absurd shows
before (Within response place) unread (Some a) shows none = absurd (cc none)
before Closed unread answer shows none = absurd shows
before Broken unread answer shows none = absurd shows

abbrev awaited_by : Option Exchange → Bool → Option Bool
awaited_by o early = elim early as (λ x. Option Bool) [ true ↦ None | false ↦ option_map asks_head o ]

fed_by : (awaits_now wanted : Option Bool) (reading : Reading) (unread bytes : Bytes) (used : ℕ) (step : Step) (left : Reading) → awaits_now ≡ wanted → reading ≡ Before unread
    → IsFed awaits_now reading bytes used step left → IsFed wanted (Before unread) bytes used step left
fed_by awaits_now wanted reading unread bytes used step left asks is fed =
    subst (λ (r : Reading). IsFed wanted r bytes used step left) is (subst (λ (o : Option Bool). IsFed o reading bytes used step left) asks fed)

pub heads : HeadsAreTheLaws
heads s p k e bytes used step left shows is_open none late first fed =
    let asks = awaits s p k shows is_open ∙ ap (awaited_by (front_of_line s k)) late ∙ ap (λ (o : Option Exchange). option_map asks_head o) first in
    let reading = before p.pipe.reading k.unread k.answer (shows.pipe is_open).reading none in
    by_text e k.unread bytes used step left (fed_by (awaited p.pipe.asks) (Some (asks_head e)) p.pipe.reading k.unread bytes used step left asks reading fed)

pub early : EarlyIsRefused
early s p k b bytes used step left shows is_open none late fed =
    let asks = awaits s p k shows is_open ∙ ap (awaited_by (front_of_line s k)) late in
    let reading = before p.pipe.reading k.unread k.answer (shows.pipe is_open).reading none in
    fed_by (awaited p.pipe.asks) None p.pipe.reading k.unread (b ∷ bytes) used step left asks reading fed
