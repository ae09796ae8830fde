-- The head that a step of a connection tells was read, within the limits of heads.
use Rattle.std.proofs.Common.{◌≡◌, refl, sym, subst, ap, ◌∙◌, find, length, ℕ, zero, suc, Bool, true, false, ◌==◌, List, [], ◌∷◌, ◌++◌, drop, Option, Some, None, Result, Ok, Err}
use Rattle.std.specs.Prelude.{option_and_then, option_map}
use Rattle.pp_endings_law.proofs.Pipes.{pipe_found}
use Rattle.pp_framing.specs.Framing.{rule_of}
use Rattle.pp_framing.specs.declared.body.BodyRule.{BodyRule}
use Rattle.pp_framing.specs.declared.framing.ResponseFault.{ResponseFault}
use Rattle.pp_framing.specs.declared.place.Place.{Place}
use Rattle.pp_head.proofs.ResponseAgrees.{response_within}
use Rattle.pp_head.specs.Read.{Read, Whole, TooLong, Bad as NoHead, More}
use Rattle.pp_head.specs.Response.{Response, response_at}
use Rattle.pp_origins.specs.Gots.{IsFedTo, head_on}
use Rattle.pp_peers.specs.Peers.{is_number, with_pipe}
use Rattle.pp_peers.specs.declared.peers.Peer.{Peer}
use Rattle.pp_pipe.specs.Answers.{WasRead}
use Rattle.pp_pipe.specs.Asks.{awaited}
use Rattle.pp_pipe.specs.Feeding.{IsBodyFed, IsFed, IsFrontTold, IsHeadFed}
use Rattle.pp_pipe.specs.Front.{Front, Final, NoResponse, Unfinished, by_rule, final_of, front_of, front_within, is_interim}
use Rattle.pp_pipe.specs.Line.{Line, stepped}
use Rattle.pp_pipe.specs.Reading.{Reading, Before, Within, Closed, Broken, head_in}
use Rattle.pp_pipe.specs.declared.step.Step.{Step}
use Rattle.pp_pipe.specs.declared.step.Step.TheVariants.{Head, Body, End, Bad, Idle}

-- ---- at the front of a text

by_rule_is : (r : Response) (rest : List ℕ) (framed : Result BodyRule ResponseFault) (head : Response) (rule : BodyRule) (behind : List ℕ) → by_rule r rest framed ≡ Final head rule behind → r ≡ head
by_rule_is r rest (Ok x) head rule behind is = cc is
by_rule_is r rest (Err fault) head rule behind is = absurd (cc is)

final_is : (asks_head : Bool) (r : Response) (rest : List ℕ) (head : Response) (rule : BodyRule) (behind : List ℕ) → final_of asks_head r rest ≡ Final head rule behind → r ≡ head
final_is asks_head r rest head rule behind is = by (r.status == 101) is
  where
    by : (t : Bool) → elim t as (λ x. Front) [ true ↦ NoResponse | false ↦ by_rule r rest (rule_of asks_head r.status r.fields) ] ≡ Final head rule behind → r ≡ head
    by true is = absurd (cc is)
    by false is = by_rule_is r rest (rule_of asks_head r.status r.fields) head rule behind is

abbrev over_interim : ℕ → Bool → Response → List ℕ → Bool → Front
over_interim most asks_head r text t = elim t as (λ x. Front) [ true ↦ front_within most asks_head (drop r.length text) | false ↦ final_of asks_head r (drop r.length text) ]

abbrev front_by : ℕ → Bool → List ℕ → Read Response → Front
front_by most asks_head text a = elim a as (λ x. Front) [ Whole r ↦ over_interim most asks_head r text (is_interim r.status) | TooLong ↦ NoResponse | NoHead ↦ NoResponse | More ↦ Unfinished text ]

abbrev FrontsAreRead : ℕ → Bool → Type 0
FrontsAreRead most asks_head = (text : List ℕ) (head : Response) (rule : BodyRule) (rest : List ℕ) → front_within most asks_head text ≡ Final head rule rest → WasRead head

-- behind interim heads
next_read : (most : ℕ) (asks_head : Bool) → FrontsAreRead most asks_head → FrontsAreRead (suc most) asks_head
next_read most asks_head others text head rule rest is = by (response_at text) refl is
  where
    by_interim : (r : Response) (t : Bool) → response_at text ≡ Whole r → over_interim most asks_head r text t ≡ Final head rule rest → WasRead head
    by_interim r true there is = others (drop r.length text) head rule rest is
    by_interim r false there is = subst WasRead (final_is asks_head r (drop r.length text) head rule rest is) (text, response_within text r there)

    by : (a : Read Response) → response_at text ≡ a → front_by most asks_head text a ≡ Final head rule rest → WasRead head
    by (Whole r) there is = by_interim r (is_interim r.status) there is
    by TooLong there is = absurd (cc is)
    by NoHead there is = absurd (cc is)
    by More there is = absurd (cc is)

within_read : (most : ℕ) (asks_head : Bool) → FrontsAreRead most asks_head
within_read zero asks_head text head rule rest is = absurd (cc is)
within_read (suc most) asks_head text head rule rest is = next_read most asks_head (within_read most asks_head) text head rule rest is

front_read : (asks_head : Bool) (text : List ℕ) (head : Response) (rule : BodyRule) (rest : List ℕ) → front_of asks_head text ≡ Final head rule rest → WasRead head
unfolding front_of
front_read asks_head text head rule rest is = within_read (suc (length text)) asks_head text head rule rest is

-- ---- by what the step leaves

module _ (used : ℕ) (step : Step) (left : Reading) (tells : step ≡ Head) (head : Response) (there : head_in left ≡ Some head) where
  told_read : (asks_head : Bool) (text bytes : List ℕ) (f : Front) → front_of asks_head text ≡ f → IsFrontTold f bytes used step left → WasRead head
  told_read asks_head text bytes (Final response rule rest) is told =
      let same : response ≡ head = cc (ap head_in told.leaves, there) in
      subst WasRead same (front_read asks_head text response rule rest is)
  told_read asks_head text bytes (Unfinished more) is told = absurd (cc (told.tells, tells))
  told_read asks_head text bytes NoResponse is told = absurd (cc (told.tells, tells))

  text_read : (asks : Option Bool) (text bytes : List ℕ) → IsHeadFed asks text bytes used step left → WasRead head
  text_read None text [] fed = absurd (cc (fed.tells, tells))
  text_read (Some asks_head) text [] fed = absurd (cc (fed.tells, tells))
  text_read None text (b ∷ bytes) fed = absurd (cc (fed.tells, tells))
  text_read (Some asks_head) text (b ∷ bytes) fed = told_read asks_head (text ++ b ∷ bytes) (b ∷ bytes) (front_of asks_head (text ++ b ∷ bytes)) refl fed

  -- within a body no head is told
  body_read : (response : Response) (place : Place) (bytes : List ℕ) → IsBodyFed response place bytes used step left → WasRead head
  body_read response place bytes fed = absurd (subst (λ (s : Step). IsBodyFed response place bytes used s left) tells fed)

  fed_read : (asks : Option Bool) (reading : Reading) (bytes : List ℕ) → IsFed asks reading bytes used step left → WasRead head
  fed_read asks (Before text) bytes fed = text_read asks text bytes fed
  fed_read asks (Within response place) bytes fed = body_read response place bytes fed
  fed_read asks Closed bytes fed = absurd (cc (fed.tells, tells))
  fed_read asks Broken bytes fed = absurd (cc (fed.tells, tells))

-- ---- of the connection

leaves_there : (step : Step) (left : Reading) (line : Line) → (stepped step left line).reading ≡ left
leaves_there Head left line = refl
leaves_there (Body from to) left line = refl
leaves_there End left line = refl
leaves_there Bad left line = refl
leaves_there Idle left line = refl

abbrev head_of : Option Peer → Option Response
head_of o = option_and_then (λ peer. head_in peer.pipe.reading) o

piped_head : (k : ℕ) (line : Line) (peers : List Peer) (head : Response) → head_on k (with_pipe k line peers) ≡ Some head → head_in line.reading ≡ Some head
piped_head k line peers head there = by (find (is_number k) peers) (sym (ap head_of (pipe_found k line peers)) ∙ there)
  where
    by : (o : Option Peer) → head_of (option_map (λ (p : Peer). let q : Peer = record p { pipe = line } in q) o) ≡ Some head → head_in line.reading ≡ Some head
    by None is = absurd (cc is)
    by (Some p) is = is

pub head_was_read : (k : ℕ) (peer : Peer) (bytes : List ℕ) (told : ℕ × Step) (old new : List Peer) (head : Response) → IsFedTo k peer bytes told old new → told.1 ≡ Head → head_on k new ≡ Some head → WasRead head
head_was_read k peer bytes told old new head fed tells there =
    let line : Line = stepped told.1 fed.left peer.pipe in
    let left : head_in fed.left ≡ Some head = sym (ap head_in (leaves_there told.1 fed.left peer.pipe)) ∙ piped_head k line old head (sym (ap (head_on k) fed.leaves) ∙ there) in
    fed_read told.0 told.1 fed.left tells head left (awaited peer.pipe.asks) peer.pipe.reading bytes fed.fed
