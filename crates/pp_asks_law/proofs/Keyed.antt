-- What follows a row has a key, and memory was refused for no row that it waits for.
use Rattle.std.proofs.Common.{◌≡◌, ◌⊎◌, refl, sym, subst, ap, ◌∙◌, inl, inr, ℕ, zero, suc, Bool, true, false, List, [], ◌∷◌, Option, Some, None, Result, Ok, Err, is_some}
use Rattle.std.specs.Prelude.{is_ok}
use Rattle.pp_asks_law.proofs.Narrow.{Narrows, WasClient, facts_of}
use Rattle.pp_asks_law.proofs.Wanted.{follows_key}
use Rattle.pp_asks_law.specs.Rests.{NoneIsRefused}
use Rattle.pp_cache_law.proofs.Numbers.{some_is}
use Rattle.pp_client.specs.Replies.{Reply as Said}
use Rattle.pp_law.specs.Requests.{Front, Parsed, NoHeadYet, NoHead, IsRequest, key_in}
use Rattle.pp_law.specs.State.{State, Client, RowRefused, Stage, Term, Undecided, Waiting, Passing, Answering}
use Rattle.pp_laws.proofs.Sound.{source_in}
use Rattle.pp_laws.specs.Runs.{IsIn}
use Rattle.pp_obeys.specs.Obeys.{Obeys}
use Rattle.pp_objects.specs.declared.id.ObjectId.{ObjectId}
use Rattle.pp_seats.specs.Dues.{is_refused_in, refused_in}
use Rattle.pp_seats.specs.Follows.{answer_in, at_of, next_at, next_by, next_of}
use Rattle.pp_seats.specs.Heads.{asked_in, owned_in}
use Rattle.pp_seats.specs.declared.front.Asked.{Asked}
use Rattle.pp_seats.specs.declared.front.Front.{Front as SeatFront}
use Rattle.pp_seats.specs.declared.front.Front.TheVariants.{NoHeadYet as NoneYet, NoHead as NoneThere, Request}
use Rattle.pp_seats.specs.declared.key.Key.{Key as OwnedKey}
use Rattle.pp_seats.specs.declared.seat.Answer.{Answer}
use Rattle.pp_seats.specs.declared.seat.Brought.{Brought}
use Rattle.pp_seats.specs.declared.seat.Brought.TheVariants.{Awaited, Useless, Joins, Passes, TooWide, Refused}
use Rattle.pp_seats.specs.declared.seat.Course.{Course}
use Rattle.pp_seats.specs.declared.seat.Course.TheVariants.{Trying, OutOfTries, AskTooLong}
use Rattle.pp_seats.specs.declared.seat.Next.{Next as SeatNext}
use Rattle.pp_seats.specs.declared.seat.Seat.{Seat}
use Rattle.pp_seats.specs.declared.seat.Stage.{Stage as SeatStage}
use Rattle.pp_seats.specs.declared.seat.Stage.TheVariants.{Undecided as IsUndecided, Waiting as IsWaiting, Passing as IsPassing, Answering as IsAnswering}
use Rattle.pp_seats_law.specs.Clients.{AreShown}
use Rattle.pp_seats_law.specs.Fates.{is_refused}
use Rattle.pp_seats_law.specs.Fronts.{ShowsFront, ShowsKey}
use Rattle.pp_seats_law.specs.Replies.{IsOwed, ShowsFate, ShowsStage, course_of, source_number}
use Rattle.pp_seats_law.specs.Seats.{ShowsSeat}
use Rattle.pp_target.specs.Key.{Key}
use Rattle.pp_target.specs.declared.target.TargetFault.{TargetFault}
use Rattle.pp_world.specs.Log.{Log}

-- ---- a front with a key

ok_key : (r : Parsed) (k : Key) (o : Result Key TargetFault) → r.key ≡ o → (elim o as (λ x. Option Key) [ Ok key ↦ Some key | Err fault ↦ None ]) ≡ Some k → is_ok o ≡ true
ok_key r k (Ok key) is named = refl
ok_key r k (Err fault) is named = absurd (cc named)

keyed_by : (a : Asked) (r : Parsed) (key : Option OwnedKey) (refusal : Option ℕ) → a.key ≡ key → a.refusal ≡ refusal → ShowsKey key refusal r → is_ok r.key ≡ true → (refused_in (Request a) ≡ Some 500 → ⊥) → is_some key ≡ true
keyed_by a r (Some key) refusal keyed refuses shows ok given = refl
keyed_by a r None refusal keyed refuses (inl none) ok given = absurd (let both : true ≡ false = sym ok ∙ none.0 in cc both)
keyed_by a r None (Some n) keyed refuses (inr is) ok given = absurd (given (ap (λ (o : Option ℕ). refused_in (Request (record a { refusal = o }))) refuses ∙ is))
keyed_by a r None None keyed refuses (inr is) ok given = absurd (cc is)

keyed_front : (f : SeatFront) (g : Front) (k : Key) → ShowsFront f g → key_in g ≡ Some k → (refused_in f ≡ Some 500 → ⊥) → is_some (owned_in (asked_in f)) ≡ true
keyed_front NoneYet NoHeadYet k shows named given = absurd (cc named)
keyed_front NoneYet (NoHead status) k shows named given = absurd shows
keyed_front NoneYet (IsRequest r) k shows named given = absurd shows
keyed_front (NoneThere status) NoHeadYet k shows named given = absurd shows
keyed_front (NoneThere status) (NoHead other) k shows named given = absurd (cc named)
keyed_front (NoneThere status) (IsRequest r) k shows named given = absurd shows
keyed_front (Request a) NoHeadYet k shows named given = absurd shows
keyed_front (Request a) (NoHead status) k shows named given = absurd shows
keyed_front (Request a) (IsRequest r) k shows named given = keyed_by a r a.key a.refusal refl refl shows.key (ok_key r k r.key refl named) given

-- ---- a seat whose next byte is one of a row

pub record FollowsIn (seat : Seat) : Type 0 where
  pub going : seat.is_closing ≡ false
  pub answer : Answer
  pub stage : seat.stage ≡ IsAnswering answer
  pub source : ObjectId
  pub is : answer.source ≡ Some source

pub follows_in : (seat : Seat) (x : SeatNext) → next_of seat ≡ Some x → FollowsIn seat
follows_in seat x is = by seat.is_closing refl is
  where
    at_source : (a : Answer) (o : Option ObjectId) → seat.is_closing ≡ false → seat.stage ≡ IsAnswering a → a.source ≡ o → (elim o as (λ y. Option SeatNext) [ None ↦ None | Some id ↦ next_at id a.to (at_of a seat.client.reply) ]) ≡ Some x → FollowsIn seat
    at_source a None going stage source at = absurd (cc at)
    at_source a (Some id) going stage source at = record { going = going; answer = a; stage = stage; source = id; is = source }

    at_stage : (stage : SeatStage) → seat.is_closing ≡ false → seat.stage ≡ stage → next_by (answer_in stage) seat.client.reply ≡ Some x → FollowsIn seat
    at_stage IsUndecided going stage at = absurd (cc at)
    at_stage IsWaiting going stage at = absurd (cc at)
    at_stage IsPassing going stage at = absurd (cc at)
    at_stage (IsAnswering a) going stage at = at_source a a.source going stage refl at

    by : (b : Bool) → seat.is_closing ≡ b → (elim b as (λ y. Option SeatNext) [ true ↦ None | false ↦ next_by (answer_in seat.stage) seat.client.reply ]) ≡ Some x → FollowsIn seat
    by true closing at = absurd (cc at)
    by false going at = at_stage seat.stage going refl at

source_shown : (number : ℕ → ℕ) (said : Said) (a : Answer) (id : ObjectId) (stage : Stage) → ShowsStage number said (IsAnswering a) stage → a.source ≡ Some id → source_in stage ≡ Some (number id.life)
source_shown number said a id Undecided shows is = absurd shows
source_shown number said a id Waiting shows is = absurd shows
source_shown number said a id Passing shows is = absurd shows
source_shown number said a id (Answering r) shows is = sym shows.source ∙ ap (source_number number) is

-- of a client that a seat showed, at the same request and with the same reply
pub keyed : (terms : List Term) (log : Log) (o : State) (number : ℕ → ℕ) (name : List ℕ) (old new : Seat) (d : Client) (x : SeatNext) → Obeys terms o log → ShowsSeat number name [] old d → IsIn d o.clients → (old.is_closing ≡ false → refused_in old.front ≡ Some 500 → ⊥)
    → new.stage ≡ old.stage → new.front ≡ old.front → new.is_closing ≡ old.is_closing → next_of new ≡ Some x → is_some (owned_in (asked_in new.front)) ≡ true
keyed terms log o number name old new d x obeys shows i given stage front closing next =
    let f : FollowsIn new = follows_in new x next in
    let on : old.is_closing ≡ false = sym closing ∙ f.going in
    let amid = shows.going (sym shows.closing ∙ on) in
    let reads = subst (λ (y : SeatStage). ShowsStage number old.client.reply y d.stage) (sym stage ∙ f.stage) amid.stage in
    let key = follows_key terms log o obeys d (number f.source.life) i (source_shown number old.client.reply f.answer f.source d.stage reads f.is) in
    ap (λ (y : SeatFront). is_some (owned_in (asked_in y))) front ∙ keyed_front old.front d.front key.0 amid.front key.1 (given on)

-- ---- memory was refused for no row that a client waits for, where it was for no seat's

not_refused : (course : Course) → is_refused (course_of course) ≡ false
not_refused (Trying n) = refl
not_refused OutOfTries = refl
not_refused AskTooLong = refl

fate_given : (number : ℕ → ℕ) (name : List ℕ) (seat : Seat) (course : Course) (brought : Brought) (c : Client) → ShowsFate number name [] seat.client.reply course brought c → is_refused_in brought ≡ false → is_refused c.course ≡ false
fate_given number name seat course Awaited c fate given = ap is_refused (sym fate.0) ∙ not_refused course
fate_given number name seat course Useless c fate given = ap is_refused (sym fate.0) ∙ not_refused course
fate_given number name seat course (Joins id plain) c fate given = ap is_refused (sym fate.0) ∙ not_refused course
fate_given number name seat course (Passes x) c fate given = ap is_refused (sym fate.0) ∙ not_refused course
fate_given number name seat course TooWide c fate given = ap is_refused (sym fate.0) ∙ not_refused course
fate_given number name seat course Refused c fate given = absurd (cc given)

pub client_given : (number : ℕ → ℕ) (name : List ℕ) (seats : List Seat) (cs : List Client) → AreShown number name [] seats cs → NoneIsRefused seats → (c : Client) → IsIn c cs → c.is_closing ≡ false → is_refused c.course ≡ false
client_given number name [] [] shown given c there going = absurd there
client_given number name [] (d ∷ cs) shown given c there going = absurd shown
client_given number name (seat ∷ seats) [] shown given c there going = absurd there
client_given number name (seat ∷ seats) (d ∷ cs) shown given c (inl same) going =
    let on : d.is_closing ≡ false = ap (λ (x : Client). x.is_closing) (sym same) ∙ going in
    ap (λ (x : Client). is_refused x.course) same ∙ fate_given number name seat seat.course seat.brought d (shown.0.going on).fate (given 0 seat refl (shown.0.closing ∙ on))
client_given number name (seat ∷ seats) (d ∷ cs) shown given c (inr later) going = client_given number name seats cs shown.1 (λ i x at. given (suc i) x at) c later going

-- also where exchanges ended since
pub given_then : (number : ℕ → ℕ) (name : List ℕ) (seats : List Seat) (o s : State) → AreShown number name [] seats o.clients → NoneIsRefused seats → Narrows o s → (c : Client) → IsIn c s.clients → c.is_closing ≡ false → is_refused c.course ≡ false
given_then number name seats o s shown given narrow c i going =
    let was : WasClient o.clients c = (facts_of narrow).clients c i in
    was.is.given (client_given number name seats o.clients shown given was.was was.there (was.is.going going))

-- and where it was for no client's, it was for no seat's that shows them
brought_given : (number : ℕ → ℕ) (name : List ℕ) (seat : Seat) (course : Course) (brought : Brought) (c : Client) → ShowsFate number name [] seat.client.reply course brought c → is_refused c.course ≡ false → is_refused_in brought ≡ false
brought_given number name seat course Awaited c fate given = refl
brought_given number name seat course Useless c fate given = refl
brought_given number name seat course (Joins id plain) c fate given = refl
brought_given number name seat course (Passes x) c fate given = refl
brought_given number name seat course TooWide c fate given = refl
brought_given number name seat course Refused c fate given = by fate.refused
  where
    by : (c.course ≡ RowRefused) ⊎ IsOwed [] c.front → is_refused_in Refused ≡ false
    by (inl is) = absurd (let both : true ≡ false = sym (ap is_refused is) ∙ given in cc both)
    by (inr owed) = absurd (let none : false ≡ true = owed.is_owed in cc none)

pub seats_given : (number : ℕ → ℕ) (name : List ℕ) (seats : List Seat) (cs : List Client) → AreShown number name [] seats cs → ((c : Client) → IsIn c cs → c.is_closing ≡ false → is_refused c.course ≡ false) → NoneIsRefused seats
seats_given number name [] cs shown given i seat at going = absurd (cc at)
seats_given number name (first ∷ seats) [] shown given i seat at going = absurd shown
seats_given number name (first ∷ seats) (d ∷ cs) shown given zero seat at going =
    let same : first ≡ seat = some_is first seat at in
    let on : d.is_closing ≡ false = sym shown.0.closing ∙ ap (λ (x : Seat). x.is_closing) same ∙ going in
    ap (λ (x : Seat). is_refused_in x.brought) (sym same) ∙ brought_given number name first first.course first.brought d (shown.0.going on).fate (given d (inl refl) on)
seats_given number name (first ∷ seats) (d ∷ cs) shown given (suc i) seat at going = seats_given number name seats cs shown.1 (λ c j on. given c (inr j) on) i seat at going
