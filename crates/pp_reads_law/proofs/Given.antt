-- Each life that was given has its number, and stays given, where another is.
use Rattle.std.proofs.Common.{◌≡◌, ◌<◌, refl, subst, ap, ◌∙◌, ℕ, zero, suc, ◌+◌, Bool, false, ◌==◌, cond, filter, List, [], ◌∷◌, Some, None, Option, arith}
use Rattle.std.proofs.lemmas.Bool.Decides.{nat_tests}
use Rattle.pp_answers_law.specs.Making.{AreGivenSeats, IsGiven, IsGivenBrought, IsGivenSeat, IsGivenSource}
use Rattle.pp_cache.specs.Memory.{Memory}
use Rattle.pp_cache_law.proofs.Numbers.{some_is}
use Rattle.pp_cache_law.specs.Pairs.{AreAll, AreBoth}
use Rattle.pp_cache_law.specs.Settles.{numbered}
use Rattle.pp_flow.specs.Changes.{Exchanges, entry_of}
use Rattle.pp_flow.specs.Entries.{Span}
use Rattle.pp_flow.specs.declared.entry.Entry.{Entry}
use Rattle.pp_flow_law.specs.Tables.{Leaving, ShowsFlow, has_none}
use Rattle.pp_law.specs.Connections.{exchange}
use Rattle.pp_law.specs.State.{State, Exchange}
use Rattle.pp_objects.specs.declared.id.ObjectId.{ObjectId}
use Rattle.pp_seats.specs.Follows.{answer_in}
use Rattle.pp_seats.specs.declared.seat.Answer.{Answer}
use Rattle.pp_seats.specs.declared.seat.Brought.{Brought}
use Rattle.pp_seats.specs.declared.seat.Brought.TheVariants.{Awaited, Joins, Passes, Refused, TooWide, Useless}
use Rattle.pp_seats.specs.declared.seat.Seat.{Seat}
use Rattle.pp_seats.specs.declared.seat.Stage.{Stage}
use Rattle.pp_seats.specs.declared.seat.Stage.TheVariants.{Answering, Passing, Undecided, Waiting}
use Rattle.pp_seats_law.specs.Exchanges.{Binding, ShowsExchange}
use Rattle.pp_states_law.proofs.Told.{told_of}
use Rattle.pp_states_law.specs.Told.{AreTold, EachIsTold, IsTold, IsToldBy}
use Rattle.pp_turns_law.proofs.Numbered.{AreGivenLives, AreSame, exchange_as}

-- ---- one more

id_more : (n : ℕ) (o : Option ObjectId) → IsGiven n o → IsGiven (n + 1) o
id_more n None given = tt
id_more n (Some id) given = omega (arith, given)

source_more : (n : ℕ) (stage : Stage) → IsGivenSource n stage → IsGivenSource (n + 1) stage
source_more n Undecided given = tt
source_more n Waiting given = tt
source_more n Passing given = tt
source_more n (Answering a) given = id_more n a.source given

brought_more : (n : ℕ) (brought : Brought) → IsGivenBrought n brought → IsGivenBrought (n + 1) brought
brought_more n Awaited given = tt
brought_more n Useless given = tt
brought_more n (Joins id plain) given = omega (arith, given)
brought_more n (Passes x) given = tt
brought_more n TooWide given = tt
brought_more n Refused given = tt

pub given_more : (n : ℕ) (seats : List Seat) → AreGivenSeats n seats → AreGivenSeats (n + 1) seats
given_more n [] given = tt
given_more n (seat ∷ seats) given = (
  record { source = source_more n seat.stage given.0.source; brought = brought_more n seat.brought given.0.brought },
  given_more n seats given.1,
)

-- ---- by the place of each client

its_source : (n : ℕ) (stage : Stage) (a : Answer) (id : ObjectId) → IsGivenSource n stage → answer_in stage ≡ Some a → a.source ≡ Some id → id.life < n
its_source n Undecided a id given answers own = absurd (cc answers)
its_source n Waiting a id given answers own = absurd (cc answers)
its_source n Passing a id given answers own = absurd (cc answers)
its_source n (Answering b) a id given answers own = subst (λ (o : Option ObjectId). IsGiven n o) (ap (λ (x : Answer). x.source) (some_is b a answers) ∙ own) given

pub given_lives : (n : ℕ) (seats : List Seat) → AreGivenSeats n seats → AreGivenLives n seats
given_lives n [] given i seat at going = absurd (cc at)
given_lives n (s ∷ seats) given zero seat at going =
    let one : IsGivenSeat n seat = subst (λ (x : Seat). IsGivenSeat n x) (some_is s seat at) given.0 in
    record { source = λ a id answers own. its_source n seat.stage a id one.source answers own; joined = λ id plain is. subst (λ (b : Brought). IsGivenBrought n b) is one.brought }
given_lives n (s ∷ seats) given (suc i) seat at going = given_lives n seats given.1 i seat at going

-- ---- numbers

isnt : (a b : ℕ) → a < b → (a == b) ≡ false
isnt a b less = grind (arith, nat_tests, less)

pub same_numbers : (lives next : ℕ) (number : ℕ → ℕ) → AreSame lives number (numbered lives next number)
same_numbers lives next number life less = ap (λ (b : Bool). cond b next (number life)) (isnt life lives less)

-- ---- exchanges

life_of : (number : ℕ → ℕ) (m : Memory) (next : ℕ) (o : Option Span) (b : Binding) → IsToldBy number m next o → o ≡ Some b → b.0.life < m.lives
life_of number m next o b told is = let one : IsTold number m next b.0 = subst (λ (u : Option Span). IsToldBy number m next u) is told in one.given

both_as : (number other : ℕ → ℕ) (m : Memory) (next : ℕ) (x : Option Entry) (e : Option Exchange) → AreSame m.lives number other → ((y : Entry) → x ≡ Some y → IsToldBy number m next y.exchange.bound) → AreBoth (ShowsExchange number) x e → AreBoth (ShowsExchange other) x e
both_as number other m next None None same told both = tt
both_as number other m next (Some x) (Some e) same told both = exchange_as m.lives number other x e same (λ b is. life_of number m next x.exchange.bound b (told x refl) is) both
both_as number other m next None (Some e) same told both = absurd both
both_as number other m next (Some x) None same told both = absurd both

waiting_as : (number other : ℕ → ℕ) (m : Memory) (next : ℕ) (xs : List Entry) (es : List Exchange) → AreSame m.lives number other → EachIsTold number m next xs → AreAll (ShowsExchange number) xs es → AreAll (ShowsExchange other) xs es
waiting_as number other m next [] [] same told all = tt
waiting_as number other m next [] (e ∷ es) same told all = absurd all
waiting_as number other m next (x ∷ xs) [] same told all = absurd all
waiting_as number other m next (x ∷ xs) (e ∷ es) same told all =
    (exchange_as m.lives number other x e same (λ b is. life_of number m next x.exchange.bound b told.0 is) all.0, waiting_as number other m next xs es same told.1 all.1)

pub flow_as : (number other : ℕ → ℕ) (m : Memory) (next : ℕ) (l : Leaving) (f : Exchanges) (s : State) → AreSame m.lives number other → AreTold number m next f → ShowsFlow number l f s → ShowsFlow other l f s
flow_as number other m next l f s same told shows = record {
  each = λ n. both_as number other m next (entry_of n f) (exchange s n) same (λ x there. told_of number m next n f x told there) (shows.each n);
  waiting = waiting_as number other m next f.waiting (filter has_none s.exchanges) same told.waiting shows.waiting;
  lines = shows.lines;
  once = shows.once;
  begun = shows.begun;
  given = shows.given;
}
