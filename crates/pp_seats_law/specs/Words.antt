-- What is said of a seat is what the law says of its client.
use Rattle.std.specs.Prelude.{◌≡◌, ◌≤◌, ℕ, ◌+◌, true, false, nat_lt, List, Option, Some, None, ⊤}
use Rattle.pp_client.specs.Replies.{Reply as Said, left_next}
use Rattle.pp_law.specs.Due.{is_told}
use Rattle.pp_law.specs.Lists.{Bytes}
use Rattle.pp_law.specs.Replies.{of_body}
use Rattle.pp_law.specs.Requests.{Front}
use Rattle.pp_law.specs.Stages.{is_begun, is_undecided, passed_of, reply_of}
use Rattle.pp_law.specs.State.{State, Client, Instance, Passed, Reply}
use Rattle.pp_law.specs.Table.{Next, instance, next_of}
use Rattle.pp_seats.specs.declared.seat.Answer.{Answer}
use Rattle.pp_seats.specs.declared.seat.Next.{Next as SeatNext}
use Rattle.pp_seats.specs.declared.seat.Passed.{Passed as SeatPassed}
use Rattle.pp_seats.specs.declared.seat.Seat.{Seat}
use Rattle.pp_seats.specs.Courses.{has_begun}
use Rattle.pp_seats.specs.Follows.{answer_in, next_of as seat_next}
use Rattle.pp_seats.specs.Said.{used_by}
use Rattle.pp_seats.specs.Seats.{is_told_in, is_undecided_in, passed_in}
use Rattle.pp_seats_law.specs.Replies.{ShowsAnswer, ShowsPassed}
use Rattle.pp_seats_law.specs.Seats.{ShowsOpen, ShowsSeat}

-- of all seats that show a client
abbrev pub OfOpen : ((ℕ → ℕ) → Bytes → List Bytes → Seat → Client → Type 0) → Type 0
OfOpen P = (number : ℕ → ℕ) (name : Bytes) (owed : List Bytes) (seat : Seat) (c : Client) → ShowsOpen number name owed seat c → P number name owed seat c

-- ---- the reply, and its next byte

-- an instance that a client follows is there
abbrev pub HasSource : State → Client → Type 0
HasSource s c = (r : Reply) (id : ℕ) → reply_of c ≡ Some r → r.source ≡ Some id → (x : Instance) × (instance s id ≡ Some x)

pub record IsSameNext (number : ℕ → ℕ) (x : SeatNext) (n : Next) : Type 0 where
  pub source : number x.source.life ≡ n.source.id
  pub at : x.at ≡ n.at
  pub to : x.to ≡ n.to

abbrev pub ShowsNext : (ℕ → ℕ) → Option SeatNext → Option Next → Type 0
ShowsNext number None None = ⊤
ShowsNext number (Some x) (Some n) = IsSameNext number x n
ShowsNext number x n = ⊥

abbrev pub NextsAreTheLaws : Type 0
NextsAreTheLaws = (number : ℕ → ℕ) (s : State) (name : Bytes) (owed : List Bytes) (seat : Seat) (c : Client) → ShowsSeat number name owed seat c → (c.is_closing ≡ false → HasSource s c) → ShowsNext number (seat_next seat) (next_of s c)

abbrev pub ShowsReply : (ℕ → ℕ) → Said → Option Answer → Option Reply → Type 0
ShowsReply number said None None = ⊤
ShowsReply number said (Some a) (Some r) = ShowsAnswer number said a r
ShowsReply number said a r = ⊥

abbrev pub RepliesAreTheLaws : Type 0
RepliesAreTheLaws = OfOpen (λ number name owed seat c. ShowsReply number seat.client.reply (answer_in seat.stage) (reply_of c))

abbrev pub BegunIsTheLaws : Type 0
BegunIsTheLaws = OfOpen (λ number name owed seat c. has_begun seat ≡ is_begun c)

-- ---- where its request is

abbrev pub UndecidedIsTheLaws : Type 0
UndecidedIsTheLaws = OfOpen (λ number name owed seat c. is_undecided_in seat.stage ≡ is_undecided c.stage)

-- the head of its exchange's response came
abbrev pub ToldIsTheLaws : Type 0
ToldIsTheLaws = OfOpen (λ number name owed seat c. is_told_in seat.brought ≡ is_told c.brought)

-- the response that its exchange passes to it
abbrev pub ShowsMaybePassed : Bytes → Said → Front → Option SeatPassed → Option Passed → Type 0
ShowsMaybePassed name said front None None = ⊤
ShowsMaybePassed name said front (Some x) (Some p) = ShowsPassed name said front x p
ShowsMaybePassed name said front x p = ⊥

abbrev pub PassedIsTheLaws : Type 0
PassedIsTheLaws = OfOpen (λ number name owed seat c. ShowsMaybePassed name seat.client.reply c.front (passed_in seat.brought) (passed_of c))

-- ---- what is said

-- of the next so many bytes that are said, those of the instance that it follows: from its next byte on, as many as of the body
abbrev pub ShowsUsed : (ℕ → ℕ) → ℕ → Option SeatNext → Option Next → Type 0
ShowsUsed number n None None = ⊤
ShowsUsed number n (Some x) (Some next) = (number x.source.life ≡ next.source.id) × (x.at ≡ next.at) × (x.to ≡ next.at + n)
ShowsUsed number n x next = ⊥

abbrev pub used_of : ℕ → State → Client → Option Next
used_of n s c = elim (nat_lt 0 (of_body n c)) [ true ↦ next_of s c | false ↦ None ]

abbrev pub UsesAreTheLaws : Type 0
UsesAreTheLaws = (number : ℕ → ℕ) (n : ℕ) (s : State) (name : Bytes) (owed : List Bytes) (seat : Seat) (c : Client) → ShowsSeat number name owed seat c → c.is_closing ≡ false → HasSource s c → n ≤ left_next seat.client.reply
    → ShowsUsed number (of_body n c) (used_by n seat) (used_of n s c)
