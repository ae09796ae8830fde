-- Whoever is silent lacks nothing, and what another one asks leaves it as it was.
use Rattle.std.proofs.Common.{◌≡◌, refl, sym, subst, ap, ◌∙◌, ℕ, Bool, true, false, ◌&&◌, not, [], Some, None, Option}
use Rattle.pp_turns_law.specs.Needs.{IsWithin}
use Rattle.pp_cache.specs.Memory.{Memory}
use Rattle.pp_law.specs.Connections.{is_trying}
use Rattle.pp_law.specs.Followers.{fill_for, fill_next}
use Rattle.pp_law.specs.Lists.{Bytes}
use Rattle.pp_law.specs.Stages.{is_undecided}
use Rattle.pp_law.specs.State.{State, Client, Course, Reply, Stage, Undecided, Waiting, Passing, Answering}
use Rattle.pp_law.specs.Table.{Next, next_in, next_of}
use Rattle.pp_seats.specs.Heads.{is_there_in}
use Rattle.pp_seats.specs.Seats.{is_silent, is_undecided_in}
use Rattle.pp_seats.specs.declared.seat.Course.{Course as SeatCourse}
use Rattle.pp_seats.specs.declared.seat.Seat.{Seat}
use Rattle.pp_seats_law.proofs.Stages.{undecided}
use Rattle.pp_seats_law.specs.Fates.{is_refused}
use Rattle.pp_seats_law.specs.Seats.{ShowsOpen, ShowsSeat}
use Rattle.pp_turns_law.proofs.Asleep.{silent_first}
use Rattle.pp_turns_law.proofs.FollowingOn.{going_law}
use Rattle.pp_turns_law.specs.Fills.{MayFollow, MayWant}

-- ---- one that is silent lacks nothing

undecided_is : (t : Stage) → is_undecided t ≡ true → t ≡ Undecided
undecided_is Undecided is = refl
undecided_is Waiting is = absurd (cc is)
undecided_is Passing is = absurd (cc is)
undecided_is (Answering r) is = absurd (cc is)

not_so : (b : Bool) → not b ≡ true → b ≡ false
not_so false is = refl
not_so true is = absurd (cc is)

silent_last : (a b c d : Bool) → (a && b && c && d) ≡ true → d ≡ true
silent_last true true true d is = is
silent_last true true false d is = absurd (cc is)
silent_last true false c d is = absurd (cc is)
silent_last false b c d is = absurd (cc is)

abbrev reply_in : Stage → Option Reply
reply_in t = elim t as (λ b. Option Reply) [ Undecided ↦ None | Waiting ↦ None | Passing ↦ None | Answering r ↦ Some r ]

pub follows_none : (number : ℕ → ℕ) (name : Bytes) (s : State) (seat : Seat) (c : Client) → ShowsSeat number name [] seat c → is_silent seat ≡ true → next_of s c ≡ None
follows_none number name s seat c seen silent =
    going_law s c going ∙ ap (λ (t : Stage). elim (reply_in t) as (λ x. Option Next) [ None ↦ None | Some r ↦ next_in s r ]) stage
  where
    closing : seat.is_closing ≡ false
    closing = not_so seat.is_closing (silent_last (is_undecided_in seat.stage) (not (is_there_in seat.front)) (not seat.has_hung_up) (not seat.is_closing) silent)

    going : c.is_closing ≡ false
    going = sym seen.closing ∙ closing

    live : ShowsOpen number name [] seat c
    live = seen.going going

    stage : c.stage ≡ Undecided
    stage = undecided_is c.stage (sym (undecided number name [] seat c live) ∙ silent_first (is_undecided_in seat.stage) (not (is_there_in seat.front)) (not seat.has_hung_up) (not seat.is_closing) silent)

pub fills_none : (s : State) (c : Client) → next_of s c ≡ None → fill_for c s ≡ s
unfolding fill_for
fills_none s c none =
    ap (λ (o : Option Next). elim (is_trying c.course) as (λ b. State) [ false ↦ s | true ↦ elim o as (λ b. State) [ None ↦ s | Some n ↦ fill_next c n s ] ]) none ∙ by (is_trying c.course)
  where
    by : (b : Bool) → (elim b as (λ x. State) [ false ↦ s | true ↦ s ]) ≡ s
    by true = refl
    by false = refl

-- ---- what stays of the others

pub follow_still : (m : Memory) (s t : State) (seat : Seat) (c : Client) (x : SeatCourse) (y : Course) → MayFollow m s seat c → (is_refused c.course ≡ false → is_refused y ≡ false) → t ≡ record s { clients = t.clients; exchanges = t.exchanges; next_exchange = t.next_exchange }
    → MayFollow m t (record seat { course = x }) (record c { course = y })
follow_still m s t seat c x y follow given rest =
    let u : State = record s { clients = t.clients; exchanges = t.exchanges; next_exchange = t.next_exchange } in
    subst (λ (v : State). MayFollow m v (record seat { course = x }) (record c { course = y })) (sym rest) (still u refl)
  where
    wants_still : MayWant seat c → MayWant (record seat { course = x }) (record c { course = y })
    wants_still want = record { keyed = want.keyed; given = given want.given }

    within_still : (n : Next) → IsWithin s n → IsWithin (record s { clients = t.clients; exchanges = t.exchanges; next_exchange = t.next_exchange }) n
    within_still n within = record { some = within.some; body = within.body; whole = within.whole }

    still : (u : State) → u ≡ record s { clients = t.clients; exchanges = t.exchanges; next_exchange = t.next_exchange } → MayFollow m u (record seat { course = x }) (record c { course = y })
    still u is = subst (λ (v : State). MayFollow m v (record seat { course = x }) (record c { course = y })) (sym is) (record {
      there = follow.there;
      wants = λ next its. wants_still (follow.wants next its);
      within = λ n its. within_still n (follow.within n its);
    })
