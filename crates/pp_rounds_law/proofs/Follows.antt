-- What comes next to each client is of what is there, where each that goes on follows what is.
use Rattle.std.proofs.Common.{◌≡◌, refl, sym, ap, ◌∙◌, subst, ℕ, zero, suc, Bool, true, false, nat_lt, List, [], ◌∷◌, Option, Some, None}
use Rattle.std.specs.Prelude.{IfSome, slice_get}
use Rattle.pp_cache.specs.Memory.{Memory}
use Rattle.pp_cache_law.specs.Tables.{ShowsTable}
use Rattle.pp_client.specs.Replies.{Reply as Said}
use Rattle.pp_turns_law.proofs.Filled.{closed_in_turn}
use Rattle.pp_turns_law.proofs.FollowingOn.{has_source}
use Rattle.pp_law.specs.Lists.{Bytes}
use Rattle.pp_law.specs.State.{State, Client}
use Rattle.pp_objects.specs.Instances.{is_there}
use Rattle.pp_objects.specs.declared.id.ObjectId.{ObjectId}
use Rattle.pp_seats.specs.Follows.{answer_in, at_of, next_at, next_by, next_of}
use Rattle.pp_seats.specs.declared.seat.Answer.{Answer}
use Rattle.pp_seats.specs.declared.seat.Next.{Next}
use Rattle.pp_seats.specs.declared.seat.Seat.{Seat}
use Rattle.pp_seats.specs.declared.seat.Stage.{Stage}
use Rattle.pp_seats_law.specs.Clients.{AreShown}
use Rattle.pp_seats_law.specs.Seats.{ShowsSeat}
use Rattle.pp_state.specs.Ends.{Parts}
use Rattle.pp_turns_law.proofs.Follows.{going_seat, none_some}
use Rattle.pp_turns_law.specs.Turns.{IsFollowing}
use Rattle.pp_turns_law.specs.Unseen.{AreFollowing}
use Rattle.pp_rounds_law.proofs.Carried.{Carries, WasAt}

-- ---- of a seat

at_source : (id : ObjectId) (at to : ℕ) (b : Bool) (n : Next) → (elim b as (λ c. Option Next) [ true ↦ Some (record { source = id; at = at; to = to }) | false ↦ None ]) ≡ Some n → id ≡ n.source
at_source id at to true n is = cc is
at_source id at to false n is = absurd (none_some is)

next_source : (id : ObjectId) (to : ℕ) (at : Option ℕ) (n : Next) → next_at id to at ≡ Some n → id ≡ n.source
next_source id to None n is = absurd (none_some is)
next_source id to (Some at) n is = at_source id at to (nat_lt at to) n is

own_source : (a : Answer) (said : Said) (source : Option ObjectId) (n : Next) → (elim source as (λ c. Option Next) [ None ↦ None | Some id ↦ next_at id a.to (at_of a said) ]) ≡ Some n → source ≡ Some n.source
own_source a said None n is = absurd (none_some is)
own_source a said (Some id) n is = ap (λ (other : ObjectId). Some other) (next_source id a.to (at_of a said) n is)

is_followed : (m : Memory) (stage : Stage) (o : Option Answer) (said : Said) (n : Next) → ((a : Answer) (id : ObjectId) → answer_in stage ≡ Some a → a.source ≡ Some id → is_there id m.instances ≡ true) → answer_in stage ≡ o → next_by o said ≡ Some n → is_there n.source m.instances ≡ true
is_followed m stage None said n follows its is = absurd (none_some is)
is_followed m stage (Some a) said n follows its is = follows a n.source its (own_source a said a.source n is)

next_there : (m : Memory) (seat : Seat) → (seat.is_closing ≡ false → IsFollowing m seat) → IfSome (next_of seat) (λ x. is_there x.source m.instances ≡ true)
next_there m seat follows = by seat.is_closing refl
  where
    Of : Option Next → Type 0
    Of o = IfSome o (λ x. is_there x.source m.instances ≡ true)

    some : seat.is_closing ≡ false → (o : Option Next) → next_by (answer_in seat.stage) seat.client.reply ≡ o → Of o
    some going None is = tt
    some going (Some n) is = is_followed m seat.stage (answer_in seat.stage) seat.client.reply n (follows going) refl is

    by : (b : Bool) → seat.is_closing ≡ b → Of (next_of seat)
    by true closing = subst (λ (o : Option Next). Of o) (sym (closed_in_turn seat closing)) tt
    by false going = subst (λ (o : Option Next). Of o) (sym (going_seat seat going)) (some going (next_by (answer_in seat.stage) seat.client.reply) refl)

-- ---- of all

-- what each that is not closing follows is there
abbrev pub AllFollow : Memory → List Seat → Type 0
AllFollow m seats = (i : ℕ) (seat : Seat) → slice_get seats i ≡ Some seat → seat.is_closing ≡ false → IsFollowing m seat

pub followers : (number : ℕ → ℕ) (name : Bytes) (m : Memory) (s : State) → ShowsTable number m s → (seats : List Seat) (cs : List Client) → AreShown number name [] seats cs → AllFollow m seats → AreFollowing m s seats cs
followers number name m s table [] [] shown follow = tt
followers number name m s table [] (c ∷ cs) shown follow = absurd shown
followers number name m s table (seat ∷ seats) [] shown follow = absurd shown
followers number name m s table (seat ∷ seats) (c ∷ cs) shown follow =
    let seen : ShowsSeat number name [] seat c = shown.0 in (
      next_there m seat (λ going. follow zero seat refl going),
      (λ going. has_source number m s name seat c table seen going (follow zero seat refl (seen.closing ∙ going))),
      followers number name m s table seats cs shown.1 (λ i other at going. follow (suc i) other at going),
    )

pub follow_on : (p q : Parts) → Carries true p q → AllFollow p.cache p.seats → AllFollow q.cache q.seats
follow_on p q carries follow i seat at going a id answer source =
    let was : WasAt p.seats i seat = carries.each i seat at in
    subst (λ (m : Memory). is_there id m.instances ≡ true) (sym carries.memory)
    (follow i was.old was.here (sym was.is.closing ∙ going) a id (ap (λ (u : Stage). answer_in u) (sym was.is.stage) ∙ answer) source)
