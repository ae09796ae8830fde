-- A client is closed, whatever of its seat nobody reads any more.
use Rattle.std.proofs.Common.{◌≡◌, refl, sym, subst, ap, ◌∙◌, ℕ, zero, suc, Bool, true, false, find, List, [], ◌∷◌, Some, None, Option}
use Rattle.std.specs.Prelude.{option_and_then, option_map, slice_get, slice_set}
use Rattle.pp_cache_law.proofs.Numbers.{some_is, true_false}
use Rattle.pp_client.specs.Replies.{is_said}
use Rattle.pp_turns_law.proofs.Leaving.{leaves_client}
use Rattle.pp_turns_law.proofs.Own.{its_number}
use Rattle.pp_turns_law.proofs.Quit.{closing_client, quit, same_client}
use Rattle.pp_turns_law.specs.Clients.{MayBeClosed}
use Rattle.pp_turns_law.specs.Sides.{ShowsSides}
use Rattle.pp_turns_law.specs.Decides.{FollowsWhatIsThere, IsAtPlace}
use Rattle.pp_desk.specs.Closings.{Sides, closed_client}
use Rattle.pp_flow_law.proofs.Entries.{none_some}
use Rattle.pp_flow_law.specs.Tables.{none_leaves}
use Rattle.pp_law.specs.Closing.{close_client}
use Rattle.pp_law.specs.Connections.{is_client}
use Rattle.pp_law.specs.Lists.{Bytes}
use Rattle.pp_law.specs.State.{State, Client}
use Rattle.pp_objects.specs.Instances.{is_there}
use Rattle.pp_objects.specs.declared.id.ObjectId.{ObjectId}
use Rattle.pp_seats.specs.Follows.{answer_in}
use Rattle.pp_seats.specs.declared.seat.Answer.{Answer}
use Rattle.pp_seats.specs.declared.seat.Seat.{Seat}
use Rattle.pp_state.specs.Ends.{source_of}
use Rattle.pp_states_law.proofs.Places.{numbers_set}
use Rattle.pp_turns_law.specs.Turns.{IsFollowing}
use Rattle.pp_endings_law.proofs.Kept.{IsOne, ends_still, find_self, leaves_still, other_here}
use Rattle.pp_endings_law.proofs.Law.{Steps, close_steps}
use Rattle.pp_endings_law.proofs.Left.{IsBeside, IsShut, is_shut, shows_beside, shut_beside, with_seats}
use Rattle.pp_endings_law.proofs.Walk.{IsGood, IsStepped}

quit_number : (o : Option ObjectId) (seat : Seat) → (quit o seat).client.id ≡ seat.client.id
quit_number None seat = refl
quit_number (Some id) seat = refl

-- what it follows is there
pub follows_there : (i : ℕ) (x : Sides) (seat : Seat) → slice_get x.parts.seats i ≡ Some seat → IsFollowing x.parts.cache seat → FollowsWhatIsThere i x.parts
follows_there i x seat here follow id own = by (answer_in seat.stage) refl (sym (ap (λ (o : Option Seat). option_and_then source_of o) here) ∙ own)
  where
    by : (o : Option Answer) → answer_in seat.stage ≡ o → option_and_then (λ (a : Answer). a.source) o ≡ Some id → is_there id x.parts.cache.instances ≡ true
    by None none is = absurd (none_some id is)
    by (Some a) answer is = follow a id answer is

none_said : (f : Client → Client) (o : Option Client) (d : Client) → ((c : Client) → (f c).is_closing ≡ true) → option_map f o ≡ Some d → d.is_closing ≡ true
none_said f None d closes is = absurd (none_some d is)
none_said f (Some c) d closes is = ap (λ (x : Client). x.is_closing) (sym (some_is (f c) d is)) ∙ closes c

module _ (number : ℕ → ℕ) (name : Bytes) (i : ℕ) (is_cut : Bool) (x : Sides) (s : State) (seat : Seat) (c : Client) (good : IsGood number name x s) (place : IsAtPlace i x.parts s seat c) (going : c.is_closing ≡ false) where
  same : c.number ≡ seat.client.id
  same = same_client seat.client.id s c place.there

  may : MayBeClosed i x s seat c
  may = record {
    place = place;
    going = going;
    there = follows_there i x seat place.here (good.may.follow i seat c place going);
    once = good.may.once c.number;
    rests = λ e its none. good.may.rests e.number e (its_number number none_leaves x.parts.flow s good.shows.steps.shows.exchanges c.number e its) none;
  }

  abbrev t : State
  t = close_client c.number is_cut s

  shows : ShowsSides number name (closed_client i x) t
  shows = leaves_client number name x s good.shows i is_cut seat c may

  steps : Steps seat.client.id (closing_client is_cut) s t
  steps =
      subst (λ (n : ℕ). Steps n (closing_client is_cut) s t) same
      (close_steps number none_leaves x.parts.flow c.number is_cut s good.shows.steps.shows.exchanges (good.may.once c.number))

  -- as this seat
  module _ (y : Seat) (beside : IsBeside seat y) where
    abbrev z : Sides
    z = with_seats (slice_set x.parts.seats i (quit (source_of seat) y)) (closed_client i x)

    shut : IsShut i x seat (closed_client i x)
    shut = is_shut i x seat place.here

    now : ShowsSides number name z t
    now = shows_beside number name i x (closed_client i x) t seat y place.here beside shut shows

    one : IsOne i seat (quit (source_of seat) y) x z
    one = record { here = place.here; seats = refl; number = quit_number (source_of seat) y ∙ beside.number; cache = shut.cache }

    closing : (d : Client) → find (is_client seat.client.id) t.clients ≡ Some d → d.is_closing ≡ false → IsFollowing z.parts.cache (quit (source_of seat) y) × (is_said (quit (source_of seat) y).client.reply ≡ false)
    closing d there opens =
        absurd
        (true_false
        (sym
        (none_said (closing_client is_cut) (find (is_client seat.client.id) s.clients) d (λ b. refl)
        (sym (find_self seat.client.id (closing_client is_cut) (λ b. refl) s.clients) ∙ sym (ap (λ (cs : List Client). find (is_client seat.client.id) cs) steps.clients) ∙ there))
        ∙ opens))

    pub closes_beside : IsStepped number name i x (closed_client i (with_seats (slice_set x.parts.seats i y) x)) s t
    closes_beside =
        subst (λ (w : Sides). IsStepped number name i x w s t) (sym (shut_beside i x seat y place.here beside)) (record {
          good = record {
            shows = now;
            may = leaves_still number name i seat (quit (source_of seat) y) x z s t (closing_client is_cut) (λ b. refl) good.shows now one steps closing good.may;
            ends = ends_still number name i seat (quit (source_of seat) y) x z s t (closing_client is_cut) (λ b. refl) good.shows now one steps closing good.ends;
          };
          numbers = numbers_set i x.parts.seats seat (quit (source_of seat) y) place.here (quit_number (source_of seat) y ∙ beside.number);
          others = other_here number name i seat (quit (source_of seat) y) x z s t (closing_client is_cut) (λ b. refl) good.shows now one steps;
          rest = steps.rest;
        })

-- as it is
set_same : (i : ℕ) (seats : List Seat) (seat : Seat) → slice_get seats i ≡ Some seat → slice_set seats i seat ≡ seats
set_same i [] seat there = refl
set_same zero (first ∷ seats) seat there = ap (λ (x : Seat). x ∷ seats) (sym (some_is first seat there))
set_same (suc i) (first ∷ seats) seat there = ap (λ (rest : List Seat). first ∷ rest) (set_same i seats seat there)

pub set_itself : (i : ℕ) (x : Sides) (seat : Seat) → slice_get x.parts.seats i ≡ Some seat → with_seats (slice_set x.parts.seats i seat) x ≡ x
set_itself i x seat here = ap (λ (seats : List Seat). with_seats seats x) (set_same i x.parts.seats seat here)

pub closes : (number : ℕ → ℕ) (name : Bytes) (i : ℕ) (is_cut : Bool) (x : Sides) (s : State) (seat : Seat) (c : Client) → IsGood number name x s → IsAtPlace i x.parts s seat c → c.is_closing ≡ false
    → IsStepped number name i x (closed_client i x) s (close_client c.number is_cut s)
closes number name i is_cut x s seat c good place going =
    subst (λ (w : Sides). IsStepped number name i x (closed_client i w) s (close_client c.number is_cut s)) (set_itself i x seat place.here)
    (closes_beside number name i is_cut x s seat c good place going seat (record { number = refl; source = refl }))
