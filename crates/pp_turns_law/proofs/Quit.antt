-- A client that is closed follows nothing any more.
use Rattle.std.proofs.Common.{◌≡◌, refl, sym, subst, ap, ◌∙◌, ℕ, Bool, true, ◌||◌, find, List, [], Some, None, Option}
use Rattle.std.specs.Prelude.{option_and_then, slice_get, slice_set}
use Rattle.pp_cache_law.proofs.Finds.{find_passes}
use Rattle.pp_cache_law.proofs.Numbers.{is_same}
use Rattle.pp_turns_law.proofs.Quitting.{client_left, left_memory}
use Rattle.pp_turns_law.proofs.Refused.{followed_as, left_stands}
use Rattle.pp_turns_law.proofs.Sitting.{is_at, leaves_none, on_seat_is, seat_again, shown_at}
use Rattle.pp_flow_law.specs.Tables.{none_leaves}
use Rattle.pp_law.specs.Connections.{is_client, on_client}
use Rattle.pp_law.specs.Lists.{Bytes}
use Rattle.pp_law.specs.State.{State, Client}
use Rattle.pp_law.specs.Table.{swept}
use Rattle.pp_objects.specs.declared.id.ObjectId.{ObjectId}
use Rattle.pp_desk.specs.Closings.{Sides, closing_at}
use Rattle.pp_seats.specs.declared.seat.Seat.{Seat}
use Rattle.pp_seats_law.specs.Clients.{IsAt}
use Rattle.pp_seats_law.specs.Seats.{ShowsOpen, ShowsSeat}
use Rattle.pp_state.specs.Ends.{AreInOrder, Parts, changed_at, left_source, on_seat, source_at, source_of, unfollowed, without_source}
use Rattle.pp_states_law.proofs.Places.{numbers_set}
use Rattle.pp_states_law.proofs.Told.{are_told_on}
use Rattle.pp_states_law.specs.Steps.{ShowsSteps, whole}
use Rattle.pp_states_law.specs.Told.{AreTold}
use Rattle.pp_turns_law.proofs.Shut.{Steps}
use Rattle.pp_turns_law.specs.Clients.{MayBeClosed}

-- ---- the program's

abbrev closing_seat : Seat → Seat
closing_seat seat = record seat { is_closing = true }

abbrev pub quit : Option ObjectId → Seat → Seat
quit None seat = closing_seat seat
quit (Some id) seat = closing_seat (without_source seat)

pub quit_number : (o : Option ObjectId) (seat : Seat) → (quit o seat).client.id ≡ seat.client.id
quit_number None seat = refl
quit_number (Some id) seat = refl

quit_closing : (o : Option ObjectId) (seat : Seat) → (quit o seat).is_closing ≡ true
quit_closing None seat = refl
quit_closing (Some id) seat = refl

pub closing_is : (i : ℕ) (p : Parts) (seat : Seat) (o : Option ObjectId) → slice_get p.seats i ≡ Some seat → source_of seat ≡ o → closing_at i p ≡ record p { seats = slice_set p.seats i (quit o seat); cache = left_memory o p.cache }
closing_is i p seat o here is = by o (ap (λ (x : Option Seat). option_and_then source_of x) here ∙ is)
  where
    by : (o : Option ObjectId) → source_at i p ≡ o → closing_at i p ≡ record p { seats = slice_set p.seats i (quit o seat); cache = left_memory o p.cache }
    by None none = ap (on_seat i closing_seat) (leaves_none i p none) ∙ on_seat_is i closing_seat p seat here
    by (Some id) some =
        let left : left_source i p ≡ record p { seats = slice_set p.seats i (without_source seat); cache = unfollowed id p.cache } =
        ap (λ (x : Option ObjectId). elim x as (λ t. Parts) [ None ↦ p | Some y ↦ record p { seats = changed_at i without_source p.seats; cache = unfollowed y p.cache } ]) some
        ∙ ap (λ (x : Option Seat). let q : Parts = record p { seats = elim x as (λ t. List Seat) [ None ↦ p.seats | Some y ↦ slice_set p.seats i (without_source y) ]; cache = unfollowed id p.cache } in q) here in
        ap (on_seat i closing_seat) left ∙ seat_again i closing_seat (record p { cache = unfollowed id p.cache }) seat (without_source seat) here

-- ---- the law's

abbrev pub closing_client : Bool → Client → Client
closing_client is_cut c = record c { is_closing = true; is_cut = c.is_cut || is_cut }

pub next_swept : (n : ℕ) (f : Client → Client) (s : State) → (swept (on_client n f s)).next_instance ≡ s.next_instance
unfolding on_client swept
next_swept n f s = refl

pub same_client : (n : ℕ) (s : State) (c : Client) → find (is_client n) s.clients ≡ Some c → c.number ≡ n
same_client n s c there = is_same c.number n (find_passes (is_client n) s.clients c there)

pub quits : (number : ℕ → ℕ) (name : Bytes) (x : Sides) (s : State) → Steps number name x s → (i : ℕ) (is_cut : Bool) (seat : Seat) (c : Client) → MayBeClosed i x s seat c
    → ShowsSteps number name none_leaves x.peers (closing_at i x.parts) (swept (on_client c.number (closing_client is_cut) s))
quits number name x s steps i is_cut seat c may =
    let p : Parts = x.parts in
    let n : ℕ = seat.client.id in
    let f : Client → Client = closing_client is_cut in
    let here : slice_get p.seats i ≡ Some seat = may.place.here in
    let at : IsAt n i p.seats = is_at i p.seats seat steps.order here in
    let same : c.number ≡ n = same_client n s c may.place.there in
    let o : Option ObjectId = source_of seat in
    let shown : ShowsSeat number name [] seat c = shown_at number name [] p.seats s.clients n i seat c steps.shows.clients at here may.place.there in
    let live : ShowsOpen number name [] seat c = shown.going may.going in
    subst (λ (q : Parts). ShowsSteps number name none_leaves x.peers q (swept (on_client c.number f s))) (sym (closing_is i p seat o here refl))
    (subst (λ (m : ℕ). ShowsSteps number name none_leaves x.peers (record p { seats = slice_set p.seats i (quit o seat); cache = left_memory o p.cache }) (swept (on_client m f s))) (sym same) (record {
      shows =
          client_left number name [] none_leaves (whole p x.peers) s steps.shows n i (quit o seat) f c o at may.place.there (λ k. refl) (followed_as number name i p seat c here live may.going may.there)
          (λ other d here' there' shows'. record {
            number = quit_number o seat ∙ sym (same_client n s d there');
            closing = quit_closing o seat;
            going = λ goes. absurd cc;
          });
      order = subst (λ (ns : List ℕ). AreInOrder ns) (sym (numbers_set i p.seats seat (quit o seat) here (quit_number o seat))) steps.order;
      told = subst (λ (next : ℕ). AreTold number (left_memory o p.cache) next p.flow) (sym (next_swept n f s))
          (are_told_on number p.cache (left_memory o p.cache) s.next_instance s.next_instance (left_stands o p.cache s.next_instance) p.flow steps.told);
      refused = steps.refused;
    }))
