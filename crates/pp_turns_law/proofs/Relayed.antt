-- A response that is passed is the reply, and its client follows nothing any more.
use Rattle.std.proofs.Common.{◌≡◌, refl, sym, subst, ap, ◌∙◌, ℕ, Bool, true, false, ◌&&◌, not, find, List, [], Some, None, Option}
use Rattle.std.specs.Prelude.{slice_get, slice_set}
use Rattle.pp_cache_law.proofs.Finds.{find_passes}
use Rattle.pp_cache_law.proofs.Numbers.{is_same, some_is}
use Rattle.pp_law.specs.Connections.{is_client, on_client}
use Rattle.pp_law.specs.Deciding.{answering_with, relay, reply_by}
use Rattle.pp_law.specs.State.{State, Client}
use Rattle.pp_law.specs.Table.{swept}
use Rattle.pp_objects.specs.declared.id.ObjectId.{ObjectId}
use Rattle.pp_seats.specs.Decided.{answering, with_interim}
use Rattle.pp_seats.specs.declared.seat.Seat.{Seat}
use Rattle.pp_seats_law.proofs.Decided.{answers}
use Rattle.pp_seats_law.specs.Clients.{IsAt}
use Rattle.pp_seats_law.specs.Seats.{ShowsOpen, ShowsSeat}
use Rattle.pp_world.specs.declared.note.Decision.{Decision}
use Rattle.pp_world.specs.declared.note.Decision.TheVariants.{Relay}
use Rattle.pp_take.specs.Deciding.{answered_at, relayed}
use Rattle.pp_state.specs.Ends.{AreInOrder, Parts, on_seat, source_of}
use Rattle.pp_states_law.proofs.Places.{numbers_set}
use Rattle.pp_states_law.proofs.Told.{are_told_on}
use Rattle.pp_states_law.specs.Steps.{ShowsSteps, whole}
use Rattle.pp_states_law.specs.Told.{AreTold}
use Rattle.pp_turns_law.proofs.Quitting.{client_left, left_memory}
use Rattle.pp_turns_law.proofs.Refused.{followed_as, left_stands, quit, quit_is}
use Rattle.pp_turns_law.proofs.Sitting.{interim_number, is_at, seat_again, shown_at}
use Rattle.pp_turns_law.specs.Decides.{IsDecided, RelaysAreTheLaws}

-- ---- the program's

answers_same : (d : Decision) (source : Option ObjectId) (span : ℕ × ℕ) (o : Option ObjectId) (seat : Seat) → answering d source span (quit o seat) ≡ answering d source span (with_interim seat)
answers_same d source span None seat = refl
answers_same d source span (Some id) seat = refl

pub answered_is : (i : ℕ) (d : Decision) (source : Option ObjectId) (span : ℕ × ℕ) (p : Parts) (seat : Seat) → slice_get p.seats i ≡ Some seat
    → answered_at i d source span (on_seat i with_interim p) ≡ record p { seats = slice_set p.seats i (answering d source span (with_interim seat)); cache = left_memory (source_of seat) p.cache }
unfolding answered_at
answered_is i d source span p seat here =
    let o : Option ObjectId = source_of seat in
    ap (on_seat i (answering d source span)) (quit_is i p seat o here refl)
    ∙ seat_again i (answering d source span) (record p { cache = left_memory o p.cache }) seat (quit o seat) here
    ∙ ap (λ (new : Seat). record p { seats = slice_set p.seats i new; cache = left_memory o p.cache }) (answers_same d source span o seat)

-- ---- the law's

next_swept : (n : ℕ) (f : Client → Client) (s : State) → (swept (on_client n f s)).next_instance ≡ s.next_instance
unfolding on_client swept
next_swept n f s = refl

pub relays : RelaysAreTheLaws
unfolding relay
relays number name l peers p s steps i seat c decided given there =
    let n : ℕ = seat.client.id in
    let here : slice_get p.seats i ≡ Some seat = decided.place.here in
    let at : IsAt n i p.seats = is_at i p.seats seat steps.order here in
    let same : c.number ≡ n = is_same c.number n (find_passes (is_client n) s.clients c decided.place.there) in
    let o : Option ObjectId = source_of seat in
    let new : Seat = answering Relay None (0, 0) (with_interim seat) in
    let f : Client → Client = answering_with (reply_by Relay None) in
    let shown : ShowsSeat number name [] seat c = shown_at number name [] p.seats s.clients n i seat c steps.shows.clients at here decided.place.there in
    let live : ShowsOpen number name [] seat c = shown.going decided.going in
    subst (λ (q : Parts). ShowsSteps number name l peers q (swept (on_client c.number f s))) (sym (answered_is i Relay None (0, 0) p seat here))
    (subst (λ (m : ℕ). ShowsSteps number name l peers (record p { seats = slice_set p.seats i new; cache = left_memory o p.cache }) (swept (on_client m f s))) (sym same) (record {
      shows =
          client_left number name [] l (whole p peers) s steps.shows n i new f c o at decided.place.there (λ id. ap (λ (b : Bool). not b && false) decided.going) (followed_as number name i p seat c here live decided.going there)
          (λ other d here' there' shows'. subst (λ (x : Client). ShowsSeat number name [] new (f x)) (some_is c d (sym decided.place.there ∙ there')) (answers number Relay None name [] seat c shown decided.going decided.may given));
      order = subst (λ (ns : List ℕ). AreInOrder ns) (sym (numbers_set i p.seats seat new here (interim_number seat))) steps.order;
      told = subst (λ (next : ℕ). AreTold number (left_memory o p.cache) next p.flow) (sym (next_swept n f s))
          (are_told_on number p.cache (left_memory o p.cache) s.next_instance s.next_instance (left_stands o p.cache s.next_instance) p.flow steps.told);
      refused = steps.refused;
    }))
