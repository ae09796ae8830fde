-- What becomes of the client of an exchange leaves what the law makes of it; and so do bytes that are passed, and the end of a response.
use Rattle.std.proofs.Common.{◌≡◌, refl, sym, subst, ap, ap₂, ◌∙◌, ℕ, Bool, true, false, find, List, [], ◌∷◌, Option, Some, None}
use Rattle.pp_flow.specs.declared.entry.Aim.{Aim as OwnAim}
use Rattle.pp_flow.specs.declared.entry.Aim.TheVariants.{Own as OfItself, Hole, Pass}
use Rattle.pp_flow.specs.declared.entry.Exchange.{Exchange as Asking}
use Rattle.pp_flow_law.specs.Tables.{Leaving}
use Rattle.pp_law.specs.Connections.{is_client, is_for, on_client_of}
use Rattle.pp_law.specs.Lists.{Bytes, change, is_this}
use Rattle.pp_law.specs.Passing.{pour, poured as law_poured}
use Rattle.pp_law.specs.Responses.{skip_body, skipping}
use Rattle.pp_law.specs.Stages.{on_passed}
use Rattle.pp_law.specs.State.{State, Aim, Own, Through, Filling, Client, Exchange, Passed}
use Rattle.pp_pass.specs.Pipe.{finished}
use Rattle.pp_peers.specs.declared.peers.Peer.{Peer}
use Rattle.pp_seats.specs.declared.seat.Seat.{Seat}
use Rattle.pp_seats.specs.Seats.{without_body}
use Rattle.pp_seats_law.specs.Fates.{aim_of}
use Rattle.pp_seats_law.specs.Seats.{ShowsSeat}
use Rattle.pp_states_law.specs.Clients.{FollowsOn}
use Rattle.pp_state.specs.Bodies.{finished_for, on_asker as on_asker_in, on_passed as on_passed_seat, on_pipe, on_place, passed_whole, poured as poured_in, poured_into}
use Rattle.pp_state.specs.Ends.{Parts, numbers_of, seat_for}
use Rattle.pp_states_law.proofs.Charged.{on_asker}
use Rattle.pp_states_law.proofs.Places.{HasNone, HasPlace, has_none, has_place}
use Rattle.pp_states_law.specs.Charges.{IsFor}
use Rattle.pp_states_law.specs.Losses.{IsComing}
use Rattle.pp_states_law.specs.Steps.{ShowsSteps}
use Rattle.pp_bodies_law.proofs.Pipes.{ends, law_passed_follows, law_passed_number, passed_id, pours, skips}
use Rattle.pp_bodies_law.specs.Bytes.{PoursAreTheLaws}
use Rattle.pp_bodies_law.specs.Ends.{FinishesAreTheLaws}

-- ---- what becomes of the client of an exchange

nobody : (d : Exchange) (g : Client → Client) (s : State) → HasNone d.asker s.clients → on_client_of d g s ≡ s
unfolding on_client_of
nobody d g s none = ap (λ (cs : List Client). record s { clients = cs }) (none.changes g)

asker_shows : (number : ℕ → ℕ) (name : Bytes) (l : Leaving) (peers : List Peer) (p : Parts) (s : State) → ShowsSteps number name l peers p s → (e : Asking) (d : Exchange) (f : Seat → Seat) (g : Client → Client) → e.asker ≡ d.asker
    → ((seat : Seat) → (f seat).client.id ≡ seat.client.id) → FollowsOn g
    → ((n : ℕ) (seat : Seat) (c : Client) → d.asker ≡ Some n → find (is_client n) s.clients ≡ Some c → ShowsSeat number name [] seat c → ShowsSeat number name [] (f seat) (g c))
    → ShowsSteps number name l peers (record p { seats = on_asker_in e f p.seats }) (on_client_of d g s)
asker_shows number name l peers p s shows e d f g same keeps follow each = by (seat_for e p.seats) refl
  where
    by : (o : Option ℕ) → seat_for e p.seats ≡ o → ShowsSteps number name l peers (record p { seats = on_place o f p.seats }) (on_client_of d g s)
    by None none =
        subst (λ (t : State). ShowsSteps number name l peers p t)
        (sym (nobody d g s (subst (λ (asker : Option ℕ). HasNone asker s.clients) same (has_none number name [] e.asker p.seats s.clients shows.shows.clients none)))) shows
    by (Some i) at =
        let one : HasPlace e.asker (numbers_of p.seats) i = has_place e.asker (numbers_of p.seats) i at in
        on_asker number name l peers p s shows d one.client i f g (sym same ∙ one.asks) one.place
        (record { follows = follow; id = keeps; shows = λ seat c there found shown. each one.client seat c (sym same ∙ one.asks) found shown })

pub pours_are : PoursAreTheLaws
unfolding pour
pours_are number name l peers p s shows e d bytes same fits =
    asker_shows number name l peers p s shows e d (poured_into bytes) (on_passed (λ q. record q { pipe = law_poured bytes q.pipe })) same
    (λ seat. passed_id (on_pipe (poured_in bytes)) seat refl) (law_passed_follows (λ q. record q { pipe = law_poured bytes q.pipe })) (λ n seat c asks there shown. pours number name bytes seat c (fits n c asks there) shown)

-- ---- a response is whole

abbrev whole : Passed → Passed
whole p = record p { pipe = finished p.pipe }

change_twice : (test : Client → Bool) (g h : Client → Client) (cs : List Client) → ((c : Client) → test (g c) ≡ test c) → change test h (change test g cs) ≡ change test (λ c. h (g c)) cs
change_twice test g h [] same = refl
change_twice test g h (c ∷ cs) same =
    ap₂ (λ (d : Client) (ds : List Client). d ∷ ds) (by (test c) refl) (change_twice test g h cs same)
  where
    by : (b : Bool) → test c ≡ b
        → elim (test (elim b as (λ x. Client) [ true ↦ g c | false ↦ c ])) as (λ x. Client) [ true ↦ h (elim b as (λ x. Client) [ true ↦ g c | false ↦ c ]) | false ↦ elim b as (λ x. Client) [ true ↦ g c | false ↦ c ] ]
        ≡ elim b as (λ x. Client) [ true ↦ h (g c) | false ↦ c ]
    by true is = ap (λ (b : Bool). elim b as (λ x. Client) [ true ↦ h (g c) | false ↦ g c ]) (same c ∙ is)
    by false is = ap (λ (b : Bool). elim b as (λ x. Client) [ true ↦ h c | false ↦ c ]) is

for_same : (d : Exchange) (c : Client) → is_for d (on_passed whole c) ≡ is_for d c
for_same d c = ap (λ (k : ℕ). is_this k d.asker) (law_passed_number whole c)

both_of : (d : Exchange) (s : State) → on_client_of d skipping (on_client_of d (on_passed whole) s) ≡ on_client_of d (λ c. skipping (on_passed whole c)) s
unfolding on_client_of
both_of d s = ap (λ (cs : List Client). record s { clients = cs }) (change_twice (is_for d) (on_passed whole) skipping s.clients (for_same d))

module _ (number : ℕ → ℕ) (name : Bytes) (l : Leaving) (peers : List Peer) (p : Parts) (s : State) (shows : ShowsSteps number name l peers p s) (e : Asking) (d : Exchange) (same : e.asker ≡ d.asker) (coming : IsFor s d IsComing) where
  whole_shows : ShowsSteps number name l peers (record p { seats = on_asker_in e (on_passed_seat passed_whole) p.seats }) (pour d finished s)
  unfolding pour
  whole_shows = asker_shows number name l peers p s shows e d (on_passed_seat passed_whole) (on_passed whole) same (λ seat. passed_id passed_whole seat refl) (law_passed_follows whole)
      (λ n seat c asks there shown. ends number name seat c (coming n c asks there) shown)

  skipped_shows : ShowsSteps number name l peers (record p { seats = on_asker_in e (λ seat. without_body (on_passed_seat passed_whole seat)) p.seats }) (on_client_of d skipping (pour d finished s))
  unfolding pour
  skipped_shows = subst (λ (t : State). ShowsSteps number name l peers (record p { seats = on_asker_in e (λ seat. without_body (on_passed_seat passed_whole seat)) p.seats }) t) (sym (both_of d s))
      (asker_shows number name l peers p s shows e d (λ seat. without_body (on_passed_seat passed_whole seat)) (λ c. skipping (on_passed whole c)) same (λ seat. passed_id passed_whole seat refl) (law_passed_follows whole)
      (λ n seat c asks there shown. skips number name (on_passed_seat passed_whole seat) (on_passed whole c) (ends number name seat c (coming n c asks there) shown)))

  abbrev finished_as : OwnAim → Parts
  finished_as own = record p { seats = on_asker_in e (finished_for own) p.seats }

  abbrev skipped_by : Aim → State
  skipped_by aim = elim aim as (λ t. State) [ Through ↦ on_client_of d skipping (pour d finished s) | Own ↦ pour d finished s | Filling v from to ↦ pour d finished s ]

  by_aim : (own : OwnAim) (aim : Aim) → aim_of own ≡ aim → ShowsSteps number name l peers (finished_as own) (skipped_by aim)
  by_aim OfItself aim is = subst (λ (a : Aim). ShowsSteps number name l peers (finished_as OfItself) (skipped_by a)) is whole_shows
  by_aim (Hole v from to) aim is = subst (λ (a : Aim). ShowsSteps number name l peers (finished_as (Hole v from to)) (skipped_by a)) is whole_shows
  by_aim Pass aim is = subst (λ (a : Aim). ShowsSteps number name l peers (finished_as Pass) (skipped_by a)) is skipped_shows

pub finishes : FinishesAreTheLaws
unfolding skip_body
finishes number name l peers p s shows e d is = by_aim number name l peers p s shows e d is.asker is.coming e.aim d.aim is.aim
