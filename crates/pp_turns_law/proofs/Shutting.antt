-- A client that is closing is shut.
use Rattle.std.proofs.Common.{◌≡◌, ◌<◌, ◌≤◌, refl, sym, subst, ap, ◌∙◌, ℕ, zero, suc, ◌+◌, Bool, true, false, not, ◌==◌, ◌&&◌, ◌||◌, cond, filter, find, length, map, List, [], ◌∷◌, Option, Some, None, arith}
use Rattle.std.specs.List.{list_any}
use Rattle.std.specs.Prelude.{count_by, slice_get, slice_set}
use Rattle.pp_cache_law.proofs.Finds.{find_kept, find_out}
use Rattle.pp_cache_law.proofs.Framing.{frames_of, the_same}
use Rattle.pp_cache_law.proofs.Numbers.{some_is}
use Rattle.pp_cache_law.proofs.PairLemmas.{count_first}
use Rattle.pp_turns_law.proofs.Quitting.{client_left}
use Rattle.pp_turns_law.proofs.Sitting.{is_at}
use Rattle.pp_flow_law.proofs.Ended.{not_so}
use Rattle.pp_flow_law.proofs.Entries.{none_some, same_number}
use Rattle.pp_flow_law.proofs.Framed.{frames as flow_frames}
use Rattle.pp_flow_law.specs.Tables.{none_leaves}
use Rattle.pp_law.specs.After.{after, changed, shut}
use Rattle.pp_law.specs.Closing.{close_client, is_of}
use Rattle.pp_law.specs.Connections.{exchange, is_client, is_conn}
use Rattle.pp_law.specs.Lists.{Bytes, is_some_with, is_this, without}
use Rattle.pp_law.specs.Opening.{is_at as is_in}
use Rattle.pp_law.specs.Permits.{IsPermitted, is_permitted, may_shut, permits, permits_behind_forgotten}
use Rattle.pp_law.specs.Phases.{may_in}
use Rattle.pp_law.specs.Stages.{reply_of}
use Rattle.pp_law.specs.State.{State, Client, Conn, Connecting}
use Rattle.pp_law.specs.Table.{follows}
use Rattle.pp_desk.proofs.ClosingLemmas.{order_kept}
use Rattle.pp_desk.specs.Closings.{with_parts}
use Rattle.pp_seats.specs.declared.seat.Seat.{Seat}
use Rattle.pp_seats_law.proofs.AllSeats.{places}
use Rattle.pp_seats_law.specs.Clients.{AreShown, IsAt, IsFound}
use Rattle.pp_states_law.proofs.Asked.{all_as, frames, itself}
use Rattle.pp_states_law.specs.States.{ShowsState}
use Rattle.pp_states_law.proofs.Told.{told_next}
use Rattle.pp_states_law.specs.Lines.{AllGo}
use Rattle.pp_states_law.specs.Steps.{whole}
use Rattle.pp_world.specs.declared.happening.Happening.TheVariants.{Shut}
use Rattle.pp_turns_law.proofs.Gone.{closing_if, go_on, none_left, quit_clients, quit_conns, quitting}
use Rattle.pp_turns_law.proofs.AllDropped.{at_it, stays}
use Rattle.pp_turns_law.proofs.Own.{law_none}
use Rattle.pp_turns_law.proofs.Quit.{closing_client, next_swept, same_client}
use Rattle.pp_turns_law.specs.Log.{IsConnecting}
use Rattle.pp_turns_law.specs.Shuts.{ShutsAreTheLaws, without_client}
use Rattle.pp_turns_law.specs.Sides.{AreOrderly, ShowsSides}

-- ---- it may be shut

any_client : (b : Bool) (n : ℕ) (cs : List Client) (c : Client) → find (is_client n) cs ≡ Some c → c.is_closing ≡ true → list_any (λ d. is_client n d && (d.is_closing || b)) cs ≡ true
any_client b n [] c there closing = absurd (none_some c there)
any_client b n (d ∷ cs) c there closing = by (is_client n d) there (λ rest. any_client b n cs c rest closing)
  where
    one : (e f : Bool) → e ≡ true → (e || f) ≡ true
    one e f is = ap (λ (g : Bool). g || f) is

    by : (e : Bool) → cond e (Some d) (find (is_client n) cs) ≡ Some c → (find (is_client n) cs ≡ Some c → list_any (λ i. is_client n i && (i.is_closing || b)) cs ≡ true)
        → ((e && (d.is_closing || b)) || list_any (λ i. is_client n i && (i.is_closing || b)) cs) ≡ true
    by true is rest = one (d.is_closing || b) (list_any (λ i. is_client n i && (i.is_closing || b)) cs) (one d.is_closing b (ap (λ (i : Client). i.is_closing) (some_is d c is) ∙ closing))
    by false is rest = rest is

permitted : (s : State) (n : ℕ) (c : Client) → IsConnecting s → find (is_client n) s.clients ≡ Some c → c.is_closing ≡ true → IsPermitted s (Shut n)
unfolding is_permitted permits
permitted s n c is there closing =
    ap (λ (o : Option ℕ). elim o as (λ t. Bool) [ Some who ↦ permits_behind_forgotten s (Shut n) | None ↦ may_in Connecting (λ t. list_any (may_shut t n) t.clients) s ]) is.none
    ∙ ap (λ (t : State). elim (is_in Connecting t) as (λ u. Bool) [ true ↦ list_any (may_shut t n) t.clients | false ↦ false ]) (stays s is)
    ∙ ap (λ (b : Bool). elim b as (λ u. Bool) [ true ↦ list_any (may_shut s n) s.clients | false ↦ false ]) (at_it s is)
    ∙ any_client s.is_stopped n s.clients c there closing

-- ---- what is behind it

abbrev shut_of : ℕ → State → State
shut_of n u = record u { clients = without (is_client n) u.clients }

goes : (s : State) (n : ℕ) → IsConnecting s → find (is_of n) s.exchanges ≡ None → after s (Shut n) ≡ shut_of n (quitting n false s)
unfolding changed shut
goes s n is none = ap (λ (t : State). shut_of n (close_client n false t)) (stays s is) ∙ ap (λ (t : State). shut_of n t) (law_none n false s none)

out_shown : (number : ℕ → ℕ) (name : Bytes) (n : ℕ) (seats : List Seat) (cs : List Client) → AreShown number name [] seats cs → AreShown number name [] (filter (λ seat. not (seat.client.id == n)) seats) (without (is_client n) cs)
out_shown number name n [] [] shows = tt
out_shown number name n [] (c ∷ cs) shows = absurd shows
out_shown number name n (seat ∷ seats) [] shows = absurd shows
out_shown number name n (seat ∷ seats) (c ∷ cs) shows = by (seat.client.id == n) (c.number == n) (ap (λ (m : ℕ). m == n) shows.0.number) (out_shown number name n seats cs shows.1)
  where
    by : (a b : Bool) → a ≡ b → AreShown number name [] (filter (λ other. not (other.client.id == n)) seats) (without (is_client n) cs)
        → AreShown number name [] (cond (not a) (seat ∷ filter (λ other. not (other.client.id == n)) seats) (filter (λ other. not (other.client.id == n)) seats)) (cond (not b) (c ∷ without (is_client n) cs) (without (is_client n) cs))
    by true true same rest = rest
    by true false same rest = absurd cc
    by false true same rest = absurd cc
    by false false same rest = (shows.0, rest)

none_more : (i : ℕ) → 0 + i ≡ i
none_more i = omega arith

-- nobody followed anything there
same_counts : (n id : ℕ) (cs : List Client) → count_by (follows id) (without (is_client n) (map (closing_if n false) cs)) ≡ count_by (follows id) (map (closing_if n false) cs)
same_counts n id [] = refl
same_counts n id (c ∷ cs) = by (is_client n c) refl (same_counts n id cs)
  where
    by : (b : Bool) → is_client n c ≡ b → count_by (follows id) (without (is_client n) (map (closing_if n false) cs)) ≡ count_by (follows id) (map (closing_if n false) cs)
        → count_by (follows id) (without (is_client n) ((elim b as (λ t. Client) [ true ↦ closing_client false c | false ↦ c ]) ∷ map (closing_if n false) cs))
        ≡ count_by (follows id) ((elim b as (λ t. Client) [ true ↦ closing_client false c | false ↦ c ]) ∷ map (closing_if n false) cs)
    by true is rest =
        ap (λ (e : Bool). count_by (follows id) (cond (not e) (closing_client false c ∷ without (is_client n) (map (closing_if n false) cs)) (without (is_client n) (map (closing_if n false) cs)))) is
        ∙ rest
        ∙ sym (count_first (follows id) (closing_client false c) (map (closing_if n false) cs) ∙ none_more (count_by (follows id) (map (closing_if n false) cs)))
    by false is rest =
        ap (λ (e : Bool). count_by (follows id) (cond (not e) (c ∷ without (is_client n) (map (closing_if n false) cs)) (without (is_client n) (map (closing_if n false) cs)))) is
        ∙ count_first (follows id) c (without (is_client n) (map (closing_if n false) cs))
        ∙ ap (λ (i : ℕ). cond (follows id c) 1 0 + i) rest
        ∙ sym (count_first (follows id) c (map (closing_if n false) cs))

-- ---- in all

set_same : (i : ℕ) (seats : List Seat) (seat : Seat) → slice_get seats i ≡ Some seat → slice_set seats i seat ≡ seats
set_same i [] seat there = refl
set_same zero (first ∷ seats) seat there = ap (λ (x : Seat). x ∷ seats) (sym (some_is first seat there))
set_same (suc i) (first ∷ seats) seat there = ap (λ (rest : List Seat). first ∷ rest) (set_same i seats seat there)

still_found : (n a : ℕ) (cs : List Client) (c : Client) → find (is_client a) (without (is_client n) cs) ≡ Some c → find (is_client a) cs ≡ Some c
still_found n a cs c found = by (a == n) refl
  where
    by : (b : Bool) → (a == n) ≡ b → find (is_client a) cs ≡ Some c
    by true is =
        absurd
        (none_some c
        (sym (find_out (is_client a) (λ d. not (is_client n d)) cs (λ d out. ap (λ (i : ℕ). d.number == i) (same_number a n is) ∙ not_so (is_client n d) out)) ∙ found))
    by false off = sym (find_kept (is_client a) (λ d. not (is_client n d)) cs (λ d is. ap not (ap (λ (i : ℕ). i == n) (same_number d.number a is) ∙ off))) ∙ found

pub shuts : ShutsAreTheLaws
shuts number name x s shows i seat is to =
    let n : ℕ = seat.client.id in
    let at : IsAt n i x.parts.seats = is_at i x.parts.seats seat shows.steps.order to.here in
    let one : IsFound number name [] seat n s.clients = places number name [] x.parts.seats s.clients n i seat shows.steps.shows.clients at to.here in
    let closing : one.client.is_closing ≡ true = sym one.shows.closing ∙ to.closing in
    let u : State = quitting n false s in
    let left : ShowsState number name [] none_leaves (record (whole x.parts x.peers) { seats = slice_set x.parts.seats i seat }) u =
    client_left number name [] none_leaves (whole x.parts x.peers) s shows.steps.shows n i seat (closing_client false) one.client None at one.there (λ k. refl) (λ k. ap (λ (b : Bool). not b && is_some_with (λ r. is_this k r.source) (reply_of one.client)) closing)
    (λ other d here' there' shows'. record { number = sym (same_client n s d there'); closing = to.closing; going = λ goes. absurd cc }) in
    let same : ShowsState number name [] none_leaves (whole x.parts x.peers) u = subst (λ (seats : List Seat). ShowsState number name [] none_leaves (record (whole x.parts x.peers) { seats = seats }) u) (set_same i x.parts.seats seat to.here) left in
    let go : AllGo u = go_on n false s u (quit_clients n false s) (none_left n false s to.alone) shows.may.go in (
      permitted s n one.client is one.there closing,
      subst (λ (t : State). ShowsSides number name (with_parts (without_client n) x) t) (sym (goes s n is to.alone)) (record {
        steps = record {
          shows = record {
            clients = out_shown number name n x.parts.seats u.clients same.clients;
            exchanges = flow_frames number none_leaves x.parts.flow u same.exchanges none_leaves (shut_of n u) (record { exchanges = refl; next = refl; lines = λ k. refl });
            table =
                frames_of number x.parts.cache u same.table x.parts.cache (shut_of n u) (record { instances = refl; lives = refl; chunks = refl; extents = refl })
                (record {
                  instances = refl;
                  made = the_same u.next_instance;
                  chunks = refl;
                  followers = λ id. subst (λ (cs : List Client). count_by (follows id) (without (is_client n) cs) ≡ count_by (follows id) cs) (sym (quit_clients n false s)) (same_counts n id s.clients);
                  kept = λ y. refl;
                });
            conns = frames u (shut_of n u) x.peers u.conns (all_as u (shut_of n u) (λ m. itself (exchange u m)) u.conns) same.conns;
          };
          order = order_kept (λ other. not (other.client.id == n)) x.parts.seats shows.steps.order;
          told = told_next number x.parts.cache s.next_instance (shut_of n u).next_instance x.parts.flow (next_swept n (closing_client false) s) shows.steps.told;
          refused = shows.steps.refused;
        };
        may = record {
          apart = λ m. subst (λ (ks : List Conn). count_by (is_conn m) ks ≤ 1) (sym (quit_conns n false s)) (shows.may.apart m);
          orderly = subst (λ (ks : List Conn). AreOrderly ks) (sym (quit_conns n false s)) shows.may.orderly;
          go = record {
            going = λ m e there a c asks found. go.going m e there a c asks (still_found n a u.clients c found);
            coming = λ m e there a c asks found. go.coming m e there a c asks (still_found n a u.clients c found);
          };
        };
      }),
    )
