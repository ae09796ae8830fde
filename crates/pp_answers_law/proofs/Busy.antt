-- The rows that exchanges are bound to are busy in the words of both.
use Rattle.std.proofs.Common.{◌≡◌, ◌≤◌, refl, ap, ap₂, ◌∙◌, ℕ, zero, suc, Bool, ◌==◌, ◌&&◌, ◌||◌, length, take, List, [], ◌∷◌, Some, None, Option, arith}
use Rattle.std.proofs.lemmas.Bool.Decides.{nat_tests}
use Rattle.std.specs.List.{cons_option, filter_map, list_any}
use Rattle.std.specs.Prelude.{option_map}
use Rattle.pp_turns_law.proofs.AllCome.{any_alike}
use Rattle.pp_cache_law.proofs.Numbers.{same_test}
use Rattle.pp_cache_law.specs.Reads.{AreBusy}
use Rattle.pp_cache_law.specs.Tables.{ShowsInstance}
use Rattle.pp_flow.specs.Changes.{entry_of}
use Rattle.pp_flow.specs.Entries.{Span}
use Rattle.pp_flow.specs.declared.entry.Entry.{Entry}
use Rattle.pp_flow_law.specs.Tables.{Leaving}
use Rattle.pp_law.specs.Connections.{exchange}
use Rattle.pp_law.specs.Lists.{Bytes, is_some_with}
use Rattle.pp_law.specs.Stages.{bound_of}
use Rattle.pp_law.specs.State.{State, Bound, Exchange, Instance as Known}
use Rattle.pp_law.specs.Table.{is_bound_to}
use Rattle.pp_objects.specs.Instances.{Instance, id_of, is_life, is_same_id}
use Rattle.pp_objects.specs.declared.id.ObjectId.{ObjectId}
use Rattle.pp_peers.specs.declared.peers.Peer.{Peer}
use Rattle.pp_seats_law.proofs.Entries.{exchanges}
use Rattle.pp_seats_law.specs.Exchanges.{ShowsBound, ShowsExchange}
use Rattle.pp_state.specs.Ends.{Parts}
use Rattle.pp_state.specs.Pins.{busy_row, busy_rows, exchanges_of}
use Rattle.pp_states_law.proofs.Told.{told_of}
use Rattle.pp_states_law.specs.Steps.{ShowsSteps}
use Rattle.pp_states_law.specs.Told.{IsToldBy}

-- ---- all of them

all_taken : {A : Type 0} (n : ℕ) (xs : List A) → length xs ≤ n → take n xs ≡ xs
all_taken zero [] less = refl
all_taken zero (x ∷ xs) less = absurd (omega (arith, less))
all_taken (suc n) [] less = refl
all_taken {A = A} (suc n) (x ∷ xs) less = ap (λ (ys : List A). x ∷ ys) (all_taken n xs (omega (arith, less)))

any_busy : (test : ObjectId → Bool) (xs : List Entry) → list_any test (filter_map busy_row xs) ≡ list_any (λ x. is_some_with test (busy_row x)) xs
any_busy test [] = refl
any_busy test (x ∷ xs) = by (busy_row x) (any_busy test xs)
  where
    by : (o : Option ObjectId) → list_any test (filter_map busy_row xs) ≡ list_any (λ y. is_some_with test (busy_row y)) xs → list_any test (cons_option o (filter_map busy_row xs)) ≡ is_some_with test o || list_any (λ y. is_some_with test (busy_row y)) xs
    by None rest = rest
    by (Some id) rest = ap (λ (b : Bool). test id || b) rest

-- ---- each

swapped : (a b : ObjectId) → is_same_id a b ≡ is_same_id b a
swapped a b = ap₂ (λ (s t : Bool). s && t) (other_way a.slot b.slot) (other_way a.life b.life)
  where
    other_way : (m n : ℕ) → (m == n) ≡ (n == m)
    other_way m n = grind (arith, nat_tests)

bound_alike : (number : ℕ → ℕ) (p : Parts) (s : State) (i : Instance) (y : Known) (o : Option Span) (u : Option Bound) → ShowsInstance number p.cache s i y → IsToldBy number p.cache s.next_instance o → ShowsBound number o u
    → is_some_with (is_same_id (id_of i)) (option_map (λ b. b.0) o) ≡ is_some_with (λ b. b.instance == y.id) u
bound_alike number p s i y None None shown told shows = refl
bound_alike number p s i y None (Some b) shown told shows = absurd shows
bound_alike number p s i y (Some x) None shown told shows = absurd shows
bound_alike number p s i y (Some x) (Some b) shown told shows =
    swapped (id_of i) x.0
    ∙ told.apart (id_of i) (ap (λ (o : Option Instance). is_life i.life o) shown.there ∙ same_test i.life i.life refl)
    ∙ ap₂ (λ (m n : ℕ). m == n) shows.1.joined shown.id

pub busies : (number : ℕ → ℕ) (name : Bytes) (l : Leaving) (peers : List Peer) (p : Parts) (s : State) → ShowsSteps number name l peers p s → length (filter_map busy_row (exchanges_of p.flow)) ≤ 64 → AreBusy number p.cache s (busy_rows p.flow)
busies number name l peers p s shows few i y shown =
    ap (λ (ids : List ObjectId). list_any (is_same_id (id_of i)) ids) (all_taken 64 (filter_map busy_row (exchanges_of p.flow)) few)
    ∙ any_busy (is_same_id (id_of i)) (exchanges_of p.flow)
    ∙ any_alike number l p.flow s shows.shows.exchanges (λ x. is_some_with (is_same_id (id_of i)) (busy_row x)) (is_bound_to y.id) each
  where
    each : (k : ℕ) (x : Entry) (e : Exchange) → entry_of k p.flow ≡ Some x → exchange s k ≡ Some e → ShowsExchange number x e → is_some_with (is_same_id (id_of i)) (busy_row x) ≡ is_bound_to y.id e
    each k x e here there one =
        bound_alike number p s i y x.exchange.bound (bound_of e) shown (told_of number p.cache s.next_instance k p.flow x shows.told here) (exchanges number x e one).bound
