-- One client is changed by a decision: what it follows may change with it.
use Rattle.std.proofs.Common.{◌≡◌, refl, sym, subst, ap, ap₂, ◌∙◌, ℕ, zero, suc, ◌+◌, Bool, true, false, cond, ◌==◌, find, List, [], ◌∷◌, Some, None, Option, arith}
use Rattle.std.proofs.lemmas.Bool.Decides.{nat_tests}
use Rattle.std.specs.Prelude.{count_by, slice_get, slice_set}
use Rattle.pp_cache_law.proofs.Framing.{frames_of, the_same}
use Rattle.pp_cache_law.proofs.Numbers.{some_is}
use Rattle.pp_cache_law.proofs.PairLemmas.{count_first}
use Rattle.pp_flow_law.proofs.Entries.{none_some}
use Rattle.pp_flow_law.proofs.Framed.{frames as flow_frames}
use Rattle.pp_flow_law.specs.Tables.{Leaving}
use Rattle.pp_law.specs.Connections.{exchange, is_client, on_client}
use Rattle.pp_law.specs.Lists.{Bytes, change}
use Rattle.pp_law.specs.State.{State, Client}
use Rattle.pp_law.specs.Table.{follows}
use Rattle.pp_seats.specs.declared.seat.Seat.{Seat}
use Rattle.pp_seats_law.proofs.AllSeats.{changes_there as seats_change}
use Rattle.pp_seats_law.specs.Clients.{AreShown, IsAt, IsNowhere}
use Rattle.pp_states_law.proofs.Asked.{all_as, frames, itself}
use Rattle.pp_states_law.specs.Clients.{GoesOnAs}
use Rattle.pp_states_law.specs.States.{Parts as Whole, ShowsState}

-- ---- at a place

pub at_set : (n i : ℕ) (seats : List Seat) (seat new : Seat) → IsAt n i seats → slice_get seats i ≡ Some seat → new.client.id ≡ seat.client.id → IsAt n i (slice_set seats i new)
at_set n i [] seat new at there same = absurd at
at_set n zero (first ∷ seats) seat new at there same = (ap (λ (m : ℕ). m == n) (same ∙ ap (λ (x : Seat). x.client.id) (sym (some_is first seat there))) ∙ at.0, at.1)
at_set n (suc i) (first ∷ seats) seat new at there same = (at.0, at_set n i seats seat new at.1 there same)

pub get_set : (i : ℕ) (seats : List Seat) (seat new : Seat) → slice_get seats i ≡ Some seat → slice_get (slice_set seats i new) i ≡ Some new
get_set i [] seat new there = absurd (none_some seat there)
get_set zero (first ∷ seats) seat new there = refl
get_set (suc i) (first ∷ seats) seat new there = get_set i seats seat new there

pub set_set : (i : ℕ) (seats : List Seat) (new after : Seat) → slice_set (slice_set seats i new) i after ≡ slice_set seats i after
set_set i [] new after = refl
set_set zero (first ∷ seats) new after = refl
set_set (suc i) (first ∷ seats) new after = ap (λ (rest : List Seat). first ∷ rest) (set_set i seats new after)

-- ---- how many clients a test holds of

abbrev changed_if : ℕ → (Client → Client) → Client → Client
changed_if n f c = elim (is_client n c) as (λ b. Client) [ true ↦ f c | false ↦ c ]

nowhere_same : (number : ℕ → ℕ) (name : Bytes) (owed : List Bytes) (n : ℕ) (f : Client → Client) (seats : List Seat) (cs : List Client) → AreShown number name owed seats cs → IsNowhere n seats → change (is_client n) f cs ≡ cs
nowhere_same number name owed n f [] [] shown none = refl
nowhere_same number name owed n f [] (c ∷ cs) shown none = absurd shown
nowhere_same number name owed n f (seat ∷ seats) [] shown none = absurd shown
nowhere_same number name owed n f (seat ∷ seats) (c ∷ cs) shown none =
    ap₂ (λ (b : Bool) (ds : List Client). (elim b as (λ t. Client) [ true ↦ f c | false ↦ c ]) ∷ ds) (ap (λ (m : ℕ). m == n) (sym shown.0.number) ∙ none.0) (nowhere_same number name owed n f seats cs shown.1 none.1)

moved_first : (a b k : ℕ) → (b + k) + a ≡ (a + k) + b
moved_first a b k = omega arith

moved_later : (a b h k m : ℕ) → k + a ≡ m + b → (h + k) + a ≡ (h + m) + b
moved_later a b h k m same = omega (arith, same)

-- the client of that number counts as what is made of it
pub counts_moved : (number : ℕ → ℕ) (name : Bytes) (owed : List Bytes) (q : Client → Bool) (n i : ℕ) (f : Client → Client) (seats : List Seat) (cs : List Client) (c : Client)
    → AreShown number name owed seats cs → IsAt n i seats → find (is_client n) cs ≡ Some c → count_by q (change (is_client n) f cs) + cond (q c) 1 0 ≡ count_by q cs + cond (q (f c)) 1 0
counts_moved number name owed q n i f [] cs c shown at found = absurd at
counts_moved number name owed q n i f (seat ∷ seats) [] c shown at found = absurd shown
counts_moved number name owed q n zero f (seat ∷ seats) (d ∷ cs) c shown at found =
    let is : is_client n d ≡ true = ap (λ (m : ℕ). m == n) (sym shown.0.number) ∙ at.0 in
    let same : d ≡ c = some_is d c (sym (ap (λ (b : Bool). cond b (Some d) (find (is_client n) cs)) is) ∙ found) in
    let all : change (is_client n) f (d ∷ cs) ≡ f c ∷ cs =
    ap₂ (λ (b : Bool) (ds : List Client). (elim b as (λ t. Client) [ true ↦ f d | false ↦ d ]) ∷ ds) is (nowhere_same number name owed n f seats cs shown.1 at.1) ∙ ap (λ (x : Client). f x ∷ cs) same in
    ap (λ (ds : List Client). count_by q ds + cond (q c) 1 0) all ∙ ap (λ (m : ℕ). m + cond (q c) 1 0) (count_first q (f c) cs) ∙ moved_first (cond (q c) 1 0) (cond (q (f c)) 1 0) (count_by q cs)
    ∙ ap (λ (m : ℕ). m + cond (q (f c)) 1 0) (sym (count_first q c cs)) ∙ ap (λ (x : Client). count_by q (x ∷ cs) + cond (q (f c)) 1 0) (sym same)
counts_moved number name owed q n (suc i) f (seat ∷ seats) (d ∷ cs) c shown at found =
    let off : is_client n d ≡ false = ap (λ (m : ℕ). m == n) (sym shown.0.number) ∙ at.0 in
    let later : find (is_client n) cs ≡ Some c = sym (ap (λ (b : Bool). cond b (Some d) (find (is_client n) cs)) off) ∙ found in
    let all : change (is_client n) f (d ∷ cs) ≡ d ∷ change (is_client n) f cs = ap (λ (b : Bool). (elim b as (λ t. Client) [ true ↦ f d | false ↦ d ]) ∷ change (is_client n) f cs) off in
    ap (λ (ds : List Client). count_by q ds + cond (q c) 1 0) all ∙ ap (λ (m : ℕ). m + cond (q c) 1 0) (count_first q d (change (is_client n) f cs))
    ∙ moved_later (cond (q c) 1 0) (cond (q (f c)) 1 0) (cond (q d) 1 0) (count_by q (change (is_client n) f cs)) (count_by q cs) (counts_moved number name owed q n i f seats cs c shown.1 at.1 later)
    ∙ ap (λ (m : ℕ). m + cond (q (f c)) 1 0) (sym (count_first q d cs))

cut : (a k m : ℕ) → k + a ≡ m + a → k ≡ m
cut a k m same = omega (arith, same)

-- one of which the test holds as before
pub counts_same : (number : ℕ → ℕ) (name : Bytes) (owed : List Bytes) (q : Client → Bool) (n i : ℕ) (f : Client → Client) (seats : List Seat) (cs : List Client) (c : Client)
    → AreShown number name owed seats cs → IsAt n i seats → find (is_client n) cs ≡ Some c → q (f c) ≡ q c → count_by q (change (is_client n) f cs) ≡ count_by q cs
counts_same number name owed q n i f seats cs c shown at found same =
    cut (cond (q c) 1 0) (count_by q (change (is_client n) f cs)) (count_by q cs)
    (counts_moved number name owed q n i f seats cs c shown at found ∙ ap (λ (b : Bool). count_by q cs + cond b 1 0) same)

-- ---- it is changed in all

-- as many follow each instance as before
pub client_changed : (number : ℕ → ℕ) (name : Bytes) (owed : List Bytes) (l : Leaving) (p : Whole) (s : State) → ShowsState number name owed l p s → (n i : ℕ) (new : Seat) (f : Client → Client) → IsAt n i p.seats
    → ((id : ℕ) → count_by (follows id) (change (is_client n) f s.clients) ≡ count_by (follows id) s.clients) → GoesOnAs number name owed p.seats s.clients n i new f
    → ShowsState number name owed l (record p { seats = slice_set p.seats i new }) (on_client n f s)
unfolding on_client
client_changed number name owed l p s shows n i new f at counts goes = record {
  clients = seats_change number name owed p.seats s.clients n i new f shows.clients at goes;
  exchanges = flow_frames number l p.flow s shows.exchanges l (on_client n f s) (record { exchanges = refl; next = refl; lines = λ m. refl });
  table =
      frames_of number p.memory s shows.table p.memory (on_client n f s) (record { instances = refl; lives = refl; chunks = refl; extents = refl })
      (record { instances = refl; made = the_same s.next_instance; chunks = refl; followers = counts; kept = λ x. refl });
  conns = frames s (on_client n f s) p.peers s.conns (all_as s (on_client n f s) (λ m. itself (exchange s m)) s.conns) shows.conns;
}
