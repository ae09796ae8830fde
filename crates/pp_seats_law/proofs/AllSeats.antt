-- The seats show the clients, one each, in their order.
use Rattle.std.proofs.Common.{◌≡◌, refl, sym, subst, ap, ◌∙◌, ℕ, zero, suc, Bool, true, false, cond, ◌==◌, find, List, [], ◌∷◌, Some}
use Rattle.std.specs.Prelude.{slice_get, slice_set}
use Rattle.pp_law.specs.Connections.{is_client}
use Rattle.pp_law.specs.Lists.{Bytes, change}
use Rattle.pp_law.specs.State.{Client}
use Rattle.pp_seats.specs.declared.seat.Seat.{Seat}
use Rattle.pp_seats_law.specs.Clients.{AreShown, ChangesAreTheLaws, IsAt, IsFound, IsNowhere, PlacesAreTheLaws}
use Rattle.pp_seats_law.specs.Seats.{ShowsSeat}

number_is : (number : ℕ → ℕ) (name : Bytes) (owed : List Bytes) (seat : Seat) (c : Client) (n : ℕ) (b : Bool) → ShowsSeat number name owed seat c → (seat.client.id == n) ≡ b → is_client n c ≡ b
number_is number name owed seat c n b shows is = ap (λ (m : ℕ). m == n) (sym shows.number) ∙ is

-- one that is not of that number stays
stays : (number : ℕ → ℕ) (name : Bytes) (owed : List Bytes) (seat : Seat) (c : Client) (n : ℕ) (f : Client → Client) → ShowsSeat number name owed seat c → (seat.client.id == n) ≡ false
    → ShowsSeat number name owed seat (elim (is_client n c) as (λ b. Client) [ true ↦ f c | false ↦ c ])
stays number name owed seat c n f shows isnt =
    subst (λ (b : Bool). ShowsSeat number name owed seat (elim b as (λ x. Client) [ true ↦ f c | false ↦ c ])) (sym (number_is number name owed seat c n false shows isnt)) shows

changed : (number : ℕ → ℕ) (name : Bytes) (owed : List Bytes) (seat new : Seat) (c : Client) (n : ℕ) (f : Client → Client) → ShowsSeat number name owed seat c → (seat.client.id == n) ≡ true → ShowsSeat number name owed new (f c)
    → ShowsSeat number name owed new (elim (is_client n c) as (λ b. Client) [ true ↦ f c | false ↦ c ])
changed number name owed seat new c n f shows is there =
    subst (λ (b : Bool). ShowsSeat number name owed new (elim b as (λ x. Client) [ true ↦ f c | false ↦ c ])) (sym (number_is number name owed seat c n true shows is)) there

elsewhere : (number : ℕ → ℕ) (name : Bytes) (owed : List Bytes) (seats : List Seat) (cs : List Client) (n : ℕ) (f : Client → Client) → AreShown number name owed seats cs → IsNowhere n seats → AreShown number name owed seats (change (is_client n) f cs)
elsewhere number name owed [] [] n f shown none = tt
elsewhere number name owed [] (c ∷ cs) n f shown none = absurd shown
elsewhere number name owed (seat ∷ seats) [] n f shown none = absurd shown
elsewhere number name owed (seat ∷ seats) (c ∷ cs) n f shown none = (stays number name owed seat c n f shown.0 none.0, elsewhere number name owed seats cs n f shown.1 none.1)

-- the first of that number
found_first : (c : Client) (cs : List Client) (n : ℕ) → is_client n c ≡ true → find (is_client n) (c ∷ cs) ≡ Some c
found_first c cs n is = ap (λ (b : Bool). cond b (Some c) (find (is_client n) cs)) is

found_later : (c : Client) (cs : List Client) (n : ℕ) → is_client n c ≡ false → find (is_client n) (c ∷ cs) ≡ find (is_client n) cs
found_later c cs n isnt = ap (λ (b : Bool). cond b (Some c) (find (is_client n) cs)) isnt

-- where one is changed that is the client of that number
pub changes_there : (number : ℕ → ℕ) (name : Bytes) (owed : List Bytes) (seats : List Seat) (cs : List Client) (n i : ℕ) (new : Seat) (f : Client → Client) → AreShown number name owed seats cs → IsAt n i seats
    → ((seat : Seat) (c : Client) → slice_get seats i ≡ Some seat → find (is_client n) cs ≡ Some c → ShowsSeat number name owed seat c → ShowsSeat number name owed new (f c)) → AreShown number name owed (slice_set seats i new) (change (is_client n) f cs)
changes_there number name owed [] cs n i new f shown at here = absurd at
changes_there number name owed (seat ∷ seats) [] n i new f shown at here = absurd shown
changes_there number name owed (seat ∷ seats) (c ∷ cs) n zero new f shown at here =
    (changed number name owed seat new c n f shown.0 at.0 (here seat c refl (found_first c cs n (number_is number name owed seat c n true shown.0 at.0)) shown.0), elsewhere number name owed seats cs n f shown.1 at.1)
changes_there number name owed (seat ∷ seats) (c ∷ cs) n (suc i) new f shown at here = (
  stays number name owed seat c n f shown.0 at.0,
  changes_there number name owed seats cs n i new f shown.1 at.1 (λ other d there found shows. here other d there (found_later c cs n (number_is number name owed seat c n false shown.0 at.0) ∙ found) shows),
)

pub changes : ChangesAreTheLaws
changes number name owed seats cs n i new f shown at here = changes_there number name owed seats cs n i new f shown at (λ seat c there found shows. here seat c there shows)

same_seat : (seat other : Seat) → Some seat ≡ Some other → seat ≡ other
same_seat seat other is = cc is

pub places : PlacesAreTheLaws
places number name owed [] cs n i seat shown at is = absurd at
places number name owed (first ∷ seats) [] n i seat shown at is = absurd shown
places number name owed (first ∷ seats) (c ∷ cs) n zero seat shown at is = record {
  client = c;
  there = found_first c cs n (number_is number name owed first c n true shown.0 at.0);
  shows = subst (λ (s : Seat). ShowsSeat number name owed s c) (same_seat first seat is) shown.0;
}
places number name owed (first ∷ seats) (c ∷ cs) n (suc i) seat shown at is =
    let more : IsFound number name owed seat n cs = places number name owed seats cs n i seat shown.1 at.1 is in record {
      client = more.client;
      there = found_later c cs n (number_is number name owed first c n false shown.0 at.0) ∙ more.there;
      shows = more.shows;
    }
