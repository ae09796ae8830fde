-- Those that are to be read are written down: whoever is looked at is, and whoever is not stands there as before.
use Rattle.std.proofs.Common.{◌≡◌, ◌≤◌, ◌<◌, ◌⊎◌, inl, inr, refl, sym, subst, ap, ◌∙◌, ℕ, zero, suc, ◌+◌, Bool, true, false, ◌||◌, ◌==◌, cond, filter, length, List, [], ◌∷◌, Option, Some, None, arith}
use Rattle.std.proofs.lemmas.Bool.Decides.{nat_tests}
use Rattle.std.proofs.lemmas.Option.{slice_get-get_or, slice_get_within}
use Rattle.std.specs.List.{fold}
use Rattle.std.specs.Prelude.{slice_get}
use Rattle.pp_desk.proofs.ClosingLemmas.{order_kept}
use Rattle.pp_due.specs.Waits.{all_read, is_read, read_before, with_read, with_read_of}
use Rattle.pp_flow_law.specs.Tables.{AreGiven}
use Rattle.pp_law.specs.Lists.{has_number}
use Rattle.pp_seats.specs.declared.seat.Seat.{Seat}
use Rattle.pp_state.proofs.NumbersLemmas.{above_none, read_in_order, with_in_order}
use Rattle.pp_state.proofs.SeatsLemmas.{found-at}
use Rattle.pp_state.specs.Ends.{AreInOrder, AreSeated, numbers_of, place_of}
use Rattle.pp_state.specs.Numbers.{with_number}
use Rattle.pp_state.specs.declared.state.State.{State}
use Rattle.pp_waits_law.proofs.Like.{as_many, none_some}
use Rattle.pp_waits_law.proofs.Places.{all_there, as_many as all_places, how_many}
use Rattle.pp_waits_law.proofs.Rising.{false_true, few, has_read, has_with, is_itself, is_same, longer, or_there, same_lists}
use Rattle.pp_waits_law.proofs.Says.{its_test}
use Rattle.pp_waits_law.specs.Asleep.{LooksAtAll, WereRead}

same_some : {A : Type 0} {x y : A} → Some x ≡ Some y → x ≡ y
same_some e = cc e

-- ---- of the list

pub its_number : (seats : List Seat) (i : ℕ) (seat : Seat) → slice_get seats i ≡ Some seat → slice_get (numbers_of seats) i ≡ Some seat.client.id
its_number [] i seat here = absurd (none_some here)
its_number (first ∷ seats) zero seat here = ap (λ (x : Seat). Some x.client.id) (same_some here)
its_number (first ∷ seats) (suc i) seat here = its_number seats i seat here

pub has_at : (ns : List ℕ) (i n : ℕ) → slice_get ns i ≡ Some n → has_number n ns ≡ true
has_at [] i n here = absurd (none_some here)
has_at (m ∷ ns) zero n here = ap (λ (b : Bool). b || has_number n ns) (ap (λ (k : ℕ). k == n) (same_some here) ∙ is_itself n)
has_at (m ∷ ns) (suc i) n here = or_there (m == n) (has_number n ns) (has_at ns i n here)

pub record IsOf (n : ℕ) (seats : List Seat) : Type 0 where
  pub place : ℕ
  pub seat : Seat
  pub here : slice_get seats place ≡ Some seat
  pub is : seat.client.id ≡ n

pub found : (n : ℕ) (seats : List Seat) → has_number n (numbers_of seats) ≡ true → IsOf n seats
found n [] has = absurd (cc has)
found n (seat ∷ seats) has = by (seat.client.id == n) refl has (λ rest. found n seats rest)
  where
    by : (b : Bool) → (seat.client.id == n) ≡ b → (b || has_number n (numbers_of seats)) ≡ true → (has_number n (numbers_of seats) ≡ true → IsOf n seats) → IsOf n (seat ∷ seats)
    by true is there rest = record { place = 0; seat = seat; here = refl; is = is_same seat.client.id n is }
    by false is there rest = let its : IsOf n seats = rest there in record { place = suc its.place; seat = its.seat; here = its.here; is = its.is }

place_is : (n : ℕ) (ns : List ℕ) (i : ℕ) → AreInOrder ns → slice_get ns i ≡ Some n → place_of n ns ≡ Some i
place_is n ns i order here =
    let less : i < length ns = slice_get_within ns i n here in
    found-at n ns i order less (same_some (sym (slice_get-get_or ns i 0 less) ∙ here))

pub one_place : (n : ℕ) (ns : List ℕ) (i j : ℕ) → AreInOrder ns → slice_get ns i ≡ Some n → slice_get ns j ≡ Some n → i ≡ j
one_place n ns i j order here there = same_some (sym (place_is n ns i order here) ∙ place_is n ns j order there)

pub in_those : (test : Seat → Bool) (n : ℕ) (seats : List Seat) → has_number n (numbers_of (filter test seats)) ≡ true → has_number n (numbers_of seats) ≡ true
in_those test n [] has = has
in_those test n (seat ∷ seats) has = by (test seat) (seat.client.id == n) has (λ rest. in_those test n seats rest)
  where
    by : (b c : Bool) → has_number n (numbers_of (cond b (seat ∷ filter test seats) (filter test seats))) ≡ true → (has_number n (numbers_of (filter test seats)) ≡ true → has_number n (numbers_of seats) ≡ true) → ((seat.client.id == n) || has_number n (numbers_of seats)) ≡ true
    by true c there rest = either (seat.client.id == n) there rest
      where
        either : (x : Bool) → (x || has_number n (numbers_of (filter test seats))) ≡ true → (has_number n (numbers_of (filter test seats)) ≡ true → has_number n (numbers_of seats) ≡ true) → (x || has_number n (numbers_of seats)) ≡ true
        either true is more = refl
        either false is more = more is
    by false c there rest = or_there (seat.client.id == n) (has_number n (numbers_of seats)) (rest there)

-- ---- of one place behind the other

module _ (seats : List Seat) (order : AreInOrder (numbers_of seats)) (room : length seats ≤ 320) where
  record IsAmong (ms : List ℕ) : Type 0 where
    rises : AreInOrder ms
    of_them : (n : ℕ) → has_number n ms ≡ true → has_number n (numbers_of seats) ≡ true

  here_it_is : (i : ℕ) (seat : Seat) → slice_get seats i ≡ Some seat → has_number seat.client.id (numbers_of seats) ≡ true
  here_it_is i seat here = has_at (numbers_of seats) i seat.client.id (its_number seats i seat here)

  room_for_one : (i : ℕ) (seat : Seat) (ms : List ℕ) → slice_get seats i ≡ Some seat → IsAmong ms → has_number seat.client.id ms ≡ false → length ms < 320
  room_for_one i seat ms here among out =
      let fits : length (with_number seat.client.id ms) ≤ length (numbers_of seats) =
      few 0 (with_number seat.client.id ms) (numbers_of seats) (above_none (with_number seat.client.id ms) (with_in_order seat.client.id ms among.rises)) (above_none (numbers_of seats) order)
      (λ n has. by n (seat.client.id == n) refl (sym (has_with n seat.client.id ms) ∙ has)) in
      let more : length (with_number seat.client.id ms) ≡ suc (length ms) = longer seat.client.id ms out in
      omega (arith, fits, more, as_many seats, room)
    where
      by : (n : ℕ) (b : Bool) → (seat.client.id == n) ≡ b → (b || has_number n ms) ≡ true → has_number n (numbers_of seats) ≡ true
      by n true is has = subst (λ (k : ℕ). has_number k (numbers_of seats) ≡ true) (is_same seat.client.id n is) (here_it_is i seat here)
      by n false is has = among.of_them n has

  its_read : (i j : ℕ) (seat : Seat) (ms : List ℕ) → slice_get seats i ≡ Some seat → IsAmong ms → has_number j (with_read_of (Some seat) ms) ≡ cond (seat.client.id == j) (is_read seat) (has_number j ms)
  its_read i j seat ms here among = has_read j seat.client.id (is_read seat) ms (λ is out. room_for_one i seat ms here among out)

  one_among : (i : ℕ) (ms : List ℕ) → IsAmong ms → IsAmong (with_read seats ms i)
  one_among i ms among = by (slice_get seats i) refl
    where
      of_it : (seat : Seat) (n : ℕ) → slice_get seats i ≡ Some seat → (b : Bool) → (seat.client.id == n) ≡ b → cond b (is_read seat) (has_number n ms) ≡ true → has_number n (numbers_of seats) ≡ true
      of_it seat n here true is has = subst (λ (k : ℕ). has_number k (numbers_of seats) ≡ true) (is_same seat.client.id n is) (here_it_is i seat here)
      of_it seat n here false is has = among.of_them n has

      by : (o : Option Seat) → slice_get seats i ≡ o → IsAmong (with_read_of o ms)
      by None none = among
      by (Some seat) here = record {
        rises = read_in_order (is_read seat) seat.client.id ms among.rises;
        of_them = λ n has. of_it seat n here (seat.client.id == n) refl (sym (its_read i n seat ms here among) ∙ has);
      }

  all_among : (is : List ℕ) (ms : List ℕ) → IsAmong ms → IsAmong (fold (with_read seats) ms is)
  all_among [] ms among = among
  all_among (i ∷ is) ms among = all_among is (with_read seats ms i) (one_among i ms among)

  module _ (k : ℕ) (seat : Seat) (here : slice_get seats k ≡ Some seat) where
    one_is : (i : ℕ) (ms : List ℕ) → IsAmong ms → has_number seat.client.id (with_read seats ms i) ≡ cond (i == k) (is_read seat) (has_number seat.client.id ms)
    one_is i ms among = by (slice_get seats i) refl (i == k) refl
      where
        by : (o : Option Seat) → slice_get seats i ≡ o → (b : Bool) → (i == k) ≡ b → has_number seat.client.id (with_read_of o ms) ≡ cond b (is_read seat) (has_number seat.client.id ms)
        by None none true is = absurd (none_some (sym none ∙ ap (λ (j : ℕ). slice_get seats j) (is_same i k is) ∙ here))
        by None none false is = refl
        by (Some other) there true is =
            let same : other ≡ seat = same_some (sym there ∙ ap (λ (j : ℕ). slice_get seats j) (is_same i k is) ∙ here) in
            its_read i seat.client.id other ms there among
            ∙ ap (λ (x : Seat). cond (x.client.id == seat.client.id) (is_read x) (has_number seat.client.id ms)) same
            ∙ ap (λ (b : Bool). cond b (is_read seat) (has_number seat.client.id ms)) (is_itself seat.client.id)
        by (Some other) there false is = its_read i seat.client.id other ms there among ∙ ap (λ (b : Bool). cond b (is_read other) (has_number seat.client.id ms)) (apart (other.client.id == seat.client.id) refl)
          where
            apart : (b : Bool) → (other.client.id == seat.client.id) ≡ b → (other.client.id == seat.client.id) ≡ false
            apart false isnt = isnt
            apart true same =
                let place : i ≡ k = one_place seat.client.id (numbers_of seats) i k order (its_number seats i other there ∙ ap (λ (n : ℕ). Some n) (is_same other.client.id seat.client.id same)) (its_number seats k seat here) in
                absurd (false_true is (ap (λ (j : ℕ). j == k) place ∙ is_itself k))

    all_is : (is : List ℕ) (ms : List ℕ) → IsAmong ms → has_number seat.client.id (fold (with_read seats) ms is) ≡ cond (has_number k is) (is_read seat) (has_number seat.client.id ms)
    all_is [] ms among = refl
    all_is (i ∷ is) ms among =
        all_is is (with_read seats ms i) (one_among i ms among)
        ∙ ap (λ (b : Bool). cond (has_number k is) (is_read seat) b) (one_is i ms among)
        ∙ both (has_number k is) (i == k) (is_read seat) (has_number seat.client.id ms)
      where
        both : (a b r h : Bool) → cond a r (cond b r h) ≡ cond (b || a) r h
        both true true r h = refl
        both true false r h = refl
        both false true r h = refl
        both false false r h = refl

-- ---- all of them

module _ (p : State) (before : List ℕ) (seated : AreSeated p) (given : AreGiven 0 (length p.seats.items) p.awake.items) (room : length p.seats.items ≤ 320) (were : WereRead before p)
    (quiet : (i : ℕ) (seat : Seat) → slice_get p.seats.items i ≡ Some seat → has_number i p.awake.items ≡ false → is_read seat ≡ true) where
  begins : (b : Bool) → (length p.awake.items == length p.seats.items) ≡ b → IsAmong p.seats.items seated room (cond b [] before)
  begins true is = record { rises = λ i j less within. absurd (omega (arith, within)); of_them = λ n has. absurd (let no : false ≡ true = has in cc no) }
  begins false is = record { rises = were.order; of_them = by were.known }
    where
      by : LooksAtAll p ⊎ ((n : ℕ) → has_number n before ≡ true → has_number n (numbers_of p.seats.items) ≡ true) → (n : ℕ) → has_number n before ≡ true → has_number n (numbers_of p.seats.items) ≡ true
      by (inr there) n has = there n has
      by (inl all) n has =
          let many : length p.seats.items ≤ 0 + length p.awake.items = all_places 0 (length p.seats.items) p.awake.items given (λ k from less. all k less) in
          absurd (as_long (length p.awake.items) (length p.seats.items) many (how_many 0 (length p.seats.items) p.awake.items given) is)
        where
          as_long : (a b : ℕ) → b ≤ 0 + a → 0 + a ≤ b → (a == b) ≡ false → ⊥
          as_long a b one two isnt = false_true isnt (grind (arith, nat_tests, one, two))

  all_of : IsAmong p.seats.items seated room (all_read p before)
  all_of = all_among p.seats.items seated room p.awake.items (read_before p before) (begins (length p.awake.items == length p.seats.items) refl)

  each : (k : ℕ) (seat : Seat) → slice_get p.seats.items k ≡ Some seat → has_number seat.client.id (all_read p before) ≡ is_read seat
  each k seat here =
      all_is p.seats.items seated room k seat here p.awake.items (read_before p before) (begins (length p.awake.items == length p.seats.items) refl)
      ∙ by (has_number k p.awake.items) refl (length p.awake.items == length p.seats.items) refl
    where
      within : k < length p.seats.items
      within = slice_get_within p.seats.items k seat here

      by : (b : Bool) → has_number k p.awake.items ≡ b → (c : Bool) → (length p.awake.items == length p.seats.items) ≡ c → cond b (is_read seat) (has_number seat.client.id (cond c [] before)) ≡ is_read seat
      by true looked c is = refl
      by false out true is =
          absurd (false_true out (all_there 0 (length p.seats.items) k p.awake.items given (same_length (length p.awake.items) (length p.seats.items) (is_same (length p.awake.items) (length p.seats.items) is)) (omega arith) within))
        where
          same_length : (a b : ℕ) → a ≡ b → b ≤ 0 + a
          same_length a b same = omega (arith, same)
      by false out false is = were.asleep k seat.client.id (its_number p.seats.items k seat here) out ∙ sym (quiet k seat here out)

  pub read_written : all_read p before ≡ numbers_of (filter is_read p.seats.items)
  read_written = same_lists 0 (all_read p before) (numbers_of (filter is_read p.seats.items)) (above_none (all_read p before) all_of.rises) (above_none (numbers_of (filter is_read p.seats.items)) (order_kept is_read p.seats.items seated))
      (λ n. by n (has_number n (numbers_of p.seats.items)) refl)
    where
      off : (b c : Bool) → (b ≡ true → c ≡ true) → c ≡ false → b ≡ false
      off true c then isnt = absurd (false_true isnt (then refl))
      off false c then isnt = refl

      by : (n : ℕ) (b : Bool) → has_number n (numbers_of p.seats.items) ≡ b → has_number n (all_read p before) ≡ has_number n (numbers_of (filter is_read p.seats.items))
      by n true there =
          let its : IsOf n p.seats.items = found n p.seats.items there in
          subst (λ (m : ℕ). has_number m (all_read p before) ≡ has_number m (numbers_of (filter is_read p.seats.items))) its.is
          (each its.place its.seat its.here ∙ sym (its_test is_read p.seats.items its.place its.seat seated its.here))
      by n false out =
          off (has_number n (all_read p before)) (has_number n (numbers_of p.seats.items)) (λ has. all_of.of_them n has) out
          ∙ sym (off (has_number n (numbers_of (filter is_read p.seats.items))) (has_number n (numbers_of p.seats.items)) (λ has. in_those is_read n p.seats.items has) out)
