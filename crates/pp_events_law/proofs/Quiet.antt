-- Where the reply of one client ends, and of no other, what is done to all that are looked at is what is done to it, in the program and in the
-- law; and behind it no reply is over.
use Rattle.std.proofs.Common.{◌≡◌, refl, sym, subst, ap, ap₂, ◌∙◌, ℕ, ◌+◌, ◌<◌, Bool, true, false, not, ◌==◌, ◌&&◌, ◌||◌, find, map, List, [], ◌∷◌, Option, Some, None, arith}
use Rattle.std.specs.Prelude.{slice_get, slice_set}
use Rattle.pp_cache_law.proofs.Numbers.{is_same, same_test, some_is}
use Rattle.pp_client.specs.Clients.{said_by as side_said}
use Rattle.pp_client.specs.Replies.{has_begun as is_said_to, is_said}
use Rattle.pp_clients_obey.proofs.Walks.{Changes, end_none, found_in, is_among, walk}
use Rattle.pp_turns_law.specs.Sides.{ShowsSides}
use Rattle.pp_turns_law.proofs.Sitting.{is_at, on_seat_is}
use Rattle.pp_desk.specs.Closings.{Sides, with_parts}
use Rattle.pp_desk.specs.Replies.{EndsSaid, EndsSaidOf, EndsWhere}
use Rattle.pp_endings_law.proofs.Closes.{set_itself}
use Rattle.pp_endings_law.proofs.Kept.{KeepsNumber, find_other}
use Rattle.pp_endings_law.proofs.Left.{with_seats}
use Rattle.pp_endings_law.proofs.Nothing.{over_same, unsaid_end}
use Rattle.pp_events_law.proofs.Beside.{IsBeside, ends_of}
use Rattle.pp_events_law.proofs.Lists.{first_off, rest_off}
use Rattle.pp_events_law.proofs.Rests.{none_each}
use Rattle.pp_flow_law.specs.Tables.{AreGiven}
use Rattle.pp_law.specs.Connections.{client, each_client, is_client, on_client}
use Rattle.pp_law.specs.Lists.{Bytes, change, has_number}
use Rattle.pp_law.specs.Replies.{close_finished, end_replies, end_said, is_said as is_over}
use Rattle.pp_law.specs.State.{State, Client}
use Rattle.pp_seats.specs.Courses.{has_begun}
use Rattle.pp_seats.specs.Seats.{passed_in}
use Rattle.pp_seats.specs.declared.seat.Seat.{Seat}
use Rattle.pp_seats_law.proofs.AllSeats.{places}
use Rattle.pp_seats_law.proofs.SaidWhole.{ends_same}
use Rattle.pp_seats_law.specs.Clients.{IsFound}
use Rattle.pp_seats_law.specs.Seats.{ShowsSeat}
use Rattle.pp_state.specs.Ends.{Parts, on_seat}
use Rattle.pp_state.specs.Hearing.{is_passed_whole, is_said as is_said_whole, is_said_in, with_end}
use Rattle.pp_turns_law.proofs.First.{above}

-- ---- of whom nothing ends

abbrev pub IsSilent : Client → Type 0
IsSilent c = (is_over c && not c.is_closing) ≡ false

-- of all in the law
abbrev pub AreSilent : State → Type 0
AreSilent s = (n : ℕ) (c : Client) → client s n ≡ Some c → IsSilent c

-- its reply is not over, and stays as it is
pub record IsQuiet (seat : Seat) : Type 0 where
  pub said : is_said_whole seat ≡ false
  pub same : with_end seat ≡ seat

none_of : (a b : Bool) → (a && not b) ≡ false → b ≡ false → a ≡ false
none_of false b is going = refl
none_of true false is going = absurd (cc is)
none_of true true is going = absurd (cc going)

closed_end : (seat : Seat) → seat.is_closing ≡ true → with_end seat ≡ seat
closed_end seat closing = ap (λ (b : Bool). end_as (may_by b)) closing
  where
    may_by : Bool → Bool
    may_by b = (not b && has_begun seat) && is_passed_whole (passed_in seat.brought) && is_said_to seat.client.reply.stage

    end_as : Bool → Seat
    end_as b = elim b [ true ↦ record seat { client = side_said 0 seat.client } | false ↦ seat ]

-- one that is silent in the law
quiet : (number : ℕ → ℕ) (name : Bytes) (seat : Seat) (c : Client) → ShowsSeat number name [] seat c → IsSilent c → IsQuiet seat
quiet number name seat c shows silent = record { said = over_same number name seat c shows (λ going over. absurd (let both : true ≡ false = sym over ∙ unsaid going in cc both)) ∙ silent; same = by c.is_closing refl }
  where
    unsaid : c.is_closing ≡ false → is_said seat.client.reply ≡ false
    unsaid going = ends_same number name [] seat c (shows.going going) ∙ none_of (is_over c) c.is_closing silent going

    by : (b : Bool) → c.is_closing ≡ b → with_end seat ≡ seat
    by true closing = closed_end seat (shows.closing ∙ closing)
    by false going = unsaid_end seat (unsaid going)

abbrev pub AreQuiet : List Seat → Type 0
AreQuiet seats = (i : ℕ) (seat : Seat) → slice_get seats i ≡ Some seat → IsQuiet seat

pub all_quiet : (number : ℕ → ℕ) (name : Bytes) (x : Sides) (s : State) → ShowsSides number name x s → AreSilent s → AreQuiet x.parts.seats
all_quiet number name x s shows silent i seat here =
    let found : IsFound number name [] seat seat.client.id s.clients =
    places number name [] x.parts.seats s.clients seat.client.id i seat shows.steps.shows.clients (is_at i x.parts.seats seat shows.steps.order here) here in
    quiet number name seat found.client found.shows (silent seat.client.id found.client found.there)

-- ---- in the program, of those at these places

on_quiet : (j : ℕ) (x : Sides) (seat : Seat) → slice_get x.parts.seats j ≡ Some seat → IsQuiet seat → with_parts (on_seat j with_end) x ≡ x
on_quiet j x seat here its =
    ap (λ (p : Parts). let w : Sides = record x { parts = p } in w) (on_seat_is j with_end x.parts seat here)
    ∙ ap (λ (a : Seat). with_seats (slice_set x.parts.seats j a) x) its.same
    ∙ set_itself j x seat here

on_nobody : (j : ℕ) (x : Sides) → slice_get x.parts.seats j ≡ None → with_parts (on_seat j with_end) x ≡ x
on_nobody j x none = ap (λ (o : Option Seat). let w : Sides = record x { parts = record x.parts { seats = elim o as (λ t. List Seat) [ None ↦ x.parts.seats | Some seat ↦ slice_set x.parts.seats j (with_end seat) ] } } in w) none

abbrev QuietAt : ℕ → Sides → Type 0
QuietAt j x = (seat : Seat) → slice_get x.parts.seats j ≡ Some seat → IsQuiet seat

-- nothing is done
record StaysAt (j : ℕ) (x : Sides) : Type 0 where
  none : is_said_in (slice_get x.parts.seats j) ≡ false
  same : with_parts (on_seat j with_end) x ≡ x

stays_at : (j : ℕ) (x : Sides) → QuietAt j x → StaysAt j x
stays_at j x its = by (slice_get x.parts.seats j) refl
  where
    by : (o : Option Seat) → slice_get x.parts.seats j ≡ o → StaysAt j x
    by None none = record { none = ap is_said_in none; same = on_nobody j x none }
    by (Some seat) here = record { none = ap is_said_in here ∙ (its seat here).said; same = on_quiet j x seat here (its seat here) }

none_at : (j : ℕ) (x z : Sides) → QuietAt j x → EndsSaidOf j x z → z ≡ x
none_at j x z its is =
    let stays : StaysAt j x = stays_at j x its in
    let then : EndsWhere false j (with_parts (on_seat j with_end) x) z = subst (λ (b : Bool). EndsWhere b j (with_parts (on_seat j with_end) x) z) stays.none is in
    then ∙ stays.same

at_rest : (j : ℕ) (x : Sides) → QuietAt j x → EndsSaidOf j x x
at_rest j x its =
    let stays : StaysAt j x = stays_at j x its in
    subst (λ (b : Bool). EndsWhere b j (with_parts (on_seat j with_end) x) x) (sym stays.none) (sym stays.same)

pub none_said : (is : List ℕ) (x : Sides) → AreQuiet x.parts.seats → EndsSaid is x x
none_said [] x quiet = refl
none_said (j ∷ is) x quiet = (x, at_rest j x (λ seat here. quiet j seat here), none_said is x quiet)

off : (i j : ℕ) → (j == i) ≡ false → (i == j) ≡ false
off i j is = by (i == j) refl
  where
    by : (b : Bool) → (i == j) ≡ b → b ≡ false
    by false same = refl
    by true same = absurd (let both : true ≡ false = sym (same_test j i (sym (is_same i j same))) ∙ is in cc both)

abbrev pub QuietBut : ℕ → Sides → Type 0
QuietBut i x = (j : ℕ) → (i == j) ≡ false → QuietAt j x

-- where it is not among them
none_among : (i : ℕ) (is : List ℕ) (x z : Sides) → has_number i is ≡ false → QuietBut i x → EndsSaid is x z → z ≡ x
none_among i [] x z none quiet ends = ends
none_among i (j ∷ is) x z none quiet ends =
    let same : ends.0 ≡ x = none_at j x ends.0 (quiet j (off i j (first_off (j == i) (has_number i is) none))) ends.1 in
    none_among i is x z (rest_off (j == i) (has_number i is) none) quiet (subst (λ (w : Sides). EndsSaid is w z) same ends.2)

-- of all that are looked at its reply alone ends
pub one_ends : (i low high : ℕ) (is : List ℕ) (x z : Sides) → AreGiven low high is → has_number i is ≡ true → QuietBut i x → EndsSaid is x z → EndsSaidOf i x z
one_ends i low high [] x z given has quiet ends = absurd (cc has)
one_ends i low high (j ∷ is) x z given has quiet ends = by (λ found rest. one_ends i (j + 1) high is x z given.1 found quiet rest) (j == i) refl has
  where
    less : (a : ℕ) → a < a + 1
    less a = omega arith

    by : (has_number i is ≡ true → EndsSaid is x z → EndsSaidOf i x z) → (b : Bool) → (j == i) ≡ b → (b || has_number i is) ≡ true → EndsSaidOf i x z
    by more true same found =
        let its : EndsSaidOf i x ends.0 = subst (λ (n : ℕ). EndsSaidOf n x ends.0) (is_same j i same) ends.1 in
        let beside : IsBeside i x ends.0 = ends_of i x ends.0 its in
        let past : has_number i is ≡ false = subst (λ (n : ℕ). has_number n is ≡ false) (is_same j i same) (above (j + 1) high j is given.1 (less j)) in
        subst (λ (w : Sides). EndsSaidOf i x w) (sym (none_among i is ends.0 z past (λ k apart seat here. quiet k apart seat (sym (beside.others k apart) ∙ here)) ends.2)) its
    by more false apart found =
        let same : ends.0 ≡ x = none_at j x ends.0 (quiet j (off i j apart)) ends.1 in
        more found (subst (λ (w : Sides). EndsSaid is w z) same ends.2)

-- ---- in the law

numbers_kept : (n : ℕ) (f : Client → Client) → KeepsNumber f → (cs : List Client) → map (λ (c : Client). c.number) (change (is_client n) f cs) ≡ map (λ (c : Client). c.number) cs
numbers_kept n f keeps [] = refl
numbers_kept n f keeps (c ∷ cs) = ap₂ (λ (m : ℕ) (ms : List ℕ). m ∷ ms) (by (is_client n c)) (numbers_kept n f keeps cs)
  where
    by : (b : Bool) → (elim b as (λ t. Client) [ true ↦ f c | false ↦ c ]).number ≡ c.number
    by true = keeps c
    by false = refl

-- one client was changed by it, and by what ends of it, and the others are silent
pub record EndsOne (n : ℕ) (f g : Client → Client) (c : Client) (s t : State) : Type 0 where
  pub there : client s n ≡ Some c
  pub first : KeepsNumber f
  pub then : KeepsNumber g
  pub ends : end_said (f c) (on_client n f s) ≡ t
  pub clients : t.clients ≡ change (is_client n) g s.clients
  pub silent : IsSilent (g c)
  pub others : AreSilent s

module _ (n : ℕ) (f g : Client → Client) (c : Client) (s t : State) (one : EndsOne n f g c s t) where
  abbrev m : State
  m = on_client n f s

  same_clients : m.clients ≡ change (is_client n) f s.clients
  unfolding on_client
  same_clients = refl

  other_then : (h : Client → Client) → KeepsNumber h → (u : State) → u.clients ≡ change (is_client n) h s.clients → (a : ℕ) (d : Client) → (a == n) ≡ false → client u a ≡ Some d → IsSilent d
  other_then h keeps u same a d apart there = one.others a d (sym (find_other n a h keeps apart s.clients) ∙ sym (ap (λ (cs : List Client). find (is_client a) cs) same) ∙ there)

  its_now : client m n ≡ Some (f c)
  its_now = ap (λ (cs : List Client). find (is_client n) cs) same_clients ∙ found_in f one.first n s.clients c one.there

  its_then : client t n ≡ Some (g c)
  its_then = ap (λ (cs : List Client). find (is_client n) cs) one.clients ∙ found_in g one.then n s.clients c one.there

  changes : Changes end_said n m t
  changes = record {
    here = f c;
    found = its_now;
    leads = one.ends;
    now = g c;
    again = its_then;
    stays = end_none (g c) t one.silent;
    others = λ a d apart there. end_none d m (other_then f one.first m same_clients a d apart there);
    others_then = λ a d apart there. end_none d t (other_then g one.then t one.clients a d apart there);
  }

  pub all_silent : AreSilent t
  all_silent a d there = by (a == n) refl
    where
      by : (b : Bool) → (a == n) ≡ b → IsSilent d
      by false apart = other_then g one.then t one.clients a d apart there
      by true same =
          let its : client t n ≡ Some d = sym (ap (λ (k : ℕ). client t k) (is_same a n same)) ∙ there in
          subst (λ (e : Client). IsSilent e) (some_is (g c) d (sym its_then ∙ its)) one.silent

  numbers : map (λ (d : Client). d.number) m.clients ≡ map (λ (d : Client). d.number) t.clients
  numbers =
      ap (λ (cs : List Client). map (λ (d : Client). d.number) cs) same_clients ∙ numbers_kept n f one.first s.clients
      ∙ sym (ap (λ (cs : List Client). map (λ (d : Client). d.number) cs) one.clients ∙ numbers_kept n g one.then s.clients)

  -- what is left then are clients of whom nothing is left to answer
  pub ends_there : end_replies m ≡ end_replies t
  unfolding end_replies
  ends_there =
      let ms : List ℕ = map (λ (d : Client). d.number) m.clients in
      let ts : List ℕ = map (λ (d : Client). d.number) t.clients in
      ap (λ (u : State). each_client close_finished ms u) (walk end_said n m t changes ms (is_among n m.clients (f c) its_now))
      ∙ ap (λ (ns : List ℕ). each_client close_finished ns t) numbers
      ∙ sym (ap (λ (u : State). each_client close_finished ts u) (none_each end_said t (λ a d there. end_none d t (all_silent a d there)) ts))
