-- Where clients and instances stand, while replies begin one behind the other.
use Rattle.std.proofs.Common.{◌≡◌, ◌≤◌, ◌<◌, refl, sym, subst, ap, ◌∙◌, ℕ, zero, suc, ◌+◌, Bool, true, false, not, ◌&&◌, ◌||◌, ◌==◌, cond, nat_lt, find, map, length, List, [], ◌∷◌, Option, Some, None, arith}
use Rattle.std.proofs.lemmas.Bool.Decides.{nat_tests}
use Rattle.std.specs.List.{list_any}
use Rattle.std.specs.Prelude.{slice_get}
use Rattle.pp_cache.specs.Memory.{Memory}
use Rattle.pp_cache_law.proofs.Finds.{find_passes}
use Rattle.pp_cache_law.proofs.Numbers.{is_same, number_of_there, same_test, some_is, true_false}
use Rattle.pp_cache_law.proofs.PairLemmas.{AreOnly, found}
use Rattle.pp_cache_law.specs.Pairs.{AreBoth}
use Rattle.pp_cache_law.specs.Tables.{ShowsInstance, ShowsTable, number_in}
use Rattle.pp_flow_law.proofs.Entries.{none_some}
use Rattle.pp_flow_law.specs.Tables.{AreGiven}
use Rattle.pp_law.specs.Closing.{forsake, is_of, left_alone}
use Rattle.pp_law.specs.Connections.{is_client}
use Rattle.pp_law.specs.Lists.{Bytes, change}
use Rattle.pp_law.specs.Replies.{begun_at_end, instance_head}
use Rattle.pp_law.specs.Requests.{Parsed}
use Rattle.pp_law.specs.Stages.{is_headed, is_undecided}
use Rattle.pp_law.specs.State.{State, Client, Exchange, Instance as Known, Stage, Undecided, Waiting, Passing, Answering}
use Rattle.pp_law.specs.Table.{instance, is_instance, swept}
use Rattle.pp_objects.specs.Instances.{Instance, id_of, in_slot, is_life, is_there}
use Rattle.pp_objects.specs.declared.id.ObjectId.{ObjectId}
use Rattle.pp_seats.specs.Heads.{is_there_in}
use Rattle.pp_seats.specs.Seats.{is_silent, is_undecided_in}
use Rattle.pp_seats.specs.declared.seat.Seat.{Seat}
use Rattle.pp_seats_law.proofs.Stages.{undecided}
use Rattle.pp_seats_law.specs.Clients.{AreShown, IsAt, IsNowhere}
use Rattle.pp_seats_law.specs.Seats.{ShowsOpen, ShowsSeat}
use Rattle.pp_turns_law.proofs.Asleep.{silent_first}
use Rattle.pp_world.specs.declared.note.Decision.{Decision}
use Rattle.pp_world.specs.declared.note.Decision.TheVariants.{Refuse, Hit, Part, Head, NotModified, Unsatisfiable, Relay, Validate, Fetch, Pass}
use Rattle.pp_turns_law.proofs.AtOnce.{begun_if, begun_of, outrun_if}
use Rattle.pp_turns_law.proofs.Each.{Each}
use Rattle.pp_turns_law.proofs.Regained.{next_suc}
use Rattle.pp_turns_law.proofs.Turned.{by_stage, quiet}

-- ---- the client at a place

pub find_at : (number : ℕ → ℕ) (name : Bytes) (n i : ℕ) (seats : List Seat) (cs : List Client) (c : Client) → AreShown number name [] seats cs → IsAt n i seats → slice_get cs i ≡ Some c → find (is_client n) cs ≡ Some c
find_at number name n i [] cs c shown at here = absurd at
find_at number name n i (seat ∷ seats) [] c shown at here = absurd shown
find_at number name n zero (seat ∷ seats) (d ∷ cs) c shown at here =
    ap (λ (b : Bool). cond b (Some d) (find (is_client n) cs)) (ap (λ (m : ℕ). m == n) (sym shown.0.number) ∙ at.0) ∙ here
find_at number name n (suc i) (seat ∷ seats) (d ∷ cs) c shown at here =
    ap (λ (b : Bool). cond b (Some d) (find (is_client n) cs)) (ap (λ (m : ℕ). m == n) (sym shown.0.number) ∙ at.0) ∙ find_at number name n i seats cs c shown.1 at.1 here

nowhere_only : (number : ℕ → ℕ) (name : Bytes) (n : ℕ) (seats : List Seat) (cs : List Client) (c : Client) → AreShown number name [] seats cs → IsNowhere n seats → AreOnly (is_client n) c cs
nowhere_only number name n [] [] c shown none = tt
nowhere_only number name n [] (d ∷ cs) c shown none = absurd shown
nowhere_only number name n (seat ∷ seats) [] c shown none = absurd shown
nowhere_only number name n (seat ∷ seats) (d ∷ cs) c shown none =
    ((λ is. absurd (true_false (sym is ∙ ap (λ (m : ℕ). m == n) (sym shown.0.number) ∙ none.0))), nowhere_only number name n seats cs c shown.1 none.1)

pub only_at : (number : ℕ → ℕ) (name : Bytes) (n i : ℕ) (seats : List Seat) (cs : List Client) (c : Client) → AreShown number name [] seats cs → IsAt n i seats → slice_get cs i ≡ Some c → AreOnly (is_client n) c cs
only_at number name n i [] cs c shown at here = absurd at
only_at number name n i (seat ∷ seats) [] c shown at here = absurd shown
only_at number name n zero (seat ∷ seats) (d ∷ cs) c shown at here = ((λ is. some_is d c here), nowhere_only number name n seats cs c shown.1 at.1)
only_at number name n (suc i) (seat ∷ seats) (d ∷ cs) c shown at here =
    ((λ is. absurd (true_false (sym is ∙ ap (λ (m : ℕ). m == n) (sym shown.0.number) ∙ at.0))), only_at number name n i seats cs c shown.1 at.1 here)

-- no other has its number
nowhere_at : (number : ℕ → ℕ) (name : Bytes) (n j : ℕ) (seats : List Seat) (cs : List Client) (d : Client) → AreShown number name [] seats cs → IsNowhere n seats → slice_get cs j ≡ Some d → is_client n d ≡ false
nowhere_at number name n j [] [] d shown none here = absurd (none_some d here)
nowhere_at number name n j [] (x ∷ cs) d shown none here = absurd shown
nowhere_at number name n j (seat ∷ seats) [] d shown none here = absurd shown
nowhere_at number name n zero (seat ∷ seats) (x ∷ cs) d shown none here = ap (λ (y : Client). y.number == n) (sym (some_is x d here)) ∙ ap (λ (m : ℕ). m == n) (sym shown.0.number) ∙ none.0
nowhere_at number name n (suc j) (seat ∷ seats) (x ∷ cs) d shown none here = nowhere_at number name n j seats cs d shown.1 none.1 here

zero_itself : (zero == zero) ≡ true
zero_itself = same_test zero zero refl

pub other_at : (number : ℕ → ℕ) (name : Bytes) (n i j : ℕ) (seats : List Seat) (cs : List Client) (d : Client) → AreShown number name [] seats cs → IsAt n i seats → slice_get cs j ≡ Some d → (i == j) ≡ false → is_client n d ≡ false
other_at number name n i j [] cs d shown at here apart = absurd at
other_at number name n i j (seat ∷ seats) [] d shown at here apart = absurd shown
other_at number name n zero zero (seat ∷ seats) (x ∷ cs) d shown at here apart = absurd (true_false (sym zero_itself ∙ apart))
other_at number name n zero (suc j) (seat ∷ seats) (x ∷ cs) d shown at here apart = nowhere_at number name n j seats cs d shown.1 at.1 here
other_at number name n (suc i) zero (seat ∷ seats) (x ∷ cs) d shown at here apart = ap (λ (y : Client). y.number == n) (sym (some_is x d here)) ∙ ap (λ (m : ℕ). m == n) (sym shown.0.number) ∙ at.0
other_at number name n (suc i) (suc j) (seat ∷ seats) (x ∷ cs) d shown at here apart = other_at number name n i j seats cs d shown.1 at.1 here (sym (next_suc i j) ∙ apart)

-- it is shown by the seat at that place
pub shown_at : (number : ℕ → ℕ) (name : Bytes) (i : ℕ) (seats : List Seat) (cs : List Client) (seat : Seat) (c : Client) → AreShown number name [] seats cs → slice_get seats i ≡ Some seat → slice_get cs i ≡ Some c → ShowsSeat number name [] seat c
shown_at number name i [] cs seat c shown here there = absurd (none_some seat here)
shown_at number name i (x ∷ xs) [] seat c shown here there = absurd shown
shown_at number name zero (x ∷ xs) (d ∷ cs) seat c shown here there = subst (λ (y : Seat). ShowsSeat number name [] y c) (some_is x seat here) (subst (λ (e : Client). ShowsSeat number name [] x e) (some_is d c there) shown.0)
shown_at number name (suc i) (x ∷ xs) (d ∷ cs) seat c shown here there = shown_at number name i xs cs seat c shown.1 here there

pub each_at : (P : Client → Type 0) (cs : List Client) → ((j : ℕ) (c : Client) → slice_get cs j ≡ Some c → P c) → Each P cs
each_at P [] all = tt
each_at P (c ∷ cs) all = (all 0 c refl, each_at P cs (λ j d at. all (suc j) d at))

-- ---- an instance that stands in the law is there still

pub there_by : (number : ℕ → ℕ) (m k : Memory) (s t : State) (id : ObjectId) (x : Known) → ShowsTable number m s → ShowsTable number k t → is_there id m.instances ≡ true → ((other : ObjectId) → is_there other k.instances ≡ true → is_there other m.instances ≡ true)
    → instance t (number id.life) ≡ Some x → is_there id k.instances ≡ true
there_by number m k s t id x before now there no_more law =
    by (find (λ (i : Instance). number i.life == number id.life) k.instances)
    (subst (λ (o : Option Known). AreBoth (ShowsInstance number k t) (find (λ (i : Instance). number i.life == number id.life) k.instances) o) law
    (found (ShowsInstance number k t) (ShowsInstance number k t) (λ (i : Instance). number i.life == number id.life) (is_instance (number id.life)) k.instances t.instances (λ i y one. ap (λ (n : ℕ). n == number id.life) one.id) (λ i y one is. one) now.instances))
    refl
  where
    at : (i : Instance) → ShowsInstance number k t i x → (number i.life == number id.life) ≡ true → is_there id k.instances ≡ true
    at i one is =
        let here : is_there (id_of i) k.instances ≡ true = ap (λ (o : Option Instance). is_life i.life o) one.there ∙ same_test i.life i.life refl in
        let was : is_there (id_of i) m.instances ≡ true = no_more (id_of i) here in
        let numbered : number i.life ≡ number id.life = is_same (number i.life) (number id.life) is in
        let slots : i.slot ≡ id.slot = before.apart i.slot id.slot (number id.life) (subst (λ (n : ℕ). number_in number i.slot m.instances ≡ Some n) numbered (number_of_there number (id_of i) m.instances was)) (number_of_there number id m.instances there) in
        let lives : i.life ≡ id.life = same_lives (in_slot id.slot m.instances) (subst (λ (n : ℕ). is_life i.life (in_slot n m.instances) ≡ true) slots was) there in
        subst (λ (n : ℕ). is_life n (in_slot id.slot k.instances) ≡ true) lives (subst (λ (n : ℕ). is_life i.life (in_slot n k.instances) ≡ true) slots here)
      where
        same_lives : (o : Option Instance) → is_life i.life o ≡ true → is_life id.life o ≡ true → i.life ≡ id.life
        same_lives None a b = absurd (cc a)
        same_lives (Some y) a b = sym (is_same y.life i.life a) ∙ is_same y.life id.life b

    by : (o : Option Instance) → AreBoth (ShowsInstance number k t) o (Some x) → find (λ (i : Instance). number i.life == number id.life) k.instances ≡ o → is_there id k.instances ≡ true
    by None both is = absurd both
    by (Some i) both is = at i both (find_passes (λ (i : Instance). number i.life == number id.life) k.instances i is)

-- ---- who is asleep begins nothing

not_so : (b : Bool) → not b ≡ true → b ≡ false
not_so false is = refl
not_so true is = absurd (cc is)

silent_fourth : (a b c d : Bool) → (a && b && c && d) ≡ true → d ≡ true
silent_fourth true true true d is = is
silent_fourth true true false d is = absurd (cc is)
silent_fourth true false c d is = absurd (cc is)
silent_fourth false b c d is = absurd (cc is)

undecided_is : (t : Stage) → is_undecided t ≡ true → t ≡ Undecided
undecided_is Undecided is = refl
undecided_is Waiting is = absurd (cc is)
undecided_is Passing is = absurd (cc is)
undecided_is (Answering r) is = absurd (cc is)

pub asleep_stays : (number : ℕ → ℕ) (name : Bytes) (s : State) (seat : Seat) (c : Client) → ShowsSeat number name [] seat c → is_silent seat ≡ true → begun_at_end s c ≡ c
asleep_stays number name s seat c seen silent =
    quiet s c going (λ r front. ap (λ (t : Stage). by_stage s r c t) stage)
  where
    closing : seat.is_closing ≡ false
    closing = not_so seat.is_closing (silent_fourth (is_undecided_in seat.stage) (not (is_there_in seat.front)) (not seat.has_hung_up) (not seat.is_closing) silent)

    going : c.is_closing ≡ false
    going = sym seen.closing ∙ closing

    live : ShowsOpen number name [] seat c
    live = seen.going going

    stage : c.stage ≡ Undecided
    stage = undecided_is c.stage (sym (undecided number name [] seat c live) ∙ silent_first (is_undecided_in seat.stage) (not (is_there_in seat.front)) (not seat.has_hung_up) (not seat.is_closing) silent)

-- ---- the law's state amid it

pub clients_of : (test : Client → Bool) (s : State) → (begun_of test s).clients ≡ map (begun_if test s) s.clients
unfolding begun_of forsake swept
clients_of test s = refl

pub exchanges_of : (test : Client → Bool) (s : State) → (begun_of test s).exchanges ≡ change (outrun_if test s) left_alone s.exchanges
unfolding begun_of forsake swept
exchanges_of test s = refl

pub settings_of : (test : Client → Bool) (s : State) → ((begun_of test s).settings ≡ s.settings) × ((begun_of test s).clock ≡ s.clock)
unfolding begun_of forsake swept
settings_of test s = (refl, refl)

pub head_still : (test : Client → Bool) (s : State) (r : Parsed) (c : Client) (x : Known) (d : Decision) → instance_head (begun_of test s) r c x d ≡ instance_head s r c x d
unfolding begun_of forsake swept
head_still test s r c x (Hit from to) = refl
head_still test s r c x (Part from to) = refl
head_still test s r c x Head = refl
head_still test s r c x NotModified = refl
head_still test s r c x Unsatisfiable = refl
head_still test s r c x (Refuse status) = refl
head_still test s r c x Relay = refl
head_still test s r c x Validate = refl
head_still test s r c x Fetch = refl
head_still test s r c x Pass = refl

-- of those that are left none is of a client
pub still_of : (n : ℕ) (b : Bool) (e : Exchange) → is_of n (elim b as (λ t. Exchange) [ true ↦ left_alone e | false ↦ e ]) ≡ true → is_of n e ≡ true
still_of n true e is = absurd (cc is)
still_of n false e is = is

pub still_unanswered : (n : ℕ) (b : Bool) (e : Exchange) → (is_of n (elim b as (λ t. Exchange) [ true ↦ left_alone e | false ↦ e ]) && not (is_headed (elim b as (λ t. Exchange) [ true ↦ left_alone e | false ↦ e ]))) ≡ true → (is_of n e && not (is_headed e)) ≡ true
still_unanswered n true e is = absurd (cc is)
still_unanswered n false e is = is

pub none_still : {A : Type 0} (p : A → Bool) (f : A → A) (xs : List A) → ((x : A) → p (f x) ≡ true → p x ≡ true) → list_any p xs ≡ false → list_any p (map f xs) ≡ false
none_still p f [] to none = refl
none_still p f (x ∷ xs) to none = by (p (f x)) (p x) (to x) none (λ later. none_still p f xs to later)
  where
    by : (a b : Bool) → (a ≡ true → b ≡ true) → (b || list_any p xs) ≡ false → (list_any p xs ≡ false → list_any p (map f xs) ≡ false) → (a || list_any p (map f xs)) ≡ false
    by true true so is rest = absurd (cc is)
    by true false so is rest = absurd (true_false (sym (so refl)))
    by false true so is rest = absurd (cc is)
    by false false so is rest = rest is

-- ---- places

pub not_here : (i j : ℕ) → nat_lt j (i + 1) ≡ false → (i == j) ≡ false
not_here i j later = grind (arith, nat_tests, later)

pub not_before : (low i j : ℕ) → low ≤ i → nat_lt j (i + 1) ≡ false → nat_lt j low ≡ false
not_before low i j order later = grind (arith, nat_tests, order, later)

pub not_yet : (low i : ℕ) → low ≤ i → nat_lt i low ≡ false
not_yet low i order = grind (arith, nat_tests, order)

pub before_it : (i j : ℕ) → nat_lt j (i + 1) ≡ true → (i == j) ≡ false → nat_lt j i ≡ true
before_it i j within apart = grind (arith, nat_tests, within, apart)

pub is_before : (i j : ℕ) → nat_lt j i ≡ true → j < i + 1
is_before i j less = grind (arith, nat_tests, less)

pub apart_before : (i j : ℕ) → nat_lt j i ≡ true → (i == j) ≡ false
apart_before i j less = grind (arith, nat_tests, less)

pub none_below : (j : ℕ) → nat_lt j 0 ≡ true → ⊥
none_below j less = absurd (grind (arith, nat_tests, less))

pub given_below : (low next : ℕ) (ns : List ℕ) → AreGiven low next ns → low ≤ next
given_below low next [] given = given
given_below low next (n ∷ ns) given = omega (arith, given.0, given_below (n + 1) next ns given.1)

pub record HasSeat (i : ℕ) (seats : List Seat) : Type 0 where
  pub seat : Seat
  pub here : slice_get seats i ≡ Some seat

pub seat_at : (i : ℕ) (seats : List Seat) → i + 1 ≤ length seats → HasSeat i seats
seat_at i [] within = absurd (omega (arith, within))
seat_at zero (seat ∷ seats) within = record { seat = seat; here = refl }
seat_at (suc i) (seat ∷ seats) within =
    let one : HasSeat i seats = seat_at i seats (omega (arith, within)) in
    record { seat = one.seat; here = one.here }
