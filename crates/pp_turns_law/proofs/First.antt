-- Of all clients for whom something is due, the first is the law's.
use Rattle.std.proofs.Common.{arith, ◌≡◌, ◌<◌, refl, sym, subst, ap, ap₂, ◌∙◌, is_some, ℕ, zero, suc, ◌+◌, Bool, true, false, ◌||◌, ◌==◌, List, [], ◌∷◌, length, Option, Some, None, option_map}
use Rattle.std.specs.Prelude.{slice_get}
use Rattle.std.specs.Option.{option_and_then}
use Rattle.std.proofs.lemmas.Bool.Decides.{nat_tests}
use Rattle.pp_cache_law.proofs.Numbers.{is_same}
use Rattle.pp_cache_law.specs.Kept.{AreAsKept}
use Rattle.pp_turns_law.proofs.Follows.{has_source}
use Rattle.pp_flow_law.specs.Tables.{AreGiven, Leaving}
use Rattle.pp_law.specs.Deciding.{is_for_memory}
use Rattle.pp_law.specs.Due.{Due, due_of as due_by_law, first_due}
use Rattle.pp_law.specs.Lists.{Bytes, first_some, has_number}
use Rattle.pp_law.specs.State.{State, Client, Entry}
use Rattle.pp_law.specs.Table.{add_row, row, row_on_disk}
use Rattle.pp_peers.specs.declared.peers.Peer.{Peer}
use Rattle.pp_seats.specs.Heads.{asked_in, owned_in}
use Rattle.pp_seats.specs.declared.key.Key.{Key as OwnedKey}
use Rattle.pp_seats.specs.declared.due.Due.{Due as SeatDue}
use Rattle.pp_seats.specs.declared.due.Due.TheVariants.{Decide as IsDecided}
use Rattle.pp_seats.specs.declared.seat.Seat.{Seat}
use Rattle.pp_seats_law.specs.Clients.{AreShown}
use Rattle.pp_seats_law.specs.Dues.{due_as}
use Rattle.pp_seats_law.specs.Seats.{ShowsSeat}
use Rattle.pp_seats_law.specs.Words.{HasSource}
use Rattle.pp_due.specs.Due.{due_at, due_of}
use Rattle.pp_due.specs.Entering.{Comes, is_due_at, is_due_to, is_to_enter, key_at, key_due}
use Rattle.pp_state.specs.declared.state.State.{State as Turn}
use Rattle.pp_store.specs.Kept.{KeptMap}
use Rattle.pp_turns_law.proofs.Asleep.{asleep_due}
use Rattle.pp_turns_law.proofs.Brought.{dues_stay}
use Rattle.pp_turns_law.proofs.Entered.{come_in}
use Rattle.pp_turns_law.proofs.Guarded.{due_unentered, is_due, none_unentered}
use Rattle.pp_turns_law.proofs.Reading.{seat_due}
use Rattle.pp_turns_law.specs.Firsts.{FirstDueInMemory, FirstDueIsTheLaws, HasRowInMemory, IsAsleep, IsFirst, with_row_if}
use Rattle.pp_turns_law.specs.Rows.{HasComeIn, IsMadeBefore, IsReady, ShowsDisk, kept_alone, with_entry, with_row_of}
use Rattle.pp_world.specs.declared.note.Decision.{Decision}

none_some : {A : Type 0} {x : A} → None ≡ Some x → ⊥
none_some e = absurd (cc e)

same_some : {A : Type 0} {x y : A} → Some x ≡ Some y → x ≡ y
same_some e = cc e

abbrev found_at : ℕ → SeatDue → Option (ℕ × SeatDue)
found_at i d = Some (i, d)

same_found : (i k : ℕ) (d e : SeatDue) → found_at i d ≡ found_at k e → (i ≡ k) × (d ≡ e)
same_found i k d e same = let pair : ◌≡◌ {A = ℕ × SeatDue} (i, d) (k, e) = same_some same in (ap (λ (x : ℕ × SeatDue). x.0) pair, ap (λ (x : ℕ × SeatDue). x.1) pair)

-- ---- places that rise

apart : (n j : ℕ) → j < n → (n == j) ≡ false
apart n j less = grind (arith, nat_tests, less)

pub above : (low next j : ℕ) (ns : List ℕ) → AreGiven low next ns → j < low → has_number j ns ≡ false
above low next j [] given less = refl
above low next j (n ∷ ns) given less = ap (λ (b : Bool). b || has_number j ns) (apart n j (omega (arith, less, given.0))) ∙ above (n + 1) next j ns given.1 (omega (arith, less, given.0))

-- ---- the first of a list

module _ {A B : Type 0} where
  abbrev or_rest : (A → Option B) → List A → Option B → Option B
  or_rest f xs o = elim o [ Some y ↦ Some y | None ↦ first_some f xs ]

  first_at : (f : A → Option B) (xs : List A) (i : ℕ) (x : A) (y : B) → slice_get xs i ≡ Some x → f x ≡ Some y → ((j : ℕ) (z : A) → j < i → slice_get xs j ≡ Some z → f z ≡ None) → first_some f xs ≡ Some y
  first_at f [] i x y at is none = absurd (none_some at)
  first_at f (z ∷ zs) zero x y at is none = ap (λ (o : Option B). or_rest f zs o) (ap f (same_some at) ∙ is)
  first_at f (z ∷ zs) (suc i) x y at is none =
      ap (λ (o : Option B). or_rest f zs o) (none 0 z (omega arith) refl) ∙ first_at f zs i x y at is (λ j w less there. none (suc j) w (omega (arith, less)) there)

  first_none : (f : A → Option B) (xs : List A) → ((j : ℕ) (z : A) → slice_get xs j ≡ Some z → f z ≡ None) → first_some f xs ≡ None
  first_none f [] none = refl
  first_none f (z ∷ zs) none = ap (λ (o : Option B). or_rest f zs o) (none 0 z refl) ∙ first_none f zs (λ j w there. none (suc j) w there)

  first_same : (f g : A → Option B) (xs : List A) → ((j : ℕ) (z : A) → slice_get xs j ≡ Some z → f z ≡ g z) → first_some f xs ≡ first_some g xs
  first_same f g [] same = refl
  first_same f g (z ∷ zs) same = ap (λ (o : Option B). or_rest f zs o) (same 0 z refl) ∙ ap (λ (r : Option B). elim (g z) as (λ c. Option B) [ Some y ↦ Some y | None ↦ r ]) (first_same f g zs (λ j w there. same (suc j) w there))

-- ---- the client at a place

pub record IsShownAt (number : ℕ → ℕ) (name : Bytes) (seats : List Seat) (cs : List Client) (i : ℕ) : Type 0 where
  pub seat : Seat
  pub client : Client
  pub here : slice_get seats i ≡ Some seat
  pub there : slice_get cs i ≡ Some client
  pub shows : ShowsSeat number name [] seat client

later_shown : (number : ℕ → ℕ) (name : Bytes) (first : Seat) (c : Client) (seats : List Seat) (cs : List Client) (i : ℕ) → IsShownAt number name seats cs i → IsShownAt number name (first ∷ seats) (c ∷ cs) (suc i)
later_shown number name first c seats cs i shown = record { seat = shown.seat; client = shown.client; here = shown.here; there = shown.there; shows = shown.shows }

pub seat_shown : (number : ℕ → ℕ) (name : Bytes) (seats : List Seat) (cs : List Client) (i : ℕ) (seat : Seat) → AreShown number name [] seats cs → slice_get seats i ≡ Some seat → IsShownAt number name seats cs i
seat_shown number name [] cs i seat shown at = absurd (none_some at)
seat_shown number name (first ∷ seats) [] i seat shown at = absurd shown
seat_shown number name (first ∷ seats) (c ∷ cs) zero seat shown at = record { seat = first; client = c; here = refl; there = refl; shows = shown.0 }
seat_shown number name (first ∷ seats) (c ∷ cs) (suc i) seat shown at = later_shown number name first c seats cs i (seat_shown number name seats cs i seat shown.1 at)

pub client_shown : (number : ℕ → ℕ) (name : Bytes) (seats : List Seat) (cs : List Client) (i : ℕ) (one : Client) → AreShown number name [] seats cs → slice_get cs i ≡ Some one → IsShownAt number name seats cs i
client_shown number name [] [] i one shown at = absurd (none_some at)
client_shown number name [] (c ∷ cs) i one shown at = absurd shown
client_shown number name (first ∷ seats) [] i one shown at = absurd shown
client_shown number name (first ∷ seats) (c ∷ cs) zero one shown at = record { seat = first; client = c; here = refl; there = refl; shows = shown.0 }
client_shown number name (first ∷ seats) (c ∷ cs) (suc i) one shown at = later_shown number name first c seats cs i (client_shown number name seats cs i one shown.1 at)

-- ---- a row that comes in changes nothing that is due

pub clients_same : (key : Bytes) (o : Option Entry) (s : State) → (with_entry key o s).clients ≡ s.clients
unfolding add_row
clients_same key None s = refl
clients_same key (Some e) s = refl

module _ (l : Leaving) (peers : List Peer) (shelf : KeptMap) where
  shown_clients : (number : ℕ → ℕ) (p : Turn) (s : State) → ShowsDisk number l peers shelf p s → AreShown number p.name.items [] p.seats.items s.clients
  shown_clients number p s shows = shows.turn.steps.shows.clients

  made_before : (number : ℕ → ℕ) (p : Turn) (s : State) (i : ℕ) (c : Client) → ShowsDisk number l peers shelf p s → slice_get s.clients i ≡ Some c → c.is_closing ≡ false → IsMadeBefore s c
  made_before number p s i c shows at going =
      let one : IsShownAt number p.name.items p.seats.items s.clients i = client_shown number p.name.items p.seats.items s.clients i c (shown_clients number p s shows) at in
      let same : one.client ≡ c = same_some (sym one.there ∙ at) in
      let own : one.client.is_closing ≡ false = ap (λ (d : Client). d.is_closing) same ∙ going in
      let ready : IsReady number p.cache s.next_instance one.seat = shows.ready i one.seat one.here (one.shows.closing ∙ own) in
      record {
        source = subst (λ (d : Client). HasSource s d) same (has_source number l peers p s p.name.items one.seat one.client shows.turn one.shows own ready.follows);
        joined = λ id plain is. shows.made i c id plain at is;
      }

  pub dues_same : (number : ℕ → ℕ) (p : Turn) (s : State) (key : Bytes) (i : ℕ) (c : Client) → ShowsDisk number l peers shelf p s → slice_get s.clients i ≡ Some c → due_by_law (with_row_of key s) c ≡ due_by_law s c
  dues_same number p s key i c shows at = dues_stay number p.cache s shows.turn.steps.shows.table.table key c (λ going. made_before number p s i c shows at going)

  first_still : (number : ℕ → ℕ) (p : Turn) (s : State) (key : Bytes) → ShowsDisk number l peers shelf p s → first_due (with_row_of key s) ≡ first_due s
  first_still number p s key shows =
      ap (λ (cs : List Client). first_some (due_by_law (with_row_of key s)) cs) (clients_same key (kept_alone s key) s)
      ∙ first_same (due_by_law (with_row_of key s)) (due_by_law s) s.clients (λ i c at. dues_same number p s key i c shows at)

  first_with : (number : ℕ → ℕ) (p : Turn) (s : State) (o : Option Bytes) → ShowsDisk number l peers shelf p s → first_due (with_row_if o s) ≡ first_due s
  first_with number p s None shows = refl
  first_with number p s (Some key) shows = first_still number p s key shows

  -- ---- of all but those at these places nothing is due

  abbrev NoneBut : List ℕ → State → Type 0
  NoneBut places s = (j : ℕ) (c : Client) → slice_get s.clients j ≡ Some c → has_number j places ≡ false → due_by_law s c ≡ None

  module _ (number : ℕ → ℕ) (p : Turn) (s : State) (shows : ShowsDisk number l peers shelf p s) (entries : AreAsKept shelf) where
    abbrev At : ℕ → Type 0
    At i = IsShownAt number p.name.items p.seats.items s.clients i

    -- something is due of it by the row of its key, where something is by the law
    due_at_place : (i : ℕ) (one : At i) → is_due_at shelf i p ≡ is_some (due_by_law s one.client)
    due_at_place i one =
        ap (λ (o : Option Seat). elim o as (λ t. Bool) [ None ↦ false | Some seat ↦ is_due_to shelf p seat ]) one.here
        ∙ is_due number l peers shelf p s i one.seat one.client shows one.here one.shows entries

    no_due : (o : Option Due) → is_some o ≡ false → o ≡ None
    no_due None is = refl
    no_due (Some d) is = absurd (cc is)

    none_now : (i : ℕ) (places : List ℕ) → is_due_at shelf i p ≡ false → NoneBut (i ∷ places) s → NoneBut places s
    none_now i places isnt none j c at apart = by (i == j) refl
      where
        here : i ≡ j → due_by_law s c ≡ None
        here same =
            let there : slice_get s.clients i ≡ Some c = ap (λ (k : ℕ). slice_get s.clients k) same ∙ at in
            let one : At i = client_shown number p.name.items p.seats.items s.clients i c (shown_clients number p s shows) there in
            ap (λ (d : Client). due_by_law s d) (sym (same_some (sym one.there ∙ there))) ∙ no_due (due_by_law s one.client) (sym (due_at_place i one) ∙ isnt)

        by : (b : Bool) → (i == j) ≡ b → due_by_law s c ≡ None
        by true is = here (is_same i j is)
        by false is = none j c at (ap (λ (b : Bool). b || has_number j places) is ∙ apart)

    -- ---- its row came in

    key_is : (i : ℕ) (one : At i) → key_at i p ≡ key_due p one.seat
    key_is i one = ap (λ (o : Option Seat). option_and_then (key_due p) o) one.here

    -- what is due of it in memory is what is due by the law, with that row; and it has its row, if one is kept
    record IsDueHere (i : ℕ) (one : At i) (now : Turn) (t : State) (due : Option SeatDue) : Type 0 where
      pub by_number : ℕ → ℕ
      pub shown : ShowsDisk by_number l peers shelf now t
      pub seats : now.seats.items ≡ p.seats.items
      pub is : option_map (due_as one.seat.client.id one.seat.index) due ≡ due_by_law s one.client
      pub has : (d : Decision) (key : OwnedKey) → due ≡ Some (IsDecided d) → is_for_memory d ≡ false → owned_in (asked_in one.seat.front) ≡ Some key → row t key.text.items ≡ None → row_on_disk t key.text.items ≡ None

    due_is : (i : ℕ) (one : At i) → due_at i p ≡ due_of p one.seat
    due_is i one = ap (λ (o : Option Seat). option_and_then (due_of p) o) one.here

    -- none came in
    unentered : (i : ℕ) (one : At i) → key_at i p ≡ None → IsDueHere i one p s (due_at i p)
    unentered i one none = by (is_to_enter p one.seat) refl (owned_in (asked_in one.seat.front)) refl
      where
        by : (b : Bool) → is_to_enter p one.seat ≡ b → (o : Option OwnedKey) → owned_in (asked_in one.seat.front) ≡ o → IsDueHere i one p s (due_at i p)
        by false is o own = record {
          by_number = number;
          shown = shows;
          seats = refl;
          is = ap (λ (o : Option SeatDue). option_map (due_as one.seat.client.id one.seat.index) o) (due_is i one) ∙ due_unentered number l peers shelf p s i one.seat one.client shows one.here one.shows entries is;
          has = λ d key due more its lost. absurd (none_unentered number l peers shelf p s i one.seat one.client shows one.here one.shows entries is d (sym (due_is i one) ∙ due) more);
        }
        by true is None own = record {
          by_number = number;
          shown = shows;
          seats = refl;
          is =
              ap (λ (o : Option SeatDue). option_map (due_as one.seat.client.id one.seat.index) o) (due_is i one)
              ∙ seat_due number l peers shelf p s i one.seat one.client shows one.here one.shows (λ key its. absurd (none_some (sym own ∙ its)));
          has = λ d key due more its lost. absurd (none_some (sym own ∙ its));
        }
        by true is (Some key) own =
            absurd (none_some (sym none ∙ key_is i one ∙ ap₂ (λ (b : Bool) (o : Option OwnedKey). elim b as (λ t. Option Bytes) [ true ↦ option_map (λ (k : OwnedKey). k.text.items) o | false ↦ None ]) is own))

    its_key : (i : ℕ) (one : At i) (text : Bytes) (b : Bool) → is_to_enter p one.seat ≡ b → key_at i p ≡ Some text → (key : OwnedKey) → owned_in (asked_in one.seat.front) ≡ Some key → text ≡ key.text.items
    its_key i one text true is names key own =
        same_some (sym names ∙ key_is i one ∙ ap₂ (λ (b : Bool) (o : Option OwnedKey). elim b as (λ t. Option Bytes) [ true ↦ option_map (λ (k : OwnedKey). k.text.items) o | false ↦ None ]) is own)
    its_key i one text false is names key own =
        absurd (none_some (sym (key_is i one ∙ ap (λ (b : Bool). elim b as (λ t. Option Bytes) [ true ↦ option_map (λ (k : OwnedKey). k.text.items) (owned_in (asked_in one.seat.front)) | false ↦ None ]) is) ∙ names))

    entered : (i : ℕ) (one : At i) (text : Bytes) (now : Turn) → key_at i p ≡ Some text → Comes shelf text p now → IsDueHere i one now (with_row_of text s) (due_at i now)
    entered i one text now names comes =
        let come : HasComeIn l peers shelf text now s = come_in number l peers shelf text p now s shows comes in
        let seats : now.seats.items ≡ p.seats.items = ap (λ (r : Turn). r.seats.items) comes.rest in
        let here : slice_get now.seats.items i ≡ Some one.seat = ap (λ (is : List Seat). slice_get is i) seats ∙ one.here in
        let other : IsShownAt come.number now.name.items now.seats.items (with_row_of text s).clients i =
        seat_shown come.number now.name.items now.seats.items (with_row_of text s).clients i one.seat come.shows.turn.steps.shows.clients here in
        let seat : other.seat ≡ one.seat = same_some (sym other.here ∙ here) in
        let client : other.client ≡ one.client = same_some (sym other.there ∙ ap (λ (cs : List Client). slice_get cs i) (clients_same text (kept_alone s text) s) ∙ one.there) in
        let shown : ShowsSeat come.number now.name.items [] one.seat one.client =
        subst (λ (x : Seat). ShowsSeat come.number now.name.items [] x one.client) seat (subst (λ (d : Client). ShowsSeat come.number now.name.items [] other.seat d) client other.shows) in
        let has : (key : OwnedKey) → owned_in (asked_in one.seat.front) ≡ Some key → row (with_row_of text s) key.text.items ≡ None → row_on_disk (with_row_of text s) key.text.items ≡ None =
        λ key own. subst (λ (k : Bytes). row (with_row_of text s) k ≡ None → row_on_disk (with_row_of text s) k ≡ None) (its_key i one text (is_to_enter p one.seat) refl names key own) come.there in
        record {
          by_number = come.number;
          shown = come.shows;
          seats = seats;
          is =
              ap (λ (o : Option Seat). option_map (due_as one.seat.client.id one.seat.index) (option_and_then (due_of now) o)) here
              ∙ seat_due come.number l peers shelf now (with_row_of text s) i one.seat one.client come.shows here shown has
              ∙ dues_same number p s text i one.client shows one.there;
          has = λ d key due more own. has key own;
        }

    with_row : (i : ℕ) (one : At i) (now : Turn) (o : Option Bytes) → key_at i p ≡ o → HasRowInMemory shelf o p now → IsDueHere i one now (with_row_if o s) (due_at i now)
    with_row i one now None names same = subst (λ (r : Turn). IsDueHere i one r s (due_at i r)) (sym same) (unentered i one names)
    with_row i one now (Some text) names comes = entered i one text now names comes

    -- ---- one behind the other

    before : (low next i j : ℕ) (places : List ℕ) → AreGiven low next (i ∷ places) → j < i → has_number j (i ∷ places) ≡ false
    before low next i j places given less = ap (λ (b : Bool). b || has_number j places) (apart i j less) ∙ above (i + 1) next j places given.1 (omega (arith, less))

    found_here : (low next i : ℕ) (places : List ℕ) (one : At i) (now q : Turn) (d : SeatDue) (found : Option (ℕ × SeatDue)) → IsDueHere i one now (with_row_if (key_at i p) s) (Some d) → AreGiven low next (i ∷ places) → NoneBut (i ∷ places) s → q ≡ now → found ≡ Some (i, d)
        → IsFirst l peers shelf p q s found
    found_here low next i places one now q d found its given none same is =
        subst (λ (o : Option (ℕ × SeatDue)). IsFirst l peers shelf p q s o) (sym is) (subst (λ (r : Turn). IsFirst l peers shelf p r s (Some (i, d))) (sym same) (record {
          number = its.by_number;
          shows = its.shown;
          due =
              ap (λ (o : Option Seat). option_map (λ (x : Seat). due_as x.client.id x.index d) o) (ap (λ (is : List Seat). slice_get is i) its.seats ∙ one.here)
              ∙ sym (first_at (due_by_law s) s.clients i one.client (due_as one.seat.client.id one.seat.index d) one.there (sym its.is) (λ j c less at. none j c at (before low next i j places given less)));
          still = first_with number p s (key_at i p) shows;
          has = λ k e seat key is more at own. let both : (i ≡ k) × (d ≡ IsDecided e) = same_found i k d (IsDecided e) is in
              its.has e key (ap (λ (x : SeatDue). Some x) both.1) more (ap (λ (x : Seat). owned_in (asked_in x.front)) (same_some (sym one.here ∙ ap (λ (is : List Seat). slice_get is i) (sym its.seats) ∙ ap (λ (n : ℕ). slice_get now.seats.items n) both.0 ∙ at)) ∙ own);
        }))

    no_seat : (i : ℕ) → slice_get p.seats.items i ≡ None → is_due_at shelf i p ≡ false
    no_seat i at = ap (λ (o : Option Seat). elim o as (λ t. Bool) [ None ↦ false | Some seat ↦ is_due_to shelf p seat ]) at

    true_false : true ≡ false → ⊥
    true_false e = cc e

    none_is : {A B : Type 0} (f : A → B) (o : Option A) (u : Option B) → option_map f o ≡ u → is_some u ≡ true → o ≡ None → ⊥
    none_is f o (Some y) is some none = none_some (sym (ap (λ x. option_map f x) none) ∙ is)
    none_is f o None is some none = cc some

    abbrev From : List ℕ → Turn → Option (ℕ × SeatDue) → Type 0
    From places q found = (low next : ℕ) → AreGiven low next places → NoneBut places s → FirstDueInMemory shelf places p q found → IsFirst l peers shelf p q s found

    abbrev Then : ℕ → List ℕ → Turn → Turn → Option (ℕ × SeatDue) → Option SeatDue → Type 0
    Then i places now q found due = elim due as (λ c. Type 0) [ Some d ↦ (q ≡ now) × (found ≡ Some (i, d)) | None ↦ FirstDueInMemory shelf places now q found ]

    by_due : (i : ℕ) (places : List ℕ) (low next : ℕ) (now q : Turn) (due : Option SeatDue) (found : Option (ℕ × SeatDue)) (one : At i) → is_due_at shelf i p ≡ true → IsDueHere i one now (with_row_if (key_at i p) s) due → AreGiven low next (i ∷ places) → NoneBut (i ∷ places) s
        → Then i places now q found due → IsFirst l peers shelf p q s found
    by_due i places low next now q (Some d) found one so its given none here = found_here low next i places one now q d found its given none here.0 here.1
    by_due i places low next now q None found one so its given none rest =
        absurd (none_is (due_as one.seat.client.id one.seat.index) None (due_by_law s one.client) its.is (sym (due_at_place i one) ∙ so) refl)

    from_place : (i : ℕ) (places : List ℕ) (low next : ℕ) (now q : Turn) (due : Option SeatDue) (found : Option (ℕ × SeatDue)) → From places q found → AreGiven low next (i ∷ places) → NoneBut (i ∷ places) s → (b : Bool) → is_due_at shelf i p ≡ b
        → (elim b as (λ c. Type 0) [ true ↦ HasRowInMemory shelf (key_at i p) p now × (due ≡ due_at i now) | false ↦ (now ≡ p) × (due ≡ None) ]) → Then i places now q found due → IsFirst l peers shelf p q s found
    from_place i places low next now q due found more given none false is its rest =
        more (i + 1) next given.1 (none_now i places is none)
        (subst (λ (r : Turn). FirstDueInMemory shelf places r q found) its.0 (subst (λ (o : Option SeatDue). Then i places now q found o) its.1 rest))
    from_place i places low next now q due found more given none true is its rest = by (slice_get p.seats.items i) refl
      where
        by : (o : Option Seat) → slice_get p.seats.items i ≡ o → IsFirst l peers shelf p q s found
        by None at = absurd (true_false (sym is ∙ no_seat i at))
        by (Some seat) at =
            let one : At i = seat_shown number p.name.items p.seats.items s.clients i seat (shown_clients number p s shows) at in
            by_due i places low next now q due found one is (subst (λ (o : Option SeatDue). IsDueHere i one now (with_row_if (key_at i p) s) o) (sym its.1) (with_row i one now (key_at i p) refl its.0)) given none rest

    first_from : (places : List ℕ) (q : Turn) (found : Option (ℕ × SeatDue)) → From places q found
    unfolding FirstDueInMemory
    first_from [] q found low next given none first = subst (λ (o : Option (ℕ × SeatDue)). IsFirst l peers shelf p q s o) (sym first.1) (record {
      number = number;
      shows = subst (λ (r : Turn). ShowsDisk number l peers shelf r s) (sym first.0) shows;
      due = sym (first_none (due_by_law s) s.clients (λ j c at. none j c at refl));
      still = refl;
      has = λ i d seat key is more at own. absurd (none_some is);
    })
    first_from (i ∷ places) q found low next given none (now, due, its, rest) = from_place i places low next now q due found (first_from places q found) given none (is_due_at shelf i p) refl its rest

pub first_dues : FirstDueIsTheLaws
first_dues number l peers shelf p q s found shows entries awake first = first_from l peers shelf number p s shows entries p.awake.items q found 0 (length p.seats.items) awake.order asleep first
  where
    asleep : (j : ℕ) (c : Client) → slice_get s.clients j ≡ Some c → has_number j p.awake.items ≡ false → due_by_law s c ≡ None
    asleep j c at isnt =
        let one : IsShownAt number p.name.items p.seats.items s.clients j = client_shown number p.name.items p.seats.items s.clients j c shows.turn.steps.shows.clients at in
        let sleeps : IsAsleep p one.seat = awake.others j one.seat one.here isnt in
        ap (λ (d : Client). due_by_law s d) (sym (same_some (sym one.there ∙ at))) ∙ asleep_due s number p.name.items one.seat one.client one.shows sleeps.silent (sym shows.turn.ticked ∙ sleeps.ticked)
