-- The row that gives way is not what its client follows, nor the row of its key.
use Rattle.std.proofs.Common.{◌≡◌, inl, inr, refl, sym, subst, ap, ap₂, ◌∙◌, ℕ, Bool, true, false, not, ◌&&◌, ◌||◌, ◌==◌, bytes_eq, cond, filter, find, nat_lt, List, [], ◌∷◌, Option, Some, None}
use Rattle.std.proofs.lemmas.Slice.Eq.{bytes_eq-Decides}
use Rattle.std.specs.List.{list_any}
use Rattle.std.specs.Prelude.{count_by, option_and_then, slice_get}
use Rattle.pp_cache.specs.Memory.{Memory}
use Rattle.pp_cache_law.proofs.Alike.{unfollowed}
use Rattle.pp_cache_law.proofs.Numbers.{is_same, same_test, some_is}
use Rattle.pp_cache_law.specs.Pairs.{AreAll}
use Rattle.pp_cache_law.specs.Tables.{ShowsInstance, ShowsTable}
use Rattle.pp_turns_law.specs.Decides.{FollowsWhatIsThere}
use Rattle.pp_law.specs.Lists.{Bytes, is_some_with, is_this}
use Rattle.pp_law.specs.State.{State, Client, Instance as Known, Reply, Stage, Undecided, Waiting, Passing, Answering}
use Rattle.pp_law.specs.Table.{follows}
use Rattle.pp_laws.proofs.Lists.{in_find}
use Rattle.pp_laws.proofs.Tests.{first_holds, same_bytes, second_holds}
use Rattle.pp_laws.specs.Runs.{IsIn}
use Rattle.pp_objects.specs.Changes.{is_elsewhere, without_slot}
use Rattle.pp_objects.specs.Instances.{Instance, id_of, in_slot, is_idle, is_in_slot, is_life, is_row, is_row_of, is_same_id, is_there, row_of}
use Rattle.pp_objects.specs.declared.id.ObjectId.{ObjectId}
use Rattle.pp_seats.specs.Follows.{answer_in}
use Rattle.pp_seats.specs.Heads.{asked_in, is_key_text, owned_in}
use Rattle.pp_seats.specs.Seats.{has_key}
use Rattle.pp_seats.specs.declared.key.Key.{Key as OwnedKey}
use Rattle.pp_seats.specs.declared.seat.Answer.{Answer}
use Rattle.pp_seats.specs.declared.seat.Seat.{Seat}
use Rattle.pp_seats.specs.declared.seat.Stage.{Stage as SeatStage}
use Rattle.pp_seats.specs.declared.seat.Stage.TheVariants.{Undecided as IsUndecided, Waiting as IsWaiting, Passing as IsPassing, Answering as AnsweringTo}
use Rattle.pp_seats_law.specs.Replies.{ShowsStage, source_number}
use Rattle.pp_seats_law.specs.Seats.{ShowsOpen}
use Rattle.pp_state.specs.Ends.{parts, source_of}
use Rattle.pp_state.specs.Pins.{busy_rows, idle_row as idle_in, is_for_memory}
use Rattle.pp_state.specs.declared.state.State.{State as Turn}
use Rattle.pp_steps.specs.Evicting.{is_key_at, row_in_way, unless_own, without_row}
use Rattle.pp_turns_law.specs.Turns.{IsFollowing}
use Rattle.pp_world.specs.declared.note.Decision.{Decision}

-- ---- which it is

pub record IsInWay (i : ℕ) (q : Turn) (j : Instance) : Type 0 where
  pub found : idle_in q ≡ Some j
  pub free : is_key_at i j.key q ≡ false

pub in_way : (i : ℕ) (d : Decision) (q : Turn) (j : Instance) → row_in_way d i q ≡ Some j → IsInWay i q j
in_way i d q j = by (is_for_memory d || not (nat_lt 1024 (count_by is_row q.cache.instances))) (idle_in q) refl
  where
    own : (x : Instance) → idle_in q ≡ Some x → (b : Bool) → is_key_at i x.key q ≡ b → (elim b as (λ t. Option Instance) [ true ↦ None | false ↦ Some x ]) ≡ Some j → IsInWay i q j
    own x is true key at = absurd (cc at)
    own x is false key at = let same : x ≡ j = some_is x j at in record { found = is ∙ ap (λ (y : Instance). Some y) same; free = ap (λ (y : Instance). is_key_at i y.key q) (sym same) ∙ key }

    by : (b : Bool) (o : Option Instance) → idle_in q ≡ o → (elim b as (λ t. Option Instance) [ true ↦ None | false ↦ option_and_then (unless_own i q) o ]) ≡ Some j → IsInWay i q j
    by true o is at = absurd (cc at)
    by false None is at = absurd (cc at)
    by false (Some x) is at = own x is (is_key_at i x.key q) refl at

-- ---- lists

any_of : {A : Type 0} (p : A → Bool) (xs : List A) (x : A) → IsIn x xs → p x ≡ true → list_any p xs ≡ true
any_of p [] x i is = absurd i
any_of p (y ∷ ys) x (inl e) is = ap (λ (b : Bool). b || list_any p ys) (ap p (sym e) ∙ is)
any_of p (y ∷ ys) x (inr j) is = ap (λ (b : Bool). p y || b) (any_of p ys x j is) ∙ or_true (p y)
  where
    or_true : (b : Bool) → (b || true) ≡ true
    or_true true = refl
    or_true false = refl

-- what is left out is not what is looked for
find_within : {A : Type 0} (p q : A → Bool) (xs : List A) → ((x : A) → IsIn x xs → p x ≡ true → q x ≡ true) → find p (filter q xs) ≡ find p xs
find_within p q [] stays = refl
find_within {A} p q (x ∷ xs) stays = by (q x) (p x) refl refl (find_within p q xs (λ y i is. stays y (inr i) is))
  where
    by : (b c : Bool) → q x ≡ b → p x ≡ c → find p (filter q xs) ≡ find p xs → find p (cond b (x ∷ filter q xs) (filter q xs)) ≡ find p (x ∷ xs)
    by true c kept is rest = ap (λ (o : Option A). cond (p x) (Some x) o) rest
    by false false out is rest = rest ∙ sym (ap (λ (t : Bool). cond t (Some x) (find p xs)) is)
    by false true out is rest = let both : true ≡ false = sym (stays x (inl refl) is) ∙ out in absurd (cc both)

shown_of : (number : ℕ → ℕ) (m : Memory) (s : State) (is : List Instance) (xs : List Known) → AreAll (ShowsInstance number m s) is xs → (i : Instance) → IsIn i is → (x : Known) × ShowsInstance number m s i x
shown_of number m s [] xs all i here = absurd here
shown_of number m s (y ∷ ys) [] all i here = absurd all
shown_of number m s (y ∷ ys) (x ∷ xs) all i (inl e) = (x, subst (λ (z : Instance). ShowsInstance number m s z x) (sym e) all.0)
shown_of number m s (y ∷ ys) (x ∷ xs) all i (inr j) = shown_of number m s ys xs all.1 i j

-- ---- what a seat follows its client does

abbrev reply_at : Stage → Option Reply
reply_at stage = elim stage [ Undecided ↦ None | Waiting ↦ None | Passing ↦ None | Answering r ↦ Some r ]

follows_too : (number : ℕ → ℕ) (name : Bytes) (seat : Seat) (c : Client) (id : ObjectId) → ShowsOpen number name [] seat c → c.is_closing ≡ false → source_of seat ≡ Some id → follows (number id.life) c ≡ true
follows_too number name seat c id shows going source = by seat.stage c.stage refl shows.stage source
  where
    by : (t : SeatStage) (u : Stage) → c.stage ≡ u → ShowsStage number seat.client.reply t u → option_and_then (λ (a : Answer). a.source) (answer_in t) ≡ Some id → follows (number id.life) c ≡ true
    by (AnsweringTo a) (Answering r) is stage its =
        let from : r.source ≡ Some (number id.life) = sym stage.source ∙ ap (λ (o : Option ObjectId). source_number number o) its in
        ap₂ (λ (b : Bool) (u : Stage). not b && is_some_with (λ (x : Reply). is_this (number id.life) x.source) (reply_at u)) going is
        ∙ ap (λ (o : Option ℕ). is_this (number id.life) o) from
        ∙ same_test (number id.life) (number id.life) refl
    by IsUndecided u is stage its = absurd (cc its)
    by IsWaiting u is stage its = absurd (cc its)
    by IsPassing u is stage its = absurd (cc its)
    by (AnsweringTo b) Undecided is stage its = absurd stage
    by (AnsweringTo b) Waiting is stage its = absurd stage
    by (AnsweringTo b) Passing is stage its = absurd stage

-- ---- all that stays

module _ (number : ℕ → ℕ) (name : Bytes) (i : ℕ) (q : Turn) (t : State) (seat : Seat) (c : Client) (table : ShowsTable number q.cache t) (here : slice_get q.seats.items i ≡ Some seat) (shows : ShowsOpen number name [] seat c) (there : IsIn c t.clients) (going : c.is_closing ≡ false) (following : IsFollowing q.cache seat) where
  abbrev rows_in : List Instance
  rows_in = q.cache.instances

  was_there : (id : ObjectId) → source_of seat ≡ Some id → is_there id rows_in ≡ true
  was_there id source = by (answer_in seat.stage) refl source
    where
      by : (o : Option Answer) → answer_in seat.stage ≡ o → option_and_then (λ (a : Answer). a.source) o ≡ Some id → is_there id rows_in ≡ true
      by None is at = absurd (cc at)
      by (Some a) is at = following a id is at

  module _ (j : Instance) (way : IsInWay i q j) where
    in_memory : IsIn j rows_in × (is_idle (busy_rows q.flow) j ≡ true)
    in_memory = in_find (is_idle (busy_rows q.flow)) j rows_in way.found

    known : (x : Known) × ShowsInstance number q.cache t j x
    known = shown_of number q.cache t rows_in t.instances table.instances j in_memory.0

    nobody : (j.followers == 0) ≡ true
    nobody = first_holds (j.followers == 0) (not (list_any (is_same_id (id_of j)) (busy_rows q.flow))) (second_holds (is_row j) ((j.followers == 0) && not (list_any (is_same_id (id_of j)) (busy_rows q.flow))) in_memory.1)

    -- so its client does not
    not_its : (id : ObjectId) → source_of seat ≡ Some id → id.slot ≡ j.slot → ⊥
    not_its id source slot =
        let stands : is_life id.life (in_slot j.slot rows_in) ≡ true = subst (λ (n : ℕ). is_life id.life (in_slot n rows_in) ≡ true) slot (was_there id source) in
        let life : j.life ≡ id.life = is_same j.life id.life (subst (λ (o : Option Instance). is_life id.life o ≡ true) known.1.there stands) in
        let follows_it : follows known.0.id c ≡ true = subst (λ (n : ℕ). follows n c ≡ true) (ap number (sym life) ∙ known.1.id) (follows_too number name seat c id shows going source) in
        let both : true ≡ false = sym nobody ∙ unfollowed number q.cache t j known.0 known.1 ∙ ap not (any_of (follows known.0.id) t.clients c there follows_it) in
        cc both

    stays_there : (id : ObjectId) → source_of seat ≡ Some id → is_there id (without_slot j.slot rows_in) ≡ true
    stays_there id source = ap (λ (o : Option Instance). is_life id.life o) (find_within (is_in_slot id.slot) (is_elsewhere j.slot) rows_in elsewhere) ∙ was_there id source
      where
        elsewhere : (x : Instance) → IsIn x rows_in → is_in_slot id.slot x ≡ true → is_elsewhere j.slot x ≡ true
        elsewhere x at is = by (x.slot == j.slot) refl
          where
            by : (b : Bool) → (x.slot == j.slot) ≡ b → not b ≡ true
            by false apart = refl
            by true same = absurd (not_its id source (sym (is_same x.slot id.slot is) ∙ is_same x.slot j.slot same))

    -- nor is it the row of its key
    row_stays : (key : OwnedKey) → owned_in (asked_in seat.front) ≡ Some key → row_of key.text.items (without_slot j.slot rows_in) ≡ row_of key.text.items rows_in
    row_stays key owned = find_within (is_row_of key.text.items) (is_elsewhere j.slot) rows_in elsewhere
      where
        apart : bytes_eq key.text.items j.key ≡ false
        apart = sym (ap (λ (o : Option Seat). elim o as (λ b. Bool) [ None ↦ false | Some x ↦ has_key j.key x ]) here ∙ ap (λ (o : Option OwnedKey). is_key_text j.key o) owned) ∙ way.free

        elsewhere : (x : Instance) → IsIn x rows_in → is_row_of key.text.items x ≡ true → is_elsewhere j.slot x ≡ true
        elsewhere x at is = by (x.slot == j.slot) refl
          where
            other : (y : Known) × ShowsInstance number q.cache t x y
            other = shown_of number q.cache t rows_in t.instances table.instances x at

            by : (b : Bool) → (x.slot == j.slot) ≡ b → not b ≡ true
            by false off = refl
            by true same =
                let one : x ≡ j = some_is x j (sym other.1.there ∙ ap (λ (n : ℕ). in_slot n rows_in) (is_same x.slot j.slot same) ∙ known.1.there) in
                let key_is : j.key ≡ key.text.items = ap (λ (y : Instance). y.key) (sym one) ∙ same_bytes x.key key.text.items (second_holds (is_row x) (bytes_eq x.key key.text.items) is) in
                let both : true ≡ false = sym ((bytes_eq-Decides key.text.items j.key).1 (sym key_is)) ∙ apart in
                absurd (cc both)

  pub follows_there : (o : Option Instance) → ((j : Instance) → o ≡ Some j → IsInWay i q j) → FollowsWhatIsThere i (parts (without_row o q))
  follows_there None way id source = was_there id (sym (ap (λ (u : Option Seat). option_and_then source_of u) here) ∙ source)
  follows_there (Some j) way id source = stays_there j (way j refl) id (sym (ap (λ (u : Option Seat). option_and_then source_of u) here) ∙ source)

  pub row_there : (o : Option Instance) → ((j : Instance) → o ≡ Some j → IsInWay i q j) → (key : OwnedKey) → owned_in (asked_in seat.front) ≡ Some key → row_of key.text.items (without_row o q).cache.instances ≡ row_of key.text.items rows_in
  row_there None way key owned = refl
  row_there (Some j) way key owned = row_stays j (way j refl) key owned
