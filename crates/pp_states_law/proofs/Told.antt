-- What exchanges are bound to stays told by its number.
use Rattle.std.proofs.Common.{◌≡◌, ◌≤◌, refl, sym, subst, ap, ◌∙◌, ℕ, Bool, true, false, ◌==◌, cond, find, nat_lt, List, [], ◌∷◌, Some, None, Option, option_map, arith}
use Rattle.std.specs.List.{list_any}
use Rattle.pp_cache.specs.Memory.{Memory, retired_at}
use Rattle.pp_cache_law.proofs.Moves.{changed_if, in_slot-changed, in_slot-elsewhere, in_slot-gone}
use Rattle.pp_cache_law.proofs.Numbers.{is_same, some_is}
use Rattle.pp_flow.specs.Changes.{Exchanges, changed, entered, entry_of, first_of, unplaced, with_errand, without}
use Rattle.pp_flow.specs.Entries.{Span, asking, is_number, moved, moved_by, nobodys, with_place}
use Rattle.pp_flow.specs.declared.entry.Entry.{Entry}
use Rattle.pp_flow.specs.declared.errand.Errand.{Errand}
use Rattle.pp_flow_law.proofs.Entries.{none_some}
use Rattle.pp_law.specs.Connections.{end_exchange, on_client_of, on_conn, on_exchange}
use Rattle.pp_law.specs.Lists.{Bytes}
use Rattle.pp_law.specs.State.{State, Client, Conn, Exchange}
use Rattle.pp_law.specs.Table.{clear, swept}
use Rattle.pp_objects.specs.Changes.{changed_in, retired, retired_from, without_slot}
use Rattle.pp_objects.specs.Instances.{Instance, in_slot, is_life, is_there, row_of}
use Rattle.pp_objects.specs.declared.id.ObjectId.{ObjectId}
use Rattle.pp_states_law.specs.Told.{AreTold, EachIsTold, IsToldBy}

-- ---- no life is taken back, nor a number, and no instance comes in

pub record Stands (m k : Memory) (next later : ℕ) : Type 0 where
  pub lives : m.lives ≤ k.lives
  pub numbers : next ≤ later
  pub there : (id : ObjectId) → is_there id k.instances ≡ true → is_there id m.instances ≡ true

module _ (number : ℕ → ℕ) (m k : Memory) (next later : ℕ) (stands : Stands m k next later) where
  told_on : (o : Option Span) → IsToldBy number m next o → IsToldBy number k later o
  told_on None told = tt
  told_on (Some b) told = record {
    given = omega (arith, told.given, stands.lives);
    made = omega (arith, told.made, stands.numbers);
    apart = λ other there. told.apart other (stands.there other there);
  }

  each_on : (xs : List Entry) → EachIsTold number m next xs → EachIsTold number k later xs
  each_on [] told = tt
  each_on (x ∷ xs) told = (told_on x.exchange.bound told.0, each_on xs told.1)

  pub are_told_on : (f : Exchanges) → AreTold number m next f → AreTold number k later f
  are_told_on f told = record { waiting = each_on f.waiting told.waiting; placed = each_on f.placed told.placed }

-- ---- an exchange is bound as before, is over, or comes to another place

module _ (number : ℕ → ℕ) (m : Memory) (next : ℕ) where
  abbrev IsTold : Entry → Type 0
  IsTold x = IsToldBy number m next x.exchange.bound

  abbrev AllTold : List Entry → Type 0
  AllTold xs = EachIsTold number m next xs

  each_changed : (n : ℕ) (f : Entry → Entry) → ((x : Entry) → IsTold x → IsTold (f x)) → (xs : List Entry) → AllTold xs → AllTold (changed n f xs)
  each_changed n f keeps [] told = tt
  each_changed n f keeps (x ∷ xs) told = by (is_number n x) (each_changed n f keeps xs told.1)
    where
      by : (b : Bool) → AllTold (changed n f xs) → AllTold (cond b (f x ∷ xs) (x ∷ changed n f xs))
      by true rest = (keeps x told.0, told.1)
      by false rest = (told.0, rest)

  each_without : (n : ℕ) (xs : List Entry) → AllTold xs → AllTold (without n xs)
  each_without n [] told = tt
  each_without n (x ∷ xs) told = by (is_number n x) (each_without n xs told.1)
    where
      by : (b : Bool) → AllTold (without n xs) → AllTold (cond b xs (x ∷ without n xs))
      by true rest = told.1
      by false rest = (told.0, rest)

  each_entered : (e : Entry) (xs : List Entry) → IsTold e → AllTold xs → AllTold (entered e xs)
  each_entered e [] one told = (one, tt)
  each_entered e (x ∷ xs) one told = by (nat_lt e.exchange.number x.exchange.number) (each_entered e xs one told.1)
    where
      by : (b : Bool) → AllTold (entered e xs) → AllTold (cond b (e ∷ x ∷ xs) (x ∷ entered e xs))
      by true rest = (one, (told.0, told.1))
      by false rest = (told.0, rest)

  each_found : (p : Entry → Bool) (xs : List Entry) (x : Entry) → find p xs ≡ Some x → AllTold xs → IsTold x
  each_found p [] x found told = absurd (none_some x found)
  each_found p (y ∷ ys) x found told = by (p y) found (λ there. each_found p ys x there told.1)
    where
      by : (b : Bool) → cond b (Some y) (find p ys) ≡ Some x → (find p ys ≡ Some x → IsTold x) → IsTold x
      by true there rest = subst (λ (z : Entry). IsTold z) (some_is y x there) told.0
      by false there rest = rest there

  -- ---- all of them

  pub told_of : (n : ℕ) (f : Exchanges) (x : Entry) → AreTold number m next f → entry_of n f ≡ Some x → IsToldBy number m next x.exchange.bound
  told_of n f x told found = by (find (is_number n) f.waiting) refl found
    where
      by : (o : Option Entry) → find (is_number n) f.waiting ≡ o → first_of o (find (is_number n) f.placed) ≡ Some x → IsTold x
      by None is there = each_found (is_number n) f.placed x there told.placed
      by (Some y) is there = each_found (is_number n) f.waiting x (is ∙ there) told.waiting

  pub told_left : (n : ℕ) (f : Exchanges) → AreTold number m next f → AreTold number m next (record f { waiting = changed n nobodys f.waiting; placed = changed n nobodys f.placed })
  told_left n f told = record { waiting = each_changed n nobodys (λ x one. one) f.waiting told.waiting; placed = each_changed n nobodys (λ x one. one) f.placed told.placed }

  pub told_over : (n : ℕ) (f : Exchanges) → AreTold number m next f → AreTold number m next (record f { waiting = without n f.waiting; placed = without n f.placed })
  told_over n f told = record { waiting = each_without n f.waiting told.waiting; placed = each_without n f.placed told.placed }

  pub told_unplaced : (n : ℕ) (f : Exchanges) → AreTold number m next f → AreTold number m next (unplaced n f)
  told_unplaced n f told = by (find (is_number n) f.placed) refl
    where
      by : (o : Option Entry) → find (is_number n) f.placed ≡ o
          → AreTold number m next (elim o as (λ t. Exchanges) [ None ↦ f | Some e ↦ record f { waiting = entered (with_place None e) f.waiting; placed = without n f.placed } ])
      by None is = told
      by (Some x) is = record { waiting = each_entered (with_place None x) f.waiting (each_found (is_number n) f.placed x is told.placed) told.waiting; placed = each_without n f.placed told.placed }

  pub told_asked : (n : ℕ) (errand : Errand) (f : Exchanges) → AreTold number m next f → AreTold number m next (with_errand n errand f)
  told_asked n errand f told = by (list_any (is_number n) f.waiting)
    where
      by : (b : Bool) → AreTold number m next (cond b (record f { waiting = changed n (asking errand) f.waiting }) (record f { placed = changed n (asking errand) f.placed }))
      by true = record { waiting = each_changed n (asking errand) (λ x one. one) f.waiting told.waiting; placed = told.placed }
      by false = record { waiting = told.waiting; placed = each_changed n (asking errand) (λ x one. one) f.placed told.placed }

  moved_told : (c : ℕ) (o : Option Span) → IsToldBy number m next o → IsToldBy number m next (moved c o)
  moved_told c None one = tt
  moved_told c (Some b) one = one

  pub told_moved : (n c : ℕ) (f : Exchanges) → AreTold number m next f → AreTold number m next (record f { placed = changed n (moved_by c) f.placed })
  told_moved n c f told = record { waiting = told.waiting; placed = each_changed n (moved_by c) (λ x one. moved_told c x.exchange.bound one) f.placed told.placed }

  pub told_next : (later : ℕ) (f : Exchanges) → later ≡ next → AreTold number m next f → AreTold number m later f
  told_next later f same told = subst (λ (n : ℕ). AreTold number m n f) (sym same) told

-- ---- what changes clients, exchanges or connections gives no number

pub asker_next : (e : Exchange) (g : Client → Client) (s : State) → (on_client_of e g s).next_instance ≡ s.next_instance
unfolding on_client_of
asker_next e g s = refl

pub exchange_next : (n : ℕ) (to : Exchange → Exchange) (s : State) → (on_exchange n to s).next_instance ≡ s.next_instance
unfolding on_exchange
exchange_next n to s = refl

pub over_next : (n : ℕ) (s : State) → (end_exchange n s).next_instance ≡ s.next_instance
unfolding end_exchange
over_next n s = refl

pub conn_next : (n : ℕ) (to : Conn → Conn) (s : State) → (on_conn n to s).next_instance ≡ s.next_instance
unfolding on_conn
conn_next n to s = refl

pub clear_next : (key : Bytes) (s : State) → (clear key s).next_instance ≡ s.next_instance
unfolding clear swept
clear_next key s = refl

-- ---- a row is cleared: no instance comes in

same_life : (life k : ℕ) (o : Option Instance) → is_life life (option_map (changed_if k retired) o) ≡ is_life life o
same_life life k None = refl
same_life life k (Some i) = by (i.slot == k)
  where
    by : (b : Bool) → ((cond b (retired i) i).life == life) ≡ (i.life == life)
    by true = refl
    by false = refl

false_true : false ≡ true → ⊥
false_true e = absurd cc

pub there_before : (id : ObjectId) (o : Option Instance) (is : List Instance) → is_there id (retired_from o is) ≡ true → is_there id is ≡ true
there_before id None is there = there
there_before id (Some i) is there = by (i.followers == 0) there
  where
    at : (b : Bool) → (id.slot == i.slot) ≡ b → is_life id.life (in_slot id.slot (without_slot i.slot is)) ≡ true → is_life id.life (in_slot id.slot is) ≡ true
    at true same out =
        let none : in_slot id.slot (without_slot i.slot is) ≡ None = ap (λ (n : ℕ). in_slot n (without_slot i.slot is)) (is_same id.slot i.slot same) ∙ in_slot-gone i.slot is in
        absurd (false_true (sym (ap (λ (o : Option Instance). is_life id.life o) none) ∙ out))
    at false apart out = sym (ap (λ (o : Option Instance). is_life id.life o) (in_slot-elsewhere id.slot i.slot is apart)) ∙ out

    by : (b : Bool) → is_there id (cond b (without_slot i.slot is) (changed_in i.slot retired is)) ≡ true → is_there id is ≡ true
    by true out = at (id.slot == i.slot) refl out
    by false still = sym (ap (λ (o : Option Instance). is_life id.life o) (in_slot-changed id.slot i.slot retired is (λ j. refl)) ∙ same_life id.life i.slot (in_slot id.slot is)) ∙ still

pub told_cleared : (number : ℕ → ℕ) (key : Bytes) (m : Memory) (next later : ℕ) (f : Exchanges) → later ≡ next → AreTold number m next f → AreTold number (retired_at key m) later f
unfolding retired_at
told_cleared number key m next later f same told =
    are_told_on number m (retired_at key m) next later (record { lives = omega arith; numbers = omega (arith, same); there = λ id there. there_before id (row_of key m.instances) m.instances there }) f told
