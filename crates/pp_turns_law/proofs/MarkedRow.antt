-- The row of its key is in memory and marked, in the program as in the law; all else is as before.
use Rattle.std.proofs.Common.{◌≡◌, refl, sym, subst, ap, ◌∙◌, ℕ, Bool, true, false, List, Some, None, Option, option_map}
use Rattle.std.specs.Prelude.{option_and_then, slice_get}
use Rattle.pp_turns_law.proofs.Marked.{marks}
use Rattle.pp_flow_law.specs.Tables.{Leaving}
use Rattle.pp_law.specs.Deciding.{enter_row, is_for_memory, mark_row_of}
use Rattle.pp_law.specs.Lists.{Bytes}
use Rattle.pp_law.specs.Requests.{key_in}
use Rattle.pp_law.specs.State.{State, Client, Entry, Instance as Known}
use Rattle.pp_law.specs.Table.{add_row, enter, mark_row, row, row_on_disk, with_room}
use Rattle.pp_objects.specs.Instances.{Instance, is_there, row_of}
use Rattle.pp_objects.specs.OneRow.{HasOneRow}
use Rattle.pp_objects.specs.declared.id.ObjectId.{ObjectId}
use Rattle.pp_peers.specs.declared.peers.Peer.{Peer}
use Rattle.pp_seats.specs.Heads.{asked_in, owned_in}
use Rattle.pp_seats.specs.declared.key.Key.{Key as OwnedKey}
use Rattle.pp_seats.specs.declared.seat.Seat.{Seat}
use Rattle.pp_state.specs.Pins.{is_for_memory as is_for_memory_in}
use Rattle.pp_take.specs.Deciding.{marked_at, marked_for, row_at, row_by, with_marked}
use Rattle.pp_state.specs.Ends.{Parts}
use Rattle.pp_states_law.specs.Steps.{ShowsSteps}
use Rattle.pp_target.specs.Key.{Key, text_of}
use Rattle.pp_world.specs.declared.note.Decision.{Decision}
use Rattle.pp_world.specs.declared.note.Decision.TheVariants.{Refuse, Hit, Part, Head, NotModified, Unsatisfiable, Relay, Validate, Fetch, Pass}
use Rattle.pp_turns_law.proofs.Moved.{HasOneKnown, known_moved, rows_moved, there_moved}

pub for_memory_same : (d : Decision) → is_for_memory_in d ≡ is_for_memory d
for_memory_same (Refuse status) = refl
for_memory_same Pass = refl
for_memory_same Fetch = refl
for_memory_same Validate = refl
for_memory_same Relay = refl
for_memory_same (Hit from to) = refl
for_memory_same (Part from to) = refl
for_memory_same Head = refl
for_memory_same NotModified = refl
for_memory_same Unsatisfiable = refl

-- ---- the law's, by its key

abbrev pub marked_by : Bool → Option Bytes → State → State
marked_by b o s = elim b as (λ t. State) [ true ↦ s | false ↦ elim o as (λ t. State) [ None ↦ s | Some key ↦ mark_row_of key s ] ]

enters_none : (key : Bytes) (s : State) → (row s key ≡ None → row_on_disk s key ≡ None) → enter key false s ≡ s
unfolding enter
enters_none key s kept = by (row s key) refl
  where
    by : (o : Option Known) → row s key ≡ o
        → (elim o as (λ t. State) [ Some x ↦ s | None ↦ elim (row_on_disk s key) as (λ t. State) [ None ↦ s | Some e ↦ add_row key e.version e.fields e.times false (with_room s) ] ]) ≡ s
    by (Some x) is = refl
    by None none = ap (λ (o : Option Entry). elim o as (λ t. State) [ None ↦ s | Some e ↦ add_row key e.version e.fields e.times false (with_room s) ]) (kept none)

-- where its row is in memory if it is kept
pub entered_is : (c : Client) (d : Decision) (s : State) → (is_for_memory d ≡ false → (key : Key) → key_in c.front ≡ Some key → row s (text_of key) ≡ None → row_on_disk s (text_of key) ≡ None) → enter_row c d s ≡ marked_by (is_for_memory d) (option_map text_of (key_in c.front)) s
unfolding enter_row
entered_is c d s kept = by (is_for_memory d) refl
  where
    at : (o : Option Key) → key_in c.front ≡ o → is_for_memory d ≡ false → (elim o as (λ t. State) [ None ↦ s | Some key ↦ mark_row_of (text_of key) (enter (text_of key) false s) ]) ≡ marked_by false (option_map text_of o) s
    at None is more = refl
    at (Some key) is more = ap (mark_row_of (text_of key)) (enters_none (text_of key) s (kept more key is))

    by : (b : Bool) → is_for_memory d ≡ b
        → (elim b as (λ t. State) [ true ↦ s | false ↦ elim (key_in c.front) as (λ t. State) [ None ↦ s | Some key ↦ mark_row_of (text_of key) (enter (text_of key) false s) ] ]) ≡ marked_by b (option_map text_of (key_in c.front)) s
    by true is = refl
    by false is = at (key_in c.front) refl is

pub record IsAsBefore (s t : State) : Type 0 where
  pub clients : t.clients ≡ s.clients
  pub exchanges : t.exchanges ≡ s.exchanges
  pub conns : t.conns ≡ s.conns
  pub settings : t.settings ≡ s.settings
  pub rows : (key : Bytes) → row t key ≡ row s key
  pub disk : (key : Bytes) → row_on_disk t key ≡ row_on_disk s key

same_as_before : (s : State) → IsAsBefore s s
same_as_before s = record { clients = refl; exchanges = refl; conns = refl; settings = refl; rows = λ key. refl; disk = λ key. refl }

mark_before : (n : ℕ) (s : State) → HasOneKnown s → IsAsBefore s (mark_row n s)
unfolding mark_row
mark_before n s one = record { clients = refl; exchanges = refl; conns = refl; settings = refl; rows = λ key. known_moved n s one key; disk = λ key. refl }

mark_of_before : (key : Bytes) (s : State) → HasOneKnown s → IsAsBefore s (mark_row_of key s)
unfolding mark_row_of
mark_of_before key s one = by (row s key)
  where
    by : (o : Option Known) → IsAsBefore s (elim o as (λ t. State) [ None ↦ s | Some x ↦ mark_row x.id s ])
    by None = same_as_before s
    by (Some x) = mark_before x.id s one

pub marked_before : (b : Bool) (o : Option Bytes) (s : State) → HasOneKnown s → IsAsBefore s (marked_by b o s)
marked_before true o s one = same_as_before s
marked_before false None s one = same_as_before s
marked_before false (Some key) s one = mark_of_before key s one

-- ---- the program's

pub record IsMarked (p q : Parts) : Type 0 where
  pub seats : q.seats ≡ p.seats
  pub flow : q.flow ≡ p.flow
  pub rows : (key : Bytes) → row_of key q.cache.instances ≡ row_of key p.cache.instances
  pub there : (id : ObjectId) → is_there id q.cache.instances ≡ is_there id p.cache.instances

with_one : (o : Option Instance) (p : Parts) → HasOneRow p.cache.instances → IsMarked p (record p { cache = with_marked o p.cache })
with_one None p one = record { seats = refl; flow = refl; rows = λ key. refl; there = λ id. refl }
with_one (Some x) p one = record { seats = refl; flow = refl; rows = rows_moved x.slot p.cache.instances one; there = there_moved x.slot p.cache.instances }

pub marked_so : (i : ℕ) (d : Decision) (p : Parts) → HasOneRow p.cache.instances → IsMarked p (marked_for i d p)
marked_so i d p one = by (is_for_memory_in d)
  where
    by : (b : Bool) → IsMarked p (elim b as (λ t. Parts) [ true ↦ p | false ↦ marked_at i p ])
    by true = with_one None p one
    by false = with_one (row_at i p) p one

-- ---- it shows the law's

abbrev key_texts : Seat → Option Bytes
key_texts seat = option_map (λ (k : OwnedKey). k.text.items) (owned_in (asked_in seat.front))

pub marks_for : (number : ℕ → ℕ) (name : Bytes) (l : Leaving) (peers : List Peer) (p : Parts) (s : State) → ShowsSteps number name l peers p s → (i : ℕ) (d : Decision) (seat : Seat) → slice_get p.seats i ≡ Some seat
    → ShowsSteps number name l peers (marked_for i d p) (marked_by (is_for_memory d) (option_map (λ (k : OwnedKey). k.text.items) (owned_in (asked_in seat.front))) s)
marks_for number name l peers p s steps i d seat here =
    subst (λ (b : Bool). ShowsSteps number name l peers (elim b as (λ t. Parts) [ true ↦ p | false ↦ marked_at i p ]) (marked_by (is_for_memory d) (key_texts seat) s)) (sym (for_memory_same d)) (by (is_for_memory d))
  where
    none_at : owned_in (asked_in seat.front) ≡ None → marked_at i p ≡ p
    none_at none =
        ap (λ (o : Option Instance). record p { cache = with_marked o p.cache })
        (ap (λ (o : Option Seat). row_by (option_and_then (λ (x : Seat). owned_in (asked_in x.front)) o) p.cache) here ∙ ap (λ (o : Option OwnedKey). row_by o p.cache) none)

    at : (o : Option OwnedKey) → owned_in (asked_in seat.front) ≡ o → ShowsSteps number name l peers (marked_at i p) (marked_by false (option_map (λ (k : OwnedKey). k.text.items) o) s)
    at None none = subst (λ (q : Parts). ShowsSteps number name l peers q s) (sym (none_at none)) steps
    at (Some key) owned = marks number name l peers p s steps i seat key here owned

    by : (b : Bool) → ShowsSteps number name l peers (elim b as (λ t. Parts) [ true ↦ p | false ↦ marked_at i p ]) (marked_by b (key_texts seat) s)
    by true = steps
    by false = at (owned_in (asked_in seat.front)) refl
