-- Where no row has to leave, the kept row of a key comes in with the decision; where one has to, its note is permitted.
use Rattle.std.proofs.Common.{◌≡◌, refl, sym, subst, ap, ap₂, ◌∙◌, ℕ, Bool, true, false, ◌&&◌, not, cond, nat_lt, [], ◌∷◌, Some, None, Option, option_map}
use Rattle.std.specs.Prelude.{bytes_eq, is_some}
use Rattle.std.proofs.lemmas.Slice.Eq.{bytes_eq-Decides}
use Rattle.pp_cache_law.proofs.Finds.{find_joined, first_of_two}
use Rattle.pp_cache_law.proofs.Numbers.{some_is}
use Rattle.pp_law.specs.Connections.{client}
use Rattle.pp_law.specs.Deciding.{decided, decided_by, enter_row, has_to_forget, is_for_memory, mark_row_of}
use Rattle.pp_law.specs.Due.{Due, Decide}
use Rattle.pp_law.specs.Leaving.{forgets_next, if_so}
use Rattle.pp_law.specs.Lists.{Bytes, is_some_with}
use Rattle.pp_law.specs.Requests.{key_in}
use Rattle.pp_law.specs.State.{State, Client, Entry, Instance as Known}
use Rattle.pp_law.specs.Table.{add_row, enter, forget_row, idle_row, is_row_of, must_forget, row, row_on_disk, rows, with_room}
use Rattle.pp_target.specs.Key.{Key, text_of}
use Rattle.pp_turns_law.specs.Rows.{with_entry, with_row_of}
use Rattle.pp_world.specs.declared.note.Decision.{Decision}
use Rattle.pp_turns_law.specs.Ways.{ItsNoteIsPermitted, RowsComeInWithDecisions}

itself : (key : Bytes) → bytes_eq key key ≡ true
itself key = (bytes_eq-Decides key key).1 refl

-- ---- a kept row comes in

-- with room, or with none to be made
room_is : (s : State) → (not (nat_lt (rows s) 1024) && is_some (idle_row s)) ≡ false → with_room s ≡ s
unfolding with_room
room_is s none = by (nat_lt (rows s) 1024) (idle_row s) none
  where
    by : (b : Bool) (o : Option Known) → (not b && is_some o) ≡ false → (elim b as (λ t. State) [ true ↦ s | false ↦ elim o as (λ t. State) [ None ↦ s | Some x ↦ forget_row x s ] ]) ≡ s
    by true o is = refl
    by false None is = refl
    by false (Some x) is = absurd (cc is)

pub enters_by : (key : Bytes) (s : State) → must_forget s key ≡ false → enter key false s ≡ with_row_of key s
unfolding enter
enters_by key s none = by (row s key) (row_on_disk s key) none
  where
    by : (o : Option Known) (e : Option Entry) → (not (is_some o) && is_some e && not (nat_lt (rows s) 1024) && is_some (idle_row s)) ≡ false
        → (elim o as (λ t. State) [ Some x ↦ s | None ↦ elim e as (λ t. State) [ None ↦ s | Some f ↦ add_row key f.version f.fields f.times false (with_room s) ] ])
        ≡ with_entry key (elim o as (λ t. Option Entry) [ Some x ↦ None | None ↦ e ]) s
    by (Some x) e is = refl
    by None None is = refl
    by None (Some e) is = ap (λ (t : State). add_row key e.version e.fields e.times false t) (room_is s is)

-- it is there then
there_by : (key : Bytes) (s : State) (e : Entry) → row (add_row key e.version e.fields e.times false s) key ≡ None → ⊥
unfolding add_row
there_by key s e none = by (row s key) (sym (find_joined (is_row_of key) s.instances (new ∷ []) ∙ ap (λ (b : Bool). first_of_two (row s key) (cond b (Some new) None)) (itself key)) ∙ none)
  where
    new : Known
    new = record { id = s.next_instance; key = key; version = e.version; fields = e.fields; times = e.times; is_retired = false; is_new = false }

    by : (o : Option Known) → first_of_two o (Some new) ≡ None → ⊥
    by None is = absurd (cc is)
    by (Some x) is = absurd (cc is)

there_then : (key : Bytes) (s : State) → row (with_row_of key s) key ≡ None → row_on_disk (with_row_of key s) key ≡ None
there_then key s = by (row s key) (row_on_disk s key) refl refl
  where
    by : (o : Option Known) (e : Option Entry) → row s key ≡ o → row_on_disk s key ≡ e → row (with_entry key (elim o as (λ t. Option Entry) [ Some x ↦ None | None ↦ e ]) s) key ≡ None
        → row_on_disk (with_entry key (elim o as (λ t. Option Entry) [ Some x ↦ None | None ↦ e ]) s) key ≡ None
    by (Some x) e is kept none = absurd (cc (sym is ∙ none))
    by None None is kept none = kept
    by None (Some e) is kept none = absurd (there_by key s e none)

enters_none : (key : Bytes) (s : State) → (row s key ≡ None → row_on_disk s key ≡ None) → enter key false s ≡ s
unfolding enter
enters_none key s kept = by (row s key) refl
  where
    by : (o : Option Known) → row s key ≡ o
        → (elim o as (λ t. State) [ Some x ↦ s | None ↦ elim (row_on_disk s key) as (λ t. State) [ None ↦ s | Some e ↦ add_row key e.version e.fields e.times false (with_room s) ] ]) ≡ s
    by (Some x) is = refl
    by None none = ap (λ (o : Option Entry). elim o as (λ t. State) [ None ↦ s | Some e ↦ add_row key e.version e.fields e.times false (with_room s) ]) (kept none)

-- ---- the decision is the same

abbrev entered_by : Bool → Option Key → State → State
entered_by b o s = elim b as (λ t. State) [ true ↦ s | false ↦ elim o as (λ t. State) [ None ↦ s | Some key ↦ mark_row_of (text_of key) (enter (text_of key) false s) ] ]

same_entered : (o : Option Key) (key : Bytes) (s : State) → option_map text_of o ≡ Some key → must_forget s key ≡ false → entered_by false o (with_row_of key s) ≡ entered_by false o s
same_entered None key s is none = absurd (cc is)
same_entered (Some own) key s is none =
    subst (λ (text : Bytes). mark_row_of text (enter text false (with_row_of key s)) ≡ mark_row_of text (enter text false s)) (sym (some_is (text_of own) key is))
    (ap (mark_row_of key) (enters_none key (with_row_of key s) (there_then key s) ∙ sym (enters_by key s none)))

enters_same : (c : Client) (d : Decision) (key : Bytes) (s : State) → is_for_memory d ≡ false → option_map text_of (key_in c.front) ≡ Some key → must_forget s key ≡ false → enter_row c d (with_row_of key s) ≡ enter_row c d s
unfolding enter_row
enters_same c d key s more keyed none =
    subst (λ (b : Bool). entered_by b (key_in c.front) (with_row_of key s) ≡ entered_by b (key_in c.front) s) (sym more) (same_entered (key_in c.front) key s keyed none)

pub comes : RowsComeInWithDecisions
unfolding decided
comes s c d key more keyed none = ap (decided_by c d) (enters_same c d key s more keyed none)

-- ---- its note is permitted

forgets_so : (s : State) (n index : ℕ) (due : Decision) (c : Client) (key : Bytes) → client s n ≡ Some c → option_map text_of (key_in c.front) ≡ Some key → must_forget s key ≡ true → forgets_next s (Some (Decide n index due)) ≡ true
forgets_so s n index due c key there keyed must = ap (λ (o : Option Client). is_some_with (has_to_forget s) o) there ∙ by (key_in c.front) keyed
  where
    by : (o : Option Key) → option_map text_of o ≡ Some key → is_some_with (λ (k : Key). must_forget s (text_of k)) o ≡ true
    by None is = absurd (cc is)
    by (Some own) is = ap (λ (text : Bytes). must_forget s text) (some_is (text_of own) key is) ∙ must

pub notes : ItsNoteIsPermitted
notes s n index due c key x first there keyed must next old =
    ap (λ (b : Bool). elim b as (λ t. Option Known) [ true ↦ if_so (λ (y : Known). bytes_eq y.key x.key && not y.is_new) (idle_row s) | false ↦ None ])
    (ap (λ (o : Option Due). forgets_next s o) first ∙ forgets_so s n index due c key there keyed must)
    ∙ ap (λ (o : Option Known). if_so (λ (y : Known). bytes_eq y.key x.key && not y.is_new) o) next
    ∙ ap₂ (λ (a b : Bool). elim (a && not b) as (λ t. Option Known) [ true ↦ Some x | false ↦ None ]) (itself x.key) old
