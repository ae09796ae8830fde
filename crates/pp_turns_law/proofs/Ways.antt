-- The row that gives way is the law's, in the same cases.
use Rattle.std.proofs.Common.{◌≡◌, ◌≤◌, ◌+◌, refl, sym, subst, ap, ap₂, ◌∙◌, ℕ, Bool, true, false, ◌&&◌, ◌||◌, not, cond, nat_lt, find, List, [], ◌∷◌, Some, None, Option, arith}
use Rattle.std.proofs.lemmas.Bool.Decides.{nat_tests}
use Rattle.std.proofs.lemmas.Slice.Eq.{bytes_eq-Decides}
use Rattle.std.specs.List.{list_any}
use Rattle.std.specs.Prelude.{bytes_eq, count_by, is_some, option_and_then}
use Rattle.pp_cache_law.proofs.Alike.{idle_rows_of, room_of}
use Rattle.pp_cache_law.proofs.Finds.{find_joined, find_passes, first_of_two, none_passes}
use Rattle.pp_cache_law.proofs.PairLemmas.{count_first, count_joined}
use Rattle.pp_cache_law.specs.Pairs.{AreBoth}
use Rattle.pp_cache_law.specs.Tables.{ShowsInstance}
use Rattle.pp_flow_law.specs.Tables.{Leaving}
use Rattle.pp_law.specs.Lists.{Bytes}
use Rattle.pp_law.specs.State.{State, Entry, Instance as Known}
use Rattle.pp_law.specs.Table.{add_row, forget, idle_row, is_bound_to, is_followed, is_idle_row, is_instance, is_row_of, must_forget, row, row_on_disk, rows}
use Rattle.pp_objects.specs.Instances.{Instance, is_row}
use Rattle.pp_peers.specs.declared.peers.Peer.{Peer}
use Rattle.pp_seats.specs.Heads.{is_key_text}
use Rattle.pp_seats.specs.Seats.{has_key}
use Rattle.pp_seats.specs.declared.key.Key.{Key as OwnedKey}
use Rattle.pp_seats.specs.declared.seat.Seat.{Seat}
use Rattle.pp_state.specs.Pins.{is_for_memory as is_for_memory_in, busy_rows, idle_row as idle_in}
use Rattle.pp_state.specs.Ends.{parts}
use Rattle.pp_steps.specs.Evicting.{is_key_at, row_in_way, unless_own, without_row}
use Rattle.pp_state.specs.declared.state.State.{State as Turn}
use Rattle.pp_states_law.specs.Steps.{ShowsSteps}
use Rattle.pp_turns_law.specs.Rows.{kept_alone, with_entry, with_row_of}
use Rattle.pp_world.specs.declared.note.Decision.{Decision}
use Rattle.pp_turns_law.proofs.Leaves.{few_known, forgets_before, forgets_show, room_behind, with_kept}
use Rattle.pp_turns_law.specs.Ways.{IsWay, MayYield, WaysAreTheLaws}

other_key : (a b : Bytes) → bytes_eq a b ≡ false → bytes_eq b a ≡ false
other_key a b apart = by (bytes_eq b a) refl
  where
    by : (t : Bool) → bytes_eq b a ≡ t → t ≡ false
    by true is = absurd (cc (sym (subst (λ (k : Bytes). bytes_eq k b ≡ false) (sym ((bytes_eq-Decides b a).0 is)) apart) ∙ (bytes_eq-Decides b b).1 refl))
    by false is = refl

few_more : (n : ℕ) → n ≤ 1024 → nat_lt 1024 n ≡ false
few_more n few = grind (arith, nat_tests, few)

one_more : (n : ℕ) → nat_lt n 1024 ≡ true → nat_lt 1024 (n + 1) ≡ false
one_more n few = grind (arith, nat_tests, few)

too_many : (n : ℕ) → nat_lt n 1024 ≡ false → nat_lt 1024 (n + 1) ≡ true
too_many n full = grind (arith, nat_tests, full)

module _ (number : ℕ → ℕ) (name : Bytes) (l : Leaving) (peers : List Peer) (turn : Turn) (i : ℕ) (d : Decision) (key : OwnedKey) (s : State) (may : MayYield number name l peers turn i key s) (more : is_for_memory_in d ≡ false) where
  abbrev text : Bytes
  text = key.text.items

  abbrev in_way : Bool → Option Instance
  in_way b = elim b as (λ t. Option Instance) [ true ↦ None | false ↦ option_and_then (unless_own i turn) (idle_in turn) ]

  -- where there are more rows than may be
  way_by : (b : Bool) → nat_lt 1024 (count_by is_row turn.cache.instances) ≡ b → row_in_way d i turn ≡ in_way (not b)
  way_by b is = ap₂ (λ (a t : Bool). in_way (a || not t)) more is

  count : count_by is_row turn.cache.instances ≡ rows (with_row_of text s)
  count = room_of number turn.cache (with_row_of text s) may.shows.shows.table.table

  none : row_in_way d i turn ≡ None → must_forget s text ≡ false → IsWay number name l peers turn i d text s (row_in_way d i turn)
  none stays room = subst (λ (o : Option Instance). IsWay number name l peers turn i d text s o) (sym stays) room

  own_at : (k : Bytes) → is_key_at i k turn ≡ bytes_eq text k
  own_at k = ap (λ (o : Option Seat). elim o as (λ t. Bool) [ None ↦ false | Some seat ↦ has_key k seat ]) may.here ∙ ap (λ (o : Option OwnedKey). is_key_text k o) may.owned

  -- ---- nothing is kept alone

  stays_by : kept_alone s text ≡ None → row_in_way d i turn ≡ None
  stays_by alone = way_by false (ap (λ (n : ℕ). nat_lt 1024 n) (count ∙ ap (λ (o : Option Entry). rows (with_entry text o s)) alone) ∙ few_more (rows s) may.most)

  alone_none : (o : Option Known) (e : Option Entry) → (elim o as (λ t. Option Entry) [ Some x ↦ None | None ↦ e ]) ≡ None → (not (is_some o) && is_some e && not (nat_lt (rows s) 1024) && is_some (idle_row s)) ≡ false
  alone_none (Some x) e is = refl
  alone_none None None is = refl
  alone_none None (Some e) is = absurd (cc is)

  -- ---- a row came in that was kept alone

  module _ (e : Entry) (lost : row s text ≡ None) (kept : row_on_disk s text ≡ Some e) where
    abbrev later : State
    later = add_row text e.version e.fields e.times false s

    abbrev new : Known
    new = record { id = s.next_instance; key = text; version = e.version; fields = e.fields; times = e.times; is_retired = false; is_new = false }

    steps : ShowsSteps number name l peers (parts turn) later
    steps = subst (λ (t : State). ShowsSteps number name l peers (parts turn) t) (with_kept s text e lost kept) may.shows

    rows_more : rows later ≡ rows s + 1
    unfolding add_row
    rows_more = count_joined (λ (x : Known). not x.is_retired) s.instances (new ∷ []) ∙ ap (λ (n : ℕ). rows s + n) one
      where
        one : count_by (λ (x : Known). not x.is_retired) (new ∷ []) ≡ 1
        one = count_first (λ (x : Known). not x.is_retired) new []

    count_more : count_by is_row turn.cache.instances ≡ rows s + 1
    count_more = count ∙ ap (λ (t : State). rows t) (with_kept s text e lost kept) ∙ rows_more

    -- the rows before it are idle as before
    idle_more : idle_row later ≡ first_of_two (idle_row s) (find (is_idle_row s) (new ∷ []))
    unfolding add_row
    idle_more = find_joined (is_idle_row s) s.instances (new ∷ [])

    idle_both : AreBoth (ShowsInstance number turn.cache later) (idle_in turn) (first_of_two (idle_row s) (find (is_idle_row s) (new ∷ [])))
    idle_both =
        subst (λ (o : Option Known). AreBoth (ShowsInstance number turn.cache later) (idle_in turn) o) idle_more
        (subst (λ (t : State). AreBoth (ShowsInstance number turn.cache t) (idle_in turn) (idle_row t)) (with_kept s text e lost kept)
        (idle_rows_of number turn.cache (with_row_of text s) may.shows.shows.table.table (busy_rows turn.flow) may.busy))

    must_is : (b : Bool) (v : Option Known) → nat_lt (rows s) 1024 ≡ b → idle_row s ≡ v → must_forget s text ≡ (not b && is_some v)
    must_is b v full next =
        ap₂ (λ (o : Option Known) (f : Option Entry). not (is_some o) && is_some f && not (nat_lt (rows s) 1024) && is_some (idle_row s)) lost kept
        ∙ ap₂ (λ (t : Bool) (w : Option Known). not t && is_some w) full next

    -- ---- there is none to leave

    itself : (u : Option Instance) (b : Bool) → AreBoth (ShowsInstance number turn.cache later) u (cond b (Some new) None) → option_and_then (unless_own i turn) u ≡ None
    itself None b both = refl
    itself (Some j) true both =
        ap (λ (b : Bool). elim b as (λ t. Option Instance) [ true ↦ None | false ↦ Some j ]) (own_at j.key ∙ (bytes_eq-Decides text j.key).1 (sym both.key))
    itself (Some j) false both = absurd both

    none_idle : idle_row s ≡ None → option_and_then (unless_own i turn) (idle_in turn) ≡ None
    none_idle next =
        itself (idle_in turn) (is_idle_row s new)
        (subst (λ (o : Option Known). AreBoth (ShowsInstance number turn.cache later) (idle_in turn) (first_of_two o (find (is_idle_row s) (new ∷ [])))) next idle_both)

    -- ---- that one leaves

    module _ (x : Known) (next : idle_row s ≡ Some x) (full : nat_lt (rows s) 1024 ≡ false) where
      stands : not x.is_retired ≡ true
      stands = by (not x.is_retired) (not (is_followed s x.id)) (not (list_any (is_bound_to x.id) s.exchanges)) (find_passes (is_idle_row s) s.instances x next)
        where
          by : (a b c : Bool) → (a && b && c) ≡ true → a ≡ true
          by true b c is = refl
          by false true c is = absurd (cc is)
          by false false c is = absurd (cc is)

      apart : bytes_eq x.key text ≡ false
      apart = ap (λ (b : Bool). b && bytes_eq x.key text) (sym stands) ∙ none_passes (is_row_of text) (is_idle_row s) s.instances x lost next

      gives : (u : Option Instance) → idle_in turn ≡ u → AreBoth (ShowsInstance number turn.cache later) u (Some x) → IsWay number name l peers turn i d text s (row_in_way d i turn)
      gives None is both = absurd both
      gives (Some j) is one =
          let free : unless_own i turn j ≡ Some j = ap (λ (b : Bool). elim b as (λ t. Option Instance) [ true ↦ None | false ↦ Some j ]) (own_at j.key ∙ ap (λ (k : Bytes). bytes_eq text k) one.key ∙ other_key x.key text apart) in
          let way : row_in_way d i turn ≡ Some j =
          way_by true (ap (λ (n : ℕ). nat_lt 1024 n) count_more ∙ too_many (rows s) full) ∙ ap (λ (o : Option Instance). option_and_then (unless_own i turn) o) is ∙ free in
          let few : count_by (is_instance x.id) later.instances ≤ 1 = few_known number turn.cache later j x steps.shows.table.table one in
          subst (λ (o : Option Instance). IsWay number name l peers turn i d text s o) (sym way) (record {
            row = x;
            next = next;
            same = one.key;
            must = must_is false (Some x) full next;
            shows =
                subst (λ (t : Turn). ShowsSteps number name l peers (parts t) (with_row_of text (forget x.id s))) (sym (ap (λ (o : Option Instance). without_row o turn) way))
                (subst (λ (t : State). ShowsSteps number name l peers (parts (without_row (Some j) turn)) t) (forgets_before s text e x lost kept next few) (forgets_show number name l peers (parts turn) later j x steps one));
            room = room_behind s text e x next few stands may.most;
          })

      given : IsWay number name l peers turn i d text s (row_in_way d i turn)
      given =
          gives (idle_in turn) refl
          (subst (λ (o : Option Known). AreBoth (ShowsInstance number turn.cache later) (idle_in turn) (first_of_two o (find (is_idle_row s) (new ∷ [])))) next idle_both)

    by_idle : (v : Option Known) → idle_row s ≡ v → nat_lt (rows s) 1024 ≡ false → IsWay number name l peers turn i d text s (row_in_way d i turn)
    by_idle None next full = none (way_by true (ap (λ (n : ℕ). nat_lt 1024 n) count_more ∙ too_many (rows s) full) ∙ none_idle next) (must_is false None full next)
    by_idle (Some x) next full = given x next full

    by_room : (b : Bool) → nat_lt (rows s) 1024 ≡ b → IsWay number name l peers turn i d text s (row_in_way d i turn)
    by_room true few = none (way_by false (ap (λ (n : ℕ). nat_lt 1024 n) count_more ∙ one_more (rows s) few)) (must_is true (idle_row s) few refl)
    by_room false full = by_idle (idle_row s) refl full

  by_row : (o : Option Known) (e : Option Entry) → row s text ≡ o → row_on_disk s text ≡ e → IsWay number name l peers turn i d text s (row_in_way d i turn)
  by_row (Some x) e is kept =
      let alone : kept_alone s text ≡ None = ap (λ (o : Option Known). elim o as (λ t. Option Entry) [ Some y ↦ None | None ↦ row_on_disk s text ]) is in
      none (stays_by alone) (alone_none (row s text) (row_on_disk s text) alone)
  by_row None None is kept =
      let alone : kept_alone s text ≡ None = ap₂ (λ (o : Option Known) (f : Option Entry). elim o as (λ t. Option Entry) [ Some y ↦ None | None ↦ f ]) is kept in
      none (stays_by alone) (alone_none (row s text) (row_on_disk s text) alone)
  by_row None (Some e) is kept = by_room e is kept (nat_lt (rows s) 1024) refl

  all_ways : IsWay number name l peers turn i d text s (row_in_way d i turn)
  all_ways = by_row (row s text) (row_on_disk s text) refl refl

pub ways : WaysAreTheLaws
ways number name l peers turn i d key s may more = all_ways number name l peers turn i d key s may more
