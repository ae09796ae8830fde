-- What a filling needs stands still where the row of its key comes in beside its head.
use Rattle.std.proofs.Common.{◌≡◌, ◌⊎◌, inl, inr, refl, sym, subst, ap, ◌∙◌, ℕ, Bool, true, false, ◌==◌, cond, find, not, List, [], ◌∷◌, Option, Some, None, arith}
use Rattle.std.proofs.lemmas.Bool.Decides.{nat_tests}
use Rattle.std.specs.Prelude.{is_some, nat_lt, slice_get}
use Rattle.pp_answers_law.specs.Lives.{GivesLives, HaveGivenLives, IsThereStill, KeepsNamedLives}
use Rattle.pp_answers_law.specs.Takes.{IsFromKey, MayFill}
use Rattle.pp_cache.specs.Memory.{Memory}
use Rattle.pp_cache_law.proofs.Finds.{find_joined, find_kept, first_of_two}
use Rattle.pp_cache_law.proofs.Numbers.{some_is}
use Rattle.pp_cache_law.specs.Pairs.{AreAll}
use Rattle.pp_cache_law.specs.Tables.{ShowsInstance, ShowsTable}
use Rattle.pp_due.specs.Entering.{HasRowFor}
use Rattle.pp_flow_law.proofs.Entries.{none_some}
use Rattle.pp_head.specs.Response.{Response}
use Rattle.pp_law.specs.Connections.{is_client}
use Rattle.pp_law.specs.Lists.{Bytes, without}
use Rattle.pp_law.specs.OwnHeads.{key_of}
use Rattle.pp_law.specs.Responses.{bring_row, is_readable}
use Rattle.pp_law.specs.Stages.{filled_of}
use Rattle.pp_law.specs.State.{State, Client, Entry as KeptEntry, Exchange, Instance as Known}
use Rattle.pp_law.specs.Table.{add_row, enter, forget, forget_row, idle_row, instance, is_instance, row, row_on_disk, rows, with_room}
use Rattle.pp_objects.specs.Instances.{Instance, followers_of, in_slot, is_life}
use Rattle.pp_objects.specs.declared.id.ObjectId.{ObjectId}
use Rattle.pp_seats.specs.declared.seat.Seat.{Seat}
use Rattle.pp_state.specs.Ends.{parts}
use Rattle.pp_state.specs.declared.state.State.{State as Turn}
use Rattle.pp_states_law.specs.Charges.{IsFor}
use Rattle.pp_store.specs.Kept.{KeptMap}
use Rattle.pp_turns_law.specs.Turns.{IsFollowing}
use Rattle.pp_reads_law.proofs.Brings.{IsBeside, beside_brought}
use Rattle.pp_reads_law.proofs.GivenReads.{row_for_on}
use Rattle.pp_reads_law.proofs.Knows.{IsBesideRows, row_beside}
use Rattle.pp_reads_law.specs.Heads.{IsFollowedThere, MayFillBeside}

-- ---- the life of each instance was given

all_given : (number : ℕ → ℕ) (m : Memory) (s : State) (is : List Instance) (xs : List Known) → AreAll (ShowsInstance number m s) is xs → HaveGivenLives m.lives is
all_given number m s [] [] all = tt
all_given number m s [] (x ∷ xs) all = absurd all
all_given number m s (i ∷ is) [] all = absurd all
all_given number m s (i ∷ is) (x ∷ xs) all = (all.0.given, all_given number m s is xs all.1)

pub table_gives : (number : ℕ → ℕ) (m : Memory) (s : State) → ShowsTable number m s → GivesLives m
table_gives number m s table = record { alone = table.alone; given = all_given number m s m.instances s.instances table.instances }

-- ---- what is followed stays

pub followed_still : (p q : Memory) (id : ObjectId) → ((slot : ℕ) (i : Instance) → in_slot slot p.instances ≡ Some i → (i.followers == 0) ≡ false → IsThereStill i (in_slot slot q.instances)) → IsFollowedThere id p.instances → IsFollowedThere id q.instances
followed_still p q id stay old = by (in_slot id.slot p.instances) refl old.there old.some
  where
    by : (o : Option Instance) → in_slot id.slot p.instances ≡ o → is_life id.life o ≡ true → (followers_of o == 0) ≡ false → IsFollowedThere id q.instances
    by None found life some = absurd (cc life)
    by (Some j) found life some =
        let still : IsThereStill j (in_slot id.slot q.instances) = stay id.slot j found some in
        record {
          there = ap (λ (o : Option Instance). is_life id.life o) still.there ∙ ap (λ (n : ℕ). n == id.life) still.life ∙ life;
          some = ap (λ (o : Option Instance). followers_of o == 0) still.there ∙ ap (λ (n : ℕ). n == 0) still.followers ∙ some;
        }

-- ---- an instance that is in memory behind it was there, or is of that key

none_left : (j : ℕ) (xs : List Known) → find (is_instance j) (without (is_instance j) xs) ≡ None
none_left j [] = refl
none_left j (x ∷ xs) = by (is_instance j x) refl (none_left j xs)
  where
    by : (b : Bool) → is_instance j x ≡ b → find (is_instance j) (without (is_instance j) xs) ≡ None → find (is_instance j) (cond (not b) (x ∷ without (is_instance j) xs) (without (is_instance j) xs)) ≡ None
    by true is rest = rest
    by false is rest = ap (λ (b : Bool). cond b (Some x) (find (is_instance j) (without (is_instance j) xs))) is ∙ rest

same_two : (a b : ℕ) → (a == b) ≡ true → a ≡ b
same_two a b is = grind (arith, nat_tests)

apart_two : (a b c : ℕ) → (a == b) ≡ true → (b == c) ≡ false → not (a == c) ≡ true
apart_two a b c one two = grind (arith, nat_tests)

was_there : (j id : ℕ) (xs : List Known) (x : Known) → find (is_instance id) (without (is_instance j) xs) ≡ Some x → find (is_instance id) xs ≡ Some x
was_there j id xs x found = by (id == j) refl
  where
    by : (b : Bool) → (id == j) ≡ b → find (is_instance id) xs ≡ Some x
    by true is =
        absurd (none_some x (sym (none_left j xs) ∙ subst (λ (n : ℕ). find (is_instance n) (without (is_instance j) xs) ≡ Some x) (same_two id j is) found))
    by false is = sym (find_kept (is_instance id) (λ (y : Known). not (is_instance j y)) xs (λ y its. apart_two y.id id j its is)) ∙ found

abbrev WasOrIsOf : State → State → Bytes → Type 0
WasOrIsOf s t key = (id : ℕ) (x : Known) → instance t id ≡ Some x → (instance s id ≡ Some x) ⊎ (x.key ≡ key)

room_was : (s : State) (id : ℕ) (x : Known) → instance (with_room s) id ≡ Some x → instance s id ≡ Some x
unfolding with_room forget_row forget
room_was s id x = by (nat_lt (rows s) 1024) (idle_row s)
  where
    by : (b : Bool) (o : Option Known) → instance (elim b as (λ t. State) [ true ↦ s | false ↦ elim o as (λ t. State) [ None ↦ s | Some y ↦ forget_row y s ] ]) id ≡ Some x → instance s id ≡ Some x
    by true o found = found
    by false None found = found
    by false (Some y) found = was_there y.id id s.instances x found

added_was : (key : Bytes) (e : KeptEntry) (s t : State) → ((id : ℕ) (x : Known) → instance t id ≡ Some x → instance s id ≡ Some x) → WasOrIsOf s (add_row key e.version e.fields e.times true t) key
unfolding add_row
added_was key e s t was id x found = at (find (is_instance id) t.instances) refl (sym (find_joined (is_instance id) t.instances (new ∷ [])) ∙ found)
  where
    new : Known
    new = record { id = t.next_instance; key = key; version = e.version; fields = e.fields; times = e.times; is_retired = false; is_new = true }

    last : (b : Bool) → cond b (Some new) None ≡ Some x → x.key ≡ key
    last true is = ap (λ (y : Known). y.key) (sym (some_is new x is))
    last false is = absurd (none_some x is)

    at : (o : Option Known) → find (is_instance id) t.instances ≡ o → first_of_two o (find (is_instance id) (new ∷ [])) ≡ Some x → (instance s id ≡ Some x) ⊎ (x.key ≡ key)
    at None is both = inr (last (is_instance id new) both)
    at (Some y) is both = inl (was id x (is ∙ both))

entered_was : (key : Bytes) (s : State) → WasOrIsOf s (enter key true s) key
unfolding enter
entered_was key s = by (row s key) (row_on_disk s key)
  where
    by : (o : Option Known) (u : Option KeptEntry) → WasOrIsOf s (elim o as (λ t. State) [ Some x ↦ s | None ↦ elim u as (λ t. State) [ None ↦ s | Some e ↦ add_row key e.version e.fields e.times true (with_room s) ] ]) key
    by (Some x) u = λ id y found. inl found
    by None None = λ id y found. inl found
    by None (Some e) = added_was key e s (with_room s) (λ id x found. room_was s id x found)

brought_was : (e : Exchange) (head : Response) (s : State) → WasOrIsOf s (bring_row e head s) (key_of e)
unfolding bring_row
brought_was e head s = by (is_readable e head)
  where
    by : (b : Bool) → WasOrIsOf s (elim b as (λ t. State) [ true ↦ enter (key_of e) true s | false ↦ s ]) (key_of e)
    by true = entered_was (key_of e) s
    by false = λ id y found. inl found

-- ---- all of it

pub fills_beside : (shelf : KeptMap) (key : Option Bytes) (number : ℕ → ℕ) (p q : Turn) (s t : State) (e : Exchange) (head : Response) → ShowsTable number p.cache s → HasRowFor shelf key p q → t.clients ≡ s.clients → t.instances ≡ s.instances → is_some (filled_of e) ≡ true
    → MayFillBeside p s e → MayFill q (bring_row e head t) e
fills_beside shelf key number p q s t e head table row clients instances aim may = record { aim = aim; follows = follows; key = of_key }
  where
    keeps : KeepsNamedLives (parts p) (parts q)
    keeps = row_for_on shelf key p q row (table_gives number p.cache s table)

    beside : IsBesideRows p q
    beside = row_beside shelf key p q row

    follows : (i : ℕ) (seat : Seat) → slice_get q.seats.items i ≡ Some seat → seat.is_closing ≡ false → IsFollowing q.cache seat
    follows i seat at on a id answers own =
        let then : IsFollowedThere id q.cache.instances = followed_still p.cache q.cache id keeps.memory.followed (may.followed i seat a id (ap (λ (seats : List Seat). slice_get seats i) (sym beside.seats) ∙ at) on answers own) in
        then.there

    all_clients : (bring_row e head t).clients ≡ s.clients
    all_clients = let kept : IsBeside t (bring_row e head t) = beside_brought e head t in kept.clients ∙ clients

    of_key : IsFor (bring_row e head t) e (IsFromKey (bring_row e head t) e)
    of_key n c asks found r id x reply source there = by (brought_was e head t id x there)
      where
        by : (instance t id ≡ Some x) ⊎ (x.key ≡ key_of e) → x.key ≡ key_of e
        by (inl was) = may.key n c asks (sym (ap (λ (cs : List Client). find (is_client n) cs) all_clients) ∙ found) r id x reply source (ap (λ (xs : List Known). find (is_instance id) xs) (sym instances) ∙ was)
        by (inr is) = is
