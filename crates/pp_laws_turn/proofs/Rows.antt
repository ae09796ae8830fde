-- What is done to rows and chunks keeps what is kept by each change.
use Rattle.std.proofs.Common.{◌≡◌, ◌⊎◌, refl, ℕ, ◌+◌, ◌<◌, nat_lt, Bool, true, false, not, ◌&&◌, ◌||◌, List, [], ◌∷◌, ◌++◌, map, filter, find, Option, Some, None, inl, inr, sym, subst, ap, ◌∙◌, le_refl, arith}
use Rattle.std.proofs.lemmas.List.{map-append}
use Rattle.std.specs.List.{list_any}
use Rattle.pp_fresh.specs.declared.aging.Times.{Times}
use Rattle.pp_text.specs.Fields.{Field}
use Rattle.pp_valid.specs.declared.version.Version.{Version}
use Rattle.pp_law.specs.Chunks.{is_chunk, use_chunk, drop_chunk}
use Rattle.pp_law.specs.Lists.{Bytes, is_some_with, is_this}
use Rattle.pp_law.specs.Stages.{reply_of}
use Rattle.pp_law.specs.State.{State, Client, Instance, Reply, Stage, Undecided, Waiting, Passing, Answering}
use Rattle.pp_law.specs.Table.{follows, is_bound_to, is_followed, is_idle_row, is_instance, is_left_over, is_row_of, row_on_disk, row, rows, idle_row, on_instance, forget, swept, clear, mark_row, forget_row, with_room, add_row, make_row, enter}
use Rattle.pp_laws.specs.Runs.{IsIn}
use Rattle.pp_laws.proofs.Lists.{changed_at, in_filter, in_find, in_front, in_map, in_moved, in_push, map_kept, moved}
use Rattle.pp_laws.proofs.Sound.{instance_id, source_in}
use Rattle.pp_laws.proofs.Tests.{number_same, same_number}
use Rattle.pp_laws_bounds.proofs.Counts.{in_filter_of, in_map_of}
use Rattle.pp_laws_turn.proofs.View.{View, KeepsRows, Holds, holds, facts_of, view, FromRow, IsFollowed, RowsFromOf, WasRow, KeepsRowsOf, OfKeys}
use Rattle.pp_laws_turn.proofs.Cases.{each_of, each_so, when}

-- ---- who follows

follows_so : (id : ℕ) (c : Client) → c.is_closing ≡ false → source_in c.stage ≡ Some id → follows id c ≡ true
follows_so id c going source = ap (λ b. not b && is_some_with (λ (r : Reply). is_this id r.source) (reply_of c)) going ∙ by c.stage source
  where
    by : (stage : Stage) → source_in stage ≡ Some id → is_some_with (λ (r : Reply). is_this id r.source) (elim stage as (λ x. Option Reply) [ Undecided ↦ None | Waiting ↦ None | Passing ↦ None | Answering r ↦ Some r ]) ≡ true
    by Undecided is = absurd (cc is)
    by Waiting is = absurd (cc is)
    by Passing is = absurd (cc is)
    by (Answering r) is = ap (is_this id) is ∙ number_same id

any_so : {A : Type 0} (p : A → Bool) (x : A) (xs : List A) → IsIn x xs → p x ≡ true → list_any p xs ≡ true
any_so p x [] i is = absurd i
any_so p x (y ∷ ys) (inl e) is = ap (λ b. b || list_any p ys) (sym (ap p e) ∙ is)
any_so p x (y ∷ ys) (inr i) is = by (p y) (any_so p x ys i is)
  where
    by : (b : Bool) → list_any p ys ≡ true → (b || list_any p ys) ≡ true
    by true rest = refl
    by false rest = rest

pub followed_so : (id : ℕ) (cs : List Client) → IsFollowed id cs → list_any (follows id) cs ≡ true
followed_so id cs w = any_so (follows id) w.0 cs w.1 (follows_so id w.0 w.2 w.3)

-- ---- instances

row_same : (x : Instance) → WasRow x x
row_same x = record { id = refl; key = refl; is_new = λ is. is; retired = λ is. is }

row_changed : (p : Instance → Bool) (f : Instance → Instance) (x : Instance) (t : Bool) → WasRow (f x) x → WasRow (elim t as (λ c. Instance) [ true ↦ f x | false ↦ x ]) x
row_changed p f x true was = was
row_changed p f x false was = row_same x

pub rows_mapped : {K : OfKeys} (v : View) (f : Instance → Instance) → ((x : Instance) → WasRow (f x) x) → RowsFromOf K v (map f v.instances) v.next_instance
rows_mapped v f was = record {
  grows = le_refl v.next_instance;
  from = λ x i. inl (from x i);
  keys = λ x i. inl (from x i);
  kept = λ id w i. subst (λ ns. IsIn id ns) (sym (map_kept instance_id f (λ x. (was x).id) v.instances)) i;
}
  where
    from : (x : Instance) → IsIn x (map f v.instances) → FromRow v.instances x
    from x i = let r = in_map f x v.instances i in record { was = r.was; there = r.there; is = subst (λ (y : Instance). WasRow y r.was) (sym r.is) (was r.was) }

rows_changed : {K : OfKeys} (v : View) (p : Instance → Bool) (f : Instance → Instance) → ((x : Instance) → WasRow (f x) x) → RowsFromOf K v (map (changed_at p f) v.instances) v.next_instance
rows_changed v p f was = rows_mapped v (changed_at p f) (λ x. row_changed p f x (p x) (was x))

-- where each that is followed stays
pub rows_filtered : {K : OfKeys} (v : View) (p : Instance → Bool) → ((x : Instance) → IsIn x v.instances → list_any (follows x.id) v.clients ≡ true → p x ≡ true) → RowsFromOf K v (filter p v.instances) v.next_instance
rows_filtered v p stays = record {
  grows = le_refl v.next_instance;
  from = λ x i. inl (record { was = x; there = (in_filter p x v.instances i).0; is = row_same x });
  keys = λ x i. inl (record { was = x; there = (in_filter p x v.instances i).0; is = row_same x });
  kept = λ id w i. let r = in_map instance_id id v.instances i in
      subst (λ n. IsIn n (map instance_id (filter p v.instances))) (sym r.is) (in_map_of instance_id r.was (filter p v.instances) (in_filter_of p r.was v.instances r.there
      (stays r.was r.there (subst (λ n. list_any (follows n) v.clients ≡ true) r.is (followed_so id v.clients w)))));
}

in_back : {A : Type 0} (x : A) (xs ys : List A) → IsIn x ys → IsIn x (xs ++ ys)
in_back x [] ys i = i
in_back x (y ∷ xs) ys i = inr (in_back x xs ys i)

in_moved_of : (p : Instance → Bool) (x : Instance) (xs : List Instance) → IsIn x xs → IsIn x (moved p xs)
in_moved_of p x xs i = by (p x) refl
  where
    by : (t : Bool) → p x ≡ t → IsIn x (moved p xs)
    by true is = in_back x (filter (λ y. not (p y)) xs) (filter p xs) (in_filter_of p x xs i is)
    by false is = in_front x (filter (λ y. not (p y)) xs) (filter p xs) (in_filter_of (λ y. not (p y)) x xs i (ap not is))

rows_moved : {K : OfKeys} (v : View) (p : Instance → Bool) → RowsFromOf K v (moved p v.instances) v.next_instance
rows_moved v p = record {
  grows = le_refl v.next_instance;
  from = λ x i. inl (record { was = x; there = in_moved p x v.instances i; is = row_same x });
  keys = λ x i. inl (record { was = x; there = in_moved p x v.instances i; is = row_same x });
  kept = λ id w i. let r = in_map instance_id id v.instances i in subst (λ n. IsIn n (map instance_id (moved p v.instances))) (sym r.is) (in_map_of instance_id r.was (moved p v.instances) (in_moved_of p r.was v.instances r.there));
}

rows_pushed : {K : OfKeys} (v : View) (x : Instance) → x.id ≡ v.next_instance → K x.key → RowsFromOf K v (v.instances ++ x ∷ []) (v.next_instance + 1)
rows_pushed {K} v x number key = record {
  grows = omega arith;
  from = λ y i. by y (in_push y v.instances x i);
  keys = λ y i. of y (in_push y v.instances x i);
  kept = λ id w i. subst (λ ns. IsIn id ns) (sym (map-append instance_id v.instances (x ∷ []))) (in_front id (map instance_id v.instances) (x.id ∷ []) i);
}
  where
    by : (y : Instance) → IsIn y v.instances ⊎ (y ≡ x) → FromRow v.instances y ⊎ ((y.id ≡ v.next_instance) × (y.id < v.next_instance + 1))
    by y (inl i) = inl (record { was = y; there = i; is = row_same y })
    by y (inr e) = let is : y.id ≡ v.next_instance = ap instance_id e ∙ number in inr (is, omega arith)

    of : (y : Instance) → IsIn y v.instances ⊎ (y ≡ x) → FromRow v.instances y ⊎ K y.key
    of y (inl i) = inl (record { was = y; there = i; is = row_same y })
    of y (inr e) = inr (subst K (ap (λ (z : Instance). z.key) (sym e)) key)

-- ---- rows

pub on_instance-keeps : {K : OfKeys} {P : View → Type 0} (w : KeepsRowsOf K P) (id : ℕ) (f : Instance → Instance) (s : State) → ((x : Instance) → WasRow (f x) x) → Holds P s → Holds P (on_instance id f s)
unfolding on_instance
on_instance-keeps w id f s was h = holds (w (map (changed_at (is_instance id) f) s.instances) s.next_instance (view s) (rows_changed (view s) (is_instance id) f was) (facts_of h))

not_so : (t : Bool) → t ≡ false → not t ≡ true
not_so t is = ap not is

-- one that nobody follows is out
pub forget-keeps : {K : OfKeys} {P : View → Type 0} (w : KeepsRowsOf K P) (id : ℕ) (s : State) → is_followed s id ≡ false → Holds P s → Holds P (forget id s)
unfolding forget
forget-keeps w id s none h = holds (w (filter (λ x. not (is_instance id x)) s.instances) s.next_instance (view s) (rows_filtered (view s) (λ x. not (is_instance id x)) (λ x i fol. by x (is_instance id x) refl fol)) (facts_of h))
  where
    by : (x : Instance) (t : Bool) → is_instance id x ≡ t → list_any (follows x.id) s.clients ≡ true → not t ≡ true
    by x false is fol = refl
    by x true is fol = let both : true ≡ false = sym (subst (λ n. list_any (follows n) s.clients ≡ true) (same_number x.id id is) fol) ∙ none in absurd (cc both)

pub swept-keeps : {K : OfKeys} {P : View → Type 0} (w : KeepsRowsOf K P) (s : State) → Holds P s → Holds P (swept s)
unfolding swept
swept-keeps w s h = holds (w (filter (λ x. not (is_left_over s x)) s.instances) s.next_instance (view s) (rows_filtered (view s) (λ x. not (is_left_over s x)) (λ x i fol. by x.is_retired (is_followed s x.id) fol)) (facts_of h))
  where
    by : (t u : Bool) → u ≡ true → not (t && not u) ≡ true
    by true true is = refl
    by true false is = absurd (cc is)
    by false u is = refl

pub clear-keeps : {K : OfKeys} {P : View → Type 0} (w : KeepsRowsOf K P) (key : Bytes) (s : State) → Holds P s → Holds P (clear key s)
unfolding clear
clear-keeps w key s h = swept-keeps w _ (holds (w (map (changed_at (is_row_of key) (λ x. record x { is_retired = true })) s.instances) s.next_instance (view s) (rows_changed (view s) (is_row_of key) (λ x. record x { is_retired = true }) (λ x. record { id = refl; key = refl; is_new = λ is. is; retired = λ is. refl })) (facts_of h)))

pub mark_row-keeps : {K : OfKeys} {P : View → Type 0} (w : KeepsRowsOf K P) (id : ℕ) (s : State) → Holds P s → Holds P (mark_row id s)
unfolding mark_row
mark_row-keeps w id s h = holds (w (moved (is_instance id) s.instances) s.next_instance (view s) (rows_moved (view s) (is_instance id)) (facts_of h))

-- ---- room for one

-- an idle row is followed by nobody
pub idle_alone : (s : State) (x : Instance) → idle_row s ≡ Some x → is_followed s x.id ≡ false
idle_alone s x found = by x.is_retired (is_followed s x.id) (list_any (is_bound_to x.id) s.exchanges) (in_find (is_idle_row s) x s.instances found).1
  where
    by : (r f b : Bool) → (not r && not f && not b) ≡ true → f ≡ false
    by false false b is = refl
    by false true b is = absurd (cc is)
    by true f b is = absurd (cc is)

pub forget_row-keeps : {K : OfKeys} {P : View → Type 0} (w : KeepsRowsOf K P) (x : Instance) (s : State) → is_followed s x.id ≡ false → Holds P s → Holds P (forget_row x s)
unfolding forget_row
forget_row-keeps w x s none h = holds (facts_of (forget-keeps w x.id s none h))

pub with_room-keeps : {K : OfKeys} {P : View → Type 0} (w : KeepsRowsOf K P) (s : State) → Holds P s → Holds P (with_room s)
unfolding with_room
with_room-keeps w s h = when (nat_lt (rows s) 1024) h (each_so (idle_row s) (λ none. h) (λ x found. forget_row-keeps w x s (idle_alone s x found) h))

add_row-keeps : {K : OfKeys} {P : View → Type 0} (w : KeepsRowsOf K P) (key : Bytes) (version : Version) (fields : List Field) (times : Times) (is_new : Bool) (s : State) → K key → Holds P s → Holds P (add_row key version fields times is_new s)
unfolding add_row
add_row-keeps w key version fields times is_new s of h = holds (w (s.instances ++ x ∷ []) (s.next_instance + 1) (view s) (rows_pushed (view s) x refl of) (facts_of h))
  where
    x : Instance
    x = record { id = s.next_instance; key = key; version = version; fields = fields; times = times; is_retired = false; is_new = is_new }

pub make_row-named : {K : OfKeys} {P : View → Type 0} (w : KeepsRowsOf K P) (key : Bytes) (version : Version) (fields : List Field) (times : Times) (s : State) → K key → Holds P s → Holds P (make_row key version fields times s)
unfolding make_row
make_row-named w key version fields times s of h = add_row-keeps w key version fields times true _ of (with_room-keeps w _ (clear-keeps w key s h))

pub make_row-keeps : {P : View → Type 0} (w : KeepsRows P) (key : Bytes) (version : Version) (fields : List Field) (times : Times) (s : State) → Holds P s → Holds P (make_row key version fields times s)
make_row-keeps w key version fields times s h = make_row-named w key version fields times s tt h

pub enter-named : {K : OfKeys} {P : View → Type 0} (w : KeepsRowsOf K P) (key : Bytes) (is_new : Bool) (s : State) → K key → Holds P s → Holds P (enter key is_new s)
unfolding enter
enter-named w key is_new s of h = each_of (row s key) (each_of (row_on_disk s key) h (λ e. add_row-keeps w key e.version e.fields e.times is_new _ of (with_room-keeps w s h))) (λ x. h)

pub enter-keeps : {P : View → Type 0} (w : KeepsRows P) (key : Bytes) (is_new : Bool) (s : State) → Holds P s → Holds P (enter key is_new s)
enter-keeps w key is_new s h = enter-named w key is_new s tt h

-- ---- chunks

pub use_chunk-keeps : {P : View → Type 0} (id i : ℕ) (s : State) → Holds P s → Holds P (use_chunk id i s)
unfolding use_chunk
use_chunk-keeps id i s h = each_so (find (is_chunk id i) s.chunks) (λ none. h) (λ c found. holds (facts_of h))

pub drop_chunk-keeps : {P : View → Type 0} (id i : ℕ) (s : State) → Holds P s → Holds P (drop_chunk id i s)
unfolding drop_chunk
drop_chunk-keeps id i s h = holds (facts_of h)
