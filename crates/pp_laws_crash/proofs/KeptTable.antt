-- Changes of rows, connections and exchanges keep what the disk is about.
use Rattle.std.proofs.Common.{inl, inr, map, ◌≡◌, refl, ℕ, nat_lt, Bool, true, false, not, ◌==◌, ◌&&◌, List, [], ◌∷◌, Option, Some, None, sym, ap, ◌∙◌, option_and_then}
use Rattle.pp_fresh.specs.declared.aging.Times.{Times}
use Rattle.pp_peers.specs.declared.placing.Placed.TheVariants.{On, Dial, CloseThenDial, Wait}
use Rattle.pp_peers.specs.declared.placing.Placed.{Placed}
use Rattle.pp_target.specs.Key.{text_of}
use Rattle.pp_text.specs.Fields.{Field}
use Rattle.pp_valid.specs.declared.version.Version.{Version}
use Rattle.pp_law.specs.Chunks.{is_chunk, use_chunk, drop_chunk, note_use}
use Rattle.std.specs.Prelude.{bytes_eq, cond, filter, find, is_some, ◌++◌, ◌||◌, ◌⊎◌}
use Rattle.pp_law.specs.Closing.{forsake, leave, leave_one, exchanges_of, close_client}
use Rattle.pp_law.specs.Connections.{client, conn, exchange, on_conn, on_exchange, on_client, on_client_of, each_client, each_conn, each_exchange, is_unfilled, give_up_row, charge, lose_attempt, fail, may_ask_again, end_exchange, leave_place, lose_place, close_conn, attempts_of, lost_one, place_for, put_on, if_unplaced, place_each, placing, WaitsDial, WaitsDrop, Placement}
use Rattle.pp_law.specs.Lists.{Bytes, change, has_text}
use Rattle.pp_law.specs.Stages.{is_headed}
use Rattle.pp_law.specs.State.{State, Course, Client, Conn, Exchange, Instance, Entry}
use Rattle.pp_law.specs.Table.{displaced_by, is_entry_of, is_namesake, row, row_on_disk, rows, idle_row, on_instance, forget, swept, clear, mark_row, forget_row, with_room, add_row, make_row, enter}
use Rattle.pp_laws.proofs.Lists.{From, in_map}
use Rattle.pp_laws_crash.proofs.Frames.{AreThere, Kept, PartsOf, WasEntry, StaysEntry, kept, parts_of, now_at, in_changed, unstaled, when, each_of}

-- ---- rows

pub on_instance-kept : {o : State} (id : ℕ) (f : Instance → Instance) (s : State) → Kept o s → Kept o (on_instance id f s)
unfolding on_instance
on_instance-kept id f s h = kept (parts_of h)

pub forget-kept : {o : State} (id : ℕ) (s : State) → Kept o s → Kept o (forget id s)
unfolding forget
forget-kept id s h = kept (parts_of h)

pub swept-kept : {o : State} (s : State) → Kept o s → Kept o (swept s)
unfolding swept
swept-kept s h = kept (parts_of h)

abbrev staled : Entry → Entry
staled e = record e { is_stale = true }

-- an entry that is stale from now on
stale_by : (old : List Entry) (e was : Entry) (b : Bool) → e ≡ (elim b as (λ c. Entry) [ true ↦ staled was | false ↦ was ]) → WasEntry old was → WasEntry old e
stale_by old e was true eq w = record {
  was = w.was;
  there = w.there;
  name = ap (λ (x : Entry). x.name) eq ∙ w.name;
  key = ap (λ (x : Entry). x.key) eq ∙ w.key;
  version = ap (λ (x : Entry). x.version) eq ∙ w.version;
  fresh = λ f. let both : true ≡ false = sym (ap (λ (x : Entry). x.is_stale) eq) ∙ f in absurd (cc both);
}
stale_by old e was false eq w = record {
  was = w.was;
  there = w.there;
  name = ap (λ (x : Entry). x.name) eq ∙ w.name;
  key = ap (λ (x : Entry). x.key) eq ∙ w.key;
  version = ap (λ (x : Entry). x.version) eq ∙ w.version;
  fresh = λ f. eq ∙ w.fresh (sym (ap (λ (x : Entry). x.is_stale) eq) ∙ f);
}

same_as : (was now : Entry) (b : Bool) → now ≡ (elim b as (λ c. Entry) [ true ↦ staled was | false ↦ was ]) → (now.name ≡ was.name) × (now.key ≡ was.key) × (now.version ≡ was.version) × (now.extent ≡ was.extent)
same_as was now true eq = (ap (λ (x : Entry). x.name) eq, ap (λ (x : Entry). x.key) eq, ap (λ (x : Entry). x.version) eq, ap (λ (x : Entry). x.extent) eq)
same_as was now false eq = (ap (λ (x : Entry). x.name) eq, ap (λ (x : Entry). x.key) eq, ap (λ (x : Entry). x.version) eq, ap (λ (x : Entry). x.extent) eq)

unstaled_same : (p : Entry → Bool) (es : List Entry) → map unstaled (change p staled es) ≡ map unstaled es
unstaled_same p [] = refl
unstaled_same p (e ∷ es) = by (p e) (unstaled_same p es)
  where
    by : (b : Bool) → map unstaled (change p staled es) ≡ map unstaled es → unstaled (elim b as (λ c. Entry) [ true ↦ staled e | false ↦ e ]) ∷ map unstaled (change p staled es) ≡ unstaled e ∷ map unstaled es
    by true rest = ap (λ (xs : List Entry). unstaled e ∷ xs) rest
    by false rest = ap (λ (xs : List Entry). unstaled e ∷ xs) rest

-- whose name another key takes has an entry still, whether it is stale or not
found_still : (key : Bytes) (p : Entry → Bool) (es : List Entry) → is_some (find (is_entry_of key) (change p staled es)) ≡ is_some (find (is_entry_of key) es)
found_still key p [] = refl
found_still key p (e ∷ es) = by (p e) (found_still key p es)
  where
    at : (b : Bool) (x y : Entry) (f g : Option Entry) → is_some f ≡ is_some g → is_some (cond b (Some x) f) ≡ is_some (cond b (Some y) g)
    at true x y f g rest = refl
    at false x y f g rest = rest

    by : (b : Bool) → is_some (find (is_entry_of key) (change p staled es)) ≡ is_some (find (is_entry_of key) es)
        → is_some (find (is_entry_of key) (elim b as (λ c. Entry) [ true ↦ staled e | false ↦ e ] ∷ change p staled es)) ≡ is_some (find (is_entry_of key) (e ∷ es))
    by true rest = at (is_entry_of key e) (staled e) e _ _ rest
    by false rest = at (is_entry_of key e) e e _ _ rest

any_of_two : (key : Bytes) (xs ys : List Bytes) → has_text key (xs ++ ys) ≡ true → (has_text key xs ≡ true) ⊎ (has_text key ys ≡ true)
any_of_two key [] ys is = inr is
any_of_two key (x ∷ xs) ys is = by (bytes_eq x key) is (any_of_two key xs ys)
  where
    by : (b : Bool) → (b || has_text key (xs ++ ys)) ≡ true → (has_text key (xs ++ ys) ≡ true → (has_text key xs ≡ true) ⊎ (has_text key ys ≡ true)) → ((b || has_text key xs) ≡ true) ⊎ (has_text key ys ≡ true)
    by true some rest = inl refl
    by false some rest = rest some

any_behind : (key : Bytes) (xs ys : List Bytes) → has_text key ys ≡ true → has_text key (xs ++ ys) ≡ true
any_behind key [] ys is = is
any_behind key (x ∷ xs) ys is = by (bytes_eq x key) (any_behind key xs ys is)
  where
    by : (b : Bool) → has_text key (xs ++ ys) ≡ true → (b || has_text key (xs ++ ys)) ≡ true
    by true rest = refl
    by false rest = rest

namesake_there : (key : Bytes) (p : Entry → Bool) (es : List Entry) → has_text key (map (λ e. e.key) (filter p es)) ≡ true → is_some (find (is_entry_of key) es) ≡ true
namesake_there key p [] is = absurd (cc is)
namesake_there key p (e ∷ es) is = by (p e) (is_entry_of key e) refl is (namesake_there key p es)
  where
    by : (b c : Bool) → is_entry_of key e ≡ c → has_text key (map (λ x. x.key) (cond b (e ∷ filter p es) (filter p es))) ≡ true
        → (has_text key (map (λ x. x.key) (filter p es)) ≡ true → is_some (find (is_entry_of key) es) ≡ true) → is_some (cond c (Some e) (find (is_entry_of key) es)) ≡ true
    by b true at some rest = refl
    by true false at some rest = rest (sym (ap (λ (t : Bool). t || has_text key (map (λ x. x.key) (filter p es))) at) ∙ some)
    by false false at some rest = rest some

displaced_there : (key : Bytes) (s : State) → AreThere s.displaced s.entries → AreThere (displaced_by key s) (change (is_entry_of key) staled s.entries)
displaced_there key s are other has =
    found_still other (is_entry_of key) s.entries ∙ by (any_of_two other (map (λ e. e.key) (filter (is_namesake key) s.entries)) s.displaced has)
  where
    by : (has_text other (map (λ e. e.key) (filter (is_namesake key) s.entries)) ≡ true) ⊎ (has_text other s.displaced ≡ true) → is_some (find (is_entry_of other) s.entries) ≡ true
    by (inl named) = namesake_there other (is_namesake key) s.entries named
    by (inr was) = are other was

staled_parts : (o s : State) (key : Bytes) → PartsOf o s → PartsOf o (record s { entries = change (is_entry_of key) (λ e. record e { is_stale = true }) s.entries; displaced = displaced_by key s })
staled_parts o s key p = record {
  disk_is = p.disk_is;
  agenda_is = p.agenda_is;
  under_way_is = p.under_way_is;
  closed_is = p.closed_is;
  acknowledged_is = p.acknowledged_is;
  settings_is = p.settings_is;
  recovers_is = p.recovers_is;
  moved = p.moved;
  owed_in = p.owed_in;
  were = λ e i. were e (in_map (now_at (is_entry_of key) staled) e s.entries i);
  stay = λ e i. stay e (p.stay e i);
  same = unstaled_same (is_entry_of key) s.entries ∙ p.same;
  there = λ are. displaced_there key s (p.there are);
  more = λ other has. any_behind other _ s.displaced (p.more other has);
  grew = p.grew;
}
  where
    were : (e : Entry) → From (now_at (is_entry_of key) staled) s.entries e → WasEntry o.entries e
    were e f = stale_by o.entries e f.was (is_entry_of key f.was) f.is (p.were f.was f.there)

    stay : (e : Entry) → StaysEntry s.entries e → StaysEntry (change (is_entry_of key) staled s.entries) e
    stay e t = let same = same_as t.now (now_at (is_entry_of key) staled t.now) (is_entry_of key t.now) refl in record {
      now = now_at (is_entry_of key) staled t.now;
      there = in_changed (is_entry_of key) staled s.entries t.now t.there;
      name = same.0 ∙ t.name;
      key = same.1 ∙ t.key;
      version = same.2 ∙ t.version;
      extent = same.3 ∙ t.extent;
    }

pub clear-kept : {o : State} (key : Bytes) (s : State) → Kept o s → Kept o (clear key s)
unfolding clear
clear-kept {o} key s h = swept-kept _ (kept (staled_parts o s key (parts_of h)))

pub mark_row-kept : {o : State} (id : ℕ) (s : State) → Kept o s → Kept o (mark_row id s)
unfolding mark_row
mark_row-kept id s h = kept (parts_of h)

forget_row-kept : {o : State} (x : Instance) (s : State) → Kept o s → Kept o (forget_row x s)
unfolding forget_row
forget_row-kept x s h = kept (parts_of (forget-kept x.id s h))

with_room-kept : {o : State} (s : State) → Kept o s → Kept o (with_room s)
unfolding with_room
with_room-kept s h = when (nat_lt (rows s) 1024) h (each_of (idle_row s) h (λ x. forget_row-kept x s h))

add_row-kept : {o : State} (key : Bytes) (version : Version) (fields : List Field) (times : Times) (is_new : Bool) (s : State) → Kept o s → Kept o (add_row key version fields times is_new s)
unfolding add_row
add_row-kept key version fields times is_new s h = kept (parts_of h)

pub make_row-kept : {o : State} (key : Bytes) (version : Version) (fields : List Field) (times : Times) (s : State) → Kept o s → Kept o (make_row key version fields times s)
unfolding make_row
make_row-kept key version fields times s h = add_row-kept key version fields times true _ (with_room-kept _ (clear-kept key s h))

pub enter-kept : {o : State} (key : Bytes) (is_new : Bool) (s : State) → Kept o s → Kept o (enter key is_new s)
unfolding enter
enter-kept key is_new s h = each_of (row s key) (each_of (row_on_disk s key) h (λ e. add_row-kept key e.version e.fields e.times is_new _ (with_room-kept s h))) (λ x. h)

-- ---- chunks

pub use_chunk-kept : {o : State} (id i : ℕ) (s : State) → Kept o s → Kept o (use_chunk id i s)
unfolding use_chunk
use_chunk-kept id i s h = each_of (find (is_chunk id i) s.chunks) h (λ c. kept (parts_of h))

pub drop_chunk-kept : {o : State} (id i : ℕ) (s : State) → Kept o s → Kept o (drop_chunk id i s)
unfolding drop_chunk
drop_chunk-kept id i s h = kept (parts_of h)

pub note_use-kept : {o : State} (s : State) → Kept o s → Kept o (note_use s)
unfolding note_use
note_use-kept s h = kept (parts_of h)

-- ---- by number

pub on_conn-kept : {o : State} (n : ℕ) (f : Conn → Conn) (s : State) → Kept o s → Kept o (on_conn n f s)
unfolding on_conn
on_conn-kept n f s h = kept (parts_of h)

pub on_exchange-kept : {o : State} (n : ℕ) (f : Exchange → Exchange) (s : State) → Kept o s → Kept o (on_exchange n f s)
unfolding on_exchange
on_exchange-kept n f s h = kept (parts_of h)

pub on_client-kept : {o : State} (n : ℕ) (f : Client → Client) (s : State) → Kept o s → Kept o (on_client n f s)
unfolding on_client
on_client-kept n f s h = kept (parts_of h)

pub on_client_of-kept : {o : State} (e : Exchange) (f : Client → Client) (s : State) → Kept o s → Kept o (on_client_of e f s)
unfolding on_client_of
on_client_of-kept e f s h = kept (parts_of h)

pub each_client-kept : {o : State} (f : Client → State → State) → ((c : Client) (s : State) → Kept o s → Kept o (f c s)) → (ns : List ℕ) (s : State) → Kept o s → Kept o (each_client f ns s)
unfolding each_client
each_client-kept f each [] s h = h
each_client-kept f each (n ∷ ns) s h = each_client-kept f each ns _ (each_of (client s n) h (λ c. each c s h))

pub each_conn-kept : {o : State} (f : Conn → State → State) → ((k : Conn) (s : State) → Kept o s → Kept o (f k s)) → (ns : List ℕ) (s : State) → Kept o s → Kept o (each_conn f ns s)
unfolding each_conn
each_conn-kept f each [] s h = h
each_conn-kept f each (n ∷ ns) s h = each_conn-kept f each ns _ (each_of (conn s n) h (λ k. each k s h))

pub each_exchange-kept : {o : State} (f : Exchange → State → State) → ((e : Exchange) (s : State) → Kept o s → Kept o (f e s)) → (ns : List ℕ) (s : State) → Kept o s → Kept o (each_exchange f ns s)
unfolding each_exchange
each_exchange-kept f each [] s h = h
each_exchange-kept f each (n ∷ ns) s h = each_exchange-kept f each ns _ (each_of (exchange s n) h (λ e. each e s h))

-- ---- attempts, and exchanges that are over

give_up_row-kept : {o : State} (e : Exchange) (s : State) → Kept o s → Kept o (give_up_row e s)
unfolding give_up_row
give_up_row-kept e s h = when (is_unfilled s e) (on_exchange-kept e.number _ _ (on_client_of-kept e _ _ (clear-kept (text_of e.key) s h))) h

charge-kept : {o : State} (cost : Course → Course) (e : Exchange) (s : State) → Kept o s → Kept o (charge cost e s)
unfolding charge
charge-kept cost e s h = give_up_row-kept e _ (on_client_of-kept e _ s h)

pub lose_attempt-kept : {o : State} (e : Exchange) (s : State) → Kept o s → Kept o (lose_attempt e s)
unfolding lose_attempt
lose_attempt-kept e s h = charge-kept (lost_one (attempts_of e)) e s h

pub fail-kept : {o : State} (e : Exchange) (s : State) → Kept o s → Kept o (fail e s)
unfolding fail
fail-kept e s h = charge-kept _ e s h

pub end_exchange-kept : {o : State} (n : ℕ) (s : State) → Kept o s → Kept o (end_exchange n s)
unfolding end_exchange
end_exchange-kept n s h = kept (parts_of h)

leave_place-kept : {o : State} (e : Exchange) (s : State) → Kept o s → Kept o (leave_place e s)
unfolding leave_place
leave_place-kept e s h = when (is_headed e) (end_exchange-kept e.number _ (on_client_of-kept e _ s h)) (when (may_ask_again s e.number) (on_exchange-kept e.number _ s h) (end_exchange-kept e.number s h))

lose_place-kept : {o : State} (counts : Bool) (e : Exchange) (s : State) → Kept o s → Kept o (lose_place counts e s)
unfolding lose_place
lose_place-kept counts e s h = when counts (leave_place-kept e _ (lose_attempt-kept e s h)) (leave_place-kept e s h)

pub close_conn-kept : {o : State} (counts : Bool) (k : Conn) (s : State) → Kept o s → Kept o (close_conn counts k s)
unfolding close_conn
close_conn-kept counts k s h = each_exchange-kept (lose_place (counts && not k.has_brought)) (λ e t ht. lose_place-kept (counts && not k.has_brought) e t ht) k.line _ (on_conn-kept k.number _ s h)

-- ---- exchanges that their request leaves

pub forsake-kept : {o : State} (test : Exchange → Bool) (s : State) → Kept o s → Kept o (forsake test s)
unfolding forsake
forsake-kept test s h = kept (parts_of h)

pub leave-kept : {o : State} (test : Exchange → Bool) (s : State) → Kept o s → Kept o (leave test s)
unfolding leave
leave-kept test s h = kept (parts_of (forsake-kept test s h))

leave_one-kept : {o : State} (e : Exchange) (s : State) → Kept o s → Kept o (leave_one e s)
unfolding leave_one
leave_one-kept e s h = when (e.asked == 0) (end_exchange-kept e.number s h) (on_exchange-kept e.number _ s h)

pub close_client-kept : {o : State} (n : ℕ) (is_cut : Bool) (s : State) → Kept o s → Kept o (close_client n is_cut s)
unfolding close_client
close_client-kept n is_cut s h = swept-kept _ (each_exchange-kept leave_one (λ e t ht. leave_one-kept e t ht) (exchanges_of n s) _ (on_client-kept n _ s h))

-- ---- places

pub put_on-kept : {o : State} (n k : ℕ) (s : State) → Kept o s → Kept o (put_on n k s)
unfolding put_on
put_on-kept n k s h = on_conn-kept k _ _ (on_exchange-kept n _ s h)

place_by : {o : State} (n : ℕ) (e : Exchange) (ns : List ℕ) (s : State) (wanted : Placed) → ((t : State) → Kept o t → Kept o (place_each ns t).state) → Kept o s
    → Kept o (elim wanted as (λ c. Placement) [
      | On k ↦ place_each ns (put_on n k s)
      | Wait ↦ place_each ns s
      | Dial ↦ record { state = s; pause = WaitsDial e }
      | CloseThenDial k ↦ record { state = s; pause = WaitsDrop k e }
    ]).state
place_by n e ns s (On k) rest h = rest (put_on n k s) (put_on-kept n k s h)
place_by n e ns s Wait rest h = rest s h
place_by n e ns s Dial rest h = h
place_by n e ns s (CloseThenDial k) rest h = h

place_at : {o : State} (unplaced : Option Exchange) (p : Placement) (q : Exchange → Placement) → Kept o p.state → ((e : Exchange) → Kept o (q e).state) → Kept o (elim unplaced as (λ c. Placement) [ None ↦ p | Some e ↦ q e ]).state
place_at None p q hp hq = hp
place_at (Some e) p q hp hq = hq e

place_each-kept : {o : State} (ns : List ℕ) (s : State) → Kept o s → Kept o (place_each ns s).state
place_each-kept [] s h = h
place_each-kept (n ∷ ns) s h = place_at (option_and_then if_unplaced (exchange s n)) _ _ (place_each-kept ns s h) (λ e. place_by n e ns s (place_for s e) (λ t ht. place_each-kept ns t ht) h)

pub placing-kept : {o : State} (s : State) → Kept o s → Kept o (placing s).state
placing-kept s h = place_each-kept _ s h
