-- As data come, so many bytes more are counted of what is dropped of the first exchange of the line, and of no other.
use Rattle.std.proofs.Common.{◌≡◌, ◌⊎◌, ◌≤◌, inl, inr, refl, sym, subst, ap, ◌∙◌, ℕ, ◌+◌, ◌-◌, ◌^◌, ◌==◌, Bool, true, false, cond, find, length, min, take, List, [], ◌∷◌, Option, Some, None, arith}
use Rattle.std.specs.List.{list_any}
use Rattle.std.specs.Prelude.{option_map}
use Rattle.pp_cache_law.proofs.Numbers.{is_same, some_is}
use Rattle.pp_flow.specs.Changes.{Exchanges, changed, entry_of, first_of, with_errand}
use Rattle.pp_flow.specs.Entries.{Span, asking, is_number, moved_by}
use Rattle.pp_flow.specs.declared.entry.Entry.{Entry}
use Rattle.pp_flow.specs.declared.entry.Exchange.{Exchange as OfEntry}
use Rattle.pp_flow.specs.declared.errand.Body.{Body}
use Rattle.pp_flow.specs.declared.errand.Body.TheVariants.{Pending, Joining, Relaying, Dropping}
use Rattle.pp_flow.specs.declared.errand.Errand.{Errand}
use Rattle.pp_flow_law.proofs.Entries.{find_changed, find_changed_else}
use Rattle.pp_law.specs.Lists.{Bytes}
use Rattle.pp_law.specs.State.{Conn}
use Rattle.pp_law.specs.Unseen.{came_of}
use Rattle.pp_origins.specs.Gots.{DataCame, Delivers, DeliversTo}
use Rattle.pp_state.specs.Bodies.{delivered_for, joined, joined_by, joined_within, left_for, with_came}
use Rattle.pp_state.specs.Ends.{exchange_at, parts}
use Rattle.pp_state.specs.Lines.{first_on}
use Rattle.pp_state.specs.Unseen.{drops_in, dropped_more, with_dropped}
use Rattle.pp_state.specs.declared.state.State.{State as Turn}
use Rattle.pp_stays_law.proofs.Counted.{SameBody, Stood}
use Rattle.pp_stays_law.proofs.Walk.{AllOf, found_any, none_any}
use Rattle.pp_turns_law.specs.Unseen.{IsCounted}

-- ---- all others are as they were

-- it is as it was, or has this number
abbrev pub IsButOf : ℕ → Entry → Entry → Type 0
IsButOf n b x = SameBody b x ⊎ (x.exchange.number ≡ n)

module _ (f : Exchanges) (n : ℕ) where
  abbrev pub W : Entry → Type 0
  W x = Stood (IsButOf n) f x

  moved : (m : ℕ) (x : Entry) → W x → W (moved_by m x)
  moved m x was = record { before = was.before; there = was.there; place = was.place; related = was.related }

  moves : (i m : ℕ) (xs : List Entry) → AllOf W xs → AllOf W (changed i (moved_by m) xs)
  moves i m [] all = tt
  moves i m (x ∷ xs) all = by (is_number i x) (moves i m xs all.1)
    where
      by : (b : Bool) → AllOf W (changed i (moved_by m) xs) → AllOf W (cond b (moved_by m x ∷ xs) (x ∷ changed i (moved_by m) xs))
      by true rest = (moved m x all.0, all.1)
      by false rest = (all.0, rest)

  pub asks : (errand : Errand) (xs : List Entry) → AllOf W xs → AllOf W (changed n (asking errand) xs)
  asks errand [] all = tt
  asks errand (x ∷ xs) all = by (is_number n x) refl (asks errand xs all.1)
    where
      by : (b : Bool) → is_number n x ≡ b → AllOf W (changed n (asking errand) xs) → AllOf W (cond b (asking errand x ∷ xs) (x ∷ changed n (asking errand) xs))
      by true is rest = (record { before = all.0.before; there = all.0.there; place = all.0.place; related = inr (is_same x.exchange.number n is) }, all.1)
      by false is rest = (all.0, rest)

  pub noted : (errand : Errand) (g : Exchanges) → AllOf W g.placed → AllOf W (with_errand n errand g).placed
  noted errand g all = by (list_any (is_number n) g.waiting)
    where
      by : (b : Bool) → AllOf W (cond b (record g { waiting = changed n (asking errand) g.waiting }) (record g { placed = changed n (asking errand) g.placed })).placed
      by true = all
      by false = asks errand g.placed all

  drops : (count : ℕ) (g : Exchanges) → AllOf W g.placed → AllOf W (with_dropped n count g).placed
  drops count g all = by (entry_of n g)
    where
      by : (o : Option Entry) → AllOf W (drops_in o n count g).placed
      by None = all
      by (Some e) = noted (record e.errand { body = dropped_more count e.errand.body }) g all

  joins : (i : ℕ) (o : Option Span) (bytes : List ℕ) (s : Turn) → AllOf W s.flow.placed → AllOf W (joined_by i o bytes s).flow.placed
  joins i None bytes s all = all
  joins i (Some span) bytes s all = by (left_for i s.flow)
    where
      by : (o : Option ℕ) → AllOf W (joined_within i o span bytes s).flow.placed
      by None = all
      by (Some left) = moves i (length (take left bytes)) s.flow.placed all

  delivers : (o : Option OfEntry) (bytes : List ℕ) (s : Turn) → AllOf W s.flow.placed → AllOf W (delivered_for o n bytes s).flow.placed
  delivers None bytes s all = all
  delivers (Some e) bytes s all = drops (length bytes) (joined e bytes s).flow (joins e.number e.bound bytes s all)

delivered_flow : (n : ℕ) (bytes : List ℕ) (p q : Turn) → Delivers n bytes p q → q.flow ≡ (delivered_for (exchange_at n p.flow) n bytes p).flow
delivered_flow n bytes p q its = ap (λ (s : Turn). s.flow) its.rest.rest

pub data_leave : (f : Exchanges) (n k : ℕ) (bytes : Bytes) (p q : Turn) → first_on k (parts p) ≡ Some n → DataCame k bytes p q → AllOf (W f n) p.flow.placed → AllOf (W f n) q.flow.placed
data_leave f n k [] p q first it all = subst (λ (s : Turn). AllOf (W f n) s.flow.placed) (sym it) all
data_leave f n k (b ∷ bytes) p q first it all =
    let its : Delivers n (b ∷ bytes) p q = subst (λ (o : Option ℕ). DeliversTo o (b ∷ bytes) p q) first it in
    subst (λ (g : Exchanges). AllOf (W f n) g.placed) (sym (delivered_flow n (b ∷ bytes) p q its)) (delivers f n (exchange_at n p.flow) (b ∷ bytes) p all)

-- ---- of that one so many more

first_errand : (errand : Errand) (o : Option Entry) (y : Entry) → option_map (asking errand) o ≡ Some y → y.errand ≡ errand
first_errand errand None y is = absurd (cc is)
first_errand errand (Some x) y is = ap (λ (z : Entry). z.errand) (sym (some_is (asking errand x) y is))

noted_first : (g : Exchanges) (n : ℕ) (errand : Errand) (y : Entry) → entry_of n (with_errand n errand g) ≡ Some y → y.errand ≡ errand
noted_first g n errand y at = by (find (is_number n) g.waiting) refl
  where
    if_waits : Bool → Exchanges
    if_waits b = cond b (record g { waiting = changed n (asking errand) g.waiting }) (record g { placed = changed n (asking errand) g.placed })

    waits : (x : Entry) → find (is_number n) g.waiting ≡ Some x → entry_of n (record g { waiting = changed n (asking errand) g.waiting }) ≡ Some y → y.errand ≡ errand
    waits x here is =
        first_errand errand (Some x) y
        (ap (λ (o : Option Entry). first_of o (find (is_number n) g.placed)) (sym (find_changed n (asking errand) (λ z. (refl, refl)) g.waiting ∙ ap (λ (o : Option Entry). option_map (asking errand) o) here)) ∙ is)

    stands : find (is_number n) g.waiting ≡ None → entry_of n (record g { placed = changed n (asking errand) g.placed }) ≡ Some y → y.errand ≡ errand
    stands none is =
        first_errand errand (find (is_number n) g.placed) y
        (sym (ap (λ (o : Option Entry). first_of o (find (is_number n) (changed n (asking errand) g.placed))) none ∙ find_changed n (asking errand) (λ z. (refl, refl)) g.placed) ∙ is)

    by : (o : Option Entry) → find (is_number n) g.waiting ≡ o → y.errand ≡ errand
    by (Some x) here = waits x here (subst (λ (b : Bool). entry_of n (if_waits b) ≡ Some y) (found_any n g.waiting x here) at)
    by None here = stands here (subst (λ (b : Bool). entry_of n (if_waits b) ≡ Some y) (none_any n g.waiting here) at)

drops_first : (n count : ℕ) (g : Exchanges) (b x : Entry) → entry_of n g ≡ Some b → entry_of n (with_dropped n count g) ≡ Some x → x.errand.body ≡ dropped_more count b.errand.body
drops_first n count g b x here at =
    ap (λ (e : Errand). e.body) (noted_first g n (record b.errand { body = dropped_more count b.errand.body }) x (sym (ap (λ (o : Option Entry). entry_of n (drops_in o n count g)) here) ∙ at))

-- it is moved on, and what becomes of its body is as it was
record IsThere (n : ℕ) (g : Exchanges) (body : Body) : Type 0 where
  entry : Entry
  there : entry_of n g ≡ Some entry
  same : entry.errand.body ≡ body

moves_on : (n i m : ℕ) (g : Exchanges) (b : Entry) → entry_of n g ≡ Some b → IsThere n (with_came m i g) b.errand.body
moves_on n i m g b here = by (find (is_number n) g.waiting) refl here
  where
    placed : (o : Option Entry) → find (is_number n) g.placed ≡ o → find (is_number n) g.waiting ≡ None → o ≡ Some b → IsThere n (with_came m i g) b.errand.body
    placed None is none same = absurd (cc same)
    placed (Some x) is none same = either (n == i) refl
      where
        either : (t : Bool) → (n == i) ≡ t → IsThere n (with_came m i g) b.errand.body
        either true eq = record {
          entry = moved_by m x;
          there =
              ap (λ (o : Option Entry). first_of o (find (is_number n) (changed i (moved_by m) g.placed))) none
              ∙ subst (λ (j : ℕ). find (is_number n) (changed j (moved_by m) g.placed) ≡ Some (moved_by m x)) (is_same n i eq) (find_changed n (moved_by m) (λ z. (refl, refl)) g.placed ∙ ap (λ (o : Option Entry). option_map (moved_by m) o) is);
          same = ap (λ (z : Entry). z.errand.body) (some_is x b same);
        }
        either false apart = record {
          entry = x;
          there = ap (λ (o : Option Entry). first_of o (find (is_number n) (changed i (moved_by m) g.placed))) none ∙ find_changed_else i n (moved_by m) (λ z. (refl, refl)) apart g.placed ∙ is;
          same = ap (λ (z : Entry). z.errand.body) (some_is x b same);
        }

    by : (o : Option Entry) → find (is_number n) g.waiting ≡ o → first_of o (find (is_number n) g.placed) ≡ Some b → IsThere n (with_came m i g) b.errand.body
    by (Some x) is same = record { entry = b; there = ap (λ (o : Option Entry). first_of o (find (is_number n) (changed i (moved_by m) g.placed))) is ∙ same; same = refl }
    by None is same = placed (find (is_number n) g.placed) refl is same

joins_first : (n i : ℕ) (o : Option Span) (bytes : List ℕ) (s : Turn) (b : Entry) → entry_of n s.flow ≡ Some b → IsThere n (joined_by i o bytes s).flow b.errand.body
joins_first n i None bytes s b here = record { entry = b; there = here; same = refl }
joins_first n i (Some span) bytes s b here = by (left_for i s.flow)
  where
    by : (o : Option ℕ) → IsThere n (joined_within i o span bytes s).flow b.errand.body
    by None = record { entry = b; there = here; same = refl }
    by (Some left) = moves_on n i (length (take left bytes)) s.flow b here

-- nothing came, or so many more are dropped
abbrev pub HasDropped : ℕ → Body → Body → Type 0
HasDropped count body new = ((count ≡ 0) × (new ≡ body)) ⊎ (new ≡ dropped_more count body)

pub data_first : (n k : ℕ) (bytes : Bytes) (p q : Turn) (b x : Entry) → first_on k (parts p) ≡ Some n → DataCame k bytes p q → entry_of n p.flow ≡ Some b → entry_of n q.flow ≡ Some x → HasDropped (length bytes) b.errand.body x.errand.body
data_first n k [] p q b x first it here at = inl (refl, ap (λ (z : Entry). z.errand.body) (some_is x b (sym at ∙ ap (λ (s : Turn). entry_of n s.flow) it ∙ here)))
data_first n k (c ∷ bytes) p q b x first it here at = inr (drops_first n (length (c ∷ bytes)) g joined_one.entry x joined_one.there at_it ∙ ap (λ (body : Body). dropped_more (length (c ∷ bytes)) body) joined_one.same)
  where
    its : Delivers n (c ∷ bytes) p q
    its = subst (λ (o : Option ℕ). DeliversTo o (c ∷ bytes) p q) first it

    g : Exchanges
    g = (joined b.exchange (c ∷ bytes) p).flow

    joined_one : IsThere n g b.errand.body
    joined_one = joins_first n b.exchange.number b.exchange.bound (c ∷ bytes) p b here

    at_it : entry_of n (with_dropped n (length (c ∷ bytes)) g) ≡ Some x
    at_it =
        sym
        (ap (λ (h : Exchanges). entry_of n h) (delivered_flow n (c ∷ bytes) p q its)
        ∙ ap (λ (o : Option Entry). entry_of n (delivered_for (option_map (λ (z : Entry). z.exchange) o) n (c ∷ bytes) p).flow) here)
        ∙ at

-- ---- so as much is counted

more_is : (c count came most : ℕ) → c + count ≡ came → came ≤ most → min (c + count) most ≡ came
more_is c count came most is within = omega (arith, is, within)

pub more_counted : (body new : Body) (k j : Conn) (count : ℕ) → HasDropped count body new → came_of k + count ≡ came_of j → ((c : ℕ) → body ≡ Dropping c → came_of j ≤ 2 ^ 64 - 1) → IsCounted body k → IsCounted new j
more_counted body new k j count (inl none) is within its = subst (λ (b : Body). IsCounted b j) (sym none.1) (by body its)
  where
    zero_more : (m l : ℕ) → count ≡ 0 → m + count ≡ l → m ≡ l
    zero_more m l zero same = omega (arith, zero, same)

    by : (b : Body) → IsCounted b k → IsCounted b j
    by Pending c = tt
    by (Joining wanted) c = tt
    by Relaying c = tt
    by (Dropping n) c = c ∙ zero_more (came_of k) (came_of j) none.0 is
more_counted body new k j count (inr more) is within its = subst (λ (b : Body). IsCounted b j) (sym more) (by body refl its)
  where
    by : (b : Body) → body ≡ b → IsCounted b k → IsCounted (dropped_more count b) j
    by Pending same c = tt
    by (Joining wanted) same c = tt
    by Relaying same c = tt
    by (Dropping n) same c = more_is n count (came_of j) (2 ^ 64 - 1) (ap (λ (m : ℕ). m + count) c ∙ is) (within n same)
