-- The ring after each call, and what its links may be used for.
use Rattle.std.proofs.Common.{ℕ, ◌+◌, ◌≤◌, ◌<◌, ◌≡◌, true, false, List, [], ◌∷◌, ◌++◌, length, get_or, take, drop, set, arith, refl, sym, ◌∙◌, ap, subst, zero, suc, append_assoc, ◌⊎◌, inl, inr}
use Rattle.std.proofs.lemmas.Grind.{common_steps}
use Rattle.std.proofs.lemmas.Bool.{cases_Bool}
use Rattle.std.proofs.lemmas.List.{get_or_read, length-set, get_or-set_same, get_or-set_other, get_or-take, length-append, length-take-le, length_push, take-append-drop, take_at, drop_at, take_more, drop_more}
use Rattle.std.proofs.lemmas.List.Elements.{All-append, All-cons, All-drop, All-filter, All-push, All-take, All-weaker, All-head}
use Rattle.std.specs.List.{filter, All}
use Rattle.pp_pool.specs.declared.ring.Ring.TheInside.{Inside}
use Rattle.pp_pool.specs.Chunks.{is_in, is_not, AreDistinct}
use Rattle.pp_pool.specs.Rings.{Line, link, IsChain, walk, first_or}
use Rattle.pp_pool.specs.Links.{ring_of, line_of, IsRing}
use Rattle.pp_pool.proofs.Numbers.{present_below, length-filter_present, length-filter_distinct, is_in_filter_same, AreDistinct-filter}
use Rattle.pp_pool.proofs.Counts.{counted, length-counted, counted_distinct, counted_within, counted_chain}
use Rattle.pp_pool.proofs.Chains.{Joins, walk_is, left, last_in, previous_in, next_in, in_front, out_front, out_back, not_first, not_rest, back_apart, filter_front, moved, next_at, next_get, first_get}

length-walk : (f : ℕ → ℕ) (at n : ℕ) → length (walk f at n) ≡ n
length-walk f at zero = refl
length-walk f at (suc n) = ap suc (length-walk f (f at) n)

abbrev front : Inside → List ℕ
front o = take o.used (ring_of o)

abbrev back : Inside → List ℕ
back o = drop o.used (ring_of o)

-- all numbers, once `c` of the front is the last of the front
abbrev pub moved_ring : Inside → ℕ → List ℕ
moved_ring o c = filter (is_not c) (front o) ++ c ∷ back o

ring_long : (o : Inside) → length (ring_of o) ≡ o.end
ring_long o = length-walk (link o.next.items) (link o.next.items o.end) o.end

pub front_long : (o : Inside) → IsRing o → length (front o) ≡ o.used
front_long o i = length-take-le o.used (ring_of o) (omega (arith, i.count, ring_long o))

parts : (o : Inside) → front o ++ back o ≡ ring_of o
parts o = take-append-drop o.used (ring_of o)

chain_parts : (o : Inside) → IsRing o → IsChain (link o.next.items) (link o.previous.items) o.end (front o ++ back o) o.end
chain_parts o i = let P : List ℕ → Type 0 = λ ms. IsChain (link o.next.items) (link o.previous.items) o.end ms o.end in subst P (sym (parts o)) i.chain

distinct_parts : (o : Inside) → IsRing o → AreDistinct (front o ++ back o)
distinct_parts o i = let P : List ℕ → Type 0 = λ ms. AreDistinct ms in subst P (sym (parts o)) i.distinct

within_parts : (o : Inside) → IsRing o → All (λ n. n < o.end) (front o ++ back o)
within_parts o i = let P : List ℕ → Type 0 = λ ms. All (λ n. n < o.end) ms in subst P (sym (parts o)) i.within

out_by : (k : ℕ) (ns : List ℕ) → All (λ n. n < k) ns → (is_in k ns ≡ true) ⊎ (is_in k ns ≡ false) → is_in k ns ≡ false
out_by k ns a (inl t) = absurd (omega (arith, present_below k k ns a t))
out_by k ns a (inr f) = f

below_out : (k : ℕ) (ns : List ℕ) → All (λ n. n < k) ns → is_in k ns ≡ false
below_out k ns a = out_by k ns a (cases_Bool (is_in k ns))

up_one : (k : ℕ) (ns : List ℕ) → All (λ n. n < k) ns → All (λ n. n < k + 1) ns
up_one k ns a = All-weaker (λ n. n < k) (λ n. n < k + 1) (λ n lt. omega arith) ns a

distinct_front : (us fs : List ℕ) → AreDistinct (us ++ fs) → AreDistinct us
distinct_front [] fs d = tt
distinct_front (u ∷ us) fs d = (out_front u us fs d.0, distinct_front us fs d.1)

-- a number of the front, and its links
pub used_below : (o : Inside) (c : ℕ) → IsRing o → is_in c (front o) ≡ true → c < o.end
used_below o c i there = present_below c o.end (front o) (All-take (λ n. n < o.end) o.used (ring_of o) i.within) there

pub previous_below : (o : Inside) (c : ℕ) → IsRing o → is_in c (front o) ≡ true → link o.previous.items c < o.end + 1
previous_below o c i there =
    present_below (link o.previous.items c) (o.end + 1) (o.end ∷ front o ++ back o)
    (All-cons (λ n. n < o.end + 1) o.end (front o ++ back o) (omega arith) (up_one o.end (front o ++ back o) (within_parts o i)))
    (previous_in (link o.next.items) (link o.previous.items) o.end o.end c (front o ++ back o) (chain_parts o i) (in_front c (front o) (back o) there))

pub next_below : (o : Inside) (c : ℕ) → IsRing o → is_in c (front o) ≡ true → link o.next.items c < o.end + 1
next_below o c i there =
    present_below (link o.next.items c) (o.end + 1) (front o ++ back o ++ o.end ∷ [])
    (All-push (λ n. n < o.end + 1) (front o ++ back o) o.end (up_one o.end (front o ++ back o) (within_parts o i)) (omega arith))
    (next_in (link o.next.items) (link o.previous.items) o.end o.end c (front o ++ back o) (chain_parts o i) (in_front c (front o) (back o) there))

first_below : (k : ℕ) (ns : List ℕ) → All (λ n. n < k) ns → first_or k ns < k + 1
first_below k [] a = omega arith
first_below k (n ∷ ns) a = omega (arith, All-head (λ n. n < k) n ns a)

pub free_below : (o : Inside) → IsRing o → o.first_free < o.end + 1
free_below o i = rw i.free (first_below o.end (back o) (All-drop (λ n. n < o.end) o.used (ring_of o) i.within))

-- what the links of two neighbours are set to
pub joins : (next previous next' previous' : List ℕ) (a b : ℕ) → a < length next → b < length previous
    → next' ≡ set next a b → previous' ≡ set previous b a → Joins (link next) (link previous) (link next') (link previous') a b
joins next previous next' previous' a b la lb en ep = record {
  next_is = rw en (get_or-set_same next a b 0 la);
  previous_is = rw ep (get_or-set_same previous b a 0 lb);
  nexts = λ n h. rw en (get_or-set_other next a n b 0 h);
  previouses = λ n h. rw ep (get_or-set_other previous b n a 0 h);
}

-- the number that came last, once `c` has left
pub last_below : (o : Inside) (c : ℕ) (next previous : List ℕ) → IsRing o → is_in c (front o) ≡ true
    → Joins (link o.next.items) (link o.previous.items) (link next) (link previous) (link o.previous.items c) (link o.next.items c)
    → link previous o.first_free < o.end + 1
last_below o c next previous i there j =
    let P : List ℕ → Type 0 = λ ms. IsChain (link next) (link previous) o.end ms o.end in
    let out : is_in o.end (front o ++ back o) ≡ false = below_out o.end (front o ++ back o) (within_parts o i) in
    let e : filter (is_not c) (front o ++ back o) ≡ filter (is_not c) (front o) ++ back o = filter_front c (front o) (back o) (back_apart c (front o) (back o) there (distinct_parts o i)) in
    let ch = subst P e (left (link o.next.items) (link o.previous.items) (link next) (link previous) o.end o.end c (front o ++ back o) (chain_parts o i) (in_front c (front o) (back o) there) j (out, distinct_parts o i) out) in
    rw i.free (
    present_below (link previous (first_or o.end (back o))) (o.end + 1) (o.end ∷ filter (is_not c) (front o))
    (All-cons (λ n. n < o.end + 1) o.end (filter (is_not c) (front o)) (omega arith)
    (up_one o.end (filter (is_not c) (front o)) (All-filter (is_not c) (λ n. n < o.end) (front o) (All-take (λ n. n < o.end) o.used (ring_of o) i.within))))
    (last_in (link next) (link previous) o.end o.end (filter (is_not c) (front o)) (back o) ch)
    )

moved_long : (o : Inside) (c : ℕ) → IsRing o → is_in c (front o) ≡ true → length (filter (is_not c) (front o) ++ c ∷ []) ≡ o.used
moved_long o c i there =
    omega (
      arith,
      length_push (filter (is_not c) (front o)) c,
      length-filter_present c (front o) there,
      length-filter_distinct c (front o) (distinct_front (front o) (back o) (distinct_parts o i)),
      front_long o i,
    )

moved_parts : (o : Inside) (c : ℕ) → moved_ring o c ≡ (filter (is_not c) (front o) ++ c ∷ []) ++ back o
moved_parts o c = sym (append_assoc (filter (is_not c) (front o)) (c ∷ []) (back o))

moved_front : (o : Inside) (c : ℕ) → IsRing o → is_in c (front o) ≡ true → take o.used (moved_ring o c) ≡ filter (is_not c) (front o) ++ c ∷ []
moved_front o c i there =
    ap (take o.used) (moved_parts o c) ∙ take_at (filter (is_not c) (front o) ++ c ∷ []) (back o) o.used (moved_long o c i there)

moved_back : (o : Inside) (c : ℕ) → IsRing o → is_in c (front o) ≡ true → drop o.used (moved_ring o c) ≡ back o
moved_back o c i there =
    ap (drop o.used) (moved_parts o c) ∙ drop_at (filter (is_not c) (front o) ++ c ∷ []) (back o) o.used (moved_long o c i there)

moved_all_long : (o : Inside) (c : ℕ) → IsRing o → is_in c (front o) ≡ true → length (moved_ring o c) ≡ o.end
moved_all_long o c i there =
    ap length (moved_parts o c) ∙ length-append (filter (is_not c) (front o) ++ c ∷ []) (back o)
    ∙ ap (λ n. n + length (back o)) (moved_long o c i there ∙ sym (front_long o i))
    ∙ sym (length-append (front o) (back o)) ∙ ap length (parts o) ∙ ring_long o

pub moved_chain : (o : Inside) (c : ℕ) (n1 p1 n2 p2 n3 p3 : List ℕ) → IsRing o → is_in c (front o) ≡ true
    → Joins (link o.next.items) (link o.previous.items) (link n1) (link p1) (link o.previous.items c) (link o.next.items c)
    → Joins (link n1) (link p1) (link n2) (link p2) c o.first_free
    → Joins (link n2) (link p2) (link n3) (link p3) (link p1 o.first_free) c
    → IsChain (link n3) (link p3) o.end (moved_ring o c) o.end
moved_chain o c n1 p1 n2 p2 n3 p3 i there j1 j2 j3 =
    let P : ℕ → Type 0 = λ n. Joins (link n1) (link p1) (link n2) (link p2) c n in
    let Q : ℕ → Type 0 = λ n. Joins (link n2) (link p2) (link n3) (link p3) (link p1 n) c in
    moved (link o.next.items) (link o.previous.items) (link n1) (link p1) (link n2) (link p2) (link n3) (link p3) o.end c (front o) (back o)
    (chain_parts o i) (distinct_parts o i) (below_out o.end (front o ++ back o) (within_parts o i)) there
    j1 (subst P i.free j2) (subst Q i.free j3)

pub moved_walk : (o : Inside) (c : ℕ) (n3 p3 : List ℕ) → IsRing o → is_in c (front o) ≡ true
    → IsChain (link n3) (link p3) o.end (moved_ring o c) o.end → walk (link n3) (link n3 o.end) o.end ≡ moved_ring o c
moved_walk o c n3 p3 i there ch =
    ap (walk (link n3) (link n3 o.end)) (sym (moved_all_long o c i there)) ∙ walk_is (link n3) (link p3) o.end o.end (moved_ring o c) ch

out_between : (c n : ℕ) (us fs : List ℕ) → is_in n (us ++ fs) ≡ false → (n ≡ c → ⊥) → is_in n (us ++ c ∷ fs) ≡ false
out_between c n [] fs out apart = grind (arith, common_steps)
out_between c n (u ∷ us) fs out apart = grind (arith, common_steps, out_between c n us fs)

distinct_between : (c : ℕ) (us fs : List ℕ) → AreDistinct (us ++ fs) → is_in c (us ++ fs) ≡ false → AreDistinct (us ++ c ∷ fs)
distinct_between c [] fs d out = (out, d)
distinct_between c (u ∷ us) fs d out = (
  out_between c u us fs d.0 (not_first c u (us ++ fs) out),
  distinct_between c us fs d.1 (not_rest c u (us ++ fs) out),
)

moved_distinct : (o : Inside) (c : ℕ) → IsRing o → is_in c (front o) ≡ true → AreDistinct (moved_ring o c)
moved_distinct o c i there =
    let P : List ℕ → Type 0 = λ ms. AreDistinct ms in
    let e : filter (is_not c) (front o ++ back o) ≡ filter (is_not c) (front o) ++ back o = filter_front c (front o) (back o) (back_apart c (front o) (back o) there (distinct_parts o i)) in
    distinct_between c (filter (is_not c) (front o)) (back o)
    (subst P e (AreDistinct-filter c (front o ++ back o) (distinct_parts o i)))
    (ap (is_in c) (sym e) ∙ is_in_filter_same c (front o ++ back o))

moved_within : (o : Inside) (c : ℕ) → IsRing o → is_in c (front o) ≡ true → All (λ n. n < o.end) (moved_ring o c)
moved_within o c i there =
    All-append (λ n. n < o.end) (filter (is_not c) (front o)) (c ∷ back o)
    (All-filter (is_not c) (λ n. n < o.end) (front o) (All-take (λ n. n < o.end) o.used (ring_of o) i.within))
    (All-cons (λ n. n < o.end) c (back o) (used_below o c i there) (All-drop (λ n. n < o.end) o.used (ring_of o) i.within))

-- a number moved
pub ring-touched : (o q : Inside) (c : ℕ) → IsRing o → is_in c (front o) ≡ true
    → IsChain (link q.next.items) (link q.previous.items) o.end (moved_ring o c) o.end
    → q.end ≡ o.end → q.used ≡ o.used → q.first_free ≡ o.first_free
    → length q.next.items ≡ length o.next.items → length q.previous.items ≡ length o.previous.items → IsRing q
ring-touched o q c i there ch end used free nexts previouses =
    let walked : walk (link q.next.items) (link q.next.items o.end) o.end ≡ moved_ring o c = moved_walk o c q.next.items q.previous.items i there ch in
    let P : ℕ → Type 0 = λ e. walk (link q.next.items) (link q.next.items e) e ≡ moved_ring o c in
    let whole : ring_of q ≡ moved_ring o c = subst P (sym end) walked in
    record {
      chain = rw (whole, end) ch;
      distinct = rw whole (moved_distinct o c i there);
      within = rw (whole, end) (moved_within o c i there);
      free = free ∙ i.free ∙ sym (rw (whole, end, used, moved_back o c i there) refl);
      count = omega (arith, i.count);
      nexts = nexts ∙ i.nexts ∙ ap (λ e. e + 1) (sym end);
      previouses = previouses ∙ i.previouses ∙ ap (λ e. e + 1) (sym end);
      few = omega (arith, i.few);
    }

pub line-touched : (o : Inside) (v : Line) (c : ℕ) (n3 p3 : List ℕ) → IsRing o → is_in c v.used ≡ true → line_of o ≡ v
    → IsChain (link n3) (link p3) o.end (moved_ring o c) o.end
    → record { size = o.end; used = take o.used (walk (link n3) (link n3 o.end) o.end) } ≡ record v { used = filter (is_not c) v.used ++ c ∷ [] }
line-touched o v c n3 p3 i there e ch =
    let P : Line → Type 0 = λ l. is_in c l.used ≡ true in
    let inside : is_in c (front o) ≡ true = subst P (sym e) there in
    rw (← e) (rw (moved_walk o c n3 p3 i inside ch, moved_front o c i inside) refl)

-- the last of the front is free: the first of the back
given_long : (p : Inside) (xs : List ℕ) (c : ℕ) → IsRing p → front p ≡ xs ++ c ∷ [] → p.used ≡ length xs + 1
given_long p xs c i e = sym (front_long p i) ∙ ap length e ∙ length_push xs c

given_all : (p : Inside) (xs : List ℕ) (c : ℕ) → front p ≡ xs ++ c ∷ [] → ring_of p ≡ xs ++ c ∷ back p
given_all p xs c e = sym (parts p) ∙ ap (λ us. us ++ back p) e ∙ append_assoc xs (c ∷ []) (back p)

given_front : (p : Inside) (xs : List ℕ) (c n : ℕ) → IsRing p → front p ≡ xs ++ c ∷ [] → n + 1 ≡ p.used → take n (ring_of p) ≡ xs
given_front p xs c n i e less =
    ap (take n) (given_all p xs c e) ∙ take_at xs (c ∷ back p) n (omega (arith, given_long p xs c i e))

given_back : (p : Inside) (xs : List ℕ) (c n : ℕ) → IsRing p → front p ≡ xs ++ c ∷ [] → n + 1 ≡ p.used → drop n (ring_of p) ≡ c ∷ back p
given_back p xs c n i e less =
    ap (drop n) (given_all p xs c e) ∙ drop_at xs (c ∷ back p) n (omega (arith, given_long p xs c i e))

pub some_used : (p : Inside) (v : Line) (xs : List ℕ) (c : ℕ) → IsRing p → line_of p ≡ v → v.used ≡ xs ++ c ∷ [] → 1 ≤ p.used
some_used p v xs c i view e = omega (arith, given_long p xs c i (ap (λ l. l.used) view ∙ e))

pub ring-given : (p q : Inside) (v : Line) (xs : List ℕ) (c : ℕ) → IsRing p → line_of p ≡ v → v.used ≡ xs ++ c ∷ [] → q.next ≡ p.next → q.previous ≡ p.previous
    → q.end ≡ p.end → q.used + 1 ≡ p.used → q.first_free ≡ c → IsRing q
ring-given p q v xs c i view e next previous end less free =
    let P : ℕ → Type 0 = λ k. walk (link p.next.items) (link p.next.items k) k ≡ ring_of p in
    let front_is : front p ≡ xs ++ c ∷ [] = ap (λ l. l.used) view ∙ e in
    let whole : ring_of q ≡ ring_of p = rw next (subst P (sym end) refl) in
    record {
      chain = rw (whole, next, previous, end) i.chain;
      distinct = rw whole i.distinct;
      within = rw (whole, end) i.within;
      free = free ∙ sym (ap (λ ns. first_or q.end (drop q.used ns)) whole ∙ ap (first_or q.end) (given_back p xs c q.used i front_is less));
      count = omega (arith, i.count);
      nexts = rw (next, end) i.nexts;
      previouses = rw (previous, end) i.previouses;
      few = omega (arith, i.few);
    }

pub line-given : (p : Inside) (v w : Line) (xs : List ℕ) (c n : ℕ) → IsRing p → line_of p ≡ v → v.used ≡ xs ++ c ∷ [] → v.size ≡ w.size → n + 1 ≡ p.used
    → record { size = p.end; used = take n (ring_of p) } ≡ record w { used = xs }
line-given p v w xs c n i view e size less =
    let ends : p.end ≡ w.size = ap (λ l. l.size) view ∙ size in
    rw (given_front p xs c n i (ap (λ l. l.used) view ∙ e) less, ends) refl

-- the first of the back is used: the last of the front
taken_back : (o : Inside) → IsRing o → (o.used ≡ o.end → ⊥) → back o ≡ o.first_free ∷ drop (o.used + 1) (ring_of o)
taken_back o i apart =
    let more = drop_more (ring_of o) o.used 0 (omega (arith, i.count, ring_long o)) in
    more ∙ ap (λ n. n ∷ drop (o.used + 1) (ring_of o)) (sym (i.free ∙ ap (first_or o.end) more))

pub taken_below : (o : Inside) → IsRing o → (o.used ≡ o.end → ⊥) → o.first_free < o.end
taken_below o i apart =
    let P : List ℕ → Type 0 = λ ms. All (λ n. n < o.end) ms in
    All-head (λ n. n < o.end) o.first_free (drop (o.used + 1) (ring_of o))
    (subst P (taken_back o i apart) (All-drop (λ n. n < o.end) o.used (ring_of o) i.within))

taken_next : (o : Inside) → IsRing o → (o.used ≡ o.end → ⊥) → link o.next.items o.first_free ≡ first_or o.end (drop (o.used + 1) (ring_of o))
taken_next o i apart =
    let P : List ℕ → Type 0 = λ fs. IsChain (link o.next.items) (link o.previous.items) o.end (front o ++ fs) o.end in
    next_at (link o.next.items) (link o.previous.items) o.end o.end o.first_free (front o) (drop (o.used + 1) (ring_of o)) (subst P (taken_back o i apart) (chain_parts o i))

front_by : (c u : ℕ) (us fs : List ℕ) → is_in u (c ∷ fs) ≡ false → is_in c us ≡ false → is_in c (u ∷ us) ≡ false
front_by c u us fs out rest = grind (arith, common_steps)

front_apart : (c : ℕ) (us fs : List ℕ) → AreDistinct (us ++ c ∷ fs) → is_in c us ≡ false
front_apart c [] fs d = refl
front_apart c (u ∷ us) fs d = front_by c u us fs (out_back u us (c ∷ fs) d.0) (front_apart c us fs d.1)

pub taken_free : (o : Inside) → IsRing o → (o.used ≡ o.end → ⊥) → is_in o.first_free (front o) ≡ false
taken_free o i apart =
    let P : List ℕ → Type 0 = λ fs. AreDistinct (front o ++ fs) in
    front_apart o.first_free (front o) (drop (o.used + 1) (ring_of o)) (subst P (taken_back o i apart) (distinct_parts o i))

taken_front : (o : Inside) → IsRing o → (o.used ≡ o.end → ⊥) → take (o.used + 1) (ring_of o) ≡ front o ++ o.first_free ∷ []
taken_front o i apart =
    let lt : o.used < length (ring_of o) = omega (arith, i.count, ring_long o) in
    let here : get_or (ring_of o) o.used 0 ≡ o.first_free = sym (i.free ∙ ap (first_or o.end) (drop_more (ring_of o) o.used 0 lt)) in
    take_more (ring_of o) o.used 0 lt ∙ ap (λ n. front o ++ n ∷ []) here

pub ring-taken : (o q : Inside) → IsRing o → (o.used ≡ o.end → ⊥) → q.next ≡ o.next → q.previous ≡ o.previous → q.end ≡ o.end
    → q.used ≡ o.used + 1 → q.first_free ≡ link o.next.items o.first_free → IsRing q
ring-taken o q i apart next previous end more free =
    let P : ℕ → Type 0 = λ k. walk (link o.next.items) (link o.next.items k) k ≡ ring_of o in
    let whole : ring_of q ≡ ring_of o = rw next (subst P (sym end) refl) in
    record {
      chain = rw (whole, next, previous, end) i.chain;
      distinct = rw whole i.distinct;
      within = rw (whole, end) i.within;
      free = free ∙ taken_next o i apart ∙ sym (rw (whole, more, end) refl);
      count = omega (arith, i.count);
      nexts = rw (next, end) i.nexts;
      previouses = rw (previous, end) i.previouses;
      few = omega (arith, i.few);
    }

pub line-taken : (o : Inside) (v : Line) → IsRing o → (o.used ≡ o.end → ⊥) → line_of o ≡ v
    → record { size = o.end; used = take (o.used + 1) (ring_of o) } ≡ record v { used = v.used ++ o.first_free ∷ [] }
line-taken o v i apart e = rw (← e) (rw (taken_front o i apart) refl)

-- the links lead through the used numbers
pub oldest_first : (o : Inside) (v : Line) → IsRing o → line_of o ≡ v → 0 < length v.used → link o.next.items o.end ≡ get_or v.used 0 0
oldest_first o v i e lt =
    let P : Line → Type 0 = λ l. 0 < length l.used in
    let some : 0 < length (front o) = subst P (sym e) lt in
    first_get (link o.next.items) (link o.previous.items) o.end o.end (ring_of o) i.chain (omega (arith, front_long o i, i.count, ring_long o))
    ∙ sym (get_or-take o.used (ring_of o) 0 0 (omega (arith, front_long o i))) ∙ ap (λ l. get_or l.used 0 0) e

pub next_after : (o : Inside) (v : Line) (n k : ℕ) → IsRing o → line_of o ≡ v → k + 1 < length v.used → n ≡ get_or v.used k 0
    → link o.next.items n ≡ get_or v.used (k + 1) 0
next_after o v n k i e lt at =
    let P : Line → Type 0 = λ l. k + 1 < length l.used in
    let some : k + 1 < length (front o) = subst P (sym e) lt in
    let here : n ≡ get_or (ring_of o) k 0 = at ∙ sym (ap (λ l. get_or l.used k 0) e) ∙ get_or-take o.used (ring_of o) k 0 (omega (arith, front_long o i)) in
    ap (link o.next.items) here
    ∙ next_get (link o.next.items) (link o.previous.items) o.end o.end k (ring_of o) i.chain (omega (arith, front_long o i, i.count, ring_long o))
    ∙ ap (λ j. get_or (ring_of o) j 0) (omega arith)
    ∙ sym (get_or-take o.used (ring_of o) (k + 1) 0 (omega (arith, front_long o i))) ∙ ap (λ l. get_or l.used (k + 1) 0) e

-- what the links that a call reads are
read_before : (o : Inside) (c x : ℕ) → IsRing o → is_in c (front o) ≡ true → x ≡ get_or o.previous.items c x → x ≡ link o.previous.items c
read_before o c x i there e = get_or_read o.previous.items c x (omega (arith, used_below o c i there, i.previouses)) e 0

read_behind : (o : Inside) (c x : ℕ) → IsRing o → is_in c (front o) ≡ true → x ≡ get_or o.next.items c x → x ≡ link o.next.items c
read_behind o c x i there e = get_or_read o.next.items c x (omega (arith, used_below o c i there, i.nexts)) e 0

pub before_below : (o : Inside) (c x : ℕ) → IsRing o → is_in c (front o) ≡ true → x ≡ get_or o.previous.items c x → x < length o.next.items
before_below o c x i there e = omega (arith, read_before o c x i there e, previous_below o c i there, i.nexts)

pub behind_below : (o : Inside) (c x : ℕ) → IsRing o → is_in c (front o) ≡ true → x ≡ get_or o.next.items c x → x < length o.previous.items
behind_below o c x i there e = omega (arith, read_behind o c x i there e, next_below o c i there, i.previouses)

-- the neighbours of a number become neighbours
first_join : (o : Inside) (c b d : ℕ) (n1 p1 : List ℕ) → IsRing o → is_in c (front o) ≡ true → b ≡ get_or o.previous.items c b → d ≡ get_or o.next.items c d
    → n1 ≡ set o.next.items b d → p1 ≡ set o.previous.items d b
    → Joins (link o.next.items) (link o.previous.items) (link n1) (link p1) (link o.previous.items c) (link o.next.items c)
first_join o c b d n1 p1 i there eb ed en ep =
    let P : ℕ → Type 0 = λ x. Joins (link o.next.items) (link o.previous.items) (link n1) (link p1) x (link o.next.items c) in
    let Q : ℕ → Type 0 = λ x. Joins (link o.next.items) (link o.previous.items) (link n1) (link p1) b x in
    subst P (read_before o c b i there eb) (subst Q (read_behind o c d i there ed)
    (joins o.next.items o.previous.items n1 p1 b d (before_below o c b i there eb) (behind_below o c d i there ed) en ep))

pub last_in_range : (o : Inside) (c b d l : ℕ) (n1 p1 : List ℕ) → IsRing o → is_in c (front o) ≡ true → b ≡ get_or o.previous.items c b → d ≡ get_or o.next.items c d
    → n1 ≡ set o.next.items b d → p1 ≡ set o.previous.items d b → l ≡ get_or p1 o.first_free l → l ≡ link p1 o.first_free
last_in_range o c b d l n1 p1 i there eb ed en ep el =
    get_or_read p1 o.first_free l (omega (arith, ap length ep, length-set o.previous.items d b, i.previouses, free_below o i)) el 0

pub last_in_links : (o : Inside) (c b d l : ℕ) (n1 p1 : List ℕ) → IsRing o → is_in c (front o) ≡ true → b ≡ get_or o.previous.items c b → d ≡ get_or o.next.items c d
    → n1 ≡ set o.next.items b d → p1 ≡ set o.previous.items d b → l ≡ get_or p1 o.first_free l → l < o.end + 1
last_in_links o c b d l n1 p1 i there eb ed en ep el =
    omega (arith, last_in_range o c b d l n1 p1 i there eb ed en ep el, last_below o c n1 p1 i there (first_join o c b d n1 p1 i there eb ed en ep))

-- after its three joins a number stands behind the others of the front
pub touched_chain : (o : Inside) (c b d l : ℕ) (n1 p1 n2 p2 n3 p3 : List ℕ) → IsRing o → is_in c (front o) ≡ true
    → b ≡ get_or o.previous.items c b → d ≡ get_or o.next.items c d → n1 ≡ set o.next.items b d → p1 ≡ set o.previous.items d b
    → l ≡ get_or p1 o.first_free l → n2 ≡ set n1 c o.first_free → p2 ≡ set p1 o.first_free c → n3 ≡ set n2 l c → p3 ≡ set p2 c l
    → IsChain (link n3) (link p3) o.end (moved_ring o c) o.end
touched_chain o c b d l n1 p1 n2 p2 n3 p3 i there eb ed e1 f1 el e2 f2 e3 f3 =
    let P : ℕ → Type 0 = λ x. Joins (link n2) (link p2) (link n3) (link p3) x c in
    let long1 : length n1 ≡ o.end + 1 = ap length e1 ∙ length-set o.next.items b d ∙ i.nexts in
    let wide1 : length p1 ≡ o.end + 1 = ap length f1 ∙ length-set o.previous.items d b ∙ i.previouses in
    let long2 : length n2 ≡ o.end + 1 = ap length e2 ∙ length-set n1 c o.first_free ∙ long1 in
    let wide2 : length p2 ≡ o.end + 1 = ap length f2 ∙ length-set p1 o.first_free c ∙ wide1 in
    let at : c < o.end = used_below o c i there in
    let last : l < o.end + 1 = last_in_links o c b d l n1 p1 i there eb ed e1 f1 el in
    moved_chain o c n1 p1 n2 p2 n3 p3 i there (first_join o c b d n1 p1 i there eb ed e1 f1)
    (joins n1 p1 n2 p2 c o.first_free (omega (arith, at, long1)) (omega (arith, free_below o i, wide1)) e2 f2)
    (subst P (last_in_range o c b d l n1 p1 i there eb ed e1 f1 el)
    (joins n2 p2 n3 p3 l c (omega (arith, last, long2)) (omega (arith, at, wide2)) e3 f3))

first_counted : (end at n : ℕ) → 0 < n → first_or end (counted at n) ≡ at
first_counted end at zero lt = absurd (omega arith)
first_counted end at (suc n) lt = refl

-- the ring at first
pub ring-new : (q : Inside) → 0 < q.end → q.end ≤ 65536 → q.first_free ≡ 0 → q.used ≡ 0 → length q.next.items ≡ q.end + 1 → length q.previous.items ≡ q.end + 1
    → link q.next.items q.end ≡ 0 → link q.previous.items 0 ≡ q.end
    → ((i : ℕ) → i < q.end → link q.next.items i ≡ i + 1) → ((i : ℕ) → i < q.end → link q.previous.items (i + 1) ≡ i) → IsRing q
ring-new q some few free none nexts previouses begin end behind before =
    let ch : IsChain (link q.next.items) (link q.previous.items) q.end (counted 0 q.end) q.end
    = counted_chain (link q.next.items) (link q.previous.items) q.end 0 q.end q.end (omega arith) begin end (λ i le lt. behind i lt) (λ i le lt. before i lt) in
    let whole : ring_of q ≡ counted 0 q.end
    = ap (walk (link q.next.items) (link q.next.items q.end)) (sym (length-counted 0 q.end)) ∙ walk_is (link q.next.items) (link q.previous.items) q.end q.end (counted 0 q.end) ch in
    record {
      chain = rw whole ch;
      distinct = rw whole (counted_distinct 0 q.end);
      within = rw whole (counted_within 0 q.end q.end (omega arith));
      free = free ∙ sym (first_counted q.end 0 q.end some) ∙ sym (ap (λ ns. first_or q.end (drop q.used ns)) whole ∙ ap (λ k. first_or q.end (drop k (counted 0 q.end))) none);
      count = omega (arith, none);
      nexts = nexts;
      previouses = previouses;
      few = few;
    }
