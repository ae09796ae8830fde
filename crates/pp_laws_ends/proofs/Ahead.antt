-- Whose next byte is held has something to say where a turn has ended; so what is far ahead stops for one who is written to.
use Rattle.std.proofs.Common.{◌≡◌, ◌⊎◌, refl, ℕ, ◌/◌, ◌%◌, ◌<◌, ◌≤◌, max, nat_lt, nat_le, Bool, true, false, not, ◌==◌, ◌&&◌, ◌||◌, List, [], ◌∷◌, ◌++◌, map, filter, filter_map, fold, cond, find, length, Option, Some, None, inl, inr, sym, subst, ap, ◌∙◌, arith}
use Rattle.std.specs.List.{cons_option, list_any, reduce}
use Rattle.std.proofs.lemmas.Bool.Decides.{nat_tests}
use Rattle.pp_target.specs.Key.{Key}
use Rattle.pp_text.specs.Bytes.{is_empty}
use Rattle.pp_world.specs.declared.note.Decision.{Decision}
use Rattle.pp_world.specs.declared.note.Decision.TheVariants.{Pass}
use Rattle.pp_law.specs.Chunks.{chunk_len, filled, is_chunk}
use Rattle.pp_law.specs.Closing.{forsake}
use Rattle.pp_law.specs.Lists.{Bytes, is_some_with, is_this}
use Rattle.pp_law.specs.Offers.{body_part, has_to_say, is_at_body, offer, reply_part}
use Rattle.pp_law.specs.Phases.{come_to, ending}
use Rattle.pp_law.specs.Replies.{begin_replies, begun_at_end, begun_by, begun_decided, begun_instance, begun_passed, begun_reply, may_begin, passed_reply}
use Rattle.pp_reply.specs.Keeping.{is_end_known}
use Rattle.pp_law.specs.Requests.{keeps_open, Front, NoHeadYet, NoHead, IsRequest, Parsed, key_in}
use Rattle.pp_law.specs.Served.{furthest_read, is_brought_to, is_far_ahead, is_furthest_in, is_held_in, is_past, read_at}
use Rattle.pp_law.specs.Stages.{bound_of, is_begun, is_passing, passed_of, reply_of}
use Rattle.pp_law.specs.State.{State, Bound, Chunk, Client, DecidingAgain, Exchange, Instance, Passed, Reply, Stage, Undecided, Waiting, Passing, Answering}
use Rattle.pp_law.specs.Table.{Next, extent_of, instance, is_held, is_instance, is_next_held, next_from, next_in, next_of, source_of, swept}
use Rattle.pp_law.specs.Unseen.{at_of}
use Rattle.pp_laws.specs.Numbers.{AreDistinct}
use Rattle.pp_laws.specs.Runs.{IsIn}
use Rattle.pp_laws.proofs.Lists.{From, in_filter, in_find, in_map, the_one}
use Rattle.pp_laws.proofs.Sound.{Follows, Since, Sound, facts_of, instance_id, passes_in, source_in}
use Rattle.pp_laws.proofs.Steps.{come_to-sound}
use Rattle.pp_laws.proofs.Tests.{first_holds, number_same, same_number, second_holds}
use Rattle.pp_obeys.proofs.Obeying.{obeys_good}
use Rattle.pp_obeys.proofs.Silent.{both_hold}
use Rattle.pp_laws_ends.specs.Ends.{FarAheadIsHeldBack, IsHeldBackBy}

-- ---- lists

in_made : {A B : Type 0} (f : A → Option B) (y : B) (xs : List A) → IsIn y (filter_map f xs) → (x : A) × IsIn x xs × (f x ≡ Some y)
in_made f y [] i = absurd i
in_made {A} {B} f y (x ∷ xs) i = by (f x) refl i (in_made f y xs)
  where
    by : (o : Option B) → f x ≡ o → IsIn y (cons_option o (filter_map f xs)) → (IsIn y (filter_map f xs) → (z : A) × IsIn z xs × (f z ≡ Some y)) → (z : A) × IsIn z (x ∷ xs) × (f z ≡ Some y)
    by None is j rest = let r = rest j in (r.0, inr r.1, r.2)
    by (Some b) is (inl eq) rest = (x, inl refl, is ∙ ap (λ w. Some w) (sym eq))
    by (Some b) is (inr j) rest = let r = rest j in (r.0, inr r.1, r.2)

max_one : (a b : ℕ) → (max a b ≡ a) ⊎ (max a b ≡ b)
max_one a b = by (nat_le a b) refl
  where
    by : (t : Bool) → nat_le a b ≡ t → (max a b ≡ a) ⊎ (max a b ≡ b)
    by true is = let le : a ≤ b = grind (arith, nat_tests) in inr (omega arith)
    by false isnt = let lt : b < a = grind (arith, nat_tests) in inl (omega arith)

folded_in : (z : ℕ) (xs : List ℕ) → IsIn (fold max z xs) (z ∷ xs)
folded_in z [] = inl refl
folded_in z (x ∷ xs) = by (max_one z x) (folded_in (max z x) xs)
  where
    by : (max z x ≡ z) ⊎ (max z x ≡ x) → IsIn (fold max (max z x) xs) (max z x ∷ xs) → IsIn (fold max (max z x) xs) (z ∷ x ∷ xs)
    by (inl a) (inl e) = inl (e ∙ a)
    by (inr b) (inl e) = inr (inl (e ∙ b))
    by o (inr i) = inr (inr i)

greatest_in : (ns : List ℕ) (n : ℕ) → reduce max ns ≡ Some n → IsIn n ns
greatest_in [] n is = absurd (cc is)
greatest_in (m ∷ ms) n is = let e : fold max m ms ≡ n = cc in subst (λ x. IsIn x (m ∷ ms)) e (folded_in m ms)

-- ---- the furthest of those that read

record Furthest (u : State) (e : Exchange) : Type 0 where
  bound : Bound
  at : ℕ
  is : bound_of e ≡ Some bound
  furthest : furthest_read u bound ≡ Some at
  held : is_held_in u bound at ≡ true
  client : Client
  there : IsIn client u.clients
  reads : read_at u bound client ≡ Some at

furthest_of : (u : State) (e : Exchange) → is_far_ahead u e ≡ true → Furthest u e
furthest_of u e far = by (bound_of e) refl far
  where
    at_least : (b : Bound) → bound_of e ≡ Some b → (o : Option ℕ) → furthest_read u b ≡ o → is_some_with (is_past u b) o ≡ true → Furthest u e
    at_least b is None none past = absurd (cc past)
    at_least b is (Some at) some past =
        let w = in_made (read_at u b) at u.clients (greatest_in (filter_map (read_at u b) u.clients) at some) in
        record { bound = b; at = at; is = is; furthest = some; held = second_holds _ (is_held_in u b at) past; client = w.0; there = w.1; reads = w.2 }

    by : (o : Option Bound) → bound_of e ≡ o → is_some_with (λ b. is_some_with (is_past u b) (furthest_read u b)) o ≡ true → Furthest u e
    by None none is = absurd (cc is)
    by (Some b) some is = at_least b some (furthest_read u b) refl is

-- ---- what a next byte tells

record Parts (u : State) (c : Client) (n : Next) : Type 0 where
  reply : Reply
  closing : c.is_closing ≡ false
  is : reply_of c ≡ Some reply
  id : ℕ
  source : reply.source ≡ Some id
  there : instance u id ≡ Some n.source
  at : n.at ≡ reply.at

parts_of : (u : State) (c : Client) (n : Next) → next_of u c ≡ Some n → Parts u c n
parts_of u c n is = by c.is_closing refl is
  where
    of_row : (r : Reply) → c.is_closing ≡ false → reply_of c ≡ Some r → (id : ℕ) → r.source ≡ Some id → (x : Instance) → instance u id ≡ Some x → (t : Bool) → (elim t as (λ y. Option Next) [ true ↦ Some (record { source = x; at = r.at; to = r.to }) | false ↦ None ]) ≡ Some n → Parts u c n
    of_row r going reply id source x found true at =
        let eq : record { source = x; at = r.at; to = r.to } ≡ n = cc at in
        record { reply = r; closing = going; is = reply; id = id; source = source; there = found ∙ ap (λ (m : Next). Some m.source) eq; at = sym (ap (λ (m : Next). m.at) eq) }
    of_row r going reply id source x found false at = absurd (cc at)

    found : (r : Reply) → c.is_closing ≡ false → reply_of c ≡ Some r → (id : ℕ) → r.source ≡ Some id → (o : Option Instance) → instance u id ≡ o → (elim o as (λ y. Option Next) [ None ↦ None | Some x ↦ next_from x r ]) ≡ Some n → Parts u c n
    found r going reply id source None none at = absurd (cc at)
    found r going reply id source (Some x) some at = of_row r going reply id source x some (nat_lt r.at r.to) at

    sourced : (r : Reply) → c.is_closing ≡ false → reply_of c ≡ Some r → (o : Option ℕ) → r.source ≡ o → (elim (elim o as (λ y. Option Instance) [ None ↦ None | Some id ↦ instance u id ]) as (λ y. Option Next) [ None ↦ None | Some x ↦ next_from x r ]) ≡ Some n → Parts u c n
    sourced r going reply None none at = absurd (cc at)
    sourced r going reply (Some id) some at = found r going reply id some (instance u id) refl at

    replied : c.is_closing ≡ false → (o : Option Reply) → reply_of c ≡ o → (elim o as (λ y. Option Next) [ None ↦ None | Some r ↦ next_in u r ]) ≡ Some n → Parts u c n
    replied going None none at = absurd (cc at)
    replied going (Some r) some at = sourced r going some r.source refl at

    by : (t : Bool) → c.is_closing ≡ t → (elim t as (λ y. Option Next) [ true ↦ None | false ↦ elim (reply_of c) as (λ y. Option Next) [ None ↦ None | Some r ↦ next_in u r ] ]) ≡ Some n → Parts u c n
    by true closing at = absurd (cc at)
    by false going at = replied going (reply_of c) refl at

-- ---- a reply that has begun

pub or_first : (a b : Bool) → a ≡ true → (a || b) ≡ true
or_first true b is = refl
or_first false b is = absurd (cc is)

pub or_second : (a b : Bool) → b ≡ true → (a || b) ≡ true
or_second true b is = refl
or_second false b is = is

some_front : (xs ys : Bytes) → is_empty xs ≡ false → is_empty (xs ++ ys) ≡ false
some_front [] ys is = absurd (cc is)
some_front (x ∷ xs) ys is = refl

says_begun : (u : State) (c : Client) (r : Reply) → reply_of c ≡ Some r → r.has_begun ≡ true → is_some_with (is_next_held u) (next_of u c) ≡ true → has_to_say u c ≡ true
says_begun u c r is begun held = by (is_empty c.interim_left) refl (is_empty r.head_left) refl
  where
    part : reply_part u c ≡ r.head_left ++ body_part u c r
    part =
        ap (λ o. elim o as (λ y. Bytes) [ None ↦ [] | Some x ↦ elim x.has_begun as (λ y. Bytes) [ false ↦ [] | true ↦ x.head_left ++ body_part u c x ] ]) is
        ∙ ap (λ b. elim b as (λ y. Bytes) [ false ↦ [] | true ↦ r.head_left ++ body_part u c r ]) begun

    by : (t : Bool) → is_empty c.interim_left ≡ t → (h : Bool) → is_empty r.head_left ≡ h → has_to_say u c ≡ true
    by false some h at =
        or_first (not (is_empty (offer u c))) (is_at_body c && is_some_with (is_next_held u) (next_of u c))
        (ap (λ b. not (is_empty (elim b as (λ y. Bytes) [ false ↦ c.interim_left | true ↦ reply_part u c ]))) some ∙ ap not some)
    by true none false at =
        or_first (not (is_empty (offer u c))) (is_at_body c && is_some_with (is_next_held u) (next_of u c))
        (ap (λ b. not (is_empty (elim b as (λ y. Bytes) [ false ↦ c.interim_left | true ↦ reply_part u c ]))) none ∙ ap (λ x. not (is_empty x)) part ∙ ap not (some_front r.head_left (body_part u c r) at))
    by true none true at =
        or_second (not (is_empty (offer u c))) (is_at_body c && is_some_with (is_next_held u) (next_of u c))
        (ap (λ b. b && is_some_with (λ x. x.has_begun && is_empty x.head_left) (reply_of c) && is_some_with (is_next_held u) (next_of u c)) none
        ∙ ap (λ o. true && is_some_with (λ (x : Reply). x.has_begun && is_empty x.head_left) o && is_some_with (is_next_held u) (next_of u c)) is
        ∙ ap (λ b. b && is_empty r.head_left && is_some_with (is_next_held u) (next_of u c)) begun
        ∙ ap (λ b. b && is_some_with (is_next_held u) (next_of u c)) at ∙ held)

-- ---- one that has not

passed_or : (s : State) (q : Parsed) (d : Decision) (c : Client) → (begun_passed s q d c ≡ c) ⊎ (is_begun (begun_passed s q d c) ≡ true)
passed_or s q d c = by (passed_of c)
  where
    by : (o : Option Passed) → ((elim o as (λ y. Client) [ None ↦ c | Some p ↦ record c { stage = Answering (passed_reply s q p d); closes = not (keeps_open q && is_end_known p.rule q.head.minor) } ]) ≡ c)
        ⊎ (is_begun (elim o as (λ y. Client) [ None ↦ c | Some p ↦ record c { stage = Answering (passed_reply s q p d); closes = not (keeps_open q && is_end_known p.rule q.head.minor) } ]) ≡ true)
    by None = inl refl
    by (Some p) = inr refl

instance_or : (s : State) (q : Parsed) (r : Reply) (c : Client) → (begun_instance s q r c ≡ c) ⊎ (is_begun (begun_instance s q r c) ≡ true)
instance_or s q r c = by (source_of s r)
  where
    may : (x : Instance) (t : Bool) → ((elim t as (λ y. Client) [ true ↦ record c { stage = Answering (begun_reply s q c r x) } | false ↦ c ]) ≡ c) ⊎ (is_begun (elim t as (λ y. Client) [ true ↦ record c { stage = Answering (begun_reply s q c r x) } | false ↦ c ]) ≡ true)
    may x true = inr refl
    may x false = inl refl

    by : (o : Option Instance) → ((elim o as (λ y. Client) [ None ↦ c | Some x ↦ elim (may_begin s r x) as (λ y. Client) [ true ↦ record c { stage = Answering (begun_reply s q c r x) } | false ↦ c ] ]) ≡ c)
        ⊎ (is_begun (elim o as (λ y. Client) [ None ↦ c | Some x ↦ elim (may_begin s r x) as (λ y. Client) [ true ↦ record c { stage = Answering (begun_reply s q c r x) } | false ↦ c ] ]) ≡ true)
    by None = inl refl
    by (Some x) = may x (may_begin s r x)

decided_or : (s : State) (q : Parsed) (r : Reply) (c : Client) → (begun_decided s q r c ≡ c) ⊎ (is_begun (begun_decided s q r c) ≡ true)
decided_or s q r c = by (is_passing r.decision)
  where
    by : (t : Bool) → ((elim t as (λ y. Client) [ true ↦ begun_passed s q r.decision c | false ↦ begun_instance s q r c ]) ≡ c) ⊎ (is_begun (elim t as (λ y. Client) [ true ↦ begun_passed s q r.decision c | false ↦ begun_instance s q r c ]) ≡ true)
    by true = passed_or s q r.decision c
    by false = instance_or s q r c

by_or : (s : State) (q : Parsed) (c : Client) → (begun_by s q c ≡ c) ⊎ (is_begun (begun_by s q c) ≡ true)
by_or s q c = by c.stage
  where
    answered : (r : Reply) (t : Bool) → ((elim t as (λ y. Client) [ true ↦ c | false ↦ begun_decided s q r c ]) ≡ c) ⊎ (is_begun (elim t as (λ y. Client) [ true ↦ c | false ↦ begun_decided s q r c ]) ≡ true)
    answered r true = inl refl
    answered r false = decided_or s q r c

    by : (stage : Stage) → ((elim stage as (λ y. Client) [ Undecided ↦ c | Waiting ↦ c | Passing ↦ begun_passed s q Pass c | Answering r ↦ elim r.has_begun as (λ y. Client) [ true ↦ c | false ↦ begun_decided s q r c ] ]) ≡ c)
        ⊎ (is_begun (elim stage as (λ y. Client) [ Undecided ↦ c | Waiting ↦ c | Passing ↦ begun_passed s q Pass c | Answering r ↦ elim r.has_begun as (λ y. Client) [ true ↦ c | false ↦ begun_decided s q r c ] ]) ≡ true)
    by Undecided = inl refl
    by Waiting = inl refl
    by Passing = passed_or s q Pass c
    by (Answering r) = answered r r.has_begun

pub begun_or : (s : State) (c : Client) → (begun_at_end s c ≡ c) ⊎ (is_begun (begun_at_end s c) ≡ true)
begun_or s c = by c.is_closing
  where
    asked : (f : Front) → ((elim f as (λ y. Client) [ NoHeadYet ↦ c | NoHead status ↦ c | IsRequest q ↦ begun_by s q c ]) ≡ c) ⊎ (is_begun (elim f as (λ y. Client) [ NoHeadYet ↦ c | NoHead status ↦ c | IsRequest q ↦ begun_by s q c ]) ≡ true)
    asked NoHeadYet = inl refl
    asked (NoHead status) = inl refl
    asked (IsRequest q) = by_or s q c

    by : (t : Bool) → ((elim t as (λ y. Client) [ true ↦ c | false ↦ elim c.front as (λ y. Client) [ NoHeadYet ↦ c | NoHead status ↦ c | IsRequest q ↦ begun_by s q c ] ]) ≡ c)
        ⊎ (is_begun (elim t as (λ y. Client) [ true ↦ c | false ↦ elim c.front as (λ y. Client) [ NoHeadYet ↦ c | NoHead status ↦ c | IsRequest q ↦ begun_by s q c ] ]) ≡ true)
    by true = inl refl
    by false = asked c.front

begins_so : (s : State) (c : Client) (q : Parsed) (r : Reply) (x : Instance) → c.is_closing ≡ false → c.front ≡ IsRequest q → c.stage ≡ Answering r → r.has_begun ≡ false → is_passing r.decision ≡ false → source_of s r ≡ Some x → may_begin s r x ≡ true
    → is_begun (begun_at_end s c) ≡ true
begins_so s c q r x going front stage fresh kept source may =
    ap (λ b. is_begun (elim b as (λ y. Client) [ true ↦ c | false ↦ elim c.front as (λ y. Client) [ NoHeadYet ↦ c | NoHead status ↦ c | IsRequest p ↦ begun_by s p c ] ])) going
    ∙ ap (λ f. is_begun (elim f as (λ y. Client) [ NoHeadYet ↦ c | NoHead status ↦ c | IsRequest p ↦ begun_by s p c ])) front
    ∙ ap (λ g. is_begun (elim g as (λ y. Client) [ Undecided ↦ c | Waiting ↦ c | Passing ↦ begun_passed s q Pass c | Answering m ↦ elim m.has_begun as (λ y. Client) [ true ↦ c | false ↦ begun_decided s q m c ] ])) stage
    ∙ ap (λ b. is_begun (elim b as (λ y. Client) [ true ↦ c | false ↦ begun_decided s q r c ])) fresh
    ∙ ap (λ b. is_begun (elim b as (λ y. Client) [ true ↦ begun_passed s q r.decision c | false ↦ begun_instance s q r c ])) kept
    ∙ ap (λ o. is_begun (elim o as (λ y. Client) [ None ↦ c | Some z ↦ elim (may_begin s r z) as (λ y. Client) [ true ↦ record c { stage = Answering (begun_reply s q c r z) } | false ↦ c ] ])) source
    ∙ ap (λ b. is_begun (elim b as (λ y. Client) [ true ↦ record c { stage = Answering (begun_reply s q c r x) } | false ↦ c ])) may

-- ---- what replies that begin leave of what is held

find_fewer : (p q : Chunk → Bool) (xs : List Chunk) → ((x : Chunk) → p x ≡ true → q x ≡ true) → find p (filter q xs) ≡ find p xs
find_fewer p q [] both = refl
find_fewer p q (x ∷ xs) both = by (p x) refl (q x) refl (find_fewer p q xs both)
  where
    by : (t : Bool) → p x ≡ t → (k : Bool) → q x ≡ k → find p (filter q xs) ≡ find p xs → find p (cond k (x ∷ filter q xs) (filter q xs)) ≡ cond t (Some x) (find p xs)
    by true is true more rest = ap (λ w. cond w (Some x) (find p (filter q xs))) is
    by true is false out rest = let two : true ≡ false = sym (both x is) ∙ out in absurd (cc two)
    by false isnt true more rest = ap (λ w. cond w (Some x) (find p (filter q xs))) isnt ∙ rest
    by false isnt false out rest = rest

find_nothing : (p q : Chunk → Bool) (xs : List Chunk) → ((x : Chunk) → p x ≡ true → q x ≡ false) → find p (filter q xs) ≡ None
find_nothing p q [] both = refl
find_nothing p q (x ∷ xs) both = by (p x) refl (q x) refl (find_nothing p q xs both)
  where
    by : (t : Bool) → p x ≡ t → (k : Bool) → q x ≡ k → find p (filter q xs) ≡ None → find p (cond k (x ∷ filter q xs) (filter q xs)) ≡ None
    by true is true more rest = let two : false ≡ true = sym (both x is) ∙ more in absurd (cc two)
    by true is false out rest = rest
    by false isnt true more rest = ap (λ w. cond w (Some x) (find p (filter q xs))) isnt ∙ rest
    by false isnt false out rest = rest

none_found_by : (id : ℕ) (x y : Instance) (ys : List Instance) (t : Bool) → is_instance id y ≡ t → (x ≡ y) ⊎ IsIn x ys → x.id ≡ id → cond t (Some y) (find (is_instance id) ys) ≡ None → (IsIn x ys → x.id ≡ id → find (is_instance id) ys ≡ None → ⊥) → ⊥
none_found_by id x y ys true hit i is none rest = cc none
none_found_by id x y ys false miss (inl eq) is none rest = let both : true ≡ false = sym (ap (λ n. n == id) (sym (ap instance_id eq) ∙ is) ∙ number_same id) ∙ miss in cc both
none_found_by id x y ys false miss (inr j) is none rest = rest j is none

none_found : (xs : List Instance) (id : ℕ) (x : Instance) → IsIn x xs → x.id ≡ id → find (is_instance id) xs ≡ None → ⊥
none_found [] id x i is none = i
none_found (y ∷ ys) id x i is none = none_found_by id x y ys (is_instance id y) refl i is none (none_found ys id x)

instance_find : (xs : List Instance) (id : ℕ) (x : Instance) → AreDistinct (map instance_id xs) → IsIn x xs → x.id ≡ id → find (is_instance id) xs ≡ Some x
instance_find xs id x differ i is = by (find (is_instance id) xs) refl
  where
    by : (o : Option Instance) → find (is_instance id) xs ≡ o → o ≡ Some x
    by None none = absurd (none_found xs id x i is none)
    by (Some y) some =
        let w = in_find (is_instance id) y xs some in
        ap (λ (z : Instance). Some z) (the_one instance_id xs y x differ w.0 i (same_number y.id id w.1 ∙ sym is))

instance_kept : (t : State) (id : ℕ) (x : Instance) → AreDistinct (map instance_id t.instances) → instance (begin_replies t) id ≡ Some x → instance t id ≡ Some x
unfolding begin_replies swept forsake
instance_kept t id x differ is =
    let w = in_find (is_instance id) x (begin_replies t).instances is in
    instance_find t.instances id x differ (in_filter _ x t.instances w.0).0 (same_number x.id id w.1)

never_below : (n : ℕ) → nat_lt n 0 ≡ true → ⊥
never_below n is = let lt : n < 0 = grind (arith, nat_tests) in omega arith

-- of one instance either all chunks stay, or none
held_by_fewer : (Q : ℕ → Bool) (id i m extent at : ℕ) (chunks : List Chunk) → (nat_lt at extent || nat_lt m (filled id i (filter (λ c. not (Q c.instance)) chunks))) ≡ true → (nat_lt at extent || nat_lt m (filled id i chunks)) ≡ true
held_by_fewer Q id i m extent at chunks held = by (Q id) refl (nat_lt at extent) held
  where
    of_id : (c : Chunk) → is_chunk id i c ≡ true → c.instance ≡ id
    of_id c is = same_number c.instance id (first_holds (c.instance == id) (c.index == i) is)

    by : (gone : Bool) → Q id ≡ gone → (under : Bool) → (under || nat_lt m (filled id i (filter (λ c. not (Q c.instance)) chunks))) ≡ true → (under || nat_lt m (filled id i chunks)) ≡ true
    by gone is true one = refl
    by false stays false one =
        ap (λ o. nat_lt m (length (elim o as (λ y. Bytes) [ None ↦ [] | Some c ↦ c.bytes ]))) (sym (find_fewer (is_chunk id i) (λ c. not (Q c.instance)) chunks (λ c is. ap (λ n. not (Q n)) (of_id c is) ∙ ap not stays))) ∙ one
    by true goes false one =
        absurd (never_below m (ap (λ o. nat_lt m (length (elim o as (λ y. Bytes) [ None ↦ [] | Some c ↦ c.bytes ]))) (sym (find_nothing (is_chunk id i) (λ c. not (Q c.instance)) chunks (λ c is. ap (λ n. not (Q n)) (of_id c is) ∙ ap not goes))) ∙ one))

held_before : (t : State) (x : Instance) (at : ℕ) → is_held (begin_replies t) x at ≡ true → is_held t x at ≡ true
unfolding begin_replies swept forsake
held_before t x at held = held_by_fewer (λ n. list_any (is_instance n) _) x.id (at / chunk_len) (at % chunk_len) (extent_of t x) at t.chunks held

stage_of : (c : Client) (r : Reply) → reply_of c ≡ Some r → c.stage ≡ Answering r
stage_of c r is = by c.stage is
  where
    by : (stage : Stage) → (elim stage as (λ y. Option Reply) [ Undecided ↦ None | Waiting ↦ None | Passing ↦ None | Answering m ↦ Some m ]) ≡ Some r → stage ≡ Answering r
    by Undecided is = absurd (cc is)
    by Waiting is = absurd (cc is)
    by Passing is = absurd (cc is)
    by (Answering m) is = let eq : m ≡ r = cc is in ap (λ (z : Reply). Answering z) eq

front_asks : (f : Front) (key : Key) → key_in f ≡ Some key → (q : Parsed) × (f ≡ IsRequest q)
front_asks NoHeadYet key is = absurd (cc is)
front_asks (NoHead status) key is = absurd (cc is)
front_asks (IsRequest q) key is = (q, refl)

pub begun_clients : (t : State) (c : Client) → IsIn c (begin_replies t).clients → From (begun_at_end t) t.clients c
unfolding begin_replies swept forsake
begun_clients t c i = in_map (begun_at_end t) c t.clients i

abbrev pub since : Since
since = record { old = []; counts_loads = false; excepts = None }

-- whose next byte is held has begun
pub held_begun : (t : State) → Sound since t → (c : Client) (n : Next) → IsIn c (begin_replies t).clients → next_of (begin_replies t) c ≡ Some n → is_next_held (begin_replies t) n ≡ true → has_to_say (begin_replies t) c ≡ true
held_begun t h c n i is held = by p.reply.has_begun refl
  where
    p : Parts (begin_replies t) c n
    p = parts_of (begin_replies t) c n is

    not_begun : p.reply.has_begun ≡ false → is_begun c ≡ false
    not_begun fresh = ap (λ o. is_some_with (λ (r : Reply). r.has_begun) o) p.is ∙ fresh

    never : p.reply.has_begun ≡ false → (w : From (begun_at_end t) t.clients c) → (begun_at_end t w.was ≡ w.was) ⊎ (is_begun (begun_at_end t w.was) ≡ true) → ⊥
    never fresh w (inr begun) = let both : true ≡ false = sym begun ∙ ap is_begun (sym w.is) ∙ not_begun fresh in cc both
    never fresh w (inl stays) =
        let same : c ≡ w.was = w.is ∙ stays in
        let there : IsIn c t.clients = subst (λ (d : Client). IsIn d t.clients) (sym same) w.there in
        let stage : c.stage ≡ Answering p.reply = stage_of c p.reply p.is in
        let f : Follows c p.id t.instances t.next_instance = (facts_of h).callers.follows c p.id there (ap source_in stage ∙ p.source) in
        let q : (q : Parsed) × (c.front ≡ IsRequest q) = front_asks c.front f.key f.asks in
        let row : instance t p.id ≡ Some n.source = instance_kept t p.id n.source (facts_of h).rows.differ p.there in
        let source : source_of t p.reply ≡ Some n.source = ap (λ o. elim o as (λ y. Option Instance) [ None ↦ None | Some id ↦ instance t id ]) p.source ∙ row in
        let may : may_begin t p.reply n.source ≡ true = or_second (p.reply.at == p.reply.to) (is_held t n.source p.reply.at) (ap (λ at. is_held t n.source at) (sym p.at) ∙ held_before t n.source n.at held) in
        let begun : is_begun (begun_at_end t c) ≡ true = begins_so t c q.0 p.reply n.source p.closing q.1 stage fresh (sym (ap passes_in stage) ∙ f.is_kept) source may in
        let both : true ≡ false = sym begun ∙ ap (λ (d : Client). is_begun (begun_at_end t d)) same ∙ ap is_begun (sym w.is) ∙ not_begun fresh in cc both

    by : (b : Bool) → p.reply.has_begun ≡ b → has_to_say (begin_replies t) c ≡ true
    by true begun = says_begun (begin_replies t) c p.reply p.is begun (ap (λ o. is_some_with (is_next_held (begin_replies t)) o) is ∙ held)
    by false fresh = let w = begun_clients t c i in absurd (never fresh w (begun_or t w.was))

-- ---- the furthest of those that read

reads_next : (u : State) (b : Bound) (c : Client) (at : ℕ) → read_at u b c ≡ Some at → (n : Next) × (next_of u c ≡ Some n) × (n.source.id ≡ b.instance) × (n.at ≡ at)
reads_next u b c at is = by (is_some_with (is_brought_to u b) (next_of u c)) is
  where
    of_source : (n : Next) → next_of u c ≡ Some n → (t : Bool) → (n.source.id == b.instance) ≡ t → (elim t as (λ y. Option ℕ) [ true ↦ Some n.at | false ↦ None ]) ≡ Some at → (m : Next) × (next_of u c ≡ Some m) × (m.source.id ≡ b.instance) × (m.at ≡ at)
    of_source n next true same found = let eq : n.at ≡ at = cc found in (n, next, same_number n.source.id b.instance same, eq)
    of_source n next false other found = absurd (cc found)

    of_next : (o : Option Next) → next_of u c ≡ o → (elim o as (λ y. Option ℕ) [ None ↦ None | Some n ↦ elim (n.source.id == b.instance) as (λ y. Option ℕ) [ true ↦ Some n.at | false ↦ None ] ]) ≡ Some at → (m : Next) × (next_of u c ≡ Some m) × (m.source.id ≡ b.instance) × (m.at ≡ at)
    of_next None none found = absurd (cc found)
    of_next (Some n) some found = of_source n some (n.source.id == b.instance) refl found

    by : (t : Bool) → (elim t as (λ y. Option ℕ) [ true ↦ at_of u b c | false ↦ None ]) ≡ Some at → (m : Next) × (next_of u c ≡ Some m) × (m.source.id ≡ b.instance) × (m.at ≡ at)
    by true found = of_next (next_of u c) refl found
    by false found = absurd (cc found)

next_there : (u : State) (c : Client) (n : Next) → next_of u c ≡ Some n → instance u n.source.id ≡ Some n.source
next_there u c n is =
    let p = parts_of u c n is in
    let w = in_find (is_instance p.id) n.source u.instances p.there in
    ap (λ id. instance u id) (same_number n.source.id p.id w.1) ∙ p.there

held_back : (t : State) → Sound since t → (e : Exchange) → is_far_ahead (begin_replies t) e ≡ true → IsHeldBackBy (begin_replies t) e
held_back t h e far =
    let f = furthest_of (begin_replies t) e far in
    let r = reads_next (begin_replies t) f.bound f.client f.at f.reads in
    let there : instance (begin_replies t) f.bound.instance ≡ Some r.0.source = ap (λ id. instance (begin_replies t) id) (sym r.2) ∙ next_there (begin_replies t) f.client r.0 r.1 in
    let held : is_next_held (begin_replies t) r.0 ≡ true = ap (λ at. is_held (begin_replies t) r.0.source at) r.3 ∙ sym (ap (λ o. is_some_with (λ x. is_held (begin_replies t) x f.at) o) there) ∙ f.held in
    let its : is_furthest_in (begin_replies t) f.bound f.client ≡ true =
    ap (λ o. is_some_with (λ at. is_this at (furthest_read (begin_replies t) f.bound)) o) f.reads ∙ ap (λ o. is_this f.at o) f.furthest ∙ number_same f.at in
    let of_bound : is_some_with (λ b. is_furthest_in (begin_replies t) b f.client) (bound_of e) ≡ true = ap (λ o. is_some_with (λ b. is_furthest_in (begin_replies t) b f.client) o) f.is ∙ its in
    record {
      client = f.client;
      there = f.there;
      says = held_begun t h f.client r.0 f.there r.1 held;
      furthest = both_hold (is_far_ahead (begin_replies t) e) (is_some_with (λ b. is_furthest_in (begin_replies t) b f.client) (bound_of e)) far of_bound;
    }

ended : (s : State) → Sound since (come_to DecidingAgain s) → (e : Exchange) → is_far_ahead (ending s) e ≡ true → IsHeldBackBy (ending s) e
unfolding ending
ended s h e far = held_back (come_to DecidingAgain s) h e far

pub far_ahead : FarAheadIsHeldBack
far_ahead terms s log obeys e far = ended s (come_to-sound DecidingAgain s (obeys_good obeys).sound) e far
