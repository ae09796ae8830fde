-- Replies that begin leave what is held for whoever follows, and what comes for it.
use Rattle.std.proofs.Common.{◌≡◌, refl, ℕ, zero, suc, ◌+◌, ◌-◌, ◌*◌, ◌/◌, ◌%◌, nat_lt, nat_le, min, Bool, true, false, not, ◌==◌, ◌&&◌, ◌||◌, List, [], ◌∷◌, ◌++◌, map, filter, cond, find, take, drop, length, Some, None, inl, inr, sym, subst, ap, ap₂, ◌∙◌}
use Rattle.std.specs.List.{list_any}
use Rattle.pp_law.specs.Chunks.{chunk_bytes, chunk_len, is_chunk}
use Rattle.pp_law.specs.Closing.{forsake, left_alone}
use Rattle.pp_law.specs.Lists.{Bytes}
use Rattle.pp_law.specs.Offers.{piece, run_at}
use Rattle.pp_law.specs.Replies.{begin_replies, begun_at_end, is_outrun}
use Rattle.pp_law.specs.Stages.{bound_of}
use Rattle.pp_law.specs.State.{State, Chunk, Client, Exchange, Instance}
use Rattle.pp_law.specs.Table.{Next, asks_for, brings, extent_of, follows, instance, is_brought, is_held, is_instance, is_next_held, is_provided, is_soon, next_of, swept}
use Rattle.pp_laws.specs.Numbers.{AreDistinct}
use Rattle.pp_laws.specs.Runs.{IsIn}
use Rattle.pp_laws.proofs.Lists.{changed_at, in_filter, in_find, the_one}
use Rattle.pp_laws.proofs.Sound.{instance_id}
use Rattle.pp_laws.proofs.Tests.{first_holds, same_number}
use Rattle.pp_laws_ends.proofs.Ahead.{or_first, or_second}
use Rattle.pp_laws_ends.proofs.Wanted.{any_of}
use Rattle.pp_laws_served.proofs.Parts.{Parts, follows_it, next_at, next_by, parts_of}

-- ---- lists

pub find_fewer : (p q : Chunk → Bool) (xs : List Chunk) → ((x : Chunk) → p x ≡ true → q x ≡ true) → find p (filter q xs) ≡ find p xs
find_fewer p q [] both = refl
find_fewer p q (x ∷ xs) both = by (p x) refl (q x) refl (find_fewer p q xs both)
  where
    by : (t : Bool) → p x ≡ t → (k : Bool) → q x ≡ k → find p (filter q xs) ≡ find p xs → find p (cond k (x ∷ filter q xs) (filter q xs)) ≡ cond t (Some x) (find p xs)
    by true is true more rest = ap (λ w. cond w (Some x) (find p (filter q xs))) is
    by true is false out rest = let two : true ≡ false = sym (both x is) ∙ out in absurd (cc two)
    by false isnt true more rest = ap (λ w. cond w (Some x) (find p (filter q xs))) isnt ∙ rest
    by false isnt false out rest = rest

pub find_kept : (p q : Instance → Bool) (xs : List Instance) (x : Instance) → find p xs ≡ Some x → q x ≡ true → find p (filter q xs) ≡ Some x
find_kept p q [] x found stays = absurd (cc found)
find_kept p q (y ∷ ys) x found stays = by (p y) refl (q y) refl found (λ later. find_kept p q ys x later stays)
  where
    by : (t : Bool) → p y ≡ t → (k : Bool) → q y ≡ k → cond t (Some y) (find p ys) ≡ Some x → (find p ys ≡ Some x → find p (filter q ys) ≡ Some x) → find p (cond k (y ∷ filter q ys) (filter q ys)) ≡ Some x
    by true is true more at rest = ap (λ w. cond w (Some y) (find p (filter q ys))) is ∙ at
    by true is false out at rest = let eq : y ≡ x = cc at in let two : true ≡ false = sym stays ∙ ap q (sym eq) ∙ out in absurd (cc two)
    by false isnt true more at rest = ap (λ w. cond w (Some y) (find p (filter q ys))) isnt ∙ rest at
    by false isnt false out at rest = rest at

pub none_any : {A : Type 0} (p : A → Bool) (xs : List A) → ((x : A) → IsIn x xs → p x ≡ true → ⊥) → list_any p xs ≡ false
none_any p [] none = refl
none_any p (x ∷ xs) none = by (p x) refl (none_any p xs (λ y i. none y (inr i)))
  where
    by : (t : Bool) → p x ≡ t → list_any p xs ≡ false → (t || list_any p xs) ≡ false
    by true is rest = absurd (none x (inl refl) is)
    by false isnt rest = rest

pub any_mapped : {A : Type 0} (p : A → Bool) (f : A → A) → ((x : A) → p (f x) ≡ p x) → (xs : List A) → list_any p (map f xs) ≡ list_any p xs
any_mapped p f alike [] = refl
any_mapped p f alike (x ∷ xs) = ap₂ (λ (a b : Bool). a || b) (alike x) (any_mapped p f alike xs)

-- ---- a row that is followed stays

pub stands : (a b : Bool) → b ≡ true → not (a && not b) ≡ true
stands true true is = refl
stands true false is = absurd (cc is)
stands false b is = refl

-- it is followed there
abbrev IsFollowedIn : State → Instance → Type 0
IsFollowedIn u x = (c : Client) × IsIn c u.clients × (follows x.id c ≡ true)

row_stays : (t : State) (id : ℕ) (x : Instance) → IsFollowedIn (begin_replies t) x → instance t id ≡ Some x → instance (begin_replies t) id ≡ Some x
unfolding begin_replies swept forsake
row_stays t id x f found =
    find_kept (is_instance id) _ t.instances x found (stands x.is_retired _ (any_of (follows x.id) f.0 _ f.1 f.2))

no_test : (t : Bool) → not t ≡ true → t ≡ false
no_test true is = absurd (cc is)
no_test false is = refl

no_chunk : (t : State) → AreDistinct (map instance_id t.instances) → (x : Instance) → IsIn x t.instances → IsFollowedIn (begin_replies t) x → (i : ℕ) → find (is_chunk x.id i) (begin_replies t).chunks ≡ find (is_chunk x.id i) t.chunks
unfolding begin_replies swept forsake
no_chunk t differ x there f i = find_fewer (is_chunk x.id i) _ t.chunks (λ c is. stays c (same_number c.instance x.id (first_holds (c.instance == x.id) (c.index == i) is)))
  where
    left : Instance → Bool
    left y = y.is_retired && not (list_any (follows y.id) (map (begun_at_end t) t.clients))

    never : (y : Instance) → left y ≡ true → y ≡ x → ⊥
    never y gone eq =
        let stays : not (left y) ≡ true = ap (λ z. not (left z)) eq ∙ stands x.is_retired _ (any_of (follows x.id) f.0 _ f.1 f.2) in
        let both : false ≡ true = sym (ap not gone) ∙ stays in cc both

    stays : (c : Chunk) → c.instance ≡ x.id → not (list_any (is_instance c.instance) (filter left t.instances)) ≡ true
    stays c is =
        ap not (none_any (is_instance c.instance) (filter left t.instances)
        (λ y j hit. let w = in_filter left y t.instances j in never y w.1 (the_one instance_id t.instances y x differ w.0 there (same_number y.id c.instance hit ∙ is))))

bytes_kept : (t : State) → AreDistinct (map instance_id t.instances) → (x : Instance) → IsIn x t.instances → IsFollowedIn (begin_replies t) x → (i : ℕ) → chunk_bytes x.id i (begin_replies t).chunks ≡ chunk_bytes x.id i t.chunks
bytes_kept t differ x there f i = ap (λ o. elim o as (λ y. Bytes) [ None ↦ [] | Some c ↦ c.bytes ]) (no_chunk t differ x there f i)

-- ---- what is held, and what comes

held_kept : (t : State) → AreDistinct (map instance_id t.instances) → (x : Instance) → IsIn x t.instances → IsFollowedIn (begin_replies t) x → (at : ℕ) → is_held (begin_replies t) x at ≡ is_held t x at
unfolding begin_replies swept forsake
held_kept t differ x there f at = ap (λ (l : Bytes). nat_lt at (extent_of t x) || nat_lt (at % chunk_len) (length l)) (bytes_kept t differ x there f (at / chunk_len))

brings_kept : (t : State) → AreDistinct (map instance_id t.instances) → (x : Instance) → IsIn x t.instances → IsFollowedIn (begin_replies t) x → (at : ℕ) (e : Exchange) → brings (begin_replies t) x at e ≡ brings t x at e
brings_kept t differ x there f at e =
    ap (λ (l : Bytes). elim (bound_of e) as (λ y. Bool) [
      | Some b ↦ (b.instance == x.id) && nat_lt at b.to && is_soon b at && nat_le b.next (min at (at / chunk_len * chunk_len + length l))
      | None ↦ asks_for x at e
    ]) (bytes_kept t differ x there f (at / chunk_len))

brought_kept : (t : State) → AreDistinct (map instance_id t.instances) → (x : Instance) → IsIn x t.instances → IsFollowedIn (begin_replies t) x → (at : ℕ) → is_brought t x at ≡ true → is_brought (begin_replies t) x at ≡ true
unfolding begin_replies swept forsake
brought_kept t differ x there f at is =
    any_mapped (brings (begin_replies t) x at) (changed_at (is_outrun t) left_alone) (λ e. left e (is_outrun t e)) t.exchanges
    ∙ any_alike (brings (begin_replies t) x at) (brings t x at) (λ e. brings_kept t differ x there f at e) t.exchanges ∙ is
  where
    left : (e : Exchange) (b : Bool) → brings (begin_replies t) x at (elim b as (λ y. Exchange) [ true ↦ left_alone e | false ↦ e ]) ≡ brings (begin_replies t) x at e
    left e true = refl
    left e false = refl

    any_alike : (p q : Exchange → Bool) → ((e : Exchange) → p e ≡ q e) → (es : List Exchange) → list_any p es ≡ list_any q es
    any_alike p q alike [] = refl
    any_alike p q alike (e ∷ es) = ap₂ (λ (a b : Bool). a || b) (alike e) (any_alike p q alike es)

-- ---- of a client that is as it was

pub record Stays (t : State) (c : Client) (n : Next) : Type 0 where
  pub next : next_of (begin_replies t) c ≡ Some n
  pub held : is_next_held (begin_replies t) n ≡ is_next_held t n
  pub provided : is_provided t n ≡ true → is_provided (begin_replies t) n ≡ true
  pub piece : piece (begin_replies t) n ≡ piece t n

run_kept : (id : ℕ) (xs ys : List Chunk) → ((i : ℕ) → chunk_bytes id i xs ≡ chunk_bytes id i ys) → (more at : ℕ) → run_at more id at xs ≡ run_at more id at ys
run_kept id xs ys alike zero at = refl
run_kept id xs ys alike (suc more) at =
    ap (λ (l : Bytes). drop (at % chunk_len) l ++ (elim (length l == chunk_len) as (λ y. Bytes) [ true ↦ run_at more id ((at / chunk_len + 1) * chunk_len) xs | false ↦ [] ])) (alike (at / chunk_len))
    ∙ ap (λ (l : Bytes). drop (at % chunk_len) (chunk_bytes id (at / chunk_len) ys) ++ (elim (length (chunk_bytes id (at / chunk_len) ys) == chunk_len) as (λ y. Bytes) [ true ↦ l | false ↦ [] ])) (run_kept id xs ys alike more ((at / chunk_len + 1) * chunk_len))

pub stays : (t : State) → AreDistinct (map instance_id t.instances) → (c : Client) (n : Next) → IsIn c (begin_replies t).clients → next_of t c ≡ Some n → Stays t c n
stays t differ c n i is = record {
  next = next_by (begin_replies t) c p.reply p.id p.row p.going p.is p.source (row_stays t p.id p.row f p.there) p.within ∙ ap (λ m. Some m) p.next;
  held = ap (λ m. is_next_held (begin_replies t) m) (sym p.next) ∙ held_kept t differ p.row there f p.reply.at ∙ ap (λ m. is_next_held t m) p.next;
  provided = λ on. subst (λ m. is_provided (begin_replies t) m ≡ true) p.next (given (subst (λ m. is_provided t m ≡ true) (sym p.next) on));
  piece = ap (λ m. piece (begin_replies t) m) (sym p.next) ∙ ap (take (p.reply.to - p.reply.at)) (run_kept p.row.id (begin_replies t).chunks t.chunks (bytes_kept t differ p.row there f) 16 p.reply.at) ∙ ap (λ m. piece t m) p.next;
}
  where
    p : Parts t c n
    p = parts_of t c n is

    there : IsIn p.row t.instances
    there = (in_find (is_instance p.id) p.row t.instances p.there).0

    f : IsFollowedIn (begin_replies t) p.row
    f = (c, i, follows_it t c n p)

    given : is_provided t (next_at p.row p.reply) ≡ true → is_provided (begin_replies t) (next_at p.row p.reply) ≡ true
    given on = by (is_held t p.row p.reply.at) refl on
      where
        by : (b : Bool) → is_held t p.row p.reply.at ≡ b → (b || is_brought t p.row p.reply.at) ≡ true → (is_held (begin_replies t) p.row p.reply.at || is_brought (begin_replies t) p.row p.reply.at) ≡ true
        by true held at = or_first _ _ (held_kept t differ p.row there f p.reply.at ∙ held)
        by false off at = or_second (is_held (begin_replies t) p.row p.reply.at) _ (brought_kept t differ p.row there f p.reply.at at)
