-- What is kept where instances are changed in what nothing here depends on, come or go.
use Rattle.std.proofs.Common.{◌≡◌, ◌⊎◌, refl, ℕ, ◌+◌, ◌<◌, ◌*◌, Bool, true, List, [], ◌∷◌, ◌++◌, map, filter, Some, inl, inr, sym, subst, ap, ◌∙◌, lt_irrefl, arith}
use Rattle.pp_target.specs.Key.{text_of}
use Rattle.pp_law.specs.Chunks.{chunk_len}
use Rattle.pp_law.specs.Lists.{change, Bytes}
use Rattle.pp_law.specs.OwnHeads.{key_of}
use Rattle.pp_law.specs.Stages.{bound_of}
use Rattle.pp_law.specs.State.{State, Answer, Client, Exchange, Instance, Chunk, Bound}
use Rattle.pp_law.specs.Table.{is_row_of}
use Rattle.pp_laws.specs.Numbers.{AreDistinct}
use Rattle.pp_laws.specs.Origin.{AllSent}
use Rattle.pp_laws.specs.Runs.{IsIn}
use Rattle.pp_laws.proofs.Joins.{HeldOf}
use Rattle.pp_laws.proofs.Lists.{Changed, differ_change, differ_filter, differ_map, differ_moved, differ_push, in_change, in_filter, in_map, in_moved, in_push, moved, other, same}
use Rattle.pp_laws.proofs.Sound.{FactsOf, Fitting, Follows, Since, instance_id}

-- ---- instances

-- it was there, of that key and version
pub record InstanceFrom (instances : List Instance) (x : Instance) : Type 0 where
  pub was : Instance
  pub there : IsIn was instances
  pub id : x.id ≡ was.id
  pub key : x.key ≡ was.key
  pub version : x.version ≡ was.version
  pub row : (key : Bytes) → is_row_of key x ≡ true → is_row_of key was ≡ true

fitting_same : (a : Answer) (to : Bound) (x y : Instance) → x.version ≡ y.version → Fitting a to y → Fitting a to x
fitting_same a to x y is (inl fits) = inl (fits.0 ∙ ap (λ v. Some v) (sym is), fits.1)
fitting_same a to x y is (inr none) = inr none

pub rows_kept : (b : Since) (s : State) (instances : List Instance) (chunks : List Chunk) → AreDistinct (map instance_id instances) → ((x : Instance) → IsIn x instances → InstanceFrom s.instances x)
    → ((c : Chunk) → IsIn c chunks → IsIn c s.chunks) → FactsOf b s → FactsOf b (record s { instances = instances; chunks = chunks })
rows_kept b s instances chunks differ from chunk_from h = record {
  grew = h.grew;
  lines = h.lines;
  asks = h.asks;
  rows = record {
    differ = differ;
    given = λ x i. let f = from x i in subst (λ n. n < s.next_instance) (sym f.id) (h.rows.given f.was f.there);
    own_keys = λ key x y i j r q. let f = from x i in let g = from y j in f.id ∙ h.rows.own_keys key f.was g.was f.there g.there (f.row key r) (g.row key q) ∙ sym g.id;
    chunks_given = λ c i. h.rows.chunks_given c (chunk_from c i);
  };
  placed = h.placed;
  brings = λ k e to i j l is isnt. let w = h.brings k e to i j l is isnt in
      record { front = w.front; answer = w.answer; is = w.is; fits = λ x m id. let f = from x m in fitting_same w.answer to x f.was f.version (w.fits f.was f.there (sym f.id ∙ id)) };
  keyed = λ e to x i is j id. let f = from x j in f.key ∙ h.keyed e to f.was i is f.there (sym f.id ∙ id);
  callers = record {
    rise = h.callers.rise;
    given = h.callers.given;
    follows = λ c id i is. follows_by c id (h.callers.follows c id i is);
  };
  held = λ counts x i. held_by counts x (from x i);
}
  where
    follows_by : (c : Client) (id : ℕ) → Follows c id s.instances s.next_instance → Follows c id instances s.next_instance
    follows_by c id w = record { is_kept = w.is_kept; given = w.given; key = w.key; asks = w.asks; same_key = λ x i is. let f = from x i in f.key ∙ w.same_key f.was f.there (sym f.id ∙ is) }

    held_by : b.counts_loads ≡ true → (x : Instance) → InstanceFrom s.instances x → HeldOf s.sent x.key x.version x.id chunks
    held_by counts x f c i is =
        subst (λ k. AllSent s.sent k x.version (c.index * chunk_len) c.bytes) (sym f.key)
        (subst (λ v. AllSent s.sent f.was.key v (c.index * chunk_len) c.bytes) (sym f.version) (h.held counts f.was f.there c (chunk_from c i) (is ∙ f.id)))

pub record SameInstance (x y : Instance) : Type 0 where
  pub id : x.id ≡ y.id
  pub key : x.key ≡ y.key
  pub version : x.version ≡ y.version
  pub row : (key : Bytes) → is_row_of key x ≡ true → is_row_of key y ≡ true

pub instance_from : (instances : List Instance) (x y : Instance) → IsIn y instances → SameInstance x y → InstanceFrom instances x
instance_from instances x y i is = record { was = y; there = i; id = is.id; key = is.key; version = is.version; row = is.row }

pub instance_same : (x : Instance) → SameInstance x x
instance_same x = record { id = refl; key = refl; version = refl; row = λ key is. is }

pub instances_mapped : (b : Since) (s : State) (f : Instance → Instance) → ((x : Instance) → SameInstance (f x) x) → FactsOf b s → FactsOf b (record s { instances = map f s.instances })
instances_mapped b s f kept h = rows_kept b s (map f s.instances) s.chunks (differ_map instance_id f (λ x. (kept x).id) s.instances h.rows.differ) from (λ c i. i) h
  where
    from : (x : Instance) → IsIn x (map f s.instances) → InstanceFrom s.instances x
    from x i = let r = in_map f x s.instances i in instance_from s.instances x r.was r.there (subst (λ (y : Instance). SameInstance y r.was) (sym r.is) (kept r.was))

pub instances_changed : (b : Since) (s : State) (p : Instance → Bool) (f : Instance → Instance) → ((x : Instance) → SameInstance (f x) x) → FactsOf b s → FactsOf b (record s { instances = change p f s.instances })
instances_changed b s p f kept h = rows_kept b s (change p f s.instances) s.chunks (differ_change instance_id p f (λ x. (kept x).id) s.instances h.rows.differ) (λ x i. from x (in_change p f x s.instances i)) (λ c i. i) h
  where
    from : (x : Instance) → Changed p f s.instances x → InstanceFrom s.instances x
    from x (same i isnt) = instance_from s.instances x x i (instance_same x)
    from x (other y i is e) = instance_from s.instances x y i (subst (λ (z : Instance). SameInstance z y) (sym e) (kept y))

pub rows_filtered : (b : Since) (s : State) (p : Instance → Bool) (q : Chunk → Bool) → FactsOf b s → FactsOf b (record s { instances = filter p s.instances; chunks = filter q s.chunks })
rows_filtered b s p q h =
    rows_kept b s (filter p s.instances) (filter q s.chunks) (differ_filter instance_id p s.instances h.rows.differ) (λ x i. instance_from s.instances x x (in_filter p x s.instances i).0 (instance_same x))
    (λ c i. (in_filter q c s.chunks i).0) h

pub chunks_filtered : (b : Since) (s : State) (q : Chunk → Bool) → FactsOf b s → FactsOf b (record s { chunks = filter q s.chunks })
chunks_filtered b s q h = rows_kept b s s.instances (filter q s.chunks) h.rows.differ (λ x i. instance_from s.instances x x i (instance_same x)) (λ c i. (in_filter q c s.chunks i).0) h

pub instances_moved : (b : Since) (s : State) (p : Instance → Bool) → FactsOf b s → FactsOf b (record s { instances = moved p s.instances })
instances_moved b s p h = rows_kept b s (moved p s.instances) s.chunks (differ_moved instance_id p s.instances h.rows.differ) (λ x i. instance_from s.instances x x (in_moved p x s.instances i) (instance_same x)) (λ c i. i) h

-- a new one, of which nothing is held, and whose key has no row
pub instance_pushed : (b : Since) (s : State) (x : Instance) → x.id ≡ s.next_instance → ((key : Bytes) (y : Instance) → IsIn y s.instances → is_row_of key y ≡ true → is_row_of key x ≡ true → ⊥) → FactsOf b s → FactsOf b (record s { instances = s.instances ++ x ∷ []; next_instance = s.next_instance + 1 })
instance_pushed b s x id alone h = record {
  grew = h.grew;
  lines = h.lines;
  asks = record { rise = h.asks.rise; given = h.asks.given; bounds = λ e to i is. more to.instance (h.asks.bounds e to i is); noted = h.asks.noted; unplaced = h.asks.unplaced; unheaded = h.asks.unheaded };
  rows = record {
    differ = differ_push instance_id s.instances x h.rows.differ (λ y i is. lt_irrefl y.id (subst (λ n. y.id < n) (sym (is ∙ id)) (h.rows.given y i)));
    given = λ y i. given_by y (in_push y s.instances x i);
    own_keys = λ key y z i j r q. own_by key y z (in_push y s.instances x i) (in_push z s.instances x j) r q;
    chunks_given = λ c i. more c.instance (h.rows.chunks_given c i);
  };
  placed = h.placed;
  brings = λ k e to i j l is isnt. let w = h.brings k e to i j l is isnt in
      record { front = w.front; answer = w.answer; is = w.is; fits = λ y m same_id. fits_by w.answer to (h.asks.bounds e to j is) w.fits y (in_push y s.instances x m) same_id };
  keyed = λ e to y i is j same_id. keyed_by e to y i is (in_push y s.instances x j) same_id;
  callers = record {
    rise = h.callers.rise;
    given = h.callers.given;
    follows = λ c n i is. follows_by c n (h.callers.follows c n i is);
  };
  held = λ counts y i. held_by counts y (in_push y s.instances x i);
}
  where
    more : (n : ℕ) → n < s.next_instance → n < s.next_instance + 1
    more n lt = omega arith

    new_id : (y : Instance) → y ≡ x → y.id ≡ s.next_instance
    new_id y e = ap instance_id e ∙ id

    given_by : (y : Instance) → IsIn y s.instances ⊎ (y ≡ x) → y.id < s.next_instance + 1
    given_by y (inl i) = more y.id (h.rows.given y i)
    given_by y (inr e) = let is : y.id ≡ s.next_instance = new_id y e in omega arith

    never : (y : Instance) (n : ℕ) → y ≡ x → n < s.next_instance → y.id ≡ n → ⊥
    never y n e lt is = let new : y.id ≡ s.next_instance = new_id y e in omega arith

    as_new : (key : Bytes) (y : Instance) → y ≡ x → is_row_of key y ≡ true → is_row_of key x ≡ true
    as_new key y e is = sym (ap (is_row_of key) e) ∙ is

    own_by : (key : Bytes) (y z : Instance) → IsIn y s.instances ⊎ (y ≡ x) → IsIn z s.instances ⊎ (z ≡ x) → is_row_of key y ≡ true → is_row_of key z ≡ true → y.id ≡ z.id
    own_by key y z (inl i) (inl j) r q = h.rows.own_keys key y z i j r q
    own_by key y z (inl i) (inr e) r q = absurd (alone key y i r (as_new key z e q))
    own_by key y z (inr e) (inl j) r q = absurd (alone key z j q (as_new key y e r))
    own_by key y z (inr e) (inr f) r q = ap instance_id (e ∙ sym f)

    fits_by : (a : Answer) (to : Bound) → to.instance < s.next_instance → ((y : Instance) → IsIn y s.instances → y.id ≡ to.instance → Fitting a to y) → (y : Instance) → IsIn y s.instances ⊎ (y ≡ x) → y.id ≡ to.instance → Fitting a to y
    fits_by a to lt fits y (inl i) is = fits y i is
    fits_by a to lt fits y (inr e) is = absurd (never y to.instance e lt is)

    keyed_by : (e : Exchange) (to : Bound) (y : Instance) → IsIn e s.exchanges → bound_of e ≡ Some to → IsIn y s.instances ⊎ (y ≡ x) → y.id ≡ to.instance → y.key ≡ key_of e
    keyed_by e to y i is (inl j) same_id = h.keyed e to y i is j same_id
    keyed_by e to y i is (inr eq) same_id = absurd (never y to.instance eq (h.asks.bounds e to i is) same_id)

    same_key_by : (n : ℕ) (text : Bytes) → n < s.next_instance → ((y : Instance) → IsIn y s.instances → y.id ≡ n → y.key ≡ text) → (y : Instance) → IsIn y s.instances ⊎ (y ≡ x) → y.id ≡ n → y.key ≡ text
    same_key_by n text lt is_key y (inl i) is = is_key y i is
    same_key_by n text lt is_key y (inr e) is = absurd (never y n e lt is)

    follows_by : (c : Client) (n : ℕ) → Follows c n s.instances s.next_instance → Follows c n (s.instances ++ x ∷ []) (s.next_instance + 1)
    follows_by c n w = record { is_kept = w.is_kept; given = more n w.given; key = w.key; asks = w.asks; same_key = λ y i is. same_key_by n (text_of w.key) w.given w.same_key y (in_push y s.instances x i) is }

    held_by : b.counts_loads ≡ true → (y : Instance) → IsIn y s.instances ⊎ (y ≡ x) → HeldOf s.sent y.key y.version y.id s.chunks
    held_by counts y (inl i) = h.held counts y i
    held_by counts y (inr e) = λ c i is. absurd (never y c.instance e (h.rows.chunks_given c i) (sym is))
