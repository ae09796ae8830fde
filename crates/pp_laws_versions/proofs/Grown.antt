-- What keeps it where less is to be done, where an entry reaches further, and where one more row or entry comes.
use Rattle.std.proofs.Common.{◌≡◌, ◌⊎◌, refl, sym, subst, subst₂, ap, ap₂, ◌∙◌, inl, inr, ℕ, ◌+◌, ◌<◌, Bool, true, false, not, ◌&&◌, List, [], ◌∷◌, ◌++◌, drop, arith, lt_irrefl}
use Rattle.pp_law.specs.Lists.{Bytes, change}
use Rattle.pp_law.specs.State.{Chunk, Entry, Instance, Todo, Do, Enter, Acknowledge}
use Rattle.pp_law.specs.Store.{extended}
use Rattle.pp_law.specs.Table.{is_entry_of, is_kept_row_of}
use Rattle.pp_laws.proofs.Lists.{Changed, differ_push, in_change, in_push, other, same}
use Rattle.pp_laws.proofs.Sound.{instance_id}
use Rattle.pp_laws.proofs.Tests.{same_bytes, second_holds}
use Rattle.pp_laws.specs.Runs.{IsIn}
use Rattle.pp_shelf_law.proofs.Shelves.{bytes_by}
use Rattle.pp_laws_versions.proofs.Chunks.{Whole, none_given}
use Rattle.pp_laws_versions.proofs.View.{Agrees, AllWhole, Like, EntersLast, EntriesAs, Facts, NoEnter, WasEntry, agrees_as, agrees_on, same_entry, same_rows}

-- ---- less is to be done

pub record Left (was todo : List Todo) : Type 0 where
  pub enters : (e : Entry) → IsIn (Enter e) todo → IsIn (Enter e) was
  pub notes : (key tag : Bytes) (n extent : ℕ) → IsIn (Acknowledge key tag n extent) todo → IsIn (Acknowledge key tag n extent) was
  pub last : EntersLast todo

pub nothing_left : (was : List Todo) → Left was []
nothing_left was = record { enters = λ e i. absurd i; notes = λ key tag n extent i. absurd i; last = tt }

pub all_left : (todo : List Todo) → EntersLast todo → Left todo todo
all_left todo last = record { enters = λ e i. i; notes = λ key tag n extent i. i; last = last }

pub less : {R S : Like} (xs : List Instance) (es : List Entry) (was todo : List Todo) (cs : List Chunk) (next_id : ℕ) → Left was todo → (R ≡ true → todo ≡ []) → Facts S xs es was cs next_id → Facts R xs es todo cs next_id
less xs es was todo cs next_id left still h = record {
  each = h.each;
  next = λ e i. h.next e (left.enters e i);
  pending = λ e d i j is. h.pending e d (left.enters e i) (left.enters d j) is;
  still = still;
  once = h.once;
  free = λ e d i j fd is. h.free e d (left.enters e i) j fd is;
  last = left.last;
  whole = h.whole;
  enters = λ e i. h.enters e (left.enters e i);
  notes = λ key tag n extent i. h.notes key tag n extent (left.notes key tag n extent i);
  differ = h.differ;
  given = h.given;
  chunks_given = h.chunks_given;
}

pub none_last : (todo : List Todo) → NoEnter todo → EntersLast todo
none_last [] none = tt
none_last (Do op ∷ todo) none = none_last todo (λ e i. none e (inr i))
none_last (Enter e ∷ todo) none = λ d i. none d (inr i)
none_last (Acknowledge key tag n extent ∷ todo) none = λ d i. none d (inr i)

pub last_dropped : (todo : List Todo) → EntersLast todo → EntersLast (drop 1 todo)
last_dropped [] last = tt
last_dropped (Do op ∷ todo) last = last
last_dropped (Enter e ∷ todo) none = none_last todo none
last_dropped (Acknowledge key tag n extent ∷ todo) none = none_last todo none

-- ---- an entry reaches further

extends_as : (key : Bytes) (extent : ℕ) (es : List Entry) → EntriesAs es (change (is_kept_row_of key) (extended extent) es)
extends_as key extent es e i fresh = by (in_change (is_kept_row_of key) (extended extent) e es i)
  where
    by : Changed (is_kept_row_of key) (extended extent) es e → WasEntry es e
    by (same j isnt) = (same_entry es e j fresh).one
    by (other d j hit eq) = record {
      was = d;
      there = j;
      name = ap (λ (z : Entry). z.name) eq;
      key = ap (λ (z : Entry). z.key) eq;
      version = ap (λ (z : Entry). z.version) eq;
      fresh = ap (λ (z : Entry). z.is_stale) (sym eq) ∙ fresh;
    }

-- the entry is not of the key, and as it was; or it is, and reaches so far
data Reaches (key : Bytes) (extent : ℕ) (es : List Entry) (e : Entry) : Type 0 where
  as_it_was : IsIn e es → (e.key ≡ key → ⊥) → Reaches key extent es e
  so_far : e.extent ≡ extent → e.key ≡ key → Reaches key extent es e

reaches : (key : Bytes) (extent : ℕ) (es : List Entry) (e : Entry) → IsIn e (change (is_kept_row_of key) (extended extent) es) → e.is_stale ≡ false → Reaches key extent es e
reaches key extent es e i fresh = by (in_change (is_kept_row_of key) (extended extent) e es i)
  where
    by : Changed (is_kept_row_of key) (extended extent) es e → Reaches key extent es e
    by (same j isnt) = as_it_was j (λ is. let both : true ≡ false = sym (ap₂ (λ (a b : Bool). not a && b) fresh (bytes_by e.key key is)) ∙ isnt in cc both)
    by (other d j hit eq) = so_far (ap (λ (z : Entry). z.extent) eq) (ap (λ (z : Entry). z.key) eq ∙ same_bytes d.key key (second_holds (not d.is_stale) (is_entry_of key d) hit))

pub further : (key tag : Bytes) (n extent : ℕ) (xs : List Instance) (es : List Entry) (was todo : List Todo) (cs : List Chunk) (next_id : ℕ) → was ≡ Acknowledge key tag n extent ∷ todo → Facts false xs es was cs next_id → Facts false xs (change (is_kept_row_of key) (extended extent) es) todo cs next_id
further key tag n extent xs es was todo cs next_id is h = record {
  each = λ e i fresh. (let w : WasEntry es e = extends_as key extent es e i fresh in agrees_as e w.was xs _ w.name w.key w.version (agrees_on w.was xs xs es _ (same_rows xs) (extends_as key extent es) (h.each w.was w.there w.fresh)));
  next = λ e i. absurd (none e i);
  pending = λ e d i. absurd (none e i);
  still = λ on. absurd (let both : false ≡ true = on in cc both);
  once = λ e d i j fe fd same_key. alike e d same_key (reaches key extent es e i fe) (reaches key extent es d j fd) fe fd;
  free = λ e d i. absurd (none e i);
  last = none_last todo none;
  whole = λ e i fresh. reach e (reaches key extent es e i fresh) fresh;
  enters = λ e i. absurd (none e i);
  notes = λ k t m far i. h.notes k t m far (subst (λ (ts : List Todo). IsIn (Acknowledge k t m far) ts) (sym is) (inr i));
  differ = h.differ;
  given = h.given;
  chunks_given = h.chunks_given;
}
  where
    none : NoEnter todo
    none = subst EntersLast is h.last

    alike : (e d : Entry) → e.key ≡ d.key → Reaches key extent es e → Reaches key extent es d → e.is_stale ≡ false → d.is_stale ≡ false → e.extent ≡ d.extent
    alike e d same_key (as_it_was i off) (as_it_was j away) fe fd = h.once e d i j fe fd same_key
    alike e d same_key (as_it_was i off) (so_far is its) fe fd = absurd (off (same_key ∙ its))
    alike e d same_key (so_far is its) (as_it_was j away) fe fd = absurd (away (sym same_key ∙ its))
    alike e d same_key (so_far is its) (so_far too also) fe fd = is ∙ sym too

    reach : (e : Entry) → Reaches key extent es e → e.is_stale ≡ false → AllWhole xs cs e.key e.extent
    reach e (as_it_was i off) fresh = h.whole e i fresh
    reach e (so_far far its) fresh = subst₂ (λ (k : Bytes) (m : ℕ). AllWhole xs cs k m) (sym its) (sym far) (h.notes key tag n extent (subst (λ (ts : List Todo). IsIn (Acknowledge key tag n extent) ts) (sym is) (inl refl)))

-- ---- one more of each

-- nothing is in memory of what gets the next number
pub whole_new : (xs : List Instance) (cs : List Chunk) (new : Instance) (next_id : ℕ) (key : Bytes) (extent : ℕ) → new.id ≡ next_id → ((c : Chunk) → IsIn c cs → c.instance < next_id) → AllWhole xs cs key extent → AllWhole (xs ++ new ∷ []) cs key extent
whole_new xs cs new next_id key extent its given h x i stands is = by (in_push x xs new i)
  where
    by : IsIn x xs ⊎ (x ≡ new) → Whole x.version.length x.id extent cs
    by (inl j) = h x j stands is
    by (inr eq) = λ k below. inl (none_given next_id x.id k cs (omega (arith, ap (λ (z : Instance). z.id) eq, its)) given)

-- each entry of its key, and what becomes one, is of its version
pub row_pushed : {R : Like} (new : Instance) (xs : List Instance) (es : List Entry) (todo : List Todo) (cs : List Chunk) (next_id : ℕ) → new.id ≡ next_id → ((e : Entry) → IsIn e es → e.is_stale ≡ false → new.key ≡ e.key → new.version ≡ e.version)
    → ((e : Entry) → IsIn (Enter e) todo → new.key ≡ e.key → new.version ≡ e.version) → Facts R xs es todo cs next_id → Facts R (xs ++ new ∷ []) es todo cs (next_id + 1)
row_pushed new xs es todo cs next_id its entries waits h = record {
  each = λ e i fresh. more e (λ is. entries e i fresh is) (h.each e i fresh);
  next = λ e i. more e (λ is. waits e i is) (h.next e i);
  pending = h.pending;
  still = h.still;
  once = h.once;
  free = h.free;
  last = h.last;
  whole = λ e i fresh. whole_new xs cs new next_id e.key e.extent its h.chunks_given (h.whole e i fresh);
  enters = λ e i. whole_new xs cs new next_id e.key e.extent its h.chunks_given (h.enters e i);
  notes = λ key tag n extent i. whole_new xs cs new next_id key extent its h.chunks_given (h.notes key tag n extent i);
  differ = differ_push instance_id xs new h.differ (λ x i is. let lt : x.id < next_id = h.given x i in lt_irrefl next_id (subst (λ (n : ℕ). n < next_id) (is ∙ its) lt));
  given = λ x i. given_by x (in_push x xs new i);
  chunks_given = λ c i. let lt : c.instance < next_id = h.chunks_given c i in omega (arith, lt);
}
  where
    given_by : (x : Instance) → IsIn x xs ⊎ (x ≡ new) → x.id < next_id + 1
    given_by x (inl i) = let lt : x.id < next_id = h.given x i in omega (arith, lt)
    given_by x (inr eq) = omega (arith, ap (λ (z : Instance). z.id) eq, its)

    more : (e : Entry) → (new.key ≡ e.key → new.version ≡ e.version) → Agrees e xs es → Agrees e (xs ++ new ∷ []) es
    more e its a = record { rows = λ x i stands is. by x stands is (in_push x xs new i); kept = a.kept; named = a.named }
      where
        by : (x : Instance) → x.is_retired ≡ false → x.key ≡ e.key → IsIn x xs ⊎ (x ≡ new) → x.version ≡ e.version
        by x stands is (inl j) = a.rows x j stands is
        by x stands is (inr eq) = ap (λ (z : Instance). z.version) eq ∙ its (ap (λ (z : Instance). z.key) (sym eq) ∙ is)

-- what was to become one becomes an entry
pub entry_pushed : {R : Like} (new : Entry) (xs : List Instance) (es : List Entry) (was todo : List Todo) (cs : List Chunk) (next_id : ℕ) → was ≡ Enter new ∷ todo → Facts R xs es was cs next_id → Facts R xs (es ++ new ∷ []) todo cs next_id
entry_pushed new xs es was todo cs next_id first h = record {
  each = λ e i fresh. one e fresh (in_push e es new i);
  next = λ e i. absurd (none e i);
  pending = λ e d i. absurd (none e i);
  still = λ on. absurd (let both : Enter new ∷ todo ≡ [] = sym first ∙ h.still on in cc both);
  once = λ e d i j fe fd is. alike e d is (in_push e es new i) (in_push d es new j) fe fd;
  free = λ e d i. absurd (none e i);
  last = none_last todo none;
  whole = λ e i fresh. reach e fresh (in_push e es new i);
  enters = λ e i. absurd (none e i);
  notes = λ key tag n extent i. h.notes key tag n extent (subst (λ (ts : List Todo). IsIn (Acknowledge key tag n extent) ts) (sym first) (inr i));
  differ = h.differ;
  given = h.given;
  chunks_given = h.chunks_given;
}
  where
    waits : IsIn (Enter new) was
    waits = subst (λ (ts : List Todo). IsIn (Enter new) ts) (sym first) (inl refl)

    none : NoEnter todo
    none = subst EntersLast first h.last

    alike : (e d : Entry) → e.key ≡ d.key → IsIn e es ⊎ (e ≡ new) → IsIn d es ⊎ (d ≡ new) → e.is_stale ≡ false → d.is_stale ≡ false → e.extent ≡ d.extent
    alike e d is (inl i) (inl j) fe fd = h.once e d i j fe fd is
    alike e d is (inl i) (inr eq) fe fd = absurd (h.free new e waits i fe (is ∙ ap (λ (z : Entry). z.key) eq))
    alike e d is (inr eq) (inl j) fe fd = absurd (h.free new d waits j fd (sym is ∙ ap (λ (z : Entry). z.key) eq))
    alike e d is (inr eq) (inr too) fe fd = ap (λ (z : Entry). z.extent) (eq ∙ sym too)

    reach : (e : Entry) → e.is_stale ≡ false → IsIn e es ⊎ (e ≡ new) → AllWhole xs cs e.key e.extent
    reach e fresh (inl i) = h.whole e i fresh
    reach e fresh (inr eq) = subst (λ (z : Entry). AllWhole xs cs z.key z.extent) (sym eq) (h.enters new waits)

    more : (e : Entry) → (new.key ≡ e.key → new.version ≡ e.version) → Agrees e xs es → Agrees e xs (es ++ new ∷ [])
    more e its a = record { rows = a.rows; kept = λ d i fresh is. by d fresh is (in_push d es new i); named = a.named }
      where
        by : (d : Entry) → d.is_stale ≡ false → d.key ≡ e.key → IsIn d es ⊎ (d ≡ new) → d.version ≡ e.version
        by d fresh is (inl j) = a.kept d j fresh is
        by d fresh is (inr eq) = ap (λ (z : Entry). z.version) eq ∙ its (ap (λ (z : Entry). z.key) (sym eq) ∙ is)

    one : (e : Entry) → e.is_stale ≡ false → IsIn e es ⊎ (e ≡ new) → Agrees e xs (es ++ new ∷ [])
    one e fresh (inl i) = more e (λ is. sym ((h.next new waits).kept e i fresh (sym is))) (h.each e i fresh)
    one e fresh (inr eq) = subst (λ (z : Entry). Agrees z xs (es ++ new ∷ [])) (sym eq) (more new (λ is. refl) (h.next new waits))

pub dropped_in : (t : Todo) (todo : List Todo) → IsIn t (drop 1 todo) → IsIn t todo
dropped_in t [] i = absurd i
dropped_in t (d ∷ todo) i = inr i
