-- The index has the slot of each row under its key, whatever changes.
use Rattle.std.proofs.Common.{ℕ, ◌≡◌, Bool, true, false, ◌==◌, ◌&&◌, not, cond, List, [], ◌∷◌, map, set, arith, refl, sym, ◌∙◌, ap, Option, Some, None, ◌⊎◌, inl, inr}
use Rattle.std.specs.Prelude.{option_map, bytes_eq}
use Rattle.std.specs.List.{find}
use Rattle.std.specs.BTreeMap.{BTreeMap, UpdatesBy}
use Rattle.std.specs.Map.{lookup, IsKeyTest, AreApart, KeepsOthers}
use Rattle.std.specs.Ordering.{is_eq, nat_cmp}
use Rattle.std.specs.Cmp.{eq_by_cmp_equiv}
use Rattle.std.specs.Cmp.Lexicographic.{slice_cmp, nat_list_cmp_total, nat_list_eq_equiv}
use Rattle.std.specs.declared.vec.Vec.{Vec}
use Rattle.std.proofs.lemmas.Grind.{common_steps}
use Rattle.std.proofs.lemmas.Bool.{cases_eq}
use Rattle.std.proofs.lemmas.Map.Text.{is_eq-slice_cmp}
use Rattle.std.proofs.lemmas.Slice.Eq.{bytes_eq-Decides}
use Rattle.pp_objects.specs.declared.row.Row.{Row}
use Rattle.pp_objects.specs.declared.objects.Objects.TheInside.{Inside}
use Rattle.pp_objects.specs.ByKey.{slot_for}
use Rattle.pp_objects.specs.Instances.{Instance, Rows, id_of, in_slot, is_in_slot, is_row, is_row_of, row_of}
use Rattle.pp_objects.specs.Inside.{row_at, instance_as, instance_at, rows_in, is_at, IsSound, IsIndexed}
use Rattle.pp_objects.proofs.Slots.{slot_shown, seen_row, set_same, set_other}

-- what one change of the map leaves under each key
apart : (bs cs ks : List ℕ) → bytes_eq bs cs ≡ false → is_eq (slice_cmp nat_cmp bs ks) ≡ true → is_eq (slice_cmp nat_cmp cs ks) ≡ false
apart bs cs ks n y =
    is_eq-slice_cmp cs ks ∙ (nat_list_eq_equiv.symm cs ks ∙ sym (nat_list_eq_equiv.congr bs ks cs (sym (is_eq-slice_cmp bs ks) ∙ y)) ∙ n)

others : {K X : Type 0} (eq : K → K → Bool) (test : K → Bool) (old new : List (K × X)) → KeepsOthers eq test old new → (other : K → Bool) → IsKeyTest eq other → AreApart test other → lookup other new ≡ lookup other old
unfolding KeepsOthers
others eq test old new h = h

under : {Z : Type 0} (m n : BTreeMap (Vec ℕ Z) ℕ) (bs : List ℕ) (w : Option ℕ) (b : Bool) (cs : List ℕ) → bytes_eq bs cs ≡ b → slot_for bs n ≡ w
    → (bytes_eq bs cs ≡ false → slot_for cs n ≡ slot_for cs m) → slot_for cs n ≡ cond b w (slot_for cs m)
under m n bs w true cs e here other = ap (λ k. slot_for k n) (sym ((bytes_eq-Decides bs cs).0 e)) ∙ here
under m n bs w false cs e here other = other e

pub updated : {Z : Type 0} (m n : BTreeMap (Vec ℕ Z) ℕ) (bs : List ℕ) (w : Option ℕ)
    → UpdatesBy (λ (x y : Vec ℕ Z). slice_cmp nat_cmp x.items y.items) (λ (k : Vec ℕ Z). slice_cmp nat_cmp bs k.items) m n w
    → (cs : List ℕ) → slot_for cs n ≡ cond (bytes_eq bs cs) w (slot_for cs m)
updated m n bs w h cs =
    under m n bs w (bytes_eq bs cs) cs refl h.1
    (λ e. others _ _ _ _ h.3 _ (λ x y. (eq_by_cmp_equiv nat_list_cmp_total).congr cs x.items y.items) (λ k. apart bs cs k.items e))

-- what is found by a search over the order of use
find_alike : (p q : Instance → Bool) (f : ℕ → Instance) (ns : List ℕ) → ((n : ℕ) → p (f n) ≡ q (f n)) → find p (map f ns) ≡ find q (map f ns)
find_alike p q f [] h = refl
find_alike p q f (n ∷ ns) h =
    ap (λ b. cond b (Some (f n)) (find p (map f ns))) (h n) ∙ ap (λ x. cond (q (f n)) (Some (f n)) x) (find_alike p q f ns h)

find_none : (p : Instance → Bool) (f : ℕ → Instance) (ns : List ℕ) → ((n : ℕ) → p (f n) ≡ false) → find p (map f ns) ≡ None
find_none p f [] h = refl
find_none p f (n ∷ ns) h = ap (λ b. cond b (Some (f n)) (find p (map f ns))) (h n) ∙ find_none p f ns h

itself : (k : ℕ) → (k == k) ≡ true
itself k = grind (arith, common_steps)

test_true : (n k : ℕ) → n ≡ k → (n == k) ≡ true
test_true n k q = grind (arith, common_steps, q)

pub test_false : (n k : ℕ) → (n ≡ k → ⊥) → (n == k) ≡ false
test_false n k q = grind (arith, common_steps, q)

false_true : false ≡ true → ⊥
false_true q = absurd cc

module _ {Z : Type 0} (ix : BTreeMap (Vec ℕ Z) ℕ) where
  -- a key without a slot has no row
  pub row_missing : (o : Inside) (v : Rows) (key : List ℕ) → IsIndexed o.rows.slots ix → rows_in o ≡ v → slot_for key ix ≡ None → row_of key v.instances ≡ None
  row_missing o v key ixd e none =
      ap (λ (w : Rows). row_of key w.instances) (sym e)
      ∙ find_none (is_row_of key) (instance_at o.rows.slots) o.order.items (λ n. ixd key n ∙ ap (is_at n) none)

  -- and one with a slot has the row there
  pub row_in_slot : (o : Inside) (v : Rows) (key : List ℕ) (s : ℕ) → IsIndexed o.rows.slots ix → rows_in o ≡ v → slot_for key ix ≡ Some s → row_of key v.instances ≡ in_slot s v.instances
  row_in_slot o v key s ixd e some =
      ap (λ (w : Rows). row_of key w.instances) (sym e)
      ∙ find_alike (is_row_of key) (is_in_slot s) (instance_at o.rows.slots) o.order.items
      (λ n. ixd key n ∙ ap (is_at n) some ∙ ap (λ m. m == s) (sym (slot_shown o.rows.slots n)))
      ∙ ap (λ (w : Rows). in_slot s w.instances) e

  pub is_row_there : (rs : List (Option Row)) (key : List ℕ) (s : ℕ) → IsIndexed rs ix → slot_for key ix ≡ Some s → is_row_of key (instance_at rs s) ≡ true
  is_row_there rs key s ixd some = ixd key s ∙ ap (is_at s) some ∙ itself s

  row_by : (o : Inside) (v : Rows) (key : List ℕ) (s : ℕ) (x : Option Row) → IsSound o → IsIndexed o.rows.slots ix → rows_in o ≡ v → slot_for key ix ≡ Some s → row_at o.rows.slots s ≡ x
      → in_slot s v.instances ≡ Some (instance_at o.rows.slots s)
  row_by o v key s None sound ixd e some is =
      absurd (false_true (ap (λ y. is_row_of key (instance_as s y)) (sym is) ∙ is_row_there o.rows.slots key s ixd some))
  row_by o v key s (Some r) sound ixd e some is = seen_row o v s (Some r) sound e (sym is) ∙ ap (λ x. Some (instance_as s x)) (sym is)

  pub row_shown : (o : Inside) (v : Rows) (key : List ℕ) (s : ℕ) → IsSound o → IsIndexed o.rows.slots ix → rows_in o ≡ v → slot_for key ix ≡ Some s
      → row_of key v.instances ≡ Some (instance_at o.rows.slots s)
  row_shown o v key s sound ixd e some = row_in_slot o v key s ixd e some ∙ row_by o v key s (row_at o.rows.slots s) sound ixd e some refl

  pub id_shown : (o : Inside) (v : Rows) (key : List ℕ) (s : ℕ) → IsSound o → IsIndexed o.rows.slots ix → rows_in o ≡ v → slot_for key ix ≡ Some s
      → Some (id_of (instance_at o.rows.slots s)) ≡ option_map id_of (row_of key v.instances)
  id_shown o v key s sound ixd e some = sym (ap (option_map id_of) (row_shown o v key s sound ixd e some))

-- a row is changed, and neither its key nor whether it is retired
alike : (k : ℕ) (r s : Row) (key : List ℕ) → s.key ≡ r.key → s.is_retired ≡ r.is_retired → is_row_of key (instance_as k (Some s)) ≡ is_row_of key (instance_as k (Some r))
alike k r s key keys flags =
    ap (λ b. not b && bytes_eq s.key key) flags ∙ ap (λ bs. not r.is_retired && bytes_eq bs key) keys

alike_at : (rs : List (Option Row)) (k : ℕ) (r s : Row) (n : ℕ) (key : List ℕ) → row_at rs k ≡ Some r → s.key ≡ r.key → s.is_retired ≡ r.is_retired → (n ≡ k) ⊎ (n ≡ k → ⊥)
    → is_row_of key (instance_at (set rs k (Some s)) n) ≡ is_row_of key (instance_at rs n)
alike_at rs k r s n key is keys flags (inl q) =
    ap (λ m. is_row_of key (instance_at (set rs k (Some s)) m)) q
    ∙ ap (λ x. is_row_of key (instance_as k x)) (set_same rs k r s is)
    ∙ alike k r s key keys flags
    ∙ ap (λ x. is_row_of key (instance_as k x)) (sym is)
    ∙ ap (λ m. is_row_of key (instance_at rs m)) (sym q)
alike_at rs k r s n key is keys flags (inr q) = ap (λ x. is_row_of key (instance_as n x)) (set_other rs k n s q)

pub indexed-set : {Z : Type 0} (ix : BTreeMap (Vec ℕ Z) ℕ) (rs : List (Option Row)) (k : ℕ) (r s : Row) → row_at rs k ≡ Some r → s.key ≡ r.key → s.is_retired ≡ r.is_retired → IsIndexed rs ix
    → IsIndexed (set rs k (Some s)) ix
indexed-set ix rs k r s is keys flags ixd key n = alike_at rs k r s n key is keys flags (cases_eq n k) ∙ ixd key n

-- the row in a slot is out, or retired
out_by : (b : Bool) (k n : ℕ) (x : Option ℕ) → b ≡ is_at k x → (n == k) ≡ false → is_at n x ≡ is_at n (cond b None x)
out_by false k n x e apart = refl
out_by true k n None e apart = refl
out_by true k n (Some m) e apart = grind (arith, common_steps, e, apart)

gone_by : (b : Bool) (k : ℕ) (x : Option ℕ) → b ≡ is_at k x → false ≡ is_at k (cond b None x)
gone_by false k x e = e
gone_by true k x e = refl

out_at : {Z : Type 0} (ix jx : BTreeMap (Vec ℕ Z) ℕ) (rs qs : List (Option Row)) (k n : ℕ) (key : List ℕ) → is_row_of key (instance_at qs k) ≡ false → ((n ≡ k → ⊥) → row_at qs n ≡ row_at rs n)
    → slot_for key jx ≡ cond (is_row_of key (instance_at rs k)) None (slot_for key ix) → IsIndexed rs ix → (n ≡ k) ⊎ (n ≡ k → ⊥)
    → is_row_of key (instance_at qs n) ≡ is_at n (slot_for key jx)
out_at ix jx rs qs k n key gone rest less ixd (inl q) =
    ap (λ m. is_row_of key (instance_at qs m)) q ∙ gone
    ∙ gone_by (is_row_of key (instance_at rs k)) k (slot_for key ix) (ixd key k)
    ∙ ap (is_at k) (sym less) ∙ ap (λ m. is_at m (slot_for key jx)) (sym q)
out_at ix jx rs qs k n key gone rest less ixd (inr q) =
    ap (λ x. is_row_of key (instance_as n x)) (rest q) ∙ ixd key n
    ∙ out_by (is_row_of key (instance_at rs k)) k n (slot_for key ix) (ixd key k) (test_false n k q)
    ∙ ap (is_at n) (sym less)

pub indexed-out : {Z : Type 0} (ix jx : BTreeMap (Vec ℕ Z) ℕ) (rs qs : List (Option Row)) (k : ℕ) → ((key : List ℕ) → is_row_of key (instance_at qs k) ≡ false)
    → ((n : ℕ) → (n ≡ k → ⊥) → row_at qs n ≡ row_at rs n) → ((key : List ℕ) → slot_for key jx ≡ cond (is_row_of key (instance_at rs k)) None (slot_for key ix)) → IsIndexed rs ix
    → IsIndexed qs jx
indexed-out ix jx rs qs k gone rest less ixd key n = out_at ix jx rs qs k n key (gone key) (rest n) (less key) ixd (cases_eq n k)

-- a row is new, and no other row has its key
new_by : (b : Bool) (n k : ℕ) (x : Option ℕ) → (n == k) ≡ false → cond b false (is_at n x) ≡ is_at n (cond b (Some k) x)
new_by true n k x q = sym q
new_by false n k x q = refl

here_by : (b : Bool) (k : ℕ) (x : Option ℕ) → is_at k x ≡ false → b ≡ is_at k (cond b (Some k) x)
here_by true k x e = sym (itself k)
here_by false k x e = sym e

shows_new : (k : ℕ) (s : Row) (name key : List ℕ) → s.key ≡ name → s.is_retired ≡ false → is_row_of key (instance_as k (Some s)) ≡ bytes_eq name key
shows_new k s name key keys flag = ap (λ b. not b && bytes_eq s.key key) flag ∙ ap (λ bs. bytes_eq bs key) keys

new_at : {Z W : Type 0} (ix : BTreeMap (Vec ℕ Z) ℕ) (jx : BTreeMap (Vec ℕ W) ℕ) (rs qs : List (Option Row)) (k n : ℕ) (s : Row) (name key : List ℕ) → row_at rs k ≡ None → row_at qs k ≡ Some s → s.key ≡ name → s.is_retired ≡ false
    → ((n ≡ k → ⊥) → is_row_of key (instance_at qs n) ≡ cond (bytes_eq name key) false (is_row_of key (instance_at rs n)))
    → slot_for key jx ≡ cond (bytes_eq name key) (Some k) (slot_for key ix) → IsIndexed rs ix → (n ≡ k) ⊎ (n ≡ k → ⊥)
    → is_row_of key (instance_at qs n) ≡ is_at n (slot_for key jx)
new_at ix jx rs qs k n s name key vacant here keys flag rest more ixd (inl q) =
    ap (λ m. is_row_of key (instance_at qs m)) q ∙ ap (λ x. is_row_of key (instance_as k x)) here ∙ shows_new k s name key keys flag
    ∙ here_by (bytes_eq name key) k (slot_for key ix) (sym (ixd key k) ∙ ap (λ x. is_row_of key (instance_as k x)) vacant)
    ∙ ap (is_at k) (sym more) ∙ ap (λ m. is_at m (slot_for key jx)) (sym q)
new_at ix jx rs qs k n s name key vacant here keys flag rest more ixd (inr q) =
    rest q ∙ ap (cond (bytes_eq name key) false) (ixd key n) ∙ new_by (bytes_eq name key) n k (slot_for key ix) (test_false n k q) ∙ ap (is_at n) (sym more)

pub indexed-new : {Z W : Type 0} (ix : BTreeMap (Vec ℕ Z) ℕ) (jx : BTreeMap (Vec ℕ W) ℕ) (rs qs : List (Option Row)) (k : ℕ) (s : Row) (name : List ℕ) → row_at rs k ≡ None → row_at qs k ≡ Some s → s.key ≡ name → s.is_retired ≡ false
    → ((n : ℕ) (key : List ℕ) → (n ≡ k → ⊥) → is_row_of key (instance_at qs n) ≡ cond (bytes_eq name key) false (is_row_of key (instance_at rs n)))
    → ((key : List ℕ) → slot_for key jx ≡ cond (bytes_eq name key) (Some k) (slot_for key ix)) → IsIndexed rs ix → IsIndexed qs jx
indexed-new ix jx rs qs k s name vacant here keys flag rest more ixd key n =
    new_at ix jx rs qs k n s name key vacant here keys flag (rest n key) (more key) ixd (cases_eq n k)

-- the rows of other keys, where the row of this one is set aside
kept_by : {Z : Type 0} (ix : BTreeMap (Vec ℕ Z) ℕ) (rs : List (Option Row)) (n : ℕ) (name key : List ℕ) (b : Bool) → bytes_eq name key ≡ b → is_at n (slot_for name ix) ≡ false → IsIndexed rs ix
    → is_row_of key (instance_at rs n) ≡ cond b false (is_row_of key (instance_at rs n))
kept_by ix rs n name key true e none ixd =
    ap (λ k. is_row_of k (instance_at rs n)) (sym ((bytes_eq-Decides name key).0 e)) ∙ ixd name n ∙ none
kept_by ix rs n name key false e none ixd = refl

pub kept_row : {Z : Type 0} (ix : BTreeMap (Vec ℕ Z) ℕ) (rs : List (Option Row)) (n : ℕ) (name key : List ℕ) → is_at n (slot_for name ix) ≡ false → IsIndexed rs ix
    → is_row_of key (instance_at rs n) ≡ cond (bytes_eq name key) false (is_row_of key (instance_at rs n))
kept_row ix rs n name key none ixd = kept_by ix rs n name key (bytes_eq name key) refl none ixd

and_right : (a b : Bool) → (a && b) ≡ true → b ≡ true
and_right true b e = e
and_right false b e = absurd cc

and_false : (a : Bool) → (a && false) ≡ false
and_false true = refl
and_false false = refl

aside_by : (i : Instance) (name key : List ℕ) (b : Bool) → bytes_eq name key ≡ b → is_row_of name i ≡ true → false ≡ cond b false (is_row_of key i)
aside_by i name key true e row = refl
aside_by i name key false e row =
    let same : i.key ≡ name = (bytes_eq-Decides i.key name).0 (and_right (is_row i) (bytes_eq i.key name) row) in
    sym (ap (λ bs. is_row i && bytes_eq bs key) same ∙ ap (λ b. is_row i && b) e ∙ and_false (is_row i))

-- a row that is set aside counts for no key
pub aside_row : (i : Instance) (name key : List ℕ) → is_row_of name i ≡ true → false ≡ cond (bytes_eq name key) false (is_row_of key i)
aside_row i name key row = aside_by i name key (bytes_eq name key) refl row
