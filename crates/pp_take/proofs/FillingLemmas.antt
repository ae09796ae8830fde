-- What followers ask for, one behind the other.
use Rattle.std.proofs.Common.{◌≡◌, ◌+◌, add-one, refl, sym, ap, ◌∙◌, ℕ, zero, suc, Bool, true, false, List, [], ◌∷◌, length, take, Option, Some, None, option_map}
use Rattle.std.specs.Prelude.{IsSomeAnd, slice_get}
use Rattle.pp_cache.specs.Memory.{Memory}
use Rattle.pp_objects.specs.Instances.{Instance, in_slot, is_there}
use Rattle.pp_objects.specs.Views.{ShowsRow}
use Rattle.pp_objects.specs.declared.id.ObjectId.{ObjectId}
use Rattle.pp_objects.specs.declared.objects.RowView.{RowView}
use Rattle.pp_seats.specs.declared.seat.Next.{Next}
use Rattle.pp_valid.specs.declared.version.Version.{Version}
use Rattle.pp_take.specs.Deciding.{may_ask}
use Rattle.pp_state.specs.Ends.{Parts}
use Rattle.pp_take.specs.Filling.{all_filled, asked_of_row, filled_for, filled_in, hole_ask_at, hole_asked, instance_of, span_asked}

pub none_filled : (name : List ℕ) (p : Parts) → all_filled name [] p ≡ p
unfolding all_filled
none_filled name p = refl

filled_by : (name : List ℕ) (is : List ℕ) (n : ℕ) (p : Parts) → all_filled name (take (suc n) is) p ≡ filled_in name (slice_get is n) (all_filled name (take n is) p)
unfolding all_filled
filled_by name [] zero p = refl
filled_by name [] (suc n) p = refl
filled_by name (i ∷ is) zero p = refl
filled_by name (i ∷ is) (suc n) p = filled_by name is n (filled_for name i p)

-- the next of these places
pub filled_next : (name : List ℕ) (is : List ℕ) (n : ℕ) (p : Parts) → all_filled name (take (n + 1) is) p ≡ filled_in name (slice_get is n) (all_filled name (take n is) p)
filled_next name is n p = ap (λ (k : ℕ). all_filled name (take k is) p) (add-one n) ∙ filled_by name is n p

pub take_all : (is : List ℕ) → take (length is) is ≡ is
take_all [] = refl
take_all (i ∷ is) = ap (λ (js : List ℕ). i ∷ js) (take_all is)

-- ---- the version of an instance

pub version_gone : (id : ObjectId) (m : Memory) → is_there id m.instances ≡ false → option_map (λ (x : Instance). x.version) (instance_of id m) ≡ None
version_gone id m gone = rw (instance_of, gone) refl

shown_in : (view : RowView) (x : Option Instance) → IsSomeAnd x (ShowsRow view) → option_map (λ (i : Instance). i.version) x ≡ Some view.version.now
shown_in view None shows = absurd shows
shown_in view (Some x) shows = ap Some (sym shows.version)

pub version_shown : (id : ObjectId) (view : RowView) (m : Memory) → is_there id m.instances ≡ true → IsSomeAnd (in_slot id.slot m.instances) (ShowsRow view)
    → option_map (λ (x : Instance). x.version) (instance_of id m) ≡ Some view.version.now
version_shown id view m there shows = rw (instance_of, there) (shown_in view (in_slot id.slot m.instances) shows)

-- ---- a hole of it is asked for, where it is there

abbrev span_if : Bool → List ℕ → ℕ → ℕ × ℕ → Option Instance → Parts → Parts
span_if b name i span o p = elim b [ true ↦ asked_of_row name i span o p | false ↦ p ]

row_gone : (name : List ℕ) (i : ℕ) (span : ℕ × ℕ) (o : Option Instance) (p : Parts) → None ≡ option_map (λ (x : Instance). x.version) o → p ≡ asked_of_row name i span o p
row_gone name i span None p is = refl
row_gone name i span (Some x) p is = absurd (cc is)

row_there : (name : List ℕ) (i : ℕ) (span : ℕ × ℕ) (o : Option Instance) (v : Version) (p : Parts) → Some v ≡ option_map (λ (x : Instance). x.version) o → hole_asked i v span (hole_ask_at name i v span p) p ≡ asked_of_row name i span o p
row_there name i span None v p is = absurd (cc is)
row_there name i span (Some x) v p is =
    let same : v ≡ x.version = cc is in
    ap (λ (w : Version). hole_asked i w span (hole_ask_at name i w span p) p) same

pub span_full : (name : List ℕ) (i : ℕ) (next : Next) (span : ℕ × ℕ) (p : Parts) → may_ask p.flow ≡ false → p ≡ span_asked name i next span p
unfolding span_asked
span_full name i next span p full = sym (ap (λ (b : Bool). span_if b name i span (instance_of next.source p.cache) p) full)

pub span_gone : (name : List ℕ) (i : ℕ) (next : Next) (span : ℕ × ℕ) (p : Parts) → may_ask p.flow ≡ true → None ≡ option_map (λ (x : Instance). x.version) (instance_of next.source p.cache) → p ≡ span_asked name i next span p
unfolding span_asked
span_gone name i next span p room is = row_gone name i span (instance_of next.source p.cache) p is ∙ sym (ap (λ (b : Bool). span_if b name i span (instance_of next.source p.cache) p) room)

pub span_there : (name : List ℕ) (i : ℕ) (next : Next) (span : ℕ × ℕ) (v : Version) (p new : Parts) → may_ask p.flow ≡ true → Some v ≡ option_map (λ (x : Instance). x.version) (instance_of next.source p.cache)
    → new ≡ hole_asked i v span (hole_ask_at name i v span p) p → new ≡ span_asked name i next span p
unfolding span_asked
span_there name i next span v p new room is asks =
    asks ∙ row_there name i span (instance_of next.source p.cache) v p is ∙ sym (ap (λ (b : Bool). span_if b name i span (instance_of next.source p.cache) p) room)
