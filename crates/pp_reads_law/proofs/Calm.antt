-- A life that did not go astray behind replies that ended did not before, nor where a head that was given its row came.
use Rattle.std.proofs.Common.{◌≡◌, refl, sym, ap, ◌∙◌, ℕ, Bool, true, false, ◌==◌, ◌||◌, cond, List, [], ◌∷◌, Option, Some, None, option_map}
use Rattle.std.specs.Prelude.{slice_get}
use Rattle.pp_desk.specs.Closings.{Sides, closed_client, closing_at, left_at, left_by_errand, left_own, with_parts, withdrawn}
use Rattle.pp_desk.specs.Replies.{EndsBy, EndsReplies, EndsSaid, EndsWhere, account_renewed, at_next, closes_in, is_finished_in, without_finished, without_finished_at}
use Rattle.pp_due.specs.Entering.{HasRowFor, MayCome}
use Rattle.pp_flow.specs.Changes.{entry_of}
use Rattle.pp_flow.specs.declared.entry.Exchange.{Exchange}
use Rattle.pp_flow.specs.declared.errand.Errand.{Errand}
use Rattle.pp_objects.specs.declared.id.ObjectId.{ObjectId}
use Rattle.pp_origins.specs.Gots.{Both, HeadCameFor}
use Rattle.pp_reads_law.specs.Heads.{IsGivenHead}
use Rattle.pp_reads_law.specs.Rows.{IsGivenFor, IsGivenRow}
use Rattle.pp_state.specs.Ends.{Parts, changed_at, exchange_of, forsaken, left, left_source, on_seat, source_at, unfollowed, without_source}
use Rattle.pp_state.specs.Hearing.{is_said_in, lacks_key_at, with_end}
use Rattle.pp_state.specs.Keys.{key_of}
use Rattle.pp_state.specs.declared.state.State.{State}
use Rattle.pp_store.specs.Kept.{KeptMap}
use mathlib.Core.Logic.{inl, inr}
use Rattle.pp_reads_law.proofs.Knows.{rooms_over}
use Rattle.pp_reads_law.proofs.StayReads.{answers_stay}

-- ---- replies that end

abbrev Astray : Sides → Bool
Astray x = x.parts.is_astray

source_same : (i : ℕ) (p : Parts) → (left_source i p).is_astray ≡ p.is_astray
source_same i p = by (source_at i p)
  where
    by : (o : Option ObjectId) → (elim o as (λ t. Parts) [ None ↦ p | Some id ↦ record p { seats = changed_at i without_source p.seats; cache = unfollowed id p.cache } ]).is_astray ≡ p.is_astray
    by None = refl
    by (Some id) = refl

forsaken_same : (i : ℕ) (p : Parts) → (forsaken i p).is_astray ≡ p.is_astray
forsaken_same i p = by (exchange_of i p)
  where
    by : (o : Option Exchange) → (elim o as (λ t. Parts) [ None ↦ p | Some e ↦ left e.number p ]).is_astray ≡ p.is_astray
    by None = refl
    by (Some e) = refl

own_same : (i : ℕ) (o : Option Exchange) (x : Sides) → Astray (left_own i o x) ≡ Astray x
own_same i None x = refl
own_same i (Some e) x = by (option_map (λ entry. entry.errand) (entry_of e.number x.parts.flow))
  where
    on : (b : Bool) (k : ℕ) → Astray (cond b (withdrawn e.number k x) (with_parts (forsaken i) x)) ≡ Astray x
    on true k = refl
    on false k = forsaken_same i x.parts

    at : (errand : Errand) (o : Option ℕ) → Astray (left_at i e.number errand o x) ≡ Astray x
    at errand None = refl
    at errand (Some k) = on (errand.asked == 0) k

    by : (o : Option Errand) → Astray (left_by_errand i e o x) ≡ Astray x
    by None = refl
    by (Some errand) = at errand e.place

closed_same : (i : ℕ) (x : Sides) → Astray (closed_client i x) ≡ Astray x
closed_same i x = own_same i (exchange_of i (closing_at i x.parts)) (with_parts (closing_at i) x) ∙ source_same i x.parts

first_none : (a b : Bool) → (a || b) ≡ false → a ≡ false
first_none true b is = absurd (cc is)
first_none false b is = refl

ends_by : (i : ℕ) (b : Bool) (x z : Sides) → EndsBy b i x z → Astray z ≡ false → Astray x ≡ false
ends_by i true x z is calm = sym (closed_same i x) ∙ ap (λ (w : Sides). Astray w) (sym is) ∙ calm
ends_by i false x z is calm =
    let q : Parts = left_source i x.parts in
    sym (forsaken_same i q ∙ source_same i x.parts) ∙ first_none (at_next i x.parts).is_astray (lacks_key_at i z.parts.seats) (sym (ap (λ (w : Sides). Astray w) is.1) ∙ calm)

ends_where : (i : ℕ) (b : Bool) (x z : Sides) → EndsWhere b i x z → Astray z ≡ false → Astray x ≡ false
ends_where i true x z is calm = ends_by i (closes_in (slice_get x.parts.seats i)) (with_parts (on_seat i account_renewed) x) z is calm
ends_where i false x z is calm = ap (λ (w : Sides). Astray w) (sym is) ∙ calm

said_ends : (is : List ℕ) (x z : Sides) → EndsSaid is x z → Astray z ≡ false → Astray x ≡ false
said_ends [] x z ends calm = ap (λ (w : Sides). Astray w) (sym ends) ∙ calm
said_ends (i ∷ is) x z ends calm = ends_where i (is_said_in (slice_get x.parts.seats i)) (with_parts (on_seat i with_end) x) ends.0 ends.1 (said_ends is ends.0 z ends.2 calm)

finished_one : (i : ℕ) (x : Sides) → Astray (without_finished_at x i) ≡ Astray x
finished_one i x = by (is_finished_in (slice_get x.parts.seats i))
  where
    by : (b : Bool) → Astray (cond b (closed_client i x) x) ≡ Astray x
    by true = closed_same i x
    by false = refl

finished_same : (is : List ℕ) (x : Sides) → Astray (without_finished is x) ≡ Astray x
finished_same [] x = refl
finished_same (i ∷ is) x = finished_same is (without_finished_at x i) ∙ finished_one i x

pub replies_calm : (is : List ℕ) (x z : Sides) → EndsReplies is x z → Astray z ≡ false → Astray x ≡ false
replies_calm is x z ends calm = said_ends is x ends.0 ends.1 (sym (finished_same is ends.0) ∙ ap (λ (w : Sides). Astray w) (sym ends.2) ∙ calm)

-- ---- a head that came: memory was given for its row

row_given : (shelf : KeptMap) (key : List ℕ) (old new : State) (it : MayCome shelf key old new) → new.is_astray ≡ false → IsGivenRow shelf key old new it
row_given shelf key old new (inl comes) calm = tt
row_given shelf key old new (inr stays) calm = absurd (let both : true ≡ false = ap (λ (s : State). s.is_astray) (sym stays) ∙ calm in cc both)

pub head_given : (o : Option ℕ) (shelf : KeptMap) (n : ℕ) (old new : Both) (it : HeadCameFor o shelf n old new) → new.state.is_astray ≡ false → IsGivenHead o shelf n old new it
head_given None shelf n old new it calm = tt
head_given (Some m) shelf n old new it calm = record { row = by (key_of m old.state.flow) it.row }
  where
    beside_calm : it.beside.is_astray ≡ false
    beside_calm = (answers_stay n m (record old { state = it.beside }) new it.answers).astray calm

    by : (o : Option (List ℕ)) (row : HasRowFor shelf o old.state it.beside) → IsGivenFor shelf o old.state it.beside row
    by None row = tt
    by (Some key) row = row_given shelf key old.state row.entered row.comes ((rooms_over row.entered).astray (ap (λ (s : State). s.is_astray) (sym row.room) ∙ beside_calm))
