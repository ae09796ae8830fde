-- A follower less of an instance, by whether it is there, and whether it has one; and what is kept of one, as its view shows it.
use Rattle.std.proofs.Common.{◌≡◌, ◌<◌, ◌+◌, length, refl, ℕ, Bool, true, false, arith, nat_lt, List, [], ◌∷◌, ◌++◌, Option, Some, None, ap, subst, sym}
use native.Mathlib.Numerals.{unary_clauses}
use Rattle.std.specs.Prelude.{IsSomeAnd, slice_get, take, zero, suc}
use Rattle.std.proofs.lemmas.Bool.Decides.{nat_tests}
use Rattle.std.proofs.lemmas.List.{append-nil}
use Rattle.std.specs.Option.{option_to_list}
use Rattle.pp_cache.specs.Memory.{Memory}
use Rattle.pp_objects.specs.Changes.{given_back, is_last, left_from}
use Rattle.pp_objects.specs.Instances.{Instance, followers_of, in_slot, is_there}
use Rattle.pp_objects.specs.declared.id.ObjectId.{ObjectId}
use Rattle.pp_objects.specs.Views.{ShowsRow}
use Rattle.pp_objects.specs.declared.objects.RowView.{RowView}
use Rattle.pp_seats.specs.declared.seat.Seat.{Seat}
use Rattle.pp_state.specs.declared.state.State.{State}
use Rattle.pp_steps.specs.Begins.{BeginsBy, BeginsIn, BeginsOf, BeginsReplies, BeginsReply, kept_by, kept_in, kept_of, with_left}

pub left_is : (id : ObjectId) (old new : Memory)
    → (is_there id old.instances ≡ true → 0 < followers_of (in_slot id.slot old.instances) → new ≡ record old { instances = left_from id.slot (in_slot id.slot old.instances) old.instances; chunks = given_back (is_last (in_slot id.slot old.instances)) id.slot old.chunks })
    → (is_there id old.instances ≡ true → followers_of (in_slot id.slot old.instances) ≡ 0 → new ≡ old)
    → (is_there id old.instances ≡ false → new ≡ old)
    → new ≡ with_left id old
left_is id old new left none gone = by (is_there id old.instances) (nat_lt 0 (followers_of (in_slot id.slot old.instances))) refl refl
  where
    by : (b c : Bool) → is_there id old.instances ≡ b → nat_lt 0 (followers_of (in_slot id.slot old.instances)) ≡ c → new ≡ with_left id old
    by true true there some = rw (with_left, there, some) (left there (grind (arith, nat_tests, some)))
    by true false there some = rw (with_left, there, some) (none there (grind (arith, nat_tests, some)))
    by false c there some = rw (with_left, there) (gone there)

-- ---- what is kept of an instance

pub kept_gone : (id : ObjectId) (name : List ℕ) (now : ℕ) (m : Memory) → is_there id m.instances ≡ false → kept_of id name now m ≡ None
kept_gone id name now m gone = rw (kept_of, gone) refl

shown_in : (view : RowView) (x : Option Instance) (name : List ℕ) (now : ℕ) → IsSomeAnd x (ShowsRow view) → kept_in name now x ≡ Some (kept_by view name now)
shown_in view None name now shows = absurd shows
shown_in view (Some x) name now shows = grind (arith, sym shows.version, sym shows.fields, sym shows.times)

pub kept_shown : (id : ObjectId) (view : RowView) (name : List ℕ) (now : ℕ) (m : Memory) → is_there id m.instances ≡ true → IsSomeAnd (in_slot id.slot m.instances) (ShowsRow view)
    → kept_of id name now m ≡ Some (kept_by view name now)
kept_shown id view name now m there shows = rw (kept_of, there) (shown_in view (in_slot id.slot m.instances) name now shows)

-- ---- a reply begins in the state

pub reply_begins : (i : ℕ) (seat : Seat) (old new : State) → slice_get old.seats.items i ≡ Some seat → seat.is_closing ≡ false → BeginsBy i false seat.stage old new → BeginsReply i old new
reply_begins i seat old new is opens begins =
    subst (λ (o : Option Seat). BeginsOf i o old new) (sym is) (subst (λ (b : Bool). BeginsBy i b seat.stage old new) (sym opens) begins)

pub none_begun : (old : State) → BeginsReplies [] old old
unfolding BeginsReplies
none_begun old = refl

-- one behind those that began
one_behind : (i : ℕ) (is : List ℕ) (old now new : State) → BeginsReplies is old now → BeginsReply i now new → BeginsReplies (is ++ i ∷ []) old new
unfolding BeginsReplies
one_behind i [] old now new before begins = (new, subst (λ (s : State). BeginsReply i s new) before begins, refl)
one_behind i (j ∷ is) old now new (next, first, rest) begins = (next, first, one_behind i is next now new rest begins)

-- the one at a place behind those before it, where there is one
abbrev next_in : ℕ → List ℕ → List ℕ
next_in n is = option_to_list (slice_get is n)

front_behind : (n : ℕ) (is : List ℕ) → take (n + 1) is ≡ take n is ++ next_in n is
front_behind n [] = none n
  where
    none : (n : ℕ) → take (n + 1) [] ≡ take n [] ++ next_in n []
    none zero = refl
    none (suc n) = simp unary_clauses refl
front_behind zero (j ∷ is) = refl
front_behind (suc n) (j ∷ is) = simp unary_clauses (ap (λ (js : List ℕ). j ∷ js) (simp unary_clauses at (front_behind n is)))

behind : (o : Option ℕ) (is : List ℕ) (old now new : State) → BeginsReplies is old now → BeginsIn o now new → BeginsReplies (is ++ option_to_list o) old new
behind None is old now new before same = subst (λ (js : List ℕ). BeginsReplies js old new) (sym (append-nil is)) (subst (λ (s : State). BeginsReplies is old s) (sym same) before)
behind (Some i) is old now new before begins = one_behind i is old now new before begins

pub one_more : (n : ℕ) (is : List ℕ) (old now new : State) → BeginsReplies (take n is) old now → BeginsIn (slice_get is n) now new → BeginsReplies (take (n + 1) is) old new
one_more n is old now new before begins =
    subst (λ (js : List ℕ). BeginsReplies js old new) (sym (front_behind n is)) (behind (slice_get is n) (take n is) old now new before begins)

pub all_begun : (is : List ℕ) (old new : State) → BeginsReplies (take (length is) is) old new → BeginsReplies is old new
all_begun is old new begins = subst (λ (js : List ℕ). BeginsReplies js old new) (take-all is) begins
  where
    take-all : (is : List ℕ) → take (length is) is ≡ is
    take-all [] = refl
    take-all (i ∷ is) = ap (λ (js : List ℕ). i ∷ js) (take-all is)
