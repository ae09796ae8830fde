-- A log heard from its begin, happening by happening.
use Rattle.std.proofs.Common.{◌≡◌, ◌∙◌, ap, sym, refl, subst, ℕ, zero, suc, ◌+◌, ◌<◌, arith, Bool, true, false, List, [], ◌∷◌, ◌++◌, take, get_or, length}
use Rattle.std.specs.Prelude.{◌&&◌}
use Rattle.std.specs.List.{list_all}
use Rattle.pp_world.specs.declared.happening.Happening.{Happening}
use Rattle.pp_world.specs.Disk.{IsLeftBehind, LeavesOne}
use Rattle.pp_world.specs.Files.{Files, file_of}
use Rattle.pp_world.specs.Log.{Log}
use Rattle.pp_memworld.specs.declared.folder.Folder.{Folder}
use Rattle.pp_memworld.specs.Folder.{Follows, Hears, is_sound}
use Rattle.pp_memworld.specs.Slots.{files_at}
use Rattle.pp_memworld.proofs.Keeping.{follows_push}

pub take_next : {A : Type 0} (i : ℕ) (xs : List A) (d : A) → i < length xs → take (i + 1) xs ≡ take i xs ++ get_or xs i d ∷ []
take_next {A} i xs d within = ap (λ (n : ℕ). take n xs) (one i) ∙ by i xs within
  where
    one : (n : ℕ) → n + 1 ≡ suc n
    one n = omega arith

    by : (n : ℕ) (ys : List A) → n < length ys → take (suc n) ys ≡ take n ys ++ get_or ys n d ∷ []
    by zero [] less = absurd (omega (arith, less))
    by zero (y ∷ ys) less = refl
    by (suc n) [] less = absurd (omega (arith, less))
    by (suc n) (y ∷ ys) less = ap (λ zs. y ∷ zs) (by n ys (omega (arith, less)))

parts_true : (a b : Bool) → (a && b) ≡ true → (a ≡ true) × (b ≡ true)
parts_true true b is = (refl, is)
parts_true false b is = absurd (cc)

both_true : (a b : Bool) → a ≡ true → b ≡ true → (a && b) ≡ true
both_true true b one two = two
both_true false b one two = absurd (cc)

pub sound_at : (log : Log) (i : ℕ) (d : Happening) → list_all is_sound log ≡ true → i < length log → is_sound (get_or log i d) ≡ true
sound_at [] i d all within = absurd (omega (arith, within))
sound_at (h ∷ log) zero d all within = (parts_true (is_sound h) (list_all is_sound log) all).0
sound_at (h ∷ log) (suc i) d all within = sound_at log i d (parts_true (is_sound h) (list_all is_sound log) all).1 (omega (arith, within))

pub sound_front : (n : ℕ) (log : Log) → list_all is_sound log ≡ true → list_all is_sound (take n log) ≡ true
sound_front zero log all = refl
sound_front (suc n) [] all = refl
sound_front (suc n) (h ∷ log) all = let parts = parts_true (is_sound h) (list_all is_sound log) all in both_true (is_sound h) (list_all is_sound (take n log)) parts.0 (sound_front n log parts.1)

pub follows_next : (log : Log) (i : ℕ) (h : Happening) (old new : Folder) → i < length log → h ≡ get_or log i h → Follows (take i log) old → Hears h old new → Follows (take (i + 1) log) new
follows_next log i h old new within is so hears = subst (λ (l : Log). Follows l new) (sym (take_next i log h within ∙ ap (λ (g : Happening). take i log ++ g ∷ []) (sym is))) (follows_push (take i log) h old new so hears)

-- what the folder leaves, the log does
pub leaves_behind : (log : Log) (folder : Folder) (image : Files) → Follows log folder → ((name : List ℕ) → LeavesOne (files_at name folder.slots) (file_of name image)) → IsLeftBehind log image
leaves_behind log folder image so left = λ name. subst (λ files. LeavesOne files (file_of name image)) (sym (so.shown name).slot) (left name)
