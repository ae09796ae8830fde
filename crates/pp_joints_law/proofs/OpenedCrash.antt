-- What a crash may leave is what the law lets a life wake to.
use Rattle.std.proofs.Common.{◌≡◌, ◌≤◌, ◌<◌, refl, sym, subst, ap, ◌∙◌, inl, inr, ℕ, suc, ◌+◌, ◌==◌, nat_le, nat_lt, Bool, true, false, ◌&&◌, ◌||◌, List, [], ◌∷◌, length, map, get_or, Option, Some, None, arith}
use Rattle.std.proofs.lemmas.Bool.Decides.{nat_tests}
use Rattle.std.specs.List.{list_all, list_any}
use Rattle.pp_joints_law.specs.Opened.{CrashesMayCome}
use Rattle.pp_law.specs.Lists.{Bytes}
use Rattle.pp_law.specs.Opening.{is_as_it_was, is_left_behind, leaves, leaves_one, leaves_under, permits_image, permits_woke}
use Rattle.pp_law.specs.Permits.{is_permitted, permits}
use Rattle.pp_law.specs.State.{Phase, Before, IsWoken, IsConfigured, IsRooted, IsListed, IsListening, IsStuck, Awaiting, Handling, Evicting, Keeping, Deciding, Following, Connecting, DecidingAgain}
use Rattle.pp_laws.proofs.Tests.{number_same}
use Rattle.pp_obeys.proofs.Silent.{both_hold, or_second}
use Rattle.pp_world.specs.Disk.{IsLeft, IsLeftBehind, IsLeftOf, LeavesOne, Stored, is_loose, is_rising}
use Rattle.pp_world.specs.Files.{Files}
use Rattle.pp_world.specs.Log.{Log}

-- ---- a file

no_more : (a b : ℕ) → a ≤ b → nat_le a b ≡ true
no_more a b le = grind (arith, nat_tests)

below : (a b : ℕ) → nat_lt a b ≡ true → a < b
below a b is = grind (arith, nat_tests)

one_on : (at o : ℕ) → at + suc o ≡ at + 1 + o
one_on at o = omega arith

at_none : (at : ℕ) → at + 0 ≡ at
at_none at = omega arith

from_none : (o : ℕ) → 0 + o ≡ o
from_none o = omega arith

as_was : (at : ℕ) (f : Stored) (was bytes : Bytes) → f.synced ≤ at + length bytes → ((o : ℕ) → o < length was → at + o < f.synced → is_loose (at + o) f.loose ≡ false → get_or bytes o 0 ≡ get_or was o 0) → is_as_it_was at f was bytes ≡ true
as_was at f [] bytes long same = refl
as_was at f (b ∷ was) [] long same = no_more f.synced at (omega (arith, long))
as_was at f (b ∷ was) (c ∷ bytes) long same =
    by (nat_lt at f.synced) refl
    (as_was (at + 1) f was bytes (omega (arith, long)) (λ o lt less tight. same (suc o) (omega (arith, lt)) (omega (arith, less)) (subst (λ (k : ℕ). is_loose k f.loose ≡ false) (sym (one_on at o)) tight)))
  where
    here : at < f.synced → is_loose at f.loose ≡ false → (b == c) ≡ true
    here less tight =
        let is : c ≡ b = same 0 (omega arith) (omega (arith, less)) (subst (λ (k : ℕ). is_loose k f.loose ≡ false) (sym (at_none at)) tight) in
        ap (λ (x : ℕ). b == x) is ∙ number_same b

    or_first : (p q : Bool) → p ≡ true → (p || q) ≡ true
    or_first p q holds = ap (λ (k : Bool). k || q) holds

    loose_or : at < f.synced → (l : Bool) → is_loose at f.loose ≡ l → ((b == c) || is_loose at f.loose) ≡ true
    loose_or less true is = or_second (b == c) (is_loose at f.loose) is
    loose_or less false is = or_first (b == c) (is_loose at f.loose) (here less is)

    by : (t : Bool) → nat_lt at f.synced ≡ t → is_as_it_was (at + 1) f was bytes ≡ true
        → (elim t as (λ k. Bool) [ true ↦ ((b == c) || is_loose at f.loose) && is_as_it_was (at + 1) f was bytes | false ↦ true ]) ≡ true
    by false is rest = refl
    by true is rest = both_hold ((b == c) || is_loose at f.loose) (is_as_it_was (at + 1) f was bytes) (loose_or (below at f.synced is) (is_loose at f.loose) refl) rest

file_left : (f : Stored) (bytes : Bytes) → IsLeft f bytes → leaves f bytes ≡ true
file_left f bytes left =
    both_hold (nat_le f.synced (length bytes) && nat_le (length bytes) f.end) (is_as_it_was 0 f f.bytes bytes)
    (both_hold (nat_le f.synced (length bytes)) (nat_le (length bytes) f.end) (no_more f.synced (length bytes) left.no_shorter) (no_more (length bytes) f.end left.no_longer))
    (as_was 0 f f.bytes bytes (omega (arith, left.no_shorter)) (λ o lt less tight. left.same o (omega (arith, less)) (subst (λ (k : ℕ). is_loose k f.loose ≡ false) (from_none o) tight)))

one_left : (stored : Option Stored) (file : Option Bytes) → IsLeftOf stored file → leaves_one file stored ≡ true
one_left None None left = refl
one_left None (Some bytes) left = absurd left
one_left (Some f) None left = absurd left
one_left (Some f) (Some bytes) left = file_left f bytes left

any_left : (slot : List (Option Stored)) (file : Option Bytes) → LeavesOne slot file → list_any (leaves_one file) slot ≡ true
any_left [] file left = absurd left
any_left (f ∷ fs) file (inl left) = ap (λ (b : Bool). b || list_any (leaves_one file) fs) (one_left f file left)
any_left (f ∷ fs) file (inr left) = or_second (leaves_one file f) (list_any (leaves_one file) fs) (any_left fs file left)

-- ---- a folder

each_so : (p : Bytes → Bool) (names : List Bytes) → ((name : Bytes) → p name ≡ true) → list_all p names ≡ true
each_so p [] each = refl
each_so p (name ∷ names) each = both_hold (p name) (list_all p names) (each name) (each_so p names each)

left_behind : (disk : Log) (image : Files) → IsLeftBehind disk image → is_left_behind disk image ≡ true
left_behind disk image left = each_so (leaves_under disk image) _ (λ name. any_left _ _ (left name))

-- but for the first life
permits_left : (p : Phase) (disk : Log) (image : Files) → (p ≡ Before → ⊥) → is_left_behind disk image ≡ true → permits_image p disk image ≡ true
permits_left Before disk image later left = absurd (later refl)
permits_left IsWoken disk image later left = left
permits_left IsConfigured disk image later left = left
permits_left IsRooted disk image later left = left
permits_left IsListed disk image later left = left
permits_left IsListening disk image later left = left
permits_left IsStuck disk image later left = left
permits_left Awaiting disk image later left = left
permits_left Handling disk image later left = left
permits_left Evicting disk image later left = left
permits_left Keeping disk image later left = left
permits_left Deciding disk image later left = left
permits_left Following disk image later left = left
permits_left Connecting disk image later left = left
permits_left DecidingAgain disk image later left = left

pub crashes_may : CrashesMayCome
unfolding is_permitted permits
crashes_may s image later rising left = by s.made_room_for
  where
    may : permits_woke s image ≡ true
    may = both_hold (is_rising (map (λ file. file.0) image)) (permits_image s.phase s.disk image) rising (permits_left s.phase s.disk image later (left_behind s.disk image left))

    by : (who : Option ℕ) → (elim who as (λ c. Bool) [ Some n ↦ permits_woke s image | None ↦ permits_woke s image ]) ≡ true
    by None = may
    by (Some n) = may
