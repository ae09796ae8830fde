-- Where the next byte is in memory, it is not on the disk alone, and some of what is next is at hand.
use Rattle.std.proofs.Common.{◌≡◌, ◌<◌, refl, sym, subst, ap, ap₂, ◌∙◌, ℕ, ◌/◌, ◌%◌, Bool, true, false, ◌&&◌, ◌||◌, not, is_some, length, min, nat_lt, suc, take, List, [], ◌∷◌, Option, Some, None, arith}
use Rattle.std.proofs.lemmas.Bool.Decides.{nat_tests}
use Rattle.std.proofs.lemmas.List.{length-take}
use Rattle.std.specs.Option.{option_and_then}
use Rattle.pp_cache.specs.Memory.{Memory, extent_of as bytes_kept, is_in_memory}
use Rattle.pp_client.specs.Replies.{Reply as Said, at_hand, next_byte}
use Rattle.pp_due.specs.Due.{is_dry, is_next_there}
use Rattle.pp_due.specs.OnDisk.{if_on_disk, is_on_disk, next_on_disk}
use Rattle.pp_holes.specs.Places.{bytes_at}
use Rattle.pp_objects.specs.Instances.{is_there}
use Rattle.pp_objects.specs.declared.id.ObjectId.{ObjectId}
use Rattle.pp_seats.specs.Follows.{next_of}
use Rattle.pp_seats.specs.Seats.{is_at_body}
use Rattle.pp_seats.specs.declared.seat.Next.{Next}
use Rattle.pp_seats.specs.declared.seat.Seat.{Seat}
use Rattle.pp_state.specs.declared.state.State.{State as Turn}
use Rattle.pp_talk.specs.Talking.{offered, offered_in}
use Rattle.pp_text.specs.Bytes.{is_empty}
use Rattle.pp_events_law.proofs.Lists.{and_false, first_off, rest_off}

pub less_test : (a b : ℕ) → a < b → nat_lt a b ≡ true
less_test a b lt = grind (arith, nat_tests)

-- ---- it is not on the disk alone

pub in_memory : (slot at : ℕ) (m : Memory) → at % 4096 < length (bytes_at (slot, at / 4096) m.chunks) → is_in_memory slot at m.chunks ≡ true
in_memory slot at m less = less_test (at % 4096) (length (bytes_at (slot, at / 4096) m.chunks)) less

pub held : (p : Turn) (seat : Seat) (n : Next) → next_of seat ≡ Some n → is_there n.source p.cache.instances ≡ true → is_in_memory n.source.slot n.at p.cache.chunks ≡ true → next_on_disk p seat ≡ None
held p seat n its there within = ap (λ (o : Option Next). elim (is_at_body seat) as (λ t. Option Next) [ true ↦ option_and_then (if_on_disk p.cache) o | false ↦ None ]) its ∙ by (is_at_body seat)
  where
    none_alone : is_on_disk n p.cache ≡ false
    none_alone = ap₂ (λ (a b : Bool). nat_lt n.at (bytes_kept n.source p.cache) && not (a && b)) there within ∙ and_false (nat_lt n.at (bytes_kept n.source p.cache))

    by : (b : Bool) → (elim b as (λ t. Option Next) [ true ↦ if_on_disk p.cache n | false ↦ None ]) ≡ None
    by true = ap (λ (a : Bool). elim a as (λ t. Option Next) [ true ↦ Some n | false ↦ None ]) none_alone
    by false = refl

-- ---- some is at hand

on_by : (b : Bool) → not b ≡ false → b ≡ true
on_by true is = refl
on_by false is = absurd (cc is)

some_taken : (xs : List ℕ) → is_empty xs ≡ false → 0 < length (take 65536 xs)
some_taken [] is = absurd (cc is)
some_taken (x ∷ xs) is = more (length xs) (length (take 65536 (x ∷ xs))) (length-take 65536 (x ∷ xs))
  where
    more : (k r : ℕ) → r ≡ min 65536 (suc k) → 0 < r
    more k r is = omega (arith, is)

some_by : (o : Option (ObjectId × ℕ)) (reply : Said) (m : Memory) → is_next_there o m.instances ≡ true → is_empty (at_hand reply m.chunks) ≡ false → 0 < length (offered_in o reply m)
some_by None reply m there some = some_taken (at_hand reply m.chunks) some
some_by (Some next) reply m there some = subst (λ (b : Bool). 0 < length (elim b as (λ t. List ℕ) [ true ↦ take 65536 (at_hand reply m.chunks) | false ↦ [] ])) (sym there) (some_taken (at_hand reply m.chunks) some)

pub some_offered : (p : Turn) (seat : Seat) → is_dry p seat ≡ false → next_on_disk p seat ≡ None → 0 < length (offered seat.client.reply p.cache)
some_offered p seat wet none =
    let out : (not (is_next_there (next_byte seat.client.reply) p.cache.instances) || is_empty (at_hand seat.client.reply p.cache.chunks)) ≡ false =
    last (not (is_next_there (next_byte seat.client.reply) p.cache.instances) || is_empty (at_hand seat.client.reply p.cache.chunks)) (sym (ap (λ (o : Option Next). (not (is_next_there (next_byte seat.client.reply) p.cache.instances) || is_empty (at_hand seat.client.reply p.cache.chunks)) && not (is_some o)) none) ∙ wet) in
    some_by (next_byte seat.client.reply) seat.client.reply p.cache (on_by (is_next_there (next_byte seat.client.reply) p.cache.instances) (first_off _ _ out)) (rest_off _ _ out)
  where
    last : (b : Bool) → (b && true) ≡ false → b ≡ false
    last true is = is
    last false is = refl
