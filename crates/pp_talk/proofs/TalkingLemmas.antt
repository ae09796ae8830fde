-- What is found at a client, and what is offered to it.
use Rattle.std.proofs.Common.{◌≡◌, ◌≤◌, ℕ, zero, suc, length, min, ap, ◌∙◌, arith, ◌∷◌, Bool, true, false, IfSome, List, [], take, Option, Some, None, refl}
use Rattle.pp_cache.specs.Memory.{IsNextThere, Memory}
use Rattle.pp_client.specs.Replies.{Reply, at_hand, next_byte}
use Rattle.pp_objects.specs.Instances.{is_there}
use Rattle.pp_objects.specs.declared.id.ObjectId.{ObjectId}
use Rattle.pp_talk.specs.Talking.{offered, offered_in}

pub offer_is : (offer : List ℕ) (reply : Reply) (m : Memory) → (IsNextThere (next_byte reply) m.instances → offer ≡ take 65536 (at_hand reply m.chunks)) → IfSome (next_byte reply) (λ at. is_there at.0 m.instances ≡ false → offer ≡ []) → offer ≡ offered reply m
offer_is offer reply m there gone = by (next_byte reply) there gone
  where
    by_there : (b : Bool) → (b ≡ true → offer ≡ take 65536 (at_hand reply m.chunks)) → (b ≡ false → offer ≡ []) → offer ≡ elim b as (λ t. List ℕ) [ true ↦ take 65536 (at_hand reply m.chunks) | false ↦ [] ]
    by_there true there gone = there refl
    by_there false there gone = gone refl

    by : (o : Option (ObjectId × ℕ)) → (IsNextThere o m.instances → offer ≡ take 65536 (at_hand reply m.chunks)) → IfSome o (λ at. is_there at.0 m.instances ≡ false → offer ≡ []) → offer ≡ offered_in o reply m
    by None there gone = there tt
    by (Some at) there gone = by_there (is_there at.0 m.instances) there gone

-- ---- the front that is read into

front_of : (n : ℕ) (xs : List ℕ) → n ≤ length xs → length (take n xs) ≡ n
front_of zero xs within = refl
front_of (suc n) [] within = absurd (omega (arith, within))
front_of (suc n) (x ∷ xs) within = ap suc (front_of n xs (omega (arith, within)))

pub front_long : (own all least : ℕ) (bytes buffer : List ℕ) → least ≡ min own all → all ≡ length buffer → length bytes ≡ length buffer → length (take least bytes) ≡ least
front_long own all least bytes buffer is same long = front_of least bytes (grind (arith, is, same, long))

pub front_room : (own all least : ℕ) (bytes buffer : List ℕ) → least ≡ min own all → all ≡ length buffer → length bytes ≡ length buffer → length (take least bytes) ≡ min own (length buffer)
front_room own all least bytes buffer is same long = front_long own all least bytes buffer is same long ∙ is ∙ ap (min own) same
