-- What changes the instances of the cache changes the table of the law alike.
use Rattle.std.specs.Prelude.{◌≡◌, ℕ, ◌+◌, true, ◌==◌, cond, count_by, List, Some}
use Rattle.pp_fresh.specs.declared.aging.Times.{Times}
use Rattle.pp_head.specs.Response.{Response}
use Rattle.pp_holes.specs.Places.{without_owner}
use Rattle.pp_law.specs.OwnHeads.{renew}
use Rattle.pp_law.specs.State.{Client, Instance as Known}
use Rattle.pp_law.specs.Table.{follows, forget, instance, mark_row}
use Rattle.pp_objects.specs.Changes.{changed_in, followed, marked, refreshed, without_slot}
use Rattle.pp_objects.specs.Instances.{is_there}
use Rattle.pp_objects.specs.declared.id.ObjectId.{ObjectId}
use Rattle.pp_cache_law.specs.Tables.{OfCaches, ShowsCache}

-- an instance that is there is the most recently used
abbrev pub MarksAreTheLaws : Type 0
MarksAreTheLaws = OfCaches (λ number m s. (id : ObjectId) → is_there id m.instances ≡ true
    → ShowsCache number (record m { instances = marked id.slot m.instances }) (mark_row (number id.life) s))

-- a later response of its version renews what it says anew
abbrev pub RenewalsAreTheLaws : Type 0
RenewalsAreTheLaws = OfCaches (λ number m s. (id : ObjectId) (x : Known) (head : Response) (times : Times) → is_there id m.instances ≡ true → instance s (number id.life) ≡ Some x
    → ShowsCache number (record m { instances = marked id.slot (changed_in id.slot (refreshed head.fields times) m.instances) }) (renew x head times s))

-- one that nobody follows leaves memory with its chunks
abbrev pub ForgettingsAreTheLaws : Type 0
ForgettingsAreTheLaws = OfCaches (λ number m s. (id : ObjectId) → is_there id m.instances ≡ true
    → ShowsCache number (record m { instances = without_slot id.slot m.instances; chunks = without_owner id.slot m.chunks }) (forget (number id.life) s))

-- one client more follows that instance, and no other
abbrev pub IsFollowedToo : ℕ → List Client → List Client → Type 0
IsFollowedToo n cs ds = (k : ℕ) → count_by (follows k) ds ≡ count_by (follows k) cs + cond (k == n) 1 0

abbrev pub FollowingsAreTheLaws : Type 0
FollowingsAreTheLaws = OfCaches (λ number m s. (id : ObjectId) (cs : List Client) → is_there id m.instances ≡ true → IsFollowedToo (number id.life) s.clients cs
    → ShowsCache number (record m { instances = changed_in id.slot followed m.instances }) (record s { clients = cs }))
