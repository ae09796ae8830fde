-- What goes alone and is not answered yet: what it says.
use Rattle.std.proofs.Common.{◌≡◌, refl, Bool, true, false, ◌&&◌}
use Rattle.pp_law.specs.Requests.{goes_alone}
use Rattle.pp_law.specs.Stages.{is_pending, is_through}
use Rattle.pp_law.specs.State.{Exchange}
use Rattle.pp_laws.proofs.Tests.{first_holds, second_holds}
use Rattle.pp_comes_law.specs.Lone.{is_lone}

pub alone_of : (e : Exchange) → is_lone e ≡ true → goes_alone e.head ≡ true
alone_of e lone = first_holds (goes_alone e.head) (is_through e && is_pending e.body) lone

pub through_of : (e : Exchange) → is_lone e ≡ true → is_through e ≡ true
through_of e lone = first_holds (is_through e) (is_pending e.body) (second_holds (goes_alone e.head) (is_through e && is_pending e.body) lone)

pub pending_of : (e : Exchange) → is_lone e ≡ true → is_pending e.body ≡ true
pending_of e lone = second_holds (is_through e) (is_pending e.body) (second_holds (goes_alone e.head) (is_through e && is_pending e.body) lone)

pub lone_by : (e : Exchange) → goes_alone e.head ≡ true → is_through e ≡ true → is_pending e.body ≡ true → is_lone e ≡ true
lone_by e alone through pending = by (goes_alone e.head) (is_through e) (is_pending e.body) alone through pending
  where
    by : (a b c : Bool) → a ≡ true → b ≡ true → c ≡ true → (a && (b && c)) ≡ true
    by true true true x y z = refl
    by true true false x y z = z
    by true false c x y z = y
    by false b c x y z = x
