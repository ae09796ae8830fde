-- What is read or written where it is permitted is owed.
use Rattle.std.proofs.Common.{◌≡◌, refl, ℕ, ◌<◌, Bool, true, false, ◌&&◌, ◌||◌, is_some, Option, Some, None}
use Rattle.pp_world.specs.declared.happening.Happening.TheVariants.{Opened, Heard, HungUp, Said, Ended, Asked, Got, Noted}
use Rattle.pp_world.specs.declared.note.Remark.TheVariants.{Cut}
use Rattle.pp_law.specs.Connections.{client}
use Rattle.pp_law.specs.Lists.{Bytes, is_some_with}
use Rattle.pp_law.specs.Permits.{IsPermitted, has_conn, is_new_number, is_owed, is_permitted, is_said_of, may_cut, may_open, permits, permits_said}
use Rattle.pp_law.specs.Phases.{come_to_decide, decides, is_awaiting, may_decide}
use Rattle.pp_law.specs.Served.{accepts}
use Rattle.pp_law.specs.State.{State}
use Rattle.pp_laws.proofs.Tests.{below, first_holds, second_holds}
use Rattle.pp_laws_turn.proofs.Happenings.{gate}
use Rattle.pp_world.specs.declared.note.Cause.{Cause}
use Rattle.pp_law.specs.Asking.{asking, fits_heard, is_front, is_read, is_reading, is_writing, left_to_ask, permits_asked, permits_got, permits_heard, read_limit, read_room}
use Rattle.pp_law.specs.Offers.{offer}

-- ---- what is permitted

-- nothing but a decision comes behind a row that left memory for one
unhampered : (made : Option ℕ) (t : Bool) → (elim made as (λ x. Bool) [ Some who ↦ false | None ↦ t ]) ≡ true → t ≡ true
unhampered (Some who) t is = absurd (cc is)
unhampered None t is = is

some_owed : (a b : Bool) → a ≡ true → (a || b) ≡ true
some_owed true b is = refl
some_owed false b is = absurd (cc is)

other_owed : (a b : Bool) → b ≡ true → (a || b) ≡ true
other_owed true b is = refl
other_owed false b is = is

first3 : (a b c : Bool) → (a && b && c) ≡ true → a ≡ true
first3 true b c is = refl
first3 false true c is = absurd (cc is)
first3 false false c is = absurd (cc is)

pub opened_above : (s : State) (n : ℕ) → IsPermitted s (Opened n) → s.top < n
unfolding is_permitted permits
opened_above s n is = below s.top n (first_holds (is_new_number s n) (accepts s) (second_holds (is_awaiting s) (may_open s n) (unhampered s.made_room_for (is_awaiting s && may_open s n) is)))

pub heard_owed : (s : State) (c : ℕ) (bytes : Bytes) → IsPermitted s (Heard c bytes) → is_owed s c ≡ true
unfolding is_permitted permits
heard_owed s c bytes is =
    some_owed (is_reading s.owed c) (is_writing s.owed c) (first3 (is_reading s.owed c) (is_read read_limit bytes) (is_some_with (fits_heard bytes) (client s c)) (unhampered s.made_room_for (permits_heard s c bytes) is))

pub hung_owed : (s : State) (c : ℕ) → IsPermitted s (HungUp c) → is_owed s c ≡ true
unfolding is_permitted permits
hung_owed s c is = first_holds (is_owed s c) (is_some (client s c)) (unhampered s.made_room_for (is_owed s c && is_some (client s c)) is)

pub said_owed : (s : State) (c offered : ℕ) (bytes : Bytes) → IsPermitted s (Said c offered bytes) → is_owed s c ≡ true
unfolding is_permitted permits
said_owed s c offered bytes is =
    other_owed (is_reading s.owed c) (is_writing s.owed c) (first_holds (is_writing s.owed c) (is_some_with (λ x. is_said_of offered bytes (offer s x)) (client s c)) (unhampered s.made_room_for (permits_said s c offered bytes) is))

pub ended_owed : (s : State) (k : ℕ) → IsPermitted s (Ended k) → is_owed s k ≡ true
unfolding is_permitted permits
ended_owed s k is = some_owed (is_reading s.owed k) (is_writing s.owed k) (first_holds (is_reading s.owed k) (has_conn s k) (unhampered s.made_room_for (is_reading s.owed k && has_conn s k) is))

pub asked_owed : (s : State) (k : ℕ) (bytes : Bytes) → IsPermitted s (Asked k bytes) → is_owed s k ≡ true
unfolding is_permitted permits
asked_owed s k bytes is =
    other_owed (is_reading s.owed k) (is_writing s.owed k) (first_holds (is_writing s.owed k) (is_some_with (λ e. is_front bytes (left_to_ask s e)) (asking s k)) (unhampered s.made_room_for (permits_asked s k bytes) is))

pub got_owed : (s : State) (k : ℕ) (bytes : Bytes) → IsPermitted s (Got k bytes) → is_owed s k ≡ true
unfolding is_permitted permits
got_owed s k bytes is = some_owed (is_reading s.owed k) (is_writing s.owed k) (first_holds (is_reading s.owed k) (is_read (read_room s k) bytes) (unhampered s.made_room_for (permits_got s k bytes) is))

pub cut_decides : (s : State) (c : ℕ) (cause : Cause) → IsPermitted s (Noted (Cut c cause)) → decides (come_to_decide s) ≡ true
unfolding is_permitted permits
cut_decides s c cause is = (gate (decides (come_to_decide s)) (may_cut (come_to_decide s) c cause) (unhampered s.made_room_for (may_decide (λ t. may_cut t c cause) s) is)).0
