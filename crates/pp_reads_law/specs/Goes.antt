-- Who is answered, and is not to be closed behind that, can go on to the next request (RFC 2616, section 8.1).
--
-- Where it comes from: a client is not to be closed where the request says so that it is answered from (`keeps_open`: as a reply begins, `Begun`
-- in proofs/Stories of pp_laws_replies), so that its request is there with a known end; requests are counted, 256 a happening at most
-- (`pp_laws_sides`).
use Rattle.std.specs.Prelude.{◌≡◌, ◌≤◌, ◌+◌, ◌-◌, ◌^◌, true, false, is_ok}
use Rattle.pp_law.specs.Requests.{Parsed, IsRequest}
use Rattle.pp_law.specs.Stages.{is_begun}
use Rattle.pp_law.specs.State.{State, Client}
use Rattle.pp_laws.specs.Runs.{IsIn}

pub record GoesOnTo (c : Client) : Type 0 where
  pub request : Parsed
  pub front : c.front ≡ IsRequest request
  pub known : is_ok request.rule ≡ true
  pub counted : c.index + 1 ≤ 2 ^ 64 - 1

abbrev pub AllGoOn : State → Type 0
AllGoOn s = (c : Client) → IsIn c s.clients → c.is_closing ≡ false → is_begun c ≡ true → c.closes ≡ false → GoesOnTo c
