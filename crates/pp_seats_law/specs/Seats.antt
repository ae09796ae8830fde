-- How a seat stands for a client of the law.
use Rattle.std.specs.Prelude.{◌≡◌, ℕ, ◌+◌, false, List, length, Option, Some, None, option_map}
use Rattle.pp_law.specs.Lists.{Bytes}
use Rattle.pp_law.specs.Stages.{reply_of}
use Rattle.pp_law.specs.State.{Client, Reply}
use Rattle.pp_seats.specs.declared.seat.Seat.{Seat}
use Rattle.pp_seats_law.specs.Fronts.{ShowsBody, ShowsFront, ShowsHeard, has_no_end, is_over}
use Rattle.pp_seats_law.specs.Replies.{IsBroughtFor, IsPipedFor, ShowsFate, ShowsInterim, ShowsStage, shared_of}

-- what of its reply is said before the body
abbrev pub head_left : Option Reply → ℕ
head_left None = 0
head_left (Some r) = length r.head_left

-- one whose cause to be closed has not come. That it was opened in this turn is no part of it, but of the turn, and that it was
-- cut is told by the log alone
pub record ShowsOpen (number : ℕ → ℕ) (name : Bytes) (owed : List Bytes) (seat : Seat) (c : Client) : Type 0 where
  pub hung_up : seat.has_hung_up ≡ c.has_hung_up
  pub mark : seat.client.mark ≡ c.mark
  pub heard : ShowsHeard seat.client.heard c.front c.heard
  pub body : ShowsBody seat.client.heard.body c.body_left c.skip
  pub over : is_over seat.client.heard.body ≡ has_no_end c.front
  pub front : ShowsFront seat.front c.front
  pub body_left : seat.body_left ≡ c.body_left
  pub index : seat.index ≡ c.index
  pub stage : ShowsStage number seat.client.reply seat.stage c.stage
  pub waits_on : option_map shared_of seat.waits_on ≡ c.waits_on
  pub fate : ShowsFate number name owed seat.client.reply seat.course seat.brought c
  pub asked : IsBroughtFor c.front seat.brought
  pub piped : IsPipedFor seat.client.reply.stage seat.brought
  pub given_up : seat.has_given_up ≡ c.has_given_up
  pub interim : ShowsInterim seat.client.reply.interim c.interim_left
  pub before_body : seat.before_body ≡ length c.interim_left + head_left (reply_of c)
  pub closes : seat.closes ≡ c.closes

-- by the law's numbers of lives, the name of the proxy, and the keys of rows whose leaving is not noted yet. Of one that is closing
-- nothing more is read
pub record ShowsSeat (numbers : ℕ → ℕ) (name : Bytes) (owed : List Bytes) (seat : Seat) (c : Client) : Type 0 where
  pub number : seat.client.id ≡ c.number
  pub closing : seat.is_closing ≡ c.is_closing
  pub going : c.is_closing ≡ false → ShowsOpen numbers name owed seat c
