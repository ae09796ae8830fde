-- How a reply is kept.
use Rattle.std.specs.Prelude.{◌≤◌, ⊤}
use Rattle.pp_client.specs.declared.reply.Reply.TheInside.{Inside}
use Rattle.pp_client.specs.declared.reply.Stage.{Stage}
use Rattle.pp_client.specs.declared.reply.Stage.TheVariants.{Due, Begun}
use Rattle.pp_client.specs.Replies.{Reply, IsBeginning, interim_left}

abbrev pub reply_as : Inside → Reply
reply_as r = record { interim = r.interim; stage = r.stage; text = r.text; pipe = r.pass }

abbrev pub IsOrdered : Stage → Type 0
IsOrdered Due = ⊤
IsOrdered (Begun reply) = IsBeginning reply

pub record IsSound (r : Inside) : Type 0 where
  pub interim : interim_left r.interim ≤ 25
  pub ordered : IsOrdered r.stage
