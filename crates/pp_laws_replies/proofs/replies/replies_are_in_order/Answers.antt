use Rattle.pp_laws_replies.proofs.StoryHappenings.{replies_in_order}
use Rattle.pp_laws_replies.proofs.replies.replies_are_in_order.Goals as goal

pub returns : goal.returns
returns c = record { order = replies_in_order }
