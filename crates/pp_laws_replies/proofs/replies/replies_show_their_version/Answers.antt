use Rattle.pp_laws_replies.proofs.StoryShown.{replies_show}
use Rattle.pp_laws_replies.proofs.replies.replies_show_their_version.Goals as goal

pub returns : goal.returns
returns c = record { shows = replies_show }
