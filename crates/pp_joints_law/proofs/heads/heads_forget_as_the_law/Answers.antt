use Rattle.pp_joints_law.proofs.NotedRoom.{filling_heads_forget, own_heads_forget}
use Rattle.pp_joints_law.proofs.heads.heads_forget_as_the_law.Goals as goal

pub returns : goal.returns
returns c = record { own = own_heads_forget; filling = filling_heads_forget }
