-- `plan::stages::plan_network` meets its contract: Read refuses, or Cut goes on with its network.
use Rattle.definitions.specs.Program.{printed}
use Rattle.program.specs.ReadStage.{fits-as, put_as, loaded-refused, loaded-network}
use Rattle.plan.proofs.stages.plan_network.Goals as goal

pub plan_accepted-requires : goal.plan_accepted-requires
plan_accepted-requires c = fits-as _ _ _ _ (loaded-network _ _ _ c.in-Ok.ensures) c.requires

pub put_refusal-requires : goal.put_refusal-requires
unfolding printed
put_refusal-requires c = fits-as _ _ _ _ (loaded-refused _ _ _ c.in-Err.ensures) c.requires

pub returns-in-Ok : goal.returns-in-Ok
returns-in-Ok c = put_as _ _ _ _ _ _ (loaded-network _ _ _ c.in-Ok.ensures) c.plan_accepted.ensures

pub returns-in-Err : goal.returns-in-Err
unfolding printed
returns-in-Err c = put_as _ _ _ _ _ _ (loaded-refused _ _ _ c.in-Err.ensures) c.put_refusal.ensures
