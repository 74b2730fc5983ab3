use Rattle.rp_racelines.proofs.Scripted.{few_clients, few_commands, of_world}
use Rattle.rp_racelines.proofs.laws.the_rules_of_a_script_fit.Goals as goal

pub returns-clause-world : goal.returns-clause-world
returns-clause-world c = of_world

pub returns-clause-clients : goal.returns-clause-clients
returns-clause-clients c loss salt ls script = few_clients ls script

pub returns-clause-commands : goal.returns-clause-commands
returns-clause-commands c = few_commands
