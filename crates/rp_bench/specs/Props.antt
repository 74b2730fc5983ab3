-- What is kept of the nodes is one fact: a ghost field may say it (this project).
use Rattle.std.specs.Prelude.{List}
use Rattle.std.specs.Coded.{codes, Coded-set}
use Rattle.rp_base.specs.Tables.{table_code}
use Rattle.rp_request.specs.Applied.{AppliedState}
use Rattle.rp_raftstep.specs.declared.messages.Message.{Message}
use Rattle.rp_switch.specs.Views.{Knowledge}
use Rattle.rp_bench.specs.declared.stations.Station.{Station}
use Rattle.rp_bench.specs.Stations.{IsAtWork}

message_set : IsSet (Message AppliedState)
message_set = Coded-set (Prim.hlevel (codes, table_code))

pub at_work_prop : (v : Knowledge) (stations : List Station) → IsProp (IsAtWork v stations)
at_work_prop v stations = Prim.hlevel (message_set, codes, table_code)
