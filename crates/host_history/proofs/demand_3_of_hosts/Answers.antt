-- `demand_3_of_hosts` holds: it is proved in `SentLaws.antt`.
use Rattle.host_history.proofs.SentLaws.{demand_3_of_hosts}
use Rattle.host_history.proofs.demand_3_of_hosts.Goals as goal

pub returns : goal.returns
returns c = demand_3_of_hosts
