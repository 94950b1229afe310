-- What failed is on no day.
use Rattle.vetd.proofs.tcp_network.TcpNetworkNetwork.accept.Goals as goal

pub returns-in-Err-clause-on_day : goal.returns-in-Err-clause-on_day
returns-in-Err-clause-on_day g c = c.failed.ensures c.args.day
