use Rattle.log_records.specs.Sights.{records_of}
use Rattle.kv_manager.proofs.InOrder.{in_order}
use Rattle.kv_manager.proofs.resource.KvManagerResourceManager.records_are_in_order.Goals as goal

pub returns : goal.returns
returns g c = in_order (records_of c.args.self.now.log.sight.kept) c.records_are_in_order.ensures
