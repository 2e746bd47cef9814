use Rattle.std.proofs.Common.{rules}
use Rattle.kv_state.proofs.Spelt.{pair_fits}
use Rattle.kv_state.proofs.frames.pair.Goals as goal

pub new-requires : goal.new-requires
new-requires c = pair_fits _ _ _ _ c.requires (search rules) (search rules)
