use Rattle.protocol.specs.declared.names.Kind.TheVariants.{Manager}
use Rattle.log_rules.specs.sound.Sound.{IsSound}
use Rattle.protocol.specs.Store.{pair_record}
use Rattle.log_text.specs.Made.{frame_record}
use Rattle.protocol.specs.LogNames.{unnamed}
use Rattle.kv_state.proofs.Spelt.{begun, each_at, followed}
use Rattle.kv_state.proofs.frames.base_frames.Goals as goal

pub loop-key-init : goal.loop-key-init
loop-key-init c =
    begun frame_record _ _ c.in_ok-base.field-0 _ c.in_ok-push.ensures.items
    c.new-frames.ensures.items c.in_ok-base.ensures
    c.requires.base

pub loop-key-preserved : goal.loop-key-preserved
loop-key-preserved c =
    followed frame_record (λ p. unnamed (pair_record p)) _ _ c.in_ok-pair.field-0 _ c.args.pairs.now
    c.loop-key.key-index c.loop-key-item.result
    c.in_ok-push-2.ensures.items c.in_ok-pair.ensures
    (each_at (λ p. IsSound Manager (unnamed (pair_record p))) c.args.pairs.now c.loop-key.key-index
    c.loop-key-item.result c.requires.pairs c.loop-key-test.true c.loop-key-item.is) c.loop-key-test.true
    c.loop-key-item.is c.loop-key.invariant
