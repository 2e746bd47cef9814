use Rattle.std.proofs.Common.{◌≡◌, ◌∷◌, map, take}
use Rattle.protocol_words.specs.kind
use Rattle.protocol_words.specs.record_of
use Rattle.protocol.specs.Store.{pair_record}
use Rattle.log_text.specs.Made.{frame_record}
use Rattle.log_records.specs.Sights.{AreRecords}
use Rattle.protocol.specs.LogNames.{unnamed}
use Rattle.kv_state.proofs.frames.base_frames.Given as goal

abbrev pub invariant-loop-key : goal.invariant-loop-key
invariant-loop-key l =
    (map frame_record l.frames.items
    ≡ unnamed (record_of.Base l.fn.count) ∷ map (λ p. unnamed (pair_record p)) (take l.key-index l.fn.pairs))
    × AreRecords kind.Manager (map frame_record l.frames.items)
