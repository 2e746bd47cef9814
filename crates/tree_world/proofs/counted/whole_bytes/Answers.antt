use Rattle.tree_world.proofs.Counts.{sound_fit}
use Rattle.tree_world.proofs.counted.whole_bytes.Goals as goal

pub push_records-requires-clause-fit : goal.push_records-requires-clause-fit
push_records-requires-clause-fit g c =
    rw (c.deref.ensures.value, c.in_ok-records.ensures) (sound_fit _ _ c.records_are_sound.ensures)
