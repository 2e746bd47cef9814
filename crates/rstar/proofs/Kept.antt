-- The log of a process reads as what the process keeps.
use Rattle.std.proofs.Common.{◌≡◌, ◌∙◌, ◌++◌, sym, ap}
use Rattle.std.proofs.lemmas.List.{map-append}
use Rattle.protocol.specs.LogNames.{in_log, own_records, parent_of}
use Rattle.protocol.specs.Nodes.{Node, kept}
use Rattle.protocol.proofs.LogNameLaws.{reads_back}
use Rattle.log_records.specs.Sights.{records_of}
use Rattle.process_state.specs.States.{CoreState}
use Rattle.tree_state.specs.Fits.{KeepsOwn}
use Rattle.tree_state.specs.StandsFor.{StandsFor}

-- what a process reads of its records are what the model's process keeps
pub own_kept : (n : Node) (s : CoreState) → StandsFor n s → KeepsOwn s.place n
    → own_records s.place (records_of s.log.kept) ≡ kept n
own_kept n s stands own =
    ap (own_records s.place)
    ((λ i. stands.forced i ++ stands.unforced i)
    ∙ sym (map-append (in_log (parent_of s.place.role)) n.forced n.unforced))
    ∙ reads_back s.place (kept n) own
