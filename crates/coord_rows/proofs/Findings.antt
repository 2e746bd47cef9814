-- The tickets that findings report, one finding after the other.
use Rattle.std.proofs.Common.{◌≡◌, List, [], ◌∷◌, filter_map, refl, ap}
use Rattle.protocol.specs.declared.messages.Finding.{Finding}
use Rattle.protocol.specs.declared.messages.Finding.TheVariants.{Mixed, Unreported}
use Rattle.protocol.specs.Records.{mixed_of, unreported_of}
use Rattle.coord_rows.specs.Findings.{mixed_ticket, unreported_ticket}

pub mixed_are : (fs : List Finding) → filter_map mixed_ticket fs ≡ mixed_of fs
unfolding mixed_of
mixed_are [] = refl
mixed_are (Mixed t ∷ fs) = ap (λ ts. t ∷ ts) (mixed_are fs)
mixed_are (Unreported t ∷ fs) = mixed_are fs

pub unreported_are : (fs : List Finding) → filter_map unreported_ticket fs ≡ unreported_of fs
unfolding unreported_of
unreported_are [] = refl
unreported_are (Mixed t ∷ fs) = unreported_are fs
unreported_are (Unreported t ∷ fs) = ap (λ ts. t ∷ ts) (unreported_are fs)
