use Rattle.proof_pairs.proofs.law.wrong_moves.Goals as goal
use Rattle.proof_pairs.proofs.WrongMoves

pub returns : goal.returns
returns c = record { breaks = WrongMoves.wrong_moves }
