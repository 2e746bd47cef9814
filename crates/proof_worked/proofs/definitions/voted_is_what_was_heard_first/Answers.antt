use Rattle.protocol.specs.Nodes.{place_of}
use Rattle.protocol.specs.World.{made_by}
use Rattle.proof_worked.proofs.VotesHeard.{first_is_heard, tells_so}
use Rattle.proof_worked.proofs.definitions.voted_is_what_was_heard_first.Goals as goal

pub returns : goal.returns
returns c = record {
  voted = λ tree es w run p i c t v.
      let s = tells_so tree c t es w run p i in
      (λ f. s.first v (s.once v f), λ f. first_is_heard c t (w.at p).voted v (s.back v f));
  first = λ tree es w run p i c t v. let s = tells_so tree c t es w run p i in (s.first v, s.back v);
}
