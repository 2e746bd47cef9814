use Rattle.proof_headline.proofs.runs.NetsHold.{nets_hold}
use Rattle.proof_headline.proofs.runs.law.messages_go_where_they_belong.Goals as goal

pub returns : goal.returns
returns c = λ tree es w run. let h = nets_hold tree es w run in (h.go, h.about_given)
