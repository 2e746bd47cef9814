use Rattle.node_lines.proofs.FindingLaws.{none_there, some_there, some_within}
use Rattle.node_lines.proofs.findings.mixed_words.Goals as goal

pub returns-in-None-clause-place : goal.returns-in-None-clause-place
returns-in-None-clause-place c = none_there c.args.words.now c.in-None.ensures

pub returns-in-Some-clause-place : goal.returns-in-Some-clause-place
returns-in-Some-clause-place c = some_there c.args.words.now c.in-Some.at c.in-Some.ensures

pub returns-in-Some-clause-within : goal.returns-in-Some-clause-within
returns-in-Some-clause-within c = some_within c.args.words.now c.in-Some.at c.in-Some.ensures
