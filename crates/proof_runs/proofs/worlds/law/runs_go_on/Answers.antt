use Rattle.std.proofs.Common.{refl}
use Rattle.protocol.specs.World.{journal_of}
use Rattle.proof_runs.proofs.worlds.Events.{applied_on, leads_on, leads_until_on, stopped_on}
use Rattle.proof_runs.proofs.worlds.Journals.{by_whole, whole_goes_on, whole_shows}
use Rattle.proof_runs.proofs.worlds.Processes.{as_the_model}
use Rattle.proof_runs.proofs.worlds.law.runs_go_on.Goals as goal

pub returns-clause-applied : goal.returns-clause-applied
returns-clause-applied c = λ s t event es w is_tree f made. whole_goes_on es w t
    (applied_on journal_of whole_shows as_the_model s.tree is_tree s t event es w refl
    (by_whole es w s f) made).goes_on_so

pub returns-clause-stopped : goal.returns-clause-stopped
returns-clause-stopped c = λ s t event e es w is_tree works f made. whole_goes_on es w t
    (stopped_on journal_of whole_shows as_the_model s.tree is_tree s t event e es w
    (λ failed. absurd (works failed)) refl (by_whole es w s f) made).goes_on_so

pub returns-clause-led : goal.returns-clause-led
returns-clause-led c = λ s t events es w is_tree f made. whole_goes_on es w t
    (leads_on journal_of whole_shows as_the_model s.tree is_tree s t events es w refl
    (by_whole es w s f) made).goes_on_so

pub returns-clause-led_until : goal.returns-clause-led_until
returns-clause-led_until c = λ s t events n e es w is_tree works f made. whole_goes_on es w t
    (leads_until_on journal_of whole_shows as_the_model s.tree is_tree s t events n e es w
    (λ failed. absurd (works failed)) refl (by_whole es w s f) made).goes_on_so
