use Rattle.std.proofs.Common.{refl}
use Rattle.proof_runs.specs.worlds.Follows.{entered_of}
use Rattle.proof_runs.proofs.worlds.Events.{applied_on, leads_on, leads_until_on, stopped_on}
use Rattle.proof_runs.proofs.worlds.Journals.{entered_follows, entered_hides, entered_shows, opened_behind_faults}
use Rattle.proof_runs.proofs.worlds.Processes.{as_the_model}
use Rattle.proof_runs.proofs.worlds.Whole.{modelled_behind_faults}
use Rattle.proof_runs.proofs.worlds.law.runs_go_on_behind_faults.Goals as goal

pub returns-clause-opened : goal.returns-clause-opened
returns-clause-opened c = opened_behind_faults

pub returns-clause-followed : goal.returns-clause-followed
returns-clause-followed c = entered_follows

pub returns-clause-applied : goal.returns-clause-applied
returns-clause-applied c = λ s t event es w is_tree f made.
    (applied_on entered_of entered_shows as_the_model s.tree is_tree s t event es w refl f made).goes_on_so

pub returns-clause-stopped : goal.returns-clause-stopped
returns-clause-stopped c = λ s t event e es w is_tree f made.
    (stopped_on entered_of entered_shows as_the_model s.tree is_tree s t event e es w
    (λ failed. entered_hides) refl f made).goes_on_so

pub returns-clause-led : goal.returns-clause-led
returns-clause-led c = λ s t events es w is_tree f made.
    (leads_on entered_of entered_shows as_the_model s.tree is_tree s t events es w refl f made).goes_on_so

pub returns-clause-led_until : goal.returns-clause-led_until
returns-clause-led_until c = λ s t events n e es w is_tree f made.
    (leads_until_on entered_of entered_shows as_the_model s.tree is_tree s t events n e es w
    (λ failed. entered_hides) refl f made).goes_on_so

pub returns-clause-headline : goal.returns-clause-headline
returns-clause-headline c = modelled_behind_faults
