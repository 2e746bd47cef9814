use Rattle.std.proofs.Common.{refl}
use Rattle.proof_reopened.proofs.Events.{applied_on, leads_on, leads_until_on, stopped_on}
use Rattle.proof_reopened.proofs.Lives.{life_steps}
use Rattle.proof_reopened.proofs.law.reopened_runs_go_on.Goals as goal

pub returns : goal.returns
returns c = record {
  applied = λ o s t event es w is_tree f made.
      (applied_on o s.tree is_tree s t event es w refl f made).goes_on_so;
  stopped = λ o s t event e es w is_tree f made.
      (stopped_on o s.tree is_tree s t event e es w refl f made).goes_on_so;
  led = λ o s t events es w is_tree f made.
      (leads_on o s.tree is_tree s t events es w refl f made).goes_on_so;
  led_until = λ o s t events n e es w is_tree f made.
      (leads_until_on o s.tree is_tree s t events n e es w refl f made).goes_on_so;
  lives = life_steps;
}
