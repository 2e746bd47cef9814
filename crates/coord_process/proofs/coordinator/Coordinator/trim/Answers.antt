use Rattle.std.proofs.Common.{◌∙◌, ap, sym}
use Rattle.coord_process.proofs.Restarted.{no_own_data}
use Rattle.coord_process.proofs.coordinator.Coordinator.trim.Goals as goal

pub trim_again-requires-clause-coordinators : goal.trim_again-requires-clause-coordinators
trim_again-requires-clause-coordinators g c = ap (λ f. f.kind) c.self.invariant.0.form

pub invariant_of-self : goal.invariant_of-self
invariant_of-self g c = (
  record {
    form = c.trim_again.ensures.form ∙ c.self.invariant.0.form;
    active = c.self.invariant.0.active;
    known = c.self.invariant.0.known;
    given = c.self.invariant.0.given;
  },
  tt,
)

pub trim-requires-clause-own : goal.trim-requires-clause-own
trim-requires-clause-own g c = sym (no_own_data c.self.inside.log.sight
    (ap (λ f. f.kind) c.self.invariant.0.form))

pub invariant_of-self-2 : goal.invariant_of-self-2
invariant_of-self-2 g c = (
  record {
    form = c.trim.ensures.form ∙ c.self.invariant.0.form;
    active = c.self.invariant.0.active;
    known = c.self.invariant.0.known;
    given = c.self.invariant.0.given;
  },
  tt,
)
