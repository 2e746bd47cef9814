use Rattle.proof_failures.proofs.Traces.{applied, failed, headline, led, led_failed, led_until, opened, refused, stopped}
use Rattle.proof_failures.proofs.law.traces_are_runs.Goals as goal

pub returns-clause-opened : goal.returns-clause-opened
returns-clause-opened c = opened

pub returns-clause-applied : goal.returns-clause-applied
returns-clause-applied c = applied

pub returns-clause-stopped : goal.returns-clause-stopped
returns-clause-stopped c = stopped

pub returns-clause-failed : goal.returns-clause-failed
returns-clause-failed c = failed

pub returns-clause-led : goal.returns-clause-led
returns-clause-led c = led

pub returns-clause-led_until : goal.returns-clause-led_until
returns-clause-led_until c = led_until

pub returns-clause-led_failed : goal.returns-clause-led_failed
returns-clause-led_failed c = led_failed

pub returns-clause-refused : goal.returns-clause-refused
returns-clause-refused c = refused

pub returns-clause-headline : goal.returns-clause-headline
returns-clause-headline c = headline
