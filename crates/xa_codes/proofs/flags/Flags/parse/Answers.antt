use Rattle.std.proofs.Common.{sym, lit<}
use Rattle.std.proofs.lemmas.List.{length_push}
use Rattle.std.proofs.lemmas.Iterator.Splits.{YieldsList-from_str_split}
use Rattle.std.proofs.lemmas.Iterator.Consumers.{YieldsList-turn, YieldsList-end}
use Rattle.xa_codes.proofs.Names.{found, unnamed, goes_on, stops, ends}
use Rattle.xa_codes.proofs.flags.Flags.parse.Goals as goal

pub returns-in_err-flags-clause-none : goal.returns-in_err-flags-clause-none
returns-in_err-flags-clause-none c =
    let t = YieldsList-turn (YieldsList-from_str_split {s = c.into_iter-name-iterator.result} 43
    c.args.text.now (lit< tt) (cc) (cc) (cc)) c.loop-name.yielded _ c.loop-name.yielded_by _ _
    c.in-Some.name c.in-Some.is c.next.ensures.steps in
    rw c.from_residual.ensures (λ bits h. unnamed c.args.text.now bits
    (stops _ c.args.text.now _ _ _ t (sym c.in_err-flags.ensures) c.loop-name.invariant) h)

pub loop-name-preserved : goal.loop-name-preserved
loop-name-preserved c =
    let t = YieldsList-turn (YieldsList-from_str_split {s = c.into_iter-name-iterator.result} 43
    c.args.text.now (lit< tt) (cc) (cc) (cc)) c.loop-name.yielded _ c.loop-name.yielded_by _ _
    c.in-Some.name c.in-Some.is c.next.ensures.steps in
    rw length_push (goes_on _ _ c.args.text.now _ _ _ t (sym c.in_ok-flags.ensures) c.loop-name.invariant)

pub returns : goal.returns
returns c =
    let t = YieldsList-end (YieldsList-from_str_split {s = c.into_iter-name-iterator.result} 43
    c.args.text.now (lit< tt) (cc) (cc) (cc)) c.loop-name.yielded _ c.loop-name.yielded_by _ _
    c.in-None.is c.next.ensures.steps in
    record {
      found = found c.args.text.now c.loop-name.flags.0
          (ends c.loop-name.flags.0 c.args.text.now _ _ t.1 c.loop-name.invariant);
      none = tt;
    }
