use Rattle.std.proofs.Common.{◌≡◌, ◌∙◌, ◌+◌, ◌-◌, suc, ap, sym, arith, length}
use Rattle.log_text.specs.Forms.{size_bytes}
use Rattle.log_script.specs.Places.{placed_in}
use Rattle.log_script.proofs.PlaceLaws.{frame_size, goes_on, no_frame, stops}
use Rattle.tree_world.specs.OwnNames.{first_stranger, is_at_home}
use Rattle.tree_world.proofs.Strangers.{home_goes_on, none_strange, stranger_there}
use Rattle.tree_world.proofs.own_names.stranger_in.Goals as goal

pub returns-in-Err-Malformed : goal.returns-in-Err-Malformed
returns-in-Err-Malformed c =
    none_strange (is_at_home c.args.tree.now c.args.entry.now) c.loop-kind.boot _ _
    (stops c.args.form _ c.loop-kind.rest.now _ (sym c.in-Some.ensures)
    (c.in-Err-Malformed.ensures.err c.in-Err-Malformed.field-0-is))
    c.loop-kind.invariant.0

pub returns-in-None : goal.returns-in-None
returns-in-None c =
    stranger_there (is_at_home c.args.tree.now c.args.entry.now) c.loop-kind.boot _ _ _ c.in-Ok.read _
    (goes_on c.args.form _ c.loop-kind.rest.now _ c.in-Ok.read (sym c.in-Some.ensures) c.in-Ok.ensures.ok)
    c.in-None.ensures.none c.loop-kind.invariant.0

pub loop-kind-preserved : goal.loop-kind-preserved
loop-kind-preserved c =
    let size = frame_size c.args.form.format c.loop-kind.rest.now _ (sym c.in-Some.ensures) in
    let within = c.loop-kind.invariant.1 in
    let next : 5 + (length c.args.frames.now - length c.in-Some.behind.now)
    ≡ 5 + (length c.args.frames.now - length c.loop-kind.rest.now) + suc (size_bytes c.args.form.format)
    + length c.in-Some.payload.now =
    omega (arith, size, within) in (
      ap (λ at. first_stranger (is_at_home c.args.tree.now c.args.entry.now) c.in-Some-passed.next
          (placed_in c.args.form at 0 c.in-Some.behind.now)) next
          ∙ home_goes_on (is_at_home c.args.tree.now c.args.entry.now) c.loop-kind.boot
          c.in-Some-passed.next _ _ _
          c.in-Ok.read _
          (goes_on c.args.form _ c.loop-kind.rest.now _ c.in-Ok.read (sym c.in-Some.ensures)
          c.in-Ok.ensures.ok)
          c.in-Some-passed.ensures.some.0 c.in-Some-passed.ensures.some.1 c.loop-kind.invariant.0,
      omega (arith, size, within),
    )

pub returns : goal.returns
returns c =
    none_strange (is_at_home c.args.tree.now c.args.entry.now) c.loop-kind.boot _ _
    (no_frame c.args.form _ c.loop-kind.rest.now (sym c.in_default.ensures))
    c.loop-kind.invariant.0
