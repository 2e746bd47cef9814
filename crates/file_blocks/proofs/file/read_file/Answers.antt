use Rattle.std.proofs.Common.{◌∙◌, ◌++◌, refl, sym, ap, subst, ℕ, List, Option, inl, inr}
use Rattle.file_blocks.specs.Blocks.{first_block}
use Rattle.file_blocks.specs.Files.{Begun, IsDamaged}
use Rattle.file_blocks.proofs.Begun.{begun_all, begun_broken, begun_first, begun_more, begun_none, head_of_number}
use Rattle.file_blocks.proofs.file.read_file.Goals as goal

pub returns-in_default-first_block-clause-err : goal.returns-in_default-first_block-clause-err
returns-in_default-first_block-clause-err c _ =
    let head = head_of_number c.args.bytes.now c.in-Some.number (sym c.in-Some.ensures) in
    subst (λ (o : Option ℕ). IsDamaged c.args.bytes.now o) c.in-Some.ensures
    (inl (begun_none c.args.bytes.now c.in-Some.number head.1
    (ap (first_block c.in-Some.number 48) (sym c.split_at.ensures.back)
    ∙ sym c.in_default-first_block.ensures)))

pub loop-payload-init : goal.loop-payload-init
loop-payload-init c =
    let head = head_of_number c.args.bytes.now c.in-Some.number (sym c.in-Some.ensures) in
    let first = begun_first c.args.bytes.now c.in-Some.number c.in-Some-first_block.first.now
    c.in-Some-first_block.rest.now head.1
    (ap (first_block c.in-Some.number 48) (sym c.split_at.ensures.back) ∙ sym c.in-Some-first_block.ensures)
    in
    subst (λ (t : List ℕ). Begun c.args.bytes.now c.in-Some.number c.in-Some-first_block.rest.now t)
    (sym (c.in_ok-extend_from_slice.ensures.items
    ∙ ap (λ (t : List ℕ). t ++ c.in-Some-first_block.first.now) c.in_ok-held.ensures.items)) first

pub loop-payload-smaller : goal.loop-payload-smaller
loop-payload-smaller c =
    let more = begun_more c.args.bytes.now c.in-Some.number _ c.loop-payload.rest.now
    c.loop-payload.held.items
    c.in-Some-first_block-2.payload.now c.in-Some-first_block-2.after.now c.loop-payload.invariant refl
    (sym c.in-Some-first_block-2.ensures) in
    more.1

pub loop-payload-preserved : goal.loop-payload-preserved
loop-payload-preserved c =
    let more = begun_more c.args.bytes.now c.in-Some.number _ c.loop-payload.rest.now
    c.loop-payload.held.items
    c.in-Some-first_block-2.payload.now c.in-Some-first_block-2.after.now c.loop-payload.invariant refl
    (sym c.in-Some-first_block-2.ensures) in
    subst (λ (t : List ℕ). Begun c.args.bytes.now c.in-Some.number c.in-Some-first_block-2.after.now t)
    (sym c.in_ok-extend_from_slice-2.ensures.items) more.0

pub returns-then-is_damaged-clause-err : goal.returns-then-is_damaged-clause-err
returns-then-is_damaged-clause-err c _ =
    subst (λ (o : Option ℕ). IsDamaged c.args.bytes.now o) c.in-Some.ensures
    (inr (begun_broken c.args.bytes.now c.in-Some.number _ c.loop-payload.rest.now c.loop-payload.held.items
    c.loop-payload.invariant refl (sym c.in_default-first_block-2.ensures)
    (sym c.is_damaged.ensures ∙ c.if-is_damaged.true)))

pub returns-clause-ok : goal.returns-clause-ok
returns-clause-ok c =
    begun_all c.args.bytes.now c.in-Some.number _ c.loop-payload.rest.now c.loop-payload.held.items
    c.loop-payload.invariant refl (sym c.in_default-first_block-2.ensures)
    (sym c.is_damaged.ensures ∙ c.if-is_damaged.false)
