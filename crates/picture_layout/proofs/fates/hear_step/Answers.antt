use Rattle.std.proofs.Common.{◌≡◌, ◌∙◌, ap, sym, subst, arith, rules, List, ◌∷◌, ◌++◌, [], drop, length, take}
use Rattle.std.proofs.lemmas.List.{length-map}
use Rattle.picture_layout.specs.declared.fates.Fate.{Fate}
use Rattle.std.specs.Prelude.{◌-◌, false, get_or, set, true}
use Rattle.picture_layout.specs.Fates.{HeardFrom, heard_at, no_fate}
use Rattle.picture_layout.specs.Whole.{is_known}
use Rattle.picture_layout.proofs.Hearing.{hears_none, hears_one, written_back}
use Rattle.picture_layout.proofs.fates.hear_step.Goals as goal

pub returns-in_default-clause-heard : goal.returns-in_default-clause-heard
returns-in_default-clause-heard c = λ es at all.
    hears_none es c.args.entry.now c.args.fates.now.items (sym c.heard_by.ensures ∙ c.in_default.is) all

pub returns-in-Some-clause-heard : goal.returns-in-Some-clause-heard
returns-in-Some-clause-heard c = λ es at all.
    let m = c.in-Some.number in
    let items = c.args.fates.now.items in
    let new = c.hear.new.fates in
    let same : c.as_mut_slice.result.now ≡ items = search rules in
    let sent = ap (λ ns. length ns) c.hear.ensures.sent in
    let many : length new ≡ length items =
    sym (length-map new (λ (f : Fate). f.sent)) ∙ sent
    ∙ length-map c.as_mut_slice.result.now (λ (f : Fate). f.sent)
    ∙ ap (λ (fs : List Fate). length fs) same in
    let len : length items ≡ c.args.fates.now.len = search rules in
    let whole : take c.args.fates.now.len (new ++ drop (length new) items) ≡ new =
    written_back new items c.args.fates.now.len (many ∙ len) in
    let stay : is_known (length items) m ≡ true → new ≡ set items (m - 1)
    (heard_at (length es) (get_or items (m - 1) no_fate)) =
    λ is. grind (arith, at, same, c.hear.ensures.known, is) in
    let other : is_known (length items) m ≡ false → new ≡ items =
    λ is. grind (arith, same, c.hear.ensures.other, is) in
    subst (λ fs. HeardFrom 1 (es ++ c.args.entry.now ∷ []) fs) (sym whole)
    (hears_one es c.args.entry.now m items new (sym c.heard_by.ensures ∙ c.in-Some.is) stay other all)
