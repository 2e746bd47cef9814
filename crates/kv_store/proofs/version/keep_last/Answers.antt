use Rattle.std.proofs.Common.{rules, ◌≡◌, ◌∙◌, ◌++◌, ◌∷◌, [], true, false, ap}
use Rattle.std.specs.Prelude.{is_none}
use Rattle.kv_store.specs.Versions.{has_any}
use Rattle.kv_store.proofs.Rebasing.{kept_none, kept_some}
use Rattle.kv_store.proofs.version.keep_last.Goals as goal

pub returns-then-is_none-clause-kept : goal.returns-then-is_none-clause-kept
returns-then-is_none-clause-kept c =
    let none : is_none c.in-Some.last.value ≡ true = search rules in
    c.clear.ensures.items
    ∙ kept_none c.args.versions.now.items c.pop.new.self.items c.in-Some.last c.in-Some.ensures.items none

pub returns-then-is_none-clause-stays : goal.returns-then-is_none-clause-stays
returns-then-is_none-clause-stays c =
    let none : is_none c.in-Some.last.value ≡ true = search rules in
    ap has_any (kept_none c.args.versions.now.items c.pop.new.self.items c.in-Some.last
    c.in-Some.ensures.items none)

pub returns-clause-kept : goal.returns-clause-kept
returns-clause-kept c =
    let some : is_none c.in-Some.last.value ≡ false = search rules in
    c.push_reserved.ensures.items ∙ ap (λ vs. vs ++ c.in-Some.last ∷ []) c.clear.ensures.items
    ∙ kept_some c.args.versions.now.items c.pop.new.self.items c.in-Some.last c.in-Some.ensures.items some

pub returns-clause-stays : goal.returns-clause-stays
returns-clause-stays c =
    let some : is_none c.in-Some.last.value ≡ false = search rules in
    ap has_any (kept_some c.args.versions.now.items c.pop.new.self.items c.in-Some.last
    c.in-Some.ensures.items some)
