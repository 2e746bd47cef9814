use Rattle.std.proofs.Common.{◌≡◌, ℕ, Bor, List, subst, sym, [], ◌∷◌, ◌++◌}
use Rattle.script_words.proofs.Texts.{texts}
use Rattle.judge_script.specs.Numbers.{AreApartNames, IsPlace}
use Rattle.judge_script.proofs.Places.{apart_push}
use Rattle.judge_script.proofs.Spellings.{texts_push}
use Rattle.judge_script.proofs.names.number_word.Goals as goal

pub returns-in_ok-push-in-None-clause-more : goal.returns-in_ok-push-in-None-clause-more
returns-in_ok-push-in-None-clause-more c = (
  c.args.word.now ∷ [],
  texts_push c.args.words.now.items c.push.new.self.items c.args.word c.in_ok-push-in-None.ensures.items,
)

pub returns-in_ok-push-in-None-clause-apart : goal.returns-in_ok-push-in-None-clause-apart
returns-in_ok-push-in-None-clause-apart c h =
    let old = c.args.words.now.items in
    let new : texts c.push.new.self.items ≡ texts old ++ c.args.word.now ∷ [] =
    texts_push old c.push.new.self.items c.args.word c.in_ok-push-in-None.ensures.items in
    let none : (k : ℕ) → IsPlace (texts old) k c.args.word.now → ⊥ =
    subst (λ (q : List (Bor (List ℕ))). (k : ℕ) → IsPlace (texts q) k c.args.word.now → ⊥)
    c.deref.ensures.value c.in-None.ensures.none in
    subst (λ (q : List (List ℕ)). AreApartNames q) (sym new) (apart_push (texts old) c.args.word.now none h)
