use Rattle.std.proofs.Common.{◌≡◌, ℕ, ◌+◌, ◌<◌, ◌≤◌, ◌++◌, ◌∷◌, [], List, ap, arith, length, get_or, refl, subst, sym, take, ◌∙◌}
use Rattle.std.proofs.lemmas.List.{length-take, take_all, take_more}
use Rattle.script_words.proofs.Texts.{long, text_at, texts}
use Rattle.judge_script.specs.Words.{is_blank}
use Rattle.judge_script.specs.Transcripts.{AreTranscript, IsNoLine}
use Rattle.judge_script.proofs.Growing.{passes}
use Rattle.judge_script.proofs.reading.transcript_in.Goals as goal

pub loop-i-preserved-then-is_blank : goal.loop-i-preserved-then-is_blank
loop-i-preserved-then-is_blank c =
    let ls = texts c.args.lines.now in
    let i = c.loop-i.i in
    let within : i < length ls = omega (arith, long c.args.lines.now) in
    subst (λ (q : List (List ℕ)). AreTranscript q c.loop-i.transcript) (sym (take_more ls i [] within))
    (passes (take i ls) (get_or ls i []) c.loop-i.transcript
    (ap is_blank (text_at c.args.lines.now i) ∙ sym c.if-is_blank.ensures) c.loop-i.invariant)

pub loop-i-preserved : goal.loop-i-preserved
loop-i-preserved c =
    let ls = texts c.args.lines.now in
    let i = c.loop-i.i in
    let within : i < length ls = omega (arith, long c.args.lines.now) in
    let number : i + 1 ≡ length (take i ls) + 1 = omega (arith, length-take i ls) in
    subst (λ (q : List (List ℕ)). AreTranscript q c.add.new.self)
    (ap (λ (l : List ℕ). take i ls ++ l ∷ []) (sym (text_at c.args.lines.now i))
    ∙ sym (take_more ls i [] within))
    (c.in_ok-add.ensures.added c.if-not-branch.false (take i ls) (sym c.if-is_blank.ensures) number
    c.loop-i.invariant)

pub returns-then-not-branch : goal.returns-then-not-branch
returns-then-not-branch c =
    let ls = texts c.args.lines.now in
    let i = c.loop-i.i in
    record {
      index = i;
      counted = refl;
      within = omega (arith, long c.args.lines.now);
      kept = ap is_blank (text_at c.args.lines.now i) ∙ sym c.if-is_blank.ensures;
      front = c.loop-i.transcript;
      before = c.loop-i.invariant;
      bad = subst (λ (l : List ℕ). IsNoLine c.loop-i.transcript l) (sym (text_at c.args.lines.now i))
          (c.in_ok-add.ensures.bad c.if-not-branch.true);
    }

pub returns : goal.returns
returns c =
    let ls = texts c.args.lines.now in
    let past : length ls ≤ c.loop-i.i = omega (arith, long c.args.lines.now, c.loop-i-test.false) in
    subst (λ (q : List (List ℕ)). AreTranscript q c.loop-i.transcript) (take_all c.loop-i.i ls past)
    c.loop-i.invariant
