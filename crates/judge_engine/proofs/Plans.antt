-- Plans grow by a call.
use Rattle.std.proofs.Common.{◌≡◌, ◌∙◌, ℕ, ◌+◌, List, [], ◌∷◌, ◌++◌, length, refl, sym, ap, arith}
use Rattle.std.specs.List.{flat_map}
use Rattle.std.proofs.lemmas.Grind.{flat_map-append}
use Rattle.std.proofs.lemmas.List.{append-nil, length-append}
use Rattle.judge_rules.specs.declared.calls.JudgedCall.{JudgedCall}
use Rattle.judge_engine.specs.Plans.{IsPlan, OpensFirst, call_line}

pub plan_none : (seed : ℕ) → IsPlan seed 0 []
plan_none seed = record { calls = []; long = refl; opens = tt; lines = refl }

opens_more : (cs : List JudgedCall) (c : JudgedCall) → (length cs ≡ 0 → OpensFirst (c ∷ [])) → OpensFirst cs
    → OpensFirst (cs ++ c ∷ [])
opens_more [] c first h = first refl
opens_more (d ∷ cs) c first h = h

-- one more call, which opens the manager if it is the first
pub plan_more : (seed n : ℕ) (old new : List ℕ) (c : JudgedCall) → IsPlan seed n old
    → (n ≡ 0 → OpensFirst (c ∷ []))
    → new ≡ old ++ call_line seed c → IsPlan seed (n + 1) new
plan_more seed n old new c p first is = record {
  calls = p.calls ++ c ∷ [];
  long = omega (arith, length-append p.calls (c ∷ []), p.long);
  opens = opens_more p.calls c (λ none. first (sym p.long ∙ none)) p.opens;
  lines = is ∙ ap (λ (t : List ℕ). t ++ call_line seed c) p.lines
      ∙ ap (λ (t : List ℕ). flat_map (call_line seed) p.calls ++ t) (sym (append-nil (call_line seed c)))
      ∙ sym (flat_map-append (call_line seed) p.calls (c ∷ []));
}
