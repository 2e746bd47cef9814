-- A case of the root is remembered exactly as before, or begins.
use Rattle.std.proofs.Common.{◌≡◌, ◌∙◌, ◌⊎◌, inl, inr, ℕ, Bool, true, false, None, [], ◌∷◌, ◌++◌, refl, sym, ap, subst, if◌then◌else◌}
use Rattle.protocol.specs.declared.names.Case.{Case}
use Rattle.protocol.specs.declared.names.ProcessId.{ProcessId}
use Rattle.protocol.specs.declared.names.Presumption.{Presumption}
use Rattle.protocol.specs.declared.standings.Vote.{Vote}
use Rattle.protocol_words.specs.Variants.{ActInput, VoteNo, VoteRead, VoteYes}
use Rattle.protocol.specs.declared.events.Act.TheVariants.{Begin}
use Rattle.protocol.specs.declared.events.Input.{Input}
use Rattle.protocol.specs.Names.{same_case, root_case}
use Rattle.protocol.specs.NameLaws.{same_case-refl}
use Rattle.protocol.specs.Records.{none_of}
use Rattle.protocol.specs.Memory.{Memory, Phase, Idle, Open, Asked, Over, root_remembers, next_txn, all_voted, phase_after}
use Rattle.proof_pairs.specs.readings.ReadingOf.{is_begun}
use Rattle.proof_processes.proofs.Remembering.{OpensMemory, by_begin, by_join, MovesMemory, keeps, asks, closes, takes, counts, opens, moves}

module _ (me : ProcessId) (boot : ℕ) (c : Case) (m : Memory) where
  -- the case is of the transaction that begins
  abbrev pub IsNext : Input → Type 0
  IsNext i = (p : Presumption) × ((i ≡ ActInput (Begin p)) × (root_case (next_txn me boot m p) ≡ c))

  opens_next : (i : Input) → OpensMemory None me boot c m i → IsNext i
  opens_next _ (by_begin p top e) = (p, (refl, e))
  opens_next _ (by_join p j d below none e) = absurd (cc)

  awake : (ph : Phase) → (ph ≡ Idle → ⊥) → is_begun ph ≡ true
  awake Idle e = absurd (e refl)
  awake Open e = refl
  awake Asked e = refl
  awake Over e = refl

  both_awake : (x y z : Phase) → x ≡ y → is_begun y ≡ true → is_begun z ≡ true → is_begun x ≡ is_begun z
  both_awake x y z e f g = ap is_begun e ∙ (f ∙ sym g)

  votes_or_over : (b : Bool) → is_begun (if b then Over else Asked) ≡ true
  votes_or_over true = refl
  votes_or_over false = refl

  vote_begun : (w : Vote) (b : Bool) → is_begun (phase_after w b) ≡ true
  vote_begun VoteNo b = refl
  vote_begun VoteYes true = refl
  vote_begun VoteYes false = refl
  vote_begun VoteRead true = refl
  vote_begun VoteRead false = refl

  by_move : (i : Input) (k : Memory) → MovesMemory None me boot c m i k
      → (is_begun k.phase ≡ is_begun m.phase)
      ⊎ IsNext i
  by_move i k (keeps v p l) = inl (ap is_begun p)
  by_move i k (asks a o p l) =
      inl (both_awake k.phase _ m.phase p (votes_or_over (none_of m.accepted)) (ap is_begun o))
  by_move i k (closes a o p l) = inl (both_awake k.phase Over m.phase p refl (awake m.phase o))
  by_move i k (takes j u x o b p a v) = inl (both_awake k.phase Open m.phase p refl (ap is_begun o))
  by_move i k (counts u w x p a v) =
      inl (both_awake k.phase _ m.phase p (vote_begun w (all_voted m.accepted (m.votes ++ (u, w) ∷ [])))
      (ap is_begun x.asked))
  by_move i k (opens o p a v) = inr (opens_next i o)

  pub awake_by : (i : Input)
      → (is_begun (root_remembers me boot c m i).phase ≡ is_begun m.phase) ⊎ IsNext i
  awake_by i = by_move i (root_remembers me boot c m i) (moves None me boot c m i)

  -- a case that begins is begun then
  pub begins_open : (i : Input) → IsNext i → is_begun (root_remembers me boot c m i).phase ≡ true
  begins_open i x =
      subst (λ (j : Input). is_begun (root_remembers me boot c m j).phase ≡ true) (sym x.1.0)
      (rw (subst (λ (d : Case). same_case (root_case (next_txn me boot m x.0)) d ≡ true) x.1.1
      (same_case-refl (root_case (next_txn me boot m x.0)))) refl)
