use Rattle.std.proofs.Common.{rules, ◌≡◌, ◌∙◌, sym, subst, true, false, refl, []}
use Rattle.std.specs.Prelude.{MatchBool}
use Rattle.kv_locks.specs.Locks.{ReleasesLocks}
use Rattle.kv_store.specs.writes.Writes.{LeavesWrites, ListedAt}
use Rattle.xa_branch.specs.Branches.{BranchStandsAt}
use Rattle.kv_state.specs.Stores.{KeySight, is_let_go}
use Rattle.kv_state.specs.Ends.{IsTurn, TakesTurn}
use Rattle.kv_state.proofs.Tidy.{tidy_turned}
use Rattle.kv_state.proofs.Turning.{notes}
use Rattle.kv_state.proofs.store.KeyStore.finish.Goals as goal

pub note-requires : goal.note-requires
note-requires c =
    let s : KeySight = record {
      tables = c.self.inside.states;
      writes = c.self.inside.writes;
      locks = c.self.inside.locks;
      versions = c.self.inside.versions;
      decisions = c.self.inside.heuristics;
    } in
    let stands : BranchStandsAt s.tables.branches.branches c.args.xid.now c.args.place = search rules in
    let turned : IsTurn s c.args.xid.now c.requires.turn.0 c.args.turn =
    subst (λ v. IsTurn v c.args.xid.now c.requires.turn.0 c.args.turn) (sym c.self.view_is)
    c.requires.turn.1 in
    (notes s c.args.xid.now c.requires.turn.0 c.args.turn c.self.invariant turned).0

pub invariant_of-self : goal.invariant_of-self
invariant_of-self c =
    let s : KeySight = record {
      tables = c.self.inside.states;
      writes = c.self.inside.writes;
      locks = c.self.inside.locks;
      versions = c.self.inside.versions;
      decisions = c.self.inside.heuristics;
    } in
    let after : KeySight = record {
      tables = c.finish.new.self;
      writes = c.remove_at.new.self;
      locks = c.release.new.self;
      versions = c.self.inside.versions;
      decisions = c.note.new.heuristics;
    } in
    let stands : BranchStandsAt s.tables.branches.branches c.args.xid.now c.args.place = search rules in
    let turned : IsTurn s c.args.xid.now c.requires.turn.0 c.args.turn =
    subst (λ v. IsTurn v c.args.xid.now c.requires.turn.0 c.args.turn) (sym c.self.view_is)
    c.requires.turn.1 in
    let listed : ListedAt s.writes c.args.xid.now c.args.written = search rules in
    let gone : is_let_go c.args.turn.to ≡ true = sym c.is_let_go.ensures ∙ c.if-is_let_go.true in
    let takes : TakesTurn s after c.args.xid.now c.args.turn = record {
      tables = c.finish.ensures.taken c.args.xid.now stands;
      keeps = subst (λ b. MatchBool b (LeavesWrites s.writes after.writes c.args.xid.now []
          × ReleasesLocks s.locks
          after.locks c.args.xid.now) ((after.writes ≡ s.writes) × (after.locks ≡ s.locks)))
          (sym gone) (c.remove_at.ensures c.args.xid.now listed, c.release.ensures);
      versions = refl;
      decisions = c.note.ensures;
    } in
    tidy_turned s after c.args.xid.now c.args.turn c.self.invariant takes
    (notes s c.args.xid.now c.requires.turn.0 c.args.turn c.self.invariant turned).1

pub invariant_of-self-else-is_let_go : goal.invariant_of-self-else-is_let_go
invariant_of-self-else-is_let_go c =
    let s : KeySight = record {
      tables = c.self.inside.states;
      writes = c.self.inside.writes;
      locks = c.self.inside.locks;
      versions = c.self.inside.versions;
      decisions = c.self.inside.heuristics;
    } in
    let after : KeySight = record {
      tables = c.finish.new.self;
      writes = c.self.inside.writes;
      locks = c.self.inside.locks;
      versions = c.self.inside.versions;
      decisions = c.note.new.heuristics;
    } in
    let stands : BranchStandsAt s.tables.branches.branches c.args.xid.now c.args.place = search rules in
    let turned : IsTurn s c.args.xid.now c.requires.turn.0 c.args.turn =
    subst (λ v. IsTurn v c.args.xid.now c.requires.turn.0 c.args.turn) (sym c.self.view_is)
    c.requires.turn.1 in
    let goes_on : is_let_go c.args.turn.to ≡ false = sym c.is_let_go.ensures ∙ c.if-is_let_go.false in
    let takes : TakesTurn s after c.args.xid.now c.args.turn = record {
      tables = c.finish.ensures.taken c.args.xid.now stands;
      keeps = subst (λ b. MatchBool b (LeavesWrites s.writes after.writes c.args.xid.now []
          × ReleasesLocks s.locks
          after.locks c.args.xid.now) ((after.writes ≡ s.writes) × (after.locks ≡ s.locks)))
          (sym goes_on) (refl, refl);
      versions = refl;
      decisions = c.note.ensures;
    } in
    tidy_turned s after c.args.xid.now c.args.turn c.self.invariant takes
    (notes s c.args.xid.now c.requires.turn.0 c.args.turn c.self.invariant turned).1

pub returns-then-is_let_go : goal.returns-then-is_let_go
returns-then-is_let_go c =
    let s : KeySight = record {
      tables = c.self.inside.states;
      writes = c.self.inside.writes;
      locks = c.self.inside.locks;
      versions = c.self.inside.versions;
      decisions = c.self.inside.heuristics;
    } in
    let after : KeySight = record {
      tables = c.finish.new.self;
      writes = c.remove_at.new.self;
      locks = c.release.new.self;
      versions = c.self.inside.versions;
      decisions = c.note.new.heuristics;
    } in
    let stands : BranchStandsAt s.tables.branches.branches c.args.xid.now c.args.place = search rules in
    let listed : ListedAt s.writes c.args.xid.now c.args.written = search rules in
    let gone : is_let_go c.args.turn.to ≡ true = sym c.is_let_go.ensures ∙ c.if-is_let_go.true in
    subst (λ v. TakesTurn v after c.args.xid.now c.args.turn) c.self.view_is (record {
      tables = c.finish.ensures.taken c.args.xid.now stands;
      keeps = subst (λ b. MatchBool b (LeavesWrites s.writes after.writes c.args.xid.now []
          × ReleasesLocks s.locks
          after.locks c.args.xid.now) ((after.writes ≡ s.writes) × (after.locks ≡ s.locks)))
          (sym gone) (c.remove_at.ensures c.args.xid.now listed, c.release.ensures);
      versions = refl;
      decisions = c.note.ensures;
    })

pub returns-else-is_let_go : goal.returns-else-is_let_go
returns-else-is_let_go c =
    let s : KeySight = record {
      tables = c.self.inside.states;
      writes = c.self.inside.writes;
      locks = c.self.inside.locks;
      versions = c.self.inside.versions;
      decisions = c.self.inside.heuristics;
    } in
    let after : KeySight = record {
      tables = c.finish.new.self;
      writes = c.self.inside.writes;
      locks = c.self.inside.locks;
      versions = c.self.inside.versions;
      decisions = c.note.new.heuristics;
    } in
    let stands : BranchStandsAt s.tables.branches.branches c.args.xid.now c.args.place = search rules in
    let goes_on : is_let_go c.args.turn.to ≡ false = sym c.is_let_go.ensures ∙ c.if-is_let_go.false in
    subst (λ v. TakesTurn v after c.args.xid.now c.args.turn) c.self.view_is (record {
      tables = c.finish.ensures.taken c.args.xid.now stands;
      keeps = subst (λ b. MatchBool b (LeavesWrites s.writes after.writes c.args.xid.now []
          × ReleasesLocks s.locks
          after.locks c.args.xid.now) ((after.writes ≡ s.writes) × (after.locks ≡ s.locks)))
          (sym goes_on) (refl, refl);
      versions = refl;
      decisions = c.note.ensures;
    })
