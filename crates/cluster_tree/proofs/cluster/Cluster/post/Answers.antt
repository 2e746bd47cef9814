use Rattle.std.proofs.Common.{subst}
use Rattle.cluster_process.specs.Passes.{PassState}
use Rattle.cluster_process.specs.Posts.{PostsOne}
use Rattle.cluster_tree.specs.Refusals.{IsRefusedPost}
use Rattle.cluster_tree.proofs.Posting.{acts_of}
use Rattle.cluster_tree.proofs.Refused.{answered_so, not_there}
use Rattle.cluster_tree.proofs.cluster.Cluster.post.Goals as goal

pub post_at-requires : goal.post_at-requires
post_at-requires g c = acts_of _ _ _ c.in_ok-process.ensures.ok

pub returns-clause-ok : goal.returns-clause-ok
returns-clause-ok g c =
    let tree = g.N.Seats.tree in
    let q = c.in_ok-process.process in
    let p = c.in_ok-posted.posted in
    record {
      process = q;
      place = p.place;
      number_is = c.number_of.ensures;
      is_of = c.in_ok-process.ensures.ok;
      posts = subst (λ (old : PassState). PostsOne tree q c.args.event old c.post_at.new.pass p.place p.begun)
          c.in_ok-process.ensures.same c.in_ok-posted.ensures.ok;
    }

pub returns-in_err-process-clause-refused : goal.returns-in_err-process-clause-refused
returns-in_err-process-clause-refused g c =
    answered_so (IsRefusedPost g.N.Seats.tree c.args.event c.args.pass.now) c.in_err-process.field-0.0
    c.from_residual.result c.from_residual.ensures.1 c.in_err-process.ensures.err

pub returns-in_err-posted-clause-refused : goal.returns-in_err-posted-clause-refused
returns-in_err-posted-clause-refused g c =
    let tree = g.N.Seats.tree in
    let e = c.in_err-posted.field-0.0 in
    answered_so (IsRefusedPost tree c.args.event c.args.pass.now) e c.from_residual-in_err-posted.result
    c.from_residual-in_err-posted.ensures.1
    (not_there tree c.args.event c.in_ok-process.process c.args.pass.now c.process_by.new.pass e
    c.in_ok-process.ensures.same c.in_ok-process.ensures.addressed c.in_err-posted.ensures.refused)
