use Rattle.std.proofs.Common.{sym}
use Rattle.std.specs.Prelude.{codes}
use Rattle.std.specs.Cmp.Lexicographic.{same_text}
use Rattle.xa_words.specs.code
use Rattle.judge_script.proofs.answers.code_of.Goals as goal

pub returns-in_default-clause-none : goal.returns-in_default-clause-none
returns-in_default-clause-none c code.RbRollback is =
    c.in_default.not-XA_RBROLLBACK (same_text c.args.word.now (codes "XA_RBROLLBACK") (sym is))
returns-in_default-clause-none c code.RbCommFail is =
    c.in_default.not-XA_RBCOMMFAIL (same_text c.args.word.now (codes "XA_RBCOMMFAIL") (sym is))
returns-in_default-clause-none c code.RbDeadlock is =
    c.in_default.not-XA_RBDEADLOCK (same_text c.args.word.now (codes "XA_RBDEADLOCK") (sym is))
returns-in_default-clause-none c code.RbIntegrity is =
    c.in_default.not-XA_RBINTEGRITY (same_text c.args.word.now (codes "XA_RBINTEGRITY") (sym is))
returns-in_default-clause-none c code.RbOther is =
    c.in_default.not-XA_RBOTHER (same_text c.args.word.now (codes "XA_RBOTHER") (sym is))
returns-in_default-clause-none c code.RbProto is =
    c.in_default.not-XA_RBPROTO (same_text c.args.word.now (codes "XA_RBPROTO") (sym is))
returns-in_default-clause-none c code.RbTimeout is =
    c.in_default.not-XA_RBTIMEOUT (same_text c.args.word.now (codes "XA_RBTIMEOUT") (sym is))
returns-in_default-clause-none c code.RbTransient is =
    c.in_default.not-XA_RBTRANSIENT (same_text c.args.word.now (codes "XA_RBTRANSIENT") (sym is))
returns-in_default-clause-none c code.NoMigrate is =
    c.in_default.not-XA_NOMIGRATE (same_text c.args.word.now (codes "XA_NOMIGRATE") (sym is))
returns-in_default-clause-none c code.HeurHaz is =
    c.in_default.not-XA_HEURHAZ (same_text c.args.word.now (codes "XA_HEURHAZ") (sym is))
returns-in_default-clause-none c code.HeurCom is =
    c.in_default.not-XA_HEURCOM (same_text c.args.word.now (codes "XA_HEURCOM") (sym is))
returns-in_default-clause-none c code.HeurRb is =
    c.in_default.not-XA_HEURRB (same_text c.args.word.now (codes "XA_HEURRB") (sym is))
returns-in_default-clause-none c code.HeurMix is =
    c.in_default.not-XA_HEURMIX (same_text c.args.word.now (codes "XA_HEURMIX") (sym is))
returns-in_default-clause-none c code.Retry is = c.in_default.not-XA_RETRY
    (same_text c.args.word.now (codes "XA_RETRY") (sym is))
returns-in_default-clause-none c code.RdOnly is =
    c.in_default.not-XA_RDONLY (same_text c.args.word.now (codes "XA_RDONLY") (sym is))
returns-in_default-clause-none c code.Ok is = c.in_default.not-XA_OK
    (same_text c.args.word.now (codes "XA_OK") (sym is))
returns-in_default-clause-none c code.Async is = c.in_default.not-XAER_ASYNC
    (same_text c.args.word.now (codes "XAER_ASYNC") (sym is))
returns-in_default-clause-none c code.RmErr is = c.in_default.not-XAER_RMERR
    (same_text c.args.word.now (codes "XAER_RMERR") (sym is))
returns-in_default-clause-none c code.NotA is = c.in_default.not-XAER_NOTA
    (same_text c.args.word.now (codes "XAER_NOTA") (sym is))
returns-in_default-clause-none c code.Inval is = c.in_default.not-XAER_INVAL
    (same_text c.args.word.now (codes "XAER_INVAL") (sym is))
returns-in_default-clause-none c code.Proto is = c.in_default.not-XAER_PROTO
    (same_text c.args.word.now (codes "XAER_PROTO") (sym is))
returns-in_default-clause-none c code.RmFail is =
    c.in_default.not-XAER_RMFAIL (same_text c.args.word.now (codes "XAER_RMFAIL") (sym is))
returns-in_default-clause-none c code.DupId is = c.in_default.not-XAER_DUPID
    (same_text c.args.word.now (codes "XAER_DUPID") (sym is))
returns-in_default-clause-none c code.Outside is =
    c.in_default.not-XAER_OUTSIDE (same_text c.args.word.now (codes "XAER_OUTSIDE") (sym is))
