-- The answers of a resource manager: their numbers and names (C193, `xa.h`).
use Rattle.std.specs.Prelude.{ℕ, ℤ, pos, negsuc, List, codes, Bool, true, false}
use Rattle.xa_codes.specs.declared.code.Code.{Code}
use Rattle.xa_codes.specs.declared.code.Code.TheVariants.{RbRollback, RbCommFail, RbDeadlock, RbIntegrity, RbOther, RbProto, RbTimeout, RbTransient, NoMigrate, HeurHaz, HeurCom, HeurRb, HeurMix, Retry, RdOnly, Ok, Async, RmErr, NotA, Inval, Proto, RmFail, DupId, Outside}

-- the number of an answer
abbrev pub code_number : Code → ℤ
code_number RbRollback = pos 100
code_number RbCommFail = pos 101
code_number RbDeadlock = pos 102
code_number RbIntegrity = pos 103
code_number RbOther = pos 104
code_number RbProto = pos 105
code_number RbTimeout = pos 106
code_number RbTransient = pos 107
code_number NoMigrate = pos 9
code_number HeurHaz = pos 8
code_number HeurCom = pos 7
code_number HeurRb = pos 6
code_number HeurMix = pos 5
code_number Retry = pos 4
code_number RdOnly = pos 3
code_number Ok = pos 0
code_number Async = negsuc 1
code_number RmErr = negsuc 2
code_number NotA = negsuc 3
code_number Inval = negsuc 4
code_number Proto = negsuc 5
code_number RmFail = negsuc 6
code_number DupId = negsuc 7
code_number Outside = negsuc 8

-- the name of an answer
abbrev pub code_name : Code → List ℕ
code_name RbRollback = codes "XA_RBROLLBACK"
code_name RbCommFail = codes "XA_RBCOMMFAIL"
code_name RbDeadlock = codes "XA_RBDEADLOCK"
code_name RbIntegrity = codes "XA_RBINTEGRITY"
code_name RbOther = codes "XA_RBOTHER"
code_name RbProto = codes "XA_RBPROTO"
code_name RbTimeout = codes "XA_RBTIMEOUT"
code_name RbTransient = codes "XA_RBTRANSIENT"
code_name NoMigrate = codes "XA_NOMIGRATE"
code_name HeurHaz = codes "XA_HEURHAZ"
code_name HeurCom = codes "XA_HEURCOM"
code_name HeurRb = codes "XA_HEURRB"
code_name HeurMix = codes "XA_HEURMIX"
code_name Retry = codes "XA_RETRY"
code_name RdOnly = codes "XA_RDONLY"
code_name Ok = codes "XA_OK"
code_name Async = codes "XAER_ASYNC"
code_name RmErr = codes "XAER_RMERR"
code_name NotA = codes "XAER_NOTA"
code_name Inval = codes "XAER_INVAL"
code_name Proto = codes "XAER_PROTO"
code_name RmFail = codes "XAER_RMFAIL"
code_name DupId = codes "XAER_DUPID"
code_name Outside = codes "XAER_OUTSIDE"

-- an answer that a manager gives whatever its tables say: its device failed, or a limit of its own is met
abbrev pub is_own : Code → Bool
is_own RmFail = true
is_own RmErr = true
is_own _ = false
