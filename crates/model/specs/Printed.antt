-- How programs print a request, a victim, an answer and a refusal.
-- Assumes nothing.
use Rattle.std.specs.Prelude.{ℕ, List, ◌++◌, Option, Some, None, codes}
use Rattle.std.specs.Fmt.{decimal}
use Rattle.model.specs.declared.Op.{Op}
use Rattle.model.specs.declared.Op.TheVariants.{Read, Write}
use Rattle.model.specs.declared.Victim.{Victim}
use Rattle.model.specs.declared.Victim.TheVariants.{Clean, Dirty}
use Rattle.model.specs.declared.Access.{Access}
use Rattle.model.specs.declared.Access.TheVariants.{Hit, Fault}
use Rattle.model.specs.declared.Refusal.{Refusal}
use Rattle.model.specs.Words.{number_of}

abbrev pub op_text : Op → List ℕ
op_text Read = codes "read"
op_text Write = codes "write"

abbrev pub victim_text : Victim → List ℕ
victim_text (Clean q) = codes "clean " ++ decimal q
victim_text (Dirty q) = codes "dirty " ++ decimal q

abbrev pub access_text : Access → List ℕ
access_text Hit = codes "hit"
access_text (Fault None) = codes "fault"
access_text (Fault (Some v)) = codes "fault " ++ victim_text v

-- the scope's number, whatever the refusal names besides
abbrev pub refusal_text : Refusal → List ℕ
refusal_text x = codes "refused " ++ decimal (number_of x)
