-- Answers that are one, and turns that ask the same.
use Rattle.std.specs.Prelude.{◌≡◌, List, [], ◌∷◌}
use Rattle.pl_alone.specs.Desk.{Parts, past}
use Rattle.pl_sessions.specs.Acts.{Turn}
use Rattle.pl_sessions.specs.declared.answer.Answer.{Answer}
use Rattle.pl_sessions.specs.declared.answer.Answer.TheVariants.{Reply}

-- two replies of a desk, and what its service has been through then; a keeper may fail, and memory
-- may be wanting
abbrev pub AreOne : Answer → Parts → Answer → Parts → Type 0
AreOne (Reply left) one (Reply right) other = (left ≡ right) × (past one ≡ past other)
AreOne left one right other = Unit {0}

-- the same messages at the same moments
abbrev pub AreAsked : List Turn → List Turn → Type 0
AreAsked [] [] = Unit {0}
AreAsked [] (turn ∷ turns) = ⊥
AreAsked (turn ∷ turns) [] = ⊥
AreAsked (turn ∷ turns) (other ∷ others) = (turn.moment ≡ other.moment)
    × (turn.message ≡ other.message) × AreAsked turns others

abbrev pub IsReply : Answer → Type 0
IsReply (Reply reply) = Unit {0}
IsReply other = ⊥

-- for none the keeper failed or memory was wanting
abbrev pub AreReplied : List Turn → Type 0
AreReplied [] = Unit {0}
AreReplied (turn ∷ turns) = IsReply turn.answer × AreReplied turns
