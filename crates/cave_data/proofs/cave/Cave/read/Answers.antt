use Rattle.cave_data.proofs.ReadLemmas.{read_decides, right_exactly, read_laws}
use Rattle.cave_data.proofs.LineCauses.{tells_lowest}
use Rattle.cave_data.proofs.FaultyLines.{fault_is_first}
use Rattle.cave_data.proofs.cave.Cave.read.Goals as goal

pub returns-clause-lowest : goal.returns-clause-lowest
returns-clause-lowest c = tells_lowest

pub returns-clause-first : goal.returns-clause-first
returns-clause-first c = fault_is_first _

pub returns-clause-right : goal.returns-clause-right
returns-clause-right c = right_exactly _ _

pub returns-clause-laws : goal.returns-clause-laws
returns-clause-laws c = read_laws _ _ _ c.read_cave.ensures.found

pub returns-clause-only : goal.returns-clause-only
returns-clause-only c =
    λ cave reads. read_decides _ _ _ cave c.read_cave.ensures.found c.read_cave.ensures.fault reads
