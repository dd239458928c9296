use Rattle.class_walk.proofs.Cuttings.{some_cutting, cutting_some}
use Rattle.class_walk.proofs.laws.excluded_by_some_cutting.Goals as goal

pub returns : goal.returns
returns c = λ patterns path. (some_cutting patterns path, cutting_some patterns path)
