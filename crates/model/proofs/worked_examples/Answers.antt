use Rattle.model.proofs.WorkedExamples.{all_hold}
use Rattle.model.proofs.worked_examples.Goals as goal

pub returns : goal.returns
returns c = record { counted = c.count.ensures; hold = all_hold }
