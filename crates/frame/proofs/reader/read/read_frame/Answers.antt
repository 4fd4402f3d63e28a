use Rattle.model.proofs.Codec.{codec}
use Rattle.model.proofs.Disturbance.{never_another}
use Rattle.frame.proofs.reader.read.read_frame.Goals as goal

pub returns : goal.returns
returns c = record { reads = c.read.ensures; codec = codec; disturbed = never_another }
