use Rattle.std.proofs.Common.{◌∙◌}
use Rattle.model.specs.Frames.{framed}
use Rattle.frame.proofs.EachByte.{each_byte}
use Rattle.frame.proofs.message.frame_levels.Goals as goal

pub returns : goal.returns
returns c = (c.in_ok-check.ensures, c.in_ok-levels_of_frame.ensures ∙ each_byte (framed c.args.message.now))
