-- What is searched, as the code hands it on, as a frame.
-- Assumes nothing.
use Rattle.frame.specs.Jobs.{Frame}
use Rattle.verdict.specs.FrameOf.{frame_with}
use Rattle.verdict.specs.Inner.{edge_at}
use Rattle.verdict.specs.declared.faults.Search.{Search}

abbrev pub frame_in : Search → Frame
frame_in a = frame_with a.jobs.list.now a.jobs.count a.slots a.lo.now a.hi.now (edge_at a.jobs.before.now)
