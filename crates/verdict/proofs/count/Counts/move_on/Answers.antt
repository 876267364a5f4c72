-- The entry's job has one more, and what is no job changes nothing.
-- Assumes nothing.
use Rattle.std.proofs.Common.{arith}
use Rattle.verdict.proofs.Entries.{entries_in_most}
use Rattle.verdict.proofs.Running.{running_here, running_other}
use Rattle.verdict.proofs.count.Counts.move_on.Goals as goal

pub overflow_add-self-then-job-lt-MOST_JOBS : goal.overflow_add-self-then-job-lt-MOST_JOBS
overflow_add-self-then-job-lt-MOST_JOBS c =
    let a = c.args.self.now in
    let j = c.entry_at-job.result in
    omega (arith, a.running.each j (omega arith), entries_in_most a.table.now j a.slot)

pub invariant_of-self : goal.invariant_of-self
invariant_of-self c =
    let a = c.args.self.now in
    let e = c.entry_at-job in
    record { running = running_here _ a.table.now a.of_job a.slot a.running (omega arith) e.result e.ensures.0 (omega arith) }

pub invariant_of-self-else-job-lt-MOST_JOBS : goal.invariant_of-self-else-job-lt-MOST_JOBS
invariant_of-self-else-job-lt-MOST_JOBS c =
    let a = c.args.self.now in
    record { running = running_other _ a.table.now a.of_job a.slot a.running (omega (arith, c.entry_at-job.ensures.0)) }
