use Rattle.std.proofs.Common.{rules, get_or}
use Rattle.model.specs.None.{no_partition}
use Rattle.model.specs.Columns.{column_of}
use Rattle.model.proofs.columns.memories.Goals as goal

pub returns : goal.returns
unfolding column_of
returns c = c.filled.ensures (λ i. (get_or c.args.s.now.partitions i no_partition).memory) (λ i x h p. search rules)
