-- The partitions that a plan has on a module, as the code holds them: by their set, the times and the plan.
-- Assumes nothing.
use Rattle.std.specs.Prelude.{List}
use Rattle.table.specs.declared.records.Table.{Table}
use Rattle.frames.specs.Frame.{Part}
use Rattle.builder.specs.Parts.{parts_of}
use Rattle.builder.specs.Asked.{Ready}
use Rattle.builder.specs.declared.parts.Hosted.{Hosted}

abbrev pub parts : Hosted → List Part
parts h = parts_of h.times.now.periods h.times.now.budgets h.plan.now.starts h.set

-- a table with the head t has room for them
abbrev pub ReadyFor : Hosted → Table → Type 0
ReadyFor h t = Ready h.times.now.periods h.times.now.budgets h.plan.now.starts h.set t
