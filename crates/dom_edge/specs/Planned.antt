-- The calls that a folder or a sink in memory is to fail, by their numbers from 1 on.
use Rattle.std.specs.Prelude.{ℕ, List}
use Rattle.dom_edge.specs.declared.mem_folder.MemFolder.{MemFolder}
use Rattle.dom_edge.specs.declared.mem_sink.MemSink.{MemSink}

-- the reads that are to fail
abbrev pub failing_reads : MemFolder → List ℕ
failing_reads folder = folder.reads.failing.items

-- the writes that are to fail
abbrev pub failing_writes : MemSink → List ℕ
failing_writes sink = sink.writes.failing.items
